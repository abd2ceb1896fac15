use Rattle.std.proofs.Common.{refl, sym, ap, ◌∙◌}
use Rattle.std.proofs.lemmas.Bool.{false≢true}
use Rattle.dcc_crun.specs.Stepped.{texts}
use Rattle.dcc_crun.proofs.RunLaws.{texts_execute}
use Rattle.dcc_map.specs.Compared.{line_of}
use Rattle.dcc_map.specs.Side.{text_side}
use Rattle.dcc_map.proofs.PendingLaws.{none_pending}
use Rattle.dcc_map.proofs.SideLaws.{leaves_first}
use Rattle.dcc_map.proofs.text_side.TextSide.next.Goals as goal

pub steps-init : goal.steps-init
steps-init c = record { comes = λ tree coming end before. before; unwritten = λ none. ap (λ s. s.taken) c.new-out.ensures }

pub steps-preserved : goal.steps-preserved
steps-preserved c = record {
  comes = λ tree coming end before. c.in_ok-step.ensures.comes tree coming end (c.steps.invariant.comes tree coming end before);
  unwritten = c.in_ok-step.ensures.unwritten;
}

pub steps-smaller : goal.steps-smaller
steps-smaller c = c.in_ok-step.ensures.steps

pub step-requires-clause-may : goal.step-requires-clause-may
step-requires-clause-may c = c.is_silent.ensures.0 c.steps-test.true

pub step-requires-clause-unwritten : goal.step-requires-clause-unwritten
step-requires-clause-unwritten c =
    c.steps.invariant.unwritten (none_pending c.steps.self.line c.steps.self.pending.items (c.is_silent.ensures.0 c.steps-test.true).0)

pub returns : goal.returns
returns c tree coming end before =
    leaves_first texts texts_execute line_of tree (text_side c.steps.self) c.steps.self.pending.items c.pop_front.new.self.items
    c.steps.self.line coming end c.pop_front.result refl c.pop_front.ensures.items c.pop_front.ensures.rest
    (λ may. false≢true (sym c.steps-test.false ∙ c.is_silent.ensures.1 may))
    (c.steps.invariant.comes tree coming end before)
