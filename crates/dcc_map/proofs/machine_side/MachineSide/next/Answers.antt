use Rattle.std.proofs.Common.{refl, sym, ap, ◌∙◌}
use Rattle.std.proofs.lemmas.Bool.{false≢true}
use Rattle.dcc_step.specs.Stepped.{machine}
use Rattle.dcc_step.proofs.Laws.{machine_executes}
use Rattle.dcc_map.specs.Compared.{address_of}
use Rattle.dcc_map.specs.Side.{machine_side}
use Rattle.dcc_map.proofs.PendingLaws.{none_pending}
use Rattle.dcc_map.proofs.SideLaws.{leaves_first}
use Rattle.dcc_map.proofs.machine_side.MachineSide.next.Goals as goal

pub steps-init : goal.steps-init
steps-init c = record { comes = λ cpu coming end before. before; unwritten = λ none. ap (λ s. s.taken) c.new-out.ensures }

pub steps-preserved : goal.steps-preserved
steps-preserved c = record {
  comes = λ cpu coming end before. c.in_ok-step.ensures.comes cpu coming end (c.steps.invariant.comes cpu coming end before);
  unwritten = c.in_ok-step.ensures.unwritten;
}

pub steps-smaller : goal.steps-smaller
steps-smaller c = c.in_ok-step.ensures.steps

pub step-requires-clause-may : goal.step-requires-clause-may
step-requires-clause-may c = c.is_silent.ensures.0 c.steps-test.true

pub step-requires-clause-unwritten : goal.step-requires-clause-unwritten
step-requires-clause-unwritten c =
    c.steps.invariant.unwritten (none_pending c.steps.self.at c.steps.self.pending.items (c.is_silent.ensures.0 c.steps-test.true).0)

pub returns : goal.returns
returns c cpu coming end before =
    leaves_first machine machine_executes address_of cpu (machine_side c.steps.self) c.steps.self.pending.items c.pop_front.new.self.items
    c.steps.self.at coming end c.pop_front.result refl c.pop_front.ensures.items c.pop_front.ensures.rest
    (λ may. false≢true (sym c.steps-test.false ∙ c.is_silent.ensures.1 may))
    (c.steps.invariant.comes cpu coming end before)
