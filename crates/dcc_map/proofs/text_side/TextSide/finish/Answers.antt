use Rattle.std.proofs.Common.{sym, ap, ◌∙◌, map}
use Rattle.std.proofs.lemmas.Bool.{false≢true}
use Rattle.dcc_crun.specs.Stepped.{texts}
use Rattle.dcc_crun.proofs.RunLaws.{texts_execute}
use Rattle.dcc_map.specs.Compared.{line_of}
use Rattle.dcc_map.specs.Placed.{placed_at}
use Rattle.dcc_map.specs.Side.{text_side, event_of}
use Rattle.dcc_map.proofs.SideLaws.{coming_emptied, coming_none}
use Rattle.dcc_map.proofs.text_side.TextSide.finish.Goals as goal

pub steps-init : goal.steps-init
steps-init c = record { none = c.clear.ensures.items; comes = λ tree coming end before. (coming, before) }

pub steps-preserved : goal.steps-preserved
steps-preserved c = record {
  none = c.clear-in-steps.ensures.items;
  comes = λ tree coming end before.
      let made = c.steps.invariant.comes tree coming end before in
      coming_emptied texts texts_execute line_of tree (text_side c.step.new.self)
      (placed_at c.step.new.self.line (map event_of c.clear-in-steps.new.self.items)) made.0 end
      (ap (λ items. placed_at c.step.new.self.line (map event_of items)) c.clear-in-steps.ensures.items)
      (c.in_ok-step.ensures.comes tree made.0 end made.1);
}

pub returns : goal.returns
returns c tree coming end before =
    let emptied =
    coming_emptied texts texts_execute line_of tree (text_side c.args.self.now)
    (placed_at c.args.self.now.line (map event_of c.clear.new.self.items)) coming end
    (ap (λ items. placed_at c.args.self.now.line (map event_of items)) c.clear.ensures.items) before in
    let made = c.steps.invariant.comes tree emptied.0 end emptied.1 in
    (coming_none texts texts_execute line_of tree (text_side c.steps.self) made.0 end made.1
    (ap (λ items. placed_at c.steps.self.line (map event_of items)) c.steps.invariant.none)
    (λ may. false≢true (sym c.steps-test.false ∙ c.is_silent.ensures.1 may))).1
