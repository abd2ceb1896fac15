use Rattle.std.proofs.Common.{map, sym, ap, ◌∙◌}
use Rattle.std.specs.List.{list_all}
use Rattle.std.proofs.lemmas.Bool.{leb-true}
use Rattle.dcc_c.specs.Stripped.{plain_global}
use Rattle.dcc_c.specs.Views as tree
use Rattle.dcc_c.proofs.refusals.ExprRules.{and-both}
use Rattle.dcc_reader.specs.PartialViews as partial
use Rattle.dcc_parse.specs.Stripping.{is_in_memory}
use Rattle.dcc_parse.proofs.Moved.{moved-step, moved-end}
use Rattle.dcc_parse.proofs.strip_text.strip_globals.Goals as goal

pub loop-v-preserved : goal.loop-v-preserved
loop-v-preserved c inside =
    let before = c.loop-v.invariant inside in
    let steps = c.in-Some.ensures.steps in
    let v = partial.variable_of c.in-Some.v in
    let both = and-both (is_in_memory v) _ (sym (ap (λ l. list_all is_in_memory (map partial.variable_of l)) steps.0) ∙ before.0) in (
      both.1,
      moved-step tree.global_of plain_global partial.variable_of c.loop-v.found.items _ c.in-Some.v steps.0 steps.1 c.in_ok-push.ensures.items
          (c.in_ok-strip_global.ensures (leb-true v.address 65536 both.0)) before.1,
    )

pub returns : goal.returns
returns c inside =
    moved-end tree.global_of plain_global partial.variable_of c.loop-v.found.items c.in-None.ensures.steps.0 (c.loop-v.invariant inside).1
