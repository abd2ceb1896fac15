use Rattle.std.proofs.Common.{Bool, sym, ap, ◌∙◌}
use Rattle.std.specs.List.{list_all}
use Rattle.std.proofs.lemmas.List.{take_all}
use Rattle.std.proofs.lemmas.List.Folds.{list_all_at}
use Rattle.dcc_c.specs.Tree.{Word}
use Rattle.dcc_c.specs.Views.{stmt_of}
use Rattle.dcc_shape.specs.declared.seen.Seen.{Seen as SeenOf}
use Rattle.dcc_shape.specs.Spots.{goal_passes}
use Rattle.dcc_shape.proofs.LoopLaws.{all-more}
use Rattle.dcc_shape.proofs.jumps.all_go_to_named.Goals as goal

-- the statement passes
abbrev passes : (Word → Bool) → SeenOf → Bool
passes test s = goal_passes test (stmt_of s.stmt.now)

pub loop-seen-preserved : goal.loop-seen-preserved
loop-seen-preserved c = λ test named.
    all-more (passes test) c.args.list.now c.loop-seen.seen-index c.seen-item.result c.loop-seen-test.true c.seen-item.is
    (c.loop-seen.invariant test named) (sym (c.goes_to_named.ensures test named) ∙ c.if-not-goes_to_named.false)

pub returns-then-not-goes_to_named : goal.returns-then-not-goes_to_named
returns-then-not-goes_to_named c = λ test named.
    sym (list_all_at (passes test) c.args.list.now c.loop-seen.seen-index c.seen-item.result c.loop-seen-test.true
    (ap (passes test) (sym c.seen-item.is) ∙ sym (c.goes_to_named.ensures test named) ∙ c.if-not-goes_to_named.true))

pub returns : goal.returns
returns c = λ test named.
    sym (ap (list_all (passes test)) (sym (take_all c.loop-seen.seen-index c.args.list.now c.loop-seen-test.false)) ∙ c.loop-seen.invariant test named)
