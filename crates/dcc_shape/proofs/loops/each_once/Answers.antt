use Rattle.std.proofs.Common.{ℕ, Bool, sym, ap, ◌∙◌}
use Rattle.std.specs.Prelude.{◌==◌}
use Rattle.std.specs.List.{list_all}
use Rattle.std.proofs.lemmas.List.{take_all}
use Rattle.std.proofs.lemmas.List.Folds.{list_all_at}
use Rattle.std.proofs.lemmas.Bool.{and_from}
use Rattle.std.proofs.lemmas.List.Folds.{list_all_more}
use Rattle.std.specs.Prelude.{get_or, take}
use Rattle.dcc_shape.proofs.loops.each_once.Goals as goal

pub loop-number-preserved : goal.loop-number-preserved
loop-number-preserved c = λ counts is.
    let test : ℕ → Bool = λ at. counts at == 1 in
    let numbers = c.args.numbers.now in
    let i = c.loop-number.number-index in
    list_all_more test numbers i 0 c.loop-number-test.true
    ∙ and_from (list_all test (take i numbers)) (test (get_or numbers i 0)) (c.loop-number.invariant counts is) (sym (c.came_once.ensures counts is) ∙ c.if-not-came_once.false)

pub returns-then-not-came_once : goal.returns-then-not-came_once
returns-then-not-came_once c = λ counts is.
    sym (list_all_at (λ at. counts at == 1) c.args.numbers.now c.loop-number.number-index 0 c.loop-number-test.true
    (sym (c.came_once.ensures counts is) ∙ c.if-not-came_once.true))

pub returns : goal.returns
returns c = λ counts is.
    sym (ap (list_all (λ at. counts at == 1)) (sym (take_all c.loop-number.number-index c.args.numbers.now c.loop-number-test.false)) ∙ c.loop-number.invariant counts is)
