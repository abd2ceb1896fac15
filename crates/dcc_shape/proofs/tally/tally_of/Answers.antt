use Rattle.std.proofs.Common.{get_or, sym}
use Rattle.std.specs.Prelude.{◌==◌}
use Rattle.std.proofs.lemmas.List.{get_or_default}
use Rattle.dcc_shape.proofs.KnownLaws.{tally-same}
use Rattle.dcc_shape.proofs.LoopLaws.{count-more}
use Rattle.dcc_shape.proofs.tally.tally_of.Goals as goal

pub loop-number-preserved : goal.loop-number-preserved
loop-number-preserved c =
    let numbers = c.args.numbers.now in
    let i = c.loop-number.number-index in
    tally-same c.add.new.tally _ _ (λ n. sym (count-more (λ m. m == n) numbers i (get_or numbers i 0) c.loop-number-test.true (sym (get_or_default numbers i (get_or numbers i 0) 0 c.loop-number-test.true))))
    (c.in_ok-add.ensures _ c.loop-number.invariant)
