use Rattle.std.proofs.Common.{◌<◌, length, ◌∙◌, arith}
use Rattle.dcc_globals.proofs.InitialLaws.{significant-more, significant-all, counted-within}
use Rattle.dcc_globals.proofs.initial.significant.Goals as goal

pub loop-place-preserved : goal.loop-place-preserved
loop-place-preserved c =
    let bytes = c.args.bytes.now in
    let inside : c.loop-place.place < length bytes = omega arith in
    record {
      value = c.count_with-count.ensures ∙ significant-more bytes c.loop-place.place c.loop-place.count inside c.loop-place.invariant.value;
      within = counted-within _ c.loop-place.count c.loop-place.place _ c.count_with-count.ensures c.loop-place.invariant.within;
    }
