-- The program is kept by the one in which what passes together is one value.
use Rattle.std.proofs.Common.{sym, subst}
use Rattle.dcc_ir.specs.Keeps.{KeepsFrame}
use Rattle.dcc_signatures.specs.Laws.{PackedKeeps}
use Rattle.dcc_signatures.proofs.PassLaws.{takes_just}
use Rattle.dcc_signatures.proofs.KeepLaws.{there_is, runs_kept}
use Rattle.dcc_signatures.proofs.WholeLaws.{packed_formed}
use Rattle.dcc_signatures.proofs.StayLaws.{kept_whole, frame_stays}
use Rattle.dcc_signatures.proofs.JustLaws.{sum_of, all_just}

pub packed-keeps : PackedKeeps
packed-keeps p sums formed one =
    let sum = sum_of p sums formed one in
    let just = all_just p sums formed one in
    let formed' = packed_formed p sum formed just in
    record {
      formed = formed';
      keeps = kept_whole p (runs_kept p sum formed just formed');
      frames = λ entry before after found found'. subst (KeepsFrame before) (sym (there_is p sum formed just entry before after found found')) (frame_stays (sum entry) before (takes_just p sum formed just entry before found));
    }
