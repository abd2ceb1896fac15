use Rattle.std.proofs.Common.{◌≡◌, ap, Some, ◌<◌, ◌^◌, arith}
use Rattle.std.specs.Fmt.{styled_digits_output}
use Rattle.dcc_top.specs.Offset.{hex_offset}
use Rattle.dcc_top.proofs.HexLaws.{hex_offset-padded}
use Rattle.dcc_top.proofs.procedures.SummaryDisplay.fmt.Goals as goal

pub returns-clause-writes : goal.returns-clause-writes
returns-clause-writes g c =
    let entry = c.args.self.now.entry in
    let small : entry < 2 ^ 16 = omega arith in
    let written : styled_digits_output c.in_radix.result c.laid_out.result ≡ Some (hex_offset entry) =
    rw (c.laid_out.ensures, c.in_radix.ensures) (ap Some (hex_offset-padded entry small)) in
    rw written at c.write.ensures.writes
