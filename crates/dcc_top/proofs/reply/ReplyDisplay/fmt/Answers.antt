use Rattle.std.proofs.Common.{◌≡◌, ap, Some, ◌<◌, ◌^◌, arith}
use Rattle.std.specs.Fmt.{styled_digits_output}
use Rattle.dcc_top.specs.Offset.{hex_offset}
use Rattle.dcc_top.proofs.HexLaws.{hex_offset-padded}
use Rattle.dcc_top.proofs.reply.ReplyDisplay.fmt.Goals as goal

pub returns-in-Construct-clause-writes : goal.returns-in-Construct-clause-writes
returns-in-Construct-clause-writes g c =
    let small : c.in-Construct.at < 2 ^ 16 = omega arith in
    let written : styled_digits_output c.in_radix.result c.laid_out.result ≡ Some (hex_offset c.in-Construct.at) =
    rw (c.laid_out.ensures, c.in_radix.ensures) (ap Some (hex_offset-padded c.in-Construct.at small)) in
    rw c.in-Construct.is (rw (c.number-told.ensures, written) at c.writeln-in-Construct.ensures.writes)

pub returns-in-NotYet-clause-writes : goal.returns-in-NotYet-clause-writes
returns-in-NotYet-clause-writes g c =
    let small : c.in-NotYet.at < 2 ^ 16 = omega arith in
    let written : styled_digits_output c.in_radix-in-NotYet.result c.laid_out-in-NotYet.result ≡ Some (hex_offset c.in-NotYet.at) =
    rw (c.laid_out-in-NotYet.ensures, c.in_radix-in-NotYet.ensures) (ap Some (hex_offset-padded c.in-NotYet.at small)) in
    rw c.in-NotYet.is (rw written at c.writeln-in-NotYet.ensures.writes)

pub returns-in-Outside-clause-writes : goal.returns-in-Outside-clause-writes
returns-in-Outside-clause-writes g c =
    let small : c.in-Outside.at < 2 ^ 16 = omega arith in
    let written : styled_digits_output c.in_radix-in-Outside.result c.laid_out-in-Outside.result ≡ Some (hex_offset c.in-Outside.at) =
    rw (c.laid_out-in-Outside.ensures, c.in_radix-in-Outside.ensures) (ap Some (hex_offset-padded c.in-Outside.at small)) in
    rw c.in-Outside.is (rw written at c.writeln-in-Outside.ensures.writes)

pub returns-in-Foul-clause-writes : goal.returns-in-Foul-clause-writes
returns-in-Foul-clause-writes g c =
    let small : c.in-Foul.at < 2 ^ 16 = omega arith in
    let low : c.in-Foul.address < 2 ^ 16 = omega arith in
    let place : styled_digits_output c.in_radix-in-Foul.result c.laid_out-in-Foul.result ≡ Some (hex_offset c.in-Foul.at) =
    rw (c.laid_out-in-Foul.ensures, c.in_radix-in-Foul.ensures) (ap Some (hex_offset-padded c.in-Foul.at small)) in
    let byte : styled_digits_output c.in_radix-in-Foul-2.result c.laid_out-in-Foul-2.result ≡ Some (hex_offset c.in-Foul.address) =
    rw (c.laid_out-in-Foul-2.ensures, c.in_radix-in-Foul-2.ensures) (ap Some (hex_offset-padded c.in-Foul.address low)) in
    rw c.in-Foul.is (rw (c.foul_word-word.ensures, place, byte) at c.writeln-in-Foul.ensures.writes)
