use Rattle.std.proofs.Common.{◌≡◌, ◌<◌, ◌/◌, ◌%◌, ◌^◌, [], ◌∷◌, Some, false, ap, arith}
use Rattle.std.specs.Fmt.{digit_glyph, styled_digits_output}
use Rattle.dcc_text.proofs.HexLaws.{high_written, low_written}
use Rattle.dcc_text.proofs.hex.name_at.Goals as goal

pub returns : goal.returns
returns c =
    let at = c.args.at in
    let small : at < 2 ^ 16 = omega arith in
    let high : styled_digits_output c.in_radix.result c.laid_out.result ≡ Some (digit_glyph false (at / 4096 % 16) ∷ digit_glyph false (at / 256 % 16) ∷ []) =
    rw (c.laid_out.ensures, c.in_radix.ensures) (ap Some (high_written at small)) in
    let low : styled_digits_output c.in_radix-2.result c.laid_out-2.result ≡ Some (digit_glyph false (at / 16 % 16) ∷ digit_glyph false (at % 16) ∷ []) =
    rw (c.laid_out-2.ensures, c.in_radix-2.ensures) (ap Some (low_written at)) in
    let ok = c.format.ensures.ok in
    rw (high, low) at ok
