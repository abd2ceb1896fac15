use Rattle.std.proofs.Common.{◌≡◌, Some, ap, sym, ◌∙◌}
use Rattle.std.specs.Prelude.{option_map}
use Rattle.std.specs.List.{take_while}
use Rattle.dcc_c.specs.Token.{is_digit, Decimal}
use Rattle.dcc_c.specs.Pieces.{suffix_of, after_while}
use Rattle.dcc_lex.specs.TokenViews as views
use Rattle.dcc_lex.specs.NumberViews.{decimal_value}
use Rattle.dcc_lex.proofs.Numbers.{decimal_some}
use Rattle.dcc_lex.proofs.number.decimal_of.Goals as goal

pub returns : goal.returns
returns c =
    let bytes = c.args.bytes.now in
    let n = c.in_ok-value.value in
    let value : decimal_value (take_while is_digit bytes) ≡ Some n = ap decimal_value (sym c.split.ensures.front) ∙ sym c.in_ok-value.ensures in
    let suffix : suffix_of (after_while is_digit bytes) ≡ Some (views.suffix_of c.in_ok-suffix.suffix) = ap suffix_of (sym c.split.ensures.back) ∙ sym c.in_ok-suffix.ensures in
    sym (decimal_some bytes n value ∙ ap (option_map (λ suffix. Decimal n suffix)) suffix)
