use Rattle.std.proofs.Common.{◌≡◌, length, sym, ◌∙◌, arith}
use Rattle.dcc_shape.proofs.LabelLaws.{label-read}
use Rattle.dcc_shape.proofs.labels.offset_named.Goals as goal

pub returns-clause-is : goal.returns-clause-is
returns-clause-is c =
    let bytes = c.as_bytes.result.now in
    let long : length bytes ≡ 6 = omega (arith, c.in-len6.len_at_least, c.in-len6.len_below) in (
      omega (arith, c.in_ok-digit.ensures.is.0, c.in_ok-high.ensures.is.0, c.in_ok-digit-2.ensures.is.0, c.in_ok-low.ensures.is.0),
      sym c.as_bytes.ensures.value
          ∙ label-read bytes c.in_ok-digit.field-0 c.in_ok-high.field-0 c.in_ok-digit-2.field-0 c.in_ok-low.field-0 long
          c.if-first-ne76.false c.if-second-ne95.false c.in_ok-digit.ensures.is c.in_ok-high.ensures.is c.in_ok-digit-2.ensures.is c.in_ok-low.ensures.is,
    )
