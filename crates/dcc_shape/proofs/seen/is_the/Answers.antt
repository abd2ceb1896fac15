use Rattle.std.proofs.Common.{sym, ap, ◌∙◌}
use Rattle.dcc_c.proofs.NameLaws.{same_bytes-pointwise}
use Rattle.dcc_shape.specs.Spots.{is_the}
use Rattle.dcc_shape.specs.Seen.{lent}
use Rattle.dcc_shape.proofs.seen.is_the.Goals as goal

pub returns-in-Some : goal.returns-in-Some
returns-in-Some c =
    c.eq.ensures ∙ sym (same_bytes-pointwise c.args.word.now c.in-Some.other.now)
    ∙ ap (λ l. is_the c.args.word.now (lent l)) (sym c.in-Some.is)
