use Rattle.std.proofs.Common.{sym, ap, ◌∙◌}
use Rattle.dcc_shape.proofs.labels.is_named.Goals as goal

pub returns-in-Some : goal.returns-in-Some
returns-in-Some c = λ test named.
    c.contains.ensures ∙ sym (named.offsets c.in-Some.at c.in-Some.ensures.is.0) ∙ ap test (sym c.in-Some.ensures.is.1)
