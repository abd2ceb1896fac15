-- The place that a star and its operand are.
use Rattle.std.specs.Prelude.{ℕ, codes}
use Rattle.dcc_c.specs.declared.syntax.CUn.TheVariants.{Deref}
use Rattle.dcc_c.specs.Partial.{PartialExpr, UnaryHere}
use Rattle.dcc_c.specs.Reading.{Reader, Got, got, take_mark, in_operator, read_unary}
use Rattle.dcc_c.specs.ReadingStatements.{whole}

-- a star, which must stand here, and its operand
abbrev pub after_star : ℕ → Reader → Got PartialExpr
after_star calls r =
    let a = read_unary calls (in_operator (whole 0 r)) (take_mark (codes "*") r) in
    got (UnaryHere r.at Deref a.value) a.following
