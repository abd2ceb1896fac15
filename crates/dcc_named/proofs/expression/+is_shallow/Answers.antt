use Rattle.std.proofs.Common.{◌≡◌, ℕ, false, sym, ap, ◌∙◌, arith}
use Rattle.std.specs.Prelude.{nat_le}
use Rattle.std.proofs.lemmas.Bool.Decides.{nat_tests}
use Rattle.dcc_c.specs.Tree.{Expr, Number, Name, Unary, Binary, Conditional, Cast}
use Rattle.dcc_c.specs.Rules.{expr_depth}
use Rattle.dcc_c.specs.Views.{expr_of}
use Rattle.dcc_named.proofs.expression.+is_shallow.Goals as goal

-- each expression has a level
one-level : (e : Expr) → false ≡ nat_le (expr_depth e) 0
one-level (Number n base) = grind (arith, nat_tests)
one-level (Name word) = grind (arith, nat_tests)
one-level (Unary operator a) = grind (arith, nat_tests)
one-level (Binary operator a b) = grind (arith, nat_tests)
one-level (Conditional a b c) = grind (arith, nat_tests)
one-level (Cast type a) = grind (arith, nat_tests)

pub returns-then-limit-eq0 : goal.returns-then-limit-eq0
returns-then-limit-eq0 t c =
    let none : c.args.limit ≡ 0 = omega arith in
    one-level (expr_of c.args.e.now) ∙ ap (nat_le (expr_depth (expr_of c.args.e.now))) (sym none)
