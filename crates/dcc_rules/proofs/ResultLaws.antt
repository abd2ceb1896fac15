-- What calls answer of reduced expressions.
use Rattle.std.proofs.Common.{◌≡◌, ℕ, ◌<◌, List, Option, Some, option_map, Result, Ok, Err, IfOk, sym, ap, subst, arith}
use Rattle.std.specs.declared.alloc.AllocError.{AllocError}
use Rattle.dcc_ir.specs.declared.syntax.Expr.{Expr as Expression}
use Rattle.dcc_ir.specs.Views.{expr_of}
use Rattle.dcc_ir.specs.Tree.{Expr}
use Rattle.dcc_ir.specs.Measure.{nodes_of}
use Rattle.dcc_rules.specs.Simpler.{IsSimplerUnder, IsReduced}
use Rattle.dcc_rules.specs.Rules.{ListAnswers}
use Rattle.dcc_rules.proofs.ReducedLaws.{reduced_through, reduced_simpler}

abbrev pub Answer : Type 0
Answer = Result Expression AllocError

-- a call that makes this expression makes a reduced one
made : (bits : List ℕ) (given made : Expr) (r : Answer) → IsReduced bits given made → IfOk r (λ o. expr_of o ≡ made) → IfOk r (λ o. IsReduced bits given (expr_of o))
made bits given it (Err e) h f = tt
made bits given it (Ok o) h f = subst (λ m. IsReduced bits given m) (sym f) h

-- what a part that was taken out is reduced to
taken : (bits : List ℕ) (part : Expression) (a b : Expr) → expr_of part ≡ a → IsReduced bits (expr_of part) b → IsReduced bits a b
taken bits part a b is h = subst (λ m. IsReduced bits m b) is h

pub made_of_one : (bits : List ℕ) (kind : Expr → Expr) (e part : Expression) (a b : Expr) (r : Answer) → (IsReduced bits a b → IsReduced bits (kind a) (kind b))
    → expr_of e ≡ kind a → expr_of part ≡ a → IsReduced bits (expr_of part) b → IfOk r (λ o. expr_of o ≡ kind b) → IfOk r (λ o. IsReduced bits (expr_of e) (expr_of o))
made_of_one bits kind e part a b r law is is_a h f =
    made bits (expr_of e) (kind b) r (subst (λ m. IsReduced bits m (kind b)) (sym is) (law (taken bits part a b is_a h))) f

pub made_of_two : (bits : List ℕ) (kind : Expr → Expr → Expr) (e part part' : Expression) (a b a' b' : Expr) (r : Answer)
    → (IsReduced bits a b → IsReduced bits a' b' → IsReduced bits (kind a a') (kind b b'))
    → expr_of e ≡ kind a a' → expr_of part ≡ a → expr_of part' ≡ a' → IsReduced bits (expr_of part) b → IsReduced bits (expr_of part') b'
    → IfOk r (λ o. expr_of o ≡ kind b b') → IfOk r (λ o. IsReduced bits (expr_of e) (expr_of o))
made_of_two bits kind e part part' a b a' b' r law is is_a is_a' h h' f =
    made bits (expr_of e) (kind b b') r (subst (λ m. IsReduced bits m (kind b b')) (sym is) (law (taken bits part a b is_a h) (taken bits part' a' b' is_a' h'))) f

pub made_of_three : (bits : List ℕ) (kind : Expr → Expr → Expr → Expr) (e part part' last : Expression) (a b a' b' c d : Expr) (r : Answer)
    → (IsReduced bits a b → IsReduced bits a' b' → IsReduced bits c d → IsReduced bits (kind a a' c) (kind b b' d))
    → expr_of e ≡ kind a a' c → expr_of part ≡ a → expr_of part' ≡ a' → expr_of last ≡ c
    → IsReduced bits (expr_of part) b → IsReduced bits (expr_of part') b' → IsReduced bits (expr_of last) d
    → IfOk r (λ o. expr_of o ≡ kind b b' d) → IfOk r (λ o. IsReduced bits (expr_of e) (expr_of o))
made_of_three bits kind e part part' last a b a' b' c d r law is is_a is_a' is_c h h' k f =
    made bits (expr_of e) (kind b b' d) r
    (subst (λ m. IsReduced bits m (kind b b' d)) (sym is) (law (taken bits part a b is_a h) (taken bits part' a' b' is_a' h') (taken bits last c d is_c k))) f

-- the answer of a rule is simpler
answer_is_simpler : (ids bits : List ℕ) (now : Expr) (answer : Option Expression) (simpler : Expression) → ListAnswers ids bits now (option_map expr_of answer) → answer ≡ Some simpler → IsSimplerUnder bits now (expr_of simpler)
answer_is_simpler ids bits now answer simpler m is = m.simpler (expr_of simpler) (ap (option_map expr_of) is)

-- what the answer of a rule is reduced to
pub reduced_further : (ids bits : List ℕ) (given now : Expr) (answer : Option Expression) (simpler : Expression) (r : Answer) → IsReduced bits given now
    → ListAnswers ids bits now (option_map expr_of answer) → answer ≡ Some simpler → IfOk r (λ o. IsReduced bits (expr_of simpler) (expr_of o))
    → IfOk r (λ o. IsReduced bits given (expr_of o))
reduced_further ids bits given now answer simpler (Err e) h m is f = tt
reduced_further ids bits given now answer simpler (Ok o) h m is f =
    reduced_through bits given now (expr_of o) h
    (reduced_through bits now (expr_of simpler) (expr_of o) (reduced_simpler bits now (expr_of simpler) (answer_is_simpler ids bits now answer simpler m is)) f)

-- the answer of a rule has fewer nodes
pub fewer_nodes : (ids bits : List ℕ) (given now : Expr) (answer : Option Expression) (simpler : Expression) → IsReduced bits given now
    → ListAnswers ids bits now (option_map expr_of answer) → answer ≡ Some simpler → nodes_of (expr_of simpler) < nodes_of given
fewer_nodes ids bits given now answer simpler h m is =
    let fewer = answer_is_simpler ids bits now answer simpler m is in omega (arith, fewer.nodes, h.nodes)
