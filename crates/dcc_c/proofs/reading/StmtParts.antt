-- Parts of statements: what is read of tests, places, arguments and values is one.
use Rattle.std.proofs.Common.{◌≡◌, ℕ, zero, suc, ◌≤◌, ◌<◌, length, List, ◌∷◌, map, true, None, refl, ◌∙◌, subst, arith}
use Rattle.std.specs.Prelude.{codes, nat_le, Bool}
use Rattle.std.specs.List.{list_all}
use Rattle.std.proofs.lemmas.Bool.{le-leb}
use Rattle.dcc_c.specs.Token.{WordToken}
use Rattle.dcc_c.specs.Lexing.{Placed}
use Rattle.dcc_c.specs.Tree.{Expr}
use Rattle.dcc_c.specs.Grammar.{mark, IsExpr, IsPlace, name_place, deref_place, AreArguments, no_argument, last_argument, more_arguments as more_of}
use Rattle.dcc_c.specs.Rules.{expr_depth}
use Rattle.dcc_c.specs.Partial.{PartialExpr}
use Rattle.dcc_c.specs.Reading.{Reader, Got, next_token, skip, name_of, sees_mark, take_mark, in_operator}
use Rattle.dcc_c.specs.ReadingStatements.{whole, read_value, read_enclosed, read_test, more_arguments, read_arguments, read_place}
use Rattle.dcc_c.specs.Stripped.{plain_expr}
use Rattle.dcc_c.proofs.reading.Passing.{tokens_of, if-cases, skip-took, sees_mark-took, take_mark-took}
use Rattle.dcc_c.proofs.reading.Words.{name_of-is}
use Rattle.dcc_c.proofs.reading.Statements.{IsEnough}
use Rattle.dcc_c.proofs.reading.Stopping.{choice-cases, keeps_stop}
use Rattle.dcc_c.proofs.reading.StmtStopping.{more_arguments-keeps}
use Rattle.dcc_c.proofs.reading.Steps.{Steps, then_steps, no_steps, token_steps, opening_steps, closing_steps, expr_steps}
use Rattle.dcc_c.proofs.reading.ExprRules.{sound_expr, sound_unary}

-- The reader passed an expression in parentheses.
pub record ReadsTest (r : Reader) (g : Got PartialExpr) : Type 0 where
  pub steps : Steps 0 0 r g.following
  pub steady : g.following.depth ≡ r.depth
  pub shorter : length g.following.left < length r.left
  pub opening : ℕ
  pub closing : ℕ
  pub tokens : List Placed
  pub begins : tokens_of r.left ≡ mark opening (codes "(") ∷ tokens
  pub derived : IsExpr 0 tokens (plain_expr g.value) (mark closing (codes ")") ∷ tokens_of g.following.left)
  pub deep : expr_depth (plain_expr g.value) ≤ 200

pub test-sound : (calls : ℕ) (r : Reader) → IsEnough calls 0 r.left → (read_test calls r).following.stop ≡ None → ReadsTest r (read_test calls r)
test-sound calls r enough going =
    let here = take_mark (codes "(") r in
    let e = read_enclosed calls here in
    let close = take_mark-took (codes ")") e.following going in
    let begun = take_mark-took (codes "(") r ((keeps_stop calls).expr (whole 1 here) here close.passed.going) in
    let read = sound_expr calls (whole 1 here) here (omega (arith, begun.one_less)) close.passed.going in
    record {
      steps = then_steps (opening_steps 0 begun) (then_steps (expr_steps read) (closing_steps 0 (omega arith) close));
      steady = close.steady ∙ (read.steady ∙ begun.steady);
      shorter = omega (arith, begun.one_less, read.shorter, close.one_less);
      opening = begun.line;
      closing = close.line;
      tokens = tokens_of here.left;
      begins = begun.begins;
      derived = subst (λ ts. IsExpr 0 (tokens_of here.left) (plain_expr e.value) ts) close.begins read.derived;
      deep = omega (arith, read.shallow);
    }

-- The reader passed a place.
pub record ReadsPlace (r : Reader) (g : Got PartialExpr) : Type 0 where
  pub steps : Steps 0 0 r g.following
  pub steady : g.following.depth ≡ r.depth
  pub shorter : length g.following.left < length r.left
  pub derived : IsPlace (tokens_of r.left) (plain_expr g.value) (tokens_of g.following.left)
  pub deep : expr_depth (plain_expr g.value) ≤ 200

pub place-sound : (calls : ℕ) (r : Reader) → IsEnough calls 0 r.left → (read_place calls r).following.stop ≡ None → ReadsPlace r (read_place calls r)
place-sound calls r enough =
    choice-cases (λ g. g.following.stop ≡ None → ReadsPlace r g) (name_of (next_token r))
    (λ word is _.
    let seen = name_of-is (next_token r) word is in
    let took = skip-took r (WordToken word) seen.0 in
    record {
      steps = token_steps 0 refl took;
      steady = took.steady;
      shorter = omega (arith, took.one_less);
      derived = rw took.begins (name_place word seen.1);
      deep = omega arith;
    })
    (λ _ going.
    let here = take_mark (codes "*") r in
    let star = take_mark-took (codes "*") r ((keeps_stop calls).unary (in_operator (whole 0 r)) here going) in
    let read = sound_unary calls (in_operator (whole 0 r)) here (omega (arith, star.one_less)) going in
    record {
      steps = then_steps (token_steps 0 refl star) (expr_steps read);
      steady = read.steady ∙ star.steady;
      shorter = omega (arith, star.one_less, read.shorter);
      derived = rw star.begins (deref_place read.derived);
      deep = omega (arith, read.shallow);
    })

-- no expression of these is too deep
abbrev pub are_shallow : List Expr → Bool
are_shallow es = list_all (λ e. nat_le (expr_depth e) 200) es

pub shallow_before : (e : Expr) (es : List Expr) → expr_depth e ≤ 200 → are_shallow es ≡ true → are_shallow (e ∷ es) ≡ true
shallow_before e es deep others = rw (le-leb (expr_depth e) 200 deep) others

-- The reader passed arguments after the first one.
pub record ReadsMore (r : Reader) (g : Got (List PartialExpr)) : Type 0 where
  pub steps : Steps 1 1 r g.following
  pub steady : g.following.depth ≡ r.depth
  pub derived : (tokens : List Placed) (e : Expr) → IsExpr 0 tokens e (tokens_of r.left) → AreArguments tokens (e ∷ map plain_expr g.value) (tokens_of g.following.left)
  pub deep : are_shallow (map plain_expr g.value) ≡ true

more-sound : (calls : ℕ) (r : Reader) → IsEnough calls 0 r.left → (more_arguments calls r).following.stop ≡ None → ReadsMore r (more_arguments calls r)
more-sound zero r enough = λ going.
    record { steps = no_steps r going; steady = refl; derived = λ tokens e first. last_argument first; deep = refl }
more-sound (suc calls) r enough =
    if-cases (λ g. g.following.stop ≡ None → ReadsMore r g) (sees_mark (codes ",") r)
    (λ sees going.
    let first = read_enclosed calls (skip r) in
    let comma = sees_mark-took (codes ",") r sees in
    let read = sound_expr calls (whole 1 (skip r)) (skip r) (omega (arith, comma.one_less)) (more_arguments-keeps calls first.following going) in
    let others = more-sound calls first.following (omega (arith, comma.one_less, read.shorter)) going in
    record {
      steps = then_steps (token_steps 1 refl comma) (then_steps (expr_steps read) others.steps);
      steady = others.steady ∙ (read.steady ∙ comma.steady);
      derived = λ tokens e before. more_of (subst (λ ts. IsExpr 0 tokens e ts) comma.begins before) (others.derived (tokens_of (skip r).left) (plain_expr first.value) read.derived);
      deep = shallow_before (plain_expr first.value) (map plain_expr (more_arguments calls first.following).value) (omega (arith, read.shallow)) others.deep;
    })
    (λ _ going. record { steps = no_steps r going; steady = refl; derived = λ tokens e first. last_argument first; deep = refl })

-- The reader passed arguments.
pub record ReadsArguments (r : Reader) (g : Got (List PartialExpr)) : Type 0 where
  pub steps : Steps 1 1 r g.following
  pub steady : g.following.depth ≡ r.depth
  pub derived : AreArguments (tokens_of r.left) (map plain_expr g.value) (tokens_of g.following.left)
  pub deep : are_shallow (map plain_expr g.value) ≡ true

pub arguments-sound : (calls : ℕ) (r : Reader) → IsEnough calls 3 r.left → (read_arguments calls r).following.stop ≡ None → ReadsArguments r (read_arguments calls r)
arguments-sound calls r enough =
    if-cases (λ g. g.following.stop ≡ None → ReadsArguments r g) (sees_mark (codes ")") r)
    (λ _ going. record { steps = no_steps r going; steady = refl; derived = no_argument; deep = refl })
    (λ _ going.
    let first = read_enclosed calls r in
    let read = sound_expr calls (whole 1 r) r enough (more_arguments-keeps calls first.following going) in
    let others = more-sound calls first.following (omega (arith, read.shorter)) going in
    record {
      steps = then_steps (expr_steps read) others.steps;
      steady = others.steady ∙ read.steady;
      derived = others.derived (tokens_of r.left) (plain_expr first.value) read.derived;
      deep = shallow_before (plain_expr first.value) (map plain_expr (more_arguments calls first.following).value) (omega (arith, read.shallow)) others.deep;
    })

-- The reader passed a value, and the mark after it.
pub record ReadsValue (bytes : List ℕ) (r : Reader) (e : Got PartialExpr) : Type 0 where
  pub steps : Steps 0 0 r (take_mark bytes e.following)
  pub steady : (take_mark bytes e.following).depth ≡ r.depth
  pub shorter : length (take_mark bytes e.following).left < length r.left
  pub end : ℕ
  pub derived : IsExpr 0 (tokens_of r.left) (plain_expr e.value) (mark end bytes ∷ tokens_of (take_mark bytes e.following).left)
  pub deep : expr_depth (plain_expr e.value) ≤ 200

pub value-sound : (calls : ℕ) (r : Reader) → IsEnough calls 3 r.left → (take_mark (codes ";") (read_value calls r).following).stop ≡ None →
    ReadsValue (codes ";") r (read_value calls r)
value-sound calls r enough going =
    let e = read_value calls r in
    let end = take_mark-took (codes ";") e.following going in
    let read = sound_expr calls (whole 0 r) r enough end.passed.going in
    record {
      steps = then_steps (expr_steps read) (token_steps 0 refl end);
      steady = end.steady ∙ read.steady;
      shorter = omega (arith, end.one_less, read.shorter);
      end = end.line;
      derived = subst (λ ts. IsExpr 0 (tokens_of r.left) (plain_expr e.value) ts) end.begins read.derived;
      deep = omega (arith, read.shallow);
    }
