-- One step of reading an expression, by what the reader sees.
use Rattle.std.proofs.Common.{◌≡◌, ℕ, suc, ◌+◌, ◌<◌, Bool, true, false, refl, sym, ap, ◌∙◌, add-one, Option, Some, None, arith}
use Rattle.std.specs.Prelude.{nat_le, codes, if◌then◌else◌, Result}
use Rattle.std.specs.Result.{IfOk}
use Rattle.std.proofs.lemmas.Result.{IfOk-weaker}
use Rattle.std.proofs.lemmas.Bool.{lt-leb}
use Rattle.dcc_c.specs.declared.syntax.CUn.{CUn}
use Rattle.dcc_c.specs.declared.syntax.CBin.{CBin}
use Rattle.dcc_c.specs.declared.syntax.CType.{CType}
use Rattle.dcc_c.specs.Grammar.{strength}
use Rattle.dcc_c.specs.Partial.{PartialExpr, Missing}
use Rattle.dcc_c.specs.Reading.{Reader, Got, got, Inside, in_operator, in_parentheses, next_token, skip, sees_mark, take_mark, take_type, begins_type, unary_of, binary_of, stop_if_enclosed, closed, cast_of, unary_at, joined, chosen, read_leaf, read_unary, read_parentheses, read_cast, read_binary, read_more, read_expr, read_rest}
use Rattle.dcc_c.proofs.reading.Stopping.{if-true, if-false, choice-some, choice-none}
use Rattle.dcc_read.specs.declared.expression.Measured.{Measured}
use Rattle.dcc_read.specs.ExpressionViews.{strong_enough}
use Rattle.dcc_reader.specs.PartialViews.{expr_of}

-- With no calls nothing is read.

no_calls : (calls : ℕ) → calls < 1 → calls ≡ 0
no_calls calls few = omega arith

pub unary-none : (calls : ℕ) (inside : Inside) (r : Reader) → calls < 1 → got Missing r ≡ read_unary calls inside r
unary-none calls inside r few = rw (no_calls calls few) refl

-- A unary part.

pub unary-operator : (calls fewer : ℕ) (inside : Inside) (r : Reader) (operator : CUn) (a : Got PartialExpr) → calls ≡ fewer + 1 →
    inside.operators < 200 → unary_of (next_token r) ≡ Some operator → a ≡ read_unary fewer (in_operator inside) (skip r) →
    unary_at r.at operator a ≡ read_unary calls inside r
unary-operator calls fewer inside r operator a is shallow sees got_is =
    rw (is, add-one)
    (sym
    (if-false (nat_le 200 inside.operators) _ _ (lt-leb 200 inside.operators shallow)
    ∙ choice-some (unary_of (next_token r)) operator (λ o. unary_at r.at o (read_unary fewer (in_operator inside) (skip r))) _ sees
    ∙ ap (unary_at r.at operator) (sym got_is)))

no_operator : (fewer : ℕ) (inside : Inside) (r : Reader) → inside.operators < 200 → unary_of (next_token r) ≡ None →
    read_unary (suc fewer) inside r ≡ (if sees_mark (codes "(") r then read_parentheses fewer inside r.at (skip r) else read_leaf r)
no_operator fewer inside r shallow sees =
    if-false (nat_le 200 inside.operators) _ _ (lt-leb 200 inside.operators shallow)
    ∙ choice-none (unary_of (next_token r)) (λ o. unary_at r.at o (read_unary fewer (in_operator inside) (skip r))) _ sees

pub unary-parentheses : (calls fewer : ℕ) (inside : Inside) (r : Reader) → calls ≡ fewer + 1 → inside.operators < 200 →
    unary_of (next_token r) ≡ None → sees_mark (codes "(") r ≡ true →
    read_parentheses fewer inside r.at (skip r) ≡ read_unary calls inside r
unary-parentheses calls fewer inside r is shallow sees opens =
    rw (is, add-one) (sym (no_operator fewer inside r shallow sees ∙ if-true (sees_mark (codes "(") r) _ _ opens))

pub unary-leaf : (calls fewer : ℕ) (inside : Inside) (r : Reader) → calls ≡ fewer + 1 → inside.operators < 200 →
    unary_of (next_token r) ≡ None → sees_mark (codes "(") r ≡ false →
    read_leaf r ≡ read_unary calls inside r
unary-leaf calls fewer inside r is shallow sees opens =
    rw (is, add-one) (sym (no_operator fewer inside r shallow sees ∙ if-false (sees_mark (codes "(") r) _ _ opens))

-- Parentheses and casts.

pub parentheses-cast : (calls fewer : ℕ) (inside : Inside) (at : ℕ) (r : Reader) → calls ≡ fewer + 1 →
    begins_type (next_token (stop_if_enclosed (in_parentheses inside) r)) ≡ true →
    read_cast fewer inside at (take_type (stop_if_enclosed (in_parentheses inside) r)) ≡ read_parentheses calls inside at r
parentheses-cast calls fewer inside at r is begins =
    rw (is, add-one) (sym (if-true (begins_type (next_token (stop_if_enclosed (in_parentheses inside) r))) _ _ begins))

pub parentheses-closed : (calls fewer : ℕ) (inside : Inside) (at : ℕ) (r : Reader) (a : Got PartialExpr) → calls ≡ fewer + 1 →
    begins_type (next_token (stop_if_enclosed (in_parentheses inside) r)) ≡ false →
    a ≡ read_expr fewer (in_parentheses inside) (stop_if_enclosed (in_parentheses inside) r) →
    closed a ≡ read_parentheses calls inside at r
parentheses-closed calls fewer inside at r a is begins got_is =
    rw (is, add-one)
    (ap closed got_is
    ∙ sym (if-false (begins_type (next_token (stop_if_enclosed (in_parentheses inside) r))) _ _ begins))

pub cast-some : (calls fewer : ℕ) (inside : Inside) (at : ℕ) (type : CType) (r : Reader) (a : Got PartialExpr) → calls ≡ fewer + 1 →
    a ≡ read_unary fewer (in_operator inside) (take_mark (codes ")") r) →
    cast_of at type a ≡ read_cast calls inside at (got (Some type) r)
cast-some calls fewer inside at type r a is got_is = rw (is, add-one) (ap (cast_of at type) got_is)

-- Operators.

pub binary-first : (calls fewer : ℕ) (inside : Inside) (weakest : ℕ) (r : Reader) (a : Got PartialExpr) → calls ≡ fewer + 1 →
    a ≡ read_unary fewer inside r → read_more fewer inside weakest a ≡ read_binary calls inside weakest r
binary-first calls fewer inside weakest r a is got_is = rw (is, add-one) (ap (read_more fewer inside weakest) got_is)

abbrev more_of : ℕ → Inside → ℕ → Got PartialExpr → Option CBin → Got PartialExpr
more_of calls inside weakest left operator = elim operator [
  | Some operator ↦ read_more calls inside weakest
      (joined inside operator left.value (read_binary calls (in_operator inside) (suc (strength operator)) (skip left.following)))
  | None ↦ left
]

more_strong : (calls : ℕ) (inside : Inside) (weakest : ℕ) (left : Got PartialExpr) (operator : CBin) (b : Bool) →
    nat_le weakest (strength operator) ≡ b → binary_of (next_token left.following) ≡ Some operator →
    read_more (suc calls) inside weakest left ≡ more_of calls inside weakest left (strong_enough weakest (Some operator))
more_strong calls inside weakest left operator true is sees =
    choice-some (binary_of (next_token left.following)) operator _ left sees
    ∙ if-true (nat_le weakest (strength operator)) _ _ is
    ∙ sym (ap (more_of calls inside weakest left) (if-true (nat_le weakest (strength operator)) (Some operator) None is))
more_strong calls inside weakest left operator false is sees =
    choice-some (binary_of (next_token left.following)) operator _ left sees
    ∙ if-false (nat_le weakest (strength operator)) _ _ is
    ∙ sym (ap (more_of calls inside weakest left) (if-false (nat_le weakest (strength operator)) (Some operator) None is))

more_by : (calls : ℕ) (inside : Inside) (weakest : ℕ) (left : Got PartialExpr) (o : Option CBin) →
    binary_of (next_token left.following) ≡ o →
    read_more (suc calls) inside weakest left ≡ more_of calls inside weakest left (strong_enough weakest o)
more_by calls inside weakest left (Some operator) sees =
    more_strong calls inside weakest left operator (nat_le weakest (strength operator)) refl sees
more_by calls inside weakest left None sees = choice-none (binary_of (next_token left.following)) _ left sees

more_is : (calls : ℕ) (inside : Inside) (weakest : ℕ) (left : Got PartialExpr) →
    read_more (suc calls) inside weakest left ≡ more_of calls inside weakest left (strong_enough weakest (binary_of (next_token left.following)))
more_is calls inside weakest left = more_by calls inside weakest left (binary_of (next_token left.following)) refl

pub more-joins : (calls fewer : ℕ) (inside : Inside) (weakest : ℕ) (left : Got PartialExpr) (operator : CBin) (b : Got PartialExpr) →
    calls ≡ fewer + 1 → Some operator ≡ strong_enough weakest (binary_of (next_token left.following)) →
    b ≡ read_binary fewer (in_operator inside) (strength operator + 1) (skip left.following) →
    read_more fewer inside weakest (joined inside operator left.value b) ≡ read_more calls inside weakest left
more-joins calls fewer inside weakest left operator b is sees got_is =
    rw (is, add-one)
    (ap (λ b. read_more fewer inside weakest (joined inside operator left.value b)) (rw add-one at got_is)
    ∙ ap (more_of fewer inside weakest left) sees
    ∙ sym (more_is fewer inside weakest left))

pub more-ends : (calls fewer : ℕ) (inside : Inside) (weakest : ℕ) (left : Got PartialExpr) →
    calls ≡ fewer + 1 → None ≡ strong_enough weakest (binary_of (next_token left.following)) →
    left ≡ read_more calls inside weakest left
more-ends calls fewer inside weakest left is sees =
    rw (is, add-one) (ap (more_of fewer inside weakest left) sees ∙ sym (more_is fewer inside weakest left))

-- Whole expressions.

pub expr-test : (calls fewer : ℕ) (inside : Inside) (r : Reader) (a : Got PartialExpr) → calls ≡ fewer + 1 →
    a ≡ read_binary fewer inside 1 r → read_rest fewer inside a ≡ read_expr calls inside r
expr-test calls fewer inside r a is got_is = rw (is, add-one) (ap (read_rest fewer inside) got_is)

pub rest-chooses : (calls fewer : ℕ) (inside : Inside) (test first second : Got PartialExpr) → calls ≡ fewer + 1 →
    sees_mark (codes "?") test.following ≡ true →
    first ≡ read_expr fewer (in_operator inside) (skip test.following) →
    second ≡ read_expr fewer (in_operator inside) (take_mark (codes ":") first.following) →
    chosen inside test.value first.value second ≡ read_rest calls inside test
rest-chooses calls fewer inside test first second is sees first_is second_is =
    rw (is, add-one)
    (ap (chosen inside test.value first.value) second_is
    ∙ ap (λ f. chosen inside test.value f.value (read_expr fewer (in_operator inside) (take_mark (codes ":") f.following))) first_is
    ∙ sym (if-true (sees_mark (codes "?") test.following) _ _ sees))

-- two equations under a function
pub both : {A B C : Type 0} (f : A → B → C) {a b : A} {x y : B} → a ≡ b → x ≡ y → f a x ≡ f b y
both f {a} {b} {x} {y} first second = ap (λ a. f a x) first ∙ ap (f b) second

-- What was read, where it was read, by another name for it.

pub along : {E : Type 0} (r : Result Measured E) (following : Reader) (x y : Got PartialExpr) → IfOk r (λ e. got (expr_of e.expr) following ≡ x) →
    x ≡ y → IfOk r (λ e. got (expr_of e.expr) following ≡ y)
along r following x y read is =
    IfOk-weaker r (λ e. got (expr_of e.expr) following ≡ x) (λ e. got (expr_of e.expr) following ≡ y) (λ e was. was ∙ is) read

pub made : {E : Type 0} (r : Result Measured E) (following : Reader) (x : PartialExpr) (y : Got PartialExpr) → IfOk r (λ e. expr_of e.expr ≡ x) →
    got x following ≡ y → IfOk r (λ e. got (expr_of e.expr) following ≡ y)
made r following x y read is =
    IfOk-weaker r (λ e. expr_of e.expr ≡ x) (λ e. got (expr_of e.expr) following ≡ y) (λ e was. ap (λ x. got x following) was ∙ is) read

-- an answer that is no value is none
pub not-some : {A : Type 0} (answer : Option A) → ((x : A) → answer ≡ Some x → ⊥) → answer ≡ None
not-some None never = refl
not-some (Some x) never = absurd (never x refl)
