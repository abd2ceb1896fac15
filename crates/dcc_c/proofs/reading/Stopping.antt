-- Reading that has stopped stays so: where it goes on after an expression, it went on before.
use Rattle.std.proofs.Common.{◌≡◌, ℕ, zero, suc, ◌+◌, Option, Some, None, Bool, true, false, refl, ap}
use Rattle.std.specs.Prelude.{codes, if◌then◌else◌, nat_le, nat_lt, ◌||◌}
use Rattle.dcc_c.specs.declared.syntax.CType.{CType}
use Rattle.dcc_c.specs.Grammar.{strength}
use Rattle.dcc_c.specs.Kinds.{of_depth, offence}
use Rattle.dcc_c.specs.Partial.{PartialExpr, depth_of}
use Rattle.dcc_c.specs.Reading.{Reader, Got, is_stopped, next_token, skip, stop_at, name_of, number_of, sees_mark, take_mark, take_type, begins_type, begins_expr, unary_of, binary_of, Inside, in_operator, in_parentheses, stop_if_deep, stop_if_enclosed, read_leaf, closed, joined, chosen, read_unary, read_parentheses, read_cast, read_binary, read_more, read_expr, read_rest}
use Rattle.dcc_c.proofs.reading.Passing.{if-cases, stop_at-stops, fail-stops, take_mark-took}
use Rattle.dcc_c.proofs.reading.Words.{type-sound}

-- reading that goes on after has gone on before
abbrev pub GoesOn : Reader → Reader → Type 0
GoesOn r following = following.stop ≡ None → r.stop ≡ None

abbrev pub Keeps : Reader → Got PartialExpr → Type 0
Keeps r g = GoesOn r g.following

-- a choice by what there is
pub choice-cases : {A B : Type 0} (P : B → Type 0) (o : Option A) {f : A → B} {n : B} → ((a : A) → o ≡ Some a → P (f a)) → (o ≡ None → P n) →
    P (elim o [ Some a ↦ f a | None ↦ n ])
choice-cases P (Some a) some none = some a refl
choice-cases P None some none = none refl

-- what is chosen, where it is known what there is
pub choice-some : {A B : Type 0} (o : Option A) (a : A) (f : A → B) (n : B) → o ≡ Some a → (elim o [ Some x ↦ f x | None ↦ n ]) ≡ f a
choice-some o a f n is = ap (λ x. elim x [ Some y ↦ f y | None ↦ n ]) is

pub choice-none : {A B : Type 0} (o : Option A) (f : A → B) (n : B) → o ≡ None → (elim o [ Some x ↦ f x | None ↦ n ]) ≡ n
choice-none o f n is = ap (λ x. elim x [ Some y ↦ f y | None ↦ n ]) is

pub if-true : {A : Type 0} (b : Bool) (x y : A) → b ≡ true → (if b then x else y) ≡ x
if-true b x y is = ap (λ t. if t then x else y) is

pub if-false : {A : Type 0} (b : Bool) (x y : A) → b ≡ false → (if b then x else y) ≡ y
if-false b x y is = ap (λ t. if t then x else y) is

pub deep-keeps : (inside : Inside) (e : PartialExpr) (r : Reader) → GoesOn r (stop_if_deep inside e r)
deep-keeps inside e r =
    if-cases (GoesOn r) (nat_lt 200 _) (λ _ going. absurd (stop_at-stops of_depth inside.start r going)) (λ _ going. going)

pub deep_left : (inside : Inside) (e : PartialExpr) (r : Reader) → (stop_if_deep inside e r).left ≡ r.left
deep_left inside e r =
    let same : Reader → Type 0 = λ following. following.left ≡ r.left in
    let stopped : Reader = record r { stop = Some (offence of_depth inside.start) } in
    if-cases same (nat_lt 200 (inside.operators + depth_of e)) {x = stop_at of_depth inside.start r} {y = r}
    (λ _. if-cases same (is_stopped r) {x = r} {y = stopped} (λ _. refl) (λ _. refl)) (λ _. refl)

pub enclosed-keeps : (inside : Inside) (r : Reader) → GoesOn r (stop_if_enclosed inside r)
enclosed-keeps inside r =
    if-cases (GoesOn r) (nat_lt 200 inside.opened)
    (λ _. if-cases (GoesOn r) (begins_expr (next_token r) || begins_type (next_token r))
    (λ _ going. absurd (stop_at-stops of_depth r.at r going)) (λ _ going. absurd (fail-stops r going)))
    (λ _ going. going)

-- reading an expression with so many calls keeps the stop
pub record KeepsStop (calls : ℕ) : Type 0 where
  pub unary : (inside : Inside) (r : Reader) → GoesOn r (read_unary calls inside r).following
  pub parentheses : (inside : Inside) (at : ℕ) (r : Reader) → GoesOn r (read_parentheses calls inside at r).following
  pub cast : (inside : Inside) (at : ℕ) (type : Got (Option CType)) → GoesOn type.following (read_cast calls inside at type).following
  pub binary : (inside : Inside) (weakest : ℕ) (r : Reader) → GoesOn r (read_binary calls inside weakest r).following
  pub more : (inside : Inside) (weakest : ℕ) (left : Got PartialExpr) → GoesOn left.following (read_more calls inside weakest left).following
  pub expr : (inside : Inside) (r : Reader) → GoesOn r (read_expr calls inside r).following
  pub rest : (inside : Inside) (test : Got PartialExpr) → GoesOn test.following (read_rest calls inside test).following

none-keep : KeepsStop zero
none-keep =
    record {
      unary = λ inside r going. going;
      parentheses = λ inside at r going. going;
      cast = λ inside at type going. going;
      binary = λ inside weakest r going. going;
      more = λ inside weakest left going. going;
      expr = λ inside r going. going;
      rest = λ inside test going. going;
    }

leaf-keeps : (r : Reader) → Keeps r (read_leaf r)
leaf-keeps r =
    choice-cases (Keeps r) (number_of (next_token r)) (λ n is going. going)
    (λ _. choice-cases (Keeps r) (name_of (next_token r)) (λ word is going. going) (λ _ going. absurd (fail-stops r going)))

-- what stands in parentheses, where the reader is
abbrev pub inside_of : ℕ → Inside → ℕ → Reader → Got PartialExpr
inside_of calls inside at here =
    if begins_type (next_token here) then read_cast calls inside at (take_type here)
    else closed (read_expr calls (in_parentheses inside) here)

module _ (calls : ℕ) (keep : KeepsStop calls) where
  unary-keeps : (inside : Inside) (r : Reader) → Keeps r (read_unary (suc calls) inside r)
  unary-keeps inside r =
      if-cases (Keeps r) (nat_le 200 inside.operators) (λ _ going. absurd (stop_at-stops of_depth inside.start r going))
      (λ _. choice-cases (Keeps r) (unary_of (next_token r)) (λ operator is. keep.unary (in_operator inside) (skip r))
      (λ _. if-cases (Keeps r) (sees_mark (codes "(") r) (λ _. keep.parentheses inside r.at (skip r)) (λ _. leaf-keeps r)))

  pub inside-keeps : (inside : Inside) (at : ℕ) (here : Reader) → Keeps here (inside_of calls inside at here)
  inside-keeps inside at here =
      let inner = read_expr calls (in_parentheses inside) here in
      if-cases (Keeps here) (begins_type (next_token here))
      (λ _ going. (type-sound here (keep.cast inside at (take_type here) going)).passed.going)
      (λ _ going. keep.expr (in_parentheses inside) here (take_mark-took (codes ")") inner.following going).passed.going)

  parentheses-keeps : (inside : Inside) (at : ℕ) (r : Reader) → Keeps r (read_parentheses (suc calls) inside at r)
  parentheses-keeps inside at r =
      λ going. enclosed-keeps (in_parentheses inside) r (inside-keeps inside at (stop_if_enclosed (in_parentheses inside) r) going)

  cast-keeps : (inside : Inside) (at : ℕ) (type : Got (Option CType)) → Keeps type.following (read_cast (suc calls) inside at type)
  cast-keeps inside at type =
      choice-cases (Keeps type.following) type.value
      (λ of is going. (take_mark-took (codes ")") type.following (keep.unary (in_operator inside) (take_mark (codes ")") type.following) going)).passed.going)
      (λ _ going. going)

  binary-keeps : (inside : Inside) (weakest : ℕ) (r : Reader) → Keeps r (read_binary (suc calls) inside weakest r)
  binary-keeps inside weakest r = λ going. keep.unary inside r (keep.more inside weakest (read_unary calls inside r) going)

  more-keeps : (inside : Inside) (weakest : ℕ) (left : Got PartialExpr) → Keeps left.following (read_more (suc calls) inside weakest left)
  more-keeps inside weakest left =
      choice-cases (Keeps left.following) (binary_of (next_token left.following))
      (λ operator is. if-cases (Keeps left.following) (nat_le weakest (strength operator))
      (λ _ going.
      let b = read_binary calls (in_operator inside) (suc (strength operator)) (skip left.following) in
      let whole = joined inside operator left.value b in
      keep.binary (in_operator inside) (suc (strength operator)) (skip left.following) (deep-keeps inside whole.value b.following (keep.more inside weakest whole going)))
      (λ _ going. going))
      (λ _ going. going)

  expr-keeps : (inside : Inside) (r : Reader) → Keeps r (read_expr (suc calls) inside r)
  expr-keeps inside r = λ going. keep.binary inside 1 r (keep.rest inside (read_binary calls inside 1 r) going)

  rest-keeps : (inside : Inside) (test : Got PartialExpr) → Keeps test.following (read_rest (suc calls) inside test)
  rest-keeps inside test =
      let first = read_expr calls (in_operator inside) (skip test.following) in
      let second = read_expr calls (in_operator inside) (take_mark (codes ":") first.following) in
      let whole = chosen inside test.value first.value second in
      if-cases (Keeps test.following) (sees_mark (codes "?") test.following)
      (λ _ going.
      let following : second.following.stop ≡ None = deep-keeps inside whole.value second.following going in
      let colon : (take_mark (codes ":") first.following).stop ≡ None = keep.expr (in_operator inside) (take_mark (codes ":") first.following) following in
      keep.expr (in_operator inside) (skip test.following) (take_mark-took (codes ":") first.following colon).passed.going)
      (λ _ going. going)

  one_more-keeps : KeepsStop (suc calls)
  one_more-keeps =
      record { unary = unary-keeps; parentheses = parentheses-keeps; cast = cast-keeps; binary = binary-keeps; more = more-keeps; expr = expr-keeps; rest = rest-keeps }

-- reading that goes on after an expression has gone on before
pub keeps_stop : (calls : ℕ) → KeepsStop calls
keeps_stop zero = none-keep
keeps_stop (suc calls) = one_more-keeps calls (keeps_stop calls)
