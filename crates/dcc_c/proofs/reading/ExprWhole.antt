-- An expression that has been read is complete, where no parenthesis stands after it.
use Rattle.std.proofs.Common.{◌≡◌, ℕ, zero, suc, ◌+◌, ◌≤◌, length, true, false, Option, Some, None, refl, ap, ◌∙◌, arith}
use Rattle.std.specs.Prelude.{codes, nat_le, nat_lt, ◌||◌, is_some}
use Rattle.std.proofs.lemmas.Bool.{and_from, not_from_false}
use Rattle.dcc_c.specs.declared.syntax.CType.{CType}
use Rattle.dcc_c.specs.declared.syntax.CBin.{CBin}
use Rattle.dcc_c.specs.declared.syntax.CBin.TheVariants.{OrOr}
use Rattle.dcc_c.specs.Token.{same_bytes}
use Rattle.dcc_c.specs.Tree.{Word}
use Rattle.dcc_c.specs.Grammar.{binary_mark, strength}
use Rattle.dcc_c.specs.Kinds.{of_depth}
use Rattle.dcc_c.specs.Partial.{PartialExpr, BinaryOf, ConditionalOf, depth_of}
use Rattle.dcc_c.specs.Reading.{Reader, Got, got, next_token, skip, fail, stop_at, is_the_mark, name_of, number_of, sees_mark, take_mark, take_type, begins_type, begins_expr, unary_of, binary_of, Inside, in_operator, in_parentheses, joined, chosen, read_leaf, read_unary, read_parentheses, read_cast, read_binary, read_more, read_expr, read_rest}
use Rattle.dcc_c.specs.Complete.{is_complete_expr}
use Rattle.dcc_c.proofs.reading.Passing.{if-cases, stop_at-stops, fail-stops, skip-took, the_mark-is, sees_mark-took, take_mark-took}
use Rattle.dcc_c.proofs.reading.Words.{type-sound, unary_of-is, binary_of-is}
use Rattle.dcc_c.proofs.reading.Statements.{IsEnough}
use Rattle.dcc_c.proofs.reading.Stopping.{choice-cases, keeps_stop, KeepsStop, inside_of, inside-keeps, deep-keeps, deep_left}
use Rattle.dcc_c.proofs.reading.ExprParts.{strength_most}
use Rattle.dcc_c.proofs.reading.ExprSound.{SoundAt}
use Rattle.dcc_c.proofs.reading.ExprRules.{sound_at}

-- no opening parenthesis is next
abbrev pub NoCall : Reader → Type 0
NoCall r = sees_mark (codes "(") r ≡ false

-- reading that has not stopped, and does not stand before a parenthesis, has read the whole expression
abbrev pub Entire : Got PartialExpr → Type 0
Entire g = g.following.stop ≡ None → NoCall g.following → is_complete_expr g.value ≡ true

-- another mark is next
pub mark-no_call : (bytes : Word) (r : Reader) → same_bytes bytes (codes "(") ≡ false → sees_mark bytes r ≡ true → NoCall r
mark-no_call bytes r other sees = ap (is_the_mark (codes "(")) (the_mark-is bytes (next_token r) sees) ∙ other

pub taken-no_call : (bytes : Word) (r : Reader) → same_bytes bytes (codes "(") ≡ false → (take_mark bytes r).stop ≡ None → NoCall r
taken-no_call bytes r other =
    if-cases (λ (following : Reader). following.stop ≡ None → NoCall r) (sees_mark bytes r)
    (λ sees _. mark-no_call bytes r other sees) (λ _ going. absurd (fail-stops r going))

binary_other : (operator : CBin) → same_bytes (binary_mark operator) (codes "(") ≡ false
binary_other OrOr = refl
binary_other _ = refl

binary-no_call : (operator : CBin) (r : Reader) → binary_of (next_token r) ≡ Some operator → NoCall r
binary-no_call operator r is = ap (is_the_mark (codes "(")) (binary_of-is (next_token r) operator is) ∙ binary_other operator

-- reading an expression with so many calls reads the whole of it
pub record EntireAt (calls : ℕ) : Type 0 where
  pub unary : (inside : Inside) (r : Reader) → IsEnough calls 1 r.left → Entire (read_unary calls inside r)
  pub parentheses : (inside : Inside) (at : ℕ) (r : Reader) → IsEnough calls 4 r.left → Entire (read_parentheses calls inside at r)
  pub cast : (inside : Inside) (at : ℕ) (type : Got (Option CType)) → (type.following.stop ≡ None → is_some type.value ≡ true) →
      (type.following.stop ≡ None → IsEnough calls 1 type.following.left) → Entire (read_cast calls inside at type)
  pub binary : (inside : Inside) (least : ℕ) (r : Reader) → least ≤ 11 → IsEnough calls 2 r.left → Entire (read_binary calls inside least r)
  pub more : (inside : Inside) (least : ℕ) (left : Got PartialExpr) → (left.following.stop ≡ None → IsEnough calls 0 left.following.left) →
      Entire left → Entire (read_more calls inside least left)
  pub expr : (inside : Inside) (r : Reader) → IsEnough calls 3 r.left → Entire (read_expr calls inside r)
  pub rest : (inside : Inside) (test : Got PartialExpr) → (test.following.stop ≡ None → IsEnough calls 0 test.following.left) →
      Entire test → Entire (read_rest calls inside test)

none-entire : EntireAt zero
none-entire =
    record {
      unary = λ inside r enough. absurd (omega arith);
      parentheses = λ inside at r enough. absurd (omega arith);
      cast = λ inside at type some enough going. absurd (omega (arith, enough going));
      binary = λ inside least r small enough. absurd (omega arith);
      more = λ inside least left enough read. read;
      expr = λ inside r enough. absurd (omega arith);
      rest = λ inside test enough read. read;
    }

leaf-entire : (r : Reader) → Entire (read_leaf r)
leaf-entire r =
    choice-cases Entire (number_of (next_token r)) (λ n is going ends. refl)
    (λ _. choice-cases Entire (name_of (next_token r)) (λ word is going ends. not_from_false (sees_mark (codes "(") (skip r)) ends)
    (λ _ going. absurd (fail-stops r going)))

module _ (calls : ℕ) (keep : KeepsStop calls) (sound : SoundAt calls) (entire : EntireAt calls) where
  unary_entire : (inside : Inside) (r : Reader) → IsEnough (suc calls) 1 r.left → Entire (read_unary (suc calls) inside r)
  unary_entire inside r enough =
      if-cases Entire (nat_le 200 inside.operators) (λ _ going. absurd (stop_at-stops of_depth inside.start r going))
      (λ _. choice-cases Entire (unary_of (next_token r))
      (λ operator is.
      let took = skip-took r _ (unary_of-is (next_token r) operator is) in
      entire.unary (in_operator inside) (skip r) (omega (arith, took.one_less)))
      (λ _. if-cases Entire (sees_mark (codes "(") r)
      (λ sees.
      let took = sees_mark-took (codes "(") r sees in
      entire.parentheses inside r.at (skip r) (omega (arith, took.one_less)))
      (λ _. leaf-entire r)))

  inside_entire : (inside : Inside) (at : ℕ) (r : Reader) → IsEnough (suc calls) 4 r.left → Entire (inside_of calls inside at r)
  inside_entire inside at r enough =
      let inner = read_expr calls (in_parentheses inside) r in
      if-cases Entire (begins_type (next_token r))
      (λ _. entire.cast inside at (take_type r) (λ going. ap is_some (type-sound r going).is) (λ going. omega (arith, (type-sound r going).shorter)))
      (λ _ going _.
      entire.expr (in_parentheses inside) r (omega arith) (take_mark-took (codes ")") inner.following going).passed.going (taken-no_call (codes ")") inner.following refl going))

  parentheses_entire : (inside : Inside) (at : ℕ) (r : Reader) → IsEnough (suc calls) 4 r.left → Entire (read_parentheses (suc calls) inside at r)
  parentheses_entire inside at r enough =
      let result : Reader → Type 0 = λ here. Entire (inside_of calls inside at here) in
      if-cases result (nat_lt 200 (suc inside.opened))
      (λ _. if-cases result (begins_expr (next_token r) || begins_type (next_token r))
      (λ _ going. absurd (stop_at-stops of_depth r.at r (inside-keeps calls keep inside at (stop_at of_depth r.at r) going)))
      (λ _ going. absurd (fail-stops r (inside-keeps calls keep inside at (fail r) going))))
      (λ _. inside_entire inside at r enough)

  cast_entire : (inside : Inside) (at : ℕ) (type : Got (Option CType)) → (type.following.stop ≡ None → is_some type.value ≡ true) →
      (type.following.stop ≡ None → IsEnough (suc calls) 1 type.following.left) → Entire (read_cast (suc calls) inside at type)
  cast_entire inside at type some enough =
      choice-cases Entire type.value
      (λ of is going ends.
      let following = take_mark (codes ")") type.following in
      let close = take_mark-took (codes ")") type.following (keep.unary (in_operator inside) following going) in
      entire.unary (in_operator inside) following (omega (arith, close.one_less, enough close.passed.going)) going ends)
      (λ nothing going. absurd (let there = some going in let none : is_some type.value ≡ false = ap is_some nothing in cc))

  binary_entire : (inside : Inside) (least : ℕ) (r : Reader) → least ≤ 11 → IsEnough (suc calls) 2 r.left → Entire (read_binary (suc calls) inside least r)
  binary_entire inside least r small enough =
      entire.more inside least (read_unary calls inside r) (λ going. omega (arith, (sound.unary inside r (omega arith) going).shorter))
      (entire.unary inside r (omega arith))

  -- two operands and their operator
  joined_entire : (inside : Inside) (operator : CBin) (left b : Got PartialExpr) → binary_of (next_token left.following) ≡ Some operator →
      Entire left → (b.following.stop ≡ None → left.following.stop ≡ None) → Entire b → Entire (joined inside operator left.value b)
  joined_entire inside operator left b is first before second =
      let whole = BinaryOf operator left.value b.value in
      let result : Reader → Type 0 = λ following. Entire (got whole following) in
      if-cases result (nat_lt 200 (inside.operators + depth_of whole)) {x = stop_at of_depth inside.start b.following} {y = b.following}
      (λ _ going. absurd (stop_at-stops of_depth inside.start b.following going))
      (λ _ going ends. and_from _ _ (first (before going) (binary-no_call operator left.following is)) (second going ends))

  more_entire : (inside : Inside) (least : ℕ) (left : Got PartialExpr) → (left.following.stop ≡ None → IsEnough (suc calls) 0 left.following.left) →
      Entire left → Entire (read_more (suc calls) inside least left)
  more_entire inside least left enough read =
      choice-cases Entire (binary_of (next_token left.following))
      (λ operator is. if-cases Entire (nat_le least (strength operator))
      (λ _.
      let b = read_binary calls (in_operator inside) (suc (strength operator)) (skip left.following) in
      let whole = joined inside operator left.value b in
      let took = skip-took left.following _ (binary_of-is (next_token left.following) operator is) in
      let room = enough took.passed.going in
      let small : suc (strength operator) ≤ 11 = omega (arith, strength_most operator) in
      let within : IsEnough calls 2 (skip left.following).left = omega (arith, took.one_less, room) in
      entire.more inside least whole
      (λ on. omega (arith, took.one_less, room, ap length (deep_left inside whole.value b.following), (sound.binary (in_operator inside) (suc (strength operator)) (skip left.following) small within (deep-keeps inside whole.value b.following on)).read.shorter))
      (joined_entire inside operator left b is read (λ _. took.passed.going) (entire.binary (in_operator inside) (suc (strength operator)) (skip left.following) small within)))
      (λ _. read))
      (λ _. read)

  expr_entire : (inside : Inside) (r : Reader) → IsEnough (suc calls) 3 r.left → Entire (read_expr (suc calls) inside r)
  expr_entire inside r enough =
      entire.rest inside (read_binary calls inside 1 r) (λ going. omega (arith, (sound.binary inside 1 r (omega arith) (omega arith) going).read.shorter))
      (entire.binary inside 1 r (omega arith) (omega arith))

  chosen_entire : (inside : Inside) (test : Got PartialExpr) → (test.following.stop ≡ None → IsEnough (suc calls) 0 test.following.left) → Entire test → sees_mark (codes "?") test.following ≡ true →
      Entire (chosen inside test.value (read_expr calls (in_operator inside) (skip test.following)).value (read_expr calls (in_operator inside) (take_mark (codes ":") (read_expr calls (in_operator inside) (skip test.following)).following)))
  chosen_entire inside test enough read sees =
      let first = read_expr calls (in_operator inside) (skip test.following) in
      let between = take_mark (codes ":") first.following in
      let second = read_expr calls (in_operator inside) between in
      let whole = ConditionalOf test.value first.value second.value in
      let result : Reader → Type 0 = λ following. Entire (got whole following) in
      if-cases result (nat_lt 200 (inside.operators + depth_of whole)) {x = stop_at of_depth inside.start second.following} {y = second.following}
      (λ _ going. absurd (stop_at-stops of_depth inside.start second.following going))
      (λ _ going ends.
      let took = sees_mark-took (codes "?") test.following sees in
      let on = keep.expr (in_operator inside) between going in
      let colon = take_mark-took (codes ":") first.following on in
      let room = enough took.passed.going in
      let shorter = (sound.expr (in_operator inside) (skip test.following) (omega (arith, took.one_less, room)) colon.passed.going).shorter in
      and_from _ _ (read took.passed.going (mark-no_call (codes "?") test.following refl sees))
      (and_from _ _ (entire.expr (in_operator inside) (skip test.following) (omega (arith, took.one_less, room)) colon.passed.going (taken-no_call (codes ":") first.following refl on))
      (entire.expr (in_operator inside) between (omega (arith, took.one_less, room, shorter, colon.one_less)) going ends)))

  rest_entire : (inside : Inside) (test : Got PartialExpr) → (test.following.stop ≡ None → IsEnough (suc calls) 0 test.following.left) → Entire test →
      Entire (read_rest (suc calls) inside test)
  rest_entire inside test enough read =
      if-cases Entire (sees_mark (codes "?") test.following) (λ sees. chosen_entire inside test enough read sees) (λ _. read)

  one_more-entire : EntireAt (suc calls)
  one_more-entire =
      record { unary = unary_entire; parentheses = parentheses_entire; cast = cast_entire; binary = binary_entire; more = more_entire; expr = expr_entire; rest = rest_entire }

-- an expression that has been read is complete
pub entire_at : (calls : ℕ) → EntireAt calls
entire_at zero = none-entire
entire_at (suc calls) = one_more-entire calls (keeps_stop calls) (sound_at calls) (entire_at calls)

pub expr-entire : (calls : ℕ) (inside : Inside) (r : Reader) → IsEnough calls 3 r.left → Entire (read_expr calls inside r)
expr-entire calls inside r enough = (entire_at calls).expr inside r enough

pub unary-entire : (calls : ℕ) (inside : Inside) (r : Reader) → IsEnough calls 1 r.left → Entire (read_unary calls inside r)
unary-entire calls inside r enough = (entire_at calls).unary inside r enough
