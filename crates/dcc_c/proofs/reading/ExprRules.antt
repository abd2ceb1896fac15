-- What is read of an expression is one.
use Rattle.std.proofs.Common.{◌≡◌, ℕ, zero, suc, ◌+◌, ◌≤◌, length, true, Option, Some, None, ap, arith, le_of_suc-le-suc}
use Rattle.std.proofs.lemmas.Bool.{leb-true, leb-false, ltb-false}
use Rattle.std.specs.Prelude.{codes, nat_le, nat_lt, ◌||◌}
use Rattle.dcc_c.specs.declared.syntax.CType.{CType}
use Rattle.dcc_c.specs.declared.syntax.CBin.{CBin}
use Rattle.dcc_c.specs.Token.{Mark}
use Rattle.dcc_c.specs.Grammar.{strength}
use Rattle.dcc_c.specs.Kinds.{of_depth}
use Rattle.dcc_c.specs.Partial.{PartialExpr, BinaryOf, ConditionalOf, depth_of}
use Rattle.dcc_c.specs.Reading.{Reader, Got, got, next_token, skip, fail, stop_at, sees_mark, take_mark, take_type, begins_type, begins_expr, unary_of, binary_of, Inside, in_operator, in_parentheses, stop_if_deep, joined, chosen, read_unary, read_parentheses, read_cast, read_binary, read_more, read_expr, read_rest}
use Rattle.dcc_c.proofs.reading.Passing.{Took, if-cases, stop_at-stops, fail-stops, skip-took, the_mark-is, sees_mark-took, take_mark-took}
use Rattle.dcc_c.proofs.reading.Words.{SoundType, type-sound, unary_of-is, binary_of-is}
use Rattle.dcc_c.proofs.reading.Statements.{IsEnough, IsSound, SoundUnary, SoundExpr}
use Rattle.dcc_c.proofs.reading.Stopping.{choice-cases, keeps_stop, KeepsStop, inside_of, inside-keeps, deep-keeps, deep_left}
use Rattle.dcc_c.proofs.reading.ExprParts.{strength_most, leaf-sound}
use Rattle.dcc_c.proofs.reading.ExprSound.{SoundBinary, SoundAt, weaken_read, none-sound, operator-sound, closed-sound, cast_of-sound, joined-sound, chosen-sound}

-- two operands and their operator, where the whole is not too deep
joined_deep : (inside : Inside) (strong : ℕ) (operator : CBin) (r : Reader) (left b : Got PartialExpr) → SoundBinary strong (suc strong) inside r left →
    binary_of (next_token left.following) ≡ Some operator →
    SoundBinary (suc (strength operator)) (suc (strength operator)) (in_operator inside) (skip left.following) b →
    SoundBinary (strength operator) (suc (strength operator)) inside r (joined inside operator left.value b)
joined_deep inside strong operator r left b read is second =
    let whole = BinaryOf operator left.value b.value in
    let result : Reader → Type 0 = λ following. SoundBinary (strength operator) (suc (strength operator)) inside r (got whole following) in
    if-cases result (nat_lt 200 (inside.operators + depth_of whole)) (λ _ going. absurd (stop_at-stops of_depth inside.start b.following going))
    (λ shallow going.
    let operand = second going in
    let token = binary_of-is (next_token left.following) operator is in
    let took = skip-took left.following _ token in
    let found = read took.passed.going in
    let first = weaken_read (le_of_suc-le-suc (found.ends operator is)) found.read in
    record { read = joined-sound inside r operator left b first token operand.read (ltb-false 200 _ shallow); ends = operand.ends })

deep_length : (inside : Inside) (e : PartialExpr) (r : Reader) → length (stop_if_deep inside e r).left ≡ length r.left
deep_length inside e r = ap length (deep_left inside e r)

module _ (calls : ℕ) (keep : KeepsStop calls) (sound : SoundAt calls) where
  unary-sound : (inside : Inside) (r : Reader) → IsEnough (suc calls) 1 r.left → IsSound 11 inside r (read_unary (suc calls) inside r)
  unary-sound inside r enough =
      if-cases (IsSound 11 inside r) (nat_le 200 inside.operators) (λ _ going. absurd (stop_at-stops of_depth inside.start r going))
      (λ room. choice-cases (IsSound 11 inside r) (unary_of (next_token r))
      (λ operator is going.
      let token = unary_of-is (next_token r) operator is in
      let took = skip-took r _ token in
      operator-sound inside r operator (read_unary calls (in_operator inside) (skip r)) token (sound.unary (in_operator inside) (skip r) (omega (arith, took.one_less)) going))
      (λ _. if-cases (IsSound 11 inside r) (sees_mark (codes "(") r)
      (λ sees.
      let took = sees_mark-took (codes "(") r sees in
      sound.parentheses inside r.at r (skip r) took (omega (arith, took.one_less)))
      (λ _. leaf-sound inside r room)))

  inside-sound : (inside : Inside) (at : ℕ) (start r : Reader) → Took (Mark (codes "(")) start r → suc inside.opened ≤ 200 → IsEnough (suc calls) 4 r.left →
      IsSound 11 inside start (inside_of calls inside at r)
  inside-sound inside at start r took few enough =
      if-cases (IsSound 11 inside start) (begins_type (next_token r))
      (λ _. sound.cast inside at start r (take_type r) took (type-sound r) few (λ going. omega (arith, (type-sound r going).shorter)))
      (λ _. closed-sound inside start r (read_expr calls (in_parentheses inside) r) took few (sound.expr (in_parentheses inside) r (omega arith)))

  parentheses-sound : (inside : Inside) (at : ℕ) (start r : Reader) → Took (Mark (codes "(")) start r → IsEnough (suc calls) 4 r.left →
      IsSound 11 inside start (read_parentheses (suc calls) inside at r)
  parentheses-sound inside at start r took enough =
      let result : Reader → Type 0 = λ here. IsSound 11 inside start (inside_of calls inside at here) in
      if-cases result (nat_lt 200 (suc inside.opened))
      (λ _. if-cases result (begins_expr (next_token r) || begins_type (next_token r))
      (λ _ going. absurd (stop_at-stops of_depth r.at r (inside-keeps calls keep inside at (stop_at of_depth r.at r) going)))
      (λ _ going. absurd (fail-stops r (inside-keeps calls keep inside at (fail r) going))))
      (λ room. inside-sound inside at start r took (ltb-false 200 (suc inside.opened) room) enough)

  cast-sound : (inside : Inside) (at : ℕ) (start r : Reader) (type : Got (Option CType)) → Took (Mark (codes "(")) start r →
      SoundType r type → suc inside.opened ≤ 200 → (type.following.stop ≡ None → IsEnough (suc calls) 1 type.following.left) →
      IsSound 11 inside start (read_cast (suc calls) inside at type)
  cast-sound inside at start r type took typed few enough =
      choice-cases (IsSound 11 inside start) type.value
      (λ of is going.
      let following = take_mark (codes ")") type.following in
      let close = take_mark-took (codes ")") type.following (keep.unary (in_operator inside) following going) in
      cast_of-sound inside at start r type of (read_unary calls (in_operator inside) following) took few (typed close.passed.going) is close
      (sound.unary (in_operator inside) following (omega (arith, close.one_less, enough close.passed.going)) going))
      (λ nothing going. absurd (let some = (typed going).is in cc))

  binary-sound : (inside : Inside) (least : ℕ) (r : Reader) → least ≤ 11 → IsEnough (suc calls) 2 r.left →
      SoundBinary least least inside r (read_binary (suc calls) inside least r)
  binary-sound inside least r small enough =
      let first = read_unary calls inside r in
      let read = sound.unary inside r (omega arith) in
      sound.more inside least 11 r first small (λ going. omega (arith, (read going).shorter))
      (λ going. record { read = read going; ends = λ operator is. omega (arith, strength_most operator) })

  more-sound : (inside : Inside) (least strong : ℕ) (r : Reader) (left : Got PartialExpr) → least ≤ strong →
      (left.following.stop ≡ None → IsEnough (suc calls) 0 left.following.left) → SoundBinary strong (suc strong) inside r left →
      SoundBinary least least inside r (read_more (suc calls) inside least left)
  more-sound inside least strong r left below enough read =
      let result : Got PartialExpr → Type 0 = SoundBinary least least inside r in
      choice-cases result (binary_of (next_token left.following))
      (λ operator is. if-cases result (nat_le least (strength operator))
      (λ above going.
      let b = read_binary calls (in_operator inside) (suc (strength operator)) (skip left.following) in
      let whole = joined inside operator left.value b in
      let took = skip-took left.following _ (binary_of-is (next_token left.following) operator is) in
      let room = enough took.passed.going in
      let second = sound.binary (in_operator inside) (suc (strength operator)) (skip left.following) (omega (arith, strength_most operator)) (omega (arith, took.one_less, room)) in
      let both = joined_deep inside strong operator r left b read is second in
      sound.more inside least (strength operator) r whole (leb-true least (strength operator) above)
      (λ on. omega (arith, took.one_less, room, deep_length inside whole.value b.following, (second (deep-keeps inside whole.value b.following on)).read.shorter)) both going)
      (λ under going.
      let found = read going in
      record { read = weaken_read below found.read; ends = λ other same. (let one : operator ≡ other = cc in rw (← one) (leb-false least (strength operator) under)) }))
      (λ nothing going.
      let found = read going in
      record { read = weaken_read below found.read; ends = λ other same. absurd (let none = nothing in cc) })

  expr-sound : (inside : Inside) (r : Reader) → IsEnough (suc calls) 3 r.left → IsSound 0 inside r (read_expr (suc calls) inside r)
  expr-sound inside r enough =
      let read = sound.binary inside 1 r (omega arith) (omega arith) in
      sound.rest inside r (read_binary calls inside 1 r) (λ going. omega (arith, (read going).read.shorter)) (λ going. (read going).read)

  chosen_deep : (inside : Inside) (r : Reader) (test : Got PartialExpr) → (test.following.stop ≡ None → IsEnough (suc calls) 0 test.following.left) →
      IsSound 1 inside r test → sees_mark (codes "?") test.following ≡ true →
      IsSound 0 inside r (chosen inside test.value (read_expr calls (in_operator inside) (skip test.following)).value (read_expr calls (in_operator inside) (take_mark (codes ":") (read_expr calls (in_operator inside) (skip test.following)).following)))
  chosen_deep inside r test enough read sees =
      let first = read_expr calls (in_operator inside) (skip test.following) in
      let between = take_mark (codes ":") first.following in
      let second = read_expr calls (in_operator inside) between in
      let whole = ConditionalOf test.value first.value second.value in
      let result : Reader → Type 0 = λ following. IsSound 0 inside r (got whole following) in
      if-cases result (nat_lt 200 (inside.operators + depth_of whole)) {x = stop_at of_depth inside.start second.following} {y = second.following}
      (λ _ going. absurd (stop_at-stops of_depth inside.start second.following going))
      (λ shallow going.
      let token = the_mark-is (codes "?") (next_token test.following) sees in
      let took = skip-took test.following (Mark (codes "?")) token in
      let colon = take_mark-took (codes ":") first.following (keep.expr (in_operator inside) between going) in
      let room = enough took.passed.going in
      let one_way = sound.expr (in_operator inside) (skip test.following) (omega (arith, took.one_less, room)) colon.passed.going in
      let other = sound.expr (in_operator inside) between (omega (arith, took.one_less, room, one_way.shorter, colon.one_less)) going in
      chosen-sound inside r test first second (read took.passed.going) token one_way colon other (ltb-false 200 _ shallow))

  rest-sound : (inside : Inside) (r : Reader) (test : Got PartialExpr) → (test.following.stop ≡ None → IsEnough (suc calls) 0 test.following.left) →
      IsSound 1 inside r test → IsSound 0 inside r (read_rest (suc calls) inside test)
  rest-sound inside r test enough read =
      if-cases (IsSound 0 inside r) (sees_mark (codes "?") test.following) (λ sees. chosen_deep inside r test enough read sees)
      (λ _ going. weaken_read (omega arith) (read going))

  one_more-sound : SoundAt (suc calls)
  one_more-sound =
      record { unary = unary-sound; parentheses = parentheses-sound; cast = cast-sound; binary = binary-sound; more = more-sound; expr = expr-sound; rest = rest-sound }

-- what has been read of an expression is one
pub sound_at : (calls : ℕ) → SoundAt calls
sound_at zero = none-sound
sound_at (suc calls) = one_more-sound calls (keeps_stop calls) (sound_at calls)

pub sound_expr : SoundExpr
sound_expr calls inside r enough = (sound_at calls).expr inside r enough

pub sound_unary : SoundUnary
sound_unary calls inside r enough = (sound_at calls).unary inside r enough
