-- Expressions are the same with more calls than enough.
use Rattle.std.proofs.Common.{◌≡◌, ℕ, zero, suc, ◌+◌, ◌*◌, ◌≤◌, Option, refl, ap, ◌∙◌, arith}
use Rattle.std.specs.Prelude.{codes, nat_le, nat_lt, ◌||◌}
use Rattle.dcc_c.specs.declared.syntax.CType.{CType}
use Rattle.dcc_c.specs.Grammar.{strength}
use Rattle.dcc_c.specs.Kinds.{of_depth}
use Rattle.dcc_c.specs.Partial.{PartialExpr, depth_of}
use Rattle.dcc_c.specs.Reading.{Reader, Got, next_token, skip, is_the_mark, sees_mark, take_mark, take_type, begins_type, begins_expr, unary_of, binary_of, Inside, in_operator, in_parentheses, stop_if_deep, stop_if_enclosed, cast_of, unary_at, closed, joined, chosen, read_unary, read_parentheses, read_cast, read_binary, read_more, read_expr, read_rest}
use Rattle.dcc_c.proofs.reading.Passing.{if-cases}
use Rattle.dcc_c.proofs.reading.Stopping.{inside_of, keeps_stop}
use Rattle.dcc_c.proofs.reading.ExprParts.{strength_most}
use Rattle.dcc_c.proofs.reading.ExprRules.{sound_at}
use Rattle.dcc_reader.proofs.calls.ToRead.{to_read, Enough, going-reads, passed-reads, sees-reads, finds-reads, stop-reads, fail-reads, mark-reads, type-reads, if-same, choice-same}

-- What is left to read.

deep-reads : (inside : Inside) (e : PartialExpr) (r : Reader) → to_read (stop_if_deep inside e r) ≤ to_read r
deep-reads inside e r =
    if-cases (λ following. to_read following ≤ to_read r) (nat_lt 200 (inside.operators + depth_of e))
    (λ _. omega (arith, stop-reads of_depth inside.start r)) (λ _. omega arith)

enclosed-reads : (inside : Inside) (r : Reader) → to_read (stop_if_enclosed inside r) ≤ to_read r
enclosed-reads inside r =
    let less : Reader → Type 0 = λ following. to_read following ≤ to_read r in
    if-cases less (nat_lt 200 inside.opened)
    (λ _. if-cases less (begins_expr (next_token r) || begins_type (next_token r))
    (λ _. omega (arith, stop-reads of_depth r.at r)) (λ _. omega (arith, fail-reads r)))
    (λ _. omega arith)

pub unary-reads : (calls : ℕ) (inside : Inside) (r : Reader) → Enough calls 1 r → to_read (read_unary calls inside r).following ≤ to_read r
unary-reads calls inside r enough =
    passed-reads r (read_unary calls inside r).following
    (λ going. ((sound_at calls).unary inside r (omega (arith, enough, going-reads r ((keeps_stop calls).unary inside r going))) going).passed)

binary-reads : (calls : ℕ) (inside : Inside) (weakest : ℕ) (r : Reader) → weakest ≤ 11 → Enough calls 2 r → to_read (read_binary calls inside weakest r).following ≤ to_read r
binary-reads calls inside weakest r small enough =
    passed-reads r (read_binary calls inside weakest r).following
    (λ going. ((sound_at calls).binary inside weakest r small (omega (arith, enough, going-reads r ((keeps_stop calls).binary inside weakest r going))) going).read.passed)

pub expr-reads : (calls : ℕ) (inside : Inside) (r : Reader) → Enough calls 3 r → to_read (read_expr calls inside r).following ≤ to_read r
expr-reads calls inside r enough =
    passed-reads r (read_expr calls inside r).following
    (λ going. ((sound_at calls).expr inside r (omega (arith, enough, going-reads r ((keeps_stop calls).expr inside r going))) going).passed)

-- What is read.

-- reading an expression with two numbers of calls gives the same where the first of them is enough
record ExprsSame (few many : ℕ) : Type 0 where
  unary : (inside : Inside) (r : Reader) → Enough few 1 r → read_unary few inside r ≡ read_unary many inside r
  parentheses : (inside : Inside) (at : ℕ) (r : Reader) → Enough few 4 r → read_parentheses few inside at r ≡ read_parentheses many inside at r
  cast : (inside : Inside) (at : ℕ) (type : Got (Option CType)) → Enough few 2 type.following → read_cast few inside at type ≡ read_cast many inside at type
  binary : (inside : Inside) (weakest : ℕ) (r : Reader) → weakest ≤ 11 → Enough few 2 r → read_binary few inside weakest r ≡ read_binary many inside weakest r
  more : (inside : Inside) (weakest : ℕ) (left : Got PartialExpr) → Enough few 1 left.following → read_more few inside weakest left ≡ read_more many inside weakest left
  expr : (inside : Inside) (r : Reader) → Enough few 3 r → read_expr few inside r ≡ read_expr many inside r
  rest : (inside : Inside) (test : Got PartialExpr) → Enough few 1 test.following → read_rest few inside test ≡ read_rest many inside test

none-same : (many : ℕ) → ExprsSame zero many
none-same many =
    record {
      unary = λ inside r enough. absurd (omega (arith, enough));
      parentheses = λ inside at r enough. absurd (omega (arith, enough));
      cast = λ inside at type enough. absurd (omega (arith, enough));
      binary = λ inside weakest r small enough. absurd (omega (arith, enough));
      more = λ inside weakest left enough. absurd (omega (arith, enough));
      expr = λ inside r enough. absurd (omega (arith, enough));
      rest = λ inside test enough. absurd (omega (arith, enough));
    }

module _ (few many : ℕ) (below : few ≤ many) (same : ExprsSame few many) where
  unary-same : (inside : Inside) (r : Reader) → Enough (suc few) 1 r → read_unary (suc few) inside r ≡ read_unary (suc many) inside r
  unary-same inside r enough =
      if-same (nat_le 200 inside.operators) (λ _. refl)
      (λ _. choice-same (unary_of (next_token r))
      (λ operator is. ap (unary_at r.at operator) (same.unary (in_operator inside) (skip r) (omega (arith, enough, finds-reads unary_of operator r refl is))))
      (λ _. if-same (sees_mark (codes "(") r)
      (λ sees. same.parentheses inside r.at (skip r) (omega (arith, enough, sees-reads (is_the_mark (codes "(")) r refl sees)))
      (λ _. refl)))

  inside-same : (inside : Inside) (at : ℕ) (here : Reader) → Enough few 3 here → inside_of few inside at here ≡ inside_of many inside at here
  inside-same inside at here enough =
      if-same (begins_type (next_token here))
      (λ _. same.cast inside at (take_type here) (omega (arith, enough, type-reads here)))
      (λ _. ap closed (same.expr (in_parentheses inside) here enough))

  parentheses-same : (inside : Inside) (at : ℕ) (r : Reader) → Enough (suc few) 4 r → read_parentheses (suc few) inside at r ≡ read_parentheses (suc many) inside at r
  parentheses-same inside at r enough =
      inside-same inside at (stop_if_enclosed (in_parentheses inside) r) (omega (arith, enough, enclosed-reads (in_parentheses inside) r))

  cast-same : (inside : Inside) (at : ℕ) (type : Got (Option CType)) → Enough (suc few) 2 type.following → read_cast (suc few) inside at type ≡ read_cast (suc many) inside at type
  cast-same inside at type enough =
      let after = take_mark (codes ")") type.following in
      choice-same type.value (λ of _. ap (cast_of at of) (same.unary (in_operator inside) after (omega (arith, enough, mark-reads (codes ")") type.following)))) (λ _. refl)

  binary-same : (inside : Inside) (weakest : ℕ) (r : Reader) → weakest ≤ 11 → Enough (suc few) 2 r → read_binary (suc few) inside weakest r ≡ read_binary (suc many) inside weakest r
  binary-same inside weakest r small enough =
      ap (read_more few inside weakest) (same.unary inside r (omega (arith, enough)))
      ∙ same.more inside weakest (read_unary many inside r) (omega (arith, enough, unary-reads many inside r (omega (arith, below, enough))))

  more-same : (inside : Inside) (weakest : ℕ) (left : Got PartialExpr) → Enough (suc few) 1 left.following → read_more (suc few) inside weakest left ≡ read_more (suc many) inside weakest left
  more-same inside weakest left enough =
      choice-same (binary_of (next_token left.following))
      (λ operator is. if-same (nat_le weakest (strength operator))
      (λ _.
      let within = in_operator inside in
      let next = suc (strength operator) in
      let here = skip left.following in
      let b = read_binary many within next here in
      let whole = joined inside operator left.value b in
      let small : next ≤ 11 = omega (arith, strength_most operator) in
      let room : 16 * to_read here + 2 ≤ few = omega (arith, enough, finds-reads binary_of operator left.following refl is) in
      let less : to_read b.following ≤ to_read here = binary-reads many within next here small (omega (arith, below, room)) in
      ap (λ (g : Got PartialExpr). read_more few inside weakest (joined inside operator left.value g)) (same.binary within next here small room)
      ∙ same.more inside weakest whole (omega (arith, room, less, deep-reads inside whole.value b.following)))
      (λ _. refl))
      (λ _. refl)

  expr-same : (inside : Inside) (r : Reader) → Enough (suc few) 3 r → read_expr (suc few) inside r ≡ read_expr (suc many) inside r
  expr-same inside r enough =
      ap (read_rest few inside) (same.binary inside 1 r (omega arith) (omega (arith, enough)))
      ∙ same.rest inside (read_binary many inside 1 r) (omega (arith, enough, binary-reads many inside 1 r (omega arith) (omega (arith, below, enough))))

  rest-same : (inside : Inside) (test : Got PartialExpr) → Enough (suc few) 1 test.following → read_rest (suc few) inside test ≡ read_rest (suc many) inside test
  rest-same inside test enough =
      if-same (sees_mark (codes "?") test.following)
      (λ sees.
      let within = in_operator inside in
      let here = skip test.following in
      let first = read_expr many within here in
      let between = take_mark (codes ":") first.following in
      let room : 16 * to_read here + 3 ≤ few = omega (arith, enough, sees-reads (is_the_mark (codes "?")) test.following refl sees) in
      let less : to_read first.following ≤ to_read here = expr-reads many within here (omega (arith, below, room)) in
      ap (λ (g : Got PartialExpr). chosen inside test.value g.value (read_expr few within (take_mark (codes ":") g.following))) (same.expr within here room)
      ∙ ap (chosen inside test.value first.value) (same.expr within between (omega (arith, room, less, mark-reads (codes ":") first.following))))
      (λ _. refl)

  one_more-same : ExprsSame (suc few) (suc many)
  one_more-same =
      record { unary = unary-same; parentheses = parentheses-same; cast = cast-same; binary = binary-same; more = more-same; expr = expr-same; rest = rest-same }

exprs_same : (few many : ℕ) → few ≤ many → ExprsSame few many
exprs_same zero many below = none-same many
exprs_same (suc few) zero below = absurd (omega (arith, below))
exprs_same (suc few) (suc many) below =
    let less : few ≤ many = omega (arith, below) in
    one_more-same few many less (exprs_same few many less)

-- With calls that are enough for an expression, or for a unary part, more calls read the same.
pub same_expr : (few many : ℕ) (inside : Inside) (r : Reader) → few ≤ many → Enough few 3 r → read_expr few inside r ≡ read_expr many inside r
same_expr few many inside r below enough = (exprs_same few many below).expr inside r enough

pub same_unary : (few many : ℕ) (inside : Inside) (r : Reader) → few ≤ many → Enough few 1 r → read_unary few inside r ≡ read_unary many inside r
same_unary few many inside r below enough = (exprs_same few many below).unary inside r enough
