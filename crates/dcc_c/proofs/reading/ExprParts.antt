-- Parts of expressions: depth, strength, pairs of parentheses, and leaves.
use Rattle.std.proofs.Common.{◌≡◌, ℕ, zero, suc, ◌+◌, ◌<◌, ◌≤◌, List, refl, ap, subst, arith, add-one, ◌-◌, false}
use Rattle.std.proofs.lemmas.Bool.{leb-false}
use Rattle.std.specs.Prelude.{codes, nat_le}
use Rattle.dcc_c.specs.declared.syntax.CUn.{CUn}
use Rattle.dcc_c.specs.declared.syntax.CUn.TheVariants.{Minus}
use Rattle.dcc_c.specs.declared.syntax.CBin.{CBin}
use Rattle.dcc_c.specs.declared.syntax.CBin.TheVariants.{OrOr}
use Rattle.dcc_c.specs.Token.{WordToken, Mark}
use Rattle.dcc_c.specs.Lexing.{Placed}
use Rattle.dcc_c.specs.Tree.{Expr}
use Rattle.dcc_c.specs.Grammar.{unary_mark, binary_mark, strength, IsExpr, number, name, stronger}
use Rattle.dcc_c.specs.Rules.{expr_depth, most_open}
use Rattle.dcc_c.specs.Partial.{PartialExpr, Missing, NumberHere, NameHere, UnaryHere, BinaryOf, ConditionalOf, CastHere, depth_of}
use Rattle.dcc_c.specs.Reading.{Reader, next_token, skip, name_of, number_of, Inside, read_leaf}
use Rattle.dcc_c.specs.Stripped.{plain_expr}
use Rattle.dcc_c.proofs.reading.Passing.{tokens_of, Took, fail-stops, skip-took}
use Rattle.dcc_c.proofs.reading.Enclosing.{open_after, open_before, enclosed-before}
use Rattle.dcc_c.proofs.reading.Words.{took_enclosed, number_of-is, name_of-is}
use Rattle.dcc_c.proofs.reading.Statements.{IsSound}
use Rattle.dcc_c.proofs.reading.Stopping.{choice-cases}

pub depth_same : (e : PartialExpr) → expr_depth (plain_expr e) ≡ depth_of e
depth_same Missing = refl
depth_same (NumberHere at n base) = refl
depth_same (NameHere at word called) = refl
depth_same (UnaryHere at operator a) = ap suc (depth_same a)
depth_same (BinaryOf operator a b) = rw (depth_same a, depth_same b)
depth_same (ConditionalOf a b c) = rw (depth_same a, depth_same b, depth_same c)
depth_same (CastHere at type a) = ap suc (depth_same a)

pub strength_most : (operator : CBin) → strength operator ≤ 10
strength_most OrOr = omega arith
strength_most _ = omega arith

pub unary_flat : (operator : CUn) (opened : ℕ) → open_after (Mark (unary_mark operator)) opened ≡ opened
unary_flat Minus opened = refl
unary_flat _ opened = refl

pub binary_flat : (operator : CBin) (opened : ℕ) → open_after (Mark (binary_mark operator)) opened ≡ opened
binary_flat OrOr opened = refl
binary_flat _ opened = refl

-- a part that is strong enough is one of a smaller strength too
weaken_by : (more : ℕ) {least : ℕ} {tokens rest : List Placed} {e : Expr} → IsExpr (more + least) tokens e rest → IsExpr least tokens e rest
weaken_by zero {least} {tokens} {rest} {e} derived = subst (λ n. IsExpr n tokens e rest) (let same : 0 + least ≡ least = omega arith in same) derived
weaken_by (suc more) {least} {tokens} {rest} {e} derived =
    weaken_by more (stronger (subst (λ n. IsExpr n tokens e rest) (let same : suc more + least ≡ suc (more + least) = omega arith in same) derived))

pub weaken : {strong least : ℕ} {tokens rest : List Placed} {e : Expr} → least ≤ strong → IsExpr strong tokens e rest → IsExpr least tokens e rest
weaken {strong} {least} {tokens} {rest} {e} below derived =
    weaken_by (strong - least) (subst (λ n. IsExpr n tokens e rest) (let same : strong ≡ strong - least + least = omega arith in same) derived)

-- A pair of parentheses around what keeps to the limit.
pub opening_enclosed : {r following : Reader} (opened : ℕ) → Took (Mark (codes "(")) r following →
    most_open (suc opened) (tokens_of following.left) ≤ 200 → most_open opened (tokens_of r.left) ≤ 200
opening_enclosed {following} opened took few =
    let least : opened ≤ 200 = omega (arith, open_before (suc opened) (tokens_of following.left)) in
    rw took.begins (enclosed-before (Mark (codes "(")) opened took.line (tokens_of following.left) least (rw add-one few))

pub closing_enclosed : {r following : Reader} (opened : ℕ) → suc opened ≤ 200 → Took (Mark (codes ")")) r following →
    most_open opened (tokens_of following.left) ≤ 200 → most_open (suc opened) (tokens_of r.left) ≤ 200
closing_enclosed {following} opened within took few =
    let same : suc opened - 1 ≡ opened = omega arith in
    rw took.begins (enclosed-before (Mark (codes ")")) (suc opened) took.line (tokens_of following.left) within (rw same few))

-- A number or a name.

pub leaf-sound : (inside : Inside) (r : Reader) → nat_le 200 inside.operators ≡ false → IsSound 11 inside r (read_leaf r)
leaf-sound inside r room =
    let few : inside.operators < 200 = leb-false 200 inside.operators room in
    choice-cases (IsSound 11 inside r) (number_of (next_token r))
    (λ n is _.
    let seen = number_of-is (next_token r) n is in
    let took = skip-took r seen.token seen.is in
    record {
      passed = took.passed;
      steady = took.steady;
      shorter = omega (arith, took.one_less);
      derived = rw took.begins (number seen.number);
      enclosed = took_enclosed seen.token r (skip r) took inside.opened (seen.flat inside.opened);
      shallow = omega arith;
    })
    (λ _. choice-cases (IsSound 11 inside r) (name_of (next_token r))
    (λ word is _.
    let seen = name_of-is (next_token r) word is in
    let took = skip-took r (WordToken word) seen.0 in
    record {
      passed = took.passed;
      steady = took.steady;
      shorter = omega (arith, took.one_less);
      derived = rw took.begins (name word seen.1);
      enclosed = took_enclosed (WordToken word) r (skip r) took inside.opened refl;
      shallow = omega arith;
    })
    (λ _ going. absurd (fail-stops r going)))
