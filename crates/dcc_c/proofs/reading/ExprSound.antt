-- What reading an expression makes of its parts is one.
use Rattle.std.proofs.Common.{◌≡◌, ℕ, zero, suc, ◌+◌, ◌*◌, ◌≤◌, List, [], ◌∷◌, length, Option, Some, None, refl, sym, ap, ◌∙◌, subst, arith}
use Rattle.std.specs.Prelude.{codes}
use Rattle.dcc_c.specs.declared.syntax.CType.{CType}
use Rattle.dcc_c.specs.declared.syntax.CBin.{CBin}
use Rattle.dcc_c.specs.Token.{Token, Mark}
use Rattle.dcc_c.specs.declared.syntax.CUn.{CUn}
use Rattle.dcc_c.specs.Pieces.{Piece}
use Rattle.dcc_c.specs.Grammar.{mark, type_tokens, unary_mark, binary_mark, strength, Begins, IsExpr, parentheses, unary, cast, binary, conditional}
use Rattle.dcc_c.specs.Partial.{PartialExpr, BinaryOf, ConditionalOf, depth_of}
use Rattle.dcc_c.specs.Reading.{Reader, Got, got, first_token, next_token, skip, take_mark, binary_of, Inside, in_operator, in_parentheses, cast_of, unary_at, closed, read_unary, read_parentheses, read_cast, read_binary, read_more, read_expr, read_rest}
use Rattle.dcc_c.specs.Stripped.{plain_expr}
use Rattle.dcc_c.proofs.reading.Passing.{tokens_of, Took, then_passed, skip-took, take_mark-took}
use Rattle.dcc_c.proofs.reading.Words.{SoundType, took_enclosed}
use Rattle.dcc_c.proofs.reading.Statements.{IsEnough, IsWeaker, ReadsExpr, IsSound, ReadsType}
use Rattle.dcc_c.proofs.reading.ExprParts.{depth_same, unary_flat, binary_flat, weaken, opening_enclosed, closing_enclosed}

-- What was read of operands and their operators, and no operator follows that belongs to them.
pub record ReadsBinary (least limit : ℕ) (inside : Inside) (r : Reader) (g : Got PartialExpr) : Type 0 where
  pub read : ReadsExpr least inside r g
  pub ends : IsWeaker limit (next_token g.following)

abbrev pub SoundBinary : ℕ → ℕ → Inside → Reader → Got PartialExpr → Type 0
SoundBinary least limit inside r g = g.following.stop ≡ None → ReadsBinary least limit inside r g

-- reading with so many calls is sound
pub record SoundAt (calls : ℕ) : Type 0 where
  pub unary : (inside : Inside) (r : Reader) → IsEnough calls 1 r.left → IsSound 11 inside r (read_unary calls inside r)
  pub parentheses : (inside : Inside) (at : ℕ) (start r : Reader) → Took (Mark (codes "(")) start r → IsEnough calls 4 r.left →
      IsSound 11 inside start (read_parentheses calls inside at r)
  pub cast : (inside : Inside) (at : ℕ) (start r : Reader) (type : Got (Option CType)) → Took (Mark (codes "(")) start r →
      SoundType r type → suc inside.opened ≤ 200 → (type.following.stop ≡ None → IsEnough calls 1 type.following.left) →
      IsSound 11 inside start (read_cast calls inside at type)
  pub binary : (inside : Inside) (least : ℕ) (r : Reader) → least ≤ 11 → IsEnough calls 2 r.left →
      SoundBinary least least inside r (read_binary calls inside least r)
  pub more : (inside : Inside) (least strong : ℕ) (r : Reader) (left : Got PartialExpr) → least ≤ strong →
      (left.following.stop ≡ None → IsEnough calls 0 left.following.left) → SoundBinary strong (suc strong) inside r left →
      SoundBinary least least inside r (read_more calls inside least left)
  pub expr : (inside : Inside) (r : Reader) → IsEnough calls 3 r.left → IsSound 0 inside r (read_expr calls inside r)
  pub rest : (inside : Inside) (r : Reader) (test : Got PartialExpr) → (test.following.stop ≡ None → IsEnough calls 0 test.following.left) →
      IsSound 1 inside r test → IsSound 0 inside r (read_rest calls inside test)

no_token : (left : List Piece) → 16 * length left + 0 ≤ 0 → first_token left ≡ None
no_token [] none = refl
no_token (p ∷ pieces) none = absurd (omega arith)

none_left : (r : Reader) → r.stop ≡ None → IsEnough 0 0 r.left → next_token r ≡ None
none_left r going none = rw going (no_token r.left none)

pub nothing_ends : (token : Option Token) (limit : ℕ) → token ≡ None → IsWeaker limit token
nothing_ends token limit is operator found = absurd (let none : binary_of token ≡ None = ap binary_of is in cc)

pub weaken_read : {least strong : ℕ} {inside : Inside} {r : Reader} {g : Got PartialExpr} → least ≤ strong → ReadsExpr strong inside r g → ReadsExpr least inside r g
weaken_read below read =
    record { passed = read.passed; steady = read.steady; shorter = read.shorter; derived = weaken below read.derived; enclosed = read.enclosed; shallow = read.shallow }

pub none-sound : SoundAt zero
none-sound =
    record {
      unary = λ inside r enough. absurd (omega arith);
      parentheses = λ inside at start r took enough. absurd (omega arith);
      cast = λ inside at start r type took typed few enough going. absurd (omega (arith, enough going));
      binary = λ inside least r small enough. absurd (omega arith);
      more = λ inside least strong r left below enough sound going.
          (let found = sound going in
          record { read = weaken_read below found.read; ends = nothing_ends (next_token left.following) least (none_left left.following going (enough going)) });
      expr = λ inside r enough. absurd (omega arith);
      rest = λ inside r test enough sound going. weaken_read (omega arith) (sound going);
    }

-- an operator was passed, and its operand
pub operator-sound : (inside : Inside) (r : Reader) (operator : CUn) (a : Got PartialExpr) → next_token r ≡ Some (Mark (unary_mark operator)) →
    ReadsExpr 11 (in_operator inside) (skip r) a → ReadsExpr 11 inside r (unary_at r.at operator a)
operator-sound inside r operator a is read =
    let took = skip-took r (Mark (unary_mark operator)) is in
    record {
      passed = then_passed took.passed read.passed;
      steady = read.steady ∙ took.steady;
      shorter = omega (arith, took.one_less, read.shorter);
      derived = rw took.begins (unary operator read.derived);
      enclosed = λ few. took_enclosed (Mark (unary_mark operator)) r (skip r) took inside.opened (unary_flat operator inside.opened) (read.enclosed few);
      shallow = omega (arith, read.shallow);
    }

-- what was read inside a pair of parentheses, which was passed, is a sound operand
pub closed-sound : (inside : Inside) (start r : Reader) (inner : Got PartialExpr) → Took (Mark (codes "(")) start r → suc inside.opened ≤ 200 →
    IsSound 0 (in_parentheses inside) r inner → IsSound 11 inside start (closed inner)
closed-sound inside start r inner took few sound going =
    let close = take_mark-took (codes ")") inner.following going in
    let read = sound close.passed.going in
    let inner_tokens : IsExpr 0 (tokens_of r.left) (plain_expr inner.value) (mark close.line (codes ")") ∷ tokens_of (take_mark (codes ")") inner.following).left) = subst (λ ts. IsExpr 0 (tokens_of r.left) (plain_expr inner.value) ts) close.begins read.derived in
    record {
      passed = then_passed (then_passed took.passed read.passed) close.passed;
      steady = close.steady ∙ (read.steady ∙ took.steady);
      shorter = omega (arith, took.one_less, read.shorter, close.one_less);
      derived = rw took.begins (parentheses inner_tokens);
      enclosed = λ following. opening_enclosed inside.opened took (read.enclosed (closing_enclosed inside.opened few close following));
      shallow = read.shallow;
    }

-- a cast, whose type and operand were passed, is a sound operand
pub cast_of-sound : (inside : Inside) (at : ℕ) (start r : Reader) (type : Got (Option CType)) (of : CType) (a : Got PartialExpr) →
    Took (Mark (codes "(")) start r → suc inside.opened ≤ 200 → ReadsType r type → type.value ≡ Some of →
    Took (Mark (codes ")")) type.following (take_mark (codes ")") type.following) →
    ReadsExpr 11 (in_operator inside) (take_mark (codes ")") type.following) a → ReadsExpr 11 inside start (cast_of at of a)
cast_of-sound inside at start r type of a took few typed is close read =
    let same : typed.type ≡ of = (let one : Some typed.type ≡ Some of = sym typed.is ∙ is in cc) in
    let words : Begins (tokens_of r.left) (type_tokens of) (mark close.line (codes ")") ∷ tokens_of (take_mark (codes ")") type.following).left) = subst (λ ts. Begins (tokens_of r.left) (type_tokens of) ts) close.begins (subst (λ t. Begins (tokens_of r.left) (type_tokens t) (tokens_of type.following.left)) same typed.derived) in
    record {
      passed = then_passed took.passed (then_passed typed.passed (then_passed close.passed read.passed));
      steady = read.steady ∙ (close.steady ∙ (typed.steady ∙ took.steady));
      shorter = omega (arith, took.one_less, typed.shorter, close.one_less, read.shorter);
      derived = rw took.begins (cast of words read.derived);
      enclosed = λ following. opening_enclosed inside.opened took (typed.enclosed (suc inside.opened) (closing_enclosed inside.opened few close (read.enclosed following)));
      shallow = omega (arith, read.shallow);
    }

-- two operands and their operator
pub joined-sound : (inside : Inside) (r : Reader) (operator : CBin) (a b : Got PartialExpr) → ReadsExpr (strength operator) inside r a →
    next_token a.following ≡ Some (Mark (binary_mark operator)) → ReadsExpr (suc (strength operator)) (in_operator inside) (skip a.following) b →
    inside.operators + depth_of (BinaryOf operator a.value b.value) ≤ 200 →
    ReadsExpr (strength operator) inside r (got (BinaryOf operator a.value b.value) b.following)
joined-sound inside r operator a b first is second deep =
    let took = skip-took a.following (Mark (binary_mark operator)) is in
    let operand : IsExpr (strength operator) (tokens_of r.left) (plain_expr a.value) (mark took.line (binary_mark operator) ∷ tokens_of (skip a.following).left) = subst (λ ts. IsExpr (strength operator) (tokens_of r.left) (plain_expr a.value) ts) took.begins first.derived in
    record {
      passed = then_passed first.passed (then_passed took.passed second.passed);
      steady = second.steady ∙ (took.steady ∙ first.steady);
      shorter = omega (arith, took.one_less, first.shorter, second.shorter);
      derived = binary operator operand second.derived;
      enclosed = λ following. first.enclosed (took_enclosed (Mark (binary_mark operator)) a.following (skip a.following) took inside.opened (binary_flat operator inside.opened) (second.enclosed following));
      shallow = rw (depth_same a.value, depth_same b.value) deep;
    }

-- a conditional
pub chosen-sound : (inside : Inside) (r : Reader) (a b c : Got PartialExpr) → ReadsExpr 1 inside r a →
    next_token a.following ≡ Some (Mark (codes "?")) → ReadsExpr 0 (in_operator inside) (skip a.following) b →
    Took (Mark (codes ":")) b.following (take_mark (codes ":") b.following) →
    ReadsExpr 0 (in_operator inside) (take_mark (codes ":") b.following) c →
    inside.operators + depth_of (ConditionalOf a.value b.value c.value) ≤ 200 →
    ReadsExpr 0 inside r (got (ConditionalOf a.value b.value c.value) c.following)
chosen-sound inside r a b c first is second colon third deep =
    let took = skip-took a.following (Mark (codes "?")) is in
    let test : IsExpr 1 (tokens_of r.left) (plain_expr a.value) (mark took.line (codes "?") ∷ tokens_of (skip a.following).left) = subst (λ ts. IsExpr 1 (tokens_of r.left) (plain_expr a.value) ts) took.begins first.derived in
    let one_way : IsExpr 0 (tokens_of (skip a.following).left) (plain_expr b.value) (mark colon.line (codes ":") ∷ tokens_of (take_mark (codes ":") b.following).left) = subst (λ ts. IsExpr 0 (tokens_of (skip a.following).left) (plain_expr b.value) ts) colon.begins second.derived in
    record {
      passed = then_passed first.passed (then_passed took.passed (then_passed second.passed (then_passed colon.passed third.passed)));
      steady = third.steady ∙ (colon.steady ∙ (second.steady ∙ (took.steady ∙ first.steady)));
      shorter = omega (arith, took.one_less, first.shorter, second.shorter, third.shorter, colon.one_less);
      derived = conditional test one_way third.derived;
      enclosed = λ following. first.enclosed (took_enclosed (Mark (codes "?")) a.following (skip a.following) took inside.opened refl (second.enclosed (took_enclosed (Mark (codes ":")) b.following (take_mark (codes ":") b.following) colon inside.opened refl (third.enclosed following))));
      shallow = rw (depth_same a.value, depth_same b.value, depth_same c.value) deep;
    }
