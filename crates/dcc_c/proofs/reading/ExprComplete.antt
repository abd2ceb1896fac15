-- Each part of an expression of the grammar is read.
use Rattle.std.proofs.Common.{◌≡◌, ℕ, zero, suc, ◌+◌, ◌<◌, ◌≤◌, List, ◌∷◌, length, false, true, refl, ap, ◌∙◌, arith}
use Rattle.std.proofs.lemmas.Bool.{lt-leb, le-leb, le-ltb, leb-true}
use Rattle.std.specs.Prelude.{codes, nat_le, if◌then◌else◌, Some, None}
use Rattle.dcc_c.specs.declared.syntax.Base.{Base}
use Rattle.dcc_c.specs.declared.syntax.CType.{CType}
use Rattle.dcc_c.specs.declared.syntax.CUn.{CUn}
use Rattle.dcc_c.specs.declared.syntax.CUn.TheVariants.{Minus}
use Rattle.dcc_c.specs.declared.syntax.CBin.{CBin}
use Rattle.dcc_c.specs.declared.syntax.CBin.TheVariants.{OrOr}
use Rattle.dcc_c.specs.Token.{Token, Decimal, Hex, Mark, decimal_type, hex_type}
use Rattle.dcc_c.specs.Lexing.{Placed, placed}
use Rattle.dcc_c.specs.Tree.{Word, Expr, Number, Name, Unary, Binary, Conditional, Cast}
use Rattle.dcc_c.specs.Grammar.{is_name, word, mark, type_tokens, unary_mark, binary_mark, strength, Begins, IsNumber, decimal, hex}
use Rattle.dcc_c.specs.Rules.{expr_depth, most_open}
use Rattle.dcc_c.specs.Partial.{PartialExpr, NumberHere, NameHere, UnaryHere, CastHere, depth_of}
use Rattle.dcc_c.specs.Reading.{Reader, Got, got, next_token, name_if, skip, sees_mark, take_type, begins_type, unary_of, binary_of, Inside, in_operator, in_parentheses, stop_if_deep, cast_of, unary_at, read_leaf, closed, joined, read_unary, read_parentheses, read_cast, read_binary, read_more, read_expr}
use Rattle.dcc_c.specs.Stripped.{plain_expr}
use Rattle.dcc_c.proofs.reading.Statements.{IsEnoughFor, IsWeaker, on, first_of, EndsExpr, IsShallow, FindsExpr}
use Rattle.dcc_c.proofs.reading.Passing.{if-cases}
use Rattle.dcc_c.proofs.reading.Enclosing.{open_before}
use Rattle.dcc_c.proofs.reading.Stopping.{choice-cases, choice-some, if-true, inside_of}
use Rattle.dcc_c.proofs.reading.ExprParts.{unary_flat}
use Rattle.dcc_c.proofs.reading.Derivations.{begins-length, begins-enclosed, flat_after, flat_type, opening_after, closing_after}
use Rattle.dcc_c.proofs.reading.TypeComplete.{type-complete}

-- What is to be read of a unary part, of a part of a strength, and of a whole expression.
abbrev pub UnaryRead : List Placed → Expr → List Placed → Type 0
UnaryRead tokens e rest =
    (calls : ℕ) (inside : Inside) (at depth : ℕ) → IsEnoughFor calls 1 tokens → IsShallow inside tokens e →
    FindsExpr tokens e rest at depth (read_unary calls inside (on tokens at depth))

-- the operand was read, and what is left to be read after it
pub record FindsOperand (least : ℕ) (inside : Inside) (tokens : List Placed) (e : Expr) (rest : List Placed) (at depth : ℕ) (g : Got PartialExpr) : Type 0 where
  pub partial : PartialExpr
  pub following : ℕ
  pub calls : ℕ
  pub enough : IsEnoughFor calls 0 rest
  pub same : plain_expr partial ≡ e
  pub place : following + length rest ≡ at + length tokens
  pub is : g ≡ read_more calls inside least (got partial (on rest following depth))

abbrev pub BinaryRead : ℕ → List Placed → Expr → List Placed → Type 0
BinaryRead least tokens e rest =
    (calls : ℕ) (inside : Inside) (at depth : ℕ) → IsEnoughFor calls 2 tokens → IsShallow inside tokens e →
    FindsOperand least inside tokens e rest at depth (read_binary calls inside least (on tokens at depth))

abbrev pub ExprRead : List Placed → Expr → List Placed → Type 0
ExprRead tokens e rest =
    (calls : ℕ) (inside : Inside) (at depth : ℕ) → IsEnoughFor calls 3 tokens → IsShallow inside tokens e →
    FindsExpr tokens e rest at depth (read_expr calls inside (on tokens at depth))

pub record Complete (strong : ℕ) (tokens : List Placed) (e : Expr) (rest : List Placed) : Type 0 where
  pub unary : strong ≡ 11 → UnaryRead tokens e rest
  pub binary : (least : ℕ) → 1 ≤ least → least ≤ strong → IsWeaker (suc strong) (first_of rest) → BinaryRead least tokens e rest
  pub expr : strong ≡ 0 → EndsExpr rest → ExprRead tokens e rest

-- Unary parts.

abbrev unary_part : ℕ → Inside → Reader → Got PartialExpr
unary_part calls inside r = elim (unary_of (next_token r)) [
  | Some operator ↦ unary_at r.at operator (read_unary calls (in_operator inside) (skip r))
  | None ↦ if sees_mark (codes "(") r then read_parentheses calls inside r.at (skip r) else read_leaf r
]

-- an operator more is allowed
unary_room : (calls : ℕ) (inside : Inside) (r : Reader) → inside.operators < 200 → read_unary (suc calls) inside r ≡ unary_part calls inside r
unary_room calls inside r room = rw (lt-leb 200 inside.operators room)

-- an expression is at least one deep
depth_least : (e : Expr) → 1 ≤ expr_depth e
depth_least (Number n base) = omega arith
depth_least (Unary operator a) = omega arith
depth_least (Binary operator a b) = omega arith
depth_least (Conditional a b c) = omega arith
depth_least (Cast type a) = omega arith
depth_least (Name word) = omega arith

pub number-complete : {at n : ℕ} {token : Token} {base : Base} {rest : List Placed} → IsNumber token n base → UnaryRead (placed at token ∷ rest) (Number n base) rest
number-complete is zero inside place depth enough fits = absurd (omega arith)
number-complete {at} {rest} (decimal n suffix) (suc calls) inside place depth enough fits =
    record {
      partial = NumberHere place n (decimal_type n suffix);
      following = suc place;
      same = refl;
      place = omega arith;
      is = unary_room calls inside (on (placed at (Decimal n suffix) ∷ rest) place depth) (omega (arith, fits.shallow));
    }
number-complete {at} {rest} (hex n suffix) (suc calls) inside place depth enough fits =
    record {
      partial = NumberHere place n (hex_type n suffix);
      following = suc place;
      same = refl;
      place = omega arith;
      is = unary_room calls inside (on (placed at (Hex n suffix) ∷ rest) place depth) (omega (arith, fits.shallow));
    }

pub name-complete : {at : ℕ} {rest : List Placed} (bytes : Word) → is_name bytes ≡ true → UnaryRead (word at bytes ∷ rest) (Name bytes) rest
name-complete bytes is zero inside place depth enough fits = absurd (omega arith)
name-complete {at} {rest} bytes is (suc calls) inside place depth enough fits =
    record {
      partial = NameHere place bytes (sees_mark (codes "(") (on rest (suc place) depth));
      following = suc place;
      same = refl;
      place = omega arith;
      is = unary_room calls inside (on (word at bytes ∷ rest) place depth) (omega (arith, fits.shallow)) ∙ choice-some (name_if bytes) bytes _ _ (rw is);
    }

-- Parentheses and casts.

parentheses_room : (calls : ℕ) (inside : Inside) (at : ℕ) (r : Reader) → suc inside.opened ≤ 200 →
    read_parentheses (suc calls) inside at r ≡ inside_of calls inside at r
parentheses_room calls inside at r room = rw (le-ltb 200 (suc inside.opened) room)

inside_expr : (calls : ℕ) (inside : Inside) (at : ℕ) (r : Reader) → begins_type (next_token r) ≡ false →
    inside_of calls inside at r ≡ closed (read_expr calls (in_parentheses inside) r)
inside_expr calls inside at r is = rw is

inside_type : (calls : ℕ) (inside : Inside) (at : ℕ) (r : Reader) → begins_type (next_token r) ≡ true →
    inside_of calls inside at r ≡ read_cast calls inside at (take_type r)
inside_type calls inside at r is = rw is

pub parentheses-complete : {opening closing : ℕ} {tokens rest : List Placed} {e : Expr} → begins_type (first_of tokens) ≡ false →
    ExprRead tokens e (mark closing (codes ")") ∷ rest) → UnaryRead (mark opening (codes "(") ∷ tokens) e rest
parentheses-complete no_type inner zero inside place depth enough fits = absurd (omega arith)
parentheses-complete no_type inner (suc zero) inside place depth enough fits = absurd (omega arith)
parentheses-complete {opening} {closing} {tokens} {rest} {e} no_type inner (suc (suc calls)) inside place depth enough fits =
    let few : most_open (suc inside.opened) tokens ≤ 200 = opening_after inside.opened opening tokens fits.enclosed in
    let found = inner calls (in_parentheses inside) (suc place) depth (omega arith) (record { shallow = fits.shallow; enclosed = few }) in
    let r : Reader = on tokens (suc place) depth in
    record {
      partial = found.partial;
      following = suc found.following;
      same = found.same;
      place = omega (arith, found.place);
      is = unary_room (suc calls) inside (on (mark opening (codes "(") ∷ tokens) place depth) (omega (arith, fits.shallow, depth_least e))
          ∙ (parentheses_room calls inside place r (omega (arith, open_before (suc inside.opened) tokens)) ∙ (inside_expr calls inside place r no_type ∙ ap closed found.is));
    }

pub cast-complete : {opening closing : ℕ} {all tokens rest : List Placed} {e : Expr} (type : CType) →
    Begins all (type_tokens type) (mark closing (codes ")") ∷ tokens) → length rest < length tokens → UnaryRead tokens e rest →
    UnaryRead (mark opening (codes "(") ∷ all) (Cast type e) rest
cast-complete type words less operand zero inside place depth enough fits = absurd (omega arith)
cast-complete type words less operand (suc zero) inside place depth enough fits = absurd (omega arith)
cast-complete type words less operand (suc (suc zero)) inside place depth enough fits = absurd (omega arith)
cast-complete {opening} {closing} {all} {tokens} {rest} {e} type words less operand (suc (suc (suc calls))) inside place depth enough fits =
    let few : most_open (suc inside.opened) all ≤ 200 = opening_after inside.opened opening all fits.enclosed in
    let typed = type-complete type all (mark closing (codes ")") ∷ tokens) (suc place) depth words refl in
    let within : most_open inside.opened tokens ≤ 200 = closing_after inside.opened closing tokens (begins-enclosed words (flat_type type) (suc inside.opened) few) in
    let found = operand calls (in_operator inside) (suc typed.following) depth (omega (arith, begins-length words)) (record { shallow = omega (arith, fits.shallow); enclosed = within }) in
    let r : Reader = on all (suc place) depth in
    record {
      partial = CastHere place type found.partial;
      following = found.following;
      same = ap (Cast type) found.same;
      place = omega (arith, found.place, typed.place);
      is = unary_room (suc (suc calls)) inside (on (mark opening (codes "(") ∷ all) place depth) (omega (arith, fits.shallow))
          ∙ (parentheses_room (suc calls) inside place r (omega (arith, open_before (suc inside.opened) all)) ∙ (inside_type (suc calls) inside place r typed.begins ∙ (ap (read_cast (suc calls) inside place) typed.is ∙ ap (cast_of place type) found.is)));
    }

seen_unary : (operator : CUn) → unary_of (Some (Mark (unary_mark operator))) ≡ Some operator
seen_unary Minus = refl
seen_unary _ = refl

pub seen_binary : (operator : CBin) → binary_of (Some (Mark (binary_mark operator))) ≡ Some operator
seen_binary OrOr = refl
seen_binary _ = refl

operator_part : (calls : ℕ) (inside : Inside) (r : Reader) (operator : CUn) → unary_of (next_token r) ≡ Some operator →
    unary_part calls inside r ≡ unary_at r.at operator (read_unary calls (in_operator inside) (skip r))
operator_part calls inside r operator is = choice-some (unary_of (next_token r)) operator _ _ is

pub unary-complete : {at : ℕ} {tokens rest : List Placed} {e : Expr} (operator : CUn) → UnaryRead tokens e rest →
    UnaryRead (mark at (unary_mark operator) ∷ tokens) (Unary operator e) rest
unary-complete operator operand zero inside place depth enough fits = absurd (omega arith)
unary-complete {at} {tokens} {rest} {e} operator operand (suc calls) inside place depth enough fits =
    let within : most_open inside.opened tokens ≤ 200 = flat_after (Mark (unary_mark operator)) inside.opened at tokens (unary_flat operator inside.opened) fits.enclosed in
    let found = operand calls (in_operator inside) (suc place) depth (omega arith) (record { shallow = omega (arith, fits.shallow); enclosed = within }) in
    let r : Reader = on (mark at (unary_mark operator) ∷ tokens) place depth in
    record {
      partial = UnaryHere place operator found.partial;
      following = found.following;
      same = ap (Unary operator) found.same;
      place = omega (arith, found.place);
      is = unary_room calls inside r (omega (arith, fits.shallow, depth_least e))
          ∙ (operator_part calls inside r operator (seen_unary operator) ∙ ap (unary_at place operator) found.is);
    }

-- Operands and their operators.

-- a unary part is an operand
pub operand_of : {least : ℕ} {tokens rest : List Placed} {e : Expr} → length rest < length tokens → UnaryRead tokens e rest → BinaryRead least tokens e rest
operand_of less read zero inside place depth enough fits = absurd (omega arith)
operand_of {least} {tokens} {rest} {e} less read (suc calls) inside place depth enough fits =
    let found = read calls inside place depth (omega arith) fits in
    record {
      partial = found.partial;
      following = found.following;
      calls = calls;
      enough = omega arith;
      same = found.same;
      place = found.place;
      is = ap (read_more calls inside least) found.is;
    }

-- after an operand no operator follows that is strong enough
pub more_ends : (calls : ℕ) (inside : Inside) (least : ℕ) (left : Got PartialExpr) → IsWeaker least (next_token left.following) → read_more calls inside least left ≡ left
more_ends zero inside least left ends = refl
more_ends (suc calls) inside least left ends =
    choice-cases (λ g. g ≡ left) (binary_of (next_token left.following))
    (λ operator is. if-cases (λ g. g ≡ left) (nat_le least (strength operator))
    (λ above. absurd (omega (arith, leb-true least (strength operator) above, ends operator is))) (λ _. refl))
    (λ _. refl)

-- an operator that is strong enough follows
pub more_goes : (calls : ℕ) (inside : Inside) (least : ℕ) (left : Got PartialExpr) (operator : CBin) → binary_of (next_token left.following) ≡ Some operator →
    least ≤ strength operator → read_more (suc calls) inside least left
    ≡ read_more calls inside least (joined inside operator left.value (read_binary calls (in_operator inside) (suc (strength operator)) (skip left.following)))
more_goes calls inside least left operator is above =
    choice-some (binary_of (next_token left.following)) operator _ _ is ∙ if-true (nat_le least (strength operator)) _ _ (le-leb least (strength operator) above)

pub not_deep : (inside : Inside) (e : PartialExpr) (r : Reader) → inside.operators + depth_of e ≤ 200 → stop_if_deep inside e r ≡ r
not_deep inside e r room = rw (le-ltb 200 (inside.operators + depth_of e) room)
