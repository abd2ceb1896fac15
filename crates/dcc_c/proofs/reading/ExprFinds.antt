-- An expression of the grammar is read.
use Rattle.std.proofs.Common.{◌≡◌, ℕ, zero, suc, ◌+◌, ◌<◌, ◌≤◌, List, ◌∷◌, length, false, refl, sym, ap, ◌∙◌, arith}
use Rattle.std.specs.Prelude.{codes, Option, Some, None}
use Rattle.dcc_c.specs.declared.syntax.CBin.{CBin}
use Rattle.dcc_c.specs.declared.syntax.CBin.TheVariants.{OrOr}
use Rattle.dcc_c.specs.Token.{Token, Mark}
use Rattle.dcc_c.specs.Lexing.{Placed}
use Rattle.dcc_c.specs.Tree.{Expr, Binary, Conditional}
use Rattle.dcc_c.specs.Grammar.{mark, binary_mark, strength, IsExpr, number, name, parentheses, unary, cast, binary, conditional, stronger}
use Rattle.dcc_c.specs.Rules.{expr_depth, most_open}
use Rattle.dcc_c.specs.Partial.{PartialExpr, BinaryOf, ConditionalOf, depth_of}
use Rattle.dcc_c.specs.Reading.{Got, got, next_token, sees_mark, take_mark, binary_of, Inside, in_operator, joined, chosen, read_binary, read_more, read_expr, read_rest}
use Rattle.dcc_c.specs.Stripped.{plain_expr}
use Rattle.dcc_c.proofs.reading.Statements.{IsEnoughFor, IsWeaker, on, first_of, EndsExpr, CompleteUnary, CompleteExpr}
use Rattle.dcc_c.proofs.reading.Stopping.{if-false}
use Rattle.dcc_c.proofs.reading.ExprParts.{depth_same, strength_most, binary_flat}
use Rattle.dcc_c.proofs.reading.Derivations.{shorter, strongest, flat_after, expr_no_type, expr-enclosed}
use Rattle.dcc_c.proofs.reading.ExprComplete.{UnaryRead, FindsOperand, BinaryRead, ExprRead, Complete, number-complete, name-complete, parentheses-complete, cast-complete, unary-complete, operand_of, more_ends, more_goes, not_deep, seen_binary}

-- a unary part is all that is to be shown of it
unary_is : {tokens rest : List Placed} {e : Expr} → length rest < length tokens → UnaryRead tokens e rest → Complete 11 tokens e rest
unary_is less read =
    record {
      unary = λ same. read;
      binary = λ least one below ends. operand_of less read;
      expr = λ none. absurd (omega arith);
    }

-- an operator is weaker than what is stronger
own_weaker : (operator : CBin) → IsWeaker (suc (strength operator)) (Some (Mark (binary_mark operator)))
own_weaker operator other is =
    (let same : Some operator ≡ Some other = sym (seen_binary operator) ∙ is in
    let one : operator ≡ other = cc in
    rw one (omega arith))

wider : {least most : ℕ} (token : Option Token) → least ≤ most → IsWeaker least token → IsWeaker most token
wider token below weak operator is = let less = weak operator is in omega (arith, less)

nothing_follows : (least : ℕ) (token : Option Token) → binary_of token ≡ None → IsWeaker least token
nothing_follows least token none operator is = absurd (let other = none in cc)

strength_least : (operator : CBin) → 1 ≤ strength operator
strength_least OrOr = omega arith
strength_least _ = omega arith

-- two operands and their operator
pair-complete : {at : ℕ} {tokens others rest : List Placed} {a b : Expr} (operator : CBin) (least : ℕ) → least ≤ strength operator →
    length (mark at (binary_mark operator) ∷ others) < length tokens → length rest < length others →
    ((opened : ℕ) → most_open opened tokens ≤ 200 → most_open opened (mark at (binary_mark operator) ∷ others) ≤ 200) →
    IsWeaker (suc (strength operator)) (first_of rest) →
    BinaryRead least tokens a (mark at (binary_mark operator) ∷ others) → BinaryRead (suc (strength operator)) others b rest →
    BinaryRead least tokens (Binary operator a b) rest
pair-complete {at} {tokens} {others} {rest} {a} {b} operator least below less fewer balanced ends first second calls inside place depth enough fits =
    let found = first calls inside place depth enough (record { shallow = omega (arith, fits.shallow); enclosed = fits.enclosed }) in
    following_first found.calls found.partial found.following found.enough found.same found.place found.is
  where
    whole_depth : (p q : PartialExpr) → plain_expr p ≡ a → plain_expr q ≡ b → inside.operators + depth_of (BinaryOf operator p q) ≤ 200
    whole_depth p q one other =
        let same : expr_depth (Binary operator a b) ≡ depth_of (BinaryOf operator p q) = rw (← one, ← other) (depth_same (BinaryOf operator p q)) in
        rw same at fits.shallow

    following_first : (calls_left : ℕ) (p : PartialExpr) (following : ℕ) → IsEnoughFor calls_left 0 (mark at (binary_mark operator) ∷ others) → plain_expr p ≡ a →
        following + length (mark at (binary_mark operator) ∷ others) ≡ place + length tokens →
        read_binary calls inside least (on tokens place depth) ≡ read_more calls_left inside least (got p (on (mark at (binary_mark operator) ∷ others) following depth)) →
        FindsOperand least inside tokens (Binary operator a b) rest place depth (read_binary calls inside least (on tokens place depth))
    following_first zero p following room same stands is = absurd (omega arith)
    following_first (suc more) p following room same stands is =
        let within = flat_after (Mark (binary_mark operator)) inside.opened at others (binary_flat operator inside.opened) (balanced inside.opened fits.enclosed) in
        let found = second more (in_operator inside) (suc following) depth (omega arith) (record { shallow = omega (arith, fits.shallow); enclosed = within }) in
        let left : Got PartialExpr = got p (on (mark at (binary_mark operator) ∷ others) following depth) in
        let right : Got PartialExpr = got found.partial (on rest found.following depth) in
        let whole = BinaryOf operator p found.partial in
        record {
          partial = whole;
          following = found.following;
          calls = more;
          enough = omega arith;
          same = ap (λ e. Binary operator e (plain_expr found.partial)) same ∙ ap (Binary operator a) found.same;
          place = omega (arith, found.place);
          is = is ∙ (more_goes more inside least left operator (seen_binary operator) below
              ∙ (ap (λ g. read_more more inside least (joined inside operator p g)) (found.is ∙ more_ends found.calls (in_operator inside) (suc (strength operator)) right ends)
              ∙ ap (λ r. read_more more inside least (got whole r)) (not_deep inside whole (on rest found.following depth) (whole_depth p found.partial same found.same))));
        }

-- the parts of a conditional, without their places
three_parts : {a b c : Expr} (p q r : PartialExpr) → plain_expr p ≡ a → plain_expr q ≡ b → plain_expr r ≡ c → plain_expr (ConditionalOf p q r) ≡ Conditional a b c
three_parts p q r one two three = rw (one, two, three)

-- a conditional
conditional-complete : {question colon : ℕ} {tokens first second rest : List Placed} {a b c : Expr} →
    IsExpr 1 tokens a (mark question (codes "?") ∷ first) → IsExpr 0 first b (mark colon (codes ":") ∷ second) →
    BinaryRead 1 tokens a (mark question (codes "?") ∷ first) → ExprRead first b (mark colon (codes ":") ∷ second) → ExprRead second c rest →
    ExprRead tokens (Conditional a b c) rest
conditional-complete test one first second third zero inside place depth enough fits = absurd (omega arith)
conditional-complete test one first second third (suc zero) inside place depth enough fits = absurd (omega arith)
conditional-complete {question} {colon} {tokens} {first = others} {second = last} {rest} {a} {b} {c} test one first second third (suc (suc more)) inside place depth enough fits =
    let p = first (suc more) inside place depth (omega arith) (record { shallow = omega (arith, fits.shallow); enclosed = fits.enclosed }) in
    let few : most_open inside.opened others ≤ 200 = flat_after (Mark (codes "?")) inside.opened question others refl (expr-enclosed test inside.opened fits.enclosed) in
    let q = second more (in_operator inside) (suc p.following) depth (omega (arith, shorter test)) (record { shallow = omega (arith, fits.shallow); enclosed = few }) in
    let fewer : most_open inside.opened last ≤ 200 = flat_after (Mark (codes ":")) inside.opened colon last refl (expr-enclosed one inside.opened few) in
    let r = third more (in_operator inside) (suc q.following) depth (omega (arith, shorter test, shorter one)) (record { shallow = omega (arith, fits.shallow); enclosed = fewer }) in
    let whole = ConditionalOf p.partial q.partial r.partial in
    let left : Got PartialExpr = got p.partial (on (mark question (codes "?") ∷ others) p.following depth) in
    let plain = three_parts p.partial q.partial r.partial p.same q.same r.same in
    let same : expr_depth (Conditional a b c) ≡ depth_of whole = ap expr_depth (sym plain) ∙ depth_same whole in
    let room : inside.operators + depth_of whole ≤ 200 = rw same at fits.shallow in
    record {
      partial = whole;
      following = r.following;
      same = plain;
      place = omega (arith, p.place, q.place, r.place);
      is = ap (read_rest (suc more) inside) (p.is ∙ more_ends p.calls inside 1 left (nothing_follows 1 (next_token left.following) refl))
          ∙ (ap (λ g. chosen inside p.partial g.value (read_expr more (in_operator inside) (take_mark (codes ":") g.following))) q.is
          ∙ (ap (λ g. chosen inside p.partial q.partial g) r.is ∙ ap (got whole) (not_deep inside whole (on rest r.following depth) room)));
    }

rest_ends : (calls : ℕ) (inside : Inside) (test : Got PartialExpr) → sees_mark (codes "?") test.following ≡ false → read_rest calls inside test ≡ test
rest_ends zero inside test none = refl
rest_ends (suc calls) inside test none = if-false (sees_mark (codes "?") test.following) _ _ none

-- operands and their operators, with nothing after them, are an expression
operands-complete : {tokens rest : List Placed} {e : Expr} → EndsExpr rest → BinaryRead 1 tokens e rest → ExprRead tokens e rest
operands-complete ends read zero inside place depth enough fits = absurd (omega arith)
operands-complete {tokens} {rest} {e} ends read (suc calls) inside place depth enough fits =
    let found = read calls inside place depth (omega arith) fits in
    let left : Got PartialExpr = got found.partial (on rest found.following depth) in
    record {
      partial = found.partial;
      following = found.following;
      same = found.same;
      place = found.place;
      is = ap (read_rest calls inside) (found.is ∙ more_ends found.calls inside 1 left (nothing_follows 1 (first_of rest) ends.no_operator)) ∙ rest_ends calls inside left ends.no_question;
    }

-- each expression of the grammar is read
complete : {least : ℕ} {tokens rest : List Placed} {e : Expr} → IsExpr least tokens e rest → Complete least tokens e rest
complete (number {at} is) = unary_is (shorter (number {at = at} is)) (number-complete is)
complete (name {at} bytes is) = unary_is (shorter (name {at = at} bytes is)) (name-complete bytes is)
complete (parentheses {opening} inner) =
    let read = complete inner in
    unary_is (shorter (parentheses {opening = opening} inner)) (parentheses-complete (expr_no_type inner) (read.expr refl (record { no_operator = refl; no_question = refl })))
complete (unary {at} operator a) = let read = complete a in unary_is (shorter (unary {at = at} operator a)) (unary-complete operator (read.unary refl))
complete (cast {opening} type words a) =
    let read = complete a in unary_is (shorter (cast {opening = opening} type words a)) (cast-complete type words (shorter a) (read.unary refl))
complete (binary {rest} operator a b) =
    let first = complete a in
    let second = complete b in
    record {
      unary = λ same. absurd (omega (arith, strength_most operator));
      binary = λ least one below ends. pair-complete operator least below (shorter a) (shorter b) (expr-enclosed a) ends (first.binary least one below (own_weaker operator)) (second.binary (suc (strength operator)) (omega arith) (omega arith) (wider (first_of rest) (omega arith) ends));
      expr = λ none. absurd (omega (arith, strength_least operator));
    }
complete (conditional {question} {first = others} a b c) =
    let first = complete a in
    let second = complete b in
    let third = complete c in
    record {
      unary = λ same. absurd (omega arith);
      binary = λ least one below. absurd (omega arith);
      expr = λ none ends. conditional-complete a b (first.binary 1 (omega arith) (omega arith) (nothing_follows 2 (first_of (mark question (codes "?") ∷ others)) refl)) (second.expr refl (record { no_operator = refl; no_question = refl })) (third.expr refl ends);
    }
complete (stronger {strength} {rest} a) =
    let read = complete a in
    record {
      unary = λ same. absurd (omega (arith, strongest a));
      binary = λ least one below ends. read.binary least one (omega arith) (wider (first_of rest) (omega arith) ends);
      expr = λ none ends. operands-complete ends (read.binary 1 (omega arith) (omega arith) (nothing_follows _ (first_of rest) ends.no_operator));
    }

pub complete_expr : CompleteExpr
complete_expr tokens rest e derived ends = (complete derived).expr refl ends

pub complete_unary : CompleteUnary
complete_unary tokens rest e derived = (complete derived).unary refl
