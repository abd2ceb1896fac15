-- What a derivation of the grammar says of the tokens of an expression or a type.
use Rattle.std.proofs.Common.{◌≡◌, ℕ, suc, ◌+◌, ◌-◌, ◌<◌, ◌≤◌, List, [], ◌∷◌, ◌++◌, length, map, false, true, refl, sym, ap, ◌∙◌, arith, add-one, true≢false}
use Rattle.std.specs.Prelude.{codes, Bool, Some, if◌then◌else◌, ⊤}
use Rattle.dcc_c.specs.declared.syntax.Base.{Base}
use Rattle.dcc_c.specs.declared.syntax.CType.{CType}
use Rattle.dcc_c.specs.Token.{Token, WordToken, Mark, same_bytes}
use Rattle.dcc_c.specs.Lexing.{Placed, placed}
use Rattle.dcc_c.specs.Tree.{Word, Expr}
use Rattle.dcc_c.specs.Grammar.{is_name, mark, type_tokens, base_words, unary_mark, binary_mark, Begins, none, one, IsNumber, decimal, hex, IsExpr, number, name, parentheses, unary, cast, binary, conditional, stronger}
use Rattle.dcc_c.specs.Rules.{most_open}
use Rattle.dcc_c.specs.Reading.{begins_type}
use Rattle.dcc_c.proofs.NameLaws.{same_bytes-equal}
use Rattle.dcc_c.proofs.reading.Enclosing.{open_after, enclosed-following}
use Rattle.dcc_c.proofs.reading.Statements.{first_of}
use Rattle.dcc_c.proofs.reading.ExprParts.{strength_most, unary_flat, binary_flat}

-- How many tokens.

pub begins-length : {all rest : List Placed} {tokens : List Token} → Begins all tokens rest → length all ≡ length tokens + length rest
begins-length none = omega arith
begins-length (one later) = let same = begins-length later in omega (arith, same)

-- an expression has a token
pub shorter : {least : ℕ} {tokens rest : List Placed} {e : Expr} → IsExpr least tokens e rest → length rest < length tokens
shorter (number is) = omega arith
shorter (name bytes is) = omega arith
shorter (parentheses inner) = let less = shorter inner in omega (arith, less)
shorter (unary operator a) = let less = shorter a in omega (arith, less)
shorter (cast type words a) =
    let less = shorter a in let same = begins-length words in omega (arith, less, same)
shorter (binary operator a b) = let less = shorter a in let fewer = shorter b in omega (arith, less, fewer)
shorter (conditional a b c) =
    let less = shorter a in let fewer = shorter b in let least = shorter c in omega (arith, less, fewer, least)
shorter (stronger a) = shorter a

-- no expression is stronger than a unary part
pub strongest : {least : ℕ} {tokens rest : List Placed} {e : Expr} → IsExpr least tokens e rest → least ≤ 11
strongest (number is) = omega arith
strongest (name bytes is) = omega arith
strongest (parentheses inner) = omega arith
strongest (unary operator a) = omega arith
strongest (cast type words a) = omega arith
strongest (binary operator a b) = omega (arith, strength_most operator)
strongest (conditional a b c) = omega arith
strongest (stronger a) = let most = strongest a in omega (arith, most)

-- Parentheses.

-- no token of these is a parenthesis
abbrev pub AreFlat : List Token → Type 0
AreFlat [] = ⊤
AreFlat (token ∷ tokens) = ((opened : ℕ) → open_after token opened ≡ opened) × AreFlat tokens

flat-append : (xs ys : List Token) → AreFlat xs → AreFlat ys → AreFlat (xs ++ ys)
flat-append [] ys first second = second
flat-append (x ∷ xs) ys first second = (first.0, flat-append xs ys first.1 second)

flat_words : (words : List Word) → AreFlat (map WordToken words)
flat_words [] = tt
flat_words (word ∷ words) = ((λ opened. refl), flat_words words)

flat_star : (pointer : Bool) → AreFlat (if pointer then Mark (codes "*") ∷ [] else [])
flat_star true = ((λ opened. refl), tt)
flat_star false = tt

pub flat_type : (type : CType) → AreFlat (type_tokens type)
flat_type type = flat-append _ _ (flat_words (base_words type.base)) (flat_star type.pointer)

-- tokens that keep to the limit, from one on which is no parenthesis
pub flat_after : (token : Token) (opened line : ℕ) (rest : List Placed) → open_after token opened ≡ opened →
    most_open opened (placed line token ∷ rest) ≤ 200 → most_open opened rest ≤ 200
flat_after token opened line rest flat few = rw flat at (enclosed-following token opened line rest few)

pub opening_after : (opened line : ℕ) (rest : List Placed) → most_open opened (mark line (codes "(") ∷ rest) ≤ 200 → most_open (suc opened) rest ≤ 200
opening_after opened line rest few = rw add-one at (enclosed-following (Mark (codes "(")) opened line rest few)

pub closing_after : (opened line : ℕ) (rest : List Placed) → most_open (suc opened) (mark line (codes ")") ∷ rest) ≤ 200 → most_open opened rest ≤ 200
closing_after opened line rest few =
    let same : suc opened - 1 ≡ opened = omega arith in
    rw same at (enclosed-following (Mark (codes ")")) (suc opened) line rest few)

pub begins-enclosed : {all rest : List Placed} {tokens : List Token} → Begins all tokens rest → AreFlat tokens → (opened : ℕ) →
    most_open opened all ≤ 200 → most_open opened rest ≤ 200
begins-enclosed none flat opened few = few
begins-enclosed (one {at} {token} {all} later) flat opened few =
    begins-enclosed later flat.1 opened (flat_after token opened at all (flat.0 opened) few)

number_flat : {token : Token} {n : ℕ} {base : Base} → IsNumber token n base → (opened : ℕ) → open_after token opened ≡ opened
number_flat (decimal n suffix) opened = refl
number_flat (hex n suffix) opened = refl

-- the parentheses of an expression are in pairs
pub expr-enclosed : {least : ℕ} {tokens rest : List Placed} {e : Expr} → IsExpr least tokens e rest → (opened : ℕ) →
    most_open opened tokens ≤ 200 → most_open opened rest ≤ 200
expr-enclosed (number {at} {token} {rest} is) opened few = flat_after token opened at rest (number_flat is opened) few
expr-enclosed (name {at} {rest} bytes is) opened few = flat_after (WordToken bytes) opened at rest refl few
expr-enclosed (parentheses {opening} {closing} {tokens} {rest} inner) opened few =
    closing_after opened closing rest (expr-enclosed inner (suc opened) (opening_after opened opening tokens few))
expr-enclosed (unary {at} {tokens} operator a) opened few =
    expr-enclosed a opened (flat_after (Mark (unary_mark operator)) opened at tokens (unary_flat operator opened) few)
expr-enclosed (cast {opening} {closing} {all} {tokens} type words a) opened few =
    expr-enclosed a opened (closing_after opened closing tokens (begins-enclosed words (flat_type type) (suc opened) (opening_after opened opening all few)))
expr-enclosed (binary {at} {others} operator a b) opened few =
    expr-enclosed b opened (flat_after (Mark (binary_mark operator)) opened at others (binary_flat operator opened) (expr-enclosed a opened few))
expr-enclosed (conditional {question} {colon} {first} {second} a b c) opened few =
    expr-enclosed c opened (flat_after (Mark (codes ":")) opened colon second refl (expr-enclosed b opened (flat_after (Mark (codes "?")) opened question first refl (expr-enclosed a opened few))))
expr-enclosed (stronger a) opened few = expr-enclosed a opened few

-- First tokens.

-- a name is no keyword
pub name_other : (bytes keyword : Word) → is_name bytes ≡ true → is_name keyword ≡ false → same_bytes bytes keyword ≡ false
name_other bytes keyword good bad = answer (same_bytes bytes keyword) refl
  where
    answer : (b : Bool) → same_bytes bytes keyword ≡ b → b ≡ false
    answer true is = absurd (true≢false (sym good ∙ (ap is_name (same_bytes-equal bytes keyword is) ∙ bad)))
    answer false is = refl

pub name_no_type : (bytes : Word) → is_name bytes ≡ true → begins_type (Some (WordToken bytes)) ≡ false
name_no_type bytes good =
    rw (name_other bytes (codes "signed") good refl, name_other bytes (codes "unsigned") good refl, name_other bytes (codes "int") good refl, name_other bytes (codes "long") good refl)

-- no expression begins with a type
pub expr_no_type : {least : ℕ} {tokens rest : List Placed} {e : Expr} → IsExpr least tokens e rest → begins_type (first_of tokens) ≡ false
expr_no_type (number (decimal n suffix)) = refl
expr_no_type (number (hex n suffix)) = refl
expr_no_type (name bytes is) = name_no_type bytes is
expr_no_type (parentheses inner) = refl
expr_no_type (unary operator a) = refl
expr_no_type (cast type words a) = refl
expr_no_type (binary operator a b) = expr_no_type a
expr_no_type (conditional a b c) = expr_no_type a
expr_no_type (stronger a) = expr_no_type a
