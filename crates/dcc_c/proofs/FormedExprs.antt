-- The tokens of expressions in the written form are read as the expressions.
use Rattle.std.proofs.Common.{◌≡◌, ℕ, Bool, true, false, ◌&&◌, List, [], ◌∷◌, ◌++◌, map, refl, subst}
use Rattle.std.specs.Prelude.{codes}
use Rattle.std.specs.List.{list_all}
use Rattle.std.proofs.lemmas.Bool.{and_parts, or_parts}
use Rattle.dcc_c.specs.declared.syntax.CUn.{CUn}
use Rattle.dcc_c.specs.declared.syntax.CUn.TheVariants.{Minus, Deref}
use Rattle.dcc_c.specs.declared.syntax.CBin.TheVariants.{OrOr}
use Rattle.dcc_c.specs.Token.{Token, Decimal, decimal_type}
use Rattle.dcc_c.specs.Lexing.{Placed, placed}
use Rattle.dcc_c.specs.Tree.{Word, Expr, Number, Name, Unary, Binary, Conditional, Cast}
use Rattle.dcc_c.specs.Grammar.{mark, is_name, strength, type_tokens, Begins, none, one, IsExpr, decimal, number, name, parentheses, unary, cast, binary, conditional, stronger, IsPlace, name_place, deref_place, AreArguments, no_argument, last_argument, more_arguments, IsCall, call}
use Rattle.dcc_c.specs.Written.{suffix_for, suffix_gives, is_compound}
use Rattle.dcc_c.proofs.Writable.{is_small, may_take, is_writable_expr, is_writable_place}
use Rattle.dcc_c.proofs.WrittenTokens.{bracketed, is_negation, is_bracketed, expr_tokens, arguments_tokens, call_tokens}
use Rattle.dcc_c.proofs.WrittenLaws.{to_zero, as_operand}
use Rattle.dcc_c.proofs.TypeLaws.{base_from_same}

-- the strength at which an expression's own tokens are read
abbrev pub grade : Bool → ℕ
grade true = 0
grade false = 11

module _ {e : Expr} {tokens : List Placed → List Placed} (compound : Bool) (formed : (rest : List Placed) → IsExpr (grade compound) (tokens rest) e rest) where
  -- the tokens are read at strength 0
  whole_from : (rest : List Placed) → IsExpr 0 (tokens rest) e rest
  whole_from rest = to_zero (grade compound) (formed rest)

  -- in parentheses where they have to be, the tokens are an operand
  bracketed_formed : (at : ℕ) (is : Bool) → (is ≡ false → compound ≡ false) → (rest : List Placed) →
      IsExpr 11 (bracketed at is tokens rest) e rest
  bracketed_formed at true needed rest = parentheses (whole_from (mark at (codes ")") ∷ rest))
  bracketed_formed at false needed rest =
      subst (λ c. IsExpr (grade c) (tokens rest) e rest) (needed refl) (formed rest)

-- the type's tokens begin what they stand before
pub begins_formed : (at : ℕ) (tokens : List Token) (rest : List Placed) → Begins (map (placed at) tokens ++ rest) tokens rest
begins_formed at [] rest = none
begins_formed at (token ∷ tokens) rest = one (begins_formed at tokens rest)

-- an operand of `-` that is compound stands in parentheses, as one of any other operator
bracketed_compound : (operator : CUn) (a : Expr) → is_bracketed operator a ≡ false → is_compound a ≡ false
bracketed_compound Minus a is = (or_parts (is_compound a) (is_negation a) is).0
bracketed_compound _ a is = is

-- the tokens of an expression are read as the expression
graded : (e : Expr) → is_writable_expr e ≡ true → (at : ℕ) (rest : List Placed) → IsExpr (grade (is_compound e)) (expr_tokens at e rest) e rest
graded (Number n base) good at rest =
    let type = base_from_same (decimal_type n (suffix_for n base)) base (and_parts (is_small n) (suffix_gives n base (suffix_for n base)) good).1 in
    subst (λ b. IsExpr 11 (placed at (Decimal n (suffix_for n base)) ∷ rest) (Number n b) rest) type (number (decimal n (suffix_for n base)))
graded (Name word) good at rest = name word good
graded (Unary operator a) good at rest =
    let inner = graded a (and_parts (may_take operator a) (is_writable_expr a) good).1 at in
    unary operator (bracketed_formed (is_compound a) inner at (is_bracketed operator a) (bracketed_compound operator a) rest)
graded (Binary operator a b) good at rest =
    let (first, second) = and_parts (is_writable_expr a) (is_writable_expr b) good in
    let left = bracketed_formed (is_compound a) (graded a first at) at (is_compound a) (λ same. same) _ in
    let right = bracketed_formed (is_compound b) (graded b second at) at (is_compound b) (λ same. same) rest in
    to_zero (strength operator) (binary operator (stronger (as_operand operator left)) (as_operand operator right))
graded (Conditional a b c) good at rest =
    let (first, others) = and_parts (is_writable_expr a) (is_writable_expr b && is_writable_expr c) good in
    let (second, third) = and_parts (is_writable_expr b) (is_writable_expr c) others in
    let left = bracketed_formed (is_compound a) (graded a first at) at (is_compound a) (λ same. same) _ in
    let middle = bracketed_formed (is_compound b) (graded b second at) at (is_compound b) (λ same. same) _ in
    let right = bracketed_formed (is_compound c) (graded c third at) at (is_compound c) (λ same. same) rest in
    conditional (stronger (as_operand OrOr left)) (to_zero 11 middle) (to_zero 11 right)
graded (Cast type a) good at rest =
    let inner = bracketed_formed (is_compound a) (graded a good at) at (is_compound a) (λ same. same) rest in
    cast type (begins_formed at (type_tokens type) _) inner

pub expr_formed : (e : Expr) → is_writable_expr e ≡ true → (at : ℕ) (rest : List Placed) → IsExpr 0 (expr_tokens at e rest) e rest
expr_formed e good at rest = whole_from (is_compound e) (graded e good at) rest

-- the tokens of a place are read as the place
pub place_formed : (place : Expr) → is_writable_place place ≡ true → (at : ℕ) (rest : List Placed) → IsPlace (expr_tokens at place rest) place rest
place_formed (Name word) good at rest = name_place word good
place_formed (Unary Deref a) good at rest =
    let inner = graded a good at in
    deref_place (bracketed_formed (is_compound a) inner at (is_compound a) (λ same. same) rest)
place_formed _ good at rest = absurd cc

pub arguments_formed : (es : List Expr) → list_all is_writable_expr es ≡ true → (at : ℕ) (rest : List Placed) → AreArguments (arguments_tokens at es rest) es rest
arguments_formed [] good at rest = no_argument
arguments_formed (e ∷ []) good at rest =
    last_argument (expr_formed e (and_parts (is_writable_expr e) true good).0 at rest)
arguments_formed (e ∷ f ∷ es) good at rest =
    let (first, others) = and_parts (is_writable_expr e) (list_all is_writable_expr (f ∷ es)) good in
    more_arguments (expr_formed e first at _) (arguments_formed (f ∷ es) others at rest)

pub call_formed : (function : Word) (arguments : List Expr) → is_name function ≡ true → list_all is_writable_expr arguments ≡ true → (at : ℕ) (rest : List Placed) → IsCall (call_tokens at function arguments rest) function arguments (mark at (codes ";") ∷ rest)
call_formed function arguments is good at rest = call function is (arguments_formed arguments good at _)
