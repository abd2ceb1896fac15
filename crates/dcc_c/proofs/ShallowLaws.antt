-- The tokens of the written form of a shallow tree have at most 200 open parentheses.
use Rattle.std.proofs.Common.{◌≡◌, ℕ, suc, ◌+◌, ◌-◌, ◌≤◌, max, Bool, true, false, ◌&&◌, not, if◌then◌else◌, List, [], ◌∷◌, ◌++◌, map, refl, arith}
use Rattle.std.specs.Prelude.{codes, nat_le}
use Rattle.std.specs.List.{list_all}
use Rattle.std.proofs.lemmas.Bool.{and_parts, leb-true}
use Rattle.dcc_c.specs.declared.syntax.Base.{Base}
use Rattle.dcc_c.specs.declared.syntax.Base.TheVariants.{Schar, Uchar, Int, Uint, Long, Ulong}
use Rattle.dcc_c.specs.declared.syntax.CType.{CType}
use Rattle.dcc_c.specs.declared.syntax.CUn.{CUn}
use Rattle.dcc_c.specs.declared.syntax.CUn.TheVariants.{Minus}
use Rattle.dcc_c.specs.declared.syntax.CBin.{CBin}
use Rattle.dcc_c.specs.declared.syntax.CBin.TheVariants.{OrOr}
use Rattle.dcc_c.specs.Token.{Token, WordToken, Mark, same_bytes}
use Rattle.dcc_c.specs.Lexing.{Placed, placed}
use Rattle.dcc_c.specs.Tree.{Word, Expr, Number, Name, Unary, Binary, Conditional, Cast}
use Rattle.dcc_c.specs.Grammar.{mark, base_words, type_tokens, unary_mark, binary_mark}
use Rattle.dcc_c.specs.Written.{is_compound}
use Rattle.dcc_c.specs.Rules.{expr_depth, most_open}
use Rattle.dcc_c.proofs.WrittenTokens.{bracketed, is_bracketed, expr_tokens, arguments_tokens, call_tokens}

-- the token neither opens nor closes a parenthesis
abbrev pub is_flat : Token → Bool
is_flat (Mark bytes) = not (same_bytes bytes (codes "(")) && not (same_bytes bytes (codes ")"))
is_flat token = true

-- at most 200 parentheses are open at a token, where so many are open before
pub record Within (opened : ℕ) (tokens : List Placed) : Type 0 where
  pub most : most_open opened tokens ≤ 200

-- before others within the limit the tokens are, where at most so many parentheses are open
abbrev pub KeepsTo : ℕ → (List Placed → List Placed) → Type 0
KeepsTo most tokens = (k : ℕ) → k ≤ most → (others : List Placed) → Within k others → Within k (tokens others)

flat_mark : (k : ℕ) (opening closing : Bool) (a b c : ℕ) → (not opening && not closing) ≡ true → k ≤ 200 → c ≤ 200 →
    (if opening then max k a else (if closing then max k b else max k c)) ≤ 200
flat_mark k true closing a b c flat small h = absurd cc
flat_mark k false true a b c flat small h = absurd cc
flat_mark k false false a b c flat small h = omega arith

pub flat_open : (token : Token) → is_flat token ≡ true → (k at : ℕ) → k ≤ 200 → (others : List Placed) → Within k others → Within k (placed at token ∷ others)
flat_open (Mark bytes) flat k at small others h = record {
  most = flat_mark k (same_bytes bytes (codes "(")) (same_bytes bytes (codes ")")) (most_open (k + 1) others) (most_open (k - 1) others) (most_open k others) flat small h.most;
}
flat_open token flat k at small others h = let below = h.most in record { most = omega arith }

-- tokens that neither open nor close a parenthesis
flat_tokens : (tokens : List Token) → list_all is_flat tokens ≡ true → (at : ℕ) → KeepsTo 200 (λ rest. map (placed at) tokens ++ rest)
flat_tokens [] flat at k small others h = h
flat_tokens (token ∷ tokens) flat at k small others h =
    let (first, later) = and_parts (is_flat token) (list_all is_flat tokens) flat in
    flat_open token first k at small _ (flat_tokens tokens later at k small others h)

-- one parenthesis that opens, and one that closes
opening_open : (k at : ℕ) → k ≤ 200 → (others : List Placed) → Within (k + 1) others → Within k (mark at (codes "(") ∷ others)
opening_open k at small others h = let below = h.most in record { most = omega arith }

closing_open : (k at : ℕ) → k + 1 ≤ 200 → (others : List Placed) → Within k others → Within (k + 1) (mark at (codes ")") ∷ others)
closing_open k at small others h =
    let below = h.most in let back : k + 1 - 1 ≡ k = omega arith in record { most = rw back (omega arith) }

-- tokens in parentheses
pub enclosed_open : (most at : ℕ) (tokens : List Placed → List Placed) → suc most ≤ 200 → KeepsTo (suc most) tokens → KeepsTo most (λ rest. mark at (codes "(") ∷ tokens (mark at (codes ")") ∷ rest))
enclosed_open most at tokens room keeps k small others h =
    opening_open k at (omega arith) _ (keeps (k + 1) (omega arith) _ (closing_open k at (omega arith) others h))

bracketed_open : (most at : ℕ) (is : Bool) (tokens : List Placed → List Placed) → suc most ≤ 200 → KeepsTo (suc most) tokens → KeepsTo most (bracketed at is tokens)
bracketed_open most at true tokens room keeps = enclosed_open most at tokens room keeps
bracketed_open most at false tokens room keeps = λ k small others h. keeps k (omega arith) others h

type_flat : (base : Base) (pointer : Bool) → list_all is_flat (map WordToken (base_words base) ++ (if pointer then Mark (codes "*") ∷ [] else [])) ≡ true
type_flat Schar true = refl
type_flat Schar false = refl
type_flat Uchar true = refl
type_flat Uchar false = refl
type_flat Int true = refl
type_flat Int false = refl
type_flat Uint true = refl
type_flat Uint false = refl
type_flat Long true = refl
type_flat Long false = refl
type_flat Ulong true = refl
type_flat Ulong false = refl

unary_flat : (operator : CUn) → is_flat (Mark (unary_mark operator)) ≡ true
unary_flat Minus = refl
unary_flat _ = refl

binary_flat : (operator : CBin) → is_flat (Mark (binary_mark operator)) ≡ true
binary_flat OrOr = refl
binary_flat _ = refl

-- the tokens of a type
pub type_open : (type : CType) (at : ℕ) → KeepsTo 200 (λ rest. map (placed at) (type_tokens type) ++ rest)
type_open type at = flat_tokens (type_tokens type) (type_flat type.base type.pointer) at

pub depth_positive : (e : Expr) → 1 ≤ expr_depth e
depth_positive (Number n base) = omega arith
depth_positive _ = omega arith

-- an expression opens fewer parentheses than it is deep
pub expr_open : (e : Expr) (at most : ℕ) → most + expr_depth e ≤ 201 → KeepsTo most (expr_tokens at e)
expr_open (Number n base) at most room k small others h = flat_open _ refl k at (omega arith) others h
expr_open (Name name) at most room k small others h = flat_open _ refl k at (omega arith) others h
expr_open (Unary operator a) at most room k small others h =
    let deep = depth_positive a in
    let inner = bracketed_open most at (is_bracketed operator a) (expr_tokens at a) (omega arith) (expr_open a at (suc most) (omega arith)) k small others h in
    flat_open (Mark (unary_mark operator)) (unary_flat operator) k at (omega arith) _ inner
expr_open (Binary operator a b) at most room k small others h =
    let deep = depth_positive a in
    let right = bracketed_open most at (is_compound b) (expr_tokens at b) (omega arith) (expr_open b at (suc most) (omega arith)) k small others h in
    let middle = flat_open (Mark (binary_mark operator)) (binary_flat operator) k at (omega arith) _ right in
    bracketed_open most at (is_compound a) (expr_tokens at a) (omega arith) (expr_open a at (suc most) (omega arith)) k small _ middle
expr_open (Conditional a b c) at most room k small others h =
    let deep = depth_positive a in
    let third = bracketed_open most at (is_compound c) (expr_tokens at c) (omega arith) (expr_open c at (suc most) (omega arith)) k small others h in
    let colon = flat_open (Mark (codes ":")) refl k at (omega arith) _ third in
    let second = bracketed_open most at (is_compound b) (expr_tokens at b) (omega arith) (expr_open b at (suc most) (omega arith)) k small _ colon in
    let question = flat_open (Mark (codes "?")) refl k at (omega arith) _ second in
    bracketed_open most at (is_compound a) (expr_tokens at a) (omega arith) (expr_open a at (suc most) (omega arith)) k small _ question
expr_open (Cast type a) at most room k small others h =
    let deep = depth_positive a in
    let inner = bracketed_open most at (is_compound a) (expr_tokens at a) (omega arith) (expr_open a at (suc most) (omega arith)) k small others h in
    opening_open k at (omega arith) _ (type_open type at (k + 1) (omega arith) _ (closing_open k at (omega arith) _ inner))

-- the expression is at most 200 deep
abbrev pub is_shallow : Expr → Bool
is_shallow e = nat_le (expr_depth e) 200

-- a shallow expression where one parenthesis at most is open
pub shallow_open : (e : Expr) → is_shallow e ≡ true → (at : ℕ) → KeepsTo 1 (expr_tokens at e)
shallow_open e shallow at = let deep = leb-true (expr_depth e) 200 shallow in expr_open e at 1 (omega arith)

arguments_open : (es : List Expr) → list_all is_shallow es ≡ true → (at : ℕ) → KeepsTo 1 (arguments_tokens at es)
arguments_open [] shallow at k small others h = h
arguments_open (e ∷ []) shallow at k small others h = shallow_open e (and_parts (is_shallow e) true shallow).0 at k small others h
arguments_open (e ∷ f ∷ es) shallow at k small others h =
    let (first, later) = and_parts (is_shallow e) (list_all is_shallow (f ∷ es)) shallow in
    let following = arguments_open (f ∷ es) later at k small others h in
    shallow_open e first at k small _ (flat_open (Mark (codes ",")) refl k at (omega arith) _ following)

-- before others within the limit the tokens are, where no parenthesis is open
abbrev pub Keeps : (List Placed → List Placed) → Type 0
Keeps tokens = (others : List Placed) → Within 0 others → Within 0 (tokens others)

pub flat_keeps : (token : Token) → is_flat token ≡ true → (at : ℕ) → Keeps (λ rest. placed at token ∷ rest)
flat_keeps token flat at others h = flat_open token flat 0 at (omega arith) others h

pub expr_keeps : (e : Expr) → is_shallow e ≡ true → (at : ℕ) → Keeps (expr_tokens at e)
expr_keeps e shallow at others h = shallow_open e shallow at 0 (omega arith) others h

pub call_keeps : (function : Word) (arguments : List Expr) → list_all is_shallow arguments ≡ true → (at : ℕ) → Keeps (call_tokens at function arguments)
call_keeps function arguments shallow at others h =
    let end = flat_keeps (Mark (codes ";")) refl at others h in
    flat_keeps (WordToken function) refl at _ (enclosed_open 0 at (arguments_tokens at arguments) (omega arith) (arguments_open arguments shallow at) 0 (omega arith) _ end)
