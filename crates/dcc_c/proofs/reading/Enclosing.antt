-- Parentheses that are open at tokens, one token after the other.
use Rattle.std.proofs.Common.{◌≡◌, ℕ, ◌+◌, ◌-◌, ◌≤◌, max, if◌then◌else◌, List, [], ◌∷◌, refl, arith}
use Rattle.std.specs.Prelude.{codes, Bool, true, false}
use Rattle.dcc_c.specs.Token.{Token, WordToken, Decimal, Hex, Mark, Pragma, same_bytes}
use Rattle.dcc_c.specs.Lexing.{Placed, placed}
use Rattle.dcc_c.specs.Rules.{most_open}

-- how many parentheses are open after the token
abbrev pub open_after : Token → ℕ → ℕ
open_after (Mark mark) opened =
    if same_bytes mark (codes "(") then opened + 1 else if same_bytes mark (codes ")") then opened - 1 else opened
open_after token opened = opened

two_tests : (a b : Bool) (opened : ℕ) (f : ℕ → ℕ) →
    (if a then max opened (f (opened + 1)) else if b then max opened (f (opened - 1)) else max opened (f opened))
    ≡ max opened (f (if a then opened + 1 else if b then opened - 1 else opened))
two_tests true b opened f = refl
two_tests false true opened f = refl
two_tests false false opened f = refl

most_open-cons : (token : Token) (opened line : ℕ) (tokens : List Placed) →
    most_open opened (placed line token ∷ tokens) ≡ max opened (most_open (open_after token opened) tokens)
most_open-cons (Mark mark) opened line tokens =
    two_tests (same_bytes mark (codes "(")) (same_bytes mark (codes ")")) opened (λ o. most_open o tokens)
most_open-cons (WordToken word) opened line tokens = refl
most_open-cons (Decimal n suffix) opened line tokens = refl
most_open-cons (Hex n suffix) opened line tokens = refl
most_open-cons (Pragma head) opened line tokens = refl

-- at least as many as before the tokens
pub open_before : (opened : ℕ) (tokens : List Placed) → opened ≤ most_open opened tokens
open_before opened [] = omega arith
open_before opened (p ∷ tokens) =
    let same = most_open-cons p.token opened p.line tokens in omega (arith, same)

-- tokens keep to a limit where those after the first one do
pub enclosed-before : (token : Token) (opened line : ℕ) (tokens : List Placed) → opened ≤ 200 →
    most_open (open_after token opened) tokens ≤ 200 → most_open opened (placed line token ∷ tokens) ≤ 200
enclosed-before token opened line tokens few following =
    let same = most_open-cons token opened line tokens in omega (arith, same)

-- where tokens keep to a limit of parentheses, those after the first one do
pub enclosed-following : (token : Token) (opened line : ℕ) (tokens : List Placed) →
    most_open opened (placed line token ∷ tokens) ≤ 200 → most_open (open_after token opened) tokens ≤ 200
enclosed-following token opened line tokens all =
    let same = most_open-cons token opened line tokens in omega (arith, same)
