-- The numbers of a text's tokens have at most 32 bits.
use Rattle.std.proofs.Common.{◌≡◌, ℕ, zero, suc, ◌+◌, ◌*◌, ◌≤◌, Bool, true, ◌&&◌, List, [], ◌∷◌, ◌++◌, map, length, refl, sym, subst, arith}
use Rattle.std.specs.Prelude.{nat_le}
use Rattle.std.specs.List.{list_all}
use Rattle.std.proofs.lemmas.Bool.{and_parts, leb-true, le-leb}
use Rattle.dcc_c.specs.Token.{Token, WordToken, Decimal, Hex, Mark, Pragma, plain_number, Head, version_line, stack_line, place_line, depth_line, hex_value, hex_from, are_hex_digits, Spells}
use Rattle.dcc_c.specs.Lexing.{Placed, placed, pragma_tokens, are_pragma_numbers, Lexes, ends, blank, feed, token, pragma}
use Rattle.dcc_c.proofs.Writable.{is_small}

-- the token's number can be written
abbrev pub has_small : Token → Bool
has_small (Decimal n suffix) = is_small n
has_small (Hex n suffix) = is_small n
has_small other = true

-- the tokens' numbers can be written
pub data AreSmall : List Placed → Type 0 where
  no_token : AreSmall []
  small_token : {at : ℕ} {token : Token} {tokens : List Placed} → has_small token ≡ true → AreSmall tokens → AreSmall (placed at token ∷ tokens)

pub tail_small : {at : ℕ} {token : Token} {tokens : List Placed} → AreSmall (placed at token ∷ tokens) → AreSmall tokens
tail_small (small_token first others) = others

pub head_small : {at : ℕ} {token : Token} {tokens : List Placed} → AreSmall (placed at token ∷ tokens) → has_small token ≡ true
head_small (small_token first others) = first

-- the greatest value of so many hexadecimal digits after a value
abbrev pub greatest : ℕ → ℕ → ℕ
greatest zero n = n
greatest (suc k) n = greatest k (16 * n + 15)

greatest-le : (k : ℕ) {n m : ℕ} → n ≤ m → greatest k n ≤ greatest k m
greatest-le zero below = below
greatest-le (suc k) below = greatest-le k (omega arith)

greatest-from : (k n : ℕ) → n ≤ greatest k n
greatest-from zero n = omega arith
greatest-from (suc k) n = let more = greatest-from k (16 * n + 15) in omega arith

-- digits after a value are at most so many
pub hex_fits : (digits : List ℕ) (room n : ℕ) → list_all (λ b. nat_le (hex_value b) 15) digits ≡ true → length digits ≤ room → hex_from n digits ≤ greatest room n
hex_fits [] room n good few = greatest-from room n
hex_fits (b ∷ digits) zero n good few = absurd (omega (arith, few))
hex_fits (b ∷ digits) (suc room) n good few =
    let (first, others) = and_parts (nat_le (hex_value b) 15) (list_all (λ b. nat_le (hex_value b) 15) digits) good in
    let digit : hex_value b ≤ 15 = leb-true (hex_value b) 15 first in
    let more : hex_from (16 * n + hex_value b) digits ≤ greatest room (16 * n + hex_value b) = hex_fits digits room (16 * n + hex_value b) others (omega arith) in
    let grows : greatest room (16 * n + hex_value b) ≤ greatest room (16 * n + 15) = greatest-le room (omega arith) in
    omega arith

hex_small : (digits : List ℕ) → are_hex_digits digits ≡ true → hex_from 0 digits ≤ 4294967295
hex_small digits good =
    let (each, sizes) = and_parts (list_all (λ b. nat_le (hex_value b) 15) digits) (nat_le 1 (length digits) && nat_le (length digits) 8) good in
    let few = leb-true (length digits) 8 (and_parts (nat_le 1 (length digits)) (nat_le (length digits) 8) sizes).1 in
    hex_fits digits 8 0 each few

spelled_small : (read : Token) (spelling : List ℕ) → Spells spelling read → has_small read ≡ true
spelled_small (Decimal n suffix) spelling is = le-leb n 4294967295 is.1
spelled_small (Hex n suffix) spelling (digits, good, value, bytes) =
    let fits = hex_small digits good in le-leb n 4294967295 (subst (λ m. m ≤ 4294967295) value fits)
spelled_small (WordToken bytes) spelling is = refl
spelled_small (Mark bytes) spelling is = refl
spelled_small (Pragma head) spelling is = refl

numbers_before : (line : ℕ) (numbers : List ℕ) {tokens : List Placed} → list_all is_small numbers ≡ true → AreSmall tokens → AreSmall (map (placed line) (map (λ n. Decimal n plain_number) numbers) ++ tokens)
numbers_before line [] good small = small
numbers_before line (n ∷ numbers) good small =
    let (first, others) = and_parts (is_small n) (list_all is_small numbers) good in
    small_token first (numbers_before line numbers others small)

pragma_small : (line : ℕ) (head : Head) (numbers : List ℕ) {tokens : List Placed} → are_pragma_numbers head numbers ≡ true → AreSmall tokens → AreSmall (map (placed line) (pragma_tokens head numbers) ++ tokens)
pragma_small line version_line [] good small = small_token refl small
pragma_small line version_line (n ∷ numbers) good small = absurd cc
pragma_small line stack_line numbers good small = small_token refl (numbers_before line numbers good small)
pragma_small line place_line numbers good small = small_token refl (numbers_before line numbers good small)
pragma_small line depth_line numbers good small = small_token refl (numbers_before line numbers good small)

-- the numbers of a text's tokens can be written
pub lexed_small : {fresh : Bool} {line : ℕ} {bytes : List ℕ} {tokens : List Placed} → Lexes fresh line bytes tokens → AreSmall tokens
lexed_small ends = no_token
lexed_small (blank is later) = lexed_small later
lexed_small (feed later) = lexed_small later
lexed_small (token read spelling rest is separate bytes later) = small_token (spelled_small read spelling is) (lexed_small later)
lexed_small (pragma {line} {tokens} {all} head numbers rest good separate bytes later same) =
    subst AreSmall (sym same) (pragma_small line head numbers good (lexed_small later))
