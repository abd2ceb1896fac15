-- From bytes to tokens, each with the line where it stands.
use Rattle.std.specs.Prelude.{◌≡◌, ℕ, suc, nat_le, Bool, true, false, ◌||◌, ◌==◌, List, [], ◌∷◌, ◌++◌, map}
use Rattle.std.specs.List.{flat_map, list_all}
use Rattle.std.specs.Fmt.{decimal}
use Rattle.dcc_c.specs.Token.{Token, Decimal, Pragma, plain_number, Head, version_line, head_bytes, Spells, ends_before}

-- a token and its line, from 1
pub record Placed : Type 0 where
  pub token : Token
  pub line : ℕ

abbrev pub placed : ℕ → Token → Placed
placed line token = record { token = token; line = line }

-- a space or a tab
abbrev pub is_blank : ℕ → Bool
is_blank b = (b == 32) || (b == 9)

-- the words of a pragma and one space before each of its numbers
abbrev pub pragma_bytes : Head → List ℕ → List ℕ
pragma_bytes head numbers = head_bytes head ++ flat_map (λ n. 32 ∷ decimal n) numbers

-- a pragma's tokens: its words are one, and each number is one
abbrev pub pragma_tokens : Head → List ℕ → List Token
pragma_tokens head numbers = Pragma head ∷ map (λ n. Decimal n plain_number) numbers

-- a pragma's numbers are at most 4294967295; those of the version line are its words
abbrev pub are_pragma_numbers : Head → List ℕ → Bool
are_pragma_numbers version_line [] = true
are_pragma_numbers version_line (n ∷ numbers) = false
are_pragma_numbers head numbers = list_all (λ n. nat_le n 4294967295) numbers

-- The bytes are these tokens, where the bytes begin in the given line, and at its beginning where `fresh` says so.
-- Spaces, tabs and line feeds are free between tokens; each token is the longest; a pragma has a line of its own.
pub data Lexes : Bool → ℕ → List ℕ → List Placed → Type 0 where
  ends : {fresh : Bool} {line : ℕ} → Lexes fresh line [] []
  blank : {fresh : Bool} {line b : ℕ} {bytes : List ℕ} {tokens : List Placed} → is_blank b ≡ true →
      Lexes false line bytes tokens → Lexes fresh line (b ∷ bytes) tokens
  feed : {fresh : Bool} {line : ℕ} {bytes : List ℕ} {tokens : List Placed} →
      Lexes true (suc line) bytes tokens → Lexes fresh line (10 ∷ bytes) tokens
  token : {fresh : Bool} {line : ℕ} {bytes : List ℕ} {tokens : List Placed} (read : Token) (spelling rest : List ℕ) →
      Spells spelling read → ends_before read rest ≡ true → bytes ≡ spelling ++ rest →
      Lexes false line rest tokens → Lexes fresh line bytes (placed line read ∷ tokens)
  pragma : {line : ℕ} {bytes : List ℕ} {tokens all : List Placed} (head : Head) (numbers rest : List ℕ) →
      are_pragma_numbers head numbers ≡ true → ends_before (Pragma head) rest ≡ true →
      bytes ≡ pragma_bytes head numbers ++ rest → Lexes false line rest tokens →
      all ≡ map (placed line) (pragma_tokens head numbers) ++ tokens → Lexes true line bytes all
