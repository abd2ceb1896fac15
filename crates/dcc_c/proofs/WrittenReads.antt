-- Parts of a text that are read as tokens, and how they join.
use Rattle.std.proofs.Common.{◌≡◌, ℕ, ◌+◌, Bool, true, false, List, [], ◌∷◌, ◌++◌, refl, sym, ◌∙◌, subst, append_assoc, arith}
use Rattle.dcc_c.specs.Token.{Token, ends_before}
use Rattle.dcc_c.specs.Lexing.{Placed, placed, Lexes, ends, blank, feed, token}
use Rattle.dcc_c.specs.Numbered.{rows}
use Rattle.dcc_c.proofs.LexingLaws.{spelling, is_spelled, spelled}
use Rattle.dcc_c.proofs.WrittenRows.{rows-append, spelling_flat}
use Rattle.dcc_c.proofs.WrittenLaws.{is_free}

-- how a part ends: inside its line, or with a line feed, after which a line begins
pub data Ending : Type 0 where
  Inside : Ending
  LineAfter : ℕ → Ending

-- the bytes may follow a part that ends so
abbrev pub Fits : Ending → List ℕ → Type 0
Fits Inside rest = is_free rest ≡ true
Fits (LineAfter n) rest = Unit {0}

-- the bytes after a part of this line that ends so are read as the tokens
abbrev pub Goes : Ending → ℕ → List ℕ → List Placed → Type 0
Goes Inside at rest others = Lexes false at rest others
Goes (LineAfter n) at rest others = Lexes true n rest others

-- a part of this line that ends so has so many line feeds
abbrev pub Counts : Ending → ℕ → ℕ → Type 0
Counts Inside at n = n ≡ 0
Counts (LineAfter following) at n = following ≡ at + n

-- The bytes, which begin in this line and end so, are read as the tokens, whatever may follow.
pub record Reads (fresh : Bool) (at : ℕ) (ending : Ending) (bytes : List ℕ) (tokens : List Placed → List Placed) : Type 0 where
  pub lexed : (rest : List ℕ) (others : List Placed) → Fits ending rest → Goes ending at rest others →
      Lexes fresh at (bytes ++ rest) (tokens others)
  pub counted : Counts ending at (rows bytes)

-- Joining.

-- what can be read inside a line can be read at its beginning
pub at_beginning : {fresh : Bool} {at : ℕ} {bytes : List ℕ} {tokens : List Placed} → Lexes false at bytes tokens →
    Lexes fresh at bytes tokens
at_beginning ends = ends
at_beginning (blank is then) = blank is then
at_beginning (feed then) = feed then
at_beginning (token read spelled rest is apart joined then) = token read spelled rest is apart joined then

-- the count does not change where bytes without a line feed stand before
count_after : (ending : Ending) (at : ℕ) (a b : List ℕ) → rows a ≡ 0 → Counts ending at (rows b) →
    Counts ending at (rows (a ++ b))
count_after ending at a b flat counts =
    subst (λ n. Counts ending at n) (sym (rows-append a b ∙ rw flat (omega arith))) counts

-- nothing
pub nothing : {at : ℕ} → Reads false at Inside [] (λ others. others)
nothing = record { lexed = λ rest others fits goes. goes; counted = refl }

-- a space before a part
pub space_then : {fresh : Bool} {at : ℕ} {ending : Ending} {b : List ℕ} {g : List Placed → List Placed} →
    Reads false at ending b g → Reads fresh at ending (32 ∷ b) g
space_then r = record {
  lexed = λ rest others fits goes. blank refl (r.lexed rest others fits goes);
  counted = r.counted;
}

-- a token before a part
pub token_then : {fresh : Bool} {at : ℕ} {ending : Ending} {b : List ℕ} {g : List Placed → List Placed} (read : Token) →
    is_spelled read ≡ true → ((rest : List ℕ) → Fits ending rest → ends_before read (b ++ rest) ≡ true) →
    Reads false at ending b g → Reads fresh at ending (spelling read ++ b) (λ others. placed at read ∷ g others)
token_then {at} {ending} {b} read good apart r = record {
  lexed = λ rest others fits goes. token read (spelling read) (b ++ rest) (spelled read good) (apart rest fits) (append_assoc (spelling read) b rest) (r.lexed rest others fits goes);
  counted = count_after ending at (spelling read) b (spelling_flat read good) r.counted;
}

-- a part inside a line before another
pub reads_then : {fresh : Bool} {at : ℕ} {ending : Ending} {a b : List ℕ} {f g : List Placed → List Placed} →
    Reads fresh at Inside a f → ((rest : List ℕ) → Fits ending rest → is_free (b ++ rest) ≡ true) →
    Reads false at ending b g → Reads fresh at ending (a ++ b) (λ others. f (g others))
reads_then {fresh} {at} {ending} {a} {b} {f} {g} first free r = record {
  lexed = λ rest others fits goes. subst (λ bytes. Lexes fresh at bytes (f (g others))) (sym (append_assoc a b rest)) (first.lexed (b ++ rest) (g others) (free rest fits) (r.lexed rest others fits goes));
  counted = count_after ending at a b first.counted r.counted;
}

-- the end of a line
pub line_feed : {fresh : Bool} {at : ℕ} → Reads fresh at (LineAfter (at + 1)) (10 ∷ []) (λ others. others)
line_feed {fresh} {at} = record {
  lexed = λ rest others fits goes. feed (subst (λ n. Lexes true n rest others) (omega arith) goes);
  counted = refl;
}

-- no line
pub no_line : {at : ℕ} → Reads true at (LineAfter at) [] (λ others. others)
no_line {at} = record { lexed = λ rest others fits goes. goes; counted = omega arith }

-- lines before others
pub lines_then : {fresh : Bool} {at following last : ℕ} {a b : List ℕ} {f g : List Placed → List Placed} →
    Reads fresh at (LineAfter following) a f → Reads true following (LineAfter last) b g →
    Reads fresh at (LineAfter last) (a ++ b) (λ others. f (g others))
lines_then {fresh} {at} {following} {last} {a} {b} {f} {g} first r = record {
  lexed = λ rest others fits goes. subst (λ bytes. Lexes fresh at bytes (f (g others))) (sym (append_assoc a b rest)) (first.lexed (b ++ rest) (g others) tt (r.lexed rest others fits goes));
  counted =
      let one : following ≡ at + rows a = first.counted in
      let two : last ≡ following + rows b = r.counted in
      rw rows-append (omega arith);
}

-- the line after a part, by another count
pub counted_as : {fresh : Bool} {at following : ℕ} {bytes : List ℕ} {tokens : List Placed → List Placed} (other : ℕ) →
    following ≡ other → Reads fresh at (LineAfter following) bytes tokens → Reads fresh at (LineAfter other) bytes tokens
counted_as {fresh} {at} {bytes} {tokens} other same r = subst (λ n. Reads fresh at (LineAfter n) bytes tokens) same r
