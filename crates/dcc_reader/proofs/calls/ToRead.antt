-- How much a reader has still to read, and what each part takes of that.
use Rattle.std.proofs.Common.{◌≡◌, ℕ, suc, ◌+◌, ◌*◌, ◌<◌, ◌≤◌, Bool, true, false, if◌then◌else◌, List, length, Option, Some, None, refl, ap, arith, length-drop}
use Rattle.dcc_c.specs.Kinds.{Kind, Offence}
use Rattle.dcc_c.specs.Token.{Token}
use Rattle.dcc_c.specs.Reading.{Reader, next_token, skip, stop_at, stop_kind, fail, take_mark, take_word, take_name, take_plain, take_type}
use Rattle.dcc_c.specs.ReadingStatements.{take_number_of_line}
use Rattle.dcc_c.proofs.reading.Passing.{Passed, stop_at-stops, skip-took, take_mark-took, take_word-took}
use Rattle.dcc_c.proofs.reading.Words.{type-sound}
use Rattle.dcc_c.proofs.reading.Steps.{name-sound, plain-sound, number-sound}

-- The pieces that a reader has before it, and the end of the text; one that has stopped reads nothing more.
pub to_read : Reader → ℕ
to_read r = elim r.stop [ Some offence ↦ 0 | None ↦ suc (length r.left) ]

-- So many calls are enough for a rule at this reader: sixteen for each piece and for the end, and what the rule takes.
abbrev pub Enough : ℕ → ℕ → Reader → Type 0
Enough calls rule r = 16 * to_read r + rule ≤ calls

stopped-reads : (r : Reader) (offence : Offence) → r.stop ≡ Some offence → to_read r ≡ 0
unfolding to_read
stopped-reads r offence is = ap (λ stop. elim stop [ Some o ↦ 0 | None ↦ suc (length r.left) ]) is

pub going-reads : (r : Reader) → r.stop ≡ None → to_read r ≡ suc (length r.left)
unfolding to_read
going-reads r is = ap (λ stop. elim stop [ Some o ↦ 0 | None ↦ suc (length r.left) ]) is

-- a fact that holds of a reader that has stopped, and of one that goes on
by_stop : {A : Type 0} (r : Reader) → ((offence : Offence) → r.stop ≡ Some offence → A) → (r.stop ≡ None → A) → A
by_stop {A} r stopped going = by r.stop refl
  where
    by : (stop : Option Offence) → r.stop ≡ stop → A
    by (Some offence) is = stopped offence is
    by None is = going is

-- reading that passes pieces leaves no more to read
pub passed-reads : (r following : Reader) → (following.stop ≡ None → Passed r following) → to_read following ≤ to_read r
passed-reads r following passes =
    by_stop following (λ offence is. omega (arith, stopped-reads following offence is))
    (λ going. omega (arith, going-reads following going, going-reads r (passes going).going, (passes going).fewer))

-- reading that goes on and takes a piece, or stops, leaves less
pub shorter-reads : (r following : Reader) → r.stop ≡ None → (following.stop ≡ None → length following.left < length r.left) → to_read following < to_read r
shorter-reads r following goes takes =
    by_stop following (λ offence is. omega (arith, stopped-reads following offence is, going-reads r goes))
    (λ going. omega (arith, going-reads following going, going-reads r goes, takes going))

-- where the stop is kept and there is something to read, reading goes on
pub reads-going : (r : Reader) → 0 < to_read r → r.stop ≡ None
reads-going r some = by_stop r (λ offence is. absurd (omega (arith, some, stopped-reads r offence is))) (λ going. going)

-- The next token.

pub skip-reads : (r : Reader) → to_read (skip r) ≤ to_read r
skip-reads r =
    by_stop r (λ offence is. omega (arith, stopped-reads (skip r) offence is))
    (λ going. omega (arith, going-reads (skip r) going, going-reads r going, length-drop 1 r.left))

seen-reads : (r : Reader) (token : Token) → next_token r ≡ Some token → to_read (skip r) < to_read r
seen-reads r token is =
    let took = skip-took r token is in
    omega (arith, going-reads (skip r) took.passed.going, going-reads r took.passed.going, took.one_less)

by_token : {A : Type 0} (r : Reader) → ((token : Token) → next_token r ≡ Some token → A) → (next_token r ≡ None → A) → A
by_token {A} r some none = by (next_token r) refl
  where
    by : (token : Option Token) → next_token r ≡ token → A
    by (Some token) is = some token is
    by None is = none is

-- the reader goes past the token that a test holds of, or that something is found in
pub sees-reads : (test : Option Token → Bool) (r : Reader) → test None ≡ false → test (next_token r) ≡ true → to_read (skip r) < to_read r
sees-reads test r without sees = by_token r (λ token is. seen-reads r token is) (λ none. absurd (let same = ap test none in cc))

pub finds-reads : {A : Type 0} (test : Option Token → Option A) (a : A) (r : Reader) → test None ≡ None → test (next_token r) ≡ Some a → to_read (skip r) < to_read r
finds-reads test a r without finds = by_token r (λ token is. seen-reads r token is) (λ none. absurd (let same = ap test none in cc))

-- a reader that sees a token goes on
pub sees-going : (test : Option Token → Bool) (r : Reader) → test None ≡ false → test (next_token r) ≡ true → r.stop ≡ None
sees-going test r without sees = reads-going r (omega (arith, sees-reads test r without sees))

-- Parts without calls.

pub stop-reads : (kind : Kind) (at : ℕ) (r : Reader) → to_read (stop_at kind at r) ≡ 0
stop-reads kind at r =
    by_stop (stop_at kind at r) (λ offence is. stopped-reads (stop_at kind at r) offence is) (λ going. absurd (stop_at-stops kind at r going))

pub fail-reads : (r : Reader) → to_read (fail r) ≡ 0
fail-reads r = stop-reads (stop_kind r.left) r.at r

pub mark-reads : (bytes : List ℕ) (r : Reader) → to_read (take_mark bytes r) ≤ to_read r
mark-reads bytes r = passed-reads r (take_mark bytes r) (λ going. (take_mark-took bytes r going).passed)

pub word-reads : (bytes : List ℕ) (r : Reader) → to_read (take_word bytes r) ≤ to_read r
word-reads bytes r = passed-reads r (take_word bytes r) (λ going. (take_word-took bytes r going).passed)

pub name-reads : (r : Reader) → to_read (take_name r).following ≤ to_read r
name-reads r = passed-reads r (take_name r).following (λ going. (name-sound r going).took.passed)

pub plain-reads : (r : Reader) → to_read (take_plain r).following ≤ to_read r
plain-reads r = passed-reads r (take_plain r).following (λ going. (plain-sound r going).took.passed)

pub number-reads : (line : ℕ) (r : Reader) → to_read (take_number_of_line line r).following ≤ to_read r
number-reads line r = passed-reads r (take_number_of_line line r).following (λ going. (number-sound line r going).0.took.passed)

pub type-reads : (r : Reader) → to_read (take_type r).following ≤ to_read r
type-reads r = passed-reads r (take_type r).following (λ going. (type-sound r going).passed)

-- Choices.

-- two choices by one test are the same where their parts are
pub if-same : {A : Type 0} (b : Bool) {x y z w : A} → (b ≡ true → x ≡ z) → (b ≡ false → y ≡ w) → (if b then x else y) ≡ (if b then z else w)
if-same true first second = first refl
if-same false first second = second refl

pub choice-same : {A B : Type 0} (o : Option A) {f g : A → B} {x y : B} → ((a : A) → o ≡ Some a → f a ≡ g a) → (o ≡ None → x ≡ y) →
    ◌≡◌ {A = B} (elim o [ Some a ↦ f a | None ↦ x ]) (elim o [ Some a ↦ g a | None ↦ y ])
choice-same (Some a) some none = some a refl
choice-same None some none = none refl
