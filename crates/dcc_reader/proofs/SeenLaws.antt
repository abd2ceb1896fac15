-- There is a next token where a test of it holds.
use Rattle.std.proofs.Common.{◌≡◌, ℕ, Bool, true, false, ◌&&◌, List, Option, Some, None, is_some, refl, ap, ◌∙◌}
use Rattle.std.proofs.lemmas.Bool.{false≢true}
use Rattle.dcc_c.specs.Token.{Token, Head, version_line, stack_line, place_line, depth_line}
use Rattle.dcc_c.specs.Tree.{Word}
use Rattle.dcc_c.specs.Partial.{WordAt}
use Rattle.dcc_c.specs.Reading.{Reader, Got, got, fail, take_name, next_token, second_token, skip, is_the_mark, is_the_word, name_of, sees_mark, sees_word}
use Rattle.dcc_c.specs.ReadingStatements.{is_the_head, sees_head}

token-mark : (bytes : List ℕ) (token : Option Token) → is_the_mark bytes token ≡ true → is_some token ≡ true
token-mark bytes None e = absurd (false≢true e)
token-mark bytes (Some t) e = refl

token-word : (bytes : List ℕ) (token : Option Token) → is_the_word bytes token ≡ true → is_some token ≡ true
token-word bytes None e = absurd (false≢true e)
token-word bytes (Some t) e = refl

token-head : (head : Head) (token : Option Token) → is_the_head head token ≡ true → is_some token ≡ true
token-head version_line None e = absurd (false≢true e)
token-head stack_line None e = absurd (false≢true e)
token-head place_line None e = absurd (false≢true e)
token-head depth_line None e = absurd (false≢true e)
token-head head (Some t) e = refl

pub mark-seen : (bytes : List ℕ) (r : Reader) → sees_mark bytes r ≡ true → is_some (next_token r) ≡ true
mark-seen bytes r e = token-mark bytes (next_token r) e

pub word-seen : (bytes : List ℕ) (r : Reader) → sees_word bytes r ≡ true → is_some (next_token r) ≡ true
word-seen bytes r e = token-word bytes (next_token r) e

pub head-seen : (head : Head) (r : Reader) → sees_head head r ≡ true → is_some (next_token r) ≡ true
head-seen head r e = token-head head (next_token r) e

-- both tests hold
pub both-first : (a b : Bool) → (a && b) ≡ true → a ≡ true
both-first true b e = refl
both-first false b e = absurd (false≢true e)

pub both-second : (a b : Bool) → (a && b) ≡ true → b ≡ true
both-second true b e = e
both-second false b e = absurd (false≢true e)

-- a name that was taken, or none
abbrev name_taken : Reader → Option Word → Got (Option WordAt)
name_taken r name = elim name [ Some word ↦ got (Some (record { word = word; at = r.at })) (skip r) | None ↦ got None (fail r) ]

named : (r : Reader) (name : Option Word) → is_some name ≡ true → (name_taken r name).following ≡ skip r
named r (Some word) e = refl
named r None e = absurd (false≢true e)

-- after a name that a mark stands after
pub mark-after : (bytes : List ℕ) (r following : Reader) (name : Option WordAt) →
    (is_some (name_of (next_token r)) && is_the_mark bytes (second_token r)) ≡ true → got name following ≡ take_name r → is_some (next_token following) ≡ true
mark-after bytes r following name e is =
    let here = is_some (name_of (next_token r)) in
    let mark = is_the_mark bytes (second_token r) in
    let same : following ≡ skip r = ap (λ (g : Got (Option WordAt)). g.following) is ∙ named r (name_of (next_token r)) (both-first here mark e) in
    ap (λ k. is_some (next_token k)) same ∙ token-mark bytes (second_token r) (both-second here mark e)
