-- Steps of a reader: what it passed, and that no parenthesis in that is one too many.
use Rattle.std.proofs.Common.{◌≡◌, ℕ, suc, ◌≤◌, true, Option, Some, None, refl}
use Rattle.std.specs.Prelude.{codes, ◌==◌}
use Rattle.std.proofs.lemmas.Bool.{eqb-true}
use Rattle.dcc_c.specs.Token.{Token, WordToken, Decimal, Mark, Pragma, plain_number, Head, version_line, stack_line, place_line, depth_line}
use Rattle.dcc_c.specs.Grammar.{is_name}
use Rattle.dcc_c.specs.Rules.{most_open}
use Rattle.dcc_c.specs.Partial.{WordAt, NumberAt, PartialExpr}
use Rattle.dcc_c.specs.Reading.{Reader, Got, next_token, line_of, skip, name_of, plain_of, take_name, take_plain, Inside}
use Rattle.dcc_c.specs.ReadingStatements.{is_the_head, sees_head, take_head, take_number_of_line}
use Rattle.dcc_c.proofs.reading.Passing.{tokens_of, Passed, Took, then_passed, not_passed, if-cases, fail-stops, skip-took}
use Rattle.dcc_c.proofs.reading.Enclosing.{open_after}
use Rattle.dcc_c.proofs.reading.Words.{took_enclosed, name_of-is, plain_of-is}
use Rattle.dcc_c.proofs.reading.Statements.{ReadsExpr}
use Rattle.dcc_c.proofs.reading.Stopping.{choice-cases}
use Rattle.dcc_c.proofs.reading.ExprParts.{opening_enclosed, closing_enclosed}

-- the reader went from one place to another, with so many parentheses open before and after
pub record Steps (opened after : ℕ) (r following : Reader) : Type 0 where
  pub passed : Passed r following
  pub enclosed : most_open after (tokens_of following.left) ≤ 200 → most_open opened (tokens_of r.left) ≤ 200

pub then_steps : {a b c : ℕ} {r between following : Reader} → Steps a b r between → Steps b c between following → Steps a c r following
then_steps first second =
    record { passed = then_passed first.passed second.passed; enclosed = λ few. first.enclosed (second.enclosed few) }

pub no_steps : {opened : ℕ} (r : Reader) → r.stop ≡ None → Steps opened opened r r
no_steps r going = record { passed = not_passed r going; enclosed = λ few. few }

pub token_steps : {token : Token} {r following : Reader} (opened : ℕ) → open_after token opened ≡ opened → Took token r following → Steps opened opened r following
token_steps {token} {r} {following} opened flat took =
    record { passed = took.passed; enclosed = λ few. took_enclosed token r following took opened flat few }

pub opening_steps : {r following : Reader} (opened : ℕ) → Took (Mark (codes "(")) r following → Steps opened (suc opened) r following
opening_steps opened took = record { passed = took.passed; enclosed = λ few. opening_enclosed opened took few }

pub closing_steps : {r following : Reader} (opened : ℕ) → suc opened ≤ 200 → Took (Mark (codes ")")) r following → Steps (suc opened) opened r following
closing_steps opened room took = record { passed = took.passed; enclosed = λ few. closing_enclosed opened room took few }

pub expr_steps : {least : ℕ} {inside : Inside} {r : Reader} {g : Got PartialExpr} → ReadsExpr least inside r g → Steps inside.opened inside.opened r g.following
expr_steps read = record { passed = read.passed; enclosed = read.enclosed }

-- another depth of calls changes nothing
pub with_depth : {opened after : ℕ} {r following : Reader} (depth : ℕ) → Steps opened after r following → Steps opened after r (record following { depth = depth })
with_depth depth steps =
    record { passed = record { going = steps.passed.going; whole = steps.passed.whole; place = steps.passed.place; fewer = steps.passed.fewer }; enclosed = steps.enclosed }

-- Names and numbers.

-- a name was passed
pub record TookName (r : Reader) (g : Got (Option WordAt)) : Type 0 where
  pub name : WordAt
  pub is : g.value ≡ Some name
  pub good : is_name name.word ≡ true
  pub took : Took (WordToken name.word) r g.following

pub name-sound : (r : Reader) → (take_name r).following.stop ≡ None → TookName r (take_name r)
name-sound r =
    choice-cases (λ g. g.following.stop ≡ None → TookName r g) (name_of (next_token r))
    (λ word is _.
    let seen = name_of-is (next_token r) word is in
    record { name = record { word = word; at = r.at }; is = refl; good = seen.1; took = skip-took r (WordToken word) seen.0 })
    (λ _ going. absurd (fail-stops r going))

-- a decimal number without suffix was passed
pub record TookPlain (r : Reader) (g : Got (Option NumberAt)) : Type 0 where
  pub number : NumberAt
  pub is : g.value ≡ Some number
  pub took : Took (Decimal number.value plain_number) r g.following

pub plain-sound : (r : Reader) → (take_plain r).following.stop ≡ None → TookPlain r (take_plain r)
plain-sound r =
    choice-cases (λ g. g.following.stop ≡ None → TookPlain r g) (plain_of (next_token r))
    (λ n is _.
    record { number = record { value = n; at = r.at }; is = refl; took = skip-took r (Decimal n plain_number) (plain_of-is (next_token r) n is) })
    (λ _ going. absurd (fail-stops r going))

-- a decimal number without suffix was passed, which stands in the line
pub number-sound : (line : ℕ) (r : Reader) → (take_number_of_line line r).following.stop ≡ None →
    TookPlain r (take_number_of_line line r) × (line_of r.left ≡ line)
number-sound line r =
    if-cases (λ g. g.following.stop ≡ None → TookPlain r g × (line_of r.left ≡ line)) (line_of r.left == line)
    (λ same going. (plain-sound r going, eqb-true (line_of r.left) line same)) (λ _ going. absurd (fail-stops r going))

-- Pragmas.

the_head-is : (head : Head) (token : Option Token) → is_the_head head token ≡ true → token ≡ Some (Pragma head)
the_head-is version_line (Some (Pragma version_line)) is = refl
the_head-is stack_line (Some (Pragma stack_line)) is = refl
the_head-is place_line (Some (Pragma place_line)) is = refl
the_head-is depth_line (Some (Pragma depth_line)) is = refl
the_head-is _ _ is = absurd cc

pub sees_head-took : (head : Head) (r : Reader) → sees_head head r ≡ true → Took (Pragma head) r (skip r)
sees_head-took head r sees = skip-took r (Pragma head) (the_head-is head (next_token r) sees)

pub head-sound : (head : Head) (r : Reader) → (take_head head r).stop ≡ None → Took (Pragma head) r (take_head head r)
head-sound head r =
    if-cases (λ following. following.stop ≡ None → Took (Pragma head) r following) (sees_head head r)
    (λ sees _. sees_head-took head r sees) (λ _ going. absurd (fail-stops r going))
