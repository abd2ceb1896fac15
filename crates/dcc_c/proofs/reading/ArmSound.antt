-- What is read of the head of an arm is one or more cases, or `default`.
use Rattle.std.proofs.Common.{◌≡◌, ℕ, zero, suc, ◌≤◌, ◌<◌, length, List, [], ◌∷◌, ◌++◌, true, Option, Some, None, refl, ◌∙◌, subst, arith}
use Rattle.std.specs.Prelude.{codes, nat_le, ◌&&◌}
use Rattle.std.proofs.lemmas.Bool.{and_parts, leb-true}
use Rattle.dcc_c.specs.Token.{Token, Decimal, Hex, Suffix, plain_number as plain_suffix, unsigned_suffix}
use Rattle.dcc_c.specs.Lexing.{Placed, placed}
use Rattle.dcc_c.specs.Grammar.{mark, word, IsCaseNumber, plain_decimal, unsigned_decimal, plain_hex, unsigned_hex, AreCases, last_case, more_cases}
use Rattle.dcc_c.specs.Partial.{NumberAt}
use Rattle.dcc_c.specs.Reading.{Reader, Got, got, next_token, skip, sees_word}
use Rattle.dcc_c.specs.ReadingStatements.{case_if, case_number, read_case, read_cases, is_case_suffix}
use Rattle.dcc_c.specs.Stripped.{plain_numbers}
use Rattle.dcc_c.proofs.reading.Passing.{tokens_of, if-cases, fail-stops, skip-took, sees_word-took, take_mark-took}
use Rattle.dcc_c.proofs.reading.Enclosing.{open_after}
use Rattle.dcc_c.proofs.reading.Statements.{IsEnough}
use Rattle.dcc_c.proofs.reading.Stopping.{choice-cases}
use Rattle.dcc_c.proofs.reading.StmtStopping.{cases-keeps}
use Rattle.dcc_c.proofs.reading.Steps.{Steps, then_steps, no_steps, token_steps}

-- a token that is the number of a case
pub record SeesCase (seen : Option Token) (n : ℕ) : Type 0 where
  pub token : Token
  pub is : seen ≡ Some token
  pub number : IsCaseNumber token n
  pub flat : open_after token 0 ≡ 0

case_if-is : (token : Suffix → Token) (m : ℕ) (suffix : Suffix) (n : ℕ) → (m ≤ 65535 → IsCaseNumber (token plain_suffix) m) →
    (m ≤ 65535 → IsCaseNumber (token unsigned_suffix) m) → case_if m suffix ≡ Some n → IsCaseNumber (token suffix) n
case_if-is token m suffix n plain unsigned =
    if-cases (λ o. o ≡ Some n → IsCaseNumber (token suffix) n) (nat_le m 65535 && is_case_suffix suffix)
    (λ good is.
    let parts = and_parts (nat_le m 65535) (is_case_suffix suffix) good in
    let same : m ≡ n = cc in
    subst (IsCaseNumber (token suffix)) same (by_suffix suffix parts.1 (leb-true m 65535 parts.0)))
    (λ _ is. absurd cc)
  where
    by_suffix : (s : Suffix) → is_case_suffix s ≡ true → m ≤ 65535 → IsCaseNumber (token s) m
    by_suffix plain_suffix good small = plain small
    by_suffix unsigned_suffix good small = unsigned small
    by_suffix _ good small = absurd cc

case_number-is : (token : Option Token) (n : ℕ) → case_number token ≡ Some n → SeesCase token n
case_number-is (Some (Decimal m suffix)) n is =
    record { token = Decimal m suffix; is = refl; number = case_if-is (Decimal m) m suffix n (λ small. plain_decimal small) (λ small. unsigned_decimal small) is; flat = refl }
case_number-is (Some (Hex m suffix)) n is =
    record { token = Hex m suffix; is = refl; number = case_if-is (Hex m) m suffix n (λ small. plain_hex small) (λ small. unsigned_hex small) is; flat = refl }
case_number-is _ n is = absurd cc

-- The reader passed a case.
pub record ReadsCase (r : Reader) (g : Got (List NumberAt)) : Type 0 where
  pub steps : Steps 0 0 r g.following
  pub steady : g.following.depth ≡ r.depth
  pub shorter : length g.following.left < length r.left
  pub at : ℕ
  pub place : ℕ
  pub colon : ℕ
  pub n : ℕ
  pub token : Token
  pub begins : tokens_of r.left ≡ word at (codes "case") ∷ placed place token ∷ mark colon (codes ":") ∷ tokens_of g.following.left
  pub number : IsCaseNumber token n
  pub is : (others : List NumberAt) → plain_numbers (g.value ++ others) ≡ n ∷ plain_numbers others

case-sound : (r : Reader) → sees_word (codes "case") r ≡ true → (read_case r).following.stop ≡ None → ReadsCase r (read_case r)
case-sound r sees =
    let took = sees_word-took (codes "case") r sees in
    choice-cases (λ g. g.following.stop ≡ None → ReadsCase r g) (case_number (next_token (skip r)))
    (λ n is going.
    let seen = case_number-is (next_token (skip r)) n is in
    let number = skip-took (skip r) seen.token seen.is in
    let colon = take_mark-took (codes ":") (skip (skip r)) going in
    record {
      steps = then_steps (token_steps 0 refl took) (then_steps (token_steps 0 seen.flat number) (token_steps 0 refl colon));
      steady = colon.steady ∙ (number.steady ∙ took.steady);
      shorter = omega (arith, took.one_less, number.one_less, colon.one_less);
      at = took.line;
      place = number.line;
      colon = colon.line;
      n = n;
      token = seen.token;
      begins = rw (took.begins, number.begins, colon.begins);
      number = seen.number;
      is = λ others. refl;
    })
    (λ _ going. absurd (fail-stops (skip r) going))

-- The reader passed cases, after another one.
record ReadsMoreCases (r : Reader) (g : Got (List NumberAt)) : Type 0 where
  steps : Steps 0 0 r g.following
  steady : g.following.depth ≡ r.depth
  derived : (all : List Placed) (at place colon n : ℕ) (token : Token) → all ≡ word at (codes "case") ∷ placed place token ∷ mark colon (codes ":") ∷ tokens_of r.left →
      IsCaseNumber token n → AreCases all (n ∷ plain_numbers g.value) (tokens_of g.following.left)

no_more_cases : (r : Reader) → r.stop ≡ None → ReadsMoreCases r (got [] r)
no_more_cases r going =
    record { steps = no_steps r going; steady = refl; derived = λ all at place colon n token same number. rw same (last_case number) }

joined_cases : (r : Reader) (first others : Got (List NumberAt)) → ReadsCase r first → ReadsMoreCases first.following others → ReadsMoreCases r (got (first.value ++ others.value) others.following)
joined_cases r first others read more =
    record {
      steps = then_steps read.steps more.steps;
      steady = more.steady ∙ read.steady;
      derived = λ all at place colon n token same number.
          rw same (more_cases {others = tokens_of r.left} {rest = tokens_of others.following.left} {cases = plain_numbers (first.value ++ others.value)} number (rw (read.is others.value) (more.derived (tokens_of r.left) read.at read.place read.colon read.n read.token read.begins read.number)));
    }

more_cases-sound : (calls : ℕ) (r : Reader) → (read_cases calls r).following.stop ≡ None → ReadsMoreCases r (read_cases calls r)
more_cases-sound zero r = λ going. no_more_cases r going
more_cases-sound (suc calls) r =
    if-cases (λ g. g.following.stop ≡ None → ReadsMoreCases r g) (sees_word (codes "case") r)
    (λ sees going.
    let first = read_case r in
    joined_cases r first (read_cases calls first.following) (case-sound r sees (cases-keeps calls first.following going)) (more_cases-sound calls first.following going))
    (λ _ going. no_more_cases r going)

-- The reader passed one or more cases.
pub record ReadsCases (r : Reader) (g : Got (List NumberAt)) : Type 0 where
  pub steps : Steps 0 0 r g.following
  pub steady : g.following.depth ≡ r.depth
  pub shorter : length g.following.left < length r.left
  pub derived : AreCases (tokens_of r.left) (plain_numbers g.value) (tokens_of g.following.left)

all_cases : (r : Reader) (first others : Got (List NumberAt)) → ReadsCase r first → ReadsMoreCases first.following others → ReadsCases r (got (first.value ++ others.value) others.following)
all_cases r first others read more =
    record {
      steps = then_steps read.steps more.steps;
      steady = more.steady ∙ read.steady;
      shorter = omega (arith, read.shorter, more.steps.passed.fewer);
      derived = rw (read.is others.value) (more.derived (tokens_of r.left) read.at read.place read.colon read.n read.token read.begins read.number);
    }

pub cases-sound : (calls : ℕ) (r : Reader) → sees_word (codes "case") r ≡ true → IsEnough calls 0 r.left → (read_cases calls r).following.stop ≡ None → ReadsCases r (read_cases calls r)
cases-sound zero r sees enough = let took = sees_word-took (codes "case") r sees in absurd (omega (arith, took.one_less))
cases-sound (suc calls) r sees enough =
    if-cases (λ g. g.following.stop ≡ None → ReadsCases r g) (sees_word (codes "case") r)
    (λ _ going.
    let first = read_case r in
    all_cases r first (read_cases calls first.following) (case-sound r sees (cases-keeps calls first.following going)) (more_cases-sound calls first.following going))
    (λ not. absurd cc)
