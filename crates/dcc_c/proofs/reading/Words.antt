-- Types, operators, numbers and names: what the reader's tests say of tokens.
use Rattle.std.proofs.Common.{◌≡◌, ℕ, ◌+◌, ◌≤◌, true, List, [], ◌∷◌, ◌++◌, length, map, Option, Some, None, refl, ap, ◌∙◌, arith, ◌<◌, length-append, false, subst}
use Rattle.std.specs.Prelude.{codes}
use Rattle.dcc_c.specs.declared.syntax.Base.{Base}
use Rattle.dcc_c.specs.declared.syntax.Base.TheVariants.{Schar}
use Rattle.dcc_c.specs.declared.syntax.CType.{CType}
use Rattle.dcc_c.specs.declared.syntax.CUn.{CUn}
use Rattle.dcc_c.specs.declared.syntax.CBin.{CBin}
use Rattle.dcc_c.specs.Token.{Token, WordToken, Decimal, Hex, Mark, plain_number, decimal_type, hex_type}
use Rattle.dcc_c.specs.Lexing.{Placed}
use Rattle.dcc_c.specs.Tree.{Word}
use Rattle.dcc_c.specs.Grammar.{is_name, unary_mark, binary_mark, base_words, type_tokens, Begins, none, one, IsNumber, decimal, hex}
use Rattle.dcc_c.specs.Rules.{most_open}
use Rattle.dcc_c.specs.Reading.{Reader, Got, got, skip, is_the_mark, name_if, name_of, plain_of, sees_mark, sees_word, signed_base, unsigned_base, take_base, with_star, take_type, all_unary, all_binary, unary_in, binary_in, unary_of, binary_of, TypedNumber, number_of}
use Rattle.dcc_c.proofs.reading.Passing.{tokens_of, Passed, Took, then_passed, not_passed, if-cases, fail-stops, the_mark-is, sees_mark-took, sees_word-took}
use Rattle.dcc_c.proofs.reading.Enclosing.{open_after, open_before, enclosed-before}
use Rattle.dcc_c.proofs.reading.Statements.{ReadsType}

-- The reader passed these tokens, none of which is a parenthesis.
pub record Walks (tokens : List Token) (r following : Reader) : Type 0 where
  pub passed : Passed r following
  pub steady : following.depth ≡ r.depth
  pub less : length r.left ≡ length tokens + length following.left
  pub begins : Begins (tokens_of r.left) tokens (tokens_of following.left)
  pub enclosed : (opened : ℕ) → most_open opened (tokens_of following.left) ≤ 200 → most_open opened (tokens_of r.left) ≤ 200

-- a token that is no parenthesis keeps to the limit where what follows does
pub took_enclosed : (token : Token) (r following : Reader) → Took token r following → (opened : ℕ) → open_after token opened ≡ opened →
    most_open opened (tokens_of following.left) ≤ 200 → most_open opened (tokens_of r.left) ≤ 200
took_enclosed token r following took opened flat few =
    let least : opened ≤ 200 = omega (arith, open_before opened (tokens_of following.left)) in
    rw took.begins (enclosed-before token opened took.line (tokens_of following.left) least (rw flat few))

-- one token
pub one_walk : (token : Token) {r following : Reader} → ((opened : ℕ) → open_after token opened ≡ opened) → Took token r following → Walks (token ∷ []) r following
one_walk token {r} {following} flat took =
    record {
      passed = took.passed;
      steady = took.steady;
      less = omega (arith, took.one_less);
      begins = rw took.begins (one none);
      enclosed = λ opened few. took_enclosed token r following took opened (flat opened) few;
    }

begins-append : {a b c : List Placed} {xs : List Token} (ys : List Token) → Begins a xs b → Begins b ys c → Begins a (xs ++ ys) c
begins-append ys none second = second
begins-append ys (one first) second = one (begins-append ys first second)

-- some tokens and others
pub then_walks : (xs ys : List Token) {r between following : Reader} → Walks xs r between → Walks ys between following → Walks (xs ++ ys) r following
then_walks xs ys first second =
    record {
      passed = then_passed first.passed second.passed;
      steady = second.steady ∙ first.steady;
      less = omega (arith, first.less, second.less, length-append xs ys);
      begins = begins-append ys first.begins second.begins;
      enclosed = λ opened few. first.enclosed opened (second.enclosed opened few);
    }

-- Types.

-- the words of a base were passed
abbrev ReadsBase : Reader → Option Base → Reader → Type 0
ReadsBase r (Some base) following = Walks (map WordToken (base_words base)) r following
ReadsBase r None following = ⊥

abbrev SoundBase : Reader → Got (Option Base) → Type 0
SoundBase r g = g.following.stop ≡ None → ReadsBase r g.value g.following

-- one word
word_walk : (bytes : Word) {r : Reader} → sees_word bytes r ≡ true → Walks (WordToken bytes ∷ []) r (skip r)
word_walk bytes {r} sees = one_walk (WordToken bytes) (λ opened. refl) (sees_word-took bytes r sees)

signed-sound : (r : Reader) → sees_word (codes "signed") r ≡ true → SoundBase r (signed_base (skip r))
signed-sound r first =
    if-cases (SoundBase r) (sees_word (codes "char") (skip r))
    (λ sees _. then_walks _ _ (word_walk (codes "signed") first) (word_walk (codes "char") sees))
    (λ _ none. absurd (fail-stops (skip r) none))

unsigned-sound : (r : Reader) → sees_word (codes "unsigned") r ≡ true → SoundBase r (unsigned_base (skip r))
unsigned-sound r first =
    let begun = word_walk (codes "unsigned") first in
    if-cases (SoundBase r) (sees_word (codes "char") (skip r))
    (λ sees _. then_walks _ _ begun (word_walk (codes "char") sees))
    (λ _. if-cases (SoundBase r) (sees_word (codes "int") (skip r))
    (λ sees _. then_walks _ _ begun (word_walk (codes "int") sees))
    (λ _. if-cases (SoundBase r) (sees_word (codes "long") (skip r))
    (λ sees _. then_walks _ _ begun (word_walk (codes "long") sees))
    (λ _ none. absurd (fail-stops (skip r) none))))

base-sound : (r : Reader) → SoundBase r (take_base r)
base-sound r =
    if-cases (SoundBase r) (sees_word (codes "int") r)
    (λ sees _. word_walk (codes "int") sees)
    (λ _. if-cases (SoundBase r) (sees_word (codes "long") r)
    (λ sees _. word_walk (codes "long") sees)
    (λ _. if-cases (SoundBase r) (sees_word (codes "signed") r)
    (λ sees. signed-sound r sees)
    (λ _. if-cases (SoundBase r) (sees_word (codes "unsigned") r)
    (λ sees. unsigned-sound r sees)
    (λ _ none. absurd (fail-stops r none)))))

-- the type that was passed
reads_type : {r following : Reader} (type : CType) → Walks (type_tokens type) r following → length following.left < length r.left → ReadsType r (got (Some type) following)
reads_type type walks shorter =
    record { passed = walks.passed; steady = walks.steady; shorter = shorter; type = type; is = refl; derived = walks.begins; enclosed = walks.enclosed }

some_words : (base : Base) → 1 ≤ length (map WordToken (base_words base))
some_words Schar = omega arith
some_words _ = omega arith

abbrev pub SoundType : Reader → Got (Option CType) → Type 0
SoundType r g = g.following.stop ≡ None → ReadsType r g

no_walk : (r : Reader) → r.stop ≡ None → Walks [] r r
no_walk r going =
    record { passed = not_passed r going; steady = refl; less = omega arith; begins = none; enclosed = λ opened few. few }

star-sound : (r : Reader) (base : Base) (following : Reader) → SoundBase r (got (Some base) following) → SoundType r (with_star base following)
star-sound r base following read =
    let words : List Token = map WordToken (base_words base) in
    if-cases (SoundType r) (sees_mark (codes "*") following)
    (λ sees _.
    let star = sees_mark-took (codes "*") following sees in
    let walks = then_walks words (Mark (codes "*") ∷ []) (read star.passed.going) (one_walk (Mark (codes "*")) (λ opened. refl) star) in
    reads_type (record { base = base; pointer = true }) walks (omega (arith, walks.less, length-append words (Mark (codes "*") ∷ []), some_words base)))
    (λ _ going.
    let walks = then_walks words [] (read going) (no_walk following going) in
    reads_type (record { base = base; pointer = false }) walks (omega (arith, walks.less, length-append words [], some_words base)))

typed-sound : (r : Reader) (base : Option Base) (following : Reader) → SoundBase r (got base following) →
    SoundType r (elim base [ Some b ↦ with_star b following | None ↦ got None following ])
typed-sound r (Some base) following read = star-sound r base following read
typed-sound r None following read = λ going. absurd (read going)

-- a type that was read is one
pub type-sound : (r : Reader) → SoundType r (take_type r)
type-sound r = typed-sound r (take_base r).value (take_base r).following (base-sound r)

-- Operators, numbers and names.

unary_in-is : (operators : List CUn) (token : Option Token) (operator : CUn) → unary_in operators token ≡ Some operator → token ≡ Some (Mark (unary_mark operator))
unary_in-is [] token operator = λ is. absurd cc
unary_in-is (first ∷ others) token operator =
    if-cases (λ o. o ≡ Some operator → token ≡ Some (Mark (unary_mark operator))) (is_the_mark (unary_mark first) token)
    (λ sees is. let same : first ≡ operator = cc in rw (← same) (the_mark-is (unary_mark first) token sees))
    (λ _ is. unary_in-is others token operator is)

pub unary_of-is : (token : Option Token) (operator : CUn) → unary_of token ≡ Some operator → token ≡ Some (Mark (unary_mark operator))
unary_of-is token operator is = unary_in-is all_unary token operator is

binary_in-is : (operators : List CBin) (token : Option Token) (operator : CBin) → binary_in operators token ≡ Some operator → token ≡ Some (Mark (binary_mark operator))
binary_in-is [] token operator = λ is. absurd cc
binary_in-is (first ∷ others) token operator =
    if-cases (λ o. o ≡ Some operator → token ≡ Some (Mark (binary_mark operator))) (is_the_mark (binary_mark first) token)
    (λ sees is. let same : first ≡ operator = cc in rw (← same) (the_mark-is (binary_mark first) token sees))
    (λ _ is. binary_in-is others token operator is)

pub binary_of-is : (token : Option Token) (operator : CBin) → binary_of token ≡ Some operator → token ≡ Some (Mark (binary_mark operator))
binary_of-is token operator is = binary_in-is all_binary token operator is

-- a token that is a number
pub record SeesNumber (seen : Option Token) (n : TypedNumber) : Type 0 where
  pub token : Token
  pub is : seen ≡ Some token
  pub number : IsNumber token n.value n.base
  pub flat : (opened : ℕ) → open_after token opened ≡ opened

pub number_of-is : (token : Option Token) (n : TypedNumber) → number_of token ≡ Some n → SeesNumber token n
number_of-is (Some (Decimal n suffix)) number is =
    let made : TypedNumber = record { value = n; base = decimal_type n suffix } in
    let same : made ≡ number = cc in
    subst (SeesNumber (Some (Decimal n suffix))) same (record { token = Decimal n suffix; is = refl; number = decimal n suffix; flat = λ opened. refl })
number_of-is (Some (Hex n suffix)) number is =
    let made : TypedNumber = record { value = n; base = hex_type n suffix } in
    let same : made ≡ number = cc in
    subst (SeesNumber (Some (Hex n suffix))) same (record { token = Hex n suffix; is = refl; number = hex n suffix; flat = λ opened. refl })
number_of-is _ number is = absurd cc

name_if-is : (word name : Word) → name_if word ≡ Some name → (word ≡ name) × (is_name name ≡ true)
name_if-is word name =
    if-cases (λ o. o ≡ Some name → (word ≡ name) × (is_name name ≡ true)) (is_name word)
    (λ good is. let same : word ≡ name = cc in (same, rw (← same) good)) (λ _ is. absurd cc)

pub name_of-is : (token : Option Token) (name : Word) → name_of token ≡ Some name → (token ≡ Some (WordToken name)) × (is_name name ≡ true)
name_of-is (Some (WordToken word)) name is =
    let found = name_if-is word name is in (ap (λ w. Some (WordToken w)) found.0, found.1)
name_of-is _ name is = absurd cc

pub plain_of-is : (token : Option Token) (n : ℕ) → plain_of token ≡ Some n → token ≡ Some (Decimal n plain_number)
plain_of-is (Some (Decimal m plain_number)) n is = ap (λ k. Some (Decimal k plain_number)) (let same : m ≡ n = cc in same)
plain_of-is _ n is = absurd cc
