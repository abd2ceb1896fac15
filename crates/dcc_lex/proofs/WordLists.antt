-- A word that is none of some words, and what a word is that may be a keyword.
use Rattle.std.proofs.Common.{◌≡◌, ℕ, Bool, true, false, filter, List, [], ◌∷◌, length, get_or, Some, None, refl, sym, ap, ◌∙◌, ⊎_elim}
use Rattle.std.specs.Prelude.{◌&&◌, ◌||◌, not, if◌then◌else◌}
use Rattle.std.proofs.lemmas.Bool.{and_from, or_from, cases_Bool, cond-true, cond-false, false_from_ne_true, not_from_false}
use Rattle.dcc_c.specs.Grammar.{is_among, keywords, is_name}
use Rattle.dcc_c.specs.Token.{WordToken, same_bytes, is_digit, is_word}
use Rattle.dcc_c.specs.Tree.{Word}
use Rattle.dcc_c.specs.Pieces.{token_of_word, unused_keywords}
use Rattle.dcc_lex.specs.WordViews.{word_token}
use Rattle.dcc_c.proofs.NameLaws.{same_bytes-equal}

-- words of other lengths are others
pub other-length : (word other : Word) → (length word ≡ length other → ⊥) → same_bytes word other ≡ false
other-length word other differs = false_from_ne_true (same_bytes word other) (λ same. differs (ap length (same_bytes-equal word other same)))

-- the word is another than each of these
abbrev pub Differs : Word → List Word → Type 0
Differs word [] = Unit {0}
Differs word (k ∷ ks) = (word ≡ k → ⊥) × Differs word ks

other-word : (word k : Word) → (word ≡ k → ⊥) → same_bytes word k ≡ false
other-word word k differs = false_from_ne_true (same_bytes word k) (λ same. differs (same_bytes-equal word k same))

none-among : (word : Word) (ks : List Word) → Differs word ks → is_among ks word ≡ false
none-among word [] differs = refl
none-among word (k ∷ ks) differs = or_from (same_bytes word k) (is_among ks word) (other-word word k differs.0) (none-among word ks differs.1)

or_false : (a b : Bool) → (a || b) ≡ false → (a ≡ false) × (b ≡ false)
or_false true b none = absurd cc
or_false false b none = (refl, none)

-- a word of some kind is among the words of this kind, or among none
of-kind : (kind : Word → Bool) (word : Word) (ks : List Word) → kind word ≡ true → is_among (filter kind ks) word ≡ false → is_among ks word ≡ false
of-kind kind word [] is none = refl
of-kind kind word (k ∷ ks) is none =
    ⊎_elim
    (λ yes. let here = ap (λ l. is_among l word) (sym (cond-true (kind k) (k ∷ filter kind ks) (filter kind ks) yes)) ∙ none in
    let (other, others) = or_false (same_bytes word k) (is_among (filter kind ks) word) here in
    or_from (same_bytes word k) (is_among ks word) other (of-kind kind word ks is others))
    (λ no. let here = ap (λ l. is_among l word) (sym (cond-false (kind k) (k ∷ filter kind ks) (filter kind ks) no)) ∙ none in
    or_from (same_bytes word k) (is_among ks word)
    (false_from_ne_true (same_bytes word k) (λ same. let both : true ≡ false = sym is ∙ ap kind (same_bytes-equal word k same) ∙ no in absurd cc))
    (of-kind kind word ks is here))
    (cases_Bool (kind k))

-- a word of some kind that is no keyword of this kind is a name
pub word-name : (kind : Word → Bool) (word : Word) → is_word word ≡ true → kind word ≡ true → Differs word (filter kind keywords) → is_name word ≡ true
word-name kind word is of differs =
    let none = of-kind kind word keywords of (none-among word (filter kind keywords) differs) in
    and_from (is_word word) (not (is_among keywords word)) is (not_from_false (is_among keywords word) none)

choice : {A : Type 0} (is unused : Bool) (token : A) → is ≡ true → (if unused then None else Some token) ≡ (if is && not unused then Some token else None)
choice true true token is = refl
choice true false token is = refl
choice false unused token is = absurd cc

-- the token of a run that is a word
pub word-token : (run word : List ℕ) → word ≡ run → is_digit (get_or run 0 0) ≡ false → is_word run ≡ true →
    word_token word ≡ token_of_word run
word-token [] word same other is = absurd cc
word-token (b ∷ bytes) word same other is =
    ap word_token same
    ∙ choice (is_word (b ∷ bytes)) (is_among unused_keywords (b ∷ bytes)) (WordToken (b ∷ bytes)) is
    ∙ sym (cond-false (is_digit b) _ _ other)
