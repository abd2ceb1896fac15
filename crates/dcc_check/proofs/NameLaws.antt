-- How names are seen one after another.
use Rattle.std.proofs.Common.{◌≡◌, ℕ, ◌+◌, ◌<◌, Bool, true, false, List, [], ◌∷◌, length, get_or, drop, Option, refl, sym, ap, ◌∙◌}
use Rattle.std.specs.Prelude.{◌||◌, not}
use Rattle.std.specs.BTreeSet as set
use Rattle.std.specs.BTreeMap.{is_at}
use Rattle.std.specs.List.{list_any}
use Rattle.std.specs.Cmp.Lexicographic.{slice_cmp}
use Rattle.std.specs.Ordering.{nat_cmp}
use Rattle.std.proofs.lemmas.List.{at_drop_more}
use denote.Ref.{Bor}
use Rattle.dcc_c.specs.Kinds.{Offence, of_name, offence, only_if, first_after}
use Rattle.dcc_c.specs.Token.{same_bytes}
use Rattle.dcc_c.specs.Tree.{Word}
use Rattle.dcc_c.specs.Grammar.{is_among}
use Rattle.dcc_c.specs.Offences.{repeated}
use Rattle.dcc_c.specs.TextOffences.{words_of}
use Rattle.dcc_c.proofs.refusals.FirstRules.{first-append}
use Rattle.dcc_reader.specs.declared.partial.WordAt.{WordAt}
use Rattle.dcc_check.specs.Names.{lent_names}
use Rattle.dcc_reader.specs.WordViews.{holds}

turn : (a x o : Bool) → (a || x) || o ≡ x || (a || o)
turn true true o = refl
turn true false o = refl
turn false true o = refl
turn false false o = refl

group : (a x o : Bool) → (a || x) || o ≡ a || (x || o)
group true x o = refl
group false x o = refl

or-false : (b : Bool) → b || false ≡ b
or-false true = refl
or-false false = refl

-- a word that was not new is one of those seen before
pub new-or-taken : (taken seen is_new : Bool) → is_new ≡ not seen → not is_new || taken ≡ taken || seen
new-or-taken taken seen is_new is = ap (λ b. not b || taken) is ∙ both taken seen where
  both : (t s : Bool) → not (not s) || t ≡ t || s
  both true true = refl
  both true false = refl
  both false true = refl
  both false false = refl

-- no word so far
pub none-held : (taken s : set.BTreeSet (Bor (List ℕ))) (word : Word) (b : Bool) → s.keys ≡ [] → holds taken word ≡ b → holds taken word || holds s word ≡ b
none-held taken s word b empty is =
    ap (λ (ks : List (Bor (List ℕ))). holds taken word || list_any (is_at (λ k. slice_cmp nat_cmp word k.now)) ks) empty ∙ or-false (holds taken word) ∙ is

module _ (names : List (Bor WordAt)) (i : ℕ) (x other : Bor WordAt) (within : i < length names) (here : x ≡ get_or names i other) where
  next-names : {Y : Type 0} (f : List (Bor WordAt) → Y) → f (drop i names) ≡ f (x ∷ drop (i + 1) names)
  next-names f = at_drop_more f names i other within ∙ ap (λ y. f (y ∷ drop (i + 1) names)) (sym here)

  module _ (s n : set.BTreeSet (Bor (List ℕ))) (inserted : (word : Word) → holds n word ≡ same_bytes word x.now.word.now || holds s word) where
    -- a word more
    pub add-step : (word : Word) →
        is_among (words_of (lent_names (drop (i + 1) names))) word || holds n word ≡ is_among (words_of (lent_names (drop i names))) word || holds s word
    add-step word =
        ap (λ b. is_among (words_of (lent_names (drop (i + 1) names))) word || b) (inserted word)
        ∙ sym (turn (same_bytes word x.now.word.now) (is_among (words_of (lent_names (drop (i + 1) names))) word) (holds s word))
        ∙ ap (λ b. b || holds s word) (sym (next-names (λ l. is_among (words_of (lent_names l)) word)))

    -- a name more
    pub known-step : (taken : set.BTreeSet (Bor (List ℕ))) (known : List Word) → ((word : Word) → holds taken word || holds s word ≡ is_among known word) →
        (word : Word) → holds taken word || holds n word ≡ is_among (x.now.word.now ∷ known) word
    known-step taken known all word =
        ap (λ b. holds taken word || b) (inserted word)
        ∙ sym (turn (same_bytes word x.now.word.now) (holds taken word) (holds s word))
        ∙ group (same_bytes word x.now.word.now) (holds taken word) (holds s word)
        ∙ ap (λ b. same_bytes word x.now.word.now || b) (all word)

  pub told-step : (known : List Word) (old new : Option Offence) (b : Bool) → b ≡ is_among known x.now.word.now →
      new ≡ first_after old (only_if b (offence of_name x.now.at)) →
      first_after new (repeated (x.now.word.now ∷ known) (lent_names (drop (i + 1) names))) ≡ first_after old (repeated known (lent_names (drop i names)))
  told-step known old new b b_is new_is =
      let rest = repeated (x.now.word.now ∷ known) (lent_names (drop (i + 1) names)) in
      ap (λ f. first_after f rest) (new_is ∙ ap (λ t. first_after old (only_if t (offence of_name x.now.at))) b_is)
      ∙ sym (first-append old (only_if (is_among known x.now.word.now) (offence of_name x.now.at)) rest)
      ∙ sym (next-names (λ l. first_after old (repeated known (lent_names l))))
