-- New names of some words, and words that no text has for all others: names that differ stay different.
use Rattle.std.proofs.Common.{◌≡◌, Bool, true, false, List, [], ◌∷◌, ◌++◌, map, Option, Some, refl, sym, ap, ◌∙◌, subst, inl, inr}
use Rattle.std.specs.Prelude.{◌⊎◌, ◌||◌, if◌then◌else◌, codes}
use Rattle.std.proofs.lemmas.Bool.{and_parts, or_cases, or_left, or_right, cases_Bool, cond-false, false_from_ne_true}
use Rattle.dcc_c.specs.Dos.{Dos, all_dos, dos_name, dos_names, dos_in}
use Rattle.dcc_c.specs.Grammar.{is_among}
use Rattle.dcc_c.specs.Token.{same_bytes, is_word_byte}
use Rattle.dcc_c.specs.Tree.{Word, Global, Tree}
use Rattle.dcc_c.proofs.NameLaws.{same_bytes-equal, same_bytes-refl}
use Rattle.dcc_renaming.specs.Changes.{in_file}
use Rattle.dcc_renaming.specs.Faults.{own, owns, outer_names, thing}
use Rattle.dcc_renaming.specs.Renamed.{outer_now, own_now, renamed_global}
use Rattle.dcc_renaming.proofs.AlikeNames.{AreNames}
use Rattle.dcc_renaming.proofs.Apart.{IsNamed, own-is, shared-name, own-name, dos-name as dos-kept, outer-outer, outer-dos, own-own, own-outer, outer-plain, own-plain, dos-plain_after, start-stays}
use Rattle.dcc_renaming.proofs.Free.{IsFree}
use Rattle.dcc_renaming.proofs.Members.{In, in-left, in-right, in-cases, in-map, map-in, map-same, among-in, in-among, is_plain}

-- the new name of a word that passes the test; any other stands after a byte that no text has
abbrev pub extended : (Word → Bool) → (Word → Word) → Word → Word
extended test now w = if test w then now w else 256 ∷ w

pub at-test : (test : Word → Bool) (now : Word → Word) (w : Word) {t : Bool} → test w ≡ t → extended test now w ≡ (if t then now w else 256 ∷ w)
at-test test now w is = ap (λ t. if t then now w else 256 ∷ w) is

no-word : (a b : Word) → is_plain a ≡ true → a ≡ 256 ∷ b → ⊥
no-word a b plain e =
    let byte : is_word_byte 256 ≡ true = (and_parts (is_word_byte 256) (is_plain b) (sym (ap is_plain e) ∙ plain)).0 in absurd cc

pub extended-one : (test : Word → Bool) (now : Word → Word) → ((a b : Word) → test a ≡ true → test b ≡ true → now a ≡ now b → a ≡ b) →
    ((a : Word) → test a ≡ true → is_plain (now a) ≡ true) → (a b : Word) → extended test now a ≡ extended test now b → a ≡ b
extended-one test now one plain a b same = cases (test a) (test b) refl refl where
  cases : (s t : Bool) → test a ≡ s → test b ≡ t → a ≡ b
  cases true true e g = one a b e g (sym (at-test test now a e) ∙ same ∙ at-test test now b g)
  cases true false e g = absurd (no-word (now a) b (plain a e) (sym (at-test test now a e) ∙ same ∙ at-test test now b g))
  cases false true e g = absurd (no-word (now b) a (plain b g) (sym (at-test test now b g) ∙ sym same ∙ at-test test now a e))
  cases false false e g = let both : 256 ∷ a ≡ 256 ∷ b = sym (at-test test now a e) ∙ same ∙ at-test test now b g in cc

-- words are told apart alike
pub tests-same : (a b c d : Word) → (a ≡ b → c ≡ d) → (c ≡ d → a ≡ b) → same_bytes c d ≡ same_bytes a b
tests-same a b c d there back = elim (cases_Bool (same_bytes a b)) [
  | inl met ↦ subst (λ w. same_bytes c w ≡ true) (there (same_bytes-equal a b met)) (same_bytes-refl c) ∙ sym met
  | inr unmet ↦ false_from_ne_true (same_bytes c d) (λ s.
      let both : true ≡ false = sym (subst (λ w. same_bytes a w ≡ true) (back (same_bytes-equal c d s)) (same_bytes-refl a)) ∙ unmet in absurd cc) ∙ sym unmet
]

-- Names of DOS calls.

dos-same : (all : List Dos) (a b : Word) → (In a (map dos_name all) → a ≡ b) → (In b (map dos_name all) → a ≡ b) → dos_in all a ≡ dos_in all b
dos-same [] a b here there = refl
dos-same (d ∷ all) a b here there = elim (cases_Bool (same_bytes (dos_name d) a)) [
  | inl met ↦ ap (dos_in (d ∷ all)) (here (inl (sym (same_bytes-equal (dos_name d) a met))))
  | inr unmet ↦ elim (cases_Bool (same_bytes (dos_name d) b)) [
    | inl other ↦ ap (dos_in (d ∷ all)) (there (inl (sym (same_bytes-equal (dos_name d) b other))))
    | inr neither ↦ cond-false _ _ _ unmet ∙ dos-same all a b (λ i. here (inr i)) (λ i. there (inr i)) ∙ sym (cond-false _ _ _ neither)
  ]
]

module _ (new : Word → Option Word) (tree : Tree) (named : IsNamed tree) (free : (thing now : Word) → new thing ≡ Some now → IsFree new tree thing now) where
  abbrev pub in_outer : Word → Bool
  in_outer w = is_among (outer_names tree ++ dos_names) w

  abbrev pub in_own : Word → Word → Bool
  in_own f w = is_among (map thing (owns tree)) (in_file (Some f) w) || is_among (outer_names tree) w

  abbrev pub all_outer : Word → Word
  all_outer = extended in_outer (outer_now new)

  abbrev pub all_own : Word → Word → Word
  all_own f = extended (in_own f) (own_now new f)

  outer-cases : (w : Word) → in_outer w ≡ true → In w (outer_names tree) ⊎ In w dos_names
  outer-cases w is = in-cases w (outer_names tree) dos_names (among-in (outer_names tree ++ dos_names) w is)

  own-cases : (f w : Word) → in_own f w ≡ true → In (own f w) (owns tree) ⊎ In w (outer_names tree)
  own-cases f w is = elim (or_cases (is_among (map thing (owns tree)) (in_file (Some f) w)) (is_among (outer_names tree) w) is) [
    | inl inner ↦ let c = in-map thing (owns tree) (in_file (Some f) w) (among-in (map thing (owns tree)) (in_file (Some f) w) inner) in
        inl (own-is new tree named free f w c.from c.has c.is)
    | inr outer ↦ inr (among-in (outer_names tree) w outer)
  ]

  pub outer-at : (w : Word) → In w (outer_names tree) → all_outer w ≡ outer_now new w
  outer-at w is = at-test in_outer (outer_now new) w (in-among (outer_names tree ++ dos_names) w (in-left w (outer_names tree) dos_names is))

  pub dos-at : (w : Word) → In w dos_names → all_outer w ≡ outer_now new w
  dos-at w is = at-test in_outer (outer_now new) w (in-among (outer_names tree ++ dos_names) w (in-right w (outer_names tree) dos_names is))

  pub own-at : (f w : Word) → In (own f w) (owns tree) → all_own f w ≡ own_now new f w
  own-at f w is = at-test (in_own f) (own_now new f) w (or_left (is_among (map thing (owns tree)) (in_file (Some f) w)) (is_among (outer_names tree) w)
      (in-among (map thing (owns tree)) (in_file (Some f) w) (map-in thing (owns tree) (own f w) is)))

  pub shared-at : (f w : Word) → In w (outer_names tree) → all_own f w ≡ own_now new f w
  shared-at f w is = at-test (in_own f) (own_now new f) w (or_right (is_among (map thing (owns tree)) (in_file (Some f) w)) (is_among (outer_names tree) w) (in-among (outer_names tree) w is))

  -- Names of global variables and functions.

  outer-one : (a b : Word) → in_outer a ≡ true → in_outer b ≡ true → outer_now new a ≡ outer_now new b → a ≡ b
  outer-one a b is also same = elim (outer-cases a is) [
    | inl outer ↦ elim (outer-cases b also) [
      | inl second ↦ outer-outer new tree named free a b outer second same
      | inr dos ↦ outer-dos new tree named free a b outer dos (same ∙ dos-kept new tree named free b dos)
    ]
    | inr dos ↦ elim (outer-cases b also) [
      | inl second ↦ sym (outer-dos new tree named free b a second dos (sym same ∙ dos-kept new tree named free a dos))
      | inr other ↦ sym (dos-kept new tree named free a dos) ∙ same ∙ dos-kept new tree named free b other
    ]
  ]

  outer-plain_all : (a : Word) → in_outer a ≡ true → is_plain (outer_now new a) ≡ true
  outer-plain_all a is = elim (outer-cases a is) [
    | inl outer ↦ outer-plain new tree named free a outer
    | inr dos ↦ dos-plain_after new tree named free a dos
  ]

  pub outer-same : (a b : Word) → all_outer a ≡ all_outer b → a ≡ b
  outer-same = extended-one in_outer (outer_now new) outer-one outer-plain_all

  -- Names in a function.

  own-one : (f a b : Word) → in_own f a ≡ true → in_own f b ≡ true → own_now new f a ≡ own_now new f b → a ≡ b
  own-one f a b is also same = elim (own-cases f a is) [
    | inl inner ↦ elim (own-cases f b also) [
      | inl second ↦ own-own new tree named free f a b inner second (sym (own-name new tree named free f a inner) ∙ same ∙ own-name new tree named free f b second)
      | inr outer ↦ own-outer new tree named free f a b inner outer (sym (own-name new tree named free f a inner) ∙ same ∙ shared-name new tree named free f b outer)
    ]
    | inr outer ↦ elim (own-cases f b also) [
      | inl second ↦ sym (own-outer new tree named free f b a second outer (sym (own-name new tree named free f b second) ∙ sym same ∙ shared-name new tree named free f a outer))
      | inr other ↦ outer-outer new tree named free a b outer other (sym (shared-name new tree named free f a outer) ∙ same ∙ shared-name new tree named free f b other)
    ]
  ]

  own-plain_all : (f a : Word) → in_own f a ≡ true → is_plain (own_now new f a) ≡ true
  own-plain_all f a is = elim (own-cases f a is) [
    | inl inner ↦ ap is_plain (own-name new tree named free f a inner) ∙ own-plain new tree named free f a inner
    | inr outer ↦ ap is_plain (shared-name new tree named free f a outer) ∙ outer-plain new tree named free a outer
  ]

  pub own-same : (f a b : Word) → all_own f a ≡ all_own f b → a ≡ b
  own-same f = extended-one (in_own f) (own_now new f) (own-one f) (own-plain_all f)

  -- All these are names.

  global-in : (g : Global) → In g tree.globals → In g.name (outer_names tree)
  global-in g is = in-left g.name (map (λ (x : Global). x.name) tree.globals) _ (map-in (λ (x : Global). x.name) tree.globals g is)

  dos-word : (w : Word) → In (all_outer w) dos_names → all_outer w ≡ w
  dos-word w is = elim (cases_Bool (in_outer w)) [
    | inl met ↦ elim (outer-cases w met) [
      | inl outer ↦ sym (outer-dos new tree named free w (all_outer w) outer is (sym (outer-at w outer)))
      | inr dos ↦ dos-at w dos ∙ dos-kept new tree named free w dos
    ]
    | inr unmet ↦ absurd (no-word (all_outer w) w (dos-plain_all (all_outer w) is) (at-test in_outer (outer_now new) w unmet))
  ] where
    dos-plain_all : (v : Word) → In v dos_names → is_plain v ≡ true
    dos-plain_all v in_dos = ap is_plain (sym (dos-kept new tree named free v in_dos)) ∙ dos-plain_after new tree named free v in_dos

  start-at : all_outer (codes "start") ≡ codes "start"
  start-at = outer-at (codes "start") named.start ∙ start-stays new tree named free

  pub are-names : AreNames tree.globals all_outer all_own
  are-names = record {
    outer_same = λ a b. tests-same a b (all_outer a) (all_outer b) (ap all_outer) (outer-same a b);
    own_same = λ f a b. tests-same a b (all_own f a) (all_own f b) (ap (all_own f)) (own-same f a b);
    globals_same = λ f. map-same (renamed_global (all_own f)) (renamed_global all_outer) tree.globals (λ g is.
        let outer = global-in g is in
        ap (λ w. record g { name = w }) (shared-at f g.name outer ∙ shared-name new tree named free f g.name outer ∙ sym (outer-at g.name outer)));
    dos = λ w. dos-same all_dos (all_outer w) w (dos-word w) (λ is. dos-at w is ∙ dos-kept new tree named free w is);
    start = λ w. tests-same w (codes "start") (all_outer w) (codes "start")
        (λ e. ap all_outer e ∙ start-at) (λ e. outer-same w (codes "start") (e ∙ sym start-at));
  }
