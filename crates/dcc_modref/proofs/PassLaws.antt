-- What a statement does to a state: it goes on by each of its parts, and more before it is more after it.
use Rattle.std.proofs.Common.{◌≡◌, ℕ, Bool, true, false, ◌&&◌, ◌||◌, not, inl, inr, [], ◌∷◌, refl, sym, ap, ◌∙◌}
use Rattle.std.specs.Prelude.{filter, if◌then◌else◌}
use Rattle.std.proofs.lemmas.Bool.{or_cases, or_left, or_right}
use Rattle.std.proofs.lemmas.List.Folds.{list_any-append}
use Rattle.dcc_ir.specs.declared.syntax.Loc.{Loc}
use Rattle.dcc_ir.specs.Location.{same_location}
use Rattle.dcc_ir.specs.Live.{is_among}
use Rattle.dcc_ir.specs.Tree.{Get, Stmt, Set}
use Rattle.dcc_demand.specs.Procedures.{Effect, Leaves, Copies, Pops, Makes, WordEffect, LeavesWord, Pushes, Overwrites, is_left}
use Rattle.dcc_demand.specs.Tables.{unsaved_after, lost_after}
use Rattle.dcc_sums.specs.Instance.{is_half, is_pushed, written_by, word_effect_of, action_of}
use Rattle.dcc_modref.specs.States.{State, is_unsaved, is_told, pushed_by, after}
use Rattle.dcc_modref.specs.Tables.{IsWithin}
use Rattle.dcc_modref.proofs.StateLaws.{among_filter}

-- Words.

-- what is pushed is written
pushed_written : (location : Loc) (stmt : Stmt) (word : Loc) → is_among (written_by stmt) word ≡ false → is_among (pushed_by location stmt) word ≡ false
pushed_written location (Set place (Get from)) word e = by (is_half from && same_location from location)
  where
    by : (b : Bool) → is_among (if b then place ∷ [] else []) word ≡ false
    by true = e
    by false = refl
pushed_written location stmt word e = refl

none_pushed : (written : Bool) (word : Loc) → not (is_among (if written then [] else []) word) ≡ true
none_pushed true word = refl
none_pushed false word = refl

-- a word that is written is saved where the location is pushed into it in time
ends : (location : Loc) (stmt : Stmt) (written u : Bool) (word : Loc) → is_among (written_by stmt) word ≡ true
    → not (is_among (if written then [] else pushed_by location stmt) word) ≡ unsaved_after same_location location (word_effect_of stmt) written u
ends location (Set place (Get from)) written u word e = by (is_half from) (same_location from location) written refl
  where
    by : (h s w : Bool) → same_location from location ≡ s
        → not (is_among (if w then [] else (if h && s then place ∷ [] else [])) word) ≡ unsaved_after same_location location (if h then Pushes from else Overwrites) w u
    by true true true q = sym (ap (λ b. if b then true else true) q)
    by true true false q = ap not e ∙ sym (ap (λ b. if b then false else true) q)
    by true false w q = none_pushed w word ∙ sym (ap (λ b. if b then w else true) q)
    by false s w q = none_pushed w word
ends location stmt written u word e = none_pushed written word

module _ (changed : ℕ → Bool) (pushed : ℕ) (location : Loc) (stmt : Stmt) where
  -- what is unsaved after the statement
  pub unsaved_there : (s : State) (word : Loc)
      → is_unsaved (after changed pushed location stmt s) word ≡ unsaved_after same_location location ((action_of pushed stmt).word_effect word) s.written (is_unsaved s word)
  unsaved_there s word =
      ap not (list_any-append (same_location word) (filter (λ w. not (is_among (written_by stmt) w)) s.saved) (if s.written then [] else pushed_by location stmt)
      ∙ ap (λ b. b || is_among (if s.written then [] else pushed_by location stmt) word) (among_filter (λ w. not (is_among (written_by stmt) w)) s.saved word))
      ∙ by (is_among (written_by stmt) word) refl
    where
      parts : (a : Bool) → (a && false) ≡ false
      parts true = refl
      parts false = refl

      whole : (a : Bool) → ((a && true) || false) ≡ a
      whole true = refl
      whole false = refl

      late : (w : Bool) → is_among (written_by stmt) word ≡ false → is_among (if w then [] else pushed_by location stmt) word ≡ false
      late true e = refl
      late false e = pushed_written location stmt word e

      by : (b : Bool) → is_among (written_by stmt) word ≡ b
          → not ((is_among s.saved word && not b) || is_among (if s.written then [] else pushed_by location stmt) word)
          ≡ unsaved_after same_location location (if b then word_effect_of stmt else LeavesWord) s.written (is_unsaved s word)
      by true e = ap (λ a. not (a || is_among (if s.written then [] else pushed_by location stmt) word)) (parts (is_among s.saved word)) ∙ ends location stmt s.written (is_unsaved s word) word e
      by false e = ap (λ a. not ((is_among s.saved word && true) || a)) (late s.written e) ∙ ap not (whole (is_among s.saved word))

  -- More before it is more after it.

  more_unsaved : (effect : WordEffect Loc) (w v u t : Bool) → (w ≡ true → v ≡ true) → (u ≡ true → t ≡ true)
      → unsaved_after same_location location effect w u ≡ true → unsaved_after same_location location effect v t ≡ true
  more_unsaved LeavesWord w v u t f g e = g e
  more_unsaved (Pushes other) w v u t f g e = by (same_location other location) e
    where
      by : (b : Bool) → (if b then w else true) ≡ true → (if b then v else true) ≡ true
      by true e = f e
      by false e = refl
  more_unsaved Overwrites w v u t f g e = refl

  more_lost : (effect : Effect Loc Loc) (u t : Loc → Bool) (l m : Bool) → ((word : Loc) → u word ≡ true → t word ≡ true) → (l ≡ true → m ≡ true)
      → lost_after (is_pushed pushed) effect u l ≡ true → lost_after (is_pushed pushed) effect t m ≡ true
  more_lost Leaves u t l m f g e = g e
  more_lost (Copies other) u t l m f g e = refl
  more_lost (Pops word) u t l m f g e = elim (or_cases (not (is_pushed pushed word)) (u word) e) [
    | inl o ↦ or_left (not (is_pushed pushed word)) (t word) o
    | inr n ↦ or_right (not (is_pushed pushed word)) (t word) (f word n)
  ]
  more_lost Makes u t l m f g e = refl

  more_or : (a b c : Bool) → (b ≡ true → c ≡ true) → (a || b) ≡ true → (a || c) ≡ true
  more_or true b c f e = refl
  more_or false b c f e = f e

  pub more_after : (s t : State) → IsWithin s t → IsWithin (after changed pushed location stmt s) (after changed pushed location stmt t)
  more_after s t within = record {
    written = λ e. more_or (not (is_left ((action_of pushed stmt).effect location)) || is_told changed (action_of pushed stmt).callee) s.written t.written within.written e;
    lost = λ e. more_or (is_told changed (action_of pushed stmt).callee) (lost_after (is_pushed pushed) ((action_of pushed stmt).effect location) (is_unsaved s) s.lost)
        (lost_after (is_pushed pushed) ((action_of pushed stmt).effect location) (is_unsaved t) t.lost)
        (more_lost ((action_of pushed stmt).effect location) (is_unsaved s) (is_unsaved t) s.lost t.lost within.unsaved within.lost) e;
    unsaved = λ word e. unsaved_there t word ∙ more_unsaved ((action_of pushed stmt).word_effect word) s.written t.written (is_unsaved s word) (is_unsaved t word) within.written (within.unsaved word) (sym (unsaved_there s word) ∙ e);
  }
