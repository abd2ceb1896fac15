-- Operations that make values: they write locations by values of their own, and save and call nothing.
use Rattle.std.proofs.Common.{◌≡◌, ℕ, ℤ, Bool, true, false, not, ◌&&◌, ◌||◌, if◌then◌else◌, ◌⊎◌, inl, List, [], ◌∷◌, ◌++◌, None, refl, sym, ap, ◌∙◌, subst, true≢false}
use Rattle.std.specs.List.{list_all}
use Rattle.std.proofs.lemmas.List.Elements.{Contains-append_left, Contains-append_cases}
use Rattle.dcc_num.specs.declared.Half.{Half as HalfName}
use Rattle.dcc_ir.specs.declared.syntax.Loc.{Loc}
use Rattle.dcc_ir.specs.declared.syntax.Loc.TheVariants.{Half, Flag, Cell, Temp}
use Rattle.dcc_ir.specs.Tree.{Get, Stmt, Set, Call}
use Rattle.dcc_ir.specs.Live.{is_among}
use Rattle.dcc_lift.proofs.ListTests.{and_left, and_right, and_both, not_true}
use Rattle.dcc_demand.specs.Procedures.{Effect, Leaves, Copies, Makes, LeavesWord, Overwrites, Pops, Pushes, Action, Procedure, Procedures, is_left}
use Rattle.dcc_machine_demand.specs.Holders.{Holder}
use Rattle.dcc_sums.specs.Points.{Position}
use Rattle.dcc_sums.specs.Instance.{written_by, is_half, is_pushed, effect_of, word_effect_of, action_of}
use Rattle.dcc_refinement.specs.Steps.{later_effect, later_word_effect, LosesAtOnce, Spoils}
use Rattle.dcc_refinement.specs.Refinement.{Refinement, EffectsAgree, WordEffectsAgree, Carries, Takes}
use Rattle.dcc_lifted_demand.specs.Sources.{sources, used, effect_after, word_effect_after}
use Rattle.dcc_instruction_demand.specs.Agreement.{Quiet, Agrees}
use Rattle.dcc_instruction_demand.proofs.ShownLaws.{Shows}

-- the statement sets a temporary or a flag, or writes by what is no copy of a half
abbrev pub is_value : Stmt → Bool
is_value (Set (Temp n) e) = true
is_value (Set (Flag f) e) = true
is_value (Set location (Get (Half r h))) = false
is_value (Set location (Get (Cell n h))) = false
is_value (Call results entry arguments depth) = false
is_value stmt = true

-- one of the statements writes the location
abbrev pub is_written : List Stmt → Loc → Bool
is_written [] location = false
is_written (stmt ∷ stmts) location = is_written stmts location || is_among (written_by stmt) location

-- the statement pops a half from a pushed word
abbrev pub is_pop : ℕ → Stmt → Bool
is_pop pushed (Set to (Get from)) = is_half to && is_pushed pushed from
is_pop pushed stmt = false

pub value_kept : (pushed : ℕ) (s : Stmt) → is_value s ≡ true → is_pop pushed s ≡ false
value_kept pushed (Set (Half r h) (Get (Cell n k))) v = absurd (true≢false (sym v))
value_kept pushed (Set (Half r h) (Get (Half q k))) v = refl
value_kept pushed (Set (Half r h) (Get (Flag f))) v = refl
value_kept pushed (Set (Half r h) (Get (Temp n))) v = refl
value_kept pushed (Set (Cell m h) (Get from)) v = refl
value_kept pushed (Set (Flag f) (Get from)) v = refl
value_kept pushed (Set (Temp n) (Get from)) v = refl
value_kept pushed s v = refl

-- none of the statements pops a word
abbrev pub none_pops : ℕ → List Stmt → Bool
none_pops pushed ss = list_all (λ s. not (is_pop pushed s)) ss

values_kept : (pushed : ℕ) (ss : List Stmt) → list_all is_value ss ≡ true → none_pops pushed ss ≡ true
values_kept pushed [] v = refl
values_kept pushed (s ∷ ss) v =
    and_both (not (is_pop pushed s)) (none_pops pushed ss) (ap not (value_kept pushed s (and_left (is_value s) (list_all is_value ss) v)))
    (values_kept pushed ss (and_right (is_value s) (list_all is_value ss) v))

module _ (g : Procedure Position Loc Loc) (pushed : ℕ) where
  loses : (s : Stmt) → is_pop pushed s ≡ false → LosesAtOnce g (effect_of pushed s)
  loses (Set to (Get from)) e = subst (λ b. LosesAtOnce g (if b then Pops from else Copies from)) (sym e) LosesAtOnce.copied
  loses s e = LosesAtOnce.made

  loses_later : {x : Effect Loc Loc} (y : Effect Loc Loc) → LosesAtOnce g x → LosesAtOnce g (later_effect x y)
  loses_later y LosesAtOnce.made = LosesAtOnce.made
  loses_later y LosesAtOnce.copied = LosesAtOnce.copied
  loses_later y (LosesAtOnce.popped_open o) = LosesAtOnce.popped_open o

  pub effect_left : (ss : List Stmt) (l : Loc) → is_written ss l ≡ false → effect_after pushed ss l ≡ Leaves
  effect_left [] l w = refl
  effect_left (s ∷ ss) l w = by (is_written ss l) refl w (λ f. effect_left ss l f)
    where
      by : (b : Bool) → is_written ss l ≡ b → (b || is_among (written_by s) l) ≡ false → (is_written ss l ≡ false → effect_after pushed ss l ≡ Leaves)
          → effect_after pushed (s ∷ ss) l ≡ Leaves
      by true e w rest = absurd (true≢false w)
      by false e w rest =
          ap (λ x. later_effect x ((action_of pushed s).effect l)) (rest e) ∙ ap (λ b. if b then effect_of pushed s else Leaves) w

  pub effect_lost : (ss : List Stmt) (l : Loc) → none_pops pushed ss ≡ true → is_written ss l ≡ true → LosesAtOnce g (effect_after pushed ss l)
  effect_lost [] l v w = absurd (true≢false (sym w))
  effect_lost (s ∷ ss) l v w = by (is_written ss l) refl w (λ f. effect_lost ss l (and_right (not (is_pop pushed s)) (none_pops pushed ss) v) f)
    where
      by : (b : Bool) → is_written ss l ≡ b → (b || is_among (written_by s) l) ≡ true → (is_written ss l ≡ true → LosesAtOnce g (effect_after pushed ss l))
          → LosesAtOnce g (effect_after pushed (s ∷ ss) l)
      by true e w rest = loses_later ((action_of pushed s).effect l) (rest e)
      by false e w rest =
          subst (λ x. LosesAtOnce g x)
          (sym (ap (λ x. later_effect x ((action_of pushed s).effect l)) (effect_left ss l e) ∙ ap (λ b. if b then effect_of pushed s else Leaves) w))
          (loses s (not_true (is_pop pushed s) (and_left (not (is_pop pushed s)) (none_pops pushed ss) v)))

  -- Words.

  overwrites : (s : Stmt) (n : ℕ) (h : HalfName) → is_value s ≡ true → is_among (written_by s) (Cell n h) ≡ true → word_effect_of s ≡ Overwrites
  overwrites (Set (Temp m) e) n h v w = absurd (true≢false (sym w))
  overwrites (Set (Flag f) e) n h v w = absurd (true≢false (sym w))
  overwrites (Set (Half r k) e) n h v w = absurd (true≢false (sym w))
  overwrites (Set (Cell m k) (Get (Temp j))) n h v w = refl
  overwrites (Set (Cell m k) (Get (Flag f))) n h v w = refl
  overwrites (Set (Cell m k) (Get (Half r j))) n h v w = absurd (true≢false (sym v))
  overwrites (Set (Cell m k) (Get (Cell j i))) n h v w = absurd (true≢false (sym v))
  overwrites s n h v w = refl

  pub word_left : (ss : List Stmt) (l : Loc) → is_written ss l ≡ false → word_effect_after pushed ss l ≡ LeavesWord
  word_left [] l w = refl
  word_left (s ∷ ss) l w = by (is_written ss l) refl w (λ f. word_left ss l f)
    where
      by : (b : Bool) → is_written ss l ≡ b → (b || is_among (written_by s) l) ≡ false → (is_written ss l ≡ false → word_effect_after pushed ss l ≡ LeavesWord)
          → word_effect_after pushed (s ∷ ss) l ≡ LeavesWord
      by true e w rest = absurd (true≢false w)
      by false e w rest =
          ap (λ x. later_word_effect x ((action_of pushed s).word_effect l)) (rest e) ∙ ap (λ b. if b then word_effect_of s else LeavesWord) w

  pub word_spoiled : (ss : List Stmt) (n : ℕ) (h : HalfName) → list_all is_value ss ≡ true → is_written ss (Cell n h) ≡ true → word_effect_after pushed ss (Cell n h) ≡ Overwrites
  word_spoiled [] n h v w = absurd (true≢false (sym w))
  word_spoiled (s ∷ ss) n h v w = by (is_written ss (Cell n h)) refl w (λ f. word_spoiled ss n h (and_right (is_value s) (list_all is_value ss) v) f)
    where
      by : (b : Bool) → is_written ss (Cell n h) ≡ b → (b || is_among (written_by s) (Cell n h)) ≡ true → (is_written ss (Cell n h) ≡ true → word_effect_after pushed ss (Cell n h) ≡ Overwrites)
          → word_effect_after pushed (s ∷ ss) (Cell n h) ≡ Overwrites
      by true e w rest = ap (λ x. later_word_effect x ((action_of pushed s).word_effect (Cell n h))) (rest e)
      by false e w rest =
          ap (λ x. later_word_effect x ((action_of pushed s).word_effect (Cell n h))) (word_left ss (Cell n h) e)
          ∙ ap (λ b. if b then word_effect_of s else LeavesWord) w
          ∙ overwrites s n h (and_left (is_value s) (list_all is_value ss) v) w

quiet_one : (s : Stmt) → is_value s ≡ true → (action_of 0 s).callee ≡ None
quiet_one (Call results entry arguments depth) v = absurd (true≢false (sym v))
quiet_one s v = refl

pub quiet : (ss : List Stmt) → list_all is_value ss ≡ true → Quiet ss
quiet [] v = tt
quiet (s ∷ ss) v = (quiet_one s (and_left (is_value s) (list_all is_value ss) v), quiet ss (and_right (is_value s) (list_all is_value ss) v))

-- what makes or leaves pushes and pops nothing

pub no_push : (b : Bool) (L : Holder) → (if b then Overwrites else LeavesWord) ≡ Pushes L → ⊥
no_push true L e = cc e
no_push false L e = cc e

pub no_pop : (b : Bool) (k : ℤ) (y : Effect Holder ℤ) → y ≡ (if b then Makes else Leaves) → y ≡ Pops k → ⊥
no_pop true k y e f = cc (e, f)
no_pop false k y e f = cc (e, f)

module _ (coarse : Procedures ℕ Holder ℤ) (fine : Procedures Position Loc Loc) (r : Refinement ℕ Holder ℤ Position Loc Loc) (entry at pushed : ℕ) (stmts : List Stmt) (after : List Loc) where
  abbrev x : Action Holder ℤ
  x = (coarse.procedure entry).action at

  -- an operation that makes values, and statements that do what it does
  pub record MakesValues : Type 0 where
    pub written : Holder → Bool
    pub word_written : ℤ → Bool
    pub effect : (L : Holder) → x.effect L ≡ (if written L then Makes else Leaves)
    pub word_effect : (k : ℤ) → x.word_effect k ≡ (if word_written k then Overwrites else LeavesWord)
    pub callee : x.callee ≡ None
    -- the statements write just these
    pub values : list_all is_value stmts ≡ true
    pub writes : (L : Holder) (l : Loc) → r.same entry L l → written L ≡ is_written stmts l
    pub writes_word : (k : ℤ) (l : Loc) → r.same_word entry k l → (word_written k ≡ is_written stmts l) × ((n : ℕ) × (h : HalfName) × (l ≡ Cell n h))
    -- the statements make and use just what the instruction does
    pub using : Shows (r.same entry) (Takes coarse fine r entry at) (used stmts after)
    pub making : (A : Holder) (a : Loc) → r.same entry A a
        → Shows (r.same entry) (λ L. Carries coarse fine r entry at L A ⊎ Takes coarse fine r entry at L) (sources stmts a ++ used stmts after)
    pub made : (place to : Holder) → is_left (x.effect to) ≡ false → x.made_of to place ≡ true
        → ((coarse.procedure entry).is_exposed to ≡ true) ⊎ ((fine_to : Loc) × r.same entry to fine_to)

  module _ (v : MakesValues) where
    effect_agrees : (b : Bool) (L : Holder) (l : Loc) → v.written L ≡ b → is_written stmts l ≡ b → EffectsAgree coarse fine r entry (x.effect L) (effect_after pushed stmts l)
    effect_agrees true L l e f =
        EffectsAgree.both_lose (subst (λ y. LosesAtOnce (coarse.procedure entry) y) (sym (v.effect L ∙ ap (λ b. if b then Makes else Leaves) e)) LosesAtOnce.made)
        (effect_lost (fine.procedure entry) pushed stmts l (values_kept pushed stmts v.values) f)
    effect_agrees false L l e f =
        subst (λ y. EffectsAgree coarse fine r entry y (effect_after pushed stmts l)) (sym (v.effect L ∙ ap (λ b. if b then Makes else Leaves) e))
        (subst (λ y. EffectsAgree coarse fine r entry Leaves y) (sym (effect_left (fine.procedure entry) pushed stmts l f)) EffectsAgree.both_leave)

    word_agrees : (b : Bool) (L : Holder) (l : Loc) (k : ℤ) (n : ℕ) (h : HalfName) → v.word_written k ≡ b → is_written stmts (Cell n h) ≡ b
        → WordEffectsAgree coarse fine r L l (x.word_effect k) (word_effect_after pushed stmts (Cell n h))
    word_agrees true L l k n h e f =
        subst (λ y. WordEffectsAgree coarse fine r L l y (word_effect_after pushed stmts (Cell n h))) (sym (v.word_effect k ∙ ap (λ b. if b then Overwrites else LeavesWord) e))
        (subst (λ y. WordEffectsAgree coarse fine r L l Overwrites y) (sym (word_spoiled (fine.procedure entry) pushed stmts n h v.values f))
        (WordEffectsAgree.both_spoil Spoils.overwritten Spoils.overwritten))
    word_agrees false L l k n h e f =
        subst (λ y. WordEffectsAgree coarse fine r L l y (word_effect_after pushed stmts (Cell n h))) (sym (v.word_effect k ∙ ap (λ b. if b then Overwrites else LeavesWord) e))
        (subst (λ y. WordEffectsAgree coarse fine r L l LeavesWord y) (sym (word_left (fine.procedure entry) pushed stmts (Cell n h) f)) WordEffectsAgree.both_leave)

    pub value_agrees : Agrees coarse fine r entry at pushed stmts after
    value_agrees = record {
      effect = λ L l s t. effect_agrees (is_written stmts l) L l (v.writes L l s) refl;
      word_effect = λ L l k w s t u.
          let word = v.writes_word k w u in
          subst (λ m. WordEffectsAgree coarse fine r L l (x.word_effect k) (word_effect_after pushed stmts m)) (sym word.1.2)
          (word_agrees (is_written stmts (Cell word.1.0 word.1.1)) L l k word.1.0 word.1.1 (word.0 ∙ ap (is_written stmts) word.1.2) refl);
      saved = λ L l k s t e. absurd (no_push (v.word_written k) L (sym (v.word_effect k) ∙ e));
      popped = λ L l k w s t u e. absurd (no_pop (v.written L) k (x.effect L) (v.effect L) e);
      callees = inl (v.callee, quiet stmts v.values);
      carried = λ L A l a s t c. Contains-append_cases (sources stmts a) (used stmts after) l ((v.making A a t).has L l s (inl c));
      taken = λ L l s t. v.using.has L l s t;
      flows = λ A l a s f. (v.making A a s).comes l (Contains-append_left (sources stmts a) (used stmts after) l f);
      uses = λ l u. v.using.comes l u;
      made = v.made;
    }
