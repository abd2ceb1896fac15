-- The statements of MOV, PUSH, POP and XCHG: of what they make the halves that they write, and what they use.
use Rattle.std.proofs.Common.{◌≡◌, ℕ, Bool, true, false, not, ◌&&◌, ◌||◌, ◌==◌, if◌then◌else◌, inl, inr, List, [], ◌∷◌, ◌++◌, refl, sym, ap, ◌∙◌, subst, true≢false}
use Rattle.std.specs.Prelude.{flat_map}
use Rattle.std.specs.List.{list_all}
use Rattle.std.proofs.lemmas.List.{append-nil}
use Rattle.std.proofs.lemmas.Grind.{flat_map-append}
use Rattle.dcc_num.specs.declared.Width.{Width}
use Rattle.dcc_num.specs.declared.Half.TheVariants.{Low, High}
use Rattle.dcc_machine.proofs.LocationKept.{or-none}
use Rattle.dcc_ir.specs.declared.syntax.Loc.{Loc}
use Rattle.dcc_ir.specs.declared.syntax.Loc.TheVariants.{Half, Flag, Cell, Temp}
use Rattle.dcc_ir.specs.Location.{same_location, register_number}
use Rattle.dcc_ir.specs.Tree.{Expr, Get, Stmt, Set}
use Rattle.dcc_ir.specs.Use.{reads_of}
use Rattle.dcc_ir.specs.Demand.{makes_of}
use Rattle.dcc_ir.specs.Live.{is_among}
use Rattle.dcc_ir.proofs.LocationLaws.{location_itself, location_same}
use Rattle.dcc_ir.proofs.PathLaws.{decided}
use Rattle.dcc_ops.specs.OperandPlace.{OperandPlace, memory, is_low, is_high, taking, storing}
use Rattle.dcc_ops.specs.Temporaries.{left_place}
use Rattle.dcc_ops.specs.Expressions.{left}
use Rattle.dcc_ops.specs.Statements.{mov_stmts}
use Rattle.dcc_lift.proofs.ListTests.{and_left, and_right, and_both, and_false, or_here, or_none}
use Rattle.dcc_demand.specs.Procedures.{Effect, Leaves, Copies, Pops, WordEffect, LeavesWord, Pushes, Overwrites, Procedure}
use Rattle.dcc_sums.specs.Points.{Position}
use Rattle.dcc_sums.specs.Instance.{is_half, is_pushed, written_by, effect_of, word_effect_of, action_of}
use Rattle.dcc_refinement.specs.Steps.{later_effect, later_word_effect}
use Rattle.dcc_lifted_demand.specs.Sources.{before, sources, used, effect_after, word_effect_after}
use Rattle.dcc_instruction_demand.proofs.ValueLaws.{is_written, is_pop, none_pops, value_kept, effect_left, word_left}
use Rattle.dcc_instruction_demand.proofs.StageLaws.{is_kept_place, is_lasting, reads_at, flat_still, sources_append}
use Rattle.dcc_instruction_demand.proofs.StageLaws.{before_taking, taking_useless, lasts_left}
use Rattle.dcc_instruction_demand.proofs.FormLaws.{taking_written, taking_value}

-- Locations.

pub apart_back : (a b : Loc) → same_location a b ≡ false → same_location b a ≡ false
apart_back a b e = elim (decided (same_location b a)) [
  | inr f ↦ f
  | inl t ↦ absurd (true≢false (sym (subst (λ c. same_location c b ≡ true) (location_same b a t) (location_itself b)) ∙ e))
]

pub temp_apart : (n : ℕ) (l : Loc) → is_kept_place l ≡ true → same_location (Temp n) l ≡ false
temp_apart n (Half r h) t = refl
temp_apart n (Cell m h) t = refl
temp_apart n (Flag f) t = absurd (true≢false (sym t))
temp_apart n (Temp m) t = absurd (true≢false (sym t))

pub kept_lasts : (l : Loc) → is_kept_place l ≡ true → is_lasting l ≡ true
kept_lasts (Half r h) t = refl
kept_lasts (Cell m h) t = refl
kept_lasts (Flag f) t = refl
kept_lasts (Temp m) t = absurd (true≢false (sym t))

pub all_last : (ls : List Loc) → list_all is_kept_place ls ≡ true → list_all is_lasting ls ≡ true
all_last [] t = refl
all_last (l ∷ ls) t =
    let rest = list_all is_kept_place ls in
    and_both (is_lasting l) (list_all is_lasting ls) (kept_lasts l (and_left (is_kept_place l) rest t)) (all_last ls (and_right (is_kept_place l) rest t))

pub low_kept : (l : Loc) → is_low l ≡ true → is_kept_place l ≡ true
low_kept (Half r h) t = refl
low_kept (Cell n h) t = refl
low_kept (Flag f) t = absurd (true≢false (sym t))
low_kept (Temp n) t = absurd (true≢false (sym t))

pub high_kept : (l : Loc) → is_high l ≡ true → is_kept_place l ≡ true
high_kept (Half r h) t = refl
high_kept (Cell n h) t = refl
high_kept (Flag f) t = absurd (true≢false (sym t))
high_kept (Temp n) t = absurd (true≢false (sym t))

-- a low half is no high one
pub halves_apart : (l m : Loc) → is_low l ≡ true → is_high m ≡ true → same_location l m ≡ false
halves_apart (Half r Low) (Half q High) a b = and_false (register_number r == register_number q)
halves_apart (Half r Low) (Half q Low) a b = absurd (true≢false (sym b))
halves_apart (Half r Low) (Cell n h) a b = refl
halves_apart (Half r Low) (Flag f) a b = refl
halves_apart (Half r Low) (Temp n) a b = refl
halves_apart (Half r High) m a b = absurd (true≢false (sym a))
halves_apart (Cell n Low) (Cell k High) a b = and_false (n == k)
halves_apart (Cell n Low) (Cell k Low) a b = absurd (true≢false (sym b))
halves_apart (Cell n Low) (Half q h) a b = refl
halves_apart (Cell n Low) (Flag f) a b = refl
halves_apart (Cell n Low) (Temp k) a b = refl
halves_apart (Cell n High) m a b = absurd (true≢false (sym a))
halves_apart (Flag f) m a b = absurd (true≢false (sym a))
halves_apart (Temp n) m a b = absurd (true≢false (sym a))

-- What statements make.

-- what none of them writes stays
pub sources_left : (ss : List Stmt) (m : Loc) → is_written ss m ≡ false → sources ss m ≡ m ∷ []
sources_left [] m e = refl
sources_left (s ∷ ss) m e =
    let both = or-none (is_written ss m) (is_among (written_by s) m) e in
    ap (flat_map (before s)) (sources_left ss m both.0) ∙ append-nil (before s m) ∙ ap (λ c. if c then makes_of s else m ∷ []) both.1

sources_first : (s : Stmt) (ss : List Stmt) (m : Loc) → is_written ss m ≡ false → sources (s ∷ ss) m ≡ before s m
sources_first s ss m e = ap (flat_map (before s)) (sources_left ss m e) ∙ append-nil (before s m)

before_set : (l : Loc) (e : Expr) → before (Set l e) l ≡ reads_of e
before_set l e = ap (λ b. if b || false then reads_of e else l ∷ []) (location_itself l)

pub set_alone : (l : Loc) (e : Expr) → sources (Set l e ∷ []) l ≡ reads_of e
set_alone l e = sources_first (Set l e) [] l refl ∙ before_set l e

pub set_first : (l h : Loc) (e f : Expr) → same_location l h ≡ false → sources (Set l e ∷ Set h f ∷ []) l ≡ reads_of e
set_first l h e f apart = sources_first (Set l e) (Set h f ∷ []) l (or_none (same_location l h) ∙ apart) ∙ before_set l e

-- a statement before a location that it doesn't write
pub still_one : (l m : Loc) (e : Expr) → same_location m l ≡ false → flat_map (before (Set l e)) (m ∷ []) ≡ m ∷ []
still_one l m e apart = append-nil (before (Set l e) m) ∙ ap (λ b. if b || false then reads_of e else m ∷ []) apart

pub set_second : (l h m : Loc) (e f : Expr) → reads_of f ≡ m ∷ [] → same_location m l ≡ false → sources (Set l e ∷ Set h f ∷ []) h ≡ m ∷ []
set_second l h m e f reads apart = ap (flat_map (before (Set l e))) (set_alone h f ∙ reads) ∙ still_one l m e apart

pub taken : (t : Loc) (Q : OperandPlace) → flat_map (before (taking t Q)) (t ∷ []) ≡ reads_at Q
taken t Q = append-nil (before (taking t Q) t) ∙ before_taking t Q t ∙ ap (λ b. if b then reads_at Q else t ∷ []) (location_itself t)

-- Two statements after each other.

module _ (xs ys : List Stmt) where
  pub sources_then : (m : Loc) (ls : List Loc) → is_written ys m ≡ false → sources xs m ≡ ls → sources (xs ++ ys) m ≡ ls
  sources_then m ls e f = sources_append xs ys m ∙ ap (flat_map (sources xs)) (sources_left ys m e) ∙ append-nil (sources xs m) ∙ f

  pub sources_after : (m l : Loc) → sources ys m ≡ l ∷ [] → is_written xs l ≡ false → sources (xs ++ ys) m ≡ l ∷ []
  sources_after m l e f = sources_append xs ys m ∙ ap (flat_map (sources xs)) e ∙ append-nil (sources xs l) ∙ sources_left xs l f

pub written_two : (l h m : Loc) (e f : Expr) → is_written (Set l e ∷ Set h f ∷ []) m ≡ is_among (l ∷ h ∷ []) m
written_two l h m e f = by (same_location m l) (same_location m h)
  where
    by : (a b : Bool) → ((b || false) || (a || false)) ≡ (a || (b || false))
    by true true = refl
    by true false = refl
    by false true = refl
    by false false = refl

-- Through a temporary.

module _ (w : Width) (Q : OperandPlace) where
  pub moved_unwritten : (ss : List Stmt) (m : Loc) → is_lasting m ≡ true → is_written (taking (left_place w) Q ∷ ss) m ≡ is_written ss m
  moved_unwritten ss m t = taking_written (left_place w) Q m (lasts_left w m t) ss

  pub taken_useless : (ss : List Stmt) → used ss [] ≡ [] → used (taking (left_place w) Q ∷ ss) [] ≡ []
  taken_useless ss none = ap (λ ls. ls ++ flat_map (before (taking (left_place w) Q)) (used ss [])) (taking_useless (left_place w) Q) ∙ ap (flat_map (before (taking (left_place w) Q))) none

  pub unpopped : (pushed : ℕ) (ss : List Stmt) → none_pops pushed ss ≡ true → none_pops pushed (taking (left_place w) Q ∷ ss) ≡ true
  unpopped pushed ss t = and_both (not (is_pop pushed (taking (left_place w) Q))) (none_pops pushed ss) (ap not (value_kept pushed (taking (left_place w) Q) (taking_value w Q).0)) t

  -- a store to memory uses the address and what is stored
  pub memory_used : (v : Width) (a : Expr) → list_all is_lasting (reads_of a) ≡ true → used (mov_stmts w (memory v a) Q) [] ≡ reads_of a ++ reads_at Q
  memory_used v a lasting =
      ap (λ ls. ls ++ flat_map (before (taking (left_place w) Q)) (used (storing (memory v a) (left w)) [])) (taking_useless (left_place w) Q)
      ∙ ap (flat_map (before (taking (left_place w) Q))) (append-nil (reads_of a ++ (left_place w ∷ [])))
      ∙ flat_map-append (before (taking (left_place w) Q)) (reads_of a) (left_place w ∷ [])
      ∙ ap (λ ls. ls ++ flat_map (before (taking (left_place w) Q)) (left_place w ∷ [])) (flat_still (before (taking (left_place w) Q)) is_lasting stays (reads_of a) lasting)
      ∙ ap (λ ls. reads_of a ++ ls) (taken (left_place w) Q)
    where
      stays : (m : Loc) → is_lasting m ≡ true → before (taking (left_place w) Q) m ≡ m ∷ []
      stays m t = before_taking (left_place w) Q m ∙ ap (λ b. if b then reads_at Q else m ∷ []) (lasts_left w m t)

-- Effects.

module _ (g : Procedure Position Loc Loc) (pushed : ℕ) where
  pub effect_first : (s : Stmt) (ss : List Stmt) (m : Loc) → is_written ss m ≡ false → is_among (written_by s) m ≡ true → effect_after pushed (s ∷ ss) m ≡ effect_of pushed s
  effect_first s ss m e t = ap (λ x. later_effect x ((action_of pushed s).effect m)) (effect_left g pushed ss m e) ∙ ap (λ b. if b then effect_of pushed s else Leaves) t

  effect_stays : (s : Stmt) (y : Effect Loc Loc) → later_effect (effect_of pushed s) y ≡ effect_of pushed s
  effect_stays (Set to (Get from)) y = by (is_half to && is_pushed pushed from)
    where
      by : (b : Bool) → later_effect (if b then Pops from else Copies from) y ≡ (if b then Pops from else Copies from)
      by true = refl
      by false = refl
  effect_stays s y = refl

  pub effect_then : (s t : Stmt) (ss : List Stmt) (m : Loc) → effect_after pushed ss m ≡ effect_of pushed t → effect_after pushed (s ∷ ss) m ≡ effect_of pushed t
  effect_then s t ss m e = ap (λ x. later_effect x ((action_of pushed s).effect m)) e ∙ effect_stays t ((action_of pushed s).effect m)

  word_first : (s : Stmt) (ss : List Stmt) (m : Loc) → is_written ss m ≡ false → is_among (written_by s) m ≡ true → word_effect_after pushed (s ∷ ss) m ≡ word_effect_of s
  word_first s ss m e t = ap (λ x. later_word_effect x ((action_of pushed s).word_effect m)) (word_left g pushed ss m e) ∙ ap (λ b. if b then word_effect_of s else LeavesWord) t

  word_stays : (s : Stmt) (y : WordEffect Loc) → later_word_effect (word_effect_of s) y ≡ word_effect_of s
  word_stays (Set to (Get from)) y = by (is_half from)
    where
      by : (b : Bool) → later_word_effect (if b then Pushes from else Overwrites) y ≡ (if b then Pushes from else Overwrites)
      by true = refl
      by false = refl
  word_stays s y = refl

  word_then : (s t : Stmt) (ss : List Stmt) (m : Loc) → word_effect_after pushed ss m ≡ word_effect_of t → word_effect_after pushed (s ∷ ss) m ≡ word_effect_of t
  word_then s t ss m e = ap (λ x. later_word_effect x ((action_of pushed s).word_effect m)) e ∙ word_stays t ((action_of pushed s).word_effect m)

  -- of two that are set
  module _ (l h : Loc) (apart : same_location l h ≡ false) (e f : Expr) where
    unwritten_low : is_written (Set h f ∷ []) l ≡ false
    unwritten_low = or_none (same_location l h) ∙ apart

    itself_in : (m : Loc) → is_among (m ∷ []) m ≡ true
    itself_in m = or_here (same_location m m) false (location_itself m)

    pub low_effect : effect_after pushed (Set l e ∷ Set h f ∷ []) l ≡ effect_of pushed (Set l e)
    low_effect = effect_first (Set l e) (Set h f ∷ []) l unwritten_low (itself_in l)

    pub high_effect : effect_after pushed (Set l e ∷ Set h f ∷ []) h ≡ effect_of pushed (Set h f)
    high_effect = effect_then (Set l e) (Set h f) (Set h f ∷ []) h (effect_first (Set h f) [] h refl (itself_in h))

    pub low_word : word_effect_after pushed (Set l e ∷ Set h f ∷ []) l ≡ word_effect_of (Set l e)
    low_word = word_first (Set l e) (Set h f ∷ []) l unwritten_low (itself_in l)

    pub high_word : word_effect_after pushed (Set l e ∷ Set h f ∷ []) h ≡ word_effect_of (Set h f)
    high_word = word_then (Set l e) (Set h f) (Set h f ∷ []) h (word_first (Set h f) [] h refl (itself_in h))

    pub low_word_then : (s : Stmt) → word_effect_after pushed (s ∷ Set l e ∷ Set h f ∷ []) l ≡ word_effect_of (Set l e)
    low_word_then s = word_then s (Set l e) (Set l e ∷ Set h f ∷ []) l low_word

    pub high_word_then : (s : Stmt) → word_effect_after pushed (s ∷ Set l e ∷ Set h f ∷ []) h ≡ word_effect_of (Set h f)
    high_word_then s = word_then s (Set h f) (Set l e ∷ Set h f ∷ []) h high_word
