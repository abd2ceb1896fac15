-- What is changed, from point to point: what some trail to a point has written, hasn't saved in a word, and has lost.
-- Each rule asks one thing of the trail before, so it doesn't matter that trails meet.
use Rattle.std.specs.Prelude.{◌≡◌, ℕ, true, false, List, Contains, Some}
use Rattle.dcc_demand.specs.Procedures.{Leaves, Copies, Pops, Makes, LeavesWord, Pushes, Overwrites, Procedure}
use Rattle.dcc_demand.specs.Procedures.{Procedures, is_left}
use Rattle.dcc_demand.specs.Trail.{IsTrail}

module _ {Point Location Word : Type 0} (procedure : Procedure Point Location Word) where
  -- some trail leads to the point
  abbrev pub IsReached : Point → Type 0
  IsReached a = (passed : List Point) × IsTrail procedure passed a

  -- an edge leads from the one point, which is reached, to the other
  pub record IsEdge (a b : Point) : Type 0 where
    pub reached : IsReached a
    pub goes : Contains (procedure.next a) b

module _ {Point Location Word : Type 0} (p : Procedures Point Location Word) where
  mutual
    -- some trail to a return has lost the location, which passes between procedures
    pub data MayChange : ℕ → Location → Type 0 where
      returned : {i : ℕ} {a : Point} {location : Location} → p.passes location ≡ true
          → (p.procedure i).returns a ≡ true → MayHaveLost i a location → MayChange i location

    -- some trail to the point has written the location
    pub data MayHaveWritten : ℕ → Point → Location → Type 0 where
      by_point : {i : ℕ} {a b : Point} {location : Location} → IsEdge (p.procedure i) a b
          → is_left (((p.procedure i).action a).effect location) ≡ false → MayHaveWritten i b location
      by_call : {i callee : ℕ} {a b : Point} {location : Location} → IsEdge (p.procedure i) a b
          → ((p.procedure i).action a).callee ≡ Some callee → MayChange callee location
          → MayHaveWritten i b location
      before : {i : ℕ} {a b : Point} {location : Location} → IsEdge (p.procedure i) a b
          → MayHaveWritten i a location → MayHaveWritten i b location

    -- on some trail to the point the word's last writer didn't push the location from before its first writer
    pub data MayNotHaveSaved : ℕ → Point → Location → Word → Type 0 where
      unpushed : {i : ℕ} {location : Location} {word : Word} → MayNotHaveSaved i (p.procedure i).entry location word
      overwritten : {i : ℕ} {a b : Point} {location : Location} {word : Word} → IsEdge (p.procedure i) a b
          → ((p.procedure i).action a).word_effect word ≡ Overwrites → MayNotHaveSaved i b location word
      by_other : {i : ℕ} {a b : Point} {location other : Location} {word : Word} → IsEdge (p.procedure i) a b
          → ((p.procedure i).action a).word_effect word ≡ Pushes other → ¬ (other ≡ location)
          → MayNotHaveSaved i b location word
      too_late : {i : ℕ} {a b : Point} {location : Location} {word : Word} → IsEdge (p.procedure i) a b
          → ((p.procedure i).action a).word_effect word ≡ Pushes location → MayHaveWritten i a location
          → MayNotHaveSaved i b location word
      kept : {i : ℕ} {a b : Point} {location : Location} {word : Word} → IsEdge (p.procedure i) a b
          → ((p.procedure i).action a).word_effect word ≡ LeavesWord → MayNotHaveSaved i a location word
          → MayNotHaveSaved i b location word

    -- some trail to the point has lost the location
    pub data MayHaveLost : ℕ → Point → Location → Type 0 where
      in_call : {i callee : ℕ} {a b : Point} {location : Location} → IsEdge (p.procedure i) a b
          → ((p.procedure i).action a).callee ≡ Some callee → MayChange callee location → MayHaveLost i b location
      made : {i : ℕ} {a b : Point} {location : Location} → IsEdge (p.procedure i) a b
          → ((p.procedure i).action a).effect location ≡ Makes → MayHaveLost i b location
      copied : {i : ℕ} {a b : Point} {location other : Location} → IsEdge (p.procedure i) a b
          → ((p.procedure i).action a).effect location ≡ Copies other → MayHaveLost i b location
      popped_open : {i : ℕ} {a b : Point} {location : Location} {word : Word} → IsEdge (p.procedure i) a b
          → ((p.procedure i).action a).effect location ≡ Pops word → (p.procedure i).is_private word ≡ false
          → MayHaveLost i b location
      popped_unsaved : {i : ℕ} {a b : Point} {location : Location} {word : Word}
          → IsEdge (p.procedure i) a b → ((p.procedure i).action a).effect location ≡ Pops word
          → MayNotHaveSaved i a location word → MayHaveLost i b location
      left : {i : ℕ} {a b : Point} {location : Location} → IsEdge (p.procedure i) a b
          → ((p.procedure i).action a).effect location ≡ Leaves → MayHaveLost i a location → MayHaveLost i b location
