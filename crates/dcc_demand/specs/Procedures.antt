-- Procedures, by what each of their points does to locations and to words of the stack. Points, locations and words
-- are of any types: the procedures of the machine are one case, those of the inner language another. A word is what
-- one PUSH writes of one location: where a register counts as two locations, what is pushed of it counts as two
-- words.
use Rattle.std.specs.Prelude.{ℕ, Bool, true, false, List, Option, Some, None}

-- what a point does to a location: it leaves it, copies another location to it, pops it from a word, or makes its
-- value in another way
pub data Effect (Location Word : Type 0) : Type 0 where
  Leaves : Effect Location Word
  Copies : Location → Effect Location Word
  Pops : Word → Effect Location Word
  Makes : Effect Location Word

-- what a point does to a word of the stack: it leaves it, pushes a location into it, or writes it in another way
pub data WordEffect (Location : Type 0) : Type 0 where
  LeavesWord : WordEffect Location
  Pushes : Location → WordEffect Location
  Overwrites : WordEffect Location

-- What a point does, without what a procedure does that it calls. What it takes it takes from before it.
pub record Action (Location Word : Type 0) : Type 0 where
  -- what the point uses whatever is wanted after it: for a jump, a store, a division, a DOS call, an argument on the
  -- stack
  pub uses : Location → Bool
  pub effect : Location → Effect Location Word
  -- the value that the point gives the first location is made of the second
  pub made_of : Location → Location → Bool
  -- the point writes the location in each case, as a shift by CL doesn't write a flag
  pub surely : Location → Bool
  pub word_effect : Word → WordEffect Location
  pub callee : Option ℕ

-- A procedure: its entry, its points, and the edges from each point to the next ones; what is no point of the
-- procedure has no edges. A point where the procedure returns does nothing.
pub record Procedure (Point Location Word : Type 0) : Type 0 where
  pub entry : Point
  pub next : Point → List Point
  pub returns : Point → Bool
  pub action : Point → Action Location Word
  -- nothing reaches the word but what points do to words
  pub is_private : Word → Bool
  -- what may be read anywhere, as the bytes of a cell whose address is taken
  pub is_exposed : Location → Bool

-- The procedures of a program by their numbers; a number that none has stands for a procedure without edges. Some
-- locations pass between procedures, as registers do; each call has the others for itself.
pub record Procedures (Point Location Word : Type 0) : Type 0 where
  pub procedure : ℕ → Procedure Point Location Word
  pub passes : Location → Bool

-- the location is not written
abbrev pub is_left : {Location Word : Type 0} → Effect Location Word → Bool
is_left Leaves = true
is_left effect = false

-- which procedures change which locations
abbrev pub ChangeFamily : Type 0 → Type 1
ChangeFamily Location = ℕ → Location → Type 0

-- the call, where there is one, changes the location
abbrev pub CallChanges : {Location : Type 0} → ChangeFamily Location → Option ℕ → Location → Type 0
CallChanges changed (Some callee) location = changed callee location
CallChanges changed None location = ⊥
