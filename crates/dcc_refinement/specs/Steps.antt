-- What points of a procedure do one after another.
use Rattle.std.specs.Prelude.{◌≡◌, true, false, List, [], ◌∷◌, Contains, None}
use Rattle.dcc_demand.specs.Procedures.{Effect, Leaves, Copies, Pops, Makes, WordEffect, LeavesWord, Pushes, Overwrites}
use Rattle.dcc_demand.specs.Procedures.{Procedure, is_left}

-- the later effect, or the earlier one where that leaves the location
abbrev pub later_effect : {Location Word : Type 0} → Effect Location Word → Effect Location Word → Effect Location Word
later_effect Leaves earlier = earlier
later_effect later earlier = later

-- the later effect on a word, or the earlier one where that leaves the word
abbrev pub later_word_effect : {Location : Type 0} → WordEffect Location → WordEffect Location → WordEffect Location
later_word_effect LeavesWord earlier = earlier
later_word_effect later earlier = later

module _ {Point Location Word : Type 0} (procedure : Procedure Point Location Word) where
  -- what the last of the points that writes the location does to it
  abbrev pub effect_of : List Point → Location → Effect Location Word
  effect_of [] location = Leaves
  effect_of (a ∷ steps) location = later_effect (effect_of steps location) ((procedure.action a).effect location)

  -- what the last of the points that writes the word does to it
  abbrev pub word_effect_of : List Point → Word → WordEffect Location
  word_effect_of [] word = LeavesWord
  word_effect_of (a ∷ steps) word =
      later_word_effect (word_effect_of steps word) ((procedure.action a).word_effect word)

  -- none of the points calls
  abbrev pub CallNothing : List Point → Type 0
  CallNothing [] = Unit {0}
  CallNothing (a ∷ steps) = ((procedure.action a).callee ≡ None) × CallNothing steps

  -- edges lead from the first point through the listed ones to the last
  pub data Walks : Point → List Point → Point → Type 0 where
    stands : {a : Point} → Walks a [] a
    goes : {a b c : Point} {steps : List Point} → Contains (procedure.next a) b → Walks b steps c
        → Walks a (a ∷ steps) c

  -- After the points the second location holds something that is made of what the first one held before them. Calls
  -- count as if they changed nothing.
  pub data Flows : List Point → Location → Location → Type 0 where
    stays : {location : Location} → Flows [] location location
    made : {a : Point} {steps : List Point} {location to after : Location}
        → is_left ((procedure.action a).effect to) ≡ false → (procedure.action a).made_of to location ≡ true
        → Flows steps to after → Flows (a ∷ steps) location after
    kept : {a : Point} {steps : List Point} {location after : Location}
        → (procedure.action a).surely location ≡ false → Flows steps location after
        → Flows (a ∷ steps) location after

  -- one of the points uses something that is made of what the location held before them
  pub data Uses : List Point → Location → Type 0 where
    here : {a : Point} {steps : List Point} {location : Location} → (procedure.action a).uses location ≡ true
        → Uses (a ∷ steps) location
    made : {a : Point} {steps : List Point} {location to : Location}
        → is_left ((procedure.action a).effect to) ≡ false → (procedure.action a).made_of to location ≡ true
        → Uses steps to → Uses (a ∷ steps) location
    kept : {a : Point} {steps : List Point} {location : Location} → (procedure.action a).surely location ≡ false
        → Uses steps location → Uses (a ∷ steps) location

  -- the point makes nothing of the location, and doesn't surely write it
  pub record Passes (location : Location) (a : Point) : Type 0 where
    pub unmade : (to : Location) → (procedure.action a).made_of to location ≡ false
    pub unwritten : (procedure.action a).surely location ≡ false

  -- no point of the list makes anything of the location, surely writes it or uses it
  abbrev pub PassBy : Location → List Point → Type 0
  PassBy location [] = Unit {0}
  PassBy location (a ∷ steps) =
      Passes location a × ((procedure.action a).uses location ≡ false) × PassBy location steps

  -- the effect is no POP that could give back what the location held
  pub data LosesAtOnce : Effect Location Word → Type 0 where
    made : LosesAtOnce Makes
    copied : {other : Location} → LosesAtOnce (Copies other)
    popped_open : {word : Word} → procedure.is_private word ≡ false → LosesAtOnce (Pops word)

-- the word is written, and not by a PUSH of the location
pub data Spoils {Location : Type 0} (location : Location) : WordEffect Location → Type 0 where
  overwritten : Spoils location Overwrites
  by_other : {other : Location} → ¬ (other ≡ location) → Spoils location (Pushes other)
