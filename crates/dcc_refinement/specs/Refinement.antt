-- When procedures over finer points, as the statements of an instruction are, do what procedures over coarser ones do:
-- each coarse point is some fine points one after another, or none, and its action is what these do together.
use Rattle.std.specs.Prelude.{◌≡◌, ℕ, true, false, ◌⊎◌, List, [], ◌∷◌, ◌++◌, Contains, Some, None}
use Rattle.dcc_demand.specs.Procedures.{Effect, Leaves, Pops, WordEffect, LeavesWord, Pushes, Procedures, is_left}
use Rattle.dcc_refinement.specs.Steps.{effect_of, word_effect_of, CallNothing, Walks, Flows, Uses, Passes, PassBy}
use Rattle.dcc_refinement.specs.Steps.{LosesAtOnce, Spoils}

-- How fine procedures stand for coarse ones of the same numbers.
pub record Refinement (Point Location Word FinePoint FineLocation FineWord : Type 0) : Type 1 where
  -- the fine points of a point, in their order
  pub steps : ℕ → Point → List FinePoint
  -- where a point's fine points begin; where it has none, where those of the point after it do
  pub begin : ℕ → Point → FinePoint
  -- in a procedure the coarse and the fine location are one; `same_word`: the two words are one
  pub same : ℕ → Location → FineLocation → Type 0
  pub same_word : ℕ → Word → FineWord → Type 0

module _ {Point Location Word FinePoint FineLocation FineWord : Type 0} (coarse : Procedures Point Location Word)
    (fine : Procedures FinePoint FineLocation FineWord)
    (r : Refinement Point Location Word FinePoint FineLocation FineWord) where
  -- Effects.

  -- a coarse and a fine effect are one: both leave a location, both lose what it held, or both pop it from a private
  -- word
  pub data EffectsAgree (i : ℕ) : Effect Location Word → Effect FineLocation FineWord → Type 0 where
    both_leave : EffectsAgree i Leaves Leaves
    both_lose : {effect : Effect Location Word} {fine_effect : Effect FineLocation FineWord}
        → LosesAtOnce (coarse.procedure i) effect → LosesAtOnce (fine.procedure i) fine_effect
        → EffectsAgree i effect fine_effect
    both_pop : {word : Word} {fine_word : FineWord} → (coarse.procedure i).is_private word ≡ true
        → (fine.procedure i).is_private fine_word ≡ true → r.same_word i word fine_word
        → EffectsAgree i (Pops word) (Pops fine_word)

  -- the effects on a coarse and a fine word are one, where the coarse and the fine location are: both leave it, both
  -- push the location, or both spoil the word for it
  pub data WordEffectsAgree (location : Location) (fine_location : FineLocation)
      : WordEffect Location → WordEffect FineLocation → Type 0 where
    both_leave : WordEffectsAgree location fine_location LeavesWord LeavesWord
    both_push : WordEffectsAgree location fine_location (Pushes location) (Pushes fine_location)
    both_spoil : {effect : WordEffect Location} {fine_effect : WordEffect FineLocation} → Spoils location effect
        → Spoils fine_location fine_effect → WordEffectsAgree location fine_location effect fine_effect

  -- What a point does to what passes between procedures, and to the words where that is saved, its steps do together.
  -- The steps of a PUSH leave the location that they push, and those of a POP leave the word that they pop.
  pub record ChangesAgree (i : ℕ) (a : Point) : Type 0 where
    pub effect : (location : Location) (fine_location : FineLocation) → r.same i location fine_location
        → coarse.passes location ≡ true
        → EffectsAgree i (((coarse.procedure i).action a).effect location)
        (effect_of (fine.procedure i) (r.steps i a) fine_location)
    pub word_effect : (location : Location) (fine_location : FineLocation) (word : Word) (fine_word : FineWord)
        → r.same i location fine_location → coarse.passes location ≡ true → r.same_word i word fine_word
        → WordEffectsAgree location fine_location (((coarse.procedure i).action a).word_effect word)
        (word_effect_of (fine.procedure i) (r.steps i a) fine_word)
    pub pushed : (location : Location) (fine_location : FineLocation) (word : Word)
        → r.same i location fine_location → coarse.passes location ≡ true
        → ((coarse.procedure i).action a).word_effect word ≡ Pushes location
        → (((coarse.procedure i).action a).callee ≡ None)
        × (effect_of (fine.procedure i) (r.steps i a) fine_location ≡ Leaves)
    pub popped : (location : Location) (fine_location : FineLocation) (word : Word) (fine_word : FineWord)
        → r.same i location fine_location → coarse.passes location ≡ true → r.same_word i word fine_word
        → ((coarse.procedure i).action a).effect location ≡ Pops word
        → word_effect_of (fine.procedure i) (r.steps i a) fine_word ≡ LeavesWord

  -- Calls.

  -- A point that calls: the call is its first step; the point leaves what passes with the call, and the other steps
  -- pass it by.
  pub record CallsFirst (i callee : ℕ) (a : Point) : Type 0 where
    pub call : FinePoint
    pub others : List FinePoint
    pub steps_are : r.steps i a ≡ call ∷ others
    pub calls : ((fine.procedure i).action call).callee ≡ Some callee
    pub then : CallNothing (fine.procedure i) others
    pub left : (location : Location) (fine_location : FineLocation) → r.same i location fine_location
        → coarse.passes location ≡ true
        → (((coarse.procedure i).action a).effect location ≡ Leaves) × Passes (coarse.procedure i) location a
    pub passed : (location : FineLocation) → fine.passes location ≡ true
        → Passes (fine.procedure i) location call × PassBy (fine.procedure i) location others

  abbrev pub CalleesAgree : ℕ → Point → Type 0
  CalleesAgree i a =
      ((((coarse.procedure i).action a).callee ≡ None) × CallNothing (fine.procedure i) (r.steps i a))
      ⊎ ((callee : ℕ) × (((coarse.procedure i).action a).callee ≡ Some callee) × CallsFirst i callee a)

  -- What is wanted.

  -- after the point the second location holds something that is made of what the first one held before it
  abbrev pub Carries : ℕ → Point → Location → Location → Type 0
  Carries i a location after =
      ((is_left (((coarse.procedure i).action a).effect after) ≡ false)
      × (((coarse.procedure i).action a).made_of after location ≡ true))
      ⊎ ((location ≡ after) × (((coarse.procedure i).action a).surely location ≡ false))

  -- the point uses the location, or makes of it, and goes on, what may be read anywhere
  abbrev pub Takes : ℕ → Point → Location → Type 0
  Takes i a location =
      (((coarse.procedure i).action a).uses location ≡ true)
      ⊎ ((to : Location) × (b : Point) × ((coarse.procedure i).is_exposed to ≡ true)
      × Contains ((coarse.procedure i).next a) b × (is_left (((coarse.procedure i).action a).effect to) ≡ false)
      × (((coarse.procedure i).action a).made_of to location ≡ true))

  -- What a point makes of what, and what it uses, its steps do together. It doesn't matter what the steps carry
  -- besides of a location that they use; and what stands for no coarse location, as what holds a value only between
  -- steps, is not wanted before them.
  pub record WantsAgree (i : ℕ) (a : Point) : Type 0 where
    pub carried : (location after : Location) (fine_location fine_after : FineLocation)
        → r.same i location fine_location → r.same i after fine_after → Carries i a location after
        → Flows (fine.procedure i) (r.steps i a) fine_location fine_after
        ⊎ Uses (fine.procedure i) (r.steps i a) fine_location
    pub taken : (location : Location) (fine_location : FineLocation) → r.same i location fine_location
        → Takes i a location → Uses (fine.procedure i) (r.steps i a) fine_location
    pub flows : (after : Location) (fine_location fine_after : FineLocation) → r.same i after fine_after
        → Flows (fine.procedure i) (r.steps i a) fine_location fine_after
        → (location : Location) × r.same i location fine_location
        × (Carries i a location after ⊎ Takes i a location)
    pub uses : (fine_location : FineLocation) → Uses (fine.procedure i) (r.steps i a) fine_location
        → (location : Location) × r.same i location fine_location × Takes i a location
    -- what the point makes a value of stands for something in the fine procedure, or may be read anywhere
    pub made : (location to : Location) → is_left (((coarse.procedure i).action a).effect to) ≡ false
        → ((coarse.procedure i).action a).made_of to location ≡ true
        → ((coarse.procedure i).is_exposed to ≡ true) ⊎ ((fine_to : FineLocation) × r.same i to fine_to)

  -- Edges.

  -- The steps of a point go on to each other alone, and the last one to where the next points begin. A point that
  -- returns is one step.
  pub record EdgesAgree (i : ℕ) (a : Point) : Type 0 where
    pub begins : (step : FinePoint) (steps : List FinePoint) → r.steps i a ≡ step ∷ steps → r.begin i a ≡ step
    pub goes : (b : Point) → Contains ((coarse.procedure i).next a) b
        → Walks (fine.procedure i) (r.begin i a) (r.steps i a) (r.begin i b)
    pub within : (before after : List FinePoint) (step next : FinePoint)
        → r.steps i a ≡ before ++ (step ∷ next ∷ after)
        → ((fine.procedure i).next step ≡ next ∷ []) × ((fine.procedure i).returns step ≡ false)
    pub comes : (before : List FinePoint) (step to : FinePoint) → r.steps i a ≡ before ++ (step ∷ [])
        → Contains ((fine.procedure i).next step) to
        → (b : Point) × Contains ((coarse.procedure i).next a) b × (to ≡ r.begin i b)
    pub returns : (before : List FinePoint) (step : FinePoint) → r.steps i a ≡ before ++ (step ∷ [])
        → (fine.procedure i).returns step ≡ (coarse.procedure i).returns a
    pub alone : (coarse.procedure i).returns a ≡ true → (step : FinePoint) × (r.steps i a ≡ step ∷ [])

  -- from the point on there is a point with steps
  pub data IsSettled (i : ℕ) : Point → Type 0 where
    by_steps : {a : Point} {step : FinePoint} {steps : List FinePoint} → r.steps i a ≡ step ∷ steps → IsSettled i a
    by_next : {a b : Point} → r.steps i a ≡ [] → Contains ((coarse.procedure i).next a) b → IsSettled i b
        → IsSettled i a

  -- the procedure never returns, and nothing calls it
  pub record IsApart (i : ℕ) : Type 0 where
    pub stays : (a : Point) → (coarse.procedure i).returns a ≡ false
    pub fine_stays : (a : FinePoint) → (fine.procedure i).returns a ≡ false
    pub uncalled : (caller : ℕ) (a : Point) → ¬ (((coarse.procedure caller).action a).callee ≡ Some i)
    pub fine_uncalled : (caller : ℕ) (a : FinePoint) → ¬ (((fine.procedure caller).action a).callee ≡ Some i)

  -- the fine entry is where the coarse one begins, or the procedure is apart, and more may stand before it
  abbrev pub EntriesAgree : ℕ → Type 0
  EntriesAgree i = (r.begin i (coarse.procedure i).entry ≡ (fine.procedure i).entry) ⊎ IsApart i

  -- Refined procedures: all of these together.

  pub record IsRefined : Type 0 where
    -- no two coarse locations of a procedure are one fine location; a location that passes between procedures is one
    -- and the same in all of them
    pub one : (i : ℕ) (location other : Location) (fine_location : FineLocation) → r.same i location fine_location
        → r.same i other fine_location → location ≡ other
    pub passes : (i : ℕ) (location : Location) (fine_location : FineLocation) → r.same i location fine_location
        → coarse.passes location ≡ fine.passes fine_location
    pub shared : (i j : ℕ) (location : Location) (fine_location : FineLocation) → r.same i location fine_location
        → coarse.passes location ≡ true → r.same j location fine_location
    -- a coarse location that may be read anywhere stands for no fine one
    pub exposed : (i : ℕ) (location : Location) (fine_location : FineLocation)
        → (coarse.procedure i).is_exposed location ≡ true → ¬ r.same i location fine_location
    pub unexposed : (i : ℕ) (location : FineLocation) → (fine.procedure i).is_exposed location ≡ false
    pub changes : (i : ℕ) (a : Point) → ChangesAgree i a
    pub callees : (i : ℕ) (a : Point) → CalleesAgree i a
    pub wants : (i : ℕ) (a : Point) → WantsAgree i a
    pub edges : (i : ℕ) (a : Point) → EdgesAgree i a
    pub called : (i callee : ℕ) (call : FinePoint) → ((fine.procedure i).action call).callee ≡ Some callee
        → (a : Point) × (others : List FinePoint) × (r.steps i a ≡ call ∷ others)
    pub entries : (i : ℕ) → EntriesAgree i
    pub settled_entry : (i : ℕ) → IsSettled i (coarse.procedure i).entry
    pub settled : (i : ℕ) (a b : Point) → Contains ((coarse.procedure i).next a) b → IsSettled i b
