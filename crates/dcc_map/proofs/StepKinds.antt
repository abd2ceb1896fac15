-- What a step does at the console: it writes bytes, whatever the input; or it takes a key.
use Rattle.std.proofs.Common.{◌≡◌, ℕ, Bool, true, false, List, [], ◌∷◌, ◌++◌}
use Rattle.std.specs.Prelude.{if◌then◌else◌}
use Rattle.dcc_run.specs.Event.{Event, MetEnd, writes}
use Rattle.dcc_console.specs.Console.{Console}
use Rattle.dcc_console.specs.Key.{key_events}

-- what stands in the console is apart from the rest of a state
pub record IsApart {S : Type 0} (console : Console S) : Type 0 where
  pub same : (s : S) → console.with_left (console.left s) s ≡ s
  pub left : (input : List ℕ) (s : S) → console.left (console.with_left input s) ≡ input
  pub events : (input : List ℕ) (s : S) → console.system.events (console.with_left input s) ≡ console.system.events s

module _ {S : Type 0} (console : Console S) (before : List Event) (next : List ℕ → S) where
  -- The step to the next states, by the input, writes these bytes, and leaves the input as it was.
  pub record WritesBytes : Type 0 where
    pub bytes : List ℕ
    pub events : (input : List ℕ) → console.system.events (next input) ≡ before ++ writes bytes
    pub apart : (input other : List ℕ) → next input ≡ console.with_left input (next other)

  -- The step to the next states, by the input, takes a key, or meets the end of the input.
  pub record TakesKey : Type 0 where
    pub echo : Bool
    pub key : (byte : ℕ) (rest : List ℕ) → next (byte ∷ rest) ≡ console.with_left rest (next (byte ∷ []))
    pub key_left : (byte : ℕ) → console.left (next (byte ∷ [])) ≡ []
    pub key_happens : (byte : ℕ) → console.system.events (next (byte ∷ [])) ≡ before ++ key_events echo byte
    pub end_left : console.left (next []) ≡ []
    pub end_happens : console.system.events (next []) ≡ before ++ MetEnd ∷ []

  pub data StepKind : Type 0 where
    writes_bytes : WritesBytes → StepKind
    takes_key : TakesKey → StepKind

-- one of two steps
pub either_kind :
    {S : Type 0} (console : Console S) (before : List Event) (first second : List ℕ → S) (b : Bool)
    → StepKind console before first
    → StepKind console before second → StepKind console before (λ input. if b then first input else second input)
either_kind console before first second true p q = p
either_kind console before first second false p q = q
