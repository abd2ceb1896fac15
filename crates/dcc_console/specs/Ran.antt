-- How a run from the start has gone: what it puts out, what it takes, and how it ends.
use Rattle.std.specs.Prelude.{◌≡◌, ◌<◌, ℕ, ◌+◌, List, ◌∷◌, ◌++◌, Option, Some}
use Rattle.dcc_run.specs.End.{End}
use Rattle.dcc_io.specs.Told.{append_told, AppendsProperPrefix}
use Rattle.dcc_console.specs.Console.{Console, Subject, state_after, output_after, ending_after}

-- the next step takes an input byte
abbrev pub TakesInput : {S : Type 0} → Console S → S → Type 0
TakesInput console s =
    (byte : ℕ) (rest : List ℕ) → console.left (console.system.step (console.with_left (byte ∷ rest) s)) ≡ rest

module _ {S : Type 0} (subject : Subject S) (steps : ℕ) (left : Option (List ℕ)) (output : List ℕ) where
  -- the run on the input puts out these bytes in a number of steps, leaves this input, and has ended so
  pub record HasRun (end : End) (input : List ℕ) : Type 0 where
    pub output_is : output ≡ output_after subject steps input
    pub left_is : left ≡ Some (subject.console.left (state_after subject steps input))
    pub end_is : ending_after subject steps input ≡ end

  -- the run stopped before a step: what the steps before put out is there, and this input is left
  pub record Stops (input : List ℕ) : Type 0 where
    pub made : ℕ
    pub short : made < steps
    pub output_is : output ≡ output_after subject made input
    pub left_is : left ≡ Some (subject.console.left (state_after subject made input))

  -- the run stopped before a step that takes an input byte
  pub record StopsAtRead (input : List ℕ) : Type 0 where
    pub stops : Stops input
    pub takes : TakesInput subject.console (state_after subject stops.made input)

-- The run stopped at a step whose write failed: the input has lost what the steps before it took and what it takes
-- itself, and the output got what the steps before it put out and a part of what it writes, and not all of that.
pub record StopsAtWrite {S : Type 0} (subject : Subject S) (steps : ℕ) (left taken taken_now : Option (List ℕ))
    (input : List ℕ) : Type 0 where
  pub made : ℕ
  pub short : made < steps
  pub writes : List ℕ
  pub writes_are : output_after subject (made + 1) input ≡ output_after subject made input ++ writes
  pub part : AppendsProperPrefix (append_told taken (output_after subject made input)) taken_now writes
  pub left_is : left ≡ Some (subject.console.left (state_after subject (made + 1) input))
