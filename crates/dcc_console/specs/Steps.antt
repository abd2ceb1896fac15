-- What steps do to what code keeps and to what its input and output tell, and when they are refused.
use Rattle.std.specs.Prelude.{◌≡◌, ◌<◌, ℕ, zero, suc, List, ◌∷◌, ◌++◌, Some}
use Rattle.dcc_run.specs.End.{End}
use Rattle.dcc_run.specs.Event.{Event, written_by, taken_by}
use Rattle.dcc_run.specs.System.{after}
use Rattle.dcc_io.specs.Told.{append_told, prepend_told, AppendsProperPrefix}
use Rattle.dcc_console.specs.Console.{Executor, step_in, left_in, events_in, end_in}
use Rattle.dcc_console.specs.WithConsole.{WithConsole, told_bytes}
use Rattle.dcc_console.specs.declared.fault.Fault.{Fault}
use Rattle.dcc_console.specs.declared.fault.Fault.TheVariants.{Input, Output}

-- how a step or a run came out: its steps were made, or one of them was refused
pub data Outcome : Type 0 where
  made : Outcome
  read_failed : Outcome
  write_failed : Outcome
  no_memory : Outcome

-- how a step came out that a fault refused
abbrev pub refusal_of : Fault → Outcome
refusal_of Input = read_failed
refusal_of Output = write_failed

module _ {W C S : Type 0} (executor : Executor W C S) where
  -- the code stands for this state, which has these bytes left, and these are the events at its console
  pub record Comes (w : W) (code : C) (rest : List ℕ) (happened : List Event) (s : S) : Type 0 where
    pub stands : executor.stands w code s
    pub left : left_in executor w s ≡ rest
    pub events : events_in executor w s ≡ happened

  -- each state that the code stands for has ended so
  abbrev pub HasEnded : C → End → Type 0
  HasEnded code end = (w : W) (s : S) → executor.stands w code s → end_in executor w s ≡ end

  -- One step.

  -- A step was made, and this has happened: the input gave what these events take, and the output took what they write;
  -- and from each state that the code stood for, with just those bytes to read, the step leads to a state that the code
  -- stands for now, at whose console just these events have joined. An input that does not tell what is left counts as
  -- one that ends here.
  pub record Makes (before now : WithConsole C) : Type 0 where
    pub happened : List Event
    pub took : before.left ≡ prepend_told (taken_by happened) now.left
    pub wrote : now.taken ≡ append_told before.taken (written_by happened)
    pub made : (w : W) (s : S) → executor.stands w before.code s →
        left_in executor w s ≡ taken_by happened ++ told_bytes now.left →
        Comes w now.code (told_bytes now.left) (events_in executor w s ++ happened) (step_in executor w s)

  -- A read failed: the step is one that takes the next input byte, and nothing has changed.
  pub record IsRefusedRead (before now : WithConsole C) : Type 0 where
    pub takes : (w : W) (s : S) (byte : ℕ) (rest : List ℕ) → executor.stands w before.code s →
        left_in executor w s ≡ byte ∷ rest → left_in executor w (step_in executor w s) ≡ rest
    pub unchanged : now ≡ before

  -- A write failed: the code has not changed, and of what happens in the step the input gave what is taken, and the
  -- output took a part of what is written, and not all of it.
  pub record IsRefusedWrite (before now : WithConsole C) : Type 0 where
    pub happened : List Event
    pub takes : (w : W) (s : S) (rest : List ℕ) → executor.stands w before.code s →
        left_in executor w s ≡ taken_by happened ++ rest → left_in executor w (step_in executor w s) ≡ rest
    pub happens : (w : W) (s : S) (rest : List ℕ) → executor.stands w before.code s →
        left_in executor w s ≡ taken_by happened ++ rest →
        events_in executor w (step_in executor w s) ≡ events_in executor w s ++ happened
    pub unchanged : now.code ≡ before.code
    pub took : before.left ≡ prepend_told (taken_by happened) now.left
    pub part : AppendsProperPrefix before.taken now.taken (written_by happened)

  -- Memory was wanting: nothing was read or written, and the code stands for what it stood for.
  pub record IsSame (before now : WithConsole C) : Type 0 where
    pub stands : (w : W) (s : S) → executor.stands w before.code s → executor.stands w now.code s
    pub same_left : now.left ≡ before.left
    pub same_taken : now.taken ≡ before.taken

  -- what a step leaves, by how it came out
  abbrev pub Steps : Outcome → WithConsole C → WithConsole C → Type 0
  Steps made before now = Makes before now
  Steps read_failed before now = IsRefusedRead before now
  Steps write_failed before now = IsRefusedWrite before now
  Steps no_memory before now = IsSame before now

  -- Runs.

  -- a step from a scene of some kind
  pub record StepsFrom (IsBefore : WithConsole C → Type 0) (now : WithConsole C) : Type 0 where
    pub before : WithConsole C
    pub reached : IsBefore before
    pub made : Makes before now

  -- a number of steps were made one after another, whatever the input and the output tell
  unfoldable pub MakesEach : ℕ → WithConsole C → WithConsole C → Type 0
  MakesEach zero before now = now ≡ before
  MakesEach (suc count) before now = StepsFrom (MakesEach count before) now

  -- A number of steps were made one after another, and these events have happened. Where the input tells what is left,
  -- the steps are one run: from each state that the code stood for, with just the bytes to read that the input gave,
  -- they lead to a state that the code stands for now, at whose console just these events have joined.
  pub record MakesSteps (count : ℕ) (before now : WithConsole C) : Type 0 where
    pub each : MakesEach count before now
    pub happened : List Event
    pub took : before.left ≡ prepend_told (taken_by happened) now.left
    pub wrote : now.taken ≡ append_told before.taken (written_by happened)
    pub made : (w : W) (s : S) (rest : List ℕ) → now.left ≡ Some rest → executor.stands w before.code s →
        left_in executor w s ≡ taken_by happened ++ rest →
        Comes w now.code rest (events_in executor w s ++ happened) (after (step_in executor w) count s)

  -- fewer than `most` steps were made, and the next one came out so
  pub record StopsShort (outcome : Outcome) (most : ℕ) (before now : WithConsole C) : Type 0 where
    pub count : ℕ
    pub short : count < most
    pub stop : WithConsole C
    pub made : MakesSteps count before stop
    pub refused : Steps outcome stop now

  -- What a run of at most `most` steps leaves, by how it came out. A run that has ended stays, so it counts as one of
  -- just `most` steps.
  abbrev pub Runs : ℕ → Outcome → WithConsole C → WithConsole C → Type 0
  Runs most made before now = MakesSteps most before now
  Runs most read_failed before now = StopsShort read_failed most before now
  Runs most write_failed before now = StopsShort write_failed most before now
  Runs most no_memory before now = StopsShort no_memory most before now
