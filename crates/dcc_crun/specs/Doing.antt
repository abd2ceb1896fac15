-- What statements do to the state of a run while they are executed.
use Rattle.std.specs.Prelude.{◌≡◌, ℕ, Bool, List, [], ◌∷◌, ◌++◌, map, Option, Some, Result, Ok, Err, IsErrOf, Vec}
use Rattle.std.specs.Prelude.{option_map, is_some, false, slice_get}
use Rattle.std.specs.Global.{Global}
use Rattle.dcc_run.specs.End.{End, Running as running, Divide as divided, Stuck as stuck}
use Rattle.dcc_run.specs.Event.{Event, written_by, taken_by}
use Rattle.dcc_io.specs.Told.{append_told, prepend_told, AppendsProperPrefix}
use Rattle.dcc_c.specs.declared.syntax.CType.{CType}
use Rattle.dcc_c.specs.Tree.{Word, Expr, Call as CallOf, Function, Tree}
use Rattle.dcc_c.specs.Rules.{declared_global}
use Rattle.dcc_c.specs.Value.{Value, converted, Outcome, Gives, Divides, Undefined, and_then}
use Rattle.dcc_c.specs.Dos.{dos_signature}
use Rattle.dcc_c.specs.Run.{Continuation, State, global_binding, on, step_at, scope_of, key_step, dos_step}
use Rattle.dcc_c.specs.Run.{arguments_of, enter_step, param_types, stmt_step}
use Rattle.dcc_value.specs.declared.value.Value.{Value as Held}
use Rattle.dcc_value.specs.declared.value.NoValue.{NoValue}
use Rattle.dcc_value.specs.declared.value.NoValue.TheVariants.{Divides as Faults, Undefined as Meaningless}
use Rattle.dcc_value.specs.declared.variable.Binding.{Binding as Bound}
use Rattle.dcc_value.specs.declared.expression.Resolved.{Resolved}
use Rattle.dcc_crun.specs.declared.ending.Refusal.{Refusal}
use Rattle.dcc_crun.specs.declared.ending.Refusal.TheVariants.{Input, Output, Memory}
use Rattle.dcc_crun.specs.declared.ending.Stop.{Stop}
use Rattle.dcc_crun.specs.declared.ending.Stop.TheVariants.{Divides as HaltsDividing, Undefined as HaltsUndefined}
use Rattle.dcc_crun.specs.declared.ending.Stop.TheVariants.{Refused}
use Rattle.dcc_value.specs.declared.expression.Target.{Target as Place}
use Rattle.dcc_prepare.specs.declared.program.Dos.{Dos as DosCall}
use Rattle.dcc_prepare.specs.declared.program.CallRow.{CallRow}
use Rattle.dcc_prepare.specs.declared.program.Action.{Action}
use Rattle.dcc_prepare.specs.declared.program.Action.TheVariants.{Call}
use Rattle.dcc_prepare.specs.declared.program.Procedure.{Procedure}
use Rattle.dcc_prepare.specs.declared.program.Program.{Program}
use Rattle.dcc_crun.specs.declared.moment.Moment.{Moment}
use Rattle.dcc_value.specs.Evaluation.{typed, bindings_named, outcome_of}
use Rattle.dcc_value.specs.Resolved.{Names, Contents, evaluated, target_named}
use Rattle.dcc_prepare.specs.Points.{names_in, locals_declared, Goes, Acts, StandsIf, StandAll, IsCallee, dos_call}
use Rattle.dcc_prepare.specs.Programs.{IsProgram, IsProcedure}
use Rattle.dcc_crun.specs.Standing.{IsTargetIf, IsRunning, IsGoing, IsMoment}
use Rattle.dcc_console.specs.Counts.{CountsFaults}
use Rattle.dcc_console.specs.WithConsole.{told_bytes}

-- what the expressions of the call are evaluated over
abbrev pub scene_in : Moment → List Bound → Contents
scene_in m globals = record { frame = m.call.variables.items; globals = globals; memory = m.memory.items }

-- the bound variables are the global variables of the text
abbrev pub AreGlobals : Tree → List Bound → Type 0
AreGlobals tree globals = bindings_named (map declared_global tree.globals) globals ≡ map global_binding tree.globals

-- what the expressions of the call may name
abbrev pub names_at : Tree → State → Names
names_at tree s = names_in tree s.frame.function

-- nothing was read or written
pub record IsQuiet (s now : State) : Type 0 where
  pub input : now.input ≡ s.input
  pub events : now.events ≡ s.events

-- the end of a run where an evaluation gives nothing
abbrev pub end_at : ℕ → NoValue → End
end_at line Faults = divided
end_at line Meaningless = stuck line

-- the moment stands for the state now, and the text goes on as before
pub record IsKept (tree : Tree) (points : ℕ → List Continuation) (m : Moment) (s now : State) : Type 0 where
  pub state : IsRunning tree points m now
  pub rest : now.rest ≡ s.rest
  pub quiet : IsQuiet s now

-- the moment stands for the state now
pub record IsLed (tree : Tree) (points : ℕ → List Continuation) (m : Moment) (s now : State) : Type 0 where
  pub going : IsGoing tree points m now
  pub quiet : IsQuiet s now

-- the run has ended with the given end, and nothing was read or written
pub record IsEnded (s now : State) (end : End) : Type 0 where
  pub is : now.end ≡ end
  pub quiet : IsQuiet s now

abbrev pub Keeps : {A : Type 0} → Tree → (ℕ → List Continuation) → ℕ → Result A NoValue → Moment → State → State
    → Type 0
Keeps tree points line (Ok _) m s now = IsKept tree points m s now
Keeps tree points line (Err why) m s now = IsEnded s now (end_at line why)

abbrev pub Led : {A : Type 0} → Tree → (ℕ → List Continuation) → ℕ → Result A NoValue → Moment → State → State → Type 0
Led tree points line (Ok _) m s now = IsLed tree points m s now
Led tree points line (Err why) m s now = IsEnded s now (end_at line why)

-- what a step that reads and writes nothing leaves
pub record IsStood (tree : Tree) (points : ℕ → List Continuation) (m : Moment) (s now : State) : Type 0 where
  pub stood : IsMoment tree points m now
  pub quiet : IsQuiet s now

abbrev pub Stays : {A : Type 0} → Tree → (ℕ → List Continuation) → ℕ → Result A NoValue → Moment → State → State
    → Type 0
Stays tree points line (Ok _) m s now = IsStood tree points m s now
Stays tree points line (Err why) m s now = IsEnded s now (end_at line why)

-- the call stands at the same point
pub record StepsAside (before now : Moment) : Type 0 where
  pub procedure : now.call.procedure ≡ before.call.procedure
  pub at : now.call.at ≡ before.call.at

-- the list of one value
abbrev pub single : Held → List Value
single v = typed v ∷ []

-- the values of resolved arguments, each converted to the type of its parameter
abbrev pub resolved_arguments : Contents → List CType → List Resolved → Outcome (List Value)
resolved_arguments scene [] [] = Gives []
resolved_arguments scene (type ∷ types) (e ∷ es) =
    and_then (λ v. and_then (λ vs. Gives (converted type v ∷ vs)) (resolved_arguments scene types es))
    (evaluated scene e)
resolved_arguments scene (type ∷ types) [] = Undefined
resolved_arguments scene [] (e ∷ es) = Undefined

-- the values of arguments come to this
abbrev pub ArgumentsAre : Result (Vec Held Global) Stop → Outcome (List Value) → Type 0
ArgumentsAre (Ok values) o = o ≡ Gives (map typed values.items)
ArgumentsAre (Err HaltsDividing) o = o ≡ Divides
ArgumentsAre (Err HaltsUndefined) o = o ≡ Undefined
ArgumentsAre (Err (Refused fault)) o = fault ≡ Memory

-- What is read and written.

-- What the code does is done from states to states, of the text and for the continuations of its points.
abbrev pub Operation : Type 1
Operation = Tree → (ℕ → List Continuation) → State → State → Type 0

-- The operation was made, and these events have happened: the input gave what they take, and the output took what they
-- write; and with just those bytes to read the operation leads to one of the states of `done`, at whose console just
-- these events have joined.
pub record Does (op done : Operation) (left taken left_now taken_now : Option (List ℕ)) : Type 0 where
  pub happened : List Event
  pub took : left ≡ prepend_told (taken_by happened) left_now
  pub wrote : taken_now ≡ append_told taken (written_by happened)
  pub made : (tree : Tree) (points : ℕ → List Continuation) (s now : State) → op tree points s now →
      s.input ≡ taken_by happened ++ told_bytes left_now →
      done tree points s now × (now.input ≡ told_bytes left_now) × (now.events ≡ s.events ++ happened)

-- a read failed: the operation is one that takes the next input byte
pub record CannotRead (op : Operation) (left taken left_now taken_now : Option (List ℕ)) : Type 0 where
  pub takes : (tree : Tree) (points : ℕ → List Continuation) (s now : State) (byte : ℕ) (rest : List ℕ) →
      op tree points s now → s.input ≡ byte ∷ rest → now.input ≡ rest
  pub same_left : left_now ≡ left
  pub same_taken : taken_now ≡ taken

-- a write failed: of what happens in the operation the input gave what is taken, and the output took a part of what is
-- written, and not all of it
pub record CannotWrite (op : Operation) (left taken left_now taken_now : Option (List ℕ)) : Type 0 where
  pub happened : List Event
  pub makes : (tree : Tree) (points : ℕ → List Continuation) (s now : State) (rest : List ℕ) → op tree points s now →
      s.input ≡ taken_by happened ++ rest → (now.input ≡ rest) × (now.events ≡ s.events ++ happened)
  pub took : left ≡ prepend_told (taken_by happened) left_now
  pub part : AppendsProperPrefix taken taken_now (written_by happened)

-- memory was wanting: nothing was read or written
pub record CannotGrow (left taken left_now taken_now : Option (List ℕ)) : Type 0 where
  pub same_left : left_now ≡ left
  pub same_taken : taken_now ≡ taken

-- the operation ends the run with the given end, and reads and writes nothing
pub record Halts (op : Operation) (end : End) (left taken left_now taken_now : Option (List ℕ)) : Type 0 where
  pub ends : (tree : Tree) (points : ℕ → List Continuation) (s now : State) → op tree points s now → IsEnded s now end
  pub same_left : left_now ≡ left
  pub same_taken : taken_now ≡ taken

abbrev pub Refuses : Refusal → Operation → Option (List ℕ) → Option (List ℕ) → Option (List ℕ) → Option (List ℕ)
    → Type 0
Refuses Input op left taken left_now taken_now = CannotRead op left taken left_now taken_now
Refuses Output op left taken left_now taken_now = CannotWrite op left taken left_now taken_now
Refuses Memory op left taken left_now taken_now = CannotGrow left taken left_now taken_now

-- what an operation comes to, in the given line, with what it leaves
abbrev pub ComesTo : {A : Type 0} → ℕ → Result A Stop → Operation → Operation → Option (List ℕ) → Option (List ℕ)
    → Option (List ℕ) → Option (List ℕ) → Type 0
ComesTo line (Ok _) op done left taken left_now taken_now = Does op done left taken left_now taken_now
ComesTo line (Err HaltsDividing) op done left taken left_now taken_now = Halts op divided left taken left_now taken_now
ComesTo line (Err HaltsUndefined) op done left taken left_now taken_now =
    Halts op (stuck line) left taken left_now taken_now
ComesTo line (Err (Refused fault)) op done left taken left_now taken_now =
    Refuses fault op left taken left_now taken_now

-- the counts of faults, where a refusal may be told
abbrev pub Counts : {A : Type 0} → Result A Stop → ℕ → ℕ → ℕ → ℕ → Type 0
Counts result reads reads_now writes writes_now =
    CountsFaults (IsErrOf result (Refused Input)) (IsErrOf result (Refused Output)) reads reads_now writes writes_now

-- nothing has changed but where a list stands in the interpreter's own memory
pub record IsSame (before now : Moment) : Type 0 where
  pub call : now.call ≡ before.call
  pub waiting : now.waiting.items ≡ before.waiting.items
  pub fill : now.fill ≡ before.fill
  pub memory : now.memory ≡ before.memory
  pub end : now.end ≡ before.end

-- where something is refused nothing of the moment has changed
abbrev pub StaysAt : Refusal → Moment → Moment → Type 0
StaysAt Input before now = now ≡ before
StaysAt Output before now = now ≡ before
StaysAt Memory before now = IsSame before now

abbrev pub StaysIfRefused : {A : Type 0} → Result A Stop → Moment → Moment → Type 0
StaysIfRefused (Err (Refused fault)) before now = StaysAt fault before now
StaysIfRefused (Err HaltsDividing) before now = Unit {0}
StaysIfRefused (Err HaltsUndefined) before now = Unit {0}
StaysIfRefused (Ok _) before now = Unit {0}

-- The operations.

-- the moment stands for the state now, and goes on as before
abbrev pub Kept : Moment → Operation
Kept m = λ tree points s now. IsRunning tree points m now × (now.rest ≡ s.rest)

-- the moment stands for the state now
abbrev pub Stood : Moment → Operation
Stood m = λ tree points s now. IsMoment tree points m now

-- the step of the text, from what a moment stands for
pub record Steps (program : Program) (m : Moment)
    (tree : Tree) (points : ℕ → List Continuation) (s now : State) : Type 0 where
  pub program_is : IsProgram tree points program
  pub state : IsGoing tree points m s
  pub running : s.end ≡ running
  pub is : now ≡ step_at tree s.rest s

-- the action of a procedure in a line
pub record Performs (program : Program) (procedure : Procedure) (line : ℕ) (action : Action) (m : Moment)
    (tree : Tree) (points : ℕ → List Continuation) (s now : State) : Type 0 where
  pub program_is : IsProgram tree points program
  pub state : IsRunning tree points m s
  pub running : s.end ≡ running
  pub procedure_is : IsProcedure tree s.frame.function (points m.call.procedure) procedure
  pub own : Continuation
  pub acts : Acts tree s.frame.function (points m.call.procedure) procedure.labels.items own line action
  pub is : now ≡ step_at tree own s

-- a call of a DOS function that takes a key
pub record CallsForKey (m : Moment) (echo : Bool) (target : Option Place) (line : ℕ)
    (tree : Tree) (points : ℕ → List Continuation) (s now : State) : Type 0 where
  pub state : IsRunning tree points m s
  pub lands : IsTargetIf (locals_declared s.frame.function) target
  pub is : now ≡ key_step echo s.input (option_map (target_named (locals_declared s.frame.function)) target) line s

-- a call of a DOS function
pub record CallsDos (m : Moment) (globals : List Bound) (dos : DosCall) (target : Option Place)
    (arguments : List Resolved) (line : ℕ)
    (tree : Tree) (points : ℕ → List Continuation) (s now : State) : Type 0 where
  pub globals_are : AreGlobals tree globals
  pub state : IsRunning tree points m s
  pub lands : IsTargetIf (locals_declared s.frame.function) target
  pub exprs : List Expr
  pub stand : StandAll (names_at tree s) exprs arguments
  pub is : now ≡ on (arguments_of (scope_of tree s) (dos_signature (dos_call dos)).params exprs) line s
      (λ vs. dos_step (dos_call dos) (option_map (target_named (locals_declared s.frame.function)) target) vs line s)

-- the arguments of a call of a DOS function come to the result, if the function takes one
abbrev pub IsArgument : List Bound → Moment → DosCall → List Resolved → Result Held NoValue → Type 0
IsArgument globals m dos arguments r =
    (tree : Tree) (points : ℕ → List Continuation) (s : State) (es : List Expr) → AreGlobals tree globals →
    IsRunning tree points m s → StandAll (names_at tree s) es arguments →
    arguments_of (scope_of tree s) (dos_signature (dos_call dos)).params es ≡ outcome_of single r

-- What a call of a DOS function comes to that takes an argument and gives nothing: the value of the argument, where
-- nothing wants a result; or else the end of the run.
abbrev pub IsSole : List Bound → Moment → DosCall → Option Place → List Resolved → Result Held NoValue → Type 0
IsSole globals m dos target arguments (Ok v) = IsArgument globals m dos arguments (Ok v) × (is_some target ≡ false)
IsSole globals m dos target arguments (Err why) =
    (line : ℕ) (tree : Tree) (points : ℕ → List Continuation) (s now : State) →
    CallsDos m globals dos target arguments line tree points s now → IsEnded s now (end_at line why)

-- the moment stands for a state that goes on, at a call of this program after which it goes on at the row's next point
pub record IsAtCall (program : Program) (row : CallRow) (m : Moment)
    (tree : Tree) (points : ℕ → List Continuation) (s : State) : Type 0 where
  pub program_is : IsProgram tree points program
  pub state : IsRunning tree points m s
  pub running : s.end ≡ running
  pub goes : Goes tree (points m.call.procedure) row.next s.rest

-- a call of a function of the text
pub record CallsFunction (m : Moment) (program : Program) (row : CallRow) (number : ℕ) (target : Option Place)
    (line : ℕ)
    (tree : Tree) (points : ℕ → List Continuation) (s now : State) : Type 0 where
  pub at : IsAtCall program row m tree points s
  pub lands : IsTargetIf (locals_declared s.frame.function) target
  pub exprs : List Expr
  pub stand : StandAll (names_at tree s) exprs row.arguments.items
  pub f : Function
  pub here : slice_get tree.functions number ≡ Some f
  pub is : now ≡ on (arguments_of (scope_of tree s) (param_types f) exprs) line s
      (λ vs. enter_step f row.depth (option_map (target_named (locals_declared s.frame.function)) target) vs s)

-- a call
pub record CallsAny (m : Moment) (program : Program) (row : CallRow) (line : ℕ)
    (tree : Tree) (points : ℕ → List Continuation) (s now : State) : Type 0 where
  pub at : IsAtCall program row m tree points s
  pub place : Option Expr
  pub word : Word
  pub exprs : List Expr
  pub place_stands : StandsIf (names_at tree s) place row.place
  pub callee : IsCallee tree word row.callee
  pub stand : StandAll (names_at tree s) exprs row.arguments.items
  pub is : now ≡ stmt_step tree (CallOf place word exprs row.depth) line s

-- the action is no call
abbrev pub IsNoCall : Action → Type 0
IsNoCall (Call row) = ⊥
IsNoCall action = Unit {0}
