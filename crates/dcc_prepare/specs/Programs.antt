-- What a program, a text that is made ready to run, stands for.
use Rattle.std.specs.Prelude.{◌≡◌, ℕ, ◌+◌, ◌%◌, Bool, false, List, map, Option, Some, is_some, slice_get}
use Rattle.std.specs.Option.{option_map}
use Rattle.dcc_c.specs.declared.syntax.CType.{CType}
use Rattle.dcc_c.specs.Tree.{Word, Variable as DeclaredVariable, Function, Tree}
use Rattle.dcc_c.specs.Rules.{declared_global}
use Rattle.dcc_c.specs.Placement.{params_of_call, locals_of_call}
use Rattle.dcc_c.specs.Run.{Continuation, runs, ends_function, global_binding, is_start, after_goto}
use Rattle.dcc_prepare.specs.declared.program.Variable.{Variable}
use Rattle.dcc_prepare.specs.declared.program.Procedure.{Procedure}
use Rattle.dcc_prepare.specs.declared.program.Program.{Program}
use Rattle.dcc_value.specs.Evaluation.{bindings_named}
use Rattle.dcc_prepare.specs.Points.{Goes, MayGo, point_named, AreRows}

-- The program.

-- the address of a parameter or a local variable in a call with the base
abbrev pub place_in : ℕ → Variable → Option ℕ
place_in base v = option_map (λ offset. (base + offset) % 65536) v.offset

-- a type, and whether it is that of an array's elements
pub record Kind : Type 0 where
  pub type : CType
  pub is_array : Bool

abbrev pub kind_of : Variable → Kind
kind_of v = record { type = v.ty; is_array = v.is_array }

abbrev pub declared_kind : DeclaredVariable → Kind
declared_kind v = record { type = v.type; is_array = is_some v.len }

-- the variables have the types that they are declared with, and stand at these places
pub record AreVariables (declared : List DeclaredVariable) (places_of : ℕ → List (Option ℕ))
    (variables : List Variable) : Type 0 where
  pub kinds : map kind_of variables ≡ map declared_kind declared
  pub places : (base : ℕ) → map (place_in base) variables ≡ places_of base

-- no point is open
abbrev pub none_open : ℕ → Bool
none_open at = false

-- the procedure is the function, whose points have these continuations
pub record IsProcedure (tree : Tree) (f : Function) (points : List Continuation) (procedure : Procedure) : Type 0 where
  pub is_start : procedure.is_start ≡ is_start f
  pub result : procedure.result ≡ f.result
  pub params : AreVariables f.params (params_of_call f) procedure.params.items
  pub locals : AreVariables f.locals (locals_of_call f) procedure.locals.items
  pub rows : AreRows tree f none_open points procedure.rows.items procedure.labels.items
  pub labels : (word : Word) → MayGo tree points (point_named procedure.labels.items word) (after_goto f word)
  pub entry : Goes tree points procedure.entry (runs f.body (ends_function f.last))

-- the function of this number has its procedure
pub record HasProcedure (tree : Tree) (f : Function) (points : List Continuation) (program : Program)
    (number : ℕ) : Type 0 where
  pub procedure : Procedure
  pub here : slice_get program.procedures.items number ≡ Some procedure
  pub is : IsProcedure tree f points procedure

-- the program is the text, the points of whose functions, by their numbers, have these continuations
pub record IsProgram (tree : Tree) (points : ℕ → List Continuation) (program : Program) : Type 0 where
  pub globals : bindings_named (map declared_global tree.globals) program.globals.items
      ≡ map global_binding tree.globals
  pub procedures : (number : ℕ) (f : Function) → slice_get tree.functions number ≡ Some f →
      HasProcedure tree f (points number) program number
