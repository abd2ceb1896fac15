-- What resolved expressions come to, and the expressions of a text that they stand for.
use Rattle.std.specs.Prelude.{◌≡◌, ℕ, true, false, if◌then◌else◌, List, [], ◌++◌, map, Option, Some, None, option_map}
use Rattle.std.specs.Prelude.{slice_get}
use Rattle.std.specs.List.{list_all}
use denote.Ref.{Bor}
use Rattle.dcc_c.specs.declared.syntax.CType.{CType}
use Rattle.dcc_c.specs.Types.{plain, size_of}
use Rattle.dcc_c.specs.Memory.{store}
use Rattle.dcc_c.specs.Tree.{Word, Expr}
use Rattle.dcc_c.specs.Typing.{Declared}
use Rattle.dcc_c.specs.Value.{Value, is_zero, converted, Outcome, Gives, Divides, Undefined, and_then, given, Storage}
use Rattle.dcc_c.specs.Value.{Unplaced, PlacedAt, Binding, declared_by, after_assignment, variable_value, address_value}
use Rattle.dcc_c.specs.Value.{pointed_value, unary_value, both_values, truth_value, chosen, Scope, value_of, Target}
use Rattle.dcc_c.specs.Value.{ToVariable, ToMemory, target_of}
use Rattle.dcc_value.specs.declared.variable.Binding.{Binding as Bound}
use Rattle.dcc_value.specs.declared.variable.Contents.{Contents as Seen}
use Rattle.dcc_value.specs.declared.variable.Names.{Names as Given}
use Rattle.dcc_value.specs.declared.variable.Declared.{Declared as Named}
use Rattle.dcc_value.specs.declared.expression.Slot.{Slot}
use Rattle.dcc_value.specs.declared.expression.Slot.TheVariants.{Local as InFrame, Global as InGlobals}
use Rattle.dcc_value.specs.declared.expression.Target.{Target as Place}
use Rattle.dcc_value.specs.declared.expression.Target.TheVariants.{Local as ToLocal, Memory as Into}
use Rattle.dcc_value.specs.declared.expression.Resolved.{Resolved, Constant, Variable, AddressOf, Load', Unary'}
use Rattle.dcc_value.specs.declared.expression.Resolved.{Either', Both', Binary', Choose', Cast', Meaningless}
use Rattle.dcc_value.specs.Evaluation.{typed, unnamed, bindings_named, declared_of}
use Rattle.dcc_value.specs.Places.{first_place}

-- what resolved expressions are evaluated over
pub record Contents : Type 0 where
  pub frame : List Bound
  pub globals : List Bound
  pub memory : List ℕ

abbrev pub contents_of : Seen → Contents
contents_of s = record { frame = s.frame.now; globals = s.globals.now; memory = s.memory.now }

-- the variable at a place; its name says nothing of its value
abbrev pub slot_in : Contents → Slot → Option Binding
slot_in scene (InFrame i) = option_map (unnamed) (slice_get scene.frame i)
slot_in scene (InGlobals i) = option_map (unnamed) (slice_get scene.globals i)

-- the value of a resolved expression
abbrev pub evaluated : Contents → Resolved → Outcome Value
evaluated scene (Constant v) = Gives (typed v)
evaluated scene (Variable slot) = and_then (variable_value scene.memory) (given (slot_in scene slot))
evaluated scene (AddressOf slot) = and_then address_value (given (slot_in scene slot))
evaluated scene (Load' _ a) = and_then (pointed_value scene.memory) (evaluated scene a)
evaluated scene (Unary' operator _ a) = and_then (unary_value operator) (evaluated scene a)
evaluated scene (Either' _ a _ b) =
    let second = and_then truth_value (evaluated scene b) in
    and_then (λ v. if is_zero v then second else Gives v) (and_then truth_value (evaluated scene a))
evaluated scene (Both' _ a _ b) =
    let second = and_then truth_value (evaluated scene b) in
    and_then (λ v. if is_zero v then Gives v else second) (and_then truth_value (evaluated scene a))
evaluated scene (Binary' operator _ a _ b) =
    and_then (λ v. and_then (both_values operator v) (evaluated scene b)) (evaluated scene a)
evaluated scene (Choose' type _ a _ b _ c) =
    and_then (chosen type (evaluated scene b) (evaluated scene c)) (evaluated scene a)
evaluated scene (Cast' type _ a) = and_then (λ v. Gives (converted type v)) (evaluated scene a)
evaluated scene Meaningless = Undefined

-- where an assignment to a variable goes
abbrev pub kept_target : Slot → CType → Storage → Outcome Place
kept_target slot type (PlacedAt at) = Gives (Into type at)
kept_target (InFrame i) type (Unplaced bits) = Gives (ToLocal i)
kept_target (InGlobals i) type (Unplaced bits) = Undefined

abbrev pub slot_target : Slot → Binding → Outcome Place
slot_target slot b = if b.is_array then Undefined else kept_target slot b.type b.storage

-- where an assignment by a pointer goes
abbrev pub address_target : Value → Outcome Place
address_target v = if v.type.pointer then Gives (Into (plain v.type.base) v.bits) else Undefined

-- where an assignment to a resolved expression goes
abbrev pub targeted : Contents → Resolved → Outcome Place
targeted scene (Variable slot) = and_then (slot_target slot) (given (slot_in scene slot))
targeted scene (Load' _ a) = and_then address_target (evaluated scene a)
targeted scene _ = Undefined

-- Names.

-- the names of the variables of a call, and of the global ones
pub record Names : Type 0 where
  pub locals : List Declared
  pub globals : List Declared

abbrev pub names_of : Given → Names
names_of n = record {
  locals = map declared_of n.locals.now.list.now;
  globals = map declared_of n.globals.now.list.now;
}

-- the variables are declared as the names are, and the global ones are in memory
pub record Fits (names : Names) (scene : Contents) : Type 0 where
  pub locals : map declared_by (bindings_named names.locals scene.frame) ≡ names.locals
  pub globals : map declared_by (bindings_named names.globals scene.globals) ≡ names.globals
  pub placed : list_all (λ (d : Declared). d.is_placed) names.globals ≡ true

-- the named variables and the memory
abbrev pub scope_over : Names → Contents → Scope
scope_over names scene = record {
  variables = bindings_named names.locals scene.frame ++ bindings_named names.globals scene.globals;
  memory = scene.memory;
}

-- the place of the first declaration with the name
abbrev pub index_named : List Declared → Word → Option ℕ
index_named names word = first_place (map (λ (d : Declared). d.name) names) word

-- the place of the variable with the name
abbrev pub slot_named : Names → Word → Option Slot
slot_named names word = elim (index_named names.locals word) [
  | Some i ↦ Some (InFrame i)
  | None ↦ option_map InGlobals (index_named names.globals word)
]

abbrev pub all_names : Names → List Declared
all_names names = names.locals ++ names.globals

abbrev pub lent_declared : Bor Named → Declared
lent_declared d = declared_of d.now

abbrev pub name_at : List Declared → ℕ → Word
name_at names i = elim (slice_get names i) [ Some d ↦ d.name | None ↦ [] ]

-- the target of a text that a resolved place is, over the names
abbrev pub target_named : List Declared → Place → Target
target_named names (ToLocal i) = ToVariable (name_at names i)
target_named names (Into type at) = ToMemory type at

-- the name is declared as kept by itself
abbrev pub IsAlone : Option Declared → Type 0
IsAlone (Some d) = d.is_placed ≡ false
IsAlone None = ⊥

-- the place is that of the first variable with its name, which is kept by itself
abbrev pub IsTargetIn : List Declared → Place → Type 0
IsTargetIn names (ToLocal i) = (index_named names (name_at names i) ≡ Some i) × IsAlone (slice_get names i)
IsTargetIn names (Into type at) = Unit {0}

abbrev pub LandsIn : List Declared → Outcome Place → Type 0
LandsIn names (Gives target) = IsTargetIn names target
LandsIn names Divides = Unit {0}
LandsIn names Undefined = Unit {0}

-- The resolved expression stands for the expression over the names: wherever the variables are declared as the names
-- are, both have the same value and the same target.
pub record Stands (names : Names) (e : Expr) (r : Resolved) : Type 0 where
  pub value : (scene : Contents) → Fits names scene → evaluated scene r ≡ value_of (scope_over names scene) e
  pub target : (scene : Contents) → Fits names scene →
      and_then (λ target. Gives (target_named names.locals target)) (targeted scene r)
      ≡ target_of (scope_over names scene) e
  pub lands : (scene : Contents) → Fits names scene → LandsIn names.locals (targeted scene r)

-- the variables of a call after the target has taken the value
abbrev pub variables_after : Target → Value → List Binding → List Binding
variables_after (ToVariable word) v variables = after_assignment variables word v
variables_after (ToMemory type at) v variables = variables

-- the memory after the target has taken the value
abbrev pub memory_after : Target → Value → List ℕ → List ℕ
memory_after (ToVariable word) v memory = memory
memory_after (ToMemory type at) v memory = store (size_of type) memory at (converted type v).bits
