-- The values, variables and outcomes that those of the interpreter stand for.
use Rattle.std.specs.Prelude.{ℕ, Bool, true, false, List, [], ◌∷◌, map, string_bytes, Result, Ok, Err}
use Rattle.dcc_value.specs.declared.value.Value.{Value as Held}
use Rattle.dcc_value.specs.declared.value.NoValue.{NoValue}
use Rattle.dcc_value.specs.declared.value.NoValue.TheVariants.{Divides as Faults, Undefined as Meaningless}
use Rattle.dcc_value.specs.declared.variable.Binding.{Binding as Bound}
use Rattle.dcc_value.specs.declared.variable.Declared.{Declared as Named}
use Rattle.dcc_c.specs.Tree.{Word}
use Rattle.dcc_c.specs.Typing.{Declared}
use Rattle.dcc_c.specs.Value.{Value, value, Outcome, Gives, Divides, Undefined, Storage, Unplaced, PlacedAt, Binding}

-- a number or an address with its type
abbrev pub typed : Held → Value
typed v = value v.ty v.bits

-- an evaluation that gives nothing
abbrev pub nothing_of : {A : Type 0} → NoValue → Outcome A
nothing_of Faults = Divides
nothing_of Meaningless = Undefined

-- what an evaluation comes to, by how its result reads
abbrev pub outcome_of : {A B : Type 0} → (A → B) → Result A NoValue → Outcome B
outcome_of reads (Ok a) = Gives (reads a)
outcome_of reads (Err why) = nothing_of why

-- an answer that is read as it is
abbrev pub itself : {A : Type 0} → A → A
itself a = a

-- how a variable is kept
abbrev pub storage_of : Bool → ℕ → Storage
storage_of true at = PlacedAt at
storage_of false bits = Unplaced bits

-- a variable of this name
abbrev pub binding_named : Word → Bound → Binding
binding_named word b = record {
  name = word;
  type = b.ty;
  is_array = b.is_array;
  storage =
      storage_of b.is_placed b.bits;
}

-- a variable without its name, which says nothing of its value
abbrev pub unnamed : Bound → Binding
unnamed b = binding_named [] b

-- variables of these names
abbrev pub bindings_named : List Declared → List Bound → List Binding
bindings_named (d ∷ names) (b ∷ bs) = binding_named d.name b ∷ bindings_named names bs
bindings_named _ _ = []

-- what a name is declared as
abbrev pub declared_of : Named → Declared
declared_of d = record { name = string_bytes d.name; type = d.ty; is_array = d.is_array; is_placed = d.is_placed }

-- the names of declarations
abbrev pub names_declared : List Named → List Word
names_declared ds = map (λ d. string_bytes d.name) ds
