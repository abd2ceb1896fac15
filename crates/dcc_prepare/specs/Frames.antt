-- The variables and the memory of a call that begins.
use Rattle.std.specs.Prelude.{ℕ, List, [], ◌∷◌, map, Some, None, is_some}
use Rattle.dcc_c.specs.declared.syntax.Base.TheVariants.{Int}
use Rattle.dcc_c.specs.Types.{size_of}
use Rattle.dcc_c.specs.Memory.{store}
use Rattle.dcc_c.specs.Value.{number, converted}
use Rattle.dcc_value.specs.declared.value.Value.{Value as Held}
use Rattle.dcc_value.specs.declared.variable.Binding.{Binding as Bound}
use Rattle.dcc_prepare.specs.declared.program.Variable.{Variable}
use Rattle.dcc_prepare.specs.Programs.{place_in}

-- the variable with these bits, in a call with the base
abbrev pub holding : ℕ → ℕ → Variable → Bound
holding base bits v = record {
  ty = v.ty;
  is_array = v.is_array;
  is_placed = is_some (place_in base v);
  bits = elim (place_in base v) [ Some at ↦ at | None ↦ bits ];
}

-- parameters with the bits of their arguments
abbrev pub params_holding : ℕ → List Variable → List Held → List Bound
params_holding base (v ∷ params) (argument ∷ arguments) =
    holding base argument.bits v ∷ params_holding base params arguments
params_holding base _ _ = []

-- local variables, which hold the fill
abbrev pub locals_holding : ℕ → ℕ → List Variable → List Bound
locals_holding base fill locals = map (λ v. holding base (converted v.ty (number Int fill)).bits v) locals

-- the memory after an argument is written, where its parameter is in memory
abbrev pub with_argument : ℕ → Variable → Held → List ℕ → List ℕ
with_argument base v argument memory = elim (place_in base v) [
  | Some at ↦ store (size_of argument.ty) memory at argument.bits
  | None ↦ memory
]

abbrev pub arguments_put : ℕ → List Variable → List Held → List ℕ → List ℕ
arguments_put base (v ∷ params) (argument ∷ arguments) memory =
    arguments_put base params arguments (with_argument base v argument memory)
arguments_put base _ _ memory = memory
