-- Where variables stand in memory. A call's parameters and `auto` variables stand around its base, which is its
-- caller's base less the depth of the call.
use Rattle.std.specs.Prelude.{ℕ, ◌+◌, ◌-◌, ◌*◌, ◌%◌, Bool, true, false, ◌||◌, if◌then◌else◌, List, [], ◌∷◌, Option}
use Rattle.std.specs.Prelude.{Some, None}
use Rattle.std.specs.List.{list_any}
use Rattle.dcc_c.specs.declared.syntax.CType.{CType}
use Rattle.dcc_c.specs.declared.syntax.CUn.TheVariants.{AddressOf}
use Rattle.dcc_c.specs.declared.syntax.Class.{Class}
use Rattle.dcc_c.specs.declared.syntax.Class.TheVariants.{Auto, Register}
use Rattle.dcc_c.specs.Token.{same_bytes}
use Rattle.dcc_c.specs.Types.{size_of}
use Rattle.dcc_c.specs.Tree.{Word, Expr, Name, Unary, Lines, Global, Variable, Function}
use Rattle.dcc_c.specs.Parts.{exprs_in}

-- how many elements a variable has
abbrev pub elements : Option ℕ → ℕ
elements None = 1
elements (Some len) = len

-- how many bytes a variable takes
abbrev pub bytes_of : CType → Option ℕ → ℕ
bytes_of type len = size_of type * elements len

-- the address after a global variable, where the next one stands
abbrev pub after_global : Global → ℕ
after_global g = g.at + bytes_of g.type g.len

-- the base of the first call, that of `start`: two bytes above the stack
abbrev pub first_base : ℕ → ℕ
first_base hi = (hi + 2) % 65536

-- the address a number of bytes below another
abbrev pub below : ℕ → ℕ → ℕ
below at bytes = (at + 65536 - bytes % 65536) % 65536

abbrev pub is_auto : Class → Bool
is_auto Auto = true
is_auto _ = false

abbrev pub is_register : Class → Bool
is_register Register = true
is_register _ = false

abbrev pub is_address_of : Word → Expr → Bool
is_address_of word (Unary AddressOf (Name other)) = same_bytes word other
is_address_of word _ = false

-- the body takes the address of the name
abbrev pub takes_address : Lines → Word → Bool
takes_address body word = list_any (is_address_of word) (exprs_in body)

-- the parameter has to be in memory by itself
abbrev pub wants_place : Lines → Variable → Bool
wants_place body v = is_auto v.class || takes_address body v.name

-- The addresses of parameters, from stack argument `number` on: argument j stands at base + 2 * j, and is placed where
-- it or an earlier one has to be in memory. A `register` parameter is no stack argument.
abbrev pub param_places : Lines → ℕ → ℕ → Bool → List Variable → List (Option ℕ)
param_places body base number placed [] = []
param_places body base number placed (v ∷ params) =
    if is_register v.class then None ∷ param_places body base number placed params
    else if placed || wants_place body v then
    Some ((base + 2 * number) % 65536) ∷ param_places body base (number + 1) true params
    else None ∷ param_places body base (number + 1) false params

-- The addresses of local variables: `auto` ones go downwards, each its size below the one before, which is `used`
-- bytes below the base.
abbrev pub local_places : ℕ → ℕ → List Variable → List (Option ℕ)
local_places base used [] = []
local_places base used (v ∷ locals) =
    if is_auto v.class then (
    let down = used + bytes_of v.type v.len in Some (below base down) ∷ local_places base down locals
    ) else None ∷ local_places base used locals

-- the addresses of a function's parameters and local variables, in a call with this base
abbrev pub params_of_call : Function → ℕ → List (Option ℕ)
params_of_call f base = param_places f.body base 0 false f.params

abbrev pub locals_of_call : Function → ℕ → List (Option ℕ)
locals_of_call f base = local_places base 4 f.locals
