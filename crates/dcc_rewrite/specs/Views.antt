-- What the declared names stand for.
use Rattle.std.specs.Prelude.{◌≡◌, ℕ, List, Option, Some, None, option_map}
use Rattle.dcc_c.specs.declared.syntax.CUn.TheVariants.{AddressOf}
use Rattle.dcc_c.specs.Tree.{Word, Expr, Unary}
use Rattle.dcc_c.specs.Typing as typing
use Rattle.dcc_ctypes.specs.declared.names.Declared.{Declared}
use Rattle.dcc_ctypes.specs.NameViews.{unnamed}
use Rattle.dcc_check.specs.Contexts.{held}
use Rattle.dcc_rewrite.specs.declared.names.Names.{Names}

-- the variable with the name: one of the function's own, or else a global one
abbrev pub variable_in : Names → Word → Option Declared
variable_in names word = elim (held names.own.now word) [
  | Some d ↦ Some d
  | None ↦ held names.globals.now word
]

-- what is known of the names is what they are declared as
abbrev pub IsKnown : Names → List typing.Declared → Type 0
IsKnown names declared = (word : Word) → variable_in names word ≡ option_map unnamed (typing.declared_as declared word)

-- the address of the expression
abbrev pub address_of : Expr → Expr
address_of e = Unary AddressOf e
