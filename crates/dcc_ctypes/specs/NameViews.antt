-- The declarations of names that the declared type stands for.
use Rattle.std.specs.Prelude.{[]}
use Rattle.dcc_c.specs.Typing as typing
use Rattle.dcc_ctypes.specs.declared.names.Declared.{Declared}

-- a declaration without its name
abbrev pub unnamed : typing.Declared → Declared
unnamed d = record { ty = d.type; is_array = d.is_array; is_placed = d.is_placed }

-- a declaration of no name
abbrev pub nameless : Declared → typing.Declared
nameless d = record { name = []; type = d.ty; is_array = d.is_array; is_placed = d.is_placed }
