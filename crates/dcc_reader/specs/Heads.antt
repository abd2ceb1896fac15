-- The function whose head some pieces begin with.
use Rattle.std.specs.Prelude.{◌≡◌, List, [], ◌∷◌, Option, Some, None}
use Rattle.dcc_c.specs.Known.{Known, known_of}
use Rattle.dcc_reader.specs.declared.partial.PartialFunction.{PartialFunction}
use Rattle.dcc_reader.specs.PartialViews.{function_of}

-- a function's head was not found, or the whole text knows the function
abbrev pub IsHead : Option PartialFunction → List Known → Type 0
IsHead None heads = heads ≡ []
IsHead (Some f) heads = (k : Known) × (heads ≡ k ∷ []) × (known_of (function_of f) ≡ heads)
