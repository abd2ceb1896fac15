-- Laws of made files, for every seed and size.
use Rattle.std.specs.Prelude.{◌≡◌, ℕ, List}
use Rattle.dcc_gen.specs.File.{IsMade}

-- a seed and a size have one file
abbrev pub HaveOneFile : Type 0
HaveOneFile = (seed size : ℕ) (file other : List ℕ) → IsMade seed size file → IsMade seed size other → file ≡ other
