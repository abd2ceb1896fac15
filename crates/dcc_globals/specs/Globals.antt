-- The global variables of a text: a scalar for each run that is always accessed as a whole, and arrays of bytes for the
-- other runs and for the parts of gaps.
use Rattle.std.specs.Prelude.{ℕ, ◌+◌, ◌*◌, ◌==◌, nat_le, Bool, ◌&&◌, not, if◌then◌else◌, List, [], ◌∷◌, take, drop}
use Rattle.std.specs.Prelude.{map, filter, codes, Some, None}
use Rattle.std.specs.List.{list_any, range_with_len}
use Rattle.dcc_c.specs.declared.syntax.Base.TheVariants.{Uchar, Uint}
use Rattle.dcc_c.specs.Types.{plain}
use Rattle.dcc_c.specs.Tree.{Global}
use Rattle.dcc_text.specs.Hex.{name_at}
use Rattle.dcc_globals.specs.Pieces.{Data, pieces, spoils}
use Rattle.dcc_globals.specs.Gaps.{is_in_run, begins, extent}

-- how many bytes there are up to the last that isn't 0
abbrev pub significant : List ℕ → ℕ
significant [] = 0
significant (byte ∷ bytes) =
    if (significant bytes == 0) && (byte == 0) then 0 else significant bytes + 1

-- the number of bytes of which the lowest stands first
abbrev pub number_of : List ℕ → ℕ
number_of [] = 0
number_of (byte ∷ bytes) = byte + 256 * number_of bytes

-- a run of one or two bytes none of whose pieces is broken or shorter
unfoldable pub is_scalar : Data → ℕ → ℕ → Bool
is_scalar d at size = is_in_run d at && (nat_le size 2 && not (list_any (spoils at size) (pieces d)))

-- the initial value of a scalar with these bytes, where it isn't 0
abbrev pub scalar_values : List ℕ → List ℕ
scalar_values bytes = if number_of bytes == 0 then [] else number_of bytes ∷ []

-- a scalar of one or two bytes, with the bytes that it holds at first, of which those that are missing are 0
abbrev pub scalar : ℕ → ℕ → List ℕ → Global
scalar at size bytes = record {
  name = name_at (codes "g_") at;
  at = at;
  type = plain (if size == 1 then Uchar else Uint);
  len = None;
  init = scalar_values bytes;
}

-- an array of bytes, with those that it holds at first up to the last that isn't 0
abbrev pub array : ℕ → ℕ → List ℕ → Global
array at size bytes = record {
  name = name_at (codes "d_") at;
  at = at;
  type = plain Uchar;
  len = Some size;
  init = take (significant bytes) bytes;
}

-- the bytes of the image from an offset on, which are fewer where the image ends
abbrev pub bytes_at : Data → ℕ → ℕ → List ℕ
bytes_at d at size = take size (drop at d.bytes)

-- the global variable of so many bytes at an offset
unfoldable pub global_of_size : Data → ℕ → ℕ → Global
global_of_size d at size =
    if is_scalar d at size then scalar at size (bytes_at d at size) else array at size (bytes_at d at size)

-- the global variable that begins at an offset
abbrev pub global_at : Data → ℕ → Global
global_at d at = global_of_size d at (extent d at)

-- the global variables in the order of their offsets
unfoldable pub globals_of : Data → List Global
globals_of d = map (global_at d) (filter (begins d) (range_with_len 0 65536))
