-- What the declared types that a text is read with stand for.
use Rattle.std.specs.Prelude.{ℕ, codes, Bool, ◌&&◌, not, if◌then◌else◌, List, ◌++◌, map, Option, None}
use Rattle.dcc_c.specs.Partial.{PartialVariable}
use Rattle.dcc_c.specs.Reading.{Reader, Got, got, line_of, skip, sees_mark}
use Rattle.dcc_c.specs.ReadingStatements.{take_number_of_line}
use Rattle.dcc_c.specs.ReadingText as texts
use Rattle.dcc_reader.specs.PartialViews.{variable_of, function_of}
use Rattle.dcc_read.specs.declared.text.Declared.{Declared}

abbrev pub declared_of : Declared → texts.Declared
declared_of d = record { globals = map variable_of d.globals.items; functions = map function_of d.functions.items }

-- the address of a place line, which stands here
abbrev pub place_line : Reader → Got ℕ
place_line r = let n = take_number_of_line (line_of r.left) (skip r) in got (texts.address_of n.value) n.following

-- what has begun is a global variable, where one may stand
abbrev pub is_global : Got texts.Begun → Bool
is_global begun = begun.value.has_result && not (sees_mark (codes "(") begun.following)

-- the address of a global variable that has begun; none of a function
abbrev pub global_address : Option ℕ → Got texts.Begun → Option ℕ
global_address address begun = if is_global begun then address else None

-- global variables before what is declared after them
abbrev pub before_globals : List PartialVariable → Got texts.Declared → Got texts.Declared
before_globals globals others =
    got (record { globals = globals ++ others.value.globals; functions = others.value.functions }) others.following
