-- The statements of a graph as statements of a text.
use Rattle.std.specs.Prelude.{ℕ, ◌==◌, false, ◌&&◌, if◌then◌else◌, List, [], ◌∷◌, map, Option, Some, None, option_map}
use Rattle.std.specs.Prelude.{option_to_list}
use Rattle.dcc_ir.specs.declared.syntax.Loc.{Loc}
use Rattle.dcc_ir.specs.Location.{location_width}
use Rattle.dcc_ir.specs.Tree as inner
use Rattle.dcc_c.specs.declared.syntax.CUn.TheVariants.{Deref}
use Rattle.dcc_c.specs.Dos.{Dos, Putc, Getche, Getch, Puts, Leave, dos_name}
use Rattle.dcc_c.specs.Tree.{Expr, Name, Unary, Cast, Stmt, Assign, Call}
use Rattle.dcc_text.specs.Spelling.{Spelling}
use Rattle.dcc_text.specs.Spelled.{Way, Low, Exact, pointer, text, text_division}

-- the variable of a location
abbrev pub place_of : Spelling → Loc → Expr
place_of s location = Name (s.name location)

-- what a location's variable is assigned: a pointer takes its own type alone
abbrev pub assigned : Spelling → Loc → Expr → Expr
assigned s location e = if (s.type location).pointer then Cast (s.type location) e else e

-- the way in which a location's variable takes values: by their low bits, unless it is a settled bit
abbrev pub wanted_way : Spelling → Loc → Way
wanted_way s location = if (location_width s.bits location == 1) && s.settled location then Exact else Low

abbrev pub setting : Spelling → Loc → inner.Expr → Stmt
setting s location e = Assign (place_of s location) (assigned s location (text s (wanted_way s location) false e))

-- the DOS call with a number
abbrev pub dos_with : ℕ → Dos
dos_with number =
    if number == 0x02 then Putc
    else if number == 0x4C then Leave
    else if number == 0x01 then Getche
    else if number == 0x08 then Getch
    else Puts

abbrev pub first_place : Spelling → List Loc → Option Expr
first_place s [] = None
first_place s (location ∷ results) = Some (place_of s location)

-- The text of a statement, where the given depth of calls is in force. A call of another graph has a depth of its own.
abbrev pub stmt_text : Spelling → ℕ → inner.Stmt → Stmt
stmt_text s depth (inner.Set location e) = setting s location e
stmt_text s depth (inner.Fetch location width address) = setting s location (inner.Load width address)
stmt_text s depth (inner.Store width address e) =
    Assign (Unary Deref (pointer s width address (text s Low false address))) (text s Low false e)
stmt_text s depth (inner.Div location e) = Assign (place_of s location) (assigned s location (text_division s e))
stmt_text s depth (inner.Call results entry arguments own) =
    Call (first_place s results) (s.function entry) (map (text s Low false) arguments) own
stmt_text s depth (inner.Dos number place argument) =
    Call (option_map (place_of s) place) (dos_name (dos_with number)) (map (text s Low false) (option_to_list argument))
    depth
