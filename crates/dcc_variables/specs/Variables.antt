-- The variables of a graph's text: one for each location that the graph reads or writes, and an array for the local
-- bytes of its frame that are in memory.
use Rattle.std.specs.Prelude.{ℕ, suc, ◌+◌, ◌*◌, ◌%◌, ◌==◌, nat_le, nat_lt, max, Bool, true, false, not, ◌&&◌, ◌||◌}
use Rattle.std.specs.Prelude.{if◌then◌else◌, List, [], ◌∷◌, ◌++◌, filter, flat_map, length, map, codes, Option, Some}
use Rattle.std.specs.Prelude.{None}
use Rattle.std.specs.List.{list_any, range_with_len}
use Rattle.std.specs.Fmt.{decimal}
use Rattle.dcc_num.specs.declared.Reg.{Reg}
use Rattle.dcc_num.specs.declared.Reg.TheVariants.{Ax, Cx, Dx, Bx, Sp, Bp, Si, Di}
use Rattle.dcc_num.specs.declared.Half.TheVariants.{Low, High}
use Rattle.dcc_num.specs.declared.FlagName.TheVariants.{Cf, Zf, Sf, Of}
use Rattle.dcc_ir.specs.declared.syntax.Loc.{Loc}
use Rattle.dcc_ir.specs.declared.syntax.Loc.TheVariants.{Half, Flag, Cell, Temp}
use Rattle.dcc_ir.specs.Location.{half_number, flag_number, location_width}
use Rattle.dcc_ir.specs.Tree.{Expr, Address, Stmt, Block, Graph}
use Rattle.dcc_ir.specs.Live.{is_among}
use Rattle.dcc_ir.specs.Use.{parts_of, exprs_of, exit_exprs}
use Rattle.dcc_flow.specs.Mentions.{graph_mentions}
use Rattle.dcc_c.specs.declared.syntax.Base.TheVariants.{Uchar}
use Rattle.dcc_c.specs.declared.syntax.Class.TheVariants.{Plain, Auto}
use Rattle.dcc_c.specs.Types.{plain}
use Rattle.dcc_c.specs.Tree.{Word, Variable}
use Rattle.dcc_text.specs.Spelling.{Placed, Spelling}
use Rattle.dcc_text.specs.Spelled.{unsigned_type}

-- Which locations have variables.

-- how many cells there are up to a location; `cells_among`: up to the last cell of a list of locations
abbrev pub cells_to : Loc → ℕ
cells_to (Cell n half) = suc n
cells_to location = 0

abbrev pub cells_among : List Loc → ℕ
cells_among [] = 0
cells_among (location ∷ others) = max (cells_to location) (cells_among others)

-- the halves of word registers, and the flags
unfoldable pub named_locations : List Loc
named_locations =
    Half Ax Low ∷ Half Ax High ∷ Half Cx Low ∷ Half Cx High ∷ Half Dx Low ∷ Half Dx High
    ∷ Half Bx Low ∷ Half Bx High ∷ Half Si Low ∷ Half Si High ∷ Half Di Low ∷ Half Di High
    ∷ Flag Cf ∷ Flag Zf ∷ Flag Sf ∷ Flag Of ∷ []

-- the halves of SP and BP, of which no lifted program has one
unfoldable pub stack_locations : List Loc
stack_locations = Half Sp Low ∷ Half Sp High ∷ Half Bp Low ∷ Half Bp High ∷ []

abbrev pub cell_halves : ℕ → List Loc
cell_halves n = Cell n Low ∷ Cell n High ∷ []

-- the locations that may have variables, in the variables' order: those with names, so many temporaries, the halves of
-- so many cells, and SP and BP
abbrev pub all_locations : ℕ → ℕ → List Loc
all_locations temporaries cells =
    named_locations
    ++ (map Temp (range_with_len 0 temporaries)
    ++ (flat_map cell_halves (range_with_len 0 cells) ++ stack_locations))

-- the locations that have variables: the graph reads or writes them
abbrev pub locations : Graph → List Loc
locations graph =
    let mentions = graph_mentions graph in
    filter (is_among mentions) (all_locations (length graph.bits) (cells_among mentions))

-- The bytes of the frame.

-- An address of the arguments, which lie above the frame's base, is told from the parameter at a place, if it lies no
-- deeper than that parameter: parameters of the stack are words.
abbrev pub is_told_from : Option ℕ → ℕ → Bool
is_told_from None distance = false
is_told_from (Some place) distance = nat_le (2 * place) distance && nat_lt distance 32768

-- the expression is an address that is told from no parameter, where there may be a parameter from which some are
abbrev pub is_address : Option ℕ → Expr → Bool
is_address told (Address distance) = not (is_told_from told distance)
is_address told _ = false

-- an address that is told from no parameter is taken in the expression; `stmt_has_address`, `block_has_address`,
-- `takes_address`: in a statement, in a block, in the graph
abbrev pub has_address : Option ℕ → Expr → Bool
has_address told e = list_any (is_address told) (parts_of e)

abbrev pub stmt_has_address : Option ℕ → Stmt → Bool
stmt_has_address told stmt = list_any (has_address told) (exprs_of stmt)

abbrev pub block_has_address : Option ℕ → Block → Bool
block_has_address told block =
    list_any (stmt_has_address told) block.stmts || list_any (has_address told) (exit_exprs block.exit)

abbrev pub takes_address : Option ℕ → Graph → Bool
takes_address told graph = list_any (block_has_address told) graph.blocks

-- how many bytes the array of the frame has: its local bytes in memory, and where there are none, one for the addresses
-- that are told from no parameter, if there are such
abbrev pub frame_bytes : Option ℕ → Graph → ℕ
frame_bytes told graph = if graph.local == 0 then (if takes_address told graph then 1 else 0) else graph.local

-- Names.

-- What names depend on: the widths of the temporaries, the locations that have variables, how many cells there are up
-- to the last that has one, and how many bytes the array of the frame has.
pub record Shape : Type 0 where
  pub bits : List ℕ
  pub locations : List Loc
  pub cells : ℕ
  pub frame : ℕ

abbrev pub shape_of : Graph → Shape
shape_of graph = record {
  bits = graph.bits;
  locations = locations graph;
  cells = cells_among (graph_mentions graph);
  frame = frame_bytes None graph;
}

-- the numbers of variables begin here for cells, and for SP and BP
abbrev pub first_cell : Shape → ℕ
first_cell shape = 18 + length shape.bits

abbrev pub first_stack : Shape → ℕ
first_stack shape = first_cell shape + 2 * shape.cells

-- the number of the variable of a register's lower half
abbrev pub register_first : Shape → Reg → ℕ
register_first shape Ax = 1
register_first shape Cx = 3
register_first shape Dx = 5
register_first shape Bx = 7
register_first shape Si = 9
register_first shape Di = 11
register_first shape Sp = first_stack shape
register_first shape Bp = first_stack shape + 2

-- the number of a location's variable; 17 is that of the frame's bytes
abbrev pub variable_number : Shape → Loc → ℕ
variable_number shape (Half r half) = register_first shape r + half_number half
variable_number shape (Flag f) = 13 + flag_number f
variable_number shape (Temp n) = 18 + n
variable_number shape (Cell n half) = first_cell shape + (2 * n + half_number half)

abbrev pub numbered_name : ℕ → Word
numbered_name n = codes "v" ++ decimal n

abbrev pub variable_name : Shape → Loc → Word
variable_name shape location = numbered_name (variable_number shape location)

abbrev pub frame_name : Word
frame_name = numbered_name 17

-- Declarations.

-- the variable of a location
abbrev pub variable : Shape → Loc → Variable
variable shape location = record {
  name = variable_name shape location;
  type = plain (unsigned_type (location_width shape.bits location));
  len = None;
  class = Plain;
}

-- the array of the frame's bytes in memory, where there are any
abbrev pub frame_array : ℕ → List Variable
frame_array bytes =
    if bytes == 0 then []
    else record { name = frame_name; type = plain Uchar; len = Some bytes; class = Auto } ∷ []

abbrev pub declarations : Shape → List Variable
declarations shape = map (variable shape) shape.locations ++ frame_array shape.frame

-- The spelling.

-- An address is told by how far it lies above the array, which ends 4 bytes below the frame's base.
abbrev pub frame_place : ℕ → ℕ → Placed
frame_place bytes distance =
    record { name = frame_name; is_array = true; above = (distance + (4 + bytes)) % 65536 }

abbrev pub placed_at : ℕ → ℕ → Option Placed
placed_at bytes distance = if bytes == 0 then None else Some (frame_place bytes distance)

-- The spelling of a graph as the one function of a text: each variable holds the low bits of its location, in an
-- unsigned type, and the function of every entry is `start`.
abbrev pub spelling_of : Shape → Spelling
spelling_of shape = record {
  bits = shape.bits;
  named = is_among shape.locations;
  name = variable_name shape;
  type = λ location. plain (unsigned_type (location_width shape.bits location));
  settled = λ location. false;
  place = placed_at shape.frame;
  function = λ entry. codes "start";
}

-- the spelling of a graph
abbrev pub graph_spelling : Graph → Spelling
graph_spelling graph = spelling_of (shape_of graph)
