-- The functions of a text: one for each graph of a program. Their names, parameters, variables and results; how a body
-- begins; and the text of a Ret.
use Rattle.std.specs.Prelude.{◌≡◌, ℕ, ◌+◌, ◌-◌, ◌*◌, Bool, false, ◌&&◌, not, if◌then◌else◌, List, [], ◌∷◌, ◌++◌, filter}
use Rattle.std.specs.Prelude.{map, codes, Option, Some, None, is_some}
use Rattle.std.specs.Fmt.{decimal}
use Rattle.dcc_ir.specs.declared.syntax.Loc.{Loc}
use Rattle.dcc_ir.specs.declared.syntax.Put.{Put}
use Rattle.dcc_ir.specs.declared.syntax.Put.TheVariants.{One, Two}
use Rattle.dcc_ir.specs.declared.syntax.Param.{Param}
use Rattle.dcc_ir.specs.Location.{same_location}
use Rattle.dcc_ir.specs.Tree as inner
use Rattle.dcc_ir.specs.WellFormed.{is_memory, put_width, all_ret_widths}
use Rattle.dcc_c.specs.declared.syntax.Class.{Class}
use Rattle.dcc_c.specs.declared.syntax.Class.TheVariants.{Plain, Auto, Register}
use Rattle.dcc_c.specs.declared.syntax.CType.{CType}
use Rattle.dcc_c.specs.Types.{plain}
use Rattle.dcc_c.specs.Tree.{Word, Expr, Name, Stmt, Assign, Return, Lines, no_lines, line, Variable, Function}
use Rattle.dcc_text.specs.Hex.{name_at}
use Rattle.dcc_text.specs.Spelling.{Placed, Spelling}
use Rattle.dcc_text.specs.Spelled.{Low, unsigned_type, cut, moved_down, text}
use Rattle.dcc_text.specs.Stmts.{place_of}
use Rattle.dcc_variables.specs.Variables.{Shape, is_told_from, frame_bytes, shape_of, variable_name, variable}
use Rattle.dcc_variables.specs.Variables.{frame_array, placed_at, spelling_of}

-- Names.

-- the name of the function of a graph with this entry, which is not the first: its offset in hexadecimal
abbrev pub function_name : ℕ → Word
function_name entry = name_at (codes "f_") entry

-- the names of the functions of a program: its run begins in `start`
abbrev pub function_names : List inner.Graph → List Word
function_names [] = []
function_names (first ∷ graphs) = codes "start" ∷ map (λ graph. function_name graph.entry) graphs

-- the name of the parameter at a place: p1, p2, ..
abbrev pub parameter_name : ℕ → Word
parameter_name place = codes "p" ++ decimal (place + 1)

-- Parameters.

-- the location takes all bits of the argument
abbrev pub is_taken_whole : Put → Loc → Bool
is_taken_whole (One other) location = same_location location other
is_taken_whole _ location = false

-- the place of the param whose argument the location takes whole, among the params from a place on
abbrev pub place_from : ℕ → List Param → Loc → Option ℕ
place_from place [] location = None
place_from place (p ∷ params) location =
    if is_taken_whole p.put location then Some place else place_from (place + 1) params location

-- the place of the param that a location is
abbrev pub place_in : inner.Graph → Loc → Option ℕ
place_in graph location = place_from 0 graph.params location

-- a param in memory is kept there; one that is not on the stack is no argument of the stack
abbrev pub parameter_class : Param → Class
parameter_class p = if p.stack then (if is_memory p.put then Auto else Plain) else Register

-- the parameter of a param at a place, where the temporaries have these widths
abbrev pub parameter : List ℕ → ℕ → Param → Variable
parameter bits place p = record {
  name = parameter_name place;
  type = plain (unsigned_type (put_width bits p.put));
  len = None;
  class = parameter_class p;
}

abbrev pub parameters_from : List ℕ → ℕ → List Param → List Variable
parameters_from bits place [] = []
parameters_from bits place (p ∷ params) = parameter bits place p ∷ parameters_from bits (place + 1) params

abbrev pub parameters : inner.Graph → List Variable
parameters graph = parameters_from graph.bits 0 graph.params

-- the place of the first argument of the stack that is kept in memory, among the params from a place on
abbrev pub memory_from : ℕ → List Param → Option ℕ
memory_from place [] = None
memory_from place (p ∷ params) =
    if p.stack && is_memory p.put then Some place else memory_from (place + 1) params

-- Variables.

-- a function has an array for the addresses that are told from no parameter
abbrev pub function_shape : inner.Graph → Shape
function_shape graph = record (shape_of graph) { frame = frame_bytes (memory_from 0 graph.params) graph }

-- A location that takes a whole argument is that parameter; each other one has a variable of its own.
abbrev pub name_or : Option ℕ → Word → Word
name_or (Some place) word = parameter_name place
name_or None word = word

-- the name of a location, by the variables of a shape and by the params
abbrev pub name_by : Shape → List Param → Loc → Word
name_by shape params location = name_or (place_from 0 params location) (variable_name shape location)

-- an address by how far it lies above the parameter at a place
abbrev pub argument_place : ℕ → ℕ → Placed
argument_place place distance =
    record { name = parameter_name place; is_array = false; above = distance - 2 * place }

-- An address is told from the first argument in memory, or else from the array of so many bytes.
abbrev pub place_by : Option ℕ → ℕ → ℕ → Option Placed
place_by None bytes distance = placed_at bytes distance
place_by (Some place) bytes distance =
    if is_told_from (Some place) distance then Some (argument_place place distance) else placed_at bytes distance

abbrev pub spelling_by : Shape → List Param → Spelling
spelling_by shape params = record (spelling_of shape) {
  name = name_by shape params;
  place = place_by (memory_from 0 params) shape.frame;
  function = function_name;
}

abbrev pub location_name : inner.Graph → Loc → Word
location_name graph = name_by (function_shape graph) graph.params

-- the spelling of a graph in the text of a program
abbrev pub function_spelling : inner.Graph → Spelling
function_spelling graph = spelling_by (function_shape graph) graph.params

-- the location is no parameter
abbrev pub is_no_parameter : List Param → Loc → Bool
is_no_parameter params location = not (is_some (place_from 0 params location))

abbrev pub is_own : inner.Graph → Loc → Bool
is_own graph = is_no_parameter graph.params

-- the local variables: those of the locations that are no parameters, and the array of the frame
abbrev pub own_by : Shape → List Param → List Variable
own_by shape params =
    map (variable shape) (filter (is_no_parameter params) shape.locations) ++ frame_array shape.frame

abbrev pub own_declarations : inner.Graph → List Variable
own_declarations graph = own_by (function_shape graph) graph.params

-- Results.

abbrev pub type_for : List ℕ → Option CType
type_for [] = None
type_for (width ∷ widths) = Some (plain (unsigned_type width))

-- the type of the first value that the Rets give
abbrev pub type_for_any : List (List ℕ) → Option CType
type_for_any [] = None
type_for_any (widths ∷ others) = type_for widths

-- the type of what the Rets of a graph give; none where they give nothing, or there is none
abbrev pub result_type : inner.Graph → Option CType
result_type graph = type_for_any (all_ret_widths graph)

-- the value of a Ret
abbrev pub ret_value : Spelling → List inner.Expr → Option Expr
ret_value s [] = None
ret_value s (value ∷ values) = Some (text s Low false value)

-- the text of a Ret with the values
abbrev pub ret_text : Spelling → List inner.Expr → Stmt
ret_text s values = Return (ret_value s values)

-- Bodies.

-- the low and the high byte of a word
abbrev pub low_byte : Expr → Expr
low_byte e = cut 8 e

abbrev pub high_byte : Expr → Expr
high_byte e = cut 8 (moved_down 8 e)

-- the assignment to a location that wants one
abbrev pub opening : Bool → Spelling → Loc → Expr → List Stmt
opening wanted s location e = if wanted then Assign (place_of s location) e ∷ [] else []

-- A word of which each byte has a location of its own: the low byte goes to its location, then the high one.
abbrev pub put_openings : Spelling → (Loc → Bool) → Word → Put → List Stmt
put_openings s opens word (Two low high) =
    opening (opens low) s low (low_byte (Name word)) ++ opening (opens high) s high (high_byte (Name word))
put_openings s opens word _ = []

abbrev pub openings_from : Spelling → (Loc → Bool) → ℕ → List Param → List Stmt
openings_from s opens place [] = []
openings_from s opens place (p ∷ params) =
    put_openings s opens (parameter_name place) p.put ++ openings_from s opens (place + 1) params

-- the assignments with which the function of a graph begins, for the locations that want one
abbrev pub openings : (Loc → Bool) → inner.Graph → List Stmt
openings opens graph = openings_from (function_spelling graph) opens 0 graph.params

-- the lines begin with the statements, and then come the others
abbrev pub BeginsWith : List Stmt → Lines → Lines → Type 0
BeginsWith [] lines others = lines ≡ others
BeginsWith (stmt ∷ stmts) no_lines others = ⊥
BeginsWith (stmt ∷ stmts) (line first at lines) others = (first ≡ stmt) × BeginsWith stmts lines others

-- Functions.

-- the function of a graph, with a name, a body and the line of its closing brace
abbrev pub function_of : inner.Graph → Word → Lines → ℕ → Function
function_of graph word body last = record {
  name = word;
  result = result_type graph;
  params = parameters graph;
  locals = own_declarations graph;
  body = body;
  last = last;
}

-- the function is that of the graph, with the given name
abbrev pub IsFunctionOf : inner.Graph → Word → Function → Type 0
IsFunctionOf graph word f = f ≡ function_of graph word f.body f.last
