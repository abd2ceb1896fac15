-- What offends in declarations and in a whole text, as far as it has been read.
use Rattle.std.specs.Prelude.{ℕ, ◌+◌, nat_le, nat_lt, ◌==◌, Bool, true, ◌&&◌, ◌||◌, not, if◌then◌else◌, List, [], ◌∷◌}
use Rattle.std.specs.Prelude.{◌++◌, map, drop, codes, Option, Some, None, is_some}
use Rattle.std.specs.List.{list_all}
use Rattle.dcc_c.specs.Token.{same_bytes}
use Rattle.dcc_c.specs.Tree.{Word}
use Rattle.dcc_c.specs.Typing.{Declared}
use Rattle.dcc_c.specs.Placement.{is_auto, is_register}
use Rattle.dcc_c.specs.Dos.{dos_names}
use Rattle.dcc_c.specs.Kinds.{of_name, of_place, Offence, offence, only_if}
use Rattle.dcc_c.specs.Pieces.{Piece}
use Rattle.dcc_c.specs.Partial.{WordAt, NumberAt, PartialVariable, PartialFunction, PartialText}
use Rattle.dcc_c.specs.Reading.{Reader, is_stopped}
use Rattle.dcc_c.specs.ReadingText.{size_in_bytes, reading_of}
use Rattle.dcc_c.specs.Known.{Known, known_dos, known_functions, heads_in, labels_before_head}
use Rattle.dcc_c.specs.Offences.{BodyContext, repeated, label_list, body_offences}

-- Names.

abbrev pub name_list : List PartialVariable → List WordAt
name_list [] = []
name_list (v ∷ variables) = elim v.name [ Some name ↦ name ∷ name_list variables | None ↦ name_list variables ]

abbrev pub words_of : List WordAt → List Word
words_of names = map (λ n. n.word) names

-- what the variables are declared as, where their names and types have been read
abbrev pub declared_of : (PartialVariable → Bool) → List PartialVariable → List Declared
declared_of is_placed [] = []
declared_of is_placed (v ∷ variables) = elim v.name [
  | None ↦ declared_of is_placed variables
  | Some name ↦ elim v.type [
    | None ↦ declared_of is_placed variables
    | Some type ↦ record { name = name.word; type = type; is_array = is_some v.size; is_placed = is_placed v }
        ∷ declared_of is_placed variables
  ]
]

-- Places.

-- an array of no element offends at its size
abbrev pub size_offences : Option NumberAt → List Offence
size_offences (Some n) = only_if (n.value == 0) (offence of_place n.at)
size_offences None = []

-- how many elements a variable has
abbrev pub element_count : Option NumberAt → ℕ
element_count (Some n) = n.value
element_count None = 1

-- the first of some numbers
abbrev pub first_number : List NumberAt → List Offence
first_number [] = []
first_number (n ∷ numbers) = offence of_place n.at ∷ []

-- the first initial value for which there is no element
abbrev pub surplus : PartialVariable → List Offence
surplus v = first_number (drop (element_count v.size) v.init)

abbrev pub end_of : PartialVariable → ℕ
end_of v = v.address + size_in_bytes v

-- the two variables take no byte in common
abbrev pub stand_apart : PartialVariable → PartialVariable → Bool
stand_apart a b = nat_le (end_of a) b.address || nat_le (end_of b) a.address

-- A variable that takes a byte has one beyond memory, in the stack or in an earlier variable.
abbrev pub is_misplaced : ℕ → ℕ → List PartialVariable → PartialVariable → Bool
is_misplaced lo hi earlier v =
    nat_lt 0 (size_in_bytes v)
    && (nat_lt 65536 (end_of v)
    || (not (nat_le hi lo || (nat_le (end_of v) lo || nat_le hi v.address)) || not (list_all (stand_apart v) earlier)))

abbrev pub misplaced_at : Option WordAt → List Offence
misplaced_at (Some name) = offence of_place name.at ∷ []
misplaced_at None = []

-- the variable has been read to its end, and takes a byte
abbrev pub takes_bytes : PartialVariable → Bool
takes_bytes v = v.done && nat_lt 0 (size_in_bytes v)

-- the places of global variables after earlier ones that take bytes
abbrev pub globals_places : ℕ → ℕ → List PartialVariable → List PartialVariable → List Offence
globals_places lo hi earlier [] = []
globals_places lo hi earlier (v ∷ globals) =
    size_offences v.size
    ++ (surplus v
    ++ ((if v.done && is_misplaced lo hi earlier v then misplaced_at v.name else [])
    ++ globals_places lo hi (if takes_bytes v then v ∷ earlier else earlier) globals))

-- a number of the stack line
abbrev pub stack_offences : Option NumberAt → List Offence
stack_offences (Some n) = only_if (nat_lt 65535 n.value) (offence of_place n.at)
stack_offences None = []

abbrev pub number_or_zero : Option NumberAt → ℕ
number_or_zero (Some n) = n.value
number_or_zero None = 0

-- Functions.

-- The names of functions that offend: a name repeats none of the global variables, the DOS calls and the functions
-- before it.
abbrev pub function_names : List PartialFunction → List WordAt
function_names [] = []
function_names (f ∷ functions) = elim f.name [
  | Some name ↦ name ∷ function_names functions
  | None ↦ function_names functions
]

abbrev pub not_named_start : Option WordAt → List Offence
not_named_start (Some name) = only_if (not (same_bytes name.word (codes "start"))) (offence of_name name.at)
not_named_start None = []

-- The first function is `void start(void)`: each token that differs offends, once the parenthesis has told a function.
abbrev pub start_offences : List PartialFunction → List Offence
start_offences [] = []
start_offences (f ∷ functions) = elim f.opened [
  | None ↦ []
  | Some inside ↦ only_if f.has_result (offence of_name f.at)
      ++ (not_named_start f.name ++ only_if (not f.without_params) (offence of_name inside))
]

abbrev pub sizes_of : List PartialVariable → List Offence
sizes_of [] = []
sizes_of (v ∷ variables) = size_offences v.size ++ sizes_of variables

-- What the whole text knows: the names, the global variables, the functions, and the labels after what has been read.
pub record Whole : Type 0 where
  pub words : List Word
  pub globals : List Declared
  pub functions : List Known
  pub labels : List Word

-- a function; labels may stand after what has been read where it is the last one
abbrev pub scene_of : Whole → List Word → PartialFunction → BodyContext
scene_of whole labels f = record {
  names = declared_of (λ v. not (is_register v.class)) f.params
      ++ (declared_of (λ v. is_auto v.class) f.locals ++ whole.globals);
  functions = whole.functions;
  labels = words_of (label_list f.body) ++ labels;
  has_result = f.has_result;
  result = f.result;
}

abbrev pub function_offences : Whole → List Word → PartialFunction → List Offence
function_offences whole labels f =
    repeated whole.words (name_list f.params ++ name_list f.locals)
    ++ (sizes_of f.locals ++ body_offences (scene_of whole labels f) f.body)

abbrev pub functions_offences : Whole → List PartialFunction → List Offence
functions_offences whole [] = []
functions_offences whole (f ∷ []) = function_offences whole whole.labels f
functions_offences whole (f ∷ g ∷ functions) =
    function_offences whole [] f ++ functions_offences whole (g ∷ functions)

-- The whole text.

-- what the whole text knows, where these pieces have not been read
abbrev pub known_in : PartialText → List Piece → Whole
known_in text rest =
    let functions = known_functions text.functions ++ heads_in rest in
    record {
      words = words_of (name_list text.globals) ++ (map (λ k. k.name) functions ++ dos_names);
      globals = declared_of (λ v. true) text.globals;
      functions = known_dos ++ functions;
      labels = labels_before_head rest;
    }

-- names and places of global variables, names of functions, and functions
abbrev pub text_offences : PartialText → List Piece → List Offence
text_offences text rest =
    let whole = known_in text rest in
    (stack_offences text.lo ++ stack_offences text.hi)
    ++ (repeated dos_names (name_list text.globals ++ function_names text.functions)
    ++ (globals_places (number_or_zero text.lo) (number_or_zero text.hi) [] text.globals
    ++ (start_offences text.functions ++ functions_offences whole text.functions)))

abbrev pub stop_offences : Option Offence → List Offence
stop_offences (Some o) = o ∷ []
stop_offences None = []

-- the pieces that have not been read
abbrev pub unread : Reader → List Piece
unread r = if is_stopped r then r.left else []

-- all that offends in a text that has these pieces after its version line
abbrev pub offences_of : List Piece → List Offence
offences_of pieces =
    let reading = reading_of pieces in
    stop_offences reading.following.stop ++ text_offences reading.value (unread reading.following)
