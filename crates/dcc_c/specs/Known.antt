-- What is known in a whole text, also where a part of it is not read: functions, by their heads, and labels.
use Rattle.std.specs.Prelude.{Bool, ◌||◌, if◌then◌else◌, List, [], ◌∷◌, ◌++◌, map, codes, Option, Some, None, is_some}
use Rattle.dcc_c.specs.declared.syntax.CType.{CType}
use Rattle.dcc_c.specs.Token.{Token, same_bytes}
use Rattle.dcc_c.specs.Tree.{Word}
use Rattle.dcc_c.specs.Dos.{Signature, all_dos, dos_name, dos_signature}
use Rattle.dcc_c.specs.Pieces.{Piece}
use Rattle.dcc_c.specs.Partial.{WordAt, PartialVariable, PartialFunction}
use Rattle.dcc_c.specs.Reading.{first_token, is_the_mark, is_the_word, name_of, begins_type}
use Rattle.dcc_c.specs.ReadingText.{reader_of, enough_calls, read_begun, read_head}

-- a function that the whole text knows, with the types of its result and its parameters where its head could be read
pub record Known : Type 0 where
  pub name : Word
  pub signature : Option Signature

abbrev pub known : Word → Option Signature → Known
known name signature = record { name = name; signature = signature }

abbrev pub known_dos : List Known
known_dos = map (λ dos. known (dos_name dos) (Some (dos_signature dos))) all_dos

-- the first function with the name
abbrev pub known_as : List Known → Word → Option Known
known_as [] word = None
known_as (k ∷ others) word = if same_bytes k.name word then Some k else known_as others word

abbrev pub type_list : List PartialVariable → List CType
type_list [] = []
type_list (v ∷ params) = elim v.type [ Some type ↦ type ∷ type_list params | None ↦ type_list params ]

abbrev pub signature_of : PartialFunction → Option Signature
signature_of f = if f.headed then Some (record { result = f.result; params = type_list f.params }) else None

abbrev pub known_named : Option WordAt → Option Signature → List Known
known_named (Some name) signature = known name.word signature ∷ []
known_named None signature = []

-- the function, where its opening parenthesis was read
abbrev pub known_of : PartialFunction → List Known
known_of f = if is_some f.opened then known_named f.name (signature_of f) else []

-- the functions that have been read
abbrev pub known_functions : List PartialFunction → List Known
known_functions [] = []
known_functions (f ∷ functions) = known_of f ++ known_functions functions

-- After what has been read.

-- a type or `void` may begin with the token
abbrev pub begins_head : Option Token → Bool
begins_head token = is_the_word (codes "void") token || begins_type token

-- the function whose head the pieces begin with
abbrev pub head_at : List Piece → List Known
head_at pieces =
    if begins_head (first_token pieces)
    then known_of (read_head (enough_calls pieces) (read_begun (reader_of pieces))).value else []

-- the functions whose heads stand in the pieces
abbrev pub heads_in : List Piece → List Known
heads_in [] = []
heads_in (p ∷ pieces) = head_at (p ∷ pieces) ++ heads_in pieces

-- the name that a colon follows
abbrev pub label_at : Option Token → Option Token → List Word
label_at token next =
    if is_the_mark (codes ":") next then (elim (name_of token) [ Some word ↦ word ∷ [] | None ↦ [] ]) else []

-- the names that a colon follows, before the next head of a function
abbrev pub labels_before_head : List Piece → List Word
labels_before_head [] = []
labels_before_head (p ∷ pieces) = elim (head_at (p ∷ pieces)) [
  | k ∷ ks ↦ []
  | [] ↦ label_at p.token (first_token pieces) ++ labels_before_head pieces
]
