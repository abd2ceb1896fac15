-- The text whose local variables have other types of their size, and in which they are read as they were.
use Rattle.std.specs.Prelude.{ℕ, nat_le, nat_lt, ◌==◌, Bool, true, false, ◌&&◌, ◌||◌, not, if◌then◌else◌, List, map}
use Rattle.std.specs.Prelude.{Option, Some, None, is_some}
use Rattle.std.specs.List.{list_all}
use Rattle.dcc_c.specs.declared.syntax.Base.{Base}
use Rattle.dcc_c.specs.declared.syntax.CType.{CType}
use Rattle.dcc_c.specs.declared.syntax.CUn.{CUn}
use Rattle.dcc_c.specs.declared.syntax.CUn.TheVariants.{Not, AddressOf}
use Rattle.dcc_c.specs.declared.syntax.CBin.{CBin}
use Rattle.dcc_c.specs.declared.syntax.CBin.TheVariants.{OrOr, AndAnd, And, Eq, Ne}
use Rattle.dcc_c.specs.Types.{bits_of, plain, same_type, number_of_type}
use Rattle.dcc_c.specs.Tree.{Expr, Number, Name, Unary, Binary, Conditional, Cast, Variable, Function, Tree}
use Rattle.dcc_c.specs.Parts.{stmts_in}
use Rattle.dcc_c.specs.Placement.{is_auto}
use Rattle.dcc_c.specs.Rules.{declared_in, is_number, shallow_stmt}
use Rattle.dcc_c.specs.Typing.{Declared, type_of}
use Rattle.dcc_respell.specs.Writing.{Writing, lines_by}

-- the bits of a value of the type
abbrev pub room_of : CType → ℕ
room_of type = bits_of (number_of_type type)

-- Reads.

abbrev pub is_name : Expr → Bool
is_name (Name word) = true
is_name e = false

-- a number below 128
abbrev pub is_small : Expr → Bool
is_small (Number n base) = nat_lt n 128
is_small e = false

-- an expression that has the first type becomes one of the second type: the first one, where they differ
abbrev pub changed_from : Option CType → Option CType → Option CType
changed_from (Some type) (Some other) = if same_type type other then None else Some type
changed_from (Some type) None = None
changed_from None other = None

abbrev pub has_type : Option CType → CType → Bool
has_type (Some own) type = same_type type own
has_type None type = false

-- the type is one of a number of so many bits
abbrev pub is_wide : ℕ → Option CType → Bool
is_wide bits (Some type) = not type.pointer && (bits_of type.base == bits)
is_wide bits None = false

abbrev pub is_equality : CBin → Bool
is_equality Eq = true
is_equality Ne = true
is_equality operator = false

abbrev pub is_and : CBin → Bool
is_and And = true
is_and operator = false

abbrev pub joins_truths : CBin → Bool
joins_truths OrOr = true
joins_truths AndAnd = true
joins_truths operator = false

-- The names are declared as the first list says before, and as the second one says after.
module _ (old new : List Declared) where
  -- the type that the variable had, where it has another one
  abbrev pub was : Expr → Option CType
  was name = changed_from (type_of old name) (type_of new name)

  -- the read of a variable as one of the type that it had
  abbrev pub read : Expr → Expr
  read name = elim (was name) [ Some type ↦ Cast type name | None ↦ name ]

  -- a cast of a variable, which is no cast where the variable has the type
  abbrev pub bare : CType → Expr → Expr
  bare type name = if has_type (type_of new name) type then name else Cast type name

  -- A cast of a variable that had another type. One to no more bits takes the bits alone.
  abbrev pub cast_read : CType → Expr → Expr
  cast_read type name = elim (was name) [
    | Some own ↦ if nat_le (room_of type) (room_of own) then bare type name else Cast type (Cast own name)
    | None ↦ Cast type name
  ]

  -- both expressions are words
  abbrev pub are_words : Expr → Expr → Bool
  are_words a b = is_wide 16 (type_of old a) && is_wide 16 (type_of old b)

  -- a number that is tested for 0
  abbrev pub is_bare : Expr → Bool
  is_bare e = is_name e && is_number new e

  -- The operator sees the same of the variable at its left, whatever sign its type has: it joins truths, it tests words
  -- for equality, or it takes a char beside a number that has just low bits.
  abbrev pub spares_left : CBin → Expr → Expr → Bool
  spares_left operator a b =
      is_name a
      && ((joins_truths operator && is_number new a)
      || ((is_equality operator && are_words a b)
      || ((is_equality operator || is_and operator) && (is_wide 8 (type_of old a) && is_small b))))

  -- the operator sees the same of the variable at its right: it joins truths, or it tests words for equality
  abbrev pub spares_right : CBin → Expr → Expr → Bool
  spares_right operator a b =
      is_name b && ((joins_truths operator && is_number new b) || (is_equality operator && are_words a b))

  abbrev pub spares_one : CUn → Expr → Bool
  spares_one Not a = is_bare a
  spares_one AddressOf a = true
  spares_one operator a = false

  -- The expression with its value and its type, where the names are declared as after.
  abbrev pub exact : Expr → Expr
  exact (Number n base) = Number n base
  exact (Name word) = read (Name word)
  exact (Unary operator a) = Unary operator (if spares_one operator a then a else exact a)
  exact (Binary operator a b) =
      Binary operator (if spares_left operator a b then a else exact a) (if spares_right operator a b then b else exact b)
  exact (Conditional a b c) = Conditional (if is_bare a then a else exact a) (exact b) (exact c)
  exact (Cast type a) = if is_name a then cast_read type a else Cast type (exact a)

  -- a test, which is 0 where it was 0
  abbrev pub tested : Expr → Expr
  tested e = if is_bare e then e else exact e

  -- a place, which is no read where it is a variable
  abbrev pub placed : Expr → Expr
  placed place = if is_name place then place else exact place

  -- how the expressions of a function are written
  abbrev pub written_as : Writing
  written_as = record {
    test = tested;
    choice = exact;
    place = placed;
    value = λ place. exact;
    arguments = λ function. map exact;
    returned = exact;
  }

-- Texts.

-- the variable is kept by itself: it has no place, and is no array and no pointer
abbrev pub is_free : Variable → Bool
is_free v = not (is_auto v.class) && (not (is_some v.len) && not v.type.pointer)

-- no expression of the function is as deep as may be
abbrev pub is_shallow : Function → Bool
is_shallow f = list_all (shallow_stmt 199) (stmts_in f.body)

-- The number types of the local variables of a function that are kept by themselves are given.
module _ (type_for : Tree → Function → Variable → Base) where
  abbrev pub local_after : Tree → Function → Variable → Variable
  local_after tree f v = if is_free v then record v { type = plain (type_for tree f v) } else v

  abbrev pub locals_after : Tree → Function → List Variable
  locals_after tree f = if is_shallow f then map (local_after tree f) f.locals else f.locals

  -- what the names of the function's expressions are declared as then
  abbrev pub declared_after : Tree → Function → List Declared
  declared_after tree f = declared_in tree (record f { locals = locals_after tree f })

  abbrev pub writing : Tree → Function → Writing
  writing tree f = written_as (declared_in tree f) (declared_after tree f)

  abbrev pub function_after : Tree → Function → Function
  function_after tree f = record f { locals = locals_after tree f; body = lines_by (writing tree f) f.body }

  -- the text whose local variables have these types
  abbrev pub redeclared : Tree → Tree
  redeclared tree = record tree { functions = map (function_after tree) tree.functions }
