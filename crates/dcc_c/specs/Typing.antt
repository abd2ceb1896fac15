-- The types of expressions (ISO/IEC 9899:1990, 6.3).
use Rattle.std.specs.Prelude.{Bool, true, false, not, if◌then◌else◌, List, [], ◌∷◌, Option, Some, None, option_map}
use Rattle.std.specs.Prelude.{option_and_then}
use Rattle.dcc_c.specs.declared.syntax.Base.{Base}
use Rattle.dcc_c.specs.declared.syntax.Base.TheVariants.{Int}
use Rattle.dcc_c.specs.declared.syntax.CType.{CType}
use Rattle.dcc_c.specs.declared.syntax.CUn.{CUn}
use Rattle.dcc_c.specs.declared.syntax.CUn.TheVariants.{Minus, Complement, Not, Deref, AddressOf}
use Rattle.dcc_c.specs.declared.syntax.CBin.{CBin}
use Rattle.dcc_c.specs.declared.syntax.CBin.TheVariants.{OrOr, AndAnd, Eq, Ne, Lt, Le, Gt, Ge, Shl, Shr, Add, Sub}
use Rattle.dcc_c.specs.Token.{same_bytes}
use Rattle.dcc_c.specs.Types.{promoted_type, common_type, plain, pointer_to, same_type}
use Rattle.dcc_c.specs.Tree.{Word, Expr, Number, Name, Unary, Binary, Conditional, Cast}

-- what a name is declared as
pub record Declared : Type 0 where
  pub name : Word
  -- the type of the name, or of its elements where it is an array
  pub type : CType
  pub is_array : Bool
  -- whether the name has an address
  pub is_placed : Bool

abbrev pub declared_as : List Declared → Word → Option Declared
declared_as [] word = None
declared_as (d ∷ names) word = if same_bytes d.name word then Some d else declared_as names word

-- The type of a name's value. That of an array is its first element's address; an array of pointers has none.
abbrev pub type_of_name : Declared → Option CType
type_of_name d = if not d.is_array then Some d.type else if d.type.pointer then None else Some (pointer_to d.type.base)

-- the type of a name's address: the name has one, and is no array and no pointer
abbrev pub type_of_address : Declared → Option CType
type_of_address d =
    if not d.is_placed then None
    else if d.is_array then None
    else if d.type.pointer then None
    else Some (pointer_to d.type.base)

-- the number type that a type is, if it is one
abbrev pub number_type : CType → Option Base
number_type type = if type.pointer then None else Some type.base

-- the type of a unary operator on a number
abbrev pub unary_number_type : CUn → Base → Option CType
unary_number_type Minus a = Some (plain (promoted_type a))
unary_number_type Complement a = Some (plain (promoted_type a))
unary_number_type Not a = Some (plain Int)
unary_number_type _ a = None

-- the type of a unary operator: `*` takes a pointer, and the others a number
abbrev pub unary_type : CUn → CType → Option CType
unary_type Deref a = if a.pointer then Some (plain a.base) else None
unary_type operator a = option_and_then (unary_number_type operator) (number_type a)

-- the operator compares
abbrev pub is_comparison : CBin → Bool
is_comparison Eq = true
is_comparison Ne = true
is_comparison Lt = true
is_comparison Le = true
is_comparison Gt = true
is_comparison Ge = true
is_comparison _ = false

-- the operator is a sum or a difference
abbrev pub is_sum : CBin → Bool
is_sum Add = true
is_sum Sub = true
is_sum _ = false

-- the type of an operator on two numbers: a truth value, the promoted left type, or the common type
abbrev pub numbers_type : CBin → Base → Base → Base
numbers_type OrOr a b = Int
numbers_type AndAnd a b = Int
numbers_type Shl a b = promoted_type a
numbers_type Shr a b = promoted_type a
numbers_type operator a b = if is_comparison operator then Int else common_type a b

-- The type of a binary operator: on two numbers, on a pointer and a number that moves it, or on two pointers of one
-- type that are compared.
abbrev pub binary_type : CBin → CType → CType → Option CType
binary_type operator a b =
    if a.pointer then (
    if b.pointer then (if is_comparison operator then (if same_type a b then Some (plain Int) else None) else None)
    else if is_sum operator then Some a else None
    ) else if b.pointer then None else Some (plain (numbers_type operator a.base b.base))

-- both operands have types
abbrev pub both_types : CBin → Option CType → Option CType → Option CType
both_types operator (Some a) (Some b) = binary_type operator a b
both_types operator (Some a) None = None
both_types operator None _ = None

-- the type of `?:`, by those of its last two operands: the common type of two numbers, or one type of pointers
abbrev pub arms_type : CType → CType → Option CType
arms_type a b =
    if a.pointer then (if same_type a b then Some a else None)
    else if b.pointer then None else Some (plain (common_type a.base b.base))

abbrev pub both_arms_type : Option CType → Option CType → Option CType
both_arms_type (Some a) (Some b) = arms_type a b
both_arms_type (Some a) None = None
both_arms_type None _ = None

-- a number is tested
abbrev pub tested_type : Option CType → Option CType → Option CType
tested_type (Some a) type = if a.pointer then None else type
tested_type None type = None

-- the type of an expression over these names, or none where a name is not declared or an operand not allowed
abbrev pub type_of : List Declared → Expr → Option CType
type_of names (Number n base) = Some (plain base)
type_of names (Name word) = option_and_then type_of_name (declared_as names word)
type_of names (Unary AddressOf (Name word)) = option_and_then type_of_address (declared_as names word)
type_of names (Unary AddressOf a) = None
type_of names (Unary operator a) = option_and_then (unary_type operator) (type_of names a)
type_of names (Binary operator a b) = both_types operator (type_of names a) (type_of names b)
type_of names (Conditional a b c) =
    tested_type (type_of names a) (both_arms_type (type_of names b) (type_of names c))
type_of names (Cast type a) = option_map (λ from. type) (type_of names a)

-- the type of a place: a variable that is no array, or what a pointer points to
abbrev pub type_of_variable : Declared → Option CType
type_of_variable d = if d.is_array then None else Some d.type

abbrev pub place_type : List Declared → Expr → Option CType
place_type names (Name word) = option_and_then type_of_variable (declared_as names word)
place_type names (Unary Deref a) = type_of names (Unary Deref a)
place_type names _ = None
