-- Variables and the values of expressions (ISO/IEC 9899:1990, 6.3), on two's complement bit patterns.
use Rattle.std.specs.Prelude.{ℕ, ◌+◌, ◌-◌, ◌*◌, ◌%◌, ◌^◌, ◌==◌, Bool, true, false, not, if◌then◌else◌, bit_and, bit_or}
use Rattle.std.specs.Prelude.{bit_xor, List, [], ◌∷◌, map, Option, Some, None}
use Rattle.dcc_c.specs.declared.syntax.Base.{Base}
use Rattle.dcc_c.specs.declared.syntax.Base.TheVariants.{Int, Uint}
use Rattle.dcc_c.specs.declared.syntax.CType.{CType}
use Rattle.dcc_c.specs.declared.syntax.CUn.{CUn}
use Rattle.dcc_c.specs.declared.syntax.CUn.TheVariants.{Minus, Complement, Not, Deref, AddressOf}
use Rattle.dcc_c.specs.declared.syntax.CBin.{CBin}
use Rattle.dcc_c.specs.declared.syntax.CBin.TheVariants.{OrOr, AndAnd, Or, Xor, And, Eq, Ne, Lt, Le, Gt, Ge, Shl, Shr}
use Rattle.dcc_c.specs.declared.syntax.CBin.TheVariants.{Add, Sub, Mul, Div, Rem}
use Rattle.dcc_c.specs.Token.{same_bytes}
use Rattle.dcc_c.specs.Types.{promoted_type, wrapped_bits, extended_bits, convert, common_type, plain, pointer_to}
use Rattle.dcc_c.specs.Types.{same_type, number_of_type, size_of}
use Rattle.dcc_c.specs.Arithmetic.{negated, complement, difference, division_faults, quotient, remainder, is_less}
use Rattle.dcc_c.specs.Arithmetic.{shifted_left, shifted_right}
use Rattle.dcc_c.specs.Memory.{load}
use Rattle.dcc_c.specs.Tree.{Word, Expr, Number, Name, Unary, Binary, Conditional, Cast}
use Rattle.dcc_c.specs.Typing.{Declared, both_arms_type, type_of}

-- a number or an address, with its type
pub record Value : Type 0 where
  pub type : CType
  pub bits : ℕ

abbrev pub value : CType → ℕ → Value
value type bits = record { type = type; bits = bits }

abbrev pub number : Base → ℕ → Value
number base bits = value (plain base) bits

-- the truth value 0 or 1, an int
abbrev pub truth : Bool → Value
truth b = number Int (if b then 1 else 0)

abbrev pub is_zero : Value → Bool
is_zero v = v.bits == 0

-- the value converted to the type
abbrev pub converted : CType → Value → Value
converted type v = value type (convert (number_of_type v.type) (number_of_type type) v.bits)

-- what an evaluation comes to
pub data Outcome (A : Type 0) : Type 0 where
  Gives : A → Outcome A
  -- a division faults
  Divides : Outcome A
  -- there is no meaning: a name or an operand is not allowed
  Undefined : Outcome A

-- the second evaluation goes on with what the first one gives
abbrev pub and_then : {A B : Type 0} → (A → Outcome B) → Outcome A → Outcome B
and_then next (Gives a) = next a
and_then next Divides = Divides
and_then next Undefined = Undefined

abbrev pub given : {A : Type 0} → Option A → Outcome A
given (Some a) = Gives a
given None = Undefined

-- Variables.

-- how a variable is kept
pub data Storage : Type 0 where
  -- the variable is kept by itself, with these bits
  Unplaced : ℕ → Storage
  -- the variable is in memory, from this address on
  PlacedAt : ℕ → Storage

-- a variable with its storage; the type is that of its elements where it is an array
pub record Binding : Type 0 where
  pub name : Word
  pub type : CType
  pub is_array : Bool
  pub storage : Storage

abbrev pub is_placed : Storage → Bool
is_placed (Unplaced bits) = false
is_placed (PlacedAt at) = true

-- what the variable is declared as
abbrev pub declared_by : Binding → Declared
declared_by b = record { name = b.name; type = b.type; is_array = b.is_array; is_placed = is_placed b.storage }

-- the variable with the name
abbrev pub variable_in : List Binding → Word → Option Binding
variable_in [] word = None
variable_in (b ∷ variables) word = if same_bytes b.name word then Some b else variable_in variables word

-- the variables after the one with the name, which is kept by itself, has taken the value, converted to its type
abbrev pub after_assignment : List Binding → Word → Value → List Binding
after_assignment [] word v = []
after_assignment (b ∷ variables) word v =
    if same_bytes b.name word then record b { storage = Unplaced (converted b.type v).bits } ∷ variables
    else b ∷ after_assignment variables word v

-- what expressions are evaluated over: the variables and the memory
pub record Scope : Type 0 where
  pub variables : List Binding
  pub memory : List ℕ

-- the value of so many bytes of memory
abbrev pub loaded : List ℕ → CType → ℕ → Value
loaded memory type at = value type (load (size_of type) memory at)

-- the address of an array's first element; an array of pointers has no value
abbrev pub array_value : CType → Storage → Outcome Value
array_value type (PlacedAt at) = if type.pointer then Undefined else Gives (value (pointer_to type.base) at)
array_value type (Unplaced bits) = Undefined

abbrev pub held : List ℕ → CType → Storage → Value
held memory type (Unplaced bits) = value type bits
held memory type (PlacedAt at) = loaded memory type at

-- the value of a variable
abbrev pub variable_value : List ℕ → Binding → Outcome Value
variable_value memory b = if b.is_array then array_value b.type b.storage else Gives (held memory b.type b.storage)

-- the address of a variable that is no array and no pointer
abbrev pub address_value : Binding → Outcome Value
address_value b =
    if b.is_array then Undefined else if b.type.pointer then Undefined
    else elim b.storage [ PlacedAt at ↦ Gives (value (pointer_to b.type.base) at) | Unplaced bits ↦ Undefined ]

-- what stands at an address
abbrev pub pointed_value : List ℕ → Value → Outcome Value
pointed_value memory v = if v.type.pointer then Gives (loaded memory (plain v.type.base) v.bits) else Undefined

-- Operators.

abbrev pub unary_number : CUn → Base → ℕ → Outcome Value
unary_number Minus type n = Gives (number type (negated type n))
unary_number Complement type n = Gives (number type (complement type n))
unary_number Not type n = Gives (truth (n == 0))
unary_number _ type n = Undefined

-- an operator on one number, which is promoted
abbrev pub unary_value : CUn → Value → Outcome Value
unary_value operator v =
    if v.type.pointer then Undefined
    else let type = promoted_type v.type.base in unary_number operator type (convert v.type.base type v.bits)

-- the truth of a comparison of two numbers of one type
abbrev pub compared : CBin → Base → ℕ → ℕ → Outcome Value
compared Eq type a b = Gives (truth (a == b))
compared Ne type a b = Gives (truth (not (a == b)))
compared Lt type a b = Gives (truth (is_less type a b))
compared Le type a b = Gives (truth (not (is_less type b a)))
compared Gt type a b = Gives (truth (is_less type b a))
compared Ge type a b = Gives (truth (not (is_less type a b)))
compared _ type a b = Undefined

-- the value of an operator on two numbers of one type
abbrev pub binary_value : CBin → Base → ℕ → ℕ → Outcome Value
binary_value Or type a b = Gives (number type (bit_or a b))
binary_value Xor type a b = Gives (number type (bit_xor a b))
binary_value And type a b = Gives (number type (bit_and a b))
binary_value Add type a b = Gives (number type (wrapped_bits type (a + b)))
binary_value Sub type a b = Gives (number type (difference type a b))
binary_value Mul type a b = Gives (number type (wrapped_bits type (a * b)))
binary_value Div type a b = if division_faults type a b then Divides else Gives (number type (quotient type a b))
binary_value Rem type a b = if division_faults type a b then Divides else Gives (number type (remainder type a b))
binary_value operator type a b = compared operator type a b

-- an operator on two numbers: both are converted to their common type; of a shift the left one alone is promoted
abbrev pub numbers_value : CBin → Base → ℕ → Base → ℕ → Outcome Value
numbers_value Shl a m b n =
    let type = promoted_type a in Gives (number type (shifted_left type (convert a type m) b n))
numbers_value Shr a m b n =
    let type = promoted_type a in Gives (number type (shifted_right type (convert a type m) b n))
numbers_value operator a m b n =
    let type = common_type a b in binary_value operator type (convert a type m) (convert b type n)

-- a pointer moves by so many elements, modulo 65536
abbrev pub moved : CBin → CType → ℕ → Base → ℕ → Outcome Value
moved Add type at b n = Gives (value type ((at + size_of (plain type.base) * extended_bits b n) % 65536))
moved Sub type at b n = Gives (value type ((at + size_of (plain type.base) * (2 ^ 32 - extended_bits b n)) % 65536))
moved _ type at b n = Undefined

-- an operator on two values: a pointer is moved by a number, or compared with a pointer of its type as a number
abbrev pub both_values : CBin → Value → Value → Outcome Value
both_values operator a b =
    if a.type.pointer then (
    if b.type.pointer then (if same_type a.type b.type then compared operator Uint a.bits b.bits else Undefined)
    else moved operator a.type a.bits b.type.base b.bits
    ) else if b.type.pointer then Undefined
    else numbers_value operator a.type.base a.bits b.type.base b.bits

-- the truth of a number
abbrev pub truth_value : Value → Outcome Value
truth_value v = if v.type.pointer then Undefined else Gives (truth (not (is_zero v)))

-- The value of `?:` in the type of its last two operands; only the chosen one is evaluated.
abbrev pub chosen : Option CType → Outcome Value → Outcome Value → Value → Outcome Value
chosen (Some type) first second test =
    if test.type.pointer then Undefined
    else and_then (λ v. Gives (converted type v)) (if is_zero test then second else first)
chosen None first second test = Undefined

-- the value of an expression
abbrev pub value_of : Scope → Expr → Outcome Value
value_of scope (Number n base) = Gives (number base (wrapped_bits base n))
value_of scope (Name word) = and_then (variable_value scope.memory) (given (variable_in scope.variables word))
value_of scope (Unary AddressOf (Name word)) = and_then address_value (given (variable_in scope.variables word))
value_of scope (Unary AddressOf a) = Undefined
value_of scope (Unary Deref a) = and_then (pointed_value scope.memory) (value_of scope a)
value_of scope (Unary operator a) = and_then (unary_value operator) (value_of scope a)
value_of scope (Binary OrOr a b) =
    let second = and_then truth_value (value_of scope b) in
    and_then (λ v. if is_zero v then second else Gives v) (and_then truth_value (value_of scope a))
value_of scope (Binary AndAnd a b) =
    let second = and_then truth_value (value_of scope b) in
    and_then (λ v. if is_zero v then Gives v else second) (and_then truth_value (value_of scope a))
value_of scope (Binary operator a b) =
    and_then (λ v. and_then (both_values operator v) (value_of scope b)) (value_of scope a)
value_of scope (Conditional a b c) =
    let names = map declared_by scope.variables in
    let type = both_arms_type (type_of names b) (type_of names c) in
    and_then (chosen type (value_of scope b) (value_of scope c)) (value_of scope a)
value_of scope (Cast type a) = and_then (λ v. Gives (converted type v)) (value_of scope a)

-- where a value goes
pub data Target : Type 0 where
  -- the value goes to the variable that is kept by itself
  ToVariable : Word → Target
  -- the value goes into memory, as one of the type
  ToMemory : CType → ℕ → Target

-- the target of an assignment to the variable with the name
abbrev pub variable_target : Word → Binding → Outcome Target
variable_target word b =
    if b.is_array then Undefined
    else elim b.storage [ Unplaced bits ↦ Gives (ToVariable word) | PlacedAt at ↦ Gives (ToMemory b.type at) ]

-- the target of an assignment by a pointer
abbrev pub pointed_target : Value → Outcome Target
pointed_target v = if v.type.pointer then Gives (ToMemory (plain v.type.base) v.bits) else Undefined

-- the target that a place names
abbrev pub target_of : Scope → Expr → Outcome Target
target_of scope (Name word) = and_then (variable_target word) (given (variable_in scope.variables word))
target_of scope (Unary Deref a) = and_then pointed_target (value_of scope a)
target_of scope _ = Undefined
