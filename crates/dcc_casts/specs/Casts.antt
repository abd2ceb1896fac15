-- A text without casts that nothing needs: where just the low bits of an expression count, the casts go that keep them.
use Rattle.std.specs.Prelude.{ℕ, nat_le, Bool, true, false, ◌&&◌, ◌||◌, not, if◌then◌else◌, List, ◌∷◌, Some, None, Option}
use Rattle.dcc_c.specs.declared.syntax.CType.{CType}
use Rattle.dcc_c.specs.declared.syntax.CUn.{CUn}
use Rattle.dcc_c.specs.declared.syntax.CUn.TheVariants.{Minus, Complement, AddressOf}
use Rattle.dcc_c.specs.declared.syntax.CBin.{CBin}
use Rattle.dcc_c.specs.declared.syntax.CBin.TheVariants.{Or, Xor, And, Add, Sub, Mul, Shl}
use Rattle.dcc_c.specs.Types.{bits_of, number_of_type}
use Rattle.dcc_c.specs.Tree.{Word, Expr, Number, Name, Unary, Binary, Conditional, Cast, Function, Tree}
use Rattle.dcc_c.specs.Typing.{Declared, place_type}
use Rattle.dcc_c.specs.Rules.{declared_in, is_number, is_switch_value, signature_in}
use Rattle.dcc_respell.specs.Writing.{Writing, text_by}

-- The low bits of the operator's result are made of as many low bits of its operands; `carries_one`: of its operand.
abbrev pub carries : CBin → Bool
carries Add = true
carries Sub = true
carries Mul = true
carries Or = true
carries Xor = true
carries And = true
carries operator = false

abbrev pub carries_one : CUn → Bool
carries_one Minus = true
carries_one Complement = true
carries_one operator = false

abbrev pub is_left_shift : CBin → Bool
is_left_shift Shl = true
is_left_shift operator = false

-- the bits of a type
abbrev pub room_of : CType → ℕ
room_of type = bits_of (number_of_type type)

-- the address of the expression
abbrev pub address_of : Expr → Expr
address_of e = Unary AddressOf e

-- both expressions are numbers
abbrev pub are_numbers : List Declared → Expr → Expr → Bool
are_numbers names a b = is_number names a && is_number names b

-- a cast that keeps so many low bits of a number
abbrev pub is_needless : List Declared → ℕ → CType → Expr → Bool
is_needless names bits type a = not type.pointer && (nat_le bits (bits_of type.base) && is_number names a)

module _ (names : List Declared) where
  abbrev mutual
    -- The expression without needless casts: it has the type and the value that it had.
    pub kept : Expr → Expr
    kept (Number n base) = Number n base
    kept (Name word) = Name word
    kept (Unary operator a) = Unary operator (kept a)
    kept (Binary operator a b) = Binary operator (kept a) (kept b)
    kept (Conditional a b c) = Conditional (kept a) (kept b) (kept c)
    kept (Cast type a) = Cast type (lowered (room_of type) a)

    -- The expression without the casts that its low bits don't need: it is a number, whose low bits are what they were.
    -- Operators reckon on 16 bits at least, whatever their operands are.
    pub lowered : ℕ → Expr → Expr
    lowered bits (Number n base) = Number n base
    lowered bits (Name word) = Name word
    lowered bits (Unary operator a) =
        Unary operator (if carries_one operator && (nat_le bits 16 && is_number names a) then lowered bits a else kept a)
    lowered bits (Binary operator a b) =
        let numbers = nat_le bits 16 && are_numbers names a b in
        Binary operator
        (if (carries operator || is_left_shift operator) && numbers then lowered bits a else kept a)
        (if carries operator && numbers then lowered bits b else kept b)
    lowered bits (Conditional a b c) =
        let numbers = nat_le bits 16 && are_numbers names b c in
        Conditional (kept a) (if numbers then lowered bits b else kept b) (if numbers then lowered bits c else kept c)
    lowered bits (Cast type a) =
        if is_needless names bits type a then lowered bits a else Cast type (lowered (room_of type) a)

-- Where a value becomes one of a type.

-- what becomes a value of the type: of a number the bits count that the type has
abbrev pub becoming : List Declared → CType → Expr → Expr
becoming names type e = if type.pointer then kept names e else lowered names (room_of type) e

-- what is assigned to a place
abbrev pub assigned_to : List Declared → Expr → Expr → Expr
assigned_to names place e =
    elim (place_type names place) [ Some type ↦ becoming names type e | None ↦ kept names e ]

-- the argument of a parameter, where there is one
abbrev pub passed_to : List Declared → Option CType → Expr → Expr
passed_to names o e = elim o [ Some type ↦ becoming names type e | None ↦ e ]

-- the arguments of parameters of these types
abbrev pub passed : List Declared → List CType → List Expr → List Expr
passed names (type ∷ types) (e ∷ es) = becoming names type e ∷ passed names types es
passed names _ es = es

-- the value of a `switch`, of which 16 bits count, and which is a word
abbrev pub chosen_by : List Declared → Expr → Expr
chosen_by names e =
    let low = lowered names 16 e in
    if is_switch_value names low then low else kept names e

-- the arguments of the function with a name, in a function of a text
abbrev pub arguments_by : Tree → Function → Word → List Expr → List Expr
arguments_by tree f function es =
    elim (signature_in tree function) [ Some known ↦ passed (declared_in tree f) known.params es | None ↦ es ]

-- what a function of a text returns
abbrev pub returned_by : Tree → Function → Expr → Expr
returned_by tree f e = elim f.result [ Some type ↦ becoming (declared_in tree f) type e | None ↦ e ]

-- how the functions of a text are written without needless casts
abbrev pub writing : Tree → Function → Writing
writing tree f =
    let names = declared_in tree f in
    record {
      test = kept names;
      choice = chosen_by names;
      place = kept names;
      value = assigned_to names;
      arguments = arguments_by tree f;
      returned = returned_by tree f;
    }

-- the text without needless casts
abbrev pub without_casts : Tree → Tree
without_casts tree = text_by (writing tree) tree
