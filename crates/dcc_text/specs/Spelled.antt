-- The expressions of a graph as expressions of a text, in three ways.
use Rattle.std.specs.Prelude.{ℕ, ◌+◌, ◌-◌, ◌^◌, ◌==◌, nat_lt, nat_le, Bool, true, false, ◌&&◌, not, if◌then◌else◌}
use Rattle.std.specs.Prelude.{Option, Some, None, option_map}
use Rattle.dcc_ir.specs.declared.syntax.UnOp.{UnOp}
use Rattle.dcc_ir.specs.declared.syntax.UnOp.TheVariants.{Neg, Not, IsZero}
use Rattle.dcc_ir.specs.declared.syntax.BinOp.{BinOp}
use Rattle.dcc_ir.specs.declared.syntax.BinOp.TheVariants.{Add, Sub, Mul, DivS, DivU, RemS, RemU, And, Or, Xor, Shl}
use Rattle.dcc_ir.specs.declared.syntax.BinOp.TheVariants.{Shr, Sar, Eq, LtS, LtU, LeS, LeU}
use Rattle.dcc_ir.specs.Location.{location_width}
use Rattle.dcc_ir.specs.Value.{is_comparison, width_of}
use Rattle.dcc_ir.specs.Tree as inner
use Rattle.dcc_c.specs.declared.syntax.Base.{Base}
use Rattle.dcc_c.specs.declared.syntax.Base.TheVariants.{Schar, Uchar, Int, Uint, Long, Ulong}
use Rattle.dcc_c.specs.declared.syntax.CType.{CType}
use Rattle.dcc_c.specs.declared.syntax.CUn.TheVariants.{Minus, Complement, Deref, AddressOf}
use Rattle.dcc_c.specs.declared.syntax.CBin.{CBin}
use Rattle.dcc_c.specs.declared.syntax.CBin.TheVariants.{Or as BitOr, Xor as BitXor, And as BitAnd, Eq as Equal, Lt, Le}
use Rattle.dcc_c.specs.declared.syntax.CBin.TheVariants.{Ne as Unequal, Gt, Ge}
use Rattle.dcc_c.specs.declared.syntax.CBin.TheVariants.{Shl as ShiftLeft, Shr as ShiftRight, Add as Plus, Sub as Less}
use Rattle.dcc_c.specs.declared.syntax.CBin.TheVariants.{Mul as Times, Div as Over, Rem as Rest}
use Rattle.dcc_c.specs.Types.{is_signed, plain, pointer_to, same_type}
use Rattle.dcc_c.specs.Tree.{Expr, Number, Name, Unary, Binary, Conditional, Cast}
use Rattle.dcc_text.specs.Spelling.{Placed, Spelling}

-- What a text's number is to the value of an expression of so many bits: the same in its low bits, the value itself, or
-- the signed number that its bits stand for.
pub data Way : Type 0 where
  Low : Way
  Exact : Way
  Signed : Way

-- Types.

-- the unsigned and the signed type that hold numbers of so many bits; a bit is held in a char
abbrev pub unsigned_type : ℕ → Base
unsigned_type width = if nat_le width 8 then Uchar else if nat_le width 16 then Uint else Ulong

abbrev pub signed_type : ℕ → Base
signed_type width = if nat_le width 8 then Schar else if nat_le width 16 then Int else Long

-- the type in which operators reckon on numbers of so many bits, by sign
abbrev pub reckoning_type : Bool → ℕ → Base
reckoning_type signed width =
    if nat_le width 8 then Int else if signed then signed_type width else unsigned_type width

-- From one way of a number to another.

-- a small number, as a bit or a count
abbrev pub small : ℕ → Expr
small n = Number n Int

-- the low bits of any number, exactly
abbrev pub cut : ℕ → Expr → Expr
cut width e =
    let low = Cast (plain (unsigned_type width)) e in
    if width == 1 then Binary BitAnd low (small 1) else low

-- an exact number with its sign; one bit stands for 0 or -1
abbrev pub signed_reading : ℕ → Expr → Expr
signed_reading width e = if width == 1 then Unary Minus e else Cast (plain (signed_type width)) e

-- any number in a way, by its low bits
abbrev pub cut_to : Way → ℕ → Expr → Expr
cut_to Signed width e = signed_reading width (if width == 1 then cut 1 e else e)
cut_to _ width e = cut width e

-- what an expression gives in one way, in another
abbrev pub taken : Way → Way → ℕ → Expr → Expr
taken have Low width e = e
taken Exact Exact width e = e
taken Exact Signed width e = signed_reading width e
taken Low Exact width e = cut width e
taken Low Signed width e = cut_to Signed width e
taken Signed Exact width e = cut width e
taken Signed Signed width e = e

-- Constants.

-- a constant of so many bits in a way: as a signed number it is below 0 from the half of these numbers on
abbrev pub constant : Way → ℕ → ℕ → Expr
constant Exact width n = Number n (reckoning_type false width)
constant Low width n = Number n (reckoning_type (nat_lt n (2 ^ (width - 1))) width)
constant Signed width n =
    if nat_lt n (2 ^ (width - 1)) then Number n (reckoning_type true width)
    else if n == 2 ^ (width - 1) then cut_to Signed width (Number n (reckoning_type false width))
    else Unary Minus (Number (2 ^ width - n) (reckoning_type true width))

-- Variables.

-- a variable of a char type as one of this char type
abbrev pub as_char : Base → CType → Expr → Expr
as_char base type e = if same_type type (plain base) then e else Cast (plain base) e

-- The bit that a variable of a char type holds, exactly, but for the way of low bits. Where the read votes on the sign
-- of the type, it stands in a cast to a wider type or beneath `%`, or is itself the operand of the operator that votes;
-- else it stands beneath `&`.
abbrev pub bit_read : Way → Bool → Bool → CType → Expr → Expr
bit_read Low votes settled type e = e
bit_read Signed true settled type e =
    if settled then Cast (plain Int) (as_char Schar type e)
    else Binary BitAnd (Binary Rest (as_char Schar type e) (small 2)) (small 1)
bit_read Exact true settled type e =
    if settled then as_char Uchar type e else Binary Rest (as_char Uchar type e) (small 2)
bit_read way false settled type e =
    if settled && not (is_signed type.base) then e else Binary BitAnd e (small 1)

-- A variable of a type, for a location of so many bits. The read votes where the operator that takes it does.
abbrev pub variable : Way → Bool → Bool → ℕ → CType → Expr → Expr
variable way votes settled width type e =
    if type.pointer then cut_to way width e
    else if width == 1 then taken Exact way 1 (bit_read way votes settled type e)
    else taken (if is_signed type.base then Signed else Exact) way width e

-- Addresses.

-- an address in the frame
abbrev pub placed : Option Placed → Expr
placed None = small 0
placed (Some p) =
    let at = Cast (plain Uint) (if p.is_array then Name p.name else Unary AddressOf (Name p.name)) in
    if p.above == 0 then at else Binary Plus at (Number p.above Uint)

-- A pointer to a number of so many bits, at an address whose low bits the expression gives. A pointer to such numbers
-- is one as it stands.
abbrev pub pointer : Spelling → ℕ → inner.Expr → Expr → Expr
pointer s width (inner.Get location) e =
    let type = pointer_to (unsigned_type width) in
    if same_type (s.type location) type then Name (s.name location) else Cast type e
pointer s width address e = Cast (pointer_to (unsigned_type width)) e

-- Operators.

-- The way of sums and the like: from 16 bits on, where the operators reckon in no wider type, they are in the way of
-- their operands.
abbrev pub carried : Way → ℕ → Way
carried way width = if nat_le 16 width then way else Low

-- the way of operators that go bit by bit, which keep exact numbers exact
abbrev pub bitwise : Way → ℕ → Way
bitwise way width = if nat_le 16 width then way else elim way [ Low ↦ Low | _ ↦ Exact ]

-- the way in which numbers are compared: by their low bits where the types have no more
abbrev pub compared : ℕ → Way
compared width = if nat_le 16 width then Low else Exact

-- the way in which the operand of an operator is taken, where the result is wanted in a way
abbrev pub operand_way : UnOp → Way → ℕ → Way
operand_way Neg way width = carried way width
operand_way Not way width = if width == 1 then bitwise way 1 else carried way width
operand_way IsZero way width = compared width

-- the comparison that is true of two numbers where this one is false
abbrev pub opposite_symbol : CBin → Option CBin
opposite_symbol Equal = Some Unequal
opposite_symbol Unequal = Some Equal
opposite_symbol Lt = Some Ge
opposite_symbol Ge = Some Lt
opposite_symbol Le = Some Gt
opposite_symbol Gt = Some Le
opposite_symbol operator = None

-- where the expression is a comparison, the opposite one of the operands
abbrev pub turned : Expr → Option Expr
turned (Binary operator a b) = option_map (λ other. Binary other a b) (opposite_symbol operator)
turned e = None

-- the opposite comparison, or else what is made of the expression
abbrev pub turned_or : (Expr → Expr) → Expr → Expr
turned_or make e = elim (turned e) [ Some opposite ↦ opposite | None ↦ make e ]

-- the other bit
abbrev pub flipped : Expr → Expr
flipped e = Binary BitXor e (small 1)

abbrev pub unary_text : UnOp → ℕ → Expr → Expr
unary_text Neg width a = Unary Minus a
unary_text Not width a = if width == 1 then turned_or flipped a else Unary Complement a
unary_text IsZero width a = Binary Equal a (small 0)

-- the way in which the left operand of an operator is taken, where the result is wanted in a way; `right_way`: the
-- right operand
abbrev pub left_way : BinOp → Way → ℕ → Way
left_way Add way width = carried way width
left_way Sub way width = carried way width
left_way Mul way width = carried way width
left_way Shl way width = carried way width
left_way And way width = bitwise way width
left_way Or way width = bitwise way width
left_way Xor way width = bitwise way width
left_way Eq way width = compared width
left_way DivU way width = Exact
left_way RemU way width = Exact
left_way Shr way width = Exact
left_way LtU way width = Exact
left_way LeU way width = Exact
left_way DivS way width = Signed
left_way RemS way width = Signed
left_way Sar way width = Signed
left_way LtS way width = Signed
left_way LeS way width = Signed

abbrev pub is_shift : BinOp → Bool
is_shift Shl = true
is_shift Shr = true
is_shift Sar = true
is_shift _ = false

abbrev pub right_way : BinOp → Way → ℕ → Way
right_way operator way width = if is_shift operator then Exact else left_way operator way width

-- the operator votes on the sign of its left operand; `votes_right`: of its right one
abbrev pub votes_left : BinOp → Bool
votes_left Add = false
votes_left Sub = false
votes_left Mul = false
votes_left Shl = false
votes_left And = false
votes_left Or = false
votes_left Xor = false
votes_left Eq = false
votes_left _ = true

abbrev pub votes_right : BinOp → Bool
votes_right operator = votes_left operator && not (is_shift operator)

-- the operator of the text
abbrev pub symbol : BinOp → CBin
symbol Add = Plus
symbol Sub = Less
symbol Mul = Times
symbol DivS = Over
symbol DivU = Over
symbol RemS = Rest
symbol RemU = Rest
symbol And = BitAnd
symbol Or = BitOr
symbol Xor = BitXor
symbol Shl = ShiftLeft
symbol Shr = ShiftRight
symbol Sar = ShiftRight
symbol Eq = Equal
symbol LtS = Lt
symbol LtU = Lt
symbol LeS = Le
symbol LeU = Le

-- the way of an operator's result: a truth value is exact, and else operands and results are in one way
abbrev pub unary_result : UnOp → Way → ℕ → Way
unary_result IsZero way width = Exact
unary_result operator way width = operand_way operator way width

abbrev pub binary_result : BinOp → Way → ℕ → Way
binary_result operator way width = if is_comparison operator then Exact else left_way operator way width

-- a value moved down, so that the given bit is its lowest
abbrev pub moved_down : ℕ → Expr → Expr
moved_down first e = if first == 0 then e else Binary ShiftRight e (small first)

-- two halves of so many bits each, joined exactly; each stands in a cast to the wider type
abbrev pub joined : ℕ → Expr → Expr → Expr
joined width high low =
    let whole = plain (unsigned_type (width + width)) in
    Binary BitOr (Binary ShiftLeft (Cast whole high) (small width)) (Cast whole low)

-- The text of an expression in a way, and whether the operator that takes it votes.
abbrev pub text : Spelling → Way → Bool → inner.Expr → Expr
text s way votes (inner.Const width n) = constant way width n
text s way votes (inner.Get location) =
    variable way votes (s.settled location) (location_width s.bits location) (s.type location) (Name (s.name location))
text s way votes (inner.Load width address) =
    taken Exact way width (Unary Deref (pointer s width address (text s Low false address)))
text s way votes (inner.Unary operator width a) =
    taken (unary_result operator way width) way (width_of s.bits (inner.Unary operator width a))
    (unary_text operator width (text s (operand_way operator way width) false a))
text s way votes (inner.Binary operator width a b) =
    taken (binary_result operator way width) way (width_of s.bits (inner.Binary operator width a b))
    (Binary (symbol operator) (text s (left_way operator way width) (votes_left operator) a)
    (text s (right_way operator way width) (votes_right operator) b))
text s way votes (inner.Widen true width a) =
    taken Signed way width (Cast (plain (reckoning_type true width)) (text s Signed true a))
text s way votes (inner.Widen false width a) =
    taken Exact way width (Cast (plain (reckoning_type false width)) (text s Exact true a))
text s way votes (inner.Part width first a) =
    cut_to way width (moved_down first (if first == 0 then text s Low false a else text s Exact true a))
text s way votes (inner.Join high low) =
    let width = width_of s.bits low in
    taken Exact way (width + width) (joined width (text s Exact true high) (text s Exact true low))
text s way votes (inner.Choose test a b) =
    Conditional (text s Exact false test) (text s way false a) (text s way false b)
text s way votes (inner.Address distance) = taken Exact way 16 (placed (s.place distance))

-- Divisions that may fault.

-- A quotient and a remainder of signed bytes. The dividend times 256 is a word, and its division by the divisor faults
-- where that of the bytes does.
abbrev pub byte_quotient : Expr → Expr → Expr
byte_quotient a b = Binary Over (Binary Over (Binary Times (Cast (plain Int) a) (small 256)) b) (small 256)

abbrev pub byte_remainder : Expr → Expr → Expr
byte_remainder a b = Binary Less a (Binary Times (byte_quotient a b) b)

-- the right side of an assignment that stands for a Div; each value is its low bits
abbrev pub division_text : BinOp → ℕ → Expr → Expr → Expr
division_text DivS width a b = if width == 8 then byte_quotient a b else Binary Over a b
division_text RemS width a b = if width == 8 then byte_remainder a b else Binary Rest a b
division_text operator width a b = Binary (symbol operator) a b

abbrev pub text_division : Spelling → inner.Expr → Expr
text_division s (inner.Binary operator width a b) =
    let way = left_way operator Low width in
    division_text operator width (text s way true a) (text s way true b)
text_division s e = text s Low false e
