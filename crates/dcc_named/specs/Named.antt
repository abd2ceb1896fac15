-- A text whose accesses to memory are written by the names of its global variables.
use Rattle.std.specs.Prelude.{ℕ, zero, suc, ◌+◌, ◌-◌, ◌%◌, ◌==◌, nat_le, Bool, ◌&&◌, not, if◌then◌else◌, List, [], ◌∷◌}
use Rattle.std.specs.Prelude.{codes, map, Option, Some, None, option_and_then, is_some}
use Rattle.dcc_c.specs.declared.syntax.Base.{Base}
use Rattle.dcc_c.specs.declared.syntax.Base.TheVariants.{Uchar, Int, Uint}
use Rattle.dcc_c.specs.declared.syntax.CType.{CType}
use Rattle.dcc_c.specs.declared.syntax.CUn.{CUn}
use Rattle.dcc_c.specs.declared.syntax.CUn.TheVariants.{Minus, Complement, Not, Deref, AddressOf}
use Rattle.dcc_c.specs.declared.syntax.CBin.{CBin}
use Rattle.dcc_c.specs.declared.syntax.CBin.TheVariants.{Add, Sub}
use Rattle.dcc_c.specs.Token.{same_bytes}
use Rattle.dcc_c.specs.Types.{same_base, same_type, plain, pointer_to, size_of, wrapped_bits, convert}
use Rattle.dcc_c.specs.Placement.{elements}
use Rattle.dcc_c.specs.Tree.{Word, Expr, Number, Name, Unary, Binary, Conditional, Cast, Global, Function, Tree}
use Rattle.dcc_c.specs.Typing.{Declared}
use Rattle.dcc_c.specs.Rules.{declared_in, is_number, expr_depth}
use Rattle.dcc_respell.specs.Writing.{Writing, text_by}

-- Global variables.

-- the first global variable that begins at an offset
abbrev pub begins_at : List Global → ℕ → Option Global
begins_at [] at = None
begins_at (g ∷ globals) at = if g.at == at then Some g else begins_at globals at

-- the global variable that begins at an offset, or else at the greatest one below it at which one begins
abbrev pub begins_before : List Global → ℕ → Option Global
begins_before globals zero = begins_at globals zero
begins_before globals (suc at) =
    elim (begins_at globals (suc at)) [ Some g ↦ Some g | None ↦ begins_before globals at ]

-- one number of the type
abbrev pub is_scalar : Base → Global → Bool
is_scalar base g = not (is_some g.len) && same_type g.type (plain base)

-- an array of bytes
abbrev pub is_bytes : Global → Bool
is_bytes g = is_some g.len && same_type g.type (plain Uchar)

-- Accesses.

-- the offset that a number stands for
abbrev pub offset_of : ℕ → Base → ℕ
offset_of n base = convert base Uint (wrapped_bits base n)

-- so many bytes from a place on
abbrev pub counted : ℕ → Expr
counted count = Number count (if nat_le count 32767 then Int else Uint)

-- what stands at the address of a byte, as a number of the type
abbrev pub number_at : Base → Expr → Expr
number_at base address = Unary Deref (if same_base base Uchar then address else Cast (pointer_to base) address)

-- the address so many bytes behind the first one of an array
abbrev pub behind : Word → Expr → Expr
behind name index = Binary Add (Name name) index

-- the address of the byte of an array with so many before it, where a number of the type begins; the array's name
-- alone is the address of a wider number at its begin
abbrev pub byte_address : Base → Word → ℕ → Expr
byte_address base name count =
    if count == 0 && not (same_base base Uchar) then Name name else behind name (counted count)

-- the array of bytes has all of so many bytes from an offset on, at which it doesn't begin later
abbrev pub reaches : ℕ → ℕ → Global → Bool
reaches at bytes g = nat_le (at + bytes) (g.at + elements g.len)

-- the number of the type at an offset, in the global variable that begins there or before: a scalar, or bytes of an
-- array
abbrev pub direct_in : Base → ℕ → Global → Option Expr
direct_in base at g =
    if g.at == at && is_scalar base g then Some (Name g.name)
    else if is_bytes g && reaches at (size_of (plain base)) g then
    Some (number_at base (byte_address base g.name (at - g.at)))
    else None

-- the number of the type so many bytes behind the first one of an array
abbrev pub indexed_in : Base → Expr → Global → Option Expr
indexed_in base index g = if is_bytes g then Some (number_at base (behind g.name index)) else None

module _ (globals : List Global) (names : List Declared) where
  -- the number of the type at an offset
  abbrev pub direct : Base → ℕ → Option Expr
  direct base at = option_and_then (direct_in base at) (begins_before globals at)

  -- The number of the type at the address that is the sum of a number and an offset at which an array begins. The
  -- offsets 0 and 1 are taken for distances.
  abbrev pub indexed : Base → Expr → ℕ → Option Expr
  indexed base index at =
      if nat_le 2 at && is_number names index then option_and_then (indexed_in base index) (begins_at globals at)
      else None

  -- the number of the type at the address that is the sum or the difference of an expression and an offset
  abbrev pub moved_by : Base → CBin → Expr → ℕ → Option Expr
  moved_by base Add index at = indexed base index at
  moved_by base Sub index at = indexed base index ((65536 - at) % 65536)
  moved_by base operator index at = None

  -- the number of the type at the address that an operator makes of an expression and another one
  abbrev pub moved : Base → CBin → Expr → Expr → Option Expr
  moved base operator index (Number n type) = moved_by base operator index (offset_of n type)
  moved base operator index other = None

  -- the number of the type at an address
  abbrev pub accessed : Base → Expr → Option Expr
  accessed base (Number n type) = direct base (offset_of n type)
  accessed base (Binary operator index other) = moved base operator index other
  accessed base address = None

  -- what a pointer points to, where it is a number that was cast to one
  abbrev pub pointed_by : Expr → Option Expr
  pointed_by (Cast type address) = if type.pointer then accessed type.base address else None
  pointed_by e = None

  -- what a pointer points to
  abbrev pub pointed : Expr → Expr
  pointed e = elim (pointed_by e) [ Some by_names ↦ by_names | None ↦ Unary Deref e ]

  -- Expressions.

  -- an operator on an expression that is also written by names; the operand of `&` stays, which is a name
  abbrev pub unary_named : CUn → Expr → Expr → Expr
  unary_named Deref a by_names = pointed by_names
  unary_named AddressOf a by_names = Unary AddressOf a
  unary_named Minus a by_names = Unary Minus by_names
  unary_named Complement a by_names = Unary Complement by_names
  unary_named Not a by_names = Unary Not by_names

  -- an expression whose accesses are written by names
  abbrev pub named : Expr → Expr
  named (Number n base) = Number n base
  named (Name word) = Name word
  named (Unary operator a) = unary_named operator a (named a)
  named (Binary operator a b) = Binary operator (named a) (named b)
  named (Conditional a b c) = Conditional (named a) (named b) (named c)
  named (Cast type a) = Cast type (named a)

-- Texts.

-- an expression that isn't too deep, or else another one
abbrev pub shallow_or : Expr → Expr → Expr
shallow_or other e = if nat_le (expr_depth e) 200 then e else other

-- an expression of a function by names, where the text may have it
abbrev pub by_names : Tree → Function → Expr → Expr
by_names tree f e = shallow_or e (named tree.globals (declared_in tree f) e)

-- the address of an array of bytes, as a number
abbrev pub address_in : Global → Option Expr
address_in g = if is_bytes g then Some (Cast (plain Uint) (Name g.name)) else None

-- the address of a text that is written, by the name of the array that begins there
abbrev pub written_text : List Global → Expr → Option Expr
written_text globals (Number n type) = option_and_then address_in (begins_at globals (offset_of n type))
written_text globals e = None

-- the argument of `dos_puts`
abbrev pub text_argument : Tree → Function → Expr → Expr
text_argument tree f e = elim (written_text tree.globals e) [ Some address ↦ address | None ↦ by_names tree f e ]

-- the function with this name takes the address of a text
abbrev pub takes_text : Word → Bool
takes_text function = same_bytes function (codes "dos_puts")

-- an argument of the function with a name
abbrev pub argument_named : Tree → Function → Word → Expr → Expr
argument_named tree f function e = if takes_text function then text_argument tree f e else by_names tree f e

-- how the functions of a text are written by names
abbrev pub writing : Tree → Function → Writing
writing tree f = record {
  test = by_names tree f;
  choice = by_names tree f;
  place = by_names tree f;
  value = λ place. by_names tree f;
  arguments = λ function. map (argument_named tree f function);
  returned = by_names tree f;
}

-- the text whose accesses are written by names
abbrev pub with_names : Tree → Tree
with_names tree = text_by (writing tree) tree
