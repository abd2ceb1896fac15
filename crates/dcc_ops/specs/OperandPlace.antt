-- Where operands stand in the inner language: what they hold, and how they are taken and stored.
use Rattle.std.specs.Prelude.{ℕ, Bool, true, false, ◌&&◌, List, [], ◌∷◌}
use Rattle.dcc_num.specs.declared.Width.{Width}
use Rattle.dcc_num.specs.declared.Width.TheVariants.{Byte as byte_width, Word as word_width}
use Rattle.dcc_num.specs.declared.Half.TheVariants.{Low, High}
use Rattle.dcc_num.specs.Numbers.{bits_of}
use Rattle.dcc_ir.specs.declared.syntax.Loc.{Loc}
use Rattle.dcc_ir.specs.declared.syntax.Loc.TheVariants.{Half, Cell}
use Rattle.dcc_ir.specs.Tree.{Expr, Const, Get, Load, Part, Join, Address, Stmt, Set, Fetch, Store}

-- where an operand stands
pub data OperandPlace : Type 0 where
  constant : Width → ℕ → OperandPlace
  -- a half of a register or of a cell
  byte : Loc → OperandPlace
  -- a word: its low and its high half
  word : Loc → Loc → OperandPlace
  -- a width's bytes of the memory, at an address that reads no temporary and no flag
  memory : Width → Expr → OperandPlace
  -- the address at a distance from the base of the frame; nothing is stored there
  address : ℕ → OperandPlace
  -- a word that is computed from general registers and the base of the frame; nothing is stored there
  computed : Expr → OperandPlace

abbrev pub place_width : OperandPlace → Width
place_width (constant w n) = w
place_width (byte location) = byte_width
place_width (word low high) = word_width
place_width (memory w at) = w
place_width (address distance) = word_width
place_width (computed e) = word_width

-- what the place holds
abbrev pub place_value : OperandPlace → Expr
place_value (constant w n) = Const (bits_of w) n
place_value (byte location) = Get location
place_value (word low high) = Join (Get high) (Get low)
place_value (memory w at) = Load (bits_of w) at
place_value (address distance) = Address distance
place_value (computed e) = e

-- the statement by which a location takes what a place holds; what lies in memory is loaded by a statement of its own
abbrev pub taking : Loc → OperandPlace → Stmt
taking to (memory w at) = Fetch to (bits_of w) at
taking to place = Set to (place_value place)

-- the statements by which a place takes the value of an expression over temporaries
abbrev pub storing : OperandPlace → Expr → List Stmt
storing (byte location) e = Set location e ∷ []
storing (word low high) e = Set low (Part 8 0 e) ∷ Set high (Part 8 8 e) ∷ []
storing (memory w at) e = Store (bits_of w) at e ∷ []
storing place e = []

-- the location is a half of a register or of a cell; `is_low`, `is_high`: a low half, a high half
abbrev pub is_half : Loc → Bool
is_half (Half r half) = true
is_half (Cell number half) = true
is_half location = false

abbrev pub is_low : Loc → Bool
is_low (Half r Low) = true
is_low (Cell number Low) = true
is_low location = false

abbrev pub is_high : Loc → Bool
is_high (Half r High) = true
is_high (Cell number High) = true
is_high location = false

-- the place is sound: a byte is a half, and a word has a low and a high half
abbrev pub is_sound_place : OperandPlace → Bool
is_sound_place (byte location) = is_half location
is_sound_place (word low high) = is_low low && is_high high
is_sound_place place = true
