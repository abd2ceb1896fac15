-- What the text of an expression is to mean: the expression's value, in one of three ways.
use Rattle.std.specs.Prelude.{◌≡◌, ℕ, ◌+◌, ◌%◌, ◌^◌, ◌<◌, ◌==◌, true, false, Bool, if◌then◌else◌, List, map, Some, All}
use Rattle.std.specs.Prelude.{ℤ, pos}
use Rattle.dcc_num.specs.Numbers.{residue_of}
use Rattle.dcc_ir.specs.declared.syntax.Loc.{Loc}
use Rattle.dcc_ir.specs.Location.{location_width, Values}
use Rattle.dcc_ir.specs.Tree as inner
use Rattle.dcc_ir.specs.Use.{reads_of, addresses_of}
use Rattle.dcc_ir.specs.Value.{signed_at, Environment}
use Rattle.dcc_c.specs.declared.syntax.Base.{Base}
use Rattle.dcc_c.specs.declared.syntax.CType.{CType}
use Rattle.dcc_c.specs.Types.{bits_of, is_signed, plain, number_of_type}
use Rattle.dcc_c.specs.Tree.{Expr}
use Rattle.dcc_c.specs.Typing.{type_of}
use Rattle.dcc_c.specs.Value.{number, Gives, Unplaced, PlacedAt, Binding, variable_in, Scope, declared_by, value_of}
use Rattle.dcc_text.specs.Spelling.{Placed, Spelling}
use Rattle.dcc_text.specs.Spelled.{Way, Low, Exact, Signed}

-- Variables.

-- a variable of the type has room for so many bits: a bit stands in a char, and an address is a word
abbrev pub is_type_for : ℕ → CType → Bool
is_type_for width type =
    if type.pointer then width == 16 else bits_of type.base == (if width == 1 then 8 else width)

-- The variable of a location is kept by itself, in a type with room for the location.
pub record IsVariable (s : Spelling) (variables : List Binding) (location : Loc) : Type 0 where
  pub typed : is_type_for (location_width s.bits location) (s.type location) ≡ true
  pub bits : ℕ
  pub found : variable_in variables (s.name location) ≡ Some (record {
    name = s.name location;
    type = s.type location;
    is_array = false;
    storage = Unplaced bits;
  })
  pub room : bits < 2 ^ bits_of (number_of_type (s.type location))

-- A location's variable holds its value: the variable's low bits are the value, and where the variable is settled, it
-- holds no more.
pub record IsHeld (s : Spelling) (values : Values) (variables : List Binding) (location : Loc) : Type 0 where
  pub variable : IsVariable s variables location
  pub low : variable.bits % 2 ^ location_width s.bits location ≡ values location
  pub settled : s.settled location ≡ true → variable.bits ≡ values location

-- The name of an address in the frame is that of a variable that stands so many bytes below it.
pub record IsPlaced (s : Spelling) (base : ℕ) (variables : List Binding) (distance : ℕ) : Type 0 where
  pub placed : Placed
  pub given : s.place distance ≡ Some placed
  pub type : Base
  pub at : ℕ
  pub found : variable_in variables placed.name ≡ Some (record {
    name = placed.name;
    type = plain type;
    is_array = placed.is_array;
    storage = PlacedAt at;
  })
  pub small : placed.above < 65536
  pub there : (at + placed.above) % 65536 ≡ (base + distance) % 65536

-- The text has all that an expression reads: the variables of its locations, its addresses, and an equal memory.
pub record Shows (s : Spelling) (scene : Environment) (scope : Scope) (e : inner.Expr) : Type 0 where
  pub bits : scene.bits ≡ s.bits
  pub reads : All (IsHeld s scene.values scope.variables) (reads_of e)
  pub addresses : All (IsPlaced s scene.base scope.variables) (addresses_of e)
  pub memory : scope.memory ≡ scene.memory

-- Numbers.

-- the number that the bits stand for in a number type
abbrev pub integer : Base → ℕ → ℤ
integer base bits = if is_signed base then signed_at (bits_of base) bits else pos bits

-- a number is a value of so many bits, in a way
abbrev pub Tells : Way → ℕ → ℕ → ℤ → Type 0
Tells Low width n z = residue_of (2 ^ width) z ≡ n
Tells Exact width n z = z ≡ pos n
Tells Signed width n z = z ≡ signed_at width n

-- the expression of a text has a number type, and its value is a number that is this one of so many bits, in a way
pub record IsText (scope : Scope) (way : Way) (width n : ℕ) (e : Expr) : Type 0 where
  pub base : Base
  pub bits : ℕ
  pub room : bits < 2 ^ bits_of base
  pub typed : type_of (map declared_by scope.variables) e ≡ Some (plain base)
  pub valued : value_of scope e ≡ Gives (number base bits)
  pub tells : Tells way width n (integer base bits)
