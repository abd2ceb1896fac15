-- Types and conversions (ISO/IEC 9899:1990, 6.1.2.5 and 6.2), on two's complement bit patterns.
use Rattle.std.specs.Prelude.{ℕ, ◌+◌, ◌-◌, ◌/◌, ◌%◌, ◌^◌, Bool, true, false, ◌&&◌, nat_le, if◌then◌else◌}
use Rattle.std.specs.Bool.{beq}
use Rattle.dcc_c.specs.declared.syntax.Base.{Base}
use Rattle.dcc_c.specs.declared.syntax.Base.TheVariants.{Schar, Uchar, Int, Uint, Long, Ulong}
use Rattle.dcc_c.specs.declared.syntax.CType.{CType}

-- how many bits a number type has
abbrev pub bits_of : Base → ℕ
bits_of Schar = 8
bits_of Uchar = 8
bits_of Int = 16
bits_of Uint = 16
bits_of Long = 32
bits_of Ulong = 32

abbrev pub is_signed : Base → Bool
is_signed Schar = true
is_signed Uchar = false
is_signed Int = true
is_signed Uint = false
is_signed Long = true
is_signed Ulong = false

-- the two number types are one
abbrev pub same_base : Base → Base → Bool
same_base Schar Schar = true
same_base Uchar Uchar = true
same_base Int Int = true
same_base Uint Uint = true
same_base Long Long = true
same_base Ulong Ulong = true
same_base _ _ = false

-- the type of an operand: char types become int
abbrev pub promoted_type : Base → Base
promoted_type Schar = Int
promoted_type Uchar = Int
promoted_type Int = Int
promoted_type Uint = Uint
promoted_type Long = Long
promoted_type Ulong = Ulong

-- the common type of two promoted types: the first of unsigned long, long, unsigned int, int that one of them has
abbrev pub common_of_promoted : Base → Base → Base
common_of_promoted Ulong b = Ulong
common_of_promoted Long Ulong = Ulong
common_of_promoted Long _ = Long
common_of_promoted Uint Ulong = Ulong
common_of_promoted Uint Long = Long
common_of_promoted Uint _ = Uint
common_of_promoted _ b = promoted_type b

-- the common type of two operands
abbrev pub common_type : Base → Base → Base
common_type a b = common_of_promoted (promoted_type a) (promoted_type b)

-- the low bits of a number that its type has
abbrev pub wrapped_bits : Base → ℕ → ℕ
wrapped_bits type n = n % 2 ^ bits_of type

-- the value is below 0
abbrev pub is_negative : Base → ℕ → Bool
is_negative type n = is_signed type && nat_le (2 ^ (bits_of type - 1)) n

-- the 32 bits of a value: a negative one is extended by ones
abbrev pub extended_bits : Base → ℕ → ℕ
extended_bits type n = if is_negative type n then n + (2 ^ 32 - 2 ^ bits_of type) else n

-- a value of the first type as one of the second: its low bits, extended where the second is wider
abbrev pub convert : Base → Base → ℕ → ℕ
convert from to n = wrapped_bits to (extended_bits from n)

-- a number type
abbrev pub plain : Base → CType
plain base = record { base = base; pointer = false }

-- the type of addresses of numbers of this type
abbrev pub pointer_to : Base → CType
pointer_to base = record { base = base; pointer = true }

-- the two types are one
abbrev pub same_type : CType → CType → Bool
same_type a b = same_base a.base b.base && beq a.pointer b.pointer

-- the number type whose bits a value of the type has: an address is 16 unsigned bits
abbrev pub number_of_type : CType → Base
number_of_type type = if type.pointer then Uint else type.base

-- how many bytes of memory a value of the type takes
abbrev pub size_of : CType → ℕ
size_of type = bits_of (number_of_type type) / 8
