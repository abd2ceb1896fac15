-- The temporaries in which an instruction holds its operands and its result, and those of what calls give back.
use Rattle.std.specs.Prelude.{ℕ, ◌+◌, ◌==◌, Bool, false, List, ◌∷◌, replicate, get_or}
use Rattle.dcc_num.specs.declared.Width.{Width}
use Rattle.dcc_num.specs.declared.Width.TheVariants.{Byte as byte_width, Word as word_width}
use Rattle.dcc_num.specs.Numbers.{bits_of}
use Rattle.dcc_ir.specs.declared.syntax.Loc.{Loc}
use Rattle.dcc_ir.specs.declared.syntax.Loc.TheVariants.{Temp}

-- how many bytes a call gets back at the most: those of 32 argument words
abbrev pub most_returned : ℕ
most_returned = 64

-- the bits of the temporaries, by their numbers: those of operations, and bytes that calls get back
abbrev pub temporary_bits : List ℕ
temporary_bits = 8 ∷ 8 ∷ 8 ∷ 16 ∷ 16 ∷ 16 ∷ 32 ∷ 1 ∷ replicate most_returned 8

-- the temporary of the left operand
abbrev pub left_place : Width → Loc
left_place byte_width = Temp 0
left_place word_width = Temp 3

-- the temporary of the right operand
abbrev pub right_place : Width → Loc
right_place byte_width = Temp 1
right_place word_width = Temp 4

-- the temporary of the result
abbrev pub result_place : Width → Loc
result_place byte_width = Temp 2
result_place word_width = Temp 5

-- the temporary of a product, of twice the width
abbrev pub product_place : Width → Loc
product_place byte_width = Temp 5
product_place word_width = Temp 6

-- the temporary of CF as it comes in
abbrev pub carry_place : Loc
carry_place = Temp 7

-- the temporary of a byte that a call gets back, by its index
abbrev pub returned_place : ℕ → Loc
returned_place index = Temp (8 + index)

-- the location is a temporary of the width
abbrev pub is_temporary_of : Width → Loc → Bool
is_temporary_of w (Temp n) = get_or temporary_bits n 0 == bits_of w
is_temporary_of w location = false
