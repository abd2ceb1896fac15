-- Reading a line back: its name stands before the first space, and each part in the two bytes behind a space. What is
-- read from a line of no form doesn't matter, since the text of the parts that were read is compared with the line. This
-- stands between the definitions and the code; no public contract rests on it.
use Rattle.std.specs.Prelude.{◌≡◌, ◌<◌, ◌≤◌, length, ℕ, ◌+◌, ◌*◌, ◌==◌, Bool, if◌then◌else◌, List, [], ◌∷◌, ◌++◌, Option, Some, None}
use Rattle.std.specs.Global.{Vec}
use Rattle.std.specs.List.{position_or_len}
use Rattle.dcc_reread.specs.Reading.{digit_value}
use Rattle.dcc_sigs.specs.declared.line.Line.{Line}
use Rattle.dcc_sigs.specs.Signature.{parts_text, line_of, AreParts, IsSignature, HasForm}

abbrev pub is_space : ℕ → Bool
is_space byte = byte == 32

-- how many bytes stand before the first space
abbrev pub name_size : List ℕ → ℕ
name_size line = position_or_len is_space line

abbrev pub part_of : ℕ → ℕ → Option ℕ
part_of high low = if high == 63 then None else Some (digit_value high * 16 + digit_value low)

abbrev pub parts_in : List ℕ → List (Option ℕ)
parts_in (space ∷ high ∷ low ∷ rest) = part_of high low ∷ parts_in rest
parts_in text = []

-- there are parts, and no more than 64
abbrev pub AreSized : List (Option ℕ) → Type 0
AreSized parts = (0 < length parts) × (length parts ≤ 64)

-- the text is that of the parts
pub record IsTextOf (text : List ℕ) (parts : List (Option ℕ)) : Type 0 where
  pub may_be : AreParts parts
  pub text_is : text ≡ parts_text parts

-- the text is that of what was found, or of no parts
abbrev pub IsPartsReading : List ℕ → Option (Vec (Option ℕ)) → Type 0
IsPartsReading text None = (parts : List (Option ℕ)) → ¬ IsTextOf text parts
IsPartsReading text (Some parts) = IsTextOf text parts.items

-- the line tells this
pub record Tells (text : List ℕ) (line : Line) : Type 0 where
  pub signature : IsSignature line.name.now line.parts.items
  pub text_is : text ≡ line_of line.name.now line.parts.items

-- the line tells what was found, or is no signature's
abbrev pub IsReading : List ℕ → Option Line → Type 0
IsReading text None = ¬ HasForm text
IsReading text (Some line) = Tells text line
