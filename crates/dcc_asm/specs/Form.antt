-- Reading a line back: its form is found by the bytes at a few places. What is read from a line of no form doesn't
-- matter, since the line of what was read is compared with it. This stands between the definitions and the code; no
-- public contract rests on it.
use Rattle.std.specs.Prelude.{◌≡◌, ◌<◌, ◌≤◌, ℕ, ◌+◌, ◌-◌, ◌*◌, ◌==◌, Bool, ◌&&◌, not, nat_le, if◌then◌else◌}
use Rattle.std.specs.Prelude.{List, [], ◌∷◌, take, drop, length, Option, Some, None, option_map}
use Rattle.std.specs.List.{position_or_len}
use Rattle.dcc_machine.specs.declared.instr.Op.{Op}
use Rattle.dcc_reread.specs.Reading.{byte_of, digit_value, word_value, operation_in}
use Rattle.dcc_list.specs.Text.{AreBytes, place_line, bytes_line, operation_line, odd_line}
use Rattle.dcc_asm.specs.declared.line.Line.{Line}
use Rattle.dcc_asm.specs.declared.line.Line.TheVariants.{Place, Bytes, Operation, Odd}
use Rattle.dcc_asm.specs.Fault.{IsKnown}

-- what a line tells that is no line for people
pub data Form : Type 0 where
  place : ℕ → Form
  bytes : List ℕ → Form
  operation : Op → Form
  odd : List ℕ → Op → Form

abbrev pub form_of : Line → Form
form_of (Place at) = place at
form_of (Bytes told) = bytes told.items
form_of (Operation op) = operation op
form_of (Odd told op) = odd told.items op

abbrev pub form_line : Form → List ℕ
form_line (place at) = place_line at
form_line (bytes told) = bytes_line told
form_line (operation op) = operation_line op
form_line (odd told op) = odd_line told op

-- a line tells this where it has the form
abbrev pub IsValid : Form → Type 0
IsValid (place at) = at < 65536
IsValid (bytes told) = AreBytes told × (length told ≤ 16)
IsValid (operation op) = IsKnown op
IsValid (odd told op) = AreBytes told × IsKnown op

-- there are bytes, and in a line of bytes no more than 16
abbrev pub IsSized : Form → Type 0
IsSized (place at) = Unit {0}
IsSized (bytes told) = (0 < length told) × (length told ≤ 16)
IsSized (operation op) = Unit {0}
IsSized (odd told op) = 0 < length told

-- the bytes of digits, two after each space
abbrev pub pairs : List ℕ → List ℕ
pairs (space ∷ high ∷ low ∷ rest) = (digit_value high * 16 + digit_value low) ∷ pairs rest
pairs text = []

abbrev pub is_bytes_line : List ℕ → Bool
is_bytes_line line = (byte_of line 4 == 100) && (byte_of line 5 == 98) && (byte_of line 6 == 32)

abbrev pub is_odd_line : List ℕ → Bool
is_odd_line line = (byte_of line 4 == 111) && (byte_of line 5 == 100)

-- where the spelling begins behind bytes: at the first lower-case letter
abbrev pub spelling_place : List ℕ → ℕ
spelling_place text = position_or_len (λ byte. nat_le 97 byte) text

-- bytes and a spelling
abbrev pub odd_form : List ℕ → Option Form
odd_form text =
    option_map (odd (pairs (take (spelling_place text - 1) text))) (operation_in (drop (spelling_place text) text))

-- the form that the line may have; it has no other one
abbrev pub read_form : List ℕ → Option Form
read_form line =
    if not (byte_of line 0 == 32) then Some (place (word_value line 0))
    else if is_bytes_line line then Some (bytes (pairs (drop 6 line)))
    else if is_odd_line line then odd_form (drop 7 line)
    else option_map operation (operation_in (drop 4 line))

-- the line tells this
pub record Tells (text : List ℕ) (form : Form) : Type 0 where
  pub is_line : text ≡ form_line form
  pub is_read : read_form text ≡ Some form
  pub is_sized : IsSized form

-- the line tells what was found, or it has no form
abbrev pub IsReading : List ℕ → Option Line → Type 0
IsReading text (Some line) = Tells text (form_of line)
IsReading text None = (form : Form) → IsValid form → ¬ (text ≡ form_line form)
