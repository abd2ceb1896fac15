-- A listing: a text of lines, of which each gives the next bytes of an image. The first line names the processor and
-- the code segment. Lines end in a line feed.
use Rattle.std.specs.Prelude.{◌≡◌, ◌<◌, ◌≤◌, ℕ, ◌+◌, ◌*◌, List, [], ◌∷◌, ◌++◌, length, All, Contains, codes}
use Rattle.dcc_machine.specs.declared.cpu.Cpu.{Cpu}
use Rattle.dcc_machine.specs.declared.cpu.Cpu.TheVariants.{I8086, I186}
use Rattle.dcc_machine.specs.declared.instr.Op.{Op}
use Rattle.dcc_machine.specs.Load.{load_segment}
use Rattle.dcc_spelled.specs.Hex.{hex_word, hex_bytes}
use Rattle.dcc_spelled.specs.Spelling.{spelling}
use Rattle.dcc_encode.specs.Encoding.{IsEncoding, IsStandard}

-- Places and offsets -------------------------------------------------------------------------

-- the image's byte of this place, counted from the image's start, has this offset in the code segment: a whole number,
-- which doesn't wrap
abbrev pub IsOffset : ℕ → ℕ → ℕ → Type 0
IsOffset cs place at = at + cs * 16 ≡ place + load_segment * 16

-- The forms of lines -------------------------------------------------------------------------

abbrev pub cpu_name : Cpu → List ℕ
cpu_name I8086 = codes "8086"
cpu_name I186 = codes "186"

abbrev pub head_line : Cpu → ℕ → List ℕ
head_line cpu cs = codes "; dcc list 1 " ++ (cpu_name cpu ++ (codes " " ++ hex_word cs))

-- a line for people
abbrev pub comment_line : List ℕ → List ℕ
comment_line words = codes ";" ++ words

-- the offset of the next byte
abbrev pub place_line : ℕ → List ℕ
place_line at = hex_word at ++ codes ":"

abbrev pub bytes_line : List ℕ → List ℕ
bytes_line bytes = codes "    db" ++ hex_bytes bytes

-- an operation, in its standard encoding
abbrev pub operation_line : Op → List ℕ
operation_line op = codes "    " ++ spelling op

-- an operation, in another encoding, which is told
abbrev pub odd_line : List ℕ → Op → List ℕ
odd_line bytes op = codes "    odd" ++ (hex_bytes bytes ++ (codes " " ++ spelling op))

-- bytes, at least one
pub record AreBytes (bytes : List ℕ) : Type 0 where
  pub some : 0 < length bytes
  pub each : All (λ byte. byte < 256) bytes

-- What lines give ----------------------------------------------------------------------------

-- what a line gives after that many bytes of an image for the processor with that code segment
pub data Gives (cpu : Cpu) (cs place : ℕ) : List ℕ → List ℕ → Type 0 where
  comment : {words : List ℕ} → Gives cpu cs place (comment_line words) []
  at_place : {at : ℕ} → at < 65536 → IsOffset cs place at → Gives cpu cs place (place_line at) []
  bytes : {bytes : List ℕ} → AreBytes bytes → length bytes ≤ 16 → Gives cpu cs place (bytes_line bytes) bytes
  standard :
      {at : ℕ} {op : Op} {bytes : List ℕ}
      → IsOffset cs place at
      → IsStandard cpu at op bytes
      → Gives cpu cs place (operation_line op) bytes
  odd :
      {at : ℕ} {op : Op} {bytes : List ℕ}
      → IsOffset cs place at
      → IsEncoding cpu at op bytes
      → ¬ IsStandard cpu at op bytes
      → Gives cpu cs place (odd_line bytes op) bytes

-- what lines give one after another, after that many bytes
pub data GivesInTurn (cpu : Cpu) (cs : ℕ) : ℕ → List (List ℕ) → List ℕ → Type 0 where
  none : {place : ℕ} → GivesInTurn cpu cs place [] []
  next :
      {place : ℕ} {line bytes : List ℕ} {lines : List (List ℕ)} {rest : List ℕ}
      → Gives cpu cs place line bytes
      → GivesInTurn cpu cs (place + length bytes) lines rest
      → GivesInTurn cpu cs place (line ∷ lines) (bytes ++ rest)

-- lines as a text
abbrev pub text_of : List (List ℕ) → List ℕ
text_of [] = []
text_of (line ∷ lines) = line ++ (codes "\n" ++ text_of lines)

-- the bytes have no line feed
abbrev pub IsLine : List ℕ → Type 0
IsLine line = ¬ Contains line 10

-- a listing begins with these lines: the first one tells the processor and the code segment, and the lines after it
-- give these bytes
pub record Begins (cpu : Cpu) (cs : ℕ) (lines : List (List ℕ)) (bytes : List ℕ) : Type 0 where
  pub segment : cs < 65536
  pub unbroken : All IsLine lines
  pub give : GivesInTurn cpu cs 0 lines bytes

-- the text is a listing of the bytes
pub record StandsFor (text bytes : List ℕ) : Type 0 where
  pub cpu : Cpu
  pub cs : ℕ
  pub lines : List (List ℕ)
  pub begins : Begins cpu cs lines bytes
  pub text_is : text ≡ text_of (head_line cpu cs ∷ lines)
