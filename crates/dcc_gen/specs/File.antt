-- The file of a program: an MZ executable (Microsoft MS-DOS Programmer's Reference, "EXE file header").
use Rattle.std.specs.Prelude.{◌≡◌, ℕ, ◌+◌, ◌*◌, ◌-◌, ◌%◌, List, [], ◌∷◌, ◌++◌, length, replicate}
use Rattle.std.specs.Int.{div_ceil}
use Rattle.std.specs.List.{flat_map}
use Rattle.dcc_gen.specs.Code.{first_code, code_of}
use Rattle.dcc_gen.specs.Pieces.{word_bytes}
use Rattle.dcc_gen.specs.Program.{Program, IsDrawnFrom}

-- the paragraphs of 16 bytes that the code takes, with the five bytes of its first instructions
abbrev pub paragraphs_of : List ℕ → ℕ
paragraphs_of code = div_ceil (5 + length code) 16

-- the image: the code, zeros up to a whole paragraph, and then the words of the data, where DS begins
abbrev pub image_of : List ℕ → List ℕ → List ℕ
image_of code words =
    let paragraphs = paragraphs_of code in
    first_code paragraphs ++ (code ++ (replicate (16 * paragraphs - (5 + length code)) 0 ++ flat_map word_bytes words))

-- the words of the header behind the letters MZ, and its one relocation, for a file of such a length whose code takes
-- so many paragraphs: the bytes in the last page, where 0 means a full one, and the pages of 512 bytes; the number of
-- relocations; the paragraphs of the header; the least and the greatest memory behind the image; SS, where the data
-- ends, and SP; the checksum; IP and CS; the offset of the relocation, and the overlay; the relocation's offset and
-- segment, which name the word of the first instruction
abbrev pub header_words : ℕ → ℕ → List ℕ
header_words bytes paragraphs =
    (bytes % 512) ∷ div_ceil bytes 512 ∷ 1 ∷ 2 ∷ 0 ∷ 0xFFFF ∷ (paragraphs + 8) ∷ 0x0200 ∷ 0 ∷ 0 ∷ 0 ∷ 0x1C ∷ 0
    ∷ 1 ∷ 0 ∷ []

-- the header: the letters MZ, and words
abbrev pub header_of : ℕ → ℕ → List ℕ
header_of bytes paragraphs = 0x4D ∷ 0x5A ∷ flat_map word_bytes (header_words bytes paragraphs)

-- the file with such code and such words of data: a header of 32 bytes, and the image
unfoldable pub file_with : List ℕ → List ℕ → List ℕ
file_with code words =
    let image = image_of code words in header_of (32 + length image) (paragraphs_of code) ++ image

-- the file of a program
abbrev pub file_of : Program → List ℕ
file_of program = file_with (code_of program.start program.bodies) program.words

-- the file is that of the program of `size` pieces which is drawn from the seed
pub record IsMade (seed size : ℕ) (file : List ℕ) : Type 0 where
  pub program : Program
  pub drawn : IsDrawnFrom seed size program
  pub bytes : file ≡ file_of program
