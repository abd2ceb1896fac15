-- A signature of a library procedure, and its line in a file: the name, and then the bytes with which the procedure's
-- code begins, each after a space, where `??` stands for any byte.
use Rattle.std.specs.Prelude.{◌≡◌, ◌<◌, ◌≤◌, ℕ, true, List, ◌++◌, length, take, codes, All, Option, Some, None, string_bytes}
use Rattle.std.specs.List.{list_all, flat_map}
use Rattle.dcc_spelled.specs.Hex.{hex_byte}
use Rattle.dcc_c.specs.Token.{is_word_byte}
use Rattle.dcc_c.specs.Tree.{Word}
use Rattle.dcc_sigs.specs.declared.signature.Sig.{Sig}

-- Lines --------------------------------------------------------------------------------------

-- a byte, or any byte
abbrev pub part_text : Option ℕ → List ℕ
part_text (Some byte) = codes " " ++ hex_byte byte
part_text None = codes " ??"

abbrev pub parts_text : List (Option ℕ) → List ℕ
parts_text parts = flat_map part_text parts

abbrev pub line_of : Word → List (Option ℕ) → List ℕ
line_of name parts = name ++ parts_text parts

-- the line of a signature
abbrev pub sig_line : Sig → List ℕ
sig_line sig = line_of (string_bytes sig.name) sig.bytes.items

-- Signatures ---------------------------------------------------------------------------------

-- a name that begins with `lib_`: at most 31 letters, digits and `_`
pub record IsName (name : Word) : Type 0 where
  pub short : length name ≤ 31
  pub begins : take 4 name ≡ codes "lib_"
  pub letters : list_all is_word_byte name ≡ true

-- a byte, where it is one
abbrev pub IsPart : Option ℕ → Type 0
IsPart (Some byte) = byte < 256
IsPart None = Unit {0}

-- parts of a signature: 1 to 64
pub record AreParts (parts : List (Option ℕ)) : Type 0 where
  pub some : 0 < length parts
  pub few : length parts ≤ 64
  pub each : All IsPart parts

-- a name and parts that a signature may have
pub record IsSignature (name : Word) (parts : List (Option ℕ)) : Type 0 where
  pub is_name : IsName name
  pub are_parts : AreParts parts

-- the signature has a name and parts that it may have
abbrev pub IsSig : Sig → Type 0
IsSig sig = IsSignature (string_bytes sig.name) sig.bytes.items

-- the line is that of a signature with this name
pub record IsLineOf (line : List ℕ) (name : Word) : Type 0 where
  pub parts : List (Option ℕ)
  pub signature : IsSignature name parts
  pub line_is : line ≡ line_of name parts

-- the line is that of a signature
pub record HasForm (line : List ℕ) : Type 0 where
  pub name : Word
  pub of_name : IsLineOf line name
