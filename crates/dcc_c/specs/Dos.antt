-- The DOS calls that a text knows without a declaration (Microsoft MS-DOS Programmer's Reference, functions 01h, 02h,
-- 08h, 09h and 4Ch).
use Rattle.std.specs.Prelude.{◌==◌, ℕ, not, Bool, ◌+◌, List, [], ◌∷◌, map, codes, Option, Some, None, if◌then◌else◌}
use Rattle.std.specs.List.{range_with_len, take_while}
use Rattle.dcc_c.specs.declared.syntax.Base.TheVariants.{Uchar, Uint}
use Rattle.dcc_c.specs.declared.syntax.CType.{CType}
use Rattle.dcc_c.specs.Token.{same_bytes}
use Rattle.dcc_c.specs.Types.{plain}
use Rattle.dcc_c.specs.Memory.{byte_at}
use Rattle.dcc_c.specs.Tree.{Word}

pub data Dos : Type 0 where
  -- writes a byte
  Putc : Dos
  -- takes a key and writes it
  Getche : Dos
  -- takes a key
  Getch : Dos
  -- writes the bytes from an address on up to a `$`
  Puts : Dos
  -- ends the run
  Leave : Dos

abbrev pub all_dos : List Dos
all_dos = Putc ∷ Getche ∷ Getch ∷ Puts ∷ Leave ∷ []

abbrev pub dos_name : Dos → Word
dos_name Putc = codes "dos_putc"
dos_name Getche = codes "dos_getche"
dos_name Getch = codes "dos_getch"
dos_name Puts = codes "dos_puts"
dos_name Leave = codes "dos_exit"

abbrev pub dos_names : List Word
dos_names = map dos_name all_dos

abbrev pub dos_in : List Dos → Word → Option Dos
dos_in [] word = None
dos_in (dos ∷ others) word = if same_bytes (dos_name dos) word then Some dos else dos_in others word

-- the call with the name
abbrev pub dos_of : Word → Option Dos
dos_of word = dos_in all_dos word

-- the signature of a function: its result and the types of its parameters
pub record Signature : Type 0 where
  pub result : Option CType
  pub params : List CType

abbrev pub dos_signature : Dos → Signature
dos_signature Putc = record { result = None; params = plain Uchar ∷ [] }
dos_signature Getche = record { result = Some (plain Uchar); params = [] }
dos_signature Getch = record { result = Some (plain Uchar); params = [] }
dos_signature Puts = record { result = None; params = plain Uint ∷ [] }
dos_signature Leave = record { result = None; params = plain Uchar ∷ [] }

-- whether a byte is another than the `$` that ends a string
abbrev pub is_not_dollar : ℕ → Bool
is_not_dollar byte = not (byte == 0x24)

-- the bytes from an address on up to the first `$`, which is not one of them, and at most 65,536
unfoldable pub string_at : List ℕ → ℕ → List ℕ
string_at memory at = take_while is_not_dollar (map (λ k. byte_at memory (at + k)) (range_with_len 0 65536))
