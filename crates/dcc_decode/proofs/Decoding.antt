-- The instruction that some bytes are, by what is read of them.
use Rattle.std.proofs.Common.{◌≡◌, ℕ, ◌+◌, ◌*◌, ◌<◌, ◌≤◌, Bool, true, false, ◌&&◌, nat_le, List, [], ◌∷◌, length, length-drop, drop, refl, sym, ◌∙◌, ap, inl, inr, arith}
use Rattle.std.specs.Prelude.{◌≢◌, slice_get, slice_index, Option, Some, None}
use Rattle.std.proofs.lemmas.Bool.{cases_lt}
use Rattle.std.proofs.lemmas.Bool.Decides.{nat_tests}
use Rattle.dcc_num.specs.declared.Reg.{Reg}
use Rattle.dcc_num.specs.declared.Reg.TheVariants.{Bx, Si, Di}
use Rattle.dcc_machine.specs.declared.cpu.Cpu.{Cpu}
use Rattle.dcc_machine.specs.declared.cpu.Cpu.TheVariants.{I8086, I186}
use Rattle.dcc_machine.specs.declared.instr.Op.{Op}
use Rattle.dcc_machine.specs.declared.instr.Op.TheVariants.{Int21, Table, Enter}
use Rattle.dcc_machine.specs.declared.instr.Instr.{Instr}
use Rattle.dcc_machine.specs.Bytes.{word_at}
use Rattle.dcc_machine.specs.Table.{Row, Parts, fits_byte, fits, matches, row_length, this_byte, any_byte, bytes_between, table, IsRow, instruction_at}
use Rattle.dcc_machine.proofs.TableLaws.{and_left, and_right, and_both, has_bytes-le, has_bytes-of_le, instruction-row, instruction-of_row}
use Rattle.dcc_decode.specs.declared.fields.Fields.{Fields}
use Rattle.dcc_decode.specs.Reading.{parts_of, operation_of, is_opcode_row, IsOpcodeRow, ReadsRows, FitsAsRead}
use Rattle.dcc_decode.proofs.Forms.{told, fits-between, fits-one}
use Rattle.dcc_decode.proofs.LowerRows.{of_row_for}
use Rattle.dcc_decode.proofs.LaterRows.{row_of_later, operation-row}

-- INT 21h and the table jumps ------------------------------------------------------------------------

pub interrupt_some :
    (cpu : Cpu) (at : ℕ) (rest : List ℕ) → slice_get rest 0 ≡ Some 0x21
    → instruction_at cpu at (0xcd ∷ rest) ≡ Some (record { op = Int21; len = 2 })
unfolding instruction_at table
interrupt_some cpu at [] e = cc
interrupt_some cpu at (b ∷ rest) e = let same : b ≡ 0x21 = cc in rw same refl

interrupt_byte :
    (cpu : Cpu) (at b : ℕ) (rest : List ℕ) → fits_byte (this_byte 0x21) b ≡ false
    → instruction_at cpu at (0xcd ∷ b ∷ rest) ≡ None
unfolding instruction_at table
interrupt_byte I8086 at b rest e = rw e refl
interrupt_byte I186 at b rest e = rw e refl

other_byte : (byte b : ℕ) → b ≢ byte → fits_byte (this_byte byte) b ≡ false
other_byte byte b n =
    let out : nat_le byte b && nat_le b byte ≡ false = grind (arith, nat_tests) in rw out refl

pub interrupt_other :
    (cpu : Cpu) (at b : ℕ) (rest : List ℕ) → slice_get rest 0 ≡ Some b → b ≢ 0x21
    → instruction_at cpu at (0xcd ∷ rest) ≡ None
interrupt_other cpu at b [] e n = cc
interrupt_other cpu at b (c ∷ rest) e n = let same : c ≡ b = cc in interrupt_byte cpu at c rest (other_byte 0x21 c (rw same n))

pub interrupt_end :
    (cpu : Cpu) (at : ℕ) (rest : List ℕ) → slice_get rest 0 ≡ None → instruction_at cpu at (0xcd ∷ rest) ≡ None
unfolding instruction_at table
interrupt_end I8086 at [] e = refl
interrupt_end I186 at [] e = refl
interrupt_end cpu at (b ∷ rest) e = cc

pub ruleset interrupt_rules = (interrupt_some, interrupt_other, interrupt_end)

and_false : (x : Bool) → x && false ≡ false
and_false true = refl
and_false false = refl

pub table_jump_short :
    (cpu : Cpu) (at : ℕ) (rest : List ℕ) → length rest < 4 → instruction_at cpu at (0x2e ∷ rest) ≡ None
unfolding instruction_at table
table_jump_short I8086 at [] l = refl
table_jump_short I186 at [] l = refl
table_jump_short I8086 at (a ∷ []) l = simp and_false
table_jump_short I186 at (a ∷ []) l = simp and_false
table_jump_short I8086 at (a ∷ b ∷ []) l = simp and_false
table_jump_short I186 at (a ∷ b ∷ []) l = simp and_false
table_jump_short I8086 at (a ∷ b ∷ c ∷ []) l = simp and_false
table_jump_short I186 at (a ∷ b ∷ c ∷ []) l = simp and_false
table_jump_short cpu at (a ∷ b ∷ c ∷ d ∷ rest) l = absurd (omega arith)

table_jump_at :
    (cpu : Cpu) (at a m low high : ℕ) (rest : List ℕ) → fits_byte (this_byte 0xff) a ≡ false
    → instruction_at cpu at (0x2e ∷ a ∷ m ∷ low ∷ high ∷ rest) ≡ None
unfolding instruction_at table
table_jump_at I8086 at a m low high rest e = rw e refl
table_jump_at I186 at a m low high rest e = rw e refl

pub table_jump_other :
    (cpu : Cpu) (at : ℕ) (rest : List ℕ) → 4 ≤ length rest → slice_index rest 0 ≢ 0xff
    → instruction_at cpu at (0x2e ∷ rest) ≡ None
table_jump_other cpu at [] l n = absurd (omega arith)
table_jump_other cpu at (a ∷ []) l n = absurd (omega arith)
table_jump_other cpu at (a ∷ b ∷ []) l n = absurd (omega arith)
table_jump_other cpu at (a ∷ b ∷ c ∷ []) l n = absurd (omega arith)
table_jump_other cpu at (a ∷ b ∷ c ∷ d ∷ rest) l n = table_jump_at cpu at a b c d rest (other_byte 0xff a n)

table_jump_modrm_at :
    (cpu : Cpu) (at m low high : ℕ) (rest : List ℕ) → fits_byte (this_byte 0xa4) m ≡ false
    → fits_byte (this_byte 0xa5) m ≡ false → fits_byte (this_byte 0xa7) m ≡ false
    → instruction_at cpu at (0x2e ∷ 0xff ∷ m ∷ low ∷ high ∷ rest) ≡ None
unfolding instruction_at table
table_jump_modrm_at I8086 at m low high rest e f g = rw (e, f, g) refl
table_jump_modrm_at I186 at m low high rest e f g = rw (e, f, g) refl

pub table_jump_modrm :
    (cpu : Cpu) (at : ℕ) (rest : List ℕ) → 4 ≤ length rest → slice_index rest 0 ≡ 0xff
    → slice_index rest 1 ≢ 0xa4 → slice_index rest 1 ≢ 0xa5 → slice_index rest 1 ≢ 0xa7
    → instruction_at cpu at (0x2e ∷ rest) ≡ None
table_jump_modrm cpu at [] l s n m k = absurd (omega arith)
table_jump_modrm cpu at (a ∷ []) l s n m k = absurd (omega arith)
table_jump_modrm cpu at (a ∷ b ∷ []) l s n m k = absurd (omega arith)
table_jump_modrm cpu at (a ∷ b ∷ c ∷ []) l s n m k = absurd (omega arith)
table_jump_modrm cpu at (a ∷ b ∷ c ∷ d ∷ rest) l s n m k =
    let same : a ≡ 0xff = s in
    rw same (table_jump_modrm_at cpu at b c d rest (other_byte 0xa4 b n) (other_byte 0xa5 b m) (other_byte 0xa7 b k))

-- the jump by a register to the word after the first two bytes
abbrev jump_by : Reg → List ℕ → Option Instr
jump_by r rest = Some (record { op = Table r (slice_index rest 2 + 256 * slice_index rest 3); len = 5 })

-- the register that the third byte of a table jump names
table_jump :
    (cpu : Cpu) (byte : ℕ) (r : Reg) (at : ℕ) (rest : List ℕ)
    → ((low high : ℕ) (more : List ℕ) → instruction_at cpu at (0x2e ∷ 0xff ∷ byte ∷ low ∷ high ∷ more) ≡ jump_by r (0xff ∷ byte ∷ low ∷ high ∷ more))
    → 4 ≤ length rest → slice_index rest 0 ≡ 0xff → slice_index rest 1 ≡ byte
    → instruction_at cpu at (0x2e ∷ rest) ≡ jump_by r rest
table_jump cpu byte r at [] jump l s n = absurd (omega arith)
table_jump cpu byte r at (a ∷ []) jump l s n = absurd (omega arith)
table_jump cpu byte r at (a ∷ b ∷ []) jump l s n = absurd (omega arith)
table_jump cpu byte r at (a ∷ b ∷ c ∷ []) jump l s n = absurd (omega arith)
table_jump cpu byte r at (a ∷ b ∷ c ∷ d ∷ rest) jump l s n =
    let second : a ≡ 0xff = s in
    let third : b ≡ byte = n in
    rw (second, third) (jump c d rest)

pub table_jump_si :
    (cpu : Cpu) (at : ℕ) (rest : List ℕ) → 4 ≤ length rest → slice_index rest 0 ≡ 0xff
    → slice_index rest 1 ≡ 0xa4 → instruction_at cpu at (0x2e ∷ rest) ≡ jump_by Si rest
unfolding instruction_at table word_at
table_jump_si cpu at rest = table_jump cpu 0xa4 Si at rest (λ low high more. refl)

pub table_jump_di :
    (cpu : Cpu) (at : ℕ) (rest : List ℕ) → 4 ≤ length rest → slice_index rest 0 ≡ 0xff
    → slice_index rest 1 ≡ 0xa5 → instruction_at cpu at (0x2e ∷ rest) ≡ jump_by Di rest
unfolding instruction_at table word_at
table_jump_di cpu at rest = table_jump cpu 0xa5 Di at rest (λ low high more. refl)

pub table_jump_bx :
    (cpu : Cpu) (at : ℕ) (rest : List ℕ) → 4 ≤ length rest → slice_index rest 0 ≡ 0xff
    → slice_index rest 1 ≡ 0xa7 → instruction_at cpu at (0x2e ∷ rest) ≡ jump_by Bx rest
unfolding instruction_at table word_at
table_jump_bx cpu at rest = table_jump cpu 0xa7 Bx at rest (λ low high more. refl)

pub ruleset table_jump_rules = (table_jump_short, table_jump_other, table_jump_modrm, table_jump_si, table_jump_di, table_jump_bx)

-- ENTER -------------------------------------------------------------------------------------------

pub enter_earlier : (at : ℕ) (rest : List ℕ) → instruction_at I8086 at (0xc8 ∷ rest) ≡ None
unfolding instruction_at table
enter_earlier at rest = refl

pub enter_short : (cpu : Cpu) (at : ℕ) (rest : List ℕ) → length rest < 3 → instruction_at cpu at (0xc8 ∷ rest) ≡ None
unfolding instruction_at table
enter_short I8086 at rest l = refl
enter_short I186 at [] l = refl
enter_short I186 at (a ∷ []) l = simp and_false
enter_short I186 at (a ∷ b ∷ []) l = simp and_false
enter_short I186 at (a ∷ b ∷ c ∷ rest) l = absurd (omega arith)

enter_level :
    (at low high level : ℕ) (rest : List ℕ) → fits_byte (this_byte 0x00) level ≡ false
    → instruction_at I186 at (0xc8 ∷ low ∷ high ∷ level ∷ rest) ≡ None
unfolding instruction_at table
enter_level at low high level rest e = rw e (simp and_false)

pub enter_other :
    (cpu : Cpu) (at : ℕ) (rest : List ℕ) → 3 ≤ length rest → slice_index rest 2 ≢ 0
    → instruction_at cpu at (0xc8 ∷ rest) ≡ None
enter_other I8086 at rest l n = enter_earlier at rest
enter_other I186 at [] l n = absurd (omega arith)
enter_other I186 at (a ∷ []) l n = absurd (omega arith)
enter_other I186 at (a ∷ b ∷ []) l n = absurd (omega arith)
enter_other I186 at (a ∷ b ∷ c ∷ rest) l n = enter_level at a b c rest (other_byte 0x00 c n)

fits-any : (byte : ℕ) → byte < 256 → fits_byte any_byte byte ≡ true
fits-any byte l = fits-between 0x00 0xff byte (omega arith) (omega arith) l

enter_whole :
    (at low high : ℕ) (rest : List ℕ) → fits_byte any_byte low ≡ true → fits_byte any_byte high ≡ true
    → instruction_at I186 at (0xc8 ∷ low ∷ high ∷ 0x00 ∷ rest) ≡ Some (record { op = Enter (low + 256 * high); len = 4 })
unfolding instruction_at table word_at
enter_whole at low high rest e f = rw (e, f) refl

pub enter_some :
    (at : ℕ) (rest : List ℕ) → 3 ≤ length rest → slice_index rest 0 < 256 → slice_index rest 1 < 256
    → slice_index rest 2 ≡ 0
    → instruction_at I186 at (0xc8 ∷ rest) ≡ Some (record { op = Enter (slice_index rest 0 + 256 * slice_index rest 1); len = 4 })
enter_some at [] l f g e = absurd (omega arith)
enter_some at (a ∷ []) l f g e = absurd (omega arith)
enter_some at (a ∷ b ∷ []) l f g e = absurd (omega arith)
enter_some at (a ∷ b ∷ c ∷ rest) l f g e =
    let level : c ≡ 0 = e in rw level (enter_whole at a b rest (fits-any a f) (fits-any b g))

pub ruleset enter_rules = (enter_earlier, enter_short, enter_other, enter_some)

-- Instructions that begin with another byte than 2Eh, C8h and CDh -----------------------------------------

-- a row that begins with another byte than 2Eh, C8h and CDh has an opcode and a ModRM byte at most
opcode_row :
    (cpu : Cpu) (b : ℕ) (bytes : List ℕ) (row : Row) → b < 256 → b ≢ 0x2e → b ≢ 0xc8 → b ≢ 0xcd → IsRow cpu row
    → fits row.pattern (b ∷ bytes) ≡ true → IsOpcodeRow row
unfolding table
opcode_row cpu b bytes row l n o m is h =
    let by_opcode : Row → Bool = λ r. is_opcode_row r in
    let at = row_of_later cpu row is in
    let within : (first last : ℕ) → first ≤ b → b ≤ last → fits (bytes_between first last ∷ []) (b ∷ bytes) ≡ true =
    λ first last low high. fits-one (bytes_between first last) b bytes (fits-between first last b low high l) in (
      at,
      elim (cases_lt b 0x2e) [
        | inl x ↦ told (bytes_between 0x00 0x2d ∷ []) by_opcode (b ∷ bytes) refl (within 0x00 0x2d (omega arith) (omega arith)) row at h
        | inr x ↦ elim (cases_lt b 0xc8) [
          | inl y ↦ told (bytes_between 0x2f 0xc7 ∷ []) by_opcode (b ∷ bytes) refl (within 0x2f 0xc7 (omega arith) (omega arith)) row at h
          | inr y ↦ elim (cases_lt b 0xcd) [
            | inl z ↦ told (bytes_between 0xc9 0xcc ∷ []) by_opcode (b ∷ bytes) refl (within 0xc9 0xcc (omega arith) (omega arith)) row at h
            | inr z ↦ told (bytes_between 0xce 0xff ∷ []) by_opcode (b ∷ bytes) refl (within 0xce 0xff (omega arith) (omega arith)) row at h
          ]
        ]
      ],
    )

some_or_none : {A : Type 0} (x : A) → Some x ≡ None → ⊥
some_or_none x e = cc

-- no instruction where no row matches
no_row :
    (cpu : Cpu) (at : ℕ) (bytes : List ℕ) → ((row : Row) → IsRow cpu row → matches row bytes ≡ true → ⊥)
    → instruction_at cpu at bytes ≡ None
no_row cpu at bytes none =
    let P : Option Instr → Type 0 = λ o. instruction_at cpu at bytes ≡ o → o ≡ None in
    let cases : (o : Option Instr) → P o = λ o. elim o as P [ None ↦ λ e. refl | Some x ↦ λ e. let r = instruction-row cpu at bytes x e in absurd (none r.0 r.1 r.2) ] in
    cases (instruction_at cpu at bytes) refl

enough_bytes :
    (row : Row) (bytes : List ℕ) → matches row bytes ≡ true → row_length row bytes ≤ length bytes
enough_bytes row bytes m = has_bytes-le (row_length row bytes) bytes (and_right (fits row.pattern bytes) _ m)

pub decode-unread :
    (cpu : Cpu) (at b : ℕ) (bytes : List ℕ) → b < 256 → b ≢ 0x2e → b ≢ 0xc8 → b ≢ 0xcd → ReadsRows (b ∷ bytes) at None
    → instruction_at cpu at (b ∷ bytes) ≡ None
decode-unread cpu at b bytes l n o m reads =
    no_row cpu at (b ∷ bytes) (λ row is matched.
    reads.complete row (opcode_row cpu b bytes row l n o m is (and_left _ _ matched)) (and_left _ _ matched) (enough_bytes row (b ∷ bytes) matched))

pub decode-no_operation :
    (cpu : Cpu) (at b : ℕ) (bytes : List ℕ) (fields : Fields) → b < 256 → b ≢ 0x2e → b ≢ 0xc8 → b ≢ 0xcd
    → ReadsRows (b ∷ bytes) at (Some fields) → FitsAsRead (b ∷ bytes) fields
    → operation_of cpu (parts_of fields) ≡ None → instruction_at cpu at (b ∷ bytes) ≡ None
decode-no_operation cpu at b bytes fields l n o m reads fitting none =
    no_row cpu at (b ∷ bytes) (λ row is matched.
    let by_opcode = opcode_row cpu b bytes row l n o m is (and_left _ _ matched) in
    let some = of_row_for cpu is.0 row (parts_of fields) is.1 ((fitting.of_row row by_opcode).0 (and_left _ _ matched)) in
    some_or_none (row.operation (parts_of fields)) (sym some ∙ none))

opcode_row_of_fields :
    (cpu : Cpu) (opcode modrm b : ℕ) (row : Row) → opcode ≡ b → b < 256 → b ≢ 0x2e → b ≢ 0xc8 → b ≢ 0xcd → IsRow cpu row
    → fits row.pattern (opcode ∷ modrm ∷ []) ≡ true → IsOpcodeRow row
opcode_row_of_fields cpu opcode modrm b row e l n o m is h = opcode_row cpu b (modrm ∷ []) row l n o m is (rw e at h)

instr_same :
    (op op' : Op) (len len' : ℕ) → op ≡ op' → len ≡ len'
    → ◌≡◌ {A = Instr} (record { op = op; len = len }) (record { op = op'; len = len' })
instr_same op op' len len' p q = cc

pub decode-operation :
    (cpu : Cpu) (at b : ℕ) (bytes : List ℕ) (fields : Fields) (op : Op) → b < 256 → b ≢ 0x2e → b ≢ 0xc8 → b ≢ 0xcd
    → ReadsRows (b ∷ bytes) at (Some fields) → FitsAsRead (b ∷ bytes) fields → fields.opcode ≡ b
    → operation_of cpu (parts_of fields) ≡ Some op
    → instruction_at cpu at (b ∷ bytes) ≡ Some (record { op = op; len = fields.len })
decode-operation cpu at b bytes fields op l n o m reads fitting first some =
    let found = operation-row cpu (parts_of fields) op some in
    let row : Row = found.0 in
    let by_opcode : IsOpcodeRow row = opcode_row_of_fields cpu fields.opcode fields.modrm b row first l n o m found.1 found.2 in
    let h : fits row.pattern (b ∷ bytes) ≡ true = (fitting.of_row row by_opcode).1 found.2 in
    elim (cases_lt (length (b ∷ bytes)) (row_length row (b ∷ bytes))) [
      | inl short ↦ absurd (some_or_none fields (reads.cut_short row by_opcode h short))
      | inr enough ↦
          let same = reads.complete row by_opcode h enough in
          let there = has_bytes-of_le (row_length row (b ∷ bytes)) (b ∷ bytes) enough in
          instruction-of_row cpu at (b ∷ bytes) row found.1 (and_both _ _ h there)
          ∙ ap Some (instr_same _ op _ fields.len (ap row.operation (sym same.0) ∙ found.3) (sym same.1))
    ]

-- Decoding of the bytes as a whole ---------------------------------------------------------------------

pub nothing : (cpu : Cpu) (at : ℕ) (bytes : List ℕ) → length bytes ≡ 0 → instruction_at cpu at bytes ≡ None
unfolding instruction_at table
nothing I8086 at [] l = refl
nothing I186 at [] l = refl
nothing cpu at (b ∷ bytes) l = absurd (omega arith)

pub past_end : (cpu : Cpu) (at : ℕ) (code : List ℕ) → length code ≤ at → instruction_at cpu at (drop at code) ≡ None
past_end cpu at code l = nothing cpu at (drop at code) (simp length-drop (omega arith))

-- bytes that begin with another one than these three
pub record Begins (bytes : List ℕ) : Type 0 where
  pub some : 0 < length bytes
  pub byte : slice_index bytes 0 < 256
  pub table_jump : slice_index bytes 0 ≢ 0x2e
  pub enter : slice_index bytes 0 ≢ 0xc8
  pub interrupt : slice_index bytes 0 ≢ 0xcd

pub unread :
    (cpu : Cpu) (at : ℕ) (bytes : List ℕ) → Begins bytes → ReadsRows bytes at None
    → instruction_at cpu at bytes ≡ None
unread cpu at [] b reads = let none = b.some in absurd (omega arith)
unread cpu at (x ∷ bytes) b reads = decode-unread cpu at x bytes b.byte b.table_jump b.enter b.interrupt reads

pub no_operation :
    (cpu : Cpu) (at : ℕ) (bytes : List ℕ) (fields : Fields) → Begins bytes → ReadsRows bytes at (Some fields)
    → FitsAsRead bytes fields → operation_of cpu (parts_of fields) ≡ None
    → instruction_at cpu at bytes ≡ None
no_operation cpu at [] fields b reads fitting none = let no = b.some in absurd (omega arith)
no_operation cpu at (x ∷ bytes) fields b reads fitting none =
    decode-no_operation cpu at x bytes fields b.byte b.table_jump b.enter b.interrupt reads fitting none

pub with_operation :
    (cpu : Cpu) (at : ℕ) (bytes : List ℕ) (fields : Fields) (op : Op) → Begins bytes
    → ReadsRows bytes at (Some fields) → FitsAsRead bytes fields
    → fields.opcode ≡ slice_index bytes 0 → operation_of cpu (parts_of fields) ≡ Some op
    → instruction_at cpu at bytes ≡ Some (record { op = op; len = fields.len })
with_operation cpu at [] fields op b reads fitting first some = let no = b.some in absurd (omega arith)
with_operation cpu at (x ∷ bytes) fields op b reads fitting first some =
    decode-operation cpu at x bytes fields op b.byte b.table_jump b.enter b.interrupt reads fitting first some

pub ruleset end_rules = (nothing, past_end)

pub ruleset field_rules = (unread, no_operation, with_operation)
