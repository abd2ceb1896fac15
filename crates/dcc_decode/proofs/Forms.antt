-- Which ModRM byte and constant the opcodes have, by the rows of the table that begin with them.
use Rattle.std.proofs.Common.{◌≡◌, ℕ, zero, suc, ◌%◌, ◌<◌, ◌≤◌, Bool, true, false, cond, not, ◌||◌, nat_lt, List, [], ◌∷◌, refl, sym, inl, inr, arith}
use Rattle.std.specs.Prelude.{◌≢◌, ◌==◌, bit_and, filter, slice_get, Some}
use Rattle.std.specs.List.{list_all}
use Rattle.std.proofs.lemmas.Nat.{and_mask}
use Rattle.std.proofs.lemmas.Bool.{cases_lt}
use Rattle.std.proofs.lemmas.Bool.Decides.{nat_tests}
use Rattle.dcc_machine.specs.declared.cpu.Cpu.TheVariants.{I186}
use Rattle.dcc_machine.specs.Operands.{mod_field, reg_field, rm_field}
use Rattle.dcc_machine.specs.Table.{Range, BytePattern, Row, ConstantForm, no_constant, byte_constant, word_constant, signed_constant, in_range, fits_byte, fits, table, IsRow, bytes_between, this_byte, each_eight, any_operand, modrm_bytes, between}
use Rattle.dcc_machine.proofs.TableLaws.{and_left, and_right, and_both, patterns_apart, fits-apart, rows_within}
use Rattle.dcc_decode.specs.declared.fields.Constant.{Constant}
use Rattle.dcc_decode.specs.declared.fields.Constant.TheVariants.{Absent, Byte, Word, SignedByte}
use Rattle.dcc_decode.specs.Reading.{form_of, is_opcode_row, TellsModrm, TellsConstant}

-- Bytes that fit patterns ------------------------------------------------------------------------

in_range-le : (range : Range) (n : ℕ) → range.first ≤ n → n ≤ range.last → in_range range n ≡ true
in_range-le range n h k = grind (arith, nat_tests)

-- a byte between two others fits their pattern
pub fits-between :
    (first last byte : ℕ) → first ≤ byte → byte ≤ last → byte < 256
    → fits_byte (bytes_between first last) byte ≡ true
fits-between first last byte h k l =
    and_both _ _
    (and_both _ _
    (and_both _ _ (in_range-le _ byte h k) (in_range-le _ (mod_field byte) (omega arith) (omega arith)))
    (in_range-le _ (reg_field byte) (omega arith) (omega arith)))
    (in_range-le _ (rm_field byte) (omega arith) (omega arith))

pub fits-this : (this byte : ℕ) → byte ≡ this → fits_byte (this_byte this) byte ≡ true
fits-this this byte e =
    and_both _ _
    (and_both _ _
    (and_both _ _ (in_range-le _ byte (omega arith) (omega arith)) (in_range-le _ (mod_field byte) (rw e (omega arith)) (rw e (omega arith))))
    (in_range-le _ (reg_field byte) (rw e (omega arith)) (rw e (omega arith))))
    (in_range-le _ (rm_field byte) (rw e (omega arith)) (rw e (omega arith)))

pub fits-each_eight :
    (first last byte : ℕ) → first ≤ byte % 8 → byte % 8 ≤ last → byte < 64
    → fits_byte (each_eight first last) byte ≡ true
fits-each_eight first last byte h k l =
    and_both _ _
    (and_both _ _
    (and_both _ _ (in_range-le _ byte (omega arith) (omega arith)) (in_range-le _ (mod_field byte) (omega arith) (omega arith)))
    (in_range-le _ (reg_field byte) (omega arith) (omega arith)))
    (in_range-le _ (rm_field byte) h k)

pub fits-modrm :
    (mods regs rms : Range) (byte : ℕ) → mods.first ≤ mod_field byte → mod_field byte ≤ mods.last
    → regs.first ≤ reg_field byte → reg_field byte ≤ regs.last → rms.first ≤ rm_field byte
    → rm_field byte ≤ rms.last → byte < 256 → fits_byte (modrm_bytes mods regs rms) byte ≡ true
fits-modrm mods regs rms byte a b c d e f l =
    and_both _ _
    (and_both _ _
    (and_both _ _ (in_range-le _ byte (omega arith) (omega arith)) (in_range-le mods (mod_field byte) a b))
    (in_range-le regs (reg_field byte) c d))
    (in_range-le rms (rm_field byte) e f)

pub fits-any_operand :
    (first last byte : ℕ) → first ≤ reg_field byte → reg_field byte ≤ last → byte < 256
    → fits_byte (any_operand first last) byte ≡ true
fits-any_operand first last byte h k l =
    fits-modrm (between 0 3) (between first last) (between 0 7) byte (omega arith) (omega arith) h k (omega arith) (omega arith) l

-- the pattern of an opcode alone
pub fits-one :
    (pattern : BytePattern) (byte : ℕ) (rest : List ℕ) → fits_byte pattern byte ≡ true
    → fits (pattern ∷ []) (byte ∷ rest) ≡ true
fits-one pattern byte rest h = and_both _ _ h refl

-- What all rows of a form say ------------------------------------------------------------------------

list_all-filter :
    {X : Type 0} (test keep : X → Bool) (xs : List X) (k : ℕ) (x : X)
    → list_all test (filter keep xs) ≡ true → slice_get xs k ≡ Some x → keep x ≡ true
    → test x ≡ true
list_all-filter test keep [] k x h e p = cc
list_all-filter {X} test keep (y ∷ ys) zero x h e p =
    let same : y ≡ x = cc in
    let kept : keep y ≡ true = rw same p in
    let all : list_all test (y ∷ filter keep ys) ≡ true = rw kept at h in
    rw (← same) (and_left (test y) (list_all test (filter keep ys)) all)
list_all-filter {X} test keep (y ∷ ys) (suc k) x h e p =
    let P : Bool → Type 0 = λ b. list_all test (cond b (y ∷ filter keep ys) (filter keep ys)) ≡ true → list_all test (filter keep ys) ≡ true in
    let cases : (b : Bool) → P b = λ b. elim b as P [ true ↦ λ a. and_right (test y) (list_all test (filter keep ys)) a | false ↦ λ a. a ] in
    list_all-filter test keep ys k x (cases (keep y) h) e p

-- a test that holds of the rows that bytes of a form may fit holds of each row that they do fit
pub told :
    (form : List BytePattern) (test : Row → Bool) (bytes : List ℕ)
    → list_all test (rows_within form (table I186)) ≡ true → fits form bytes ≡ true → (row : Row)
    → IsRow I186 row → fits row.pattern bytes ≡ true → test row ≡ true
told form test bytes all h row at k =
    let apart = fits-apart form row.pattern bytes h k in
    list_all-filter test (λ r. not (patterns_apart form r.pattern)) (table I186) at.0 row all at.1 (rw apart refl)

-- The ModRM byte ---------------------------------------------------------------------------------

abbrev same_flag : Bool → Bool → Bool
same_flag true b = b
same_flag false b = not b

same_flag-eq : (a b : Bool) → same_flag a b ≡ true → a ≡ b
same_flag-eq true true h = refl
same_flag-eq true false h = sym h
same_flag-eq false true h = h
same_flag-eq false false h = refl

-- whether the rows of a form have a ModRM byte
abbrev modrm_told : BytePattern → Bool → Bool
modrm_told form answer =
    list_all (λ row. not (is_opcode_row row) || same_flag row.has_modrm answer) (rows_within (form ∷ []) (table I186))

or_right : (a b : Bool) → not a || b ≡ true → a ≡ true → b ≡ true
or_right true b h t = h
or_right false b h t = cc

tells_modrm :
    (form : BytePattern) (answer : Bool) (opcode : ℕ) → modrm_told form answer ≡ true
    → fits_byte form opcode ≡ true → TellsModrm opcode answer
tells_modrm form answer opcode all h = record {
  of_row = λ row rest at k.
      same_flag-eq _ _
      (or_right (is_opcode_row row) _
      (told (form ∷ []) (λ r. not (is_opcode_row r) || same_flag r.has_modrm answer) (opcode ∷ rest) all (fits-one form opcode rest h) row at.0 k)
      at.1);
}

modrm_between :
    (first last : ℕ) (answer : Bool) (opcode : ℕ)
    → modrm_told (bytes_between first last) answer ≡ true → first ≤ opcode → opcode ≤ last
    → last < 256 → TellsModrm opcode answer
modrm_between first last answer opcode all h k l =
    tells_modrm (bytes_between first last) answer opcode all
    (fits-between first last opcode h k (omega arith))

pub modrm-80_8f : (opcode : ℕ) → 0x80 ≤ opcode → opcode ≤ 0x8f → TellsModrm opcode true
unfolding table
modrm-80_8f opcode h k = modrm_between 0x80 0x8f true opcode refl h k (omega arith)

pub modrm-c6_c7 : (opcode : ℕ) → 0xc6 ≤ opcode → opcode ≤ 0xc7 → TellsModrm opcode true
unfolding table
modrm-c6_c7 opcode h k = modrm_between 0xc6 0xc7 true opcode refl h k (omega arith)

pub modrm-d0_d3 : (opcode : ℕ) → 0xd0 ≤ opcode → opcode ≤ 0xd3 → TellsModrm opcode true
unfolding table
modrm-d0_d3 opcode h k = modrm_between 0xd0 0xd3 true opcode refl h k (omega arith)

pub modrm-f6_f7 : (opcode : ℕ) → 0xf6 ≤ opcode → opcode ≤ 0xf7 → TellsModrm opcode true
unfolding table
modrm-f6_f7 opcode h k = modrm_between 0xf6 0xf7 true opcode refl h k (omega arith)

pub modrm-fe_ff : (opcode : ℕ) → 0xfe ≤ opcode → opcode ≤ 0xff → TellsModrm opcode true
unfolding table
modrm-fe_ff opcode h k = modrm_between 0xfe 0xff true opcode refl h k (omega arith)

pub modrm-40_68 : (opcode : ℕ) → 0x40 ≤ opcode → opcode ≤ 0x68 → TellsModrm opcode false
unfolding table
modrm-40_68 opcode h k = modrm_between 0x40 0x68 false opcode refl h k (omega arith)

pub modrm-69_69 : (opcode : ℕ) → 0x69 ≤ opcode → opcode ≤ 0x69 → TellsModrm opcode true
unfolding table
modrm-69_69 opcode h k = modrm_between 0x69 0x69 true opcode refl h k (omega arith)

pub modrm-6a_6a : (opcode : ℕ) → 0x6a ≤ opcode → opcode ≤ 0x6a → TellsModrm opcode false
unfolding table
modrm-6a_6a opcode h k = modrm_between 0x6a 0x6a false opcode refl h k (omega arith)

pub modrm-6b_6b : (opcode : ℕ) → 0x6b ≤ opcode → opcode ≤ 0x6b → TellsModrm opcode true
unfolding table
modrm-6b_6b opcode h k = modrm_between 0x6b 0x6b true opcode refl h k (omega arith)

pub modrm-6c_7f : (opcode : ℕ) → 0x6c ≤ opcode → opcode ≤ 0x7f → TellsModrm opcode false
unfolding table
modrm-6c_7f opcode h k = modrm_between 0x6c 0x7f false opcode refl h k (omega arith)

-- between 0x40 and 0x7F the two multiplications alone have a ModRM byte
pub modrm-first_product : (opcode : ℕ) → opcode ≡ 0x69 → TellsModrm opcode true
modrm-first_product opcode e = modrm-69_69 opcode (omega arith) (omega arith)

pub modrm-second_product :
    (opcode : ℕ) → 0x40 ≤ opcode → opcode ≤ 0x7f → opcode ≢ 0x69 → TellsModrm opcode (opcode == 0x6b)
modrm-second_product opcode h k n =
    let P : Bool → Type 0 = λ b. (opcode == 0x6b) ≡ b → TellsModrm opcode b in
    let other : P false = λ m. elim (cases_lt opcode 0x69) [
      | inl a ↦ modrm-40_68 opcode h (omega arith)
      | inr a ↦ elim (cases_lt opcode 0x6b) [
        | inl b ↦ modrm-6a_6a opcode (omega arith) (omega arith)
        | inr b ↦ modrm-6c_7f opcode (grind (arith, nat_tests)) k
      ]
    ] in
    let cases : (b : Bool) → P b = λ b. elim b as P [
      | true ↦ λ m. modrm-6b_6b opcode (grind (arith, nat_tests)) (grind (arith, nat_tests))
      | false ↦ other
    ] in
    cases (opcode == 0x6b) refl

pub modrm-90_bf : (opcode : ℕ) → 0x90 ≤ opcode → opcode ≤ 0xbf → TellsModrm opcode false
unfolding table
modrm-90_bf opcode h k = modrm_between 0x90 0xbf false opcode refl h k (omega arith)

pub modrm-c0_c1 : (opcode : ℕ) → 0xc0 ≤ opcode → opcode ≤ 0xc1 → TellsModrm opcode true
unfolding table
modrm-c0_c1 opcode h k = modrm_between 0xc0 0xc1 true opcode refl h k (omega arith)

pub modrm-c2_c5 : (opcode : ℕ) → 0xc2 ≤ opcode → opcode ≤ 0xc5 → TellsModrm opcode false
unfolding table
modrm-c2_c5 opcode h k = modrm_between 0xc2 0xc5 false opcode refl h k (omega arith)

pub modrm-c8_cf : (opcode : ℕ) → 0xc8 ≤ opcode → opcode ≤ 0xcf → TellsModrm opcode false
unfolding table
modrm-c8_cf opcode h k = modrm_between 0xc8 0xcf false opcode refl h k (omega arith)

pub modrm-d4_f5 : (opcode : ℕ) → 0xd4 ≤ opcode → opcode ≤ 0xf5 → TellsModrm opcode false
unfolding table
modrm-d4_f5 opcode h k = modrm_between 0xd4 0xf5 false opcode refl h k (omega arith)

pub modrm-f8_fd : (opcode : ℕ) → 0xf8 ≤ opcode → opcode ≤ 0xfd → TellsModrm opcode false
unfolding table
modrm-f8_fd opcode h k = modrm_between 0xf8 0xfd false opcode refl h k (omega arith)

pub modrm-low : (opcode : ℕ) → opcode < 64 → opcode % 8 < 4 → TellsModrm opcode true
unfolding table
modrm-low opcode h k = tells_modrm (each_eight 0 3) true opcode refl (fits-each_eight 0 3 opcode (omega arith) (omega arith) h)

pub modrm-high : (opcode : ℕ) → opcode < 64 → 4 ≤ opcode % 8 → TellsModrm opcode false
unfolding table
modrm-high opcode h k = tells_modrm (each_eight 4 7) false opcode refl (fits-each_eight 4 7 opcode k (omega arith) h)

-- the mask of bits 2 to 0
pub low_bits : (n : ℕ) → bit_and n 7 ≡ n % 8
low_bits n = and_mask n 3

pub modrm-below_40 : (opcode : ℕ) → opcode < 64 → TellsModrm opcode (nat_lt (bit_and opcode 7) 4)
modrm-below_40 opcode h =
    let P : Bool → Type 0 = λ b. nat_lt (opcode % 8) 4 ≡ b → TellsModrm opcode b in
    let cases : (b : Bool) → P b = λ b. elim b as P [ true ↦ λ t. modrm-low opcode h (grind (arith, nat_tests)) | false ↦ λ t. modrm-high opcode h (grind (arith, nat_tests)) ] in
    rw (low_bits opcode) (cases (nat_lt (opcode % 8) 4) refl)

pub ruleset multiplication_rules = (modrm-first_product, modrm-second_product)

pub ruleset modrm_rules = (modrm-80_8f, modrm-c6_c7, modrm-d0_d3, modrm-f6_f7, modrm-fe_ff, modrm-90_bf, modrm-c0_c1, modrm-c2_c5, modrm-c8_cf, modrm-d4_f5, modrm-f8_fd, modrm-below_40)

-- The constant -----------------------------------------------------------------------------------

abbrev same_form : ConstantForm → ConstantForm → Bool
same_form no_constant no_constant = true
same_form byte_constant byte_constant = true
same_form word_constant word_constant = true
same_form signed_constant signed_constant = true
same_form _ _ = false

same_form-eq : (a b : ConstantForm) → same_form a b ≡ true → a ≡ b
same_form-eq no_constant no_constant h = refl
same_form-eq byte_constant byte_constant h = refl
same_form-eq word_constant word_constant h = refl
same_form-eq signed_constant signed_constant h = refl
same_form-eq no_constant byte_constant h = cc
same_form-eq no_constant word_constant h = cc
same_form-eq no_constant signed_constant h = cc
same_form-eq byte_constant no_constant h = cc
same_form-eq byte_constant word_constant h = cc
same_form-eq byte_constant signed_constant h = cc
same_form-eq word_constant no_constant h = cc
same_form-eq word_constant byte_constant h = cc
same_form-eq word_constant signed_constant h = cc
same_form-eq signed_constant no_constant h = cc
same_form-eq signed_constant byte_constant h = cc
same_form-eq signed_constant word_constant h = cc

-- whether the rows of a form end in that constant
abbrev constant_told : List BytePattern → Constant → Bool
constant_told form answer =
    list_all (λ row. not (is_opcode_row row) || same_form row.constant_form (form_of answer)) (rows_within form (table I186))

tells_constant :
    (form : List BytePattern) (answer : Constant) (opcode modrm : ℕ)
    → constant_told form answer ≡ true
    → ((rest : List ℕ) → fits form (opcode ∷ modrm ∷ rest) ≡ true)
    → TellsConstant opcode modrm answer
tells_constant form answer opcode modrm all h = record {
  of_row = λ row rest at k.
      same_form-eq _ _
      (or_right (is_opcode_row row) _
      (told form (λ r. not (is_opcode_row r) || same_form r.constant_form (form_of answer)) (opcode ∷ modrm ∷ rest) all (h rest) row at.0 k)
      at.1);
}

constant_between :
    (first last : ℕ) (answer : Constant) (opcode modrm : ℕ)
    → constant_told (bytes_between first last ∷ []) answer ≡ true → first ≤ opcode
    → opcode ≤ last → last < 256 → TellsConstant opcode modrm answer
constant_between first last answer opcode modrm all h k l =
    tells_constant (bytes_between first last ∷ []) answer opcode modrm all
    (λ rest. fits-one _ opcode (modrm ∷ rest) (fits-between first last opcode h k (omega arith)))

constant_eight :
    (first last : ℕ) (answer : Constant) (opcode modrm : ℕ)
    → constant_told (each_eight first last ∷ []) answer ≡ true → first ≤ bit_and opcode 7
    → bit_and opcode 7 ≤ last → opcode < 64 → TellsConstant opcode modrm answer
constant_eight first last answer opcode modrm all h k l =
    let low : first ≤ opcode % 8 = rw low_bits at h in
    let high : opcode % 8 ≤ last = rw low_bits at k in
    tells_constant (each_eight first last ∷ []) answer opcode modrm all
    (λ rest. fits-one _ opcode (modrm ∷ rest) (fits-each_eight first last opcode low high l))

pub constant-40_67 :
    (opcode modrm : ℕ) → 0x40 ≤ opcode → opcode ≤ 0x67 → TellsConstant opcode modrm Absent
unfolding table
constant-40_67 opcode modrm h k = constant_between 0x40 0x67 Absent opcode modrm refl h k (omega arith)

pub constant-68_69 :
    (opcode modrm : ℕ) → 0x68 ≤ opcode → opcode ≤ 0x69 → TellsConstant opcode modrm Word
unfolding table
constant-68_69 opcode modrm h k = constant_between 0x68 0x69 Word opcode modrm refl h k (omega arith)

pub constant-6a_6b :
    (opcode modrm : ℕ) → 0x6a ≤ opcode → opcode ≤ 0x6b → TellsConstant opcode modrm SignedByte
unfolding table
constant-6a_6b opcode modrm h k = constant_between 0x6a 0x6b SignedByte opcode modrm refl h k (omega arith)

pub constant-6c_6f :
    (opcode modrm : ℕ) → 0x6c ≤ opcode → opcode ≤ 0x6f → TellsConstant opcode modrm Absent
unfolding table
constant-6c_6f opcode modrm h k = constant_between 0x6c 0x6f Absent opcode modrm refl h k (omega arith)

pub constant-70_7f :
    (opcode modrm : ℕ) → 0x70 ≤ opcode → opcode ≤ 0x7f → TellsConstant opcode modrm SignedByte
unfolding table
constant-70_7f opcode modrm h k = constant_between 0x70 0x7f SignedByte opcode modrm refl h k (omega arith)

pub constant-80_80 :
    (opcode modrm : ℕ) → 0x80 ≤ opcode → opcode ≤ 0x80 → TellsConstant opcode modrm Byte
unfolding table
constant-80_80 opcode modrm h k = constant_between 0x80 0x80 Byte opcode modrm refl h k (omega arith)

pub constant-81_81 :
    (opcode modrm : ℕ) → 0x81 ≤ opcode → opcode ≤ 0x81 → TellsConstant opcode modrm Word
unfolding table
constant-81_81 opcode modrm h k = constant_between 0x81 0x81 Word opcode modrm refl h k (omega arith)

pub constant-82_82 :
    (opcode modrm : ℕ) → 0x82 ≤ opcode → opcode ≤ 0x82 → TellsConstant opcode modrm Absent
unfolding table
constant-82_82 opcode modrm h k = constant_between 0x82 0x82 Absent opcode modrm refl h k (omega arith)

pub constant-83_83 :
    (opcode modrm : ℕ) → 0x83 ≤ opcode → opcode ≤ 0x83 → TellsConstant opcode modrm SignedByte
unfolding table
constant-83_83 opcode modrm h k = constant_between 0x83 0x83 SignedByte opcode modrm refl h k (omega arith)

pub constant-84_8f :
    (opcode modrm : ℕ) → 0x84 ≤ opcode → opcode ≤ 0x8f → TellsConstant opcode modrm Absent
unfolding table
constant-84_8f opcode modrm h k = constant_between 0x84 0x8f Absent opcode modrm refl h k (omega arith)

pub constant-90_9f :
    (opcode modrm : ℕ) → 0x90 ≤ opcode → opcode ≤ 0x9f → TellsConstant opcode modrm Absent
unfolding table
constant-90_9f opcode modrm h k = constant_between 0x90 0x9f Absent opcode modrm refl h k (omega arith)

pub constant-a0_a3 :
    (opcode modrm : ℕ) → 0xa0 ≤ opcode → opcode ≤ 0xa3 → TellsConstant opcode modrm Word
unfolding table
constant-a0_a3 opcode modrm h k = constant_between 0xa0 0xa3 Word opcode modrm refl h k (omega arith)

pub constant-a4_a7 :
    (opcode modrm : ℕ) → 0xa4 ≤ opcode → opcode ≤ 0xa7 → TellsConstant opcode modrm Absent
unfolding table
constant-a4_a7 opcode modrm h k = constant_between 0xa4 0xa7 Absent opcode modrm refl h k (omega arith)

pub constant-a8_a8 :
    (opcode modrm : ℕ) → 0xa8 ≤ opcode → opcode ≤ 0xa8 → TellsConstant opcode modrm Byte
unfolding table
constant-a8_a8 opcode modrm h k = constant_between 0xa8 0xa8 Byte opcode modrm refl h k (omega arith)

pub constant-a9_a9 :
    (opcode modrm : ℕ) → 0xa9 ≤ opcode → opcode ≤ 0xa9 → TellsConstant opcode modrm Word
unfolding table
constant-a9_a9 opcode modrm h k = constant_between 0xa9 0xa9 Word opcode modrm refl h k (omega arith)

pub constant-aa_af :
    (opcode modrm : ℕ) → 0xaa ≤ opcode → opcode ≤ 0xaf → TellsConstant opcode modrm Absent
unfolding table
constant-aa_af opcode modrm h k = constant_between 0xaa 0xaf Absent opcode modrm refl h k (omega arith)

pub constant-b0_b7 :
    (opcode modrm : ℕ) → 0xb0 ≤ opcode → opcode ≤ 0xb7 → TellsConstant opcode modrm Byte
unfolding table
constant-b0_b7 opcode modrm h k = constant_between 0xb0 0xb7 Byte opcode modrm refl h k (omega arith)

pub constant-b8_bf :
    (opcode modrm : ℕ) → 0xb8 ≤ opcode → opcode ≤ 0xbf → TellsConstant opcode modrm Word
unfolding table
constant-b8_bf opcode modrm h k = constant_between 0xb8 0xbf Word opcode modrm refl h k (omega arith)

pub constant-c0_c1 :
    (opcode modrm : ℕ) → 0xc0 ≤ opcode → opcode ≤ 0xc1 → TellsConstant opcode modrm Byte
unfolding table
constant-c0_c1 opcode modrm h k = constant_between 0xc0 0xc1 Byte opcode modrm refl h k (omega arith)

pub constant-c2_c2 :
    (opcode modrm : ℕ) → 0xc2 ≤ opcode → opcode ≤ 0xc2 → TellsConstant opcode modrm Word
unfolding table
constant-c2_c2 opcode modrm h k = constant_between 0xc2 0xc2 Word opcode modrm refl h k (omega arith)

pub constant-c3_c5 :
    (opcode modrm : ℕ) → 0xc3 ≤ opcode → opcode ≤ 0xc5 → TellsConstant opcode modrm Absent
unfolding table
constant-c3_c5 opcode modrm h k = constant_between 0xc3 0xc5 Absent opcode modrm refl h k (omega arith)

pub constant-c6_c6 :
    (opcode modrm : ℕ) → 0xc6 ≤ opcode → opcode ≤ 0xc6 → TellsConstant opcode modrm Byte
unfolding table
constant-c6_c6 opcode modrm h k = constant_between 0xc6 0xc6 Byte opcode modrm refl h k (omega arith)

pub constant-c7_c7 :
    (opcode modrm : ℕ) → 0xc7 ≤ opcode → opcode ≤ 0xc7 → TellsConstant opcode modrm Word
unfolding table
constant-c7_c7 opcode modrm h k = constant_between 0xc7 0xc7 Word opcode modrm refl h k (omega arith)

pub constant-c8_df :
    (opcode modrm : ℕ) → 0xc8 ≤ opcode → opcode ≤ 0xdf → TellsConstant opcode modrm Absent
unfolding table
constant-c8_df opcode modrm h k = constant_between 0xc8 0xdf Absent opcode modrm refl h k (omega arith)

pub constant-e0_e3 :
    (opcode modrm : ℕ) → 0xe0 ≤ opcode → opcode ≤ 0xe3 → TellsConstant opcode modrm SignedByte
unfolding table
constant-e0_e3 opcode modrm h k = constant_between 0xe0 0xe3 SignedByte opcode modrm refl h k (omega arith)

pub constant-e4_e7 :
    (opcode modrm : ℕ) → 0xe4 ≤ opcode → opcode ≤ 0xe7 → TellsConstant opcode modrm Absent
unfolding table
constant-e4_e7 opcode modrm h k = constant_between 0xe4 0xe7 Absent opcode modrm refl h k (omega arith)

pub constant-e8_e9 :
    (opcode modrm : ℕ) → 0xe8 ≤ opcode → opcode ≤ 0xe9 → TellsConstant opcode modrm Word
unfolding table
constant-e8_e9 opcode modrm h k = constant_between 0xe8 0xe9 Word opcode modrm refl h k (omega arith)

pub constant-ea_ea :
    (opcode modrm : ℕ) → 0xea ≤ opcode → opcode ≤ 0xea → TellsConstant opcode modrm Absent
unfolding table
constant-ea_ea opcode modrm h k = constant_between 0xea 0xea Absent opcode modrm refl h k (omega arith)

pub constant-eb_eb :
    (opcode modrm : ℕ) → 0xeb ≤ opcode → opcode ≤ 0xeb → TellsConstant opcode modrm SignedByte
unfolding table
constant-eb_eb opcode modrm h k = constant_between 0xeb 0xeb SignedByte opcode modrm refl h k (omega arith)

pub constant-ec_ef :
    (opcode modrm : ℕ) → 0xec ≤ opcode → opcode ≤ 0xef → TellsConstant opcode modrm Absent
unfolding table
constant-ec_ef opcode modrm h k = constant_between 0xec 0xef Absent opcode modrm refl h k (omega arith)

pub constant-f0_f5 :
    (opcode modrm : ℕ) → 0xf0 ≤ opcode → opcode ≤ 0xf5 → TellsConstant opcode modrm Absent
unfolding table
constant-f0_f5 opcode modrm h k = constant_between 0xf0 0xf5 Absent opcode modrm refl h k (omega arith)

pub constant-f8_ff :
    (opcode modrm : ℕ) → 0xf8 ≤ opcode → opcode ≤ 0xff → TellsConstant opcode modrm Absent
unfolding table
constant-f8_ff opcode modrm h k = constant_between 0xf8 0xff Absent opcode modrm refl h k (omega arith)

pub constant-eight_0_3 :
    (opcode modrm : ℕ) → opcode < 64 → 0 ≤ bit_and opcode 7 → bit_and opcode 7 ≤ 3
    → TellsConstant opcode modrm Absent
unfolding table
constant-eight_0_3 opcode modrm h k l = constant_eight 0 3 Absent opcode modrm refl k l h

pub constant-eight_4_4 :
    (opcode modrm : ℕ) → opcode < 64 → 4 ≤ bit_and opcode 7 → bit_and opcode 7 ≤ 4
    → TellsConstant opcode modrm Byte
unfolding table
constant-eight_4_4 opcode modrm h k l = constant_eight 4 4 Byte opcode modrm refl k l h

pub constant-eight_5_5 :
    (opcode modrm : ℕ) → opcode < 64 → 5 ≤ bit_and opcode 7 → bit_and opcode 7 ≤ 5
    → TellsConstant opcode modrm Word
unfolding table
constant-eight_5_5 opcode modrm h k l = constant_eight 5 5 Word opcode modrm refl k l h

pub constant-eight_6_7 :
    (opcode modrm : ℕ) → opcode < 64 → 6 ≤ bit_and opcode 7 → bit_and opcode 7 ≤ 7
    → TellsConstant opcode modrm Absent
unfolding table
constant-eight_6_7 opcode modrm h k l = constant_eight 6 7 Absent opcode modrm refl k l h

pub constant-f6_0_0 :
    (opcode modrm : ℕ) → opcode ≡ 0xf6 → 0 ≤ reg_field modrm → reg_field modrm ≤ 0 → modrm < 256
    → TellsConstant opcode modrm Byte
unfolding table
constant-f6_0_0 opcode modrm e h k l =
    tells_constant (bytes_between 0xf6 0xf6 ∷ any_operand 0 0 ∷ []) Byte opcode modrm refl
    (λ rest. and_both _ _ (fits-between 0xf6 0xf6 opcode (omega arith) (omega arith) (omega arith))
    (fits-one _ modrm rest (fits-any_operand 0 0 modrm h k l)))

pub constant-f7_0_0 :
    (opcode modrm : ℕ) → opcode ≡ 0xf7 → 0 ≤ reg_field modrm → reg_field modrm ≤ 0 → modrm < 256
    → TellsConstant opcode modrm Word
unfolding table
constant-f7_0_0 opcode modrm e h k l =
    tells_constant (bytes_between 0xf7 0xf7 ∷ any_operand 0 0 ∷ []) Word opcode modrm refl
    (λ rest. and_both _ _ (fits-between 0xf7 0xf7 opcode (omega arith) (omega arith) (omega arith))
    (fits-one _ modrm rest (fits-any_operand 0 0 modrm h k l)))

pub constant-f6_f7 :
    (opcode modrm : ℕ) → 0xf6 ≤ opcode → opcode ≤ 0xf7 → reg_field modrm ≢ 0 → modrm < 256
    → TellsConstant opcode modrm Absent
unfolding table
constant-f6_f7 opcode modrm h k n l =
    tells_constant (bytes_between 0xf6 0xf7 ∷ any_operand 1 7 ∷ []) Absent opcode modrm refl
    (λ rest. and_both _ _ (fits-between 0xf6 0xf7 opcode h k (omega arith))
    (fits-one _ modrm rest (fits-any_operand 1 7 modrm (omega arith) (omega arith) l)))

pub constant-rest_80_8f :
    (opcode modrm : ℕ) → 0x80 ≤ opcode → opcode ≤ 0x8f → opcode ≢ 0x80 → opcode ≢ 0x81
    → opcode ≢ 0x83 → TellsConstant opcode modrm Absent
constant-rest_80_8f opcode modrm h k n0 n1 n2 =
    elim (cases_lt opcode 0x84) [
      | inl l0 ↦ constant-82_82 opcode modrm (omega arith) (omega arith)
      | inr r0 ↦
          constant-84_8f opcode modrm (omega arith) (omega arith)
    ]

pub constant-rest_a4_af :
    (opcode modrm : ℕ) → 0xa4 ≤ opcode → opcode ≤ 0xaf → opcode ≢ 0xa8 → opcode ≢ 0xa9
    → TellsConstant opcode modrm Absent
constant-rest_a4_af opcode modrm h k n0 n1 =
    elim (cases_lt opcode 0xaa) [
      | inl l0 ↦ constant-a4_a7 opcode modrm (omega arith) (omega arith)
      | inr r0 ↦
          constant-aa_af opcode modrm (omega arith) (omega arith)
    ]

pub constant-rest_ea_ef :
    (opcode modrm : ℕ) → 0xea ≤ opcode → opcode ≤ 0xef → opcode ≢ 0xeb
    → TellsConstant opcode modrm Absent
constant-rest_ea_ef opcode modrm h k n =
    elim (cases_lt opcode 0xec) [
      | inl l ↦ constant-ea_ea opcode modrm (omega arith) (omega arith)
      | inr r ↦ constant-ec_ef opcode modrm (omega arith) (omega arith)
    ]

pub constant-rest_eight :
    (opcode modrm : ℕ) → opcode < 64 → bit_and opcode 7 ≢ 4 → bit_and opcode 7 ≢ 5
    → TellsConstant opcode modrm Absent
constant-rest_eight opcode modrm h m n =
    let mask = low_bits opcode in
    elim (cases_lt (bit_and opcode 7) 4) [
      | inl l ↦ constant-eight_0_3 opcode modrm h (omega arith) (omega arith)
      | inr r ↦ constant-eight_6_7 opcode modrm h (omega arith) (omega arith)
    ]

pub ruleset constant_rules = (constant-40_67, constant-68_69, constant-6a_6b, constant-6c_6f, constant-70_7f, constant-80_80, constant-81_81, constant-82_82, constant-83_83, constant-84_8f, constant-90_9f, constant-a0_a3, constant-a4_a7, constant-a8_a8, constant-a9_a9, constant-aa_af, constant-b0_b7, constant-b8_bf, constant-c0_c1, constant-c2_c2, constant-c3_c5, constant-c6_c6, constant-c7_c7, constant-c8_df, constant-e0_e3, constant-e4_e7, constant-e8_e9, constant-ea_ea, constant-eb_eb, constant-ec_ef, constant-f0_f5, constant-f8_ff, constant-rest_80_8f, constant-rest_a4_af, constant-eight_0_3, constant-eight_4_4, constant-eight_5_5, constant-eight_6_7, constant-f6_0_0, constant-f7_0_0, constant-f6_f7, constant-rest_ea_ef, constant-rest_eight)
