-- The operations that the 80186 has besides, by their opcodes and ModRM bytes; and that it has each row of the 8086.
use Rattle.std.proofs.Common.{◌≡◌, ℕ, zero, suc, ◌<◌, ◌≤◌, Bool, true, false, cond, List, [], ◌∷◌, ◌++◌, refl, sym, ◌∙◌, ap, inl, inr, arith}
use Rattle.std.specs.Prelude.{◌≢◌, ◌⊎◌, find, slice_get, Option, Some, None, option_map}
use Rattle.std.proofs.lemmas.Bool.{cases_lt}
use Rattle.dcc_machine.specs.declared.cpu.Cpu.{Cpu}
use Rattle.dcc_machine.specs.declared.cpu.Cpu.TheVariants.{I8086, I186}
use Rattle.dcc_machine.specs.declared.instr.Op.{Op}
use Rattle.dcc_machine.specs.declared.instr.Op.TheVariants.{Push, Leave}
use Rattle.dcc_machine.specs.Operands.{reg_field}
use Rattle.dcc_machine.specs.Table.{BytePattern, Row, Parts, fits, table, later_rows, IsRow, between, bytes_between, modrm_bytes, imm16, constant_shift, triple_product}
use Rattle.dcc_machine.proofs.TableLaws.{both_tables, and_both, find-get, find-passes}
use Rattle.dcc_decode.specs.Reading.{operation_of}
use Rattle.dcc_decode.proofs.Forms.{fits-this, fits-any_operand, fits-one}
use Rattle.dcc_decode.proofs.LowerRows.{of_row_for, none_for, no_row_fits, empty, one, two, any, this}

-- The rows of both --------------------------------------------------------------------------------

get-append :
    {X : Type 0} (xs ys : List X) (k : ℕ) (x : X) → slice_get xs k ≡ Some x → slice_get (xs ++ ys) k ≡ Some x
get-append [] ys k x e = cc
get-append (y ∷ xs) ys zero x e = e
get-append (y ∷ xs) ys (suc k) x e = get-append xs ys k x e

find-append_none :
    {X : Type 0} (test : X → Bool) (xs ys : List X) → find test ys ≡ None → find test (xs ++ ys) ≡ find test xs
find-append_none test [] ys e = e
find-append_none {X} test (y ∷ xs) ys e =
    let rest = find-append_none test xs ys e in
    ap (λ (o : Option X). cond (test y) (Some y) o) rest

-- each row of a processor is one of the 80186
pub row_of_later : (cpu : Cpu) (row : Row) → IsRow cpu row → IsRow I186 row
row_of_later I8086 row at = (at.0, rw both_tables (get-append (table I8086) later_rows at.0 row at.1))
row_of_later I186 row at = at

-- Operations of both --------------------------------------------------------------------------------

-- the row of an operation
pub operation-row :
    (cpu : Cpu) (p : Parts) (op : Op) → operation_of cpu p ≡ Some op
    → (row : Row) × IsRow cpu row × (fits row.pattern (p.opcode ∷ p.modrm ∷ []) ≡ true) × (row.operation p ≡ op)
unfolding operation_of
operation-row cpu p op e =
    let test : Row → Bool = λ row. fits row.pattern (p.opcode ∷ p.modrm ∷ []) in
    let found : Option Row = find test (table cpu) in
    let P : Option Row → Type 0 = λ o. found ≡ o → option_map (λ row. row.operation p) o ≡ Some op → (row : Row) × IsRow cpu row × (fits row.pattern (p.opcode ∷ p.modrm ∷ []) ≡ true) × (row.operation p ≡ op) in
    let cases : (o : Option Row) → P o = λ o. elim o as P [ None ↦ λ f h. cc | Some row ↦ λ f h. (row, find-get test (table cpu) row f, find-passes test (table cpu) row f, cc) ] in
    cases found refl e

-- the 80186 has each operation of the 8086
pub earlier_some :
    (cpu : Cpu) (p : Parts) (op : Op) → operation_of I8086 p ≡ Some op → operation_of cpu p ≡ Some op
earlier_some I8086 p op e = e
earlier_some I186 p op e =
    let found = operation-row I8086 p op e in
    let at = row_of_later I8086 found.0 found.1 in
    of_row_for I186 at.0 found.0 p at.1 found.2 ∙ ap Some found.3

-- where no later row has a part in the form of the opcode
unlike_later :
    (form : List BytePattern) (p : Parts) → empty later_rows form ≡ true
    → fits form (p.opcode ∷ p.modrm ∷ []) ≡ true → operation_of I8086 p ≡ None → operation_of I186 p ≡ None
unfolding operation_of
unlike_later form p e h none =
    let test : Row → Bool = λ row. fits row.pattern (p.opcode ∷ p.modrm ∷ []) in
    let later = no_row_fits later_rows form p.opcode p.modrm e h in
    rw (both_tables, find-append_none test (table I8086) later_rows later) none

pub neither :
    (p : Parts) → p.opcode < 256 → p.opcode ≢ 0x68 → p.opcode ≢ 0x69 → p.opcode ≢ 0x6a → p.opcode ≢ 0x6b
    → p.opcode ≢ 0xc0 → p.opcode ≢ 0xc1 → p.opcode ≢ 0xc9 → operation_of I8086 p ≡ None → operation_of I186 p ≡ None
neither p l n68 n69 n6a n6b nc0 nc1 nc9 none =
    elim (cases_lt p.opcode 0x68) [
      | inl a ↦ unlike_later (bytes_between 0x00 0x67 ∷ []) p refl (one 0x00 0x67 p (omega arith) (omega arith) l) none
      | inr a ↦ elim (cases_lt p.opcode 0xc0) [
        | inl b ↦ unlike_later (bytes_between 0x6c 0xbf ∷ []) p refl (one 0x6c 0xbf p (omega arith) (omega arith) l) none
        | inr b ↦ elim (cases_lt p.opcode 0xc9) [
          | inl c ↦ unlike_later (bytes_between 0xc2 0xc8 ∷ []) p refl (one 0xc2 0xc8 p (omega arith) (omega arith) l) none
          | inr c ↦ unlike_later (bytes_between 0xca 0xff ∷ []) p refl (one 0xca 0xff p (omega arith) (omega arith) l) none
        ]
      ]
    ]

-- The later rows --------------------------------------------------------------------------------

pub push_word : (p : Parts) → p.opcode ≡ 0x68 → operation_of I186 p ≡ Some (Push (imm16 p))
unfolding table
push_word p e = of_row_for I186 68 _ p refl (this 0x68 p e)

pub push_signed : (p : Parts) → p.opcode ≡ 0x6a → operation_of I186 p ≡ Some (Push (imm16 p))
unfolding table
push_signed p e = of_row_for I186 69 _ p refl (this 0x6a p e)

product_word :
    (p : Parts) → p.opcode ≡ 0x69 → p.modrm < 256 → operation_of I186 p ≡ Some (triple_product p)
unfolding table
product_word p e m =
    of_row_for I186 70 _ p refl (and_both _ _ (fits-this 0x69 p.opcode e) (fits-one _ p.modrm [] (any p m)))

product_signed :
    (p : Parts) → p.opcode ≡ 0x6b → p.modrm < 256 → operation_of I186 p ≡ Some (triple_product p)
unfolding table
product_signed p e m =
    of_row_for I186 71 _ p refl (and_both _ _ (fits-this 0x6b p.opcode e) (fits-one _ p.modrm [] (any p m)))

pub product :
    (p : Parts) → (p.opcode ≡ 0x69) ⊎ (p.opcode ≡ 0x6b) → p.modrm < 256 → operation_of I186 p ≡ Some (triple_product p)
product p (inl e) m = product_word p e m
product p (inr e) m = product_signed p e m

-- a shift or rotate whose number is one of a row's
shift_between :
    (k first last : ℕ) (row : Row) (p : Parts) → slice_get (table I186) k ≡ Some row
    → row.pattern ≡ bytes_between 0xc0 0xc1 ∷ modrm_bytes (between 0 3) (between first last) (between 0 7) ∷ []
    → 0xc0 ≤ p.opcode → p.opcode ≤ 0xc1 → first ≤ reg_field p.modrm → reg_field p.modrm ≤ last → p.modrm < 256
    → operation_of I186 p ≡ Some (row.operation p)
shift_between k first last row p at e h l f g m =
    of_row_for I186 k row p at
    (rw e (two 0xc0 0xc1 _ _ _ p h l (omega arith) (fits-any_operand first last p.modrm f g m)))

pub shift_by_constant :
    (p : Parts) → 0xc0 ≤ p.opcode → p.opcode ≤ 0xc1 → reg_field p.modrm ≢ 2 → reg_field p.modrm ≢ 3
    → reg_field p.modrm ≢ 6 → p.modrm < 256 → operation_of I186 p ≡ Some (constant_shift p)
unfolding table
shift_by_constant p h l n2 n3 n6 m =
    elim (cases_lt (reg_field p.modrm) 2) [
      | inl a ↦ shift_between 72 0 1 _ p refl refl h l (omega arith) (omega arith) m
      | inr a ↦ elim (cases_lt (reg_field p.modrm) 6) [
        | inl b ↦ shift_between 73 4 5 _ p refl refl h l (omega arith) (omega arith) m
        | inr b ↦ shift_between 74 7 7 _ p refl refl h l (omega arith) (omega arith) m
      ]
    ]

no_shift :
    (first last : ℕ) (p : Parts)
    → empty (table I186) (bytes_between 0xc0 0xc1 ∷ modrm_bytes (between 0 3) (between first last) (between 0 7) ∷ []) ≡ true
    → 0xc0 ≤ p.opcode → p.opcode ≤ 0xc1 → first ≤ reg_field p.modrm → reg_field p.modrm ≤ last → p.modrm < 256
    → operation_of I186 p ≡ None
no_shift first last p e h l f g m =
    none_for I186 (bytes_between 0xc0 0xc1 ∷ modrm_bytes (between 0 3) (between first last) (between 0 7) ∷ []) p e
    (two 0xc0 0xc1 _ _ _ p h l (omega arith) (fits-any_operand first last p.modrm f g m))

pub rotate_carry_none :
    (p : Parts) → 0xc0 ≤ p.opcode → p.opcode ≤ 0xc1 → 2 ≤ reg_field p.modrm → reg_field p.modrm ≤ 3
    → p.modrm < 256 → operation_of I186 p ≡ None
unfolding table
rotate_carry_none p h l f g m = no_shift 2 3 p refl h l f g m

pub sixth_none :
    (p : Parts) → 0xc0 ≤ p.opcode → p.opcode ≤ 0xc1 → reg_field p.modrm ≡ 6 → p.modrm < 256
    → operation_of I186 p ≡ None
unfolding table
sixth_none p h l e m = no_shift 6 6 p refl h l (omega arith) (omega arith) m

pub leave : (p : Parts) → p.opcode ≡ 0xc9 → operation_of I186 p ≡ Some Leave
unfolding table
leave p e = of_row_for I186 76 _ p refl (this 0xc9 p e)

pub ruleset processor_rules = (earlier_some)

pub ruleset later_rules = (push_word, push_signed, leave, neither)

pub ruleset product_rules = (product)

pub ruleset shift_rules = (shift_by_constant, rotate_carry_none, sixth_none)
