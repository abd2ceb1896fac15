-- The operation of each row of the 8086, by its opcode and ModRM byte, and the bytes that have none: the rows from 0x90
-- on, and what the decoder's calls cite.
use Rattle.std.proofs.Common.{◌≡◌, ◌/◌, ◌%◌, ◌<◌, ◌≤◌, Bool, true, false, ◌&&◌, [], ◌∷◌, refl, ◌∙◌, ap, inl, inr, arith}
use Rattle.std.specs.Prelude.{◌≢◌, Some, None, ◌==◌, if◌then◌else◌}
use Rattle.std.proofs.lemmas.Bool.{cases_lt}
use Rattle.std.proofs.lemmas.Bool.Decides.{nat_tests}
use Rattle.dcc_machine.specs.declared.cpu.Cpu.TheVariants.{I8086}
use Rattle.dcc_machine.specs.declared.instr.Count.{Count}
use Rattle.dcc_machine.specs.declared.instr.Count.TheVariants.{One, Cl}
use Rattle.dcc_machine.specs.declared.instr.Alu.TheVariants.{Test}
use Rattle.dcc_machine.specs.declared.instr.Unary.TheVariants.{Inc, Dec}
use Rattle.dcc_machine.specs.declared.instr.Plain.TheVariants.{Nop, Cbw, Cwd, Xlat, Clc, Stc, Cmc, Cli, Sti, Cld}
use Rattle.dcc_machine.specs.declared.instr.Op.TheVariants.{Alu as AluOp, Unary as UnaryOp, Shift as ShiftOp, Mov, Xchg, Push, Plain as PlainOp, Jump, Loop, LoopE, LoopNe, Jcxz, Call, Ret}
use Rattle.dcc_machine.specs.Operands.{mod_field, reg_field, rm_field}
use Rattle.dcc_machine.specs.Table.{Parts, table, between, bytes_between, modrm_bytes, rm16, rm, r8, r16, ax, accumulator, imm8, imm16, imm, direct, target, shift_of, shift, unary_by_reg}
use Rattle.dcc_machine.proofs.TableLaws.{and_both}
use Rattle.dcc_decode.specs.Reading.{operation_of}
use Rattle.dcc_decode.proofs.Forms.{fits-between, fits-this, fits-modrm, fits-any_operand, fits-one}
use Rattle.dcc_decode.proofs.LowerRows.{of_row, none, one, eight, two, any, this, alu_two, alu_al, alu_ax, none-eight, inc_register, dec_register, push_low, push_high, pop_low, pop_high, none-54_54, none-5c_5c, none-60_6f, branch_unsigned, branch_signed, none-7a_7b, alu_byte, alu_constant_word, none-82_82, test_two, xchg_two, mov_two, mov_from_segment, mov_to_es, mov_to_segment, none-8c_memory, none-8c_high, none-8e_memory, none-8e_cs, none-8e_high, lea, none-8d, none-8f_group, pop_not_sp, pop_sp}

-- 0x90 to 0xBF ----------------------------------------------------------------------------------

pub nop : (p : Parts) → p.opcode ≡ 0x90 → operation_of I8086 p ≡ Some (PlainOp Nop)
unfolding table
nop p e = of_row 58 _ p refl (this 0x90 p e)

pub xchg_register :
    (p : Parts) → 0x91 ≤ p.opcode → p.opcode ≤ 0x97 → operation_of I8086 p ≡ Some (Xchg ax (r16 p))
unfolding table
xchg_register p h k = of_row 31 _ p refl (one 0x91 0x97 p h k (omega arith))

pub cbw : (p : Parts) → p.opcode ≡ 0x98 → operation_of I8086 p ≡ Some (PlainOp Cbw)
unfolding table
cbw p e = of_row 59 _ p refl (this 0x98 p e)

pub cwd : (p : Parts) → p.opcode ≡ 0x99 → operation_of I8086 p ≡ Some (PlainOp Cwd)
unfolding table
cwd p e = of_row 60 _ p refl (this 0x99 p e)

pub none-9a_9f : (p : Parts) → 0x9a ≤ p.opcode → p.opcode ≤ 0x9f → operation_of I8086 p ≡ None
unfolding table
none-9a_9f p h k =
    none (bytes_between 0x9a 0x9f ∷ []) p refl
    (one 0x9a 0x9f p h k (omega arith))

pub mov_from_direct :
    (p : Parts) → 0xa0 ≤ p.opcode → p.opcode ≤ 0xa1
    → operation_of I8086 p ≡ Some (Mov (accumulator p) (direct p))
unfolding table
mov_from_direct p h k = of_row 37 _ p refl (one 0xa0 0xa1 p h k (omega arith))

pub mov_to_direct :
    (p : Parts) → 0xa2 ≤ p.opcode → p.opcode ≤ 0xa3
    → operation_of I8086 p ≡ Some (Mov (direct p) (accumulator p))
unfolding table
mov_to_direct p h k = of_row 38 _ p refl (one 0xa2 0xa3 p h k (omega arith))

pub test_al : (p : Parts) → p.opcode ≡ 0xa8 → operation_of I8086 p ≡ Some (AluOp Test (accumulator p) (imm p))
unfolding table
test_al p e = of_row 7 _ p refl (this 0xa8 p e)

pub test_ax : (p : Parts) → p.opcode ≡ 0xa9 → operation_of I8086 p ≡ Some (AluOp Test (accumulator p) (imm p))
unfolding table
test_ax p e = of_row 8 _ p refl (this 0xa9 p e)

pub none-a4_a7 : (p : Parts) → 0xa4 ≤ p.opcode → p.opcode ≤ 0xa7 → operation_of I8086 p ≡ None
unfolding table
none-a4_a7 p h k =
    none (bytes_between 0xa4 0xa7 ∷ []) p refl
    (one 0xa4 0xa7 p h k (omega arith))

pub none-aa_af : (p : Parts) → 0xaa ≤ p.opcode → p.opcode ≤ 0xaf → operation_of I8086 p ≡ None
unfolding table
none-aa_af p h k =
    none (bytes_between 0xaa 0xaf ∷ []) p refl
    (one 0xaa 0xaf p h k (omega arith))

pub mov_byte :
    (p : Parts) → 0xb0 ≤ p.opcode → p.opcode ≤ 0xb7 → operation_of I8086 p ≡ Some (Mov (r8 p) (imm8 p))
unfolding table
mov_byte p h k = of_row 39 _ p refl (one 0xb0 0xb7 p h k (omega arith))

pub mov_word :
    (p : Parts) → 0xb8 ≤ p.opcode → p.opcode ≤ 0xbf → operation_of I8086 p ≡ Some (Mov (r16 p) (imm16 p))
unfolding table
mov_word p h k = of_row 40 _ p refl (one 0xb8 0xbf p h k (omega arith))

-- 0xC0 to 0xEF ----------------------------------------------------------------------------------

pub ret_count : (p : Parts) → p.opcode ≡ 0xc2 → operation_of I8086 p ≡ Some (Ret p.constant)
unfolding table
ret_count p e = of_row 52 _ p refl (this 0xc2 p e)

pub ret : (p : Parts) → p.opcode ≡ 0xc3 → operation_of I8086 p ≡ Some (Ret 0)
unfolding table
ret p e = of_row 53 _ p refl (this 0xc3 p e)

pub mov_operand_byte :
    (p : Parts) → p.opcode ≡ 0xc6 → reg_field p.modrm ≡ 0 → p.modrm < 256
    → operation_of I8086 p ≡ Some (Mov (rm p) (imm p))
unfolding table
mov_operand_byte p e reg_is m =
    of_row 41 _ p refl
    (and_both _ _ (fits-this 0xc6 p.opcode e)
    (fits-one _ p.modrm [] (fits-any_operand 0 0 p.modrm (omega arith) (omega arith) m)))

pub mov_operand_word :
    (p : Parts) → p.opcode ≡ 0xc7 → reg_field p.modrm ≡ 0 → p.modrm < 256
    → operation_of I8086 p ≡ Some (Mov (rm p) (imm p))
unfolding table
mov_operand_word p e reg_is m =
    of_row 42 _ p refl
    (and_both _ _ (fits-this 0xc7 p.opcode e)
    (fits-one _ p.modrm [] (fits-any_operand 0 0 p.modrm (omega arith) (omega arith) m)))

pub none-c0_c1 : (p : Parts) → 0xc0 ≤ p.opcode → p.opcode ≤ 0xc1 → operation_of I8086 p ≡ None
unfolding table
none-c0_c1 p h k =
    none (bytes_between 0xc0 0xc1 ∷ []) p refl
    (one 0xc0 0xc1 p h k (omega arith))

pub none-c4_c5 : (p : Parts) → 0xc4 ≤ p.opcode → p.opcode ≤ 0xc5 → operation_of I8086 p ≡ None
unfolding table
none-c4_c5 p h k =
    none (bytes_between 0xc4 0xc5 ∷ []) p refl
    (one 0xc4 0xc5 p h k (omega arith))

pub none-c8_cc : (p : Parts) → 0xc8 ≤ p.opcode → p.opcode ≤ 0xcc → operation_of I8086 p ≡ None
unfolding table
none-c8_cc p h k =
    none (bytes_between 0xc8 0xcc ∷ []) p refl
    (one 0xc8 0xcc p h k (omega arith))

pub none-ce_cf : (p : Parts) → 0xce ≤ p.opcode → p.opcode ≤ 0xcf → operation_of I8086 p ≡ None
unfolding table
none-ce_cf p h k =
    none (bytes_between 0xce 0xcf ∷ []) p refl
    (one 0xce 0xcf p h k (omega arith))

pub none-c6_c7 :
    (p : Parts) → 0xc6 ≤ p.opcode → p.opcode ≤ 0xc7 → 1 ≤ reg_field p.modrm → p.modrm < 256
    → operation_of I8086 p ≡ None
unfolding table
none-c6_c7 p h k reg_low m =
    none (bytes_between 0xc6 0xc7 ∷ modrm_bytes (between 0 3) (between 1 7) (between 0 7) ∷ []) p refl
    (and_both _ _ (fits-between 0xc6 0xc7 p.opcode h k (omega arith))
    (fits-one _ p.modrm [] (fits-any_operand 1 7 p.modrm (omega arith) (omega arith) m)))

pub rotate :
    (p : Parts) → 0xd0 ≤ p.opcode → p.opcode ≤ 0xd3 → reg_field p.modrm ≤ 1 → p.modrm < 256
    → operation_of I8086 p ≡ Some (shift p)
unfolding table
rotate p h k reg_high m =
    of_row 16 _ p refl
    (and_both _ _ (fits-between 0xd0 0xd3 p.opcode h k (omega arith))
    (fits-one _ p.modrm [] (fits-any_operand 0 1 p.modrm (omega arith) (omega arith) m)))

pub rotate_carry :
    (p : Parts) → 0xd0 ≤ p.opcode → p.opcode ≤ 0xd1 → 2 ≤ reg_field p.modrm → reg_field p.modrm ≤ 3
    → p.modrm < 256 → operation_of I8086 p ≡ Some (shift p)
unfolding table
rotate_carry p h k reg_low reg_high m =
    of_row 17 _ p refl
    (and_both _ _ (fits-between 0xd0 0xd1 p.opcode h k (omega arith))
    (fits-one _ p.modrm [] (fits-any_operand 2 3 p.modrm (omega arith) (omega arith) m)))

pub shift_left_right :
    (p : Parts) → 0xd0 ≤ p.opcode → p.opcode ≤ 0xd3 → 4 ≤ reg_field p.modrm → reg_field p.modrm ≤ 5
    → p.modrm < 256 → operation_of I8086 p ≡ Some (shift p)
unfolding table
shift_left_right p h k reg_low reg_high m =
    of_row 18 _ p refl
    (and_both _ _ (fits-between 0xd0 0xd3 p.opcode h k (omega arith))
    (fits-one _ p.modrm [] (fits-any_operand 4 5 p.modrm (omega arith) (omega arith) m)))

pub shift_arithmetic :
    (p : Parts) → 0xd0 ≤ p.opcode → p.opcode ≤ 0xd3 → reg_field p.modrm ≡ 7 → p.modrm < 256
    → operation_of I8086 p ≡ Some (shift p)
unfolding table
shift_arithmetic p h k reg_is m =
    of_row 19 _ p refl
    (and_both _ _ (fits-between 0xd0 0xd3 p.opcode h k (omega arith))
    (fits-one _ p.modrm [] (fits-any_operand 7 7 p.modrm (omega arith) (omega arith) m)))

shift-bit :
    (p : Parts) (by_cl : Bool) → (p.opcode / 2 % 2 == 1) ≡ by_cl → operation_of I8086 p ≡ Some (shift p)
    → operation_of I8086 p ≡ Some (ShiftOp (shift_of (reg_field p.modrm)) (rm p) (if by_cl then Cl else One))
shift-bit p by_cl e h =
    h ∙ ap (λ (b : Bool). Some (ShiftOp (shift_of (reg_field p.modrm)) (rm p) (if b then Cl else One))) e

pub shift_by_one :
    (p : Parts) → 0xd0 ≤ p.opcode → p.opcode ≤ 0xd1 → reg_field p.modrm ≢ 6 → p.modrm < 256
    → operation_of I8086 p ≡ Some (ShiftOp (shift_of (reg_field p.modrm)) (rm p) One)
shift_by_one p h k n m =
    let bit : (p.opcode / 2 % 2 == 1) ≡ false = grind (arith, nat_tests) in
    shift-bit p false bit
    (elim (cases_lt (reg_field p.modrm) 2) [
      | inl a ↦ rotate p h (omega arith) (omega arith) m
      | inr a ↦ elim (cases_lt (reg_field p.modrm) 4) [
        | inl b ↦ rotate_carry p h k a (omega arith) m
        | inr b ↦ elim (cases_lt (reg_field p.modrm) 6) [
          | inl c ↦ shift_left_right p h (omega arith) b (omega arith) m
          | inr c ↦ shift_arithmetic p h (omega arith) (omega arith) m
        ]
      ]
    ])

pub shift_by_cl :
    (p : Parts) → 0xd2 ≤ p.opcode → p.opcode ≤ 0xd3 → reg_field p.modrm ≢ 2 → reg_field p.modrm ≢ 3
    → reg_field p.modrm ≢ 6 → p.modrm < 256
    → operation_of I8086 p ≡ Some (ShiftOp (shift_of (reg_field p.modrm)) (rm p) Cl)
shift_by_cl p h k n2 n3 n m =
    let bit : (p.opcode / 2 % 2 == 1) ≡ true = grind (arith, nat_tests) in
    shift-bit p true bit
    (elim (cases_lt (reg_field p.modrm) 2) [
      | inl a ↦ rotate p (omega arith) k (omega arith) m
      | inr a ↦ elim (cases_lt (reg_field p.modrm) 6) [
        | inl c ↦ shift_left_right p (omega arith) k (omega arith) (omega arith) m
        | inr c ↦ shift_arithmetic p (omega arith) k (omega arith) m
      ]
    ])

pub none-d0_d3 :
    (p : Parts) → 0xd0 ≤ p.opcode → p.opcode ≤ 0xd3 → reg_field p.modrm ≡ 6 → p.modrm < 256
    → operation_of I8086 p ≡ None
unfolding table
none-d0_d3 p h k reg_is m =
    none (bytes_between 0xd0 0xd3 ∷ modrm_bytes (between 0 3) (between 6 6) (between 0 7) ∷ []) p refl
    (and_both _ _ (fits-between 0xd0 0xd3 p.opcode h k (omega arith))
    (fits-one _ p.modrm [] (fits-any_operand 6 6 p.modrm (omega arith) (omega arith) m)))

pub none-d2_d3 :
    (p : Parts) → 0xd2 ≤ p.opcode → p.opcode ≤ 0xd3 → 2 ≤ reg_field p.modrm → reg_field p.modrm ≤ 3
    → p.modrm < 256 → operation_of I8086 p ≡ None
unfolding table
none-d2_d3 p h k reg_low reg_high m =
    none (bytes_between 0xd2 0xd3 ∷ modrm_bytes (between 0 3) (between 2 3) (between 0 7) ∷ []) p refl
    (and_both _ _ (fits-between 0xd2 0xd3 p.opcode h k (omega arith))
    (fits-one _ p.modrm [] (fits-any_operand 2 3 p.modrm (omega arith) (omega arith) m)))

pub xlat : (p : Parts) → p.opcode ≡ 0xd7 → operation_of I8086 p ≡ Some (PlainOp Xlat)
unfolding table
xlat p e = of_row 61 _ p refl (this 0xd7 p e)

pub none-d4_d6 : (p : Parts) → 0xd4 ≤ p.opcode → p.opcode ≤ 0xd6 → operation_of I8086 p ≡ None
unfolding table
none-d4_d6 p h k =
    none (bytes_between 0xd4 0xd6 ∷ []) p refl
    (one 0xd4 0xd6 p h k (omega arith))

pub none-d8_df : (p : Parts) → 0xd8 ≤ p.opcode → p.opcode ≤ 0xdf → operation_of I8086 p ≡ None
unfolding table
none-d8_df p h k =
    none (bytes_between 0xd8 0xdf ∷ []) p refl
    (one 0xd8 0xdf p h k (omega arith))

pub loop_ne : (p : Parts) → p.opcode ≡ 0xe0 → operation_of I8086 p ≡ Some (LoopNe (target p))
unfolding table
loop_ne p e = of_row 45 _ p refl (this 0xe0 p e)

pub loop_e : (p : Parts) → p.opcode ≡ 0xe1 → operation_of I8086 p ≡ Some (LoopE (target p))
unfolding table
loop_e p e = of_row 46 _ p refl (this 0xe1 p e)

pub loop_cx : (p : Parts) → p.opcode ≡ 0xe2 → operation_of I8086 p ≡ Some (Loop (target p))
unfolding table
loop_cx p e = of_row 47 _ p refl (this 0xe2 p e)

pub jcxz : (p : Parts) → p.opcode ≡ 0xe3 → operation_of I8086 p ≡ Some (Jcxz (target p))
unfolding table
jcxz p e = of_row 48 _ p refl (this 0xe3 p e)

pub call_near : (p : Parts) → p.opcode ≡ 0xe8 → operation_of I8086 p ≡ Some (Call (target p))
unfolding table
call_near p e = of_row 49 _ p refl (this 0xe8 p e)

pub jump_near : (p : Parts) → p.opcode ≡ 0xe9 → operation_of I8086 p ≡ Some (Jump (target p))
unfolding table
jump_near p e = of_row 50 _ p refl (this 0xe9 p e)

pub jump_short : (p : Parts) → p.opcode ≡ 0xeb → operation_of I8086 p ≡ Some (Jump (target p))
unfolding table
jump_short p e = of_row 51 _ p refl (this 0xeb p e)

pub none-e4_e7 : (p : Parts) → 0xe4 ≤ p.opcode → p.opcode ≤ 0xe7 → operation_of I8086 p ≡ None
unfolding table
none-e4_e7 p h k =
    none (bytes_between 0xe4 0xe7 ∷ []) p refl
    (one 0xe4 0xe7 p h k (omega arith))

pub none-ea_ea : (p : Parts) → 0xea ≤ p.opcode → p.opcode ≤ 0xea → operation_of I8086 p ≡ None
unfolding table
none-ea_ea p h k =
    none (bytes_between 0xea 0xea ∷ []) p refl
    (one 0xea 0xea p h k (omega arith))

pub none-ec_ef : (p : Parts) → 0xec ≤ p.opcode → p.opcode ≤ 0xef → operation_of I8086 p ≡ None
unfolding table
none-ec_ef p h k =
    none (bytes_between 0xec 0xef ∷ []) p refl
    (one 0xec 0xef p h k (omega arith))

-- 0xF0 to 0xFF ----------------------------------------------------------------------------------

pub cmc : (p : Parts) → p.opcode ≡ 0xf5 → operation_of I8086 p ≡ Some (PlainOp Cmc)
unfolding table
cmc p e = of_row 62 _ p refl (this 0xf5 p e)

pub clc : (p : Parts) → p.opcode ≡ 0xf8 → operation_of I8086 p ≡ Some (PlainOp Clc)
unfolding table
clc p e = of_row 63 _ p refl (this 0xf8 p e)

pub stc : (p : Parts) → p.opcode ≡ 0xf9 → operation_of I8086 p ≡ Some (PlainOp Stc)
unfolding table
stc p e = of_row 64 _ p refl (this 0xf9 p e)

pub cli : (p : Parts) → p.opcode ≡ 0xfa → operation_of I8086 p ≡ Some (PlainOp Cli)
unfolding table
cli p e = of_row 65 _ p refl (this 0xfa p e)

pub sti : (p : Parts) → p.opcode ≡ 0xfb → operation_of I8086 p ≡ Some (PlainOp Sti)
unfolding table
sti p e = of_row 66 _ p refl (this 0xfb p e)

pub cld : (p : Parts) → p.opcode ≡ 0xfc → operation_of I8086 p ≡ Some (PlainOp Cld)
unfolding table
cld p e = of_row 67 _ p refl (this 0xfc p e)

pub none-f0_f4 : (p : Parts) → 0xf0 ≤ p.opcode → p.opcode ≤ 0xf4 → operation_of I8086 p ≡ None
unfolding table
none-f0_f4 p h k =
    none (bytes_between 0xf0 0xf4 ∷ []) p refl
    (one 0xf0 0xf4 p h k (omega arith))

pub none-fd_fd : (p : Parts) → 0xfd ≤ p.opcode → p.opcode ≤ 0xfd → operation_of I8086 p ≡ None
unfolding table
none-fd_fd p h k =
    none (bytes_between 0xfd 0xfd ∷ []) p refl
    (one 0xfd 0xfd p h k (omega arith))

pub test_byte :
    (p : Parts) → p.opcode ≡ 0xf6 → reg_field p.modrm ≡ 0 → p.modrm < 256
    → operation_of I8086 p ≡ Some (AluOp Test (rm p) (imm p))
unfolding table
test_byte p e reg_is m =
    of_row 9 _ p refl
    (and_both _ _ (fits-this 0xf6 p.opcode e)
    (fits-one _ p.modrm [] (fits-any_operand 0 0 p.modrm (omega arith) (omega arith) m)))

pub test_word :
    (p : Parts) → p.opcode ≡ 0xf7 → reg_field p.modrm ≡ 0 → p.modrm < 256
    → operation_of I8086 p ≡ Some (AluOp Test (rm p) (imm p))
unfolding table
test_word p e reg_is m =
    of_row 10 _ p refl
    (and_both _ _ (fits-this 0xf7 p.opcode e)
    (fits-one _ p.modrm [] (fits-any_operand 0 0 p.modrm (omega arith) (omega arith) m)))

pub unary_group :
    (p : Parts) → 0xf6 ≤ p.opcode → p.opcode ≤ 0xf7 → 2 ≤ reg_field p.modrm → p.modrm < 256
    → operation_of I8086 p ≡ Some (unary_by_reg p (rm p))
unfolding table
unary_group p h k reg_low m =
    of_row 13 _ p refl
    (and_both _ _ (fits-between 0xf6 0xf7 p.opcode h k (omega arith))
    (fits-one _ p.modrm [] (fits-any_operand 2 7 p.modrm (omega arith) (omega arith) m)))

pub none-f6_f7 :
    (p : Parts) → 0xf6 ≤ p.opcode → p.opcode ≤ 0xf7 → reg_field p.modrm ≡ 1 → p.modrm < 256
    → operation_of I8086 p ≡ None
unfolding table
none-f6_f7 p h k reg_is m =
    none (bytes_between 0xf6 0xf7 ∷ modrm_bytes (between 0 3) (between 1 1) (between 0 7) ∷ []) p refl
    (and_both _ _ (fits-between 0xf6 0xf7 p.opcode h k (omega arith))
    (fits-one _ p.modrm [] (fits-any_operand 1 1 p.modrm (omega arith) (omega arith) m)))

pub inc_operand :
    (p : Parts) → 0xfe ≤ p.opcode → p.opcode ≤ 0xff → reg_field p.modrm ≡ 0 → p.modrm < 256
    → operation_of I8086 p ≡ Some (UnaryOp Inc (rm p))
unfolding table
inc_operand p h k reg_is m =
    of_row 14 _ p refl
    (and_both _ _ (fits-between 0xfe 0xff p.opcode h k (omega arith))
    (fits-one _ p.modrm [] (fits-any_operand 0 0 p.modrm (omega arith) (omega arith) m)))

pub dec_operand :
    (p : Parts) → 0xfe ≤ p.opcode → p.opcode ≤ 0xff → reg_field p.modrm ≡ 1 → p.modrm < 256
    → operation_of I8086 p ≡ Some (UnaryOp Dec (rm p))
unfolding table
dec_operand p h k reg_is m =
    of_row 15 _ p refl
    (and_both _ _ (fits-between 0xfe 0xff p.opcode h k (omega arith))
    (fits-one _ p.modrm [] (fits-any_operand 1 1 p.modrm (omega arith) (omega arith) m)))

pub push_memory :
    (p : Parts) → p.opcode ≡ 0xff → mod_field p.modrm ≤ 2 → reg_field p.modrm ≡ 6 → p.modrm < 256
    → operation_of I8086 p ≡ Some (Push (rm16 p))
unfolding table
push_memory p e mod_high reg_is m =
    of_row 24 _ p refl
    (and_both _ _ (fits-this 0xff p.opcode e)
    (fits-one _ p.modrm [] (fits-modrm (between 0 2) (between 6 6) (between 0 7) p.modrm
    (omega arith) (omega arith) (omega arith) (omega arith) (omega arith) (omega arith) m)))

pub push_below_sp :
    (p : Parts) → p.opcode ≡ 0xff → mod_field p.modrm ≡ 3 → reg_field p.modrm ≡ 6
    → rm_field p.modrm ≤ 3 → p.modrm < 256 → operation_of I8086 p ≡ Some (Push (rm16 p))
unfolding table
push_below_sp p e mod_is reg_is rm_high m =
    of_row 25 _ p refl
    (and_both _ _ (fits-this 0xff p.opcode e)
    (fits-one _ p.modrm [] (fits-modrm (between 3 3) (between 6 6) (between 0 3) p.modrm
    (omega arith) (omega arith) (omega arith) (omega arith) (omega arith) (omega arith) m)))

pub push_above_sp :
    (p : Parts) → p.opcode ≡ 0xff → mod_field p.modrm ≡ 3 → reg_field p.modrm ≡ 6
    → 5 ≤ rm_field p.modrm → p.modrm < 256 → operation_of I8086 p ≡ Some (Push (rm16 p))
unfolding table
push_above_sp p e mod_is reg_is rm_low m =
    of_row 26 _ p refl
    (and_both _ _ (fits-this 0xff p.opcode e)
    (fits-one _ p.modrm [] (fits-modrm (between 3 3) (between 6 6) (between 5 7) p.modrm
    (omega arith) (omega arith) (omega arith) (omega arith) (omega arith) (omega arith) m)))

pub none-fe_ff_low :
    (p : Parts) → 0xfe ≤ p.opcode → p.opcode ≤ 0xff → 2 ≤ reg_field p.modrm → reg_field p.modrm ≤ 5
    → p.modrm < 256 → operation_of I8086 p ≡ None
unfolding table
none-fe_ff_low p h k reg_low reg_high m =
    none (bytes_between 0xfe 0xff ∷ modrm_bytes (between 0 3) (between 2 5) (between 0 7) ∷ []) p refl
    (and_both _ _ (fits-between 0xfe 0xff p.opcode h k (omega arith))
    (fits-one _ p.modrm [] (fits-any_operand 2 5 p.modrm (omega arith) (omega arith) m)))

pub none-fe_ff_high :
    (p : Parts) → 0xfe ≤ p.opcode → p.opcode ≤ 0xff → reg_field p.modrm ≡ 7 → p.modrm < 256
    → operation_of I8086 p ≡ None
unfolding table
none-fe_ff_high p h k reg_is m =
    none (bytes_between 0xfe 0xff ∷ modrm_bytes (between 0 3) (between 7 7) (between 0 7) ∷ []) p refl
    (and_both _ _ (fits-between 0xfe 0xff p.opcode h k (omega arith))
    (fits-one _ p.modrm [] (fits-any_operand 7 7 p.modrm (omega arith) (omega arith) m)))

pub none-fe :
    (p : Parts) → 0xfe ≤ p.opcode → p.opcode ≤ 0xfe → 2 ≤ reg_field p.modrm → p.modrm < 256
    → operation_of I8086 p ≡ None
unfolding table
none-fe p h k reg_low m =
    none (bytes_between 0xfe 0xfe ∷ modrm_bytes (between 0 3) (between 2 7) (between 0 7) ∷ []) p refl
    (and_both _ _ (fits-between 0xfe 0xfe p.opcode h k (omega arith))
    (fits-one _ p.modrm [] (fits-any_operand 2 7 p.modrm (omega arith) (omega arith) m)))

pub none-ff_sp :
    (p : Parts) → 0xff ≤ p.opcode → p.opcode ≤ 0xff → mod_field p.modrm ≡ 3 → reg_field p.modrm ≡ 6
    → rm_field p.modrm ≡ 4 → p.modrm < 256 → operation_of I8086 p ≡ None
unfolding table
none-ff_sp p h k mod_is reg_is rm_is m =
    none (bytes_between 0xff 0xff ∷ modrm_bytes (between 3 3) (between 6 6) (between 4 4) ∷ []) p refl
    (and_both _ _ (fits-between 0xff 0xff p.opcode h k (omega arith))
    (fits-one _ p.modrm [] (fits-modrm (between 3 3) (between 6 6) (between 4 4) p.modrm
    (omega arith) (omega arith) (omega arith) (omega arith) (omega arith) (omega arith) m)))

-- the word register SP is excepted
pub push_not_sp :
    (p : Parts) → p.opcode ≡ 0xff → reg_field p.modrm ≡ 6
    → (mod_field p.modrm == 3) && (rm_field p.modrm == 4) ≡ false → p.modrm < 256
    → operation_of I8086 p ≡ Some (Push (rm16 p))
push_not_sp p e r n m =
    elim (cases_lt (mod_field p.modrm) 3) [
      | inl a ↦ push_memory p e (omega arith) r m
      | inr a ↦
          let mod_is : mod_field p.modrm ≡ 3 = omega arith in
          elim (cases_lt (rm_field p.modrm) 4) [
            | inl b ↦ push_below_sp p e mod_is r (omega arith) m
            | inr b ↦
                let above : 5 ≤ rm_field p.modrm = grind (arith, nat_tests) in
                push_above_sp p e mod_is r above m
          ]
    ]

pub push_sp :
    (p : Parts) → p.opcode ≡ 0xff → reg_field p.modrm ≡ 6
    → (mod_field p.modrm == 3) && (rm_field p.modrm == 4) ≡ true → p.modrm < 256
    → operation_of I8086 p ≡ None
push_sp p e r n m =
    let mod_is : mod_field p.modrm ≡ 3 = grind (arith, nat_tests) in
    let rm_is : rm_field p.modrm ≡ 4 = grind (arith, nat_tests) in
    none-ff_sp p (omega arith) (omega arith) mod_is r rm_is m

-- The rows by the functions that they serve ---------------------------------------------------

pub ruleset arithmetic_rules = (alu_two, alu_al, alu_ax, none-eight)

pub ruleset register_rules = (inc_register, dec_register, push_low, push_high, pop_low, pop_high, none-54_54, none-5c_5c)

pub ruleset operation_rules = (none-60_6f)

pub ruleset branch_rules = (branch_unsigned, branch_signed, none-7a_7b)

pub ruleset operand_rules = (alu_byte, alu_constant_word, none-82_82, test_two, xchg_two, mov_two)

pub ruleset segment_rules = (mov_from_segment, mov_to_es, mov_to_segment, none-8c_memory, none-8c_high, none-8e_memory, none-8e_cs, none-8e_high)

pub ruleset address_rules = (lea, none-8d)

pub ruleset pop_rules = (none-8f_group, pop_not_sp, pop_sp)

pub ruleset accumulator_rules = (nop, xchg_register, cbw, cwd, none-9a_9f)

pub ruleset direct_rules = (mov_from_direct, mov_to_direct, test_al, test_ax, none-a4_a7, none-aa_af)

pub ruleset constant_rules = (mov_byte, mov_word)

pub ruleset return_rules = (ret_count, ret, mov_operand_byte, mov_operand_word, none-c0_c1, none-c4_c5, none-c8_cc, none-ce_cf, none-c6_c7)

pub ruleset shift_rules = (shift_by_one, shift_by_cl, none-d0_d3, none-d2_d3)

pub ruleset translate_rules = (xlat, none-d4_d6, none-d8_df)

pub ruleset jump_rules = (loop_ne, loop_e, loop_cx, jcxz, call_near, jump_near, jump_short, none-e4_e7, none-ea_ea, none-ec_ef)

pub ruleset group_rules = (cmc, clc, stc, cli, sti, cld, none-f0_f4, none-fd_fd)

pub ruleset unary_rules = (test_byte, test_word, unary_group, none-f6_f7)

pub ruleset step_rules = (inc_operand, dec_operand, none-fe_ff_low, none-fe_ff_high, none-fe, push_not_sp, push_sp)
