-- The operation of each row of the 8086 with an opcode below 0x90, by its opcode and ModRM byte, and the bytes that
-- have none.
use Rattle.std.proofs.Common.{◌≡◌, ℕ, ◌-◌, ◌<◌, ◌≤◌, Bool, true, false, ◌&&◌, nat_lt, List, [], ◌∷◌, length, refl, ◌∙◌, inl, inr, arith}
use Rattle.std.specs.Prelude.{◌≢◌, bit_and, find, slice_get, Some, None, ◌==◌}
use Rattle.std.specs.List.{list_all}
use Rattle.std.proofs.lemmas.Bool.{cases_lt}
use Rattle.std.proofs.lemmas.Bool.Decides.{nat_tests}
use Rattle.dcc_machine.specs.declared.cpu.Cpu.{Cpu}
use Rattle.dcc_machine.specs.declared.cpu.Cpu.TheVariants.{I8086}
use Rattle.dcc_machine.specs.declared.instr.Alu.TheVariants.{Test}
use Rattle.dcc_machine.specs.declared.instr.Unary.TheVariants.{Inc, Dec}
use Rattle.dcc_machine.specs.declared.instr.Op.TheVariants.{Alu as AluOp, Unary as UnaryOp, Mov, Xchg, Push, Pop}
use Rattle.dcc_machine.specs.Operands.{mod_field, reg_field, rm_field}
use Rattle.dcc_machine.specs.Table.{Range, BytePattern, Row, Parts, fits_byte, fits, table, between, bytes_between, this_byte, each_eight, modrm_bytes, rm8, rm16, rm, reg, segment, r16, al, ax, imm8, imm16, destination, source, alu_by_opcode, alu_by_reg, load_address, condition_of, signed_condition_of, branch}
use Rattle.dcc_machine.proofs.TableLaws.{and_left, and_right, and_both, find-fits, find-within, rows_within}
use Rattle.dcc_decode.specs.Reading.{operation_of}
use Rattle.dcc_decode.proofs.Forms.{fits-between, fits-this, fits-each_eight, fits-modrm, fits-any_operand, fits-one, low_bits}

-- The row that the bytes fit -----------------------------------------------------------------------

-- the row at a place of the table gives the operation where the opcode and the ModRM byte fit it
pub of_row_for :
    (cpu : Cpu) (k : ℕ) (row : Row) (p : Parts) → slice_get (table cpu) k ≡ Some row
    → fits row.pattern (p.opcode ∷ p.modrm ∷ []) ≡ true → operation_of cpu p ≡ Some (row.operation p)
unfolding operation_of
of_row_for cpu k row p at h = rw (find-fits cpu (p.opcode ∷ p.modrm ∷ []) row (k, at) h)

pub of_row :
    (k : ℕ) (row : Row) (p : Parts) → slice_get (table I8086) k ≡ Some row
    → fits row.pattern (p.opcode ∷ p.modrm ∷ []) ≡ true → operation_of I8086 p ≡ Some (row.operation p)
of_row = of_row_for I8086

-- no row of more than two bytes fits two
fits-long :
    (pattern : List BytePattern) (a b : ℕ) → nat_lt 2 (length pattern) ≡ true
    → fits pattern (a ∷ b ∷ []) ≡ false
fits-long [] a b h = cc
fits-long (p ∷ []) a b h = cc
fits-long (p ∷ q ∷ []) a b h = cc
fits-long (p ∷ q ∷ r ∷ rest) a b h = no_third (fits_byte p a) (fits_byte q b)
  where
    no_third : (x y : Bool) → x && (y && false) ≡ false
    no_third true true = refl
    no_third true false = refl
    no_third false y = refl

find-long :
    (rows : List Row) (a b : ℕ) → list_all (λ row. nat_lt 2 (length row.pattern)) rows ≡ true
    → find (λ row. fits row.pattern (a ∷ b ∷ [])) rows ≡ None
find-long [] a b h = refl
find-long (row ∷ rows) a b h = rw (fits-long row.pattern a b (and_left _ _ h)) (find-long rows a b (and_right _ _ h))

-- whether each of the rows that bytes of a form may fit has more than two bytes
abbrev pub empty : List Row → List BytePattern → Bool
empty rows form = list_all (λ row. nat_lt 2 (length row.pattern)) (rows_within form rows)

-- where each row that bytes of a form may fit has more than two bytes, no row fits an opcode and a ModRM byte of that
-- form
pub no_row_fits :
    (rows : List Row) (form : List BytePattern) (a b : ℕ) → empty rows form ≡ true → fits form (a ∷ b ∷ []) ≡ true
    → find (λ row. fits row.pattern (a ∷ b ∷ [])) rows ≡ None
no_row_fits rows form a b e h = find-within form (a ∷ b ∷ []) rows h ∙ find-long (rows_within form rows) a b e

-- there is no operation where no row of one or two bytes has a part in the form
pub none_for :
    (cpu : Cpu) (form : List BytePattern) (p : Parts) → empty (table cpu) form ≡ true
    → fits form (p.opcode ∷ p.modrm ∷ []) ≡ true → operation_of cpu p ≡ None
unfolding operation_of
none_for cpu form p e h = rw (no_row_fits (table cpu) form p.opcode p.modrm e h) refl

pub none :
    (form : List BytePattern) (p : Parts) → empty (table I8086) form ≡ true
    → fits form (p.opcode ∷ p.modrm ∷ []) ≡ true → operation_of I8086 p ≡ None
none = none_for I8086

-- the two bytes fit an opcode's pattern, and the ModRM byte's
pub one :
    (first last : ℕ) (p : Parts) → first ≤ p.opcode → p.opcode ≤ last → p.opcode < 256
    → fits (bytes_between first last ∷ []) (p.opcode ∷ p.modrm ∷ []) ≡ true
one first last p h k l = fits-one _ p.opcode (p.modrm ∷ []) (fits-between first last p.opcode h k l)

pub eight :
    (first last : ℕ) (p : Parts) → first ≤ bit_and p.opcode 7 → bit_and p.opcode 7 ≤ last
    → p.opcode < 64 → fits (each_eight first last ∷ []) (p.opcode ∷ p.modrm ∷ []) ≡ true
eight first last p h k l =
    fits-one _ p.opcode (p.modrm ∷ []) (fits-each_eight first last p.opcode (rw low_bits at h) (rw low_bits at k) l)

pub two :
    (first last : ℕ) (mods regs rms : Range) (p : Parts) → first ≤ p.opcode → p.opcode ≤ last
    → p.opcode < 256 → fits_byte (modrm_bytes mods regs rms) p.modrm ≡ true
    → fits (bytes_between first last ∷ modrm_bytes mods regs rms ∷ []) (p.opcode ∷ p.modrm ∷ []) ≡ true
two first last mods regs rms p h k l m =
    and_both _ _ (fits-between first last p.opcode h k l) (fits-one _ p.modrm [] m)

-- any ModRM byte
pub any :
    (p : Parts) → p.modrm < 256
    → fits_byte (modrm_bytes (between 0 3) (between 0 7) (between 0 7)) p.modrm ≡ true
any p m = fits-any_operand 0 7 p.modrm (omega arith) (omega arith) m

pub this :
    (byte : ℕ) (p : Parts) → p.opcode ≡ byte
    → fits (this_byte byte ∷ []) (p.opcode ∷ p.modrm ∷ []) ≡ true
this byte p e = fits-one _ p.opcode (p.modrm ∷ []) (fits-this byte p.opcode e)

-- 0x00 to 0x3F ----------------------------------------------------------------------------------

pub alu_two :
    (p : Parts) → p.opcode < 64 → bit_and p.opcode 7 ≤ 3 → p.modrm < 256
    → operation_of I8086 p ≡ Some (alu_by_opcode p (destination p) (source p))
unfolding table
alu_two p h k m =
    of_row 0 _ p refl
    (and_both _ _ (fits-each_eight 0 3 p.opcode (omega arith) (rw low_bits at k) h) (fits-one _ p.modrm [] (any p m)))

pub alu_al :
    (p : Parts) → p.opcode < 64 → bit_and p.opcode 7 ≡ 4
    → operation_of I8086 p ≡ Some (alu_by_opcode p al (imm8 p))
unfolding table
alu_al p h e = of_row 1 _ p refl (eight 4 4 p (omega arith) (omega arith) h)

pub alu_ax :
    (p : Parts) → p.opcode < 64 → bit_and p.opcode 7 ≡ 5
    → operation_of I8086 p ≡ Some (alu_by_opcode p ax (imm16 p))
unfolding table
alu_ax p h e = of_row 2 _ p refl (eight 5 5 p (omega arith) (omega arith) h)

pub none-eight : (p : Parts) → p.opcode < 64 → 6 ≤ bit_and p.opcode 7 → operation_of I8086 p ≡ None
unfolding table
none-eight p h k =
    none (each_eight 6 7 ∷ []) p refl (eight 6 7 p k (rw low_bits (omega arith)) h)

-- 0x40 to 0x5F ----------------------------------------------------------------------------------

pub inc_register :
    (p : Parts) → 0x40 ≤ p.opcode → p.opcode ≤ 0x47 → operation_of I8086 p ≡ Some (UnaryOp Inc (r16 p))
unfolding table
inc_register p h k = of_row 11 _ p refl (one 0x40 0x47 p h k (omega arith))

pub dec_register :
    (p : Parts) → 0x48 ≤ p.opcode → p.opcode ≤ 0x4f → operation_of I8086 p ≡ Some (UnaryOp Dec (r16 p))
unfolding table
dec_register p h k = of_row 12 _ p refl (one 0x48 0x4f p h k (omega arith))

pub push_low : (p : Parts) → 0x50 ≤ p.opcode → p.opcode ≤ 0x53 → operation_of I8086 p ≡ Some (Push (r16 p))
unfolding table
push_low p h k = of_row 20 _ p refl (one 0x50 0x53 p h k (omega arith))

pub push_high : (p : Parts) → 0x55 ≤ p.opcode → p.opcode ≤ 0x57 → operation_of I8086 p ≡ Some (Push (r16 p))
unfolding table
push_high p h k = of_row 21 _ p refl (one 0x55 0x57 p h k (omega arith))

pub pop_low : (p : Parts) → 0x58 ≤ p.opcode → p.opcode ≤ 0x5b → operation_of I8086 p ≡ Some (Pop (r16 p))
unfolding table
pop_low p h k = of_row 22 _ p refl (one 0x58 0x5b p h k (omega arith))

pub pop_high : (p : Parts) → 0x5d ≤ p.opcode → p.opcode ≤ 0x5f → operation_of I8086 p ≡ Some (Pop (r16 p))
unfolding table
pop_high p h k = of_row 23 _ p refl (one 0x5d 0x5f p h k (omega arith))

pub none-54_54 : (p : Parts) → 0x54 ≤ p.opcode → p.opcode ≤ 0x54 → operation_of I8086 p ≡ None
unfolding table
none-54_54 p h k =
    none (bytes_between 0x54 0x54 ∷ []) p refl
    (one 0x54 0x54 p h k (omega arith))

pub none-5c_5c : (p : Parts) → 0x5c ≤ p.opcode → p.opcode ≤ 0x5c → operation_of I8086 p ≡ None
unfolding table
none-5c_5c p h k =
    none (bytes_between 0x5c 0x5c ∷ []) p refl
    (one 0x5c 0x5c p h k (omega arith))

-- 0x60 to 0x7F ----------------------------------------------------------------------------------

pub none-60_6f : (p : Parts) → 0x60 ≤ p.opcode → p.opcode ≤ 0x6f → operation_of I8086 p ≡ None
unfolding table
none-60_6f p h k =
    none (bytes_between 0x60 0x6f ∷ []) p refl
    (one 0x60 0x6f p h k (omega arith))

pub branch_unsigned :
    (p : Parts) → 0x70 ≤ p.opcode → p.opcode ≤ 0x79
    → operation_of I8086 p ≡ Some (branch (condition_of (p.opcode - 0x70)) p)
unfolding table
branch_unsigned p h k = of_row 43 _ p refl (one 0x70 0x79 p h k (omega arith))

pub branch_signed :
    (p : Parts) → 0x7c ≤ p.opcode → p.opcode ≤ 0x7f
    → operation_of I8086 p ≡ Some (branch (signed_condition_of (p.opcode - 0x7c)) p)
unfolding table
branch_signed p h k = of_row 44 _ p refl (one 0x7c 0x7f p h k (omega arith))

pub none-7a_7b : (p : Parts) → 0x7a ≤ p.opcode → p.opcode ≤ 0x7b → operation_of I8086 p ≡ None
unfolding table
none-7a_7b p h k =
    none (bytes_between 0x7a 0x7b ∷ []) p refl
    (one 0x7a 0x7b p h k (omega arith))

-- 0x80 to 0x8F ----------------------------------------------------------------------------------

pub alu_byte :
    (p : Parts) → p.opcode ≡ 0x80 → p.modrm < 256
    → operation_of I8086 p ≡ Some (alu_by_reg p (rm8 p) (imm8 p))
unfolding table
alu_byte p e m =
    of_row 3 _ p refl
    (and_both _ _ (fits-this 0x80 p.opcode e)
    (fits-one _ p.modrm [] (any p m)))

pub alu_word :
    (p : Parts) → p.opcode ≡ 0x81 → p.modrm < 256
    → operation_of I8086 p ≡ Some (alu_by_reg p (rm16 p) (imm16 p))
unfolding table
alu_word p e m =
    of_row 4 _ p refl
    (and_both _ _ (fits-this 0x81 p.opcode e)
    (fits-one _ p.modrm [] (any p m)))

pub alu_signed :
    (p : Parts) → p.opcode ≡ 0x83 → p.modrm < 256
    → operation_of I8086 p ≡ Some (alu_by_reg p (rm16 p) (imm16 p))
unfolding table
alu_signed p e m =
    of_row 5 _ p refl
    (and_both _ _ (fits-this 0x83 p.opcode e)
    (fits-one _ p.modrm [] (any p m)))

pub alu_constant_word :
    (p : Parts) → 0x81 ≤ p.opcode → p.opcode ≤ 0x83 → p.opcode ≢ 0x82 → p.modrm < 256
    → operation_of I8086 p ≡ Some (alu_by_reg p (rm16 p) (imm16 p))
alu_constant_word p h k n m =
    elim (cases_lt p.opcode 0x82) [
      | inl l ↦ alu_word p (omega arith) m
      | inr r ↦ alu_signed p (omega arith) m
    ]

pub none-82_82 : (p : Parts) → 0x82 ≤ p.opcode → p.opcode ≤ 0x82 → operation_of I8086 p ≡ None
unfolding table
none-82_82 p h k =
    none (bytes_between 0x82 0x82 ∷ []) p refl
    (one 0x82 0x82 p h k (omega arith))

pub test_two :
    (p : Parts) → 0x84 ≤ p.opcode → p.opcode ≤ 0x85 → p.modrm < 256
    → operation_of I8086 p ≡ Some (AluOp Test (rm p) (reg p))
unfolding table
test_two p h k m =
    of_row 6 _ p refl
    (and_both _ _ (fits-between 0x84 0x85 p.opcode h k (omega arith))
    (fits-one _ p.modrm [] (any p m)))

pub xchg_two :
    (p : Parts) → 0x86 ≤ p.opcode → p.opcode ≤ 0x87 → p.modrm < 256
    → operation_of I8086 p ≡ Some (Xchg (rm p) (reg p))
unfolding table
xchg_two p h k m =
    of_row 30 _ p refl
    (and_both _ _ (fits-between 0x86 0x87 p.opcode h k (omega arith))
    (fits-one _ p.modrm [] (any p m)))

pub mov_two :
    (p : Parts) → 0x88 ≤ p.opcode → p.opcode ≤ 0x8b → p.modrm < 256
    → operation_of I8086 p ≡ Some (Mov (destination p) (source p))
unfolding table
mov_two p h k m =
    of_row 32 _ p refl
    (and_both _ _ (fits-between 0x88 0x8b p.opcode h k (omega arith))
    (fits-one _ p.modrm [] (any p m)))

pub mov_from_segment :
    (p : Parts) → p.opcode ≡ 0x8c → mod_field p.modrm ≡ 3 → reg_field p.modrm ≤ 3 → p.modrm < 256
    → operation_of I8086 p ≡ Some (Mov (rm16 p) (segment p))
unfolding table
mov_from_segment p e mod_is reg_high m =
    of_row 33 _ p refl
    (and_both _ _ (fits-this 0x8c p.opcode e)
    (fits-one _ p.modrm [] (fits-modrm (between 3 3) (between 0 3) (between 0 7) p.modrm
    (omega arith) (omega arith) (omega arith) (omega arith) (omega arith) (omega arith) m)))

pub mov_to_es :
    (p : Parts) → p.opcode ≡ 0x8e → mod_field p.modrm ≡ 3 → reg_field p.modrm ≡ 0 → p.modrm < 256
    → operation_of I8086 p ≡ Some (Mov (segment p) (rm16 p))
unfolding table
mov_to_es p e mod_is reg_is m =
    of_row 34 _ p refl
    (and_both _ _ (fits-this 0x8e p.opcode e)
    (fits-one _ p.modrm [] (fits-modrm (between 3 3) (between 0 0) (between 0 7) p.modrm
    (omega arith) (omega arith) (omega arith) (omega arith) (omega arith) (omega arith) m)))

pub mov_to_segment :
    (p : Parts) → p.opcode ≡ 0x8e → mod_field p.modrm ≡ 3 → 2 ≤ reg_field p.modrm
    → reg_field p.modrm ≤ 3 → p.modrm < 256 → operation_of I8086 p ≡ Some (Mov (segment p) (rm16 p))
unfolding table
mov_to_segment p e mod_is reg_low reg_high m =
    of_row 35 _ p refl
    (and_both _ _ (fits-this 0x8e p.opcode e)
    (fits-one _ p.modrm [] (fits-modrm (between 3 3) (between 2 3) (between 0 7) p.modrm
    (omega arith) (omega arith) (omega arith) (omega arith) (omega arith) (omega arith) m)))

pub none-8c_memory :
    (p : Parts) → 0x8c ≤ p.opcode → p.opcode ≤ 0x8c → mod_field p.modrm ≤ 2 → p.modrm < 256
    → operation_of I8086 p ≡ None
unfolding table
none-8c_memory p h k mod_high m =
    none (bytes_between 0x8c 0x8c ∷ modrm_bytes (between 0 2) (between 0 7) (between 0 7) ∷ []) p refl
    (and_both _ _ (fits-between 0x8c 0x8c p.opcode h k (omega arith))
    (fits-one _ p.modrm [] (fits-modrm (between 0 2) (between 0 7) (between 0 7) p.modrm
    (omega arith) (omega arith) (omega arith) (omega arith) (omega arith) (omega arith) m)))

pub none-8c_high :
    (p : Parts) → 0x8c ≤ p.opcode → p.opcode ≤ 0x8c → 4 ≤ reg_field p.modrm → p.modrm < 256
    → operation_of I8086 p ≡ None
unfolding table
none-8c_high p h k reg_low m =
    none (bytes_between 0x8c 0x8c ∷ modrm_bytes (between 0 3) (between 4 7) (between 0 7) ∷ []) p refl
    (and_both _ _ (fits-between 0x8c 0x8c p.opcode h k (omega arith))
    (fits-one _ p.modrm [] (fits-any_operand 4 7 p.modrm (omega arith) (omega arith) m)))

pub none-8e_memory :
    (p : Parts) → 0x8e ≤ p.opcode → p.opcode ≤ 0x8e → mod_field p.modrm ≤ 2 → p.modrm < 256
    → operation_of I8086 p ≡ None
unfolding table
none-8e_memory p h k mod_high m =
    none (bytes_between 0x8e 0x8e ∷ modrm_bytes (between 0 2) (between 0 7) (between 0 7) ∷ []) p refl
    (and_both _ _ (fits-between 0x8e 0x8e p.opcode h k (omega arith))
    (fits-one _ p.modrm [] (fits-modrm (between 0 2) (between 0 7) (between 0 7) p.modrm
    (omega arith) (omega arith) (omega arith) (omega arith) (omega arith) (omega arith) m)))

pub none-8e_cs :
    (p : Parts) → 0x8e ≤ p.opcode → p.opcode ≤ 0x8e → reg_field p.modrm ≡ 1 → p.modrm < 256
    → operation_of I8086 p ≡ None
unfolding table
none-8e_cs p h k reg_is m =
    none (bytes_between 0x8e 0x8e ∷ modrm_bytes (between 0 3) (between 1 1) (between 0 7) ∷ []) p refl
    (and_both _ _ (fits-between 0x8e 0x8e p.opcode h k (omega arith))
    (fits-one _ p.modrm [] (fits-any_operand 1 1 p.modrm (omega arith) (omega arith) m)))

pub none-8e_high :
    (p : Parts) → 0x8e ≤ p.opcode → p.opcode ≤ 0x8e → 4 ≤ reg_field p.modrm → p.modrm < 256
    → operation_of I8086 p ≡ None
unfolding table
none-8e_high p h k reg_low m =
    none (bytes_between 0x8e 0x8e ∷ modrm_bytes (between 0 3) (between 4 7) (between 0 7) ∷ []) p refl
    (and_both _ _ (fits-between 0x8e 0x8e p.opcode h k (omega arith))
    (fits-one _ p.modrm [] (fits-any_operand 4 7 p.modrm (omega arith) (omega arith) m)))

pub lea :
    (p : Parts) → p.opcode ≡ 0x8d → mod_field p.modrm ≤ 2 → p.modrm < 256
    → operation_of I8086 p ≡ Some (load_address p)
unfolding table
lea p e mod_high m =
    of_row 36 _ p refl
    (and_both _ _ (fits-this 0x8d p.opcode e)
    (fits-one _ p.modrm [] (fits-modrm (between 0 2) (between 0 7) (between 0 7) p.modrm
    (omega arith) (omega arith) (omega arith) (omega arith) (omega arith) (omega arith) m)))

pub none-8d :
    (p : Parts) → 0x8d ≤ p.opcode → p.opcode ≤ 0x8d → mod_field p.modrm ≡ 3 → p.modrm < 256
    → operation_of I8086 p ≡ None
unfolding table
none-8d p h k mod_is m =
    none (bytes_between 0x8d 0x8d ∷ modrm_bytes (between 3 3) (between 0 7) (between 0 7) ∷ []) p refl
    (and_both _ _ (fits-between 0x8d 0x8d p.opcode h k (omega arith))
    (fits-one _ p.modrm [] (fits-modrm (between 3 3) (between 0 7) (between 0 7) p.modrm
    (omega arith) (omega arith) (omega arith) (omega arith) (omega arith) (omega arith) m)))

pub pop_memory :
    (p : Parts) → p.opcode ≡ 0x8f → mod_field p.modrm ≤ 2 → reg_field p.modrm ≡ 0 → p.modrm < 256
    → operation_of I8086 p ≡ Some (Pop (rm16 p))
unfolding table
pop_memory p e mod_high reg_is m =
    of_row 27 _ p refl
    (and_both _ _ (fits-this 0x8f p.opcode e)
    (fits-one _ p.modrm [] (fits-modrm (between 0 2) (between 0 0) (between 0 7) p.modrm
    (omega arith) (omega arith) (omega arith) (omega arith) (omega arith) (omega arith) m)))

pub pop_below_sp :
    (p : Parts) → p.opcode ≡ 0x8f → mod_field p.modrm ≡ 3 → reg_field p.modrm ≡ 0
    → rm_field p.modrm ≤ 3 → p.modrm < 256 → operation_of I8086 p ≡ Some (Pop (rm16 p))
unfolding table
pop_below_sp p e mod_is reg_is rm_high m =
    of_row 28 _ p refl
    (and_both _ _ (fits-this 0x8f p.opcode e)
    (fits-one _ p.modrm [] (fits-modrm (between 3 3) (between 0 0) (between 0 3) p.modrm
    (omega arith) (omega arith) (omega arith) (omega arith) (omega arith) (omega arith) m)))

pub pop_above_sp :
    (p : Parts) → p.opcode ≡ 0x8f → mod_field p.modrm ≡ 3 → reg_field p.modrm ≡ 0
    → 5 ≤ rm_field p.modrm → p.modrm < 256 → operation_of I8086 p ≡ Some (Pop (rm16 p))
unfolding table
pop_above_sp p e mod_is reg_is rm_low m =
    of_row 29 _ p refl
    (and_both _ _ (fits-this 0x8f p.opcode e)
    (fits-one _ p.modrm [] (fits-modrm (between 3 3) (between 0 0) (between 5 7) p.modrm
    (omega arith) (omega arith) (omega arith) (omega arith) (omega arith) (omega arith) m)))

pub none-8f_group :
    (p : Parts) → 0x8f ≤ p.opcode → p.opcode ≤ 0x8f → 1 ≤ reg_field p.modrm → p.modrm < 256
    → operation_of I8086 p ≡ None
unfolding table
none-8f_group p h k reg_low m =
    none (bytes_between 0x8f 0x8f ∷ modrm_bytes (between 0 3) (between 1 7) (between 0 7) ∷ []) p refl
    (and_both _ _ (fits-between 0x8f 0x8f p.opcode h k (omega arith))
    (fits-one _ p.modrm [] (fits-any_operand 1 7 p.modrm (omega arith) (omega arith) m)))

pub none-8f_sp :
    (p : Parts) → 0x8f ≤ p.opcode → p.opcode ≤ 0x8f → mod_field p.modrm ≡ 3 → rm_field p.modrm ≡ 4
    → p.modrm < 256 → operation_of I8086 p ≡ None
unfolding table
none-8f_sp p h k mod_is rm_is m =
    none (bytes_between 0x8f 0x8f ∷ modrm_bytes (between 3 3) (between 0 7) (between 4 4) ∷ []) p refl
    (and_both _ _ (fits-between 0x8f 0x8f p.opcode h k (omega arith))
    (fits-one _ p.modrm [] (fits-modrm (between 3 3) (between 0 7) (between 4 4) p.modrm
    (omega arith) (omega arith) (omega arith) (omega arith) (omega arith) (omega arith) m)))

-- the word register SP is excepted
pub pop_not_sp :
    (p : Parts) → p.opcode ≡ 0x8f → reg_field p.modrm ≡ 0
    → (mod_field p.modrm == 3) && (rm_field p.modrm == 4) ≡ false → p.modrm < 256
    → operation_of I8086 p ≡ Some (Pop (rm16 p))
pop_not_sp p e r n m =
    elim (cases_lt (mod_field p.modrm) 3) [
      | inl a ↦ pop_memory p e (omega arith) r m
      | inr a ↦
          let mod_is : mod_field p.modrm ≡ 3 = omega arith in
          elim (cases_lt (rm_field p.modrm) 4) [
            | inl b ↦ pop_below_sp p e mod_is r (omega arith) m
            | inr b ↦
                let above : 5 ≤ rm_field p.modrm = grind (arith, nat_tests) in
                pop_above_sp p e mod_is r above m
          ]
    ]

pub pop_sp :
    (p : Parts) → p.opcode ≡ 0x8f → reg_field p.modrm ≡ 0
    → (mod_field p.modrm == 3) && (rm_field p.modrm == 4) ≡ true → p.modrm < 256
    → operation_of I8086 p ≡ None
pop_sp p e r n m =
    let mod_is : mod_field p.modrm ≡ 3 = grind (arith, nat_tests) in
    let rm_is : rm_field p.modrm ≡ 4 = grind (arith, nat_tests) in
    none-8f_sp p (omega arith) (omega arith) mod_is rm_is m
