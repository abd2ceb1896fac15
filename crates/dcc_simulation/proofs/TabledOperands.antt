-- The operands of the table's instructions: addresses are sums of general registers or begin with BP, one operand at most
-- lies in memory, and XCHG has a register as its second operand.
use Rattle.std.proofs.Common.{◌≡◌, ◌<◌, ℕ, zero, suc, ◌+◌, ◌/◌, ◌%◌, Bool, true, false, true≢false, ◌&&◌, ◌||◌, List, [], ◌∷◌, ◌++◌, length, slice_get, Some, refl, ap, ◌∙◌, subst, arith}
use Rattle.std.specs.Prelude.{◌==◌, if◌then◌else◌, get_or, Option, None}
use Rattle.dcc_num.specs.declared.Reg.{Reg}
use Rattle.dcc_num.specs.declared.Width.{Width}
use Rattle.dcc_num.specs.declared.Width.TheVariants.{Byte as byte_width, Word as word_width}
use Rattle.dcc_num.specs.Numbers.{signed_of, sign_extension_of}
use Rattle.dcc_num.proofs.Differences.{wrapped_below}
use Rattle.dcc_machine.specs.declared.cpu.Cpu.{Cpu}
use Rattle.dcc_machine.specs.declared.cpu.Cpu.TheVariants.{I8086, I186}
use Rattle.dcc_machine.specs.declared.instr.Ea.{Ea}
use Rattle.dcc_machine.specs.declared.instr.Operand.{Operand}
use Rattle.dcc_machine.specs.declared.instr.Operand.TheVariants.{Word, Byte, Seg, Mem, Const}
use Rattle.dcc_machine.specs.declared.instr.Op.{Op}
use Rattle.dcc_machine.specs.declared.instr.Op.TheVariants.{Alu, Unary, Shift, Mov, Xchg, Lea, Imul3, Push, Pop}
use Rattle.dcc_machine.specs.declared.instr.Instr.{Instr}
use Rattle.dcc_machine.specs.Machine.{is_bp, is_segment}
use Rattle.dcc_machine.specs.Bytes.{byte_at, word_at}
use Rattle.dcc_machine.specs.Operands.{displacement_at, register, rm_operand, mod_field, reg_field, rm_field, has_direct_address, base_registers, index_registers, address, width_of}
use Rattle.dcc_machine.specs.Table.{Row, Parts, ConstantForm, no_constant, byte_constant, word_constant, signed_constant, constant_at, constant_index, head_length, row_parts, table, arithmetic_rows, unary_rows, stack_rows, move_rows, control_rows, plain_rows, later_rows, rows_besides, instruction_at, rm, rm8, rm16, reg, r8, r16, al, ax, accumulator, direct, destination, source}
use Rattle.dcc_prog.specs.Construct.{is_system}
use Rattle.dcc_machine.proofs.TableLaws.{instruction-row}
use Rattle.dcc_machine.proofs.WellFormedLaws.{AreBytes}
use Rattle.dcc_machine.proofs.LocationKept.{or-none}
use Rattle.dcc_stack.specs.Slots.{is_memory}
use Rattle.dcc_simulation.specs.Places.{is_plain, IsPlainAddress}

-- Operands.

-- an address is such a sum, with a displacement that is a word
pub record IsAddress (ea : Ea) : Type 0 where
  pub plain : IsPlainAddress ea
  pub small : ea.disp < 65536

-- the operand may be read at a place
abbrev pub IsSource : Operand → Type 0
IsSource (Mem width ea) = IsAddress ea
IsSource (Seg number) = ⊥
IsSource x = Unit {0}

-- the operand may be written at a place
abbrev pub IsTarget : Operand → Type 0
IsTarget (Mem width ea) = IsAddress ea
IsTarget (Seg number) = ⊥
IsTarget (Const width number) = ⊥
IsTarget x = Unit {0}

-- a register, or a half of one
abbrev pub IsRegister : Operand → Type 0
IsRegister (Word r) = Unit {0}
IsRegister (Byte r half) = Unit {0}
IsRegister x = ⊥

-- of two operands one lies in memory at most
pub record ArePair (a b : Operand) : Type 0 where
  pub target : IsTarget a
  pub source : IsSource b
  pub one : (is_memory a && is_memory b) ≡ false

pub record AreExchanged (a b : Operand) : Type 0 where
  pub target : IsTarget a
  pub register : IsRegister b

abbrev pub HavePlaces : Op → Type 0
HavePlaces (Alu operation a b) = ArePair a b
HavePlaces (Unary operation a) = IsTarget a
HavePlaces (Shift operation a count) = IsTarget a
HavePlaces (Mov to from) = ArePair to from
HavePlaces (Xchg a b) = AreExchanged a b
HavePlaces (Lea r ea) = IsAddress ea
HavePlaces (Imul3 r a constant) = IsTarget a
HavePlaces (Push a) = IsSource a
HavePlaces (Pop a) = IsTarget a
HavePlaces op = Unit {0}

-- Addresses.

abbrev is_base : Option Reg → Bool
is_base base = is_bp base || is_plain base

base-plain : (n : ℕ) → is_base (get_or base_registers n None) ≡ true
base-plain zero = refl
base-plain (suc zero) = refl
base-plain (suc (suc zero)) = refl
base-plain (suc (suc (suc zero))) = refl
base-plain (suc (suc (suc (suc zero)))) = refl
base-plain (suc (suc (suc (suc (suc zero))))) = refl
base-plain (suc (suc (suc (suc (suc (suc zero)))))) = refl
base-plain (suc (suc (suc (suc (suc (suc (suc zero))))))) = refl
base-plain (suc (suc (suc (suc (suc (suc (suc (suc n)))))))) = refl

index-plain : (n : ℕ) → is_plain (get_or index_registers n None) ≡ true
index-plain zero = refl
index-plain (suc zero) = refl
index-plain (suc (suc zero)) = refl
index-plain (suc (suc (suc zero))) = refl
index-plain (suc (suc (suc (suc zero)))) = refl
index-plain (suc (suc (suc (suc (suc zero))))) = refl
index-plain (suc (suc (suc (suc (suc (suc zero)))))) = refl
index-plain (suc (suc (suc (suc (suc (suc (suc zero))))))) = refl
index-plain (suc (suc (suc (suc (suc (suc (suc (suc n)))))))) = refl

address-of : (modrm displacement : ℕ) → displacement < 65536 → IsAddress (address modrm displacement)
address-of modrm displacement small = record {
  plain = record { base = by (has_direct_address modrm); index = index-plain (rm_field modrm) };
  small = small;
}
  where
    by : (b : Bool) → is_base (if b then None else get_or base_registers (rm_field modrm) None) ≡ true
    by true = refl
    by false = base-plain (rm_field modrm)

direct-address : (displacement : ℕ) → displacement < 65536
    → IsAddress (record { base = None; index = None; disp = displacement })
direct-address displacement small = record { plain = record { base = refl; index = refl }; small = small }

-- The parts of an instruction.

register-target : (w : Width) (number : ℕ) → IsTarget (register w number)
register-target byte_width number = tt
register-target word_width number = tt

register-is : (w : Width) (number : ℕ) → IsRegister (register w number)
register-is byte_width number = tt
register-is word_width number = tt

register-apart : (w : Width) (number : ℕ) → is_memory (register w number) ≡ false
register-apart byte_width number = refl
register-apart word_width number = refl

pub source-of : (x : Operand) → IsTarget x → IsSource x
source-of (Word r) is = tt
source-of (Byte r half) is = tt
source-of (Seg number) is = is
source-of (Mem width ea) is = is
source-of (Const width number) is = tt

rm-target : (w : Width) (modrm displacement : ℕ) → displacement < 65536
    → IsTarget (rm_operand w modrm displacement)
rm-target w modrm displacement small =
    elim (mod_field modrm == 3) as (λ b.
    IsTarget (if b then register w (modrm % 8) else Mem w (address modrm displacement))) [
      | true ↦ register-target w (modrm % 8)
      | false ↦ address-of modrm displacement small
    ]

none-both : (a : Bool) → (a && false) ≡ false
none-both true = refl
none-both false = refl

-- a memory operand or a register with a constant
with-constant : (a : Operand) (w : Width) (number : ℕ) → IsTarget a → ArePair a (Const w number)
with-constant a w number target = record { target = target; source = tt; one = none-both (is_memory a) }

-- with a register
with-register : (a : Operand) (w : Width) (number : ℕ) → IsTarget a → ArePair a (register w number)
with-register a w number target = record {
  target = target;
  source = source-of (register w number) (register-target w number);
  one = ap (λ b. is_memory a && b) (register-apart w number) ∙ none-both (is_memory a);
}

-- a register with a memory operand or a register
of-register : (w : Width) (number : ℕ) (b : Operand) → IsTarget b → ArePair (register w number) b
of-register w number b target = record {
  target = register-target w number;
  source = source-of b target;
  one = ap (λ c. c && is_memory b) (register-apart w number);
}

-- the displacement and the constant are words
record Fit (p : Parts) : Type 0 where
  displacement : p.displacement < 65536
  constant : p.constant < 65536

of_rm : (p : Parts) → Fit p → IsTarget (rm p)
of_rm p fit = rm-target (width_of p.opcode) p.modrm p.displacement fit.displacement

of_rm8 : (p : Parts) → Fit p → IsTarget (rm8 p)
of_rm8 p fit = rm-target byte_width p.modrm p.displacement fit.displacement

of_rm16 : (p : Parts) → Fit p → IsTarget (rm16 p)
of_rm16 p fit = rm-target word_width p.modrm p.displacement fit.displacement

directed : (p : Parts) → Fit p → ArePair (destination p) (source p)
directed p fit =
    elim (p.opcode / 2 % 2 == 1) as (λ b. ArePair (if b then reg p else rm p) (if b then rm p else reg p)) [
      | true ↦ of-register (width_of p.opcode) (reg_field p.modrm) (rm p) (of_rm p fit)
      | false ↦ with-register (rm p) (width_of p.opcode) (reg_field p.modrm) (of_rm p fit)
    ]

-- The table.

-- an operation of the row that is none of the prelude's kind
abbrev IsPlaced : Row → Type 0
IsPlaced row =
    (p : Parts) → Fit p → is_system (row.operation p) ≡ false → HavePlaces (row.operation p)

-- an operation without operands in places
none : (Other : Parts → Type 0) → (p : Parts) → Fit p → Other p → Unit {0}
none Other p fit other = tt

infixr 30 ◌&◌
data ArePlaced : List Row → Type 0 where
  none_left : ArePlaced []
  ◌&◌ : {row : Row} {rows : List Row} → IsPlaced row → ArePlaced rows → ArePlaced (row ∷ rows)

placed-append : (rows others : List Row) → ArePlaced rows → ArePlaced others → ArePlaced (rows ++ others)
placed-append [] others none_left more = more
placed-append (row ∷ rows) others (first & rest) more = first & placed-append rows others rest more

placed-get : (rows : List Row) (k : ℕ) (row : Row) → ArePlaced rows → slice_get rows k ≡ Some row → IsPlaced row
placed-get [] k row placed at = cc
placed-get (r ∷ rows) zero row (first & rest) at = let same : r ≡ row = cc in subst IsPlaced same first
placed-get (r ∷ rows) (suc k) row (first & rest) at = placed-get rows k row rest at

arithmetic-placed : ArePlaced arithmetic_rows
arithmetic-placed =
    (λ p fit other. directed p fit)
    & (λ p fit other. with-constant al byte_width p.constant tt)
    & (λ p fit other. with-constant ax word_width p.constant tt)
    & (λ p fit other. with-constant (rm8 p) byte_width p.constant (of_rm8 p fit))
    & (λ p fit other. with-constant (rm16 p) word_width p.constant (of_rm16 p fit))
    & (λ p fit other. with-constant (rm16 p) word_width p.constant (of_rm16 p fit))
    & (λ p fit other. with-register (rm p) (width_of p.opcode) (reg_field p.modrm) (of_rm p fit))
    & (λ p fit other. with-constant (accumulator p) (width_of p.opcode) p.constant (register-target (width_of p.opcode) 0))
    & (λ p fit other. with-constant (accumulator p) (width_of p.opcode) p.constant (register-target (width_of p.opcode) 0))
    & (λ p fit other. with-constant (rm p) (width_of p.opcode) p.constant (of_rm p fit))
    & (λ p fit other. with-constant (rm p) (width_of p.opcode) p.constant (of_rm p fit))
    & none_left

unary-placed : ArePlaced unary_rows
unary-placed =
    (λ p fit other. tt)
    & (λ p fit other. tt)
    & (λ p fit other. of_rm p fit)
    & (λ p fit other. of_rm p fit)
    & (λ p fit other. of_rm p fit)
    & (λ p fit other. of_rm p fit)
    & (λ p fit other. of_rm p fit)
    & (λ p fit other. of_rm p fit)
    & (λ p fit other. of_rm p fit)
    & none_left

stack-placed : ArePlaced stack_rows
stack-placed =
    (λ p fit other. tt)
    & (λ p fit other. tt)
    & (λ p fit other. tt)
    & (λ p fit other. tt)
    & (λ p fit other. source-of (rm16 p) (of_rm16 p fit))
    & (λ p fit other. source-of (rm16 p) (of_rm16 p fit))
    & (λ p fit other. source-of (rm16 p) (of_rm16 p fit))
    & (λ p fit other. of_rm16 p fit)
    & (λ p fit other. of_rm16 p fit)
    & (λ p fit other. of_rm16 p fit)
    & none_left

move-placed : ArePlaced move_rows
move-placed =
    (λ p fit other. record { target = of_rm p fit; register = register-is (width_of p.opcode) (reg_field p.modrm) })
    & (λ p fit other. record { target = tt; register = tt })
    & (λ p fit other. directed p fit)
    & (λ p fit other. absurd (true≢false (or-none (is_segment (rm16 p)) true other).1))
    & (λ p fit other. absurd (true≢false other))
    & (λ p fit other. absurd (true≢false other))
    & (λ p fit other. address-of p.modrm p.displacement fit.displacement)
    & (λ p fit other. of-register (width_of p.opcode) 0 (direct p) (direct-address p.constant fit.constant))
    & (λ p fit other. with-register (direct p) (width_of p.opcode) 0 (direct-address p.constant fit.constant))
    & (λ p fit other. with-constant (r8 p) byte_width p.constant tt)
    & (λ p fit other. with-constant (r16 p) word_width p.constant tt)
    & (λ p fit other. with-constant (rm p) (width_of p.opcode) p.constant (of_rm p fit))
    & (λ p fit other. with-constant (rm p) (width_of p.opcode) p.constant (of_rm p fit))
    & none_left

control-placed : ArePlaced control_rows
control-placed =
    none _ & none _ & none _ & none _ & none _ & none _ & none _ & none _ & none _ & none _ & none _
    & none _ & none _ & none _ & none _ & none_left

plain-placed : ArePlaced plain_rows
plain-placed =
    none _ & none _ & none _ & none _ & none _ & none _ & none _ & none _ & none _ & none _ & none_left

later-placed : ArePlaced later_rows
later-placed =
    (λ p fit other. tt)
    & (λ p fit other. tt)
    & (λ p fit other. of_rm16 p fit)
    & (λ p fit other. of_rm16 p fit)
    & (λ p fit other. of_rm p fit)
    & (λ p fit other. of_rm p fit)
    & (λ p fit other. of_rm p fit)
    & (λ p fit other. tt)
    & (λ p fit other. tt)
    & none_left

besides-placed : (cpu : Cpu) → ArePlaced (rows_besides cpu)
besides-placed I8086 = none_left
besides-placed I186 = later-placed

table-placed : (cpu : Cpu) → ArePlaced (table cpu)
unfolding table
table-placed cpu =
    placed-append arithmetic_rows _ arithmetic-placed
    (placed-append unary_rows _ unary-placed
    (placed-append stack_rows _ stack-placed
    (placed-append move_rows _ move-placed
    (placed-append control_rows _ control-placed
    (placed-append plain_rows _ plain-placed (besides-placed cpu))))))

-- Instructions.

extension-below : (byte : ℕ) → sign_extension_of byte < 65536
unfolding sign_extension_of
extension-below byte = wrapped_below word_width (signed_of byte_width byte)

word-below : (bytes : List ℕ) (index : ℕ) → AreBytes bytes → word_at bytes index < 65536
unfolding word_at
word-below bytes index small = omega (arith, small index, small (index + 1))

constant-below : (form : ConstantForm) (bytes : List ℕ) (index : ℕ) → AreBytes bytes
    → constant_at form bytes index < 65536
constant-below no_constant bytes index small = omega arith
constant-below byte_constant bytes index small = omega (arith, small index)
constant-below word_constant bytes index small = word-below bytes index small
constant-below signed_constant bytes index small = extension-below (byte_at bytes index)

displacement-below : (modrm : ℕ) (bytes : List ℕ) (index : ℕ) → AreBytes bytes
    → displacement_at modrm bytes index < 65536
displacement-below modrm bytes index small = by (mod_field modrm == 1) ((mod_field modrm == 2) || has_direct_address modrm)
  where
    by : (b d : Bool)
        → (if b then sign_extension_of (byte_at bytes index) else if d then word_at bytes index else 0) < 65536
    by true d = extension-below (byte_at bytes index)
    by false true = word-below bytes index small
    by false false = omega arith

fit-parts : (row : Row) (offset : ℕ) (bytes : List ℕ) → AreBytes bytes → Fit (row_parts row offset bytes)
fit-parts row offset bytes small = record {
  displacement = by row.has_modrm;
  constant = constant-below row.constant_form bytes (constant_index row.constant_place (head_length row bytes)) small;
}
  where
    by : (b : Bool)
        → (if b then displacement_at (byte_at bytes 1) bytes (length row.pattern) else 0) < 65536
    by true = displacement-below (byte_at bytes 1) bytes (length row.pattern) small
    by false = omega arith

pub instruction-placed : (cpu : Cpu) (offset : ℕ) (bytes : List ℕ) (instr : Instr) → AreBytes bytes
    → instruction_at cpu offset bytes ≡ Some instr → is_system instr.op ≡ false
    → HavePlaces instr.op
instruction-placed cpu offset bytes instr small e =
    let found = instruction-row cpu offset bytes instr e in
    let row = found.0 in
    let placed : IsPlaced row = placed-get (table cpu) found.1.0 row (table-placed cpu) found.1.1 in
    subst (λ (i : Instr). is_system i.op ≡ false → HavePlaces i.op) found.3
    (placed (row_parts row offset bytes) (fit-parts row offset bytes small))
