-- Two states that agree in what is read: the same values, addresses and results.
use Rattle.std.proofs.Common.{◌≡◌, ◌⊎◌, inl, inr, ℕ, ◌+◌, ◌/◌, ◌%◌, Bool, true, false, List, length, Option, Some, None, refl, sym, ap, ◌∙◌, arith, length-set}
use Rattle.std.proofs.lemmas.Bool.{eq-eqb}
use Rattle.std.specs.Prelude.{◌&&◌, ◌||◌, slice_index, if◌then◌else◌}
use Rattle.dcc_num.specs.declared.Width.{Width}
use Rattle.dcc_num.specs.declared.Width.TheVariants.{Byte as byte_width, Word as word_width}
use Rattle.dcc_num.specs.declared.Reg.{Reg}
use Rattle.dcc_num.specs.declared.Reg.TheVariants.{Ax, Cx, Dx, Sp}
use Rattle.dcc_num.specs.declared.Half.{Half}
use Rattle.dcc_num.specs.declared.Half.TheVariants.{Low, High}
use Rattle.dcc_num.specs.declared.Flags.{Flags}
use Rattle.dcc_machine.specs.declared.cpu.Cpu.{Cpu}
use Rattle.dcc_machine.specs.declared.segment.TheConstants.{SS, DS}
use Rattle.dcc_machine.specs.declared.instr.Alu.{Alu as AluName}
use Rattle.dcc_machine.specs.declared.instr.Alu.TheVariants.{Add, Or, Adc, Sbb, And, Sub, Xor, Cmp, Test}
use Rattle.dcc_machine.specs.declared.instr.Count.{Count}
use Rattle.dcc_machine.specs.declared.instr.Count.TheVariants.{One, Cl, Const as ConstCount}
use Rattle.dcc_machine.specs.declared.instr.Operand.{Operand}
use Rattle.dcc_machine.specs.declared.instr.Operand.TheVariants.{Word, Byte, Seg, Mem, Const}
use Rattle.dcc_machine.specs.declared.instr.Ea.{Ea}
use Rattle.dcc_machine.specs.Machine.{State, reg_number, word_in, with_word_in, half_of_word, word_with_half, stack_segment, byte_in, word_at_offset, part_of, offset_of, segment_of, is_bp, operand_value, with_operand}
use Rattle.dcc_machine.specs.Operations.{with_flags, with_product, accumulator_in, upper_in, count_in, taken_count, top_word}
use Rattle.dcc_machine.specs.Writes.{is_same_register, is_same_half, is_half_of, is_in_pair}
use Rattle.dcc_machine.specs.Wanted.{Location, half_of, flag_of, is_part, is_half, is_half_of_some, is_in_address, is_read, is_accumulator, takes_carry, is_in_cl, is_dividend}
use Rattle.dcc_machine.specs.StateForm.{IsState}
use Rattle.dcc_machine.specs.LocationLaws.{half_in}
use Rattle.dcc_machine.specs.AlikeLaws.{AgreeIn, AgreeBeside}
use Rattle.dcc_machine.proofs.OperationForms.{alu_result}
use Rattle.dcc_machine.proofs.LocationKept.{word-taken, word-other}

-- Tests.

pub and-both : (a b : Bool) → a ≡ true → b ≡ true → (a && b) ≡ true
and-both a b p q = cc

pub and-parts : (a b : Bool) → (a && b) ≡ true → (a ≡ true) × (b ≡ true)
and-parts true b e = (refl, e)
and-parts false b e = cc

pub or-first : (a b : Bool) → a ≡ true → (a || b) ≡ true
or-first a b p = ap (λ c. c || b) p

pub or-second : (a b : Bool) → b ≡ true → (a || b) ≡ true
or-second true b p = refl
or-second false b p = p

pub or-parts : (a b : Bool) → (a || b) ≡ true → (a ≡ true) ⊎ (b ≡ true)
or-parts true b e = inl refl
or-parts false b e = inr e

pub register-self : (r : Reg) → is_same_register r r ≡ true
register-self r = eq-eqb (reg_number r) (reg_number r) refl

pub half-self : (half : Half) → is_same_half half half ≡ true
half-self Low = refl
half-self High = refl

-- Agreement.

-- two states agree in each location that passes a test
abbrev pub AgreeWhere : (Location → Bool) → State → State → Type 0
AgreeWhere test s t = (from : Location) → test from ≡ true → AgreeIn from s t

-- two well-formed states that agree but for locations
pub record AreTwo (s t : State) : Type 0 where
  pub first : IsState s
  pub second : IsState t
  pub beside : AgreeBeside s t

pub word-joined : (a b : ℕ) → a % 256 ≡ b % 256 → a / 256 ≡ b / 256 → a ≡ b
word-joined a b p q = omega arith

pub word-alike : (s t : State) (r : Reg) → AgreeWhere (λ from. is_half from r) s t → word_in s r ≡ word_in t r
word-alike s t r agree =
    word-joined (word_in s r) (word_in t r)
    (agree (half_of r Low) (register-self r)) (agree (half_of r High) (register-self r))

part-alike :
    (s t : State) (part : Option Reg) → AgreeWhere (λ from. is_half_of_some from part) s t
    → part_of s part ≡ part_of t part
part-alike s t None agree = refl
part-alike s t (Some r) agree = word-alike s t r agree

pub offset-alike :
    (s t : State) (ea : Ea) → AgreeWhere (λ from. is_in_address from ea) s t → offset_of s ea ≡ offset_of t ea
offset-alike s t ea agree =
    let base = part-alike s t ea.base (λ from e. agree from (or-first _ (is_half_of_some from ea.index) e)) in
    let index = part-alike s t ea.index (λ from e. agree from (or-second (is_half_of_some from ea.base) _ e)) in
    cc

pub segment-alike : (s t : State) (ea : Ea) → s.segs ≡ t.segs → segment_of s ea ≡ segment_of t ea
segment-alike s t ea segs =
    ap (λ (l : List ℕ). if is_bp ea.base || is_bp ea.index then slice_index l SS else slice_index l DS) segs

pub byte-alike :
    (s t : State) (segment other n m : ℕ) → s.memory ≡ t.memory → segment ≡ other → n ≡ m
    → byte_in s segment n ≡ byte_in t other m
byte-alike s t segment other n m memory p q = cc

pub word_at-alike :
    (s t : State) (segment other n m : ℕ) → s.memory ≡ t.memory → segment ≡ other → n ≡ m
    → word_at_offset s segment n ≡ word_at_offset t other m
word_at-alike s t segment other n m memory p q =
    let low = byte-alike s t segment other n m memory p q in
    let high =
    byte-alike s t segment other ((n + 1) % 65536) ((m + 1) % 65536) memory p (ap (λ k. (k + 1) % 65536) q) in
    cc

-- what an operand holds
pub value-alike :
    (s t : State) (x : Operand) → AgreeBeside s t → AgreeWhere (λ from. is_read from x) s t
    → operand_value s x ≡ operand_value t x
value-alike s t (Word r) beside agree =
    word-alike s t r (λ from e. agree from (or-first (is_part from (Word r)) false (part from e)))
  where
    part : (from : Location) → is_half from r ≡ true → is_part from (Word r) ≡ true
    part (half_of q half) e = e
    part (flag_of flag) e = e
value-alike s t (Byte r half) beside agree =
    agree (half_of r half)
    (or-first (is_same_register r r && is_same_half half half) false
    (and-both (is_same_register r r) (is_same_half half half) (register-self r) (half-self half)))
value-alike s t (Seg number) beside agree = ap (λ (l : List ℕ). slice_index l number) beside.outside.segs
value-alike s t (Mem byte_width ea) beside agree =
    byte-alike s t (segment_of s ea) (segment_of t ea) (offset_of s ea) (offset_of t ea) beside.memory
    (segment-alike s t ea beside.outside.segs)
    (offset-alike s t ea
    (λ from e. agree from (or-second (is_part from (Mem byte_width ea)) (is_in_address from ea) e)))
value-alike s t (Mem word_width ea) beside agree =
    word_at-alike s t (segment_of s ea) (segment_of t ea) (offset_of s ea) (offset_of t ea) beside.memory
    (segment-alike s t ea beside.outside.segs)
    (offset-alike s t ea
    (λ from e. agree from (or-second (is_part from (Mem word_width ea)) (is_in_address from ea) e)))
value-alike s t (Const width constant) beside agree = refl

-- AL or AX, and AH or DX
pub accumulator-alike :
    (w : Width) (s t : State) → AgreeWhere (is_accumulator w) s t → accumulator_in w s ≡ accumulator_in w t
accumulator-alike byte_width s t agree = agree (half_of Ax Low) refl
accumulator-alike word_width s t agree = word-alike s t Ax agree

pub dividend-alike :
    (w : Width) (s t : State) → AgreeWhere (is_dividend w) s t
    → (accumulator_in w s ≡ accumulator_in w t) × (upper_in w s ≡ upper_in w t)
dividend-alike byte_width s t agree = (agree (half_of Ax Low) refl, agree (half_of Ax High) refl)
dividend-alike word_width s t agree = (
  word-alike s t Ax (λ from e. agree from (or-first _ (is_half from Dx) e)),
  word-alike s t Dx (λ from e. agree from (or-second (is_half from Ax) _ e)),
)

pub count-alike :
    (cpu : Cpu) (count : Count) (s t : State) → (is_in_cl count ≡ true → AgreeIn (half_of Cx Low) s t)
    → count_in cpu count s ≡ count_in cpu count t
count-alike cpu One s t agree = refl
count-alike cpu Cl s t agree = ap (taken_count cpu) (agree refl)
count-alike cpu (ConstCount number) s t agree = refl

-- the word at the top of the stack
pub top-alike :
    (s t : State) → s.segs ≡ t.segs → s.memory ≡ t.memory → word_in s Sp ≡ word_in t Sp → top_word s ≡ top_word t
top-alike s t segs memory sp =
    word_at-alike s t (stack_segment s) (stack_segment t) (word_in s Sp) (word_in t Sp) memory
    (ap (λ (l : List ℕ). slice_index l SS) segs) sp

-- Results.

pub alu-alike :
    (operation : AluName) (w : Width) (a b c d : ℕ) (carry other : Bool) → a ≡ c → b ≡ d
    →
    (takes_carry operation ≡ true → carry ≡ other) → alu_result operation w a b carry ≡ alu_result operation w c d other
alu-alike Add w a b c d carry other p q h = cc
alu-alike Or w a b c d carry other p q h = cc
alu-alike Adc w a b c d carry other p q h = let same = h refl in cc
alu-alike Sbb w a b c d carry other p q h = let same = h refl in cc
alu-alike And w a b c d carry other p q h = cc
alu-alike Sub w a b c d carry other p q h = cc
alu-alike Xor w a b c d carry other p q h = cc
alu-alike Cmp w a b c d carry other p q h = cc
alu-alike Test w a b c d carry other p q h = cc

-- Halves that are written.

half-written :
    (half : Half) (word other v : ℕ)
    → half_of_word half (word_with_half half word v) ≡ half_of_word half (word_with_half half other v)
half-written Low word other v = omega arith
half-written High word other v = omega arith

half-named :
    (half place : Half) (word other v : ℕ) → is_same_half half place ≡ true
    → half_of_word half (word_with_half place word v) ≡ half_of_word half (word_with_half place other v)
half-named Low Low word other v e = half-written Low word other v
half-named Low High word other v e = cc
half-named High Low word other v e = cc
half-named High High word other v e = half-written High word other v

-- two states hold the same where a word register has taken words that are alike there
pub taken-alike :
    (s t : State) (q r : Reg) (half : Half) (v w : ℕ) → length s.regs ≡ 8 → length t.regs ≡ 8
    → is_same_register r q ≡ true → half_of_word half v ≡ half_of_word half w
    → half_in (with_word_in s q v) r half ≡ half_in (with_word_in t q w) r half
taken-alike s t q r half v w first second same e =
    ap (half_of_word half) (word-taken s q r v first same)
    ∙ e
    ∙ sym (ap (half_of_word half) (word-taken t q r w second same))

-- an operand takes a value in both
pub written-alike :
    (x : Operand) (v : ℕ) (s t : State) (r : Reg) (half : Half) → length s.regs ≡ 8 → length t.regs ≡ 8
    → is_half_of r half x ≡ true → half_in (with_operand s x v) r half ≡ half_in (with_operand t x v) r half
written-alike (Word q) v s t r half first second e = taken-alike s t q r half v v first second e refl
written-alike (Byte q place) v s t r half first second e =
    let both = and-parts (is_same_register r q) (is_same_half half place) e in
    taken-alike s t q r half (word_with_half place (word_in s q) v)
    (word_with_half place (word_in t q) v) first second both.0
    (half-named half place (word_in s q) (word_in t q) v both.1)
written-alike (Seg number) v s t r half first second e = cc
written-alike (Mem byte_width ea) v s t r half first second e = cc
written-alike (Mem word_width ea) v s t r half first second e = cc
written-alike (Const width constant) v s t r half first second e = cc

-- AX, or AX and DX, take two values in both
pub pair-alike :
    (w : Width) (pair : ℕ × ℕ × Flags) (s t : State) (r : Reg) (half : Half) → length s.regs ≡ 8 → length t.regs ≡ 8
    → is_in_pair w r ≡ true → half_in (with_product w pair s) r half ≡ half_in (with_product w pair t) r half
pair-alike byte_width pair s t r half first second e =
    taken-alike (with_flags pair.2 s) (with_flags pair.2 t) Ax r half _ _ first second e refl
pair-alike word_width pair s t r half first second e = go (is_same_register r Dx) refl
  where
    a : State
    a = with_word_in (with_flags pair.2 s) Ax pair.0

    b : State
    b = with_word_in (with_flags pair.2 t) Ax pair.0

    go :
        (upper : Bool) → is_same_register r Dx ≡ upper
        → half_in (with_word_in a Dx pair.1) r half ≡ half_in (with_word_in b Dx pair.1) r half
    go true same =
        taken-alike a b Dx r half pair.1 pair.1
        (length-set s.regs 0 pair.0 ∙ first) (length-set t.regs 0 pair.0 ∙ second) same refl
    go false apart =
        let lower : is_same_register r Ax ≡ true =
        elim (or-parts (is_same_register r Ax) (is_same_register r Dx) e) [ inl same ↦ same | inr same ↦ cc ] in
        ap (half_of_word half) (word-other a Dx r pair.1 apart)
        ∙ taken-alike (with_flags pair.2 s) (with_flags pair.2 t) Ax r half pair.0 pair.0 first second lower refl
        ∙ sym (ap (half_of_word half) (word-other b Dx r pair.1 apart))
