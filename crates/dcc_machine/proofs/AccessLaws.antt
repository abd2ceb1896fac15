-- The accesses of an operation tell what its step does to memory and takes from it.
use Rattle.std.proofs.Common.{◌≡◌, ℕ, zero, suc, ◌+◌, ◌/◌, ◌%◌, ◌<◌, Bool, true, false, List, [], ◌∷◌, ◌++◌, map, length, min, Option, Some, None, refl, sym, ap, ◌∙◌, subst, append_assoc, arith}
use Rattle.std.proofs.lemmas.List.{append-nil, map-append}
use Rattle.std.proofs.lemmas.List.Elements.{Contains-append_left, Contains-append_right}
use Rattle.std.proofs.lemmas.List.FromFn.{get_or-map-range_with_len, length-map-range_with_len}
use Rattle.std.proofs.lemmas.List.Sums.{take_while-cons}
use Rattle.std.specs.Prelude.{slice_index, slice_set, Contains, if◌then◌else◌, ◌==◌, cond}
use Rattle.std.specs.List.{range_with_len, take_while}
use Rattle.dcc_num.specs.declared.Width.{Width}
use Rattle.dcc_num.specs.declared.Width.TheVariants.{Byte as byte_width, Word as word_width}
use Rattle.dcc_num.specs.declared.Reg.{Reg}
use Rattle.dcc_num.specs.declared.Reg.TheVariants.{Ax, Dx, Bx, Sp, Bp}
use Rattle.dcc_num.specs.declared.Half.TheVariants.{Low}
use Rattle.dcc_num.specs.declared.Flags.{Flags}
use Rattle.dcc_num.specs.declared.dos.TheConstants.{PUTS, STRING_MOST}
use Rattle.dcc_num.specs.Product.{signed_product_of}
use Rattle.dcc_machine.specs.declared.cpu.Cpu.{Cpu}
use Rattle.dcc_machine.specs.declared.instr.Alu.{Alu as AluName}
use Rattle.dcc_machine.specs.declared.instr.Unary.{Unary as UnaryName}
use Rattle.dcc_machine.specs.declared.instr.Unary.TheVariants.{Inc, Dec, Neg, Not, Mul, Imul, Div, Idiv}
use Rattle.dcc_machine.specs.declared.instr.Shift.{Shift as ShiftName}
use Rattle.dcc_machine.specs.declared.instr.Count.{Count}
use Rattle.dcc_machine.specs.declared.instr.Count.TheVariants.{One, Cl, Const as ConstCount}
use Rattle.dcc_machine.specs.declared.instr.Plain.{Plain as PlainName}
use Rattle.dcc_machine.specs.declared.instr.Plain.TheVariants.{Nop, Cbw, Cwd, Xlat, Clc, Stc, Cmc, Cli, Sti, Cld}
use Rattle.dcc_machine.specs.declared.instr.Operand.{Operand}
use Rattle.dcc_machine.specs.declared.instr.Operand.TheVariants.{Word, Byte, Seg, Mem, Const}
use Rattle.dcc_machine.specs.declared.instr.Ea.{Ea}
use Rattle.dcc_machine.specs.declared.instr.Op.{Op}
use Rattle.dcc_machine.specs.declared.instr.Op.TheVariants.{Alu, Unary, Shift, Mov, Xchg, Lea, Imul3, Push, Pop, Enter, Leave, Plain, Jump, Branch, Loop, LoopE, LoopNe, Jcxz, Table, Call, Ret, Int21}
use Rattle.dcc_machine.specs.Machine.{State, word_in, with_word_in, half_of_word, part_of, offset_of, segment_of, physical, byte_in, word_at_offset, with_byte_in, with_word_at_offset, operand_value, operand_width, with_operand, code_segment, stack_segment, data_segment}
use Rattle.dcc_machine.specs.Operations.{with_al, after_jump, with_flags, with_result, accumulator_in, upper_in, count_in, shift_result, alu_step, unary_step, with_sp_raised, after_push, top_word, with_product}
use Rattle.dcc_machine.specs.Dos.{bytes_from, dos_string, is_not_dollar, dos_step, with_key, after_write}
use Rattle.dcc_machine.specs.Step.{op_step}
use Rattle.dcc_machine.specs.Writes.{writes_operand}
use Rattle.dcc_machine.specs.Access.{Reading, Writing, Access, operand_accesses, result_accesses, writes_back, accesses, stack_access, push_access, other_read, string_size, dos_accesses, plain_accesses, address_in, addresses_of, read_in, written_in, read_by, written_by, with_memory, AgreeAt, Store, stored, ActsByAccesses}
use Rattle.dcc_machine.specs.StateForm.{HasRegisters}
use Rattle.dcc_machine.proofs.OperationForms.{alu_result, alu_written, alu-form, Outcome, in_operand, in_pair, in_fault, divided, unary_outcome, outcome_step, unary-form}
use Rattle.dcc_machine.proofs.DosLaws.{calls-relate}
use Rattle.dcc_machine.proofs.LocationKept.{word-taken}

-- Agreement on addresses.

pub agree-left : (xs ys memory other : List ℕ) → AgreeAt (xs ++ ys) memory other → AgreeAt xs memory other
agree-left xs ys memory other agree a has = agree a (Contains-append_left xs ys a has)

pub agree-right : (xs ys memory other : List ℕ) → AgreeAt (xs ++ ys) memory other → AgreeAt ys memory other
agree-right xs ys memory other agree a has = agree a (Contains-append_right xs ys a has)

-- of two lists of accesses
read_by-append : (first second : List Access) → read_by (first ++ second) ≡ read_by first ++ read_by second
read_by-append [] second = refl
read_by-append (access ∷ rest) second =
    let head = read_in access.direction (addresses_of access) in
    ap (λ (l : List ℕ). head ++ l) (read_by-append rest second)
    ∙ sym (append_assoc head (read_by rest) (read_by second))

written_by-append : (first second : List Access) → written_by (first ++ second) ≡ written_by first ++ written_by second
written_by-append [] second = refl
written_by-append (access ∷ rest) second =
    let head = written_in access.direction (addresses_of access) in
    ap (λ (l : List ℕ). head ++ l) (written_by-append rest second)
    ∙ sym (append_assoc head (written_by rest) (written_by second))

pub agree-first :
    (first second : List Access) (memory other : List ℕ) → AgreeAt (read_by (first ++ second)) memory other
    → AgreeAt (read_by first) memory other
agree-first first second memory other agree =
    agree-left (read_by first) (read_by second) memory other
    (subst (λ l. AgreeAt l memory other) (read_by-append first second) agree)

pub agree-second :
    (first second : List Access) (memory other : List ℕ) → AgreeAt (read_by (first ++ second)) memory other
    → AgreeAt (read_by second) memory other
agree-second first second memory other agree =
    agree-right (read_by first) (read_by second) memory other
    (subst (λ l. AgreeAt l memory other) (read_by-append first second) agree)

-- Bytes and words that are read.

head-agrees :
    (address : ℕ) (rest memory other : List ℕ) → AgreeAt (address ∷ rest) memory other
    → slice_index memory address ≡ slice_index other address
head-agrees address rest memory other agree = agree address (0, omega arith, refl)

next-agrees :
    (first address : ℕ) (rest memory other : List ℕ) → AgreeAt (first ∷ address ∷ rest) memory other
    → slice_index memory address ≡ slice_index other address
next-agrees first address rest memory other agree = agree address (1, omega arith, refl)

-- the first byte of an access stands at its offset
first_offset : (n : ℕ) → n < 65536 → (n + 0) % 65536 ≡ n
first_offset n low = omega arith

byte-agrees :
    (segment n : ℕ) (rest memory other : List ℕ) → n < 65536
    → AgreeAt (physical segment ((n + 0) % 65536) ∷ rest) memory other
    → slice_index memory (physical segment n) ≡ slice_index other (physical segment n)
byte-agrees segment n rest memory other low agree =
    let at = first_offset n low in
    head-agrees (physical segment n) rest memory other
    (subst (λ k. AgreeAt (physical segment k ∷ rest) memory other) at agree)

word-agrees :
    (s : State) (segment n : ℕ) (memory rest : List ℕ) → n < 65536
    → AgreeAt (physical segment ((n + 0) % 65536) ∷ physical segment ((n + 1) % 65536) ∷ rest) memory s.memory
    → word_at_offset (with_memory memory s) segment n ≡ word_at_offset s segment n
word-agrees s segment n memory rest low agree =
    let second = physical segment ((n + 1) % 65536) in
    let b = byte-agrees segment n (second ∷ rest) memory s.memory low agree in
    let c = next-agrees (physical segment ((n + 0) % 65536)) second rest memory s.memory agree in
    cc

-- Operands.

part-same : (memory : List ℕ) (s : State) (part : Option Reg) → part_of (with_memory memory s) part ≡ part_of s part
part-same memory s None = refl
part-same memory s (Some r) = refl

pub offset-same : (memory : List ℕ) (s : State) (ea : Ea) → offset_of (with_memory memory s) ea ≡ offset_of s ea
offset-same memory s ea =
    ap (λ n. (n + part_of (with_memory memory s) ea.index + ea.disp) % 65536) (part-same memory s ea.base)
    ∙ ap (λ n. (part_of s ea.base + n + ea.disp) % 65536) (part-same memory s ea.index)

offset-low : (s : State) (ea : Ea) → offset_of s ea < 65536
offset-low s ea = omega arith

-- what an operand holds
pub value-same :
    (memory : List ℕ) (s : State) (x : Operand) → AgreeAt (read_by (operand_accesses Reading x s)) memory s.memory
    → operand_value (with_memory memory s) x ≡ operand_value s x
value-same memory s (Word r) agree = refl
value-same memory s (Byte r half) agree = refl
value-same memory s (Seg number) agree = refl
value-same memory s (Mem byte_width ea) agree =
    ap (λ n. byte_in (with_memory memory s) (segment_of s ea) n) (offset-same memory s ea)
    ∙ byte-agrees (segment_of s ea) (offset_of s ea) [] memory s.memory (offset-low s ea) agree
value-same memory s (Mem word_width ea) agree =
    ap (λ n. word_at_offset (with_memory memory s) (segment_of s ea) n) (offset-same memory s ea)
    ∙ word-agrees s (segment_of s ea) (offset_of s ea) memory [] (offset-low s ea) agree
value-same memory s (Const width constant) agree = refl

abbrev pub store_at : ℕ → ℕ → Store
store_at address byte = record { address = address; byte = byte }

-- the bytes that are stored where a word is put to an offset
abbrev pub word_stores : ℕ → ℕ → ℕ → List Store
word_stores segment offset word =
    store_at (physical segment offset) (word % 256)
    ∷ store_at (physical segment ((offset + 1) % 65536)) (word / 256)
    ∷ []

-- the bytes that are stored where an operand takes a value
abbrev pub operand_stores : Operand → ℕ → State → List Store
operand_stores (Mem byte_width ea) v s = store_at (physical (segment_of s ea) (offset_of s ea)) v ∷ []
operand_stores (Mem word_width ea) v s = word_stores (segment_of s ea) (offset_of s ea) v
operand_stores x v s = []

abbrev pub addresses_stored : List Store → List ℕ
addresses_stored stores = map (λ (store : Store). store.address) stores

operand-addresses :
    (x : Operand) (v : ℕ) (s : State)
    → addresses_stored (operand_stores x v s) ≡ written_by (operand_accesses Writing x s)
operand-addresses (Word r) v s = refl
operand-addresses (Byte r half) v s = refl
operand-addresses (Seg number) v s = refl
operand-addresses (Mem byte_width ea) v s =
    ap (λ n. physical (segment_of s ea) n ∷ []) (sym (first_offset (offset_of s ea) (offset-low s ea)))
operand-addresses (Mem word_width ea) v s =
    ap (λ n. physical (segment_of s ea) n ∷ physical (segment_of s ea) ((offset_of s ea + 1) % 65536) ∷ [])
    (sym (first_offset (offset_of s ea) (offset-low s ea)))
operand-addresses (Const width constant) v s = refl

-- a function of the state does the same beside any memory, and stores these bytes
abbrev pub Stores : (State → State) → List Store → State → Type 0
Stores act stores s = (memory : List ℕ) → act (with_memory memory s) ≡ with_memory (stored stores memory) (act s)

pub operand-stores : (x : Operand) (v : ℕ) (s : State) → Stores (λ t. with_operand t x v) (operand_stores x v s) s
operand-stores (Word r) v s memory = refl
operand-stores (Byte r half) v s memory = refl
operand-stores (Seg number) v s memory = refl
operand-stores (Mem byte_width ea) v s memory =
    ap (λ n. with_byte_in (with_memory memory s) (segment_of s ea) n v) (offset-same memory s ea)
operand-stores (Mem word_width ea) v s memory =
    ap (λ n. with_word_at_offset (with_memory memory s) (segment_of s ea) n v) (offset-same memory s ea)
operand-stores (Const width constant) v s memory = refl

-- Operations on two operands.

abbrev result_stores : Bool → Operand → ℕ → State → List Store
result_stores so x v s = if so then operand_stores x v s else []

result-addresses :
    (so : Bool) (x : Operand) (v : ℕ) (s : State)
    → addresses_stored (result_stores so x v s) ≡ written_by (result_accesses so x s)
result-addresses true x v s = operand-addresses x v s
result-addresses false x v s = refl

-- flags are no part of an address
flags-offset : (flags : Flags) (s : State) (ea : Ea) → offset_of (with_flags flags s) ea ≡ offset_of s ea
flags-offset flags s ea =
    ap (λ n. (n + part_of (with_flags flags s) ea.index + ea.disp) % 65536) (part_flags ea.base)
    ∙ ap (λ n. (part_of s ea.base + n + ea.disp) % 65536) (part_flags ea.index)
  where
    part_flags : (part : Option Reg) → part_of (with_flags flags s) part ≡ part_of s part
    part_flags None = refl
    part_flags (Some r) = refl

flags-stores :
    (flags : Flags) (x : Operand) (v : ℕ) (s : State) → operand_stores x v (with_flags flags s) ≡ operand_stores x v s
flags-stores flags (Word r) v s = refl
flags-stores flags (Byte r half) v s = refl
flags-stores flags (Seg number) v s = refl
flags-stores flags (Mem byte_width ea) v s =
    ap (λ n. store_at (physical (segment_of s ea) n) v ∷ []) (flags-offset flags s ea)
flags-stores flags (Mem word_width ea) v s = ap (λ n. word_stores (segment_of s ea) n v) (flags-offset flags s ea)
flags-stores flags (Const width constant) v s = refl

result-stores :
    (x : Operand) (result : ℕ × Flags) (s : State) → Stores (with_result x result) (operand_stores x result.0 s) s
result-stores x result s memory =
    operand-stores x result.0 (with_flags result.1 s) memory
    ∙ ap (λ l. with_memory (stored l memory) (with_result x result s)) (flags-stores result.1 x result.0 s)

written-stores :
    (so : Bool) (x : Operand) (result : ℕ × Flags) (s : State)
    → Stores (alu_written so x result) (result_stores so x result.0 s) s
written-stores true x result s memory = result-stores x result s memory
written-stores false x result s memory = refl

-- what reads begin with writes nothing
after-reads :
    (x : Operand) (rest : List Access) (s : State) → written_by (operand_accesses Reading x s ++ rest) ≡ written_by rest
after-reads (Word r) rest s = refl
after-reads (Byte r half) rest s = refl
after-reads (Seg number) rest s = refl
after-reads (Mem width ea) rest s = refl
after-reads (Const width constant) rest s = refl

alu-acts :
    (cpu : Cpu) (operation : AluName) (a b : Operand) (at : ℕ) (s : State)
    → ActsByAccesses (accesses (Alu operation a b) s) (op_step cpu (Alu operation a b) at) s
alu-acts cpu operation a b at s =
    let w = operand_width a in
    let va = operand_value s a in
    let vb = operand_value s b in
    let so = writes_operand operation in
    let result = alu_result operation w va vb s.flags.cf in
    let reads_a = operand_accesses Reading a s in
    let reads_b = operand_accesses Reading b s in
    let writes = result_accesses so a s in
    record {
      stores = result_stores so a result.0 s;
      addresses =
          result-addresses so a result.0 s
          ∙ sym (after-reads b writes s)
          ∙ sym (after-reads a (reads_b ++ writes) s);
      alike = λ memory agree.
          let t = with_memory memory s in
          let first = value-same memory s a (agree-first reads_a (reads_b ++ writes) memory s.memory agree) in
          let second =
          value-same memory s b
          (agree-first reads_b writes memory s.memory
          (agree-second reads_a (reads_b ++ writes) memory s.memory agree)) in
          ap (λ n. alu_step operation w a n (operand_value t b) t) first
          ∙ ap (λ n. alu_step operation w a va n t) second
          ∙ alu-form operation w a va vb t
          ∙ written-stores so a result s memory
          ∙ ap (with_memory (stored (result_stores so a result.0 s) memory)) (sym (alu-form operation w a va vb s));
    }

-- Operations on one operand.

abbrev outcome_stores : Outcome → Operand → State → List Store
outcome_stores (in_operand result) x s = operand_stores x result.0 s
outcome_stores (in_pair pair) x s = []
outcome_stores in_fault x s = []

product-stores : (w : Width) (product : ℕ × ℕ × Flags) (s : State) → Stores (with_product w product) [] s
product-stores byte_width product s memory = refl
product-stores word_width product s memory = refl

outcome-stores :
    (outcome : Outcome) (w : Width) (x : Operand) (at : ℕ) (s : State)
    → Stores (outcome_step outcome w x at) (outcome_stores outcome x s) s
outcome-stores (in_operand result) w x at s memory = result-stores x result s memory
outcome-stores (in_pair pair) w x at s memory = product-stores w pair s memory
outcome-stores in_fault w x at s memory = refl

divided-stores : (division : Option (ℕ × ℕ)) (x : Operand) (s : State) → outcome_stores (divided division) x s ≡ []
divided-stores None x s = refl
divided-stores (Some division) x s = refl

outcome-addresses :
    (operation : UnaryName) (w : Width) (low high a : ℕ) (flags : Flags) (x : Operand) (s : State)
    → addresses_stored (outcome_stores (unary_outcome operation w low high a flags) x s)
    ≡ written_by (result_accesses (writes_back operation) x s)
outcome-addresses Inc w low high a flags x s = operand-addresses x _ s
outcome-addresses Dec w low high a flags x s = operand-addresses x _ s
outcome-addresses Neg w low high a flags x s = operand-addresses x _ s
outcome-addresses Not w low high a flags x s = operand-addresses x _ s
outcome-addresses Mul w low high a flags x s = refl
outcome-addresses Imul w low high a flags x s = refl
outcome-addresses Div w low high a flags x s = ap addresses_stored (divided-stores _ x s)
outcome-addresses Idiv w low high a flags x s = ap addresses_stored (divided-stores _ x s)

accumulator-same :
    (w : Width) (memory : List ℕ) (s : State) → accumulator_in w (with_memory memory s) ≡ accumulator_in w s
accumulator-same byte_width memory s = refl
accumulator-same word_width memory s = refl

upper-same : (w : Width) (memory : List ℕ) (s : State) → upper_in w (with_memory memory s) ≡ upper_in w s
upper-same byte_width memory s = refl
upper-same word_width memory s = refl

unary-acts :
    (cpu : Cpu) (operation : UnaryName) (a : Operand) (at : ℕ) (s : State)
    → ActsByAccesses (accesses (Unary operation a) s) (op_step cpu (Unary operation a) at) s
unary-acts cpu operation a at s =
    let w = operand_width a in
    let v = operand_value s a in
    let writes = result_accesses (writes_back operation) a s in
    let outcome = unary_outcome operation w (accumulator_in w s) (upper_in w s) v s.flags in
    record {
      stores = outcome_stores outcome a s;
      addresses =
          outcome-addresses operation w (accumulator_in w s) (upper_in w s) v s.flags a s
          ∙ sym (after-reads a writes s);
      alike = λ memory agree.
          let t = with_memory memory s in
          let value = value-same memory s a (agree-first (operand_accesses Reading a s) writes memory s.memory agree) in
          ap (λ n. unary_step operation w a n at t) value
          ∙ unary-form operation w a v at t
          ∙ ap (λ n. outcome_step (unary_outcome operation w n (upper_in w t) v s.flags) w a at t)
          (accumulator-same w memory s)
          ∙ ap (λ n. outcome_step (unary_outcome operation w (accumulator_in w s) n v s.flags) w a at t)
          (upper-same w memory s)
          ∙ outcome-stores outcome w a at s memory
          ∙ ap (with_memory (stored (outcome_stores outcome a s) memory)) (sym (unary-form operation w a v at s));
    }

count-same :
    (cpu : Cpu) (count : Count) (memory : List ℕ) (s : State)
    → count_in cpu count (with_memory memory s) ≡ count_in cpu count s
count-same cpu One memory s = refl
count-same cpu Cl memory s = refl
count-same cpu (ConstCount number) memory s = refl

shift-acts :
    (cpu : Cpu) (shift : ShiftName) (a : Operand) (count : Count) (at : ℕ) (s : State)
    → ActsByAccesses (accesses (Shift shift a count) s) (op_step cpu (Shift shift a count) at) s
shift-acts cpu shift a count at s =
    let w = operand_width a in
    let v = operand_value s a in
    let writes = operand_accesses Writing a s in
    let result = shift_result shift w v (count_in cpu count s) s.flags in
    record {
      stores = operand_stores a result.0 s;
      addresses = operand-addresses a result.0 s ∙ sym (after-reads a writes s);
      alike = λ memory agree.
          let t = with_memory memory s in
          let value = value-same memory s a (agree-first (operand_accesses Reading a s) writes memory s.memory agree) in
          ap (λ n. with_result a (shift_result shift w n (count_in cpu count t) s.flags) t) value
          ∙ ap (λ n. with_result a (shift_result shift w v n s.flags) t) (count-same cpu count memory s)
          ∙ result-stores a result s memory;
    }

-- Moves.

mov-acts :
    (cpu : Cpu) (to from : Operand) (at : ℕ) (s : State)
    → ActsByAccesses (accesses (Mov to from) s) (op_step cpu (Mov to from) at) s
mov-acts cpu to from at s =
    let v = operand_value s from in
    let writes = operand_accesses Writing to s in
    record {
      stores = operand_stores to v s;
      addresses = operand-addresses to v s ∙ sym (after-reads from writes s);
      alike = λ memory agree.
          let value =
          value-same memory s from (agree-first (operand_accesses Reading from s) writes memory s.memory agree) in
          ap (λ n. with_operand (with_memory memory s) to n) value ∙ operand-stores to v s memory;
    }

stored-append :
    (first second : List Store) (memory : List ℕ)
    → stored (first ++ second) memory ≡ stored second (stored first memory)
stored-append [] second memory = refl
stored-append (store ∷ rest) second memory = stored-append rest second (slice_set memory store.address store.byte)

xchg-acts :
    (cpu : Cpu) (a b : Operand) (at : ℕ) (s : State)
    → ActsByAccesses (accesses (Xchg a b) s) (op_step cpu (Xchg a b) at) s
xchg-acts cpu a b at s =
    let va = operand_value s a in
    let vb = operand_value s b in
    let u = with_operand s a vb in
    let first = operand_stores a vb s in
    let second = operand_stores b va u in
    let reads_a = operand_accesses Reading a s in
    let reads_b = operand_accesses Reading b s in
    let writes_a = operand_accesses Writing a s in
    let writes_b = operand_accesses Writing b u in
    record {
      stores = first ++ second;
      addresses =
          map-append (λ (store : Store). store.address) first second
          ∙ ap (λ (l : List ℕ). l ++ addresses_stored second) (operand-addresses a vb s)
          ∙ ap (λ (l : List ℕ). written_by writes_a ++ l) (operand-addresses b va u)
          ∙ sym (written_by-append writes_a writes_b)
          ∙ sym (after-reads b (writes_a ++ writes_b) s)
          ∙ sym (after-reads a (reads_b ++ (writes_a ++ writes_b)) s);
      alike = λ memory agree.
          let t = with_memory memory s in
          let value_a =
          value-same memory s a (agree-first reads_a (reads_b ++ (writes_a ++ writes_b)) memory s.memory agree) in
          let value_b =
          value-same memory s b
          (agree-first reads_b (writes_a ++ writes_b) memory s.memory
          (agree-second reads_a (reads_b ++ (writes_a ++ writes_b)) memory s.memory agree)) in
          ap (λ n. with_operand (with_operand t a n) b (operand_value t a)) value_b
          ∙ ap (λ n. with_operand (with_operand t a vb) b n) value_a
          ∙ ap (λ r. with_operand r b va) (operand-stores a vb s memory)
          ∙ operand-stores b va u (stored first memory)
          ∙ ap (λ l. with_memory l (with_operand u b va)) (sym (stored-append first second memory));
    }

imul3-acts :
    (cpu : Cpu) (r : Reg) (a : Operand) (constant at : ℕ) (s : State)
    → ActsByAccesses (accesses (Imul3 r a constant) s) (op_step cpu (Imul3 r a constant) at) s
imul3-acts cpu r a constant at s = record {
  stores = [];
  addresses = sym (after-reads a [] s) ∙ ap written_by (append-nil (operand_accesses Reading a s));
  alike = λ memory agree.
      let product = λ (n : ℕ). signed_product_of word_width n constant in
      ap (λ n. with_word_in (with_flags (product n).2 (with_memory memory s)) r (product n).0)
      (value-same memory s a agree);
}

-- The stack.

-- the bytes that are stored where a word is pushed
abbrev push_stores : ℕ → State → List Store
push_stores word s = word_stores (stack_segment s) (word_in (with_sp_raised 65534 s) Sp) word

push-stores : (word : ℕ) (s : State) → Stores (after_push word) (push_stores word s) s
push-stores word s memory = refl

push-addresses :
    (word : ℕ) (s : State) → HasRegisters s → addresses_stored (push_stores word s) ≡ written_by (push_access s ∷ [])
push-addresses word s form =
    let n = (word_in s Sp + 65534) % 65536 in
    let fallen : word_in (with_sp_raised 65534 s) Sp ≡ n = word-taken s Sp Sp n form.count refl in
    let low : n < 65536 = omega arith in
    ap (λ k. physical (stack_segment s) k ∷ physical (stack_segment s) ((k + 1) % 65536) ∷ []) fallen
    ∙ ap (λ k. physical (stack_segment s) k ∷ physical (stack_segment s) ((n + 1) % 65536) ∷ [])
    (sym (first_offset n low))

push-acts :
    (cpu : Cpu) (a : Operand) (at : ℕ) (s : State) → HasRegisters s
    → ActsByAccesses (accesses (Push a) s) (op_step cpu (Push a) at) s
push-acts cpu a at s form =
    let v = operand_value s a in
    let writes = push_access s ∷ [] in
    record {
      stores = push_stores v s;
      addresses = push-addresses v s form ∙ sym (after-reads a writes s);
      alike = λ memory agree.
          let value = value-same memory s a (agree-first (operand_accesses Reading a s) writes memory s.memory agree) in
          ap (λ n. after_push n (with_memory memory s)) value ∙ push-stores v s memory;
    }

-- the word at the top of the stack
top-same :
    (memory rest : List ℕ) (s : State) → HasRegisters s
    → AgreeAt (addresses_of (stack_access Reading (word_in s Sp) s) ++ rest) memory s.memory
    → top_word (with_memory memory s) ≡ top_word s
top-same memory rest s form agree = word-agrees s (stack_segment s) (word_in s Sp) memory rest (form.words Sp) agree

pop-acts :
    (cpu : Cpu) (a : Operand) (at : ℕ) (s : State) → HasRegisters s
    → ActsByAccesses (accesses (Pop a) s) (op_step cpu (Pop a) at) s
pop-acts cpu a at s form =
    let word = top_word s in
    let u = with_sp_raised 2 s in
    let writes = operand_accesses Writing a u in
    record {
      stores = operand_stores a word u;
      addresses = operand-addresses a word u;
      alike = λ memory agree.
          ap (λ n. with_operand (with_sp_raised 2 (with_memory memory s)) a n)
          (top-same memory (read_by writes) s form agree)
          ∙ operand-stores a word u memory;
    }

leave-acts :
    (cpu : Cpu) (at : ℕ) (s : State) → HasRegisters s → ActsByAccesses (accesses Leave s) (op_step cpu Leave at) s
leave-acts cpu at s form = record {
  stores = [];
  addresses = refl;
  alike = λ memory agree.
      let u = with_word_in s Sp (word_in s Bp) in
      let taken : word_in u Sp ≡ word_in s Bp = word-taken s Sp Sp (word_in s Bp) form.count refl in
      let word = word-agrees s (stack_segment s) (word_in s Bp) memory [] (form.words Bp) agree in
      let top : top_word (with_memory memory u) ≡ top_word u =
      ap (λ n. word_at_offset (with_memory memory s) (stack_segment s) n) taken
      ∙ word
      ∙ ap (λ n. word_at_offset s (stack_segment s) n) (sym taken) in
      ap (λ n. with_operand (with_sp_raised 2 (with_memory memory u)) (Word Bp) n) top;
}

-- DOS calls.

-- the elements up to the first that fails, of two lists that begin alike
passes-agree :
    (p : ℕ → Bool) (x y : ℕ) (xs ys : List ℕ) (passes : Bool) → p x ≡ passes → y ≡ x
    → (passes ≡ true → take_while p ys ≡ take_while p xs) → take_while p (y ∷ ys) ≡ take_while p (x ∷ xs)
passes-agree p x y xs ys passes e here rest =
    take_while-cons p y ys
    ∙ ap (λ z. cond (p z) (z ∷ take_while p ys) []) here
    ∙ ap (λ b. cond b (x ∷ take_while p ys) []) e
    ∙ go passes rest
    ∙ sym (ap (λ b. cond b (x ∷ take_while p xs) []) e)
    ∙ sym (take_while-cons p x xs)
  where
    go :
        (b : Bool) → (b ≡ true → take_while p ys ≡ take_while p xs)
        → cond b (x ∷ take_while p ys) [] ≡ cond b (x ∷ take_while p xs) []
    go true same = ap (λ (l : List ℕ). x ∷ l) (same refl)
    go false same = refl

passes-length :
    (p : ℕ → Bool) (x : ℕ) (xs : List ℕ) → p x ≡ true → length (take_while p (x ∷ xs)) ≡ suc (length (take_while p xs))
passes-length p x xs e = ap length (take_while-cons p x xs ∙ ap (λ b. cond b (x ∷ take_while p xs) []) e)

take_while-agrees :
    (p : ℕ → Bool) (f g : ℕ → ℕ) (n a : ℕ)
    → ((k : ℕ) → k < min (length (take_while p (map f (range_with_len a n))) + 1) n → g (a + k) ≡ f (a + k))
    → take_while p (map g (range_with_len a n)) ≡ take_while p (map f (range_with_len a n))
take_while-agrees p f g zero a same = refl
take_while-agrees p f g (suc n) a same =
    let first = map f (range_with_len (a + 1) n) in
    let second = map g (range_with_len (a + 1) n) in
    let here : g a ≡ f a =
    let at : a + 0 ≡ a = omega arith in
    subst (λ i. g i ≡ f i) at (same 0 (omega arith)) in
    passes-agree p (f a) (g a) first second (p (f a)) refl here (λ e.
    take_while-agrees p f g n (a + 1) (λ k low.
    let size = passes-length p (f a) first e in
    let at : a + (k + 1) ≡ a + 1 + k = omega arith in
    let room : k + 1 < min (length (take_while p (f a ∷ first)) + 1) (suc n) = omega (arith, size, low) in
    subst (λ i. g i ≡ f i) at (same (k + 1) room)))

-- a byte of an access by its index
access-has :
    (access : Access) (k : ℕ) → k < access.size → Contains (addresses_of access ++ []) (address_in access (0 + k))
access-has access k low =
    let all = addresses_of access in
    let inside : k < length all = omega (arith, length-map-range_with_len (address_in access) 0 access.size) in
    let here : Contains all (address_in access (0 + k)) = (
      k,
      inside,
      get_or-map-range_with_len (address_in access) 0 access.size k (0 + k)
          (address_in access (0 + k)) low refl,
    ) in
    Contains-append_left all [] (address_in access (0 + k)) here

-- the bytes up to the one that ends them
string-from :
    (memory : List ℕ) (s : State) (p : ℕ → Bool) (segment offset n size : ℕ)
    → size ≡ min (length (take_while p (bytes_from s segment offset n)) + 1) n
    → AgreeAt (read_by (other_read segment offset size ∷ [])) memory s.memory
    → take_while p (bytes_from (with_memory memory s) segment offset n) ≡ take_while p (bytes_from s segment offset n)
unfolding bytes_from
string-from memory s p segment offset n size is agree =
    let access = other_read segment offset size in
    take_while-agrees p (λ k. byte_in s segment ((offset + k) % 65536))
    (λ k. byte_in (with_memory memory s) segment ((offset + k) % 65536)) n 0 (λ k low.
    let inside : k < size = omega (arith, is, low) in
    agree (address_in access (0 + k)) (access-has access k inside))

pub string-same :
    (memory : List ℕ) (s : State)
    → AgreeAt (read_by (other_read (data_segment s) (word_in s Dx) (string_size s) ∷ [])) memory s.memory
    → dos_string (with_memory memory s) ≡ dos_string s
unfolding dos_string
string-same memory s agree =
    string-from memory s is_not_dollar (data_segment s) (word_in s Dx) STRING_MOST (string_size s) refl agree

-- how many elements pass, where the first that fails is known
passes-until :
    (p : ℕ → Bool) (f : ℕ → ℕ) (n count a : ℕ) → n < count → ((k : ℕ) → k < n → p (f (a + k)) ≡ true)
    → p (f (a + n)) ≡ false → length (take_while p (map f (range_with_len a count))) ≡ n
passes-until p f n zero a within pass fail = absurd (omega arith)
passes-until p f zero (suc count) a within pass fail =
    let rest = map f (range_with_len (a + 1) count) in
    let at : a + 0 ≡ a = omega arith in
    let here : p (f a) ≡ false = subst (λ i. p (f i) ≡ false) at fail in
    ap length (take_while-cons p (f a) rest ∙ ap (λ b. cond b (f a ∷ take_while p rest) []) here)
passes-until p f (suc n) (suc count) a within pass fail =
    let rest = map f (range_with_len (a + 1) count) in
    let at : a + 0 ≡ a = omega arith in
    let here : p (f a) ≡ true = subst (λ i. p (f i) ≡ true) at (pass 0 (omega arith)) in
    let last : a + suc n ≡ a + 1 + n = omega arith in
    let inner : length (take_while p rest) ≡ n =
    passes-until p f n count (a + 1) (omega arith) (λ k low.
    let next : a + suc k ≡ a + 1 + k = omega arith in
    subst (λ i. p (f i) ≡ true) next (pass (suc k) (omega arith)))
    (subst (λ i. p (f i) ≡ false) last fail) in
    passes-length p (f a) rest here ∙ ap suc inner

string-length :
    (s : State) (n count : ℕ) → n < count
    → ((k : ℕ) → k < n → is_not_dollar (byte_in s (data_segment s) ((word_in s Dx + (0 + k)) % 65536)) ≡ true)
    → is_not_dollar (byte_in s (data_segment s) ((word_in s Dx + (0 + n)) % 65536)) ≡ false
    → length (take_while is_not_dollar (bytes_from s (data_segment s) (word_in s Dx) count)) ≡ n
unfolding bytes_from
string-length s n count within pass fail =
    passes-until is_not_dollar (λ k. byte_in s (data_segment s) ((word_in s Dx + k) % 65536)) n count 0 within pass fail

-- a string of n bytes is read with its `$`
pub string_size-is :
    (s : State) (n : ℕ) → n < STRING_MOST
    → ((k : ℕ) → k < n → is_not_dollar (byte_in s (data_segment s) ((word_in s Dx + (0 + k)) % 65536)) ≡ true)
    → is_not_dollar (byte_in s (data_segment s) ((word_in s Dx + (0 + n)) % 65536)) ≡ false → string_size s ≡ n + 1
unfolding dos_string
string_size-is s n within pass fail =
    let size : length (dos_string s) ≡ n = string-length s n STRING_MOST within pass fail in
    omega (arith, size)

key-stores : (echo : Bool) (input : List ℕ) (s : State) → Stores (with_key echo input) [] s
key-stores echo [] s memory = refl
key-stores echo (byte ∷ rest) s memory = refl

dos-writes :
    (so : Bool) (access : Access) → access.direction ≡ Reading → [] ≡ written_by (if so then access ∷ [] else [])
dos-writes true access reads = ap (λ d. written_in d (addresses_of access) ++ []) (sym reads)
dos-writes false access reads = refl

dos-alike :
    (number at : ℕ) (s : State) (memory : List ℕ) → AgreeAt (read_by (dos_accesses number s)) memory s.memory
    → dos_step number at (with_memory memory s) ≡ with_memory memory (dos_step number at s)
dos-alike number at s memory agree =
    calls-relate (λ t u. t ≡ with_memory memory u) number at (with_memory memory s) s (record {
      putc = λ is. refl;
      exit = λ is. refl;
      key = λ echo. key-stores echo s.input s memory;
      puts = λ is.
          ap (λ l. after_write l (with_memory memory s))
          (string-same memory s
          (subst
          (λ so. AgreeAt
          (read_by (if so then other_read (data_segment s) (word_in s Dx) (string_size s) ∷ [] else [])) memory s.memory)
          is agree));
      outside = λ no_getche no_getch. refl;
    })

dos-acts : (cpu : Cpu) (at : ℕ) (s : State) → ActsByAccesses (accesses Int21 s) (op_step cpu Int21 at) s
dos-acts cpu at s =
    let number = word_in s Ax / 256 in
    record {
      stores = [];
      addresses = dos-writes (number == PUTS) (other_read (data_segment s) (word_in s Dx) (string_size s)) refl;
      alike = dos-alike number at s;
    }

plain-acts :
    (cpu : Cpu) (operation : PlainName) (at : ℕ) (s : State)
    → ActsByAccesses (plain_accesses operation s) (op_step cpu (Plain operation) at) s
plain-acts cpu Nop at s = record { stores = []; addresses = refl; alike = λ memory agree. refl }
plain-acts cpu Cbw at s = record { stores = []; addresses = refl; alike = λ memory agree. refl }
plain-acts cpu Cwd at s = record { stores = []; addresses = refl; alike = λ memory agree. refl }
plain-acts cpu Xlat at s = record {
  stores = [];
  addresses = refl;
  alike = λ memory agree.
      let n = (word_in s Bx + half_of_word Low (word_in s Ax)) % 65536 in
      let low : n < 65536 = omega arith in
      ap (λ byte. with_al byte (with_memory memory s)) (byte-agrees (data_segment s) n [] memory s.memory low agree);
}
plain-acts cpu Clc at s = record { stores = []; addresses = refl; alike = λ memory agree. refl }
plain-acts cpu Stc at s = record { stores = []; addresses = refl; alike = λ memory agree. refl }
plain-acts cpu Cmc at s = record { stores = []; addresses = refl; alike = λ memory agree. refl }
plain-acts cpu Cli at s = record { stores = []; addresses = refl; alike = λ memory agree. refl }
plain-acts cpu Sti at s = record { stores = []; addresses = refl; alike = λ memory agree. refl }
plain-acts cpu Cld at s = record { stores = []; addresses = refl; alike = λ memory agree. refl }

-- All operations.

-- one that has nothing to do with memory
quiet-acts :
    (act : State → State) (s : State) → ((memory : List ℕ) → act (with_memory memory s) ≡ with_memory memory (act s))
    → ActsByAccesses [] act s
quiet-acts act s same = record { stores = []; addresses = refl; alike = λ memory agree. same memory }

pub op-acts :
    (cpu : Cpu) (op : Op) (at : ℕ) (s : State) → HasRegisters s → ActsByAccesses (accesses op s) (op_step cpu op at) s
op-acts cpu (Alu operation a b) at s form = alu-acts cpu operation a b at s
op-acts cpu (Unary operation a) at s form = unary-acts cpu operation a at s
op-acts cpu (Shift operation a count) at s form = shift-acts cpu operation a count at s
op-acts cpu (Mov to from) at s form = mov-acts cpu to from at s
op-acts cpu (Xchg a b) at s form = xchg-acts cpu a b at s
op-acts cpu (Lea r ea) at s form =
    quiet-acts (op_step cpu (Lea r ea) at) s
    (λ memory. ap (λ n. with_word_in (with_memory memory s) r n) (offset-same memory s ea))
op-acts cpu (Imul3 r a constant) at s form = imul3-acts cpu r a constant at s
op-acts cpu (Push a) at s form = push-acts cpu a at s form
op-acts cpu (Pop a) at s form = pop-acts cpu a at s form
op-acts cpu (Enter count) at s form =
    record {
      stores = push_stores (word_in s Bp) s;
      addresses = push-addresses
          (word_in s Bp) s form;
      alike = λ memory agree. refl;
    }
op-acts cpu Leave at s form = leave-acts cpu at s form
op-acts cpu (Plain operation) at s form = plain-acts cpu operation at s
op-acts cpu (Jump target) at s form = quiet-acts (op_step cpu (Jump target) at) s (λ memory. refl)
op-acts cpu (Branch condition target) at s form =
    quiet-acts (op_step cpu (Branch condition target) at) s (λ memory. refl)
op-acts cpu (Loop target) at s form = quiet-acts (op_step cpu (Loop target) at) s (λ memory. refl)
op-acts cpu (LoopE target) at s form = quiet-acts (op_step cpu (LoopE target) at) s (λ memory. refl)
op-acts cpu (LoopNe target) at s form = quiet-acts (op_step cpu (LoopNe target) at) s (λ memory. refl)
op-acts cpu (Jcxz target) at s form = quiet-acts (op_step cpu (Jcxz target) at) s (λ memory. refl)
op-acts cpu (Table r offset) at s form = record {
  stores = [];
  addresses = refl;
  alike = λ memory agree.
      let n = (word_in s r + offset) % 65536 in
      let low : n < 65536 = omega arith in
      ap (λ word. after_jump word (with_memory memory s)) (word-agrees s (code_segment s) n memory [] low agree);
}
op-acts cpu (Call target) at s form =
    record { stores = push_stores s.ip s; addresses = push-addresses s.ip s form; alike = λ memory agree. refl }
op-acts cpu (Ret count) at s form = record {
  stores = [];
  addresses = refl;
  alike = λ memory agree.
      ap (λ word. after_jump word (with_sp_raised (2 + count) (with_memory memory s)))
      (top-same memory [] s form agree);
}
op-acts cpu Int21 at s form = dos-acts cpu at s
