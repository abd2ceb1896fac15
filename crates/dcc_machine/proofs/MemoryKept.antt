-- What follows from how an act touches memory; the steps of the machine.
use Rattle.std.proofs.Common.{◌≡◌, ◌≢◌, inl, inr, ℕ, zero, suc, ◌+◌, ◌/◌, ◌%◌, ◌<◌, Bool, true, false, List, [], ◌∷◌, ◌++◌, length, min, take, get_or, Option, Some, None, refl, sym, ap, ◌∙◌, subst, arith, length-set}
use Rattle.std.proofs.lemmas.List.{get_or-set_same, get_or-set_other, get_or_past}
use Rattle.std.proofs.lemmas.List.FromFn.{get_or-map-range_with_len, length-map-range_with_len}
use Rattle.std.proofs.Math.Decide.{ℕ_discrete, dec_lt}
use Rattle.std.specs.Prelude.{slice_index, slice_set, Contains, if◌then◌else◌, ◌==◌}
use Rattle.dcc_run.specs.End.{is_over}
use Rattle.dcc_num.specs.declared.Width.{Width}
use Rattle.dcc_num.specs.declared.dos.TheConstants.{PUTS, STRING_MOST}
use Rattle.dcc_num.specs.declared.Reg.TheVariants.{Ax, Dx, Sp}
use Rattle.dcc_machine.specs.declared.cpu.Cpu.{Cpu}
use Rattle.dcc_machine.specs.declared.instr.Plain.{Plain as PlainName}
use Rattle.dcc_machine.specs.declared.instr.Plain.TheVariants.{Xlat}
use Rattle.dcc_machine.specs.declared.instr.Operand.{Operand}
use Rattle.dcc_machine.specs.declared.instr.Operand.TheVariants.{Word, Byte, Seg, Mem, Const}
use Rattle.dcc_machine.specs.declared.instr.Ea.{Ea}
use Rattle.dcc_machine.specs.declared.instr.Op.TheVariants.{Alu, Unary, Shift, Mov, Xchg, Imul3, Push, Pop, Plain}
use Rattle.dcc_machine.specs.declared.instr.Op.TheVariants.{Int21}
use Rattle.dcc_machine.specs.declared.instr.Instr.{Instr}
use Rattle.dcc_machine.specs.Table.{instruction_at}
use Rattle.dcc_machine.specs.Machine.{State, word_in, code_segment, data_segment, physical, segment_of, operand_value, with_operand}
use Rattle.dcc_machine.specs.Operations.{with_sp_raised}
use Rattle.dcc_machine.specs.Step.{code_byte, code_bytes, op_step, instruction_step, step}
use Rattle.dcc_machine.specs.StateForm.{HasRegisters}
use Rattle.dcc_machine.specs.Writes.{writes_operand}
use Rattle.dcc_machine.specs.Access.{Direction, Reading, Writing, Access, kind_of, bytes_in, operand_accesses, result_accesses, writes_back, accesses, exchange_accesses, stack_access, other_read, string_size, plain_accesses, found_accesses, step_accesses, fetched_size, code_addresses, found_reads, step_reads, read_by, written_by, with_memory, AgreeAt, Store, stored, ActsBy, ActsByAccesses}
use Rattle.dcc_machine.specs.MemoryLaws.{Leaves, IsAlikeOrLeft, StepsActByAccesses, MemoryChangesAtWritesAlone, BytesAreAlikeOrLeft, AccessesDependOnReads}
use Rattle.dcc_machine.proofs.TableLaws.{instruction-length, instruction-prefix}
use Rattle.dcc_machine.proofs.AccessLaws.{agree-left, agree-right, operand_stores, operand-stores, agree-first, agree-second, value-same, offset-same, string-same, addresses_stored, op-acts}

-- Bytes that are stored.

contains-next : (x y : ℕ) (xs : List ℕ) → Contains xs y → Contains (x ∷ xs) y
contains-next x y xs has = (suc has.0, omega arith, has.2)

stored-other :
    (stores : List Store) (memory : List ℕ) (address : ℕ) → ¬ Contains (addresses_stored stores) address
    → slice_index (stored stores memory) address ≡ slice_index memory address
stored-other [] memory address other = refl
stored-other (store ∷ rest) memory address other =
    let apart : address ≢ store.address =
    λ same. other (0, omega arith, sym same) in
    stored-other rest (slice_set memory store.address store.byte) address
    (λ has. other (contains-next store.address address (addresses_stored rest) has))
    ∙ get_or-set_other memory store.address address store.byte 0 apart

-- an act leaves memory alone but where it writes
acts-leaves :
    (reads writes : List ℕ) (act : State → State) (s : State) → ActsBy reads writes act s → Leaves writes act s
acts-leaves reads writes act s acts address other =
    let memory : (act s).memory ≡ stored acts.stores s.memory =
    ap (λ (t : State). t.memory) (acts.alike s.memory (λ a has. refl)) in
    ap (λ (l : List ℕ). slice_index l address) memory
    ∙ stored-other acts.stores s.memory address (subst (λ l. ¬ Contains l address) (sym acts.addresses) other)

-- one byte stored in two memories of one size
set-either : (memory other : List ℕ) (at byte address : ℕ) → length memory ≡ length other
    → IsAlikeOrLeft other memory (slice_set other at byte) (slice_set memory at byte) address
set-either memory other at byte address sizes = elim (ℕ_discrete address at) [
  | yes same ↦ elim (dec_lt at (length other)) [
    | yes inside ↦ inl (
        ap (λ k. slice_index (slice_set memory at byte) k) same
        ∙ get_or-set_same memory at byte 0 (omega arith)
        ∙ sym (get_or-set_same other at byte 0 inside)
        ∙ ap (λ k. slice_index (slice_set other at byte) k) (sym same)
        )
    | no outside ↦
        let first : slice_index (slice_set memory at byte) address ≡ 0 =
        get_or_past (slice_set memory at byte) address 0
        (omega (arith, length-set memory at byte, sizes, same, outside)) in
        let second : slice_index (slice_set other at byte) address ≡ 0 =
        get_or_past (slice_set other at byte) address 0 (omega (arith, length-set other at byte, same, outside)) in
        inl (first ∙ sym second)
  ]
  | no apart ↦ inr (get_or-set_other other at address byte 0 apart, get_or-set_other memory at address byte 0 apart)
]

stored-either : (stores : List Store) (memory other : List ℕ) (address : ℕ) → length memory ≡ length other
    → IsAlikeOrLeft other memory (stored stores other) (stored stores memory) address
stored-either [] memory other address sizes = inr (refl, refl)
stored-either (store ∷ rest) memory other address sizes =
    let first = slice_set memory store.address store.byte in
    let second = slice_set other store.address store.byte in
    let same : length first ≡ length second =
    length-set memory store.address store.byte ∙ sizes ∙ sym (length-set other store.address store.byte) in
    elim (stored-either rest first second address same) [
      | inl alike ↦ inl alike
      | inr left ↦ elim (set-either memory other store.address store.byte address sizes) [
        | inl alike ↦ inl (left.1 ∙ alike ∙ sym left.0)
        | inr before ↦ inr (left.0 ∙ before.0, left.1 ∙ before.1)
      ]
    ]

pub acts-either : BytesAreAlikeOrLeft
acts-either reads writes act s memory acts agree sizes address =
    let own : (act s).memory ≡ stored acts.stores s.memory =
    ap (λ (t : State). t.memory) (acts.alike s.memory (λ a has. refl)) in
    let others : (act (with_memory memory s)).memory ≡ stored acts.stores memory =
    ap (λ (t : State). t.memory) (acts.alike memory agree) in
    subst (λ l. IsAlikeOrLeft s.memory memory (act s).memory l address) (sym others)
    (subst (λ l. IsAlikeOrLeft s.memory memory l (stored acts.stores memory) address) (sym own)
    (stored-either acts.stores memory s.memory address sizes))

-- The accesses.

operand_access : Direction → Width → Ea → ℕ → ℕ → Access
operand_access direction width ea segment n =
    record { direction = direction; kind = kind_of ea; segment = segment; offset = n; size = bytes_in width }

operand-same :
    (direction : Direction) (x : Operand) (memory : List ℕ) (s : State)
    → operand_accesses direction x (with_memory memory s) ≡ operand_accesses direction x s
unfolding operand_access
operand-same direction (Word r) memory s = refl
operand-same direction (Byte r half) memory s = refl
operand-same direction (Seg number) memory s = refl
operand-same direction (Mem width ea) memory s =
    ap (λ n. operand_access direction width ea (segment_of s ea) n ∷ []) (offset-same memory s ea)
operand-same direction (Const width constant) memory s = refl

result-same :
    (so : Bool) (x : Operand) (memory : List ℕ) (s : State)
    → result_accesses so x (with_memory memory s) ≡ result_accesses so x s
result-same true x memory s = operand-same Writing x memory s
result-same false x memory s = refl

joined : {xs xs' ys ys' : List Access} → xs ≡ xs' → ys ≡ ys' → xs ++ ys ≡ xs' ++ ys'
joined p q = cc

exchange-same :
    (a b : Operand) (memory : List ℕ) (s : State) → AgreeAt (read_by (exchange_accesses a b s)) memory s.memory
    → exchange_accesses a b (with_memory memory s) ≡ exchange_accesses a b s
exchange-same a b memory s agree =
    let t = with_memory memory s in
    let vb = operand_value s b in
    let u = with_operand s a vb in
    let reads_a = operand_accesses Reading a s in
    let reads_b = operand_accesses Reading b s in
    let writes = operand_accesses Writing a s ++ operand_accesses Writing b u in
    let value : operand_value t b ≡ vb =
    value-same memory s b
    (agree-first reads_b writes memory s.memory (agree-second reads_a (reads_b ++ writes) memory s.memory agree)) in
    let last : operand_accesses Writing b (with_operand t a (operand_value t b)) ≡ operand_accesses Writing b u =
    ap (λ n. operand_accesses Writing b (with_operand t a n)) value
    ∙ ap (λ r. operand_accesses Writing b r) (operand-stores a vb s memory)
    ∙ operand-same Writing b (stored (operand_stores a vb s) memory) u in
    joined (operand-same Reading a memory s)
    (joined (operand-same Reading b memory s) (joined (operand-same Writing a memory s) last))

string-read :
    (so : Bool) (memory : List ℕ) (s : State)
    → AgreeAt
    (read_by (if so then other_read (data_segment s) (word_in s Dx) (string_size s) ∷ [] else [])) memory s.memory
    → (if so then other_read (data_segment s) (word_in s Dx) (string_size (with_memory memory s)) ∷ [] else [])
    ≡ (if so then other_read (data_segment s) (word_in s Dx) (string_size s) ∷ [] else [])
string-read true memory s agree =
    ap (λ (l : List ℕ). other_read (data_segment s) (word_in s Dx) (min (length l + 1) STRING_MOST) ∷ [])
    (string-same memory s agree)
string-read false memory s agree = refl

plain-same :
    (operation : PlainName) (memory : List ℕ) (s : State)
    → plain_accesses operation (with_memory memory s) ≡ plain_accesses operation s
plain-same Xlat memory s = refl
plain-same operation memory s = refl

pub accesses-same : AccessesDependOnReads
accesses-same (Alu operation a b) s memory agree =
    joined (operand-same Reading a memory s)
    (joined (operand-same Reading b memory s) (result-same (writes_operand operation) a memory s))
accesses-same (Unary operation a) s memory agree =
    joined (operand-same Reading a memory s) (result-same (writes_back operation) a memory s)
accesses-same (Shift operation a count) s memory agree =
    joined (operand-same Reading a memory s) (operand-same Writing a memory s)
accesses-same (Mov to from) s memory agree =
    joined (operand-same Reading from memory s) (operand-same Writing to memory s)
accesses-same (Xchg a b) s memory agree = exchange-same a b memory s agree
accesses-same (Imul3 r a constant) s memory agree = operand-same Reading a memory s
accesses-same (Push a) s memory agree = joined (operand-same Reading a memory s) refl
accesses-same (Pop a) s memory agree =
    ap (λ (l : List Access). stack_access Reading (word_in s Sp) s ∷ l)
    (operand-same Writing a memory (with_sp_raised 2 s))
accesses-same (Plain operation) s memory agree = plain-same operation memory s
accesses-same Int21 s memory agree = string-read (word_in s Ax / 256 == PUTS) memory s agree
accesses-same op s memory agree = refl

-- Steps.

found-acts :
    (cpu : Cpu) (found : Option Instr) (s : State) → HasRegisters s
    → ActsByAccesses (found_accesses found s) (instruction_step cpu found) s
found-acts cpu None s form = record { stores = []; addresses = refl; alike = λ memory agree. refl }
found-acts cpu (Some instr) s form =
    let next : State = record s { ip = (s.ip + instr.len) % 65536 } in
    let acts = op-acts cpu instr.op s.ip next (record { count = form.count; words = form.words }) in
    record { stores = acts.stores; addresses = acts.addresses; alike = acts.alike }

code-agrees :
    (s : State) (size : ℕ) (memory : List ℕ) → AgreeAt (code_addresses s size) memory s.memory → (k : ℕ) → k < size
    → code_byte (with_memory memory s) k ≡ code_byte s k
code-agrees s size memory agree k low =
    let address = λ (j : ℕ). physical (code_segment s) ((s.ip + j) % 65536) in
    let inside : k < length (code_addresses s size) = omega (arith, length-map-range_with_len address 0 size) in
    let at : 0 + k ≡ k = omega arith in
    agree (address k) (k, inside, get_or-map-range_with_len address 0 size k k (address k) low at)

code-index : (s : State) (k : ℕ) → k < 6 → get_or (code_bytes s) k 0 ≡ code_byte s k
code-index s zero low = refl
code-index s (suc zero) low = refl
code-index s (suc (suc zero)) low = refl
code-index s (suc (suc (suc zero))) low = refl
code-index s (suc (suc (suc (suc zero)))) low = refl
code-index s (suc (suc (suc (suc (suc zero))))) low = refl
code-index s (suc (suc (suc (suc (suc (suc k)))))) low = absurd (omega arith)

take-alike :
    (n : ℕ) (xs ys : List ℕ) → length xs ≡ length ys → ((k : ℕ) → k < n → get_or xs k 0 ≡ get_or ys k 0)
    → take n xs ≡ take n ys
take-alike zero xs ys sizes same = refl
take-alike (suc n) [] [] sizes same = refl
take-alike (suc n) [] (y ∷ ys) sizes same = absurd (omega (arith, sizes))
take-alike (suc n) (x ∷ xs) [] sizes same = absurd (omega (arith, sizes))
take-alike (suc n) (x ∷ xs) (y ∷ ys) sizes same =
    let here : x ≡ y = same 0 (omega arith) in
    let rest : take n xs ≡ take n ys =
    take-alike n xs ys (omega (arith, sizes)) (λ k low. same (suc k) (omega arith)) in
    cc

-- the bytes that tell the instruction tell it in another memory too
found-same :
    (cpu : Cpu) (s : State) (memory : List ℕ) (found : Option Instr) → instruction_at cpu s.ip (code_bytes s) ≡ found
    → AgreeAt (code_addresses s (fetched_size found)) memory s.memory
    → instruction_at cpu s.ip (code_bytes (with_memory memory s)) ≡ found
found-same cpu s memory None is agree =
    let t = with_memory memory s in
    let bytes : take 6 (code_bytes t) ≡ take 6 (code_bytes s) =
    take-alike 6 (code_bytes t) (code_bytes s) refl (λ k low.
    code-index t k low ∙ code-agrees s 6 memory agree k low ∙ sym (code-index s k low)) in
    ap (instruction_at cpu s.ip) bytes ∙ is
found-same cpu s memory (Some instr) is agree =
    let t = with_memory memory s in
    let bounds = instruction-length cpu s.ip (code_bytes s) instr is in
    let bytes : take instr.len (code_bytes t) ≡ take instr.len (code_bytes s) =
    take-alike instr.len (code_bytes t) (code_bytes s) refl (λ k low.
    let within : k < 6 = omega (arith, bounds.1, bounds.2, low) in
    code-index t k within ∙ code-agrees s instr.len memory agree k low ∙ sym (code-index s k within)) in
    instruction-prefix cpu s.ip (code_bytes s) (code_bytes t) instr is bytes

over-acts :
    (cpu : Cpu) (s : State) → is_over s.end ≡ true
    → ActsBy (step_reads cpu s) (written_by (step_accesses cpu s)) (step cpu) s
over-acts cpu s over = record {
  stores = [];
  addresses =
      sym (ap (λ b. written_by (if b then [] else found_accesses (instruction_at cpu s.ip (code_bytes s)) s)) over);
  alike = λ memory agree.
      let t = with_memory memory s in
      ap (λ b. if b then t else instruction_step cpu (instruction_at cpu s.ip (code_bytes t)) t) over
      ∙ sym (ap (λ b.
      with_memory memory (if b then s else instruction_step cpu (instruction_at cpu s.ip (code_bytes s)) s)) over);
}

going-acts :
    (cpu : Cpu) (s : State) → HasRegisters s → is_over s.end ≡ false
    → ActsBy (step_reads cpu s) (written_by (step_accesses cpu s)) (step cpu) s
going-acts cpu s form going =
    let found = instruction_at cpu s.ip (code_bytes s) in
    let acts = found-acts cpu found s form in
    let code = code_addresses s (fetched_size found) in
    record {
      stores = acts.stores;
      addresses = acts.addresses ∙ sym (ap (λ b. written_by (if b then [] else found_accesses found s)) going);
      alike = λ memory agree.
          let t = with_memory memory s in
          let all : AgreeAt (found_reads found s) memory s.memory =
          subst (λ b. AgreeAt (if b then [] else found_reads found s) memory s.memory) going agree in
          let same =
          found-same cpu s memory found refl (agree-left code (read_by (found_accesses found s)) memory s.memory all) in
          ap (λ b. if b then t else instruction_step cpu (instruction_at cpu s.ip (code_bytes t)) t) going
          ∙ ap (λ f. instruction_step cpu f t) same
          ∙ acts.alike memory (agree-right code (read_by (found_accesses found s)) memory s.memory all)
          ∙ sym (ap (λ b.
          with_memory (stored acts.stores memory) (if b then s else instruction_step cpu found s)) going);
    }

either-acts :
    (cpu : Cpu) (s : State) → HasRegisters s → (over : Bool) → is_over s.end ≡ over
    → ActsBy (step_reads cpu s) (written_by (step_accesses cpu s)) (step cpu) s
either-acts cpu s form true e = over-acts cpu s e
either-acts cpu s form false e = going-acts cpu s form e

pub steps-act : StepsActByAccesses
steps-act = record { operation = op-acts; step = λ cpu s form. either-acts cpu s form (is_over s.end) refl }

pub memory-kept : MemoryChangesAtWritesAlone
memory-kept = record {
  operation = λ cpu op at s form.
      acts-leaves (read_by (accesses op s)) (written_by (accesses op s)) (op_step cpu op at) s
      (op-acts cpu op at s form);
  step = λ cpu s form.
      acts-leaves (step_reads cpu s) (written_by (step_accesses cpu s)) (step cpu) s (steps-act.step cpu s form);
}
