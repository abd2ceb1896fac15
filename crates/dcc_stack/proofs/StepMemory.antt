-- What a clean step does to memory; words of the stack that are read and pushed.
use Rattle.std.proofs.Common.{◌≡◌, ◌≢◌, ◌⊎◌, inl, inr, ℕ, ◌+◌, ◌*◌, ◌/◌, ◌%◌, ◌<◌, ◌≤◌, false, List, [], ◌∷◌, length, Some, None, Contains, refl, sym, ap, ap₂, ◌∙◌, subst, arith}
use Rattle.std.specs.Prelude.{slice_index, slice_set, if◌then◌else◌}
use Rattle.std.proofs.Math.Nat.{mod-eq_of_lt}
use Rattle.std.proofs.lemmas.Bool.{cases_eq}
use Rattle.std.proofs.lemmas.List.{get_or-set_same, get_or-set_other, length-set}
use Rattle.dcc_run.specs.End.{is_over}
use Rattle.dcc_num.specs.declared.Reg.TheVariants.{Sp}
use Rattle.dcc_machine.specs.declared.cpu.Cpu.{Cpu}
use Rattle.dcc_machine.specs.declared.image.Image.{Image}
use Rattle.dcc_prog.specs.declared.procedure.Layout.{Layout}
use Rattle.dcc_prog.specs.declared.frame.Program.{Program}
use Rattle.dcc_machine.specs.declared.instr.Instr.{Instr}
use Rattle.dcc_machine.specs.Table.{instruction_at}
use Rattle.dcc_machine.specs.Machine.{State, word_in, stack_segment, physical, word_at_offset, with_word_at_offset}
use Rattle.dcc_machine.specs.Operations.{after_push, with_sp_raised}
use Rattle.dcc_machine.specs.Step.{code_bytes, step}
use Rattle.dcc_machine.specs.StateForm.{IsState}
use Rattle.dcc_prog.specs.Trail.{instruction_in}
use Rattle.dcc_machine.specs.Access.{written_by, found_accesses, step_accesses}
use Rattle.dcc_prog.specs.Clean.{Stack, foul_of, top_in}
use Rattle.dcc_prog.specs.Watch.{next_instruction}
use Rattle.dcc_machine.proofs.MemoryKept.{memory-kept}
use Rattle.dcc_machine.proofs.LocationKept.{word-taken}
use Rattle.dcc_prog.proofs.StackMarks.{head_or_rest, in_rest, at_head}
use Rattle.dcc_stack.specs.Accepted.{IsProgramOfFile}
use Rattle.dcc_stack.specs.Standing.{word_at, StackStands}
use Rattle.dcc_stack.specs.Apart.{DifferApart, CleanStepsWriteApart}

-- Words.

-- an offset of the stack segment, and the next one, lie in the data segment's 65,536 bytes
pub record IsStackWord (layout : Layout) (segment offset : ℕ) : Type 0 where
  pub stack_is : segment * 16 ≡ layout.ds * 16 + layout.delta
  pub low : layout.ds ≤ 0xF000
  pub inside : offset + layout.delta + 1 ≤ 65535

pub first-address :
    (layout : Layout) (segment offset : ℕ) → IsStackWord layout segment offset
    → physical segment offset ≡ layout.ds * 16 + (offset + layout.delta)
first-address layout segment offset is =
    let below : segment * 16 + offset < 1048576 = omega (arith, is.stack_is, is.low, is.inside) in
    mod-eq_of_lt below ∙ omega (arith, is.stack_is)

pub second-address :
    (layout : Layout) (segment offset : ℕ) → IsStackWord layout segment offset
    → physical segment ((offset + 1) % 65536) ≡ layout.ds * 16 + (offset + layout.delta) + 1
second-address layout segment offset is =
    let next : offset + 1 < 65536 = omega (arith, is.inside) in
    let below : segment * 16 + (offset + 1) < 1048576 = omega (arith, is.stack_is, is.low, is.inside) in
    ap (physical segment) (mod-eq_of_lt next) ∙ mod-eq_of_lt below ∙ omega (arith, is.stack_is)

-- a word of the stack is one of the data segment
pub word-read :
    (layout : Layout) (s : State) (offset : ℕ) → IsStackWord layout (stack_segment s) offset
    → word_at_offset s (stack_segment s) offset ≡ word_at layout s.memory (offset + layout.delta)
word-read layout s offset is =
    ap₂ (λ a b. slice_index s.memory a + 256 * slice_index s.memory b)
    (first-address layout (stack_segment s) offset is) (second-address layout (stack_segment s) offset is)

-- two bytes are stored side by side
bytes-stored :
    (memory : List ℕ) (at word : ℕ) → at + 1 < length memory
    → slice_index (slice_set (slice_set memory at (word % 256)) (at + 1) (word / 256)) at
    + 256 * slice_index (slice_set (slice_set memory at (word % 256)) (at + 1) (word / 256)) (at + 1)
    ≡ word
bytes-stored memory at word inside =
    let once = slice_set memory at (word % 256) in
    let before : at < length memory = omega (arith, inside) in
    let after : at + 1 < length once = omega (arith, inside, length-set memory at (word % 256)) in
    let apart : at ≢ at + 1 = λ e. absurd (omega (arith, e)) in
    let low : slice_index (slice_set once (at + 1) (word / 256)) at ≡ word % 256 =
    get_or-set_other once (at + 1) at (word / 256) 0 apart ∙ get_or-set_same memory at (word % 256) 0 before in
    let high : slice_index (slice_set once (at + 1) (word / 256)) (at + 1) ≡ word / 256 =
    get_or-set_same once (at + 1) (word / 256) 0 after in
    omega (arith, low, high)

-- a word that is stored in the stack is read there
word-stored :
    (layout : Layout) (s : State) (offset word : ℕ) → IsState s → IsStackWord layout (stack_segment s) offset
    → word_at layout (with_word_at_offset s (stack_segment s) offset word).memory (offset + layout.delta) ≡ word
word-stored layout s offset word form is =
    let at = layout.ds * 16 + (offset + layout.delta) in
    let inside : at + 1 < length s.memory = omega (arith, form.memory_size, is.low, is.inside) in
    ap₂ (λ a b.
    slice_index (slice_set (slice_set s.memory a (word % 256)) b (word / 256)) at
    + 256 * slice_index (slice_set (slice_set s.memory a (word % 256)) b (word / 256)) (at + 1))
    (first-address layout (stack_segment s) offset is) (second-address layout (stack_segment s) offset is)
    ∙ bytes-stored s.memory at word inside

-- SP after a push
pub pushed-sp : (word sp : ℕ) (s : State) → IsState s → sp + 2 ≡ word_in s Sp → word_in (after_push word s) Sp ≡ sp
pushed-sp word sp s form falls =
    let below = form.registers.words Sp in
    let low : sp < 65536 = omega (arith, falls, below) in
    word-taken s Sp Sp ((word_in s Sp + 65534) % 65536) form.registers.count refl ∙ omega (arith, falls, low)

-- a word that is pushed stands at SP after that
pub word-pushed :
    (layout : Layout) (s : State) (sp word : ℕ) → IsState s → sp + 2 ≡ word_in s Sp
    → IsStackWord layout (stack_segment s) sp → word_at layout (after_push word s).memory (sp + layout.delta) ≡ word
word-pushed layout s sp word form falls is =
    ap (λ n.
    word_at layout (with_word_at_offset (with_sp_raised 65534 s) (stack_segment s) n word).memory (sp + layout.delta))
    (pushed-sp word sp s form falls)
    ∙ word-stored layout s sp word form is

-- Steps.

contains-or_not : (xs : List ℕ) (x : ℕ) → Contains xs x ⊎ (¬ Contains xs x)
contains-or_not [] x = inr (λ has. let inside = has.1 in absurd (omega (arith, inside)))
contains-or_not (y ∷ ys) x = elim (cases_eq y x) [
  | inl same ↦ inl (at_head y x ys same)
  | inr other ↦ elim (contains-or_not ys x) [
    | inl later ↦ inl (in_rest y x ys later)
    | inr none ↦ inr (λ has. elim (head_or_rest y x ys has) [
      | inl same ↦ other same
      | inr later ↦ none later
    ])
  ]
]

accesses-are :
    (cpu : Cpu) (s : State) (instr : Instr) → is_over s.end ≡ false → next_instruction cpu s ≡ Some instr
    → step_accesses cpu s ≡ found_accesses (Some instr) s
accesses-are cpu s instr goes found =
    ap (λ b. if b then [] else found_accesses (instruction_at cpu s.ip (code_bytes s)) s) goes
    ∙ ap (λ o. found_accesses o s) found

-- a clean step changes memory where it may write alone
pub differs :
    (apart : CleanStepsWriteApart) (cpu : Cpu) (image : Image) (program : Program) (s : State) (stack : Stack)
    (instr : Instr) → IsProgramOfFile cpu image program → (stands : StackStands image program.layout s stack)
    → is_over s.end ≡ false → instruction_in image program.layout s.ip ≡ Some instr
    → next_instruction program.layout.cpu s ≡ Some instr → foul_of program stack s (Some instr) ≡ None
    → DifferApart image program.layout (stands.newest ∷ stands.callers) (top_in program.layout s) instr.op s.memory
    (step program.layout.cpu s).memory
differs apart cpu image program s stack instr of_file stands goes found fetched clean address =
    elim (contains-or_not (written_by (found_accesses (Some instr) s)) address) [
      | inl has ↦ inr (apart.writes cpu image program s stack instr of_file stands goes found clean address has)
      | inr none ↦ inl (memory-kept.step program.layout.cpu s stands.segments.state.registers address
          (subst (λ l. ¬ Contains (written_by l) address) (sym (accesses-are program.layout.cpu s instr goes fetched))
          none))
    ]
