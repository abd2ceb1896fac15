-- Runs along trails follow them: each step but those of CALL and RET goes to a successor.
use Rattle.std.proofs.Common.{◌≡◌, ℕ, ◌+◌, ◌*◌, ◌/◌, ◌%◌, ◌≤◌, inl, inr, Bool, true, false, List, ◌∷◌, length, Option, Some, None, refl, sym, ap, ap₂, ◌∙◌, subst, arith, length-take}
use Rattle.std.proofs.lemmas.Bool.{cases_lt}
use Rattle.std.proofs.lemmas.List.FromFn.{length-map-range_with_len, get_or-map-range_with_len}
use Rattle.std.specs.Prelude.{Contains, slice_index, ◌==◌}
use Rattle.dcc_run.specs.End.{is_over}
use Rattle.dcc_num.specs.declared.Reg.{Reg}
use Rattle.dcc_num.specs.declared.Reg.TheVariants.{Ax}
use Rattle.dcc_num.specs.declared.Half.TheVariants.{High}
use Rattle.dcc_num.specs.declared.dos.TheConstants.{EXIT}
use Rattle.dcc_machine.specs.declared.cpu.Cpu.{Cpu}
use Rattle.dcc_machine.specs.declared.image.Image.{Image}
use Rattle.dcc_prog.specs.declared.procedure.Layout.{Layout}
use Rattle.dcc_prog.specs.declared.frame.Program.{Program}
use Rattle.dcc_prog.specs.declared.refusal.ConstructKind.TheVariants.{IndirectJump}
use Rattle.dcc_prog.specs.declared.refusal.LimitName.TheVariants.{Entries}
use Rattle.dcc_machine.specs.declared.instr.Op.TheVariants.{Table, Call, Ret}
use Rattle.dcc_machine.specs.declared.instr.Instr.{Instr}
use Rattle.dcc_machine.specs.Machine.{State, word_in, code_segment, byte_in, word_at_offset}
use Rattle.dcc_machine.specs.Dos.{dos_step}
use Rattle.dcc_machine.specs.Step.{op_step, step}
use Rattle.dcc_machine.specs.Code.{code_of, HoldsCode}
use Rattle.dcc_machine.specs.Successors.{next_of, is_exit, op_successors}
use Rattle.dcc_prog.specs.Trail.{code_within, instruction_in, StandsAt, known_ah, table_number, table_words, table_targets, targets_of, word_in_segment, instr_successors, successors, IsTrail, IsEntry}
use Rattle.dcc_prog.specs.Construct.{HasNumber, no_number, no_table, formless}
use Rattle.dcc_prog.specs.Limit.{entries}
use Rattle.dcc_prog.specs.RunLaws.{HasPassed}
use Rattle.dcc_machine.specs.LocationLaws.{half_in}
use Rattle.dcc_machine.proofs.FetchLaws.{image-placed, length-code_of}
use Rattle.dcc_prog.proofs.PassedRuns.{ah-held}
use Rattle.dcc_stack.specs.Accepted.{IsProgramOfFile}
use Rattle.dcc_stack.specs.Tables.{RunsFollowTrails}
use Rattle.dcc_prog.proofs.PassedRuns.{passed-state}
use Rattle.dcc_stack.proofs.TableSteps.{step-of}
use Rattle.dcc_stack.proofs.TableNumbers.{twice-held}
use Rattle.dcc_stack.proofs.TableGoes.{exit-over, op-goes}

module _ (cpu : Cpu) (image : Image) (program : Program) (is : IsProgramOfFile cpu image program) where
  abbrev layout : Layout
  layout = program.layout

  -- The table of a jump in an accepted program.

  -- N of a trail, and the table lies in the code
  record HasTable (before : List ℕ) (register : Reg) (table : ℕ) : Type 0 where
    number : ℕ
    is_number : table_number image layout register before ≡ Some number
    inside : table + 2 * (number + 1) ≤ length (code_within image layout)

  has-table : (entry at : ℕ) (before : List ℕ) (register : Reg) (table : ℕ) → IsEntry image layout entry
      → IsTrail image layout entry (at ∷ before) → StandsAt image layout at (Table register table)
      → HasTable before register table
  has-table entry at before register table reached trail stands =
      by (table_number image layout register before) refl
    where
      number-of : (o : Option ℕ) → table_number image layout register before ≡ o → HasNumber image layout entry at o
      number-of o told = record {
        before = before;
        trail = trail;
        register = register;
        table = table;
        stands = stands;
        number_is = told;
      }

      by : (o : Option ℕ) → table_number image layout register before ≡ o → HasTable before register table
      by None told =
          absurd (is.is_program.procs.no_construct IndirectJump at (record {
            entry = entry;
            is_entry = reached;
            node = record { before = before; trail = trail };
            stands = formless (no_number (number-of None told));
          }))
      by (Some number) told = elim (cases_lt number 256) [
        | inr many ↦ absurd (is.is_program.procs.no_limit Entries (number + 1)
            (entries reached (number-of (Some number) told) many))
        | inl few ↦ elim (cases_lt (length (code_within image layout)) (table + 2 * (number + 1))) [
          | inl short ↦ absurd (is.is_program.procs.no_construct IndirectJump at (record {
            entry = entry;
            is_entry = reached;
            node = record { before = before; trail = trail };
            stands = formless (no_table (number-of (Some number) told) (omega (arith, few)) (record {
              register = register;
              table = table;
              stands = stands;
              outside = short;
            }));
          }))
          | inr inside ↦ record { number = number; is_number = told; inside = inside }
        ]
      ]

  -- The words of the table.

  -- how long the code is
  code-short : (length (code_within image layout) ≤ layout.code_end) × (length (code_within image layout) ≤ 65536)
  code-short =
      let placed = image-placed is.loaded.file image is.loaded.is_image in
      let taken = length-take layout.code_end (code_of image) in
      let all = length-code_of image placed in
      let short = placed.short in
      (omega (arith, taken), omega (arith, taken, all, short))

  -- a word in memory is that of the code
  word-there : (s : State) (at : ℕ) → HoldsCode image layout.code_end s → at + 2 ≤ length (code_within image layout)
      → word_at_offset s (code_segment s) (at % 65536) ≡ word_in_segment image at
  word-there s at holds inside =
      let bounds = code-short in
      let low : at % 65536 ≡ at = omega (arith, inside, bounds.1) in
      let second : (at + 1) % 65536 ≡ at + 1 = omega (arith, inside, bounds.1) in
      ap (λ segment. word_at_offset s segment (at % 65536)) holds.segment
      ∙ ap (λ n. byte_in s image.cs n + 256 * byte_in s image.cs ((n + 1) % 65536)) low
      ∙ ap (λ n. byte_in s image.cs at + 256 * byte_in s image.cs n) second
      ∙ ap₂ (λ a b. a + 256 * b) (holds.bytes at (omega (arith, inside, bounds.0)))
      (holds.bytes (at + 1) (omega (arith, inside, bounds.0)))
      ∙ sym (ap₂ (λ n m. slice_index (code_of image) n + 256 * slice_index (code_of image) m) low second)

  word-listed : (offset number k word : ℕ) → k ≤ number → word ≡ word_in_segment image (offset + 2 * k)
      → Contains (table_words image offset (number + 1)) word
  word-listed offset number k word le e =
      let words = λ (n : ℕ). word_in_segment image (offset + 2 * n) in (
        k,
        (let count = length-map-range_with_len words 0 (number + 1) in omega (arith, le, count)),
        get_or-map-range_with_len words 0 (number + 1) k k word (omega (arith, le)) (omega arith) ∙ sym e,
      )

  -- the jump goes to one of them
  jump-listed : (entry at : ℕ) (before : List ℕ) (register : Reg) (table : ℕ) (s : State) → IsEntry image layout entry
      → IsTrail image layout entry (at ∷ before) → StandsAt image layout at (Table register table)
      → HasPassed image layout before s → HoldsCode image layout.code_end s
      → Contains (table_targets image table (table_number image layout register before))
      (word_at_offset s (code_segment s) ((word_in s register + table) % 65536))
  jump-listed entry at before register table s reached trail stands passed holds =
      let has = has-table entry at before register table reached trail stands in
      let held = twice-held image layout is.loaded register has.number before s passed has.is_number in
      let place : word_in s register + table ≡ table + 2 * held.number = (let e = held.is in omega (arith, e)) in
      let there = word-there s (table + 2 * held.number) holds (omega (arith, has.inside, held.fits)) in
      subst (λ o. Contains (table_targets image table o)
      (word_at_offset s (code_segment s) ((word_in s register + table) % 65536)))
      (sym has.is_number)
      (word-listed table has.number held.number _ held.fits
      (ap (λ n. word_at_offset s (code_segment s) (n % 65536)) place ∙ there))

  -- INT 21h.

  -- where the run goes on, the trail doesn't tell that AH holds 4Ch
  no-exit : (at : ℕ) (before : List ℕ) (s t : State) → HasPassed image layout before s → t.regs ≡ s.regs
      → is_over (dos_step (word_in t Ax / 256) at t).end ≡ false → is_exit (known_ah image layout before) ≡ false
  no-exit at before s t passed regs running = by (known_ah image layout before) refl
    where
      exit : (number : ℕ) → word_in t Ax / 256 ≡ number → (b : Bool) → (number == EXIT) ≡ b → (number == EXIT) ≡ false
      exit number same false e = e
      exit number same true e =
          let over = exit-over (word_in t Ax / 256) at t (ap (λ n. n == EXIT) same ∙ e) in
          cc

      by : (o : Option ℕ) → known_ah image layout before ≡ o → is_exit o ≡ false
      by None told = refl
      by (Some number) told =
          let held : half_in s Ax High ≡ number =
          ah-held is.loaded.file image layout before s number is.loaded.is_image passed told in
          let same : word_in t Ax / 256 ≡ number = ap (λ l. slice_index l 0 / 256) regs ∙ held in
          exit number same (number == EXIT) refl

  -- Steps.

  goes-on : (entry at : ℕ) (before : List ℕ) (s : State) (instr : Instr) → IsEntry image layout entry
      → IsTrail image layout entry (at ∷ before) → HasPassed image layout before s → s.ip ≡ at → is_over s.end ≡ false
      → HoldsCode image layout.code_end s → instruction_in image layout at ≡ Some instr
      → ((target : ℕ) → ¬ (instr.op ≡ Call target)) → ((count : ℕ) → ¬ (instr.op ≡ Ret count))
      → is_over (step layout.cpu s).end ≡ false
      → Contains (successors image layout (at ∷ before)) (step layout.cpu s).ip
  goes-on entry at before s instr reached trail passed here goes holds found no_call no_ret running =
      let steps = step-of image layout is.loaded at s instr (passed-state image layout _ _ passed) here goes
      holds found in
      let t = record s { ip = next_of at instr } in
      let ah = known_ah image layout before in
      let targets = targets_of image layout instr.op before in
      let going : is_over (op_step layout.cpu instr.op at t).end ≡ false =
      ap (λ (u : State). is_over u.end) (sym steps.is) ∙ running in
      let listed = op-goes layout.cpu instr.op at t ah targets (record {
        running = going;
        no_call = no_call;
        no_ret = no_ret;
        no_exit = λ e. no-exit at before s t passed refl
            (subst (λ op. is_over (op_step layout.cpu op at t).end ≡ false) e going);
        table = λ r offset e.
            subst (λ op. Contains (targets_of image layout op before) (op_step layout.cpu op at t).ip) (sym e)
            (jump-listed entry at before r offset s reached trail (instr, found, e) passed holds);
      }) in
      subst (λ f. Contains (instr_successors image layout at before f) (step layout.cpu s).ip) (sym found)
      (subst (λ (u : State). Contains (op_successors instr.op (next_of at instr) ah targets) u.ip) (sym steps.is)
      listed)

pub runs-follow : RunsFollowTrails
runs-follow = record {
  twice = λ cpu image program entry at before s q greatest is trail passed told.
      twice-held image program.layout is.loaded q greatest before s passed told;
  goes_on = λ cpu image program entry at before s instr height is here passed place goes holds found no_call no_ret running.
      goes-on cpu image program is entry at before s instr here.is_entry here.trail passed place goes holds found
      no_call no_ret running;
}
