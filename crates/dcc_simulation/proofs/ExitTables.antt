-- A jump through a table goes to the successor whose number the register holds twice.
use Rattle.std.proofs.Common.{◌≡◌, ℕ, ◌+◌, ◌*◌, ◌/◌, ◌%◌, ◌≤◌, inl, inr, List, ◌∷◌, length, Some, sym, ap, ap₂, ◌∙◌, arith, length-take}
use Rattle.std.proofs.lemmas.Bool.{cases_lt}
use Rattle.std.proofs.lemmas.List.FromFn.{length-map-range_with_len, get_or-map-range_with_len}
use Rattle.std.proofs.lemmas.Option.{slice_get-get_or}
use Rattle.std.specs.Prelude.{pos, slice_get, slice_index}
use Rattle.dcc_num.specs.declared.Reg.{Reg}
use Rattle.dcc_machine.specs.declared.cpu.Cpu.{Cpu}
use Rattle.dcc_machine.specs.declared.image.Image.{Image}
use Rattle.dcc_prog.specs.declared.frame.Program.{Program}
use Rattle.dcc_prog.specs.declared.procedure.Layout.{Layout}
use Rattle.dcc_prog.specs.declared.refusal.ConstructKind.TheVariants.{IndirectJump}
use Rattle.dcc_prog.specs.declared.refusal.LimitName.TheVariants.{Entries}
use Rattle.dcc_machine.specs.declared.instr.Op.TheVariants.{Table}
use Rattle.dcc_machine.specs.declared.instr.Instr.{Instr}
use Rattle.dcc_machine.specs.Machine.{State as Machine, word_in, code_segment, byte_in, word_at_offset}
use Rattle.dcc_machine.specs.Step.{op_step}
use Rattle.dcc_machine.specs.Code.{code_of, HoldsCode}
use Rattle.dcc_machine.specs.Successors.{next_of, op_successors}
use Rattle.dcc_prog.specs.Trail.{code_within, instruction_in, StandsAt, table_number, known_ah, table_words, table_targets, targets_of, word_in_segment, instr_successors, successors}
use Rattle.dcc_prog.specs.Construct.{HasNumber, no_table, formless}
use Rattle.dcc_prog.specs.Limit.{entries}
use Rattle.dcc_prog.specs.RunLaws.{HasPassed}
use Rattle.dcc_machine.proofs.FetchLaws.{image-placed, length-code_of}
use Rattle.dcc_stack.specs.Accepted.{IsAt, IsProgramOfFile}
use Rattle.dcc_stack.specs.Tables.{HoldsTwice}
use Rattle.dcc_stack.proofs.ApartWrites.{same-instruction}
use Rattle.dcc_stack.proofs.FormLaws.{in-form}
use Rattle.dcc_stack.proofs.TableRuns.{runs-follow}

module _ (cpu : Cpu) (image : Image) (program : Program) (of_file : IsProgramOfFile cpu image program)
    (entry at : ℕ) (before : List ℕ) (height : ℕ) (is_at : IsAt image program.layout entry at before (pos height))
    (s : Machine) (passed : HasPassed image program.layout before s)
    (holds : HoldsCode image program.layout.code_end s) (instr : Instr)
    (found : instruction_in image program.layout at ≡ Some instr) (r : Reg) (offset : ℕ)
    (op_is : instr.op ≡ Table r offset) where
  abbrev layout : Layout
  layout = program.layout

  stands : StandsAt image layout at (Table r offset)
  stands = (instr, found, op_is)

  -- the trail tells the greatest number
  greatest : (number : ℕ) × (table_number image layout r before ≡ Some number)
  greatest =
      let node = in-form.nodes cpu image program entry at before height of_file is_at in
      let same = same-instruction (instruction_in image layout at) node.instr instr node.stands found in
      node.table r offset (ap (λ (i : Instr). i.op) same ∙ op_is)

  numbered : HasNumber image layout entry at (Some greatest.0)
  numbered = record {
    before = before;
    trail = is_at.trail;
    register = r;
    table = offset;
    stands = stands;
    number_is = greatest.1;
  }

  -- the table lies in the code
  inside : offset + 2 * (greatest.0 + 1) ≤ length (code_within image layout)
  inside = elim (cases_lt greatest.0 256) [
    | inr many ↦ absurd (of_file.is_program.procs.no_limit Entries (greatest.0 + 1)
        (entries is_at.is_entry numbered many))
    | inl few ↦ elim (cases_lt (length (code_within image layout)) (offset + 2 * (greatest.0 + 1))) [
      | inl short ↦ absurd (of_file.is_program.procs.no_construct IndirectJump at (record {
        entry = entry;
        is_entry = is_at.is_entry;
        node = record { before = before; trail = is_at.trail };
        stands = formless (no_table numbered (omega (arith, few))
            (record { register = r; table = offset; stands = stands; outside = short }));
      }))
      | inr all ↦ all
    ]
  ]

  -- the machine's word there is that of the image
  word-there : (k : ℕ) → k ≤ greatest.0
      → word_at_offset s (code_segment s) ((2 * k + offset) % 65536) ≡ word_in_segment image (offset + 2 * k)
  word-there k le =
      let place : ℕ = offset + 2 * k in
      let placed = image-placed of_file.loaded.file image of_file.loaded.is_image in
      let taken = length-take layout.code_end (code_of image) in
      let all = length-code_of image placed in
      let short = placed.short in
      let end : length (code_within image layout) ≤ layout.code_end = omega (arith, taken) in
      let few : length (code_within image layout) ≤ 65536 = omega (arith, taken, all, short) in
      let fits = inside in
      let first : (2 * k + offset) % 65536 ≡ place = omega (arith, le, few, fits) in
      let low : place % 65536 ≡ place = omega (arith, le, few, fits) in
      let second : (place + 1) % 65536 ≡ place + 1 = omega (arith, le, few, fits) in
      ap (λ segment. word_at_offset s segment ((2 * k + offset) % 65536)) holds.segment
      ∙ ap (λ n. byte_in s image.cs n + 256 * byte_in s image.cs ((n + 1) % 65536)) first
      ∙ ap (λ n. byte_in s image.cs place + 256 * byte_in s image.cs n) second
      ∙ ap₂ (λ a b. a + 256 * b) (holds.bytes place (omega (arith, le, end, fits)))
      (holds.bytes (place + 1) (omega (arith, le, end, fits)))
      ∙ sym (ap₂ (λ n m. slice_index (code_of image) n + 256 * slice_index (code_of image) m) low second)

  word-listed : (k : ℕ) → k ≤ greatest.0
      → slice_get (table_words image offset (greatest.0 + 1)) k ≡ Some (word_in_segment image (offset + 2 * k))
  word-listed k le =
      let words = λ (n : ℕ). word_in_segment image (offset + 2 * n) in
      let count = length-map-range_with_len words 0 (greatest.0 + 1) in
      slice_get-get_or (table_words image offset (greatest.0 + 1)) k 0 (omega (arith, le, count))
      ∙ ap Some (get_or-map-range_with_len words 0 (greatest.0 + 1) k k 0 (omega (arith, le)) (omega arith))

  successors-are : successors image layout (at ∷ before) ≡ table_words image offset (greatest.0 + 1)
  successors-are =
      ap (instr_successors image layout at before) found
      ∙ ap (λ op. op_successors op (next_of at instr) (known_ah image layout before)
      (targets_of image layout op before)) op_is
      ∙ ap (table_targets image offset) greatest.1

  -- the machine goes to the successor whose number is half the register
  pub table-goes :
      slice_get (successors image layout (at ∷ before)) (word_in s r / 2)
      ≡ Some (op_step layout.cpu (Table r offset) at (record s { ip = next_of at instr })).ip
  table-goes =
      let held : HoldsTwice s r greatest.0 =
      runs-follow.twice cpu image program entry at before s r greatest.0 of_file is_at.trail passed greatest.1 in
      let twice = held.is in
      let half : word_in s r / 2 ≡ held.number = omega (arith, twice) in
      ap₂ slice_get successors-are half
      ∙ word-listed held.number held.fits
      ∙ ap Some (sym (ap (λ n. word_at_offset s (code_segment s) ((n + offset) % 65536)) twice
      ∙ word-there held.number held.fits))
