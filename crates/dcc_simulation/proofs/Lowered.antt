-- The word below SP, where an operation stores one there and SP falls to it, and then so many bytes more.
use Rattle.std.proofs.Common.{◌≡◌, ◌≤◌, ◌<◌, ℕ, List, ◌+◌, ◌-◌, ◌*◌, ◌%◌, false, refl, ap, ◌∙◌, subst, arith}
use Rattle.std.specs.Prelude.{pos, ◌+ℤ◌, ◌-ℤ◌, int_lt}
use Rattle.std.proofs.lemmas.Int.{ints}
use Rattle.std.proofs.Math.Nat.{mod-eq_of_lt}
use Rattle.dcc_num.specs.declared.Width.TheVariants.{Word as word_width}
use Rattle.dcc_num.specs.declared.Reg.TheVariants.{Sp}
use Rattle.dcc_machine.specs.declared.instr.Instr.{Instr}
use Rattle.dcc_machine.specs.Machine.{State as Machine, word_in, with_word_in, stack_segment, physical}
use Rattle.dcc_machine.specs.Operations.{after_push}
use Rattle.dcc_machine.specs.Successors.{next_of}
use Rattle.dcc_machine.specs.Access.{stored}
use Rattle.dcc_prog.specs.Clean.{Stack, top_in, is_low, sp_after}
use Rattle.dcc_machine.proofs.LocationKept.{or-none}
use Rattle.dcc_machine.proofs.StateKept.{same-state}
use Rattle.dcc_stack.specs.SlotLaws.{stores_at}
use Rattle.dcc_stack.proofs.ApartAccesses.{clean-step}
use Rattle.dcc_stack.proofs.ApartFrames.{top-below}
use Rattle.dcc_stack.proofs.ApartWrites.{in-data}
use Rattle.dcc_simulation.specs.Coupled.{Setting}
use Rattle.dcc_simulation.specs.Places.{bytes_from, offsets_of}
use Rattle.dcc_simulation.specs.Laws.{IsCleanInstruction}
use Rattle.dcc_simulation.proofs.StoredWords.{pushed-is}

-- the memory where a word is stored there
abbrev pub stored_below : Setting → Machine → ℕ → List ℕ
stored_below e s word =
    stored
    (stores_at (λ n. e.program.layout.ds * 16 + n)
    (offsets_of word_width (λ index. word_in s Sp - 2 + e.program.layout.delta + index))
    (bytes_from (word_in s Sp - 2 + e.program.layout.delta) word)) s.memory

module _ (e : Setting) (s : Machine) (stack : Stack) (instr : Instr) (is : IsCleanInstruction e s stack instr)
    (more : ℕ) (lowers : sp_after instr.op s ≡ (pos (word_in s Sp) -ℤ pos (2 + more))) where
  open e.program use {layout}

  abbrev sp : ℕ
  sp = word_in s Sp - 2

  abbrev first : ℕ
  first = word_in s Sp - 2 + e.program.layout.delta

  abbrev here : Machine
  here = record s { ip = next_of s.ip instr }

  bounds : (int_lt (pos (word_in s Sp) -ℤ pos (2 + more)) (pos 0) ≡ false)
      × (int_lt ((pos (word_in s Sp) -ℤ pos (2 + more)) +ℤ pos layout.delta) (pos layout.lo) ≡ false)
  bounds =
      or-none (int_lt (pos (word_in s Sp) -ℤ pos (2 + more)) (pos 0))
      (int_lt ((pos (word_in s Sp) -ℤ pos (2 + more)) +ℤ pos layout.delta) (pos layout.lo))
      (subst (λ z. is_low layout z ≡ false) lowers (clean-step e.program stack s instr is.clean).low)

  pub word-falls : sp + 2 ≡ word_in s Sp
  word-falls = let room = bounds.0 in omega (arith, ints, room)

  pub word-room : more ≤ sp
  word-room = let room = bounds.0 in omega (arith, ints, room)

  pub word-above : layout.lo ≤ sp + layout.delta
  word-above = let above = bounds.1 in let down = word-falls in omega (arith, ints, above, down)

  pub high-top : top_in layout s ≤ layout.hi
  high-top = top-below e.image layout s.memory is.stands.stand

  sp-small : word_in s Sp < 65536
  sp-small = is.stands.segments.state.registers.words Sp

  pub word-lies : (index : ℕ) → index < 2
      → physical (stack_segment s) ((sp + index) % 65536) ≡ layout.ds * 16 + (first + index)
  word-lies index less =
      let high = high-top in
      let down = word-falls in
      let fits = is.of_file.is_program.layout.small.hi_fits in
      let same : sp + index + layout.delta ≡ first + index = omega arith in
      ap (physical (stack_segment s)) (mod-eq_of_lt (omega (arith, less, down, high, fits)))
      ∙ in-data layout.ds (stack_segment s) layout.delta (sp + index) is.stands.segments.stack_is
      is.of_file.is_program.layout.small.ds_fits (omega (arith, less, down, high, fits))
      ∙ ap (λ n. layout.ds * 16 + n) same

  pub word-wraps : (word_in s Sp + 65534) % 65536 ≡ sp
  word-wraps = let down = word-falls in let small = sp-small in omega (arith, down, small)

  pub word-stored : (v : ℕ)
      → after_push v here ≡ record (with_word_in here Sp (word_in s Sp - 2)) { memory = stored_below e s v }
  word-stored v =
      pushed-is here v sp (layout.ds * 16) first (same-state s here refl refl refl refl is.stands.segments.state)
      word-wraps
      (ap (physical (stack_segment s)) (zeroth sp (let small = sp-small in let down = word-falls in omega (
        arith,
        small,
        down,
      )))
      ∙ word-lies 0 (omega arith)) (word-lies 1 (omega arith))
    where
      zeroth : (n : ℕ) → n < 65536 → n ≡ (n + 0) % 65536
      zeroth n less = omega (arith, less)
