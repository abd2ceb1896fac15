-- Bytes of the data segment that a clean instruction reads otherwise than by an operand: the inner run has them.
use Rattle.std.proofs.Common.{◌≡◌, ◌≤◌, ◌<◌, ℕ, ◌+◌, ◌*◌, ◌%◌, Bool, true, All, Contains, Some, sym, ap, ◌∙◌, arith, refl}
use Rattle.std.specs.Prelude.{slice_index}
use Rattle.std.proofs.Math.Nat.{mod-eq_of_lt}
use Rattle.std.proofs.lemmas.List.Elements.{All-contains}
use Rattle.std.proofs.lemmas.List.FromFn.{length-map-range_with_len, get_or-map-range_with_len}
use Rattle.dcc_machine.specs.declared.instr.Instr.{Instr}
use Rattle.dcc_machine.specs.Machine.{State as Machine, physical, data_segment}
use Rattle.dcc_machine.specs.Access.{Access, other_read, address_in, addresses_of, found_accesses}
use Rattle.dcc_prog.specs.Clean.{Stack, stack_offset, is_other, is_reading, is_exposed_byte, is_marked, top_in}
use Rattle.dcc_stack.proofs.ApartAccesses.{Pass, IsCleanStep, clean-step}
use Rattle.dcc_ir.specs.Run.{State}
use Rattle.dcc_simulation.specs.Coupled.{Setting}
use Rattle.dcc_simulation.specs.Laws.{IsCleanInstruction, Within}
use Rattle.dcc_simulation.proofs.Coupling.{carried_laws}
use Rattle.dcc_simulation.proofs.OperandBytes.{stack-offset, exposed-in}

-- an access has the address of each of its bytes
address-among : (access : Access) (index : ℕ) → index < access.size
    → Contains (addresses_of access) (address_in access index)
address-among access index less = (
  index,
  (let count = length-map-range_with_len (address_in access) 0 access.size in omega (arith, less, count)),
  get_or-map-range_with_len (address_in access) 0 access.size index index (address_in access index) less (omega arith),
)

module _ (e : Setting) (s : Machine) (stack : Stack) (instr : Instr) (is : IsCleanInstruction e s stack instr)
    (offset size : ℕ) (has : Contains (found_accesses (Some instr) s) (other_read (data_segment s) offset size)) where
  open e.program use {layout}

  abbrev access : Access
  access = other_read (data_segment s) offset size

  clean : IsCleanStep e.program stack s instr
  clean = clean-step e.program stack s instr is.clean

  ds_fits : layout.ds ≤ 0xF000
  ds_fits = is.of_file.is_program.layout.small.ds_fits

  -- where a byte of it lies
  address-is : (index : ℕ)
      → physical (data_segment s) ((offset + index) % 65536) ≡ layout.ds * 16 + (offset + index) % 65536
  address-is index =
      let low : (offset + index) % 65536 < 65536 = omega arith in
      ap (λ g. physical g ((offset + index) % 65536)) is.stands.segments.data_is
      ∙ mod-eq_of_lt (omega (arith, ds_fits, low))

  passes : (kind : Access → Bool) (test : ℕ → Bool) → All (Pass layout kind test) (found_accesses (Some instr) s)
      → kind access ≡ true → (index : ℕ) → index < size → layout.lo ≤ (offset + index) % 65536
      → (offset + index) % 65536 < layout.hi
      → test ((offset + index) % 65536) ≡ true
  passes kind test all so index less low high =
      let each = All-contains (Pass layout kind test) (found_accesses (Some instr) s) access all has so in
      All-contains (λ n. (o : ℕ) → stack_offset layout n ≡ Some o → test o ≡ true) (addresses_of access)
      (address_in access index) each (address-among access index less) ((offset + index) % 65536)
      (ap (stack_offset layout) (address-is index) ∙ stack-offset layout ((offset + index) % 65536) low high)

  -- the inner run has it
  pub other-read : (t : State) → Within is stack.written s t → (index : ℕ) → index < size
      → slice_index t.memory ((offset + index) % 65536)
      ≡ slice_index s.memory (physical (data_segment s) ((offset + index) % 65536))
  other-read t c index less =
      let at : ℕ = (offset + index) % 65536 in
      carried_laws.reads_memory at c.carried (omega arith) (λ low high.
      let marked = passes is_reading (is_marked stack.written) clean.told refl index less low high in (
        is.stands.written at marked,
        exposed-in e s stack instr is t c.waiting at
            (passes is_other (is_exposed_byte e.program (top_in layout s) stack.frames) clean.shown refl index less low
            high),
        marked,
      ))
      ∙ sym (ap (slice_index s.memory) (address-is index))
