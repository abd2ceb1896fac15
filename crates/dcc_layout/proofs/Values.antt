-- The values of a layout, in the terms of what the code keeps of a prelude.
use Rattle.std.proofs.Common.{◌≡◌, ℕ, ◌+◌, ◌-◌, ◌*◌, ◌<◌, true, false, List, [], min, refl, sym, ap, ◌∙◌, subst, arith}
use Rattle.std.specs.List.{list_any}
use Rattle.dcc_num.specs.declared.Reg.TheVariants.{Sp}
use Rattle.dcc_machine.specs.declared.cpu.Cpu.{Cpu}
use Rattle.dcc_machine.specs.declared.image.Image.{Image}
use Rattle.dcc_prog.specs.declared.procedure.Layout.{Layout}
use Rattle.dcc_machine.specs.declared.instr.Instr.{Instr}
use Rattle.dcc_machine.specs.MzImage.{IsLoaded}
use Rattle.dcc_machine.specs.Code.{code_of}
use Rattle.dcc_machine.specs.Machine.{word_in, stack_segment, data_segment, start_state}
use Rattle.dcc_prog.specs.Layout.{writes_ds, state_after, lowest_of_stack, IsLeftBy, IsSmall, HasLayout}
use Rattle.dcc_machine.proofs.MzImageLaws.{cs-loaded}
use Rattle.dcc_prog.proofs.PreludeSteps.{executed-data, state_after-is}
use Rattle.dcc_prog.proofs.LayoutLaws.{left-by}
use Rattle.dcc_layout.specs.declared.registers.Registers.{Registers}
use Rattle.dcc_layout.specs.declared.prelude.Prelude.{Prelude}
use Rattle.dcc_layout.specs.Registers.{state_of}
use Rattle.dcc_layout.specs.Prelude.{IsLeft}

-- the values of the layout are those of what is kept
pub record AreValues (image : Image) (left : Prelude) (layout : Layout) : Type 0 where
  pub regs : layout.regs ≡ left.registers.regs
  pub flags : layout.flags ≡ left.registers.flags
  pub ds : layout.ds ≡ data_segment (state_of left.registers)
  pub delta : data_segment (state_of left.registers) * 16 + layout.delta ≡ stack_segment (state_of left.registers) * 16
  pub lo : layout.lo ≡ lowest_of_stack image (data_segment (state_of left.registers))
  pub hi : layout.hi ≡ word_in (state_of left.registers) Sp + layout.delta
  pub start_ip : layout.start_ip ≡ left.end
  pub code_end : layout.code_end ≡ min ((data_segment (state_of left.registers) - image.cs) * 16) image.code_len

module _ (image : Image) (left : Prelude) (layout : Layout) (is : IsLeft layout.cpu image left) where
  regs-left : (state_after layout.cpu image is.prelude).regs ≡ left.registers.regs
  regs-left = ap (λ (r : Registers). r.regs) (sym is.registers)

  flags-left : (state_after layout.cpu image is.prelude).flags ≡ left.registers.flags
  flags-left = ap (λ (r : Registers). r.flags) (sym is.registers)

  segs-left : (state_after layout.cpu image is.prelude).segs ≡ left.registers.segs
  segs-left = ap (λ (r : Registers). r.segs) (sym is.registers)

  -- what a layout that holds has to have
  values-of_layout : HasLayout image layout → AreValues image left layout
  values-of_layout h =
      let by = left-by image is.prelude layout is.is_prelude h in
      let ds : layout.ds ≡ data_segment (state_of left.registers) =
      by.ds ∙ ap (λ (l : List ℕ). data_segment (state_of (record left.registers { segs = l }))) segs-left in
      let ss : stack_segment (state_after layout.cpu image is.prelude) ≡ stack_segment (state_of left.registers) =
      ap (λ (l : List ℕ). stack_segment (state_of (record left.registers { segs = l }))) segs-left in
      let sp : word_in (state_after layout.cpu image is.prelude) Sp ≡ word_in (state_of left.registers) Sp =
      ap (λ (l : List ℕ). word_in (state_of (record left.registers { regs = l })) Sp) regs-left in
      record {
        regs = by.regs ∙ regs-left;
        flags = by.flags ∙ flags-left;
        ds = ds;
        delta = ap (λ n. n * 16 + layout.delta) (sym ds) ∙ by.delta ∙ ap (λ n. n * 16) ss;
        lo = by.lo ∙ ap (lowest_of_stack image) ds;
        hi = by.hi ∙ ap (λ n. n + layout.delta) sp;
        start_ip = by.start_ip ∙ sym is.end;
        code_end = by.code_end ∙ ap (λ n. min ((n - image.cs) * 16) image.code_len) ds;
      }

  -- what suffices for a layout that holds
  left-by_values : AreValues image left layout → IsLeftBy image is.prelude layout
  left-by_values v =
      let ds : layout.ds ≡ data_segment (state_after layout.cpu image is.prelude) =
      v.ds ∙ ap (λ (l : List ℕ). data_segment (state_of (record left.registers { segs = l }))) (sym segs-left) in
      let ss : stack_segment (state_of left.registers) ≡ stack_segment (state_after layout.cpu image is.prelude) =
      ap (λ (l : List ℕ). stack_segment (state_of (record left.registers { segs = l }))) (sym segs-left) in
      let sp : word_in (state_of left.registers) Sp ≡ word_in (state_after layout.cpu image is.prelude) Sp =
      ap (λ (l : List ℕ). word_in (state_of (record left.registers { regs = l })) Sp) (sym regs-left) in
      record {
        regs = v.regs ∙ sym regs-left;
        flags = v.flags ∙ sym flags-left;
        ds = ds;
        delta = ap (λ n. n * 16 + layout.delta) v.ds ∙ v.delta ∙ ap (λ n. n * 16) ss;
        lo = v.lo ∙ ap (lowest_of_stack image) (sym v.ds);
        hi = v.hi ∙ ap (λ n. n + layout.delta) sp;
        start_ip = v.start_ip ∙ is.end;
        code_end = v.code_end ∙ ap (λ n. min ((n - image.cs) * 16) image.code_len) (sym v.ds);
      }

  -- a prelude that doesn't write DS leaves it below the code
  data-kept : IsLoaded image → list_any (λ (i : Instr). writes_ds i.op) is.prelude ≡ false → data_segment (state_after layout.cpu image is.prelude) < image.cs
  data-kept loaded none =
      let run = is.is_prelude.run in
      let same = executed-data layout.cpu (code_of image) image.ip is.prelude (start_state image []) run none in
      let written = ap data_segment (state_after-is layout.cpu image is.prelude loaded run) in
      omega (arith, cs-loaded image loaded, same, written)

  pub layout-of_values : IsLoaded image → AreValues image left layout → IsSmall image layout → HasLayout image layout
  layout-of_values loaded v small =
      let by = left-by_values v in
      elim (list_any (λ (i : Instr). writes_ds i.op) is.prelude) as (λ b. list_any (λ (i : Instr). writes_ds i.op) is.prelude ≡ b → HasLayout image layout) [
        | true ↦ λ t. record { prelude = is.prelude; is_prelude = is.is_prelude; ds_written = t; left = by; small = small }
        | false ↦ λ t. absurd (let low = data-kept loaded t in omega (arith, small.code_below, by.ds, low))
      ] refl

-- what each layout for the processor has to have
pub values-of :
    (cpu : Cpu) (image : Image) (left : Prelude) (layout : Layout) → IsLeft cpu image left → layout.cpu ≡ cpu
    → HasLayout image layout → AreValues image left layout
values-of cpu image left layout is runs_on h =
    values-of_layout image left layout (subst (λ c. IsLeft c image left) (sym runs_on) is) h
