use Rattle.std.proofs.Common.{◌≡◌, get_or, ◌<◌, inl, inr, sym, ◌∙◌, refl, arith}
use Rattle.std.proofs.lemmas.Result.{OkIff-decides}
use Rattle.dcc_num.specs.declared.Reg.TheVariants.{Sp}
use Rattle.dcc_machine.specs.Machine.{word_in, stack_segment, data_segment}
use Rattle.dcc_layout.specs.Registers.{state_of}
use Rattle.dcc_machine.proofs.MzImageLaws.{length-loaded, code_len-loaded}
use Rattle.dcc_layout.proofs.Casts.{same-number}
use Rattle.dcc_layout.proofs.Values.{values-of, layout-of_values}
use Rattle.dcc_layout.proofs.segments.layout_after.Goals as goal
use Rattle.dcc_layout.proofs.segments.layout_after.Goals.{then-lo-hi-via-then-lo-hi, then-lo-hi-via-else-lo-hi+then-from-code_end}

pub returns-then-ds-image-clause-none : goal.returns-then-ds-image-clause-none
returns-then-ds-image-clause-none c e layout runs_on h =
    let v = values-of c.args.cpu c.args.image.now c.args.prelude.now layout c.requires.left runs_on h in
    elim c.then-ds-image.either [
      | inl low ↦ absurd (omega (arith, v.ds, h.small.code_below, low))
      | inr high ↦ absurd (omega (arith, v.ds, h.small.ds_fits, high.1))
    ]

pub returns-in_err-checked_sub-clause-none : goal.returns-in_err-checked_sub-clause-none
returns-in_err-checked_sub-clause-none c e layout runs_on h =
    let v = values-of c.args.cpu c.args.image.now c.args.prelude.now layout c.requires.left runs_on h in
    absurd (c.in_err-checked_sub.ensures (omega (arith, v.delta)))

pub returns-in_err-delta-clause-none : goal.returns-in_err-delta-clause-none
returns-in_err-delta-clause-none c e layout runs_on h =
    let v = values-of c.args.cpu c.args.image.now c.args.prelude.now layout c.requires.left runs_on h in
    absurd (c.in_err-delta.ensures (omega (arith, v.delta, h.small.delta_fits)))

pub returns-in_err-hi-clause-none : goal.returns-in_err-hi-clause-none
returns-in_err-hi-clause-none c e layout runs_on h =
    let v = values-of c.args.cpu c.args.image.now c.args.prelude.now layout c.requires.left runs_on h in
    let registers = c.args.prelude.now.registers in
    let sp : get_or registers.regs 4 0 ≡ word_in (state_of registers) Sp = refl in
    let ss : get_or registers.segs 2 0 ≡ stack_segment (state_of registers) = refl in
    let ds : get_or registers.segs 3 0 ≡ data_segment (state_of registers) = refl in
    absurd (c.in_err-hi.ensures (omega (arith, v.ds, v.delta, v.hi, sp, ss, ds, c.in_ok-checked_sub.ensures, c.in_ok-delta.ensures, h.small.hi_fits)))

pub lowest_of_stack-requires : goal.lowest_of_stack-requires
lowest_of_stack-requires c = length-loaded c.args.image.now c.requires.loaded

pub returns-in_err-lo-clause-none : goal.returns-in_err-lo-clause-none
returns-in_err-lo-clause-none c e layout runs_on h =
    let v = values-of c.args.cpu c.args.image.now c.args.prelude.now layout c.requires.left runs_on h in
    let lo = v.lo ∙ sym c.lowest_of_stack.ensures in
    let fits : c.lowest_of_stack.result < 65536 = omega (arith, lo, h.small.has_stack, h.small.hi_fits) in
    let decides = OkIff-decides c.try_from.result (c.lowest_of_stack.result < 65536) c.lowest_of_stack.result c.try_from.ensures in
    let clash = c.in_err-lo.ensures.variant ∙ decides.1 fits in
    cc

pub returns-in_err-start_ip-clause-none : goal.returns-in_err-start_ip-clause-none
returns-in_err-start_ip-clause-none c e layout runs_on h =
    let v = values-of c.args.cpu c.args.image.now c.args.prelude.now layout c.requires.left runs_on h in
    let short = code_len-loaded c.args.image.now c.requires.loaded in
    let fits : c.args.prelude.now.end < 65536 = omega (arith, v.start_ip, v.code_end, h.small.has_code, short) in
    let decides = OkIff-decides c.try_from-2.result (c.args.prelude.now.end < 65536) c.args.prelude.now.end c.try_from-2.ensures in
    let clash = c.in_err-start_ip.ensures.variant ∙ decides.1 fits in
    cc

pub returns-then-lo-hi-clause-none : goal.returns-then-lo-hi-clause-none
returns-then-lo-hi-clause-none c e layout runs_on h =
    let v = values-of c.args.cpu c.args.image.now c.args.prelude.now layout c.requires.left runs_on h in
    let short = code_len-loaded c.args.image.now c.requires.loaded in
    let lo = v.lo ∙ sym c.lowest_of_stack.ensures in
    let end = v.code_end ∙ sym c.code_end-code_end.ensures in
    let kept_lo = same-number c.try_from.result c.lowest_of_stack.result c.in_ok-lo.lo c.try_from.ensures c.in_ok-lo.ensures.value in
    let kept_ip = same-number c.try_from-2.result c.args.prelude.now.end c.in_ok-start_ip.start_ip c.try_from-2.ensures c.in_ok-start_ip.ensures.value in
    elim c.then-lo-hi.branch [
      | then-lo-hi-via-then-lo-hi w ↦ absurd (omega (arith, w.if-lo-hi.true, lo, kept_lo, v.hi, v.delta, h.small.has_stack, c.in_ok-hi.ensures, c.in_ok-delta.ensures, c.in_ok-checked_sub.ensures))
      | then-lo-hi-via-else-lo-hi+then-from-code_end w ↦ absurd (omega (arith, w.if-from-code_end.true, w.from.ensures, end, kept_ip, v.start_ip, h.small.has_code))
    ]

pub returns-clause-layout : goal.returns-clause-layout
returns-clause-layout c =
    let kept_lo = same-number c.try_from.result c.lowest_of_stack.result c.in_ok-lo.lo c.try_from.ensures c.in_ok-lo.ensures.value in
    let kept_ip = same-number c.try_from-2.result c.args.prelude.now.end c.in_ok-start_ip.start_ip c.try_from-2.ensures c.in_ok-start_ip.ensures.value in
    layout-of_values c.args.image.now c.args.prelude.now _ c.requires.left c.requires.loaded
    (record {
      regs = refl;
      flags = refl;
      ds = refl;
      delta = omega (arith, c.in_ok-delta.ensures, c.in_ok-checked_sub.ensures);
      lo = kept_lo ∙ c.lowest_of_stack.ensures;
      hi = c.in_ok-hi.ensures.1;
      start_ip = kept_ip;
      code_end = c.code_end-code_end.ensures;
    })
    (record {
      code_below = omega arith;
      ds_fits = omega arith;
      delta_fits = omega arith;
      hi_fits = omega arith;
      has_stack = omega arith;
      has_code = omega arith;
    })
