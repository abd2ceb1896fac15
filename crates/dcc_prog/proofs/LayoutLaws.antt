-- Laws of layouts: at most one holds of an image, and one holds or none does.
use Rattle.std.proofs.Common.{◌≡◌, ℕ, ◌+◌, ◌-◌, ◌*◌, ◌≤◌, ◌⊎◌, inl, inr, true, false, min, List, sym, ap, ◌∙◌, refl, subst, arith}
use Rattle.std.proofs.lemmas.Bool.{cases_lt}
use Rattle.std.specs.List.{list_any}
use Rattle.dcc_num.specs.declared.Reg.TheVariants.{Sp}
use Rattle.dcc_num.specs.declared.Flags.{Flags}
use Rattle.dcc_machine.specs.declared.cpu.Cpu.{Cpu}
use Rattle.dcc_machine.specs.declared.image.Image.{Image}
use Rattle.dcc_prog.specs.declared.procedure.Layout.{Layout}
use Rattle.dcc_machine.specs.declared.instr.Instr.{Instr}
use Rattle.dcc_machine.specs.Code.{code_of}
use Rattle.dcc_machine.specs.Machine.{State, word_in, stack_segment, data_segment}
use Rattle.dcc_prog.specs.Layout.{writes_ds, offset_after, IsPrelude, state_after, lowest_of_stack, IsLeftBy, IsSmall, HasLayout}
use Rattle.dcc_prog.specs.Construct.{LacksLayout}
use Rattle.dcc_prog.proofs.PreludeLaws.{prelude-of, prelude-once}

-- layouts with the same values are the same
same-layout :
    (a b : Layout) → a.cpu ≡ b.cpu → a.ds ≡ b.ds → a.delta ≡ b.delta → a.lo ≡ b.lo → a.hi ≡ b.hi
    → a.start_ip ≡ b.start_ip → a.code_end ≡ b.code_end → a.regs ≡ b.regs → a.flags ≡ b.flags → a ≡ b
same-layout a b cpu ds delta lo hi start_ip code_end regs flags =
    let made : Cpu → ℕ → ℕ → ℕ → ℕ → ℕ → ℕ → List ℕ → Flags → Layout =
    λ c i j k l m n r f. record { cpu = c; ds = i; delta = j; lo = k; hi = l; start_ip = m; code_end = n; regs = r; flags = f } in
    ap (λ c. made c a.ds a.delta a.lo a.hi a.start_ip a.code_end a.regs a.flags) cpu
    ∙ ap (λ i. made b.cpu i a.delta a.lo a.hi a.start_ip a.code_end a.regs a.flags) ds
    ∙ ap (λ j. made b.cpu b.ds j a.lo a.hi a.start_ip a.code_end a.regs a.flags) delta
    ∙ ap (λ k. made b.cpu b.ds b.delta k a.hi a.start_ip a.code_end a.regs a.flags) lo
    ∙ ap (λ l. made b.cpu b.ds b.delta b.lo l a.start_ip a.code_end a.regs a.flags) hi
    ∙ ap (λ m. made b.cpu b.ds b.delta b.lo b.hi m a.code_end a.regs a.flags) start_ip
    ∙ ap (λ n. made b.cpu b.ds b.delta b.lo b.hi b.start_ip n a.regs a.flags) code_end
    ∙ ap (λ r. made b.cpu b.ds b.delta b.lo b.hi b.start_ip b.code_end r a.flags) regs
    ∙ ap (λ f. made b.cpu b.ds b.delta b.lo b.hi b.start_ip b.code_end b.regs f) flags

-- on one processor a prelude leaves the values of one layout alone
values-once :
    (image : Image) (prelude : List Instr) (layout other : Layout) → other.cpu ≡ layout.cpu
    → IsLeftBy image prelude layout → IsLeftBy image prelude other → other ≡ layout
values-once image prelude layout other same a b =
    let left : state_after other.cpu image prelude ≡ state_after layout.cpu image prelude =
    ap (λ c. state_after c image prelude) same in
    let regs : other.regs ≡ layout.regs = b.regs ∙ ap (λ (s : State). s.regs) left ∙ sym a.regs in
    let flags : other.flags ≡ layout.flags = b.flags ∙ ap (λ (s : State). s.flags) left ∙ sym a.flags in
    let ds : other.ds ≡ layout.ds = b.ds ∙ ap (λ s. data_segment s) left ∙ sym a.ds in
    let stack : stack_segment (state_after other.cpu image prelude) ≡ stack_segment (state_after layout.cpu image prelude) =
    ap (λ s. stack_segment s) left in
    let delta : other.delta ≡ layout.delta = omega (arith, a.delta, b.delta, ds, stack) in
    let lo : other.lo ≡ layout.lo = cc (a.lo, b.lo) in
    let hi : other.hi ≡ layout.hi = cc (a.hi, b.hi, left) in
    let start_ip : other.start_ip ≡ layout.start_ip = b.start_ip ∙ sym a.start_ip in
    let code_end : other.code_end ≡ layout.code_end = cc (a.code_end, b.code_end) in
    same-layout other layout same ds delta lo hi start_ip code_end regs flags

-- a layout that holds has the values that any prelude of the image leaves, there being just one
pub left-by :
    (image : Image) (prelude : List Instr) (layout : Layout) → IsPrelude layout.cpu (code_of image) image.ip prelude
    → HasLayout image layout → IsLeftBy image prelude layout
left-by image prelude layout p h =
    subst (λ l. IsLeftBy image l layout) (prelude-once layout.cpu (code_of image) image.ip h.prelude prelude h.is_prelude p) h.left

pub layout-once :
    (image : Image) (layout other : Layout) → other.cpu ≡ layout.cpu
    → HasLayout image layout → HasLayout image other → other ≡ layout
layout-once image layout other same h k =
    values-once image h.prelude layout other same h.left
    (left-by image h.prelude other (subst (λ c. IsPrelude c (code_of image) image.ip h.prelude) (sym same) h.is_prelude) k)

-- the values that a prelude leaves, where the stack segment doesn't lie below the data segment
layout-after : Cpu → Image → List Instr → Layout
layout-after cpu image prelude =
    let s = state_after cpu image prelude in
    let delta = (stack_segment s - data_segment s) * 16 in
    record {
      cpu = cpu;
      ds = data_segment s;
      delta = delta;
      lo = lowest_of_stack image (data_segment s);
      hi = word_in s Sp + delta;
      start_ip = offset_after image.ip prelude;
      code_end = min ((data_segment s - image.cs) * 16) image.code_len;
      regs = s.regs;
      flags = s.flags;
    }

layout-left :
    (cpu : Cpu) (image : Image) (prelude : List Instr)
    → data_segment (state_after cpu image prelude) ≤ stack_segment (state_after cpu image prelude)
    → IsLeftBy image prelude (layout-after cpu image prelude)
unfolding layout-after
layout-left cpu image prelude le = record {
  regs = refl;
  flags = refl;
  ds = refl;
  delta = omega arith;
  lo = refl;
  hi = refl;
  start_ip = refl;
  code_end = refl;
}

-- whether values keep to the small memory model
small-or_not : (image : Image) (layout : Layout) → IsSmall image layout ⊎ (¬ IsSmall image layout)
small-or_not image l =
    elim (cases_lt image.cs l.ds) [
      | inr bad ↦ inr (λ h. absurd (omega (arith, h.code_below)))
      | inl code_below ↦ elim (cases_lt 0xF000 l.ds) [
        | inl bad ↦ inr (λ h. absurd (omega (arith, h.ds_fits)))
        | inr ds_fits ↦ elim (cases_lt 65535 l.delta) [
          | inl bad ↦ inr (λ h. absurd (omega (arith, h.delta_fits)))
          | inr delta_fits ↦ elim (cases_lt 65535 l.hi) [
            | inl bad ↦ inr (λ h. absurd (omega (arith, h.hi_fits)))
            | inr hi_fits ↦ elim (cases_lt l.lo l.hi) [
              | inr bad ↦ inr (λ h. absurd (omega (arith, h.has_stack)))
              | inl has_stack ↦ elim (cases_lt l.start_ip l.code_end) [
                | inr bad ↦ inr (λ h. absurd (omega (arith, h.has_code)))
                | inl has_code ↦ inl (record { code_below = code_below; ds_fits = ds_fits; delta_fits = delta_fits; hi_fits = hi_fits; has_stack = has_stack; has_code = has_code })
              ]
            ]
          ]
        ]
      ]
    ]

-- on each processor a layout holds of an image, or none does
pub layout_or_none :
    (cpu : Cpu) (image : Image)
    → ((layout : Layout) × (layout.cpu ≡ cpu) × HasLayout image layout) ⊎ LacksLayout cpu image image.ip
unfolding layout-after
layout_or_none cpu image =
    let found = prelude-of cpu (code_of image) image.ip in
    let prelude = found.0 in
    let l = layout-after cpu image prelude in
    let left_of : (other : Layout) → other.cpu ≡ cpu → HasLayout image other → IsLeftBy image prelude other = λ other runs_on h.
    left-by image prelude other (subst (λ c. IsPrelude c (code_of image) image.ip prelude) (sym runs_on) found.1) h in
    elim (cases_lt (stack_segment (state_after cpu image prelude)) (data_segment (state_after cpu image prelude))) [
      | inl below ↦ inr (record {
        entry = refl;
        none = λ other runs_on h.
            let left = left_of other runs_on h in
            let same : state_after other.cpu image prelude ≡ state_after cpu image prelude = ap (λ c. state_after c image prelude) runs_on in
            let stack = ap (λ s. stack_segment s) same in
            let ds = ap (λ s. data_segment s) same in
            absurd (omega (arith, below, stack, ds, left.ds, left.delta));
      })
      | inr above ↦
          let left = layout-left cpu image prelude above in
          elim (small-or_not image l) [
            | inr large ↦ inr (record {
              entry = refl;
              none = λ other runs_on h.
                  let same = values-once image prelude l other runs_on left (left_of other runs_on h) in
                  large (subst (λ k. IsSmall image k) same h.small);
            })
            | inl small ↦ elim (list_any (λ (i : Instr). writes_ds i.op) prelude) as (λ b. list_any (λ (i : Instr). writes_ds i.op) prelude ≡ b
                → ((layout : Layout) × (layout.cpu ≡ cpu) × HasLayout image layout) ⊎ LacksLayout cpu image image.ip) [
                  | true ↦ λ t. inl (l, refl, record { prelude = prelude; is_prelude = found.1; ds_written = t; left = left; small = small })
                  | false ↦ λ t. inr (record {
                    entry = refl;
                    none = λ other runs_on h.
                        let mine : IsPrelude other.cpu (code_of image) image.ip prelude = subst (λ c. IsPrelude c (code_of image) image.ip prelude) (sym runs_on) found.1 in
                        let same = prelude-once other.cpu (code_of image) image.ip h.prelude prelude h.is_prelude mine in
                        let clash = sym t ∙ subst (λ p. list_any (λ (i : Instr). writes_ds i.op) p ≡ true) same h.ds_written in
                        cc;
                  })
                ] refl
          ]
    ]
