-- Steps that set SP and BP alone: the inner run stays as it is.
use Rattle.std.specs.List.{range_with_len}
use Rattle.std.proofs.Common.{◌≡◌, ◌≤◌, inl, inr, ℕ, ◌-◌, Bool, true, false, true≢false, ◌||◌, List, [], ◌∷◌, filter, Some, refl, sym, ap, ◌∙◌, subst, arith}
use Rattle.std.specs.Prelude.{not}
use Rattle.std.proofs.lemmas.Bool.{cases_lt}
use Rattle.dcc_run.specs.End.{Running, is_over}
use Rattle.dcc_num.specs.declared.Reg.TheVariants.{Sp, Bp}
use Rattle.dcc_machine.specs.declared.cpu.Cpu.{Cpu}
use Rattle.dcc_machine.specs.declared.instr.Operand.TheVariants.{Word}
use Rattle.dcc_machine.specs.declared.instr.Op.{Op}
use Rattle.dcc_machine.specs.declared.instr.Op.TheVariants.{Mov, Lea, Pop, Leave}
use Rattle.dcc_machine.specs.declared.instr.Instr.{Instr}
use Rattle.dcc_machine.specs.Machine.{State as Machine, word_in, with_word_in, offset_of}
use Rattle.dcc_machine.specs.Operations.{with_sp_raised}
use Rattle.dcc_machine.specs.Step.{op_step, step}
use Rattle.dcc_machine.specs.Successors.{next_of}
use Rattle.dcc_machine.specs.SpAndBp.{is_mov_bp_sp, leaves_frame}
use Rattle.dcc_machine.specs.Access.{accesses}
use Rattle.dcc_prog.specs.CleanLaws.{moves_frames}
use Rattle.dcc_prog.specs.Clean.{Stack, top_in, is_reading, with_marks, stack_bytes, stack_after}
use Rattle.dcc_stack.specs.SlotLaws.{AreCarried}
use Rattle.dcc_stack.proofs.TableSteps.{IsStepOf, step-of}
use Rattle.dcc_ir.specs.Run.{State}
use Rattle.dcc_simulation.specs.Coupled.{Setting, typed_by, typed_waiting, AreCoupled}
use Rattle.dcc_simulation.specs.Laws.{IsCleanInstruction, Within, PointersAreSet}
use Rattle.dcc_stack.specs.Standing.{StackStands}
use Rattle.dcc_simulation.proofs.Next.{next-stands}
use Rattle.dcc_simulation.proofs.LikeStates.{IsLike, like-both, sp-set, bp-set, stays-itself, coupled-after}
use Rattle.dcc_simulation.proofs.Coupling.{carried_laws, coupled}
use Rattle.dcc_simulation.proofs.StepsAgree.{none-rises, steps-agree}

-- what an operation that sets them does, and that it stores nothing
record SetsPointers (cpu : Cpu) (op : Op) (at : ℕ) (s : Machine) : Type 0 where
  like : IsLike s (op_step cpu op at s)
  stays : moves_frames op ≡ false
  stores : filter (λ access. not (is_reading access)) (accesses op s) ≡ []

raised : (s : Machine) (bp : ℕ) → IsLike s (with_word_in (with_sp_raised 2 s) Bp bp)
raised s bp =
    like-both s (with_sp_raised 2 s) (with_word_in (with_sp_raised 2 s) Bp bp) (sp-set s _)
    (bp-set (with_sp_raised 2 s) bp)

sets-pointers : (cpu : Cpu) (op : Op) (at : ℕ) (s : Machine) → (is_mov_bp_sp op || leaves_frame op) ≡ true
    → SetsPointers cpu op at s
sets-pointers cpu (Mov (Word Bp) (Word Sp)) at s so =
    record { like = bp-set s (word_in s Sp); stays = refl; stores = refl }
sets-pointers cpu (Mov (Word Sp) (Word Bp)) at s so =
    record { like = sp-set s (word_in s Bp); stays = refl; stores = refl }
sets-pointers cpu (Lea Sp ea) at s so = record { like = sp-set s (offset_of s ea); stays = refl; stores = refl }
sets-pointers cpu (Pop (Word Bp)) at s so = record { like = raised s _; stays = refl; stores = refl }
sets-pointers cpu Leave at s so = record {
  like =
      like-both s (with_word_in s Sp (word_in s Bp)) (op_step cpu Leave at s) (sp-set s (word_in s Bp))
      (raised (with_word_in s Sp (word_in s Bp)) _);
  stays = refl;
  stores = refl;
}
sets-pointers cpu op at s so = absurd (true≢false (sym so))

module _ (e : Setting) (s : Machine) (stack : Stack) (instr : Instr) (t : State)
    (is : IsCleanInstruction e s stack instr) (so : (is_mov_bp_sp instr.op || leaves_frame instr.op) ≡ true)
    (before : Within is stack.written s t) where
  abbrev here : Machine
  here = record s { ip = next_of s.ip instr }

  abbrev after : Machine
  after = step e.program.layout.cpu s

  abbrev top : ℕ
  top = top_in e.program.layout s

  abbrev next_top : ℕ
  next_top = top_in e.program.layout (step e.program.layout.cpu s)

  sets : SetsPointers e.program.layout.cpu instr.op s.ip here
  sets = sets-pointers e.program.layout.cpu instr.op s.ip here so

  taken-step : IsStepOf e.image e.program.layout is.of_file.loaded s.ip instr s
  taken-step =
      step-of e.image e.program.layout is.of_file.loaded s.ip s instr is.stands.segments.state refl
      (ap is_over before.goes) is.stands.segments.code is.found

  like : IsLike here (step e.program.layout.cpu s)
  like = subst (IsLike here) (sym taken-step.is) sets.like

  goes-on : (step e.program.layout.cpu s).end ≡ Running
  goes-on = like.end ∙ before.goes

  next : StackStands e.image e.program.layout (step e.program.layout.cpu s)
      (stack_after e.program.layout (Some instr) s (step e.program.layout.cpu s) stack)
  next = (next-stands e s stack instr is before.goes goes-on).0

  abbrev passed : List ℕ
  passed = range_with_len top (next_top - top)

  abbrev marks : List Bool
  marks = with_marks false passed stack.written

  marks-are : with_marks false passed stack.written ≡ (stack_after e.program.layout (Some instr) s after stack).written
  marks-are =
      ap (λ list. with_marks false passed (with_marks true (stack_bytes e.program.layout list) stack.written))
      (sym sets.stores)

  abbrev Carried : List Bool → ℕ → Type 0
  Carried written low =
      AreCarried e.cpu e.image e.program s.memory t.memory written low
      (typed_by e is.stands.newest t.running ∷ typed_waiting e is.stands.callers t.waiting)

  carried : Carried marks next_top
  carried = elim (cases_lt next_top top) [
    | inl less ↦
        let le : next_top ≤ top = omega (arith, less) in
        subst (λ m. Carried m next_top) (sym (none-rises top next_top stack.written le))
        (carried_laws.lowers next_top before.carried next.low le is.stands.written)
    | inr le ↦ carried_laws.raises next_top passed before.carried le
  ]

  agree : Within is marks after t
  agree =
      coupled-after e is.stands.newest is.stands.newest is.stands.callers is.stands.callers stack.written marks here after
      s.memory t t like (stays-itself t)
      ((coupled e is.stands.newest is.stands.callers stack.written).anywhere s t (next_of s.ip instr) before)
      before.running before.newest before.waiting next.segments carried

  pointers-are-set : AreCoupled e after (stack_after e.program.layout (Some instr) s after stack) t
  pointers-are-set =
      steps-agree e s stack instr t t is sets.stays before (subst (λ m. Within is m after t) marks-are agree)

pub pointers-set : PointersAreSet
pointers-set e s stack instr t is so before = pointers-are-set e s stack instr t is so before
