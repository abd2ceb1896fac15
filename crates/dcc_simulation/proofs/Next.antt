-- The stack after a clean step, and the activations that the instruction leaves.
use Rattle.std.proofs.Common.{◌≡◌, Bool, List, [], ◌∷◌, Option, Some, ap, ◌∙◌, subst}
use Rattle.dcc_run.specs.End.{Running, is_over}
use Rattle.dcc_num.specs.declared.Reg.TheVariants.{Bp}
use Rattle.dcc_machine.specs.declared.instr.Instr.{Instr}
use Rattle.dcc_machine.specs.declared.instr.Op.{Op}
use Rattle.dcc_machine.specs.Machine.{State as Machine, word_in}
use Rattle.dcc_machine.specs.Step.{step}
use Rattle.dcc_prog.specs.Clean.{Stack, top_in, foul_of, stack_after}
use Rattle.dcc_prog.specs.Watch.{next_instruction}
use Rattle.dcc_stack.specs.Standing.{Activation, StackStands}
use Rattle.dcc_stack.specs.Laws.{activations_after, StandsAfter}
use Rattle.dcc_stack.proofs.ApartLaws.{writes-apart}
use Rattle.dcc_stack.proofs.FormLaws.{in-form}
use Rattle.dcc_stack.proofs.StackLaws.{steps_stand}
use Rattle.dcc_ir.specs.Run.{State}
use Rattle.dcc_simulation.specs.Coupled.{Setting, Coupled}
use Rattle.dcc_simulation.specs.Laws.{IsCleanInstruction}

-- the runs agree, with these activations
abbrev pub AgreeOn : Setting → List Bool → Machine → State → List Activation → Type 0
AgreeOn e written s t [] = ⊥
AgreeOn e written s t (a ∷ callers) = Coupled e a callers written s t

same-found : (found : Option Instr) (instr other : Instr) → found ≡ Some instr → found ≡ Some other → other ≡ instr
same-found found instr other p q = cc

module _ (e : Setting) (s : Machine) (stack : Stack) (instr : Instr) (is : IsCleanInstruction e s stack instr)
    (goes : s.end ≡ Running) (goes-on : (step e.program.layout.cpu s).end ≡ Running) where
  abbrev after : Machine
  after = step e.program.layout.cpu s

  fetched : next_instruction e.program.layout.cpu s ≡ Some instr
  fetched = (writes-apart in-form).fetched e.cpu e.image e.program s instr is.of_file is.stands.segments is.found

  went : StandsAfter e.image e.program s stack is.stands
  went =
      steps_stand e.cpu e.image e.program s stack is.of_file is.stands (ap is_over goes)
      (ap (foul_of e.program stack s) fetched ∙ is.clean) (ap is_over goes-on)

  -- the stack stands, with the activations that an operation leaves
  abbrev StandsWith : Option Instr → Instr → Type 0
  StandsWith found by =
      (v : StackStands e.image e.program.layout after (stack_after e.program.layout found s after stack))
      × (v.newest ∷ v.callers
      ≡ activations_after by.op (top_in e.program.layout s) (word_in s Bp) after.ip
      (is.stands.newest ∷ is.stands.callers))

  pub next-stands : StandsWith (Some instr) instr
  next-stands =
      subst (λ i. StandsWith (Some instr) i)
      (same-found (next_instruction e.program.layout.cpu s) instr went.instr fetched went.found)
      (subst (λ o. StandsWith o went.instr) fetched (went.after, went.activations))

  -- where the operation is known
  pub next-with : (op : Op) → instr.op ≡ op
      → (v : StackStands e.image e.program.layout after
      (stack_after e.program.layout (Some instr) s after stack))
      × (v.newest ∷ v.callers
      ≡ activations_after op (top_in e.program.layout s) (word_in s Bp) after.ip
      (is.stands.newest ∷ is.stands.callers))
  next-with op is-op = (
    next-stands.0,
    next-stands.1
        ∙ ap (λ o. activations_after o (top_in e.program.layout s) (word_in s Bp) after.ip
        (is.stands.newest ∷ is.stands.callers)) is-op,
  )
