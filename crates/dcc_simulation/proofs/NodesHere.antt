-- What is known of an instruction of the newest procedure that is about to be executed.
use Rattle.std.proofs.Common.{◌≡◌, ℕ, false, refl, ap, subst}
use Rattle.std.specs.Prelude.{pos}
use Rattle.dcc_run.specs.End.{Running, is_over}
use Rattle.dcc_prog.specs.declared.procedure.Node.{Node}
use Rattle.dcc_machine.specs.declared.instr.Instr.{Instr}
use Rattle.dcc_machine.specs.Machine.{State as Machine}
use Rattle.dcc_machine.specs.Step.{code_bytes}
use Rattle.dcc_machine.specs.Successors.{next_of}
use Rattle.dcc_prog.specs.Height.{HasHeight}
use Rattle.dcc_machine.specs.StateForm.{IsState}
use Rattle.dcc_prog.specs.Construct.{is_system}
use Rattle.dcc_prog.specs.Clean.{Stack}
use Rattle.dcc_machine.proofs.StateKept.{same-state, code-bytes}
use Rattle.dcc_stack.specs.Accepted.{IsAt}
use Rattle.dcc_stack.proofs.ApartLaws.{writes-apart}
use Rattle.dcc_stack.proofs.FormHeights.{has-height, no-system, form-there}
use Rattle.dcc_stack.proofs.FormLaws.{in-form}
use Rattle.dcc_stack.proofs.FormOps.{FormOf}
use Rattle.dcc_stack.proofs.TableSteps.{IsStepOf, step-of}
use Rattle.dcc_simulation.specs.Coupled.{Setting}
use Rattle.dcc_simulation.specs.Laws.{IsCleanInstruction}
use Rattle.dcc_simulation.specs.Procedures.{Procedure}
use Rattle.dcc_simulation.specs.Nodes.{IsNodeHere}
use Rattle.dcc_simulation.specs.FoundPlaces.{IsFoundAt}
use Rattle.dcc_simulation.proofs.OperandBytes.{there}
use Rattle.dcc_simulation.proofs.TabledOperands.{HavePlaces, instruction-placed}

module _ (e : Setting) (s : Machine) (stack : Stack) (instr : Instr) (p : Procedure) (node : Node) (height : ℕ)
    (is : IsCleanInstruction e s stack instr) (here : IsNodeHere e s stack instr is p node height) where
  open is.stands use {newest as a}

  -- a trail leads to it, with that height
  pub is-at : IsAt e.image e.program.layout a.frame.entry a.at a.before (pos height)
  is-at =
      subst (λ n. IsAt e.image e.program.layout a.frame.entry a.at a.before (pos n)) here.height_is here.stands.is_at

  pub at-height : HasHeight e.image e.program.layout a.frame.entry a.at (pos height)
  at-height = has-height e.cpu e.image e.program is.of_file a.frame.entry a.at a.before (pos height) is-at

  -- the procedure of the instruction is found
  pub found-at : IsFoundAt e a.frame.entry p
  found-at = record { lifting = here.lifting; is_entry = is-at.is_entry; procedure = here.procedure }

  -- the instruction uses SP and BP in a form, and is none of the prelude's kind
  pub form-here : FormOf e.image e.program.layout a.frame.entry a.at instr.op
  form-here =
      form-there e.cpu e.image e.program is.of_file a.frame.entry a.at a.before (pos height) is-at instr.op
      (there e s stack instr is)

  no-system-here : is_system instr.op ≡ false
  no-system-here =
      no-system e.cpu e.image e.program is.of_file a.frame.entry a.at a.before (pos height) is-at instr.op
      (there e s stack instr is)

  -- the operands of the instruction are such as the table has
  pub placed-here : HavePlaces instr.op
  placed-here =
      instruction-placed e.program.layout.cpu s.ip (code_bytes s) instr (code-bytes s is.stands.segments.state)
      ((writes-apart in-form).fetched e.cpu e.image e.program s instr is.of_file is.stands.segments is.found)
      no-system-here

  -- the step of the instruction is the operation's
  pub taken-here : s.end ≡ Running → IsStepOf e.image e.program.layout is.of_file.loaded s.ip instr s
  taken-here goes =
      step-of e.image e.program.layout is.of_file.loaded s.ip s instr is.stands.segments.state refl (ap is_over goes)
      is.stands.segments.code is.found

  -- where the instruction pointer is past it
  pub state-here : IsState (record s { ip = next_of s.ip instr })
  state-here = same-state s (record s { ip = next_of s.ip instr }) refl refl refl refl is.stands.segments.state
