-- The instruction that is about to be executed is a node that is found: what the analyses tell of it.
use Rattle.std.proofs.Common.{◌≡◌, ℕ, [], ◌∷◌, Some, sym, ap, ◌∙◌, subst}
use Rattle.std.proofs.lemmas.List.Elements.{All-contains}
use Rattle.std.specs.Prelude.{if◌then◌else◌}
use Rattle.dcc_prog.specs.declared.procedure.Node.{Node}
use Rattle.dcc_prog.specs.declared.refusal.ConstructKind.{ConstructKind}
use Rattle.dcc_machine.specs.declared.instr.Instr.{Instr}
use Rattle.dcc_machine.specs.Machine.{State as Machine}
use Rattle.dcc_machine.specs.Successors.{next_of, op_successors}
use Rattle.dcc_prog.specs.Trail.{instruction_in, known_ah, targets_of, instr_successors, IsTrail, IsEntry}
use Rattle.dcc_prog.specs.Construct.{IsAtNode}
use Rattle.dcc_prog.specs.Found.{IsNodeFound, IsFound}
use Rattle.dcc_prog.specs.Clean.{Stack}
use Rattle.dcc_stack.specs.Accepted.{IsNodeOf}
use Rattle.dcc_stack.proofs.ApartWrites.{same-instruction}
use Rattle.dcc_stack.proofs.FormLaws.{in-form}
use Rattle.dcc_simulation.specs.Coupled.{Setting}
use Rattle.dcc_simulation.specs.Laws.{IsCleanInstruction}
use Rattle.dcc_simulation.specs.Procedures.{Procedure}
use Rattle.dcc_simulation.specs.Statements.{moves_frame, working_stmts, node_stmts}
use Rattle.dcc_simulation.specs.Nodes.{procedures_in, IsNodeHere}
use Rattle.dcc_simulation.proofs.FoundProcedures.{IsListed, listed}

module _ (e : Setting) (s : Machine) (stack : Stack) (instr : Instr) (p : Procedure) (node : Node) (height : ℕ)
    (is : IsCleanInstruction e s stack instr) (here : IsNodeHere e s stack instr is p node height) where
  open is.stands use {newest as a}
  open e.program use {layout}

  pub found-here : instruction_in e.image layout a.at ≡ Some instr
  found-here = ap (instruction_in e.image layout) is.stands.place ∙ is.found

  pub trail : IsTrail e.image layout a.frame.entry (a.at ∷ a.before)
  trail = here.stands.is_at.trail

  reached : IsEntry e.image layout a.frame.entry
  reached = here.stands.is_at.is_entry

  -- the trail tells its form and its numbers
  pub node-of : IsNodeOf e.image layout a.frame.entry a.at a.before here.stands.height
  node-of =
      in-form.nodes e.cpu e.image e.program a.frame.entry a.at a.before here.stands.height is.of_file
      here.stands.is_at

  pub node-is : node-of.instr ≡ instr
  node-is = same-instruction (instruction_in e.image layout a.at) node-of.instr instr node-of.stands found-here

  -- no construct stands there
  pub no-construct : (kind : ConstructKind) → ¬ IsAtNode e.image layout a.frame.entry a.at kind
  no-construct kind stands =
      is.of_file.is_program.procs.no_construct kind a.at (record {
        entry = a.frame.entry;
        is_entry = reached;
        node = record { before = a.before; trail = trail };
        stands = stands;
      })

  of-procedure : IsListed layout e.program.procs.items e.program.cells.frames.items a.frame.entry p
  of-procedure = listed e here.lifting a.frame.entry p here.procedure

  -- the successors of a node, and the number of its DOS call, are those of the trail
  pub node-found : IsNodeFound e.image layout a.frame.entry (a.at, node)
  node-found =
      let found = All-contains (IsFound e.image layout) e.program.procs.items p.proc
      is.of_file.is_program.procs.found of-procedure.among in
      subst (λ n. IsNodeFound e.image layout a.frame.entry (n, node)) (sym is.stands.place)
      (subst (λ n. IsNodeFound e.image layout n (s.ip, node)) of-procedure.entry_is
      (All-contains (IsNodeFound e.image layout p.proc.entry) p.proc.nodes.entries (s.ip, node) found.nodes
      here.node_is))

  -- the successors of a node are those of its operation
  pub successors-told :
      node.succ.items
      ≡ op_successors instr.op (next_of a.at instr) (known_ah e.image layout a.before)
      (targets_of e.image layout instr.op a.before)
  successors-told =
      node-found.succ a.before trail ∙ ap (instr_successors e.image layout a.at a.before) found-here

  -- the statements of a node are those of its operation
  pub stmts-told :
      node_stmts e.cpu (procedures_in e.program) p height node
      ≡ (if moves_frame instr.op then [] else
      working_stmts e.cpu (procedures_in e.program) p height instr.op node.number)
  stmts-told =
      ap (λ (i : Instr). if moves_frame i.op then [] else
      working_stmts e.cpu (procedures_in e.program) p height i.op node.number) here.instr_is
