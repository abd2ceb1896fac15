-- Special instructions: after their statements the runs agree, or both have ended alike.
use Rattle.std.proofs.Common.{◌≡◌, ℕ, true, false, [], refl, sym, ap, ◌∙◌, subst, true≢false}
use Rattle.std.specs.Prelude.{if◌then◌else◌}
use Rattle.dcc_num.specs.declared.Half.TheVariants.{Low}
use Rattle.dcc_num.specs.declared.Reg.{Reg}
use Rattle.dcc_num.specs.declared.Reg.TheVariants.{Sp, Bp}
use Rattle.dcc_machine.specs.declared.image.Image.{Image}
use Rattle.dcc_prog.specs.declared.procedure.Layout.{Layout}
use Rattle.dcc_prog.specs.declared.procedure.Node.{Node}
use Rattle.dcc_machine.specs.declared.instr.Ea.{Ea}
use Rattle.dcc_machine.specs.declared.instr.Plain.TheVariants.{Xlat}
use Rattle.dcc_machine.specs.declared.instr.Op.{Op}
use Rattle.dcc_machine.specs.declared.instr.Op.TheVariants.{Unary, Lea, Plain, Table, Int21}
use Rattle.dcc_machine.specs.declared.instr.Instr.{Instr}
use Rattle.dcc_machine.specs.Machine.{State as Machine, is_general}
use Rattle.dcc_machine.specs.Step.{op_step}
use Rattle.dcc_machine.specs.Successors.{next_of}
use Rattle.dcc_prog.specs.Clean.{Stack}
use Rattle.dcc_stack.specs.Accepted.{IsForm, moves, keeps}
use Rattle.dcc_ir.specs.Run.{State, execute}
use Rattle.dcc_simulation.specs.Coupled.{Setting}
use Rattle.dcc_simulation.specs.Laws.{IsCleanInstruction, Within}
use Rattle.dcc_simulation.specs.Procedures.{Procedure}
use Rattle.dcc_simulation.specs.Statements.{moves_frame, working_stmts, node_stmts}
use Rattle.dcc_simulation.specs.Nodes.{procedures_in, IsNodeHere, StepAgrees, agree}
use Rattle.dcc_simulation.specs.Special.{is_special, SpecialNodesAgree}
use Rattle.dcc_simulation.proofs.Coupling.{coupled}
use Rattle.dcc_simulation.proofs.NodeFound.{node-of, node-is, stmts-told}
use Rattle.dcc_simulation.proofs.SpecialAddresses.{address-agrees}
use Rattle.dcc_simulation.proofs.SpecialDivisions.{division-agrees}
use Rattle.dcc_simulation.proofs.SpecialDos.{dos-agrees}
use Rattle.dcc_simulation.proofs.SpecialSteps.{special-agrees}
use Rattle.dcc_simulation.proofs.SpecialTables.{xlat-agrees, table-agrees}

-- an accepted program has no LEA of BP
lea-general : (image : Image) (layout : Layout) (entry at height : ℕ) (r : Reg) (ea : Ea)
    → is_special (Lea r ea) ≡ true → IsForm image layout entry at height (Lea r ea)
    → is_general r ≡ true
lea-general image layout entry at height Sp ea so form = absurd (true≢false (sym so))
lea-general image layout entry at height Bp ea so (moves lowers) = cc
lea-general image layout entry at height Bp ea so (keeps stays sp bp) = absurd (true≢false (bp Low))
lea-general image layout entry at height r ea so form = refl

-- a frame isn't moved by one
special-works : (op : Op) → is_special op ≡ true → moves_frame op ≡ false
special-works (Unary operation a) so = refl
special-works (Lea Sp ea) so = absurd (true≢false (sym so))
special-works (Lea r ea) so = refl
special-works (Plain operation) so = refl
special-works (Table r offset) so = refl
special-works Int21 so = refl
special-works op so = absurd (true≢false (sym so))

module _ (e : Setting) (s : Machine) (stack : Stack) (instr : Instr) (t : State) (p : Procedure) (node : Node)
    (height : ℕ) (is : IsCleanInstruction e s stack instr) (here : IsNodeHere e s stack instr is p node height)
    (so : is_special instr.op ≡ true) (before : Within is stack.written s t) where
  abbrev R : Machine → State → Type 0
  R = Within is stack.written

  abbrev onward : Machine
  onward = record s { ip = next_of s.ip instr }

  begun : R onward t
  begun = (coupled e is.stands.newest is.stands.callers stack.written).anywhere s t (next_of s.ip instr) before

  abbrev stmts_of : Op → State
  stmts_of op = execute (working_stmts e.cpu (procedures_in e.program) p height op node.number) t

  -- where the operation's statements do what it does
  goes-on : (op : Op) → instr.op ≡ op → R (op_step e.program.layout.cpu op s.ip onward) (stmts_of op)
      → StepAgrees e s stack instr (stmts_of op)
  goes-on op op_is done =
      agree (special-agrees e s stack instr is so t (stmts_of op) before
      (subst (λ o. R (op_step e.program.layout.cpu o s.ip onward) (stmts_of op)) (sym op_is) done))

  by-operation : (op : Op) → instr.op ≡ op → is_special op ≡ true → StepAgrees e s stack instr (stmts_of op)
  by-operation (Unary name x) op_is special =
      division-agrees e s stack instr p node height is here name x op_is special t before
  by-operation (Lea r ea) op_is special =
      let form = (node-of e s stack instr p node height is here).form in
      let same = ap (λ (i : Instr). i.op) (node-is e s stack instr p node height is here) ∙ op_is in
      let general = lea-general e.image e.program.layout _ _ _ r ea special (subst (IsForm _ _ _ _ _) same form) in
      goes-on (Lea r ea) op_is (address-agrees e s stack instr p node height is here r ea op_is general t begun)
  by-operation (Plain Xlat) op_is special = goes-on (Plain Xlat) op_is (xlat-agrees e s stack instr is op_is t begun)
  by-operation (Table r offset) op_is special =
      goes-on (Table r offset) op_is (table-agrees e s stack instr is r offset t begun)
  by-operation Int21 op_is special = dos-agrees e s stack instr is op_is t before p node height here
  by-operation op op_is special = absurd (true≢false (sym special))

  pub special-node : StepAgrees e s stack instr (execute (node_stmts e.cpu (procedures_in e.program) p height node) t)
  special-node =
      subst (λ l. StepAgrees e s stack instr (execute l t))
      (sym (stmts-told e s stack instr p node height is here
      ∙ ap (λ b. if b then [] else working_stmts e.cpu (procedures_in e.program) p height instr.op node.number)
      (special-works instr.op so)))
      (by-operation instr.op refl so)

pub special-nodes : SpecialNodesAgree
special-nodes e s stack instr t p node height is here so before =
    special-node e s stack instr t p node height is here so before
