-- PUSH of an operand other than SP and BP: its statements move the operand to the word of the frame below SP.
use Rattle.std.proofs.Common.{◌≡◌, ℕ, false, ◌∷◌, [], Some, sym, ap, ◌∙◌, subst}
use Rattle.std.specs.Prelude.{pos, neg_ℤ}
use Rattle.std.proofs.lemmas.List.Elements.{Contains-append_left}
use Rattle.dcc_num.specs.declared.Width.TheVariants.{Word as word_width}
use Rattle.dcc_prog.specs.declared.procedure.Node.{Node}
use Rattle.dcc_machine.specs.declared.instr.Operand.{Operand}
use Rattle.dcc_machine.specs.declared.instr.Op.TheVariants.{Push}
use Rattle.dcc_machine.specs.declared.instr.Instr.{Instr}
use Rattle.dcc_machine.specs.Machine.{State as Machine, operand_value}
use Rattle.dcc_machine.specs.Step.{step}
use Rattle.dcc_machine.specs.WellFormed.{IsWordOperand, IsOperation}
use Rattle.dcc_machine.specs.Successors.{next_of}
use Rattle.dcc_prog.specs.Trail.{StandsAt}
use Rattle.dcc_machine.specs.SpAndBp.{is_sp_or_bp}
use Rattle.dcc_machine.specs.Access.{Reading, operand_accesses, push_access}
use Rattle.dcc_prog.specs.Clean.{Stack, stack_after}
use Rattle.dcc_ir.specs.Run.{State, execute}
use Rattle.dcc_ops.specs.Statements.{mov_stmts}
use Rattle.dcc_simulation.specs.Coupled.{Setting, AreCoupled}
use Rattle.dcc_simulation.specs.Places.{IsFramePlace, taken}
use Rattle.dcc_simulation.specs.Laws.{IsCleanInstruction, Within}
use Rattle.dcc_simulation.specs.Procedures.{Procedure}
use Rattle.dcc_simulation.specs.Operands.{operand_place}
use Rattle.dcc_simulation.specs.Statements.{place_below_top}
use Rattle.dcc_simulation.specs.Nodes.{IsNodeHere}
use Rattle.dcc_simulation.specs.FoundPlaces.{IsFoundAt}
use Rattle.dcc_simulation.proofs.Coupling.{coupled}
use Rattle.dcc_simulation.proofs.FoundOperands.{IsOperandIn, operand-read, operand-sound}
use Rattle.dcc_simulation.proofs.FoundPlaces.{pushed-place}
use Rattle.dcc_simulation.proofs.NodesHere.{is-at, found-at, placed-here, taken-here}
use Rattle.dcc_simulation.proofs.OperandBytes.{there}
use Rattle.dcc_simulation.proofs.Pushes.{value-of, words-pushed}
use Rattle.dcc_simulation.proofs.TabledOperands.{IsSource, HavePlaces}
use Rattle.dcc_simulation.proofs.WordMoves.{IsMoved, word-moved}

push-read : (u : Machine) (x : Operand) → IsOperandIn (Push x) u Reading x
push-read u x = record {
  named = λ is. is;
  among = λ access is. Contains-append_left (operand_accesses Reading x u) (push_access u ∷ []) access is;
}

module _ (e : Setting) (s : Machine) (stack : Stack) (instr : Instr) (t : State) (p : Procedure) (node : Node)
    (height : ℕ) (is : IsCleanInstruction e s stack instr) (node-here : IsNodeHere e s stack instr is p node height)
    (before : Within is stack.written s t) (x : Operand) (push : instr.op ≡ Push x)
    (other : is_sp_or_bp x ≡ false) where
  open is.stands use {newest as a}

  abbrev here : Machine
  here = record s { ip = next_of s.ip instr }

  source : IsSource x
  source = subst HavePlaces push (placed-here e s stack instr p node height is node-here)

  at : IsFoundAt e a.frame.entry p
  at = found-at e s stack instr p node height is node-here

  word-operand : IsWordOperand x
  word-operand = subst IsOperation push (taken-here e s stack instr p node height is node-here before.goes).good

  reads : IsOperandIn instr.op here Reading x
  reads = subst (λ o. IsOperandIn o here Reading x) (sym push) (push-read here x)

  below : IsFramePlace e a.frame.entry (neg_ℤ (pos height)) word_width (place_below_top p height)
  below =
      pushed-place e a.frame.entry p at a.at height a.before (is-at e s stack instr p node height is node-here) x other
      (subst (StandsAt e.image e.program.layout a.at) push (there e s stack instr is))

  moved : IsMoved (Within is stack.written) here (place_below_top p height) (operand_value here x)
      (execute (mov_stmts word_width (place_below_top p height) (operand_place p height x)) t)
  moved =
      word-moved _ (coupled e a is.stands.callers stack.written) here x word-operand.width t ((coupled e a is.stands.callers stack.written).anywhere s t (next_of s.ip instr) before) e
      a.frame.entry (neg_ℤ (pos height)) (place_below_top p height) (operand_place p height x) below
      (operand-read e s stack instr is p at height x source word-operand.operand other reads)
      (operand-sound e s stack instr is p at height x source other reads)

  pub push-agrees :
      AreCoupled e (step e.program.layout.cpu s)
      (stack_after e.program.layout (Some instr) s (step e.program.layout.cpu s) stack)
      (execute (mov_stmts word_width (place_below_top p height) (operand_place p height x)) t)
  push-agrees =
      subst (AreCoupled e (step e.program.layout.cpu s)
      (stack_after e.program.layout (Some instr) s (step e.program.layout.cpu s) stack))
      (sym (moved.is ∙ ap (λ n. taken (place_below_top p height) n moved.from) (value-of s (next_of s.ip instr) x)))
      (words-pushed e s stack instr x moved.from (place_below_top p height) is node-here.stands push other
      ((coupled e a is.stands.callers stack.written).anywhere here moved.from s.ip moved.stands)
      (subst (λ n. IsFramePlace e a.frame.entry (neg_ℤ (pos n)) word_width (place_below_top p height))
      (sym node-here.height_is) below))
