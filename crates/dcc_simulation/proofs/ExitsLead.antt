-- The end of an instruction's block leads where the machine goes.
use Rattle.std.proofs.Common.{◌≡◌, ℕ, ◌/◌, Bool, true, false, List, [], ◌∷◌, Contains, Option, Some, None, refl, sym, ap, ◌∙◌, subst, true≢false}
use Rattle.std.specs.Prelude.{slice_get, ◌==◌, if◌then◌else◌}
use Rattle.dcc_run.specs.End.{is_over}
use Rattle.dcc_machine.specs.declared.cpu.Cpu.{Cpu}
use Rattle.dcc_prog.specs.declared.procedure.Node.{Node}
use Rattle.dcc_machine.specs.declared.instr.Instr.{Instr}
use Rattle.dcc_machine.specs.declared.instr.Operand.TheVariants.{Word}
use Rattle.dcc_machine.specs.declared.instr.Op.{Op}
use Rattle.dcc_machine.specs.declared.instr.Op.TheVariants.{Branch, Loop, LoopE, LoopNe, Jcxz, Table, Call, Ret}
use Rattle.dcc_machine.specs.Machine.{State as Machine, word_in, is_general}
use Rattle.dcc_machine.specs.Step.{op_step, step}
use Rattle.dcc_machine.specs.Table.{instruction_at}
use Rattle.dcc_machine.specs.Successors.{next_of, op_successors}
use Rattle.dcc_prog.specs.Trail.{known_ah, targets_of}
use Rattle.dcc_prog.specs.Clean.{Stack}
use Rattle.dcc_prog.specs.CleanLaws.{moves_frames}
use Rattle.dcc_stack.proofs.Rows.{each-instruction}
use Rattle.dcc_stack.proofs.TableRuns.{runs-follow}
use Rattle.dcc_stack.proofs.TableSteps.{IsStepOf}
use Rattle.dcc_ir.specs.Tree.{Expr}
use Rattle.dcc_ir.specs.Run.{State, value_in, execute}
use Rattle.dcc_ops.specs.Statements.{op_stmts, op_test, exit_to}
use Rattle.dcc_ops.proofs.CouplingLaws.{register_value}
use Rattle.dcc_ops.proofs.TestLaws.{tests_decide}
use Rattle.dcc_simulation.specs.Coupled.{Setting}
use Rattle.dcc_simulation.specs.Laws.{IsCleanInstruction, Within}
use Rattle.dcc_simulation.specs.Operands.{no_place}
use Rattle.dcc_simulation.specs.Passed.{exit_of}
use Rattle.dcc_simulation.specs.Procedures.{Procedure}
use Rattle.dcc_simulation.specs.Statements.{moves_frame, working_stmts, node_stmts}
use Rattle.dcc_simulation.specs.Nodes.{procedures_in, IsNodeHere, leads_to, ExitsLead}
use Rattle.dcc_simulation.proofs.Coupling.{coupled}
use Rattle.dcc_simulation.proofs.ExitTables.{table-goes}
use Rattle.dcc_simulation.proofs.ExitTests.{is_table, exit-is, untested-leads, tested-leads, targets-spared}
use Rattle.dcc_simulation.proofs.NodesHere.{taken-here}
use Rattle.dcc_simulation.proofs.NodeFound.{found-here, node-found, successors-told, stmts-told}

-- Operations.

-- a jump through a table is by a general register
abbrev pub IsGeneralTable : Op → Type 0
IsGeneralTable (Table r offset) = is_general r ≡ true
IsGeneralTable op = Unit {0}

pub general-table : (cpu : Cpu) (offset : ℕ) (bytes : List ℕ) (instr : Instr)
    → instruction_at cpu offset bytes ≡ Some instr → IsGeneralTable instr.op
general-table = each-instruction IsGeneralTable (record {
  arithmetic = search tt;
  unary = search tt;
  stack = search tt;
  move = search tt;
  control = search tt;
  plain = search tt;
  later = search tt;
})

-- the statements of an operation with a test have no operands
tested-stmts : (cpu other : Cpu) (procedures : List Procedure) (p : Procedure) (height : ℕ) (op : Op)
    (number : Option ℕ) (test : Expr) → op_test op ≡ Some test
    → (if moves_frame op then [] else working_stmts cpu procedures p height op number)
    ≡ op_stmts other op number no_place no_place
tested-stmts cpu other procedures p height (Branch tested target) number test told = refl
tested-stmts cpu other procedures p height (Loop target) number test told = refl
tested-stmts cpu other procedures p height (LoopE target) number test told = refl
tested-stmts cpu other procedures p height (LoopNe target) number test told = refl
tested-stmts cpu other procedures p height (Jcxz target) number test told = refl
tested-stmts cpu other procedures p height op number test told = cc

no-call : (op : Op) (target : ℕ) → moves_frames op ≡ false → ¬ (op ≡ Call target)
no-call op target stays same = let clash = sym (ap moves_frames same) ∙ stays in true≢false clash

no-ret : (op : Op) (count : ℕ) → moves_frames op ≡ false → ¬ (op ≡ Ret count)
no-ret op count stays same = let clash = sym (ap moves_frames same) ∙ stays in true≢false clash

tested-apart : (op : Op) (test : Expr) → op_test op ≡ Some test → is_table op ≡ false
tested-apart (Table r offset) test told = cc
tested-apart op test told = refl

-- Where the end of the block leads.

module _ (e : Setting) (s : Machine) (stack : Stack) (instr : Instr) (t : State) (p : Procedure) (node : Node)
    (height : ℕ) (is : IsCleanInstruction e s stack instr) (here : IsNodeHere e s stack instr is p node height)
    (stays : moves_frames instr.op ≡ false) (before : Within is stack.written s t) where
  abbrev R : Machine → State → Type 0
  R = Within is stack.written

  abbrev onward : Machine
  onward = record s { ip = next_of s.ip instr }

  abbrev to : ℕ
  to = (step e.program.layout.cpu s).ip

  taken : IsStepOf e.image e.program.layout is.of_file.loaded s.ip instr s
  taken = taken-here e s stack instr p node height is here before.goes

  abbrev ah : Option ℕ
  ah = known_ah e.image e.program.layout is.stands.newest.before

  abbrev targets : List ℕ
  targets = targets_of e.image e.program.layout instr.op is.stands.newest.before

  abbrev after : State
  after = execute (node_stmts e.cpu (procedures_in e.program) p height node) t

  abbrev LeadsOn : State → Type 0
  LeadsOn u = leads_to (exit_of p instr.op node.succ.items) u ≡ Some to

  -- by its successors
  by-successors : (u : State) → is_table instr.op ≡ false
      → leads_to (exit_to (op_test instr.op) (op_successors instr.op (next_of is.stands.newest.at instr) ah targets)) u
      ≡ Some to
      → LeadsOn u
  by-successors u other leads =
      ap (λ x. leads_to x u) (exit-is p instr.op node.succ.items other stays)
      ∙ ap (λ l. leads_to (exit_to (op_test instr.op) l) u) (successors-told e s stack instr p node height is here)
      ∙ leads

  by-test : (test : Expr) → op_test instr.op ≡ Some test → LeadsOn after
  by-test test told =
      let rel : R onward t =
      (coupled e is.stands.newest is.stands.callers stack.written).anywhere s t (next_of s.ip instr) before in
      let goes = tests_decide R (coupled e is.stands.newest is.stands.callers stack.written) e.program.layout.cpu
      instr.op node.number s.ip onward t no_place no_place ah test told rel in
      let stmts = stmts-told e s stack instr p node height is here
      ∙ tested-stmts e.cpu e.program.layout.cpu (procedures_in e.program) p height instr.op node.number test told in
      let same : next_of is.stands.newest.at instr ≡ next_of s.ip instr =
      ap (λ n. next_of n instr) is.stands.place in
      by-successors after (tested-apart instr.op test told)
      (tested-leads instr.op (next_of is.stands.newest.at instr) ah targets test goes.0 to after told
      (targets-spared instr.op (next_of is.stands.newest.at instr) ah ah targets [] test told
      ∙ ap (λ n. op_successors instr.op n ah []) same ∙ goes.1 ∙ ap (λ n. goes.0 ∷ n ∷ []) (sym same))
      (ap (λ (v : Machine). v.ip) taken.is ∙ goes.2
      ∙ ap (λ n. if value_in (execute (op_stmts e.program.layout.cpu instr.op node.number no_place no_place) t) test
      == 1 then goes.0 else n) (sym same)
      ∙ ap (λ l. if value_in (execute l t) test == 1 then goes.0 else next_of is.stands.newest.at instr) (sym stmts)))

  by-one : op_test instr.op ≡ None → is_table instr.op ≡ false → is_over (step e.program.layout.cpu s).end ≡ false
      → (u : State) → LeadsOn u
  by-one untested other goes u =
      by-successors u other
      (untested-leads instr.op (next_of is.stands.newest.at instr) ah targets to u untested other stays
      (subst (λ l. Contains l to) (successors-told e s stack instr p node height is here) listed))
    where
      listed : Contains node.succ.items to
      listed =
          subst (λ l. Contains l to)
          (sym ((node-found e s stack instr p node height is here).succ is.stands.newest.before
          here.stands.is_at.trail))
          (runs-follow.goes_on e.cpu e.image e.program is.stands.newest.frame.entry is.stands.newest.at
          is.stands.newest.before s instr _ is.of_file here.stands.is_at is.stands.passed (sym is.stands.place)
          (ap is_over before.goes) is.stands.segments.code
          (found-here e s stack instr p node height is here) (λ target. no-call instr.op target stays)
          (λ count. no-ret instr.op count stays) goes)

  by-table : (op : Op) → instr.op ≡ op → is_table op ≡ true
      → leads_to (exit_of p op node.succ.items) after ≡ Some to
  by-table (Table r offset) op_is so =
      let general : is_general r ≡ true =
      subst IsGeneralTable op_is (general-table e.program.layout.cpu _ _ instr is.found) in
      let stmts : node_stmts e.cpu (procedures_in e.program) p height node ≡ [] =
      stmts-told e s stack instr p node height is here
      ∙ ap (λ o. if moves_frame o then [] else
      working_stmts e.cpu (procedures_in e.program) p height o node.number) op_is in
      ap (λ l. leads_to (exit_of p (Table r offset) node.succ.items) (execute l t)) stmts
      ∙ ap (λ n. slice_get node.succ.items (n / 2))
      (register_value R (coupled e is.stands.newest is.stands.callers stack.written) s t (Word r) general before)
      ∙ ap (λ l. slice_get l (word_in s r / 2))
      ((node-found e s stack instr p node height is here).succ is.stands.newest.before here.stands.is_at.trail)
      ∙ table-goes e.cpu e.image e.program is.of_file is.stands.newest.frame.entry is.stands.newest.at
      is.stands.newest.before here.stands.height here.stands.is_at s is.stands.passed is.stands.segments.code instr
      (found-here e s stack instr p node height is here) r offset op_is
      ∙ ap Some (sym (ap (λ (v : Machine). v.ip)
      (taken.is ∙ ap (λ o. op_step e.program.layout.cpu o s.ip onward) op_is)))
  by-table op op_is so = absurd (true≢false (sym so))

  pub leads-on : is_over (step e.program.layout.cpu s).end ≡ false → LeadsOn after
  leads-on goes = by (op_test instr.op) refl (is_table instr.op) refl
    where
      by : (o : Option Expr) → op_test instr.op ≡ o → (b : Bool) → is_table instr.op ≡ b → LeadsOn after
      by (Some test) told b so = by-test test told
      by None untested false so = by-one untested so goes after
      by None untested true so = by-table instr.op refl so

pub exits-lead : ExitsLead
exits-lead e s stack instr t p node height is here stays before goes =
    leads-on e s stack instr t p node height is here stays before goes
