-- The inner run through one instruction of a procedure, after a trail: a state of the machine mirrors it that has
-- passed the trail's last instructions, so what these tell of a table's register is so.
use Rattle.std.proofs.Common.{◌≡◌, ℕ, ◌+◌, ◌*◌, ◌/◌, ◌<◌, pos, Bool, true, false, List, [], ◌∷◌, length, Some, refl, sym, ap, ap₂, ◌∙◌, subst, arith}
use Rattle.std.specs.Prelude.{option_map}
use Rattle.std.proofs.lemmas.List.FromFn.{length-map-range_with_len}
use Rattle.dcc_run.specs.End.{Running, is_over}
use Rattle.dcc_num.specs.declared.Reg.{Reg}
use Rattle.dcc_machine.specs.declared.image.Image.{Image}
use Rattle.dcc_prog.specs.declared.procedure.Node.{Node}
use Rattle.dcc_prog.specs.declared.frame.Program.{Program as Analysed}
use Rattle.dcc_machine.specs.declared.instr.Operand.TheVariants.{Word}
use Rattle.dcc_machine.specs.declared.instr.Op.TheVariants.{Table}
use Rattle.dcc_machine.specs.declared.instr.Instr.{Instr}
use Rattle.dcc_machine.specs.Machine.{State as Machine, word_in, is_general}
use Rattle.dcc_machine.specs.Step.{op_step, step}
use Rattle.dcc_machine.specs.Successors.{next_of, op_successors}
use Rattle.dcc_prog.specs.Trail.{instruction_in, operation_in, known_ah, table_targets, word_in_segment, targets_of, instr_successors, IsTrail, IsEntry}
use Rattle.dcc_prog.specs.Found.{IsNodeFound}
use Rattle.dcc_prog.specs.RunLaws.{HasPassed, begun, stepped}
use Rattle.dcc_prog.proofs.PassedRuns.{passed-state}
use Rattle.dcc_stack.specs.Accepted.{IsAt, IsProgramOfFile}
use Rattle.dcc_stack.specs.Tables.{HoldsTwice}
use Rattle.dcc_stack.proofs.ApartWrites.{same-instruction}
use Rattle.dcc_stack.proofs.FormLaws.{in-form}
use Rattle.dcc_stack.proofs.TableSteps.{step-of}
use Rattle.dcc_stack.proofs.TableNumbers.{twice-held}
use Rattle.dcc_ir.specs.declared.syntax.BinOp.TheVariants.{Shr}
use Rattle.dcc_ir.specs.Tree.{Const, Binary, Program}
use Rattle.dcc_ir.specs.Value.{Fits}
use Rattle.dcc_ir.specs.Run.{State as Inner, scene_of as reading, value_in, execute}
use Rattle.dcc_ops.specs.Expressions.{word_of}
use Rattle.dcc_ops.specs.Temporaries.{temporary_bits}
use Rattle.dcc_ops.specs.Statements.{op_stmts}
use Rattle.dcc_ops.proofs.CouplingLaws.{register_value}
use Rattle.dcc_simulation.specs.Nodes.{procedures_in, leads_to}
use Rattle.dcc_simulation.specs.Operands.{first_place, second_place}
use Rattle.dcc_simulation.specs.Passed.{exit_of}
use Rattle.dcc_simulation.specs.Procedures.{Procedure}
use Rattle.dcc_simulation.proofs.ExitsLead.{IsGeneralTable, general-table}
use Rattle.dcc_lift.specs.Blocks.{node_in, BlockSource, nodes_in, stmts_at}
use Rattle.dcc_lift.specs.Translation.{IsTranslation}
use Rattle.dcc_lift.proofs.Lifting.{Located, procedure_of, scene_of, node-at, stmts-at, told-at}
use Rattle.dcc_lift.proofs.NeverForms.{is_followed, is_followed_in, followed, followed-more, followed-none, table-followed}
use Rattle.dcc_lift.proofs.NeverMirrors.{Mirrors, mirroring, mirror, mirror-state, mirrors, followed-stmts, followed-performed, followed-leads}

one-some : {X : Type 0} {x y : X} → Some x ≡ Some y → x ≡ y
one-some same = cc

module _ (image : Image) (program : Analysed) (p : Program)
    (of_file : IsProgramOfFile program.layout.cpu image program)
    (translation : IsTranslation image program.layout program.procs.items program.heights program.cells p) (entry : ℕ)
    (is_entry : IsEntry image program.layout entry) (x : Located image program p entry) where
  abbrev scene : BlockSource
  scene = scene_of image program p entry x

  abbrev procedure : Procedure
  procedure = procedure_of image program p entry x

  -- Instructions at the end of trails.

  pub record IsHere (at : ℕ) (before : List ℕ) : Type 0 where
    pub node : Node
    pub found : node_in (nodes_in scene) at ≡ Some node
    pub is_node : IsNodeFound image program.layout entry (at, node)
    pub trail : IsTrail image program.layout entry (at ∷ before)
    pub height : ℕ
    pub is_at : IsAt image program.layout entry at before (pos height)

  pub here : (at : ℕ) (before : List ℕ) → IsTrail image program.layout entry (at ∷ before) → IsHere at before
  here at before trail =
      let node =
      node-at image program p of_file translation entry is_entry x at (record { before = before; trail = trail }) in
      let told = told-at image program p of_file translation entry is_entry x at node.0 node.1 in
      record {
        node = node.0;
        found = node.1;
        is_node = node.2;
        trail = trail;
        height = told.0;
        is_at = record { is_entry = is_entry; trail = trail; gives = told.2 before trail };
      }

  -- Mirrors of the run.

  pub record Followed (at : ℕ) (before : List ℕ) (t : Inner) : Type 0 where
    pub machine : Machine
    pub mirrors : Mirrors image program.layout machine t
    pub here : machine.ip ≡ at
    pub passed : HasPassed image program.layout (followed image program.layout before) machine

  -- the run goes on, with values that fit
  pub record IsRunning (t : Inner) : Type 0 where
    pub running : t.end ≡ Running
    pub bits : t.running.graph.bits ≡ temporary_bits
    pub fits : Fits (reading t)

  -- where nothing is followed, a mirror begins anew
  pub afresh : (at : ℕ) (before : List ℕ) (t : Inner) → followed image program.layout before ≡ [] → IsRunning t
      → Followed at before t
  afresh at before t none on =
      let loaded = of_file.loaded in
      let has = of_file.is_program.layout in
      record {
        machine = mirror image program.layout t.running.values at;
        mirrors = mirrors image program.layout loaded has t at on.running on.bits on.fits;
        here = refl;
        passed =
            subst (λ l. HasPassed image program.layout l (mirror image program.layout t.running.values at)) (sym none)
            (begun (mirror image program.layout t.running.values at)
            (mirror-state image program.layout loaded has t at on.running on.bits on.fits));
      }

  module _ (at : ℕ) (before : List ℕ) (h : IsHere at before) where
    abbrev instr : Instr
    instr = h.node.instr

    is-followed : is_followed_in (operation_in image program.layout at) ≡ is_followed instr.op
    is-followed = ap (λ f. is_followed_in (option_map (λ (i : Instr). i.op) f)) h.is_node.instr

    pub successors-are : h.node.succ.items
        ≡ op_successors instr.op (next_of at instr) (known_ah image program.layout before)
        (targets_of image program.layout instr.op before)
    successors-are =
        h.is_node.succ before h.trail ∙ ap (instr_successors image program.layout at before) h.is_node.instr

    -- what leads where the machine is goes there
    followed-on : (next : ℕ) (t : Inner) → Followed at before t → is_followed instr.op ≡ true
        → leads_to (exit_of procedure instr.op h.node.succ.items) (execute (stmts_at scene at) t) ≡ Some next
        → Followed next (at ∷ before) (execute (stmts_at scene at) t)
    followed-on next t f e leads =
        let layout = program.layout in
        let s = f.machine in
        let waits : Machine = record s { ip = next_of at instr } in
        let steps =
        step-of image layout of_file.loaded at s instr
        (passed-state image layout (followed image layout before) s f.passed) f.here (ap is_over f.mirrors.goes)
        f.mirrors.code h.is_node.instr in
        let stmts : stmts_at scene at
        ≡ op_stmts layout.cpu instr.op h.node.number (first_place procedure h.height instr.op)
        (second_place procedure h.height instr.op) =
        stmts-at image program p of_file translation entry is_entry x at h.node before h.height h.is_at h.found
        ∙ followed-stmts layout.cpu (procedures_in program) procedure h.height instr.op h.node.number e in
        let begins = (mirroring image layout).anywhere s t (next_of at instr) f.mirrors in
        let after = followed-performed image layout procedure h.height waits instr.op h.node.number at t e steps.good
        begins in
        let to = followed-leads image layout procedure h.height waits instr.op h.node.number at t
        (known_ah image layout before) (targets_of image layout instr.op before) e (ap is_over after.goes) begins in
        let there : next ≡ (op_step layout.cpu instr.op at waits).ip =
        one-some (sym leads
        ∙ ap₂ (λ places stmts. leads_to (exit_of procedure instr.op places) (execute stmts t)) successors-are stmts
        ∙ to) in
        record {
          machine = step layout.cpu s;
          mirrors =
              subst (λ (m : Machine). Mirrors image layout m (execute (stmts_at scene at) t)) (sym steps.is)
              (subst (λ stmts. Mirrors image layout (op_step layout.cpu instr.op at waits) (execute stmts t))
              (sym stmts) after);
          here = ap (λ (m : Machine). m.ip) steps.is ∙ sym there;
          passed =
              subst (λ l. HasPassed image layout l (step layout.cpu s))
              (sym (followed-more image layout at before (is-followed ∙ e)))
              (stepped f.passed f.here (ap is_over f.mirrors.goes) f.mirrors.code h.is_node.instr);
        }

    -- a mirror of the machine goes on to the next instruction
    pub goes-on : (next : ℕ) (t : Inner) → Followed at before t → IsRunning (execute (stmts_at scene at) t)
        → (is_followed instr.op ≡ true
        → leads_to (exit_of procedure instr.op h.node.succ.items) (execute (stmts_at scene at) t) ≡ Some next)
        → Followed next (at ∷ before) (execute (stmts_at scene at) t)
    goes-on next t f on leads = by (is_followed instr.op) refl
      where
        by : (b : Bool) → is_followed instr.op ≡ b → Followed next (at ∷ before) (execute (stmts_at scene at) t)
        by true e = followed-on next t f e (leads e)
        by false e =
            afresh next (at ∷ before) (execute (stmts_at scene at) t)
            (followed-none image program.layout at before (is-followed ∙ e)) on

    -- at a jump through a table the value has a place
    pub table-fits : (t : Inner) (r : Reg) (offset : ℕ) → Followed at before t → instr.op ≡ Table r offset
        → value_in t (Binary Shr 16 (word_of r) (Const 16 1)) < length h.node.succ.items
    table-fits t r offset f op_is =
        let layout = program.layout in
        let of_node = in-form.nodes layout.cpu image program entry at before h.height of_file h.is_at in
        let same : of_node.instr ≡ instr =
        same-instruction (instruction_in image layout at) of_node.instr instr of_node.stands h.is_node.instr in
        let told = of_node.table r offset (ap (λ (i : Instr). i.op) same ∙ op_is) in
        let general : is_general r ≡ true =
        subst IsGeneralTable op_is (general-table layout.cpu at _ instr h.is_node.instr) in
        let held : HoldsTwice f.machine r told.0 =
        twice-held image layout of_file.loaded r told.0 (followed image layout before) f.machine f.passed
        (table-followed image layout r told.0 before general told.1) in
        let value : value_in t (Binary Shr 16 (word_of r) (Const 16 1)) ≡ word_in f.machine r / 2 =
        ap (λ n. n / 2) (register_value (Mirrors image layout) (mirroring image layout) f.machine t (Word r) general
        f.mirrors) in
        let targets : h.node.succ.items ≡ table_targets image offset (Some told.0) =
        successors-are
        ∙ ap (λ op. op_successors op (next_of at instr) (known_ah image layout before)
        (targets_of image layout op before)) op_is
        ∙ ap (table_targets image offset) told.1 in
        let count : length h.node.succ.items ≡ told.0 + 1 =
        ap (λ (l : List ℕ). length l) targets
        ∙ length-map-range_with_len (λ k. word_in_segment image (offset + 2 * k)) 0 (told.0 + 1) in
        let twice = held.is in
        let few = held.fits in
        let half : word_in f.machine r / 2 ≡ held.number = omega (arith, twice) in
        omega (arith, value, half, few, count)
