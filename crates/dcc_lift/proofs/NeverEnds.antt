-- The ends of a translated program's blocks are sound: one that goes on nowhere ends the run before, and the entry
-- procedure never returns. So no run is stuck.
use Rattle.std.proofs.Common.{◌≡◌, ℕ, Bool, true, false, ◌||◌, not, inl, inr, List, [], ◌∷◌, map, flat_map, Option, Some, None, refl, sym, ap, ap₂, ◌∙◌, subst, true≢false, eqb-true}
use Rattle.std.specs.Prelude.{◌==◌, if◌then◌else◌, All}
use Rattle.std.specs.List.{list_any}
use Rattle.std.proofs.lemmas.List.Folds.{list_any-append}
use Rattle.dcc_machine.specs.declared.image.Image.{Image}
use Rattle.dcc_prog.specs.declared.frame.Program.{Program as Analysed}
use Rattle.dcc_machine.specs.declared.instr.Op.{Op}
use Rattle.dcc_machine.specs.declared.instr.Op.TheVariants.{Table, Ret as RetOp, Int21}
use Rattle.dcc_prog.specs.declared.refusal.ConstructKind.TheVariants.{EntryReturn}
use Rattle.dcc_prog.specs.Construct.{returns, entry_return}
use Rattle.dcc_machine.specs.Successors.{next_of, op_successors}
use Rattle.dcc_prog.specs.Trail.{known_ah, targets_of, IsNode, IsEntry, start}
use Rattle.dcc_ir.specs.Tree.{Expr, Stmt, Block, Program}
use Rattle.dcc_ir.specs.WellFormed.{IsProgram}
use Rattle.dcc_ir.specs.Ends.{IsNeverStuck, is_ret, is_stop, is_exit_call, stops_soundly, HasSoundEnds}
use Rattle.dcc_ir.proofs.PathLaws.{decided}
use Rattle.dcc_ir.proofs.UnstuckLaws.{never_stuck}
use Rattle.dcc_ops.specs.Statements.{op_test, exit_to}
use Rattle.dcc_simulation.specs.Nodes.{procedures_in}
use Rattle.dcc_simulation.specs.Passed.{exit_of}
use Rattle.dcc_simulation.specs.Procedures.{Procedure}
use Rattle.dcc_simulation.specs.Statements.{moves_frame, working_stmts}
use Rattle.dcc_lift.specs.Blocks.{last_of, BlockSource, nodes_in, entry_in, block_place, stmts_at, node_exit, IsBlockAt}
use Rattle.dcc_lift.specs.Translated.{IsTranslated}
use Rattle.dcc_lift.proofs.ListTests.{or_here, or_there}
use Rattle.dcc_lift.proofs.ChainLaws.{leader_node, last_node}
use Rattle.dcc_lift.proofs.FoundSound.{contained-node}
use Rattle.dcc_lift.proofs.Lifting.{stmts-at}
use Rattle.dcc_lift.proofs.LocatedBlocks.{located_at, sound_at}
use Rattle.dcc_lift.proofs.NeverGraphs.{all-graphs, all-first, all-blocks}
use Rattle.dcc_lift.proofs.NeverSteps.{here, successors-are}
use Rattle.dcc_lift.proofs.NeverStands.{procedure_at, scene_of_entry, leads, Here}
use Rattle.dcc_lift.proofs.NeverSwitches.{switches-have-places}

-- Operations.

-- no test gives values back
no-return : (test : Option Expr) (places : List ℕ) → is_ret (exit_to test places) ≡ false
no-return (Some test) [] = refl
no-return (Some test) (one ∷ []) = refl
no-return (Some test) (one ∷ other ∷ []) = refl
no-return (Some test) (one ∷ other ∷ more ∷ places) = refl
no-return None [] = refl
no-return None (one ∷ []) = refl
no-return None (one ∷ other ∷ places) = refl

-- RET alone does
return-is : (p : Procedure) (op : Op) (places : List ℕ) → is_ret (exit_of p op places) ≡ true
    → (count : ℕ) × (op ≡ RetOp count)
return-is p (RetOp count) places e = (count, refl)
return-is p (Table r offset) places e = cc
return-is p op places e = absurd (true≢false (sym e ∙ no-return (op_test op) places))

-- only the DOS call that ends the run goes on nowhere without giving values back
stop-is : (p : Procedure) (op : Op) (place : ℕ → ℕ) (next : ℕ) (ah : Option ℕ) (targets : List ℕ)
    → is_stop (exit_of p op (map place (op_successors op next ah targets))) ≡ true → (op ≡ Int21) × (ah ≡ Some 0x4C)
stop-is p (Table r offset) place next ah targets e = cc
stop-is p (RetOp count) place next ah targets e = cc
stop-is p Int21 place next None targets e = cc
stop-is p Int21 place next (Some number) targets e = (refl, ap Some (eqb-true number 0x4C (by (number == 0x4C) e)))
  where
    by : (b : Bool) → is_stop (exit_of p Int21 (map place (if b then [] else next ∷ []))) ≡ true → b ≡ true
    by true e = refl
    by false e = cc
stop-is p op place next ah targets e = cc

-- Blocks.

module _ (image : Image) (program : Analysed) (p : Program) (well : IsProgram p)
    (is : IsTranslated image program p) where
  open program use {layout}

  module _ (entry : ℕ) (is_entry : IsEntry image layout entry) where
    abbrev scene : BlockSource
    scene = scene_of_entry image program p is entry is_entry

    abbrev procedure : Procedure
    procedure = procedure_at image program p is entry is_entry

    -- the last instruction of a block, at the end of a trail
    record HasLast (at : ℕ) (block : Block) (is_block : IsBlockAt scene at block) : Type 0 where
      before : List ℕ
      is_here : Here image program p is entry is_entry (last_of at is_block.rest) before
      exit : block.exit ≡ exit_of procedure is_here.node.instr.op (map (block_place scene) is_here.node.succ.items)

    has-last : (at : ℕ) (block : Block) → leads image program p is entry is_entry at ≡ true
        → (is_block : IsBlockAt scene at block) → HasLast at block is_block
    has-last at block leader is_block =
        let x = located_at image program p is entry is_entry in
        let nodes = nodes_in scene in
        let sound = sound_at image program p is entry is_entry in
        let last = last_of at is_block.rest in
        let there = last_node nodes (entry_in scene) image.ip sound is_block.rest at is_block.chain
        (leader_node nodes (entry_in scene) image.ip sound at leader) in
        let node : IsNode image layout entry last =
        subst (λ n. IsNode image layout n last) x.entry_is
        (contained-node image layout program.procs.items is.of_file.is_program.procs is.of_file.loaded
        is.of_file.is_program.layout x.proc (subst (IsEntry image layout) (sym x.entry_is) is_entry) x.found last
        there) in
        let h = here image program p is.of_file is.translation entry is_entry x last node.before node.trail in
        record {
          before = node.before;
          is_here = h;
          exit = is_block.exit_is ∙ ap (node_exit scene) h.found;
        }

    -- the statements of the last instruction are among the block's
    last-stmts : (rest : List ℕ) (at : ℕ) → list_any is_exit_call (stmts_at scene (last_of at rest)) ≡ true
        → list_any is_exit_call (flat_map (stmts_at scene) (at ∷ rest)) ≡ true
    last-stmts [] at there =
        list_any-append is_exit_call (stmts_at scene at) []
        ∙ or_here (list_any is_exit_call (stmts_at scene at)) false there
    last-stmts (next ∷ rest) at there =
        let later : List Stmt = flat_map (stmts_at scene) (next ∷ rest) in
        list_any-append is_exit_call (stmts_at scene at) later
        ∙ or_there (list_any is_exit_call (stmts_at scene at)) (list_any is_exit_call later)
        (last-stmts rest next there)

    block-stops : (at : ℕ) (block : Block) → leads image program p is entry is_entry at ≡ true
        → IsBlockAt scene at block → stops_soundly block.stmts block.exit ≡ true
    block-stops at block leader is_block =
        elim (decided (is_stop block.exit)) [
          | inr goes ↦ ap (λ b. not b || list_any is_exit_call block.stmts) goes
          | inl stop ↦ or_there (not (is_stop block.exit)) (list_any is_exit_call block.stmts) (ends stop)
        ]
      where
        ends : is_stop block.exit ≡ true → list_any is_exit_call block.stmts ≡ true
        ends stop =
            let x = located_at image program p is entry is_entry in
            let last = last_of at is_block.rest in
            let has = has-last at block leader is_block in
            let h = has.is_here in
            let op = h.node.instr.op in
            let ah = known_ah image layout has.before in
            let same = successors-are image program p is.of_file is.translation entry is_entry x last has.before h in
            let call = stop-is procedure op (block_place scene) (next_of last h.node.instr) ah
            (targets_of image layout op has.before)
            (ap (λ l. is_stop (exit_of procedure op (map (block_place scene) l))) (sym same) ∙ sym (ap is_stop has.exit)
            ∙ stop) in
            let number : h.node.number ≡ Some 0x4C = sym (h.is_node.number call.0 has.before h.trail) ∙ call.1 in
            ap (list_any is_exit_call) is_block.stmts_are
            ∙ last-stmts is_block.rest at
            (ap (list_any is_exit_call)
            (stmts-at image program p is.of_file is.translation entry is_entry x last h.node has.before h.height h.is_at
            h.found)
            ∙ ap₂ (λ op number. list_any is_exit_call (if moves_frame op then [] else
            working_stmts layout.cpu (procedures_in program) procedure h.height op number)) call.0 number)

    -- no instruction of the entry procedure returns
    block-stays : entry ≡ layout.start_ip → (at : ℕ) (block : Block) → leads image program p is entry is_entry at ≡ true
        → IsBlockAt scene at block → is_ret block.exit ≡ false
    block-stays same at block leader is_block = elim (decided (is_ret block.exit)) [
      | inr stays ↦ stays
      | inl gives ↦
          let has = has-last at block leader is_block in
          let h = has.is_here in
          let ret = return-is procedure h.node.instr.op (map (block_place scene) h.node.succ.items)
          (sym (ap is_ret has.exit) ∙ gives) in
          absurd (is.of_file.is_program.procs.no_construct EntryReturn (last_of at is_block.rest) (record {
            entry = entry;
            is_entry = is_entry;
            node = record { before = has.before; trail = h.trail };
            stands = entry_return (returns same (h.node.instr, h.is_node.instr, ret.1));
          }))
    ]

  sound-ends : HasSoundEnds p
  sound-ends = record {
    stops =
        all-graphs image program p well is (λ g. All (λ b. stops_soundly b.stmts b.exit ≡ true) g.blocks)
        (λ entry is_entry. all-blocks image program p well is entry is_entry
        (λ b. stops_soundly b.stmts b.exit ≡ true) refl (block-stops entry is_entry));
    returns =
        all-first image program p well is (λ g. All (λ b. is_ret b.exit ≡ false) g.blocks)
        (all-blocks image program p well is layout.start_ip start (λ b. is_ret b.exit ≡ false) refl
        (block-stays layout.start_ip start refl));
    switches = switches-have-places image program p well is;
  }

  -- no run of the lifted program is stuck
  pub never-stuck : IsNeverStuck p
  never-stuck = never_stuck p well sound-ends
