-- The block of a CALL, in a program that is translated, has a Call.
use Rattle.std.proofs.Common.{◌≡◌, ◌≢◌, ℕ, pos, true, false, Bool, List, [], ◌∷◌, flat_map, find, cond, Some, Contains, refl, sym, ap, ◌∙◌, subst, true≢false, eqb-true}
use Rattle.std.specs.Prelude.{◌==◌, ◌||◌}
use Rattle.std.specs.List.{list_any}
use Rattle.dcc_machine.specs.declared.image.Image.{Image}
use Rattle.dcc_machine.specs.declared.instr.Instr.{Instr}
use Rattle.dcc_machine.specs.declared.instr.Op.TheVariants.{Call as CallOp}
use Rattle.dcc_prog.specs.declared.frame.Program.{Program as Analysed}
use Rattle.dcc_prog.specs.Trail.{StandsAt, IsEntry, IsNode, called}
use Rattle.dcc_stack.specs.Accepted.{IsAt}
use Rattle.dcc_ir.specs.Tree.{Block, Graph, Program}
use Rattle.dcc_ir.specs.Flow.{graph_or_none, flow_at}
use Rattle.dcc_ir.specs.Keeps.{calls_of, block_or_none, calls_at}
use Rattle.dcc_ir.specs.Run.{graph_at}
use Rattle.dcc_ir.proofs.ReachedLaws.{found_contained}
use Rattle.dcc_simulation.specs.Nodes.{procedures_in}
use Rattle.dcc_simulation.specs.Procedures.{Procedure, procedure_at}
use Rattle.dcc_simulation.specs.Statements.{calling}
use Rattle.dcc_lift.specs.Blocks.{node_in, nodes_in}
use Rattle.dcc_lift.specs.Translated.{IsTranslated}
use Rattle.dcc_lift.proofs.KeptWays.{one-instr}
use Rattle.dcc_lift.proofs.Lifting.{Located, procedure_of, node-at, told-at, call-block}
use Rattle.dcc_lift.proofs.LocatedBlocks.{located_at, scene_at}

-- the first block at an address that a block has
pub record IsFirstAt (blocks : List Block) (at : ℕ) : Type 0 where
  pub block : Block
  pub found : find (λ (b : Block). b.at == at) blocks ≡ Some block
  pub address : block.at ≡ at

pub first-at : (blocks : List Block) (at : ℕ) → list_any (λ (b : Block). b.at == at) blocks ≡ true
    → IsFirstAt blocks at
first-at [] at is = absurd (true≢false (sym is))
first-at (b ∷ blocks) at is = by (b.at == at) refl is (first-at blocks at)
  where
    by : (c : Bool) → (b.at == at) ≡ c → (c || list_any (λ (b : Block). b.at == at) blocks) ≡ true
        → (list_any (λ (b : Block). b.at == at) blocks ≡ true → IsFirstAt blocks at) → IsFirstAt (b ∷ blocks) at
    by true same is rest = record {
      block = b;
      found = ap (λ c. cond c (Some b) (find (λ (b : Block). b.at == at) blocks)) same;
      address = eqb-true b.at at same;
    }
    by false other is rest =
        let later = rest is in
        record {
          block = later.block;
          found = ap (λ c. cond c (Some b) (find (λ (b : Block). b.at == at) blocks)) other ∙ later.found;
          address = later.address;
        }

module _ (image : Image) (program : Analysed) (p : Program) (is : IsTranslated image program p) where
  open program use {layout}

  module _ (entry : ℕ) (is_entry : IsEntry image layout entry) where
    abbrev x : Located image program p entry
    x = located_at image program p is entry is_entry

    abbrev caller : Procedure
    caller = procedure_of image program p entry x

    -- the statements of the block are those of the CALL
    call-stmts : (at target : ℕ) → IsNode image layout entry at → StandsAt image layout at (CallOp target)
        → (block : Block) → Contains (x).graph.blocks block → block.at ≡ at
        → (height : ℕ) × (block.stmts ≡ calling caller height (procedure_at (procedures_in program) target))
    call-stmts at target node stands block has here =
        let found = node-at image program p is.of_file is.translation entry is_entry x at node in
        let same : found.0.instr ≡ stands.0 = one-instr (sym found.2.instr ∙ stands.1) in
        let calls : found.0.instr.op ≡ CallOp target = ap (λ (i : Instr). i.op) same ∙ stands.2 in
        let told = told-at image program p is.of_file is.translation entry is_entry x at found.0 found.1 in
        let is_at : IsAt image layout entry at node.before (pos told.0) =
        record { is_entry = is_entry; trail = node.trail; gives = told.2 node.before node.trail } in
        let block =
        call-block image program p is.of_file is.translation entry is_entry x block found.0 target node.before told.0
        has (ap (node_in (nodes_in (scene_at image program p is entry is_entry))) here ∙ found.1) calls
        (subst (λ n. IsAt image layout entry n node.before (pos told.0)) (sym here) is_at) in
        (told.0, block.stmts)

    some-call : (height target : ℕ) → IsEntry image layout target
        → flat_map calls_of (calling caller height (procedure_at (procedures_in program) target)) ≢ []
    some-call height target is_target none =
        let callee = (located_at image program p is target is_target).procedure_found in
        no-cons (sym (ap (λ o. flat_map calls_of (calling caller height o)) callee) ∙ none)
      where
        no-cons : {A : Type 0} {a : A} {later : List A} → a ∷ later ≡ [] → ⊥
        no-cons e = absurd cc

    -- where the graph has a block at the offset of a CALL, it has a Call
    pub call-has : (at target : ℕ) → IsNode image layout entry at → StandsAt image layout at (CallOp target)
        → (flow_at p entry).has at ≡ true → calls_at p entry at ≢ []
    call-has at target node stands has none =
        let graph_is : graph_or_none (graph_at p.graphs entry) ≡ (x).graph = ap graph_or_none (x).graph_found in
        let first =
        first-at (x).graph.blocks at
        (subst (λ (g : Graph). list_any (λ (b : Block). b.at == at) g.blocks ≡ true) graph_is has) in
        let among = found_contained (λ (b : Block). b.at == at) (x).graph.blocks first.block first.found in
        let stmts = call-stmts at target node stands first.block among first.address in
        let block : flat_map calls_of first.block.stmts ≡ [] =
        subst (λ o. flat_map calls_of (block_or_none o).stmts ≡ []) first.found
        (subst (λ (g : Graph). flat_map calls_of (block_or_none (find (λ (b : Block). b.at == at) g.blocks)).stmts ≡ [])
        graph_is none) in
        some-call stmts.0 target (called is_entry node stands)
        (subst (λ l. flat_map calls_of l ≡ []) stmts.1 block)
