-- Ways through the instructions of a procedure, where kept places hold its paths: they are short, and from where a run
-- comes to the procedure none leads to where it leaves it.
use Rattle.std.proofs.Common.{◌≡◌, ◌≢◌, ◌≤◌, ◌<◌, ◌⊎◌, inl, inr, ℕ, Bool, true, false, List, [], ◌∷◌, ◌++◌, length, map, get_or, All, AllPairs, Some, refl, sym, ap, ap₂, ◌∙◌, subst, arith}
use Rattle.std.specs.List.{list_any}
use Rattle.std.proofs.lemmas.List.{get_or-map, length-map}
use Rattle.std.proofs.lemmas.List.Elements.{All-nil, All-cons, All-map, All-weaker, All-contains}
use Rattle.dcc_run.specs.ProgramPoint.{ProgramPoint}
use Rattle.dcc_run.proofs.WayLaws.{IsWay, AllClosedHold, origin}
use Rattle.dcc_machine.specs.declared.image.Image.{Image}
use Rattle.dcc_prog.specs.declared.procedure.Layout.{Layout}
use Rattle.dcc_prog.specs.declared.procedure.Node.{Node}
use Rattle.dcc_prog.specs.declared.procedure.Proc.{Proc}
use Rattle.dcc_prog.specs.declared.frame.Program.{Program as Analysed}
use Rattle.dcc_machine.specs.declared.instr.Op.{Op}
use Rattle.dcc_machine.specs.declared.instr.Op.TheVariants.{Call as CallOp, Ret as RetOp}
use Rattle.dcc_machine.specs.declared.instr.Instr.{Instr}
use Rattle.dcc_prog.specs.Trail.{StandsAt, IsTrail, IsEntry, IsNode, IsEdge}
use Rattle.dcc_ir.specs.Tree.{Expr, Ret, Block, Program}
use Rattle.dcc_ir.specs.Run.{graph_at}
use Rattle.dcc_ir.specs.Flow.{IsPath, Any, Reached, graph_or_none}
use Rattle.dcc_ir.proofs.PathLaws.{decided, clash, nor, path-append, path_any, none_of_path, reached_along}
use Rattle.dcc_ir.proofs.ReachedLaws.{contained}
use Rattle.dcc_simulation.specs.Passed.{returned_values, exit_of}
use Rattle.dcc_simulation.proofs.FoundProcedures.{listed}
use Rattle.dcc_lift.specs.Blocks.{Nodes, node_in, successors_in, is_call, calls_in, if_joins, onward, IsChain, BlockSource, nodes_in, entry_in, block_place, node_exit, exit_at, last_of}
use Rattle.dcc_lift.specs.Sound.{GoesOnAt, AreSound}
use Rattle.dcc_lift.specs.Lifted.{procedure_flow, HoldsPathsOf, HoldsPaths}
use Rattle.dcc_lift.specs.Laws.{IsFlowOfTrails}
use Rattle.dcc_lift.specs.Translated.{setting, IsTranslated}
use Rattle.dcc_lift.proofs.NodeLaws.{goes_on_is, node_in_holds, nodes_differ}
use Rattle.dcc_lift.proofs.ChainLaws.{is_leader, has_successor, edge_to_joined, no_leader_joins, entry_is_leader, last_goes_to_leaders, chain_once}
use Rattle.dcc_lift.proofs.FoundSound.{few-nodes}
use Rattle.dcc_lift.proofs.FormScenes.{lifted}
use Rattle.dcc_lift.proofs.Lifting.{Located, node-at}
use Rattle.dcc_lift.proofs.LocatedBlocks.{located_at, scene_at, sound_at, block-at}
use Rattle.dcc_lift.proofs.RunReturns.{call-onward}
use Rattle.dcc_lift.proofs.TrailFlow.{found-flow}

pub one-instr : {i j : Instr} → Some i ≡ Some j → i ≡ j
one-instr e = cc

module _ (image : Image) (layout : Layout) where
  -- from one place to another the procedure has an edge
  pub record Goes (a b : ProgramPoint) : Type 0 where
    pub is_entry : IsEntry image layout a.entry
    pub same : b.entry ≡ a.entry
    pub edge : IsEdge image layout a.entry a.at b.at

  -- at the place a run leaves its procedure, by a call or a return
  pub record Leaves (a : ProgramPoint) : Type 0 where
    pub is_entry : IsEntry image layout a.entry
    pub node : IsNode image layout a.entry a.at
    pub by : ((target : ℕ) × StandsAt image layout a.at (CallOp target))
        ⊎ ((count : ℕ) × StandsAt image layout a.at (RetOp count))

  -- at the place a run comes to its procedure: at the entry, or after a call
  pub data Enters (b : ProgramPoint) : Type 0 where
    begins : b.at ≡ b.entry → Enters b
    comes_back : (from target : ℕ) → IsEdge image layout b.entry from b.at → StandsAt image layout from (CallOp target)
        → Enters b

  edge-from : (entry a b : ℕ) → IsEdge image layout entry a b → IsNode image layout entry a
  edge-from entry a b edge = record { before = edge.before; trail = edge.trail.1 }

  edge-to : (entry a b : ℕ) → IsEdge image layout entry a b → IsNode image layout entry b
  edge-to entry a b edge = record { before = a ∷ edge.before; trail = edge.trail }

module _ (image : Image) (program : Analysed) (p : Program) (is : IsTranslated image program p)
    (kept : ProgramPoint → Bool) (holds : HoldsPaths program p kept) where
  open program use {layout}

  -- along edges of a procedure, past places that aren't kept
  abbrev pub Way : ProgramPoint → List ProgramPoint → Type 0
  Way = IsWay kept (Goes image layout)

  module _ (entry : ℕ) (is_entry : IsEntry image layout entry) where
    abbrev x : Located image program p entry
    x = located_at image program p is entry is_entry

    abbrev proc : Proc
    proc = (x).proc

    abbrev scene : BlockSource
    scene = scene_at image program p is entry is_entry

    abbrev nodes : Nodes
    nodes = nodes_in scene

    abbrev sound : AreSound nodes (entry_in scene) image.ip
    sound = sound_at image program p is entry is_entry

    abbrev keeps : ℕ → Bool
    keeps at = kept (record { entry = entry; at = at })

    abbrev IsOther : ℕ → Type 0
    IsOther at = keeps at ≡ false

    here : HoldsPathsOf p keeps proc
    here =
        subst (λ n. HoldsPathsOf p (λ at. kept (record { entry = n; at = at })) proc) (x).entry_is
        (All-contains (λ (q : Proc). HoldsPathsOf p (λ at. kept (record { entry = q.entry; at = at })) q)
        program.procs.items proc holds
        (listed (setting image program p) (lifted image program p is) entry
        (record { proc = proc; frame = (x).frame; delta = layout.delta }) (x).procedure_found).among)

    flow : IsFlowOfTrails image layout entry (procedure_flow proc)
    flow =
        subst (λ n. IsFlowOfTrails image layout n (procedure_flow proc)) (x).entry_is
        (found-flow image layout proc (x).found)

    -- Paths.

    reached : (at : ℕ) (before : List ℕ) → IsTrail image layout entry (at ∷ before) → Reached (procedure_flow proc) at
    reached at [] trail =
        inl (trail ∙ sym (flow).start, ((flow).nodes at).1 (record { before = []; trail = trail }))
    reached at (from ∷ before) trail =
        reached_along (procedure_flow proc) Any from [] at (reached from before trail.1)
        (((flow).edges from at).1 (record { before = before; trail = trail }))

    other : (c : ProgramPoint) → c.entry ≡ entry → kept c ≡ false → IsOther c.at
    other c same none = sym (ap (λ n. kept (record { entry = n; at = c.at })) same) ∙ none

    edge-here : (b c : ProgramPoint) → b.entry ≡ entry → Goes image layout b c → IsEdge image layout entry b.at c.at
    edge-here b c same goes = subst (λ n. IsEdge image layout n b.at c.at) same goes.edge

    -- a way is a path
    way-path : (c b : ProgramPoint) (before : List ProgramPoint) → c.entry ≡ entry → Way c (b ∷ before)
        → (between : List ℕ) × IsPath (procedure_flow proc).goes IsOther (origin b before).at between c.at
    way-path c b [] same way =
        ([], ((flow).edges b.at c.at).1 (edge-here b c (sym way.1.same ∙ same) way.1))
    way-path c b (a ∷ before) same way =
        let first : b.entry ≡ entry = sym way.1.same ∙ same in
        let front = way-path b a before first way.2 in (
          front.0 ++ b.at ∷ [],
          path-append (procedure_flow proc).goes IsOther (origin a before).at front.0 b.at [] c.at front.1
              (other b first way.2.0)
              (((flow).edges b.at c.at).1 (edge-here b c first way.1)),
        )

    pub none-closes : (c b : ProgramPoint) (before : List ProgramPoint) → c.entry ≡ entry → Way c (b ∷ before)
        → origin b before ≡ c → ⊥
    none-closes c b before same way back =
        let path = way-path c b before same way in
        let round : IsPath (procedure_flow proc).goes IsOther c.at path.0 c.at =
        subst (λ (q : ProgramPoint). IsPath (procedure_flow proc).goes IsOther q.at path.0 c.at) back path.1 in
        let edge = edge-here b c (sym way.1.same ∙ same) way.1 in
        clash
        ((here).cycles c.at path.0 (reached c.at (b.at ∷ edge.before) edge.trail)
        (path_any (procedure_flow proc).goes IsOther c.at path.0 c.at round))
        (nor (keeps c.at) (list_any keeps path.0) (other c same way.0)
        (none_of_path (procedure_flow proc).goes keeps c.at path.0 c.at round))

    -- The instructions of a way.

    abbrev IsOwn : ProgramPoint → Type 0
    IsOwn c = (c.entry ≡ entry) × IsNode image layout entry c.at

    way-own : (c : ProgramPoint) (before : List ProgramPoint) → IsOwn c → Way c before → All IsOwn (c ∷ before)
    way-own c [] own way = All-cons IsOwn c [] own (All-nil IsOwn)
    way-own c (b ∷ before) own way =
        let first : b.entry ≡ entry = sym way.1.same ∙ own.0 in
        All-cons IsOwn c (b ∷ before) own
        (way-own b before
        (first, edge-from image layout entry b.at c.at (edge-here b c first way.1)) way.2)

    pub few-differ : (c : ProgramPoint) (before : List ProgramPoint) → IsOwn c → Way c before
        → AllPairs (λ a b. a ≢ b) (c ∷ before) → length (c ∷ before) ≤ 4096
    few-differ c before own way differ =
        subst (λ n. n ≤ 4096) count
        (few-nodes image layout program.procs.items is.of_file.is_program.procs entry is_entry
        (map offset (c ∷ before))
        (All-map (IsNode image layout entry) offset (c ∷ before)
        (All-weaker IsOwn (λ (q : ProgramPoint). IsNode image layout entry q.at) (λ q o. o.1) (c ∷ before) all))
        (λ i j d less inside same.
        let low : j < length (c ∷ before) = subst (λ n. j < n) count inside in
        let less' : i < length (c ∷ before) = omega (arith, less, low) in
        let one : ProgramPoint = get_or (c ∷ before) i c in
        let two : ProgramPoint = get_or (c ∷ before) j c in
        let ats : one.at ≡ two.at =
        sym (get_or-map offset (c ∷ before) i c d less') ∙ same ∙ get_or-map offset (c ∷ before) j c d low in
        differ i j c less low
        (ap₂ (λ n m. record { entry = n; at = m }) ((all i c less').0 ∙ sym (all j c low).0) ats)))
      where
        offset : ProgramPoint → ℕ
        offset q = q.at

        all : All IsOwn (c ∷ before)
        all = way-own c before own way

        count : length (map offset (c ∷ before)) ≡ length (c ∷ before)
        count = length-map (c ∷ before) offset

    -- Calls and returns.

    abbrev IsAt : ℕ → Op → Type 0
    IsAt at op = (node : Node) × (node_in nodes at ≡ Some node) × (node.instr.op ≡ op)

    node-of : (at : ℕ) (op : Op) → IsNode image layout entry at → StandsAt image layout at op → IsAt at op
    node-of at op node stands =
        let found = node-at image program p is.of_file is.translation entry is_entry x at node in
        let same : found.0.instr ≡ stands.0 = one-instr (sym found.2.instr ∙ stands.1) in
        (found.0, found.1, ap (λ (i : Instr). i.op) same ∙ stands.2)

    call-kept : (at target : ℕ) → IsNode image layout entry at → StandsAt image layout at (CallOp target)
        → keeps at ≡ true
    call-kept at target node stands =
        let found = node-of at (CallOp target) node stands in
        node_in_holds
        (λ (found : ℕ × Node). (target : ℕ) → found.1.instr.op ≡ CallOp target → keeps found.0 ≡ true)
        nodes at found.0 (here).calls found.1 target found.2

    goes-there : (a b : ℕ) → IsEdge image layout entry a b → has_successor nodes a b ≡ true
    goes-there a b edge =
        sym (goes_on_is nodes a b (nodes_differ nodes (entry_in scene) image.ip sound)) ∙ ((flow).edges a b).1 edge

    -- a block begins where a run comes to the procedure
    enters-leader : (b : ProgramPoint) → b.entry ≡ entry → Enters image layout b
        → is_leader nodes (entry_in scene) b.at ≡ true
    enters-leader b same (begins first) =
        subst (λ n. is_leader nodes (entry_in scene) n ≡ true) ((x).entry_is ∙ sym (first ∙ same))
        (entry_is_leader nodes (entry_in scene) image.ip sound)
    enters-leader b same (comes_back from target edge stands) =
        let there = subst (λ n. IsEdge image layout n from b.at) same edge in
        let found = node-of from (CallOp target) (edge-from image layout entry from b.at there) stands in
        last_goes_to_leaders nodes (entry_in scene) image.ip sound from [] b.at
        (call-onward nodes (entry_in scene) image.ip sound from (ap calls_in found.1 ∙ ap is_call found.2))
        (goes-there from b.at there)

    -- the block that ends in a return is kept
    return-kept : (at count : ℕ) (rest : List ℕ) → is_leader nodes (entry_in scene) at ≡ true
        → IsChain nodes (entry_in scene) at rest → IsAt (last_of at rest) (RetOp count) → keeps at ≡ true
    return-kept at count rest leader chain last =
        let there = block-at image program p is entry is_entry at leader in
        let block = there.block in
        let exit : block.exit ≡ Ret (returned_values scene.procedure) =
        there.is_block.exit_is
        ∙ ap (λ l. exit_at scene (last_of at l))
        (chain_once nodes (entry_in scene) image.ip sound there.is_block.rest rest at there.is_block.chain chain)
        ∙ ap (node_exit scene) last.1
        ∙ ap (λ op. exit_of scene.procedure op (map (block_place scene) last.0.succ.items)) last.2 in
        subst (λ n. keeps n ≡ true) there.is_block.at_is
        (All-contains Kept (x).graph.blocks block returns (contained (x).graph.blocks _ block there.found)
        (returned_values scene.procedure) exit)
      where
        Kept : Block → Type 0
        Kept block = (values : List Expr) → block.exit ≡ Ret values → keeps block.at ≡ true

        returns : All Kept (x).graph.blocks
        returns =
            subst (λ o. All Kept (graph_or_none o).blocks) (ap (graph_at p.graphs) (x).entry_is ∙ (x).graph_found)
            (here).returns

    -- a return ends a chain
    return-ends : (at count : ℕ) → IsAt at (RetOp count) → IsChain nodes (entry_in scene) at []
    return-ends at count found =
        let none : found.0.succ.items ≡ [] =
        subst (λ op. GoesOnAt op found.0.succ.items) found.2
        (node_in_holds (λ (found : ℕ × Node). GoesOnAt found.1.instr.op found.1.succ.items) nodes at found.0
        (sound).agree found.1) in
        ap (λ o. if_joins nodes (entry_in scene) (successors_in o)) found.1
        ∙ ap (if_joins nodes (entry_in scene)) none

    -- on the way back from a return the beginning of its block is passed
    none-returns : (c : ProgramPoint) (before : List ProgramPoint) (count : ℕ) (rest : List ℕ) → c.entry ≡ entry
        → Way c before
        → Enters image layout (origin c before) → kept (origin c before) ≡ false → IsNode image layout entry c.at
        → IsChain nodes (entry_in scene) c.at rest → IsAt (last_of c.at rest) (RetOp count) → ⊥
    none-returns c [] count rest same way enters none node chain last =
        clash (return-kept c.at count rest (enters-leader c same enters) chain last) (other c same none)
    none-returns c (b ∷ before) count rest same way enters none node chain last =
        by (decided (is_leader nodes (entry_in scene) c.at))
        (λ on. none-returns b before count (c.at ∷ rest) first way.2 enters none
        (edge-from image layout entry b.at c.at edge) (on, chain) last)
      where
        first : b.entry ≡ entry
        first = sym way.1.same ∙ same

        edge : IsEdge image layout entry b.at c.at
        edge = edge-here b c first way.1

        by : (is_leader nodes (entry_in scene) c.at ≡ true) ⊎ (is_leader nodes (entry_in scene) c.at ≡ false)
            → (onward nodes (entry_in scene) b.at ≡ Some c.at → ⊥) → ⊥
        by (inl leader) on = clash (return-kept c.at count rest leader chain last) (other c same way.0)
        by (inr inner) on =
            let joins = no_leader_joins nodes (entry_in scene) image.ip sound c.at (((flow).nodes c.at).1 node) inner in
            on (edge_to_joined nodes (entry_in scene) image.ip sound b.at c.at joins (goes-there b.at c.at edge))

    pub none-leaves : (c : ProgramPoint) (before : List ProgramPoint) → c.entry ≡ entry → Way c before
        → Enters image layout (origin c before) → kept (origin c before) ≡ false → kept c ≡ false
        → IsNode image layout entry c.at
        → ((target : ℕ) × StandsAt image layout c.at (CallOp target))
        ⊎ ((count : ℕ) × StandsAt image layout c.at (RetOp count)) → ⊥
    none-leaves c before same way enters none free node (inl call) =
        clash (call-kept c.at call.0 node call.1) (other c same free)
    none-leaves c before same way enters none free node (inr return) =
        let found = node-of c.at (RetOp return.0) node return.1 in
        none-returns c before return.0 [] same way enters none node (return-ends c.at return.0 found) found

  -- The laws of ways.

  still-other : (c : ProgramPoint) (before : List ProgramPoint) → Way c before → kept (origin c before) ≡ false → kept c
      ≡ false
  still-other c [] way none = none
  still-other c (b ∷ before) way none = way.0

  pub closed-ways : AllClosedHold kept (Goes image layout)
  closed-ways c b before way back =
      none-closes c.entry (subst (IsEntry image layout) (sym way.1.same) way.1.is_entry) c b before refl way back

  pub crossing-ways : (c : ProgramPoint) (before : List ProgramPoint) → Way c before
      → Enters image layout (origin c before)
      → kept (origin c before) ≡ false → Leaves image layout c → ⊥
  crossing-ways c before way enters none leaves =
      none-leaves c.entry leaves.is_entry c before refl way enters none (still-other c before way none) leaves.node
      leaves.by

  pub short-ways : (c : ProgramPoint) (before : List ProgramPoint) → Way c before → AllPairs (λ a b. a ≢ b) (c ∷ before)
      → length (c ∷ before) ≤ 4096
  short-ways c [] way differ = omega arith
  short-ways c (b ∷ before) way differ =
      let same : c.entry ≡ b.entry = way.1.same in
      let edge = subst (λ n. IsEdge image layout n b.at c.at) (sym same) way.1.edge in
      few-differ c.entry (subst (IsEntry image layout) (sym same) way.1.is_entry) c (b ∷ before)
      (refl, edge-to image layout c.entry b.at c.at edge) way differ
