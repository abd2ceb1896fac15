-- The machine keeps pace with what is left of a lifted program after all passes, at the places of blocks for which a text has a
-- step: these hold the paths of procedures.
use Rattle.std.proofs.Common.{◌≡◌, ◌≢◌, ◌<◌, ℕ, Bool, true, false, ◌&&◌, not, inl, inr, List, [], ◌∷◌, length, flat_map, get_or, Option, Some, None, Contains, All, refl, sym, ap, ◌∙◌, subst, eqb-true, arith}
use Rattle.std.specs.Prelude.{◌==◌}
use Rattle.std.specs.List.{list_any}
use Rattle.std.proofs.lemmas.List.{get_or-map, length-map, get_or_default}
use Rattle.std.proofs.lemmas.List.Elements.{All-nil, All-cons, All-head, All-tail, All-weaker, All-contains, All-contains_itself}
use Rattle.std.proofs.lemmas.Option.{slice_get_within}
use Rattle.dcc_machine.specs.declared.image.Image.{Image}
use Rattle.dcc_machine.specs.declared.instr.Op.TheVariants.{Call as CallOp}
use Rattle.dcc_prog.specs.declared.procedure.Layout.{Layout}
use Rattle.dcc_prog.specs.declared.procedure.Node.{Node}
use Rattle.dcc_prog.specs.declared.procedure.Proc.{Proc}
use Rattle.dcc_prog.specs.declared.frame.Program.{Program as Analysed}
use Rattle.dcc_prog.specs.Found.{IsNodeFound, IsFound}
use Rattle.dcc_prog.specs.Trail.{StandsAt, IsTrail, IsEntry}
use Rattle.dcc_ir.specs.Ends.{is_ret}
use Rattle.dcc_ir.specs.Flow.{Flow, graph_or_none, flow_of, flow_at, IsPath, Any, Reached, IsContraction}
use Rattle.dcc_ir.specs.Keeps.{calls_of, block_or_none, calls_at, Keeps}
use Rattle.dcc_ir.specs.Live.{block_in}
use Rattle.dcc_ir.specs.Run.{graph_at, no_block}
use Rattle.dcc_ir.specs.Tree.{Expr, Stmt, Exit, Ret, Block, Graph, Program}
use Rattle.dcc_ir.specs.WellFormed.{IsGraph}
use Rattle.dcc_ir.proofs.FlowLaws.{contraction_trans, reached_still}
use Rattle.dcc_ir.proofs.GraphLaws.{flow_of-flow}
use Rattle.dcc_ir.proofs.PathLaws.{IsFlow, reached_along, reached_has}
use Rattle.dcc_ir.proofs.ReachedLaws.{found_contained}
use Rattle.dcc_control.specs.Plan.{is_begun}
use Rattle.dcc_control.specs.Valid.{only_goes, has_step}
use Rattle.dcc_lift.specs.Lifted.{procedure_flow, after_prelude, IsBlockOfCall, HasBlocksOf, AllHaveBlocks, HoldsPathsOf, HoldsPaths}
use Rattle.dcc_lift.specs.Laws.{IsFlowOfTrails}
use Rattle.dcc_lift.specs.Translated.{IsTranslated}
use Rattle.dcc_lift.proofs.FormHasBlocks.{have-blocks}
use Rattle.dcc_lift.proofs.KeptPaces.{path-along, kept-paced}
use Rattle.dcc_lift.proofs.ListTests.{and_left, and_right, and_both, or_here, or_there, or_cases, same_number, passing}
use Rattle.dcc_lift.proofs.TrailFlow.{found-flow}
use Rattle.dcc_sums.specs.Localised.{trim_by, localised}
use Rattle.dcc_signatures.specs.Packed.{pack_graph, packed}
use Rattle.dcc_ir.specs.Trimmed.{trim_graph}
use Rattle.dcc_plan_check.specs.Structured.{BeginsReturns}
use Rattle.dcc_passes.specs.Tidied.{IsTidied}
use Rattle.dcc_stack.specs.Accepted.{IsProgramOfFile}
use Rattle.dcc_lift.specs.Lifted.{IsLiftOf}
use Rattle.dcc_pipe.specs.Control.{Control, keeps_step, IsControlOf, AreControls}
use Rattle.dcc_pipe.specs.Following.{KeepsPaceWith}
use Rattle.dcc_pipe.specs.Prepared.{IsPrepared}
use Rattle.dcc_pipe.specs.Simplified.{IsSimplifiedGraph, HasEachChanged}
use Rattle.dcc_tidy.specs.Tidied.{IsTidiedGraph}
use Rattle.dcc_pipe.proofs.CallBlocks.{first-at, call-has}
use Rattle.dcc_pipe.proofs.HeldPaths.{closed-before}
use Rattle.dcc_pipe.proofs.PassingLaws.{simplified-entry}
use Rattle.dcc_pipe.proofs.PlacePaths.{closed-holds}
use Rattle.dcc_pipe.proofs.PreparedFits.{left-simplified}
use Rattle.dcc_pipe.proofs.PreparedLaws.{all-changed}
use Rattle.dcc_pipe.proofs.ReplacedLaws.{alike-at}
use Rattle.dcc_pipe.proofs.ReturnLaws.{end_of, ends, trimmed-ends, packed-ends, simplified-ends}
use Rattle.dcc_pipe.proofs.SimplifiedLaws.{all-both}
use Rattle.dcc_pipe.proofs.StepPlaces.{step-there}
use Rattle.dcc_pipe.proofs.TidiedLaws.{kind-ends}
use Rattle.dcc_tidy.proofs.GraphLaws.{graphs-tidied}

-- Blocks with a step.

-- a block with a Call has a step, and one that returns
calls-step : (stmts : List Stmt) (exit : Exit) → flat_map calls_of stmts ≢ [] → only_goes stmts exit ≡ false
calls-step [] exit calls = absurd (calls refl)
calls-step (stmt ∷ stmts) exit calls = refl

returns-step : (stmts : List Stmt) (exit : Exit) → is_ret exit ≡ true → only_goes stmts exit ≡ false
returns-step [] exit is = go exit is
  where
    go : (exit : Exit) → is_ret exit ≡ true → only_goes [] exit ≡ false
    go (Ret values) is = refl
    go exit is = cc
returns-step (stmt ∷ stmts) exit is = refl

-- the graph that an entry has is that of the program
graph-there : (o : Option Graph) (k : ℕ) → k < length (graph_or_none o).blocks → o ≡ Some (graph_or_none o)
graph-there None k inside = absurd (omega (arith, inside))
graph-there (Some graph) k inside = refl

-- Where blocks return of what is prepared, and of what is tidied of that.

abbrev HasEndsOf : Graph → Graph → Type 0
HasEndsOf g h = (h.entry ≡ g.entry) × (ends h ≡ ends g)

-- the second program keeps the first one's runs, its graphs are well formed, and their blocks return where the first
-- one's do
pub record KeepsReturns (p q : Program) : Type 0 where
  pub formed : All IsGraph q.graphs
  pub keeps : Keeps p q
  pub returning : (entry : ℕ)
      → ends (graph_or_none (graph_at q.graphs entry)) ≡ ends (graph_or_none (graph_at p.graphs entry))

prepared-ends : (p q : Program) → IsPrepared p q → (entry : ℕ)
    → ends (graph_or_none (graph_at q.graphs entry)) ≡ ends (graph_or_none (graph_at p.graphs entry))
prepared-ends p q is entry =
    let trim = trim_by p.graphs is.sums in
    let just = localised is.sums p in
    alike-at IsSimplifiedGraph ends simplified-entry simplified-ends (packed just).graphs q.graphs is.made.graphs entry
    ∙ alike-at HasEndsOf ends (λ g h both. both.0) (λ g h both. both.1) just.graphs (packed just).graphs
    (all-changed HasEndsOf pack_graph (λ g. (refl, packed-ends g)) just.graphs) entry
    ∙ alike-at HasEndsOf ends (λ g h both. both.0) (λ g h both. both.1) p.graphs just.graphs
    (all-changed HasEndsOf (trim_graph trim) (λ g. (refl, trimmed-ends trim g)) p.graphs) entry

-- what is tidied of a prepared program keeps them
tidied-keeps : (ids : List ℕ) (p q r : Program) → IsPrepared p q → HasEachChanged (IsTidiedGraph ids) q r
    → KeepsReturns p r
tidied-keeps ids p q r is tidy =
    let simplified = left-simplified p q is ids r tidy in
    let each = graphs-tidied ids q.graphs r.graphs tidy.graphs in record {
      formed = simplified.textable.formed.graphs;
      keeps = simplified.keeps;
      returning = λ entry.
          alike-at IsTidied ends (λ g h is. is.kind.entry) (λ g h is. kind-ends g h is.kind) q.graphs r.graphs each entry
          ∙ prepared-ends p q is entry;
    }

-- The flow graph of a procedure that is found, with a block of the prelude or without.

module _ (image : Image) (layout : Layout) (proc : Proc) (found : IsFound image layout proc) where
  abbrev flow : Flow
  flow = procedure_flow proc

  of-trails : IsFlowOfTrails image layout proc.entry flow
  of-trails = found-flow image layout proc found

  own-flow : IsFlow flow
  own-flow = record {
    tail = λ a b goes.
        let edge = ((of-trails).edges a b).0 goes in
        ((of-trails).nodes a).1 (record { before = edge.before; trail = edge.trail.1 });
    head = λ a b goes.
        let edge = ((of-trails).edges a b).0 goes in
        ((of-trails).nodes b).1 (record { before = a ∷ edge.before; trail = edge.trail });
  }

  start-has : flow.has proc.entry ≡ true
  start-has = ((of-trails).nodes proc.entry).1 (record { before = []; trail = refl })

  -- a flow graph that has the procedure's edges, and reaches its entry
  record Covers (wider : Flow) : Type 0 where
    is_flow : IsFlow wider
    begins : Reached wider proc.entry
    edges : (a b : ℕ) → flow.goes a b ≡ true → wider.goes a b ≡ true

  own-covers : Covers flow
  own-covers = record { is_flow = own-flow; begins = inl (refl, start-has); edges = λ a b goes. goes }

  prelude-covers : (prelude : ℕ) → Covers (after_prelude prelude flow)
  prelude-covers prelude = record {
    is_flow = record { tail = tail; head = head };
    begins = inr ([], first);
    edges = λ a b goes. or_there ((prelude == a) && (proc.entry == b)) (flow.goes a b) goes;
  }
    where
      first : (after_prelude prelude flow).goes prelude proc.entry ≡ true
      first =
          or_here ((prelude == prelude) && (proc.entry == proc.entry)) (flow.goes prelude proc.entry)
          (and_both (prelude == prelude) (proc.entry == proc.entry) (same_number prelude) (same_number proc.entry))

      tail : (a b : ℕ) → (after_prelude prelude flow).goes a b ≡ true → (after_prelude prelude flow).has a ≡ true
      tail a b goes = elim (or_cases ((prelude == a) && (proc.entry == b)) (flow.goes a b) goes) [
        | inl begins ↦ or_here (prelude == a) (flow.has a) (and_left (prelude == a) (proc.entry == b) begins)
        | inr edge ↦ or_there (prelude == a) (flow.has a) ((own-flow).tail a b edge)
      ]

      head : (a b : ℕ) → (after_prelude prelude flow).goes a b ≡ true → (after_prelude prelude flow).has b ≡ true
      head a b goes = elim (or_cases ((prelude == a) && (proc.entry == b)) (flow.goes a b) goes) [
        | inl begins ↦
            or_there (prelude == b) (flow.has b)
            (subst (λ n. flow.has n ≡ true) (eqb-true proc.entry b (and_right (prelude == a) (proc.entry == b) begins))
            start-has)
        | inr edge ↦ or_there (prelude == b) (flow.has b) ((own-flow).head a b edge)
      ]

  module _ (wider : Flow) (covers : Covers wider) where
    -- each instruction is reached
    node-reached : (at : ℕ) (before : List ℕ) → IsTrail image layout proc.entry (at ∷ before) → Reached wider at
    node-reached at [] trail = subst (Reached wider) (sym trail) covers.begins
    node-reached at (from ∷ before) trail =
        reached_along wider Any from [] at (node-reached from before trail.1)
        (covers.edges from at (((of-trails).edges from at).1 (record { before = before; trail = trail })))

    still-reached : (a : ℕ) → Reached flow a → Reached wider a
    still-reached a reached =
        let node = ((of-trails).nodes a).0 (reached_has flow own-flow a reached) in
        node-reached a node.before node.trail

module _ (image : Image) (program : Analysed) (p q : Program) (is : IsTranslated image program p)
    (kept : KeepsReturns p q) (control : Control) (controls : AreControls control q) where
  open program use {layout}

  module _ (entry : ℕ) where
    abbrev graph : Graph
    graph = graph_or_none (graph_at q.graphs entry)

    abbrev keeps : ℕ → Bool
    keeps at = keeps_step control q (record { entry = entry; at = at })

    step-kept : (n : ℕ) → n < length graph.blocks → has_step graph (control graph) n ≡ true
        → keeps (block_in graph n).at ≡ true
    step-kept n inside has = step-there graph (control graph) n inside has

    -- a block that does more than to go on to another is kept
    does-kept : (n : ℕ) → n < length graph.blocks
        → only_goes (block_in graph n).stmts (block_in graph n).exit ≡ false → keeps (block_in graph n).at ≡ true
    does-kept n inside does =
        step-kept n inside
        (or_there (is_begun (control graph) n) (not (only_goes (block_in graph n).stmts (block_in graph n).exit))
        (ap not does))

    -- The graph is one of the program, where it has a block.
    module _ (k : ℕ) (inside : k < length graph.blocks) where
      among : Contains q.graphs graph
      among =
          found_contained (λ (g : Graph). g.entry == entry) q.graphs graph
          (graph-there (graph_at q.graphs entry) k inside)

      formed : IsGraph graph
      formed = All-contains IsGraph q.graphs graph kept.formed among

      returns : BeginsReturns graph (control graph)
      returns = (All-contains (λ g. IsControlOf g (control g)) q.graphs graph controls among).returns

    closed-kept : (a : ℕ) (between : List ℕ) → Reached (flow_at q entry) a
        → IsPath (flow_at q entry).goes Any a between a → list_any keeps (a ∷ between) ≡ true
    closed-kept a between reached path =
        let block =
        passing (λ (b : Block). b.at == a) graph.blocks (reached_has (flow_of graph) (flow_of-flow graph) a reached) in
        let inside = slice_get_within graph.blocks block.place block.element block.found in
        closed-holds graph (formed block.place inside).addresses (has_step graph (control graph)) keeps step-kept
        (returns block.place inside) a between reached path

    -- a block with a Call is kept
    call-kept : (at : ℕ) → (flow_at q entry).has at ≡ true → calls_at q entry at ≢ [] → keeps at ≡ true
    call-kept at has calls =
        let first = first-at graph.blocks at has in
        let there = found_contained (λ (b : Block). b.at == at) graph.blocks first.block first.found in
        let here : block_in graph there.0 ≡ first.block =
        get_or_default graph.blocks there.0 no_block first.block there.1 ∙ there.2 in
        let stmts : flat_map calls_of (block_in graph there.0).stmts ≢ [] =
        subst (λ (b : Block). flat_map calls_of b.stmts ≢ []) (sym here)
        (subst (λ o. flat_map calls_of (block_or_none o).stmts ≢ []) first.found calls) in
        subst (λ n. keeps n ≡ true) (ap (λ (b : Block). b.at) here ∙ first.address)
        (does-kept there.0 there.1
        (calls-step (block_in graph there.0).stmts (block_in graph there.0).exit stmts))

    -- a block is kept that ends in a return where it comes from
    return-kept : (block : Block) → Contains (graph_or_none (graph_at p.graphs entry)).blocks block
        → is_ret block.exit ≡ true → keeps block.at ≡ true
    return-kept block has is =
        let before = (graph_or_none (graph_at p.graphs entry)).blocks in
        let same = kept.returning entry in
        let k = has.0 in
        let inside : k < length graph.blocks =
        subst (λ n. k < n) (sym (length-map before end_of) ∙ ap length (sym same) ∙ length-map graph.blocks end_of)
        has.1 in
        let end : end_of (block_in graph k) ≡ end_of block =
        sym (get_or-map end_of graph.blocks k no_block (end_of no_block) inside)
        ∙ ap (λ (es : List (ℕ × Bool)). get_or es k (end_of no_block)) same
        ∙ get_or-map end_of before k block (end_of no_block) has.1 ∙ ap end_of has.2 in
        subst (λ n. keeps n ≡ true) (ap (λ (e : ℕ × Bool). e.0) end)
        (does-kept k inside
        (returns-step (block_in graph k).stmts (block_in graph k).exit (ap (λ (e : ℕ × Bool). e.1) end ∙ is)))

  -- Of a procedure: the blocks of what is prepared are those of its instructions.

  abbrev Holds : Proc → Type 0
  Holds proc = HoldsPathsOf p (keeps proc.entry) proc

  module _ (proc : Proc) (found : IsFound image layout proc) (is_entry : IsEntry image layout proc.entry) (wider : Flow)
      (covers : Covers image layout proc found wider) (has : HasBlocksOf wider p proc) where
    abbrev before : Graph
    before = graph_or_none (graph_at p.graphs proc.entry)

    whole : IsContraction wider (flow_at q proc.entry)
    whole =
        contraction_trans wider (flow_at p proc.entry) (flow_at q proc.entry) covers.is_flow (flow_of-flow before)
        (flow_of-flow (graph proc.entry)) has.contraction (kept.keeps.flow proc.entry)

    called-kept : (call : ℕ × Node) (target : ℕ) → IsNodeFound image layout proc.entry call
        → call.1.instr.op ≡ CallOp target → (flow_at p proc.entry).has call.0 ≡ true
        → keeps proc.entry call.0 ≡ true
    called-kept call target is_node calls begins =
        let stands : StandsAt image layout call.0 (CallOp target) = (call.1.instr, is_node.instr, calls) in
        let some = call-has image program p is proc.entry is_entry call.0 target is_node.node stands begins in
        let reached =
        reached_still wider (flow_at p proc.entry) covers.is_flow (flow_of-flow before) has.contraction call.0
        (node-reached image layout proc found wider covers call.0 is_node.node.before is_node.node.trail) begins in
        let stay = kept.keeps.calls proc.entry in
        let there = stay.kept call.0 reached some in
        call-kept proc.entry call.0 there (λ none. some (sym (stay.same call.0 reached there) ∙ none))

    holds : Holds proc
    holds = record {
      cycles = λ a between reached path.
          closed-before wider (flow_at q proc.entry) covers.is_flow (flow_of-flow (graph proc.entry)) whole
          (keeps proc.entry) (closed-kept proc.entry) a between
          (still-reached image layout proc found wider covers a reached)
          (path-along (procedure_flow proc).goes wider.goes covers.edges a between a path);
      calls =
          All-weaker (Contains proc.nodes.entries)
          (λ (call : ℕ × Node). (target : ℕ) → call.1.instr.op ≡ CallOp target → keeps proc.entry call.0 ≡ true)
          (λ call there target calls.
          called-kept call target
          (All-contains (IsNodeFound image layout proc.entry) proc.nodes.entries call found.nodes there) calls
          (All-contains
          (λ (call : ℕ × Node). (target : ℕ) → call.1.instr.op ≡ CallOp target
          → IsBlockOfCall (flow_at p proc.entry) call) proc.nodes.entries call has.calls there target calls).begins)
          proc.nodes.entries (All-contains_itself proc.nodes.entries);
      returns =
          All-weaker (Contains before.blocks)
          (λ (block : Block). (values : List Expr) → block.exit ≡ Ret values → keeps proc.entry block.at ≡ true)
          (λ block there values exit. return-kept proc.entry block there (ap is_ret exit)) before.blocks
          (All-contains_itself before.blocks);
    }

  -- Of all procedures.

  abbrev IsThere : Proc → Type 0
  IsThere proc = IsFound image layout proc × IsEntry image layout proc.entry

  others-hold : (procs : List Proc) → All IsThere procs
      → All (λ proc. HasBlocksOf (procedure_flow proc) p proc) procs → All Holds procs
  others-hold [] there has = All-nil Holds
  others-hold (proc ∷ procs) there has =
      let first = All-head IsThere proc procs there in
      All-cons Holds proc procs
      (holds proc first.0 first.1 (procedure_flow proc) (own-covers image layout proc first.0)
      (All-head (λ r. HasBlocksOf (procedure_flow r) p r) proc procs has))
      (others-hold procs (All-tail IsThere proc procs there)
      (All-tail (λ r. HasBlocksOf (procedure_flow r) p r) proc procs has))

  all-hold : (procs : List Proc) → All IsThere procs → AllHaveBlocks image p procs → All Holds procs
  all-hold [] there has = All-nil Holds
  all-hold (start ∷ procs) there has =
      let first = All-head IsThere start procs there in
      All-cons Holds start procs
      (holds start first.0 first.1 (after_prelude image.ip (procedure_flow start))
      (prelude-covers image layout start first.0 image.ip) has.0)
      (others-hold procs (All-tail IsThere start procs there) has.1)

  pub steps-hold : HoldsPaths program p (keeps_step control q)
  steps-hold =
      let procs = is.of_file.is_program.procs in
      all-hold program.procs.items
      (all-both (IsFound image layout) (λ (proc : Proc). IsEntry image layout proc.entry) program.procs.items
      procs.found procs.reached)
      (have-blocks image program p is)

-- The machine keeps pace with what is tidied of what is prepared of a lifted program.
pub tidied-paced : (ids : List ℕ) (image : Image) (program : Analysed) (p q r : Program)
    → IsProgramOfFile program.layout.cpu image program → IsLiftOf image program p → IsPrepared p q
    → HasEachChanged (IsTidiedGraph ids) q r → KeepsPaceWith image program r
tidied-paced ids image program p q r of_file lift prepared tidy control controls =
    let is : IsTranslated image program p = record { of_file = of_file; translation = lift.translation } in
    kept-paced image program p (keeps_step control r) is
    (steps-hold image program p r is (tidied-keeps ids p q r prepared tidy) control controls)
