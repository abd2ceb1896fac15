-- The lifted program has the machine's relations where each instruction does what its statements do.
use Rattle.std.proofs.Common.{◌≡◌, ℕ, ℤ, zero, suc, Bool, true, false, inl, inr, List, [], ◌∷◌, ◌++◌, map, Option, Some, None, All, refl, sym, ap, ◌∙◌, subst, true≢false, arith}
use Rattle.std.specs.Prelude.{Contains, get_or, ◌==◌, if◌then◌else◌}
use Rattle.std.proofs.lemmas.List.Elements.{All-nil, All-cons, All-head, All-tail, All-append}
use Rattle.dcc_machine.specs.declared.instr.Op.{Op}
use Rattle.dcc_machine.specs.declared.instr.Op.TheVariants.{Call}
use Rattle.dcc_prog.specs.declared.refusal.ConstructKind.TheVariants.{EntryReturn}
use Rattle.dcc_prog.specs.Construct.{ReturnsFromEntry, entry_return}
use Rattle.dcc_prog.specs.Found.{IsNodeFound}
use Rattle.dcc_ir.specs.Tree.{Stmt, Exit, Block, Graph}
use Rattle.dcc_ir.specs.Live.{block_in}
use Rattle.dcc_ir.specs.Run.{no_block}
use Rattle.dcc_ir.proofs.PathLaws.{decided}
use Rattle.dcc_sums.specs.Points.{Ends, site_at, site_of, is_return}
use Rattle.dcc_lift.specs.Blocks.{block_place, node_exit, last_of, leaders, IsBlockAt}
use Rattle.dcc_lift.specs.Translation.{prelude_block}
use Rattle.dcc_lift.proofs.NodeLaws.{node_in_holds}
use Rattle.dcc_lift.proofs.BlockLaws.{blocks_all}
use Rattle.dcc_lift.proofs.TranslationLaws.{front_of, graph-blocks}
use Rattle.dcc_refinement.specs.Steps.{CallNothing}
use Rattle.dcc_lifted_demand.specs.InstructionPoints.{is_ret, returns_in}
use Rattle.dcc_lifted_demand.proofs.InstructionLaws.{exit_returns, a_ret}
use Rattle.dcc_lifted_demand.proofs.EdgeLaws.{callee_by}
use Rattle.dcc_machine.specs.declared.image.Image.{Image}
use Rattle.dcc_prog.specs.declared.procedure.Layout.{Layout}
use Rattle.dcc_prog.specs.declared.procedure.Node.{Node}
use Rattle.dcc_prog.specs.declared.frame.Program.{Program as Analysed}
use Rattle.dcc_ir.specs.declared.syntax.Loc.{Loc}
use Rattle.dcc_ir.specs.Tree.{Program, Stop}
use Rattle.dcc_ir.specs.Flow.{graph_or_none}
use Rattle.dcc_ir.proofs.LocationLaws.{Contains-none}
use Rattle.dcc_num.specs.declared.Width.TheVariants.{Byte as byte_width}
use Rattle.dcc_ops.specs.OperandPlace.{byte}
use Rattle.dcc_simulation.specs.Procedures.{Procedure, procedure_at, cells_of, frame_place}
use Rattle.dcc_simulation.specs.Nodes.{procedures_in}
use Rattle.dcc_simulation.proofs.CellSlots.{IsSmall}
use Rattle.dcc_lift.specs.Blocks.{node_in, successors_in, BlockSource, nodes_in, entry_in}
use Rattle.dcc_lift.specs.Sound.{AreSound}
use Rattle.dcc_lift.specs.Translated.{IsTranslated}
use Rattle.dcc_lift.proofs.FoundSound.{found-sound}
use Rattle.dcc_lift.proofs.ListTests.{any_contained}
use Rattle.dcc_lift.proofs.NodeLaws.{node_in_some, entry_is_node, successor_is_node}
use Rattle.dcc_machine_demand.specs.Bodies.{Body, bodies_of}
use Rattle.dcc_machine_demand.specs.Holders.{Holder, held, in_frame}
use Rattle.dcc_machine_demand.specs.Holders as asked
use Rattle.dcc_machine_demand.specs.Instance as asks
use Rattle.dcc_sums.specs.Points.{Position, begin_of}
use Rattle.dcc_sums.specs.Instance as sums
use Rattle.dcc_demand.specs.Procedures.{Procedures}
use Rattle.dcc_refinement.specs.Refinement.{Refinement, EdgesAgree, EntriesAgree, IsSettled, IsApart, IsRefined}
use Rattle.dcc_lifted_demand.specs.InstructionsHavePoints.{HasInstructions}
use Rattle.dcc_lifted_demand.proofs.InstructionLaws.{instructions-have_points}
use Rattle.dcc_lifted_demand.specs.LiftedRefinement.{IsSame, scenes_in, scene_at, steps_in, begin_in, lifted_refinement}
use Rattle.dcc_lifted_demand.specs.LiftedIsRefined.{machine, inner, InstructionsAgree, LiftedIsRefined}
use Rattle.dcc_lifted_demand.proofs.LinkLaws.{BeginsAt, Linked, Missing, Standing, standing}
use Rattle.dcc_lifted_demand.proofs.EdgeLaws as edges
use Rattle.dcc_lifted_demand.proofs.SameLaws as same

module _ (image : Image) (program : Analysed) (p : Program) (is : IsTranslated image program p) where
  abbrev pub layout : Layout
  layout = program.layout

  abbrev pub coarse : Procedures ℕ Holder ℤ
  coarse = machine image program p

  abbrev pub fine : Procedures Position Loc Loc
  fine = inner image program p

  abbrev pub r : Refinement ℕ Holder ℤ Position Loc Loc
  r = lifted_refinement program

  abbrev pub Link : ℕ → Type 0
  Link entry = Linked (λ found. found.entries) image layout (procedures_in program) layout.start_ip 1 program.procs.items program.cells.frames.items program.heights.at.items p.graphs entry

  abbrev pub Lack : ℕ → Type 0
  Lack entry = Missing (λ found. found.entries) image layout (procedures_in program) layout.start_ip 1 program.procs.items program.cells.frames.items program.heights.at.items p.graphs entry

  pub stands : (entry : ℕ) → Standing (λ found. found.entries) image layout (procedures_in program) layout.start_ip 1 program.procs.items program.cells.frames.items program.heights.at.items p.graphs entry
  stands entry =
      let found = is.of_file.is_program.procs in
      standing (λ found. found.entries) image layout (procedures_in program) layout.start_ip entry 1 program.procs.items program.cells.frames.items program.heights.at.items p.graphs (omega arith)
      (inr (subst (BeginsAt layout.start_ip) (sym found.order.procs_are) found.order.first))
      is.of_file.is_program.cells.frames is.of_file.is_program.heights.at is.translation.graphs found.found found.reached

  -- A procedure with its graph.

  holds_at : {A : Type 0} (P : A → Type 0) (xs : List A) (k : ℕ) (d : A) → All P xs → P d → P (get_or xs k d)
  holds_at P [] k d all e = e
  holds_at P (x ∷ xs) zero d all e = All-head P x xs all
  holds_at P (x ∷ xs) (suc k) d all e = holds_at P xs k d (All-tail P x xs all) e

  module _ (entry : ℕ) (x : Link entry) where
    abbrev pub body : Body
    body = record { proc = x.proc; frame = x.frame; heights = x.own }

    abbrev pub procedure : Procedure
    procedure = record { proc = x.proc; frame = x.frame; delta = layout.delta }

    abbrev pub scene : BlockSource
    scene = record { cpu = layout.cpu; procedures = procedures_in program; procedure = procedure; heights = x.own; before = x.first }

    pub sound : AreSound (nodes_in scene) (entry_in scene) image.ip
    sound = found-sound image layout program.procs.items is.of_file.is_program.procs is.of_file.loaded is.of_file.is_program.layout x.proc x.reached x.found

    pub has : HasInstructions scene x.graph
    has = instructions-have_points image layout scene x.graph x.is_graph sound x.few

    pub coarse_is : coarse.procedure entry ≡ asks.procedure_of (bodies_of program) body
    coarse_is = ap (asks.procedure_or_none (bodies_of program)) x.body_found

    pub fine_is : fine.procedure entry ≡ sums.procedure_of x.graph
    fine_is = ap (λ o. sums.procedure_of (graph_or_none o)) x.graph_found

    edges_linked : (at : ℕ) → EdgesAgree coarse fine r entry at
    edges_linked = edges.edges_along coarse fine r entry (bodies_of program) body x.graph scene (scene_at (scenes_in program) entry) x.are_heights.nodes refl coarse_is fine_is x.scene_found (λ at. refl) (λ at. refl) has

    settled_node : (at : ℕ) (node : Node) → node_in (nodes_in scene) at ≡ Some node → IsSettled coarse fine r entry at
    settled_node at node e =
        edges.settled_along coarse fine r entry (bodies_of program) body x.graph scene (scene_at (scenes_in program) entry) x.are_heights.nodes refl coarse_is fine_is x.scene_found (λ at. refl) (λ at. refl) has (has.settled at node e)

    settled_linked : (at b : ℕ) → Contains ((coarse.procedure entry).next at) b → IsSettled coarse fine r entry b
    settled_linked at b c =
        let there = subst (λ xs. Contains xs b) (edges.successors coarse fine r entry (bodies_of program) body x.graph scene (scene_at (scenes_in program) entry) x.are_heights.nodes refl coarse_is fine_is x.scene_found (λ at. refl) (λ at. refl) has at) c in
        let node = node_in_some (nodes_in scene) b (successor_is_node (nodes_in scene) (entry_in scene) image.ip sound at b (any_contained (successors_in (node_in (nodes_in scene) at)) b there)) in
        settled_node b node.0 node.1

    pub begins_linked : x.first ≡ 0 → r.begin entry (coarse.procedure entry).entry ≡ (fine.procedure entry).entry
    begins_linked e =
        ap (r.begin entry) (ap (λ g. g.entry) coarse_is)
        ∙ ap (λ o. begin_in o x.proc.entry) x.scene_found ∙ has.entry e ∙ sym (ap (λ g. g.entry) fine_is)

    settled_entry_linked : IsSettled coarse fine r entry (coarse.procedure entry).entry
    settled_entry_linked =
        let node = node_in_some (nodes_in scene) (entry_in scene) (entry_is_node (nodes_in scene) (entry_in scene) image.ip sound) in
        subst (λ at. IsSettled coarse fine r entry at) (sym (ap (λ g. g.entry) coarse_is)) (settled_node (entry_in scene) node.0 node.1)

    pub small_linked : (found : Procedure) → procedure_at (procedures_in program) entry ≡ Some found → All IsSmall (cells_of found)
    small_linked found e =
        let one : procedure ≡ found = cc (x.procedure_found, e) in
        subst (λ q. All IsSmall (cells_of q)) one (same.small_cells image layout x.proc.entry procedure x.is_frame.cells)

    exposed_linked : (place : Holder) (location : Loc) → (coarse.procedure entry).is_exposed place ≡ true → IsSame (procedure_at (procedures_in program) entry) place location → ⊥
    exposed_linked place location e s = by (sym (ap (λ g. g.is_exposed place) coarse_is) ∙ e) s
      where
        by : {place : Holder} {location : Loc} → asked.is_exposed_holder body place ≡ true → IsSame (procedure_at (procedures_in program) entry) place location → ⊥
        by e (IsSame.is_held t) = true≢false (sym e)
        by e (IsSame.is_kept {found = found} {k = k} {location = location} f g) =
            let one : procedure ≡ found = cc (x.procedure_found, f) in
            same.exposed_unkept procedure k location e
            (subst (λ q. frame_place q byte_width k ≡ byte location) (sym one) g)

  -- One that isn't there.

  module _ (entry : ℕ) (x : Lack entry) where
    pub coarse_none : coarse.procedure entry ≡ asks.no_procedure
    coarse_none = ap (asks.procedure_or_none (bodies_of program)) x.body_none

    pub fine_none : fine.procedure entry ≡ sums.procedure_of (graph_or_none None)
    fine_none = ap (λ o. sums.procedure_of (graph_or_none o)) x.graph_none

    pub steps_none : (at : ℕ) → r.steps entry at ≡ begin_of 0 ∷ []
    steps_none at = ap (λ o. steps_in o at) x.scene_none

    pub begin_none : (at : ℕ) → r.begin entry at ≡ begin_of 0
    begin_none at = ap (λ o. begin_in o at) x.scene_none

    one_step : (before : List Position) (step : Position) (a : Position) → a ∷ [] ≡ before ++ (step ∷ []) → a ≡ step
    one_step [] step a e = cc e
    one_step (y ∷ []) step a e = absurd (cc e)
    one_step (y ∷ z ∷ before) step a e = absurd (cc e)

    no_more : (before after : List Position) (step next a : Position) → a ∷ [] ≡ before ++ (step ∷ next ∷ after) → ⊥
    no_more [] after step next a e = cc e
    no_more (y ∷ []) after step next a e = cc e
    no_more (y ∷ z ∷ before) after step next a e = cc e

    edges_none : (at : ℕ) → EdgesAgree coarse fine r entry at
    edges_none at = record {
      begins = λ step steps e. begin_none at ∙ (let one : begin_of 0 ≡ step = cc (steps_none at, e) in one);
      goes = λ b c. absurd (Contains-none b (subst (λ g. Contains (g.next at) b) coarse_none c));
      within = λ before after step next e. absurd (no_more before after step next (begin_of 0) (sym (steps_none at) ∙ e));
      comes = λ before step to e c.
          let one = one_step before step (begin_of 0) (sym (steps_none at) ∙ e) in
          absurd (Contains-none to (subst (λ a. Contains ((sums.procedure_of (graph_or_none None)).next a) to) (sym one) (subst (λ g. Contains (g.next step) to) fine_none c)));
      returns = λ before step e.
          let one = one_step before step (begin_of 0) (sym (steps_none at) ∙ e) in
          ap (λ g. g.returns step) fine_none ∙ ap (λ a. (sums.procedure_of (graph_or_none None)).returns a) (sym one) ∙ sym (ap (λ g. g.returns at) coarse_none);
      alone = λ t. absurd (true≢false (sym t ∙ ap (λ g. g.returns at) coarse_none));
    }

  -- The entry procedure neither returns nor is called.

  a_call : (op : Op) (target : ℕ) → asks.callee_of op ≡ Some target → op ≡ Call target
  a_call (Call other) target e = cc e
  a_call op target e = absurd (cc e)

  module _ (entry : ℕ) (x : Link entry) where
    -- what stands at an offset
    pub found_there : (at : ℕ) (node : Node) → node_in (nodes_in (scene entry x)) at ≡ Some node → IsNodeFound image layout x.proc.entry (at, node)
    found_there at node e = node_in_holds (IsNodeFound image layout x.proc.entry) (nodes_in (scene entry x)) at node x.found.nodes e

    stays : entry ≡ layout.start_ip → (at : ℕ) → returns_in (node_in (nodes_in (scene entry x)) at) ≡ false
    stays e at = by (node_in (nodes_in (scene entry x)) at) refl
      where
        by : (o : Option Node) → node_in (nodes_in (scene entry x)) at ≡ o → returns_in o ≡ false
        by None f = refl
        by (Some node) f = elim (decided (is_ret node.instr.op)) [
          | inr n ↦ n
          | inl t ↦
              let there = found_there at node f in
              let op = a_ret node.instr.op t in
              absurd (is.of_file.is_program.procs.no_construct EntryReturn at (record {
                entry = x.proc.entry;
                is_entry = x.reached;
                node = there.node;
                stands = entry_return (ReturnsFromEntry.returns (x.entry_is ∙ e) (node.instr, there.instr, op.1));
              }))
        ]

    uncalled_by : (at : ℕ) → ¬ (callee_by (node_in (nodes_in (scene entry x)) at) ≡ Some layout.start_ip)
    uncalled_by at = by (node_in (nodes_in (scene entry x)) at) refl
      where
        by : (o : Option Node) → node_in (nodes_in (scene entry x)) at ≡ o → ¬ (callee_by o ≡ Some layout.start_ip)
        by None f e = cc e
        by (Some node) f e =
            let there = found_there at node f in
            is.of_file.is_program.procs.no_construct EntryReturn at (record {
              entry = x.proc.entry;
              is_entry = x.reached;
              node = there.node;
              stands = entry_return (ReturnsFromEntry.calls (node.instr, there.instr, a_call node.instr.op layout.start_ip e));
            })

    abbrev Stays : Block → Type 0
    Stays block = is_return (Ends block.exit) ≡ false

    own_stays : entry ≡ layout.start_ip → (at : ℕ) (block : Block) → IsBlockAt (scene entry x) at block → Stays block
    own_stays e at block is_block =
        ap (λ b. is_return (Ends b)) is_block.exit_is ∙ by (node_in (nodes_in (scene entry x)) (last_of at is_block.rest)) refl
      where
        by : (o : Option Node) → node_in (nodes_in (scene entry x)) (last_of at is_block.rest) ≡ o → is_return (Ends (node_exit (scene entry x) o)) ≡ false
        by None f = refl
        by (Some node) f = exit_returns (procedure entry x) node.instr.op (map (block_place (scene entry x)) node.succ.items) ∙ sym (ap returns_in f) ∙ stays e (last_of at is_block.rest)

    front_stays : (b : Bool) → All Stays (if b then [] else prelude_block image layout (scene entry x) ∷ [])
    front_stays true = All-nil Stays
    front_stays false = All-cons Stays (prelude_block image layout (scene entry x)) [] refl (All-nil Stays)

    blocks_stay : entry ≡ layout.start_ip → All Stays x.graph.blocks
    blocks_stay e =
        subst (All Stays) (sym (ap (λ (g : Graph). g.blocks) x.is_graph.graph_is ∙ graph-blocks image layout (scene entry x) x.is_graph.blocks))
        (All-append Stays (front_of image layout (scene entry x)) x.is_graph.blocks (front_stays (x.first == 0))
        (blocks_all (scene entry x) Stays (leaders (nodes_in (scene entry x)) (entry_in (scene entry x))) x.is_graph.blocks x.is_graph.blocks_are (λ at block leads is_block. own_stays e at block is_block)))

    site_stays : (n : ℕ) (stmts : List Stmt) (exit : Exit) → is_return (Ends exit) ≡ false → is_return (site_at n stmts exit) ≡ false
    site_stays zero [] exit e = e
    site_stays zero (s ∷ stmts) exit e = refl
    site_stays (suc n) [] exit e = refl
    site_stays (suc n) (s ∷ stmts) exit e = site_stays n stmts exit e

    fine_stays : entry ≡ layout.start_ip → (step : Position) → is_return (site_of x.graph step) ≡ false
    fine_stays e step = site_stays step.done (block_in x.graph step.block).stmts (block_in x.graph step.block).exit (holds_at Stays x.graph.blocks step.block no_block (blocks_stay e) refl)

    coarse_returns : (at : ℕ) → (coarse.procedure entry).returns at ≡ returns_in (node_in (nodes_in (scene entry x)) at)
    coarse_returns = edges.returns_there coarse fine r entry (bodies_of program) (body entry x) x.graph (scene entry x) (scene_at (scenes_in program) entry) x.are_heights.nodes refl (coarse_is entry x) (fine_is entry x) x.scene_found (λ at. refl) (λ at. refl) (has entry x)

    coarse_callees : (at : ℕ) → ((coarse.procedure entry).action at).callee ≡ callee_by (node_in (nodes_in (scene entry x)) at)
    coarse_callees = edges.callees coarse fine r entry (bodies_of program) (body entry x) x.graph (scene entry x) (scene_at (scenes_in program) entry) x.are_heights.nodes refl (coarse_is entry x) (fine_is entry x) x.scene_found (λ at. refl) (λ at. refl) (has entry x)

  start_uncalled : (caller at : ℕ) → ¬ (((coarse.procedure caller).action at).callee ≡ Some layout.start_ip)
  start_uncalled caller at e = elim (stands caller) [
    | Standing.linked x ↦ uncalled_by caller x at (sym (coarse_callees caller x at) ∙ e)
    | Standing.missing x ↦ none_called (sym (ap (λ g. (g.action at).callee) (coarse_none caller x)) ∙ e)
  ]
    where
      none_called : {target : ℕ} → None ≡ Some target → ⊥
      none_called e = cc e

  -- A Call is the first point of an instruction.

  none_calls : (n : ℕ) (callee : ℕ) → (sums.action_at 0 (site_at n [] Stop)).callee ≡ Some callee → ⊥
  none_calls zero callee e = cc e
  none_calls (suc n) callee e = cc e

  called : (entry callee : ℕ) (call : Position) → ((fine.procedure entry).action call).callee ≡ Some callee
      → (at : ℕ) × (others : List Position) × (r.steps entry at ≡ call ∷ others)
  called entry callee call e = elim (stands entry) [
    | Standing.linked x ↦
        let found = (has entry x).calls call callee (sym (ap (λ g. (g.action call).callee) (fine_is entry x)) ∙ e) in
        (found.0, found.1, ap (λ o. steps_in o found.0) x.scene_found ∙ found.2)
    | Standing.missing x ↦ absurd (none_calls call.done callee (sym (ap (λ g. (g.action call).callee) (fine_none entry x)) ∙ e))
  ]

  module _ (agree : InstructionsAgree image program p) where
    start_uncalled_inner : (caller : ℕ) (call : Position) → ¬ (((fine.procedure caller).action call).callee ≡ Some layout.start_ip)
    start_uncalled_inner caller call e =
        let there = called caller layout.start_ip call e in
        elim (agree.callees caller there.0) [
          | inl none ↦ cc (e, (subst (λ s. CallNothing (fine.procedure caller) s) there.2 none.1).0)
          | inr calls ↦
              let first : calls.2.call ≡ call = cc (calls.2.steps_are, there.2) in
              let target : calls.0 ≡ layout.start_ip = cc (subst (λ x. ((fine.procedure caller).action x).callee ≡ Some calls.0) first calls.2.calls, e) in
              start_uncalled caller there.0 (calls.1 ∙ ap (λ j. Some j) target)
        ]

    apart : (entry : ℕ) → Link entry → entry ≡ layout.start_ip → IsApart coarse fine r entry
    apart entry x e = record {
      stays = λ at. coarse_returns entry x at ∙ stays entry x e at;
      fine_stays = λ step. ap (λ g. g.returns step) (fine_is entry x) ∙ fine_stays entry x e step;
      uncalled = λ caller at c. start_uncalled caller at (c ∙ ap (λ j. Some j) e);
      fine_uncalled = λ caller call c. start_uncalled_inner caller call (c ∙ ap (λ j. Some j) e);
    }

    entries : (entry : ℕ) → EntriesAgree coarse fine r entry
    entries entry = elim (stands entry) [
      | Standing.linked x ↦ elim x.starts [
        | inl none ↦ inl (begins_linked entry x none)
        | inr start ↦ inr (apart entry x start)
      ]
      | Standing.missing x ↦ inl (begin_none entry x ((coarse.procedure entry).entry) ∙ sym (ap (λ g. g.entry) (fine_none entry x)))
    ]

    -- All together.

    small : (entry : ℕ) (found : Procedure) → procedure_at (procedures_in program) entry ≡ Some found → All IsSmall (cells_of found)
    small entry found e = elim (stands entry) [
      | Standing.linked x ↦ small_linked entry x found e
      | Standing.missing x ↦ absurd (cc (e, x.procedure_none))
    ]

    shared : (i j : ℕ) {L : Holder} {l : Loc} → IsSame (procedure_at (procedures_in program) i) L l → asked.passes L ≡ true → IsSame (procedure_at (procedures_in program) j) L l
    shared i j (IsSame.is_held e) t = IsSame.is_held e
    shared i j (IsSame.is_kept e f) t = absurd (true≢false (sym t))

    exposed : (entry : ℕ) (place : Holder) (location : Loc) → (coarse.procedure entry).is_exposed place ≡ true → IsSame (procedure_at (procedures_in program) entry) place location → ⊥
    exposed entry place location e s = elim (stands entry) [
      | Standing.linked x ↦ exposed_linked entry x place location e s
      | Standing.missing x ↦ true≢false (sym e ∙ ap (λ g. g.is_exposed place) (coarse_none entry x))
    ]

    edges_agree : (entry at : ℕ) → EdgesAgree coarse fine r entry at
    edges_agree entry at = elim (stands entry) [
      | Standing.linked x ↦ edges_linked entry x at
      | Standing.missing x ↦ edges_none entry x at
    ]

    settled_entry : (entry : ℕ) → IsSettled coarse fine r entry (coarse.procedure entry).entry
    settled_entry entry = elim (stands entry) [
      | Standing.linked x ↦ settled_entry_linked entry x
      | Standing.missing x ↦ IsSettled.by_steps (steps_none entry x ((coarse.procedure entry).entry))
    ]

    settled : (entry at b : ℕ) → Contains ((coarse.procedure entry).next at) b → IsSettled coarse fine r entry b
    settled entry at b c = elim (stands entry) [
      | Standing.linked x ↦ settled_linked entry x at b c
      | Standing.missing x ↦ IsSettled.by_steps (steps_none entry x b)
    ]

    refined : IsRefined coarse fine r
    refined = record {
      one = λ i L M l s t. same.one_place (procedure_at (procedures_in program) i) (small i) s t;
      passes = λ i L l s. same.passes_alike (procedure_at (procedures_in program) i) s;
      shared = λ i j L l s t. shared i j s t;
      exposed = exposed;
      unexposed = λ i l. refl;
      changes = agree.changes;
      callees = agree.callees;
      wants = agree.wants;
      edges = edges_agree;
      called = called;
      entries = entries;
      settled_entry = settled_entry;
      settled = settled;
    }

pub lifted-is_refined : LiftedIsRefined
lifted-is_refined image program p is agree = refined image program p is agree
