-- A translated program is a lifting of the procedures that are found: each has its graph, and the block of a CALL has
-- that instruction alone.
use Rattle.std.proofs.Common.{◌≡◌, ◌≢◌, ◌⊎◌, inl, inr, ℕ, zero, suc, pos, Bool, true, false, ◌||◌, ◌==◌, if◌then◌else◌, List, [], ◌∷◌, ◌++◌, map, flat_map, slice_get, Contains, Some, All, refl, sym, ap, ap₂, ◌∙◌, subst, true≢false, eqb-true, eq-eqb, ne_eqb, arith}
use Rattle.std.specs.List.{list_any, AllZip}
use Rattle.std.proofs.lemmas.List.{append-nil}
use Rattle.std.proofs.lemmas.List.Elements.{All-head, All-tail}
use Rattle.std.proofs.lemmas.Option.{slice_get-get_or}
use Rattle.dcc_machine.specs.declared.image.Image.{Image}
use Rattle.dcc_prog.specs.declared.procedure.Layout.{Layout}
use Rattle.dcc_prog.specs.declared.procedure.Node.{Node}
use Rattle.dcc_prog.specs.declared.procedure.Proc.{Proc}
use Rattle.dcc_prog.specs.declared.frame.Frame.{Frame}
use Rattle.dcc_prog.specs.declared.frame.Program.{Program as Analysed}
use Rattle.dcc_machine.specs.declared.instr.Op.TheVariants.{Call}
use Rattle.dcc_prog.specs.Trail.{IsTrail, IsNode, IsEntry}
use Rattle.dcc_prog.specs.Height.{GivesHeight, IsHeight}
use Rattle.dcc_prog.specs.Found.{IsNodeFound, AreFound}
use Rattle.dcc_prog.specs.Analysed.{AreHeightsOf}
use Rattle.dcc_stack.specs.Accepted.{IsAt, IsProgramOfFile}
use Rattle.dcc_stack.proofs.FormLaws.{in-form}
use Rattle.dcc_ir.specs.Tree.{Block, Graph, Program}
use Rattle.dcc_ir.specs.Run.{graph_at}
use Rattle.dcc_simulation.specs.Procedures.{Procedure, procedures_of, procedure_at}
use Rattle.dcc_simulation.specs.Nodes.{procedures_in, IsGraphFor, HasCall, IsLifting}
use Rattle.dcc_simulation.specs.Statements as placed
use Rattle.dcc_simulation.specs.Statements.{calling}
use Rattle.dcc_simulation.specs.Passed.{params_of, exit_of}
use Rattle.dcc_lift.specs.Blocks.{Nodes, node_in, is_call, calls_in, leaders, BlockSource, nodes_in, entry_in, block_place, height_in, node_stmts, stmts_at, node_exit, exit_at, last_of, IsBlockAt}
use Rattle.dcc_lift.specs.Sound.{AreSound}
use Rattle.dcc_lift.specs.Translated.{setting}
use Rattle.dcc_lift.specs.Translation.{prelude_block, IsGraphOf, scenes_of, IsTranslation}
use Rattle.dcc_lift.proofs.ListTests.{any_at}
use Rattle.dcc_lift.proofs.NodeLaws.{is_node, node_in_found, node_in_has, ascending_differ}
use Rattle.dcc_lift.proofs.ChainLaws.{call_ends}
use Rattle.dcc_lift.proofs.BlockLaws.{block_is}
use Rattle.dcc_lift.proofs.FoundSound.{start-unreached, node-listed, listed-found, found-sound}
use Rattle.dcc_lift.proofs.TranslationLaws.{front_of, graph-blocks, IsLocated, before_in, located}

-- Lists.

pub zip-map : {A B C : Type 0} (R : A → C → Type 0) (f : B → C) (xs : List A) (ys : List B)
    → AllZip (λ x y. R x (f y)) xs ys → AllZip R xs (map f ys)
zip-map R f [] [] zip = tt
zip-map R f [] (y ∷ ys) zip = absurd zip
zip-map R f (x ∷ xs) [] zip = absurd zip
zip-map R f (x ∷ xs) (y ∷ ys) zip = (zip.0, zip-map R f xs ys zip.1)

contained-at : {X : Type 0} (xs : List X) (x : X) → Contains xs x → (k : ℕ) × (slice_get xs k ≡ Some x)
contained-at xs x has = (has.0, slice_get-get_or xs has.0 x has.1 ∙ ap Some has.2)

-- an element of two lists stands in one of them
either-list : {X : Type 0} (xs ys : List X) (k : ℕ) (x : X) → slice_get (xs ++ ys) k ≡ Some x
    → ((j : ℕ) × (slice_get xs j ≡ Some x)) ⊎ ((j : ℕ) × (slice_get ys j ≡ Some x))
either-list [] ys k x e = inr (k, e)
either-list (y ∷ xs) ys zero x e = inl (0, e)
either-list (y ∷ xs) ys (suc k) x e = elim (either-list xs ys k x e) [
  | inl there ↦ inl (suc there.0, there.1)
  | inr there ↦ inr there
]

-- Instructions.

-- the instruction that is found at an offset is among all
pub node-among : (nodes : Nodes) (at : ℕ) (node : Node) → node_in nodes at ≡ Some node → Contains nodes (at, node)
node-among [] at node e = absurd (cc)
node-among (found ∷ nodes) at node e = go (found.0 == at) refl e (λ later. node-among nodes at node later)
  where
    go : (b : Bool) → (found.0 == at) ≡ b → (if b then Some found.1 else node_in nodes at) ≡ Some node
        → (node_in nodes at ≡ Some node → Contains nodes (at, node)) → Contains (found ∷ nodes) (at, node)
    go true t e rest =
        let here : found.0 ≡ at = eqb-true found.0 at t in
        let same : found.1 ≡ node = cc in
        let is : found ≡ (at, node) = ap₂ (λ m n. (m, n)) here same in
        (0, omega arith, is)
    go false t e rest = let later = rest e in (suc later.0, omega (arith, later.1), later.2)

-- the height that is found for an offset is told of it
pub height-told : (P : ℕ × ℕ → Type 0) (heights : List (ℕ × ℕ)) (at : ℕ) → All P heights
    → list_any (λ n. n == at) (map (λ found. found.0) heights) ≡ true
    → (height : ℕ) × (height_in heights at ≡ Some height) × P (at, height)
height-told P [] at all among = absurd (true≢false (sym among))
height-told P (found ∷ heights) at all among =
    go (found.0 == at) refl among (λ rest. height-told P heights at (All-tail P found heights all) rest)
  where
    go : (b : Bool) → (found.0 == at) ≡ b
        → (b || list_any (λ n. n == at) (map (λ found. found.0) heights)) ≡ true
        → (list_any (λ n. n == at) (map (λ found. found.0) heights) ≡ true
        → (height : ℕ) × (height_in heights at ≡ Some height) × P (at, height))
        → (height : ℕ) × ((if b then Some found.1 else height_in heights at) ≡ Some height) × P (at, height)
    go true t rest later = (
      found.1,
      refl,
      subst (λ n. P (n, found.1)) (eqb-true found.0 at t) (All-head P found heights all),
    )
    go false t rest later = later rest

pub offsets-any : (nodes : Nodes) (at : ℕ) → is_node nodes at ≡ list_any (λ n. n == at) (map (λ node. node.0) nodes)
offsets-any [] at = refl
offsets-any (found ∷ nodes) at = ap (λ b. (found.0 == at) || b) (offsets-any nodes at)

one-height : {m n : ℕ} → pos m ≡ pos n → m ≡ n
one-height e = cc

-- Scenes.

module _ (image : Image) (program : Analysed) (p : Program) where
  abbrev pub Located : ℕ → Type 0
  Located entry = IsLocated image program.layout (procedures_in program) (procedures_in program) p.graphs entry

  abbrev pub procedure_of : (entry : ℕ) → Located entry → Procedure
  procedure_of entry x = record { proc = x.proc; frame = x.frame; delta = program.layout.delta }

  abbrev pub scene_of : (entry : ℕ) → Located entry → BlockSource
  scene_of entry x = record {
    cpu = program.layout.cpu;
    procedures = procedures_in program;
    procedure = procedure_of entry x;
    heights = x.heights;
    before = x.before;
  }

  -- the entry procedure's graph begins with the prelude's block
  abbrev pub before_of : ℕ → ℕ
  before_of entry = if program.layout.start_ip == entry then 1 else 0

module _ (image : Image) (program : Analysed) (p : Program)
    (of_file : IsProgramOfFile program.layout.cpu image program)
    (translation : IsTranslation image program.layout program.procs.items program.heights program.cells p) where
  open program use {layout}

  abbrev found-procs : AreFound image layout program.procs.items
  found-procs = of_file.is_program.procs

  -- each procedure that is reached has its graph
  pub locate : (entry : ℕ) → IsEntry image layout entry
      → (x : Located image program p entry) × (x.before ≡ before_of image program p entry)
  locate entry is_entry =
      let has = found-procs.every entry is_entry in
      let among : list_any (λ proc. proc.entry == entry) program.procs.items ≡ true =
      any_at (λ proc. proc.entry == entry) program.procs.items has.place has.proc has.listed
      (eq-eqb has.proc.entry entry has.entry_is) in
      let heights = of_file.is_program.heights.at in
      let x =
      located image layout (procedures_in program) entry 1 program.procs.items program.cells.frames.items
      (map (λ found. found.entries) program.heights.at.items) p.graphs of_file.is_program.cells.frames
      (zip-map (AreHeightsOf image layout)
      (λ found. found.entries) program.procs.items program.heights.at.items heights)
      translation.graphs found-procs.found among in (
        x.0,
        x.1
            ∙ ap (λ procs. before_in 1 procs entry) found-procs.order.procs_are
            ∙ ap (λ n. if n == entry then 1 else 0) found-procs.order.first,
      )

  module _ (entry : ℕ) (is_entry : IsEntry image layout entry) (x : Located image program p entry) where
    abbrev scene : BlockSource
    scene = scene_of image program p entry x

    is_entry_of : IsEntry image layout x.proc.entry
    is_entry_of = subst (IsEntry image layout) (sym x.entry_is) is_entry

    pub sound : AreSound (nodes_in scene) (entry_in scene) image.ip
    sound = found-sound image layout program.procs.items found-procs of_file.loaded of_file.is_program.layout x.proc
        is_entry_of x.found

    node-of : {at : ℕ} → IsNode image layout entry at → IsNode image layout x.proc.entry at
    node-of {at} node = subst (λ n. IsNode image layout n at) (sym x.entry_is) node

    -- at each node an instruction is found
    pub node-at : (at : ℕ) → IsNode image layout entry at
        → (node : Node) × (node_in (nodes_in scene) at ≡ Some node) × IsNodeFound image layout entry (at, node)
    node-at at node =
        let listed =
        node-listed image layout program.procs.items found-procs of_file.loaded of_file.is_program.layout x.proc
        is_entry_of x.found at (node-of node) in (
          listed.0,
          listed.1,
          subst (λ n. IsNodeFound image layout n (at, listed.0)) x.entry_is
              (listed-found image layout program.procs.items found-procs of_file.loaded of_file.is_program.layout
              x.proc
              is_entry_of x.found at listed.0 listed.1),
        )

    -- no instruction stands where the program begins
    pub none-at-start : ¬ IsNode image layout entry image.ip
    none-at-start node =
        start-unreached image layout program.procs.items found-procs of_file.loaded of_file.is_program.layout x.proc
        is_entry_of x.found (node-of node)

    -- each trail to a node gives the height that is found at it
    pub told-at : (at : ℕ) (node : Node) → node_in (nodes_in scene) at ≡ Some node
        → (height : ℕ) × (height_in x.heights at ≡ Some height)
        × ((before : List ℕ) → IsTrail image layout entry (at ∷ before)
        → GivesHeight image layout entry (at ∷ before) (pos height))
    told-at at node found =
        let among : list_any (λ n. n == at) (map (λ found. found.0) x.heights) ≡ true =
        ap (list_any (λ n. n == at)) x.are_heights.nodes
        ∙ sym (offsets-any (nodes_in scene) at)
        ∙ node_in_has (nodes_in scene) at node found in
        let told =
        height-told (λ found. IsHeight image layout x.proc.entry found.0 (pos found.1)) x.heights at
        x.are_heights.each among in (
          told.0,
          told.1,
          λ before trail.
              subst (λ n. GivesHeight image layout n (at ∷ before) (pos told.0)) x.entry_is
              (told.2 before (subst (λ n. IsTrail image layout n (at ∷ before)) (sym x.entry_is) trail)),
        )

    -- the height that is found at a node is that of each trail to it
    pub height-at : (at : ℕ) (before : List ℕ) (height : ℕ) → IsAt image layout entry at before (pos height)
        → height_in x.heights at ≡ Some height
    height-at at before height is =
        let node = node-at at (record { before = before; trail = is.trail }) in
        let told = told-at at node.0 node.1 in
        let gives : GivesHeight image layout entry (at ∷ before) (pos told.0) = told.2 before is.trail in
        let same =
        in-form.one_height layout.cpu image program entry at before before (pos told.0) (pos height) of_file
        (record { is_entry = is.is_entry; trail = is.trail; gives = gives }) is in
        told.1 ∙ ap Some (one-height same)

    -- the statements at a node are its instruction's
    pub stmts-at : (at : ℕ) (node : Node) (before : List ℕ) (height : ℕ)
        → IsAt image layout entry at before (pos height) → node_in (nodes_in scene) at ≡ Some node
        → stmts_at scene at
        ≡ placed.node_stmts layout.cpu (procedures_in program) (procedure_of image program p entry x) height node
    stmts-at at node before height is found =
        ap₂ (node_stmts scene) (height-at at before height is) found

    -- a block of the graph stands for instructions, unless it is the prelude's
    pub block-of : (block : Block) → Contains x.graph.blocks block
        → (block.at ≡ image.ip) ⊎ IsBlockAt scene block.at block
    block-of block has =
        let at = contained-at x.graph.blocks block has in
        let blocks =
        ap (λ (g : Graph). g.blocks) x.is_graph.graph_is ∙ graph-blocks image layout scene x.is_graph.blocks in
        elim (either-list (front_of image layout scene) x.is_graph.blocks at.0 block
        (ap (λ l. slice_get l at.0) (sym blocks) ∙ at.1)) [
          | inl first ↦ inl (only-prelude (scene.before == 0) first.0 first.1)
          | inr there ↦
              inr (block_is scene (leaders (nodes_in scene) (entry_in scene)) x.is_graph.blocks there.0 block
              x.is_graph.blocks_are there.1)
        ]
      where
        only-prelude : (b : Bool) (k : ℕ)
            → slice_get (if b then [] else prelude_block image layout scene ∷ []) k ≡ Some block → block.at ≡ image.ip
        only-prelude true k e = absurd (cc)
        only-prelude false zero e =
            let same : prelude_block image layout scene ≡ block = cc in
            sym (ap (λ (c : Block). c.at) same)
        only-prelude false (suc k) e = absurd (cc)

    -- what the block of a CALL is
    pub record IsCallBlock (target at : ℕ) (height : ℕ) (node : Node) (block : Block) : Type 0 where
      pub stmts :
          block.stmts
          ≡ calling (procedure_of image program p entry x) height (procedure_at (procedures_in program) target)
      pub exit : block.exit ≡ exit_of (procedure_of image program p entry x) (Call target)
          (map (block_place scene) node.succ.items)

    -- the block of a CALL has that instruction alone
    pub call-block : (block : Block) (node : Node) (target : ℕ) (before : List ℕ) (height : ℕ)
        → Contains x.graph.blocks block → node_in (nodes_in scene) block.at ≡ Some node → node.instr.op ≡ Call target
        → IsAt image layout entry block.at before (pos height) → IsCallBlock target block.at height node block
    call-block block node target before height has found calls is = by (block-of block has)
      where
        procedure : Procedure
        procedure = procedure_of image program p entry x

        call : calls_in (node_in (nodes_in scene) block.at) ≡ true
        call = ap calls_in found ∙ ap is_call calls

        at-block : (there : IsBlockAt scene block.at block) → there.rest ≡ []
            → IsCallBlock target block.at height node block
        at-block there alone = record {
          stmts =
              there.stmts_are
              ∙ ap (λ rest. flat_map (stmts_at scene) (block.at ∷ rest)) alone
              ∙ append-nil (stmts_at scene block.at)
              ∙ stmts-at block.at node before height is found
              ∙ ap (λ op. if placed.moves_frame op then [] else
              placed.working_stmts layout.cpu (procedures_in program) procedure height op node.number) calls;
          exit =
              there.exit_is
              ∙ ap (λ rest. exit_at scene (last_of block.at rest)) alone
              ∙ ap (node_exit scene) found
              ∙ ap (λ op. exit_of procedure op (map (block_place scene) node.succ.items)) calls;
        }

        by : (block.at ≡ image.ip) ⊎ IsBlockAt scene block.at block → IsCallBlock target block.at height node block
        by (inl first) =
            absurd (none-at-start
            (subst (IsNode image layout entry) first (record { before = before; trail = is.trail })))
        by (inr there) =
            at-block there
            (call_ends (nodes_in scene) (entry_in scene) image.ip sound block.at call there.rest there.chain)

-- What is lifted.

graphs-later : (image : Image) (lay : Layout) (all : List Procedure) (procs : List Proc) (frames : List Frame)
    (heights : List (List (ℕ × ℕ))) (graphs : List Graph) → AllZip (AreHeightsOf image lay) procs heights
    → AllZip (IsGraphOf image lay) (scenes_of lay all 0 (procedures_of lay procs frames) heights) graphs
    → All (λ proc. proc.entry ≢ lay.start_ip) procs
    → AllZip (IsGraphFor lay.start_ip) (procedures_of lay procs frames) graphs
graphs-later image lay all [] frames heights [] high are apart = tt
graphs-later image lay all [] frames heights (graph ∷ graphs) high are apart = absurd are
graphs-later image lay all (proc ∷ procs) [] heights [] high are apart = tt
graphs-later image lay all (proc ∷ procs) [] heights (graph ∷ graphs) high are apart = absurd are
graphs-later image lay all (proc ∷ procs) (frame ∷ frames) [] graphs high are apart = absurd high
graphs-later image lay all (proc ∷ procs) (frame ∷ frames) (h ∷ heights) [] high are apart = absurd are
graphs-later image lay all (proc ∷ procs) (frame ∷ frames) (h ∷ heights) (graph ∷ graphs) high are apart =
    let p : Procedure = record { proc = proc; frame = frame; delta = lay.delta } in
    let other = ne_eqb proc.entry lay.start_ip
    (All-head (λ (q : Proc). q.entry ≢ lay.start_ip) proc procs apart) in (
      record {
        entry = ap (λ (g : Graph). g.entry) are.0.graph_is;
        params =
            ap (λ (g : Graph). g.params) are.0.graph_is ∙ sym (ap (λ b. if b then [] else params_of p) other);
        bits = ap (λ (g : Graph). g.bits) are.0.graph_is;
      },
      graphs-later image lay all procs frames heights graphs high.1 are.1
          (All-tail (λ (q : Proc). q.entry ≢ lay.start_ip) proc procs apart),
    )

graphs-all : (image : Image) (lay : Layout) (all : List Procedure) (begin : Proc) (procs : List Proc)
    (frames : List Frame) (heights : List (List (ℕ × ℕ))) (graphs : List Graph) → begin.entry ≡ lay.start_ip
    → AllZip (AreHeightsOf image lay) (begin ∷ procs) heights
    → AllZip (IsGraphOf image lay) (scenes_of lay all 1 (procedures_of lay (begin ∷ procs) frames) heights)
    graphs
    → All (λ proc. proc.entry ≢ lay.start_ip) procs
    → AllZip (IsGraphFor lay.start_ip) (procedures_of lay (begin ∷ procs) frames) graphs
graphs-all image lay all begin procs [] heights [] first high are apart = tt
graphs-all image lay all begin procs [] heights (graph ∷ graphs) first high are apart = absurd are
graphs-all image lay all begin procs (frame ∷ frames) [] graphs first high are apart = absurd high
graphs-all image lay all begin procs (frame ∷ frames) (h ∷ heights) [] first high are apart = absurd are
graphs-all image lay all begin procs (frame ∷ frames) (h ∷ heights) (graph ∷ graphs) first high are apart =
    let p : Procedure = record { proc = begin; frame = frame; delta = lay.delta } in (
      record {
        entry = ap (λ (g : Graph). g.entry) are.0.graph_is;
        params =
            ap (λ (g : Graph). g.params) are.0.graph_is
            ∙ sym (ap (λ b. if b then [] else params_of p) (eq-eqb begin.entry lay.start_ip first));
        bits = ap (λ (g : Graph). g.bits) are.0.graph_is;
      },
      graphs-later image lay all procs frames heights graphs high.1 are.1 apart,
    )

module _ (image : Image) (program : Analysed) (p : Program)
    (of_file : IsProgramOfFile program.layout.cpu image program)
    (translation : IsTranslation image program.layout program.procs.items program.heights program.cells p) where
  abbrev all-heights : List (List (ℕ × ℕ))
  all-heights = map (λ found. found.entries) program.heights.at.items

  graphs-are : AllZip (IsGraphFor program.layout.start_ip) (procedures_in program) p.graphs
  graphs-are =
      let are = of_file.is_program.procs in
      let order = are.order in
      subst (λ procs. AllZip (IsGraphFor program.layout.start_ip)
      (procedures_of program.layout procs program.cells.frames.items) p.graphs) (sym order.procs_are)
      (graphs-all image program.layout (procedures_in program) order.start order.others program.cells.frames.items
      all-heights p.graphs order.first
      (subst (λ procs. AllZip (AreHeightsOf image program.layout) procs all-heights) order.procs_are
      (zip-map (AreHeightsOf image program.layout) (λ found. found.entries) program.procs.items
      program.heights.at.items of_file.is_program.heights.at))
      (subst (λ procs. AllZip (IsGraphOf image program.layout)
      (scenes_of program.layout (procedures_in program) 1
      (procedures_of program.layout procs program.cells.frames.items) all-heights) p.graphs) order.procs_are
      translation.graphs)
      order.apart)

  -- the block of a CALL, in the graph of a procedure
  abbrev HasCallIn : ℕ → Block → Procedure → Type 0
  HasCallIn entry block q =
      (node : Node) (target : ℕ) (before : List ℕ) (height : ℕ) → Contains q.proc.nodes.entries (block.at, node)
      → node.instr.op ≡ Call target → IsAt image program.layout entry block.at before (pos height)
      → block.stmts ≡ calling q height (procedure_at (procedures_in program) target)

  call-in : (entry : ℕ) (is_entry : IsEntry image program.layout entry) (x : Located image program p entry)
      (block : Block) → Contains x.graph.blocks block → HasCallIn entry block (procedure_of image program p entry x)
  call-in entry is_entry x block has node target before height among calls is =
      let there = contained-at x.proc.nodes.entries (block.at, node) among in
      let found =
      node_in_found x.proc.nodes.entries there.0 block.at node
      (ascending_differ x.proc.nodes.entries x.found.ascending) there.1 in
      (call-block image program p of_file translation entry is_entry x block node target before height has found calls
      is).stmts

  calls-are : (q : Procedure) (graph : Graph) (block : Block)
      → procedure_at (procedures_in program) q.proc.entry ≡ Some q → graph_at p.graphs q.proc.entry ≡ Some graph
      → Contains graph.blocks block → HasCall (setting image program p) q graph block
  calls-are q graph block found drawn has node target before height among calls is =
      let entry = q.proc.entry in
      let x = (locate image program p of_file translation entry is.is_entry).0 in
      let same : procedure_of image program p entry x ≡ q = one-some (sym x.procedure_found ∙ found) in
      let one : graph ≡ x.graph = one-some (sym drawn ∙ x.graph_found) in
      subst (HasCallIn entry block) same
      (call-in entry is.is_entry x block (subst (λ (g : Graph). Contains g.blocks block) one has))
      node target before height among calls is
    where
      one-some : {X : Type 0} {a b : X} → Some a ≡ Some b → a ≡ b
      one-some e = cc

  -- what is translated is lifted
  pub lifting : IsLifting (setting image program p)
  lifting = record {
    of_file = of_file;
    cells = λ entry. refl;
    graphs = graphs-are;
    calls = calls-are;
  }
