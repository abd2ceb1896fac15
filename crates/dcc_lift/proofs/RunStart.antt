-- The start: the prelude's block stands for the machine's steps through the prelude, after which both runs stand at the
-- entry procedure's first block.
use Rattle.std.proofs.Common.{◌≡◌, ℕ, ◌+◌, ◌%◌, Bool, true, false, ◌==◌, List, [], ◌∷◌, ◌++◌, get_or, slice_get, Some, refl, sym, ap, ◌∙◌, true≢false}
use Rattle.std.specs.Prelude.{if◌then◌else◌}
use Rattle.std.specs.List.{AllZip}
use Rattle.dcc_run.specs.End.{Running}
use Rattle.dcc_prog.specs.declared.procedure.Layout.{Layout}
use Rattle.dcc_prog.specs.declared.procedure.Proc.{Proc}
use Rattle.dcc_prog.specs.declared.frame.Frame.{Frame}
use Rattle.dcc_prog.specs.Trail.{IsEntry, start}
use Rattle.dcc_ir.specs.Location.{filled}
use Rattle.dcc_ir.specs.Tree.{Block, Graph}
use Rattle.dcc_ir.specs.Run.{State as Inner, activation, no_graph, first_memory, opened, first_state, entering, going_to, execute, step, graph_at}
use Rattle.dcc_ops.specs.Temporaries.{temporary_bits}
use Rattle.dcc_simulation.specs.Nodes.{procedures_in, IsGraphFor}
use Rattle.dcc_simulation.specs.Procedures.{Procedure, procedures_of}
use Rattle.dcc_lift.specs.Blocks.{BlockSource, block_place}
use Rattle.dcc_lift.specs.Translation.{prelude_block}
use Rattle.dcc_lift.proofs.ListTests.{same_number}
use Rattle.dcc_lift.proofs.ShownRuns.{block-is}
use Rattle.dcc_lift.proofs.RunScenes.{Runs, layout, e, lifted, located_at, scene_at, before-is, blocks-are}

-- The first graph.

first-drawn : (begin : ℕ) (ps : List Procedure) (gs : List Graph) (p : Procedure) (others : List Procedure)
    (x : Graph)
    → ps ≡ p ∷ others → p.proc.entry ≡ begin → AllZip (IsGraphFor begin) ps gs → graph_at gs begin ≡ Some x
    → get_or gs 0 no_graph ≡ x
first-drawn begin [] gs p others x same first zip found = cc
first-drawn begin (q ∷ ps) [] p others x same first zip found = absurd zip
first-drawn begin (q ∷ ps) (g ∷ gs) p others x same first zip found = by (g.entry == begin) here found
  where
    here : (g.entry == begin) ≡ true
    here =
        let is : q ≡ p = cc in
        ap (λ n. n == begin) (zip.0.entry ∙ ap (λ (r : Procedure). r.proc.entry) is ∙ first) ∙ same_number begin

    by : (b : Bool) → b ≡ true → (if b then Some g else graph_at gs begin) ≡ Some x → g ≡ x
    by true e f = cc
    by false e f = absurd (true≢false (sym e))

-- the first procedure has a frame
first-procedure : (R : Proc → Frame → Type 0) (lay : Layout) (procs : List Proc) (frames : List Frame) (begin : Proc)
    (others : List Proc) → procs ≡ begin ∷ others → AllZip R procs frames
    → (p : Procedure) × (rest : List Procedure) × (procedures_of lay procs frames ≡ p ∷ rest) × (p.proc ≡ begin)
first-procedure R lay [] frames begin others same zip = cc
first-procedure R lay (proc ∷ procs) [] begin others same zip = absurd zip
first-procedure R lay (proc ∷ procs) (frame ∷ frames) begin others same zip =
    let is : proc ≡ begin = cc in
    (record { proc = proc; frame = frame; delta = lay.delta }, procedures_of lay procs frames, refl, is)

module _ (c : Runs) (input : List ℕ) where
  abbrev pub is_entry : IsEntry c.image (layout c) (layout c).start_ip
  is_entry = start

  abbrev pub scene : BlockSource
  scene = scene_at c (layout c).start_ip is_entry

  abbrev pub graph : Graph
  graph = (located_at c (layout c).start_ip is_entry).graph

  abbrev pub prelude : Block
  prelude = prelude_block c.image (layout c) scene

  -- The inner run.

  abbrev pub begin : Inner
  begin = record {
    running = record {
      graph = graph;
      block = prelude;
      rest = (prelude).stmts;
      begins = true;
      values = filled (graph).bits c.fill;
      base = (c.p.hi + 2) % 65536;
    };
    waiting = [];
    memory = first_memory c.p c.fill;
    input = input;
    events = [];
    end = Running;
  }

  first-graph : get_or c.p.graphs 0 no_graph ≡ graph
  first-graph =
      let order = c.is.of_file.is_program.procs.order in
      let p =
      first-procedure _ (layout c) c.program.procs.items c.program.cells.frames.items order.start order.others
      order.procs_are c.is.of_file.is_program.cells.frames in
      first-drawn (layout c).start_ip (procedures_in c.program) c.p.graphs p.0 p.1 graph p.2
      (ap (λ (q : Proc). q.entry) p.3 ∙ order.first) (lifted c).graphs
      (located_at c (layout c).start_ip is_entry).graph_found

  first-block : slice_get (graph).blocks 0 ≡ Some prelude
  first-block =
      ap (λ l. slice_get l 0) (blocks-are c (layout c).start_ip is_entry)
      ∙ ap (λ n. slice_get ((if n == 0 then [] else prelude ∷ []) ++
      (located_at c (layout c).start_ip is_entry).is_graph.blocks) 0)
      (before-is c (layout c).start_ip is_entry ∙ ap (λ b. if b then 1 else 0) (same_number (layout c).start_ip))

  pub first-is : first_state c.p c.fill input ≡ begin
  first-is =
      ap (λ g. opened g c.p c.fill input) first-graph
      ∙ ap (λ o. entering o
      (record begin { running = activation graph (filled (graph).bits c.fill) ((c.p.hi + 2) % 65536) })) first-block

  -- the state after the block's statements
  abbrev pub set_up : Inner
  set_up = execute (prelude).stmts begin

  pub begin-step : step c.p c.fill begin ≡ going_to (block_place scene (layout c).start_ip) set_up
  begin-step = block-is c.p c.fill (prelude).stmts begin refl refl

  pub bits-are : (graph).bits ≡ temporary_bits
  bits-are = ap (λ (g : Graph). g.bits) (located_at c (layout c).start_ip is_entry).is_graph.graph_is
