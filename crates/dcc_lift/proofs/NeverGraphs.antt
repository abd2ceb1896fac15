-- What holds of the graphs of all procedures, and of all their blocks, holds of the whole program; its first graph is
-- that of the entry procedure.
use Rattle.std.proofs.Common.{◌≡◌, ℕ, zero, suc, ◌<◌, Bool, true, false, List, [], ◌∷◌, length, map, Some, refl, sym, ap, ◌∙◌, subst, eq-eqb, arith}
use Rattle.std.specs.Prelude.{◌==◌, not, if◌then◌else◌, slice_get, get_or, take, All, Contains}
use Rattle.std.specs.List.{list_any, AllZip}
use Rattle.std.proofs.lemmas.List.Elements.{All-nil, All-cons, All-head, All-tail, All-append, All-weaker, All-contains, All-contains_itself}
use Rattle.std.proofs.lemmas.Option.{slice_get-get_or}
use Rattle.dcc_machine.specs.declared.image.Image.{Image}
use Rattle.dcc_prog.specs.declared.procedure.Layout.{Layout}
use Rattle.dcc_prog.specs.declared.procedure.Proc.{Proc}
use Rattle.dcc_prog.specs.declared.frame.Frame.{Frame}
use Rattle.dcc_prog.specs.declared.frame.Program.{Program as Analysed}
use Rattle.dcc_prog.specs.Trail.{IsEntry, start}
use Rattle.dcc_ir.specs.Tree.{Block, Graph, Program}
use Rattle.dcc_ir.specs.WellFormed.{all_differ, IsProgram}
use Rattle.dcc_ir.specs.Run.{graph_at, no_graph}
use Rattle.dcc_ir.proofs.ReachedLaws.{named_again}
use Rattle.dcc_simulation.specs.Nodes.{IsGraphFor}
use Rattle.dcc_simulation.specs.Procedures.{procedures_of}
use Rattle.dcc_lift.specs.Blocks.{leaders, nodes_in, entry_in, IsBlockAt}
use Rattle.dcc_lift.specs.Translated.{IsTranslated}
use Rattle.dcc_lift.specs.Translation.{prelude_block}
use Rattle.dcc_lift.proofs.ListTests.{and_right}
use Rattle.dcc_lift.proofs.BlockLaws.{blocks_all}
use Rattle.dcc_lift.proofs.TranslationLaws.{front_of}
use Rattle.dcc_lift.proofs.Lifting.{lifting}
use Rattle.dcc_lift.proofs.LocatedBlocks.{located_at, blocks-are, one-graph}
use Rattle.dcc_lift.proofs.NeverStands.{graph_of, scene_of_entry, leads}

-- Graphs by their entries.

-- where entries differ, a graph is found by its own
own-graph : (graphs : List Graph) (k : ℕ) (g : Graph) → all_differ (map (λ (g : Graph). g.entry) graphs) ≡ true
    → slice_get graphs k ≡ Some g → graph_at graphs g.entry ≡ Some g
own-graph [] k g differ e = cc
own-graph (first ∷ graphs) zero g differ e =
    let same : first ≡ g = cc in
    subst (λ (h : Graph). graph_at (first ∷ graphs) h.entry ≡ Some h) same
    (ap (λ b. if b then Some first else graph_at graphs first.entry) (eq-eqb first.entry first.entry refl))
own-graph (first ∷ graphs) (suc k) g differ e =
    named_again (first ∷ graphs) g.entry g differ
    (own-graph graphs k g
    (and_right (not (list_any (λ m. first.entry == m) (map (λ (h : Graph). h.entry) graphs)))
    (all_differ (map (λ (h : Graph). h.entry) graphs)) differ) e)

module _ (image : Image) (layout : Layout) where
  -- each graph has the entry of a procedure that is reached
  graphs-entered : (procs : List Proc) (frames : List Frame) (graphs : List Graph)
      → All (λ proc. IsEntry image layout proc.entry) procs
      → AllZip (IsGraphFor layout.start_ip) (procedures_of layout procs frames) graphs
      → All (λ (g : Graph). IsEntry image layout g.entry) graphs
  graphs-entered [] frames [] reached are = All-nil (λ (g : Graph). IsEntry image layout g.entry)
  graphs-entered [] frames (graph ∷ graphs) reached are = absurd are
  graphs-entered (proc ∷ procs) [] [] reached are = All-nil (λ (g : Graph). IsEntry image layout g.entry)
  graphs-entered (proc ∷ procs) [] (graph ∷ graphs) reached are = absurd are
  graphs-entered (proc ∷ procs) (frame ∷ frames) [] reached are = absurd are
  graphs-entered (proc ∷ procs) (frame ∷ frames) (graph ∷ graphs) reached are =
      All-cons (λ (g : Graph). IsEntry image layout g.entry) graph graphs
      (subst (IsEntry image layout) (sym are.0.entry)
      (All-head (λ (q : Proc). IsEntry image layout q.entry) proc procs reached))
      (graphs-entered procs frames graphs
      (All-tail (λ (q : Proc). IsEntry image layout q.entry) proc procs reached) are.1)

  -- the first graph has that of the first procedure
  first-entered : (begin : Proc) (procs : List Proc) (frames : List Frame) (graphs : List Graph)
      → AllZip (IsGraphFor layout.start_ip) (procedures_of layout (begin ∷ procs) frames) graphs → 0 < length graphs
      → (get_or graphs 0 no_graph).entry ≡ begin.entry
  first-entered begin procs frames [] are some = absurd (omega (arith, some))
  first-entered begin procs [] (graph ∷ graphs) are some = absurd are
  first-entered begin procs (frame ∷ frames) (graph ∷ graphs) are some = are.0.entry

module _ (image : Image) (program : Analysed) (p : Program) (well : IsProgram p)
    (is : IsTranslated image program p) where
  open program use {layout}

  entered : All (λ (g : Graph). IsEntry image layout g.entry) p.graphs
  entered =
      graphs-entered image layout program.procs.items program.cells.frames.items p.graphs
      is.of_file.is_program.procs.reached (lifting image program p is.of_file is.translation).graphs

  located-graph : (g : Graph) (k : ℕ) (is_entry : IsEntry image layout g.entry) → slice_get p.graphs k ≡ Some g
      → g ≡ graph_of image program p is g.entry is_entry
  located-graph g k is_entry found =
      one-graph image program p is g.entry is_entry g (own-graph p.graphs k g well.entries found)

  -- what holds of the graph of each procedure holds of each graph
  pub all-graphs : (P : Graph → Type 0)
      → ((entry : ℕ) (is_entry : IsEntry image layout entry) → P (graph_of image program p is entry is_entry))
      → All P p.graphs
  all-graphs P each =
      All-weaker (Contains p.graphs) P (λ g has.
      let is_entry = All-contains (λ (g : Graph). IsEntry image layout g.entry) p.graphs g entered has in
      subst P (sym (located-graph g has.0 is_entry (slice_get-get_or p.graphs has.0 g has.1 ∙ ap Some has.2)))
      (each g.entry is_entry)) p.graphs (All-contains_itself p.graphs)

  -- the first graph is the entry procedure's
  pub first-graph : get_or p.graphs 0 no_graph ≡ graph_of image program p is layout.start_ip start
  first-graph =
      let order = is.of_file.is_program.procs.order in
      let first : Graph = get_or p.graphs 0 no_graph in
      let there : first.entry ≡ layout.start_ip =
      first-entered image layout order.start order.others program.cells.frames.items p.graphs
      (subst (λ procs. AllZip (IsGraphFor layout.start_ip) (procedures_of layout procs program.cells.frames.items)
      p.graphs) order.procs_are (lifting image program p is.of_file is.translation).graphs) well.begins
      ∙ order.first in
      one-graph image program p is layout.start_ip start first
      (subst (λ n. graph_at p.graphs n ≡ Some first) there
      (own-graph p.graphs 0 first well.entries (slice_get-get_or p.graphs 0 no_graph well.begins)))

  -- what holds of it holds of all that are first
  pub all-first : (P : Graph → Type 0) → P (graph_of image program p is layout.start_ip start)
      → All P (take 1 p.graphs)
  all-first P holds = go p.graphs (subst P (sym first-graph) holds)
    where
      go : (graphs : List Graph) → P (get_or graphs 0 no_graph) → All P (take 1 graphs)
      go [] h = All-nil P
      go (g ∷ graphs) h = All-cons P g [] h (All-nil P)

  -- what holds of the prelude's block and of each block of instructions holds of all blocks of a graph
  pub all-blocks : (entry : ℕ) (is_entry : IsEntry image layout entry) (P : Block → Type 0)
      → P (prelude_block image layout (scene_of_entry image program p is entry is_entry))
      → ((at : ℕ) (block : Block) → leads image program p is entry is_entry at ≡ true
      → IsBlockAt (scene_of_entry image program p is entry is_entry) at block → P block)
      → All P (graph_of image program p is entry is_entry).blocks
  all-blocks entry is_entry P first each =
      let scene = scene_of_entry image program p is entry is_entry in
      let x = located_at image program p is entry is_entry in
      subst (All P) (sym (blocks-are image program p is entry is_entry))
      (All-append P (front_of image layout scene) x.is_graph.blocks (front (scene.before == 0))
      (blocks_all scene P (leaders (nodes_in scene) (entry_in scene)) x.is_graph.blocks x.is_graph.blocks_are each))
    where
      front : (b : Bool)
          → All P (if b then [] else prelude_block image layout (scene_of_entry image program p is entry is_entry) ∷ [])
      front true = All-nil P
      front false = All-cons P _ [] first (All-nil P)
