-- Each graph of a translated program is that of a procedure that is reached, the first one that of the entry procedure.
use Rattle.std.proofs.Common.{◌≡◌, ◌≢◌, ℕ, suc, ◌<◌, Bool, true, false, not, ◌||◌, ◌==◌, if◌then◌else◌, List, [], ◌∷◌, map, Some, All, refl, sym, ap, ap₂, ◌∙◌, subst, true≢false, eq-eqb, ne_eqb, arith}
use Rattle.std.specs.Prelude.{AllPairs, get_or, take, drop}
use Rattle.std.specs.List.{list_any, AllZip}
use Rattle.std.proofs.lemmas.List.Elements.{All-nil, All-cons, All-head, All-tail, All-map, All-weaker}
use Rattle.std.proofs.lemmas.List.Folds.{list_any_none}
use Rattle.dcc_machine.specs.declared.image.Image.{Image}
use Rattle.dcc_prog.specs.declared.procedure.Layout.{Layout}
use Rattle.dcc_prog.specs.declared.procedure.Proc.{Proc}
use Rattle.dcc_prog.specs.declared.frame.Frame.{Frame}
use Rattle.dcc_prog.specs.declared.frame.Program.{Program as Analysed}
use Rattle.dcc_prog.specs.Trail.{IsEntry}
use Rattle.dcc_prog.specs.Found.{AreInOrder}
use Rattle.dcc_prog.specs.Analysed.{AreHeightsOf, IsFrameOf}
use Rattle.dcc_ir.specs.Tree.{Graph, Program}
use Rattle.dcc_ir.specs.Run.{graph_at}
use Rattle.dcc_ir.specs.WellFormed.{all_differ}
use Rattle.dcc_simulation.specs.Procedures.{Procedure, procedures_of}
use Rattle.dcc_simulation.specs.Nodes.{procedures_in, IsGraphFor}
use Rattle.dcc_lift.specs.Translated.{IsTranslated}
use Rattle.dcc_lift.specs.Translation.{IsGraphOf, scenes_of}
use Rattle.dcc_lift.specs.Lifted.{HasFrameOf}
use Rattle.dcc_lift.proofs.ListTests.{and_left, and_right, and_both}
use Rattle.dcc_lift.proofs.Lifting.{zip-map}
use Rattle.dcc_lift.proofs.FormAddresses.{no-true}
use Rattle.dcc_lift.proofs.FormScenes.{lifted, graph_of_entry}
use Rattle.dcc_lift.proofs.LocatedBlocks.{located_at}

-- Lists.

unmapped : {X Y : Type 0} (P : Y → Type 0) (f : X → Y) (xs : List X) → All P (map f xs) → All (λ x. P (f x)) xs
unmapped P f [] all = All-nil (λ x. P (f x))
unmapped P f (x ∷ xs) all =
    All-cons (λ x. P (f x)) x xs (All-head P (f x) (map f xs) all)
    (unmapped P f xs (All-tail P (f x) (map f xs) all))

pub all-of-two : {X : Type 0} (A B C : X → Type 0) → ((x : X) → A x → B x → C x) → (xs : List X) → All A xs → All B xs
    → All C xs
all-of-two A B C each [] one other = All-nil C
all-of-two A B C each (x ∷ xs) one other =
    All-cons C x xs (each x (All-head A x xs one) (All-head B x xs other))
    (all-of-two A B C each xs (All-tail A x xs one) (All-tail B x xs other))

-- Entries.

abbrev entries_of : List Graph → List ℕ
entries_of graphs = map (λ (g : Graph). g.entry) graphs

abbrev entries_in : List Proc → List ℕ
entries_in procs = map (λ (q : Proc). q.entry) procs

apart-none : (n : ℕ) (ns : List ℕ) → All (λ m. n ≢ m) ns → list_any (λ m. n == m) ns ≡ false
apart-none n ns apart =
    list_any_none (λ m. n == m) ns
    (All-weaker (λ m. n ≢ m) (λ m. (n == m) ≡ false) (λ m other. ne_eqb n m other) ns apart)

above-apart : (proc : Proc) (procs : List Proc) → AllPairs (λ (a b : Proc). a.entry < b.entry) (proc ∷ procs)
    → All (λ (q : Proc). proc.entry ≢ q.entry) procs
above-apart proc procs up =
    λ i d inside same.
    let less : proc.entry < (get_or procs i d).entry = up 0 (suc i) d (omega arith) (omega (arith, inside)) in
    omega (arith, less, same)

ascending-entries : (procs : List Proc) → AllPairs (λ (a b : Proc). a.entry < b.entry) procs
    → all_differ (entries_in procs) ≡ true
ascending-entries [] up = refl
ascending-entries (proc ∷ procs) up =
    and_both (not (list_any (λ m. proc.entry == m) (entries_in procs))) (all_differ (entries_in procs))
    (ap not (apart-none proc.entry (entries_in procs)
    (All-map (λ m. proc.entry ≢ m) (λ (q : Proc). q.entry) procs (above-apart proc procs up))))
    (ascending-entries procs (λ i j d less inside. up (suc i) (suc j) d (omega (arith, less)) (omega (arith, inside))))

pub ordered-entries : (layout : Layout) (procs : List Proc) → AreInOrder layout procs
    → all_differ (entries_in procs) ≡ true
ordered-entries layout procs order =
    subst (λ l. all_differ (entries_in l) ≡ true) (sym order.procs_are)
    (and_both (not (list_any (λ m. order.start.entry == m) (entries_in order.others)))
    (all_differ (entries_in order.others))
    (ap not (apart-none order.start.entry (entries_in order.others)
    (All-map (λ m. order.start.entry ≢ m) (λ (q : Proc). q.entry) order.others
    (All-weaker (λ (q : Proc). q.entry ≢ layout.start_ip) (λ (q : Proc). order.start.entry ≢ q.entry)
    (λ q other same. other (sym same ∙ order.first)) order.others order.apart))))
    (ascending-entries order.others order.ascending))

-- Graphs by their entries.

later-found : (g : Graph) (graphs hs : List Graph) → list_any (λ m. g.entry == m) (entries_of hs) ≡ false
    → All (λ (h : Graph). graph_at graphs h.entry ≡ Some h) hs
    → All (λ (h : Graph). graph_at (g ∷ graphs) h.entry ≡ Some h) hs
later-found g graphs [] none found = All-nil (λ (h : Graph). graph_at (g ∷ graphs) h.entry ≡ Some h)
later-found g graphs (h ∷ hs) none found =
    go (g.entry == h.entry) refl none (λ rest. later-found g graphs hs rest
    (All-tail (λ (h : Graph). graph_at graphs h.entry ≡ Some h) h hs found))
  where
    go : (b : Bool) → (g.entry == h.entry) ≡ b → (b || list_any (λ m. g.entry == m) (entries_of hs)) ≡ false
        → (list_any (λ m. g.entry == m) (entries_of hs) ≡ false
        → All (λ (h : Graph). graph_at (g ∷ graphs) h.entry ≡ Some h) hs)
        → All (λ (h : Graph). graph_at (g ∷ graphs) h.entry ≡ Some h) (h ∷ hs)
    go true same e later = absurd (true≢false e)
    go false other e later =
        All-cons (λ (h : Graph). graph_at (g ∷ graphs) h.entry ≡ Some h) h hs
        (ap (λ b. if b then Some g else graph_at graphs h.entry) other
        ∙ All-head (λ (h : Graph). graph_at graphs h.entry ≡ Some h) h hs found)
        (later e)

differ-found : (graphs : List Graph) → all_differ (entries_of graphs) ≡ true
    → All (λ (g : Graph). graph_at graphs g.entry ≡ Some g) graphs
differ-found [] differ = All-nil (λ (g : Graph). graph_at [] g.entry ≡ Some g)
differ-found (g ∷ graphs) differ =
    let other = not (list_any (λ m. g.entry == m) (entries_of graphs)) in
    let apart = and_left other (all_differ (entries_of graphs)) differ in
    let rest = and_right other (all_differ (entries_of graphs)) differ in
    All-cons (λ (h : Graph). graph_at (g ∷ graphs) h.entry ≡ Some h) g graphs
    (ap (λ b. if b then Some g else graph_at graphs g.entry) (eq-eqb g.entry g.entry refl))
    (later-found g graphs graphs (no-true (list_any (λ m. g.entry == m) (entries_of graphs)) apart)
    (differ-found graphs rest))

-- Procedures and their graphs.

entries-are : (image : Image) (layout : Layout) (start : ℕ) (procs : List Proc) (frames : List Frame)
    (graphs : List Graph)
    → AllZip (IsFrameOf image layout) procs frames
    → AllZip (IsGraphFor start) (procedures_of layout procs frames) graphs → entries_of graphs ≡ entries_in procs
entries-are image layout start [] frames [] framed drawn = refl
entries-are image layout start [] frames (g ∷ graphs) framed drawn = absurd drawn
entries-are image layout start (proc ∷ procs) [] graphs framed drawn = absurd framed
entries-are image layout start (proc ∷ procs) (frame ∷ frames) [] framed drawn = absurd drawn
entries-are image layout start (proc ∷ procs) (frame ∷ frames) (g ∷ graphs) framed drawn =
    ap₂ (λ n ns. n ∷ ns) drawn.0.entry (entries-are image layout start procs frames graphs framed.1 drawn.1)

frames-are : (image : Image) (lay : Layout) (all : List Procedure) (before : ℕ) (procs : List Proc)
    (frames : List Frame) (heights : List (List (ℕ × ℕ))) (graphs : List Graph)
    → AllZip (AreHeightsOf image lay) procs heights
    → AllZip (IsGraphOf image lay) (scenes_of lay all before (procedures_of lay procs frames) heights) graphs
    → AllZip HasFrameOf (procedures_of lay procs frames) graphs
frames-are image lay all before [] frames heights [] high are = tt
frames-are image lay all before [] frames heights (graph ∷ graphs) high are = absurd are
frames-are image lay all before (proc ∷ procs) [] heights [] high are = tt
frames-are image lay all before (proc ∷ procs) [] heights (graph ∷ graphs) high are = absurd are
frames-are image lay all before (proc ∷ procs) (frame ∷ frames) [] graphs high are = absurd high
frames-are image lay all before (proc ∷ procs) (frame ∷ frames) (h ∷ heights) [] high are = absurd are
frames-are image lay all before (proc ∷ procs) (frame ∷ frames) (h ∷ heights) (graph ∷ graphs) high are = (
  record {
    local = ap (λ (g : Graph). g.local) are.0.graph_is;
    pushed = ap (λ (g : Graph). g.pushed) are.0.graph_is;
  },
  frames-are image lay all 0 procs frames heights graphs high.1 are.1,
)

module _ (image : Image) (program : Analysed) (p : Program) (is : IsTranslated image program p) where
  open program use {layout}

  abbrev order : AreInOrder layout program.procs.items
  order = is.of_file.is_program.procs.order

  pub entries : entries_of p.graphs ≡ entries_in program.procs.items
  entries =
      entries-are image layout layout.start_ip program.procs.items program.cells.frames.items p.graphs
      is.of_file.is_program.cells.frames (lifted image program p is).graphs

  pub entries-differ : all_differ (entries_of p.graphs) ≡ true
  entries-differ =
      subst (λ l. all_differ l ≡ true) (sym entries) (ordered-entries layout program.procs.items order)

  -- each graph has the frame of its procedure
  pub have-frames : AllZip HasFrameOf (procedures_in program) p.graphs
  have-frames =
      frames-are image layout (procedures_in program) 1 program.procs.items program.cells.frames.items
      (map (λ found. found.entries) program.heights.at.items) p.graphs
      (zip-map (AreHeightsOf image layout) (λ found. found.entries) program.procs.items program.heights.at.items
      is.of_file.is_program.heights.at)
      is.translation.graphs

  -- the graph is that of the procedure with its entry
  pub record IsDrawn (g : Graph) : Type 0 where
    pub is_entry : IsEntry image layout g.entry
    pub graph_is : graph_of_entry image program p is g.entry is_entry ≡ g

  one-graph : {g h : Graph} → Some g ≡ Some h → g ≡ h
  one-graph e = cc

  drawn : All IsDrawn p.graphs
  drawn =
      all-of-two (λ (g : Graph). IsEntry image layout g.entry) (λ (g : Graph). graph_at p.graphs g.entry ≡ Some g)
      IsDrawn
      (λ g is_entry found. record {
        is_entry = is_entry;
        graph_is = one-graph (sym (located_at image program p is g.entry is_entry).graph_found ∙ found);
      })
      p.graphs
      (unmapped (IsEntry image layout) (λ (g : Graph). g.entry) p.graphs
      (subst (All (IsEntry image layout)) (sym entries)
      (All-map (IsEntry image layout) (λ (q : Proc). q.entry) program.procs.items is.of_file.is_program.procs.reached)))
      (differ-found p.graphs entries-differ)

  -- the entry procedure's graph, and the others
  pub record AreGraphs (graphs : List Graph) : Type 0 where
    pub first : Graph
    pub rest : List Graph
    pub graphs_are : graphs ≡ first ∷ rest
    pub first_entry : first.entry ≡ layout.start_ip
    pub others : All (λ (g : Graph). g.entry ≢ layout.start_ip) rest

  parted : (graphs : List Graph) → entries_of graphs ≡ order.start.entry ∷ entries_in order.others → AreGraphs graphs
  parted [] e = cc
  parted (g ∷ graphs) e =
      let first : g.entry ≡ order.start.entry = cc in
      let rest : entries_of graphs ≡ entries_in order.others = cc in
      record {
        first = g;
        rest = graphs;
        graphs_are = refl;
        first_entry = first ∙ order.first;
        others =
            unmapped (λ n. n ≢ layout.start_ip) (λ (h : Graph). h.entry) graphs
            (subst (All (λ n. n ≢ layout.start_ip)) (sym rest)
            (All-map (λ n. n ≢ layout.start_ip) (λ (q : Proc). q.entry) order.others order.apart));
      }

  pub parts : AreGraphs p.graphs
  parts = parted p.graphs (entries ∙ ap entries_in order.procs_are)

  drawn-parts : All IsDrawn (parts.first ∷ parts.rest)
  drawn-parts = subst (All IsDrawn) parts.graphs_are drawn

  -- What is shown of the graph of each procedure.

  abbrev Drawn : (entry : ℕ) → IsEntry image layout entry → Graph
  Drawn entry is_entry = graph_of_entry image program p is entry is_entry

  pub all-graphs : (P : Graph → Type 0)
      → ((entry : ℕ) (is_entry : IsEntry image layout entry) → P (Drawn entry is_entry))
      → All P p.graphs
  all-graphs P each = All-weaker IsDrawn P (λ g d. subst P d.graph_is (each g.entry d.is_entry)) p.graphs drawn

  pub first-graph : (P : Graph → Type 0)
      → ((entry : ℕ) (is_entry : IsEntry image layout entry) → entry ≡ layout.start_ip → P (Drawn entry is_entry))
      → All P (take 1 p.graphs)
  first-graph P each =
      let d = All-head IsDrawn parts.first parts.rest drawn-parts in
      subst (λ graphs. All P (take 1 graphs)) (sym parts.graphs_are)
      (All-cons P parts.first [] (subst P d.graph_is (each parts.first.entry d.is_entry parts.first_entry)) (All-nil P))

  pub later-graphs : (P : Graph → Type 0)
      → ((entry : ℕ) (is_entry : IsEntry image layout entry) → entry ≢ layout.start_ip → P (Drawn entry is_entry))
      → All P (drop 1 p.graphs)
  later-graphs P each =
      subst (λ graphs. All P (drop 1 graphs)) (sym parts.graphs_are)
      (all-of-two IsDrawn (λ (g : Graph). g.entry ≢ layout.start_ip) P
      (λ g d other. subst P d.graph_is (each g.entry d.is_entry other)) parts.rest
      (All-tail IsDrawn parts.first parts.rest drawn-parts) parts.others)

  -- a graph other than the first is found among the others
  pub found-later : (target : ℕ) (graph : Graph) → target ≢ layout.start_ip → graph_at p.graphs target ≡ Some graph
      → graph_at (drop 1 p.graphs) target ≡ Some graph
  found-later target graph other found =
      let e = subst (λ graphs. graph_at graphs target ≡ Some graph) parts.graphs_are found in
      subst (λ graphs. graph_at (drop 1 graphs) target ≡ Some graph) (sym parts.graphs_are)
      (sym (ap (λ b. if b then Some parts.first else graph_at parts.rest target)
      (ne_eqb parts.first.entry target (λ same. other (sym same ∙ parts.first_entry))))
      ∙ e)
