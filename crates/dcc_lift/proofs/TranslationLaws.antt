-- Laws of the program that stands for all procedures: which graph stands for which of them, and which blocks come
-- first.
use Rattle.std.proofs.Common.{◌≡◌, ℕ, Bool, true, false, ◌||◌, ◌==◌, if◌then◌else◌, List, [], ◌∷◌, ◌++◌, Some, All, refl, sym, ap, ◌∙◌, true≢false, eqb-true, eq-eqb}
use Rattle.std.specs.List.{list_any, AllZip}
use Rattle.std.proofs.lemmas.List.Elements.{All-head, All-tail}
use Rattle.dcc_machine.specs.declared.image.Image.{Image}
use Rattle.dcc_prog.specs.declared.procedure.Layout.{Layout}
use Rattle.dcc_prog.specs.declared.procedure.Proc.{Proc}
use Rattle.dcc_prog.specs.declared.frame.Frame.{Frame}
use Rattle.dcc_prog.specs.Found.{IsFound}
use Rattle.dcc_prog.specs.Analysed.{AreHeightsOf, IsFrameOf}
use Rattle.dcc_ir.specs.Tree.{Block, Graph}
use Rattle.dcc_ir.specs.Run.{graph_at}
use Rattle.dcc_simulation.specs.Procedures.{Procedure, procedures_of, procedure_at}
use Rattle.dcc_lift.specs.Blocks.{BlockSource}
use Rattle.dcc_lift.specs.Translation.{prelude_block, graph_with, IsGraphOf, scenes_of}

-- The blocks of a graph.

-- the blocks before those of the instructions
abbrev pub front_of : Image → Layout → BlockSource → List Block
front_of image layout scene = if scene.before == 0 then [] else prelude_block image layout scene ∷ []

-- the graph of a scene begins with them
pub graph-blocks : (image : Image) (layout : Layout) (scene : BlockSource) (blocks : List Block)
    → (graph_with image layout scene blocks).blocks ≡ front_of image layout scene ++ blocks
graph-blocks image layout scene blocks = go (scene.before == 0)
  where
    go : (b : Bool) → (if b then blocks else prelude_block image layout scene ∷ blocks)
        ≡ (if b then [] else prelude_block image layout scene ∷ []) ++ blocks
    go true = refl
    go false = refl

-- Procedures and their graphs, side by side.

-- the procedure with an entry, its frame, heights and graph
pub record IsLocated (image : Image) (layout : Layout) (all procedures : List Procedure) (graphs : List Graph)
    (entry : ℕ) : Type 0 where
  pub proc : Proc
  pub frame : Frame
  pub heights : List (ℕ × ℕ)
  pub before : ℕ
  pub graph : Graph
  pub entry_is : proc.entry ≡ entry
  pub found : IsFound image layout proc
  pub is_frame : IsFrameOf image layout proc frame
  pub are_heights : AreHeightsOf image layout proc heights
  pub procedure_found :
      procedure_at procedures entry ≡ Some (record { proc = proc; frame = frame; delta = layout.delta })
  pub graph_found : graph_at graphs entry ≡ Some graph
  pub is_graph :
      IsGraphOf image layout (record {
        cpu = layout.cpu;
        procedures = all;
        procedure = record { proc = proc; frame = frame; delta = layout.delta };
        heights = heights;
        before = before;
      }) graph

-- the first procedure has so many blocks before those of its instructions, each other one none
abbrev pub before_in : ℕ → List Proc → ℕ → ℕ
before_in before [] entry = 0
before_in before (proc ∷ procs) entry = if proc.entry == entry then before else 0

none-before : (procs : List Proc) (entry : ℕ) → before_in 0 procs entry ≡ 0
none-before [] entry = refl
none-before (proc ∷ procs) entry = go (proc.entry == entry)
  where
    nothing : ℕ
    nothing = 0

    go : (b : Bool) → (if b then nothing else nothing) ≡ nothing
    go true = refl
    go false = refl

module _ (image : Image) (layout : Layout) (all : List Procedure) (entry : ℕ) where
  abbrev procedure : Proc → Frame → Procedure
  procedure proc frame = record { proc = proc; frame = frame; delta = layout.delta }

  abbrev scene : Proc → Frame → List (ℕ × ℕ) → ℕ → BlockSource
  scene proc frame heights before = record {
    cpu = layout.cpu;
    procedures = all;
    procedure = procedure proc frame;
    heights = heights;
    before = before;
  }

  graph-entry : (s : BlockSource) (graph : Graph) → IsGraphOf image layout s graph → graph.entry
      ≡ s.procedure.proc.entry
  graph-entry s graph is = ap (λ (g : Graph). g.entry) is.graph_is

  first-located : (proc : Proc) (frame : Frame) (heights : List (ℕ × ℕ)) (before : ℕ) (graph : Graph)
      (procedures : List Procedure) (graphs : List Graph) → IsFound image layout proc
      → IsFrameOf image layout proc frame → AreHeightsOf image layout proc heights
      → IsGraphOf image layout (scene proc frame heights before) graph → (proc.entry == entry) ≡ true
      → (x : IsLocated image layout all (procedure proc frame ∷ procedures) (graph ∷ graphs) entry)
      × (x.before ≡ before)
  first-located proc frame heights before graph procedures graphs found framed high is here =
      let same : proc.entry ≡ entry = eqb-true proc.entry entry here in (
        record {
          proc = proc;
          frame = frame;
          heights = heights;
          before = before;
          graph = graph;
          entry_is = same;
          found = found;
          is_frame = framed;
          are_heights = high;
          procedure_found = ap (λ b. if b then Some (procedure proc frame) else procedure_at procedures entry) here;
          graph_found =
              ap (λ b. if b then Some graph else graph_at graphs entry)
              (eq-eqb graph.entry entry (graph-entry (scene proc frame heights before) graph is ∙ same));
          is_graph = is;
        },
        refl,
      )

  later-located : (proc : Proc) (frame : Frame) (heights : List (ℕ × ℕ)) (before : ℕ) (graph : Graph)
      (procedures : List Procedure) (graphs : List Graph)
      → IsGraphOf image layout (scene proc frame heights before) graph → (proc.entry == entry) ≡ false
      → (later : IsLocated image layout all procedures graphs entry)
      → (x : IsLocated image layout all (procedure proc frame ∷ procedures) (graph ∷ graphs) entry)
      × (x.before ≡ later.before)
  later-located proc frame heights before graph procedures graphs is other later = (
    record {
      proc = later.proc;
      frame = later.frame;
      heights = later.heights;
      before = later.before;
      graph = later.graph;
      entry_is = later.entry_is;
      found = later.found;
      is_frame = later.is_frame;
      are_heights = later.are_heights;
      procedure_found =
          ap (λ b. if b then Some (procedure proc frame) else procedure_at procedures entry) other
          ∙ later.procedure_found;
      graph_found =
          ap (λ b. if b then Some graph else graph_at graphs entry)
          (ap (λ n. n == entry) (graph-entry (scene proc frame heights before) graph is) ∙ other)
          ∙ later.graph_found;
      is_graph = later.is_graph;
    },
    refl,
  )

  -- the graph of each procedure is found by its entry
  pub located : (before : ℕ) (procs : List Proc) (frames : List Frame) (heights : List (List (ℕ × ℕ)))
      (graphs : List Graph) → AllZip (IsFrameOf image layout) procs frames
      → AllZip (AreHeightsOf image layout) procs heights
      → AllZip (IsGraphOf image layout) (scenes_of layout all before (procedures_of layout procs frames) heights)
      graphs
      → All (IsFound image layout) procs → list_any (λ proc. proc.entry == entry) procs ≡ true
      → (x : IsLocated image layout all (procedures_of layout procs frames) graphs entry)
      × (x.before ≡ before_in before procs entry)
  located before [] frames heights graphs framed high are found among = absurd (true≢false (sym among))
  located before (proc ∷ procs) [] heights graphs framed high are found among = absurd framed
  located before (proc ∷ procs) (frame ∷ frames) [] graphs framed high are found among = absurd high
  located before (proc ∷ procs) (frame ∷ frames) (h ∷ heights) [] framed high are found among = absurd are
  located before (proc ∷ procs) (frame ∷ frames) (h ∷ heights) (graph ∷ graphs) framed high are found among =
      by (proc.entry == entry) refl among
      (λ rest. located 0 procs frames heights graphs framed.1 high.1 are.1
      (All-tail (IsFound image layout) proc procs found) rest)
    where
      procedures : List Procedure
      procedures = procedures_of layout procs frames

      Answer : Bool → Type 0
      Answer b =
          (x : IsLocated image layout all (procedure proc frame ∷ procedures) (graph ∷ graphs) entry)
          × (x.before ≡ (if b then before else 0))

      by : (b : Bool) → (proc.entry == entry) ≡ b → (b || list_any (λ proc. proc.entry == entry) procs) ≡ true
          → (list_any (λ proc. proc.entry == entry) procs ≡ true
          → (x : IsLocated image layout all procedures graphs entry) × (x.before ≡ before_in 0 procs entry))
          → Answer b
      by true here rest later =
          first-located proc frame h before graph procedures graphs (All-head (IsFound image layout) proc procs found)
          framed.0 high.0 are.0 here
      by false other rest later =
          let there = later rest in
          let x = later-located proc frame h before graph procedures graphs are.0 other there.0 in
          (x.0, x.1 ∙ there.1 ∙ none-before procs entry)
