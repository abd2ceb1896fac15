-- Each procedure with its frame, its heights and its graph.
use Rattle.std.proofs.Common.{◌≡◌, ◌≤◌, ℕ, Bool, true, false, ◌==◌, if◌then◌else◌, ◌⊎◌, inl, inr, List, [], ◌∷◌, map, Some, None, All, refl, sym, ap, ◌∙◌, eqb-true, eq-eqb, arith}
use Rattle.std.specs.Prelude.{zip}
use Rattle.std.specs.List.{AllZip}
use Rattle.std.proofs.lemmas.List.Elements.{All-head, All-tail}
use Rattle.dcc_machine.specs.declared.image.Image.{Image}
use Rattle.dcc_prog.specs.declared.procedure.Layout.{Layout}
use Rattle.dcc_prog.specs.declared.procedure.Proc.{Proc}
use Rattle.dcc_prog.specs.declared.frame.Frame.{Frame}
use Rattle.dcc_prog.specs.Trail.{IsEntry}
use Rattle.dcc_prog.specs.Found.{IsFound}
use Rattle.dcc_prog.specs.Analysed.{AreHeightsOf, IsFrameOf}
use Rattle.dcc_ir.specs.Tree.{Graph}
use Rattle.dcc_ir.specs.Run.{graph_at}
use Rattle.dcc_simulation.specs.Procedures.{Procedure, procedures_of, procedure_at}
use Rattle.dcc_lift.specs.Blocks.{BlockSource}
use Rattle.dcc_lift.specs.Translation.{scenes_of, IsGraphOf}
use Rattle.dcc_machine_demand.specs.Bodies.{Body, body_at}
use Rattle.dcc_lifted_demand.specs.LiftedRefinement.{scene_at}

-- the first of these procedures has that entry
abbrev pub BeginsAt : ℕ → List Proc → Type 0
BeginsAt start [] = Unit {0}
BeginsAt start (proc ∷ procs) = proc.entry ≡ start

-- heights as they are found, by their entries
module _ {Heights : Type 0} (entries : Heights → List (ℕ × ℕ)) (image : Image) (layout : Layout) (all : List Procedure) (start : ℕ) where
  abbrev pub procedure_with : Proc → Frame → Procedure
  procedure_with proc frame = record { proc = proc; frame = frame; delta = layout.delta }

  abbrev pub scene_with : Proc → Frame → List (ℕ × ℕ) → ℕ → BlockSource
  scene_with proc frame heights before = record { cpu = layout.cpu; procedures = all; procedure = procedure_with proc frame; heights = heights; before = before }

  abbrev pub bodies_from : List Proc → List Frame → List Heights → List Body
  bodies_from procs frames heights = map (λ found. record { proc = found.0; frame = found.1.0; heights = entries found.1.1 }) (zip procs (zip frames heights))

  abbrev pub scenes_from : ℕ → List Proc → List Frame → List Heights → List BlockSource
  scenes_from before procs frames heights = scenes_of layout all before (procedures_of layout procs frames) (map entries heights)

  -- one with that entry
  pub record Linked (before : ℕ) (procs : List Proc) (frames : List Frame) (heights : List Heights) (graphs : List Graph) (entry : ℕ) : Type 0 where
    pub proc : Proc
    pub frame : Frame
    pub own : List (ℕ × ℕ)
    pub first : ℕ
    pub graph : Graph
    pub entry_is : proc.entry ≡ entry
    pub few : first ≤ 1
    -- only the first procedure has a block before those of its instructions
    pub starts : (first ≡ 0) ⊎ (entry ≡ start)
    pub found : IsFound image layout proc
    pub reached : IsEntry image layout proc.entry
    pub is_frame : IsFrameOf image layout proc frame
    pub are_heights : AreHeightsOf image layout proc own
    pub procedure_found : procedure_at (procedures_of layout procs frames) entry ≡ Some (procedure_with proc frame)
    pub body_found : body_at (bodies_from procs frames heights) entry ≡ Some (record { proc = proc; frame = frame; heights = own })
    pub scene_found : scene_at (scenes_from before procs frames heights) entry ≡ Some (scene_with proc frame own first)
    pub graph_found : graph_at graphs entry ≡ Some graph
    pub is_graph : IsGraphOf image layout (scene_with proc frame own first) graph

  -- no procedure, body, scene or graph has that entry
  pub record Missing (before : ℕ) (procs : List Proc) (frames : List Frame) (heights : List Heights) (graphs : List Graph) (entry : ℕ) : Type 0 where
    pub procedure_none : procedure_at (procedures_of layout procs frames) entry ≡ None
    pub body_none : body_at (bodies_from procs frames heights) entry ≡ None
    pub scene_none : scene_at (scenes_from before procs frames heights) entry ≡ None
    pub graph_none : graph_at graphs entry ≡ None

  pub data Standing (before : ℕ) (procs : List Proc) (frames : List Frame) (heights : List Heights) (graphs : List Graph) (entry : ℕ) : Type 0 where
    linked : Linked before procs frames heights graphs entry → Standing before procs frames heights graphs entry
    missing : Missing before procs frames heights graphs entry → Standing before procs frames heights graphs entry

  graph_entry : (scene : BlockSource) (graph : Graph) → IsGraphOf image layout scene graph → graph.entry ≡ scene.procedure.proc.entry
  graph_entry scene graph is = ap (λ (g : Graph). g.entry) is.graph_is

  module _ (entry : ℕ) where
    here : (before : ℕ) (proc : Proc) (procs : List Proc) (frame : Frame) (frames : List Frame) (h : Heights) (heights : List Heights) (graph : Graph) (graphs : List Graph)
        → before ≤ 1 → (before ≡ 0) ⊎ (proc.entry ≡ start) → IsFound image layout proc → IsEntry image layout proc.entry → IsFrameOf image layout proc frame → AreHeightsOf image layout proc (entries h)
        → IsGraphOf image layout (scene_with proc frame (entries h) before) graph → (proc.entry == entry) ≡ true
        → Linked before (proc ∷ procs) (frame ∷ frames) (h ∷ heights) (graph ∷ graphs) entry
    here before proc procs frame frames h heights graph graphs few starts found reached framed high is t = record {
      proc = proc;
      frame = frame;
      own = entries h;
      first = before;
      graph = graph;
      entry_is = eqb-true proc.entry entry t;
      few = few;
      starts = elim starts [ inl e ↦ inl e | inr e ↦ inr (sym (eqb-true proc.entry entry t) ∙ e) ];
      found = found;
      reached = reached;
      is_frame = framed;
      are_heights = high;
      procedure_found = ap (λ b. if b then Some (procedure_with proc frame) else procedure_at (procedures_of layout procs frames) entry) t;
      body_found = ap (λ b. if b then Some (record { proc = proc; frame = frame; heights = entries h }) else body_at (bodies_from procs frames heights) entry) t;
      scene_found = ap (λ b. if b then Some (scene_with proc frame (entries h) before) else scene_at (scenes_from 0 procs frames heights) entry) t;
      graph_found = ap (λ b. if b then Some graph else graph_at graphs entry) (eq-eqb graph.entry entry (graph_entry (scene_with proc frame (entries h) before) graph is ∙ eqb-true proc.entry entry t));
      is_graph = is;
    }

    later_linked : (before : ℕ) (proc : Proc) (procs : List Proc) (frame : Frame) (frames : List Frame) (h : Heights) (heights : List Heights) (graph : Graph) (graphs : List Graph)
        → IsGraphOf image layout (scene_with proc frame (entries h) before) graph → (proc.entry == entry) ≡ false
        → Linked 0 procs frames heights graphs entry → Linked before (proc ∷ procs) (frame ∷ frames) (h ∷ heights) (graph ∷ graphs) entry
    later_linked before proc procs frame frames h heights graph graphs is t x = record {
      proc = x.proc;
      frame = x.frame;
      own = x.own;
      first = x.first;
      graph = x.graph;
      entry_is = x.entry_is;
      few = x.few;
      starts = x.starts;
      found = x.found;
      reached = x.reached;
      is_frame = x.is_frame;
      are_heights = x.are_heights;
      procedure_found = ap (λ b. if b then Some (procedure_with proc frame) else procedure_at (procedures_of layout procs frames) entry) t ∙ x.procedure_found;
      body_found = ap (λ b. if b then Some (record { proc = proc; frame = frame; heights = entries h }) else body_at (bodies_from procs frames heights) entry) t ∙ x.body_found;
      scene_found = ap (λ b. if b then Some (scene_with proc frame (entries h) before) else scene_at (scenes_from 0 procs frames heights) entry) t ∙ x.scene_found;
      graph_found = ap (λ b. if b then Some graph else graph_at graphs entry) (ap (λ n. n == entry) (graph_entry (scene_with proc frame (entries h) before) graph is) ∙ t) ∙ x.graph_found;
      is_graph = x.is_graph;
    }

    later_missing : (before : ℕ) (proc : Proc) (procs : List Proc) (frame : Frame) (frames : List Frame) (h : Heights) (heights : List Heights) (graph : Graph) (graphs : List Graph)
        → IsGraphOf image layout (scene_with proc frame (entries h) before) graph → (proc.entry == entry) ≡ false
        → Missing 0 procs frames heights graphs entry → Missing before (proc ∷ procs) (frame ∷ frames) (h ∷ heights) (graph ∷ graphs) entry
    later_missing before proc procs frame frames h heights graph graphs is t x = record {
      procedure_none = ap (λ b. if b then Some (procedure_with proc frame) else procedure_at (procedures_of layout procs frames) entry) t ∙ x.procedure_none;
      body_none = ap (λ b. if b then Some (record { proc = proc; frame = frame; heights = entries h }) else body_at (bodies_from procs frames heights) entry) t ∙ x.body_none;
      scene_none = ap (λ b. if b then Some (scene_with proc frame (entries h) before) else scene_at (scenes_from 0 procs frames heights) entry) t ∙ x.scene_none;
      graph_none = ap (λ b. if b then Some graph else graph_at graphs entry) (ap (λ n. n == entry) (graph_entry (scene_with proc frame (entries h) before) graph is) ∙ t) ∙ x.graph_none;
    }

    pub standing : (before : ℕ) (procs : List Proc) (frames : List Frame) (heights : List Heights) (graphs : List Graph) → before ≤ 1 → (before ≡ 0) ⊎ BeginsAt start procs
        → AllZip (IsFrameOf image layout) procs frames → AllZip (λ proc h. AreHeightsOf image layout proc (entries h)) procs heights
        → AllZip (IsGraphOf image layout) (scenes_from before procs frames heights) graphs → All (IsFound image layout) procs → All (λ proc. IsEntry image layout proc.entry) procs
        → Standing before procs frames heights graphs entry
    standing before [] [] [] [] few starts framed high are found reached = Standing.missing (record { procedure_none = refl; body_none = refl; scene_none = refl; graph_none = refl })
    standing before [] [] [] (graph ∷ graphs) few starts framed high are found reached = absurd are
    standing before [] [] (h ∷ heights) graphs few starts framed high are found reached = absurd high
    standing before [] (frame ∷ frames) heights graphs few starts framed high are found reached = absurd framed
    standing before (proc ∷ procs) [] heights graphs few starts framed high are found reached = absurd framed
    standing before (proc ∷ procs) (frame ∷ frames) [] graphs few starts framed high are found reached = absurd high
    standing before (proc ∷ procs) (frame ∷ frames) (h ∷ heights) [] few starts framed high are found reached = absurd are
    standing before (proc ∷ procs) (frame ∷ frames) (h ∷ heights) (graph ∷ graphs) few starts framed high are found reached =
        by (proc.entry == entry) refl
        (standing 0 procs frames heights graphs (omega arith) (inl refl) framed.1 high.1 are.1 (All-tail (IsFound image layout) proc procs found) (All-tail (λ proc. IsEntry image layout proc.entry) proc procs reached))
      where
        by : (b : Bool) → (proc.entry == entry) ≡ b → Standing 0 procs frames heights graphs entry → Standing before (proc ∷ procs) (frame ∷ frames) (h ∷ heights) (graph ∷ graphs) entry
        by true t rest = Standing.linked (here before proc procs frame frames h heights graph graphs few starts (All-head (IsFound image layout) proc procs found)
            (All-head (λ proc. IsEntry image layout proc.entry) proc procs reached) framed.0 high.0 are.0 t)
        by false t (Standing.linked x) = Standing.linked (later_linked before proc procs frame frames h heights graph graphs are.0 t x)
        by false t (Standing.missing x) = Standing.missing (later_missing before proc procs frame frames h heights graph graphs are.0 t x)
