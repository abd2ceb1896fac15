-- A translated program is well formed, and no expression of it is deeper than 7.
use Rattle.std.proofs.Common.{◌≡◌, ◌≢◌, ℕ, ◌-◌, ◌*◌, ◌<◌, ◌≤◌, Bool, true, false, ◌||◌, List, [], ◌∷◌, length, map, drop, Some, All, refl, sym, ap, ap₂, ◌∙◌, subst, true≢false, leb-true, arith}
use Rattle.std.specs.Prelude.{Contains}
use Rattle.std.specs.List.{list_any, list_all}
use Rattle.std.proofs.lemmas.List.Elements.{All-nil, All-cons, All-weaker, All-take, All-drop, All-contains}
use Rattle.dcc_machine.specs.declared.image.Image.{Image}
use Rattle.dcc_prog.specs.declared.frame.Program.{Program as Analysed}
use Rattle.dcc_machine.specs.Load.{load_segment}
use Rattle.dcc_prog.specs.Trail.{IsEntry}
use Rattle.dcc_machine.proofs.MzImageLaws.{All-loaded}
use Rattle.dcc_ir.specs.declared.syntax.Param.{Param}
use Rattle.dcc_ir.specs.Tree.{Expr, Stmt, Call, Block, Graph, Program}
use Rattle.dcc_ir.specs.Location.{location_width}
use Rattle.dcc_ir.specs.Value.{width_of}
use Rattle.dcc_ir.specs.Run.{is_call, graph_at}
use Rattle.dcc_ir.specs.Use.{graph_exprs}
use Rattle.dcc_ir.specs.Measure.{depth_of}
use Rattle.dcc_ir.specs.WellFormed.{put_width, all_ret_widths, is_param_list, memory_params_last, IsGraph, IsCall, IsCalling, IsProgram}
use Rattle.dcc_ops.specs.Temporaries.{temporary_bits}
use Rattle.dcc_simulation.specs.Procedures.{given_back}
use Rattle.dcc_simulation.specs.Passed.{returned_values}
use Rattle.dcc_simulation.specs.Statements.{taking_all_back, results_of, arguments_of}
use Rattle.dcc_lift.specs.Translated.{IsTranslated}
use Rattle.dcc_lift.specs.Translation.{data_image}
use Rattle.dcc_lift.specs.Lifted.{IsShallow}
use Rattle.dcc_lift.proofs.ListTests.{and_left, and_right}
use Rattle.dcc_lift.proofs.FormPlaces.{is_shallow}
use Rattle.dcc_lift.proofs.FormCalls.{taken-wide, taking-all-sound, given-few}
use Rattle.dcc_lift.proofs.FormScenes.{translated_at, procedure_at_entry, graph_of_entry}
use Rattle.dcc_lift.proofs.LocatedBlocks.{located_at}
use Rattle.dcc_lift.proofs.FormBlocks.{IsFormedBlock, all-formed, args-few}
use Rattle.dcc_lift.proofs.FormGraphs.{sound-parts, by-work, bits-of, params-first, params-later, graph-well, params-list, memory-last, graph-shallow, gives-widths, gives-nothing, results-wide}
use Rattle.dcc_lift.proofs.FormDrawn.{entries-differ, parts, all-graphs, first-graph, found-later}

-- Statements without calls.

stmt-calling : (p : Program) (g : Graph) (stmt : Stmt) → is_call stmt ≡ false → IsCalling p g stmt
stmt-calling p g (Call results entry arguments depth) none = absurd (true≢false none)
stmt-calling p g stmt none = tt

pub none-left : (a b : Bool) → (a || b) ≡ false → (a ≡ false) × (b ≡ false)
none-left true b e = absurd (true≢false e)
none-left false b e = (refl, e)

no-callings : (p : Program) (g : Graph) (stmts : List Stmt) → list_any is_call stmts ≡ false → All (IsCalling p g) stmts
no-callings p g [] none = All-nil (IsCalling p g)
no-callings p g (stmt ∷ stmts) none =
    let both = none-left (is_call stmt) (list_any is_call stmts) none in
    All-cons (IsCalling p g) stmt stmts (stmt-calling p g stmt both.0) (no-callings p g stmts both.1)

shallow-list : (es : List Expr) → list_all is_shallow es ≡ true → All (λ e. depth_of e ≤ 7) es
shallow-list [] shallow = All-nil (λ e. depth_of e ≤ 7)
shallow-list (e ∷ es) shallow =
    All-cons (λ e. depth_of e ≤ 7) e es
    (leb-true (depth_of e) 7 (and_left (is_shallow e) (list_all is_shallow es) shallow))
    (shallow-list es (and_right (is_shallow e) (list_all is_shallow es) shallow))

module _ (image : Image) (program : Analysed) (p : Program) (is : IsTranslated image program p) where
  open program use {layout}

  module _ (entry : ℕ) (is_entry : IsEntry image layout entry) where
    open translated_at image program p is entry is_entry use {procedure, graph}

    -- a CALL agrees with the graph that it names
    call-agrees : (target height : ℕ) (target_entry : IsEntry image layout target) → target ≢ layout.start_ip
        → IsCall p graph (results_of (procedure_at_entry image program p is target target_entry))
        (procedure_at_entry image program p is target target_entry).proc.entry
        (arguments_of procedure height (procedure_at_entry image program p is target target_entry))
    call-agrees target height target_entry other =
        let x = located_at image program p is target target_entry in
        let callee = procedure_at_entry image program p is target target_entry in
        let taker = graph_of_entry image program p is target target_entry in
        let bits = bits-of image program p is entry is_entry in
        let widths = map (width_of temporary_bits) (returned_values callee) in
        record {
          callee = taker;
          named =
              subst (λ n. graph_at (drop 1 p.graphs) n ≡ Some taker) (sym x.entry_is)
              (found-later image program p is target taker other x.graph_found);
          taken =
              ap (λ l. map (width_of l) (arguments_of procedure height callee)) bits
              ∙ taken-wide procedure height callee
              ∙ sym (ap₂ (λ l params. map (λ (q : Param). put_width l q.put) params)
              (bits-of image program p is target target_entry)
              (params-later image program p is target target_entry other));
          given =
              All-weaker (λ l. l ≡ widths) (λ l. l ≡ map (location_width graph.bits) (results_of callee))
              (λ l e. e ∙ results-wide image program p is target target_entry
              ∙ sym (ap (λ bits. map (location_width bits) (results_of callee)) bits))
              (all_ret_widths taker) (gives-widths image program p is target target_entry);
        }

    calls-agree : All (λ (b : Block). All (IsCalling p graph) b.stmts) graph.blocks
    calls-agree =
        All-weaker (IsFormedBlock image program p is entry is_entry) (λ (b : Block). All (IsCalling p graph) b.stmts)
        (λ b formed.
        by-work image program p is (λ stmts exit. All (IsCalling p graph) stmts)
        (λ stmts exit work. no-callings p graph stmts (sound-parts stmts work.sound).none) entry is_entry
        (λ target height place target_entry other small.
        let callee = procedure_at_entry image program p is target target_entry in
        let few = given-few callee (args-few image program p is target target_entry) in
        let back = taking_all_back procedure height 0 (given_back callee) in
        All-cons (IsCalling p graph) _ back (call-agrees target height target_entry other)
        (no-callings p graph back
        (sound-parts back (taking-all-sound procedure height 0 (given_back callee) (omega (arith, few)))).none))
        b.stmts b.exit formed.work)
        graph.blocks (all-formed image program p is entry is_entry)

    -- all Rets give the same widths
    rets-agree : (a b : List ℕ) → Contains (all_ret_widths graph) a → Contains (all_ret_widths graph) b → a ≡ b
    rets-agree a b one other =
        let widths = map (width_of temporary_bits) (returned_values procedure) in
        let all = gives-widths image program p is entry is_entry in
        All-contains (λ l. l ≡ widths) (all_ret_widths graph) a all one
        ∙ sym (All-contains (λ l. l ≡ widths) (all_ret_widths graph) b all other)

  image-bytes : All (λ byte. byte < 256) (data_image image layout)
  unfolding data_image
  image-bytes =
      let skipped : ℕ = (layout.ds - load_segment) * 16 in
      All-take (λ byte. byte < 256) 65536 (drop skipped image.bytes.items)
      (All-drop (λ byte. byte < 256) skipped image.bytes.items (All-loaded image is.of_file.loaded))

  pub well-formed : IsProgram p
  well-formed =
      let small = is.of_file.is_program.layout.small in
      let graphs = parts image program p is in
      record {
        image = subst (All (λ byte. byte < 256)) (sym is.translation.image_is) image-bytes;
        lo = subst (λ n. n < 65536) (sym is.translation.lo_is) (omega (arith, small.has_stack, small.hi_fits));
        hi = subst (λ n. n < 65536) (sym is.translation.hi_is) (omega (arith, small.hi_fits));
        begins = subst (λ (l : List Graph). 0 < length l) (sym graphs.graphs_are) (omega arith);
        entries = entries-differ image program p is;
        graphs = all-graphs image program p is IsGraph (λ entry is_entry. graph-well image program p is entry is_entry);
        params =
            all-graphs image program p is (λ (g : Graph). is_param_list g.bits g.params ≡ true)
            (λ entry is_entry. params-list image program p is entry is_entry);
        memory_last =
            all-graphs image program p is (λ (g : Graph). memory_params_last g.params ≡ true)
            (λ entry is_entry. memory-last image program p is entry is_entry);
        start =
            first-graph image program p is (λ (g : Graph). g.params ≡ [])
            (λ entry is_entry first. params-first image program p is entry is_entry first);
        start_rets =
            first-graph image program p is (λ (g : Graph). All (λ widths. widths ≡ []) (all_ret_widths g))
            (λ entry is_entry first.
            subst (All (λ widths. widths ≡ [])) (sym (gives-nothing image program p is entry is_entry first))
            (All-nil (λ widths. widths ≡ [])));
        rets =
            all-graphs image program p is
            (λ (g : Graph). (a b : List ℕ) → Contains (all_ret_widths g) a → Contains (all_ret_widths g) b → a ≡ b)
            rets-agree;
        calls =
            all-graphs image program p is (λ (g : Graph). All (λ (b : Block). All (IsCalling p g) b.stmts) g.blocks)
            calls-agree;
      }

  pub shallow : All (IsShallow 7) p.graphs
  shallow =
      all-graphs image program p is (IsShallow 7)
      (λ entry is_entry.
      shallow-list (graph_exprs (graph_of_entry image program p is entry is_entry))
      (graph-shallow image program p is entry is_entry))
