use Rattle.std.proofs.Common.{◌≡◌, ◌≤◌, ◌<◌, ◌+◌, ◌∙◌, refl, ap, ap₂, sym, subst, ◌∷◌, [], List, map, min, length, get_or, All, arith}
use Rattle.std.specs.List.{AllZip}
use Rattle.std.proofs.lemmas.List.{length-map, map-append, get_or-map}
use Rattle.std.proofs.lemmas.List.Elements.{All-get_or}
use Rattle.dcc_ir.specs.Views.{graph_of}
use Rattle.dcc_simulation.specs.Procedures.{Procedure}
use Rattle.dcc_lift.specs.KnownProcedures.{procedure_of, KnowsProcedure, KnowsProcedures}
use Rattle.dcc_lift.specs.Blocks.{BlockSource}
use Rattle.dcc_lift.specs.Translation.{IsGraphOf, scenes_of}
use Rattle.dcc_lift.proofs.FewLaws.{few_in_frames}
use Rattle.dcc_lift.proofs.LowLaws.{Table, HasLow, low_heights}
use Rattle.dcc_lift.proofs.SceneLaws.{AreGraphsOfFirst, Ascends, before_small, scene_made, all_ascend, one_ascends, no_graphs, graph_more, all_graphs}
use Rattle.dcc_lift.proofs.LiftLaws.{lift-of}
use Rattle.dcc_lift.proofs.program.lift.Goals as goal

pub procedures_of-requires : goal.procedures_of-requires
procedures_of-requires c = record {
  few = few_in_frames c.args.image.now c.args.program.now.layout c.args.program.now.procs.items c.args.program.now.cells.frames.items
      c.requires.found.reached c.requires.cells.accepted c.requires.cells.frames;
}

pub loop-number-init : goal.loop-number-init
loop-number-init c =
    let all = map procedure_of c.in_ok-procedures.procedures.items in
    let heights = map (λ (table : Table). table.entries) c.args.program.now.heights.at.items in
    subst (λ gs. AreGraphsOfFirst c.args.image.now c.args.program.now.layout all heights 0 (map graph_of gs))
    (sym c.new-graphs.ensures.items)
    (no_graphs c.args.image.now c.args.program.now.layout all heights)

pub graph-requires : goal.graph-requires
graph-requires c =
    let image = c.args.image.now in
    let layout = c.args.program.now.layout in
    let procs = c.args.program.now.procs.items in
    let known = c.in_ok-procedures.procedures.items in
    let tables = c.args.program.now.heights.at.items in
    let n = c.loop-number.number in
    let one = c.index.result.now in
    let table = c.index-in-loop-number.result.now in
    let inside : n < length known = omega arith in
    let ascend = subst (All Ascends) (sym c.in_ok-procedures.ensures.procedures)
    (all_ascend image layout procs c.args.program.now.cells.frames.items c.requires.found.found) in
    let low = low_heights image layout c.requires.heights.accepted procs tables c.requires.found.reached
    c.requires.found.found c.requires.heights.at in
    let small = before_small n in
    record {
      procedure = subst KnowsProcedure (sym c.index.ensures)
          (All-get_or KnowsProcedure known n one inside c.in_ok-procedures.ensures.known);
      procedures = subst KnowsProcedures (sym c.as_slice.ensures.value) c.in_ok-procedures.ensures.known;
      ascending = one_ascends known n one inside c.index.ensures ascend;
      heights = subst HasLow (sym c.index-in-loop-number.ensures) (All-get_or HasLow tables n table (omega arith) low);
      before = subst (λ before. before ≤ 1) (sym c.before_of.ensures) small;
    }

pub loop-number-preserved : goal.loop-number-preserved
loop-number-preserved c =
    let image = c.args.image.now in
    let layout = c.args.program.now.layout in
    let known = c.in_ok-procedures.procedures.items in
    let tables = c.args.program.now.heights.at.items in
    let all = map procedure_of known in
    let heights = map (λ (table : Table). table.entries) tables in
    let n = c.loop-number.number in
    let one = c.index.result.now in
    let table = c.index-in-loop-number.result.now in
    let inside : n < length known = omega arith in
    let within : n < length tables = omega arith in
    let read : procedure_of one ≡ get_or all n (procedure_of one) = ap procedure_of c.index.ensures
    ∙ sym (get_or-map procedure_of known n one (procedure_of one) inside) in
    let seen : table.entries ≡ get_or heights n table.entries =
    ap (λ (t : Table). t.entries) c.index-in-loop-number.ensures
    ∙ sym (get_or-map (λ (t : Table). t.entries) tables n table table.entries within) in
    let graph = graph_of c.in_ok-graph.field-0 in
    let is = subst (λ (scene : BlockSource). IsGraphOf image layout scene graph)
    (ap₂ (λ ps before. scene_made layout (map procedure_of ps) before (procedure_of one) table.entries)
    c.as_slice.ensures.value c.before_of.ensures) c.in_ok-graph.ensures in
    let more = graph_more image layout all heights n (map graph_of c.loop-number.graphs.items) (procedure_of one)
    table.entries graph c.loop-number.invariant
    (omega (arith, length-map known procedure_of, inside))
    (omega (arith, length-map tables (λ (t : Table). t.entries), within)) read seen is in
    subst (AreGraphsOfFirst image layout all heights (n + 1))
    (sym (ap (map graph_of) c.in_ok-push.ensures.items
    ∙ map-append graph_of c.loop-number.graphs.items (c.in_ok-graph.field-0 ∷ []))) more

pub returns : goal.returns
returns c =
    let image = c.args.image.now in
    let layout = c.args.program.now.layout in
    let all = map procedure_of c.in_ok-procedures.procedures.items in
    let heights = map (λ (table : Table). table.entries) c.args.program.now.heights.at.items in
    let n = c.loop-number.number in
    let graphs = map graph_of c.loop-number.graphs.items in
    let past : min (length all) (length heights) ≤ n =
    omega (arith, length-map c.in_ok-procedures.procedures.items procedure_of, length-map c.args.program.now.heights.at.items (λ (t : Table). t.entries)) in
    let are = all_graphs image layout all heights n graphs c.loop-number.invariant past in
    record {
      lifted = lift-of image c.args.program.now _ (record {
        of_file = record {
          loaded = c.requires.loaded;
          is_program = record {
            runs_on = refl;
            layout = c.requires.layout;
            procs = c.requires.found;
            heights = c.requires.heights;
            cells = c.requires.cells;
          };
        };
        translation = record {
          graphs = subst (λ (ps : List Procedure). AllZip (IsGraphOf image layout) (scenes_of layout ps 1 ps heights)
              graphs) c.in_ok-procedures.ensures.procedures are;
          image_is = c.in_ok-data_image.ensures;
          lo_is = refl;
          hi_is = refl;
        };
      });
    }
