use Rattle.std.proofs.Common.{map, refl, ap, ◌∙◌}
use Rattle.dcc_ir.specs.Views.{graph_of, live_of}
use Rattle.dcc_flow.specs.Access.{block_access_in}
use Rattle.dcc_flow.specs.Edges.{rows}
use Rattle.dcc_passes.specs.Renaming.{param_places}
use Rattle.dcc_webs.specs.Walk.{Facts}
use Rattle.dcc_webs.proofs.StandLaws.{split_stands, are_whole}
use Rattle.dcc_webs.proofs.splitting.split.Goals as goal

pub split_by-requires-clause-whole : goal.split_by-requires-clause-whole
split_by-requires-clause-whole c =
    let facts : Facts = record {
      accesses = map block_access_in c.in_ok-accesses.accesses.items;
      at_end = live_of c.in_ok-live.live;
      preds = rows c.in_ok-preds.preds.items;
      params = c.as_slice-2.result.now;
    } in
    are_whole (graph_of c.args.g) (live_of c.in_ok-live.live) facts c.in_ok-live.ensures
    (c.in_ok-accesses.ensures, refl, c.in_ok-preds.ensures, c.as_slice-2.ensures.value ∙ c.in_ok-params.ensures ∙ ap param_places c.as_slice.ensures.value)

pub returns : goal.returns
returns c =
    let facts : Facts = record {
      accesses = map block_access_in c.in_ok-accesses.accesses.items;
      at_end = live_of c.in_ok-live.live;
      preds = rows c.in_ok-preds.preds.items;
      params = c.as_slice-2.result.now;
    } in
    let lists = live_of c.in_ok-live.live in
    let params = c.as_slice-2.ensures.value ∙ c.in_ok-params.ensures ∙ ap param_places c.as_slice.ensures.value in
    let whole = are_whole (graph_of c.args.g) lists facts c.in_ok-live.ensures (c.in_ok-accesses.ensures, refl, c.in_ok-preds.ensures, params) in
    let stands = split_stands (graph_of c.args.g) lists facts c.in_ok-after.after c.requires c.in_ok-live.ensures (c.in_ok-accesses.ensures, refl, c.in_ok-preds.ensures, params) whole c.in_ok-after.ensures in
    record { formed = stands.formed; temps = stands.temps; told = stands.told; stands = stands.tidied.stands; tidied = stands.tidied; depth = stands.depth }
