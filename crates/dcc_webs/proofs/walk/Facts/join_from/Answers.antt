use Rattle.std.proofs.Common.{◌<◌, length, arith}
use Rattle.std.proofs.lemmas.List.{length-map}
use Rattle.dcc_flow.specs.Access.{block_access_in}
use Rattle.dcc_webs.specs.Names.{names_of}
use Rattle.dcc_webs.specs.Walk.{facts_of}
use Rattle.dcc_webs.proofs.StepLaws.{on_ok}
use Rattle.dcc_webs.proofs.WalkLaws.{edge_is, live_read}
use Rattle.dcc_webs.proofs.walk.Facts.join_from.Goals as goal

pub returns-clause-joins : goal.returns-clause-joins
returns-clause-joins c =
    let facts = facts_of c.args.self.now in
    let size = length-map c.args.self.now.accesses.now.items block_access_in in
    let from_in : c.args.from < length facts.accesses = omega (arith, c.requires.from, size) in
    let to_in : c.args.to < length facts.accesses = omega (arith, c.requires.to, size) in
    let lists = c.args.self.now.at_end.now.items in
    let list_in : c.args.from < length lists = omega (arith, from_in, c.requires.whole.at_end, length-map lists (λ v. v.items)) in
    on_ok c.join_edge.result (λ j. edge_is facts c.args.to c.args.from (names_of c.args.names.now) _ _ _ c.args.classes.now.class.items c.join_edge.new.classes.class.items c.requires.names
    (c.requires.bases.are c.args.from from_in) (c.requires.bases.are c.args.to to_in) (live_read lists c.args.from c.index.result.now c.as_slice-at_end.result.now list_in c.index.ensures c.as_slice-at_end.ensures.value) j)
    c.join_edge.ensures.joins
