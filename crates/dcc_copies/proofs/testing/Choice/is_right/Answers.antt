use Rattle.std.proofs.Common.{◌<◌, length, sym, arith}
use Rattle.std.proofs.lemmas.List.{length-map}
use Rattle.std.proofs.lemmas.Option.{slice_get_within}
use Rattle.dcc_ir.specs.Views.{block_of, graph_of}
use Rattle.dcc_flow.specs.Access.{block_access_in, block_access_of}
use Rattle.dcc_copies.specs.Choice.{begins_of, begins_by}
use Rattle.dcc_copies.specs.Holders.{name_by}
use Rattle.dcc_copies.specs.Settled.{IsRightBlock}
use Rattle.dcc_copies.proofs.ChoiceLaws.{names-right, right-more}
use Rattle.dcc_copies.proofs.LoopLaws.{mapped-twice}
use Rattle.dcc_copies.proofs.testing.Choice.is_right.Goals as goal

pub block_is_right-requires-clause-access : goal.block_is_right-requires-clause-access
block_is_right-requires-clause-access c =
    mapped-twice block_access_in block_access_of block_of c.in_ok-accesses.accesses.items c.args.g.now.blocks.items
    c.in_ok-accesses.ensures c.loop-place.place c.index-in-loop-place.result.now c.index.result.now
    (omega (arith, c.loop-place-test.true, c.len-place-end.ensures)) c.index-in-loop-place.ensures c.index.ensures

pub loop-place-preserved : goal.loop-place-preserved
loop-place-preserved c =
    let names = c.args.self.now.names.of.items in
    record {
      plain = c.in_ok-block_is_right.ensures.plain c.if-not-branch.false;
      right =
          right-more (IsRightBlock (name_by names) (begins_by names (begins_of c.args.self.now))) c.args.g.now.blocks.items
          c.loop-place.place c.index.result.now (omega (arith, c.loop-place-test.true, c.len-place-end.ensures))
          c.index.ensures c.loop-place.invariant.right (c.in_ok-block_is_right.ensures.right c.if-not-branch.false);
    }

pub returns : goal.returns
returns c = λ is.
    let names = c.args.self.now.names.of.items in
    let blocks = c.args.g.now.blocks.items in
    names-right names c.as_slice.result.now (c.has_widths.ensures c.if-not-has_widths.false) (graph_of c.args.g.now)
    (begins_of c.args.self.now) (sym c.as_slice.ensures.value) (c.begins_plain.ensures c.if-not-begins_plain.false)
    (λ place block found.
    let within = slice_get_within (graph_of c.args.g.now).blocks place block found in
    let count = length-map blocks block_of in
    c.loop-place.invariant.right place block
    (omega (arith, within, count, c.len-place-end.ensures, c.loop-place-test.false)) found)
