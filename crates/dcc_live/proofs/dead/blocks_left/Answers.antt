use Rattle.std.proofs.Common.{◌≡◌, [], length, get_or, map, drop, reverse, ap, ◌∙◌, arith}
use Rattle.std.proofs.lemmas.List.{length-map}
use Rattle.dcc_ir.specs.Views.{block_of}
use Rattle.dcc_flow.specs.Access.{block_access_in, block_access_of}
use Rattle.dcc_live.specs.Needed.{block_left}
use Rattle.dcc_live.proofs.DeadLaws.{last_taken, block_step, mapped_at}
use Rattle.dcc_live.proofs.dead.blocks_left.Goals as goal

pub block_left-requires-clause-access : goal.block_left-requires-clause-access
block_left-requires-clause-access c =
    let all = map block_of c.args.blocks.items in
    let fewer = c.pop.new.self.items in
    let inv = c.loop-block.invariant in
    let taken = last_taken all c.loop-block.rest.items fewer c.in-Some.block c.in-Some.ensures.items inv.le inv.front in
    let place : c.len-place.result ≡ length fewer = omega (arith, c.len-place.ensures) in
    let read = c.index.ensures ∙ ap (λ n. get_or c.args.accesses.now.items n c.index.result.now) place in
    mapped_at block_access_in block_access_of c.args.accesses.now.items all (length fewer) c.index.result.now
    (block_of c.in-Some.block) (drop (length c.loop-block.rest.items) all) c.requires.accesses taken.less read taken.here

pub loop-block-preserved : goal.loop-block-preserved
loop-block-preserved c =
    let all = map block_of c.args.blocks.items in
    let rest = c.loop-block.rest.items in
    let fewer = c.pop.new.self.items in
    let block = c.in-Some.block in
    let is = c.in-Some.ensures.items in
    let inv = c.loop-block.invariant in
    let taken = last_taken all rest fewer block is inv.le inv.front in
    let place : c.len-place.result ≡ length fewer = omega (arith, c.len-place.ensures) in
    let places = c.args.needed.now.places in
    let at_end = c.args.needed.now.at_end.items in
    let size : length at_end ≡ length all = omega (arith, c.requires.count, length-map c.args.blocks.items block_of) in
    let made = c.in_ok-staying.ensures.left ∙ ap (λ n. block_left places (get_or at_end n []) (block_of block)) place in
    record {
      le = omega (arith, taken.less);
      front = taken.front;
      left = ap (λ l. map block_of (reverse l)) c.in_ok-push.ensures.items
          ∙ block_step places at_end all rest fewer block c.loop-block.left.items c.in_ok-staying.staying is inv.le size inv.front inv.left made;
      none = c.in_ok-staying.ensures.empty;
    }
