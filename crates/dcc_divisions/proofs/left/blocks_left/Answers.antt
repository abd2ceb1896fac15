use Rattle.std.proofs.Common.{◌≡◌, ◌<◌, [], ◌∷◌, ◌++◌, length, map, get_or, slice_get, sym, ap, ◌∙◌, subst, arith}
use Rattle.std.proofs.lemmas.List.{append_assoc, length_push, length-map, get_or-map}
use Rattle.dcc_ir.specs.Views.{block_of}
use Rattle.dcc_flow.specs.Access.{block_access_in, block_access_of}
use Rattle.dcc_live.proofs.DeadLaws.{mapped_at}
use Rattle.dcc_divisions.specs.Divisions.{IsBlockLeft}
use Rattle.dcc_divisions.specs.Walk.{CoversEnd}
use Rattle.dcc_divisions.proofs.WalkLaws.{got-at, dropped-at, less-at, pushed}
use Rattle.dcc_divisions.proofs.left.blocks_left.Goals as goal

pub block_left-requires-clause-access : goal.block_left-requires-clause-access
block_left-requires-clause-access c =
    let done = c.loop-block.yielded in
    let block = c.in-Some.block in
    let rest = c.next.new.self.rest.items in
    let inv = c.loop-block.invariant in
    let whole = inv.whole ∙ ap (λ l. done ++ l) c.in-Some.ensures.steps.0 in
    let place : c.len-place.result ≡ length done = omega (arith, c.len-place.ensures, inv.count) in
    let access = c.index-in-loop-block.result.now in
    mapped_at block_access_in block_access_of c.args.accesses.now.items (map block_of (done ++ block ∷ rest)) (length done) access (block_of block) (map block_of rest)
    (c.requires.accesses ∙ ap (λ l. map block_access_of (map block_of l)) whole) (less-at done block rest)
    (c.index-in-loop-block.ensures ∙ ap (λ n. get_or c.args.accesses.now.items n access) place) (dropped-at done block rest)

pub loop-block-preserved : goal.loop-block-preserved
loop-block-preserved c =
    let done = c.loop-block.yielded in
    let left = c.loop-block.left.items in
    let block = c.in-Some.block in
    let new = c.in_ok-block_left.field-0 in
    let rest = c.next.new.self.rest.items in
    let inv = c.loop-block.invariant in
    let whole = inv.whole ∙ ap (λ l. done ++ l) c.in-Some.ensures.steps.0 in
    let place : c.len-place.result ≡ length done = omega (arith, c.len-place.ensures, inv.count) in
    let row = c.index.result.now in
    let at_end = c.args.at_end.now.items in
    let less : length done < length at_end = omega (arith, less-at done block rest, length-map (done ++ block ∷ rest) block_of, ap length whole, c.requires.count) in
    let row-is =
    c.as_slice-at_end.ensures.value ∙ ap (λ v. v.items) (c.index.ensures ∙ ap (λ n. get_or at_end n row) place)
    ∙ sym (get_or-map (λ v. v.items) at_end (length done) row [] less) in
    record {
      whole = whole ∙ sym (append_assoc done (block ∷ []) rest);
      count = omega (arith, ap length c.in_ok-push.ensures.items, length_push left new, length_push done block, inv.count);
      left = λ graph ends.
          let covers = ends (length done) (block_of block) (ap (λ l. slice_get (map block_of l) (length done)) whole ∙ got-at done block rest) in
          pushed block_of (IsBlockLeft graph) done left block new c.push.new.self.items c.in_ok-push.ensures.items (inv.left graph ends)
          (c.in_ok-block_left.ensures.left graph (subst (CoversEnd graph (block_of block)) (sym row-is) covers));
      empty = c.in_ok-block_left.ensures.empty;
    }
