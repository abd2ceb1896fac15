use Rattle.std.proofs.Common.{◌≡◌, ℕ, ◌+◌, ◌-◌, ◌<◌, List, ◌∷◌, drop, length, get_or, sym, ap, ◌∙◌, arith}
use Rattle.std.specs.BTreeSet.{contains}
use Rattle.std.specs.Ordering.{nat_cmp}
use Rattle.std.proofs.lemmas.Bool.{not-true, not-false}
use Rattle.std.proofs.lemmas.List.{drop_more}
use Rattle.dcc_shape.proofs.EdgeLaws.{added-new, added-old}
use Rattle.dcc_shape.proofs.edges.add_different.Goals as goal

-- the number at the place, and those after it
parts : (row : List ℕ) (i : ℕ) → i - 1 < length row → i - 1 + 1 ≡ i → drop (i - 1) row ≡ get_or row (i - 1) 0 ∷ drop i row
parts row i within next = drop_more row (i - 1) 0 within ∙ ap (λ k. get_or row (i - 1) 0 ∷ drop k row) next

pub loop-i-preserved : goal.loop-i-preserved
loop-i-preserved c =
    let row = c.args.row.now in
    let i = c.loop-i.i in
    let n = get_or row (i - 1) 0 in
    let within : i - 1 < length row = omega (arith, c.loop-i-test.true, c.loop-i.invariant.within) in
    record {
      within = omega (arith, within);
      added = added-old c.loop-i.known (drop i row) c.args.list.now.items c.loop-i.list.items n c.loop-i.invariant.added c.insert.new.self (drop (i - 1) row)
          (parts row i within (omega (arith, c.loop-i-test.true)))
          (not-false (contains nat_cmp c.loop-i.known n) (sym c.in_ok-insert.ensures.added ∙ c.if-branch.false)) c.in_ok-insert.ensures.updates;
    }

pub loop-i-preserved-in-Continue-branch-2 : goal.loop-i-preserved-in-Continue-branch-2
loop-i-preserved-in-Continue-branch-2 c =
    let row = c.args.row.now in
    let i = c.loop-i.i in
    let n = get_or row (i - 1) 0 in
    let within : i - 1 < length row = omega (arith, c.loop-i-test.true, c.loop-i.invariant.within) in
    record {
      within = omega (arith, within);
      added = added-new c.loop-i.known (drop i row) c.args.list.now.items c.loop-i.list.items n c.loop-i.invariant.added c.insert.new.self (drop (i - 1) row) c.push.new.self.items
          (parts row i within (omega (arith, c.loop-i-test.true)))
          (not-true (contains nat_cmp c.loop-i.known n) (sym c.in_ok-insert.ensures.added ∙ c.if-branch.true)) c.in_ok-insert.ensures.updates c.in_ok-push.ensures.items;
    }
