use Rattle.std.proofs.Common.{◌≡◌, ℕ, ◌+◌, Bool, List, take, sym, subst, ◌∙◌}
use Rattle.std.specs.Prelude.{◌&&◌}
use Rattle.std.specs.BTreeSet.{BTreeSet, contains}
use Rattle.std.specs.Ordering.{nat_cmp}
use Rattle.dcc_flow.specs.Edges.{is_in}
use Rattle.dcc_shape.proofs.KnownLaws.{meeting-more, meeting-none}
use Rattle.dcc_shape.proofs.jumps.meetings.Goals as goal
use Rattle.dcc_shape.proofs.jumps.meetings.Goals.{then-contains+in_ok-insert, else-contains}

-- the set has those of the addresses, up to the place, that pass the test
abbrev IsMet : BTreeSet ℕ → List ℕ → ℕ → (ℕ → Bool) → Type 0
IsMet known ats i test = (n : ℕ) → contains nat_cmp known n ≡ (is_in (take (i + 1) ats) n && test n)

pub loop-at-preserved : goal.loop-at-preserved
loop-at-preserved c =
    let test = contains nat_cmp c.args.edges.now.twice in
    elim c.if-contains.branch [
      | then-contains+in_ok-insert w ↦ subst (λ known. IsMet known c.args.ats.now c.loop-at.at-index test) (sym w.known-is) (meeting-more c.loop-at.known c.args.ats.now c.loop-at.at-index test c.loop-at-test.true c.loop-at.invariant w.insert.new.self (sym c.contains.ensures ∙ w.if-contains.true) w.in_ok-insert.ensures.updates)
      | else-contains w ↦ subst (λ known. IsMet known c.args.ats.now c.loop-at.at-index test) (sym w.known-is) (meeting-none c.loop-at.known c.args.ats.now c.loop-at.at-index test c.loop-at-test.true c.loop-at.invariant (sym c.contains.ensures ∙ w.if-contains.false))
    ]
