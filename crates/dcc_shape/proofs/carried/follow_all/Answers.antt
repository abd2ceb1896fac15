use Rattle.std.proofs.Common.{◌≡◌, ◌<◌, ◌+◌, ℕ, Bool, true, false, List, length, take, get_or, sym, ap, subst, ◌∙◌, arith}
use Rattle.std.specs.BTreeSet.{BTreeSet}
use Rattle.std.proofs.lemmas.Bool.{and_from, false≢true}
use Rattle.std.proofs.lemmas.List.Folds.{list_all_more}
use denote.Ref.{Bor}
use Rattle.dcc_c.specs.Tree.{Word}
use Rattle.dcc_c.specs.Views.{stmt_of}
use Rattle.dcc_shape.specs.declared.seen.Seen.{Seen as SeenOf}
use Rattle.dcc_shape.specs.Carried.{keeps, goes_to}
use Rattle.dcc_shape.specs.Carrying.{holds, Within, settles, all_settle, all_keep, strangers}
use Rattle.dcc_shape.proofs.CarryLaws.{each, no-more-strangers, fewer-strangers}
use Rattle.dcc_shape.proofs.carried.follow_all.Goals as goal
use Rattle.dcc_shape.proofs.carried.follow_all.Goals.{then-branch, else-branch}

-- The statement that is followed at a step of the loop, as the one at its place.
module _ (list : List SeenOf) (i : ℕ) (s : SeenOf) (inside : i < length list) (is : s ≡ get_or list i s) where
  kept-at : (unplaced all : Word → Bool) → all_keep unplaced all list ≡ true
      → keeps unplaced all (stmt_of s.stmt.now) ≡ true
  kept-at unplaced all kept =
      ap (λ (x : SeenOf). keeps unplaced all (stmt_of x.stmt.now)) is
      ∙ each (λ (x : SeenOf). keeps unplaced all (stmt_of x.stmt.now)) list i s inside kept

  settle-next : (unplaced names : Word → Bool) → all_settle unplaced names (take i list) ≡ true
      → settles unplaced names (stmt_of s.stmt.now) ≡ true → all_settle unplaced names (take (i + 1) list) ≡ true
  settle-next unplaced names before here =
      list_all_more (λ (x : SeenOf). settles unplaced names (stmt_of x.stmt.now)) list i s inside
      ∙ and_from (all_settle unplaced names (take i list)) (settles unplaced names (stmt_of (get_or list i s).stmt.now)) before
      (ap (λ (x : SeenOf). settles unplaced names (stmt_of x.stmt.now)) (sym is) ∙ here)

  fewer-next : (few many : Word → Bool) → Within few many → goes_to few (stmt_of s.stmt.now) ≡ false
      → goes_to many (stmt_of s.stmt.now) ≡ true → strangers many list < strangers few list
  fewer-next few many within away there =
      fewer-strangers few many within list i s inside
      (ap (λ (x : SeenOf). goes_to few (stmt_of x.stmt.now)) (sym is) ∙ away)
      (ap (λ (x : SeenOf). goes_to many (stmt_of x.stmt.now)) (sym is) ∙ there)

pub loop-seen-preserved : goal.loop-seen-preserved
loop-seen-preserved c =
    let list = c.args.list.now in
    let i = c.loop-seen.seen-index in
    let s = c.seen-item.result in
    let unplaced = holds c.args.unplaced.now in
    let first = holds c.args.names.now in
    let old = holds c.loop-seen.names in
    let new = holds c.follow.new.names in
    let before = c.loop-seen.invariant in
    let inside : i < length list = omega (arith, c.loop-seen-test.true) in
    let more : Within first new = λ word is. c.in_ok-follow.ensures.more word (before.more word is) in
    record {
      more = more;
      forced = λ all within kept.
          c.in_ok-follow.ensures.forced all (before.forced all within kept) (kept-at list i s inside c.seen-item.is unplaced all kept);
      settled = λ still. elim c.if-branch.branch [
        | then-branch w ↦ absurd (false≢true (sym still ∙ w.grown-is))
        | else-branch w ↦
            let same = c.in_ok-follow.ensures.same w.if-branch.false in
            let had = before.settled (sym w.grown-is ∙ still) in (
              same.0 ∙ had.0,
              settle-next list i s inside c.seen-item.is unplaced new
                  (subst (λ (names : BTreeSet (Bor (List ℕ))). all_settle unplaced (holds names) (take i list) ≡ true) (sym same.0) had.1) same.1,
            )
      ];
      fewer = λ grown. elim c.if-branch.branch [
        | then-branch w ↦
            let told = c.in_ok-follow.ensures.grown w.if-branch.true in
            let less = fewer-next list i s inside c.seen-item.is old new c.in_ok-follow.ensures.more told.0 told.1 in
            let so_far = no-more-strangers first old before.more list in
            omega (arith, less, so_far)
        | else-branch w ↦
            let same = c.in_ok-follow.ensures.same w.if-branch.false in
            subst (λ (names : BTreeSet (Bor (List ℕ))). strangers (holds names) list < strangers first list) (sym same.0)
            (before.fewer (sym w.grown-is ∙ grown))
      ];
    }
