use Rattle.std.proofs.Common.{◌≡◌, ℕ, Bool, false, ◌++◌, ◌∷◌, [], cond, List, take, get_or, sym, ap, ◌∙◌}
use Rattle.std.specs.List.{filter}
use Rattle.std.proofs.lemmas.List.{append-nil}
use Rattle.indexmap.specs.IndexMap.{keys}
use Rattle.dcc_shape.specs.Procedures.{place_among}
use Rattle.dcc_shape.proofs.GraphLaws.{filter-more}
use Rattle.dcc_shape.proofs.places.those_at.Goals as goal
use Rattle.dcc_shape.proofs.places.those_at.Goals.{then-is_marked+in_ok-push, else-is_marked}

pub loop-at-preserved : goal.loop-at-preserved
loop-at-preserved c =
    let marks = c.args.marks.now in
    let ats = c.args.ats.now in
    let i = c.loop-at.at-index in
    let test : ℕ → Bool = λ at. get_or marks (place_among (keys c.args.nodes.now) at) false in
    let at = get_or ats i 0 in
    let before : List ℕ = filter test (take i ats) in
    let told : test at ≡ c.is_marked.result = ap (λ n. get_or marks n false) (sym c.place.ensures.is) ∙ sym c.is_marked.ensures in
    let step = filter-more test ats i c.loop-at-test.true in
    elim c.if-is_marked.branch [
      | then-is_marked+in_ok-push w ↦
          ap (λ v. v.items) w.found-is ∙ w.in_ok-push.ensures.items ∙ ap (λ l. l ++ at ∷ []) c.loop-at.invariant
          ∙ ap (λ b. before ++ cond b (at ∷ []) []) (sym (told ∙ w.if-is_marked.true)) ∙ sym step
      | else-is_marked w ↦
          ap (λ v. v.items) w.found-is ∙ c.loop-at.invariant ∙ sym (append-nil before)
          ∙ ap (λ b. before ++ cond b (at ∷ []) []) (sym (told ∙ w.if-is_marked.false)) ∙ sym step
    ]
