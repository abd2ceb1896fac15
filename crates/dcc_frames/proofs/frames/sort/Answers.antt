use Rattle.std.proofs.Common.{◌≡◌, ℤ, rules}
use Rattle.std.specs.Ordering.{int_cmp}
use Rattle.std.specs.List.Sorted.{IsSortedByKey}
use Rattle.std.proofs.lemmas.List.Sorted.{answers_always}
use Rattle.dcc_frames.specs.declared.bytes.Piece.{Piece}
use Rattle.dcc_frames.proofs.Sorting.{by-first}
use Rattle.dcc_frames.proofs.frames.sort.Goals as goal

pub returns-clause-order : goal.returns-clause-order
returns-clause-order c =
    let first : Piece → ℤ = λ p. p.bytes.first in
    let up : IsSortedByKey first int_cmp c.sort_by_key.new.self.items =
    c.in_ok-sort_by_key.ensures.sorted first
    (answers_always _ (λ a r. r ≡ first a.0.now) _ (λ f a r g called. search rules)) in
    by-first c.sort_by_key.new.self.items up
