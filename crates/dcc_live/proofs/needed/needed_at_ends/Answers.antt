use Rattle.std.proofs.Common.{map, ap, ◌∙◌, subst, Contains}
use Rattle.std.specs.Prelude.{All}
use Rattle.dcc_live.specs.First.{Row, row_of}
use Rattle.dcc_live.proofs.needed.needed_at_ends.Goals as goal

pub solved-requires-clause-places : goal.solved-requires-clause-places
solved-requires-clause-places g c =
    subst (λ r. All (λ (row : Row). All (Contains c.in_ok-places.places) row.first) r)
    (c.in_ok-rows.ensures ∙ ap (map row_of) c.requires.blocks) c.in_ok-places.ensures
