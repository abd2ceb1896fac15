use Rattle.std.proofs.Common.{◌≡◌, ◌++◌, None, pos, take, nat_eq}
use Rattle.std.specs.List.{flat_map}
use Rattle.indexmap.specs.IndexMap.{get}
use Rattle.dcc_frames.specs.Pieces.{words_from, used_by}
use Rattle.dcc_frames.proofs.pieces.pieces.Given as goal

abbrev pub invariant-loop-step : goal.invariant-loop-step
invariant-loop-step l =
    l.pieces.items
    ≡ words_from (pos 4) l.body.args None
    ++ flat_map (used_by l.body.framed (λ entry. get nat_eq l.counts entry)) (take l.step-index l.body.steps.items)
