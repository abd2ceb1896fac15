use Rattle.std.proofs.Common.{take, map}
use Rattle.dcc_encode.specs.EncodingViews.{IsBest, items_of}
use Rattle.dcc_encode.specs.Shapes.{draft}
use Rattle.dcc_encode.proofs.encoding.standard.Given as goal

-- the best of the drafts so far
abbrev pub invariant-loop-shape : goal.invariant-loop-shape
invariant-loop-shape l =
    IsBest l.cpu l.at l.op (map (draft l.op l.at) (take l.shape-index l.shape-items)) (items_of l.best)
