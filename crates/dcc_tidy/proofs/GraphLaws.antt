-- What is tidied of graphs may stand in their places.
use Rattle.std.proofs.Common.{ℕ, List, [], ◌∷◌}
use Rattle.std.specs.List.{AllZip}
use Rattle.dcc_ir.specs.Tree.{Graph}
use Rattle.dcc_passes.specs.Tidied.{IsTidied}
use Rattle.dcc_tidy.specs.Tidied.{IsTidiedGraph}

pub graphs-tidied : (ids : List ℕ) (gs hs : List Graph) → AllZip (IsTidiedGraph ids) gs hs → AllZip IsTidied gs hs
graphs-tidied ids [] [] left = tt
graphs-tidied ids [] (h ∷ hs) left = absurd left
graphs-tidied ids (g ∷ gs) [] left = absurd left
graphs-tidied ids (g ∷ gs) (h ∷ hs) left = (left.0.stands.tidied, graphs-tidied ids gs hs left.1)
