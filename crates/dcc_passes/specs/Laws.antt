-- The laws by which a graph may stand in the place of another.
use Rattle.std.specs.Prelude.{ℕ, List}
use Rattle.std.specs.List.{AllZip}
use Rattle.dcc_ir.specs.Tree.{Graph}
use Rattle.dcc_ir.specs.WellFormed.{IsProgram, IsGraph}
use Rattle.dcc_ir.specs.Form.{GraphStays}
use Rattle.dcc_ir.specs.Families.{Family, IsClosed}
use Rattle.dcc_ir.specs.Replaced.{MayReplace}
use Rattle.dcc_passes.specs.Replaced.{StandsFor, with_graphs, IsLeft}
use Rattle.dcc_passes.specs.OneGraph.{Invariant, FitsInPlace, BeginsIn, GoesIn}
use Rattle.dcc_passes.specs.Kinds.{StaysInKind}
use Rattle.dcc_passes.specs.Following.{Link, IsFollowedByGraph}
use Rattle.dcc_passes.specs.Renamed.{Renaming, IsRenamed}
use Rattle.dcc_passes.specs.Tidied.{IsTidied}

-- what stands for a graph that stands for another stands for that one
abbrev pub StandingComposes : Type 0
StandingComposes = (g h k : Graph) → StandsFor g h → StandsFor h k → StandsFor g k

-- where each graph stands for the one at its place, the program of the first graphs is kept by that of the second
abbrev pub AllMayStand : Type 0
AllMayStand = (image : List ℕ) (lo hi : ℕ) (before after : List Graph) → AllZip StandsFor before after
    → IsProgram (with_graphs image lo hi before) → IsLeft image lo hi before after

-- a graph that begins and goes on as the other does, and fits in its place, may stand there
abbrev pub OneMayStand : (ℕ → ℕ) → Invariant → Type 0
OneMayStand place inv = (before after : Graph) → FitsInPlace place before after → BeginsIn before after inv
    → GoesIn place before after inv → MayReplace before after

-- it stands for the other
abbrev pub OneStands : (ℕ → ℕ) → Invariant → Type 0
OneStands place inv = (before after : Graph) → FitsInPlace place before after → BeginsIn before after inv
    → GoesIn place before after inv → StandsFor before after

-- a well-formed graph with the other's form fits in its place
abbrev pub FormsFit : Type 0
FormsFit = (before after : Graph) → GraphStays before after → IsGraph after → FitsInPlace (λ k. k) before after

-- a well-formed graph that stays in kind fits in the other's place
abbrev pub KindsFit : Type 0
KindsFit = (before after : Graph) → StaysInKind before after → IsGraph after → FitsInPlace (λ k. k) before after

-- a well-formed graph that stays in kind and follows another statement by statement stands for it
abbrev pub FollowedStands : Link → Type 0
FollowedStands link = (before after : Graph) → StaysInKind before after → IsGraph after
    → IsFollowedByGraph before after link → StandsFor before after

-- a well-formed graph that is another one with other locations for those that matter, by a closed family, stands for it
abbrev pub RenamedStands : Family → Renaming → Type 0
RenamedStands family name = (before after : Graph) → IsClosed before family → IsRenamed family name before after
    → IsGraph after → StandsFor before after

-- a well-formed graph is what is left of it by a pass that changes nothing
abbrev pub TidiedItself : Type 0
TidiedItself = (graph : Graph) → IsGraph graph → IsTidied graph graph

-- what one pass leaves of what another leaves is what both leave
abbrev pub TidiedComposes : Type 0
TidiedComposes = (g h k : Graph) → IsTidied g h → IsTidied h k → IsTidied g k
