-- Laws of trails.
use Rattle.std.specs.Prelude.{◌≡◌, ◌⊎◌, ℕ, List, ◌∷◌, take, Contains}
use Rattle.dcc_machine.specs.declared.image.Image.{Image}
use Rattle.dcc_prog.specs.declared.procedure.Layout.{Layout}
use Rattle.dcc_prog.specs.Trail.{known_ah, successors, IsTrail, IsNode, IsEdge}

-- two trails that end at one offset, before which the same is known of AH and the last five offsets are the same,
-- have the same successors
abbrev pub KnownAhAndWindowDecideSuccessors : Type 0
KnownAhAndWindowDecideSuccessors =
    (image : Image) (layout : Layout) (at : ℕ) (before others : List ℕ)
    → known_ah image layout before ≡ known_ah image layout others → take 5 before ≡ take 5 others
    → successors image layout (at ∷ before) ≡ successors image layout (at ∷ others)

-- nodes begin at the entry, and trails go on to nodes
pub record EntryAndSuccessorsAreNodes : Type 0 where
  pub entry : (image : Image) (layout : Layout) (entry : ℕ) → IsNode image layout entry entry
  pub successor :
      (image : Image) (layout : Layout) (entry at : ℕ) (trail : List ℕ) → IsTrail image layout entry trail
      → Contains (successors image layout trail) at → IsNode image layout entry at

-- the node has an edge from another node of the procedure
pub record HasPredecessor (image : Image) (layout : Layout) (entry at : ℕ) : Type 0 where
  pub from : ℕ
  pub node : IsNode image layout entry from
  pub edge : IsEdge image layout entry from at

abbrev pub OtherNodesHavePredecessors : Type 0
OtherNodesHavePredecessors =
    (image : Image) (layout : Layout) (entry at : ℕ) → IsNode image layout entry at
    → (at ≡ entry) ⊎ HasPredecessor image layout entry at
