-- What a pass leaves that makes one graph plainer: it may stand in the given graph's place, and nothing that others see
-- of it has changed.
use Rattle.std.specs.Prelude.{◌≡◌, ℕ, Bool, true, false, ◌&&◌, not, List, [], ◌∷◌}
use Rattle.std.specs.List.{list_all}
use Rattle.dcc_ir.specs.declared.syntax.Loc.{Loc}
use Rattle.dcc_ir.specs.Tree.{Graph}
use Rattle.dcc_ir.specs.Live.{is_among}
use Rattle.dcc_ir.specs.Use.{addresses_of, graph_exprs}
use Rattle.dcc_ir.specs.WellFormed.{IsGraph}
use Rattle.dcc_passes.specs.Replaced.{StandsFor}
use Rattle.dcc_passes.specs.Kinds.{StaysInKind}
use Rattle.dcc_passes.specs.Renaming.{param_places}

-- each address in the frame that the graph takes passes the test
abbrev pub takes_addresses : (ℕ → Bool) → Graph → Bool
takes_addresses test graph = list_all (λ e. list_all test (addresses_of e)) (graph_exprs graph)

-- no location stands twice in the list
abbrev pub are_different : List Loc → Bool
are_different [] = true
are_different (location ∷ others) = not (is_among others location) && are_different others

-- no location takes two arguments
abbrev pub takes_apart : Graph → Bool
takes_apart graph = are_different (param_places graph.params)

-- The second graph is well formed, stands for the first and stays in kind. It takes no other address in the frame, and
-- where no location took two arguments, none does.
pub record IsTidied (before after : Graph) : Type 0 where
  pub formed : IsGraph after
  pub stands : StandsFor before after
  pub kind : StaysInKind before after
  pub addresses : (test : ℕ → Bool) → takes_addresses test before ≡ true → takes_addresses test after ≡ true
  pub apart : takes_apart before ≡ true → takes_apart after ≡ true
