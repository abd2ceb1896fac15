-- Which arguments and values given back stay, place by place.
use Rattle.std.specs.Prelude.{ℕ, ◌==◌, nat_eq, Bool, false, List, [], ◌∷◌, map, get_or, Option, Some, None, option_map}
use Rattle.std.specs.Prelude.{if◌then◌else◌}
use Rattle.std.specs.Map.{lookup}
use Rattle.dcc_ir.specs.declared.syntax.Loc.{Loc}
use Rattle.dcc_ir.specs.declared.syntax.Param.{Param}
use Rattle.dcc_ir.specs.Tree.{Graph, Summary}
use Rattle.dcc_ir.specs.Live.{is_among}
use Rattle.dcc_ir.specs.Passing.{passed}
use Rattle.dcc_ir.specs.Trimmed.{Trim}
use Rattle.dcc_sums.specs.Localised.{no_summary, is_taken}
use Rattle.dcc_localise.specs.declared.staying.Stays.{Stays}

-- the place stays, by a list of which places do
abbrev pub stays_in : List Bool → ℕ → Bool
stays_in stays k = get_or stays k false

-- which params of a graph stay, and which of the values that pass
pub record Places : Type 0 where
  pub params : List Bool
  pub results : List Bool

abbrev pub places_of : Stays → Places
places_of s = record { params = s.params.items; results = s.results.items }

-- which params stay where the given locations are taken
abbrev pub taken_of : List Loc → List Param → List Bool
taken_of locations params = map (λ param. is_taken locations (Some param)) params

-- which of the values that pass stay where the given locations are given back
abbrev pub given_of : List Loc → List Bool
given_of locations = map (λ location. is_among locations location) passed

-- what stays of a graph with this summary
abbrev pub stays_of : Graph → Summary → Places
stays_of graph sum = record { params = taken_of sum.params graph.params; results = given_of sum.results }

-- a graph that has no summary takes no location and gives none
abbrev pub summary_or_none : Option Summary → Summary
summary_or_none (Some sum) = sum
summary_or_none None = no_summary

-- what stays of the first graph with that entry
abbrev pub stays_at : List Graph → List Summary → ℕ → Option Places
stays_at [] sums entry = None
stays_at (graph ∷ graphs) (sum ∷ sums) entry =
    if graph.entry == entry then Some (stays_of graph sum) else stays_at graphs sums entry
stays_at (graph ∷ graphs) [] entry =
    if graph.entry == entry then Some (stays_of graph no_summary) else stays_at graphs [] entry

-- which params stay of a graph, if anything is told of it; else none
abbrev pub params_in : Option Places → List Bool
params_in (Some places) = places.params
params_in None = []

abbrev pub results_in : Option Places → List Bool
results_in (Some places) = places.results
results_in None = []

-- what a map tells of an entry
abbrev pub told : List (ℕ × Stays) → ℕ → Option Places
told entries entry = option_map places_of (lookup (nat_eq entry) entries)

-- what stays of all graphs and calls by a map
abbrev pub trim_in : List (ℕ × Stays) → Trim
trim_in entries = record {
  takes = λ entry. stays_in (params_in (told entries entry));
  gives = λ entry. stays_in (results_in (told entries entry));
}
