-- What is known to be wanted while the search goes on, and what becomes known.
use Rattle.std.specs.Prelude.{ℕ, Bool, false, ◌||◌, not, List, [], ◌∷◌, map, flat_map, filter, replicate, if◌then◌else◌}
use Rattle.dcc_ir.specs.declared.syntax.Loc.{Loc}
use Rattle.dcc_ir.specs.Tree.{Expr, Program}
use Rattle.dcc_ir.specs.Use.{reads_of}
use Rattle.dcc_sums.specs.Instance.{is_passing}
use Rattle.dcc_summaries.specs.declared.points.Point.{Point}
use Rattle.dcc_summaries.specs.declared.table.Want.{Want}
use Rattle.dcc_summaries.specs.declared.demand.Demand.{Demand as DemandOf}
use Rattle.dcc_summaries.specs.Points.{site_in, used_at}
use Rattle.dcc_summaries.specs.Table.{lists_of, told_in, same_want}
use Rattle.dcc_summaries.specs.Pending.{with_pending}

-- what is known to be wanted, and what of it hasn't been followed yet, by lists
pub record Demand : Type 0 where
  pub told : Want → Bool
  pub pending : List (List Want)

abbrev pub demand_of : DemandOf → Demand
demand_of d = record { told = told_in d.wants.rows.items; pending = lists_of d.pending.lists.items }

-- nothing is known to be wanted; there are so many lists
abbrev pub no_demand : ℕ → Demand
no_demand places = record { told = λ x. false; pending = replicate places [] }

abbrev pub want_at : Point → Loc → Want
want_at at location = record { at = at; location = location }

-- the locations are wanted before the point
abbrev pub wants_at : Point → List Loc → List Want
wants_at at locations = map (want_at at) locations

-- what is known after one more location is wanted before a point
abbrev pub with_want : Demand → Want → Demand
with_want d x =
    if d.told x then d
    else record { told = λ y. same_want y x || d.told y; pending = with_pending d.pending x.at.block x }

abbrev pub with_wants : Demand → List Want → Demand
with_wants d [] = d
with_wants d (x ∷ xs) = with_wants (with_want d x) xs

-- what the arguments of a call read, but for halves and flags that pass
abbrev pub argument_reads : List Expr → List Loc
argument_reads arguments = flat_map reads_of (filter (λ e. not (is_passing e)) arguments)

-- what is used at the points of the list
abbrev pub seeds : Program → List Point → List Want
seeds p points = flat_map (λ at. wants_at at (used_at (site_in p at))) points
