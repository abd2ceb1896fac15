-- What passes between the procedures of a program, by what is known of it.
use Rattle.std.specs.Prelude.{◌≡◌, ℕ, ◌==◌, Bool, true, false, ◌&&◌, ◌||◌, not, List, [], ◌∷◌, filter, Contains, map}
use Rattle.std.specs.List.{list_any, list_all}
use Rattle.dcc_num.specs.declared.Reg.{Reg}
use Rattle.dcc_num.specs.declared.Reg.TheVariants.{Ax, Dx}
use Rattle.dcc_num.specs.declared.Half.TheVariants.{Low, High}
use Rattle.dcc_ir.specs.declared.syntax.Loc.{Loc}
use Rattle.dcc_ir.specs.declared.syntax.Loc.TheVariants.{Half, Flag}
use Rattle.dcc_ir.specs.declared.syntax.Put.{Put}
use Rattle.dcc_ir.specs.declared.syntax.Put.TheVariants.{One}
use Rattle.dcc_ir.specs.declared.syntax.Param.{Param}
use Rattle.dcc_ir.specs.Tree.{Call, Graph, Program, Summary}
use Rattle.dcc_ir.specs.Live.{is_among, block_in}
use Rattle.dcc_ir.specs.Location.{same_location}
use Rattle.dcc_ir.specs.Passing.{passed}
use Rattle.dcc_sums.specs.Points.{Position, Site, Executes}
use Rattle.dcc_sums.specs.Instance.{passes, procedures_of}
use Rattle.dcc_sums.specs.Summaries.{AreJust, IsSummary, IsReused, AreOneValue}
use Rattle.dcc_demand.specs.Wanted.{IsResult}
use Rattle.dcc_summaries.specs.declared.points.Point.{Point}
use Rattle.dcc_summaries.specs.declared.backwards.Found.{Found}
use Rattle.dcc_summaries.specs.declared.summaries.SumsFault.{SumsFault}
use Rattle.dcc_summaries.specs.declared.summaries.SumsFault.TheVariants.{ArgumentReused, SeveralResults, Memory}
use Rattle.dcc_summaries.specs.Points.{point_at, next_point, graph_in}
use Rattle.dcc_summaries.specs.Table.{row_at}
use Rattle.dcc_summaries.specs.Follow.{changed_in}

-- Why there are no summaries.

-- an argument is wanted after a call that may change it, in a block with that address
pub record IsReusedAt (p : Program) (address : ℕ) : Type 0 where
  pub graph : Graph
  pub there : Contains p.graphs graph
  pub position : Position
  pub location : Loc
  pub reused : IsReused p graph.entry position location
  pub stands : (block_in graph position.block).at ≡ address

-- the procedure at that address gives several values back
pub record GivesSeveral (p : Program) (address : ℕ) : Type 0 where
  pub graph : Graph
  pub there : Contains p.graphs graph
  pub entry : graph.entry ≡ address
  pub results : List Loc
  pub just : AreJust (IsResult (procedures_of p) address) results
  pub several : ¬ AreOneValue results

abbrev pub IsFault : Program → SumsFault → Type 0
IsFault p (ArgumentReused at) = IsReusedAt p at
IsFault p (SeveralResults at) = GivesSeveral p at
IsFault p Memory = Unit {0}

-- the summary of the graph at that place, which gives one value at most
pub record IsSummaryOf (p : Program) (place : ℕ) (sum : Summary) : Type 0 where
  pub just : IsSummary p (graph_in p place) sum
  pub one : AreOneValue sum.results

-- How code tells the summaries.

abbrev pub sets_one : Loc → Put → Bool
sets_one location (One other) = same_location location other
sets_one location put = false

-- one of the params is of the location, and isn't on the stack
abbrev pub takes : List Param → Loc → Bool
takes params location = list_any (λ q. not q.stack && sets_one location q.put) params

-- the location is wanted after one of the calls of the procedure
module _ (found : Found) where
  abbrev pub wanted_before : Point → Loc → Bool
  wanted_before at location = is_among (row_at found.wants.rows.items at) location

  abbrev pub changed_by : ℕ → Loc → Bool
  changed_by = changed_in (map (λ v. v.items) found.changed.items)

  abbrev pub wanted_after : ℕ → Loc → Bool
  wanted_after entry location =
      list_any (λ port. (port.entry == entry) && wanted_before (next_point port.at) location) found.calls.items

  abbrev pub is_param : ℕ → Graph → Loc → Bool
  is_param place graph location = takes graph.params location && wanted_before (point_at place 0 0) location

  abbrev pub is_result : ℕ → Loc → Bool
  is_result entry location = changed_by entry location && wanted_after entry location

  -- the summary of the graph at that place
  abbrev pub sum_of : ℕ → Graph → Summary
  sum_of place graph = record {
    params = filter (is_param place graph) passed;
    results = filter (is_result graph.entry) passed;
    preserved = filter (λ location. not (changed_by graph.entry location)) passed;
  }

  -- one of the locations, to which a call at the point gives a byte of an argument back, is wanted after the call
  abbrev pub reuses_one : Point → List Loc → Bool
  reuses_one at results = list_any (λ location. not (passes location) && wanted_before (next_point at) location) results

  abbrev pub reuses : Point → Site → Bool
  reuses at (Executes (Call results entry arguments depth)) = reuses_one at results
  reuses at site = false

-- One value.

abbrev pub is_half_of : Reg → Loc → Bool
is_half_of r location = same_location location (Half r Low) || same_location location (Half r High)

abbrev pub is_in_pair : Loc → Bool
is_in_pair location = is_half_of Ax location || is_half_of Dx location

-- whether the locations are one value, by the first of them
abbrev pub is_one_value : List Loc → Bool
is_one_value [] = true
is_one_value (Half r h ∷ rest) = list_all (is_half_of r) rest || list_all is_in_pair (Half r h ∷ rest)
is_one_value (Flag f ∷ rest) = list_all (same_location (Flag f)) rest
is_one_value (x ∷ rest) = false
