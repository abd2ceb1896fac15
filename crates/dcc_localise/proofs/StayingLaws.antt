-- From what is told of each entry to the arguments and values that stay.
use Rattle.std.proofs.Common.{◌≡◌, ℕ, zero, suc, ◌==◌, nat_eq, Bool, true, false, cond, List, [], ◌∷◌, slice_get, map, drop, Option, Some, None, refl, sym, ap, ◌∙◌}
use Rattle.std.specs.Prelude.{option_map}
use Rattle.std.specs.Map.{lookup}
use Rattle.std.proofs.Math.Seq.{drop-nil}
use Rattle.dcc_ir.specs.declared.syntax.Loc.{Loc}
use Rattle.dcc_ir.specs.Tree.{Graph, Program, Summary}
use Rattle.dcc_ir.specs.Passing.{passed}
use Rattle.dcc_ir.specs.Run.{no_graph, graph_at}
use Rattle.dcc_ir.specs.Flow.{graph_or_none}
use Rattle.dcc_ir.specs.Trimmed.{Trim, trim_graph}
use Rattle.dcc_sums.specs.Localised.{no_summary, summary_at, is_taken, is_given, trim_by, localised}
use Rattle.dcc_localise.specs.declared.staying.Stays.{Stays}
use Rattle.dcc_localise.specs.Staying.{Places, places_of, stays_in, stays_of, summary_or_none, stays_at, params_in, results_in, told, trim_in}

-- Places of lists.

-- a test of what stands at a place, read from the tests of all
test_read : {A : Type 0} (test : Option A → Bool) → test None ≡ false → (xs : List A) (k : ℕ) → stays_in (map (λ x. test (Some x)) xs) k ≡ test (slice_get xs k)
test_read test none [] k = sym none
test_read test none (x ∷ xs) zero = refl
test_read test none (x ∷ xs) (suc k) = test_read test none xs k

given_none : (value : Option Loc) → is_given [] value ≡ false
given_none (Some location) = refl
given_none None = refl

-- Graphs.

-- no graph has a summary where none is told
unsummed : (graphs : List Graph) (entry : ℕ) → summary_at graphs [] entry ≡ no_summary
unsummed [] entry = refl
unsummed (graph ∷ graphs) entry = refl

-- what is told of the first graph with an entry is what its summary tells of it
module _ (told_by : Option Places → Bool) (is_so : Summary → Graph → Bool) (none : told_by None
    ≡ is_so no_summary no_graph)
    (some : (graph : Graph) (sum : Summary) → told_by (Some (stays_of graph sum)) ≡ is_so sum graph) where
  first_told : (graphs : List Graph) (sums : List Summary) (entry : ℕ)
      → told_by (stays_at graphs sums entry) ≡ is_so (summary_at graphs sums entry) (graph_or_none (graph_at graphs
      entry))
  first_told [] sums entry = none
  first_told (graph ∷ graphs) (sum ∷ sums) entry = go (graph.entry == entry) (first_told graphs sums entry)
    where
      go : (b : Bool)
          → told_by (stays_at graphs sums entry) ≡ is_so (summary_at graphs sums entry) (graph_or_none (graph_at graphs entry))
          → told_by (cond b (Some (stays_of graph sum)) (stays_at graphs sums entry))
          ≡ is_so (cond b sum (summary_at graphs sums entry)) (graph_or_none (cond b (Some graph) (graph_at graphs
          entry)))
      go true later = some graph sum
      go false later = later
  first_told (graph ∷ graphs) [] entry =
      go (graph.entry == entry) (first_told graphs [] entry ∙ ap (λ s. is_so s (graph_or_none (graph_at graphs entry))) (unsummed graphs entry))
    where
      go : (b : Bool)
          → told_by (stays_at graphs [] entry) ≡ is_so no_summary (graph_or_none (graph_at graphs entry))
          → told_by (cond b (Some (stays_of graph no_summary)) (stays_at graphs [] entry))
          ≡ is_so no_summary (graph_or_none (cond b (Some graph) (graph_at graphs entry)))
      go true later = some graph no_summary
      go false later = later

-- the params that stay of the graph with an entry
takes : (graphs : List Graph) (sums : List Summary) (entry k : ℕ)
    → stays_in (params_in (stays_at graphs sums entry)) k ≡ is_taken (summary_at graphs sums entry).params (slice_get (graph_or_none (graph_at graphs entry)).params k)
takes graphs sums entry k =
    first_told (λ t. stays_in (params_in t) k) (λ sum graph. is_taken sum.params (slice_get graph.params k)) refl
    (λ graph sum. test_read (is_taken sum.params) refl graph.params k) graphs sums entry

-- the values that stay of the graph with an entry
gives : (graphs : List Graph) (sums : List Summary) (entry k : ℕ)
    → stays_in (results_in (stays_at graphs sums entry)) k ≡ is_given (summary_at graphs sums entry).results (slice_get passed k)
gives graphs sums entry k =
    first_told (λ t. stays_in (results_in t) k) (λ sum graph. is_given sum.results (slice_get passed k)) (sym (given_none (slice_get passed k)))
    (λ graph sum. test_read (is_given sum.results) refl passed k) graphs sums entry

-- where the map tells of each entry what stays of its graph, it tells just what is wanted
pub tells : (entries : List (ℕ × Stays)) (graphs : List Graph) (sums : List Summary) → ((entry : ℕ) → told entries entry ≡ stays_at graphs sums entry) → trim_in entries ≡ trim_by graphs sums
tells entries graphs sums same = λ i. record {
  takes = λ entry k. (ap (λ t. stays_in (params_in t) k) (same entry) ∙ takes graphs sums entry k) i;
  gives = λ entry k. (ap (λ t. stays_in (results_in t) k) (same entry) ∙ gives graphs sums entry k) i;
}

-- what is told from a place on: of the graph there, then from the next place on
told_there : (graphs : List Graph) (sums : List Summary) (k : ℕ) (graph : Graph) → slice_get graphs k ≡ Some graph → (entry : ℕ)
    → stays_at (drop k graphs) (drop k sums) entry
    ≡ cond (graph.entry == entry) (Some (stays_of graph (summary_or_none (slice_get sums k)))) (stays_at (drop (suc k) graphs) (drop (suc k) sums) entry)
told_there [] sums k graph found entry = absurd (cc)
told_there (g ∷ graphs) [] zero graph found entry =
    let same : g ≡ graph = cc in
    ap (λ g. cond (g.entry == entry) (Some (stays_of g no_summary)) (stays_at graphs [] entry)) same
told_there (g ∷ graphs) (sum ∷ sums) zero graph found entry =
    let same : g ≡ graph = cc in
    ap (λ g. cond (g.entry == entry) (Some (stays_of g sum)) (stays_at graphs sums entry)) same
told_there (g ∷ graphs) [] (suc k) graph found entry =
    ap (λ l. stays_at (drop k graphs) l entry) (sym (drop-nil k)) ∙ told_there graphs [] k graph found entry
told_there (g ∷ graphs) (sum ∷ sums) (suc k) graph found entry = told_there graphs sums k graph found entry

-- after the graph at a place has been put into the map, this tells what stays from there on
pub put : (graphs : List Graph) (sums : List Summary) (k : ℕ) (graph : Graph) (stays : Stays) (old new : List (ℕ × Stays))
    → slice_get graphs k ≡ Some graph → places_of stays ≡ stays_of graph (summary_or_none (slice_get sums k))
    → ((entry : ℕ) → lookup (nat_eq entry) new ≡ cond (nat_eq graph.entry entry) (Some stays) (lookup (nat_eq entry) old))
    → ((entry : ℕ) → told old entry ≡ stays_at (drop (suc k) graphs) (drop (suc k) sums) entry)
    → (entry : ℕ) → told new entry ≡ stays_at (drop k graphs) (drop k sums) entry
put graphs sums k graph stays old new found is updates so_far entry =
    go (nat_eq graph.entry entry) (updates entry) ∙ sym (told_there graphs sums k graph found entry)
  where
    go : (b : Bool) → lookup (nat_eq entry) new ≡ cond b (Some stays) (lookup (nat_eq entry) old)
        → told new entry ≡ cond b (Some (stays_of graph (summary_or_none (slice_get sums k)))) (stays_at (drop (suc k) graphs) (drop (suc k) sums) entry)
    go true told_is = ap (option_map places_of) told_is ∙ ap Some is
    go false told_is = ap (option_map places_of) told_is ∙ so_far entry

-- the program whose graphs are trimmed as the summaries tell is the localised one
pub is_localised : (p : Program) (sums : List Summary) (trim : Trim) (graphs : List Graph)
    → graphs ≡ map (trim_graph trim) p.graphs → trim ≡ trim_by p.graphs sums → record p { graphs = graphs } ≡ localised sums p
is_localised p sums trim graphs trimmed same = ap (λ gs. record p { graphs = gs }) (trimmed ∙ ap (λ t. map (trim_graph t) p.graphs) same)
