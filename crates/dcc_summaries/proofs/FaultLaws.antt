-- Summaries as code makes them, one after another, and why there are none.
use Rattle.std.proofs.Common.{◌≡◌, ℕ, zero, suc, ◌+◌, ◌<◌, ◌≤◌, true, false, List, [], ◌∷◌, ◌++◌, length, map, get_or, slice_get, take, sym, ap, ◌∙◌, subst, true≢false, arith, Some}
use Rattle.std.specs.Prelude.{All}
use Rattle.std.proofs.lemmas.List.{length-map, map_push, take_all}
use Rattle.std.proofs.lemmas.List.Elements.{All-contains, All-more, Contains-get_or}
use Rattle.std.proofs.lemmas.Option.{slice_get-get_or}
use Rattle.dcc_ir.specs.declared.syntax.Graph.{Graph as GraphOf}
use Rattle.dcc_ir.specs.declared.syntax.IrProgram.{IrProgram}
use Rattle.dcc_ir.specs.declared.facts.Sum.{Sum}
use Rattle.dcc_ir.specs.Tree.{Graph, Program, Summary}
use Rattle.dcc_ir.specs.Views.{graph_of, program_of, summary_of}
use Rattle.dcc_ir.specs.Run.{no_graph}
use Rattle.dcc_ir.specs.WellFormed.{IsProgram}
use Rattle.dcc_demand.specs.Wanted.{IsResult}
use Rattle.dcc_sums.specs.Instance.{procedures_of}
use Rattle.dcc_sums.specs.Summaries.{AreJust, IsSummary, AreSummaries, GivesOneValue, ReusesNone}
use Rattle.dcc_summaries.specs.declared.ways.Port.{Port}
use Rattle.dcc_summaries.specs.declared.backwards.Found.{Found}
use Rattle.dcc_summaries.specs.Points.{graph_in, site_in}
use Rattle.dcc_summaries.specs.Found.{AreFound}
use Rattle.dcc_summaries.specs.Summaries.{IsSummaryOf, GivesSeveral, sum_of, reuses, is_one_value}
use Rattle.dcc_summaries.proofs.PointLaws.{graph_read}
use Rattle.dcc_summaries.proofs.SumLaws.{sum_is, none_reused, zipped, pushed}
use Rattle.dcc_summaries.proofs.ValueLaws.{one_value, told_one}

-- The summary of a graph.
module _ (p : IrProgram) (good : IsProgram (program_of p)) (found : Found) (are : AreFound (program_of p) found) (place : ℕ) (inside : place < length p.graphs.items)
    (graph : GraphOf) (read : graph ≡ get_or p.graphs.items place graph) (sum : Sum) (made : summary_of sum ≡ sum_of found place (graph_of graph)) where
  there : graph_of graph ≡ graph_in (program_of p) place
  there = graph_read p place graph inside read

  within : place < length (program_of p).graphs
  within = let size = length-map p.graphs.items graph_of in omega (arith, size, inside)

  same : summary_of sum ≡ sum_of found place (graph_in (program_of p) place)
  same = made ∙ ap (sum_of found place) there

  pub good_sum : is_one_value sum.results.items ≡ true → IsSummaryOf (program_of p) place (summary_of sum)
  good_sum e = record {
    just = subst (IsSummary (program_of p) (graph_in (program_of p) place)) (sym same) (sum_is (program_of p) good found are place within);
    one = one_value sum.results.items e;
  }

  pub several : is_one_value sum.results.items ≡ false → GivesSeveral (program_of p) graph.entry
  several e =
      let entry = ap (λ (g : Graph). g.entry) (sym there) in
      record {
        graph = graph_in (program_of p) place;
        there = Contains-get_or (program_of p).graphs place no_graph within;
        entry = entry;
        results = sum.results.items;
        just = subst (λ (x : Summary). AreJust (IsResult (procedures_of (program_of p)) graph.entry) x.results) (sym same)
            (subst (λ n. AreJust (IsResult (procedures_of (program_of p)) n) (sum_of found place (graph_in (program_of p) place)).results) entry (sum_is (program_of p) good found are place within).results);
        several = λ one. true≢false (sym (told_one sum.results.items one) ∙ e);
      }

-- The summaries of the first graphs.

abbrev pub AreFirst : Program → List Sum → Type 0
AreFirst p sums = (k : ℕ) (x : Summary) → slice_get (map summary_of sums) k ≡ Some x → IsSummaryOf p k x

none_there : {A P : Type 0} (k : ℕ) (x : A) → slice_get [] k ≡ Some x → P
none_there zero x e = absurd (cc)
none_there (suc k) x e = absurd (cc)

pub none_first : (p : Program) (sums : List Sum) → sums ≡ [] → AreFirst p sums
none_first p sums e k x at = none_there k x (sym (ap (λ l. slice_get (map summary_of l) k) e) ∙ at)

pub first_more : (p : Program) (sums more : List Sum) (sum : Sum) (place : ℕ) → length sums ≡ place → more ≡ sums ++ sum ∷ [] → AreFirst p sums → IsSummaryOf p place (summary_of sum) → AreFirst p more
first_more p sums more sum place count e first new k x at =
    let size = length-map sums summary_of ∙ count in
    pushed (IsSummaryOf p) (map summary_of sums) (summary_of sum) first (subst (λ n. IsSummaryOf p n (summary_of sum)) (sym size) new) k x
    (sym (ap (λ l. slice_get l k) (ap (map summary_of) e ∙ map_push summary_of sums sum)) ∙ at)

pub all_sums : (p : Program) (sums : List Sum) → length sums ≡ length p.graphs → AreFirst p sums → AreSummaries p (map summary_of sums)
all_sums p sums count first = zipped (IsSummary p) no_graph p.graphs (map summary_of sums) (let size = length-map sums summary_of in omega (arith, size, count)) (λ k y e. (first k y e).just)

pub all_one : (p : Program) (sums : List Sum) → AreFirst p sums → GivesOneValue (map summary_of sums)
all_one p sums first k d inside = (first k (get_or (map summary_of sums) k d) (slice_get-get_or (map summary_of sums) k d inside)).one

-- Calls after which no argument is wanted.

abbrev pub IsNot : Program → Found → Port → Type 0
IsNot p found port = reuses found port.at (site_in p port.at) ≡ false

pub not_more : (p : Program) (found : Found) (calls ports : List Port) (i : ℕ) (d : Port) → ports ≡ calls → i < length ports → All (IsNot p found) (take i calls) → IsNot p found (get_or ports i d) → All (IsNot p found) (take (i + 1) calls)
not_more p found calls ports i d same inside all here =
    All-more (IsNot p found) calls i d (subst (λ l. i < length l) same inside) all (subst (λ l. IsNot p found (get_or l i d)) same here)

pub not_all : (p : Program) (good : IsProgram p) (found : Found) (are : AreFound p found) (i : ℕ) → length found.calls.items ≤ i → All (IsNot p found) (take i found.calls.items) → ReusesNone p
not_all p good found are i past all = none_reused p good found are
    (λ port c. All-contains (IsNot p found) found.calls.items port (subst (All (IsNot p found)) (take_all i found.calls.items past) all) c)
