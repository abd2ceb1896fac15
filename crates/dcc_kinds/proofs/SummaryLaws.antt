-- The summaries of the machine's procedures are those of the lifted program, and both give several values alike.
use Rattle.std.proofs.Common.{◌≡◌, ◌≢◌, ℕ, Bool, true, false, ◌==◌, if◌then◌else◌, ◌⊎◌, inl, inr, List, [], ◌∷◌, ◌++◌, map, Contains, refl, sym, ap, ap₂, ◌∙◌, subst, eqb-true, eq-eqb}
use Rattle.std.specs.Prelude.{zip, ◌↔◌}
use Rattle.std.specs.List.{AllZip}
use Rattle.std.proofs.lemmas.List.Elements.{All-contains, Contains-append_right}
use Rattle.dcc_num.specs.declared.Reg.TheVariants.{Ax, Dx}
use Rattle.dcc_machine.specs.declared.image.Image.{Image}
use Rattle.dcc_prog.specs.Analysed.{AreHeightsOf, IsFrameOf}
use Rattle.dcc_prog.specs.declared.procedure.Layout.{Layout}
use Rattle.dcc_prog.specs.declared.procedure.Proc.{Proc}
use Rattle.dcc_prog.specs.declared.frame.Frame.{Frame}
use Rattle.dcc_prog.specs.declared.frame.Program.{Program as Analysed}
use Rattle.dcc_prog.specs.declared.refusal.ConstructKind.TheVariants.{SeveralResults}
use Rattle.dcc_machine.specs.Wanted.{Location, half_of, flag_of}
use Rattle.dcc_ir.specs.declared.syntax.Loc.{Loc}
use Rattle.dcc_ir.specs.declared.syntax.Loc.TheVariants.{Flag}
use Rattle.dcc_ir.specs.declared.syntax.Param.{Param}
use Rattle.dcc_ir.specs.Tree.{Graph, Program, Summary}
use Rattle.dcc_ir.specs.Passing.{passed, param_of}
use Rattle.dcc_ir.proofs.LocationLaws.{Contains-none, among_contains}
use Rattle.dcc_simulation.specs.Procedures.{procedures_of}
use Rattle.dcc_simulation.specs.Passed.{argument_params, params_of}
use Rattle.dcc_simulation.specs.Nodes.{IsGraphFor}
use Rattle.dcc_lift.specs.Translated.{IsTranslated}
use Rattle.dcc_lift.proofs.Lifting.{lifting}
use Rattle.dcc_demand.specs.Changes.{IsPreserved}
use Rattle.dcc_demand.specs.Wanted.{IsParam, IsResult}
use Rattle.dcc_machine_demand.specs.Bodies.{Body, entry_of, bodies_of}
use Rattle.dcc_machine_demand.specs.Holders as asks
use Rattle.dcc_machine_demand.specs.Holders.{held}
use Rattle.dcc_machine_demand.specs.Asked as asked
use Rattle.dcc_machine_demand.specs.Asked.{IsSummary, AreSummaries, AreSummariesOf, IsOneValue, of_register, of_flag}
use Rattle.dcc_machine_demand.specs.Asked.{of_pair, IsOfSummaries, several_results}
use Rattle.dcc_sums.specs.Instance.{passes}
use Rattle.dcc_sums.specs.Summaries as sums
use Rattle.dcc_sums.specs.Summaries.{IsSummary as IsInnerSummary, AreSummaries as AreInnerSummaries, AreOneValue}
use Rattle.dcc_refinement.proofs.WantedLaws.{changes_pass}
use Rattle.dcc_summaries.specs.Summaries.{GivesSeveral}
use Rattle.dcc_lifted_demand.specs.LiftedRefinement.{inner_of, IsSame}
use Rattle.dcc_lifted_demand.specs.LiftedIsRefined.{machine, inner}
use Rattle.dcc_lifted_demand.proofs.SameLaws.{same_passes, one_location}
use Rattle.dcc_lifted_demand.proofs.RefinedLaws as refined
use Rattle.dcc_lifted_demand.proofs.LinkLaws.{Standing}
use Rattle.dcc_kinds.specs.Laws.{IsLikeMachine, inner_summary}
use Rattle.dcc_kinds.proofs.LocationLaws.{in_map, all_by, zipped_left, zipped_right, outer_of, outer_list, AreAlike, just_up, just_down}

-- Each procedure beside its graph.

-- a procedure and its graph have one entry, and the graph takes halves and flags, if it isn't the first one
pub record IsBeside (start : ℕ) (body : Body) (graph : Graph) : Type 0 where
  pub entry : entry_of body ≡ graph.entry
  pub words : List Param
  pub params : graph.params ≡ (if graph.entry == start then [] else words ++ map param_of passed)

module _ {Heights : Type 0} (entries : Heights → List (ℕ × ℕ)) (layout : Layout) (start : ℕ) where
  beside_each : (R : Proc → Frame → Type 0) (S : Proc → Heights → Type 0) (procs : List Proc) (frames : List Frame) (heights : List Heights) (graphs : List Graph)
      → AllZip R procs frames → AllZip S procs heights → AllZip (IsGraphFor start) (procedures_of layout procs frames) graphs
      → AllZip (IsBeside start) (map (λ found. record { proc = found.0; frame = found.1.0; heights = entries found.1.1 }) (zip procs (zip frames heights))) graphs
  beside_each R S [] [] [] [] framed high are = tt
  beside_each R S [] [] [] (graph ∷ graphs) framed high are = absurd are
  beside_each R S [] [] (h ∷ heights) graphs framed high are = absurd high
  beside_each R S [] (frame ∷ frames) heights graphs framed high are = absurd framed
  beside_each R S (proc ∷ procs) [] heights graphs framed high are = absurd framed
  beside_each R S (proc ∷ procs) (frame ∷ frames) [] graphs framed high are = absurd high
  beside_each R S (proc ∷ procs) (frame ∷ frames) (h ∷ heights) [] framed high are = absurd are
  beside_each R S (proc ∷ procs) (frame ∷ frames) (h ∷ heights) (graph ∷ graphs) framed high are = (
    record {
      entry = sym are.0.entry;
      words = argument_params (record { proc = proc; frame = frame; delta = layout.delta });
      params = are.0.params ∙ ap (λ n. if n == start then [] else params_of (record { proc = proc; frame = frame; delta = layout.delta })) (sym are.0.entry);
    },
    beside_each R S procs frames heights graphs framed.1 high.1 are.1,
  )

module _ (image : Image) (program : Analysed) (p : Program) (like : IsLikeMachine image program p) where
  abbrev is : IsTranslated image program p
  is = like.translated

  abbrev start : ℕ
  start = program.layout.start_ip

  pub beside : AllZip (IsBeside start) (bodies_of program) p.graphs
  beside =
      beside_each (λ found. found.entries) program.layout start (IsFrameOf image program.layout) (λ proc found. AreHeightsOf image program.layout proc found.entries) program.procs.items program.cells.frames.items program.heights.at.items p.graphs
      is.of_file.is_program.cells.frames is.of_file.is_program.heights.at (lifting image program p is.of_file is.translation).graphs

  -- Kinds.

  passing : (a : Location) → passes (inner_of a) ≡ true → asks.passes (held a) ≡ true
  passing a e = same_passes a ∙ e

  -- what passes as both are
  pub results_alike : (n : ℕ) → AreAlike (λ a. IsResult (machine image program p) n (held a)) (IsResult (inner image program p) n)
  results_alike n = record {
    up = λ a result. (like.relations.results n (held a) (inner_of a) (IsSame.is_held (changes_pass (machine image program p) result.changes))).0 result;
    down = λ l result.
        let passes_too = changes_pass (inner image program p) result.changes in
        let a = outer_of l passes_too in
        let passes_here = passing a.0 (ap passes a.1 ∙ passes_too) in
        (a.0, a.1, (like.relations.results n (held a.0) (inner_of a.0) (IsSame.is_held passes_here)).1 (subst (IsResult (inner image program p) n) (sym a.1) result));
  }

  preserved_alike : (n : ℕ) → AreAlike (λ a. IsPreserved (machine image program p) n (held a)) (IsPreserved (inner image program p) n)
  preserved_alike n = record {
    up = λ a preserved. (like.relations.preserved n (held a) (inner_of a) (IsSame.is_held preserved.0)).0 preserved;
    down = λ l preserved.
        let a = outer_of l preserved.0 in
        let passes_here = passing a.0 (ap passes a.1 ∙ preserved.0) in
        (a.0, a.1, (like.relations.preserved n (held a.0) (inner_of a.0) (IsSame.is_held passes_here)).1 (subst (IsPreserved (inner image program p) n) (sym a.1) preserved));
  }

  -- the first point of a procedure but the first one is where its instructions begin
  begins_there : (n : ℕ) → n ≢ start
      → (refined.r image program p is).begin n ((machine image program p).procedure n).entry ≡ ((inner image program p).procedure n).entry
  begins_there n other = elim (refined.stands image program p is n) [
    | Standing.linked x ↦ elim x.starts [
      | inl none ↦ refined.begins_linked image program p is n x none
      | inr first ↦ absurd (other first)
    ]
    | Standing.missing x ↦ refined.begin_none image program p is n x ((machine image program p).procedure n).entry
        ∙ sym (ap (λ g. g.entry) (refined.fine_none image program p is n x))
  ]

  module _ (body : Body) (graph : Graph) (at : IsBeside start body graph) where
    abbrev n : ℕ
    n = entry_of body

    taken : n ≢ start → graph.params ≡ at.words ++ map param_of passed
    taken other = by (graph.entry == start) refl
      where
        by : (b : Bool) → (graph.entry == start) ≡ b → graph.params ≡ at.words ++ map param_of passed
        by true t = absurd (other (at.entry ∙ eqb-true graph.entry start t))
        by false t = at.params ∙ ap (λ b. if b then [] else at.words ++ map param_of passed) t

    none_taken : n ≡ start → graph.params ≡ []
    none_taken first = at.params ∙ ap (λ b. if b then [] else at.words ++ map param_of passed) (eq-eqb graph.entry start (sym at.entry ∙ first))

    params_alike : AreAlike (λ a. (n ≢ start) × IsParam (machine image program p) n (held a)) (λ l. Contains graph.params (param_of l) × IsParam (inner image program p) graph.entry l)
    params_alike = record {
      up = λ a param.
          let is_passed = sym (same_passes a) ∙ param.1.passes in
          let among = Contains-append_right at.words (map param_of passed) (param_of (inner_of a)) (in_map param_of passed (inner_of a) (among_contains passed (inner_of a) is_passed)) in (
            subst (λ qs. Contains qs (param_of (inner_of a))) (sym (taken param.0)) among,
            subst (λ m. IsParam (inner image program p) m (inner_of a)) at.entry
                ((like.relations.params n (held a) (inner_of a) (IsSame.is_held param.1.passes) (begins_there n param.0)).0 param.1),
          );
      down = λ l param.
          let other : n ≢ start = λ first. Contains-none (param_of l) (subst (λ qs. Contains qs (param_of l)) (none_taken first) param.0) in
          let a = outer_of l param.1.passes in
          let passes_here = passing a.0 (ap passes a.1 ∙ param.1.passes) in
          let inner_param = subst (λ m. IsParam (inner image program p) m (inner_of a.0)) (sym at.entry) (subst (IsParam (inner image program p) graph.entry) (sym a.1) param.1) in
          (a.0, a.1, (other, (like.relations.params n (held a.0) (inner_of a.0) (IsSame.is_held passes_here) (begins_there n other)).1 inner_param));
    }

    sum_up : (summary : asked.Summary) → IsSummary start (bodies_of program) body summary → IsInnerSummary p graph (inner_summary summary)
    sum_up summary sum = record {
      params = just_up params_alike summary.params sum.params;
      results = subst (λ m. sums.AreJust (IsResult (inner image program p) m) (map inner_of summary.results)) at.entry (just_up (results_alike n) summary.results sum.results);
      preserved = subst (λ m. sums.AreJust (IsPreserved (inner image program p) m) (map inner_of summary.preserved)) at.entry (just_up (preserved_alike n) summary.preserved sum.preserved);
    }

    sum_down : (summary : asked.Summary) → IsInnerSummary p graph (inner_summary summary) → IsSummary start (bodies_of program) body summary
    sum_down summary sum = record {
      params = just_down params_alike summary.params sum.params;
      results = just_down (results_alike n) summary.results
          (subst (λ m. sums.AreJust (IsResult (inner image program p) m) (map inner_of summary.results)) (sym at.entry) sum.results);
      preserved = just_down (preserved_alike n) summary.preserved
          (subst (λ m. sums.AreJust (IsPreserved (inner image program p) m) (map inner_of summary.preserved)) (sym at.entry) sum.preserved);
    }

  all_up : (bodies : List Body) (graphs : List Graph) (summaries : List asked.Summary) → AllZip (IsBeside start) bodies graphs
      → AllZip (IsSummary start (bodies_of program)) bodies summaries → AllZip (IsInnerSummary p) graphs (map inner_summary summaries)
  all_up [] [] [] besides are = tt
  all_up [] [] (s ∷ summaries) besides are = absurd are
  all_up [] (graph ∷ graphs) summaries besides are = absurd besides
  all_up (body ∷ bodies) [] summaries besides are = absurd besides
  all_up (body ∷ bodies) (graph ∷ graphs) [] besides are = absurd are
  all_up (body ∷ bodies) (graph ∷ graphs) (s ∷ summaries) besides are = (sum_up body graph besides.0 s are.0, all_up bodies graphs summaries besides.1 are.1)

  all_down : (bodies : List Body) (graphs : List Graph) (summaries : List asked.Summary) → AllZip (IsBeside start) bodies graphs
      → AllZip (IsInnerSummary p) graphs (map inner_summary summaries) → AllZip (IsSummary start (bodies_of program)) bodies summaries
  all_down [] [] [] besides are = tt
  all_down [] [] (s ∷ summaries) besides are = absurd are
  all_down [] (graph ∷ graphs) summaries besides are = absurd besides
  all_down (body ∷ bodies) [] summaries besides are = absurd besides
  all_down (body ∷ bodies) (graph ∷ graphs) [] besides are = absurd are
  all_down (body ∷ bodies) (graph ∷ graphs) (s ∷ summaries) besides are = (sum_down body graph besides.0 s are.0, all_down bodies graphs summaries besides.1 are.1)

  pub summaries_are : (summaries : List asked.Summary) → AreSummariesOf program summaries ↔ AreInnerSummaries p (map inner_summary summaries)
  summaries_are summaries = (all_up (bodies_of program) p.graphs summaries beside, all_down (bodies_of program) p.graphs summaries beside)

  known_each : (graphs : List Graph) (list : List Summary) → AllZip (IsInnerSummary p) graphs list → (summaries : List asked.Summary) × (list ≡ map inner_summary summaries)
  known_each [] [] are = ([], refl)
  known_each [] (s ∷ list) are = absurd are
  known_each (graph ∷ graphs) [] are = absurd are
  known_each (graph ∷ graphs) (s ∷ list) are =
      let params = outer_list s.params are.0.params.order in
      let results = outer_list s.results are.0.results.order in
      let preserved = outer_list s.preserved are.0.preserved.order in
      let rest = known_each graphs list are.1 in
      let one : s ≡ inner_summary (record { params = params.0; results = results.0; preserved = preserved.0 }) =
      ap (λ x. record { params = x; results = s.results; preserved = s.preserved }) params.1
      ∙ ap (λ x. record { params = map inner_of params.0; results = x; preserved = s.preserved }) results.1
      ∙ ap (λ x. record { params = map inner_of params.0; results = map inner_of results.0; preserved = x }) preserved.1 in
      (record { params = params.0; results = results.0; preserved = preserved.0 } ∷ rest.0, ap₂ (λ x xs. x ∷ xs) one rest.1)

  pub summaries_known : (list : List Summary) → AreInnerSummaries p list → (summaries : List asked.Summary) × (list ≡ map inner_summary summaries)
  summaries_known list are = known_each p.graphs list are

  -- Several values.

  half_up : {r : _} {a : Location} {l : Loc} → inner_of a ≡ l → asked.IsHalfOf r a → sums.IsHalfOf r l
  half_up e half = (half.0, sym e ∙ ap inner_of half.1)

  half_down : {r : _} {a : Location} → sums.IsHalfOf r (inner_of a) → asked.IsHalfOf r a
  half_down {r} {a} half = (half.0, one_location a (half_of r half.0) half.1)

  module _ (n : ℕ) (results : List Loc) (just : sums.AreJust (IsResult (inner image program p) n) results) where
    there : (l : Loc) → Contains results l → (a : Location) × (inner_of a ≡ l) × IsResult (machine image program p) n (held a)
    there l c = (results_alike n).down l ((just.exact l).0 c)

    listed : (a : Location) → IsResult (machine image program p) n (held a) → Contains results (inner_of a)
    listed a result = (just.exact (inner_of a)).1 ((results_alike n).up a result)

    one_up : IsOneValue (λ a. IsResult (machine image program p) n (held a)) → AreOneValue results
    one_up (of_register r all) =
        inl (r, all_by (sums.IsHalfOf r) results (λ l c. let a = there l c in half_up a.1 (all a.0 a.2)))
    one_up (of_flag flag all) =
        inr (inl (flag, all_by (λ l. l ≡ Flag flag) results (λ l c. let a = there l c in sym a.1 ∙ ap inner_of (all a.0 a.2))))
    one_up (of_pair all) =
        inr (inr (all_by (λ l. sums.IsHalfOf Ax l ⊎ sums.IsHalfOf Dx l) results (λ l c.
        let a = there l c in elim (all a.0 a.2) [
          | inl half ↦ inl (half_up a.1 half)
          | inr half ↦ inr (half_up a.1 half)
        ])))

    one_down : AreOneValue results → IsOneValue (λ a. IsResult (machine image program p) n (held a))
    one_down (inl (r, all)) = of_register r (λ a result. half_down (All-contains (sums.IsHalfOf r) results (inner_of a) all (listed a result)))
    one_down (inr (inl (flag, all))) = of_flag flag (λ a result. one_location a (flag_of flag) (All-contains (λ l. l ≡ Flag flag) results (inner_of a) all (listed a result)))
    one_down (inr (inr all)) = of_pair (λ a result.
        elim (All-contains (λ l. sums.IsHalfOf Ax l ⊎ sums.IsHalfOf Dx l) results (inner_of a) all (listed a result)) [
          | inl half ↦ inl (half_down half)
          | inr half ↦ inr (half_down half)
        ])

  pub several_up : (at : ℕ) → GivesSeveral p at → IsOfSummaries (bodies_of program) SeveralResults at
  several_up at several =
      let x = zipped_right (IsBeside start) (bodies_of program) p.graphs several.graph beside several.there in
      let entry : entry_of x.0 ≡ at = x.2.entry ∙ several.entry in
      subst (IsOfSummaries (bodies_of program) SeveralResults) entry
      (several_results x.1 (λ one. several.several (one_up at several.results several.just
      (subst (λ m. IsOneValue (λ a. IsResult (machine image program p) m (held a))) entry one))))

  -- the summary of a procedure
  sum_of : (body : Body) (list : List Summary) → AreInnerSummaries p list → Contains (bodies_of program) body
      → (graph : Graph) × Contains p.graphs graph × (entry_of body ≡ graph.entry) × (s : Summary) × Contains list s × IsInnerSummary p graph s
  sum_of body list are c =
      let x = zipped_left (IsBeside start) (bodies_of program) p.graphs body beside c in
      let s = zipped_left (IsInnerSummary p) p.graphs list x.0 are x.1 in
      (x.0, x.1, x.2.entry, s.0, s.1, s.2)

  pub several_down : (body : Body) (list : List Summary) → AreInnerSummaries p list → Contains (bodies_of program) body → asked.GivesSeveral (bodies_of program) (entry_of body)
      → GivesSeveral p (entry_of body)
  several_down body list are c several =
      let x = sum_of body list are c in
      let just = subst (λ m. sums.AreJust (IsResult (inner image program p) m) x.3.results) (sym x.2) x.5.results in
      record {
        graph = x.0;
        there = x.1;
        entry = sym x.2;
        results = x.3.results;
        just = just;
        several = λ one. several (one_down (entry_of body) x.3.results just one);
      }

  -- a procedure whose summary has one value doesn't give several
  pub several_none : (body : Body) (list : List Summary) → AreInnerSummaries p list → sums.GivesOneValue list → Contains (bodies_of program) body
      → ¬ asked.GivesSeveral (bodies_of program) (entry_of body)
  several_none body list are one c several =
      let x = sum_of body list are c in
      let just = subst (λ m. sums.AreJust (IsResult (inner image program p) m) x.3.results) (sym x.2) x.5.results in
      several (one_down (entry_of body) x.3.results just (All-contains (λ (s : Summary). AreOneValue s.results) list x.3 one x.4))
