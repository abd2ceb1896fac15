-- A program without what isn't wanted keeps the runs: the pass meets what it owes.
use Rattle.std.proofs.Common.{◌≡◌, ℕ, suc, Bool, true, false, not, ◌⊎◌, inl, inr, List, [], ◌∷◌, ◌++◌, length, Option, Some, None, refl, sym, ap, ◌∙◌, subst, true≢false, map, take, drop, slice_get}
use Rattle.std.specs.Prelude.{if◌then◌else◌, ◌==◌, All, Contains, filter}
use Rattle.std.specs.List.{list_all}
use Rattle.std.proofs.lemmas.List.{length-map}
use Rattle.std.proofs.lemmas.List.Elements.{All-head, All-contains}
use Rattle.dcc_run.specs.End.{is_over}
use Rattle.dcc_ir.specs.declared.syntax.Loc.{Loc}
use Rattle.dcc_ir.specs.declared.syntax.Loc.TheVariants.{Temp}
use Rattle.dcc_ir.specs.declared.syntax.Param.{Param}
use Rattle.dcc_ir.specs.Tree.{Expr, Get, Stmt, Call, Exit, Goto, If, Switch, Ret, Stop, Block, Graph, Program, Summary}
use Rattle.dcc_ir.specs.Location.{location_width, Values}
use Rattle.dcc_ir.specs.Value.{width_of}
use Rattle.dcc_ir.specs.Use.{reads_of}
use Rattle.dcc_ir.specs.Live.{is_among, block_in}
use Rattle.dcc_ir.specs.WellFormed.{is_stmt, is_exit, is_block, put_width, ret_widths, all_ret_widths, IsGraph, IsCall, IsCalling, IsProgram}
use Rattle.dcc_ir.specs.Flow.{targets, graph_or_none}
use Rattle.dcc_ir.specs.Run.{State, value_in, stmt_step, graph_at}
use Rattle.dcc_ir.specs.Local.{Point, next_of as next_point, after_call, after_calls, Halt, Over, Jumps, switch_halt, exit_halt, local_run}
use Rattle.dcc_ir.specs.Passes.{Pass, with_values, EndAlike, Meet}
use Rattle.dcc_ir.specs.Passing.{passed, param_of, bytes_of, RetPasses, GraphPasses, CallPasses, StmtPasses, PassesAll}
use Rattle.dcc_ir.specs.Trimmed.{Trim, kept, trim_stmt, trim_exit}
use Rattle.dcc_ir.proofs.FitLaws.{both}
use Rattle.dcc_ir.proofs.GraphLaws.{found_entry}
use Rattle.dcc_ir.proofs.LocationLaws.{Contains-here, Contains-later, among_contains, contains_among}
use Rattle.dcc_ir.proofs.ListLaws.{all_had, all_parts}
use Rattle.dcc_ir.proofs.ReachedLaws.{contained, found_contained, all_at, named_again}
use Rattle.dcc_ir.proofs.passes.LocalLaws.{some_same, Frame, stmt-frame}
use Rattle.dcc_ir.proofs.passes.AgreeLaws.{AgreeOn, StillOn, value-on, stuck-on, weaker-on, stmt-on}
use Rattle.dcc_demand.specs.Trail.{IsTrail}
use Rattle.dcc_demand.specs.Changes.{Changes}
use Rattle.dcc_demand.specs.Wanted.{Wanted, IsWantedBy, IsParam, IsResult}
use Rattle.dcc_demand.proofs.SaveLaws.{preserved-is_held}
use Rattle.dcc_demand.proofs.WantedLaws.{results-wanted}
use Rattle.dcc_sums.specs.Points.{Position, Executes, Ends, site_of, is_return}
use Rattle.dcc_sums.specs.Instance.{passes, is_passing, used_by, written_by, action_at}
use Rattle.dcc_sums.specs.Summaries.{IsSummary, AreSummaries, ReusesNone}
use Rattle.dcc_sums.specs.Localised.{is_taken, is_given, summary_at, trim_by}
use Rattle.dcc_sums.proofs.GivenLaws.{fit_length, given-kept, given-dropped, given-alike, given-none, given-first, given-read}
use Rattle.dcc_sums.proofs.TraceLaws.{Does, Traced, traced_next, stmt_does, end_does, call_does, temps_stay}
use Rattle.dcc_sums.proofs.BeginLaws.{nothing}
use Rattle.dcc_sums.proofs.SiteLaws.{IsAfter, none, after_next, after_there, site_is, sum_there, first_or_rest, P, graph_of, changes_pass, goes_next, goes_there, wanted_still, wanted_there, wanted_used, before}
use Rattle.dcc_sums.proofs.ArgumentLaws.{words_as_many, decided_locations, kept_values, first_there, at_first, contains_left, contains_right, contains_either, contains_filter, contains_flat, no_elements, drop_words, temps_apart, arguments_stay, words_wide, wide_is_word}

-- the positions of a block
abbrev at : ℕ → ℕ → Position
at block done = record { block = block; done = done }

-- What halves and flags hold first is what a graph has taken.
abbrev pub Began : Graph → List ℕ → Values → Type 0
Began g a first = (words : List Param) → g.params ≡ words ++ map param_of passed → (l : Loc) → Contains passed l
    → first l ≡ with_values nothing passed (drop (length words) a) l

module _ (p : Program) (sums : List Summary) where
  abbrev pub trim : Trim
  trim = trim_by p.graphs sums

  -- What a procedure doesn't change is given back as it was taken.
  abbrev pub GivesBack : ℕ → List ℕ → List ℕ → Type 0
  GivesBack entry a r = (words : List Param) → (graph_of p entry).params ≡ words ++ map param_of passed → (l : Loc) → Contains passed l → ¬ Changes (P p) entry l
      → with_values nothing passed r l ≡ with_values nothing passed (drop (length words) a) l

  -- What is wanted at a point is the same, and what holds the values of the begin is known along a trail.
  pub record Meets (a : List ℕ) (point : Point) (v v' : Values) : Type 0 where
    pub done : ℕ
    pub after : IsAfter done (block_in (graph_of p point.entry) point.place).stmts (after_calls point.calls (block_in (graph_of p point.entry) point.place).stmts)
    pub wanted : (l : Loc) → Wanted (P p) point.entry (at point.place done) l → v' l ≡ v l
    pub first : Values
    pub began : Began (graph_of p point.entry) a first
    pub positions : List Position
    pub trail : IsTrail ((P p).procedure point.entry) positions (at point.place done)
    pub traced : Traced (Changes (P p)) ((P p).procedure point.entry) (graph_of p point.entry).pushed first v positions

  -- Blocks stay in their places, and what stays of arguments and values given back is the same.
  abbrev pub pass : Pass
  pass = record {
    place = λ entry n. n;
    Enter = λ entry a a'. a' ≡ kept (trim.takes entry) a;
    Leave = λ entry a r r'. (r' ≡ kept (trim.gives entry) r) × GivesBack entry a r;
    Inv = Meets;
  }

module _ (back : ℕ → List ℕ) (p : Program) (sums : List Summary) (formed : IsProgram p) (passes_all : PassesAll back p) (are : AreSummaries p sums) (unused : ReusesNone p) where
  known : (entry : ℕ) (g : Graph) → graph_at p.graphs entry ≡ Some g → Contains p.graphs g
  known entry g found = found_contained (λ x. x.entry == entry) p.graphs g found

  -- the first graph takes nothing and gives nothing back, and all others pass all
  pub kind : (entry : ℕ) (g : Graph) → graph_at p.graphs entry ≡ Some g → ((g.params ≡ []) × All (λ widths. widths ≡ []) (all_ret_widths g)) ⊎ GraphPasses (back g.entry) g
  kind entry g found = elim (first_or_rest p.graphs g (known entry g found)) [
    | inl c ↦ inl (All-contains (λ (x : Graph). x.params ≡ []) (take 1 p.graphs) g formed.start c, All-contains (λ (x : Graph). All (λ widths. widths ≡ []) (all_ret_widths x)) (take 1 p.graphs) g formed.start_rets c)
    | inr c ↦ inr (All-contains (λ (x : Graph). GraphPasses (back x.entry) x) (drop 1 p.graphs) g passes_all.graphs c)
  ]

  pub sum_is : (entry : ℕ) (g : Graph) → graph_at p.graphs entry ≡ Some g
      → IsSummary p g (summary_at p.graphs sums entry)
  sum_is entry g found = sum_there (IsSummary p) p.graphs sums entry g are found

  -- From a point of a block.
  module _ (a : List ℕ) (point : Point) (found : graph_at p.graphs point.entry ≡ Some (graph_of p point.entry)) (first : Values) (began : Began (graph_of p point.entry) a first)
      (placed : Contains (graph_of p point.entry).blocks (block_in (graph_of p point.entry) point.place)) where
    abbrev g : Graph
    g = graph_of p point.entry

    abbrev block : Block
    block = block_in g point.place

    abbrev W : ℕ → Loc → Type 0
    W n l = Wanted (P p) point.entry (at point.place n) l

    abbrev Trace : Values → List Position → Type 0
    Trace v positions = Traced (Changes (P p)) ((P p).procedure point.entry) g.pushed first v positions

    -- where the runs stand in the block, after so many statements
    pub record Stand (n : ℕ) (stmts : List Stmt) (positions : List Position) (s t : State) : Type 0 where
      pub graph : s.running.graph ≡ g
      pub here : s.running.block ≡ block
      pub there : t.running.block.exit ≡ trim_exit (trim p sums) point.entry block.exit
      pub after : IsAfter n block.stmts stmts
      pub follows : after_call stmts ≡ after_calls (suc point.calls) block.stmts
      pub trail : IsTrail ((P p).procedure point.entry) positions (at point.place n)
      pub traced : Trace s.running.values positions

    is_graph : IsGraph g
    is_graph = All-contains IsGraph p.graphs g formed.graphs (known point.entry g found)

    fine : (list_all (is_stmt g.bits) block.stmts ≡ true) × (is_exit g.bits (length g.blocks) block.exit ≡ true)
    fine = both (list_all (is_stmt g.bits) block.stmts) (is_exit g.bits (length g.blocks) block.exit) (all_at (is_block g.bits (length g.blocks)) g.blocks block is_graph.blocks placed)

    -- what comes next
    site : (n : ℕ) (stmt : Stmt) (rest : List Stmt) → IsAfter n block.stmts (stmt ∷ rest) → site_of g (at point.place n) ≡ Executes stmt
    site n stmt rest after = site_is block.exit after

    site_end : (n : ℕ) → IsAfter n block.stmts [] → site_of g (at point.place n) ≡ Ends block.exit
    site_end n after = site_is block.exit after

    -- the values change as the action at a point says
    trace_next : (n : ℕ) (positions : List Position) (v v' : Values) → Does (Changes (P p)) g.pushed (((P p).procedure point.entry).action (at point.place n)) v v' → Trace v positions →
        Trace v' (at point.place n ∷ positions)
    trace_next n positions v v' does traced = traced_next (Changes (P p)) ((P p).procedure point.entry) g.pushed (λ w. refl) first v v' positions (at point.place n) does traced

    -- The end of the block.
    module _ (n : ℕ) (positions : List Position) (s t : State) (stand : Stand n [] positions s t) (h : AgreeOn (W n) s t) where
      ends : site_of g (at point.place n) ≡ Ends block.exit
      ends = site_end n stand.after

      jump-meets : (place place' : ℕ) → place' ≡ place → Contains (targets block.exit) place → Meet (pass p sums) a point 0 (Jumps place s) (Jumps place' t)
      jump-meets place place' same to = record {
        stands = sym same;
        outside = h.outside;
        holds = subst (λ m. Meets p sums a (record { entry = point.entry; place = m; calls = 0 }) s.running.values t.running.values) (sym same) (record {
          done = 0;
          after = none;
          wanted = λ l w. h.values l (wanted_there p point.entry (at point.place n) block.exit place ends to l w);
          first = first;
          began = began;
          positions = at point.place n ∷ positions;
          trail = IsTrail.goes_on stand.trail (goes_there p point.entry (at point.place n) block.exit place ends to);
          traced = trace_next n positions s.running.values s.running.values
              (subst (λ s'. Does (Changes (P p)) g.pushed (action_at g.pushed s') s.running.values s.running.values) (sym ends) (end_does g.pushed (Changes (P p)) _ s.running.values)) stand.traced;
        });
      }

      one_of : (b : Bool) (one other : ℕ) → Contains (one ∷ other ∷ []) (if b then one else other)
      one_of true one other = Contains-here one (other ∷ [])
      one_of false one other = Contains-later one (other ∷ []) other (Contains-here other [])

      -- a test reads what is wanted
      tested : (e : Expr) (exit : Exit) → block.exit ≡ exit → ((l : Loc) → Contains (reads_of e) l → (action_at g.pushed (Ends exit)).uses l ≡ true) → value_in t e ≡ value_in s e
      tested e exit is uses = value-on (W n) s t h e (all_had (W n) (reads_of e) (λ l c. wanted_used p point.entry (at point.place n) (Ends exit) (ends ∙ ap Ends is) l (uses l c)))

      to_there : (exit : Exit) (place : ℕ) → block.exit ≡ exit → Contains (targets exit) place → Contains (targets block.exit) place
      to_there exit place is c = subst (λ x. Contains (targets x) place) (sym is) c

      -- what is given back
      gives_back : (values : List Expr) → block.exit ≡ Ret values → (map (value_in t) (kept ((trim p sums).gives point.entry) values) ≡ kept ((trim p sums).gives point.entry) (map (value_in s) values))
          × GivesBack p sums point.entry a (map (value_in s) values)
      gives_back values is = elim (kind point.entry g found) [
        | inl bare ↦
            let nothing_given = no_elements (width_of g.bits) values (only_widths bare.1) in (
              subst (λ vs. map (value_in t) (kept ((trim p sums).gives point.entry) vs) ≡ kept ((trim p sums).gives point.entry) (map (value_in s) vs)) (sym nothing_given) refl,
              λ words e. absurd (no_params words (sym bare.0 ∙ e)),
            )
        | inr all ↦ (
          let e = gives all in subst (λ vs. map (value_in t) (kept ((trim p sums).gives point.entry) vs) ≡ kept ((trim p sums).gives point.entry) (map (value_in s) vs)) (sym e)
              (kept_values (value_in s) (value_in t) ((trim p sums).gives point.entry) (map Get passed ++ bytes_of all.words (back g.entry)) (λ k x there stays. result_same all k x there (slice_get passed k) refl stays)),
          λ words e l c unchanged. subst (λ vs. with_values nothing passed (map (value_in s) vs) l ≡ with_values nothing passed (drop (length words) a) l) (sym (gives all))
              (given-read l s.running.values passed (map (value_in s) (bytes_of all.words (back g.entry))) nothing c
              ∙ stand.traced.held l l ((preserved-is_held (P p)).held decided_locations point.entry l positions (at point.place n) stand.trail returns (contains_among passed l c, unchanged))
              ∙ began words e l c),
        )
      ]
        where
          returns : ((P p).procedure point.entry).returns (at point.place n) ≡ true
          returns = subst (λ s'. is_return s' ≡ true) (sym (ends ∙ ap Ends is)) refl

          only_widths : All (λ widths. widths ≡ []) (all_ret_widths g) → map (width_of g.bits) values ≡ []
          only_widths all =
              let here = All-contains (λ (b : Block). All (λ widths. widths ≡ []) (ret_widths g.bits b.exit)) g.blocks block (all_parts (λ widths. widths ≡ []) (λ (b : Block). ret_widths g.bits b.exit) g.blocks all) placed in
              All-head (λ widths. widths ≡ []) (map (width_of g.bits) values) [] (subst (λ exit. All (λ widths. widths ≡ []) (ret_widths g.bits exit)) is here)

          no_params : (words : List Param) → [] ≡ words ++ map param_of passed → ⊥
          no_params [] e = absurd (cc)
          no_params (w ∷ words) e = absurd (cc)

          gives : (all : GraphPasses (back g.entry) g) → values ≡ map Get passed ++ bytes_of all.words (back g.entry)
          gives all = subst (RetPasses all.words (back g.entry)) is (All-contains (λ (b : Block). RetPasses all.words (back g.entry) b.exit) g.blocks block all.rets placed)

          result_same : (all : GraphPasses (back g.entry) g) (k : ℕ) (x : Expr) → slice_get (map Get passed ++ bytes_of all.words (back g.entry)) k ≡ Some x → (o : Option Loc) → slice_get passed k ≡ o →
              is_given (summary_at p.graphs sums point.entry).results o ≡ true → value_in t x ≡ value_in s x
          result_same all k x there None e stays = absurd (true≢false (sym stays))
          result_same all k x there (Some l) e stays =
              let same = some_same (Get l) x (sym (first_there Get passed (bytes_of all.words (back g.entry)) k l e) ∙ there) in
              let sum = sum_is point.entry g found in
              let result = (sum.results.exact l).0 (among_contains (summary_at p.graphs sums point.entry).results l stays) in
              subst (λ y. value_in t y ≡ value_in s y) same
              (h.values l (results-wanted (P p) point.entry (at point.place n) l returns (subst (λ i. IsResult (P p) i l) (found_entry p.graphs point.entry g found) result)))

      exit-meets : Meet (pass p sums) a point 0 (exit_halt block.exit s) (exit_halt (trim_exit (trim p sums) point.entry block.exit) t)
      exit-meets = go block.exit refl
        where
          switched : (e : Expr) (places : List ℕ) → block.exit ≡ Switch e places → (i : ℕ) (place : Option ℕ) → slice_get places i ≡ place → Meet (pass p sums) a point 0 (switch_halt place s) (switch_halt place t)
          switched e places is i (Some place) there = jump-meets place place refl (to_there (Switch e places) place is (contained places i place there))
          switched e places is i None there = let o = stuck-on (W n) s t h in record { end = o.end; events = o.outside.events }

          go : (exit : Exit) → block.exit ≡ exit → Meet (pass p sums) a point 0 (exit_halt exit s) (exit_halt (trim_exit (trim p sums) point.entry exit) t)
          go (Goto place) is = jump-meets place place refl (to_there (Goto place) place is (Contains-here place []))
          go (If test one other) is =
              jump-meets _ _ (ap (λ m. if m == 1 then one else other) (tested test (If test one other) is (λ l c. contains_among (reads_of test) l c)))
              (to_there (If test one other) _ is (one_of (value_in s test == 1) one other))
          go (Switch e places) is =
              subst (λ m. Meet (pass p sums) a point 0 (switch_halt (slice_get places (value_in s e)) s) (switch_halt (slice_get places m) t))
              (sym (tested e (Switch e places) is (λ l c. contains_among (reads_of e) l c))) (switched e places is (value_in s e) (slice_get places (value_in s e)) refl)
          go (Ret values) is = record { outside = h.outside; leaves = gives_back values is }
          go Stop is = let o = stuck-on (W n) s t h in record { end = o.end; events = o.outside.events }

    -- A call.
    module _ (n : ℕ) (entry : ℕ) (arguments : List Expr) (depth : ℕ) (rest : List Stmt) (positions : List Position) (s t : State) (ts : List ℕ)
        (stand : Stand n (Call (passed ++ map Temp ts) entry arguments depth ∷ rest) positions s t) (h : AgreeOn (W n) s t)
        (call : IsCall p g (passed ++ map Temp ts) entry arguments) (words : List Expr) (taken : arguments ≡ words ++ map Get passed) where
      abbrev results : List Loc
      results = passed ++ map Temp ts

      abbrev stmt : Stmt
      stmt = Call results entry arguments depth

      comes : site_of g (at point.place n) ≡ Executes stmt
      comes = site n stmt rest stand.after

      calls : (((P p).procedure point.entry).action (at point.place n)).callee ≡ Some entry
      calls = subst (λ s'. (action_at g.pushed s').callee ≡ Some entry) (sym comes) refl

      callee_found : graph_at p.graphs entry ≡ Some call.callee
      callee_found = named_again p.graphs entry call.callee formed.entries call.named

      callee_is : graph_of p entry ≡ call.callee
      callee_is = ap graph_or_none callee_found

      callee_passes : GraphPasses (back call.callee.entry) call.callee
      callee_passes = All-contains (λ (x : Graph). GraphPasses (back x.entry) x) (drop 1 p.graphs) call.callee passes_all.graphs (found_contained (λ x. x.entry == entry) (drop 1 p.graphs) call.callee call.named)

      callee_sum : IsSummary p call.callee (summary_at p.graphs sums entry)
      callee_sum = sum_is entry call.callee callee_found

      same_entry : call.callee.entry ≡ entry
      same_entry = found_entry p.graphs entry call.callee callee_found

      params_are : (graph_of p entry).params ≡ callee_passes.words ++ map param_of passed
      params_are = ap (λ (x : Graph). x.params) callee_is ∙ callee_passes.params.params

      widths_are : map (width_of g.bits) (words ++ map Get passed) ≡ map (λ (q : Param). put_width call.callee.bits q.put) (callee_passes.words ++ map param_of passed)
      widths_are = ap (map (width_of g.bits)) (sym taken) ∙ call.taken ∙ ap (map (λ (q : Param). put_width call.callee.bits q.put)) callee_passes.params.params

      as_many : length words ≡ length callee_passes.words
      as_many = words_as_many (width_of g.bits) (λ (q : Param). put_width call.callee.bits q.put) words callee_passes.words passed widths_are

      -- the arguments that stay are the same
      enters : map (value_in t) (kept ((trim p sums).takes entry) arguments) ≡ kept ((trim p sums).takes entry) (map (value_in s) arguments)
      enters =
          subst (λ es. map (value_in t) (kept ((trim p sums).takes entry) es) ≡ kept ((trim p sums).takes entry) (map (value_in s) es)) (sym taken)
          (kept_values (value_in s) (value_in t) ((trim p sums).takes entry) (words ++ map Get passed) (λ k e there stays.
          arguments_stay (λ e. value_in t e ≡ value_in s e) (summary_at p.graphs sums entry).params callee_passes.words words passed as_many word_same half_same k e there
          (subst (λ params. is_taken (summary_at p.graphs sums entry).params (slice_get params k) ≡ true) params_are stays)))
        where
          word_same : (e : Expr) → Contains words e → value_in t e ≡ value_in s e
          word_same e c =
              let plain = wide_is_word g.bits e (words_wide g.bits call.callee.bits callee_passes.words (map param_of passed) words (map Get passed) as_many widths_are callee_passes.params.stack e c) in
              let among = subst (λ es. Contains es e) (sym taken) (contains_left words (map Get passed) e c) in
              let chosen = contains_filter (λ e. not (is_passing e)) arguments e (ap not plain) among in
              value-on (W n) s t h e (all_had (W n) (reads_of e) (λ l d.
              wanted_used p point.entry (at point.place n) (Executes stmt) comes l (contains_among (used_by stmt) l (contains_flat reads_of (filter (λ e. not (is_passing e)) arguments) e l chosen d))))

          half_same : (l : Loc) → Contains passed l → is_among (summary_at p.graphs sums entry).params l ≡ true → value_in t (Get l) ≡ value_in s (Get l)
          half_same l c among =
              let param = ((callee_sum.params.exact l).0 (among_contains (summary_at p.graphs sums entry).params l among)).1 in
              let there : IsParam (P p) entry l = subst (λ i. IsParam (P p) i l) same_entry param in
              h.values l (IsWantedBy.taken calls there.passes there.wanted)

      -- After the call.
      module _ (r : List ℕ) (len : length r ≡ length results) (leaves : GivesBack p sums entry (map (value_in s) arguments) r) where
        -- what the callee doesn't change is as it was
        keeps : (l : Loc) → passes l ≡ true → ¬ Changes (P p) entry l → with_values s.running.values results r l ≡ s.running.values l
        keeps l is unchanged =
            given-alike l results r nothing s.running.values len (λ out. absurd (out (contains_left passed (map Temp ts) l (among_contains passed l is))))
            ∙ given-first l passed (map Temp ts) r nothing (temps_apart ts l is)
            ∙ leaves callee_passes.words params_are l (among_contains passed l is) unchanged
            ∙ ap (λ ns. with_values nothing passed ns l) (ap (λ es. drop (length callee_passes.words) (map (value_in s) es)) taken ∙ drop_words (value_in s) callee_passes.words words (map Get passed) as_many)
            ∙ given-read l s.running.values passed [] nothing (among_contains passed l is)

        abbrev gives : ℕ → Bool
        gives = (trim p sums).gives entry

        result_place : (l : Loc) → passes l ≡ true → (k : ℕ) → slice_get results k ≡ Some l → gives k ≡ is_among (summary_at p.graphs sums entry).results l
        result_place l is k e = ap (is_given (summary_at p.graphs sums entry).results) (at_first passed (map Temp ts) k l (temps_apart ts l is) e)

        unwritten : (l : Loc) → (Contains (map Temp ts) l → ⊥) → (b : Bool) → is_among (written_by stmt) l ≡ b → b ≡ false
        unwritten l out true e = absurd (out (subst (λ ls. Contains ls l) (temps_stay g.pushed ts) (among_contains (written_by stmt) l e)))
        unwritten l out false e = refl

        -- what is wanted before the call is the same
        before_same : (l : Loc) → (Contains (map Temp ts) l → ⊥) → ¬ Changes (P p) entry l → W (suc n) l → t.running.values l ≡ s.running.values l
        before_same l out unchanged w = h.values l (wanted_still p point.entry (at point.place n) stmt comes l (unwritten l out (is_among (written_by stmt) l) refl) unchanged w)

        after_same : (l : Loc) → W (suc n) l → with_values t.running.values (kept gives results) (kept gives r) l ≡ with_values s.running.values results r l
        after_same l w = go (passes l) refl
          where
            passing : passes l ≡ true → (b : Bool) → is_among (summary_at p.graphs sums entry).results l ≡ b → with_values t.running.values (kept gives results) (kept gives r) l ≡ with_values s.running.values results r l
            passing is true e =
                given-kept l gives results r s.running.values t.running.values len (λ k there. result_place l is k there ∙ e)
                (λ out. absurd (out (contains_left passed (map Temp ts) l (among_contains passed l is))))
            passing is false e =
                let unchanged = unresulting e in
                given-dropped l gives results r t.running.values len (λ k there. result_place l is k there ∙ e)
                ∙ before_same l (temps_apart ts l is) unchanged w ∙ sym (keeps l is unchanged)
              where
                unresulting : is_among (summary_at p.graphs sums entry).results l ≡ false → ¬ Changes (P p) entry l
                unresulting e changes =
                    let result : IsResult (P p) entry l = record {
                      changes = changes;
                      caller = point.entry;
                      call = at point.place n;
                      after = at point.place (suc n);
                      calls = calls;
                      goes = goes_next p point.entry (at point.place n) stmt comes;
                      wanted = w;
                    } in
                    true≢false (sym (contains_among (summary_at p.graphs sums entry).results l ((callee_sum.results.exact l).1 (subst (λ i. IsResult (P p) i l) (sym same_entry) result))) ∙ e)

            other : passes l ≡ false → (b : Bool) → is_among (map Temp ts) l ≡ b → with_values t.running.values (kept gives results) (kept gives r) l ≡ with_values s.running.values results r l
            other is true e = absurd (unused point.entry (at point.place n) l (record {
              results = results;
              callee = entry;
              arguments = arguments;
              depth = depth;
              calls = comes;
              given = contains_right passed (map Temp ts) l (among_contains (map Temp ts) l e);
              argument = is;
              wanted = w;
            }))
            other is false e =
                let out : Contains (map Temp ts) l → ⊥ = λ c. true≢false (sym (contains_among (map Temp ts) l c) ∙ e) in
                let none_there : Contains results l → ⊥ = contains_either passed (map Temp ts) l (λ c. true≢false (sym (contains_among passed l c) ∙ is)) out in
                given-dropped l gives results r t.running.values len (λ k there. absurd (none_there (contained results k l there)))
                ∙ before_same l out (λ changes. true≢false (sym (changes_pass p entry l changes) ∙ is)) w
                ∙ sym (given-none l results r s.running.values none_there)

            go : (b : Bool) → passes l ≡ b → with_values t.running.values (kept gives results) (kept gives r) l ≡ with_values s.running.values results r l
            go true is = passing is (is_among (summary_at p.graphs sums entry).results l) refl
            go false is = other is (is_among (map Temp ts) l) refl

        resumes : Meets p sums a (next_point point) (with_values s.running.values results r) (with_values t.running.values (kept gives results) (kept gives r))
        resumes = record {
          done = suc n;
          after = subst (IsAfter (suc n) block.stmts) stand.follows (after_next stand.after);
          wanted = after_same;
          first = first;
          began = began;
          positions = at point.place n ∷ positions;
          trail = IsTrail.goes_on stand.trail (goes_next p point.entry (at point.place n) stmt comes);
          traced = trace_next n positions s.running.values (with_values s.running.values results r)
              (subst (λ s'. Does (Changes (P p)) g.pushed (action_at g.pushed s') s.running.values (with_values s.running.values results r)) (sym comes)
              (call_does g.pushed (Changes (P p)) ts entry arguments depth r s.running.values keeps)) stand.traced;
        }

    -- what every statement of the block is
    calling : (stmt : Stmt) → Contains block.stmts stmt → IsCalling p g stmt
    calling stmt c =
        let here = All-contains (λ (x : Graph). All (λ b. All (IsCalling p x) b.stmts) x.blocks) p.graphs g formed.calls (known point.entry g found) in
        All-contains (IsCalling p g) block.stmts stmt (All-contains (λ (b : Block). All (IsCalling p g) b.stmts) g.blocks block here placed) c

    passing_call : (stmt : Stmt) → Contains block.stmts stmt → StmtPasses back stmt
    passing_call stmt c =
        let here = All-contains (λ (x : Graph). All (λ b. All (StmtPasses back) b.stmts) x.blocks) p.graphs g passes_all.calls (known point.entry g found) in
        All-contains (StmtPasses back) block.stmts stmt (All-contains (λ (b : Block). All (StmtPasses back) b.stmts) g.blocks block here placed) c

    -- either both are over, or what follows meets
    both_go : (s t : State) (halt halt' : Halt) (b : Bool) → EndAlike s t → (is_over s.end ≡ false → Meet (pass p sums) a point 0 halt halt') → is_over s.end ≡ b →
        Meet (pass p sums) a point 0 (if b then Over s else halt) (if b then Over t else halt')
    both_go s t halt halt' true over on e = over
    both_go s t halt halt' false over on e = on e

    abbrev Onward : List Stmt → Type 0
    Onward stmts = (n : ℕ) (positions : List Position) (s t : State) → Stand n stmts positions s t → AgreeOn (W n) s t → Meet (pass p sums) a point 0 (local_run stmts s) (local_run (map (trim_stmt (trim p sums)) stmts) t)

    call-meets : (results : List Loc) (entry : ℕ) (arguments : List Expr) (depth : ℕ) (rest : List Stmt) → Onward (Call results entry arguments depth ∷ rest)
    call-meets results entry arguments depth rest n positions s t stand h =
        let there = after_there stand.after in
        let form : CallPasses (back entry) results arguments = passing_call (Call results entry arguments depth) there in
        let call : IsCall p g results entry arguments = calling (Call results entry arguments depth) there in
        go results form.temporaries form.given stand call form.words form.taken
      where
        go : (results : List Loc) (ts : List ℕ) → results ≡ passed ++ map Temp ts → Stand n (Call results entry arguments depth ∷ rest) positions s t → IsCall p g results entry arguments →
            (words : List Expr) → arguments ≡ words ++ map Get passed →
            Meet (pass p sums) a point 0 (local_run (Call results entry arguments depth ∷ rest) s) (local_run (map (trim_stmt (trim p sums)) (Call results entry arguments depth ∷ rest)) t)
        go results ts given stand call words taken =
            subst (λ rs. Stand n (Call rs entry arguments depth ∷ rest) positions s t → IsCall p g rs entry arguments →
            Meet (pass p sums) a point 0 (local_run (Call rs entry arguments depth ∷ rest) s) (local_run (map (trim_stmt (trim p sums)) (Call rs entry arguments depth ∷ rest)) t)) (sym given)
            (λ stand call. record {
              at_once = refl;
              entry = refl;
              depth = refl;
              outside = record { memory = h.outside.memory; input = h.outside.input; events = h.outside.events; base = h.outside.base };
              enters = enters n entry arguments depth rest positions s t ts stand h call words taken;
              resumes = λ r r' fit fit' leaves.
                  subst (λ ns. Meets p sums a (next_point point) (with_values s.running.values (passed ++ map Temp ts) r)
                  (with_values t.running.values (kept ((trim p sums).gives entry) (passed ++ map Temp ts)) ns)) (sym leaves.0)
                  (resumes n entry arguments depth rest positions s t ts stand h call words taken r
                  (fit_length (map (location_width s.running.graph.bits) (passed ++ map Temp ts)) r fit ∙ length-map (passed ++ map Temp ts) (location_width s.running.graph.bits)) leaves.1);
            }) stand call

    pub block-meets : (stmts : List Stmt) → Onward stmts
    block-meets [] n positions s t stand h =
        subst (λ exit. Meet (pass p sums) a point 0 (exit_halt s.running.block.exit s) (exit_halt exit t)) (sym stand.there)
        (subst (λ (b : Block). Meet (pass p sums) a point 0 (exit_halt b.exit s) (exit_halt (trim_exit (trim p sums) point.entry block.exit) t)) (sym stand.here)
        (exit-meets n positions s t stand h))
    block-meets (Call results entry arguments depth ∷ rest) n positions s t stand h = call-meets results entry arguments depth rest n positions s t stand h
    block-meets (stmt ∷ rest) n positions s t stand h =
        let next_s = stmt_step stmt s in
        let next_t = stmt_step stmt t in
        let comes = site n stmt rest stand.after in
        let is = all_at (is_stmt g.bits) block.stmts stmt fine.0 (after_there stand.after) in
        let next = stmt-on (W n) (W (suc n)) stmt s t refl (before p point.entry (at point.place n) s.running.graph.bits stmt comes refl
        (subst (λ (x : Graph). is_stmt x.bits stmt ≡ true) (sym stand.graph) is)) h in
        let on = λ (e : is_over next_s.end ≡ false). block-meets rest (suc n) (at point.place n ∷ positions) next_s next_t (record {
          graph = ap (λ (f : Frame). f.graph) (stmt-frame stmt s) ∙ stand.graph;
          here = ap (λ (f : Frame). f.block) (stmt-frame stmt s) ∙ stand.here;
          there = ap (λ (f : Frame). f.block.exit) (stmt-frame stmt t) ∙ stand.there;
          after = after_next stand.after;
          follows = stand.follows;
          trail = IsTrail.goes_on stand.trail (goes_next p point.entry (at point.place n) stmt comes);
          traced = trace_next n positions s.running.values next_s.running.values
              (subst (λ s'. Does (Changes (P p)) g.pushed (action_at g.pushed s') s.running.values next_s.running.values) (sym comes)
              (stmt_does g.pushed (Changes (P p)) stmt s refl)) stand.traced;
        }) (weaker-on (StillOn (W (suc n)) next_s) (W (suc n)) next_s next_t (λ l m. (e, m)) next) in
        subst (λ b. Meet (pass p sums) a point 0 (if is_over next_s.end then Over next_s else local_run rest next_s)
        (if b then Over next_t else local_run (map (trim_stmt (trim p sums)) rest) next_t))
        (sym (ap is_over next.end))
        (both_go next_s next_t (local_run rest next_s) (local_run (map (trim_stmt (trim p sums)) rest) next_t) (is_over next_s.end)
        (record { end = next.end; events = next.outside.events }) on refl)
