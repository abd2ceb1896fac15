-- In the localised program just what is wanted passes.
use Rattle.std.proofs.Common.{arith, ◌≡◌, ℕ, suc, Bool, true, false, cond, ◌&&◌, ◌||◌, List, [], ◌∷◌, ◌++◌, length, Option, Some, None, refl, sym, ap, ◌∙◌, subst, true≢false, eq-eqb, map, drop, slice_get}
use Rattle.std.specs.Prelude.{◌==◌, All, Contains, filter}
use Rattle.std.specs.List.{list_all}
use Rattle.std.proofs.lemmas.List.{drop-map}
use Rattle.std.proofs.lemmas.List.Elements.{All-contains, All-map, All-weaker}
use Rattle.dcc_ir.specs.declared.syntax.Loc.{Loc}
use Rattle.dcc_ir.specs.declared.syntax.Loc.TheVariants.{Temp}
use Rattle.dcc_ir.specs.declared.syntax.Param.{Param}
use Rattle.dcc_ir.specs.Tree.{Get, Stmt, Set, Fetch, Store, Div, Call, Dos, Exit, Goto, If, Switch, Ret, Stop, Block, Graph, Program, Summary}
use Rattle.dcc_ir.specs.Value.{width_of}
use Rattle.dcc_ir.specs.Live.{is_among}
use Rattle.dcc_ir.specs.WellFormed.{all_differ, put_width, IsCalling, IsProgram}
use Rattle.dcc_ir.specs.Flow.{graph_or_none}
use Rattle.dcc_ir.specs.Run.{graph_at}
use Rattle.dcc_ir.specs.Passing.{passed, param_of, is_word_put, bytes_of, RetPasses, GraphPasses, StmtPasses, PassesAll}
use Rattle.dcc_ir.specs.Trimmed.{Trim, kept, trim_stmt, trim_exit, trim_block, trim_graph}
use Rattle.dcc_ir.proofs.FitLaws.{both}
use Rattle.dcc_ir.proofs.GraphLaws.{found_entry}
use Rattle.dcc_ir.proofs.LocationLaws.{Contains-later, Contains-none, Contains-cases}
use Rattle.dcc_ir.proofs.ListLaws.{all_had}
use Rattle.dcc_ir.proofs.ReachedLaws.{found_contained, named_again}
use Rattle.dcc_ir.proofs.passes.FormLaws.{one_graph}
use Rattle.dcc_sums.specs.Summaries.{IsSummary, AreSummaries}
use Rattle.dcc_sums.specs.Localised.{sets_one_of, is_taken, is_given, summary_at, trim_by, localised, GivesJust, TakesJust, CallsJust, PassesJust}
use Rattle.dcc_sums.specs.Laws.{LocalisedPassesJust}
use Rattle.dcc_sums.proofs.KeptLaws.{later}
use Rattle.dcc_sums.proofs.ArgumentLaws.{words_as_many}
use Rattle.dcc_sums.proofs.SiteLaws.{sum_there}

-- Lists.

nothing_kept : {A : Type 0} (stays : ℕ → Bool) (xs : List A) → ((k : ℕ) → stays k ≡ false) → kept stays xs ≡ []
nothing_kept stays [] gone = refl
nothing_kept stays (x ∷ xs) gone = ap (λ b. cond b (x ∷ kept (later stays) xs) (kept (later stays) xs)) (gone 0) ∙ nothing_kept (later stays) xs (λ k. gone (suc k))

same_list : {A : Type 0} (xs : List A) → map (λ x. x) xs ≡ xs
same_list [] = refl
same_list (x ∷ xs) = ap (λ l. x ∷ l) (same_list xs)

module _ {A : Type 0} (g : Loc → A) (chosen : List Loc) where
  abbrev those : List Loc → List Loc
  those xs = filter (λ l. is_among chosen l) xs

  one_more : (b : Bool) (x : Loc) (ys : List A) (xs : List Loc) → ys ≡ map g xs → cond b (g x ∷ ys) ys ≡ map g (cond b (x ∷ xs) xs)
  one_more true x ys xs e = ap (λ l. g x ∷ l) e
  one_more false x ys xs e = e

  -- of what is given for each location, that of those that are chosen stays
  given_those : (xs : List Loc) (ys : List A) → kept (λ k. is_given chosen (slice_get xs k)) (map g xs ++ ys) ≡ map g (those xs)
  given_those [] ys = nothing_kept (λ k. is_given chosen (slice_get [] k)) ys (λ k. refl)
  given_those (x ∷ xs) ys = one_more (is_among chosen x) x (kept (λ k. is_given chosen (slice_get xs k)) (map g xs ++ ys)) (those xs) (given_those xs ys)

  taken_halves : (xs : List Loc) → kept (λ k. is_taken chosen (slice_get (map param_of xs) k)) (map g xs) ≡ map g (those xs)
  taken_halves [] = refl
  taken_halves (x ∷ xs) = one_more (is_among chosen x) x (kept (λ k. is_taken chosen (slice_get (map param_of xs) k)) (map g xs)) (those xs) (taken_halves xs)

  -- the words stay, and what is taken of those that are chosen
  taken_those : (ws : List Param) (vs : List A) (xs : List Loc) → length vs ≡ length ws → list_all (λ w. w.stack && is_word_put w.put) ws ≡ true →
      kept (λ k. is_taken chosen (slice_get (ws ++ map param_of xs) k)) (vs ++ map g xs) ≡ vs ++ map g (those xs)
  taken_those [] [] xs len stack = taken_halves xs
  taken_those (w ∷ ws) (v ∷ vs) xs len stack =
      let parts = both (w.stack && is_word_put w.put) (list_all (λ (x : Param). x.stack && is_word_put x.put) ws) stack in
      let rest = kept (λ k. is_taken chosen (slice_get (ws ++ map param_of xs) k)) (vs ++ map g xs) in
      ap (λ b. cond (b || sets_one_of chosen w.put) (v ∷ rest) rest) (both w.stack (is_word_put w.put) parts.0).0 ∙ ap (λ l. v ∷ l) (taken_those ws vs xs (omega (arith, len)) parts.1)
  taken_those [] (v ∷ vs) xs len stack = absurd (cc)
  taken_those (w ∷ ws) [] xs len stack = absurd (cc)

-- a graph is found under its entry
found_there : (graphs : List Graph) (g : Graph) → all_differ (map (λ (x : Graph). x.entry) graphs) ≡ true → Contains graphs g → graph_at graphs g.entry ≡ Some g
found_there graphs g differ c = go (graph_at graphs g.entry) refl
  where
    missed : (xs : List Graph) → graph_at xs g.entry ≡ None → Contains xs g → ⊥
    missed [] e c = absurd (Contains-none g c)
    missed (x ∷ xs) e c = there (x.entry == g.entry) refl (λ f d. missed xs f d) e
      where
        there : (b : Bool) → (x.entry == g.entry) ≡ b → (graph_at xs g.entry ≡ None → Contains xs g → ⊥) → cond b (Some x) (graph_at xs g.entry) ≡ None → ⊥
        there true is rest e = absurd (cc)
        there false is rest e = Contains-cases x xs g ⊥ (λ same. true≢false (sym (eq-eqb x.entry g.entry (ap (λ (y : Graph). y.entry) same)) ∙ is)) (λ d. rest e d) c

    go : (o : Option Graph) → graph_at graphs g.entry ≡ o → o ≡ Some g
    go (Some h) e = ap Some (one_graph graphs h g differ (found_contained (λ x. x.entry == g.entry) graphs h e) c (found_entry graphs g.entry h e))
    go None e = absurd (missed graphs e c)

-- The localised program.
module _ (back : ℕ → List ℕ) (p : Program) (sums : List Summary) (formed : IsProgram p) (passes_all : PassesAll back p) (are : AreSummaries p sums) where
  abbrev trim : Trim
  trim = trim_by p.graphs sums

  abbrev sum_of : ℕ → Summary
  sum_of entry = summary_at p.graphs sums entry

  sum_is : (entry : ℕ) (g : Graph) → graph_at p.graphs entry ≡ Some g → IsSummary p g (sum_of entry)
  sum_is entry g found = sum_there (IsSummary p) p.graphs sums entry g are found

  -- what stays of arguments or params, where the graph with that entry takes these words
  stays : {A : Type 0} (f : Loc → A) (entry : ℕ) (g : Graph) (ws : List Param) (vs : List A) → graph_at p.graphs entry ≡ Some g → g.params ≡ ws ++ map param_of passed →
      list_all (λ w. w.stack && is_word_put w.put) ws ≡ true → length vs ≡ length ws → kept (trim.takes entry) (vs ++ map f passed) ≡ vs ++ map f (sum_of entry).params
  stays f entry g ws vs found params stack len =
      ap (λ ps. kept (λ k. is_taken (sum_of entry).params (slice_get ps k)) (vs ++ map f passed)) (ap (λ o. (graph_or_none o).params) found ∙ params)
      ∙ taken_those f (sum_of entry).params ws vs passed len stack ∙ ap (λ l. vs ++ map f l) (sym (sum_is entry g found).params.order)

  -- what stays of what is given for each location
  gives : {A : Type 0} (f : Loc → A) (entry : ℕ) (g : Graph) (more : List A) → graph_at p.graphs entry ≡ Some g → kept (trim.gives entry) (map f passed ++ more) ≡ map f (sum_of entry).results
  gives f entry g more found = given_those f (sum_of entry).results passed more ∙ ap (map f) (sym (sum_is entry g found).results.order)

  ret_just : (entry : ℕ) (g : Graph) → graph_at p.graphs entry ≡ Some g → (words : List Param) (numbers : List ℕ) (exit : Exit) → RetPasses words numbers exit → GivesJust (sum_of entry).results (trim_exit trim entry exit)
  ret_just entry g found words numbers (Ret values) form = ap (kept (trim.gives entry)) form ∙ gives Get entry g (bytes_of words numbers) found
  ret_just entry g found words numbers (Goto place) form = tt
  ret_just entry g found words numbers (If test one other) form = tt
  ret_just entry g found words numbers (Switch e places) form = tt
  ret_just entry g found words numbers Stop form = tt

  graph_just : (g : Graph) → graph_at p.graphs g.entry ≡ Some g → GraphPasses (back g.entry) g → TakesJust (sum_of g.entry) (trim_graph trim g)
  graph_just g found all = record {
    words = all.words;
    stack = all.params.stack;
    params = ap (kept (trim.takes g.entry)) all.params.params ∙ stays param_of g.entry g all.words all.words found all.params.params all.params.stack refl;
    rets = All-map (λ (b : Block). GivesJust (sum_of g.entry).results b.exit) (trim_block trim g.entry) g.blocks
        (All-weaker (λ (b : Block). RetPasses all.words (back g.entry) b.exit) (λ (b : Block). GivesJust (sum_of g.entry).results (trim_exit trim g.entry b.exit))
        (λ b form. ret_just g.entry g found all.words (back g.entry) b.exit form) g.blocks all.rets);
  }

  call_just : (g : Graph) (stmt : Stmt) → IsCalling p g stmt → StmtPasses back stmt → CallsJust sum_of (trim_stmt trim stmt)
  call_just g (Call results entry arguments depth) call form =
      let found = named_again p.graphs entry call.callee formed.entries call.named in
      let all = All-contains (λ (x : Graph). GraphPasses (back x.entry) x) (drop 1 p.graphs) call.callee passes_all.graphs (found_contained (λ x. x.entry == entry) (drop 1 p.graphs) call.callee call.named) in
      let widths = ap (map (width_of g.bits)) (sym form.taken) ∙ call.taken ∙ ap (map (λ (q : Param). put_width call.callee.bits q.put)) all.params.params in
      let many = words_as_many (width_of g.bits) (λ (q : Param). put_width call.callee.bits q.put) form.words all.words passed widths in (
        ap (kept (trim.gives entry)) form.given ∙ gives (λ l. l) entry call.callee (map Temp form.temporaries) found ∙ same_list (sum_of entry).results,
        (form.words, ap (kept (trim.takes entry)) form.taken ∙ stays Get entry call.callee all.words form.words found all.params.params all.params.stack many),
      )
  call_just g (Set location e) call form = tt
  call_just g (Fetch location width address) call form = tt
  call_just g (Store width address e) call form = tt
  call_just g (Div location e) call form = tt
  call_just g (Dos number place argument) call form = tt

  rest_there : (g : Graph) (graphs : List Graph) → Contains (drop 1 graphs) g → Contains graphs g
  rest_there g [] c = c
  rest_there g (x ∷ graphs) c = Contains-later x graphs g c

  passes_just : PassesJust sum_of (localised sums p)
  passes_just = record {
    graphs = subst (All (λ (g : Graph). TakesJust (sum_of g.entry) g)) (sym (drop-map (trim_graph trim) 1 p.graphs))
        (All-map (λ (g : Graph). TakesJust (sum_of g.entry) g) (trim_graph trim) (drop 1 p.graphs)
        (all_had (λ (g : Graph). TakesJust (sum_of g.entry) (trim_graph trim g)) (drop 1 p.graphs) (λ g c.
        graph_just g (found_there p.graphs g formed.entries (rest_there g p.graphs c)) (All-contains (λ (x : Graph). GraphPasses (back x.entry) x) (drop 1 p.graphs) g passes_all.graphs c))));
    calls = All-map (λ (g : Graph). All (λ b. All (CallsJust sum_of) b.stmts) g.blocks) (trim_graph trim) p.graphs
        (all_had (λ (g : Graph). All (λ b. All (CallsJust sum_of) b.stmts) (trim_graph trim g).blocks) p.graphs (λ g c. blocks_just g c));
  }
    where
      blocks_just : (g : Graph) → Contains p.graphs g → All (λ b. All (CallsJust sum_of) b.stmts) (map (trim_block trim g.entry) g.blocks)
      blocks_just g c =
          let calling = All-contains (λ (x : Graph). All (λ b. All (IsCalling p x) b.stmts) x.blocks) p.graphs g formed.calls c in
          let passing = All-contains (λ (x : Graph). All (λ b. All (StmtPasses back) b.stmts) x.blocks) p.graphs g passes_all.calls c in
          All-map (λ (b : Block). All (CallsJust sum_of) b.stmts) (trim_block trim g.entry) g.blocks
          (all_had (λ (b : Block). All (CallsJust sum_of) (map (trim_stmt trim) b.stmts)) g.blocks (λ b d.
          All-map (CallsJust sum_of) (trim_stmt trim) b.stmts (all_had (λ stmt. CallsJust sum_of (trim_stmt trim stmt)) b.stmts (λ stmt e.
          call_just g stmt (All-contains (IsCalling p g) b.stmts stmt (All-contains (λ (x : Block). All (IsCalling p g) x.stmts) g.blocks b calling d) e)
          (All-contains (StmtPasses back) b.stmts stmt (All-contains (λ (x : Block). All (StmtPasses back) x.stmts) g.blocks b passing d) e)))))

pub localised-passes_just : LocalisedPassesJust
localised-passes_just back p sums formed passes_all are = passes_just back p sums formed passes_all are
