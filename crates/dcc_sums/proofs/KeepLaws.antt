-- A program without what isn't wanted keeps the runs, and all else.
use Rattle.std.proofs.Common.{◌≡◌, ℕ, zero, suc, Bool, true, inl, inr, List, [], ◌∷◌, ◌++◌, length, Option, Some, None, refl, sym, ap, ◌∙◌, subst, map, take, drop, slice_get, get_or}
use Rattle.std.specs.Prelude.{option_map, Contains}
use Rattle.std.proofs.lemmas.Option.{slice_get-map}
use Rattle.std.proofs.lemmas.List.{length-map, length-append}
use Rattle.dcc_ir.specs.declared.syntax.Loc.{Loc}
use Rattle.dcc_ir.specs.declared.syntax.Param.{Param}
use Rattle.dcc_ir.specs.Tree.{Stmt, Call, Block, Graph, Program, Summary}
use Rattle.dcc_ir.specs.Live.{is_among, block_in}
use Rattle.dcc_ir.specs.WellFormed.{put_width, IsProgram}
use Rattle.dcc_ir.specs.Flow.{graph_or_none}
use Rattle.dcc_ir.specs.Run.{State, Activation, no_block, passing, graph_at}
use Rattle.dcc_ir.specs.Local.{after_call, after_calls, halt_of, local_run}
use Rattle.dcc_ir.specs.Keeps.{KeepsRuns}
use Rattle.dcc_ir.specs.Passes.{with_values, param_widths, Meet, BlocksStay, BeginAlike, OwesBegin, OwesGo}
use Rattle.dcc_ir.specs.Passing.{passed, param_of, PassesAll}
use Rattle.dcc_ir.specs.Trimmed.{kept, trim_stmt, trim_exit, trim_block, trim_graph}
use Rattle.dcc_ir.proofs.GraphLaws.{found_entry}
use Rattle.dcc_ir.proofs.LocationLaws.{contains_among}
use Rattle.dcc_ir.proofs.ListLaws.{all_had}
use Rattle.dcc_ir.proofs.ReachedLaws.{contained}
use Rattle.dcc_ir.proofs.passes.LocalLaws.{some_same, is_running}
use Rattle.dcc_ir.proofs.passes.SameLaws.{Open}
use Rattle.dcc_ir.proofs.passes.FormLaws.{changed_at, same_entries}
use Rattle.dcc_ir.proofs.passes.Theorem.{keeps_runs}
use Rattle.dcc_demand.specs.Trail.{IsTrail}
use Rattle.dcc_demand.specs.Changes.{Changes}
use Rattle.dcc_demand.specs.Wanted.{Wanted, IsParam}
use Rattle.dcc_sums.specs.Points.{begin_of}
use Rattle.dcc_sums.specs.Summaries.{AreSummaries, ReusesNone}
use Rattle.dcc_sums.specs.Localised.{is_taken, summary_at, localised}
use Rattle.dcc_sums.specs.Laws.{LocalisedKeeps}
use Rattle.dcc_sums.proofs.FormedLaws.{trimmed-formed}
use Rattle.dcc_sums.proofs.GivenLaws.{fit_length}
use Rattle.dcc_sums.proofs.TraceLaws.{traced_first}
use Rattle.dcc_sums.proofs.BeginLaws.{nothing, first_values, begin_alike, begin_memory}
use Rattle.dcc_sums.proofs.SiteLaws.{IsAfter, none, contained_map, P, graph_of}
use Rattle.dcc_sums.proofs.ArgumentLaws.{contains_right}
use Rattle.dcc_sums.proofs.StayLaws.{kept_whole, frame_stays}
use Rattle.dcc_sums.proofs.PassLaws.{trim, Meets, pass, kind, sum_is, block-meets}

-- Statements that are left are trimmed.

trim_call : (p : Program) (sums : List Summary) (stmts : List Stmt) → after_call (map (trim_stmt (trim p sums)) stmts) ≡ map (trim_stmt (trim p sums)) (after_call stmts)
trim_call p sums [] = refl
trim_call p sums (Call results entry arguments depth ∷ rest) = refl
trim_call p sums (stmt ∷ rest) = trim_call p sums rest

trim_calls : (p : Program) (sums : List Summary) (calls : ℕ) (stmts : List Stmt) → after_calls calls (map (trim_stmt (trim p sums)) stmts) ≡ map (trim_stmt (trim p sums)) (after_calls calls stmts)
trim_calls p sums zero stmts = refl
trim_calls p sums (suc calls) stmts = ap after_call (trim_calls p sums calls stmts) ∙ trim_call p sums (after_calls calls stmts)

block_there : (blocks : List Block) (n : ℕ) (b : Block) → slice_get blocks n ≡ Some b → get_or blocks n no_block ≡ b
block_there [] n b e = absurd (cc)
block_there (x ∷ blocks) zero b e = some_same x b e
block_there (x ∷ blocks) (suc n) b e = block_there blocks n b e

module _ (back : ℕ → List ℕ) (p : Program) (sums : List Summary) (formed : IsProgram p) (passes_all : PassesAll back p) (are : AreSummaries p sums) (unused : ReusesNone p) where
  there_is : (entry : ℕ) (old new : Graph) → graph_at p.graphs entry ≡ Some old → graph_at (localised sums p).graphs entry ≡ Some new → new ≡ trim_graph (trim p sums) old
  there_is entry old new found found' =
      some_same new (trim_graph (trim p sums) old) (sym found' ∙ changed_at (trim_graph (trim p sums)) p.graphs entry (λ g c. refl) ∙ ap (option_map (trim_graph (trim p sums))) found)

  graph_is : (entry : ℕ) (old : Graph) → graph_at p.graphs entry ≡ Some old → graph_of p entry ≡ old
  graph_is entry old found = ap graph_or_none found

  goes : OwesGo p (localised sums p) (pass p sums)
  goes a point s t together =
      let found = together.first.at.graph in
      let same = graph_is point.entry s.running.graph found in
      let other = there_is point.entry s.running.graph t.running.graph found together.second.at.graph in
      let block : block_in (graph_of p point.entry) point.place ≡ s.running.block = ap (λ (g : Graph). block_in g point.place) same ∙ block_there s.running.graph.blocks point.place s.running.block together.first.at.block in
      let entries = found_entry p.graphs point.entry s.running.graph found in
      let blocks : t.running.block ≡ trim_block (trim p sums) point.entry s.running.block =
      some_same t.running.block (trim_block (trim p sums) point.entry s.running.block) (sym together.second.at.block ∙ ap (λ (g : Graph). slice_get g.blocks point.place) other
      ∙ slice_get-map (trim_block (trim p sums) s.running.graph.entry) s.running.graph.blocks point.place ∙ ap (option_map (trim_block (trim p sums) s.running.graph.entry)) together.first.at.block
      ∙ ap (λ n. Some (trim_block (trim p sums) n s.running.block)) entries) in
      let rests : t.running.rest ≡ map (trim_stmt (trim p sums)) s.running.rest =
      together.second.at.rest ∙ ap (λ (b : Block). after_calls point.calls b.stmts) blocks ∙ trim_calls p sums point.calls s.running.block.stmts
      ∙ ap (map (trim_stmt (trim p sums))) (sym together.first.at.rest) in
      let here : after_calls point.calls (block_in (graph_of p point.entry) point.place).stmts ≡ s.running.rest = ap (λ (b : Block). after_calls point.calls b.stmts) block ∙ sym together.first.at.rest in
      let m : Meets p sums a point s.running.values t.running.values = together.holds in
      let placed = subst (λ (g : Graph). Contains g.blocks (block_in (graph_of p point.entry) point.place)) (sym same)
      (subst (Contains s.running.graph.blocks) (sym block) (contained s.running.graph.blocks point.place s.running.block together.first.at.block)) in (
        0,
        subst (λ rest. Meet (pass p sums) a point 0 (halt_of s) (local_run rest t)) (sym rests)
            (block-meets back p sums formed passes_all are unused a point (found ∙ ap Some (sym same)) m.first m.began placed s.running.rest m.done m.positions s t (record {
              graph = sym same;
              here = sym block;
              there = ap (λ (b : Block). b.exit) blocks ∙ ap (λ (b : Block). trim_exit (trim p sums) point.entry b.exit) (sym block);
              after = subst (IsAfter m.done (block_in (graph_of p point.entry) point.place).stmts) here m.after;
              follows = ap after_call (sym here);
              trail = m.trail;
              traced = m.traced;
            }) (record {
              values = m.wanted;
              outside = together.outside;
              end = is_running t.end together.second.running ∙ sym (is_running s.end together.first.running);
              bits = ap (λ (g : Graph). g.bits) other;
              entry = ap (λ (g : Graph). g.entry) other;
            })),
      )

  -- what is wanted at the entry of a graph that takes it is taken
  param_there : (entry : ℕ) (g : Graph) → graph_at p.graphs entry ≡ Some g → (l : Loc) → Contains passed l → Contains g.params (param_of l) → Wanted (P p) entry (begin_of 0) l → is_among (summary_at p.graphs sums entry).params l ≡ true
  param_there entry g found l passing takes w =
      let sum = sum_is back p sums formed passes_all are unused entry g found in
      let param : IsParam (P p) entry l = record { passes = contains_among passed l passing; wanted = w } in
      contains_among (summary_at p.graphs sums entry).params l ((sum.params.exact l).1 (takes, subst (λ i. IsParam (P p) i l) (sym (found_entry p.graphs entry g found)) param))

  -- the values and the memory with which a graph and the trimmed one begin
  abbrev Alike : List Loc → (ℕ → Bool) → List Param → List ℕ → State → State → Type 0
  Alike params stays ps a s t =
      ((l : Loc) → (Contains passed l → Contains ps (param_of l) → is_among params l ≡ true) → (passing 0 (kept stays ps) (kept stays a) t).running.values l ≡ (passing 0 ps a s).running.values l)
      × ((passing 0 (kept stays ps) (kept stays a) t).memory ≡ (passing 0 ps a s).memory)

  begun : (entry : ℕ) (old : Graph) → graph_at p.graphs entry ≡ Some old → (a : List ℕ) (s t : State) → length a ≡ length old.params → Open s t →
      Alike (summary_at p.graphs sums entry).params ((trim p sums).takes entry) old.params a s t
  begun entry old found a s t len alike = elim (kind back p sums formed passes_all are unused entry old found) [
    | inl bare ↦ subst (λ ps. Alike params ((trim p sums).takes entry) ps a s t) (sym bare.0) (λ l stay. alike.values l, alike.memory)
    | inr all ↦ (
        let enough = len ∙ ap length all.params.params ∙ length-append all.words (map param_of passed) in
        let those = ap (λ (g : Graph). g.params) (graph_is entry old found) ∙ all.params.params in
        subst (λ ps. Alike params (λ k. is_taken params (slice_get ps k)) old.params a s t) (sym those)
        (subst (λ ps. Alike params (λ k. is_taken params (slice_get (all.words ++ map param_of passed) k)) ps a s t) (sym all.params.params) (
          λ l stay. begin_alike all.words a enough all.params.stack params s t alike l (λ c. stay c (contains_right all.words (map param_of passed) (param_of l) (contained_map param_of passed l c))),
          begin_memory all.words a enough all.params.stack params s t alike,
        )))
  ]
    where
      params : List Loc
      params = (summary_at p.graphs sums entry).params

  -- The graphs begin alike.
  begins : (entry : ℕ) (old : Graph) → graph_at p.graphs entry ≡ Some old → OwesBegin (pass p sums) entry old (trim_graph (trim p sums) old)
  begins entry old found = record {
    begin = λ fill base a a' s t small fit fit' enters outside opened opened'.
        let same = graph_is entry old found in
        let len : length a ≡ length old.params = fit_length (param_widths old) a fit ∙ length-map old.params (λ (q : Param). put_width old.bits q.put) in
        let open_both : Open s t = record {
          values = λ l. ap (λ (x : Activation). x.values l) opened' ∙ sym (ap (λ (x : Activation). x.values l) opened);
          memory = outside.memory;
          base = outside.base;
        } in
        let alike = begun entry old found a s t len open_both in
        subst (λ n. BeginAlike (pass p sums) entry a (passing 0 old.params a s) (passing 0 (kept ((trim p sums).takes n) old.params) a' t)) (sym (found_entry p.graphs entry old found))
        (subst (λ ns. BeginAlike (pass p sums) entry a (passing 0 old.params a s) (passing 0 (kept ((trim p sums).takes entry) old.params) ns t)) (sym enters) (record {
          memory = alike.1;
          holds = record {
            done = 0;
            after = none;
            wanted = λ l w. alike.0 l (λ passing takes. param_there entry old found l passing takes w);
            first = (passing 0 old.params a s).running.values;
            began = λ words e l c.
                let params : old.params ≡ words ++ map param_of passed = ap (λ (g : Graph). g.params) (sym same) ∙ e in
                subst (λ ps. (passing 0 ps a s).running.values l ≡ with_values nothing passed (drop (length words) a) l) (sym params)
                (first_values words a (len ∙ ap length params ∙ length-append words (map param_of passed)) s l c);
            positions = [];
            trail = IsTrail.enters;
            traced = traced_first (Changes (P p)) ((P p).procedure entry) (graph_of p entry).pushed (passing 0 old.params a s).running.values;
          };
        }));
  }

  stay : (old new : Graph) → new ≡ trim_graph (trim p sums) old → BlocksStay old new (λ n. n)
  stay old new same = subst (λ x. BlocksStay old x (λ n. n)) (sym same) (record { first = refl; stays = λ n b there. here n b there (slice_get old.blocks n) refl })
    where
      here : (n : ℕ) (new : Block) → slice_get (trim_graph (trim p sums) old).blocks n ≡ Some new → (o : Option Block) → slice_get old.blocks n ≡ o →
          (b : Block) × (slice_get old.blocks n ≡ Some b) × (b.at ≡ new.at)
      here n new there (Some b) e =
          let is = sym (ap (option_map (trim_block (trim p sums) old.entry)) e) ∙ sym (slice_get-map (trim_block (trim p sums) old.entry) old.blocks n) ∙ there in
          (b, e, ap (λ (x : Block). x.at) (some_same (trim_block (trim p sums) old.entry b) new is))
      here n new there None e =
          let is : None ≡ Some new = sym (ap (option_map (trim_block (trim p sums) old.entry)) e) ∙ sym (slice_get-map (trim_block (trim p sums) old.entry) old.blocks n) ∙ there in
          absurd (cc)

  runs_kept : IsProgram (localised sums p) → KeepsRuns p (localised sums p)
  runs_kept formed' = keeps_runs p (localised sums p) (pass p sums) (record {
    before = formed;
    after = formed';
    image = refl;
    lo = refl;
    hi = refl;
    entries = same_entries (trim_graph (trim p sums)) p.graphs (λ g c. refl);
    blocks = λ entry old new found found'. stay old new (there_is entry old new found found');
    begin = λ entry old new found found'. subst (OwesBegin (pass p sums) entry old) (sym (there_is entry old new found found')) (begins entry old found);
    go = goes;
    start = all_had (λ (g : Graph). ◌≡◌ {A = List ℕ} [] (kept ((trim p sums).takes g.entry) [])) (take 1 p.graphs) (λ g c. refl);
  })

pub localised-keeps : LocalisedKeeps
localised-keeps back p sums formed passes_all are unused =
    let formed' = trimmed-formed (trim p sums) p formed in
    record { formed = formed'; keeps = kept_whole (trim p sums) p (runs_kept back p sums formed passes_all are unused formed'); frames = frame_stays p sums }
