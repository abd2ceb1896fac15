-- The program in which what passes together is one value keeps the runs.
use Rattle.std.proofs.Common.{arith, ◌≡◌, ℕ, zero, suc, ◌+◌, ◌^◌, ◌<◌, true, false, ◌&&◌, List, [], ◌∷◌, ◌++◌, length, Option, Some, None, refl, sym, ap, ap₂, ◌∙◌, subst, map, take, slice_get, get_or, flat_map}
use Rattle.std.specs.Prelude.{option_map, Contains}
use Rattle.std.specs.List.{list_all}
use Rattle.std.proofs.lemmas.Option.{slice_get-map}
use Rattle.std.proofs.lemmas.List.{length-map, length-append}
use Rattle.std.proofs.lemmas.List.Elements.{All-contains}
use Rattle.dcc_num.specs.declared.Reg.TheVariants.{Ax}
use Rattle.dcc_num.specs.declared.Half.TheVariants.{Low}
use Rattle.dcc_ir.specs.declared.syntax.Loc.{Loc}
use Rattle.dcc_ir.specs.declared.syntax.Loc.TheVariants.{Half}
use Rattle.dcc_ir.specs.declared.syntax.Param.{Param}
use Rattle.dcc_ir.specs.Tree.{Stmt, Block, Graph, Program, Summary}
use Rattle.dcc_ir.specs.Location.{location_width, Values, fill_at, filled}
use Rattle.dcc_ir.specs.Live.{block_in}
use Rattle.dcc_ir.specs.WellFormed.{is_location, put_width, IsProgram}
use Rattle.dcc_ir.specs.Flow.{graph_or_none}
use Rattle.dcc_ir.specs.Run.{State, Activation, activation, no_block, passing, graph_at}
use Rattle.dcc_ir.specs.Local.{after_call, after_calls, halt_of, local_run}
use Rattle.dcc_ir.specs.Keeps.{KeepsRuns}
use Rattle.dcc_ir.specs.Passes.{FitIn, param_widths, Meet, BlocksStay, OwesBegin, OwesGo}
use Rattle.dcc_ir.specs.Passing.{param_of, is_word_put}
use Rattle.dcc_ir.proofs.LocationLaws.{Contains-here, Contains-none, Contains-cases}
use Rattle.dcc_ir.proofs.ListLaws.{all_had}
use Rattle.dcc_ir.proofs.ReachedLaws.{contained}
use Rattle.dcc_ir.proofs.passes.AgreeLaws.{revalued}
use Rattle.dcc_ir.proofs.passes.LocalLaws.{some_same, is_running}
use Rattle.dcc_ir.proofs.passes.FormLaws.{width_more, changed_at, same_entries}
use Rattle.dcc_ir.proofs.passes.Theorem.{keeps_runs}
use Rattle.dcc_sums.specs.Localised.{TakesJust}
use Rattle.dcc_sums.proofs.GivenLaws.{fit_length}
use Rattle.dcc_sums.proofs.SiteLaws.{graph_of}
use Rattle.dcc_signatures.specs.declared.packing.Fresh.{Fresh}
use Rattle.dcc_signatures.specs.Packed.{merged, param_with, one_param, taking_part, pack_stmt, pack_exit, pack_block}
use Rattle.dcc_signatures.specs.Packed.{fresh_after, pack_graph, packed}
use Rattle.dcc_signatures.proofs.PutLaws.{puts, puts-good, puts-places, params-packed, held, OpenAt, words_at, puts_at}
use Rattle.dcc_signatures.proofs.PutLaws.{words_first}
use Rattle.dcc_signatures.proofs.OneLaws.{taken}
use Rattle.dcc_signatures.proofs.PassLaws.{fit_each, past_calls, pending-run, pending-call, AllJust, Enters, Meets}
use Rattle.dcc_signatures.proofs.PassLaws.{fresh_at, stmts_at, pass, takes_just, Fine, all_fine, block-meets}

-- Lists.

block_there : (blocks : List Block) (n : ℕ) (b : Block) → slice_get blocks n ≡ Some b → get_or blocks n no_block ≡ b
block_there [] n b e = absurd (cc)
block_there (x ∷ blocks) zero b e = some_same x b e
block_there (x ∷ blocks) (suc n) b e = block_there blocks n b e

-- what fits words and then locations fits the locations
fit_locations : (bits : List ℕ) (v : Values) (ws : List Param) (ls : List Loc) (ns : List ℕ) → length ns ≡ length ws →
    FitIn (map (λ q. put_width bits q.put) (ws ++ map param_of ls)) (ns ++ map v ls) → FitIn (map (location_width bits) ls) (map v ls)
fit_locations bits v [] [] [] len fit = tt
fit_locations bits v [] (l ∷ ls) [] len fit = (fit.0, fit_locations bits v [] ls [] refl fit.1)
fit_locations bits v (w ∷ ws) ls (n ∷ ns) len fit = fit_locations bits v ws ls ns (omega (arith, len)) fit.1
fit_locations bits v [] ls (n ∷ ns) len fit = absurd (cc)
fit_locations bits v (w ∷ ws) ls [] len fit = absurd (cc)

-- The begin of a graph.
module _ (l : Loc) (bits : List ℕ) (ws : List Param) (ls : List Loc) (stack : list_all (λ w. w.stack && is_word_put w.put) ws ≡ true) where
  -- what words and locations take together is what they take apart
  taken_together : (ns : List ℕ) (v : Values) (s t : State) → length ns ≡ length ws → FitIn (map (location_width bits) ls) (map v ls) → OpenAt l s t →
      OpenAt l (passing 0 (ws ++ map param_of ls) (ns ++ map v ls) s) (passing 0 (ws ++ map param_with (puts ls)) (ns ++ map (held v) (puts ls)) t)
  taken_together ns v s t len fit o =
      subst (λ u. OpenAt l u (passing 0 (ws ++ map param_with (puts ls)) (ns ++ map (held v) (puts ls)) t)) (sym (words_first 0 ws (map param_of ls) ns (map v ls) s len))
      (subst (OpenAt l (passing (0 + length ws) (map param_of ls) (map v ls) (passing 0 ws ns s))) (sym (words_first 0 ws (map param_with (puts ls)) ns (map (held v) (puts ls)) t len))
      (subst (λ xs. OpenAt l (passing (0 + length ws) (map param_of xs) (map v xs) (passing 0 ws ns s)) (passing (0 + length ws) (map param_with (puts ls)) (map (held v) (puts ls)) (passing 0 ws ns t))) (puts-places ls)
      (puts_at l bits v (puts ls) (0 + length ws) (0 + length ws) (passing 0 ws ns s) (passing 0 ws ns t)
      (puts-good (λ x. v x < 2 ^ location_width bits x) ls (all_had (λ x. v x < 2 ^ location_width bits x) ls (fit_each (location_width bits) v ls fit))) (words_at l 0 ws ns s t o))))

module _ (p : Program) (sum_of : ℕ → Summary) (formed : IsProgram p) (just : AllJust sum_of p) where
  pub there_is : (entry : ℕ) (old new : Graph) → graph_at p.graphs entry ≡ Some old → graph_at (packed p).graphs entry ≡ Some new → new ≡ pack_graph old
  there_is entry old new found found' =
      some_same new (pack_graph old) (sym found' ∙ changed_at pack_graph p.graphs entry (λ g c. refl) ∙ ap (option_map pack_graph) found)

  graph_is : (entry : ℕ) (old : Graph) → graph_at p.graphs entry ≡ Some old → graph_of p entry ≡ old
  graph_is entry old found = ap graph_or_none found

  goes : OwesGo p (packed p) (pass p sum_of)
  goes a point s t together = (0, meets)
    where
      same : graph_of p point.entry ≡ s.running.graph
      same = graph_is point.entry s.running.graph together.first.at.graph

      other : t.running.graph ≡ pack_graph s.running.graph
      other = there_is point.entry s.running.graph t.running.graph together.first.at.graph together.second.at.graph

      fresh : Fresh
      fresh = fresh_at p sum_of point.entry

      here : block_in (graph_of p point.entry) point.place ≡ s.running.block
      here = ap (λ (g : Graph). block_in g point.place) same ∙ block_there s.running.graph.blocks point.place s.running.block together.first.at.block

      there : t.running.block ≡ pack_block (fresh_after s.running.graph.bits) s.running.block
      there = some_same t.running.block (pack_block (fresh_after s.running.graph.bits) s.running.block) (sym together.second.at.block ∙ ap (λ (g : Graph). slice_get g.blocks point.place) other
          ∙ slice_get-map (pack_block (fresh_after s.running.graph.bits)) s.running.graph.blocks point.place ∙ ap (option_map (pack_block (fresh_after s.running.graph.bits))) together.first.at.block)

      found : graph_at p.graphs point.entry ≡ Some (graph_of p point.entry)
      found = together.first.at.graph ∙ ap Some (sym same)

      placed : Contains (graph_of p point.entry).blocks (block_in (graph_of p point.entry) point.place)
      placed = subst (λ (g : Graph). Contains g.blocks (block_in (graph_of p point.entry) point.place)) (sym same)
          (subst (Contains s.running.graph.blocks) (sym here) (contained s.running.graph.blocks point.place s.running.block together.first.at.block))

      m : Meets p sum_of point s.running.values t.running.values
      m = together.holds

      left : List Stmt
      left = after_calls point.calls (stmts_at p sum_of point)

      first_rest : s.running.rest ≡ left
      first_rest = together.first.at.rest ∙ ap (λ (b : Block). after_calls point.calls b.stmts) (sym here)

      second_rest : t.running.rest ≡ map (taking_part m.temporary m.two) m.pending ++ flat_map (pack_stmt fresh) left
      second_rest = together.second.at.rest
          ∙ ap (λ (b : Block). after_calls point.calls b.stmts) there
          ∙ ap₂ (λ (g : Graph) (b : Block). after_calls point.calls (flat_map (pack_stmt (fresh_after g.bits)) b.stmts)) (sym same) (sym here)
          ∙ m.rest

      u : State
      u = revalued (taken m.temporary m.two t.running.values m.pending) t

      meets : Meet (pass p sum_of) a point 0 (halt_of s) (halt_of t)
      meets =
          subst (λ rest. Meet (pass p sum_of) a point 0 (local_run rest s) (halt_of t)) (sym first_rest)
          (subst (λ rest. Meet (pass p sum_of) a point 0 (local_run left s) (local_run rest t)) (sym second_rest)
          (subst (Meet (pass p sum_of) a point 0 (local_run left s)) (sym (pending-run m.temporary m.two m.pending (flat_map (pack_stmt fresh) left) t together.second.running))
          (block-meets p sum_of formed just a point found placed left s u (record {
            graph = sym same;
            other = other ∙ ap pack_graph (sym same);
            here = sym here;
            there = ap (λ (b : Block). b.exit) there ∙ ap (λ (b : Block). pack_exit b.exit) (sym here);
            fine = past_calls (Fine p sum_of formed just a point found placed) point.calls (stmts_at p sum_of point) (all_fine p sum_of formed just a point found placed);
            follows = refl;
            next = ap after_call m.rest ∙ pending-call m.temporary m.two m.pending (flat_map (pack_stmt fresh) left);
          }) (record {
            values = m.values;
            outside = record { memory = together.outside.memory; input = together.outside.input; events = together.outside.events; base = together.outside.base };
            end = is_running t.end together.second.running ∙ sym (is_running s.end together.first.running);
            bits = ap (λ (g : Graph). g.bits) same;
            entry = ap (λ (g : Graph). g.entry) other;
          }))))

  -- The graphs begin alike.
  begins : (entry : ℕ) (old : Graph) → graph_at p.graphs entry ≡ Some old → OwesBegin (pass p sum_of) entry old (pack_graph old)
  begins entry old found = record {
    begin = λ fill base a a' s t small fit fit' enters outside opened opened'. record {
      memory = (both_open fill base a a' s t fit enters outside.memory outside.base opened opened' (Half Ax Low) refl).memory;
      holds = record {
        temporary = 0;
        two = false;
        pending = [];
        rest = refl;
        values = λ l is. (both_open fill base a a' s t fit enters outside.memory outside.base opened opened' l (subst (λ (g : Graph). is_location g.bits l ≡ true) (graph_is entry old found) is)).value;
      };
    };
  }
    where
      takes : TakesJust (sum_of entry) old
      takes = takes_just p sum_of formed just entry old found

      ls : List Loc
      ls = (sum_of entry).params

      as_many : (a : List ℕ) (words : List ℕ) (v : Values) → length a ≡ length old.params → a ≡ words ++ map v ls → length words ≡ length takes.words
      as_many a words v len is =
          let whole : length (words ++ map v ls) ≡ length (takes.words ++ map param_of ls) = sym (ap length is) ∙ len ∙ ap length takes.params in
          let one : length words + length ls ≡ length (words ++ map v ls) = ap (λ n. length words + n) (sym (length-map ls v)) ∙ sym (length-append words (map v ls)) in
          let other : length (takes.words ++ map param_of ls) ≡ length takes.words + length ls = length-append takes.words (map param_of ls) ∙ ap (λ n. length takes.words + n) (length-map ls param_of) in
          omega (arith, one, whole, other)

      both_open : (fill base : ℕ) (a a' : List ℕ) (s t : State) → FitIn (param_widths old) a → Enters ls a a' → t.memory ≡ s.memory → t.running.base ≡ s.running.base → s.running ≡ activation old (filled old.bits fill) base
          → t.running ≡ activation (pack_graph old) (filled (pack_graph old).bits fill) base → (l : Loc) → is_location old.bits l ≡ true → OpenAt l (passing 0 old.params a s) (passing 0 (pack_graph old).params a' t)
      both_open fill base a a' s t fit enters memory same_base opened opened' l is =
          let len = as_many a enters.words enters.values (fit_length (param_widths old) a fit ∙ length-map old.params (λ (q : Param). put_width old.bits q.put)) enters.apart in
          let fits = subst (λ (ps : List Param). FitIn (map (λ (q : Param). put_width old.bits q.put) ps) (enters.words ++ map enters.values ls)) takes.params (subst (FitIn (param_widths old)) enters.apart fit) in
          let o : OpenAt l s t = record {
            value = ap (λ (x : Activation). x.values l) opened' ∙ ap (λ width. fill_at width fill) (width_more old.bits (16 ∷ 32 ∷ []) l is) ∙ sym (ap (λ (x : Activation). x.values l) opened);
            memory = memory;
            base = same_base;
          } in
          let new_params : (pack_graph old).params ≡ takes.words ++ map param_with (puts ls) = ap (merged one_param) takes.params ∙ params-packed takes.words ls takes.stack in
          subst (λ ps. OpenAt l (passing 0 ps a s) (passing 0 (pack_graph old).params a' t)) (sym takes.params)
          (subst (λ ns. OpenAt l (passing 0 (takes.words ++ map param_of ls) ns s) (passing 0 (pack_graph old).params a' t)) (sym enters.apart)
          (subst (λ ps. OpenAt l (passing 0 (takes.words ++ map param_of ls) (enters.words ++ map enters.values ls) s) (passing 0 ps a' t)) (sym new_params)
          (subst (λ ns. OpenAt l (passing 0 (takes.words ++ map param_of ls) (enters.words ++ map enters.values ls) s) (passing 0 (takes.words ++ map param_with (puts ls)) ns t)) (sym enters.together)
          (taken_together l old.bits takes.words ls takes.stack enters.words enters.values s t len (fit_locations old.bits enters.values takes.words ls enters.words len fits) o))))

  stay : (old new : Graph) → new ≡ pack_graph old → BlocksStay old new (λ n. n)
  stay old new same = subst (λ x. BlocksStay old x (λ n. n)) (sym same) (record { first = refl; stays = λ n b there. here n b there (slice_get old.blocks n) refl })
    where
      turn : Block → Block
      turn = pack_block (fresh_after old.bits)

      here : (n : ℕ) (new : Block) → slice_get (pack_graph old).blocks n ≡ Some new → (o : Option Block) → slice_get old.blocks n ≡ o →
          (b : Block) × (slice_get old.blocks n ≡ Some b) × (b.at ≡ new.at)
      here n new there (Some b) e =
          let is = sym (ap (option_map turn) e) ∙ sym (slice_get-map turn old.blocks n) ∙ there in
          (b, e, ap (λ (x : Block). x.at) (some_same (turn b) new is))
      here n new there None e =
          let is : None ≡ Some new = sym (ap (option_map turn) e) ∙ sym (slice_get-map turn old.blocks n) ∙ there in
          absurd (cc)

  -- the first graph takes nothing
  starts : (g : Graph) → Contains (take 1 p.graphs) g → Enters (sum_of g.entry).params [] []
  starts g c =
      let params = All-contains (λ (x : Graph). x.params ≡ []) (take 1 p.graphs) g formed.start c in
      let takes = All-contains (λ (x : Graph). TakesJust (sum_of x.entry) x) p.graphs g just.graphs (first_known p.graphs g c) in
      subst (λ ls. Enters ls [] []) (sym (none takes.words (sum_of g.entry).params (sym takes.params ∙ params))) (record { words = []; values = λ l. 0; apart = refl; together = refl })
    where
      first_known : (graphs : List Graph) (g : Graph) → Contains (take 1 graphs) g → Contains graphs g
      first_known [] g c = c
      first_known (x ∷ graphs) g c = Contains-cases x [] g (Contains (x ∷ graphs) g) (λ e. subst (Contains (x ∷ graphs)) e (Contains-here x graphs)) (λ d. absurd (Contains-none g d)) c

      none : (ws : List Param) (ls : List Loc) → ws ++ map param_of ls ≡ [] → ls ≡ []
      none [] [] e = refl
      none [] (l ∷ ls) e = absurd (cc)
      none (w ∷ ws) ls e = absurd (cc)

  pub runs_kept : IsProgram (packed p) → KeepsRuns p (packed p)
  runs_kept formed' = keeps_runs p (packed p) (pass p sum_of) (record {
    before = formed;
    after = formed';
    image = refl;
    lo = refl;
    hi = refl;
    entries = same_entries pack_graph p.graphs (λ g c. refl);
    blocks = λ entry old new found found'. stay old new (there_is entry old new found found');
    begin = λ entry old new found found'. subst (OwesBegin (pass p sum_of) entry old) (sym (there_is entry old new found found')) (begins entry old found);
    go = goes;
    start = all_had (λ (g : Graph). Enters (sum_of g.entry).params [] []) (take 1 p.graphs) starts;
  })
