-- The theorem on passes: where a pass meets what it owes, the runs of the second program visit its blocks as those of
-- the first one do, and end alike.
use Rattle.std.proofs.Common.{◌≡◌, ℕ, zero, suc, ◌+◌, ◌%◌, ◌<◌, Bool, true, false, cond, List, [], ◌∷◌, length, Some, None, refl, sym, ap, ap₂, ◌∙◌, subst, map, take, slice_get, eq-eqb, arith}
use Rattle.std.specs.Prelude.{◌==◌, All, get_or}
use Rattle.std.specs.List.{list_any}
use Rattle.std.proofs.lemmas.Option.{slice_get-get_or}
use Rattle.std.proofs.lemmas.List.Elements.{All-head, All-contains}
use Rattle.std.proofs.Math.Dec.{eqb-suc-zero}
use Rattle.dcc_run.specs.End.{Running, Stuck, is_over}
use Rattle.dcc_run.specs.ProgramPoint.{ProgramPoint}
use Rattle.dcc_run.specs.System.{after}
use Rattle.dcc_run.specs.Watched.{Watched, IsQuiet, IsQuietUntil}
use Rattle.dcc_run.specs.Shadows.{ComesTo, still_related, both_over, first_foul, Matches, kept_mark, only}
use Rattle.dcc_run.proofs.RunLaws.{after-add}
use Rattle.dcc_run.proofs.KeptLaws.{only_watchable}
use Rattle.dcc_run.proofs.MatchLaws.{visits_kept_from_matches}
use Rattle.dcc_ir.specs.Tree.{Stmt, Block, Graph, Program}
use Rattle.dcc_ir.specs.Location.{location_width, filled}
use Rattle.dcc_ir.specs.WellFormed.{put_width, all_ret_widths, IsProgram}
use Rattle.dcc_ir.specs.Run.{State, Waiting, Activation, activation, no_block, entering, going_to, passing, callee_base, calling, graph_at, giving, returning, step, no_graph, first_memory, first_state, block_mark, watched_inner}
use Rattle.dcc_ir.specs.Flow.{flow_at, graph_or_none}
use Rattle.dcc_ir.specs.Keeps.{has_block, KeepsRuns}
use Rattle.dcc_ir.specs.Local.{Point, next_of, Request, Halt, Over, Calls, Jumps, Returns, after_call, after_calls, halt_of, led_to}
use Rattle.dcc_ir.specs.Passes.{Pass, point_before, with_values, FitIn, param_widths, IsAt, AgreeOutside, CallAlike, Meet, GoesOn, IsPass}
use Rattle.dcc_ir.proofs.RunLaws.{inner_watchable}
use Rattle.dcc_ir.proofs.GraphLaws.{any_at, found_entry}
use Rattle.dcc_ir.proofs.PassLaws.{passing_nothing}
use Rattle.dcc_ir.proofs.ReachedLaws.{found_contained, AreCallers, IsGood, graph_of, within-of, step-good, first-good, good-fits}
use Rattle.dcc_ir.proofs.passes.LocalLaws.{Frame, frame_of, Left, CallFits, ReturnFits, Leaves, local-leaves, step-leads}
use Rattle.dcc_ir.proofs.passes.CallLaws.{holding, giving-is, passing-is}

-- The first run through dropped blocks.

-- the run stands at a point, and goes on
pub record IsHere (p : Program) (point : Point) (s : State) : Type 0 where
  pub at : IsAt p point s.running
  pub running : is_over s.end ≡ false
  pub good : IsGood p s

-- the last state before a run halts in a way that meets the second one
pub record Comes (p : Program) (n : ℕ) (Kind : Halt → Type 0) (from : Point) (s last : State) : Type 0 where
  pub at : Point
  pub here : IsHere p at last
  pub entry : at.entry ≡ from.entry
  pub graph : last.running.graph ≡ s.running.graph
  pub base : last.running.base ≡ s.running.base
  pub waiting : last.waiting ≡ s.waiting
  pub kind : Kind (halt_of last)
  pub direct : n ≡ 0 → at ≡ from

module _ (p q : Program) (is : IsProgram p) (fill : ℕ) where
  abbrev first : Watched State ProgramPoint
  first = only (has_block q) (watched_inner p fill)

  leaves_at : (point : Point) (s : State) → IsHere p point s → Leaves p (after_call s.running.rest) (frame_of s) (halt_of s)
  leaves_at point s here = local-leaves p is s.running.rest s here.running (within-of p is s (here.good.active here.running) here.good.safe) here.good.safe.fit

  record Passed (n : ℕ) (Kind : Halt → Type 0) (from : Point) (s : State) : Type 0 where
    comes : Comes p n Kind from s (after (step p fill) n s)
    quiet : IsQuietUntil first (suc n) s

  -- a quiet state before a quiet stretch makes a longer one
  longer : (n : ℕ) (s there : State) → step p fill s ≡ there → IsQuietUntil first (suc n) there → IsQuiet first there → IsQuietUntil first (suc (suc n)) s
  longer n s there leads quiet hidden zero some less = absurd (omega (arith, some))
  longer n s there leads quiet hidden (suc zero) some less = subst (IsQuiet first) (sym leads) hidden
  longer n s there leads quiet hidden (suc (suc k)) some less =
      let positive : 0 < suc k = omega arith in
      let inside : suc k < suc n = omega (arith, less) in
      subst (λ x. IsQuiet first (after (step p fill) (suc k) x)) (sym leads) (quiet (suc k) positive inside)

  past : (n : ℕ) (Kind : Halt → Type 0) (from : Point) (s : State) → IsHere p from s → GoesOn (flow_at q from.entry) n Kind (halt_of s) → Passed n Kind from s
  past zero Kind from s here goes = record {
    comes = record { at = from; here = here; entry = refl; graph = refl; base = refl; waiting = refl; kind = goes; direct = λ _. refl };
    quiet = λ k some less. absurd (omega (arith, some, less));
  }
  past (suc n) Kind from s here goes = go (halt_of s) refl (leaves_at from s here) goes (past n Kind)
    where
      go : (h : Halt) → halt_of s ≡ h → Leaves p (after_call s.running.rest) (frame_of s) h → GoesOn (flow_at q from.entry) (suc n) Kind h →
          ((from' : Point) (s' : State) → IsHere p from' s' → GoesOn (flow_at q from'.entry) n Kind (halt_of s') → Passed n Kind from' s') → Passed (suc n) Kind from s
      go (Over u) e leaves never later = absurd never
      go (Calls call u) e leaves never later = absurd never
      go (Returns r u) e leaves never later = absurd never
      go (Jumps place u) e leaves goes later =
          let block = goes.0 in
          let there : State = entering (Some block) u in
          let leads : step p fill s ≡ there = step-leads p fill s here.running ∙ ap (led_to p.graphs fill) e ∙ ap (λ o. entering o u) goes.1 in
          let same = leaves.0.same in
          let known : graph_at p.graphs from.entry ≡ Some u.running.graph = here.at.graph ∙ ap (λ (f : Frame). Some f.graph) (sym same) in
          let next = later (record { entry = from.entry; place = place; calls = 0 }) there (record {
            at = record { graph = known; block = goes.1; rest = refl; begins = refl };
            running = leaves.0.running;
            good = subst (IsGood p) leads (step-good p is fill s here.good);
          }) goes.3 in
          let hidden : IsQuiet first there = record {
            unmarked =
                ap (λ b. cond b (Some (record { entry = u.running.graph.entry; at = block.at })) None)
                (ap (λ entry. (flow_at q entry).has block.at) (found_entry p.graphs from.entry u.running.graph known) ∙ goes.2);
            running = leaves.0.running;
            clean = refl;
          } in
          record {
            comes = subst (λ x. Comes p (suc n) Kind from s (after (step p fill) n x)) (sym leads) (record {
              at = next.comes.at;
              here = next.comes.here;
              entry = next.comes.entry;
              graph = next.comes.graph ∙ ap (λ (f : Frame). f.graph) same;
              base = next.comes.base ∙ ap (λ (f : Frame). f.base) same;
              waiting = next.comes.waiting ∙ ap (λ (f : Frame). f.waiting) same;
              kind = next.comes.kind;
              direct = λ none. absurd (omega (arith, none));
            });
            quiet = longer n s there leads next.quiet hidden;
          }

-- Two runs.

-- A caller waits in each run for a graph that took these arguments: whatever may be given back makes the values fit.
pub record Awaits (p q : Program) (pass : Pass) (callee : ℕ) (taken : List ℕ) (w v : Waiting) : Type 0 where
  pub arguments : List ℕ
  pub point : Point
  pub first : IsAt p (point_before pass point) w.caller
  pub second : IsAt q point v.caller
  pub base : v.caller.base ≡ w.caller.base
  pub arguments_fit : FitIn (param_widths w.caller.graph) arguments
  pub resumes : (r r' : List ℕ) → FitIn (map (location_width w.caller.graph.bits) w.results) r → FitIn (map (location_width v.caller.graph.bits) v.results) r' →
      pass.Leave callee taken r r' → pass.Inv arguments point (with_values w.caller.values w.results r) (with_values v.caller.values v.results r')

abbrev pub AllAwait : Program → Program → Pass → ℕ → List ℕ → List Waiting → List Waiting → Type 0
AllAwait p q pass callee taken [] [] = Unit {0}
AllAwait p q pass callee taken (w ∷ ws) (v ∷ vs) = (x : Awaits p q pass callee taken w v) × AllAwait p q pass x.point.entry x.arguments ws vs
AllAwait p q pass callee taken _ _ = ⊥

-- how the runs' states stand to each other
pub record Related (p q : Program) (pass : Pass) (s t : State) : Type 0 where
  pub arguments : List ℕ
  pub point : Point
  pub first : IsAt p (point_before pass point) s.running
  pub second : IsAt q point t.running
  pub running : is_over s.end ≡ false
  pub other_running : is_over t.end ≡ false
  pub outside : AgreeOutside s t
  pub arguments_fit : FitIn (param_widths s.running.graph) arguments
  pub holds : pass.Inv arguments point s.running.values t.running.values
  pub waiting : AllAwait p q pass point.entry arguments s.waiting t.waiting

-- the relation: besides, each run is where a well-formed program's may be
pub record AreMatching (p q : Program) (pass : Pass) (s t : State) : Type 0 where
  pub related : Related p q pass s t
  pub good : IsGood p s
  pub other_good : IsGood q t

-- both runs halt in graphs with that entry, the first one's with these arguments
pub record Halted (p q : Program) (pass : Pass) (arguments : List ℕ) (entry : ℕ) (s t : State) : Type 0 where
  pub first : graph_at p.graphs entry ≡ Some s.running.graph
  pub second : graph_at q.graphs entry ≡ Some t.running.graph
  pub running : is_over s.end ≡ false
  pub other_running : is_over t.end ≡ false
  pub outside : AgreeOutside s t
  pub arguments_fit : FitIn (param_widths s.running.graph) arguments
  pub waiting : AllAwait p q pass entry arguments s.waiting t.waiting

-- a caller that waits stands after its call
waits_at : (p : Program) (point : Point) (s u : State) → IsAt p point s.running → frame_of u ≡ record (frame_of s) { rest = after_call s.running.rest; begins = false } →
    IsAt p (next_of point) u.running
waits_at p point s u at same =
    let moved : (graph_at p.graphs point.entry ≡ Some u.running.graph) × (slice_get u.running.graph.blocks point.place ≡ Some u.running.block) ×
    (u.running.rest ≡ after_calls (suc point.calls) u.running.block.stmts) × (u.running.begins ≡ false) =
    subst (λ (f : Frame). (graph_at p.graphs point.entry ≡ Some f.graph) × (slice_get f.graph.blocks point.place ≡ Some f.block) × (f.rest ≡ after_calls (suc point.calls) f.block.stmts) ×
    (f.begins ≡ false))
    (sym same) (at.graph, at.block, ap after_call at.rest, refl) in
    record { graph = moved.0; block = moved.1; rest = moved.2; begins = moved.3 ∙ sym (eqb-suc-zero point.calls) }

-- the first of some graphs
first_named : (graphs : List Graph) → 0 < length graphs → graph_at graphs (get_or graphs 0 no_graph).entry ≡ Some (get_or graphs 0 no_graph)
first_named [] some = absurd (omega (arith, some))
first_named (g ∷ graphs) some = ap (λ b. cond b (Some g) (graph_at graphs g.entry)) (eq-eqb g.entry g.entry refl)

first_entry : (graphs : List Graph) → 0 < length graphs → get_or (map (λ g. g.entry) graphs) 0 0 ≡ (get_or graphs 0 no_graph).entry
first_entry [] some = absurd (omega (arith, some))
first_entry (g ∷ graphs) some = refl

first_all : (P : Graph → Type 0) (graphs : List Graph) → 0 < length graphs → All P (take 1 graphs) → P (get_or graphs 0 no_graph)
first_all P [] some all = absurd (omega (arith, some))
first_all P (g ∷ graphs) some all = All-head P g [] all

module _ (p q : Program) (pass : Pass) (is : IsPass p q pass) (fill : ℕ) (small : fill < 65536) where
  abbrev second : Watched State ProgramPoint
  second = watched_inner q fill

  -- The runs go to one block.
  both_go : (arguments : List ℕ) (entry place : ℕ) (s t : State) → Halted p q pass arguments entry s t → place < length t.running.graph.blocks →
      pass.Inv arguments (record { entry = entry; place = place; calls = 0 }) s.running.values t.running.values → Related p q pass (going_to (pass.place entry place) s) (going_to place t)
  both_go arguments entry place s t h inside holds =
      let new : Block = get_or t.running.graph.blocks place no_block in
      let found : slice_get t.running.graph.blocks place ≡ Some new = slice_get-get_or t.running.graph.blocks place no_block inside in
      let old = (is.blocks entry s.running.graph t.running.graph h.first h.second).stays place new found in
      subst (λ o. Related p q pass (entering o s) (going_to place t)) (sym old.1)
      (subst (λ o. Related p q pass (entering (Some old.0) s) (entering o t)) (sym found) (record {
        arguments = arguments;
        point = record { entry = entry; place = place; calls = 0 };
        first = record { graph = h.first; block = old.1; rest = refl; begins = refl };
        second = record { graph = h.second; block = found; rest = refl; begins = refl };
        running = h.running;
        other_running = h.other_running;
        outside = record { memory = h.outside.memory; input = h.outside.input; events = h.outside.events; base = h.outside.base };
        arguments_fit = h.arguments_fit;
        holds = holds;
        waiting = h.waiting;
      }))

  -- Values are given back to callers that wait.
  both_return : (entry : ℕ) (taken r r' : List ℕ) (s t : State) → Halted p q pass taken entry s t → pass.Leave entry taken r r' → ReturnFits s.running.graph r → ReturnFits t.running.graph r' →
      (ws vs : List Waiting) → AreCallers p s.running.graph ws → AreCallers q t.running.graph vs → AllAwait p q pass entry taken ws vs → ComesTo (first p q is.before fill) second
      (Related p q pass) (returning r ws s) (returning r' vs t)
  both_return entry taken r r' s t h leaves fit other_fit [] [] callers other_callers awaits =
      both_over refl (ap Stuck (found_entry q.graphs entry t.running.graph h.second ∙ sym (found_entry p.graphs entry s.running.graph h.first))) h.outside.events
  both_return entry taken r r' s t h leaves fit other_fit [] (v ∷ vs) callers other_callers awaits = absurd awaits
  both_return entry taken r r' s t h leaves fit other_fit (w ∷ ws) [] callers other_callers awaits = absurd awaits
  both_return entry taken r r' s t h leaves fit other_fit (w ∷ ws) (v ∷ vs) callers other_callers awaits =
      let x = awaits.0 in
      let back : State = record s { running = w.caller; waiting = ws } in
      let other_back : State = record t { running = v.caller; waiting = vs } in
      let goes : FitIn (map (location_width w.caller.graph.bits) w.results) r =
      subst (λ widths. FitIn widths r) (All-contains (λ widths. widths ≡ map (location_width w.caller.graph.bits) w.results)
      (all_ret_widths s.running.graph) fit.widths callers.0.results fit.given) fit.fit in
      let other_goes : FitIn (map (location_width v.caller.graph.bits) v.results) r' =
      subst (λ widths. FitIn widths r') (All-contains (λ widths. widths ≡ map (location_width v.caller.graph.bits) v.results)
      (all_ret_widths t.running.graph) other_fit.widths other_callers.0.results other_fit.given) other_fit.fit in
      still_related (subst (λ u. Related p q pass u (giving v.results r' other_back)) (sym (giving-is w.results r back))
      (subst (λ u. Related p q pass (holding (with_values w.caller.values w.results r) s.memory back) u) (sym (giving-is v.results r' other_back)) (record {
        arguments = x.arguments;
        point = x.point;
        first = record { graph = x.first.graph; block = x.first.block; rest = x.first.rest; begins = x.first.begins };
        second = record { graph = x.second.graph; block = x.second.block; rest = x.second.rest; begins = x.second.begins };
        running = h.running;
        other_running = h.other_running;
        outside = record { memory = h.outside.memory; input = h.outside.input; events = h.outside.events; base = x.base };
        arguments_fit = x.arguments_fit;
        holds = x.resumes r r' goes other_goes leaves;
        waiting = awaits.1;
      })))

  -- the activation of a graph is opened, with arguments that may enter it
  record Opens (entry : ℕ) (a a' : List ℕ) (g g' : Graph) (s t : State) : Type 0 where
    named : graph_at p.graphs entry ≡ Some g
    other_named : graph_at q.graphs entry ≡ Some g'
    fit : FitIn (param_widths g) a
    other_fit : FitIn (param_widths g') a'
    enters : pass.Enter entry a a'
    opened : s.running ≡ activation g (filled g.bits fill) s.running.base
    other_opened : t.running ≡ activation g' (filled g'.bits fill) s.running.base
    running : is_over s.end ≡ false
    other_running : is_over t.end ≡ false
    outside : AgreeOutside s t
    waiting : AllAwait p q pass entry a s.waiting t.waiting

  -- Both begin.
  both_begin : (entry : ℕ) (a a' : List ℕ) (g g' : Graph) (s t : State) → Opens entry a a' g g' s t → Related p q pass (going_to 0 (passing 0 g.params a s)) (going_to 0 (passing 0 g'.params a' t))
  both_begin entry a a' g g' s t o =
      let begun = (is.begin entry g g' o.named o.other_named).begin fill s.running.base a a' s t small o.fit o.other_fit o.enters o.outside o.opened o.other_opened in
      let same : s.running.graph ≡ g = ap (λ (b : Activation). b.graph) o.opened in
      let other_same : t.running.graph ≡ g' = ap (λ (b : Activation). b.graph) o.other_opened in
      let inside : 0 < length g'.blocks = (graph_of q is.after g' (found_contained (λ h. h.entry == entry) q.graphs g' o.other_named)).begins in
      subst (λ k. Related p q pass (going_to k (passing 0 g.params a s)) (going_to 0 (passing 0 g'.params a' t))) (is.blocks entry g g' o.named o.other_named).first
      (subst (λ u. Related p q pass (going_to (pass.place entry 0) u) (going_to 0 (passing 0 g'.params a' t))) (sym (passing-is 0 g.params a s))
      (subst (λ u. Related p q pass (going_to (pass.place entry 0) (holding (passing 0 g.params a s).running.values (passing 0 g.params a s).memory s)) (going_to 0 u))
      (sym (passing-is 0 g'.params a' t))
      (both_go a entry 0 (holding (passing 0 g.params a s).running.values (passing 0 g.params a s).memory s)
      (holding (passing 0 g'.params a' t).running.values (passing 0 g'.params a' t).memory t) (record {
        first = o.named ∙ ap Some (sym same);
        second = o.other_named ∙ ap Some (sym other_same);
        running = o.running;
        other_running = o.other_running;
        outside = record { memory = begun.memory; input = o.outside.input; events = o.outside.events; base = o.outside.base };
        arguments_fit = subst (λ (h : Graph). FitIn (param_widths h) a) (sym same) o.fit;
        waiting = o.waiting;
      }) (subst (λ (h : Graph). 0 < length h.blocks) (sym other_same) inside) begun.holds)))

  -- Both call.
  both_call : (a : List ℕ) (point : Point) (n : ℕ) (call : Request) (s : State) (other : Request) (t : State) → Halted p q pass a point.entry s t →
      IsAt p (next_of (point_before pass point)) s.running → IsAt q (next_of point) t.running →
      CallFits p call → CallFits q other → CallAlike pass a point n call s other t →
      Related p q pass (led_to p.graphs fill (Calls call s)) (led_to q.graphs fill (Calls other t))
  both_call a point n call s other t h at other_at fits other_fits alike =
      let g = fits.callee in
      let g' = other_fits.callee in
      let named : graph_at p.graphs call.entry ≡ Some g = fits.named in
      let other_there : graph_at q.graphs other.entry ≡ Some g' = other_fits.named in
      let other_named : graph_at q.graphs call.entry ≡ Some g' = ap (graph_at q.graphs) (sym alike.entry) ∙ other_there in
      let called : State = record s {
        running = activation g (filled g.bits fill)
            (callee_base s.running.base call.depth);
        waiting = record { caller = s.running; results = call.results } ∷ s.waiting;
      } in
      let other_called : State = record t {
        running = activation g' (filled g'.bits fill)
            (callee_base t.running.base other.depth);
        waiting = record { caller = t.running; results = other.results } ∷ t.waiting;
      } in
      let same_base : callee_base t.running.base other.depth ≡ callee_base s.running.base call.depth = ap₂ callee_base h.outside.base alike.depth in
      subst (λ o. Related p q pass (calling fill call.results call.depth call.arguments o s) (led_to q.graphs fill (Calls other t))) (sym named)
      (subst (λ o. Related p q pass (calling fill call.results call.depth call.arguments (Some g) s) (calling fill other.results other.depth other.arguments o t)) (sym other_there)
      (both_begin call.entry call.arguments other.arguments g g' called other_called (record {
        named = named;
        other_named = other_named;
        fit = fits.arguments;
        other_fit = other_fits.arguments;
        enters = alike.enters;
        opened = refl;
        other_opened = ap (activation g' (filled g'.bits fill)) same_base;
        running = h.running;
        other_running = h.other_running;
        outside = record { memory = h.outside.memory; input = h.outside.input; events = h.outside.events; base = same_base };
        waiting = (
          record {
            arguments = a;
            point = next_of point;
            first = at;
            second = other_at;
            base = h.outside.base;
            arguments_fit = h.arguments_fit;
            resumes = alike.resumes;
          },
          h.waiting,
        );
      })))

  -- both local runs halt alike, where the first went through dropped blocks
  halted : {Kind : Halt → Type 0} (a : List ℕ) (point : Point) (n : ℕ) (s t last : State) → IsAt q point t.running → FitIn (param_widths s.running.graph) a →
      AllAwait p q pass point.entry a s.waiting t.waiting → Comes p n Kind (point_before pass point) s last →
      (rest other_rest : List Stmt) (begins other_begins : Bool) (u u' : State) → Left (record (frame_of last) { rest = rest; begins = begins }) u →
      Left (record (frame_of t) { rest = other_rest; begins = other_begins }) u' → AgreeOutside u u' →
      Halted p q pass a point.entry u u'
  halted a point n s t last at arguments_fit awaits comes rest other_rest begins other_begins u u' left other_left outside =
      let graph : u.running.graph ≡ last.running.graph = ap (λ (f : Frame). f.graph) left.same in
      let other_graph : u'.running.graph ≡ t.running.graph = ap (λ (f : Frame). f.graph) other_left.same in
      let waiting : u.waiting ≡ s.waiting = ap (λ (f : Frame). f.waiting) left.same ∙ comes.waiting in
      let other_waiting : u'.waiting ≡ t.waiting = ap (λ (f : Frame). f.waiting) other_left.same in
      record {
        first = ap (graph_at p.graphs) (sym comes.entry) ∙ comes.here.at.graph ∙ ap Some (sym graph);
        second = at.graph ∙ ap Some (sym other_graph);
        running = left.running;
        other_running = other_left.running;
        outside = outside;
        arguments_fit = subst (λ (g : Graph). FitIn (param_widths g) a) (sym (graph ∙ comes.graph)) arguments_fit;
        waiting = subst (λ ws. AllAwait p q pass point.entry a ws u'.waiting) (sym waiting) (subst (AllAwait p q pass point.entry a s.waiting) (sym other_waiting) awaits);
      }

  -- From where both halt they go on to related states, or have ended alike.
  both_halt : {Kind : Halt → Type 0} (a : List ℕ) (point : Point) (n : ℕ) (s t last : State) → IsAt q point t.running → FitIn (param_widths s.running.graph) a →
      AllAwait p q pass point.entry a s.waiting t.waiting → Comes p n Kind (point_before pass point) s last → AreCallers q t.running.graph t.waiting →
      (h h' : Halt) → Leaves p (after_call last.running.rest) (frame_of last) h → Leaves q (after_call t.running.rest) (frame_of t) h' → Meet pass a point n h h' →
      ComesTo (first p q is.before fill) second (Related p q pass) (led_to p.graphs fill h) (led_to q.graphs fill h')
  both_halt a point n s t last at arguments_fit awaits comes other_callers (Over u) (Over u') left other_left meet = both_over left meet.end meet.events
  both_halt a point n s t last at arguments_fit awaits comes other_callers (Calls call u) (Calls other u') left other_left meet =
      let h = halted a point n s t last at arguments_fit awaits comes (after_call last.running.rest) (after_call t.running.rest) false false u u' left.0 other_left.0 meet.outside in
      let waits = subst (λ x. IsAt p (next_of x) u.running) (comes.direct meet.at_once) (waits_at p comes.at last u comes.here.at left.0.same) in
      still_related (both_call a point n call u other u' h waits (waits_at q point t u' at other_left.0.same) left.1 other_left.1 meet)
  both_halt a point n s t last at arguments_fit awaits comes other_callers (Jumps place u) (Jumps other u') left other_left meet =
      let h = halted a point n s t last at arguments_fit awaits comes last.running.rest t.running.rest last.running.begins t.running.begins u u' left.0 other_left.0 meet.outside in
      still_related (subst (λ k. Related p q pass (going_to k u) (going_to other u')) (sym meet.stands) (both_go a point.entry other u u' h other_left.1 meet.holds))
  both_halt a point n s t last at arguments_fit awaits comes other_callers (Returns r u) (Returns r' u') left other_left meet =
      let h = halted a point n s t last at arguments_fit awaits comes last.running.rest t.running.rest last.running.begins t.running.begins u u' left.0 other_left.0 meet.outside in
      let callers = subst (λ (f : Frame). AreCallers p f.graph f.waiting) (sym left.0.same) comes.here.good.safe.callers in
      let others = subst (λ (f : Frame). AreCallers q f.graph f.waiting) (sym other_left.0.same) other_callers in
      both_return point.entry a r r' u u' h meet.leaves left.1 other_left.1 u.waiting u'.waiting callers others h.waiting
  both_halt a point n s t last at arguments_fit awaits comes other_callers _ _ left other_left meet = absurd meet

  -- the states are marked alike
  kept_alike : (point : Point) (s t : State) → IsAt p (point_before pass point) s.running → IsAt q point t.running → block_mark t ≡ kept_mark (has_block q) (block_mark s)
  kept_alike point s t at other_at =
      let entries : s.running.graph.entry ≡ t.running.graph.entry = found_entry p.graphs point.entry s.running.graph at.graph ∙ sym (found_entry q.graphs point.entry t.running.graph other_at.graph) in
      let old = (is.blocks point.entry s.running.graph t.running.graph at.graph other_at.graph).stays point.place t.running.block other_at.block in
      let same : old.0 ≡ s.running.block = cc (old.1, at.block) in
      let ats : s.running.block.at ≡ t.running.block.at = ap (λ (b : Block). b.at) (sym same) ∙ old.2 in
      let has : has_block q (place_of t) ≡ true =
      ap (λ o. list_any (λ b. b.at == t.running.block.at) (graph_or_none o).blocks) (ap (graph_at q.graphs) (found_entry q.graphs point.entry t.running.graph other_at.graph) ∙ other_at.graph)
      ∙ any_at (λ b. b.at == t.running.block.at) t.running.graph.blocks point.place t.running.block other_at.block (eq-eqb t.running.block.at t.running.block.at refl) in
      let places : place_of s ≡ place_of t = ap₂ (λ entry at. record { entry = entry; at = at }) entries ats in
      let kept : kept_mark (has_block q) (Some (place_of s)) ≡ Some (place_of t) = ap (λ x. kept_mark (has_block q) (Some x)) places ∙ ap (λ b. cond b (Some (place_of t)) None) has in
      ap (λ b. cond b (Some (place_of t)) None) (other_at.begins ∙ sym at.begins) ∙ both s.running.begins kept
    where
      place_of : State → ProgramPoint
      place_of u = record { entry = u.running.graph.entry; at = u.running.block.at }

      both : (b : Bool) → kept_mark (has_block q) (Some (place_of s)) ≡ Some (place_of t) → cond b (Some (place_of t)) None ≡ kept_mark (has_block q) (cond b (Some (place_of s)) None)
      both true kept = sym kept
      both false kept = refl

  -- related states are matching ones, where each run is where it may be
  matching : (s t : State) → IsGood p s → IsGood q t → ComesTo (first p q is.before fill) second (Related p q pass) s t → ComesTo (first p q is.before fill) second (AreMatching p q pass) s t
  matching s t good other_good (still_related r) = still_related (record { related = r; good = good; other_good = other_good })
  matching s t good other_good (both_over over end events) = both_over over end events
  matching s t good other_good (first_foul foul shown less) = first_foul foul shown less

  -- Both runs match.
  matches : Matches (first p q is.before fill) second (AreMatching p q pass)
  matches s t m =
      let r = m.related in
      let here : IsHere p (point_before pass r.point) s = record { at = r.first; running = r.running; good = m.good } in
      let there : IsHere q r.point t = record { at = r.second; running = r.other_running; good = m.other_good } in
      let goes = is.go r.arguments r.point s t (record {
        first = record { at = r.first; running = r.running; fits = good-fits p is.before s m.good };
        second = record { at = r.second; running = r.other_running; fits = good-fits q is.after t m.other_good };
        outside = r.outside;
        arguments_fit = r.arguments_fit;
        holds = r.holds;
      }) in
      let n = goes.0 in
      let passed = past p q is.before fill n (λ halt. Meet pass r.arguments r.point n halt (halt_of t)) (point_before pass r.point) s here goes.1 in
      let last : State = after (step p fill) n s in
      let comes = passed.comes in
      let one : suc n ≡ n + 1 = omega arith in
      let ends : after (step p fill) (suc n) s ≡ step p fill last = ap (λ k. after (step p fill) k s) one ∙ after-add (step p fill) n 1 s in
      let leads = step-leads p fill last comes.here.running in
      let other_leads = step-leads q fill t r.other_running in
      record {
        alike = record {
          mark = kept_alike r.point s t r.first r.second;
          events = r.outside.events;
          running = r.running;
          other_running = r.other_running;
          clean = refl;
        };
        steps = suc n;
        some = omega arith;
        other_steps = 1;
        others = omega arith;
        quiet = passed.quiet;
        other_quiet = λ k some less. absurd (omega (arith, some, less));
        comes =
            subst (λ u. ComesTo (first p q is.before fill) second (AreMatching p q pass) u (step q fill t)) (sym ends)
            (matching (step p fill last) (step q fill t) (step-good p is.before fill last comes.here.good) (step-good q is.after fill t m.other_good)
            (subst (λ u. ComesTo (first p q is.before fill) second (Related p q pass) u (step q fill t)) (sym leads)
            (subst (λ u. ComesTo (first p q is.before fill) second (Related p q pass) (led_to p.graphs fill (halt_of last)) u) (sym other_leads)
            (both_halt r.arguments r.point n s t last r.second r.arguments_fit r.waiting comes m.other_good.safe.callers (halt_of last) (halt_of t)
            (leaves_at p q is.before fill comes.at last comes.here) (leaves_at q q is.after fill r.point t there) comes.kind))));
      }

  -- The first states are related.
  abbrev first_of : Program → Graph
  first_of x = get_or x.graphs 0 no_graph

  opening : Program → List ℕ → State
  opening x input = record {
    running = activation (first_of x) (filled (first_of x).bits fill) ((x.hi + 2) % 65536);
    waiting = [];
    memory = first_memory x fill;
    input = input;
    events = [];
    end = Running;
  }

  same_memory : first_memory q fill ≡ first_memory p fill
  unfolding first_memory
  same_memory =
      ap (λ lo. first_memory (record q { lo = lo }) fill) is.lo
      ∙ ap (λ hi. first_memory (record q { lo = p.lo; hi = hi }) fill) is.hi
      ∙ ap (λ image. first_memory (record q { lo = p.lo; hi = p.hi; image = image }) fill) is.image

  opens : (input : List ℕ) → Opens (first_of p).entry [] [] (first_of p) (first_of q) (opening p input) (opening q input)
  unfolding opening
  opens input = record {
    named = first_named p.graphs is.before.begins;
    other_named = ap (graph_at q.graphs) (sym (first_entry p.graphs is.before.begins) ∙ sym (ap (λ l. get_or l 0 0) is.entries) ∙ first_entry q.graphs is.after.begins)
        ∙ first_named q.graphs is.after.begins;
    fit = no_params p is.before;
    other_fit = no_params q is.after;
    enters = first_all (λ g. pass.Enter g.entry [] []) p.graphs is.before.begins is.start;
    opened = refl;
    other_opened = ap (λ hi. activation (first_of q) (filled (first_of q).bits fill) ((hi + 2) % 65536)) is.hi;
    running = refl;
    other_running = refl;
    outside = record { memory = same_memory; input = refl; events = refl; base = ap (λ hi. (hi + 2) % 65536) is.hi };
    waiting = tt;
  }
    where
      no_params : (x : Program) → IsProgram x → FitIn (param_widths (first_of x)) []
      no_params x formed = subst (λ params. FitIn (map (λ y. put_width (first_of x).bits y.put) params) []) (sym (first_all (λ g. g.params ≡ []) x.graphs formed.begins formed.start)) tt

  related_first : (input : List ℕ) → Related p q pass (first_state p fill input) (first_state q fill input)
  unfolding opening
  related_first input =
      subst (λ s. Related p q pass (going_to 0 s) (first_state q fill input)) (passing_nothing 0 (first_of p).params (opening p input))
      (subst (λ t. Related p q pass (going_to 0 (passing 0 (first_of p).params [] (opening p input))) (going_to 0 t)) (passing_nothing 0 (first_of q).params (opening q input))
      (both_begin (first_of p).entry [] [] (first_of p) (first_of q) (opening p input) (opening q input) (opens input)))

pub keeps_runs : (p q : Program) (pass : Pass) → IsPass p q pass → KeepsRuns p q
keeps_runs p q pass is fill input small bytes =
    visits_kept_from_matches (has_block q) (watched_inner p fill) (watched_inner q fill) (AreMatching p q pass)
    (only_watchable (watched_inner p fill) (has_block q) (inner_watchable p fill)) (inner_watchable q fill) (λ s. refl) (λ t. refl)
    (matches p q pass is fill small) (first_state p fill input) (first_state q fill input) (record {
      related = related_first p q pass is fill small input;
      good = first-good p is.before fill input bytes;
      other_good = first-good q is.after fill input bytes;
    })
