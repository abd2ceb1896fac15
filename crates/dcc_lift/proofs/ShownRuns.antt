-- After a block, or after what is left of one, the inner run is shown again within two steps: it begins a block or is
-- over.
use Rattle.std.proofs.Common.{◌≡◌, ℕ, Bool, true, false, ◌||◌, ◌==◌, if◌then◌else◌, List, [], ◌∷◌, map, slice_get, Option, Some, None, refl, sym, ap, ◌∙◌, subst, true≢false, ◌<◌, arith}
use Rattle.std.specs.Prelude.{is_some}
use Rattle.std.specs.List.{list_any}
use Rattle.std.proofs.lemmas.List.{append-nil}
use Rattle.dcc_run.specs.End.{is_over}
use Rattle.dcc_run.specs.Event.{Event}
use Rattle.dcc_run.specs.Prefix.{IsPrefix}
use Rattle.dcc_run.specs.Watched.{Watched, state, is_shown, IsQuiet}
use Rattle.dcc_run.specs.ProgramPoint.{ProgramPoint}
use Rattle.dcc_run.proofs.PrefixLaws.{prefix_trans}
use Rattle.dcc_ir.specs.declared.syntax.Loc.{Loc}
use Rattle.dcc_ir.specs.Tree.{Expr, Stmt, Call, Exit, Goto, If, Switch, Ret, Stop, Block, Graph, Program}
use Rattle.dcc_ir.specs.Location.{filled}
use Rattle.dcc_ir.specs.Run.{State, Waiting, value_in, execute, is_call, entering, activation, passing, callee_base, calling, graph_at, setting, giving, returning, switching, exit_step, block_step, step, watched_inner, block_mark, stuck}
use Rattle.dcc_ir.proofs.StepLaws.{giving-alike}
use Rattle.dcc_ir.proofs.RunLaws.{inner_lawful}
use Rattle.dcc_ir.proofs.ExecuteLaws.{execute-within, block-executed}
use Rattle.dcc_lift.proofs.CallFree.{IsCallFree}

-- the end of a block gives back to a caller
abbrev pub is_return : Exit → Bool
is_return (Ret values) = true
is_return exit = false

-- the innermost caller has no Call left in its block, which gives nothing back
abbrev pub Resumes : List Waiting → Type 0
Resumes [] = Unit {0}
Resumes (w ∷ waiting) = IsCallFree w.caller.rest × (is_return w.caller.block.exit ≡ false)

module _ (p : Program) (fill : ℕ) where
  abbrev inner : Watched State ProgramPoint
  inner = watched_inner p fill

  -- Shown.

  over-shown : (t : State) → is_over t.end ≡ true → is_shown inner t ≡ true
  over-shown t e = ap (λ b. b || is_some (block_mark t)) e

  or-true : (b : Bool) → (b || true) ≡ true
  or-true true = refl
  or-true false = refl

  begun-shown : (t : State) → t.running.begins ≡ true → is_shown inner t ≡ true
  begun-shown t e =
      ap (λ b. is_over t.end || is_some (place b)) e
      ∙ or-true (is_over t.end)
    where
      place : Bool → Option ProgramPoint
      place b = if b then Some (record { entry = t.running.graph.entry; at = t.running.block.at }) else None

  entering-shown : (block : Option Block) (t : State) → is_shown inner (entering block t) ≡ true
  entering-shown (Some block) t = begun-shown (entering (Some block) t) refl
  entering-shown None t = refl

  switching-shown : (place : Option ℕ) (t : State) → is_shown inner (switching place t) ≡ true
  switching-shown (Some place) t = entering-shown (slice_get t.running.graph.blocks place) t
  switching-shown None t = refl

  pub exit-shown : (exit : Exit) (t : State) → is_return exit ≡ false → is_shown inner (exit_step exit t) ≡ true
  exit-shown (Goto place) t e = entering-shown (slice_get t.running.graph.blocks place) t
  exit-shown (If test one other) t e =
      entering-shown (slice_get t.running.graph.blocks (if value_in t test == 1 then one else other)) t
  exit-shown (Switch test places) t e = switching-shown (slice_get places (value_in t test)) t
  exit-shown (Ret values) t e = absurd (true≢false e)
  exit-shown Stop t e = refl

  -- at a Call the callee begins
  pub calling-shown : (results : List Loc) (depth : ℕ) (arguments : List ℕ) (graph : Option Graph) (t : State)
      → is_shown inner (calling fill results depth arguments graph t) ≡ true
  calling-shown results depth arguments None t = refl
  calling-shown results depth arguments (Some graph) t =
      let passed : State = passing 0 graph.params arguments (record t {
        running = activation graph (filled graph.bits fill) (callee_base t.running.base depth);
        waiting = record { caller = t.running; results = results } ∷ t.waiting;
      }) in
      entering-shown (slice_get passed.running.graph.blocks 0) passed

  -- Events.

  entering-events : (block : Option Block) (t : State) → (entering block t).events ≡ t.events
  entering-events (Some block) t = refl
  entering-events None t = refl

  switching-events : (place : Option ℕ) (t : State) → (switching place t).events ≡ t.events
  switching-events (Some place) t = entering-events (slice_get t.running.graph.blocks place) t
  switching-events None t = refl

  returning-events : (values : List ℕ) (waiting : List Waiting) (t : State)
      → (returning values waiting t).events ≡ t.events
  returning-events values [] t = refl
  returning-events values (w ∷ waiting) t =
      (giving-alike w.results values (record t { running = w.caller; waiting = waiting })).events

  exit-events : (exit : Exit) (t : State) → (exit_step exit t).events ≡ t.events
  exit-events (Goto place) t = entering-events (slice_get t.running.graph.blocks place) t
  exit-events (If test one other) t =
      entering-events (slice_get t.running.graph.blocks (if value_in t test == 1 then one else other)) t
  exit-events (Switch test places) t = switching-events (slice_get places (value_in t test)) t
  exit-events (Ret values) t = returning-events (map (value_in t) values) t.waiting t
  exit-events Stop t = refl

  -- Statements, and then the end of the block.

  abbrev pub after-stmts : State → State
  after-stmts u = if is_over u.end then u else exit_step u.running.block.exit u

  pub block-is : (stmts : List Stmt) (t : State) → IsCallFree stmts → is_over t.end ≡ false
      → block_step p.graphs fill stmts t ≡ after-stmts (execute stmts t)
  block-is stmts t free on =
      ap (λ l. block_step p.graphs fill l t) (sym (append-nil stmts))
      ∙ block-executed p.graphs fill stmts [] t free on

  -- the run is shown, or it is so after one step more
  pub record IsSoonShown (before : List Event) (v : State) : Type 0 where
    pub more : ℕ
    pub quiet : (k : ℕ) → k < more → IsQuiet inner (state inner k v)
    pub shown : is_shown inner (state inner more v) ≡ true
    pub events : IsPrefix before (state inner more v).events

  at-once : (before : List Event) (v : State) → is_shown inner v ≡ true → IsPrefix before v.events
      → IsSoonShown before v
  at-once before v shown events = record {
    more = 0;
    quiet = λ k less. absurd (omega (arith, less));
    shown = shown;
    events = events;
  }

  -- where the innermost caller goes on, the run is shown after its block
  resumed-shown : (v : State) → IsCallFree v.running.rest → is_return v.running.block.exit ≡ false
      → is_over v.end ≡ false → is_shown inner (step p fill v) ≡ true
  resumed-shown v free back on =
      ap (is_shown inner)
      (ap (λ b. if b then v else block_step p.graphs fill v.running.rest v) on ∙ block-is v.running.rest v free on)
      ∙ by (is_over u.end) refl
    where
      u : State
      u = execute v.running.rest v

      by : (b : Bool) → is_over u.end ≡ b
          → is_shown inner (if b then u else exit_step u.running.block.exit u) ≡ true
      by true e = over-shown u e
      by false e =
          exit-shown u.running.block.exit u
          (ap (λ (block : Block). is_return block.exit) (execute-within v.running.rest v).block ∙ back)

  giving-rest : (results : List Loc) (values : List ℕ) (t : State)
      → (giving results values t).running.rest ≡ t.running.rest
  giving-rest [] values t = refl
  giving-rest (location ∷ results) [] t = refl
  giving-rest (location ∷ results) (n ∷ values) t = giving-rest results values (setting location n t)

  soon-by : (v : State) (before : List Event) → IsPrefix before v.events → IsCallFree v.running.rest
      → is_return v.running.block.exit ≡ false → IsSoonShown before v
  soon-by v before events free back = over (is_over v.end) refl
    where
      quietly : is_over v.end ≡ false → v.running.begins ≡ false → IsSoonShown before v
      quietly on none = record {
        more = 1;
        quiet = λ k less.
            let first : k ≡ 0 = omega (arith, less) in
            subst (λ n. IsQuiet inner (state inner n v)) (sym first) (record {
              unmarked = ap (λ b. if b then Some
                  (record { entry = v.running.graph.entry; at = v.running.block.at }) else None) none;
              running = on;
              clean = refl;
            });
        shown = resumed-shown v free back on;
        events = prefix_trans events ((inner_lawful p fill).grows v);
      }

      begun : (b : Bool) → v.running.begins ≡ b → is_over v.end ≡ false → IsSoonShown before v
      begun true e on = at-once before v (begun-shown v e) events
      begun false e on = quietly on e

      over : (b : Bool) → is_over v.end ≡ b → IsSoonShown before v
      over true e = at-once before v (over-shown v e) events
      over false e = begun v.running.begins refl e

  exit-soon : (exit : Exit) (u : State) (before : List Event) → IsPrefix before u.events → Resumes u.waiting
      → IsSoonShown before (exit_step exit u)
  exit-soon (Ret values) u before events resumes = waits u.waiting resumes
    where
      waits : (waiting : List Waiting) → Resumes waiting
          → IsSoonShown before (returning (map (value_in u) values) waiting u)
      waits [] none = at-once before (stuck u) refl events
      waits (w ∷ waiting) goes =
          let like = giving-alike w.results (map (value_in u) values)
          (record u { running = w.caller; waiting = waiting }) in
          let v = giving w.results (map (value_in u) values) (record u { running = w.caller; waiting = waiting }) in
          soon-by v before (subst (IsPrefix before) (sym like.events) events)
          (ap (list_any is_call) (giving-rest w.results (map (value_in u) values)
          (record u { running = w.caller; waiting = waiting })) ∙ goes.0)
          (ap (λ (block : Block). is_return block.exit) like.block ∙ goes.1)
  exit-soon exit u before events resumes =
      at-once before (exit_step exit u) (exit-shown exit u (cc))
      (subst (IsPrefix before) (sym (exit-events exit u)) events)

  -- the run is shown after what is left of a block without Calls
  pub soon-shown : (stmts : List Stmt) (t : State) → IsCallFree stmts → is_over t.end ≡ false → Resumes t.waiting
      → IsSoonShown t.events (block_step p.graphs fill stmts t)
  soon-shown stmts t free on resumes =
      subst (IsSoonShown t.events) (sym (block-is stmts t free on)) (by (is_over u.end) refl)
    where
      u : State
      u = execute stmts t

      events : IsPrefix t.events u.events
      events = (execute-within stmts t).events

      by : (b : Bool) → is_over u.end ≡ b
          → IsSoonShown t.events (if b then u else exit_step u.running.block.exit u)
      by true e = at-once t.events u (over-shown u e) events
      by false e =
          exit-soon u.running.block.exit u t.events events
          (subst Resumes (sym (execute-within stmts t).waiting) resumes)

  -- the run is shown at a Call
  pub call-soon : (results : List Loc) (entry : ℕ) (arguments : List Expr) (depth : ℕ) (rest : List Stmt) (t : State)
      → is_over t.end ≡ false
      → IsSoonShown t.events (block_step p.graphs fill (Call results entry arguments depth ∷ rest) t)
  call-soon results entry arguments depth rest t on =
      at-once t.events (block_step p.graphs fill (Call results entry arguments depth ∷ rest) t)
      (calling-shown results depth (map (value_in t) arguments) (graph_at p.graphs entry)
      (record t { running = record t.running { rest = rest; begins = false } }))
      (subst (λ b. IsPrefix t.events
      (if b then s else block_step p.graphs fill (Call results entry arguments depth ∷ rest) t).events) on
      ((inner_lawful p fill).grows s))
    where
      -- the state with these statements left, from which the same block is stepped
      s : State
      s = record t { running = record t.running { rest = Call results entry arguments depth ∷ rest } }
