-- What is available holds in each state of a run.
use Rattle.std.proofs.Common.{◌≡◌, ℕ, zero, suc, Bool, true, false, List, [], ◌∷◌, Option, Some, None, refl, sym, ap, ◌∙◌, subst, true≢false, slice_get, Contains}
use Rattle.std.specs.Prelude.{if◌then◌else◌, ◌==◌, ◌+◌, ◌%◌, All, get_or}
use Rattle.std.proofs.lemmas.List.Elements.{All-nil, All-cons, All-head, All-tail}
use Rattle.dcc_run.specs.Event.{Event, Wrote, Took, MetEnd}
use Rattle.dcc_run.specs.End.{Running as GoesOn, Exit as ExitWith, is_over}
use Rattle.dcc_run.specs.System.{after}
use Rattle.dcc_ir.specs.declared.syntax.Loc.{Loc}
use Rattle.dcc_ir.specs.Tree.{Expr, Stmt, Set, Fetch, Store, Div, Call, Dos, Exit, Goto, If, Switch, Ret, Stop, Block, Graph, Program}
use Rattle.dcc_ir.specs.Location.{location_width, Values, with_value, filled}
use Rattle.dcc_ir.specs.Value.{width_of, Environment, value_of, division_of}
use Rattle.dcc_ir.specs.Dos.{dos_string}
use Rattle.dcc_ir.specs.WellFormed.{IsProgram}
use Rattle.dcc_ir.specs.Fitting.{AreBytes}
use Rattle.dcc_ir.specs.Flow.{targets}
use Rattle.dcc_ir.specs.Run.{Activation, Waiting, State, activation, scene_of, value_in, argument_in, ended, stuck, dividing, happening, writing, taking, keyed, dos_step, stmt_step, entering, going_to, passing, callee_base, calling, returning, block_step, step, no_graph, first_memory, first_state, reached}
use Rattle.dcc_ir.specs.Local.{Halt, Over, Calls, Jumps, Returns, after_call, switch_halt, exit_halt, local_run, halt_of, led_to}
use Rattle.dcc_ir.specs.Passes.{with_values}
use Rattle.dcc_ir.proofs.LocationLaws.{Contains-here, Contains-later}
use Rattle.dcc_ir.proofs.ReachedLaws.{contained, IsGood, within-of, step-good, first-good}
use Rattle.dcc_ir.proofs.passes.LocalLaws.{Frame, frame_of, Leaves, stmt-frame, local-leaves, step-leads}
use Rattle.dcc_ir.proofs.passes.CallLaws.{holding, giving-is, passing-is}
use Rattle.dcc_passes.specs.Following.{Anywhere}
use Rattle.dcc_substitution.specs.Available.{Availability, AreRight, IsRight, Holds}
use Rattle.dcc_substitution.specs.Laws.{HoldsWhere}
use Rattle.dcc_substitution.proofs.AvailableLaws.{value-anywhere, Changes, with-itself, holds-after}
use Rattle.dcc_substitution.proofs.SubstitutedLaws.{given-other, one-changes, none-changes, store-changes, call-changes}
use Rattle.dcc_ir.specs.Use.{reads_of}
use Rattle.dcc_ir.proofs.ListLaws.{all_had}

-- What a statement without a call changes.

module _ (number : ℕ) (argument : Option Expr) (s : State) where
  abbrev Did : Option Loc → State → Type 0
  Did to u = Changes (Dos number to argument) (scene_of s) (scene_of u)

  nothing-did : (to : Option Loc) (u : State) → scene_of u ≡ scene_of s → Did to u
  nothing-did to u same = subst (Changes (Dos number to argument) (scene_of s)) (sym same) (none-changes (Dos number to argument) (scene_of s) (λ l e is. absurd (cc)))

  took : (to : Option Loc) (byte : ℕ) (events : List Event) (u : State) → scene_of u ≡ scene_of s → Did to (happening events (taking to byte u))
  took (Some x) byte events u same =
      subst (λ scene. Changes (Dos number (Some x) argument) (scene_of s) (record scene { values = with_value scene.values x byte })) (sym same)
      (one-changes (Dos number (Some x) argument) x byte (scene_of s) refl (λ l e is. absurd (cc)))
  took None byte events u same = nothing-did None u same

  took-key : (to : Option Loc) (echo : Bool) (input : List ℕ) → Did to (keyed echo to input s)
  took-key to echo [] = took to 0x1A (MetEnd ∷ []) s refl
  took-key to echo (byte ∷ input) = took to byte (Took byte ∷ (if echo then Wrote byte ∷ [] else [])) (record s { input = input }) refl

  either-did : (to : Option Loc) (b : Bool) (u v : State) → Did to u → Did to v → Did to (if b then u else v)
  either-did to true u v h k = h
  either-did to false u v h k = k

  dos-did : (to : Option Loc) (n : ℕ) → Did to (dos_step number to n s)
  dos-did to n =
      let wrote = writing (n ∷ []) s in
      let left = ended (ExitWith n) s in
      let told = writing (dos_string s.memory n) s in
      let echoed = keyed true to s.input s in
      let quiet = keyed false to s.input s in
      let last = if number == 0x09 then told else stuck s in
      let third = if number == 0x08 then quiet else last in
      let second = if number == 0x01 then echoed else third in
      let first = if number == 0x4C then left else second in
      either-did to (number == 0x02) wrote first (nothing-did to wrote refl)
      (either-did to (number == 0x4C) left second (nothing-did to left refl)
      (either-did to (number == 0x01) echoed third (took-key to true s.input)
      (either-did to (number == 0x08) quiet last (took-key to false s.input)
      (either-did to (number == 0x09) told (stuck s) (nothing-did to told refl) (nothing-did to (stuck s) refl)))))

set-did : (x : Loc) (e : Expr) (scene : Environment) → Changes (Set x e) scene (record scene { values = with_value scene.values x (value_of scene e) })
set-did x e scene = one-changes (Set x e) x (value_of scene e) scene refl (λ l v same.
    let to : x ≡ l = cc in
    let of : e ≡ v = cc in
    ap (with_value scene.values x (value_of scene e)) (sym to) ∙ with-itself scene.values x (value_of scene e) ∙ ap (value_of scene) of)

div-did : (x : Loc) (e : Expr) (n : Option ℕ) (s : State) → Changes (Div x e) (scene_of s) (scene_of (dividing x n s))
div-did x e (Some n) s = one-changes (Div x e) x n (scene_of s) refl (λ l v is. absurd (cc))
div-did x e None s = none-changes (Div x e) (scene_of s) (λ l v is. absurd (cc))

call-did : (results : List Loc) (entry depth : ℕ) (arguments : List Expr) (s : State) → Changes (Call results entry arguments depth) (scene_of s) (scene_of s)
call-did results entry depth arguments s = call-changes results entry depth arguments (scene_of s) (scene_of s) refl (λ l out. refl)

-- a statement changes what it writes alone
pub stmt-did : (stmt : Stmt) (s : State) → Changes stmt (scene_of s) (scene_of (stmt_step stmt s))
stmt-did (Set x e) s = set-did x e (scene_of s)
stmt-did (Fetch x width a) s = one-changes (Fetch x width a) x _ (scene_of s) refl (λ l v is. absurd (cc))
stmt-did (Store width a e) s = store-changes width a e (scene_of s) _
stmt-did (Div x e) s = div-did x e (division_of (scene_of s) e) s
stmt-did (Call results entry arguments depth) s = call-did results entry depth arguments s
stmt-did (Dos number to argument) s = dos-did number argument s to (argument_in s argument)

module _ (available : Availability) (g : Graph) (right : IsRight g available) where
  -- Within a block.

  module _ (place : ℕ) (block : Block) (placed : slice_get g.blocks place ≡ Some block) where
    abbrev Here : List Stmt → State → Type 0
    Here rest s = Holds (available place rest) (scene_of s)

    abbrev There : List Stmt → Values → Type 0
    There rest v = (base : ℕ) (memory : List ℕ) → Holds (available place rest) (record { bits = g.bits; values = v; base = base; memory = memory })

    -- what is available holds where the run of the block halts
    Halts : List Stmt → Halt → Type 0
    Halts rest (Over u) = Unit {0}
    Halts rest (Calls call u) = AreRight g available place rest × ((r : List ℕ) → There rest (with_values u.running.values call.results r))
    Halts rest (Jumps to u) = Contains (targets block.exit) to × Here [] u
    Halts rest (Returns values u) = Unit {0}

    one-of : (b : Bool) (one other : ℕ) → Contains (one ∷ other ∷ []) (if b then one else other)
    one-of true one other = Contains-here one (other ∷ [])
    one-of false one other = Contains-later one (other ∷ []) other (Contains-here other [])

    exit-halts : (rest : List Stmt) (exit : Exit) → block.exit ≡ exit → (s : State) → Here [] s → Halts rest (exit_halt exit s)
    unfolding Halts
    exit-halts rest (Goto to) is s h = (subst (λ x. Contains (targets x) to) (sym is) (Contains-here to []), h)
    exit-halts rest (If test one other) is s h = (subst (λ x. Contains (targets x) (if value_in s test == 1 then one else other)) (sym is) (one-of (value_in s test == 1) one other), h)
    exit-halts rest (Switch e places) is s h = go (value_in s e) (slice_get places (value_in s e)) refl
      where
        go : (n : ℕ) (to : Option ℕ) → slice_get places n ≡ to → Halts rest (switch_halt to s)
        go n (Some to) found = (subst (λ x. Contains (targets x) to) (sym is) (contained places n to found), h)
        go n None found = tt
    exit-halts rest (Ret values) is s h = tt
    exit-halts rest Stop is s h = tt

    over-or : (rest : List Stmt) (b : Bool) (u : State) (halt : Halt) → Halts rest halt → Halts rest (if b then Over u else halt)
    unfolding Halts
    over-or rest true u halt h = tt
    over-or rest false u halt h = h

    widths-there : (s : State) → s.running.graph ≡ g → (rest : List Stmt) (l : Loc) (e : Expr) → available place rest l e → width_of s.running.graph.bits e ≡ location_width s.running.graph.bits l
    widths-there s graph rest l e told = subst (λ (x : Graph). width_of x.bits e ≡ location_width x.bits l) (sym graph) (right.widths place rest l e told)

    local-halts : (stmts : List Stmt) (s : State) → s.running.block ≡ block → s.running.graph ≡ g → AreRight g available place stmts → Here stmts s → Halts (after_call stmts) (local_run stmts s)
    unfolding Halts
    local-halts [] s same graph are h = subst (λ (b : Block). Halts [] (exit_halt b.exit s)) (sym same) (exit-halts [] block.exit refl s h)
    local-halts (Call results entry arguments depth ∷ rest) s same graph are h = (
      are.1,
      λ r base memory.
          let next : Environment = record { bits = g.bits; values = with_values s.running.values results r; base = base; memory = memory } in
          holds-after (Call results entry arguments depth) (available place (Call results entry arguments depth ∷ rest)) (available place rest) are.0 (scene_of s) next
          (call-changes results entry depth arguments (scene_of s) next (sym (ap (λ (x : Graph). x.bits) graph)) (λ l out. given-other s.running.values results r l out))
          (widths-there s graph (Call results entry arguments depth ∷ rest)) h,
    )
    local-halts (stmt ∷ rest) s same graph are h =
        let next = stmt_step stmt s in
        let f = stmt-frame stmt s in
        over-or (after_call rest) (is_over next.end) next (local_run rest next)
        (local-halts rest next (ap (λ (x : Frame). x.block) f ∙ same) (ap (λ (x : Frame). x.graph) f ∙ graph) are.1
        (holds-after stmt (available place (stmt ∷ rest)) (available place rest) are.0 (scene_of s) (scene_of next) (stmt-did stmt s) (widths-there s graph (stmt ∷ rest)) h))

  -- States.

  -- an activation of the graph stands at a place, and what is available there holds
  record Stands (a : Activation) (rest : List Stmt) (Holds_there : ℕ → Type 0) : Type 0 where
    place : ℕ
    placed : slice_get g.blocks place ≡ Some a.block
    right_there : AreRight g available place rest
    holds : Holds_there place

  abbrev Running : Activation → Type 0
  Running a = a.graph ≡ g → Stands a a.rest (λ place. Anywhere (λ scene v. Holds (available place a.rest) scene) g.bits a.values a.values)

  abbrev Waits : Waiting → Type 0
  Waits w = w.caller.graph ≡ g → Stands w.caller w.caller.rest
      (λ place. (r : List ℕ) → Anywhere (λ scene v. Holds (available place w.caller.rest) scene) g.bits (with_values w.caller.values w.results r) w.caller.values)

  record Fine (s : State) : Type 0 where
    running : Running s.running
    waiting : All Waits s.waiting

  abbrev Kept : State → Type 0
  Kept s = is_over s.end ≡ false → Fine s

  -- where a block begins
  entered : (to : ℕ) (u : State) → All Waits u.waiting → ((next : Block) → u.running.graph ≡ g → slice_get g.blocks to ≡ Some next
      → Anywhere (λ scene v. Holds (available to next.stmts) scene) g.bits u.running.values u.running.values) → Kept (going_to to u)
  entered to u waiting holds = go (slice_get u.running.graph.blocks to) refl
    where
      go : (o : Option Block) → slice_get u.running.graph.blocks to ≡ o → Kept (entering o u)
      go None found = λ on. absurd (true≢false on)
      go (Some next) found = λ on. record {
        running = λ same.
            let there : slice_get g.blocks to ≡ Some next = ap (λ (x : Graph). slice_get x.blocks to) (sym same) ∙ found in
            record { place = to; placed = there; right_there = right.stmts to next there; holds = holds next same there };
        waiting = waiting;
      }

  module _ (p : Program) (well : IsProgram p) (fill : ℕ) where
    -- what a step keeps
    led : (s : State) → is_over s.end ≡ false → (fine : Fine s) → (halt : Halt) → Leaves p (after_call s.running.rest) (frame_of s) halt
        → ((here : s.running.graph ≡ g) → Halts (fine.running here).place s.running.block (fine.running here).placed (after_call s.running.rest) halt)
        → Kept (led_to p.graphs fill halt)
    unfolding Halts
    led s on fine (Over u) leaves halts = λ goes. absurd (true≢false (sym leaves ∙ goes))
    led s on fine (Jumps to u) leaves halts =
        let same = leaves.0.same in
        entered to u (subst (All Waits) (sym (ap (λ (f : Frame). f.waiting) same)) fine.waiting) (λ next graph found base memory l e told.
        let here : s.running.graph ≡ g = sym (ap (λ (f : Frame). f.graph) same) ∙ graph in
        let at = fine.running here in
        let h = halts here in
        let back = right.goes at.place to s.running.block next l e at.placed h.0 found told in
        let scene : Environment = record { bits = g.bits; values = u.running.values; base = base; memory = memory } in
        h.1 l e back.0 ∙ sym (value-anywhere (scene_of u) scene (sym (ap (λ (x : Graph). x.bits) graph)) e back.1 (all_had (λ r. u.running.values r ≡ u.running.values r) (reads_of e) (λ r c. refl))))
    led s on fine (Calls call u) leaves halts =
        let same = leaves.0.same in
        let callee = leaves.1.callee in
        let opened : State = record u { running = activation callee (filled callee.bits fill) (callee_base u.running.base call.depth); waiting = record { caller = u.running; results = call.results } ∷ u.waiting } in
        let taken = passing 0 callee.params call.arguments opened in
        subst (λ o. Kept (calling fill call.results call.depth call.arguments o u)) (sym leaves.1.named)
        (subst (λ x. Kept (going_to 0 x)) (sym (passing-is 0 callee.params call.arguments opened))
        (entered 0 (holding taken.running.values taken.memory opened)
        (All-cons Waits (record { caller = u.running; results = call.results }) u.waiting (λ graph.
        let here : s.running.graph ≡ g = sym (ap (λ (f : Frame). f.graph) same) ∙ graph in
        let at = fine.running here in
        let h = halts here in
        let rest : u.running.rest ≡ after_call s.running.rest = ap (λ (f : Frame). f.rest) same in
        record {
          place = at.place;
          placed = at.placed ∙ sym (ap (λ (f : Frame). Some f.block) same);
          right_there = subst (AreRight g available at.place) (sym rest) h.0;
          holds = λ r base memory. subst (λ l. Holds (available at.place l) (record { bits = g.bits; values = with_values u.running.values call.results r; base = base; memory = memory })) (sym rest) (h.1 r base memory);
        }) (subst (All Waits) (sym (ap (λ (f : Frame). f.waiting) same)) fine.waiting))
        (λ next graph found base memory l e told. absurd (right.start next l e found told))))
    led s on fine (Returns values u) leaves halts =
        let same = leaves.0.same in
        go u.waiting (subst (All Waits) (sym (ap (λ (f : Frame). f.waiting) same)) fine.waiting)
      where
        go : (waiting : List Waiting) → All Waits waiting → Kept (returning values waiting u)
        go [] all = λ on. absurd (true≢false on)
        go (w ∷ waiting) all =
            let back : State = record u { running = w.caller; waiting = waiting } in
            subst Kept (sym (giving-is w.results values back)) (λ on. record {
              running = λ graph.
                  let at = All-head Waits w waiting all graph in
                  record { place = at.place; placed = at.placed; right_there = at.right_there; holds = at.holds values };
              waiting = All-tail Waits w waiting all;
            })

    -- what is available holds in the state, with its own memory
    here : (s : State) (fine : Fine s) (graph : s.running.graph ≡ g) → Holds (available (fine.running graph).place s.running.rest) (scene_of s)
    here s fine graph =
        let at = fine.running graph in
        subst (λ (x : Graph). Holds (available at.place s.running.rest) (record (scene_of s) { bits = x.bits })) (sym graph) (at.holds s.running.base s.memory)

    kept-next : (s : State) → IsGood p s → Kept s → Kept (step p fill s)
    kept-next s good kept = go (is_over s.end) refl
      where
        go : (b : Bool) → is_over s.end ≡ b → Kept (step p fill s)
        go true over =
            let same : step p fill s ≡ s = ap (λ b. if b then s else block_step p.graphs fill s.running.rest s) over in
            λ on. absurd (true≢false (sym (ap (λ (x : State). is_over x.end) same ∙ over) ∙ on))
        go false on =
            let fine = kept on in
            subst Kept (sym (step-leads p fill s on))
            (led s on fine (halt_of s) (local-leaves p well s.running.rest s on (within-of p well s (good.active on) good.safe) good.safe.fit)
            (λ graph. local-halts (fine.running graph).place s.running.block (fine.running graph).placed s.running.rest s refl graph (fine.running graph).right_there (here s fine graph)))

    kept-after : (n : ℕ) (s : State) → IsGood p s → Kept s → Kept (after (step p fill) n s)
    kept-after zero s good kept = kept
    kept-after (suc n) s good kept = kept-after n (step p fill s) (step-good p well fill s good) (kept-next s good kept)

    first-kept : (input : List ℕ) → Kept (first_state p fill input)
    first-kept input =
        let graph = get_or p.graphs 0 no_graph in
        let start : State = record {
          running = activation graph (filled graph.bits fill) ((p.hi + 2) % 65536);
          waiting = [];
          memory = first_memory p fill;
          input = input;
          events = [];
          end = GoesOn;
        } in
        entered 0 start (All-nil Waits) (λ next graph found base memory l e told. absurd (right.start next l e found told))

    reached-holds : (input : List ℕ) (n : ℕ) → AreBytes input → is_over (reached p fill input n).end ≡ false → (reached p fill input n).running.graph ≡ g
        → HoldsWhere available g (reached p fill input n)
    reached-holds input n bytes on graph =
        let s = reached p fill input n in
        let fine = kept-after n (first_state p fill input) (first-good p well fill input bytes) (first-kept input) on in
        record { place = (fine.running graph).place; placed = (fine.running graph).placed; holds = here s fine graph }

pub available-holds : (available : Availability) (p : Program) (g : Graph) → IsProgram p → IsRight g available → (fill : ℕ) (input : List ℕ) (n : ℕ) → AreBytes input
    → is_over (reached p fill input n).end ≡ false → (reached p fill input n).running.graph ≡ g → HoldsWhere available g (reached p fill input n)
available-holds available p g well right fill input n bytes on graph = reached-holds available g right p well fill input n bytes on graph
