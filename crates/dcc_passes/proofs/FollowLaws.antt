-- A graph that follows another statement by statement goes on as the other does.
use Rattle.std.proofs.Common.{◌≡◌, ℕ, zero, suc, Bool, true, false, List, [], ◌∷◌, ◌++◌, Option, Some, None, refl, sym, ap, ap₂, ◌∙◌, subst, true≢false, length, slice_get, map, Contains, eqb-true}
use Rattle.std.specs.Prelude.{if◌then◌else◌, ◌==◌}
use Rattle.std.specs.List.{list_all}
use Rattle.std.proofs.lemmas.List.Elements.{All-contains}
use Rattle.dcc_run.specs.Event.{Event, Wrote, Took, MetEnd, writes}
use Rattle.dcc_run.specs.End.{End, Exit as ExitWith, Divide, Stuck, is_over}
use Rattle.dcc_ir.specs.declared.syntax.Loc.{Loc}
use Rattle.dcc_ir.specs.Tree.{Expr, Stmt, Set, Fetch, Store, Div, Call, Dos, Exit, Goto, If, Switch, Ret, Stop, Block, Graph, Program}
use Rattle.dcc_ir.specs.Location.{location_width}
use Rattle.dcc_ir.specs.Value.{division_of}
use Rattle.dcc_ir.specs.Dos.{dos_string}
use Rattle.dcc_ir.specs.Demand.{is_assignment}
use Rattle.dcc_ir.specs.WellFormed.{is_stmt, is_exit, is_block, IsGraph, IsProgram}
use Rattle.dcc_ir.specs.Fitting.{StateFits}
use Rattle.dcc_ir.specs.Flow.{targets}
use Rattle.dcc_ir.specs.Run.{State, graph_at, scene_of, value_in, ended, stuck, setting, dividing, happening, writing, taking, keyed, argument_in, dos_step, stmt_step, is_call}
use Rattle.dcc_ir.specs.Local.{Point, after_call, after_calls, Halt, Over, Jumps, switch_halt, exit_halt, local_run}
use Rattle.dcc_ir.specs.Passes.{with_values, FitIn, AgreeOutside, EndAlike, Meet}
use Rattle.dcc_ir.proofs.FitLaws.{both as and-both}
use Rattle.dcc_ir.proofs.FitStates.{IsFit, scene-fits, stmt-fit}
use Rattle.dcc_ir.proofs.LocationLaws.{Contains-here, Contains-later}
use Rattle.dcc_ir.proofs.ReachedLaws.{contained, found_contained, all_at}
use Rattle.dcc_ir.proofs.passes.LocalLaws.{some_same, is_running, Frame, stmt-frame}
use Rattle.dcc_passes.specs.Replaced.{StandsFor}
use Rattle.dcc_passes.specs.Kinds.{StaysInKind}
use Rattle.dcc_passes.specs.OneGraph.{one_pass, GoesIn}
use Rattle.dcc_passes.specs.Following.{Bond, Link, Anywhere, TakeAlike, takes_key, DoAlike, EndsAlike, Stepped, FaultsFirst, RunAlike, IsFollowedBy, done, both, steps, calls, goes, drops, comes, joins, IsFollowedByBlock, linked, IsFollowedByGraph}
use Rattle.dcc_passes.proofs.OneGraphLaws.{one-stands}
use Rattle.dcc_passes.proofs.KindLaws.{kind-fits}

-- Statements.

module _ (After : Bond) where
  abbrev Steps : State → State → Type 0
  Steps = Stepped After

  record Same (s t : State) : Type 0 where
    memory : t.memory ≡ s.memory
    input : t.input ≡ s.input
    events : t.events ≡ s.events
    base : t.running.base ≡ s.running.base
    end : t.end ≡ s.end

  valued : (s t : State) → Same s t → After (scene_of s) t.running.values → Steps s t
  valued s t h holds = record {
    outside = record { memory = h.memory; input = h.input; events = h.events; base = h.base };
    end = h.end;
    holds = λ on. holds;
  }

  set-same : (x x' : Loc) (n n' : ℕ) (s t : State) → Same s t → Same (setting x n s) (setting x' n' t)
  set-same x x' n n' s t h = record { memory = h.memory; input = h.input; events = h.events; base = h.base; end = h.end }

  happened : (events : List Event) (s t : State) → Same s t → Same (happening events s) (happening events t)
  happened events s t h = record { memory = h.memory; input = h.input; events = ap (λ l. l ++ events) h.events; base = h.base; end = h.end }

  over : (end end' : End) (s t : State) → is_over end ≡ true → end' ≡ end → Same s t → Steps (ended end s) (ended end' t)
  over end end' s t is same h = record {
    outside = record { memory = h.memory; input = h.input; events = h.events; base = h.base };
    end = same;
    holds = λ on. absurd (true≢false (sym is ∙ on));
  }

  if-both : (b : Bool) (s s' t t' : State) → (b ≡ true → Steps s t) → (b ≡ false → Steps s' t') → Steps (if b then s else s') (if b then t else t')
  if-both true s s' t t' h k = h refl
  if-both false s s' t t' h k = k refl

  divided : (x x' : Loc) (n : Option ℕ) (s t : State) → Same s t → ((n : ℕ) → After (scene_of (setting x n s)) (setting x' n t).running.values)
      → Steps (dividing x n s) (dividing x' n t)
  divided x x' (Some n) s t h holds = valued (setting x n s) (setting x' n t) (set-same x x' n n s t h) (holds n)
  divided x x' None s t h holds = over Divide Divide s t refl refl h

  -- a byte goes to both places, and then events happen
  taken : (place place' : Option Loc) (byte : ℕ) (events : List Event) (s t : State) → Same s t
      → TakeAlike After (scene_of s) t.running.values place place' → Steps (happening events (taking place byte s)) (happening events (taking place' byte t))
  taken (Some x) (Some x') byte events s t h holds =
      valued (happening events (setting x byte s)) (happening events (setting x' byte t)) (happened events (setting x byte s) (setting x' byte t) (set-same x x' byte byte s t h)) (holds byte)
  taken None None byte events s t h holds = valued (happening events s) (happening events t) (happened events s t h) holds
  taken (Some x) None byte events s t h holds = absurd holds
  taken None (Some x') byte events s t h holds = absurd holds

  key-taken : (echo : Bool) (place place' : Option Loc) (input : List ℕ) (s t : State) → Same s t
      → TakeAlike After (scene_of s) t.running.values place place' → Steps (keyed echo place input s) (keyed echo place' input t)
  key-taken echo place place' [] s t h holds = taken place place' 0x1A (MetEnd ∷ []) s t h holds
  key-taken echo place place' (byte ∷ input) s t h holds =
      taken place place' byte (Took byte ∷ (if echo then Wrote byte ∷ [] else [])) (record s { input = input }) (record t { input = input })
      (record { memory = h.memory; input = refl; events = h.events; base = h.base; end = h.end }) holds

  dos-same : (number n : ℕ) (place place' : Option Loc) (s t : State) → t.running.graph.entry ≡ s.running.graph.entry → Same s t
      → TakeAlike After (scene_of s) t.running.values place place' → (takes_key number ≡ false → After (scene_of s) t.running.values)
      → Steps (dos_step number place n s) (dos_step number place' n t)
  dos-same number n place place' s t entry h take keep =
      if-both (number == 0x02) _ _ _ _ (λ e. wrote (n ∷ []) (ap takes_key (eqb-true number 0x02 e)))
      (λ _. if-both (number == 0x4C) _ _ _ _ (λ e. over (ExitWith n) (ExitWith n) s t refl refl h)
      (λ _. if-both (number == 0x01) _ _ _ _ (λ e. key true)
      (λ _. if-both (number == 0x08) _ _ _ _ (λ e. key false)
      (λ _. if-both (number == 0x09) _ _ _ _
      (λ e. subst (λ m. Steps (writing (dos_string s.memory n) s) (writing (dos_string m n) t)) (sym h.memory) (wrote (dos_string s.memory n) (ap takes_key (eqb-true number 0x09 e))))
      (λ _. over (Stuck s.running.graph.entry) (Stuck t.running.graph.entry) s t refl (ap Stuck entry) h)))))
    where
      wrote : (bytes : List ℕ) → takes_key number ≡ false → Steps (writing bytes s) (writing bytes t)
      wrote bytes other = valued (writing bytes s) (writing bytes t) (happened (writes bytes) s t h) (keep other)

      key : (echo : Bool) → Steps (keyed echo place s.input s) (keyed echo place' t.input t)
      key echo = subst (λ input. Steps (keyed echo place s.input s) (keyed echo place' input t)) (sym h.input) (key-taken echo place place' s.input s t h take)

  -- after two statements that do the same the states have the same outside of the locations
  pub steps-alike : (stmt stmt' : Stmt) (s t : State) → AgreeOutside s t → t.end ≡ s.end → t.running.graph.entry ≡ s.running.graph.entry
      → DoAlike After s t stmt stmt' → Steps (stmt_step stmt s) (stmt_step stmt' t)
  steps-alike stmt stmt' s t outside end entry alike = go stmt stmt' alike
    where
      h : Same s t
      h = record { memory = outside.memory; input = outside.input; events = outside.events; base = outside.base; end = end }

      go : (stmt stmt' : Stmt) → DoAlike After s t stmt stmt' → Steps (stmt_step stmt s) (stmt_step stmt' t)
      go (Set x e) (Set x' e') d = valued _ _ (set-same x x' _ _ s t h) d
      go (Fetch x width a) (Fetch x' width' a') d = valued _ _ (set-same x x' _ _ s t h) d
      go (Store width a e) (Store width' a' e') d = record {
        outside = record {
          memory = let m = outside.memory in let w = d.0 in let address = d.1 in let n = d.2 in cc;
          input = outside.input;
          events = outside.events;
          base = outside.base;
        };
        end = end;
        holds = λ on. d.3;
      }
      go (Div x e) (Div x' e') d =
          subst (λ n. Steps (dividing x (division_of (scene_of s) e) s) (dividing x' n t)) (sym d.0) (divided x x' (division_of (scene_of s) e) s t h d.1)
      go (Dos number place argument) (Dos number' place' argument') d =
          subst (λ m. Steps (dos_step number place (argument_in s argument) s) (dos_step m place' (argument_in t argument') t)) (sym d.0)
          (subst (λ n. Steps (dos_step number place (argument_in s argument) s) (dos_step number place' n t)) (sym d.1)
          (dos-same number (argument_in s argument) place place' s t entry h d.2 d.3))
      go (Set x e) (Fetch x' width' a') d = absurd d
      go (Set x e) (Store width' a' e') d = absurd d
      go (Set x e) (Div x' e') d = absurd d
      go (Set x e) (Call r' n' a' d') d = absurd d
      go (Set x e) (Dos n' p' a') d = absurd d
      go (Fetch x width a) (Set x' e') d = absurd d
      go (Fetch x width a) (Store width' a' e') d = absurd d
      go (Fetch x width a) (Div x' e') d = absurd d
      go (Fetch x width a) (Call r' n' a' d') d = absurd d
      go (Fetch x width a) (Dos n' p' a') d = absurd d
      go (Store width a e) (Set x' e') d = absurd d
      go (Store width a e) (Fetch x' width' a') d = absurd d
      go (Store width a e) (Div x' e') d = absurd d
      go (Store width a e) (Call r' n' a' d') d = absurd d
      go (Store width a e) (Dos n' p' a') d = absurd d
      go (Div x e) (Set x' e') d = absurd d
      go (Div x e) (Fetch x' width' a') d = absurd d
      go (Div x e) (Store width' a' e') d = absurd d
      go (Div x e) (Call r' n' a' d') d = absurd d
      go (Div x e) (Dos n' p' a') d = absurd d
      go (Call r n a d) (Set x' e') f = absurd f
      go (Call r n a d) (Fetch x' width' a') f = absurd f
      go (Call r n a d) (Store width' a' e') f = absurd f
      go (Call r n a d) (Div x' e') f = absurd f
      go (Call r n a d) (Call r' n' a' d') f = absurd f
      go (Call r n a d) (Dos n' p' a') f = absurd f
      go (Dos n p a) (Set x' e') d = absurd d
      go (Dos n p a) (Fetch x' width' a') d = absurd d
      go (Dos n p a) (Store width' a' e') d = absurd d
      go (Dos n p a) (Div x' e') d = absurd d
      go (Dos n p a) (Call r' n' a' d') d = absurd d

-- a statement that is no call runs, and then what follows
no-call-runs : (stmt : Stmt) (rest : List Stmt) (s : State) → is_call stmt ≡ false
    → local_run (stmt ∷ rest) s ≡ (if is_over (stmt_step stmt s).end then Over (stmt_step stmt s) else local_run rest (stmt_step stmt s))
no-call-runs (Set x e) rest s plain = refl
no-call-runs (Fetch x width a) rest s plain = refl
no-call-runs (Store width a e) rest s plain = refl
no-call-runs (Div x e) rest s plain = refl
no-call-runs (Call r n a d) rest s plain = absurd (true≢false plain)
no-call-runs (Dos n p a) rest s plain = refl

no-call-passed : (stmt : Stmt) (rest : List Stmt) → is_call stmt ≡ false → after_call (stmt ∷ rest) ≡ after_call rest
no-call-passed (Set x e) rest plain = refl
no-call-passed (Fetch x width a) rest plain = refl
no-call-passed (Store width a e) rest plain = refl
no-call-passed (Div x e) rest plain = refl
no-call-passed (Call r n a d) rest plain = absurd (true≢false plain)
no-call-passed (Dos n p a) rest plain = refl

assignment-is-no-call : (stmt : Stmt) → is_assignment stmt ≡ true → is_call stmt ≡ false
assignment-is-no-call (Set x e) is = refl
assignment-is-no-call (Fetch x width a) is = refl
assignment-is-no-call (Store width a e) is = refl
assignment-is-no-call (Div x e) is = refl
assignment-is-no-call (Call r n a d) is = absurd (true≢false (sym is))
assignment-is-no-call (Dos n p a) is = refl

-- an assignment changes values alone
record ChangesValues (s u : State) : Type 0 where
  memory : u.memory ≡ s.memory
  input : u.input ≡ s.input
  events : u.events ≡ s.events
  end : u.end ≡ s.end

assignment-changes : (stmt : Stmt) (s : State) → is_assignment stmt ≡ true → ChangesValues s (stmt_step stmt s)
assignment-changes (Set x e) s is = record { memory = refl; input = refl; events = refl; end = refl }
assignment-changes (Fetch x width a) s is = record { memory = refl; input = refl; events = refl; end = refl }
assignment-changes (Store width a e) s is = absurd (true≢false (sym is))
assignment-changes (Div x e) s is = absurd (true≢false (sym is))
assignment-changes (Call r n a d) s is = absurd (true≢false (sym is))
assignment-changes (Dos n p a) s is = absurd (true≢false (sym is))

-- What fits.

-- what a state holds that fits
is-fit : (s : State) → StateFits s → IsFit s
is-fit s h = record {
  values = h.running.values;
  memory = record { len = h.running.len; bytes = h.running.bytes };
  console = record { left = h.input; written = h.written; taken = h.taken };
}

-- the first of well-formed statements keeps what fits
first-fits : (graph : Graph) (stmt : Stmt) (rest : List Stmt) (s : State) → s.running.graph ≡ graph → list_all (is_stmt graph.bits) (stmt ∷ rest) ≡ true → IsFit s → IsFit (stmt_step stmt s)
first-fits graph stmt rest s runs formed fit =
    stmt-fit stmt s (subst (λ (g : Graph). is_stmt g.bits stmt ≡ true) (sym runs) (and-both (is_stmt graph.bits stmt) (list_all (is_stmt graph.bits) rest) formed).0) fit

rest-formed : (graph : Graph) (stmt : Stmt) (rest : List Stmt) → list_all (is_stmt graph.bits) (stmt ∷ rest) ≡ true → list_all (is_stmt graph.bits) rest ≡ true
rest-formed graph stmt rest formed = (and-both (is_stmt graph.bits stmt) (list_all (is_stmt graph.bits) rest) formed).1

-- what is left of well-formed statements after calls is well formed
formed-after-call : (graph : Graph) (stmts : List Stmt) → list_all (is_stmt graph.bits) stmts ≡ true → list_all (is_stmt graph.bits) (after_call stmts) ≡ true
formed-after-call graph [] formed = formed
formed-after-call graph (Set x e ∷ rest) formed = formed-after-call graph rest (rest-formed graph (Set x e) rest formed)
formed-after-call graph (Fetch x width a ∷ rest) formed = formed-after-call graph rest (rest-formed graph (Fetch x width a) rest formed)
formed-after-call graph (Store width a e ∷ rest) formed = formed-after-call graph rest (rest-formed graph (Store width a e) rest formed)
formed-after-call graph (Div x e ∷ rest) formed = formed-after-call graph rest (rest-formed graph (Div x e) rest formed)
formed-after-call graph (Call r n a d ∷ rest) formed = rest-formed graph (Call r n a d) rest formed
formed-after-call graph (Dos n p a ∷ rest) formed = formed-after-call graph rest (rest-formed graph (Dos n p a) rest formed)

formed-after-calls : (graph : Graph) (n : ℕ) (stmts : List Stmt) → list_all (is_stmt graph.bits) stmts ≡ true → list_all (is_stmt graph.bits) (after_calls n stmts) ≡ true
formed-after-calls graph zero stmts formed = formed
formed-after-calls graph (suc n) stmts formed = formed-after-call graph (after_calls n stmts) (formed-after-calls graph n stmts formed)

-- the statements that are left at a point of a well-formed program are well formed
left-formed : (p : Program) → IsProgram p → (entry place n : ℕ) (graph : Graph) (block : Block) → graph_at p.graphs entry ≡ Some graph → slice_get graph.blocks place ≡ Some block
    → list_all (is_stmt graph.bits) (after_calls n block.stmts) ≡ true
left-formed p well entry place n graph block found placed =
    let known = found_contained (λ (g : Graph). g.entry == entry) p.graphs graph found in
    let fine = All-contains IsGraph p.graphs graph well.graphs known in
    let formed = all_at (is_block graph.bits (length graph.blocks)) graph.blocks block fine.blocks (contained graph.blocks place block placed) in
    formed-after-calls graph n block.stmts (and-both (list_all (is_stmt graph.bits) block.stmts) (is_exit graph.bits (length graph.blocks) block.exit) formed).0

-- What is left after calls.

module _ (before after : Graph) (link : List Stmt → Bond) where
  abbrev Follows : List Stmt → List Stmt → Type 0
  Follows = IsFollowedBy before after link

  pub follows-after_call : (xs ys : List Stmt) → Follows xs ys → Follows (after_call xs) (after_call ys)
  follows-after_call xs ys done = done
  follows-after_call xs ys (both {stmt = stmt} {stmt' = stmt'} {rest = rest} {rest' = rest'} plain plain' alike w) =
      subst (λ zs. Follows zs (after_call (stmt' ∷ rest'))) (sym (no-call-passed stmt rest plain))
      (subst (Follows (after_call rest)) (sym (no-call-passed stmt' rest' plain')) (follows-after_call rest rest' w))
  follows-after_call xs ys (steps {stmt = stmt} {stmt' = stmt'} {rest = rest} {rest' = rest'} plain plain' stepped w) =
      subst (λ zs. Follows zs (after_call (stmt' ∷ rest'))) (sym (no-call-passed stmt rest plain))
      (subst (Follows (after_call rest)) (sym (no-call-passed stmt' rest' plain')) (follows-after_call rest rest' w))
  follows-after_call xs ys (calls passed given w) = w
  follows-after_call xs ys (drops {rest = rest} {rest' = rest'} faults left w) = follows-after_call rest rest' w
  follows-after_call xs ys (goes {stmt = stmt} {rest = rest} {rest' = rest'} is left w) =
      subst (λ zs. Follows zs (after_call rest')) (sym (no-call-passed stmt rest (assignment-is-no-call stmt is))) (follows-after_call rest rest' w)
  follows-after_call xs ys (comes {stmt' = stmt'} {rest = rest} {rest' = rest'} is left w) =
      subst (Follows (after_call rest)) (sym (no-call-passed stmt' rest' (assignment-is-no-call stmt' is))) (follows-after_call rest rest' w)
  follows-after_call xs ys (joins {stmt = stmt} {next = next} {stmt' = stmt'} {rest = rest} {rest' = rest'} is is-next is' joined w) =
      subst (λ zs. Follows zs (after_call (stmt' ∷ rest'))) (sym (no-call-passed stmt (next ∷ rest) (assignment-is-no-call stmt is) ∙ no-call-passed next rest (assignment-is-no-call next is-next)))
      (subst (Follows (after_call rest)) (sym (no-call-passed stmt' rest' (assignment-is-no-call stmt' is'))) (follows-after_call rest rest' w))

  follows-after_calls : (n : ℕ) (xs ys : List Stmt) → Follows xs ys → Follows (after_calls n xs) (after_calls n ys)
  follows-after_calls zero xs ys w = w
  follows-after_calls (suc n) xs ys w = follows-after_call (after_calls n xs) (after_calls n ys) (follows-after_calls n xs ys w)

-- From a point of a block.

module _ (before after : Graph) (link : Link) (entry : after.entry ≡ before.entry) (a : List ℕ) (point : Point) (block new : Block)
    (placed : slice_get before.blocks point.place ≡ Some block) (is : IsFollowedByBlock before after link point.place block new) where
  abbrev Meets : Halt → Halt → Type 0
  Meets = Meet (one_pass (λ k. k) (linked before after link)) a point 0

  record Stand (xs ys : List Stmt) (s t : State) : Type 0 where
    first : s.running.graph ≡ before
    second : t.running.graph ≡ after
    outside : AgreeOutside s t
    holds : link point.place xs (scene_of s) t.running.values
    fit : IsFit s
    fit' : IsFit t
    formed : list_all (is_stmt before.bits) xs ≡ true
    formed' : list_all (is_stmt after.bits) ys ≡ true
    running : is_over s.end ≡ false
    end : t.end ≡ s.end
    here : s.running.block ≡ block
    there : t.running.block ≡ new
    follows : after_call xs ≡ after_calls (suc point.calls) block.stmts

  run-alike : (xs ys : List Stmt) (s t : State) → Stand xs ys s t → RunAlike before after (link point.place xs) s t
  run-alike xs ys s t st = record { first = st.first; second = st.second; outside = st.outside; first_fits = scene-fits s st.fit; second_fits = scene-fits t st.fit'; holds = st.holds }

  entries : (s t : State) → s.running.graph ≡ before → t.running.graph ≡ after → t.running.graph.entry ≡ s.running.graph.entry
  entries s t first second = ap (λ (g : Graph). g.entry) second ∙ entry ∙ sym (ap (λ (g : Graph). g.entry) first)

  jumps : (k k' : ℕ) (s t : State) → k' ≡ k → Contains (targets block.exit) k → RunAlike before after (link point.place []) s t → Meets (Jumps k s) (Jumps k' t)
  jumps k k' s t same to h = record {
    stands = sym same;
    outside = h.outside;
    holds = λ next found.
        subst (λ n. Anywhere (link n next.stmts) before.bits s.running.values t.running.values) (sym same)
        (is.goes k next s t to (subst (λ n. slice_get before.blocks n ≡ Some next) same found) h);
  }

  one-of : (b : Bool) (one other : ℕ) → Contains (one ∷ other ∷ []) (if b then one else other)
  one-of true one other = Contains-here one (other ∷ [])
  one-of false one other = Contains-later one (other ∷ []) other (Contains-here other [])

  no-way : (s t : State) → RunAlike before after (link point.place []) s t → EndAlike (stuck s) (stuck t)
  no-way s t h = record { end = ap Stuck (entries s t h.first h.second); events = h.outside.events }

  exits : (exit exit' : Exit) → block.exit ≡ exit → (s t : State) → RunAlike before after (link point.place []) s t → EndsAlike s t exit exit' → Meets (exit_halt exit s) (exit_halt exit' t)
  exits (Goto k) (Goto k') same s t h d = jumps k k' s t d (subst (λ x. Contains (targets x) k) (sym same) (Contains-here k [])) h
  exits (If test one other) (If test' one' other') same s t h d =
      jumps _ _ s t (let x = d.0 in let y = d.1 in let z = d.2 in cc)
      (subst (λ x. Contains (targets x) (if value_in s test == 1 then one else other)) (sym same) (one-of (value_in s test == 1) one other)) h
  exits (Switch e places) (Switch e' places') same s t h d =
      subst (λ o. Meets (switch_halt (slice_get places (value_in s e)) s) (switch_halt o t))
      (sym (ap₂ (λ l n. slice_get l n) d.1 d.0)) (go (value_in s e) (slice_get places (value_in s e)) refl)
    where
      go : (n : ℕ) (k : Option ℕ) → slice_get places n ≡ k → Meets (switch_halt k s) (switch_halt k t)
      go n (Some k) found = jumps k k s t refl (subst (λ x. Contains (targets x) k) (sym same) (contained places n k found)) h
      go n None found = no-way s t h
  exits (Ret values) (Ret values') same s t h d = record { outside = h.outside; leaves = d }
  exits Stop Stop same s t h d = no-way s t h
  exits (Goto k) (If test' one' other') same s t h d = absurd d
  exits (Goto k) (Switch e' places') same s t h d = absurd d
  exits (Goto k) (Ret values') same s t h d = absurd d
  exits (Goto k) Stop same s t h d = absurd d
  exits (If test one other) (Goto k') same s t h d = absurd d
  exits (If test one other) (Switch e' places') same s t h d = absurd d
  exits (If test one other) (Ret values') same s t h d = absurd d
  exits (If test one other) Stop same s t h d = absurd d
  exits (Switch e places) (Goto k') same s t h d = absurd d
  exits (Switch e places) (If test' one' other') same s t h d = absurd d
  exits (Switch e places) (Ret values') same s t h d = absurd d
  exits (Switch e places) Stop same s t h d = absurd d
  exits (Ret values) (Goto k') same s t h d = absurd d
  exits (Ret values) (If test' one' other') same s t h d = absurd d
  exits (Ret values) (Switch e' places') same s t h d = absurd d
  exits (Ret values) Stop same s t h d = absurd d
  exits Stop (Goto k') same s t h d = absurd d
  exits Stop (If test' one' other') same s t h d = absurd d
  exits Stop (Switch e' places') same s t h d = absurd d
  exits Stop (Ret values') same s t h d = absurd d

  -- either both are over, or what follows meets
  go-on : (s t : State) (halt halt' : Halt) (b : Bool) → EndAlike s t → (is_over s.end ≡ false → Meets halt halt') → is_over s.end ≡ b →
      Meets (if b then Over s else halt) (if b then Over t else halt')
  go-on s t halt halt' true over on e = over
  go-on s t halt halt' false over on e = on e

  -- after two statements that are no calls, what follows meets
  step-on : (stmt stmt' : Stmt) (rest rest' : List Stmt) (s t : State) → Stand (stmt ∷ rest) (stmt' ∷ rest') s t → is_call stmt ≡ false → is_call stmt' ≡ false
      → Stepped (link point.place rest) (stmt_step stmt s) (stmt_step stmt' t)
      → ((s' t' : State) → Stand rest rest' s' t' → Meets (local_run rest s') (local_run rest' t'))
      → Meets (local_run (stmt ∷ rest) s) (local_run (stmt' ∷ rest') t)
  step-on stmt stmt' rest rest' s t st plain plain' next later =
      let s' = stmt_step stmt s in
      let t' = stmt_step stmt' t in
      let on = λ (e : is_over s'.end ≡ false). later s' t' (record {
        first = ap (λ (f : Frame). f.graph) (stmt-frame stmt s) ∙ st.first;
        second = ap (λ (f : Frame). f.graph) (stmt-frame stmt' t) ∙ st.second;
        outside = next.outside;
        holds = next.holds e;
        fit = first-fits before stmt rest s st.first st.formed st.fit;
        fit' = first-fits after stmt' rest' t st.second st.formed' st.fit';
        formed = rest-formed before stmt rest st.formed;
        formed' = rest-formed after stmt' rest' st.formed';
        running = e;
        end = next.end;
        here = ap (λ (f : Frame). f.block) (stmt-frame stmt s) ∙ st.here;
        there = ap (λ (f : Frame). f.block) (stmt-frame stmt' t) ∙ st.there;
        follows = sym (no-call-passed stmt rest plain) ∙ st.follows;
      }) in
      subst (λ halt. Meets halt (local_run (stmt' ∷ rest') t)) (sym (no-call-runs stmt rest s plain))
      (subst (λ halt. Meets (if is_over s'.end then Over s' else local_run rest s') halt) (sym (no-call-runs stmt' rest' t plain'))
      (subst (λ b. Meets (if is_over s'.end then Over s' else local_run rest s') (if b then Over t' else local_run rest' t')) (sym (ap is_over next.end))
      (go-on s' t' (local_run rest s') (local_run rest' t') (is_over s'.end) (record { end = next.end; events = next.outside.events }) on refl)))

  -- where a division faults, the second statements do at once
  fault-on : (ys : List Stmt) (s t : State) → AgreeOutside s t → FaultsFirst ys t → Meets (Over (ended Divide s)) (local_run ys t)
  fault-on (Div x f ∷ ys) s t outside faults =
      subst (λ o. Meets (Over (ended Divide s)) (if is_over (dividing x o t).end then Over (dividing x o t) else local_run ys (dividing x o t)))
      (sym faults) (record { end = refl; events = outside.events })
  fault-on [] s t outside faults = absurd faults
  fault-on (Set x f ∷ ys) s t outside faults = absurd faults
  fault-on (Fetch x width a ∷ ys) s t outside faults = absurd faults
  fault-on (Store width a f ∷ ys) s t outside faults = absurd faults
  fault-on (Call r n a d ∷ ys) s t outside faults = absurd faults
  fault-on (Dos n p a ∷ ys) s t outside faults = absurd faults

  walk : (xs ys : List Stmt) → IsFollowedBy before after (link point.place) xs ys → (s t : State) → Stand xs ys s t → Meets (local_run xs s) (local_run ys t)
  walk xs ys done s t st =
      let alike = run-alike [] [] s t st in
      subst (λ exit. Meets (exit_halt exit s) (exit_halt t.running.block.exit t)) (sym (ap (λ (b : Block). b.exit) st.here))
      (subst (λ exit. Meets (exit_halt block.exit s) (exit_halt exit t)) (sym (ap (λ (b : Block). b.exit) st.there))
      (exits block.exit new.exit refl s t alike (is.exit s t alike)))
  walk xs ys (both {stmt = stmt} {stmt' = stmt'} {rest = rest} {rest' = rest'} plain plain' alike w) s t st =
      step-on stmt stmt' rest rest' s t st plain plain'
      (steps-alike (link point.place rest) stmt stmt' s t st.outside st.end (entries s t st.first st.second) (alike s t (run-alike (stmt ∷ rest) (stmt' ∷ rest') s t st)))
      (walk rest rest' w)
  walk xs ys (steps {stmt = stmt} {stmt' = stmt'} {rest = rest} {rest' = rest'} plain plain' stepped w) s t st =
      step-on stmt stmt' rest rest' s t st plain plain' (stepped s t (run-alike (stmt ∷ rest) (stmt' ∷ rest') s t st) st.end) (walk rest rest' w)
  walk xs ys (drops {location = x} {e = e} {rest = rest} {rest' = rest'} faults left w) s t st = go (division_of (scene_of s) e) refl (λ u at. walk rest rest' w u t at)
    where
      alike : RunAlike before after (link point.place (Div x e ∷ rest)) s t
      alike = run-alike (Div x e ∷ rest) rest' s t st

      go : (o : Option ℕ) → division_of (scene_of s) e ≡ o → ((u : State) → Stand rest rest' u t → Meets (local_run rest u) (local_run rest' t))
          → Meets (if is_over (dividing x o s).end then Over (dividing x o s) else local_run rest (dividing x o s)) (local_run rest' t)
      go None is later = fault-on rest' s t st.outside (faults s t alike is)
      go (Some n) is later =
          subst (λ b. Meets (if b then Over (setting x n s) else local_run rest (setting x n s)) (local_run rest' t)) (sym st.running)
          (later (setting x n s) (record {
            first = st.first;
            second = st.second;
            outside = record { memory = st.outside.memory; input = st.outside.input; events = st.outside.events; base = st.outside.base };
            holds = left s t n alike is;
            fit = subst (λ o. IsFit (dividing x o s)) is (first-fits before (Div x e) rest s st.first st.formed st.fit);
            fit' = st.fit';
            formed = rest-formed before (Div x e) rest st.formed;
            formed' = st.formed';
            running = st.running;
            end = st.end;
            here = st.here;
            there = st.there;
            follows = st.follows;
          }))
  walk xs ys (calls {results = results} {results' = results'} {entry = callee} {depth = depth} {arguments = arguments} {arguments' = arguments'} {rest = rest} {rest' = rest'} passed given w) s t st =
      let alike = run-alike (Call results callee arguments depth ∷ rest) (Call results' callee arguments' depth ∷ rest') s t st in
      record {
        at_once = refl;
        entry = refl;
        depth = refl;
        outside = record { memory = st.outside.memory; input = st.outside.input; events = st.outside.events; base = st.outside.base };
        enters = passed s t alike;
        resumes = λ r r' fit fit' leaves there found.
            let v = s.running.values in
            let v' = t.running.values in
            let same : there ≡ block = some_same there block (sym found ∙ placed) in
            let fits = subst (λ (g : Graph). FitIn (map (location_width g.bits) results) r) st.first fit in
            let Given = λ (l : List Stmt) (q : List ℕ). Anywhere (link point.place l) before.bits (with_values v results r) (with_values v' results' q) in
            subst (λ (b : Block). Given (after_calls (suc point.calls) b.stmts) r') (sym same)
            (subst (λ l. Given l r') st.follows (subst (λ q. Given rest q) (sym leaves) (given s t r alike fits)));
      }
  walk xs ys (goes {stmt = stmt} {rest = rest} {rest' = rest'} assigns left w) s t st =
      let s' = stmt_step stmt s in
      let c = assignment-changes stmt s assigns in
      let plain = assignment-is-no-call stmt assigns in
      let on : is_over s'.end ≡ false = ap is_over c.end ∙ st.running in
      let f = stmt-frame stmt s in
      let o = st.outside in
      subst (λ halt. Meets halt (local_run rest' t)) (sym (no-call-runs stmt rest s plain))
      (subst (λ b. Meets (if b then Over s' else local_run rest s') (local_run rest' t)) (sym on)
      (walk rest rest' w s' t (record {
        first = ap (λ (f : Frame). f.graph) f ∙ st.first;
        second = st.second;
        outside = record {
          memory = o.memory ∙ sym c.memory;
          input = o.input ∙ sym c.input;
          events = o.events ∙ sym c.events;
          base = o.base ∙ sym (ap (λ (f : Frame). f.base) f);
        };
        holds = left s t (run-alike (stmt ∷ rest) rest' s t st);
        fit = first-fits before stmt rest s st.first st.formed st.fit;
        fit' = st.fit';
        formed = rest-formed before stmt rest st.formed;
        formed' = st.formed';
        running = on;
        end = st.end ∙ sym c.end;
        here = ap (λ (f : Frame). f.block) f ∙ st.here;
        there = st.there;
        follows = sym (no-call-passed stmt rest plain) ∙ st.follows;
      })))
  walk xs ys (comes {stmt' = stmt'} {rest = rest} {rest' = rest'} assigns left w) s t st =
      let t' = stmt_step stmt' t in
      let c = assignment-changes stmt' t assigns in
      let plain = assignment-is-no-call stmt' assigns in
      let on : is_over t'.end ≡ false = ap is_over c.end ∙ ap is_over st.end ∙ st.running in
      let f = stmt-frame stmt' t in
      let o = st.outside in
      subst (λ halt. Meets (local_run rest s) halt) (sym (no-call-runs stmt' rest' t plain))
      (subst (λ b. Meets (local_run rest s) (if b then Over t' else local_run rest' t')) (sym on)
      (walk rest rest' w s t' (record {
        first = st.first;
        second = ap (λ (f : Frame). f.graph) f ∙ st.second;
        outside = record {
          memory = c.memory ∙ o.memory;
          input = c.input ∙ o.input;
          events = c.events ∙ o.events;
          base = ap (λ (f : Frame). f.base) f ∙ o.base;
        };
        holds = left s t (run-alike rest (stmt' ∷ rest') s t st);
        fit = st.fit;
        fit' = first-fits after stmt' rest' t st.second st.formed' st.fit';
        formed = st.formed;
        formed' = rest-formed after stmt' rest' st.formed';
        running = st.running;
        end = c.end ∙ st.end;
        here = st.here;
        there = ap (λ (f : Frame). f.block) f ∙ st.there;
        follows = st.follows;
      })))
  walk xs ys (joins {stmt = stmt} {next = next} {stmt' = stmt'} {rest = rest} {rest' = rest'} assigns assigns-next assigns' joined w) s t st =
      let u = stmt_step stmt s in
      let s' = stmt_step next u in
      let t' = stmt_step stmt' t in
      let a = assignment-changes stmt s assigns in
      let b = assignment-changes next u assigns-next in
      let c = assignment-changes stmt' t assigns' in
      let plain = assignment-is-no-call stmt assigns in
      let plain-next = assignment-is-no-call next assigns-next in
      let plain' = assignment-is-no-call stmt' assigns' in
      let on-u : is_over u.end ≡ false = ap is_over a.end ∙ st.running in
      let on : is_over s'.end ≡ false = ap is_over b.end ∙ on-u in
      let on' : is_over t'.end ≡ false = ap is_over c.end ∙ ap is_over st.end ∙ st.running in
      let f = stmt-frame stmt s in
      let g = stmt-frame next u in
      let f' = stmt-frame stmt' t in
      let o = st.outside in
      let in-u : u.running.graph ≡ before = ap (λ (f : Frame). f.graph) f ∙ st.first in
      let formed-u = rest-formed before stmt (next ∷ rest) st.formed in
      subst (λ halt. Meets halt (local_run (stmt' ∷ rest') t)) (sym (no-call-runs stmt (next ∷ rest) s plain))
      (subst (λ b. Meets (if b then Over u else local_run (next ∷ rest) u) (local_run (stmt' ∷ rest') t)) (sym on-u)
      (subst (λ halt. Meets halt (local_run (stmt' ∷ rest') t)) (sym (no-call-runs next rest u plain-next))
      (subst (λ b. Meets (if b then Over s' else local_run rest s') (local_run (stmt' ∷ rest') t)) (sym on)
      (subst (λ halt. Meets (local_run rest s') halt) (sym (no-call-runs stmt' rest' t plain'))
      (subst (λ b. Meets (local_run rest s') (if b then Over t' else local_run rest' t')) (sym on')
      (walk rest rest' w s' t' (record {
        first = ap (λ (f : Frame). f.graph) g ∙ in-u;
        second = ap (λ (f : Frame). f.graph) f' ∙ st.second;
        outside = record {
          memory = c.memory ∙ o.memory ∙ sym a.memory ∙ sym b.memory;
          input = c.input ∙ o.input ∙ sym a.input ∙ sym b.input;
          events = c.events ∙ o.events ∙ sym a.events ∙ sym b.events;
          base = ap (λ (f : Frame). f.base) f' ∙ o.base ∙ sym (ap (λ (f : Frame). f.base) f) ∙ sym (ap (λ (f : Frame). f.base) g);
        };
        holds = joined s t (run-alike (stmt ∷ next ∷ rest) (stmt' ∷ rest') s t st);
        fit = first-fits before next rest u in-u formed-u (first-fits before stmt (next ∷ rest) s st.first st.formed st.fit);
        fit' = first-fits after stmt' rest' t st.second st.formed' st.fit';
        formed = rest-formed before next rest formed-u;
        formed' = rest-formed after stmt' rest' st.formed';
        running = on;
        end = c.end ∙ st.end ∙ sym a.end ∙ sym b.end;
        here = ap (λ (f : Frame). f.block) g ∙ ap (λ (f : Frame). f.block) f ∙ st.here;
        there = ap (λ (f : Frame). f.block) f' ∙ st.there;
        follows = sym (no-call-passed stmt (next ∷ rest) plain ∙ no-call-passed next rest plain-next) ∙ st.follows;
      })))))))

-- The whole graph.

module _ (before after : Graph) (link : Link) (entry : after.entry ≡ before.entry) (is : IsFollowedByGraph before after link) where
  followed-goes : GoesIn (λ k. k) before after (linked before after link)
  followed-goes p q formed formed' a point s t here together first second = (
    0,
    let placed = subst (λ (g : Graph). slice_get g.blocks point.place ≡ Some s.running.block) first together.first.at.block in
        let placed' = subst (λ (g : Graph). slice_get g.blocks point.place ≡ Some t.running.block) second together.second.at.block in
        let pair = is.blocks point.place s.running.block t.running.block placed placed' in
        let w = follows-after_calls before after (link point.place) point.calls s.running.block.stmts t.running.block.stmts pair.stmts in
        let rests = subst (λ r. IsFollowedBy before after (link point.place) r t.running.rest) (sym together.first.at.rest)
        (subst (IsFollowedBy before after (link point.place) (after_calls point.calls s.running.block.stmts)) (sym together.second.at.rest) w) in
        let left = left-formed p formed point.entry point.place point.calls s.running.graph s.running.block together.first.at.graph together.first.at.block in
        let left' = left-formed q formed' point.entry point.place point.calls t.running.graph t.running.block together.second.at.graph together.second.at.block in
        walk before after link entry a point s.running.block t.running.block placed pair s.running.rest t.running.rest rests s t (record {
          first = first;
          second = second;
          outside = together.outside;
          holds = subst (λ r. link point.place r (scene_of s) t.running.values) (sym together.first.at.rest)
              (subst (λ (g : Graph). link point.place (after_calls point.calls s.running.block.stmts) (record (scene_of s) { bits = g.bits }) t.running.values) (sym first)
              (together.holds s.running.block placed s.running.base s.memory));
          fit = is-fit s together.first.fits;
          fit' = is-fit t together.second.fits;
          formed = subst (λ (g : Graph). list_all (is_stmt g.bits) s.running.rest ≡ true) first (subst (λ r. list_all (is_stmt s.running.graph.bits) r ≡ true) (sym together.first.at.rest) left);
          formed' = subst (λ (g : Graph). list_all (is_stmt g.bits) t.running.rest ≡ true) second (subst (λ r. list_all (is_stmt t.running.graph.bits) r ≡ true) (sym together.second.at.rest) left');
          running = together.first.running;
          end = is_running t.end together.second.running ∙ sym (is_running s.end together.first.running);
          here = refl;
          there = refl;
          follows = ap after_call together.first.at.rest;
        }),
  )

-- a well-formed graph that stays in kind and follows another statement by statement stands for it
pub followed-stands : (before after : Graph) (link : Link) → StaysInKind before after → IsGraph after → IsFollowedByGraph before after link → StandsFor before after
followed-stands before after link kind fine is =
    one-stands (λ k. k) (linked before after link) before after (kind-fits before after kind fine) is.begins (followed-goes before after link kind.entry is)
