-- A graph runs as it does with assignments of loads for statements that load.
use Rattle.std.proofs.Common.{◌≡◌, ℕ, zero, suc, Bool, true, false, List, [], ◌∷◌, Option, Some, None, refl, sym, ap, ap₂, ◌∙◌, subst, slice_get, map}
use Rattle.std.specs.Prelude.{if◌then◌else◌, ◌==◌, option_map}
use Rattle.std.proofs.Math.Path.{fun_ext}
use Rattle.dcc_run.specs.End.{Stuck, is_over}
use Rattle.dcc_ir.specs.declared.syntax.Loc.{Loc}
use Rattle.dcc_ir.specs.Tree.{Expr, Load, Stmt, Set, Fetch, Store, Div, Call, Dos, Exit, Goto, If, Switch, Ret, Stop, Block, Graph}
use Rattle.dcc_ir.specs.Location.{with_value}
use Rattle.dcc_ir.specs.Value.{Environment, value_of, division_of}
use Rattle.dcc_ir.specs.Run.{Activation, State, scene_of, value_in, argument_in, stmt_step}
use Rattle.dcc_ir.specs.Local.{Point, after_call, after_calls, Halt, Over, Jumps, switch_halt, exit_halt, local_run}
use Rattle.dcc_ir.specs.Passes.{with_values, AgreeOutside, Meet}
use Rattle.dcc_ir.proofs.passes.LocalLaws.{some_same, is_running, Frame, stmt-frame}
use Rattle.dcc_ir.proofs.passes.SameLaws.{taken_same}
use Rattle.dcc_passes.specs.OneGraph.{Invariant, one_pass, BeginsIn, GoesIn}
use Rattle.dcc_passes.specs.Following.{Bond, TakeAlike, DoAlike, Stepped}
use Rattle.dcc_passes.proofs.FollowLaws.{steps-alike}
use Rattle.dcc_loads.specs.Sets.{as_set, block_with_sets, with_sets}

-- all locations hold the same
abbrev pub same_values : Invariant
same_values point v v' = v' ≡ v

abbrev Same : Bond
Same scene v' = v' ≡ scene.values

-- two states that have the same but for the graphs that they run, whose blocks end alike
record Alike (s t : State) : Type 0 where
  outside : AgreeOutside s t
  values : t.running.values ≡ s.running.values
  bits : t.running.graph.bits ≡ s.running.graph.bits
  entry : t.running.graph.entry ≡ s.running.graph.entry
  exit : t.running.block.exit ≡ s.running.block.exit
  end : t.end ≡ s.end

-- Expressions have one value in both, and statements do the same.

same-scene : (s t : State) → Alike s t → scene_of t ≡ scene_of s
same-scene s t h =
    λ i. record { bits = h.bits i; values = h.values i; base = h.outside.base i; memory = h.outside.memory i }

module _ (s t : State) (h : Alike s t) where
  value-same : (e : Expr) → value_in t e ≡ value_in s e
  value-same e = ap (λ (scene : Environment). value_of scene e) (same-scene s t h)

  argument-same : (argument : Option Expr) → argument_in t argument ≡ argument_in s argument
  argument-same (Some e) = value-same e
  argument-same None = refl

  with-same : (x : Loc) (n : ℕ) → with_value t.running.values x n ≡ with_value s.running.values x n
  with-same x n = ap (λ v. with_value v x n) h.values

  take-same : (place : Option Loc) → TakeAlike Same (scene_of s) t.running.values place place
  take-same (Some x) = λ n. with-same x n
  take-same None = h.values

  set-alike : (x : Loc) (e : Expr) → DoAlike Same s t (Set x e) (Set x e)
  set-alike x e = ap₂ (λ v n. with_value v x n) h.values (value-same e)

  store-alike : (width : ℕ) (a e : Expr) → DoAlike Same s t (Store width a e) (Store width a e)
  store-alike width a e = (refl, value-same a, value-same e, h.values)

  div-alike : (x : Loc) (e : Expr) → DoAlike Same s t (Div x e) (Div x e)
  div-alike x e = (ap (λ (scene : Environment). division_of scene e) (same-scene s t h), λ n. with-same x n)

  dos-alike : (number : ℕ) (place : Option Loc) (argument : Option Expr)
      → DoAlike Same s t (Dos number place argument) (Dos number place argument)
  dos-alike number place argument = (refl, argument-same argument, take-same place, λ other. h.values)

-- Runs up to calls, edges and returns.

module _ (a : List ℕ) (point : Point) where
  abbrev Meets : Halt → Halt → Type 0
  Meets = Meet (one_pass (λ k. k) same_values) a point 0

  jump-meets : (k : ℕ) (s t : State) → Alike s t → Meets (Jumps k s) (Jumps k t)
  jump-meets k s t h = record { stands = refl; outside = h.outside; holds = h.values }

  exit-meets : (exit : Exit) (s t : State) → Alike s t → Meets (exit_halt exit s) (exit_halt exit t)
  exit-meets (Goto k) s t h = jump-meets k s t h
  exit-meets (If test one other) s t h =
      subst (λ n. Meets (exit_halt (If test one other) s) (Jumps (if n == 1 then one else other) t))
      (sym (value-same s t h test)) (jump-meets (if value_in s test == 1 then one else other) s t h)
  exit-meets (Switch e places) s t h =
      subst (λ n. Meets (exit_halt (Switch e places) s) (switch_halt (slice_get places n) t)) (sym (value-same s t h e))
      (by (slice_get places (value_in s e)))
    where
      by : (place : Option ℕ) → Meets (switch_halt place s) (switch_halt place t)
      by (Some k) = jump-meets k s t h
      by None = record { end = ap Stuck h.entry; events = h.outside.events }
  exit-meets (Ret values) s t h = record {
    outside = h.outside;
    leaves = ap (λ (scene : Environment). map (value_of scene) values) (same-scene s t h);
  }
  exit-meets Stop s t h = record { end = ap Stuck h.entry; events = h.outside.events }

  abbrev goes-on : List Stmt → State → Halt
  goes-on rest next = if is_over next.end then Over next else local_run rest next

  -- after a statement that both do both go on
  both-go : (stmt : Stmt) (rest rest' : List Stmt) (s t : State) → Alike s t → DoAlike Same s t stmt stmt
      → ((s t : State) → Alike s t → Meets (local_run rest s) (local_run rest' t))
      → Meets (goes-on rest (stmt_step stmt s)) (goes-on rest' (stmt_step stmt t))
  both-go stmt rest rest' s t h does next =
      subst (λ b. Meets (goes-on rest s') (if b then Over t' else local_run rest' t')) (sym (ap is_over step.end))
      (by (is_over s'.end) refl)
    where
      s' : State
      s' = stmt_step stmt s

      t' : State
      t' = stmt_step stmt t

      step : Stepped Same s' t'
      step = steps-alike Same stmt stmt s t h.outside h.end h.entry does

      alike : is_over s'.end ≡ false → Alike s' t'
      alike on =
          let first = stmt-frame stmt s in
          let second = stmt-frame stmt t in record {
            outside = step.outside;
            values = step.holds on;
            bits = ap (λ (f : Frame). f.graph.bits) second ∙ h.bits ∙ sym (ap (λ (f : Frame). f.graph.bits) first);
            entry = ap (λ (f : Frame). f.graph.entry) second ∙ h.entry ∙ sym (ap (λ (f : Frame). f.graph.entry) first);
            exit = ap (λ (f : Frame). f.block.exit) second ∙ h.exit ∙ sym (ap (λ (f : Frame). f.block.exit) first);
            end = step.end;
          }

      by : (b : Bool) → is_over s'.end ≡ b
          → Meets (if b then Over s' else local_run rest s') (if b then Over t' else local_run rest' t')
      by true over = record { end = step.end; events = step.outside.events }
      by false on = next s' t' (alike on)

  runs-meet : (stmts : List Stmt) (s t : State) → Alike s t
      → Meets (local_run stmts s) (local_run (map as_set stmts) t)
  runs-meet [] s t h =
      subst (λ exit. Meets (exit_halt s.running.block.exit s) (exit_halt exit t)) (sym h.exit)
      (exit-meets s.running.block.exit s t h)
  runs-meet (Set x e ∷ rest) s t h =
      both-go (Set x e) rest (map as_set rest) s t h (set-alike s t h x e) (runs-meet rest)
  runs-meet (Fetch x width address ∷ rest) s t h =
      both-go (Set x (Load width address)) rest (map as_set rest) s t h (set-alike s t h x (Load width address))
      (runs-meet rest)
  runs-meet (Store width address e ∷ rest) s t h =
      both-go (Store width address e) rest (map as_set rest) s t h (store-alike s t h width address e) (runs-meet rest)
  runs-meet (Div x e ∷ rest) s t h =
      both-go (Div x e) rest (map as_set rest) s t h (div-alike s t h x e) (runs-meet rest)
  runs-meet (Dos number place argument ∷ rest) s t h =
      both-go (Dos number place argument) rest (map as_set rest) s t h (dos-alike s t h number place argument)
      (runs-meet rest)
  runs-meet (Call results entry arguments depth ∷ rest) s t h = record {
    at_once = refl;
    entry = refl;
    depth = refl;
    outside = record {
      memory = h.outside.memory;
      input = h.outside.input;
      events = h.outside.events;
      base = h.outside.base;
    };
    enters = ap (λ (scene : Environment). map (value_of scene) arguments) (same-scene s t h);
    resumes = λ r r' fit fit' leaves. ap₂ (λ v q. with_values v results q) h.values leaves;
  }

-- Blocks, and what is left of them after calls.

after-call : (stmts : List Stmt) → after_call (map as_set stmts) ≡ map as_set (after_call stmts)
after-call [] = refl
after-call (Set x e ∷ rest) = after-call rest
after-call (Fetch x width address ∷ rest) = after-call rest
after-call (Store width address e ∷ rest) = after-call rest
after-call (Div x e ∷ rest) = after-call rest
after-call (Dos number place argument ∷ rest) = after-call rest
after-call (Call results entry arguments depth ∷ rest) = refl

after-calls : (n : ℕ) (stmts : List Stmt) → after_calls n (map as_set stmts) ≡ map as_set (after_calls n stmts)
after-calls zero stmts = refl
after-calls (suc n) stmts = ap after_call (after-calls n stmts) ∙ after-call (after_calls n stmts)

found-mapped : {A B : Type 0} (f : A → B) (xs : List A) (n : ℕ) → slice_get (map f xs) n ≡ option_map f (slice_get xs n)
found-mapped f [] n = refl
found-mapped f (x ∷ xs) zero = refl
found-mapped f (x ∷ xs) (suc n) = found-mapped f xs n

-- The whole graph.

module _ (before : Graph) where
  abbrev after : Graph
  after = with_sets before

  pub sets-begin : BeginsIn before after same_values
  sets-begin fill base arguments s t fit outside first second =
      let open_states = taken_same 0 before.params arguments s t (record {
        values = λ location.
            ap (λ (r : Activation). r.values location) second ∙ sym (ap (λ (r : Activation). r.values location) first);
        memory = outside.memory;
        base = outside.base;
      }) in
      (open_states.memory, fun_ext open_states.values)

  pub sets-go : GoesIn (λ k. k) before after same_values
  sets-go p q formed formed' arguments point s t here together first second = (
    0,
    subst (λ rest. Meets arguments point (local_run s.running.rest s) (local_run rest t)) (sym rest-is)
        (runs-meet arguments point s.running.rest s t alike),
  )
    where
      placed : slice_get before.blocks point.place ≡ Some s.running.block
      placed = subst (λ (g : Graph). slice_get g.blocks point.place ≡ Some s.running.block) first together.first.at.block

      placed' : slice_get (map block_with_sets before.blocks) point.place ≡ Some t.running.block
      placed' = subst (λ (g : Graph). slice_get g.blocks point.place ≡ Some t.running.block) second together.second.at.block

      block-is : t.running.block ≡ block_with_sets s.running.block
      block-is =
          some_same t.running.block (block_with_sets s.running.block)
          (sym placed' ∙ found-mapped block_with_sets before.blocks point.place ∙ ap (option_map block_with_sets) placed)

      rest-is : t.running.rest ≡ map as_set s.running.rest
      rest-is =
          together.second.at.rest ∙ ap (λ (b : Block). after_calls point.calls b.stmts) block-is
          ∙ after-calls point.calls s.running.block.stmts ∙ ap (map as_set) (sym together.first.at.rest)

      alike : Alike s t
      alike = record {
        outside = together.outside;
        values = together.holds;
        bits = ap (λ (g : Graph). g.bits) second ∙ sym (ap (λ (g : Graph). g.bits) first);
        entry = ap (λ (g : Graph). g.entry) second ∙ sym (ap (λ (g : Graph). g.entry) first);
        exit = ap (λ (b : Block). b.exit) block-is;
        end = is_running t.end together.second.running ∙ sym (is_running s.end together.first.running);
      }
