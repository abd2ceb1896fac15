-- The states to which calls and returns of a program lead.
use Rattle.std.proofs.Common.{◌≡◌, ℕ, ◌+◌, Bool, true, false, List, [], ◌∷◌, Option, Some, None, refl, sym, ap, ◌∙◌, subst, true≢false}
use Rattle.std.specs.Prelude.{◌||◌, if◌then◌else◌, ◌==◌, slice_get, is_some}
use Rattle.std.specs.List.{list_any}
use Rattle.std.proofs.lemmas.Bool.{or_parts}
use Rattle.dcc_run.specs.End.{is_over}
use Rattle.dcc_run.specs.ProgramPoint.{ProgramPoint}
use Rattle.dcc_run.specs.Watched.{is_shown}
use Rattle.dcc_ir.specs.declared.syntax.Loc.{Loc}
use Rattle.dcc_ir.specs.declared.syntax.Put.{Put}
use Rattle.dcc_ir.specs.declared.syntax.Put.TheVariants.{Memory, One, Two}
use Rattle.dcc_ir.specs.declared.syntax.Param.{Param}
use Rattle.dcc_ir.specs.Live.{block_in}
use Rattle.dcc_ir.specs.Location.{filled}
use Rattle.dcc_ir.specs.Run.{Waiting, State, activation, callee_base, calling, entering, giving, going_to, is_call, passing, putting, returning, setting, exit_step, switching, stmt_step, block_step, value_in, watched_inner}
use Rattle.dcc_ir.specs.Tree.{Stmt, Exit, Goto, If, Switch, Ret, Stop, Block, Graph, Program}
use Rattle.dcc_ir.specs.WellFormed.{is_jump, IsGraph}
use Rattle.dcc_ir.proofs.ExecuteLaws.{block-first}
use Rattle.dcc_ir.proofs.StepLaws.{stmt-within, passing-alike, giving-alike}
use Rattle.dcc_control.proofs.ListLaws.{block-at}

-- Calls.

putting-end : (j : ℕ) (put : Put) (n : ℕ) (s : State) → (putting j put n s).end ≡ s.end
putting-end j Memory n s = refl
putting-end j (One location) n s = refl
putting-end j (Two low high) n s = refl

passing-end : (j : ℕ) (params : List Param) (arguments : List ℕ) (s : State) → (passing j params arguments s).end ≡ s.end
passing-end j [] arguments s = refl
passing-end j (param ∷ params) [] s = refl
passing-end j (param ∷ params) (n ∷ arguments) s = passing-end (j + 1) params arguments (putting j param.put n s) ∙ putting-end j param.put n s

-- the callee is about to begin, and the caller waits
pub record IsCalled (callee : Graph) (results : List Loc) (s t : State) : Type 0 where
  pub graph : t.running.graph ≡ callee
  pub block : t.running.block ≡ block_in callee 0
  pub rest : t.running.rest ≡ (block_in callee 0).stmts
  pub begins : t.running.begins ≡ true
  pub waiting : t.waiting ≡ record { caller = s.running; results = results } ∷ s.waiting
  pub end : t.end ≡ s.end

pub is-called : (fill : ℕ) (results : List Loc) (depth : ℕ) (arguments : List ℕ) (callee : Graph) (s : State) → IsGraph callee → IsCalled callee results s (calling fill results depth arguments (Some callee) s)
is-called fill results depth arguments callee s well =
    let begun : State = record s {
      running = activation callee (filled callee.bits fill) (callee_base s.running.base depth);
      waiting = record { caller = s.running; results = results } ∷ s.waiting;
    }
    in
    let given : State = passing 0 callee.params arguments begun in
    let same = passing-alike 0 callee.params arguments begun in
    let there : slice_get given.running.graph.blocks 0 ≡ Some (block_in callee 0) = ap (λ (g : Graph). slice_get g.blocks 0) same.graph ∙ block-at callee 0 well.begins in
    subst (λ o. IsCalled callee results s (entering o given)) (sym there)
    (record { graph = same.graph; block = refl; rest = refl; begins = refl; waiting = same.waiting; end = passing-end 0 callee.params arguments begun })

-- Returns.

record IsGiving (s t : State) : Type 0 where
  rest : t.running.rest ≡ s.running.rest
  end : t.end ≡ s.end

is-giving : (results : List Loc) (values : List ℕ) (s : State) → IsGiving s (giving results values s)
is-giving [] values s = record { rest = refl; end = refl }
is-giving (location ∷ results) [] s = record { rest = refl; end = refl }
is-giving (location ∷ results) (n ∷ values) s = let x = is-giving results values (setting location n s) in record { rest = x.rest; end = x.end }

-- the caller goes on
pub record IsReturned (w : Waiting) (others : List Waiting) (s t : State) : Type 0 where
  pub graph : t.running.graph ≡ w.caller.graph
  pub block : t.running.block ≡ w.caller.block
  pub rest : t.running.rest ≡ w.caller.rest
  pub begins : t.running.begins ≡ w.caller.begins
  pub waiting : t.waiting ≡ others
  pub end : t.end ≡ s.end

pub is-returned : (values : List ℕ) (w : Waiting) (waiting : List Waiting) (s : State) → IsReturned w waiting s (returning values (w ∷ waiting) s)
is-returned values w waiting s =
    let back : State = record s { running = w.caller; waiting = waiting } in
    let same = giving-alike w.results values back in
    let kept = is-giving w.results values back in
    record { graph = same.graph; block = same.block; rest = kept.rest; begins = same.begins; waiting = same.waiting; end = kept.end }

-- Statements without a call before a jump lead to a block, or to the end of the run.

module _ (p : Program) (fill : ℕ) where
  abbrev Shown : State → Type 0
  Shown s = is_shown (watched_inner p fill) s ≡ true

  over-shown : (s : State) → is_over s.end ≡ true → Shown s
  over-shown s over = ap (λ b. b || is_some ((watched_inner p fill).mark s)) over

  begun-shown : (s : State) → s.running.begins ≡ true → Shown s
  begun-shown s begins = by (is_over s.end)
    where
      by : (b : Bool) → (b || is_some ((watched_inner p fill).mark s)) ≡ true
      by true = refl
      by false = ap (λ begins. is_some {T = ProgramPoint} (if begins then Some (record { entry = s.running.graph.entry; at = s.running.block.at }) else None)) begins

  going-shown : (place : ℕ) (s : State) → Shown (going_to place s)
  going-shown place s = by (slice_get s.running.graph.blocks place)
    where
      by : (o : Option Block) → Shown (entering o s)
      by (Some block) = begun-shown (entering (Some block) s) refl
      by None = over-shown (entering None s) refl

  exit-shown : (exit : Exit) (s : State) → is_jump exit ≡ true → Shown (exit_step exit s)
  exit-shown (Goto place) s jump = going-shown place s
  exit-shown (If test one other) s jump = going-shown (if value_in s test == 1 then one else other) s
  exit-shown (Switch e places) s jump = by (slice_get places (value_in s e))
    where
      by : (o : Option ℕ) → Shown (switching o s)
      by (Some place) = going-shown place s
      by None = over-shown (switching None s) refl
  exit-shown (Ret values) s jump = absurd (true≢false (sym jump))
  exit-shown Stop s jump = absurd (true≢false (sym jump))

  pub jump-shown : (stmts : List Stmt) (s : State) → list_any is_call stmts ≡ false → is_jump s.running.block.exit ≡ true → Shown (block_step p.graphs fill stmts s)
  jump-shown [] s none jump = exit-shown s.running.block.exit s jump
  jump-shown (stmt ∷ rest) s none jump =
      let parts = or_parts (is_call stmt) (list_any is_call rest) none in
      let next = stmt_step stmt s in
      let later = jump-shown rest next parts.1 (ap (λ (b : Block). is_jump b.exit) (stmt-within stmt s).block ∙ jump) in
      subst Shown (sym (block-first p.graphs fill stmt rest s parts.0)) (by (is_over next.end) refl later)
    where
      by : (b : Bool) → is_over (stmt_step stmt s).end ≡ b → Shown (block_step p.graphs fill rest (stmt_step stmt s)) → Shown (if b then stmt_step stmt s else block_step p.graphs fill rest (stmt_step stmt s))
      by true over later = over-shown (stmt_step stmt s) over
      by false on later = later
