-- Laws of statements that are executed one after another.
use Rattle.std.proofs.Common.{◌≡◌, ℕ, Bool, true, false, ◌||◌, List, [], ◌∷◌, ◌++◌, refl, sym, ap, ◌∙◌, true≢false}
use Rattle.std.specs.Prelude.{if◌then◌else◌}
use Rattle.std.specs.List.{list_any}
use Rattle.dcc_run.specs.End.{is_over}
use Rattle.dcc_run.proofs.PrefixLaws.{prefix_refl, prefix_trans}
use Rattle.dcc_ir.specs.Tree.{Stmt, Call, Graph}
use Rattle.dcc_ir.specs.Run.{State, stmt_step, execute, is_call, block_step}
use Rattle.dcc_ir.proofs.StepLaws.{Within, stmt-within}

-- nothing is executed where the run is over
pub execute_over : (stmts : List Stmt) (s : State) → is_over s.end ≡ true → execute stmts s ≡ s
execute_over [] s over = refl
execute_over (stmt ∷ stmts) s over = ap (λ b. if b then s else execute stmts (stmt_step stmt s)) over

-- where the run isn't over, the first statement is executed first; a single statement is its step
pub execute_first : (stmt : Stmt) (stmts : List Stmt) (s : State) → is_over s.end ≡ false → execute (stmt ∷ stmts) s ≡ execute stmts (stmt_step stmt s)
execute_first stmt stmts s on = ap (λ b. if b then s else execute stmts (stmt_step stmt s)) on

-- the statements of two lists are executed one list after the other
pub execute-append : (stmts more : List Stmt) (s : State) → execute (stmts ++ more) s ≡ execute more (execute stmts s)
execute-append [] more s = refl
execute-append (stmt ∷ stmts) more s = go (is_over s.end) refl (execute-append stmts more (stmt_step stmt s))
  where
    go : (b : Bool) → is_over s.end ≡ b → execute (stmts ++ more) (stmt_step stmt s) ≡ execute more (execute stmts (stmt_step stmt s)) →
        (if b then s else execute (stmts ++ more) (stmt_step stmt s)) ≡ execute more (if b then s else execute stmts (stmt_step stmt s))
    go true over later = sym (execute_over more s over)
    go false on later = later

within_refl : (s : State) → Within s s
within_refl s = record { graph = refl; block = refl; begins = refl; rest = refl; base = refl; waiting = refl; events = prefix_refl s.events }

within_trans : {s t u : State} → Within s t → Within t u → Within s u
within_trans h k = record {
  graph = k.graph ∙ h.graph;
  block = k.block ∙ h.block;
  begins = k.begins ∙ h.begins;
  rest = k.rest ∙ h.rest;
  base = k.base ∙ h.base;
  waiting = k.waiting ∙ h.waiting;
  events = prefix_trans h.events k.events;
}

-- statements stay in their block
pub execute-within : (stmts : List Stmt) (s : State) → Within s (execute stmts s)
execute-within [] s = within_refl s
execute-within (stmt ∷ stmts) s =
    let later = within_trans (stmt-within stmt s) (execute-within stmts (stmt_step stmt s)) in
    elim (is_over s.end) as (λ b. Within s (if b then s else execute stmts (stmt_step stmt s))) [ true ↦ within_refl s | false ↦ later ]

or_left : (a b : Bool) → (a || b) ≡ false → a ≡ false
or_left true b e = e
or_left false b e = refl

or_right : (a b : Bool) → (a || b) ≡ false → b ≡ false
or_right true b e = absurd (true≢false e)
or_right false b e = e

-- a block begins with the step of its first statement, where this is no Call
pub block-first : (graphs : List Graph) (fill : ℕ) (stmt : Stmt) (rest : List Stmt) (s : State) → is_call stmt ≡ false →
    block_step graphs fill (stmt ∷ rest) s ≡ (if is_over (stmt_step stmt s).end then stmt_step stmt s else block_step graphs fill rest (stmt_step stmt s))
block-first graphs fill (Call results entry arguments depth) rest s none = absurd (true≢false none)
block-first graphs fill stmt rest s none = refl

-- Statements without a Call are executed one after another; where the run isn't over after them, the block goes on.
pub block-executed : (graphs : List Graph) (fill : ℕ) (stmts rest : List Stmt) (s : State) → list_any is_call stmts ≡ false → is_over s.end ≡ false →
    block_step graphs fill (stmts ++ rest) s ≡ (if is_over (execute stmts s).end then execute stmts s else block_step graphs fill rest (execute stmts s))
block-executed graphs fill [] rest s none on = sym (ap (λ b. if b then s else block_step graphs fill rest s) on)
block-executed graphs fill (stmt ∷ stmts) rest s none on =
    block-first graphs fill stmt (stmts ++ rest) s (or_left (is_call stmt) (list_any is_call stmts) none)
    ∙ go (is_over (stmt_step stmt s).end) refl (block-executed graphs fill stmts rest (stmt_step stmt s) (or_right (is_call stmt) (list_any is_call stmts) none))
    ∙ sym (ap ends (execute_first stmt stmts s on))
  where
    ends : State → State
    ends t = if is_over t.end then t else block_step graphs fill rest t

    go : (b : Bool) → is_over (stmt_step stmt s).end ≡ b → (is_over (stmt_step stmt s).end ≡ false → block_step graphs fill (stmts ++ rest) (stmt_step stmt s) ≡ ends
        (execute stmts (stmt_step stmt s))) →
        (if b then stmt_step stmt s else block_step graphs fill (stmts ++ rest) (stmt_step stmt s)) ≡ ends (execute stmts (stmt_step stmt s))
    go true over later =
        sym (ap ends (execute_over stmts (stmt_step stmt s) over) ∙ ap (λ b. if b then stmt_step stmt s else block_step graphs fill rest (stmt_step stmt s)) over)
    go false on later = later on
