-- Programs that are never stuck, and the ends of blocks that make them so.
use Rattle.std.specs.Prelude.{◌≡◌, ◌≢◌, ℕ, ◌<◌, ◌==◌, Bool, true, false, ◌||◌, not, List, length, take, All}
use Rattle.std.specs.List.{list_any}
use Rattle.dcc_run.specs.End.{Stuck, is_over}
use Rattle.dcc_ir.specs.Tree.{Expr, Stmt, Dos, Exit, Switch, Ret, Stop, Program}
use Rattle.dcc_ir.specs.Run.{State, value_in, execute, is_call, reached}
use Rattle.dcc_ir.specs.Fitting.{AreBytes}

-- no run of the program comes to a Switch that has no block for its value, to a Stop, or to a Ret of the first graph
abbrev pub IsNeverStuck : Program → Type 0
IsNeverStuck p =
    (fill : ℕ) (input : List ℕ) (n entry : ℕ) → fill < 65536 → AreBytes input
    → (reached p fill input n).end ≢ Stuck entry

abbrev pub is_ret : Exit → Bool
is_ret (Ret values) = true
is_ret _ = false

abbrev pub is_switch : Exit → Bool
is_switch (Switch e places) = true
is_switch _ = false

abbrev pub is_stop : Exit → Bool
is_stop Stop = true
is_stop _ = false

-- the DOS call that ends the run
abbrev pub is_exit_call : Stmt → Bool
is_exit_call (Dos number place argument) = number == 0x4C
is_exit_call _ = false

-- a Stop comes only after a statement that ends the run
abbrev pub stops_soundly : List Stmt → Exit → Bool
stops_soundly stmts exit = not (is_stop exit) || list_any is_exit_call stmts

-- where the block goes on to its Switch by these statements, without a Call, the value has a place in the Switch's
-- list
abbrev pub HasPlace : List Stmt → State → Type 0
HasPlace stmts s = (e : Expr) (places : List ℕ) → s.running.block.exit ≡ Switch e places
    → list_any is_call stmts ≡ false → is_over (execute stmts s).end ≡ false
    → value_in (execute stmts s) e < length places

-- in every state that a run reaches the value of a Switch has a place in its list
abbrev pub SwitchesHavePlaces : Program → Type 0
SwitchesHavePlaces p = (fill : ℕ) (input : List ℕ) → fill < 65536 → AreBytes input → (n : ℕ)
    → HasPlace (reached p fill input n).running.rest (reached p fill input n)

abbrev pub HasNoSwitch : Program → Type 0
HasNoSwitch p = All (λ g. All (λ b. is_switch b.exit ≡ false) g.blocks) p.graphs

-- Each Stop comes after a statement that ends the run, the first graph never returns, and each Switch has a place for
-- its value.
pub record HasSoundEnds (p : Program) : Type 0 where
  pub stops : All (λ g. All (λ b. stops_soundly b.stmts b.exit ≡ true) g.blocks) p.graphs
  pub returns : All (λ g. All (λ b. is_ret b.exit ≡ false) g.blocks) (take 1 p.graphs)
  pub switches : SwitchesHavePlaces p
