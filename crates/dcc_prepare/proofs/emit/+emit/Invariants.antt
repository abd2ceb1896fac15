use Rattle.std.proofs.Common.{◌≡◌, ℕ, ◌≤◌, Bool, List, length, drop}
use Rattle.dcc_c.specs.Tree.{Function, Tree}
use Rattle.dcc_c.specs.Run.{Continuation, runs, from_label, from_label_in_arms}
use Rattle.dcc_c.specs.Views.{lines_of, arms_of}
use Rattle.dcc_prepare.specs.Points.{AreRows}
use Rattle.dcc_prepare.specs.Emission.{Emits, EmitsArms, Leads, IsContext}
use Rattle.dcc_prepare.proofs.emit.+emit.Given as goal

-- the points of the statements that are gone through are made
abbrev pub invariant-emit_lines-loop-i : goal.invariant-emit_lines-loop-i
invariant-emit_lines-loop-i l = record {
  within : l.i ≤ length l.lines;
  on_break : l.following.on_break ≡ l.initial.following.on_break;
  on_continue : l.following.on_continue ≡ l.initial.following.on_continue;
  made : (tree : Tree) (f : Function) (is_open : ℕ → Bool) (points : List Continuation) (rest : Continuation) →
      IsContext l.context tree f → AreRows tree f is_open points l.initial.code.rows.items l.initial.code.labels.items →
      Leads tree points l.initial.following rest →
      Emits tree f is_open points l.initial.code l.code (λ word. from_label word (lines_of (drop l.i l.lines)) rest)
      l.following.next (runs (lines_of (drop l.i l.lines)) rest);
}

abbrev pub decreases-emit_lines-loop-i : goal.decreases-emit_lines-loop-i
decreases-emit_lines-loop-i l = l.i

-- the points of the arms that are gone through are made
abbrev pub invariant-emit_arms-loop-i : goal.invariant-emit_arms-loop-i
invariant-emit_arms-loop-i l = record {
  within : l.i ≤ length l.arms;
  made : (tree : Tree) (f : Function) (is_open : ℕ → Bool) (points : List Continuation) (rest : Continuation) →
      IsContext l.context tree f → AreRows tree f is_open points l.initial.code.rows.items l.initial.code.labels.items →
      Leads tree points l.following rest →
      EmitsArms tree f is_open points l.initial.code l.code (λ word. from_label_in_arms word (arms_of (drop l.i l.arms)) rest)
      l.cases.items (arms_of (drop l.i l.arms)) rest;
}

abbrev pub decreases-emit_arms-loop-i : goal.decreases-emit_arms-loop-i
decreases-emit_arms-loop-i l = l.i
