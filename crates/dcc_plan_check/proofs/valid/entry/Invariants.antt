use Rattle.std.proofs.Common.{◌≡◌, drop}
use Rattle.dcc_ir.specs.Views.{graph_of}
use Rattle.dcc_control.specs.Valid.{entry}
use Rattle.dcc_control.specs.Views.{plan_of}
use Rattle.dcc_plan_check.specs.Checked.{context_of}
use Rattle.dcc_plan_check.proofs.valid.entry.Given as goal

-- the items stand for the point that those that are left do
abbrev pub invariant-loop-item : goal.invariant-loop-item
invariant-loop-item l =
    entry (graph_of l.graph) (plan_of (drop l.item-index l.items)) (context_of l.a) ≡ entry (graph_of l.graph) (plan_of l.items) (context_of l.a)
