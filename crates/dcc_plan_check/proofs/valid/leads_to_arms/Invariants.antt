use Rattle.std.proofs.Common.{◌≡◌, ℕ, ◌<◌, Some}
use Rattle.std.specs.Prelude.{slice_get}
use Rattle.dcc_ir.specs.Views.{graph_of}
use Rattle.dcc_control.specs.Plan.{arm_with}
use Rattle.dcc_control.specs.Valid.{Begin, Leads, entry}
use Rattle.dcc_control.specs.Views.{arms_of}
use Rattle.dcc_plan_check.specs.Checked.{context_of, is_begun_in}
use Rattle.dcc_plan_check.proofs.valid.leads_to_arms.Given as goal

-- from each place up to here the graph leads to the arm with its case
abbrev pub invariant-loop-n : goal.invariant-loop-n
invariant-loop-n l = (m place : ℕ) → m < l.n → slice_get l.places m ≡ Some place
    → Leads (graph_of l.graph) (is_begun_in l.labels.begun.items) (Begin place) (entry (graph_of l.graph) (arm_with m (arms_of l.arms)) (context_of l.a))
