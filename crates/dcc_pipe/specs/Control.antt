-- The control of a text: a plan for each graph.
use Rattle.std.specs.Prelude.{◌≡◌, ℕ, ◌==◌, Bool, true, false, ◌&&◌, length, All}
use Rattle.std.specs.List.{list_any, range_with_len}
use Rattle.dcc_run.specs.ProgramPoint.{ProgramPoint}
use Rattle.dcc_ir.specs.Tree.{Graph, Program}
use Rattle.dcc_ir.specs.Flow.{graph_or_none}
use Rattle.dcc_ir.specs.Live.{block_in}
use Rattle.dcc_ir.specs.Run.{graph_at}
use Rattle.dcc_c.specs.Grammar.{outermost}
use Rattle.dcc_control.specs.Complete.{completed}
use Rattle.dcc_control.specs.Plan.{Plan}
use Rattle.dcc_control.specs.Told.{told_loops}
use Rattle.dcc_control.specs.Valid.{IsPlanOf, has_step}
use Rattle.dcc_plan_check.specs.Structured.{BeginsReturns}
use Rattle.dcc_plan.specs.Allowed.{may_stand}

-- a plan for each graph
abbrev pub Control : Type 0
Control = Graph → Plan

-- Steps.

-- the text of the plan has a step for a block of the graph at that address
abbrev pub has_step_at : Graph → Plan → ℕ → Bool
has_step_at graph plan at =
    list_any (λ b. ((block_in graph b).at == at) && has_step graph plan b) (range_with_len 0 (length graph.blocks))

-- the program has a block at that place for which the text has a step
abbrev pub keeps_step : Control → Program → ProgramPoint → Bool
keeps_step control p place =
    let graph = graph_or_none (graph_at p.graphs place.entry) in has_step_at graph (control graph) place.at

-- Control.

-- The plan is another one after each of its loops whose test stands first or last is told by this test, and after it
-- is completed.
pub record IsTold (plan : Plan) : Type 0 where
  pub untold : Plan
  pub is : plan ≡ completed (told_loops untold)

-- The plan is one of the graph, and its loops are told by their tests. Its items stand where a text may have them. Each
-- closed path of the graph's reached blocks holds one for which the text has a step.
pub record IsControlOf (graph : Graph) (plan : Plan) : Type 0 where
  pub is_plan : IsPlanOf graph plan
  pub told : IsTold plan
  pub stands : may_stand outermost false plan ≡ true
  pub returns : BeginsReturns graph plan

-- the control has such a plan for each graph of the program
abbrev pub AreControls : Control → Program → Type 0
AreControls control p = All (λ g. IsControlOf g (control g)) p.graphs
