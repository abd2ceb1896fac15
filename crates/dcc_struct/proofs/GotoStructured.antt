-- The plan with jumps alone is one of its graph, nests no deeper than one item, and has a step on each closed path.
use Rattle.std.proofs.Common.{◌≡◌, ℕ, zero, suc, ◌<◌, true, ◌||◌, not, List, [], ◌∷◌, length, get_or, refl, sym, ap, ◌∙◌, subst, true≢false, Vec, Global, arith}
use Rattle.std.specs.Prelude.{Result, Ok, Err, IfOk, ◌==◌}
use Rattle.std.specs.List.{list_any}
use Rattle.dcc_ir.specs.Tree as inner
use Rattle.dcc_ir.specs.Flow.{targets, IsPath, Any}
use Rattle.dcc_ir.specs.Live.{block_in, follows}
use Rattle.dcc_ir.specs.Run.{no_block}
use Rattle.dcc_ir.specs.WellFormed.{IsGraph}
use Rattle.dcc_ir.proofs.PathLaws.{path_first}
use Rattle.dcc_control.specs.Plan.{Plan, is_begun}
use Rattle.dcc_control.specs.Valid.{BeginsAll, only_goes, has_step}
use Rattle.dcc_control.specs.Views.{plan_of}
use Rattle.dcc_control.specs.declared.item.Item.{Item as TheItem}
use Rattle.dcc_control.specs.GotoPlan.{goto_plan}
use Rattle.dcc_control.proofs.GotoLaws.{goto-valid}
use Rattle.dcc_plan_check.specs.Structured.{IsStructured, BeginsReturns}
use Rattle.dcc_struct.proofs.NestLaws.{goto-flat}

goto-structured : (graph : inner.Graph) → IsGraph graph → IsStructured graph (goto_plan graph)
goto-structured graph formed = let flat = goto-flat graph in record { valid = (goto-valid graph formed).0; nesting = omega (arith, flat) }

-- only a block of the graph has an edge
edge-within : (graph : inner.Graph) (a b : ℕ) → follows graph a b ≡ true → a < length graph.blocks
edge-within graph a b edge = by graph.blocks a edge
  where
    by : (blocks : List inner.Block) (n : ℕ) → list_any (λ place. place == b) (targets (get_or blocks n no_block).exit) ≡ true → n < length blocks
    by [] n found = absurd (true≢false (sym found))
    by (block ∷ blocks) zero found = omega arith
    by (block ∷ blocks) (suc n) found = let less = by blocks n found in omega (arith, less)

-- a plan in which each block is begun has a step on each closed path
pub begun-returns : (graph : inner.Graph) (plan : Plan) → BeginsAll graph plan → BeginsReturns graph plan
begun-returns graph plan begun b between reached path =
    let first = path_first (follows graph) Any b between b path in
    let begins : is_begun plan b ≡ true = begun b (edge-within graph b first.0 first.1) in
    ap (λ x. (x || not (only_goes (block_in graph b).stmts (block_in graph b).exit)) || list_any (has_step graph plan) between) begins

goto-returns : (graph : inner.Graph) → IsGraph graph → BeginsReturns graph (goto_plan graph)
goto-returns graph formed = begun-returns graph (goto_plan graph) (goto-valid graph formed).1

-- what is known of the plan with jumps is known of a result that is one
pub on-answer : (P : Plan → Type 0) (plan : Plan) → P plan → {E : Type 0} (r : Result (Vec TheItem Global) E) → IfOk r (λ items. plan_of items.items ≡ plan)
    → IfOk r (λ items. P (plan_of items.items))
on-answer P plan known (Ok items) is = subst P (sym is) known
on-answer P plan known (Err e) is = tt

pub goto-answer : (graph : inner.Graph) → IsGraph graph → {E : Type 0} (r : Result (Vec TheItem Global) E)
    → IfOk r (λ items. plan_of items.items ≡ goto_plan graph) → IfOk r (λ items. IsStructured graph (plan_of items.items))
goto-answer graph formed r is = on-answer (IsStructured graph) (goto_plan graph) (goto-structured graph formed) r is

pub paced-answer : (graph : inner.Graph) → IsGraph graph → {E : Type 0} (r : Result (Vec TheItem Global) E)
    → IfOk r (λ items. plan_of items.items ≡ goto_plan graph) → IfOk r (λ items. BeginsReturns graph (plan_of items.items))
paced-answer graph formed r is = on-answer (BeginsReturns graph) (goto_plan graph) (goto-returns graph formed) r is
