-- Laws of folded graphs.
use Rattle.std.specs.Prelude.{◌≡◌, ℕ, ◌*◌, ◌≤◌, true, false, List}
use Rattle.std.specs.List.{AllZip}
use Rattle.dcc_num.specs.declared.FlagName.{FlagName}
use Rattle.dcc_ir.specs.Tree.{Graph}
use Rattle.dcc_ir.specs.WellFormed.{IsGraph}
use Rattle.dcc_ir.specs.Use.{graph_exprs}
use Rattle.dcc_ir.specs.Measure.{deepest}
use Rattle.dcc_ir.specs.FlagReads.{loads_plainly, nests_flatly, all_stmts}
use Rattle.dcc_ir.specs.Replaced.{MayReplace}
use Rattle.dcc_flow.specs.Order.{IsReversePostOrder}
use Rattle.dcc_flags.specs.declared.kept.Kept.{Kept}
use Rattle.dcc_ir.specs.Form.{GraphStays}
use Rattle.dcc_flags.specs.Kinds.{KindsStay}
use Rattle.dcc_flags.specs.Reaching.{IsKept}
use Rattle.dcc_flags.specs.Folded.{mentions, TruthsStay}
use Rattle.dcc_flags.specs.Folding.{is_kept, folded_graph}

-- the graph is well formed, its form stays, and it may stand in the place of the other in each program
pub record Stands (before after : Graph) : Type 0 where
  pub formed : IsGraph after
  pub form : GraphStays before after
  pub keeps : MayReplace before after

-- where no flag goes that is kept, the folded graph stands in the place of the graph
abbrev pub FoldedGraphsStand : Type 0
FoldedGraphsStand =
    (graph : Graph) → IsGraph graph → (order : List ℕ) → IsReversePostOrder graph order → (kept : Kept)
    → ((f : FlagName) → is_kept kept f ≡ false → ¬ IsKept graph f) → Stands graph (folded_graph kept graph order)

-- the folded graph has kinds of parts and statements that the graph has
abbrev pub FoldedGraphsKeepKinds : Type 0
FoldedGraphsKeepKinds =
    (graph : Graph) (order : List ℕ) (kept : Kept) → KindsStay graph (folded_graph kept graph order)

-- where definitions of flags load from plain addresses, each truth statement of the folded graph was a flag statement
-- at the same location
abbrev pub FoldedGraphsKeepTruths : Type 0
FoldedGraphsKeepTruths =
    (graph : Graph) (order : List ℕ) (kept : Kept) → all_stmts loads_plainly graph ≡ true
    → AllZip TruthsStay graph.blocks (folded_graph kept graph order).blocks

-- where no flag goes that is kept, the folded graph mentions no flag that goes
abbrev pub FoldedGraphsLackFlags : Type 0
FoldedGraphsLackFlags =
    (graph : Graph) → IsGraph graph → (order : List ℕ) → (kept : Kept)
    → ((f : FlagName) → is_kept kept f ≡ false → ¬ IsKept graph f)
    → (f : FlagName) → is_kept kept f ≡ false → mentions (folded_graph kept graph order) f ≡ false

-- where no flag goes that is kept, and a definition of a flag reads flags only as a negation, or as arms of a choice
-- that are that flag, expressions are at most twice as deep
abbrev pub FoldedGraphsStayShallow : Type 0
FoldedGraphsStayShallow =
    (graph : Graph) → IsGraph graph → (order : List ℕ) → IsReversePostOrder graph order → (kept : Kept)
    → ((f : FlagName) → is_kept kept f ≡ false → ¬ IsKept graph f) → all_stmts nests_flatly graph ≡ true
    → deepest (graph_exprs (folded_graph kept graph order)) ≤ 2 * deepest (graph_exprs graph)
