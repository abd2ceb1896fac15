-- A small graph, its plan of jumps, a plan with a loop, and their texts.
use Rattle.std.proofs.Common.{◌≡◌, true, [], ◌∷◌, refl, arith}
use Rattle.dcc_num.specs.declared.Reg.TheVariants.{Ax}
use Rattle.dcc_num.specs.declared.Half.TheVariants.{Low as LowHalf}
use Rattle.dcc_num.specs.declared.FlagName.TheVariants.{Cf}
use Rattle.dcc_ir.specs.declared.syntax.Loc.TheVariants.{Half, Flag}
use Rattle.dcc_ir.specs.Tree as inner
use Rattle.dcc_control.specs.Plan.{Do, Mark, Jump, If, For, DoWhile, Break, Plan, no_items, item, no_arms, arm}
use Rattle.dcc_control.specs.Valid.{is_there, begins, goes, stops, IsPlanOf}
use Rattle.dcc_control.specs.GotoPlan.{goto_plan, jump, target_arms, distinct}
use Rattle.dcc_control.specs.Told.{told_loops}

abbrev sets : inner.Stmt
sets = inner.Set (Half Ax LowHalf) (inner.Const 8 1)

-- the first block leads to the second, which loops while CF is set; then comes a block that stops
abbrev graph : inner.Graph
graph = record {
  entry = 0;
  params = [];
  local = 0;
  pushed = 0;
  blocks = record { at = 0; stmts = sets ∷ []; exit = inner.Goto 1 }
      ∷ record { at = 4; stmts = sets ∷ []; exit = inner.If (inner.Get (Flag Cf)) 1 2 }
      ∷ record { at = 9; stmts = sets ∷ []; exit = inner.Stop }
      ∷ [];
  bits = [];
}

with-jumps : goto_plan graph
    ≡ item (Mark 0) (item (Do 0 0) (item (Jump 1) (item (Mark 1) (item (Do 1 0) (item (If 1 (jump 1) (jump 2)) (item (Mark 2) (item (Do 2 0) no_items)))))))
with-jumps = refl

-- a choice among blocks 3, 5 and 3
choice : target_arms (3 ∷ 5 ∷ 3 ∷ []) (distinct (3 ∷ 5 ∷ 3 ∷ [])) ≡ arm (0 ∷ 2 ∷ []) (jump 3) (arm (1 ∷ []) (jump 5) no_arms)
choice = refl

-- a plan of the graph with a loop
abbrev loops : Plan
loops = item (Do 0 0) (item (Mark 1) (item (For 1 (item (Do 1 0) (item (If 1 no_items (item Break no_items)) no_items))) (item (Do 2 0) no_items)))

loops-valid : IsPlanOf graph loops
loops-valid = record {
  starts = begins refl is_there;
  valid = (
    (omega arith, omega arith, goes refl refl is_there),
    (
      (omega arith, is_there),
      (
        (omega arith, is_there, ((omega arith, omega arith, is_there), ((inner.Get (Flag Cf), 1, 2, refl, omega arith, is_there, tt, begins refl is_there, (tt, tt)), tt))),
        ((omega arith, omega arith, stops refl refl), tt),
      ),
    ),
  );
  labels = refl;
  first = refl;
}

-- its loop ends with a test that may leave it: so it tests last
loops-told : told_loops loops ≡ item (Do 0 0) (item (Mark 1) (item (DoWhile true 1 1 (item (Do 1 0) no_items)) (item (Do 2 0) no_items)))
loops-told = refl
