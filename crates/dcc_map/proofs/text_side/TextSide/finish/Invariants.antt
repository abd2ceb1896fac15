use Rattle.std.proofs.Common.{◌≡◌, List, []}
use Rattle.dcc_run.specs.End.{End as RunEnd}
use Rattle.dcc_c.specs.Tree.{Tree}
use Rattle.dcc_crun.specs.Stepped.{texts}
use Rattle.dcc_map.specs.Placed.{Placed}
use Rattle.dcc_map.specs.Compared.{line_of}
use Rattle.dcc_map.specs.Side.{Coming, text_side}
use Rattle.dcc_map.proofs.text_side.TextSide.finish.Given as goal

abbrev pub invariant-steps : goal.invariant-steps
invariant-steps l = record {
  none : l.self.pending.items ≡ [];
  comes : (tree : Tree) (coming : List Placed) (end : RunEnd) → Coming texts line_of tree (text_side l.initial.self) coming end
      → (rest : List Placed) × Coming texts line_of tree (text_side l.self) rest end;
}

abbrev pub decreases-steps : goal.decreases-steps
decreases-steps l = l.self.steps
