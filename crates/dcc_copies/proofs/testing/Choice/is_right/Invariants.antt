use Rattle.std.proofs.Common.{◌≡◌, ℕ, ◌<◌, Some, slice_get}
use Rattle.dcc_ir.specs.Tree.{Block}
use Rattle.dcc_ir.specs.Views.{graph_of}
use Rattle.dcc_copies.specs.Choice.{begins_of, begins_by}
use Rattle.dcc_copies.specs.Holders.{holders_of, name_by, IsPlain}
use Rattle.dcc_copies.specs.Settled.{IsRightBlock}
use Rattle.dcc_copies.proofs.testing.Choice.is_right.Given as goal

abbrev pub invariant-loop-place : goal.invariant-loop-place
invariant-loop-place l = record {
  plain : IsPlain (holders_of l.holders);
  right : (place : ℕ) (block : Block) → place < l.place → slice_get (graph_of l.g).blocks place ≡ Some block
      → IsRightBlock (name_by l.self.names.of.items) (begins_by l.self.names.of.items (begins_of l.self)) place block;
}
