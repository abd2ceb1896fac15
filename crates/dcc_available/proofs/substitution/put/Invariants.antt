use Rattle.std.proofs.Common.{◌≡◌, ◌⊎◌, ℕ, ◌≤◌, length, take, Some, slice_get}
use Rattle.dcc_ir.specs.declared.syntax.Block.{Block as BlockOf}
use Rattle.dcc_available.proofs.substitution.put.Given as goal

abbrev pub invariant-loop-new : goal.invariant-loop-new
invariant-loop-new l = record {
  fewer : length l.news.items ≤ length l.initial.news.items;
  front : l.news.items ≡ take (length l.news.items) l.initial.news.items;
  count : length l.blocks.items ≡ length l.initial.blocks.items;
  each : (place : ℕ) (new : BlockOf) → slice_get l.blocks.items place ≡ Some new
      → (slice_get l.initial.news.items place ≡ Some (Some new)) ⊎ (slice_get l.initial.blocks.items place ≡ Some new);
}

abbrev pub decreases-loop-new : goal.decreases-loop-new
decreases-loop-new l = length l.news.items
