use Rattle.std.proofs.Common.{◌≡◌, length, drop}
use Rattle.dcc_ir.specs.Views.{graph_of}
use Rattle.dcc_flags.specs.Folding.{first_choices, folding_of, fold_blocks}
use Rattle.dcc_flags.proofs.fold.Folding.fold_blocks.Given as goal

abbrev pub invariant-loop-place : goal.invariant-loop-place
invariant-loop-place l =
    let graph = graph_of l.g in
    let flags = l.initial.folding.kept in
    let none = first_choices flags (length graph.bits) in
    record {
      kept : l.folding.kept ≡ flags;
      blocks : length l.folding.blocks.items ≡ length l.g.blocks.items;
      given : length l.folding.given.items ≡ length l.g.blocks.items;
      folding :
          fold_blocks flags graph none (folding_of l.folding) (drop l.place-index l.order)
          ≡ fold_blocks flags graph none (folding_of l.initial.folding) l.order;
    }
