use Rattle.std.proofs.Common.{◌≡◌, ℕ, ◌+◌, ◌<◌, List, [], length, map, drop, get_or, ap, sym, ◌∙◌, subst, add-one, drop-cons, arith}
use Rattle.std.specs.Prelude.{All}
use Rattle.std.specs.Global.{Vec}
use Rattle.std.proofs.lemmas.List.{length-map, length-set}
use Rattle.dcc_ir.specs.Tree.{Block, Graph}
use Rattle.dcc_ir.specs.WellFormed.{IsGraph}
use Rattle.dcc_ir.specs.Run.{no_block}
use Rattle.dcc_ir.specs.Flow.{targets}
use Rattle.dcc_ir.specs.Live.{block_in}
use Rattle.dcc_ir.specs.Views.{block_of, graph_of}
use Rattle.dcc_flow.specs.Edges.{rows, successors_of}
use Rattle.dcc_flow.proofs.Members.{at_map}
use Rattle.dcc_flow.proofs.RowLaws.{row_read, length_rows, length_successors, successors_within}
use Rattle.dcc_flags.specs.declared.kept.Kept.{Kept}
use Rattle.dcc_flags.specs.Folding.{Choices, Folding, choices_of, folding_of, first_choices, fold_block, fold_blocks}
use Rattle.dcc_flags.proofs.GoingLaws.{given_length}
use Rattle.dcc_flags.proofs.fold.Folding.fold_blocks.Goals as goal

-- the row of a place that the order lists
row_is :
    (graph : Graph) (next : List (Vec ℕ)) (row : Vec ℕ) (place : ℕ)
    → rows next ≡ successors_of graph → place < length graph.blocks → row ≡ get_or next place row
    → row.items ≡ targets (block_in graph place).exit
row_is graph next row place e less read =
    let size = length_rows next in
    let more = length_successors graph in
    let same = ap length e in
    row_read next place row (omega arith) read ∙ ap (λ l. get_or l place []) e ∙ at_map (λ (b : Block). targets b.exit) graph.blocks place no_block

row_within :
    (graph : Graph) (is : IsGraph graph) (place : ℕ) → place < length graph.blocks
    → All (λ p. p < length graph.blocks) (targets (block_in graph place).exit)
row_within graph is place less =
    let more = length_successors graph in
    subst (λ n. All (λ p. p < n) (targets (block_in graph place).exit)) more
    (subst (All (λ p. p < length (successors_of graph))) (at_map (λ (b : Block). targets b.exit) graph.blocks place no_block)
    (successors_within graph is place [] (omega arith)))

step :
    (kept : Kept) (graph : Graph) (none : Choices) (s after : Folding) (order : List ℕ) (k : ℕ)
    → after ≡ fold_block kept graph none s (get_or order k 0) → k < length order
    → fold_blocks kept graph none after (drop (k + 1) order) ≡ fold_blocks kept graph none s (drop k order)
step kept graph none s after order k is inside =
    ap (λ l. fold_blocks kept graph none l (drop (k + 1) order)) is
    ∙ ap (λ n. fold_blocks kept graph none (fold_block kept graph none s (get_or order k 0)) (drop n order)) (add-one k)
    ∙ sym (ap (fold_blocks kept graph none s) (drop-cons order k 0 inside))

pub fold_block-requires-clause-next : goal.fold_block-requires-clause-next
fold_block-requires-clause-next c =
    let graph = graph_of c.args.g.now in
    let place = get_or c.args.order.now c.loop-place.place-index 0 in
    let size = length-map c.args.g.now.blocks.items block_of in
    let listed = c.requires.order c.loop-place.place-index 0 c.loop-place-test.true in
    c.as_slice.ensures.value ∙ row_is graph c.args.next.now.items c.index.result.now place c.requires.next (omega arith) c.index.ensures

pub fold_block-requires-clause-targets : goal.fold_block-requires-clause-targets
fold_block-requires-clause-targets c =
    let graph = graph_of c.args.g.now in
    let place = get_or c.args.order.now c.loop-place.place-index 0 in
    let size = length-map c.args.g.now.blocks.items block_of in
    let listed = c.requires.order c.loop-place.place-index 0 c.loop-place-test.true in
    let row = c.as_slice.ensures.value ∙ row_is graph c.args.next.now.items c.index.result.now place c.requires.next (omega arith) c.index.ensures in
    subst (λ n. All (λ p. p < n) c.as_slice.result.now) size
    (subst (All (λ p. p < length graph.blocks)) (sym row) (row_within graph c.requires.graph place (omega arith)))

pub loop-place-preserved : goal.loop-place-preserved
loop-place-preserved c =
    let graph = graph_of c.args.g.now in
    let flags = c.args.self.kept in
    let count = length c.args.g.now.bits.items in
    let none = first_choices flags count in
    let order = c.args.order.now in
    let k = c.loop-place.place-index in
    let place = get_or order k 0 in
    let old = c.loop-place.folding in
    let new = c.in_ok-folding.folding in
    let inv = c.loop-place.invariant in
    let told : folding_of new ≡ fold_block flags graph none (folding_of old) place =
    c.in_ok-folding.ensures.folding ∙ ap (λ kept. fold_block kept graph (first_choices kept count) (folding_of old) place) inv.kept in
    record {
      kept = c.in_ok-folding.ensures.kept ∙ inv.kept;
      blocks = sym (length-map new.blocks.items block_of) ∙ ap (λ (s : Folding). length s.blocks) told
          ∙ length-set (map block_of old.blocks.items) place _ ∙ length-map old.blocks.items block_of ∙ inv.blocks;
      given = sym (length-map new.given.items choices_of) ∙ ap (λ (s : Folding). length s.given) told
          ∙ given_length _ (map choices_of old.given.items) (targets (block_in graph place).exit) ∙ length-map old.given.items choices_of ∙ inv.given;
      folding = step flags graph none (folding_of old) (folding_of new) order k told c.loop-place-test.true ∙ inv.folding;
    }
