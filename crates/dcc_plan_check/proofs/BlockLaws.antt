-- The block that a graph has at a place.
use Rattle.std.proofs.Common.{◌≡◌, ℕ, ◌<◌, true, ltb, List, length, get_or, sym, ap, ◌∙◌, subst, arith}
use Rattle.std.proofs.lemmas.Bool.{ltb-true}
use Rattle.std.proofs.lemmas.List.{length-map, get_or-map}
use Rattle.dcc_ir.specs.declared.syntax.Graph.{Graph as GraphOf}
use Rattle.dcc_ir.specs.declared.syntax.Block.{Block as BlockOf}
use Rattle.dcc_ir.specs.Live.{block_in}
use Rattle.dcc_ir.specs.Run.{no_block}
use Rattle.dcc_ir.specs.Tree.{Block, Exit}
use Rattle.dcc_ir.specs.Views.{block_of, exit_of, graph_of}

-- the block has this end
pub exit-found : (graph : GraphOf) (blocks : List BlockOf) (b : ℕ) (block : BlockOf) (exit : Exit) → blocks ≡ graph.blocks.items
    → true ≡ ltb b (length blocks) → block ≡ get_or blocks b block → exit_of block.end ≡ exit
    → (b < length (graph_of graph).blocks) × ((block_in (graph_of graph) b).exit ≡ exit)
exit-found graph blocks b block exit same inside read is =
    let size = length-map graph.blocks.items block_of in
    let within : b < length blocks = ltb-true b (length blocks) (sym inside) in
    let here : b < length graph.blocks.items = subst (λ l. b < length l) same within in
    let found = read ∙ ap (λ l. get_or l b block) same in
    let at : block_of block ≡ block_in (graph_of graph) b = ap block_of found ∙ sym (get_or-map block_of graph.blocks.items b block no_block here) in
    (omega (arith, size, here), ap (λ (x : Block). x.exit) (sym at) ∙ is)
