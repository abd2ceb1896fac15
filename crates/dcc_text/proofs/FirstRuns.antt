-- The first state of a program of one graph: the graph's first block begins.
use Rattle.std.proofs.Common.{◌≡◌, ℕ, List, [], ◌∷◌, Some, ap, ◌∙◌}
use Rattle.std.specs.Prelude.{get_or, slice_get}
use Rattle.dcc_ir.specs.Run.{State, activation, entering, first_state, no_block, no_graph, opened}
use Rattle.dcc_ir.specs.Tree.{Block, Graph, Program}

-- the state from which the first block of the graph is entered: as the run of any block begins, with this graph's call
abbrev pub opening : Program → Graph → ℕ → List ℕ → State
opening p graph fill input =
    let s = opened (record graph { blocks = no_block ∷ [] }) p fill input in
    record s { running = activation graph s.running.values s.running.base }

pub first_state-is : (p : Program) (graph : Graph) (block : Block) (fill : ℕ) (input : List ℕ) → p.graphs ≡ graph ∷ [] → slice_get graph.blocks 0 ≡ Some block
    → first_state p fill input ≡ entering (Some block) (opening p graph fill input)
first_state-is p graph block fill input alone first =
    ap (λ graphs. opened (get_or graphs 0 no_graph) p fill input) alone ∙ ap (λ o. entering o (opening p graph fill input)) first
