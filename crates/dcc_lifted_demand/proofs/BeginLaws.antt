-- Where an instruction begins in its graph: what comes before it in its block, and what comes then.
use Rattle.std.proofs.Common.{◌≡◌, ◌<◌, ℕ, zero, suc, Bool, true, false, ◌==◌, if◌then◌else◌, List, [], ◌∷◌, ◌++◌, length, flat_map, Some, refl, sym, ap, ◌∙◌, subst, arith}
use Rattle.std.specs.Prelude.{get_or, slice_get}
use Rattle.std.specs.List.{list_any}
use Rattle.std.proofs.lemmas.Option.{get_or_from_slice_get}
use Rattle.dcc_ir.specs.Tree.{Block, Graph}
use Rattle.dcc_ir.specs.Live.{block_in}
use Rattle.dcc_ir.specs.Run.{no_block}
use Rattle.dcc_sums.specs.Points.{Position, begin_of}
use Rattle.dcc_lift.specs.Blocks.{Nodes, joins, onward, IsChain, leaders, BlockSource, nodes_in, entry_in, block_place, stmts_at, exit_at, last_of, AreBlocksAt}
use Rattle.dcc_lift.specs.Sound.{AreSound}
use Rattle.dcc_lift.proofs.ListTests.{or_none, same_number}
use Rattle.dcc_lift.proofs.NodeLaws.{is_node, goes_from, edges_into_are, edges_are}
use Rattle.dcc_lift.proofs.ChainLaws.{IsJoined, joined, has_successor, edge_to_joined, begins_leader}
use Rattle.dcc_lift.proofs.BlockLaws.{leader_block}
use Rattle.dcc_lifted_demand.specs.InstructionPoints.{source_of, advanced, count_at, begin_within, begin_at}
use Rattle.dcc_lifted_demand.proofs.PointLaws.{IsBefore, is_before_later}

module _ (scene : BlockSource) where
  abbrev pub nodes : Nodes
  nodes = nodes_in scene

  abbrev pub entry : ℕ
  entry = entry_in scene

  pub begin_leads : (at : ℕ) → joins nodes entry at ≡ false → begin_at scene at ≡ begin_of (block_place scene at)
  begin_leads at e = ap (λ b. if b then advanced (begin_within scene at (source_of nodes at)) (count_at scene (source_of nodes at)) else begin_of (block_place scene at)) e

  within_leads : (most at : ℕ) → joins nodes entry at ≡ false → begin_within scene (suc most) at ≡ begin_of (block_place scene at)
  within_leads most at e = ap (λ b. if b then advanced (begin_within scene most (source_of nodes at)) (count_at scene (source_of nodes at)) else begin_of (block_place scene at)) e

  source_is : (at : ℕ) (j : IsJoined nodes entry at) → source_of nodes at ≡ j.from
  source_is at j = ap (λ xs. get_or xs 0 0) j.edges

  within_joins : (most at : ℕ) → joins nodes entry at ≡ true → (j : IsJoined nodes entry at) → begin_within scene (suc most) at ≡ advanced (begin_within scene most j.from) (count_at scene j.from)
  within_joins most at e j =
      ap (λ b. if b then advanced (begin_within scene most (source_of nodes at)) (count_at scene (source_of nodes at)) else begin_of (block_place scene at)) e
      ∙ ap (λ s. advanced (begin_within scene most s) (count_at scene s)) (source_is at j)

  -- from enough instructions on it is no matter how many are followed
  stable : (m n at : ℕ) → at < m → at < n → begin_within scene m at ≡ begin_within scene n at
  stable zero n at b c = absurd (omega (arith, b))
  stable (suc m) zero at b c = absurd (omega (arith, c))
  stable (suc m) (suc n) at b c = go (joins nodes entry at) refl (λ from d e. stable m n from d e)
    where
      go : (t : Bool) → joins nodes entry at ≡ t → ((from : ℕ) → from < m → from < n → begin_within scene m from ≡ begin_within scene n from)
          → begin_within scene (suc m) at ≡ begin_within scene (suc n) at
      go false e rest = within_leads m at e ∙ sym (within_leads n at e)
      go true e rest =
          let j = joined nodes entry at e in
          within_joins m at e j ∙ ap (λ x. advanced x (count_at scene j.from)) (rest j.from (omega (arith, j.below, b)) (omega (arith, j.below, c))) ∙ sym (within_joins n at e j)

  pub begin_joins : (at : ℕ) → joins nodes entry at ≡ true → (j : IsJoined nodes entry at) → begin_at scene at ≡ advanced (begin_at scene j.from) (count_at scene j.from)
  begin_joins at e j =
      let less = j.below in
      within_joins at at e j ∙ ap (λ x. advanced x (count_at scene j.from)) (stable at (suc j.from) j.from less (omega arith))

  module _ (graph : Graph) (prelude : ℕ) (sound : AreSound nodes entry prelude) (front blocks : List Block)
      (front_is : length front ≡ scene.before) (are : AreBlocksAt scene (leaders nodes entry) blocks) (blocks_are : graph.blocks ≡ front ++ blocks) where
    -- the instruction's block has its statements and those of the rest of its chain, after some others
    pub record Located (at : ℕ) : Type 0 where
      pub rest : List ℕ
      pub chain : IsChain nodes entry at rest
      pub before : IsBefore graph (begin_at scene at) (flat_map (stmts_at scene) (at ∷ rest))
      pub exit : (block_in graph (begin_at scene at).block).exit ≡ exit_at scene (last_of at rest)

    block_there : (place : ℕ) (block : Block) → slice_get (front ++ blocks) place ≡ Some block → block_in graph place ≡ block
    block_there place block e = get_or_from_slice_get graph.blocks place block no_block (ap (λ xs. slice_get xs place) blocks_are ∙ e)

    leads : (at : ℕ) → is_node nodes at ≡ true → joins nodes entry at ≡ false → Located at
    leads at node e =
        let has = leader_block scene prelude sound front front_is blocks are at (begins_leader nodes entry prelude sound at node e) in
        let there = block_there (block_place scene at) has.block has.found in
        let begin = begin_leads at e in
        record {
          rest = has.is_block.rest;
          chain = has.is_block.chain;
          before = subst (λ a. IsBefore graph a (flat_map (stmts_at scene) (at ∷ has.is_block.rest))) (sym begin) (record {
            before = [];
            done = refl;
            stmts_are = ap (λ (b : Block). b.stmts) there ∙ has.is_block.stmts_are;
          });
          exit = ap (λ (a : Position). (block_in graph a.block).exit) begin ∙ ap (λ (b : Block). b.exit) there ∙ has.is_block.exit_is;
        }

    -- the instruction before one that joins
    goes_to : (at : ℕ) (j : IsJoined nodes entry at) → has_successor nodes j.from at ≡ true
    goes_to at j = sym (edges_are nodes entry prelude sound j.from at) ∙ ap (list_any (λ x. x == j.from)) j.edges ∙ or_none (j.from == j.from) ∙ same_number j.from

    source_is_node : (at : ℕ) (j : IsJoined nodes entry at) → is_node nodes j.from ≡ true
    source_is_node at j = goes_from nodes j.from at (sym (edges_into_are nodes j.from at) ∙ ap (list_any (λ x. x == j.from)) j.edges ∙ or_none (j.from == j.from) ∙ same_number j.from)

    pub goes_onward : (at : ℕ) → joins nodes entry at ≡ true → (j : IsJoined nodes entry at) → onward nodes entry j.from ≡ Some at
    goes_onward at e j = edge_to_joined nodes entry prelude sound j.from at e (goes_to at j)

    joins_on : (at from : ℕ) (rest : List ℕ) → onward nodes entry from ≡ Some at → begin_at scene at ≡ advanced (begin_at scene from) (count_at scene from)
        → IsChain nodes entry from rest → IsBefore graph (begin_at scene from) (flat_map (stmts_at scene) (from ∷ rest))
        → (block_in graph (begin_at scene from).block).exit ≡ exit_at scene (last_of from rest) → Located at
    joins_on at from [] on begin chain before exit = absurd (cc (on, chain))
    joins_on at from (next ∷ rest) on begin chain before exit =
        let same : next ≡ at = cc (on, chain.0) in
        subst Located same (record {
          rest = rest;
          chain = chain.1;
          before = subst (λ a. IsBefore graph a (flat_map (stmts_at scene) (next ∷ rest))) (sym begin ∙ ap (begin_at scene) (sym same))
              (is_before_later graph (begin_at scene from) (stmts_at scene from) (flat_map (stmts_at scene) (next ∷ rest)) before);
          exit = ap (λ (a : Position). (block_in graph a.block).exit) (ap (begin_at scene) same ∙ begin) ∙ exit;
        })

    located_within : (most at : ℕ) → at < most → is_node nodes at ≡ true → Located at
    located_within zero at b node = absurd (omega (arith, b))
    located_within (suc most) at b node = go (joins nodes entry at) refl (λ from c n. located_within most from c n)
      where
        go : (t : Bool) → joins nodes entry at ≡ t → ((from : ℕ) → from < most → is_node nodes from ≡ true → Located from) → Located at
        go false e rest = leads at node e
        go true e rest =
            let j = joined nodes entry at e in
            let l = rest j.from (omega (arith, j.below, b)) (source_is_node at j) in
            joins_on at j.from l.rest (goes_onward at e j) (begin_joins at e j) l.chain l.before l.exit

    pub located : (at : ℕ) → is_node nodes at ≡ true → Located at
    located at node = located_within (suc at) at (omega arith) node
