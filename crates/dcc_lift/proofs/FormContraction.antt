-- The blocks of a translation are those of the procedure's instructions: the one flow graph contracts to the other.
use Rattle.std.proofs.Common.{◌≡◌, ◌<◌, ℕ, Bool, true, false, ◌&&◌, ◌||◌, ◌==◌, if◌then◌else◌, ◌⊎◌, inl, inr, List, [], ◌∷◌, ◌++◌, length, refl, sym, ap, ◌∙◌, subst, eqb-true, lt_trans, arith}
use Rattle.std.specs.List.{list_any}
use Rattle.dcc_ir.specs.Tree.{Block, Graph}
use Rattle.dcc_ir.specs.Flow.{Flow, first_address, flow_of, has_edge, IsPath, Any, Reached, Leads, IsContraction, HaveOneEdge}
use Rattle.dcc_ir.proofs.PathLaws.{decided, clash, or_left, or_right, path_of_none, path_last, reached_has}
use Rattle.dcc_ir.proofs.GraphLaws.{flow_of-flow}
use Rattle.dcc_ir.proofs.EdgeLaws.{after_one_from_edges}
use Rattle.dcc_lift.specs.Blocks.{Nodes, node_in, successors_in, joins, IsChain, leaders, BlockSource, nodes_in, entry_in, last_of, AreBlocksAt}
use Rattle.dcc_lift.specs.Sound.{AreSound}
use Rattle.dcc_lift.proofs.ListTests.{and_left, and_right, and_both, or_here, or_there, or_cases, same_number}
use Rattle.dcc_lift.proofs.NodeLaws.{is_node, goes_on, goes_from, goes_on_is, nodes_differ, entry_is_node, prelude_no_node, successor_is_node}
use Rattle.dcc_lift.proofs.ChainLaws.{is_leader, has_successor, sole, IsJoined, joined, joined_from, onward_tells, edge_to_joined, leader_node, leader_begins, no_leader_joins, joins_no_leader, entry_is_leader}
use Rattle.dcc_lift.proofs.BlockLaws.{has_block, leader_block, goes_between, edge_cases, front_goes, leader_goes}

-- the flow graph of a procedure's instructions, with one block more before them or without
abbrev pub begun_flow : Bool → ℕ → Nodes → ℕ → Flow
begun_flow begun prelude nodes entry = record {
  start = if begun then prelude else entry;
  has = λ a. (begun && (prelude == a)) || is_node nodes a;
  goes = λ a b. (begun && ((prelude == a) && (entry == b))) || goes_on nodes a b;
}

-- the blocks before those of the instructions: that of the prelude alone, which goes to the entry's, or none
pub record AreBefore (scene : BlockSource) (prelude : ℕ) (begun : Bool) (front blocks : List Block) : Type 0 where
  pub before : length front ≡ scene.before
  pub are : AreBlocksAt scene (leaders (nodes_in scene) (entry_in scene)) blocks
  pub has : (a : ℕ) → list_any (λ block. block.at == a) front ≡ (begun && (prelude == a))
  pub edges :
      (a b : ℕ)
      → list_any (λ block. (block.at == a) && has_edge (front ++ blocks) block b) front
      ≡ (begun && ((prelude == a) && (entry_in scene == b)))
  pub start : first_address (front ++ blocks) ≡ (if begun then prelude else entry_in scene)

module _ (scene : BlockSource) (prelude : ℕ) (sound : AreSound (nodes_in scene) (entry_in scene) prelude) (begun : Bool)
    (front blocks : List Block) (is : AreBefore scene prelude begun front blocks) (graph : Graph)
    (graph_is : graph.blocks ≡ front ++ blocks) where
  abbrev nodes : Nodes
  nodes = nodes_in scene

  abbrev entry : ℕ
  entry = entry_in scene

  abbrev P : Flow
  P = begun_flow begun prelude nodes entry

  abbrev Q : Flow
  Q = flow_of graph

  q_has : (a : ℕ) → Q.has a ≡ ((begun && (prelude == a)) || is_leader nodes entry a)
  q_has a =
      ap (list_any (λ block. block.at == a)) graph_is
      ∙ has_block scene prelude sound front is.before blocks is.are a
      ∙ ap (λ c. c || is_leader nodes entry a) (is.has a)

  q_goes : (a b : ℕ) → Q.goes a b ≡ goes_between (front ++ blocks) a b
  q_goes a b = ap (λ all. goes_between all a b) graph_is

  not_leader : (c : ℕ) → Q.has c ≡ false → is_leader nodes entry c ≡ false
  not_leader c none = or_right (begun && (prelude == c)) (is_leader nodes entry c) (sym (q_has c) ∙ none)

  inner_none : (c : ℕ) → is_node nodes c ≡ true → joins nodes entry c ≡ true → Q.has c ≡ false
  inner_none c node t = elim (decided (Q.has c)) [
    | inl has ↦ elim (or_cases (begun && (prelude == c)) (is_leader nodes entry c) (sym (q_has c) ∙ has)) [
      | inl here ↦
          absurd (clash node
          (subst (λ n. is_node nodes n ≡ false) (eqb-true prelude c (and_right begun (prelude == c) here))
          (prelude_no_node nodes entry prelude sound)))
      | inr leader ↦ absurd (clash leader (joins_no_leader nodes entry prelude sound c t))
    ]
    | inr none ↦ none
  ]

  leader_has : (c : ℕ) → is_leader nodes entry c ≡ true → Q.has c ≡ true
  leader_has c leader = q_has c ∙ or_there (begun && (prelude == c)) (is_leader nodes entry c) leader

  -- the edge from the prelude, where there is one
  pub record IsFromPrelude (a b : ℕ) : Type 0 where
    pub begins : begun ≡ true
    pub from : a ≡ prelude
    pub to : b ≡ entry

  from_first : (a b : ℕ) → (begun && ((prelude == a) && (entry == b))) ≡ true → IsFromPrelude a b
  from_first a b t =
      let both = and_right begun ((prelude == a) && (entry == b)) t in
      record {
        begins = and_left begun ((prelude == a) && (entry == b)) t;
        from = sym (eqb-true prelude a (and_left (prelude == a) (entry == b) both));
        to = sym (eqb-true entry b (and_right (prelude == a) (entry == b) both));
      }

  to_first : begun ≡ true → (begun && ((prelude == prelude) && (entry == entry))) ≡ true
  to_first begins =
      and_both begun ((prelude == prelude) && (entry == entry)) begins
      (and_both (prelude == prelude) (entry == entry) (same_number prelude) (same_number entry))

  -- an edge of the instructions
  p_cases : (a b : ℕ) → P.goes a b ≡ true → IsFromPrelude a b ⊎ (has_successor nodes a b ≡ true)
  p_cases a b e =
      elim (or_cases (begun && ((prelude == a) && (entry == b))) (goes_on nodes a b) e) [
        | inl t ↦ inl (from_first a b t)
        | inr t ↦ inr (sym (goes_on_is nodes a b (nodes_differ nodes entry prelude sound)) ∙ t)
      ]

  p_goes : (a b : ℕ) → has_successor nodes a b ≡ true → P.goes a b ≡ true
  p_goes a b t =
      or_there (begun && ((prelude == a) && (entry == b))) (goes_on nodes a b)
      (goes_on_is nodes a b (nodes_differ nodes entry prelude sound) ∙ t)

  prelude_to_entry : begun ≡ true → P.goes prelude entry ≡ true
  prelude_to_entry begins =
      or_here (begun && ((prelude == prelude) && (entry == entry))) (goes_on nodes prelude entry) (to_first begins)

  -- an edge to an instruction that begins no block comes from the one before it
  pub record IsEdgeInside (a c : ℕ) : Type 0 where
    pub goes : has_successor nodes a c ≡ true
    pub joins : joins nodes entry c ≡ true
    pub joined : IsJoined nodes entry c
    pub from : joined.from ≡ a

  edge_inside : (a c : ℕ) → P.goes a c ≡ true → Q.has c ≡ false → IsEdgeInside a c
  edge_inside a c e none = elim (p_cases a c e) [
    | inl way ↦
        absurd (clash
        (subst (λ n. is_leader nodes entry n ≡ true) (sym way.to) (entry_is_leader nodes entry prelude sound))
        (not_leader c none))
    | inr goes ↦
        let t =
        no_leader_joins nodes entry prelude sound c (successor_is_node nodes entry prelude sound a c goes)
        (not_leader c none) in
        let j = joined nodes entry c t in
        record { goes = goes; joins = t; joined = j; from = joined_from nodes entry prelude sound a c j goes }
  ]

  -- each such instruction has one edge in
  pub one_edge : HaveOneEdge P Q
  one_edge a b c ra rb none e f =
      let x = edge_inside a c e none in
      sym x.from ∙ joined_from nodes entry prelude sound b c x.joined (edge_inside b c f none).goes

  -- a path of such instructions ascends
  ascends : (between : List ℕ) (a c : ℕ) → IsPath P.goes (λ y. Q.has y ≡ false) a between c → Q.has c ≡ false → a < c
  ascends [] a c e none = let x = edge_inside a c e none in subst (λ n. n < c) x.from x.joined.below
  ascends (m ∷ ms) a c path none =
      let x = edge_inside a m path.0 path.1 in
      let below : x.joined.from < m = x.joined.below in
      let later = ascends ms m c path.2 none in
      subst (λ n. n < c) x.from (lt_trans below later)

  cycles_hold : (a : ℕ) (between : List ℕ) → Reached P a → IsPath P.goes Any a between a
      → list_any Q.has (a ∷ between) ≡ true
  cycles_hold a between reached path = elim (decided (list_any Q.has (a ∷ between))) [
    | inl t ↦ t
    | inr none ↦
        let here = or_left (Q.has a) (list_any Q.has between) none in
        let up =
        ascends between a a
        (path_of_none P.goes Q.has a between a (or_right (Q.has a) (list_any Q.has between) none) path) here in
        absurd (omega (arith, up))
  ]

  -- A chain is a path to where its last instruction goes on.
  chain_path : (rest : List ℕ) (at b : ℕ) → IsChain nodes entry at rest
      → has_successor nodes (last_of at rest) b ≡ true
      → IsPath P.goes (λ y. Q.has y ≡ false) at rest b
  chain_path [] at b chain goes = p_goes at b goes
  chain_path (next ∷ rest) at b chain goes =
      let on = onward_tells nodes entry prelude sound at next chain.0 in
      let here : has_successor nodes at next ≡ true = on.goes in
      let node = successor_is_node nodes entry prelude sound at next here in
      (p_goes at next here, inner_none next node on.joins, chain_path rest next b chain.1 goes)

  node_goes : (a b : ℕ) → is_node nodes a ≡ true → P.goes a b ≡ true → has_successor nodes a b ≡ true
  node_goes a b node e = elim (p_cases a b e) [
    | inl way ↦
        absurd (clash (subst (λ n. is_node nodes n ≡ true) way.from node) (prelude_no_node nodes entry prelude sound))
    | inr goes ↦ goes
  ]

  -- a path that comes to no block before its end follows the chain
  path_follows : (between rest : List ℕ) (at b : ℕ) → is_node nodes at ≡ true → IsChain nodes entry at rest
      → is_leader nodes entry b ≡ true
      → IsPath P.goes (λ y. Q.has y ≡ false) at between b → has_successor nodes (last_of at rest) b ≡ true
  path_follows [] [] at b node chain leader path = node_goes at b node path
  path_follows [] (next ∷ rest) at b node chain leader path =
      let on = onward_tells nodes entry prelude sound at next chain.0 in
      let same : next ≡ b = sole next b (successors_in (node_in nodes at)) on.succ (node_goes at b node path) in
      absurd (clash (subst (λ n. joins nodes entry n ≡ true) same on.joins)
      (leader_begins nodes entry prelude sound b leader))
  path_follows (m ∷ ms) [] at b node chain leader path =
      let x = edge_inside at m path.0 path.1 in
      let on = edge_to_joined nodes entry prelude sound at m x.joins x.goes in
      absurd (cc (chain, on))
  path_follows (m ∷ ms) (next ∷ rest) at b node chain leader path =
      let x = edge_inside at m path.0 path.1 in
      let same : next ≡ m = cc (chain.0, edge_to_joined nodes entry prelude sound at m x.joins x.goes) in
      path_follows ms rest next b
      (subst (λ n. is_node nodes n ≡ true) (sym same) (successor_is_node nodes entry prelude sound at m x.goes))
      chain.1 leader
      (subst (λ n. IsPath P.goes (λ y. Q.has y ≡ false) n ms b) (sym same) path.2)

  -- Edges between blocks.

  edge_leads : (a b : ℕ) → Q.goes a b ≡ true → Leads P Q a b
  edge_leads a b e =
      elim (edge_cases scene prelude sound front is.before blocks is.are a b (sym (q_goes a b) ∙ e)) [
        | inl t ↦
            let way = from_first a b (sym (is.edges a b) ∙ t) in (
              [],
              subst (λ n. P.goes n b ≡ true) (sym way.from)
                  (subst (λ n. P.goes prelude n ≡ true) (sym way.to) (prelude_to_entry way.begins)),
            )
        | inr from ↦ (from.rest, chain_path from.rest a b from.chain from.goes)
      ]

  -- from the prelude there is one edge alone, to the entry, and to it there is none
  from_prelude : (c : ℕ) → P.goes prelude c ≡ true → c ≡ entry
  from_prelude c e = elim (p_cases prelude c e) [
    | inl way ↦ way.to
    | inr goes ↦
        absurd (clash
        (goes_from nodes prelude c (goes_on_is nodes prelude c (nodes_differ nodes entry prelude sound) ∙ goes))
        (prelude_no_node nodes entry prelude sound))
  ]

  to_prelude : (c : ℕ) → P.goes c prelude ≡ true → ⊥
  to_prelude c e = elim (p_cases c prelude e) [
    | inl way ↦
        clash (subst (λ n. is_node nodes n ≡ true) (sym way.to) (entry_is_node nodes entry prelude sound))
        (prelude_no_node nodes entry prelude sound)
    | inr goes ↦
        clash (successor_is_node nodes entry prelude sound c prelude goes) (prelude_no_node nodes entry prelude sound)
  ]

  prelude_leads : (between : List ℕ) (b : ℕ) → IsPath P.goes (λ y. Q.has y ≡ false) prelude between b → b ≡ entry
  prelude_leads [] b path = from_prelude b path
  prelude_leads (m ∷ ms) b path =
      let leader =
      subst (λ n. is_leader nodes entry n ≡ true) (sym (from_prelude m path.0))
      (entry_is_leader nodes entry prelude sound) in
      absurd (clash (leader_has m leader) path.1)

  leader_leads : (a b : ℕ) → is_leader nodes entry a ≡ true → is_leader nodes entry b ≡ true → Leads P Q a b
      → Q.goes a b ≡ true
  leader_leads a b leader to_leader leads =
      let there = (leader_block scene prelude sound front is.before blocks is.are a leader).is_block in
      q_goes a b ∙ leader_goes scene prelude sound front is.before blocks is.are a b (record {
        leader = leader;
        rest = there.rest;
        chain = there.chain;
        to_leader = to_leader;
        goes =
            path_follows leads.0 there.rest a b (leader_node nodes entry prelude sound a leader) there.chain to_leader
            leads.1;
      })

  leads_edge : (a b : ℕ) → Q.has a ≡ true → Q.has b ≡ true → Leads P Q a b → Q.goes a b ≡ true
  leads_edge a b ha hb leads =
      elim (or_cases (begun && (prelude == a)) (is_leader nodes entry a) (sym (q_has a) ∙ ha)) [
        | inl t ↦
            let here : prelude ≡ a = eqb-true prelude a (and_right begun (prelude == a) t) in
            let there : b ≡ entry =
            prelude_leads leads.0 b
            (subst (λ n. IsPath P.goes (λ y. Q.has y ≡ false) n leads.0 b) (sym here) leads.1) in
            subst (λ n. Q.goes n b ≡ true) here
            (subst (λ n. Q.goes prelude n ≡ true) (sym there)
            (q_goes prelude entry
            ∙ front_goes scene prelude sound front is.before blocks is.are prelude entry
            (is.edges prelude entry ∙ to_first (and_left begun (prelude == a) t))))
        | inr leader ↦ elim (or_cases (begun && (prelude == b)) (is_leader nodes entry b) (sym (q_has b) ∙ hb)) [
          | inl t ↦
              let last = path_last P.goes (λ y. Q.has y ≡ false) a leads.0 b leads.1 in
              absurd (to_prelude last.0
              (subst (λ n. P.goes last.0 n ≡ true) (sym (eqb-true prelude b (and_right begun (prelude == b) t)))
              last.1))
          | inr to_leader ↦ leader_leads a b leader to_leader leads
        ]
      ]

  -- The graph's blocks are instructions or the prelude's.
  has_before : (a : ℕ) → Q.has a ≡ true → P.has a ≡ true
  has_before a has =
      elim (or_cases (begun && (prelude == a)) (is_leader nodes entry a) (sym (q_has a) ∙ has)) [
        | inl here ↦ or_here (begun && (prelude == a)) (is_node nodes a) here
        | inr leader ↦
            or_there (begun && (prelude == a)) (is_node nodes a) (leader_node nodes entry prelude sound a leader)
      ]

  first_has : (b : Bool) → begun ≡ b → Q.has (if b then prelude else entry) ≡ true
  first_has true begins =
      q_has prelude
      ∙ or_here (begun && (prelude == prelude)) (is_leader nodes entry prelude)
      (and_both begun (prelude == prelude) begins (same_number prelude))
  first_has false none = leader_has entry (entry_is_leader nodes entry prelude sound)

  pub contraction : IsContraction P Q
  contraction = record {
    start = ap first_address graph_is ∙ is.start;
    blocks = has_before;
    first = λ h. first_has begun refl;
    cycles = cycles_hold;
    edges = λ a b reached hb. (edge_leads a b, leads_edge a b (reached_has Q (flow_of-flow graph) a reached) hb);
    following_one = after_one_from_edges P Q one_edge;
  }

  -- the graph has a block at each leader
  pub leader_there : (c : ℕ) → is_leader nodes entry c ≡ true → Q.has c ≡ true
  leader_there c leader = leader_has c leader
