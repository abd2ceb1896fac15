-- Laws of the instructions that join the block of the one before them, and of the chains that they make.
use Rattle.std.proofs.Common.{◌≡◌, ◌≢◌, ◌<◌, ℕ, Bool, true, false, not, ◌&&◌, ◌||◌, ◌==◌, nat_lt, filter, if◌then◌else◌, inl, inr, List, [], ◌∷◌, map, Some, None, All, refl, sym, ap, ◌∙◌, subst, true≢false, eqb-true, eq-eqb, ne_eqb, ltb-true}
use Rattle.std.specs.List.{list_any}
use Rattle.std.proofs.lemmas.Bool.{eqb-false}
use Rattle.std.proofs.lemmas.List.Elements.{All-nil, All-cons}
use Rattle.dcc_prog.specs.declared.procedure.Node.{Node}
use Rattle.dcc_ir.proofs.PathLaws.{decided, clash}
use Rattle.dcc_lift.specs.Blocks.{Nodes, node_in, successors_in, edges_into, is_one, calls_in, jumps_by_table_in, comes_from_below, joins, if_joins, onward, IsChain, leaders, last_of}
use Rattle.dcc_lift.specs.Sound.{AreSound}
use Rattle.dcc_lift.proofs.ListTests.{and_left, and_right, and_both, or_here, or_none, not_true, same_number, any_map, any_filter}
use Rattle.dcc_lift.proofs.NodeLaws.{is_node, node_in_some, node_in_has, node_in_holds, entry_is_node, prelude_no_node, successor_is_node, edges_are}

-- a block begins at the offset
abbrev pub is_leader : Nodes → ℕ → ℕ → Bool
is_leader nodes entry at = list_any (λ leader. leader == at) (leaders nodes entry)

-- the offset is among the successors
abbrev pub has_successor : Nodes → ℕ → ℕ → Bool
has_successor nodes a b = list_any (λ next. next == b) (successors_in (node_in nodes a))

-- Joining.

-- what is known where an instruction joins the block of the one before it
pub record IsJoined (nodes : Nodes) (entry at : ℕ) : Type 0 where
  pub from : ℕ
  pub edges : edges_into nodes at ≡ from ∷ []
  pub below : from < at
  pub one : is_one (successors_in (node_in nodes from)) ≡ true
  pub from_calls : calls_in (node_in nodes from) ≡ false
  pub inner : at ≢ entry
  pub calls : calls_in (node_in nodes at) ≡ false

joined_by : (nodes : Nodes) (entry at : ℕ) (edges : List ℕ) → edges_into nodes at ≡ edges
    → comes_from_below nodes edges at ≡ true → at ≢ entry → calls_in (node_in nodes at) ≡ false
    → IsJoined nodes entry at
joined_by nodes entry at [] e t other calls = absurd (true≢false (sym t))
joined_by nodes entry at (from ∷ []) e t other calls =
    let lower = nat_lt from at in
    let one = is_one (successors_in (node_in nodes from)) in
    let apart = not (calls_in (node_in nodes from)) in
    let plain = and_left (lower && one && apart) (not (jumps_by_table_in (node_in nodes from))) t in
    let both = and_left (lower && one) apart plain in
    record {
      from = from;
      edges = e;
      below = ltb-true from at (and_left lower one both);
      one = and_right lower one both;
      from_calls = not_true (calls_in (node_in nodes from)) (and_right (lower && one) apart plain);
      inner = other;
      calls = calls;
    }
joined_by nodes entry at (from ∷ second ∷ rest) e t other calls = absurd (true≢false (sym t))

pub joined : (nodes : Nodes) (entry at : ℕ) → joins nodes entry at ≡ true → IsJoined nodes entry at
joined nodes entry at t =
    let other = not (at == entry) in
    let below = comes_from_below nodes (edges_into nodes at) at in
    let apart = not (calls_in (node_in nodes at)) in
    let both = and_left (other && below) apart t in
    let inner = not_true (at == entry) (and_left other below both) in
    joined_by nodes entry at (edges_into nodes at) refl (and_right other below both)
    (λ same. clash (eq-eqb at entry same) inner)
    (not_true (calls_in (node_in nodes at)) (and_right (other && below) apart t))

-- the first instruction of a procedure begins a block
pub entry_begins : (nodes : Nodes) (entry : ℕ) → joins nodes entry entry ≡ false
entry_begins nodes entry =
    ap (λ b. not b && comes_from_below nodes (edges_into nodes entry) entry && not (calls_in (node_in nodes entry)))
    (same_number entry)

-- a list with one member
one_member : (xs : List ℕ) → is_one xs ≡ true → (x : ℕ) × (xs ≡ x ∷ [])
one_member [] e = absurd (true≢false (sym e))
one_member (x ∷ []) e = (x, refl)
one_member (x ∷ y ∷ xs) e = absurd (true≢false (sym e))

pub sole : (x a : ℕ) (xs : List ℕ) → xs ≡ x ∷ [] → list_any (λ y. y == a) xs ≡ true → x ≡ a
sole x a xs e t = eqb-true x a (sym (or_none (x == a)) ∙ sym (ap (list_any (λ y. y == a)) e) ∙ t)

-- Going on within a block.

-- what is known where a block goes on from one instruction to the next
pub record IsOnward (nodes : Nodes) (entry at next : ℕ) : Type 0 where
  pub succ : successors_in (node_in nodes at) ≡ next ∷ []
  pub goes : has_successor nodes at next ≡ true
  pub joins : joins nodes entry next ≡ true
  pub edges : edges_into nodes next ≡ at ∷ []
  pub below : at < next
  pub inner : next ≢ entry
  pub node : (found : Node) × (node_in nodes next ≡ Some found)
  -- neither is a CALL
  pub calls : calls_in (node_in nodes at) ≡ false
  pub next_calls : calls_in (node_in nodes next) ≡ false

-- an instruction that joins the block of the one before it begins none
pub record IsInner (nodes : Nodes) (entry c : ℕ) : Type 0 where
  pub joins : joins nodes entry c ≡ true
  pub leader : is_leader nodes entry c ≡ false
  pub node : is_node nodes c ≡ true

onward_by : (nodes : Nodes) (entry next : ℕ) (places : List ℕ) → if_joins nodes entry places ≡ Some next
    → (places ≡ next ∷ []) × (joins nodes entry next ≡ true)
onward_by nodes entry next [] e = absurd (cc)
onward_by nodes entry next (x ∷ []) e = go (joins nodes entry x) refl e
  where
    go : (b : Bool) → joins nodes entry x ≡ b → (if b then Some x else None) ≡ Some next
        → (x ∷ [] ≡ next ∷ []) × (joins nodes entry next ≡ true)
    go true t e =
        let same : x ≡ next = cc in
        (ap (λ n. n ∷ []) same, subst (λ n. joins nodes entry n ≡ true) same t)
    go false t e = absurd (cc)
onward_by nodes entry next (x ∷ y ∷ places) e = absurd (cc)

module _ (nodes : Nodes) (entry prelude : ℕ) (sound : AreSound nodes entry prelude) where
  -- the only edge to an instruction that joins comes from the one before it
  pub joined_from : (at next : ℕ) (j : IsJoined nodes entry next) → has_successor nodes at next ≡ true → j.from ≡ at
  joined_from at next j t = sole j.from at (edges_into nodes next) j.edges
      (edges_are nodes entry prelude sound at next ∙ t)

  pub onward_tells : (at next : ℕ) → onward nodes entry at ≡ Some next → IsOnward nodes entry at next
  onward_tells at next e =
      let first = onward_by nodes entry next (successors_in (node_in nodes at)) e in
      let goes : has_successor nodes at next ≡ true = ap (list_any (λ x. x == next)) first.0
      ∙ or_none (next == next) ∙ same_number next in
      let j = joined nodes entry next first.1 in
      let same : j.from ≡ at = joined_from at next j goes in
      record {
        succ = first.0;
        goes = goes;
        joins = first.1;
        edges = j.edges ∙ ap (λ n. n ∷ []) same;
        below = subst (λ n. n < next) same j.below;
        inner = j.inner;
        node = node_in_some nodes next (successor_is_node nodes entry prelude sound at next goes);
        calls = subst (λ n. calls_in (node_in nodes n) ≡ false) same j.from_calls;
        next_calls = j.calls;
      }

  -- an edge to an instruction that joins goes on within the block
  pub edge_to_joined : (at next : ℕ) → joins nodes entry next ≡ true → has_successor nodes at next ≡ true
      → onward nodes entry at ≡ Some next
  edge_to_joined at next t goes =
      let j = joined nodes entry next t in
      let one = one_member (successors_in (node_in nodes at))
      (subst (λ n. is_one (successors_in (node_in nodes n)) ≡ true) (joined_from at next j goes) j.one) in
      let same : one.0 ≡ next = sole one.0 next (successors_in (node_in nodes at)) one.1 goes in
      ap (if_joins nodes entry) (one.1 ∙ ap (λ n. n ∷ []) same) ∙ ap (λ b. if b then Some next else None) t

  -- Leaders.

  pub leader_is : (at : ℕ) → is_leader nodes entry at ≡ (is_node nodes at && not (joins nodes entry at))
  leader_is at = go (entry == at) refl
    where
      rest : (b : Bool) → b ≡ (at == entry) → list_any (λ leader. leader == at)
          (filter (λ a. not (a == entry) && not (joins nodes entry a)) (map (λ found. found.0) nodes))
          ≡ (is_node nodes at && (not b && not (joins nodes entry at)))
      rest b e =
          any_filter (λ a. not (a == entry) && not (joins nodes entry a)) at (map (λ found. found.0) nodes)
          ∙ ap (λ c. c && (not (at == entry) && not (joins nodes entry at)))
          (any_map (λ n. n == at) (λ (found : ℕ × Node). found.0) nodes)
          ∙ ap (λ c. is_node nodes at && (not c && not (joins nodes entry at))) (sym e)

      go : (b : Bool) → (entry == at) ≡ b
          → is_leader nodes entry at ≡ (is_node nodes at && not (joins nodes entry at))
      go true t =
          let here : entry ≡ at = eqb-true entry at t in
          let node : is_node nodes at ≡ true =
          subst (λ n. is_node nodes n ≡ true) here (entry_is_node nodes entry prelude sound) in
          let begins : joins nodes entry at ≡ false =
          subst (λ n. joins nodes entry n ≡ false) here (entry_begins nodes entry) in
          or_here (entry == at) _ t ∙ sym
          (and_both (is_node nodes at) (not (joins nodes entry at)) node (ap not begins))
      go false n =
          let other : false ≡ (at == entry) = sym (ne_eqb at entry (λ same. eqb-false entry at n (sym same))) in
          ap (λ b. b || list_any (λ leader. leader == at)
          (filter (λ a. not (a == entry) && not (joins nodes entry a)) (map (λ found. found.0) nodes))) n
          ∙ rest false other

  pub leader_node : (at : ℕ) → is_leader nodes entry at ≡ true → is_node nodes at ≡ true
  leader_node at e = and_left (is_node nodes at) (not (joins nodes entry at)) (sym (leader_is at) ∙ e)

  pub leader_below : (at : ℕ) → is_leader nodes entry at ≡ true → at < 65536
  leader_below at e =
      let found = node_in_some nodes at (leader_node at e) in
      node_in_holds (λ (found : ℕ × Node). found.0 < 65536) nodes at found.0 sound.below found.1

  pub leader_begins : (at : ℕ) → is_leader nodes entry at ≡ true → joins nodes entry at ≡ false
  leader_begins at e = not_true (joins nodes entry at)
      (and_right (is_node nodes at) (not (joins nodes entry at)) (sym (leader_is at) ∙ e))

  pub begins_leader : (at : ℕ) → is_node nodes at ≡ true → joins nodes entry at ≡ false
      → is_leader nodes entry at ≡ true
  begins_leader at node begins = leader_is at
      ∙ and_both (is_node nodes at) (not (joins nodes entry at)) node (ap not begins)

  pub joins_no_leader : (at : ℕ) → joins nodes entry at ≡ true → is_leader nodes entry at ≡ false
  joins_no_leader at t = elim (decided (is_leader nodes entry at)) [
    | inl leader ↦ absurd (clash t (leader_begins at leader))
    | inr none ↦ none
  ]

  -- an instruction that begins no block joins that of the one before it
  pub no_leader_joins : (at : ℕ) → is_node nodes at ≡ true → is_leader nodes entry at ≡ false
      → joins nodes entry at ≡ true
  no_leader_joins at node none = elim (decided (joins nodes entry at)) [
    | inl t ↦ t
    | inr begins ↦ absurd (clash (begins_leader at node begins) none)
  ]

  pub entry_is_leader : is_leader nodes entry entry ≡ true
  entry_is_leader = begins_leader entry (entry_is_node nodes entry prelude sound) (entry_begins nodes entry)

  pub prelude_no_leader : is_leader nodes entry prelude ≡ false
  prelude_no_leader = leader_is prelude ∙ ap (λ b. b && not (joins nodes entry prelude))
      (prelude_no_node nodes entry prelude sound)

  -- Chains.

  -- all instructions of a chain but the first join
  pub chain_inner : (rest : List ℕ) (at : ℕ) → IsChain nodes entry at rest → All (IsInner nodes entry) rest
  chain_inner [] at chain = All-nil (IsInner nodes entry)
  chain_inner (next ∷ rest) at chain =
      let on = onward_tells at next chain.0 in
      All-cons (IsInner nodes entry) next rest
      (record {
        joins = on.joins;
        leader = joins_no_leader next on.joins;
        node =
            node_in_has nodes next on.node.0 on.node.1;
      })
      (chain_inner rest next chain.1)

  -- the last instruction of a chain is one of the procedure
  pub last_node : (rest : List ℕ) (at : ℕ) → IsChain nodes entry at rest → is_node nodes at ≡ true
      → is_node nodes (last_of at rest) ≡ true
  last_node [] at chain here = here
  last_node (next ∷ rest) at chain here =
      let on = (onward_tells at next chain.0).node in
      last_node rest next chain.1 (node_in_has nodes next on.0 on.1)

  -- a chain goes to its end
  pub chain_end : (rest : List ℕ) (at : ℕ) → IsChain nodes entry at rest → onward nodes entry (last_of at rest) ≡ None
  chain_end [] at chain = chain
  chain_end (next ∷ rest) at chain = chain_end rest next chain.1

  -- where the last instruction of a chain goes on, blocks begin
  pub last_goes_to_leaders : (at : ℕ) (rest : List ℕ) (b : ℕ) → IsChain nodes entry at rest
      → has_successor nodes (last_of at rest) b ≡ true → is_leader nodes entry b ≡ true
  last_goes_to_leaders at rest b chain goes =
      let node = successor_is_node nodes entry prelude sound (last_of at rest) b goes in
      elim (decided (joins nodes entry b)) [
        | inl t ↦ let on = edge_to_joined (last_of at rest) b t goes in let end = chain_end rest at chain in
            absurd (cc)
        | inr begins ↦ begins_leader b node begins
      ]

  -- a CALL stands alone in its block
  pub call_ends : (at : ℕ) → calls_in (node_in nodes at) ≡ true → (rest : List ℕ) → IsChain nodes entry at rest
      → rest ≡ []
  call_ends at t [] chain = refl
  call_ends at t (next ∷ rest) chain = absurd (clash t (onward_tells at next chain.0).calls)

  -- there is one chain at most from an instruction on
  pub chain_once : (rest other : List ℕ) (at : ℕ) → IsChain nodes entry at rest → IsChain nodes entry at other
      → rest ≡ other
  chain_once [] [] at chain second = refl
  chain_once [] (next ∷ other) at chain second = absurd (cc (chain, second.0))
  chain_once (next ∷ rest) [] at chain second = absurd (cc (chain.0, second))
  chain_once (next ∷ rest) (after ∷ other) at chain second =
      let same : next ≡ after = cc (chain.0, second.0) in
      ap (λ n. n ∷ rest) same ∙ ap (λ l. after ∷ l)
      (chain_once rest other after (subst (λ n. IsChain nodes entry n rest) same chain.1) second.1)
