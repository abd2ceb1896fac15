-- Laws of instructions by their offsets, and of the edges between them.
use Rattle.std.proofs.Common.{◌≡◌, ◌<◌, ℕ, zero, suc, Bool, true, false, ◌&&◌, ◌||◌, ◌==◌, if◌then◌else◌, inl, inr, [], ◌∷◌, map, filter, Option, Some, None, slice_get, get_or, All, AllPairs, Contains, refl, sym, ap, ◌∙◌, subst, true≢false, eqb-true, eq-eqb, ne_eqb, arith}
use Rattle.std.specs.List.{list_any}
use Rattle.std.proofs.lemmas.List.Elements.{All-head, All-tail, All-contains}
use Rattle.std.proofs.lemmas.List.Folds.{list_any_none}
use Rattle.dcc_prog.specs.declared.procedure.Node.{Node}
use Rattle.dcc_ir.proofs.PathLaws.{decided, clash, or_false}
use Rattle.dcc_lift.specs.Blocks.{Nodes, node_in, successors_in, edges_into}
use Rattle.dcc_lift.specs.Sound.{offsets_of, AreSound}
use Rattle.dcc_lift.proofs.ListTests.{or_here, or_there, or_none, any_agree, any_map, any_flat_map, any_constant, any_contained, contained_any}

-- an instruction stands at the offset
abbrev pub is_node : Nodes → ℕ → Bool
is_node nodes at = list_any (λ found. found.0 == at) nodes

-- the instruction at the one offset goes on at the other
abbrev pub goes_on : Nodes → ℕ → ℕ → Bool
goes_on nodes a b = list_any (λ found. (found.0 == a) && list_any (λ next. next == b) found.1.succ.items) nodes

-- Instructions.

pub node_in_none : (nodes : Nodes) (at : ℕ) → is_node nodes at ≡ false → node_in nodes at ≡ None
node_in_none [] at e = refl
node_in_none (found ∷ nodes) at e = go (found.0 == at) e (λ f. node_in_none nodes at f)
  where
    go : (b : Bool) → (b || is_node nodes at) ≡ false → (is_node nodes at ≡ false → node_in nodes at ≡ None)
        → (if b then Some found.1 else node_in nodes at) ≡ None
    go true e later = absurd (true≢false e)
    go false e later = later e

pub node_in_some : (nodes : Nodes) (at : ℕ) → is_node nodes at ≡ true → (node : Node) × (node_in nodes at ≡ Some node)
node_in_some [] at e = absurd (true≢false (sym e))
node_in_some (found ∷ nodes) at e = go (found.0 == at) e (λ f. node_in_some nodes at f)
  where
    go : (b : Bool) → (b || is_node nodes at) ≡ true
        → (is_node nodes at ≡ true → (node : Node) × (node_in nodes at ≡ Some node))
        → (node : Node) × ((if b then Some found.1 else node_in nodes at) ≡ Some node)
    go true e later = (found.1, refl)
    go false e later = later e

pub node_in_has : (nodes : Nodes) (at : ℕ) (node : Node) → node_in nodes at ≡ Some node → is_node nodes at ≡ true
node_in_has nodes at node e = elim (decided (is_node nodes at)) [
  | inl t ↦ t
  | inr n ↦ let none = node_in_none nodes at n in absurd (cc)
]

-- what holds of all instructions holds of the one that is found
pub node_in_holds : (P : ℕ × Node → Type 0) (nodes : Nodes) (at : ℕ) (node : Node) → All P nodes
    → node_in nodes at ≡ Some node → P (at, node)
node_in_holds P [] at node all e = absurd (cc)
node_in_holds P (found ∷ nodes) at node all e =
    go (found.0 == at) refl e (λ f. node_in_holds P nodes at node (All-tail P found nodes all) f)
  where
    go : (b : Bool) → (found.0 == at) ≡ b → (if b then Some found.1 else node_in nodes at) ≡ Some node
        → (node_in nodes at ≡ Some node → P (at, node)) → P (at, node)
    go true t e later =
        let there : found.0 ≡ at = eqb-true found.0 at t in
        let same : found.1 ≡ node = cc in
        subst P (ap (λ n. (n, found.1)) there ∙ ap (λ n. (at, n)) same) (All-head P found nodes all)
    go false t e later = later e

-- no two instructions stand at one offset
abbrev pub Differ : Nodes → Type 0
Differ [] = Unit {0}
Differ (found ∷ nodes) = (is_node nodes found.0 ≡ false) × Differ nodes

pub ascending_differ : (nodes : Nodes) → AllPairs (λ (a b : ℕ × Node). a.0 < b.0) nodes → Differ nodes
ascending_differ [] up = tt
ascending_differ (found ∷ nodes) up = (
  list_any_none (λ other. other.0 == found.0) nodes
      (λ k d inside. ne_eqb (get_or nodes k d).0 found.0
      (λ same. let less : found.0 < (get_or nodes k d).0 =
      up 0 (suc k) d (omega arith) (omega arith) in absurd (omega arith))),
  ascending_differ nodes (λ i j d less inside. up (suc i) (suc j) d (omega arith) (omega arith)),
)

first_found : (found : ℕ × Node) (nodes : Nodes) → node_in (found ∷ nodes) found.0 ≡ Some found.1
first_found found nodes = ap (λ b. if b then Some found.1 else node_in nodes found.0) (eq-eqb found.0 found.0 refl)

later_found : (found : ℕ × Node) (nodes : Nodes) (at : ℕ) → (found.0 == at) ≡ false
    → node_in (found ∷ nodes) at ≡ node_in nodes at
later_found found nodes at n = ap (λ b. if b then Some found.1 else node_in nodes at) n

-- another offset than that of an instruction before it
not_before : (found : ℕ × Node) (nodes : Nodes) (at : ℕ) → is_node nodes found.0 ≡ false → is_node nodes at ≡ true
    → (found.0 == at) ≡ false
not_before found nodes at none has = ne_eqb found.0 at
    (λ same. clash has (subst (λ n. is_node nodes n ≡ false) same none))

-- the instruction at a place of the list is found at its offset
pub node_in_found : (nodes : Nodes) (place : ℕ) (at : ℕ) (node : Node) → Differ nodes
    → slice_get nodes place ≡ Some (at, node) → node_in nodes at ≡ Some node
node_in_found [] place at node differ e = absurd (cc)
node_in_found (found ∷ nodes) zero at node differ e =
    let same : found ≡ (at, node) = cc in
    subst (λ (x : ℕ × Node). node_in (found ∷ nodes) x.0 ≡ Some x.1) same (first_found found nodes)
node_in_found (found ∷ nodes) (suc place) at node differ e =
    let later = node_in_found nodes place at node differ.1 e in
    later_found found nodes at (not_before found nodes at differ.0 (node_in_has nodes at node later)) ∙ later

-- Edges.

pub goes_from : (nodes : Nodes) (a b : ℕ) → goes_on nodes a b ≡ true → is_node nodes a ≡ true
goes_from [] a b e = e
goes_from (found ∷ nodes) a b e = elim (decided (found.0 == a)) [
  | inl t ↦ or_here (found.0 == a) (is_node nodes a) t
  | inr n ↦ or_there (found.0 == a) (is_node nodes a) (goes_from nodes a b
      (or_false ((found.0 == a) && list_any (λ next. next == b) found.1.succ.items) (goes_on nodes a b)
      (ap (λ c. c && list_any (λ next. next == b) found.1.succ.items) n) e))
]

-- the edges from an offset are those of the instruction there
pub goes_on_is : (nodes : Nodes) (a b : ℕ) → Differ nodes
    → goes_on nodes a b ≡ list_any (λ next. next == b) (successors_in (node_in nodes a))
goes_on_is [] a b differ = refl
goes_on_is (found ∷ nodes) a b differ = elim (decided (found.0 == a)) [
  | inl t ↦
      let none : goes_on nodes a b ≡ false = elim (decided (goes_on nodes a b)) [
        | inl more ↦ absurd (clash (goes_from nodes a b more)
            (subst (λ n. is_node nodes n ≡ false) (eqb-true found.0 a t) differ.0))
        | inr fewer ↦ fewer
      ] in
      ap (λ c. (c && list_any (λ next. next == b) found.1.succ.items) || goes_on nodes a b) t
      ∙ ap (λ c. list_any (λ next. next == b) found.1.succ.items || c) none
      ∙ or_none (list_any (λ next. next == b) found.1.succ.items)
      ∙ sym (ap (λ c. list_any (λ next. next == b) (successors_in (if c then Some found.1 else node_in nodes a))) t)
  | inr n ↦
      ap (λ c. (c && list_any (λ next. next == b) found.1.succ.items) || goes_on nodes a b) n
      ∙ goes_on_is nodes a b differ.1
      ∙ sym (ap (λ o. list_any (λ next. next == b) (successors_in o)) (later_found found nodes a n))
]

-- the offsets from which edges lead to one are those that go on there
pub edges_into_are : (nodes : Nodes) (a b : ℕ) → list_any (λ from. from == a) (edges_into nodes b) ≡ goes_on nodes a b
edges_into_are nodes a b =
    any_flat_map (λ from. from == a) (λ (found : ℕ × Node). map (λ _. found.0)
    (filter (λ next. next == b) found.1.succ.items)) nodes
    ∙ any_agree (λ (found : ℕ × Node). list_any (λ from. from == a)
    (map (λ _. found.0) (filter (λ next. next == b) found.1.succ.items)))
    (λ (found : ℕ × Node). (found.0 == a) && list_any (λ next. next == b) found.1.succ.items)
    (λ found. any_map (λ from. from == a) (λ _. found.0) (filter (λ next. next == b) found.1.succ.items)
    ∙ any_constant (found.0 == a) (λ next. next == b) found.1.succ.items) nodes

-- Sound instructions.

-- an offset of an instruction
pub node_contained : (nodes : Nodes) (at : ℕ) → Contains (offsets_of nodes) at → is_node nodes at ≡ true
node_contained nodes at h = sym (any_map (λ n. n == at) (λ (found : ℕ × Node). found.0) nodes)
    ∙ any_contained (offsets_of nodes) at h

pub contained_node : (nodes : Nodes) (at : ℕ) → is_node nodes at ≡ true → Contains (offsets_of nodes) at
contained_node nodes at e = contained_any (offsets_of nodes) at
    (any_map (λ n. n == at) (λ (found : ℕ × Node). found.0) nodes ∙ e)

module _ (nodes : Nodes) (entry prelude : ℕ) (sound : AreSound nodes entry prelude) where
  pub nodes_differ : Differ nodes
  nodes_differ = ascending_differ nodes sound.ascending

  pub entry_is_node : is_node nodes entry ≡ true
  entry_is_node = node_contained nodes entry sound.entered

  pub prelude_no_node : is_node nodes prelude ≡ false
  prelude_no_node = elim (decided (is_node nodes prelude)) [
    | inl t ↦ absurd (sound.apart (contained_node nodes prelude t))
    | inr n ↦ n
  ]

  -- instructions go on to instructions
  pub successor_is_node : (a b : ℕ) → list_any (λ next. next == b) (successors_in (node_in nodes a)) ≡ true
      → is_node nodes b ≡ true
  successor_is_node a b e = go (node_in nodes a) refl e
    where
      go : (o : Option Node) → node_in nodes a ≡ o → list_any (λ next. next == b) (successors_in o) ≡ true
          → is_node nodes b ≡ true
      go None f e = absurd (true≢false (sym e))
      go (Some node) f e =
          let all : All (Contains (offsets_of nodes)) node.succ.items =
          node_in_holds (λ (found : ℕ × Node). All
          (Contains (offsets_of nodes)) found.1.succ.items) nodes a node sound.closed f in
          node_contained nodes b (All-contains (Contains (offsets_of nodes)) node.succ.items b all
          (contained_any node.succ.items b e))

  pub edges_are : (a b : ℕ) → list_any (λ from. from == a) (edges_into nodes b) ≡ list_any (λ next. next == b)
      (successors_in (node_in nodes a))
  edges_are a b = edges_into_are nodes a b ∙ goes_on_is nodes a b nodes_differ
