-- The edges to an offset, one instruction after another.
use Rattle.std.proofs.Common.{◌≡◌, ◌≢◌, inl, inr, ℕ, ◌+◌, ◌≤◌, ◌<◌, Bool, true, false, ◌==◌, if◌then◌else◌, List, [], ◌∷◌, ◌++◌, length, map, filter, take, set, replicate, get_or, Contains, Some, refl, sym, ap, ◌∙◌, subst, append_assoc, arith}
use Rattle.std.proofs.lemmas.Bool.{eq-eqb, eqb-true, eqb-false, cases_lt}
use Rattle.std.proofs.lemmas.Grind.{flat_map-append}
use Rattle.std.proofs.lemmas.List.{take_more, map-append, append-nil, get_or-set_same, get_or-set_other, get_or-replicate, length-replicate, get_or_past}
use Rattle.std.proofs.lemmas.List.Elements.{filter-append, Contains-append_left, Contains-append_right}
use Rattle.dcc_prog.specs.declared.procedure.Node.{Node}
use Rattle.dcc_lift.specs.declared.edges.Incoming.{Incoming}
use Rattle.dcc_lift.specs.declared.edges.Incoming.TheVariants.{Nowhere, From}
use Rattle.dcc_lift.specs.Incoming.{incoming_of, AreIncoming}
use Rattle.dcc_lift.proofs.ListTests.{and_left, and_right}
use Rattle.dcc_lift.specs.Blocks.{Nodes, node_in, edges_into, comes_from_below, joins}

-- from an offset to one of these
abbrev pub noted : ℕ → ℕ → List ℕ → List ℕ
noted from to successors = map (λ _. from) (filter (λ next. next == to) successors)

-- one successor more
pub noted-more : (from to : ℕ) (successors : List ℕ) (i : ℕ) → i < length successors
    → noted from to (take (i + 1) successors)
    ≡ noted from to (take i successors) ++ noted from to (get_or successors i 0 ∷ [])
noted-more from to successors i l =
    ap (noted from to) (take_more successors i 0 l)
    ∙ (ap (map (λ _. from)) (filter-append (λ next. next == to) (take i successors) (get_or successors i 0 ∷ []))
    ∙ map-append (λ _. from) (filter (λ next. next == to) (take i successors))
    (filter (λ next. next == to) (get_or successors i 0 ∷ [])))

-- a successor that is the offset notes an edge to it
pub noted-same : (from to next : ℕ) → next ≡ to → noted from to (next ∷ []) ≡ from ∷ []
noted-same from to next e = ap (λ b. map (λ _. from) (if b then next ∷ [] else [])) (eq-eqb next to e)

-- a successor that is not the offset notes no edge to it
pub noted-other : (from to next : ℕ) → (next == to) ≡ false → noted from to (next ∷ []) ≡ []
noted-other from to next e = ap (λ b. map (λ _. from) (if b then next ∷ [] else [])) e

-- the table, where one successor more is noted
module _ (table : List Incoming) (from next to : ℕ) (successors edges : List ℕ) (i : ℕ) (r : Incoming) where
  noted-whole : i < length successors → next ≡ get_or successors i 0
      → edges ++ noted from to (take (i + 1) successors) ≡ (edges ++ noted from to (take i successors)) ++ noted from
      to (next ∷ [])
  noted-whole l e =
      ap (λ more. edges ++ more)
      (noted-more from to successors i l
      ∙ ap (λ n. noted from to (take i successors) ++ noted from to (n ∷ [])) (sym e))
      ∙ sym (append_assoc edges _ _)

  pub noted-step : next < length table → i < length successors → next ≡ get_or successors i 0
      → ((es : List ℕ) → get_or table next Nowhere ≡ incoming_of es → r ≡ incoming_of (es ++ from ∷ []))
      → get_or table to Nowhere ≡ incoming_of (edges ++ noted from to (take i successors))
      → get_or (set table next r) to Nowhere ≡ incoming_of (edges ++ noted from to (take (i + 1) successors))
  noted-step room l e more told = by (next == to) refl
    where
      by : (same : Bool) → (next == to) ≡ same
          → get_or (set table next r) to Nowhere ≡ incoming_of (edges ++ noted from to (take (i + 1) successors))
      by true t =
          let is : next ≡ to = eqb-true next to t in
          let here : get_or (set table next r) to Nowhere ≡ r =
          subst (λ k. get_or (set table next r) k Nowhere ≡ r) is (get_or-set_same table next r Nowhere room) in
          let grown = more (edges ++ noted from to (take i successors)) (ap (λ k. get_or table k Nowhere) is ∙ told)
          in
          here ∙ (grown ∙ ap incoming_of
          (sym (noted-whole l e
          ∙ ap (λ last. (edges ++ noted from to (take i successors)) ++ last) (noted-same from to next is))))
      by false t =
          let differ : to ≢ next = λ same. eqb-false next to t (sym same) in
          get_or-set_other table next to r Nowhere differ
          ∙ (told ∙ ap incoming_of
          (sym (noted-whole l e
          ∙ (ap (λ last. (edges ++ noted from to (take i successors)) ++ last) (noted-other from to next t)
          ∙ append-nil _))))

-- one instruction more
pub edges-more : (nodes : Nodes) (found : ℕ × Node) (to : ℕ)
    → edges_into (nodes ++ found ∷ []) to ≡ edges_into nodes to ++ noted found.0 to found.1.succ.items
edges-more nodes found to =
    flat_map-append (λ (first : ℕ × Node). noted first.0 to first.1.succ.items) nodes (found ∷ [])
    ∙ ap (λ last. edges_into nodes to ++ last) (append-nil _)

-- nothing is noted yet
nowhere-at : (n to : ℕ) → get_or (replicate n Nowhere) to Nowhere ≡ Nowhere
nowhere-at n to = elim (cases_lt to n) [
  | inl inside ↦ get_or-replicate n to Nowhere Nowhere inside
  | inr past ↦ get_or_past (replicate n Nowhere) to Nowhere (let e = length-replicate n Nowhere in omega arith)
]

pub noted-none : (table : List Incoming) → table ≡ replicate 65536 Nowhere → AreIncoming [] table
noted-none table e = record {
  length_is = ap length e ∙ length-replicate 65536 Nowhere;
  told = λ to. ap (λ t. get_or t to Nowhere) e ∙ nowhere-at 65536 to;
}

-- the edges of one instruction more are noted
pub noted-all : (nodes : Nodes) (found : ℕ × Node) (table more : List Incoming) → AreIncoming nodes table
    → length more ≡ length table
    → ((to : ℕ) (edges : List ℕ) → get_or table to Nowhere ≡ incoming_of edges
    → get_or more to Nowhere ≡ incoming_of (edges ++ noted found.0 to found.1.succ.items))
    → AreIncoming (nodes ++ found ∷ []) more
noted-all nodes found table more are len step = record {
  length_is = len ∙ are.length_is;
  told = λ to. step to (edges_into nodes to) (are.told to) ∙ ap incoming_of (sym (edges-more nodes found to));
}

-- where one edge is told, there is no other
sole-edge : (edges : List ℕ) (from : ℕ) → incoming_of edges ≡ From from → edges ≡ from ∷ []
sole-edge [] from e = let clash = e in cc
sole-edge (other ∷ []) from e = let same = e in cc
sole-edge (other ∷ more ∷ edges) from e = let clash = e in cc

-- an instruction that goes on at one place alone has an edge there
edge-from : (nodes : Nodes) (at next : ℕ) (node : Node) → node_in nodes at ≡ Some node → node.succ.items ≡ next ∷ []
    → Contains (edges_into nodes next) at
edge-from [] at next node found succ = let clash = found in cc
edge-from (first ∷ nodes) at next node found succ = by (first.0 == at) refl (edge-from nodes at next node)
  where
    by : (same : Bool) → (first.0 == at) ≡ same
        → (node_in nodes at ≡ Some node → node.succ.items ≡ next ∷ [] → Contains (edges_into nodes next) at)
        → Contains (edges_into (first ∷ nodes) next) at
    by true e rest =
        let here : Some first.1 ≡ Some node = sym (ap (λ b. if b then Some first.1 else node_in nodes at) e)
        ∙ found in
        let is : first.1 ≡ node = cc in
        let one : noted first.0 next first.1.succ.items ≡ first.0 ∷ [] =
        ap (noted first.0 next) (ap (λ (n : Node). n.succ.items) is ∙ succ) ∙ noted-same first.0 next next refl in
        let has : Contains (first.0 ∷ []) at = (0, omega arith, eqb-true first.0 at e) in
        Contains-append_left _ _ at (subst (λ l. Contains l at) (sym one) has)
    by false e rest =
        let there : node_in nodes at ≡ Some node = sym (ap (λ b. if b then Some first.1 else node_in nodes at) e)
        ∙ found in
        Contains-append_right (noted first.0 next first.1.succ.items) (edges_into nodes next) at (rest there succ)

sole : (from at : ℕ) → Contains (from ∷ []) at → from ≡ at
sole from at has =
    let first : has.0 ≡ 0 = omega (arith, has.1) in
    subst (λ k. get_or (from ∷ []) k at ≡ at) first has.2

below-at : (nodes : Nodes) (edges : List ℕ) (at next : ℕ) → comes_from_below nodes edges next ≡ true
    → Contains edges at → at < next
below-at nodes [] at next e has = let clash = e in cc
below-at nodes (from ∷ []) at next e has = let is = sole from at has in grind arith
below-at nodes (from ∷ other ∷ edges) at next e has = let clash = e in cc

-- a list of one
pub single : (xs : List ℕ) → 1 ≤ length xs → length xs < 2 → xs ≡ get_or xs 0 0 ∷ []
single [] some few = absurd (omega arith)
single (x ∷ []) some few = refl
single (x ∷ y ∷ xs) some few = absurd (omega arith)

-- offsets rise along a block
pub joins-rises : (nodes : Nodes) (entry at next : ℕ) (node : Node) → node_in nodes at ≡ Some node
    → node.succ.items ≡ next ∷ [] → joins nodes entry next ≡ true → at < next
joins-rises nodes entry at next node found succ e =
    below-at nodes (edges_into nodes next) at next (and_right _ _ (and_left _ _ e))
    (edge-from nodes at next node found succ)
