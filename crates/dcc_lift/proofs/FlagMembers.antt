-- Each instruction stands in one block at most, so what its statements count adds up over the blocks to no more than
-- over the instructions.
use Rattle.std.proofs.Common.{◌≡◌, ◌≤◌, ◌<◌, ℕ, zero, suc, ◌+◌, ◌*◌, Bool, true, false, not, cond, ◌&&◌, ◌==◌, if◌then◌else◌, inl, inr, List, [], ◌∷◌, ◌++◌, filter, Option, Some, None, All, refl, sym, ap, ◌∙◌, subst, eqb-true, eq-eqb, ne_eqb, arith}
use Rattle.std.specs.Prelude.{flat_map}
use Rattle.std.specs.List.{list_all}
use Rattle.std.proofs.lemmas.List.Elements.{All-head, All-tail}
use Rattle.dcc_prog.specs.declared.procedure.Node.{Node}
use Rattle.dcc_ir.specs.Tree.{Stmt, Block}
use Rattle.dcc_ir.proofs.PathLaws.{decided, clash, or_left, or_right}
use Rattle.dcc_simulation.specs.Statements as placed
use Rattle.dcc_lift.specs.Blocks.{Nodes, node_in, joins, IsChain, leaders, BlockSource, nodes_in, entry_in, height_in, node_stmts, stmts_at, AreBlocksAt}
use Rattle.dcc_lift.specs.Sound.{offsets_of, AreSound}
use Rattle.dcc_lift.proofs.ListTests.{and_left, and_right, and_both, not_true}
use Rattle.dcc_lift.proofs.NodeLaws.{is_node, Differ, nodes_differ}
use Rattle.dcc_lift.proofs.ChainLaws.{has_successor, IsJoined, joined, joined_from, entry_begins, onward_tells, IsInner, chain_inner}
use Rattle.dcc_lift.proofs.Totals.{total, one, times, add-le, total-append, total-none, total-split, times-filter, filter-all}

-- How often an offset is listed.

absent : (nodes : Nodes) (c : ℕ) → is_node nodes c ≡ false → times c (offsets_of nodes) ≡ 0
absent [] c e = refl
absent (found ∷ nodes) c e =
    let here : one (found.0 == c) ≡ 0 = ap one (or_left (found.0 == c) (is_node nodes c) e) in
    let rest = absent nodes c (or_right (found.0 == c) (is_node nodes c) e) in
    omega (arith, here, rest)

listed-once : (nodes : Nodes) (c : ℕ) → Differ nodes → times c (offsets_of nodes) ≤ 1
listed-once [] c differ = omega arith
listed-once (found ∷ nodes) c differ = go (found.0 == c) refl (listed-once nodes c differ.1)
  where
    go : (b : Bool) → (found.0 == c) ≡ b → times c (offsets_of nodes) ≤ 1 → one b + times c (offsets_of nodes) ≤ 1
    go true e later =
        let rest = absent nodes c (subst (λ n. is_node nodes n ≡ false) (eqb-true found.0 c e) differ.0) in
        omega (arith, rest)
    go false e later = omega (arith, later)

-- what is left out of a list stands there no more
left-out : (c : ℕ) (keep : ℕ → Bool) (xs : List ℕ) → keep c ≡ false → times c (filter keep xs) ≡ 0
left-out c keep [] out = refl
left-out c keep (x ∷ xs) out = go (keep x) refl (left-out c keep xs out)
  where
    other : keep x ≡ true → one (x == c) ≡ 0
    other kept = ap one (ne_eqb x c (λ same. clash (subst (λ n. keep n ≡ true) same kept) out))

    go : (b : Bool) → keep x ≡ b → times c (filter keep xs) ≡ 0
        → times c (cond b (x ∷ filter keep xs) (filter keep xs)) ≡ 0
    go true kept rest = let here = other kept in omega (arith, here, rest)
    go false kept rest = rest

-- no block begins in these places but at an offset whose instruction joins none
abbrev Begin : Nodes → ℕ → List ℕ → Type 0
Begin nodes entry places = list_all (λ at. not (joins nodes entry at)) places ≡ true

others-begin : (nodes : Nodes) (entry : ℕ) (places : List ℕ)
    → list_all (λ at. not (at == entry) && not (joins nodes entry at)) places ≡ true → Begin nodes entry places
others-begin nodes entry [] all = refl
others-begin nodes entry (at ∷ places) all =
    let here : Bool = not (at == entry) && not (joins nodes entry at) in
    let later : Bool = list_all (λ a. not (a == entry) && not (joins nodes entry a)) places in
    and_both (not (joins nodes entry at)) (list_all (λ a. not (joins nodes entry a)) places)
    (and_right (not (at == entry)) (not (joins nodes entry at)) (and_left here later all))
    (others-begin nodes entry places (and_right here later all))

leaders-begin : (nodes : Nodes) (entry : ℕ) → Begin nodes entry (leaders nodes entry)
leaders-begin nodes entry =
    let keep : ℕ → Bool = λ at. not (at == entry) && not (joins nodes entry at) in
    let others : List ℕ = filter keep (offsets_of nodes) in
    and_both (not (joins nodes entry entry)) (list_all (λ a. not (joins nodes entry a)) others)
    (ap not (entry_begins nodes entry)) (others-begin nodes entry others (filter-all keep (offsets_of nodes)))

leaders-once : (nodes : Nodes) (entry x : ℕ) → Differ nodes → times x (leaders nodes entry) ≤ 1
leaders-once nodes entry x differ = go (entry == x) refl
  where
    keep : ℕ → Bool
    keep at = not (at == entry) && not (joins nodes entry at)

    out : entry ≡ x → keep x ≡ false
    out same = ap (λ b. not b && not (joins nodes entry x)) (eq-eqb x entry (sym same))

    go : (b : Bool) → (entry == x) ≡ b → one b + times x (filter keep (offsets_of nodes)) ≤ 1
    go true e = let none = left-out x keep (offsets_of nodes) (out (eqb-true entry x e)) in omega (arith, none)
    go false e =
        let fewer = times-filter x keep (offsets_of nodes) in
        let listed = listed-once nodes x differ in
        omega (arith, fewer, listed)

-- the instructions of blocks, one block after another
abbrev pub members : (scene : BlockSource) (places : List ℕ) (blocks : List Block) → AreBlocksAt scene places blocks
    → List ℕ
members scene [] [] are = []
members scene [] (block ∷ blocks) are = absurd are
members scene (at ∷ places) [] are = absurd are
members scene (at ∷ places) (block ∷ blocks) are = (at ∷ are.0.rest) ++ members scene places blocks are.1

module _ (scene : BlockSource) (prelude : ℕ) (sound : AreSound (nodes_in scene) (entry_in scene) prelude) where
  abbrev nodes : Nodes
  nodes = nodes_in scene

  abbrev entry : ℕ
  entry = entry_in scene

  -- an instruction that joins the block of the one before it follows that one in each chain
  followed : (x : ℕ) (j : IsJoined nodes entry x) (rest : List ℕ) (at : ℕ) → IsChain nodes entry at rest
      → times x rest ≤ times j.from (at ∷ rest)
  followed x j [] at chain = omega arith
  followed x j (next ∷ rest) at chain =
      add-le (one (next == x)) (one (at == j.from)) (times x rest) (times j.from (next ∷ rest)) (go (next == x) refl)
      (followed x j rest next chain.1)
    where
      go : (b : Bool) → (next == x) ≡ b → one b ≤ one (at == j.from)
      go true e =
          let on = onward_tells nodes entry prelude sound at next chain.0 in
          let goes : has_successor nodes at x ≡ true =
          subst (λ n. has_successor nodes at n ≡ true) (eqb-true next x e) on.goes in
          let from : j.from ≡ at = joined_from nodes entry prelude sound at x j goes in
          let same : one (at == j.from) ≡ 1 = ap one (eq-eqb at j.from (sym from)) in
          omega (arith, same)
      go false e = omega arith

  -- one that joins none stands in no chain but as its first
  unfollowed : (x : ℕ) → joins nodes entry x ≡ false → (rest : List ℕ) → All (IsInner nodes entry) rest
      → times x rest ≡ 0
  unfollowed x begins [] inner = refl
  unfollowed x begins (next ∷ rest) inner =
      let there = (All-head (IsInner nodes entry) next rest inner).joins in
      let here : one (next == x) ≡ 0 =
      ap one (ne_eqb next x (λ same. clash (subst (λ n. joins nodes entry n ≡ true) same there) begins)) in
      let later = unfollowed x begins rest (All-tail (IsInner nodes entry) next rest inner) in
      omega (arith, here, later)

  members-joined : (x : ℕ) → joins nodes entry x ≡ true → (j : IsJoined nodes entry x)
      → (places : List ℕ) (blocks : List Block) (are : AreBlocksAt scene places blocks) → Begin nodes entry places
      → times x (members scene places blocks are) ≤ times j.from (members scene places blocks are)
  members-joined x t j [] [] are begin = omega arith
  members-joined x t j [] (block ∷ blocks) are begin = absurd are
  members-joined x t j (at ∷ places) [] are begin = absurd are
  members-joined x t j (at ∷ places) (block ∷ blocks) are begin =
      let rest = are.0.rest in
      let more = members scene places blocks are.1 in
      let first : Bool = not (joins nodes entry at) in
      let others : Bool = list_all (λ a. not (joins nodes entry a)) places in
      let begins = not_true (joins nodes entry at) (and_left first others begin) in
      let here : one (at == x) ≡ 0 =
      ap one (ne_eqb at x (λ same. clash t (subst (λ n. joins nodes entry n ≡ false) same begins))) in
      let follows = followed x j rest at are.0.chain in
      let later = members-joined x t j places blocks are.1 (and_right first others begin) in
      let first : times x (at ∷ rest) ≤ times j.from (at ∷ rest) = omega (arith, here, follows) in
      let whole =
      add-le (times x (at ∷ rest)) (times j.from (at ∷ rest)) (times x more) (times j.from more) first later in
      let left = total-append (λ n. one (n == x)) (at ∷ rest) more in
      let right = total-append (λ n. one (n == j.from)) (at ∷ rest) more in
      subst (λ n. n ≤ times j.from ((at ∷ rest) ++ more)) (sym left)
      (subst (λ n. times x (at ∷ rest) + times x more ≤ n) (sym right) whole)

  members-first : (x : ℕ) → joins nodes entry x ≡ false → (places : List ℕ) (blocks : List Block)
      (are : AreBlocksAt scene places blocks) → times x (members scene places blocks are) ≡ times x places
  members-first x begins [] [] are = refl
  members-first x begins [] (block ∷ blocks) are = absurd are
  members-first x begins (at ∷ places) [] are = absurd are
  members-first x begins (at ∷ places) (block ∷ blocks) are =
      let rest = are.0.rest in
      let more = members scene places blocks are.1 in
      let none = unfollowed x begins rest (chain_inner nodes entry prelude sound rest at are.0.chain) in
      let later = members-first x begins places blocks are.1 in
      let left : times x ((at ∷ rest) ++ more) ≡ times x (at ∷ rest) + times x more =
      total-append (λ n. one (n == x)) (at ∷ rest) more in
      left ∙ omega (arith, none, later)

  -- each instruction stands in one block at most
  module _ (blocks : List Block) (are : AreBlocksAt scene (leaders nodes entry) blocks) where
    abbrev all : List ℕ
    all = members scene (leaders nodes entry) blocks are

    once_below : (bound x : ℕ) → x < bound → times x all ≤ 1
    once_below zero x less = absurd (omega (arith, less))
    once_below (suc bound) x less = elim (decided (joins nodes entry x)) [
      | inl t ↦
          let j = joined nodes entry x t in
          let follows = members-joined x t j (leaders nodes entry) blocks are (leaders-begin nodes entry) in
          let below = j.below in
          let before = once_below bound j.from (omega (arith, below, less)) in
          omega (arith, follows, before)
      | inr begins ↦
          subst (λ n. n ≤ 1) (sym (members-first x begins (leaders nodes entry) blocks are))
          (leaders-once nodes entry x (nodes_differ nodes entry prelude sound))
    ]

    pub members-once : (x : ℕ) → times x all ≤ 1
    members-once x = once_below (suc x) x (omega arith)

-- Sums over instructions.

module _ (f : Node → ℕ) where
  -- what the instruction counts, where there is one
  abbrev weight : Option Node → ℕ
  weight None = 0
  weight (Some node) = f node

  -- offsets of which none stands twice count no more than all instructions
  spread : (nodes : Nodes) (xs : List ℕ) → ((c : ℕ) → times c xs ≤ 1)
      → total (λ at. weight (node_in nodes at)) xs ≤ total (λ (found : ℕ × Node). f found.1) nodes
  spread [] xs few =
      let none = total-none (λ at. weight (node_in [] at)) (λ at. refl) xs in
      omega (arith, none)
  spread (found ∷ nodes) xs few =
      let split =
      total-split found.0 (f found.1) (λ at. weight (node_in (found ∷ nodes) at)) (λ at. weight (node_in nodes at))
      (λ x same.
      let there = ap (λ b. weight (if b then Some found.1 else node_in nodes x)) (eq-eqb found.0 x (sym same)) in
      omega (arith, there))
      (λ x other.
      let there = ap (λ b. weight (if b then Some found.1 else node_in nodes x)) (flipped found.0 x other) in
      omega (arith, there)) xs in
      let rest = spread nodes xs few in
      bound (times found.0 xs) (f found.1) (few found.0) split rest
    where
      flipped : (a b : ℕ) → (b == a) ≡ false → (a == b) ≡ false
      flipped a b e = ne_eqb a b (λ same. clash (eq-eqb b a (sym same)) e)

      bound : (n k : ℕ) → n ≤ 1 → {s t u : ℕ} → s ≤ n * k + t → t ≤ u → s ≤ k + u
      bound zero k less p q = omega (arith, p, q)
      bound (suc zero) k less p q = omega (arith, p, q)
      bound (suc (suc n)) k less p q = absurd (omega (arith, less))

  module _ (scene : BlockSource) (prelude : ℕ) (sound : AreSound (nodes_in scene) (entry_in scene) prelude)
      (count : Stmt → ℕ)
      (few : (height : ℕ) (node : Node)
      → total count (placed.node_stmts scene.cpu scene.procedures scene.procedure height node) ≤ f node) where
    -- what the instruction at an offset counts
    abbrev weight_at : ℕ → ℕ
    weight_at at = weight (node_in (nodes_in scene) at)

    stmts-few : (at : ℕ) → total count (stmts_at scene at) ≤ weight_at at
    stmts-few at = go (height_in scene.heights at) (node_in (nodes_in scene) at)
      where
        go : (height : Option ℕ) (node : Option Node) → total count (node_stmts scene height node) ≤ weight node
        go None _ = omega arith
        go (Some height) None = omega arith
        go (Some height) (Some node) = few height node

    chain-few : (places : List ℕ) → total count (flat_map (stmts_at scene) places) ≤ total weight_at places
    chain-few [] = omega arith
    chain-few (at ∷ places) =
        let rest = flat_map (stmts_at scene) places in
        subst (λ n. n ≤ weight_at at + total weight_at places)
        (sym (total-append count (stmts_at scene at) rest))
        (add-le (total count (stmts_at scene at)) (weight_at at) (total count rest) (total weight_at places)
        (stmts-few at) (chain-few places))

    blocks-few : (places : List ℕ) (blocks : List Block) (are : AreBlocksAt scene places blocks)
        → total count (flat_map (λ (b : Block). b.stmts) blocks) ≤ total weight_at (members scene places blocks are)
    blocks-few [] [] are = omega arith
    blocks-few [] (block ∷ blocks) are = absurd are
    blocks-few (at ∷ places) [] are = absurd are
    blocks-few (at ∷ places) (block ∷ blocks) are =
        let rest = are.0.rest in
        let more = members scene places blocks are.1 in
        let later = flat_map (λ (b : Block). b.stmts) blocks in
        let here : total count block.stmts ≤ total weight_at (at ∷ rest) =
        subst (λ stmts. total count stmts ≤ total weight_at (at ∷ rest)) (sym are.0.stmts_are)
        (chain-few (at ∷ rest)) in
        let whole =
        add-le (total count block.stmts) (total weight_at (at ∷ rest)) (total count later) (total weight_at more) here
        (blocks-few places blocks are.1) in
        subst (λ n. n ≤ total weight_at ((at ∷ rest) ++ more)) (sym (total-append count block.stmts later))
        (subst (λ n. total count block.stmts + total count later ≤ n) (sym (total-append weight_at (at ∷ rest) more))
        whole)

    -- what the statements of all blocks count is no more than what the instructions do
    pub blocks-counted : (blocks : List Block) → AreBlocksAt scene (leaders (nodes_in scene) (entry_in scene)) blocks
        → total count (flat_map (λ (b : Block). b.stmts) blocks)
        ≤ total (λ (found : ℕ × Node). f found.1) (nodes_in scene)
    blocks-counted blocks are =
        let places = leaders (nodes_in scene) (entry_in scene) in
        let here = blocks-few places blocks are in
        let all =
        spread (nodes_in scene) (members scene places blocks are) (members-once scene prelude sound blocks are) in
        omega (arith, here, all)
