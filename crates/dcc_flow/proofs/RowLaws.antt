-- Laws of lists of numbers that stand in vectors, and of the successors of a graph's blocks.
use Rattle.std.proofs.Common.{◌≡◌, ℕ, ◌+◌, ◌<◌, ◌≤◌, true, false, ◌&&◌, not, inl, inr, List, [], ◌∷◌, ◌++◌, length, get_or, slice_set, map, take, drop, All, sym, ap, ◌∙◌, subst, arith}
use Rattle.std.specs.Prelude.{◌==◌, nat_lt, nat_le}
use Rattle.std.specs.Global.{Vec}
use Rattle.std.specs.List.{list_all, list_any, IsDistinct, AllByRecursion}
use Rattle.std.proofs.lemmas.Bool.{false≢true, ltb-true, and_parts, or_cases, or_parts, eqb-true, not-true}
use Rattle.std.proofs.lemmas.List.{length-map, map-set, map_push, get_or-map, take_more, drop_more}
use Rattle.std.proofs.lemmas.List.Elements.{All-nil, All-cons, All-head, All-tail}
use Rattle.std.proofs.lemmas.Map.Steps.{length-le_from_distinct_below}
use Rattle.std.proofs.Math.Dec.{eqb}
use Rattle.dcc_ir.specs.declared.syntax.Block.{Block as BlockOf}
use Rattle.dcc_ir.specs.Tree.{Exit, Goto, If, Switch, Ret, Stop, Block, Graph}
use Rattle.dcc_ir.specs.Views.{exit_of, block_of}
use Rattle.dcc_ir.specs.Flow.{targets}
use Rattle.dcc_ir.specs.WellFormed.{is_expr_of, is_stmt, is_exit, is_block, all_differ, IsGraph}
use Rattle.dcc_flow.specs.Edges.{rows, successors_of, AreWithin}
use Rattle.dcc_flow.specs.Sources.{added, entered, all_entered}

pub row_read : (vs : List (Vec ℕ)) (i : ℕ) (v : Vec ℕ) → i < length vs → v ≡ get_or vs i v → v.items ≡ get_or (rows vs) i []
row_read vs i v h e = ap (λ w. w.items) e ∙ sym (get_or-map (λ w. w.items) vs i v [] h)

pub length_rows : (vs : List (Vec ℕ)) → length (rows vs) ≡ length vs
length_rows vs = length-map vs (λ w. w.items)

-- Steps of the loops.

pub enter_step : (vs : List (Vec ℕ)) (v old : Vec ℕ) (from i : ℕ) (tos : List ℕ) → i < length tos → get_or tos i 0 < length vs
    → old ≡ get_or vs (get_or tos i 0) old → v.items ≡ added old.items from
    → entered (rows (slice_set vs (get_or tos i 0) v)) from (drop (i + 1) tos) ≡ entered (rows vs) from (drop i tos)
enter_step vs v old from i tos inside within read is =
    let to = get_or tos i 0 in
    ap (λ l. entered l from (drop (i + 1) tos)) (map-set (λ w. w.items) vs to v ∙ ap (slice_set (rows vs) to) (is ∙ ap (λ l. added l from) (row_read vs to old within read)))
    ∙ sym (ap (entered (rows vs) from) (drop_more tos i 0 inside))

pub all_step : (s after next : List (List ℕ)) (from : ℕ) → from < length next → after ≡ entered s from (get_or next from [])
    → all_entered after (from + 1) (drop (from + 1) next) ≡ all_entered s from (drop from next)
all_step s after next from inside is =
    ap (λ l. all_entered l (from + 1) (drop (from + 1) next)) is ∙ sym (ap (all_entered s from) (drop_more next from [] inside))

pub push_step : (vs : List (Vec ℕ)) (v : Vec ℕ) (all : List (List ℕ)) (i : ℕ) → i < length all → v.items ≡ get_or all i [] → rows vs ≡ take i all → rows (vs ++ v ∷ []) ≡ take (i + 1) all
push_step vs v all i inside is so =
    map_push (λ w. w.items) vs v ∙ ap (λ l. l ++ v.items ∷ []) so ∙ ap (λ r. take i all ++ r ∷ []) is ∙ sym (take_more all i [] inside)

pub successor_row : (blocks : List BlockOf) (i : ℕ) (block : BlockOf) → i < length blocks → block ≡ get_or blocks i block
    → targets (exit_of block.end) ≡ get_or (map (λ b. targets b.exit) (map block_of blocks)) i []
successor_row blocks i block inside read =
    let there : i < length (map block_of blocks) = omega (arith, length-map blocks block_of) in
    ap (λ b. targets (exit_of b.end)) read
    ∙ ap (λ (b : Block). targets b.exit) (sym (get_or-map block_of blocks i block (block_of block) inside))
    ∙ sym (get_or-map (λ (b : Block). targets b.exit) (map block_of blocks) i (block_of block) [] there)

-- Well-formed graphs.

all_places : (count : ℕ) (places : List ℕ) → list_all (λ place. nat_lt place count) places ≡ true → All (λ place. place < count) places
all_places count [] h = All-nil (λ place. place < count)
all_places count (p ∷ ps) h =
    let parts = and_parts (nat_lt p count) (list_all (λ place. nat_lt place count) ps) h in
    All-cons (λ place. place < count) p ps (ltb-true p count parts.0) (all_places count ps parts.1)

targets_within : (widths : List ℕ) (count : ℕ) (exit : Exit) → is_exit widths count exit ≡ true → All (λ place. place < count) (targets exit)
targets_within widths count (Goto place) h = All-cons (λ p. p < count) place [] (ltb-true place count h) (All-nil (λ p. p < count))
targets_within widths count (If test one other) h =
    let parts = and_parts (is_expr_of widths 1 test && nat_lt one count) (nat_lt other count) h in
    let first = (and_parts (is_expr_of widths 1 test) (nat_lt one count) parts.0).1 in
    All-cons (λ p. p < count) one (other ∷ []) (ltb-true one count first) (All-cons (λ p. p < count) other [] (ltb-true other count parts.1) (All-nil (λ p. p < count)))
targets_within widths count (Switch e places) h =
    let parts = and_parts (is_expr_of widths 16 e && nat_le (length places) 65536) (list_all (λ place. nat_lt place count) places) h in
    all_places count places parts.1
targets_within widths count (Ret values) h = All-nil (λ p. p < count)
targets_within widths count Stop h = All-nil (λ p. p < count)

blocks_within : (widths : List ℕ) (count : ℕ) (blocks : List Block) → list_all (is_block widths count) blocks ≡ true → All (λ row. All (λ place. place < count) row) (map (λ b. targets b.exit) blocks)
blocks_within widths count [] h = All-nil (λ row. All (λ place. place < count) row)
blocks_within widths count (b ∷ bs) h =
    let parts = and_parts (is_block widths count b) (list_all (is_block widths count) bs) h in
    let exit = (and_parts (list_all (is_stmt widths) b.stmts) (is_exit widths count b.exit) parts.0).1 in
    All-cons (λ row. All (λ place. place < count) row) (targets b.exit) (map (λ x. targets x.exit) bs) (targets_within widths count b.exit exit) (blocks_within widths count bs parts.1)

pub length_successors : (graph : Graph) → length (successors_of graph) ≡ length graph.blocks
length_successors graph = length-map graph.blocks (λ b. targets b.exit)

pub successors_within : (graph : Graph) → IsGraph graph → AreWithin (successors_of graph)
successors_within graph good =
    subst (λ n. All (λ row. All (λ place. place < n) row) (successors_of graph)) (sym (length_successors graph)) (blocks_within graph.bits (length graph.blocks) graph.blocks good.blocks)

-- The blocks have addresses of their own, so there are not many.

none_same : (n : ℕ) (ns : List ℕ) → list_any (λ m. n == m) ns ≡ false → AllByRecursion (λ y. eqb n y ≡ false) ns
none_same n [] h = tt
none_same n (m ∷ ns) h = let parts = or_parts (n == m) (list_any (λ x. n == x) ns) h in (parts.0, none_same n ns parts.1)

distinct : (ns : List ℕ) → all_differ ns ≡ true → IsDistinct eqb ns
unfolding IsDistinct
distinct [] h = tt
distinct (n ∷ ns) h =
    let parts = and_parts (not (list_any (λ m. n == m) ns)) (all_differ ns) h in
    (none_same n ns (not-true (list_any (λ m. n == m) ns) parts.0), distinct ns parts.1)

address_below : (blocks : List Block) → All (λ b. b.at < 65536) blocks → (q : ℕ) → list_any (eqb q) (map (λ b. b.at) blocks) ≡ true → q < 65536
address_below [] h q e = absurd (false≢true e)
address_below (b ∷ bs) h q e = elim (or_cases (eqb q b.at) (list_any (eqb q) (map (λ x. x.at) bs)) e) [
  | inl t ↦ let same = eqb-true q b.at t in let less = All-head (λ x. x.at < 65536) b bs h in omega (arith, same, less)
  | inr t ↦ address_below bs (All-tail (λ x. x.at < 65536) b bs h) q t
]

pub few_blocks : (graph : Graph) → IsGraph graph → length graph.blocks ≤ 65536
few_blocks graph good =
    let few = length-le_from_distinct_below (map (λ b. b.at) graph.blocks) 65536 (distinct (map (λ b. b.at) graph.blocks) good.addresses) (address_below graph.blocks good.offsets) in
    omega (arith, few, length-map graph.blocks (λ b. b.at))
