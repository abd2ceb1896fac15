-- The next block of a chain, and the first one, by the blocks with an edge to each block.
use Rattle.std.proofs.Common.{◌≡◌, ◌≢◌, ℕ, zero, suc, ◌+◌, ◌<◌, Bool, true, false, ◌||◌, not, inl, inr, List, [], ◌∷◌, length, map, get_or, Some, refl, sym, ap, ◌∙◌, subst, arith, true≢false, slice_get, slice_index, ltb-true, eqb-true, eq-eqb, Contains, nat_lt}
use Rattle.std.specs.Prelude.{◌==◌, All, MatchBool}
use Rattle.std.specs.List.{list_all}
use Rattle.std.specs.List.Sorted.{IsStrictlyIncreasing}
use Rattle.std.proofs.lemmas.List.{length-map}
use Rattle.std.proofs.lemmas.List.Elements.{All-head, All-tail}
use Rattle.dcc_ir.specs.Flow.{targets}
use Rattle.dcc_ir.specs.Tree.{Goto, Block, Graph}
use Rattle.dcc_ir.specs.WellFormed.{is_stmt, is_exit, is_block, IsGraph}
use Rattle.dcc_ir.proofs.FitLaws.{both}
use Rattle.dcc_ir.proofs.GraphLaws.{or_there}
use Rattle.dcc_ir.proofs.LocationLaws.{Contains-here, Contains-later, Contains-none, Contains-cases}
use Rattle.std.specs.Global.{Vec}
use Rattle.std.proofs.lemmas.Option.{slice_get-get_or}
use Rattle.dcc_flow.specs.Edges.{is_in, rows, successors_of, leads, ArePredecessors}
use Rattle.dcc_available.specs.Along.{IsOnlyEdge}
use Rattle.dcc_available.specs.Rows.{IsNext}
use Rattle.dcc_available.proofs.ChainLaws.{one-item, is_next, row-at}
use Rattle.dcc_fold.specs.Chain.{IsFirst}
use Rattle.dcc_fold.proofs.ChainLaws.{one-behind, not-first}
use Rattle.dcc_fold.proofs.KnownLaws.{placed}

-- Lists of numbers.

in-there : (xs : List ℕ) (n : ℕ) → is_in xs n ≡ true → Contains xs n
in-there [] n is = absurd (true≢false (sym is))
in-there (x ∷ xs) n is = by (x == n) refl is (in-there xs n)
  where
    by : (b : Bool) → (x == n) ≡ b → (b || is_in xs n) ≡ true → (is_in xs n ≡ true → Contains xs n) → Contains (x ∷ xs) n
    by true same there more = subst (Contains (x ∷ xs)) (eqb-true x n same) (Contains-here x xs)
    by false same there more = Contains-later x xs n (more there)

there-in : (xs : List ℕ) (n : ℕ) → Contains xs n → is_in xs n ≡ true
there-in [] n there = absurd (Contains-none n there)
there-in (x ∷ xs) n there =
    Contains-cases x xs n (is_in (x ∷ xs) n ≡ true) (λ same. ap (λ b. b || is_in xs n) (eq-eqb x n same)) (λ later. or_there (x == n) (is_in xs n) (there-in xs n later)) there

-- a list that ascends and has one number
one-number : (xs : List ℕ) (n : ℕ) → IsStrictlyIncreasing xs → ((a : ℕ) → Contains xs a → a ≡ n) → Contains xs n → length xs ≡ 1
one-number [] n ascends only there = absurd (Contains-none n there)
one-number (x ∷ []) n ascends only there = refl
one-number (x ∷ y ∷ xs) n ascends only there =
    let first = only x (Contains-here x (y ∷ xs)) in
    let second = only y (Contains-later x (y ∷ xs) y (Contains-here y xs)) in
    let less : x < y = ascends 0 (omega arith) in
    absurd (omega (arith, first, second, less))

one-there : (xs : List ℕ) (n : ℕ) → length xs ≡ 1 → Contains xs n → n ≡ get_or xs 0 n
one-there [] n long there = absurd (Contains-none n there)
one-there (x ∷ []) n long there = Contains-cases x [] n (n ≡ x) (λ same. sym same) (λ none. absurd (Contains-none n none)) there
one-there (x ∷ y ∷ xs) n long there = absurd (omega (arith, long))

row-ascends : (rows : List (List ℕ)) (i : ℕ) → All IsStrictlyIncreasing rows → i < length rows → IsStrictlyIncreasing (get_or rows i [])
row-ascends [] i all less = absurd (omega (arith, less))
row-ascends (row ∷ rows) zero all less = All-head IsStrictlyIncreasing row rows all
row-ascends (row ∷ rows) (suc i) all less = row-ascends rows i (All-tail IsStrictlyIncreasing row rows all) (omega (arith, less))

-- Edges.

successors-at : (blocks : List Block) (place : ℕ) (block : Block) → slice_get blocks place ≡ Some block → get_or (map (λ (b : Block). targets b.exit) blocks) place [] ≡ targets block.exit
successors-at [] place block found = absurd (cc)
successors-at (x ∷ xs) zero block found = let same : x ≡ block = cc in ap (λ (b : Block). targets b.exit) same
successors-at (x ∷ xs) (suc place) block found = successors-at xs place block found

-- a block that has an edge
pub record Leads (blocks : List Block) (from to : ℕ) : Type 0 where
  pub block : Block
  pub found : slice_get blocks from ≡ Some block
  pub goes : Contains (targets block.exit) to

leads-from : (blocks : List Block) (from to : ℕ) → is_in (get_or (map (λ (b : Block). targets b.exit) blocks) from []) to ≡ true → Leads blocks from to
leads-from [] from to is = absurd (true≢false (sym is))
leads-from (b ∷ blocks) zero to is = record { block = b; found = refl; goes = in-there (targets b.exit) to is }
leads-from (b ∷ blocks) (suc from) to is =
    let later = leads-from blocks from to is in
    record { block = later.block; found = later.found; goes = later.goes }

exit-formed : (bits : List ℕ) (count : ℕ) (blocks : List Block) (place : ℕ) (block : Block) → list_all (is_block bits count) blocks ≡ true → slice_get blocks place ≡ Some block → is_exit bits count block.exit ≡ true
exit-formed bits count [] place block is found = absurd (cc)
exit-formed bits count (b ∷ blocks) zero block is found =
    let same : b ≡ block = cc in
    let parts = both (is_block bits count b) (list_all (is_block bits count) blocks) is in
    subst (λ (c : Block). is_exit bits count c.exit ≡ true) same (both (list_all (is_stmt bits) b.stmts) (is_exit bits count b.exit) parts.0).1
exit-formed bits count (b ∷ blocks) (suc place) block is found = exit-formed bits count blocks place block (both (is_block bits count b) (list_all (is_block bits count) blocks) is).1 found

module _ (graph : Graph) (formed : IsGraph graph) (preds : List (List ℕ)) (are : ArePredecessors (successors_of graph) preds) where
  abbrev row : ℕ → List ℕ
  row to = get_or preds to []

  next-count : length (successors_of graph) ≡ length graph.blocks
  next-count = length-map graph.blocks (λ (b : Block). targets b.exit)

  pub goto-within : (place to : ℕ) (block : Block) → slice_get graph.blocks place ≡ Some block → block.exit ≡ Goto to → to < length graph.blocks
  goto-within place to block found goes =
      ltb-true to (length graph.blocks) (sym (ap (is_exit graph.bits (length graph.blocks)) goes) ∙ exit-formed graph.bits (length graph.blocks) graph.blocks place block formed.blocks found)

  pub next-small : (place to : ℕ) → IsNext graph place to → to < length graph.blocks
  next-small place to is = goto-within place to is.block is.only.placed is.only.goes

  in-row : (from to : ℕ) (block : Block) → to < length graph.blocks → slice_get graph.blocks from ≡ Some block → Contains (targets block.exit) to → Contains (row to) from
  in-row from to block less found goes =
      in-there (row to) from
      (are.exact from to (omega (arith, next-count, less)) ∙ ap (λ xs. is_in xs to) (successors-at graph.blocks from block found) ∙ there-in (targets block.exit) to goes)

  pub row-leads : (from to : ℕ) → to < length graph.blocks → Contains (row to) from → Leads graph.blocks from to
  row-leads from to less there =
      leads-from graph.blocks from to (sym (are.exact from to (omega (arith, next-count, less))) ∙ there-in (row to) from there)

  pub row-within : (from to : ℕ) → to < length graph.blocks → Contains (row to) from → from < length graph.blocks
  row-within from to less there =
      let it = row-leads from to less there in
      placed graph.blocks from it.block it.found

  goes-there : (to : ℕ) (block : Block) → block.exit ≡ Goto to → Contains (targets block.exit) to
  goes-there to block goes = subst (λ exit. Contains (targets exit) to) (sym goes) (Contains-here to [])

  next-in : (place to : ℕ) → IsNext graph place to → Contains (row to) place
  next-in place to is = in-row place to is.block (next-small place to is) is.only.placed (goes-there to is.block is.only.goes)

  -- the next block has one edge in
  pub one-edge : (place to : ℕ) → IsNext graph place to → length (row to) ≡ 1
  one-edge place to is =
      let less = next-small place to is in
      one-number (row to) place (row-ascends preds to are.ascending (omega (arith, are.len, next-count, less)))
      (λ a there. let it = row-leads a to less there in is.only.only a it.block it.found it.goes) (next-in place to is)

  -- and a block with one edge in, from a Goto, is the next one
  pub edge-next : (place to : ℕ) (block : Block) → slice_get graph.blocks place ≡ Some block → block.exit ≡ Goto to → to ≢ 0 → length (row to) ≡ 1 → IsNext graph place to
  edge-next place to block found goes later one =
      let less = goto-within place to block found goes in
      let there = in-row place to block less found (goes-there to block goes) in
      is_next graph preds place to block are found goes later (omega (arith, are.len, next-count, less)) (one-item (row to) place place one (one-there (row to) place one there))

  -- where the one block before isn't followed by it, a chain begins
  pub first-of : (place from : ℕ) → length (row place) ≡ 1 → from ≡ get_or (row place) 0 from → (¬ IsNext graph from place) → IsFirst graph place
  first-of place from one is none other block only =
      let next : IsNext graph other place = record { block = block; only = only } in
      let there = next-in other place next in
      let same : other ≡ from = one-there (row place) other one there ∙ ap (λ xs. get_or xs 0 other) (one-item (row place) from from one is) in
      none (subst (λ n. IsNext graph n place) same next)

  pub first-without : (place : ℕ) → length (row place) ≢ 1 → IsFirst graph place
  first-without place many other block only = many (one-edge other place (record { block = block; only = only }))

-- By the code's lists.

module _ (graph : Graph) (formed : IsGraph graph) (lists : List (Vec ℕ)) (are : ArePredecessors (successors_of graph) (rows lists)) where
  lists-long : length (rows lists) ≡ length lists
  lists-long = length-map lists (λ (l : Vec ℕ). l.items)

  pub in-lists : (place to : ℕ) (block : Block) → slice_get graph.blocks place ≡ Some block → block.exit ≡ Goto to → to < length lists
  in-lists place to block found goes =
      omega (arith, goto-within graph formed (rows lists) are place to block found goes, next-count graph formed (rows lists) are, are.len, lists-long)

  pub at-list : (to : ℕ) (from : Vec ℕ) → to < length lists → from ≡ get_or lists to from → get_or (rows lists) to [] ≡ from.items
  at-list to from less is = (row-at lists to from (slice_get-get_or lists to from less ∙ ap Some (sym is))).0

  -- it is the one block that the block may go on to
  pub only-to : (place to n : ℕ) (block : Block) → slice_get graph.blocks place ≡ Some block → block.exit ≡ Goto to → IsNext graph place n → n ≡ to
  only-to place to n block found goes next =
      goto-place n to (sym next.only.goes ∙ ap (λ (b : Block). b.exit) (some-block next.block block (sym next.only.placed ∙ found)) ∙ goes)
    where
      some-block : (b c : Block) → Some b ≡ Some c → b ≡ c
      some-block b c is = cc

      goto-place : (n m : ℕ) → Goto n ≡ Goto m → n ≡ m
      goto-place n m is = cc

  -- more than one edge leads there, or none
  pub none-next : (place to : ℕ) (block : Block) (from : Vec ℕ) → slice_get graph.blocks place ≡ Some block → block.exit ≡ Goto to → to < length lists → from ≡ get_or lists to from
      → length from.items ≢ 1 → (n : ℕ) → ¬ IsNext graph place n
  none-next place to block from found goes less is many n next =
      let same = only-to place to n block found goes next in
      many (ap length (sym (at-list to from less is)) ∙ ap (λ m. length (get_or (rows lists) m [])) (sym same) ∙ one-edge graph formed (rows lists) are place n next)

  pub list-next : (place to : ℕ) (block : Block) (from : Vec ℕ) → slice_get graph.blocks place ≡ Some block → block.exit ≡ Goto to → to < length lists → from ≡ get_or lists to from
      → to ≢ 0 → length from.items ≡ 1 → IsNext graph place to
  list-next place to block from found goes less is later one =
      edge-next graph formed (rows lists) are place to block found goes later (ap length (at-list to from less is) ∙ one)

  -- a block that no one edge leads to
  pub list-first : (place : ℕ) (from : Vec ℕ) → place < length graph.blocks → from ≡ get_or lists place from → length from.items ≢ 1 → IsFirst graph place
  list-first place from less is many =
      first-without graph formed (rows lists) are place (λ one. many (ap length (sym (at-list place from (omega (arith, less, next-count graph formed (rows lists) are, are.len, lists-long)) is)) ∙ one))

  module _ (place : ℕ) (from : Vec ℕ) (n : ℕ) (less : place < length graph.blocks) (is : from ≡ get_or lists place from) (one : length from.items ≡ 1) (item : n ≡ get_or from.items 0 n) where
    row-is : get_or (rows lists) place [] ≡ from.items
    row-is = at-list place from (omega (arith, less, next-count graph formed (rows lists) are, are.len, lists-long)) is

    row-long : length (get_or (rows lists) place []) ≡ 1
    row-long = ap length row-is ∙ one

    first-item : n ≡ get_or (get_or (rows lists) place []) 0 n
    first-item = item ∙ ap (λ xs. get_or xs 0 n) (sym row-is)

    pub item-within : n < length graph.blocks
    item-within =
        row-within graph formed (rows lists) are n place less
        (subst (λ xs. Contains xs n) (sym (one-item (get_or (rows lists) place []) n n row-long first-item)) (Contains-here n []))

    pub item-first : (¬ IsNext graph n place) → IsFirst graph place
    item-first none = first-of graph formed (rows lists) are place n row-long first-item none

-- whether the block before goes on to another one tells whether a chain begins
pub first-told : (graph : Graph) (place from to : ℕ) → IsNext graph from to → ((¬ IsNext graph from place) → IsFirst graph place) → MatchBool (not (to == place)) (IsFirst graph place) (¬ IsFirst graph place)
first-told graph place from to next first = by (to == place) refl
  where
    by : (b : Bool) → (to == place) ≡ b → MatchBool (not b) (IsFirst graph place) (¬ IsFirst graph place)
    by true same = not-first graph from place (subst (IsNext graph from) (eqb-true to place same) next)
    by false other = first (λ also. true≢false (sym (eq-eqb to place (one-behind graph from to place next also)) ∙ other))
