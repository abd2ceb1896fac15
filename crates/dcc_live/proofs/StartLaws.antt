-- What is live where a graph begins: a way to a read that comes twice to no block is no longer than the graph has
-- blocks, and so the search finds it.
use Rattle.std.proofs.Common.{◌≡◌, ℕ, zero, suc, ◌+◌, ◌<◌, ◌≤◌, Bool, true, false, ◌&&◌, ◌||◌, not, ◌⊎◌, inl, inr, ◌==◌, List, [], ◌∷◌, ◌++◌, length, get_or, slice_get, map, Some, refl, sym, ap, ap₂, ◌∙◌, subst, true≢false, eq-eqb, arith, Contains}
use Rattle.std.specs.Prelude.{◌↔◌, filter, if◌then◌else◌}
use Rattle.std.specs.List.{list_any, range_with_len}
use Rattle.std.proofs.lemmas.Bool.{cases_lt, eqb-true, or_cases, or_parts, or_left, or_right, and_parts, and_from, not-true}
use Rattle.std.proofs.lemmas.List.{get_or_past}
use Rattle.std.proofs.lemmas.Option.{get_or_from_slice_get}
use Rattle.std.proofs.lemmas.List.FromFn.{length-range_with_len, get_or-range_with_len}
use Rattle.dcc_ir.specs.declared.syntax.Loc.{Loc}
use Rattle.dcc_ir.specs.Tree.{Block, Graph}
use Rattle.dcc_ir.specs.Families.{IsLiveAtStart, live}
use Rattle.dcc_ir.specs.Flow.{targets, IsPath}
use Rattle.dcc_ir.specs.Live.{is_among, block_in, follows, reads_first, writes, Passes, IsLiveAfter, IsLive}
use Rattle.dcc_ir.specs.Run.{no_block}
use Rattle.dcc_ir.specs.WellFormed.{IsGraph}
use Rattle.dcc_ir.proofs.FamilyLaws.{live_after}
use Rattle.dcc_ir.proofs.LocationLaws.{among_contains, contains_among, Contains-here, Contains-later, Contains-none, Contains-cases}
use Rattle.dcc_ir.proofs.PathLaws.{decided, nor, path_first, path_wider}
use Rattle.dcc_flow.specs.Access.{block_access_of, accesses_of}
use Rattle.dcc_flow.specs.Marks.{empty, with_all}
use Rattle.dcc_live.specs.First.{others, Row, row_of}
use Rattle.dcc_live.specs.Start.{is_read_along, begins_live, BeginsLiveIsLive}
use Rattle.dcc_live.proofs.RowLaws.{among_append, among_others, row_first, row_writes}
use Rattle.dcc_live.proofs.NeededLaws.{any_passes, some_passes}
use Rattle.dcc_live.proofs.WorkLaws.{contains_in, in_contains}

-- Numbers without one of them.

abbrev without : ℕ → List ℕ → List ℕ
without n known = filter (λ m. not (m == n)) known

no-more : (n : ℕ) (known : List ℕ) → length (without n known) ≤ length known
no-more n [] = omega arith
no-more n (m ∷ known) = by (m == n) (no-more n known)
  where
    by : (b : Bool) → length (without n known) ≤ length known
        → length (if not b then m ∷ without n known else without n known) ≤ suc (length known)
    by true less = omega (arith, less)
    by false less = omega (arith, less)

one-less : (n : ℕ) (known : List ℕ) → Contains known n → length (without n known) < length known
one-less n [] c = absurd (Contains-none n c)
one-less n (m ∷ known) c =
    Contains-cases m known n (length (without n (m ∷ known)) < suc (length known))
    (λ same. here (m == n) (eq-eqb m n same) (no-more n known)) (λ later. there (m == n) (one-less n known later)) c
  where
    here : (b : Bool) → b ≡ true → length (without n known) ≤ length known
        → length (if not b then m ∷ without n known else without n known) < suc (length known)
    here true is less = omega (arith, less)
    here false is less = absurd (true≢false (sym is))

    there : (b : Bool) → length (without n known) < length known
        → length (if not b then m ∷ without n known else without n known) < suc (length known)
    there true less = omega (arith, less)
    there false less = omega (arith, less)

still-there : (n : ℕ) (known : List ℕ) (x : ℕ) → (x == n) ≡ false → Contains known x → Contains (without n known) x
still-there n [] x other c = absurd (Contains-none x c)
still-there n (m ∷ known) x other c =
    Contains-cases m known x (Contains (without n (m ∷ known)) x)
    (λ same. here (m == n) same (ap (λ y. y == n) same ∙ other)) (λ later. there (m == n) (still-there n known x other later)) c
  where
    here : (b : Bool) → m ≡ x → b ≡ false → Contains (if not b then m ∷ without n known else without n known) x
    here true same is = absurd (true≢false is)
    here false same is = subst (Contains (m ∷ without n known)) same (Contains-here m (without n known))

    there : (b : Bool) → Contains (without n known) x
        → Contains (if not b then m ∷ without n known else without n known) x
    there true c = c
    there false c = Contains-later m (without n known) x c

-- Ways.

module _ (goes : ℕ → ℕ → Bool) (Between : ℕ → Type 0) (n c : ℕ) where
  -- a way that doesn't come to the number again
  pub record Straight : Type 0 where
    pub between : List ℕ
    pub path : IsPath goes Between n between c
    pub once : list_any (λ m. m == n) between ≡ false

  -- the way from where it comes to the number last
  from-last : (a : ℕ) (between : List ℕ) → IsPath goes Between a between c
      → Straight ⊎ (list_any (λ m. m == n) between ≡ false)
  from-last a [] path = inr refl
  from-last a (b ∷ between) path = elim (from-last b between path.2) [
    | inl straight ↦ inl straight
    | inr none ↦ elim (decided (b == n)) [
      | inl is ↦ inl (record {
        between = between;
        path = subst (λ m. IsPath goes Between m between c) (eqb-true b n is) path.2;
        once = none;
      })
      | inr other ↦ inr (nor (b == n) (list_any (λ m. m == n) between) other none)
    ]
  ]

  straight : (between : List ℕ) → IsPath goes Between n between c → Straight
  straight between path = elim (from-last n between path) [
    | inl found ↦ found
    | inr none ↦ record { between = between; path = path; once = none }
  ]

  -- each number on the way is of the kind and another one
  pub others-between : (a : ℕ) (between : List ℕ) → list_any (λ m. m == n) between ≡ false
      → IsPath goes Between a between c → IsPath goes (λ m. Between m × ((m == n) ≡ false)) a between c
  others-between a [] once path = path
  others-between a (b ∷ between) once path =
      let parts = or_parts (b == n) (list_any (λ m. m == n) between) once in
      (path.0, (path.1, parts.0), others-between b between parts.1 path.2)

module _ (graph : Graph) (location : Loc) where
  abbrev block : ℕ → Block
  block place = block_in graph place

  abbrev reads_here : ℕ → Bool
  reads_here place = reads_first (block place).stmts (block place).exit location

  abbrev along : ℕ → ℕ → Bool
  along edges place = is_read_along edges graph location place

  -- What the search finds is live.

  found-live : (edges place : ℕ) → along edges place ≡ true → IsLiveAtStart graph place location
  found-live zero place is = inl is
  found-live (suc edges) place is = elim (or_cases (reads_here place) _ is) [
    | inl read ↦ inl read
    | inr on ↦
        let parts = and_parts (not (writes (block place).stmts location)) (list_any (along edges) (targets (block place).exit)) on in
        let next = some_passes (along edges) (targets (block place).exit) parts.1 in
        inr (
          unwritten (writes (block place).stmts location) parts.0,
          live_after graph place next.0 location (contains_in (targets (block place).exit) next.0 next.1)
              (found-live edges next.0 next.2),
        )
  ]
    where
      unwritten : (b : Bool) → not b ≡ true → b ≡ false
      unwritten true is = sym is
      unwritten false is = refl

  -- What is live the search finds.

  reads-along : (edges place : ℕ) → reads_here place ≡ true → along edges place ≡ true
  reads-along zero place read = read
  reads-along (suc edges) place read = or_left (reads_here place) _ read

  step-along : (edges place next : ℕ) → Passes graph location place → follows graph place next ≡ true
      → along edges next ≡ true → along (suc edges) place ≡ true
  step-along edges place next passes edge is =
      or_right (reads_here place) _
      (and_from (not (writes (block place).stmts location)) (list_any (along edges) (targets (block place).exit))
      (ap not passes)
      (any_passes (along edges) (targets (block place).exit) next (in_contains (targets (block place).exit) next edge) is))

  abbrev InKnown : List ℕ → ℕ → Type 0
  InKnown known place = Passes graph location place × Contains known place

  way-along : (edges : ℕ) (known : List ℕ) → length known ≤ edges → (place : ℕ) → InKnown known place
      → (between : List ℕ) (reader : ℕ) → IsPath (follows graph) (InKnown known) place between reader
      → reads_here reader ≡ true → along edges place ≡ true
  way-along edges [] less place from between reader path read = absurd (Contains-none place from.1)
  way-along zero (k ∷ known) less place from between reader path read = absurd (omega (arith, less))
  way-along (suc edges) (k ∷ known) less place from between reader path read =
      let once = straight (follows graph) (InKnown (k ∷ known)) place reader between path in
      let one = one-less place (k ∷ known) from.1 in
      let fewer : length (without place (k ∷ known)) ≤ edges = omega (arith, one, less) in
      onward (λ b here rest way. way-along edges (without place (k ∷ known)) fewer b here rest reader way read) once.between
      (others-between (follows graph) (InKnown (k ∷ known)) place reader place once.between once.once once.path)
    where
      narrower : (m : ℕ) → InKnown (k ∷ known) m × ((m == place) ≡ false) → InKnown (without place (k ∷ known)) m
      narrower m is = (is.0.0, still-there place (k ∷ known) m is.1 is.0.1)

      onward : ((b : ℕ) → InKnown (without place (k ∷ known)) b → (rest : List ℕ)
          → IsPath (follows graph) (InKnown (without place (k ∷ known))) b rest reader → along edges b ≡ true)
          → (between : List ℕ)
          → IsPath (follows graph) (λ m. InKnown (k ∷ known) m × ((m == place) ≡ false)) place between reader
          → along (suc edges) place ≡ true
      onward later [] path = step-along edges place reader from.0 path (reads-along edges reader read)
      onward later (b ∷ between) path =
          step-along edges place b from.0 path.0
          (later b (narrower b path.1) between
          (path_wider (follows graph) _ (InKnown (without place (k ∷ known))) narrower b between reader path.2))

  -- A block from which an edge leads is one of the graph.

  abbrev places : List ℕ
  places = range_with_len 0 (length graph.blocks)

  leaves-known : (a b : ℕ) → follows graph a b ≡ true → Contains places a
  leaves-known a b edge = elim (cases_lt a (length graph.blocks)) [
    | inl inside ↦ (a, omega (arith, inside, length-range_with_len 0 (length graph.blocks)), there a inside)
    | inr past ↦ absurd (true≢false (sym edge ∙ ap (λ (x : Block). list_any (λ place. place == b) (targets x.exit)) (get_or_past graph.blocks a no_block past)))
  ]
    where
      there : (a : ℕ) → a < length graph.blocks → get_or places a a ≡ a
      there a inside =
          let same : 0 + a ≡ a = omega arith in get_or-range_with_len 0 (length graph.blocks) a a inside ∙ same

  path-known : (a : ℕ) (between : List ℕ) (c : ℕ) → IsPath (follows graph) (Passes graph location) a between c
      → IsPath (follows graph) (InKnown places) a between c
  path-known a [] c path = path
  path-known a (b ∷ between) c path =
      let edge = path_first (follows graph) (Passes graph location) b between c path.2 in
      (path.0, (path.1, leaves-known b edge.0 edge.1), path-known b between c path.2)

  live-found : IsLiveAtStart graph 0 location → begins_live graph location ≡ true
  live-found (inl read) = reads-along (length graph.blocks) 0 read
  live-found (inr on) =
      let after = on.1 in
      let edge = path_first (follows graph) (Passes graph location) 0 after.between after.reader after.path in
      way-along (length graph.blocks) places (omega (arith, length-range_with_len 0 (length graph.blocks))) 0
      (on.0, leaves-known 0 edge.0 edge.1) after.between after.reader
      (path-known 0 after.between after.reader after.path) after.read

pub begins-live : BeginsLiveIsLive
begins-live graph location = (found-live graph location (length graph.blocks) 0, live-found graph location)

-- what is live before the statements of the first block is live where the graph begins
pub begins-where-live : (graph : Graph) (location : Loc)
    → live graph (block_in graph 0) (block_in graph 0).stmts location → begins_live graph location ≡ true
begins-where-live graph location (inl read) = (begins-live graph location).1 (inl read)
begins-where-live graph location (inr on) =
    (begins-live graph location).1
    (inr (on.1, live_after graph 0 on.0 location (contains_in (targets (block_in graph 0).exit) on.0 on.2) on.3))

-- Of the code: what is live before the first block.

same-test : (a b : Bool) → (a ≡ true → b ≡ true) → (b ≡ true → a ≡ true) → a ≡ b
same-test true b to from = sym (to refl)
same-test false true to from = from refl
same-test false false to from = refl

without-false : (b : Bool) → (b || false) ≡ b
without-false true = refl
without-false false = refl

module _ (graph : Graph) (formed : IsGraph graph) (rows : List Row) (row : Row) (at_end : List (List Loc))
    (first list : List Loc) (rows-are : rows ≡ map row_of (accesses_of graph)) (row-at : slice_get rows 0 ≡ Some row)
    (live : IsLive graph at_end) (first-at : slice_get at_end 0 ≡ Some first)
    (list-is : list ≡ row.first ++ others (with_all empty row.writes) first) where
  abbrev start : Block
  start = block_in graph 0

  row-is : row ≡ row_of (block_access_of start)
  row-is = by graph.blocks formed.begins (sym row-at ∙ ap (λ l. slice_get l 0) rows-are)
    where
      by : (blocks : List Block) → 0 < length blocks
          → Some row ≡ slice_get (map row_of (map block_access_of blocks)) 0
          → row ≡ row_of (block_access_of (get_or blocks 0 no_block))
      by [] some is = absurd (omega (arith, some))
      by (b ∷ blocks) some is = cc

  ends : (l : Loc) → Contains first l ↔ IsLiveAfter graph 0 l
  ends l =
      subst (λ ls. Contains ls l ↔ IsLiveAfter graph 0 l) (get_or_from_slice_get at_end 0 first [] first-at)
      (live.exact 0 l formed.begins)

  read-first : (l : Loc) → is_among row.first l ≡ reads_first start.stmts start.exit l
  read-first l = ap (λ (r : Row). is_among r.first l) row-is ∙ row_first start l

  written : (l : Loc) → with_all empty row.writes l ≡ writes start.stmts l
  written l = without-false (is_among row.writes l) ∙ ap (λ (r : Row). is_among r.writes l) row-is ∙ row_writes start.stmts l

  listed : (l : Loc) → is_among list l
      ≡ (reads_first start.stmts start.exit l || (not (writes start.stmts l) && is_among first l))
  listed l =
      ap (λ ls. is_among ls l) list-is
      ∙ among_append row.first (others (with_all empty row.writes) first) l
      ∙ ap₂ (λ a b. a || b) (read-first l)
      (among_others (with_all empty row.writes) first l ∙ ap (λ b. not b && is_among first l) (written l))

  pub start-is : (l : Loc) → is_among list l ≡ begins_live graph l
  start-is l = listed l ∙ same-test _ (begins_live graph l) to from
    where
      to : (reads_first start.stmts start.exit l || (not (writes start.stmts l) && is_among first l)) ≡ true
          → begins_live graph l ≡ true
      to is = elim (or_cases (reads_first start.stmts start.exit l) _ is) [
        | inl read ↦ (begins-live graph l).1 (inl read)
        | inr on ↦
            let parts = and_parts (not (writes start.stmts l)) (is_among first l) on in
            (begins-live graph l).1 (inr (not-true (writes start.stmts l) parts.0, (ends l).0 (among_contains first l parts.1)))
      ]

      from : begins_live graph l ≡ true
          → (reads_first start.stmts start.exit l || (not (writes start.stmts l) && is_among first l)) ≡ true
      from is = elim ((begins-live graph l).0 is) [
        | inl read ↦ or_left (reads_first start.stmts start.exit l) _ read
        | inr on ↦
            or_right (reads_first start.stmts start.exit l) _
            (and_from (not (writes start.stmts l)) (is_among first l) (ap not on.0) (contains_among first l ((ends l).1 on.1)))
      ]

-- what is made of the first element
pub front-map : {A B : Type 0} (f : A → B) (xs : List A) (x : A) → Some x ≡ slice_get xs 0
    → slice_get (map f xs) 0 ≡ Some (f x)
front-map f [] x is = absurd cc
front-map f (y ∷ xs) x is = let same : y ≡ x = cc in ap (λ z. Some (f z)) same
