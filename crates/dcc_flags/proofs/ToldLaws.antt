-- A table that is found by paths and closed under the edges tells which definitions reach; so it decides which flags
-- are kept.
use Rattle.std.proofs.Common.{◌≡◌, ◌≢◌, ℕ, zero, suc, ◌+◌, ◌<◌, ◌≤◌, Bool, true, false, ◌&&◌, inl, inr, List, [], ◌∷◌, ◌++◌, length, get_or, slice_set, replicate, take, drop, flat_map, refl, sym, ap, ◌∙◌, subst, arith, Contains}
use Rattle.std.specs.List.{list_any}
use Rattle.std.proofs.lemmas.Bool.{false≢true, cases_eq, cases_lt, or_cases, or_parts, or_left, or_right, and_parts, and_from}
use Rattle.std.proofs.lemmas.List.{length-replicate, get_or-set_same, get_or-set_other, set_past, get_or-replicate, get_or_past}
use Rattle.dcc_num.specs.declared.FlagName.{FlagName}
use Rattle.dcc_ir.specs.declared.syntax.Loc.TheVariants.{Flag}
use Rattle.dcc_ir.specs.Tree.{Stmt, Exit, Block, Graph}
use Rattle.dcc_ir.specs.Run.{no_block}
use Rattle.dcc_ir.specs.Flow.{targets}
use Rattle.dcc_ir.specs.Use.{exprs_of, exit_exprs}
use Rattle.dcc_ir.specs.Live.{is_among, reads, block_in, follows}
use Rattle.dcc_ir.specs.Joinable.{places_of, next_exprs}
use Rattle.dcc_ir.proofs.LocationLaws.{Contains-here, Contains-later, Contains-none, Contains-cases}
use Rattle.dcc_flow.specs.Edges.{is_in}
use Rattle.dcc_flow.proofs.Members.{in_here, in_there}
use Rattle.dcc_flags.specs.Reaching.{Definition, Start as Begin, At as Stands, Reaches, begins, defined as is_defined, passes, goes, defines, chooses, lets_through, rest_at, reads_at, has_result, IsKept, param, result, both}
use Rattle.dcc_flags.specs.declared.sources.Source.{Source}
use Rattle.dcc_flags.specs.declared.sources.Source.TheVariants.{Nothing, Start, At, Several}
use Rattle.dcc_flags.specs.Sources.{joined, moved, moved_past, spread, flowed, swept, is_mixed, mixes, is_passed, first_sources, Covers, AreFound, AreTold}
use Rattle.dcc_flags.proofs.SourceLaws.{moved_keeps, moved_adds, moved_found, found_weaker, joined_found, two_covered}
use Rattle.dcc_flags.proofs.GrowthLaws.{with_source}

-- Lists.

drop_next : {X : Type 0} (xs : List X) (i : ℕ) (x : X) (rest : List X) → drop i xs ≡ x ∷ rest → drop (suc i) xs ≡ rest
drop_next [] zero x rest e = cc
drop_next [] (suc i) x rest e = cc
drop_next (y ∷ ys) zero x rest e = cc
drop_next (y ∷ ys) (suc i) x rest e = drop_next ys i x rest e

take_next : {X : Type 0} (xs : List X) (i : ℕ) (x : X) (rest : List X) → drop i xs ≡ x ∷ rest → take (suc i) xs ≡ take i xs ++ x ∷ []
take_next [] zero x rest e = cc
take_next [] (suc i) x rest e = cc
take_next (y ∷ ys) zero x rest e = let same : y ≡ x = cc in ap (λ z. z ∷ []) same
take_next (y ∷ ys) (suc i) x rest e = ap (λ l. y ∷ l) (take_next ys i x rest e)

length_next : {X : Type 0} (xs : List X) (i : ℕ) (x : X) (rest : List X) → drop i xs ≡ x ∷ rest → length (take i xs) ≡ i
length_next [] zero x rest e = refl
length_next [] (suc i) x rest e = cc
length_next (y ∷ ys) zero x rest e = refl
length_next (y ∷ ys) (suc i) x rest e = ap suc (length_next ys i x rest e)

take_end : {X : Type 0} (xs : List X) (i : ℕ) → drop i xs ≡ [] → take i xs ≡ xs
take_end [] zero e = refl
take_end [] (suc i) e = refl
take_end (y ∷ ys) zero e = cc
take_end (y ∷ ys) (suc i) e = ap (λ l. y ∷ l) (take_end ys i e)

past_push : (f : FlagName) (source : Source) (block place : ℕ) (stmts : List Stmt) (stmt : Stmt)
    → moved_past f source block place (stmts ++ stmt ∷ []) ≡ moved f (moved_past f source block place stmts) block (place + length stmts) stmt
past_push f source block place [] stmt = let e : place ≡ place + 0 = omega arith in ap (λ n. moved f source block n stmt) e
past_push f source block place (s ∷ ss) stmt =
    let e : suc place + length ss ≡ place + suc (length ss) = omega arith in
    past_push f (moved f source block place s) block (suc place) ss stmt
    ∙ ap (λ n. moved f (moved_past f (moved f source block place s) block (suc place) ss) block n stmt) e

-- What a block's statements mix.

mixes_from : (f : FlagName) (stmts : List Stmt) (exit : Exit) (source : Source) (block k place : ℕ)
    → is_mixed (moved_past f source block k (take place stmts)) ≡ true → reads (next_exprs (drop place stmts) exit) (Flag f) ≡ true → mixes f source block k stmts exit ≡ true
mixes_from f [] exit source block k zero mixed read = and_from (is_mixed source) (reads (exit_exprs exit) (Flag f)) mixed read
mixes_from f [] exit source block k (suc place) mixed read = and_from (is_mixed source) (reads (exit_exprs exit) (Flag f)) mixed read
mixes_from f (s ∷ ss) exit source block k zero mixed read =
    or_left (is_mixed source && reads (exprs_of s) (Flag f)) (mixes f (moved f source block k s) block (suc k) ss exit)
    (and_from (is_mixed source) (reads (exprs_of s) (Flag f)) mixed read)
mixes_from f (s ∷ ss) exit source block k (suc place) mixed read =
    or_right (is_mixed source && reads (exprs_of s) (Flag f)) (mixes f (moved f source block k s) block (suc k) ss exit)
    (mixes_from f ss exit (moved f source block k s) block (suc k) place mixed read)

-- an element that passes
record OneOf {X : Type 0} (p : X → Bool) (xs : List X) : Type 0 where
  pub element : X
  pub there : Contains xs element
  pub passes : p element ≡ true

one_of : {X : Type 0} (p : X → Bool) (xs : List X) → list_any p xs ≡ true → OneOf p xs
one_of p [] e = absurd (false≢true e)
one_of p (x ∷ xs) e = elim (or_cases (p x) (list_any p xs) e) [
  | inl here ↦ record { element = x; there = Contains-here x xs; passes = here }
  | inr later ↦ let rest = one_of p xs later in record { element = rest.element; there = Contains-later x xs rest.element rest.there; passes = rest.passes }
]

any_of : {X : Type 0} (p : X → Bool) (xs : List X) (x : X) → Contains xs x → p x ≡ true → list_any p xs ≡ true
any_of p [] x c e = absurd (Contains-none x c)
any_of p (y ∷ ys) x c e = Contains-cases y ys x (list_any p (y ∷ ys) ≡ true)
    (λ same. or_left (p y) (list_any p ys) (ap p same ∙ e)) (λ later. or_right (p y) (list_any p ys) (any_of p ys x later e)) c

module _ (graph : Graph) (f : FlagName) where
  -- the definitions that reach the place
  abbrev pub Reaching : ℕ → ℕ → Definition → Type 0
  Reaching block place d = Reaches graph f d block place

  -- What is found.

  past_found : (block place : ℕ) (stmt : Stmt) (rest : List Stmt) (source : Source) → rest_at graph block place ≡ stmt ∷ rest
      → AreFound source (Reaching block place) → AreFound (moved f source block place stmt) (Reaching block (suc place))
  past_found block place stmt rest source here h =
      moved_found (defines f stmt) (chooses f stmt) source block place (Reaching block place) (Reaching block (suc place))
      (λ e d r. is_defined r here e) (λ e d r. passes r here e) h

  record AtEnd (block : ℕ) (source : Source) : Type 0 where
    pub place : ℕ
    pub last : rest_at graph block place ≡ []
    pub found : AreFound source (Reaching block place)

  at_end : (block place : ℕ) (stmts : List Stmt) (source : Source) → rest_at graph block place ≡ stmts → AreFound source (Reaching block place)
      → AtEnd block (moved_past f source block place stmts)
  at_end block place [] source here h = record { place = place; last = here; found = h }
  at_end block place (s ∷ ss) source here h =
      at_end block (suc place) ss (moved f source block place s) (drop_next (block_in graph block).stmts place s ss here) (past_found block place s ss source here h)

  abbrev pub Found : List Source → Type 0
  Found t = (block : ℕ) → AreFound (get_or t block Nothing) (Reaching block 0)

  entry_found : (t : List Source) (block : ℕ) (source : Source) → Found t → AreFound source (Reaching block 0) → Found (with_source t block source)
  entry_found t block source all new k =
      let v = joined (get_or t block Nothing) source in
      elim (cases_eq k block) [
        | inl e ↦ elim (cases_lt block (length t)) [
          | inl inside ↦
              subst (λ n. AreFound (get_or (slice_set t block v) n Nothing) (Reaching n 0)) (sym e)
              (subst (λ s. AreFound s (Reaching block 0)) (sym (get_or-set_same t block v Nothing inside))
              (joined_found (get_or t block Nothing) source (Reaching block 0) (all block) new))
          | inr past ↦ subst (λ l. AreFound (get_or l k Nothing) (Reaching k 0)) (sym (set_past t block v past)) (all k)
        ]
        | inr o ↦ subst (λ s. AreFound s (Reaching k 0)) (sym (get_or-set_other t block k v Nothing o)) (all k)
      ]

  spread_found : (source : Source) (t : List Source) (blocks : List ℕ) → Found t → ((b : ℕ) → is_in blocks b ≡ true → AreFound source (Reaching b 0)) → Found (spread source t blocks)
  spread_found source t [] all new = all
  spread_found source t (block ∷ blocks) all new =
      spread_found source (with_source t block source) blocks (entry_found t block source all (new block (in_here block blocks))) (λ b e. new b (in_there block b blocks e))

  flowed_found : (t : List Source) (block : ℕ) → Found t → Found (flowed f graph t block)
  flowed_found t block all =
      let source = moved_past f (get_or t block Nothing) block 0 (block_in graph block).stmts in
      let end = at_end block 0 (block_in graph block).stmts (get_or t block Nothing) refl (all block) in
      spread_found source t (targets (block_in graph block).exit) all (λ b e.
      found_weaker source (Reaching block end.place) (Reaching b 0) (λ d r. goes r end.last e) end.found)

  pub swept_found : (t : List Source) (blocks : List ℕ) → Found t → Found (swept f graph t blocks)
  swept_found t [] all = all
  swept_found t (block ∷ blocks) all = swept_found (flowed f graph t block) blocks (flowed_found t block all)

  -- at first
  nothing_at : (count k : ℕ) → get_or (replicate count Nothing) k Nothing ≡ Nothing
  nothing_at count k = elim (cases_lt k count) [
    | inl inside ↦ get_or-replicate count k Nothing Nothing inside
    | inr past ↦ get_or_past (replicate count Nothing) k Nothing (let e = length-replicate count Nothing in omega (arith, e, past))
  ]

  pub first_found : (count : ℕ) → Found (first_sources count)
  first_found count =
      let none = replicate count Nothing in
      subst Found (ap (λ s. slice_set none 0 (joined s Start)) (nothing_at count 0))
      (entry_found none 0 Start (λ k. subst (λ s. AreFound s (Reaching k 0)) (sym (nothing_at count k)) tt) begins)

  pub first_covers : (count : ℕ) → 0 < count → Covers (get_or (first_sources count) 0 Nothing) Begin
  first_covers count some =
      let none = replicate count Nothing in
      let inside : 0 < length none = (let e = length-replicate count Nothing in omega (arith, e, some)) in
      subst (λ s. Covers s Begin) (sym (get_or-set_same none 0 Start Nothing inside)) refl

  -- What is covered.

  -- what the table tells of a place
  abbrev pub source_at : List Source → ℕ → ℕ → Source
  source_at t block place = moved_past f (get_or t block Nothing) block 0 (take place (block_in graph block).stmts)

  source_next : (t : List Source) (block place : ℕ) (stmt : Stmt) (rest : List Stmt) → rest_at graph block place ≡ stmt ∷ rest
      → source_at t block (suc place) ≡ moved f (source_at t block place) block place stmt
  source_next t block place stmt rest here =
      let stmts = (block_in graph block).stmts in
      let entry = get_or t block Nothing in
      let size : 0 + length (take place stmts) ≡ place = let e = length_next stmts place stmt rest here in omega (arith, e) in
      ap (moved_past f entry block 0) (take_next stmts place stmt rest here) ∙ past_push f entry block 0 (take place stmts) stmt
      ∙ ap (λ n. moved f (moved_past f entry block 0 (take place stmts)) block n stmt) size

  adds_at : (t : List Source) (d : Definition) (block place : ℕ) (stmt : Stmt) (rest : List Stmt) → rest_at graph block place ≡ stmt ∷ rest → defines f stmt ≡ true
      → Covers (source_at t block place) d → Covers (source_at t block (suc place)) (Stands block place)
  adds_at t d block place stmt rest here e h =
      subst (λ s. Covers s (Stands block place)) (sym (source_next t block place stmt rest here))
      (moved_adds (defines f stmt) (chooses f stmt) (source_at t block place) block place d e h)

  keeps_at : (t : List Source) (d : Definition) (block place : ℕ) (stmt : Stmt) (rest : List Stmt) → rest_at graph block place ≡ stmt ∷ rest → lets_through f stmt ≡ true
      → Covers (source_at t block place) d → Covers (source_at t block (suc place)) d
  keeps_at t d block place stmt rest here e h =
      subst (λ s. Covers s d) (sym (source_next t block place stmt rest here))
      (moved_keeps (defines f stmt) (chooses f stmt) (source_at t block place) block place d e h)

  leaves_at : (t : List Source) (d : Definition) (block place : ℕ) → rest_at graph block place ≡ [] → Covers (source_at t block place) d
      → Covers (moved_past f (get_or t block Nothing) block 0 (block_in graph block).stmts) d
  leaves_at t d block place last h =
      subst (λ l. Covers (moved_past f (get_or t block Nothing) block 0 l) d) (take_end (block_in graph block).stmts place last) h

  -- the blocks of the order are those that are reached, and what leaves one is covered after each of its edges
  pub record IsClosed (order : List ℕ) (t : List Source) : Type 0 where
    pub starts : is_in order 0 ≡ true
    pub leads : (a b : ℕ) → is_in order a ≡ true → follows graph a b ≡ true → is_in order b ≡ true
    pub first : Covers (get_or t 0 Nothing) Begin
    pub covers : (a b : ℕ) → is_in order a ≡ true → follows graph a b ≡ true → (d : Definition)
        → Covers (moved_past f (get_or t a Nothing) a 0 (block_in graph a).stmts) d → Covers (get_or t b Nothing) d

  reached : (order : List ℕ) (t : List Source) → IsClosed order t → {d : Definition} {block place : ℕ} → Reaches graph f d block place
      → (is_in order block ≡ true) × Covers (source_at t block place) d
  reached order t closed begins = (closed.starts, closed.first)
  reached order t closed (is_defined {d = d} {block = block} {place = place} {stmt = stmt} {rest = rest} r here e) =
      let before = reached order t closed r in (before.0, adds_at t d block place stmt rest here e before.1)
  reached order t closed (passes {d = d} {block = block} {place = place} {stmt = stmt} {rest = rest} r here e) =
      let before = reached order t closed r in (before.0, keeps_at t d block place stmt rest here e before.1)
  reached order t closed (goes {d = d} {block = block} {place = place} {next = next} r last e) =
      let before = reached order t closed r in
      (closed.leads block next before.0 e, closed.covers block next before.0 e d (leaves_at t d block place last before.1))

  pub told : (order : List ℕ) (t : List Source) → length t ≡ length graph.blocks → Found t → IsClosed order t → AreTold graph f t
  told order t count found closed = record { count = count; found = found; covered = λ d block r. (reached order t closed r).1 }

  -- Which flags are kept.

  covered_at : (t : List Source) → AreTold graph f t → {d : Definition} {block place : ℕ} → Reaches graph f d block place → Covers (source_at t block place) d
  covered_at t are begins = are.covered Begin 0 begins
  covered_at t are (is_defined {d = d} {block = block} {place = place} {stmt = stmt} {rest = rest} r here e) = adds_at t d block place stmt rest here e (covered_at t are r)
  covered_at t are (passes {d = d} {block = block} {place = place} {stmt = stmt} {rest = rest} r here e) = keeps_at t d block place stmt rest here e (covered_at t are r)
  covered_at t are (goes {d = d} {next = next} r last e) = are.covered d next (goes r last e)

  -- several definitions reach a read of the block
  abbrev pub mixed_in : List Source → ℕ → Bool
  mixed_in t block = mixes f (get_or t block Nothing) block 0 (block_in graph block).stmts (block_in graph block).exit

  two_read : (block place : ℕ) (source : Source) → is_mixed source ≡ true → AreFound source (Reaching block place) → reads_at graph f block place ≡ true → IsKept graph f
  two_read block place Nothing mixed h read = absurd (false≢true mixed)
  two_read block place Start mixed h read = absurd (false≢true mixed)
  two_read block place (At x y) mixed h read = absurd (false≢true mixed)
  two_read block place Several mixed h read = both h.2 h.3 h.4 read

  here_read : (block place : ℕ) (source : Source) (stmts : List Stmt) → rest_at graph block place ≡ stmts → AreFound source (Reaching block place)
      → (is_mixed source && reads (next_exprs stmts (block_in graph block).exit) (Flag f)) ≡ true → IsKept graph f
  here_read block place source stmts here h e =
      let exit = (block_in graph block).exit in
      let parts = and_parts (is_mixed source) (reads (next_exprs stmts exit) (Flag f)) e in
      two_read block place source parts.0 h (ap (λ l. reads (next_exprs l exit) (Flag f)) here ∙ parts.1)

  kept_from : (block place : ℕ) (stmts : List Stmt) (source : Source) → rest_at graph block place ≡ stmts → AreFound source (Reaching block place)
      → mixes f source block place stmts (block_in graph block).exit ≡ true → IsKept graph f
  kept_from block place [] source here h e = here_read block place source [] here h e
  kept_from block place (s ∷ ss) source here h e =
      let exit = (block_in graph block).exit in
      elim (or_cases (is_mixed source && reads (exprs_of s) (Flag f)) (mixes f (moved f source block place s) block (suc place) ss exit) e) [
        | inl now ↦ here_read block place source (s ∷ ss) here h now
        | inr later ↦ kept_from block (suc place) ss (moved f source block place s) (drop_next (block_in graph block).stmts place s ss here) (past_found block place s ss source here h) later
      ]

  pub kept_if_mixed : (t : List Source) → AreTold graph f t → (block : ℕ) → mixed_in t block ≡ true → IsKept graph f
  kept_if_mixed t are block e = kept_from block 0 (block_in graph block).stmts (get_or t block Nothing) refl (are.found block) e

  nothing_read : (block place : ℕ) → length graph.blocks ≤ block → reads_at graph f block place ≡ false
  nothing_read block place past =
      let none : block_in graph block ≡ no_block = get_or_past graph.blocks block no_block past in
      subst (λ (b : Block). reads (next_exprs (drop place b.stmts) b.exit) (Flag f) ≡ false) (sym none) (no_rest place)
    where
      no_rest : (n : ℕ) → reads (next_exprs (drop n no_block.stmts) no_block.exit) (Flag f) ≡ false
      no_rest zero = refl
      no_rest (suc n) = refl

  mixed_if_both : (t : List Source) → AreTold graph f t → (d other : Definition) (block place : ℕ) → Reaches graph f d block place → Reaches graph f other block place
      → d ≢ other → reads_at graph f block place ≡ true → mixed_in t block ≡ true
  mixed_if_both t are d other block place r q differ read =
      mixes_from f (block_in graph block).stmts (block_in graph block).exit (get_or t block Nothing) block 0 place
      (two_covered (source_at t block place) d other (covered_at t are r) (covered_at t are q) differ) read

  pub kept_if_passed : is_passed f graph ≡ true → IsKept graph f
  kept_if_passed e = elim (or_cases (is_among (flat_map (λ p. places_of p.put) graph.params) (Flag f)) (list_any (λ block. list_any (has_result f) block.stmts) graph.blocks) e) [
    | inl taken ↦ param taken
    | inr given ↦
        let block = one_of (λ (block : Block). list_any (has_result f) block.stmts) graph.blocks given in
        let stmt = one_of (has_result f) block.element.stmts block.passes in
        result block.there stmt.there stmt.passes
  ]

  pub not_kept : (t : List Source) → AreTold graph f t → is_passed f graph ≡ false → ((k : ℕ) → k < length t → mixed_in t k ≡ false) → IsKept graph f → ⊥
  not_kept t are none clear (param e) =
      let parts = or_parts (is_among (flat_map (λ p. places_of p.put) graph.params) (Flag f)) (list_any (λ block. list_any (has_result f) block.stmts) graph.blocks) none in
      false≢true (sym parts.0 ∙ e)
  not_kept t are none clear (result {block = block} {stmt = stmt} inside there e) =
      let parts = or_parts (is_among (flat_map (λ p. places_of p.put) graph.params) (Flag f)) (list_any (λ block. list_any (has_result f) block.stmts) graph.blocks) none in
      let gives = any_of (has_result f) block.stmts stmt there e in
      false≢true (sym parts.1 ∙ any_of (λ (b : Block). list_any (has_result f) b.stmts) graph.blocks block inside gives)
  not_kept t are none clear (both {d = d} {other = other} {block = block} {place = place} r q differ read) =
      elim (cases_lt block (length t)) [
        | inl inside ↦ false≢true (sym (clear block inside) ∙ mixed_if_both t are d other block place r q differ read)
        | inr past ↦ let count = are.count in false≢true (sym (nothing_read block place (omega (arith, past, count))) ∙ read)
      ]
