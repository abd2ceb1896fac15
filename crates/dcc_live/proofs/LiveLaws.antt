-- What is live, by what is used before it is written.
use Rattle.std.proofs.Common.{◌≡◌, ℕ, ◌+◌, ◌<◌, Bool, true, false, ◌||◌, inl, inr, List, [], ◌∷◌, ◌++◌, length, get_or, slice_get, map, Some, refl, sym, ap, ◌∙◌, subst, arith, Contains}
use Rattle.std.specs.Prelude.{All}
use Rattle.std.proofs.lemmas.Bool.{cases_lt}
use Rattle.std.proofs.lemmas.List.{length_push, length-map, get_or-map, get_or_past, get_or_append_left, get_or_push}
use Rattle.std.proofs.lemmas.List.Elements.{All-get_or, All-push, All-contains}
use Rattle.std.proofs.lemmas.Option.{slice_get-get_or, get_or_from_slice_get, slice_get_within}
use Rattle.dcc_ir.specs.declared.syntax.Loc.{Loc}
use Rattle.dcc_ir.specs.Tree.{Block, Graph}
use Rattle.dcc_ir.specs.WellFormed.{IsGraph}
use Rattle.dcc_ir.specs.Run.{no_block}
use Rattle.dcc_ir.specs.Flow.{targets, IsPath}
use Rattle.dcc_ir.specs.Live.{is_among, block_in, follows, reads_first, writes, Passes, IsLiveAfter, IsLive}
use Rattle.dcc_ir.proofs.LocationLaws.{among_contains}
use Rattle.dcc_ir.proofs.ReachedLaws.{contained}
use Rattle.dcc_flow.specs.Edges.{is_in, leads, successors_of}
use Rattle.dcc_flow.specs.Uses.{holds, AreLists, IsUsedAfter, AreUses}
use Rattle.dcc_flow.proofs.SourceLaws.{predecessor_within}
use Rattle.dcc_flow.proofs.RowLaws.{successors_within, length_successors}
use Rattle.dcc_flow.specs.Access.{block_access_of, accesses_of}
use Rattle.dcc_flow.specs.Marks.{selected}
use Rattle.dcc_live.specs.First.{Row, row_of, TellsOf, AreTold, AreLiveBits}
use Rattle.dcc_live.proofs.RowLaws.{selected_sound, selected_complete, row_first, row_writes}
use Rattle.dcc_live.proofs.WorkLaws.{in_contains, contained_map, at_place}

-- One more row is told.

pushed : {A : Type 0} (xs : List A) (y : A) (k : ℕ) (x : A) (P : Type 0) → slice_get (xs ++ y ∷ []) k ≡ Some x → (slice_get xs k ≡ Some x → k < length xs → P) → (y ≡ x → k ≡ length xs → P) → P
pushed xs y k x P at before here =
    let less = slice_get_within (xs ++ y ∷ []) k x at in
    let is = get_or_from_slice_get (xs ++ y ∷ []) k x x at in
    elim (cases_lt k (length xs)) [
      | inl inside ↦ before (slice_get-get_or xs k x inside ∙ ap Some (sym (get_or_append_left xs (y ∷ []) x k inside) ∙ is)) inside
      | inr past ↦
          let last : k ≡ length xs = omega (arith, past, less, length_push xs y) in
          here (sym (get_or_push xs y x k (sym last)) ∙ is) last
    ]

pub told_push : (places : List Loc) (rows : List Row) (used written : List (List Bool)) (row : Row) (u w : List Bool) → AreTold places rows used written → length u ≡ length places → length w ≡ length places →
    TellsOf places row.first u → TellsOf places row.writes w → AreTold places (rows ++ row ∷ []) (used ++ u ∷ []) (written ++ w ∷ [])
told_push places rows used written row u w told lu lw tu tw = record {
  used_are = longer used u told.used_are lu;
  written_are = longer written w told.written_are lw;
  tell_used = λ b r at. pushed rows row b r (TellsOf places r.first (get_or (used ++ u ∷ []) b [])) at
      (λ there inside. subst (TellsOf places r.first) (sym (get_or_append_left used (u ∷ []) [] b (omega (arith, told.used_are.count_is, inside)))) (told.tell_used b r there))
      (λ same last. subst (TellsOf places r.first) (sym (get_or_push used u [] b (told.used_are.count_is ∙ sym last))) (subst (λ (r : Row). TellsOf places r.first u) same tu));
  tell_written = λ b r at. pushed rows row b r (TellsOf places r.writes (get_or (written ++ w ∷ []) b [])) at
      (λ there inside. subst (TellsOf places r.writes) (sym (get_or_append_left written (w ∷ []) [] b (omega (arith, told.written_are.count_is, inside)))) (told.tell_written b r there))
      (λ same last. subst (TellsOf places r.writes) (sym (get_or_push written w [] b (told.written_are.count_is ∙ sym last))) (subst (λ (r : Row). TellsOf places r.writes w) same tw));
}
  where
    longer : (lists : List (List Bool)) (bits : List Bool) → AreLists (length rows) (length places) lists → length bits ≡ length places → AreLists (length (rows ++ row ∷ [])) (length places) (lists ++ bits ∷ [])
    longer lists bits are size = record {
      count_is = length_push lists bits ∙ ap (λ n. n + 1) are.count_is ∙ sym (length_push rows row);
      len_is = All-push (λ bits. length bits ≡ length places) lists bits are.len_is size;
    }

-- Edges.

pub edges_are : (graph : Graph) (a b : ℕ) → leads (successors_of graph) a b ≡ follows graph a b
edges_are graph a b = ap (λ l. is_in l b) (elim (cases_lt a (length graph.blocks)) [
  | inl inside ↦ get_or-map (λ (x : Block). targets x.exit) graph.blocks a no_block [] inside
  | inr past ↦ get_or_past (successors_of graph) a [] (omega (arith, past, length_successors graph)) ∙ sym (ap (λ (x : Block). targets x.exit) (get_or_past graph.blocks a no_block past))
])

-- an edge leads to a block of the graph
pub edge_within : (graph : Graph) → IsGraph graph → (a b : ℕ) → leads (successors_of graph) a b ≡ true → b < length graph.blocks
edge_within graph is a b e =
    let next = successors_of graph in
    let inside = predecessor_within next a b e in
    let row = All-get_or (λ row. All (λ place. place < length next) row) next a [] inside (successors_within graph is) in
    let below = All-contains (λ place. place < length next) (get_or next a []) b row (in_contains (get_or next a []) b e) in
    omega (arith, below, length_successors graph)

module _ (graph : Graph) (is : IsGraph graph) (places : List Loc) (used written answer : List (List Bool)) (told : AreTold places (map row_of (accesses_of graph)) used written)
    (uses : AreUses (successors_of graph) used written (length places) answer) where
  abbrev next : List (List ℕ)
  next = successors_of graph

  -- the row of a block
  row_at : (b : ℕ) → b < length graph.blocks → slice_get (map row_of (accesses_of graph)) b ≡ Some (row_of (block_access_of (block_in graph b)))
  row_at b inside =
      let here : b < length (accesses_of graph) = omega (arith, inside, length-map graph.blocks block_access_of) in
      let there : b < length (map row_of (accesses_of graph)) = omega (arith, here, length-map (accesses_of graph) row_of) in
      let row = row_of (block_access_of (block_in graph b)) in
      slice_get-get_or (map row_of (accesses_of graph)) b row there
      ∙ ap Some (get_or-map row_of (accesses_of graph) b (block_access_of (block_in graph b)) row here
      ∙ ap row_of (get_or-map block_access_of graph.blocks b no_block (block_access_of (block_in graph b)) inside))

  module _ (k : ℕ) (x : Loc) (at : slice_get places k ≡ Some x) where
    used_is : (b : ℕ) → b < length graph.blocks → holds used b k ≡ reads_first (block_in graph b).stmts (block_in graph b).exit x
    used_is b inside =
        let block = block_in graph b in
        told.tell_used b (row_of (block_access_of block)) (row_at b inside) k x at ∙ plain (is_among (row_of (block_access_of block)).first x) ∙ row_first block x
      where
        plain : (a : Bool) → (a || false) ≡ a
        plain true = refl
        plain false = refl

    written_is : (b : ℕ) → b < length graph.blocks → holds written b k ≡ writes (block_in graph b).stmts x
    written_is b inside =
        let block = block_in graph b in
        told.tell_written b (row_of (block_access_of block)) (row_at b inside) k x at ∙ plain (is_among (row_of (block_access_of block)).writes x) ∙ row_writes block.stmts x
      where
        plain : (a : Bool) → (a || false) ≡ a
        plain true = refl
        plain false = refl

    path_live : (between : List ℕ) (a c : ℕ) → IsPath (leads next) (λ b. holds written b k ≡ false) a between c → IsPath (follows graph) (Passes graph x) a between c × (c < length graph.blocks)
    path_live [] a c e = (sym (edges_are graph a c) ∙ e, edge_within graph is a c e)
    path_live (b ∷ bs) a c p =
        let on = path_live bs b c p.2 in
        ((sym (edges_are graph a b) ∙ p.0, sym (written_is b (edge_within graph is a b p.0)) ∙ p.1, on.0), on.1)

    path_used : (between : List ℕ) (a c : ℕ) → IsPath (follows graph) (Passes graph x) a between c → IsPath (leads next) (λ b. holds written b k ≡ false) a between c × (c < length graph.blocks)
    path_used [] a c e = let f = edges_are graph a c ∙ e in (f, edge_within graph is a c f)
    path_used (b ∷ bs) a c p =
        let f = edges_are graph a b ∙ p.0 in
        let on = path_used bs b c p.2 in
        ((f, written_is b (edge_within graph is a b f) ∙ p.1, on.0), on.1)

    to_live : (b : ℕ) → IsUsedAfter next used written b k → IsLiveAfter graph b x
    to_live b after =
        let p = path_live after.between b after.user after.path in
        record { between = after.between; reader = after.user; path = p.0; read = sym (used_is after.user p.1) ∙ after.read }

    to_used : (b : ℕ) → IsLiveAfter graph b x → IsUsedAfter next used written b k
    to_used b after =
        let p = path_used after.between b after.reader after.path in
        record { between = after.between; user = after.reader; path = p.0; read = used_is after.reader p.1 ∙ after.read }

  pub live_bits_are : AreLiveBits graph places answer
  live_bits_are = record {
    are = record { count_is = uses.lists.count_is ∙ length_successors graph; len_is = uses.lists.len_is };
    exact = λ b k x less at.
        let inside : b < length next = omega (arith, less, length_successors graph) in
        let both = uses.exact b k inside (slice_get_within places k x at) in
        (λ t. to_live k x at b (both.0 t), λ live. both.1 (to_used k x at b live));
  }

-- the reader at the end of a path is a block of the graph
reader_within : (graph : Graph) → IsGraph graph → (x : Loc) (between : List ℕ) (a c : ℕ) → IsPath (follows graph) (Passes graph x) a between c → c < length graph.blocks
reader_within graph is x [] a c e = edge_within graph is a c (edges_are graph a c ∙ e)
reader_within graph is x (b ∷ bs) a c p = reader_within graph is x bs b c p.2

-- The lists of what is selected are what is live.
pub selected_live : (graph : Graph) → IsGraph graph → (places : List Loc) (answer : List (List Bool)) → All (λ row. All (Contains places) row.first) (map row_of (accesses_of graph)) → AreLiveBits graph places answer →
    IsLive graph (map (selected places) answer)
selected_live graph is places answer tracked live = record {
  len = length-map answer (selected places) ∙ live.are.count_is;
  exact = λ b x less.
      let inside : b < length answer = omega (arith, less, live.are.count_is) in
      let list = get_or-map (selected places) answer b [] [] inside in (
        λ c.
            let one = selected_sound places (get_or answer b []) x (subst (λ l. Contains l x) list c) in
            (live.exact b one.0 x less one.1).0 one.2,
        λ after.
            let there = reader_within graph is x after.between b after.reader after.path in
            let block = block_in graph after.reader in
            let row = row_of (block_access_of block) in
            let known = contained_map row_of (accesses_of graph) (block_access_of block) (contained_map block_access_of graph.blocks block (contained graph.blocks after.reader block (slice_get-get_or graph.blocks after.reader no_block there))) in
            let all = All-contains (λ (row : Row). All (Contains places) row.first) (map row_of (accesses_of graph)) row tracked known in
            let k = at_place places x (All-contains (Contains places) row.first x all (among_contains row.first x (row_first block x ∙ after.read))) in
            subst (λ l. Contains l x) (sym list) (selected_complete places (get_or answer b []) k.0 x k.1 ((live.exact b k.0 x less k.1).1 after)),
      );
}
