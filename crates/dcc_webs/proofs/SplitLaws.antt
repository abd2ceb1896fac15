-- A graph over temporaries is the graph with other locations for those that are live.
use Rattle.std.proofs.Common.{◌≡◌, ◌≢◌, ℕ, zero, suc, ◌+◌, ◌<◌, ◌≤◌, Bool, true, false, ◌||◌, not, inl, inr, List, [], ◌∷◌, ◌++◌, length, get_or, slice_get, map, flat_map, Some, refl, sym, ap, ◌∙◌, subst, true≢false, arith, Contains, eq-eqb, ap₂, ◌&&◌}
use Rattle.std.specs.Prelude.{if◌then◌else◌, ◌⊎◌, ◌==◌, All}
use Rattle.std.specs.List.{list_any, list_all}
use Rattle.std.proofs.lemmas.Option.{slice_get_within, get_or_from_slice_get}
use Rattle.std.proofs.lemmas.Bool.{cases_lt, lt-ltb, ltb-true}
use Rattle.std.proofs.lemmas.List.{get_or-map, get_or_past, length-map, map-append, append_assoc, append-nil}
use Rattle.std.proofs.lemmas.List.Folds.{list_all-append}
use Rattle.std.proofs.lemmas.List.Elements.{All-nil, All-cons, All-append, All-contains, All-head, All-tail}
use Rattle.dcc_ir.specs.declared.syntax.Loc.{Loc}
use Rattle.dcc_ir.specs.declared.syntax.Loc.TheVariants.{Half, Flag, Cell, Temp}
use Rattle.dcc_ir.specs.Tree.{Stmt, Set, Fetch, Store, Div, Call, Dos, Exit, Block, Graph}
use Rattle.dcc_ir.specs.Use.{reads_of, exprs_of, writes_of, exit_exprs}
use Rattle.dcc_ir.specs.Demand.{tests_of}
use Rattle.dcc_ir.specs.Flow.{targets}
use Rattle.dcc_ir.specs.Location.{location_width}
use Rattle.dcc_ir.specs.Run.{no_block, is_call}
use Rattle.dcc_ir.specs.Live.{is_among, reads_first, writes, block_in, IsLive, IsLiveAfter}
use Rattle.dcc_ir.specs.Families.{IsLiveAtStart, live}
use Rattle.dcc_ir.specs.WellFormed.{is_width, is_location, is_stmt, is_exit, is_block, is_jump, jumps_after_call, all_differ, IsGraph}
use Rattle.dcc_ir.proofs.FitLaws.{both}
use Rattle.dcc_flow.proofs.FormedExprs.{and_both}
use Rattle.dcc_webs.proofs.FormedLaws.{IsWide, IsPlaced, exit_same, stmt_same, params_same}
use Rattle.dcc_webs.proofs.PlacedLaws.{Placed, stmt_reads_placed, stmt_writes_placed, exit_placed, first_placed, params_placed, all_named_are, exit_are, all_are}
use Rattle.dcc_ir.proofs.PathLaws.{decided}
use Rattle.dcc_ir.proofs.GraphLaws.{or_there}
use Rattle.dcc_ir.proofs.LocationLaws.{among_contains, contains_among, Contains-none, Contains-here, Contains-later, Contains-cases}
use Rattle.dcc_ir.proofs.FamilyLaws.{live_after, tests-read}
use Rattle.dcc_flow.specs.Access.{access_of, block_access_of}
use Rattle.dcc_flow.specs.Edges.{is_in, leads, successors_of}
use Rattle.dcc_flow.proofs.Members.{in_cases}
use Rattle.dcc_passes.specs.Renaming.{renamed_stmt, renamed_exit, param_places}
use Rattle.dcc_passes.proofs.RenamingLaws.{jumps-renamed}
use Rattle.dcc_webs.specs.Classes.{class_in, roots_below, widths_of}
use Rattle.dcc_passes.specs.Renamed.{Renaming, IsRenamedStmt, AreRenamed, IsRenamedBlock, IsRenamedStart, IsRenamed}
use Rattle.dcc_webs.specs.declared.classes.Temps.{Temps as TempsOf}
use Rattle.dcc_webs.specs.Temporaries.{renamed_block, TellsApart}
use Rattle.dcc_webs.proofs.BackLaws.{IsBack, stmt_back, exit_back, params_back}
use Rattle.dcc_webs.proofs.OriginLaws.{origin_at, back_at}
use Rattle.dcc_webs.specs.Names.{Names, no_names, is_some, with_number, all_with_numbers, all_named, without_names, at_writes, before_all, at_exit}
use Rattle.dcc_webs.specs.Walk.{Facts, AreWhole, AreFacts, no_access, live_at, begin_names, last_names, origins_before, base, all_links}
use Rattle.dcc_webs.specs.Split.{number_or, temp_by, with_reads, with_writes, AreTempsOf, stmts_over, block_over, blocks_over, graph_over}
use Rattle.dcc_webs.proofs.NameLaws.{AreOwn, own_at_exit, own_before_all, own_all_named, own_all_with, own_none, some_has, has_some, stays_all_named, among_named, among_with, left_number, at, lives_named}
use Rattle.dcc_webs.proofs.OriginLaws.{Extends, extends_reads, extends_one, extends_all, extends_last, own_begin, own_last, IsOf, origin_of, has_link, temp_at, temp_width, temp_apart, temp_linked, temp_inside}

-- a statement with its writes and then its reads replaced
pub both_replaced : (read written : Loc → Loc) (stmt : Stmt) → with_reads read (with_writes written stmt) ≡ renamed_stmt read written stmt
both_replaced read written (Set location e) = refl
both_replaced read written (Fetch location width address) = refl
both_replaced read written (Store width address e) = refl
both_replaced read written (Div location e) = refl
both_replaced read written (Call results entry arguments depth) = refl
both_replaced read written (Dos number place argument) = refl

pub all_of : {X : Type 0} (P : X → Type 0) (xs : List X) → ((x : X) → Contains xs x → P x) → All P xs
all_of P [] h = All-nil P
all_of P (x ∷ xs) h = All-cons P x xs (h x (Contains-here x xs)) (all_of P xs (λ y c. h y (Contains-later x xs y c)))

list_all_at : {X : Type 0} (p : X → Bool) (xs : List X) (k : ℕ) (d : X) → list_all p xs ≡ true → k < length xs → p (get_or xs k d) ≡ true
list_all_at p [] k d ok less = absurd (omega arith)
list_all_at p (x ∷ xs) zero d ok less = (both (p x) (list_all p xs) ok).0
list_all_at p (x ∷ xs) (suc k) d ok less = list_all_at p xs k d (both (p x) (list_all p xs) ok).1 (omega arith)

not_among : (xs : List Loc) (l : Loc) → ¬ Contains xs l → is_among xs l ≡ false
not_among xs l n = elim (decided (is_among xs l)) [ inl t ↦ absurd (n (among_contains xs l t)) | inr f ↦ f ]

pub any_number : (xs : List ℕ) (n : ℕ) → Contains xs n → list_any (λ m. m == n) xs ≡ true
any_number [] n c = absurd (Contains-none n c)
any_number (x ∷ xs) n c = Contains-cases x xs n (list_any (λ m. m == n) (x ∷ xs) ≡ true) (λ e. ap (λ b. b || list_any (λ m. m == n) xs) (eq-eqb x n e))
    (λ later. or_there (x == n) (list_any (λ m. m == n) xs) (any_number xs n later)) c

in_contains : (xs : List ℕ) (n : ℕ) → is_in xs n ≡ true → Contains xs n
in_contains [] n t = absurd (true≢false (sym t))
in_contains (x ∷ xs) n t = elim (in_cases x n xs t) [
  | inl e ↦ subst (Contains (x ∷ xs)) e (Contains-here x xs)
  | inr later ↦ Contains-later x xs n (in_contains xs n later)
]

-- what is live at the end of a block
pub live_in : (graph : Graph) (place : ℕ) (l : Loc) (to : ℕ) → Contains (targets (block_in graph place).exit) to → IsLiveAtStart graph to l → IsLiveAfter graph place l
live_in graph place l to c d = live_after graph place to l (any_number (targets (block_in graph place).exit) to c) d

-- the locations that take numbers are the origins of them
origins_with : (names : Names) (xs : List Loc) → (all_with_numbers names xs).origins ≡ names.origins ++ xs
origins_with names [] = sym (append-nil names.origins)
origins_with names (x ∷ xs) = origins_with (with_number names x) xs ∙ append_assoc names.origins (x ∷ []) xs

-- the number at the end of a block of what is live there is its place among what is live
pub exit_number : (live last : List Loc) (l : Loc) → Contains live l → (n : ℕ) × (slice_get live n ≡ Some l) × ((at_exit live last).number l ≡ Some n)
exit_number live last l c =
    let has = some_has (all_with_numbers no_names live) l (among_with no_names live l (contains_among live l c)) in
    let own = (own_all_with no_names live own_none).own l has.0 has.1 in
    (has.0, sym (ap (λ (o : List Loc). slice_get o has.0) (origins_with no_names live)) ∙ own, stays_all_named (all_with_numbers no_names live) last l has.0 has.1)

module _ (graph : Graph) (lists : List (List Loc)) (is_live : IsLive graph lists) (facts : Facts) (facts_are : AreFacts graph lists facts) (whole : AreWhole facts) (temps : TempsOf)
    (temps_are : AreTempsOf graph.bits (origins_before facts (length facts.accesses)) (all_links facts) temps) where
  abbrev T : List ℕ
  T = temps.of.items

  abbrev after : Graph
  after = graph_over T facts temps.bits.items graph

  -- the numbers before the last statements of the block at a place
  abbrev N : ℕ → List Stmt → Names
  N place rest = at (live_at facts place) (block_in graph place).exit rest

  abbrev pub name : Renaming
  name place rest = temp_by T (base facts place) (N place rest)

  count : length facts.accesses ≡ length graph.blocks
  count = ap length facts_are.0 ∙ length-map graph.blocks block_access_of

  own : (place : ℕ) (rest : List Stmt) → AreOwn (N place rest)
  own place rest = own_before_all (map access_of rest) (at_exit (live_at facts place) (flat_map reads_of (exit_exprs (block_in graph place).exit))) (own_at_exit (live_at facts place) (flat_map reads_of (exit_exprs (block_in graph place).exit)))

  begin_is : (place : ℕ) → place < length graph.blocks → begin_names facts place ≡ N place (block_in graph place).stmts
  begin_is place inside =
      let read : get_or facts.accesses place no_access ≡ block_access_of (block_in graph place) = ap (λ l. get_or l place no_access) facts_are.0 ∙ get_or-map block_access_of graph.blocks place no_block no_access inside in
      ap (λ b. before_all b.stmts (at_exit (live_at facts place) b.last)) read

  -- what lives at a place of a block has a number there
  live_named : (place : ℕ) → place < length graph.blocks → (rest : List Stmt) (l : Loc) → live graph (block_in graph place) rest l → (n : ℕ) × ((N place rest).number l ≡ Some n)
  live_named place inside rest l d = some_has (N place rest) l (lives_named (live_at facts place) (block_in graph place).exit rest l (go d))
    where
      go : live graph (block_in graph place) rest l → (reads_first rest (block_in graph place).exit l ≡ true) ⊎ ((writes rest l ≡ false) × (is_among (live_at facts place) l ≡ true))
      go (inl first) = inl first
      go (inr on) =
          let there : Contains (get_or lists place []) l = (is_live.exact place l inside).1 (live_in graph place l on.0 on.2 on.3) in
          inr (on.1, ap (λ x. is_among (get_or x place []) l) facts_are.1 ∙ contains_among (get_or lists place []) l there)

  -- the temporary of a location with a number
  temp_is : (place : ℕ) (names : Names) (l : Loc) (n : ℕ) → names.number l ≡ Some n → temp_by T (base facts place) names l ≡ Temp (temp_at facts whole graph.bits temps temps_are (base facts place + n))
  temp_is place names l n e = ap (λ o. Temp (get_or T (base facts place + number_or o) 0)) e

  -- the numbers of a block at a place of it
  module _ (place : ℕ) (inside : place < length graph.blocks) where
    abbrev block : Block
    block = block_in graph place

    is_of : (names : Names) (l : Loc) (n : ℕ) → AreOwn names → Extends names (begin_names facts place) → names.number l ≡ Some n → IsOf facts place n l
    is_of names l n own extends e = origin_of facts place n l (omega (arith, inside, count)) (extends_last facts place n l (extends n l (own.own l n e)))

    width : (names : Names) (l : Loc) → AreOwn names → Extends names (begin_names facts place) → is_some (names.number l) ≡ true
        → location_width after.bits (temp_by T (base facts place) names l) ≡ location_width graph.bits l
    width names l own extends some =
        let n = some_has names l some in
        ap (location_width after.bits) (temp_is place names l n.0 n.1) ∙ temp_width facts whole graph.bits temps temps_are (base facts place + n.0) l (is_of names l n.0 own extends n.1)

    apart : (names others : Names) (l other : Loc) (n m : ℕ) → AreOwn names → AreOwn others → Extends names (begin_names facts place) → Extends others (begin_names facts place) → names.number l ≡ Some n → others.number other ≡ Some m
        → other ≢ l → temp_by T (base facts place) names l ≢ temp_by T (base facts place) others other
    apart names others l other n m own own' extends extends' e f two same =
        let one : Temp (temp_at facts whole graph.bits temps temps_are (base facts place + n)) ≡ Temp (temp_at facts whole graph.bits temps temps_are (base facts place + m)) =
        sym (temp_is place names l n e) ∙ same ∙ temp_is place others other m f
        in
        let number : temp_at facts whole graph.bits temps temps_are (base facts place + n) ≡ temp_at facts whole graph.bits temps temps_are (base facts place + m) = cc in
        two (sym (temp_apart facts whole graph.bits temps temps_are (base facts place + n) (base facts place + m) l other (is_of names l n own extends e) (is_of others other m own' extends' f) number))

    abbrev W : Stmt → List Stmt → Names
    W stmt rest = at_writes (access_of stmt) (N place rest)

    W_own : (stmt : Stmt) (rest : List Stmt) → AreOwn (W stmt rest)
    W_own stmt rest = own_all_named (N place rest) (writes_of stmt) (own place rest)

    W_extends : (stmt : Stmt) (rest : List Stmt) → Extends (N place (stmt ∷ rest)) (begin_names facts place) → Extends (W stmt rest) (begin_names facts place)
    W_extends stmt rest extends n l e = extends n l (extends_reads (access_of stmt) (N place rest) n l e)

    rest_extends : (stmt : Stmt) (rest : List Stmt) → Extends (N place (stmt ∷ rest)) (begin_names facts place) → Extends (N place rest) (begin_names facts place)
    rest_extends stmt rest extends n l e = extends n l (extends_one (access_of stmt) (N place rest) n l e)

    written_some : (stmt : Stmt) (rest : List Stmt) (l : Loc) → Contains (writes_of stmt) l → is_some ((W stmt rest).number l) ≡ true
    written_some stmt rest l c = among_named (N place rest) (writes_of stmt) l (contains_among (writes_of stmt) l c)

    read_some : (stmt : Stmt) (rest : List Stmt) (l : Loc) → Contains (flat_map reads_of (exprs_of stmt)) l → is_some ((N place (stmt ∷ rest)).number l) ≡ true
    read_some stmt rest l c = among_named (without_names (W stmt rest) (writes_of stmt)) (flat_map reads_of (exprs_of stmt)) l (contains_among (flat_map reads_of (exprs_of stmt)) l c)

    -- statements
    stmt_renamed : (stmt : Stmt) (rest : List Stmt) → Extends (N place (stmt ∷ rest)) (begin_names facts place)
        → IsRenamedStmt (live graph) name graph after place block stmt rest (with_reads (name place (stmt ∷ rest)) (with_writes (temp_by T (base facts place) (at_writes (access_of stmt) (N place rest))) stmt))
    stmt_renamed stmt rest extends = record {
      read = name place (stmt ∷ rest);
      written = temp_by T (base facts place) (W stmt rest);
      is = both_replaced (name place (stmt ∷ rest)) (temp_by T (base facts place) (W stmt rest)) stmt;
      reads = λ l c f. refl;
      read_widths = all_of _ (flat_map reads_of (exprs_of stmt)) (λ l c. width (N place (stmt ∷ rest)) l (own place (stmt ∷ rest)) extends (read_some stmt rest l c));
      writes = record {
        taken = λ l c d. let n = live_named place inside rest l d in
            temp_is place (W stmt rest) l n.0 (stays_all_named (N place rest) (writes_of stmt) l n.0 n.1) ∙ sym (temp_is place (N place rest) l n.0 n.1);
        apart = λ l other c d two. let n = some_has (W stmt rest) l (written_some stmt rest l c) in let m = live_named place inside rest other d in
            apart (W stmt rest) (N place rest) l other n.0 m.0 (W_own stmt rest) (own place rest) (W_extends stmt rest extends) (rest_extends stmt rest extends) n.1 m.1 two;
      };
      write_widths = all_of _ (writes_of stmt) (λ l c. width (W stmt rest) l (W_own stmt rest) (W_extends stmt rest extends) (written_some stmt rest l c));
      left = λ l n d.
          let m = live_named place inside rest l d in
          temp_is place (N place (stmt ∷ rest)) l m.0 (left_number (access_of stmt) (N place rest) l m.0 (not_among (writes_of stmt) l n) m.1) ∙ sym (temp_is place (N place rest) l m.0 m.1);
    }

    stmts_renamed : (stmts : List Stmt) → Extends (N place stmts) (begin_names facts place)
        → AreRenamed (live graph) name graph after place block stmts (stmts_over T (base facts place) (at_exit (live_at facts place) (flat_map reads_of (exit_exprs block.exit))) stmts)
    stmts_renamed [] extends = tt
    stmts_renamed (stmt ∷ rest) extends = (stmt_renamed stmt rest extends, stmts_renamed rest (λ n l e. extends n l (extends_one (access_of stmt) (N place rest) n l e)))

    begin_extends : Extends (N place block.stmts) (begin_names facts place)
    begin_extends n l e = subst (λ (x : Names). slice_get x.origins n ≡ Some l) (sym (begin_is place inside)) e

    exit_extends : Extends (N place []) (begin_names facts place)
    exit_extends n l e = begin_extends n l (extends_all (map access_of block.stmts) (N place []) n l e)

    -- what is live where an edge ends has one temporary at both ends
    goes : (to : ℕ) (next : Block) (l : Loc) → Contains (targets block.exit) to → slice_get graph.blocks to ≡ Some next → live graph next next.stmts l → name to next.stmts l ≡ name place [] l
    goes to next l c f d =
        let to_in : to < length graph.blocks = slice_get_within graph.blocks to next f in
        let same : block_in graph to ≡ next = get_or_from_slice_get graph.blocks to next no_block f in
        let d' : live graph (block_in graph to) (block_in graph to).stmts l = subst (λ (b : Block). live graph b b.stmts l) (sym same) d in
        let there : Contains (get_or lists place []) l = (is_live.exact place l inside).1 (live_in graph place l to c (at_start to l d')) in
        let first = exit_number (live_at facts place) (flat_map reads_of (exit_exprs block.exit)) l (subst (λ x. Contains (get_or x place []) l) (sym facts_are.1) there) in
        let last = live_named to to_in (block_in graph to).stmts l d' in
        let begin : (begin_names facts to).number l ≡ Some last.0 = ap (λ (x : Names). x.number l) (begin_is to to_in) ∙ last.1 in
        let edge : Contains (get_or facts.preds to []) place = pred_of to to_in (any_number (targets block.exit) to c) in
        let to_in' : to < length facts.accesses = omega (arith, to_in, count) in
        let link = has_link facts place to first.0 last.0 l to_in' edge first.1 begin in
        let x_is = is_of (N place []) l first.0 (own place []) exit_extends first.2 in
        let y_is : IsOf facts to last.0 l = origin_of facts to last.0 l to_in' (extends_last facts to last.0 l ((own_begin facts to).own l last.0 begin)) in
        ap (λ (b : Block). name to b.stmts l) (sym same) ∙ temp_is to (N to (block_in graph to).stmts) l last.0 last.1
        ∙ ap Temp (sym (temp_linked facts whole graph.bits temps temps_are (base facts place + first.0) (base facts to + last.0) l l x_is y_is link)) ∙ sym (temp_is place (N place []) l first.0 first.2)
      where
        at_start : (to : ℕ) (l : Loc) → live graph (block_in graph to) (block_in graph to).stmts l → IsLiveAtStart graph to l
        at_start to l (inl read) = inl read
        at_start to l (inr on) = inr (on.1, live_in graph to l on.0 on.2 on.3)

        pred_of : (to : ℕ) → to < length graph.blocks → is_in (targets block.exit) to ≡ true → Contains (get_or facts.preds to []) place
        pred_of to to_in e =
            let edges : leads (successors_of graph) place to ≡ is_in (targets block.exit) to = ap (λ r. is_in r to) (get_or-map (λ b. targets b.exit) graph.blocks place no_block [] inside) in
            in_contains (get_or facts.preds to []) place (facts_are.2.exact place to (omega (arith, to_in, length-map graph.blocks (λ (b : Block). targets b.exit))) ∙ edges ∙ e)

    block_renamed : IsRenamedBlock (live graph) name graph after place block (block_over T (base facts place) (live_at facts place) block)
    block_renamed = record {
      at = refl;
      stmts = stmts_renamed block.stmts begin_extends;
      read = name place [];
      exit = refl;
      reads = λ l c. refl;
      read_widths = all_of _ (tests_of block.exit) (λ l c. width (N place []) l (own place []) exit_extends
          (among_named (all_with_numbers no_names (live_at facts place)) (flat_map reads_of (exit_exprs block.exit)) l (contains_among (flat_map reads_of (exit_exprs block.exit)) l (tests-read block.exit l c))));
      goes = goes;
    }

  blocks_at : (blocks : List Block) (p k : ℕ) (block new : Block) → slice_get blocks k ≡ Some block → slice_get (blocks_over T facts p blocks) k ≡ Some new → new ≡ block_over T (base facts (p + k)) (live_at facts (p + k)) block
  blocks_at [] p k block new e f = absurd (cc)
  blocks_at (b ∷ blocks) p zero block new e f =
      let same : b ≡ block = cc in
      let is : block_over T (base facts p) (live_at facts p) b ≡ new = cc in
      let at : p ≡ p + 0 = omega arith in
      sym is ∙ ap (λ q. block_over T (base facts q) (live_at facts q) b) at ∙ ap (block_over T (base facts (p + 0)) (live_at facts (p + 0))) same
  blocks_at (b ∷ blocks) p (suc k) block new e f =
      let at : suc p + k ≡ p + suc k = omega arith in
      blocks_at blocks (suc p) k block new e f ∙ ap (λ q. block_over T (base facts q) (live_at facts q) block) at

  blocks_count : (blocks : List Block) (p : ℕ) → length (blocks_over T facts p blocks) ≡ length blocks
  blocks_count [] p = refl
  blocks_count (b ∷ blocks) p = ap suc (blocks_count blocks (suc p))

  abbrev L : Names
  L = last_names facts 0

  abbrev start : Loc → Loc
  start = temp_by T 0 L

  -- what takes arguments, where there is a block
  module _ (some : 0 < length graph.blocks) where
    param_some : (l : Loc) → Contains (param_places graph.params) l → is_some (L.number l) ≡ true
    param_some l c = among_named (begin_names facts 0) facts.params l (ap (λ p. is_among p l) facts_are.3 ∙ contains_among (param_places graph.params) l c)

    start_of : (l : Loc) (n : ℕ) → L.number l ≡ Some n → IsOf facts 0 n l
    start_of l n e = origin_of facts 0 n l (omega (arith, some, count)) ((own_last facts 0).own l n e)

    start_width : (l : Loc) → is_some (L.number l) ≡ true → location_width after.bits (start l) ≡ location_width graph.bits l
    start_width l t = let n = some_has L l t in
        ap (location_width after.bits) (temp_is 0 L l n.0 n.1) ∙ temp_width facts whole graph.bits temps temps_are (base facts 0 + n.0) l (start_of l n.0 n.1)

  pub is_renamed : 0 < length graph.blocks → IsRenamed (live graph) name graph after
  is_renamed some = record {
    entry = refl;
    local = refl;
    pushed = refl;
    start = start;
    params = refl;
    param_widths = all_of _ (param_places graph.params) (λ l c. start_width some l (param_some some l c));
    first = λ block e. let same : block_in graph 0 ≡ block = get_or_from_slice_get graph.blocks 0 block no_block e in
        subst (λ (b : Block). IsRenamedStart (live graph) name graph after start b) same (record {
          writes = record {
            taken = λ l c d. let n = live_named 0 some (block_in graph 0).stmts l d in start_is l n.0 n.1;
            apart = λ l other c d two. let n = some_has L l (param_some some l c) in let m = live_named 0 some (block_in graph 0).stmts other d in
                start_apart l other n.0 m.0 n.1 m.1 two;
          };
          widths = λ l d. let n = live_named 0 some (block_in graph 0).stmts l d in
              width 0 some (N 0 (block_in graph 0).stmts) l (own 0 (block_in graph 0).stmts) (begin_extends 0 some) (has_some (N 0 (block_in graph 0).stmts) l n.0 n.1);
        });
    count = blocks_count graph.blocks 0;
    blocks = λ place block new e f.
        let inside = slice_get_within graph.blocks place block e in
        let same : block_in graph place ≡ block = get_or_from_slice_get graph.blocks place block no_block e in
        let zeroth : 0 + place ≡ place = omega arith in
        let is : new ≡ block_over T (base facts place) (live_at facts place) block = blocks_at graph.blocks 0 place block new e f ∙ ap (λ q. block_over T (base facts q) (live_at facts q) block) zeroth in
        subst (λ (b : Block). IsRenamedBlock (live graph) name graph after place block b) (sym is)
        (subst (λ (b : Block). IsRenamedBlock (live graph) name graph after place b (block_over T (base facts place) (live_at facts place) b)) same (block_renamed place inside));
  }
    where
      begun : (l : Loc) (n : ℕ) → (N 0 (block_in graph 0).stmts).number l ≡ Some n → L.number l ≡ Some n
      begun l n e = stays_all_named (begin_names facts 0) facts.params l n (ap (λ (x : Names). x.number l) (begin_is 0 some) ∙ e)

      start_is : (l : Loc) (n : ℕ) → (N 0 (block_in graph 0).stmts).number l ≡ Some n → start l ≡ name 0 (block_in graph 0).stmts l
      start_is l n e = temp_is 0 L l n (begun l n e) ∙ sym (temp_is 0 (N 0 (block_in graph 0).stmts) l n e)

      start_apart : (l other : Loc) (n m : ℕ) → L.number l ≡ Some n → (N 0 (block_in graph 0).stmts).number other ≡ Some m → other ≢ l → start l ≢ name 0 (block_in graph 0).stmts other
      start_apart l other n m e f two same =
          let one : Temp (temp_at facts whole graph.bits temps temps_are (base facts 0 + n)) ≡ Temp (temp_at facts whole graph.bits temps temps_are (base facts 0 + m)) =
          sym (temp_is 0 L l n e) ∙ same ∙ temp_is 0 (N 0 (block_in graph 0).stmts) other m f
          in
          let number : temp_at facts whole graph.bits temps temps_are (base facts 0 + n) ≡ temp_at facts whole graph.bits temps temps_are (base facts 0 + m) = cc in
          two (sym (temp_apart facts whole graph.bits temps temps_are (base facts 0 + n) (base facts 0 + m) l other (start_of some l n e) (start_of some other m (begun other m f)) number))

  -- The graph over temporaries is well formed.

  module _ (formed : IsGraph graph) where
    block_ok : (place : ℕ) → place < length graph.blocks → is_block graph.bits (length graph.blocks) (block_in graph place) ≡ true
    block_ok place inside = list_all_at (is_block graph.bits (length graph.blocks)) graph.blocks place no_block formed.blocks inside

    parts_ok : (place : ℕ) → place < length graph.blocks → (list_all (is_stmt graph.bits) (block_in graph place).stmts ≡ true) × (is_exit graph.bits (length graph.blocks) (block_in graph place).exit ≡ true)
    parts_ok place inside = both (list_all (is_stmt graph.bits) (block_in graph place).stmts) (is_exit graph.bits (length graph.blocks) (block_in graph place).exit) (block_ok place inside)

    live_placed : (place : ℕ) (l : Loc) → IsLiveAfter graph place l → is_location graph.bits l ≡ true
    live_placed place l on = elim (cases_lt on.reader (length graph.blocks)) [
      | inl inside ↦ let ok = parts_ok on.reader inside in
          first_placed graph.bits (length graph.blocks) (block_in graph on.reader).stmts (block_in graph on.reader).exit l ok.0 ok.1 on.read
      | inr past ↦ absurd (true≢false (sym on.read ∙ ap (λ (b : Block). reads_first b.stmts b.exit l) (get_or_past graph.blocks on.reader no_block past)))
    ]

    begin_placed : (place : ℕ) → place < length graph.blocks → All (Placed graph.bits) (begin_names facts place).origins
    begin_placed place inside =
        let ok = parts_ok place inside in
        let last = flat_map reads_of (exit_exprs (block_in graph place).exit) in
        let there = all_of (Placed graph.bits) (live_at facts place) (λ l c. live_placed place l ((is_live.exact place l inside).0 (subst (λ x. Contains (get_or x place []) l) facts_are.1 c))) in
        subst (λ (x : Names). All (Placed graph.bits) x.origins) (sym (begin_is place inside))
        (all_are graph.bits (block_in graph place).stmts (at_exit (live_at facts place) last) ok.0
        (exit_are (Placed graph.bits) (live_at facts place) last there (exit_placed graph.bits (length graph.blocks) (block_in graph place).exit ok.1)))

    last_placed : (place : ℕ) → place < length graph.blocks → All (Placed graph.bits) (last_names facts place).origins
    last_placed place inside = elim (decided (place == 0)) [
      | inl t ↦ subst (λ b. All (Placed graph.bits) (if b then all_named (begin_names facts place) facts.params else begin_names facts place).origins) (sym t)
          (all_named_are (Placed graph.bits) (begin_names facts place) facts.params (subst (All (Placed graph.bits)) (sym facts_are.3) (params_placed graph.bits graph.params formed.params)) (begin_placed place inside))
      | inr f ↦ subst (λ b. All (Placed graph.bits) (if b then all_named (begin_names facts place) facts.params else begin_names facts place).origins) (sym f) (begin_placed place inside)
    ]

    before_placed : (places : ℕ) → places ≤ length graph.blocks → All (Placed graph.bits) (origins_before facts places)
    before_placed zero le = All-nil (Placed graph.bits)
    before_placed (suc places) le =
        All-append (Placed graph.bits) (origins_before facts places) (last_names facts places).origins (before_placed places (omega arith)) (last_placed places (omega arith))

    width_ok : (l : Loc) → is_location graph.bits l ≡ true → is_width (location_width graph.bits l) ≡ true
    width_ok (Half r h) ok = refl
    width_ok (Flag f) ok = refl
    width_ok (Cell n h) ok = refl
    width_ok (Temp n) ok = list_all_at is_width graph.bits n 0 formed.bits (ltb-true n (length graph.bits) ok)

    abbrev all : List Loc
    all = origins_before facts (length facts.accesses)

    abbrev w : ℕ → ℕ
    w c = location_width graph.bits (get_or all c (Temp 0))

    widths_ok : (classes : List ℕ) (n : ℕ) → n ≤ length (origins_before facts (length facts.accesses))
        → list_all is_width (widths_of graph.bits (origins_before facts (length facts.accesses)) (roots_below classes n)) ≡ true
    widths_ok classes zero le = refl
    widths_ok classes (suc n) le = elim (decided (class_in classes n == n)) [
      | inl t ↦ subst (λ b. list_all is_width (widths_of graph.bits all (if b then roots_below classes n ++ n ∷ [] else roots_below classes n)) ≡ true) (sym t)
          (ap (list_all is_width) (map-append w (roots_below classes n) (n ∷ [])) ∙ list_all-append is_width (map w (roots_below classes n)) (w n ∷ [])
          ∙ ap₂ (λ a b. a && (b && true)) (widths_ok classes n (omega arith)) (width_ok (get_or all n (Temp 0)) (placed_all n (Temp 0) (omega arith))))
      | inr f ↦ subst (λ b. list_all is_width (widths_of graph.bits all (if b then roots_below classes n ++ n ∷ [] else roots_below classes n)) ≡ true) (sym f) (widths_ok classes n (omega arith))
    ]
      where
        placed_all : All (Placed graph.bits) all
        placed_all = subst (λ k. All (Placed graph.bits) (origins_before facts k)) (sym count) (before_placed (length graph.blocks) (omega arith))

    bits_ok : list_all is_width temps.bits.items ≡ true
    bits_ok = ap (list_all is_width) temps_are.temps_are.widths ∙ widths_ok temps_are.classes (length temps_are.classes) (omega (arith, temps_are.count))

    placed : (place : ℕ) (inside : place < length graph.blocks) (names : Names) (l : Loc) → AreOwn names → Extends names (begin_names facts place) → is_some (names.number l) ≡ true → is_location graph.bits l ≡ true
        → is_location after.bits (temp_by T (base facts place) names l) ≡ is_location graph.bits l
    placed place inside names l own extends some ok =
        let n = some_has names l some in
        let less = temp_inside facts whole graph.bits temps temps_are (base facts place + n.0) l (is_of place inside names l n.0 own extends n.1) in
        ap (is_location after.bits) (temp_is place names l n.0 n.1) ∙ lt-ltb (temp_at facts whole graph.bits temps temps_are (base facts place + n.0)) (length after.bits) less ∙ sym ok

    module _ (place : ℕ) (inside : place < length graph.blocks) where
      stmt_formed : (stmt : Stmt) (rest : List Stmt) → Extends (N place (stmt ∷ rest)) (begin_names facts place) → is_stmt graph.bits stmt ≡ true
          → is_stmt after.bits (with_reads (name place (stmt ∷ rest)) (with_writes (temp_by T (base facts place) (at_writes (access_of stmt) (N place rest))) stmt)) ≡ true
      stmt_formed stmt rest extends ok =
          let reads_ok = stmt_reads_placed graph.bits stmt ok in
          let writes_ok = stmt_writes_placed graph.bits stmt ok in
          let read = name place (stmt ∷ rest) in
          let written = temp_by T (base facts place) (W place inside stmt rest) in
          ap (is_stmt after.bits) (both_replaced read written stmt)
          ∙ stmt_same graph.bits after.bits read written stmt
          (all_of (IsWide graph.bits after.bits read) (flat_map reads_of (exprs_of stmt)) (λ l c. width place inside (N place (stmt ∷ rest)) l (own place (stmt ∷ rest)) extends (read_some place inside stmt rest l c)))
          (all_of (IsPlaced graph.bits after.bits read) (flat_map reads_of (exprs_of stmt)) (λ l c. placed place inside (N place (stmt ∷ rest)) l (own place (stmt ∷ rest)) extends (read_some place inside stmt rest l c)
          (All-contains (Placed graph.bits) (flat_map reads_of (exprs_of stmt)) l reads_ok c)))
          (all_of (IsWide graph.bits after.bits written) (writes_of stmt) (λ l c. width place inside (W place inside stmt rest) l (W_own place inside stmt rest) (W_extends place inside stmt rest extends) (written_some place inside stmt rest l c)))
          (all_of (IsPlaced graph.bits after.bits written) (writes_of stmt) (λ l c. placed place inside (W place inside stmt rest) l (W_own place inside stmt rest) (W_extends place inside stmt rest extends) (written_some place inside stmt rest l c)
          (All-contains (Placed graph.bits) (writes_of stmt) l writes_ok c)))
          ∙ ok

      stmts_formed : (stmts : List Stmt) → Extends (N place stmts) (begin_names facts place) → list_all (is_stmt graph.bits) stmts ≡ true
          → list_all (is_stmt after.bits) (stmts_over T (base facts place) (at_exit (live_at facts place) (flat_map reads_of (exit_exprs (block_in graph place).exit))) stmts) ≡ true
      stmts_formed [] extends ok = refl
      stmts_formed (stmt ∷ rest) extends ok =
          let parts = both (is_stmt graph.bits stmt) (list_all (is_stmt graph.bits) rest) ok in
          and_both _ _ (stmt_formed stmt rest extends parts.0) (stmts_formed rest (λ n l e. extends n l (extends_one (access_of stmt) (N place rest) n l e)) parts.1)

      block_formed : (count : ℕ) → is_block graph.bits count (block_in graph place) ≡ true → is_block after.bits count (block_over T (base facts place) (live_at facts place) (block_in graph place)) ≡ true
      block_formed count ok =
          let exit = (block_in graph place).exit in
          let parts = both (list_all (is_stmt graph.bits) (block_in graph place).stmts) (is_exit graph.bits count exit) ok in
          let reads_ok = exit_placed graph.bits count exit parts.1 in
          let some = λ (l : Loc) (c : Contains (flat_map reads_of (exit_exprs exit)) l).
          among_named (all_with_numbers no_names (live_at facts place)) (flat_map reads_of (exit_exprs exit)) l (contains_among (flat_map reads_of (exit_exprs exit)) l c)
          in
          and_both _ _ (stmts_formed (block_in graph place).stmts (begin_extends place inside) parts.0)
          (exit_same graph.bits after.bits (name place []) count exit
          (all_of (IsWide graph.bits after.bits (name place [])) (flat_map reads_of (exit_exprs exit)) (λ l c. width place inside (N place []) l (own place []) (exit_extends place inside) (some l c)))
          (all_of (IsPlaced graph.bits after.bits (name place [])) (flat_map reads_of (exit_exprs exit)) (λ l c. placed place inside (N place []) l (own place []) (exit_extends place inside) (some l c)
          (All-contains (Placed graph.bits) (flat_map reads_of (exit_exprs exit)) l reads_ok c)))
          ∙ parts.1)

    -- the blocks of the graph over temporaries
    call_same : (read written : Loc → Loc) (stmt : Stmt) → is_call (with_reads read (with_writes written stmt)) ≡ is_call stmt
    call_same read written (Set l e) = refl
    call_same read written (Fetch l w a) = refl
    call_same read written (Store w a e) = refl
    call_same read written (Div l e) = refl
    call_same read written (Call results entry arguments depth) = refl
    call_same read written (Dos number place argument) = refl

    calls_same : (b : ℕ) (names : Names) (stmts : List Stmt) → list_any is_call (stmts_over T b names stmts) ≡ list_any is_call stmts
    calls_same b names [] = refl
    calls_same b names (stmt ∷ rest) = ap₂ (λ x y. x || y) (call_same _ _ stmt) (calls_same b names rest)

    jumps_same : (b : ℕ) (names : Names) (read : Loc → Loc) (exit : Exit) (stmts : List Stmt) → jumps_after_call (stmts_over T b names stmts) (renamed_exit read exit) ≡ jumps_after_call stmts exit
    jumps_same b names read exit [] = refl
    jumps_same b names read exit (stmt ∷ rest) =
        ap (λ x. if x then not (list_any is_call (stmts_over T b names rest)) && is_jump (renamed_exit read exit) else jumps_after_call (stmts_over T b names rest) (renamed_exit read exit)) (call_same _ _ stmt)
        ∙ ap₂ (λ x y. if is_call stmt then not x && y else jumps_after_call (stmts_over T b names rest) (renamed_exit read exit)) (calls_same b names rest) (jumps-renamed read exit)
        ∙ ap (λ x. if is_call stmt then not (list_any is_call rest) && is_jump exit else x) (jumps_same b names read exit rest)

    abbrev Jumps : Block → Type 0
    Jumps b = jumps_after_call b.stmts b.exit ≡ true

    blocks_jump : (blocks : List Block) (p : ℕ) → All Jumps blocks → All Jumps (blocks_over T facts p blocks)
    blocks_jump [] p jump = All-nil Jumps
    blocks_jump (b ∷ blocks) p jump =
        let exit_names = at_exit (live_at facts p) (flat_map reads_of (exit_exprs b.exit)) in
        All-cons Jumps (block_over T (base facts p) (live_at facts p) b) (blocks_over T facts (suc p) blocks)
        (jumps_same (base facts p) exit_names (temp_by T (base facts p) exit_names) b.exit b.stmts ∙ All-head Jumps b blocks jump) (blocks_jump blocks (suc p) (All-tail Jumps b blocks jump))

    ats_same : (blocks : List Block) (p : ℕ) → map (λ b. b.at) (blocks_over T facts p blocks) ≡ map (λ b. b.at) blocks
    ats_same [] p = refl
    ats_same (b ∷ blocks) p = ap (λ l. b.at ∷ l) (ats_same blocks (suc p))

    abbrev Offset : Block → Type 0
    Offset b = b.at < 65536

    blocks_offset : (blocks : List Block) (p : ℕ) → All Offset blocks → All Offset (blocks_over T facts p blocks)
    blocks_offset [] p offset = All-nil Offset
    blocks_offset (b ∷ blocks) p offset =
        All-cons Offset (block_over T (base facts p) (live_at facts p) b) (blocks_over T facts (suc p) blocks) (All-head Offset b blocks offset) (blocks_offset blocks (suc p) (All-tail Offset b blocks offset))

    blocks_ok : (blocks : List Block) (p : ℕ) → ((k : ℕ) (b : Block) → slice_get blocks k ≡ Some b → slice_get graph.blocks (p + k) ≡ Some b)
        → list_all (is_block after.bits (length graph.blocks)) (blocks_over T facts p blocks) ≡ true
    blocks_ok [] p on = refl
    blocks_ok (b ∷ blocks) p on =
        let here : slice_get graph.blocks p ≡ Some b = ap (slice_get graph.blocks) (omega arith) ∙ on 0 b refl in
        let inside = slice_get_within graph.blocks p b here in
        let same : block_in graph p ≡ b = get_or_from_slice_get graph.blocks p b no_block here in
        and_both _ _ (subst (λ (x : Block). is_block after.bits (length graph.blocks) (block_over T (base facts p) (live_at facts p) x) ≡ true) same (block_formed p inside (length graph.blocks) (block_ok p inside)))
        (blocks_ok blocks (suc p) (λ k c e. ap (slice_get graph.blocks) (omega arith) ∙ on (suc k) c e))

    start_placed : (l : Loc) → Contains (param_places graph.params) l → is_location after.bits (temp_by T 0 (last_names facts 0) l) ≡ is_location graph.bits l
    start_placed l c =
        let some = among_named (begin_names facts 0) facts.params l (ap (λ p. is_among p l) facts_are.3 ∙ contains_among (param_places graph.params) l c) in
        let n = some_has (last_names facts 0) l (named_last some) in
        let is = origin_of facts 0 n.0 l (omega (arith, formed.begins, count)) ((own_last facts 0).own l n.0 n.1) in
        let less = temp_inside facts whole graph.bits temps temps_are (base facts 0 + n.0) l is in
        ap (is_location after.bits) (temp_is 0 (last_names facts 0) l n.0 n.1) ∙ lt-ltb (temp_at facts whole graph.bits temps temps_are (base facts 0 + n.0)) (length after.bits) less
        ∙ sym (All-contains (Placed graph.bits) (param_places graph.params) l (params_placed graph.bits graph.params formed.params) c)
      where
        named_last : is_some ((all_named (begin_names facts 0) facts.params).number l) ≡ true → is_some ((last_names facts 0).number l) ≡ true
        named_last t = t

    pub is_formed : IsGraph after
    is_formed = record {
      begins = omega (arith, formed.begins, blocks_count graph.blocks 0);
      entry = formed.entry;
      offsets = blocks_offset graph.blocks 0 formed.offsets;
      jumps = blocks_jump graph.blocks 0 formed.jumps;
      addresses = ap all_differ (ats_same graph.blocks 0) ∙ formed.addresses;
      bits = bits_ok;
      params = params_same graph.bits after.bits (temp_by T 0 (last_names facts 0)) graph.params (all_of (IsWide graph.bits after.bits start) (param_places graph.params) (λ l c. start_width formed.begins l (param_some formed.begins l c))) (all_of (IsPlaced graph.bits after.bits start) (param_places graph.params) start_placed) ∙ formed.params;
      blocks = subst (λ k. list_all (is_block after.bits k) after.blocks ≡ true) (sym (blocks_count graph.blocks 0)) (blocks_ok graph.blocks 0 (λ k b e. let zeroth : 0 + k ≡ k = omega arith in ap (slice_get graph.blocks) zeroth ∙ e));
    }

  -- The graph over temporaries tells the locations of the graph apart.

  back : Loc → Loc
  back (Temp t) = origin_at facts whole graph.bits temps temps_are t
  back l = l

  back_named : (place : ℕ) (inside : place < length graph.blocks) (names : Names) (l : Loc) → AreOwn names → Extends names (begin_names facts place) → is_some (names.number l) ≡ true → IsBack back (temp_by T (base facts place) names) l
  unfolding back
  back_named place inside names l own extends some =
      let n = some_has names l some in
      ap back (temp_is place names l n.0 n.1) ∙ back_at facts whole graph.bits temps temps_are (base facts place + n.0) l (is_of place inside names l n.0 own extends n.1)

  module _ (place : ℕ) (inside : place < length graph.blocks) where
    stmts_back : (stmts : List Stmt) → Extends (N place stmts) (begin_names facts place)
        → map (renamed_stmt back back) (stmts_over T (base facts place) (at_exit (live_at facts place) (flat_map reads_of (exit_exprs (block_in graph place).exit))) stmts) ≡ stmts
    stmts_back [] extends = refl
    stmts_back (stmt ∷ rest) extends = ap₂ (λ x y. x ∷ y)
        (stmt_back back (name place (stmt ∷ rest)) (temp_by T (base facts place) (W place inside stmt rest)) stmt
        (all_of (IsBack back (name place (stmt ∷ rest))) (flat_map reads_of (exprs_of stmt)) (λ l c. back_named place inside (N place (stmt ∷ rest)) l (own place (stmt ∷ rest)) extends (read_some place inside stmt rest l c)))
        (all_of (IsBack back (temp_by T (base facts place) (W place inside stmt rest))) (writes_of stmt) (λ l c.
        back_named place inside (W place inside stmt rest) l (W_own place inside stmt rest) (W_extends place inside stmt rest extends) (written_some place inside stmt rest l c))))
        (stmts_back rest (rest_extends place inside stmt rest extends))

    block_back : renamed_block back (block_over T (base facts place) (live_at facts place) (block_in graph place)) ≡ block_in graph place
    block_back =
        let b = block_in graph place in
        let reads = flat_map reads_of (exit_exprs b.exit) in
        ap₂ (λ (x : List Stmt) (y : Exit). record b { stmts = x; exit = y }) (stmts_back b.stmts (begin_extends place inside))
        (exit_back back (name place []) b.exit (all_of (IsBack back (name place [])) reads (λ l c. back_named place inside (N place []) l (own place []) (exit_extends place inside)
        (among_named (all_with_numbers no_names (live_at facts place)) reads l (contains_among reads l c)))))

  blocks_back : (blocks : List Block) (p : ℕ) → ((k : ℕ) (b : Block) → slice_get blocks k ≡ Some b → slice_get graph.blocks (p + k) ≡ Some b) → map (renamed_block back) (blocks_over T facts p blocks) ≡ blocks
  blocks_back [] p on = refl
  blocks_back (b ∷ blocks) p on =
      let here : slice_get graph.blocks p ≡ Some b = ap (slice_get graph.blocks) (omega arith) ∙ on 0 b refl in
      let inside = slice_get_within graph.blocks p b here in
      let same : block_in graph p ≡ b = get_or_from_slice_get graph.blocks p b no_block here in
      ap₂ (λ x y. x ∷ y) (subst (λ (x : Block). renamed_block back (block_over T (base facts p) (live_at facts p) x) ≡ x) same (block_back p inside))
      (blocks_back blocks (suc p) (λ k c e. ap (slice_get graph.blocks) (omega arith) ∙ on (suc k) c e))

  start_back : (some : 0 < length graph.blocks) (l : Loc) → Contains (param_places graph.params) l → IsBack back start l
  unfolding back
  start_back some l c =
      let n = some_has L l (param_some some l c) in
      ap back (temp_is 0 L l n.0 n.1) ∙ back_at facts whole graph.bits temps temps_are (base facts 0 + n.0) l (start_of some l n.0 n.1)

  pub tells_apart : 0 < length graph.blocks → TellsApart graph after
  tells_apart some = record {
    location = back;
    entry = refl;
    local = refl;
    pushed = refl;
    params = params_back back start graph.params (all_of (IsBack back start) (param_places graph.params) (start_back some));
    blocks = blocks_back graph.blocks 0 (λ k b e. let zeroth : 0 + k ≡ k = omega arith in ap (slice_get graph.blocks) zeroth ∙ e);
  }
