-- What a graph's statements and ends of blocks need of the spelling: all that they read and write has variables, and all
-- addresses that they take have places.
use Rattle.std.proofs.Common.{◌≡◌, ℕ, Bool, true, false, ◌==◌, inl, inr, List, [], ◌∷◌, length, Some, None, is_some, refl, sym, ap, ◌∙◌, subst, true≢false, Contains}
use Rattle.std.specs.Prelude.{◌&&◌, ◌||◌, nat_lt, nat_le, if◌then◌else◌, All}
use Rattle.std.specs.List.{list_all, list_any, flat_map}
use Rattle.std.proofs.lemmas.Bool.{and_parts, or_left, or_right, or_parts}
use Rattle.std.proofs.lemmas.List.Concat.{flat_map-append}
use Rattle.std.proofs.lemmas.List.Elements.{All-nil, All-cons, All-append, All-contains, All-weaker}
use Rattle.dcc_run.proofs.KeptLaws.{right_part}
use Rattle.dcc_ir.specs.declared.syntax.Loc.{Loc}
use Rattle.dcc_ir.specs.Location.{location_width, same_location}
use Rattle.dcc_ir.specs.Live.{is_among}
use Rattle.dcc_ir.specs.Tree.{Expr, Const, Get, Load, Unary, Binary, Widen, Part, Join, Choose, Address, Stmt, Set, Fetch, Store, Div, Call, Dos, Exit, Goto, If, Switch, Ret, Stop, Block, Graph}
use Rattle.dcc_ir.specs.Run.{is_call}
use Rattle.dcc_ir.specs.Use.{parts_of, got_by, addressed_by, reads_of, addresses_of, exprs_of, writes_of, exit_exprs}
use Rattle.dcc_ir.specs.WellFormed.{is_location, is_stored_width, is_division, is_expr, is_expr_of, is_dividing, is_byte_place, is_stmt, is_exit, is_block, IsGraph}
use Rattle.dcc_ir.proofs.PathLaws.{decided}
use Rattle.dcc_ir.proofs.ListLaws.{all_had, left_part, all_parts}
use Rattle.dcc_ir.proofs.LocationLaws.{location_itself, Contains-none, Contains-cases}
use Rattle.dcc_flow.specs.Mentions.{stmt_mentions, block_mentions, graph_mentions}
use Rattle.dcc_flow.proofs.FormedExprs.{reads_placed}
use Rattle.dcc_text.specs.Spelling.{Placed, Spelling}
use Rattle.dcc_text.specs.Holding.{IsWithin}
use Rattle.dcc_text.specs.Laws.{IsStep}
use Rattle.dcc_variables.specs.Variables.{is_address, has_address, stmt_has_address, block_has_address, takes_address, frame_bytes, frame_place, placed_at, graph_spelling}
use Rattle.dcc_variables.proofs.Numbers.{mentioned-among}

-- Lists.

every : {X : Type 0} (p : X → Bool) (xs : List X) → list_all p xs ≡ true → All (λ x. p x ≡ true) xs
every p [] is = All-nil (λ x. p x ≡ true)
every p (x ∷ xs) is =
    let (here, others) = and_parts (p x) (list_all p xs) is in
    All-cons (λ x. p x ≡ true) x xs here (every p xs others)

none : {X : Type 0} (p : X → Bool) (xs : List X) → list_any p xs ≡ false → All (λ x. p x ≡ false) xs
none p [] is = All-nil (λ x. p x ≡ false)
none p (x ∷ xs) is =
    let (here, others) = or_parts (p x) (list_any p xs) is in
    All-cons (λ x. p x ≡ false) x xs here (none p xs others)

alone : {X : Type 0} (P : X → Type 0) (x : X) → P x → All P (x ∷ [])
alone P x p = All-cons P x [] p (All-nil P)

contains-among : (ls : List Loc) (l : Loc) → Contains ls l → is_among ls l ≡ true
contains-among [] l c = absurd (Contains-none l c)
contains-among (x ∷ ls) l c =
    Contains-cases x ls l (is_among (x ∷ ls) l ≡ true)
    (λ e. subst (λ y. is_among (x ∷ ls) y ≡ true) e (or_left (same_location x x) (is_among ls x) (location_itself x)))
    (λ d. or_right (same_location l x) (is_among ls l) (contains-among ls l d)) c

-- What is well formed reads and writes locations of the graph.

module _ (bits : List ℕ) where
  abbrev Located : Loc → Type 0
  Located l = is_location bits l ≡ true

  abbrev AllLocated : Expr → Type 0
  AllLocated e = All Located (reads_of e)

  sized : (width : ℕ) (e : Expr) → is_expr_of bits width e ≡ true → AllLocated e
  sized width e is = reads_placed bits e (and_parts (is_expr bits e) _ is).0

  divided : (width : ℕ) (e : Expr) → is_dividing bits width e ≡ true → AllLocated e
  divided width (Binary operator w a b) is =
      let (four, second) = and_parts (is_division operator && (w == width) && is_stored_width width && is_expr_of bits width a) (is_expr_of bits width b) is in
      let (three, first) = and_parts (is_division operator && (w == width) && is_stored_width width) (is_expr_of bits width a) four in
      subst (All Located) (sym (flat_map-append got_by (parts_of a) (parts_of b)))
      (All-append Located (reads_of a) (reads_of b) (sized width a first) (sized width b second))
  divided width (Const w n) is = absurd (true≢false (sym is))
  divided width (Get l) is = absurd (true≢false (sym is))
  divided width (Load w a) is = absurd (true≢false (sym is))
  divided width (Unary operator w a) is = absurd (true≢false (sym is))
  divided width (Widen signed w a) is = absurd (true≢false (sym is))
  divided width (Part w first a) is = absurd (true≢false (sym is))
  divided width (Join high low) is = absurd (true≢false (sym is))
  divided width (Choose test a b) is = absurd (true≢false (sym is))
  divided width (Address distance) is = absurd (true≢false (sym is))

  either-sized : (a b : Bool) (e : Expr) → ((a && is_expr_of bits 8 e) || (b && is_expr_of bits 16 e)) ≡ true → AllLocated e
  either-sized true b e is = by (is_expr_of bits 8 e) refl is
    where
      by : (c : Bool) → is_expr_of bits 8 e ≡ c → (c || (b && is_expr_of bits 16 e)) ≡ true → AllLocated e
      by true same is = sized 8 e same
      by false same is = sized 16 e (and_parts b (is_expr_of bits 16 e) is).1
  either-sized false b e is = sized 16 e (and_parts b (is_expr_of bits 16 e) is).1

  exprs-located : (stmt : Stmt) → is_stmt bits stmt ≡ true → is_call stmt ≡ false → All AllLocated (exprs_of stmt)
  exprs-located (Set l e) is call = alone AllLocated e (sized (location_width bits l) e (and_parts (is_location bits l) _ is).1)
  exprs-located (Fetch l width address) is call =
      alone AllLocated address (sized 16 address (and_parts (is_location bits l && is_stored_width width && (location_width bits l == width)) _ is).1)
  exprs-located (Store width address e) is call =
      let (two, second) = and_parts (is_stored_width width && is_expr_of bits 16 address) (is_expr_of bits width e) is in
      All-cons AllLocated address (e ∷ []) (sized 16 address (and_parts (is_stored_width width) _ two).1) (alone AllLocated e (sized width e second))
  exprs-located (Div l e) is call = alone AllLocated e (divided (location_width bits l) e (and_parts (is_location bits l) _ is).1)
  exprs-located (Call results entry arguments depth) is call = absurd (true≢false call)
  exprs-located (Dos number None (Some e)) is call = alone AllLocated e (either-sized (number == 2 || number == 76) (number == 9) e is)
  exprs-located (Dos number (Some l) (Some e)) is call = absurd (true≢false (sym is))
  exprs-located (Dos number None None) is call = All-nil AllLocated
  exprs-located (Dos number (Some l) None) is call = All-nil AllLocated

  writes-located : (stmt : Stmt) → is_stmt bits stmt ≡ true → is_call stmt ≡ false → All Located (writes_of stmt)
  writes-located (Set l e) is call = alone Located l (and_parts (is_location bits l) _ is).0
  writes-located (Fetch l width address) is call =
      let (three, last) = and_parts (is_location bits l && is_stored_width width && (location_width bits l == width)) (is_expr_of bits 16 address) is in
      let (two, same) = and_parts (is_location bits l && is_stored_width width) (location_width bits l == width) three in
      alone Located l (and_parts (is_location bits l) _ two).0
  writes-located (Store width address e) is call = All-nil Located
  writes-located (Div l e) is call = alone Located l (and_parts (is_location bits l) _ is).0
  writes-located (Call results entry arguments depth) is call = absurd (true≢false call)
  writes-located (Dos number None (Some e)) is call = All-nil Located
  writes-located (Dos number (Some l) (Some e)) is call = absurd (true≢false (sym is))
  writes-located (Dos number None None) is call = All-nil Located
  writes-located (Dos number (Some l) None) is call =
      alone Located l (and_parts (is_location bits l) _ (and_parts (number == 1 || number == 8) (is_byte_place bits (Some l)) is).1).0

  exit-located : (count : ℕ) (exit : Exit) → is_exit bits count exit ≡ true → All AllLocated (exit_exprs exit)
  exit-located count (Goto place) is = All-nil AllLocated
  exit-located count (If test one other) is =
      let (two, last) = and_parts (is_expr_of bits 1 test && nat_lt one count) (nat_lt other count) is in
      alone AllLocated test (sized 1 test (and_parts (is_expr_of bits 1 test) _ two).0)
  exit-located count (Switch e places) is =
      let (two, last) = and_parts (is_expr_of bits 16 e && nat_le (length places) 65536) (list_all (λ place. nat_lt place count) places) is in
      alone AllLocated e (sized 16 e (and_parts (is_expr_of bits 16 e) _ two).0)
  exit-located count (Ret values) is =
      All-weaker (λ e. is_expr bits e ≡ true) AllLocated (λ e formed. reads_placed bits e formed) values (every (is_expr bits) values is)
  exit-located count Stop is = All-nil AllLocated

-- Addresses.

no-address : (es : List Expr) → list_any (is_address None) es ≡ false → flat_map addressed_by es ≡ []
no-address [] is = refl
no-address (Const width n ∷ es) is = no-address es is
no-address (Get l ∷ es) is = no-address es is
no-address (Load width a ∷ es) is = no-address es is
no-address (Unary operator width a ∷ es) is = no-address es is
no-address (Binary operator width a b ∷ es) is = no-address es is
no-address (Widen signed width a ∷ es) is = no-address es is
no-address (Part width first a ∷ es) is = no-address es is
no-address (Join high low ∷ es) is = no-address es is
no-address (Choose test a b ∷ es) is = no-address es is
no-address (Address distance ∷ es) is = absurd (true≢false is)

-- a graph without bytes in memory takes no address
frame-none : (g : Graph) → (frame_bytes None g == 0) ≡ true → takes_address None g ≡ false
frame-none g is = by (g.local == 0) refl (takes_address None g) is
  where
    by : (zero : Bool) → (g.local == 0) ≡ zero → (taken : Bool) → ((if zero then (if taken then 1 else 0) else g.local) == 0) ≡ true → taken ≡ false
    by true e true is = absurd (true≢false (sym is))
    by true e false is = refl
    by false e taken is = absurd (true≢false (sym is ∙ e))

module _ (g : Graph) (formed : IsGraph g) (no_calls : All (λ b. All (λ stmt. is_call stmt ≡ false) b.stmts) g.blocks) where
  abbrev s : Spelling
  s = graph_spelling g

  abbrev pub Named : Loc → Type 0
  Named l = (graph_spelling g).named l ≡ true

  abbrev Mentioned : Loc → Type 0
  Mentioned l = is_among (graph_mentions g) l ≡ true

  named : (ls : List Loc) → All Mentioned ls → All (Located g.bits) ls → All Named ls
  named ls mentioned located = all_had Named ls (λ l c. mentioned-among g l (All-contains (Located g.bits) ls l located c) (All-contains Mentioned ls l mentioned c))

  blocks-mentioned : All (λ b. All Mentioned (block_mentions b)) g.blocks
  blocks-mentioned = all_parts Mentioned block_mentions g.blocks (all_had Mentioned (graph_mentions g) (contains-among (graph_mentions g)))

  -- the places of addresses
  abbrev HasPlaces : Expr → Type 0
  HasPlaces e = All (λ distance. is_some (placed_at (frame_bytes None g) distance) ≡ true) (addresses_of e)

  placed-some : (e : Expr) → (frame_bytes None g == 0) ≡ false → HasPlaces e
  placed-some e some =
      all_had (λ distance. is_some (placed_at (frame_bytes None g) distance) ≡ true) (addresses_of e)
      (λ distance c. ap (λ (b : Bool). is_some {T = Placed} (if b then None else Some (frame_place (frame_bytes None g) distance))) some)

  placed-none : (e : Expr) → has_address None e ≡ false → HasPlaces e
  placed-none e is = subst (All (λ distance. is_some (placed_at (frame_bytes None g) distance) ≡ true)) (sym (no-address (parts_of e) is)) (All-nil (λ distance. is_some (placed_at (frame_bytes None g) distance) ≡ true))

  module _ (b : Block) (inside : Contains g.blocks b) where
    block-formed : is_block g.bits (length g.blocks) b ≡ true
    block-formed = All-contains (λ x. is_block g.bits (length g.blocks) x ≡ true) g.blocks b (every (is_block g.bits (length g.blocks)) g.blocks formed.blocks) inside

    mentioned : All Mentioned (block_mentions b)
    mentioned = All-contains (λ x. All Mentioned (block_mentions x)) g.blocks b blocks-mentioned inside

    stmts-mentioned : All (λ stmt. All Mentioned (stmt_mentions stmt)) b.stmts
    stmts-mentioned = all_parts Mentioned stmt_mentions b.stmts (left_part Mentioned (flat_map stmt_mentions b.stmts) (flat_map reads_of (exit_exprs b.exit)) mentioned)

    exit-mentioned : All (λ e. All Mentioned (reads_of e)) (exit_exprs b.exit)
    exit-mentioned = all_parts Mentioned reads_of (exit_exprs b.exit) (right_part Mentioned (flat_map stmt_mentions b.stmts) (flat_map reads_of (exit_exprs b.exit)) mentioned)

    block-no-address : (frame_bytes None g == 0) ≡ true → block_has_address None b ≡ false
    block-no-address zero = All-contains (λ x. block_has_address None x ≡ false) g.blocks b (none (block_has_address None) g.blocks (frame-none g zero)) inside

    abbrev ReadsNamed : Expr → Type 0
    ReadsNamed e = All Named (reads_of e)

    -- the end of the block

    pub exit-reads : All (λ e. All (λ l. (graph_spelling g).named l ≡ true) (reads_of e)) (exit_exprs b.exit)
    exit-reads = all_had ReadsNamed (exit_exprs b.exit) (λ e c.
        named (reads_of e) (All-contains (λ x. All Mentioned (reads_of x)) (exit_exprs b.exit) e exit-mentioned c)
        (All-contains (AllLocated g.bits) (exit_exprs b.exit) e (exit-located g.bits (length g.blocks) b.exit (and_parts (list_all (is_stmt g.bits) b.stmts) _ block-formed).1) c))

    exit-places : All HasPlaces (exit_exprs b.exit)
    exit-places = elim (decided (frame_bytes None g == 0)) [
      | inl zero ↦
          let no = (or_parts (list_any (stmt_has_address None) b.stmts) (list_any (has_address None) (exit_exprs b.exit)) (block-no-address zero)).1 in
          All-weaker (λ e. has_address None e ≡ false) HasPlaces (λ e is. placed-none e is) (exit_exprs b.exit) (none (has_address None) (exit_exprs b.exit) no)
      | inr some ↦ all_had HasPlaces (exit_exprs b.exit) (λ e c. placed-some e some)
    ]

    pub exit-within : All (IsWithin (graph_spelling g) (λ l. (graph_spelling g).named l ≡ true)) (exit_exprs b.exit)
    exit-within = all_had (IsWithin s Named) (exit_exprs b.exit) (λ e c. record {
      reads = All-contains ReadsNamed (exit_exprs b.exit) e exit-reads c;
      addresses = All-contains HasPlaces (exit_exprs b.exit) e exit-places c;
    })

    -- a statement of the block
    module _ (stmt : Stmt) (there : Contains b.stmts stmt) where
      stmt-formed : is_stmt g.bits stmt ≡ true
      stmt-formed = All-contains (λ x. is_stmt g.bits x ≡ true) b.stmts stmt (every (is_stmt g.bits) b.stmts (and_parts (list_all (is_stmt g.bits) b.stmts) _ block-formed).0) there

      stmt-no-call : is_call stmt ≡ false
      stmt-no-call =
          All-contains (λ x. is_call x ≡ false) b.stmts stmt
          (All-contains (λ (x : Block). All (λ y. is_call y ≡ false) x.stmts) g.blocks b no_calls inside) there

      own-mentioned : All Mentioned (stmt_mentions stmt)
      own-mentioned = All-contains (λ x. All Mentioned (stmt_mentions x)) b.stmts stmt stmts-mentioned there

      pub stmt-reads : All (λ e. All (λ l. (graph_spelling g).named l ≡ true) (reads_of e)) (exprs_of stmt)
      stmt-reads =
          let reads = all_parts Mentioned reads_of (exprs_of stmt) (left_part Mentioned (flat_map reads_of (exprs_of stmt)) (writes_of stmt) own-mentioned) in
          all_had ReadsNamed (exprs_of stmt) (λ e c.
          named (reads_of e) (All-contains (λ x. All Mentioned (reads_of x)) (exprs_of stmt) e reads c)
          (All-contains (AllLocated g.bits) (exprs_of stmt) e (exprs-located g.bits stmt stmt-formed stmt-no-call) c))

      pub stmt-writes : All (λ l. (graph_spelling g).named l ≡ true) (writes_of stmt)
      stmt-writes =
          named (writes_of stmt) (right_part Mentioned (flat_map reads_of (exprs_of stmt)) (writes_of stmt) own-mentioned)
          (writes-located g.bits stmt stmt-formed stmt-no-call)

      stmt-places : All HasPlaces (exprs_of stmt)
      stmt-places = elim (decided (frame_bytes None g == 0)) [
        | inl zero ↦
            let no = (or_parts (list_any (stmt_has_address None) b.stmts) (list_any (has_address None) (exit_exprs b.exit)) (block-no-address zero)).0 in
            let own = All-contains (λ x. stmt_has_address None x ≡ false) b.stmts stmt (none (stmt_has_address None) b.stmts no) there in
            All-weaker (λ e. has_address None e ≡ false) HasPlaces (λ e is. placed-none e is) (exprs_of stmt) (none (has_address None) (exprs_of stmt) own)
        | inr some ↦ all_had HasPlaces (exprs_of stmt) (λ e c. placed-some e some)
      ]

      pub stmt-step : IsStep (graph_spelling g) (λ l. (graph_spelling g).named l ≡ true) (λ l. (graph_spelling g).named l ≡ true) stmt
      stmt-step = record {
        formed = stmt-formed;
        no_call = stmt-no-call;
        within = all_had (IsWithin s Named) (exprs_of stmt) (λ e c. record {
          reads = All-contains ReadsNamed (exprs_of stmt) e stmt-reads c;
          addresses = All-contains HasPlaces (exprs_of stmt) e stmt-places c;
        });
        written = stmt-writes;
        named = λ l is. is;
        left = λ l is. inr is;
      }
