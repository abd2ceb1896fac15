-- The folded graph is at most twice as deep: what holds of the choices at each place of its blocks.
use Rattle.std.proofs.Common.{◌≡◌, ◌≢◌, ℕ, zero, suc, ◌+◌, ◌*◌, ◌<◌, ◌≤◌, Bool, true, false, ◌||◌, not, ◌⊎◌, inl, inr, List, [], ◌∷◌, length, refl, sym, ap, ◌∙◌, true≢false, flat_map, get_or, subst, eq-eqb, eqb-true, arith}
use Rattle.std.specs.Prelude.{if◌then◌else◌, ◌==◌}
use Rattle.std.specs.List.{list_all}
use Rattle.std.proofs.lemmas.List.{get_or-set_same, get_or-set_other}
use Rattle.dcc_num.specs.declared.FlagName.{FlagName}
use Rattle.dcc_ir.specs.declared.syntax.Loc.TheVariants.{Half, Flag, Cell, Temp}
use Rattle.dcc_ir.specs.declared.syntax.UnOp.TheVariants.{Not}
use Rattle.dcc_ir.specs.Tree.{Expr, Get, Unary, Stmt, Set, Fetch, Store, Div, Call, Dos, Block, Graph}
use Rattle.dcc_ir.specs.Location.{flag_number}
use Rattle.dcc_ir.specs.WellFormed.{is_expr, is_stmt, IsGraph}
use Rattle.dcc_ir.specs.Run.{no_block}
use Rattle.dcc_ir.specs.Flow.{targets}
use Rattle.dcc_ir.specs.Use.{exprs_of, writes_of, exit_exprs, block_exprs, graph_exprs}
use Rattle.dcc_ir.specs.Measure.{depth_of, deepest}
use Rattle.dcc_ir.specs.Live.{block_in, follows, is_among, reads}
use Rattle.dcc_ir.specs.Joinable.{next_exprs}
use Rattle.dcc_ir.proofs.FitLaws.{both}
use Rattle.dcc_ir.proofs.PathLaws.{decided}
use Rattle.dcc_ir.proofs.LocationLaws.{flag_same}
use Rattle.dcc_ir.specs.FlagReads.{nests, nests_flatly, all_stmts}
use Rattle.dcc_flow.specs.Order.{IsReversePostOrder}
use Rattle.dcc_flags.specs.declared.kept.Kept.{Kept}
use Rattle.dcc_flags.specs.Reaching.{Definition, Start, At, has_arm, has_result, defines, chooses, lets_through, rest_at, reads_at, Reaches, begins, defined, passes, goes, IsKept}
use Rattle.dcc_flags.specs.Reaching.IsKept.{both as two_reach}
use Rattle.dcc_flags.specs.Folding.{is_kept, Choices, choice, with_choices, stmt_with_choices, exit_with_choices, taken, goes_with, first_choice, first_choices, stmt_folded, stmts_folded, bare_stmts, bare_block, block_folded, Folding, fold_block, fold_blocks, folded_graph}
use Rattle.dcc_flow.proofs.FormedExprs.{and_both}
use Rattle.dcc_flags.proofs.MeetLaws.{by_kept}
use Rattle.dcc_flags.proofs.HoldLaws.{drop_next}
use Rattle.dcc_flags.proofs.SpotLaws.{Spot, past, choice_itself, Fine, fine_past}
use Rattle.dcc_flags.proofs.GoingLaws.{is_in, in_here, in_later, in_cases, not_in_head, Ordered, next_one, after_all, given_kept, given_new, choice_past, no_result, stmts_ok, target_below, Going, one_more, fine_given}
use Rattle.dcc_flags.proofs.WholeLaws as whole
use Rattle.dcc_flags.proofs.PartLaws.{got_is}
use Rattle.dcc_flags.proofs.FlagLaws.{stmt_writes}
use Rattle.dcc_flags.proofs.DepthLaws.{deepest_more, deepest_parts, negated_depth, AllShallow, stmt_depth, exit_depth, unread_depth, value_depth, deepest_copy, copies_more, copies_depth}
use Rattle.dcc_flags.proofs.FlatLaws.{IsFlat, small, leaf, flat_depth, flat_negated, Nests, unread, negates, chooses as chooses_own, nests_cases}

-- Definitions that are older than a place: in a block of those that are folded, or before the place in its own.

abbrev Known : List ℕ → Definition → Type 0
Known done Start = Unit {0}
Known done (At x j) = is_in done x ≡ true

abbrev Older : List ℕ → ℕ → ℕ → Definition → Type 0
Older done b k Start = Unit {0}
Older done b k (At x j) = (is_in done x ≡ true) ⊎ ((x ≡ b) × (j < k))

older_next : (done : List ℕ) (b k : ℕ) (d : Definition) → Older done b k d → Older done b (suc k) d
older_next done b k Start old = tt
older_next done b k (At x j) (inl known) = inl known
older_next done b k (At x j) (inr here) = let less = here.1 in inr (here.0, omega arith)

older_first : (done : List ℕ) (b : ℕ) (d : Definition) → Known done d → Older done b 0 d
older_first done b Start known = tt
older_first done b (At x j) known = inl known

older_known : (done : List ℕ) (b k : ℕ) (d : Definition) → Older done b k d → Known (b ∷ done) d
older_known done b k Start old = tt
older_known done b k (At x j) (inl known) = in_later b x done known
older_known done b k (At x j) (inr here) = in_here b x done (eq-eqb b x (sym here.0))

known_later : (b : ℕ) (done : List ℕ) (d : Definition) → Known done d → Known (b ∷ done) d
known_later b done Start known = tt
known_later b done (At x j) known = in_later b x done known

-- one that is older than a place does not stand there
not_here : (done : List ℕ) (b k : ℕ) → is_in done b ≡ false → (d : Definition) → Older done b k d → At b k ≢ d
not_here done b k new d old same = elim (subst (Older done b k) (sym same) old) [
  | inl known ↦ true≢false (sym known ∙ new)
  | inr here ↦ (let less = here.1 in absurd (omega arith))
]

module _ (graph : Graph) (is : IsGraph graph) (kept : Kept) (exact : (f : FlagName) → is_kept kept f ≡ false → IsKept graph f → ⊥) (n : ℕ) where
  abbrev old : List ℕ
  old = graph.bits

  abbrev none : Choices
  none = first_choices kept (length graph.bits)

  -- A definition that is older than the place reaches it. What is chosen there is flat, or a second definition reaches
  -- it.
  record Seen (Old : Definition → Type 0) (f : FlagName) (b k : ℕ) (e : Expr) : Type 0 where
    definition : Definition
    reaches : Reaches graph f definition b k
    old_enough : Old definition
    form : IsFlat n e ⊎ ((d : Definition) × Reaches graph f d b k × (definition ≢ d))

  abbrev AllSeen : (Definition → Type 0) → ℕ → ℕ → Choices → Type 0
  AllSeen Old b k c = (f : FlagName) → is_kept kept f ≡ false → Seen Old f b k (choice c f)

  read_flat : (Old : Definition → Type 0) (f : FlagName) (b k : ℕ) (e : Expr) → is_kept kept f ≡ false → Seen Old f b k e → reads_at graph f b k ≡ true → IsFlat n e
  read_flat Old f b k e no_f s read = elim s.form [
    | inl flat ↦ flat
    | inr two ↦ absurd (exact f no_f (two_reach s.reaches two.1 two.2 read))
  ]

  -- what is read at a place is shallow
  shallow : (Old : Definition → Type 0) (b k : ℕ) (w : Spot) → Fine old kept w → AllSeen Old b k w.choices → AllShallow w.choices n (next_exprs (rest_at graph b k) (block_in graph b).exit)
  shallow Old b k w fine seen g got = elim (decided (is_kept kept g)) [
    | inl kept_g ↦ (let size = ap depth_of ((fine.told g).kept_is kept_g) in omega arith)
    | inr no_g ↦ flat_depth n (choice w.choices g)
        (read_flat Old g b k (choice w.choices g) no_g (seen g no_g) (got_is g (next_exprs (rest_at graph b k) (block_in graph b).exit) ∙ got))
  ]

  -- Past a statement.

  module _ (done : List ℕ) (b : ℕ) (less : b < length graph.blocks) (new : is_in done b ≡ false) where
    -- what a definition gives
    def_form :
        (k : ℕ) (f : FlagName) (e : Expr) (rest : List Stmt) (w : Spot) → rest_at graph b k ≡ Set (Flag f) e ∷ rest → is_stmt old (Set (Flag f) e) ≡ true
        → depth_of e ≤ n → Fine old kept w → AllSeen (Older done b k) b k w.choices → Nests f e
        → IsFlat n (taken w.bits (with_choices w.choices e)).value ⊎ (has_arm f e ≡ true)
    def_form k f e rest w at ok deep fine seen (unread no_read) =
        let p = value_depth w.bits (with_choices w.choices e) in
        let q = unread_depth w.choices e no_read in
        inl (small (omega arith))
    def_form k f e rest w at ok deep fine seen (chooses_own arm) = inr arm
    def_form k f (Unary Not v (Get (Flag h))) rest w at ok deep fine seen negates =
        let width : v ≡ 1 = eqb-true v 1 (both (is_expr old (Unary Not v (Get (Flag h)))) (v == 1) ok).1 in
        elim (decided (is_kept kept h)) [
          | inl kept_h ↦ (let p = value_depth w.bits (with_choices w.choices (Unary Not v (Get (Flag h)))) in
              let q = negated_depth v (choice w.choices h) in
              let size = ap depth_of ((fine.told h).kept_is kept_h) in
              inl (small (omega arith)))
          | inr no_h ↦ (let read : reads_at graph h b k ≡ true = ap (λ l. reads (next_exprs l (block_in graph b).exit) (Flag h)) at ∙ ap (λ z. z || false) (eq-eqb (flag_number h) (flag_number h) refl) in
              let flat = read_flat (Older done b k) h b k (choice w.choices h) no_h (seen h no_h) read in
              inl (subst (λ m. IsFlat n (taken w.bits (Rattle.dcc_flags.specs.Folding.negated m (choice w.choices h))).value) (sym width) (flat_negated n w.bits (choice w.choices h) flat (omega arith) (fine.told h).width)))
        ]

    there : (x y : Bool) → y ≡ true → (x || y) ≡ true
    there true y p = refl
    there false y p = p

    def_seen :
        (k : ℕ) (f : FlagName) → is_kept kept f ≡ false → (e : Expr) (rest : List Stmt) (w : Spot) → rest_at graph b k ≡ Set (Flag f) e ∷ rest → is_stmt old (Set (Flag f) e) ≡ true
        → nests f e ≡ true → depth_of e ≤ n → Fine old kept w → AllSeen (Older done b k) b k w.choices
        → Seen (Older done b (suc k)) f b (suc k) (choice (past kept w (Set (Flag f) e)).choices f)
    def_seen k f no_f e rest w at ok nest deep fine seen =
        let s = seen f no_f in
        let value = (taken w.bits (with_choices w.choices e)).value in
        let chosen : choice (past kept w (Set (Flag f) e)).choices f ≡ value =
        ap (λ z. choice (by_kept z w.bits w.choices f (with_choices w.choices e)).choices f) no_f ∙ choice_itself w.choices f value in
        let writes : defines f (Set (Flag f) e) ≡ true = ap (λ z. z || false) (eq-eqb (flag_number f) (flag_number f) refl) in
        record {
          definition = At b k;
          reaches = defined s.reaches at writes;
          old_enough = inr (refl, omega arith);
          form = elim (def_form k f e rest w at ok deep fine seen (nests_cases f e nest)) [
            | inl flat ↦ inl (subst (IsFlat n) (sym chosen) flat)
            | inr arm ↦ inr (s.definition, passes s.reaches at (there (not (defines f (Set (Flag f) e))) (has_arm f e) arm), not_here done b k new s.definition s.old_enough)
          ];
        }

    pass_seen :
        (k : ℕ) (f : FlagName) → is_kept kept f ≡ false → (stmt : Stmt) (rest : List Stmt) (w : Spot) → rest_at graph b k ≡ stmt ∷ rest
        → defines f stmt ≡ false → AllSeen (Older done b k) b k w.choices → Seen (Older done b (suc k)) f b (suc k) (choice (past kept w stmt).choices f)
    pass_seen k f no_f stmt rest w at out seen =
        let s = seen f no_f in
        let lets : lets_through f stmt ≡ true = ap (λ z. not z || chooses f stmt) out in
        record {
          definition = s.definition;
          reaches = passes s.reaches at lets;
          old_enough = older_next done b k s.definition s.old_enough;
          form = elim s.form [
            | inl flat ↦ inl (subst (IsFlat n) (sym (choice_past kept w.bits w.choices f stmt out)) flat)
            | inr two ↦ inr (two.0, passes two.1 at lets, two.2)
          ];
        }

    -- another statement writes no flag that goes
    unwritten : (k : ℕ) (f : FlagName) (no_f : is_kept kept f ≡ false) (stmt : Stmt) (rest : List Stmt) → rest_at graph b k ≡ stmt ∷ rest → is_stmt old stmt ≡ true → goes_with kept stmt ≡ false
        → is_among (writes_of (stmt_with_choices none stmt)) (Flag f) ≡ false
    unwritten k f no_f stmt rest at ok stays =
        stmt_writes f kept no_f old none stmt (and_both (is_stmt old stmt) (not (has_result f stmt)) ok (ap not (no_result graph kept is none exact f no_f b k stmt rest less at))) stays

    -- a statement that defines a flag that goes is a Set
    sets :
        (k : ℕ) (f : FlagName) → is_kept kept f ≡ false → (stmt : Stmt) (rest : List Stmt) (w : Spot) → rest_at graph b k ≡ stmt ∷ rest
        → is_stmt old stmt ≡ true → nests_flatly stmt ≡ true → deepest (exprs_of stmt) ≤ n → Fine old kept w → AllSeen (Older done b k) b k w.choices
        → defines f stmt ≡ true → Seen (Older done b (suc k)) f b (suc k) (choice (past kept w stmt).choices f)
    sets k f no_f (Set (Flag g) e) rest w at ok nest deep fine seen def =
        let same : f ≡ g = flag_same f g (eqb-true (flag_number f) (flag_number g) (or_first (flag_number f == flag_number g) def)) in
        subst (λ h. rest_at graph b k ≡ Set (Flag h) e ∷ rest → is_stmt old (Set (Flag h) e) ≡ true → nests h e ≡ true → Seen (Older done b (suc k)) f b (suc k) (choice (past kept w (Set (Flag h) e)).choices f)) same
        (λ at' ok' nest'. def_seen k f no_f e rest w at' ok' nest' (omega arith) fine seen) at ok nest
      where
        or_first : (x : Bool) → (x || false) ≡ true → x ≡ true
        or_first true p = refl
        or_first false p = p
    sets k f no_f (Set (Half r x) e) rest w at ok nest deep fine seen def = absurd (true≢false (sym def ∙ unwritten k f no_f (Set (Half r x) e) rest at ok refl))
    sets k f no_f (Set (Cell m x) e) rest w at ok nest deep fine seen def = absurd (true≢false (sym def ∙ unwritten k f no_f (Set (Cell m x) e) rest at ok refl))
    sets k f no_f (Set (Temp m) e) rest w at ok nest deep fine seen def = absurd (true≢false (sym def ∙ unwritten k f no_f (Set (Temp m) e) rest at ok refl))
    sets k f no_f (Fetch l v a) rest w at ok nest deep fine seen def = absurd (true≢false (sym def ∙ unwritten k f no_f (Fetch l v a) rest at ok refl))
    sets k f no_f (Store v a e) rest w at ok nest deep fine seen def = absurd (true≢false (sym def ∙ unwritten k f no_f (Store v a e) rest at ok refl))
    sets k f no_f (Div l e) rest w at ok nest deep fine seen def = absurd (true≢false (sym def ∙ unwritten k f no_f (Div l e) rest at ok refl))
    sets k f no_f (Call r m a d) rest w at ok nest deep fine seen def = absurd (true≢false (sym def ∙ unwritten k f no_f (Call r m a d) rest at ok refl))
    sets k f no_f (Dos m p a) rest w at ok nest deep fine seen def = absurd (true≢false (sym def ∙ unwritten k f no_f (Dos m p a) rest at ok refl))

    seen_next :
        (k : ℕ) (stmt : Stmt) (rest : List Stmt) (w : Spot) → rest_at graph b k ≡ stmt ∷ rest → is_stmt old stmt ≡ true → nests_flatly stmt ≡ true
        → deepest (exprs_of stmt) ≤ n → Fine old kept w → AllSeen (Older done b k) b k w.choices → AllSeen (Older done b (suc k)) b (suc k) (past kept w stmt).choices
    seen_next k stmt rest w at ok nest deep fine seen f no_f = elim (decided (defines f stmt)) [
      | inl def ↦ sets k f no_f stmt rest w at ok nest deep fine seen def
      | inr out ↦ pass_seen k f no_f stmt rest w at out seen
    ]

    -- Through the block.

    one_depth : (c : Choices) (stmt : Stmt) → deepest (exprs_of (stmt_with_choices c stmt)) ≤ n + n → deepest_copy (stmt_with_choices c stmt ∷ []) ≤ n + n
    one_depth c stmt less = deepest_more (n + n) (exprs_of (stmt_with_choices c stmt)) [] less (omega arith)

    folded_depth : (w : Spot) (stmt : Stmt) → deepest (exprs_of (stmt_with_choices w.choices stmt)) ≤ n + n → deepest_copy (stmt_folded kept w.bits w.choices stmt).stmts ≤ n + n
    folded_depth w (Set (Flag g) e) less = go (is_kept kept g)
      where
        go : (z : Bool) → deepest_copy (by_kept z w.bits w.choices g (with_choices w.choices e)).stmts ≤ n + n
        go true = one_depth w.choices (Set (Flag g) e) less
        go false = copies_depth (n + n) w.bits (with_choices w.choices e) (omega arith)
    folded_depth w (Set (Half r x) e) less = one_depth w.choices (Set (Half r x) e) less
    folded_depth w (Set (Cell m x) e) less = one_depth w.choices (Set (Cell m x) e) less
    folded_depth w (Set (Temp m) e) less = one_depth w.choices (Set (Temp m) e) less
    folded_depth w (Fetch l v a) less = one_depth w.choices (Fetch l v a) less
    folded_depth w (Store v a e) less = one_depth w.choices (Store v a e) less
    folded_depth w (Div l e) less = one_depth w.choices (Div l e) less
    folded_depth w (Call r m a d) less = one_depth w.choices (Call r m a d) less
    folded_depth w (Dos m p a) less = one_depth w.choices (Dos m p a) less

    -- what stands in place of these statements is shallow, and so are the choices after them
    record Walked (w : Spot) (rest : List Stmt) : Type 0 where
      stmts : deepest_copy (stmts_folded kept w.bits w.choices rest).stmts ≤ n + n
      end : ℕ
      at_end : rest_at graph b end ≡ []
      spot : Spot
      choices_are : spot.choices ≡ (stmts_folded kept w.bits w.choices rest).choices
      fine : Fine old kept spot
      seen : AllSeen (Older done b end) b end spot.choices

    walk :
        (rest : List Stmt) (k : ℕ) (w : Spot) → rest_at graph b k ≡ rest → list_all (is_stmt old) rest ≡ true → list_all nests_flatly rest ≡ true → deepest_copy rest ≤ n
        → Fine old kept w → AllSeen (Older done b k) b k w.choices → Walked w rest
    walk [] k w at ok nest deep fine seen = record { stmts = omega arith; end = k; at_end = at; spot = w; choices_are = refl; fine = fine; seen = seen }
    walk (stmt ∷ rest) k w at ok nest deep fine seen =
        let oks = both (is_stmt old stmt) (list_all (is_stmt old) rest) ok in
        let nested = both (nests_flatly stmt) (list_all nests_flatly rest) nest in
        let deeps = deepest_parts n (exprs_of stmt) (flat_map exprs_of rest) deep in
        let reads = subst (λ l. AllShallow w.choices n (next_exprs l (block_in graph b).exit)) at (shallow (Older done b k) b k w fine seen) in
        let first = folded_depth w stmt (stmt_depth w.choices n stmt deeps.0 reads) in
        let later = walk rest (suc k) (past kept w stmt) (drop_next (block_in graph b).stmts k stmt rest at) oks.1 nested.1 deeps.1 (fine_past old kept w fine stmt oks.0)
        (seen_next k stmt rest w at oks.0 nested.0 deeps.0 fine seen) in
        record {
          stmts = copies_more (n + n) (stmt_folded kept w.bits w.choices stmt).stmts _ first later.stmts;
          end = later.end;
          at_end = later.at_end;
          spot = later.spot;
          choices_are = later.choices_are;
          fine = later.fine;
          seen = later.seen;
        }

  -- Block after block.

  module _ (nest : all_stmts nests_flatly graph ≡ true) (deep : deepest (graph_exprs graph) ≤ n) where
    nests_at : (bs : List Block) (i : ℕ) → list_all (λ b. list_all nests_flatly b.stmts) bs ≡ true → i < length bs → list_all nests_flatly (get_or bs i no_block).stmts ≡ true
    nests_at [] i all less = absurd (omega arith)
    nests_at (b ∷ bs) zero all less = (both (list_all nests_flatly b.stmts) (list_all (λ (x : Block). list_all nests_flatly x.stmts) bs) all).0
    nests_at (b ∷ bs) (suc i) all less = nests_at bs i (both (list_all nests_flatly b.stmts) (list_all (λ (x : Block). list_all nests_flatly x.stmts) bs) all).1 (omega arith)

    deep_at : (bs : List Block) (i : ℕ) → deepest (flat_map block_exprs bs) ≤ n → i < length bs → deepest (block_exprs (get_or bs i no_block)) ≤ n
    deep_at [] i all less = absurd (omega arith)
    deep_at (b ∷ bs) zero all less = (deepest_parts n (block_exprs b) (flat_map block_exprs bs) all).0
    deep_at (b ∷ bs) (suc i) all less = deep_at bs i (deepest_parts n (block_exprs b) (flat_map block_exprs bs) all).1 (omega arith)

    record Deep (done : List ℕ) (s : Folding) : Type 0 where
      given : (p t : ℕ) → is_in done p ≡ true → follows graph p t ≡ true → is_in done t ≡ false → AllSeen (Known done) t 0 (get_or s.given t none)
      blocks : (b : ℕ) → is_in done b ≡ true → deepest (block_exprs (get_or s.blocks b no_block)) ≤ n + n

    module _ (done : List ℕ) (s : Folding) (count : length s.blocks ≡ length graph.blocks) (given_count : length s.given ≡ length graph.blocks) (h : Deep done s)
        (p : ℕ) (new : is_in done p ≡ false) (less : p < length graph.blocks) (fine : Fine old kept (record { bits = s.bits; choices = get_or s.given p none }))
        (seen : AllSeen (Known done) p 0 (get_or s.given p none)) where
      abbrev w : Spot
      w = record { bits = s.bits; choices = get_or s.given p none }

      abbrev s' : Folding
      s' = fold_block kept graph none s p

      parts : (deepest_copy (block_in graph p).stmts ≤ n) × (deepest (exit_exprs (block_in graph p).exit) ≤ n)
      parts = deepest_parts n (flat_map exprs_of (block_in graph p).stmts) (exit_exprs (block_in graph p).exit) (deep_at graph.blocks p deep less)

      walked : Walked done p less new w (block_in graph p).stmts
      walked = walk done p less new (block_in graph p).stmts 0 w refl (stmts_ok graph kept is none p less) (nests_at graph.blocks p nest less) parts.0 fine
          (λ f no_f. let x = seen f no_f in record { definition = x.definition; reaches = x.reaches; old_enough = older_first done p x.definition x.old_enough; form = x.form })

      exit_shallow : deepest (exit_exprs (exit_with_choices (stmts_folded kept s.bits w.choices (block_in graph p).stmts).choices (block_in graph p).exit)) ≤ n + n
      exit_shallow =
          let reads = shallow (Older done p walked.end) p walked.end walked.spot walked.fine walked.seen in
          subst (λ c. deepest (exit_exprs (exit_with_choices c (block_in graph p).exit)) ≤ n + n) walked.choices_are
          (exit_depth walked.spot.choices n (block_in graph p).exit parts.1
          (subst (λ l. AllShallow walked.spot.choices n (next_exprs l (block_in graph p).exit)) walked.at_end reads))

      here : deepest (block_exprs (block_folded kept s.bits w.choices (block_in graph p))) ≤ n + n
      here = deepest_more (n + n) (flat_map exprs_of (stmts_folded kept s.bits w.choices (block_in graph p).stmts).stmts) _ walked.stmts exit_shallow

      -- what is chosen at the end, at a block after it
      passed_on : (t : ℕ) → follows graph p t ≡ true → AllSeen (Known (p ∷ done)) t 0 (stmts_folded kept s.bits w.choices (block_in graph p).stmts).choices
      passed_on t edge f no_f =
          let x = walked.seen f no_f in
          record {
            definition = x.definition;
            reaches = goes x.reaches walked.at_end edge;
            old_enough = older_known done p walked.end x.definition x.old_enough;
            form = elim x.form [
              | inl flat ↦ inl (subst (λ c. IsFlat n (choice c f)) walked.choices_are flat)
              | inr two ↦ inr (two.0, goes two.1 walked.at_end edge, two.2)
            ];
          }

      wider : (t : ℕ) (c : Choices) → AllSeen (Known done) t 0 c → AllSeen (Known (p ∷ done)) t 0 c
      wider t c all f no_f = let x = all f no_f in record { definition = x.definition; reaches = x.reaches; old_enough = known_later p done x.definition x.old_enough; form = x.form }

      given' : (q t : ℕ) → is_in (p ∷ done) q ≡ true → follows graph q t ≡ true → is_in (p ∷ done) t ≡ false → AllSeen (Known (p ∷ done)) t 0 (get_or s'.given t none)
      given' q t known edge out = elim (decided (follows graph p t)) [
        | inl so ↦ subst (AllSeen (Known (p ∷ done)) t 0)
            (sym (given_new _ none s.given (targets (block_in graph p).exit) t (subst (λ m. t < m) (sym given_count) (target_below graph kept is none p t less so)) so)) (passed_on t so)
        | inr not_so ↦ (
            let q_old : is_in done q ≡ true = in_cases p q done (is_in done q ≡ true) (λ same. absurd (true≢false (sym edge ∙ ap (λ y. follows graph y t) (sym (eqb-true p q same)) ∙ not_so))) (λ other later. later) known in
            subst (AllSeen (Known (p ∷ done)) t 0) (sym (given_kept _ none s.given (targets (block_in graph p).exit) t not_so))
            (wider t (get_or s.given t none) (h.given q t q_old edge (not_in_head p t done out).1)))
      ]

      deep_step : Deep (p ∷ done) s'
      deep_step = record {
        given = given';
        blocks = λ b known. in_cases p b done (deepest (block_exprs (get_or s'.blocks b no_block)) ≤ n + n)
            (λ same. subst (λ y. deepest (block_exprs (get_or s'.blocks y no_block)) ≤ n + n) (eqb-true p b same)
            (subst (λ x. deepest (block_exprs x) ≤ n + n) (sym (get_or-set_same s.blocks p _ no_block (subst (λ m. p < m) (sym count) less))) here))
            (λ other old_one. subst (λ x. deepest (block_exprs x) ≤ n + n)
            (sym (get_or-set_other s.blocks p b _ no_block (λ same. true≢false (sym (eq-eqb p b (sym same)) ∙ other)))) (h.blocks b old_one)) known;
      }

    deep_all :
        (done : List ℕ) (start : ℕ → Spot) (s : Folding) (rest : List ℕ) → Ordered graph done rest → Going graph kept is none done start s → Deep done s
        → Deep (after_all done rest) (fold_blocks kept graph none s rest)
    deep_all done start s [] o h d = d
    deep_all done start s (p ∷ rest) (next_one parent known edge new less later) h d =
        let one = one_more graph kept is none exact done start s h p parent known edge new less in
        let fine = fine_given graph kept is none exact done start s h p parent known edge new in
        deep_all (p ∷ done) one.0 (fold_block kept graph none s p) rest later one.1
        (deep_step done s h.count h.given_count d p new less fine (d.given parent p known edge new))

    -- The whole graph.

    module _ (order : List ℕ) (searched : IsReversePostOrder graph order) where
      abbrev s0 : Folding
      s0 = whole.s0 graph is order searched kept exact

      first_seen : AllSeen (Known []) 0 0 (get_or s0.given 0 none)
      first_seen f no_f =
          let fill : choice (get_or s0.given 0 none) f ≡ Get (Temp (length old)) =
          ap (λ c. choice c f) (whole.repeated graph is order searched kept exact (length graph.blocks) 0) ∙ whole.none_is graph is order searched kept exact f
          ∙ ap (λ z. if z then Get (Flag f) else Get (Temp (length old))) no_f in
          record { definition = Start; reaches = begins; old_enough = tt; form = inl (leaf (let size = ap depth_of fill in omega arith)) }

      deep_first : Deep (0 ∷ []) (fold_block kept graph none s0 0)
      deep_first =
          let nothing = whole.going_nothing graph is order searched kept exact in
          deep_step [] s0 nothing.count nothing.given_count
          (record { given = λ p t known edge out. absurd (true≢false (sym known)); blocks = λ b known. absurd (true≢false (sym known)) })
          0 refl is.begins (whole.fine_first graph is order searched kept exact) first_seen

      abbrev after : Graph
      after = folded_graph kept graph order

      deep_whole : Deep (whole.known graph is order searched kept exact) (fold_blocks kept graph none s0 order)
      deep_whole =
          let tail = whole.tail_of graph is order searched kept exact in
          subst (λ l. Deep (whole.known graph is order searched kept exact) (fold_blocks kept graph none s0 l)) (sym tail.1)
          (deep_all (0 ∷ []) (whole.start_first graph is order searched kept exact) (fold_block kept graph none s0 0) tail.0
          (whole.rest_ordered graph is order searched kept exact) (whole.going_first graph is order searched kept exact) deep_first)

      -- where no run comes
      none_shallow : (es : List Expr) → AllShallow none n es
      none_shallow es g got = go (is_kept kept g) refl
        where
          go : (z : Bool) → is_kept kept g ≡ z → depth_of (choice none g) ≤ suc n
          go z so =
              let size = ap depth_of (whole.none_is graph is order searched kept exact g) in
              let one = first_depth z in
              let same = ap (λ y. depth_of (if y then Get (Flag g) else Get (Temp (length old)))) so in
              omega arith
            where
              first_depth : (z : Bool) → depth_of (if z then Get (Flag g) else Get (Temp (length old))) ≤ 1
              first_depth true = omega arith
              first_depth false = omega arith

      bare_depth : (stmts : List Stmt) → deepest_copy stmts ≤ n → deepest_copy (bare_stmts kept none stmts) ≤ n + n
      bare_depth [] less = omega arith
      bare_depth (stmt ∷ rest) less =
          let two = deepest_parts n (exprs_of stmt) (flat_map exprs_of rest) less in
          go (goes_with kept stmt) (stmt_depth none n stmt two.0 (none_shallow (exprs_of stmt))) (bare_depth rest two.1)
        where
          go : (z : Bool) → deepest (exprs_of (stmt_with_choices none stmt)) ≤ n + n → deepest_copy (bare_stmts kept none rest) ≤ n + n
              → deepest_copy (if z then bare_stmts kept none rest else stmt_with_choices none stmt ∷ bare_stmts kept none rest) ≤ n + n
          go true first later = later
          go false first later = deepest_more (n + n) (exprs_of (stmt_with_choices none stmt)) (flat_map exprs_of (bare_stmts kept none rest)) first later

      each_depth : (b : ℕ) → b < length after.blocks → deepest (block_exprs (get_or after.blocks b no_block)) ≤ n + n
      each_depth b less = elim (decided (is_in (whole.known graph is order searched kept exact) b)) [
        | inl known ↦ deep_whole.blocks b known
        | inr out ↦ (
            let going = whole.going graph is order searched kept exact in
            let below : b < length graph.blocks = subst (λ m. b < m) going.count less in
            let two = deepest_parts n (flat_map exprs_of (block_in graph b).stmts) (exit_exprs (block_in graph b).exit) (deep_at graph.blocks b deep below) in
            subst (λ x. deepest (block_exprs x) ≤ n + n) (sym (going.bare b out))
            (deepest_more (n + n) (flat_map exprs_of (bare_stmts kept none (block_in graph b).stmts)) _ (bare_depth (block_in graph b).stmts two.0)
            (exit_depth none n (block_in graph b).exit two.1 (none_shallow (exit_exprs (block_in graph b).exit)))))
      ]

      blocks_depth : (bs : List Block) → ((i : ℕ) → i < length bs → deepest (block_exprs (get_or bs i no_block)) ≤ n + n) → deepest (flat_map block_exprs bs) ≤ n + n
      blocks_depth [] each = omega arith
      blocks_depth (b ∷ bs) each = deepest_more (n + n) (block_exprs b) (flat_map block_exprs bs) (each 0 (omega arith)) (blocks_depth bs (λ i less. each (suc i) (omega arith)))

      pub stays_shallow : deepest (graph_exprs after) ≤ 2 * n
      stays_shallow = let p = blocks_depth after.blocks each_depth in omega arith
