-- What is prepared takes only addresses that pass a test, where what is lifted does, but for statements that set
-- temporaries to sums of the frame; and it loads, fetches and stores by halves of registers and of cells alone.
use Rattle.std.proofs.Common.{◌≡◌, ℕ, Bool, true, false, ◌&&◌, ◌||◌, inl, inr, List, [], ◌∷◌, ◌++◌, map, flat_map, Option, Some, None, refl, sym, ap, ◌∙◌, subst, true≢false}
use Rattle.std.specs.Prelude.{All, not, if◌then◌else◌}
use Rattle.std.specs.List.{AllZip, list_all, list_any}
use Rattle.std.proofs.lemmas.Bool.{and_parts, or_cases, or_left, or_right, or_from}
use Rattle.std.proofs.lemmas.List.Concat.{flat_map-append}
use Rattle.std.proofs.lemmas.List.Elements.{All-nil, All-cons, All-head, All-tail, All-append, All-weaker}
use Rattle.std.proofs.lemmas.List.Folds.{list_all-append}
use Rattle.dcc_run.proofs.KeptLaws.{right_part}
use Rattle.dcc_num.specs.declared.Reg.{Reg}
use Rattle.dcc_num.specs.declared.Reg.TheVariants.{Ax, Dx}
use Rattle.dcc_num.specs.declared.Half.TheVariants.{Low, High}
use Rattle.dcc_ir.specs.declared.syntax.BinOp.TheVariants.{Add}
use Rattle.dcc_ir.specs.declared.syntax.Loc.{Loc}
use Rattle.dcc_ir.specs.declared.syntax.Loc.TheVariants.{Half, Temp}
use Rattle.dcc_ir.specs.Families.{Family, IsWithout, done, stays, goes, IsBlockWithout}
use Rattle.dcc_ir.specs.Live.{is_among}
use Rattle.dcc_ir.specs.Tree.{Expr, Const, Get, Load, Unary, Binary, Widen, Part, Join, Choose, Address, Stmt, Set, Fetch, Store, Div, Call, Dos, Exit, Goto, If, Switch, Ret, Stop, Block, Graph}
use Rattle.dcc_ir.specs.Use.{parts_of, addressed_by, addresses_of, got_by, exprs_of, exit_exprs, block_exprs, graph_exprs}
use Rattle.dcc_ir.proofs.ListLaws.{left_part}
use Rattle.dcc_ir.specs.Trimmed.{Trim, trim_stmt, trim_block, trim_graph}
use Rattle.dcc_flags.specs.Accesses.{loads_by_halves, accessed, accesses_by_halves, block_by_halves}
use Rattle.dcc_flags.specs.Kinds.{kind_of, is_frame_sum, takes_frame_sum, parts_pass, other_parts, KindsStay}
use Rattle.dcc_signatures.specs.declared.packing.Fresh.{Fresh}
use Rattle.dcc_signatures.specs.declared.packing.Packing.TheVariants.{Apart, Word, Double}
use Rattle.dcc_signatures.specs.Packed.{are_halves, in_front, two_or_one, merged, word_of, one_argument, packing_of}
use Rattle.dcc_signatures.specs.Packed.{given_or_zero, given_word, double_of, one_value, taking_part, taking_parts}
use Rattle.dcc_signatures.specs.Packed.{pack_stmt, pack_exit, pack_block, fresh_after, pack_graph}
use Rattle.dcc_variables.specs.Variables.{is_told_from, is_address, has_address, stmt_has_address, block_has_address, takes_address}
use Rattle.dcc_pipe.specs.Simplified.{IsSimplifiedGraph}
use Rattle.dcc_pipe.proofs.GraphAddresses.{block_told, blocks_told}
use Rattle.dcc_pipe.proofs.OperationAddresses.{passes, stmt_passes, stmt_told, all_told}
use Rattle.dcc_pipe.proofs.TrimmedLaws.{kept-all, exit-parts}

module _ (test : ℕ → Bool) where
  abbrev pub Passes : Expr → Type 0
  Passes e = passes test e ≡ true

  pub each-passes : (es : List Expr) → list_all (passes test) es ≡ true → All Passes es
  each-passes [] is = All-nil Passes
  each-passes (e ∷ es) is =
      let parts = and_parts (passes test e) (list_all (passes test) es) is in
      All-cons Passes e es parts.0 (each-passes es parts.1)

  -- What passes together is one value.

  both : (a b : Bool) → a ≡ true → b ≡ true → (a && b) ≡ true
  both true b e f = f
  both false b e f = e

  join-passes : (high low : Expr) → Passes high → Passes low → Passes (Join high low)
  join-passes high low one other =
      let p = and_parts (list_all test (addresses_of high)) (loads_by_halves high) one in
      let q = and_parts (list_all test (addresses_of low)) (loads_by_halves low) other in
      both (list_all test (flat_map addressed_by (parts_of high ++ parts_of low))) (loads_by_halves high && loads_by_halves low)
      (ap (list_all test) (flat_map-append addressed_by (parts_of high) (parts_of low))
      ∙ list_all-append test (addresses_of high) (addresses_of low)
      ∙ both (list_all test (addresses_of high)) (list_all test (addresses_of low)) p.0 q.0)
      (both (loads_by_halves high) (loads_by_halves low) p.1 q.1)

  argument-passes : (a b : Expr) (es : List Expr) → Passes a → Passes b → All Passes es
      → All Passes (two_or_one a b es (one_argument a b))
  argument-passes (Get low) (Get high) es one other all = by (are_halves low high)
    where
      by : (b : Bool) → All Passes (two_or_one (Get low) (Get high) es (if b then Some (word_of low high) else None))
      by true = All-cons Passes (word_of low high) es refl all
      by false = All-cons Passes (Get low) (Get high ∷ es) refl (All-cons Passes (Get high) es refl all)
  argument-passes a b es one other all = All-cons Passes a (b ∷ es) one (All-cons Passes b es other all)

  merged-pass : (es : List Expr) → All Passes es → All Passes (merged one_argument es)
  merged-pass [] all = all
  merged-pass (e ∷ es) all =
      in-front (merged one_argument es) (merged-pass es (All-tail Passes e es all)) (All-head Passes e es all)
    where
      in-front : (rest : List Expr) → All Passes rest → Passes e → All Passes (in_front one_argument e rest)
      in-front [] all here = All-cons Passes e [] here all
      in-front (b ∷ rest) all here = argument-passes e b rest here (All-head Passes b rest all) (All-tail Passes b rest all)

  zero-passes : (given : List Loc) (l : Loc) → Passes (given_or_zero given l)
  zero-passes given l = by (is_among given l)
    where
      by : (b : Bool) → Passes (if b then Get l else Const 8 0)
      by true = refl
      by false = refl

  given-passes : (given : List Loc) (r : Reg) → Passes (given_word given r)
  given-passes given r =
      join-passes (given_or_zero given (Half r High)) (given_or_zero given (Half r Low)) (zero-passes given (Half r High))
      (zero-passes given (Half r Low))

  value-passes : (given : List Loc) (values : List Expr) → All Passes values → All Passes (one_value given values)
  value-passes given values all =
      elim (packing_of given) as (λ packing. All Passes (elim packing [
        | Apart ↦ values
        | Word low high ↦ word_of low high ∷ []
        | Double ↦ double_of given ∷ []
      ])) [
        | Apart ↦ all
        | Word low high ↦ All-cons Passes (word_of low high) [] refl (All-nil Passes)
        | Double ↦
            All-cons Passes (double_of given) []
            (join-passes (given_word given Dx) (given_word given Ax) (given-passes given Dx) (given-passes given Ax)) (All-nil Passes)
      ]

  each-taken : (temporary : ℕ) (double : Bool) (ls : List Loc)
      → All Passes (flat_map accessed (map (taking_part temporary double) ls))
  each-taken temporary double [] = All-nil Passes
  each-taken temporary double (l ∷ ls) = All-cons Passes _ _ refl (each-taken temporary double ls)

  parts-taken : (fresh : Fresh) (results : List Loc) → All Passes (flat_map accessed (taking_parts fresh results))
  parts-taken fresh results =
      elim (packing_of results) as (λ packing. All Passes (flat_map accessed (elim packing [
        | Apart ↦ []
        | Word low high ↦ map (taking_part fresh.word false) results
        | Double ↦ map (taking_part fresh.double true) results
      ]))) [
        | Apart ↦ All-nil Passes
        | Word low high ↦ each-taken fresh.word false results
        | Double ↦ each-taken fresh.double true results
      ]

  exit-packed : (exit : Exit) → All Passes (exit_exprs exit) → All Passes (exit_exprs (pack_exit exit))
  exit-packed (Ret values) all = value-passes (flat_map got_by values) values all
  exit-packed (Goto next) all = all
  exit-packed (If a one other) all = all
  exit-packed (Switch e places) all = all
  exit-packed Stop all = all

  -- Statements.

  all-passes : (es : List Expr) → All Passes es → list_all (passes test) es ≡ true
  all-passes [] all = refl
  all-passes (e ∷ es) all =
      both (passes test e) (list_all (passes test) es) (All-head Passes e es all) (all-passes es (All-tail Passes e es all))

  module _ (sums : Bool) where
    abbrev pub Told : Stmt → Type 0
    Told stmt = stmt_told test sums stmt ≡ true

    -- a block and a graph of such statements
    pub record IsTold (b : Block) : Type 0 where
      pub stmts : All Told b.stmts
      pub exit : All Passes (exit_exprs b.exit)

    abbrev pub AllTold : Graph → Type 0
    AllTold g = All IsTold g.blocks

    -- statements that take no sum pass
    told-passes : (stmt : Stmt) → (sums && takes_frame_sum stmt) ≡ false → Told stmt → All Passes (accessed stmt)
    told-passes stmt none told = elim (or_cases (stmt_passes test stmt) (sums && takes_frame_sum stmt) told) [
      | inl pass ↦ each-passes (accessed stmt) pass
      | inr takes ↦ absurd (true≢false (sym takes ∙ none))
    ]

    passes-told : (stmt : Stmt) → All Passes (accessed stmt) → Told stmt
    passes-told stmt all =
        or_left (stmt_passes test stmt) (sums && takes_frame_sum stmt) (all-passes (accessed stmt) all)

    each-told : (stmts : List Stmt) → All Passes (flat_map accessed stmts) → All Told stmts
    each-told [] all = All-nil Told
    each-told (stmt ∷ stmts) all =
        All-cons Told stmt stmts (passes-told stmt (left_part Passes (accessed stmt) (flat_map accessed stmts) all))
        (each-told stmts (right_part Passes (accessed stmt) (flat_map accessed stmts) all))

    no-sum : (b : Bool) → (b && false) ≡ false
    no-sum true = refl
    no-sum false = refl

    -- From tests of blocks.

    stmts-told : (stmts : List Stmt) → all_told test sums stmts ≡ true → All Told stmts
    stmts-told [] is = All-nil Told
    stmts-told (stmt ∷ stmts) is =
        let parts = and_parts (stmt_told test sums stmt) (all_told test sums stmts) is in
        All-cons Told stmt stmts parts.0 (stmts-told stmts parts.1)

    pub blocks-all : (blocks : List Block) → blocks_told test sums blocks ≡ true → All IsTold blocks
    blocks-all [] is = All-nil IsTold
    blocks-all (b ∷ blocks) is =
        let parts = and_parts (block_told test sums b) (blocks_told test sums blocks) is in
        let here = and_parts (all_told test sums b.stmts) (list_all (passes test) (exit_exprs b.exit)) parts.0 in
        All-cons IsTold b blocks
        (record { stmts = stmts-told b.stmts here.0; exit = each-passes (exit_exprs b.exit) here.1 })
        (blocks-all blocks parts.1)

    -- blocks that are changed one by one
    changed : (f : Block → Block) → ((b : Block) → IsTold b → IsTold (f b)) → (blocks : List Block) → All IsTold blocks
        → All IsTold (map f blocks)
    changed f to [] all = All-nil IsTold
    changed f to (b ∷ blocks) all =
        All-cons IsTold (f b) (map f blocks) (to b (All-head IsTold b blocks all))
        (changed f to blocks (All-tail IsTold b blocks all))

    -- Arguments and values given back that go.

    stmt-trimmed : (trim : Trim) (stmt : Stmt) → Told stmt → Told (trim_stmt trim stmt)
    stmt-trimmed trim (Call results entry arguments depth) told =
        passes-told (trim_stmt trim (Call results entry arguments depth))
        (kept-all Passes (trim.takes entry) arguments
        (told-passes (Call results entry arguments depth) (no-sum sums) told))
    stmt-trimmed trim (Set location e) told = told
    stmt-trimmed trim (Fetch location width address) told = told
    stmt-trimmed trim (Store width address e) told = told
    stmt-trimmed trim (Div location e) told = told
    stmt-trimmed trim (Dos number place argument) told = told

    stmts-trimmed : (trim : Trim) (stmts : List Stmt) → All Told stmts → All Told (map (trim_stmt trim) stmts)
    stmts-trimmed trim [] all = All-nil Told
    stmts-trimmed trim (stmt ∷ stmts) all =
        All-cons Told (trim_stmt trim stmt) (map (trim_stmt trim) stmts)
        (stmt-trimmed trim stmt (All-head Told stmt stmts all)) (stmts-trimmed trim stmts (All-tail Told stmt stmts all))

    pub trimmed-told : (trim : Trim) (g : Graph) → AllTold g → AllTold (trim_graph trim g)
    trimmed-told trim g =
        changed (trim_block trim g.entry)
        (λ b is. record {
          stmts = stmts-trimmed trim b.stmts is.stmts;
          exit = exit-parts trim Passes g.entry b.exit is.exit;
        }) g.blocks

    -- What passes together.

    one-told : (stmt : Stmt) → Told stmt → All Told (stmt ∷ [])
    one-told stmt told = All-cons Told stmt [] told (All-nil Told)

    stmt-packed : (fresh : Fresh) (stmt : Stmt) → Told stmt → All Told (pack_stmt fresh stmt)
    stmt-packed fresh (Call results entry arguments depth) told =
        each-told (pack_stmt fresh (Call results entry arguments depth))
        (All-append Passes (merged one_argument arguments) (flat_map accessed (taking_parts fresh results))
        (merged-pass arguments (told-passes (Call results entry arguments depth) (no-sum sums) told))
        (parts-taken fresh results))
    stmt-packed fresh (Set location e) told = one-told (Set location e) told
    stmt-packed fresh (Fetch location width address) told = one-told (Fetch location width address) told
    stmt-packed fresh (Store width address e) told = one-told (Store width address e) told
    stmt-packed fresh (Div location e) told = one-told (Div location e) told
    stmt-packed fresh (Dos number place argument) told = one-told (Dos number place argument) told

    stmts-packed : (fresh : Fresh) (stmts : List Stmt) → All Told stmts → All Told (flat_map (pack_stmt fresh) stmts)
    stmts-packed fresh [] all = All-nil Told
    stmts-packed fresh (stmt ∷ stmts) all =
        All-append Told (pack_stmt fresh stmt) (flat_map (pack_stmt fresh) stmts)
        (stmt-packed fresh stmt (All-head Told stmt stmts all)) (stmts-packed fresh stmts (All-tail Told stmt stmts all))

    pub packed-told : (g : Graph) → AllTold g → AllTold (pack_graph g)
    packed-told g =
        let fresh = fresh_after g.bits in
        changed (pack_block fresh)
        (λ b is. record { stmts = stmts-packed fresh b.stmts is.stmts; exit = exit-packed b.exit is.exit }) g.blocks

    -- Assignments that go.

    without-told : (Has : List Stmt → Loc → Type 0) {before after : List Stmt} → IsWithout Has before after
        → All Told before → All Told after
    without-told Has done all = all
    without-told Has (stays {stmt} {rest} {rest'} later) all =
        All-cons Told stmt rest' (All-head Told stmt rest all) (without-told Has later (All-tail Told stmt rest all))
    without-told Has (goes {stmt} {rest} {rest'} assigns none later) all =
        without-told Has later (All-tail Told stmt rest all)

    blocks-without : (family : Family) (before after : List Block) → AllZip (IsBlockWithout family) before after
        → All IsTold before → All IsTold after
    blocks-without family [] [] zip all = all
    blocks-without family [] (b ∷ after) zip all = absurd zip
    blocks-without family (a ∷ before) [] zip all = absurd zip
    blocks-without family (a ∷ before) (b ∷ after) zip all =
        let here = All-head IsTold a before all in
        All-cons IsTold b after
        (record {
          stmts = without-told (family a) zip.0.stmts here.stmts;
          exit = subst (λ e. All Passes (exit_exprs e)) (sym zip.0.exit) here.exit;
        })
        (blocks-without family before after zip.1 (All-tail IsTold a before all))

  -- Of what passes, the addresses that are taken pass the test, and loads are by halves.

  abbrev pub Addressed : Expr → Type 0
  Addressed e = list_all test (addresses_of e) ≡ true

  addressed : (e : Expr) → Passes e → Addressed e
  addressed e is = (and_parts (list_all test (addresses_of e)) (loads_by_halves e) is).0

  pub all-addressed : (es : List Expr) → All Passes es → All Addressed es
  all-addressed = All-weaker Passes Addressed addressed

  all-loads : (es : List Expr) → All Passes es → list_all loads_by_halves es ≡ true
  all-loads [] all = refl
  all-loads (e ∷ es) all =
      both (loads_by_halves e) (list_all loads_by_halves es)
      (and_parts (list_all test (addresses_of e)) (loads_by_halves e) (All-head Passes e es all)).1
      (all-loads es (All-tail Passes e es all))

  both-pass : (es : List Expr) → All Addressed es → list_all loads_by_halves es ≡ true → All Passes es
  both-pass [] all is = All-nil Passes
  both-pass (e ∷ es) all is =
      let parts = and_parts (loads_by_halves e) (list_all loads_by_halves es) is in
      All-cons Passes e es (both (list_all test (addresses_of e)) (loads_by_halves e) (All-head Addressed e es all) parts.0)
      (both-pass es (All-tail Addressed e es all) parts.1)

  -- a load takes the addresses that its own address takes
  of-accessed : (stmt : Stmt) → All Addressed (accessed stmt) → All Addressed (exprs_of stmt)
  of-accessed (Fetch l width a) all = All-cons Addressed a [] (All-head Addressed (Load width a) [] all) (All-nil Addressed)
  of-accessed (Store width a e) all =
      All-cons Addressed a (e ∷ []) (All-head Addressed (Load width a) (e ∷ []) all)
      (All-tail Addressed (Load width a) (e ∷ []) all)
  of-accessed (Set l e) all = all
  of-accessed (Div l e) all = all
  of-accessed (Call results entry arguments depth) all = all
  of-accessed (Dos number place argument) all = all

  to-accessed : (stmt : Stmt) → All Addressed (exprs_of stmt) → All Addressed (accessed stmt)
  to-accessed (Fetch l width a) all = All-cons Addressed (Load width a) [] (All-head Addressed a [] all) (All-nil Addressed)
  to-accessed (Store width a e) all =
      All-cons Addressed (Load width a) (e ∷ []) (All-head Addressed a (e ∷ []) all) (All-tail Addressed a (e ∷ []) all)
  to-accessed (Set l e) all = all
  to-accessed (Div l e) all = all
  to-accessed (Call results entry arguments depth) all = all
  to-accessed (Dos number place argument) all = all

  pub stmt-addressed : (stmt : Stmt) → All Passes (accessed stmt) → All Addressed (exprs_of stmt)
  stmt-addressed stmt all = of-accessed stmt (all-addressed (accessed stmt) all)

  stmt-passes : (stmt : Stmt) → All Addressed (exprs_of stmt) → accesses_by_halves stmt ≡ true → All Passes (accessed stmt)
  stmt-passes stmt all is = both-pass (accessed stmt) (to-accessed stmt all) is

  -- sums of the frame load nothing
  sum-loads : (e : Expr) → is_frame_sum e ≡ true → loads_by_halves e ≡ true
  sum-loads (Address d) is = refl
  sum-loads (Binary Add width (Address d) (Const other n)) is = refl
  sum-loads e is = absurd (true≢false (sym is))

  takes-loads : (stmt : Stmt) → takes_frame_sum stmt ≡ true → accesses_by_halves stmt ≡ true
  takes-loads (Set (Temp n) e) is = both (loads_by_halves e) true (sum-loads e is) refl
  takes-loads stmt is = absurd (true≢false (sym is))

  pub by-halves : (sums : Bool) (blocks : List Block) → All (IsTold sums) blocks → list_all block_by_halves blocks ≡ true
  by-halves sums [] all = refl
  by-halves sums (b ∷ blocks) all =
      let here = All-head (IsTold sums) b blocks all in
      both (block_by_halves b) (list_all block_by_halves blocks)
      (both (list_all accesses_by_halves b.stmts) (list_all loads_by_halves (exit_exprs b.exit)) (each b.stmts here.stmts)
      (all-loads (exit_exprs b.exit) here.exit))
      (by-halves sums blocks (All-tail (IsTold sums) b blocks all))
    where
      one : (stmt : Stmt) → Told sums stmt → accesses_by_halves stmt ≡ true
      one stmt told = elim (or_cases (stmt_passes test stmt) (sums && takes_frame_sum stmt) told) [
        | inl pass ↦ all-loads (accessed stmt) (each-passes (accessed stmt) pass)
        | inr takes ↦ takes-loads stmt (and_parts sums (takes_frame_sum stmt) takes).1
      ]

      each : (stmts : List Stmt) → All (Told sums) stmts → list_all accesses_by_halves stmts ≡ true
      each [] all = refl
      each (stmt ∷ stmts) all =
          both (accesses_by_halves stmt) (list_all accesses_by_halves stmts) (one stmt (All-head (Told sums) stmt stmts all))
          (each stmts (All-tail (Told sums) stmt stmts all))

  -- Flags.

  abbrev kind_passes : Expr → Bool
  kind_passes (Address distance) = test distance
  kind_passes e = true

  kinds-are : (es : List Expr) → list_all (λ part. kind_passes (kind_of part)) es ≡ list_all test (flat_map addressed_by es)
  kinds-are [] = refl
  kinds-are (Const width n ∷ es) = kinds-are es
  kinds-are (Get l ∷ es) = kinds-are es
  kinds-are (Load width a ∷ es) = kinds-are es
  kinds-are (Unary operator width a ∷ es) = kinds-are es
  kinds-are (Binary operator width a b ∷ es) = kinds-are es
  kinds-are (Widen signed width a ∷ es) = kinds-are es
  kinds-are (Part width first a ∷ es) = kinds-are es
  kinds-are (Join high low ∷ es) = kinds-are es
  kinds-are (Choose choice a b ∷ es) = kinds-are es
  kinds-are (Address distance ∷ es) = ap (λ b. test distance && b) (kinds-are es)

  to-kinds : (es : List Expr) → All Addressed es
      → list_all (λ e. list_all (λ part. kind_passes (kind_of part)) (parts_of e)) es ≡ true
  to-kinds [] all = refl
  to-kinds (e ∷ es) all =
      both (list_all (λ part. kind_passes (kind_of part)) (parts_of e)) _
      (kinds-are (parts_of e) ∙ All-head Addressed e es all) (to-kinds es (All-tail Addressed e es all))

  from-kinds : (es : List Expr) → list_all (λ e. list_all (λ part. kind_passes (kind_of part)) (parts_of e)) es ≡ true
      → All Addressed es
  from-kinds [] is = All-nil Addressed
  from-kinds (e ∷ es) is =
      let parts = and_parts (list_all (λ part. kind_passes (kind_of part)) (parts_of e)) _ is in
      All-cons Addressed e es (sym (kinds-are (parts_of e)) ∙ parts.0) (from-kinds es parts.1)

  -- the addresses of all expressions of a graph without sums pass
  graph-addressed : (blocks : List Block) → All (IsTold false) blocks → All Addressed (flat_map block_exprs blocks)
  graph-addressed [] all = All-nil Addressed
  graph-addressed (b ∷ blocks) all =
      let here = All-head (IsTold false) b blocks all in
      All-append Addressed (block_exprs b) (flat_map block_exprs blocks)
      (All-append Addressed (flat_map exprs_of b.stmts) (exit_exprs b.exit) (each b.stmts here.stmts)
      (all-addressed (exit_exprs b.exit) here.exit))
      (graph-addressed blocks (All-tail (IsTold false) b blocks all))
    where
      each : (stmts : List Stmt) → All (Told false) stmts → All Addressed (flat_map exprs_of stmts)
      each [] all = All-nil Addressed
      each (stmt ∷ stmts) all =
          All-append Addressed (exprs_of stmt) (flat_map exprs_of stmts)
          (stmt-addressed stmt (told-passes false stmt refl (All-head (Told false) stmt stmts all)))
          (each stmts (All-tail (Told false) stmt stmts all))

  addressed-graph : (blocks : List Block) → All Addressed (flat_map block_exprs blocks)
      → list_all block_by_halves blocks ≡ true → All (IsTold false) blocks
  addressed-graph [] all is = All-nil (IsTold false)
  addressed-graph (b ∷ blocks) all is =
      let here = left_part Addressed (block_exprs b) (flat_map block_exprs blocks) all in
      let parts = and_parts (block_by_halves b) (list_all block_by_halves blocks) is in
      let own = and_parts (list_all accesses_by_halves b.stmts) (list_all loads_by_halves (exit_exprs b.exit)) parts.0 in
      All-cons (IsTold false) b blocks
      (record {
        stmts = each b.stmts (left_part Addressed (flat_map exprs_of b.stmts) (exit_exprs b.exit) here) own.0;
        exit = both-pass (exit_exprs b.exit) (right_part Addressed (flat_map exprs_of b.stmts) (exit_exprs b.exit) here) own.1;
      })
      (addressed-graph blocks (right_part Addressed (block_exprs b) (flat_map block_exprs blocks) all) parts.1)
    where
      each : (stmts : List Stmt) → All Addressed (flat_map exprs_of stmts) → list_all accesses_by_halves stmts ≡ true
          → All (Told false) stmts
      each [] all is = All-nil (Told false)
      each (stmt ∷ stmts) all is =
          let parts = and_parts (accesses_by_halves stmt) (list_all accesses_by_halves stmts) is in
          All-cons (Told false) stmt stmts
          (passes-told false stmt
          (stmt-passes stmt (left_part Addressed (exprs_of stmt) (flat_map exprs_of stmts) all) parts.0))
          (each stmts (right_part Addressed (exprs_of stmt) (flat_map exprs_of stmts) all) parts.1)

  -- statements with sums, as they are told of graphs whose flags are folded
  abbrev is_other : Stmt → Bool
  is_other stmt = takes_frame_sum stmt || parts_pass kind_passes (exprs_of stmt)

  to-others : (stmts : List Stmt) → All (Told true) stmts → list_all is_other stmts ≡ true
  to-others [] all = refl
  to-others (stmt ∷ stmts) all =
      both (is_other stmt) (list_all is_other stmts)
      (elim (or_cases (stmt_passes test stmt) (takes_frame_sum stmt) (All-head (Told true) stmt stmts all)) [
        | inl pass ↦
            or_right (takes_frame_sum stmt) _
            (to-kinds (exprs_of stmt) (stmt-addressed stmt (each-passes (accessed stmt) pass)))
        | inr takes ↦ or_left (takes_frame_sum stmt) _ takes
      ]) (to-others stmts (All-tail (Told true) stmt stmts all))

  from-others : (stmts : List Stmt) → list_all is_other stmts ≡ true → list_all accesses_by_halves stmts ≡ true
      → All (Told true) stmts
  from-others [] is loads = All-nil (Told true)
  from-others (stmt ∷ stmts) is loads =
      let parts = and_parts (is_other stmt) (list_all is_other stmts) is in
      let here = and_parts (accesses_by_halves stmt) (list_all accesses_by_halves stmts) loads in
      All-cons (Told true) stmt stmts
      (elim (or_cases (takes_frame_sum stmt) (parts_pass kind_passes (exprs_of stmt)) parts.0) [
        | inl takes ↦ or_right (stmt_passes test stmt) (takes_frame_sum stmt) takes
        | inr pass ↦ passes-told true stmt (stmt-passes stmt (from-kinds (exprs_of stmt) pass) here.0)
      ]) (from-others stmts parts.1 here.1)

  to-other-blocks : (blocks : List Block) → All (IsTold true) blocks → list_all (other_parts kind_passes) blocks ≡ true
  to-other-blocks [] all = refl
  to-other-blocks (b ∷ blocks) all =
      let here = All-head (IsTold true) b blocks all in
      both (other_parts kind_passes b) (list_all (other_parts kind_passes) blocks)
      (both (list_all is_other b.stmts) (parts_pass kind_passes (exit_exprs b.exit)) (to-others b.stmts here.stmts)
      (to-kinds (exit_exprs b.exit) (all-addressed (exit_exprs b.exit) here.exit)))
      (to-other-blocks blocks (All-tail (IsTold true) b blocks all))

  from-other-blocks : (blocks : List Block) → list_all (other_parts kind_passes) blocks ≡ true
      → list_all block_by_halves blocks ≡ true → All (IsTold true) blocks
  from-other-blocks [] is loads = All-nil (IsTold true)
  from-other-blocks (b ∷ blocks) is loads =
      let parts = and_parts (other_parts kind_passes b) (list_all (other_parts kind_passes) blocks) is in
      let here = and_parts (list_all is_other b.stmts) (parts_pass kind_passes (exit_exprs b.exit)) parts.0 in
      let later = and_parts (block_by_halves b) (list_all block_by_halves blocks) loads in
      let own = and_parts (list_all accesses_by_halves b.stmts) (list_all loads_by_halves (exit_exprs b.exit)) later.0 in
      All-cons (IsTold true) b blocks
      (record {
        stmts = from-others b.stmts here.0 own.0;
        exit = both-pass (exit_exprs b.exit) (from-kinds (exit_exprs b.exit) here.1) own.1;
      })
      (from-other-blocks blocks parts.1 later.1)

  folded-told : (sums : Bool) (before after : Graph) → KindsStay before after → AllTold sums before → AllTold sums after
  folded-told true before after kinds all =
      from-other-blocks after.blocks
      (kinds.others kind_passes (λ f. refl) (λ n. refl) (to-other-blocks before.blocks all))
      (kinds.accesses (by-halves true before.blocks all))
  folded-told false before after kinds all =
      addressed-graph after.blocks (from-kinds (graph_exprs after)
      (kinds.parts kind_passes (λ f. refl) (λ n. refl) (to-kinds (graph_exprs before) (graph-addressed before.blocks all))))
      (kinds.accesses (by-halves false before.blocks all))

  pub simplified-told : (sums : Bool) (before after : Graph) → IsSimplifiedGraph before after → AllTold sums before
      → AllTold sums after
  simplified-told sums before after is all =
      blocks-without sums _ is.folded.blocks after.blocks is.last.without.blocks
      (folded-told sums is.wanted is.folded is.flags.kinds
      (blocks-without sums _ before.blocks is.wanted.blocks is.first.without.blocks all))

-- No address is told from no parameter, where all pass that test.

module _ (told : Option ℕ) where
  abbrev FromParameter : Expr → Type 0
  FromParameter = Addressed (is_told_from told)

  none-untold : (es : List Expr) → list_all (is_told_from told) (flat_map addressed_by es) ≡ true
      → list_any (is_address told) es ≡ false
  none-untold [] is = refl
  none-untold (Const width n ∷ es) is = none-untold es is
  none-untold (Get l ∷ es) is = none-untold es is
  none-untold (Load width a ∷ es) is = none-untold es is
  none-untold (Unary operator width a ∷ es) is = none-untold es is
  none-untold (Binary operator width a b ∷ es) is = none-untold es is
  none-untold (Widen signed width a ∷ es) is = none-untold es is
  none-untold (Part width first a ∷ es) is = none-untold es is
  none-untold (Join high low ∷ es) is = none-untold es is
  none-untold (Choose choice a b ∷ es) is = none-untold es is
  none-untold (Address distance ∷ es) is =
      let parts = and_parts (is_told_from told distance) (list_all (is_told_from told) (flat_map addressed_by es)) is in
      or_from (not (is_told_from told distance)) (list_any (is_address told) es) (ap not parts.0) (none-untold es parts.1)

  exprs-untold : (es : List Expr) → All FromParameter es → list_any (has_address told) es ≡ false
  exprs-untold [] all = refl
  exprs-untold (e ∷ es) all =
      or_from (has_address told e) (list_any (has_address told) es) (none-untold (parts_of e) (All-head FromParameter e es all))
      (exprs-untold es (All-tail FromParameter e es all))

  stmts-untold : (stmts : List Stmt) → All FromParameter (flat_map exprs_of stmts) → list_any (stmt_has_address told) stmts ≡ false
  stmts-untold [] all = refl
  stmts-untold (stmt ∷ stmts) all =
      or_from (stmt_has_address told stmt) (list_any (stmt_has_address told) stmts)
      (exprs-untold (exprs_of stmt) (left_part FromParameter (exprs_of stmt) (flat_map exprs_of stmts) all))
      (stmts-untold stmts (right_part FromParameter (exprs_of stmt) (flat_map exprs_of stmts) all))

  blocks-untold : (blocks : List Block) → All FromParameter (flat_map block_exprs blocks)
      → list_any (block_has_address told) blocks ≡ false
  blocks-untold [] all = refl
  blocks-untold (b ∷ blocks) all =
      let here = left_part FromParameter (block_exprs b) (flat_map block_exprs blocks) all in
      or_from (block_has_address told b) (list_any (block_has_address told) blocks)
      (or_from (list_any (stmt_has_address told) b.stmts) (list_any (has_address told) (exit_exprs b.exit))
      (stmts-untold b.stmts (left_part FromParameter (flat_map exprs_of b.stmts) (exit_exprs b.exit) here))
      (exprs-untold (exit_exprs b.exit) (right_part FromParameter (flat_map exprs_of b.stmts) (exit_exprs b.exit) here)))
      (blocks-untold blocks (right_part FromParameter (block_exprs b) (flat_map block_exprs blocks) all))

  pub takes-none : (g : Graph) → AllTold (is_told_from told) false g → takes_address told g ≡ false
  takes-none g all = blocks-untold g.blocks (graph-addressed (is_told_from told) g.blocks all)
