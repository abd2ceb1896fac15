-- The folded graph has kinds of parts and statements that the graph has, beside reads of flags and temporaries, and
-- statements that set temporaries.
use Rattle.std.proofs.Common.{◌≡◌, ℕ, Bool, true, false, not, inl, inr, List, [], ◌∷◌, ◌++◌, length, Some, None, refl, sym, ap, ◌∙◌, true≢false, flat_map, map, rules}
use Rattle.std.specs.Prelude.{◌||◌, if◌then◌else◌, All}
use Rattle.std.specs.List.{AllZip, list_all, list_any}
use Rattle.std.proofs.lemmas.Bool.{or_cases, or_left, or_right}
use Rattle.std.proofs.lemmas.List.Concat.{flat_map-append}
use Rattle.std.proofs.lemmas.List.Elements.{All-nil, All-cons, All-head, All-tail}
use Rattle.std.proofs.lemmas.List.Folds.{list_all-append}
use Rattle.dcc_num.specs.declared.FlagName.{FlagName}
use Rattle.dcc_num.specs.declared.FlagName.TheVariants.{Cf, Zf, Sf, Of}
use Rattle.dcc_ir.specs.declared.syntax.BinOp.TheVariants.{Add}
use Rattle.dcc_ir.specs.declared.syntax.Loc.TheVariants.{Half, Flag, Cell, Temp}
use Rattle.dcc_ir.specs.Tree.{Expr, Const, Get, Load, Unary, Binary, Widen, Part, Join, Choose, Address, Stmt, Set, Fetch, Store, Div, Call, Dos, Exit, Goto, If, Switch, Ret, Stop, Block, Graph}
use Rattle.dcc_ir.specs.Use.{parts_of, exprs_of, exit_exprs, block_exprs, graph_exprs}
use Rattle.dcc_ir.proofs.FitLaws.{both}
use Rattle.dcc_flags.specs.declared.kept.Kept.{Kept}
use Rattle.dcc_flags.specs.Folding.{is_kept, Choices, choice, with_choices, stmt_with_choices, exit_with_choices, Taken, taken, has_truth, goes_with, stmt_folded, stmts_folded, bare_stmts, first_choice, first_choices, folded_graph}
use Rattle.dcc_flags.specs.Kinds.{kind_of, stmt_kind, exit_kind, no_operand, all_parts, parts_pass, is_frame_sum, takes_frame_sum, other_parts, all_kinds, EndsAlike, KindsStay}
use Rattle.dcc_flow.proofs.FormedExprs.{and_both}
use Rattle.dcc_flags.proofs.AccessLaws.{accesses_stay}
use Rattle.dcc_flags.proofs.MeetLaws.{by_kept}
use Rattle.dcc_flags.proofs.PartLaws.{or_none, neither, none_of, none_in, has_part, OfKind, in_chosen, chosen_lacks, none_has, copies_lack, value_if}
use Rattle.dcc_flags.proofs.EachLaws.{Each, each_at, ValuesHave, each_past, each_end, each_block}

-- Tests that are passed, and their contraries.

contrary : (b : Bool) → b ≡ true → not b ≡ false
contrary true e = refl
contrary false e = absurd (true≢false (sym e))

passed : (b : Bool) → not b ≡ false → b ≡ true
passed true e = refl
passed false e = absurd (true≢false e)

none_fails : {A : Type 0} (test fails : A → Bool) → ((x : A) → test x ≡ true → fails x ≡ false) → (xs : List A) → list_all test xs ≡ true → list_any fails xs ≡ false
none_fails test fails so [] all = refl
none_fails test fails so (x ∷ xs) all =
    let parts = both (test x) (list_all test xs) all in
    neither (fails x) (list_any fails xs) (so x parts.0) (none_fails test fails so xs parts.1)

all_pass : {A : Type 0} (test fails : A → Bool) → ((x : A) → fails x ≡ false → test x ≡ true) → (xs : List A) → list_any fails xs ≡ false → list_all test xs ≡ true
all_pass test fails so [] none = refl
all_pass test fails so (x ∷ xs) none =
    let parts = or_none (fails x) (list_any fails xs) none in
    and_both (test x) (list_all test xs) (so x parts.0) (all_pass test fails so xs parts.1)

-- Parts. The test is one that reads of flags and temporaries don't pass, and no part that is there.

module _ (test : Expr → Bool) (flags : (f : FlagName) → test (Get (Flag f)) ≡ false) (temps : (n : ℕ) → test (Get (Temp n)) ≡ false) where
  abbrev at_kind : Expr → Bool
  at_kind e = test (kind_of e)

  by_kind : OfKind at_kind
  by_kind = search rules

  abbrev Lacks : Expr → Type 0
  Lacks e = has_part at_kind e ≡ false

  abbrev AllLack : List Expr → Type 0
  AllLack es = list_any (has_part at_kind) es ≡ false

  -- where each choice lacks such parts, what is chosen for a part does
  parts_lack : (c : Choices) → Each Lacks c → (ps : List Expr) → list_any at_kind ps ≡ false → list_any (in_chosen at_kind c) ps ≡ false
  parts_lack c h [] none = refl
  parts_lack c h (e ∷ ps) none =
      let parts = or_none (at_kind e) (list_any at_kind ps) none in
      neither (in_chosen at_kind c e) (list_any (in_chosen at_kind c) ps) (here e parts.0) (parts_lack c h ps parts.1)
    where
      here : (x : Expr) → at_kind x ≡ false → in_chosen at_kind c x ≡ false
      here (Get (Flag f)) is = each_at Lacks c h f
      here (Get (Half r x)) is = is
      here (Get (Cell n x)) is = is
      here (Get (Temp n)) is = is
      here (Const w n) is = is
      here (Load w a) is = is
      here (Unary o w a) is = is
      here (Binary o w a b) is = is
      here (Widen s w a) is = is
      here (Part w k a) is = is
      here (Join a b) is = is
      here (Choose x a b) is = is
      here (Address d) is = is

  expr_lacks : (c : Choices) → Each Lacks c → (e : Expr) → Lacks e → Lacks (with_choices c e)
  expr_lacks c h e none = chosen_lacks at_kind by_kind c e (parts_lack c h (parts_of e) none)

  exprs_lack : (c : Choices) → Each Lacks c → (es : List Expr) → AllLack es → AllLack (map (with_choices c) es)
  exprs_lack c h [] none = refl
  exprs_lack c h (e ∷ es) none =
      let parts = or_none (has_part at_kind e) (list_any (has_part at_kind) es) none in
      neither (has_part at_kind (with_choices c e)) _ (expr_lacks c h e parts.0) (exprs_lack c h es parts.1)

  stmt_lacks : (c : Choices) → Each Lacks c → (stmt : Stmt) → AllLack (exprs_of stmt) → AllLack (exprs_of (stmt_with_choices c stmt))
  stmt_lacks c h (Set l e) none = exprs_lack c h (e ∷ []) none
  stmt_lacks c h (Fetch l w a) none = exprs_lack c h (a ∷ []) none
  stmt_lacks c h (Store w a e) none = exprs_lack c h (a ∷ e ∷ []) none
  stmt_lacks c h (Div l e) none = exprs_lack c h (e ∷ []) none
  stmt_lacks c h (Call r n es d) none = exprs_lack c h es none
  stmt_lacks c h (Dos n p None) none = refl
  stmt_lacks c h (Dos n p (Some e)) none = exprs_lack c h (e ∷ []) none

  exit_lacks : (c : Choices) → Each Lacks c → (exit : Exit) → AllLack (exit_exprs exit) → AllLack (exit_exprs (exit_with_choices c exit))
  exit_lacks c h (Goto place) none = refl
  exit_lacks c h (If x one other) none = exprs_lack c h (x ∷ []) none
  exit_lacks c h (Switch e places) none = exprs_lack c h (e ∷ []) none
  exit_lacks c h (Ret values) none = exprs_lack c h values none
  exit_lacks c h Stop none = refl

  -- what is taken of an expression has kinds that it has

  copy_lacks : (n : ℕ) → Lacks (Get (Temp n))
  copy_lacks n = neither (test (Get (Temp n))) false (temps n) refl

  value_lacks : (bits : List ℕ) (e : Expr) → Lacks e → Lacks (taken bits e).value
  value_lacks bits (Const w n) none = none
  value_lacks bits (Get l) none = copy_lacks _
  value_lacks bits (Load w a) none = copy_lacks _
  value_lacks bits (Unary o w a) none =
      let parts = or_none (at_kind (Unary o w a)) (has_part at_kind a) none in
      value_if at_kind (has_truth (Unary o w a)) _ _ (neither (at_kind (Unary o w a)) _ parts.0 (value_lacks bits a parts.1)) (copy_lacks _)
  value_lacks bits (Binary o w a b) none =
      let t = taken bits a in
      let u = taken (bits ++ t.widths) b in
      let parts = or_none (at_kind (Binary o w a b)) (list_any at_kind (parts_of a ++ parts_of b)) none in
      let two = none_of at_kind (parts_of a) (parts_of b) parts.1 in
      value_if at_kind (has_truth (Binary o w a b)) _ _
      (neither (at_kind (Binary o w a b)) _ parts.0
      (none_in at_kind (parts_of t.value) (parts_of u.value) (value_lacks bits a two.0) (value_lacks (bits ++ t.widths) b two.1))) (copy_lacks _)
  value_lacks bits (Widen s w a) none =
      let parts = or_none (at_kind (Widen s w a)) (has_part at_kind a) none in
      value_if at_kind (has_truth a) _ _ (neither (at_kind (Widen s w a)) _ parts.0 (value_lacks bits a parts.1)) (copy_lacks _)
  value_lacks bits (Part w k a) none =
      let parts = or_none (at_kind (Part w k a)) (has_part at_kind a) none in
      value_if at_kind (has_truth a) _ _ (neither (at_kind (Part w k a)) _ parts.0 (value_lacks bits a parts.1)) (copy_lacks _)
  value_lacks bits (Join a b) none =
      let t = taken bits a in
      let u = taken (bits ++ t.widths) b in
      let parts = or_none (at_kind (Join a b)) (list_any at_kind (parts_of a ++ parts_of b)) none in
      let two = none_of at_kind (parts_of a) (parts_of b) parts.1 in
      value_if at_kind (has_truth (Join a b)) _ _
      (neither (at_kind (Join a b)) _ parts.0
      (none_in at_kind (parts_of t.value) (parts_of u.value) (value_lacks bits a two.0) (value_lacks (bits ++ t.widths) b two.1))) (copy_lacks _)
  value_lacks bits (Choose x a b) none =
      let t = taken bits x in
      let u = taken (bits ++ t.widths) a in
      let v = taken ((bits ++ t.widths) ++ u.widths) b in
      let parts = or_none (at_kind (Choose x a b)) (list_any at_kind ((parts_of x ++ parts_of a) ++ parts_of b)) none in
      let two = none_of at_kind (parts_of x ++ parts_of a) (parts_of b) parts.1 in
      let one = none_of at_kind (parts_of x) (parts_of a) two.0 in
      neither (at_kind (Choose x a b)) _ parts.0
      (none_in at_kind (parts_of t.value ++ parts_of u.value) (parts_of v.value)
      (none_in at_kind (parts_of t.value) (parts_of u.value) (value_lacks bits x one.0) (value_lacks (bits ++ t.widths) a one.1))
      (value_lacks ((bits ++ t.widths) ++ u.widths) b two.1))
  value_lacks bits (Address d) none = copy_lacks _

  -- Statements that lack such parts.

  abbrev lacking : Stmt → Bool
  lacking stmt = not (list_any (has_part at_kind) (exprs_of stmt))

  lacks : (stmt : Stmt) → lacking stmt ≡ true → AllLack (exprs_of stmt)
  lacks stmt is = go (list_any (has_part at_kind) (exprs_of stmt)) is
    where
      go : (b : Bool) → not b ≡ true → b ≡ false
      go true e = absurd (true≢false (sym e))
      go false e = refl

  values_lack : ValuesHave Lacks lacking
  values_lack bits c f e is h = value_lacks bits (with_choices c e) (expr_lacks c h e (or_none (has_part at_kind e) false (lacks (Set (Flag f) e) is)).0)

  none_more : (cs ds : List Stmt) → none_has at_kind cs → none_has at_kind ds → none_has at_kind (cs ++ ds)
  none_more cs ds p q = ap (list_any (has_part at_kind)) (flat_map-append exprs_of cs ds) ∙ none_in (has_part at_kind) (flat_map exprs_of cs) (flat_map exprs_of ds) p q

  one_lacks : (c : Choices) → Each Lacks c → (stmt : Stmt) → lacking stmt ≡ true → none_has at_kind (stmt_with_choices c stmt ∷ [])
  one_lacks c h stmt is = none_in (has_part at_kind) (exprs_of (stmt_with_choices c stmt)) [] (stmt_lacks c h stmt (lacks stmt is)) refl

  module _ (kept : Kept) where
    folded_lacks : (bits : List ℕ) (c : Choices) → Each Lacks c → (stmt : Stmt) → lacking stmt ≡ true → none_has at_kind (stmt_folded kept bits c stmt).stmts
    folded_lacks bits c h (Set (Flag g) e) is = go (is_kept kept g)
      where
        go : (b : Bool) → none_has at_kind (by_kept b bits c g (with_choices c e)).stmts
        go true = one_lacks c h (Set (Flag g) e) is
        go false = copies_lack at_kind bits (with_choices c e) (expr_lacks c h e (or_none (has_part at_kind e) false (lacks (Set (Flag g) e) is)).0)
    folded_lacks bits c h (Set (Half r x) e) is = one_lacks c h (Set (Half r x) e) is
    folded_lacks bits c h (Set (Cell n x) e) is = one_lacks c h (Set (Cell n x) e) is
    folded_lacks bits c h (Set (Temp n) e) is = one_lacks c h (Set (Temp n) e) is
    folded_lacks bits c h (Fetch l w a) is = one_lacks c h (Fetch l w a) is
    folded_lacks bits c h (Store w a e) is = one_lacks c h (Store w a e) is
    folded_lacks bits c h (Div l e) is = one_lacks c h (Div l e) is
    folded_lacks bits c h (Call r n a d) is = one_lacks c h (Call r n a d) is
    folded_lacks bits c h (Dos n p a) is = one_lacks c h (Dos n p a) is

    stmts_lack : (bits : List ℕ) (c : Choices) → Each Lacks c → (stmts : List Stmt) → list_all lacking stmts ≡ true → none_has at_kind (stmts_folded kept bits c stmts).stmts
    stmts_lack bits c h [] all = refl
    stmts_lack bits c h (stmt ∷ rest) all =
        let parts = both (lacking stmt) (list_all lacking rest) all in
        let first = stmt_folded kept bits c stmt in
        none_more first.stmts (stmts_folded kept (bits ++ first.widths) first.choices rest).stmts (folded_lacks bits c h stmt parts.0)
        (stmts_lack (bits ++ first.widths) first.choices (each_past kept Lacks lacking values_lack bits c stmt parts.0 h) rest parts.1)

    bare_lack : (c : Choices) → Each Lacks c → (stmts : List Stmt) → list_all lacking stmts ≡ true → none_has at_kind (bare_stmts kept c stmts)
    bare_lack c h [] all = refl
    bare_lack c h (stmt ∷ rest) all =
        let parts = both (lacking stmt) (list_all lacking rest) all in
        go (goes_with kept stmt) (bare_lack c h rest parts.1) (one_lacks c h stmt parts.0)
      where
        go : (b : Bool) → none_has at_kind (bare_stmts kept c rest) → none_has at_kind (stmt_with_choices c stmt ∷ [])
            → none_has at_kind (if b then bare_stmts kept c rest else stmt_with_choices c stmt ∷ bare_stmts kept c rest)
        go true later here = later
        go false later here = none_more (stmt_with_choices c stmt ∷ []) (bare_stmts kept c rest) here later

    first_lacks : (temporary : ℕ) (f : FlagName) → Lacks (first_choice kept temporary f)
    first_lacks temporary f = go (is_kept kept f)
      where
        go : (b : Bool) → Lacks (if b then Get (Flag f) else Get (Temp temporary))
        go true = neither (test (Get (Flag f))) false (flags f) refl
        go false = copy_lacks temporary

    -- Blocks that lack such parts.

    record StillLacks (before after : Block) : Type 0 where
      stmts : none_has at_kind after.stmts
      exit : AllLack (exit_exprs before.exit) → AllLack (exit_exprs after.exit)

    module _ (graph : Graph) (order : List ℕ) where
      abbrev first : Choices
      first = first_choices kept (length graph.bits)

      first_each : Each Lacks first
      first_each = record { cf = first_lacks (length graph.bits) Cf; zf = first_lacks (length graph.bits) Zf; sf = first_lacks (length graph.bits) Sf; of = first_lacks (length graph.bits) Of }

      still : list_all (λ b. list_all lacking b.stmts) graph.blocks ≡ true → AllZip StillLacks graph.blocks (folded_graph kept graph order).blocks
      still all = each_block kept Lacks lacking values_lack graph first first_each StillLacks
          (λ b fit. record { stmts = bare_lack first first_each b.stmts fit; exit = exit_lacks first first_each b.exit })
          (λ bits c b fit h. record {
            stmts = stmts_lack bits c h b.stmts fit;
            exit = exit_lacks (stmts_folded kept bits c b.stmts).choices (each_end kept Lacks lacking values_lack bits c b.stmts fit h) b.exit;
          }) all order

      lacking_stmts : (stmts : List Stmt) → none_has at_kind stmts → list_all lacking stmts ≡ true
      lacking_stmts [] none = refl
      lacking_stmts (stmt ∷ rest) none =
          let parts = none_of (has_part at_kind) (exprs_of stmt) (flat_map exprs_of rest) none in
          and_both (lacking stmt) (list_all lacking rest) (ap not parts.0) (lacking_stmts rest parts.1)

      lacking_blocks : (bs : List Block) → AllLack (flat_map block_exprs bs) → list_all (λ b. list_all lacking b.stmts) bs ≡ true
      lacking_blocks [] none = refl
      lacking_blocks (b ∷ bs) none =
          let parts = none_of (has_part at_kind) (block_exprs b) (flat_map block_exprs bs) none in
          let own = none_of (has_part at_kind) (flat_map exprs_of b.stmts) (exit_exprs b.exit) parts.0 in
          and_both (list_all lacking b.stmts) (list_all (λ (x : Block). list_all lacking x.stmts) bs) (lacking_stmts b.stmts own.0) (lacking_blocks bs parts.1)

      all_lack : (xs ys : List Block) → AllZip StillLacks xs ys → AllLack (flat_map block_exprs xs) → AllLack (flat_map block_exprs ys)
      all_lack [] [] all none = refl
      all_lack [] (y ∷ ys) all none = absurd all
      all_lack (x ∷ xs) [] all none = absurd all
      all_lack (x ∷ xs) (y ∷ ys) all none =
          let parts = none_of (has_part at_kind) (block_exprs x) (flat_map block_exprs xs) none in
          let own = none_of (has_part at_kind) (flat_map exprs_of x.stmts) (exit_exprs x.exit) parts.0 in
          none_in (has_part at_kind) (block_exprs y) (flat_map block_exprs ys)
          (none_in (has_part at_kind) (flat_map exprs_of y.stmts) (exit_exprs y.exit) all.0.stmts (all.0.exit own.1)) (all_lack xs ys all.1 parts.1)

      lacks_still : AllLack (graph_exprs graph) → AllLack (graph_exprs (folded_graph kept graph order))
      lacks_still none = all_lack graph.blocks (folded_graph kept graph order).blocks (still (lacking_blocks graph.blocks none)) none

    -- Where statements that set temporaries to sums of the frame need not lack such parts.

    abbrev fine : Stmt → Bool
    fine stmt = takes_frame_sum stmt || lacking stmt

    sum_stays : (c : Choices) (e : Expr) → is_frame_sum e ≡ true → is_frame_sum (with_choices c e) ≡ true
    sum_stays c (Address d) is = refl
    sum_stays c (Binary Add w (Address d) (Const v n)) is = refl
    sum_stays c e is = absurd (true≢false (sym is))

    takes_stays : (c : Choices) (stmt : Stmt) → takes_frame_sum stmt ≡ true → takes_frame_sum (stmt_with_choices c stmt) ≡ true
    takes_stays c (Set (Temp n) e) is = sum_stays c e is
    takes_stays c stmt is = absurd (true≢false (sym is))

    values_fine : ValuesHave Lacks fine
    values_fine bits c f e is h = values_lack bits c f e is h

    one_fine : (c : Choices) → Each Lacks c → (stmt : Stmt) → fine stmt ≡ true → list_all fine (stmt_with_choices c stmt ∷ []) ≡ true
    one_fine c h stmt is =
        and_both (fine (stmt_with_choices c stmt)) true (elim (or_cases (takes_frame_sum stmt) (lacking stmt) is) [
          | inl takes ↦ or_left (takes_frame_sum (stmt_with_choices c stmt)) _ (takes_stays c stmt takes)
          | inr lacks_it ↦
              or_right (takes_frame_sum (stmt_with_choices c stmt)) _ (ap not (stmt_lacks c h stmt (lacks stmt lacks_it)))
        ]) refl

    all_fine : (stmts : List Stmt) → none_has at_kind stmts → list_all fine stmts ≡ true
    all_fine [] none = refl
    all_fine (stmt ∷ rest) none =
        let parts = none_of (has_part at_kind) (exprs_of stmt) (flat_map exprs_of rest) none in
        and_both (fine stmt) (list_all fine rest) (or_right (takes_frame_sum stmt) _ (ap not parts.0)) (all_fine rest parts.1)

    folded_fine : (bits : List ℕ) (c : Choices) → Each Lacks c → (stmt : Stmt) → fine stmt ≡ true → list_all fine (stmt_folded kept bits c stmt).stmts ≡ true
    folded_fine bits c h (Set (Flag g) e) is = go (is_kept kept g)
      where
        go : (b : Bool) → list_all fine (by_kept b bits c g (with_choices c e)).stmts ≡ true
        go true = one_fine c h (Set (Flag g) e) is
        go false = all_fine (taken bits (with_choices c e)).copies
            (copies_lack at_kind bits (with_choices c e) (expr_lacks c h e (or_none (has_part at_kind e) false (lacks (Set (Flag g) e) is)).0))
    folded_fine bits c h (Set (Half r x) e) is = one_fine c h (Set (Half r x) e) is
    folded_fine bits c h (Set (Cell n x) e) is = one_fine c h (Set (Cell n x) e) is
    folded_fine bits c h (Set (Temp n) e) is = one_fine c h (Set (Temp n) e) is
    folded_fine bits c h (Fetch l w a) is = one_fine c h (Fetch l w a) is
    folded_fine bits c h (Store w a e) is = one_fine c h (Store w a e) is
    folded_fine bits c h (Div l e) is = one_fine c h (Div l e) is
    folded_fine bits c h (Call r n a d) is = one_fine c h (Call r n a d) is
    folded_fine bits c h (Dos n p a) is = one_fine c h (Dos n p a) is

    fine_more : (cs ds : List Stmt) → list_all fine cs ≡ true → list_all fine ds ≡ true → list_all fine (cs ++ ds) ≡ true
    fine_more cs ds p q = list_all-append fine cs ds ∙ and_both (list_all fine cs) (list_all fine ds) p q

    stmts_fine : (bits : List ℕ) (c : Choices) → Each Lacks c → (stmts : List Stmt) → list_all fine stmts ≡ true → list_all fine (stmts_folded kept bits c stmts).stmts ≡ true
    stmts_fine bits c h [] all = refl
    stmts_fine bits c h (stmt ∷ rest) all =
        let parts = both (fine stmt) (list_all fine rest) all in
        let first = stmt_folded kept bits c stmt in
        fine_more first.stmts (stmts_folded kept (bits ++ first.widths) first.choices rest).stmts (folded_fine bits c h stmt parts.0)
        (stmts_fine (bits ++ first.widths) first.choices (each_past kept Lacks fine values_fine bits c stmt parts.0 h) rest parts.1)

    bare_fine : (c : Choices) → Each Lacks c → (stmts : List Stmt) → list_all fine stmts ≡ true → list_all fine (bare_stmts kept c stmts) ≡ true
    bare_fine c h [] all = refl
    bare_fine c h (stmt ∷ rest) all =
        let parts = both (fine stmt) (list_all fine rest) all in
        go (goes_with kept stmt) (bare_fine c h rest parts.1) (one_fine c h stmt parts.0)
      where
        go : (b : Bool) → list_all fine (bare_stmts kept c rest) ≡ true → list_all fine (stmt_with_choices c stmt ∷ []) ≡ true
            → list_all fine (if b then bare_stmts kept c rest else stmt_with_choices c stmt ∷ bare_stmts kept c rest) ≡ true
        go true later here = later
        go false later here = fine_more (stmt_with_choices c stmt ∷ []) (bare_stmts kept c rest) here later

    record StillFine (before after : Block) : Type 0 where
      stmts : list_all fine after.stmts ≡ true
      exit : AllLack (exit_exprs before.exit) → AllLack (exit_exprs after.exit)

    abbrev lacks_beside : Block → Type 0
    lacks_beside b = (list_all fine b.stmts ≡ true) × AllLack (exit_exprs b.exit)

    fine_still : (graph : Graph) (order : List ℕ) → All lacks_beside graph.blocks → All lacks_beside (folded_graph kept graph order).blocks
    fine_still graph order all =
        ends graph.blocks (folded_graph kept graph order).blocks
        (each_block kept Lacks fine values_fine graph (first graph order) (first_each graph order) StillFine
        (λ b fit. record {
          stmts = bare_fine (first graph order) (first_each graph order) b.stmts fit;
          exit = exit_lacks (first graph order) (first_each graph order) b.exit;
        })
        (λ bits c b fit h. record {
          stmts = stmts_fine bits c h b.stmts fit;
          exit = exit_lacks (stmts_folded kept bits c b.stmts).choices (each_end kept Lacks fine values_fine bits c b.stmts fit h) b.exit;
        }) (starts graph.blocks all) order) all
      where
        starts : (bs : List Block) → All lacks_beside bs → list_all (λ b. list_all fine b.stmts) bs ≡ true
        starts [] all = refl
        starts (b ∷ bs) all =
            and_both (list_all fine b.stmts) (list_all (λ (x : Block). list_all fine x.stmts) bs)
            (All-head lacks_beside b bs all).0 (starts bs (All-tail lacks_beside b bs all))

        ends : (xs ys : List Block) → AllZip StillFine xs ys → All lacks_beside xs → All lacks_beside ys
        ends [] [] zip all = All-nil lacks_beside
        ends [] (y ∷ ys) zip all = absurd zip
        ends (x ∷ xs) [] zip all = absurd zip
        ends (x ∷ xs) (y ∷ ys) zip all =
            All-cons lacks_beside y ys (zip.0.stmts, zip.0.exit (All-head lacks_beside x xs all).1)
            (ends xs ys zip.1 (All-tail lacks_beside x xs all))

-- Statements.

module _ (test : Stmt → Bool) (temps : (n : ℕ) → test (Set (Temp n) no_operand) ≡ true) where
  abbrev of_kind : Stmt → Bool
  of_kind stmt = test (stmt_kind stmt)

  abbrev AllPass : List Stmt → Type 0
  AllPass stmts = list_all of_kind stmts ≡ true

  pass_more : (cs ds : List Stmt) → AllPass cs → AllPass ds → AllPass (cs ++ ds)
  pass_more cs ds p q = list_all-append of_kind cs ds ∙ and_both (list_all of_kind cs) (list_all of_kind ds) p q

  pass_if : (b : Bool) (t u : Taken) → AllPass t.copies → AllPass u.copies → AllPass (if b then t else u).copies
  pass_if true t u p q = p
  pass_if false t u p q = q

  copy_passes : (n : ℕ) (e : Expr) → AllPass (Set (Temp n) e ∷ [])
  copy_passes n e = and_both (test (Set (Temp n) no_operand)) true (temps n) refl

  -- copies set temporaries
  copies_pass : (bits : List ℕ) (e : Expr) → AllPass (taken bits e).copies
  copies_pass bits (Const w n) = refl
  copies_pass bits (Get l) = copy_passes _ (Get l)
  copies_pass bits (Load w a) = copy_passes _ (Load w a)
  copies_pass bits (Unary o w a) = pass_if (has_truth (Unary o w a)) _ _ (copies_pass bits a) (copy_passes _ (Unary o w a))
  copies_pass bits (Binary o w a b) =
      pass_if (has_truth (Binary o w a b)) _ _ (pass_more (taken bits a).copies _ (copies_pass bits a) (copies_pass (bits ++ (taken bits a).widths) b)) (copy_passes _ (Binary o w a b))
  copies_pass bits (Widen s w a) = pass_if (has_truth a) _ _ (copies_pass bits a) (copy_passes _ (Widen s w a))
  copies_pass bits (Part w k a) = pass_if (has_truth a) _ _ (copies_pass bits a) (copy_passes _ (Part w k a))
  copies_pass bits (Join a b) =
      pass_if (has_truth (Join a b)) _ _ (pass_more (taken bits a).copies _ (copies_pass bits a) (copies_pass (bits ++ (taken bits a).widths) b)) (copy_passes _ (Join a b))
  copies_pass bits (Choose x a b) =
      let t = taken bits x in
      let u = taken (bits ++ t.widths) a in
      let v = taken ((bits ++ t.widths) ++ u.widths) b in
      pass_more (t.copies ++ u.copies) v.copies (pass_more t.copies u.copies (copies_pass bits x) (copies_pass (bits ++ t.widths) a)) (copies_pass ((bits ++ t.widths) ++ u.widths) b)
  copies_pass bits (Address d) = copy_passes _ (Address d)

  -- a statement with choices in it is of its kind
  same_kind : (c : Choices) (stmt : Stmt) → stmt_kind (stmt_with_choices c stmt) ≡ stmt_kind stmt
  same_kind c (Set l e) = refl
  same_kind c (Fetch l w a) = refl
  same_kind c (Store w a e) = refl
  same_kind c (Div l e) = refl
  same_kind c (Call r n es d) = ap (λ others. Call r n others d) (blank es)
    where
      blank : (xs : List Expr) → map (λ e. no_operand) (map (with_choices c) xs) ≡ map (λ e. no_operand) xs
      blank [] = refl
      blank (x ∷ xs) = ap (λ others. no_operand ∷ others) (blank xs)
  same_kind c (Dos n p None) = refl
  same_kind c (Dos n p (Some e)) = refl

  one_passes : (c : Choices) (stmt : Stmt) → of_kind stmt ≡ true → AllPass (stmt_with_choices c stmt ∷ [])
  one_passes c stmt is = and_both (of_kind (stmt_with_choices c stmt)) true (ap test (same_kind c stmt) ∙ is) refl

  module _ (kept : Kept) where
    folded_passes : (bits : List ℕ) (c : Choices) (stmt : Stmt) → of_kind stmt ≡ true → AllPass (stmt_folded kept bits c stmt).stmts
    folded_passes bits c (Set (Flag g) e) is = go (is_kept kept g)
      where
        go : (b : Bool) → AllPass (by_kept b bits c g (with_choices c e)).stmts
        go true = one_passes c (Set (Flag g) e) is
        go false = copies_pass bits (with_choices c e)
    folded_passes bits c (Set (Half r x) e) is = one_passes c (Set (Half r x) e) is
    folded_passes bits c (Set (Cell n x) e) is = one_passes c (Set (Cell n x) e) is
    folded_passes bits c (Set (Temp n) e) is = one_passes c (Set (Temp n) e) is
    folded_passes bits c (Fetch l w a) is = one_passes c (Fetch l w a) is
    folded_passes bits c (Store w a e) is = one_passes c (Store w a e) is
    folded_passes bits c (Div l e) is = one_passes c (Div l e) is
    folded_passes bits c (Call r n a d) is = one_passes c (Call r n a d) is
    folded_passes bits c (Dos n p a) is = one_passes c (Dos n p a) is

    stmts_pass : (bits : List ℕ) (c : Choices) (stmts : List Stmt) → AllPass stmts → AllPass (stmts_folded kept bits c stmts).stmts
    stmts_pass bits c [] all = refl
    stmts_pass bits c (stmt ∷ rest) all =
        let parts = both (of_kind stmt) (list_all of_kind rest) all in
        let first = stmt_folded kept bits c stmt in
        pass_more first.stmts (stmts_folded kept (bits ++ first.widths) first.choices rest).stmts (folded_passes bits c stmt parts.0)
        (stmts_pass (bits ++ first.widths) first.choices rest parts.1)

    bare_pass : (c : Choices) (stmts : List Stmt) → AllPass stmts → AllPass (bare_stmts kept c stmts)
    bare_pass c [] all = refl
    bare_pass c (stmt ∷ rest) all =
        let parts = both (of_kind stmt) (list_all of_kind rest) all in
        go (goes_with kept stmt) (bare_pass c rest parts.1) (one_passes c stmt parts.0)
      where
        go : (b : Bool) → AllPass (bare_stmts kept c rest) → AllPass (stmt_with_choices c stmt ∷ [])
            → AllPass (if b then bare_stmts kept c rest else stmt_with_choices c stmt ∷ bare_stmts kept c rest)
        go true later here = later
        go false later here = pass_more (stmt_with_choices c stmt ∷ []) (bare_stmts kept c rest) here later

    abbrev StmtsPass : Block → Block → Type 0
    StmtsPass before after = AllPass after.stmts

    passes_still : (graph : Graph) (order : List ℕ) → all_kinds test graph ≡ true → all_kinds test (folded_graph kept graph order) ≡ true
    passes_still graph order all =
        each_passes graph.blocks (folded_graph kept graph order).blocks
        (each_block kept (λ e. Unit {0}) of_kind (λ bits c f e is h. tt) graph (first_choices kept (length graph.bits)) (record { cf = tt; zf = tt; sf = tt; of = tt })
        StmtsPass (λ b fit. bare_pass (first_choices kept (length graph.bits)) b.stmts fit) (λ bits c b fit h. stmts_pass bits c b.stmts fit) all order)
      where
        each_passes : (xs ys : List Block) → AllZip StmtsPass xs ys → list_all (λ b. list_all of_kind b.stmts) ys ≡ true
        each_passes [] [] zip = refl
        each_passes [] (y ∷ ys) zip = absurd zip
        each_passes (x ∷ xs) [] zip = absurd zip
        each_passes (x ∷ xs) (y ∷ ys) zip = and_both (list_all of_kind y.stmts) (list_all (λ (b : Block). list_all of_kind b.stmts) ys) zip.0 (each_passes xs ys zip.1)

-- Ends of blocks.

same_exit : (c : Choices) (exit : Exit) → exit_kind (exit_with_choices c exit) ≡ exit_kind exit
same_exit c (Goto place) = refl
same_exit c (If x one other) = refl
same_exit c (Switch e places) = refl
same_exit c (Ret values) = ap Ret (blank values)
  where
    blank : (xs : List Expr) → map (λ e. no_operand) (map (with_choices c) xs) ≡ map (λ e. no_operand) xs
    blank [] = refl
    blank (x ∷ xs) = ap (λ others. no_operand ∷ others) (blank xs)
same_exit c Stop = refl

abbrev any_stmt : Stmt → Bool
any_stmt stmt = true

ends_alike : (kept : Kept) (graph : Graph) (order : List ℕ) → AllZip EndsAlike graph.blocks (folded_graph kept graph order).blocks
ends_alike kept graph order =
    each_block kept (λ e. Unit {0}) any_stmt (λ bits c f e is h. tt) graph (first_choices kept (length graph.bits)) (record { cf = tt; zf = tt; sf = tt; of = tt })
    EndsAlike (λ b fit. same_exit (first_choices kept (length graph.bits)) b.exit) (λ bits c b fit h. same_exit (stmts_folded kept bits c b.stmts).choices b.exit)
    (any_blocks graph.blocks) order
  where
    any_stmts : (stmts : List Stmt) → list_all any_stmt stmts ≡ true
    any_stmts [] = refl
    any_stmts (stmt ∷ rest) = any_stmts rest

    any_blocks : (bs : List Block) → list_all (λ b. list_all any_stmt b.stmts) bs ≡ true
    any_blocks [] = refl
    any_blocks (b ∷ bs) = and_both (list_all any_stmt b.stmts) (list_all (λ (x : Block). list_all any_stmt x.stmts) bs) (any_stmts b.stmts) (any_blocks bs)

-- The laws.

module _ (test : Expr → Bool) where
  abbrev fails_kind : Expr → Bool
  fails_kind e = not (test (kind_of e))

  abbrev below : Expr → Bool
  below e = list_all (λ part. test (kind_of part)) (parts_of e)

  to_lack : (es : List Expr) → parts_pass test es ≡ true → list_any (has_part fails_kind) es ≡ false
  to_lack es =
      none_fails below (has_part fails_kind)
      (λ e. none_fails (λ part. test (kind_of part)) fails_kind (λ part. contrary (test (kind_of part))) (parts_of e)) es

  from_lack : (es : List Expr) → list_any (has_part fails_kind) es ≡ false → parts_pass test es ≡ true
  from_lack es =
      all_pass below (has_part fails_kind)
      (λ e. all_pass (λ part. test (kind_of part)) fails_kind (λ part. passed (test (kind_of part))) (parts_of e)) es

  module _ (flags : (f : FlagName) → test (Get (Flag f)) ≡ true) (temps : (n : ℕ) → test (Get (Temp n)) ≡ true) (kept : Kept)
      (graph : Graph) (order : List ℕ) where
    abbrev fails : Expr → Bool
    fails e = not (test e)

    no_flags : (f : FlagName) → fails (Get (Flag f)) ≡ false
    no_flags f = contrary (test (Get (Flag f))) (flags f)

    no_temps : (n : ℕ) → fails (Get (Temp n)) ≡ false
    no_temps n = contrary (test (Get (Temp n))) (temps n)

    parts_still : all_parts test graph ≡ true → all_parts test (folded_graph kept graph order) ≡ true
    parts_still all =
        from_lack (graph_exprs (folded_graph kept graph order))
        (lacks_still fails no_flags no_temps kept graph order (to_lack (graph_exprs graph) all))

    abbrev Beside : Block → Type 0
    Beside b = lacks_beside fails no_flags no_temps kept b

    to_fine : (stmts : List Stmt) → list_all (λ stmt. takes_frame_sum stmt || parts_pass test (exprs_of stmt)) stmts ≡ true
        → list_all (fine fails no_flags no_temps kept) stmts ≡ true
    to_fine [] all = refl
    to_fine (stmt ∷ stmts) all =
        let parts = both (takes_frame_sum stmt || parts_pass test (exprs_of stmt)) _ all in
        and_both (fine fails no_flags no_temps kept stmt) _ (elim (or_cases (takes_frame_sum stmt) _ parts.0) [
          | inl takes ↦ or_left (takes_frame_sum stmt) _ takes
          | inr pass ↦ or_right (takes_frame_sum stmt) _ (ap not (to_lack (exprs_of stmt) pass))
        ]) (to_fine stmts parts.1)

    from_fine : (stmts : List Stmt) → list_all (fine fails no_flags no_temps kept) stmts ≡ true
        → list_all (λ stmt. takes_frame_sum stmt || parts_pass test (exprs_of stmt)) stmts ≡ true
    from_fine [] all = refl
    from_fine (stmt ∷ stmts) all =
        let parts = both (fine fails no_flags no_temps kept stmt) _ all in
        and_both (takes_frame_sum stmt || parts_pass test (exprs_of stmt)) _ (elim (or_cases (takes_frame_sum stmt) _ parts.0) [
          | inl takes ↦ or_left (takes_frame_sum stmt) _ takes
          | inr lack ↦ or_right (takes_frame_sum stmt) _ (from_lack (exprs_of stmt) (lacks fails no_flags no_temps stmt lack))
        ]) (from_fine stmts parts.1)

    to_beside : (bs : List Block) → list_all (other_parts test) bs ≡ true → All Beside bs
    to_beside [] all = All-nil Beside
    to_beside (b ∷ bs) all =
        let parts = both (other_parts test b) (list_all (other_parts test) bs) all in
        let here = both _ (parts_pass test (exit_exprs b.exit)) parts.0 in
        All-cons Beside b bs (to_fine b.stmts here.0, to_lack (exit_exprs b.exit) here.1) (to_beside bs parts.1)

    from_beside : (bs : List Block) → All Beside bs → list_all (other_parts test) bs ≡ true
    from_beside [] all = refl
    from_beside (b ∷ bs) all =
        let here = All-head Beside b bs all in
        and_both (other_parts test b) (list_all (other_parts test) bs)
        (and_both _ (parts_pass test (exit_exprs b.exit)) (from_fine b.stmts here.0) (from_lack (exit_exprs b.exit) here.1))
        (from_beside bs (All-tail Beside b bs all))

    others_still : list_all (other_parts test) graph.blocks ≡ true
        → list_all (other_parts test) (folded_graph kept graph order).blocks ≡ true
    others_still all =
        from_beside (folded_graph kept graph order).blocks
        (fine_still fails no_flags no_temps kept graph order (to_beside graph.blocks all))

pub kinds_stay : (kept : Kept) (graph : Graph) (order : List ℕ) → KindsStay graph (folded_graph kept graph order)
kinds_stay kept graph order = record {
  parts = λ test flags temps. parts_still test flags temps kept graph order;
  others = λ test flags temps. others_still test flags temps kept graph order;
  stmts = λ test temps all. passes_still test temps kept graph order all;
  accesses = accesses_stay kept graph order;
  exits = ends_alike kept graph order;
}
