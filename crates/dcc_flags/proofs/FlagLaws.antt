-- The folded graph mentions no flag but those that are kept.
use Rattle.std.proofs.Common.{◌≡◌, ℕ, Bool, true, false, ◌&&◌, ◌||◌, not, inl, inr, List, [], ◌∷◌, ◌++◌, length, Some, None, refl, sym, ap, ◌∙◌, true≢false, flat_map, map, Contains, eqb-true, rules}
use Rattle.std.specs.Prelude.{if◌then◌else◌, ◌==◌}
use Rattle.std.specs.List.{AllZip, list_all, list_any}
use Rattle.std.proofs.lemmas.List.Concat.{flat_map-append}
use Rattle.dcc_num.specs.declared.FlagName.{FlagName}
use Rattle.dcc_num.specs.declared.FlagName.TheVariants.{Cf, Zf, Sf, Of}
use Rattle.dcc_ir.specs.declared.syntax.Loc.{Loc}
use Rattle.dcc_ir.specs.declared.syntax.Loc.TheVariants.{Half, Flag, Cell, Temp}
use Rattle.dcc_ir.specs.Tree.{Expr, Const, Get, Load, Unary, Binary, Widen, Part, Join, Choose, Address, Stmt, Set, Fetch, Store, Div, Call, Dos, Exit, Goto, If, Switch, Ret, Stop, Block, Graph}
use Rattle.dcc_ir.specs.Location.{same_location, flag_number}
use Rattle.dcc_ir.specs.WellFormed.{is_stored_width, is_division, is_expr_of, is_dividing, is_stmt, is_exit, is_block, IsGraph}
use Rattle.dcc_ir.specs.Use.{parts_of, exprs_of, writes_of, exit_exprs, block_exprs, graph_exprs}
use Rattle.dcc_ir.specs.Live.{is_among, reads}
use Rattle.dcc_ir.specs.Joinable.{places_of}
use Rattle.dcc_ir.proofs.FitLaws.{both}
use Rattle.dcc_ir.proofs.PathLaws.{decided}
use Rattle.dcc_ir.proofs.LocationLaws.{flag_same, Contains-here, Contains-later}
use Rattle.dcc_ir.specs.FlagReads.{gets}
use Rattle.dcc_flags.specs.declared.kept.Kept.{Kept}
use Rattle.dcc_flags.specs.Reaching.{has_result, IsKept, param, result}
use Rattle.dcc_flags.specs.Folding.{is_kept, Choices, choice, with_choices, stmt_with_choices, exit_with_choices, Taken, taken, has_truth, goes_with, stmt_folded, stmts_folded, bare_stmts, first_choice, first_choices, folded_graph}
use Rattle.dcc_flags.specs.Folded.{mentions}
use Rattle.dcc_flow.proofs.FormedExprs.{and_both}
use Rattle.dcc_flags.proofs.MeetLaws.{by_kept}
use Rattle.dcc_flags.proofs.PartLaws.{neither, none_in, has_part, OfKind, in_chosen, chosen_lacks, none_has, copies_lack, OfReads, value_lacks, got_is}
use Rattle.dcc_flags.proofs.EachLaws.{Each, each_at, ValuesHave, each_past, each_end, each_block}

module _ (f : FlagName) where
  gets_kind : OfKind (gets f)
  gets_kind = search rules

  gets_reads : OfReads (gets f)
  gets_reads = search rules

  -- the flag is not read
  abbrev Lacks : Expr → Type 0
  Lacks e = has_part (gets f) e ≡ false

  abbrev AllLack : List Expr → Type 0
  AllLack es = list_any (has_part (gets f)) es ≡ false

  abbrev Unwritten : List Loc → Type 0
  Unwritten ls = is_among ls (Flag f) ≡ false

  -- Expressions with choices in them.

  parts_lack : (c : Choices) → Each Lacks c → (ps : List Expr) → list_any (in_chosen (gets f) c) ps ≡ false
  parts_lack c h [] = refl
  parts_lack c h (Get (Flag g) ∷ ps) = neither (has_part (gets f) (choice c g)) _ (each_at Lacks c h g) (parts_lack c h ps)
  parts_lack c h (Get (Half r x) ∷ ps) = parts_lack c h ps
  parts_lack c h (Get (Cell n x) ∷ ps) = parts_lack c h ps
  parts_lack c h (Get (Temp n) ∷ ps) = parts_lack c h ps
  parts_lack c h (Const w n ∷ ps) = parts_lack c h ps
  parts_lack c h (Load w a ∷ ps) = parts_lack c h ps
  parts_lack c h (Unary o w a ∷ ps) = parts_lack c h ps
  parts_lack c h (Binary o w a b ∷ ps) = parts_lack c h ps
  parts_lack c h (Widen s w a ∷ ps) = parts_lack c h ps
  parts_lack c h (Part w k a ∷ ps) = parts_lack c h ps
  parts_lack c h (Join a b ∷ ps) = parts_lack c h ps
  parts_lack c h (Choose x a b ∷ ps) = parts_lack c h ps
  parts_lack c h (Address d ∷ ps) = parts_lack c h ps

  expr_lacks : (c : Choices) → Each Lacks c → (e : Expr) → Lacks (with_choices c e)
  expr_lacks c h e = chosen_lacks (gets f) gets_kind c e (parts_lack c h (parts_of e))

  exprs_lack : (c : Choices) → Each Lacks c → (es : List Expr) → AllLack (map (with_choices c) es)
  exprs_lack c h [] = refl
  exprs_lack c h (e ∷ es) = neither (has_part (gets f) (with_choices c e)) _ (expr_lacks c h e) (exprs_lack c h es)

  stmt_lacks : (c : Choices) → Each Lacks c → (stmt : Stmt) → AllLack (exprs_of (stmt_with_choices c stmt))
  stmt_lacks c h (Set l e) = exprs_lack c h (e ∷ [])
  stmt_lacks c h (Fetch l w a) = exprs_lack c h (a ∷ [])
  stmt_lacks c h (Store w a e) = exprs_lack c h (a ∷ e ∷ [])
  stmt_lacks c h (Div l e) = exprs_lack c h (e ∷ [])
  stmt_lacks c h (Call r n es d) = exprs_lack c h es
  stmt_lacks c h (Dos n p None) = refl
  stmt_lacks c h (Dos n p (Some e)) = exprs_lack c h (e ∷ [])

  exit_lacks : (c : Choices) → Each Lacks c → (exit : Exit) → AllLack (exit_exprs (exit_with_choices c exit))
  exit_lacks c h (Goto place) = refl
  exit_lacks c h (If test one other) = exprs_lack c h (test ∷ [])
  exit_lacks c h (Switch e places) = exprs_lack c h (e ∷ [])
  exit_lacks c h (Ret values) = exprs_lack c h values
  exit_lacks c h Stop = refl

  -- Writes.

  unwritten_in : (ls ms : List Loc) → Unwritten ls → Unwritten ms → Unwritten (ls ++ ms)
  unwritten_in ls ms p q = none_in (same_location (Flag f)) ls ms p q

  abbrev NoneWrites : List Stmt → Type 0
  NoneWrites stmts = Unwritten (flat_map writes_of stmts)

  none_writes : (cs ds : List Stmt) → NoneWrites cs → NoneWrites ds → NoneWrites (cs ++ ds)
  none_writes cs ds p q = ap (λ ls. is_among ls (Flag f)) (flat_map-append writes_of cs ds) ∙ unwritten_in (flat_map writes_of cs) (flat_map writes_of ds) p q

  copies_if : (b : Bool) (t u : Taken) → NoneWrites t.copies → NoneWrites u.copies → NoneWrites (if b then t else u).copies
  copies_if true t u p q = p
  copies_if false t u p q = q

  -- copies set temporaries
  copies_write : (bits : List ℕ) (e : Expr) → NoneWrites (taken bits e).copies
  copies_write bits (Const w n) = refl
  copies_write bits (Get l) = refl
  copies_write bits (Load w a) = refl
  copies_write bits (Unary o w a) = copies_if (has_truth (Unary o w a)) _ _ (copies_write bits a) refl
  copies_write bits (Binary o w a b) =
      copies_if (has_truth (Binary o w a b)) _ _ (none_writes (taken bits a).copies _ (copies_write bits a) (copies_write (bits ++ (taken bits a).widths) b)) refl
  copies_write bits (Widen s w a) = copies_if (has_truth a) _ _ (copies_write bits a) refl
  copies_write bits (Part w k a) = copies_if (has_truth a) _ _ (copies_write bits a) refl
  copies_write bits (Join a b) =
      copies_if (has_truth (Join a b)) _ _ (none_writes (taken bits a).copies _ (copies_write bits a) (copies_write (bits ++ (taken bits a).widths) b)) refl
  copies_write bits (Choose x a b) =
      let t = taken bits x in
      let u = taken (bits ++ t.widths) a in
      let v = taken ((bits ++ t.widths) ++ u.widths) b in
      none_writes (t.copies ++ u.copies) v.copies (none_writes t.copies u.copies (copies_write bits x) (copies_write (bits ++ t.widths) a)) (copies_write ((bits ++ t.widths) ++ u.widths) b)
  copies_write bits (Address d) = refl

  -- a division goes to no flag
  no_flag_divided : (old : List ℕ) (e : Expr) → is_dividing old 1 e ≡ true → ⊥
  no_flag_divided old (Binary o w a b) ok =
      let three = both (is_division o && (w == 1) && is_stored_width 1 && is_expr_of old 1 a) (is_expr_of old 1 b) ok in
      let two = both (is_division o && (w == 1) && is_stored_width 1) (is_expr_of old 1 a) three.0 in
      true≢false (sym (both (is_division o && (w == 1)) (is_stored_width 1) two.0).1)
  no_flag_divided old (Const n m) ok = true≢false (sym ok)
  no_flag_divided old (Get l) ok = true≢false (sym ok)
  no_flag_divided old (Load n a) ok = true≢false (sym ok)
  no_flag_divided old (Unary o n a) ok = true≢false (sym ok)
  no_flag_divided old (Widen s n a) ok = true≢false (sym ok)
  no_flag_divided old (Part n k a) ok = true≢false (sym ok)
  no_flag_divided old (Join a b) ok = true≢false (sym ok)
  no_flag_divided old (Choose x a b) ok = true≢false (sym ok)
  no_flag_divided old (Address d) ok = true≢false (sym ok)

  module _ (kept : Kept) (goes : is_kept kept f ≡ false) (old : List ℕ) where
    other_flag : (g : FlagName) → is_kept kept g ≡ true → (flag_number f == flag_number g) ≡ false
    other_flag g kept_g = elim (decided (flag_number f == flag_number g)) [
      | inl same ↦ absurd (true≢false (sym (ap (is_kept kept) (flag_same f g (eqb-true (flag_number f) (flag_number g) same)) ∙ kept_g) ∙ goes))
      | inr other ↦ other
    ]

    abbrev pub is_fine : Stmt → Bool
    is_fine stmt = is_stmt old stmt && not (has_result f stmt)

    values_lack : ValuesHave Lacks is_fine
    values_lack bits c g e fine h = value_lacks (gets f) gets_reads bits (with_choices c e)

    negation : (b : Bool) → not b ≡ true → b ≡ false
    negation true e = absurd (true≢false (sym e))
    negation false e = refl

    kept_so : (b : Bool) → not b ≡ false → b ≡ true
    kept_so true e = refl
    kept_so false e = absurd (true≢false e)

    pub stmt_writes : (c : Choices) (stmt : Stmt) → is_fine stmt ≡ true → goes_with kept stmt ≡ false → Unwritten (writes_of (stmt_with_choices c stmt))
    stmt_writes c (Set (Flag g) e) fine stays = neither (flag_number f == flag_number g) false (other_flag g (kept_so (is_kept kept g) stays)) refl
    stmt_writes c (Set (Half r x) e) fine stays = refl
    stmt_writes c (Set (Cell n x) e) fine stays = refl
    stmt_writes c (Set (Temp n) e) fine stays = refl
    stmt_writes c (Fetch (Flag g) w a) fine stays =
        let three = both (is_stored_width w && (1 == w)) (is_expr_of old 16 a) (both (is_stmt old (Fetch (Flag g) w a)) true fine).0 in
        let two = both (is_stored_width w) (1 == w) three.0 in
        absurd (true≢false (sym (ap is_stored_width (eqb-true 1 w two.1) ∙ two.0)))
    stmt_writes c (Fetch (Half r x) w a) fine stays = refl
    stmt_writes c (Fetch (Cell n x) w a) fine stays = refl
    stmt_writes c (Fetch (Temp n) w a) fine stays = refl
    stmt_writes c (Store w a e) fine stays = refl
    stmt_writes c (Div (Flag g) e) fine stays = absurd (no_flag_divided old e (both (is_stmt old (Div (Flag g) e)) true fine).0)
    stmt_writes c (Div (Half r x) e) fine stays = refl
    stmt_writes c (Div (Cell n x) e) fine stays = refl
    stmt_writes c (Div (Temp n) e) fine stays = refl
    stmt_writes c (Call r n es d) fine stays = negation (is_among r (Flag f)) (both (is_stmt old (Call r n es d)) (not (has_result f (Call r n es d))) fine).1
    stmt_writes c (Dos n None a) fine stays = refl
    stmt_writes c (Dos n (Some (Flag g)) None) fine stays =
        absurd (true≢false (sym (both ((n == 0x01) || (n == 0x08)) false (both (is_stmt old (Dos n (Some (Flag g)) None)) true fine).0).1))
    stmt_writes c (Dos n (Some (Flag g)) (Some e)) fine stays = absurd (true≢false (sym fine))
    stmt_writes c (Dos n (Some (Half r x)) a) fine stays = refl
    stmt_writes c (Dos n (Some (Cell m x)) a) fine stays = refl
    stmt_writes c (Dos n (Some (Temp m)) a) fine stays = refl

    -- Statements.

    -- neither read nor written by these statements
    record Gone (stmts : List Stmt) : Type 0 where
      reads : none_has (gets f) stmts
      writes : NoneWrites stmts

    gone_more : (cs ds : List Stmt) → Gone cs → Gone ds → Gone (cs ++ ds)
    gone_more cs ds p q = record {
      reads = ap (list_any (has_part (gets f))) (flat_map-append exprs_of cs ds) ∙ none_in (has_part (gets f)) (flat_map exprs_of cs) (flat_map exprs_of ds) p.reads q.reads;
      writes = none_writes cs ds p.writes q.writes;
    }

    one_gone : (c : Choices) → Each Lacks c → (stmt : Stmt) → is_fine stmt ≡ true → goes_with kept stmt ≡ false → Gone (stmt_with_choices c stmt ∷ [])
    one_gone c h stmt fine stays = record {
      reads = none_in (has_part (gets f)) (exprs_of (stmt_with_choices c stmt)) [] (stmt_lacks c h stmt) refl;
      writes = unwritten_in (writes_of (stmt_with_choices c stmt)) [] (stmt_writes c stmt fine stays) refl;
    }

    folded_gone : (bits : List ℕ) (c : Choices) → Each Lacks c → (stmt : Stmt) → is_fine stmt ≡ true → Gone (stmt_folded kept bits c stmt).stmts
    folded_gone bits c h (Set (Flag g) e) fine = go (is_kept kept g) refl
      where
        go : (b : Bool) → is_kept kept g ≡ b → Gone (by_kept b bits c g (with_choices c e)).stmts
        go true is = one_gone c h (Set (Flag g) e) fine (ap not is)
        go false is = record { reads = copies_lack (gets f) bits (with_choices c e) (expr_lacks c h e); writes = copies_write bits (with_choices c e) }
    folded_gone bits c h (Set (Half r x) e) fine = one_gone c h (Set (Half r x) e) fine refl
    folded_gone bits c h (Set (Cell n x) e) fine = one_gone c h (Set (Cell n x) e) fine refl
    folded_gone bits c h (Set (Temp n) e) fine = one_gone c h (Set (Temp n) e) fine refl
    folded_gone bits c h (Fetch l w a) fine = one_gone c h (Fetch l w a) fine refl
    folded_gone bits c h (Store w a e) fine = one_gone c h (Store w a e) fine refl
    folded_gone bits c h (Div l e) fine = one_gone c h (Div l e) fine refl
    folded_gone bits c h (Call r n a d) fine = one_gone c h (Call r n a d) fine refl
    folded_gone bits c h (Dos n p a) fine = one_gone c h (Dos n p a) fine refl

    stmts_gone : (bits : List ℕ) (c : Choices) → Each Lacks c → (stmts : List Stmt) → list_all is_fine stmts ≡ true → Gone (stmts_folded kept bits c stmts).stmts
    stmts_gone bits c h [] fine = record { reads = refl; writes = refl }
    stmts_gone bits c h (stmt ∷ rest) fine =
        let parts = both (is_fine stmt) (list_all is_fine rest) fine in
        let first = stmt_folded kept bits c stmt in
        gone_more first.stmts (stmts_folded kept (bits ++ first.widths) first.choices rest).stmts (folded_gone bits c h stmt parts.0)
        (stmts_gone (bits ++ first.widths) first.choices (each_past kept Lacks is_fine values_lack bits c stmt parts.0 h) rest parts.1)

    bare_gone : (c : Choices) → Each Lacks c → (stmts : List Stmt) → list_all is_fine stmts ≡ true → Gone (bare_stmts kept c stmts)
    bare_gone c h [] fine = record { reads = refl; writes = refl }
    bare_gone c h (stmt ∷ rest) fine =
        let parts = both (is_fine stmt) (list_all is_fine rest) fine in
        go (goes_with kept stmt) refl parts.0 (bare_gone c h rest parts.1)
      where
        go : (b : Bool) → goes_with kept stmt ≡ b → is_fine stmt ≡ true → Gone (bare_stmts kept c rest) → Gone (if b then bare_stmts kept c rest else stmt_with_choices c stmt ∷ bare_stmts kept c rest)
        go true is here later = later
        go false is here later = gone_more (stmt_with_choices c stmt ∷ []) (bare_stmts kept c rest) (one_gone c h stmt here is) later

    -- Blocks.

    record Without (before after : Block) : Type 0 where
      stmts : Gone after.stmts
      exit : AllLack (exit_exprs after.exit)

    first_lacks : (temporary : ℕ) (g : FlagName) → Lacks (first_choice kept temporary g)
    first_lacks temporary g = go (is_kept kept g) refl
      where
        go : (b : Bool) → is_kept kept g ≡ b → Lacks (if b then Get (Flag g) else Get (Temp temporary))
        go true is = neither (flag_number f == flag_number g) false (other_flag g is) refl
        go false is = refl

    module _ (graph : Graph) (order : List ℕ) (fine : list_all (λ b. list_all is_fine b.stmts) graph.blocks ≡ true) where
      abbrev first : Choices
      first = first_choices kept (length graph.bits)

      first_each : Each Lacks first
      first_each = record { cf = first_lacks (length graph.bits) Cf; zf = first_lacks (length graph.bits) Zf; sf = first_lacks (length graph.bits) Sf; of = first_lacks (length graph.bits) Of }

      without : AllZip Without graph.blocks (folded_graph kept graph order).blocks
      without = each_block kept Lacks is_fine values_lack graph first first_each Without
          (λ b all. record { stmts = bare_gone first first_each b.stmts all; exit = exit_lacks first first_each b.exit })
          (λ bits c b all h. record {
            stmts = stmts_gone bits c h b.stmts all;
            exit = exit_lacks (stmts_folded kept bits c b.stmts).choices (each_end kept Lacks is_fine values_lack bits c b.stmts all h) b.exit;
          }) fine order

      -- no block reads or writes the flag
      unread_all : (xs ys : List Block) → AllZip Without xs ys → AllLack (flat_map block_exprs ys)
      unread_all [] [] all = refl
      unread_all [] (y ∷ ys) all = absurd all
      unread_all (x ∷ xs) [] all = absurd all
      unread_all (x ∷ xs) (y ∷ ys) all =
          none_in (has_part (gets f)) (block_exprs y) (flat_map block_exprs ys)
          (none_in (has_part (gets f)) (flat_map exprs_of y.stmts) (exit_exprs y.exit) all.0.stmts.reads all.0.exit) (unread_all xs ys all.1)

      unwritten_all : (xs ys : List Block) → AllZip Without xs ys → Unwritten (flat_map (λ b. flat_map writes_of b.stmts) ys)
      unwritten_all [] [] all = refl
      unwritten_all [] (y ∷ ys) all = absurd all
      unwritten_all (x ∷ xs) [] all = absurd all
      unwritten_all (x ∷ xs) (y ∷ ys) all = unwritten_in (flat_map writes_of y.stmts) (flat_map (λ b. flat_map writes_of b.stmts) ys) all.0.stmts.writes (unwritten_all xs ys all.1)

-- Graphs.

module _ (graph : Graph) (is : IsGraph graph) (kept : Kept) (exact : (f : FlagName) → is_kept kept f ≡ false → IsKept graph f → ⊥)
    (f : FlagName) (goes : is_kept kept f ≡ false) where
  no_result : (b : Block) (stmt : Stmt) → Contains graph.blocks b → Contains b.stmts stmt → not (has_result f stmt) ≡ true
  no_result b stmt there at = elim (decided (has_result f stmt)) [
    | inl so ↦ absurd (exact f goes (result there at so))
    | inr not_so ↦ ap not not_so
  ]

  fine_stmts : (b : Block) → Contains graph.blocks b → (stmts : List Stmt) → ((stmt : Stmt) → Contains stmts stmt → Contains b.stmts stmt) → list_all (is_stmt graph.bits) stmts ≡ true
      → list_all (is_fine f kept goes graph.bits) stmts ≡ true
  fine_stmts b there [] at ok = refl
  fine_stmts b there (stmt ∷ rest) at ok =
      let parts = both (is_stmt graph.bits stmt) (list_all (is_stmt graph.bits) rest) ok in
      and_both (is_fine f kept goes graph.bits stmt) (list_all (is_fine f kept goes graph.bits) rest)
      (and_both (is_stmt graph.bits stmt) (not (has_result f stmt)) parts.0 (no_result b stmt there (at stmt (Contains-here stmt rest))))
      (fine_stmts b there rest (λ x c. at x (Contains-later stmt rest x c)) parts.1)

  fine_blocks : (bs : List Block) → ((b : Block) → Contains bs b → Contains graph.blocks b) → list_all (is_block graph.bits (length graph.blocks)) bs ≡ true
      → list_all (λ b. list_all (is_fine f kept goes graph.bits) b.stmts) bs ≡ true
  fine_blocks [] there ok = refl
  fine_blocks (b ∷ bs) there ok =
      let parts = both (is_block graph.bits (length graph.blocks) b) (list_all (is_block graph.bits (length graph.blocks)) bs) ok in
      and_both (list_all (is_fine f kept goes graph.bits) b.stmts) (list_all (λ (x : Block). list_all (is_fine f kept goes graph.bits) x.stmts) bs)
      (fine_stmts b (there b (Contains-here b bs)) b.stmts (λ x c. c) (both (list_all (is_stmt graph.bits) b.stmts) (is_exit graph.bits (length graph.blocks) b.exit) parts.0).0)
      (fine_blocks bs (λ x c. there x (Contains-later b bs x c)) parts.1)

  no_param : is_among (flat_map (λ p. places_of p.put) graph.params) (Flag f) ≡ false
  no_param = elim (decided (is_among (flat_map (λ p. places_of p.put) graph.params) (Flag f))) [
    | inl so ↦ absurd (exact f goes (param so))
    | inr not_so ↦ not_so
  ]

  pub not_mentioned : (order : List ℕ) → mentions (folded_graph kept graph order) f ≡ false
  not_mentioned order =
      let after = folded_graph kept graph order in
      let fine = fine_blocks graph.blocks (λ b c. c) is.blocks in
      let all = without f kept goes graph.bits graph order fine in
      let read = got_is f (graph_exprs after) ∙ unread_all f kept goes graph.bits graph order fine graph.blocks after.blocks all in
      let written = unwritten_all f kept goes graph.bits graph order fine graph.blocks after.blocks all in
      neither (reads (graph_exprs after) (Flag f) || is_among (flat_map (λ (b : Block). flat_map writes_of b.stmts) after.blocks) (Flag f))
      (is_among (flat_map (λ p. places_of p.put) graph.params) (Flag f))
      (neither (reads (graph_exprs after) (Flag f)) (is_among (flat_map (λ (b : Block). flat_map writes_of b.stmts) after.blocks) (Flag f)) read written) no_param
