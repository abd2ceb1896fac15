-- The graph whose blocks are folded: it is well formed, its form stays, and it may stand in the place of the graph.
use Rattle.std.proofs.Common.{◌≡◌, ℕ, zero, suc, ◌<◌, Bool, true, false, ◌&&◌, ◌||◌, not, ◌⊎◌, inl, inr, List, [], ◌∷◌, ◌++◌, length, replicate, Some, refl, sym, ap, ap₂, ◌∙◌, subst, true≢false, map, flat_map, get_or, eq-eqb, eqb-true, lt-ltb, arith, append_assoc, append-nil}
use Rattle.std.specs.Prelude.{if◌then◌else◌, ◌==◌, nat_lt, nat_le, All}
use Rattle.std.specs.List.{AllZip, list_all, list_any}
use Rattle.std.proofs.lemmas.List.{length-map, length-replicate, get_or_past}
use Rattle.std.proofs.lemmas.Bool.{cases_lt}
use Rattle.std.proofs.lemmas.Option.{slice_get-get_or}
use Rattle.dcc_num.specs.declared.FlagName.{FlagName}
use Rattle.dcc_num.specs.declared.FlagName.TheVariants.{Cf, Zf, Sf, Of}
use Rattle.dcc_ir.specs.declared.syntax.Loc.TheVariants.{Half, Flag, Cell, Temp}
use Rattle.dcc_ir.specs.Tree.{Expr, Get, Stmt, Set, Fetch, Store, Div, Call, Dos, Exit, Block, Graph}
use Rattle.dcc_ir.specs.WellFormed.{is_width, is_location, is_put, is_expr, is_stmt, is_exit, is_block, is_jump, jumps_after_call, all_differ, ret_widths, IsGraph}
use Rattle.dcc_ir.specs.Run.{is_call, no_block}
use Rattle.dcc_ir.specs.Flow.{targets}
use Rattle.dcc_ir.specs.Live.{block_in, follows}
use Rattle.dcc_ir.proofs.FitLaws.{both}
use Rattle.dcc_flags.specs.declared.kept.Kept.{Kept}
use Rattle.dcc_ir.specs.Form.{signatures_of, BlockStays, GraphStays}
use Rattle.dcc_flags.specs.Reaching.{Definition, Start, At, begins, IsKept}
use Rattle.dcc_flags.specs.Folding.{is_kept, Choices, choice, with_choices, stmt_with_choices, exit_with_choices, taken, first_choice, first_choices, stmt_folded, stmts_folded, goes_with, bare_stmts, bare_block, Folding, first_folding, fold_block, fold_blocks}
use Rattle.dcc_ir.proofs.ZipLaws.{map_zipped}
use Rattle.dcc_ir.proofs.passes.FormLaws.{get_more, width_more}
use Rattle.dcc_flags.proofs.PlanLaws.{Plan, left_by as plan_left}
use Rattle.dcc_flags.proofs.KeepLaws.{folded_stands}
use Rattle.dcc_ir.specs.Replaced.{MayReplace}
use Rattle.dcc_ir.specs.Location.{location_width}
use Rattle.dcc_ir.specs.declared.syntax.Put.{Put}
use Rattle.dcc_ir.specs.declared.syntax.Put.TheVariants.{Memory, One, Two}
use Rattle.dcc_ir.specs.declared.syntax.Param.{Param}
use Rattle.dcc_ir.proofs.ReachedLaws.{contained}
use Rattle.std.proofs.lemmas.List.Elements.{All-contains, All-head, All-tail, All-from_get_or}
use Rattle.dcc_flow.proofs.FormedExprs.{and_both}
use Rattle.dcc_flags.proofs.ExprLaws.{location_more}
use Rattle.dcc_flags.proofs.TakenLaws.{is_copy, copies_more, all_append, widths_more, le_true, get_at_end, length_at_end}
use Rattle.dcc_flags.proofs.SpotLaws.{Spot, past, Told, Fine, fine_past, fine_wider, def_taken, exprs_still, stmt_still, exit_still, rets_still, targets_still, jump_still}
use Rattle.dcc_flags.proofs.MeetLaws.{by_kept}
use Rattle.dcc_flow.specs.Edges.{successors_of, leads}
use Rattle.dcc_flow.specs.Order.{IsReversePostOrder, comes_before}
use Rattle.dcc_flow.proofs.OrderLaws.{on, under, closed, listed_once, begins as order_begins}
use Rattle.dcc_ir.specs.Flow.{Any}
use Rattle.dcc_ir.proofs.PathLaws.{decided, path_last}
use Rattle.dcc_flags.proofs.GoingLaws.{is_in, in_here, in_later, in_cases, end_of, left_by as going_left, Ordered, over, next_one, after_all, Going, with_start, going_step, going_all, fine_end, stmts_ok, exit_ok, target_below}

-- What stands in place of statements is well formed.

copy_is : (low : ℕ) (bits : List ℕ) (cs : List Stmt) → list_all (is_copy low bits) cs ≡ true → (list_all (is_stmt bits) cs ≡ true) × (flat_map (signatures_of bits) cs ≡ []) × (list_any is_call cs ≡ false)
copy_is low bits [] ok = (refl, refl, refl)
copy_is low bits (Set (Temp n) e ∷ cs) ok =
    let parts = both (is_copy low bits (Set (Temp n) e)) (list_all (is_copy low bits) cs) ok in
    let later = copy_is low bits cs parts.1 in
    (and_both (is_stmt bits (Set (Temp n) e)) (list_all (is_stmt bits) cs) (both (nat_le low n) (is_stmt bits (Set (Temp n) e)) parts.0).1 later.0, later.1, later.2)
copy_is low bits (Set (Half r h) e ∷ cs) ok = absurd (true≢false (sym ok))
copy_is low bits (Set (Flag f) e ∷ cs) ok = absurd (true≢false (sym ok))
copy_is low bits (Set (Cell n h) e ∷ cs) ok = absurd (true≢false (sym ok))
copy_is low bits (Fetch l w a ∷ cs) ok = absurd (true≢false (sym ok))
copy_is low bits (Store w a e ∷ cs) ok = absurd (true≢false (sym ok))
copy_is low bits (Div l e ∷ cs) ok = absurd (true≢false (sym ok))
copy_is low bits (Call r n a d ∷ cs) ok = absurd (true≢false (sym ok))
copy_is low bits (Dos n p a ∷ cs) ok = absurd (true≢false (sym ok))

-- what stands in place of some statements, in a graph with these temporaries
pub record Placed (old bits : List ℕ) (before after : List Stmt) : Type 0 where
  pub stmts : list_all (is_stmt bits) after ≡ true
  pub calls : flat_map (signatures_of bits) after ≡ flat_map (signatures_of old) before
  pub any : list_any is_call after ≡ list_any is_call before
  pub jumps : (exit exit' : Exit) → is_jump exit' ≡ is_jump exit → jumps_after_call before exit ≡ true → jumps_after_call after exit' ≡ true

nothing_placed : (old bits : List ℕ) → Placed old bits [] []
nothing_placed old bits = record { stmts = refl; calls = refl; any = refl; jumps = λ exit exit' same ok. refl }

-- statements without a call before others
without_calls : (cs rest : List Stmt) (exit : Exit) → list_any is_call cs ≡ false → jumps_after_call rest exit ≡ true → jumps_after_call (cs ++ rest) exit ≡ true
without_calls [] rest exit none ok = ok
without_calls (stmt ∷ cs) rest exit none ok = go (is_call stmt) none (λ none'. without_calls cs rest exit none' ok)
  where
    go : (b : Bool) → (b || list_any is_call cs) ≡ false → (list_any is_call cs ≡ false → jumps_after_call (cs ++ rest) exit ≡ true) → (if b then not (list_any is_call (cs ++ rest)) && is_jump exit else jumps_after_call (cs ++ rest) exit) ≡ true
    go true none later = absurd (true≢false none)
    go false none later = later none

any_append : (cs rest : List Stmt) → list_any is_call cs ≡ false → list_any is_call (cs ++ rest) ≡ list_any is_call rest
any_append [] rest none = refl
any_append (stmt ∷ cs) rest none = go (is_call stmt) none (λ later. any_append cs rest later)
  where
    go : (b : Bool) → (b || list_any is_call cs) ≡ false → (list_any is_call cs ≡ false → list_any is_call (cs ++ rest) ≡ list_any is_call rest) → (b || list_any is_call (cs ++ rest)) ≡ list_any is_call rest
    go true none later = absurd (true≢false none)
    go false none later = later none

flat_append : (bits : List ℕ) (cs rest : List Stmt) → flat_map (signatures_of bits) cs ≡ [] → flat_map (signatures_of bits) (cs ++ rest) ≡ flat_map (signatures_of bits) rest
flat_append bits [] rest none = refl
flat_append bits (Call r n a d ∷ cs) rest none = absurd (cc)
flat_append bits (Set l e ∷ cs) rest none = flat_append bits cs rest none
flat_append bits (Fetch l w a ∷ cs) rest none = flat_append bits cs rest none
flat_append bits (Store w a e ∷ cs) rest none = flat_append bits cs rest none
flat_append bits (Div l e ∷ cs) rest none = flat_append bits cs rest none
flat_append bits (Dos n p a ∷ cs) rest none = flat_append bits cs rest none

-- a statement that stays, before others
stays_before : (old bits : List ℕ) (stmt stmt' : Stmt) (before after : List Stmt) → is_stmt bits stmt' ≡ true → is_call stmt' ≡ is_call stmt → signatures_of bits stmt' ≡ signatures_of old stmt → Placed old bits before after → Placed old bits (stmt ∷ before) (stmt' ∷ after)
stays_before old bits stmt stmt' before after ok same called p = record {
  stmts = and_both (is_stmt bits stmt') (list_all (is_stmt bits) after) ok p.stmts;
  calls = ap₂ (λ x y. x ++ y) called p.calls;
  any = ap₂ (λ x y. x || y) same p.any;
  jumps = λ exit exit' e jump. subst (λ b. (if b then not (list_any is_call after) && is_jump exit' else jumps_after_call after exit') ≡ true) (sym same)
      (go (is_call stmt) exit exit' e jump);
}
  where
    go : (b : Bool) (exit exit' : Exit) → is_jump exit' ≡ is_jump exit → (if b then not (list_any is_call before) && is_jump exit else jumps_after_call before exit) ≡ true → (if b then not (list_any is_call after) && is_jump exit' else jumps_after_call after exit') ≡ true
    go true exit exit' e ok = ap₂ (λ x y. not x && y) p.any e ∙ ok
    go false exit exit' e ok = p.jumps exit exit' e ok

-- an assignment that goes, or copies in its place, before others
goes_before : (old bits : List ℕ) (stmt : Stmt) (cs before after : List Stmt) → is_call stmt ≡ false → signatures_of old stmt ≡ [] → list_all (is_stmt bits) cs ≡ true → flat_map (signatures_of bits) cs ≡ [] → list_any is_call cs ≡ false → Placed old bits before after → Placed old bits (stmt ∷ before) (cs ++ after)
goes_before old bits stmt cs before after no_call called ok none_called none p = record {
  stmts = all_append (is_stmt bits) cs after ok p.stmts;
  calls = flat_append bits cs after none_called ∙ p.calls ∙ sym (ap (λ l. l ++ flat_map (signatures_of old) before) called);
  any = any_append cs after none ∙ p.any ∙ sym (ap (λ b. b || list_any is_call before) no_call);
  jumps = λ exit exit' e jump. without_calls cs after exit' none (p.jumps exit exit' e (subst (λ b. (if b then not (list_any is_call before) && is_jump exit else jumps_after_call before exit) ≡ true) no_call jump));
}

module _ (old : List ℕ) (kept : Kept) where
  same_call : (c : Choices) (stmt : Stmt) → is_call (stmt_with_choices c stmt) ≡ is_call stmt
  same_call c (Set l e) = refl
  same_call c (Fetch l w a) = refl
  same_call c (Store w a e) = refl
  same_call c (Div l e) = refl
  same_call c (Call r n a d) = refl
  same_call c (Dos n p a) = refl

  same_signature : (w : Spot) → Fine old kept w → (stmt : Stmt) → is_stmt old stmt ≡ true → signatures_of w.bits (stmt_with_choices w.choices stmt) ≡ signatures_of old stmt
  same_signature w h (Set l e) ok = refl
  same_signature w h (Fetch l n a) ok = refl
  same_signature w h (Store n a e) ok = refl
  same_signature w h (Div l e) ok = refl
  same_signature w h (Call results entry arguments depth) ok =
      let two = both (list_all (is_location old) results && list_all (is_expr old) arguments) (nat_lt depth 65536) ok in
      let one = both (list_all (is_location old) results) (list_all (is_expr old) arguments) two.0 in
      ap (λ ws. record { results = results; entry = entry; widths = ws; depth = depth } ∷ []) (exprs_still old kept w h arguments one.1).1
  same_signature w h (Dos n p a) ok = refl

  -- the bare statements
  pub bare_placed : (w : Spot) → Fine old kept w → (stmts : List Stmt) → list_all (is_stmt old) stmts ≡ true → Placed old w.bits stmts (bare_stmts kept w.choices stmts)
  bare_placed w h [] ok = nothing_placed old w.bits
  bare_placed w h (stmt ∷ stmts) ok =
      let parts = both (is_stmt old stmt) (list_all (is_stmt old) stmts) ok in
      let later = bare_placed w h stmts parts.1 in
      go stmt parts.0 later (goes_with kept stmt) refl
    where
      stay : (stmt : Stmt) → is_stmt old stmt ≡ true → Placed old w.bits stmts (bare_stmts kept w.choices stmts) → Placed old w.bits (stmt ∷ stmts) (stmt_with_choices w.choices stmt ∷ bare_stmts kept w.choices stmts)
      stay stmt ok later = stays_before old w.bits stmt (stmt_with_choices w.choices stmt) stmts (bare_stmts kept w.choices stmts) (stmt_still old kept w h stmt ok) (same_call w.choices stmt) (same_signature w h stmt ok) later

      leave : (stmt : Stmt) → goes_with kept stmt ≡ true → Placed old w.bits stmts (bare_stmts kept w.choices stmts) → Placed old w.bits (stmt ∷ stmts) (bare_stmts kept w.choices stmts)
      leave (Set (Flag f) e) so later = goes_before old w.bits (Set (Flag f) e) [] stmts (bare_stmts kept w.choices stmts) refl refl refl refl refl later
      leave (Set (Half r x) e) so later = absurd (true≢false (sym so))
      leave (Set (Cell n x) e) so later = absurd (true≢false (sym so))
      leave (Set (Temp n) e) so later = absurd (true≢false (sym so))
      leave (Fetch l n a) so later = absurd (true≢false (sym so))
      leave (Store n a e) so later = absurd (true≢false (sym so))
      leave (Div l e) so later = absurd (true≢false (sym so))
      leave (Call r n a d) so later = absurd (true≢false (sym so))
      leave (Dos n p a) so later = absurd (true≢false (sym so))

      go : (stmt : Stmt) → is_stmt old stmt ≡ true → Placed old w.bits stmts (bare_stmts kept w.choices stmts) → (b : Bool) → goes_with kept stmt ≡ b →
          Placed old w.bits (stmt ∷ stmts) (if b then bare_stmts kept w.choices stmts else stmt_with_choices w.choices stmt ∷ bare_stmts kept w.choices stmts)
      go stmt ok later true so = leave stmt so later
      go stmt ok later false so = stay stmt ok later

  -- the folded statements, in a graph with further temporaries
  pub folded_placed : (bits : List ℕ) → list_all is_width bits ≡ true → (stmts : List Stmt) (w : Spot) → Fine old kept w → list_all (is_stmt old) stmts ≡ true → (more : List ℕ) → bits ≡ (w.bits ++ (stmts_folded kept w.bits w.choices stmts).widths) ++ more →
      Placed old bits stmts (stmts_folded kept w.bits w.choices stmts).stmts
  folded_placed bits all [] w h ok more is = nothing_placed old bits
  folded_placed bits all (stmt ∷ stmts) w h ok more is =
      let parts = both (is_stmt old stmt) (list_all (is_stmt old) stmts) ok in
      let f = stmt_folded kept w.bits w.choices stmt in
      let ws = (stmts_folded kept (w.bits ++ f.widths) f.choices stmts).widths in
      let later = folded_placed bits all stmts (past kept w stmt) (fine_past old kept w h stmt parts.0) parts.1 more (is ∙ ap (λ l. l ++ more) (sym (append_assoc w.bits f.widths ws))) in
      first stmt parts.0 (ws ++ more) (is ∙ ap (λ l. l ++ more) (sym (append_assoc w.bits f.widths ws)) ∙ append_assoc (w.bits ++ f.widths) ws more) (stmts_folded kept (w.bits ++ f.widths) f.choices stmts).stmts later
    where
      stay : (stmt : Stmt) → is_stmt old stmt ≡ true → (rest : List ℕ) → bits ≡ w.bits ++ rest → (after : List Stmt) → Placed old bits stmts after → Placed old bits (stmt ∷ stmts) (stmt_with_choices w.choices stmt ∷ after)
      stay stmt ok rest e after later =
          let wide = fine_wider old kept w rest h (subst (λ l. list_all is_width l ≡ true) e all) in
          let big : Spot = record { bits = w.bits ++ rest; choices = w.choices } in
          stays_before old bits stmt (stmt_with_choices w.choices stmt) stmts after (subst (λ l. is_stmt l (stmt_with_choices w.choices stmt) ≡ true) (sym e) (stmt_still old kept big wide stmt ok)) (same_call w.choices stmt)
          (subst (λ l. signatures_of l (stmt_with_choices w.choices stmt) ≡ signatures_of old stmt) (sym e) (same_signature big wide stmt ok)) later

      def : (g : FlagName) (e : Expr) → is_stmt old (Set (Flag g) e) ≡ true → (x : Bool) → is_kept kept g ≡ x → (rest : List ℕ) → bits ≡ (w.bits ++ (by_kept x w.bits w.choices g (with_choices w.choices e)).widths) ++ rest → (after : List Stmt) → Placed old bits stmts after →
          Placed old bits (Set (Flag g) e ∷ stmts) ((by_kept x w.bits w.choices g (with_choices w.choices e)).stmts ++ after)
      def g e ok true so rest is after later = stay (Set (Flag g) e) ok rest (is ∙ ap (λ l. l ++ rest) (append-nil w.bits)) after later
      def g e ok false so rest is after later =
          let t = taken w.bits (with_choices w.choices e) in
          let it = def_taken old kept w h g e ok in
          let cs = copy_is (length w.bits) bits t.copies (subst (λ l. list_all (is_copy (length w.bits) l) t.copies ≡ true) (sym is) (copies_more (length w.bits) (w.bits ++ t.widths) rest t.copies it.copies)) in
          goes_before old bits (Set (Flag g) e) t.copies stmts after refl refl cs.0 cs.1 cs.2 later

      first : (stmt : Stmt) → is_stmt old stmt ≡ true → (rest : List ℕ) → bits ≡ (w.bits ++ (stmt_folded kept w.bits w.choices stmt).widths) ++ rest → (after : List Stmt) → Placed old bits stmts after →
          Placed old bits (stmt ∷ stmts) ((stmt_folded kept w.bits w.choices stmt).stmts ++ after)
      first (Set (Flag g) e) ok rest is after later = def g e ok (is_kept kept g) refl rest is after later
      first (Set (Half r x) e) ok rest is after later = stay (Set (Half r x) e) ok rest (is ∙ ap (λ l. l ++ rest) (append-nil w.bits)) after later
      first (Set (Cell n x) e) ok rest is after later = stay (Set (Cell n x) e) ok rest (is ∙ ap (λ l. l ++ rest) (append-nil w.bits)) after later
      first (Set (Temp n) e) ok rest is after later = stay (Set (Temp n) e) ok rest (is ∙ ap (λ l. l ++ rest) (append-nil w.bits)) after later
      first (Fetch l n a) ok rest is after later = stay (Fetch l n a) ok rest (is ∙ ap (λ l. l ++ rest) (append-nil w.bits)) after later
      first (Store n a e) ok rest is after later = stay (Store n a e) ok rest (is ∙ ap (λ l. l ++ rest) (append-nil w.bits)) after later
      first (Div l e) ok rest is after later = stay (Div l e) ok rest (is ∙ ap (λ l. l ++ rest) (append-nil w.bits)) after later
      first (Call r n a d) ok rest is after later = stay (Call r n a d) ok rest (is ∙ ap (λ l. l ++ rest) (append-nil w.bits)) after later
      first (Dos n p a) ok rest is after later = stay (Dos n p a) ok rest (is ∙ ap (λ l. l ++ rest) (append-nil w.bits)) after later

-- The order of the blocks.

-- the successors of a block in their list
listed_targets : (bs : List Block) (a : ℕ) → get_or (map (λ (b : Block). targets b.exit) bs) a [] ≡ targets (get_or bs a no_block).exit
listed_targets [] a = refl
listed_targets (b ∷ bs) zero = refl
listed_targets (b ∷ bs) (suc a) = listed_targets bs a

module _ (graph : Graph) (is : IsGraph graph) (order : List ℕ) (searched : IsReversePostOrder graph order) where
  abbrev next : List (List ℕ)
  next = successors_of graph

  leads_follows : (a b : ℕ) → leads next a b ≡ true → follows graph a b ≡ true
  leads_follows a b h = ap (λ l. list_any (λ m. m == b) l) (sym (listed_targets graph.blocks a)) ∙ h

  -- a listed block but the first has one before it that leads to it
  record HasParent (x : ℕ) : Type 0 where
    parent : ℕ
    edge : follows graph parent x ≡ true
    earlier : comes_before order parent x ≡ true

  parent_of : (x : ℕ) → is_in order x ≡ true → (x ≡ 0) ⊎ HasParent x
  parent_of x listed =
      let u = under next searched x listed in
      let zeroth : 0 ≡ u.root = root_is u.root u.chosen in
      elim u.way [
        | inl e ↦ inl (sym (zeroth ∙ e))
        | inr way ↦
            let last = path_last (on next order) Any u.root way.0 x way.1 in
            let parts = both (leads next last.0 x) (comes_before order last.0 x) last.1 in
            inr (record { parent = last.0; edge = leads_follows last.0 x parts.0; earlier = parts.1 })
      ]
    where
      root_is : (n : ℕ) → is_in (0 ∷ []) n ≡ true → 0 ≡ n
      root_is n e = eqb-true 0 n (or_nil (0 == n) e)
        where
          or_nil : (b : Bool) → (b || false) ≡ true → b ≡ true
          or_nil true e = refl
          or_nil false e = e

  differ_head : (p : ℕ) (rest : List ℕ) → all_differ (p ∷ rest) ≡ true → (is_in rest p ≡ false) × (all_differ rest ≡ true)
  differ_head p rest e = let parts = both (not (list_any (λ m. p == m) rest)) (all_differ rest) e in (out rest parts.0, parts.1)
    where
      out : (rest : List ℕ) → not (list_any (λ m. p == m) rest) ≡ true → is_in rest p ≡ false
      out [] e = refl
      out (m ∷ rest) e = go (p == m) refl e (λ e. out rest e)
        where
          go : (b : Bool) → (p == m) ≡ b → not (b || list_any (λ m. p == m) rest) ≡ true → (not (list_any (λ m. p == m) rest) ≡ true → is_in rest p ≡ false) → ((m == p) || is_in rest p) ≡ false
          go true same e later = absurd (true≢false (sym e))
          go false other e later = elim (decided (m == p)) [
            | inl back ↦ absurd (true≢false (sym (eq-eqb p m (sym (eqb-true m p back))) ∙ other))
            | inr back ↦ ap (λ b. b || is_in rest p) back ∙ later e
          ]

  comes_in : (xs : List ℕ) (a b : ℕ) → comes_before xs a b ≡ true → is_in xs b ≡ true
  comes_in [] a b e = absurd (true≢false (sym e))
  comes_in (x ∷ xs) a b e = go ((x == a) && is_in xs b) refl e (λ later. comes_in xs a b later)
    where
      later_in : is_in xs b ≡ true → ((x == b) || is_in xs b) ≡ true
      later_in e = elim (x == b) as (λ z. (z || is_in xs b) ≡ true) [ true ↦ refl | false ↦ e ]

      go : (z : Bool) → ((x == a) && is_in xs b) ≡ z → (z || comes_before xs a b) ≡ true → (comes_before xs a b ≡ true → is_in xs b ≡ true) → ((x == b) || is_in xs b) ≡ true
      go true here e later = later_in (both (x == a) (is_in xs b) here).1
      go false there e later = later_in (later e)

  abbrev Early : List ℕ → List ℕ → ℕ → Type 0
  Early before rest x = (parent : ℕ) × (follows graph parent x ≡ true) × ((is_in before parent ≡ true) ⊎ (comes_before rest parent x ≡ true))

  ordered_from : (before rest : List ℕ) → ((x : ℕ) → is_in rest x ≡ true → Early before rest x) → all_differ rest ≡ true → ((x : ℕ) → is_in rest x ≡ true → is_in before x ≡ false) → ((x : ℕ) → is_in rest x ≡ true → x < length graph.blocks) → Ordered graph before rest
  ordered_from before [] early differ apart below = over
  ordered_from before (p ∷ rest) early differ apart below =
      let heads = differ_head p rest differ in
      let here : is_in (p ∷ rest) p ≡ true = ap (λ b. b || is_in rest p) (eq-eqb p p refl) in
      let e = early p here in
      next_one e.0 (first_parent e.0 e.2 heads.0) e.1 (apart p here) (below p here)
      (ordered_from (p ∷ before) rest
      (λ x listed. let y = early x (later_in x listed) in (y.0, y.1, later_parent x y.0 listed y.2))
      heads.1
      (λ x listed. not_head x listed heads.0)
      (λ x listed. below x (later_in x listed)))
    where
      later_in : (x : ℕ) → is_in rest x ≡ true → is_in (p ∷ rest) x ≡ true
      later_in x e = elim (p == x) as (λ z. (z || is_in rest x) ≡ true) [ true ↦ refl | false ↦ e ]

      first_parent : (parent : ℕ) → (is_in before parent ≡ true) ⊎ (comes_before (p ∷ rest) parent p ≡ true) → is_in rest p ≡ false → is_in before parent ≡ true
      first_parent parent (inl known) out = known
      first_parent parent (inr comes) out = go ((p == parent) && is_in rest p) refl comes
        where
          go : (z : Bool) → ((p == parent) && is_in rest p) ≡ z → (z || comes_before rest parent p) ≡ true → is_in before parent ≡ true
          go true here e = absurd (true≢false (sym (both (p == parent) (is_in rest p) here).1 ∙ out))
          go false there e = absurd (true≢false (sym (comes_in rest parent p e) ∙ out))

      later_parent : (x parent : ℕ) → is_in rest x ≡ true → (is_in before parent ≡ true) ⊎ (comes_before (p ∷ rest) parent x ≡ true) → (is_in (p ∷ before) parent ≡ true) ⊎ (comes_before rest parent x ≡ true)
      later_parent x parent listed (inl known) = inl (elim (p == parent) as (λ z. (z || is_in before parent) ≡ true) [ true ↦ refl | false ↦ known ])
      later_parent x parent listed (inr comes) = go ((p == parent) && is_in rest x) refl comes
        where
          go : (z : Bool) → ((p == parent) && is_in rest x) ≡ z → (z || comes_before rest parent x) ≡ true → (is_in (p ∷ before) parent ≡ true) ⊎ (comes_before rest parent x ≡ true)
          go true here e = inl (ap (λ b. b || is_in before parent) (both (p == parent) (is_in rest x) here).0)
          go false there e = inr e

      not_head : (x : ℕ) → is_in rest x ≡ true → is_in rest p ≡ false → is_in (p ∷ before) x ≡ false
      not_head x listed out = elim (decided (p == x)) [
        | inl same ↦ absurd (true≢false (sym listed ∙ ap (is_in rest) (sym (eqb-true p x same)) ∙ out))
        | inr other ↦ ap (λ b. b || is_in before x) other ∙ apart x (later_in x listed)
      ]

  -- a block that edges lead to is one of the graph
  follows_below : (none : Choices) (kept : Kept) (p t : ℕ) → follows graph p t ≡ true → t < length graph.blocks
  follows_below none kept p t so = elim (cases_lt p (length graph.blocks)) [
    | inl less ↦ target_below graph kept is none p t less so
    | inr past_it ↦ absurd (true≢false (sym so ∙ ap (λ (b : Block). list_any (λ m. m == t) (targets b.exit)) (get_or_past graph.blocks p no_block past_it)))
  ]

  pub listed_below : (none : Choices) (kept : Kept) (x : ℕ) → is_in order x ≡ true → x < length graph.blocks
  listed_below none kept x listed = elim (parent_of x listed) [
    | inl zeroth ↦ subst (λ n. n < length graph.blocks) (sym zeroth) is.begins
    | inr h ↦ follows_below none kept h.parent x h.edge
  ]

  zip_from : (R : Block → Block → Type 0) (xs ys : List Block) → length ys ≡ length xs → ((i : ℕ) → i < length xs → R (get_or xs i no_block) (get_or ys i no_block)) → AllZip R xs ys
  zip_from R [] [] len each = tt
  zip_from R [] (y ∷ ys) len each = absurd (cc)
  zip_from R (x ∷ xs) [] len each = absurd (cc)
  zip_from R (x ∷ xs) (y ∷ ys) len each = (each 0 (omega arith), zip_from R xs ys (cc) (λ i less. each (suc i) (omega arith)))

  module _ (kept : Kept) (exact : (f : FlagName) → is_kept kept f ≡ false → IsKept graph f → ⊥) where
    abbrev old : List ℕ
    old = graph.bits

    abbrev pub none : Choices
    none = first_choices kept (length old)

    abbrev pub s0 : Folding
    s0 = first_folding kept none graph

    abbrev pub no_start : ℕ → Spot
    no_start b = record { bits = []; choices = none }

    first_told : (f : FlagName) → Told old kept s0.bits f (first_choice kept (length old) f)
    first_told f = go (is_kept kept f) refl
      where
        go : (z : Bool) → is_kept kept f ≡ z → Told old kept s0.bits f (if z then Get (Flag f) else Get (Temp (length old)))
        go true so = record { kept_is = λ _. refl; over = λ n. absurd (true≢false (sym so ∙ n)); formed = refl; width = refl }
        go false so =
            let long = length_at_end old 1 in
            let below : nat_lt (length old) (length (old ++ 1 ∷ [])) ≡ true = lt-ltb (length old) (length (old ++ 1 ∷ [])) (omega arith) in
            record {
              kept_is = λ y. absurd (true≢false (sym y ∙ so));
              over = λ n. and_both (nat_le (length old) (length old)) (nat_lt (length old) (length (old ++ 1 ∷ []))) (le_true (length old) (length old) (omega arith)) below;
              formed = below;
              width = get_at_end old 1;
            }

    pub none_is : (f : FlagName) → choice none f ≡ first_choice kept (length old) f
    none_is Cf = refl
    none_is Zf = refl
    none_is Sf = refl
    none_is Of = refl

    first_fine : Fine old kept (record { bits = s0.bits; choices = none })
    first_fine = record {
      widths = widths_more old (1 ∷ []) is.bits refl;
      fresh = 1 ∷ [];
      bits = refl;
      told = λ f. subst (Told old kept s0.bits f) (sym (none_is f)) (first_told f);
    }

    nothing_in : (b : ℕ) → is_in [] b ≡ true → ⊥
    nothing_in b e = true≢false (sym e)

    map_bare : (bs : List Block) (b : ℕ) → get_or (map (bare_block kept none) bs) b no_block ≡ bare_block kept none (get_or bs b no_block)
    map_bare [] b = refl
    map_bare (x ∷ bs) zero = refl
    map_bare (x ∷ bs) (suc b) = map_bare bs b

    pub repeated : (n b : ℕ) → get_or (replicate n none) b none ≡ none
    repeated zero b = refl
    repeated (suc n) zero = refl
    repeated (suc n) (suc b) = repeated n b

    pub going_nothing : Going graph kept is none [] no_start s0
    going_nothing = record {
      count = length-map graph.blocks (bare_block kept none);
      given_count = length-replicate (length graph.blocks) none;
      within = λ b e. absurd (nothing_in b e);
      placed = λ b e. absurd (nothing_in b e);
      bare = λ b e. map_bare graph.blocks b;
      fine = λ b e. absurd (nothing_in b e);
      above = λ b e. absurd (nothing_in b e);
      prefix = λ b e. absurd (nothing_in b e);
      apart = λ b c e f g. absurd (nothing_in b e);
      agrees = λ b e. absurd (nothing_in b e);
      given_next = λ b t e. absurd (nothing_in b e);
      widths = widths_more old (1 ∷ []) is.bits refl;
      first = ([], refl);
    }

    pub start_first : ℕ → Spot
    start_first = with_start graph kept is none no_start 0 (record { bits = s0.bits; choices = get_or s0.given 0 none })

    pub fine_first : Fine old kept (record { bits = s0.bits; choices = get_or s0.given 0 none })
    fine_first = subst (λ c. Fine old kept (record { bits = s0.bits; choices = c })) (sym (repeated (length graph.blocks) 0)) first_fine

    pub going_first : Going graph kept is none (0 ∷ []) start_first (fold_block kept graph none s0 0)
    unfolding start_first
    going_first = going_step graph kept is none [] no_start s0 going_nothing 0 refl is.begins fine_first
        (λ f no_f. record { definition = Start; reaches = begins; known = tt; left = ap (λ c. choice c f) (repeated (length graph.blocks) 0) ∙ none_is f ∙ ap (λ z. if z then Get (Flag f) else Get (Temp (length old))) no_f })
        (fine_end graph kept is none exact start_first 0 is.begins fine_first)

    -- the order begins with the first block
    pub tail_of : (rest : List ℕ) × (order ≡ 0 ∷ rest)
    tail_of = order_begins next searched refl

    abbrev pub folded : Folding
    folded = fold_blocks kept graph none s0 order

    abbrev pub after : Graph
    after = record graph { blocks = folded.blocks; bits = folded.bits }

    rest_in : (x : ℕ) → is_in (tail_of.0) x ≡ true → is_in order x ≡ true
    rest_in x e = ap (λ l. is_in l x) (tail_of.1) ∙ elim (0 == x) as (λ z. (z || is_in (tail_of.0) x) ≡ true) [ true ↦ refl | false ↦ e ]

    pub rest_ordered : Ordered graph (0 ∷ []) (tail_of.0)
    rest_ordered =
        let once = subst (λ l. all_differ l ≡ true) (tail_of.1) (listed_once next searched) in
        let heads = differ_head 0 (tail_of.0) once in
        ordered_from (0 ∷ []) (tail_of.0)
        (λ x listed. early x listed heads.0 (parent_of x (rest_in x listed)))
        heads.1
        (λ x listed. ap (λ b. b || false) (apart_zero x listed heads.0))
        (λ x listed. listed_below none kept x (rest_in x listed))
      where
        apart_zero : (x : ℕ) → is_in (tail_of.0) x ≡ true → is_in (tail_of.0) 0 ≡ false → (0 == x) ≡ false
        apart_zero x listed out = elim (decided (0 == x)) [
          | inl same ↦ absurd (true≢false (sym listed ∙ ap (is_in (tail_of.0)) (sym (eqb-true 0 x same)) ∙ out))
          | inr other ↦ other
        ]

        early : (x : ℕ) → is_in (tail_of.0) x ≡ true → is_in (tail_of.0) 0 ≡ false → (x ≡ 0) ⊎ HasParent x → Early (0 ∷ []) (tail_of.0) x
        early x listed out (inl zeroth) = absurd (true≢false (sym listed ∙ ap (is_in (tail_of.0)) zeroth ∙ out))
        early x listed out (inr h) = (h.parent, h.edge, go ((0 == h.parent) && is_in (tail_of.0) x) refl (ap (λ l. comes_before l h.parent x) (sym (tail_of.1)) ∙ h.earlier))
          where
            go : (z : Bool) → ((0 == h.parent) && is_in (tail_of.0) x) ≡ z → (z || comes_before (tail_of.0) h.parent x) ≡ true → (is_in (0 ∷ []) h.parent ≡ true) ⊎ (comes_before (tail_of.0) h.parent x ≡ true)
            go true here e = inl (ap (λ b. b || false) (both (0 == h.parent) (is_in (tail_of.0) x) here).0)
            go false there e = inr e

    pub going_whole : (start : ℕ → Spot) × Going graph kept is none (after_all (0 ∷ []) (tail_of.0)) start folded
    going_whole =
        let g = going_all graph kept is none exact (0 ∷ []) start_first (fold_block kept graph none s0 0) (tail_of.0) rest_ordered going_first in
        (g.0, subst (λ l. Going graph kept is none (after_all (0 ∷ []) (tail_of.0)) g.0 (fold_blocks kept graph none s0 l)) (sym (tail_of.1)) g.1)

    abbrev pub known : List ℕ
    known = after_all (0 ∷ []) (tail_of.0)

    -- the blocks that are known are those that the order lists
    known_kept : (before rest : List ℕ) (x : ℕ) → is_in before x ≡ true → is_in (after_all before rest) x ≡ true
    known_kept before [] x e = e
    known_kept before (p ∷ rest) x e = known_kept (p ∷ before) rest x (in_later p x before e)

    known_listed : (before rest : List ℕ) (x : ℕ) → is_in rest x ≡ true → is_in (after_all before rest) x ≡ true
    known_listed before [] x e = absurd (true≢false (sym e))
    known_listed before (p ∷ rest) x e = in_cases p x rest (is_in (after_all (p ∷ before) rest) x ≡ true)
        (λ same. known_kept (p ∷ before) rest x (in_here p x before same)) (λ other later. known_listed (p ∷ before) rest x later) e

    listed_known : (before rest : List ℕ) (x : ℕ) → is_in (after_all before rest) x ≡ true → (is_in before x ≡ true) ⊎ (is_in rest x ≡ true)
    listed_known before [] x e = inl e
    listed_known before (p ∷ rest) x e = elim (listed_known (p ∷ before) rest x e) [
      | inl there ↦ in_cases p x before ((is_in before x ≡ true) ⊎ (is_in (p ∷ rest) x ≡ true)) (λ same. inr (in_here p x rest same)) (λ other later. inl later) there
      | inr there ↦ inr (in_later p x rest there)
    ]

    known_order : (x : ℕ) → is_in known x ≡ true → is_in order x ≡ true
    known_order x e = ap (λ l. is_in l x) (tail_of.1) ∙ go (listed_known (0 ∷ []) (tail_of.0) x e)
      where
        go : (is_in (0 ∷ []) x ≡ true) ⊎ (is_in (tail_of.0) x ≡ true) → is_in (0 ∷ tail_of.0) x ≡ true
        go (inl zeroth) = in_cases 0 x [] (is_in (0 ∷ tail_of.0) x ≡ true) (λ same. in_here 0 x (tail_of.0) same) (λ other later. absurd (true≢false (sym later))) zeroth
        go (inr later) = in_later 0 x (tail_of.0) later

    order_known : (x : ℕ) → is_in order x ≡ true → is_in known x ≡ true
    order_known x e = in_cases 0 x (tail_of.0) (is_in known x ≡ true)
        (λ same. known_kept (0 ∷ []) (tail_of.0) x (in_here 0 x [] same)) (λ other later. known_listed (0 ∷ []) (tail_of.0) x later) (ap (λ l. is_in l x) (sym (tail_of.1)) ∙ e)

    follows_leads : (a b : ℕ) → follows graph a b ≡ true → leads next a b ≡ true
    follows_leads a b h = ap (λ l. list_any (λ m. m == b) l) (listed_targets graph.blocks a) ∙ h

    known_edges : (b c : ℕ) → is_in known b ≡ true → follows graph b c ≡ true → is_in known c ≡ true
    known_edges b c e edge = elim (closed next searched b c (known_order b e) (follows_leads b c edge)) [
      | inl listed ↦ order_known c listed
      | inr seen ↦ absurd (true≢false (sym seen))
    ]

    abbrev pub starts : ℕ → Spot
    starts = going_whole.0

    abbrev pub going : Going graph kept is none known starts folded
    going = going_whole.1

    fill_is : get_or after.bits (length old) 0 ≡ 1
    fill_is =
        let long = length_at_end old 1 in
        let e = going.first.1 ∙ sym (append_assoc old (1 ∷ []) going.first.0) in
        ap (λ l. get_or l (length old) 0) e ∙ get_more (old ++ 1 ∷ []) going.first.0 (length old) (omega arith) ∙ get_at_end old 1

    the_plan : Plan graph after kept
    the_plan = record {
      widths = going.widths;
      fill = fill_is;
      known = is_in known;
      start = starts;
      first = known_kept (0 ∷ []) (tail_of.0) 0 refl;
      edges = known_edges;
      within = λ b e. slice_get-get_or graph.blocks b no_block (going.within b e);
      placed = λ b e. slice_get-get_or folded.blocks b no_block (subst (λ n. b < n) (sym going.count) (going.within b e)) ∙ ap Some (going.placed b e);
      fine = going.fine;
      above = going.above;
      prefix = going.prefix;
      apart = going.apart;
      agrees = λ b e f no_f. let x = going.agrees b e f no_f in record { definition = x.definition; reaches = x.reaches; left = x.left ∙ same_left f x.definition };
    }
      where
        same_left : (f : FlagName) (d : Definition) → going_left graph kept is none starts f d ≡ plan_left graph after kept starts f d
        same_left f Start = refl
        same_left f (At x j) = refl

    -- Each block.

    record Fits (b : ℕ) : Type 0 where
      stays : BlockStays old after.bits (block_in graph b) (get_or folded.blocks b no_block)
      fine : is_block after.bits (length folded.blocks) (get_or folded.blocks b no_block) ≡ true
      jumps : jumps_after_call (get_or folded.blocks b no_block).stmts (get_or folded.blocks b no_block).exit ≡ true

    -- a block whose statements and end are replaced
    fits_of : (b : ℕ) → b < length graph.blocks → (w : Spot) → Fine old kept w → w.bits ≡ after.bits → (new : List Stmt) → Placed old after.bits (block_in graph b).stmts new
        → get_or folded.blocks b no_block ≡ record (block_in graph b) { stmts = new; exit = exit_with_choices w.choices (block_in graph b).exit } → Fits b
    fits_of b less w fine_w bits_w new p is_it =
        let exit_fine = exit_ok graph kept is none b less in
        let jump = All-contains (λ (x : Block). jumps_after_call x.stmts x.exit ≡ true) graph.blocks (block_in graph b) is.jumps (contained graph.blocks b (block_in graph b) (slice_get-get_or graph.blocks b no_block less)) in
        let exit_new = subst (λ l. is_exit l (length graph.blocks) (exit_with_choices w.choices (block_in graph b).exit) ≡ true) bits_w (exit_still old kept w fine_w (length graph.blocks) (block_in graph b).exit exit_fine) in
        record {
          stays = subst (BlockStays old after.bits (block_in graph b)) (sym is_it) (record {
            at = refl;
            targets_are = targets_still w.choices (block_in graph b).exit;
            jumps = jump_still w.choices (block_in graph b).exit;
            given = subst (λ l. ret_widths l (exit_with_choices w.choices (block_in graph b).exit) ≡ ret_widths old (block_in graph b).exit) bits_w (rets_still old kept w fine_w (length graph.blocks) (block_in graph b).exit exit_fine);
            calls = p.calls;
          });
          fine = subst (λ (x : Block). is_block after.bits (length folded.blocks) x ≡ true) (sym is_it)
              (subst (λ n. (list_all (is_stmt after.bits) new && is_exit after.bits n (exit_with_choices w.choices (block_in graph b).exit)) ≡ true) (sym going.count)
              (and_both (list_all (is_stmt after.bits) new) (is_exit after.bits (length graph.blocks) (exit_with_choices w.choices (block_in graph b).exit)) p.stmts exit_new));
          jumps = subst (λ (x : Block). jumps_after_call x.stmts x.exit ≡ true) (sym is_it) (p.jumps (block_in graph b).exit (exit_with_choices w.choices (block_in graph b).exit) (jump_still w.choices (block_in graph b).exit) jump);
        }

    fits : (b : ℕ) → b < length graph.blocks → Fits b
    fits b less = elim (decided (is_in known b)) [
      | inl e ↦
          let start_fine = going.fine b e in
          let ok = stmts_ok graph kept is none b less in
          let whole = going.prefix b e in
          let end = fine_end graph kept is none exact starts b less start_fine in
          let wide = fine_wider old kept (end_of graph kept is none starts b) whole.0 end (subst (λ l. list_all is_width l ≡ true) whole.1 going.widths) in
          fits_of b less (record { bits = (end_of graph kept is none starts b).bits ++ whole.0; choices = (end_of graph kept is none starts b).choices }) wide (sym whole.1)
          (stmts_folded kept (starts b).bits (starts b).choices (block_in graph b).stmts).stmts
          (folded_placed old kept after.bits going.widths (block_in graph b).stmts (starts b) start_fine ok whole.0 whole.1) (going.placed b e)
      | inr out ↦
          let e = going.first.1 ∙ sym (append_assoc old (1 ∷ []) going.first.0) in
          let wide = fine_wider old kept (record { bits = s0.bits; choices = none }) going.first.0 first_fine (subst (λ l. list_all is_width l ≡ true) e going.widths) in
          let w : Spot = record { bits = s0.bits ++ going.first.0; choices = none } in
          fits_of b less w wide (sym e) (bare_stmts kept none (block_in graph b).stmts)
          (subst (λ l. Placed old l (block_in graph b).stmts (bare_stmts kept none (block_in graph b).stmts)) (sym e) (bare_placed old kept w wide (block_in graph b).stmts (stmts_ok graph kept is none b less)))
          (going.bare b out)
    ]

    pub form_stays : GraphStays graph after
    form_stays = record {
      entry = refl;
      params = refl;
      local = refl;
      pushed = refl;
      fresh = 1 ∷ going.first.0;
      bits = going.first.1;
      blocks = zip_from (BlockStays old after.bits) graph.blocks folded.blocks going.count (λ i less. (fits i less).stays);
    }

    every : (P : Block → Type 0) → ((i : ℕ) → i < length graph.blocks → P (get_or folded.blocks i no_block)) → All P folded.blocks
    every P each = All-from_get_or P folded.blocks no_block (λ i less. each i (subst (λ n. i < n) going.count less))

    pub graph_formed : IsGraph after
    graph_formed = record {
      begins = subst (λ n. 0 < n) (sym going.count) is.begins;
      entry = is.entry;
      offsets = every (λ b. b.at < 65536) (λ i less. subst (λ n. n < 65536) (sym (fits i less).stays.at)
          (All-contains (λ (x : Block). x.at < 65536) graph.blocks (block_in graph i) is.offsets (contained graph.blocks i (block_in graph i) (slice_get-get_or graph.blocks i no_block less))));
      jumps = every (λ b. jumps_after_call b.stmts b.exit ≡ true) (λ i less. (fits i less).jumps);
      addresses = ap all_differ (map_zipped (BlockStays old after.bits) (λ (b : Block). b.at) (λ (b : Block). b.at) (λ x y pair. pair.at) graph.blocks folded.blocks form_stays.blocks) ∙ is.addresses;
      bits = going.widths;
      params = params_wider (1 ∷ going.first.0) graph.params is.params;
      blocks = all_blocks folded.blocks (every (λ b. is_block after.bits (length folded.blocks) b ≡ true) (λ i less. (fits i less).fine));
    }
      where
        all_blocks : (bs : List Block) → All (λ b. is_block after.bits (length folded.blocks) b ≡ true) bs → list_all (is_block after.bits (length folded.blocks)) bs ≡ true
        all_blocks [] all = refl
        all_blocks (b ∷ bs) all = and_both (is_block after.bits (length folded.blocks) b) (list_all (is_block after.bits (length folded.blocks)) bs)
            (All-head (λ b. is_block after.bits (length folded.blocks) b ≡ true) b bs all) (all_blocks bs (All-tail (λ b. is_block after.bits (length folded.blocks) b ≡ true) b bs all))

        put_wider : (more : List ℕ) (put : Put) → is_put old put ≡ true → is_put (old ++ more) put ≡ true
        put_wider more Memory ok = refl
        put_wider more (One l) ok = location_more old more l ok
        put_wider more (Two low high) ok =
            let three = both (is_location old low && is_location old high && (location_width old low == 8)) (location_width old high == 8) ok in
            let two = both (is_location old low && is_location old high) (location_width old low == 8) three.0 in
            let one = both (is_location old low) (is_location old high) two.0 in
            and_both (is_location (old ++ more) low && is_location (old ++ more) high && (location_width (old ++ more) low == 8)) (location_width (old ++ more) high == 8)
            (and_both (is_location (old ++ more) low && is_location (old ++ more) high) (location_width (old ++ more) low == 8) (and_both (is_location (old ++ more) low) (is_location (old ++ more) high) (location_more old more low one.0) (location_more old more high one.1))
            (ap (λ n. n == 8) (width_more old more low one.0) ∙ two.1)) (ap (λ n. n == 8) (width_more old more high one.1) ∙ three.1)

        params_wider : (more : List ℕ) (params : List Param) → list_all (λ q. is_put old q.put) params ≡ true → list_all (λ q. is_put after.bits q.put) params ≡ true
        params_wider more [] ok = refl
        params_wider more (q ∷ params) ok =
            let parts = both (is_put old q.put) (list_all (λ (q : Param). is_put old q.put) params) ok in
            and_both (is_put after.bits q.put) (list_all (λ (q : Param). is_put after.bits q.put) params)
            (subst (λ l. is_put l q.put ≡ true) (sym going.first.1) (put_wider (1 ∷ going.first.0) q.put parts.0)) (params_wider more params parts.1)

    -- The folded graph may stand in the place of the graph.
    pub may_replace : MayReplace graph after
    may_replace p formed known_p = folded_stands graph after kept is exact the_plan refl form_stays graph_formed p formed known_p
