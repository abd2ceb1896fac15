-- Truth statements of the folded graph were flag statements at the same locations.
use Rattle.std.proofs.Common.{◌≡◌, ℕ, Bool, true, false, ◌&&◌, ◌||◌, not, List, [], ◌∷◌, ◌++◌, length, refl, sym, ap, ◌∙◌, true≢false, flat_map, subst, append-nil, rules}
use Rattle.std.specs.Prelude.{if◌then◌else◌}
use Rattle.std.specs.List.{AllZip, list_all, list_any}
use Rattle.std.proofs.lemmas.List.Concat.{flat_map-append}
use Rattle.std.proofs.lemmas.List.Folds.{list_any-append}
use Rattle.dcc_num.specs.declared.FlagName.{FlagName}
use Rattle.dcc_num.specs.declared.FlagName.TheVariants.{Cf, Zf, Sf, Of}
use Rattle.dcc_ir.specs.declared.syntax.Loc.{Loc}
use Rattle.dcc_ir.specs.declared.syntax.Loc.TheVariants.{Half, Flag, Cell, Temp}
use Rattle.dcc_ir.specs.Tree.{Expr, Const, Get, Load, Unary, Binary, Widen, Part, Join, Choose, Address, Stmt, Set, Fetch, Store, Div, Call, Dos, Graph}
use Rattle.dcc_ir.specs.Value.{is_test, is_comparison}
use Rattle.dcc_ir.specs.Measure.{is_truth}
use Rattle.dcc_ir.specs.Use.{parts_of, got_by}
use Rattle.dcc_ir.proofs.FitLaws.{both}
use Rattle.dcc_ir.specs.FlagReads.{is_flag_place, holds_truth, reads_flag, is_plain_load, loads_plainly, all_stmts}
use Rattle.dcc_flags.specs.declared.kept.Kept.{Kept}
use Rattle.dcc_flags.specs.Folding.{is_kept, Choices, choice, with_choices, stmt_with_choices, has_truth, Taken, taken, goes_with, stmt_folded, stmts_folded, bare_stmts, first_choice, first_choices, folded_graph}
use Rattle.dcc_flags.specs.Folded.{set_where, truth_places, flag_places, IsPartOf, none, stays, goes, TruthsStay}
use Rattle.dcc_flags.proofs.MeetLaws.{by_kept}
use Rattle.dcc_flags.proofs.PartLaws.{or_none, neither, none_of, none_in, has_part, OfKind, in_chosen, operator_lacks, chosen_lacks, OfReads, value_lacks}
use Rattle.dcc_flags.proofs.EachLaws.{Each, each_at, ValuesHave, each_past, each_block}

-- Expressions.

truth_kind : OfKind is_truth
truth_kind = search rules

-- no truth stands in an expression without truths and reads of flags
unread : (c : Choices) (ps : List Expr) → list_any is_truth ps ≡ false → list_any is_flag_place (flat_map got_by ps) ≡ false → list_any (in_chosen is_truth c) ps ≡ false
unread c [] p q = refl
unread c (Get (Flag f) ∷ ps) p q = absurd (true≢false q)
unread c (Get (Half r h) ∷ ps) p q = unread c ps p q
unread c (Get (Cell n h) ∷ ps) p q = unread c ps p q
unread c (Get (Temp n) ∷ ps) p q = unread c ps p q
unread c (Const w n ∷ ps) p q = unread c ps p q
unread c (Load w a ∷ ps) p q = unread c ps p q
unread c (Unary o w a ∷ ps) p q = let parts = or_none (is_test o) (list_any is_truth ps) p in neither (is_test o) _ parts.0 (unread c ps parts.1 q)
unread c (Binary o w a b ∷ ps) p q = let parts = or_none (is_comparison o) (list_any is_truth ps) p in neither (is_comparison o) _ parts.0 (unread c ps parts.1 q)
unread c (Widen s w a ∷ ps) p q = unread c ps p q
unread c (Part w k a ∷ ps) p q = unread c ps p q
unread c (Join a b ∷ ps) p q = unread c ps p q
unread c (Choose x a b ∷ ps) p q = absurd (true≢false p)
unread c (Address d ∷ ps) p q = unread c ps p q

truthless : (c : Choices) (e : Expr) → (holds_truth e || reads_flag e) ≡ false → holds_truth (with_choices c e) ≡ false
truthless c e p =
    let parts = or_none (holds_truth e) (reads_flag e) p in
    chosen_lacks is_truth truth_kind c e (unread c (parts_of e) parts.0 parts.1)

truth_is : (e : Expr) → has_truth e ≡ holds_truth e
truth_is (Const w n) = refl
truth_is (Get l) = refl
truth_is (Load w a) = truth_is a
truth_is (Unary o w a) = ap (λ b. is_test o || b) (truth_is a)
truth_is (Binary o w a b) =
    or_assoc (is_comparison o) (has_truth a) (has_truth b) ∙ ap (λ z. is_comparison o || z) (two (truth_is a) (truth_is b) ∙ sym (list_any-append is_truth (parts_of a) (parts_of b)))
  where
    or_assoc : (x y z : Bool) → ((x || y) || z) ≡ (x || (y || z))
    or_assoc true y z = refl
    or_assoc false y z = refl

    two : has_truth a ≡ holds_truth a → has_truth b ≡ holds_truth b → (has_truth a || has_truth b) ≡ (holds_truth a || holds_truth b)
    two p q = ap (λ z. z || has_truth b) p ∙ ap (λ z. holds_truth a || z) q
truth_is (Widen s w a) = truth_is a
truth_is (Part w k a) = truth_is a
truth_is (Join a b) = ap (λ z. z || has_truth b) (truth_is a) ∙ ap (λ z. holds_truth a || z) (truth_is b) ∙ sym (list_any-append is_truth (parts_of a) (parts_of b))
truth_is (Choose x a b) = refl
truth_is (Address d) = refl

-- Loads.

-- a load from a truth
abbrev loads_truth : Expr → Bool
loads_truth (Load w a) = holds_truth a
loads_truth e = false

abbrev is_load : Expr → Bool
is_load (Load w a) = true
is_load e = false

loadless : OfReads is_load
loadless = search rules

-- what loads nothing loads from no truth
no_load : (ps : List Expr) → list_any is_load ps ≡ false → list_any loads_truth ps ≡ false
no_load [] p = refl
no_load (Load w a ∷ ps) p = absurd (true≢false p)
no_load (Get l ∷ ps) p = no_load ps p
no_load (Const w n ∷ ps) p = no_load ps p
no_load (Unary o w a ∷ ps) p = no_load ps p
no_load (Binary o w a b ∷ ps) p = no_load ps p
no_load (Widen s w a ∷ ps) p = no_load ps p
no_load (Part w k a ∷ ps) p = no_load ps p
no_load (Join a b ∷ ps) p = no_load ps p
no_load (Choose x a b ∷ ps) p = no_load ps p
no_load (Address d ∷ ps) p = no_load ps p

abbrev IsLoadless : Expr → Type 0
IsLoadless e = has_part is_load e ≡ false

values_loadless : ValuesHave IsLoadless loads_plainly
values_loadless bits c f e plain h = value_lacks is_load loadless bits (with_choices c e)

all_of : (test : Expr → Bool) (xs ys : List Expr) → list_all test (xs ++ ys) ≡ true → (list_all test xs ≡ true) × (list_all test ys ≡ true)
all_of test [] ys p = (refl, p)
all_of test (x ∷ xs) ys p =
    let parts = both (test x) (list_all test (xs ++ ys)) p in
    let later = all_of test xs ys parts.1 in
    (ap (λ z. z && list_all test xs) parts.0 ∙ later.0, later.1)

-- plain loads stay plain
plain_still : (c : Choices) → Each IsLoadless c → (e : Expr) → list_all is_plain_load (parts_of e) ≡ true → has_part loads_truth (with_choices c e) ≡ false
plain_still c h (Const w n) p = refl
plain_still c h (Get (Flag f)) p = no_load (parts_of (choice c f)) (each_at IsLoadless c h f)
plain_still c h (Get (Half r x)) p = refl
plain_still c h (Get (Cell n x)) p = refl
plain_still c h (Get (Temp n)) p = refl
plain_still c h (Load w a) p =
    let parts = both (is_plain_load (Load w a)) (list_all is_plain_load (parts_of a)) p in
    neither (holds_truth (with_choices c a)) _ (truthless c a (not_so (holds_truth a || reads_flag a) parts.0)) (plain_still c h a parts.1)
  where
    not_so : (b : Bool) → not b ≡ true → b ≡ false
    not_so true e = absurd (true≢false (sym e))
    not_so false e = refl
plain_still c h (Unary o w a) p = operator_lacks loads_truth o w (with_choices c a) refl (plain_still c h a p)
plain_still c h (Binary o w a b) p =
    let two = all_of is_plain_load (parts_of a) (parts_of b) p in
    none_in loads_truth (parts_of (with_choices c a)) (parts_of (with_choices c b)) (plain_still c h a two.0) (plain_still c h b two.1)
plain_still c h (Widen s w a) p = plain_still c h a p
plain_still c h (Part w k a) p = plain_still c h a p
plain_still c h (Join a b) p =
    let two = all_of is_plain_load (parts_of a) (parts_of b) p in
    none_in loads_truth (parts_of (with_choices c a)) (parts_of (with_choices c b)) (plain_still c h a two.0) (plain_still c h b two.1)
plain_still c h (Choose x a b) p =
    let two = all_of is_plain_load (parts_of x ++ parts_of a) (parts_of b) p in
    let one = all_of is_plain_load (parts_of x) (parts_of a) two.0 in
    none_in loads_truth (parts_of (with_choices c x) ++ parts_of (with_choices c a)) (parts_of (with_choices c b))
    (none_in loads_truth (parts_of (with_choices c x)) (parts_of (with_choices c a)) (plain_still c h x one.0) (plain_still c h a one.1)) (plain_still c h b two.1)
plain_still c h (Address d) p = refl

-- Copies are no truth statements.

abbrev Plain : List Stmt → Type 0
Plain cs = truth_places cs ≡ []

plain_more : (cs ds : List Stmt) → Plain cs → Plain ds → Plain (cs ++ ds)
plain_more cs ds p q = flat_map-append (set_where holds_truth) cs ds ∙ ap (λ l. l ++ truth_places ds) p ∙ q

plain_copy : (n : ℕ) (e : Expr) → holds_truth e ≡ false → Plain (Set (Temp n) e ∷ [])
plain_copy n e p = ap (λ b. (if b then Temp n ∷ [] else []) ++ []) p

plain_if : (b : Bool) (t u : Taken) → Plain t.copies → (b ≡ false → Plain u.copies) → Plain (if b then t else u).copies
plain_if true t u p q = p
plain_if false t u p q = q refl

copies_plain : (bits : List ℕ) (e : Expr) → has_part loads_truth e ≡ false → Plain (taken bits e).copies
copies_plain bits (Const w n) p = refl
copies_plain bits (Get l) p = refl
copies_plain bits (Load w a) p = plain_copy _ (Load w a) (or_none (holds_truth a) (has_part loads_truth a) p).0
copies_plain bits (Unary o w a) p = plain_if (has_truth (Unary o w a)) _ _ (copies_plain bits a p) (λ q. plain_copy _ (Unary o w a) (sym (truth_is (Unary o w a)) ∙ q))
copies_plain bits (Binary o w a b) p =
    let two = none_of loads_truth (parts_of a) (parts_of b) p in
    plain_if (has_truth (Binary o w a b)) _ _ (plain_more (taken bits a).copies _ (copies_plain bits a two.0) (copies_plain (bits ++ (taken bits a).widths) b two.1))
    (λ q. plain_copy _ (Binary o w a b) (sym (truth_is (Binary o w a b)) ∙ q))
copies_plain bits (Widen s w a) p = plain_if (has_truth a) _ _ (copies_plain bits a p) (λ q. plain_copy _ (Widen s w a) (sym (truth_is a) ∙ q))
copies_plain bits (Part w k a) p = plain_if (has_truth a) _ _ (copies_plain bits a p) (λ q. plain_copy _ (Part w k a) (sym (truth_is a) ∙ q))
copies_plain bits (Join a b) p =
    let two = none_of loads_truth (parts_of a) (parts_of b) p in
    plain_if (has_truth (Join a b)) _ _ (plain_more (taken bits a).copies _ (copies_plain bits a two.0) (copies_plain (bits ++ (taken bits a).widths) b two.1))
    (λ q. plain_copy _ (Join a b) (sym (truth_is (Join a b)) ∙ q))
copies_plain bits (Choose x a b) p =
    let t = taken bits x in
    let u = taken (bits ++ t.widths) a in
    let v = taken ((bits ++ t.widths) ++ u.widths) b in
    let two = none_of loads_truth (parts_of x ++ parts_of a) (parts_of b) p in
    let one = none_of loads_truth (parts_of x) (parts_of a) two.0 in
    plain_more (t.copies ++ u.copies) v.copies (plain_more t.copies u.copies (copies_plain bits x one.0) (copies_plain (bits ++ t.widths) a one.1))
    (copies_plain ((bits ++ t.widths) ++ u.widths) b two.1)
copies_plain bits (Address d) p = refl

-- Statements.

part_more : (one two one' two' : List Loc) → IsPartOf one one' → IsPartOf two two' → IsPartOf (one ++ two) (one' ++ two')
part_more [] two [] two' none q = q
part_more (l ∷ one) two (m ∷ one') two' (stays p) q = stays (part_more one two one' two' p q)
part_more (l ∷ one) two [] two' p q = elim p [ ]
part_more one two (m ∷ one') two' (goes p) q = goes (part_more one two one' two' p q)

part_none : (ls : List Loc) → IsPartOf [] ls
part_none [] = none
part_none (l ∷ ls) = goes (part_none ls)

abbrev flagged : Expr → Bool
flagged e = holds_truth e || reads_flag e

one_part : (l : Loc) (b b' : Bool) → (b' ≡ false → b ≡ false) → IsPartOf (if b then l ∷ [] else []) (if b' then l ∷ [] else [])
one_part l true true h = stays none
one_part l true false h = absurd (true≢false (h refl))
one_part l false true h = goes none
one_part l false false h = none

stmt_part : (c : Choices) (stmt : Stmt) → IsPartOf (set_where holds_truth (stmt_with_choices c stmt)) (set_where flagged stmt)
stmt_part c (Set l e) = one_part l (holds_truth (with_choices c e)) (flagged e) (truthless c e)
stmt_part c (Fetch l w a) = one_part l (holds_truth (with_choices c a)) (flagged a) (truthless c a)
stmt_part c (Store w a e) = none
stmt_part c (Div l e) = one_part l (holds_truth (with_choices c e)) (flagged e) (truthless c e)
stmt_part c (Call r n a d) = none
stmt_part c (Dos n p a) = none

abbrev Parts : List Stmt → Stmt → Type 0
Parts new stmt = IsPartOf (truth_places new) (set_where flagged stmt)

one_stmt : (c : Choices) (stmt : Stmt) → Parts (stmt_with_choices c stmt ∷ []) stmt
one_stmt c stmt = subst (λ l. IsPartOf l (set_where flagged stmt)) (sym (append-nil (set_where holds_truth (stmt_with_choices c stmt)))) (stmt_part c stmt)

module _ (kept : Kept) where
  folded_part : (bits : List ℕ) (c : Choices) → Each IsLoadless c → (stmt : Stmt) → loads_plainly stmt ≡ true → Parts (stmt_folded kept bits c stmt).stmts stmt
  folded_part bits c h (Set (Flag f) e) plain = go (is_kept kept f)
    where
      go : (b : Bool) → Parts (by_kept b bits c f (with_choices c e)).stmts (Set (Flag f) e)
      go true = one_stmt c (Set (Flag f) e)
      go false = subst (λ l. IsPartOf l (set_where flagged (Set (Flag f) e))) (sym (copies_plain bits (with_choices c e) (plain_still c h e plain))) (part_none (set_where flagged (Set (Flag f) e)))
  folded_part bits c h (Set (Half r x) e) plain = one_stmt c (Set (Half r x) e)
  folded_part bits c h (Set (Cell n x) e) plain = one_stmt c (Set (Cell n x) e)
  folded_part bits c h (Set (Temp n) e) plain = one_stmt c (Set (Temp n) e)
  folded_part bits c h (Fetch l w a) plain = one_stmt c (Fetch l w a)
  folded_part bits c h (Store w a e) plain = one_stmt c (Store w a e)
  folded_part bits c h (Div l e) plain = one_stmt c (Div l e)
  folded_part bits c h (Call r n a d) plain = one_stmt c (Call r n a d)
  folded_part bits c h (Dos n p a) plain = one_stmt c (Dos n p a)

  stmts_part : (bits : List ℕ) (c : Choices) → Each IsLoadless c → (stmts : List Stmt) → list_all loads_plainly stmts ≡ true → IsPartOf (truth_places (stmts_folded kept bits c stmts).stmts) (flag_places stmts)
  stmts_part bits c h [] plain = none
  stmts_part bits c h (stmt ∷ rest) plain =
      let parts = both (loads_plainly stmt) (list_all loads_plainly rest) plain in
      let first = stmt_folded kept bits c stmt in
      let later = stmts_folded kept (bits ++ first.widths) first.choices rest in
      subst (λ l. IsPartOf l (flag_places (stmt ∷ rest))) (sym (flat_map-append (set_where holds_truth) first.stmts later.stmts))
      (part_more (truth_places first.stmts) (truth_places later.stmts) (set_where flagged stmt) (flag_places rest) (folded_part bits c h stmt parts.0)
      (stmts_part (bits ++ first.widths) first.choices (each_past kept IsLoadless loads_plainly values_loadless bits c stmt parts.0 h) rest parts.1))

  bare_part : (c : Choices) (stmts : List Stmt) → IsPartOf (truth_places (bare_stmts kept c stmts)) (flag_places stmts)
  bare_part c [] = none
  bare_part c (stmt ∷ rest) = go (goes_with kept stmt) (bare_part c rest)
    where
      go : (b : Bool) → IsPartOf (truth_places (bare_stmts kept c rest)) (flag_places rest)
          → IsPartOf (truth_places (if b then bare_stmts kept c rest else stmt_with_choices c stmt ∷ bare_stmts kept c rest)) (flag_places (stmt ∷ rest))
      go true later = part_more [] (truth_places (bare_stmts kept c rest)) (set_where flagged stmt) (flag_places rest) (part_none (set_where flagged stmt)) later
      go false later = part_more (set_where holds_truth (stmt_with_choices c stmt)) (truth_places (bare_stmts kept c rest)) (set_where flagged stmt) (flag_places rest) (stmt_part c stmt) later

  first_loadless : (temporary : ℕ) (f : FlagName) → IsLoadless (first_choice kept temporary f)
  first_loadless temporary f = go (is_kept kept f)
    where
      go : (b : Bool) → IsLoadless (if b then Get (Flag f) else Get (Temp temporary))
      go true = refl
      go false = refl

  pub truths_stay : (graph : Graph) (order : List ℕ) → all_stmts loads_plainly graph ≡ true → AllZip TruthsStay graph.blocks (folded_graph kept graph order).blocks
  truths_stay graph order plain =
      let n = length graph.bits in
      let first = first_loadless n in
      each_block kept IsLoadless loads_plainly values_loadless graph (first_choices kept n) (record { cf = first Cf; zf = first Zf; sf = first Sf; of = first Of })
      TruthsStay (λ b all. bare_part (first_choices kept n) b.stmts) (λ bits c b all h. stmts_part bits c h b.stmts all) plain order
