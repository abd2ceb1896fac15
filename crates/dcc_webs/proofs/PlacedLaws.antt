-- What a well-formed graph reads and writes, and what takes its arguments, are locations of it; and so is each that has a
-- number.
use Rattle.std.proofs.Common.{◌≡◌, ℕ, Bool, true, false, ◌&&◌, ◌||◌, not, inl, inr, List, [], ◌∷◌, ◌++◌, length, map, flat_map, Some, None, refl, sym, ap, ◌∙◌, subst, true≢false, nat_lt}
use Rattle.std.specs.Prelude.{if◌then◌else◌, ◌==◌, All, nat_le}
use Rattle.std.specs.List.{list_all}
use Rattle.std.proofs.lemmas.List.Elements.{All-nil, All-cons, All-append, All-contains, All-head, All-tail}
use Rattle.std.proofs.lemmas.List.Concat.{flat_map-append}
use Rattle.dcc_ir.specs.declared.syntax.Loc.{Loc}
use Rattle.dcc_ir.specs.declared.syntax.Put.{Put}
use Rattle.dcc_ir.specs.Joinable.{places_of}
use Rattle.dcc_ir.specs.declared.syntax.Put.TheVariants.{Memory, One, Two}
use Rattle.dcc_ir.specs.declared.syntax.Param.{Param}
use Rattle.dcc_ir.specs.Tree.{Expr, Const, Get, Load, Unary, Binary, Widen, Part, Join, Choose, Address, Stmt, Set, Fetch, Store, Div, Call, Dos, Exit, Goto, If, Switch, Ret, Stop}
use Rattle.dcc_ir.specs.Location.{location_width}
use Rattle.dcc_ir.specs.Value.{width_of}
use Rattle.dcc_ir.specs.Use.{parts_of, got_by, reads_of, exprs_of, writes_of, exit_exprs}
use Rattle.dcc_ir.specs.Live.{is_among, reads, reads_first}
use Rattle.dcc_ir.specs.WellFormed.{is_stored_width, is_location, is_division, is_expr, is_expr_of, is_dividing, is_stmt, is_exit, is_put}
use Rattle.dcc_ir.proofs.FitLaws.{both}
use Rattle.dcc_ir.proofs.PathLaws.{decided}
use Rattle.dcc_ir.proofs.LocationLaws.{among_contains}
use Rattle.dcc_flow.specs.Access.{Access, access_of}
use Rattle.dcc_flow.proofs.FormedExprs.{reads_placed}
use Rattle.dcc_passes.specs.Renaming.{param_places}
use Rattle.dcc_webs.specs.Names.{Names, no_names, is_some, with_number, all_with_numbers, named, all_named, without_names, at_writes, before_one, before_all, at_exit}

-- Locations with numbers.

module _ (P : Loc → Type 0) where
  pub with_are : (names : Names) (x : Loc) → P x → All P names.origins → All P (with_number names x).origins
  with_are names x p all = All-append P names.origins (x ∷ []) all (All-cons P x [] p (All-nil P))

  pub all_with_are : (names : Names) (xs : List Loc) → All P xs → All P names.origins → All P (all_with_numbers names xs).origins
  all_with_are names [] ps all = all
  all_with_are names (x ∷ xs) ps all = all_with_are (with_number names x) xs (All-tail P x xs ps) (with_are names x (All-head P x xs ps) all)

  pub named_are : (names : Names) (x : Loc) → P x → All P names.origins → All P (named names x).origins
  named_are names x p all = elim (decided (is_some (names.number x))) [
    | inl t ↦ subst (λ b. All P (if b then names else with_number names x).origins) (sym t) all
    | inr f ↦ subst (λ b. All P (if b then names else with_number names x).origins) (sym f) (with_are names x p all)
  ]

  pub all_named_are : (names : Names) (xs : List Loc) → All P xs → All P names.origins → All P (all_named names xs).origins
  all_named_are names [] ps all = all
  all_named_are names (x ∷ xs) ps all = all_named_are (named names x) xs (All-tail P x xs ps) (named_are names x (All-head P x xs ps) all)

  pub one_are : (a : Access) (after : Names) → All P a.reads → All P a.writes → All P after.origins → All P (before_one a after).origins
  one_are a after rs ws all = all_named_are (without_names (at_writes a after) a.writes) a.reads rs (all_named_are after a.writes ws all)

  pub exit_are : (live last : List Loc) → All P live → All P last → All P (at_exit live last).origins
  exit_are live last ls xs = all_named_are (all_with_numbers no_names live) last xs (all_with_are no_names live ls (All-nil P))

-- What is read and written.

module _ (bits : List ℕ) where
  abbrev pub Placed : Loc → Type 0
  Placed l = is_location bits l ≡ true

  plain : (e : Expr) → is_expr bits e ≡ true → All Placed (flat_map reads_of (e ∷ []))
  plain e ok = All-append Placed (reads_of e) [] (reads_placed bits e ok) (All-nil Placed)

  of_width : (width : ℕ) (e : Expr) → is_expr_of bits width e ≡ true → is_expr bits e ≡ true
  of_width width e ok = (both (is_expr bits e) (width_of bits e == width) ok).0

  exprs_placed : (es : List Expr) → list_all (is_expr bits) es ≡ true → All Placed (flat_map reads_of es)
  exprs_placed [] ok = All-nil Placed
  exprs_placed (e ∷ es) ok =
      let parts = both (is_expr bits e) (list_all (is_expr bits) es) ok in
      All-append Placed (reads_of e) (flat_map reads_of es) (reads_placed bits e parts.0) (exprs_placed es parts.1)

  places_placed : (ls : List Loc) → list_all (is_location bits) ls ≡ true → All Placed ls
  places_placed [] ok = All-nil Placed
  places_placed (l ∷ ls) ok = let parts = both (is_location bits l) (list_all (is_location bits) ls) ok in All-cons Placed l ls parts.0 (places_placed ls parts.1)

  dividing_placed : (width : ℕ) (e : Expr) → is_dividing bits width e ≡ true → All Placed (flat_map reads_of (e ∷ []))
  dividing_placed width (Binary operator w a b) ok =
      let two = both (is_division operator && (w == width) && is_stored_width width && is_expr_of bits width a) (is_expr_of bits width b) ok in
      let one = both (is_division operator && (w == width) && is_stored_width width) (is_expr_of bits width a) two.0 in
      All-append Placed (flat_map got_by (parts_of a ++ parts_of b)) []
      (subst (All Placed) (sym (flat_map-append got_by (parts_of a) (parts_of b)))
      (All-append Placed (flat_map got_by (parts_of a)) (flat_map got_by (parts_of b)) (reads_placed bits a (of_width width a one.1)) (reads_placed bits b (of_width width b two.1)))) (All-nil Placed)
  dividing_placed width (Const w n) ok = absurd (true≢false (sym ok))
  dividing_placed width (Get l) ok = absurd (true≢false (sym ok))
  dividing_placed width (Load w a) ok = absurd (true≢false (sym ok))
  dividing_placed width (Unary o w a) ok = absurd (true≢false (sym ok))
  dividing_placed width (Widen s w a) ok = absurd (true≢false (sym ok))
  dividing_placed width (Part w k a) ok = absurd (true≢false (sym ok))
  dividing_placed width (Join a b) ok = absurd (true≢false (sym ok))
  dividing_placed width (Choose x a b) ok = absurd (true≢false (sym ok))
  dividing_placed width (Address d) ok = absurd (true≢false (sym ok))

  either_expr : (number : ℕ) (e : Expr) → is_stmt bits (Dos number None (Some e)) ≡ true → is_expr bits e ≡ true
  either_expr number e ok = go (is_expr_of bits 8 e) (is_expr_of bits 16 e) refl refl ok
    where
      go : (x y : Bool) → is_expr_of bits 8 e ≡ x → is_expr_of bits 16 e ≡ y → (((number == 0x02 || number == 0x4C) && x) || ((number == 0x09) && y)) ≡ true → is_expr bits e ≡ true
      go true y f g ok = of_width 8 e f
      go false true f g ok = of_width 16 e g
      go false false f g ok = absurd (none (number == 0x02 || number == 0x4C) (number == 0x09) ok)
        where
          none : (a b : Bool) → ((a && false) || (b && false)) ≡ true → ⊥
          none true true h = true≢false (sym h)
          none true false h = true≢false (sym h)
          none false true h = true≢false (sym h)
          none false false h = true≢false (sym h)

  pub stmt_reads_placed : (stmt : Stmt) → is_stmt bits stmt ≡ true → All Placed (flat_map reads_of (exprs_of stmt))
  stmt_reads_placed (Set l e) ok = plain e (of_width (location_width bits l) e (both (is_location bits l) (is_expr_of bits (location_width bits l) e) ok).1)
  stmt_reads_placed (Fetch l w a) ok = plain a (of_width 16 a (both (is_location bits l && is_stored_width w && (location_width bits l == w)) (is_expr_of bits 16 a) ok).1)
  stmt_reads_placed (Store w a e) ok =
      let two = both (is_stored_width w && is_expr_of bits 16 a) (is_expr_of bits w e) ok in
      let one = both (is_stored_width w) (is_expr_of bits 16 a) two.0 in
      All-append Placed (reads_of a) (flat_map reads_of (e ∷ [])) (reads_placed bits a (of_width 16 a one.1)) (plain e (of_width w e two.1))
  stmt_reads_placed (Div l e) ok = dividing_placed (location_width bits l) e (both (is_location bits l) (is_dividing bits (location_width bits l) e) ok).1
  stmt_reads_placed (Call results entry arguments depth) ok =
      let two = both (list_all (is_location bits) results && list_all (is_expr bits) arguments) (nat_lt depth 65536) ok in
      exprs_placed arguments (both (list_all (is_location bits) results) (list_all (is_expr bits) arguments) two.0).1
  stmt_reads_placed (Dos number place None) ok = All-nil Placed
  stmt_reads_placed (Dos number None (Some e)) ok = plain e (either_expr number e ok)
  stmt_reads_placed (Dos number (Some l) (Some e)) ok = absurd (true≢false (sym ok))

  pub stmt_writes_placed : (stmt : Stmt) → is_stmt bits stmt ≡ true → All Placed (writes_of stmt)
  stmt_writes_placed (Set l e) ok = All-cons Placed l [] (both (is_location bits l) (is_expr_of bits (location_width bits l) e) ok).0 (All-nil Placed)
  stmt_writes_placed (Fetch l w a) ok =
      let three = both (is_location bits l && is_stored_width w && (location_width bits l == w)) (is_expr_of bits 16 a) ok in
      let two = both (is_location bits l && is_stored_width w) (location_width bits l == w) three.0 in
      All-cons Placed l [] (both (is_location bits l) (is_stored_width w) two.0).0 (All-nil Placed)
  stmt_writes_placed (Store w a e) ok = All-nil Placed
  stmt_writes_placed (Div l e) ok = All-cons Placed l [] (both (is_location bits l) (is_dividing bits (location_width bits l) e) ok).0 (All-nil Placed)
  stmt_writes_placed (Call results entry arguments depth) ok =
      let two = both (list_all (is_location bits) results && list_all (is_expr bits) arguments) (nat_lt depth 65536) ok in
      places_placed results (both (list_all (is_location bits) results) (list_all (is_expr bits) arguments) two.0).0
  stmt_writes_placed (Dos number None argument) ok = All-nil Placed
  stmt_writes_placed (Dos number (Some l) None) ok =
      let parts = both (number == 0x01 || number == 0x08) (is_location bits l && (location_width bits l == 8)) ok in
      All-cons Placed l [] (both (is_location bits l) (location_width bits l == 8) parts.1).0 (All-nil Placed)
  stmt_writes_placed (Dos number (Some l) (Some e)) ok = absurd (true≢false (sym ok))

  pub exit_placed : (count : ℕ) (exit : Exit) → is_exit bits count exit ≡ true → All Placed (flat_map reads_of (exit_exprs exit))
  exit_placed count (Goto place) ok = All-nil Placed
  exit_placed count (If test one other) ok =
      let two = both (is_expr_of bits 1 test && nat_lt one count) (nat_lt other count) ok in
      plain test (of_width 1 test (both (is_expr_of bits 1 test) (nat_lt one count) two.0).0)
  exit_placed count (Switch e places) ok =
      let two = both (is_expr_of bits 16 e && nat_le (length places) 65536) (list_all (λ place. nat_lt place count) places) ok in
      plain e (of_width 16 e (both (is_expr_of bits 16 e) (nat_le (length places) 65536) two.0).0)
  exit_placed count (Ret values) ok = exprs_placed values ok
  exit_placed count Stop ok = All-nil Placed

  pub all_are : (stmts : List Stmt) (after : Names) → list_all (is_stmt bits) stmts ≡ true → All Placed after.origins → All Placed (before_all (map access_of stmts) after).origins
  all_are [] after ok all = all
  all_are (stmt ∷ rest) after ok all =
      let parts = both (is_stmt bits stmt) (list_all (is_stmt bits) rest) ok in
      one_are Placed (access_of stmt) (before_all (map access_of rest) after) (stmt_reads_placed stmt parts.0) (stmt_writes_placed stmt parts.0) (all_are rest after parts.1 all)

  -- what statements read first they read
  pub first_placed : (count : ℕ) (stmts : List Stmt) (exit : Exit) (l : Loc) → list_all (is_stmt bits) stmts ≡ true → is_exit bits count exit ≡ true → reads_first stmts exit l ≡ true → Placed l
  first_placed count [] exit l ok ends t = All-contains Placed (flat_map reads_of (exit_exprs exit)) l (exit_placed count exit ends) (among_contains (flat_map reads_of (exit_exprs exit)) l t)
  first_placed count (stmt ∷ rest) exit l ok ends t =
      let parts = both (is_stmt bits stmt) (list_all (is_stmt bits) rest) ok in
      elim (decided (reads (exprs_of stmt) l)) [
        | inl here ↦ All-contains Placed (flat_map reads_of (exprs_of stmt)) l (stmt_reads_placed stmt parts.0) (among_contains (flat_map reads_of (exprs_of stmt)) l here)
        | inr there ↦
            let later : (not (is_among (writes_of stmt) l) && reads_first rest exit l) ≡ true = sym (ap (λ b. b || (not (is_among (writes_of stmt) l) && reads_first rest exit l)) there) ∙ t in
            first_placed count rest exit l parts.1 ends (both (not (is_among (writes_of stmt) l)) (reads_first rest exit l) later).1
      ]

  pub params_placed : (ps : List Param) → list_all (λ p. is_put bits p.put) ps ≡ true → All Placed (param_places ps)
  params_placed [] ok = All-nil Placed
  params_placed (p ∷ ps) ok =
      let parts = both (is_put bits p.put) (list_all (λ (q : Param). is_put bits q.put) ps) ok in
      go p.put refl parts.0 (params_placed ps parts.1)
    where
      go : (put : Put) → p.put ≡ put → is_put bits p.put ≡ true → All Placed (param_places ps) → All Placed (places_of p.put ++ param_places ps)
      go Memory e ok all = subst (λ x. All Placed (places_of x ++ param_places ps)) (sym e) all
      go (One l) e ok all = subst (λ x. All Placed (places_of x ++ param_places ps)) (sym e) (All-cons Placed l (param_places ps) (sym (ap (is_put bits) e) ∙ ok) all)
      go (Two low high) e ok all =
          let ok' : is_put bits (Two low high) ≡ true = sym (ap (is_put bits) e) ∙ ok in
          let three = both (is_location bits low && is_location bits high && (location_width bits low == 8)) (location_width bits high == 8) ok' in
          let two = both (is_location bits low && is_location bits high) (location_width bits low == 8) three.0 in
          let one = both (is_location bits low) (is_location bits high) two.0 in
          subst (λ x. All Placed (places_of x ++ param_places ps)) (sym e) (All-cons Placed low (high ∷ param_places ps) one.0 (All-cons Placed high (param_places ps) one.1 all))
