-- Spots within a block that is folded: which temporaries there are so far, and what is chosen for each flag. All that is
-- written there is well formed.
use Rattle.std.proofs.Common.{◌≡◌, ℕ, zero, suc, ◌≤◌, Bool, true, false, ◌&&◌, ◌||◌, List, [], ◌∷◌, ◌++◌, length, drop, Option, Some, None, refl, sym, ap, ap₂, ◌∙◌, subst, true≢false, map, eqb-true, arith, append_assoc, length-append, append-nil}
use Rattle.std.specs.Prelude.{if◌then◌else◌, ◌==◌, nat_lt, nat_le, option_map}
use Rattle.std.specs.List.{list_all}
use Rattle.dcc_num.specs.declared.FlagName.{FlagName}
use Rattle.dcc_num.specs.declared.FlagName.TheVariants.{Cf, Zf, Sf, Of}
use Rattle.dcc_ir.specs.declared.syntax.Loc.{Loc}
use Rattle.dcc_ir.specs.declared.syntax.Loc.TheVariants.{Half, Flag, Cell, Temp}
use Rattle.dcc_ir.specs.Tree.{Expr, Const, Get, Load, Unary, Binary, Widen, Part, Join, Choose, Address, Stmt, Set, Fetch, Store, Div, Call, Dos, Exit, Goto, If, Switch, Ret, Stop}
use Rattle.dcc_ir.specs.Location.{flag_number, location_width}
use Rattle.dcc_ir.specs.Value.{width_of}
use Rattle.dcc_ir.specs.WellFormed.{is_width, is_stored_width, is_location, is_division, is_expr, is_expr_of, is_dividing, is_byte_place, is_dos, is_stmt, is_exit, is_jump, ret_widths}
use Rattle.dcc_ir.specs.Flow.{targets}
use Rattle.dcc_ir.proofs.FitLaws.{both}
use Rattle.dcc_ir.proofs.LocationLaws.{flag_same}
use Rattle.dcc_flags.specs.declared.kept.Kept.{Kept}
use Rattle.dcc_flags.specs.Folding.{is_kept, Choices, choice, with_choice, with_choices, stmt_with_choices, exit_with_choices, Taken, taken, Folded, stmt_folded, stmts_folded}
use Rattle.dcc_flags.specs.Fresh.{is_over}
use Rattle.dcc_ir.proofs.passes.FormLaws.{width_more}
use Rattle.dcc_flow.proofs.FormedExprs.{and_both}
use Rattle.dcc_flags.proofs.ExprLaws.{Formed, expr_more, location_more, AreBits, choices_still}
use Rattle.dcc_flags.proofs.TakenLaws.{widths_more, over_wide, IsTaken, taken_is}

-- Choices.

pub choice_itself : (c : Choices) (f : FlagName) (e : Expr) → choice (with_choice c f e) f ≡ e
choice_itself c Cf e = refl
choice_itself c Zf e = refl
choice_itself c Sf e = refl
choice_itself c Of e = refl

pub choice_other : (c : Choices) (g f : FlagName) (e : Expr) → (flag_number f == flag_number g) ≡ false → choice (with_choice c g e) f ≡ choice c f
choice_other c Cf Cf e other = absurd (true≢false other)
choice_other c Cf Zf e other = refl
choice_other c Cf Sf e other = refl
choice_other c Cf Of e other = refl
choice_other c Zf Cf e other = refl
choice_other c Zf Zf e other = absurd (true≢false other)
choice_other c Zf Sf e other = refl
choice_other c Zf Of e other = refl
choice_other c Sf Cf e other = refl
choice_other c Sf Zf e other = refl
choice_other c Sf Sf e other = absurd (true≢false other)
choice_other c Sf Of e other = refl
choice_other c Of Cf e other = refl
choice_other c Of Zf e other = refl
choice_other c Of Sf e other = refl
choice_other c Of Of e other = absurd (true≢false other)

-- Spots.

pub record Spot : Type 0 where
  pub bits : List ℕ
  pub choices : Choices

abbrev pub past : Kept → Spot → Stmt → Spot
past kept w stmt = record { bits = w.bits ++ (stmt_folded kept w.bits w.choices stmt).widths; choices = (stmt_folded kept w.bits w.choices stmt).choices }

-- the spot after so many of these statements
abbrev pub walked : Kept → Spot → List Stmt → ℕ → Spot
walked kept w stmts zero = w
walked kept w [] (suc k) = w
walked kept w (stmt ∷ stmts) (suc k) = walked kept (past kept w stmt) stmts k

module _ (kept : Kept) where
  pub walked_more : (stmts : List Stmt) (k : ℕ) (w : Spot) (stmt : Stmt) (rest : List Stmt) → drop k stmts ≡ stmt ∷ rest → walked kept w stmts (suc k) ≡ past kept (walked kept w stmts k) stmt
  walked_more [] zero w stmt rest e = absurd (cc)
  walked_more [] (suc k) w stmt rest e = absurd (cc)
  walked_more (x ∷ stmts) zero w stmt rest e = let same : x ≡ stmt = cc in ap (past kept w) same
  walked_more (x ∷ stmts) (suc k) w stmt rest e = walked_more stmts k (past kept w x) stmt rest e

  -- what stands in place of all statements, from a spot on
  pub walked_end : (stmts : List Stmt) (k : ℕ) (w : Spot) → drop k stmts ≡ [] →
      (w.bits ++ (stmts_folded kept w.bits w.choices stmts).widths ≡ (walked kept w stmts k).bits) × ((stmts_folded kept w.bits w.choices stmts).choices ≡ (walked kept w stmts k).choices)
  walked_end [] zero w e = (append-nil w.bits, refl)
  walked_end [] (suc k) w e = (append-nil w.bits, refl)
  walked_end (x ∷ stmts) zero w e = absurd (cc)
  walked_end (x ∷ stmts) (suc k) w e =
      let later = walked_end stmts k (past kept w x) e in
      let f = stmt_folded kept w.bits w.choices x in
      (sym (append_assoc w.bits f.widths (stmts_folded kept (w.bits ++ f.widths) f.choices stmts).widths) ∙ later.0, later.1)

  -- temporaries only come
  pub past_grows : (w : Spot) (stmts : List Stmt) (k : ℕ) → (more : List ℕ) × ((walked kept w stmts k).bits ≡ w.bits ++ more)
  past_grows w stmts zero = ([], sym (append-nil w.bits))
  past_grows w [] (suc k) = ([], sym (append-nil w.bits))
  past_grows w (x ∷ stmts) (suc k) =
      let later = past_grows (past kept w x) stmts k in
      let f = stmt_folded kept w.bits w.choices x in
      (f.widths ++ later.0, later.1 ∙ append_assoc w.bits f.widths later.0)

  pub walked_later : (stmts : List Stmt) (j k : ℕ) (w : Spot) → j ≤ k → (more : List ℕ) × ((walked kept w stmts k).bits ≡ (walked kept w stmts j).bits ++ more)
  walked_later stmts zero k w le = past_grows w stmts k
  walked_later [] (suc j) zero w le = ([], sym (append-nil w.bits))
  walked_later [] (suc j) (suc k) w le = ([], sym (append-nil w.bits))
  walked_later (x ∷ stmts) (suc j) zero w le = absurd (omega arith)
  walked_later (x ∷ stmts) (suc j) (suc k) w le = walked_later stmts j k (past kept w x) (omega arith)

  -- the temporaries of each spot are the first of those at the end
  pub walked_front : (stmts : List Stmt) (k : ℕ) (w : Spot) → (more : List ℕ) × (w.bits ++ (stmts_folded kept w.bits w.choices stmts).widths ≡ (walked kept w stmts k).bits ++ more)
  walked_front stmts zero w = ((stmts_folded kept w.bits w.choices stmts).widths, refl)
  walked_front [] (suc k) w = ([], refl)
  walked_front (x ∷ stmts) (suc k) w =
      let later = walked_front stmts k (past kept w x) in
      let f = stmt_folded kept w.bits w.choices x in
      (later.0, sym (append_assoc w.bits f.widths (stmts_folded kept (w.bits ++ f.widths) f.choices stmts).widths) ∙ later.1)

module _ (old : List ℕ) (kept : Kept) where
  -- what is chosen for a flag: a kept one itself, another an expression of one bit over fresh temporaries
  pub record Told (bits : List ℕ) (f : FlagName) (e : Expr) : Type 0 where
    pub kept_is : is_kept kept f ≡ true → e ≡ Get (Flag f)
    pub over : is_kept kept f ≡ false → is_over (length old) (length bits) e ≡ true
    pub formed : is_expr bits e ≡ true
    pub width : width_of bits e ≡ 1

  pub record Fine (w : Spot) : Type 0 where
    pub widths : list_all is_width w.bits ≡ true
    pub fresh : List ℕ
    pub bits : w.bits ≡ old ++ fresh
    pub told : (f : FlagName) → Told w.bits f (choice w.choices f)

  told_more : (bits more : List ℕ) (f : FlagName) (e : Expr) → Told bits f e → Told (bits ++ more) f e
  told_more bits more f e h =
      let m = expr_more bits more e h.formed in
      let long = length-append bits more in
      record {
        kept_is = h.kept_is;
        over = λ none. over_wide (length old) (length bits) (length old) (length (bits ++ more)) (omega arith) (omega arith) e (h.over none);
        formed = m.formed;
        width = m.width ∙ h.width;
      }

  -- with further temporaries
  pub fine_wider : (w : Spot) (more : List ℕ) → Fine w → list_all is_width (w.bits ++ more) ≡ true → Fine (record { bits = w.bits ++ more; choices = w.choices })
  fine_wider w more h all = record {
    widths = all;
    fresh = h.fresh ++ more;
    bits = ap (λ l. l ++ more) h.bits ∙ append_assoc old h.fresh more;
    told = λ f. told_more w.bits more f (choice w.choices f) (h.told f);
  }

  -- each choice is one bit
  pub fine_bits : (w : Spot) (h : Fine w) → AreBits (old ++ h.fresh) w.choices
  fine_bits w h f = subst (λ bits. (is_expr bits (choice w.choices f) ≡ true) × (width_of bits (choice w.choices f) ≡ 1)) h.bits ((h.told f).formed, (h.told f).width)

  pub expr_still : (w : Spot) → Fine w → (e : Expr) → is_expr old e ≡ true → Formed old w.bits e (with_choices w.choices e)
  expr_still w h e ok = subst (λ bits. Formed old bits e (with_choices w.choices e)) (sym h.bits) (choices_still old h.fresh w.choices (fine_bits w h) e ok)

  -- the copies of a definition
  pub def_taken : (w : Spot) → Fine w → (f : FlagName) (e : Expr) → is_stmt old (Set (Flag f) e) ≡ true → IsTaken w.bits (with_choices w.choices e) (taken w.bits (with_choices w.choices e))
  def_taken w h f e ok = taken_is w.bits (with_choices w.choices e) h.widths (expr_still w h e (both (is_expr old e) (width_of old e == 1) ok).0).formed

  fine_same : (w : Spot) → Fine w → Fine (record { bits = w.bits ++ []; choices = w.choices })
  fine_same w h = subst (λ bits. Fine (record { bits = bits; choices = w.choices })) (sym (append-nil w.bits)) h

  told_def : (w : Spot) (h : Fine w) (g : FlagName) (e : Expr) → is_stmt old (Set (Flag g) e) ≡ true → is_kept kept g ≡ false → (t : Taken) → IsTaken w.bits (with_choices w.choices e) t →
      (f : FlagName) (b : Bool) → (flag_number f == flag_number g) ≡ b → Told (w.bits ++ t.widths) f (choice (with_choice w.choices g t.value) f)
  told_def w h g e ok is t it f true same =
      let one : f ≡ g = flag_same f g (eqb-true (flag_number f) (flag_number g) same) in
      let e_ok = both (is_expr old e) (width_of old e == 1) ok in
      let inner = expr_still w h e e_ok.0 in
      let long = ap length h.bits ∙ length-append old h.fresh in
      subst (λ x. Told (w.bits ++ t.widths) x (choice (with_choice w.choices g t.value) x)) (sym one)
      (subst (Told (w.bits ++ t.widths) g) (sym (choice_itself w.choices g t.value)) (record {
        kept_is = λ so. absurd (true≢false (sym so ∙ is));
        over = λ none. over_wide (length w.bits) (length (w.bits ++ t.widths)) (length old) (length (w.bits ++ t.widths)) (omega arith) (omega arith) t.value it.over;
        formed = it.value.formed;
        width = it.value.width ∙ inner.width ∙ eqb-true (width_of old e) 1 e_ok.1;
      }))
  told_def w h g e ok is t it f false other =
      subst (Told (w.bits ++ t.widths) f) (sym (choice_other w.choices g f t.value other)) (told_more w.bits t.widths f (choice w.choices f) (h.told f))

  -- the spot after a definition
  abbrev past_def : Spot → FlagName → Taken → Spot
  past_def w g t = record { bits = w.bits ++ t.widths; choices = with_choice w.choices g t.value }

  fine_taken : (w : Spot) (h : Fine w) (g : FlagName) (e : Expr) → is_stmt old (Set (Flag g) e) ≡ true → is_kept kept g ≡ false → (t : Taken) → IsTaken w.bits (with_choices w.choices e) t → Fine (past_def w g t)
  fine_taken w h g e ok is t it = record {
    widths = widths_more w.bits t.widths h.widths it.widths;
    fresh = h.fresh ++ t.widths;
    bits = ap (λ l. l ++ t.widths) h.bits ∙ append_assoc old h.fresh t.widths;
    told = λ f. told_def w h g e ok is t it f (flag_number f == flag_number g) refl;
  }

  abbrev def_folded : Bool → Spot → FlagName → Expr → Folded
  def_folded b w g e =
      if b then record { stmts = Set (Flag g) e ∷ []; widths = []; choices = w.choices }
      else record { stmts = (taken w.bits e).copies; widths = (taken w.bits e).widths; choices = with_choice w.choices g (taken w.bits e).value }

  fine_def : (w : Spot) (h : Fine w) (g : FlagName) (e : Expr) → is_stmt old (Set (Flag g) e) ≡ true → (b : Bool) → is_kept kept g ≡ b →
      Fine (record { bits = w.bits ++ (def_folded b w g (with_choices w.choices e)).widths; choices = (def_folded b w g (with_choices w.choices e)).choices })
  fine_def w h g e ok true is = fine_same w h
  fine_def w h g e ok false is = fine_taken w h g e ok is (taken w.bits (with_choices w.choices e)) (def_taken w h g e ok)

  pub fine_past : (w : Spot) → Fine w → (stmt : Stmt) → is_stmt old stmt ≡ true → Fine (past kept w stmt)
  fine_past w h (Set (Flag g) e) ok = fine_def w h g e ok (is_kept kept g) refl
  fine_past w h (Set (Half r x) e) ok = fine_same w h
  fine_past w h (Set (Cell n x) e) ok = fine_same w h
  fine_past w h (Set (Temp n) e) ok = fine_same w h
  fine_past w h (Fetch l width a) ok = fine_same w h
  fine_past w h (Store width a e) ok = fine_same w h
  fine_past w h (Div l e) ok = fine_same w h
  fine_past w h (Call r n a d) ok = fine_same w h
  fine_past w h (Dos n p a) ok = fine_same w h

  pub fine_walked : (stmts : List Stmt) (k : ℕ) (w : Spot) → list_all (is_stmt old) stmts ≡ true → Fine w → Fine (walked kept w stmts k)
  fine_walked stmts zero w ok h = h
  fine_walked [] (suc k) w ok h = h
  fine_walked (stmt ∷ stmts) (suc k) w ok h =
      let parts = both (is_stmt old stmt) (list_all (is_stmt old) stmts) ok in
      fine_walked stmts k (past kept w stmt) parts.1 (fine_past w h stmt parts.0)

  -- What is written is well formed.

  expr_of_still : (w : Spot) → Fine w → (width : ℕ) (e : Expr) → is_expr_of old width e ≡ true → is_expr_of w.bits width (with_choices w.choices e) ≡ true
  expr_of_still w h width e ok =
      let parts = both (is_expr old e) (width_of old e == width) ok in
      let s = expr_still w h e parts.0 in
      and_both (is_expr w.bits (with_choices w.choices e)) (width_of w.bits (with_choices w.choices e) == width) s.formed (ap (λ n. n == width) s.width ∙ parts.1)

  location_still : (w : Spot) → Fine w → (l : Loc) → is_location old l ≡ true → (is_location w.bits l ≡ true) × (location_width w.bits l ≡ location_width old l)
  location_still w h l ok = subst (λ bits. (is_location bits l ≡ true) × (location_width bits l ≡ location_width old l)) (sym h.bits) (location_more old h.fresh l ok, width_more old h.fresh l ok)

  set_still : (w : Spot) → Fine w → (l : Loc) (e : Expr) → is_stmt old (Set l e) ≡ true → is_stmt w.bits (Set l (with_choices w.choices e)) ≡ true
  set_still w h l e ok =
      let parts = both (is_location old l) (is_expr_of old (location_width old l) e) ok in
      let there = location_still w h l parts.0 in
      and_both (is_location w.bits l) (is_expr_of w.bits (location_width w.bits l) (with_choices w.choices e)) there.0
      (subst (λ n. is_expr_of w.bits n (with_choices w.choices e) ≡ true) (sym there.1) (expr_of_still w h (location_width old l) e parts.1))

  dividing_still : (w : Spot) → Fine w → (width : ℕ) (e : Expr) → is_dividing old width e ≡ true → is_dividing w.bits width (with_choices w.choices e) ≡ true
  dividing_still w h width (Binary o n a b) ok =
      let three = both (is_division o && (n == width) && is_stored_width width && is_expr_of old width a) (is_expr_of old width b) ok in
      let two = both (is_division o && (n == width) && is_stored_width width) (is_expr_of old width a) three.0 in
      and_both (is_division o && (n == width) && is_stored_width width && is_expr_of w.bits width (with_choices w.choices a)) (is_expr_of w.bits width (with_choices w.choices b))
      (and_both (is_division o && (n == width) && is_stored_width width) (is_expr_of w.bits width (with_choices w.choices a)) two.0 (expr_of_still w h width a two.1))
      (expr_of_still w h width b three.1)
  dividing_still w h width (Const n m) ok = absurd (true≢false (sym ok))
  dividing_still w h width (Get l) ok = absurd (true≢false (sym ok))
  dividing_still w h width (Load n a) ok = absurd (true≢false (sym ok))
  dividing_still w h width (Unary o n a) ok = absurd (true≢false (sym ok))
  dividing_still w h width (Widen s n a) ok = absurd (true≢false (sym ok))
  dividing_still w h width (Part n k a) ok = absurd (true≢false (sym ok))
  dividing_still w h width (Join a b) ok = absurd (true≢false (sym ok))
  dividing_still w h width (Choose x a b) ok = absurd (true≢false (sym ok))
  dividing_still w h width (Address d) ok = absurd (true≢false (sym ok))

  pub exprs_still : (w : Spot) → Fine w → (es : List Expr) → list_all (is_expr old) es ≡ true →
      (list_all (is_expr w.bits) (map (with_choices w.choices) es) ≡ true) × (map (width_of w.bits) (map (with_choices w.choices) es) ≡ map (width_of old) es)
  exprs_still w h [] ok = (refl, refl)
  exprs_still w h (e ∷ es) ok =
      let parts = both (is_expr old e) (list_all (is_expr old) es) ok in
      let s = expr_still w h e parts.0 in
      let later = exprs_still w h es parts.1 in
      (and_both (is_expr w.bits (with_choices w.choices e)) (list_all (is_expr w.bits) (map (with_choices w.choices) es)) s.formed later.0, ap₂ (λ n ns. n ∷ ns) s.width later.1)

  locations_still : (w : Spot) → Fine w → (ls : List Loc) → list_all (is_location old) ls ≡ true → list_all (is_location w.bits) ls ≡ true
  locations_still w h [] ok = refl
  locations_still w h (l ∷ ls) ok =
      let parts = both (is_location old l) (list_all (is_location old) ls) ok in
      and_both (is_location w.bits l) (list_all (is_location w.bits) ls) (location_still w h l parts.0).0 (locations_still w h ls parts.1)

  dos_still : (w : Spot) → Fine w → (number : ℕ) (place : Option Loc) (argument : Option Expr) → is_dos old number place argument ≡ true → is_dos w.bits number place (option_map (with_choices w.choices) argument) ≡ true
  dos_still w h number None (Some e) ok = either ((number == 0x02) || (number == 0x4C)) (is_expr_of old 8 e) (number == 0x09) (is_expr_of old 16 e) ok
      (expr_of_still w h 8 e) (expr_of_still w h 16 e)
    where
      either : (a x b y : Bool) → ((a && x) || (b && y)) ≡ true → (x ≡ true → is_expr_of w.bits 8 (with_choices w.choices e) ≡ true) → (y ≡ true → is_expr_of w.bits 16 (with_choices w.choices e) ≡ true) →
          ((a && is_expr_of w.bits 8 (with_choices w.choices e)) || (b && is_expr_of w.bits 16 (with_choices w.choices e))) ≡ true
      either true true b y k p q = ap (λ z. z || (b && is_expr_of w.bits 16 (with_choices w.choices e))) (p refl)
      either true false true true k p q = or_there (is_expr_of w.bits 8 (with_choices w.choices e)) (is_expr_of w.bits 16 (with_choices w.choices e)) (q refl)
        where
          or_there : (a b : Bool) → b ≡ true → (a || b) ≡ true
          or_there true b e = refl
          or_there false b e = e
      either true false true false k p q = absurd (true≢false (sym k))
      either true false false y k p q = absurd (true≢false (sym k))
      either false x true true k p q = q refl
      either false x true false k p q = absurd (true≢false (sym k))
      either false x false y k p q = absurd (true≢false (sym k))
  dos_still w h number None None ok = ok
  dos_still w h number (Some l) None ok =
      let parts = both ((number == 0x01) || (number == 0x08)) (is_byte_place old (Some l)) ok in
      let there = both (is_location old l) (location_width old l == 8) parts.1 in
      let still = location_still w h l there.0 in
      and_both ((number == 0x01) || (number == 0x08)) (is_byte_place w.bits (Some l)) parts.0
      (and_both (is_location w.bits l) (location_width w.bits l == 8) still.0 (ap (λ n. n == 8) still.1 ∙ there.1))
  dos_still w h number (Some l) (Some e) ok = absurd (true≢false (sym ok))

  pub stmt_still : (w : Spot) → Fine w → (stmt : Stmt) → is_stmt old stmt ≡ true → is_stmt w.bits (stmt_with_choices w.choices stmt) ≡ true
  stmt_still w h (Set l e) ok = set_still w h l e ok
  stmt_still w h (Fetch l width a) ok =
      let three = both (is_location old l && is_stored_width width && (location_width old l == width)) (is_expr_of old 16 a) ok in
      let two = both (is_location old l && is_stored_width width) (location_width old l == width) three.0 in
      let one = both (is_location old l) (is_stored_width width) two.0 in
      let there = location_still w h l one.0 in
      and_both (is_location w.bits l && is_stored_width width && (location_width w.bits l == width)) (is_expr_of w.bits 16 (with_choices w.choices a))
      (and_both (is_location w.bits l && is_stored_width width) (location_width w.bits l == width) (and_both (is_location w.bits l) (is_stored_width width) there.0 one.1) (ap (λ n. n == width) there.1 ∙ two.1))
      (expr_of_still w h 16 a three.1)
  stmt_still w h (Store width a e) ok =
      let two = both (is_stored_width width && is_expr_of old 16 a) (is_expr_of old width e) ok in
      let one = both (is_stored_width width) (is_expr_of old 16 a) two.0 in
      and_both (is_stored_width width && is_expr_of w.bits 16 (with_choices w.choices a)) (is_expr_of w.bits width (with_choices w.choices e))
      (and_both (is_stored_width width) (is_expr_of w.bits 16 (with_choices w.choices a)) one.0 (expr_of_still w h 16 a one.1)) (expr_of_still w h width e two.1)
  stmt_still w h (Div l e) ok =
      let parts = both (is_location old l) (is_dividing old (location_width old l) e) ok in
      let there = location_still w h l parts.0 in
      and_both (is_location w.bits l) (is_dividing w.bits (location_width w.bits l) (with_choices w.choices e)) there.0
      (subst (λ n. is_dividing w.bits n (with_choices w.choices e) ≡ true) (sym there.1) (dividing_still w h (location_width old l) e parts.1))
  stmt_still w h (Call results entry arguments depth) ok =
      let two = both (list_all (is_location old) results && list_all (is_expr old) arguments) (nat_lt depth 65536) ok in
      let one = both (list_all (is_location old) results) (list_all (is_expr old) arguments) two.0 in
      and_both (list_all (is_location w.bits) results && list_all (is_expr w.bits) (map (with_choices w.choices) arguments)) (nat_lt depth 65536)
      (and_both (list_all (is_location w.bits) results) (list_all (is_expr w.bits) (map (with_choices w.choices) arguments)) (locations_still w h results one.0) (exprs_still w h arguments one.1).0) two.1
  stmt_still w h (Dos number place argument) ok = dos_still w h number place argument ok

  pub exit_still : (w : Spot) → Fine w → (count : ℕ) (exit : Exit) → is_exit old count exit ≡ true → is_exit w.bits count (exit_with_choices w.choices exit) ≡ true
  exit_still w h count (Goto place) ok = ok
  exit_still w h count (If test one other) ok =
      let two = both (is_expr_of old 1 test && nat_lt one count) (nat_lt other count) ok in
      let first = both (is_expr_of old 1 test) (nat_lt one count) two.0 in
      and_both (is_expr_of w.bits 1 (with_choices w.choices test) && nat_lt one count) (nat_lt other count) (and_both (is_expr_of w.bits 1 (with_choices w.choices test)) (nat_lt one count) (expr_of_still w h 1 test first.0) first.1) two.1
  exit_still w h count (Switch e places) ok =
      let two = both (is_expr_of old 16 e && nat_le (length places) 65536) (list_all (λ place. nat_lt place count) places) ok in
      let first = both (is_expr_of old 16 e) (nat_le (length places) 65536) two.0 in
      and_both (is_expr_of w.bits 16 (with_choices w.choices e) && nat_le (length places) 65536) (list_all (λ place. nat_lt place count) places)
      (and_both (is_expr_of w.bits 16 (with_choices w.choices e)) (nat_le (length places) 65536) (expr_of_still w h 16 e first.0) first.1) two.1
  exit_still w h count (Ret values) ok = (exprs_still w h values ok).0
  exit_still w h count Stop ok = refl

  pub rets_still : (w : Spot) → Fine w → (count : ℕ) (exit : Exit) → is_exit old count exit ≡ true → ret_widths w.bits (exit_with_choices w.choices exit) ≡ ret_widths old exit
  rets_still w h count (Goto place) ok = refl
  rets_still w h count (If test one other) ok = refl
  rets_still w h count (Switch e places) ok = refl
  rets_still w h count (Ret values) ok = ap (λ l. l ∷ []) (exprs_still w h values ok).1
  rets_still w h count Stop ok = refl

pub targets_still : (c : Choices) (exit : Exit) → targets (exit_with_choices c exit) ≡ targets exit
targets_still c (Goto place) = refl
targets_still c (If test one other) = refl
targets_still c (Switch e places) = refl
targets_still c (Ret values) = refl
targets_still c Stop = refl

pub jump_still : (c : Choices) (exit : Exit) → is_jump (exit_with_choices c exit) ≡ is_jump exit
jump_still c (Goto place) = refl
jump_still c (If test one other) = refl
jump_still c (Switch e places) = refl
jump_still c (Ret values) = refl
jump_still c Stop = refl
