-- Laws of copies: an expression over fresh temporaries is well formed, and has the value after them that the expression
-- had before.
use Rattle.std.proofs.Common.{◌≡◌, ℕ, zero, suc, ◌+◌, ◌*◌, ◌/◌, ◌%◌, ◌^◌, ◌<◌, ◌≤◌, min, Bool, true, false, ◌&&◌, ◌||◌, inl, inr, List, [], ◌∷◌, ◌++◌, length, refl, sym, ap, ap₂, ◌∙◌, subst, true≢false, get_or, eqb-true, eq-eqb, ltb-true, lt-ltb, arith, append_assoc, length-append}
use Rattle.std.specs.Prelude.{if◌then◌else◌, ◌==◌, nat_lt, nat_le}
use Rattle.std.specs.List.{list_all}
use Rattle.dcc_ir.specs.declared.syntax.Loc.{Loc}
use Rattle.dcc_ir.specs.declared.syntax.Loc.TheVariants.{Half, Flag, Cell, Temp}
use Rattle.dcc_ir.specs.declared.syntax.BinOp.{BinOp}
use Rattle.dcc_ir.specs.Tree.{Expr, Const, Get, Load, Unary, Binary, Widen, Part, Join, Choose, Address, Stmt, Set, Fetch, Store, Div, Call, Dos}
use Rattle.dcc_ir.specs.Location.{same_location, location_width, with_value}
use Rattle.dcc_ir.specs.Value.{is_test, is_comparison, width_of, Environment, value_of, unary_value, binary_value, bytes_at, pattern_at, signed_at}
use Rattle.dcc_ir.specs.WellFormed.{is_width, is_location, divides_safely, is_expr, is_expr_of, is_stmt}
use Rattle.dcc_ir.proofs.FitLaws.{both}
use Rattle.dcc_ir.proofs.PathLaws.{decided}
use Rattle.dcc_flags.specs.Folding.{Taken, has_truth, bits_in, copied, one_taken, two_taken, taken}
use Rattle.dcc_flags.specs.Fresh.{is_between, is_over}
use Rattle.dcc_ir.proofs.passes.FormLaws.{width_more}
use Rattle.dcc_flow.proofs.FormedExprs.{and_both, unary_formed, binary_formed, within_formed, join_formed, choose_formed, ChooseFormed, make_choose, load_formed}
use Rattle.dcc_flags.proofs.ExprLaws.{Formed, unary_still, binary_still, widen_still, part_still, join_still, choose_still, expr_more}

-- Widths.

-- a well-formed expression has at most 32 bits
small_width : (width : ℕ) → is_width width ≡ true → width ≤ 32
small_width width ok = elim (decided (width == 32)) [
  | inl e ↦ let same = eqb-true width 32 e in omega arith
  | inr n ↦ elim (decided (width == 16)) [
    | inl e ↦ let same = eqb-true width 16 e in omega arith
    | inr n' ↦ elim (decided (width == 8)) [
      | inl e ↦ let same = eqb-true width 8 e in omega arith
      | inr n'' ↦ elim (decided (width == 1)) [
        | inl e ↦ let same = eqb-true width 1 e in omega arith
        | inr n''' ↦ absurd (true≢false (sym ok ∙ ap₂ (λ a b. a || b) (ap₂ (λ a b. a || b) (ap₂ (λ a b. a || b) n''' n'') n') n))
      ]
    ]
  ]
]

location_is_width : (bits : List ℕ) (l : Loc) → list_all is_width bits ≡ true → is_location bits l ≡ true → is_width (location_width bits l) ≡ true
location_is_width bits (Half r h) all ok = refl
location_is_width bits (Flag f) all ok = refl
location_is_width bits (Cell n h) all ok = refl
location_is_width bits (Temp n) all ok = go bits n all (ltb-true n (length bits) ok)
  where
    go : (bits : List ℕ) (n : ℕ) → list_all is_width bits ≡ true → n < length bits → is_width (get_or bits n 0) ≡ true
    go [] n all less = absurd (omega arith)
    go (b ∷ bits) zero all less = (both (is_width b) (list_all is_width bits) all).0
    go (b ∷ bits) (suc n) all less = go bits n (both (is_width b) (list_all is_width bits) all).1 (omega arith)

bit_or_width : (b : Bool) (width : ℕ) → is_width width ≡ true → is_width (if b then 1 else width) ≡ true
bit_or_width true width ok = refl
bit_or_width false width ok = ok

stored_is_width : (width : ℕ) → (width == 8 || width == 16 || width == 32) ≡ true → is_width width ≡ true
stored_is_width width ok = go (width == 1) (width == 8) (width == 16) (width == 32) ok
  where
    go : (a b c d : Bool) → (b || c || d) ≡ true → (a || b || c || d) ≡ true
    go true b c d e = refl
    go false b c d e = e

module _ (bits : List ℕ) (all : list_all is_width bits ≡ true) where
  -- the width of a well-formed expression is one, and the one that is noted
  record Width (e : Expr) : Type 0 where
    is : is_width (width_of bits e) ≡ true
    noted : bits_in bits e ≡ width_of bits e

  width_known : (e : Expr) → is_expr bits e ≡ true → Width e
  width_known (Const width n) ok = record { is = (both (is_width width) (nat_lt n (2 ^ width)) ok).0; noted = refl }
  width_known (Get l) ok = record { is = location_is_width bits l all ok; noted = refl }
  width_known (Load width a) ok = record { is = stored_is_width width (load_formed bits width a ok).width_ok; noted = refl }
  width_known (Unary operator width a) ok = record { is = bit_or_width (is_test operator) width (unary_formed bits operator width a ok).width_ok; noted = refl }
  width_known (Binary operator width a b) ok = record { is = bit_or_width (is_comparison operator) width (binary_formed bits operator width a b ok).width_ok; noted = refl }
  width_known (Widen signed width a) ok = record { is = (within_formed bits width a (λ n. nat_lt n width) ok).width_ok; noted = refl }
  width_known (Part width first a) ok = record { is = (within_formed bits width a (λ n. nat_le (first + width) n) ok).width_ok; noted = refl }
  width_known (Join high low) ok =
      let f = join_formed bits high low ok in
      let h = width_known high f.upper in
      let l = width_known low f.lower in
      let same = eqb-true (width_of bits high) (width_of bits low) f.same in
      let hs = small_width (width_of bits high) h.is in
      let ls = small_width (width_of bits low) l.is in
      let small : width_of bits high + width_of bits low ≤ 255 = omega arith in
      record {
        is = subst (λ n. is_width (n + width_of bits low) ≡ true) (sym same) (doubled (width_of bits low) f.size);
        noted = ap₂ (λ m n. min (m + n) 255) h.noted l.noted ∙ least (width_of bits high + width_of bits low) small;
      }
    where
      doubled : (n : ℕ) → (n == 8 || n == 16) ≡ true → is_width (n + n) ≡ true
      doubled n e = elim (decided (n == 8)) [
        | inl eight ↦ subst (λ m. is_width (m + m) ≡ true) (sym (eqb-true n 8 eight)) refl
        | inr other ↦ elim (decided (n == 16)) [
          | inl sixteen ↦ subst (λ m. is_width (m + m) ≡ true) (sym (eqb-true n 16 sixteen)) refl
          | inr neither ↦ absurd (true≢false (sym e ∙ ap₂ (λ a b. a || b) other neither))
        ]
      ]

      least : (n : ℕ) → n ≤ 255 → min n 255 ≡ n
      least n small = omega arith
  width_known (Choose x a b) ok = let h = width_known a (choose_formed bits x a b ok).one in record { is = h.is; noted = h.noted }
  width_known (Address distance) ok = record { is = refl; noted = refl }

-- Copies.

-- a statement sets a fresh temporary, from one number to below another, to a well-formed expression
abbrev pub is_copy : ℕ → List ℕ → Stmt → Bool
is_copy low bits (Set (Temp n) e) = nat_le low n && is_stmt bits (Set (Temp n) e)
is_copy low bits stmt = false

copy_more : (low : ℕ) (bits fresh : List ℕ) (stmt : Stmt) → is_copy low bits stmt ≡ true → is_copy low (bits ++ fresh) stmt ≡ true
copy_more low bits fresh (Set (Temp n) e) ok =
    let parts = both (nat_le low n) (is_stmt bits (Set (Temp n) e)) ok in
    let two = both (is_location bits (Temp n)) (is_expr_of bits (location_width bits (Temp n)) e) parts.1 in
    let of = both (is_expr bits e) (width_of bits e == location_width bits (Temp n)) two.1 in
    let more = expr_more bits fresh e of.0 in
    let less = ltb-true n (length bits) two.0 in
    and_both (nat_le low n) (is_stmt (bits ++ fresh) (Set (Temp n) e)) parts.0
    (and_both (is_location (bits ++ fresh) (Temp n)) (is_expr_of (bits ++ fresh) (location_width (bits ++ fresh) (Temp n)) e)
    (lt-ltb n (length (bits ++ fresh)) (subst (λ m. n < m) (sym (length-append bits fresh)) (omega arith)))
    (and_both (is_expr (bits ++ fresh) e) (width_of (bits ++ fresh) e == location_width (bits ++ fresh) (Temp n)) more.formed
    (ap₂ (λ m k. m == k) more.width (width_more bits fresh (Temp n) two.0) ∙ of.1)))
copy_more low bits fresh (Set (Half r h) e) ok = absurd (true≢false (sym ok))
copy_more low bits fresh (Set (Flag f) e) ok = absurd (true≢false (sym ok))
copy_more low bits fresh (Set (Cell n h) e) ok = absurd (true≢false (sym ok))
copy_more low bits fresh (Fetch l w a) ok = absurd (true≢false (sym ok))
copy_more low bits fresh (Store w a e) ok = absurd (true≢false (sym ok))
copy_more low bits fresh (Div l e) ok = absurd (true≢false (sym ok))
copy_more low bits fresh (Call r n a d) ok = absurd (true≢false (sym ok))
copy_more low bits fresh (Dos n p a) ok = absurd (true≢false (sym ok))

pub copies_more : (low : ℕ) (bits fresh : List ℕ) (stmts : List Stmt) → list_all (is_copy low bits) stmts ≡ true → list_all (is_copy low (bits ++ fresh)) stmts ≡ true
copies_more low bits fresh [] ok = refl
copies_more low bits fresh (stmt ∷ stmts) ok =
    let parts = both (is_copy low bits stmt) (list_all (is_copy low bits) stmts) ok in
    and_both (is_copy low (bits ++ fresh) stmt) (list_all (is_copy low (bits ++ fresh)) stmts) (copy_more low bits fresh stmt parts.0) (copies_more low bits fresh stmts parts.1)

pub le_true : (a b : ℕ) → a ≤ b → nat_le a b ≡ true
le_true a b less = grind arith

pub le_from : (a b : ℕ) → nat_le a b ≡ true → a ≤ b
le_from a b e = grind arith

copy_lower : (low lower : ℕ) (bits : List ℕ) (stmt : Stmt) → lower ≤ low → is_copy low bits stmt ≡ true → is_copy lower bits stmt ≡ true
copy_lower low lower bits (Set (Temp n) e) less ok =
    let parts = both (nat_le low n) (is_stmt bits (Set (Temp n) e)) ok in
    let over = le_from low n parts.0 in
    and_both (nat_le lower n) (is_stmt bits (Set (Temp n) e)) (le_true lower n (omega arith)) parts.1
copy_lower low lower bits (Set (Half r h) e) less ok = absurd (true≢false (sym ok))
copy_lower low lower bits (Set (Flag f) e) less ok = absurd (true≢false (sym ok))
copy_lower low lower bits (Set (Cell n h) e) less ok = absurd (true≢false (sym ok))
copy_lower low lower bits (Fetch l w a) less ok = absurd (true≢false (sym ok))
copy_lower low lower bits (Store w a e) less ok = absurd (true≢false (sym ok))
copy_lower low lower bits (Div l e) less ok = absurd (true≢false (sym ok))
copy_lower low lower bits (Call r n a d) less ok = absurd (true≢false (sym ok))
copy_lower low lower bits (Dos n p a) less ok = absurd (true≢false (sym ok))

copies_lower : (low lower : ℕ) (bits : List ℕ) (stmts : List Stmt) → lower ≤ low → list_all (is_copy low bits) stmts ≡ true → list_all (is_copy lower bits) stmts ≡ true
copies_lower low lower bits [] less ok = refl
copies_lower low lower bits (stmt ∷ stmts) less ok =
    let parts = both (is_copy low bits stmt) (list_all (is_copy low bits) stmts) ok in
    and_both (is_copy lower bits stmt) (list_all (is_copy lower bits) stmts) (copy_lower low lower bits stmt less parts.0) (copies_lower low lower bits stmts less parts.1)

pub all_append : {A : Type 0} (f : A → Bool) (xs ys : List A) → list_all f xs ≡ true → list_all f ys ≡ true → list_all f (xs ++ ys) ≡ true
all_append f [] ys p q = q
all_append f (x ∷ xs) ys p q =
    let parts = both (f x) (list_all f xs) p in
    and_both (f x) (list_all f (xs ++ ys)) parts.0 (all_append f xs ys parts.1 q)

-- temporaries of a part of the numbers are temporaries of all
over_wider : (low high lower higher : ℕ) → lower ≤ low → high ≤ higher → (e : Expr) → is_over low high e ≡ true → is_over lower higher e ≡ true
over_wider low high lower higher down up (Const w n) ok = refl
over_wider low high lower higher down up (Get (Temp n)) ok =
    let parts = both (nat_le low n) (nat_lt n high) ok in
    let a = le_from low n parts.0 in
    let b = ltb-true n high parts.1 in
    and_both (nat_le lower n) (nat_lt n higher) (le_true lower n (omega arith)) (lt-ltb n higher (omega arith))
over_wider low high lower higher down up (Get (Half r h)) ok = absurd (true≢false (sym ok))
over_wider low high lower higher down up (Get (Flag f)) ok = absurd (true≢false (sym ok))
over_wider low high lower higher down up (Get (Cell n h)) ok = absurd (true≢false (sym ok))
over_wider low high lower higher down up (Load w a) ok = absurd (true≢false (sym ok))
over_wider low high lower higher down up (Unary o w a) ok = over_wider low high lower higher down up a ok
over_wider low high lower higher down up (Binary o w a b) ok =
    let parts = both (is_over low high a) (is_over low high b) ok in
    and_both (is_over lower higher a) (is_over lower higher b) (over_wider low high lower higher down up a parts.0) (over_wider low high lower higher down up b parts.1)
over_wider low high lower higher down up (Widen s w a) ok = over_wider low high lower higher down up a ok
over_wider low high lower higher down up (Part w k a) ok = over_wider low high lower higher down up a ok
over_wider low high lower higher down up (Join a b) ok =
    let parts = both (is_over low high a) (is_over low high b) ok in
    and_both (is_over lower higher a) (is_over lower higher b) (over_wider low high lower higher down up a parts.0) (over_wider low high lower higher down up b parts.1)
over_wider low high lower higher down up (Choose x a b) ok =
    let two = both (is_over low high x && is_over low high a) (is_over low high b) ok in
    let one = both (is_over low high x) (is_over low high a) two.0 in
    and_both (is_over lower higher x && is_over lower higher a) (is_over lower higher b)
    (and_both (is_over lower higher x) (is_over lower higher a) (over_wider low high lower higher down up x one.0) (over_wider low high lower higher down up a one.1)) (over_wider low high lower higher down up b two.1)
over_wider low high lower higher down up (Address d) ok = absurd (true≢false (sym ok))

pub over_wide : (low high lower higher : ℕ) → lower ≤ low → high ≤ higher → (e : Expr) → is_over low high e ≡ true → is_over lower higher e ≡ true
over_wide = over_wider

safe_taken : (operator : BinOp) (width : ℕ) (bits : List ℕ) (b : Expr) → divides_safely operator width b ≡ true → divides_safely operator width (taken bits b).value ≡ true
safe_taken operator width bits (Const w n) safe = safe
safe_taken operator width bits (Get l) safe = absurd (true≢false (sym safe))
safe_taken operator width bits (Load w a) safe = absurd (true≢false (sym safe))
safe_taken operator width bits (Unary o w a) safe = absurd (true≢false (sym safe))
safe_taken operator width bits (Binary o w a b) safe = absurd (true≢false (sym safe))
safe_taken operator width bits (Widen s w a) safe = absurd (true≢false (sym safe))
safe_taken operator width bits (Part w k a) safe = absurd (true≢false (sym safe))
safe_taken operator width bits (Join a b) safe = absurd (true≢false (sym safe))
safe_taken operator width bits (Choose x a b) safe = absurd (true≢false (sym safe))
safe_taken operator width bits (Address d) safe = absurd (true≢false (sym safe))

-- What copies leave: the value reads fresh temporaries alone, and all is well formed.
pub record IsTaken (bits : List ℕ) (e : Expr) (t : Taken) : Type 0 where
  pub over : is_over (length bits) (length (bits ++ t.widths)) t.value ≡ true
  pub value : Formed bits (bits ++ t.widths) e t.value
  pub widths : list_all is_width t.widths ≡ true
  pub copies : list_all (is_copy (length bits) (bits ++ t.widths)) t.copies ≡ true

pub length_at_end : (xs : List ℕ) (n : ℕ) → length (xs ++ n ∷ []) ≡ suc (length xs)
length_at_end [] n = refl
length_at_end (x ∷ xs) n = ap suc (length_at_end xs n)

pub get_at_end : (xs : List ℕ) (n : ℕ) → get_or (xs ++ n ∷ []) (length xs) 0 ≡ n
get_at_end [] n = refl
get_at_end (x ∷ xs) n = get_at_end xs n

copied_is : (bits : List ℕ) (e : Expr) → list_all is_width bits ≡ true → is_expr bits e ≡ true → IsTaken bits e (copied bits e)
copied_is bits e all ok =
    let known = width_known bits all e ok in
    let w = bits_in bits e in
    let n = length bits in
    let long = length_at_end bits w in
    let here : nat_lt n (length (bits ++ w ∷ [])) ≡ true = lt-ltb n (length (bits ++ w ∷ [])) (omega arith) in
    let low : nat_le n n ≡ true = le_true n n (omega arith) in
    let width : location_width (bits ++ w ∷ []) (Temp n) ≡ width_of bits e = get_at_end bits w ∙ known.noted in
    let more = expr_more bits (w ∷ []) e ok in
    record {
      over = and_both (nat_le n n) (nat_lt n (length (bits ++ w ∷ []))) low here;
      value = record { formed = here; width = width };
      widths = and_both (is_width w) true (subst (λ m. is_width m ≡ true) (sym known.noted) known.is) refl;
      copies = and_both (is_copy n (bits ++ w ∷ []) (Set (Temp n) e)) true
          (and_both (nat_le n n) (is_stmt (bits ++ w ∷ []) (Set (Temp n) e)) low
          (and_both (is_location (bits ++ w ∷ []) (Temp n)) (is_expr_of (bits ++ w ∷ []) (location_width (bits ++ w ∷ []) (Temp n)) e) here
          (and_both (is_expr (bits ++ w ∷ []) e) (width_of (bits ++ w ∷ []) e == location_width (bits ++ w ∷ []) (Temp n)) more.formed
          (eq-eqb (width_of (bits ++ w ∷ []) e) (location_width (bits ++ w ∷ []) (Temp n)) (more.width ∙ sym width))))) refl;
    }

-- what copies leave is well formed after further temporaries too
later : (bits more : List ℕ) (e : Expr) (t : Taken) → IsTaken bits e t → Formed bits ((bits ++ t.widths) ++ more) e t.value
later bits more e t h = let m = expr_more (bits ++ t.widths) more t.value h.value.formed in record { formed = m.formed; width = m.width ∙ h.value.width }

two_is : (bits : List ℕ) (make : Expr → Expr → Expr) (a b : Expr) (t u : Taken) → IsTaken bits a t → IsTaken (bits ++ t.widths) b u
    → is_expr bits b ≡ true
    → ((low high : ℕ) (x y : Expr) → is_over low high x ≡ true → is_over low high y ≡ true → is_over low high (make x y) ≡ true)
    → ((bits' : List ℕ) → Formed bits bits' a t.value → Formed bits bits' b u.value → Formed bits bits' (make a b) (make t.value u.value))
    → IsTaken bits (make a b) (two_taken make t u)
two_is bits make a b t u h k ok over formed =
    let assoc : (bits ++ t.widths) ++ u.widths ≡ bits ++ (t.widths ++ u.widths) = append_assoc bits t.widths u.widths in
    let m = expr_more bits t.widths b ok in
    let left = subst (λ l. Formed bits l a t.value) assoc (later bits u.widths a t h) in
    let right : Formed bits (bits ++ (t.widths ++ u.widths)) b u.value = subst (λ l. Formed bits l b u.value) assoc (record { formed = k.value.formed; width = k.value.width ∙ m.width }) in
    let one = length-append bits t.widths in
    let two = length-append (bits ++ t.widths) u.widths in
    record {
      over = subst (λ l. is_over (length bits) (length l) (make t.value u.value) ≡ true) assoc
          (over (length bits) (length ((bits ++ t.widths) ++ u.widths)) t.value u.value
          (over_wider (length bits) (length (bits ++ t.widths)) (length bits) (length ((bits ++ t.widths) ++ u.widths)) (omega arith) (omega arith) t.value h.over)
          (over_wider (length (bits ++ t.widths)) (length ((bits ++ t.widths) ++ u.widths)) (length bits) (length ((bits ++ t.widths) ++ u.widths)) (omega arith) (omega arith) u.value k.over));
      value = formed (bits ++ (t.widths ++ u.widths)) left right;
      widths = all_append is_width t.widths u.widths h.widths k.widths;
      copies = subst (λ l. list_all (is_copy (length bits) l) (t.copies ++ u.copies) ≡ true) assoc
          (all_append (is_copy (length bits) ((bits ++ t.widths) ++ u.widths)) t.copies u.copies
          (copies_more (length bits) (bits ++ t.widths) u.widths t.copies h.copies)
          (copies_lower (length (bits ++ t.widths)) (length bits) ((bits ++ t.widths) ++ u.widths) u.copies (omega arith) k.copies));
    }

one_is : (bits : List ℕ) (make : Expr → Expr) (a : Expr) (t : Taken) → IsTaken bits a t
    → (is_over (length bits) (length (bits ++ t.widths)) t.value ≡ true → is_over (length bits) (length (bits ++ t.widths)) (make t.value) ≡ true)
    → (Formed bits (bits ++ t.widths) a t.value → Formed bits (bits ++ t.widths) (make a) (make t.value))
    → IsTaken bits (make a) (one_taken make t)
one_is bits make a t h over formed = record { over = over h.over; value = formed h.value; widths = h.widths; copies = h.copies }

is_if : (bits : List ℕ) (e : Expr) (b : Bool) (t u : Taken) → IsTaken bits e t → IsTaken bits e u → IsTaken bits e (if b then t else u)
is_if bits e true t u h k = h
is_if bits e false t u h k = k

pub widths_more : (xs ys : List ℕ) → list_all is_width xs ≡ true → list_all is_width ys ≡ true → list_all is_width (xs ++ ys) ≡ true
widths_more xs ys p q = all_append is_width xs ys p q

-- a choice with another last arm
with_other : Expr → Expr → Expr
with_other (Choose x a c) b = Choose x a b
with_other e b = b

with_other-over : (low high : ℕ) (y z : Expr) → is_over low high y ≡ true → is_over low high z ≡ true → is_over low high (with_other y z) ≡ true
unfolding with_other
with_other-over low high (Choose x a c) z p q = and_both (is_over low high x && is_over low high a) (is_over low high z) (both (is_over low high x && is_over low high a) (is_over low high c) p).0 q
with_other-over low high (Const w n) z p q = q
with_other-over low high (Get l) z p q = q
with_other-over low high (Load w a) z p q = q
with_other-over low high (Unary o w a) z p q = q
with_other-over low high (Binary o w a b) z p q = q
with_other-over low high (Widen s w a) z p q = q
with_other-over low high (Part w k a) z p q = q
with_other-over low high (Join a b) z p q = q
with_other-over low high (Address d) z p q = q

with_other-formed : (bits bits' : List ℕ) (x a b x' a' b' : Expr) → is_expr bits (Choose x a b) ≡ true → Formed bits bits' (Choose x a a) (Choose x' a' a') → Formed bits bits' b b' → Formed bits bits' (Choose x a b) (Choose x' a' b')
with_other-formed bits bits' x a b x' a' b' ok p q =
    let f = choose_formed bits x a b ok in
    let g = choose_formed bits' x' a' a' p.formed in
    record {
      formed = make_choose bits' x' a' b' (record { tested = g.tested; one = g.one; other = q.formed; bit = g.bit; same = ap₂ (λ m n. m == n) p.width q.width ∙ f.same });
      width = p.width;
    }

-- what is taken of the three parts of a choice, one after another
record ChosenTaken (bits : List ℕ) (x a b : Expr) : Type 0 where
  parts : ChooseFormed bits x a b
  first : IsTaken bits x (taken bits x)
  first_widths : list_all is_width (bits ++ (taken bits x).widths) ≡ true
  one : is_expr (bits ++ (taken bits x).widths) a ≡ true
  second : IsTaken (bits ++ (taken bits x).widths) a (taken (bits ++ (taken bits x).widths) a)
  second_widths : list_all is_width (bits ++ (taken bits x).widths ++ (taken (bits ++ (taken bits x).widths) a).widths) ≡ true
  other : is_expr (bits ++ (taken bits x).widths ++ (taken (bits ++ (taken bits x).widths) a).widths) b ≡ true
  third : IsTaken (bits ++ (taken bits x).widths ++ (taken (bits ++ (taken bits x).widths) a).widths) b
      (taken (bits ++ (taken bits x).widths ++ (taken (bits ++ (taken bits x).widths) a).widths) b)

abbrev TakenWell : List ℕ → Expr → Type 0
TakenWell bits e = list_all is_width bits ≡ true → is_expr bits e ≡ true → IsTaken bits e (taken bits e)

chosen_taken : (bits : List ℕ) (x a b : Expr) → list_all is_width bits ≡ true → is_expr bits (Choose x a b) ≡ true
    → TakenWell bits x → TakenWell (bits ++ (taken bits x).widths) a
    → TakenWell (bits ++ (taken bits x).widths ++ (taken (bits ++ (taken bits x).widths) a).widths) b → ChosenTaken bits x a b
chosen_taken bits x a b all ok x_is a_is b_is =
    let more = bits ++ (taken bits x).widths in
    let f = choose_formed bits x a b ok in
    let h = x_is all f.tested in
    let first_widths = widths_more bits (taken bits x).widths all h.widths in
    let one = (expr_more bits (taken bits x).widths a f.one).formed in
    let k = a_is first_widths one in
    let second_widths = widths_more more (taken more a).widths first_widths k.widths in
    let other = (expr_more more (taken more a).widths b (expr_more bits (taken bits x).widths b f.other).formed).formed in
    record {
      parts = f;
      first = h;
      first_widths = first_widths;
      one = one;
      second = k;
      second_widths = second_widths;
      other = other;
      third = b_is second_widths other;
    }

pub taken_is : (bits : List ℕ) (e : Expr) → list_all is_width bits ≡ true → is_expr bits e ≡ true → IsTaken bits e (taken bits e)
unfolding with_other
taken_is bits (Const w n) all ok = record {
  over = refl;
  value = record { formed = ok; width = refl };
  widths = refl;
  copies = refl;
}
taken_is bits (Get l) all ok = copied_is bits (Get l) all ok
taken_is bits (Load w a) all ok = copied_is bits (Load w a) all ok
taken_is bits (Unary o w a) all ok =
    is_if bits (Unary o w a) (has_truth (Unary o w a)) _ _
    (one_is bits (Unary o w) a (taken bits a) (taken_is bits a all (unary_formed bits o w a ok).inner) (λ h. h) (λ h. unary_still bits _ o w a (taken bits a).value ok h))
    (copied_is bits (Unary o w a) all ok)
taken_is bits (Binary o w a b) all ok =
    let f = binary_formed bits o w a b ok in
    let h = taken_is bits a all f.left in
    let more = bits ++ (taken bits a).widths in
    is_if bits (Binary o w a b) (has_truth (Binary o w a b)) _ _
    (two_is bits (Binary o w) a b (taken bits a) (taken more b) h
    (taken_is more b (widths_more bits (taken bits a).widths all h.widths) (expr_more bits (taken bits a).widths b f.right).formed) f.right
    (λ low high x y p q. and_both (is_over low high x) (is_over low high y) p q)
    (λ bits' p q. binary_still bits bits' o w a b (taken bits a).value (taken more b).value ok p q (safe_taken o w more b)))
    (copied_is bits (Binary o w a b) all ok)
taken_is bits (Widen s w a) all ok =
    is_if bits (Widen s w a) (has_truth a) _ _
    (one_is bits (Widen s w) a (taken bits a) (taken_is bits a all (within_formed bits w a (λ n. nat_lt n w) ok).inner) (λ h. h) (λ h. widen_still bits _ s w a (taken bits a).value ok h))
    (copied_is bits (Widen s w a) all ok)
taken_is bits (Part w k a) all ok =
    is_if bits (Part w k a) (has_truth a) _ _
    (one_is bits (Part w k) a (taken bits a) (taken_is bits a all (within_formed bits w a (λ n. nat_le (k + w) n) ok).inner) (λ h. h) (λ h. part_still bits _ w k a (taken bits a).value ok h))
    (copied_is bits (Part w k a) all ok)
taken_is bits (Join a b) all ok =
    let f = join_formed bits a b ok in
    let h = taken_is bits a all f.upper in
    let more = bits ++ (taken bits a).widths in
    is_if bits (Join a b) (has_truth (Join a b)) _ _
    (two_is bits Join a b (taken bits a) (taken more b) h
    (taken_is more b (widths_more bits (taken bits a).widths all h.widths) (expr_more bits (taken bits a).widths b f.lower).formed) f.lower
    (λ low high x y p q. and_both (is_over low high x) (is_over low high y) p q)
    (λ bits' p q. join_still bits bits' a b (taken bits a).value (taken more b).value ok p q))
    (copied_is bits (Join a b) all ok)
taken_is bits (Choose x a b) all ok =
    let t = taken bits x in
    let u = taken (bits ++ t.widths) a in
    let v = taken (bits ++ t.widths ++ u.widths) b in
    let c = chosen_taken bits x a b all ok (taken_is bits x) (taken_is (bits ++ t.widths) a) (taken_is (bits ++ t.widths ++ u.widths) b) in
    let f = c.parts in
    let l = subst (λ w. IsTaken w b v) (append_assoc bits t.widths u.widths) c.third in
    let once = make_choose bits x a a (record { tested = f.tested; one = f.one; other = f.one; bit = f.bit; same = eq-eqb (width_of bits a) (width_of bits a) refl }) in
    let first : IsTaken bits (Choose x a a) (two_taken (λ y z. Choose y z z) t u) = two_is bits (λ y z. Choose y z z) x a t u c.first c.second f.one
    (λ low high y z p q. and_both (is_over low high y && is_over low high z) (is_over low high z) (and_both (is_over low high y) (is_over low high z) p q) q)
    (λ bits' p q. choose_still bits bits' x a a t.value u.value u.value once p q q) in
    let whole : IsTaken bits (Choose x a b) (two_taken with_other (two_taken (λ y z. Choose y z z) t u) v) = two_is bits with_other (Choose x a a) b (two_taken (λ y z. Choose y z z) t u) v first l f.other
    with_other-over
    (λ bits' p q. with_other-formed bits bits' x a b t.value u.value v.value ok p q) in
    whole
taken_is bits (Address d) all ok = copied_is bits (Address d) all ok

-- Values.

-- what is read before a number of temporaries
abbrev pub is_old : ℕ → Loc → Bool
is_old high (Temp n) = nat_lt n high
is_old high l = true

module _ (low : ℕ) (s t : Environment) (bits : t.bits ≡ s.bits) where
  -- an expression over temporaries has one value where these have
  pub over_value : (high : ℕ) → ((n : ℕ) → low ≤ n → n < high → t.values (Temp n) ≡ s.values (Temp n)) → (e : Expr) → is_over low high e ≡ true → value_of t e ≡ value_of s e
  over_value high same (Const w n) ok = refl
  over_value high same (Get (Temp n)) ok = let parts = both (nat_le low n) (nat_lt n high) ok in same n (le_from low n parts.0) (ltb-true n high parts.1)
  over_value high same (Get (Half r h)) ok = absurd (true≢false (sym ok))
  over_value high same (Get (Flag f)) ok = absurd (true≢false (sym ok))
  over_value high same (Get (Cell n h)) ok = absurd (true≢false (sym ok))
  over_value high same (Load w a) ok = absurd (true≢false (sym ok))
  over_value high same (Unary o w a) ok = ap (unary_value o w) (over_value high same a ok)
  over_value high same (Binary o w a b) ok =
      let parts = both (is_over low high a) (is_over low high b) ok in
      ap₂ (binary_value o w) (over_value high same a parts.0) (over_value high same b parts.1)
  over_value high same (Widen true w a) ok = ap₂ (λ x n. pattern_at w (signed_at (width_of x a) n)) bits (over_value high same a ok)
  over_value high same (Widen false w a) ok = over_value high same a ok
  over_value high same (Part w k a) ok = ap (λ n. n / 2 ^ k % 2 ^ w) (over_value high same a ok)
  over_value high same (Join a b) ok =
      let parts = both (is_over low high a) (is_over low high b) ok in
      let h = over_value high same a parts.0 in
      let l = over_value high same b parts.1 in
      cc
  over_value high same (Choose x a b) ok =
      let two = both (is_over low high x && is_over low high a) (is_over low high b) ok in
      let one = both (is_over low high x) (is_over low high a) two.0 in
      let n = over_value high same x one.0 in
      ap (λ n. if n == 1 then value_of t a else value_of t b) n
      ∙ ap₂ (λ y z. if value_of s x == 1 then y else z) (over_value high same a one.1) (over_value high same b two.1)
  over_value high same (Address d) ok = absurd (true≢false (sym ok))

-- a well-formed expression has one value where the temporaries that it may read, and all else, have
old_value : (old : List ℕ) (s t : Environment) → t.bits ≡ s.bits → t.base ≡ s.base → t.memory ≡ s.memory → ((l : Loc) → is_location old l ≡ true → t.values l ≡ s.values l) →
    (e : Expr) → is_expr old e ≡ true → value_of t e ≡ value_of s e
old_value old s t bits base memory same (Const w n) ok = refl
old_value old s t bits base memory same (Get l) ok = same l ok
old_value old s t bits base memory same (Load w a) ok = ap₂ (λ m n. bytes_at m (w / 8) n) memory (old_value old s t bits base memory same a (load_formed old w a ok).inner)
old_value old s t bits base memory same (Unary o w a) ok = ap (unary_value o w) (old_value old s t bits base memory same a (unary_formed old o w a ok).inner)
old_value old s t bits base memory same (Binary o w a b) ok =
    let f = binary_formed old o w a b ok in
    ap₂ (binary_value o w) (old_value old s t bits base memory same a f.left) (old_value old s t bits base memory same b f.right)
old_value old s t bits base memory same (Widen true w a) ok = ap₂ (λ x n. pattern_at w (signed_at (width_of x a) n)) bits (old_value old s t bits base memory same a (within_formed old w a (λ n. nat_lt n w) ok).inner)
old_value old s t bits base memory same (Widen false w a) ok = old_value old s t bits base memory same a (within_formed old w a (λ n. nat_lt n w) ok).inner
old_value old s t bits base memory same (Part w k a) ok = ap (λ n. n / 2 ^ k % 2 ^ w) (old_value old s t bits base memory same a (within_formed old w a (λ n. nat_le (k + w) n) ok).inner)
old_value old s t bits base memory same (Join a b) ok =
    let f = join_formed old a b ok in
    let h = old_value old s t bits base memory same a f.upper in
    let l = old_value old s t bits base memory same b f.lower in
    cc
old_value old s t bits base memory same (Choose x a b) ok =
    let f = choose_formed old x a b ok in
    let n = old_value old s t bits base memory same x f.tested in
    ap (λ n. if n == 1 then value_of t a else value_of t b) n
    ∙ ap₂ (λ y z. if value_of s x == 1 then y else z) (old_value old s t bits base memory same a f.one) (old_value old s t bits base memory same b f.other)
old_value old s t bits base memory same (Address d) ok = ap (λ n. (n + d) % 65536) base

-- the scene after statements that set locations
abbrev pub after_sets : List Stmt → Environment → Environment
after_sets [] s = s
after_sets (Set l e ∷ rest) s = after_sets rest (record s { values = with_value s.values l (value_of s e) })
after_sets (stmt ∷ rest) s = after_sets rest s

pub after_bits : (cs : List Stmt) (s : Environment) → (after_sets cs s).bits ≡ s.bits
after_bits [] s = refl
after_bits (Set l e ∷ rest) s = after_bits rest (record s { values = with_value s.values l (value_of s e) })
after_bits (Fetch l w a ∷ rest) s = after_bits rest s
after_bits (Store w a e ∷ rest) s = after_bits rest s
after_bits (Div l e ∷ rest) s = after_bits rest s
after_bits (Call r n a d ∷ rest) s = after_bits rest s
after_bits (Dos n p a ∷ rest) s = after_bits rest s

pub after_base : (cs : List Stmt) (s : Environment) → (after_sets cs s).base ≡ s.base
after_base [] s = refl
after_base (Set l e ∷ rest) s = after_base rest (record s { values = with_value s.values l (value_of s e) })
after_base (Fetch l w a ∷ rest) s = after_base rest s
after_base (Store w a e ∷ rest) s = after_base rest s
after_base (Div l e ∷ rest) s = after_base rest s
after_base (Call r n a d ∷ rest) s = after_base rest s
after_base (Dos n p a ∷ rest) s = after_base rest s

pub after_memory : (cs : List Stmt) (s : Environment) → (after_sets cs s).memory ≡ s.memory
after_memory [] s = refl
after_memory (Set l e ∷ rest) s = after_memory rest (record s { values = with_value s.values l (value_of s e) })
after_memory (Fetch l w a ∷ rest) s = after_memory rest s
after_memory (Store w a e ∷ rest) s = after_memory rest s
after_memory (Div l e ∷ rest) s = after_memory rest s
after_memory (Call r n a d ∷ rest) s = after_memory rest s
after_memory (Dos n p a ∷ rest) s = after_memory rest s

after_append : (xs ys : List Stmt) (s : Environment) → after_sets (xs ++ ys) s ≡ after_sets ys (after_sets xs s)
after_append [] ys s = refl
after_append (Set l e ∷ rest) ys s = after_append rest ys (record s { values = with_value s.values l (value_of s e) })
after_append (Fetch l w a ∷ rest) ys s = after_append rest ys s
after_append (Store w a e ∷ rest) ys s = after_append rest ys s
after_append (Div l e ∷ rest) ys s = after_append rest ys s
after_append (Call r n a d ∷ rest) ys s = after_append rest ys s
after_append (Dos n p a ∷ rest) ys s = after_append rest ys s

-- copies leave all else
module _ (low : ℕ) (bits : List ℕ) where
  not_written : (n : ℕ) (l : Loc) → is_between low (length bits) (Temp n) ≡ true → is_between low (length bits) l ≡ false → same_location l (Temp n) ≡ false
  not_written n (Temp m) there none = elim (decided (m == n)) [
    | inl e ↦ absurd (true≢false (sym there ∙ ap (λ k. is_between low (length bits) (Temp k)) (sym (eqb-true m n e)) ∙ none))
    | inr f ↦ f
  ]
  not_written n (Half r h) there none = refl
  not_written n (Flag f) there none = refl
  not_written n (Cell k h) there none = refl

  pub sets_same : (cs : List Stmt) → list_all (is_copy low bits) cs ≡ true → (s : Environment) (l : Loc) → is_between low (length bits) l ≡ false → (after_sets cs s).values l ≡ s.values l
  sets_same [] ok s l none = refl
  sets_same (Set (Temp n) e ∷ cs) ok s l none =
      let parts = both (is_copy low bits (Set (Temp n) e)) (list_all (is_copy low bits) cs) ok in
      let two = both (nat_le low n) (is_stmt bits (Set (Temp n) e)) parts.0 in
      let there = both (is_location bits (Temp n)) (is_expr_of bits (location_width bits (Temp n)) e) two.1 in
      sets_same cs parts.1 (record s { values = with_value s.values (Temp n) (value_of s e) }) l none
      ∙ ap (λ b. if b then value_of s e else s.values l) (not_written n l (and_both (nat_le low n) (nat_lt n (length bits)) two.0 there.0) none)
  sets_same (Set (Half r h) e ∷ cs) ok s l none = absurd (true≢false (sym ok))
  sets_same (Set (Flag f) e ∷ cs) ok s l none = absurd (true≢false (sym ok))
  sets_same (Set (Cell k h) e ∷ cs) ok s l none = absurd (true≢false (sym ok))
  sets_same (Fetch x w a ∷ cs) ok s l none = absurd (true≢false (sym ok))
  sets_same (Store w a e ∷ cs) ok s l none = absurd (true≢false (sym ok))
  sets_same (Div x e ∷ cs) ok s l none = absurd (true≢false (sym ok))
  sets_same (Call r n a d ∷ cs) ok s l none = absurd (true≢false (sym ok))
  sets_same (Dos n p a ∷ cs) ok s l none = absurd (true≢false (sym ok))

-- the value after the copies is that of the expression before
abbrev pub HasValue : List ℕ → Expr → Taken → Type 0
HasValue bits e t = (s : Environment) (more : List ℕ) → s.bits ≡ (bits ++ t.widths) ++ more → value_of (after_sets t.copies s) t.value ≡ value_of s e

copied_value : (bits : List ℕ) (e : Expr) → HasValue bits e (copied bits e)
copied_value bits e s more is = ap (λ b. if b then value_of s e else s.values (Temp (length bits))) (eq-eqb (length bits) (length bits) refl)

value_if : (bits : List ℕ) (e : Expr) (b : Bool) (t u : Taken) → HasValue bits e t → HasValue bits e u → HasValue bits e (if b then t else u)
value_if bits e true t u h k = h
value_if bits e false t u h k = k

-- an old location is no fresh temporary, nor is a temporary below
pub old_outside : (bits more : List ℕ) (l : Loc) → is_location bits l ≡ true → is_between (length bits) (length more) l ≡ false
old_outside bits more (Half r h) ok = refl
old_outside bits more (Flag f) ok = refl
old_outside bits more (Cell n h) ok = refl
old_outside bits more (Temp n) ok = below n (length bits) (length more) (ltb-true n (length bits) ok)
  where
    below : (n low high : ℕ) → n < low → (nat_le low n && nat_lt n high) ≡ false
    below n low high less = ap (λ b. b && nat_lt n high) (not_le low n less)
      where
        not_le : (a b : ℕ) → b < a → nat_le a b ≡ false
        not_le a b less = grind arith

pub temp_outside : (low high n : ℕ) → n < low → is_between low high (Temp n) ≡ false
temp_outside low high n less = ap (λ b. b && nat_lt n high) (not_le low n less)
  where
    not_le : (a b : ℕ) → b < a → nat_le a b ≡ false
    not_le a b less = grind arith

-- the widths in the scene
scene_width : (bits : List ℕ) (e : Expr) (t : Taken) (s : Environment) (more : List ℕ) → is_expr bits e ≡ true → IsTaken bits e t → s.bits ≡ (bits ++ t.widths) ++ more → width_of s.bits t.value ≡ width_of s.bits e
scene_width bits e t s more ok h is =
    let a = expr_more (bits ++ t.widths) more t.value h.value.formed in
    let assoc : (bits ++ t.widths) ++ more ≡ bits ++ (t.widths ++ more) = append_assoc bits t.widths more in
    let b = expr_more bits (t.widths ++ more) e ok in
    ap (λ l. width_of l t.value) is ∙ a.width ∙ h.value.width ∙ sym b.width ∙ ap (λ l. width_of l e) (sym assoc) ∙ ap (λ l. width_of l e) (sym is)

-- two expressions, one copied after the other
record TwoValues (bits : List ℕ) (a b : Expr) (t u : Taken) (s : Environment) : Type 0 where
  first : value_of (after_sets (t.copies ++ u.copies) s) t.value ≡ value_of s a
  second : value_of (after_sets (t.copies ++ u.copies) s) u.value ≡ value_of s b
  first_width : width_of s.bits t.value ≡ width_of s.bits a
  second_width : width_of s.bits u.value ≡ width_of s.bits b

two_values : (bits : List ℕ) (a b : Expr) (t u : Taken) → is_expr bits a ≡ true → is_expr bits b ≡ true → IsTaken bits a t → IsTaken (bits ++ t.widths) b u → HasValue bits a t → HasValue (bits ++ t.widths) b u →
    (s : Environment) (more : List ℕ) → s.bits ≡ (bits ++ (t.widths ++ u.widths)) ++ more → TwoValues bits a b t u s
two_values bits a b t u ok_a ok_b h k first second s more is =
    let assoc : (bits ++ t.widths) ++ u.widths ≡ bits ++ (t.widths ++ u.widths) = append_assoc bits t.widths u.widths in
    let s_all : s.bits ≡ ((bits ++ t.widths) ++ u.widths) ++ more = is ∙ ap (λ l. l ++ more) (sym assoc) in
    let s_first : s.bits ≡ (bits ++ t.widths) ++ (u.widths ++ more) = s_all ∙ append_assoc (bits ++ t.widths) u.widths more in
    let mid = after_sets t.copies s in
    let end = after_append t.copies u.copies s in
    let mid_bits : mid.bits ≡ ((bits ++ t.widths) ++ u.widths) ++ more = after_bits t.copies s ∙ s_all in
    let b_more = expr_more bits t.widths b ok_b in
    record {
      first = ap (λ (x : Environment). value_of x t.value) end
          ∙ over_value (length bits) mid (after_sets u.copies mid) (after_bits u.copies mid) (length (bits ++ t.widths))
          (λ n low high. sets_same (length (bits ++ t.widths)) ((bits ++ t.widths) ++ u.widths) u.copies k.copies mid (Temp n) (temp_outside (length (bits ++ t.widths)) (length ((bits ++ t.widths) ++ u.widths)) n high))
          t.value h.over
          ∙ first s (u.widths ++ more) s_first;
      second = ap (λ (x : Environment). value_of x u.value) end ∙ second mid more mid_bits
          ∙ old_value bits s mid (after_bits t.copies s) (after_base t.copies s) (after_memory t.copies s)
          (λ l there. sets_same (length bits) (bits ++ t.widths) t.copies h.copies s l (old_outside bits (bits ++ t.widths) l there)) b ok_b;
      first_width = scene_width bits a t s (u.widths ++ more) ok_a h s_first;
      second_width = scene_width (bits ++ t.widths) b u s more b_more.formed k s_all;
    }

pub taken_value : (bits : List ℕ) (e : Expr) → list_all is_width bits ≡ true → is_expr bits e ≡ true → HasValue bits e (taken bits e)
taken_value bits (Const w n) all ok = λ s more is. refl
taken_value bits (Get l) all ok = copied_value bits (Get l)
taken_value bits (Load w a) all ok = copied_value bits (Load w a)
taken_value bits (Unary o w a) all ok =
    value_if bits (Unary o w a) (has_truth (Unary o w a)) _ _
    (λ s more is. ap (unary_value o w) (taken_value bits a all (unary_formed bits o w a ok).inner s more is)) (copied_value bits (Unary o w a))
taken_value bits (Binary o w a b) all ok =
    let f = binary_formed bits o w a b ok in
    let t = taken bits a in
    let u = taken (bits ++ t.widths) b in
    let h = taken_is bits a all f.left in
    let all' = widths_more bits t.widths all h.widths in
    let b_ok = (expr_more bits t.widths b f.right).formed in
    value_if bits (Binary o w a b) (has_truth (Binary o w a b)) _ _
    (λ s more is.
    let v = two_values bits a b t u f.left f.right h (taken_is (bits ++ t.widths) b all' b_ok) (taken_value bits a all f.left) (taken_value (bits ++ t.widths) b all' b_ok) s more is in
    ap₂ (binary_value o w) v.first v.second)
    (copied_value bits (Binary o w a b))
taken_value bits (Widen true w a) all ok =
    let inner = (within_formed bits w a (λ n. nat_lt n w) ok).inner in
    value_if bits (Widen true w a) (has_truth a) _ _
    (λ s more is. ap₂ (λ x n. pattern_at w (signed_at x n))
    (ap (λ l. width_of l (taken bits a).value) (after_bits (taken bits a).copies s) ∙ scene_width bits a (taken bits a) s more inner (taken_is bits a all inner) is)
    (taken_value bits a all inner s more is))
    (copied_value bits (Widen true w a))
taken_value bits (Widen false w a) all ok =
    value_if bits (Widen false w a) (has_truth a) _ _
    (λ s more is. taken_value bits a all (within_formed bits w a (λ n. nat_lt n w) ok).inner s more is) (copied_value bits (Widen false w a))
taken_value bits (Part w k a) all ok =
    value_if bits (Part w k a) (has_truth a) _ _
    (λ s more is. ap (λ n. n / 2 ^ k % 2 ^ w) (taken_value bits a all (within_formed bits w a (λ n. nat_le (k + w) n) ok).inner s more is)) (copied_value bits (Part w k a))
taken_value bits (Join a b) all ok =
    let f = join_formed bits a b ok in
    let t = taken bits a in
    let u = taken (bits ++ t.widths) b in
    let h = taken_is bits a all f.upper in
    let all' = widths_more bits t.widths all h.widths in
    let b_ok = (expr_more bits t.widths b f.lower).formed in
    value_if bits (Join a b) (has_truth (Join a b)) _ _
    (λ s more is.
    let v = two_values bits a b t u f.upper f.lower h (taken_is (bits ++ t.widths) b all' b_ok) (taken_value bits a all f.upper) (taken_value (bits ++ t.widths) b all' b_ok) s more is in
    let w = ap (λ l. width_of l u.value) (after_bits (t.copies ++ u.copies) s) ∙ v.second_width in
    let x = v.first in
    let y = v.second in
    ap₂ (λ m n. m + n) (ap₂ (λ m n. m * 2 ^ n) x w) y)
    (copied_value bits (Join a b))
taken_value bits (Choose x a b) all ok = λ s more is.
    let t = taken bits x in
    let u = taken (bits ++ t.widths) a in
    let v = taken (bits ++ t.widths ++ u.widths) b in
    let c = chosen_taken bits x a b all ok (taken_is bits x) (taken_is (bits ++ t.widths) a) (taken_is (bits ++ t.widths ++ u.widths) b) in
    let assoc : bits ++ (t.widths ++ u.widths ++ v.widths) ≡ (bits ++ t.widths ++ u.widths) ++ v.widths = sym (append_assoc bits (t.widths ++ u.widths) v.widths) ∙ ap (λ z. z ++ v.widths) (sym (append_assoc bits t.widths u.widths)) in
    let s_all : s.bits ≡ ((bits ++ t.widths ++ u.widths) ++ v.widths) ++ more = is ∙ ap (λ z. z ++ more) assoc in
    let s_two : s.bits ≡ (bits ++ (t.widths ++ u.widths)) ++ (v.widths ++ more) = s_all ∙ append_assoc (bits ++ t.widths ++ u.widths) v.widths more ∙ ap (λ z. z ++ (v.widths ++ more)) (append_assoc bits t.widths u.widths) in
    let first = two_values bits x a t u c.parts.tested c.parts.one c.first c.second (taken_value bits x all c.parts.tested) (taken_value (bits ++ t.widths) a c.first_widths c.one) s (v.widths ++ more) s_two in
    let mid = after_sets (t.copies ++ u.copies) s in
    let end = after_append (t.copies ++ u.copies) v.copies s in
    let mid_bits : mid.bits ≡ ((bits ++ t.widths ++ u.widths) ++ v.widths) ++ more = after_bits (t.copies ++ u.copies) s ∙ s_all in
    let top = length (bits ++ t.widths ++ u.widths) in
    let one = length-append bits t.widths in
    let two = length-append (bits ++ t.widths) u.widths in
    let still = λ (n : ℕ) (high : n < top). sets_same top ((bits ++ t.widths ++ u.widths) ++ v.widths) v.copies c.third.copies mid (Temp n) (temp_outside top (length ((bits ++ t.widths ++ u.widths) ++ v.widths)) n high) in
    let x_over = over_wider (length bits) (length (bits ++ t.widths)) 0 top (omega arith) (omega arith) t.value c.first.over in
    let a_over = over_wider (length (bits ++ t.widths)) top 0 top (omega arith) (omega arith) u.value c.second.over in
    let vx = ap (λ (z : Environment). value_of z t.value) end ∙ over_value 0 mid (after_sets v.copies mid) (after_bits v.copies mid) top (λ n low high. still n high) t.value x_over ∙ first.first in
    let va = ap (λ (z : Environment). value_of z u.value) end ∙ over_value 0 mid (after_sets v.copies mid) (after_bits v.copies mid) top (λ n low high. still n high) u.value a_over ∙ first.second in
    let copies_all = all_append (is_copy (length bits) (bits ++ t.widths ++ u.widths)) t.copies u.copies (copies_more (length bits) (bits ++ t.widths) u.widths t.copies c.first.copies)
    (copies_lower (length (bits ++ t.widths)) (length bits) (bits ++ t.widths ++ u.widths) u.copies (omega arith) c.second.copies) in
    let vb = ap (λ (z : Environment). value_of z v.value) end ∙ taken_value (bits ++ t.widths ++ u.widths) b c.second_widths c.other mid more mid_bits
    ∙ old_value bits s mid (after_bits (t.copies ++ u.copies) s) (after_base (t.copies ++ u.copies) s) (after_memory (t.copies ++ u.copies) s)
    (λ y there. sets_same (length bits) (bits ++ t.widths ++ u.widths) (t.copies ++ u.copies) copies_all s y (old_outside bits (bits ++ t.widths ++ u.widths) y there)) b c.parts.other in
    let last = after_sets (t.copies ++ u.copies ++ v.copies) s in
    ap (λ n. if n == 1 then value_of last u.value else value_of last v.value) vx
    ∙ ap₂ (λ y z. if value_of s x == 1 then y else z) va vb
taken_value bits (Address d) all ok = copied_value bits (Address d)
