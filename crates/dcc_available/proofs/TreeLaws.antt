-- Substitutes of well-formed expressions are well formed, and take no other addresses.
use Rattle.std.proofs.Common.{◌≡◌, ℕ, ◌+◌, Bool, true, false, ◌&&◌, ◌||◌, not, List, [], ◌∷◌, ◌++◌, length, flat_map, Some, None, refl, sym, ap, ap₂, ◌∙◌, subst, true≢false}
use Rattle.std.specs.Prelude.{◌==◌, nat_lt, nat_le}
use Rattle.std.specs.List.{list_all, AllZip}
use Rattle.dcc_ir.specs.declared.syntax.Loc.{Loc}
use Rattle.dcc_ir.specs.declared.syntax.BinOp.{BinOp}
use Rattle.dcc_ir.specs.Tree.{Expr, Binary, Stmt, Set, Exit}
use Rattle.dcc_ir.specs.Location.{location_width}
use Rattle.dcc_ir.specs.Value.{width_of}
use Rattle.dcc_ir.specs.Use.{parts_of, addressed_by, addresses_of, exprs_of, exit_exprs}
use Rattle.dcc_ir.specs.WellFormed.{is_stored_width, is_location, is_division, divides_safely, is_expr, is_expr_of, is_dividing, is_stmt, is_exit}
use Rattle.dcc_ir.proofs.FitLaws.{both}
use Rattle.dcc_flow.proofs.FormedExprs.{and_both, binary_formed, make_binary, unary_formed, make_unary, join_formed, make_join, choose_formed, make_choose, load_formed, make_load, within_formed, make_within}
use Rattle.dcc_substitution.specs.Substitute.{IsSubstitute, itself, read, load, unary, binary, widen, part, join, choose}
use Rattle.dcc_substitution.specs.Substituted.{IsSubstituteStmt, set, fetch, store, div, call, dos, same, IsSubstituteExit, goto, test, switch, ret, stop}
use Rattle.dcc_substitution.proofs.SubstituteLaws.{width-substitute}
use Rattle.std.proofs.lemmas.List.Concat.{flat_map-append}

-- What is told of fewer is told of more.

module _ (Is More : Loc → Expr → Type 0) (more : (l : Loc) (e : Expr) → Is l e → More l e) where
  pub substitute-more : (e e' : Expr) → IsSubstitute Is e e' → IsSubstitute More e e'
  substitute-more e e' itself = itself
  substitute-more e e' (read {location = l} is) = read (more l e' is)
  substitute-more e e' (load {a = a} {a' = a'} h) = load (substitute-more a a' h)
  substitute-more e e' (unary {a = a} {a' = a'} h) = unary (substitute-more a a' h)
  substitute-more e e' (binary {a = a} {a' = a'} {b = b} {b' = b'} h k) = binary (substitute-more a a' h) (substitute-more b b' k)
  substitute-more e e' (widen {a = a} {a' = a'} h) = widen (substitute-more a a' h)
  substitute-more e e' (part {a = a} {a' = a'} h) = part (substitute-more a a' h)
  substitute-more e e' (join {high = high} {high' = high'} {low = low} {low' = low'} h k) = join (substitute-more high high' h) (substitute-more low low' k)
  substitute-more e e' (choose {test = x} {test' = x'} {a = a} {a' = a'} {b = b} {b' = b'} h k m) = choose (substitute-more x x' h) (substitute-more a a' k) (substitute-more b b' m)

  pub substitutes-more : (es es' : List Expr) → AllZip (IsSubstitute Is) es es' → AllZip (IsSubstitute More) es es'
  substitutes-more [] [] all = tt
  substitutes-more [] (e' ∷ es') all = absurd all
  substitutes-more (e ∷ es) [] all = absurd all
  substitutes-more (e ∷ es) (e' ∷ es') all = (substitute-more e e' all.0, substitutes-more es es' all.1)

  pub stmt-more : (s s' : Stmt) → IsSubstituteStmt Is s s' → IsSubstituteStmt More s s'
  stmt-more s s' (set {e = e} {e' = e'} h) = set (substitute-more e e' h)
  stmt-more s s' (fetch {a = a} {a' = a'} h) = fetch (substitute-more a a' h)
  stmt-more s s' (store {a = a} {a' = a'} {e = e} {e' = e'} h k) = store (substitute-more a a' h) (substitute-more e e' k)
  stmt-more s s' (div {a = a} {a' = a'} {b = b} {b' = b'} h k) = div (substitute-more a a' h) (substitute-more b b' k)
  stmt-more s s' (call {arguments = es} {arguments' = es'} all) = call (substitutes-more es es' all)
  stmt-more s s' (dos {e = e} {e' = e'} h) = dos (substitute-more e e' h)
  stmt-more s s' same = same

  pub exit-more : (x x' : Exit) → IsSubstituteExit Is x x' → IsSubstituteExit More x x'
  exit-more x x' goto = goto
  exit-more x x' (test {e = e} {e' = e'} h) = test (substitute-more e e' h)
  exit-more x x' (switch {e = e} {e' = e'} h) = switch (substitute-more e e' h)
  exit-more x x' (ret {values = es} {values' = es'} all) = ret (substitutes-more es es' all)
  exit-more x x' stop = stop

-- what a substitute sets it sets by a substitute
pub set-of : (Is : Loc → Expr → Type 0) (s s' : Stmt) → IsSubstituteStmt Is s s' → (l : Loc) (v : Expr) → s' ≡ Set l v → (e : Expr) × (s ≡ Set l e) × IsSubstitute Is e v
set-of Is s s' (set {location = x} {e = e} {e' = e'} h) l v is =
    let place : x ≡ l = cc in
    let value : e' ≡ v = cc in
    (e, ap (λ y. Set y e) place, subst (IsSubstitute Is e) value h)
set-of Is s s' (fetch h) l v is = absurd (cc)
set-of Is s s' (store h k) l v is = absurd (cc)
set-of Is s s' (div h k) l v is = absurd (cc)
set-of Is s s' (call all) l v is = absurd (cc)
set-of Is s s' (dos h) l v is = absurd (cc)
set-of Is s s' same l v is = (v, is, itself)

-- Well-formed expressions.

-- the expression may stand in the place of the location
pub record IsFit (bits : List ℕ) (l : Loc) (e : Expr) : Type 0 where
  pub location : is_location bits l ≡ true
  pub formed : is_expr bits e ≡ true
  pub width : width_of bits e ≡ location_width bits l

module _ (bits : List ℕ) (Is : Loc → Expr → Type 0) (fit : (l : Loc) (e : Expr) → Is l e → IsFit bits l e) where
  pub width-stays : (e e' : Expr) → IsSubstitute Is e e' → width_of bits e' ≡ width_of bits e
  width-stays = width-substitute bits Is (λ l e is. (fit l e is).width)

  divides-safely : (b b' : Expr) (operator : BinOp) (width : ℕ) → IsSubstitute Is b b' → divides_safely operator width b ≡ true → divides_safely operator width b' ≡ true
  divides-safely b b' operator width itself safe = safe
  divides-safely b b' operator width (read is) safe = absurd (true≢false (sym safe))
  divides-safely b b' operator width (load h) safe = absurd (true≢false (sym safe))
  divides-safely b b' operator width (unary h) safe = absurd (true≢false (sym safe))
  divides-safely b b' operator width (binary h k) safe = absurd (true≢false (sym safe))
  divides-safely b b' operator width (widen h) safe = absurd (true≢false (sym safe))
  divides-safely b b' operator width (part h) safe = absurd (true≢false (sym safe))
  divides-safely b b' operator width (join h k) safe = absurd (true≢false (sym safe))
  divides-safely b b' operator width (choose h k m) safe = absurd (true≢false (sym safe))

  or-more : (p a b : Bool) → (a ≡ true → b ≡ true) → (p || a) ≡ true → (p || b) ≡ true
  or-more true a b later h = refl
  or-more false a b later h = later h

  wide : (e e' : Expr) → IsSubstitute Is e e' → (n : ℕ) → (width_of bits e == n) ≡ true → (width_of bits e' == n) ≡ true
  wide e e' h n is = ap (λ m. m == n) (width-stays e e' h) ∙ is

  pub expr-formed : (e e' : Expr) → IsSubstitute Is e e' → is_expr bits e ≡ true → is_expr bits e' ≡ true
  expr-formed e e' itself ok = ok
  expr-formed e e' (read {location = l} is) ok = (fit l e' is).formed
  expr-formed e e' (load {width = width} {a = a} {a' = a'} h) ok =
      let f = load_formed bits width a ok in
      make_load bits width a' (record { width_ok = f.width_ok; inner = expr-formed a a' h f.inner; inner_width = wide a a' h 16 f.inner_width })
  expr-formed e e' (unary {operator = operator} {width = width} {a = a} {a' = a'} h) ok =
      let f = unary_formed bits operator width a ok in
      make_unary bits operator width a' (record { width_ok = f.width_ok; inner = expr-formed a a' h f.inner; inner_width = wide a a' h width f.inner_width })
  expr-formed e e' (binary {operator = operator} {width = width} {a = a} {a' = a'} {b = b} {b' = b'} h k) ok =
      let f = binary_formed bits operator width a b ok in
      make_binary bits operator width a' b' (record {
        width_ok = f.width_ok;
        left = expr-formed a a' h f.left;
        right = expr-formed b b' k f.right;
        left_width = wide a a' h width f.left_width;
        right_width = wide b b' k width f.right_width;
        safe = or-more (not (is_division operator)) (divides_safely operator width b) (divides_safely operator width b') (divides-safely b b' operator width k) f.safe;
      })
  expr-formed e e' (widen {width = width} {a = a} {a' = a'} h) ok =
      let f = within_formed bits width a (λ n. nat_lt n width) ok in
      make_within bits width a' (λ n. nat_lt n width) (record { width_ok = f.width_ok; inner = expr-formed a a' h f.inner; inner_width = ap (λ n. nat_lt n width) (width-stays a a' h) ∙ f.inner_width })
  expr-formed e e' (part {width = width} {first = first} {a = a} {a' = a'} h) ok =
      let f = within_formed bits width a (λ n. nat_le (first + width) n) ok in
      make_within bits width a' (λ n. nat_le (first + width) n) (record { width_ok = f.width_ok; inner = expr-formed a a' h f.inner; inner_width = ap (λ n. nat_le (first + width) n) (width-stays a a' h) ∙ f.inner_width })
  expr-formed e e' (join {high = high} {high' = high'} {low = low} {low' = low'} h k) ok =
      let f = join_formed bits high low ok in
      make_join bits high' low' (record {
        upper = expr-formed high high' h f.upper;
        lower = expr-formed low low' k f.lower;
        same = ap₂ (λ m n. m == n) (width-stays high high' h) (width-stays low low' k) ∙ f.same;
        size = ap (λ n. n == 8 || n == 16) (width-stays low low' k) ∙ f.size;
      })
  expr-formed e e' (choose {test = x} {test' = x'} {a = a} {a' = a'} {b = b} {b' = b'} h k m) ok =
      let f = choose_formed bits x a b ok in
      make_choose bits x' a' b' (record {
        tested = expr-formed x x' h f.tested;
        one = expr-formed a a' k f.one;
        other = expr-formed b b' m f.other;
        bit = wide x x' h 1 f.bit;
        same = ap₂ (λ p q. p == q) (width-stays a a' k) (width-stays b b' m) ∙ f.same;
      })

  pub expr-of-formed : (width : ℕ) (e e' : Expr) → IsSubstitute Is e e' → is_expr_of bits width e ≡ true → is_expr_of bits width e' ≡ true
  expr-of-formed width e e' h ok =
      let parts = both (is_expr bits e) (width_of bits e == width) ok in
      and_both (is_expr bits e') (width_of bits e' == width) (expr-formed e e' h parts.0) (wide e e' h width parts.1)

  pub exprs-formed : (es es' : List Expr) → AllZip (IsSubstitute Is) es es' → list_all (is_expr bits) es ≡ true → list_all (is_expr bits) es' ≡ true
  exprs-formed [] [] all ok = refl
  exprs-formed [] (e' ∷ es') all ok = absurd all
  exprs-formed (e ∷ es) [] all ok = absurd all
  exprs-formed (e ∷ es) (e' ∷ es') all ok =
      let parts = both (is_expr bits e) (list_all (is_expr bits) es) ok in
      and_both (is_expr bits e') (list_all (is_expr bits) es') (expr-formed e e' all.0 parts.0) (exprs-formed es es' all.1 parts.1)

  either-more : (p q a b a' b' : Bool) → (a ≡ true → a' ≡ true) → (b ≡ true → b' ≡ true) → ((p && a) || (q && b)) ≡ true → ((p && a') || (q && b')) ≡ true
  either-more true q true b a' b' f g h = ap (λ c. c || (q && b')) (f refl)
  either-more true true false true a' b' f g h = ap (λ c. a' || c) (g refl) ∙ any-or a'
    where
      any-or : (c : Bool) → (c || true) ≡ true
      any-or true = refl
      any-or false = refl
  either-more true true false false a' b' f g h = absurd (true≢false (sym h))
  either-more true false false b a' b' f g h = absurd (true≢false (sym h))
  either-more false true a true a' b' f g h = g refl
  either-more false true a false a' b' f g h = absurd (true≢false (sym h))
  either-more false false a b a' b' f g h = absurd (true≢false (sym h))

  pub stmt-formed : (s s' : Stmt) → IsSubstituteStmt Is s s' → is_stmt bits s ≡ true → is_stmt bits s' ≡ true
  stmt-formed s s' (set {location = l} {e = e} {e' = e'} h) ok =
      let parts = both (is_location bits l) (is_expr_of bits (location_width bits l) e) ok in
      and_both (is_location bits l) (is_expr_of bits (location_width bits l) e') parts.0 (expr-of-formed (location_width bits l) e e' h parts.1)
  stmt-formed s s' (fetch {location = l} {width = width} {a = a} {a' = a'} h) ok =
      let front = is_location bits l && is_stored_width width && (location_width bits l == width) in
      let parts = both (is_location bits l && is_stored_width width && (location_width bits l == width)) (is_expr_of bits 16 a) ok in
      and_both (is_location bits l && is_stored_width width && (location_width bits l == width)) (is_expr_of bits 16 a') parts.0 (expr-of-formed 16 a a' h parts.1)
  stmt-formed s s' (store {width = width} {a = a} {a' = a'} {e = e} {e' = e'} h k) ok =
      let two = both (is_stored_width width && is_expr_of bits 16 a) (is_expr_of bits width e) ok in
      let one = both (is_stored_width width) (is_expr_of bits 16 a) two.0 in
      and_both (is_stored_width width && is_expr_of bits 16 a') (is_expr_of bits width e')
      (and_both (is_stored_width width) (is_expr_of bits 16 a') one.0 (expr-of-formed 16 a a' h one.1)) (expr-of-formed width e e' k two.1)
  stmt-formed s s' (div {location = l} {operator = operator} {width = w} {a = a} {a' = a'} {b = b} {b' = b'} h k) ok =
      let width = location_width bits l in
      let whole = both (is_location bits l) (is_dividing bits (location_width bits l) (Binary operator w a b)) ok in
      let two = both (is_division operator && (w == location_width bits l) && is_stored_width (location_width bits l) && is_expr_of bits (location_width bits l) a) (is_expr_of bits (location_width bits l) b) whole.1 in
      let one = both (is_division operator && (w == location_width bits l) && is_stored_width (location_width bits l)) (is_expr_of bits (location_width bits l) a) two.0 in
      and_both (is_location bits l) (is_dividing bits (location_width bits l) (Binary operator w a' b')) whole.0
      (and_both (is_division operator && (w == location_width bits l) && is_stored_width (location_width bits l) && is_expr_of bits (location_width bits l) a') (is_expr_of bits (location_width bits l) b')
      (and_both (is_division operator && (w == location_width bits l) && is_stored_width (location_width bits l)) (is_expr_of bits (location_width bits l) a') one.0 (expr-of-formed width a a' h one.1))
      (expr-of-formed width b b' k two.1))
  stmt-formed s s' (call {results = results} {depth = depth} {arguments = es} {arguments' = es'} all) ok =
      let two = both (list_all (is_location bits) results && list_all (is_expr bits) es) (nat_lt depth 65536) ok in
      let one = both (list_all (is_location bits) results) (list_all (is_expr bits) es) two.0 in
      and_both (list_all (is_location bits) results && list_all (is_expr bits) es') (nat_lt depth 65536)
      (and_both (list_all (is_location bits) results) (list_all (is_expr bits) es') one.0 (exprs-formed es es' all one.1)) two.1
  stmt-formed s s' (dos {number = number} {place = None} {e = e} {e' = e'} h) ok =
      either-more (number == 0x02 || number == 0x4C) (number == 0x09) (is_expr_of bits 8 e) (is_expr_of bits 16 e) (is_expr_of bits 8 e') (is_expr_of bits 16 e')
      (expr-of-formed 8 e e' h) (expr-of-formed 16 e e' h) ok
  stmt-formed s s' (dos {number = number} {place = Some l} {e = e} {e' = e'} h) ok = absurd (true≢false (sym ok))
  stmt-formed s s' same ok = ok

  pub exit-formed : (count : ℕ) (x x' : Exit) → IsSubstituteExit Is x x' → is_exit bits count x ≡ true → is_exit bits count x' ≡ true
  exit-formed count x x' goto ok = ok
  exit-formed count x x' (test {e = e} {e' = e'} {one = one} {other = other} h) ok =
      let two = both (is_expr_of bits 1 e && nat_lt one count) (nat_lt other count) ok in
      let parts = both (is_expr_of bits 1 e) (nat_lt one count) two.0 in
      and_both (is_expr_of bits 1 e' && nat_lt one count) (nat_lt other count)
      (and_both (is_expr_of bits 1 e') (nat_lt one count) (expr-of-formed 1 e e' h parts.0) parts.1) two.1
  exit-formed count x x' (switch {e = e} {e' = e'} {places = places} h) ok =
      let two = both (is_expr_of bits 16 e && nat_le (length places) 65536) (list_all (λ place. nat_lt place count) places) ok in
      let parts = both (is_expr_of bits 16 e) (nat_le (length places) 65536) two.0 in
      and_both (is_expr_of bits 16 e' && nat_le (length places) 65536) (list_all (λ place. nat_lt place count) places)
      (and_both (is_expr_of bits 16 e') (nat_le (length places) 65536) (expr-of-formed 16 e e' h parts.0) parts.1) two.1
  exit-formed count x x' (ret {values = es} {values' = es'} all) ok = exprs-formed es es' all ok
  exit-formed count x x' stop ok = ok

-- Addresses.

module _ (test_of : ℕ → Bool) where
  -- each address that the expression takes passes the test
  abbrev pub takes : Expr → Bool
  takes e = list_all test_of (addresses_of e)

  all-append : (xs ys : List ℕ) → list_all test_of (xs ++ ys) ≡ (list_all test_of xs && list_all test_of ys)
  all-append [] ys = refl
  all-append (x ∷ xs) ys = ap (λ b. test_of x && b) (all-append xs ys) ∙ and-left (test_of x) (list_all test_of xs) (list_all test_of ys)
    where
      and-left : (a b c : Bool) → (a && (b && c)) ≡ ((a && b) && c)
      and-left true b c = refl
      and-left false b c = refl

  takes-parts : (xs ys : List Expr) → list_all test_of (flat_map addressed_by (xs ++ ys)) ≡ (list_all test_of (flat_map addressed_by xs) && list_all test_of (flat_map addressed_by ys))
  takes-parts xs ys = ap (list_all test_of) (flat_map-append addressed_by xs ys) ∙ all-append (flat_map addressed_by xs) (flat_map addressed_by ys)

  module _ (Is : Loc → Expr → Type 0) (told : (l : Loc) (e : Expr) → Is l e → takes e ≡ true) where
    two-take : (a a' b b' : Expr) → (takes a ≡ true → takes a' ≡ true) → (takes b ≡ true → takes b' ≡ true)
        → list_all test_of (flat_map addressed_by (parts_of a ++ parts_of b)) ≡ true → list_all test_of (flat_map addressed_by (parts_of a' ++ parts_of b')) ≡ true
    two-take a a' b b' f g ok =
        let parts = both (takes a) (takes b) (sym (takes-parts (parts_of a) (parts_of b)) ∙ ok) in
        takes-parts (parts_of a') (parts_of b') ∙ and_both (takes a') (takes b') (f parts.0) (g parts.1)

    pub substitute-takes : (e e' : Expr) → IsSubstitute Is e e' → takes e ≡ true → takes e' ≡ true
    substitute-takes e e' itself ok = ok
    substitute-takes e e' (read {location = l} is) ok = told l e' is
    substitute-takes e e' (load {a = a} {a' = a'} h) ok = substitute-takes a a' h ok
    substitute-takes e e' (unary {a = a} {a' = a'} h) ok = substitute-takes a a' h ok
    substitute-takes e e' (binary {a = a} {a' = a'} {b = b} {b' = b'} h k) ok = two-take a a' b b' (substitute-takes a a' h) (substitute-takes b b' k) ok
    substitute-takes e e' (widen {a = a} {a' = a'} h) ok = substitute-takes a a' h ok
    substitute-takes e e' (part {a = a} {a' = a'} h) ok = substitute-takes a a' h ok
    substitute-takes e e' (join {high = a} {high' = a'} {low = b} {low' = b'} h k) ok = two-take a a' b b' (substitute-takes a a' h) (substitute-takes b b' k) ok
    substitute-takes e e' (choose {test = x} {test' = x'} {a = a} {a' = a'} {b = b} {b' = b'} h k m) ok =
        let parts = both (list_all test_of (flat_map addressed_by (parts_of x ++ parts_of a))) (takes b) (sym (takes-parts (parts_of x ++ parts_of a) (parts_of b)) ∙ ok) in
        takes-parts (parts_of x' ++ parts_of a') (parts_of b')
        ∙ and_both (list_all test_of (flat_map addressed_by (parts_of x' ++ parts_of a'))) (takes b')
        (two-take x x' a a' (substitute-takes x x' h) (substitute-takes a a' k) parts.0) (substitute-takes b b' m parts.1)

    pub substitutes-take : (es es' : List Expr) → AllZip (IsSubstitute Is) es es' → list_all takes es ≡ true → list_all takes es' ≡ true
    substitutes-take [] [] all ok = refl
    substitutes-take [] (e' ∷ es') all ok = absurd all
    substitutes-take (e ∷ es) [] all ok = absurd all
    substitutes-take (e ∷ es) (e' ∷ es') all ok =
        let parts = both (takes e) (list_all takes es) ok in
        and_both (takes e') (list_all takes es') (substitute-takes e e' all.0 parts.0) (substitutes-take es es' all.1 parts.1)

    one-takes : (e e' : Expr) → IsSubstitute Is e e' → list_all takes (e ∷ []) ≡ true → list_all takes (e' ∷ []) ≡ true
    one-takes e e' h ok = substitutes-take (e ∷ []) (e' ∷ []) (h, tt) ok

    pub stmt-takes : (s s' : Stmt) → IsSubstituteStmt Is s s' → list_all takes (exprs_of s) ≡ true → list_all takes (exprs_of s') ≡ true
    stmt-takes s s' (set {e = e} {e' = e'} h) ok = one-takes e e' h ok
    stmt-takes s s' (fetch {a = a} {a' = a'} h) ok = one-takes a a' h ok
    stmt-takes s s' (store {a = a} {a' = a'} {e = e} {e' = e'} h k) ok = substitutes-take (a ∷ e ∷ []) (a' ∷ e' ∷ []) (h, (k, tt)) ok
    stmt-takes s s' (div {operator = operator} {width = width} {a = a} {a' = a'} {b = b} {b' = b'} h k) ok =
        one-takes (Binary operator width a b) (Binary operator width a' b') (binary h k) ok
    stmt-takes s s' (call {arguments = es} {arguments' = es'} all) ok = substitutes-take es es' all ok
    stmt-takes s s' (dos {e = e} {e' = e'} h) ok = one-takes e e' h ok
    stmt-takes s s' same ok = ok

    pub exit-takes : (x x' : Exit) → IsSubstituteExit Is x x' → list_all takes (exit_exprs x) ≡ true → list_all takes (exit_exprs x') ≡ true
    exit-takes x x' goto ok = ok
    exit-takes x x' (test {e = e} {e' = e'} h) ok = one-takes e e' h ok
    exit-takes x x' (switch {e = e} {e' = e'} h) ok = one-takes e e' h ok
    exit-takes x x' (ret {values = es} {values' = es'} all) ok = substitutes-take es es' all ok
    exit-takes x x' stop ok = ok
