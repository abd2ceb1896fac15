-- How deep expressions are in which reads of flags are replaced, and copies.
use Rattle.std.proofs.Common.{◌≡◌, ℕ, suc, ◌+◌, ◌≤◌, Bool, true, false, ◌||◌, List, [], ◌∷◌, ◌++◌, Some, None, refl, sym, ap, ◌∙◌, true≢false, flat_map, map, subst, eq-eqb, arith}
use Rattle.std.specs.Prelude.{if◌then◌else◌, ◌==◌, max}
use Rattle.std.specs.List.{list_any}
use Rattle.std.proofs.lemmas.List.Concat.{flat_map-append}
use Rattle.dcc_num.specs.declared.FlagName.{FlagName}
use Rattle.dcc_ir.specs.declared.syntax.Loc.TheVariants.{Half, Flag, Cell, Temp}
use Rattle.dcc_ir.specs.declared.syntax.UnOp.{UnOp}
use Rattle.dcc_ir.specs.declared.syntax.UnOp.TheVariants.{Neg, Not, IsZero}
use Rattle.dcc_ir.specs.Tree.{Expr, Const, Get, Load, Unary, Binary, Widen, Part, Join, Choose, Address, Stmt, Set, Fetch, Store, Div, Call, Dos, Exit, Goto, If, Switch, Ret, Stop}
use Rattle.dcc_ir.specs.Location.{flag_number}
use Rattle.dcc_ir.specs.Measure.{depth_of, deepest}
use Rattle.dcc_ir.specs.Use.{parts_of, got_by, exprs_of, exit_exprs}
use Rattle.dcc_ir.specs.FlagReads.{is_flag_place, reads_flag, gets}
use Rattle.dcc_flags.specs.Folding.{Choices, choice, negated, with_operator, with_choices, stmt_with_choices, exit_with_choices, has_truth, Taken, taken}
use Rattle.dcc_flags.proofs.PartLaws.{has_part}

-- Lists of expressions.

pub deepest_more : (n : ℕ) (xs ys : List Expr) → deepest xs ≤ n → deepest ys ≤ n → deepest (xs ++ ys) ≤ n
deepest_more n [] ys p q = q
deepest_more n (x ∷ xs) ys p q =
    let later = deepest_more n xs ys (omega arith) q in
    omega arith

pub deepest_parts : (n : ℕ) (xs ys : List Expr) → deepest (xs ++ ys) ≤ n → (deepest xs ≤ n) × (deepest ys ≤ n)
deepest_parts n [] ys p = (omega arith, p)
deepest_parts n (x ∷ xs) ys p =
    let later = deepest_parts n xs ys (omega arith) in
    let left = later.0 in
    (omega arith, later.1)

pub some_depth : (e : Expr) → 1 ≤ depth_of e
some_depth (Const w n) = omega arith
some_depth (Get l) = omega arith
some_depth (Load w a) = omega arith
some_depth (Unary o w a) = omega arith
some_depth (Binary o w a b) = omega arith
some_depth (Widen s w a) = omega arith
some_depth (Part w k a) = omega arith
some_depth (Join a b) = omega arith
some_depth (Choose x a b) = omega arith
some_depth (Address d) = omega arith

-- Reads of flags.

pub some_left : (f : Expr → Bool) (xs ys : List Expr) → list_any f xs ≡ true → list_any f (xs ++ ys) ≡ true
some_left f [] ys p = absurd (true≢false (sym p))
some_left f (x ∷ xs) ys p = go (f x) p (λ q. some_left f xs ys q)
  where
    go : (b : Bool) → (b || list_any f xs) ≡ true → (list_any f xs ≡ true → list_any f (xs ++ ys) ≡ true) → (b || list_any f (xs ++ ys)) ≡ true
    go true q later = refl
    go false q later = later q

pub some_right : (f : Expr → Bool) (xs ys : List Expr) → list_any f ys ≡ true → list_any f (xs ++ ys) ≡ true
some_right f [] ys p = p
some_right f (x ∷ xs) ys p = go (f x) (some_right f xs ys p)
  where
    go : (b : Bool) → list_any f (xs ++ ys) ≡ true → (b || list_any f (xs ++ ys)) ≡ true
    go true q = refl
    go false q = q

-- an expression that reads no flag gets none
pub unflagged : (g : FlagName) (ps : List Expr) → list_any is_flag_place (flat_map got_by ps) ≡ false → list_any (gets g) ps ≡ false
unflagged g [] p = refl
unflagged g (Get (Flag h) ∷ ps) p = absurd (true≢false p)
unflagged g (Get (Half r x) ∷ ps) p = unflagged g ps p
unflagged g (Get (Cell n x) ∷ ps) p = unflagged g ps p
unflagged g (Get (Temp n) ∷ ps) p = unflagged g ps p
unflagged g (Const w n ∷ ps) p = unflagged g ps p
unflagged g (Load w a ∷ ps) p = unflagged g ps p
unflagged g (Unary o w a ∷ ps) p = unflagged g ps p
unflagged g (Binary o w a b ∷ ps) p = unflagged g ps p
unflagged g (Widen s w a ∷ ps) p = unflagged g ps p
unflagged g (Part w k a ∷ ps) p = unflagged g ps p
unflagged g (Join a b ∷ ps) p = unflagged g ps p
unflagged g (Choose x a b ∷ ps) p = unflagged g ps p
unflagged g (Address d ∷ ps) p = unflagged g ps p

-- Choices in place of flags.

pub negated_depth : (w : ℕ) (a : Expr) → depth_of (negated w a) ≤ suc (depth_of a)
negated_depth w (Unary Not v x) = go (v == w)
  where
    go : (b : Bool) → depth_of (if b then x else Unary Not w (Unary Not v x)) ≤ suc (depth_of (Unary Not v x))
    go true = omega arith
    go false = omega arith
negated_depth w (Unary Neg v x) = omega arith
negated_depth w (Unary IsZero v x) = omega arith
negated_depth w (Const v n) = omega arith
negated_depth w (Get l) = omega arith
negated_depth w (Load v a) = omega arith
negated_depth w (Binary o v a b) = omega arith
negated_depth w (Widen s v a) = omega arith
negated_depth w (Part v k a) = omega arith
negated_depth w (Join a b) = omega arith
negated_depth w (Choose x a b) = omega arith
negated_depth w (Address d) = omega arith

operator_depth : (o : UnOp) (w : ℕ) (a : Expr) → depth_of (with_operator o w a) ≤ suc (depth_of a)
operator_depth Not w a = negated_depth w a
operator_depth Neg w a = omega arith
operator_depth IsZero w a = omega arith

module _ (c : Choices) (n : ℕ) where
  -- each flag that is read has a choice of at most this depth
  abbrev pub AreShallow : Expr → Type 0
  AreShallow e = (g : FlagName) → has_part (gets g) e ≡ true → depth_of (choice c g) ≤ suc n

  pub chosen_depth : (e : Expr) → AreShallow e → depth_of (with_choices c e) ≤ depth_of e + n
  chosen_depth (Const w m) h = omega arith
  chosen_depth (Get (Flag g)) h = let small = h g (ap (λ b. b || false) (eq-eqb (flag_number g) (flag_number g) refl)) in omega arith
  chosen_depth (Get (Half r x)) h = omega arith
  chosen_depth (Get (Cell m x)) h = omega arith
  chosen_depth (Get (Temp m)) h = omega arith
  chosen_depth (Load w a) h = let p = chosen_depth a h in omega arith
  chosen_depth (Unary o w a) h =
      let p = chosen_depth a h in
      let q = operator_depth o w (with_choices c a) in
      omega arith
  chosen_depth (Binary o w a b) h =
      let p = chosen_depth a (λ g r. h g (some_left (gets g) (parts_of a) (parts_of b) r)) in
      let q = chosen_depth b (λ g r. h g (some_right (gets g) (parts_of a) (parts_of b) r)) in
      omega arith
  chosen_depth (Widen s w a) h = let p = chosen_depth a h in omega arith
  chosen_depth (Part w k a) h = let p = chosen_depth a h in omega arith
  chosen_depth (Join a b) h =
      let p = chosen_depth a (λ g r. h g (some_left (gets g) (parts_of a) (parts_of b) r)) in
      let q = chosen_depth b (λ g r. h g (some_right (gets g) (parts_of a) (parts_of b) r)) in
      omega arith
  chosen_depth (Choose x a b) h =
      let o = chosen_depth x (λ g r. h g (some_left (gets g) (parts_of x ++ parts_of a) (parts_of b) (some_left (gets g) (parts_of x) (parts_of a) r))) in
      let p = chosen_depth a (λ g r. h g (some_left (gets g) (parts_of x ++ parts_of a) (parts_of b) (some_right (gets g) (parts_of x) (parts_of a) r))) in
      let q = chosen_depth b (λ g r. h g (some_right (gets g) (parts_of x ++ parts_of a) (parts_of b) r)) in
      omega arith
  chosen_depth (Address d) h = omega arith

  abbrev pub AllShallow : List Expr → Type 0
  AllShallow es = (g : FlagName) → list_any (has_part (gets g)) es ≡ true → depth_of (choice c g) ≤ suc n

  -- some expressions, of which none is deeper than that
  pub exprs_depth : (es : List Expr) → deepest es ≤ n → AllShallow es → deepest (map (with_choices c) es) ≤ n + n
  exprs_depth [] deep h = omega arith
  exprs_depth (e ∷ es) deep h =
      let first = chosen_depth e (λ g r. h g (ap (λ b. b || list_any (has_part (gets g)) es) r)) in
      let later = exprs_depth es (omega arith) (λ g r. h g (there (has_part (gets g) e) (list_any (has_part (gets g)) es) r)) in
      omega arith
    where
      there : (a b : Bool) → b ≡ true → (a || b) ≡ true
      there true b p = refl
      there false b p = p

  pub stmt_depth : (stmt : Stmt) → deepest (exprs_of stmt) ≤ n → AllShallow (exprs_of stmt) → deepest (exprs_of (stmt_with_choices c stmt)) ≤ n + n
  stmt_depth (Set l e) deep h = exprs_depth (e ∷ []) deep h
  stmt_depth (Fetch l w a) deep h = exprs_depth (a ∷ []) deep h
  stmt_depth (Store w a e) deep h = exprs_depth (a ∷ e ∷ []) deep h
  stmt_depth (Div l e) deep h = exprs_depth (e ∷ []) deep h
  stmt_depth (Call r k es d) deep h = exprs_depth es deep h
  stmt_depth (Dos k p None) deep h = omega arith
  stmt_depth (Dos k p (Some e)) deep h = exprs_depth (e ∷ []) deep h

  pub exit_depth : (exit : Exit) → deepest (exit_exprs exit) ≤ n → AllShallow (exit_exprs exit) → deepest (exit_exprs (exit_with_choices c exit)) ≤ n + n
  exit_depth (Goto place) deep h = omega arith
  exit_depth (If test one other) deep h = exprs_depth (test ∷ []) deep h
  exit_depth (Switch e places) deep h = exprs_depth (e ∷ []) deep h
  exit_depth (Ret values) deep h = exprs_depth values deep h
  exit_depth Stop deep h = omega arith

-- what reads no flag is no deeper
pub unread_depth : (c : Choices) (e : Expr) → reads_flag e ≡ false → depth_of (with_choices c e) ≤ depth_of e
unread_depth c e none =
    let p = chosen_depth c 0 e (λ g r. absurd (true≢false (sym r ∙ unflagged g (parts_of e) none))) in
    omega arith

-- Copies.

value_if : (n : ℕ) (b : Bool) (t u : Taken) → depth_of t.value ≤ n → depth_of u.value ≤ n → depth_of (if b then t else u).value ≤ n
value_if n true t u p q = p
value_if n false t u p q = q

pub value_depth : (bits : List ℕ) (e : Expr) → depth_of (taken bits e).value ≤ depth_of e
value_depth bits (Const w n) = omega arith
value_depth bits (Get l) = omega arith
value_depth bits (Load w a) = omega arith
value_depth bits (Unary o w a) = let p = value_depth bits a in value_if _ (has_truth (Unary o w a)) _ _ (omega arith) (omega arith)
value_depth bits (Binary o w a b) =
    let p = value_depth bits a in
    let q = value_depth (bits ++ (taken bits a).widths) b in
    value_if _ (has_truth (Binary o w a b)) _ _ (omega arith) (omega arith)
value_depth bits (Widen s w a) = let p = value_depth bits a in value_if _ (has_truth a) _ _ (omega arith) (omega arith)
value_depth bits (Part w k a) = let p = value_depth bits a in value_if _ (has_truth a) _ _ (omega arith) (omega arith)
value_depth bits (Join a b) =
    let p = value_depth bits a in
    let q = value_depth (bits ++ (taken bits a).widths) b in
    value_if _ (has_truth (Join a b)) _ _ (omega arith) (omega arith)
value_depth bits (Choose x a b) =
    let t = taken bits x in
    let u = taken (bits ++ t.widths) a in
    let o = value_depth bits x in
    let p = value_depth (bits ++ t.widths) a in
    let q = value_depth ((bits ++ t.widths) ++ u.widths) b in
    omega arith
value_depth bits (Address d) = omega arith

-- the deepest of what these copies take
abbrev pub deepest_copy : List Stmt → ℕ
deepest_copy cs = deepest (flat_map exprs_of cs)

pub copies_more : (n : ℕ) (cs ds : List Stmt) → deepest_copy cs ≤ n → deepest_copy ds ≤ n → deepest_copy (cs ++ ds) ≤ n
copies_more n cs ds p q = subst (λ l. deepest l ≤ n) (sym (flat_map-append exprs_of cs ds)) (deepest_more n (flat_map exprs_of cs) (flat_map exprs_of ds) p q)

copies_if : (n : ℕ) (b : Bool) (t u : Taken) → deepest_copy t.copies ≤ n → deepest_copy u.copies ≤ n → deepest_copy (if b then t else u).copies ≤ n
copies_if n true t u p q = p
copies_if n false t u p q = q

one_copy : (n m : ℕ) → m ≤ n → max m 0 ≤ n
one_copy n m less = omega arith

pub copies_depth : (n : ℕ) (bits : List ℕ) (e : Expr) → depth_of e ≤ n → deepest_copy (taken bits e).copies ≤ n
copies_depth n bits (Const w k) less = omega arith
copies_depth n bits (Get l) less = one_copy n 1 less
copies_depth n bits (Load w a) less = one_copy n (depth_of (Load w a)) less
copies_depth n bits (Unary o w a) less = copies_if n (has_truth (Unary o w a)) _ _ (copies_depth n bits a (omega arith)) (one_copy n (depth_of (Unary o w a)) less)
copies_depth n bits (Binary o w a b) less =
    copies_if n (has_truth (Binary o w a b)) _ _
    (copies_more n (taken bits a).copies _ (copies_depth n bits a (omega arith)) (copies_depth n (bits ++ (taken bits a).widths) b (omega arith))) (one_copy n (depth_of (Binary o w a b)) less)
copies_depth n bits (Widen s w a) less = copies_if n (has_truth a) _ _ (copies_depth n bits a (omega arith)) (one_copy n (depth_of (Widen s w a)) less)
copies_depth n bits (Part w k a) less = copies_if n (has_truth a) _ _ (copies_depth n bits a (omega arith)) (one_copy n (depth_of (Part w k a)) less)
copies_depth n bits (Join a b) less =
    copies_if n (has_truth (Join a b)) _ _
    (copies_more n (taken bits a).copies _ (copies_depth n bits a (omega arith)) (copies_depth n (bits ++ (taken bits a).widths) b (omega arith))) (one_copy n (depth_of (Join a b)) less)
copies_depth n bits (Choose x a b) less =
    let t = taken bits x in
    let u = taken (bits ++ t.widths) a in
    let v = taken ((bits ++ t.widths) ++ u.widths) b in
    copies_more n (t.copies ++ u.copies) v.copies
    (copies_more n t.copies u.copies (copies_depth n bits x (omega arith)) (copies_depth n (bits ++ t.widths) a (omega arith))) (copies_depth n ((bits ++ t.widths) ++ u.widths) b (omega arith))
copies_depth n bits (Address d) less = one_copy n 1 less
