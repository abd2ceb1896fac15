-- Trees with other locations of the same widths are as well formed as they were.
use Rattle.std.proofs.Common.{◌≡◌, ℕ, ◌+◌, ◌&&◌, ◌||◌, not, List, [], ◌∷◌, ◌++◌, length, map, flat_map, Some, None, refl, ap, ap₂, ◌∙◌, nat_lt}
use Rattle.std.specs.Prelude.{◌==◌, All, nat_le}
use Rattle.std.specs.List.{list_all}
use Rattle.std.proofs.lemmas.List.Elements.{All-head, All-tail}
use Rattle.dcc_run.proofs.KeptLaws.{right_part}
use Rattle.dcc_ir.proofs.ListLaws.{left_part}
use Rattle.dcc_ir.specs.declared.syntax.Loc.{Loc}
use Rattle.dcc_ir.specs.declared.syntax.BinOp.{BinOp}
use Rattle.dcc_ir.specs.declared.syntax.Put.{Put}
use Rattle.dcc_ir.specs.declared.syntax.Put.TheVariants.{Memory, One, Two}
use Rattle.dcc_ir.specs.declared.syntax.Param.{Param}
use Rattle.dcc_ir.specs.Joinable.{places_of}
use Rattle.dcc_ir.specs.Tree.{Expr, Const, Get, Load, Unary, Binary, Widen, Part, Join, Choose, Address, Stmt, Set, Fetch, Store, Div, Call, Dos, Exit, Goto, If, Switch, Ret, Stop}
use Rattle.dcc_ir.specs.Location.{location_width}
use Rattle.dcc_ir.specs.Value.{width_of}
use Rattle.dcc_ir.specs.Use.{parts_of, reads_of, exprs_of, writes_of, exit_exprs}
use Rattle.dcc_ir.specs.WellFormed.{is_width, is_stored_width, is_location, is_division, divides_safely, is_expr, is_expr_of, is_dividing, is_stmt, is_exit, is_put}
use Rattle.dcc_passes.specs.Renaming.{renamed, renamed_stmt, renamed_exit, renamed_put, renamed_param, param_places}
use Rattle.dcc_passes.proofs.RenamingLaws.{in-both, width-renamed}

safely : (operator : BinOp) (width : ℕ) (f : Loc → Loc) (b : Expr) → divides_safely operator width (renamed f b) ≡ divides_safely operator width b
safely operator width f (Const w n) = refl
safely operator width f (Get l) = refl
safely operator width f (Load w a) = refl
safely operator width f (Unary o w a) = refl
safely operator width f (Binary o w a b) = refl
safely operator width f (Widen s w a) = refl
safely operator width f (Part w k a) = refl
safely operator width f (Join a b) = refl
safely operator width f (Choose x a b) = refl
safely operator width f (Address d) = refl

module _ (bits bits' : List ℕ) (f : Loc → Loc) where
  abbrev pub IsWide : Loc → Type 0
  IsWide l = location_width bits' (f l) ≡ location_width bits l

  abbrev pub IsPlaced : Loc → Type 0
  IsPlaced l = is_location bits' (f l) ≡ is_location bits l

  pub expr_same : (e : Expr) → All IsWide (reads_of e) → All IsPlaced (reads_of e) → is_expr bits' (renamed f e) ≡ is_expr bits e
  expr_same (Const width n) wide placed = refl
  expr_same (Get l) wide placed = All-head IsPlaced l [] placed
  expr_same (Load width a) wide placed =
      ap₂ (λ x n. is_stored_width width && x && (n == 16)) (expr_same a wide placed) (width-renamed bits bits' f a wide)
  expr_same (Unary operator width a) wide placed =
      ap₂ (λ x n. is_width width && x && (n == width)) (expr_same a wide placed) (width-renamed bits bits' f a wide)
  expr_same (Binary operator width a b) wide placed =
      let w = in-both IsWide (parts_of a) (parts_of b) wide in
      let p = in-both IsPlaced (parts_of a) (parts_of b) placed in
      ap₂ (λ x y. is_width width && x && y && (width_of bits' (renamed f a) == width) && (width_of bits' (renamed f b) == width) && (not (is_division operator) || divides_safely operator width (renamed f b)))
      (expr_same a w.0 p.0) (expr_same b w.1 p.1)
      ∙ ap₂ (λ m n. is_width width && is_expr bits a && is_expr bits b && (m == width) && (n == width) && (not (is_division operator) || divides_safely operator width (renamed f b)))
      (width-renamed bits bits' f a w.0) (width-renamed bits bits' f b w.1)
      ∙ ap (λ d. is_width width && is_expr bits a && is_expr bits b && (width_of bits a == width) && (width_of bits b == width) && (not (is_division operator) || d)) (safely operator width f b)
  expr_same (Widen signed width a) wide placed =
      ap₂ (λ x n. is_width width && x && nat_lt n width) (expr_same a wide placed) (width-renamed bits bits' f a wide)
  expr_same (Part width first a) wide placed =
      ap₂ (λ x n. is_width width && x && nat_le (first + width) n) (expr_same a wide placed) (width-renamed bits bits' f a wide)
  expr_same (Join high low) wide placed =
      let w = in-both IsWide (parts_of high) (parts_of low) wide in
      let p = in-both IsPlaced (parts_of high) (parts_of low) placed in
      ap₂ (λ x y. x && y && (width_of bits' (renamed f high) == width_of bits' (renamed f low)) && (width_of bits' (renamed f low) == 8 || width_of bits' (renamed f low) == 16))
      (expr_same high w.0 p.0) (expr_same low w.1 p.1)
      ∙ ap₂ (λ m n. is_expr bits high && is_expr bits low && (m == n) && (n == 8 || n == 16)) (width-renamed bits bits' f high w.0) (width-renamed bits bits' f low w.1)
  expr_same (Choose test a b) wide placed =
      let w = in-both IsWide (parts_of test ++ parts_of a) (parts_of b) wide in
      let p = in-both IsPlaced (parts_of test ++ parts_of a) (parts_of b) placed in
      let w' = in-both IsWide (parts_of test) (parts_of a) w.0 in
      let p' = in-both IsPlaced (parts_of test) (parts_of a) p.0 in
      ap₂ (λ x y. x && y && is_expr bits' (renamed f b) && (width_of bits' (renamed f test) == 1) && (width_of bits' (renamed f a) == width_of bits' (renamed f b)))
      (expr_same test w'.0 p'.0) (expr_same a w'.1 p'.1)
      ∙ ap₂ (λ x m. is_expr bits test && is_expr bits a && x && (m == 1) && (width_of bits' (renamed f a) == width_of bits' (renamed f b))) (expr_same b w.1 p.1) (width-renamed bits bits' f test w'.0)
      ∙ ap₂ (λ m n. is_expr bits test && is_expr bits a && is_expr bits b && (width_of bits test == 1) && (m == n)) (width-renamed bits bits' f a w'.1) (width-renamed bits bits' f b w.1)
  expr_same (Address distance) wide placed = refl

  -- of that width
  pub expr_of_same : (width : ℕ) (e : Expr) → All IsWide (reads_of e) → All IsPlaced (reads_of e) → is_expr_of bits' width (renamed f e) ≡ is_expr_of bits width e
  expr_of_same width e wide placed = ap₂ (λ x n. x && (n == width)) (expr_same e wide placed) (width-renamed bits bits' f e wide)

  pub exprs_same : (es : List Expr) → All IsWide (flat_map reads_of es) → All IsPlaced (flat_map reads_of es) → list_all (is_expr bits') (map (renamed f) es) ≡ list_all (is_expr bits) es
  exprs_same [] wide placed = refl
  exprs_same (e ∷ es) wide placed = ap₂ (λ x y. x && y)
      (expr_same e (left_part IsWide (reads_of e) (flat_map reads_of es) wide) (left_part IsPlaced (reads_of e) (flat_map reads_of es) placed))
      (exprs_same es (right_part IsWide (reads_of e) (flat_map reads_of es) wide) (right_part IsPlaced (reads_of e) (flat_map reads_of es) placed))

  pub dividing_same : (width : ℕ) (e : Expr) → All IsWide (reads_of e) → All IsPlaced (reads_of e) → is_dividing bits' width (renamed f e) ≡ is_dividing bits width e
  dividing_same width (Binary operator w a b) wide placed =
      let ws = in-both IsWide (parts_of a) (parts_of b) wide in
      let ps = in-both IsPlaced (parts_of a) (parts_of b) placed in
      ap₂ (λ x y. is_division operator && (w == width) && is_stored_width width && x && y) (expr_of_same width a ws.0 ps.0) (expr_of_same width b ws.1 ps.1)
  dividing_same width (Const w n) wide placed = refl
  dividing_same width (Get l) wide placed = refl
  dividing_same width (Load w a) wide placed = refl
  dividing_same width (Unary o w a) wide placed = refl
  dividing_same width (Widen s w a) wide placed = refl
  dividing_same width (Part w k a) wide placed = refl
  dividing_same width (Join a b) wide placed = refl
  dividing_same width (Choose x a b) wide placed = refl
  dividing_same width (Address d) wide placed = refl

  pub places_same : (ls : List Loc) → All IsPlaced ls → list_all (is_location bits') (map f ls) ≡ list_all (is_location bits) ls
  places_same [] placed = refl
  places_same (l ∷ ls) placed = ap₂ (λ x y. x && y) (All-head IsPlaced l ls placed) (places_same ls (All-tail IsPlaced l ls placed))

  pub exit_same : (count : ℕ) (exit : Exit) → All IsWide (flat_map reads_of (exit_exprs exit)) → All IsPlaced (flat_map reads_of (exit_exprs exit)) → is_exit bits' count (renamed_exit f exit) ≡ is_exit bits count exit
  exit_same count (Goto place) wide placed = refl
  exit_same count (If test one other) wide placed =
      ap (λ x. x && nat_lt one count && nat_lt other count) (expr_of_same 1 test (left_part IsWide (reads_of test) [] wide) (left_part IsPlaced (reads_of test) [] placed))
  exit_same count (Switch e places) wide placed =
      ap (λ x. x && nat_le (length places) 65536 && list_all (λ place. nat_lt place count) places) (expr_of_same 16 e (left_part IsWide (reads_of e) [] wide) (left_part IsPlaced (reads_of e) [] placed))
  exit_same count (Ret values) wide placed = exprs_same values wide placed
  exit_same count Stop wide placed = refl

-- params, of which other locations take the arguments
module _ (bits bits' : List ℕ) (f : Loc → Loc) where
  put_same : (put : Put) → All (IsWide bits bits' f) (places_of put) → All (IsPlaced bits bits' f) (places_of put) → is_put bits' (renamed_put f put) ≡ is_put bits put
  put_same Memory wide placed = refl
  put_same (One l) wide placed = All-head (IsPlaced bits bits' f) l [] placed
  put_same (Two low high) wide placed =
      ap₂ (λ x y. x && y && (location_width bits' (f low) == 8) && (location_width bits' (f high) == 8))
      (All-head (IsPlaced bits bits' f) low (high ∷ []) placed) (All-head (IsPlaced bits bits' f) high [] (All-tail (IsPlaced bits bits' f) low (high ∷ []) placed))
      ∙ ap₂ (λ m n. is_location bits low && is_location bits high && (m == 8) && (n == 8))
      (All-head (IsWide bits bits' f) low (high ∷ []) wide) (All-head (IsWide bits bits' f) high [] (All-tail (IsWide bits bits' f) low (high ∷ []) wide))

  pub params_same : (ps : List Param) → All (IsWide bits bits' f) (param_places ps) → All (IsPlaced bits bits' f) (param_places ps)
      → list_all (λ p. is_put bits' p.put) (map (renamed_param f) ps) ≡ list_all (λ p. is_put bits p.put) ps
  params_same [] wide placed = refl
  params_same (p ∷ ps) wide placed = ap₂ (λ x y. x && y)
      (put_same p.put (left_part (IsWide bits bits' f) (places_of p.put) (param_places ps) wide) (left_part (IsPlaced bits bits' f) (places_of p.put) (param_places ps) placed))
      (params_same ps (right_part (IsWide bits bits' f) (places_of p.put) (param_places ps) wide) (right_part (IsPlaced bits bits' f) (places_of p.put) (param_places ps) placed))

-- a statement, of which other locations are read and written
module _ (bits bits' : List ℕ) (read written : Loc → Loc) where
  pub stmt_same : (stmt : Stmt) → All (IsWide bits bits' read) (flat_map reads_of (exprs_of stmt)) → All (IsPlaced bits bits' read) (flat_map reads_of (exprs_of stmt))
      → All (IsWide bits bits' written) (writes_of stmt) → All (IsPlaced bits bits' written) (writes_of stmt) → is_stmt bits' (renamed_stmt read written stmt) ≡ is_stmt bits stmt
  stmt_same (Set l e) rw rp ww wp =
      ap (λ x. x && is_expr_of bits' (location_width bits' (written l)) (renamed read e)) (All-head (IsPlaced bits bits' written) l [] wp)
      ∙ ap (λ n. is_location bits l && is_expr_of bits' n (renamed read e)) (All-head (IsWide bits bits' written) l [] ww)
      ∙ ap (λ x. is_location bits l && x) (expr_of_same bits bits' read (location_width bits l) e (left_part (IsWide bits bits' read) (reads_of e) [] rw) (left_part (IsPlaced bits bits' read) (reads_of e) [] rp))
  stmt_same (Fetch l width a) rw rp ww wp =
      ap (λ x. x && is_stored_width width && (location_width bits' (written l) == width) && is_expr_of bits' 16 (renamed read a)) (All-head (IsPlaced bits bits' written) l [] wp)
      ∙ ap (λ n. is_location bits l && is_stored_width width && (n == width) && is_expr_of bits' 16 (renamed read a)) (All-head (IsWide bits bits' written) l [] ww)
      ∙ ap (λ x. is_location bits l && is_stored_width width && (location_width bits l == width) && x) (expr_of_same bits bits' read 16 a (left_part (IsWide bits bits' read) (reads_of a) [] rw) (left_part (IsPlaced bits bits' read) (reads_of a) [] rp))
  stmt_same (Store width a e) rw rp ww wp =
      ap₂ (λ x y. is_stored_width width && x && y)
      (expr_of_same bits bits' read 16 a (left_part (IsWide bits bits' read) (reads_of a) (flat_map reads_of (e ∷ [])) rw) (left_part (IsPlaced bits bits' read) (reads_of a) (flat_map reads_of (e ∷ [])) rp))
      (expr_of_same bits bits' read width e (left_part (IsWide bits bits' read) (reads_of e) [] (right_part (IsWide bits bits' read) (reads_of a) (flat_map reads_of (e ∷ [])) rw)) (left_part (IsPlaced bits bits' read) (reads_of e) [] (right_part (IsPlaced bits bits' read) (reads_of a) (flat_map reads_of (e ∷ [])) rp)))
  stmt_same (Div l e) rw rp ww wp =
      ap (λ x. x && is_dividing bits' (location_width bits' (written l)) (renamed read e)) (All-head (IsPlaced bits bits' written) l [] wp)
      ∙ ap (λ n. is_location bits l && is_dividing bits' n (renamed read e)) (All-head (IsWide bits bits' written) l [] ww)
      ∙ ap (λ x. is_location bits l && x) (dividing_same bits bits' read (location_width bits l) e (left_part (IsWide bits bits' read) (reads_of e) [] rw) (left_part (IsPlaced bits bits' read) (reads_of e) [] rp))
  stmt_same (Call results entry arguments depth) rw rp ww wp =
      ap₂ (λ x y. x && y && nat_lt depth 65536) (places_same bits bits' written results wp) (exprs_same bits bits' read arguments rw rp)
  stmt_same (Dos number None None) rw rp ww wp = refl
  stmt_same (Dos number (Some l) None) rw rp ww wp =
      ap₂ (λ x n. (number == 0x01 || number == 0x08) && (x && (n == 8))) (All-head (IsPlaced bits bits' written) l [] wp) (All-head (IsWide bits bits' written) l [] ww)
  stmt_same (Dos number None (Some e)) rw rp ww wp =
      ap₂ (λ x y. ((number == 0x02 || number == 0x4C) && x) || ((number == 0x09) && y))
      (expr_of_same bits bits' read 8 e (left_part (IsWide bits bits' read) (reads_of e) [] rw) (left_part (IsPlaced bits bits' read) (reads_of e) [] rp)) (expr_of_same bits bits' read 16 e (left_part (IsWide bits bits' read) (reads_of e) [] rw) (left_part (IsPlaced bits bits' read) (reads_of e) [] rp))
  stmt_same (Dos number (Some l) (Some e)) rw rp ww wp = refl
