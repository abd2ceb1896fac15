-- Trees in which expressions stand in the place of what is read: their widths, values and forms, what they take and how
-- deep they are.
use Rattle.std.proofs.Common.{◌≡◌, ℕ, suc, ◌+◌, ◌≤◌, Bool, true, false, ◌&&◌, ◌||◌, not, List, [], ◌∷◌, ◌++◌, length, map, flat_map, Option, Some, None, option_map, refl, sym, ap, ap₂, ◌∙◌, nat_lt, arith, true≢false}
use Rattle.std.specs.Prelude.{if◌then◌else◌, ◌==◌, ◌/◌, ◌%◌, ◌*◌, ◌^◌, All, nat_le, max}
use Rattle.std.specs.List.{list_all}
use Rattle.std.proofs.lemmas.List.{map-append}
use Rattle.std.proofs.lemmas.List.Concat.{flat_map-append}
use Rattle.std.proofs.lemmas.List.Elements.{All-head, All-weaker}
use Rattle.std.proofs.lemmas.List.Folds.{list_all-append}
use Rattle.std.proofs.lemmas.Bool.{and_parts, and_from}
use Rattle.dcc_run.proofs.KeptLaws.{right_part}
use Rattle.dcc_ir.specs.declared.syntax.Loc.{Loc}
use Rattle.dcc_ir.specs.declared.syntax.BinOp.{BinOp}
use Rattle.dcc_ir.specs.Tree.{Expr, Const, Get, Load, Unary, Binary, Widen, Part, Join, Choose, Address, Stmt, Set, Fetch, Store, Div, Call, Dos, Exit, Goto, If, Switch, Ret, Stop}
use Rattle.dcc_ir.specs.Location.{location_width}
use Rattle.dcc_ir.specs.Value.{Environment, value_of, unary_value, binary_value, bytes_at, division_of, division_at, width_of, pattern_at, signed_at}
use Rattle.dcc_ir.specs.Measure.{depth_of, deepest}
use Rattle.dcc_ir.specs.Use.{parts_of, got_by, addressed_by, reads_of, addresses_of, exprs_of, exit_exprs}
use Rattle.dcc_ir.specs.Flow.{targets}
use Rattle.dcc_ir.specs.WellFormed.{is_width, is_stored_width, is_location, is_division, divides_safely, is_expr, is_expr_of, is_dividing, is_exit, is_jump}
use Rattle.dcc_flow.proofs.FormedExprs.{reads_placed}
use Rattle.dcc_ir.proofs.ListLaws.{left_part}
use Rattle.dcc_passes.proofs.RenamingLaws.{in-both}
use Rattle.dcc_webs.specs.Temporaries.{is_temp}
use Rattle.dcc_words.specs.Reading.{read_by, stmt_read_by, exit_read_by}

-- What stands in the place of a read is no constant and no division.
pub record IsPlain (reading : Loc → Expr) : Type 0 where
  pub safe : (operator : BinOp) (width : ℕ) (l : Loc) → divides_safely operator width (reading l) ≡ false
  pub dividing : (bits : List ℕ) (width : ℕ) (l : Loc) → is_dividing bits width (reading l) ≡ false
  pub divided : (scene : Environment) (l : Loc) → division_of scene (reading l) ≡ None

-- Widths and values.

module _ (bits bits' : List ℕ) (reading : Loc → Expr) where
  abbrev pub Wide : Loc → Type 0
  Wide l = width_of bits' (reading l) ≡ location_width bits l

  pub width-read : (e : Expr) → All Wide (reads_of e) → width_of bits' (read_by reading e) ≡ width_of bits e
  width-read (Const width n) all = refl
  width-read (Get location) all = All-head Wide location [] all
  width-read (Load width a) all = refl
  width-read (Unary operator width a) all = refl
  width-read (Binary operator width a b) all = refl
  width-read (Widen signed width a) all = refl
  width-read (Part width first a) all = refl
  width-read (Join high low) all =
      let parts = in-both Wide (parts_of high) (parts_of low) all in
      ap₂ (λ m n. m + n) (width-read high parts.0) (width-read low parts.1)
  width-read (Choose test a b) all =
      let whole = in-both Wide (parts_of test ++ parts_of a) (parts_of b) all in
      let parts = in-both Wide (parts_of test) (parts_of a) whole.0 in
      width-read a parts.1
  width-read (Address distance) all = refl

  pub widths-read : (es : List Expr) → All Wide (flat_map reads_of es) → map (width_of bits') (map (read_by reading) es) ≡ map (width_of bits) es
  widths-read [] all = refl
  widths-read (e ∷ es) all =
      ap₂ (λ n ns. n ∷ ns) (width-read e (left_part Wide (reads_of e) (flat_map reads_of es) all)) (widths-read es (right_part Wide (reads_of e) (flat_map reads_of es) all))

module _ (s t : Environment) (base : t.base ≡ s.base) (memory : t.memory ≡ s.memory) (reading : Loc → Expr) where
  -- what is read in its place has the location's value and width
  pub record ReadsSame (l : Loc) : Type 0 where
    pub value : value_of t (reading l) ≡ s.values l
    pub width : width_of t.bits (reading l) ≡ location_width s.bits l

  wide : (ls : List Loc) → All ReadsSame ls → All (λ l. width_of t.bits (reading l) ≡ location_width s.bits l) ls
  wide ls all = All-weaker ReadsSame (λ l. width_of t.bits (reading l) ≡ location_width s.bits l) (λ l h. h.width) ls all

  pub value-read : (e : Expr) → All ReadsSame (reads_of e) → value_of t (read_by reading e) ≡ value_of s e
  value-read (Const width n) all = refl
  value-read (Get location) all = (All-head ReadsSame location [] all).value
  value-read (Load width a) all = ap₂ (λ m n. bytes_at m (width / 8) n) memory (value-read a all)
  value-read (Unary operator width a) all = ap (unary_value operator width) (value-read a all)
  value-read (Binary operator width a b) all =
      let parts = in-both ReadsSame (parts_of a) (parts_of b) all in
      ap₂ (binary_value operator width) (value-read a parts.0) (value-read b parts.1)
  value-read (Widen true width a) all = ap₂ (λ w n. pattern_at width (signed_at w n)) (width-read s.bits t.bits reading a (wide (reads_of a) all)) (value-read a all)
  value-read (Widen false width a) all = value-read a all
  value-read (Part width first a) all = ap (λ n. n / 2 ^ first % 2 ^ width) (value-read a all)
  value-read (Join high low) all =
      let parts = in-both ReadsSame (parts_of high) (parts_of low) all in
      let h = value-read high parts.0 in
      let l = value-read low parts.1 in
      let w = width-read s.bits t.bits reading low (wide (reads_of low) parts.1) in
      ap₂ (λ x n. x * 2 ^ width_of t.bits (read_by reading low) + n) h l
      ∙ ap (λ w. value_of s high * 2 ^ w + value_of s low) w
  value-read (Choose test a b) all =
      let whole = in-both ReadsSame (parts_of test ++ parts_of a) (parts_of b) all in
      let parts = in-both ReadsSame (parts_of test) (parts_of a) whole.0 in
      ap (λ n. if n == 1 then value_of t (read_by reading a) else value_of t (read_by reading b)) (value-read test parts.0)
      ∙ ap₂ (λ x y. if value_of s test == 1 then x else y) (value-read a parts.1) (value-read b whole.1)
  value-read (Address distance) all = ap (λ n. (n + distance) % 65536) base

  pub values-read : (es : List Expr) → All ReadsSame (flat_map reads_of es) → map (value_of t) (map (read_by reading) es) ≡ map (value_of s) es
  values-read [] all = refl
  values-read (e ∷ es) all =
      ap₂ (λ n ns. n ∷ ns) (value-read e (left_part ReadsSame (reads_of e) (flat_map reads_of es) all))
      (values-read es (right_part ReadsSame (reads_of e) (flat_map reads_of es) all))

  pub division-read : IsPlain reading → (e : Expr) → All ReadsSame (reads_of e) → division_of t (read_by reading e) ≡ division_of s e
  division-read plain (Binary operator width a b) all =
      let parts = in-both ReadsSame (parts_of a) (parts_of b) all in
      ap₂ (division_at operator width) (value-read a parts.0) (value-read b parts.1)
  division-read plain (Get l) all = plain.divided t l
  division-read plain (Const width n) all = refl
  division-read plain (Load width a) all = refl
  division-read plain (Unary operator width a) all = refl
  division-read plain (Widen signed width a) all = refl
  division-read plain (Part width first a) all = refl
  division-read plain (Join high low) all = refl
  division-read plain (Choose test a b) all = refl
  division-read plain (Address distance) all = refl

-- Forms.

safely : (operator : BinOp) (width : ℕ) (f : Loc → Expr) → IsPlain f → (b : Expr) → divides_safely operator width (read_by f b) ≡ divides_safely operator width b
safely operator width f plain (Const w n) = refl
safely operator width f plain (Get l) = plain.safe operator width l
safely operator width f plain (Load w a) = refl
safely operator width f plain (Unary o w a) = refl
safely operator width f plain (Binary o w a b) = refl
safely operator width f plain (Widen s w a) = refl
safely operator width f plain (Part w k a) = refl
safely operator width f plain (Join a b) = refl
safely operator width f plain (Choose x a b) = refl
safely operator width f plain (Address d) = refl

module _ (bits bits' : List ℕ) (f : Loc → Expr) (plain : IsPlain f) where
  abbrev pub IsWide : Loc → Type 0
  IsWide l = width_of bits' (f l) ≡ location_width bits l

  abbrev pub IsPlaced : Loc → Type 0
  IsPlaced l = is_expr bits' (f l) ≡ is_location bits l

  pub expr_same : (e : Expr) → All IsWide (reads_of e) → All IsPlaced (reads_of e) → is_expr bits' (read_by f e) ≡ is_expr bits e
  expr_same (Const width n) wide placed = refl
  expr_same (Get l) wide placed = All-head IsPlaced l [] placed
  expr_same (Load width a) wide placed =
      ap₂ (λ x n. is_stored_width width && x && (n == 16)) (expr_same a wide placed) (width-read bits bits' f a wide)
  expr_same (Unary operator width a) wide placed =
      ap₂ (λ x n. is_width width && x && (n == width)) (expr_same a wide placed) (width-read bits bits' f a wide)
  expr_same (Binary operator width a b) wide placed =
      let w = in-both IsWide (parts_of a) (parts_of b) wide in
      let p = in-both IsPlaced (parts_of a) (parts_of b) placed in
      ap₂ (λ x y. is_width width && x && y && (width_of bits' (read_by f a) == width) && (width_of bits' (read_by f b) == width) && (not (is_division operator) || divides_safely operator width (read_by f b)))
      (expr_same a w.0 p.0) (expr_same b w.1 p.1)
      ∙ ap₂ (λ m n. is_width width && is_expr bits a && is_expr bits b && (m == width) && (n == width) && (not (is_division operator) || divides_safely operator width (read_by f b)))
      (width-read bits bits' f a w.0) (width-read bits bits' f b w.1)
      ∙ ap (λ d. is_width width && is_expr bits a && is_expr bits b && (width_of bits a == width) && (width_of bits b == width) && (not (is_division operator) || d)) (safely operator width f plain b)
  expr_same (Widen signed width a) wide placed =
      ap₂ (λ x n. is_width width && x && nat_lt n width) (expr_same a wide placed) (width-read bits bits' f a wide)
  expr_same (Part width first a) wide placed =
      ap₂ (λ x n. is_width width && x && nat_le (first + width) n) (expr_same a wide placed) (width-read bits bits' f a wide)
  expr_same (Join high low) wide placed =
      let w = in-both IsWide (parts_of high) (parts_of low) wide in
      let p = in-both IsPlaced (parts_of high) (parts_of low) placed in
      ap₂ (λ x y. x && y && (width_of bits' (read_by f high) == width_of bits' (read_by f low)) && (width_of bits' (read_by f low) == 8 || width_of bits' (read_by f low) == 16))
      (expr_same high w.0 p.0) (expr_same low w.1 p.1)
      ∙ ap₂ (λ m n. is_expr bits high && is_expr bits low && (m == n) && (n == 8 || n == 16)) (width-read bits bits' f high w.0) (width-read bits bits' f low w.1)
  expr_same (Choose test a b) wide placed =
      let w = in-both IsWide (parts_of test ++ parts_of a) (parts_of b) wide in
      let p = in-both IsPlaced (parts_of test ++ parts_of a) (parts_of b) placed in
      let w' = in-both IsWide (parts_of test) (parts_of a) w.0 in
      let p' = in-both IsPlaced (parts_of test) (parts_of a) p.0 in
      ap₂ (λ x y. x && y && is_expr bits' (read_by f b) && (width_of bits' (read_by f test) == 1) && (width_of bits' (read_by f a) == width_of bits' (read_by f b)))
      (expr_same test w'.0 p'.0) (expr_same a w'.1 p'.1)
      ∙ ap₂ (λ x m. is_expr bits test && is_expr bits a && x && (m == 1) && (width_of bits' (read_by f a) == width_of bits' (read_by f b))) (expr_same b w.1 p.1) (width-read bits bits' f test w'.0)
      ∙ ap₂ (λ m n. is_expr bits test && is_expr bits a && is_expr bits b && (width_of bits test == 1) && (m == n)) (width-read bits bits' f a w'.1) (width-read bits bits' f b w.1)
  expr_same (Address distance) wide placed = refl

  -- of that width
  pub expr_of_same : (width : ℕ) (e : Expr) → All IsWide (reads_of e) → All IsPlaced (reads_of e) → is_expr_of bits' width (read_by f e) ≡ is_expr_of bits width e
  expr_of_same width e wide placed = ap₂ (λ x n. x && (n == width)) (expr_same e wide placed) (width-read bits bits' f e wide)

  pub exprs_same : (es : List Expr) → All IsWide (flat_map reads_of es) → All IsPlaced (flat_map reads_of es) → list_all (is_expr bits') (map (read_by f) es) ≡ list_all (is_expr bits) es
  exprs_same [] wide placed = refl
  exprs_same (e ∷ es) wide placed = ap₂ (λ x y. x && y)
      (expr_same e (left_part IsWide (reads_of e) (flat_map reads_of es) wide) (left_part IsPlaced (reads_of e) (flat_map reads_of es) placed))
      (exprs_same es (right_part IsWide (reads_of e) (flat_map reads_of es) wide) (right_part IsPlaced (reads_of e) (flat_map reads_of es) placed))

  pub dividing_same : (width : ℕ) (e : Expr) → All IsWide (reads_of e) → All IsPlaced (reads_of e) → is_dividing bits' width (read_by f e) ≡ is_dividing bits width e
  dividing_same width (Binary operator w a b) wide placed =
      let ws = in-both IsWide (parts_of a) (parts_of b) wide in
      let ps = in-both IsPlaced (parts_of a) (parts_of b) placed in
      ap₂ (λ x y. is_division operator && (w == width) && is_stored_width width && x && y) (expr_of_same width a ws.0 ps.0) (expr_of_same width b ws.1 ps.1)
  dividing_same width (Const w n) wide placed = refl
  dividing_same width (Get l) wide placed = plain.dividing bits' width l
  dividing_same width (Load w a) wide placed = refl
  dividing_same width (Unary o w a) wide placed = refl
  dividing_same width (Widen s w a) wide placed = refl
  dividing_same width (Part w k a) wide placed = refl
  dividing_same width (Join a b) wide placed = refl
  dividing_same width (Choose x a b) wide placed = refl
  dividing_same width (Address d) wide placed = refl

  pub exit_same : (count : ℕ) (exit : Exit) → All IsWide (flat_map reads_of (exit_exprs exit)) → All IsPlaced (flat_map reads_of (exit_exprs exit)) → is_exit bits' count (exit_read_by f exit) ≡ is_exit bits count exit
  exit_same count (Goto place) wide placed = refl
  exit_same count (If test one other) wide placed =
      ap (λ x. x && nat_lt one count && nat_lt other count) (expr_of_same 1 test (left_part IsWide (reads_of test) [] wide) (left_part IsPlaced (reads_of test) [] placed))
  exit_same count (Switch e places) wide placed =
      ap (λ x. x && nat_le (length places) 65536 && list_all (λ place. nat_lt place count) places) (expr_of_same 16 e (left_part IsWide (reads_of e) [] wide) (left_part IsPlaced (reads_of e) [] placed))
  exit_same count (Ret values) wide placed = exprs_same values wide placed
  exit_same count Stop wide placed = refl

-- Where the reads have the widths of locations and are as well formed, so has each well-formed expression.
module _ (bits bits' : List ℕ) (f : Loc → Expr) (plain : IsPlain f)
    (wide : (l : Loc) → is_location bits l ≡ true → width_of bits' (f l) ≡ location_width bits l)
    (placed : (l : Loc) → is_location bits l ≡ true → is_expr bits' (f l) ≡ true) where
  pub wide-reads : (ls : List Loc) → All (λ l. is_location bits l ≡ true) ls → All (IsWide bits bits' f plain) ls
  wide-reads ls all = All-weaker (λ l. is_location bits l ≡ true) (IsWide bits bits' f plain) wide ls all

  pub placed-reads : (ls : List Loc) → All (λ l. is_location bits l ≡ true) ls → All (IsPlaced bits bits' f plain) ls
  placed-reads ls all = All-weaker (λ l. is_location bits l ≡ true) (IsPlaced bits bits' f plain) (λ l is. placed l is ∙ sym is) ls all

  pub read-formed : (e : Expr) → is_expr bits e ≡ true → is_expr bits' (read_by f e) ≡ true
  read-formed e is =
      let all = reads_placed bits e is in
      expr_same bits bits' f plain e (wide-reads (reads_of e) all) (placed-reads (reads_of e) all) ∙ is

  pub read-wide : (e : Expr) → is_expr bits e ≡ true → width_of bits' (read_by f e) ≡ width_of bits e
  read-wide e is = width-read bits bits' f e (wide-reads (reads_of e) (reads_placed bits e is))

  pub read-formed-of : (width : ℕ) (e : Expr) → is_expr_of bits width e ≡ true → is_expr_of bits' width (read_by f e) ≡ true
  read-formed-of width e is =
      let p = and_parts (is_expr bits e) (width_of bits e == width) is in
      let all = reads_placed bits e p.0 in
      expr_of_same bits bits' f plain width e (wide-reads (reads_of e) all) (placed-reads (reads_of e) all) ∙ is

  pub all-read-formed : (es : List Expr) → list_all (is_expr bits) es ≡ true → list_all (is_expr bits') (map (read_by f) es) ≡ true
  all-read-formed [] is = refl
  all-read-formed (e ∷ es) is =
      let p = and_parts (is_expr bits e) (list_all (is_expr bits) es) is in
      and_from (is_expr bits' (read_by f e)) (list_all (is_expr bits') (map (read_by f) es)) (read-formed e p.0) (all-read-formed es p.1)

  pub all-read-wide : (es : List Expr) → list_all (is_expr bits) es ≡ true → map (width_of bits') (map (read_by f) es) ≡ map (width_of bits) es
  all-read-wide [] is = refl
  all-read-wide (e ∷ es) is =
      let p = and_parts (is_expr bits e) (list_all (is_expr bits) es) is in
      ap₂ (λ n ns. n ∷ ns) (read-wide e p.0) (all-read-wide es p.1)

  pub dividing-formed : (width : ℕ) (e : Expr) → is_dividing bits width e ≡ true → is_dividing bits' width (read_by f e) ≡ true
  dividing-formed width (Binary operator w a b) is =
      let p = and_parts (is_division operator && (w == width) && is_stored_width width && is_expr_of bits width a) (is_expr_of bits width b) is in
      let q = and_parts (is_division operator && (w == width) && is_stored_width width) (is_expr_of bits width a) p.0 in
      and_from (is_division operator && (w == width) && is_stored_width width && is_expr_of bits' width (read_by f a)) (is_expr_of bits' width (read_by f b))
      (and_from (is_division operator && (w == width) && is_stored_width width) (is_expr_of bits' width (read_by f a)) q.0 (read-formed-of width a q.1))
      (read-formed-of width b p.1)
  dividing-formed width (Const w n) is = absurd (true≢false (sym is))
  dividing-formed width (Get l) is = absurd (true≢false (sym is))
  dividing-formed width (Load w a) is = absurd (true≢false (sym is))
  dividing-formed width (Unary o w a) is = absurd (true≢false (sym is))
  dividing-formed width (Widen s w a) is = absurd (true≢false (sym is))
  dividing-formed width (Part w k a) is = absurd (true≢false (sym is))
  dividing-formed width (Join a b) is = absurd (true≢false (sym is))
  dividing-formed width (Choose x a b) is = absurd (true≢false (sym is))
  dividing-formed width (Address d) is = absurd (true≢false (sym is))

  pub exit-formed : (count : ℕ) (exit : Exit) → is_exit bits count exit ≡ true → is_exit bits' count (exit_read_by f exit) ≡ true
  exit-formed count (Goto place) is = is
  exit-formed count (If test one other) is =
      let p = and_parts (is_expr_of bits 1 test && nat_lt one count) (nat_lt other count) is in
      let q = and_parts (is_expr_of bits 1 test) (nat_lt one count) p.0 in
      and_from (is_expr_of bits' 1 (read_by f test) && nat_lt one count) (nat_lt other count)
      (and_from (is_expr_of bits' 1 (read_by f test)) (nat_lt one count) (read-formed-of 1 test q.0) q.1) p.1
  exit-formed count (Switch e places) is =
      let p = and_parts (is_expr_of bits 16 e && nat_le (length places) 65536) (list_all (λ place. nat_lt place count) places) is in
      let q = and_parts (is_expr_of bits 16 e) (nat_le (length places) 65536) p.0 in
      and_from (is_expr_of bits' 16 (read_by f e) && nat_le (length places) 65536) (list_all (λ place. nat_lt place count) places)
      (and_from (is_expr_of bits' 16 (read_by f e)) (nat_le (length places) 65536) (read-formed-of 16 e q.0) q.1) p.1
  exit-formed count (Ret values) is = all-read-formed values is
  exit-formed count Stop is = refl

-- Ends of blocks.

module _ (f : Loc → Expr) where
  pub targets-read : (exit : Exit) → targets (exit_read_by f exit) ≡ targets exit
  targets-read (Goto place) = refl
  targets-read (If test one other) = refl
  targets-read (Switch e places) = refl
  targets-read (Ret values) = refl
  targets-read Stop = refl

  pub jumps-read : (exit : Exit) → is_jump (exit_read_by f exit) ≡ is_jump exit
  jumps-read (Goto place) = refl
  jumps-read (If test one other) = refl
  jumps-read (Switch e places) = refl
  jumps-read (Ret values) = refl
  jumps-read Stop = refl

  pub end-exprs : (exit : Exit) → exit_exprs (exit_read_by f exit) ≡ map (read_by f) (exit_exprs exit)
  end-exprs (Goto place) = refl
  end-exprs (If test one other) = refl
  end-exprs (Switch e places) = refl
  end-exprs (Ret values) = refl
  end-exprs Stop = refl

  pub stmt-exprs : (stmt : Stmt) → exprs_of (stmt_read_by f stmt) ≡ map (read_by f) (exprs_of stmt)
  stmt-exprs (Set location e) = refl
  stmt-exprs (Fetch location width address) = refl
  stmt-exprs (Store width address e) = refl
  stmt-exprs (Div location e) = refl
  stmt-exprs (Call results entry arguments depth) = refl
  stmt-exprs (Dos number place None) = refl
  stmt-exprs (Dos number place (Some e)) = refl

-- Addresses.

module _ (f : Loc → Expr) (none : (l : Loc) → addresses_of (f l) ≡ []) where
  two-addresses : (a b : Expr) → addresses_of (read_by f a) ≡ addresses_of a → addresses_of (read_by f b) ≡ addresses_of b
      → flat_map addressed_by (parts_of (read_by f a) ++ parts_of (read_by f b)) ≡ flat_map addressed_by (parts_of a ++ parts_of b)
  two-addresses a b one other =
      flat_map-append addressed_by (parts_of (read_by f a)) (parts_of (read_by f b)) ∙ ap₂ (λ xs ys. xs ++ ys) one other
      ∙ sym (flat_map-append addressed_by (parts_of a) (parts_of b))

  pub addresses-read : (e : Expr) → addresses_of (read_by f e) ≡ addresses_of e
  addresses-read (Const width n) = refl
  addresses-read (Get location) = none location
  addresses-read (Load width a) = addresses-read a
  addresses-read (Unary operator width a) = addresses-read a
  addresses-read (Binary operator width a b) = two-addresses a b (addresses-read a) (addresses-read b)
  addresses-read (Widen signed width a) = addresses-read a
  addresses-read (Part width first a) = addresses-read a
  addresses-read (Join high low) = two-addresses high low (addresses-read high) (addresses-read low)
  addresses-read (Choose test a b) =
      flat_map-append addressed_by (parts_of (read_by f test) ++ parts_of (read_by f a)) (parts_of (read_by f b))
      ∙ ap₂ (λ xs ys. xs ++ ys) (two-addresses test a (addresses-read test) (addresses-read a)) (addresses-read b)
      ∙ sym (flat_map-append addressed_by (parts_of test ++ parts_of a) (parts_of b))
  addresses-read (Address distance) = refl

-- Depths.

module _ (f : Loc → Expr) (shallow : (l : Loc) → depth_of (f l) ≤ 2) where
  pub depth-read : (e : Expr) → depth_of (read_by f e) ≤ suc (depth_of e)
  depth-read (Const width n) = omega arith
  depth-read (Get location) = shallow location
  depth-read (Load width a) = let h = depth-read a in omega (arith, h)
  depth-read (Unary operator width a) = let h = depth-read a in omega (arith, h)
  depth-read (Binary operator width a b) = let h = depth-read a in let k = depth-read b in omega (arith, h, k)
  depth-read (Widen signed width a) = let h = depth-read a in omega (arith, h)
  depth-read (Part width first a) = let h = depth-read a in omega (arith, h)
  depth-read (Join high low) = let h = depth-read high in let k = depth-read low in omega (arith, h, k)
  depth-read (Choose test a b) =
      let h = depth-read test in let k = depth-read a in let m = depth-read b in omega (arith, h, k, m)
  depth-read (Address distance) = omega arith

  pub deepest-read : (es : List Expr) → deepest (map (read_by f) es) ≤ suc (deepest es)
  deepest-read [] = omega arith
  deepest-read (e ∷ es) = let h = depth-read e in let k = deepest-read es in omega (arith, h, k)

-- Temporaries.

module _ (f : Loc → Expr) (temps : (l : Loc) → is_temp l ≡ true → list_all is_temp (reads_of (f l)) ≡ true) where
  both-temps : (a b : List Expr) → list_all is_temp (flat_map got_by a) ≡ true → list_all is_temp (flat_map got_by b) ≡ true
      → list_all is_temp (flat_map got_by (a ++ b)) ≡ true
  both-temps a b one other =
      ap (list_all is_temp) (flat_map-append got_by a b) ∙ list_all-append is_temp (flat_map got_by a) (flat_map got_by b)
      ∙ ap₂ (λ x y. x && y) one other

  parts-temps : (a b : List Expr) → list_all is_temp (flat_map got_by (a ++ b)) ≡ true
      → (list_all is_temp (flat_map got_by a) ≡ true) × (list_all is_temp (flat_map got_by b) ≡ true)
  parts-temps a b all =
      and_parts (list_all is_temp (flat_map got_by a)) (list_all is_temp (flat_map got_by b))
      (sym (list_all-append is_temp (flat_map got_by a) (flat_map got_by b)) ∙ ap (list_all is_temp) (sym (flat_map-append got_by a b)) ∙ all)

  pub temps-read : (e : Expr) → list_all is_temp (reads_of e) ≡ true → list_all is_temp (reads_of (read_by f e)) ≡ true
  temps-read (Const width n) all = refl
  temps-read (Get location) all = temps location (and_parts (is_temp location) true all).0
  temps-read (Load width a) all = temps-read a all
  temps-read (Unary operator width a) all = temps-read a all
  temps-read (Binary operator width a b) all =
      let p = parts-temps (parts_of a) (parts_of b) all in
      both-temps (parts_of (read_by f a)) (parts_of (read_by f b)) (temps-read a p.0) (temps-read b p.1)
  temps-read (Widen signed width a) all = temps-read a all
  temps-read (Part width first a) all = temps-read a all
  temps-read (Join high low) all =
      let p = parts-temps (parts_of high) (parts_of low) all in
      both-temps (parts_of (read_by f high)) (parts_of (read_by f low)) (temps-read high p.0) (temps-read low p.1)
  temps-read (Choose test a b) all =
      let p = parts-temps (parts_of test ++ parts_of a) (parts_of b) all in
      let q = parts-temps (parts_of test) (parts_of a) p.0 in
      both-temps (parts_of (read_by f test) ++ parts_of (read_by f a)) (parts_of (read_by f b))
      (both-temps (parts_of (read_by f test)) (parts_of (read_by f a)) (temps-read test q.0) (temps-read a q.1)) (temps-read b p.1)
  temps-read (Address distance) all = refl

  pub all-temps-read : (es : List Expr) → list_all is_temp (flat_map reads_of es) ≡ true → list_all is_temp (flat_map reads_of (map (read_by f) es)) ≡ true
  all-temps-read [] all = refl
  all-temps-read (e ∷ es) all =
      let p = and_parts (list_all is_temp (reads_of e)) (list_all is_temp (flat_map reads_of es)) (sym (list_all-append is_temp (reads_of e) (flat_map reads_of es)) ∙ all) in
      list_all-append is_temp (reads_of (read_by f e)) (flat_map reads_of (map (read_by f) es))
      ∙ ap₂ (λ x y. x && y) (temps-read e p.0) (all-temps-read es p.1)
