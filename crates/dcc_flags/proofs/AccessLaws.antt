-- The addresses of the folded graph's accesses read halves of registers and of cells alone, where those of the graph do.
use Rattle.std.proofs.Common.{◌≡◌, ℕ, Bool, true, false, ◌==◌, ◌&&◌, List, [], ◌∷◌, ◌++◌, length, map, Some, None, refl, sym, ◌∙◌, true≢false}
use Rattle.std.specs.Prelude.{if◌then◌else◌}
use Rattle.std.specs.List.{AllZip, list_all}
use Rattle.std.proofs.lemmas.Bool.{and_parts, and_from}
use Rattle.std.proofs.lemmas.List.Folds.{list_all-append}
use Rattle.dcc_num.specs.declared.FlagName.{FlagName}
use Rattle.dcc_num.specs.declared.FlagName.TheVariants.{Cf, Zf, Sf, Of}
use Rattle.dcc_ir.specs.declared.syntax.Loc.TheVariants.{Half, Flag, Cell, Temp}
use Rattle.dcc_ir.specs.declared.syntax.UnOp.{UnOp}
use Rattle.dcc_ir.specs.declared.syntax.UnOp.TheVariants.{Neg, Not, IsZero}
use Rattle.dcc_ir.specs.Tree.{Expr, Const, Get, Load, Unary, Binary, Widen, Part, Join, Choose, Address, Stmt, Set, Fetch, Store, Div, Call, Dos, Exit, Goto, If, Switch, Ret, Stop, Block, Graph}
use Rattle.dcc_ir.specs.Use.{exit_exprs}
use Rattle.dcc_flags.specs.declared.kept.Kept.{Kept}
use Rattle.dcc_flags.specs.Accesses.{reads_halves, loads_by_halves, accesses_by_halves, block_by_halves}
use Rattle.dcc_flags.specs.Folding.{is_kept, Choices, choice, with_operator, negated, with_choices, stmt_with_choices, exit_with_choices, Taken, taken, has_truth, goes_with, stmt_folded, stmts_folded, bare_stmts, first_choice, first_choices, folded_graph}
use Rattle.dcc_flags.proofs.EachLaws.{Each, each_at, ValuesHave, each_past, each_end, each_block}
use Rattle.dcc_flags.proofs.MeetLaws.{by_kept}

-- Operators on one operand, for a test that looks through them.

module _ (test : Expr → Bool) (through : (o : UnOp) (w : ℕ) (a : Expr) → test (Unary o w a) ≡ test a) where
  negated_passes : (w : ℕ) (a : Expr) → test a ≡ true → test (negated w a) ≡ true
  negated_passes w (Unary Not v x) is = go (v == w)
    where
      go : (b : Bool) → test (if b then x else Unary Not w (Unary Not v x)) ≡ true
      go true = sym (through Not v x) ∙ is
      go false = through Not w (Unary Not v x) ∙ is
  negated_passes w (Unary Neg v x) is = through Not w (Unary Neg v x) ∙ is
  negated_passes w (Unary IsZero v x) is = through Not w (Unary IsZero v x) ∙ is
  negated_passes w (Const v n) is = through Not w (Const v n) ∙ is
  negated_passes w (Get l) is = through Not w (Get l) ∙ is
  negated_passes w (Load v a) is = through Not w (Load v a) ∙ is
  negated_passes w (Binary o v a b) is = through Not w (Binary o v a b) ∙ is
  negated_passes w (Widen s v a) is = through Not w (Widen s v a) ∙ is
  negated_passes w (Part v k a) is = through Not w (Part v k a) ∙ is
  negated_passes w (Join a b) is = through Not w (Join a b) ∙ is
  negated_passes w (Choose x a b) is = through Not w (Choose x a b) ∙ is
  negated_passes w (Address d) is = through Not w (Address d) ∙ is

  operator_passes : (o : UnOp) (w : ℕ) (a : Expr) → test a ≡ true → test (with_operator o w a) ≡ true
  operator_passes Not w a is = negated_passes w a is
  operator_passes Neg w a is = through Neg w a ∙ is
  operator_passes IsZero w a is = through IsZero w a ∙ is

-- Choices in place of flags.

-- an expression that reads no flag reads what it read
halves_chosen : (c : Choices) (e : Expr) → reads_halves e ≡ true → reads_halves (with_choices c e) ≡ true
halves_chosen c (Const w n) is = refl
halves_chosen c (Get (Half r half)) is = refl
halves_chosen c (Get (Cell n half)) is = refl
halves_chosen c (Get (Flag f)) is = absurd (true≢false (sym is))
halves_chosen c (Get (Temp n)) is = absurd (true≢false (sym is))
halves_chosen c (Load w a) is = halves_chosen c a is
halves_chosen c (Unary o w a) is =
    operator_passes reads_halves (λ o w a. refl) o w (with_choices c a) (halves_chosen c a is)
halves_chosen c (Binary o w a b) is =
    let parts = and_parts (reads_halves a) (reads_halves b) is in
    and_from (reads_halves (with_choices c a)) (reads_halves (with_choices c b)) (halves_chosen c a parts.0) (halves_chosen c b parts.1)
halves_chosen c (Widen s w a) is = halves_chosen c a is
halves_chosen c (Part w k a) is = halves_chosen c a is
halves_chosen c (Join a b) is =
    let parts = and_parts (reads_halves a) (reads_halves b) is in
    and_from (reads_halves (with_choices c a)) (reads_halves (with_choices c b)) (halves_chosen c a parts.0) (halves_chosen c b parts.1)
halves_chosen c (Choose x a b) is =
    let parts = and_parts (reads_halves x) (reads_halves a && reads_halves b) is in
    let two = and_parts (reads_halves a) (reads_halves b) parts.1 in
    and_from (reads_halves (with_choices c x)) (reads_halves (with_choices c a) && reads_halves (with_choices c b))
    (halves_chosen c x parts.0)
    (and_from (reads_halves (with_choices c a)) (reads_halves (with_choices c b)) (halves_chosen c a two.0) (halves_chosen c b two.1))
halves_chosen c (Address d) is = refl

abbrev Loads : Expr → Type 0
Loads e = loads_by_halves e ≡ true

module _ (c : Choices) (h : Each Loads c) where
  loads_chosen : (e : Expr) → Loads e → Loads (with_choices c e)
  loads_chosen (Const w n) is = refl
  loads_chosen (Get (Half r half)) is = refl
  loads_chosen (Get (Cell n half)) is = refl
  loads_chosen (Get (Flag f)) is = each_at Loads c h f
  loads_chosen (Get (Temp n)) is = refl
  loads_chosen (Load w a) is = halves_chosen c a is
  loads_chosen (Unary o w a) is =
      operator_passes loads_by_halves (λ o w a. refl) o w (with_choices c a) (loads_chosen a is)
  loads_chosen (Binary o w a b) is =
      let parts = and_parts (loads_by_halves a) (loads_by_halves b) is in
      and_from (loads_by_halves (with_choices c a)) (loads_by_halves (with_choices c b)) (loads_chosen a parts.0) (loads_chosen b parts.1)
  loads_chosen (Widen s w a) is = loads_chosen a is
  loads_chosen (Part w k a) is = loads_chosen a is
  loads_chosen (Join a b) is =
      let parts = and_parts (loads_by_halves a) (loads_by_halves b) is in
      and_from (loads_by_halves (with_choices c a)) (loads_by_halves (with_choices c b)) (loads_chosen a parts.0) (loads_chosen b parts.1)
  loads_chosen (Choose x a b) is =
      let parts = and_parts (loads_by_halves x) (loads_by_halves a && loads_by_halves b) is in
      let two = and_parts (loads_by_halves a) (loads_by_halves b) parts.1 in
      and_from (loads_by_halves (with_choices c x)) (loads_by_halves (with_choices c a) && loads_by_halves (with_choices c b))
      (loads_chosen x parts.0)
      (and_from (loads_by_halves (with_choices c a)) (loads_by_halves (with_choices c b)) (loads_chosen a two.0) (loads_chosen b two.1))
  loads_chosen (Address d) is = refl

  all_chosen : (es : List Expr) → list_all loads_by_halves es ≡ true → list_all loads_by_halves (map (with_choices c) es) ≡ true
  all_chosen [] is = refl
  all_chosen (e ∷ es) is =
      let parts = and_parts (loads_by_halves e) (list_all loads_by_halves es) is in
      and_from (loads_by_halves (with_choices c e)) (list_all loads_by_halves (map (with_choices c) es)) (loads_chosen e parts.0) (all_chosen es parts.1)

  stmt_chosen : (stmt : Stmt) → accesses_by_halves stmt ≡ true → accesses_by_halves (stmt_with_choices c stmt) ≡ true
  stmt_chosen (Set l e) is = all_chosen (e ∷ []) is
  stmt_chosen (Fetch l w a) is = all_chosen (Load w a ∷ []) is
  stmt_chosen (Store w a e) is = all_chosen (Load w a ∷ e ∷ []) is
  stmt_chosen (Div l e) is = all_chosen (e ∷ []) is
  stmt_chosen (Call r n es d) is = all_chosen es is
  stmt_chosen (Dos n p None) is = refl
  stmt_chosen (Dos n p (Some e)) is = all_chosen (e ∷ []) is

  exit_chosen : (exit : Exit) → list_all loads_by_halves (exit_exprs exit) ≡ true
      → list_all loads_by_halves (exit_exprs (exit_with_choices c exit)) ≡ true
  exit_chosen (Goto place) is = refl
  exit_chosen (If x one other) is = all_chosen (x ∷ []) is
  exit_chosen (Switch e places) is = all_chosen (e ∷ []) is
  exit_chosen (Ret values) is = all_chosen values is
  exit_chosen Stop is = refl

-- What is taken of an expression: its value loads nothing, and copies have its loads.

value_if : (b : Bool) (t u : Taken) → Loads t.value → Loads u.value → Loads (if b then t else u).value
value_if true t u p q = p
value_if false t u p q = q

value_loads : (bits : List ℕ) (e : Expr) → Loads (taken bits e).value
value_loads bits (Const w n) = refl
value_loads bits (Get l) = refl
value_loads bits (Load w a) = refl
value_loads bits (Unary o w a) = value_if (has_truth (Unary o w a)) _ _ (value_loads bits a) refl
value_loads bits (Binary o w a b) =
    let t = taken bits a in
    let u = taken (bits ++ t.widths) b in
    value_if (has_truth (Binary o w a b)) _ _
    (and_from (loads_by_halves t.value) (loads_by_halves u.value) (value_loads bits a) (value_loads (bits ++ t.widths) b)) refl
value_loads bits (Widen s w a) = value_if (has_truth a) _ _ (value_loads bits a) refl
value_loads bits (Part w k a) = value_if (has_truth a) _ _ (value_loads bits a) refl
value_loads bits (Join a b) =
    let t = taken bits a in
    let u = taken (bits ++ t.widths) b in
    value_if (has_truth (Join a b)) _ _
    (and_from (loads_by_halves t.value) (loads_by_halves u.value) (value_loads bits a) (value_loads (bits ++ t.widths) b)) refl
value_loads bits (Choose x a b) =
    let t = taken bits x in
    let u = taken (bits ++ t.widths) a in
    let v = taken ((bits ++ t.widths) ++ u.widths) b in
    and_from (loads_by_halves t.value) (loads_by_halves u.value && loads_by_halves v.value) (value_loads bits x)
    (and_from (loads_by_halves u.value) (loads_by_halves v.value) (value_loads (bits ++ t.widths) a)
    (value_loads ((bits ++ t.widths) ++ u.widths) b))
value_loads bits (Address d) = refl

abbrev AllAccess : List Stmt → Type 0
AllAccess stmts = list_all accesses_by_halves stmts ≡ true

more : (cs ds : List Stmt) → AllAccess cs → AllAccess ds → AllAccess (cs ++ ds)
more cs ds p q =
    list_all-append accesses_by_halves cs ds ∙ and_from (list_all accesses_by_halves cs) (list_all accesses_by_halves ds) p q

copies_if : (b : Bool) (t u : Taken) → AllAccess t.copies → AllAccess u.copies → AllAccess (if b then t else u).copies
copies_if true t u p q = p
copies_if false t u p q = q

copy_loads : (n : ℕ) (e : Expr) → Loads e → AllAccess (Set (Temp n) e ∷ [])
copy_loads n e is = and_from (loads_by_halves e && true) true (and_from (loads_by_halves e) true is refl) refl

copies_load : (bits : List ℕ) (e : Expr) → Loads e → AllAccess (taken bits e).copies
copies_load bits (Const w n) is = refl
copies_load bits (Get l) is = refl
copies_load bits (Load w a) is = copy_loads (length bits) (Load w a) is
copies_load bits (Unary o w a) is =
    copies_if (has_truth (Unary o w a)) _ _ (copies_load bits a is) (copy_loads (length bits) (Unary o w a) is)
copies_load bits (Binary o w a b) is =
    let parts = and_parts (loads_by_halves a) (loads_by_halves b) is in
    copies_if (has_truth (Binary o w a b)) _ _
    (more (taken bits a).copies _ (copies_load bits a parts.0) (copies_load (bits ++ (taken bits a).widths) b parts.1))
    (copy_loads (length bits) (Binary o w a b) is)
copies_load bits (Widen s w a) is = copies_if (has_truth a) _ _ (copies_load bits a is) (copy_loads (length bits) (Widen s w a) is)
copies_load bits (Part w k a) is = copies_if (has_truth a) _ _ (copies_load bits a is) (copy_loads (length bits) (Part w k a) is)
copies_load bits (Join a b) is =
    let parts = and_parts (loads_by_halves a) (loads_by_halves b) is in
    copies_if (has_truth (Join a b)) _ _
    (more (taken bits a).copies _ (copies_load bits a parts.0) (copies_load (bits ++ (taken bits a).widths) b parts.1))
    (copy_loads (length bits) (Join a b) is)
copies_load bits (Choose x a b) is =
    let t = taken bits x in
    let u = taken (bits ++ t.widths) a in
    let v = taken ((bits ++ t.widths) ++ u.widths) b in
    let parts = and_parts (loads_by_halves x) (loads_by_halves a && loads_by_halves b) is in
    let two = and_parts (loads_by_halves a) (loads_by_halves b) parts.1 in
    more (t.copies ++ u.copies) v.copies
    (more t.copies u.copies (copies_load bits x parts.0) (copies_load (bits ++ t.widths) a two.0))
    (copies_load ((bits ++ t.widths) ++ u.widths) b two.1)
copies_load bits (Address d) is = refl

-- Statements and blocks.

one_more : (stmt : Stmt) → accesses_by_halves stmt ≡ true → AllAccess (stmt ∷ [])
one_more stmt is = and_from (accesses_by_halves stmt) true is refl

values_load : ValuesHave Loads accesses_by_halves
values_load bits c f e is h = value_loads bits (with_choices c e)

module _ (kept : Kept) where
  stmt_loads : (bits : List ℕ) (c : Choices) → Each Loads c → (stmt : Stmt) → accesses_by_halves stmt ≡ true
      → AllAccess (stmt_folded kept bits c stmt).stmts
  stmt_loads bits c h (Set (Flag g) e) is = go (is_kept kept g)
    where
      go : (b : Bool) → AllAccess (by_kept b bits c g (with_choices c e)).stmts
      go true = one_more (Set (Flag g) (with_choices c e)) (stmt_chosen c h (Set (Flag g) e) is)
      go false = copies_load bits (with_choices c e) (loads_chosen c h e (and_parts (loads_by_halves e) true is).0)
  stmt_loads bits c h (Set (Half r x) e) is = one_more (Set (Half r x) (with_choices c e)) (stmt_chosen c h (Set (Half r x) e) is)
  stmt_loads bits c h (Set (Cell n x) e) is = one_more (Set (Cell n x) (with_choices c e)) (stmt_chosen c h (Set (Cell n x) e) is)
  stmt_loads bits c h (Set (Temp n) e) is = one_more (Set (Temp n) (with_choices c e)) (stmt_chosen c h (Set (Temp n) e) is)
  stmt_loads bits c h (Fetch l w a) is = one_more (stmt_with_choices c (Fetch l w a)) (stmt_chosen c h (Fetch l w a) is)
  stmt_loads bits c h (Store w a e) is = one_more (stmt_with_choices c (Store w a e)) (stmt_chosen c h (Store w a e) is)
  stmt_loads bits c h (Div l e) is = one_more (stmt_with_choices c (Div l e)) (stmt_chosen c h (Div l e) is)
  stmt_loads bits c h (Call r n es d) is = one_more (stmt_with_choices c (Call r n es d)) (stmt_chosen c h (Call r n es d) is)
  stmt_loads bits c h (Dos n p a) is = one_more (stmt_with_choices c (Dos n p a)) (stmt_chosen c h (Dos n p a) is)

  stmts_load : (bits : List ℕ) (c : Choices) → Each Loads c → (stmts : List Stmt) → AllAccess stmts
      → AllAccess (stmts_folded kept bits c stmts).stmts
  stmts_load bits c h [] all = refl
  stmts_load bits c h (stmt ∷ rest) all =
      let parts = and_parts (accesses_by_halves stmt) (list_all accesses_by_halves rest) all in
      let first = stmt_folded kept bits c stmt in
      more first.stmts (stmts_folded kept (bits ++ first.widths) first.choices rest).stmts (stmt_loads bits c h stmt parts.0)
      (stmts_load (bits ++ first.widths) first.choices
      (each_past kept Loads accesses_by_halves values_load bits c stmt parts.0 h) rest parts.1)

  bare_load : (c : Choices) → Each Loads c → (stmts : List Stmt) → AllAccess stmts → AllAccess (bare_stmts kept c stmts)
  bare_load c h [] all = refl
  bare_load c h (stmt ∷ rest) all =
      let parts = and_parts (accesses_by_halves stmt) (list_all accesses_by_halves rest) all in
      go (goes_with kept stmt) (bare_load c h rest parts.1) (stmt_chosen c h stmt parts.0)
    where
      go : (b : Bool) → AllAccess (bare_stmts kept c rest) → accesses_by_halves (stmt_with_choices c stmt) ≡ true
          → AllAccess (if b then bare_stmts kept c rest else stmt_with_choices c stmt ∷ bare_stmts kept c rest)
      go true later here = later
      go false later here =
          and_from (accesses_by_halves (stmt_with_choices c stmt)) (list_all accesses_by_halves (bare_stmts kept c rest)) here later

  first_loads : (temporary : ℕ) (f : FlagName) → Loads (first_choice kept temporary f)
  first_loads temporary f = go (is_kept kept f)
    where
      go : (b : Bool) → Loads (if b then Get (Flag f) else Get (Temp temporary))
      go true = refl
      go false = refl

  -- the statements of the second block access by halves, and so does its end where that of the first one does
  record StillLoads (before after : Block) : Type 0 where
    stmts : AllAccess after.stmts
    exit : list_all loads_by_halves (exit_exprs before.exit) ≡ true → list_all loads_by_halves (exit_exprs after.exit) ≡ true

  module _ (graph : Graph) (order : List ℕ) where
    abbrev first : Choices
    first = first_choices kept (length graph.bits)

    first_each : Each Loads first
    first_each = record {
      cf = first_loads (length graph.bits) Cf;
      zf = first_loads (length graph.bits) Zf;
      sf = first_loads (length graph.bits) Sf;
      of = first_loads (length graph.bits) Of;
    }

    still : list_all (λ b. list_all accesses_by_halves b.stmts) graph.blocks ≡ true
        → AllZip StillLoads graph.blocks (folded_graph kept graph order).blocks
    still all =
        each_block kept Loads accesses_by_halves values_load graph first first_each StillLoads
        (λ b fit. record { stmts = bare_load first first_each b.stmts fit; exit = exit_chosen first first_each b.exit })
        (λ bits c b fit h. record {
          stmts = stmts_load bits c h b.stmts fit;
          exit = exit_chosen (stmts_folded kept bits c b.stmts).choices (each_end kept Loads accesses_by_halves values_load bits c b.stmts fit h) b.exit;
        }) all order

    starts : (bs : List Block) → list_all block_by_halves bs ≡ true → list_all (λ (b : Block). list_all accesses_by_halves b.stmts) bs ≡ true
    starts [] all = refl
    starts (b ∷ bs) all =
        let parts = and_parts (block_by_halves b) (list_all block_by_halves bs) all in
        and_from (list_all accesses_by_halves b.stmts) (list_all (λ (x : Block). list_all accesses_by_halves x.stmts) bs)
        (and_parts (list_all accesses_by_halves b.stmts) (list_all loads_by_halves (exit_exprs b.exit)) parts.0).0 (starts bs parts.1)

    ends : (xs ys : List Block) → AllZip StillLoads xs ys → list_all block_by_halves xs ≡ true → list_all block_by_halves ys ≡ true
    ends [] [] zip all = refl
    ends [] (y ∷ ys) zip all = absurd zip
    ends (x ∷ xs) [] zip all = absurd zip
    ends (x ∷ xs) (y ∷ ys) zip all =
        let parts = and_parts (block_by_halves x) (list_all block_by_halves xs) all in
        let own = and_parts (list_all accesses_by_halves x.stmts) (list_all loads_by_halves (exit_exprs x.exit)) parts.0 in
        and_from (block_by_halves y) (list_all block_by_halves ys)
        (and_from (list_all accesses_by_halves y.stmts) (list_all loads_by_halves (exit_exprs y.exit)) zip.0.stmts (zip.0.exit own.1))
        (ends xs ys zip.1 parts.1)

pub accesses_stay : (kept : Kept) (graph : Graph) (order : List ℕ) → list_all block_by_halves graph.blocks ≡ true
    → list_all block_by_halves (folded_graph kept graph order).blocks ≡ true
accesses_stay kept graph order all =
    ends kept graph order graph.blocks (folded_graph kept graph order).blocks
    (still kept graph order (starts kept graph order graph.blocks all)) all
