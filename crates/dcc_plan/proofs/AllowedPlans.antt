-- The text of a valid plan is allowed.
use Rattle.std.proofs.Common.{◌≡◌, ℕ, suc, ◌+◌, ◌*◌, ◌<◌, ◌≤◌, inl, inr, Bool, true, false, ◌==◌, List, [], ◌∷◌, ◌++◌, length, map, Option, Some, None, refl, sym, ap, ap₂, ◌∙◌, subst, true≢false, arith}
use Rattle.std.specs.Prelude.{◌&&◌, ◌||◌, not, option_and_then, nat_le, nat_lt, if◌then◌else◌, is_some, get_or, slice_get, All}
use Rattle.std.specs.List.{list_all, flat_map}
use Rattle.std.specs.List.Sorted.{IsPermutation}
use Rattle.std.proofs.lemmas.Bool.{cases_Bool, and_parts, and_from, or_left, not-true, eqb-true, le-leb, lt-ltb}
use Rattle.std.proofs.lemmas.List.{append-nil, map-append}
use Rattle.std.proofs.lemmas.List.Concat.{flat_map-append}
use Rattle.std.proofs.lemmas.List.Elements.{All-get_or, All-contains, All-head}
use Rattle.std.proofs.lemmas.List.Folds.{list_all-append, list_all_at}
use Rattle.std.proofs.lemmas.List.Sorted.{list_any-IsPermutation, IsPermutation-refl, IsPermutation-append, IsPermutation-map, IsPermutation-trans}
use Rattle.std.proofs.lemmas.Option.{slice_get_cases, slice_get_within, get_or_from_slice_get}
use Rattle.dcc_run.proofs.KeptLaws.{right_part}
use Rattle.dcc_ir.specs.Live.{block_in}
use Rattle.dcc_ir.specs.Run.{is_call, no_block}
use Rattle.dcc_ir.specs.Tree as inner
use Rattle.dcc_ir.specs.Use.{exprs_of, writes_of, exit_exprs, block_exprs, graph_exprs}
use Rattle.dcc_ir.specs.Value.{width_of}
use Rattle.dcc_ir.specs.WellFormed.{is_expr, is_expr_of, is_stmt, is_exit, is_block, IsGraph}
use Rattle.dcc_ir.proofs.ListLaws.{left_part, all_parts}
use Rattle.dcc_ir.proofs.ReachedLaws.{contained}
use Rattle.dcc_c.specs.declared.syntax.CType.{CType}
use Rattle.dcc_c.specs.Grammar.{Around, outermost, in_block, in_loop, in_switch, has_arm, is_among}
use Rattle.dcc_c.specs.Parts.{stmts_in, inner_stmts, arm_stmts, label_of, labels_in}
use Rattle.dcc_c.specs.Rules.{all_differ, declared_in, goto_of, is_switch_value, is_number, is_word_base, converts, fits, allows_stmt, shallow_stmt, expr_depth, cases_of, differ}
use Rattle.dcc_c.specs.declared.syntax.CUn.TheVariants.{Not}
use Rattle.dcc_c.specs.Typing.{unary_type}
use Rattle.dcc_c.specs.Token.{same_bytes}
use Rattle.dcc_c.specs.Tree as tree
use Rattle.dcc_c.specs.Tree.{Word, Unary, Stmt, Function, Tree, Lines, no_lines, line}
use Rattle.dcc_c.specs.Types.{plain, promoted_type, same_type}
use Rattle.dcc_c.proofs.Writable.{is_label, are_cases, is_writable_expr, is_writable_stmt, are_writable_lines, are_writable_arms}
use Rattle.dcc_text.specs.Allowed.{AreDeclared, IsAllowedExpr, IsAllowedStmt}
use Rattle.dcc_text.specs.Spelled.{Way, Low, Exact, text}
use Rattle.dcc_text.specs.Spelling.{Spelling}
use Rattle.dcc_text.specs.Stmts.{stmt_text}
use Rattle.dcc_text.proofs.AllowedStmts.{IsNamed, AreNamed, IsLow, stmt-allowed}
use Rattle.dcc_text.proofs.Depths.{shallow}
use Rattle.dcc_text.proofs.Opposites.{IsTurned, turns, turned-cases, turned-type}
use Rattle.dcc_text.proofs.TypedTexts.{text-allowed}
use Rattle.dcc_variables.specs.Functions.{ret_text}
use Rattle.dcc_plan.specs.Allowed.{has_an_arm, may_stand, item_may_stand, arms_may_stand, may_give, may_return, CallsFit, ReturnsFit, IsSpelled, PlanTextsAreAllowed}
use Rattle.dcc_control.specs.Plan as plan
use Rattle.dcc_control.specs.Plan.{Item, Plan, no_items, item, Arms, marks, item_marks, arm_marks, is_in, is_mark, all_cases}
use Rattle.dcc_plan.specs.PlanText as planned
use Rattle.dcc_plan.specs.PlanText.{text_of_stmt, text_of_way, text_of_choice, text_of_return, is_true_first, side, IsPlanText, nothing, one_more, IsItemText, AreArmsText, no_more, next_arm}
use Rattle.dcc_control.specs.Valid.{Context, outside, in_sides, IsValid, IsValidItem, AreValidArms}
use Rattle.dcc_plan.proofs.Sides.{side-has, sides-marked}
use Rattle.dcc_plan.proofs.LabelWords.{label, label-word, label-among, labels-apart, apart-permuted}

-- a test that holds of all elements holds of each
all-at : {X : Type 0} (p : X → Bool) (xs : List X) (i : ℕ) (d : X) → i < length xs → list_all p xs ≡ true → p (get_or xs i d) ≡ true
all-at p xs i d less all = elim (cases_Bool (p (get_or xs i d))) [
  | inl is ↦ is
  | inr not ↦ absurd (true≢false (sym all ∙ list_all_at p xs i d less not))
]

-- an element within a list
record IsAt {X : Type 0} (xs : List X) (i : ℕ) : Type 0 where
  element : X
  there : slice_get xs i ≡ Some element

is-at : {X : Type 0} (xs : List X) (i : ℕ) → i < length xs → IsAt xs i
is-at xs i less = elim (slice_get_cases xs i).1 [
  | inl x ↦ record { element = x.0; there = x.2 }
  | inr past ↦ absurd (omega (arith, past.0, less))
]

-- Valid plans have labels of blocks of the graph alone.

module _ (graph : inner.Graph) (whole : Plan) where
  abbrev are_inside : List ℕ → Bool
  are_inside bs = list_all (λ b. nat_lt b (length graph.blocks)) bs

  both-inside : (xs ys : List ℕ) → are_inside xs ≡ true → are_inside ys ≡ true → are_inside (xs ++ ys) ≡ true
  both-inside xs ys first second = list_all-append (λ b. nat_lt b (length graph.blocks)) xs ys ∙ and_from (are_inside xs) (are_inside ys) first second

  mutual
    marks-inside : (plan : Plan) (c : Context) → IsValid graph whole plan c → are_inside (marks plan) ≡ true
    marks-inside no_items c v = refl
    marks-inside (item i plan) c v = both-inside (item_marks i) (marks plan) (item-inside i plan c v.0) (marks-inside plan c v.1)

    item-inside : (i : Item) (plan : Plan) (c : Context) → IsValidItem graph whole i plan c → are_inside (item_marks i) ≡ true
    item-inside (plan.Do b m) rest c v = refl
    item-inside (plan.Mark b) rest c (less, l) = and_from (nat_lt b (length graph.blocks)) true (lt-ltb b (length graph.blocks) less) refl
    item-inside (plan.Jump b) rest c v = refl
    item-inside (plan.If b one two) rest c (test, yes_place, no_place, exit, less, first, first_valid, second, second_valid) =
        both-inside (marks one) (marks two) (marks-inside one _ first_valid) (marks-inside two _ second_valid)
    item-inside (plan.Switch b arms) rest c (e, places, exit, less, lead, valid) = arms-inside arms _ valid
    item-inside (plan.Return b) rest c v = refl
    item-inside (plan.For b body) rest c (less, l, valid) = marks-inside body _ valid
    item-inside (plan.While on b body) rest c (test, yes_place, no_place, exit, less, none, l, valid, leaves) = marks-inside body _ valid
    item-inside (plan.DoWhile on b head body) rest c (test, yes_place, no_place, exit, less, known, starts, first, l, valid, leaves) = marks-inside body _ valid
    item-inside plan.Break rest c v = refl
    item-inside plan.Continue rest c v = refl
    item-inside plan.Empty rest c v = refl

    arms-inside : (arms : Arms) (c : Context) → AreValidArms graph whole arms c → are_inside (arm_marks arms) ≡ true
    arms-inside plan.no_arms c v = refl
    arms-inside (plan.arm cases body arms) c v = both-inside (marks body) (arm_marks arms) (marks-inside body c v.0) (arms-inside arms c v.1)

-- a statement of a block is no label
stmt-no-label : (s : Spelling) (stmt : inner.Stmt) → is_label (stmt_text s 2 stmt) ≡ false
stmt-no-label s (inner.Set location e) = refl
stmt-no-label s (inner.Fetch location width address) = refl
stmt-no-label s (inner.Store width address e) = refl
stmt-no-label s (inner.Div location e) = refl
stmt-no-label s (inner.Call results entry arguments depth) = refl
stmt-no-label s (inner.Dos number place argument) = refl

module _ (whole : Tree) (f : Function) (s : Spelling) (graph : inner.Graph) (levels limit : ℕ) (declared : AreDeclared (declared_in whole f) s) (well : IsGraph graph)
    (spelled : IsSpelled s levels graph) (calls : CallsFit whole f s limit graph) (returned : ReturnsFit f graph) (enough : 6 * levels + 3 ≤ limit) (all : Plan) where
  abbrev known : List Word
  known = map (label graph well) (marks all)

  -- what each statement passes
  abbrev passes : Stmt → Bool
  passes stmt = allows_stmt whole f stmt && (shallow_stmt limit stmt && list_all (is_among known) (goto_of stmt))

  passes-from : (stmt : Stmt) → allows_stmt whole f stmt ≡ true → shallow_stmt limit stmt ≡ true → list_all (is_among known) (goto_of stmt) ≡ true → passes stmt ≡ true
  passes-from stmt allowed low jumps = and_from (allows_stmt whole f stmt) (shallow_stmt limit stmt && list_all (is_among known) (goto_of stmt)) allowed (and_from (shallow_stmt limit stmt) (list_all (is_among known) (goto_of stmt)) low jumps)

  -- the statements have the labels of these blocks, in any order
  abbrev HaveLabels : List Stmt → List ℕ → Type 0
  HaveLabels stmts bs = IsPermutation (map (label graph well) bs) (flat_map label_of stmts)

  -- Lines that are fine as the text of a plan, a statement as that of an item, and arms.

  record IsFine (around : Around) (labelled : Bool) (plan : Plan) (lines : Lines) : Type 0 where
    writable : are_writable_lines around labelled lines ≡ true
    pass : list_all passes (stmts_in lines) ≡ true
    labels : HaveLabels (stmts_in lines) (marks plan)

  record IsFineItem (around : Around) (i : Item) (stmt : Stmt) : Type 0 where
    writable : is_writable_stmt around stmt ≡ true
    marked : is_label stmt ≡ is_mark i
    pass : list_all passes (stmt ∷ inner_stmts stmt) ≡ true
    labels : HaveLabels (stmt ∷ inner_stmts stmt) (item_marks i)

  record AreFineArms (around : Around) (arms : Arms) (bodies : tree.Arms) : Type 0 where
    writable : are_writable_arms around bodies ≡ true
    pass : list_all passes (arm_stmts bodies) ≡ true
    labels : HaveLabels (arm_stmts bodies) (arm_marks arms)
    cases : cases_of bodies ≡ all_cases arms
    some : has_arm bodies ≡ has_an_arm arms

  -- two lists of statements
  both-pass : (xs ys : List Stmt) → list_all passes xs ≡ true → list_all passes ys ≡ true → list_all passes (xs ++ ys) ≡ true
  both-pass xs ys first second = list_all-append passes xs ys ∙ and_from (list_all passes xs) (list_all passes ys) first second

  no-labels : (stmts : List Stmt) → flat_map label_of stmts ≡ [] → HaveLabels stmts []
  no-labels stmts none = subst (IsPermutation []) (sym none) (IsPermutation-refl [])

  both-labels : (xs ys : List Stmt) (ms ns : List ℕ) → HaveLabels xs ms → HaveLabels ys ns → HaveLabels (xs ++ ys) (ms ++ ns)
  both-labels xs ys ms ns first second =
      let name = label graph well in
      subst (IsPermutation (map name (ms ++ ns))) (sym (flat_map-append label_of xs ys))
      (subst (λ ls. IsPermutation ls (flat_map label_of xs ++ flat_map label_of ys)) (sym (map-append name ms ns))
      (IsPermutation-append (map name ms) (flat_map label_of xs) (map name ns) (flat_map label_of ys) first second))

  -- Blocks.

  module _ (b : ℕ) (inside : b < length graph.blocks) where
    abbrev block : inner.Block
    block = block_in graph b

    block-formed : is_block s.bits (length graph.blocks) block ≡ true
    block-formed = ap (λ bits. is_block bits (length graph.blocks) block) spelled.bits ∙ all-at (is_block graph.bits (length graph.blocks)) graph.blocks b no_block inside well.blocks

    of-block : (P : inner.Expr → Type 0) → All P (graph_exprs graph) → All P (block_exprs block)
    of-block P has = All-get_or (λ (x : inner.Block). All P (block_exprs x)) graph.blocks b no_block inside (all_parts P block_exprs graph.blocks has)

    -- what is at the end
    of-end : (P : inner.Expr → Type 0) → All P (graph_exprs graph) → All P (exit_exprs block.exit)
    of-end P has = right_part P (flat_map exprs_of block.stmts) (exit_exprs block.exit) (of-block P has)

    -- what holds of all expressions of the graph holds of those of a statement of the block
    of-stmt : (P : inner.Expr → Type 0) → All P (graph_exprs graph) → (m : ℕ) (stmt : inner.Stmt) → slice_get block.stmts m ≡ Some stmt → All P (exprs_of stmt)
    of-stmt P has m stmt there =
        All-contains (λ x. All P (exprs_of x)) block.stmts stmt (all_parts P exprs_of block.stmts (left_part P (flat_map exprs_of block.stmts) (exit_exprs block.exit) (of-block P has)))
        (contained block.stmts m stmt there)

    abbrev Fits : inner.Stmt → Type 0
    Fits stmt = is_call stmt ≡ true → IsAllowedStmt whole f limit (stmt_text s 2 stmt)

    stmt-is : (m : ℕ) (stmt : inner.Stmt) → slice_get block.stmts m ≡ Some stmt → IsAllowedStmt whole f limit (stmt_text s 2 stmt)
    stmt-is m stmt there =
        let (stmts, exit) = and_parts (list_all (is_stmt s.bits) block.stmts) (is_exit s.bits (length graph.blocks) block.exit) block-formed in
        let inside_stmts = contained block.stmts m stmt there in
        elim (cases_Bool (is_call stmt)) [
          | inl call ↦ All-contains Fits block.stmts stmt (All-get_or (λ (x : inner.Block). All Fits x.stmts) graph.blocks b no_block inside calls) inside_stmts call
          | inr none ↦ stmt-allowed whole f s declared levels limit 2 enough (omega arith) stmt
              (ap (λ (x : inner.Stmt). is_stmt s.bits x) (sym (get_or_from_slice_get block.stmts m stmt stmt there)) ∙ all-at (is_stmt s.bits) block.stmts m stmt (slice_get_within block.stmts m stmt there) stmts)
              none
              (of-stmt (AreNamed s) spelled.reads m stmt there)
              (All-contains (λ x. All (IsNamed s) (writes_of x)) block.stmts stmt (All-get_or (λ (x : inner.Block). All (λ y. All (IsNamed s) (writes_of y)) x.stmts) graph.blocks b no_block inside spelled.writes) inside_stmts)
              (of-stmt (IsLow levels) spelled.shallow m stmt there)
        ]

    do-fine : (around : Around) (m : ℕ) → m < length block.stmts → IsFineItem around (plan.Do b m) (text_of_stmt s graph b m)
    do-fine around m less =
        let at = is-at block.stmts m less in
        subst (λ o. IsFineItem around (plan.Do b m) (elim o [ Some stmt ↦ stmt_text s 2 stmt | None ↦ tree.Empty ])) (sym at.there) (by at.element (stmt-is m at.element at.there))
      where
        by : (stmt : inner.Stmt) → IsAllowedStmt whole f limit (stmt_text s 2 stmt) → IsFineItem around (plan.Do b m) (stmt_text s 2 stmt)
        by stmt x = record {
          writable = x.writable around;
          marked = stmt-no-label s stmt;
          pass = ap (λ inner. list_all passes (stmt_text s 2 stmt ∷ inner)) x.alone
              ∙ and_from (passes (stmt_text s 2 stmt)) true (passes-from (stmt_text s 2 stmt) x.allowed x.shallow (ap (list_all (is_among known)) x.no_goto)) refl;
          labels = no-labels (stmt_text s 2 stmt ∷ inner_stmts (stmt_text s 2 stmt)) (ap (λ inner. flat_map label_of (stmt_text s 2 stmt ∷ inner)) x.alone ∙ ap (λ ls. ls ++ []) x.no_label);
        }

    -- what is tested or chosen by
    end-expr : (e : inner.Expr) (way : Way) (width : ℕ) → is_expr_of s.bits width e ≡ true → AreNamed s e → IsAllowedExpr (declared_in whole f) width (text s way false e)
    end-expr e way width formed read =
        let (is, same) = and_parts (is_expr s.bits e) (width_of s.bits e == width) formed in
        subst (λ w. IsAllowedExpr (declared_in whole f) w (text s way false e)) (eqb-true (width_of s.bits e) width same) (text-allowed (declared_in whole f) s declared e way false is read)

    end-shallow : (e : inner.Expr) (way : Way) → IsLow levels e → (nat_le (expr_depth (text s way false e)) limit && true) ≡ true
    end-shallow e way low = and_from (nat_le (expr_depth (text s way false e)) limit) true (le-leb (expr_depth (text s way false e)) limit (omega (arith, enough, low, shallow s e way false))) refl

    exit-formed : (exit : inner.Exit) → block.exit ≡ exit → is_exit s.bits (length graph.blocks) exit ≡ true
    exit-formed exit is =
        ap (is_exit s.bits (length graph.blocks)) (sym is) ∙ (and_parts (list_all (is_stmt s.bits) block.stmts) (is_exit s.bits (length graph.blocks) block.exit) block-formed).1

    only-of : (P : inner.Expr → Type 0) → All P (graph_exprs graph) → (exit : inner.Exit) (e : inner.Expr) → block.exit ≡ exit → exit_exprs exit ≡ e ∷ [] → P e
    only-of P has exit e is only = All-head P e [] (subst (All P) (ap exit_exprs is ∙ only) (of-end P has))

    -- a test, or its opposite, that may stand in the text
    record IsFineTest (e : tree.Expr) : Type 0 where
      writable : is_writable_expr e ≡ true
      number : is_number (declared_in whole f) e ≡ true
      low : (nat_le (expr_depth e) limit && true) ≡ true

    way-fine : (on : Bool) (test : inner.Expr) (yes_place no_place : ℕ) → block.exit ≡ inner.If test yes_place no_place → IsFineTest (text_of_way s on block.exit)
    way-fine on test yes_place no_place is =
        let (tested, second) = and_parts (is_expr_of s.bits 1 test && nat_lt yes_place (length graph.blocks)) (nat_lt no_place (length graph.blocks)) (exit-formed (inner.If test yes_place no_place) is) in
        let z = end-expr test Exact 1 (and_parts (is_expr_of s.bits 1 test) (nat_lt yes_place (length graph.blocks)) tested).0 (only-of (AreNamed s) spelled.reads (inner.If test yes_place no_place) test is refl) in
        subst (λ exit. IsFineTest (text_of_way s on exit)) (sym is) (by on z (only-of (IsLow levels) spelled.shallow (inner.If test yes_place no_place) test is refl))
      where
        fine-turned : (e c : tree.Expr) → IsTurned e c → IsFineTest e → IsFineTest c
        fine-turned e c (turns operator other a b o) x = record {
          writable = x.writable;
          number = ap (λ t. elim t [ Some type ↦ not type.pointer | None ↦ false ]) (turned-type (declared_in whole f) (tree.Binary operator a b) (tree.Binary other a b) (turns operator other a b o)) ∙ x.number;
          low = x.low;
        }

        itself : IsAllowedExpr (declared_in whole f) 1 (text s Exact false test) → IsLow levels test → IsFineTest (text s Exact false test)
        itself z low = record { writable = z.writable; number = ap (λ t. elim t [ Some type ↦ not type.pointer | None ↦ false ]) z.typed; low = end-shallow test Exact low }

        by : (on : Bool) → IsAllowedExpr (declared_in whole f) 1 (text s Exact false test) → IsLow levels test → IsFineTest (text_of_way s on (inner.If test yes_place no_place))
        by true z low = itself z low
        by false z low = turned-cases IsFineTest (Unary Not) (text s Exact false test) (record {
          writable = z.writable;
          number = ap (λ t. elim (option_and_then (unary_type Not) t) [ Some type ↦ not type.pointer | None ↦ false ]) z.typed;
          low = and_from (nat_le (suc (expr_depth (text s Exact false test))) limit) true
              (le-leb (suc (expr_depth (text s Exact false test))) limit (omega (arith, enough, low, shallow s test Exact false))) refl;
        }) (λ c o. fine-turned (text s Exact false test) c o (itself z low))

    test-fine : (around : Around) (on : Bool) (one two p q : Plan) (first second : Lines) (test : inner.Expr) (yes_place no_place : ℕ) → block.exit ≡ inner.If test yes_place no_place
        → IsFine (in_block around) false p first → IsFine (in_block around) false q second → IsPermutation (marks one ++ marks two) (marks p ++ marks q)
        → IsFineItem around (plan.If b one two) (tree.If (text_of_way s on block.exit) first second)
    test-fine around on one two p q first second test yes_place no_place is x y same =
        let z = way-fine on test yes_place no_place is in
        let e = text_of_way s on block.exit in record {
          writable = and_from (is_writable_expr e) (are_writable_lines (in_block around) false first && are_writable_lines (in_block around) false second) z.writable
              (and_from (are_writable_lines (in_block around) false first) (are_writable_lines (in_block around) false second) x.writable y.writable);
          marked = refl;
          pass = and_from (passes (tree.If e first second)) (list_all passes (stmts_in first ++ stmts_in second)) (passes-from (tree.If e first second) z.number z.low refl)
              (both-pass (stmts_in first) (stmts_in second) x.pass y.pass);
          labels = IsPermutation-trans _ _ _ (IsPermutation-map (label graph well) (marks one ++ marks two) (marks p ++ marks q) same)
              (both-labels (stmts_in first) (stmts_in second) (marks p) (marks q) x.labels y.labels);
        }

    while-fine : (around : Around) (on : Bool) (inner_plan : Plan) (body : Lines) (test : inner.Expr) (yes_place no_place : ℕ) → block.exit ≡ inner.If test yes_place no_place
        → IsFine (in_loop around) false inner_plan body → IsFineItem around (plan.While on b inner_plan) (tree.While (text_of_way s on block.exit) body)
    while-fine around on inner_plan body test yes_place no_place is x =
        let z = way-fine on test yes_place no_place is in
        let e = text_of_way s on block.exit in record {
          writable = and_from (is_writable_expr e) (are_writable_lines (in_loop around) false body) z.writable x.writable;
          marked = refl;
          pass = and_from (passes (tree.While e body)) (list_all passes (stmts_in body)) (passes-from (tree.While e body) z.number z.low refl) x.pass;
          labels = x.labels;
        }

    do-while-fine : (around : Around) (on : Bool) (head : ℕ) (inner_plan : Plan) (body : Lines) (test : inner.Expr) (yes_place no_place : ℕ) → block.exit ≡ inner.If test yes_place no_place
        → IsFine (in_loop around) false inner_plan body → IsFineItem around (plan.DoWhile on b head inner_plan) (tree.DoWhile body (text_of_way s on block.exit))
    do-while-fine around on head inner_plan body test yes_place no_place is x =
        let z = way-fine on test yes_place no_place is in
        let e = text_of_way s on block.exit in record {
          writable = and_from (is_writable_expr e) (are_writable_lines (in_loop around) false body) z.writable x.writable;
          marked = refl;
          pass = and_from (passes (tree.DoWhile body e)) (list_all passes (stmts_in body)) (passes-from (tree.DoWhile body e) z.number z.low refl) x.pass;
          labels = x.labels;
        }

    choice-fine : (around : Around) (arms : Arms) (bodies : tree.Arms) (e : inner.Expr) (places : List ℕ) → block.exit ≡ inner.Switch e places → has_an_arm arms ≡ true → differ (all_cases arms) ≡ true
        → AreFineArms (in_switch around) arms bodies → IsFineItem around (plan.Switch b arms) (tree.Switch (text_of_choice s block.exit) bodies tree.no_arms)
    choice-fine around arms bodies e places is some apart x =
        let v = text s Low false e in
        let (two, within) = and_parts (is_expr_of s.bits 16 e && nat_le (length places) 65536) (list_all (λ place. nat_lt place (length graph.blocks)) places) (exit-formed (inner.Switch e places) is) in
        let z = end-expr e Low 16 (and_parts (is_expr_of s.bits 16 e) (nat_le (length places) 65536) two).0 (only-of (AreNamed s) spelled.reads (inner.Switch e places) e is refl) in
        subst (λ exit. IsFineItem around (plan.Switch b arms) (tree.Switch (text_of_choice s exit) bodies tree.no_arms)) (sym is) (record {
          writable = and_from (is_writable_expr v) ((has_arm bodies || false) && (are_writable_arms (in_switch around) bodies && true)) z.writable
              (and_from (has_arm bodies || false) (are_writable_arms (in_switch around) bodies && true) (or_left (has_arm bodies) false (x.some ∙ some))
              (and_from (are_writable_arms (in_switch around) bodies) true x.writable refl));
          marked = refl;
          pass = and_from (passes (tree.Switch v bodies tree.no_arms)) (list_all passes (arm_stmts bodies ++ []))
              (passes-from (tree.Switch v bodies tree.no_arms)
              (and_from (is_switch_value (declared_in whole f) v) (differ (cases_of bodies) && true)
              (ap (λ t. elim t [ Some type ↦ not type.pointer && is_word_base (promoted_type type.base) | None ↦ false ]) z.typed ∙ z.narrow (omega arith))
              (and_from (differ (cases_of bodies)) true (ap differ x.cases ∙ apart) refl))
              (end-shallow e Low (only-of (IsLow levels) spelled.shallow (inner.Switch e places) e is refl)) refl)
              (ap (list_all passes) (append-nil (arm_stmts bodies)) ∙ x.pass);
          labels = subst (λ stmts. HaveLabels stmts (arm_marks arms)) (sym (append-nil (arm_stmts bodies))) x.labels;
        })

    return-fine : (around : Around) (values : List inner.Expr) → block.exit ≡ inner.Ret values → IsFineItem around (plan.Return b) (text_of_return s block.exit)
    return-fine around values is =
        let may = All-get_or (λ (x : inner.Block). may_return f.result x.exit ≡ true) graph.blocks b no_block inside returned in
        subst (λ exit. IsFineItem around (plan.Return b) (text_of_return s exit)) (sym is)
        (by values f.result refl (exit-formed (inner.Ret values) is) (ap (may_return f.result) (sym is) ∙ may)
        (subst (λ exit. All (AreNamed s) (exit_exprs exit)) is (of-end (AreNamed s) spelled.reads)) (subst (λ exit. All (IsLow levels) (exit_exprs exit)) is (of-end (IsLow levels) spelled.shallow)))
      where
        by : (values : List inner.Expr) (result : Option CType) → f.result ≡ result → list_all (is_expr s.bits) values ≡ true → may_give result values ≡ true → All (AreNamed s) values
            → All (IsLow levels) values → IsFineItem around (plan.Return b) (ret_text s values)
        by [] None none formed may reads low = record {
          writable = refl;
          marked = refl;
          pass = and_from (passes (tree.Return None)) true (passes-from (tree.Return None) (ap (λ r. not (is_some r)) none) refl refl) refl;
          labels = IsPermutation-refl [];
        }
        by [] (Some type) some formed may reads low = absurd (true≢false (sym may))
        by (e ∷ es) None none formed may reads low = absurd (true≢false (sym may))
        by (e ∷ es) (Some type) some formed may reads low =
            let v = text s Low false e in
            let z = text-allowed (declared_in whole f) s declared e Low false (and_parts (is_expr s.bits e) (list_all (is_expr s.bits) es) formed).0 (All-head (AreNamed s) e es reads) in
            record {
              writable = z.writable;
              marked = refl;
              pass = and_from (passes (tree.Return (Some v))) true
                  (passes-from (tree.Return (Some v))
                  (ap (λ r. elim r [ Some to ↦ fits (declared_in whole f) to v | None ↦ false ]) some ∙ ap (λ t. elim t [ Some from ↦ converts from type | None ↦ false ]) z.typed
                  ∙ ap (λ p. if p then same_type (plain z.base) type else true) (not-true type.pointer may)) (end-shallow e Low (All-head (IsLow levels) e es low)) refl) refl;
              labels = IsPermutation-refl [];
            }

  -- The whole text.

  -- a valid plan that may stand in a block
  abbrev MayBe : Around → Context → Plan → Type 0
  MayBe around c plan = IsValid graph all plan c × (may_stand around false plan ≡ true)

  mutual
    fine : {plan : Plan} {lines : Lines} (around : Around) (labelled : Bool) (c : Context) → IsPlanText s graph plan lines → IsValid graph all plan c → may_stand around labelled plan ≡ true
        → IsFine around labelled plan lines
    fine around labelled c nothing valid stands = record { writable = stands; pass = refl; labels = IsPermutation-refl [] }
    fine around labelled c (one_more {i = i} {stmt = stmt} {plan = plan} {lines = lines} is rest) valid stands =
        let (few, inside) = and_parts (nat_le around.blocks 200) (item_may_stand around i && may_stand around (is_mark i) plan) stands in
        let (here, later) = and_parts (item_may_stand around i) (may_stand around (is_mark i) plan) inside in
        let x = item-fine around c plan is valid.0 here in
        let y = fine around (is_mark i) c rest valid.1 later in record {
          writable = and_from (nat_le around.blocks 200) (is_writable_stmt around stmt && are_writable_lines around (is_label stmt) lines) few
              (and_from (is_writable_stmt around stmt) (are_writable_lines around (is_label stmt) lines) x.writable (ap (λ l. are_writable_lines around l lines) x.marked ∙ y.writable));
          pass = both-pass (stmt ∷ inner_stmts stmt) (stmts_in lines) x.pass y.pass;
          labels = both-labels (stmt ∷ inner_stmts stmt) (stmts_in lines) (item_marks i) (marks plan) x.labels y.labels;
        }

    item-fine : {i : Item} {stmt : Stmt} (around : Around) (c : Context) (rest : Plan) → IsItemText s graph i stmt → IsValidItem graph all i rest c → item_may_stand around i ≡ true
        → IsFineItem around i stmt
    item-fine around c rest (planned.does {b = b} {m = m}) (inside, less, l) stands = do-fine b inside around m less
    item-fine around c rest (planned.marks {b = b}) (inside, l) stands = record { writable = label-word graph.blocks b; marked = refl; pass = refl; labels = IsPermutation-refl (label graph well b ∷ []) }
    item-fine around c rest (planned.jumps {b = b}) (inside, there) stands = record {
      writable = label-word graph.blocks b;
      marked = refl;
      pass = and_from (is_among known (label graph well b) && true) true (and_from (is_among known (label graph well b)) true (label-among graph well b (marks all) there) refl) refl;
      labels = IsPermutation-refl [];
    }
    item-fine around c rest (planned.tests {b = b} {one = one} {other = two} {first = first} {second = second} is also) (test, yes_place, no_place, exit, inside, first_leads, first_valid, second_leads, second_valid) stands =
        let (left, right) = and_parts (may_stand (in_block around) false one) (may_stand (in_block around) false two) stands in
        let on = is_true_first graph one two in
        let may_be : (turn : Bool) → MayBe (in_block around) (in_sides graph rest c) (side turn one two) =
        λ turn. side-has (MayBe (in_block around) (in_sides graph rest c)) turn one two (first_valid, left) (second_valid, right) in
        let x = may_be on in
        let y = may_be (not on) in
        test-fine b inside around on one two (side on one two) (side (not on) one two) first second test yes_place no_place exit
        (fine (in_block around) false _ is x.0 x.1) (fine (in_block around) false _ also y.0 y.1) (sides-marked on one two)
    item-fine around c rest (planned.chooses {b = b} {arms = arms} {bodies = bodies} are) (e, places, exit, inside, lead, valid) stands =
        let (some, others) = and_parts (has_an_arm arms) (differ (all_cases arms) && arms_may_stand (in_switch around) arms) stands in
        let (apart, stand) = and_parts (differ (all_cases arms)) (arms_may_stand (in_switch around) arms) others in
        choice-fine b inside around arms bodies e places exit some apart (arms-fine (in_switch around) _ are valid stand)
    item-fine around c rest (planned.returns {b = b}) (values, exit, inside) stands = return-fine b inside around values exit
    item-fine around c rest (planned.repeats {b = b} {body = body} {lines = lines} is) (inside, l, valid) stands =
        let x = fine (in_loop around) false _ is valid stands in
        record { writable = x.writable; marked = refl; pass = x.pass; labels = x.labels }
    item-fine around c rest (planned.tests_first {on = on} {b = b} {body = body} {lines = lines} is) (test, yes_place, no_place, exit, inside, none, l, valid, leaves) stands =
        while-fine b inside around on body lines test yes_place no_place exit (fine (in_loop around) false _ is valid stands)
    item-fine around c rest (planned.tests_last {on = on} {b = b} {head = head} {body = body} {lines = lines} is) (test, yes_place, no_place, exit, inside, _, starts, first, l, valid, leaves) stands =
        do-while-fine b inside around on head body lines test yes_place no_place exit (fine (in_loop around) false _ is valid stands)
    item-fine around c rest planned.breaks valid stands = record { writable = stands; marked = refl; pass = refl; labels = IsPermutation-refl [] }
    item-fine around c rest planned.continues valid stands = record { writable = stands; marked = refl; pass = refl; labels = IsPermutation-refl [] }
    item-fine around c rest planned.does_nothing valid stands = record { writable = refl; marked = refl; pass = refl; labels = IsPermutation-refl [] }

    arms-fine : {arms : Arms} {bodies : tree.Arms} (around : Around) (c : Context) → AreArmsText s graph arms bodies → AreValidArms graph all arms c → arms_may_stand around arms ≡ true
        → AreFineArms around arms bodies
    arms-fine around c no_more valid stand = record { writable = refl; pass = refl; labels = IsPermutation-refl []; cases = refl; some = refl }
    arms-fine around c (next_arm {cases = cases} {body = body} {arms = arms} {lines = lines} {bodies = bodies} is others) valid stand =
        let (few, inside) = and_parts (nat_le around.blocks 200) (are_cases cases && (may_stand around false body && arms_may_stand around arms)) stand in
        let (own, below) = and_parts (are_cases cases) (may_stand around false body && arms_may_stand around arms) inside in
        let (here, later) = and_parts (may_stand around false body) (arms_may_stand around arms) below in
        let x = fine around false c is valid.0 here in
        let y = arms-fine around c others valid.1 later in record {
          writable = and_from (nat_le around.blocks 200) (are_cases cases && (are_writable_lines around false lines && are_writable_arms around bodies)) few
              (and_from (are_cases cases) (are_writable_lines around false lines && are_writable_arms around bodies) own
              (and_from (are_writable_lines around false lines) (are_writable_arms around bodies) x.writable y.writable));
          pass = both-pass (stmts_in lines) (arm_stmts bodies) x.pass y.pass;
          labels = both-labels (stmts_in lines) (arm_stmts bodies) (marks body) (arm_marks arms) x.labels y.labels;
          cases = ap (λ ns. cases ++ ns) y.cases;
          some = refl;
        }

-- Each part of a test.

first-of-all : {X : Type 0} (p q : X → Bool) (xs : List X) → list_all (λ x. p x && q x) xs ≡ true → list_all p xs ≡ true
first-of-all p q [] is = refl
first-of-all p q (x ∷ xs) is =
    let (here, later) = and_parts (p x && q x) (list_all (λ x. p x && q x) xs) is in
    and_from (p x) (list_all p xs) (and_parts (p x) (q x) here).0 (first-of-all p q xs later)

second-of-all : {X : Type 0} (p q : X → Bool) (xs : List X) → list_all (λ x. p x && q x) xs ≡ true → list_all q xs ≡ true
second-of-all p q [] is = refl
second-of-all p q (x ∷ xs) is =
    let (here, later) = and_parts (p x && q x) (list_all (λ x. p x && q x) xs) is in
    and_from (q x) (list_all q xs) (and_parts (p x) (q x) here).1 (second-of-all p q xs later)

-- a test of all that the elements give
all-given : {X Y : Type 0} (p : Y → Bool) (give : X → List Y) (xs : List X) → list_all (λ x. list_all p (give x)) xs ≡ true → list_all p (flat_map give xs) ≡ true
all-given p give [] is = refl
all-given p give (x ∷ xs) is =
    let (here, later) = and_parts (list_all p (give x)) (list_all (λ x. list_all p (give x)) xs) is in
    list_all-append p (give x) (flat_map give xs) ∙ and_from (list_all p (give x)) (list_all p (flat_map give xs)) here (all-given p give xs later)

-- tests that agree on each element agree on all
all-alike : {X : Type 0} (p q : X → Bool) → ((x : X) → p x ≡ q x) → (xs : List X) → list_all p xs ≡ true → list_all q xs ≡ true
all-alike p q alike [] is = refl
all-alike p q alike (x ∷ xs) is =
    let (here, later) = and_parts (p x) (list_all p xs) is in
    and_from (q x) (list_all q xs) (sym (alike x) ∙ here) (all-alike p q alike xs later)

pub texts-allowed : PlanTextsAreAllowed
texts-allowed whole f s graph plan lines levels limit declared well spelled calls returned enough valid stands is =
    let x = fine whole f s graph levels limit declared well spelled calls returned enough plan outermost false outside is valid.valid stands in
    let names : List Word = map (label graph well) (marks plan) in
    let types = allows_stmt whole f in
    let jumps : Stmt → Bool = λ stmt. list_all (is_among names) (goto_of stmt) in
    let others = second-of-all types (λ stmt. shallow_stmt limit stmt && jumps stmt) (stmts_in lines) x.pass in
    record {
      writable = x.writable;
      labels = and_from (all_differ (labels_in lines)) (list_all (is_among (labels_in lines)) (flat_map goto_of (stmts_in lines)))
          (apart-permuted names (labels_in lines) x.labels (labels-apart graph well (marks plan) (marks-inside graph plan plan outside valid.valid) valid.labels))
          (all-alike (is_among names) (is_among (labels_in lines)) (λ word. list_any-IsPermutation (same_bytes word) names (labels_in lines) x.labels) (flat_map goto_of (stmts_in lines))
          (all-given (is_among names) goto_of (stmts_in lines) (second-of-all (shallow_stmt limit) jumps (stmts_in lines) others)));
      types = first-of-all types (λ stmt. shallow_stmt limit stmt && jumps stmt) (stmts_in lines) x.pass;
      depth = first-of-all (shallow_stmt limit) jumps (stmts_in lines) others;
    }
