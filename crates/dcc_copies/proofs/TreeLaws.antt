-- Trees with names in the place of locations: their addresses, their depth, what holds of their expressions, and the
-- locations that they mention.
use Rattle.std.proofs.Common.{◌≡◌, ℕ, suc, Bool, true, false, ◌&&◌, List, [], ◌∷◌, ◌++◌, map, flat_map, Some, None, refl, sym, ap, ap₂, ◌∙◌, subst}
use Rattle.std.specs.Prelude.{if◌then◌else◌, max, All}
use Rattle.std.specs.List.{list_all}
use Rattle.std.proofs.lemmas.Bool.{and_parts, and_from}
use Rattle.std.proofs.lemmas.List.{map-append}
use Rattle.std.proofs.lemmas.List.Concat.{flat_map-append}
use Rattle.std.proofs.lemmas.List.Folds.{list_all-append}
use Rattle.std.proofs.lemmas.List.Elements.{All-nil, All-cons, All-head, All-tail, All-append}
use Rattle.dcc_run.proofs.KeptLaws.{right_part}
use Rattle.dcc_ir.specs.declared.syntax.Loc.{Loc}
use Rattle.dcc_ir.specs.Measure.{depth_of}
use Rattle.dcc_ir.specs.Tree.{Expr, Const, Get, Load, Unary, Binary, Widen, Part, Join, Choose, Address, Stmt, Set, Fetch, Store, Div, Call, Dos, Exit, Goto, If, Switch, Ret, Stop, Block, Graph}
use Rattle.dcc_ir.specs.Use.{parts_of, got_by, reads_of, addressed_by, addresses_of, exprs_of, writes_of, exit_exprs, block_exprs, graph_exprs}
use Rattle.dcc_ir.proofs.ListLaws.{left_part}
use Rattle.dcc_flow.specs.Mentions.{stmt_mentions, block_mentions, graph_mentions}
use Rattle.dcc_passes.specs.Renaming.{renamed, renamed_stmt, renamed_exit}
use Rattle.dcc_copies.specs.Held.{is_own_copy}
use Rattle.dcc_copies.specs.Settled.{settled_stmts, settled_block, settled}

module _ (name : Loc → Loc) where
  -- what the parts of two expressions give is that of both
  two : {A : Type 0} (f : Expr → List A) (g : List A → List A) → ((xs ys : List A) → g (xs ++ ys) ≡ g xs ++ g ys) → (a b : Expr)
      → flat_map f (parts_of (renamed name a)) ≡ g (flat_map f (parts_of a))
      → flat_map f (parts_of (renamed name b)) ≡ g (flat_map f (parts_of b))
      → flat_map f (parts_of (renamed name a) ++ parts_of (renamed name b)) ≡ g (flat_map f (parts_of a ++ parts_of b))
  two f g over a b one other =
      flat_map-append f (parts_of (renamed name a)) (parts_of (renamed name b)) ∙ ap₂ (λ xs ys. xs ++ ys) one other
      ∙ sym (over (flat_map f (parts_of a)) (flat_map f (parts_of b))) ∙ ap g (sym (flat_map-append f (parts_of a) (parts_of b)))

  three : {A : Type 0} (f : Expr → List A) (g : List A → List A) → ((xs ys : List A) → g (xs ++ ys) ≡ g xs ++ g ys) → (a b c : Expr)
      → flat_map f (parts_of (renamed name a)) ≡ g (flat_map f (parts_of a))
      → flat_map f (parts_of (renamed name b)) ≡ g (flat_map f (parts_of b))
      → flat_map f (parts_of (renamed name c)) ≡ g (flat_map f (parts_of c))
      → flat_map f (parts_of (renamed name a) ++ parts_of (renamed name b) ++ parts_of (renamed name c)) ≡ g (flat_map f (parts_of a ++ parts_of b ++ parts_of c))
  three f g over a b c one other third =
      flat_map-append f (parts_of (renamed name a) ++ parts_of (renamed name b)) (parts_of (renamed name c))
      ∙ ap₂ (λ xs ys. xs ++ ys) (two f g over a b one other) third
      ∙ sym (over (flat_map f (parts_of a ++ parts_of b)) (flat_map f (parts_of c)))
      ∙ ap g (sym (flat_map-append f (parts_of a ++ parts_of b) (parts_of c)))

  pub addresses-named : (e : Expr) → addresses_of (renamed name e) ≡ addresses_of e
  addresses-named (Const width n) = refl
  addresses-named (Get location) = refl
  addresses-named (Load width a) = addresses-named a
  addresses-named (Unary operator width a) = addresses-named a
  addresses-named (Binary operator width a b) = two addressed_by (λ ns. ns) (λ xs ys. refl) a b (addresses-named a) (addresses-named b)
  addresses-named (Widen signed width a) = addresses-named a
  addresses-named (Part width first a) = addresses-named a
  addresses-named (Join high low) = two addressed_by (λ ns. ns) (λ xs ys. refl) high low (addresses-named high) (addresses-named low)
  addresses-named (Choose test a b) =
      three addressed_by (λ ns. ns) (λ xs ys. refl) test a b (addresses-named test) (addresses-named a) (addresses-named b)
  addresses-named (Address distance) = refl

  pub depth-named : (e : Expr) → depth_of (renamed name e) ≡ depth_of e
  depth-named (Const width n) = refl
  depth-named (Get location) = refl
  depth-named (Load width a) = ap suc (depth-named a)
  depth-named (Unary operator width a) = ap suc (depth-named a)
  depth-named (Binary operator width a b) = ap₂ (λ m n. suc (max m n)) (depth-named a) (depth-named b)
  depth-named (Widen signed width a) = ap suc (depth-named a)
  depth-named (Part width first a) = ap suc (depth-named a)
  depth-named (Join high low) = ap₂ (λ m n. suc (max m n)) (depth-named high) (depth-named low)
  depth-named (Choose test a b) =
      ap₂ (λ m n. suc (max m n)) (depth-named test) (ap₂ (λ m n. max m n) (depth-named a) (depth-named b))
  depth-named (Address distance) = refl

  reads-named : (e : Expr) → reads_of (renamed name e) ≡ map name (reads_of e)
  reads-named (Const width n) = refl
  reads-named (Get location) = refl
  reads-named (Load width a) = reads-named a
  reads-named (Unary operator width a) = reads-named a
  reads-named (Binary operator width a b) = two got_by (map name) (map-append name) a b (reads-named a) (reads-named b)
  reads-named (Widen signed width a) = reads-named a
  reads-named (Part width first a) = reads-named a
  reads-named (Join high low) = two got_by (map name) (map-append name) high low (reads-named high) (reads-named low)
  reads-named (Choose test a b) =
      three got_by (map name) (map-append name) test a b (reads-named test) (reads-named a) (reads-named b)
  reads-named (Address distance) = refl

  -- the expressions of a renamed statement and of a renamed end
  stmt-exprs : (stmt : Stmt) → exprs_of (renamed_stmt name name stmt) ≡ map (renamed name) (exprs_of stmt)
  stmt-exprs (Set location e) = refl
  stmt-exprs (Fetch location width address) = refl
  stmt-exprs (Store width address e) = refl
  stmt-exprs (Div location e) = refl
  stmt-exprs (Call results entry arguments depth) = refl
  stmt-exprs (Dos number place None) = refl
  stmt-exprs (Dos number place (Some e)) = refl

  end-exprs : (exit : Exit) → exit_exprs (renamed_exit name exit) ≡ map (renamed name) (exit_exprs exit)
  end-exprs (Goto place) = refl
  end-exprs (If test one other) = refl
  end-exprs (Switch e places) = refl
  end-exprs (Ret values) = refl
  end-exprs Stop = refl

  -- What holds of expressions, and of them with names.

  module _ (Q : Expr → Type 0) (stays : (e : Expr) → Q e → Q (renamed name e)) where
    each-named : (es : List Expr) → All Q es → All Q (map (renamed name) es)
    each-named [] all = All-nil Q
    each-named (e ∷ es) all =
        All-cons Q (renamed name e) (map (renamed name) es) (stays e (All-head Q e es all)) (each-named es (All-tail Q e es all))

    stmts-named : (stmts : List Stmt) → All Q (flat_map exprs_of stmts) → All Q (flat_map exprs_of (settled_stmts name stmts))
    stmts-named [] all = all
    stmts-named (stmt ∷ rest) all =
        by (is_own_copy name stmt) (stmts-named rest (right_part Q (exprs_of stmt) (flat_map exprs_of rest) all))
      where
        by : (b : Bool) → All Q (flat_map exprs_of (settled_stmts name rest)) → All Q (flat_map exprs_of (if b then settled_stmts name rest else renamed_stmt name name stmt ∷ settled_stmts name rest))
        by true later = later
        by false later =
            All-append Q (exprs_of (renamed_stmt name name stmt)) (flat_map exprs_of (settled_stmts name rest))
            (subst (All Q) (sym (stmt-exprs stmt)) (each-named (exprs_of stmt) (left_part Q (exprs_of stmt) (flat_map exprs_of rest) all))) later

    blocks-named : (blocks : List Block) → All Q (flat_map block_exprs blocks) → All Q (flat_map block_exprs (map (settled_block name) blocks))
    blocks-named [] all = all
    blocks-named (b ∷ blocks) all =
        let here = left_part Q (block_exprs b) (flat_map block_exprs blocks) all in
        All-append Q (block_exprs (settled_block name b)) (flat_map block_exprs (map (settled_block name) blocks))
        (All-append Q (flat_map exprs_of (settled_stmts name b.stmts)) (exit_exprs (renamed_exit name b.exit))
        (stmts-named b.stmts (left_part Q (flat_map exprs_of b.stmts) (exit_exprs b.exit) here))
        (subst (All Q) (sym (end-exprs b.exit)) (each-named (exit_exprs b.exit) (right_part Q (flat_map exprs_of b.stmts) (exit_exprs b.exit) here))))
        (blocks-named blocks (right_part Q (block_exprs b) (flat_map block_exprs blocks) all))

    pub all-named : (graph : Graph) → All Q (graph_exprs graph) → All Q (graph_exprs (settled name graph))
    all-named graph all = blocks-named graph.blocks all

  -- What holds of the locations that are mentioned, and of their names.

  module _ (p : Loc → Bool) (stays : (l : Loc) → p (name l) ≡ p l) where
    abbrev All-are : List Loc → Type 0
    All-are ls = list_all p ls ≡ true

    parts-are : (xs ys : List Loc) → All-are (xs ++ ys) → (list_all p xs ≡ true) × (list_all p ys ≡ true)
    parts-are xs ys all = and_parts (list_all p xs) (list_all p ys) (sym (list_all-append p xs ys) ∙ all)

    both-are : (xs ys : List Loc) → All-are xs → All-are ys → All-are (xs ++ ys)
    both-are xs ys one other = list_all-append p xs ys ∙ and_from (list_all p xs) (list_all p ys) one other

    names-are : (ls : List Loc) → All-are ls → All-are (map name ls)
    names-are [] all = refl
    names-are (l ∷ ls) all =
        let parts = and_parts (p l) (list_all p ls) all in
        and_from (p (name l)) (list_all p (map name ls)) (stays l ∙ parts.0) (names-are ls parts.1)

    reads-are : (es : List Expr) → All-are (flat_map reads_of es) → All-are (flat_map reads_of (map (renamed name) es))
    reads-are [] all = refl
    reads-are (e ∷ es) all =
        let parts = parts-are (reads_of e) (flat_map reads_of es) all in
        both-are (reads_of (renamed name e)) (flat_map reads_of (map (renamed name) es))
        (subst All-are (sym (reads-named e)) (names-are (reads_of e) parts.0)) (reads-are es parts.1)

    writes-named : (stmt : Stmt) → writes_of (renamed_stmt name name stmt) ≡ map name (writes_of stmt)
    writes-named (Set location e) = refl
    writes-named (Fetch location width address) = refl
    writes-named (Store width address e) = refl
    writes-named (Div location e) = refl
    writes-named (Call results entry arguments depth) = refl
    writes-named (Dos number None argument) = refl
    writes-named (Dos number (Some location) argument) = refl

    stmt-are : (stmt : Stmt) → All-are (stmt_mentions stmt) → All-are (stmt_mentions (renamed_stmt name name stmt))
    stmt-are stmt all =
        let parts = parts-are (flat_map reads_of (exprs_of stmt)) (writes_of stmt) all in
        both-are (flat_map reads_of (exprs_of (renamed_stmt name name stmt))) (writes_of (renamed_stmt name name stmt))
        (subst (λ es. All-are (flat_map reads_of es)) (sym (stmt-exprs stmt)) (reads-are (exprs_of stmt) parts.0))
        (subst All-are (sym (writes-named stmt)) (names-are (writes_of stmt) parts.1))

    stmts-are : (stmts : List Stmt) → All-are (flat_map stmt_mentions stmts) → All-are (flat_map stmt_mentions (settled_stmts name stmts))
    stmts-are [] all = refl
    stmts-are (stmt ∷ rest) all =
        let parts = parts-are (stmt_mentions stmt) (flat_map stmt_mentions rest) all in
        by (is_own_copy name stmt) parts.0 (stmts-are rest parts.1)
      where
        by : (b : Bool) → All-are (stmt_mentions stmt) → All-are (flat_map stmt_mentions (settled_stmts name rest)) → All-are (flat_map stmt_mentions (if b then settled_stmts name rest else renamed_stmt name name stmt ∷ settled_stmts name rest))
        by true here later = later
        by false here later =
            both-are (stmt_mentions (renamed_stmt name name stmt)) (flat_map stmt_mentions (settled_stmts name rest))
            (stmt-are stmt here) later

    blocks-are : (blocks : List Block) → All-are (flat_map block_mentions blocks) → All-are (flat_map block_mentions (map (settled_block name) blocks))
    blocks-are [] all = refl
    blocks-are (b ∷ blocks) all =
        let parts = parts-are (block_mentions b) (flat_map block_mentions blocks) all in
        let here = parts-are (flat_map stmt_mentions b.stmts) (flat_map reads_of (exit_exprs b.exit)) parts.0 in
        both-are (block_mentions (settled_block name b)) (flat_map block_mentions (map (settled_block name) blocks))
        (both-are (flat_map stmt_mentions (settled_stmts name b.stmts)) (flat_map reads_of (exit_exprs (renamed_exit name b.exit)))
        (stmts-are b.stmts here.0)
        (subst (λ es. All-are (flat_map reads_of es)) (sym (end-exprs b.exit)) (reads-are (exit_exprs b.exit) here.1)))
        (blocks-are blocks parts.1)

    pub mentions-settled : (places : List Loc) (graph : Graph) → All-are (places ++ graph_mentions graph) → All-are (places ++ graph_mentions (settled name graph))
    mentions-settled places graph all =
        let parts = parts-are places (graph_mentions graph) all in
        both-are places (graph_mentions (settled name graph)) parts.0 (blocks-are graph.blocks parts.1)
