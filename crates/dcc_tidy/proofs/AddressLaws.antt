-- Where a graph takes no address that is told from no parameter, what is tidied of it takes none.
use Rattle.std.proofs.Common.{◌≡◌, ℕ, Bool, true, false, List, [], ◌∷◌, flat_map, Option, refl, sym, ap}
use Rattle.std.specs.Prelude.{All, not}
use Rattle.std.specs.List.{list_all, list_any}
use Rattle.std.proofs.lemmas.Bool.{and_parts, and_from, or_parts, or_from}
use Rattle.std.proofs.lemmas.List.Elements.{All-nil, All-cons, All-head, All-tail, All-append}
use Rattle.dcc_run.proofs.KeptLaws.{right_part}
use Rattle.dcc_ir.specs.Tree.{Expr, Const, Get, Load, Unary, Binary, Widen, Part, Join, Choose, Address, Stmt, Block, Graph}
use Rattle.dcc_ir.specs.Use.{parts_of, addressed_by, addresses_of, exprs_of, exit_exprs, block_exprs, graph_exprs}
use Rattle.dcc_ir.proofs.ListLaws.{left_part}
use Rattle.dcc_passes.specs.Tidied.{IsTidied}
use Rattle.dcc_variables.specs.Variables.{is_told_from, is_address, has_address, stmt_has_address, block_has_address, takes_address}
use Rattle.dcc_tidy.proofs.DeadLaws.{each-passes, all-pass}

module _ (told : Option ℕ) where
  abbrev FromParameter : Expr → Type 0
  FromParameter e = list_all (is_told_from told) (addresses_of e) ≡ true

  -- From the test of the text.

  turned : (b : Bool) → not b ≡ false → b ≡ true
  turned true is = refl
  turned false is = sym is

  from-parts : (es : List Expr) → list_any (is_address told) es ≡ false
      → list_all (is_told_from told) (flat_map addressed_by es) ≡ true
  from-parts [] is = refl
  from-parts (Const width n ∷ es) is = from-parts es is
  from-parts (Get l ∷ es) is = from-parts es is
  from-parts (Load width a ∷ es) is = from-parts es is
  from-parts (Unary operator width a ∷ es) is = from-parts es is
  from-parts (Binary operator width a b ∷ es) is = from-parts es is
  from-parts (Widen signed width a ∷ es) is = from-parts es is
  from-parts (Part width first a ∷ es) is = from-parts es is
  from-parts (Join high low ∷ es) is = from-parts es is
  from-parts (Choose choice a b ∷ es) is = from-parts es is
  from-parts (Address distance ∷ es) is =
      let parts = or_parts (not (is_told_from told distance)) (list_any (is_address told) es) is in
      and_from (is_told_from told distance) (list_all (is_told_from told) (flat_map addressed_by es))
      (turned (is_told_from told distance) parts.0) (from-parts es parts.1)

  each-from : (es : List Expr) → list_any (has_address told) es ≡ false → All FromParameter es
  each-from [] is = All-nil FromParameter
  each-from (e ∷ es) is =
      let parts = or_parts (has_address told e) (list_any (has_address told) es) is in
      All-cons FromParameter e es (from-parts (parts_of e) parts.0) (each-from es parts.1)

  stmts-from : (stmts : List Stmt) → list_any (stmt_has_address told) stmts ≡ false
      → All FromParameter (flat_map exprs_of stmts)
  stmts-from [] is = All-nil FromParameter
  stmts-from (stmt ∷ stmts) is =
      let parts = or_parts (stmt_has_address told stmt) (list_any (stmt_has_address told) stmts) is in
      All-append FromParameter (exprs_of stmt) (flat_map exprs_of stmts) (each-from (exprs_of stmt) parts.0)
      (stmts-from stmts parts.1)

  blocks-from : (blocks : List Block) → list_any (block_has_address told) blocks ≡ false
      → All FromParameter (flat_map block_exprs blocks)
  blocks-from [] is = All-nil FromParameter
  blocks-from (b ∷ blocks) is =
      let parts = or_parts (block_has_address told b) (list_any (block_has_address told) blocks) is in
      let here = or_parts (list_any (stmt_has_address told) b.stmts) (list_any (has_address told) (exit_exprs b.exit)) parts.0 in
      All-append FromParameter (block_exprs b) (flat_map block_exprs blocks)
      (All-append FromParameter (flat_map exprs_of b.stmts) (exit_exprs b.exit) (stmts-from b.stmts here.0)
      (each-from (exit_exprs b.exit) here.1))
      (blocks-from blocks parts.1)

  -- And back.

  to-parts : (es : List Expr) → list_all (is_told_from told) (flat_map addressed_by es) ≡ true
      → list_any (is_address told) es ≡ false
  to-parts [] is = refl
  to-parts (Const width n ∷ es) is = to-parts es is
  to-parts (Get l ∷ es) is = to-parts es is
  to-parts (Load width a ∷ es) is = to-parts es is
  to-parts (Unary operator width a ∷ es) is = to-parts es is
  to-parts (Binary operator width a b ∷ es) is = to-parts es is
  to-parts (Widen signed width a ∷ es) is = to-parts es is
  to-parts (Part width first a ∷ es) is = to-parts es is
  to-parts (Join high low ∷ es) is = to-parts es is
  to-parts (Choose choice a b ∷ es) is = to-parts es is
  to-parts (Address distance ∷ es) is =
      let parts = and_parts (is_told_from told distance) (list_all (is_told_from told) (flat_map addressed_by es)) is in
      or_from (not (is_told_from told distance)) (list_any (is_address told) es) (ap not parts.0) (to-parts es parts.1)

  to-each : (es : List Expr) → All FromParameter es → list_any (has_address told) es ≡ false
  to-each [] all = refl
  to-each (e ∷ es) all =
      or_from (has_address told e) (list_any (has_address told) es) (to-parts (parts_of e) (All-head FromParameter e es all))
      (to-each es (All-tail FromParameter e es all))

  to-stmts : (stmts : List Stmt) → All FromParameter (flat_map exprs_of stmts)
      → list_any (stmt_has_address told) stmts ≡ false
  to-stmts [] all = refl
  to-stmts (stmt ∷ stmts) all =
      or_from (stmt_has_address told stmt) (list_any (stmt_has_address told) stmts)
      (to-each (exprs_of stmt) (left_part FromParameter (exprs_of stmt) (flat_map exprs_of stmts) all))
      (to-stmts stmts (right_part FromParameter (exprs_of stmt) (flat_map exprs_of stmts) all))

  to-blocks : (blocks : List Block) → All FromParameter (flat_map block_exprs blocks)
      → list_any (block_has_address told) blocks ≡ false
  to-blocks [] all = refl
  to-blocks (b ∷ blocks) all =
      let here = left_part FromParameter (block_exprs b) (flat_map block_exprs blocks) all in
      or_from (block_has_address told b) (list_any (block_has_address told) blocks)
      (or_from (list_any (stmt_has_address told) b.stmts) (list_any (has_address told) (exit_exprs b.exit))
      (to-stmts b.stmts (left_part FromParameter (flat_map exprs_of b.stmts) (exit_exprs b.exit) here))
      (to-each (exit_exprs b.exit) (right_part FromParameter (flat_map exprs_of b.stmts) (exit_exprs b.exit) here)))
      (to-blocks blocks (right_part FromParameter (block_exprs b) (flat_map block_exprs blocks) all))

  pub none-taken : (g h : Graph) → IsTidied g h → takes_address told g ≡ false → takes_address told h ≡ false
  none-taken g h tidy none =
      to-blocks h.blocks
      (each-passes (is_told_from told) (graph_exprs h)
      (tidy.addresses (is_told_from told)
      (all-pass (is_told_from told) (graph_exprs g) (blocks-from g.blocks none))))
