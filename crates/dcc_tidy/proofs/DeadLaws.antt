-- A graph without assignments that nothing wants is a tidied one.
use Rattle.std.proofs.Common.{◌≡◌, ℕ, ◌≤◌, Bool, true, List, [], ◌∷◌, ◌++◌, map, flat_map, refl, sym, ap, ◌∙◌, subst, true≢false, arith}
use Rattle.std.specs.Prelude.{All}
use Rattle.std.specs.List.{list_all, AllZip}
use Rattle.std.proofs.lemmas.Bool.{and_parts, and_from}
use Rattle.std.proofs.lemmas.List.Elements.{All-nil, All-cons, All-head, All-tail, All-append}
use Rattle.dcc_run.proofs.KeptLaws.{right_part}
use Rattle.dcc_ir.specs.declared.syntax.Loc.{Loc}
use Rattle.dcc_ir.specs.Demand.{is_assignment}
use Rattle.dcc_ir.specs.Families.{Family, needed, IsWithout, done, stays, goes, IsBlockWithout, IsGraphWithout}
use Rattle.dcc_ir.specs.Flow.{targets}
use Rattle.dcc_ir.specs.Measure.{depth_of, deepest}
use Rattle.dcc_ir.specs.Tree.{Expr, Stmt, Set, Fetch, Store, Div, Call, Dos, Block, Graph}
use Rattle.dcc_ir.specs.Use.{addresses_of, exprs_of, exit_exprs, block_exprs, graph_exprs}
use Rattle.dcc_ir.specs.WellFormed.{is_jump, ret_widths, IsGraph}
use Rattle.dcc_ir.proofs.FamilyLaws.{needed-closed}
use Rattle.dcc_ir.proofs.ListLaws.{left_part}
use Rattle.dcc_ir.proofs.passes.ReplaceLaws.{kept_with}
use Rattle.dcc_ir.proofs.ZipLaws.{any_zipped, weaker_zipped}
use Rattle.dcc_live.specs.Dead.{IsWithoutUnneeded}
use Rattle.dcc_passes.specs.Kinds.{param_kind, call_kinds, BlockStaysInKind, StaysInKind}
use Rattle.dcc_passes.specs.Replaced.{StandsFor}
use Rattle.dcc_passes.specs.Tidied.{takes_apart, IsTidied}
use Rattle.dcc_passes.proofs.ReplacedLaws.{stands-for}
use Rattle.std.specs.Prelude.{◌==◌}

-- The graph stands for the other.

pub dead-stands : (g h : Graph) → IsWithoutUnneeded g h → StandsFor g h
dead-stands g h is =
    stands-for g h is.without.entry
    (λ at has.
    sym (any_zipped (IsBlockWithout (needed g)) (λ b. b.at == at) (λ b. b.at == at) (λ b c pair. ap (λ n. n == at) pair.at)
    g.blocks h.blocks is.without.blocks) ∙ has)
    (λ p formed there. kept_with p (needed g) g h formed there (needed-closed g) is.without)

-- Calls are left.

assignment-none : (bits : List ℕ) (stmt : Stmt) → is_assignment stmt ≡ true → call_kinds bits stmt ≡ []
assignment-none bits (Set l e) is = refl
assignment-none bits (Fetch l width a) is = refl
assignment-none bits (Store width a e) is = refl
assignment-none bits (Div l e) is = refl
assignment-none bits (Dos number place argument) is = refl
assignment-none bits (Call results entry arguments depth) is = absurd (true≢false (sym is))

calls-left : {Has : List Stmt → Loc → Type 0} (bits : List ℕ) {xs ys : List Stmt} → IsWithout Has xs ys
    → flat_map (call_kinds bits) ys ≡ flat_map (call_kinds bits) xs
calls-left bits done = refl
calls-left bits (stays {stmt = stmt} others) = ap (λ ks. call_kinds bits stmt ++ ks) (calls-left bits others)
calls-left bits (goes {stmt = stmt} {rest = rest} is none others) =
    calls-left bits others ∙ ap (λ ks. ks ++ flat_map (call_kinds bits) rest) (sym (assignment-none bits stmt is))

block-kind : (family : Family) (bits : List ℕ) (b c : Block) → IsBlockWithout family b c → BlockStaysInKind bits bits b c
block-kind family bits b c is = record {
  at = is.at;
  targets_are = ap targets is.exit;
  jumps = ap is_jump is.exit;
  given = ap (ret_widths bits) is.exit;
  calls = calls-left bits is.stmts;
}

without-kind : (family : Family) (g h : Graph) → IsGraphWithout family g h → StaysInKind g h
without-kind family g h is =
    subst (λ bits. StaysInKind g (record h { bits = bits })) (sym is.bits) (record {
      entry = is.entry;
      params = ap (map (param_kind g.bits)) is.params;
      local = is.local;
      pushed = is.pushed;
      blocks =
          weaker_zipped (IsBlockWithout family) (BlockStaysInKind g.bits g.bits) (block-kind family g.bits) g.blocks
          h.blocks is.blocks;
    })

-- Expressions are those of the graph.

module _ (Q : Expr → Type 0) (family : Family) where
  stmts-stay : {Has : List Stmt → Loc → Type 0} {xs ys : List Stmt} → IsWithout Has xs ys
      → All Q (flat_map exprs_of xs) → All Q (flat_map exprs_of ys)
  stmts-stay done all = all
  stmts-stay (stays {stmt = stmt} {rest = rest} {rest' = left} others) all =
      All-append Q (exprs_of stmt) (flat_map exprs_of left) (left_part Q (exprs_of stmt) (flat_map exprs_of rest) all)
      (stmts-stay others (right_part Q (exprs_of stmt) (flat_map exprs_of rest) all))
  stmts-stay (goes {stmt = stmt} {rest = rest} is none others) all =
      stmts-stay others (right_part Q (exprs_of stmt) (flat_map exprs_of rest) all)

  block-stays : (b c : Block) → IsBlockWithout family b c → All Q (block_exprs b) → All Q (block_exprs c)
  block-stays b c is all =
      All-append Q (flat_map exprs_of c.stmts) (exit_exprs c.exit)
      (stmts-stay is.stmts (left_part Q (flat_map exprs_of b.stmts) (exit_exprs b.exit) all))
      (subst (λ exit. All Q (exit_exprs exit)) (sym is.exit)
      (right_part Q (flat_map exprs_of b.stmts) (exit_exprs b.exit) all))

  blocks-stay : (bs cs : List Block) → AllZip (IsBlockWithout family) bs cs → All Q (flat_map block_exprs bs)
      → All Q (flat_map block_exprs cs)
  blocks-stay [] [] left all = all
  blocks-stay [] (c ∷ cs) left all = absurd left
  blocks-stay (b ∷ bs) [] left all = absurd left
  blocks-stay (b ∷ bs) (c ∷ cs) left all =
      All-append Q (block_exprs c) (flat_map block_exprs cs)
      (block-stays b c left.0 (left_part Q (block_exprs b) (flat_map block_exprs bs) all))
      (blocks-stay bs cs left.1 (right_part Q (block_exprs b) (flat_map block_exprs bs) all))

module _ (test : ℕ → Bool) where
  abbrev Passes : Expr → Type 0
  Passes e = list_all test (addresses_of e) ≡ true

  pub each-passes : (es : List Expr) → list_all (λ e. list_all test (addresses_of e)) es ≡ true → All Passes es
  each-passes [] is = All-nil Passes
  each-passes (e ∷ es) is =
      let parts = and_parts (list_all test (addresses_of e)) (list_all (λ e. list_all test (addresses_of e)) es) is in
      All-cons Passes e es parts.0 (each-passes es parts.1)

  pub all-pass : (es : List Expr) → All Passes es → list_all (λ e. list_all test (addresses_of e)) es ≡ true
  all-pass [] all = refl
  all-pass (e ∷ es) all =
      and_from (list_all test (addresses_of e)) (list_all (λ e. list_all test (addresses_of e)) es)
      (All-head Passes e es all) (all-pass es (All-tail Passes e es all))

pub deepest-of : (n : ℕ) (es : List Expr) → All (λ e. depth_of e ≤ n) es → deepest es ≤ n
deepest-of n [] all = omega arith
deepest-of n (e ∷ es) all =
    let here = All-head (λ x. depth_of x ≤ n) e es all in
    let later = deepest-of n es (All-tail (λ x. depth_of x ≤ n) e es all) in
    omega (arith, here, later)

pub none-deeper : (n : ℕ) (es : List Expr) → deepest es ≤ n → All (λ e. depth_of e ≤ n) es
none-deeper n [] less = All-nil (λ e. depth_of e ≤ n)
none-deeper n (e ∷ es) less =
    All-cons (λ x. depth_of x ≤ n) e es (omega (arith, less)) (none-deeper n es (omega (arith, less)))

-- What is left is tidied, and no deeper.

pub dead-tidied : (g h : Graph) → IsGraph h → IsWithoutUnneeded g h → IsTidied g h
dead-tidied g h formed is = record {
  formed = formed;
  stands = dead-stands g h is;
  kind = without-kind (needed g) g h is.without;
  addresses = λ test passes.
      all-pass test (graph_exprs h)
      (blocks-stay (Passes test) (needed g) g.blocks h.blocks is.without.blocks (each-passes test (graph_exprs g) passes));
  apart = λ differ. ap (λ params. takes_apart (record g { params = params })) is.without.params ∙ differ;
}

pub dead-depth : (g h : Graph) → IsWithoutUnneeded g h → deepest (graph_exprs h) ≤ deepest (graph_exprs g)
dead-depth g h is =
    let most = deepest (graph_exprs g) in
    deepest-of most (graph_exprs h)
    (blocks-stay (λ e. depth_of e ≤ most) (needed g) g.blocks h.blocks is.without.blocks
    (none-deeper most (graph_exprs g) (omega arith)))
