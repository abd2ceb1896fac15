-- What stays of a graph's expressions and statements where arguments and values given back go.
use Rattle.std.proofs.Common.{◌≡◌, ℕ, suc, Bool, true, false, List, [], ◌∷◌, map, flat_map, refl}
use Rattle.std.specs.Prelude.{All, if◌then◌else◌}
use Rattle.std.specs.List.{list_all}
use Rattle.std.proofs.lemmas.Bool.{and_parts, and_from}
use Rattle.std.proofs.lemmas.List.Elements.{All-cons, All-head, All-tail, All-append}
use Rattle.dcc_run.proofs.KeptLaws.{right_part}
use Rattle.dcc_ir.specs.Tree.{Expr, Stmt, Set, Fetch, Store, Div, Call, Dos, Exit, Goto, If, Switch, Ret, Stop, Block, Graph}
use Rattle.dcc_ir.specs.Use.{exprs_of, exit_exprs, block_exprs, graph_exprs}
use Rattle.dcc_ir.specs.FlagReads.{nests_flatly, loads_plainly, FlagsReadPlainly}
use Rattle.dcc_ir.specs.Trimmed.{Trim, kept, trim_stmt, trim_exit, trim_block, trim_graph}
use Rattle.dcc_ir.proofs.ListLaws.{left_part}

-- Lists.

-- what all elements have, those have that stay
pub kept-all : {A : Type 0} (P : A → Type 0) (stays : ℕ → Bool) (xs : List A) → All P xs → All P (kept stays xs)
kept-all P stays [] all = all
kept-all P stays (x ∷ xs) all = by (stays 0) (kept-all P (λ k. stays (suc k)) xs (All-tail P x xs all))
  where
    by : (b : Bool) → All P (kept (λ k. stays (suc k)) xs)
        → All P (if b then x ∷ kept (λ k. stays (suc k)) xs else kept (λ k. stays (suc k)) xs)
    by true later = All-cons P x (kept (λ k. stays (suc k)) xs) (All-head P x xs all) later
    by false later = later

-- what all parts of the elements have, the parts of the changed ones have
changed-parts : {A E : Type 0} (P : E → Type 0) (f : A → A) (of : A → List E)
    → ((x : A) → All P (of x) → All P (of (f x))) → (xs : List A) → All P (flat_map of xs)
    → All P (flat_map of (map f xs))
changed-parts P f of to [] all = all
changed-parts P f of to (x ∷ xs) all =
    All-append P (of (f x)) (flat_map of (map f xs)) (to x (left_part P (of x) (flat_map of xs) all))
    (changed-parts P f of to xs (right_part P (of x) (flat_map of xs) all))

-- what all elements pass, the changed ones pass
pub changed-pass : {A : Type 0} (test : A → Bool) (f : A → A) → ((x : A) → test x ≡ true → test (f x) ≡ true)
    → (xs : List A) → list_all test xs ≡ true → list_all test (map f xs) ≡ true
changed-pass test f to [] all = refl
changed-pass test f to (x ∷ xs) all =
    let parts = and_parts (test x) (list_all test xs) all in
    and_from (test (f x)) (list_all test (map f xs)) (to x parts.0) (changed-pass test f to xs parts.1)

-- Graphs.

module _ (trim : Trim) where
  stmt-parts : (P : Expr → Type 0) (stmt : Stmt) → All P (exprs_of stmt) → All P (exprs_of (trim_stmt trim stmt))
  stmt-parts P (Call results entry arguments depth) all = kept-all P (trim.takes entry) arguments all
  stmt-parts P (Set location e) all = all
  stmt-parts P (Fetch location width address) all = all
  stmt-parts P (Store width address e) all = all
  stmt-parts P (Div location e) all = all
  stmt-parts P (Dos number place argument) all = all

  pub exit-parts : (P : Expr → Type 0) (entry : ℕ) (exit : Exit) → All P (exit_exprs exit)
      → All P (exit_exprs (trim_exit trim entry exit))
  exit-parts P entry (Ret values) all = kept-all P (trim.gives entry) values all
  exit-parts P entry (Goto next) all = all
  exit-parts P entry (If test one other) all = all
  exit-parts P entry (Switch e places) all = all
  exit-parts P entry Stop all = all

  block-parts : (P : Expr → Type 0) (entry : ℕ) (b : Block) → All P (block_exprs b)
      → All P (block_exprs (trim_block trim entry b))
  block-parts P entry b all =
      All-append P (flat_map exprs_of (map (trim_stmt trim) b.stmts)) (exit_exprs (trim_exit trim entry b.exit))
      (changed-parts P (trim_stmt trim) exprs_of (stmt-parts P) b.stmts
      (left_part P (flat_map exprs_of b.stmts) (exit_exprs b.exit) all))
      (exit-parts P entry b.exit (right_part P (flat_map exprs_of b.stmts) (exit_exprs b.exit) all))

  -- what all expressions of a graph have, those have that are left
  pub trimmed-parts : (P : Expr → Type 0) (g : Graph) → All P (graph_exprs g) → All P (graph_exprs (trim_graph trim g))
  trimmed-parts P g = changed-parts P (trim_block trim g.entry) block_exprs (block-parts P g.entry) g.blocks

  -- calls set no flags by expressions
  flat-stays : (stmt : Stmt) → nests_flatly stmt ≡ true → nests_flatly (trim_stmt trim stmt) ≡ true
  flat-stays (Call results entry arguments depth) is = refl
  flat-stays (Set location e) is = is
  flat-stays (Fetch location width address) is = is
  flat-stays (Store width address e) is = is
  flat-stays (Div location e) is = is
  flat-stays (Dos number place argument) is = is

  plain-stays : (stmt : Stmt) → loads_plainly stmt ≡ true → loads_plainly (trim_stmt trim stmt) ≡ true
  plain-stays (Call results entry arguments depth) is = refl
  plain-stays (Set location e) is = is
  plain-stays (Fetch location width address) is = is
  plain-stays (Store width address e) is = is
  plain-stays (Div location e) is = is
  plain-stays (Dos number place argument) is = is

  -- flags are read as they were
  pub trimmed-reads : (g : Graph) → FlagsReadPlainly g → FlagsReadPlainly (trim_graph trim g)
  trimmed-reads g is = record {
    flat = each nests_flatly flat-stays is.flat;
    plain = each loads_plainly plain-stays is.plain;
  }
    where
      each : (test : Stmt → Bool) → ((stmt : Stmt) → test stmt ≡ true → test (trim_stmt trim stmt) ≡ true)
          → list_all (λ (b : Block). list_all test b.stmts) g.blocks ≡ true
          → list_all (λ (b : Block). list_all test b.stmts) (map (trim_block trim g.entry) g.blocks) ≡ true
      each test to =
          changed-pass (λ (b : Block). list_all test b.stmts) (trim_block trim g.entry)
          (λ b. changed-pass test (trim_stmt trim) to b.stmts) g.blocks
