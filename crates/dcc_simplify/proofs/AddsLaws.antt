-- A graph of reduced expressions: it takes no other address, and no expression is deeper.
use Rattle.std.proofs.Common.{◌≡◌, ℕ, ◌≤◌, Bool, true, List, [], ◌∷◌, ◌++◌, flat_map, Option, Some, None, inl, inr, refl, sym, ap, ◌∙◌, false, true≢false, arith}
use Rattle.std.specs.Prelude.{◌==◌, max, option_to_list}
use Rattle.std.specs.List.{AllZip, list_all, list_any}
use Rattle.dcc_ir.specs.Tree.{Expr, Binary, Stmt, Exit, Block, Graph}
use Rattle.dcc_ir.specs.Use.{addresses_of, exprs_of, exit_exprs, block_exprs, graph_exprs}
use Rattle.dcc_ir.specs.Measure.{depth_of, deepest}
use Rattle.dcc_ir.proofs.FitLaws.{both}
use Rattle.dcc_ir.proofs.PathLaws.{decided, or_false}
use Rattle.dcc_ir.proofs.ZipLaws.{passes_zipped, weaker_zipped}
use Rattle.dcc_passes.specs.Tidied.{takes_addresses}
use Rattle.dcc_rules.specs.Simpler.{AddsNothing, is_distance_among, IsReduced}
use Rattle.dcc_rules.proofs.AmongLaws.{all_mono, number_same}
use Rattle.dcc_rules.proofs.ReducedLaws.{adds_nothing_to_itself, reduced_binary}
use Rattle.dcc_simplify.specs.Reshaped.{IsDivisionAs, divides, stays, IsArgumentAs, none, some, IsStmtAs, sets, fetches, stores, divides_into, calls, asks_dos, IsExitAs, goes, tests, switches, returns, stops, IsBlockAs, IsGraphAs}
use Rattle.dcc_simplify.proofs.ZipLaws.{zip-append, zip-flat}

-- what passes wherever it is one of those that pass
one-passes : (test : ℕ → Bool) (d : ℕ) (ds : List ℕ) → list_any (λ other. d == other) ds ≡ true → list_all test ds ≡ true → test d ≡ true
one-passes test d [] among pass = absurd (true≢false (sym among))
one-passes test d (x ∷ ds) among pass =
    let parts = both (test x) (list_all test ds) pass in
    elim (decided (d == x)) [
      | inl t ↦ ap test (number_same d x t) ∙ parts.0
      | inr n ↦ one-passes test d ds (or_false (d == x) (list_any (λ other. d == other) ds) n among) parts.1
    ]

-- each expression adds nothing to the one in whose place it stands
abbrev AddNothing : List Expr → List Expr → Type 0
AddNothing = AllZip AddsNothing

module _ (bits : List ℕ) (As : Expr → Expr → Type 0) (reduced : (e e' : Expr) → As e e' → IsReduced bits e e') where
  adds : (e e' : Expr) → As e e' → AddsNothing e e'
  adds e e' h = (reduced e e' h).adds

  division-adds : (e e' : Expr) → IsDivisionAs As e e' → AddNothing (e ∷ []) (e' ∷ [])
  division-adds e e' (divides {operator = operator} {width = width} {a = a} {b = b} {a' = a'} {b' = b'} h k) =
      ((reduced_binary bits operator width a b a' b' (reduced a a' h) (reduced b b' k)).adds, tt)
  division-adds e e' (stays is) = (adds_nothing_to_itself e, tt)

  stmt-adds : (x y : Stmt) → IsStmtAs As x y → AddNothing (exprs_of x) (exprs_of y)
  stmt-adds x y (sets h) = (adds _ _ h, tt)
  stmt-adds x y (fetches h) = (adds _ _ h, tt)
  stmt-adds x y (stores h k) = (adds _ _ h, (adds _ _ k, tt))
  stmt-adds x y (divides_into h) = division-adds _ _ h
  stmt-adds x y (calls {arguments = es} {arguments' = es'} h) = weaker_zipped As AddsNothing adds es es' h
  stmt-adds x y (asks_dos h) = argument-adds _ _ h
    where
      argument-adds : (e e' : Option Expr) → IsArgumentAs As e e' → AddNothing (option_to_list e) (option_to_list e')
      argument-adds e e' none = tt
      argument-adds e e' (some h) = (adds _ _ h, tt)

  exit-adds : (x y : Exit) → IsExitAs As x y → AddNothing (exit_exprs x) (exit_exprs y)
  exit-adds x y goes = tt
  exit-adds x y (tests h) = (adds _ _ h, tt)
  exit-adds x y (switches h) = (adds _ _ h, tt)
  exit-adds x y (returns {values = es} {values' = es'} h) = weaker_zipped As AddsNothing adds es es' h
  exit-adds x y stops = tt

  block-adds : (b c : Block) → IsBlockAs As b c → AddNothing (block_exprs b) (block_exprs c)
  block-adds b c h =
      zip-append AddsNothing (flat_map exprs_of b.stmts) (exit_exprs b.exit) (flat_map exprs_of c.stmts) (exit_exprs c.exit)
      (zip-flat (IsStmtAs As) AddsNothing exprs_of exprs_of stmt-adds b.stmts c.stmts h.stmts) (exit-adds b.exit c.exit h.exit)

  graph-adds : (before after : Graph) → IsGraphAs As before after → AddNothing (graph_exprs before) (graph_exprs after)
  graph-adds before after is = zip-flat (IsBlockAs As) AddsNothing block_exprs block_exprs block-adds before.blocks after.blocks is.blocks

  -- what each address in an expression passes, each in the other does
  addresses-pass : (test : ℕ → Bool) (e e' : Expr) → AddsNothing e e' → list_all test (addresses_of e) ≡ true → list_all test (addresses_of e') ≡ true
  addresses-pass test e e' h pass =
      all_mono (is_distance_among (addresses_of e)) test (λ d among. one-passes test d (addresses_of e) among pass) (addresses_of e') h.addresses

  pub addresses-stay : (before after : Graph) → IsGraphAs As before after → (test : ℕ → Bool) → takes_addresses test before ≡ true → takes_addresses test after ≡ true
  addresses-stay before after is test pass =
      passes_zipped AddsNothing (λ e. list_all test (addresses_of e)) (λ e. list_all test (addresses_of e)) (addresses-pass test)
      (graph_exprs before) (graph_exprs after) (graph-adds before after is) pass

  pub depth-stays : (before after : Graph) → IsGraphAs As before after → deepest (graph_exprs after) ≤ deepest (graph_exprs before)
  depth-stays before after is = go (graph_exprs before) (graph_exprs after) (graph-adds before after is)
    where
      go : (es es' : List Expr) → AddNothing es es' → deepest es' ≤ deepest es
      go [] [] h = omega arith
      go [] (e' ∷ es') h = absurd h
      go (e ∷ es) [] h = absurd h
      go (e ∷ es) (e' ∷ es') h = let one = h.0.depth in let more = go es es' h.1 in omega arith
