-- A graph that has what its text needs is spelled.
use Rattle.std.proofs.Common.{◌≡◌, ℕ, ◌<◌, ◌≤◌, inl, inr, List, [], ◌∷◌, length}
use Rattle.std.specs.Prelude.{All}
use Rattle.std.specs.List.{flat_map}
use Rattle.std.proofs.lemmas.List.Elements.{All-nil, All-cons, All-head, All-tail, All-append, All-weaker, All-from_get_or}
use Rattle.dcc_ir.specs.declared.syntax.Loc.{Loc}
use Rattle.dcc_ir.specs.Families.{Family}
use Rattle.dcc_ir.specs.Live.{block_in}
use Rattle.dcc_ir.specs.Measure.{depth_of}
use Rattle.dcc_ir.specs.Run.{no_block}
use Rattle.dcc_ir.specs.Tree as inner
use Rattle.dcc_ir.specs.Use.{reads_of, exprs_of, writes_of, exit_exprs, block_exprs, graph_exprs}
use Rattle.dcc_text.specs.Holding.{Locations, IsWithin}
use Rattle.dcc_text.specs.Spelling.{Spelling}
use Rattle.dcc_text.proofs.AllowedStmts.{IsNamed, AreNamed}
use Rattle.dcc_plan.specs.Allowed.{IsSpelled}
use Rattle.dcc_plan.specs.Laws.{AreSteps, Matters}

-- what holds of all that each element gives holds of all that the elements give
all-joined : {X A : Type 0} (P : A → Type 0) (f : X → List A) (xs : List X) → All (λ x. All P (f x)) xs → All P (flat_map f xs)
all-joined P f [] all = All-nil P
all-joined P f (x ∷ xs) all =
    All-append P (f x) (flat_map f xs) (All-head (λ x. All P (f x)) x xs all) (all-joined P f xs (All-tail (λ x. All P (f x)) x xs all))

module _ (s : Spelling) where
  -- expressions that read what matters, and that is named
  within-named : (Has : Locations) → ((location : Loc) → Has location → IsNamed s location) → (es : List inner.Expr) → All (IsWithin s Has) es → All (AreNamed s) es
  within-named Has named es all = All-weaker (IsWithin s Has) (AreNamed s) (λ e is. All-weaker Has (IsNamed s) named (reads_of e) is.reads) es all

  -- The statements of a block.
  module _ (Has : List inner.Stmt → Locations) where
    steps-written : (stmts : List inner.Stmt) → AreSteps s Has stmts → All (λ stmt. All (IsNamed s) (writes_of stmt)) stmts
    steps-written [] are = All-nil (λ stmt. All (IsNamed s) (writes_of stmt))
    steps-written (stmt ∷ rest) are = All-cons (λ x. All (IsNamed s) (writes_of x)) stmt rest (elim are.0 [ inl step ↦ step.written | inr call ↦ call.written ]) (steps-written rest are.1)

    steps-read : (stmts : List inner.Stmt) → AreSteps s Has stmts → All (λ stmt. All (AreNamed s) (exprs_of stmt)) stmts
    steps-read [] are = All-nil (λ stmt. All (AreNamed s) (exprs_of stmt))
    steps-read (stmt ∷ rest) are =
        All-cons (λ x. All (AreNamed s) (exprs_of x)) stmt rest (elim are.0 [
          | inl step ↦ within-named (Has (stmt ∷ rest)) step.named (exprs_of stmt) step.within
          | inr call ↦ within-named (Has (stmt ∷ rest)) call.named (exprs_of stmt) call.within
        ]) (steps-read rest are.1)

  -- where what matters at the end of each block has variables
  pub spelled-graph : (graph : inner.Graph) (family : Family) (levels : ℕ) → s.bits ≡ graph.bits → Matters s graph family
      → ((b : ℕ) (location : Loc) → b < length graph.blocks → family (block_in graph b) [] location → IsNamed s location)
      → All (λ e. depth_of e ≤ levels) (graph_exprs graph) → IsSpelled s levels graph
  spelled-graph graph family levels bits matters named low = record {
    bits = bits;
    reads = all-joined (AreNamed s) block_exprs graph.blocks (All-from_get_or (λ b. All (AreNamed s) (block_exprs b)) graph.blocks no_block
        (λ b inside. All-append (AreNamed s) (flat_map exprs_of (block_in graph b).stmts) (exit_exprs (block_in graph b).exit)
        (all-joined (AreNamed s) exprs_of (block_in graph b).stmts (steps-read (family (block_in graph b)) (block_in graph b).stmts (matters.steps b inside)))
        (within-named (family (block_in graph b) []) (λ location. named b location inside) (exit_exprs (block_in graph b).exit) (matters.tested b inside))));
    writes = All-from_get_or (λ (b : inner.Block). All (λ stmt. All (IsNamed s) (writes_of stmt)) b.stmts) graph.blocks no_block
        (λ b inside. steps-written (family (block_in graph b)) (block_in graph b).stmts (matters.steps b inside));
    shallow = low;
  }
