-- One graph in the place of another: what is owed, so that it may stand there.
use Rattle.std.specs.Prelude.{◌≡◌, ℕ, List, Contains}
use Rattle.dcc_ir.specs.Tree.{Graph, Program}
use Rattle.dcc_ir.specs.Location.{Values, filled}
use Rattle.dcc_ir.specs.Run.{State, activation, passing}
use Rattle.dcc_ir.specs.WellFormed.{IsProgram}
use Rattle.dcc_ir.specs.Flow.{flow_of}
use Rattle.dcc_ir.specs.Keeps.{KeepsRuns}
use Rattle.dcc_ir.specs.Replaced.{with_graph, IsKeptWith}
use Rattle.dcc_ir.specs.Local.{Point, start_of, halt_of}
use Rattle.dcc_ir.specs.Passes.{Pass, FitIn, param_widths, AgreeOutside, AreTogether, Meet, GoesOn, BlocksStay}

-- what holds between the locations' values at a point of the second graph and at the point of the first that stands for
-- it: the first graph's values come first
abbrev pub Invariant : Type 1
Invariant = Point → Values → Values → Type 0

-- the pass by which arguments and values given back stay the same
abbrev pub one_pass : (ℕ → ℕ) → Invariant → Pass
one_pass place inv = record {
  place = λ entry. place;
  Enter = λ entry a a'. a' ≡ a;
  Leave = λ entry a r r'. r' ≡ r;
  Inv = λ a point v v'. inv point v v';
}

-- The graph has the other's entry and blocks of its, each at the place that is told; in each well-formed program it may
-- take the other's place, and the program is kept where its runs are.
pub record FitsInPlace (place : ℕ → ℕ) (before after : Graph) : Type 0 where
  pub entry : after.entry ≡ before.entry
  pub blocks : BlocksStay before after place
  pub formed : (p : Program) → IsProgram p → Contains p.graphs before → IsProgram (with_graph after p)
  pub kept : (p : Program) → IsProgram p → Contains p.graphs before → KeepsRuns p (with_graph after p)
      → IsKeptWith after p

-- called with the same arguments, the graph and the one in its place begin alike
abbrev pub BeginsIn : Graph → Graph → Invariant → Type 0
BeginsIn before after inv =
    (fill base : ℕ) (a : List ℕ) (s t : State) → FitIn (param_widths before) a → AgreeOutside s t
    → s.running ≡ activation before (filled before.bits fill) base
    → t.running ≡ activation after (filled after.bits fill) base
    → let s' = passing 0 before.params a s in
    let t' = passing 0 after.params a t in
    (t'.memory ≡ s'.memory) × inv (start_of before.entry) s'.running.values t'.running.values

-- From each point of the graph that is put in place, and the point of the other that stands for it, both go on until
-- they meet, the other one through so many blocks that are dropped.
abbrev pub GoesIn : (ℕ → ℕ) → Graph → Graph → Invariant → Type 0
GoesIn place before after inv =
    (p q : Program) → IsProgram p → IsProgram q → (a : List ℕ) (point : Point) (s t : State)
    → point.entry ≡ before.entry → AreTogether p q (one_pass place inv) a point s t → s.running.graph ≡ before
    → t.running.graph ≡ after
    → (dropped : ℕ)
    × GoesOn (flow_of after) dropped (λ halt. Meet (one_pass place inv) a point dropped halt (halt_of t)) (halt_of s)
