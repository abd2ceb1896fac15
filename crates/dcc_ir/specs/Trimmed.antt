-- A pass that makes graphs take fewer arguments and give fewer values back: those that nothing reads go.
use Rattle.std.specs.Prelude.{◌≡◌, ℕ, suc, Bool, true, false, not, ◌⊎◌, if◌then◌else◌, List, [], ◌∷◌, map, flat_map}
use Rattle.std.specs.Prelude.{All}
use Rattle.dcc_ir.specs.declared.syntax.Loc.{Loc}
use Rattle.dcc_ir.specs.Tree.{Stmt, Call, Exit, Ret, Block, Graph, Program}
use Rattle.dcc_ir.specs.Location.{same_location}
use Rattle.dcc_ir.specs.Use.{reads_of, graph_exprs}
use Rattle.dcc_ir.specs.WellFormed.{is_memory}
use Rattle.dcc_ir.specs.Joinable.{places_of}
use Rattle.dcc_ir.specs.Flow.{graph_or_none}
use Rattle.dcc_ir.specs.Run.{graph_at}
use Rattle.dcc_ir.specs.Passes.{Pass}

-- what is trimmed: for the graph with an entry and each place in its list, whether the argument, or the value given
-- back, stays
pub record Trim : Type 0 where
  pub takes : ℕ → ℕ → Bool
  pub gives : ℕ → ℕ → Bool

-- nothing is trimmed: all arguments and values stay
abbrev pub nothing_trimmed : Trim
nothing_trimmed = record { takes = λ entry k. true; gives = λ entry k. true }

-- the elements of a list whose places pass a test
abbrev pub kept : {A : Type 0} → (ℕ → Bool) → List A → List A
kept stays [] = []
kept stays (x ∷ xs) = if stays 0 then x ∷ kept (λ k. stays (suc k)) xs else kept (λ k. stays (suc k)) xs

-- the elements of a list whose places fail the test
abbrev pub dropped : {A : Type 0} → (ℕ → Bool) → List A → List A
dropped stays xs = kept (λ k. not (stays k)) xs

abbrev pub trim_stmt : Trim → Stmt → Stmt
trim_stmt trim (Call results entry arguments depth) =
    Call (kept (trim.gives entry) results) entry (kept (trim.takes entry) arguments) depth
trim_stmt trim stmt = stmt

abbrev pub trim_exit : Trim → ℕ → Exit → Exit
trim_exit trim entry (Ret values) = Ret (kept (trim.gives entry) values)
trim_exit trim entry exit = exit

abbrev pub trim_block : Trim → ℕ → Block → Block
trim_block trim entry b = record b { stmts = map (trim_stmt trim) b.stmts; exit = trim_exit trim entry b.exit }

abbrev pub trim_graph : Trim → Graph → Graph
trim_graph trim g =
    record g { params = kept (trim.takes g.entry) g.params; blocks = map (trim_block trim g.entry) g.blocks }

-- the program in which all graphs and calls are trimmed
abbrev pub trimmed : Trim → Program → Program
trimmed trim p = record p { graphs = map (trim_graph trim) p.graphs }

-- the locations that a graph reads
abbrev pub reads_in : Graph → List Loc
reads_in graph = flat_map reads_of (graph_exprs graph)

-- the location is none of those that are read
abbrev pub IsUnread : List Loc → Loc → Type 0
IsUnread reads location = All (λ read. same_location read location ≡ false) reads

-- the places of the results that go are not read
abbrev pub GivesRead : Trim → List Loc → Stmt → Type 0
GivesRead trim reads (Call results entry arguments depth) = All (IsUnread reads) (dropped (trim.gives entry) results)
GivesRead trim reads stmt = Unit {0}

-- What goes is not read by what stays; where params go, none is in memory, since its place would be another.
pub record IsTrimmable (trim : Trim) (graph : Graph) : Type 0 where
  pub takes : All (IsUnread (reads_in (trim_graph trim graph)))
      (flat_map (λ q. places_of q.put) (dropped (trim.takes graph.entry) graph.params))
  pub memory : ((k : ℕ) → trim.takes graph.entry k ≡ true) ⊎ All (λ q. is_memory q.put ≡ false) graph.params
  pub gives : All (λ b. All (GivesRead trim (reads_in (trim_graph trim graph))) b.stmts) graph.blocks

-- The pass: each block stays in its place, what stays of the arguments and values is the same, and the locations that
-- the trimmed graph reads hold the same.
abbrev pub trimming : Trim → Program → Pass
trimming trim p = record {
  place = λ entry n. n;
  Enter = λ entry a a'. a' ≡ kept (trim.takes entry) a;
  Leave = λ entry a r r'. r' ≡ kept (trim.gives entry) r;
  Inv = λ a point v v'.
      All (λ read. v' read ≡ v read) (reads_in (graph_or_none (graph_at (trimmed trim p).graphs point.entry)));
}
