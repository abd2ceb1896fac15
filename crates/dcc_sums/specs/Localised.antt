-- The program in which just what is wanted passes: each graph takes the argument words of the stack and its params,
-- each call passes these and takes the results, and each Ret gives the results. All else stays, block by block and
-- statement by statement.
use Rattle.std.specs.Prelude.{◌≡◌, ℕ, ◌==◌, Bool, true, false, ◌&&◌, ◌||◌, List, [], ◌∷◌, ◌++◌, map, drop, slice_get}
use Rattle.std.specs.Prelude.{All, Option, Some, None, if◌then◌else◌}
use Rattle.std.specs.List.{list_all}
use Rattle.dcc_ir.specs.declared.syntax.Loc.{Loc}
use Rattle.dcc_ir.specs.declared.syntax.Put.{Put}
use Rattle.dcc_ir.specs.declared.syntax.Put.TheVariants.{One}
use Rattle.dcc_ir.specs.declared.syntax.Param.{Param}
use Rattle.dcc_ir.specs.Tree.{Expr, Get, Stmt, Call, Exit, Ret, Graph, Program, Summary}
use Rattle.dcc_ir.specs.Live.{is_among}
use Rattle.dcc_ir.specs.Passing.{passed, param_of, is_word_put}
use Rattle.dcc_ir.specs.Run.{graph_at}
use Rattle.dcc_ir.specs.Flow.{graph_or_none}
use Rattle.dcc_ir.specs.Trimmed.{Trim, trimmed}

abbrev pub no_summary : Summary
no_summary = record { params = []; results = []; preserved = [] }

-- the summary of the graph with that entry
abbrev pub summary_at : List Graph → List Summary → ℕ → Summary
summary_at (graph ∷ graphs) (sum ∷ sums) entry = if graph.entry == entry then sum else summary_at graphs sums entry
summary_at graphs sums entry = no_summary

-- the param sets one of the locations
abbrev pub sets_one_of : List Loc → Put → Bool
sets_one_of locations (One location) = is_among locations location
sets_one_of locations put = false

-- the param stays: it is a word on the stack, or sets one of the locations
abbrev pub is_taken : List Loc → Option Param → Bool
is_taken params (Some param) = param.stack || sets_one_of params param.put
is_taken params None = false

-- the value that is given back stays: it is that of one of the locations
abbrev pub is_given : List Loc → Option Loc → Bool
is_given results (Some location) = is_among results location
is_given results None = false

-- which arguments and values stay
abbrev pub trim_by : List Graph → List Summary → Trim
trim_by graphs sums = record {
  takes = λ entry k.
      is_taken (summary_at graphs sums entry).params (slice_get (graph_or_none (graph_at graphs entry)).params k);
  gives = λ entry k. is_given (summary_at graphs sums entry).results (slice_get passed k);
}

-- the program that is localised by the summaries
abbrev pub localised : List Summary → Program → Program
localised sums p = trimmed (trim_by p.graphs sums) p

-- What passes in a localised program.

-- a Ret gives just the locations back
abbrev pub GivesJust : List Loc → Exit → Type 0
GivesJust results (Ret values) = values ≡ map Get results
GivesJust results exit = Unit {0}

-- the graph takes words on the stack and just the params of its summary, and gives back just the results
pub record TakesJust (sum : Summary) (graph : Graph) : Type 0 where
  pub words : List Param
  pub stack : list_all (λ w. w.stack && is_word_put w.put) words ≡ true
  pub params : graph.params ≡ words ++ map param_of sum.params
  pub rets : All (λ b. GivesJust sum.results b.exit) graph.blocks

-- a Call passes words and just the params of its callee's summary, and takes just the results
abbrev pub CallsJust : (ℕ → Summary) → Stmt → Type 0
CallsJust sum_of (Call results entry arguments depth) =
    (results ≡ (sum_of entry).results)
    × ((words : List Expr) × (arguments ≡ words ++ map Get (sum_of entry).params))
CallsJust sum_of stmt = Unit {0}

-- Just what the summaries say passes in and out of each graph but the first, and through each Call.
pub record PassesJust (sum_of : ℕ → Summary) (p : Program) : Type 0 where
  pub graphs : All (λ g. TakesJust (sum_of g.entry) g) (drop 1 p.graphs)
  pub calls : All (λ g. All (λ b. All (CallsJust sum_of) b.stmts) g.blocks) p.graphs
