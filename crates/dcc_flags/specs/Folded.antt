-- What the elimination of flags gives.
use Rattle.std.specs.Prelude.{◌≡◌, ◌*◌, ◌≤◌, Bool, true, ◌||◌, if◌then◌else◌, List, [], ◌∷◌, flat_map}
use Rattle.std.specs.List.{AllZip}
use Rattle.dcc_num.specs.declared.FlagName.{FlagName}
use Rattle.dcc_ir.specs.declared.syntax.Loc.{Loc}
use Rattle.dcc_ir.specs.declared.syntax.Loc.TheVariants.{Flag}
use Rattle.dcc_ir.specs.Tree.{Expr, Stmt, Set, Fetch, Div, Block, Graph}
use Rattle.dcc_ir.specs.WellFormed.{IsGraph}
use Rattle.dcc_ir.specs.Use.{writes_of, graph_exprs}
use Rattle.dcc_ir.specs.Live.{is_among, reads}
use Rattle.dcc_ir.specs.Joinable.{places_of}
use Rattle.dcc_ir.specs.Measure.{deepest}
use Rattle.dcc_ir.specs.FlagReads.{holds_truth, reads_flag, loads_plainly, nests_flatly, all_stmts}
use Rattle.dcc_ir.specs.Replaced.{MayReplace}
use Rattle.dcc_flags.specs.Reaching.{IsKept}
use Rattle.dcc_flags.specs.Form.{GraphStays}
use Rattle.dcc_flags.specs.Kinds.{KindsStay}

-- Flags.

-- the flag is read or written in the graph, or takes an argument
abbrev pub mentions : Graph → FlagName → Bool
mentions graph f =
    reads (graph_exprs graph) (Flag f) || is_among (flat_map (λ b. flat_map writes_of b.stmts) graph.blocks) (Flag f)
    || is_among (flat_map (λ p. places_of p.put) graph.params) (Flag f)

-- Truths.

-- the place of a Set, Load or Div whose expression passes a test
abbrev pub set_where : (Expr → Bool) → Stmt → List Loc
set_where test (Set location e) = if test e then location ∷ [] else []
set_where test (Fetch location width address) = if test address then location ∷ [] else []
set_where test (Div location e) = if test e then location ∷ [] else []
set_where test stmt = []

-- the places of truth statements, in their order; `flag_places`: those of flag statements
abbrev pub truth_places : List Stmt → List Loc
truth_places stmts = flat_map (set_where holds_truth) stmts

abbrev pub flag_places : List Stmt → List Loc
flag_places stmts = flat_map (set_where (λ e. holds_truth e || reads_flag e)) stmts

-- the first list is the second without some elements
pub data IsPartOf : List Loc → List Loc → Type 0 where
  none : IsPartOf [] []
  stays : {location : Loc} {part whole : List Loc} → IsPartOf part whole → IsPartOf (location ∷ part) (location ∷ whole)
  goes : {location : Loc} {part whole : List Loc} → IsPartOf part whole → IsPartOf part (location ∷ whole)

-- a truth statement of the one block was a flag statement at the same location of the other
abbrev pub TruthsStay : Block → Block → Type 0
TruthsStay before after = IsPartOf (truth_places after.stmts) (flag_places before.stmts)

-- The graph `after` is `before` without the flags that are not kept. It is well formed, its form stays, and it may
-- stand in the place of `before` in each program. Its parts and statements are of kinds that those of `before` are.
-- Where definitions of flags load from plain addresses, truth statements stay at their locations; where a definition
-- of a flag reads flags only as a negation, or as arms of a choice that are that flag, expressions are at most twice
-- as deep.
pub record IsFolded (before after : Graph) : Type 0 where
  pub formed : IsGraph after
  pub form : GraphStays before after
  pub keeps : MayReplace before after
  pub kinds : KindsStay before after
  pub flags : (f : FlagName) → mentions after f ≡ true → IsKept before f
  pub truths : all_stmts loads_plainly before ≡ true → AllZip TruthsStay before.blocks after.blocks
  pub depth : all_stmts nests_flatly before ≡ true → deepest (graph_exprs after) ≤ 2 * deepest (graph_exprs before)
