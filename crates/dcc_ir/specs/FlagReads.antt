-- How statements that set a flag read flags and load.
use Rattle.std.specs.Prelude.{◌≡◌, Bool, true, false, ◌&&◌, ◌||◌, not}
use Rattle.std.specs.List.{list_any, list_all}
use Rattle.dcc_num.specs.declared.FlagName.{FlagName}
use Rattle.dcc_ir.specs.declared.syntax.Loc.{Loc}
use Rattle.dcc_ir.specs.declared.syntax.Loc.TheVariants.{Flag}
use Rattle.dcc_ir.specs.declared.syntax.UnOp.TheVariants.{Not}
use Rattle.dcc_ir.specs.Location.{same_location}
use Rattle.dcc_ir.specs.Tree.{Expr, Get, Load, Unary, Choose, Stmt, Set, Graph}
use Rattle.dcc_ir.specs.Use.{parts_of, reads_of}
use Rattle.dcc_ir.specs.Measure.{is_truth}

abbrev pub is_flag_place : Loc → Bool
is_flag_place (Flag f) = true
is_flag_place location = false

-- the expression holds a truth node, or reads a flag
abbrev pub holds_truth : Expr → Bool
holds_truth e = list_any is_truth (parts_of e)

abbrev pub reads_flag : Expr → Bool
reads_flag e = list_any is_flag_place (reads_of e)

-- the expression is a read of the flag, and nothing else
abbrev pub gets : FlagName → Expr → Bool
gets f (Get location) = same_location (Flag f) location
gets f _ = false

-- the address of a load is no truth, and reads no flag
abbrev pub is_plain_load : Expr → Bool
is_plain_load (Load width address) = not (holds_truth address || reads_flag address)
is_plain_load e = true

-- a statement that sets a flag loads from addresses alone that hold no truth and read no flag
abbrev pub loads_plainly : Stmt → Bool
loads_plainly (Set (Flag f) e) = list_all is_plain_load (parts_of e)
loads_plainly stmt = true

-- the expression reads no flag, or it is the negation of a flag, or a choice with the flag as an arm and no other read
abbrev pub nests : FlagName → Expr → Bool
nests f (Unary Not width (Get location)) = true
nests f (Choose test a b) =
    not (reads_flag test) && (gets f a || not (reads_flag a)) && (gets f b || not (reads_flag b))
nests f e = not (reads_flag e)

abbrev pub nests_flatly : Stmt → Bool
nests_flatly (Set (Flag f) e) = nests f e
nests_flatly stmt = true

abbrev pub all_stmts : (Stmt → Bool) → Graph → Bool
all_stmts test graph = list_all (λ b. list_all test b.stmts) graph.blocks

-- each statement of the graph that sets a flag reads flags as the negation of one or as an arm of a choice alone, and
-- loads from addresses alone that hold no truth and read no flag
pub record FlagsReadPlainly (graph : Graph) : Type 0 where
  pub flat : all_stmts nests_flatly graph ≡ true
  pub plain : all_stmts loads_plainly graph ≡ true
