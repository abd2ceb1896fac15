-- How the functions of a text become those of a program, and how its run begins.
use Rattle.std.proofs.Common.{◌≡◌, ℕ, zero, suc, List, [], ◌∷◌, ◌++◌, map, Some, refl, ap, subst}
use Rattle.std.specs.Prelude.{slice_get}
use Rattle.dcc_c.specs.declared.syntax.Global_.{Global_}
use Rattle.dcc_c.specs.Tree.{Function, Tree}
use Rattle.dcc_c.specs.Rules.{declared_global}
use Rattle.dcc_c.specs.Run.{Continuation, global_binding}
use Rattle.dcc_c.specs.Views.{global_of}
use Rattle.dcc_prepare.specs.declared.program.Procedure.{Procedure}
use Rattle.dcc_prepare.specs.declared.program.Program.{Program}
use Rattle.dcc_value.specs.Evaluation.{bindings_named}
use Rattle.dcc_prepare.specs.Programs.{IsProcedure, IsProgram}
use Rattle.dcc_prepare.specs.Prepared.{HasPoints, global_bound, ArePrepared}
use Rattle.dcc_prepare.proofs.PointLaws.{some_same}

-- the global variables by their names
pub globals_named : (gs : List Global_) →
    bindings_named (map declared_global (map global_of gs)) (map global_bound gs) ≡ map global_binding (map global_of gs)
globals_named [] = refl
globals_named (g ∷ gs) = ap (λ bs. global_binding (global_of g) ∷ bs) (globals_named gs)

-- one more function
pub prepared_push : (tree : Tree) (fs : List Function) (ps : List Procedure) (f : Function) (p : Procedure) →
    ArePrepared tree fs ps → HasPoints tree f p → ArePrepared tree (fs ++ f ∷ []) (ps ++ p ∷ [])
prepared_push tree [] [] f p are one = (one, tt)
prepared_push tree (g ∷ fs) (q ∷ ps) f p are one = (are.0, prepared_push tree fs ps f p are.1 one)
prepared_push tree (g ∷ fs) [] f p are one = absurd are
prepared_push tree [] (q ∷ ps) f p are one = absurd are

-- the points of the functions by their numbers
abbrev pub points_by : (tree : Tree) (fs : List Function) (ps : List Procedure) → ArePrepared tree fs ps → ℕ → List Continuation
points_by tree (f ∷ fs) (p ∷ ps) are zero = are.0.points
points_by tree (f ∷ fs) (p ∷ ps) are (suc number) = points_by tree fs ps are.1 number
points_by tree (f ∷ fs) [] are number = []
points_by tree [] ps are number = []

-- the procedure with this number
record IsAt (tree : Tree) (f : Function) (points : List Continuation) (ps : List Procedure) (number : ℕ) : Type 0 where
  procedure : Procedure
  here : slice_get ps number ≡ Some procedure
  is : IsProcedure tree f points procedure

prepared_at : (tree : Tree) (fs : List Function) (ps : List Procedure) (are : ArePrepared tree fs ps) (number : ℕ) (f : Function) →
    slice_get fs number ≡ Some f → IsAt tree f (points_by tree fs ps are number) ps number
prepared_at tree [] ps are number f is = cc
prepared_at tree (g ∷ fs) [] are number f is = absurd are
prepared_at tree (g ∷ fs) (p ∷ ps) are zero f is =
    record { procedure = p; here = refl; is = subst (λ (h : Function). IsProcedure tree h are.0.points p) (some_same g f is) are.0.is }
prepared_at tree (g ∷ fs) (p ∷ ps) are (suc number) f is =
    let at = prepared_at tree fs ps are.1 number f is in
    record { procedure = at.procedure; here = at.here; is = at.is }

-- the program of a text whose functions are prepared
pub program_is : (tree : Tree) (program : Program) (are : ArePrepared tree tree.functions program.procedures.items) →
    bindings_named (map declared_global tree.globals) program.globals.items ≡ map global_binding tree.globals →
    IsProgram tree (points_by tree tree.functions program.procedures.items are) program
program_is tree program are globals = record {
  globals = globals;
  procedures = λ number f is.
      let at = prepared_at tree tree.functions program.procedures.items are number f is in
      record { procedure = at.procedure; here = at.here; is = at.is };
}
