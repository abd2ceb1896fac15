-- Functions that are made ready to run.
use Rattle.std.specs.Prelude.{ℕ, List, [], ◌∷◌, string_bytes, is_some, true}
use Rattle.dcc_c.specs.declared.syntax.Var.{Var}
use Rattle.dcc_c.specs.declared.syntax.Global_.{Global_}
use Rattle.dcc_c.specs.Typing.{Declared}
use Rattle.dcc_c.specs.Tree.{Word, Function, Tree}
use Rattle.dcc_c.specs.Run.{Continuation, runs, ends_function, after_goto}
use Rattle.dcc_value.specs.declared.variable.Binding.{Binding as Bound}
use Rattle.dcc_prepare.specs.declared.program.Variable.{Variable}
use Rattle.dcc_prepare.specs.declared.program.Procedure.{Procedure}
use Rattle.dcc_prepare.specs.declared.code.Code.{Code}
use Rattle.dcc_prepare.specs.Points.{Goes, MayGo, point_named, AreRows}
use Rattle.dcc_prepare.specs.Programs.{none_open, IsProcedure}

-- the points of the code are those of the whole function, whose body begins at the given one
pub record IsBody (tree : Tree) (f : Function) (code : Code) (entry : ℕ) : Type 0 where
  pub points : List Continuation
  pub rows : AreRows tree f none_open points code.rows.items code.labels.items
  pub labels : (word : Word) → MayGo tree points (point_named code.labels.items word) (after_goto f word)
  pub begins : Goes tree points entry (runs f.body (ends_function f.last))

-- the procedure is the function
pub record HasPoints (tree : Tree) (f : Function) (procedure : Procedure) : Type 0 where
  pub points : List Continuation
  pub is : IsProcedure tree f points procedure

-- what a variable is declared as
abbrev pub name_declared : Var → Variable → Declared
name_declared v x = record {
  name = string_bytes v.name;
  type = x.ty;
  is_array = x.is_array;
  is_placed = is_some x.offset;
}

-- what several variables are declared as
abbrev pub names_declared : List Var → List Variable → List Declared
names_declared (v ∷ vs) (x ∷ xs) = name_declared v x ∷ names_declared vs xs
names_declared _ _ = []

-- a global variable of the code
abbrev pub global_bound : Global_ → Bound
global_bound g = record { ty = g.ty; is_array = is_some g.len; is_placed = true; bits = g.at }

-- the procedures are the functions, one by one
abbrev pub ArePrepared : Tree → List Function → List Procedure → Type 0
ArePrepared tree [] [] = Unit {0}
ArePrepared tree (f ∷ fs) (p ∷ ps) = HasPoints tree f p × ArePrepared tree fs ps
ArePrepared tree (f ∷ fs) [] = ⊥
ArePrepared tree [] (p ∷ ps) = ⊥
