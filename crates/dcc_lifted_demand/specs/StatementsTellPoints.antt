-- What points do one after another, where statements stand at them, is what is computed of the statements.
use Rattle.std.specs.Prelude.{◌≡◌, ◌↔◌, ℕ, List, [], ◌∷◌, Contains}
use Rattle.dcc_ir.specs.declared.syntax.Loc.{Loc}
use Rattle.dcc_ir.specs.Tree.{Stmt}
use Rattle.dcc_demand.specs.Procedures.{Procedure}
use Rattle.dcc_refinement.specs.Steps.{effect_of, word_effect_of, Flows, Uses}
use Rattle.dcc_sums.specs.Points.{Position}
use Rattle.dcc_sums.specs.Instance.{action_of, only_using}
use Rattle.dcc_lifted_demand.specs.Sources.{sources, used, effect_after, word_effect_after}

module _ (procedure : Procedure Position Loc Loc) (pushed : ℕ) where
  -- At the points stand the statements, and then there is one point more, which only uses the given locations; or none
  -- is used.
  abbrev pub AreAt : List Position → List Stmt → List Loc → Type 0
  AreAt [] [] after = after ≡ []
  AreAt [] (stmt ∷ stmts) after = ⊥
  AreAt (a ∷ steps) [] after = (steps ≡ []) × (procedure.action a ≡ only_using after)
  AreAt (a ∷ steps) (stmt ∷ stmts) after = (procedure.action a ≡ action_of pushed stmt) × AreAt steps stmts after

  pub record TellPoints (steps : List Position) (stmts : List Stmt) (after : List Loc) : Type 0 where
    pub effect : (location : Loc) → effect_of procedure steps location ≡ effect_after pushed stmts location
    pub word_effect : (word : Loc) → word_effect_of procedure steps word ≡ word_effect_after pushed stmts word
    pub flows : (location to : Loc) → Flows procedure steps location to ↔ Contains (sources stmts to) location
    pub uses : (location : Loc) → Uses procedure steps location ↔ Contains (used stmts after) location

-- at points where statements stand, what the points do one after another is what is computed of the statements
abbrev pub StatementsTellPoints : Type 0
StatementsTellPoints =
    (procedure : Procedure Position Loc Loc) (pushed : ℕ) (steps : List Position) (stmts : List Stmt) (after : List Loc)
    → AreAt procedure pushed steps stmts after → TellPoints procedure pushed steps stmts after
