-- Which value a temporary was set to that has passed all since. No public contract rests on it.
use Rattle.std.specs.Prelude.{◌≡◌, ℕ, ◌==◌, if◌then◌else◌, List, [], ◌∷◌, Option, Some, None}
use Rattle.dcc_ir.specs.declared.syntax.Loc.TheVariants.{Temp}
use Rattle.dcc_ir.specs.Live.{is_among}
use Rattle.dcc_ir.specs.Tree.{Expr, Set}
use Rattle.dcc_fold.specs.Chain.{Step, statement}
use Rattle.dcc_fold.specs.Joinable.{lets_by}
use Rattle.dcc_fold.specs.Known.{Known, places_of, told, IsBounded}

-- the value that a step sets a temporary to
abbrev pub set_by : Step → ℕ → Option Expr
set_by (statement (Set location value)) temporary = Some value
set_by step temporary = None

-- the value, where it may pass the step
abbrev pub passing : Step → Option Expr → Option Expr
passing step (Some value) = if lets_by value step then Some value else None
passing step None = None

-- what is known of a temporary after a step, and after some
abbrev pub carry : ℕ → Step → Option Expr → Option Expr
carry temporary step value =
    if is_among (places_of step) (Temp temporary) then set_by step temporary else passing step value

abbrev pub carried : ℕ → List Step → Option Expr → Option Expr
carried temporary [] value = value
carried temporary (step ∷ steps) value = carried temporary steps (carry temporary step value)

-- what a walk knows is what the steps of its chain leave
pub record IsTrue (known : Known) (steps : List Step) : Type 0 where
  pub bounded : IsBounded known
  pub true_of : (temporary : ℕ) → told known temporary ≡ carried temporary steps None
