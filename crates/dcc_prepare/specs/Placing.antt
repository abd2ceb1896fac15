-- One parameter after another gets its place.
use Rattle.std.specs.Prelude.{◌≡◌, ℕ, ◌*◌, ◌%◌, Bool, List, ◌∷◌, ◌++◌, map, Option}
use Rattle.dcc_c.specs.Tree.{Lines, Variable as DeclaredVariable}
use Rattle.dcc_c.specs.Placement.{param_places}
use Rattle.dcc_prepare.specs.declared.placement.NextParam.{NextParam}
use Rattle.dcc_prepare.specs.declared.program.Variable.{Variable}
use Rattle.dcc_prepare.specs.Programs.{place_in, kind_of, declared_kind}

-- the parameter, before any others, and the number of the next stack argument
pub record IsNextParam (body : Lines) (v : DeclaredVariable) (placed : Bool) (number : ℕ) (r : NextParam) : Type 0 where
  pub kind : kind_of r.variable ≡ declared_kind v
  pub next : ℕ
  pub at : r.offset ≡ (2 * next) % 65536
  pub places : (base : ℕ) (params : List DeclaredVariable) →
      place_in base r.variable ∷ param_places body base next r.placed params
      ≡ param_places body base number placed (v ∷ params)

-- the variables that have their places, before those that are left
pub record ArePlaced (declared : List DeclaredVariable) (places_of : ℕ → List (Option ℕ)) (left : List DeclaredVariable)
    (places_left : ℕ → List DeclaredVariable → List (Option ℕ)) (variables : List Variable) : Type 0 where
  pub kinds : map kind_of variables ++ map declared_kind left ≡ map declared_kind declared
  pub places : (base : ℕ) → map (place_in base) variables ++ places_left base left ≡ places_of base
