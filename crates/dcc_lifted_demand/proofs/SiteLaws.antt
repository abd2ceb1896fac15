-- Points where statements stand, and then the end of a block, do just what these do.
use Rattle.std.proofs.Common.{◌≡◌, ℕ, List, [], ◌∷◌, ◌++◌, map, refl, ap, ◌∙◌}
use Rattle.dcc_ir.specs.declared.syntax.Loc.{Loc}
use Rattle.dcc_ir.specs.Tree.{Stmt, Graph}
use Rattle.dcc_sums.specs.Points.{Position, Site, Executes, site_of}
use Rattle.dcc_sums.specs.Instance as sums
use Rattle.dcc_sums.specs.Instance.{only_using}
use Rattle.dcc_lifted_demand.specs.StatementsTellPoints.{AreAt}

-- these uses what comes after statements
abbrev pub EndsSo : ℕ → List Site → List Loc → Type 0
EndsSo pushed [] after = after ≡ []
EndsSo pushed (site ∷ []) after = sums.action_at pushed site ≡ only_using after
EndsSo pushed (site ∷ other ∷ sites) after = ⊥

module _ (graph : Graph) where
  ends_at : (points : List Position) (ends : List Site) (after : List Loc) → map (site_of graph) points ≡ ends → EndsSo graph.pushed ends after
      → AreAt (sums.procedure_of graph) graph.pushed points [] after
  ends_at [] [] after e so = so
  ends_at [] (site ∷ ends) after e so = absurd (cc e)
  ends_at (a ∷ points) [] after e so = absurd (cc e)
  ends_at (a ∷ []) (site ∷ []) after e so =
      let here : site_of graph a ≡ site = cc e in
      (refl, ap (sums.action_at graph.pushed) here ∙ so)
  ends_at (a ∷ b ∷ points) (site ∷ []) after e so = absurd (cc e)
  ends_at (a ∷ points) (site ∷ other ∷ ends) after e so = absurd so

  -- statements stand at points
  pub are_at : (points : List Position) (stmts : List Stmt) (ends : List Site) (after : List Loc) → map (site_of graph) points ≡ map Executes stmts ++ ends → EndsSo graph.pushed ends after
      → AreAt (sums.procedure_of graph) graph.pushed points stmts after
  are_at points [] ends after e so = ends_at points ends after e so
  are_at [] (s ∷ stmts) ends after e so = absurd (cc e)
  are_at (a ∷ points) (s ∷ stmts) ends after e so =
      let here : site_of graph a ≡ Executes s = cc e in
      (ap (sums.action_at graph.pushed) here, are_at points stmts ends after (cc e) so)
