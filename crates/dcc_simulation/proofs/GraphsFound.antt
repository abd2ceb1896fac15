-- The graph with an entry is that of the procedure with it.
use Rattle.std.proofs.Common.{◌≡◌, ℕ, ◌==◌, Bool, true, false, List, [], ◌∷◌, map, Some, refl, sym, ap, ◌∙◌, subst}
use Rattle.std.specs.Prelude.{if◌then◌else◌}
use Rattle.std.specs.List.{AllZip}
use Rattle.dcc_ir.specs.Tree.{Graph}
use Rattle.dcc_ir.specs.Run.{graph_at}
use Rattle.dcc_simulation.specs.Procedures.{Procedure, procedure_at}
use Rattle.dcc_simulation.specs.Nodes.{IsGraphFor}

-- the graph with an entry is that of the procedure with it
pub graph-for : (start : ℕ) (procedures : List Procedure) (graphs : List Graph) (entry : ℕ) (p : Procedure)
    (graph : Graph) → AllZip (IsGraphFor start) procedures graphs → procedure_at procedures entry ≡ Some p
    → graph_at graphs entry ≡ Some graph
    → IsGraphFor start p graph
graph-for start [] graphs entry p graph all found is = cc
graph-for start (q ∷ procedures) [] entry p graph all found is = cc
graph-for start (q ∷ procedures) (g ∷ graphs) entry p graph all found is =
    by (q.proc.entry == entry) found
    (ap (λ n. if n == entry then Some g else graph_at graphs entry) (sym all.0.entry) ∙ is)
    (λ later more. graph-for start procedures graphs entry p graph all.1 later more)
  where
    by : (b : Bool) → (if b then Some q else procedure_at procedures entry) ≡ Some p
        → (if b then Some g else graph_at graphs entry) ≡ Some graph
        → (procedure_at procedures entry ≡ Some p → graph_at graphs entry ≡ Some graph → IsGraphFor start p graph)
        → IsGraphFor start p graph
    by true one other later =
        let same : q ≡ p = cc in
        let also : g ≡ graph = cc in
        subst (λ r. IsGraphFor start r graph) same (subst (IsGraphFor start q) also all.0)
    by false one other later = later one other

-- Lists.

pub map-twice : {X Y Z : Type 0} (f : Y → Z) (g : X → Y) (xs : List X) → map f (map g xs) ≡ map (λ x. f (g x)) xs
map-twice f g [] = refl
map-twice f g (x ∷ xs) = ap (λ l. f (g x) ∷ l) (map-twice f g xs)
