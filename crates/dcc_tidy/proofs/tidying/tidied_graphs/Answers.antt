use Rattle.std.proofs.Common.{◌≡◌, List, [], ◌∷◌, ◌++◌, map, sym, ap, subst}
use Rattle.std.specs.Prelude.{All}
use Rattle.std.specs.List.{AllZip}
use Rattle.std.proofs.lemmas.List.{map-append}
use Rattle.std.proofs.lemmas.List.Elements.{All-head, All-tail, AllZip-push}
use Rattle.dcc_ir.specs.Views.{graph_of}
use Rattle.dcc_rules.specs.Views.{numbers_of}
use Rattle.dcc_ir.specs.WellFormed.{IsGraph}
use Rattle.dcc_tidy.specs.Tidied.{IsTidiedGraph}
use Rattle.dcc_tidy.proofs.tidying.tidied_graphs.Goals as goal

-- one more of each list
pushed : {A B : Type 0} (f : A → B) (R : B → B → Type 0) (xs ys : List A) (x y : A) (more : List A)
    → more ≡ ys ++ y ∷ [] → AllZip R (map f xs) (map f ys) → R (f x) (f y)
    → AllZip R (map f (xs ++ x ∷ [])) (map f more)
pushed f R xs ys x y more made zipped is =
    subst (λ zs. AllZip R (map f (xs ++ x ∷ [])) (map f zs)) (sym made)
    (rw (map-append f xs (x ∷ []), map-append f ys (y ∷ []))
    (AllZip-push R (map f xs) (map f ys) (f x) (f y) zipped is))

pub tidied_graph-requires : goal.tidied_graph-requires
tidied_graph-requires g c =
    All-head IsGraph (graph_of c.in-Some.graph) (map graph_of c.next.new.self.rest.items)
    (subst (All IsGraph) (ap (map graph_of) c.in-Some.ensures.steps.0) c.loop-graph.invariant.1)

pub loop-graph-preserved : goal.loop-graph-preserved
loop-graph-preserved g c =
    let done = c.loop-graph.yielded in
    let left = c.loop-graph.after.items in
    let graph = c.in-Some.graph in (
      pushed graph_of (IsTidiedGraph (numbers_of c.args.rules.now)) done left graph c.in_ok-tidied_graph.field-0 c.push.new.self.items
          c.in_ok-push.ensures.items c.loop-graph.invariant.0 c.in_ok-tidied_graph.ensures,
      All-tail IsGraph (graph_of graph) (map graph_of c.next.new.self.rest.items)
          (subst (All IsGraph) (ap (map graph_of) c.in-Some.ensures.steps.0) c.loop-graph.invariant.1),
    )
