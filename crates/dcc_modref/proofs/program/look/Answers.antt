use Rattle.std.proofs.Common.{◌≡◌, ◌<◌, true, false, length, slice_set, ap, sym, ◌∙◌, subst, arith}
use Rattle.std.proofs.lemmas.List.{length-map, get_or_read}
use Rattle.std.proofs.lemmas.List.Elements.{All-get_or}
use Rattle.dcc_ir.specs.Run.{no_graph}
use Rattle.dcc_ir.specs.Tree.{Graph}
use Rattle.dcc_ir.specs.Views.{graph_of, program_of}
use Rattle.dcc_ir.specs.WellFormed.{IsGraph}
use Rattle.dcc_modref.specs.States.{told_in}
use Rattle.dcc_modref.specs.Losses.{GraphLoses}
use Rattle.dcc_modref.specs.Programs.{AreTelling, HasLooked}
use Rattle.dcc_modref.proofs.ProgramLaws.{graph_here, one_told, one_looked}
use Rattle.dcc_modref.proofs.program.look.Goals as goal

pub loses-requires : goal.loses-requires
loses-requires c =
    let p = program_of c.args.p.now in
    let graphs = c.args.p.now.graphs.items in
    let inside : c.args.at < length p.graphs = omega (arith, c.requires.at, length-map graphs graph_of) in
    subst IsGraph (sym (graph_here graphs c.args.at c.index-graph.result.now c.requires.at c.index-graph.ensures)) (All-get_or IsGraph p.graphs c.args.at no_graph inside c.requires.program.graphs)

-- what a graph that loses the location tells, and that it is a further one
told : (c : goal.After-changed-1) →
    AreTelling (program_of c.args.p.now) c.args.location (slice_set c.args.changed.now.items c.index-graph.result.now.entry true)
    × HasLooked (program_of c.args.p.now) c.args.location c.args.changed.now.items (slice_set c.args.changed.now.items c.index-graph.result.now.entry true) c.in_ok-lost.lost (λ place. place ≡ c.args.at)
told c =
    let p = program_of c.args.p.now in
    let l = c.args.location in
    let graphs = c.args.p.now.graphs.items in
    let changed = c.args.changed.now.items in
    let graph = graph_of c.index-graph.result.now in
    let here = graph_here graphs c.args.at c.index-graph.result.now c.requires.at c.index-graph.ensures in
    let inside : c.args.at < length p.graphs = omega (arith, c.requires.at, length-map graphs graph_of) in
    let below = (All-get_or IsGraph p.graphs c.args.at no_graph inside c.requires.program.graphs).entry in
    let lost = subst (λ g. GraphLoses (told_in changed) g l) here (subst (λ s. GraphLoses (told_in s) graph l) c.as_slice.ensures.value (c.in_ok-lost.ensures.0 c.if-lost.true)) in
    let under = ap (λ (g : Graph). g.entry) here in
    let room : graph.entry < length changed = omega (arith, below, under, c.requires.telling.count) in
    let untold = sym (get_or_read changed graph.entry c.index.result.now room c.index.ensures false) ∙ c.if-index.false in (
      subst (λ (g : Graph). AreTelling p l (slice_set changed g.entry true)) (sym here) (one_told p l c.requires.program c.requires.passes changed c.requires.telling c.args.at inside below lost),
      subst (λ (g : Graph). HasLooked p l changed (slice_set changed g.entry true) c.in_ok-lost.lost (λ place. place ≡ c.args.at)) (sym here)
          (one_looked p l c.requires.program c.requires.passes changed c.requires.telling c.args.at c.in_ok-lost.lost below (ap (λ (g : Graph). told_in changed g.entry) (sym here) ∙ untold) c.if-lost.true),
    )

pub returns-then-lost-clause-telling : goal.returns-then-lost-clause-telling
returns-then-lost-clause-telling c = (told c).0

pub returns-then-lost-clause-looked : goal.returns-then-lost-clause-looked
returns-then-lost-clause-looked c = (told c).1
