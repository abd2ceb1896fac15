use Rattle.std.proofs.Common.{map, refl, subst}
use Rattle.std.specs.List.{AllZip}
use Rattle.dcc_ir.specs.Tree.{Graph}
use Rattle.dcc_ir.specs.Views.{block_of, graph_of}
use Rattle.dcc_rules.specs.Views.{numbers_of}
use Rattle.dcc_simplify.specs.Reshaped.{IsBlockAs, IsGraphAs}
use Rattle.dcc_simplify.specs.Simplified.{IsSimplified}
use Rattle.dcc_simplify.proofs.TidyLaws.{tidied-by, no-deeper}
use Rattle.dcc_simplify.proofs.graph.simplified.Goals as goal

pub returns-clause-simplified : goal.returns-clause-simplified
returns-clause-simplified g c = record {
  entry = refl;
  params = refl;
  local = refl;
  pushed = refl;
  bits = refl;
  blocks = subst (λ bits. AllZip (IsBlockAs (IsSimplified (numbers_of c.args.rules.now) bits)) (map block_of c.args.g.blocks.items) (map block_of c.in_ok-blocks.blocks.items))
      c.as_slice.ensures.value c.in_ok-blocks.ensures;
}

pub returns-clause-tidied : goal.returns-clause-tidied
returns-clause-tidied g c = tidied-by (numbers_of c.args.rules.now) (graph_of c.args.g) _ (returns-clause-simplified g c) c.requires

pub returns-clause-depth : goal.returns-clause-depth
returns-clause-depth g c = no-deeper (numbers_of c.args.rules.now) (graph_of c.args.g) _ (returns-clause-simplified g c)
