use Rattle.std.proofs.Common.{◌∙◌, ap₂}
use Rattle.dcc_lift.specs.Blocks.{leaders}
use Rattle.dcc_lift.proofs.outline.Outline.new.Goals as goal

pub returns-clause-leaders : goal.returns-clause-leaders
returns-clause-leaders c = record {
  scene = c.requires;
  edges = c.in_ok-instructions.ensures.edges;
  nodes = c.in_ok-instructions.ensures.nodes;
  start = c.in_ok-instructions.ensures.start;
  leaders_are = c.in_ok-leaders.ensures
      ∙ ap₂ leaders c.in_ok-instructions.ensures.nodes c.in_ok-instructions.ensures.start;
}
