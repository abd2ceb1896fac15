use Rattle.std.proofs.Common.{ap, ◌∙◌}
use Rattle.dcc_prog.proofs.FoundNodes.{instruction_by, found-instruction}
use Rattle.dcc_prog.proofs.procedure.Proc.instruction_at.Goals as goal

pub returns-in_err-node : goal.returns-in_err-node
returns-in_err-node c image layout found node =
    c.from_residual.ensures ∙ ap instruction_by c.in_err-node.ensures.value ∙ found-instruction image layout c.args.self.now found c.args.at node

pub returns : goal.returns
returns c image layout found node =
    ap instruction_by c.in_ok-node.ensures.value ∙ found-instruction image layout c.args.self.now found c.args.at node
