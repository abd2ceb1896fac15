use Rattle.std.proofs.Common.{None, Some, sym, ◌∙◌}
use Rattle.dcc_prog.proofs.TrailLaws.{node-entry}
use Rattle.dcc_prog.proofs.FoundNodes.{framed-second}
use Rattle.dcc_prog.proofs.procedure.Proc.is_framed.Goals as goal

pub returns-in-None : goal.returns-in-None
returns-in-None c image layout found =
    let entry = c.args.self.now.entry in
    framed-second image layout entry c.in-Some.first
    (sym (c.in-Some.ensures image layout found (node-entry image layout entry)))
    (sym c.is_push_bp.ensures ∙ c.if-not-is_push_bp.false) _ c.next_of.ensures None
    (c.in-None.ensures image layout found)

pub returns-in-Some-instruction_at : goal.returns-in-Some-instruction_at
returns-in-Some-instruction_at c image layout found =
    let entry = c.args.self.now.entry in
    let second =
    framed-second image layout entry c.in-Some.first
    (sym (c.in-Some.ensures image layout found (node-entry image layout entry)))
    (sym c.is_push_bp.ensures ∙ c.if-not-is_push_bp.false) _ c.next_of.ensures (Some _)
    (c.in-Some-instruction_at.ensures image layout found) in
    c.is_mov_bp_sp.ensures ∙ second
