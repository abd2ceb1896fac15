use Rattle.std.proofs.Common.{◌≡◌, ◌++◌, length, Some, slice_get, string_bytes, refl, ap, ◌∙◌, subst, arith}
use Rattle.std.specs.Prelude.{codes}
use Rattle.std.proofs.lemmas.Option.{slice_get_read}
use Rattle.dcc_top.specs.Procedures.{summary_of, summary_line}
use Rattle.dcc_top.proofs.ProceduresLaws.{line-added}
use Rattle.dcc_top.proofs.procedures.procedure_lines.Goals as goal

pub loop-i-preserved : goal.loop-i-preserved
loop-i-preserved c =
    let program = c.args.program.now in
    let procs = program.procs.items in
    let i = c.loop-i.i in
    let proc = c.proc-item.result in
    let frame = c.index.result.now in
    let removed = c.index-in-loop-i.result.now in
    let summary = summary_of proc frame removed in
    let nodes : c.len.result ≡ length proc.nodes.entries = c.len.ensures.len in
    let written : string_bytes c.in_ok-line.line ≡ summary_line summary ++ codes "\n" = c.in_ok-line.ensures.ok ∙ ap (λ n. summary_line (record { entry = proc.entry; nodes = n; args = frame.args; ret = removed }) ++ codes "\n") nodes in
    let proc_is : slice_get procs i ≡ Some proc = subst (λ ps. slice_get ps i ≡ Some proc) c.deref-proc-items.ensures.value
    (slice_get_read c.deref-proc-items.result.now (length c.deref-proc-items.result.now) i proc refl (omega arith) c.proc-item.is) in
    let frame_is : slice_get program.cells.frames.items i ≡ Some frame = slice_get_read program.cells.frames.items (length program.cells.frames.items) i frame refl (omega (arith, c.requires.frames)) c.index.ensures in
    let removed_is : slice_get program.heights.ret.items i ≡ Some removed = slice_get_read program.heights.ret.items (length program.heights.ret.items) i removed refl (omega (arith, c.requires.removed)) c.index-in-loop-i.ensures in
    line-added procs program.cells.frames.items program.heights.ret.items i proc frame removed
    (string_bytes c.loop-i.lines) (string_bytes c.push_str.new.self) c.as_str.result.now
    proc_is frame_is removed_is c.loop-i.invariant c.in_ok-push_str.ensures.bytes (c.as_str.ensures.value ∙ written)
