use Rattle.std.proofs.Common.{◌≡◌, ◌++◌, List, ℕ, length, Some, slice_get, ◌==◌, refl, sym, ap, ◌∙◌, subst, append-nil, arith}
use Rattle.std.proofs.lemmas.Option.{slice_get_read}
use Rattle.dcc_list.specs.Text.{text_of}
use Rattle.dcc_list.specs.Listed.{procedure_line}
use Rattle.dcc_list.proofs.PeopleLaws.{line_if, line_if-true, line_if-false, procedure-added}
use Rattle.dcc_list.proofs.people.push_procedures.Goals as goal
use Rattle.dcc_list.proofs.people.push_procedures.Goals.{then-proc-at+in_ok-push_procedure, else-proc-at}

pub loop-i-preserved : goal.loop-i-preserved
loop-i-preserved c =
    let program = c.args.program.now in
    let procs = program.procs.items in
    let i = c.loop-i.i in
    let proc = c.proc-item.result in
    let frame = c.index.result.now in
    let removed = c.index-removed.result.now in
    let start = program.layout.start_ip in
    let line : List ℕ = procedure_line start proc frame.args removed in
    let before = c.loop-i.text.items in
    let added : c.if-proc-at.text.items ≡ before ++ text_of (line_if (proc.entry == c.args.at) line) = elim c.if-proc-at.branch [
      | then-proc-at+in_ok-push_procedure w ↦
          let same : c.if-proc-at.text.items ≡ w.push_procedure.new.text.items = cc in
          same ∙ w.in_ok-push_procedure.ensures
          ∙ ap (λ (l : List (List ℕ)). before ++ text_of l) (sym (line_if-true line proc.entry c.args.at w.if-proc-at.true))
      | else-proc-at w ↦
          let same : c.if-proc-at.text.items ≡ before = cc in
          same ∙ sym (append-nil before)
          ∙ ap (λ (l : List (List ℕ)). before ++ text_of l) (sym (line_if-false line proc.entry c.args.at w.if-proc-at.false))
    ] in
    let proc_is : slice_get procs i ≡ Some proc = subst (λ ps. slice_get ps i ≡ Some proc) c.deref-proc-items.ensures.value
    (slice_get_read c.deref-proc-items.result.now (length c.deref-proc-items.result.now) i proc refl (omega arith) c.proc-item.is) in
    let frame_is : slice_get program.cells.frames.items i ≡ Some frame = slice_get_read program.cells.frames.items (length program.cells.frames.items) i frame refl (omega (arith, c.requires.frames)) c.index.ensures in
    let removed_is : slice_get program.heights.ret.items i ≡ Some removed = slice_get_read program.heights.ret.items (length program.heights.ret.items) i removed refl (omega (arith, c.requires.removed)) c.index-removed.ensures in
    procedure-added start c.args.at procs program.cells.frames.items program.heights.ret.items i proc frame removed
    c.args.text.now.items before c.if-proc-at.text.items proc_is frame_is removed_is c.loop-i.invariant added
