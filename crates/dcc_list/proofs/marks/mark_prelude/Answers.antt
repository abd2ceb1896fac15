use Rattle.std.proofs.Common.{◌≡◌, ◌+◌, ◌<◌, ◌≤◌, ℕ, List, length, drop, slice_set, true, Some, sym, ap, ◌∙◌, subst, arith}
use Rattle.dcc_machine.specs.Code.{code_of}
use Rattle.dcc_machine.specs.Table.{instruction_at}
use Rattle.dcc_machine.proofs.TableLaws.{instruction-length}
use Rattle.dcc_list.specs.Listed.{offsets_from}
use Rattle.dcc_list.specs.MarkViews.{IsLeft}
use Rattle.dcc_list.proofs.MarkLaws.{left-stands, left-next, left-none}
use Rattle.dcc_list.proofs.marks.mark_prelude.Goals as goal

pub returns-in_default : goal.returns-in_default
returns-in_default c prelude run ends at =
    let cpu = c.args.program.now.layout.cpu in
    let start = c.args.program.now.layout.start_ip in
    let before : c.loop-at.at < start = omega (arith, c.loop-at-test.true, c.from-start.ensures) in
    let stands = left-stands cpu (code_of c.args.image.now) c.loop-at.at start c.loop-at.marks c.args.marks.now
    (offsets_from c.args.image.now.ip prelude) (c.loop-at.invariant prelude run ends) before in
    absurd (c.in_default.not-Some stands.0
    (c.decode.ensures ∙ ap (λ (code : List ℕ). instruction_at cpu c.loop-at.at (drop c.loop-at.at code)) c.code-code.ensures.code ∙ stands.1))

pub loop-at-smaller : goal.loop-at-smaller
loop-at-smaller c =
    let cpu = c.args.program.now.layout.cpu in
    let found : instruction_at cpu c.loop-at.at (drop c.loop-at.at c.code-code.result.now) ≡ Some c.in-Some.instr = sym c.decode.ensures ∙ c.in-Some.is in
    let some = (instruction-length cpu c.loop-at.at (drop c.loop-at.at c.code-code.result.now) c.in-Some.instr found).0 in
    omega (arith, some, c.loop-at-test.true, c.from-at-in-loop-at.ensures)

pub loop-at-preserved : goal.loop-at-preserved
loop-at-preserved c prelude run ends =
    let cpu = c.args.program.now.layout.cpu in
    let start = c.args.program.now.layout.start_ip in
    let code = code_of c.args.image.now in
    let offsets = offsets_from c.args.image.now.ip prelude in
    let before : c.loop-at.at < start = omega (arith, c.loop-at-test.true, c.from-start.ensures) in
    let within : c.loop-at.at < length c.loop-at.marks = omega (arith, before, c.requires.length, c.loop-at.auto.marks) in
    let found : instruction_at cpu c.loop-at.at (drop c.loop-at.at code) ≡ Some c.in-Some.instr =
    sym (c.decode.ensures ∙ ap (λ (code : List ℕ). instruction_at cpu c.loop-at.at (drop c.loop-at.at code)) c.code-code.ensures.code) ∙ c.in-Some.is in
    subst (λ n. IsLeft cpu code (c.loop-at.at + n) start (slice_set c.loop-at.marks c.loop-at.at true) c.args.marks.now offsets) (sym c.from-at-in-loop-at.ensures)
    (left-next cpu code c.loop-at.at start c.loop-at.marks c.args.marks.now offsets c.in-Some.instr (c.loop-at.invariant prelude run ends) before within found)

pub returns : goal.returns
returns c prelude run ends at =
    let past : c.args.program.now.layout.start_ip ≤ c.loop-at.at = omega (arith, c.loop-at-test.false, c.from-start.ensures) in
    left-none c.args.program.now.layout.cpu (code_of c.args.image.now) c.loop-at.at c.args.program.now.layout.start_ip c.loop-at.marks c.args.marks.now
    (offsets_from c.args.image.now.ip prelude) at (c.loop-at.invariant prelude run ends) past
