use Rattle.std.proofs.Common.{List, ℕ, sym, subst, arith}
use Rattle.dcc_asm.specs.Steps.{Reads}
use Rattle.dcc_asm.proofs.RunLaws.{reads-first, reads-more, reads-offends, reads-unended, grown-by, some-left}
use Rattle.dcc_asm.proofs.assembler.assemble_lines.Goals as goal

pub loop-left-init : goal.loop-left-init
loop-left-init c =
    subst (λ (image : List ℕ). Reads c.args.cpu c.args.cs c.args.text.now image c.args.text.now 2) (sym c.new-image.ensures.items)
    (reads-first c.args.cpu c.args.cs c.args.text.now (omega (arith, c.ranges.cs.fits)))

pub returns-in-Some-2-clause-refused : goal.returns-in-Some-2-clause-refused
returns-in-Some-2-clause-refused c =
    let found = c.in-Some.ensures in
    reads-offends c.args.cpu c.args.cs c.args.text.now c.loop-left.image.items c.loop-left.left.now c.in-Some.line.now c.in-Some.rest.now
    c.loop-left.number c.in-Some-2.kind c.loop-left.invariant found.0 found.1 (rw c.in-Some-2.is at c.in_ok-kind-in-Some.ensures)

pub loop-left-preserved : goal.loop-left-preserved
loop-left-preserved c =
    let found = c.in-Some.ensures in
    reads-more c.args.cpu c.args.cs c.args.text.now c.loop-left.image.items c.push_line.new.image.items c.loop-left.left.now
    c.in-Some.line.now c.in-Some.rest.now c.loop-left.number c.loop-left.invariant found.0 found.1
    (grown-by c.args.cpu c.args.cs c.loop-left.image.items c.push_line.new.image.items c.in-Some.line.now c.in_ok-kind-in-Some.field-0
    c.in_default.not-Some c.in_ok-kind-in-Some.ensures)

pub returns-in-None-clause-refused : goal.returns-in-None-clause-refused
returns-in-None-clause-refused c =
    reads-unended c.args.cpu c.args.cs c.args.text.now c.loop-left.image.items c.loop-left.left.now c.loop-left.number
    c.loop-left.invariant c.in-None.ensures (some-left c.loop-left.left.now c.loop-left-test.ensures)
