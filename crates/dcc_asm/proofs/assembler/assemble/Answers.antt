use Rattle.std.proofs.Common.{◌≤◌, List, ℕ, length, sym, ◌∙◌, subst, arith}
use Rattle.dcc_asm.specs.Fault.{text_most, HasHead, too_long, no_head}
use Rattle.dcc_asm.proofs.RunLaws.{faults-first}
use Rattle.dcc_asm.proofs.assembler.assemble.Goals as goal

pub returns-then-len-gt-TEXT_MOST-clause-refused : goal.returns-then-len-gt-TEXT_MOST-clause-refused
returns-then-len-gt-TEXT_MOST-clause-refused c = too_long (omega (arith, c.if-len-gt-TEXT_MOST.true, c.len.ensures))

pub returns-in-Some-clause-refused : goal.returns-in-Some-clause-refused
returns-in-Some-clause-refused c =
    let fits : length c.args.text.now.items ≤ text_most = omega (arith, c.if-len-gt-TEXT_MOST.false, c.len.ensures) in
    faults-first c.in-Some.heading.cpu c.in-Some.heading.cs c.args.text.now.items _ c.assemble_lines.result fits
    (sym c.as_slice.ensures.value ∙ (rw c.in-Some.is at c.in_ok-heading.ensures)) c.assemble_lines.ensures.refused

pub returns-in-None-clause-refused : goal.returns-in-None-clause-refused
returns-in-None-clause-refused c =
    let fits : length c.args.text.now.items ≤ text_most = omega (arith, c.if-len-gt-TEXT_MOST.false, c.len.ensures) in
    no_head fits (subst (λ (t : List ℕ). ¬ HasHead t) c.as_slice.ensures.value (rw c.in-None.is at c.in_ok-heading.ensures))
