use Rattle.std.proofs.Common.{◌+◌, sym, ap, subst, refl, arith}
use Rattle.dcc_machine.specs.Code.{code_of}
use Rattle.dcc_prog.specs.Layout.{IsFormAt}
use Rattle.dcc_prog.proofs.PreludeLaws.{form-inside}
use Rattle.dcc_layout.proofs.Scanning.{scanned-start, scanned-passed, scanned-kept, scanned-end}
use Rattle.dcc_layout.proofs.prelude.prelude_of.Goals as goal

pub loop-instr-init : goal.loop-instr-init
loop-instr-init c =
    scanned-start c.args.cpu c.args.image.now c.from-at.result c.new-registers.result _ c.from-at.ensures c.new-registers.ensures refl refl

pub overflow_add-at : goal.overflow_add-at
overflow_add-at c =
    let inside = form-inside c.args.cpu c.code-code.result.now c.loop-instr.at c.in-Some.instr c.in-Some.ensures.found in
    let short = c.code-code.ensures.short in
    omega (arith, inside.0, inside.1, c.from-at-in-Some.ensures, short)

pub loop-instr-smaller-then-may_end_prelude : goal.loop-instr-smaller-then-may_end_prelude
loop-instr-smaller-then-may_end_prelude c =
    let inside = form-inside c.args.cpu c.code-code.result.now c.loop-instr.at c.in-Some.instr c.in-Some.ensures.found in
    omega (arith, inside.0, inside.1, c.from-at-in-Some.ensures)

pub loop-instr-preserved-then-may_end_prelude : goal.loop-instr-preserved-then-may_end_prelude
loop-instr-preserved-then-may_end_prelude c =
    let is : IsFormAt c.args.cpu (code_of c.args.image.now) c.loop-instr.at c.in-Some.instr =
    subst (λ l. IsFormAt c.args.cpu l c.loop-instr.at c.in-Some.instr) c.code-code.ensures.code c.in-Some.ensures.found in
    scanned-kept c.args.cpu c.args.image.now c.loop-instr.at _ c.loop-instr.registers c.execute.new.self c.loop-instr.prelude c.in-Some.instr c.loop-instr.invariant is (ap (λ n. c.loop-instr.at + n) c.from-at-in-Some.ensures) c.execute.ensures _ (sym c.if-may_end_prelude.ensures) refl refl

pub loop-instr-smaller : goal.loop-instr-smaller
loop-instr-smaller c =
    let inside = form-inside c.args.cpu c.code-code.result.now c.loop-instr.at c.in-Some.instr c.in-Some.ensures.found in
    omega (arith, inside.0, inside.1, c.from-at-in-Some.ensures)

pub loop-instr-preserved : goal.loop-instr-preserved
loop-instr-preserved c =
    let is : IsFormAt c.args.cpu (code_of c.args.image.now) c.loop-instr.at c.in-Some.instr =
    subst (λ l. IsFormAt c.args.cpu l c.loop-instr.at c.in-Some.instr) c.code-code.ensures.code c.in-Some.ensures.found in
    scanned-passed c.args.cpu c.args.image.now c.loop-instr.at _ c.loop-instr.registers c.execute.new.self c.loop-instr.prelude c.in-Some.instr c.loop-instr.invariant is (ap (λ n. c.loop-instr.at + n) c.from-at-in-Some.ensures) c.execute.ensures (sym c.if-may_end_prelude.ensures)

pub returns : goal.returns
returns c =
    scanned-end c.args.cpu c.args.image.now c.loop-instr.at c.loop-instr.registers c.loop-instr.prelude c.requires c.loop-instr.invariant (λ instr is.
    let there : IsFormAt c.args.cpu c.code-code.result.now c.loop-instr.at instr = subst (λ l. IsFormAt c.args.cpu l c.loop-instr.at instr) (sym c.code-code.ensures.code) is in
    c.form_at.ensures.none (let e = c.in_default.is in cc) instr there)
