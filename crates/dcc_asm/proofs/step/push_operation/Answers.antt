use Rattle.std.proofs.Common.{◌≡◌, List, ℕ, length, sym, subst, arith}
use Rattle.dcc_list.specs.Text.{Gives, operation_line}
use Rattle.dcc_asm.specs.Fault.{IsEncodable}
use Rattle.dcc_asm.specs.Steps.{IsStandardAt}
use Rattle.dcc_asm.proofs.StepLaws.{standard-gives, range-done, operation-word, never, done-by}
use Rattle.dcc_asm.proofs.step.push_operation.Goals as goal

pub returns-in-Some : goal.returns-in-Some
returns-in-Some c =
    let cpu = c.args.cpu in
    let cs = c.args.cs in
    let op = c.args.op in
    let old = c.args.image.now.items in
    let place : c.len.result ≡ length old = omega (arith, c.len.ensures) in
    let told : IsStandardAt cpu cs (length old) op c.in_ok-bytes.field-0 =
    subst (λ n. IsStandardAt cpu cs n op c.in_ok-bytes.field-0) place c.in_ok-bytes.ensures in
    let gives = standard-gives cpu cs (length old) op c.in_ok-bytes.field-0 c.in-Some.bytes c.in-Some.is told in
    done-by cpu cs old c.push_all.new.image.items c.as_slice.result.now (operation_line op) c.push_all.result c.push_all.ensures
    (subst (λ (t : List ℕ). Gives cpu cs (length old) (operation_line op) t) (sym c.as_slice.ensures) gives)

pub returns-then-branch : goal.returns-then-branch
returns-then-branch c =
    let old = c.args.image.now.items in
    let place : c.len.result ≡ length old = omega (arith, c.len.ensures) in
    let without = rw c.in-None.is at c.in_ok-bytes.ensures in
    range-done c.args.cpu c.args.cs old old c.args.op (c.in_ok-is_known-in-None.ensures.0 c.if-branch.true)
    (subst (λ n. ¬ IsEncodable c.args.cpu c.args.cs n c.args.op) place without)

pub returns-else-branch : goal.returns-else-branch
returns-else-branch c =
    operation-word c.args.cpu c.args.cs c.args.image.now.items c.args.image.now.items c.args.op c.requires.read
    (λ known. never _ c.if-branch.false (c.in_ok-is_known-in-None.ensures.1 known))
