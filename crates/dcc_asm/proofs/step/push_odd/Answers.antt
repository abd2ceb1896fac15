use Rattle.std.proofs.Common.{◌≡◌, length, subst, arith}
use Rattle.dcc_list.specs.Text.{odd_line}
use Rattle.dcc_asm.specs.Fault.{IsOdd}
use Rattle.dcc_asm.proofs.StepLaws.{bytes-each, odd-gives, odd-done, odd-word, never, done-by}
use Rattle.dcc_asm.proofs.step.push_odd.Goals as goal

pub returns-then-branch : goal.returns-then-branch
returns-then-branch c =
    let old = c.args.image.now.items in
    let told = c.args.bytes.now in
    let place : c.len.result ≡ length old = omega (arith, c.len.ensures) in
    let is : IsOdd c.args.cpu c.args.cs (length old) told c.args.op =
    subst (λ n. IsOdd c.args.cpu c.args.cs n told c.args.op) place (c.in_ok-is_odd.ensures.0 c.if-branch.true) in
    done-by c.args.cpu c.args.cs old c.push_all.new.image.items told (odd_line told c.args.op) c.push_all.result c.push_all.ensures
    (odd-gives c.args.cpu c.args.cs (length old) told c.args.op is)

pub returns-then-branch-2 : goal.returns-then-branch-2
returns-then-branch-2 c =
    let old = c.args.image.now.items in
    let told = c.args.bytes.now in
    let place : length old ≡ c.len.result = omega (arith, c.len.ensures) in
    odd-done c.args.cpu c.args.cs old old told c.args.op
    (record { some = c.requires.some; each = bytes-each told c.type_inv.bytes }) (c.in_ok-is_known.ensures.0 c.if-branch-2.true)
    (λ is. never _ c.if-branch.false (c.in_ok-is_odd.ensures.1 (subst (λ n. IsOdd c.args.cpu c.args.cs n told c.args.op) place is)))

pub returns-else-branch-2 : goal.returns-else-branch-2
returns-else-branch-2 c =
    odd-word c.args.cpu c.args.cs c.args.image.now.items c.args.image.now.items c.args.bytes.now c.args.op c.requires.read
    (λ known. never _ c.if-branch-2.false (c.in_ok-is_known.ensures.1 known))
