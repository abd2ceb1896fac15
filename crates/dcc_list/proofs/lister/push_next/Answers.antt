use Rattle.std.proofs.Common.{◌≡◌, ◌+◌, ◌-◌, ◌≤◌, ℕ, List, length, take, drop, ap, ◌∙◌, arith}
use Rattle.dcc_machine.proofs.MzImageLaws.{length-loaded}
use Rattle.dcc_list.proofs.Advancing.{advance-instruction, advance-bytes}
use Rattle.dcc_list.proofs.lister.push_next.Goals as goal

pub push_people-requires-clause-place : goal.push_people-requires-clause-place
push_people-requires-clause-place c = let l = length-loaded c.args.image.now c.requires.loaded in omega (arith, l, c.requires.place)

pub listed_instruction-requires-clause-place : goal.listed_instruction-requires-clause-place
listed_instruction-requires-clause-place c = let l = length-loaded c.args.image.now c.requires.loaded in omega (arith, l, c.requires.place)

pub count_between-requires-clause-small : goal.count_between-requires-clause-small
count_between-requires-clause-small c = let l = length-loaded c.args.image.now c.requires.loaded in omega (arith, l, c.requires.place)

pub returns-in_ok-push_instruction-in-Some-clause-advances : goal.returns-in_ok-push_instruction-in-Some-clause-advances
returns-in_ok-push_instruction-in-Some-clause-advances c prelude is =
    let image = c.args.image.now in
    let place = c.args.place in
    let size = c.from.result in
    let cut : place + size - place ≡ size = omega arith in
    let within = c.in-Some.ensures.within in
    let fits : place + size ≤ length image.bytes.items = omega (arith, within.1, c.from.ensures) in
    advance-instruction image c.args.program.now prelude place c.in-Some.at size c.in-Some.instr
    c.args.text.now.items c.push_people.new.text.items c.push_instruction.new.text.items _
    (c.in_ok-push_people.ensures prelude is.right) (c.in-Some.ensures.stands prelude is) c.from.ensures
    (ap (λ n. take n (drop place c.deref.result.now)) cut ∙ ap (λ (xs : List ℕ). take size (drop place xs)) c.deref.ensures.value)
    c.in_ok-push_instruction-in-Some.ensures fits

pub returns-in_ok-push_bytes_line-in-None-clause-advances : goal.returns-in_ok-push_bytes_line-in-None-clause-advances
returns-in_ok-push_bytes_line-in-None-clause-advances c prelude is =
    let place = c.args.place in
    let count = c.count_between.result in
    let cut : place + count - place ≡ count = omega arith in
    advance-bytes c.args.image.now c.args.program.now prelude place count
    c.args.text.now.items c.push_people.new.text.items c.push_bytes_line.new.text.items _
    (c.in_ok-push_people.ensures prelude is.right) (c.in-None.ensures.stands prelude is) (c.count_between.ensures.between prelude is.right)
    (ap (λ n. take n (drop place c.deref-in-None.result.now)) cut ∙ ap (λ (xs : List ℕ). take count (drop place xs)) c.deref-in-None.ensures.value)
    c.in_ok-push_bytes_line-in-None.ensures
