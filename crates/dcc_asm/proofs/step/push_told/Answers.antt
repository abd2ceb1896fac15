use Rattle.std.proofs.Common.{◌≡◌, List, ℕ, length, sym, ap, ◌∙◌, subst, arith}
use Rattle.dcc_list.specs.Text.{IsOffset}
use Rattle.dcc_asm.specs.Form.{bytes, operation, odd, form_of, form_line}
use Rattle.dcc_asm.proofs.StepLaws.{told-read, place-stays, place-offends, bytes-give, never, done-by}
use Rattle.dcc_asm.proofs.step.push_told.Goals as goal

pub push_operation-requires-clause-read : goal.push_operation-requires-clause-read
push_operation-requires-clause-read c =
    told-read (form_of c.args.line.now) (operation c.in-Operation.op) (ap form_of c.in-Operation.is) c.requires.tells

pub push_odd-requires-clause-read : goal.push_odd-requires-clause-read
push_odd-requires-clause-read c =
    let told = c.as_slice-in-Odd.result.now in
    let same : form_of c.args.line.now ≡ odd told c.in-Odd.op =
    ap form_of c.in-Odd.is ∙ ap (λ (t : List ℕ). odd t c.in-Odd.op) (sym c.as_slice-in-Odd.ensures.value) in
    told-read (form_of c.args.line.now) (odd told c.in-Odd.op) same c.requires.tells

pub returns-then-is_offset : goal.returns-then-is_offset
returns-then-is_offset c =
    let old = c.args.image.now.items in
    let place : c.len.result ≡ length old = omega (arith, c.len.ensures) in
    place-stays c.args.cpu c.args.cs old (form_of c.args.line.now) c.in-Place.at (ap form_of c.in-Place.is) c.requires.tells c.requires.few
    (subst (λ n. IsOffset c.args.cs n c.in-Place.at) place (c.is_offset.ensures.0 c.if-is_offset.true))

pub returns-else-is_offset : goal.returns-else-is_offset
returns-else-is_offset c =
    let old = c.args.image.now.items in
    let place : length old ≡ c.len.result = omega (arith, c.len.ensures) in
    place-offends c.args.cpu c.args.cs old old (form_of c.args.line.now) c.in-Place.at (ap form_of c.in-Place.is) c.requires.tells
    (λ is. never _ c.if-is_offset.false (c.is_offset.ensures.1 (subst (λ n. IsOffset c.args.cs n c.in-Place.at) place is)))

pub returns-in-Bytes : goal.returns-in-Bytes
returns-in-Bytes c =
    let old = c.args.image.now.items in
    let told = c.as_slice.result.now in
    let form = form_of c.args.line.now in
    let same : form ≡ bytes told = ap form_of c.in-Bytes.is ∙ ap (λ (t : List ℕ). bytes t) (sym c.as_slice.ensures.value) in
    done-by c.args.cpu c.args.cs old c.push_all.new.image.items told (form_line form) c.push_all.result c.push_all.ensures
    (bytes-give c.args.cpu c.args.cs (length old) form told same c.requires.tells)
