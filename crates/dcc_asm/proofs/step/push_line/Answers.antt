use Rattle.std.proofs.Common.{sym, ◌∙◌, arith}
use Rattle.std.proofs.lemmas.Bool.Decides.{nat_tests}
use Rattle.dcc_asm.specs.Form.{form_of}
use Rattle.dcc_asm.proofs.StepLaws.{comment-done, word-done, tells-itself}
use Rattle.dcc_asm.proofs.step.push_line.Goals as goal

pub returns-then-byte_of-eq59 : goal.returns-then-byte_of-eq59
returns-then-byte_of-eq59 c =
    comment-done c.args.cpu c.args.cs c.args.image.now.items c.args.line.now c.requires.few (sym c.byte_of.ensures ∙ c.if-byte_of-eq59.true)

pub push_told-requires-clause-tells : goal.push_told-requires-clause-tells
push_told-requires-clause-tells c =
    tells-itself c.args.line.now (form_of c.in-Some.told) (rw c.in-Some.is at c.in_ok-told.ensures)

pub returns-in-None : goal.returns-in-None
returns-in-None c =
    word-done c.args.cpu c.args.cs c.args.image.now.items c.args.image.now.items c.args.line.now
    (grind (arith, nat_tests, c.byte_of.ensures, c.if-byte_of-eq59.false)) (rw c.in-None.is at c.in_ok-told.ensures)
