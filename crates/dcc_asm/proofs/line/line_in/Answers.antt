use Rattle.std.proofs.Common.{◌≡◌, Some, sym, ap, ◌∙◌}
use Rattle.std.specs.Prelude.{option_map}
use Rattle.dcc_asm.specs.Form.{form_of, read_form}
use Rattle.dcc_asm.proofs.ReadForm.{none-read, other-read}
use Rattle.dcc_asm.proofs.StepLaws.{never}
use Rattle.dcc_asm.proofs.line.line_in.Goals as goal

pub returns-in-None : goal.returns-in-None
returns-in-None c = none-read c.args.text.now c.in_ok-line.field-0 c.in_ok-line.ensures c.in-None.is

pub returns-else-branch : goal.returns-else-branch
returns-else-branch c =
    let read : Some (form_of c.in-Some.line) ≡ read_form c.args.text.now =
    ap (option_map form_of) (sym c.in-Some.is) ∙ c.in_ok-line.ensures in
    other-read c.args.text.now c.in-Some.line read
    (λ sized same. never _ c.if-branch.false (c.in_ok-is_told-in-Some.ensures.1 (sized, same)))
