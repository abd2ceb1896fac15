use Rattle.std.proofs.Common.{◌≡◌, sym, ap, subst, map}
use Rattle.std.specs.List.{AllZip}
use Rattle.dcc_ir.specs.Tree.{Goto, If, Switch, Ret, Stop}
use Rattle.dcc_ir.specs.Views.{expr_of, exit_of}
use Rattle.dcc_substitution.specs.Substitute.{IsSubstitute}
use Rattle.dcc_substitution.specs.Substituted.{IsSubstituteExit, goto, test, switch, ret, stop}
use Rattle.dcc_available.specs.Known.{known_of, IsTold}
use Rattle.dcc_available.proofs.known.Known.within_end.Goals as goal

pub returns-in-Goto-clause-substitute : goal.returns-in-Goto-clause-substitute
returns-in-Goto-clause-substitute c = subst (λ x. IsSubstituteExit (IsTold (known_of c.args.self.now)) x (Goto c.in-Goto.block)) (sym (ap exit_of c.in-Goto.is)) goto

pub returns-in_ok-within-in-If-clause-substitute : goal.returns-in_ok-within-in-If-clause-substitute
returns-in_ok-within-in-If-clause-substitute c =
    subst (λ x. IsSubstituteExit (IsTold (known_of c.args.self.now)) x (If (expr_of c.in_ok-within-in-If.field-0) c.in-If.one c.in-If.other)) (sym (ap exit_of c.in-If.is)) (test c.in_ok-within-in-If.ensures.substitute)

pub returns-in_ok-copied_blocks-in-Switch-clause-substitute : goal.returns-in_ok-copied_blocks-in-Switch-clause-substitute
returns-in_ok-copied_blocks-in-Switch-clause-substitute c =
    let e = expr_of c.in_ok-within-in-Switch.field-0 in
    let copied : c.in-Switch.blocks.items ≡ c.in_ok-copied_blocks-in-Switch.field-0.items = sym c.in_ok-copied_blocks-in-Switch.ensures in
    subst (λ x. IsSubstituteExit (IsTold (known_of c.args.self.now)) x (Switch e c.in_ok-copied_blocks-in-Switch.field-0.items)) (sym (ap exit_of c.in-Switch.is))
    (subst (λ places. IsSubstituteExit (IsTold (known_of c.args.self.now)) (Switch (expr_of c.in-Switch.value) c.in-Switch.blocks.items) (Switch e places)) copied (switch c.in_ok-within-in-Switch.ensures.substitute))

pub returns-in_ok-within_all-in-Ret-clause-substitute : goal.returns-in_ok-within_all-in-Ret-clause-substitute
returns-in_ok-within_all-in-Ret-clause-substitute c =
    let all = map expr_of c.in_ok-within_all-in-Ret.field-0.items in
    subst (λ x. IsSubstituteExit (IsTold (known_of c.args.self.now)) x (Ret all)) (sym (ap exit_of c.in-Ret.is))
    (ret (subst (λ xs. AllZip (IsSubstitute (IsTold (known_of c.args.self.now))) (map expr_of xs) all) c.as_slice.ensures.value c.in_ok-within_all-in-Ret.ensures.substitutes))

pub returns-in-Stop-clause-substitute : goal.returns-in-Stop-clause-substitute
returns-in-Stop-clause-substitute c = subst (λ x. IsSubstituteExit (IsTold (known_of c.args.self.now)) x Stop) (sym (ap exit_of c.in-Stop.is)) stop
