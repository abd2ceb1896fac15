use Rattle.std.proofs.Common.{◌≡◌, List, length, Some, refl, sym, ap, ◌∙◌, arith}
use Rattle.dcc_c.specs.Token.{same_bytes}
use Rattle.dcc_prepare.specs.declared.program.Label.{Label}
use Rattle.dcc_prepare.specs.Points.{label_named, point_named}
use Rattle.dcc_c.proofs.NameLaws.{same_bytes-refl}
use Rattle.dcc_prepare.proofs.LabelLaws.{label_named-new, numbers-push, points-push}
use Rattle.dcc_prepare.proofs.code.Code.add_label.Goals as goal

pub returns-clause-number : goal.returns-clause-number
returns-clause-number c none =
    let ls = c.args.self.now.labels.items in
    let name = c.args.name.now in
    let len : c.len-number.result ≡ length ls = omega (arith, c.args.self.now.labels.ok.0, c.len-number.ensures) in
    ap (λ (l : List Label). label_named l name) c.in_ok-push.ensures.items
    ∙ label_named-new ls _ name none (ap (λ n. same_bytes n name) c.in_ok-own.ensures.ok ∙ same_bytes-refl name)
    ∙ ap Some (sym len)

pub returns-clause-numbers : goal.returns-clause-numbers
returns-clause-numbers c word number is =
    ap (λ (l : List Label). label_named l word) c.in_ok-push.ensures.items ∙ numbers-push c.args.self.now.labels.items _ word number is

pub returns-clause-points : goal.returns-clause-points
returns-clause-points c word =
    ap (λ (l : List Label). point_named l word) c.in_ok-push.ensures.items ∙ points-push c.args.self.now.labels.items _ word refl
