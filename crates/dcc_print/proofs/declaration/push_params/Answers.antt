use Rattle.std.proofs.Common.{◌++◌, ap, ◌∙◌, string_bytes}
use Rattle.dcc_c.specs.Written.{written_param}
use Rattle.dcc_c.specs.Views.{variable_of}
use Rattle.dcc_print.proofs.JoinedLaws.{params-joined, head_params-joined}
use Rattle.dcc_print.proofs.declaration.push_params.Goals as goal

pub returns-after-loop-v : goal.returns-after-loop-v
returns-after-loop-v c =
    let old = string_bytes c.args.text.now in
    let some = c.in-len1-up.len_at_least in
    params-joined c.args.params.now c.first-item.result c.loop-v.v-index old _ _ some c.loop-v-test.false
    (c.in_ok-push_param-in-len1-up.ensures ∙ ap (λ v. old ++ written_param (variable_of v)) c.first-item.is) c.loop-v.invariant
    ∙ ap (λ l. old ++ l) (head_params-joined c.args.params.now some)
