use Rattle.std.proofs.Common.{refl, subst}
use Rattle.std.specs.Prelude.{option_map}
use Rattle.dcc_c.specs.Tree.{Return, line}
use Rattle.dcc_c.specs.Run.{runs}
use Rattle.dcc_c.specs.Views.{expr_of}
use Rattle.dcc_value.specs.Resolved.{Names}
use Rattle.dcc_prepare.specs.Points.{StandsIf}
use Rattle.dcc_prepare.proofs.EmissionLaws.{pushed_ok}
use Rattle.dcc_prepare.proofs.emit.emit_return.Goals as goal

pub returns : goal.returns
returns c tree f is_open points lines rest context are =
    let e = option_map expr_of c.args.e.now in
    let own = runs (line (Return e) c.args.line lines) rest in
    pushed_ok tree f is_open points c.args.code.now c.push.new.self own c.args.line _ c.push.result are
    (record {
      in_line = refl;
      acts = record {
        expr = e;
        following = runs lines rest;
        stands = subst (λ (n : Names). StandsIf n e c.in_ok-value.value) context.names c.in_ok-value.ensures;
        does = λ s. refl;
      };
    })
    c.push.ensures.point c.push.ensures.rows c.push.ensures.labels
