use Rattle.std.proofs.Common.{subst}
use Rattle.dcc_prepare.specs.Points.{MayGo}
use Rattle.dcc_prepare.proofs.EmissionLaws.{pushed_ok, jump_passes, jump_sticks}
use Rattle.dcc_prepare.proofs.emit.emit_jump.Goals as goal

pub returns-in-Some : goal.returns-in-Some
returns-in-Some c tree f is_open points own following target are in_line may does =
    pushed_ok tree f is_open points c.args.code.now c.push.new.self own c.args.line _ c.push.result are
    (record {
      in_line = in_line;
      acts = jump_passes tree points own following target c.args.line c.in-Some.point (subst (λ to. MayGo tree points to target) c.in-Some.is may) does;
    })
    c.push.ensures.point c.push.ensures.rows c.push.ensures.labels

pub returns-in-None : goal.returns-in-None
returns-in-None c tree f is_open points own following target are in_line may does =
    pushed_ok tree f is_open points c.args.code.now c.push-in-None.new.self own c.args.line _ c.push-in-None.result are
    (record {
      in_line = in_line;
      acts = jump_sticks tree points own following target c.args.line (subst (λ to. MayGo tree points to target) c.in-None.is may) does;
    })
    c.push-in-None.ensures.point c.push-in-None.ensures.rows c.push-in-None.ensures.labels
