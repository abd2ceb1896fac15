use Rattle.std.proofs.Common.{[], ◌∷◌, ◌++◌, refl}
use Rattle.dcc_c.specs.Tree.{Assign, line}
use Rattle.dcc_c.specs.Run.{runs}
use Rattle.dcc_c.specs.Views.{expr_of}
use Rattle.dcc_prepare.proofs.PointLaws.{stay_push, goes_stay}
use Rattle.dcc_prepare.proofs.EmissionLaws.{pushed_ok}
use Rattle.dcc_prepare.proofs.StatementLaws.{stands_here}
use Rattle.dcc_prepare.proofs.emit.emit_assign.Goals as goal

pub returns : goal.returns
returns c lines rest tree f is_open points context are goes =
    let own = runs (line (Assign (expr_of c.args.place.now) (expr_of c.args.e.now)) c.args.line lines) rest in
    pushed_ok tree f is_open points c.args.code.now c.push.new.self own c.args.line _ c.push.result are
    (record {
      in_line = refl;
      acts = record {
        to = runs lines rest;
        place_expr = expr_of c.args.place.now;
        expr = expr_of c.args.e.now;
        place_stands = stands_here _ _ _ _ context.names (c.in_ok-place.ensures);
        stands = stands_here _ _ _ _ context.names (c.in_ok-value.ensures);
        goes = goes_stay tree points (points ++ own ∷ []) c.args.next (runs lines rest) (stay_push points own) goes;
        does = λ s. refl;
      };
    })
    c.push.ensures.point c.push.ensures.rows c.push.ensures.labels
