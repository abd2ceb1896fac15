use Rattle.std.proofs.Common.{[], ◌∷◌, ◌++◌, None, refl}
use Rattle.dcc_c.specs.Tree.{Label, line}
use Rattle.dcc_c.specs.Run.{runs}
use Rattle.dcc_prepare.specs.Emission.{Emits}
use Rattle.dcc_prepare.proofs.PointLaws.{stay_push, goes_stay}
use Rattle.dcc_prepare.proofs.EmissionLaws.{pushed, label_placed}
use Rattle.dcc_prepare.proofs.emit.emit_label.Goals as goal

pub returns : goal.returns
returns c tree f is_open points lines rest are goes =
    let word = c.args.name.now in
    let own = runs (line (Label word) c.args.line lines) rest in
    let at = c.in_ok-point.point in
    let one : Emits tree f is_open points c.args.code.now c.push.new.self (λ word. None) at own =
    pushed tree f is_open points c.args.code.now c.push.new.self own c.args.line at _ are
    (record {
      in_line = refl;
      acts = record {
        to = runs lines rest;
        goes = goes_stay tree points (points ++ own ∷ []) c.args.next (runs lines rest) (stay_push points own) goes;
        does = λ s. refl;
      };
    })
    c.in_ok-point.ensures.point c.in_ok-point.ensures.rows c.in_ok-point.ensures.labels in
    label_placed tree f is_open points c.args.code.now c.push.new.self c.place_label.new.self word at own one
    c.in_ok-place_label.ensures.numbers c.in_ok-place_label.ensures.points c.in_ok-place_label.ensures.rows
