use Rattle.std.proofs.Common.{None, refl}
use Rattle.dcc_c.specs.Tree.{Goto, line}
use Rattle.dcc_c.specs.Run.{runs}
use Rattle.dcc_prepare.proofs.EmissionLaws.{grows_labels}
use Rattle.dcc_prepare.proofs.StatementLaws.{emits_push}
use Rattle.dcc_prepare.proofs.emit.emit_goto.Goals as goal

pub returns : goal.returns
returns c tree f is_open points lines rest are none =
    let word = c.args.name.now in
    let own = runs (line (Goto word) c.args.line lines) rest in
    let one = grows_labels tree f is_open points c.args.code.now c.label.new.self are c.in_ok-label.ensures.numbers c.in_ok-label.ensures.points c.in_ok-label.ensures.rows in
    emits_push tree f is_open points c.args.code.now c.label.new.self c.push.new.self (λ word. None) own c.args.line _ c.push.result one
    (record {
      in_line = refl;
      acts = record { word = word; following = runs lines rest; label = c.in_ok-label.ensures.number; does = λ s. refl };
    })
    c.push.ensures.point c.push.ensures.rows c.push.ensures.labels
