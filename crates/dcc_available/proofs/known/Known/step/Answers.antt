use Rattle.dcc_ir.specs.Views.{stmt_of}
use Rattle.dcc_available.specs.Along.{along}
use Rattle.dcc_available.specs.Known.{known_of, IsTold}
use Rattle.dcc_available.proofs.TreeLaws.{stmt-more}
use Rattle.dcc_available.proofs.KnownLaws.{noted-sound}
use Rattle.dcc_available.proofs.known.Known.step.Goals as goal

pub returns-clause-substitute : goal.returns-clause-substitute
returns-clause-substitute c = λ history sound.
    stmt-more (IsTold (known_of c.args.self.now)) (along history) sound (stmt_of c.args.stmt.now) (stmt_of c.in_ok-new.new) c.in_ok-new.ensures.substitute

pub returns-clause-sound : goal.returns-clause-sound
returns-clause-sound c = λ history sound.
    noted-sound history (stmt_of c.args.stmt.now) (stmt_of c.in_ok-new.new) (known_of c.args.self.now) (known_of c.pass.new.self) (known_of c.note_set.new.self) c.pass.ensures sound c.in_ok-new.ensures.substitute
    c.in_ok-note_set.ensures
