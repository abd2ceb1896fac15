use Rattle.std.proofs.Common.{arith}
use Rattle.dcc_run.specs.End.{Running, Exit, Divide, Outside}
use Rattle.dcc_machine.proofs.MzImageLaws.{length-loaded}
use Rattle.dcc_console.specs.WithConsole.{beside_console}
use Rattle.dcc_top.specs.Execution.{machine_of}
use Rattle.dcc_top.proofs.ExecuteLaws.{ran-nothing, ran-ended, ran-to_read, broke-off}
use Rattle.dcc_top.proofs.execute.execute.Goals as goal

pub new-requires : goal.new-requires
new-requires g c = omega (arith, length-loaded c.args.image.now c.requires, c.args.image.now.bytes.ok.0)

pub returns-in_default-clause-ran : goal.returns-in_default-clause-ran
returns-in_default-clause-ran g c = ran-nothing (machine_of c.args.cpu c.args.image.now) c.args.steps _ _

pub returns-in-Running-clause-ran : goal.returns-in-Running-clause-ran
returns-in-Running-clause-ran g c =
    ran-ended c.args.cpu c.args.image.now c.args.steps c.in-Ok.machine _ _ (beside_console c.run.new.self _ _) Running c.in-Ok.ensures c.in-Running.ensures.run c.in-Running.ensures.answer

pub returns-in-Exit-clause-ran : goal.returns-in-Exit-clause-ran
returns-in-Exit-clause-ran g c =
    ran-ended c.args.cpu c.args.image.now c.args.steps c.in-Ok.machine _ _ (beside_console c.run.new.self _ _) (Exit c.in-Exit.code) c.in-Ok.ensures c.in-Exit.ensures.run c.in-Exit.ensures.answer

pub returns-in-Divide-clause-ran : goal.returns-in-Divide-clause-ran
returns-in-Divide-clause-ran g c =
    ran-ended c.args.cpu c.args.image.now c.args.steps c.in-Ok.machine _ _ (beside_console c.run.new.self _ _) Divide c.in-Ok.ensures c.in-Divide.ensures.run c.in-Divide.ensures.answer

pub returns-in-Outside-clause-ran : goal.returns-in-Outside-clause-ran
returns-in-Outside-clause-ran g c =
    ran-ended c.args.cpu c.args.image.now c.args.steps c.in-Ok.machine _ _ (beside_console c.run.new.self _ _) (Outside c.in-Outside.at) c.in-Ok.ensures c.in-Outside.ensures.run c.in-Outside.ensures.answer

pub returns-in-InFault-clause-ran : goal.returns-in-InFault-clause-ran
returns-in-InFault-clause-ran g c =
    ran-to_read c.args.cpu c.args.image.now c.args.steps c.in-Ok.machine _ _ (beside_console c.run.new.self _ _) c.in-Ok.ensures c.in-InFault.ensures.run

pub returns-clause-broke_off : goal.returns-clause-broke_off
returns-clause-broke_off g c =
    broke-off c.args.cpu c.args.image.now c.args.steps c.in-Ok.machine _ _ (beside_console c.run.new.self _ _) c.in-Ok.ensures c.in-OutFault.ensures.run
