use Rattle.dcc_run.specs.End.{Running, Exit, Divide, Stuck}
use Rattle.dcc_c.specs.Views.{tree_of}
use Rattle.dcc_console.specs.WithConsole.{beside_console}
use Rattle.dcc_top.proofs.TextRunLaws.{text-nothing, text-ended, text-to_read, text-found_none, text-broke_off}
use Rattle.dcc_top.proofs.text_job.execute_unit.Goals as goal

pub returns-in_default-clause-ran : goal.returns-in_default-clause-ran
returns-in_default-clause-ran g c = text-nothing (tree_of c.args.unit.now) c.args.fill c.args.steps _ _

pub returns-in-Running-clause-ran : goal.returns-in-Running-clause-ran
returns-in-Running-clause-ran g c =
    text-ended (tree_of c.args.unit.now) c.args.fill c.args.steps c.in-Ok.running _ _ (beside_console c.run.new.self _ _) Running c.in-Ok.ensures c.in-Running.ensures.run c.in-Running.ensures.answer

pub returns-in-Exit-clause-ran : goal.returns-in-Exit-clause-ran
returns-in-Exit-clause-ran g c =
    text-ended (tree_of c.args.unit.now) c.args.fill c.args.steps c.in-Ok.running _ _ (beside_console c.run.new.self _ _) (Exit c.in-Exit.code) c.in-Ok.ensures c.in-Exit.ensures.run c.in-Exit.ensures.answer

pub returns-in-Divide-clause-ran : goal.returns-in-Divide-clause-ran
returns-in-Divide-clause-ran g c =
    text-ended (tree_of c.args.unit.now) c.args.fill c.args.steps c.in-Ok.running _ _ (beside_console c.run.new.self _ _) Divide c.in-Ok.ensures c.in-Divide.ensures.run c.in-Divide.ensures.answer

pub returns-in-Stuck-clause-ran : goal.returns-in-Stuck-clause-ran
returns-in-Stuck-clause-ran g c =
    text-ended (tree_of c.args.unit.now) c.args.fill c.args.steps c.in-Ok.running _ _ (beside_console c.run.new.self _ _) (Stuck c.in-Stuck.line) c.in-Ok.ensures c.in-Stuck.ensures.run c.in-Stuck.ensures.answer

pub returns-in-InFault-clause-ran : goal.returns-in-InFault-clause-ran
returns-in-InFault-clause-ran g c =
    text-to_read (tree_of c.args.unit.now) c.args.fill c.args.steps c.in-Ok.running _ _ (beside_console c.run.new.self _ _) c.in-Ok.ensures c.in-InFault.ensures.run

pub returns-clause-ran : goal.returns-clause-ran
returns-clause-ran g c =
    text-found_none (tree_of c.args.unit.now) c.args.fill c.args.steps c.in-Ok.running _ _ (beside_console c.run.new.self _ _) c.in-Ok.ensures c.in-Memory.ensures.run

pub returns-in-OutFault-clause-broke_off : goal.returns-in-OutFault-clause-broke_off
returns-in-OutFault-clause-broke_off g c =
    text-broke_off (tree_of c.args.unit.now) c.args.fill c.args.steps c.in-Ok.running _ _ (beside_console c.run.new.self _ _) c.requires.text c.requires.stands c.in-Ok.ensures c.in-OutFault.ensures.run
