use Rattle.dcc_console.specs.WithConsole.{beside_console}
use Rattle.dcc_step.specs.declared.ending.Stepped.TheVariants.{Running, Exit, Divide, Outside}
use Rattle.dcc_top.proofs.WatchedLaws.{watched-nothing, stayed-clean, met-foul, clean-to_read, watched-broke_off}
use Rattle.dcc_top.proofs.watch_job.watch_program.Goals as goal

pub returns-in_default-clause-ran : goal.returns-in_default-clause-ran
returns-in_default-clause-ran g c = watched-nothing c.args.image.now c.args.program.now c.args.steps _ _

pub returns-in-Clean-Running-clause-ran : goal.returns-in-Clean-Running-clause-ran
returns-in-Clean-Running-clause-ran g c =
    let h = c.in-Clean-Running in
    stayed-clean c.args.image.now c.args.program.now c.requires.program c.args.steps c.in-Ok.watch _ _ (beside_console c.run.new.self _ _) Running c.in-Ok.ensures
    (rw h.field-0-is at h.ensures.run) (rw h.field-0-is at h.ensures.tells)

pub returns-in-Clean-Exit-clause-ran : goal.returns-in-Clean-Exit-clause-ran
returns-in-Clean-Exit-clause-ran g c =
    let h = c.in-Clean-Exit in
    stayed-clean c.args.image.now c.args.program.now c.requires.program c.args.steps c.in-Ok.watch _ _ (beside_console c.run.new.self _ _) (Exit h.code) c.in-Ok.ensures
    (rw h.field-0-is at h.ensures.run) (rw h.field-0-is at h.ensures.tells)

pub returns-in-Clean-Divide-clause-ran : goal.returns-in-Clean-Divide-clause-ran
returns-in-Clean-Divide-clause-ran g c =
    let h = c.in-Clean-Divide in
    stayed-clean c.args.image.now c.args.program.now c.requires.program c.args.steps c.in-Ok.watch _ _ (beside_console c.run.new.self _ _) Divide c.in-Ok.ensures
    (rw h.field-0-is at h.ensures.run) (rw h.field-0-is at h.ensures.tells)

pub returns-in-Clean-Outside-clause-ran : goal.returns-in-Clean-Outside-clause-ran
returns-in-Clean-Outside-clause-ran g c =
    let h = c.in-Clean-Outside in
    stayed-clean c.args.image.now c.args.program.now c.requires.program c.args.steps c.in-Ok.watch _ _ (beside_console c.run.new.self _ _) (Outside h.at) c.in-Ok.ensures
    (rw h.field-0-is at h.ensures.run) (rw h.field-0-is at h.ensures.tells)

pub returns-in-Clean-InFault-clause-ran : goal.returns-in-Clean-InFault-clause-ran
returns-in-Clean-InFault-clause-ran g c =
    let h = c.in-Clean-InFault in
    clean-to_read c.args.image.now c.args.program.now c.requires.program c.args.steps c.in-Ok.watch _ _ (beside_console c.run.new.self _ _) c.in-Ok.ensures (rw h.field-0-is at h.ensures.run)

pub returns-in-Clean-OutFault-clause-broke_off : goal.returns-in-Clean-OutFault-clause-broke_off
returns-in-Clean-OutFault-clause-broke_off g c =
    let h = c.in-Clean-OutFault in
    watched-broke_off c.args.image.now c.args.program.now c.args.steps c.in-Ok.watch _ _ (beside_console c.run.new.self _ _) c.in-Ok.ensures (rw h.field-0-is at h.ensures.run)

pub returns-clause-ran : goal.returns-clause-ran
returns-clause-ran g c =
    let h = c.in-Foul in
    met-foul c.args.image.now c.args.program.now c.requires.program c.args.steps c.in-Ok.watch _ _ (beside_console c.run.new.self _ _) (record { at = h.at; kind = h.kind; address = h.address }) c.in-Ok.ensures
    h.ensures.run h.ensures.tells
