use Rattle.std.proofs.Common.{◌≡◌, ◌==◌, true, false, length, subst}
use Rattle.dcc_prepare.specs.declared.program.Dos.{Dos as DosCall}
use Rattle.dcc_prepare.specs.declared.program.Dos.TheVariants.{Putc, Puts, Leave}
use Rattle.dcc_crun.specs.Doing.{Kept, CallsForKey, CallsDos}
use Rattle.dcc_crun.proofs.StepLaws.{comes_err, nothing_faults, no_faults}
use Rattle.dcc_crun.proofs.DosLaws.{takes_as, putc_writes, puts_writes, leave_exits, dos_written, written_faults}
use Rattle.dcc_crun.proofs.FunctionLaws.{empty_list}
use Rattle.dcc_crun.proofs.ComingLaws.{comes_from, getche_from, getch_from, does_kept}
use Rattle.dcc_crun.proofs.moment.Moment.dos.Goals as goal

pub returns-in_err-byte-in-Putc-clause-comes : goal.returns-in_err-byte-in-Putc-clause-comes
returns-in_err-byte-in-Putc-clause-comes g c line =
    comes_err line c.from_residual.result _ _ _ _ c.in_err-byte-in-Putc.field-0.0 c.from_residual.ensures.1
    (c.in_err-byte-in-Putc.ensures c.args.dos (takes_as c.args.dos Putc c.in-Putc.is) line)

pub returns-in_ok-byte-in-Putc-clause-comes : goal.returns-in_ok-byte-in-Putc-clause-comes
returns-in_ok-byte-in-Putc-clause-comes g c line =
    dos_written c.args.globals.now c.args.self.now c.args.dos c.args.target c.args.arguments.now line _ _ _ _ c.put_all.result c.write_stop.result
    (putc_writes c.args.globals.now c.args.self.now c.args.target c.args.arguments.now line c.in_ok-byte-in-Putc.byte c.args.dos c.in-Putc.is
    (c.in_ok-byte-in-Putc.ensures c.args.dos (takes_as c.args.dos Putc c.in-Putc.is)))
    c.write_stop.ensures c.put_all.ensures.whole c.put_all.ensures.part

pub returns-in_err-string-in-Puts-clause-comes : goal.returns-in_err-string-in-Puts-clause-comes
returns-in_err-string-in-Puts-clause-comes g c line =
    comes_err line c.from_residual-in_err-string-in-Puts.result _ _ _ _ c.in_err-string-in-Puts.field-0.0 c.from_residual-in_err-string-in-Puts.ensures.1
    (c.in_err-string-in-Puts.ensures c.args.dos (takes_as c.args.dos Puts c.in-Puts.is) line)

pub returns-in_ok-string-in-Puts-clause-comes : goal.returns-in_ok-string-in-Puts-clause-comes
returns-in_ok-string-in-Puts-clause-comes g c line =
    dos_written c.args.globals.now c.args.self.now c.args.dos c.args.target c.args.arguments.now line _ _ _ _ c.put_string.result c.write_stop-in-Puts.result
    (puts_writes c.args.globals.now c.args.self.now c.args.target c.args.arguments.now line c.in_ok-string-in-Puts.string c.args.dos c.deref.result.now c.deref.ensures.value c.in-Puts.is
    (c.in_ok-string-in-Puts.ensures c.args.dos (takes_as c.args.dos Puts c.in-Puts.is)))
    c.write_stop-in-Puts.ensures c.put_string.ensures.whole c.put_string.ensures.part

pub returns-in_err-code-in-Leave-clause-comes : goal.returns-in_err-code-in-Leave-clause-comes
returns-in_err-code-in-Leave-clause-comes g c line =
    comes_err line c.from_residual-in_err-code-in-Leave.result _ _ _ _ c.in_err-code-in-Leave.field-0.0 c.from_residual-in_err-code-in-Leave.ensures.1
    (c.in_err-code-in-Leave.ensures c.args.dos (takes_as c.args.dos Leave c.in-Leave.is) line)

pub returns-in_ok-code-in-Leave-clause-comes : goal.returns-in_ok-code-in-Leave-clause-comes
returns-in_ok-code-in-Leave-clause-comes g c line =
    does_kept _ _ _ _
    (leave_exits c.args.globals.now c.args.self.now c.args.target c.args.arguments.now line c.in_ok-code-in-Leave.code c.args.dos c.in-Leave.is
    (c.in_ok-code-in-Leave.ensures c.args.dos (takes_as c.args.dos Leave c.in-Leave.is)))

pub returns-in-Getche-clause-comes : goal.returns-in-Getche-clause-comes
returns-in-Getche-clause-comes g c line =
    let flag : (length c.args.arguments.now == 0) ≡ true = cc in
    comes_from line c.key.result (CallsForKey c.args.self.now true c.args.target line) (Kept c.key.new.self) _ (Kept c.key.new.self) _ _ _ _
    (λ tree points s now call.
    getche_from c.args.self.now c.key.new.self c.args.globals.now c.args.target c.args.arguments.now line (empty_list c.args.arguments.now flag) tree points s now
    (subst (λ (d : DosCall). CallsDos c.args.self.now c.args.globals.now d c.args.target c.args.arguments.now line tree points s now) c.in-Getche.is call))
    (c.key.ensures.comes line)

pub returns-in-Getch-clause-comes : goal.returns-in-Getch-clause-comes
returns-in-Getch-clause-comes g c line =
    let flag : (length c.args.arguments.now == 0) ≡ true = cc in
    comes_from line c.key-in-Getch.result (CallsForKey c.args.self.now false c.args.target line) (Kept c.key-in-Getch.new.self) _ (Kept c.key-in-Getch.new.self) _ _ _ _
    (λ tree points s now call.
    getch_from c.args.self.now c.key-in-Getch.new.self c.args.globals.now c.args.target c.args.arguments.now line (empty_list c.args.arguments.now flag) tree points s now
    (subst (λ (d : DosCall). CallsDos c.args.self.now c.args.globals.now d c.args.target c.args.arguments.now line tree points s now) c.in-Getch.is call))
    (c.key-in-Getch.ensures.comes line)

pub returns-in_err-byte-in-Putc-clause-faults : goal.returns-in_err-byte-in-Putc-clause-faults
returns-in_err-byte-in-Putc-clause-faults g c = nothing_faults c.from_residual.result c.in_err-byte-in-Putc.field-0.0 c.from_residual.ensures.1

pub returns-in_ok-byte-in-Putc-clause-faults : goal.returns-in_ok-byte-in-Putc-clause-faults
returns-in_ok-byte-in-Putc-clause-faults g c =
    written_faults c.put_all.result c.write_stop.result c.write_stop.ensures c.put_all.ensures.faults c.put_all.ensures.failed

pub returns-in_err-string-in-Puts-clause-faults : goal.returns-in_err-string-in-Puts-clause-faults
returns-in_err-string-in-Puts-clause-faults g c = nothing_faults c.from_residual-in_err-string-in-Puts.result c.in_err-string-in-Puts.field-0.0 c.from_residual-in_err-string-in-Puts.ensures.1

pub returns-in_ok-string-in-Puts-clause-faults : goal.returns-in_ok-string-in-Puts-clause-faults
returns-in_ok-string-in-Puts-clause-faults g c =
    written_faults c.put_string.result c.write_stop-in-Puts.result c.write_stop-in-Puts.ensures c.put_string.ensures.faults c.put_string.ensures.failed

pub returns-in_err-code-in-Leave-clause-faults : goal.returns-in_err-code-in-Leave-clause-faults
returns-in_err-code-in-Leave-clause-faults g c = nothing_faults c.from_residual-in_err-code-in-Leave.result c.in_err-code-in-Leave.field-0.0 c.from_residual-in_err-code-in-Leave.ensures.1

pub returns-in_ok-code-in-Leave-clause-faults : goal.returns-in_ok-code-in-Leave-clause-faults
returns-in_ok-code-in-Leave-clause-faults g c = no_faults _ (λ failed. cc) (λ failed. cc)

pub returns-in-Getche-clause-faults : goal.returns-in-Getche-clause-faults
returns-in-Getche-clause-faults g c = c.key.ensures.faults

pub returns-in-Getch-clause-faults : goal.returns-in-Getch-clause-faults
returns-in-Getch-clause-faults g c = c.key-in-Getch.ensures.faults
