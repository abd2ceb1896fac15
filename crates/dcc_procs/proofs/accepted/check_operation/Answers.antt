use Rattle.std.proofs.Common.{◌≡◌, Ok, Err, Result, IfErr, OnErr, sym, ap, ◌∙◌, subst}
use Rattle.dcc_machine.specs.declared.instr.Op.TheVariants.{Int21, Table, Call}
use Rattle.dcc_prog.specs.declared.refusal.Refusal.{Refusal}
use Rattle.dcc_prog.specs.Trail.{StandsAt}
use Rattle.dcc_procs.proofs.Causes.{number-refused, table-refused, return-refused, call-refused}
use Rattle.dcc_procs.proofs.accepted.check_operation.Goals as goal

-- a refusal that has a cause
by-cause :
    {A : Type 0} (P Q : Refusal → Type 0) (result : Result A Refusal) → ((refusal : Refusal) → P refusal → Q refusal)
    → IfErr result P → IfErr result Q
by-cause P Q (Ok value) causes p = tt
by-cause P Q (Err refusal) causes p = causes refusal p

by-lack :
    {A : Type 0} (Q : Refusal → Type 0) (named : Refusal) (H : Type 0) (result : Result A Refusal) → (¬ H → Q named)
    → IfErr result (λ refusal. refusal ≡ named) → OnErr result (¬ H) → IfErr result Q
by-lack Q named H (Ok value) causes is lacks = tt
by-lack Q named H (Err refusal) causes is lacks = subst Q (sym is) (causes lacks)

pub returns-in-Int21-clause-refused : goal.returns-in-Int21-clause-refused
returns-in-Int21-clause-refused c =
    let image = c.args.image.now in
    let layout = c.args.layout.now in
    let stands : StandsAt image layout c.args.at Int21 =
    subst (StandsAt image layout c.args.at) c.in-Int21.is c.requires.stands in
    by-lack _ _ _ c.check_number.result
    (number-refused image layout c.args.entry c.args.at c.args.known c.requires.entry c.requires.witnessed stands)
    c.check_number.ensures.refused c.check_number.ensures.unknown

pub returns-in-Table-clause-refused : goal.returns-in-Table-clause-refused
returns-in-Table-clause-refused c =
    let image = c.args.image.now in
    let layout = c.args.layout.now in
    let stands : StandsAt image layout c.args.at (Table c.in-Table.r c.in-Table.table) =
    subst (StandsAt image layout c.args.at) c.in-Table.is c.requires.stands in
    by-cause _ _ c.check_table.result
    (table-refused image layout c.args.entry c.args.at c.args.known c.requires.entry c.requires.witnessed c.in-Table.r c.in-Table.table stands)
    c.check_table.ensures.refused

pub returns-in-Ret-clause-refused : goal.returns-in-Ret-clause-refused
returns-in-Ret-clause-refused c =
    let image = c.args.image.now in
    let layout = c.args.layout.now in
    return-refused image layout c.args.entry c.args.at c.args.known c.requires.entry c.requires.witnessed
    c.in-Ret.field-0 c.if-entry-layout.true
    (subst (StandsAt image layout c.args.at) c.in-Ret.is c.requires.stands)

pub returns-in-Call-clause-refused : goal.returns-in-Call-clause-refused
returns-in-Call-clause-refused c =
    let image = c.args.image.now in
    let layout = c.args.layout.now in
    call-refused image layout c.args.entry c.args.at c.args.known c.requires.entry c.requires.witnessed
    (subst (StandsAt image layout c.args.at) (c.in-Call.is ∙ ap (λ target. Call target) c.if-target-layout.true) c.requires.stands)
