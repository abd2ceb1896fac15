use Rattle.std.proofs.Common.{sym, ◌∙◌, nat_eq, rules}
use Rattle.indexmap.proofs.CallerLemmas.{insert_entry-new}
use Rattle.dcc_prog.specs.declared.refusal.Refusal.TheVariants.{Memory}
use Rattle.dcc_heights.specs.Search.{IsArrivalFault, first, other, no_memory}
use Rattle.dcc_heights.proofs.search.arrive.Goals as goal

pub returns-in_err-insert-in-None-clause-refused : goal.returns-in_err-insert-in-None-clause-refused
returns-in_err-insert-in-None-clause-refused c =
    let named : IsArrivalFault c.args.heights.now.entries c.args.to c.args.height Memory = no_memory in search rules

pub returns-in-Some-2-clause-refused : goal.returns-in-Some-2-clause-refused
returns-in-Some-2-clause-refused c = other (sym c.in-Some.ensures.value) c.if-known-height.false

pub returns-in_ok-insert-in-None-clause-arrived : goal.returns-in_ok-insert-in-None-clause-arrived
returns-in_ok-insert-in-None-clause-arrived c =
    let none = sym c.in-None.ensures.value in
    first none
    (c.in_ok-insert-in-None.ensures.entries ∙ insert_entry-new nat_eq c.args.heights.now c.args.to c.args.height none)
