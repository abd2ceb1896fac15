use Rattle.std.proofs.Common.{◌<◌, AllPairs, sym, subst, rules}
use Rattle.std.proofs.lemmas.List.Sorted.{IsNonDecreasingBy-from_sort}
use Rattle.dcc_prog.specs.Refused.{IsRefusedByTrails}
use Rattle.dcc_prog.specs.Refused as refused
use Rattle.dcc_prog.specs.declared.refusal.Refusal.TheVariants.{Memory}
use Rattle.dcc_procs.specs.Search.{IsListing}
use Rattle.dcc_procs.proofs.ProcedureLaws.{listing-sorted, ascending-sorted, is-procedure}
use Rattle.dcc_procs.proofs.procedures.procedure.Goals as goal

pub returns-in_err-sort-clause-refused : goal.returns-in_err-sort-clause-refused
returns-in_err-sort-clause-refused c =
    let named : IsRefusedByTrails c.args.image.now c.args.layout.now Memory = refused.no_memory in
    search rules

pub collect-requires-clause-listing : goal.collect-requires-clause-listing
collect-requires-clause-listing c =
    let seen = c.run.new.self.seen.items in
    let listing =
    listing-sorted seen c.run.new.self.order.items c.sort.new.self.items c.sort.ensures.permutation
    c.in_ok-run.ensures.order.every in
    subst (λ l. IsListing l c.deref-4.result.now) (sym c.deref-3.ensures.value)
    (subst (IsListing seen) (sym c.deref-4.ensures.value) listing)

pub collect-requires-clause-ascending : goal.collect-requires-clause-ascending
collect-requires-clause-ascending c =
    subst (AllPairs (λ a b. a < b)) (sym c.deref-4.ensures.value)
    (ascending-sorted c.run.new.self.order.items c.sort.new.self.items c.sort.ensures.permutation c.in_ok-run.ensures.order.distinct (IsNonDecreasingBy-from_sort (λ x. x) c.sort.new.self.items c.in_ok-sort.ensures.sorted))

pub returns-in_err-proc-clause-refused : goal.returns-in_err-proc-clause-refused
returns-in_err-proc-clause-refused c =
    let named : IsRefusedByTrails c.args.image.now c.args.layout.now Memory = refused.no_memory in
    search rules

pub clear-requires-clause-listed : goal.clear-requires-clause-listed
clear-requires-clause-listed c =
    listing-sorted c.run.new.self.seen.items c.run.new.self.order.items c.sort.new.self.items
    c.sort.ensures.permutation c.in_ok-run.ensures.order.every

pub returns-clause-found : goal.returns-clause-found
returns-clause-found c =
    is-procedure c.args.image.now c.args.layout.now c.requires.loaded c.args.entry c.run.new.self.seen.items
    c.run.new.self.order.items c.in_ok-run.ensures.seen c.in_ok-run.ensures.order c.in_ok-proc.proc
    c.in_ok-proc.ensures.0 c.in_ok-proc.ensures.1 c.in_ok-check_divisions.ensures.prepared
