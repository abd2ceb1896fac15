use Rattle.std.proofs.Common.{Contains, sym, ◌∙◌, subst, rules}
use Rattle.std.specs.List.{AllZip}
use Rattle.std.proofs.lemmas.List.{take_all}
use Rattle.std.proofs.lemmas.List.Elements.{Contains-get_or}
use Rattle.dcc_prog.specs.declared.refusal.Refusal.TheVariants.{Memory}
use Rattle.dcc_prog.specs.Refused as refused
use Rattle.dcc_heights.specs.Heights.{IsRefusalOfAll}
use Rattle.dcc_heights.specs.Search.{AreHeightsBy}
use Rattle.dcc_heights.specs.Removed.{AreSizes, IsSizeFault}
use Rattle.dcc_heights.proofs.AllHeights.{zipped-more, size-fault-refused, fault-by, all-heights}
use Rattle.dcc_heights.proofs.procedures.heights.Goals as goal

pub returns-in_err-sizes-clause-refused : goal.returns-in_err-sizes-clause-refused
returns-in_err-sizes-clause-refused c =
    let refusal = c.in_err-sizes.field-0.0 in
    let fault = subst (λ procs. IsSizeFault procs refusal) c.deref.ensures.value c.in_err-sizes.ensures.refused in
    let named : IsRefusalOfAll c.args.procs.now.items refusal =
    λ image layout found. size-fault-refused image layout c.args.procs.now.items found refusal fault in
    search rules

pub returns-in_err-heights_of-clause-refused : goal.returns-in_err-heights_of-clause-refused
returns-in_err-heights_of-clause-refused c =
    let procs = c.args.procs.now.items in
    let proc = c.proc-item.result in
    let refusal = c.in_err-heights_of.field-0.0 in
    let removed = c.in_ok-sizes.sizes.by_entry.entries in
    let sizes =
    subst (λ l. AreSizes l c.in_ok-sizes.sizes.in_order.items removed) c.deref.ensures.value
    c.in_ok-sizes.ensures.sizes in
    let items = c.deref-proc-items.result.now in
    let place = c.loop-proc.proc-index in
    let among : Contains procs proc =
    subst (λ l. Contains l proc) c.deref-proc-items.ensures.value
    (subst (Contains items) (sym c.proc-item.is) (Contains-get_or items place proc c.loop-proc-test.true)) in
    let named : IsRefusalOfAll procs refusal =
    λ image layout found. fault-by image layout procs found removed sizes.are_by_entry proc among refusal
    c.in_err-heights_of.ensures.refused in
    search rules

pub returns-in_err-push-clause-refused : goal.returns-in_err-push-clause-refused
returns-in_err-push-clause-refused c =
    let named : IsRefusalOfAll c.args.procs.now.items Memory = λ image layout found. refused.no_memory in search rules

pub loop-proc-preserved : goal.loop-proc-preserved
loop-proc-preserved c =
    zipped-more (λ p answer. AreHeightsBy c.in_ok-sizes.sizes.by_entry.entries p answer.entries)
    c.deref-proc-items.result.now c.loop-proc.at.items c.push.new.self.items c.loop-proc.proc-index c.proc-item.result
    c.in_ok-heights_of.field-0 c.loop-proc-test.true c.proc-item.is c.loop-proc.invariant
    c.in_ok-heights_of.ensures.found c.in_ok-push.ensures.items

pub returns-clause-heights : goal.returns-clause-heights
returns-clause-heights c image layout found =
    let procs = c.args.procs.now.items in
    let removed = c.in_ok-sizes.sizes.by_entry.entries in
    let sizes =
    subst (λ l. AreSizes l c.in_ok-sizes.sizes.in_order.items removed) c.deref.ensures.value
    c.in_ok-sizes.ensures.sizes in
    let all =
    take_all c.loop-proc.proc-index c.deref-proc-items.result.now c.loop-proc-test.false
    ∙ c.deref-proc-items.ensures.value in
    let zip =
    subst (λ l. AllZip (λ p answer. AreHeightsBy removed p answer.entries) l c.loop-proc.at.items) all
    c.loop-proc.invariant in
    all-heights image layout procs found removed sizes.are_by_entry
    (record { at = c.loop-proc.at; ret = c.in_ok-sizes.sizes.in_order }) zip sizes.each
