use Rattle.std.proofs.Common.{◌∷◌, [], ◌++◌, Contains, take, sym, ap, ◌∙◌, subst, rules}
use Rattle.std.proofs.lemmas.List.{take_more}
use Rattle.std.proofs.lemmas.List.Elements.{Contains-get_or}
use Rattle.dcc_prog.specs.declared.refusal.Refusal.TheVariants.{Memory}
use Rattle.dcc_heights.specs.Removed.{AreSizes, IsSizeFault, of_proc, no_memory}
use Rattle.dcc_heights.proofs.Sizes.{sizes-more}
use Rattle.dcc_heights.proofs.removed.sizes_of.Goals as goal

pub returns-in_err-size-clause-refused : goal.returns-in_err-size-clause-refused
returns-in_err-size-clause-refused c =
    let procs = c.args.procs.now in
    let proc = c.proc-item.result in
    let place = c.loop-proc.proc-index in
    let among : Contains procs proc =
    subst (Contains procs) (sym c.proc-item.is) (Contains-get_or procs place proc c.loop-proc-test.true) in
    let named = of_proc among c.in_err-size.ensures.refused in
    search rules

pub returns-in_err-push-clause-refused : goal.returns-in_err-push-clause-refused
returns-in_err-push-clause-refused c = let named : IsSizeFault c.args.procs.now Memory = no_memory in search rules

pub returns-in_err-insert-clause-refused : goal.returns-in_err-insert-clause-refused
returns-in_err-insert-clause-refused c = let named : IsSizeFault c.args.procs.now Memory = no_memory in search rules

pub loop-proc-preserved : goal.loop-proc-preserved
loop-proc-preserved c =
    let procs = c.args.procs.now in
    let proc = c.proc-item.result in
    let place = c.loop-proc.proc-index in
    let size = c.in_ok-size.size in
    let more =
    sizes-more (take place procs) c.loop-proc.in_order.items c.loop-proc.by_entry.entries c.insert.new.self.entries
    proc size c.in_ok-insert.ensures.updates.0 c.loop-proc.invariant c.in_ok-size.ensures.size in
    let taken =
    take_more procs place proc c.loop-proc-test.true ∙ ap (λ p. take place procs ++ p ∷ []) (sym c.proc-item.is) in
    subst (λ l. AreSizes l c.push.new.self.items c.insert.new.self.entries) (sym taken)
    (subst (λ l. AreSizes (take place procs ++ proc ∷ []) l c.insert.new.self.entries)
    (sym c.in_ok-push.ensures.items) more)
