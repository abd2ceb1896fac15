use Rattle.std.proofs.Common.{rules, ◌≡◌, ◌∷◌, List, sym, ap, ◌∙◌, subst}
use Rattle.std.proofs.lemmas.List.Sorted.{IsNonDecreasingBy-from_sort_by_key}
use Rattle.dcc_prog.specs.declared.procedure.Proc.{Proc}
use Rattle.dcc_prog.specs.declared.refusal.Refusal.TheVariants.{Memory}
use Rattle.dcc_prog.specs.Found.{AreFound}
use Rattle.dcc_prog.specs.Refused.{IsRefusedByTrails, no_memory}
use Rattle.dcc_procs.specs.Procedures.{AreReached}
use Rattle.dcc_procs.proofs.AllFound.{some-procs, removed-first, all-found}
use Rattle.dcc_procs.proofs.procedures.find.Goals as goal

pub returns-in_err-sort_by_key-clause-refused : goal.returns-in_err-sort_by_key-clause-refused
returns-in_err-sort_by_key-clause-refused c =
    let named : IsRefusedByTrails c.args.image.now c.args.layout.now Memory = no_memory in
    search rules

pub returns-clause-found : goal.returns-clause-found
returns-clause-found c =
    let image = c.args.image.now in
    let layout = c.args.layout.now in
    let procs = c.in_ok-procs.procs.items in
    let reached = c.in_ok-procs.ensures.reached in
    let first = c.remove-start.result in
    let others = c.remove-start.new.self.items in
    let sorted = c.sort_by_key.new.self.items in
    let are : procs ≡ first ∷ others =
    removed-first procs first (some-procs image layout procs reached) c.remove-start.ensures.value
    ∙ ap (λ (l : List Proc). first ∷ l) (sym c.remove-start.ensures.items) in
    let up =
    IsNonDecreasingBy-from_sort_by_key (λ (p : Proc). p.entry) _ c.in_ok-sort_by_key.ensures.sorted
    (λ a r q k. search rules) in
    subst (AreFound image layout) (sym c.in_ok-insert.ensures.items)
    (all-found image layout first others sorted (subst (AreReached image layout) are reached) c.sort_by_key.ensures.permutation up)
