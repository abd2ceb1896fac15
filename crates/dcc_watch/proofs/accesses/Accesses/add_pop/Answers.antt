use Rattle.std.proofs.Common.{sym, ap, ◌∙◌, ◌∷◌, []}
use Rattle.dcc_machine.specs.Access.{Reading, Writing, operand_accesses, stack_access}
use Rattle.dcc_machine.specs.Operations.{with_sp_raised}
use Rattle.dcc_step.specs.Core.{state_of}
use Rattle.dcc_watch.specs.Accesses.{access_of, near}
use Rattle.dcc_watch.proofs.Beside.{near-both}
use Rattle.dcc_watch.proofs.accesses.Accesses.add_pop.Goals as goal

pub returns-in-Mem : goal.returns-in-Mem
returns-in-Mem c =
    let risen = with_sp_raised 2 (state_of c.args.machine.now) in
    near-both c.args.layout.now (access_of c.stack_access.result ∷ []) (access_of c.popped_access.result ∷ []) c.args.self.now c.add.new.self c.add-in-Mem.new.self
    c.requires c.add.ensures.items c.add-in-Mem.ensures.items
    ∙ ap (λ l. near c.args.layout.now (access_of c.stack_access.result ∷ l)) (c.popped_access.ensures ∙ ap (λ x. operand_accesses Writing x risen) (sym c.in-Mem.is))
    ∙ ap (λ a. near c.args.layout.now (a ∷ operand_accesses Writing c.args.x risen)) (c.stack_access.ensures ∙ ap (λ n. stack_access Reading n (state_of c.args.machine.now)) c.reg-sp.ensures)
