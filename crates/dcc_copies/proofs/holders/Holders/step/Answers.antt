use Rattle.std.proofs.Common.{◌≡◌, true, sym, ap, ◌∙◌, subst}
use Rattle.std.specs.List.{list_all}
use Rattle.dcc_ir.specs.Views.{stmt_of}
use Rattle.dcc_flow.specs.Access.{Access}
use Rattle.dcc_copies.specs.Held.{held_after}
use Rattle.dcc_copies.specs.Holders.{holders_of, name_by, is_held, IsPassed}
use Rattle.dcc_copies.proofs.HolderLaws.{one-read}
use Rattle.dcc_copies.proofs.LoopLaws.{if-ok}
use Rattle.dcc_copies.proofs.holders.Holders.step.Goals as goal

pub returns : goal.returns
returns c =
    let names = c.args.names.now.of.items in
    let h = holders_of c.args.self.now in
    let k = holders_of c.pass.new.self in
    let stmt = stmt_of c.args.stmt.now in
    let reads = c.as_slice.ensures.value ∙ ap (λ (a : Access). a.reads) c.requires in
    let all = ap (list_all (is_held names h)) (sym reads) ∙ sym c.hold_all.ensures ∙ c.if-not-hold_all.false in
    if-ok c.pass.result (λ there. there ≡ true → IsPassed names h k (held_after (name_by names) stmt)) _
    (λ there passed is. one-read names h k stmt all (passed is)) c.pass.ensures
