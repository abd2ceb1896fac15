use Rattle.std.proofs.Common.{◌≡◌, ◌<◌, true, length, sym, ap₂, ◌∙◌, subst}
use Rattle.std.specs.Prelude.{IfOk}
use Rattle.dcc_copies.specs.Held.{with_written}
use Rattle.dcc_copies.specs.Holders.{holders_of, name_by, with_pair, IsPassed}
use Rattle.dcc_copies.proofs.HolderLaws.{write-passed}
use Rattle.dcc_copies.proofs.LoopLaws.{if-ok-two}
use Rattle.dcc_copies.proofs.holders.Holders.write.Goals as goal

pub returns-in-Temp : goal.returns-in-Temp
returns-in-Temp c =
    let names = c.args.names.now.of.items in
    let h = holders_of c.args.self.now in
    let h' = holders_of c.put.new.self in
    let n = c.in-Temp.temporary in
    subst (λ l. IfOk c.put.result (λ there. there ≡ true → IsPassed names h h' (with_written (name_by names) l)))
    (sym c.in-Temp.is)
    (if-ok-two c.put.result (λ there. there ≡ true → c.number.result < length h.pairs)
    (λ there. there ≡ true → h' ≡ with_pair c.number.result c.alone.result h) _
    (λ there less put is. write-passed names h h' n (subst (λ k. k < length h.pairs) c.number.ensures (less is))
    (put is ∙ ap₂ (λ k p. with_pair k p h) c.number.ensures c.alone.ensures))
    c.put.ensures.there c.put.ensures.put)
