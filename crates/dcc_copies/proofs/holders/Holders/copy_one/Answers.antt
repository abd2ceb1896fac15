use Rattle.std.proofs.Common.{◌≡◌, ◌<◌, true, length, get_or, sym, ap, ap₂, ◌∙◌, subst, eqb-true}
use Rattle.std.specs.Prelude.{IfOk}
use Rattle.std.specs.List.{list_all}
use Rattle.std.proofs.lemmas.Bool.{and_parts}
use Rattle.dcc_ir.specs.declared.syntax.Loc.TheVariants.{Temp}
use Rattle.dcc_ir.specs.Tree.{Stmt, Set, Get}
use Rattle.dcc_copies.specs.Held.{is_own_copy, with_copied}
use Rattle.dcc_copies.specs.Settled.{stmt_reads}
use Rattle.dcc_copies.specs.Holders.{holders_of, name_by, with_pair, is_held, IsPassed}
use Rattle.dcc_copies.proofs.HolderLaws.{copy-passed}
use Rattle.dcc_copies.proofs.LoopLaws.{if-ok-two}
use Rattle.dcc_copies.proofs.holders.Holders.copy_one.Goals as goal

pub returns : goal.returns
returns c =
    let names = c.args.names.now.of.items in
    let h = holders_of c.args.self.now in
    let h' = holders_of c.put.new.self in
    let to = c.in-Temp.second in
    let from = c.in-Temp-from.first in
    let same : Set c.args.to (Get c.args.from) ≡ Set (Temp to) (Get (Temp from)) =
    ap₂ (λ p e. Set p (Get e)) c.in-Temp.is c.in-Temp-from.is in
    let own = eqb-true (get_or names to to) (get_or names from from)
    (subst (λ (x : Stmt). is_own_copy (name_by names) x ≡ true) same c.requires.own) in
    let held = (and_parts (is_held names h (Temp from)) true
    (subst (λ (x : Stmt). list_all (is_held names h) (stmt_reads x) ≡ true) same c.requires.held)).0 in
    subst (λ (x : Stmt). IfOk c.put.result (λ there. there ≡ true → IsPassed names h h' (with_copied x))) (sym same)
    (if-ok-two c.put.result (λ there. there ≡ true → c.number.result < length h.pairs)
    (λ there. there ≡ true → h' ≡ with_pair c.number.result (record { first = from; second = to }) h) _
    (λ there less put is. copy-passed names h h' to from own (subst (λ k. k < length h.pairs) c.number.ensures (less is)) held
    (put is ∙ ap (λ k. with_pair k (record { first = from; second = to }) h) c.number.ensures))
    c.put.ensures.there c.put.ensures.put)
