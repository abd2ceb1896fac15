use Rattle.std.proofs.Common.{◌≡◌, ◌∷◌, ◌-◌, ◌<◌, suc, drop, length, get_or, sym, ap, ◌∙◌, subst, arith}
use Rattle.dcc_copies.specs.declared.holders.Entry.{Entry}
use Rattle.dcc_copies.specs.Holders.{Holders, holders_of, with_pair, held_by, IsPlain, IsSound}
use Rattle.dcc_copies.proofs.HolderLaws.{plain-put, entry-begins}
use Rattle.dcc_copies.proofs.LoopLaws.{drop-at}
use Rattle.dcc_copies.proofs.holders.Holders.begin.Goals as goal

pub loop-at-preserved : goal.loop-at-preserved
loop-at-preserved c =
    let names = c.args.names.now.of.items in
    let h = holders_of c.loop-at.self in
    let entries = c.args.entries.now in
    let k = c.loop-at.at - 1 in
    let none : Entry = record { place = 0; pair = record { first = 0; second = 0 } } in
    let entry = get_or entries k none in
    let inv = c.loop-at.invariant in
    let e : c.loop-at.at ≡ suc k = omega (arith, c.loop-at-test.true) in
    let inside : k < length entries = omega (arith, e, inv.inside) in
    let put = c.in_ok-put.ensures.put c.if-not-branch.false in
    let front : drop k entries ≡ entry ∷ drop c.loop-at.at entries =
    drop-at entries k none inside ∙ ap (λ n. entry ∷ drop n entries) (sym e) in
    record {
      inside = omega (arith, e, inv.inside);
      plain = subst (λ (x : Holders). IsPlain x) (sym put) (plain-put names h entry.place entry.pair inv.plain);
      sound =
          subst (λ (x : Holders). IsSound names x (held_by names (drop k entries))) (sym put)
          (subst (λ es. IsSound names (with_pair entry.place entry.pair h) (held_by names es)) (sym front)
          (entry-begins names h entry (drop c.loop-at.at entries) (c.in_ok-put.ensures.there c.if-not-branch.false) inv.sound));
    }
