use Rattle.std.proofs.Common.{◌≡◌, ◌<◌, ℕ, List, Some, slice_set, refl, ap, ◌∙◌, subst, arith}
use Rattle.dcc_procs.specs.declared.known.Known.{Known}
use Rattle.dcc_procs.specs.Known.{common}
use Rattle.dcc_procs.specs.Search.{Work, told_less, told_same, told_count}
use Rattle.dcc_procs.proofs.Fresh.{seen-read}
use Rattle.dcc_procs.proofs.search.Search.arrive.Goals as goal

pub returns-in_ok-push-clause-arrived : goal.returns-in_ok-push-clause-arrived
returns-in_ok-push-clause-arrived c =
    let old = c.args.self.now in
    let less = c.in-Some-lessened.less in
    let is : less ≡ common c.in-Some.old c.args.known = c.in-Some-lessened.ensures.less in
    let made : ℕ → Known → List ℕ → Work =
    λ i known pending. record
    { seen = slice_set old.seen.items i (Some known); order = old.order.items; pending = pending } in
    told_less {was = c.in-Some.old}
    (seen-read old.seen.items c.from.result c.args.to c.index.result.now (Some c.in-Some.old) c.index.ensures c.from.ensures c.in-Some.is (omega (arith, c.requires.length, c.ranges.to)))
    (subst (λ k. told_count k < told_count c.in-Some.old) is c.in-Some-lessened.ensures.fewer)
    (ap (λ i. made i less c.push.new.self.items) c.from-in-Some-lessened.ensures ∙ ap (λ k. made c.args.to k c.push.new.self.items) is ∙ ap (made c.args.to (common c.in-Some.old c.args.known)) c.in_ok-push.ensures.items)

pub returns-in_default-lessened-clause-arrived : goal.returns-in_default-lessened-clause-arrived
returns-in_default-lessened-clause-arrived c =
    told_same {was = c.in-Some.old}
    (seen-read c.args.self.now.seen.items c.from.result c.args.to c.index.result.now (Some c.in-Some.old) c.index.ensures c.from.ensures c.in-Some.is (omega (arith, c.requires.length, c.ranges.to)))
    (c.lessened.ensures.same c.in_default-lessened.is) refl
