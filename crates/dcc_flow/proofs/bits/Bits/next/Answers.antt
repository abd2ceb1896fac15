use Rattle.std.proofs.Common.{MatchOption, sym, subst}
use Rattle.dcc_flow.specs.Words.{AreWords, IsNextSet, AreNoneSet}
use Rattle.dcc_flow.proofs.WordLaws.{Keep, next_of_words}
use Rattle.dcc_flow.proofs.bits.Bits.next.Goals as goal

pub next_set-requires : goal.next_set-requires
next_set-requires c = subst (λ l. AreWords l c.self.inside.len) (sym c.as_slice.ensures.value) c.self.invariant

pub returns : goal.returns
returns c =
    let keep : Keep c.self.inside.words.items c.self.inside.len c.args.self.now = record { are = c.self.invariant; view = c.self.view_is } in
    next_of_words keep c.args.from c.next_set.result
    (subst (λ l. MatchOption c.next_set.result (AreNoneSet l c.args.from) (IsNextSet l c.args.from)) c.as_slice.ensures.value c.next_set.ensures)
