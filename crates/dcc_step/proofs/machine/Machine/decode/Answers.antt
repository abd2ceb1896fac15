use Rattle.std.proofs.Common.{◌≡◌, ◌∙◌, ◌%◌, ap, sym, subst, set, slice_index}
use Rattle.std.proofs.lemmas.List.Elements.{All-set}
use Rattle.dcc_machine.specs.declared.segment.TheConstants.{CS}
use Rattle.dcc_machine.specs.Step.{code_bytes}
use Rattle.dcc_step.specs.Core.{Core, state_of}
use Rattle.dcc_step.specs.Cache.{IsDecoded, IsMarkedFrom, IsFreshIfKnown, AreFresh, bytes_at}
use Rattle.dcc_step.proofs.Freshness.{fresh_more}
use Rattle.dcc_step.proofs.machine.Machine.decode.Goals as goal

pub invariant_of-self : goal.invariant_of-self
invariant_of-self c =
    let m = c.self.inside in
    let memory = m.memory.items in
    let segment = slice_index m.segs CS in
    let now = c.of-decoded.result in
    let window : now.window ≡ bytes_at memory segment m.ip =
    c.of-decoded.ensures.window ∙ c.requires ∙ ap (λ (k : Core). code_bytes (state_of k)) (sym c.self.view_is) in
    let decoded = All-set (IsDecoded m.cpu) m.cache.items (c.from.result % 4096) now c.of-decoded.ensures.decoded c.self.invariant.2 in
    let fresh : AreFresh m.trusted memory segment c.mark_from.new.self (set m.cache.items (c.from.result % 4096) now) = λ trusted.
    All-set (IsFreshIfKnown memory segment c.mark_from.new.self) m.cache.items (c.from.result % 4096) now
    (λ known. record {
      window = window ∙ ap (bytes_at memory segment) (sym c.of-decoded.ensures.at);
      marked = subst (IsMarkedFrom c.mark_from.new.self segment) (sym c.of-decoded.ensures.at) c.mark_from.ensures.marked;
    })
    (fresh_more memory segment m.marks c.mark_from.new.self m.cache.items c.mark_from.ensures.more (c.self.invariant.3 trusted)) in
    (c.self.invariant.0, c.self.invariant.1, decoded, fresh)
