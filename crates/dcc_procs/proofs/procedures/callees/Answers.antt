use Rattle.std.proofs.Common.{map, [], ◌∷◌, ◌++◌, sym, ap, ◌∙◌, append-nil}
use Rattle.std.proofs.lemmas.Map.Iter.{iter_end}
use Rattle.std.specs.Map.Iter.{deref_pair}
use Rattle.dcc_procs.specs.Procedures.{target_of, calls_of}
use Rattle.dcc_procs.proofs.Calls.{calls-pushed, no-call}
use Rattle.dcc_procs.proofs.procedures.callees.Goals as goal

pub loop-at-preserved : goal.loop-at-preserved
loop-at-preserved c =
    c.loop-at.invariant
    ∙ sym (append-nil (calls_of (map deref_pair c.loop-at.yielded)))
    ∙ sym
    (ap (λ l. calls_of (map deref_pair c.loop-at.yielded) ++ l) (no-call c.in-Some.node.now.instr.op c.in_default.not-Call))
    ∙ sym (calls-pushed deref_pair c.loop-at.yielded (c.in-Some._at, c.in-Some.node))

pub loop-at-preserved-in-Continue-1 : goal.loop-at-preserved-in-Continue-1
loop-at-preserved-in-Continue-1 c =
    c.in_ok-push.ensures.items
    ∙ ap (λ l. l ++ c.in-Call.target ∷ []) c.loop-at.invariant
    ∙ sym (ap (λ op. calls_of (map deref_pair c.loop-at.yielded) ++ target_of op) c.in-Call.is)
    ∙ sym (calls-pushed deref_pair c.loop-at.yielded (c.in-Some._at, c.in-Some.node))

pub returns : goal.returns
returns c =
    let entries = c.args.nodes.now.entries in
    let start = c.into_iter-at-iterator.ensures.into_iter_gives ∙ c.iter-at-items.ensures.rest in
    let e =
    iter_end deref_pair entries c.loop-at.yielded c.into_iter-at-iterator.result c.loop-at._at-iterator
    c.next.new.self c.next.result start
    c.loop-at.yielded_by c.in-None.is c.next.ensures.steps in
    c.loop-at.invariant ∙ ap calls_of e.0
