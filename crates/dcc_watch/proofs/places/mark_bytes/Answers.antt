use Rattle.std.proofs.Common.{◌≡◌, ◌∷◌, [], sym, ap, ◌∙◌, arith}
use Rattle.dcc_watch.specs.Accesses.{access_of}
use Rattle.dcc_watch.proofs.Bytes.{within, none_within, all_within, marked_at, marked-is, marked-more}
use Rattle.dcc_watch.proofs.places.mark_bytes.Goals as goal

pub loop-k-init : goal.loop-k-init
loop-k-init c =
    sym (marked-is c.args.layout.now [] c.args.written.now)
    ∙ ap (λ l. marked_at c.args.layout.now l c.args.written.now) (sym (none_within (access_of c.args.access)))

pub loop-k-preserved : goal.loop-k-preserved
loop-k-preserved c =
    marked-more c.args.layout.now (access_of c.args.access) c.loop-k.k c.loop-k.written c.mark_at.new.written c.args.written.now c.loop-k.invariant
    (c.mark_at.ensures ∙ sym (marked-is c.args.layout.now _ c.loop-k.written)
    ∙ ap (λ a. marked_at c.args.layout.now (a ∷ []) c.loop-k.written) c.address.ensures.address)

pub returns : goal.returns
returns c =
    let all : c.loop-k.k ≡ c.args.access.size = omega arith in
    c.loop-k.invariant
    ∙ ap (λ n. marked_at c.args.layout.now (within (access_of c.args.access) n) c.args.written.now) all
    ∙ ap (λ l. marked_at c.args.layout.now l c.args.written.now) (sym (all_within (access_of c.args.access)))
    ∙ marked-is c.args.layout.now _ c.args.written.now
