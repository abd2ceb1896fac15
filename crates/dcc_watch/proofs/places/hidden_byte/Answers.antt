use Rattle.std.proofs.Common.{◌≡◌, ℕ, ap, sym, ◌∙◌, ◌∷◌, [], arith}
use Rattle.std.specs.Prelude.{not}
use Rattle.dcc_watch.specs.Shapes.{exposed_in}
use Rattle.dcc_watch.specs.Accesses.{access_of}
use Rattle.dcc_watch.specs.Foul.{first_at}
use Rattle.dcc_watch.proofs.Bytes.{within, none_within, all_within, none_here, found_here}
use Rattle.dcc_watch.proofs.places.hidden_byte.Goals as goal

pub loop-k-init : goal.loop-k-init
loop-k-init c = ap (first_at c.args.layout.now (λ offset. not (exposed_in c.args.top c.args.frames.now.live offset))) (none_within (access_of c.args.access))

pub loop-k-preserved : goal.loop-k-preserved
loop-k-preserved c =
    let so = λ (offset : ℕ). not (exposed_in c.args.top c.args.frames.now.live offset) in
    none_here c.args.layout.now so (access_of c.args.access) c.loop-k.k c.hidden_at-byte.result c.loop-k.invariant
    (c.hidden_at-byte.ensures ∙ ap (λ a. first_at c.args.layout.now so (a ∷ [])) c.address.ensures.address)
    (sym c.is_some.ensures ∙ c.if-is_some.false)

pub returns-then-is_some : goal.returns-then-is_some
returns-then-is_some c =
    let so = λ (offset : ℕ). not (exposed_in c.args.top c.args.frames.now.live offset) in
    found_here c.args.layout.now so (access_of c.args.access) c.loop-k.k c.hidden_at-byte.result c.loop-k-test.true c.loop-k.invariant
    (c.hidden_at-byte.ensures ∙ ap (λ a. first_at c.args.layout.now so (a ∷ [])) c.address.ensures.address)
    (sym c.is_some.ensures ∙ c.if-is_some.true)

pub returns : goal.returns
returns c =
    let so = λ (offset : ℕ). not (exposed_in c.args.top c.args.frames.now.live offset) in
    let all : c.loop-k.k ≡ c.args.access.size = omega arith in
    sym c.loop-k.invariant
    ∙ ap (λ n. first_at c.args.layout.now so (within (access_of c.args.access) n)) all
    ∙ ap (first_at c.args.layout.now so) (sym (all_within (access_of c.args.access)))
