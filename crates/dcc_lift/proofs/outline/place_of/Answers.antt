use Rattle.std.proofs.Common.{◌≡◌, length, MatchResult, sym, subst, arith}
use Rattle.dcc_lift.specs.Blocks.{place_in}
use Rattle.dcc_lift.proofs.LeaderLaws.{searched_place, few_increasing}
use Rattle.dcc_lift.proofs.outline.place_of.Goals as goal

pub returns-in-Ok-clause-place : goal.returns-in-Ok-clause-place
returns-in-Ok-clause-place c =
    let found = searched_place c.args.numbers.now c.args.n c.binary_search.result c.requires
    c.binary_search.ensures.position in
    sym (subst (λ r. MatchResult r (λ i. place_in c.args.numbers.now c.args.n ≡ i)
    (λ i. place_in c.args.numbers.now c.args.n ≡ length c.args.numbers.now)) c.in-Ok.is found)

pub returns-in-Ok-clause-few : goal.returns-in-Ok-clause-few
returns-in-Ok-clause-few c =
    few_increasing c.args.numbers.now c.requires (λ k. let fits = c.type_inv.numbers k in omega arith)

pub returns-in-Err-clause-place : goal.returns-in-Err-clause-place
returns-in-Err-clause-place c =
    let found = searched_place c.args.numbers.now c.args.n c.binary_search.result c.requires
    c.binary_search.ensures.position in
    sym (subst (λ r. MatchResult r (λ i. place_in c.args.numbers.now c.args.n ≡ i)
    (λ i. place_in c.args.numbers.now c.args.n ≡ length c.args.numbers.now)) c.in-Err.is found)

pub returns-in-Err-clause-few : goal.returns-in-Err-clause-few
returns-in-Err-clause-few c =
    few_increasing c.args.numbers.now c.requires (λ k. let fits = c.type_inv.numbers k in omega arith)
