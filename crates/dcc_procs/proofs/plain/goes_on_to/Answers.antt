use Rattle.std.proofs.Common.{List, ℕ, ◌↔◌, Contains, IsTrue, ◌∙◌, subst}
use Rattle.dcc_procs.proofs.Trails.{contains-answer}
use Rattle.dcc_procs.proofs.plain.goes_on_to.Goals as goal

pub returns : goal.returns
returns c =
    let at = c.args.at in
    let answer : IsTrue c.contains.result ↔ Contains c.deref-2.result.now at =
    contains-answer c.deref-2.result.now at c.contains.result c.contains.ensures.cases in
    subst (λ (l : List ℕ). IsTrue c.contains.result ↔ Contains l at)
    (c.deref-2.ensures ∙ c.in_ok-successors.ensures) answer
