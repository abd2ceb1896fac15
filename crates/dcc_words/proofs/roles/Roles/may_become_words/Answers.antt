use Rattle.std.proofs.Common.{◌≡◌, true, ◌&&◌, ◌||◌, sym, subst, ◌∙◌}
use Rattle.std.specs.List.{list_all}
use Rattle.std.proofs.lemmas.Bool.{and_parts}
use Rattle.dcc_ir.specs.Views.{graph_of}
use Rattle.dcc_words.specs.Words.{is_alone, takes_argument, takes_whole}
use Rattle.dcc_words.specs.Roles.{role_of}
use Rattle.dcc_words.proofs.StepLaws.{may-become}
use Rattle.dcc_words.proofs.roles.Roles.may_become_words.Goals as goal

pub returns : goal.returns
returns c = λ is.
    let role = role_of c.args.self.now in
    let p = and_parts (c.take_whole-takes.result && c.are_given-given.result) c.write_whole-writes.result (sym c.are_all.ensures ∙ is) in
    let q = and_parts c.take_whole-takes.result c.are_given-given.result p.0 in
    may-become c.args.pairs.now (graph_of c.args.g.now) role c.in_ok-live.live.items c.requires.roles c.requires.halves c.in_ok-live.ensures
    (subst (λ ps. list_all (λ p. takes_whole role p.put) ps ≡ true) c.as_slice-params.ensures.value (sym c.take_whole-takes.ensures ∙ q.0))
    (subst (λ ls. list_all (λ l. is_alone (role l) || takes_argument c.args.g.now.params.items l) ls ≡ true) c.as_slice.ensures.value
    (subst (λ ps. list_all (λ l. is_alone (role l) || takes_argument ps l) c.as_slice.result.now ≡ true) c.as_slice-params.ensures.value
    (sym c.are_given-given.ensures ∙ q.1)))
    (sym c.write_whole-writes.ensures ∙ p.1)
