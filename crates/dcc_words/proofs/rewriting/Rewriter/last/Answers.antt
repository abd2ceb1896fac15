use Rattle.std.proofs.Common.{◌≡◌, [], ◌∷◌, map, ap, subst, ◌∙◌}
use Rattle.std.proofs.lemmas.List.{map-append}
use Rattle.dcc_ir.specs.Views.{stmt_of}
use Rattle.dcc_words.specs.declared.rewriting.Joined.TheVariants.{One}
use Rattle.dcc_words.specs.Roles.{role_of}
use Rattle.dcc_words.specs.Rewriting.{IsJoined, joined}
use Rattle.dcc_words.proofs.rewriting.Rewriter.last.Goals as goal

pub returns-in-One : goal.returns-in-One
returns-in-One c =
    let role = role_of c.args.self.now.roles.now in
    let first = c.in-Some.first in
    let is : c.in_ok-new.field-0 ≡ One c.in-One.new = (let a = c.in-One.is in cc) in
    joined (stmt_of first) (ap (map stmt_of) c.in-Some.ensures.items ∙ map-append stmt_of c.pop.new.self.items (first ∷ []))
    (subst (IsJoined role (stmt_of first) (stmt_of c.args.stmt)) is c.in_ok-new.ensures)
