use Rattle.std.proofs.Common.{◌≡◌, ◌+◌, ◌<◌, [], ◌∷◌, ◌++◌, length, map, take, sym, ap, ◌∙◌, subst}
use Rattle.dcc_ir.specs.Views.{expr_of}
use Rattle.dcc_available.specs.Known.{known_of}
use Rattle.dcc_available.specs.Within.{AreSubstitutesWithin}
use Rattle.dcc_available.proofs.StepLaws.{taken-more, mapped-joined}
use Rattle.dcc_available.proofs.WithinLaws.{one_within}
use Rattle.dcc_available.proofs.known.Known.within_all.Goals as goal

pub loop-e-preserved : goal.loop-e-preserved
loop-e-preserved c =
    let es = c.args.es.now in
    let i = c.loop-e.e-index in
    let e = c.e-item.result in
    let r = c.in_ok-within.field-0 in
    let all = c.loop-e.all.items in
    let known = known_of c.args.self.now in
    let less : i < length es = c.loop-e-test.true in
    let more = taken-more expr_of es i e c.e-item.is less in
    let added : map expr_of c.push.new.self.items ≡ map expr_of all ++ expr_of r ∷ [] = ap (map expr_of) c.in_ok-push.ensures.items ∙ mapped-joined expr_of all (r ∷ []) in
    subst (AreSubstitutesWithin known (map expr_of (take (i + 1) es))) (sym added)
    (subst (λ xs. AreSubstitutesWithin known xs (map expr_of all ++ expr_of r ∷ [])) (sym more)
    (one_within known (map expr_of (take i es)) (map expr_of all) (expr_of e) (expr_of r) c.loop-e.invariant c.in_ok-within.ensures))
