use Rattle.std.proofs.Common.{◌≡◌, inl, inr, [], ◌∷◌, map, sym, ap, ◌∙◌, subst}
use Rattle.dcc_ir.specs.Use.{exit_exprs}
use Rattle.dcc_ir.specs.Views.{expr_of, stmt_of, exit_of, block_of, graph_of}
use Rattle.dcc_fold.specs.Known.{known_of}
use Rattle.dcc_fold.proofs.PartLaws.{FindingAmong, one-among}
use Rattle.dcc_fold.proofs.search.Search.in_end.Goals as goal

pub returns-in-Ret : goal.returns-in-Ret
returns-in-Ret c =
    let graph = graph_of c.args.self.now.chains.graph.now in
    let known = known_of c.args.known.now in
    subst (λ es. FindingAmong graph known es c.in_all.result) (ap (map expr_of) c.as_slice.ensures.value ∙ sym (ap (λ x. exit_exprs (exit_of x)) c.in-Ret.is)) c.in_all.ensures

pub returns-in-If : goal.returns-in-If
returns-in-If c =
    let graph = graph_of c.args.self.now.chains.graph.now in
    let known = known_of c.args.known.now in
    let e = expr_of c.in-If.e in
    let exprs : exit_exprs (exit_of c.args.end.now) ≡ e ∷ [] = elim c.in-If.is [
      | inl is ↦ ap (λ x. exit_exprs (exit_of x)) is.2
      | inr is ↦ ap (λ x. exit_exprs (exit_of x)) is.1
    ] in
    subst (λ es. FindingAmong graph known es c.in_part.result) (sym exprs) (one-among graph known e c.in_part.result c.in_part.ensures)
