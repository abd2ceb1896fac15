use Rattle.std.proofs.Common.{◌≡◌, inl, inr, [], ◌∷◌, map, sym, ap, ◌∙◌, subst}
use Rattle.std.specs.Prelude.{option_map, option_to_list}
use Rattle.dcc_ir.specs.Use.{exprs_of}
use Rattle.dcc_ir.specs.Views.{expr_of, stmt_of, exit_of, block_of, graph_of}
use Rattle.dcc_fold.specs.Known.{known_of}
use Rattle.dcc_fold.proofs.PartLaws.{FindingAmong, one-among, second-among}
use Rattle.dcc_fold.proofs.search.Search.in_stmt.Goals as goal

pub returns-in-None : goal.returns-in-None
returns-in-None c =
    let graph = graph_of c.args.self.now.chains.graph.now in
    let known = known_of c.args.known.now in
    let found = c.in_part-in-None.result in
    subst (λ es. FindingAmong graph known es found) (sym (ap (λ s. exprs_of (stmt_of s)) c.in-Store.is))
    (second-among graph known (expr_of c.in-Store.address) (expr_of c.in-Store.value) c.in-None.ensures found c.in_part-in-None.ensures)

pub returns-in-Call : goal.returns-in-Call
returns-in-Call c =
    let graph = graph_of c.args.self.now.chains.graph.now in
    let known = known_of c.args.known.now in
    subst (λ es. FindingAmong graph known es c.in_all.result) (ap (map expr_of) c.as_slice.ensures.value ∙ sym (ap (λ s. exprs_of (stmt_of s)) c.in-Call.is)) c.in_all.ensures

pub returns-in-Some-argument : goal.returns-in-Some-argument
returns-in-Some-argument c =
    let graph = graph_of c.args.self.now.chains.graph.now in
    let known = known_of c.args.known.now in
    let e = expr_of c.in-Some-argument.e in
    let found = c.in_part-in-Some-argument.result in
    let exprs : exprs_of (stmt_of c.args.stmt.now) ≡ e ∷ [] = ap (λ s. exprs_of (stmt_of s)) c.in-Dos.is ∙ ap (λ o. option_to_list (option_map expr_of o)) c.in-Some-argument.is in
    subst (λ es. FindingAmong graph known es found) (sym exprs) (one-among graph known e found c.in_part-in-Some-argument.ensures)

pub returns-in-Set : goal.returns-in-Set
returns-in-Set c =
    let graph = graph_of c.args.self.now.chains.graph.now in
    let known = known_of c.args.known.now in
    let e = expr_of c.in-Set.e in
    let found = c.in_part-in-Set.result in
    let exprs : exprs_of (stmt_of c.args.stmt.now) ≡ e ∷ [] = elim c.in-Set.is [
      | inl is ↦ ap (λ s. exprs_of (stmt_of s)) is.1
      | inr more ↦ elim more [
        | inl is ↦ ap (λ s. exprs_of (stmt_of s)) is.2
        | inr is ↦ ap (λ s. exprs_of (stmt_of s)) is.1
      ]
    ] in
    subst (λ es. FindingAmong graph known es found) (sym exprs) (one-among graph known e found c.in_part-in-Set.ensures)
