use Rattle.std.proofs.Common.{◌≡◌, ℕ, inl, inr, None, refl, sym, ap, subst}
use Rattle.dcc_ir.specs.Tree.{Expr, Join}
use Rattle.dcc_ir.specs.Use.{reads_of}
use Rattle.dcc_ir.specs.Views.{expr_of, stmt_of, exit_of, block_of, graph_of}
use Rattle.dcc_fold.specs.Known.{known_of}
use Rattle.dcc_fold.specs.Found.{IsFoundBy}
use Rattle.dcc_fold.proofs.PartLaws.{Finding, reads-both, same-reads, right-found}
use Rattle.dcc_fold.proofs.search.Search.+in_part.Goals as goal

pub returns-in-None-in_part : goal.returns-in-None-in_part
returns-in-None-in_part t c =
    let graph = graph_of c.args.self.now.chains.graph.now in
    let known = known_of c.args.known.now in
    let whole = expr_of c.args.whole.now in
    let part = expr_of c.args.part.now in
    let x = expr_of c.in-Choose.test.value in
    let a = expr_of c.in-Choose.a.value in
    let b = expr_of c.in-Choose.b.value in
    let found = c.in_part-in-None-in_part.result in
    let none_x : (n : ℕ) → ¬ IsFoundBy graph known whole x n = subst (λ e. (n : ℕ) → ¬ IsFoundBy graph known whole (expr_of e) n) c.deref.ensures c.in-None.ensures in
    let none_a : (n : ℕ) → ¬ IsFoundBy graph known whole a n = subst (λ e. (n : ℕ) → ¬ IsFoundBy graph known whole (expr_of e) n) c.deref-in-None.ensures c.in-None-in_part.ensures in
    let last : Finding graph known whole b found = subst (λ e. Finding graph known whole (expr_of e) found) c.deref-in-None-in_part.ensures c.in_part-in-None-in_part.ensures in
    let reads : reads_of part ≡ reads_of (Join (Join x a) b) = ap (λ e. reads_of (expr_of e)) c.in-Choose.is in
    right-found graph known whole part (Join x a) b (reads-both part (Join x a) b reads)
    (right-found graph known whole (Join x a) x a (reads-both (Join x a) x a refl) none_x None none_a) found last

pub returns-in-None-in_part-2 : goal.returns-in-None-in_part-2
returns-in-None-in_part-2 t c =
    let graph = graph_of c.args.self.now.chains.graph.now in
    let known = known_of c.args.known.now in
    let whole = expr_of c.args.whole.now in
    let part = expr_of c.args.part.now in
    let a = expr_of c.in-Bin.a.value in
    let b = expr_of c.in-Bin.b.value in
    let found = c.in_part-in-None-in_part-2.result in
    let none_a : (n : ℕ) → ¬ IsFoundBy graph known whole a n = subst (λ e. (n : ℕ) → ¬ IsFoundBy graph known whole (expr_of e) n) c.deref-in-Bin.ensures c.in-None-in_part-2.ensures in
    let last : Finding graph known whole b found = subst (λ e. Finding graph known whole (expr_of e) found) c.deref-in-None-in_part-2.ensures c.in_part-in-None-in_part-2.ensures in
    let reads : reads_of part ≡ reads_of (Join a b) = elim c.in-Bin.is [
      | inl is ↦ ap (λ e. reads_of (expr_of e)) is.2
      | inr is ↦ ap (λ e. reads_of (expr_of e)) is
    ] in
    right-found graph known whole part a b (reads-both part a b reads) none_a found last

pub returns-in-Load : goal.returns-in-Load
returns-in-Load t c =
    let graph = graph_of c.args.self.now.chains.graph.now in
    let known = known_of c.args.known.now in
    let whole = expr_of c.args.whole.now in
    let part = expr_of c.args.part.now in
    let a = expr_of c.in-Load.a.value in
    let found = c.in_part-in-Load.result in
    let last : Finding graph known whole a found = subst (λ e. Finding graph known whole (expr_of e) found) c.deref-in-Load.ensures c.in_part-in-Load.ensures in
    let reads : reads_of part ≡ reads_of a = elim c.in-Load.is [
      | inl is ↦ ap (λ e. reads_of (expr_of e)) is.1
      | inr more ↦ elim more [
        | inl is ↦ ap (λ e. reads_of (expr_of e)) is.2
        | inr last ↦ elim last [
          | inl is ↦ ap (λ e. reads_of (expr_of e)) is.2
          | inr is ↦ ap (λ e. reads_of (expr_of e)) is.2
        ]
      ]
    ] in
    same-reads graph known whole part a reads found last
