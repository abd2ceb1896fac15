use Rattle.std.proofs.Common.{[], refl, sym, ap, ap₂, ◌∙◌, subst}
use Rattle.dcc_ir.specs.Views.{block_of}
use Rattle.dcc_flow.specs.Marks.{with_all}
use Rattle.dcc_divisions.specs.Walk.{Covers}
use Rattle.dcc_divisions.proofs.left.block_left.Goals as goal

pub returns-clause-left : goal.returns-clause-left
returns-clause-left c = λ graph covers.
    let block = block_of c.args.block in
    let set =
    c.in_ok-add_all-2.ensures
    ∙ ap₂ with_all (c.in_ok-add_all.ensures ∙ ap (λ s. with_all s c.args.at_end.now) c.requires.empty)
    (c.as_slice.ensures.value ∙ ap (λ b. b.last) c.requires.access) in
    record {
      at = refl;
      exit = refl;
      stmts = c.in_ok-stmts.ensures graph block (subst (Covers graph block []) (sym set) covers);
    }
