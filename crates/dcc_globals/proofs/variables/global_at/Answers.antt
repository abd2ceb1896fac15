use Rattle.std.proofs.Common.{◌≡◌, subst, sym, ◌∙◌}
use Rattle.std.specs.Prelude.{IfOk}
use Rattle.dcc_c.specs.Tree.{Global}
use Rattle.dcc_c.specs.Views.{global_of}
use Rattle.dcc_globals.specs.Marks.{data_of}
use Rattle.dcc_globals.proofs.ListLaws.{scalar-is, array-is}
use Rattle.dcc_globals.proofs.variables.global_at.Goals as goal

pub returns-then-is_scalar : goal.returns-then-is_scalar
returns-then-is_scalar c =
    let d = data_of c.args.borders.now.runs.source in
    subst (λ (z : Global). IfOk c.scalar.result (λ g. global_of g ≡ z))
    (scalar-is d c.args.at c.extent-size.result c.bytes_at-bytes.result.now c.extent-size.ensures.value c.bytes_at-bytes.ensures.value
    (sym c.is_scalar.ensures.value ∙ c.if-is_scalar.true))
    c.scalar.ensures

pub returns-else-is_scalar : goal.returns-else-is_scalar
returns-else-is_scalar c =
    let d = data_of c.args.borders.now.runs.source in
    subst (λ (z : Global). IfOk c.array.result (λ g. global_of g ≡ z))
    (array-is d c.args.at c.extent-size.result c.bytes_at-bytes.result.now c.extent-size.ensures.value c.bytes_at-bytes.ensures.value
    (sym c.is_scalar.ensures.value ∙ c.if-is_scalar.false))
    c.array.ensures
