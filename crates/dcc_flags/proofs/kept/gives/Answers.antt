use Rattle.std.proofs.Common.{sym, ◌∙◌, rules, tests}
use Rattle.std.proofs.lemmas.Iterator.{YieldsList-from_slice}
use Rattle.std.proofs.lemmas.Iterator.Search.{any_from_yields_List}
use Rattle.dcc_ir.specs.Views.{stmt_of}
use Rattle.dcc_flags.specs.Reaching.{has_result}
use Rattle.dcc_flags.proofs.TableLaws.{any_map}
use Rattle.dcc_flags.proofs.kept.gives.Goals as goal

pub returns : goal.returns
returns c =
    let stmts = c.args.block.now.stmts.items in
    any_from_yields_List (λ s. has_result c.args.f (stmt_of s)) _ _ c.any.result c.any.ensures.ran
    (YieldsList-from_slice stmts cc) (λ x b q k. search (rules, tests))
    ∙ sym (any_map (has_result c.args.f) stmt_of stmts)
