use Rattle.std.proofs.Common.{sym, ◌∙◌}
use Rattle.dcc_ir.specs.Views.{stmt_of}
use Rattle.dcc_sums.specs.Instance.{written_by}
use Rattle.dcc_modref.proofs.StateLaws.{none_overwritten}
use Rattle.dcc_modref.proofs.state.State.forget.Goals as goal

pub returns-else-is_overwritten-clause-saved : goal.returns-else-is_overwritten-clause-saved
returns-else-is_overwritten-clause-saved c =
    sym (none_overwritten (written_by (stmt_of c.args.stmt.now)) c.args.self.now.saved (sym c.is_overwritten.ensures ∙ c.if-is_overwritten.false))
