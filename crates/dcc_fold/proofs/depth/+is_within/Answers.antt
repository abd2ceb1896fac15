use Rattle.std.proofs.Common.{sym}
use Rattle.dcc_ir.specs.Views.{expr_of}
use Rattle.dcc_available.proofs.WithinLaws.{none_within}
use Rattle.dcc_fold.proofs.depth.+is_within.Goals as goal

pub returns-then-depth-eq0 : goal.returns-then-depth-eq0
returns-then-depth-eq0 t c = sym (none_within (expr_of c.args.e.now) c.args.depth c.if-depth-eq0.true)
