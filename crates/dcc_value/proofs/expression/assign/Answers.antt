use Rattle.std.proofs.Common.{get_or, false, arith}
use Rattle.std.proofs.lemmas.Option.{slice_get-get_or}
use Rattle.dcc_c.specs.declared.syntax.Base.TheVariants.{Schar}
use Rattle.dcc_value.specs.declared.variable.Binding.{Binding}
use Rattle.dcc_value.specs.Evaluation.{typed}
use Rattle.dcc_value.proofs.PlaceLaws.{assigned, assigned_past, declared_after}
use Rattle.dcc_value.proofs.expression.assign.Goals as goal

-- what a read past the end would give
past_end : Binding
past_end =
    record { ty = record { base = Schar; pointer = false }; is_array = false; is_placed = false; bits = 0 }

pub returns-then-i-frame-clause-variables : goal.returns-then-i-frame-clause-variables
unfolding past_end
returns-then-i-frame-clause-variables c names word at =
    assigned names c.args.frame.now word c.args.i (get_or c.args.frame.now c.args.i past_end) c.with_value.result (typed c.args.v) at
    (slice_get-get_or c.args.frame.now c.args.i past_end c.if-i-frame.true) c.with_value.ensures

pub returns-then-i-frame-clause-declared : goal.returns-then-i-frame-clause-declared
unfolding past_end
returns-then-i-frame-clause-declared c names alone =
    declared_after names c.args.frame.now c.args.i (get_or c.args.frame.now c.args.i past_end) c.with_value.result (typed c.args.v) alone
    (slice_get-get_or c.args.frame.now c.args.i past_end c.if-i-frame.true) c.with_value.ensures

pub returns-else-i-frame-clause-variables : goal.returns-else-i-frame-clause-variables
returns-else-i-frame-clause-variables c names word at =
    assigned_past names _ word _ _ at (omega arith)
