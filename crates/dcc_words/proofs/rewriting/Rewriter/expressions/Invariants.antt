use Rattle.std.proofs.Common.{◌≡◌, map}
use Rattle.dcc_ir.specs.Views.{expr_of}
use Rattle.dcc_words.specs.Words.{in_words}
use Rattle.dcc_words.specs.Roles.{role_of}
use Rattle.dcc_words.proofs.rewriting.Rewriter.expressions.Given as goal

abbrev pub invariant-loop-e : goal.invariant-loop-e
invariant-loop-e l = map expr_of l.done.items ≡ map (in_words (role_of l.self.roles.now)) (map expr_of l.yielded)
