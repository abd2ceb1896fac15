use Rattle.std.proofs.Common.{◌≡◌, map}
use Rattle.dcc_words.specs.Words.{param_in_words}
use Rattle.dcc_words.specs.Roles.{role_of}
use Rattle.dcc_words.proofs.rewriting.Rewriter.params.Given as goal

abbrev pub invariant-loop-param : goal.invariant-loop-param
invariant-loop-param l = l.after.items ≡ map (param_in_words (role_of l.self.roles.now)) l.yielded
