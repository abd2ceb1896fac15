use Rattle.std.proofs.Common.{◌++◌, map, refl, subst}
use Rattle.dcc_ir.specs.Views.{stmt_of, exit_of}
use Rattle.dcc_available.specs.Along.{along}
use Rattle.dcc_available.specs.Known.{known_of, IsTold}
use Rattle.dcc_available.specs.Rewritten.{IsSound, AreRewritten}
use Rattle.dcc_available.proofs.TreeLaws.{exit-more}
use Rattle.dcc_available.proofs.known.Known.block.Goals as goal

pub returns-clause-rewritten : goal.returns-clause-rewritten
returns-clause-rewritten c = λ history sound.
    let stmts = c.args.block.now.stmts.items in
    let last = known_of c.steps.new.self in
    record {
      at = refl;
      stmts = subst (λ xs. AreRewritten history (map stmt_of xs) (map stmt_of c.in_ok-stmts.stmts.items)) c.as_slice.ensures.value (c.in_ok-stmts.ensures.rewritten history sound);
      exit = exit-more (IsTold last) (along (history ++ map stmt_of stmts))
          (subst (λ xs. IsSound last (history ++ map stmt_of xs)) c.as_slice.ensures.value (c.in_ok-stmts.ensures.sound history sound))
          (exit_of c.args.block.now.end) (exit_of c.in_ok-within_end.field-0) c.in_ok-within_end.ensures.substitute;
      shallow = c.in_ok-within_end.ensures.shallow;
    }
