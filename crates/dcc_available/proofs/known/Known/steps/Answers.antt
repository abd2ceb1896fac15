use Rattle.std.proofs.Common.{◌<◌, [], ◌∷◌, ◌++◌, length, map, take, sym, subst, append_assoc}
use Rattle.std.proofs.lemmas.List.{append-nil}
use Rattle.dcc_ir.specs.Views.{stmt_of}
use Rattle.dcc_available.specs.Known.{known_of}
use Rattle.dcc_available.specs.Rewritten.{IsSound, AreRewritten, done}
use Rattle.dcc_available.proofs.RewrittenLaws.{rewritten-put}
use Rattle.dcc_available.proofs.StepLaws.{taken-more}
use Rattle.dcc_available.proofs.known.Known.steps.Goals as goal

pub loop-stmt-init : goal.loop-stmt-init
loop-stmt-init c = record {
  rewritten = λ history sound. subst (λ xs. AreRewritten history [] (map stmt_of xs)) (sym c.new-news.ensures.items) done;
  sound = λ history sound. subst (IsSound (known_of c.args.self.now)) (sym (append-nil history)) sound;
}

pub loop-stmt-preserved : goal.loop-stmt-preserved
loop-stmt-preserved c =
    let stmts = c.args.stmts.now in
    let i = c.loop-stmt.stmt-index in
    let stmt = c.stmt-item.result in
    let inv = c.loop-stmt.invariant in
    let less : i < length stmts = c.loop-stmt-test.true in
    let more = taken-more stmt_of stmts i stmt c.stmt-item.is less in
    record {
      rewritten = λ history sound.
          subst (λ xs. AreRewritten history xs (map stmt_of c.put.new.stmts.items)) (sym more)
          (rewritten-put history (map stmt_of (take i stmts)) c.loop-stmt.news.items c.put.new.stmts.items (stmt_of stmt) c.in_ok-new.new (inv.rewritten history sound)
          (c.in_ok-new.ensures.substitute (history ++ map stmt_of (take i stmts)) (inv.sound history sound)) c.in_ok-new.ensures.shallow c.in_ok-put.ensures);
      sound = λ history sound.
          subst (λ xs. IsSound (known_of c.step.new.self) (history ++ xs)) (sym more)
          (subst (IsSound (known_of c.step.new.self)) (append_assoc history (map stmt_of (take i stmts)) (stmt_of stmt ∷ []))
          (c.in_ok-new.ensures.sound (history ++ map stmt_of (take i stmts)) (inv.sound history sound)));
    }
