use Rattle.std.proofs.Common.{◌≡◌, sym, ap, subst, map}
use Rattle.std.specs.List.{AllZip}
use Rattle.dcc_ir.specs.Tree.{Set, Fetch, Store, Call}
use Rattle.dcc_ir.specs.Views.{expr_of, stmt_of}
use Rattle.dcc_substitution.specs.Substitute.{IsSubstitute}
use Rattle.dcc_substitution.specs.Substituted.{IsSubstituteStmt, set, fetch, store, call}
use Rattle.dcc_available.specs.Known.{known_of, IsTold}
use Rattle.dcc_available.proofs.WithinLaws.{dos_some, dos_none}
use Rattle.dcc_available.proofs.known.Known.within_stmt.Goals as goal
use Rattle.dcc_available.proofs.known.Known.within_stmt.Goals.{in-Some+in_ok-within-in-Some, in-None}

pub returns-in_ok-within-in-Set-clause-substitute : goal.returns-in_ok-within-in-Set-clause-substitute
returns-in_ok-within-in-Set-clause-substitute c =
    subst (λ s. IsSubstituteStmt (IsTold (known_of c.args.self.now)) s (Set c.in-Set.place (expr_of c.in_ok-within-in-Set.field-0))) (sym (ap stmt_of c.in-Set.is)) (set c.in_ok-within-in-Set.ensures.substitute)

pub returns-in_ok-within-in-Load-clause-substitute : goal.returns-in_ok-within-in-Load-clause-substitute
returns-in_ok-within-in-Load-clause-substitute c =
    subst (λ s. IsSubstituteStmt (IsTold (known_of c.args.self.now)) s (Fetch c.in-Load.place c.in-Load.width (expr_of c.in_ok-within-in-Load.field-0))) (sym (ap stmt_of c.in-Load.is))
    (fetch c.in_ok-within-in-Load.ensures.substitute)

pub returns-in_ok-within-in-Store-2-clause-substitute : goal.returns-in_ok-within-in-Store-2-clause-substitute
returns-in_ok-within-in-Store-2-clause-substitute c =
    subst (λ s. IsSubstituteStmt (IsTold (known_of c.args.self.now)) s (Store c.in-Store.width (expr_of c.in_ok-within-in-Store.field-0) (expr_of c.in_ok-within-in-Store-2.field-0))) (sym (ap stmt_of c.in-Store.is))
    (store c.in_ok-within-in-Store.ensures.substitute c.in_ok-within-in-Store-2.ensures.substitute)

pub returns-in_ok-within_all-in-Call-clause-substitute : goal.returns-in_ok-within_all-in-Call-clause-substitute
returns-in_ok-within_all-in-Call-clause-substitute c =
    let all = map expr_of c.in_ok-within_all-in-Call.field-0.items in
    let copied : c.in-Call.results.items ≡ c.in_ok-copied_places-in-Call.field-0.items = sym c.in_ok-copied_places-in-Call.ensures in
    subst (λ s. IsSubstituteStmt (IsTold (known_of c.args.self.now)) s (Call c.in_ok-copied_places-in-Call.field-0.items c.in-Call.entry all c.in-Call.depth)) (sym (ap stmt_of c.in-Call.is))
    (subst (λ places. IsSubstituteStmt (IsTold (known_of c.args.self.now)) (Call c.in-Call.results.items c.in-Call.entry (map expr_of c.in-Call.arguments.items) c.in-Call.depth) (Call places c.in-Call.entry all c.in-Call.depth)) copied
    (call (subst (λ xs. AllZip (IsSubstitute (IsTold (known_of c.args.self.now))) (map expr_of xs) all) c.as_slice.ensures.value c.in_ok-within_all-in-Call.ensures.substitutes)))

pub returns-after-argument-clause-substitute : goal.returns-after-argument-clause-substitute
returns-after-argument-clause-substitute c =
    elim c.match-argument.branch [
      | in-Some+in_ok-within-in-Some w ↦
          dos_some (IsTold (known_of c.args.self.now)) c.in-Dos.number c.in-Dos.place (stmt_of c.args.stmt.now) c.in-Dos.argument c.match-argument.result w.in-Some.e w.in_ok-within-in-Some.field-0
          (ap stmt_of c.in-Dos.is) w.in-Some.is w.result-is w.in_ok-within-in-Some.ensures.substitute
      | in-None w ↦
          dos_none (IsTold (known_of c.args.self.now)) c.in-Dos.number c.in-Dos.place (stmt_of c.args.stmt.now) c.in-Dos.argument c.match-argument.result (ap stmt_of c.in-Dos.is) w.in-None.is w.result-is
    ]
