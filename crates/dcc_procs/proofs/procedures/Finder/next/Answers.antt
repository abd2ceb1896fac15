use Rattle.std.proofs.Common.{◌≡◌, ◌∷◌, [], ◌++◌, ℕ, length, Contains, sym, ap, ◌∙◌, subst, arith, rules}
use Rattle.std.proofs.lemmas.List.Sums.{sum_by_push}
use Rattle.std.specs.Vec.{with_items}
use Rattle.dcc_prog.specs.declared.procedure.Proc.{Proc}
use Rattle.dcc_prog.specs.declared.refusal.Refusal.TheVariants.{Memory}
use Rattle.dcc_prog.specs.Refused.{IsRefusedByTrails}
use Rattle.dcc_prog.specs.Refused as refused
use Rattle.dcc_procs.specs.Entries.{AreAllReached}
use Rattle.dcc_procs.specs.Procedures.{calls_of, total_of, AreFirst}
use Rattle.dcc_procs.proofs.Finding.{next-found, first-pushed, total-refused}
use Rattle.dcc_procs.proofs.procedures.Finder.next.Goals as goal

pub returns-then-self-gt-MOST_INSTRUCTIONS-clause-refused : goal.returns-then-self-gt-MOST_INSTRUCTIONS-clause-refused
returns-then-self-gt-MOST_INSTRUCTIONS-clause-refused c =
    let f = c.requires.finding in
    let finder = c.args.self.now in
    let next = next-found c.args.image.now c.args.layout.now finder.entries.order.items finder.procs.items c.in_ok-proc.proc
    c.index-entry.result.now c.len.result f.entries.reached c.requires.more c.index-entry.ensures
    (omega (arith, c.len.ensures, finder.procs.ok.0)) c.in_ok-proc.ensures.found in
    let more = c.if-self-gt-MOST_INSTRUCTIONS.true in
    total-refused c.args.image.now c.args.layout.now finder.entries.order.items finder.procs.items c.in_ok-proc.proc f.first
    c.requires.more next.procedure f.entries.reached f.entries.distinct (omega (arith, more, f.total_is, c.len-2.ensures.len))

pub returns-in_err-targets-clause-refused : goal.returns-in_err-targets-clause-refused
returns-in_err-targets-clause-refused c =
    let named : IsRefusedByTrails c.args.image.now c.args.layout.now Memory = refused.no_memory in
    search rules

pub returns-in_err-add_all-clause-refused : goal.returns-in_err-add_all-clause-refused
returns-in_err-add_all-clause-refused c =
    let f = c.requires.finding in
    let image = c.args.image.now in
    let layout = c.args.layout.now in
    let finder = c.args.self.now in
    let next = next-found image layout finder.entries.order.items finder.procs.items c.in_ok-proc.proc c.index-entry.result.now
    c.len.result f.entries.reached c.requires.more c.index-entry.ensures
    (omega (arith, c.len.ensures, finder.procs.ok.0)) c.in_ok-proc.ensures.found in
    let targets = c.deref.ensures.value ∙ c.in_ok-targets.ensures in
    let named : IsRefusedByTrails image layout c.in_err-add_all.field-0.0 =
    c.in_err-add_all.ensures.refused image layout f.entries (subst (AreAllReached image layout) (sym targets) next.reached) in
    search rules

pub returns-in_err-push-clause-refused : goal.returns-in_err-push-clause-refused
returns-in_err-push-clause-refused c =
    let named : IsRefusedByTrails c.args.image.now c.args.layout.now Memory = refused.no_memory in
    search rules

pub returns-clause-finding : goal.returns-clause-finding
returns-clause-finding c =
    let f = c.requires.finding in
    let image = c.args.image.now in
    let layout = c.args.layout.now in
    let finder = c.args.self.now in
    let entries = finder.entries.order.items in
    let procs = finder.procs.items in
    let proc = c.in_ok-proc.proc in
    let next = next-found image layout entries procs proc c.index-entry.result.now c.len.result f.entries.reached
    c.requires.more c.index-entry.ensures (omega (arith, c.len.ensures, finder.procs.ok.0)) c.in_ok-proc.ensures.found in
    let targets : c.deref.result.now ≡ calls_of proc.nodes.entries = c.deref.ensures.value ∙ c.in_ok-targets.ensures in
    let a = c.in_ok-add_all.ensures.added image layout f.entries (subst (AreAllReached image layout) (sym targets) next.reached) in
    let callees : (target : ℕ) → Contains (calls_of proc.nodes.entries) target → Contains (entries ++ a.more) target = λ target there.
    subst (λ l. Contains l target) a.goes_on (a.all target (subst (λ l. Contains l target) (sym targets) there)) in
    let few = c.if-self-gt-MOST_INSTRUCTIONS.false in
    let first = first-pushed image layout entries a.more procs proc f.first c.requires.more next.procedure
    (omega (arith, few, f.total_is, c.len-2.ensures.len)) callees in
    let sum = sum_by_push (λ (q : Proc). length q.nodes.entries) procs proc in
    let pushed : c.push.new.self.items ≡ procs ++ proc ∷ [] = c.in_ok-push.ensures.items in
    record {
      fresh = c.in_ok-proc.ensures.fresh;
      ready = (let v = with_items finder.ready c.procedure.new.ready in omega (arith, v.ok.0, finder.ready.ok.0, f.ready));
      entries = a.are;
      first = subst (λ l. AreFirst image layout l c.push.new.self.items) (sym a.goes_on)
          (subst (AreFirst image layout (entries ++ a.more)) (sym pushed) first);
      total_is = (let t = ap total_of pushed in omega (arith, t, sum, f.total_is, c.len-2.ensures.len));
    }
