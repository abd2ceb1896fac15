use Rattle.std.proofs.Common.{◌≡◌, [], replicate, length, sym, ap, ◌∙◌, subst, rules}
use Rattle.std.proofs.lemmas.List.{length-replicate}
use Rattle.dcc_prog.specs.declared.refusal.Refusal.TheVariants.{Memory}
use Rattle.dcc_prog.specs.Trail.{start}
use Rattle.dcc_prog.specs.Refused.{IsRefusedByTrails}
use Rattle.dcc_prog.specs.Refused as refused
use Rattle.dcc_procs.specs.Procedures.{total_of, AreFirst}
use Rattle.dcc_procs.proofs.EntryLaws.{entries-none, added-one, overfull-refused, start-order}
use Rattle.dcc_procs.proofs.Finding.{first-none}
use Rattle.dcc_procs.specs.Division.{unready}
use Rattle.dcc_procs.proofs.procedures.Finder.new.Goals as goal

pub returns-in_err-entries-clause-refused : goal.returns-in_err-entries-clause-refused
returns-in_err-entries-clause-refused c =
    let named : IsRefusedByTrails c.args.image.now c.args.layout.now Memory = refused.no_memory in
    search rules

pub returns-in_err-add-clause-refused : goal.returns-in_err-add-clause-refused
returns-in_err-add-clause-refused c =
    let image = c.args.image.now in
    let layout = c.args.layout.now in
    let none = entries-none image layout c.in_ok-entries.entries c.in_ok-entries.ensures in
    let named : IsRefusedByTrails image layout c.in_err-add.field-0.0 =
    overfull-refused image layout c.in_ok-entries.entries layout.start_ip none start c.in_err-add.field-0.0
    c.in_err-add.ensures.full in
    search rules

pub returns-in_err-new-clause-refused : goal.returns-in_err-new-clause-refused
returns-in_err-new-clause-refused c =
    let named : IsRefusedByTrails c.args.image.now c.args.layout.now Memory = refused.no_memory in
    search rules

pub returns-in_err-vec-clause-refused : goal.returns-in_err-vec-clause-refused
returns-in_err-vec-clause-refused c =
    let named : IsRefusedByTrails c.args.image.now c.args.layout.now Memory = refused.no_memory in
    search rules

pub returns-clause-finding : goal.returns-clause-finding
returns-clause-finding c =
    let image = c.args.image.now in
    let layout = c.args.layout.now in
    let old = c.in_ok-entries.entries in
    let none = entries-none image layout old c.in_ok-entries.ensures in
    let added = c.in_ok-add.ensures.added in
    let procs : c.new-3.result.items ≡ [] = c.new-3.ensures.items in
    let ready : c.in_ok-vec.field-0.items ≡ replicate 65536 unready =
    c.in_ok-vec.ensures.items_if_clones_equal (λ y same. same) in
    record {
      fresh = c.in_ok-new.ensures;
      ready = ap length ready ∙ length-replicate 65536 unready;
      entries = (added-one image layout old layout.start_ip none start c.add.new.self c.add.ensures.small added).are;
      first =
          subst (AreFirst image layout c.add.new.self.order.items) (sym procs)
          (first-none image layout c.add.new.self.order.items (start-order old c.add.new.self layout.start_ip c.in_ok-entries.ensures added));
      total_is = sym (ap total_of procs);
    }
