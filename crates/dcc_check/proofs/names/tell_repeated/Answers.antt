use Rattle.std.proofs.Common.{refl, sym, ap, ◌∙◌}
use Rattle.std.proofs.lemmas.List.{drop_all}
use Rattle.dcc_c.specs.Grammar.{is_among}
use Rattle.dcc_c.specs.Kinds.{first_after}
use Rattle.dcc_c.specs.Offences.{repeated}
use Rattle.dcc_check.specs.Names.{lent_names}
use Rattle.dcc_reader.specs.Told.{told}
use Rattle.dcc_check.proofs.NameLaws.{known-step, told-step, none-held, new-or-taken}
use Rattle.dcc_check.proofs.names.tell_repeated.Goals as goal

pub loop-name-init : goal.loop-name-init
loop-name-init c = λ before all. (before, λ word. none-held c.args.taken.now c.new-own.result word (is_among before word) c.new-own.ensures.empty (all word), refl)

pub loop-name-preserved : goal.loop-name-preserved
loop-name-preserved c = λ before all.
    let inv = c.loop-name.invariant before all in (
      _,
      known-step c.args.names.now c.loop-name.name-index _ _ c.loop-name-test.true refl c.loop-name.own c.add_new.new.words c.in_ok-is_new.ensures.added
          c.args.taken.now inv.0 inv.1,
      told-step c.args.names.now c.loop-name.name-index _ _ c.loop-name-test.true refl inv.0 (told c.loop-name.first) (told c.tell_if.new.self) c.is_repeated.result
          (c.is_repeated.ensures ∙ new-or-taken _ _ c.in_ok-is_new.is_new c.in_ok-is_new.ensures.new ∙ inv.1 _) c.tell_if.ensures
          ∙ inv.2,
    )

pub returns : goal.returns
returns c = λ known all.
    let inv = c.loop-name.invariant known all in
    sym (ap (λ l. first_after (told c.loop-name.first) (repeated inv.0 (lent_names l))) (drop_all c.loop-name.name-index c.args.names.now c.loop-name-test.false)) ∙ inv.2
