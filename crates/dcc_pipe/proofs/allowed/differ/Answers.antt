use Rattle.std.proofs.Common.{◌≡◌, ◌+◌, true, false, ◌++◌, ◌∷◌, [], get_or, drop, sym, ap, ◌∙◌}
use Rattle.std.specs.Prelude.{nat_eq, if◌then◌else◌}
use Rattle.std.specs.List.{list_any}
use Rattle.std.proofs.lemmas.Bool.{not-true, not-false}
use Rattle.std.proofs.lemmas.List.{drop_more, append_assoc}
use Rattle.dcc_c.specs.Rules.{differ}
use Rattle.dcc_control.specs.Plan.{is_in}
use Rattle.dcc_control.proofs.ListLaws.{turned}
use Rattle.dcc_pipe.proofs.AllowedItems.{differ-more, differ-twice}
use Rattle.dcc_pipe.proofs.allowed.differ.Goals as goal

pub returns-then-not-is_new : goal.returns-then-not-is_new
returns-then-not-is_new c =
    let cases = c.args.cases.now in
    let seen = c.loop-case.seen.keys in
    let k = c.loop-case.case-index in
    let n = get_or cases k 0 in
    let found : is_in n seen ≡ true = sym (turned n seen) ∙ not-false (list_any (nat_eq n) seen) (sym c.in_ok-is_new.ensures.added ∙ c.if-not-is_new.true) in
    let whole : seen ++ n ∷ drop (k + 1) cases ≡ cases = ap (λ l. seen ++ l) (sym (drop_more cases k 0 c.loop-case-test.true)) ∙ c.loop-case.invariant.0 in
    sym (differ-twice seen n (drop (k + 1) cases) found) ∙ ap differ whole

pub loop-case-preserved : goal.loop-case-preserved
loop-case-preserved c =
    let cases = c.args.cases.now in
    let seen = c.loop-case.seen.keys in
    let k = c.loop-case.case-index in
    let n = get_or cases k 0 in
    let absent : list_any (nat_eq n) seen ≡ false = not-true (list_any (nat_eq n) seen) (sym c.in_ok-is_new.ensures.added ∙ c.if-not-is_new.false) in
    let more : c.insert.new.self.keys ≡ seen ++ n ∷ [] = c.in_ok-is_new.ensures.keys ∙ ap (λ found. if found then seen else seen ++ n ∷ []) absent in (
      ap (λ keys. keys ++ drop (k + 1) cases) more
          ∙ append_assoc seen (n ∷ []) (drop (k + 1) cases)
          ∙ ap (λ l. seen ++ l) (sym (drop_more cases k 0 c.loop-case-test.true))
          ∙ c.loop-case.invariant.0,
      ap differ more ∙ differ-more seen n c.loop-case.invariant.1 (sym (turned n seen) ∙ absent),
    )
