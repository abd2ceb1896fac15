use Rattle.std.proofs.Common.{◌<◌, [], ◌∷◌, ◌++◌, length, map, set, sym, ap, ◌∙◌, subst}
use Rattle.std.specs.Prelude.{IfSome}
use Rattle.std.proofs.lemmas.List.{map-set, get_or-map}
use Rattle.std.proofs.lemmas.Result.{on_ok_weaker}
use Rattle.dcc_control.specs.Cases.{with_case}
use Rattle.dcc_control.proofs.goto_plan.add_case.Goals as goal

pub returns-in-Some : goal.returns-in-Some
returns-in-Some c =
    let lists = c.args.lists.now.items in
    let rows = map (λ list. list.items) lists in
    let i = c.in-Some.i in
    let old = c.index_mut.result.now in
    let within : i < length lists = subst (λ o. IfSome o (λ k. k < length lists)) c.in-Some.is c.requires in
    let read = ap (λ list. list.items) c.index_mut.ensures.value ∙ sym (get_or-map (λ list. list.items) lists i old [] within) in
    on_ok_weaker c.push_case.result
    (λ is.
    map-set (λ list. list.items) lists i c.push_case.new.list
    ∙ ap (set rows i) (is ∙ ap (λ l. l ++ c.args.case ∷ []) read)
    ∙ ap (λ o. with_case o c.args.case rows) (sym c.in-Some.is))
    c.push_case.ensures
