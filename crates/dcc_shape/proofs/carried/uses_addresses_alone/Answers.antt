use Rattle.std.proofs.Common.{◌≡◌, Bool, true, map, sym, ap, ◌∙◌}
use Rattle.dcc_c.specs.Tree.{Word}
use Rattle.dcc_c.specs.Views.{function_of, lines_of}
use Rattle.dcc_shape.specs.Carried.{is_local}
use Rattle.dcc_shape.specs.Carrying.{holds, Within, all_settle, all_keep}
use Rattle.dcc_shape.specs.Seen.{seen, seen_in}
use Rattle.dcc_shape.specs.Spots.{spots}
use Rattle.dcc_shape.proofs.CarryLaws.{uses-alone, alone-keeps}
use Rattle.dcc_shape.proofs.carried.uses_addresses_alone.Goals as goal

pub returns : goal.returns
returns c =
    let f = function_of c.args.function.now in
    let list = c.in_ok-list.list.items in
    let unplaced = holds c.in_ok-unplaced.unplaced in
    let first = holds c.in_ok-names.names in
    let names = holds c.settle.new.names in
    let same : map seen_in list ≡ map seen (spots f.body) =
    c.in_ok-list.ensures ∙ ap (λ l. map seen (spots (lines_of l))) c.deref.ensures.value in
    let result : c.all_keep.result ≡ all_keep unplaced names list =
    c.all_keep.ensures ∙ ap (all_keep unplaced names) c.as_slice-2.ensures.value in
    let given = c.as_slice.ensures.value in
    let settled : all_settle unplaced names list ≡ true = sym (ap (all_settle unplaced names) given) ∙ c.in_ok-settle.ensures.settled in
    let forced : (all : Word → Bool) → Within (is_local true f) all → all_keep unplaced all list ≡ true → Within names all =
    λ all within kept.
    c.in_ok-settle.ensures.forced all (λ word is. within word (sym (c.in_ok-names.ensures word) ∙ is))
    (ap (all_keep unplaced all) given ∙ kept) in (
      λ kept.
          uses-alone f list same unplaced c.in_ok-unplaced.ensures names
          (λ word is. c.in_ok-settle.ensures.more word (c.in_ok-names.ensures word ∙ is)) (sym result ∙ kept),
      λ alone. result ∙ alone-keeps f list same unplaced c.in_ok-unplaced.ensures names forced settled alone,
    )
