use Rattle.std.proofs.Common.{◌<◌, length, drop, map, sym, ap, ◌∙◌, arith}
use Rattle.dcc_c.specs.Kinds.{first_after}
use Rattle.dcc_c.specs.TextOffences.{first_number}
use Rattle.dcc_reader.specs.PartialViews.{number_of}
use Rattle.dcc_reader.specs.Told.{told}
use Rattle.dcc_check.proofs.PlaceLaws.{surplus-at}
use Rattle.dcc_check.proofs.places.tell_surplus.Goals as goal

pub returns-then-count-len : goal.returns-then-count-len
returns-then-count-len c =
    let numbers = c.args.variable.now.init.items in
    let within : c.element_count-count.result < length numbers = omega (arith, c.args.variable.now.init.ok.0, c.len.ensures) in
    c.tell.ensures
    ∙ sym (ap (first_after (told c.args.first.now)) (ap (λ n. first_number (drop n (map number_of numbers))) (sym c.element_count-count.ensures.value)
    ∙ surplus-at numbers c.element_count-count.result c.index-number.result.now within c.index-number.ensures))
