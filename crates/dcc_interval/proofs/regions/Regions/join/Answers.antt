use Rattle.std.proofs.Common.{length, ◌∙◌}
use Rattle.std.proofs.lemmas.List.{get_or_default}
use Rattle.std.proofs.lemmas.Result.{on_ok_weaker}
use Rattle.dcc_interval.specs.Reducing.{regions_of}
use Rattle.dcc_interval.proofs.NumberLaws.{first_made, second_made}
use Rattle.dcc_interval.proofs.regions.Regions.join.Goals as goal

pub returns-then-len : goal.returns-then-len
returns-then-len c =
    let r = regions_of c.args.self.now in
    let one = c.index-one.ensures ∙ get_or_default r.numbers c.args.region c.index-one.result.now 0 c.requires.region in
    let two = c.index-other.ensures ∙ get_or_default r.numbers c.args.into c.index-other.result.now 0 c.requires.into in
    let made = first_made (length r.numbers) r c.requires.whole c.args.region c.args.into c.requires.region c.requires.into c.requires.is c.requires.other c.requires.apart
    c.index-one.result.now c.index-other.result.now one two (regions_of c.renumber.new.self) in
    record {
      whole = on_ok_weaker c.renumber.result (λ is. (made is).whole) c.renumber.ensures;
      joined = on_ok_weaker c.renumber.result (λ is. (made is).joined) c.renumber.ensures;
    }

pub returns-in_ok-renumber : goal.returns-in_ok-renumber
returns-in_ok-renumber c =
    let r = regions_of c.args.self.now in
    let one = c.index-one.ensures ∙ get_or_default r.numbers c.args.region c.index-one.result.now 0 c.requires.region in
    let two = c.index-other.ensures ∙ get_or_default r.numbers c.args.into c.index-other.result.now 0 c.requires.into in
    let made = second_made (length r.numbers) r c.requires.whole c.args.region c.args.into c.requires.region c.requires.into c.requires.is c.requires.other c.requires.apart
    c.index-one.result.now c.index-other.result.now one two (regions_of c.renumber-else-len.new.self) c.in_ok-renumber.ensures in
    record { whole = made.whole; joined = made.joined }
