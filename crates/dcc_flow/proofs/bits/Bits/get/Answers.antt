use Rattle.std.proofs.Common.{ap, ◌∙◌, ◌%◌, ◌/◌, arith}
use Rattle.std.specs.Prelude.{◌==◌}
use Rattle.std.specs.Int.{bit_at}
use Rattle.std.proofs.lemmas.List.{get_or_read}
use Rattle.std.proofs.lemmas.Nat.Bits.{shr_and_one}
use Rattle.dcc_flow.proofs.WordLaws.{Keep, place_word, place_bit}
use Rattle.dcc_flow.proofs.bits.Bits.get.Goals as goal

pub index-requires : goal.index-requires
index-requires c =
    let keep : Keep c.self.inside.words.items c.self.inside.len c.args.self.now =
    record { are = c.self.invariant; view = c.self.view_is } in
    omega (arith, place_word keep c.args.i c.requires)

pub returns : goal.returns
returns c =
    let words = c.self.inside.words.items in
    let keep : Keep words c.self.inside.len c.args.self.now = record { are = c.self.invariant; view = c.self.view_is } in
    let within = place_word keep c.args.i c.requires in
    ap (λ x. x == 1) (shr_and_one c.index.result.now (c.args.i % 64))
    ∙ ap (λ w. bit_at w (c.args.i % 64) == 1) (get_or_read words (c.args.i / 64) c.index.result.now within c.index.ensures 0)
    ∙ place_bit keep c.args.i c.requires
