use Rattle.std.proofs.Common.{◌*◌, ◌%◌, ◌^◌, bit_or, arith}
use Rattle.dcc_flow.proofs.WordLaws.{Keep, place_word, SetsPlace, set_place}
use Rattle.dcc_flow.proofs.bits.Bits.set.Given.{Over}
use Rattle.dcc_flow.proofs.bits.Bits.set.Goals.{After-index_mut}
use Rattle.dcc_flow.proofs.bits.Bits.set.Goals as goal

pub index_mut-requires : goal.index_mut-requires
index_mut-requires g c =
    let keep : Keep c.self.inside.words.items c.self.inside.len c.args.self.now =
    record { are = c.self.invariant; view = c.self.view_is } in
    omega (arith, place_word keep c.args.i c.requires)

facts : (g : Over) (c : After-index_mut g)
    → SetsPlace c.self.inside.words.items c.self.inside.len c.args.self.now c.args.i
    (bit_or c.index_mut.result.now (1 * 2 ^ (c.args.i % 64) % 2 ^ 64))
facts g c =
    let keep : Keep c.self.inside.words.items c.self.inside.len c.args.self.now =
    record { are = c.self.invariant; view = c.self.view_is } in
    set_place keep c.args.i c.index_mut.result.now c.requires c.index_mut.ensures.value

pub invariant_of-self : goal.invariant_of-self
invariant_of-self g c = (facts g (goal.at.invariant_of-self g c).After-index_mut).are

pub returns-clause-bits : goal.returns-clause-bits
returns-clause-bits g c = (facts g (goal.at.returns-clause-bits g c).After-index_mut).places
