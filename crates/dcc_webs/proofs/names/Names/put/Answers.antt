use Rattle.std.proofs.Common.{length, ap, ◌∙◌, arith}
use Rattle.dcc_flow.specs.Marks.{members}
use Rattle.dcc_webs.proofs.NameLaws.{put_names}
use Rattle.dcc_webs.proofs.names.Names.put.Goals as goal

pub returns : goal.returns
returns c =
    let names = c.args.self.now in
    put_names names.numbers.items c.make_room.new.numbers.items names.origins.items c.push.new.self.items (members names.has) (members c.add.new.self) c.args.location c.place_of-place.result c.in_ok-number.number
    c.place_of-place.ensures (c.in_ok-number.ensures ∙ ap length c.as_slice.ensures.value) (omega (arith, c.in_ok-make_room.ensures.room)) c.make_room.ensures.same c.in_ok-push.ensures.items c.in_ok-add.ensures
