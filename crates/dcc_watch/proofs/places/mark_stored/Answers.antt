use Rattle.std.proofs.Common.{[], sym, ◌∙◌}
use Rattle.dcc_watch.specs.Foul.{touched}
use Rattle.dcc_watch.proofs.Stored.{is_storing}
use Rattle.dcc_watch.proofs.Bytes.{marked-is, marked_of-more, marked_all}
use Rattle.dcc_watch.proofs.places.mark_stored.Goals as goal

pub loop-access-init : goal.loop-access-init
loop-access-init c = sym (marked-is c.args.layout.now [] c.args.written.now)

pub loop-access-preserved : goal.loop-access-preserved
loop-access-preserved c =
    marked_of-more c.args.layout.now is_storing c.items-access-items.result.now c.loop-access.access-index _ c.loop-access.written c.mark_access.new.written
    c.args.written.now c.loop-access-test.true c.loop-access.invariant
    (c.mark_access.ensures ∙ sym (marked-is c.args.layout.now _ c.loop-access.written))

pub returns : goal.returns
returns c =
    marked_all c.args.layout.now is_storing c.items-access-items.result.now c.args.list.now c.loop-access.access-index c.loop-access.written c.args.written.now
    c.loop-access-test.false c.items-access-items.ensures c.loop-access.invariant
    ∙ marked-is c.args.layout.now (touched is_storing c.args.list.now) c.args.written.now
