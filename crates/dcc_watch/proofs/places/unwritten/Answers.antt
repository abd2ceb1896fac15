use Rattle.std.proofs.Common.{ℕ, sym, ◌∙◌}
use Rattle.std.specs.Prelude.{not}
use Rattle.dcc_prog.specs.Clean.{is_marked, is_reading}
use Rattle.dcc_watch.proofs.Bytes.{none_of, found_of, none_in_all}
use Rattle.dcc_watch.proofs.places.unwritten.Goals as goal

pub loop-access-preserved : goal.loop-access-preserved
loop-access-preserved c =
    let so = λ (offset : ℕ). not (is_marked c.args.written.now offset) in
    none_of c.args.layout.now so is_reading c.items-access-items.result.now c.loop-access.access-index _ c.unwritten_of-byte.result c.loop-access-test.true
    c.loop-access.invariant c.unwritten_of-byte.ensures (sym c.is_some.ensures ∙ c.if-is_some.false)

pub returns-then-is_some : goal.returns-then-is_some
returns-then-is_some c =
    let so = λ (offset : ℕ). not (is_marked c.args.written.now offset) in
    found_of c.args.layout.now so is_reading c.items-access-items.result.now c.loop-access.access-index _ c.unwritten_of-byte.result c.args.list.now c.loop-access-test.true
    c.items-access-items.ensures c.loop-access.invariant c.unwritten_of-byte.ensures (sym c.is_some.ensures ∙ c.if-is_some.true)

pub returns : goal.returns
returns c =
    let so = λ (offset : ℕ). not (is_marked c.args.written.now offset) in
    none_in_all c.args.layout.now so is_reading c.items-access-items.result.now c.args.list.now c.loop-access.access-index c.loop-access-test.false
    c.items-access-items.ensures c.loop-access.invariant
