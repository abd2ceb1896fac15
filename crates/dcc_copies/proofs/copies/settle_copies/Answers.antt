use Rattle.dcc_ir.specs.Views.{graph_of}
use Rattle.dcc_copies.specs.Settled.{done}
use Rattle.dcc_copies.proofs.SettledLaws.{settled-tidied, settled-depth, settled-temps, settled-compose}
use Rattle.dcc_copies.proofs.copies.settle_copies.Goals as goal

pub loop-init : goal.loop-init
loop-init c = record { settled = done; formed = c.requires }

pub loop-preserved : goal.loop-preserved
loop-preserved c = record {
  settled =
      settled-compose (graph_of c.args.g) (graph_of c.loop.left) (graph_of c.in_ok-left.left) c.loop.invariant.settled
      c.in_ok-left.ensures.settled;
  formed = c.in_ok-left.ensures.formed;
}

pub settle_lot-requires : goal.settle_lot-requires
settle_lot-requires c = c.loop.invariant.formed

pub returns : goal.returns
returns c =
    let g = graph_of c.args.g in
    let h = graph_of c.loop.left in
    let settled = c.loop.invariant.settled in
    record {
      settled = settled;
      tidied = settled-tidied g h c.requires settled;
      depth = settled-depth g h settled;
      temps = settled-temps g h settled;
    }
