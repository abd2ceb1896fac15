use Rattle.std.proofs.Common.{◌<◌, length, refl, ◌∙◌, sym, arith}
use Rattle.std.proofs.lemmas.List.{length-set}
use Rattle.dcc_copies.specs.Holders.{name_by}
use Rattle.dcc_webs.proofs.StepLaws.{done_none, done_step_at, done_all}
use Rattle.dcc_copies.proofs.names.Names.rename_places.Goals as goal

pub loop-i-init : goal.loop-i-init
loop-i-init c = record { count = refl; are = sym (done_none (name_by c.args.self.now.of.items) c.args.places.now.items) }

pub loop-i-preserved : goal.loop-i-preserved
loop-i-preserved c =
    let all = c.loop-i.places.items in
    let inside : c.loop-i.i < length all = omega (arith, c.loop-i.invariant.count, c.len-i-end.ensures) in
    record {
      count = length-set all c.loop-i.i c.name.result ∙ c.loop-i.invariant.count;
      are = done_step_at (name_by c.args.self.now.of.items) all c.loop-i.i c.index.result.now c.name.result c.args.places.now.items inside c.index.ensures c.name.ensures c.loop-i.invariant.are;
    }

pub returns : goal.returns
returns c = c.loop-i.invariant.are ∙ done_all (name_by c.args.self.now.of.items) c.loop-i.i c.args.places.now.items (omega (arith, c.len-i-end.ensures))
