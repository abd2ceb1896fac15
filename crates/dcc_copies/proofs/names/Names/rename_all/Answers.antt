use Rattle.std.proofs.Common.{◌<◌, length, map, refl, ◌∙◌, sym, arith}
use Rattle.std.proofs.lemmas.List.{length-set, length-map}
use Rattle.dcc_ir.specs.Views.{expr_of}
use Rattle.dcc_passes.specs.Renaming.{renamed}
use Rattle.dcc_copies.specs.Holders.{name_by}
use Rattle.dcc_webs.proofs.StepLaws.{done_none, done_step, done_all}
use Rattle.dcc_copies.proofs.names.Names.rename_all.Goals as goal

pub loop-i-init : goal.loop-i-init
loop-i-init c = record { count = refl; are = sym (done_none (renamed (name_by c.args.self.now.of.items)) (map expr_of c.args.es.now.items)) }

pub loop-i-preserved : goal.loop-i-preserved
loop-i-preserved c =
    let es = c.loop-i.es.items in
    let inside : c.loop-i.i < length es = omega (arith, c.loop-i.invariant.count, c.len-i-end.ensures) in
    record {
      count = length-set es c.loop-i.i c.rename.new.e ∙ c.loop-i.invariant.count;
      are = done_step expr_of (renamed (name_by c.args.self.now.of.items)) es c.loop-i.i c.index_mut.result.now c.rename.new.e (map expr_of c.args.es.now.items) inside c.index_mut.ensures.value c.rename.ensures
          c.loop-i.invariant.are;
    }

pub returns : goal.returns
returns c =
    c.loop-i.invariant.are
    ∙ done_all (renamed (name_by c.args.self.now.of.items)) c.loop-i.i (map expr_of c.args.es.now.items) (omega (arith, length-map c.args.es.now.items expr_of, c.len-i-end.ensures))
