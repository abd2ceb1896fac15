use Rattle.std.proofs.Common.{◌<◌, length, refl, ◌∙◌, sym, arith}
use Rattle.std.proofs.lemmas.List.{length-set}
use Rattle.dcc_passes.specs.Renaming.{renamed_param}
use Rattle.dcc_webs.specs.Split.{temp_in}
use Rattle.dcc_webs.proofs.StepLaws.{done_none, done_step_at, done_all}
use Rattle.dcc_webs.proofs.renaming.Renamer.rename_params.Goals as goal

pub loop-i-init : goal.loop-i-init
loop-i-init c = record { count = refl; are = sym (done_none (renamed_param (temp_in c.args.self.now)) c.args.params.now.items) }

pub loop-i-preserved : goal.loop-i-preserved
loop-i-preserved c =
    let all = c.loop-i.params.items in
    let inside : c.loop-i.i < length all = omega (arith, c.loop-i.invariant.count, c.len-i-end.ensures) in
    record {
      count = length-set all c.loop-i.i c.rename_param.result ∙ c.loop-i.invariant.count;
      are = done_step_at (renamed_param (temp_in c.args.self.now)) all c.loop-i.i c.index.result.now c.rename_param.result c.args.params.now.items inside c.index.ensures c.rename_param.ensures c.loop-i.invariant.are;
    }

pub returns : goal.returns
returns c = c.loop-i.invariant.are ∙ done_all (renamed_param (temp_in c.args.self.now)) c.loop-i.i c.args.params.now.items (omega (arith, c.len-i-end.ensures))
