use Rattle.std.proofs.Common.{refl, sym, ap, ◌∙◌, subst, map}
use Rattle.std.specs.List.{AllZip}
use Rattle.std.proofs.Math.Path.{fun_ext}
use Rattle.dcc_ir.specs.Views.{block_of, graph_of}
use Rattle.dcc_words.specs.Words.{role_in, IsBlockInWords, param_in_words}
use Rattle.dcc_words.specs.Roles.{role_of}
use Rattle.dcc_words.proofs.graph.rewritten.Goals as goal

pub returns : goal.returns
returns c =
    let same = fun_ext c.requires in record {
      entry = refl;
      params = c.in_ok-params.ensures ∙ ap (λ role. map (param_in_words role) c.args.g.params.items) same;
      local = refl;
      pushed = refl;
      blocks = subst (λ role. AllZip (IsBlockInWords role) (map block_of c.args.g.blocks.items) (map block_of c.in_ok-blocks.blocks.items)) same c.in_ok-blocks.ensures;
      bits = c.in_ok-bits.ensures;
    }
