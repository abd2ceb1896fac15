use Rattle.std.proofs.Common.{List, ℕ, map, sym, ap, ◌∙◌, subst}
use Rattle.std.proofs.lemmas.List.{length-map}
use Rattle.dcc_ir.specs.declared.syntax.Loc.{Loc}
use Rattle.dcc_ir.specs.Views.{block_of, graph_of}
use Rattle.dcc_flow.specs.Access.{block_access_in}
use Rattle.dcc_webs.specs.Names.{names_of}
use Rattle.dcc_webs.specs.Walk.{facts_of, origins_before, all_links}
use Rattle.dcc_webs.specs.Split.{AreTempsOf}
use Rattle.dcc_webs.proofs.StandLaws.{split_is}
use Rattle.dcc_webs.proofs.splitting.split_by.Goals as goal

pub returns : goal.returns
returns c =
    let facts = facts_of c.args.facts.now in
    let temps = c.in_ok-temps.temps in
    let count = sym (length-map c.args.facts.now.accesses.now.items block_access_in) in
    record {
      temps = temps;
      temps_are = subst (λ (o : List Loc). AreTempsOf c.args.g.bits.items o (all_links facts) temps) (c.in_ok-numbers.ensures.origins ∙ ap (origins_before facts) count)
          (subst (λ (b : List ℕ). AreTempsOf b c.in_ok-numbers.numbers.origins.items (all_links facts) temps) c.as_slice.ensures.value c.in_ok-temps.ensures);
      is = split_is facts (graph_of c.args.g) temps.of.items c.as_slice-3.result.now c.as_slice-4.result.now temps.bits.items c.rename_params.new.params.items (map block_of c.rename_blocks.new.blocks.items)
          (names_of c.rename_blocks.new.names) (names_of c.name_all.new.self) c.as_slice-3.ensures.value c.as_slice-4.ensures.value c.in_ok-rename_blocks.ensures.names c.in_ok-name_all.ensures c.rename_params.ensures
          c.in_ok-rename_blocks.ensures.renamed;
    }
