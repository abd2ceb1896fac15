use Rattle.std.proofs.Common.{◌≡◌, map, flat_map, sym, ap, ◌∙◌, subst}
use Rattle.dcc_ir.specs.Views.{graph_of}
use Rattle.dcc_flow.specs.Marks.{members}
use Rattle.dcc_fold.specs.Alone.{block_writes, block_reads, IsCounted}
use Rattle.dcc_fold.proofs.AloneLaws.{params-counted, blocks-written, blocks-read}
use Rattle.dcc_fold.proofs.alone.Alone.of.Goals as goal

pub returns : goal.returns
returns c =
    let g = graph_of c.args.g.now in
    let accesses = c.in_ok-accesses.ensures in
    let writes = c.in_ok-counted.field-0 in
    let reads = c.in_ok-counted-2.field-0 in
    let same : c.params.inside.has.items ≡ c.add_all.new.self = cc in
    record {
      params = params-counted (members c.params.inside.has.items) (members c.new-params.result) c.as_slice.result.now _ c.new-params.ensures (ap members same ∙ c.in_ok-add_all.ensures)
          (c.as_slice.ensures.value ∙ c.in_ok-places.ensures);
      writes = subst (IsCounted writes.seen writes.again) (c.as_slice-2.ensures.value ∙ c.in_ok-written.ensures ∙ ap (flat_map block_writes) accesses ∙ blocks-written g.blocks) c.in_ok-counted.ensures;
      reads = subst (IsCounted reads.seen reads.again) (c.as_slice-3.ensures.value ∙ c.in_ok-read.ensures ∙ ap (flat_map block_reads) accesses ∙ blocks-read g.blocks) c.in_ok-counted-2.ensures;
    }
