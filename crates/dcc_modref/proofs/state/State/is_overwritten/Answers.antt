use Rattle.std.proofs.Common.{◌&&◌, not, sym, ap, ◌∙◌}
use Rattle.std.specs.List.{list_any}
use Rattle.dcc_ir.specs.Live.{is_among}
use Rattle.dcc_ir.specs.Views.{stmt_of}
use Rattle.dcc_sums.specs.Instance.{passes, written_by}
use Rattle.dcc_modref.proofs.StateLaws.{any_filter}
use Rattle.dcc_modref.proofs.state.State.is_overwritten.Goals as goal

pub returns-in-Call : goal.returns-in-Call
returns-in-Call c =
    let saved = c.args.self.now.saved in
    c.any_saves.ensures ∙ ap (list_any (λ place. not (passes place) && is_among saved place)) c.as_slice.ensures.value
    ∙ sym (any_filter (is_among saved) (λ place. not (passes place)) c.in-Call.results.items)
    ∙ ap (λ s. list_any (is_among saved) (written_by (stmt_of s))) (sym c.in-Call.is)
