use Rattle.std.proofs.Common.{map, ap, ◌∙◌}
use Rattle.std.specs.Prelude.{option_map, string_bytes}
use Rattle.dcc_c.specs.Tree.{Call}
use Rattle.dcc_c.specs.Views.{expr_of}
use Rattle.dcc_rewrite.proofs.walk.call.Goals as goal

pub returns : goal.returns
returns g c = λ w is.
    let place = option_map w.place (option_map expr_of c.args.place.now) in
    let es = map expr_of c.in_ok-es.es.items in
    ap (λ p. Call p (string_bytes c.in_ok-clone.field-0) es c.args.depth) (c.in_ok-place.ensures w is)
    ∙ ap (λ word. Call place word es c.args.depth) c.in_ok-clone.ensures.cases
    ∙ ap (λ xs. Call place (string_bytes c.args.function.now) xs c.args.depth) (c.in_ok-es.ensures w is ∙ ap (λ word. w.arguments word (map expr_of c.as_slice.result.now)) c.as_str.ensures.value ∙ ap (λ xs. w.arguments (string_bytes c.args.function.now) (map expr_of xs)) c.as_slice.ensures.value)
