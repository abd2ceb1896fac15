use Rattle.std.proofs.Common.{◌≡◌, ℕ, ◌+◌, length, map, sym, ap, ap₂, ◌∙◌}
use Rattle.std.proofs.lemmas.List.{length-map}
use Rattle.dcc_c.specs.Tree.{Lines, Function}
use Rattle.dcc_c.specs.Parts.{stmts_in}
use Rattle.dcc_c.specs.Written.{written_lines}
use Rattle.dcc_c.specs.Numbered.{rows, numbered_lines}
use Rattle.dcc_c.specs.Views.{lines_of, variable_of, function_of}
use Rattle.dcc_print.specs.Unbroken.{are_unbroken}
use Rattle.dcc_print.proofs.CountedTrees.{with-items, on-ok}
use Rattle.dcc_print.proofs.numbering.number_function.Goals as goal

pub returns-clause-numbered : goal.returns-clause-numbered
returns-clause-numbered c u =
    let f = c.args.f.now in
    let at = c.args.line in
    let body = lines_of c.deref_mut.result.now in
    let value = c.deref_mut.ensures.value in
    let inner = ap (λ ls. are_unbroken (stmts_in (lines_of ls))) value ∙ u in
    let lines = c.in_ok-f.ensures in
    let new = c.number_lines.new.lines in
    let first_is : c.in_ok-first.first ≡ at + 2 + length (map variable_of f.locals.items) =
    c.in_ok-first.ensures ∙ ap₂ (λ n m. n + m) c.in_ok-further.ensures (c.len.ensures ∙ f.locals.ok.0 ∙ sym (length-map f.locals.items variable_of)) in
    let made : Lines → ℕ → Function = λ b l. record (function_of f) { body = b; last = l } in
    on-ok c.further-3.result
    (ap₂ made
    (ap lines_of (with-items f.body new (c.number_lines.auto.lines ∙ ap length value)) ∙ lines.numbered inner
    ∙ ap₂ (λ n ls. numbered_lines 2 n (lines_of ls)) first_is value)
    (lines.line inner ∙ ap₂ (λ n ls. n + rows (written_lines 1 2 (lines_of ls))) first_is value))
