use Rattle.std.proofs.Common.{◌≡◌, ◌+◌, ◌++◌, flat_map, sym, ap, ◌∙◌, append_assoc, arith}
use Rattle.std.specs.List.{range_with_len}
use Rattle.dcc_variables.specs.Variables.{cell_halves}
use Rattle.dcc_variables.proofs.AddressLaws.{cells-more}
use Rattle.dcc_variables.proofs.variables.push_cells.Goals as goal

pub loop-n-preserved : goal.loop-n-preserved
loop-n-preserved c =
    let n = c.loop-n.n in
    let before = c.args.list.now.items in
    let cells = flat_map cell_halves (range_with_len 0 n) in
    let last : 0 + n ≡ n = omega arith in
    c.in_ok-push_cell.ensures
    ∙ ap (λ l. l ++ cell_halves n) c.loop-n.invariant
    ∙ append_assoc before cells (cell_halves n)
    ∙ ap (λ l. before ++ l) (sym (cells-more 0 n ∙ ap (λ k. cells ++ cell_halves k) last))
