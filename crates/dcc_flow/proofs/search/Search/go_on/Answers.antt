use Rattle.std.proofs.Common.{◌<◌, [], length, All, sym, ◌∙◌, subst, arith}
use Rattle.std.proofs.lemmas.List.Elements.{All-get_or}
use Rattle.dcc_flow.specs.Edges.{rows}
use Rattle.dcc_flow.proofs.RowLaws.{row_read, length_rows}
use Rattle.dcc_flow.proofs.search.Search.go_on.Goals as goal

pub visit-requires : goal.visit-requires
visit-requires c =
    let vs = c.args.next.now.items in
    let block = c.args.block in
    let size = length_rows vs in
    let inside : block < length vs = c.requires.block in
    let row = c.as_slice-followers.ensures.value ∙ row_read vs block c.index.result.now inside c.index.ensures in
    let all = All-get_or (λ r. All (λ place. place < length (rows vs)) r) (rows vs) block [] (omega (arith, size)) c.requires.next in
    let here = subst (λ l. All (λ place. place < length (rows vs)) l) (sym row) all in
    let below = All-get_or (λ place. place < length (rows vs)) c.as_slice-followers.result.now c.args.turn 0 (omega arith) here in
    omega (arith, below, size, c.requires.seen)
