use Rattle.std.proofs.Common.{◌≡◌, ◌+◌, ◌<◌, [], ◌∷◌, ◌++◌, length, get_or, map, take, ap, sym, ◌∙◌, subst, arith}
use Rattle.std.proofs.lemmas.List.{length-map, take_more}
use Rattle.dcc_live.specs.First.{row_in, TellsOf, AreTold}
use Rattle.dcc_live.proofs.RowLaws.{map_read}
use Rattle.dcc_live.proofs.LiveLaws.{told_push}
use Rattle.dcc_live.proofs.living.table_of.Goals as goal

pub loop-row-preserved : goal.loop-row-preserved
loop-row-preserved g c =
    let items = c.args.rows.now.items in
    let rows = map row_in items in
    let i = c.loop-row.row-index in
    let row = row_in c.row-item.result in
    let places = c.args.places.now in
    let was = c.loop-row in
    let same = ap length c.deref-row-items.ensures.value in
    let inside : i < length items = omega (arith, same) in
    let within : i < length rows = omega (arith, inside, length-map items row_in) in
    let read = map_read row_in items i c.row-item.result inside (c.row-item.is ∙ ap (λ l. get_or l i c.row-item.result) c.deref-row-items.ensures.value) in
    let u = c.in_ok-bits_at.field-0 in
    let w = c.in_ok-bits_at-2.field-0 in
    let first = subst (λ l. TellsOf places l u) c.as_slice.ensures.value c.in_ok-bits_at.ensures.tells in
    let writes = subst (λ l. TellsOf places l w) c.as_slice-in-loop-row.ensures.value c.in_ok-bits_at-2.ensures.tells in
    let told = told_push places (take i rows) was.used.items was.written.items row u w was.invariant c.in_ok-bits_at.ensures.len c.in_ok-bits_at-2.ensures.len first writes in
    let more : take (i + 1) rows ≡ take i rows ++ row ∷ [] = take_more rows i row within ∙ ap (λ r. take i rows ++ r ∷ []) (sym read) in
    subst (λ r. AreTold places r c.push.new.self.items c.push-in-loop-row.new.self.items) (sym more)
    (subst (λ l. AreTold places (take i rows ++ row ∷ []) l c.push-in-loop-row.new.self.items) (sym c.in_ok-push.ensures.items)
    (subst (AreTold places (take i rows ++ row ∷ []) (was.used.items ++ u ∷ [])) (sym c.in_ok-push-2.ensures.items) told))
