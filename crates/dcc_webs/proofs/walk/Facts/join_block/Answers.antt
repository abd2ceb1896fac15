use Rattle.std.proofs.Common.{◌≡◌, ◌<◌, [], length, get_or, ap, sym, ◌∙◌, subst, arith}
use Rattle.std.proofs.lemmas.List.{length-map}
use Rattle.dcc_flow.specs.Access.{block_access_in}
use Rattle.dcc_flow.specs.Edges.{rows}
use Rattle.dcc_flow.proofs.RowLaws.{row_read, length_rows}
use Rattle.dcc_webs.specs.Walk.{facts_of}
use Rattle.dcc_webs.proofs.WalkLaws.{into_step, into_end}
use Rattle.dcc_webs.proofs.walk.Facts.join_block.Goals as goal

pub join_from-requires-clause-from : goal.join_from-requires-clause-from
join_from-requires-clause-from c =
    let facts = facts_of c.args.self.now in
    let size = length-map c.args.self.now.accesses.now.items block_access_in in
    let preds = c.args.self.now.preds.now.items in
    let inside : c.args.place < length preds = omega (arith, c.requires.place, size, c.requires.whole.preds, length_rows preds) in
    let row : c.as_slice-sources.result.now ≡ get_or (rows preds) c.args.place [] = c.as_slice-sources.ensures.value ∙ row_read preds c.args.place c.index.result.now inside c.index.ensures in
    let less : c.loop-i.i < length (get_or (rows preds) c.args.place []) = omega (arith, ap length row) in
    let within = c.requires.whole.within c.args.place [] (omega (arith, inside, length_rows preds)) c.loop-i.i 0 less in
    subst (λ l. get_or l c.loop-i.i 0 < length c.args.self.now.accesses.now.items) (sym row) (omega (arith, within, size))

pub loop-i-preserved : goal.loop-i-preserved
loop-i-preserved c =
    let facts = facts_of c.args.self.now in
    let size = length-map c.args.self.now.accesses.now.items block_access_in in
    let preds = c.args.self.now.preds.now.items in
    let inside : c.args.place < length preds = omega (arith, c.requires.place, size, c.requires.whole.preds, length_rows preds) in
    let row : c.as_slice-sources.result.now ≡ get_or (rows preds) c.args.place [] = c.as_slice-sources.ensures.value ∙ row_read preds c.args.place c.index.result.now inside c.index.ensures in
    let less : c.loop-i.i < length (get_or (rows preds) c.args.place []) = omega (arith, ap length row) in
    record {
      order = c.in_ok-join_from.ensures.order;
      joins = into_step facts c.args.place c.loop-i.i (get_or c.as_slice-sources.result.now c.loop-i.i 0) c.args.classes.now.class.items c.loop-i.classes.class.items c.join_from.new.classes.class.items less (ap (λ l. get_or l c.loop-i.i 0) row)
          c.loop-i.invariant.joins c.in_ok-join_from.ensures.joins;
    }

pub returns-clause-joins : goal.returns-clause-joins
returns-clause-joins c =
    let facts = facts_of c.args.self.now in
    let size = length-map c.args.self.now.accesses.now.items block_access_in in
    let preds = c.args.self.now.preds.now.items in
    let inside : c.args.place < length preds = omega (arith, c.requires.place, size, c.requires.whole.preds, length_rows preds) in
    let row : c.as_slice-sources.result.now ≡ get_or (rows preds) c.args.place [] = c.as_slice-sources.ensures.value ∙ row_read preds c.args.place c.index.result.now inside c.index.ensures in
    into_end facts c.args.place c.loop-i.i c.args.classes.now.class.items c.loop-i.classes.class.items (omega (arith, ap length row)) c.loop-i.invariant.joins
