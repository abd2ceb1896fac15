use Rattle.std.proofs.Common.{◌<◌, [], length, get_or, All, ap, sym, ◌∙◌, subst, arith}
use Rattle.dcc_flow.specs.Edges.{rows}
use Rattle.dcc_flow.proofs.RowLaws.{row_read, length_rows}
use Rattle.dcc_interval.specs.Noted.{Noted, noted_of, with_all_noted, followers}
use Rattle.dcc_interval.specs.Collapsing.{others}
use Rattle.dcc_interval.proofs.ReachLaws.{row_within}
use Rattle.dcc_interval.proofs.NotedLaws.{all_noted_count}
use Rattle.dcc_interval.proofs.CollapseLaws.{row_step, row_end, all_followers, others_below, taken}
use Rattle.dcc_interval.proofs.collapse.row.Goals as goal

pub note_places-requires : goal.note_places-requires
note_places-requires c =
    let vs = c.args.next.now.items in
    let i = c.loop-member.member-index in
    let less : i < length c.args.members.now = omega arith in
    let node = get_or c.args.members.now i 0 in
    let row = c.as_slice.ensures.value ∙ row_read vs node c.index.result.now (c.requires.members i 0 less) c.index.ensures in
    let size = length_rows vs ∙ sym c.requires.count in
    record {
      nodes = subst (λ l. All (λ n. n < length c.args.places.now.items) l) (sym row) (subst (λ k. All (λ n. n < k) (get_or (rows vs) node [])) size (row_within (rows vs) c.requires.within node));
      places = subst (λ l. All (λ n. get_or c.args.places.now.items n 0 < length c.loop-member.noted.marks.items) l) (sym row)
          (subst (λ k. All (λ n. get_or c.args.places.now.items n 0 < k) (get_or (rows vs) node [])) (sym c.loop-member.invariant.count)
          (all_followers (λ n. get_or c.args.places.now.items n 0 < length c.args.noted.now.marks.items) (rows vs) c.args.members.now i less c.requires.places));
    }

pub loop-member-preserved : goal.loop-member-preserved
loop-member-preserved c =
    let vs = c.args.next.now.items in
    let i = c.loop-member.member-index in
    let less : i < length c.args.members.now = omega arith in
    let node = get_or c.args.members.now i 0 in
    let row = c.as_slice.ensures.value ∙ row_read vs node c.index.result.now (c.requires.members i 0 less) c.index.ensures in
    record {
      count = ap (λ (s : Noted). length s.marks) c.in_ok-note_places.ensures ∙ all_noted_count (noted_of c.loop-member.noted) (others c.args.places.now.items c.args.place c.as_slice.result.now) ∙ c.loop-member.invariant.count;
      rest = row_step (rows vs) c.args.places.now.items c.args.place c.args.members.now i less (noted_of c.loop-member.noted) (noted_of c.note_places.new.noted) c.as_slice.result.now row c.in_ok-note_places.ensures
          ∙ c.loop-member.invariant.rest;
    }

pub take-requires : goal.take-requires
take-requires c =
    let next = rows c.args.next.now.items in
    let places = c.args.places.now.items in
    let count = length c.args.noted.now.marks.items in
    let listed = others places c.args.place (followers next c.args.members.now) in
    let is = row_end next places c.args.place c.args.members.now c.loop-member.member-index (omega arith) (noted_of c.loop-member.noted) (noted_of c.args.noted.now) c.loop-member.invariant.rest
    ∙ ap (λ s. with_all_noted s listed) c.requires.empty in
    (taken count listed (noted_of c.loop-member.noted) (others_below places c.args.place count (followers next c.args.members.now) c.requires.places) is).listed

pub returns : goal.returns
returns c =
    let next = rows c.args.next.now.items in
    let places = c.args.places.now.items in
    let count = length c.args.noted.now.marks.items in
    let listed = others places c.args.place (followers next c.args.members.now) in
    let is = row_end next places c.args.place c.args.members.now c.loop-member.member-index (omega arith) (noted_of c.loop-member.noted) (noted_of c.args.noted.now) c.loop-member.invariant.rest
    ∙ ap (λ s. with_all_noted s listed) c.requires.empty in
    let k = taken count listed (noted_of c.loop-member.noted) (others_below places c.args.place count (followers next c.args.members.now) c.requires.places) is in
    record {
      row = c.take.ensures.list ∙ ap (λ (s : Noted). s.list) is;
      empty = c.take.ensures.rest ∙ ap (λ marks. record { marks = marks; list = [] }) k.cleared ∙ sym c.requires.empty;
    }
