use Rattle.std.proofs.Common.{ℕ, Bool, ◌<◌, ◌++◌, ◌∷◌, [], false, map, length, get_or, refl, ap, ◌∙◌, arith}
use Rattle.std.specs.List.{filter, sum_by, count_by}
use Rattle.indexmap.specs.IndexMap.{keys}
use Rattle.dcc_flow.specs.Edges.{rows, is_in, leads}
use Rattle.dcc_flow.proofs.RowLaws.{length_rows}
use Rattle.dcc_interval.specs.Derived.{loop_headers, ends_in_one}
use Rattle.dcc_interval.proofs.LevelRegions.{levels_reduce, reductions_agree}
use Rattle.dcc_interval.proofs.ExistLaws.{derives}
use Rattle.dcc_shape.specs.declared.points.Point.{Point}
use Rattle.dcc_shape.specs.Procedures.{flow_of, place_among, different}
use Rattle.dcc_shape.proofs.GraphLaws.{keys-are, is-asked}
use Rattle.dcc_shape.proofs.asked.asked_by.Goals as goal

pub count-count-requires : goal.count-count-requires
count-count-requires c =
    c.as_slice-2.ensures.value ∙ c.in_ok-ats.ensures ∙ ap (map (λ (p : Point). p.at)) c.as_slice.ensures.value
    ∙ keys-are c.in_ok-points.points.items c.args.proc.now.nodes.entries c.in_ok-points.ensures

pub returns : goal.returns
returns c =
    let places = keys c.args.proc.now.nodes in
    let points = c.in_ok-points.points.items in
    let ats = c.in_ok-ats.ats.items in
    let next = rows c.in_ok-next.next.items in
    let start = c.place-entry.result in
    let reduction = c.in_ok-reduction.reduction in
    let marks = reduction.headers.items in
    let is_header : ℕ → Bool = λ n. get_or marks n false in
    let inside : start < length next = omega (arith, c.place-entry.ensures.within, c.in_ok-next.ensures.count, length_rows c.in_ok-next.next.items) in
    let levels = derives next start c.in_ok-next.ensures.within inside in
    let same = reductions_agree (leads next) start is_header (is_in (loop_headers (leads next) levels.0)) reduction.ends_in_one (ends_in_one levels.0)
    c.in_ok-reduction.ensures (levels_reduce (leads next) start levels.0 levels.1) in
    is-asked points places next start levels.0 is_header _
    (record {
      ats = c.in_ok-ats.ensures ∙ ap (map (λ (p : Point). p.at)) c.as_slice.ensures.value;
      branches = c.branches.ensures ∙ ap (count_by (λ (p : Point). p.branches)) c.as_slice-5.ensures.value;
      edges_count = c.in_ok-edges.ensures.count ∙ ap (sum_by (λ (p : Point). different p.next.items)) c.as_slice-6.ensures.value;
      edges_each = λ n. c.in_ok-edges.ensures.each n ∙ ap (count_by (λ (p : Point). is_in p.next.items n)) c.as_slice-6.ensures.value;
      next_are = c.in_ok-next.ensures.are ∙ ap (λ l. map (λ (p : Point). map (place_among places) p.next.items) l ++ [] ∷ []) c.as_slice-3.ensures.value;
      start_is = c.place-entry.ensures.is;
      derived = levels.1;
      headers_are = same.0;
      heads = c.in_ok-heads.ensures
          ∙ ap (λ l. filter (λ at. get_or c.as_slice-marks.result.now (place_among places at) false) l) c.as_slice-4.ensures.value
          ∙ ap (λ l. filter (λ at. get_or l (place_among places at) false) ats) c.as_slice-marks.ensures.value;
      one = same.1;
    })
    c.args.proc.now.nodes.entries (flow_of c.args.proc.now) refl refl c.in_ok-points.ensures
