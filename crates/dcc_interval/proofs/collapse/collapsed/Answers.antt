use Rattle.std.proofs.Common.{◌≡◌, ◌<◌, ℕ, Bool, false, [], length, get_or, All, ap, sym, ◌∙◌, subst, arith}
use Rattle.std.proofs.lemmas.List.{length-map, length-replicate, length_push, map_push}
use Rattle.std.specs.Global.{Vec}
use Rattle.dcc_flow.specs.Edges.{rows}
use Rattle.dcc_flow.proofs.RowLaws.{length_rows}
use Rattle.dcc_interval.specs.Intervals.{interval_in, intervals_in}
use Rattle.dcc_interval.specs.Derived.{members_at}
use Rattle.dcc_interval.specs.Noted.{Noted, followers}
use Rattle.dcc_interval.specs.Collapsing.{places_of, nothing_noted, row_of}
use Rattle.dcc_interval.proofs.CollapseLaws.{length_places, places_within, collapsed_is, rows_push}
use Rattle.dcc_interval.proofs.SequenceLaws.{declared_members, members_are_within}
use Rattle.dcc_interval.proofs.collapse.collapsed.Goals as goal

pub places-requires : goal.places-requires
places-requires c =
    let vs = c.args.next.now.items in
    record {
      within = members_are_within (rows vs) c.requires.intervals.0 c.requires.within (omega (arith, c.requires.intervals.1, length_rows vs)) c.args.intervals.now.items c.requires.intervals.2
          c.len.result (omega (arith, length_rows vs));
      few = omega (arith, c.in_ok-count.ensures.all, c.in_ok-count.ensures.few);
    }

pub loop-place-init : goal.loop-place-init
loop-place-init c =
    record {
      empty = c.in_ok-noted.ensures ∙ ap nothing_noted c.in_ok-count.ensures.all;
      size = ap length c.new-graph.ensures.items;
      rows_are = λ a less. absurd (omega (arith, less));
    }

pub row-requires : goal.row-requires
row-requires c =
    let vs = c.args.next.now.items in
    let xs = c.args.intervals.now.items in
    let level = intervals_in xs in
    let p = c.loop-place.place in
    let less : p < length xs = omega arith in
    let entry = c.requires.intervals.0 in
    let inside : entry < length (rows vs) = omega (arith, c.requires.intervals.1, length_rows vs) in
    let members = c.as_slice-members.ensures.value ∙ ap (λ i. i.members.items) c.index.ensures ∙ declared_members xs p c.index.result.now less in
    let marks = ap (λ (s : Noted). length s.marks) c.loop-place.invariant.empty ∙ length-replicate {A = Bool} (length xs) false in
    let size : c.len.result ≡ length (rows vs) = omega (arith, length_rows vs) in
    let places = c.in_ok-places.ensures ∙ ap (λ k. places_of k level) size in
    let all = members_are_within (rows vs) entry c.requires.within inside xs c.requires.intervals.2 (length vs) (length_rows vs) p c.index.result.now less in
    record {
      within = c.requires.within;
      members = subst (λ l. All (λ n. n < length vs) l) (sym (members ∙ sym (declared_members xs p c.index.result.now less))) all;
      count = ap length places ∙ length_places (length (rows vs)) level ∙ length_rows vs;
      places = subst (λ l. All (λ n. get_or c.in_ok-places.places.items n 0 < length c.loop-place.noted.marks.items) (followers (rows vs) l)) (sym members)
          (subst (λ k. All (λ n. get_or c.in_ok-places.places.items n 0 < k) (followers (rows vs) (members_at level p))) (length-map xs interval_in ∙ sym marks)
          (subst (λ l. All (λ n. get_or l n 0 < length level) (followers (rows vs) (members_at level p))) (sym places)
          (places_within (rows vs) entry c.requires.within inside level c.requires.intervals.2 p)));
      empty = c.loop-place.invariant.empty ∙ ap nothing_noted (sym marks);
    }

pub loop-place-preserved : goal.loop-place-preserved
loop-place-preserved c =
    let vs = c.args.next.now.items in
    let xs = c.args.intervals.now.items in
    let level = intervals_in xs in
    let p = c.loop-place.place in
    let less : p < length xs = omega arith in
    let members = c.as_slice-members.ensures.value ∙ ap (λ i. i.members.items) c.index.ensures ∙ declared_members xs p c.index.result.now less in
    let marks = ap (λ (s : Noted). length s.marks) c.loop-place.invariant.empty ∙ length-replicate {A = Bool} (length xs) false in
    let size : c.len.result ≡ length (rows vs) = omega (arith, length_rows vs) in
    let places = c.in_ok-places.ensures ∙ ap (λ k. places_of k level) size in
    let count = length (rows vs) in
    let row : c.in_ok-row.field-0.items ≡ row_of (rows vs) (places_of count level) (length level) p (members_at level p) =
    c.in_ok-row.ensures.row
    ∙ ap (λ l. row_of (rows vs) l (length c.loop-place.noted.marks.items) p c.as_slice-members.result.now) places
    ∙ ap (λ k. row_of (rows vs) (places_of count level) k p c.as_slice-members.result.now) (marks ∙ sym (length-map xs interval_in))
    ∙ ap (row_of (rows vs) (places_of count level) (length level) p) members in
    let pushed = ap rows c.in_ok-push.ensures.items ∙ map_push (λ (v : Vec ℕ). v.items) c.loop-place.graph.items c.in_ok-row.field-0 in
    record {
      empty = c.in_ok-row.ensures.empty ∙ c.loop-place.invariant.empty;
      size = omega (arith, ap length c.in_ok-push.ensures.items, length_push c.loop-place.graph.items c.in_ok-row.field-0, c.loop-place.invariant.size);
      rows_are = λ a here. ap (λ g. get_or g a []) pushed
          ∙ rows_push (λ b. row_of (rows vs) (places_of count level) (length level) b (members_at level b)) (rows c.loop-place.graph.items) c.in_ok-row.field-0.items p
          (length_rows c.loop-place.graph.items ∙ c.loop-place.invariant.size) c.loop-place.invariant.rows_are row a here;
    }

pub returns : goal.returns
returns c =
    let vs = c.args.next.now.items in
    let xs = c.args.intervals.now.items in
    let size = length-map xs interval_in in
    let all : c.loop-place.place ≡ length xs = omega arith in
    collapsed_is (rows vs) c.requires.intervals.0 c.requires.within (omega (arith, c.requires.intervals.1, length_rows vs)) (intervals_in xs) c.requires.intervals.2 (rows c.loop-place.graph.items)
    (omega (arith, length_rows c.loop-place.graph.items, c.loop-place.invariant.size, all, size))
    (λ a less. c.loop-place.invariant.rows_are a (omega (arith, less, all, size)))
