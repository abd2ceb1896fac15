use Rattle.std.proofs.Common.{◌≡◌, ◌<◌, [], ◌∷◌, ◌++◌, length, get_or, All, ap, refl, sym, ◌∙◌, subst, arith}
use Rattle.std.specs.Global.{Vec}
use Rattle.std.proofs.lemmas.List.{length_push, get_or_default}
use Rattle.dcc_flow.specs.Edges.{rows}
use Rattle.dcc_flow.proofs.RowLaws.{length_rows}
use Rattle.dcc_interval.specs.declared.interval.Interval.{Interval as IntervalOf}
use Rattle.dcc_interval.specs.declared.growth.Parting.{Parting}
use Rattle.dcc_interval.specs.Noted.{Noted, noted_of, with_all_noted, followers}
use Rattle.dcc_interval.specs.Growing.{growing_of}
use Rattle.dcc_interval.proofs.NotedLaws.{all_noted_count}
use Rattle.dcc_interval.proofs.PartingLaws.{found, grown_within}
use Rattle.dcc_interval.proofs.growth.Parting.find_next.Goals as goal

pub note_followers-requires-clause-nodes : goal.note_followers-requires-clause-nodes
note_followers-requires-clause-nodes c =
    let vs = c.args.next.now.items in
    let p = c.args.self.now in
    let heads = p.heads.list.items in
    let header = c.index-header.result.now in
    let left : c.len.result < length heads = omega (arith, c.requires.left) in
    let at : header ≡ get_or heads (length p.intervals.items) 0 = c.index-header.ensures ∙ get_or_default heads c.len.result header 0 left ∙ ap (λ k. get_or heads k 0) (omega arith) in
    subst (λ l. All (λ n. n < length vs) l) (sym c.as_slice.ensures.value)
    (grown_within (rows vs) (rows c.args.sources.now.items) p c.requires.turned c.requires.parted c.requires.left header at
    (growing_of c.grow.new.self c.in_ok-members.members.items) c.in_ok-members.ensures.grown (length vs) (length_rows vs))

pub returns : goal.returns
returns c =
    let vs = c.args.next.now.items in
    let p = c.args.self.now in
    let q = c.grow.new.self in
    let members = c.in_ok-members.members in
    let heads = p.heads.list.items in
    let header = c.index-header.result.now in
    let left : c.len.result < length heads = omega (arith, c.requires.left) in
    let at : header ≡ get_or heads (length p.intervals.items) 0 = c.index-header.ensures ∙ get_or_default heads c.len.result header 0 left ∙ ap (λ k. get_or heads k 0) (omega arith) in
    let interval : IntervalOf = record { header = header; members = members } in
    let noted = c.in_ok-note_followers.ensures ∙ ap (λ l. with_all_noted (noted_of q.heads) (followers (rows vs) l)) c.as_slice.ensures.value in
    let now = c.in_ok-push.ensures.items ∙ ap (λ (v : Vec IntervalOf). v.items ++ interval ∷ []) c.in_ok-members.ensures.intervals in
    let r : Parting = record { intervals = c.push.new.self; heads = c.note_followers.new.self; free = q.free; checked = q.checked } in
    record {
      ready = record {
        free = c.in_ok-members.ensures.ready.free;
        marks = ap (λ (s : Noted). length s.marks) noted ∙ all_noted_count (noted_of q.heads) (followers (rows vs) members.items) ∙ c.in_ok-members.ensures.ready.marks;
        checked = c.in_ok-members.ensures.ready.checked;
        right = c.in_ok-members.ensures.ready.right;
      };
      parted = found (rows vs) (rows c.args.sources.now.items) p c.requires.turned c.requires.parted c.requires.left header at
          q members c.in_ok-members.ensures.grown c.in_ok-members.ensures.whole c.in_ok-members.ensures.list r now refl noted;
      one_more = ap length now ∙ length_push p.intervals.items interval;
    }
