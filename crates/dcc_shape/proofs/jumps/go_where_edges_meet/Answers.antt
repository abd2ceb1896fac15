use Rattle.std.proofs.Common.{◌≡◌, ℕ, ◌+◌, ◌<◌, Bool, List, get_or, sym, ap, subst, ◌∙◌}
use Rattle.std.specs.Prelude.{◌==◌, ◌&&◌, nat_le, if◌then◌else◌}
use Rattle.std.specs.List.{count_by}
use Rattle.std.specs.BTreeSet.{contains}
use Rattle.std.specs.Ordering.{nat_cmp}
use Rattle.dcc_flow.specs.Edges.{is_in}
use Rattle.dcc_shape.specs.Known.{AreNamed}
use Rattle.dcc_shape.specs.Asked.{edges_at, is_of_meeting, goes_where_edges_meet}
use Rattle.dcc_shape.proofs.KnownLaws.{named-of, named-offset}
use Rattle.dcc_shape.proofs.SeenLaws.{go-to-offsets}
use Rattle.dcc_shape.proofs.jumps.go_where_edges_meet.Goals as goal

pub returns : goal.returns
returns c =
    let a = c.args.asked.now in
    let list = c.args.list.now in
    let test : ℕ → Bool = λ at. nat_le 2 (edges_at a at) in
    let fit : (n : ℕ) → get_or a.ats.items n 0 < 65536 = subst (λ (l : List ℕ). (n : ℕ) → get_or l n 0 < 65536) c.as_slice-2.ensures.value c.in_ok-known.ensures.fit in
    let twice : (n : ℕ) → contains nat_cmp c.add.new.tally.twice n ≡ test n = λ n.
    (c.in_ok-add.ensures _ c.in_ok-edges.ensures).twice n
    ∙ ap (λ l. nat_le 2 (count_by (λ m. m == n) l + (if a.entry == n then 1 else 0))) c.as_slice.ensures.value in
    let known : (n : ℕ) → contains nat_cmp c.in_ok-known.known n ≡ (is_in a.ats.items n && test n) = λ n.
    c.in_ok-known.ensures.are n
    ∙ ap (λ l. is_in l n && contains nat_cmp c.add.new.tally.twice n) c.as_slice-2.ensures.value
    ∙ ap (λ b. is_in a.ats.items n && b) (twice n) in
    let named : AreNamed c.in_ok-known.known (is_of_meeting a) = named-of test c.in_ok-known.known a.ats.items fit known in
    let are : c.all_go_to_named.result ≡ goes_where_edges_meet a list = c.all_go_to_named.ensures (is_of_meeting a) named in
    record { are = are; named = λ yes. go-to-offsets (is_of_meeting a) list (named-offset test a.ats.items fit) (sym are ∙ yes) }
