use Rattle.std.proofs.Common.{◌≡◌, ◌<◌, ℕ, Bool, false, length, All, ap, sym, ◌∙◌, subst, arith}
use Rattle.std.proofs.lemmas.List.{length-replicate}
use Rattle.dcc_flow.specs.Edges.{rows}
use Rattle.dcc_flow.proofs.RowLaws.{length_rows}
use Rattle.dcc_interval.specs.Noted.{Noted, noted_of, with_noted}
use Rattle.dcc_interval.specs.Intervals.{intervals_in}
use Rattle.dcc_interval.specs.Reaching.{AreSources}
use Rattle.dcc_interval.specs.Growing.{AreChecked, AreParted}
use Rattle.dcc_interval.specs.Collapsing.{nothing_noted}
use Rattle.dcc_interval.proofs.ReachLaws.{turned_are, only}
use Rattle.dcc_interval.proofs.PartedLaws.{turned_within, parted_first}
use Rattle.dcc_interval.proofs.PartingLaws.{none_checked, reached_below, at_entry, parted_there, parted_back, few_found, all_found}
use Rattle.dcc_interval.proofs.growth.intervals.Goals as goal

pub sources-requires : goal.sources-requires
sources-requires c =
    let vs = c.args.next.now.items in
    record {
      within = c.requires.within;
      reached = subst (λ l. All (λ n. n < length vs) l) (sym c.as_slice.ensures.value)
          (reached_below (rows vs) c.args.entry (noted_of c.in_ok-found.found) (length vs) c.requires.within (omega (arith, c.requires.entry, length_rows vs)) c.in_ok-found.ensures (length_rows vs));
    }

pub note-requires : goal.note-requires
note-requires c =
    let size = ap (λ (s : Noted). length s.marks) c.in_ok-heads.ensures ∙ length-replicate {A = Bool} c.len.result false in
    omega (arith, size, c.requires.entry)

pub loop-alloc-init : goal.loop-alloc-init
loop-alloc-init c =
    let vs = c.args.next.now.items in
    let next = rows vs in
    let sources = rows c.in_ok-sources.sources.items in
    let inside : c.args.entry < length next = omega (arith, c.requires.entry, length_rows vs) in
    let listed = subst (λ l. AreSources next l sources) c.as_slice.ensures.value c.in_ok-sources.ensures in
    let graph = turned_are next c.args.entry (noted_of c.in_ok-found.found) sources c.requires.within inside c.in_ok-found.ensures listed in
    let size : c.len.result ≡ length next = omega (arith, length_rows vs) in
    let heads = c.in_ok-note.ensures ∙ ap (λ s. with_noted s c.args.entry) (c.in_ok-heads.ensures ∙ ap nothing_noted size) in
    let checked = c.in_ok-vec.ensures.items_if_clones_equal (λ y same. same) in
    record {
      ready = record {
        free = c.in_ok-found.ensures.count ∙ sym graph.count;
        marks = ap (λ (s : Noted). length s.marks) heads ∙ (only (length next) c.args.entry inside).size ∙ sym graph.count;
        checked = omega (arith, ap length checked, length-replicate {A = ℕ} c.len-2.result 0, length_rows vs, graph.count);
        right = subst (AreChecked sources c.in_ok-found.found.marks.items) (sym checked) (none_checked sources c.in_ok-found.found.marks.items c.len-2.result);
      };
      parted = subst (λ l. AreParted next c.args.entry (intervals_in l) c.in_ok-found.found.marks.items (noted_of c.note.new.self)) (sym c.new-2.ensures.items)
          (parted_first next c.args.entry sources graph (noted_of c.in_ok-found.found) c.in_ok-found.ensures (noted_of c.note.new.self) heads);
    }

pub find_next-requires : goal.find_next-requires
find_next-requires c =
    let vs = c.args.next.now.items in
    let next = rows vs in
    let sources = rows c.in_ok-sources.sources.items in
    let inside : c.args.entry < length next = omega (arith, c.requires.entry, length_rows vs) in
    let listed = subst (λ l. AreSources next l sources) c.as_slice.ensures.value c.in_ok-sources.ensures in
    let graph = turned_are next c.args.entry (noted_of c.in_ok-found.found) sources c.requires.within inside c.in_ok-found.ensures listed in
    record {
      turned = at_entry next sources c.args.entry graph c.loop-alloc.parting c.loop-alloc.invariant.parted;
      within = turned_within next c.args.entry sources graph;
      ready = c.loop-alloc.invariant.ready;
      parted = parted_there next sources c.args.entry graph c.loop-alloc.parting c.loop-alloc.invariant.parted;
      left = omega arith;
    }

pub loop-alloc-preserved : goal.loop-alloc-preserved
loop-alloc-preserved c =
    let vs = c.args.next.now.items in
    let next = rows vs in
    let sources = rows c.in_ok-sources.sources.items in
    let inside : c.args.entry < length next = omega (arith, c.requires.entry, length_rows vs) in
    let listed = subst (λ l. AreSources next l sources) c.as_slice.ensures.value c.in_ok-sources.ensures in
    let graph = turned_are next c.args.entry (noted_of c.in_ok-found.found) sources c.requires.within inside c.in_ok-found.ensures listed in
    record {
      ready = c.in_ok-find_next.ensures.ready;
      parted = parted_back next sources c.args.entry graph c.loop-alloc.parting c.loop-alloc.invariant.parted c.find_next.new.self c.in_ok-find_next.ensures.parted;
    }

pub loop-alloc-smaller : goal.loop-alloc-smaller
loop-alloc-smaller c =
    let vs = c.args.next.now.items in
    let next = rows vs in
    let sources = rows c.in_ok-sources.sources.items in
    let inside : c.args.entry < length next = omega (arith, c.requires.entry, length_rows vs) in
    let listed = subst (λ l. AreSources next l sources) c.as_slice.ensures.value c.in_ok-sources.ensures in
    let graph = turned_are next c.args.entry (noted_of c.in_ok-found.found) sources c.requires.within inside c.in_ok-found.ensures listed in
    let few = few_found next sources c.args.entry graph c.loop-alloc.parting c.loop-alloc.invariant.parted in
    omega (arith, few, length_rows vs, c.in_ok-find_next.ensures.one_more)

pub returns : goal.returns
returns c =
    let vs = c.args.next.now.items in
    let next = rows vs in
    let sources = rows c.in_ok-sources.sources.items in
    let inside : c.args.entry < length next = omega (arith, c.requires.entry, length_rows vs) in
    let listed = subst (λ l. AreSources next l sources) c.as_slice.ensures.value c.in_ok-sources.ensures in
    let graph = turned_are next c.args.entry (noted_of c.in_ok-found.found) sources c.requires.within inside c.in_ok-found.ensures listed in
    all_found next sources c.args.entry graph c.loop-alloc.parting c.loop-alloc.invariant.parted (omega arith)
