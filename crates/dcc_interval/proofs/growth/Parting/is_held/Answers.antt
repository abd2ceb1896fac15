use Rattle.std.proofs.Common.{◌≡◌, ◌<◌, true, false, [], length, get_or, All, ap, refl, sym, ◌∙◌, subst, arith}
use Rattle.std.specs.Prelude.{nat_lt}
use Rattle.std.proofs.lemmas.List.{length-set, get_or_default}
use Rattle.std.proofs.lemmas.List.Elements.{All-get_or}
use Rattle.dcc_flow.specs.Edges.{rows}
use Rattle.dcc_flow.proofs.RowLaws.{row_read, length_rows}
use Rattle.dcc_interval.proofs.JoinLaws.{held_is, all_passed, checked_on}
use Rattle.dcc_interval.proofs.growth.Parting.is_held.Goals as goal

pub first_free-checked-requires : goal.first_free-checked-requires
first_free-checked-requires c =
    let vs = c.args.sources.now.items in
    let node = c.args.node in
    let row = c.as_slice-before.ensures.value ∙ row_read vs node c.index.result.now c.requires.node c.index.ensures in
    let all = All-get_or (λ r. All (λ m. m < length (rows vs)) r) (rows vs) node [] (omega (arith, c.requires.node, length_rows vs)) c.requires.within in
    subst (λ l. All (λ m. m < length c.args.self.now.free.items) l) (sym row)
    (subst (λ k. All (λ m. m < k) (get_or (rows vs) node [])) (sym c.requires.ready.free) all)

pub returns : goal.returns
returns c =
    let vs = c.args.sources.now.items in
    let node = c.args.node in
    let p = c.args.self.now in
    let place = c.first_free-checked.result in
    let row = c.as_slice-before.ensures.value ∙ row_read vs node c.index.result.now c.requires.node c.index.ensures in
    let nodes = get_or (rows vs) node [] in
    let here : node < length p.checked.items = omega (arith, c.requires.node, length_rows vs, c.requires.ready.checked) in
    let from = c.index-2.ensures ∙ get_or_default p.checked.items node c.index-2.result.now 0 here in
    let passed = all_passed (rows vs) p.free.items p.checked.items node place c.requires.ready.right
    (λ k low high. subst (λ l. get_or p.free.items (get_or l k 0) false ≡ false) row (c.first_free-checked.ensures.passed k (omega (arith, low, from)) high)) in
    record {
      held = ap (nat_lt place) (ap length row) ∙ held_is p.free.items nodes place (omega (arith, c.first_free-checked.ensures.within, ap length row)) passed
          (λ less. subst (λ l. get_or p.free.items (get_or l place 0) false ≡ true) row (c.first_free-checked.ensures.stops (omega (arith, less, ap length row))));
      ready = record {
        free = c.requires.ready.free;
        marks = c.requires.ready.marks;
        checked = length-set p.checked.items node place ∙ c.requires.ready.checked;
        right = checked_on (rows vs) p.free.items p.checked.items node place here c.requires.ready.right passed;
      };
      same = refl;
    }
