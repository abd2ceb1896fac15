use Rattle.std.proofs.Common.{◌≡◌, ℕ, ◌<◌, [], ◌++◌, List, length, get_or, slice_set, All, ap, sym, ◌∙◌, subst, arith}
use Rattle.std.specs.Global.{Vec}
use Rattle.std.proofs.lemmas.List.{length-set, map-set}
use Rattle.dcc_flow.specs.Edges.{rows}
use Rattle.dcc_flow.proofs.RowLaws.{row_read, length_rows}
use Rattle.dcc_interval.specs.Collapsing.{all_placed}
use Rattle.dcc_interval.specs.Reducing.{regions_of}
use Rattle.dcc_interval.proofs.NumberLaws.{made, members_below}
use Rattle.dcc_interval.proofs.regions.Regions.renumber.Goals as goal

pub number_all-requires : goal.number_all-requires
number_all-requires c =
    let vs = c.args.self.now.members.items in
    let count = length c.args.self.now.numbers.items in
    let here : c.args.from < length vs = omega (arith, c.requires.from, c.requires.whole.members, length_rows vs) in
    let moved = c.as_slice.ensures.value ∙ ap (λ v. v.items) c.replace-moved.ensures.value ∙ row_read vs c.args.from c.index_mut.result.now here c.index_mut.ensures.value in
    subst (λ l. All (λ n. n < count) l) (sym moved) (members_below count (regions_of c.args.self.now) c.requires.whole c.args.from c.requires.from)

pub returns : goal.returns
returns c =
    let vs = c.args.self.now.members.items in
    let numbers = c.args.self.now.numbers.items in
    let heads = c.args.self.now.heads.items in
    let from = c.args.from in
    let to = c.args.to in
    let size : length vs ≡ length numbers = omega (arith, c.requires.whole.members, length_rows vs) in
    let here : from < length vs = omega (arith, c.requires.from, size) in
    let moved = ap (λ v. v.items) c.replace-moved.ensures.value ∙ row_read vs from c.index_mut.result.now here c.index_mut.ensures.value in
    let dest = c.replace-moved.new.dest in
    let none : dest.items ≡ [] = ap (λ v. v.items) c.replace-moved.ensures.after ∙ c.new.ensures.items in
    let left = slice_set vs from dest in
    let rest = slice_set (rows vs) from [] in
    let left_are : rows left ≡ rest = map-set (λ (w : Vec ℕ). w.items) vs from dest ∙ ap (slice_set (rows vs) from) none in
    let there : to < length left = omega (arith, c.requires.to, size, length-set vs from dest) in
    let grown = c.extend_from_slice.new.self in
    let grown_is : grown.items ≡ get_or rest to [] ++ get_or (rows vs) from [] =
    c.in_ok-extend_from_slice.ensures.items
    ∙ ap (λ l. l ++ c.as_slice-2.result.now) (row_read left to c.index_mut-2.result.now there c.index_mut-2.ensures.value ∙ ap (λ (l : List (List ℕ)). get_or l to []) left_are)
    ∙ ap (λ l. get_or rest to [] ++ l) (c.as_slice-2.ensures.value ∙ moved) in
    let numbers_are = c.number_all.ensures ∙ ap (λ l. all_placed numbers l to) (c.as_slice.ensures.value ∙ moved) in
    let members_are : rows (slice_set left to grown) ≡ slice_set rest to (get_or rest to [] ++ get_or (rows vs) from []) =
    map-set (λ (w : Vec ℕ). w.items) left to grown ∙ ap (λ (l : List (List ℕ)). slice_set l to grown.items) left_are ∙ ap (slice_set rest to) grown_is in
    ap (λ (n : List ℕ). made n heads (rows (slice_set left to grown))) numbers_are
    ∙ ap (λ (m : List (List ℕ)). made (all_placed numbers (get_or (rows vs) from []) to) heads m) members_are
