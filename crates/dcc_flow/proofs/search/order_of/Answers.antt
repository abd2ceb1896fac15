use Rattle.std.proofs.Common.{◌≡◌, ◌<◌, ◌-◌, ℕ, Bool, false, List, [], ◌∷◌, ◌++◌, length, replicate, reverse, take, All, Some, ap, sym, ◌∙◌, subst, arith}
use Rattle.std.proofs.lemmas.List.Elements.{All-pop}
use Rattle.dcc_flow.specs.Edges.{rows}
use Rattle.dcc_flow.specs.Order.{IsSearched}
use Rattle.dcc_flow.specs.Search.{Search, search_of, visited}
use Rattle.dcc_flow.proofs.RowLaws.{length_rows}
use Rattle.dcc_flow.proofs.SearchLaws.{StandsAt, stands_first, stands_on, stands_last, left, less_left}
use Rattle.dcc_flow.proofs.search.order_of.Goals as goal

pub loop-last-init : goal.loop-last-init
loop-last-init c =
    let next = rows c.args.next.now.items in
    let made : List Bool → List (ℕ × ℕ) → List ℕ → Search = λ seen begun finished. visited (record { seen = seen; begun = begun; finished = finished }) 0 in
    let size : c.len.result ≡ length next = omega (arith, length_rows c.args.next.now.items) in
    let flags : c.in_ok-vec.field-0.items ≡ replicate (length next) false = c.in_ok-vec.ensures.items_if_clones_equal (λ y same. same) ∙ ap (λ n. replicate n false) size in
    let is : search_of c.visit.new.self ≡ made (replicate (length next) false) [] [] =
    c.in_ok-visit.ensures
    ∙ ap (λ seen. made seen c.new.result.items c.new-2.result.items) flags
    ∙ ap (λ begun. made (replicate (length next) false) begun c.new-2.result.items) c.new.ensures.items
    ∙ ap (made (replicate (length next) false) []) c.new-2.ensures.items in
    subst (StandsAt next) (sym is) (stands_first next (omega (arith, c.requires.some, length_rows c.args.next.now.items)))

-- the block that was begun last is one of the graph
last_inside : (next : List (List ℕ)) (begun rest : List (ℕ × ℕ)) (last : ℕ × ℕ) → begun ≡ rest ++ last ∷ []
    → All (λ f. f.0 < length next) begun → last.0 < length next
last_inside next begun rest last is all = (All-pop (λ (f : ℕ × ℕ). f.0 < length next) begun rest (Some last) is all).1

pub go_on-requires-clause-block : goal.go_on-requires-clause-block
go_on-requires-clause-block c =
    let next = rows c.args.next.now.items in
    let inside = last_inside next _ _ _ c.in-Some.ensures.items c.loop-last.invariant.inside in
    omega (arith, inside, length_rows c.args.next.now.items)

pub loop-last-smaller : goal.loop-last-smaller
loop-last-smaller c =
    let next = rows c.args.next.now.items in
    let within = c.requires.next in
    let inside = last_inside next _ _ _ c.in-Some.ensures.items c.loop-last.invariant.inside in
    let popped : Search = record { seen = c.loop-last.search.seen.items; begun = c.pop.new.self.items; finished = c.loop-last.search.finished.items } in
    let less = less_left next popped c.in-Some.last.0 c.in-Some.last.1 within c.loop-last.invariant.count inside in
    let now : left next (search_of c.go_on.new.self) < left next (record popped { begun = popped.begun ++ c.in-Some.last ∷ [] }) =
    subst (λ s. left next s < left next (record popped { begun = popped.begun ++ c.in-Some.last ∷ [] })) (sym c.in_ok-go_on.ensures) less in
    subst (λ l. left next (search_of c.go_on.new.self) < left next (record popped { begun = l })) (sym c.in-Some.ensures.items) now

pub loop-last-preserved : goal.loop-last-preserved
loop-last-preserved c =
    let next = rows c.args.next.now.items in
    let within = c.requires.next in
    let inside = last_inside next _ _ _ c.in-Some.ensures.items c.loop-last.invariant.inside in
    let popped : Search = record { seen = c.loop-last.search.seen.items; begun = c.pop.new.self.items; finished = c.loop-last.search.finished.items } in
    let before : StandsAt next (record popped { begun = popped.begun ++ c.in-Some.last ∷ [] }) =
    subst (λ l. StandsAt next (record popped { begun = l })) c.in-Some.ensures.items c.loop-last.invariant in
    subst (StandsAt next) (sym c.in_ok-go_on.ensures) (stands_on next popped c.in-Some.last.0 c.in-Some.last.1 within inside before)

pub returns : goal.returns
returns c =
    let next = rows c.args.next.now.items in
    let last : c.pop.new.self.items ≡ [] = c.in_default.ensures.rest ∙ ap (λ n. take (n - 1) c.loop-last.search.begun.items) c.in_default.ensures.cases.0 in
    let none : c.loop-last.search.begun.items ≡ [] = c.in_default.ensures.items ∙ ap (λ l. l ++ []) last in
    let found : IsSearched next [] (0 ∷ []) (reverse c.loop-last.search.finished.items) = stands_last next (search_of c.loop-last.search) none c.loop-last.invariant in
    subst (IsSearched next [] (0 ∷ [])) (sym c.reverse.ensures.items) found
