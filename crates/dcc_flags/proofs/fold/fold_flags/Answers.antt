use Rattle.std.proofs.Common.{◌≡◌, ℕ, ◌<◌, false, List, length, get_or, ap, sym, ◌∙◌, subst, true≢false, inl, inr, arith}
use Rattle.std.specs.Prelude.{All, MatchBool}
use Rattle.std.proofs.lemmas.List.{length-map}
use Rattle.std.proofs.lemmas.List.Elements.{All-from_get_or}
use Rattle.dcc_num.specs.declared.FlagName.{FlagName}
use Rattle.dcc_ir.specs.Tree.{Graph}
use Rattle.dcc_ir.specs.WellFormed.{IsGraph}
use Rattle.dcc_ir.specs.Views.{block_of, graph_of}
use Rattle.dcc_ir.specs.Use.{graph_exprs}
use Rattle.dcc_ir.specs.Measure.{deepest}
use Rattle.dcc_ir.proofs.PathLaws.{decided}
use Rattle.dcc_flow.specs.Order.{IsReversePostOrder}
use Rattle.dcc_flow.proofs.SourceLaws.{in_at}
use Rattle.dcc_flags.specs.declared.kept.Kept.{Kept}
use Rattle.dcc_flags.specs.Reaching.{IsKept}
use Rattle.dcc_flags.specs.Folded.{IsFolded}
use Rattle.dcc_flags.specs.Folding.{is_kept, Folding, choices_of, folding_of, first_choices, first_folding, fold_blocks, folded_graph}
use Rattle.dcc_flags.proofs.WholeLaws.{form_stays, graph_formed, may_replace, listed_below}
use Rattle.dcc_flags.proofs.FlagLaws.{not_mentioned}
use Rattle.dcc_flags.proofs.KindLaws.{kinds_stay}
use Rattle.dcc_flags.proofs.TruthLaws.{truths_stay}
use Rattle.dcc_flags.proofs.ShallowLaws.{stays_shallow}
use Rattle.dcc_flags.proofs.fold.fold_flags.Goals as goal

abbrev AreKept : Kept → Graph → Type 0
AreKept kept graph = (f : FlagName) → MatchBool (is_kept kept f) (IsKept graph f) (¬ IsKept graph f)

folded : (graph : Graph) → IsGraph graph → (order : List ℕ) → IsReversePostOrder graph order → (kept : Kept) → AreKept kept graph → IsFolded graph (folded_graph kept graph order)
folded graph is order searched kept are = record {
  formed = graph_formed graph is order searched kept exact;
  form = form_stays graph is order searched kept exact;
  keeps = may_replace graph is order searched kept exact;
  kinds = kinds_stay kept graph order;
  flags = λ f mentioned. elim (decided (is_kept kept f)) [
    | inl stays ↦ subst (λ b. MatchBool b (IsKept graph f) (¬ IsKept graph f)) stays (are f)
    | inr goes ↦ absurd (true≢false (sym mentioned ∙ not_mentioned graph is kept exact f goes order))
  ];
  truths = truths_stay kept graph order;
  depth = λ nest. stays_shallow graph is kept exact (deepest (graph_exprs graph)) nest (omega arith) order searched;
}
  where
    exact : (f : FlagName) → is_kept kept f ≡ false → IsKept graph f → ⊥
    exact f goes = subst (λ b. MatchBool b (IsKept graph f) (¬ IsKept graph f)) goes (are f)

order_below : (graph : Graph) → IsGraph graph → (order : List ℕ) → IsReversePostOrder graph order → (kept : Kept) → All (λ place. place < length graph.blocks) order
order_below graph is order searched kept =
    All-from_get_or (λ place. place < length graph.blocks) order 0 (λ k less. listed_below graph is order searched (first_choices kept 0) kept (get_or order k 0) (in_at order k less))

pub fold_blocks-requires-clause-order : goal.fold_blocks-requires-clause-order
fold_blocks-requires-clause-order c =
    let g = c.args.g in
    subst (λ n. All (λ place. place < n) c.as_slice-3.result.now) (length-map g.blocks.items block_of)
    (subst (All (λ place. place < length (graph_of g).blocks)) (sym c.as_slice-3.ensures.value)
    (order_below (graph_of g) c.requires c.in_ok-order.order.items c.in_ok-order.ensures c.in_ok-kept.kept))

pub returns : goal.returns
returns c =
    let g = c.args.g in
    let graph = graph_of g in
    let kept = c.in_ok-kept.kept in
    let order = c.in_ok-order.order.items in
    let count = length g.bits.items in
    let none = first_choices kept count in
    let bare = c.in_ok-bare.bare in
    let fill : c.in_ok-fill.fill ≡ count = c.in_ok-fill.ensures ∙ ap length c.as_slice-2.ensures.value in
    let first : choices_of c.first.result ≡ none = c.first.ensures ∙ ap (first_choices kept) fill in
    let begun : folding_of bare ≡ first_folding kept none graph = c.in_ok-bare.ensures.folding ∙ ap (λ x. first_folding kept x graph) first in
    let done : folding_of c.in_ok-folding.folding ≡ fold_blocks kept graph none (first_folding kept none graph) order =
    c.in_ok-folding.ensures
    ∙ ap (λ k. fold_blocks k graph (first_choices k count) (folding_of bare) c.as_slice-3.result.now) c.in_ok-bare.ensures.kept
    ∙ ap (λ l. fold_blocks kept graph none (folding_of bare) l) c.as_slice-3.ensures.value
    ∙ ap (λ s. fold_blocks kept graph none s order) begun in
    subst (λ (s : Folding). IsFolded graph (record graph { blocks = s.blocks; bits = s.bits })) (sym done)
    (folded graph c.requires order c.in_ok-order.ensures kept c.in_ok-kept.ensures)
