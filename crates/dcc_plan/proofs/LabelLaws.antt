-- Labels of two blocks differ where their addresses do.
use Rattle.std.proofs.Common.{◌≡◌, ℕ, zero, suc, ◌<◌, inl, inr, true, ◌==◌, List, [], ◌∷◌, length, map, Some, None, refl, sym, ap, ap₂, ◌∙◌, true≢false}
use Rattle.std.specs.Prelude.{not, codes, slice_get}
use Rattle.std.specs.List.{list_any}
use Rattle.std.proofs.lemmas.Bool.{and_parts, or_left, or_right, not-true, cases_Bool, eqb-true, eq-eqb}
use Rattle.std.proofs.lemmas.List.Elements.{All-contains}
use Rattle.dcc_ir.specs.Tree as inner
use Rattle.dcc_ir.specs.Live.{block_in}
use Rattle.dcc_ir.specs.WellFormed.{all_differ, IsGraph}
use Rattle.dcc_ir.proofs.ReachedLaws.{contained}
use Rattle.dcc_c.specs.Token.{same_bytes}
use Rattle.dcc_c.proofs.NameLaws.{same_bytes-refl}
use Rattle.dcc_text.proofs.HexLaws.{name_at-differ}
use Rattle.dcc_control.proofs.ListLaws.{block-at}
use Rattle.dcc_plan.specs.Labels.{label_name, label_at}

-- Blocks of a graph.

some-equal : {A : Type 0} {a b : A} → Some a ≡ Some b → a ≡ b
some-equal e = cc

-- the address of a block at a place is among those of the blocks
address-among : (at place : ℕ) (block : inner.Block) (blocks : List inner.Block) → slice_get blocks place ≡ Some block → at ≡ block.at → list_any (λ m. at == m) (map (λ b. b.at) blocks) ≡ true
address-among at place block [] is same = absurd cc
address-among at zero block (b ∷ blocks) is same =
    let e : at ≡ b.at = same ∙ ap (λ x. x.at) (sym (some-equal is)) in
    or_left (at == b.at) (list_any (λ m. at == m) (map (λ b. b.at) blocks)) (eq-eqb at b.at e)
address-among at (suc place) block (b ∷ blocks) is same =
    or_right (at == b.at) (list_any (λ m. at == m) (map (λ b. b.at) blocks)) (address-among at place block blocks is same)

-- blocks at one address stand at one place
one-place : (blocks : List inner.Block) (a b : ℕ) (first second : inner.Block) → all_differ (map (λ b. b.at) blocks) ≡ true → slice_get blocks a ≡ Some first → slice_get blocks b ≡ Some second
    → first.at ≡ second.at → a ≡ b
one-place [] a b first second differ is also same = absurd cc
one-place (x ∷ blocks) zero zero first second differ is also same = refl
one-place (x ∷ blocks) zero (suc b) first second differ is also same =
    let (front, others) = and_parts (not (list_any (λ m. x.at == m) (map (λ b. b.at) blocks))) (all_differ (map (λ b. b.at) blocks)) differ in
    absurd (true≢false (sym (address-among x.at b second blocks also (ap (λ y. y.at) (some-equal is) ∙ same)) ∙ not-true (list_any (λ m. x.at == m) (map (λ b. b.at) blocks)) front))
one-place (x ∷ blocks) (suc a) zero first second differ is also same =
    let (front, others) = and_parts (not (list_any (λ m. x.at == m) (map (λ b. b.at) blocks))) (all_differ (map (λ b. b.at) blocks)) differ in
    absurd (true≢false (sym (address-among x.at a first blocks is (ap (λ y. y.at) (some-equal also) ∙ sym same)) ∙ not-true (list_any (λ m. x.at == m) (map (λ b. b.at) blocks)) front))
one-place (x ∷ blocks) (suc a) (suc b) first second differ is also same =
    let (front, others) = and_parts (not (list_any (λ m. x.at == m) (map (λ b. b.at) blocks))) (all_differ (map (λ b. b.at) blocks)) differ in
    ap suc (one-place blocks a b first second others is also same)

module _ (graph : inner.Graph) (well : IsGraph graph) where
  pub label-is : (b : ℕ) → b < length graph.blocks → label_at graph.blocks b ≡ label_name (block_in graph b).at
  label-is b less = ap (λ o. elim o [ Some block ↦ label_name block.at | None ↦ codes "L" ]) (block-at graph b less)

  address-below : (b : ℕ) → b < length graph.blocks → (block_in graph b).at < 65536
  address-below b less = All-contains (λ x. x.at < 65536) graph.blocks (block_in graph b) well.offsets (contained graph.blocks b (block_in graph b) (block-at graph b less))

  -- two labels are the same where they are those of one block
  pub label-tested : (a b : ℕ) → a < length graph.blocks → b < length graph.blocks → same_bytes (label_at graph.blocks b) (label_at graph.blocks a) ≡ (a == b)
  label-tested a b first second = elim (cases_Bool (a == b)) [
    | inl same ↦ ap (λ k. same_bytes (label_at graph.blocks b) (label_at graph.blocks k)) (eqb-true a b same) ∙ same_bytes-refl (label_at graph.blocks b) ∙ sym same
    | inr apart ↦
        let differ : (block_in graph b).at ≡ (block_in graph a).at → ⊥ =
        λ e. true≢false (sym (eq-eqb a b (sym (one-place graph.blocks b a (block_in graph b) (block_in graph a) well.addresses (block-at graph b second) (block-at graph a first) e))) ∙ apart) in
        ap₂ same_bytes (label-is b second) (label-is a first)
        ∙ name_at-differ (codes "L_") (block_in graph b).at (block_in graph a).at (address-below b second) (address-below a first) differ
        ∙ sym apart
  ]
