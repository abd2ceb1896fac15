-- Blocks that are put at their places in a graph.
use Rattle.std.proofs.Common.{◌≡◌, inl, inr, ℕ, zero, suc, List, [], ◌∷◌, length, map, Option, Some, None, refl, sym, ap, ◌∙◌, subst, slice_get, slice_set}
use Rattle.std.specs.Prelude.{replicate}
use Rattle.std.proofs.lemmas.List.{length-map}
use Rattle.dcc_ir.specs.declared.syntax.Block.{Block as BlockOf}
use Rattle.dcc_ir.specs.Tree.{Block, Graph}
use Rattle.dcc_ir.specs.Use.{block_exprs, graph_exprs}
use Rattle.dcc_ir.specs.Views.{block_of}
use Rattle.dcc_substitution.specs.Substituted.{IsSubstitutedBlock, IsSubstituted}
use Rattle.dcc_available.specs.Along.{chained}
use Rattle.dcc_available.specs.Within.{StayShallow}
use Rattle.dcc_available.specs.Rows.{AreRewrittenRows, ArePut}
use Rattle.dcc_available.proofs.RewrittenLaws.{block-substituted, block-stays, block-shallow, stays-shallow, blocks-shallow}

-- Lists with an element set.

pub set-cases : {X : Type 0} (xs : List X) (i : ℕ) (v : X) (j : ℕ) (x : X) (P : Type 0) → slice_get (slice_set xs i v) j ≡ Some x → ((i ≡ j) → (v ≡ x) → P) → (slice_get xs j ≡ Some x → P) → P
set-cases [] i v j x P is here there = there is
set-cases (y ∷ ys) zero v zero x P is here there = here refl (cc)
set-cases (y ∷ ys) zero v (suc j) x P is here there = there is
set-cases (y ∷ ys) (suc i) v zero x P is here there = there is
set-cases (y ∷ ys) (suc i) v (suc j) x P is here there = set-cases ys i v j x P is (λ e. here (ap suc e)) there

pub none-get : {X : Type 0} (n place : ℕ) (x : X) → slice_get (replicate n None) place ≡ Some (Some x) → ⊥
none-get zero place x is = absurd (cc)
none-get (suc n) zero x is = absurd (cc)
none-get (suc n) (suc place) x is = none-get n place x is

mapped-get : (blocks : List BlockOf) (place : ℕ) (b : Block) → slice_get (map block_of blocks) place ≡ Some b → (x : BlockOf) × (slice_get blocks place ≡ Some x) × (block_of x ≡ b)
mapped-get [] place b is = absurd (cc)
mapped-get (x ∷ xs) zero b is = (x, refl, cc)
mapped-get (x ∷ xs) (suc place) b is = mapped-get xs place b is

pub get-mapped : (blocks : List BlockOf) (place : ℕ) (x : BlockOf) → slice_get blocks place ≡ Some x → slice_get (map block_of blocks) place ≡ Some (block_of x)
get-mapped [] place x is = absurd (cc)
get-mapped (y ∷ ys) zero x is = let same : y ≡ x = cc in ap (λ z. Some (block_of z)) same
get-mapped (y ∷ ys) (suc place) x is = get-mapped ys place x is

some-block : (b c : Block) → Some b ≡ Some c → b ≡ c
some-block b c is = cc

module _ (before : Graph) (blocks : List BlockOf) (rows : List (Option BlockOf)) (news : List BlockOf) (is : before.blocks ≡ map block_of blocks) (rewritten : AreRewrittenRows before rows) (put : ArePut blocks rows news) where
  abbrev After : Graph
  After = record before { blocks = map block_of news }

  -- the block at a place was rewritten, or is the given one
  at-place : (place : ℕ) (block new : Block) → slice_get before.blocks place ≡ Some block → slice_get (map block_of news) place ≡ Some new
      → (IsSubstitutedBlock (chained before) place block new) × StayShallow (block_exprs block) (block_exprs new)
  at-place place block new found there = go (mapped-get news place new there)
    where
      go : (x : BlockOf) × (slice_get news place ≡ Some x) × (block_of x ≡ new) → (IsSubstitutedBlock (chained before) place block new) × StayShallow (block_exprs block) (block_exprs new)
      go got = elim (put.each place got.0 got.1) [
        | inl row ↦
            let h = rewritten place got.0 row in
            let same : h.block ≡ block = some-block h.block block (sym h.placed ∙ found) in
            subst (λ (b : Block). (IsSubstitutedBlock (chained before) place block b) × StayShallow (block_exprs block) (block_exprs b)) got.2
            (subst (λ (b : Block). (IsSubstitutedBlock (chained before) place b (block_of got.0)) × StayShallow (block_exprs b) (block_exprs (block_of got.0))) same
            (block-substituted before place h.block h.placed h.lead h.leads (block_of got.0) h.rewritten, block-shallow h.lead h.block (block_of got.0) h.rewritten))
        | inr old ↦
            let given : slice_get before.blocks place ≡ Some (block_of got.0) = ap (λ bs. slice_get bs place) is ∙ get-mapped blocks place got.0 old in
            let same : block ≡ new = some-block block (block_of got.0) (sym found ∙ given) ∙ got.2 in
            subst (λ (b : Block). (IsSubstitutedBlock (chained before) place block b) × StayShallow (block_exprs block) (block_exprs b)) same (block-stays before place block, stays-shallow (block_exprs block))
      ]

  count-same : length (map block_of news) ≡ length before.blocks
  count-same = length-map news block_of ∙ put.count ∙ sym (length-map blocks block_of) ∙ sym (ap length is)

  pub put-substituted : IsSubstituted (chained before) before After
  put-substituted = record {
    frame = refl;
    count = count-same;
    blocks = λ place block new found there. (at-place place block new found there).0;
  }

  pub put-shallow : StayShallow (graph_exprs before) (graph_exprs After)
  put-shallow = blocks-shallow before.blocks (map block_of news) count-same (λ place block new found there. (at-place place block new found there).1)
