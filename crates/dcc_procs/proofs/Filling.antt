-- Too many nodes of one procedure.
use Rattle.std.proofs.Common.{◌≡◌, ◌≢◌, ℕ, ◌+◌, List, [], ◌∷◌, ◌++◌, length, get_or, Option, Some, None, refl, sym, ap, ◌∙◌, subst, length-append}
use Rattle.std.proofs.lemmas.List.Elements.{All-push, Contains-get_or}
use Rattle.std.proofs.lemmas.List.Quantifiers.{all_pairs_push}
use Rattle.dcc_machine.specs.declared.image.Image.{Image}
use Rattle.dcc_prog.specs.declared.procedure.Layout.{Layout}
use Rattle.dcc_prog.specs.declared.refusal.LimitName.TheVariants.{Instructions}
use Rattle.dcc_prog.specs.declared.refusal.Refusal.{Refusal}
use Rattle.dcc_prog.specs.declared.refusal.Refusal.TheVariants.{Limit, Memory}
use Rattle.dcc_prog.specs.Trail.{IsNode, IsEntry}
use Rattle.dcc_prog.specs.Limit.{HasMany, instructions}
use Rattle.dcc_prog.specs.Refused.{IsRefusedByTrails}
use Rattle.dcc_prog.specs.Refused as refused
use Rattle.dcc_procs.specs.declared.known.Known.{Known}
use Rattle.dcc_procs.specs.Search.{IsWitnessed, Work, seen_at, IsFull, IsSound}
use Rattle.dcc_procs.proofs.Witnessing.{trail-node}

-- where something is seen, there is a node
pub node-seen :
    (image : Image) (layout : Layout) (entry : ℕ) (seen : List (Option Known))
    → ((at : ℕ) (known : Known) → seen_at seen at ≡ Some known → IsWitnessed image layout entry at known) → (at : ℕ)
    → seen_at seen at ≢ None → IsNode image layout entry at
node-seen image layout entry seen witnessed at is = by (seen_at seen at) refl
  where
    by : (known : Option Known) → seen_at seen at ≡ known → IsNode image layout entry at
    by None e = absurd (is e)
    by (Some known) e = let w = witnessed at known e in trail-node image layout entry at known w.trail

module _ (image : Image) (layout : Layout) (entry : ℕ) (work : Work) (to : ℕ)
    (is_entry : IsEntry image layout entry) (s : IsSound image layout entry work)
    (node : IsNode image layout entry to) where
  one-more : seen_at work.seen to ≡ None → length work.order ≡ 4096 → HasMany (IsNode image layout entry) 4097
  one-more unseen full = record {
    values = work.order ++ to ∷ [];
    hold =
        All-push (IsNode image layout entry) work.order to
        (λ k d less. node-seen image layout entry work.seen s.witnessed (get_or work.order k d) ((s.order.every (get_or work.order k d)).0 (Contains-get_or work.order k d less)))
        node;
    distinct =
        all_pairs_push (λ x y. x ≢ y) work.order to s.order.distinct
        (λ k d less is. (s.order.every (get_or work.order k d)).0 (Contains-get_or work.order k d less) (ap (seen_at work.seen) is ∙ unseen));
    count_is = length-append work.order (to ∷ []) ∙ ap (λ n. n + 1) full;
  }

  pub full-refused : (refusal : Refusal) → IsFull work to refusal → IsRefusedByTrails image layout refusal
  full-refused (Limit Instructions count) full =
      subst (λ n. IsRefusedByTrails image layout (Limit Instructions n)) (sym full.0)
      (refused.limit (instructions is_entry (one-more full.2 full.1)))
  full-refused Memory full = refused.no_memory
  full-refused refusal full = absurd full
