-- What does nothing agrees with no statements.
use Rattle.std.proofs.Common.{◌≡◌, ℕ, ℤ, false, inl, inr, [], ◌∷◌, None, refl, sym, ap, ◌∙◌, subst, true≢false}
use Rattle.std.specs.Prelude.{Contains, Option}
use Rattle.dcc_ir.specs.declared.syntax.Loc.{Loc}
use Rattle.dcc_ir.proofs.LocationLaws.{Contains-here, Contains-none}
use Rattle.dcc_ops.specs.OperandPlace.{byte}
use Rattle.dcc_num.specs.declared.Width.TheVariants.{Byte as byte_width}
use Rattle.dcc_simulation.specs.Procedures.{Procedure, frame_place}
use Rattle.dcc_demand.specs.Procedures.{Action, Leaves, LeavesWord, Procedures, is_left}
use Rattle.dcc_machine_demand.specs.Holders.{Holder}
use Rattle.dcc_machine_demand.specs.Instance as asks
use Rattle.dcc_sums.specs.Points.{Position}
use Rattle.dcc_lifted_demand.proofs.ListLaws.{only}
use Rattle.dcc_refinement.specs.Refinement.{Refinement, EffectsAgree, WordEffectsAgree, Carries, Takes}
use Rattle.dcc_lifted_demand.specs.LiftedRefinement.{inner_of, IsSame}
use Rattle.dcc_instruction_demand.specs.Agreement.{Agrees}

-- a place is one location
pub same_once : {p : Option Procedure} {L : Holder} {l m : Loc} → IsSame p L l → IsSame p L m → l ≡ m
same_once s t = by s t refl
  where
    by : {p : Option Procedure} {L M : Holder} {l m : Loc} → IsSame p L l → IsSame p M m → L ≡ M → l ≡ m
    by (IsSame.is_held {location = a} e) (IsSame.is_held {location = b} f) same =
        let one : a ≡ b = cc same in ap inner_of one
    by (IsSame.is_held e) (IsSame.is_kept f g) same = absurd (cc same)
    by (IsSame.is_kept f g) (IsSame.is_held e) same = absurd (cc same)
    by (IsSame.is_kept {found = found} {k = k} {location = l} f g) (IsSame.is_kept {found = other} {k = j} {location = m} h i) same =
        let one : found ≡ other = cc (f, h) in
        let byte_is : k ≡ j = cc same in
        let places : byte l ≡ byte m = sym g ∙ ap (λ x. frame_place found byte_width x) byte_is ∙ ap (λ q. frame_place q byte_width j) one ∙ i in
        cc places

-- nothing is done
pub record IsIdle (x : Action Holder ℤ) : Type 0 where
  pub leaves : (L : Holder) → x.effect L ≡ Leaves
  pub leaves_word : (k : ℤ) → x.word_effect k ≡ LeavesWord
  pub unused : (L : Holder) → x.uses L ≡ false
  pub unsure : (L : Holder) → x.surely L ≡ false
  pub quiet : x.callee ≡ None

pub idle_is : (x : Action Holder ℤ) → x ≡ asks.idle → IsIdle x
idle_is x is = record {
  leaves = λ L. ap (λ (y : Action Holder ℤ). y.effect L) is;
  leaves_word = λ k. ap (λ (y : Action Holder ℤ). y.word_effect k) is;
  unused = λ L. ap (λ (y : Action Holder ℤ). y.uses L) is;
  unsure = λ L. ap (λ (y : Action Holder ℤ). y.surely L) is;
  quiet = ap (λ (y : Action Holder ℤ). y.callee) is;
}

module _ (coarse : Procedures ℕ Holder ℤ) (fine : Procedures Position Loc Loc) (r : Refinement ℕ Holder ℤ Position Loc Loc) (entry at pushed : ℕ)
    (once : (L : Holder) (l m : Loc) → r.same entry L l → r.same entry L m → l ≡ m)
    (idle : IsIdle ((coarse.procedure entry).action at)) where
  abbrev x : Action Holder ℤ
  x = (coarse.procedure entry).action at

  unwritten : (L : Holder) → is_left (x.effect L) ≡ false → ⊥
  unwritten L e = true≢false (sym (ap is_left (idle.leaves L)) ∙ e)

  no_takes : (L : Holder) → Takes coarse fine r entry at L → ⊥
  no_takes L (inl u) = true≢false (sym u ∙ idle.unused L)
  no_takes L (inr (to, b, e, c, w, m)) = unwritten to w

  carries_itself : (L A : Holder) → Carries coarse fine r entry at L A → L ≡ A
  carries_itself L A (inl made) = absurd (unwritten A made.0)
  carries_itself L A (inr kept) = kept.0

  pub idle_agrees : Agrees coarse fine r entry at pushed [] []
  idle_agrees = record {
    effect = λ L l s t. subst (λ e. EffectsAgree coarse fine r entry e Leaves) (sym (idle.leaves L)) EffectsAgree.both_leave;
    word_effect = λ L l k w s t u. subst (λ e. WordEffectsAgree coarse fine r L l e LeavesWord) (sym (idle.leaves_word k)) WordEffectsAgree.both_leave;
    saved = λ L l k s t e. absurd (cc (e, idle.leaves_word k));
    popped = λ L l k w s t u e. refl;
    callees = inl (idle.quiet, tt);
    carried = λ L A l a s t c.
        let same : l ≡ a = once L l a s (subst (λ M. r.same entry M a) (sym (carries_itself L A c)) t) in
        inl (subst (λ m. Contains (a ∷ []) m) (sym same) (Contains-here a []));
    taken = λ L l s t. absurd (no_takes L t);
    flows = λ A l a s f. (A, subst (λ m. r.same entry A m) (only a l f) s, inl (inr (refl, idle.unsure A)));
    uses = λ l u. absurd (Contains-none l u);
    made = λ L to w m. absurd (unwritten to w);
  }
