-- One instruction is followed, to one successor after another.
use Rattle.std.proofs.Common.{◌≡◌, ◌≢◌, inl, inr, ℕ, ◌+◌, ◌≤◌, ◌<◌, List, [], ◌∷◌, ◌++◌, length, get_or, take, Contains, Option, Some, None, sym, ap, ◌∙◌, subst, arith, take_all}
use Rattle.std.proofs.lemmas.List.{take_more}
use Rattle.std.proofs.lemmas.List.Elements.{Contains-get_or, Contains-push_cases}
use Rattle.dcc_machine.specs.declared.image.Image.{Image}
use Rattle.dcc_prog.specs.declared.procedure.Layout.{Layout}
use Rattle.dcc_machine.specs.declared.instr.Instr.{Instr}
use Rattle.dcc_prog.specs.declared.refusal.Refusal.{Refusal}
use Rattle.dcc_prog.specs.Trail.{IsEntry}
use Rattle.dcc_prog.specs.Refused.{IsRefusedByTrails}
use Rattle.dcc_procs.specs.declared.known.Known.{Known}
use Rattle.dcc_procs.specs.Known.{known_after, told, successors_by}
use Rattle.dcc_procs.specs.Search.{Covers, Tells, IsWitnessed, IsAccepted, Work, seen_at, IsArrived, IsFull, IsSound, Extends, AreTold, IsFollowed}
use Rattle.dcc_procs.proofs.Witnessing.{trail-node, trail-onward, edge-onward, witnessed-onward}
use Rattle.dcc_procs.proofs.Searching.{later, Arrives, arrives, extends-refl, extends-trans}
use Rattle.dcc_procs.proofs.Filling.{full-refused}
use Rattle.dcc_procs.proofs.Fresh.{seen-read}

-- what is told of more than nothing
tells-seen : (seen : Option Known) (t : Known) → Tells seen t → seen ≢ None
tells-seen seen t told none = subst (λ s. Tells s t) none told

pub record AreFollowed (image : Image) (layout : Layout) (entry at : ℕ) (known : Known) (instr : Instr)
    (old new : Work) (place : ℕ) : Type 0 where
  pub sound : IsSound image layout entry new
  pub extends : Extends old new
  pub told : AreTold new at instr known (take place (successors_by image at instr known))

-- what the code reads is what is seen
pub seen-known : (image : Image) (layout : Layout) (entry i at : ℕ) (work : Work) (now : Option Known) (known : Known)
    → IsSound image layout entry work → now ≡ get_or work.seen i now → i ≡ at → now ≡ Some known → at < 65536
    → seen_at work.seen at ≡ Some known
seen-known image layout entry i at work now known sound read same is fits =
    seen-read work.seen i at now (Some known) read same is (let long = sound.length_is in omega (arith, long, fits))

-- a place of the list that the code keeps is one of an equal list
pub inside-of : (list kept : List ℕ) (end place : ℕ) → kept ≡ list → end ≡ length kept → place < end → place < length list
inside-of list kept end place same ends more = let lengths = ap length same in omega (arith, more, ends, lengths)

pub past-of : (list kept : List ℕ) (end place : ℕ) → kept ≡ list → end ≡ length kept → end ≤ place → length list ≤ place
past-of list kept end place same ends past = let lengths = ap length same in omega (arith, past, ends, lengths)

module _ (image : Image) (layout : Layout) (entry at : ℕ) (known : Known) (instr : Instr) (old : Work)
    (is_entry : IsEntry image layout entry) (s : IsSound image layout entry old)
    (seen : seen_at old.seen at ≡ Some known) (a : IsAccepted image layout entry at known instr) where
  witnessed : IsWitnessed image layout entry at known
  witnessed = s.witnessed at known seen

  -- nothing is followed yet
  pub none-followed : IsSound image layout entry old × Extends old old × AreTold old at instr known []
  none-followed = (s, extends-refl old, λ to c t covers. absurd (let inside = c.1 in omega (arith, inside)))

  module _ (mid : Work) (place to : ℕ) (k : Known) (inside : place < length (successors_by image at instr known))
      (to_is : to ≡ get_or (successors_by image at instr known) place 0) (k_is : k ≡ known_after at instr to known)
      (sm : IsSound image layout entry mid) (em : Extends old mid) where
    there : Contains (successors_by image at instr known) to
    there =
        subst (Contains (successors_by image at instr known)) (sym to_is)
        (Contains-get_or (successors_by image at instr known) place 0 inside)

    still-seen : seen_at mid.seen at ≢ None
    still-seen =
        let t = told image layout at witnessed.trail.before in
        tells-seen (seen_at mid.seen at) t (em.tells at t (subst (λ o. Tells o t) (sym seen) witnessed.trail.covers))

    pub full-here : (refusal : Refusal) → IsFull mid to refusal → IsRefusedByTrails image layout refusal
    full-here refusal full =
        let t = trail-onward image layout entry at known instr a to there witnessed.trail in
        full-refused image layout entry mid to is_entry sm
        (trail-node image layout entry to (known_after at instr to known) t) refusal full

    came : (new : Work) → to < 65536 → IsArrived mid new to k → Arrives image layout entry mid new to k
    came new small arrived =
        let w = witnessed-onward image layout entry at known instr a to there witnessed in
        arrives image layout entry mid new to k sm small (subst (IsWitnessed image layout entry to) (sym k_is) w)
        (later ((sm.order.every at).1 still-seen) (edge-onward image layout entry at known instr a to there witnessed.trail))
        arrived

    pub one-followed :
        (new : Work) → to < 65536 → IsArrived mid new to k
        → AreTold mid at instr known (take place (successors_by image at instr known))
        → IsSound image layout entry new × Extends old new × AreTold new at instr known
        (take (place + 1) (successors_by image at instr known))
    one-followed new small arrived tm =
        let c = came new small arrived in
        let more : take (place + 1) (successors_by image at instr known) ≡ take place
        (successors_by image at instr known) ++ to ∷ [] =
        take_more (successors_by image at instr known) place 0 inside
        ∙ ap (λ n. take place (successors_by image at instr known) ++ n ∷ []) (sym to_is) in (
          c.sound,
          extends-trans old mid new em c.extends,
          λ i inside t covers.
              elim
              (Contains-push_cases (take place (successors_by image at instr known)) to i (subst (λ l. Contains l i) more inside)) [
                | inl before ↦ c.extends.tells i t (tm i before t covers)
                | inr here ↦
                    subst (λ n. Tells (seen_at new.seen n) t) here
                    (c.tells t (subst (λ q. Covers q t) (sym k_is) (subst (λ n. Covers (known_after at instr n known) t) (sym here) covers)))
              ],
        )

  -- all successors are followed
  pub all-followed :
      (new : Work) (place : ℕ) → length (successors_by image at instr known) ≤ place → IsSound image layout entry new
      → Extends old new → AreTold new at instr known (take place (successors_by image at instr known))
      → IsFollowed image layout entry at old new
  all-followed new place past sn en tn = record {
    sound = sn;
    extends = en;
    known = known;
    was = seen;
    instr = instr;
    accepted = a;
    onward = subst (AreTold new at instr known) (take_all place (successors_by image at instr known) past) tn;
  }
