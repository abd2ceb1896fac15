-- Trails that show what is known, and where they go on.
use Rattle.std.proofs.Common.{◌≡◌, inl, inr, ℕ, nat_eq, Bool, if◌then◌else◌, List, [], ◌∷◌, Contains, Option, Some, None, refl, sym, ap, ◌∙◌, subst}
use Rattle.dcc_num.specs.declared.Reg.{Reg}
use Rattle.dcc_num.specs.declared.Reg.TheVariants.{Ax}
use Rattle.dcc_num.specs.declared.Half.TheVariants.{High}
use Rattle.dcc_machine.specs.declared.image.Image.{Image}
use Rattle.dcc_prog.specs.declared.procedure.Layout.{Layout}
use Rattle.dcc_machine.specs.declared.instr.Op.{Op}
use Rattle.dcc_machine.specs.declared.instr.Op.TheVariants.{Table, Int21}
use Rattle.dcc_machine.specs.declared.instr.Instr.{Instr}
use Rattle.dcc_machine.specs.Writes.{writes_half}
use Rattle.dcc_machine.specs.Successors.{next_of, op_successors}
use Rattle.dcc_prog.specs.Trail.{constant_to_ah, table_targets, successors, IsNode, IsEdge}
use Rattle.dcc_procs.specs.declared.known.Known.{Known}
use Rattle.dcc_procs.specs.declared.table.Index.{Index}
use Rattle.dcc_procs.specs.Known.{is_same_form, is_same_index, form_after, index_after, number_of, nothing, known_after, told_after, told, targets_by, successors_by, common_of, common}
use Rattle.dcc_procs.specs.Search.{Covers, HasTrail, Differ, IsWitnessed, IsAccepted}
use Rattle.dcc_procs.proofs.Telling.{trail-successors}
use Rattle.dcc_procs.proofs.Knowing.{IsStep, step-ah, step-form, step-index, covers-after, IsTest, test-number, test-form, test-index, common-none, covers-first, covers-second}

-- AH decides the successors of INT 21h alone, and the targets those of a table jump
op-same :
    (op : Op) (next : ℕ) (ah other : Option ℕ) (targets others : List ℕ) → (op ≡ Int21 → ah ≡ other)
    → ((r : Reg) (table : ℕ) → op ≡ Table r table → targets ≡ others)
    → op_successors op next ah targets ≡ op_successors op next other others
op-same Int21 next ah other targets others same table = ap (λ known. op_successors Int21 next known targets) (same refl)
op-same (Table r offset) next ah other targets others same table = table r offset refl
op-same op next ah other targets others same table = refl

-- a number is told of an index
pub numbered :
    (r : Reg) (index : Option Index) (number : ℕ) → number_of r index ≡ Some number → (i : Index) × (index ≡ Some i)
numbered r None number e = let clash = e in cc
numbered r (Some index) number e = (index, refl)

targets-same :
    (image : Image) (op : Op) (r : Reg) (table : ℕ) (known told : Known) → op ≡ Table r table
    → told.index ≡ known.index → targets_by image op told ≡ targets_by image op known
targets-same image op r table known told is same =
    ap (λ o. targets_by image o told) is
    ∙ ap (λ index. table_targets image table (number_of r index)) same
    ∙ sym (ap (λ o. targets_by image o known) is)

-- a trail of the procedure ends at a node
pub trail-node :
    (image : Image) (layout : Layout) (entry at : ℕ) (known : Known) → HasTrail image layout entry at known
    → IsNode image layout entry at
trail-node image layout entry at known t = record { before = t.before; trail = t.trail }

module _ (image : Image) (layout : Layout) (entry at : ℕ) (known : Known) (instr : Instr)
    (a : IsAccepted image layout entry at known instr) where
  -- the successors as they are followed, and as a trail has them
  pub followed-same :
      (told : Known) → Covers known told → successors_by image at instr told ≡ successors_by image at instr known
  followed-same told c =
      op-same instr.op (next_of at instr) told.ah known.ah (targets_by image instr.op told)
      (targets_by image instr.op known)
      (λ dos. let n = a.allowed.number dos in c.ah n.0 n.1 ∙ sym n.1)
      (λ r table is.
      let t = a.allowed.table r table is in
      let i = numbered r known.index t.number t.number_is in
      targets-same image instr.op r table known told is (c.index i.0 i.1 ∙ sym i.1))

  pub told-onward :
      (to : ℕ) (before : List ℕ)
      → told image layout to (at ∷ before) ≡ known_after at instr to (told image layout at before)
  told-onward to before = ap (λ found. told_after at found to (told image layout at before)) a.found

  pub trail-same :
      (before : List ℕ) → Covers known (told image layout at before)
      → successors image layout (at ∷ before) ≡ successors_by image at instr known
  trail-same before c =
      trail-successors image layout at before instr a.found ∙ followed-same (told image layout at before) c

  module _ (to : ℕ) (inside : Contains (successors_by image at instr known) to) where
    -- a trail goes on to a successor
    pub trail-onward :
        HasTrail image layout entry at known → HasTrail image layout entry to (known_after at instr to known)
    trail-onward t = record {
      before = at ∷ t.before;
      trail = (subst (λ l. Contains l to) (sym (trail-same t.before t.covers)) inside, t.trail);
      covers =
          subst (Covers (known_after at instr to known)) (sym (told-onward to t.before))
          (covers-after at instr to known (told image layout at t.before) t.covers);
    }

    pub edge-onward : HasTrail image layout entry at known → IsEdge image layout entry at to
    edge-onward t = record {
      before = t.before;
      trail = (subst (λ l. Contains l to) (sym (trail-same t.before t.covers)) inside, t.trail);
    }

    differ-onward :
        {A B : Type 0} (g : Known → Option A) (h : Known → Option B) (f : Option A → Option B) → IsStep f
        → ((k : Known) → h (known_after at instr to k) ≡ f (g k))
        → ((k t : Known) → Covers k t → (x : A) → g k ≡ Some x → g t ≡ Some x) → HasTrail image layout entry at known
        → (g known ≡ None → Differ image layout entry at known g) → f (g known) ≡ None
        → Differ image layout entry to (known_after at instr to known) h
    unfolding trail-onward
    differ-onward {A} {B} g h f step is covered t differ none = by (g known) refl
      where
        after : (before : List ℕ) → h (told image layout to (at ∷ before)) ≡ f (g (told image layout at before))
        after before = ap h (told-onward to before) ∙ is (told image layout at before)

        by : (value : Option A) → g known ≡ value → Differ image layout entry to (known_after at instr to known) h
        by (Some u) e =
            let gone : (x : B) → h (told image layout to (at ∷ t.before)) ≡ Some x → ⊥ = λ x here.
            let same = sym (ap f e) ∙ none in
            let clash =
            sym same
            ∙ ap f (sym (covered known (told image layout at t.before) t.covers u e))
            ∙ sym (after t.before)
            ∙ here in
            cc in
            record { one = trail-onward t; other = trail-onward t; apart = λ x p q. gone x p }
        by None e =
            let d = differ e in
            record {
              one = trail-onward d.one;
              other = trail-onward d.other;
              apart = λ x p q.
                  let both =
                  step.single (sym (ap f e) ∙ none) x (g (told image layout at d.one.before))
                  (g (told image layout at d.other.before)) (sym (after d.one.before) ∙ p)
                  (sym (after d.other.before) ∙ q) in
                  d.apart both.0 both.1 both.2;
            }

    pub witnessed-onward :
        IsWitnessed image layout entry at known → IsWitnessed image layout entry to (known_after at instr to known)
    witnessed-onward w = record {
      trail = trail-onward w.trail;
      ah =
          differ-onward (λ k. k.ah) (λ k. k.ah)
          (λ ah. if writes_half instr.op Ax High then constant_to_ah instr.op else ah)
          (step-ah (writes_half instr.op Ax High) (constant_to_ah instr.op)) (λ k. refl) (λ k t c. c.ah) w.trail w.ah;
      form =
          differ-onward (λ k. k.form) (λ k. k.form) (form_after instr.op (next_of at instr) to)
          (step-form instr.op (next_of at instr) to) (λ k. refl) (λ k t c. c.form) w.trail w.form;
      index =
          differ-onward (λ k. k.form) (λ k. k.index) (index_after instr.op) (step-index instr.op) (λ k. refl)
          (λ k t c. c.form) w.trail w.form;
      from = λ e. let clash = e in cc;
    }

-- the trail of the entry alone
pub witnessed-entry : (image : Image) (layout : Layout) (entry : ℕ) → IsWitnessed image layout entry entry nothing
witnessed-entry image layout entry = record {
  trail = alone;
  ah = λ e. record { one = alone; other = alone; apart = λ x p q. let clash = p in cc };
  form = λ e. record { one = alone; other = alone; apart = λ x p q. let clash = p in cc };
  index = λ e. record { one = alone; other = alone; apart = λ x p q. let clash = p in cc };
  from = λ e. record { one = alone; other = alone; apart = λ x p q. let clash = p in cc };
}
  where
    alone : HasTrail image layout entry entry nothing
    alone = record {
      before = [];
      trail = refl;
      covers = record {
        ah = λ n e. let clash = e in cc;
        form = λ n e. let clash = e in cc;
        index = λ n e. let clash = e in cc;
        from = λ n e. let clash = e in cc;
      };
    }

-- What two tell in common.

module _ (image : Image) (layout : Layout) (entry at : ℕ) (was known : Known)
    (w : IsWitnessed image layout entry at was) (v : IsWitnessed image layout entry at known) where
  trail-first : HasTrail image layout entry at was → HasTrail image layout entry at (common was known)
  trail-first t =
      record
      { before = t.before; trail = t.trail; covers = covers-first was known (told image layout at t.before) t.covers }

  trail-second : HasTrail image layout entry at known → HasTrail image layout entry at (common was known)
  trail-second t =
      record
      { before = t.before; trail = t.trail; covers = covers-second was known (told image layout at t.before) t.covers }

  differ-common :
      {A : Type 0} (g : Known → Option A) (same : A → A → Bool) → IsTest same
      → ((k t : Known) → Covers k t → (x : A) → g k ≡ Some x → g t ≡ Some x)
      → (g was ≡ None → Differ image layout entry at was g) → (g known ≡ None → Differ image layout entry at known g)
      → common_of same (g was) (g known) ≡ None → Differ image layout entry at (common was known) g
  unfolding trail-first trail-second
  differ-common g same test covered first second none = elim (common-none same test (g was) (g known) none) [
    | inl e ↦ let d = first e in record { one = trail-first d.one; other = trail-first d.other; apart = d.apart }
    | inr rest ↦ elim rest [
      | inl e ↦ let d = second e in record { one = trail-second d.one; other = trail-second d.other; apart = d.apart }
      | inr two ↦ record {
        one = trail-first w.trail;
        other = trail-second v.trail;
        apart = λ x p q.
            let one = sym (covered was (told image layout at w.trail.before) w.trail.covers two.0 two.2) ∙ p in
            let other = sym (covered known (told image layout at v.trail.before) v.trail.covers two.1 two.3) ∙ q in
            two.4 (let a = one in let b = other in cc);
      }
    ]
  ]

  pub witnessed-common : IsWitnessed image layout entry at (common was known)
  witnessed-common = record {
    trail = trail-first w.trail;
    ah = differ-common (λ k. k.ah) nat_eq test-number (λ k t c. c.ah) w.ah v.ah;
    form = differ-common (λ k. k.form) is_same_form test-form (λ k t c. c.form) w.form v.form;
    index = differ-common (λ k. k.index) is_same_index test-index (λ k t c. c.index) w.index v.index;
    from = differ-common (λ k. k.from) nat_eq test-number (λ k t c. c.from) w.from v.from;
  }
