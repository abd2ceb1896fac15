-- Why an instruction is refused, in terms of constructs, counts and trails.
use Rattle.std.proofs.Common.{◌≡◌, inl, inr, ℕ, Bool, true, false, ◌==◌, ◌||◌, if◌then◌else◌, Option, Some, None, refl, sym, ap, ◌∙◌, subst, eq-eqb, eqb-true}
use Rattle.dcc_num.specs.declared.Reg.{Reg}
use Rattle.dcc_machine.specs.declared.image.Image.{Image}
use Rattle.dcc_prog.specs.declared.procedure.Layout.{Layout}
use Rattle.dcc_machine.specs.declared.instr.Op.TheVariants.{Table, Call, Ret, Int21}
use Rattle.dcc_prog.specs.declared.refusal.ConstructKind.{ConstructKind}
use Rattle.dcc_prog.specs.declared.refusal.ConstructKind.TheVariants.{OutsideProfile, IndirectJump, IndirectCall, DosNumber, EntryReturn}
use Rattle.dcc_prog.specs.declared.refusal.Refusal.{Refusal}
use Rattle.dcc_prog.specs.declared.refusal.Refusal.TheVariants.{Construct}
use Rattle.dcc_machine.specs.Writes.{is_same_register}
use Rattle.dcc_prog.specs.Trail.{code_within, instruction_in, StandsAt, IsEntry}
use Rattle.dcc_prog.specs.Construct.{HasIndirect, is_dos_number, HasNumber, LacksTable, IsFormless, HasAh, HasNoNumber, not_known, other_number, ReturnsFromEntry, returns, calls, IsAtNode, unknown, indirect_jump, formless, indirect_call, dos_number, entry_return, IsOfTrails}
use Rattle.dcc_prog.specs.Construct as construct
use Rattle.dcc_prog.specs.Limit.{entries}
use Rattle.dcc_prog.specs.Refused.{IsRefusedByTrails}
use Rattle.dcc_prog.specs.Refused as refused
use Rattle.dcc_procs.specs.declared.known.Known.{Known}
use Rattle.dcc_procs.specs.declared.table.Index.{Index}
use Rattle.dcc_procs.specs.Known.{number_of, index_of, told}
use Rattle.dcc_procs.specs.Search.{HasTrail, AreApart, IsWitnessed, HasDosNumber, IsTableFault, no_number, many, outside}
use Rattle.dcc_procs.proofs.Telling.{same-register, told-ah, told-number}
use Rattle.dcc_procs.proofs.Witnessing.{trail-node}

-- Where no instruction stands.

module _ (image : Image) (layout : Layout) (entry at reg : ℕ) (none : instruction_in image layout at ≡ None)
    (h : HasIndirect (code_within image layout) at reg) where
  same-reg : (n : ℕ) → (reg == n) ≡ true → HasIndirect (code_within image layout) at n
  same-reg n e = subst (HasIndirect (code_within image layout) at) (eqb-true reg n e) h

  other-reg : (n : ℕ) → (reg == n) ≡ false → ¬ HasIndirect (code_within image layout) at n
  other-reg n e other = let same : reg ≡ n = sym h.reg_is ∙ other.reg_is in let clash = sym e ∙ eq-eqb reg n same in cc

  pub kind-indirect :
      IsAtNode image layout entry at
      (if (reg == 2) || (reg == 3) then IndirectCall else if (reg == 4) || (reg == 5) then IndirectJump else OutsideProfile)
  kind-indirect =
      elim (reg == 2) as
      (λ b. (reg == 2) ≡ b → IsAtNode image layout entry at (if b || (reg == 3) then IndirectCall else if (reg == 4) || (reg == 5) then IndirectJump else OutsideProfile)) [
        | true ↦ λ e. indirect_call (inl (same-reg 2 e))
        | false ↦
            λ e2. elim (reg == 3) as
            (λ b. (reg == 3) ≡ b → IsAtNode image layout entry at (if b then IndirectCall else if (reg == 4) || (reg == 5) then IndirectJump else OutsideProfile)) [
              | true ↦ λ e. indirect_call (inr (same-reg 3 e))
              | false ↦
                  λ e3. elim (reg == 4) as
                  (λ b. (reg == 4) ≡ b → IsAtNode image layout entry at (if b || (reg == 5) then IndirectJump else OutsideProfile)) [
                    | true ↦ λ e. indirect_jump (inl (same-reg 4 e))
                    | false ↦
                        λ e4. elim (reg == 5) as (λ b. (reg == 5) ≡ b → IsAtNode image layout entry at (if b then IndirectJump else OutsideProfile)) [
                          | true ↦ λ e. indirect_jump (inr (same-reg 5 e))
                          | false ↦ λ e5. unknown (record {
                            none = none;
                            no_jump = λ j. elim j [ inl k ↦ other-reg 4 e4 k | inr k ↦ other-reg 5 e5 k ];
                            no_call = λ j. elim j [ inl k ↦ other-reg 2 e2 k | inr k ↦ other-reg 3 e3 k ];
                          })
                        ] refl
                  ] refl
            ] refl
      ] refl

pub kind-none :
    (image : Image) (layout : Layout) (entry at : ℕ) → instruction_in image layout at ≡ None
    → ((reg : ℕ) → ¬ HasIndirect (code_within image layout) at reg) → IsAtNode image layout entry at OutsideProfile
kind-none image layout entry at none lacks = unknown (record {
  none = none;
  no_jump = λ j. elim j [ inl k ↦ lacks 4 k | inr k ↦ lacks 5 k ];
  no_call = λ j. elim j [ inl k ↦ lacks 2 k | inr k ↦ lacks 3 k ];
})

-- Where trails come.

module _ (image : Image) (layout : Layout) (entry at : ℕ) (known : Known) (is_entry : IsEntry image layout entry)
    (w : IsWitnessed image layout entry at known) where
  -- a construct at a node that is reached
  pub construct-here :
      (kind : ConstructKind) → IsAtNode image layout entry at kind → IsRefusedByTrails image layout (Construct kind at)
  construct-here kind stands = refused.construct (record {
    entry = entry;
    is_entry = is_entry;
    node = trail-node image layout entry at known w.trail;
    stands = stands;
  })

  module _ (stands : StandsAt image layout at Int21) where
    has-ah :
        (ah : Option ℕ) (t : HasTrail image layout entry at known) → (told image layout at t.before).ah ≡ ah
        → HasAh image layout entry at ah
    has-ah ah t e =
        record
        { before = t.before; trail = t.trail; stands = stands; ah_is = sym (told-ah image layout at t.before) ∙ e }

    -- two trails tell different things
    two-ahs :
        (one other : HasTrail image layout entry at known) (a b : Option ℕ) → (told image layout at one.before).ah ≡ a
        → (told image layout at other.before).ah ≡ b → AreApart a b → HasNoNumber image layout entry at
    two-ahs one other None b e f apart = not_known (has-ah None one e)
    two-ahs one other (Some n) None e f apart = not_known (has-ah None other f)
    two-ahs one other (Some n) (Some m) e f apart =
        construct.two_numbers (has-ah (Some n) one e) (has-ah (Some m) other f)
        (λ same. apart n refl (ap Some (sym same)))

    no-number : ¬ HasDosNumber known → HasNoNumber image layout entry at
    no-number lacks = by known.ah refl
      where
        other : (n : ℕ) → known.ah ≡ Some n → (b : Bool) → is_dos_number n ≡ b → HasNoNumber image layout entry at
        other n e true t = absurd (lacks (n, e, t))
        other n e false t = other_number (has-ah (Some n) w.trail (w.trail.covers.ah n e)) t

        by : (ah : Option ℕ) → known.ah ≡ ah → HasNoNumber image layout entry at
        by None e =
            let d = w.ah e in
            two-ahs d.one d.other (told image layout at d.one.before).ah (told image layout at d.other.before).ah
            refl refl d.apart
        by (Some n) e = other n e (is_dos_number n) refl

    pub number-refused : ¬ HasDosNumber known → IsRefusedByTrails image layout (Construct DosNumber at)
    number-refused lacks = construct-here DosNumber (dos_number (no-number lacks))

  module _ (r : Reg) (table : ℕ) (stands : StandsAt image layout at (Table r table)) where
    has-number :
        (number : Option ℕ) (t : HasTrail image layout entry at known)
        → number_of r (told image layout at t.before).index ≡ number → HasNumber image layout entry at number
    has-number number t e = record {
      before = t.before;
      trail = t.trail;
      register = r;
      table = table;
      stands = stands;
      number_is = sym (told-number image layout r at t.before) ∙ e;
    }

    -- an index with that number is one
    index-is : (index : Option Index) (n : ℕ) → number_of r index ≡ Some n → index ≡ Some (index_of n r)
    index-is None n e = let clash = e in cc
    index-is (Some i) n e = step (is_same_register i.register r) refl e
      where
        step :
            (b : Bool) → is_same_register i.register r ≡ b → (if b then Some i.number else None) ≡ Some n
            → Some i ≡ Some (index_of n r)
        step true t is =
            let same : i.number ≡ n = cc in
            ap (λ q. Some (index_of i.number q)) (same-register i.register r t) ∙ ap (λ k. Some (index_of k r)) same
        step false t is = let clash = is in cc

    two-numbers :
        (one other : HasTrail image layout entry at known) (a b : Option ℕ)
        → number_of r (told image layout at one.before).index ≡ a
        → number_of r (told image layout at other.before).index ≡ b
        → AreApart (told image layout at one.before).index (told image layout at other.before).index
        → IsFormless image layout entry at
    two-numbers one other None b e f apart = construct.no_number (has-number None one e)
    two-numbers one other (Some n) None e f apart = construct.no_number (has-number None other f)
    two-numbers one other (Some n) (Some m) e f apart =
        construct.two_numbers (has-number (Some n) one e) (has-number (Some m) other f)
        (λ same. apart (index_of n r) (index-is (told image layout at one.before).index n e) (index-is (told image layout at other.before).index m f ∙ ap (λ k. Some (index_of k r)) (sym same)))

    number-here : (n : ℕ) → number_of r known.index ≡ Some n → HasNumber image layout entry at (Some n)
    number-here n e =
        let is = index-is known.index n e in
        has-number (Some n) w.trail
        (ap (number_of r) (w.trail.covers.index (index_of n r) is) ∙ sym (ap (number_of r) is) ∙ e)

    formless-none : number_of r known.index ≡ None → IsFormless image layout entry at
    formless-none none = by known.index refl
      where
        by : (index : Option Index) → known.index ≡ index → IsFormless image layout entry at
        by None e =
            let d = w.index e in
            two-numbers d.one d.other (number_of r (told image layout at d.one.before).index)
            (number_of r (told image layout at d.other.before).index) refl refl d.apart
        by (Some i) e =
            construct.no_number
            (has-number None w.trail (ap (number_of r) (w.trail.covers.index i e) ∙ sym (ap (number_of r) e) ∙ none))

    pub table-refused :
        (refusal : Refusal) → IsTableFault image layout at known r table refusal
        → IsRefusedByTrails image layout refusal
    table-refused _ (no_number none) = construct-here IndirectJump (formless (formless-none none))
    table-refused _ (many {number} is more) = refused.limit (entries is_entry (number-here number is) more)
    table-refused _ (outside {number} is few past) =
        construct-here IndirectJump
        (formless (construct.no_table (number-here number is) few (record { register = r; table = table; stands = stands; outside = past })))

  pub return-refused :
      (count : ℕ) → entry ≡ layout.start_ip → StandsAt image layout at (Ret count)
      → IsRefusedByTrails image layout (Construct EntryReturn at)
  return-refused count first stands = construct-here EntryReturn (entry_return (returns first stands))

  pub call-refused :
      StandsAt image layout at (Call layout.start_ip) → IsRefusedByTrails image layout (Construct EntryReturn at)
  call-refused stands = construct-here EntryReturn (entry_return (calls stands))
