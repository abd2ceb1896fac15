-- In a procedure whose trails are all known no construct stands.
use Rattle.std.proofs.Common.{◌≡◌, ℕ, ◌≤◌, false, not, ◌||◌, List, ◌∷◌, Option, Some, None, refl, sym, ap, ◌∙◌, subst, arith}
use Rattle.dcc_num.specs.declared.Reg.{Reg}
use Rattle.dcc_num.specs.declared.Reg.TheVariants.{Ax}
use Rattle.dcc_machine.specs.declared.image.Image.{Image}
use Rattle.dcc_prog.specs.declared.procedure.Layout.{Layout}
use Rattle.dcc_prog.specs.declared.refusal.ConstructKind.{ConstructKind}
use Rattle.dcc_machine.specs.declared.instr.Instr.{Instr}
use Rattle.dcc_machine.specs.declared.instr.Op.{Op}
use Rattle.dcc_machine.specs.declared.instr.Op.TheVariants.{Table, Call, Ret, Int21}
use Rattle.dcc_machine.specs.MzImage.{IsLoaded}
use Rattle.dcc_prog.specs.Trail.{StandsAt, table_number, IsTrail, IsNode}
use Rattle.dcc_prog.specs.FrameForm.{is_frame_form}
use Rattle.dcc_prog.specs.Prepared.{IsUnprepared}
use Rattle.dcc_prog.specs.Construct.{is_system, is_dos_number, HasNumber, HasAh, HasNoNumber, IsFormless, IsAtNode, unknown, foreign, indirect_jump, formless, indirect_call, dos_number, entry_return, division, returns, calls}
use Rattle.dcc_prog.specs.Construct as construct
use Rattle.dcc_procs.specs.declared.known.Known.{Known}
use Rattle.dcc_procs.specs.Known.{number_of, told}
use Rattle.dcc_procs.specs.Search.{Covers, Tells, HasDosNumber, HasTable, IsAllowed, IsAccepted, seen_at, AreAllSeen}
use Rattle.dcc_procs.proofs.Telling.{told-ah, told-number}
use Rattle.dcc_procs.proofs.Witnessing.{numbered}
use Rattle.dcc_procs.proofs.Indirect.{no-jump, no-call}

module _ (image : Image) (layout : Layout) (loaded : IsLoaded image) (entry : ℕ) (seen : List (Option Known))
    (all : AreAllSeen image layout entry seen) where
  -- what is known at a node
  record IsKnown (at : ℕ) : Type 0 where
    known : Known
    is : seen_at seen at ≡ Some known
    instr : Instr
    accepted : IsAccepted image layout entry at known instr
    covers : (before : List ℕ) → IsTrail image layout entry (at ∷ before) → Covers known (told image layout at before)

  known-at : (at : ℕ) → IsNode image layout entry at → IsKnown at
  known-at at node = by (seen_at seen at) refl (all.told at node.before node.trail)
    where
      by :
          (known : Option Known) → seen_at seen at ≡ known → Tells known (told image layout at node.before)
          → IsKnown at
      by None e t = absurd t
      by (Some known) e t =
          let a = all.accepted at known e in
          record {
            known = known;
            is = e;
            instr = a.0;
            accepted = a.1;
            covers = λ before trail. subst (λ k. Tells k (told image layout at before)) e (all.told at before trail);
          }

  -- an operation that stands at a node is allowed there
  record IsTaken (at : ℕ) (op : Op) : Type 0 where
    known : Known
    user : (is_system op || not (is_frame_form image layout entry at op)) ≡ false
    allowed : IsAllowed image layout entry known op
    covers : (before : List ℕ) → IsTrail image layout entry (at ∷ before) → Covers known (told image layout at before)

  taken : (at : ℕ) (op : Op) → IsNode image layout entry at → StandsAt image layout at op → IsTaken at op
  taken at op node stands =
      let k = known-at at node in
      let both = sym k.accepted.found ∙ stands.1 in
      let same : k.instr ≡ stands.0 = cc in
      let is : k.instr.op ≡ op = ap (λ (i : Instr). i.op) same ∙ stands.2 in
      record {
        known = k.known;
        user = subst (λ o. (is_system o || not (is_frame_form image layout entry at o)) ≡ false) is k.accepted.user;
        allowed = subst (IsAllowed image layout entry k.known) is k.accepted.allowed;
        covers = k.covers;
      }

  -- each trail to a table jump tells the number
  table-told :
      (at : ℕ) (before : List ℕ) (r : Reg) (table : ℕ) → IsTrail image layout entry (at ∷ before)
      → StandsAt image layout at (Table r table) → (t : IsTaken at (Table r table))
      → table_number image layout r before ≡ Some (t.allowed.table r table refl).number
  table-told at before r table trail stands t =
      let h = t.allowed.table r table refl in
      let i = numbered r t.known.index h.number h.number_is in
      sym (told-number image layout r at before)
      ∙ ap (number_of r) ((t.covers before trail).index i.0 i.1)
      ∙ sym (ap (number_of r) i.1)
      ∙ h.number_is

  number-is :
      (at : ℕ) (number : Option ℕ) (h : HasNumber image layout entry at number)
      →
      (t : HasTable image layout (taken at (Table h.register h.table) (record { before = h.before; trail = h.trail }) h.stands).known h.register h.table)
      × (number ≡ Some t.number)
  number-is at number h =
      let t = taken at (Table h.register h.table) (record { before = h.before; trail = h.trail }) h.stands in
      (t.allowed.table h.register h.table refl, sym h.number_is ∙ table-told at h.before h.register h.table h.trail h.stands t)

  pub small-table : (at number : ℕ) → HasNumber image layout entry at (Some number) → number ≤ 255
  small-table at number h =
      let n = number-is at (Some number) h in
      let few = n.0.few in
      let same : number ≡ n.0.number = let e = n.1 in cc in
      omega (arith, few, same)

  -- one operation stands at an offset
  one-op : (at : ℕ) (op other : Op) → StandsAt image layout at op → StandsAt image layout at other → op ≡ other
  one-op at op other s t =
      let both = sym s.1 ∙ t.1 in
      let same : s.0 ≡ t.0 = cc in
      sym s.2 ∙ ap (λ (i : Instr). i.op) same ∙ t.2

  abbrev table_register : Op → Reg
  table_register (Table r table) = r
  table_register op = Ax

  abbrev table_offset : Op → ℕ
  table_offset (Table r table) = table
  table_offset op = 0

  no-formless : (at : ℕ) → IsFormless image layout entry at → ⊥
  no-formless at (construct.no_number h) = let clash = (number-is at None h).1 in cc
  no-formless at (construct.two_numbers {number} {other} h k apart) =
      let t = taken at (Table h.register h.table) (record { before = h.before; trail = h.trail }) h.stands in
      let r : h.register ≡ k.register =
      ap table_register (one-op at (Table h.register h.table) (Table k.register k.table) h.stands k.stands) in
      let first = sym h.number_is ∙ table-told at h.before h.register h.table h.trail h.stands t in
      let second =
      sym k.number_is
      ∙ ap (λ q. table_number image layout q k.before) (sym r)
      ∙ table-told at k.before h.register h.table k.trail h.stands t in
      let both = first ∙ sym second in
      apart (let e = both in cc)
  no-formless at (construct.no_table {number} h few lacks) =
      let n = number-is at (Some number) h in
      let inside = n.0.inside in
      let past = lacks.outside in
      let same : number ≡ n.0.number = let e = n.1 in cc in
      let table : h.table ≡ lacks.table =
      ap table_offset
      (one-op at (Table h.register h.table) (Table lacks.register lacks.table) h.stands lacks.stands) in
      absurd (omega (arith, inside, past, same, table))

  -- each trail to INT 21h tells the number
  ah-told :
      (at : ℕ) (ah : Option ℕ) (h : HasAh image layout entry at ah)
      → (n : HasDosNumber (taken at Int21 (record { before = h.before; trail = h.trail }) h.stands).known)
      × (ah ≡ Some n.0)
  ah-told at ah h =
      let t = taken at Int21 (record { before = h.before; trail = h.trail }) h.stands in
      let n = t.allowed.number refl in
      (n, sym h.ah_is ∙ sym (told-ah image layout at h.before) ∙ (t.covers h.before h.trail).ah n.0 n.1)

  no-missing : (at : ℕ) → HasNoNumber image layout entry at → ⊥
  no-missing at (construct.not_known h) = let clash = (ah-told at None h).1 in cc
  no-missing at (construct.other_number {number} h other) =
      let n = ah-told at (Some number) h in
      let same : number ≡ n.0.0 = let e = n.1 in cc in
      let clash = sym other ∙ ap is_dos_number same ∙ n.0.2 in
      cc
  no-missing at (construct.two_numbers {number} {other} h k apart) =
      let t = taken at Int21 (record { before = h.before; trail = h.trail }) h.stands in
      let n = t.allowed.number refl in
      let first = sym h.ah_is ∙ sym (told-ah image layout at h.before) ∙ (t.covers h.before h.trail).ah n.0 n.1 in
      let second = sym k.ah_is ∙ sym (told-ah image layout at k.before) ∙ (t.covers k.before k.trail).ah n.0 n.1 in
      let both = first ∙ sym second in
      apart (let e = both in cc)

  pub no-construct :
      ((at : ℕ) → IsNode image layout entry at → ¬ IsUnprepared image layout entry at) → (kind : ConstructKind) (at : ℕ)
      → IsNode image layout entry at → ¬ IsAtNode image layout entry at kind
  no-construct prepared _ at node (unknown u) =
      let k = known-at at node in let clash = sym u.none ∙ k.accepted.found in cc
  no-construct prepared _ at node (foreign f) =
      let t = taken at f.op node f.stands in let clash = sym t.user ∙ f.foreign in cc
  no-construct prepared _ at node (indirect_jump h) =
      let k = known-at at node in no-jump image layout loaded at k.instr k.accepted.found h
  no-construct prepared _ at node (formless f) = no-formless at f
  no-construct prepared _ at node (indirect_call h) =
      let k = known-at at node in no-call image layout loaded at k.instr k.accepted.found h
  no-construct prepared _ at node (dos_number n) = no-missing at n
  no-construct prepared _ at node (entry_return (returns {count} first stands)) =
      (taken at (Ret count) node stands).allowed.returns count refl first
  no-construct prepared _ at node (entry_return (calls stands)) =
      (taken at (Call layout.start_ip) node stands).allowed.calls refl
  no-construct prepared _ at node (division u) = prepared at node u
