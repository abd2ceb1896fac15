-- What CALLs remove in a program whose procedures are found.
use Rattle.std.proofs.Common.{◌≡◌, inl, inr, ℕ, nat_eq, true, true≢false, List, slice_get, Contains, Option, Some, None, is_some, unwrap_or, refl, sym, ap, ◌∙◌, subst}
use Rattle.std.specs.Map.{lookup}
use Rattle.std.proofs.lemmas.Option.{slice_get_within, get_or_from_slice_get}
use Rattle.std.proofs.lemmas.List.Elements.{All-contains}
use Rattle.dcc_machine.specs.declared.image.Image.{Image}
use Rattle.dcc_prog.specs.declared.procedure.Layout.{Layout}
use Rattle.dcc_prog.specs.declared.procedure.Proc.{Proc}
use Rattle.dcc_machine.specs.declared.instr.Instr.{Instr}
use Rattle.dcc_machine.specs.declared.instr.Op.{Op}
use Rattle.dcc_machine.specs.declared.instr.Op.TheVariants.{Ret}
use Rattle.dcc_prog.specs.Trail.{instruction_in, StandsAt, IsNode, IsEntry}
use Rattle.dcc_prog.specs.Height.{ReachesRet, IsRemoved, by_ret, without_ret}
use Rattle.dcc_prog.specs.Found.{IsNodeFound, IsFound, AreFound}
use Rattle.dcc_heights.specs.Moves.{removed_in}
use Rattle.dcc_heights.specs.Removed.{HasRet, IsSize, AreByEntry}

pub contains-listed :
    {A : Type 0} (xs : List A) (place : ℕ) (x : A) → slice_get xs place ≡ Some x → Contains xs x
contains-listed xs place x is = (place, slice_get_within xs place x is, get_or_from_slice_get xs place x x is)

-- one instruction stands at an offset
pub one-op :
    (image : Image) (layout : Layout) (at : ℕ) (instr : Instr) (op : Op) → instruction_in image layout at ≡ Some instr
    → StandsAt image layout at op
    → instr.op ≡ op
one-op image layout at instr op is stands =
    let both = sym is ∙ stands.1 in
    let same : instr ≡ stands.0 = cc in
    ap (λ (i : Instr). i.op) same ∙ stands.2

module _ (image : Image) (layout : Layout) (proc : Proc) (found : IsFound image layout proc) where
  -- the RETs among the nodes are those that are reached
  ret-found :
      (at bytes : ℕ) (has : HasRet proc.nodes.entries at bytes) → IsNodeFound image layout proc.entry (at, has.node)
  ret-found at bytes has =
      All-contains (IsNodeFound image layout proc.entry) proc.nodes.entries (at, has.node) found.nodes has.among

  pub ret-node : (at bytes : ℕ) → HasRet proc.nodes.entries at bytes → IsNode image layout proc.entry at
  ret-node at bytes has = (ret-found at bytes has).node

  pub ret-stands : (at bytes : ℕ) → HasRet proc.nodes.entries at bytes → StandsAt image layout at (Ret bytes)
  ret-stands at bytes has = (has.node.instr, (ret-found at bytes has).instr, has.is_ret)

  pub ret-reached : (at bytes : ℕ) → HasRet proc.nodes.entries at bytes → ReachesRet image layout proc.entry bytes
  ret-reached at bytes has = record { at = at; node = ret-node at bytes has; stands = ret-stands at bytes has }

  pub reached-ret :
      (at bytes : ℕ) → IsNode image layout proc.entry at → StandsAt image layout at (Ret bytes)
      → HasRet proc.nodes.entries at bytes
  reached-ret at bytes node stands =
      let there = found.every at node in
      let among = contains-listed proc.nodes.entries there.place (at, there.node) there.listed in
      let is = All-contains (IsNodeFound image layout proc.entry) proc.nodes.entries (at, there.node) found.nodes
      among in
      record {
        node = there.node;
        among = among;
        is_ret = one-op image layout at there.node.instr (Ret bytes) is.instr stands;
      }

  -- so many bytes are removed
  pub size-removed : (bytes : ℕ) → IsSize proc.nodes.entries bytes → IsRemoved image layout proc.entry bytes
  size-removed bytes size = elim size.some [
    | inl ret ↦ by_ret (ret-reached ret.0 bytes ret.1)
    | inr none ↦
        subst (IsRemoved image layout proc.entry) (sym none.1)
        (without_ret (λ count reaches. none.0 reaches.at count
        (reached-ret reaches.at count reaches.node reaches.stands)))
  ]

  -- no other number of bytes is removed than the one that is found
  pub size-only :
      (bytes count : ℕ) → IsSize proc.nodes.entries bytes → IsRemoved image layout proc.entry count → count ≡ bytes
  size-only bytes count size (by_ret reaches) =
      size.same reaches.at count (reached-ret reaches.at count reaches.node reaches.stands)
  size-only bytes _ size (without_ret none) = elim size.some [
    | inl ret ↦ absurd (none bytes (ret-reached ret.0 bytes ret.1))
    | inr is ↦ sym is.1
  ]

module _ (image : Image) (layout : Layout) (procs : List Proc) (found : AreFound image layout procs)
    (removed : List (ℕ × ℕ)) (by_entry : AreByEntry procs removed) where
  record Tells (entry : ℕ) : Type 0 where
    proc : Proc
    is_found : IsFound image layout proc
    entry_is : proc.entry ≡ entry
    size : IsSize proc.nodes.entries (removed_in removed entry)

  by-number :
      (entry : ℕ) (number : Option ℕ) → lookup (nat_eq entry) removed ≡ number → is_some number ≡ true
      → (proc : Proc) × Contains procs proc × (proc.entry ≡ entry)
      × IsSize proc.nodes.entries (unwrap_or number 0)
  by-number entry None is some = absurd (true≢false (sym some))
  by-number entry (Some bytes) is some = by_entry.of_proc entry bytes is

  tells : (entry : ℕ) → IsEntry image layout entry → Tells entry
  tells entry is_entry =
      let there = found.every entry is_entry in
      let listed = contains-listed procs there.place there.proc there.listed in
      let some =
      subst (λ e. is_some (lookup (nat_eq e) removed) ≡ true) there.entry_is (by_entry.every there.proc listed) in
      let told = by-number entry (lookup (nat_eq entry) removed) refl some in
      record {
        proc = told.0;
        is_found = All-contains (IsFound image layout) procs told.0 found.found told.1;
        entry_is = told.2;
        size = told.3;
      }

  -- a CALL of a procedure removes what the table says
  pub call-removes : (entry : ℕ) → IsEntry image layout entry → IsRemoved image layout entry (removed_in removed entry)
  call-removes entry is_entry =
      let t = tells entry is_entry in
      subst (λ e. IsRemoved image layout e (removed_in removed entry)) t.entry_is
      (size-removed image layout t.proc t.is_found (removed_in removed entry) t.size)

  pub call-removes-only :
      (entry count : ℕ) → IsEntry image layout entry → IsRemoved image layout entry count
      → count ≡ removed_in removed entry
  call-removes-only entry count is_entry is =
      let t = tells entry is_entry in
      size-only image layout t.proc t.is_found (removed_in removed entry) count t.size
      (subst (λ e. IsRemoved image layout e count) (sym t.entry_is) is)
