-- The instructions of a procedure that is found are those of the image.
use Rattle.std.proofs.Common.{◌≡◌, ℕ, zero, suc, Bool, true, false, nat_eq, List, [], ◌∷◌, slice_get, Contains, Option, Some, None, is_some, refl, sym, ap, ◌∙◌, subst, arith, true≢false}
use Rattle.std.specs.Prelude.{◌||◌, ◌&&◌, option_map}
use Rattle.std.specs.Map.{lookup, keys_of}
use Rattle.std.proofs.lemmas.Cmp.{nat_eq_equiv}
use Rattle.std.proofs.lemmas.List.Elements.{All-contains}
use Rattle.std.proofs.lemmas.Map.Views.{Contains-from_lookup, IsSome-lookup_from_Contains, exact_unsigned_eq}
use Rattle.dcc_machine.specs.declared.image.Image.{Image}
use Rattle.dcc_prog.specs.declared.procedure.Layout.{Layout}
use Rattle.dcc_prog.specs.declared.procedure.Node.{Node}
use Rattle.dcc_prog.specs.declared.procedure.Proc.{Proc}
use Rattle.dcc_machine.specs.declared.instr.Instr.{Instr}
use Rattle.dcc_machine.specs.declared.instr.Op.{Op}
use Rattle.dcc_machine.specs.declared.instr.Op.TheVariants.{Push}
use Rattle.dcc_machine.specs.Successors.{next_of, op_successors}
use Rattle.dcc_prog.specs.Trail.{instruction_in, IsNode, instr_successors, targets_of, successors}
use Rattle.dcc_machine.specs.SpAndBp.{is_push_bp, is_enter}
use Rattle.dcc_prog.specs.FrameForm.{is_framed, stands_push_bp, stands_mov_bp_sp, stands_enter, second_of}
use Rattle.dcc_prog.specs.Found.{IsNodeFound, IsFound}

-- the instruction of a node, as a look-up finds it
abbrev pub instruction_by : Option Node → Option Instr
instruction_by found = option_map (λ node. node.instr) found

abbrev key_in : Option (ℕ × Node) → ℕ → ℕ
key_in None at = at
key_in (Some found) at = found.0

key-of :
    (nodes : List (ℕ × Node)) (at : ℕ) (node : Node) (place : ℕ) → slice_get nodes place ≡ Some (at, node)
    → Contains (keys_of nodes) at
key-of [] at node place listed = let clash = listed in cc
key-of (first ∷ nodes) at node zero listed =
    let same : first.0 ≡ at = ap (λ (found : Option (ℕ × Node)). key_in found at) listed in
    (0, omega arith, same)
key-of (first ∷ nodes) at node (suc place) listed =
    let there = key-of nodes at node place listed in (suc there.0, (let less = there.1 in omega (arith, less)), there.2)

module _ (image : Image) (layout : Layout) (proc : Proc) (found : IsFound image layout proc) where
  -- what a look-up finds is a node
  pub found-by :
      (at : ℕ) (node : Node) → lookup (nat_eq at) proc.nodes.entries ≡ Some node
      → IsNodeFound image layout proc.entry (at, node)
  found-by at node is =
      All-contains (IsNodeFound image layout proc.entry) proc.nodes.entries (at, node) found.nodes
      (Contains-from_lookup exact_unsigned_eq at node proc.nodes.entries is)

  -- a look-up finds each node
  pub node-listed :
      (at : ℕ) → IsNode image layout proc.entry at → is_some (lookup (nat_eq at) proc.nodes.entries) ≡ true
  node-listed at node =
      let there = found.every at node in
      IsSome-lookup_from_Contains nat_eq_equiv at proc.nodes.entries
      (key-of proc.nodes.entries at there.node there.place there.listed)

  pub found-instruction :
      (at : ℕ) → IsNode image layout proc.entry at
      → instruction_by (lookup (nat_eq at) proc.nodes.entries) ≡ instruction_in image layout at
  found-instruction at node = by (lookup (nat_eq at) proc.nodes.entries) refl (node-listed at node)
    where
      by :
          (r : Option Node) → lookup (nat_eq at) proc.nodes.entries ≡ r → is_some r ≡ true
          → instruction_by r ≡ instruction_in image layout at
      by None is some = absurd (true≢false (sym some))
      by (Some n) is some = sym (found-by at n is).instr

-- Whether a procedure is framed, by the instructions at its first two offsets.

push-onward :
    (op : Op) (next : ℕ) (ah : Option ℕ) (targets : List ℕ) → is_push_bp op ≡ true
    → op_successors op next ah targets ≡ next ∷ []
push-onward (Push a) next ah targets push = refl
push-onward op next ah targets push = absurd (true≢false (sym push))

push-no_enter : (op : Op) → is_push_bp op ≡ true → is_enter op ≡ false
push-no_enter (Push a) push = refl
push-no_enter op push = absurd (true≢false (sym push))

or-false : (a b : Bool) → b ≡ false → (a || b) ≡ a
or-false true b none = refl
or-false false b none = none

module _ (image : Image) (layout : Layout) (entry : ℕ) (first : Instr)
    (is : instruction_in image layout entry ≡ Some first) where
  -- `push bp` goes on to the next instruction
  second-node : is_push_bp first.op ≡ true → IsNode image layout entry (next_of entry first)
  second-node push =
      let onward : successors image layout (entry ∷ []) ≡ next_of entry first ∷ [] =
      ap (instr_successors image layout entry []) is
      ∙ push-onward first.op (next_of entry first) None (targets_of image layout first.op []) push in
      record {
        before = entry ∷ [];
        trail = (
          subst (λ (l : List ℕ). Contains l (next_of entry first)) (sym onward) (0, omega arith, refl),
          refl,
        );
      }

  framed-by :
      is_framed image layout entry
      ≡ ((is_push_bp first.op && stands_mov_bp_sp (instruction_in image layout (next_of entry first)))
      || is_enter first.op)
  framed-by =
      ap (λ (i : Option Instr). (stands_push_bp i && stands_mov_bp_sp (instruction_in image layout (second_of entry i))) || stands_enter i)
      is

  framed-push :
      is_push_bp first.op ≡ true
      → is_framed image layout entry ≡ stands_mov_bp_sp (instruction_in image layout (next_of entry first))
  framed-push push =
      let second = stands_mov_bp_sp (instruction_in image layout (next_of entry first)) in
      framed-by
      ∙ or-false (is_push_bp first.op && second) (is_enter first.op) (push-no_enter first.op push)
      ∙ ap (λ b. b && second) push

  -- whether the procedure is framed is told by what is found at the second offset
  pub framed-second :
      is_push_bp first.op ≡ true → (next : ℕ) → next ≡ next_of entry first → (second : Option Instr)
      → (IsNode image layout entry next → second ≡ instruction_in image layout next)
      → stands_mov_bp_sp second ≡ is_framed image layout entry
  framed-second push next next_is second found =
      let node = subst (IsNode image layout entry) (sym next_is) (second-node push) in
      ap stands_mov_bp_sp (found node ∙ ap (instruction_in image layout) next_is) ∙ sym (framed-push push)
