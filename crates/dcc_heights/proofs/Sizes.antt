-- What RETs remove.
use Rattle.std.proofs.Common.{◌≡◌, ◌≢◌, ◌⊎◌, inl, inr, ℕ, Bool, true, false, cond, nat_eq, List, [], ◌∷◌, ◌++◌, Option, Some, None, is_some, unwrap_or, Contains, refl, sym, ap, ◌∙◌, subst, arith}
use Rattle.std.specs.Map.{lookup}
use Rattle.std.proofs.lemmas.Bool.{eq-eqb}
use Rattle.std.proofs.lemmas.List.Elements.{Contains-append_left, Contains-append_right, Contains-push, Contains-push_cases}
use Rattle.std.proofs.lemmas.Map.Views.{exact_unsigned_eq}
use Rattle.std.proofs.lemmas.Slice.Zip.{all_zipped_more}
use Rattle.dcc_prog.specs.declared.procedure.Node.{Node}
use Rattle.dcc_prog.specs.declared.procedure.Proc.{Proc}
use Rattle.dcc_machine.specs.declared.instr.Op.{Op}
use Rattle.dcc_machine.specs.declared.instr.Op.TheVariants.{Ret}
use Rattle.dcc_prog.specs.declared.refusal.ConstructKind.TheVariants.{StackHeight}
use Rattle.dcc_prog.specs.declared.refusal.Refusal.TheVariants.{Construct}
use Rattle.dcc_heights.specs.Removed.{HasRet, IsSize, IsSizeSoFar, HasTwoSizes, two_sizes, AreByEntry, AreSizes}

-- One procedure.

abbrev ret_bytes : Op → ℕ
ret_bytes (Ret bytes) = bytes
ret_bytes op = 0

ret-left : (xs ys : List (ℕ × Node)) (at bytes : ℕ) → HasRet xs at bytes → HasRet (xs ++ ys) at bytes
ret-left xs ys at bytes has = record {
  node = has.node;
  among = Contains-append_left xs ys (at, has.node) has.among;
  is_ret = has.is_ret;
}

module _ (nodes : List (ℕ × Node)) (at : ℕ) (node : Node) where
  -- a RET among one more node is an earlier one, or this node
  ret-pushed :
      (from bytes : ℕ) → HasRet (nodes ++ (at, node) ∷ []) from bytes
      → HasRet nodes from bytes ⊎ (node.instr.op ≡ Ret bytes)
  ret-pushed from bytes has =
      elim (Contains-push_cases nodes (at, node) (from, has.node) has.among) [
        | inl earlier ↦ inl (record { node = has.node; among = earlier; is_ret = has.is_ret })
        | inr same ↦ inr (ap (λ (found : ℕ × Node). found.1.instr.op) same ∙ has.is_ret)
      ]

  new-ret : (bytes : ℕ) → node.instr.op ≡ Ret bytes → HasRet (nodes ++ (at, node) ∷ []) at bytes
  new-ret bytes is = record { node = node; among = Contains-push nodes (at, node); is_ret = is }

  -- another instruction changes nothing
  pub so-far-other :
      (size : Option ℕ) → ((bytes : ℕ) → node.instr.op ≢ Ret bytes) → IsSizeSoFar nodes size
      → IsSizeSoFar (nodes ++ (at, node) ∷ []) size
  so-far-other None no_ret so_far = λ from bytes has. elim (ret-pushed from bytes has) [
    | inl earlier ↦ so_far from bytes earlier
    | inr here ↦ no_ret bytes here
  ]
  so-far-other (Some size) no_ret so_far = (
    λ from bytes has. elim (ret-pushed from bytes has) [
      | inl earlier ↦ so_far.0 from bytes earlier
      | inr here ↦ absurd (no_ret bytes here)
    ],
    (so_far.1.0, ret-left nodes ((at, node) ∷ []) so_far.1.0 size so_far.1.1),
  )

  -- the first RET, or one of the size so far
  pub so-far-ret :
      (size : Option ℕ) (bytes : ℕ) → node.instr.op ≡ Ret bytes → ((known : ℕ) → size ≡ Some known → known ≡ bytes)
      → IsSizeSoFar nodes size
      → IsSizeSoFar (nodes ++ (at, node) ∷ []) (Some bytes)
  so-far-ret size bytes is same so_far = (
    λ from other has. elim (ret-pushed from other has) [
      | inl earlier ↦ by size same so_far from other earlier
      | inr here ↦ ap ret_bytes (sym here ∙ is)
    ],
    (at, new-ret bytes is),
  )
    where
      by :
          (size : Option ℕ) → ((known : ℕ) → size ≡ Some known → known ≡ bytes) → IsSizeSoFar nodes size
          → (from other : ℕ) → HasRet nodes from other
          → other ≡ bytes
      by None same so_far from other has = absurd (so_far from other has)
      by (Some known) same so_far from other has = so_far.0 from other has ∙ same known refl

  -- a RET of another size than so far
  pub size-fault :
      (all rest : List (ℕ × Node)) (known bytes : ℕ) → all ≡ nodes ++ (at, node) ∷ rest → node.instr.op ≡ Ret bytes
      → known ≢ bytes → IsSizeSoFar nodes (Some known)
      → HasTwoSizes all (Construct StackHeight at)
  size-fault all rest known bytes is is_ret apart so_far =
      let earlier = so_far.1 in
      let here : HasRet (nodes ++ (at, node) ∷ rest) at bytes = record {
        node = node;
        among = Contains-append_right nodes ((at, node) ∷ rest) (at, node) (0, omega arith, refl);
        is_ret = is_ret;
      } in
      subst (λ (l : List (ℕ × Node)). HasTwoSizes l (Construct StackHeight at)) (sym is)
      (two_sizes here (ret-left nodes ((at, node) ∷ rest) earlier.0 known earlier.1) (λ same. apart (sym same)))

pub same-size : (a b : ℕ) → Some a ≡ Some b → a ≡ b
same-size a b e = cc

pub no-size : {b : ℕ} (a : ℕ) → Some a ≡ None → a ≡ b
no-size a e = cc

-- all nodes
pub size-all : (nodes : List (ℕ × Node)) (size : Option ℕ) → IsSizeSoFar nodes size → IsSize nodes (unwrap_or size 0)
size-all nodes None none = record {
  same = λ at other has. absurd (none at other has);
  some = inr (none, refl);
}
size-all nodes (Some bytes) some = record { same = some.0; some = inl some.1 }

-- All procedures.

module _ (procs : List Proc) (in_order : List ℕ) (old new : List (ℕ × ℕ)) (proc : Proc) (size : ℕ)
    (updates : (key : ℕ) → lookup (nat_eq key) new ≡ cond (nat_eq proc.entry key) (Some size)
    (lookup (nat_eq key) old)) where
  of-entry :
      (are : AreByEntry procs old) (is : IsSize proc.nodes.entries size) (b : Bool) (entry bytes : ℕ)
      → nat_eq proc.entry entry ≡ b → cond b (Some size) (lookup (nat_eq entry) old) ≡ Some bytes
      → (p : Proc) × Contains (procs ++ proc ∷ []) p × (p.entry ≡ entry) × IsSize p.nodes.entries bytes
  of-entry are is true entry bytes e found =
      let same : size ≡ bytes = cc in
      (proc, Contains-push procs proc, exact_unsigned_eq proc.entry entry e, subst (IsSize proc.nodes.entries) same is)
  of-entry are is false entry bytes e found =
      let p = are.of_proc entry bytes found in (p.0, Contains-append_left procs (proc ∷ []) p.0 p.1, p.2, p.3)

  is-listed : (b : Bool) (found : Option ℕ) → is_some found ≡ true → is_some (cond b (Some size) found) ≡ true
  is-listed true found is = refl
  is-listed false found is = is

  by-entry-more : AreByEntry procs old → IsSize proc.nodes.entries size → AreByEntry (procs ++ proc ∷ []) new
  by-entry-more are is = record {
    of_proc = λ entry bytes found.
        of-entry are is (nat_eq proc.entry entry) entry bytes refl (sym (updates entry) ∙ found);
    every = λ p among. elim (Contains-push_cases procs proc p among) [
      | inl earlier ↦
          ap is_some (updates p.entry)
          ∙ is-listed (nat_eq proc.entry p.entry) (lookup (nat_eq p.entry) old) (are.every p earlier)
      | inr same ↦
          ap is_some (updates p.entry)
          ∙ ap (λ b. is_some (cond b (Some size) (lookup (nat_eq p.entry) old)))
          (eq-eqb proc.entry p.entry (ap (λ (q : Proc). q.entry) same))
    ];
  }

  pub sizes-more :
      AreSizes procs in_order old → IsSize proc.nodes.entries size
      → AreSizes (procs ++ proc ∷ []) (in_order ++ size ∷ []) new
  sizes-more are is = record {
    each = all_zipped_more (λ (p : Proc) (bytes : ℕ). IsSize p.nodes.entries bytes) procs in_order proc size are.each
        is;
    are_by_entry = by-entry-more are.are_by_entry is;
  }
