-- The nodes of a procedure as they are collected from its offsets, one after another.
use Rattle.std.proofs.Common.{◌≡◌, inl, inr, ℕ, zero, suc, ◌+◌, ◌≤◌, ◌<◌, false, nat_eq, if◌then◌else◌, List, [], ◌∷◌, ◌++◌, length, get_or, slice_get, All, AllPairs, Option, Some, None, refl, sym, ap, ◌∙◌, subst, arith}
use Rattle.std.proofs.lemmas.Bool.{cases_lt, ne_eqb}
use Rattle.std.proofs.lemmas.List.{get_or_default}
use Rattle.std.proofs.lemmas.List.Elements.{All-head, All-push}
use Rattle.std.proofs.lemmas.List.Quantifiers.{all_pairs_push}
use Rattle.indexmap.specs.IndexMap.{insert_entry}
use Rattle.dcc_machine.specs.declared.image.Image.{Image}
use Rattle.dcc_prog.specs.declared.procedure.Layout.{Layout}
use Rattle.dcc_prog.specs.declared.procedure.Node.{Node}
use Rattle.dcc_machine.specs.declared.instr.Op.{Op}
use Rattle.dcc_machine.specs.declared.instr.Op.TheVariants.{Int21}
use Rattle.dcc_prog.specs.Trail.{IsTrail, IsNode}
use Rattle.dcc_prog.specs.Found.{IsNodeFound, IsListed}
use Rattle.dcc_procs.specs.declared.known.Known.{Known}
use Rattle.dcc_procs.specs.Known.{told}
use Rattle.dcc_procs.specs.Search.{Covers, Tells, seen_at, IsAccepted, AreAllSeen, IsListing}
use Rattle.dcc_procs.specs.Nodes.{number_by, HasInstruction, IsNodeBy}
use Rattle.dcc_procs.proofs.Telling.{told-ah}
use Rattle.dcc_procs.proofs.Witnessing.{trail-same, trail-node}

-- One node.

number-int21 : (op : Op) (known : Known) → op ≡ Int21 → number_by op known ≡ known.ah
number-int21 op known is = ap (λ o. number_by o known) is

number-other : (op : Op) (known : Known) → ¬ (op ≡ Int21) → number_by op known ≡ None
number-other Int21 known other = absurd (other refl)
number-other op known other = refl

module _ (image : Image) (layout : Layout) (entry : ℕ) (seen : List (Option Known))
    (all : AreAllSeen image layout entry seen) where
  -- an instruction stands at each offset that is seen
  pub seen-instruction : (at : ℕ) (known : Known) → seen_at seen at ≡ Some known → HasInstruction image layout at
  seen-instruction at known is = let a = all.accepted at known is in (a.0, a.1.found)

  -- the node that is made there is the node of the procedure
  pub node-found :
      (at : ℕ) (known : Known) (node : Node) → seen_at seen at ≡ Some known → IsNodeBy image layout at known node
      → IsNodeFound image layout entry (at, node)
  node-found at known node is by =
      let a = all.accepted at known is in
      let both = sym a.1.found ∙ by.instr in
      let same : a.0 ≡ node.instr = cc in
      let accepted : IsAccepted image layout entry at known node.instr =
      subst (IsAccepted image layout entry at known) same a.1 in
      let covered : (before : List ℕ) → IsTrail image layout entry (at ∷ before) → Covers known (told image layout at before) =
      λ before trail.
      subst (λ s. Tells s (told image layout at before)) is (all.told at before trail) in
      record {
        node = trail-node image layout entry at known (all.witnessed at known is).trail;
        instr = by.instr;
        succ =
            λ before trail. by.succ
            ∙ sym (trail-same image layout entry at known node.instr accepted before (covered before trail));
        number = λ dos before trail.
            let n = accepted.allowed.number dos in
            sym (told-ah image layout at before)
            ∙ (covered before trail).ah n.0 n.1
            ∙ sym n.1
            ∙ sym (number-int21 node.instr.op known dos)
            ∙ sym by.number;
        no_number = λ other. by.number ∙ number-other node.instr.op known other;
      }

-- Lists.

get-left : {A : Type 0} (xs ys : List A) (i : ℕ) (x : A) → slice_get xs i ≡ Some x → slice_get (xs ++ ys) i ≡ Some x
get-left [] ys i x e = let clash = e in cc
get-left (a ∷ xs) ys zero x e = e
get-left (a ∷ xs) ys (suc i) x e = get-left xs ys i x e

get-last : {A : Type 0} (xs : List A) (x : A) → slice_get (xs ++ x ∷ []) (length xs) ≡ Some x
get-last [] x = refl
get-last (a ∷ xs) x = get-last xs x

below-tail :
    (e : ℕ × Node) (es : List (ℕ × Node)) (at : ℕ) → All (λ (found : ℕ × Node). found.0 < at) (e ∷ es)
    → All (λ (found : ℕ × Node). found.0 < at) es
below-tail e es at all k d inside = all (suc k) d (omega arith)

-- a key above all others is put at the end
insert-last :
    (es : List (ℕ × Node)) (at : ℕ) (node : Node) → All (λ (found : ℕ × Node). found.0 < at) es
    → insert_entry nat_eq es at node ≡ es ++ (at, node) ∷ []
insert-last [] at node all = refl
insert-last (e ∷ es) at node all =
    let less = All-head (λ (found : ℕ × Node). found.0 < at) e es all in
    let other : nat_eq at e.0 ≡ false = ne_eqb at e.0 (λ same. absurd (omega arith)) in
    ap (λ b. if b then (e.0, node) ∷ es else e ∷ insert_entry nat_eq es at node) other
    ∙ ap (λ l. e ∷ l) (insert-last es at node (below-tail e es at all))

-- The nodes so far: those at the first offsets.
pub record Collected (image : Image) (layout : Layout) (entry : ℕ) (offsets : List ℕ) (place : ℕ)
    (nodes : List (ℕ × Node)) : Type 0 where
  pub are : All (IsNodeFound image layout entry) nodes
  pub keys : All (λ (found : ℕ × Node). (k : ℕ) × (k < place) × (found.0 ≡ get_or offsets k 0)) nodes
  pub ascending : AllPairs (λ (a b : ℕ × Node). a.0 < b.0) nodes
  pub every : (k : ℕ) → k < place → IsListed nodes (get_or offsets k 0)

pub collected-none :
    (image : Image) (layout : Layout) (entry : ℕ) (offsets : List ℕ) → Collected image layout entry offsets 0 []
collected-none image layout entry offsets = record {
  are = λ k d inside. absurd (omega arith);
  keys = λ k d inside. absurd (omega arith);
  ascending = λ i j d less inside. absurd (omega arith);
  every = λ k inside. absurd (omega arith);
}

module _ (image : Image) (layout : Layout) (entry : ℕ) (offsets : List ℕ)
    (up : AllPairs (λ (a b : ℕ). a < b) offsets) (place : ℕ) (nodes : List (ℕ × Node))
    (before : Collected image layout entry offsets place nodes) where
  module _ (inside : place < length offsets) where
    next : ℕ
    next = get_or offsets place 0

    below-next : All (λ (found : ℕ × Node). found.0 < get_or offsets place 0) nodes
    below-next k d short =
        let key = before.keys k d short in
        let less = up key.0 place 0 key.1 inside in
        let same = key.2 in
        omega (arith, less, same)

    -- one more
    pub collected-more : (node : Node) → IsNodeFound image layout entry (get_or offsets place 0, node)
        → Collected image layout entry offsets (place + 1) (insert_entry nat_eq nodes (get_or offsets place 0) node)
    collected-more node found =
        let at : ℕ = get_or offsets place 0 in
        subst (Collected image layout entry offsets (place + 1)) (sym (insert-last nodes at node below-next)) (record {
          are = All-push (IsNodeFound image layout entry) nodes (at, node) before.are found;
          keys = All-push (λ (e : ℕ × Node). (k : ℕ) × (k < place + 1) × (e.0 ≡ get_or offsets k 0)) nodes (at, node)
              (λ k d short. let key = before.keys k d short in (key.0, (let less = key.1 in omega (arith, less)), key.2))
              (place, omega arith, refl);
          ascending =
              all_pairs_push (λ (a b : ℕ × Node). a.0 < b.0) nodes (at, node) before.ascending
              (λ k d short. below-next k d short);
          every = λ k less. elim (cases_lt k place) [
            | inl earlier ↦ let there = before.every k earlier in record {
              node = there.node;
              place = there.place;
              listed = get-left nodes ((at, node) ∷ []) there.place (get_or offsets k 0, there.node) there.listed;
            }
            | inr later ↦
                let same : place ≡ k = omega (arith, less, later) in
                subst (λ n. IsListed (nodes ++ (at, node) ∷ []) (get_or offsets n 0)) same
                (record { node = node; place = length nodes; listed = get-last nodes (at, node) })
          ];
        })

  -- all offsets have been collected
  pub collected-all :
      (seen : List (Option Known)) → AreAllSeen image layout entry seen → IsListing seen offsets
      → length offsets ≤ place
      → (at : ℕ) → IsNode image layout entry at → IsListed nodes at
  collected-all seen all listing past at node =
      let there =
      (listing at).1
      (λ none. subst (λ s. Tells s (told image layout at node.before)) none (all.told at node.before node.trail))
      in
      let short : there.0 < place = (let inside = there.1 in omega (arith, inside, past)) in
      let same : get_or offsets there.0 0 ≡ at = get_or_default offsets there.0 0 at there.1 ∙ there.2 in
      subst (IsListed nodes) same (before.every there.0 short)
