-- The calls of a procedure.
use Rattle.std.proofs.Common.{◌≡◌, inl, inr, ℕ, zero, suc, List, [], ◌∷◌, ◌++◌, get_or, slice_get, All, Contains, Some, refl, sym, ap, ◌∙◌, subst, arith, append_assoc, append-nil, map}
use Rattle.std.proofs.lemmas.List.{map-append}
use Rattle.std.proofs.lemmas.Option.{slice_get_within, slice_get-get_or}
use Rattle.std.proofs.lemmas.List.Elements.{Contains-append_left, Contains-append_right, Contains-append_cases, Contains-push, Contains-push_cases}
use Rattle.dcc_machine.specs.declared.image.Image.{Image}
use Rattle.dcc_prog.specs.declared.procedure.Layout.{Layout}
use Rattle.dcc_prog.specs.declared.procedure.Node.{Node}
use Rattle.dcc_prog.specs.declared.procedure.Proc.{Proc}
use Rattle.dcc_machine.specs.declared.instr.Instr.{Instr}
use Rattle.dcc_machine.specs.declared.instr.Op.{Op}
use Rattle.dcc_machine.specs.declared.instr.Op.TheVariants.{Call}
use Rattle.dcc_prog.specs.Trail.{StandsAt, IsNode, IsEntry, called}
use Rattle.dcc_prog.specs.Found.{IsNodeFound, IsFound}
use Rattle.dcc_procs.specs.Entries.{AreAllReached}
use Rattle.dcc_procs.specs.Procedures.{target_of, calls_of}

target-call : (op : Op) (target : ℕ) → Contains (target_of op) target → op ≡ Call target
target-call (Call other) target c = elim (Contains-push_cases [] other target c) [
  | inl none ↦ absurd (let inside = none.1 in omega (arith, inside))
  | inr same ↦ ap (λ t. Call t) same
]
target-call op target c = absurd (let inside = c.1 in omega (arith, inside))

call-target : (op : Op) (target : ℕ) → op ≡ Call target → Contains (target_of op) target
call-target op target e = subst (λ o. Contains (target_of o) target) (sym e) (Contains-push [] target)

-- a call among the nodes
pub calls-of :
    (nodes : List (ℕ × Node)) (place at target : ℕ) (node : Node) → slice_get nodes place ≡ Some (at, node)
    → node.instr.op ≡ Call target → Contains (calls_of nodes) target
calls-of [] place at target node e call = let clash = e in cc
calls-of (first ∷ rest) zero at target node e call =
    let same : first ≡ (at, node) = cc in
    let op : first.1.instr.op ≡ Call target = ap (λ (p : ℕ × Node). p.1.instr.op) same ∙ call in
    Contains-append_left (target_of first.1.instr.op) (calls_of rest) target (call-target first.1.instr.op target op)
calls-of (first ∷ rest) (suc place) at target node e call =
    Contains-append_right (target_of first.1.instr.op) (calls_of rest) target
    (calls-of rest place at target node e call)

pub calls-from :
    (nodes : List (ℕ × Node)) (target : ℕ) → Contains (calls_of nodes) target → (place : ℕ)
    × (found : ℕ × Node) × (slice_get nodes place ≡ Some found) × (found.1.instr.op ≡ Call target)
calls-from [] target c = absurd (let inside = c.1 in omega (arith, inside))
calls-from (first ∷ rest) target c =
    elim (Contains-append_cases (target_of first.1.instr.op) (calls_of rest) target c) [
      | inl here ↦ (0, first, refl, target-call first.1.instr.op target here)
      | inr there ↦ (let r = calls-from rest target there in (suc r.0, r.1, r.2, r.3))
    ]

pub calls-append : (xs ys : List (ℕ × Node)) → calls_of (xs ++ ys) ≡ calls_of xs ++ calls_of ys
calls-append [] ys = refl
calls-append (x ∷ xs) ys =
    ap (λ l. target_of x.1.instr.op ++ l) (calls-append xs ys)
    ∙ sym (append_assoc (target_of x.1.instr.op) (calls_of xs) (calls_of ys))

-- a node that is found, by its place
pub found-at :
    (image : Image) (layout : Layout) (entry : ℕ) (nodes : List (ℕ × Node)) (place : ℕ) (found : ℕ × Node)
    → All (IsNodeFound image layout entry) nodes → slice_get nodes place ≡ Some found
    → IsNodeFound image layout entry found
found-at image layout entry nodes place found all e =
    let inside = slice_get_within nodes place found e in
    let both = sym (slice_get-get_or nodes place found inside) ∙ e in
    let same : get_or nodes place found ≡ found = cc in
    subst (IsNodeFound image layout entry) same (all place found inside)

-- the targets of its calls are entries
pub callees-reached :
    (image : Image) (layout : Layout) (proc : Proc) → IsFound image layout proc → IsEntry image layout proc.entry
    → AreAllReached image layout (calls_of proc.nodes.entries)
callees-reached image layout proc found is_entry target c =
    let r = calls-from proc.nodes.entries target c in
    let f = found-at image layout proc.entry proc.nodes.entries r.0 r.1 found.nodes r.2 in
    called is_entry f.node (r.1.1.instr, f.instr, r.3)

-- the targets of all calls of the procedure are among the listed ones
pub callees-all :
    (image : Image) (layout : Layout) (proc : Proc) → IsFound image layout proc → (at target : ℕ)
    → IsNode image layout proc.entry at → StandsAt image layout at (Call target)
    → Contains (calls_of proc.nodes.entries) target
callees-all image layout proc found at target node stands =
    let l = found.every at node in
    let f = found-at image layout proc.entry proc.nodes.entries l.place (at, l.node) found.nodes l.listed in
    let both = sym f.instr ∙ stands.1 in
    let same : l.node.instr ≡ stands.0 = cc in
    calls-of proc.nodes.entries l.place at target l.node l.listed (ap (λ (i : Instr). i.op) same ∙ stands.2)

-- one more node of a walk
pub calls-pushed :
    {B : Type 0} (read : B → ℕ × Node) (ys : List B) (x : B)
    → calls_of (map read (ys ++ x ∷ [])) ≡ calls_of (map read ys) ++ target_of (read x).1.instr.op
calls-pushed read ys x =
    ap calls_of (map-append read ys (x ∷ []))
    ∙ calls-append (map read ys) (read x ∷ [])
    ∙ ap (λ l. calls_of (map read ys) ++ l) (append-nil (target_of (read x).1.instr.op))

pub no-call : (op : Op) → ((target : ℕ) → op ≡ Call target → ⊥) → target_of op ≡ []
no-call (Call target) none = absurd (none target refl)
no-call op none = refl
