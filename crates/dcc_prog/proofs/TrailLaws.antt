-- Laws of trails.
use Rattle.std.proofs.Common.{◌≡◌, ◌⊎◌, ◌≤◌, inl, inr, ℕ, zero, suc, List, [], ◌∷◌, Option, Some, None, take, Contains, refl, ap, ◌∙◌, sym, arith}
use Rattle.std.specs.Prelude.{if◌then◌else◌}
use Rattle.dcc_num.specs.declared.Reg.{Reg}
use Rattle.dcc_machine.specs.declared.image.Image.{Image}
use Rattle.dcc_prog.specs.declared.procedure.Layout.{Layout}
use Rattle.dcc_machine.specs.declared.instr.Op.{Op}
use Rattle.dcc_machine.specs.declared.instr.Op.TheVariants.{Table}
use Rattle.dcc_machine.specs.declared.instr.Instr.{Instr}
use Rattle.dcc_machine.specs.Successors.{next_of, op_successors}
use Rattle.dcc_prog.specs.Trail.{instruction_in, known_ah, operation_in, moved_from, is_doubling, greatest_in, greatest_doubled, table_number, table_targets, targets_of, instr_successors, successors, IsTrail, IsNode, IsEdge}

-- the number of a table is told by the last five instructions
greatest-window :
    (image : Image) (layout : Layout) (r : Reg) (to : ℕ) (before : List ℕ)
    → greatest_in image layout r to before ≡ greatest_in image layout r to (take 3 before)
greatest-window image layout r to [] = refl
greatest-window image layout r to (a ∷ []) = refl
greatest-window image layout r to (a ∷ b ∷ []) = refl
greatest-window image layout r to (a ∷ b ∷ c ∷ rest) = refl

doubled-window :
    (image : Image) (layout : Layout) (r : Reg) (before : List ℕ)
    → greatest_doubled image layout r before ≡ greatest_doubled image layout r (take 4 before)
doubled-window image layout r [] = refl
doubled-window image layout r (shift ∷ before) =
    ap (λ n. if is_doubling r (operation_in image layout shift) then n else None) (greatest-window image layout r shift before)

take-within : (n m : ℕ) (xs : List ℕ) → n ≤ m → take n (take m xs) ≡ take n xs
take-within zero m xs le = refl
take-within (suc n) zero xs le = absurd (omega (arith, le))
take-within (suc n) (suc m) [] le = refl
take-within (suc n) (suc m) (x ∷ xs) le = ap (λ ys. x ∷ ys) (take-within n m xs (omega (arith, le)))

doubled-five :
    (image : Image) (layout : Layout) (r : Reg) (before : List ℕ)
    → greatest_doubled image layout r before ≡ greatest_doubled image layout r (take 5 before)
doubled-five image layout r before =
    doubled-window image layout r before
    ∙ ap (greatest_doubled image layout r) (sym (take-within 4 5 before (omega arith)))
    ∙ sym (doubled-window image layout r (take 5 before))

number-window :
    (image : Image) (layout : Layout) (q : Reg) (before : List ℕ)
    → table_number image layout q before ≡ table_number image layout q (take 5 before)
number-window image layout q [] = refl
number-window image layout q (last ∷ before) =
    elim (moved_from q (operation_in image layout last)) as (λ moved.
    elim moved [
      | None ↦ greatest_doubled image layout q (last ∷ before)
      | Some r ↦ greatest_doubled image layout r before
    ]
    ≡ elim moved [
      | None ↦ greatest_doubled image layout q (last ∷ take 4 before)
      | Some r ↦ greatest_doubled image layout r (take 4 before)
    ]) [
      | None ↦ doubled-five image layout q (last ∷ before)
      | Some r ↦ doubled-window image layout r before
    ]

targets-same : (image : Image) (layout : Layout) (op : Op) (before others : List ℕ) → take 5 before ≡ take 5 others → targets_of image layout op before ≡ targets_of image layout op others
targets-same image layout (Table r offset) before others window =
    ap (table_targets image offset)
    (number-window image layout r before ∙ ap (table_number image layout r) window ∙ sym (number-window image layout r others))
targets-same image layout op before others window = refl

instr-same :
    (image : Image) (layout : Layout) (at : ℕ) (before others : List ℕ) (found : Option Instr)
    → known_ah image layout before ≡ known_ah image layout others → take 5 before ≡ take 5 others
    → instr_successors image layout at before found ≡ instr_successors image layout at others found
instr-same image layout at before others None ah window = refl
instr-same image layout at before others (Some instr) ah window =
    ap (λ known. op_successors instr.op (next_of at instr) known (targets_of image layout instr.op before)) ah
    ∙ ap (op_successors instr.op (next_of at instr) (known_ah image layout others)) (targets-same image layout instr.op before others window)

-- what is known of AH and the last five instructions decide where a trail goes on
pub successors-same :
    (image : Image) (layout : Layout) (at : ℕ) (before others : List ℕ)
    → known_ah image layout before ≡ known_ah image layout others → take 5 before ≡ take 5 others
    → successors image layout (at ∷ before) ≡ successors image layout (at ∷ others)
successors-same image layout at before others ah window =
    instr-same image layout at before others (instruction_in image layout at) ah window

-- Nodes.

pub node-entry : (image : Image) (layout : Layout) (entry : ℕ) → IsNode image layout entry entry
node-entry image layout entry = record { before = []; trail = refl }

pub node-successor :
    (image : Image) (layout : Layout) (entry at : ℕ) (trail : List ℕ) → IsTrail image layout entry trail
    → Contains (successors image layout trail) at → IsNode image layout entry at
node-successor image layout entry at [] t s = absurd t
node-successor image layout entry at (last ∷ rest) t s = record { before = last ∷ rest; trail = (s, t) }

inner-of :
    (image : Image) (layout : Layout) (entry at : ℕ) (before : List ℕ) → IsTrail image layout entry (at ∷ before)
    → (at ≡ entry) ⊎ ((from : ℕ) × IsNode image layout entry from × IsEdge image layout entry from at)
inner-of image layout entry at [] t = inl t
inner-of image layout entry at (from ∷ rest) t =
    inr (from, record { before = rest; trail = t.1 }, record { before = rest; trail = t })

-- a node is the entry, or an edge leads to it
pub node-inner :
    (image : Image) (layout : Layout) (entry at : ℕ) → IsNode image layout entry at
    → (at ≡ entry) ⊎ ((from : ℕ) × IsNode image layout entry from × IsEdge image layout entry from at)
node-inner image layout entry at node = inner-of image layout entry at node.before node.trail
