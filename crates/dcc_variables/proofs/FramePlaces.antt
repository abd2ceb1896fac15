-- From what addresses of a function's frame are told: from the first argument in memory, or from the array.
use Rattle.std.proofs.Common.{◌≡◌, ℕ, ◌+◌, ◌-◌, ◌*◌, ◌<◌, ◌≤◌, Bool, true, false, ◌==◌, inl, inr, List, [], ◌∷◌, length, Option, Some, None, is_some, refl, sym, ap, ◌∙◌, true≢false, leb-true, ltb-true, arith}
use Rattle.std.specs.Prelude.{◌⊎◌, ◌&&◌, ◌||◌, not, nat_le, nat_lt, if◌then◌else◌, option_map, flat_map, All}
use Rattle.std.specs.List.{list_any}
use Rattle.std.proofs.lemmas.Bool.{and_parts, or_parts, or_cases, or_left, or_right, not-true}
use Rattle.std.proofs.lemmas.List.Elements.{All-nil, All-cons}
use Rattle.dcc_ir.specs.declared.syntax.Put.{Put}
use Rattle.dcc_ir.specs.declared.syntax.Put.TheVariants.{Memory, One, Two}
use Rattle.dcc_ir.specs.declared.syntax.Param.{Param}
use Rattle.dcc_ir.specs.Tree.{Expr, Const, Get, Load, Unary, Binary, Widen, Part, Join, Choose, Address, Stmt, Block, Graph}
use Rattle.dcc_ir.specs.Use.{parts_of, addressed_by, addresses_of, exprs_of, exit_exprs}
use Rattle.dcc_ir.specs.WellFormed.{is_memory}
use Rattle.dcc_ir.proofs.PathLaws.{decided}
use Rattle.dcc_text.specs.Spelling.{Placed}
use Rattle.dcc_variables.specs.Variables.{is_told_from, is_address, has_address, stmt_has_address, block_has_address, takes_address, frame_bytes, frame_place, placed_at}
use Rattle.dcc_variables.specs.Functions.{memory_from, argument_place, place_by}

some-equal : {A : Type 0} {a b : A} → Some a ≡ Some b → a ≡ b
some-equal e = cc

-- The place of an address.

pub told-placed : (told : Option ℕ) (bytes distance : ℕ) → is_told_from told distance ≡ true
    → is_some (place_by told bytes distance) ≡ true
told-placed None bytes distance is = absurd (true≢false (sym is))
told-placed (Some place) bytes distance is =
    ap (λ b. is_some {T = Placed} (if b then Some (argument_place place distance) else placed_at bytes distance)) is

pub array-placed : (told : Option ℕ) (bytes distance : ℕ) → (bytes == 0) ≡ false
    → is_some (place_by told bytes distance) ≡ true
array-placed None bytes distance is =
    ap (λ b. is_some {T = Placed} (if b then None else Some (frame_place bytes distance))) is
array-placed (Some place) bytes distance is = by (is_told_from (Some place) distance)
  where
    by : (b : Bool) → is_some {T = Placed} (if b then Some (argument_place place distance) else placed_at bytes distance) ≡ true
    by true = refl
    by false = ap (λ b. is_some {T = Placed} (if b then None else Some (frame_place bytes distance))) is

pub place-then : (told : Option ℕ) (bytes distance : ℕ) → is_told_from told distance ≡ true
    → option_map (λ place. argument_place place distance) told ≡ place_by told bytes distance
place-then None bytes distance is = absurd (true≢false (sym is))
place-then (Some place) bytes distance is =
    sym (ap (λ b. if b then Some (argument_place place distance) else placed_at bytes distance) is)

pub place-else : (told : Option ℕ) (bytes distance : ℕ) → is_told_from told distance ≡ false
    → placed_at bytes distance ≡ place_by told bytes distance
place-else None bytes distance is = refl
place-else (Some place) bytes distance is =
    sym (ap (λ b. if b then Some (argument_place place distance) else placed_at bytes distance) is)

-- an address is told from the parameter, or else from the array, which has bytes
pub data IsToldBy (told : Option ℕ) (bytes distance : ℕ) (p : Placed) : Type 0 where
  by_parameter : (place : ℕ) → told ≡ Some place → 2 * place ≤ distance → distance < 32768
      → p ≡ argument_place place distance → IsToldBy told bytes distance p
  by_array : (bytes == 0) ≡ false → p ≡ frame_place bytes distance → IsToldBy told bytes distance p

from-array : (told : Option ℕ) (bytes distance : ℕ) (p : Placed) → placed_at bytes distance ≡ Some p
    → IsToldBy told bytes distance p
from-array told bytes distance p is = elim (decided (bytes == 0)) [
  | inl none ↦
      (let e : None ≡ Some p = sym (ap (λ b. if b then None else Some (frame_place bytes distance)) none) ∙ is in absurd cc)
  | inr some ↦
      by_array some
      (sym (some-equal (sym (ap (λ b. if b then None else Some (frame_place bytes distance)) some) ∙ is)))
]

pub place-told : (told : Option ℕ) (bytes distance : ℕ) (p : Placed) → place_by told bytes distance ≡ Some p
    → IsToldBy told bytes distance p
place-told None bytes distance p is = from-array None bytes distance p is
place-told (Some place) bytes distance p is = elim (decided (is_told_from (Some place) distance)) [
  | inl here ↦
      (let parts = and_parts (nat_le (2 * place) distance) (nat_lt distance 32768) here in
      by_parameter place refl (leb-true (2 * place) distance parts.0) (ltb-true distance 32768 parts.1)
      (sym (some-equal (sym (choice true here) ∙ is))))
  | inr other ↦ from-array (Some place) bytes distance p (sym (choice false other) ∙ is)
]
  where
    choice : (b : Bool) → is_told_from (Some place) distance ≡ b → place_by (Some place) bytes distance
        ≡ (if b then Some (argument_place place distance) else placed_at bytes distance)
    choice b here = ap (λ c. if c then Some (argument_place place distance) else placed_at bytes distance) here

-- Graphs.

-- Where no address among these is told from no parameter, each is told from it.
pub all-told : (told : Option ℕ) (es : List Expr) → list_any (is_address told) es ≡ false
    → All (λ distance. is_told_from told distance ≡ true) (flat_map addressed_by es)
all-told told [] is = All-nil (λ distance. is_told_from told distance ≡ true)
all-told told (Const width n ∷ es) is = all-told told es is
all-told told (Get l ∷ es) is = all-told told es is
all-told told (Load width a ∷ es) is = all-told told es is
all-told told (Unary operator width a ∷ es) is = all-told told es is
all-told told (Binary operator width a b ∷ es) is = all-told told es is
all-told told (Widen signed width a ∷ es) is = all-told told es is
all-told told (Part width first a ∷ es) is = all-told told es is
all-told told (Join high low ∷ es) is = all-told told es is
all-told told (Choose test a b ∷ es) is = all-told told es is
all-told told (Address distance ∷ es) is =
    let parts = or_parts (not (is_told_from told distance)) (list_any (is_address told) es) is in
    All-cons (λ d. is_told_from told d ≡ true) distance (flat_map addressed_by es)
    (by (is_told_from told distance) parts.0) (all-told told es parts.1)
  where
    by : (b : Bool) → not b ≡ false → b ≡ true
    by true is = refl
    by false is = absurd (true≢false is)

-- a graph that takes an address told from no parameter has an array
pub frame-some : (told : Option ℕ) (g : Graph) → takes_address told g ≡ true → (frame_bytes told g == 0) ≡ false
frame-some told g takes = by (g.local == 0) refl
  where
    by : (none : Bool) → (g.local == 0) ≡ none → ((if none then (if takes_address told g then 1 else 0) else g.local) == 0) ≡ false
    by true is = ap (λ b. (if b then 1 else 0) == 0) takes
    by false is = is

any-wider : {X : Type 0} (p q : X → Bool) → ((x : X) → p x ≡ true → q x ≡ true) → (xs : List X) → list_any p xs ≡ true
    → list_any q xs ≡ true
any-wider p q to [] is = is
any-wider p q to (x ∷ xs) is = elim (or_cases (p x) (list_any p xs) is) [
  | inl here ↦ or_left (q x) (list_any q xs) (to x here)
  | inr later ↦ or_right (q x) (list_any q xs) (any-wider p q to xs later)
]

-- a graph that takes an address told from no parameter takes one where all addresses are told from the array
takes-wider : (told : Option ℕ) (g : Graph) → takes_address told g ≡ true → takes_address None g ≡ true
takes-wider told g = any-wider (block_has_address told) (block_has_address None) block g.blocks
  where
    address : (e : Expr) → is_address told e ≡ true → is_address None e ≡ true
    address (Const width n) is = is
    address (Get l) is = is
    address (Load width a) is = is
    address (Unary operator width a) is = is
    address (Binary operator width a b) is = is
    address (Widen signed width a) is = is
    address (Part width first a) is = is
    address (Join high low) is = is
    address (Choose test a b) is = is
    address (Address distance) is = refl

    expr : (e : Expr) → has_address told e ≡ true → has_address None e ≡ true
    expr e = any-wider (is_address told) (is_address None) address (parts_of e)

    stmt : (s : Stmt) → stmt_has_address told s ≡ true → stmt_has_address None s ≡ true
    stmt s = any-wider (has_address told) (has_address None) expr (exprs_of s)

    block : (b : Block) → block_has_address told b ≡ true → block_has_address None b ≡ true
    block b is = elim (or_cases (list_any (stmt_has_address told) b.stmts) (list_any (has_address told) (exit_exprs b.exit)) is) [
      | inl here ↦ or_left (list_any (stmt_has_address None) b.stmts) _ (any-wider (stmt_has_address told) (stmt_has_address None) stmt b.stmts here)
      | inr there ↦ or_right (list_any (stmt_has_address None) b.stmts) _ (any-wider (has_address told) (has_address None) expr (exit_exprs b.exit) there)
    ]

-- the array has no byte then, or as many as where all addresses are told from it
pub fewer-bytes : (told : Option ℕ) (g : Graph) → (frame_bytes told g ≡ 0) ⊎ (frame_bytes told g ≡ frame_bytes None g)
fewer-bytes told g = by (g.local == 0) (takes_address told g) (takes_address None g) (takes-wider told g)
  where
    by : (none some all : Bool) → (some ≡ true → all ≡ true)
        → ((if none then (if some then 1 else 0) else g.local) ≡ 0)
        ⊎ ((if none then (if some then 1 else 0) else g.local) ≡ (if none then (if all then 1 else 0) else g.local))
    by false some all to = inr refl
    by true false all to = inl refl
    by true true all to = inr (ap (λ b. if b then 1 else 0) (sym (to refl)))

-- Params.

-- the place of the first argument in memory lies among the places of the list
pub memory-within : (params : List Param) (j k : ℕ) → memory_from j params ≡ Some k → (j ≤ k) × (k < j + length params)
memory-within [] j k is = absurd cc
memory-within (p ∷ params) j k is = elim (decided (p.stack && is_memory p.put)) [
  | inl here ↦
      (let e : j ≡ k = some-equal (sym (ap (λ b. if b then Some j else memory_from (j + 1) params) here) ∙ is) in
      (omega (arith, e), omega (arith, e)))
  | inr later ↦
      (let within = memory-within params (j + 1) k (sym (ap (λ b. if b then Some j else memory_from (j + 1) params) later) ∙ is) in
      (omega (arith, within.0), omega (arith, within.1)))
]

pub memory-is : (put : Put) → is_memory put ≡ true → put ≡ Memory
memory-is Memory is = refl
memory-is (One location) is = absurd (true≢false (sym is))
memory-is (Two low high) is = absurd (true≢false (sym is))
