-- The list of what passes a test, one offset after another.
use Rattle.std.proofs.Common.{◌≡◌, ℕ, zero, suc, ◌+◌, Bool, true, false, List, [], ◌∷◌, ◌++◌, map, refl, sym, ap, ◌∙◌, arith}
use Rattle.std.specs.Prelude.{filter, if◌then◌else◌}
use Rattle.std.specs.List.{range_with_len}
use Rattle.std.proofs.lemmas.List.{map-append, append-nil}
use Rattle.std.proofs.lemmas.List.Concat.{flat_map-append}
use Rattle.std.specs.Option.{option_to_list}
use Rattle.dcc_prog.specs.declared.procedure.Node.{Node}
use Rattle.dcc_prog.specs.Frame.{memory_operand}
use Rattle.dcc_globals.specs.Gaps.{extent}
use Rattle.dcc_globals.specs.Globals.{scalar, array, is_scalar, bytes_at, global_of_size, global_at}
use Rattle.dcc_globals.specs.Pieces.{Data, operands_in}
use Rattle.std.proofs.lemmas.List.Elements.{filter-append}

range-more : (at n : ℕ) → range_with_len at (suc n) ≡ range_with_len at n ++ (at + n) ∷ []
range-more at zero = ap (λ x. x ∷ []) (omega arith)
range-more at (suc n) =
    ap (λ xs. at ∷ xs) (range-more (at + 1) n ∙ ap (λ x. range_with_len (at + 1) n ++ x ∷ []) (omega arith))

module _ {X : Type 0} (f : ℕ → X) (p : ℕ → Bool) where
  abbrev pub listed : ℕ → List X
  listed n = map f (filter p (range_with_len 0 n))

  pub listed-more : (n : ℕ) → listed (n + 1) ≡ listed n ++ (if p n then f n ∷ [] else [])
  listed-more n =
      ap listed (let e : n + 1 ≡ suc n = omega arith in e)
      ∙ ap (λ xs. map f (filter p xs)) (range-more 0 n ∙ ap (λ x. range_with_len 0 n ++ x ∷ []) (omega arith))
      ∙ ap (map f) (filter-append p (range_with_len 0 n) (n ∷ []))
      ∙ map-append f (filter p (range_with_len 0 n)) (filter p (n ∷ []))
      ∙ ap (λ xs. listed n ++ xs) (by (p n))
    where
      by : (t : Bool) → map f (if t then n ∷ [] else []) ≡ (if t then f n ∷ [] else [])
      by true = refl
      by false = refl

-- The memory operands of procedures, one instruction after another.

pub operands-pushed : {B : Type 0} (read : B → ℕ × Node) (ys : List B) (x : B)
    → operands_in (map read (ys ++ x ∷ [])) ≡ operands_in (map read ys) ++ option_to_list (memory_operand (read x).1.instr.op)
operands-pushed read ys x =
    ap operands_in (map-append read ys (x ∷ []))
    ∙ flat_map-append (λ (found : ℕ × Node). option_to_list (memory_operand found.1.instr.op)) (map read ys) (read x ∷ [])
    ∙ ap (λ l. operands_in (map read ys) ++ l) (append-nil (option_to_list (memory_operand (read x).1.instr.op)))

-- The variable of a size at an offset.

pub scalar-is : (d : Data) (at size : ℕ) (bytes : List ℕ) → size ≡ extent d at → bytes ≡ bytes_at d at size → is_scalar d at size ≡ true
    → scalar at size bytes ≡ global_at d at
unfolding global_of_size
scalar-is d at size bytes sized are is =
    ap (scalar at size) are
    ∙ sym (ap (λ t. if t then scalar at size (bytes_at d at size) else array at size (bytes_at d at size)) is)
    ∙ ap (global_of_size d at) sized

pub array-is : (d : Data) (at size : ℕ) (bytes : List ℕ) → size ≡ extent d at → bytes ≡ bytes_at d at size → is_scalar d at size ≡ false
    → array at size bytes ≡ global_at d at
unfolding global_of_size
array-is d at size bytes sized are is =
    ap (array at size) are
    ∙ sym (ap (λ t. if t then scalar at size (bytes_at d at size) else array at size (bytes_at d at size)) is)
    ∙ ap (global_of_size d at) sized
