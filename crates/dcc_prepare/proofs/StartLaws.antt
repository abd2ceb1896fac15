-- The memory at the start.
use Rattle.std.proofs.Common.{◌≡◌, ℕ, zero, suc, ◌+◌, ◌%◌, ◌/◌, List, [], ◌∷◌, refl, ap, ◌∙◌, arith}
use Rattle.std.specs.Prelude.{slice_set}
use Rattle.dcc_c.specs.declared.syntax.CType.{CType}
use Rattle.dcc_c.specs.Types.{size_of}
use Rattle.dcc_c.specs.Memory.{store}
use Rattle.dcc_c.specs.Run.{with_values}

-- a number is put at an address modulo 65536
pub store-same : (count : ℕ) (memory : List ℕ) (a b n : ℕ) → a % 65536 ≡ b % 65536 → store count memory a n ≡ store count memory b n
store-same zero memory a b n same = refl
store-same (suc count) memory a b n same =
    ap (λ i. store count (slice_set memory i (n % 256)) (a + 1) (n / 256)) same
    ∙ store-same count (slice_set memory (b % 65536) (n % 256)) (a + 1) (b + 1) (n / 256) (omega arith)

-- values are put from an address on modulo 65536
pub values-same : (type : CType) (a b : ℕ) (values memory : List ℕ) → a % 65536 ≡ b % 65536 → with_values type a values memory ≡ with_values type b values memory
values-same type a b [] memory same = refl
values-same type a b (n ∷ values) memory same =
    ap (with_values type (a + size_of type) values) (store-same (size_of type) memory a b n same)
    ∙ values-same type (a + size_of type) (b + size_of type) values (store (size_of type) memory b n) (omega arith)
