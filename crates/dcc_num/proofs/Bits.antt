-- AND, OR and XOR go bit by bit.
use Rattle.std.proofs.Common.{arith, ◌≡◌, ◌∙◌, ap, refl, ℕ, ◌+◌, ◌%◌, ◌<◌, ◌≤◌, min, max, Bool, nat_eq, bit_and, bit_or, bit_xor}
use Rattle.std.specs.Prelude.{◌&&◌, ◌||◌}
use Rattle.std.specs.Int.{bit_at}
use Rattle.std.proofs.lemmas.Nat.{or_of_8, or_of_16, xor_of_8, xor_of_16, and_le_l}
use Rattle.std.proofs.lemmas.Nat.Bits.{bit_at-lt, bit_at_and, bit_at_or, bit_at_xor}
use Rattle.std.proofs.lemmas.Bool.Decides.{nat_tests}
use Rattle.dcc_num.specs.declared.Width.{Width}
use Rattle.dcc_num.specs.declared.Width.TheVariants.{Byte, Word}
use Rattle.dcc_num.specs.Numbers.{limit_of, differ, result_flags}
use Rattle.dcc_num.specs.Logic.{conjunction_of, disjunction_of, exclusive_of}
use Rattle.dcc_num.specs.Laws.{IsBitByBit, both, either}
use Rattle.dcc_num.proofs.Differences.{tells_result}

and_bit : (x y : ℕ) → x < 2 → y < 2 → nat_eq (min x y) 1 ≡ (nat_eq x 1 && nat_eq y 1)
and_bit x y p q = grind (arith, nat_tests)

or_bit : (x y : ℕ) → x < 2 → y < 2 → nat_eq (max x y) 1 ≡ (nat_eq x 1 || nat_eq y 1)
or_bit x y p q = grind (arith, nat_tests)

xor_bit : (x y : ℕ) → x < 2 → y < 2 → nat_eq ((x + y) % 2) 1 ≡ differ (nat_eq x 1) (nat_eq y 1)
xor_bit x y p q = grind (arith, nat_tests)

pub ands : IsBitByBit both conjunction_of
unfolding conjunction_of result_flags
ands w a b first second = record {
  bits = λ k. ap (λ n. nat_eq n 1) (bit_at_and a b k) ∙ and_bit (bit_at a k) (bit_at b k) (bit_at-lt a k) (bit_at-lt b k);
  carry = refl;
  overflow = refl;
  result = tells_result w (bit_and a b) _ _ (small w first second);
}
  where
    small : (w : Width) → a < limit_of w → b < limit_of w → bit_and a b < limit_of w
    small Byte p q = let h : bit_and a b ≤ a = and_le_l a b in omega arith
    small Word p q = let h : bit_and a b ≤ a = and_le_l a b in omega arith

pub ors : IsBitByBit either disjunction_of
unfolding disjunction_of result_flags
ors w a b first second = record {
  bits = λ k. ap (λ n. nat_eq n 1) (bit_at_or a b k) ∙ or_bit (bit_at a k) (bit_at b k) (bit_at-lt a k) (bit_at-lt b k);
  carry = refl;
  overflow = refl;
  result = tells_result w (bit_or a b) _ _ (small w first second);
}
  where
    small : (w : Width) → a < limit_of w → b < limit_of w → bit_or a b < limit_of w
    small Byte p q = or_of_8 a b p q
    small Word p q = or_of_16 a b p q

pub xors : IsBitByBit differ exclusive_of
unfolding exclusive_of result_flags
xors w a b first second = record {
  bits = λ k. ap (λ n. nat_eq n 1) (bit_at_xor a b k) ∙ xor_bit (bit_at a k) (bit_at b k) (bit_at-lt a k) (bit_at-lt b k);
  carry = refl;
  overflow = refl;
  result = tells_result w (bit_xor a b) _ _ (small w first second);
}
  where
    small : (w : Width) → a < limit_of w → b < limit_of w → bit_xor a b < limit_of w
    small Byte p q = xor_of_8 a b p q
    small Word p q = xor_of_16 a b p q
