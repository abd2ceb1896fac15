-- Operators that see the same of a number whatever sign its type has.
use Rattle.std.proofs.Common.{◌≡◌, ℕ, ◌+◌, ◌-◌, ◌%◌, ◌^◌, ◌<◌, ◌≤◌, Bool, true, false, ◌==◌, not, refl, sym, ap, ap₂, ◌∙◌, subst, arith}
use Rattle.std.specs.Prelude.{bit_and, nat_le, nat_lt, if◌then◌else◌}
use Rattle.std.proofs.lemmas.Bool.Decides.{nat_tests}
use Rattle.std.proofs.lemmas.Nat.{and_mod, and_le_r}
use Rattle.std.proofs.Math.Nat.{mod-eq_of_lt}
use Rattle.dcc_c.specs.declared.syntax.Base.{Base}
use Rattle.dcc_c.specs.declared.syntax.Base.TheVariants.{Schar, Uchar, Int, Uint, Long, Ulong}
use Rattle.dcc_c.specs.declared.syntax.CBin.{CBin}
use Rattle.dcc_c.specs.declared.syntax.CBin.TheVariants.{And, Eq, Ne}
use Rattle.dcc_c.specs.Types.{bits_of, promoted_type, common_type, convert, plain, number_of_type}
use Rattle.dcc_c.specs.Value.{number, truth, converted, Outcome, Gives, numbers_value}

-- a number as one of another type of its size, and back
pub back : (a b : Base) (n : ℕ) → bits_of b ≡ bits_of a → n < 2 ^ bits_of a → convert b a n ≡ n
back Schar Schar n same small = grind (arith, nat_tests)
back Schar Uchar n same small = grind (arith, nat_tests)
back Uchar Schar n same small = grind (arith, nat_tests)
back Uchar Uchar n same small = grind (arith, nat_tests)
back Int Int n same small = grind (arith, nat_tests)
back Int Uint n same small = grind (arith, nat_tests)
back Uint Int n same small = grind (arith, nat_tests)
back Uint Uint n same small = grind (arith, nat_tests)
back Long Long n same small = grind (arith, nat_tests)
back Long Ulong n same small = grind (arith, nat_tests)
back Ulong Long n same small = grind (arith, nat_tests)
back Ulong Ulong n same small = grind (arith, nat_tests)
back Schar Int n same small = absurd (omega (arith, same))
back Schar Uint n same small = absurd (omega (arith, same))
back Schar Long n same small = absurd (omega (arith, same))
back Schar Ulong n same small = absurd (omega (arith, same))
back Uchar Int n same small = absurd (omega (arith, same))
back Uchar Uint n same small = absurd (omega (arith, same))
back Uchar Long n same small = absurd (omega (arith, same))
back Uchar Ulong n same small = absurd (omega (arith, same))
back Int Schar n same small = absurd (omega (arith, same))
back Int Uchar n same small = absurd (omega (arith, same))
back Int Long n same small = absurd (omega (arith, same))
back Int Ulong n same small = absurd (omega (arith, same))
back Uint Schar n same small = absurd (omega (arith, same))
back Uint Uchar n same small = absurd (omega (arith, same))
back Uint Long n same small = absurd (omega (arith, same))
back Uint Ulong n same small = absurd (omega (arith, same))
back Long Schar n same small = absurd (omega (arith, same))
back Long Uchar n same small = absurd (omega (arith, same))
back Long Int n same small = absurd (omega (arith, same))
back Long Uint n same small = absurd (omega (arith, same))
back Ulong Schar n same small = absurd (omega (arith, same))
back Ulong Uchar n same small = absurd (omega (arith, same))
back Ulong Int n same small = absurd (omega (arith, same))
back Ulong Uint n same small = absurd (omega (arith, same))

-- A number that is 0 is promoted to one that is 0, and no other one is.
pub zero-promoted : (a : Base) (n : ℕ) → n < 2 ^ bits_of a → (convert a (promoted_type a) n == 0) ≡ (n == 0)
zero-promoted Schar n small = grind (arith, nat_tests)
zero-promoted Uchar n small = grind (arith, nat_tests)
zero-promoted Int n small = grind (arith, nat_tests)
zero-promoted Uint n small = grind (arith, nat_tests)
zero-promoted Long n small = grind (arith, nat_tests)
zero-promoted Ulong n small = grind (arith, nat_tests)

-- a word as a word
word-kept : (a c : Base) (n : ℕ) → bits_of a ≡ 16 → bits_of c ≡ 16 → convert a c n ≡ n % 2 ^ 16
word-kept Int Int n word also = grind (arith, nat_tests)
word-kept Int Uint n word also = grind (arith, nat_tests)
word-kept Uint Int n word also = grind (arith, nat_tests)
word-kept Uint Uint n word also = grind (arith, nat_tests)
word-kept Int Schar n word also = absurd (omega (arith, also))
word-kept Int Uchar n word also = absurd (omega (arith, also))
word-kept Int Long n word also = absurd (omega (arith, also))
word-kept Int Ulong n word also = absurd (omega (arith, also))
word-kept Uint Schar n word also = absurd (omega (arith, also))
word-kept Uint Uchar n word also = absurd (omega (arith, also))
word-kept Uint Long n word also = absurd (omega (arith, also))
word-kept Uint Ulong n word also = absurd (omega (arith, also))
word-kept Schar c n word also = absurd (omega (arith, word))
word-kept Uchar c n word also = absurd (omega (arith, word))
word-kept Long c n word also = absurd (omega (arith, word))
word-kept Ulong c n word also = absurd (omega (arith, word))

common-word : (a b : Base) → bits_of a ≡ 16 → bits_of b ≡ 16 → bits_of (common_type a b) ≡ 16
common-word Int Int word also = refl
common-word Int Uint word also = refl
common-word Uint Int word also = refl
common-word Uint Uint word also = refl
common-word Int Schar word also = absurd (omega (arith, also))
common-word Int Uchar word also = absurd (omega (arith, also))
common-word Int Long word also = absurd (omega (arith, also))
common-word Int Ulong word also = absurd (omega (arith, also))
common-word Uint Schar word also = absurd (omega (arith, also))
common-word Uint Uchar word also = absurd (omega (arith, also))
common-word Uint Long word also = absurd (omega (arith, also))
common-word Uint Ulong word also = absurd (omega (arith, also))
common-word Schar b word also = absurd (omega (arith, word))
common-word Uchar b word also = absurd (omega (arith, word))
common-word Long b word also = absurd (omega (arith, word))
common-word Ulong b word also = absurd (omega (arith, word))

words-compared : (a b : Base) (m n : ℕ) → bits_of a ≡ 16 → bits_of b ≡ 16 →
    (convert a (common_type a b) m == convert b (common_type a b) n) ≡ (m % 2 ^ 16 == n % 2 ^ 16)
words-compared a b m n word also =
    let c = common-word a b word also in ap₂ (λ x y. x == y) (word-kept a (common_type a b) m word c) (word-kept b (common_type a b) n also c)

-- Words of the same bits are equal alike.
pub equal-words : (a b c d : Base) (m n : ℕ) → bits_of a ≡ 16 → bits_of b ≡ 16 → bits_of c ≡ 16 → bits_of d ≡ 16 →
    (numbers_value Eq c m d n ≡ numbers_value Eq a m b n) × (numbers_value Ne c m d n ≡ numbers_value Ne a m b n)
equal-words a b c d m n one two three four =
    let same = words-compared c d m n three four ∙ sym (words-compared a b m n one two) in
    (ap (λ t. Gives (truth t)) same, ap (λ t. Gives (truth (not t))) same)

-- Chars beside a number with just low bits.

small-char : (a b : Base) (m n : ℕ) → bits_of a ≡ 8 → m < 2 ^ 8 → n < 128 →
    (convert a (common_type a b) m == convert b (common_type a b) (n % 2 ^ bits_of b)) ≡ (m == n)
small-char Schar Schar m n char small low = grind (arith, nat_tests)
small-char Schar Uchar m n char small low = grind (arith, nat_tests)
small-char Schar Int m n char small low = grind (arith, nat_tests)
small-char Schar Uint m n char small low = grind (arith, nat_tests)
small-char Schar Long m n char small low = grind (arith, nat_tests)
small-char Schar Ulong m n char small low = grind (arith, nat_tests)
small-char Uchar Schar m n char small low = grind (arith, nat_tests)
small-char Uchar Uchar m n char small low = grind (arith, nat_tests)
small-char Uchar Int m n char small low = grind (arith, nat_tests)
small-char Uchar Uint m n char small low = grind (arith, nat_tests)
small-char Uchar Long m n char small low = grind (arith, nat_tests)
small-char Uchar Ulong m n char small low = grind (arith, nat_tests)
small-char Int b m n char small low = absurd (omega (arith, char))
small-char Uint b m n char small low = absurd (omega (arith, char))
small-char Long b m n char small low = absurd (omega (arith, char))
small-char Ulong b m n char small low = absurd (omega (arith, char))

pub equal-chars : (a c b : Base) (m n : ℕ) → bits_of a ≡ 8 → bits_of c ≡ 8 → m < 2 ^ 8 → n < 128 →
    (numbers_value Eq c m b (n % 2 ^ bits_of b) ≡ numbers_value Eq a m b (n % 2 ^ bits_of b)) × (numbers_value Ne c m b (n % 2 ^ bits_of b) ≡ numbers_value Ne a m b (n % 2 ^ bits_of b))
equal-chars a c b m n one two small low =
    let same = small-char c b m n two small low ∙ sym (small-char a b m n one small low) in
    (ap (λ t. Gives (truth t)) same, ap (λ t. Gives (truth (not t))) same)

-- a char's low bits, and the number's
low-char : (a b : Base) (m n : ℕ) → bits_of a ≡ 8 → m < 2 ^ 8 → n < 128 →
    (convert a (common_type a b) m % 2 ^ 7 ≡ m % 2 ^ 7) × (convert b (common_type a b) (n % 2 ^ bits_of b) ≡ n)
low-char Schar Schar m n char small low = (grind (arith, nat_tests), grind (arith, nat_tests))
low-char Schar Uchar m n char small low = (grind (arith, nat_tests), grind (arith, nat_tests))
low-char Schar Int m n char small low = (grind (arith, nat_tests), grind (arith, nat_tests))
low-char Schar Uint m n char small low = (grind (arith, nat_tests), grind (arith, nat_tests))
low-char Schar Long m n char small low = (grind (arith, nat_tests), grind (arith, nat_tests))
low-char Schar Ulong m n char small low = (grind (arith, nat_tests), grind (arith, nat_tests))
low-char Uchar Schar m n char small low = (grind (arith, nat_tests), grind (arith, nat_tests))
low-char Uchar Uchar m n char small low = (grind (arith, nat_tests), grind (arith, nat_tests))
low-char Uchar Int m n char small low = (grind (arith, nat_tests), grind (arith, nat_tests))
low-char Uchar Uint m n char small low = (grind (arith, nat_tests), grind (arith, nat_tests))
low-char Uchar Long m n char small low = (grind (arith, nat_tests), grind (arith, nat_tests))
low-char Uchar Ulong m n char small low = (grind (arith, nat_tests), grind (arith, nat_tests))
low-char Int b m n char small low = absurd (omega (arith, char))
low-char Uint b m n char small low = absurd (omega (arith, char))
low-char Long b m n char small low = absurd (omega (arith, char))
low-char Ulong b m n char small low = absurd (omega (arith, char))

masked-low : (m n : ℕ) → n < 128 → bit_and m n ≡ bit_and (m % 2 ^ 7) n
masked-low m n low =
    sym (mod-eq_of_lt (let x = and_le_r m n in omega (arith, x, low)))
    ∙ and_mod m n 7
    ∙ ap (bit_and (m % 2 ^ 7)) (mod-eq_of_lt low)

masked-char : (a b : Base) (m n : ℕ) → bits_of a ≡ 8 → m < 2 ^ 8 → n < 128 →
    bit_and (convert a (common_type a b) m) (convert b (common_type a b) (n % 2 ^ bits_of b)) ≡ bit_and (m % 2 ^ 7) n
masked-char a b m n char small low =
    let parts = low-char a b m n char small low in
    ap (bit_and (convert a (common_type a b) m)) parts.1 ∙ masked-low (convert a (common_type a b) m) n low ∙ ap (λ x. bit_and x n) parts.0

-- chars are promoted to one type
pub common-chars : (a c b : Base) → bits_of a ≡ 8 → bits_of c ≡ 8 → common_type c b ≡ common_type a b
common-chars Schar Schar b one two = refl
common-chars Schar Uchar b one two = refl
common-chars Uchar Schar b one two = refl
common-chars Uchar Uchar b one two = refl
common-chars Schar Int b one two = absurd (omega (arith, two))
common-chars Schar Uint b one two = absurd (omega (arith, two))
common-chars Schar Long b one two = absurd (omega (arith, two))
common-chars Schar Ulong b one two = absurd (omega (arith, two))
common-chars Uchar Int b one two = absurd (omega (arith, two))
common-chars Uchar Uint b one two = absurd (omega (arith, two))
common-chars Uchar Long b one two = absurd (omega (arith, two))
common-chars Uchar Ulong b one two = absurd (omega (arith, two))
common-chars Int c b one two = absurd (omega (arith, one))
common-chars Uint c b one two = absurd (omega (arith, one))
common-chars Long c b one two = absurd (omega (arith, one))
common-chars Ulong c b one two = absurd (omega (arith, one))

pub joined-chars : (a c b : Base) (m n : ℕ) → bits_of a ≡ 8 → bits_of c ≡ 8 → m < 2 ^ 8 → n < 128 →
    numbers_value And c m b (n % 2 ^ bits_of b) ≡ numbers_value And a m b (n % 2 ^ bits_of b)
joined-chars a c b m n one two small low =
    ap₂ (λ t x. Gives (number t x)) (common-chars a c b one two) (masked-char c b m n two small low ∙ sym (masked-char a b m n one small low))

-- a number converted to a type of no more bits has its low bits
low-kept : (a t : Base) (n : ℕ) → n < 2 ^ bits_of a → nat_le (bits_of t) (bits_of a) ≡ true → convert a t n ≡ n % 2 ^ bits_of t
low-kept Schar Schar n small fits = grind (arith, nat_tests)
low-kept Schar Uchar n small fits = grind (arith, nat_tests)
low-kept Schar Int n small fits = absurd cc
low-kept Schar Uint n small fits = absurd cc
low-kept Schar Long n small fits = absurd cc
low-kept Schar Ulong n small fits = absurd cc
low-kept Uchar Schar n small fits = grind (arith, nat_tests)
low-kept Uchar Uchar n small fits = grind (arith, nat_tests)
low-kept Uchar Int n small fits = absurd cc
low-kept Uchar Uint n small fits = absurd cc
low-kept Uchar Long n small fits = absurd cc
low-kept Uchar Ulong n small fits = absurd cc
low-kept Int Schar n small fits = grind (arith, nat_tests)
low-kept Int Uchar n small fits = grind (arith, nat_tests)
low-kept Int Int n small fits = grind (arith, nat_tests)
low-kept Int Uint n small fits = grind (arith, nat_tests)
low-kept Int Long n small fits = absurd cc
low-kept Int Ulong n small fits = absurd cc
low-kept Uint Schar n small fits = grind (arith, nat_tests)
low-kept Uint Uchar n small fits = grind (arith, nat_tests)
low-kept Uint Int n small fits = grind (arith, nat_tests)
low-kept Uint Uint n small fits = grind (arith, nat_tests)
low-kept Uint Long n small fits = absurd cc
low-kept Uint Ulong n small fits = absurd cc
low-kept Long Schar n small fits = grind (arith, nat_tests)
low-kept Long Uchar n small fits = grind (arith, nat_tests)
low-kept Long Int n small fits = grind (arith, nat_tests)
low-kept Long Uint n small fits = grind (arith, nat_tests)
low-kept Long Long n small fits = grind (arith, nat_tests)
low-kept Long Ulong n small fits = grind (arith, nat_tests)
low-kept Ulong Schar n small fits = grind (arith, nat_tests)
low-kept Ulong Uchar n small fits = grind (arith, nat_tests)
low-kept Ulong Int n small fits = grind (arith, nat_tests)
low-kept Ulong Uint n small fits = grind (arith, nat_tests)
low-kept Ulong Long n small fits = grind (arith, nat_tests)
low-kept Ulong Ulong n small fits = grind (arith, nat_tests)

pub low-same : (t a c : Base) (n : ℕ) → bits_of c ≡ bits_of a → n < 2 ^ bits_of a → nat_le (bits_of t) (bits_of a) ≡ true → convert c t n ≡ convert a t n
low-same t a c n size small fits =
    low-kept c t n (subst (λ k. n < 2 ^ k) (sym size) small) (ap (nat_le (bits_of t)) size ∙ fits) ∙ sym (low-kept a t n small fits)
