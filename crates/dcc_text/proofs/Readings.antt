-- Variables: what the text reads of a location.
use Rattle.std.proofs.Common.{◌≡◌, ℕ, suc, ◌-◌, ◌%◌, ◌^◌, ◌<◌, ◌≤◌, inl, inr, Bool, true, false, ◌==◌, ◌&&◌, not, List, [], ◌∷◌, map, Some, None, refl, sym, ap, ◌∙◌, subst, true≢false, arith, mod-eq_of_lt, pos}
use Rattle.std.specs.Prelude.{if◌then◌else◌, bit_and, int_rem, neg_ℤ, option_and_then}
use Rattle.std.proofs.lemmas.Bool.{cases_Bool, cases_lt, eqb-true}
use Rattle.std.proofs.lemmas.Bool.Decides.{nat_tests}
use Rattle.std.proofs.lemmas.Nat.{and_mask}
use Rattle.dcc_ir.specs.Value.{signed_at, pattern_at, faults_signed}
use Rattle.dcc_c.specs.declared.syntax.Base.{Base}
use Rattle.dcc_c.specs.declared.syntax.Base.TheVariants.{Schar, Uchar, Int, Uint, Long, Ulong}
use Rattle.dcc_c.specs.declared.syntax.CType.{CType}
use Rattle.dcc_c.specs.declared.syntax.CBin.TheVariants.{And as BitAnd, Rem as Rest}
use Rattle.dcc_c.specs.Token.{same_bytes}
use Rattle.dcc_c.specs.Types.{bits_of, is_signed, common_type, extended_bits, convert, plain, same_type, number_of_type}
use Rattle.dcc_c.specs.Tree.{Word, Expr, Name, Binary, Cast}
use Rattle.dcc_c.specs.Typing.{type_of, type_of_name, declared_as}
use Rattle.dcc_c.specs.Value.{value, number, converted, Gives, and_then, given, variable_value, Unplaced, Binding, variable_in, Scope, declared_by, value_of}
use Rattle.dcc_c.proofs.TypeLaws.{same_type-decides}
use Rattle.dcc_text.specs.Spelled.{Way, Low, Exact, Signed, small, cut_to, taken, as_char, bit_read, variable}
use Rattle.dcc_text.specs.Meaning.{is_type_for}
use Rattle.dcc_text.proofs.Sizes.{Size, bit, byte, word, long, bits, holds}
use Rattle.dcc_text.proofs.Meanings.{IsNumber, binary-typed, binary-valued, small-number, cast-number}
use Rattle.dcc_text.proofs.Signs.{signed_bits, schar-signed, positive, negative, sign-of}
use Rattle.dcc_text.proofs.Ways.{carries, Text, from-number, taken-means}
use Rattle.dcc_text.proofs.Operands.{exact-text, exact-number}
use Rattle.dcc_text.proofs.Divisions.{remu-text, rems-text}

-- a name is declared as the variable that it is
pub declared : (bs : List Binding) (name : Word) (b : Binding) → variable_in bs name ≡ Some b → declared_as (map declared_by bs) name ≡ Some (declared_by b)
declared [] name b is = absurd cc
declared (x ∷ bs) name b is = by (same_bytes x.name name) (declared bs name b) is
  where
    some-equal : {a c : Binding} → Some a ≡ Some c → a ≡ c
    some-equal e = cc

    by : (here : Bool) → (variable_in bs name ≡ Some b → declared_as (map declared_by bs) name ≡ Some (declared_by b))
        → (if here then Some x else variable_in bs name) ≡ Some b → (if here then Some (declared_by x) else declared_as (map declared_by bs) name) ≡ Some (declared_by b)
    by true rest e = ap (λ y. Some (declared_by y)) (some-equal e)
    by false rest e = rest e

-- an expression has a type and a value of it
pub record IsValue (scope : Scope) (type : CType) (k : ℕ) (e : Expr) : Type 0 where
  pub typed : type_of (map declared_by scope.variables) e ≡ Some type
  pub valued : value_of scope e ≡ Gives (value type k)

module _ (scope : Scope) where
  -- under a cast
  pub cast-value : (to : CType) (type : CType) (k : ℕ) (e : Expr) → IsValue scope type k e → IsValue scope to (convert (number_of_type type) (number_of_type to) k) (Cast to e)
  cast-value to type k e x = record {
    typed = ap (elim [ Some type ↦ Some to | None ↦ None ]) x.typed;
    valued = ap (and_then (λ v. Gives (converted to v))) x.valued;
  }

  pub of-number : (base : Base) (k : ℕ) (e : Expr) → IsNumber scope base k e → IsValue scope (plain base) k e
  of-number base k e x = record { typed = x.typed; valued = x.valued }

  pub as-number : (base : Base) (k : ℕ) (e : Expr) → IsValue scope (plain base) k e → IsNumber scope base k e
  as-number base k e x = record { typed = x.typed; valued = x.valued }

  -- a variable that is kept by itself
  pub name-value : (name : Word) (type : CType) (k : ℕ) → variable_in scope.variables name ≡ Some (record { name = name; type = type; is_array = false; storage = Unplaced k })
      → IsValue scope type k (Name name)
  name-value name type k found = record {
    typed = ap (option_and_then type_of_name) (declared scope.variables name _ found);
    valued = ap (λ b. and_then (variable_value scope.memory) (given b)) found;
  }

  -- One bit.

  -- the lowest bit of a char or an int
  low-bit-of : (base : Base) (k : ℕ) (e : Expr) → common_type base Int ≡ Int → IsNumber scope base k e → IsNumber scope Int (convert base Int k % 2) (Binary BitAnd e (small 1))
  low-bit-of base k e narrow x =
      let one : IsNumber scope Int 1 (small 1) = small-number scope 1 (omega arith) in record {
        typed = binary-typed scope BitAnd base Int k 1 e (small 1) x one ∙ ap (λ t. Some (plain t)) narrow;
        valued = binary-valued scope BitAnd base Int k 1 e (small 1) x one
            ∙ ap (λ t. Gives (number t (bit_and (convert base t k) (convert Int t 1)))) narrow
            ∙ ap (λ m. Gives (number Int m)) (and_mask (convert base Int k) 1);
      }

  -- a variable of a char type that holds a bit
  module _ (base : Base) (k n : ℕ) (e : Expr) (is_char : bits_of base ≡ 8) (room : k < 256) (low : k % 2 ≡ n) (x : IsNumber scope base k e) where
    char-common : (base : Base) → bits_of base ≡ 8 → common_type base Int ≡ Int
    char-common Schar is = refl
    char-common Uchar is = refl
    char-common Int is = absurd (omega (arith, is))
    char-common Uint is = absurd (omega (arith, is))
    char-common Long is = absurd (omega (arith, is))
    char-common Ulong is = absurd (omega (arith, is))

    bit-small : n < 2
    bit-small = omega (arith, low)

    -- what is left of the char's bits
    char-low : (base : Base) → bits_of base ≡ 8 → convert base Int k % 2 ≡ n
    char-low Schar is = at k n room low
      where
        at : (k n : ℕ) → k < 256 → k % 2 ≡ n → convert Schar Int k % 2 ≡ n
        at k n room low = grind (arith, nat_tests)
    char-low Uchar is = omega (arith, room, low)
    char-low Int is = absurd (omega (arith, is))
    char-low Uint is = absurd (omega (arith, is))
    char-low Long is = absurd (omega (arith, is))
    char-low Ulong is = absurd (omega (arith, is))

    -- as another char type it has the same bits
    as-char-number : (to : Base) → bits_of to ≡ 8 → IsNumber scope to k (as_char to (plain base) e)
    as-char-number to is = elim (cases_Bool (same_type (plain base) (plain to))) [
      | inl same ↦ rw same (subst (λ t. IsNumber scope t k e) (ap (λ t. t.base) ((same_type-decides (plain base) (plain to)).0 same)) x)
      | inr apart ↦ rw apart (subst (λ j. IsNumber scope to j (Cast (plain to) e)) (stays base to is_char is) (cast-number scope to base k e x))
    ]
      where
        schar-stays : (k : ℕ) → k < 256 → extended_bits Schar k % 256 ≡ k
        schar-stays k room = grind (arith, nat_tests)

        stays : (base to : Base) → bits_of base ≡ 8 → bits_of to ≡ 8 → convert base to k ≡ k
        stays Schar Schar is also = schar-stays k room
        stays Schar Uchar is also = schar-stays k room
        stays Uchar Schar is also = mod-eq_of_lt room
        stays Uchar Uchar is also = mod-eq_of_lt room
        stays base Int is also = absurd (omega (arith, also))
        stays base Uint is also = absurd (omega (arith, also))
        stays base Long is also = absurd (omega (arith, also))
        stays base Ulong is also = absurd (omega (arith, also))
        stays Int to is also = absurd (omega (arith, is))
        stays Uint to is also = absurd (omega (arith, is))
        stays Long to is also = absurd (omega (arith, is))
        stays Ulong to is also = absurd (omega (arith, is))

    -- beneath `&`
    masked : Text scope Exact bit n (Binary BitAnd e (small 1))
    masked = exact-text scope bit Int n _ refl bit-small (subst (λ j. IsNumber scope Int j (Binary BitAnd e (small 1))) (char-low base is_char) (low-bit-of base k e (char-common base is_char) x))

    -- beneath `%`
    rest-of : Text scope Exact bit n (Binary Rest (as_char Uchar (plain base) e) (small 2))
    rest-of =
        let left = exact-text scope byte Uchar k _ refl room (as-char-number Uchar refl) in
        let right = exact-text scope byte Int 2 (small 2) refl (omega arith) (small-number scope 2 (omega arith)) in
        let y = remu-text scope byte k 2 _ _ left right refl in
        as-bit y.base y.is (subst (λ j. IsNumber scope y.base j (Binary Rest (as_char Uchar (plain base) e) (small 2))) low (exact-number scope byte (k % 2) _ y))
      where
        as-bit : (b : Base) → holds byte b ≡ true → IsNumber scope b n (Binary Rest (as_char Uchar (plain base) e) (small 2)) → Text scope Exact bit n (Binary Rest (as_char Uchar (plain base) e) (small 2))
        as-bit Uchar is y = exact-text scope bit Uchar n _ refl bit-small y
        as-bit Int is y = exact-text scope bit Int n _ refl bit-small y
        as-bit b is y = absurd (true≢false (sym is))

    -- the remainder of a signed char by 2 has its lowest bit
    parity : (k : ℕ) → k < 256 → signed_bits byte (pattern_at 8 (int_rem (signed_at 8 k) (pos 2))) % 2 ≡ k % 2
    parity k room = elim (sign-of byte k room) [
      | positive low is same ↦ rw is (up k low)
      | negative high is same ↦ rw is (down k room high)
    ]
      where
        up : (k : ℕ) → k < 128 → signed_bits byte (k % 2 % 256) % 2 ≡ k % 2
        up k low = grind (arith, nat_tests)

        down : (k : ℕ) → k < 256 → 128 ≤ k → signed_bits byte (pattern_at 8 (neg_ℤ (pos (suc (255 - k) % 2)))) % 2 ≡ k % 2
        down k room high = elim (cases_lt (suc (255 - k) % 2) 1) [
          | inl none ↦ (let zero_is : suc (255 - k) % 2 ≡ 0 = omega (arith, none) in rw zero_is (omega (arith, zero_is, room, high)))
          | inr some ↦ (let one_is : suc (255 - k) % 2 ≡ 1 = omega (arith, some) in rw one_is (omega (arith, one_is, room, high)))
        ]

    signed-rest : Text scope Exact bit n (Binary BitAnd (Binary Rest (as_char Schar (plain base) e) (small 2)) (small 1))
    signed-rest =
        let left = from-number scope Signed byte Schar k k _ refl room room (as-char-number Schar refl) (schar-signed k room) in
        let right = from-number scope Signed byte Int 2 2 (small 2) refl (omega arith) (omega arith) (small-number scope 2 (omega arith)) refl in
        let y = rems-text scope byte k 2 _ _ left right (safe k) in
        let z = low-bit-of y.base y.k _ (int-common y.base y.is) y.number_is in
        exact-text scope bit Int n _ refl bit-small
        (subst (λ j. IsNumber scope Int j (Binary BitAnd (Binary Rest (as_char Schar (plain base) e) (small 2)) (small 1))) (ap (λ j. j % 2) y.means ∙ parity k room ∙ low) z)
      where
        safe : (k : ℕ) → faults_signed 8 k 2 ≡ false
        safe k = grind (arith, nat_tests)

        int-common : (b : Base) → carries Signed byte b ≡ true → common_type b Int ≡ Int
        int-common Schar is = refl
        int-common Int is = refl
        int-common b is = absurd (true≢false (sym is))

    -- settled: the bits of the char are the bit itself
    module _ (same : k ≡ n) where
      settled-char : Text scope Exact bit n (as_char Uchar (plain base) e)
      settled-char = exact-text scope bit Uchar n _ refl bit-small (subst (λ j. IsNumber scope Uchar j (as_char Uchar (plain base) e)) same (as-char-number Uchar refl))

      settled-int : Text scope Exact bit n (Cast (plain Int) (as_char Schar (plain base) e))
      settled-int =
          exact-text scope bit Int n _ refl bit-small
          (subst (λ j. IsNumber scope Int j (Cast (plain Int) (as_char Schar (plain base) e))) (small-schar n bit-small)
          (cast-number scope Int Schar n _ (subst (λ j. IsNumber scope Schar j (as_char Schar (plain base) e)) same (as-char-number Schar refl))))
        where
          small-schar : (n : ℕ) → n < 2 → convert Schar Int n ≡ n
          small-schar n few = grind (arith, nat_tests)

      settled-plain : is_signed base ≡ false → Text scope Exact bit n e
      settled-plain unsigned = at base is_char unsigned x
        where
          at : (base : Base) → bits_of base ≡ 8 → is_signed base ≡ false → IsNumber scope base k e → Text scope Exact bit n e
          at Uchar is unsigned x = exact-text scope bit Uchar n _ refl bit-small (subst (λ j. IsNumber scope Uchar j e) same x)
          at Schar is unsigned x = absurd (true≢false unsigned)
          at Int is unsigned x = absurd (omega (arith, is))
          at Uint is unsigned x = absurd (omega (arith, is))
          at Long is unsigned x = absurd (omega (arith, is))
          at Ulong is unsigned x = absurd (omega (arith, is))

    low-text : Text scope Low bit n e
    low-text = at base is_char (char-low base is_char) x
      where
        at : (base : Base) → bits_of base ≡ 8 → convert base Int k % 2 ≡ n → IsNumber scope base k e → Text scope Low bit n e
        at Schar is same x = from-number scope Low bit Schar k n e refl room bit-small x same
        at Uchar is same x = from-number scope Low bit Uchar k n e refl room bit-small x same
        at Int is same x = absurd (omega (arith, is))
        at Uint is same x = absurd (omega (arith, is))
        at Long is same x = absurd (omega (arith, is))
        at Ulong is same x = absurd (omega (arith, is))

    -- a read that does not vote
    quiet : (settled : Bool) → (settled ≡ true → k ≡ n) → Text scope Exact bit n (if settled && not (is_signed base) then e else Binary BitAnd e (small 1))
    quiet false holds = masked
    quiet true holds = elim (cases_Bool (is_signed base)) [
      | inl signed ↦ rw signed masked
      | inr unsigned ↦ rw unsigned (settled-plain (holds refl) unsigned)
    ]

    -- in each way
    pub bit-text : (way : Way) (votes settled : Bool) → (settled ≡ true → k ≡ n) → Text scope way bit n (taken Exact way 1 (bit_read way votes settled (plain base) e))
    bit-text Low votes settled holds = low-text
    bit-text Exact true true holds = settled-char (holds refl)
    bit-text Exact true false holds = rest-of
    bit-text Signed true true holds = taken-means scope Exact Signed bit n _ (settled-int (holds refl))
    bit-text Signed true false holds = taken-means scope Exact Signed bit n _ signed-rest
    bit-text Exact false settled holds = quiet settled holds
    bit-text Signed false settled holds = taken-means scope Exact Signed bit n _ (quiet settled holds)

  -- Other numbers.

  -- an address, by its bits
  pointer-text : (way : Way) (type : CType) (k : ℕ) (e : Expr) → type.pointer ≡ true → k < 65536 → IsValue scope type k e → Text scope way word k (cut_to way 16 e)
  pointer-text way type k e is room x = at way
    where
      from : number_of_type type ≡ Uint
      from = ap (λ p. if p then Uint else type.base) is

      cast-to : (to : Base) → bits_of to ≡ 16 → IsNumber scope to k (Cast (plain to) e)
      cast-to to few =
          subst (λ j. IsNumber scope to j (Cast (plain to) e)) (ap (λ t. convert t to k) from ∙ ap (λ w. k % 2 ^ w) few ∙ mod-eq_of_lt room)
          (as-number to (convert (number_of_type type) to k) (Cast (plain to) e) (cast-value (plain to) type k e x))

      at : (way : Way) → Text scope way word k (cut_to way 16 e)
      at Low = from-number scope Low word Uint k k _ refl room room (cast-to Uint refl) refl
      at Exact = from-number scope Exact word Uint k k _ refl room room (cast-to Uint refl) refl
      at Signed = from-number scope Signed word Int k k _ refl room room (cast-to Int refl) refl

  -- a number of eight bits or more, by the sign of its type
  wider-text : (size : Size) (base : Base) (n : ℕ) (e : Expr) → bits_of base ≡ bits size → n < 2 ^ bits size → IsNumber scope base n e
      → Text scope (if is_signed base then Signed else Exact) size n e
  wider-text byte Schar n e is fits x = from-number scope Signed byte Schar n n e refl fits fits x (schar-signed n fits)
  wider-text byte Uchar n e is fits x = from-number scope Exact byte Uchar n n e refl fits fits x refl
  wider-text word Int n e is fits x = from-number scope Signed word Int n n e refl fits fits x refl
  wider-text word Uint n e is fits x = from-number scope Exact word Uint n n e refl fits fits x refl
  wider-text long Long n e is fits x = from-number scope Signed long Long n n e refl fits fits x refl
  wider-text long Ulong n e is fits x = from-number scope Exact long Ulong n n e refl fits fits x refl
  wider-text bit base n e is fits x = absurd (no base is)
    where
      no : (base : Base) → bits_of base ≡ 1 → ⊥
      no Schar is = omega (arith, is)
      no Uchar is = omega (arith, is)
      no Int is = omega (arith, is)
      no Uint is = omega (arith, is)
      no Long is = omega (arith, is)
      no Ulong is = omega (arith, is)
  wider-text byte base n e is fits x = absurd (omega (arith, is))
  wider-text word base n e is fits x = absurd (omega (arith, is))
  wider-text long base n e is fits x = absurd (omega (arith, is))

  -- A variable, in each way.

  base-size : (base : Base) → (size : Size) × (bits_of base ≡ bits size)
  base-size Schar = (byte, refl)
  base-size Uchar = (byte, refl)
  base-size Int = (word, refl)
  base-size Uint = (word, refl)
  base-size Long = (long, refl)
  base-size Ulong = (long, refl)

  -- the size of a location, and what its variable gives
  pub record Reads (width : ℕ) (settled : Bool) (n : ℕ) (type : CType) (e : Expr) : Type 0 where
    pub size : Size
    pub width_is : width ≡ bits size
    pub gives : (way : Way) (votes : Bool) → Text scope way size n (variable way votes settled width type e)

  module _ (width : ℕ) (settled : Bool) (k n : ℕ) (e : Expr) (low : k % 2 ^ width ≡ n) (holds : settled ≡ true → k ≡ n) where
    number-reads : (base : Base) → (bits_of base == (if width == 1 then 8 else width)) ≡ true → k < 2 ^ bits_of base → IsNumber scope base k e → Reads width settled n (plain base) e
    number-reads base typed room x = elim (cases_Bool (width == 1)) [
      | inl one ↦
          (let is_char : bits_of base ≡ 8 = eqb-true (bits_of base) 8 (ap (λ b. bits_of base == (if b then 8 else width)) (sym one) ∙ typed) in
          let width_one : width ≡ 1 = eqb-true width 1 one in record {
            size = bit;
            width_is = width_one;
            gives = λ way votes. rw one (bit-text base k n e is_char (subst (λ w. k < 2 ^ w) is_char room) (ap (λ w. k % 2 ^ w) (sym width_one) ∙ low) x way votes settled holds);
          })
      | inr more ↦
          (let same : bits_of base ≡ width = eqb-true (bits_of base) width (ap (λ b. bits_of base == (if b then 8 else width)) (sym more) ∙ typed) in
          let s = base-size base in
          let there : width ≡ bits s.0 = sym same ∙ s.1 in
          let few : k < 2 ^ bits s.0 = subst (λ w. k < 2 ^ w) s.1 room in
          let exactly : k ≡ n = sym (mod-eq_of_lt few) ∙ ap (λ w. k % 2 ^ w) (sym there) ∙ low in record {
            size = s.0;
            width_is = there;
            gives = λ way votes. rw more (rw there (taken-means scope (if is_signed base then Signed else Exact) way s.0 n e
                (wider-text s.0 base n e s.1 (subst (λ j. j < 2 ^ bits s.0) exactly few) (subst (λ j. IsNumber scope base j e) exactly x))));
          })
    ]

    pub variable-reads : (base : Base) (pointer : Bool) → is_type_for width (record { base = base; pointer = pointer }) ≡ true → k < 2 ^ bits_of (number_of_type (record { base = base; pointer = pointer }))
        → IsValue scope (record { base = base; pointer = pointer }) k e → Reads width settled n (record { base = base; pointer = pointer }) e
    variable-reads base false typed room x = number-reads base typed room (as-number base k e x)
    variable-reads base true typed room x =
        let there : width ≡ 16 = eqb-true width 16 typed in
        let exactly : k ≡ n = sym (mod-eq_of_lt room) ∙ ap (λ w. k % 2 ^ w) (sym there) ∙ low in record {
          size = word;
          width_is = there;
          gives = λ way votes. rw there (subst (λ j. Text scope way word j (cut_to way 16 e)) exactly (pointer-text way (record { base = base; pointer = true }) k e refl room x));
        }
