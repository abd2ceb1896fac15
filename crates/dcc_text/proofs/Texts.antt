-- The text of an expression gives its value, in each way.
use Rattle.std.proofs.Common.{◌≡◌, ℕ, ◌+◌, ◌*◌, ◌/◌, ◌%◌, ◌^◌, ◌<◌, ◌≤◌, ◌⊎◌, inl, inr, Bool, true, false, ◌==◌, List, [], ◌∷◌, ◌++◌, refl, sym, ap, ap₂, ◌∙◌, subst, arith, mod-eq_of_lt}
use Rattle.std.specs.Prelude.{◌&&◌, ◌||◌, not, nat_lt, nat_le, slice_index, if◌then◌else◌, All}
use Rattle.std.proofs.lemmas.Bool.{and_parts, or_cases, cases_Bool, eqb-true, ltb-true, leb-true}
use Rattle.std.proofs.lemmas.List.Elements.{All-head, All-tail}
use Rattle.dcc_run.proofs.KeptLaws.{right_part}
use Rattle.dcc_ir.specs.declared.syntax.Loc.{Loc}
use Rattle.dcc_ir.specs.declared.syntax.UnOp.{UnOp}
use Rattle.dcc_ir.specs.declared.syntax.BinOp.{BinOp}
use Rattle.dcc_ir.specs.Location.{location_width, Values}
use Rattle.dcc_ir.specs.Tree.{Expr, Const, Get, Load, Unary, Binary, Widen, Part, Join, Choose, Address}
use Rattle.dcc_ir.specs.Use.{parts_of, got_by, addressed_by}
use Rattle.dcc_ir.specs.Value.{is_comparison, is_test, width_of, bytes_at, Environment, value_of, unary_value}
use Rattle.dcc_ir.specs.Value.{binary_value}
use Rattle.dcc_ir.specs.WellFormed.{is_width, is_stored_width, is_division, divides_safely, is_expr}
use Rattle.dcc_ir.proofs.ListLaws.{left_part}
use Rattle.dcc_c.specs.declared.syntax.Base.TheVariants.{Uint}
use Rattle.dcc_c.specs.declared.syntax.CUn.TheVariants.{Deref}
use Rattle.dcc_c.specs.Types.{bits_of, plain, pointer_to, same_type, number_of_type}
use Rattle.dcc_c.specs.Tree as tree
use Rattle.dcc_c.specs.Value.{Scope}
use Rattle.dcc_c.proofs.TypeLaws.{same_type-decides}
use Rattle.dcc_text.specs.Spelling.{Spelling}
use Rattle.dcc_text.specs.Spelled.{Way, Low, Exact, Signed, unsigned_type, cut_to, taken, pointer, operand_way, unary_result, unary_text, left_way, right_way, binary_result, votes_left, votes_right, symbol, joined, text}
use Rattle.dcc_text.specs.Meaning.{is_type_for, IsHeld, IsPlaced}
use Rattle.dcc_text.proofs.Sizes.{Size, bit, byte, word, long, bits, size-of}
use Rattle.dcc_text.proofs.Ways.{Text, taken-means}
use Rattle.dcc_text.proofs.Wide.{wide-number, wide-kept}
use Rattle.dcc_text.proofs.Parts.{widened-exactly, widened-signed, low-part-text, high-part-text, joined-text}
use Rattle.dcc_text.proofs.Choices.{choice-text}
use Rattle.dcc_text.proofs.Constants.{constant-text}
use Rattle.dcc_text.proofs.Readings.{IsValue, cast-value, of-number, name-value, Reads, variable-reads}
use Rattle.dcc_text.proofs.Addresses.{load-text, placed-text}
use Rattle.dcc_text.proofs.Operators.{faults, test_size, result_size, unary-means, binary-means, divides-safely}

pub same-size : (s t : Size) → bits s ≡ bits t → s ≡ t
same-size bit bit e = refl
same-size byte byte e = refl
same-size word word e = refl
same-size long long e = refl
same-size bit byte e = absurd (omega (arith, e))
same-size bit word e = absurd (omega (arith, e))
same-size bit long e = absurd (omega (arith, e))
same-size byte bit e = absurd (omega (arith, e))
same-size byte word e = absurd (omega (arith, e))
same-size byte long e = absurd (omega (arith, e))
same-size word bit e = absurd (omega (arith, e))
same-size word byte e = absurd (omega (arith, e))
same-size word long e = absurd (omega (arith, e))
same-size long bit e = absurd (omega (arith, e))
same-size long byte e = absurd (omega (arith, e))
same-size long word e = absurd (omega (arith, e))

-- a width that is stored is a width
pub stored-is : (width : ℕ) → is_stored_width width ≡ true → is_width width ≡ true
stored-is width stored = by (width == 1) (width == 8) (width == 16) (width == 32) stored
  where
    by : (a b c d : Bool) → (b || c || d) ≡ true → (a || b || c || d) ≡ true
    by true b c d is = refl
    by false b c d is = is

module _ (s : Spelling) (scope : Scope) (values : Values) (base : ℕ) (memory : List ℕ) where
  -- what expressions read
  abbrev pub scene : Environment
  scene = record { bits = s.bits; values = values; base = base; memory = memory }

  -- the text has what an expression reads by itself
  abbrev pub IsRead : Expr → Type 0
  IsRead e = All (IsHeld s values scope.variables) (got_by e)

  abbrev pub IsThere : Expr → Type 0
  IsThere e = All (IsPlaced s base scope.variables) (addressed_by e)

  -- the text has what the parts of an expression read
  pub record Shown (parts : List Expr) : Type 0 where
    pub reads : All IsRead parts
    pub addresses : All IsThere parts

  pub first-shown : (xs ys : List Expr) → Shown (xs ++ ys) → Shown xs
  first-shown xs ys x = record { reads = left_part IsRead xs ys x.reads; addresses = left_part IsThere xs ys x.addresses }

  pub later-shown : (xs ys : List Expr) → Shown (xs ++ ys) → Shown ys
  later-shown xs ys x = record { reads = right_part IsRead xs ys x.reads; addresses = right_part IsThere xs ys x.addresses }

  pub below-shown : (e : Expr) (parts : List Expr) → Shown (e ∷ parts) → Shown parts
  below-shown e parts x = record { reads = All-tail IsRead e parts x.reads; addresses = All-tail IsThere e parts x.addresses }

  -- the location of a Get, and the distance of an Address
  held-here : (location : Loc) (parts : List Expr) → Shown (Get location ∷ parts) → IsHeld s values scope.variables location
  held-here location parts x = All-head (IsHeld s values scope.variables) location [] (All-head IsRead (Get location) parts x.reads)

  placed-here : (distance : ℕ) (parts : List Expr) → Shown (Address distance ∷ parts) → IsPlaced s base scope.variables distance
  placed-here distance parts x = All-head (IsPlaced s base scope.variables) distance [] (All-head IsThere (Address distance) parts x.addresses)

  -- the size of an expression, and what its text gives in each way
  pub record Stands (e : Expr) : Type 0 where
    pub size : Size
    pub width : width_of s.bits e ≡ bits size
    pub gives : (way : Way) (votes : Bool) → Text scope way size (value_of scene e) (text s way votes e)

  -- the text of an expression gives its value at an equal size
  at-size : (e : Expr) (x : Stands e) (size : Size) → x.size ≡ size → (way : Way) (votes : Bool) → Text scope way size (value_of scene e) (text s way votes e)
  at-size e x size same way votes = subst (λ k. Text scope way k (value_of scene e) (text s way votes e)) same (x.gives way votes)

  get-reads : (location : Loc) → IsHeld s values scope.variables location → Reads scope (location_width s.bits location) (s.settled location) (values location) (s.type location) (tree.Name (s.name location))
  get-reads location h =
      variable-reads scope (location_width s.bits location) (s.settled location) h.variable.bits (values location) (tree.Name (s.name location)) h.low h.settled
      (s.type location).base (s.type location).pointer h.variable.typed h.variable.room (name-value scope (s.name location) (s.type location) h.variable.bits h.variable.found)

  get-stands : (location : Loc) → IsHeld s values scope.variables location → Stands (Get location)
  get-stands location h =
      let r = get-reads location h in record { size = r.size; width = r.width_is; gives = r.gives }

  -- a pointer to numbers of so many bits, at the address that an expression gives
  pub pointer-gives : (width : ℕ) (address : Expr) → Shown (parts_of address) → Text scope Low word (value_of scene address) (text s Low false address)
      → IsValue scope (pointer_to (unsigned_type width)) (value_of scene address) (pointer s width address (text s Low false address))
  pointer-gives width address shown x = by address shown x (cast-of width address x)
    where
      cast-of : (width : ℕ) (address : Expr) → Text scope Low word (value_of scene address) (text s Low false address)
          → IsValue scope (pointer_to (unsigned_type width)) (value_of scene address) (tree.Cast (pointer_to (unsigned_type width)) (text s Low false address))
      cast-of width address x =
          subst (λ k. IsValue scope (pointer_to (unsigned_type width)) k (tree.Cast (pointer_to (unsigned_type width)) (text s Low false address)))
          (wide-kept Low word x.base Uint (value_of scene address) refl x.is refl x.fits)
          (cast-value scope (pointer_to (unsigned_type width)) (plain x.base) (value_of scene address) _ (of-number scope x.base (value_of scene address) _ (wide-number scope Low word refl _ _ x)))

      -- a pointer as it stands
      direct : (location : Loc) → IsHeld s values scope.variables location → s.type location ≡ pointer_to (unsigned_type width)
          → IsValue scope (pointer_to (unsigned_type width)) (values location) (tree.Name (s.name location))
      direct location h is =
          let there : location_width s.bits location ≡ 16 = eqb-true (location_width s.bits location) 16
          (subst (λ t. is_type_for (location_width s.bits location) t ≡ true) is h.variable.typed) in
          let room : h.variable.bits < 65536 = subst (λ t. h.variable.bits < 2 ^ bits_of (number_of_type t)) is h.variable.room in
          let exactly : h.variable.bits ≡ values location = sym (mod-eq_of_lt room) ∙ ap (λ w. h.variable.bits % 2 ^ w) (sym there) ∙ h.low in
          subst (λ k. IsValue scope (pointer_to (unsigned_type width)) k (tree.Name (s.name location))) exactly
          (subst (λ t. IsValue scope t h.variable.bits (tree.Name (s.name location))) is (name-value scope (s.name location) (s.type location) h.variable.bits h.variable.found))

      by : (address : Expr) → Shown (parts_of address) → Text scope Low word (value_of scene address) (text s Low false address)
          → IsValue scope (pointer_to (unsigned_type width)) (value_of scene address) (tree.Cast (pointer_to (unsigned_type width)) (text s Low false address))
          → IsValue scope (pointer_to (unsigned_type width)) (value_of scene address) (pointer s width address (text s Low false address))
      by (Get location) shown x c = elim (cases_Bool (same_type (s.type location) (pointer_to (unsigned_type width)))) [
        | inl same ↦ rw same (direct location (held-here location [] shown) ((same_type-decides (s.type location) (pointer_to (unsigned_type width))).0 same))
        | inr apart ↦ rw apart c
      ]
      by address shown x c = c

  module _ (same : scope.memory ≡ memory) (small : (address : ℕ) → slice_index memory address < 256) where
    -- Each constructor.

    const-stands : (width n : ℕ) (z : Size) → width ≡ bits z → n < 2 ^ width → Stands (Const width n)
    const-stands width n z is fits = record {
      size = z;
      width = is;
      gives = λ way votes. rw is (constant-text scope way z n (subst (λ w. n < 2 ^ w) is fits));
    }

    load-stands : (width : ℕ) (address : Expr) → is_stored_width width ≡ true → is_width width ≡ true → Shown (parts_of address) → (x : Stands address) → x.size ≡ word → Stands (Load width address)
    load-stands width address stored is shown x at_word =
        let z = size-of width is in
        let a = pointer-gives width address shown (at-size address x word at_word Low false) in
        let e = tree.Unary Deref (pointer s width address (text s Low false address)) in
        let v = value_of scene address in
        let there : Text scope Exact z.0 (bytes_at memory (width / 8) v) e
        = subst (λ w. Text scope Exact z.0 (bytes_at memory (w / 8) v) e) (sym z.1)
        (load-text scope z.0 v memory _ (subst (λ w. is_stored_width w ≡ true) z.1 stored) same small (subst (λ w. IsValue scope (pointer_to (unsigned_type w)) v (pointer s width address (text s Low false address))) z.1 a)) in record {
          size = z.0;
          width = z.1;
          gives = λ way votes. subst (λ w. Text scope way z.0 (bytes_at memory (width / 8) v) (taken Exact way w e)) (sym z.1) (taken-means scope Exact way z.0 _ e there);
        }

    unary-stands : (operator : UnOp) (width : ℕ) (a : Expr) (x : Stands a) → width ≡ bits x.size → Stands (Unary operator width a)
    unary-stands operator width a x is = record {
      size = test_size operator x.size;
      width = there;
      gives = λ way votes. subst (λ w. Text scope way (test_size operator x.size) (unary_value operator width (value_of scene a))
          (taken (unary_result operator way width) way w (unary_text operator width (text s (operand_way operator way width) false a)))) (sym there)
          (taken-means scope (unary_result operator way width) way (test_size operator x.size) _ _
          (subst (λ w. Text scope (unary_result operator way w) (test_size operator x.size) (unary_value operator w (value_of scene a)) (unary_text operator w (text s (operand_way operator way w) false a))) (sym is)
          (unary-means scope way x.size operator (value_of scene a) _ (x.gives (operand_way operator way (bits x.size)) false))));
    }
      where
        there : (if is_test operator then 1 else width) ≡ bits (test_size operator x.size)
        there = by (is_test operator)
          where
            by : (b : Bool) → (if b then 1 else width) ≡ bits (if b then bit else x.size)
            by true = refl
            by false = is

    binary-stands : (operator : BinOp) (width : ℕ) (a b : Expr) (x : Stands a) (y : Stands b) → width ≡ bits x.size → y.size ≡ x.size
        → faults operator width (value_of scene a) (value_of scene b) ≡ false → Stands (Binary operator width a b)
    binary-stands operator width a b x y is equal safe = record {
      size = result_size operator x.size;
      width = there;
      gives = λ way votes. subst (λ w. Text scope way (result_size operator x.size) (binary_value operator width (value_of scene a) (value_of scene b))
          (taken (binary_result operator way width) way w (tree.Binary (symbol operator) (text s (left_way operator way width) (votes_left operator) a)
          (text s (right_way operator way width) (votes_right operator) b)))) (sym there)
          (taken-means scope (binary_result operator way width) way (result_size operator x.size) _ _
          (subst (λ w. Text scope (binary_result operator way w) (result_size operator x.size) (binary_value operator w (value_of scene a) (value_of scene b))
          (tree.Binary (symbol operator) (text s (left_way operator way w) (votes_left operator) a) (text s (right_way operator way w) (votes_right operator) b))) (sym is)
          (binary-means scope way x.size operator (value_of scene a) (value_of scene b) _ _ (x.gives (left_way operator way (bits x.size)) (votes_left operator))
          (at-size b y x.size equal (right_way operator way (bits x.size)) (votes_right operator))
          (subst (λ w. faults operator w (value_of scene a) (value_of scene b) ≡ false) is safe))));
    }
      where
        there : (if is_comparison operator then 1 else width) ≡ bits (result_size operator x.size)
        there = by (is_comparison operator)
          where
            by : (b : Bool) → (if b then 1 else width) ≡ bits (if b then bit else x.size)
            by true = refl
            by false = is

    widen-stands : (signed : Bool) (width : ℕ) (a : Expr) (x : Stands a) (z : Size) → width ≡ bits z → width_of s.bits a < width → Stands (Widen signed width a)
    widen-stands true width a x z is less =
        let wider : bits x.size < bits z = omega (arith, x.width, is, less) in record {
          size = z;
          width = is;
          gives = λ way votes. rw is (rw x.width (taken-means scope Signed way z _ _ (widened-signed scope x.size z (value_of scene a) _ wider (x.gives Signed true))));
        }
    widen-stands false width a x z is less =
        let wider : bits x.size < bits z = omega (arith, x.width, is, less) in record {
          size = z;
          width = is;
          gives = λ way votes. rw is (taken-means scope Exact way z _ _ (widened-exactly scope x.size z (value_of scene a) _ wider (x.gives Exact true)));
        }

    part-stands : (width first : ℕ) (a : Expr) (x : Stands a) (z : Size) → width ≡ bits z → first + width ≤ width_of s.bits a → Stands (Part width first a)
    part-stands width first a x z is within =
        let inside : first + bits z ≤ bits x.size = omega (arith, x.width, is, within) in record {
          size = z;
          width = is;
          gives = λ way votes. rw is (elim (cases_Bool (first == 0)) [
            | inl none ↦
                (let none_is : first ≡ 0 = eqb-true first 0 none in
                rw none (subst (λ f. Text scope way z (value_of scene a / 2 ^ f % 2 ^ bits z) (cut_to way (bits z) (text s Low false a))) (sym none_is)
                (low-part-text scope way x.size z (value_of scene a) _ (omega (arith, inside)) (x.gives Low false))))
            | inr some ↦ rw some (high-part-text scope way x.size z first (value_of scene a) _ inside (x.gives Exact true))
          ]);
        }

    join-stands : (high low : Expr) (x : Stands high) (y : Stands low) → x.size ≡ y.size → (bits y.size ≡ 8) ⊎ (bits y.size ≡ 16) → Stands (Join high low)
    join-stands high low x y equal few =
        let w = doubled y.size few in
        let whole : width_of s.bits high + width_of s.bits low ≡ bits w.0 = ap₂ (λ j k. j + k) (x.width ∙ ap bits equal) y.width ∙ sym w.1 in record {
          size = w.0;
          width = whole;
          gives = λ way votes. rw y.width (subst (λ k. Text scope way w.0 (value_of scene high * 2 ^ bits y.size + value_of scene low)
              (taken Exact way k (joined (bits y.size) (text s Exact true high) (text s Exact true low)))) w.1
              (taken-means scope Exact way w.0 _ _ (joined-text scope y.size w.0 (value_of scene high) (value_of scene low) _ _ w.1 few (at-size high x y.size equal Exact true) (y.gives Exact true))));
        }
      where
        doubled : (z : Size) → (bits z ≡ 8) ⊎ (bits z ≡ 16) → (wide : Size) × (bits wide ≡ bits z + bits z)
        doubled byte few = (word, refl)
        doubled word few = (long, refl)
        doubled bit (inl e) = absurd (omega (arith, e))
        doubled bit (inr e) = absurd (omega (arith, e))
        doubled long (inl e) = absurd (omega (arith, e))
        doubled long (inr e) = absurd (omega (arith, e))

    choose-stands : (test a b : Expr) (w : Stands test) (x : Stands a) (y : Stands b) → w.size ≡ bit → y.size ≡ x.size → Stands (Choose test a b)
    choose-stands test a b w x y one equal = record {
      size = x.size;
      width = x.width;
      gives = λ way votes. choice-text scope way x.size (value_of scene test) (value_of scene a) (value_of scene b) _ _ _ (at-size test w bit one Exact false) (x.gives way false) (at-size b y x.size equal way false);
    }

    address-stands : (distance : ℕ) → IsPlaced s base scope.variables distance → Stands (Address distance)
    address-stands distance is = record {
      size = word;
      width = refl;
      gives = λ way votes. taken-means scope Exact way word _ _ (placed-text scope s base distance is);
    }

    -- The whole expression.

    pub stands : (e : Expr) → is_expr s.bits e ≡ true → Shown (parts_of e) → Stands e
    stands (Const width n) formed shown =
        let (is, fits) = and_parts (is_width width) (nat_lt n (2 ^ width)) formed in
        let z = size-of width is in const-stands width n z.0 z.1 (ltb-true n (2 ^ width) fits)
    stands (Get location) formed shown = get-stands location (held-here location [] shown)
    stands (Load width address) formed shown =
        let (two, same_width) = and_parts (is_stored_width width && is_expr s.bits address) (width_of s.bits address == 16) formed in
        let (stored, inner) = and_parts (is_stored_width width) (is_expr s.bits address) two in
        let below = below-shown (Load width address) (parts_of address) shown in
        let x = stands address inner below in
        load-stands width address stored (stored-is width stored) below x (same-size x.size word (sym x.width ∙ eqb-true (width_of s.bits address) 16 same_width))
    stands (Unary operator width a) formed shown =
        let (two, same_width) = and_parts (is_width width && is_expr s.bits a) (width_of s.bits a == width) formed in
        let (is, inner) = and_parts (is_width width) (is_expr s.bits a) two in
        let x = stands a inner (below-shown (Unary operator width a) (parts_of a) shown) in
        unary-stands operator width a x (sym (eqb-true (width_of s.bits a) width same_width) ∙ x.width)
    stands (Binary operator width a b) formed shown =
        let (five, safe) = and_parts (is_width width && is_expr s.bits a && is_expr s.bits b && (width_of s.bits a == width)
        && (width_of s.bits b == width)) (not (is_division operator) || divides_safely operator width b) formed in
        let (four, second_width) = and_parts (is_width width && is_expr s.bits a && is_expr s.bits b && (width_of s.bits a == width)) (width_of s.bits b == width) five in
        let (three, first_width) = and_parts (is_width width && is_expr s.bits a && is_expr s.bits b) (width_of s.bits a == width) four in
        let (two, second) = and_parts (is_width width && is_expr s.bits a) (is_expr s.bits b) three in
        let (one, first) = and_parts (is_width width) (is_expr s.bits a) two in
        let below = below-shown (Binary operator width a b) (parts_of a ++ parts_of b) shown in
        let x = stands a first (first-shown (parts_of a) (parts_of b) below) in
        let y = stands b second (later-shown (parts_of a) (parts_of b) below) in
        let e : width ≡ bits x.size = sym (eqb-true (width_of s.bits a) width first_width) ∙ x.width in
        let f : width ≡ bits y.size = sym (eqb-true (width_of s.bits b) width second_width) ∙ y.width in
        binary-stands operator width a b x y e (same-size y.size x.size (sym f ∙ e)) (divides-safely scene operator width (value_of scene a) b safe)
    stands (Widen signed width a) formed shown =
        let (two, less) = and_parts (is_width width && is_expr s.bits a) (nat_lt (width_of s.bits a) width) formed in
        let (is, inner) = and_parts (is_width width) (is_expr s.bits a) two in
        let z = size-of width is in
        widen-stands signed width a (stands a inner (below-shown (Widen signed width a) (parts_of a) shown)) z.0 z.1 (ltb-true (width_of s.bits a) width less)
    stands (Part width first a) formed shown =
        let (two, within) = and_parts (is_width width && is_expr s.bits a) (nat_le (first + width) (width_of s.bits a)) formed in
        let (is, inner) = and_parts (is_width width) (is_expr s.bits a) two in
        let z = size-of width is in
        part-stands width first a (stands a inner (below-shown (Part width first a) (parts_of a) shown)) z.0 z.1 (leb-true (first + width) (width_of s.bits a) within)
    stands (Join high low) formed shown =
        let (three, few) = and_parts (is_expr s.bits high && is_expr s.bits low && (width_of s.bits high == width_of s.bits low)) (width_of s.bits low == 8 || width_of s.bits low == 16) formed in
        let (two, same_width) = and_parts (is_expr s.bits high && is_expr s.bits low) (width_of s.bits high == width_of s.bits low) three in
        let (upper, lower) = and_parts (is_expr s.bits high) (is_expr s.bits low) two in
        let below = below-shown (Join high low) (parts_of high ++ parts_of low) shown in
        let x = stands high upper (first-shown (parts_of high) (parts_of low) below) in
        let y = stands low lower (later-shown (parts_of high) (parts_of low) below) in
        join-stands high low x y
        (same-size x.size y.size (sym x.width ∙ eqb-true (width_of s.bits high) (width_of s.bits low) same_width ∙ y.width))
        (elim (or_cases (width_of s.bits low == 8) (width_of s.bits low == 16) few) [
          | inl eight ↦ inl (sym y.width ∙ eqb-true (width_of s.bits low) 8 eight)
          | inr sixteen ↦ inr (sym y.width ∙ eqb-true (width_of s.bits low) 16 sixteen)
        ])
    stands (Choose test a b) formed shown =
        let (four, same_width) = and_parts (is_expr s.bits test && is_expr s.bits a && is_expr s.bits b && (width_of s.bits test == 1)) (width_of s.bits a == width_of s.bits b) formed in
        let (three, one) = and_parts (is_expr s.bits test && is_expr s.bits a && is_expr s.bits b) (width_of s.bits test == 1) four in
        let (two, third) = and_parts (is_expr s.bits test && is_expr s.bits a) (is_expr s.bits b) three in
        let (first, second) = and_parts (is_expr s.bits test) (is_expr s.bits a) two in
        let below = below-shown (Choose test a b) (parts_of test ++ parts_of a ++ parts_of b) shown in
        let early = first-shown (parts_of test ++ parts_of a) (parts_of b) below in
        let w = stands test first (first-shown (parts_of test) (parts_of a) early) in
        let x = stands a second (later-shown (parts_of test) (parts_of a) early) in
        let y = stands b third (later-shown (parts_of test ++ parts_of a) (parts_of b) below) in
        choose-stands test a b w x y
        (same-size w.size bit (sym w.width ∙ eqb-true (width_of s.bits test) 1 one))
        (same-size y.size x.size (sym y.width ∙ sym (eqb-true (width_of s.bits a) (width_of s.bits b) same_width) ∙ x.width))
    stands (Address distance) formed shown = address-stands distance (placed-here distance [] shown)
