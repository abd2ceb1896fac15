-- Statements, a step each: assignments, stores and DOS calls.
use Rattle.std.proofs.Common.{◌≡◌, ℕ, zero, suc, ◌+◌, ◌/◌, ◌%◌, ◌^◌, ◌<◌, ◌⊎◌, inl, inr, Bool, true, false, ◌==◌, ◌&&◌, ◌||◌, List, [], ◌∷◌, refl, sym, ap, ap₂, ◌∙◌, subst, true≢false, arith, mod-eq_of_lt}
use Rattle.std.specs.Prelude.{if◌then◌else◌, Contains, slice_set}
use Rattle.std.proofs.lemmas.Bool.{or_cases, cases_Bool, eqb-true}
use Rattle.std.proofs.lemmas.Nat.{mod_below, pow_pos}
use Rattle.dcc_ir.specs.declared.syntax.Loc.{Loc}
use Rattle.dcc_ir.specs.Location.{location_width, same_location}
use Rattle.dcc_ir.specs.Tree as inner
use Rattle.dcc_ir.specs.Value.{width_of, Environment, value_of, with_bytes_at, Fits}
use Rattle.dcc_ir.specs.WellFormed.{is_width, is_stored_width, is_expr}
use Rattle.dcc_ir.specs.Dos.{dos_string}
use Rattle.dcc_ir.specs.Run as inner_run
use Rattle.dcc_ir.proofs.LocationLaws.{location_itself, Contains-none, Contains-cases}
use Rattle.dcc_c.specs.declared.syntax.Base.{Base}
use Rattle.dcc_c.specs.declared.syntax.Base.TheVariants.{Uint}
use Rattle.dcc_c.specs.declared.syntax.CType.{CType}
use Rattle.dcc_c.specs.declared.syntax.CUn.TheVariants.{Deref}
use Rattle.dcc_c.specs.Types.{bits_of, extended_bits, convert, plain, number_of_type, size_of}
use Rattle.dcc_c.specs.Memory.{store}
use Rattle.dcc_c.specs.Dos.{string_at}
use Rattle.dcc_c.specs.Tree as tree
use Rattle.dcc_c.specs.Tree.{Tree}
use Rattle.dcc_c.specs.Value.{value, number, converted, Gives, and_then, pointed_target, ToMemory, target_of, Scope}
use Rattle.dcc_c.specs.Run as text_run
use Rattle.dcc_text.specs.Spelling.{Spelling}
use Rattle.dcc_text.specs.Spelled.{Way, Low, Exact, Signed, unsigned_type, pointer, text}
use Rattle.dcc_text.specs.Meaning.{is_type_for}
use Rattle.dcc_text.specs.Stmts.{place_of, assigned, wanted_way, setting}
use Rattle.dcc_text.specs.Holding.{IsSpelling, HoldsFrame, Holds, IsWithin}
use Rattle.dcc_text.proofs.Sizes.{Size, bit, byte, word, long, bits, extended-is, size-of}
use Rattle.dcc_text.proofs.Ways.{Text, lowered}
use Rattle.dcc_text.proofs.Operands.{exact-holds, exact-is}
use Rattle.dcc_text.proofs.Parts.{low-extended}
use Rattle.dcc_text.proofs.Readings.{IsValue, cast-value, of-number}
use Rattle.dcc_text.proofs.Texts.{Stands, stands, same-size, pointer-gives}
use Rattle.dcc_text.proofs.Assignments.{shown-within, held-after, assign-is}

-- Numbers that are taken by types.

-- the bits of a type for a location
pub type-bits : (width : ℕ) (base : Base) (pointer : Bool) → is_type_for width (record { base = base; pointer = pointer }) ≡ true
    → bits_of (number_of_type (record { base = base; pointer = pointer })) ≡ (if width == 1 then 8 else width)
type-bits width base false typed = eqb-true (bits_of base) (if width == 1 then 8 else width) typed
type-bits width base true typed = rw (eqb-true width 16 typed) refl

-- low bits stay in them
pub taken-low : (size : Size) (x n room : ℕ) → room ≡ (if bits size == 1 then 8 else bits size) → x % 2 ^ bits size ≡ n → x % 2 ^ room % 2 ^ bits size ≡ n
taken-low bit x n room is low = rw is (omega (arith, low))
taken-low byte x n room is low = rw is (omega (arith, low))
taken-low word x n room is low = rw is (omega (arith, low))
taken-low long x n room is low = rw is (omega (arith, low))

-- the low bits of a variable are the number where it has more than a bit
pub taken-wide : (size : Size) (x n room : ℕ) → room ≡ (if bits size == 1 then 8 else bits size) → (bits size == 1) ≡ false → x < 2 ^ room → x % 2 ^ bits size ≡ n → x ≡ n
taken-wide bit x n room is more small low = absurd (true≢false more)
taken-wide byte x n room is more small low = sym (mod-eq_of_lt (subst (λ r. x < 2 ^ r) is small)) ∙ low
taken-wide word x n room is more small low = sym (mod-eq_of_lt (subst (λ r. x < 2 ^ r) is small)) ∙ low
taken-wide long x n room is more small low = sym (mod-eq_of_lt (subst (λ r. x < 2 ^ r) is small)) ∙ low

-- a store of the text and a store of the inner language write the same bytes
store-is : (count : ℕ) (memory : List ℕ) (at n : ℕ) → store count memory at n ≡ with_bytes_at memory count at n
store-is zero memory at n = refl
store-is (suc count) memory at n = store-is count (slice_set memory (at % 65536) (n % 256)) (at + 1) (n / 256)

-- call 09h of the inner language and `dos_puts` have the same string in memory
pub string-is : (memory : List ℕ) (at : ℕ) → string_at memory at ≡ dos_string memory at
unfolding string_at dos_string
string-is memory at = refl

module _ (scope : Scope) where
  -- what a variable of a type takes of an expression, for a location of so many bits
  pub record IsTaken (width : ℕ) (settled : Bool) (n : ℕ) (type : CType) (e : tree.Expr) : Type 0 where
    pub of_type : CType
    pub k : ℕ
    pub is : IsValue scope of_type k (if type.pointer then tree.Cast type e else e)
    pub low : (converted type (value of_type k)).bits % 2 ^ width ≡ n
    pub settled_is : settled ≡ true → (converted type (value of_type k)).bits ≡ n

  -- the bits that a type takes of a number
  module _ (way : Way) (size : Size) (settled : Bool) (n : ℕ) (e : tree.Expr) (x : Text scope way size n e) (exact : settled ≡ true → (bits size == 1) ≡ true → way ≡ Exact) where
    low-bits : extended_bits x.base x.k % 2 ^ bits size ≡ n
    low-bits = low-extended scope size n e (lowered scope way size n e x)

    exact-bit : (to : Base) → bits_of to ≡ 8 → (bits size == 1) ≡ true → way ≡ Exact → convert x.base to x.k ≡ n
    exact-bit to few one is_exact = at size way x one is_exact
      where
        at : (size : Size) (way : Way) → (x : Text scope way size n e) → (bits size == 1) ≡ true → way ≡ Exact → convert x.base to x.k ≡ n
        at bit Exact x one is_exact =
            let f = x.fits in
            ap (convert x.base to) (exact-is scope bit n e x) ∙ ap (λ j. j % 2 ^ bits_of to) (extended-is bit x.base n (exact-holds bit x.base x.is) x.fits)
            ∙ ap (λ w. n % 2 ^ w) few ∙ mod-eq_of_lt (let small : n < 256 = omega (arith, f) in small)
        at bit Low x one is_exact = absurd cc
        at bit Signed x one is_exact = absurd cc
        at byte way x one is_exact = absurd (true≢false (sym one))
        at word way x one is_exact = absurd (true≢false (sym one))
        at long way x one is_exact = absurd (true≢false (sym one))

    taken-bits : (to : Base) → bits_of to ≡ (if bits size == 1 then 8 else bits size) → settled ≡ true → convert x.base to x.k ≡ n
    taken-bits to room is = elim (cases_Bool (bits size == 1)) [
      | inl one ↦ exact-bit to (room ∙ ap (λ b. if b then 8 else bits size) one) one (exact is one)
      | inr more ↦
          taken-wide size (convert x.base to x.k) n (bits_of to) room more (mod_below (extended_bits x.base x.k) (2 ^ bits_of to) (pow_pos (bits_of to)))
          (taken-low size (extended_bits x.base x.k) n (bits_of to) room low-bits)
    ]

    pub is-taken : (base : Base) (pointer : Bool) → is_type_for (bits size) (record { base = base; pointer = pointer }) ≡ true → IsTaken (bits size) settled n (record { base = base; pointer = pointer }) e
    is-taken base false typed =
        let room = type-bits (bits size) base false typed in record {
          of_type = plain x.base;
          k = x.k;
          is = of-number scope x.base x.k e x.number_is;
          low = taken-low size (extended_bits x.base x.k) n (bits_of base) room low-bits;
          settled_is = λ is. taken-bits base room is;
        }
    is-taken base true typed =
        let room = type-bits (bits size) base true typed in record {
          of_type = record { base = base; pointer = true };
          k = convert x.base Uint x.k;
          is = cast-value scope (record { base = base; pointer = true }) (plain x.base) x.k e (of-number scope x.base x.k e x.number_is);
          low = ap (λ j. j % 2 ^ bits size) (again (extended_bits x.base x.k)) ∙ taken-low size (extended_bits x.base x.k) n 16 room low-bits;
          settled_is = λ is. again (extended_bits x.base x.k) ∙ taken-bits Uint room is;
        }
      where
        again : (j : ℕ) → j % 65536 % 65536 ≡ j % 65536
        again j = omega arith

module _ (s : Spelling) (whole : Tree) (Before After : Loc → Type 0) (AreAlike : List inner_run.Waiting → List text_run.Waiting → Type 0)
    (at : ℕ) (i : inner_run.State) (t : text_run.State) (spelling : IsSpelling s) (fits : Fits (inner_run.scene_of i)) (before : (l : Loc) → Before l → s.named l ≡ true)
    (h : Holds s Before AreAlike i t) where
  abbrev pub scope_here : Scope
  scope_here = text_run.scope_of whole t

  abbrev pub scene_here : Environment
  scene_here = record { bits = s.bits; values = i.running.values; base = i.running.base; memory = i.memory }

  -- what an expression within gives
  pub stands-here : (e : inner.Expr) → is_expr s.bits e ≡ true → IsWithin s Before e → Stands s scope_here i.running.values i.running.base i.memory e
  stands-here e formed within =
      stands s scope_here i.running.values i.running.base i.memory h.memory fits.bytes e formed (shown-within s whole Before AreAlike i t h e within)

  -- the value by the widths of the spelling
  pub value-here : (e : inner.Expr) → value_of scene_here e ≡ inner_run.value_in i e
  value-here e = ap (λ bits. value_of (record { bits = bits; values = i.running.values; base = i.running.base; memory = i.memory }) e) (sym h.frame.bits)

  -- what is held after a statement that writes one location
  pub left-of : (location : Loc) → ((l : Loc) → After l → Contains (location ∷ []) l ⊎ Before l) → (l : Loc) → After l → same_location l location ≡ false → Before l
  left-of location left l has apart = elim (left l has) [
    | inl written ↦ Contains-cases location [] l (Before l) (λ same. absurd (true≢false (sym (location_itself location) ∙ ap (λ k. same_location k location) same ∙ apart))) (λ none. absurd (Contains-none l none)) written
    | inr was ↦ was
  ]

  -- A location takes what an expression of a text gives.
  pub takes-step : (location : Loc) (n : ℕ) (e : tree.Expr) → s.named location ≡ true → ((l : Loc) → After l → Contains (location ∷ []) l ⊎ Before l)
      → IsTaken scope_here (location_width s.bits location) (s.settled location) n (s.type location) e
      → Holds s After AreAlike (inner_run.setting location n i) (text_run.stmt_step whole (tree.Assign (place_of s location) (assigned s location e)) at t)
  takes-step location n e named left x =
      subst (Holds s After AreAlike (inner_run.setting location n i)) (sym (assign-is s whole Before AreAlike i t h location named (assigned s location e) x.of_type x.k at x.is))
      (held-after s whole Before AreAlike i t h spelling After location named (left-of location left) before (value x.of_type x.k) n x.low x.settled_is)

  -- a type has room for its location
  pub typed-is : (location : Loc) → s.named location ≡ true → (width : ℕ) → location_width s.bits location ≡ width → is_type_for width (s.type location) ≡ true
  typed-is location named width is = subst (λ w. is_type_for w (s.type location) ≡ true) is (h.frame.variables location named).typed

  pub set-step : (location : Loc) (e : inner.Expr) → s.named location ≡ true → is_expr s.bits e ≡ true → width_of s.bits e ≡ location_width s.bits location → IsWithin s Before e
      → ((l : Loc) → After l → Contains (location ∷ []) l ⊎ Before l)
      → Holds s After AreAlike (inner_run.setting location (inner_run.value_in i e) i) (text_run.stmt_step whole (setting s location e) at t)
  set-step location e named formed width within left =
      let x = stands-here e formed within in
      let there : location_width s.bits location ≡ bits x.size = sym width ∙ x.width in
      let way = wanted_way s location in
      let taken = is-taken scope_here way x.size (s.settled location) _ _ (x.gives way false)
      (λ is one. ap (λ b. if b then Exact else Low) (ap₂ (λ a b. a && b) (ap (λ w. w == 1) there ∙ one) is))
      (s.type location).base (s.type location).pointer (typed-is location named (bits x.size) there) in
      subst (λ n. Holds s After AreAlike (inner_run.setting location n i) (text_run.stmt_step whole (setting s location e) at t)) (value-here e)
      (takes-step location _ (text s way false e) named left
      (subst (λ w. IsTaken scope_here w (s.settled location) (value_of scene_here e) (s.type location) (text s way false e)) (sym there) taken))

  -- Where nothing is written to a location.

  pub frame-left : ((l : Loc) → After l → Contains [] l ⊎ Before l) → HoldsFrame s After i.running t.frame
  frame-left left = record {
    bits = h.frame.bits;
    base = h.frame.base;
    variables = h.frame.variables;
    values = λ l has. h.frame.values l (elim (left l has) [ inl none ↦ absurd (Contains-none l none) | inr was ↦ was ]);
    places = h.frame.places;
  }

  -- A number goes to an address.
  pub store-step : (width : ℕ) (address e : inner.Expr) → is_stored_width width ≡ true → is_width width ≡ true → is_expr s.bits address ≡ true → width_of s.bits address ≡ 16
      → is_expr s.bits e ≡ true → width_of s.bits e ≡ width → IsWithin s Before address → IsWithin s Before e → ((l : Loc) → After l → Contains [] l ⊎ Before l)
      → Holds s After AreAlike (inner_run.storing width (inner_run.value_in i address) (inner_run.value_in i e) i)
      (text_run.stmt_step whole (tree.Assign (tree.Unary Deref (pointer s width address (text s Low false address))) (text s Low false e)) at t)
  store-step width address e stored is address_formed address_width formed e_width address_within within left =
      let a = stands-here address address_formed address_within in
      let x = stands-here e formed within in
      let low = x.gives Low false in
      let z = size-of width is in
      let same : x.size ≡ z.0 = same-size x.size z.0 (sym x.width ∙ e_width ∙ z.1) in
      let to = unsigned_type width in
      let p = pointer-gives s scope_here i.running.values i.running.base i.memory width address (shown-within s whole Before AreAlike i t h address address_within)
      (subst (λ k. Text scope_here Low k (value_of scene_here address) (text s Low false address)) (same-size a.size word (sym a.width ∙ address_width)) (a.gives Low false)) in
      let target : target_of scope_here (tree.Unary Deref (pointer s width address (text s Low false address))) ≡ Gives (ToMemory (plain to) (value_of scene_here address)) = ap (and_then pointed_target) p.valued in
      let stepped = ap (λ o. text_run.on o at t (λ v. text_run.on (target_of scope_here (tree.Unary Deref (pointer s width address (text s Low false address)))) at t (λ target. text_run.takes target v t))) low.number_is.valued
      ∙ ap (λ o. text_run.on o at t (λ target. text_run.takes target (number low.base low.k) t)) target in
      let bytes = fits-in width (extended_bits low.base low.k) _ stored (ap (λ w. extended_bits low.base low.k % 2 ^ w) (e_to x.width e_width) ∙ low-extended scope_here x.size _ _ low) in
      subst (Holds s After AreAlike (inner_run.storing width (inner_run.value_in i address) (inner_run.value_in i e) i)) (sym stepped)
      (record {
        frame = frame-left left;
        waiting = h.waiting;
        memory = ap₂ (λ count n. store count t.memory (value_of scene_here address) n) (count-is width stored) (bytes ∙ value-here e) ∙ ap₂ (λ m b. store (width / 8) m b (inner_run.value_in i e)) h.memory (value-here address)
            ∙ store-is (width / 8) i.memory (inner_run.value_in i address) (inner_run.value_in i e);
        input = h.input;
        events = h.events;
        end = h.end;
      })
    where
      e_to : {a b c : ℕ} → a ≡ b → a ≡ c → c ≡ b
      e_to p q = sym q ∙ p

      stored-cases : (P : ℕ → Type 0) → P 8 → P 16 → P 32 → (w : ℕ) → is_stored_width w ≡ true → P w
      stored-cases P one two four w stored = elim (or_cases (w == 8 || w == 16) (w == 32) stored) [
        | inl few ↦ elim (or_cases (w == 8) (w == 16) few) [
          | inl is ↦ subst P (sym (eqb-true w 8 is)) one
          | inr is ↦ subst P (sym (eqb-true w 16 is)) two
        ]
        | inr is ↦ subst P (sym (eqb-true w 32 is)) four
      ]

      count-is : (w : ℕ) → is_stored_width w ≡ true → size_of (plain (unsigned_type w)) ≡ w / 8
      count-is = stored-cases (λ w. size_of (plain (unsigned_type w)) ≡ w / 8) refl refl refl

      fits-in : (w j n : ℕ) → is_stored_width w ≡ true → j % 2 ^ w ≡ n → j % 2 ^ bits_of (unsigned_type w) ≡ n
      fits-in w j n stored low = stored-cases (λ w. j % 2 ^ w ≡ n → j % 2 ^ bits_of (unsigned_type w) ≡ n) (λ low. low) (λ low. low) (λ low. low) w stored low
