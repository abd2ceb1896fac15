-- Which bytes of a frame stand in memory: those that the frame exposes and the others of their slots. Those of
-- arguments lie in words that the procedure may change.
use Rattle.std.proofs.Common.{◌≡◌, ◌≤◌, ◌<◌, ◌⊎◌, inl, inr, ℕ, suc, ◌+◌, ◌*◌, ℤ, pos, Bool, true, false, List, [], ◌∷◌, map, Contains, All, Option, Some, None, refl, sym, ap, ◌∙◌, subst, arith}
use Rattle.std.specs.Prelude.{neg_ℤ, ◌+ℤ◌, ◌≤ℤ◌, ◌<ℤ◌, int_le, int_lt, ◌&&◌}
use Rattle.std.specs.List.{range_with_len, list_any}
use Rattle.std.proofs.lemmas.Bool.{and_parts, and_from, or_left, or_right}
use Rattle.std.proofs.lemmas.Int.{ints, by_lt_z}
use Rattle.std.proofs.lemmas.List.{length-map, get_or-map}
use Rattle.std.proofs.lemmas.List.Elements.{All-contains, All-append, All-map, All-weaker, Contains-append_left, Contains-append_right}
use Rattle.std.proofs.lemmas.List.Folds.{list_any_at}
use Rattle.std.proofs.lemmas.List.FromFn.{length-range_with_len, get_or-range_with_len}
use Rattle.dcc_machine.specs.declared.image.Image.{Image}
use Rattle.dcc_prog.specs.declared.procedure.Layout.{Layout}
use Rattle.dcc_prog.specs.declared.frame.Cell.{Cell}
use Rattle.dcc_prog.specs.declared.frame.Frame.{Frame}
use Rattle.dcc_prog.specs.declared.frame.Program.{Program}
use Rattle.dcc_prog.specs.Frame.{Span, argument_word, HasArguments, of_start, of_procedure, IsPiece, IsCell, HasExposedLocal, no_local, local, HasExposedArguments, no_argument, from_argument, IsExposed, below_bp, in_arguments, IsSlot, IsExposedSlot, IsPlaced, by_itself, by_slot}
use Rattle.dcc_prog.specs.Analysed.{bytes_of}
use Rattle.dcc_prog.specs.Clean.{exposes}
use Rattle.dcc_prog.proofs.FrameLaws.{arguments-once}
use Rattle.dcc_machine.proofs.AlikeValues.{or-parts}
use Rattle.dcc_stack.specs.Accepted.{IsFrameFor}
use Rattle.dcc_stack.specs.Slots.{is_within, exposes_of, slots_of, is_placed, IsGivenBack, by_exposure}

-- Tests.

le-tells : (a b : ℤ) → int_le a b ≡ true → a ≤ℤ b
le-tells a b e = grind (arith, ints, e)

le-told : (a b : ℤ) → a ≤ℤ b → int_le a b ≡ true
le-told a b le = grind (arith, ints, le)

pub lt-tells : (a b : ℤ) → int_lt a b ≡ true → a <ℤ b
lt-tells a b e = grind (arith, ints, e)

pub lt-told : (a b : ℤ) → a <ℤ b → int_lt a b ≡ true
lt-told a b less = grind (arith, ints, less)

-- a test that some element of a list passes
pub record Passes {X : Type 0} (test : X → Bool) (xs : List X) : Type 0 where
  pub one : X
  pub among : Contains xs one
  pub passes : test one ≡ true

pub any-tells : {X : Type 0} (test : X → Bool) (xs : List X) → list_any test xs ≡ true → Passes test xs
any-tells test [] e = cc
any-tells test (x ∷ xs) e = elim (or-parts (test x) (list_any test xs) e) [
  | inl is ↦ record { one = x; among = (0, omega arith, refl); passes = is }
  | inr later ↦
      let rest = any-tells test xs later in let inside = rest.among.1 in
      record { one = rest.one; among = (suc rest.among.0, omega (arith, inside), rest.among.2); passes = rest.passes }
]

pub any-told : {X : Type 0} (test : X → Bool) (xs : List X) (x : X) → Contains xs x → test x ≡ true
    → list_any test xs ≡ true
any-told test xs x (k, inside, is) e = list_any_at test xs k x inside (ap test is ∙ e)

map-in : {A B : Type 0} (f : A → B) (xs : List A) (x : A) → Contains xs x → Contains (map f xs) (f x)
map-in f xs x (k, inside, is) =
    (k, omega (arith, inside, length-map xs f), get_or-map f xs k x (f x) inside ∙ ap f is)

-- a span has the byte
abbrev pub Has : Span → ℤ → Type 0
Has span k = (span.first ≤ℤ k) × (k <ℤ span.end)

pub within-tells : (k : ℤ) (span : Span) → is_within k span ≡ true → Has span k
within-tells k span e =
    let both = and_parts (int_le span.first k) (int_lt k span.end) e in
    (le-tells span.first k both.0, lt-tells k span.end both.1)

within-told : (k : ℤ) (span : Span) → Has span k → is_within k span ≡ true
within-told k span has =
    and_from (int_le span.first k) (int_lt k span.end) (le-told span.first k has.0) (lt-told k span.end has.1)

-- The frame that is found.

module _ (image : Image) (program : Program) (entry : ℕ) (frame : Frame)
    (f : IsFrameFor image program entry frame) where
  abbrev layout : Layout
  layout = program.layout

  -- Exposed bytes.

  abbrev exposes_local : ℤ → Bool
  exposes_local k = int_le (neg_ℤ (pos frame.exposed.local)) k && int_lt k (pos 0)

  abbrev exposes_argument : Option ℕ → ℤ → Bool
  exposes_argument arg k =
      elim arg [ None ↦ false | Some least ↦ int_le (pos least) k && int_lt k (pos (4 + 2 * frame.args)) ]

  argument-tells : (arg : Option ℕ) (k : ℤ) → HasExposedArguments image layout entry arg
      → exposes_argument arg k ≡ true
      → IsExposed image layout entry k
  argument-tells None k has e = cc
  argument-tells (Some least) k has e =
      let both = and_parts (int_le (pos least) k) (int_lt k (pos (4 + 2 * frame.args))) e in
      in_arguments has f.arguments (le-tells (pos least) k both.0) (lt-tells k (pos (4 + 2 * frame.args)) both.1)

  pub exposed-tells : (k : ℤ) → exposes frame k ≡ true → IsExposed image layout entry k
  exposed-tells k e =
      elim (or-parts (exposes_local k) (exposes_argument frame.exposed.arg k) e) [
        | inl below ↦
            let both = and_parts (int_le (neg_ℤ (pos frame.exposed.local)) k) (int_lt k (pos 0)) below in
            below_bp f.local (le-tells (neg_ℤ (pos frame.exposed.local)) k both.0) (lt-tells k (pos 0) both.1)
        | inr other ↦ argument-tells frame.exposed.arg k f.argument other
      ]

  local-least : {count local : ℕ} → HasExposedLocal image layout entry count → HasExposedLocal image layout entry local
      → neg_ℤ (pos local) ≤ℤ neg_ℤ (pos count)
  local-least (no_local none) other = omega (arith, ints)
  local-least {count = count} (local some start least) (no_local none) = none (neg_ℤ (pos count)) start
  local-least {count = count} (local some start least) (local _ _ lowest) = lowest (neg_ℤ (pos count)) start

  argument-told : (arg : Option ℕ) {least count : ℕ} (k : ℤ) → HasExposedArguments image layout entry arg
      → HasExposedArguments image layout entry (Some least) → HasArguments image layout entry count → pos least ≤ℤ k
      → k <ℤ pos (4 + 2 * count)
      → exposes_argument arg k ≡ true
  argument-told None {least = least} k (no_argument none) (from_argument far start lowest) has low high =
      let before = none (pos least) start in absurd (omega (arith, ints, before, far))
  argument-told (Some first) {least = least} {count = count} k (from_argument far' start' lowest')
      (from_argument far start lowest) has low high =
      let above : pos 4 ≤ℤ pos least = omega (arith, ints, far) in
      let le = lowest' (pos least) start above in
      let most = arguments-once has f.arguments in
      and_from (int_le (pos first) k) (int_lt k (pos (4 + 2 * frame.args)))
      (le-told (pos first) k (omega (arith, ints, le, low)))
      (lt-told k (pos (4 + 2 * frame.args)) (omega (arith, ints, high, most)))

  pub exposed-told : (k : ℤ) → IsExposed image layout entry k → exposes frame k ≡ true
  exposed-told k (below_bp {count = count} has low high) =
      let le = local-least has f.local in
      or_left (exposes_local k) (exposes_argument frame.exposed.arg k)
      (and_from (int_le (neg_ℤ (pos frame.exposed.local)) k) (int_lt k (pos 0))
      (le-told (neg_ℤ (pos frame.exposed.local)) k (omega (arith, ints, le, low))) (lt-told k (pos 0) high))
  exposed-told k (in_arguments exposed has low high) =
      or_right (exposes_local k) (exposes_argument frame.exposed.arg k)
      (argument-told frame.exposed.arg k f.argument exposed has low high)

  -- Slots.

  slots-are : All (IsSlot image layout entry) (slots_of frame)
  slots-are =
      All-append (IsSlot image layout entry) (map bytes_of frame.cells.items)
      (map argument_word (range_with_len 0 frame.args))
      (All-map (IsSlot image layout entry) bytes_of frame.cells.items
      (All-weaker (λ (c : Cell). IsCell image layout entry (bytes_of c)) (λ c. IsSlot image layout entry (bytes_of c))
      (λ c is. IsSlot.cell is) frame.cells.items f.cells))
      (All-map (IsSlot image layout entry) argument_word (range_with_len 0 frame.args)
      (λ k d inside.
      let less : k < frame.args = omega (arith, inside, length-range_with_len 0 frame.args) in
      let number : k ≡ 0 + k = omega arith in
      subst (λ n. IsSlot image layout entry (argument_word n))
      (number ∙ sym (get_or-range_with_len 0 frame.args k d less)) (IsSlot.argument f.arguments less)))

  slot-listed : (span : Span) → IsSlot image layout entry span → Contains (slots_of frame) span
  slot-listed span (IsSlot.cell is) =
      Contains-append_left (map bytes_of frame.cells.items) (map argument_word (range_with_len 0 frame.args)) span
      (f.every span is)
  slot-listed _ (IsSlot.argument {count = count} {number = number} has less) =
      let most = arguments-once has f.arguments in
      let inside : number < frame.args = omega (arith, most, less) in
      let is : 0 + number ≡ number = omega arith in
      Contains-append_right (map bytes_of frame.cells.items) (map argument_word (range_with_len 0 frame.args))
      (argument_word number)
      (map-in argument_word (range_with_len 0 frame.args) number (
        number,
        omega (arith, inside, length-range_with_len 0 frame.args),
        get_or-range_with_len 0 frame.args number number inside ∙ is,
      ))

  -- a slot has one byte or two
  slot-some : (span : Span) → IsSlot image layout entry span → span.first <ℤ span.end
  slot-some span (IsSlot.cell is) = is.extent.ends
  slot-some _ (IsSlot.argument has less) = omega (arith, ints)

  slot-small : (span : Span) → IsSlot image layout entry span → span.end ≤ℤ (span.first +ℤ pos 2)
  slot-small span (IsSlot.cell is) = is.small
  slot-small _ (IsSlot.argument has less) = omega (arith, ints)

  abbrev exposes_second : Span → Bool
  exposes_second span = int_lt (span.first +ℤ pos 1) span.end && exposes frame (span.first +ℤ pos 1)

  pub exposed-slot-tells : (span : Span) → IsSlot image layout entry span → exposes_of frame span ≡ true
      → IsExposedSlot image layout entry span
  exposed-slot-tells span is e =
      elim (or-parts (exposes frame span.first) (exposes_second span) e) [
        | inl first ↦ record {
          is_slot = is;
          offset = span.first;
          from = omega (arith, ints);
          to = slot-some span is;
          exposed = exposed-tells span.first first;
        }
        | inr second ↦
            let both = and_parts (int_lt (span.first +ℤ pos 1) span.end) (exposes frame (span.first +ℤ pos 1)) second in
            record {
              is_slot = is;
              offset = span.first +ℤ pos 1;
              from = omega (arith, ints);
              to = lt-tells (span.first +ℤ pos 1) span.end both.0;
              exposed = exposed-tells (span.first +ℤ pos 1) both.1;
            }
      ]

  pub exposed-slot-told : (span : Span) → IsExposedSlot image layout entry span → exposes_of frame span ≡ true
  exposed-slot-told span is =
      let small = slot-small span is.is_slot in
      by_lt_z span.first is.offset
      (λ later.
      let at : is.offset ≡ (span.first +ℤ pos 1) = omega (arith, ints, later, small, is.to) in
      or_right (exposes frame span.first) (exposes_second span)
      (and_from (int_lt (span.first +ℤ pos 1) span.end) (exposes frame (span.first +ℤ pos 1))
      (lt-told (span.first +ℤ pos 1) span.end (omega (arith, ints, later, is.to)))
      (exposed-told (span.first +ℤ pos 1) (subst (IsExposed image layout entry) at is.exposed))))
      (λ le.
      let at : is.offset ≡ span.first = omega (arith, ints, le, is.from) in
      or_left (exposes frame span.first) (exposes_second span)
      (exposed-told span.first (subst (IsExposed image layout entry) at is.exposed)))

  -- Bytes in memory.

  abbrev passes : ℤ → Span → Bool
  passes k span = is_within k span && exposes_of frame span

  pub placed-tells : (k : ℤ) → is_placed frame k ≡ true → IsPlaced image layout entry k
  placed-tells k e = elim (or-parts (exposes frame k) (list_any (passes k) (slots_of frame)) e) [
    | inl exposed ↦ by_itself (exposed-tells k exposed)
    | inr slot ↦
        let s = any-tells (passes k) (slots_of frame) slot in
        let both = and_parts (is_within k s.one) (exposes_of frame s.one) s.passes in
        let has = within-tells k s.one both.0 in
        let is = All-contains (IsSlot image layout entry) (slots_of frame) s.one slots-are s.among in
        by_slot (exposed-slot-tells s.one is both.1) has.0 has.1
  ]

  pub placed-told : (k : ℤ) → IsPlaced image layout entry k → is_placed frame k ≡ true
  placed-told k (by_itself exposed) =
      or_left (exposes frame k) (list_any (passes k) (slots_of frame)) (exposed-told k exposed)
  placed-told k (by_slot {slot} is low high) =
      or_right (exposes frame k) (list_any (passes k) (slots_of frame))
      (any-told (passes k) (slots_of frame) slot (slot-listed slot is.is_slot)
      (and_from (is_within k slot) (exposes_of frame slot) (within-told k slot (low, high))
      (exposed-slot-told slot is)))

  pub placed-decided : (k : ℤ) → IsPlaced image layout entry k ⊎ (¬ IsPlaced image layout entry k)
  placed-decided k = by (is_placed frame k) refl
    where
      by : (b : Bool) → is_placed frame k ≡ b → IsPlaced image layout entry k ⊎ (¬ IsPlaced image layout entry k)
      by true e = inl (placed-tells k e)
      by false e = inr (λ is. let clash = sym (placed-told k is) ∙ e in cc)

  -- Arguments.

  module _ (number : ℕ) (less : number < frame.args) (k : ℤ) (has : Has (argument_word number) k) where
    -- a slot with a byte of an argument lies in its word
    cell-inside : (span : Span) → IsCell image layout entry span → Has span k → (j : ℤ) → Has span j
        → Has (argument_word number) j
    cell-inside span is at j other =
        let piece : IsPiece image layout entry (argument_word number) = IsPiece.argument f.arguments less in
        let low : (argument_word number).first ≤ℤ span.first =
        by_lt_z span.first (argument_word number).first
        (λ before. absurd (is.extent.apart_after (record {
          span = argument_word number;
          piece = piece;
          before = omega (arith, ints, before, is.small, at.1, has.0);
          after = omega (arith, ints, before, is.small, at.1, has.0);
        })))
        (λ le. le) in
        let high : span.first ≤ℤ (argument_word number).first =
        by_lt_z (argument_word number).first span.first
        (λ after. absurd (is.extent.apart_before (record {
          span = argument_word number;
          piece = piece;
          before = after;
          after = omega (arith, ints, after, at.0, has.1);
        })))
        (λ le. le) in
        (omega (arith, ints, low, other.0), omega (arith, ints, high, is.small, other.1))

    slot-inside : (span : Span) → IsSlot image layout entry span → Has span k → (j : ℤ) → Has span j
        → Has (argument_word number) j
    slot-inside span (IsSlot.cell is) at j other = cell-inside span is at j other
    slot-inside _ (IsSlot.argument {number = n} _ _) at j other =
        let same : n ≡ number = omega (arith, ints, at.0, at.1, has.0, has.1) in
        subst (λ m. Has (argument_word m) j) same other

    exposed-word : (j : ℤ) → Has (argument_word number) j → IsExposed image layout entry j
        → IsExposedSlot image layout entry (argument_word number)
    exposed-word j in_word exposed = record {
      is_slot = IsSlot.argument f.arguments less;
      offset = j;
      from = in_word.0;
      to = in_word.1;
      exposed = exposed;
    }

    -- the word of an argument of which a byte stands in memory may change
    pub placed-given-back : IsPlaced image layout entry k → IsGivenBack image layout entry number
    placed-given-back (by_itself exposed) = by_exposure (exposed-word k has exposed)
    placed-given-back (by_slot {slot} is low high) =
        let has_it = slot-inside slot is.is_slot (low, high) is.offset (is.from, is.to) in
        by_exposure (exposed-word is.offset has_it is.exposed)
