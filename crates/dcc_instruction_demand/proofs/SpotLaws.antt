-- Bytes of operands beside the halves where they stand.
use Rattle.std.proofs.Common.{◌≡◌, ℕ, ℤ, Bool, true, false, ◌||◌, ◌⊎◌, inl, inr, List, [], ◌∷◌, ◌++◌, Option, refl, sym, ◌∙◌, subst, true≢false}
use Rattle.std.specs.List.{list_all}
use Rattle.std.proofs.lemmas.List.{append-nil}
use Rattle.std.proofs.lemmas.Bool.Decides.{Decides-int_eq}
use Rattle.dcc_num.specs.declared.Width.{Width}
use Rattle.dcc_num.specs.declared.Width.TheVariants.{Byte as byte_width, Word as word_width}
use Rattle.dcc_num.specs.declared.FlagName.{FlagName}
use Rattle.dcc_num.specs.declared.FlagName.TheVariants.{Cf, Zf, Sf, Of}
use Rattle.dcc_machine.specs.Wanted.{half_of, flag_of, is_flag}
use Rattle.dcc_machine.specs.Writes.{is_same_register, is_same_half}
use Rattle.dcc_machine.proofs.AlikeValues.{register-self, half-self}
use Rattle.dcc_ir.specs.declared.syntax.Loc.{Loc}
use Rattle.dcc_ir.specs.Location.{same_location}
use Rattle.dcc_ir.specs.Tree.{Expr}
use Rattle.dcc_ir.specs.Use.{reads_of}
use Rattle.dcc_ir.proofs.LocationLaws.{location_itself, location_same, Contains-none}
use Rattle.dcc_ir.proofs.PathLaws.{decided}
use Rattle.dcc_ops.specs.OperandPlace.{OperandPlace, constant, byte, word, memory, computed, is_low, is_high}
use Rattle.dcc_lift.proofs.ListTests.{and_both, or_here, or_there, or_cases, same_test}
use Rattle.dcc_simulation.specs.Procedures.{Procedure}
use Rattle.dcc_machine_demand.specs.Bodies.{Body}
use Rattle.dcc_machine_demand.specs.Holders.{Holder, held, in_frame, Spot, placed, in_memory, nowhere, is_holder, is_at}
use Rattle.dcc_machine_demand.specs.Holders.{is_memory, is_same_holder}
use Rattle.dcc_machine_demand.proofs.PlaceLaws.{places-apart}
use Rattle.dcc_lifted_demand.specs.LiftedRefinement.{IsSame}
use Rattle.dcc_instruction_demand.proofs.IdleLaws.{same_once}
use Rattle.dcc_instruction_demand.proofs.ShownLaws.{Shows, shows_never, shows_one, shows_both, shows_alike}
use Rattle.dcc_instruction_demand.proofs.StageLaws.{is_kept_place, reads_at}

flag_itself : (f : FlagName) → is_flag f (flag_of f) ≡ true
flag_itself Cf = refl
flag_itself Zf = refl
flag_itself Sf = refl
flag_itself Of = refl

pub place_itself : (L : Holder) → is_same_holder L L ≡ true
place_itself (held (half_of r h)) = and_both (is_same_register r r) (is_same_half h h) (register-self r) (half-self h)
place_itself (held (flag_of f)) = flag_itself f
place_itself (in_frame k) = (Decides-int_eq k k).1 refl

-- The halves of a place, and what its address reads.

abbrev pub low_of : OperandPlace → List Loc
low_of (byte l) = l ∷ []
low_of (word l m) = l ∷ []
low_of Q = []

abbrev pub high_of : OperandPlace → List Loc
high_of (word l m) = m ∷ []
high_of Q = []

abbrev pub address_reads : OperandPlace → List Loc
address_reads (memory w e) = reads_of e
address_reads Q = []

module _ (o : Option Procedure) (body : Body) (exposed : Holder → Bool) where
  -- a byte that is memory, or that may be read anywhere: no location stands for it
  pub data IsOpenSpot : Spot → Type 0 where
    in_no_cell : IsOpenSpot in_memory
    in_open_cell : {k : ℤ} → exposed (in_frame k) ≡ true → IsOpenSpot (placed (in_frame k))

  -- a place that is a half
  pub record IsHalf (L : Holder) (l : Loc) : Type 0 where
    pub same : IsSame o L l
    pub inside : is_holder body L ≡ true
    pub kept : is_kept_place l ≡ true

  -- where one byte stands, and where two do
  pub data HasByte : Spot → OperandPlace → Type 0 where
    one_half : {L : Holder} {l : Loc} → IsHalf L l → HasByte (placed L) (byte l)
    constant_byte : {n : ℕ} → HasByte nowhere (constant byte_width n)
    open_byte : {s : Spot} {e : Expr} → IsOpenSpot s → list_all is_kept_place (reads_of e) ≡ true → HasByte s (memory byte_width e)

  pub data HasWord : Spot → Spot → OperandPlace → Type 0 where
    two_halves : {L M : Holder} {l m : Loc} → IsHalf L l → IsHalf M m → is_low l ≡ true → is_high m ≡ true → HasWord (placed L) (placed M) (word l m)
    constant_word : {n : ℕ} → HasWord nowhere nowhere (constant word_width n)
    of_pointer : {e : Expr} → reads_of e ≡ [] → HasWord nowhere nowhere (computed e)
    open_word : {s t : Spot} {e : Expr} → IsOpenSpot s → IsOpenSpot t → list_all is_kept_place (reads_of e) ≡ true → HasWord s t (memory word_width e)

  -- where the bytes of an operand of a width stand
  pub data HasBytes : Width → List Spot → OperandPlace → Type 0 where
    as_byte : {f : Spot} {Q : OperandPlace} → HasByte f Q → HasBytes byte_width (f ∷ []) Q
    as_word : {f g : Spot} {Q : OperandPlace} → HasWord f g Q → HasBytes word_width (f ∷ g ∷ []) Q

  -- Spots beside locations.

  module _ (one : (L M : Holder) (l : Loc) → IsSame o L l → IsSame o M l → L ≡ M) (unexposed : (L : Holder) (l : Loc) → IsSame o L l → exposed L ≡ true → ⊥) where
    -- a place is another one where its half is
    pub same_half : (L A : Holder) (l a : Loc) → IsSame o L l → IsSame o A a → is_same_holder A L ≡ same_location a l
    same_half L A l a s t = same_test (is_same_holder A L) (same_location a l)
        (λ e. let same : a ≡ l = same_once (subst (λ B. IsSame o B a) (places-apart A L e) t) s in subst (λ b. same_location a b ≡ true) same (location_itself a))
        (λ e. let same : A ≡ L = one A L l (subst (λ b. IsSame o A b) (location_same a l e) t) s in subst (λ B. is_same_holder A B ≡ true) same (place_itself A))

    pub open_apart : (s : Spot) → IsOpenSpot s → (A : Holder) (a : Loc) → IsSame o A a → is_at s A ≡ false
    open_apart _ IsOpenSpot.in_no_cell A a t = refl
    open_apart _ (IsOpenSpot.in_open_cell {k = k} e) A a t = elim (decided (is_same_holder A (in_frame k))) [
      | inr f ↦ f
      | inl same ↦ absurd (unexposed A a t (subst (λ B. exposed B ≡ true) (sym (places-apart A (in_frame k) same)) e))
    ]

    -- What is read of one byte.

    abbrev AtSpot : Spot → Holder → Type 0
    AtSpot f M = (is_holder body M ≡ true) × (is_at f M ≡ true)

    pub shown_open : (s : Spot) → IsOpenSpot s → Shows (IsSame o) (AtSpot s) []
    shown_open s opens = record {
      has = λ M m t q. absurd (true≢false (sym q.1 ∙ open_apart s opens M m t));
      comes = λ m c. absurd (Contains-none m c);
    }

    shown_nowhere : Shows (IsSame o) (AtSpot nowhere) []
    shown_nowhere = shows_never (IsSame o) (AtSpot nowhere) (λ M q. true≢false (sym q.1))

    shown_half : (L : Holder) (l : Loc) → IsHalf L l → Shows (IsSame o) (AtSpot (placed L)) (l ∷ [])
    shown_half L l h =
        shows_alike (IsSame o) (λ M. M ≡ L) (AtSpot (placed L)) (l ∷ []) (l ∷ []) (shows_one (IsSame o) (λ M m n s t. same_once s t) L l h.same)
        (λ M m s e. (subst (λ B. is_holder body B ≡ true) (sym e) h.inside, subst (λ B. is_same_holder B L ≡ true) (sym e) (place_itself L)))
        (λ M m s q. places-apart M L q.1) (λ l c. c) (λ l c. c)

    pub byte_shown : (f : Spot) (Q : OperandPlace) → HasByte f Q → Shows (IsSame o) (AtSpot f) (low_of Q)
    byte_shown _ _ (HasByte.one_half {L = L} {l = l} h) = shown_half L l h
    byte_shown _ _ HasByte.constant_byte = shown_nowhere
    byte_shown f _ (HasByte.open_byte opens kept) = shown_open f opens

    pub low_shown : (f g : Spot) (Q : OperandPlace) → HasWord f g Q → Shows (IsSame o) (AtSpot f) (low_of Q)
    low_shown _ _ _ (HasWord.two_halves {L = L} {l = l} a b low high) = shown_half L l a
    low_shown _ _ _ HasWord.constant_word = shown_nowhere
    low_shown _ _ _ (HasWord.of_pointer e) = shown_nowhere
    low_shown f _ _ (HasWord.open_word opens next kept) = shown_open f opens

    pub high_shown : (f g : Spot) (Q : OperandPlace) → HasWord f g Q → Shows (IsSame o) (AtSpot g) (high_of Q)
    high_shown _ _ _ (HasWord.two_halves {M = M} {m = m} a b low high) = shown_half M m b
    high_shown _ _ _ HasWord.constant_word = shown_nowhere
    high_shown _ _ _ (HasWord.of_pointer e) = shown_nowhere
    high_shown _ g _ (HasWord.open_word opens next kept) = shown_open g next

    -- of one byte, or for addresses
    pub either_shown : (f : Spot) (addresses : Holder → Bool) (xs ys : List Loc) → Shows (IsSame o) (AtSpot f) xs → Shows (IsSame o) (λ M. (is_holder body M ≡ true) × (addresses M ≡ true)) ys
        → Shows (IsSame o) (λ M. (is_holder body M ≡ true) × ((is_at f M || addresses M) ≡ true)) (xs ++ ys)
    either_shown f addresses xs ys a b =
        shows_alike (IsSame o) (λ M. AtSpot f M ⊎ ((is_holder body M ≡ true) × (addresses M ≡ true))) (λ M. (is_holder body M ≡ true) × ((is_at f M || addresses M) ≡ true)) (xs ++ ys) (xs ++ ys)
        (shows_both (IsSame o) (AtSpot f) (λ M. (is_holder body M ≡ true) × (addresses M ≡ true)) xs ys a b)
        (λ M m s p. elim p [
          | inl q ↦ (q.0, or_here (is_at f M) (addresses M) q.1)
          | inr q ↦ (q.0, or_there (is_at f M) (addresses M) q.1)
        ])
        (λ M m s q. elim (or_cases (is_at f M) (addresses M) q.1) [
          | inl e ↦ inl (q.0, e)
          | inr e ↦ inr (q.0, e)
        ]) (λ l c. c) (λ l c. c)

  -- all that is read of a place
  pub byte_reads : (f : Spot) (Q : OperandPlace) → HasByte f Q → address_reads Q ++ (high_of Q ++ low_of Q) ≡ reads_at Q
  byte_reads _ _ (HasByte.one_half h) = refl
  byte_reads _ _ HasByte.constant_byte = refl
  byte_reads _ _ (HasByte.open_byte {e = e} opens kept) = append-nil (reads_of e)

  pub word_reads : (f g : Spot) (Q : OperandPlace) → HasWord f g Q → address_reads Q ++ (high_of Q ++ low_of Q) ≡ reads_at Q
  word_reads _ _ _ (HasWord.two_halves a b low high) = refl
  word_reads _ _ _ HasWord.constant_word = refl
  word_reads _ _ _ (HasWord.of_pointer e) = sym e
  word_reads _ _ _ (HasWord.open_word {e = e} opens next kept) = append-nil (reads_of e)

  pub memory_open : (s : Spot) → is_memory s ≡ true → IsOpenSpot s
  memory_open in_memory t = IsOpenSpot.in_no_cell
  memory_open (placed L) t = absurd (true≢false (sym t))
  memory_open nowhere t = absurd (true≢false (sym t))
