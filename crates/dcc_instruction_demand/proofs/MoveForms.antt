-- Of what MOV and XCHG make the halves that they write, by where their operands stand.
use Rattle.std.proofs.Common.{◌≡◌, ℕ, ◌/◌, ◌%◌, Bool, true, false, not, ◌&&◌, ◌||◌, List, [], ◌∷◌, ◌++◌, Option, refl, ap, ◌∙◌}
use Rattle.std.specs.Prelude.{flat_map}
use Rattle.dcc_num.specs.declared.Width.TheVariants.{Byte as byte_width, Word as word_width}
use Rattle.dcc_num.specs.Numbers.{bits_of}
use Rattle.dcc_ir.specs.declared.syntax.Loc.{Loc}
use Rattle.dcc_ir.specs.Location.{same_location}
use Rattle.dcc_ir.specs.Tree.{Const, Get, Part, Stmt, Set}
use Rattle.dcc_ir.specs.Live.{is_among}
use Rattle.dcc_ir.proofs.LocationLaws.{location_itself}
use Rattle.dcc_ops.specs.OperandPlace.{OperandPlace, byte, word, memory, computed, is_low, is_high, taking}
use Rattle.dcc_ops.specs.Temporaries.{left_place}
use Rattle.dcc_ops.specs.Expressions.{left}
use Rattle.dcc_ops.specs.Statements.{mov_stmts}
use Rattle.dcc_lift.proofs.ListTests.{and_both, and_false, or_here, or_there}
use Rattle.dcc_simulation.specs.Procedures.{Procedure}
use Rattle.dcc_sums.specs.Instance.{is_half, is_pushed}
use Rattle.dcc_machine_demand.specs.Bodies.{Body}
use Rattle.dcc_machine_demand.specs.Holders.{Holder, Spot}
use Rattle.dcc_lifted_demand.specs.Sources.{before, sources, used}
use Rattle.dcc_instruction_demand.specs.Agreement.{Quiet}
use Rattle.dcc_instruction_demand.proofs.ValueLaws.{is_written, none_pops}
use Rattle.dcc_instruction_demand.proofs.StageLaws.{is_lasting, reads_at}
use Rattle.dcc_instruction_demand.proofs.SpotLaws.{low_of, high_of, address_reads, HasByte, HasWord}
use Rattle.dcc_instruction_demand.proofs.MoveStmts.{apart_back, low_kept, halves_apart, temp_apart, set_alone}
use Rattle.dcc_instruction_demand.proofs.MoveStmts.{set_first, set_second, taken, written_two, moved_unwritten}
use Rattle.dcc_instruction_demand.proofs.MoveStmts.{taken_useless, unpopped}

module _ (o : Option Procedure) (body : Body) (exposed : Holder → Bool) where
  abbrev ByteAt : Spot → OperandPlace → Type 0
  ByteAt = HasByte o body exposed

  abbrev WordAt : Spot → Spot → OperandPlace → Type 0
  WordAt = HasWord o body exposed

  -- a half of a byte, and the low and high one of a word, are made of just what stands there
  module _ (l : Loc) where
    pub byte_moved : (f : Spot) (Q : OperandPlace) → ByteAt f Q → sources (mov_stmts byte_width (byte l) Q) l ≡ low_of Q ++ address_reads Q
    byte_moved _ _ (HasByte.one_half {l = m} h) = set_alone l (Get m)
    byte_moved _ _ (HasByte.constant_byte {n = n}) = set_alone l (Const (bits_of byte_width) n)
    byte_moved _ _ (HasByte.open_byte {e = e} opens t) =
        ap (flat_map (before (taking (left_place byte_width) (memory byte_width e)))) (set_alone l (left byte_width)) ∙ taken (left_place byte_width) (memory byte_width e)

    pub byte_unwritten : (f : Spot) (Q : OperandPlace) → ByteAt f Q → (m : Loc) → is_lasting m ≡ true → is_written (mov_stmts byte_width (byte l) Q) m ≡ is_among (l ∷ []) m
    byte_unwritten _ _ (HasByte.one_half h) m t = refl
    byte_unwritten _ _ HasByte.constant_byte m t = refl
    byte_unwritten _ _ (HasByte.open_byte {e = e} opens k) m t = moved_unwritten byte_width (memory byte_width e) (Set l (left byte_width) ∷ []) m t

    pub byte_useless : (f : Spot) (Q : OperandPlace) → ByteAt f Q → used (mov_stmts byte_width (byte l) Q) [] ≡ []
    byte_useless _ _ (HasByte.one_half h) = refl
    byte_useless _ _ HasByte.constant_byte = refl
    byte_useless _ _ (HasByte.open_byte {e = e} opens k) = taken_useless byte_width (memory byte_width e) (Set l (left byte_width) ∷ []) refl

    pub byte_unpopped : (f : Spot) (Q : OperandPlace) → (pushed : ℕ) → ((m : Loc) → is_among (low_of Q ++ high_of Q) m ≡ true → is_pushed pushed m ≡ false) → ByteAt f Q → none_pops pushed (mov_stmts byte_width (byte l) Q) ≡ true
    byte_unpopped _ _ pushed unpushed (HasByte.one_half {l = m} h) =
        ap (λ b. not (is_half l && b) && true) (unpushed m (or_here (same_location m m) false (location_itself m))) ∙ ap (λ b. not b && true) (and_false (is_half l))
    byte_unpopped _ _ pushed unpushed HasByte.constant_byte = refl
    byte_unpopped _ _ pushed unpushed (HasByte.open_byte {e = e} opens k) =
        unpopped byte_width (memory byte_width e) pushed (Set l (left byte_width) ∷ []) (ap (λ b. not b && true) (and_false (is_half l)))

    pub byte_quiet : (f : Spot) (Q : OperandPlace) → ByteAt f Q → Quiet (mov_stmts byte_width (byte l) Q)
    byte_quiet _ _ (HasByte.one_half h) = (refl, tt)
    byte_quiet _ _ HasByte.constant_byte = (refl, tt)
    byte_quiet _ _ (HasByte.open_byte opens k) = (refl, (refl, tt))

  module _ (l h : Loc) (low : is_low l ≡ true) (high : is_high h ≡ true) where
    apart : same_location l h ≡ false
    apart = halves_apart l h low high

    abbrev stored : List Stmt
    stored = Set l (Part 8 0 (left word_width)) ∷ Set h (Part 8 8 (left word_width)) ∷ []

    low_taken : (Q : OperandPlace) → sources (taking (left_place word_width) Q ∷ Set l (Part 8 0 (left word_width)) ∷ Set h (Part 8 8 (left word_width)) ∷ []) l ≡ reads_at Q
    low_taken Q = ap (flat_map (before (taking (left_place word_width) Q))) (set_first l h (Part 8 0 (left word_width)) (Part 8 8 (left word_width)) apart) ∙ taken (left_place word_width) Q

    high_taken : (Q : OperandPlace) → sources (taking (left_place word_width) Q ∷ Set l (Part 8 0 (left word_width)) ∷ Set h (Part 8 8 (left word_width)) ∷ []) h ≡ reads_at Q
    high_taken Q =
        ap (flat_map (before (taking (left_place word_width) Q))) (set_second l h (left_place word_width) (Part 8 0 (left word_width)) (Part 8 8 (left word_width)) refl (temp_apart 3 l (low_kept l low)))
        ∙ taken (left_place word_width) Q

    pub low_moved : (f g : Spot) (Q : OperandPlace) → WordAt f g Q → sources (mov_stmts word_width (word l h) Q) l ≡ low_of Q ++ address_reads Q
    low_moved _ _ _ (HasWord.two_halves {l = a} {m = b} s t u v) = set_first l h (Get a) (Get b) apart
    low_moved _ _ _ (HasWord.constant_word {n = n}) = set_first l h (Const 8 (n % 256)) (Const 8 (n / 256)) apart
    low_moved _ _ _ (HasWord.of_pointer {e = e} none) = low_taken (computed e) ∙ none
    low_moved _ _ _ (HasWord.open_word {e = e} opens next k) = low_taken (memory word_width e)

    -- the low half that is set first is not the high one that is read
    pub high_moved : (f g : Spot) (Q : OperandPlace) → WordAt f g Q → sources (mov_stmts word_width (word l h) Q) h ≡ high_of Q ++ address_reads Q
    high_moved _ _ _ (HasWord.two_halves {l = a} {m = b} s t u v) = set_second l h b (Get a) (Get b) refl (apart_back l b (halves_apart l b low v))
    high_moved _ _ _ (HasWord.constant_word {n = n}) = ap (flat_map (before (Set l (Const 8 (n % 256))))) (set_alone h (Const 8 (n / 256)))
    high_moved _ _ _ (HasWord.of_pointer {e = e} none) = high_taken (computed e) ∙ none
    high_moved _ _ _ (HasWord.open_word {e = e} opens next k) = high_taken (memory word_width e)

    pub word_unwritten : (f g : Spot) (Q : OperandPlace) → WordAt f g Q → (m : Loc) → is_lasting m ≡ true → is_written (mov_stmts word_width (word l h) Q) m ≡ is_among (l ∷ h ∷ []) m
    word_unwritten _ _ _ (HasWord.two_halves {l = a} {m = b} s t u v) m lasting = written_two l h m (Get a) (Get b)
    word_unwritten _ _ _ (HasWord.constant_word {n = n}) m lasting = written_two l h m (Const 8 (n % 256)) (Const 8 (n / 256))
    word_unwritten _ _ _ (HasWord.of_pointer {e = e} none) m lasting = moved_unwritten word_width (computed e) stored m lasting ∙ written_two l h m (Part 8 0 (left word_width)) (Part 8 8 (left word_width))
    word_unwritten _ _ _ (HasWord.open_word {e = e} opens next k) m lasting =
        moved_unwritten word_width (memory word_width e) stored m lasting ∙ written_two l h m (Part 8 0 (left word_width)) (Part 8 8 (left word_width))

    pub word_useless : (f g : Spot) (Q : OperandPlace) → WordAt f g Q → used (mov_stmts word_width (word l h) Q) [] ≡ []
    word_useless _ _ _ (HasWord.two_halves s t u v) = refl
    word_useless _ _ _ HasWord.constant_word = refl
    word_useless _ _ _ (HasWord.of_pointer {e = e} none) = taken_useless word_width (computed e) stored refl
    word_useless _ _ _ (HasWord.open_word {e = e} opens next k) = taken_useless word_width (memory word_width e) stored refl

    pub word_unpopped : (f g : Spot) (Q : OperandPlace) → (pushed : ℕ) → ((m : Loc) → is_among (low_of Q ++ high_of Q) m ≡ true → is_pushed pushed m ≡ false) → WordAt f g Q → none_pops pushed (mov_stmts word_width (word l h) Q) ≡ true
    word_unpopped _ _ _ pushed unpushed (HasWord.two_halves {l = a} {m = b} s t u v) =
        and_both (not (is_half l && is_pushed pushed a)) (not (is_half h && is_pushed pushed b) && true)
        (ap (λ c. not (is_half l && c)) (unpushed a (or_here (same_location a a) (same_location a b || false) (location_itself a))) ∙ ap not (and_false (is_half l)))
        (ap (λ c. not (is_half h && c) && true) (unpushed b (or_there (same_location b a) (same_location b b || false) (or_here (same_location b b) false (location_itself b)))) ∙ ap (λ c. not c && true) (and_false (is_half h)))
    word_unpopped _ _ _ pushed unpushed HasWord.constant_word = refl
    word_unpopped _ _ _ pushed unpushed (HasWord.of_pointer {e = e} none) = unpopped word_width (computed e) pushed stored refl
    word_unpopped _ _ _ pushed unpushed (HasWord.open_word {e = e} opens next k) = unpopped word_width (memory word_width e) pushed stored refl

    pub word_quiet : (f g : Spot) (Q : OperandPlace) → WordAt f g Q → Quiet (mov_stmts word_width (word l h) Q)
    word_quiet _ _ _ (HasWord.two_halves s t u v) = (refl, (refl, tt))
    word_quiet _ _ _ HasWord.constant_word = (refl, (refl, tt))
    word_quiet _ _ _ (HasWord.of_pointer none) = (refl, (refl, (refl, tt)))
    word_quiet _ _ _ (HasWord.open_word opens next k) = (refl, (refl, (refl, tt)))
