-- Moves of the bytes of one operand to those of another, beside the statements of a MOV.
use Rattle.std.proofs.Common.{◌≡◌, ℕ, ℤ, Bool, true, false, ◌||◌, ◌⊎◌, inl, inr, List, [], ◌∷◌, ◌++◌, Option, refl, sym, ap, ◌∙◌, subst, true≢false}
use Rattle.std.specs.List.{list_all}
use Rattle.std.proofs.lemmas.List.{append_assoc}
use Rattle.dcc_num.specs.declared.Width.{Width}
use Rattle.dcc_num.specs.declared.Width.TheVariants.{Byte as byte_width, Word as word_width}
use Rattle.dcc_ir.specs.declared.syntax.Loc.{Loc}
use Rattle.dcc_ir.specs.Location.{same_location}
use Rattle.dcc_ir.specs.Tree.{Expr, Stmt}
use Rattle.dcc_ir.specs.Use.{reads_of}
use Rattle.dcc_ir.specs.Live.{is_among}
use Rattle.dcc_ir.proofs.LocationLaws.{location_itself}
use Rattle.dcc_ops.specs.OperandPlace.{OperandPlace, constant, byte, word, memory, computed, taking, storing}
use Rattle.dcc_ops.specs.Temporaries.{left_place}
use Rattle.dcc_ops.specs.Expressions.{left}
use Rattle.dcc_ops.specs.Statements.{mov_stmts}
use Rattle.dcc_lift.proofs.ListTests.{and_both, or_here, or_there, or_cases, or_none}
use Rattle.dcc_simulation.specs.Procedures.{Procedure}
use Rattle.dcc_demand.specs.Procedures.{Effect, Procedures}
use Rattle.dcc_machine_demand.specs.Bodies.{Body, Point}
use Rattle.dcc_machine_demand.specs.Holders.{Holder, Spot, placed, in_memory, nowhere, is_holder, is_at}
use Rattle.dcc_machine_demand.specs.Moves.{Move, copying, moves_between}
use Rattle.dcc_sums.specs.Points.{Position}
use Rattle.dcc_sums.specs.Instance.{is_pushed}
use Rattle.dcc_refinement.specs.Steps.{LosesAtOnce}
use Rattle.dcc_refinement.specs.Refinement.{Refinement, EffectsAgree}
use Rattle.dcc_lifted_demand.specs.Sources.{used, effect_after}
use Rattle.dcc_lifted_demand.specs.LiftedRefinement.{IsSame}
use Rattle.dcc_instruction_demand.specs.Agreement.{Quiet}
use Rattle.dcc_instruction_demand.proofs.ShownLaws.{Shows, shows_never, shows_both, shows_alike}
use Rattle.dcc_instruction_demand.proofs.ValueLaws.{is_written, is_value, none_pops, effect_lost, quiet}
use Rattle.dcc_instruction_demand.proofs.AlikeLaws.{same_lasts}
use Rattle.dcc_instruction_demand.proofs.StageLaws.{is_lasting, reads_at, outs}
use Rattle.dcc_instruction_demand.proofs.FormLaws.{taking_value}
use Rattle.dcc_instruction_demand.proofs.SpotLaws.{place_itself, low_of, high_of, address_reads, IsOpenSpot, IsHalf}
use Rattle.dcc_instruction_demand.proofs.SpotLaws.{HasByte, HasWord, HasBytes, open_apart, byte_shown, low_shown}
use Rattle.dcc_instruction_demand.proofs.SpotLaws.{high_shown, either_shown, byte_reads, word_reads}
use Rattle.dcc_instruction_demand.proofs.MovingLaws.{IsMovingOperation}
use Rattle.dcc_instruction_demand.proofs.MoveStmts.{moved_unwritten, taken_useless, memory_used, all_last}
use Rattle.dcc_instruction_demand.proofs.MoveForms.{byte_moved, byte_unwritten, byte_useless, byte_unpopped, byte_quiet}
use Rattle.dcc_instruction_demand.proofs.MoveForms.{low_moved, high_moved, word_unwritten, word_useless, word_unpopped}
use Rattle.dcc_instruction_demand.proofs.MoveForms.{word_quiet}
use Rattle.dcc_instruction_demand.proofs.PairedLaws.{ArePaired, IsStored, Pairing}

-- to each of these bytes from that of the others in such a way, where the addresses take these
abbrev pub zipped : (Holder → Bool) → List (Effect Holder ℤ) → List Spot → List Spot → List Move
zipped addresses (e ∷ es) (t ∷ to) (f ∷ from) = record { to = t; effect = e; made_of = λ place. is_at f place || addresses place } ∷ zipped addresses es to from
zipped addresses es to from = []

module _ (coarse : Procedures ℕ Holder ℤ) (fine : Procedures Position Loc Loc) (r : Refinement ℕ Holder ℤ Position Loc Loc) (entry at pushed : ℕ) (o : Option Procedure) (bodies : List Body) (body : Body) (point : Point)
    (v : IsMovingOperation coarse fine r entry at pushed o bodies body point) (addresses : Holder → Bool) where
  abbrev exposed : Holder → Bool
  exposed = (coarse.procedure entry).is_exposed

  abbrev pub ByteAt : Spot → OperandPlace → Type 0
  ByteAt = HasByte o body (coarse.procedure entry).is_exposed

  abbrev pub WordAt : Spot → Spot → OperandPlace → Type 0
  WordAt = HasWord o body (coarse.procedure entry).is_exposed

  abbrev Addressing : Holder → Type 0
  Addressing M = (is_holder body M ≡ true) × (addresses M ≡ true)

  abbrev From : Spot → Holder → Type 0
  From f M = (is_holder body M ≡ true) × ((is_at f M || addresses M) ≡ true)

  -- a move in such a way does to those of these locations that pass between procedures what the statements do
  abbrev pub FitsEffect : List Stmt → List Loc → Effect Holder ℤ → Type 0
  FitsEffect stmts ls e = (L : Holder) (l : Loc) → is_among ls l ≡ true → IsSame o L l → coarse.passes L ≡ true → EffectsAgree coarse fine r entry e (effect_after pushed stmts l)

  itself_in : (l : Loc) → is_among (l ∷ []) l ≡ true
  itself_in l = or_here (same_location l l) false (location_itself l)

  -- a half is no memory
  pub half_closed : (L : Holder) (l : Loc) → IsHalf o body exposed L l → IsOpenSpot o body exposed (placed L) → ⊥
  half_closed L l h opens = true≢false (sym (place_itself L) ∙ open_apart o body exposed v.one v.unexposed (placed L) opens L l h.same)

  nowhere_closed : (s : Spot) → IsOpenSpot o body exposed s → s ≡ nowhere → ⊥
  nowhere_closed _ IsOpenSpot.in_no_cell e = cc e
  nowhere_closed _ (IsOpenSpot.in_open_cell t) e = cc e

  -- Bytes.

  pub byte_paired : (t f : Spot) (P Q : OperandPlace) (e : Effect Holder ℤ) → ByteAt t P → ByteAt f Q → Shows (IsSame o) (λ M. (is_holder body M ≡ true) × (addresses M ≡ true)) (address_reads P ++ address_reads Q)
      → FitsEffect (mov_stmts byte_width P Q) (low_of P) e
      → ArePaired coarse fine r entry at pushed o bodies body point (mov_stmts byte_width P Q) (zipped addresses (e ∷ []) (t ∷ []) (f ∷ [])) (outs P)
  byte_paired _ f _ Q e (HasByte.one_half {L = L} {l = l} h) q shown agree =
      ArePaired.one_more refl h.same
      (subst (λ ls. Shows (IsSame o) (From f) ls) (sym (byte_moved o body exposed l f Q q))
      (either_shown o body exposed v.one v.unexposed f addresses (low_of Q) (address_reads Q) (byte_shown o body exposed v.one v.unexposed f Q q) shown))
      (agree L l (itself_in l) h.same) ArePaired.no_more
  byte_paired _ f _ Q e HasByte.constant_byte q shown agree = ArePaired.nowhere_more refl ArePaired.no_more
  byte_paired _ f _ Q e (HasByte.open_byte opens k) q shown agree = ArePaired.open_more opens ArePaired.no_more

  abbrev Stored : List Move → Holder → Type 0
  Stored moves L = (is_holder body L ≡ true) × IsStored coarse fine r entry at pushed o bodies body point moves L

  abbrev AtSpot : Spot → Holder → Type 0
  AtSpot f M = (is_holder body M ≡ true) × (is_at f M ≡ true)

  -- all that is read for a store
  address_first : (a : Expr) (Q : OperandPlace) → address_reads Q ++ (high_of Q ++ low_of Q) ≡ reads_at Q → (reads_of a ++ address_reads Q) ++ (high_of Q ++ low_of Q) ≡ reads_of a ++ reads_at Q
  address_first a Q e = append_assoc (reads_of a) (address_reads Q) (high_of Q ++ low_of Q) ∙ ap (λ ls. reads_of a ++ ls) e

  byte_rest : (f : Spot) (Q : OperandPlace) → ByteAt f Q → Shows (IsSame o) (AtSpot f) (high_of Q ++ low_of Q)
  byte_rest f Q q = subst (λ ls. Shows (IsSame o) (AtSpot f) ls) (sym (same f Q q)) (byte_shown o body exposed v.one v.unexposed f Q q)
    where
      same : (f : Spot) (Q : OperandPlace) → ByteAt f Q → high_of Q ++ low_of Q ≡ low_of Q
      same _ _ (HasByte.one_half h) = refl
      same _ _ HasByte.constant_byte = refl
      same _ _ (HasByte.open_byte opens k) = refl

  -- none is stored
  none_stored : (moves : List Move) (ls : List Loc) → ls ≡ [] → ((L : Holder) → IsStored coarse fine r entry at pushed o bodies body point moves L → ⊥) → Shows (IsSame o) (Stored moves) ls
  none_stored moves ls e never = subst (λ ms. Shows (IsSame o) (Stored moves) ms) (sym e) (shows_never (IsSame o) (Stored moves) (λ L t. never L t.1))

  pub byte_stored : (t f : Spot) (P Q : OperandPlace) (e : Effect Holder ℤ) → ByteAt t P → ByteAt f Q → Shows (IsSame o) (λ M. (is_holder body M ≡ true) × (addresses M ≡ true)) (address_reads P ++ address_reads Q)
      → Shows (IsSame o) (λ L. (is_holder body L ≡ true) × IsStored coarse fine r entry at pushed o bodies body point (zipped addresses (e ∷ []) (t ∷ []) (f ∷ [])) L) (used (mov_stmts byte_width P Q) [])
  byte_stored _ f _ Q e (HasByte.one_half {L = L} {l = l} h) q shown =
      none_stored (zipped addresses (e ∷ []) (placed L ∷ []) (f ∷ [])) (used (mov_stmts byte_width (byte l) Q) []) (byte_useless o body exposed l f Q q) (λ M m. elim m [
        | inl here ↦ half_closed L l h here.0
        | inr none ↦ none
      ])
  byte_stored _ f _ Q e (HasByte.constant_byte {n = n}) q shown =
      none_stored (zipped addresses (e ∷ []) (nowhere ∷ []) (f ∷ [])) (used (mov_stmts byte_width (constant byte_width n) Q) []) (taken_useless byte_width Q [] refl) (λ M m. elim m [
        | inl here ↦ nowhere_closed nowhere here.0 refl
        | inr none ↦ none
      ])
  byte_stored t f _ Q e (HasByte.open_byte {e = a} opens k) q shown =
      subst (λ ls. Shows (IsSame o) (Stored (zipped addresses (e ∷ []) (t ∷ []) (f ∷ []))) ls) (address_first a Q (byte_reads o body exposed f Q q) ∙ sym (memory_used byte_width Q byte_width a (all_last (reads_of a) k)))
      (shows_alike (IsSame o) (λ M. Addressing M ⊎ AtSpot f M) (Stored (zipped addresses (e ∷ []) (t ∷ []) (f ∷ [])))
      ((reads_of a ++ address_reads Q) ++ (high_of Q ++ low_of Q)) ((reads_of a ++ address_reads Q) ++ (high_of Q ++ low_of Q))
      (shows_both (IsSame o) Addressing (AtSpot f) (reads_of a ++ address_reads Q) (high_of Q ++ low_of Q) shown (byte_rest f Q q))
      (λ M m s p. elim p [
        | inl x ↦ (x.0, inl (opens, or_there (is_at f M) (addresses M) x.1))
        | inr x ↦ (x.0, inl (opens, or_here (is_at f M) (addresses M) x.1))
      ])
      (λ M m s p. elim p.1 [
        | inl here ↦ elim (or_cases (is_at f M) (addresses M) here.1) [
          | inl x ↦ inr (p.0, x)
          | inr x ↦ inl (p.0, x)
        ]
        | inr none ↦ absurd none
      ]) (λ l c. c) (λ l c. c))

  pub byte_left : (t f : Spot) (P Q : OperandPlace) → ByteAt t P → ByteAt f Q → (m : Loc) → is_lasting m ≡ true → is_among (outs P) m ≡ false → is_written (mov_stmts byte_width P Q) m ≡ false
  byte_left _ f _ Q (HasByte.one_half {l = l} h) q m t e = byte_unwritten o body exposed l f Q q m t ∙ e
  byte_left _ f _ Q HasByte.constant_byte q m t e = moved_unwritten byte_width Q [] m t
  byte_left _ f _ Q (HasByte.open_byte {e = a} opens k) q m t e = moved_unwritten byte_width Q (storing (memory byte_width a) (left byte_width)) m t

  taking_quiet : (w : Width) (Q : OperandPlace) (ss : List Stmt) → list_all is_value ss ≡ true → Quiet (taking (left_place w) Q ∷ ss)
  taking_quiet w Q ss t = quiet (taking (left_place w) Q ∷ ss) (and_both (is_value (taking (left_place w) Q)) (list_all is_value ss) (taking_value w Q).0 t)

  pub bytes_quiet : (t f : Spot) (P Q : OperandPlace) → ByteAt t P → ByteAt f Q → Quiet (mov_stmts byte_width P Q)
  bytes_quiet _ f _ Q (HasByte.one_half {l = l} h) q = byte_quiet o body exposed l f Q q
  bytes_quiet _ f _ Q HasByte.constant_byte q = taking_quiet byte_width Q [] refl
  bytes_quiet _ f _ Q (HasByte.open_byte {e = a} opens k) q = taking_quiet byte_width Q (storing (memory byte_width a) (left byte_width)) refl

  -- Words.

  pub word_paired : (t u f g : Spot) (P Q : OperandPlace) (d e : Effect Holder ℤ) → WordAt t u P → WordAt f g Q → Shows (IsSame o) (λ M. (is_holder body M ≡ true) × (addresses M ≡ true)) (address_reads P ++ address_reads Q)
      → FitsEffect (mov_stmts word_width P Q) (low_of P) d → FitsEffect (mov_stmts word_width P Q) (high_of P) e
      → ArePaired coarse fine r entry at pushed o bodies body point (mov_stmts word_width P Q) (zipped addresses (d ∷ e ∷ []) (t ∷ u ∷ []) (f ∷ g ∷ [])) (outs P)
  word_paired _ _ f g _ Q d e (HasWord.two_halves {L = L} {M = M} {l = l} {m = m} a b low high) q shown agree next =
      ArePaired.one_more refl a.same
      (subst (λ ls. Shows (IsSame o) (From f) ls) (sym (low_moved o body exposed l m low high f g Q q))
      (either_shown o body exposed v.one v.unexposed f addresses (low_of Q) (address_reads Q) (low_shown o body exposed v.one v.unexposed f g Q q) shown))
      (agree L l (itself_in l) a.same)
      (ArePaired.one_more refl b.same
      (subst (λ ls. Shows (IsSame o) (From g) ls) (sym (high_moved o body exposed l m low high f g Q q))
      (either_shown o body exposed v.one v.unexposed g addresses (high_of Q) (address_reads Q) (high_shown o body exposed v.one v.unexposed f g Q q) shown))
      (next M m (itself_in m) b.same) ArePaired.no_more)
  word_paired _ _ f g _ Q d e HasWord.constant_word q shown agree next = ArePaired.nowhere_more refl (ArePaired.nowhere_more refl ArePaired.no_more)
  word_paired _ _ f g _ Q d e (HasWord.of_pointer none) q shown agree next = ArePaired.nowhere_more refl (ArePaired.nowhere_more refl ArePaired.no_more)
  word_paired _ _ f g _ Q d e (HasWord.open_word opens second k) q shown agree next = ArePaired.open_more opens (ArePaired.open_more second ArePaired.no_more)

  word_rest : (f g : Spot) (Q : OperandPlace) → WordAt f g Q → Shows (IsSame o) (λ M. AtSpot g M ⊎ AtSpot f M) (high_of Q ++ low_of Q)
  word_rest f g Q q = shows_both (IsSame o) (AtSpot g) (AtSpot f) (high_of Q) (low_of Q) (high_shown o body exposed v.one v.unexposed f g Q q) (low_shown o body exposed v.one v.unexposed f g Q q)

  nowhere_stored : (d e : Effect Holder ℤ) (f g : Spot) (L : Holder) → IsStored coarse fine r entry at pushed o bodies body point (zipped addresses (d ∷ e ∷ []) (nowhere ∷ nowhere ∷ []) (f ∷ g ∷ [])) L → ⊥
  nowhere_stored d e f g L (inl here) = nowhere_closed nowhere here.0 refl
  nowhere_stored d e f g L (inr (inl here)) = nowhere_closed nowhere here.0 refl
  nowhere_stored d e f g L (inr (inr none)) = none

  pub word_stored : (t u f g : Spot) (P Q : OperandPlace) (d e : Effect Holder ℤ) → WordAt t u P → WordAt f g Q → Shows (IsSame o) (λ M. (is_holder body M ≡ true) × (addresses M ≡ true)) (address_reads P ++ address_reads Q)
      → Shows (IsSame o) (λ L. (is_holder body L ≡ true) × IsStored coarse fine r entry at pushed o bodies body point (zipped addresses (d ∷ e ∷ []) (t ∷ u ∷ []) (f ∷ g ∷ [])) L) (used (mov_stmts word_width P Q) [])
  word_stored _ _ f g _ Q d e (HasWord.two_halves {L = L} {M = M} {l = l} {m = m} a b low high) q shown =
      none_stored (zipped addresses (d ∷ e ∷ []) (placed L ∷ placed M ∷ []) (f ∷ g ∷ [])) (used (mov_stmts word_width (word l m) Q) []) (word_useless o body exposed l m low high f g Q q) never
    where
      never : (N : Holder) → IsStored coarse fine r entry at pushed o bodies body point (zipped addresses (d ∷ e ∷ []) (placed L ∷ placed M ∷ []) (f ∷ g ∷ [])) N → ⊥
      never N (inl here) = half_closed L l a here.0
      never N (inr (inl here)) = half_closed M m b here.0
      never N (inr (inr none)) = none
  word_stored _ _ f g _ Q d e (HasWord.constant_word {n = n}) q shown =
      none_stored (zipped addresses (d ∷ e ∷ []) (nowhere ∷ nowhere ∷ []) (f ∷ g ∷ [])) (used (mov_stmts word_width (constant word_width n) Q) []) (taken_useless word_width Q [] refl) (nowhere_stored d e f g)
  word_stored _ _ f g _ Q d e (HasWord.of_pointer {e = a} none) q shown =
      none_stored (zipped addresses (d ∷ e ∷ []) (nowhere ∷ nowhere ∷ []) (f ∷ g ∷ [])) (used (mov_stmts word_width (computed a) Q) []) (taken_useless word_width Q [] refl) (nowhere_stored d e f g)
  word_stored t u f g _ Q d e (HasWord.open_word {e = a} opens next k) q shown =
      subst (λ ls. Shows (IsSame o) (Stored (zipped addresses (d ∷ e ∷ []) (t ∷ u ∷ []) (f ∷ g ∷ []))) ls) (address_first a Q (word_reads o body exposed f g Q q) ∙ sym (memory_used word_width Q word_width a (all_last (reads_of a) k)))
      (shows_alike (IsSame o) (λ M. Addressing M ⊎ (AtSpot g M ⊎ AtSpot f M)) (Stored (zipped addresses (d ∷ e ∷ []) (t ∷ u ∷ []) (f ∷ g ∷ [])))
      ((reads_of a ++ address_reads Q) ++ (high_of Q ++ low_of Q)) ((reads_of a ++ address_reads Q) ++ (high_of Q ++ low_of Q))
      (shows_both (IsSame o) Addressing (λ M. AtSpot g M ⊎ AtSpot f M) (reads_of a ++ address_reads Q) (high_of Q ++ low_of Q) shown (word_rest f g Q q))
      (λ M m s p. to M p) (λ M m s p. back M p) (λ l c. c) (λ l c. c))
    where
      to : (M : Holder) → Addressing M ⊎ (AtSpot g M ⊎ AtSpot f M) → Stored (zipped addresses (d ∷ e ∷ []) (t ∷ u ∷ []) (f ∷ g ∷ [])) M
      to M (inl x) = (x.0, inl (opens, or_there (is_at f M) (addresses M) x.1))
      to M (inr (inl x)) = (x.0, inr (inl (next, or_here (is_at g M) (addresses M) x.1)))
      to M (inr (inr x)) = (x.0, inl (opens, or_here (is_at f M) (addresses M) x.1))

      of_spot : (s : Spot) (M : Holder) → From s M → AtSpot s M ⊎ Addressing M
      of_spot s M p = elim (or_cases (is_at s M) (addresses M) p.1) [
        | inl x ↦ inl (p.0, x)
        | inr x ↦ inr (p.0, x)
      ]

      back : (M : Holder) → Stored (zipped addresses (d ∷ e ∷ []) (t ∷ u ∷ []) (f ∷ g ∷ [])) M → Addressing M ⊎ (AtSpot g M ⊎ AtSpot f M)
      back M (p, inl here) = elim (of_spot f M (p, here.1)) [
        | inl x ↦ inr (inr x)
        | inr x ↦ inl x
      ]
      back M (p, inr (inl here)) = elim (of_spot g M (p, here.1)) [
        | inl x ↦ inr (inl x)
        | inr x ↦ inl x
      ]
      back M (p, inr (inr none)) = absurd none

  pub word_left : (t u f g : Spot) (P Q : OperandPlace) → WordAt t u P → WordAt f g Q → (m : Loc) → is_lasting m ≡ true → is_among (outs P) m ≡ false → is_written (mov_stmts word_width P Q) m ≡ false
  word_left _ _ f g _ Q (HasWord.two_halves {l = l} {m = h} a b low high) q m t e = word_unwritten o body exposed l h low high f g Q q m t ∙ e
  word_left _ _ f g _ Q HasWord.constant_word q m t e = moved_unwritten word_width Q [] m t
  word_left _ _ f g _ Q (HasWord.of_pointer none) q m t e = moved_unwritten word_width Q [] m t
  word_left _ _ f g _ Q (HasWord.open_word {e = a} opens next k) q m t e = moved_unwritten word_width Q (storing (memory word_width a) (left word_width)) m t

  pub words_quiet : (t u f g : Spot) (P Q : OperandPlace) → WordAt t u P → WordAt f g Q
      → Quiet (mov_stmts word_width P Q)
  words_quiet _ _ f g _ Q (HasWord.two_halves {l = l} {m = h} a b low high) q = word_quiet o body exposed l h low high f g Q q
  words_quiet _ _ f g _ Q HasWord.constant_word q = taking_quiet word_width Q [] refl
  words_quiet _ _ f g _ Q (HasWord.of_pointer none) q = taking_quiet word_width Q [] refl
  words_quiet _ _ f g _ Q (HasWord.open_word {e = a} opens next k) q = taking_quiet word_width Q (storing (memory word_width a) (left word_width)) refl

  -- What is copied is lost at once, where it comes from no pushed word.

  copying_loses : (f : Spot) → LosesAtOnce (coarse.procedure entry) (copying f)
  copying_loses (placed L) = LosesAtOnce.copied
  copying_loses in_memory = LosesAtOnce.made
  copying_loses nowhere = LosesAtOnce.made

  pub copy_lost : (stmts : List Stmt) → none_pops pushed stmts ≡ true → (f : Spot) (l : Loc) → is_written stmts l ≡ true → EffectsAgree coarse fine r entry (copying f) (effect_after pushed stmts l)
  copy_lost stmts t f l w = EffectsAgree.both_lose (copying_loses f) (effect_lost (fine.procedure entry) pushed stmts l t w)

  abbrev pub Unpushed : OperandPlace → Type 0
  Unpushed Q = (m : Loc) → is_among (low_of Q ++ high_of Q) m ≡ true → is_pushed pushed m ≡ false

  pub byte_copied : (t f g : Spot) (P Q : OperandPlace) → ByteAt t P → ByteAt f Q → Unpushed Q → FitsEffect (mov_stmts byte_width P Q) (low_of P) (copying g)
  byte_copied _ f g _ Q (HasByte.one_half {l = l} h) q unpushed L m t s p =
      copy_lost (mov_stmts byte_width (byte l) Q) (byte_unpopped o body exposed l f Q pushed unpushed q) g m (byte_unwritten o body exposed l f Q q m (same_lasts o L m s) ∙ t)
  byte_copied _ f g _ Q HasByte.constant_byte q unpushed L m t s p = absurd (true≢false (sym t))
  byte_copied _ f g _ Q (HasByte.open_byte opens k) q unpushed L m t s p = absurd (true≢false (sym t))

  -- of the low half and of the high one
  abbrev pub BothFit : OperandPlace → List Stmt → Effect Holder ℤ → Effect Holder ℤ → Type 0
  BothFit P stmts d e = FitsEffect stmts (low_of P) d × FitsEffect stmts (high_of P) e

  pub none_fit : (stmts : List Stmt) (e : Effect Holder ℤ) → FitsEffect stmts [] e
  none_fit stmts e L m t s p = absurd (true≢false (sym t))

  pub word_copied : (t u f g d e : Spot) (P Q : OperandPlace) → WordAt t u P → WordAt f g Q → Unpushed Q → BothFit P (mov_stmts word_width P Q) (copying d) (copying e)
  word_copied _ _ f g d e _ Q (HasWord.two_halves {l = l} {m = h} a b low high) q unpushed = (
    λ L m t s p.
        copy_lost (mov_stmts word_width (word l h) Q) none d m
        (word_unwritten o body exposed l h low high f g Q q m (same_lasts o L m s) ∙ or_here (same_location m l) (same_location m h || false) (sym (or_none (same_location m l)) ∙ t)),
    λ L m t s p.
        copy_lost (mov_stmts word_width (word l h) Q) none e m
        (word_unwritten o body exposed l h low high f g Q q m (same_lasts o L m s) ∙ or_there (same_location m l) (same_location m h || false) t),
  )
    where
      none : none_pops pushed (mov_stmts word_width (word l h) Q) ≡ true
      none = word_unpopped o body exposed l h low high f g Q pushed unpushed q
  word_copied _ _ f g d e _ Q (HasWord.constant_word {n = n}) q unpushed = (none_fit (mov_stmts word_width (constant word_width n) Q) (copying d), none_fit (mov_stmts word_width (constant word_width n) Q) (copying e))
  word_copied _ _ f g d e _ Q (HasWord.of_pointer {e = a} none) q unpushed = (none_fit (mov_stmts word_width (computed a) Q) (copying d), none_fit (mov_stmts word_width (computed a) Q) (copying e))
  word_copied _ _ f g d e _ Q (HasWord.open_word {e = a} opens next k) q unpushed = (none_fit (mov_stmts word_width (memory word_width a) Q) (copying d), none_fit (mov_stmts word_width (memory word_width a) Q) (copying e))

  -- All together.

  pub word_pairing : (t u f g : Spot) (P Q : OperandPlace) (d e : Effect Holder ℤ) → WordAt t u P → WordAt f g Q → Shows (IsSame o) (λ M. (is_holder body M ≡ true) × (addresses M ≡ true)) (address_reads P ++ address_reads Q)
      → BothFit P (mov_stmts word_width P Q) d e
      → Pairing coarse fine r entry at pushed o bodies body point v (mov_stmts word_width P Q) (zipped addresses (d ∷ e ∷ []) (t ∷ u ∷ []) (f ∷ g ∷ [])) (outs P)
  word_pairing t u f g P Q d e p q shown fit = record {
    paired = word_paired t u f g P Q d e p q shown fit.0 fit.1;
    unwritten = word_left t u f g P Q p q;
    stored = word_stored t u f g P Q d e p q shown;
    quiet = words_quiet t u f g P Q p q;
  }

  -- bytes that are copied
  pub copied_pairing : (w : Width) (to from : List Spot) (P Q : OperandPlace) → HasBytes o body (coarse.procedure entry).is_exposed w to P → HasBytes o body (coarse.procedure entry).is_exposed w from Q
      → Shows (IsSame o) (λ M. (is_holder body M ≡ true) × (addresses M ≡ true)) (address_reads P ++ address_reads Q) → Unpushed Q
      → Pairing coarse fine r entry at pushed o bodies body point v (mov_stmts w P Q) (moves_between addresses to from) (outs P)
  copied_pairing _ _ _ P Q (HasBytes.as_byte {f = t} p) (HasBytes.as_byte {f = f} q) shown unpushed = record {
    paired = byte_paired t f P Q (copying f) p q shown (byte_copied t f f P Q p q unpushed);
    unwritten = byte_left t f P Q p q;
    stored = byte_stored t f P Q (copying f) p q shown;
    quiet = bytes_quiet t f P Q p q;
  }
  copied_pairing _ _ _ P Q (HasBytes.as_word {f = t} {g = u} p) (HasBytes.as_word {f = f} {g = g} q) shown unpushed =
      word_pairing t u f g P Q (copying f) (copying g) p q shown (word_copied t u f g f g P Q p q unpushed)
