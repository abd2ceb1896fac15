-- PUSH and POP do what their statements do together.
use Rattle.std.proofs.Common.{◌≡◌, ℕ, ◌/◌, ◌%◌, ℤ, Bool, true, false, ◌&&◌, ◌||◌, if◌then◌else◌, inl, inr, List, [], ◌∷◌, ◌++◌, Option, Some, refl, sym, ap, ◌∙◌, subst, true≢false}
use Rattle.std.specs.Prelude.{pos, ◌+ℤ◌}
use Rattle.std.specs.Ordering.{int_eq}
use Rattle.std.proofs.lemmas.Bool.Decides.{Decides-int_eq}
use Rattle.std.proofs.lemmas.List.{append-nil}
use Rattle.dcc_num.specs.declared.Width.TheVariants.{Byte as byte_width, Word as word_width}
use Rattle.dcc_num.specs.declared.Reg.TheVariants.{Bp}
use Rattle.dcc_num.specs.declared.Half.{Half as HalfName}
use Rattle.dcc_num.specs.declared.Half.TheVariants.{Low, High}
use Rattle.dcc_prog.specs.declared.procedure.Node.{Node}
use Rattle.dcc_machine.specs.declared.instr.Operand.{Operand}
use Rattle.dcc_machine.specs.declared.instr.Operand.TheVariants.{Word}
use Rattle.dcc_machine.specs.declared.instr.Op.TheVariants.{Push, Pop}
use Rattle.dcc_machine.specs.Wanted.{Location, half_of, flag_of}
use Rattle.dcc_ir.specs.declared.syntax.Loc.{Loc}
use Rattle.dcc_ir.specs.declared.syntax.Loc.TheVariants.{Cell}
use Rattle.dcc_ir.specs.Location.{same_location}
use Rattle.dcc_ir.specs.Tree.{Expr, Const, Get, Part, Set, Address}
use Rattle.dcc_ir.specs.Live.{is_among}
use Rattle.dcc_ir.proofs.LocationLaws.{location_itself, location_same}
use Rattle.dcc_ir.proofs.PathLaws.{decided}
use Rattle.dcc_ops.specs.OperandPlace.{OperandPlace, byte, constant, word, memory, computed, is_low, is_high, taking}
use Rattle.dcc_ops.specs.Temporaries.{left_place}
use Rattle.dcc_ops.specs.Expressions.{left}
use Rattle.dcc_ops.specs.Statements.{mov_stmts}
use Rattle.dcc_lift.proofs.ListTests.{or_here, or_there, or_none}
use Rattle.dcc_simulation.specs.Procedures.{Procedure, frame_place, distance_of, pushed_of}
use Rattle.dcc_demand.specs.Procedures.{Effect, Copies, Pops, WordEffect, LeavesWord, Pushes, Overwrites, Procedures}
use Rattle.dcc_machine_demand.specs.Bodies.{Body, Point}
use Rattle.dcc_machine_demand.specs.Holders.{Holder, held, in_frame, Spot, nowhere, is_holder, is_at, is_in_cell}
use Rattle.dcc_machine_demand.specs.Holders.{frame_spot, spots_of, is_of_address}
use Rattle.dcc_machine_demand.specs.Moves.{Move, copying, moves_between, popping, word_spots, pushed_offset}
use Rattle.dcc_machine_demand.specs.Moves.{popped_offset, pushing, pushed_from}
use Rattle.dcc_sums.specs.Points.{Position}
use Rattle.dcc_sums.specs.Instance.{is_half, is_pushed, effect_of, word_effect_of}
use Rattle.dcc_refinement.specs.Steps.{LosesAtOnce, Spoils}
use Rattle.dcc_refinement.specs.Refinement.{Refinement, EffectsAgree, WordEffectsAgree}
use Rattle.dcc_lifted_demand.specs.Sources.{effect_after, word_effect_after}
use Rattle.dcc_lifted_demand.specs.LiftedRefinement.{inner_of, IsSame, IsSameWord}
use Rattle.dcc_lifted_demand.proofs.SameLaws.{SameCases, same_cases}
use Rattle.dcc_instruction_demand.specs.Agreement.{Agrees}
use Rattle.dcc_instruction_demand.proofs.IdleLaws.{same_once}
use Rattle.dcc_instruction_demand.proofs.ShownLaws.{Shows, shows_never}
use Rattle.dcc_instruction_demand.proofs.ValueLaws.{is_written, effect_lost, word_left as word_unwritten_left}
use Rattle.dcc_instruction_demand.proofs.AlikeLaws.{same_lasts, word_lasts}
use Rattle.dcc_instruction_demand.proofs.StageLaws.{is_kept_place, outs}
use Rattle.dcc_instruction_demand.proofs.WorkLaws.{point_with_op}
use Rattle.dcc_instruction_demand.proofs.FrameLaws.{frame_body, IsOpen, AccessAt, open_nowhere}
use Rattle.dcc_instruction_demand.proofs.SpotLaws.{low_of, high_of, address_reads, IsOpenSpot, IsHalf, HasWord}
use Rattle.dcc_instruction_demand.proofs.SpotLaws.{HasBytes}
use Rattle.dcc_instruction_demand.proofs.MovingLaws.{moved_to, between_to, word_held, IsMovingOperation, word_there}
use Rattle.dcc_instruction_demand.proofs.MoveStmts.{halves_apart, low_effect, high_effect, low_word, high_word}
use Rattle.dcc_instruction_demand.proofs.MoveStmts.{low_word_then, high_word_then}
use Rattle.dcc_instruction_demand.proofs.MoveForms.{word_unwritten, word_unpopped}
use Rattle.dcc_instruction_demand.proofs.PairedLaws.{ArePaired, Pairing, IsStored, moves_agree}
use Rattle.dcc_instruction_demand.proofs.MoveLaws.{FitsEffect, BothFit, none_fit, word_left, word_pairing}
use Rattle.dcc_instruction_demand.proofs.MoveAgree.{IsCalm, calm_agrees}
use Rattle.dcc_instruction_demand.proofs.OperandBytes.{no_address, AreBytesAt, word_of, celled_spot, access_bytes}
use Rattle.dcc_instruction_demand.proofs.OperandBytes.{access_address}

alone : (x y : Loc) → is_among (y ∷ []) x ≡ true → x ≡ y
alone x y t = location_same x y (sym (or_none (same_location x y)) ∙ t)

module _ (coarse : Procedures ℕ Holder ℤ) (fine : Procedures Position Loc Loc) (r : Refinement ℕ Holder ℤ Position Loc Loc) (entry at : ℕ)
    (o : Option Procedure) (q : Procedure) (found : o ≡ Some q) (heights : List (ℕ × ℕ)) (bodies : List Body) where
  abbrev body : Body
  body = frame_body o q found heights

  abbrev pushed : ℕ
  pushed = pushed_of q

  abbrev exposed : Holder → Bool
  exposed = (coarse.procedure entry).is_exposed

  module _ (point : Point) (v : IsMovingOperation coarse fine r entry at (pushed_of q) o bodies (frame_body o q found heights) point) where
    abbrev WordAt : Spot → Spot → OperandPlace → Type 0
    WordAt = HasWord o body exposed

    -- What passes between procedures is no byte of the frame, and where it is a half, a half of a register.

    unpassed : (k : ℤ) → coarse.passes (in_frame k) ≡ true → ⊥
    unpassed k p = true≢false (sym p ∙ v.passes_is (in_frame k))

    passing_half : (L : Holder) (l : Loc) → IsSame o L l → coarse.passes L ≡ true → is_kept_place l ≡ true → is_half l ≡ true
    passing_half L l s p t = by (same_cases o s)
      where
        inner : (location : Location) → l ≡ inner_of location → is_half l ≡ true
        inner (half_of r h) e = ap is_half e
        inner (flag_of f) e = absurd (true≢false (sym t ∙ ap is_kept_place e))

        by : SameCases o L l → is_half l ≡ true
        by (SameCases.by_held location c e f) = inner location f
        by (SameCases.by_kept other k c e kept f) = absurd (unpassed k (subst (λ M. coarse.passes M ≡ true) e p))

    passing_cell : (L : Holder) (n : ℕ) (h : HalfName) → IsSame o L (Cell n h) → coarse.passes L ≡ true → ⊥
    passing_cell L n h s p = true≢false (sym (passing_half L (Cell n h) s p refl))

    -- POP.

    module _ (private_is : (j : ℤ) (c : Loc) → frame_place q byte_width j ≡ byte c → (coarse.procedure entry).is_private j ≡ is_pushed (pushed_of q) c)
        (private_open : (j : ℤ) → IsOpen o q found heights j → (coarse.procedure entry).is_private j ≡ false) (words_same : (j : ℤ) (c : Loc) → IsSameWord o j c → r.same_word entry j c) where
      -- a half that is popped from a pushed word is saved there, and from another word it is lost
      popped_fits : (j : ℤ) (c l : Loc) → frame_place q byte_width j ≡ byte c → is_half l ≡ true → EffectsAgree coarse fine r entry (Pops j) (effect_of (pushed_of q) (Set l (Get c)))
      popped_fits j c l place half = by (is_pushed pushed c) refl
        where
          effect_is : (b : Bool) → is_pushed pushed c ≡ b → effect_of pushed (Set l (Get c)) ≡ (if b then Pops c else Copies c)
          effect_is b e = ap (λ d. if d && is_pushed pushed c then Pops c else Copies c) half ∙ ap (λ d. if d then Pops c else Copies c) e

          by : (b : Bool) → is_pushed pushed c ≡ b → EffectsAgree coarse fine r entry (Pops j) (effect_of pushed (Set l (Get c)))
          by true e =
              subst (λ y. EffectsAgree coarse fine r entry (Pops j) y) (sym (effect_is true e))
              (EffectsAgree.both_pop (private_is j c place ∙ e) (v.fine_private c ∙ e) (words_same j c (record { found = q; is_found = found; kept = place; pushed = e })))
          by false e =
              subst (λ y. EffectsAgree coarse fine r entry (Pops j) y) (sym (effect_is false e))
              (EffectsAgree.both_lose (LosesAtOnce.popped_open (private_is j c place ∙ e)) LosesAtOnce.copied)

      module _ (addresses : Holder → Bool) (k : ℤ) where
        abbrev Fits : OperandPlace → OperandPlace → Type 0
        Fits P Q = BothFit coarse fine r entry at (pushed_of q) o bodies body point v addresses P (mov_stmts word_width P Q) (Pops k) (Pops (k +ℤ pos 1))

        nothing_fits : (Q P : OperandPlace) → low_of P ≡ [] → high_of P ≡ [] → Fits P Q
        nothing_fits Q P e f = (
          subst (λ ls. FitsEffect coarse fine r entry at (pushed_of q) o bodies body point v addresses (mov_stmts word_width P Q) ls (Pops k)) (sym e)
              (none_fit coarse fine r entry at (pushed_of q) o bodies body point v addresses (mov_stmts word_width P Q) (Pops k)),
          subst (λ ls. FitsEffect coarse fine r entry at (pushed_of q) o bodies body point v addresses (mov_stmts word_width P Q) ls (Pops (k +ℤ pos 1))) (sym f)
              (none_fit coarse fine r entry at (pushed_of q) o bodies body point v addresses (mov_stmts word_width P Q) (Pops (k +ℤ pos 1))),
        )

        module _ (L M : Holder) (l m : Loc) (a : IsHalf o body exposed L l) (b : IsHalf o body exposed M m) (low : is_low l ≡ true) (high : is_high m ≡ true) where
          apart : same_location l m ≡ false
          apart = halves_apart l m low high

          -- of a cell
          of_cell : (c d : Loc) → frame_place q byte_width k ≡ byte c → frame_place q byte_width (k +ℤ pos 1) ≡ byte d → Fits (word l m) (word c d)
          of_cell c d first second = (
            λ N x t s p.
                let same = alone x l t in
                subst (λ y. EffectsAgree coarse fine r entry (Pops k) (effect_after (pushed_of q) (Set l (Get c) ∷ Set m (Get d) ∷ []) y)) (sym same)
                (subst (λ y. EffectsAgree coarse fine r entry (Pops k) y) (sym (low_effect (fine.procedure entry) (pushed_of q) l m apart (Get c) (Get d)))
                (popped_fits k c l first (passing_half N l (subst (λ y. IsSame o N y) same s) p a.kept))),
            λ N x t s p.
                let same = alone x m t in
                subst (λ y. EffectsAgree coarse fine r entry (Pops (k +ℤ pos 1)) (effect_after (pushed_of q) (Set l (Get c) ∷ Set m (Get d) ∷ []) y)) (sym same)
                (subst (λ y. EffectsAgree coarse fine r entry (Pops (k +ℤ pos 1)) y) (sym (high_effect (fine.procedure entry) (pushed_of q) l m apart (Get c) (Get d)))
                (popped_fits (k +ℤ pos 1) d m second (passing_half N m (subst (λ y. IsSame o N y) same s) p b.kept))),
          )

          -- of memory
          of_memory : (f g : Spot) (e : Expr) → WordAt f g (memory word_width e) → (coarse.procedure entry).is_private k ≡ false → (coarse.procedure entry).is_private (k +ℤ pos 1) ≡ false → Fits (word l m) (memory word_width e)
          of_memory f g e w open_low open_high = (
            λ N x t s p. EffectsAgree.both_lose (LosesAtOnce.popped_open open_low) (lost x (written x N s (or_here (same_location x l) (same_location x m || false) (sym (or_none (same_location x l)) ∙ t)))),
            λ N x t s p. EffectsAgree.both_lose (LosesAtOnce.popped_open open_high) (lost x (written x N s (or_there (same_location x l) (same_location x m || false) t))),
          )
            where
              lost : (x : Loc) → is_written (mov_stmts word_width (word l m) (memory word_width e)) x ≡ true → LosesAtOnce (fine.procedure entry) (effect_after (pushed_of q) (mov_stmts word_width (word l m) (memory word_width e)) x)
              lost x t =
                  effect_lost (fine.procedure entry) (pushed_of q) (mov_stmts word_width (word l m) (memory word_width e)) x
                  (word_unpopped o body exposed l m low high f g (memory word_width e) (pushed_of q) (λ y u. absurd (true≢false (sym u))) w) t

              written : (x : Loc) (N : Holder) → IsSame o N x → is_among (l ∷ m ∷ []) x ≡ true → is_written (mov_stmts word_width (word l m) (memory word_width e)) x ≡ true
              written x N s t = word_unwritten o body exposed l m low high f g (memory word_width e) w x (same_lasts o N x s) ∙ t

        word_fits : (t u : Spot) (P : OperandPlace) → WordAt t u P → AccessAt o q found heights word_width k → Fits P (frame_place q word_width k)
        word_fits _ _ _ (HasWord.two_halves {L = L} {M = M} {l = l} {m = m} a b low high) access = by access
          where
            by : AccessAt o q found heights word_width k → Fits (word l m) (frame_place q word_width k)
            by (AccessAt.byte_access n h w place inside) = absurd (cc w)
            by (AccessAt.word_access n w place first second inside inside_next) =
                subst (λ Q. Fits (word l m) Q) (sym place) (of_cell L M l m a b low high (Cell n Low) (Cell n High) first second)
            by (AccessAt.open_access place opens next) =
                subst (λ Q. Fits (word l m) Q) (sym place)
                (of_memory L M l m a b low high (frame_spot body k) (frame_spot body (k +ℤ pos 1)) (Address (distance_of k))
                (subst (λ Q. WordAt (frame_spot body k) (frame_spot body (k +ℤ pos 1)) Q) place
                (word_of o body exposed (frame_spot body k) (frame_spot body (k +ℤ pos 1)) (frame_place q word_width k) (access_bytes o q found heights exposed (λ j. v.exposed (in_frame j)) word_width k access)))
                (private_open k opens) (private_open (k +ℤ pos 1) (next refl)))
        word_fits _ _ _ (HasWord.constant_word {n = n}) access = nothing_fits (frame_place q word_width k) (constant word_width n) refl refl
        word_fits _ _ _ (HasWord.of_pointer {e = e} none) access = nothing_fits (frame_place q word_width k) (computed e) refl refl
        word_fits _ _ _ (HasWord.open_word {e = e} opens next kept) access = nothing_fits (frame_place q word_width k) (memory word_width e) refl refl

        -- the word is popped to these bytes
        popped_pairing : (a : Operand) (to : List Spot) (P : OperandPlace) → addresses ≡ is_of_address a → HasBytes o body exposed word_width to P → AccessAt o q found heights word_width k
            → Shows (IsSame o) (λ M. (is_holder body M ≡ true) × (addresses M ≡ true)) (address_reads P)
            → Pairing coarse fine r entry at (pushed_of q) o bodies body point v (mov_stmts word_width P (frame_place q word_width k)) (popping body a to k) (outs P)
        popped_pairing a _ P same (HasBytes.as_word {f = t} {g = u} p) access shown =
            subst (λ taking. Pairing coarse fine r entry at (pushed_of q) o bodies body point v (mov_stmts word_width P (frame_place q word_width k))
            (record { to = t; effect = Pops k; made_of = λ place. is_at (frame_spot body k) place || taking place }
            ∷ record { to = u; effect = Pops (k +ℤ pos 1); made_of = λ place. is_at (frame_spot body (k +ℤ pos 1)) place || taking place } ∷ []) (outs P)) same
            (word_pairing coarse fine r entry at (pushed_of q) o bodies body point v addresses t u (frame_spot body k) (frame_spot body (k +ℤ pos 1)) P (frame_place q word_width k) (Pops k) (Pops (k +ℤ pos 1)) p
            (word_of o body exposed (frame_spot body k) (frame_spot body (k +ℤ pos 1)) (frame_place q word_width k) (access_bytes o q found heights exposed (λ j. v.exposed (in_frame j)) word_width k access))
            (subst (λ ls. Shows (IsSame o) (λ M. (is_holder body M ≡ true) × (addresses M ≡ true)) (address_reads P ++ ls)) (sym (access_address o q found heights exposed (λ j. v.exposed (in_frame j)) word_width k access))
            (subst (λ ls. Shows (IsSame o) (λ M. (is_holder body M ≡ true) × (addresses M ≡ true)) ls) (sym (append-nil (address_reads P))) shown))
            (word_fits t u P p access))

    -- PUSH.

    -- what is pushed of a byte
    module _ (L : Holder) (l : Loc) (s : IsSame o L l) (p : coarse.passes L ≡ true) where
      open_spoils : (t : Spot) → IsOpenSpot o body exposed t → Spoils L (pushing t)
      open_spoils _ IsOpenSpot.in_no_cell = Spoils.overwritten
      open_spoils _ (IsOpenSpot.in_open_cell {k = k} e) = Spoils.by_other (λ same. unpassed k (subst (λ M. coarse.passes M ≡ true) (sym same) p))

      half_pushed : (M : Holder) (m : Loc) → IsHalf o body exposed M m → (c : Loc) → WordEffectsAgree coarse fine r L l (Pushes M) (word_effect_of (Set c (Get m)))
      half_pushed M m h c = elim (decided (same_location m l)) [
        | inl t ↦
            let one = location_same m l t in
            let place : M ≡ L = v.one M L l (subst (λ y. IsSame o M y) one h.same) s in
            subst (λ N. WordEffectsAgree coarse fine r L l (Pushes N) (if is_half m then Pushes m else Overwrites)) (sym place)
            (subst (λ y. WordEffectsAgree coarse fine r L l (Pushes L) (if is_half y then Pushes y else Overwrites)) (sym one)
            (subst (λ b. WordEffectsAgree coarse fine r L l (Pushes L) (if b then Pushes l else Overwrites)) (sym (passing_half L l s p (subst (λ y. is_kept_place y ≡ true) one h.kept)))
            WordEffectsAgree.both_push))
        | inr f ↦
            WordEffectsAgree.both_spoil (Spoils.by_other (λ same. true≢false (sym (subst (λ y. same_location m y ≡ true) (same_once (subst (λ N. IsSame o N m) same h.same) s) (location_itself m)) ∙ f)))
            (by (is_half m) (λ same. true≢false (sym (subst (λ y. same_location m y ≡ true) same (location_itself m)) ∙ f)))
      ]
        where
          by : (b : Bool) → ¬ (m ≡ l) → Spoils l (if b then Pushes m else Overwrites)
          by true other = Spoils.by_other other
          by false other = Spoils.overwritten

      module _ (c d : Loc) (apart : same_location c d ≡ false) where
        agree_as : (y : WordEffect Holder) (z w : WordEffect Loc) → w ≡ z → WordEffectsAgree coarse fine r L l y z → WordEffectsAgree coarse fine r L l y w
        agree_as y z w e a = subst (λ x. WordEffectsAgree coarse fine r L l y x) (sym e) a

        pub low_pushed : (f g : Spot) (Q : OperandPlace) → WordAt f g Q → WordEffectsAgree coarse fine r L l (pushing f) (word_effect_after (pushed_of q) (mov_stmts word_width (word c d) Q) c)
        low_pushed _ _ Q (HasWord.two_halves {L = M} {l = m} {m = n} a b low high) =
            agree_as (Pushes M) (word_effect_of (Set c (Get m))) (word_effect_after pushed (mov_stmts word_width (word c d) Q) c) (low_word (fine.procedure entry) pushed c d apart (Get m) (Get n)) (half_pushed M m a c)
        low_pushed _ _ Q (HasWord.constant_word {n = n}) =
            agree_as Overwrites Overwrites (word_effect_after pushed (mov_stmts word_width (word c d) Q) c) (low_word (fine.procedure entry) pushed c d apart (Const 8 (n % 256)) (Const 8 (n / 256)))
            (WordEffectsAgree.both_spoil Spoils.overwritten Spoils.overwritten)
        low_pushed _ _ Q (HasWord.of_pointer none) =
            agree_as Overwrites Overwrites (word_effect_after pushed (mov_stmts word_width (word c d) Q) c)
            (low_word_then (fine.procedure entry) pushed c d apart (Part 8 0 (left word_width)) (Part 8 8 (left word_width)) (taking (left_place word_width) Q)) (WordEffectsAgree.both_spoil Spoils.overwritten Spoils.overwritten)
        low_pushed f _ Q (HasWord.open_word opens next kept) =
            agree_as (pushing f) Overwrites (word_effect_after pushed (mov_stmts word_width (word c d) Q) c)
            (low_word_then (fine.procedure entry) pushed c d apart (Part 8 0 (left word_width)) (Part 8 8 (left word_width)) (taking (left_place word_width) Q)) (WordEffectsAgree.both_spoil (open_spoils f opens) Spoils.overwritten)

        pub high_pushed : (f g : Spot) (Q : OperandPlace) → WordAt f g Q → WordEffectsAgree coarse fine r L l (pushing g) (word_effect_after (pushed_of q) (mov_stmts word_width (word c d) Q) d)
        high_pushed _ _ Q (HasWord.two_halves {M = M} {l = m} {m = n} a b low high) =
            agree_as (Pushes M) (word_effect_of (Set d (Get n))) (word_effect_after pushed (mov_stmts word_width (word c d) Q) d) (high_word (fine.procedure entry) pushed c d apart (Get m) (Get n)) (half_pushed M n b d)
        high_pushed _ _ Q (HasWord.constant_word {n = n}) =
            agree_as Overwrites Overwrites (word_effect_after pushed (mov_stmts word_width (word c d) Q) d) (high_word (fine.procedure entry) pushed c d apart (Const 8 (n % 256)) (Const 8 (n / 256)))
            (WordEffectsAgree.both_spoil Spoils.overwritten Spoils.overwritten)
        high_pushed _ _ Q (HasWord.of_pointer none) =
            agree_as Overwrites Overwrites (word_effect_after pushed (mov_stmts word_width (word c d) Q) d)
            (high_word_then (fine.procedure entry) pushed c d apart (Part 8 0 (left word_width)) (Part 8 8 (left word_width)) (taking (left_place word_width) Q)) (WordEffectsAgree.both_spoil Spoils.overwritten Spoils.overwritten)
        high_pushed _ g Q (HasWord.open_word opens next kept) =
            agree_as (pushing g) Overwrites (word_effect_after pushed (mov_stmts word_width (word c d) Q) d)
            (high_word_then (fine.procedure entry) pushed c d apart (Part 8 0 (left word_width)) (Part 8 8 (left word_width)) (taking (left_place word_width) Q)) (WordEffectsAgree.both_spoil (open_spoils g next) Spoils.overwritten)

    module _ (addresses : Holder → Bool) (k : ℤ) where
      -- which byte of a pushed word a word of the stack is: the low one, the high one, or none
      data PushedAt (from : List Spot) (j : ℤ) (f g : Spot) : Type 0 where
        at_low : j ≡ k → pushed_from k from j ≡ pushing f → PushedAt from j f g
        at_high : j ≡ (k +ℤ pos 1) → pushed_from k from j ≡ pushing g → PushedAt from j f g
        elsewhere : ¬ (j ≡ k) → ¬ (j ≡ (k +ℤ pos 1)) → pushed_from k from j ≡ LeavesWord → PushedAt from j f g

      pushed_at : (f g : Spot) (j : ℤ) → PushedAt (f ∷ g ∷ []) j f g
      pushed_at f g j = by (int_eq k j) (int_eq (k +ℤ pos 1) j) refl refl
        where
          way : Bool → Bool → WordEffect Holder
          way a b = if a then pushing f else if b then pushing g else LeavesWord

          other : (i : ℤ) → int_eq i j ≡ false → ¬ (j ≡ i)
          other i e same = true≢false (sym ((Decides-int_eq i j).1 (sym same)) ∙ e)

          by : (a b : Bool) → int_eq k j ≡ a → int_eq (k +ℤ pos 1) j ≡ b → PushedAt (f ∷ g ∷ []) j f g
          by true b e d = PushedAt.at_low (sym ((Decides-int_eq k j).0 e)) (ap (λ a. if a then pushing f else if int_eq (k +ℤ pos 1) j then pushing g else LeavesWord) e)
          by false true e d =
              PushedAt.at_high (sym ((Decides-int_eq (k +ℤ pos 1) j).0 d))
              (ap (λ a. if a then pushing f else if int_eq (k +ℤ pos 1) j then pushing g else LeavesWord) e ∙ ap (λ b. if b then pushing g else LeavesWord) d)
          by false false e d =
              PushedAt.elsewhere (other k e) (other (k +ℤ pos 1) d)
              (ap (λ a. if a then pushing f else if int_eq (k +ℤ pos 1) j then pushing g else LeavesWord) e ∙ ap (λ b. if b then pushing g else LeavesWord) d)

      abbrev Access : Type 0
      Access = AccessAt o q found heights word_width k

      abbrev there : OperandPlace
      there = frame_place q word_width k

      there_bytes : Access → WordAt (frame_spot body k) (frame_spot body (k +ℤ pos 1)) (frame_place q word_width k)
      there_bytes access = word_of o body exposed (frame_spot body k) (frame_spot body (k +ℤ pos 1)) (frame_place q word_width k) (access_bytes o q found heights exposed (λ j. v.exposed (in_frame j)) word_width k access)

      -- what passes between procedures isn't written
      pushed_fits : (Q : OperandPlace) (d e : Effect Holder ℤ) → Access → BothFit coarse fine r entry at (pushed_of q) o bodies body point v addresses (frame_place q word_width k) (mov_stmts word_width (frame_place q word_width k) Q) d e
      pushed_fits Q d e access = by access
        where
          by : Access → BothFit coarse fine r entry at (pushed_of q) o bodies body point v addresses (frame_place q word_width k) (mov_stmts word_width (frame_place q word_width k) Q) d e
          by (AccessAt.byte_access n h w place inside) = absurd (cc w)
          by (AccessAt.word_access n w place first second inside inside_next) =
              subst (λ P. BothFit coarse fine r entry at (pushed_of q) o bodies body point v addresses P (mov_stmts word_width P Q) d e) (sym place) (
                λ N x t s p. absurd (passing_cell N n Low (subst (λ y. IsSame o N y) (alone x (Cell n Low) t) s) p),
                λ N x t s p. absurd (passing_cell N n High (subst (λ y. IsSame o N y) (alone x (Cell n High) t) s) p),
              )
          by (AccessAt.open_access place opens next) =
              subst (λ P. BothFit coarse fine r entry at (pushed_of q) o bodies body point v addresses P (mov_stmts word_width P Q) d e) (sym place) (
                none_fit coarse fine r entry at (pushed_of q) o bodies body point v addresses (mov_stmts word_width (memory word_width (Address (distance_of k))) Q) d,
                none_fit coarse fine r entry at (pushed_of q) o bodies body point v addresses (mov_stmts word_width (memory word_width (Address (distance_of k))) Q) e,
              )

      pushed_pairing : (from : List Spot) (Q : OperandPlace) → HasBytes o body exposed word_width from Q → Access → Shows (IsSame o) (λ M. (is_holder body M ≡ true) × (addresses M ≡ true)) (address_reads Q)
          → Pairing coarse fine r entry at (pushed_of q) o bodies body point v (mov_stmts word_width (frame_place q word_width k) Q) (moves_between addresses (word_spots body k) from) (outs (frame_place q word_width k))
      pushed_pairing _ Q (HasBytes.as_word {f = f} {g = g} w) access shown =
          word_pairing coarse fine r entry at (pushed_of q) o bodies body point v addresses (frame_spot body k) (frame_spot body (k +ℤ pos 1)) f g (frame_place q word_width k) Q (copying f) (copying g) (there_bytes access) w
          (subst (λ ls. Shows (IsSame o) (λ M. (is_holder body M ≡ true) × (addresses M ≡ true)) (ls ++ address_reads Q)) (sym (access_address o q found heights exposed (λ j. v.exposed (in_frame j)) word_width k access)) shown)
          (pushed_fits Q (copying f) (copying g) access)

      -- the words of the stack
      module _ (Q : OperandPlace) (f g : Spot) (w : WordAt f g Q) (L : Holder) (l : Loc) (s : IsSame o L l) (p : coarse.passes L ≡ true) (j : ℤ) (x : Loc) (is : IsSameWord o j x) where
        abbrev Agree : OperandPlace → WordEffect Holder → Loc → Type 0
        Agree P y z = WordEffectsAgree coarse fine r L l y (word_effect_after (pushed_of q) (mov_stmts word_width P Q) z)

        x_there : IsSame o (in_frame j) x
        x_there = IsSame.is_kept is.is_found is.kept

        -- a byte of the stack is left where another one is pushed
        stays : (access : Access) → is_among (outs (frame_place q word_width k)) x ≡ false → pushed_from k (f ∷ g ∷ []) j ≡ LeavesWord → Agree (frame_place q word_width k) (pushed_from k (f ∷ g ∷ []) j) x
        stays access e d =
            subst (λ y. Agree (frame_place q word_width k) y x) (sym d)
            (subst (λ y. WordEffectsAgree coarse fine r L l LeavesWord y)
            (sym (word_unwritten_left (fine.procedure entry) (pushed_of q) (mov_stmts word_width (frame_place q word_width k) Q) x
            (word_left coarse fine r entry at (pushed_of q) o bodies body point v addresses (frame_spot body k) (frame_spot body (k +ℤ pos 1)) f g (frame_place q word_width k) Q (there_bytes access) w x (word_lasts o j x is) e)))
            WordEffectsAgree.both_leave)

        -- the location of the byte that is pushed is that of the cell's byte
        byte_is : (i : ℤ) (c : Loc) → frame_place q byte_width i ≡ byte c → j ≡ i → x ≡ c
        byte_is i c place same = same_once x_there (subst (λ n. IsSame o (in_frame n) c) (sym same) (IsSame.is_kept found place))

        other_byte : (i : ℤ) (c : Loc) → frame_place q byte_width i ≡ byte c → ¬ (j ≡ i) → same_location x c ≡ false
        other_byte i c place other = elim (decided (same_location x c)) [
          | inr e ↦ e
          | inl t ↦
              let places : in_frame j ≡ in_frame i = v.one (in_frame j) (in_frame i) c (subst (λ y. IsSame o (in_frame j) y) (location_same x c t) x_there) (IsSame.is_kept found place) in
              absurd (other (cc places))
        ]

        in_cell : (access : Access) (n : ℕ) → frame_place q word_width k ≡ word (Cell n Low) (Cell n High) → frame_place q byte_width k ≡ byte (Cell n Low) → frame_place q byte_width (k +ℤ pos 1) ≡ byte (Cell n High)
            → PushedAt (f ∷ g ∷ []) j f g → Agree (frame_place q word_width k) (pushed_from k (f ∷ g ∷ []) j) x
        in_cell access n place first second (PushedAt.at_low same e) =
            subst (λ y. Agree (frame_place q word_width k) y x) (sym e) (subst (λ z. Agree (frame_place q word_width k) (pushing f) z) (sym (byte_is k (Cell n Low) first same))
            (subst (λ P. Agree P (pushing f) (Cell n Low)) (sym place) (low_pushed L l s p (Cell n Low) (Cell n High) (halves_apart (Cell n Low) (Cell n High) refl refl) f g Q w)))
        in_cell access n place first second (PushedAt.at_high same e) =
            subst (λ y. Agree (frame_place q word_width k) y x) (sym e) (subst (λ z. Agree (frame_place q word_width k) (pushing g) z) (sym (byte_is (k +ℤ pos 1) (Cell n High) second same))
            (subst (λ P. Agree P (pushing g) (Cell n High)) (sym place) (high_pushed L l s p (Cell n Low) (Cell n High) (halves_apart (Cell n Low) (Cell n High) refl refl) f g Q w)))
        in_cell access n place first second (PushedAt.elsewhere a b e) =
            stays access
            (ap (λ P. is_among (outs P) x) place ∙ ap (λ c. c || (same_location x (Cell n High) || false)) (other_byte k (Cell n Low) first a) ∙ ap (λ c. c || false) (other_byte (k +ℤ pos 1) (Cell n High) second b)) e

        in_open : (access : Access) → frame_place q word_width k ≡ memory word_width (Address (distance_of k)) → IsOpen o q found heights k → IsOpen o q found heights (k +ℤ pos 1)
            → PushedAt (f ∷ g ∷ []) j f g → Agree (frame_place q word_width k) (pushed_from k (f ∷ g ∷ []) j) x
        in_open access place opens next (PushedAt.at_low same e) = absurd (open_nowhere o q found heights j x (subst (λ i. IsOpen o q found heights i) (sym same) opens) x_there)
        in_open access place opens next (PushedAt.at_high same e) = absurd (open_nowhere o q found heights j x (subst (λ i. IsOpen o q found heights i) (sym same) next) x_there)
        in_open access place opens next (PushedAt.elsewhere a b e) = stays access (ap (λ P. is_among (outs P) x) place) e

        word_pushed : Access → Agree (frame_place q word_width k) (pushed_from k (f ∷ g ∷ []) j) x
        word_pushed access = by access
          where
            by : Access → Agree (frame_place q word_width k) (pushed_from k (f ∷ g ∷ []) j) x
            by (AccessAt.byte_access n h u place inside) = absurd (cc u)
            by (AccessAt.word_access n u place first second inside inside_next) = in_cell access n place first second (pushed_at f g j)
            by (AccessAt.open_access place opens next) = in_open access place opens (next refl) (pushed_at f g j)

      pushed_words : (from : List Spot) (Q : OperandPlace) → HasBytes o body exposed word_width from Q → Access → (L : Holder) (l : Loc) (j : ℤ) (x : Loc) → IsSame o L l → coarse.passes L ≡ true → IsSameWord o j x
          → WordEffectsAgree coarse fine r L l (pushed_from k from j) (word_effect_after (pushed_of q) (mov_stmts word_width (frame_place q word_width k) Q) x)
      pushed_words _ Q (HasBytes.as_word {f = f} {g = g} w) access L l j x s p is = word_pushed Q f g w L l s p j x is access

    -- what is pushed moves no half and no flag
    unmoved : (addresses : Holder → Bool) (k : ℤ) (from : List Spot) (L : Holder) → coarse.passes L ≡ true → moved_to (moves_between addresses (word_spots body k) from) L ≡ false
    unmoved addresses k from (held l) p = between_to addresses (word_spots body k) from (held l) ∙ word_held body k l
    unmoved addresses k from (in_frame j) p = absurd (unpassed j p)

  -- Together.

  module _ (node : Node) (height : ℕ) where
    pub pop_agrees : (a : Operand) (v : IsMovingOperation coarse fine r entry at (pushed_of q) o bodies (frame_body o q found heights) (point_with_op node height (Pop a)))
        → ((j : ℤ) (c : Loc) → frame_place q byte_width j ≡ byte c → (coarse.procedure entry).is_private j ≡ is_pushed (pushed_of q) c) → ((j : ℤ) → IsOpen o q found heights j → (coarse.procedure entry).is_private j ≡ false)
        → ((j : ℤ) (c : Loc) → IsSameWord o j c → r.same_word entry j c) → (P : OperandPlace) → AreBytesAt o (frame_body o q found heights) (coarse.procedure entry).is_exposed word_width a P
        → AccessAt o q found heights word_width (popped_offset height) → IsCalm coarse fine r entry at (pushed_of q) o bodies (frame_body o q found heights) (point_with_op node height (Pop a)) v
        → Agrees coarse fine r entry at (pushed_of q) (mov_stmts word_width P (frame_place q word_width (popped_offset height))) []
    pop_agrees a v private_is private_open words_same P bytes access calm =
        calm_agrees coarse fine r entry at (pushed_of q) o bodies body (point_with_op node height (Pop a)) v calm (mov_stmts word_width P (frame_place q word_width (popped_offset height))) (outs P)
        (popped_pairing (point_with_op node height (Pop a)) v private_is private_open words_same (is_of_address a) (popped_offset height) a (spots_of body a) P refl bytes.bytes access bytes.addresses)

    pub push_agrees : (a : Operand) (v : IsMovingOperation coarse fine r entry at (pushed_of q) o bodies (frame_body o q found heights) (point_with_op node height (Push a)))
        (Q : OperandPlace) → AreBytesAt o (frame_body o q found heights) (coarse.procedure entry).is_exposed word_width a Q → AccessAt o q found heights word_width (pushed_offset height)
        → Agrees coarse fine r entry at (pushed_of q) (mov_stmts word_width (frame_place q word_width (pushed_offset height)) Q) []
    push_agrees a v Q bytes access =
        let point = point_with_op node height (Push a) in
        let stmts = mov_stmts word_width (frame_place q word_width (pushed_offset height)) Q in
        moves_agree coarse fine r entry at (pushed_of q) o bodies body point v stmts (record {
          outs = outs (frame_place q word_width (pushed_offset height));
          pairing = pushed_pairing point v (is_of_address a) (pushed_offset height) (spots_of body a) Q bytes.bytes access bytes.addresses;
          words = λ L l j x s p t.
              subst (λ y. WordEffectsAgree coarse fine r L l y (word_effect_after (pushed_of q) stmts x)) (sym (word_there coarse fine r entry at (pushed_of q) o bodies body point v j))
              (pushed_words point v (is_of_address a) (pushed_offset height) (spots_of body a) Q bytes.bytes access L l j x s p (v.same_word j x t));
          saved = λ L j p e. unmoved point v (is_of_address a) (pushed_offset height) (spots_of body a) L p;
          popped = λ L j x p m t. absurd (true≢false (sym m ∙ unmoved point v (is_of_address a) (pushed_offset height) (spots_of body a) L p));
        })

    -- PUSH BP, where the word that is saved lies in no cell.
    module _ (v : IsMovingOperation coarse fine r entry at (pushed_of q) o bodies (frame_body o q found heights) (point_with_op node height (Push (Word Bp))))
        (low_apart : is_in_cell (frame_body o q found heights) (pushed_offset height) ≡ false) (high_apart : is_in_cell (frame_body o q found heights) (pushed_offset height +ℤ pos 1) ≡ false)
        (celled : (j : ℤ) (x : Loc) → IsSameWord o j x → is_in_cell (frame_body o q found heights) j ≡ true) where
      abbrev point : Point
      point = point_with_op node height (Push (Word Bp))

      abbrev saving : List Move
      saving = moves_between (is_of_address (Word Bp)) (word_spots body (pushed_offset height)) (nowhere ∷ nowhere ∷ [])

      apart_spot : (k : ℤ) → is_in_cell body k ≡ false → IsOpenSpot o body exposed (frame_spot body k)
      apart_spot k e = subst (λ s. IsOpenSpot o body exposed s) (sym (celled_spot o q found heights exposed (λ j. v.exposed (in_frame j)) k false e)) IsOpenSpot.in_no_cell

      none_saved : (L : Holder) → IsStored coarse fine r entry at (pushed_of q) o bodies body point saving L → ⊥
      none_saved L (inl here) = true≢false (sym here.1 ∙ no_address (Word Bp) refl L)
      none_saved L (inr (inl here)) = true≢false (sym here.1 ∙ no_address (Word Bp) refl L)
      none_saved L (inr (inr none)) = none

      word_left_alone : (j : ℤ) (x : Loc) → IsSameWord o j x → pushed_from (pushed_offset height) (nowhere ∷ nowhere ∷ []) j ≡ LeavesWord
      word_left_alone j x is = by (pushed_at point v (is_of_address (Word Bp)) (pushed_offset height) nowhere nowhere j)
        where
          by : PushedAt point v (is_of_address (Word Bp)) (pushed_offset height) (nowhere ∷ nowhere ∷ []) j nowhere nowhere → pushed_from (pushed_offset height) (nowhere ∷ nowhere ∷ []) j ≡ LeavesWord
          by (PushedAt.at_low same e) = absurd (true≢false (sym (celled j x is) ∙ ap (is_in_cell body) same ∙ low_apart))
          by (PushedAt.at_high same e) = absurd (true≢false (sym (celled j x is) ∙ ap (is_in_cell body) same ∙ high_apart))
          by (PushedAt.elsewhere a b e) = e

      pub push_bp_agrees : Agrees coarse fine r entry at (pushed_of q) [] []
      push_bp_agrees =
          moves_agree coarse fine r entry at (pushed_of q) o bodies body point v [] (record {
            outs = [];
            pairing = record {
              paired = ArePaired.open_more (apart_spot (pushed_offset height) low_apart) (ArePaired.open_more (apart_spot (pushed_offset height +ℤ pos 1) high_apart) ArePaired.no_more);
              unwritten = λ m t e. refl;
              stored = shows_never (IsSame o) (λ L. (is_holder body L ≡ true) × IsStored coarse fine r entry at (pushed_of q) o bodies body point saving L) (λ L t. none_saved L t.1);
              quiet = tt;
            };
            words = λ L l j x s p t.
                subst (λ y. WordEffectsAgree coarse fine r L l y LeavesWord) (sym (word_there coarse fine r entry at (pushed_of q) o bodies body point v j ∙ word_left_alone j x (v.same_word j x t))) WordEffectsAgree.both_leave;
            saved = λ L j p e. unmoved point v (is_of_address (Word Bp)) (pushed_offset height) (nowhere ∷ nowhere ∷ []) L p;
            popped = λ L j x p m t. refl;
          })
