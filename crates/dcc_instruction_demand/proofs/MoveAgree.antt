-- MOV and XCHG do what their statements do together.
use Rattle.std.proofs.Common.{◌≡◌, ℕ, ℤ, Bool, true, false, ◌&&◌, ◌||◌, if◌then◌else◌, ◌⊎◌, inl, inr, List, [], ◌∷◌, ◌++◌, Option, refl, sym, ap, ◌∙◌, subst, true≢false}
use Rattle.std.proofs.lemmas.List.{append-nil}
use Rattle.dcc_num.specs.declared.Width.{Width}
use Rattle.dcc_prog.specs.declared.procedure.Node.{Node}
use Rattle.dcc_machine.specs.declared.instr.Operand.{Operand}
use Rattle.dcc_machine.specs.declared.instr.Op.TheVariants.{Mov, Xchg}
use Rattle.dcc_ir.specs.declared.syntax.Loc.{Loc}
use Rattle.dcc_ir.specs.Location.{same_location}
use Rattle.dcc_ir.specs.Tree.{Stmt}
use Rattle.dcc_ir.specs.Use.{reads_of}
use Rattle.dcc_ir.specs.Live.{is_among}
use Rattle.dcc_ir.proofs.LocationLaws.{location_itself}
use Rattle.dcc_ops.specs.OperandPlace.{OperandPlace, byte, word, memory}
use Rattle.dcc_ops.specs.Statements.{mov_stmts, xchg_stmts}
use Rattle.dcc_lift.proofs.ListTests.{and_false, or_here, or_there, or_cases}
use Rattle.dcc_simulation.specs.Procedures.{Procedure}
use Rattle.dcc_stack.specs.Slots.{writes_memory}
use Rattle.dcc_demand.specs.Procedures.{LeavesWord, Overwrites, WordEffect, Procedures}
use Rattle.dcc_machine_demand.specs.Bodies.{Body, Point, op_of}
use Rattle.dcc_machine_demand.specs.Holders.{Holder, in_frame, Spot, is_holder, is_accessed_by, spots_of, is_of_address}
use Rattle.dcc_machine_demand.specs.Moves.{moves_between, moves_of, of_either, pushed_from, pushed_offset, pushed_spots}
use Rattle.dcc_sums.specs.Points.{Position}
use Rattle.dcc_sums.specs.Instance.{is_pushed}
use Rattle.dcc_refinement.specs.Refinement.{Refinement, WordEffectsAgree}
use Rattle.dcc_lifted_demand.specs.Sources.{word_effect_after}
use Rattle.dcc_lifted_demand.specs.LiftedRefinement.{IsSame}
use Rattle.dcc_instruction_demand.specs.Agreement.{Agrees}
use Rattle.dcc_instruction_demand.proofs.ShownLaws.{Shows, shows_both, shows_alike}
use Rattle.dcc_instruction_demand.proofs.ValueLaws.{word_left, no_push}
use Rattle.dcc_instruction_demand.proofs.AlikeLaws.{word_lasts}
use Rattle.dcc_instruction_demand.proofs.StageLaws.{outs}
use Rattle.dcc_instruction_demand.proofs.WorkLaws.{point_with_op}
use Rattle.dcc_instruction_demand.proofs.SpotLaws.{low_of, high_of, address_reads, HasByte, HasWord, HasBytes}
use Rattle.dcc_instruction_demand.proofs.MovingLaws.{moved_to, IsMovingOperation, word_there}
use Rattle.dcc_instruction_demand.proofs.PairedLaws.{Pairing, moved_where, moves_agree}
use Rattle.dcc_instruction_demand.proofs.MoveLaws.{copied_pairing}
use Rattle.dcc_instruction_demand.proofs.ExchangeLaws.{bytes_exchanged, words_exchanged, memory_byte_exchanged}
use Rattle.dcc_instruction_demand.proofs.ExchangeLaws.{memory_word_exchanged}
use Rattle.dcc_instruction_demand.proofs.OperandBytes.{AreBytesAt}

-- halves, and what may be exchanged with them
abbrev pub is_halves : OperandPlace → Bool
is_halves (byte l) = true
is_halves (word l m) = true
is_halves Q = false

abbrev pub is_exchangeable : OperandPlace → Bool
is_exchangeable (memory w e) = true
is_exchangeable P = is_halves P

here_in : (l : Loc) (ls : List Loc) → is_among (l ∷ ls) l ≡ true
here_in l ls = or_here (same_location l l) (is_among ls l) (location_itself l)

module _ (coarse : Procedures ℕ Holder ℤ) (fine : Procedures Position Loc Loc) (r : Refinement ℕ Holder ℤ Position Loc Loc) (entry at pushed : ℕ) (o : Option Procedure) (bodies : List Body) (body : Body) where
  -- What pushes nothing, and reaches bytes of the frame by its operand alone, does nothing to words.
  module _ (point : Point) (v : IsMovingOperation coarse fine r entry at pushed o bodies body point) where
    pub record IsCalm : Type 0 where
      pub unreached : (k : ℤ) (w : Loc) → r.same_word entry k w → is_accessed_by body (op_of point) k ≡ false
      pub only : (k : ℤ) → moved_to (moves_of body point.height (op_of point)) (in_frame k) ≡ true → is_accessed_by body (op_of point) k ≡ true
      pub pushes_none : pushed_spots body (op_of point) ≡ []

    module _ (calm : IsCalm) (stmts : List Stmt) (outs : List Loc) (pairs : Pairing coarse fine r entry at pushed o bodies body point v stmts (moves_of body point.height (op_of point)) outs) where
      abbrev written_by_access : Bool → WordEffect Holder
      written_by_access b = if b then Overwrites else LeavesWord

      word_is : (k : ℤ) → ((coarse.procedure entry).action at).word_effect k ≡ (if writes_memory (op_of point) && is_accessed_by body (op_of point) k then Overwrites else LeavesWord)
      word_is k =
          word_there coarse fine r entry at pushed o bodies body point v k
          ∙ ap (λ spots. if writes_memory (op_of point) && is_accessed_by body (op_of point) k then Overwrites else pushed_from (pushed_offset point.height) spots k) calm.pushes_none

      left_there : (k : ℤ) (w : Loc) → r.same_word entry k w → ((coarse.procedure entry).action at).word_effect k ≡ LeavesWord
      left_there k w t =
          word_is k ∙ ap (λ b. written_by_access (writes_memory (op_of point) && b)) (calm.unreached k w t) ∙ ap written_by_access (and_false (writes_memory (op_of point)))

      unmoved : (k : ℤ) (w : Loc) → r.same_word entry k w → moved_to (moves_of body point.height (op_of point)) (in_frame k) ≡ false
      unmoved k w t = by (moved_to (moves_of body point.height (op_of point)) (in_frame k)) refl
        where
          by : (b : Bool) → moved_to (moves_of body point.height (op_of point)) (in_frame k) ≡ b → b ≡ false
          by true e = absurd (true≢false (sym (calm.only k e) ∙ calm.unreached k w t))
          by false e = refl

      word_stays : (k : ℤ) (w : Loc) → r.same_word entry k w → word_effect_after pushed stmts w ≡ LeavesWord
      word_stays k w t =
          let is = v.same_word k w t in
          word_left (fine.procedure entry) pushed stmts w (pairs.unwritten w (word_lasts o k w is)
          (sym (moved_where coarse fine r entry at pushed o bodies body point v stmts pairs.paired (in_frame k) w (IsSame.is_kept is.is_found is.kept)) ∙ unmoved k w t))

      pub calm_agrees : Agrees coarse fine r entry at pushed stmts []
      calm_agrees = moves_agree coarse fine r entry at pushed o bodies body point v stmts (record {
        outs = outs;
        pairing = pairs;
        words = λ L l k w s p t.
            subst (λ y. WordEffectsAgree coarse fine r L l y (word_effect_after pushed stmts w)) (sym (left_there k w t))
            (subst (λ y. WordEffectsAgree coarse fine r L l LeavesWord y) (sym (word_stays k w t)) WordEffectsAgree.both_leave);
        saved = λ L k p e. absurd (no_push (writes_memory (op_of point) && is_accessed_by body (op_of point) k) L (sym (word_is k) ∙ e));
        popped = λ L k w p m t. word_stays k w t;
      })

  -- The addresses of two operands.
  pub either_addresses : (exposed : Holder → Bool) (w : Width) (a b : Operand) (P Q : OperandPlace) → AreBytesAt o body exposed w a P → AreBytesAt o body exposed w b Q
      → Shows (IsSame o) (λ M. (is_holder body M ≡ true) × (of_either a b M ≡ true)) (address_reads P
      ++ address_reads Q)
  either_addresses exposed w a b P Q p q =
      shows_alike (IsSame o) (λ M. ((is_holder body M ≡ true) × (is_of_address a M ≡ true)) ⊎ ((is_holder body M ≡ true) × (is_of_address b M ≡ true))) (λ M. (is_holder body M ≡ true) × (of_either a b M ≡ true))
      (address_reads P ++ address_reads Q) (address_reads P ++ address_reads Q)
      (shows_both (IsSame o) (λ M. (is_holder body M ≡ true) × (is_of_address a M ≡ true)) (λ M. (is_holder body M ≡ true) × (is_of_address b M ≡ true)) (address_reads P) (address_reads Q) p.addresses q.addresses)
      (λ M m s t. elim t [
        | inl x ↦ (x.0, or_here (is_of_address a M) (is_of_address b M) x.1)
        | inr x ↦ (x.0, or_there (is_of_address a M) (is_of_address b M) x.1)
      ])
      (λ M m s t. elim (or_cases (is_of_address a M) (is_of_address b M) t.1) [
        | inl x ↦ inl (t.0, x)
        | inr x ↦ inr (t.0, x)
      ]) (λ l c. c) (λ l c. c)

  module _ (node : Node) (height : ℕ) where
    abbrev exposed : Holder → Bool
    exposed = (coarse.procedure entry).is_exposed

    pub mov_agrees : (to from : Operand) (v : IsMovingOperation coarse fine r entry at pushed o bodies body (point_with_op node height (Mov to from))) (w : Width) (P Q : OperandPlace)
        → AreBytesAt o body (coarse.procedure entry).is_exposed w to P → AreBytesAt o body (coarse.procedure entry).is_exposed w from Q
        → ((m : Loc) → is_among (low_of Q ++ high_of Q) m ≡ true → is_pushed pushed m ≡ false) → IsCalm (point_with_op node height (Mov to from)) v → Agrees coarse fine r entry at pushed (mov_stmts w P Q) []
    mov_agrees to from v w P Q p q unpushed calm =
        calm_agrees (point_with_op node height (Mov to from)) v calm (mov_stmts w P Q) (outs P)
        (copied_pairing coarse fine r entry at pushed o bodies body (point_with_op node height (Mov to from)) v (of_either to from) w (spots_of body to) (spots_of body from) P Q p.bytes q.bytes
        (either_addresses exposed w to from P Q p q) unpushed)

    -- XCHG.

    module _ (point : Point) (v : IsMovingOperation coarse fine r entry at pushed o bodies body point) (addresses : Holder → Bool) where
      abbrev Bytes : Width → List Spot → OperandPlace → Type 0
      Bytes = HasBytes o body exposed

      abbrev Both : Width → List Spot → List Spot → OperandPlace → OperandPlace → Type 0
      Both w to from P Q = Pairing coarse fine r entry at pushed o bodies body point v (xchg_stmts w P Q) (moves_between addresses to from ++ moves_between addresses from to) (outs P ++ outs Q)

      abbrev Shown : List Loc → Type 0
      Shown ls = Shows (IsSame o) (λ M. (is_holder body M ≡ true) × (addresses M ≡ true)) ls

      alone : (ls : List Loc) → Shown (ls ++ []) → Shown ls
      alone ls shown = subst (λ ms. Shown ms) (append-nil ls) shown

      pub exchange_pairing : (w : Width) (to from : List Spot) (P Q : OperandPlace) → HasBytes o body (coarse.procedure entry).is_exposed w to P → HasBytes o body (coarse.procedure entry).is_exposed w from Q
          → is_exchangeable P ≡ true → is_halves Q ≡ true → Shows (IsSame o) (λ M. (is_holder body M ≡ true) × (addresses M ≡ true)) (address_reads P ++ address_reads Q)
          → ((m : Loc) → is_among (low_of Q ++ high_of Q) m ≡ true → is_pushed pushed m ≡ false)
          → Pairing coarse fine r entry at pushed o bodies body point v (xchg_stmts w P Q) (moves_between addresses to from ++ moves_between addresses from to) (outs P ++ outs Q)
      exchange_pairing _ _ _ _ _ (HasBytes.as_byte (HasByte.one_half {L = L} {l = l} a)) (HasBytes.as_byte (HasByte.one_half {L = M} {l = m} b)) s t shown unpushed =
          bytes_exchanged coarse fine r entry at pushed o bodies body point v addresses L M l m a b shown (unpushed m (here_in m []))
      exchange_pairing _ _ _ _ _ (HasBytes.as_byte (HasByte.open_byte {s = f} {e = e} opens kept)) (HasBytes.as_byte (HasByte.one_half {L = M} {l = m} b)) s t shown unpushed =
          memory_byte_exchanged coarse fine r entry at pushed o bodies body point v addresses f e M m opens kept b (alone (reads_of e) shown)
      exchange_pairing _ _ _ _ _ (HasBytes.as_byte HasByte.constant_byte) (HasBytes.as_byte q) s t shown unpushed = absurd (true≢false (sym s))
      exchange_pairing _ _ _ _ _ (HasBytes.as_byte p) (HasBytes.as_byte HasByte.constant_byte) s t shown unpushed = absurd (true≢false (sym t))
      exchange_pairing _ _ _ _ _ (HasBytes.as_byte p) (HasBytes.as_byte (HasByte.open_byte opens kept)) s t shown unpushed = absurd (true≢false (sym t))
      exchange_pairing _ _ _ _ _ (HasBytes.as_word (HasWord.two_halves {L = L} {M = H} {l = l} {m = h} a b low high)) (HasBytes.as_word (HasWord.two_halves {L = M} {M = K} {l = m} {m = k} c d low_next high_next)) s t shown unpushed =
          words_exchanged coarse fine r entry at pushed o bodies body point v addresses L H M K l h m k a b c d low high low_next high_next shown (unpushed m (here_in m (k ∷ [])))
          (unpushed k (or_there (same_location k m) (same_location k k || false) (here_in k [])))
      exchange_pairing _ _ _ _ _ (HasBytes.as_word (HasWord.open_word {s = f} {t = g} {e = e} opens next kept)) (HasBytes.as_word (HasWord.two_halves {L = M} {M = K} {l = m} {m = k} c d low high)) s t shown unpushed =
          memory_word_exchanged coarse fine r entry at pushed o bodies body point v addresses f g e M K m k opens next kept c d low high (alone (reads_of e) shown)
      exchange_pairing _ _ _ _ _ (HasBytes.as_word HasWord.constant_word) (HasBytes.as_word q) s t shown unpushed = absurd (true≢false (sym s))
      exchange_pairing _ _ _ _ _ (HasBytes.as_word (HasWord.of_pointer none)) (HasBytes.as_word q) s t shown unpushed = absurd (true≢false (sym s))
      exchange_pairing _ _ _ _ _ (HasBytes.as_word p) (HasBytes.as_word HasWord.constant_word) s t shown unpushed = absurd (true≢false (sym t))
      exchange_pairing _ _ _ _ _ (HasBytes.as_word p) (HasBytes.as_word (HasWord.of_pointer none)) s t shown unpushed = absurd (true≢false (sym t))
      exchange_pairing _ _ _ _ _ (HasBytes.as_word p) (HasBytes.as_word (HasWord.open_word opens next kept)) s t shown unpushed = absurd (true≢false (sym t))

    pub xchg_agrees : (a b : Operand) (v : IsMovingOperation coarse fine r entry at pushed o bodies body (point_with_op node height (Xchg a b))) (w : Width) (P Q : OperandPlace)
        → AreBytesAt o body (coarse.procedure entry).is_exposed w a P → AreBytesAt o body (coarse.procedure entry).is_exposed w b Q → is_exchangeable P ≡ true → is_halves Q ≡ true
        → ((m : Loc) → is_among (low_of Q ++ high_of Q) m ≡ true → is_pushed pushed m ≡ false) → IsCalm (point_with_op node height (Xchg a b)) v → Agrees coarse fine r entry at pushed (xchg_stmts w P Q) []
    xchg_agrees a b v w P Q p q s t unpushed calm =
        calm_agrees (point_with_op node height (Xchg a b)) v calm (xchg_stmts w P Q) (outs P ++ outs Q)
        (exchange_pairing (point_with_op node height (Xchg a b)) v (of_either a b) w (spots_of body a) (spots_of body b) P Q p.bytes q.bytes s t (either_addresses exposed w a b P Q p q) unpushed)
