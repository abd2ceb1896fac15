-- Where the bytes of operands and of pushed words stand.
use Rattle.std.proofs.Common.{◌≡◌, ℕ, ℤ, Bool, true, false, ◌&&◌, ◌||◌, if◌then◌else◌, List, [], ◌∷◌, Option, Some, None, refl, sym, ap, ◌∙◌, subst, true≢false}
use Rattle.std.specs.Prelude.{pos, ◌+ℤ◌, is_none}
use Rattle.std.specs.List.{list_any, list_all}
use Rattle.dcc_num.specs.declared.Width.{Width}
use Rattle.dcc_num.specs.declared.Width.TheVariants.{Byte as byte_width, Word as word_width}
use Rattle.dcc_num.specs.declared.Reg.{Reg}
use Rattle.dcc_num.specs.declared.Half.{Half as HalfName}
use Rattle.dcc_num.specs.declared.Half.TheVariants.{Low, High}
use Rattle.dcc_machine.specs.declared.instr.Ea.{Ea}
use Rattle.dcc_machine.specs.declared.instr.Operand.{Operand}
use Rattle.dcc_machine.specs.declared.instr.Operand.TheVariants.{Word, Byte, Seg, Mem, Const}
use Rattle.dcc_machine.specs.Machine.{is_bp, is_general}
use Rattle.dcc_machine.specs.Access.{is_direct}
use Rattle.dcc_prog.specs.Frame.{memory_of, offset_in_frame}
use Rattle.dcc_machine.specs.Wanted.{Location, half_of, is_half_of_some, is_in_memory}
use Rattle.dcc_ir.specs.declared.syntax.Loc.{Loc}
use Rattle.dcc_ir.specs.declared.syntax.Loc.TheVariants.{Half, Cell}
use Rattle.dcc_ir.specs.Tree.{Expr, Address}
use Rattle.dcc_ir.specs.Use.{reads_of}
use Rattle.dcc_ops.specs.OperandPlace.{OperandPlace, byte, word, memory, computed}
use Rattle.dcc_instruction_demand.proofs.StageLaws.{is_kept_place}
use Rattle.dcc_ops.specs.Registers.{register_place}
use Rattle.dcc_ops.specs.Computed.{computed_expr}
use Rattle.dcc_lift.proofs.ListTests.{and_left, and_right, and_both, and_false}
use Rattle.dcc_simulation.specs.Procedures.{Procedure, frame_place, distance_of}
use Rattle.dcc_simulation.specs.Operands.{address_of}
use Rattle.dcc_simulation.specs.Places.{IsPlainAddress}
use Rattle.dcc_machine_demand.specs.Bodies.{Body}
use Rattle.dcc_machine_demand.specs.Holders.{Holder, held, in_frame, Spot, placed, in_memory, nowhere, is_holder, is_at}
use Rattle.dcc_machine_demand.specs.Holders.{is_in_cell, is_exposed_holder, frame_spot, for_bytes, spots_of}
use Rattle.dcc_machine_demand.specs.Holders.{spots_of_memory, is_of_address}
use Rattle.dcc_lifted_demand.specs.LiftedRefinement.{IsSame}
use Rattle.dcc_instruction_demand.proofs.ShownLaws.{Shows, shows_never, shows_alike}
use Rattle.dcc_instruction_demand.proofs.SpotLaws.{address_reads, IsOpenSpot, IsHalf, HasByte, HasWord, HasBytes}
use Rattle.dcc_instruction_demand.proofs.AddressLaws.{bp_apart, Addressed, address_kept, address_shown}
use Rattle.dcc_instruction_demand.proofs.FrameLaws.{frame_body, IsOpen, AccessAt}

-- of what does not lie in memory no place takes part in the address
pub no_address : (a : Operand) → is_in_memory a ≡ false → (M : Holder) → is_of_address a M ≡ false
no_address (Mem w ea) e M = absurd (true≢false e)
no_address (Word r) e (held l) = refl
no_address (Byte r h) e (held l) = refl
no_address (Seg n) e (held l) = refl
no_address (Const w n) e (held l) = refl
no_address (Word r) e (in_frame k) = refl
no_address (Byte r h) e (in_frame k) = refl
no_address (Seg n) e (in_frame k) = refl
no_address (Const w n) e (in_frame k) = refl

-- bytes of the frame are those of a memory operand
pub frame_bytes : (body : Body) (a : Operand) (k : ℤ) → list_any (λ spot. is_at spot (in_frame k)) (spots_of body a) ≡ list_any (λ spot. is_at spot (in_frame k)) (spots_of_memory body (memory_of a))
frame_bytes body (Word r) k = by (is_general r)
  where
    by : (b : Bool) → list_any (λ spot. is_at spot (in_frame k)) (if b then placed (held (half_of r Low)) ∷ placed (held (half_of r High)) ∷ [] else nowhere ∷ nowhere ∷ []) ≡ false
    by true = refl
    by false = refl
frame_bytes body (Byte r h) k = refl
frame_bytes body (Seg n) k = refl
frame_bytes body (Mem w ea) k = refl
frame_bytes body (Const byte_width n) k = refl
frame_bytes body (Const word_width n) k = refl

module _ (o : Option Procedure) (body : Body) (exposed : Holder → Bool) where
  -- the bytes of the operand stand at the place, with these in its address
  pub record AreBytesAt (w : Width) (a : Operand) (Q : OperandPlace) : Type 0 where
    pub bytes : HasBytes o body exposed w (spots_of body a) Q
    pub addresses : Shows (IsSame o) (λ M. (is_holder body M ≡ true) × (is_of_address a M ≡ true)) (address_reads Q)

  unaddressed : (a : Operand) → is_in_memory a ≡ false → Shows (IsSame o) (λ M. (is_holder body M ≡ true) × (is_of_address a M ≡ true)) []
  unaddressed a e = shows_never (IsSame o) (λ M. (is_holder body M ≡ true) × (is_of_address a M ≡ true)) (λ M t. true≢false (sym t.1 ∙ no_address a e M))

  pub word_of : (t u : Spot) (Q : OperandPlace) → HasBytes o body exposed word_width (t ∷ u ∷ []) Q → HasWord o body exposed t u Q
  word_of t u Q (HasBytes.as_word q) = q

  half_of_register : (r : Reg) (h : HalfName) → is_general r ≡ true → IsHalf o body exposed (held (half_of r h)) (Half r h)
  half_of_register r h g = record { same = IsSame.is_held g; inside = g; kept = refl }

  pub word_bytes : (r : Reg) → is_general r ≡ true → AreBytesAt word_width (Word r) (register_place (Word r))
  word_bytes r g = record {
    bytes = subst (λ b. HasBytes o body exposed word_width (if b then placed (held (half_of r Low)) ∷ placed (held (half_of r High)) ∷ [] else nowhere ∷ nowhere ∷ []) (register_place (Word r))) (sym g)
        (HasBytes.as_word (HasWord.two_halves (half_of_register r Low g) (half_of_register r High g) refl refl));
    addresses = unaddressed (Word r) refl;
  }

  pub byte_bytes : (r : Reg) (h : HalfName) → is_general r ≡ true → AreBytesAt byte_width (Byte r h) (register_place (Byte r h))
  byte_bytes r h g = record { bytes = HasBytes.as_byte (HasByte.one_half (half_of_register r h g)); addresses = unaddressed (Byte r h) refl }

  pub constant_bytes : (v : Width) (n : ℕ) → AreBytesAt v (Const v n) (register_place (Const v n))
  constant_bytes byte_width n = record { bytes = HasBytes.as_byte HasByte.constant_byte; addresses = unaddressed (Const byte_width n) refl }
  constant_bytes word_width n = record { bytes = HasBytes.as_word HasWord.constant_word; addresses = unaddressed (Const word_width n) refl }

  pub pointer_bytes : (r : Reg) (e : Expr) → is_general r ≡ false → reads_of e ≡ [] → AreBytesAt word_width (Word r) (computed e)
  pointer_bytes r e g none = record {
    bytes = subst (λ b. HasBytes o body exposed word_width (if b then placed (held (half_of r Low)) ∷ placed (held (half_of r High)) ∷ [] else nowhere ∷ nowhere ∷ []) (computed e)) (sym g)
        (HasBytes.as_word (HasWord.of_pointer none));
    addresses = unaddressed (Word r) refl;
  }

  -- In memory, at an address that is computed.

  elsewhere_bytes : (w : Width) (e : Expr) → list_all is_kept_place (reads_of e) ≡ true → HasBytes o body exposed w (for_bytes w in_memory in_memory) (memory w e)
  elsewhere_bytes byte_width e k = HasBytes.as_byte (HasByte.open_byte IsOpenSpot.in_no_cell k)
  elsewhere_bytes word_width e k = HasBytes.as_word (HasWord.open_word IsOpenSpot.in_no_cell IsOpenSpot.in_no_cell k)

  pub indirect_bytes : (w : Width) (ea : Ea) → is_direct ea ≡ false → IsPlainAddress ea → AreBytesAt w (Mem w ea) (memory w (computed_expr (address_of ea)))
  indirect_bytes w ea e plain = record {
    bytes = subst (λ b. HasBytes o body exposed w (if b then for_bytes w (frame_spot body (offset_in_frame ea)) (frame_spot body (offset_in_frame ea +ℤ pos 1)) else for_bytes w in_memory in_memory) (memory w (computed_expr (address_of ea))))
        (sym (ap (λ b. body.frame.framed && b) e ∙ and_false body.frame.framed)) (elsewhere_bytes w (computed_expr (address_of ea)) (address_kept ea));
    addresses = shows_alike (IsSame o) (Addressed o body exposed ea) (λ M. (is_holder body M ≡ true) × (is_of_address (Mem w ea) M ≡ true)) (reads_of (computed_expr (address_of ea))) (reads_of (computed_expr (address_of ea)))
        (address_shown o body exposed ea plain) to from (λ l c. c) (λ l c. c);
  }
    where
      to : (M : Holder) (m : Loc) → IsSame o M m → Addressed o body exposed ea M → (is_holder body M ≡ true) × (is_of_address (Mem w ea) M ≡ true)
      to (held l) m s t = t
      to (in_frame k) m s t = absurd t

      from : (M : Holder) (m : Loc) → IsSame o M m → (is_holder body M ≡ true) × (is_of_address (Mem w ea) M ≡ true) → Addressed o body exposed ea M
      from (held l) m s t = t
      from (in_frame k) m s t = true≢false (sym t.1)

-- In the frame.

module _ (o : Option Procedure) (q : Procedure) (found : o ≡ Some q) (heights : List (ℕ × ℕ)) (exposed : Holder → Bool) (exposed_is : (k : ℤ) → exposed (in_frame k) ≡ is_exposed_holder (frame_body o q found heights) (in_frame k)) where
  abbrev body : Body
  body = frame_body o q found heights

  pub celled_spot : (k : ℤ) (b : Bool) → is_in_cell body k ≡ b → frame_spot body k ≡ (if b then placed (in_frame k) else in_memory)
  celled_spot k b e = ap (λ c. if c then placed (in_frame k) else in_memory) e

  half_of_cell : (k : ℤ) (n : ℕ) (h : HalfName) → frame_place q byte_width k ≡ byte (Cell n h) → is_in_cell body k ≡ true → IsHalf o body exposed (in_frame k) (Cell n h)
  half_of_cell k n h place inside = record { same = IsSame.is_kept found place; inside = inside; kept = refl }

  pub open_spot : (k : ℤ) → IsOpen o q found heights k → IsOpenSpot o body exposed (frame_spot body k)
  open_spot k opens = by (is_in_cell body k) refl
    where
      by : (b : Bool) → is_in_cell body k ≡ b → IsOpenSpot o body exposed (frame_spot body k)
      by true e = subst (λ s. IsOpenSpot o body exposed s) (sym (celled_spot k true e)) (IsOpenSpot.in_open_cell (exposed_is k ∙ opens.1 e))
      by false e = subst (λ s. IsOpenSpot o body exposed s) (sym (celled_spot k false e)) IsOpenSpot.in_no_cell

  open_bytes : (w : Width) (k : ℤ) → IsOpen o q found heights k → (w ≡ word_width → IsOpen o q found heights (k +ℤ pos 1))
      → HasBytes o body exposed w (for_bytes w (frame_spot body k) (frame_spot body (k +ℤ pos 1))) (memory w (Address (distance_of k)))
  open_bytes byte_width k opens next = HasBytes.as_byte (HasByte.open_byte (open_spot k opens) refl)
  open_bytes word_width k opens next = HasBytes.as_word (HasWord.open_word (open_spot k opens) (open_spot (k +ℤ pos 1) (next refl)) refl)

  -- the bytes of a byte or word of the frame
  pub access_bytes : (w : Width) (k : ℤ) → AccessAt o q found heights w k → HasBytes o body exposed w (for_bytes w (frame_spot body k) (frame_spot body (k +ℤ pos 1))) (frame_place q w k)
  access_bytes w k (AccessAt.byte_access n h v place inside) =
      subst (λ u. HasBytes o body exposed u (for_bytes u (frame_spot body k) (frame_spot body (k +ℤ pos 1))) (frame_place q u k)) (sym v)
      (subst (λ Q. HasBytes o body exposed byte_width (frame_spot body k ∷ []) Q) (sym place)
      (HasBytes.as_byte (subst (λ s. HasByte o body exposed s (byte (Cell n h))) (sym (celled_spot k true inside)) (HasByte.one_half (half_of_cell k n h place inside)))))
  access_bytes w k (AccessAt.word_access n v place low high inside inside_next) =
      subst (λ u. HasBytes o body exposed u (for_bytes u (frame_spot body k) (frame_spot body (k +ℤ pos 1))) (frame_place q u k)) (sym v)
      (subst (λ Q. HasBytes o body exposed word_width (frame_spot body k ∷ frame_spot body (k +ℤ pos 1) ∷ []) Q) (sym place)
      (HasBytes.as_word (subst (λ s. HasWord o body exposed s (frame_spot body (k +ℤ pos 1)) (word (Cell n Low) (Cell n High))) (sym (celled_spot k true inside))
      (subst (λ s. HasWord o body exposed (placed (in_frame k)) s (word (Cell n Low) (Cell n High))) (sym (celled_spot (k +ℤ pos 1) true inside_next))
      (HasWord.two_halves (half_of_cell k n Low low inside) (half_of_cell (k +ℤ pos 1) n High high inside_next) refl refl)))))
  access_bytes w k (AccessAt.open_access place opens next) = subst (λ Q. HasBytes o body exposed w (for_bytes w (frame_spot body k) (frame_spot body (k +ℤ pos 1))) Q) (sym place) (open_bytes w k opens next)

  -- nothing of a place takes part in its address
  pub access_address : (w : Width) (k : ℤ) → AccessAt o q found heights w k → address_reads (frame_place q w k) ≡ []
  access_address w k (AccessAt.byte_access n h v place inside) = ap (λ u. address_reads (frame_place q u k)) v ∙ ap address_reads place
  access_address w k (AccessAt.word_access n v place low high inside inside_next) = ap (λ u. address_reads (frame_place q u k)) v ∙ ap address_reads place
  access_address w k (AccessAt.open_access place opens next) = ap address_reads place

  module _ (w : Width) (ea : Ea) (framed : q.frame.framed ≡ true) (direct : is_direct ea ≡ true) where
    no_index : (index : Option Reg) (l : Location) → is_none index ≡ true → is_half_of_some l index ≡ false
    no_index None l e = refl
    no_index (Some r) l e = absurd (true≢false (sym e))

    direct_unaddressed : (M : Holder) → is_holder body M ≡ true → is_of_address (Mem w ea) M ≡ false
    direct_unaddressed (held l) p =
        ap (λ b. b || is_half_of_some l ea.index) (bp_apart o body exposed ea.base l (and_left (is_bp ea.base) (is_none ea.index) direct) p)
        ∙ no_index ea.index l (and_right (is_bp ea.base) (is_none ea.index) direct)
    direct_unaddressed (in_frame k) p = refl

    pub direct_bytes : AccessAt o q found heights w (offset_in_frame ea) → AreBytesAt o body exposed w (Mem w ea) (frame_place q w (offset_in_frame ea))
    direct_bytes access = record {
      bytes = subst (λ b. HasBytes o body exposed w (if b then for_bytes w (frame_spot body (offset_in_frame ea)) (frame_spot body (offset_in_frame ea +ℤ pos 1)) else for_bytes w in_memory in_memory) (frame_place q w (offset_in_frame ea)))
          (sym (and_both q.frame.framed (is_direct ea) framed direct)) (access_bytes w (offset_in_frame ea) access);
      addresses = subst (λ ls. Shows (IsSame o) (λ M. (is_holder body M ≡ true) × (is_of_address (Mem w ea) M ≡ true)) ls) (sym (access_address w (offset_in_frame ea) access))
          (shows_never (IsSame o) (λ M. (is_holder body M ≡ true) × (is_of_address (Mem w ea) M ≡ true)) (λ M t. true≢false (sym t.1 ∙ direct_unaddressed M t.0)));
    }
