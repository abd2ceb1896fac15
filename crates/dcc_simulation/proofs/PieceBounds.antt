-- Where the pieces of a frame lie: above its base less 4 in the arguments' words alone, and else below the return
-- address, in a framed procedure also below the saved BP.
use Rattle.std.proofs.Common.{◌≡◌, ◌≤◌, ◌⊎◌, inl, inr, ℕ, ◌+◌, ◌*◌, Bool, true, false, true≢false, ℤ, pos, ◌+ℤ◌, ◌-ℤ◌, ◌≤ℤ◌, ◌<ℤ◌, List, [], ◌∷◌, Contains, refl, sym, ap, ◌∙◌, subst, arith}
use Rattle.std.specs.Prelude.{neg_ℤ, if◌then◌else◌}
use Rattle.std.proofs.lemmas.Int.{ints}
use Rattle.dcc_num.specs.declared.Width.{Width}
use Rattle.dcc_num.specs.declared.Width.TheVariants.{Byte as byte_width, Word as word_width}
use Rattle.dcc_num.specs.declared.Reg.TheVariants.{Bp}
use Rattle.dcc_machine.specs.declared.cpu.Cpu.{Cpu}
use Rattle.dcc_machine.specs.declared.image.Image.{Image}
use Rattle.dcc_prog.specs.declared.procedure.Layout.{Layout}
use Rattle.dcc_prog.specs.declared.frame.Frame.{Frame}
use Rattle.dcc_prog.specs.declared.frame.Program.{Program}
use Rattle.dcc_machine.specs.declared.instr.Operand.{Operand}
use Rattle.dcc_machine.specs.declared.instr.Operand.TheVariants.{Word}
use Rattle.dcc_machine.specs.declared.instr.Op.TheVariants.{Push, Pop, Ret}
use Rattle.dcc_machine.specs.Access.{bytes_in}
use Rattle.dcc_machine.specs.Successors.{next_of, op_successors}
use Rattle.dcc_prog.specs.Trail.{StandsAt, known_ah, targets_of, instr_successors, successors, IsTrail, IsNode, IsEntry}
use Rattle.dcc_prog.specs.FrameForm.{is_framed}
use Rattle.dcc_prog.specs.Height.{GivesHeight, entered, gone_on, HasHeight}
use Rattle.dcc_prog.specs.Frame.{Span, span_of, offset_in_frame, IsDirectAccess, direct, IsMovedWord, below_top, top_of, pushed, popped, IsPassedWord, passed, IsUsed, IsPiece, used, argument}
use Rattle.dcc_prog.proofs.FrameLaws.{arguments-once}
use Rattle.dcc_stack.specs.Accepted.{IsAt, IsProgramOfFile, changes_frame, IsInFrame, in_arguments, in_locals, IsFrameFor}
use Rattle.dcc_stack.proofs.FormLaws.{in-form}
use Rattle.dcc_stack.proofs.StepInner.{push-height, pop-height}

push-keeps : (a : Operand) → ¬ (a ≡ Word Bp) → changes_frame (Push a) ≡ false
push-keeps (Word Bp) other = absurd (other refl)
push-keeps a other = refl

pop-keeps : (a : Operand) → ¬ (a ≡ Word Bp) → changes_frame (Pop a) ≡ false
pop-keeps (Word Bp) other = absurd (other refl)
pop-keeps a other = refl

some-bytes : (w : Width) (first : ℤ) → first <ℤ (first +ℤ pos (bytes_in w))
some-bytes byte_width first = omega (arith, ints)
some-bytes word_width first = omega (arith, ints)

own-most : (b : Bool) (least height : ℤ) → least ≤ℤ (if b then height -ℤ pos 2 else height)
    → (least ≤ℤ height) × (b ≡ true → least ≤ℤ (height -ℤ pos 2))
own-most true least height le = ((omega (arith, ints, le)), λ framed. le)
own-most false least height le = (le, λ framed. absurd (true≢false (sym framed)))

module _ (cpu : Cpu) (image : Image) (program : Program) (p : IsProgramOfFile cpu image program) (entry : ℕ)
    (is_entry : IsEntry image program.layout entry) where
  abbrev layout : Layout
  layout = program.layout

  -- Heights.

  trail-of : {trail : List ℕ} {height : ℤ} → GivesHeight image layout entry trail height
      → IsTrail image layout entry trail
  trail-of entered = refl
  trail-of (gone_on trail gives stands moves) = trail

  -- a number of bytes that is the height at a node
  record HasNumber (at : ℕ) (height : ℤ) : Type 0 where
    number : ℕ
    same : height ≡ pos number
    bound : number ≤ 32766
    before : List ℕ
    is_at : IsAt image layout entry at before (pos number)

  numbered : (at : ℕ) (before : List ℕ) (height : ℤ) → IsAt image layout entry at before height → HasNumber at height
  numbered at before height is =
      let fits = in-form.heights cpu image program entry at before height p is in
      record {
        number = fits.number;
        same = fits.is;
        bound = fits.bound;
        before = before;
        is_at = subst (λ z. IsAt image layout entry at before z) fits.is is;
      }

  number-of : (at : ℕ) (height : ℤ) → HasHeight image layout entry at height → HasNumber at height
  number-of at height has =
      numbered at has.before height (record { is_entry = is_entry; trail = trail-of has.gives; gives = has.gives })

  no-successors : (at : ℕ) (before : List ℕ) (count : ℕ) → StandsAt image layout at (Ret count)
      → successors image layout (at ∷ before) ≡ []
  no-successors at before count (instr, found, is) =
      ap (instr_successors image layout at before) found
      ∙ ap (λ o. op_successors o (next_of at instr) (known_ah image layout before) (targets_of image layout o before))
      is

  -- each trail gives a height
  pub trail-height : (at : ℕ) (before : List ℕ) → IsTrail image layout entry (at ∷ before)
      → (height : ℕ) × IsAt image layout entry at before (pos height)
  trail-height at [] trail = (
    0,
    record {
      is_entry = is_entry;
      trail = trail;
      gives = subst (λ n. GivesHeight image layout entry (n ∷ []) (pos 0)) (sym trail) entered;
    },
  )
  trail-height at (from ∷ before) trail =
      let here = trail-height from before trail.1 in
      let node = in-form.nodes cpu image program entry from before here.0 p here.1 in
      let stands : StandsAt image layout from node.instr.op = (node.instr, node.stands, refl) in
      let no_ret =
      λ (count : ℕ) (is : node.instr.op ≡ Ret count).
      let inside =
      (subst (λ (l : List ℕ). Contains l at)
      (no-successors from before count (node.instr, node.stands, is)) trail.0).1 in absurd (omega (arith, inside)) in
      let moves = in-form.moved cpu image program entry from before here.0 node.instr.op p here.1 stands no_ret in (
        moves.0,
        in-form.goes_on cpu image program entry from at before node.instr.op (pos here.0) (pos moves.0) p here.1 stands
            moves.1 trail.0,
      )

  -- in a framed procedure the frame is set up where a word is pushed, and has one where a word is popped

  not-saved : {a : Operand} → ¬ ((is_framed image layout entry ≡ true) × (a ≡ Word Bp))
      → is_framed image layout entry ≡ true
      → ¬ (a ≡ Word Bp)
  not-saved unsaved framed same = unsaved (framed, same)

  deep-push : (at : ℕ) (a : Operand) (height : ℤ) → StandsAt image layout at (Push a) → ¬ (a ≡ Word Bp)
      → is_framed image layout entry ≡ true
      → HasNumber at height
      → pos 2 ≤ℤ height
  deep-push at a height stands other framed h =
      let moves = in-form.moved cpu image program entry at h.before h.number (Push a) p h.is_at stands (λ n is. cc) in
      let stays =
      in-form.stays cpu image program entry at h.before h.number moves.0 (Push a) p h.is_at stands moves.1 framed
      (push-keeps a other) in
      let to = push-height moves.1 in
      elim stays [
        | inl deep ↦ omega (arith, ints, h.same, deep.0)
        | inr none ↦ absurd (omega (arith, ints, to, none.0, none.1))
      ]

  deep-pop : (at : ℕ) (a : Operand) (height : ℤ) → StandsAt image layout at (Pop a) → ¬ (a ≡ Word Bp)
      → is_framed image layout entry ≡ true
      → HasNumber at height
      → pos 4 ≤ℤ height
  deep-pop at a height stands other framed h =
      let moves = in-form.moved cpu image program entry at h.before h.number (Pop a) p h.is_at stands (λ n is. cc) in
      let stays =
      in-form.stays cpu image program entry at h.before h.number moves.0 (Pop a) p h.is_at stands moves.1 framed
      (pop-keeps a other) in
      let to = pop-height moves.1 in
      elim stays [
        | inl deep ↦ omega (arith, ints, h.same, deep.1, to)
        | inr none ↦ absurd (omega (arith, ints, to, none.0, none.1))
      ]

  -- Pieces.

  module _ (frame : Frame) (f : IsFrameFor image program entry frame) where
    pub record LiesInFrame (piece : Span) : Type 0 where
      pub some : piece.first <ℤ piece.end
      pub low : neg_ℤ (pos 32768) ≤ℤ piece.first
      pub high : piece.end ≤ℤ pos (4 + 2 * frame.args)
      pub apart : is_framed image layout entry ≡ true → (piece.end ≤ℤ pos 0) ⊎ (pos 4 ≤ℤ piece.first)

    -- a piece that ends below the saved BP, where the procedure is framed
    lies-below : (piece : Span) → piece.first <ℤ piece.end → neg_ℤ (pos 32768) ≤ℤ piece.first
        → piece.end ≤ℤ pos (4 + 2 * frame.args)
        → (is_framed image layout entry ≡ true → piece.end ≤ℤ pos 0)
        → LiesInFrame piece
    lies-below piece some low high inner =
        record { some = some; low = low; high = high; apart = λ framed. inl (inner framed) }

    moved-lies : {at : ℕ} {span : Span} → IsMovedWord image layout entry at span → LiesInFrame span
    moved-lies {at = at} (pushed {a} {height} stands unsaved has) =
        let h = number-of at height has in
        lies-below (below_top height) (omega (arith, ints)) (omega (arith, ints, h.same, h.bound))
        (omega (arith, ints, h.same))
        (λ framed. let deep = deep-push at a height stands (not-saved unsaved framed) framed h in omega (arith, ints, deep))
    moved-lies {at = at} (popped {a} {height} stands unsaved has) =
        let h = number-of at height has in
        lies-below (top_of height) (omega (arith, ints)) (omega (arith, ints, h.same, h.bound))
        (omega (arith, ints, h.same))
        (λ framed. let deep = deep-pop at a height stands (not-saved unsaved framed) framed h in omega (arith, ints, deep))

    passed-lies : {at : ℕ} {span : Span} → IsPassedWord image layout entry at span → LiesInFrame span
    passed-lies {at = at} (passed {number = number} {height = height} stands has arguments less room) =
        let h = number-of at height has in
        let own = own-most (is_framed image layout entry) (pos (2 * number + 2)) height room in
        let most = own.0 in
        record {
          some = omega (arith, ints);
          low = omega (arith, ints, h.same, h.bound);
          high = omega (arith, ints, most);
          apart = λ framed. let inner = own.1 framed in inl (omega (arith, ints, inner));
        }

    in-frame-lies : (first : ℤ) (w : Width) (height : ℕ) → height ≤ 32766
        → IsInFrame image layout entry height (span_of first (bytes_in w))
        → LiesInFrame (span_of first (bytes_in w))
    in-frame-lies first w height bound (in_arguments has from to) =
        let same = arguments-once has f.arguments in record {
          some = some-bytes w first;
          low = omega (arith, ints, from);
          high = omega (arith, ints, to, same);
          apart = λ framed. inr from;
        }
    in-frame-lies first w height bound (in_locals from to) = record {
      some = some-bytes w first;
      low = omega (arith, ints, from, bound);
      high = omega (arith, ints, to);
      apart = λ framed. inl to;
    }

    access-lies : {at : ℕ} {span : Span} → IsNode image layout entry at → IsDirectAccess image layout entry at span
        → LiesInFrame span
    access-lies {at = at} node (direct {op} {width} {ea} framed stands operand no_index) =
        let here = trail-height at node.before node.trail in
        let h = numbered at node.before (pos here.0) here.1 in
        in-frame-lies (offset_in_frame ea) width h.number h.bound
        (in-form.accesses cpu image program entry at h.before h.number (span_of (offset_in_frame ea) (bytes_in width)) p
        h.is_at (direct framed stands operand no_index))

    pub piece-lies : {piece : Span} → IsPiece image layout entry piece → LiesInFrame piece
    piece-lies (used node (IsUsed.moved is)) = moved-lies is
    piece-lies (used node (IsUsed.passed is)) = passed-lies is
    piece-lies (used node (IsUsed.accessed is)) = access-lies node is
    piece-lies (argument {number = number} has less) =
        let same = arguments-once has f.arguments in record {
          some = omega (arith, ints);
          low = omega (arith, ints);
          high = omega (arith, ints, same, less);
          apart = λ framed. inr (omega (arith, ints));
        }
