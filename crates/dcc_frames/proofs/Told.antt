-- What an instruction uses, as functions of its operation and height, is what the definitions say, both ways.
use Rattle.std.proofs.Common.{◌≡◌, ◌≢◌, ℕ, ℤ, pos, neg_ℤ, ◌-ℤ◌, Bool, true, false, not, ◌&&◌, cond, Option, Some, None, refl, sym, ap, ◌∙◌, subst, true≢false}
use Rattle.dcc_num.specs.declared.Width.{Width}
use Rattle.dcc_num.specs.declared.Reg.{Reg}
use Rattle.dcc_num.specs.declared.Reg.TheVariants.{Sp, Bp}
use Rattle.dcc_machine.specs.declared.image.Image.{Image}
use Rattle.dcc_prog.specs.declared.procedure.Layout.{Layout}
use Rattle.dcc_machine.specs.declared.instr.Instr.{Instr}
use Rattle.dcc_machine.specs.declared.instr.Ea.{Ea}
use Rattle.dcc_machine.specs.declared.instr.Operand.{Operand}
use Rattle.dcc_machine.specs.declared.instr.Operand.TheVariants.{Word}
use Rattle.dcc_machine.specs.declared.instr.Op.{Op}
use Rattle.dcc_machine.specs.declared.instr.Op.TheVariants.{Mov, Lea, Push, Pop}
use Rattle.dcc_machine.specs.Access.{is_direct}
use Rattle.dcc_prog.specs.Trail.{StandsAt}
use Rattle.dcc_machine.specs.SpAndBp.{copies_bp, address_uses_bp}
use Rattle.dcc_prog.specs.FrameForm.{is_framed}
use Rattle.dcc_prog.specs.Height.{HasHeight}
use Rattle.dcc_prog.specs.Frame.{Span, memory_operand, offset_in_frame, is_saved_bp, IsDirectAccess, direct, StartsExposure, by_lea, by_index, by_copy, IsMovedWord, pushed, popped}
use Rattle.dcc_frames.specs.declared.bytes.Bytes.{Bytes}
use Rattle.dcc_frames.specs.Bytes.{as_span, as_bytes}
use Rattle.dcc_frames.specs.declared.steps.Step.{Step}
use Rattle.dcc_frames.specs.Body.{IsStep}
use Rattle.dcc_frames.specs.Used.{bytes_at, access_at, access_of, start_at, start_by_lea, start_by_other, start_of, is_bp_word, word_at, moved_of}

-- one operation stands at an offset
pub same_op : (image : Image) (layout : Layout) (at : ℕ) (a b : Op) → StandsAt image layout at a
    → StandsAt image layout at b → a ≡ b
same_op image layout at a b first second =
    let same : first.0 ≡ second.0 = (let e = first.1 in let f = second.1 in cc) in
    sym first.2 ∙ ap (λ (instr : Instr). instr.op) same ∙ second.2

-- Direct accesses.

record IsAccess (framed : Bool) (op : Op) (bytes : Bytes) : Type 0 where
  framed_is : framed ≡ true
  width : Width
  ea : Ea
  operand : memory_operand op ≡ Some (width, ea)
  direct_is : is_direct ea ≡ true
  bytes_are : bytes_at width ea ≡ bytes

some-access :
    (op : Op) (operand : Option (Width × Ea)) (bytes : Bytes) → memory_operand op ≡ operand
    → access_at operand ≡ Some bytes
    → IsAccess true op bytes
some-access op None bytes is e = absurd (cc)
some-access op (Some (width, ea)) bytes is e = by (is_direct ea) refl e
  where
    by :
        (b : Bool) → is_direct ea ≡ b
        → cond b (Some (bytes_at width ea)) None ≡ Some bytes
        → IsAccess true op bytes
    by true is_so e =
        record { framed_is = refl; width = width; ea = ea; operand = is; direct_is = is_so; bytes_are = cc }
    by false is_so e = absurd (cc)

is-access : (framed : Bool) (op : Op) (bytes : Bytes) → access_of framed op ≡ Some bytes → IsAccess framed op bytes
is-access false op bytes e = absurd (cc)
is-access true op bytes e = some-access op (memory_operand op) bytes refl e

-- Starts of exposure.

lea-start :
    (r : Reg) (ea : Ea) → r ≢ Sp → address_uses_bp ea ≡ true → start_by_lea r ea ≡ Some (offset_in_frame ea)
lea-start Sp ea other uses = absurd (other refl)
lea-start r ea other uses = ap (λ b. cond b (Some (offset_in_frame ea)) None) uses

copies-none : (op : Op) → copies_bp op ≡ true → memory_operand op ≡ None
copies-none (Mov (Word r) (Word q)) e = refl
copies-none op e = absurd (true≢false (sym e))

other-start :
    (op : Op) (height : ℕ) (width : Width) (ea : Ea) → memory_operand op ≡ Some (width, ea) → address_uses_bp ea ≡ true
    → is_direct ea ≡ false → start_by_other op height ≡ Some (offset_in_frame ea)
other-start op height width ea operand uses indexed = by (copies_bp op) refl
  where
    by : (b : Bool) → copies_bp op ≡ b → start_by_other op height ≡ Some (offset_in_frame ea)
    by true e = absurd (let none = copies-none op e in cc)
    by false e =
        ap (λ b. cond b (Some (pos 2 -ℤ pos height)) (start_at (memory_operand op))) e
        ∙ ap start_at operand
        ∙ ap (λ b. cond (b && not (is_direct ea)) (Some (offset_in_frame ea)) None) uses
        ∙ ap (λ b. cond (not b) (Some (offset_in_frame ea)) None) indexed

index-start :
    (op : Op) (height : ℕ) (width : Width) (ea : Ea) → memory_operand op ≡ Some (width, ea) → address_uses_bp ea ≡ true
    → is_direct ea ≡ false → start_of op height ≡ Some (offset_in_frame ea)
index-start (Lea r address) height width ea operand uses indexed = absurd (cc)
index-start op height width ea operand uses indexed = other-start op height width ea operand uses indexed

copy-start : (op : Op) (height : ℕ) → copies_bp op ≡ true → start_of op height ≡ Some (pos 2 -ℤ pos height)
copy-start (Lea r address) height copies = absurd (true≢false (sym copies))
copy-start op height copies = ap (λ b. cond b (Some (pos 2 -ℤ pos height)) (start_at (memory_operand op))) copies

module _ (image : Image) (layout : Layout) (entry at : ℕ) where
  lea-tells :
      (r : Reg) (ea : Ea) (start : ℤ) → StandsAt image layout at (Lea r ea) → start_by_lea r ea ≡ Some start
      → StartsExposure image layout entry at start
  lea-tells Sp ea start stands e = absurd (cc)
  lea-tells r ea start stands e = by (address_uses_bp ea) refl e
    where
      by :
          (b : Bool) → address_uses_bp ea ≡ b → cond b (Some (offset_in_frame ea)) None ≡ Some start
          → StartsExposure image layout entry at start
      by true uses e =
          let is : offset_in_frame ea ≡ start = cc in
          subst (StartsExposure image layout entry at) is (by_lea stands (λ same. cc) uses)
      by false uses e = absurd (cc)

  operand-tells :
      (op : Op) (operand : Option (Width × Ea)) (start : ℤ) → StandsAt image layout at op → memory_operand op ≡ operand
      → start_at operand ≡ Some start → StartsExposure image layout entry at start
  operand-tells op None start stands is e = absurd (cc)
  operand-tells op (Some (width, ea)) start stands is e = by (address_uses_bp ea) (is_direct ea) refl refl e
    where
      by :
          (b d : Bool) → address_uses_bp ea ≡ b → is_direct ea ≡ d
          → cond (b && not d) (Some (offset_in_frame ea)) None ≡ Some start → StartsExposure image layout entry at start
      by true false uses indexed e =
          let same : offset_in_frame ea ≡ start = cc in
          subst (StartsExposure image layout entry at) same (by_index stands is uses indexed)
      by true true uses indexed e = absurd (cc)
      by false d uses indexed e = absurd (cc)

  other-tells :
      (op : Op) (height : ℕ) (start : ℤ) → StandsAt image layout at op → HasHeight image layout entry at (pos height)
      → start_by_other op height ≡ Some start → StartsExposure image layout entry at start
  other-tells op height start stands has e = by (copies_bp op) refl e
    where
      by :
          (b : Bool) → copies_bp op ≡ b
          → cond b (Some (pos 2 -ℤ pos height)) (start_at (memory_operand op)) ≡ Some start
          → StartsExposure image layout entry at start
      by true copies e =
          let same : (pos 2 -ℤ pos height) ≡ start = cc in
          subst (StartsExposure image layout entry at) same (by_copy stands copies has)
      by false copies e = operand-tells op (memory_operand op) start stands refl e

  some-start :
      (op : Op) (height : ℕ) (start : ℤ) → StandsAt image layout at op → HasHeight image layout entry at (pos height)
      → start_of op height ≡ Some start → StartsExposure image layout entry at start
  some-start (Lea r ea) height start stands has e = lea-tells r ea start stands e
  some-start op height start stands has e = other-tells op height start stands has e

  -- Moved words.

  saved-bp : (framed : Bool) (a : Operand) → framed && is_bp_word a ≡ true → (framed ≡ true) × (a ≡ Word Bp)
  saved-bp true (Word Bp) e = (refl, refl)
  saved-bp true a e = absurd (true≢false (sym e))
  saved-bp false a e = absurd (true≢false (sym e))

  unsaved : (a : Operand) → ¬ is_saved_bp image layout entry a → is_framed image layout entry && is_bp_word a ≡ false
  unsaved a apart = by (is_framed image layout entry && is_bp_word a) refl
    where
      by :
          (b : Bool) → is_framed image layout entry && is_bp_word a ≡ b
          → is_framed image layout entry && is_bp_word a ≡ false
      by true e = absurd (apart (saved-bp (is_framed image layout entry) a e))
      by false e = e

  push-tells :
      (a : Operand) (height : ℕ) (bytes : Bytes) → StandsAt image layout at (Push a)
      → HasHeight image layout entry at (pos height)
      → (b : Bool) → is_framed image layout entry && is_bp_word a ≡ b
      → cond b None (Some (word_at (neg_ℤ (pos height)))) ≡ Some bytes
      → IsMovedWord image layout entry at (as_span bytes)
  push-tells a height bytes stands has true saved e = absurd (cc)
  push-tells a height bytes stands has false saved e =
      let same : word_at (neg_ℤ (pos height)) ≡ bytes = cc in
      subst (λ b. IsMovedWord image layout entry at (as_span b)) same
      (pushed stands
      (λ (s : is_saved_bp image layout entry a). true≢false (ap is_bp_word (sym s.1)
      ∙ ap (λ f. f && is_bp_word a) (sym s.0) ∙ saved))
      has)

  pop-tells :
      (a : Operand) (height : ℕ) (bytes : Bytes) → StandsAt image layout at (Pop a)
      → HasHeight image layout entry at (pos height)
      → (b : Bool) → is_framed image layout entry && is_bp_word a ≡ b
      → cond b None (Some (word_at (pos 2 -ℤ pos height))) ≡ Some bytes
      → IsMovedWord image layout entry at (as_span bytes)
  pop-tells a height bytes stands has true saved e = absurd (cc)
  pop-tells a height bytes stands has false saved e =
      let same : word_at (pos 2 -ℤ pos height) ≡ bytes = cc in
      subst (λ b. IsMovedWord image layout entry at (as_span b)) same
      (popped stands
      (λ (s : is_saved_bp image layout entry a). true≢false (ap is_bp_word (sym s.1)
      ∙ ap (λ f. f && is_bp_word a) (sym s.0) ∙ saved))
      has)

  some-moved :
      (op : Op) (height : ℕ) (bytes : Bytes) → StandsAt image layout at op
      → HasHeight image layout entry at (pos height)
      → moved_of (is_framed image layout entry) op height ≡ Some bytes
      → IsMovedWord image layout entry at (as_span bytes)
  some-moved (Push a) height bytes stands has e =
      push-tells a height bytes stands has (is_framed image layout entry && is_bp_word a) refl e
  some-moved (Pop a) height bytes stands has e =
      pop-tells a height bytes stands has (is_framed image layout entry && is_bp_word a) refl e
  some-moved op height bytes stands has e = absurd (cc)

  push-told :
      (a : Operand) (height : ℕ) → ¬ is_saved_bp image layout entry a
      → moved_of (is_framed image layout entry) (Push a) height ≡ Some (word_at (neg_ℤ (pos height)))
  push-told a height apart = ap (λ b. cond b None (Some (word_at (neg_ℤ (pos height))))) (unsaved a apart)

  pop-told :
      (a : Operand) (height : ℕ) → ¬ is_saved_bp image layout entry a
      → moved_of (is_framed image layout entry) (Pop a) height ≡ Some (word_at (pos 2 -ℤ pos height))
  pop-told a height apart = ap (λ b. cond b None (Some (word_at (pos 2 -ℤ pos height)))) (unsaved a apart)

module _ (image : Image) (layout : Layout) (entry : ℕ) (step : Step) (is : IsStep image layout entry step) where
  pub access-told :
      (span : Span) → IsDirectAccess image layout entry step.at span
      → access_of (is_framed image layout entry) step.op ≡ Some (as_bytes span)
  access-told _ (direct {op} {width} {ea} framed stands operand no_index) =
      ap (λ b. access_of b step.op) framed
      ∙ ap (λ o. access_at (memory_operand o)) (same_op image layout step.at step.op op is.stands stands)
      ∙ ap access_at operand
      ∙ ap (λ b. cond b (Some (bytes_at width ea)) None) no_index

  pub access-tells :
      (bytes : Bytes) → access_of (is_framed image layout entry) step.op ≡ Some bytes
      → IsDirectAccess image layout entry step.at (as_span bytes)
  access-tells bytes e =
      let a = is-access (is_framed image layout entry) step.op bytes e in
      subst (λ b. IsDirectAccess image layout entry step.at (as_span b)) a.bytes_are
      (direct a.framed_is is.stands a.operand a.direct_is)

  pub start-told : (start : ℤ) → StartsExposure image layout entry step.at start
      → start_of step.op step.height ≡ Some start
  start-told _ (by_lea {r} {ea} stands other uses) =
      ap (λ op. start_of op step.height) (same_op image layout step.at step.op (Lea r ea) is.stands stands)
      ∙ lea-start r ea other uses
  start-told _ (by_index {op} {width} {ea} stands operand uses indexed) =
      ap (λ op. start_of op step.height) (same_op image layout step.at step.op op is.stands stands)
      ∙ index-start op step.height width ea operand uses indexed
  start-told _ (by_copy {op} {height} stands copies has) =
      ap (λ op. start_of op step.height) (same_op image layout step.at step.op op is.stands stands)
      ∙ copy-start op step.height copies
      ∙ ap (λ h. Some (pos 2 -ℤ h)) (sym (is.one height has))

  pub start-tells : (start : ℤ) → start_of step.op step.height ≡ Some start
      → StartsExposure image layout entry step.at start
  start-tells start e = some-start image layout entry step.at step.op step.height start is.stands is.has e

  pub moved-told :
      (span : Span) → IsMovedWord image layout entry step.at span
      → moved_of (is_framed image layout entry) step.op step.height ≡ Some (as_bytes span)
  moved-told _ (pushed {a} {height} stands unsaved has) =
      ap (λ op. moved_of (is_framed image layout entry) op step.height)
      (same_op image layout step.at step.op (Push a) is.stands stands)
      ∙ push-told image layout entry step.at a step.height unsaved
      ∙ ap (λ h. Some (word_at (neg_ℤ h))) (sym (is.one height has))
  moved-told _ (popped {a} {height} stands unsaved has) =
      ap (λ op. moved_of (is_framed image layout entry) op step.height)
      (same_op image layout step.at step.op (Pop a) is.stands stands)
      ∙ pop-told image layout entry step.at a step.height unsaved
      ∙ ap (λ h. Some (word_at (pos 2 -ℤ h))) (sym (is.one height has))

  pub moved-tells :
      (bytes : Bytes) → moved_of (is_framed image layout entry) step.op step.height ≡ Some bytes
      → IsMovedWord image layout entry step.at (as_span bytes)
  moved-tells bytes e = some-moved image layout entry step.at step.op step.height bytes is.stands is.has e
