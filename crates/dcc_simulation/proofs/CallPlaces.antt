-- Where a caller that stands at a CALL, and its callee, have the words of the arguments.
use Rattle.std.proofs.Common.{◌≡◌, ◌≢◌, ◌≤◌, ◌<◌, ℕ, ◌+◌, ◌*◌, Bool, true, false, Some, subst, arith}
use Rattle.std.specs.Prelude.{ℤ, pos, ◌+ℤ◌, ◌-ℤ◌, ◌≤ℤ◌, if◌then◌else◌}
use Rattle.std.proofs.lemmas.Int.{ints}
use Rattle.dcc_num.specs.declared.Width.{Width}
use Rattle.dcc_num.specs.declared.Width.TheVariants.{Byte as byte_width, Word as word_width}
use Rattle.dcc_machine.specs.declared.instr.Op.TheVariants.{Call}
use Rattle.dcc_prog.specs.Trail.{StandsAt, IsNode, IsEntry, called}
use Rattle.dcc_prog.specs.FrameForm.{is_framed}
use Rattle.dcc_prog.specs.Height.{HasHeight}
use Rattle.dcc_prog.specs.Frame.{Span, span_of, argument_word, own_bytes, IsUsed, IsPiece, used, passed}
use Rattle.dcc_prog.specs.Construct.{calls as calls_entry, entry_return}
use Rattle.dcc_stack.specs.Accepted.{IsProgramOfFile, IsAt, IsFrameFor}
use Rattle.dcc_stack.specs.Standing.{Activation}
use Rattle.dcc_stack.proofs.FormHeights.{node-of, has-height, no-trails}
use Rattle.dcc_stack.proofs.FormLaws.{in-form}
use Rattle.dcc_ops.specs.OperandPlace.{OperandPlace}
use Rattle.dcc_simulation.specs.Coupled.{Setting}
use Rattle.dcc_simulation.specs.Places.{IsFramePlace}
use Rattle.dcc_simulation.specs.Procedures.{Procedure, procedure_at, frame_place}
use Rattle.dcc_simulation.specs.Statements.{argument_offset}
use Rattle.dcc_simulation.specs.Nodes.{procedures_in, IsLifting}
use Rattle.dcc_simulation.specs.FoundPlaces.{IsFoundAt}
use Rattle.dcc_simulation.proofs.FoundProcedures.{frame-for}
use Rattle.dcc_simulation.proofs.FoundPlaces.{frame-place}

-- a procedure with callees has no more bytes of its own than its height tells
own-few : (b : Bool) (height : ℕ) → (if b then pos height -ℤ pos 2 else pos height) ≤ℤ pos height
own-few true height = omega (arith, ints)
own-few false height = omega (arith, ints)

-- a word of the callee's arguments, in its own frame
module _ (e : Setting) (entry : ℕ) (p : Procedure) (at : IsFoundAt e entry p) where
  frame : IsFrameFor e.image e.program entry p.frame
  frame = frame-for e at.lifting entry at.is_entry p at.procedure

  pub argument-place : (base number : ℕ) → number < p.frame.args
      → IsFramePlace e entry (pos (base + 2 * number + 4) -ℤ pos base) word_width
      (frame_place p word_width (pos (4 + 2 * number)))
  argument-place base number less =
      let same : pos (4 + 2 * number) ≡ (pos (base + 2 * number + 4) -ℤ pos base) = omega (arith, ints) in
      subst (λ k. IsFramePlace e entry k word_width (frame_place p word_width (pos (4 + 2 * number)))) same
      (frame-place e entry p at (argument_word number) word_width (pos (4 + 2 * number))
      (IsPiece.argument frame.arguments less) (omega (arith, ints)) (omega (arith, ints)))

-- A caller stands at a CALL, with the callee's base where SP stands before it.
pub record StandsAtCall (e : Setting) (a : Activation) (p : Procedure) (height base target : ℕ) (callee : Procedure)
    : Type 0 where
  pub lifting : IsLifting e
  pub is_at : IsAt e.image e.program.layout a.frame.entry a.at a.before (pos height)
  pub top_is : base + 2 + height ≡ a.frame.base
  pub found : procedure_at (procedures_in e.program) a.frame.entry ≡ Some p
  pub calls : StandsAt e.image e.program.layout a.at (Call target)
  pub callee_found : procedure_at (procedures_in e.program) target ≡ Some callee

module _ (e : Setting) (a : Activation) (p : Procedure) (height base target : ℕ) (callee : Procedure)
    (at : StandsAtCall e a p height base target callee) where
  open e.program use {layout}

  is-program : IsProgramOfFile e.cpu e.image e.program
  is-program = at.lifting.of_file

  pub caller-node : IsNode e.image layout a.frame.entry a.at
  caller-node = node-of e.cpu e.image e.program is-program a.frame.entry a.at a.before (pos height) at.is_at

  has : HasHeight e.image layout a.frame.entry a.at (pos height)
  has = has-height e.cpu e.image e.program is-program a.frame.entry a.at a.before (pos height) at.is_at

  pub callee-entry : IsEntry e.image layout target
  callee-entry = called at.is_at.is_entry caller-node at.calls

  pub caller-at : IsFoundAt e a.frame.entry p
  caller-at = record { lifting = at.lifting; is_entry = at.is_at.is_entry; procedure = at.found }

  pub callee-at : IsFoundAt e target callee
  callee-at = record { lifting = at.lifting; is_entry = callee-entry; procedure = at.callee_found }

  pub callee-frame : IsFrameFor e.image e.program target callee.frame
  callee-frame = frame-for e at.lifting target callee-entry callee at.callee_found

  -- the entry procedure is called nowhere
  pub callee-other : target ≢ layout.start_ip
  callee-other same =
      no-trails e.cpu e.image e.program is-program a.frame.entry a.at a.before (pos height) at.is_at
      (entry_return (calls_entry (subst (λ n. StandsAt e.image layout a.at (Call n)) same at.calls)))

  -- the arguments lie in the caller's own bytes
  pub own-room : pos (2 * callee.frame.args) ≤ℤ own_bytes e.image layout a.frame.entry (pos height)
  own-room =
      in-form.arguments e.cpu e.image e.program a.frame.entry a.at target callee.frame.args a.before height is-program
      at.is_at at.calls callee-frame.arguments

  pub room : base + 2 * callee.frame.args + 2 ≤ a.frame.base
  room =
      let own = own-room in
      let few = own-few (is_framed e.image layout a.frame.entry) height in
      let top = at.top_is in
      let all : pos (2 * callee.frame.args) ≤ℤ pos height =
      through (own_bytes e.image layout a.frame.entry (pos height))
      (pos (2 * callee.frame.args)) (pos height) own few in
      omega (arith, ints, all, top)
    where
      through : (z n m : ℤ) → n ≤ℤ z → z ≤ℤ m → n ≤ℤ m
      through z n m low high = omega (arith, ints, low, high)

  module _ (number : ℕ) (less : number < callee.frame.args) where
    abbrev word : Span
    word = span_of (argument_offset height number) 2

    piece : IsPiece e.image layout a.frame.entry word
    piece =
        used caller-node
        (IsUsed.passed (passed at.calls has callee-frame.arguments less
        (within (own_bytes e.image layout a.frame.entry (pos height)) own-room)))
      where
        within : (z : ℤ) → pos (2 * callee.frame.args) ≤ℤ z → pos (2 * number + 2) ≤ℤ z
        within z own = omega (arith, ints, own, less)

    abbrev Stands : ℤ → Width → OperandPlace → Type 0
    Stands k w place = IsFramePlace e a.frame.entry k w place

    offset-is : (index : ℕ)
        → (argument_offset height number +ℤ pos index) ≡ (pos (base + 2 * number + index + 4) -ℤ pos a.frame.base)
    offset-is index = let top = at.top_is in omega (arith, ints, top)

    first-is : argument_offset height number ≡ (pos (base + 2 * number + 4) -ℤ pos a.frame.base)
    first-is = let top = at.top_is in omega (arith, ints, top)

    pub passed-word : IsFramePlace e a.frame.entry (pos (base + 2 * number + 4) -ℤ pos a.frame.base) word_width
        (frame_place p word_width (argument_offset height number))
    passed-word =
        subst (λ k. Stands k word_width (frame_place p word_width (argument_offset height number))) first-is
        (frame-place e a.frame.entry p caller-at word word_width (argument_offset height number) piece
        (omega (arith, ints)) (omega (arith, ints)))

    pub passed-low : IsFramePlace e a.frame.entry (pos (base + 2 * number + 4) -ℤ pos a.frame.base) byte_width
        (frame_place p byte_width (argument_offset height number))
    passed-low =
        subst (λ k. Stands k byte_width (frame_place p byte_width (argument_offset height number))) first-is
        (frame-place e a.frame.entry p caller-at word byte_width (argument_offset height number) piece
        (omega (arith, ints)) (omega (arith, ints)))

    pub passed-high : IsFramePlace e a.frame.entry (pos (base + 2 * number + 1 + 4) -ℤ pos a.frame.base) byte_width
        (frame_place p byte_width (argument_offset height number +ℤ pos 1))
    passed-high =
        subst (λ k. Stands k byte_width (frame_place p byte_width (argument_offset height number +ℤ pos 1)))
        (offset-is 1)
        (frame-place e a.frame.entry p caller-at word byte_width (argument_offset height number +ℤ pos 1) piece
        (omega (arith, ints)) (omega (arith, ints)))
