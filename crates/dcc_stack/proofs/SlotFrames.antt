-- How frames that stand lie: each below the control bytes of the next, and all below the stack's end.
use Rattle.std.proofs.Common.{◌≡◌, ◌≤◌, ◌<◌, inl, inr, ℕ, ◌+◌, ◌*◌, List, [], ◌∷◌, Option, Some, None, ap, arith}
use Rattle.dcc_machine.specs.declared.cpu.Cpu.{Cpu}
use Rattle.dcc_machine.specs.declared.image.Image.{Image}
use Rattle.dcc_prog.specs.declared.procedure.Layout.{Layout}
use Rattle.dcc_prog.specs.declared.frame.Frame.{Frame}
use Rattle.dcc_prog.specs.declared.frame.Program.{Program}
use Rattle.dcc_prog.specs.FrameForm.{is_framed}
use Rattle.dcc_prog.specs.Clean.{LiveFrame, end_of, frame_of}
use Rattle.dcc_stack.specs.Accepted.{IsProgramOfFile, IsFrameFor, AcceptedProgramsAreInForm}
use Rattle.dcc_stack.specs.Standing.{Activation, WaitsFor, Stand, first, called}
use Rattle.dcc_stack.specs.Apart.{control_size, IsApart}
use Rattle.dcc_stack.specs.Slots.{AreNested}
use Rattle.dcc_stack.proofs.ApartFrames.{control-least, newest-stands, start-arguments, room-below}

module _ (image : Image) (program : Program) where
  abbrev layout : Layout
  layout = program.layout

  -- the offset after the arguments
  pub end-is : (live : LiveFrame) (frame : Frame) → IsFrameFor image program live.entry frame
      → end_of program live ≡ live.base + 2 * frame.args
  end-is live frame f =
      ap (λ (o : Option Frame). elim o [ None ↦ live.base | Some found ↦ live.base + 2 * found.args ]) f.found

  pub base-end : (live : LiveFrame) → live.base ≤ end_of program live
  base-end live = by (frame_of program live)
    where
      by : (o : Option Frame) → live.base ≤ elim o [ None ↦ live.base | Some found ↦ live.base + 2 * found.args ]
      by None = omega arith
      by (Some found) = omega arith

  pub control-some : (a : Activation) → 2 ≤ control_size image layout a
  control-some a = control-least (is_framed image layout a.frame.entry)

  pub bases-low : (a : Activation) (callers : List Activation) → AreNested program image (a ∷ callers)
      → a.frame.base ≤ layout.hi + 2
  bases-low a [] nested = let e = nested.2.0 in omega (arith, e)
  bases-low a (caller ∷ callers) nested =
      let le = bases-low caller callers nested.3 in let below = nested.2 in let up = base-end a.frame in
      omega (arith, le, below, up, control-some caller)

  -- bytes of a frame that are apart lie below the stack's end
  pub parts-low : (offset : ℕ) (a : Activation) (callers : List Activation) → AreNested program image (a ∷ callers)
      → offset < end_of program a.frame → IsApart image layout offset a
      → offset < layout.hi
  parts-low offset a [] nested inside (inl before) =
      let e = nested.2.0 in omega (arith, before, e, control-some a)
  parts-low offset a [] nested inside (inr after) = let e = nested.2.1 in absurd (omega (arith, inside, after, e))
  parts-low offset a (caller ∷ callers) nested inside apart =
      let le = bases-low caller callers nested.3 in let below = nested.2 in
      omega (arith, inside, le, below, control-some caller)

  module _ (cpu : Cpu) (form : AcceptedProgramsAreInForm) (is : IsProgramOfFile cpu image program)
      (memory : List ℕ) where
    abbrev Stands : List Activation → ℕ → ℕ → Type 0
    Stands activations top bp = Stand image layout memory activations top bp

    -- the arguments of a callee lie below its caller's saved BP and return address
    below-caller : {a caller : Activation} {callers : List Activation} {bp : ℕ}
        → WaitsFor image layout memory caller a → Stands (caller ∷ callers) a.frame.base bp
        → (frame : Frame) → IsFrameFor image program a.frame.entry frame
        → end_of program a.frame + control_size image layout caller ≤ caller.frame.base
    below-caller {a = a} {caller = caller} waits older frame f =
        let s = newest-stands image layout memory older in
        let room = form.arguments cpu image program caller.frame.entry caller.at a.frame.entry frame.args caller.before
        s.height is s.is_at (waits.instr, waits.stands, waits.calls) f.arguments in
        let below = room-below (is_framed image layout caller.frame.entry) s.height (2 * frame.args) room in
        let end = end-is a.frame frame f in
        omega (arith, below, end, s.top_is)

    pub nested-stand : {activations : List Activation} {top bp : ℕ} → Stands activations top bp → layout.lo ≤ top
        → AreNested program image activations
    nested-stand (first {a = a} start stands) low =
        let at = stands.is_at.is_entry in
        let above : layout.lo ≤ a.frame.base = omega (arith, low, stands.top_is) in
        let f = form.frames cpu image program a.frame.entry is at in
        let none =
        start-arguments image layout a.frame.entry f.0.args (ap (λ (l : LiveFrame). l.entry) start) f.1.arguments in
        let end = end-is a.frame f.0 f.1 in
        (at, above, (ap (λ (l : LiveFrame). l.base) start, omega (arith, end, none)), tt)
    nested-stand (called {a = a} stands waits older) low =
        let at = stands.is_at.is_entry in
        let above : layout.lo ≤ a.frame.base = omega (arith, low, stands.top_is) in
        let f = form.frames cpu image program a.frame.entry is at in
        (at, above, below-caller waits older f.0 f.1, nested-stand older above)
