-- The frames of accepted programs: each procedure that is reached has one, accesses reach its bytes alone, and calls
-- pass bytes of the caller's own.
use Rattle.std.proofs.Common.{◌≡◌, ◌≢◌, inl, ℕ, zero, suc, ◌+◌, ◌*◌, ◌==◌, ℤ, Bool, true, false, pos, ◌-ℤ◌, ◌≤ℤ◌, List, [], ◌∷◌, map, slice_get, All, Contains, Some, refl, ap, ◌∙◌, subst, arith}
use Rattle.std.specs.Prelude.{if◌then◌else◌}
use Rattle.std.specs.List.{AllZip}
use Rattle.std.proofs.lemmas.Bool.{eqb-true, eqb-false}
use Rattle.std.proofs.lemmas.Int.{ints, by_lt_z}
use Rattle.dcc_machine.specs.declared.cpu.Cpu.{Cpu}
use Rattle.dcc_machine.specs.declared.image.Image.{Image}
use Rattle.dcc_prog.specs.declared.procedure.Layout.{Layout}
use Rattle.dcc_prog.specs.declared.procedure.Proc.{Proc}
use Rattle.dcc_prog.specs.declared.frame.Cell.{Cell}
use Rattle.dcc_prog.specs.declared.frame.Frame.{Frame}
use Rattle.dcc_prog.specs.declared.frame.Program.{Program}
use Rattle.dcc_machine.specs.declared.instr.Op.TheVariants.{Lea, Call}
use Rattle.dcc_prog.specs.declared.refusal.FrameFault.{FrameFault}
use Rattle.dcc_prog.specs.Trail.{StandsAt, IsEntry}
use Rattle.dcc_prog.specs.FrameForm.{is_framed}
use Rattle.dcc_prog.specs.Frame.{Span, own_bytes, IsDirectAccess, HasArguments, IsCell, HasExposedLocal, HasExposedArguments, IsOutsideFrame, HasBadAccess, access_outside, start_outside, no_addresses, StartsExposure, by_lea, by_index, by_copy, span_of}
use Rattle.dcc_prog.specs.Construct.{bad_access, short_call}
use Rattle.dcc_prog.specs.Analysed.{bytes_of, IsFrameOf}
use Rattle.dcc_prog.specs.Clean.{frame_in}
use Rattle.dcc_stack.specs.Accepted.{IsAt, IsProgramOfFile, IsSetUp, IsInFrame, in_arguments, in_locals, IsGoodStart, IsFrameFor}
use Rattle.dcc_stack.proofs.FormHeights.{nat-same, no-frames, has-height}
use Rattle.dcc_stack.proofs.FormNodes.{set-up, uses-set-up, copies-set-up, operand-uses}

-- the frame that a search by the entry finds is that of a procedure with this entry
record IsFoundFor (image : Image) (layout : Layout) (procs : List Proc) (frames : List Frame) (entry : ℕ) : Type 0 where
  frame : Frame
  found : frame_in procs frames entry ≡ Some frame
  proc : Proc
  entry_is : proc.entry ≡ entry
  is_frame : IsFrameOf image layout proc frame

module _ (image : Image) (layout : Layout) (entry : ℕ) where
  found-on :
      (proc : Proc) (procs : List Proc) (frame : Frame) (frames : List Frame) (same : Bool)
      → (proc.entry == entry) ≡ same
      → IsFrameOf image layout proc frame
      → (proc.entry ≢ entry → IsFoundFor image layout procs frames entry)
      → IsFoundFor image layout (proc ∷ procs) (frame ∷ frames) entry
  found-on proc procs frame frames true same is later = record {
    frame = frame;
    found = ap (λ b. if b then Some frame else frame_in procs frames entry) same;
    proc = proc;
    entry_is = eqb-true proc.entry entry same;
    is_frame = is;
  }
  found-on proc procs frame frames false other is later =
      let rest = later (eqb-false proc.entry entry other) in
      record {
        frame = rest.frame;
        found = ap (λ b. if b then Some frame else frame_in procs frames entry) other ∙ rest.found;
        proc = rest.proc;
        entry_is = rest.entry_is;
        is_frame = rest.is_frame;
      }

  found-in :
      (procs : List Proc) (frames : List Frame) (place : ℕ) (proc : Proc) → AllZip (IsFrameOf image layout) procs frames
      → slice_get procs place ≡ Some proc
      → proc.entry ≡ entry
      → IsFoundFor image layout procs frames entry
  found-in [] frames place proc all listed same = let clash = listed in cc
  found-in (first ∷ procs) [] place proc all listed same = absurd all
  found-in (first ∷ procs) (frame ∷ frames) zero proc all listed same =
      let is : first ≡ proc = cc in
      found-on first procs frame frames (first.entry == entry) refl all.0
      (λ other. absurd (other (ap (λ (q : Proc). q.entry) is ∙ same)))
  found-in (first ∷ procs) (frame ∷ frames) (suc place) proc all listed same =
      found-on first procs frame frames (first.entry == entry) refl all.0
      (λ other. found-in procs frames place proc all.1 listed same)

module _ (cpu : Cpu) (image : Image) (program : Program) (p : IsProgramOfFile cpu image program) where
  abbrev layout : Layout
  layout = program.layout

  frame-by :
      (entry : ℕ) → IsFoundFor image layout program.procs.items program.cells.frames.items entry
      → (frame : Frame) × IsFrameFor image program entry frame
  frame-by entry f =
      let is = f.is_frame in
      let frame = f.frame in
      let at = f.entry_is in (
        frame,
        record {
          found = f.found;
          framed = is.framed ∙ ap (is_framed image layout) at;
          arguments = subst (λ n. HasArguments image layout n frame.args) at is.arguments;
          cells =
              subst (λ n. All (λ (cell : Cell). IsCell image layout n (bytes_of cell)) frame.cells.items) at is.cells;
          every =
              subst
              (λ n. (cell : Span) → IsCell image layout n cell → Contains (map bytes_of frame.cells.items) cell) at
              is.every;
          local = subst (λ n. HasExposedLocal image layout n frame.exposed.local) at is.local;
          argument = subst (λ n. HasExposedArguments image layout n frame.exposed.arg) at is.argument;
        },
      )

  pub frame-for : (entry : ℕ) → IsEntry image layout entry → (frame : Frame) × IsFrameFor image program entry frame
  frame-for entry is_entry =
      let there = p.is_program.procs.every entry is_entry in
      frame-by entry
      (found-in image layout entry program.procs.items program.cells.frames.items there.place there.proc
      p.is_program.cells.frames there.listed there.entry_is)

  module _ (entry at : ℕ) (before : List ℕ) (height : ℕ) (is : IsAt image layout entry at before (pos height)) where
    -- Bytes of the frame.

    count-for : (count : ℕ) × HasArguments image layout entry count
    count-for = let f = frame-for entry is.is_entry in (f.0.args, f.1.arguments)

    module _ (span : Span) (no_outside : ¬ IsOutsideFrame image layout entry (pos height) span) where
      outside :
          ¬ ((pos 4 ≤ℤ span.first) × (span.end ≤ℤ pos (4 + 2 * count-for.0)))
          → ¬ (((pos 2 -ℤ pos height) ≤ℤ span.first) × (span.end ≤ℤ pos 0))
          → IsInFrame image layout entry height span
      outside no_argument no_local =
          absurd (no_outside (record {
            count = count-for.0;
            arguments = count-for.1;
            no_argument = no_argument;
            no_local = no_local;
          }))

      in-locals :
          ¬ ((pos 4 ≤ℤ span.first) × (span.end ≤ℤ pos (4 + 2 * count-for.0)))
          → IsInFrame image layout entry height span
      in-locals no_argument =
          by_lt_z span.first (pos 2 -ℤ pos height)
          (λ less. outside no_argument (λ both. let low = both.0 in omega (arith, ints, less, low)))
          (λ low. by_lt_z (pos 0) span.end
          (λ more. outside no_argument (λ both. let high = both.1 in omega (arith, ints, more, high)))
          (λ high. in_locals low high))

      in-frame : IsInFrame image layout entry height span
      in-frame =
          by_lt_z span.first (pos 4)
          (λ less. in-locals (λ both. let low = both.0 in omega (arith, ints, less, low)))
          (λ low. by_lt_z (pos (4 + 2 * count-for.0)) span.end
          (λ more. in-locals (λ both. let high = both.1 in omega (arith, ints, more, high)))
          (λ high. in_arguments count-for.1 low high))

    refused : {cause : FrameFault} → ¬ HasBadAccess image layout entry at cause
    refused bad = no-frames cpu image program p entry at before (pos height) is (bad_access bad)

    pub access-in_frame :
        (span : Span) → IsDirectAccess image layout entry at span → IsInFrame image layout entry height span
    access-in_frame span access =
        in-frame span (λ out. refused
        (access_outside access (has-height cpu image program p entry at before (pos height) is) out))

    start-set-up : {start : ℤ} → StartsExposure image layout entry at start → IsSetUp image layout entry height
    start-set-up (by_lea {r} {ea} stands other uses) =
        uses-set-up cpu image program p entry at before height is (Lea r ea) stands uses
    start-set-up (by_index {op} {width} {ea} stands operand uses indexed) =
        uses-set-up cpu image program p entry at before height is op stands (operand-uses width ea uses op operand)
    start-set-up (by_copy {op} stands copied has) =
        copies-set-up cpu image program p entry at before height is op stands copied

    pub start-good :
        (start : ℤ) → StartsExposure image layout entry at start → IsGoodStart image layout entry height start
    start-good start starts = record {
      set_up = start-set-up starts;
      near = nat-same layout.delta 0 (λ far. refused (no_addresses (inl far) starts));
      inside =
          in-frame (span_of start 1) (λ out. refused
          (start_outside starts (has-height cpu image program p entry at before (pos height) is) out));
    }

    -- Calls.

    module _ (target : ℕ) (stands : StandsAt image layout at (Call target)) where
      own-natural :
          (framed : Bool) → is_framed image layout entry ≡ framed
          → pos 0 ≤ℤ (if framed then pos height -ℤ pos 2 else pos height)
      own-natural true framed =
          let is_set = set-up cpu image program p entry at before height is (Call target) stands framed refl refl in
          let deep = is_set.deep in
          omega (arith, ints, deep)
      own-natural false framed = omega (arith, ints)

      pub passes-own :
          (count : ℕ) → HasArguments image layout target count
          → pos (2 * count) ≤ℤ own_bytes image layout entry (pos height)
      passes-own zero arguments = own-natural (is_framed image layout entry) refl
      passes-own (suc number) arguments =
          by_lt_z (own_bytes image layout entry (pos height)) (pos (2 * number + 2))
          (λ short. absurd (no-frames cpu image program p entry at before (pos height) is
          (short_call (record {
            target = target;
            stands = stands;
            count = suc number;
            arguments = arguments;
            number = number;
            is_argument = omega arith;
            height = pos height;
            has = has-height cpu image program p entry at before (pos height) is;
            short = short;
          }))))
          (λ le. omega (arith, ints, le))
