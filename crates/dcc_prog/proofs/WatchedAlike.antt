-- Programs of one image watch its runs alike: they have one layout, and what they tell of each frame is the same.
use Rattle.std.proofs.Common.{◌≡◌, ◌≢◌, ℕ, zero, suc, Bool, true, false, List, [], ◌∷◌, Option, Some, None, All, refl, sym, ap, ap₂, ◌∙◌, subst, eqb-true}
use Rattle.std.specs.Prelude.{◌==◌, ◌+◌, ◌*◌, ◌&&◌, ◌||◌, not, nat_le, if◌then◌else◌, slice_get, ℤ, pos, ◌-ℤ◌, neg_ℤ, int_le, int_lt}
use Rattle.std.specs.List.{AllZip, find, filter}
use Rattle.std.proofs.lemmas.Bool.{eq-eqb}
use Rattle.std.proofs.lemmas.List.Elements.{All-head, All-tail}
use Rattle.dcc_run.specs.End.{is_over}
use Rattle.dcc_run.specs.System.{after}
use Rattle.dcc_run.specs.Watched.{state}
use Rattle.dcc_machine.specs.declared.cpu.Cpu.{Cpu}
use Rattle.dcc_machine.specs.declared.image.Image.{Image}
use Rattle.dcc_prog.specs.declared.procedure.Layout.{Layout}
use Rattle.dcc_prog.specs.declared.procedure.Proc.{Proc}
use Rattle.dcc_prog.specs.declared.frame.Exposed.{Exposed}
use Rattle.dcc_prog.specs.declared.frame.Frame.{Frame}
use Rattle.dcc_prog.specs.declared.frame.Program.{Program}
use Rattle.dcc_prog.specs.declared.watch.FoulKind.TheVariants.{Low, Hidden, Unwritten}
use Rattle.dcc_machine.specs.declared.instr.Instr.{Instr}
use Rattle.dcc_machine.specs.Machine.{State}
use Rattle.dcc_prog.specs.Trail.{IsEntry}
use Rattle.dcc_machine.specs.Access.{Access, found_accesses}
use Rattle.dcc_prog.specs.Frame.{HasArguments, HasExposedLocal, HasExposedArguments}
use Rattle.dcc_prog.specs.Found.{HasEntry, AreFound}
use Rattle.dcc_prog.specs.Analysed.{IsFrameOf, IsProgramOf}
use Rattle.dcc_prog.specs.Clean.{LiveFrame, Stack, frame_in, end_of, owner, exposed_by, is_exposed_byte, top_in, stack_bytes, is_other, sp_after, foul_as, or_else, low_of, hidden_of, unwritten_of, foul_of}
use Rattle.dcc_prog.specs.Watch.{Stage, AtStart, InPrelude, InProcedures, Stopped, Watch, next_instruction, next_foul, is_foul, made, watch_step, watched_machine, first_watch}
use Rattle.dcc_prog.specs.WatchedAlike.{ProgramsWatchAlike}
use Rattle.dcc_prog.proofs.LayoutLaws.{layout-once}
use Rattle.dcc_prog.proofs.FrameLaws.{arguments-once, local-once, argument-once}

-- Frames by their entries.

module _ (image : Image) (layout : Layout) where
  -- what a program tells of the frame of a procedure that is reached
  record IsTold (entry : ℕ) (frame : Frame) : Type 0 where
    reached : IsEntry image layout entry
    arguments : HasArguments image layout entry frame.args
    local_is : HasExposedLocal image layout entry frame.exposed.local
    argument_is : HasExposedArguments image layout entry frame.exposed.arg

  told : (proc : Proc) (frame : Frame) (entry : ℕ) → proc.entry ≡ entry → IsEntry image layout proc.entry → IsFrameOf image layout proc frame
      → IsTold entry frame
  told proc frame entry same reached is = record {
    reached = subst (IsEntry image layout) same reached;
    arguments = subst (λ e. HasArguments image layout e frame.args) same is.arguments;
    local_is = subst (λ e. HasExposedLocal image layout e frame.exposed.local) same is.local;
    argument_is = subst (λ e. HasExposedArguments image layout e frame.exposed.arg) same is.argument;
  }

  -- two programs tell the same of it
  told-same : {entry : ℕ} (f g : Frame) → IsTold entry f → IsTold entry g → (f.args ≡ g.args) × (f.exposed ≡ g.exposed)
  told-same f g a b =
      (arguments-once a.arguments b.arguments, exposed-same f.exposed g.exposed (local-once a.local_is b.local_is) (argument-once a.argument_is b.argument_is))
    where
      exposed-same : (x y : Exposed) → x.local ≡ y.local → x.arg ≡ y.arg → x ≡ y
      exposed-same x y e f = ap₂ (λ l a. record { local = l; arg = a }) e f

  -- a frame that is found is told
  found-told : (procs : List Proc) (frames : List Frame) (entry : ℕ) (frame : Frame) → All (λ proc. IsEntry image layout proc.entry) procs
      → AllZip (IsFrameOf image layout) procs frames → frame_in procs frames entry ≡ Some frame → IsTold entry frame
  found-told [] frames entry frame reached zip found = cc
  found-told (proc ∷ procs) [] entry frame reached zip found = absurd zip
  found-told (proc ∷ procs) (f ∷ frames) entry frame reached zip found =
      elim (proc.entry == entry) as (λ b. (proc.entry == entry) ≡ b → (if b then Some f else frame_in procs frames entry) ≡ Some frame → IsTold entry frame) [
        | true ↦ λ same is. subst (IsTold entry) (some-same f frame is) (told proc f entry (eqb-true proc.entry entry same) (All-head (λ x. IsEntry image layout x.entry) proc procs reached) zip.0)
        | false ↦ λ other is. found-told procs frames entry frame (All-tail (λ x. IsEntry image layout x.entry) proc procs reached) zip.1 is
      ] refl found
    where
      some-same : (x y : Frame) → Some x ≡ Some y → x ≡ y
      some-same x y e = cc

  -- the frame of a procedure that is listed is found
  listed-found : (procs : List Proc) (frames : List Frame) (entry : ℕ) → AllZip (IsFrameOf image layout) procs frames
      → HasEntry procs entry → frame_in procs frames entry ≢ None
  listed-found [] frames entry zip has none = let listed = has.listed in cc
  listed-found (proc ∷ procs) [] entry zip has none = absurd zip
  listed-found (proc ∷ procs) (f ∷ frames) entry zip has none =
      elim (proc.entry == entry) as (λ b. (proc.entry == entry) ≡ b → (if b then Some f else frame_in procs frames entry) ≡ None → ⊥) [
        | true ↦ λ same is. cc
        | false ↦ λ other is. listed-found procs frames entry zip.1 (later has.place has.listed other) is
      ] refl none
    where
      later : (place : ℕ) → slice_get (proc ∷ procs) place ≡ Some has.proc → (proc.entry == entry) ≡ false → HasEntry procs entry
      later zero listed other = absurd (let is : proc ≡ has.proc = cc in let e = eq-eqb proc.entry entry (ap (λ (p : Proc). p.entry) is ∙ has.entry_is) in cc)
      later (suc place) listed other = record { proc = has.proc; place = place; listed = listed; entry_is = has.entry_is }

-- Two programs of an image.

-- what a frame of so many arguments with these exposed bytes exposes
abbrev exposes_by : ℕ → Exposed → ℤ → Bool
exposes_by args exposed k =
    (int_le (neg_ℤ (pos exposed.local)) k && int_lt k (pos 0))
    || elim exposed.arg [ None ↦ false | Some least ↦ int_le (pos least) k && int_lt k (pos (4 + 2 * args)) ]

module _ (image : Image) (p q : Program) (layouts : q.layout ≡ p.layout) (found : AreFound image p.layout p.procs.items)
    (other_found : AreFound image p.layout q.procs.items)
    (frames : AllZip (IsFrameOf image p.layout) p.procs.items p.cells.frames.items)
    (other_frames : AllZip (IsFrameOf image p.layout) q.procs.items q.cells.frames.items) where
  abbrev look : ℕ → Option Frame
  look entry = frame_in p.procs.items p.cells.frames.items entry

  abbrev other_look : ℕ → Option Frame
  other_look entry = frame_in q.procs.items q.cells.frames.items entry

  -- what is made of a frame's arguments and exposed bytes is the same, whichever program's frame it is
  abbrev made_of : {A : Type 0} → A → (ℕ → Exposed → A) → Option Frame → A
  made_of none make None = none
  made_of none make (Some frame) = make frame.args frame.exposed

  same_of : {A : Type 0} (none : A) (make : ℕ → Exposed → A) (entry : ℕ)
      → made_of none make (other_look entry) ≡ made_of none make (look entry)
  same_of none make entry = by (look entry) (other_look entry) refl refl
    where
      by : (x y : Option Frame) → look entry ≡ x → other_look entry ≡ y → made_of none make y ≡ made_of none make x
      by None None e f = refl
      by None (Some g) e f =
          let t = found-told image p.layout q.procs.items q.cells.frames.items entry g other_found.reached other_frames f in
          absurd (listed-found image p.layout p.procs.items p.cells.frames.items entry frames (found.every entry t.reached) e)
      by (Some g) None e f =
          let t = found-told image p.layout p.procs.items p.cells.frames.items entry g found.reached frames e in
          absurd (listed-found image p.layout q.procs.items q.cells.frames.items entry other_frames (other_found.every entry t.reached) f)
      by (Some g) (Some h) e f =
          let t = found-told image p.layout p.procs.items p.cells.frames.items entry g found.reached frames e in
          let u = found-told image p.layout q.procs.items q.cells.frames.items entry h other_found.reached other_frames f in
          let s = told-same image p.layout h g u t in
          ap₂ make s.0 s.1

  end-same : (live : LiveFrame) → end_of q live ≡ end_of p live
  end-same live = same_of live.base (λ args exposed. live.base + 2 * args) live.entry

  exposed-same : (live : LiveFrame) (offset : ℕ) → exposed_by q live offset ≡ exposed_by p live offset
  exposed-same live offset =
      same_of false (λ args exposed. exposes_by args exposed (pos (offset + 4) -ℤ pos live.base)) live.entry

  owner-same : (low : ℕ) (lives : List LiveFrame) (offset : ℕ) → owner q low lives offset ≡ owner p low lives offset
  owner-same low [] offset = refl
  owner-same low (live ∷ older) offset =
      ap (λ e. if nat_le low offset && not (nat_le e offset) then Some live else owner q live.base older offset) (end-same live)
      ∙ ap (λ r. if nat_le low offset && not (nat_le (end_of p live) offset) then Some live else r) (owner-same live.base older offset)

  abbrev exposed_in : Program → ℕ → Option LiveFrame → Bool
  exposed_in program offset None = false
  exposed_in program offset (Some live) = exposed_by program live offset

  byte-same : (low : ℕ) (lives : List LiveFrame) (offset : ℕ) → is_exposed_byte q low lives offset ≡ is_exposed_byte p low lives offset
  byte-same low lives offset =
      ap (exposed_in q offset) (owner-same low lives offset) ∙ by (owner p low lives offset)
    where
      by : (o : Option LiveFrame) → exposed_in q offset o ≡ exposed_in p offset o
      by None = refl
      by (Some live) = exposed-same live offset

  find-same : (f g : ℕ → Bool) → ((x : ℕ) → f x ≡ g x) → (xs : List ℕ) → find f xs ≡ find g xs
  find-same f g same [] = refl
  find-same f g same (x ∷ xs) = ap₂ (λ b r. if b then Some x else r) (same x) (find-same f g same xs)

  hidden-same : (stack : Stack) (s : State) (list : List Access) → hidden_of q stack s list ≡ hidden_of p stack s list
  hidden-same stack s list =
      ap (λ l. find (λ offset. not (is_exposed_byte q (top_in l s) stack.frames offset)) (stack_bytes l (filter is_other list))) layouts
      ∙ find-same (λ offset. not (is_exposed_byte q (top_in p.layout s) stack.frames offset))
      (λ offset. not (is_exposed_byte p (top_in p.layout s) stack.frames offset))
      (λ offset. ap not (byte-same (top_in p.layout s) stack.frames offset)) (stack_bytes p.layout (filter is_other list))

  foul-same : (stack : Stack) (s : State) (instr : Option Instr) → foul_of q stack s instr ≡ foul_of p stack s instr
  foul-same stack s None = refl
  foul-same stack s (Some instr) =
      ap₂ or_else (ap (λ l. foul_as s.ip Low (low_of l (sp_after instr.op s))) layouts)
      (ap₂ or_else (ap (foul_as s.ip Hidden) (hidden-same stack s (found_accesses (Some instr) s)))
      (ap (λ l. foul_as s.ip Unwritten (unwritten_of l stack (found_accesses (Some instr) s))) layouts))

  next-same : (m : State) (stage : Stage) → next_foul q (record { machine = m; stage = stage }) ≡ next_foul p (record { machine = m; stage = stage })
  next-same m AtStart = refl
  next-same m InPrelude = refl
  next-same m (InProcedures stack) =
      ap (λ (l : Layout). foul_of q stack m (next_instruction l.cpu m)) layouts ∙ foul-same stack m (next_instruction p.layout.cpu m)
  next-same m (Stopped foul) = refl

  step-same : (w : Watch) → watch_step q w ≡ watch_step p w
  step-same w =
      ap₂ (λ l f. if is_over w.machine.end || is_foul w then w else made l f w) layouts (next-same w.machine w.stage)

steps-alike : (cpu : Cpu) (image : Image) (p q : Program) → IsProgramOf cpu image p → IsProgramOf cpu image q → (w : Watch) → watch_step q w ≡ watch_step p w
steps-alike cpu image p q a b =
    let layouts : q.layout ≡ p.layout = layout-once image p.layout q.layout (b.runs_on ∙ sym a.runs_on) a.layout b.layout in
    step-same image p q layouts a.procs (subst (λ l. AreFound image l q.procs.items) layouts b.procs) a.cells.frames
    (subst (λ l. AllZip (IsFrameOf image l) q.procs.items q.cells.frames.items) layouts b.cells.frames)

runs-alike : (cpu : Cpu) (image : Image) (p q : Program) → IsProgramOf cpu image p → IsProgramOf cpu image q → (n : ℕ) (w : Watch)
    → state (watched_machine q) n w ≡ state (watched_machine p) n w
runs-alike cpu image p q a b zero w = refl
runs-alike cpu image p q a b (suc n) w =
    ap (after (watch_step q) n) (steps-alike cpu image p q a b w) ∙ runs-alike cpu image p q a b n (watch_step p w)

pub watch-alike : ProgramsWatchAlike
watch-alike = record {
  steps = steps-alike;
  runs = λ cpu image p is input n clean q other.
      ap is_foul (runs-alike cpu image p q is other n (first_watch image input)) ∙ clean;
}
