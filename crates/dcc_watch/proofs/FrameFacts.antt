-- What the code keeps of a program's frames tells what the program does.
use Rattle.std.proofs.Common.{◌≡◌, ◌≢◌, ℕ, zero, suc, ◌+◌, ◌*◌, Bool, true, false, List, [], ◌∷◌, map, set, replicate, cond, Option, Some, None, refl, sym, ap, ◌∙◌, subst, arith}
use Rattle.std.specs.Prelude.{slice_get, ◌&&◌, ◌||◌, not, nat_le, ℤ, pos, negsuc, ◌-ℤ◌, int_le, int_lt, if◌then◌else◌, ◌==◌}
use Rattle.std.specs.List.{find, filter}
use Rattle.std.proofs.lemmas.Bool.Decides.{nat_tests}
use Rattle.dcc_prog.specs.declared.procedure.Proc.{Proc}
use Rattle.dcc_prog.specs.declared.frame.Frame.{Frame}
use Rattle.dcc_prog.specs.declared.frame.Program.{Program}
use Rattle.dcc_machine.specs.declared.instr.Instr.{Instr}
use Rattle.dcc_machine.specs.Machine.{State}
use Rattle.dcc_machine.specs.Access.{found_accesses}
use Rattle.dcc_prog.specs.declared.watch.FoulKind.TheVariants.{Low, Hidden, Unwritten}
use Rattle.dcc_prog.specs.Clean as told
use Rattle.dcc_prog.specs.Clean.{LiveFrame, Foul, frame_in, frame_of, is_exposed_byte, is_other, stack_bytes, top_in, sp_after, low_of, foul_as, or_else, foul_of}
use Rattle.dcc_watch.specs.declared.shape.Shape.{Shape}
use Rattle.dcc_watch.specs.declared.shape.TheConstants.{NO_SHAPE}
use Rattle.dcc_watch.specs.declared.frames.Live.{Live}
use Rattle.dcc_watch.specs.Shapes.{shape_of, shapes_of, no_shapes, live_frame, exposes, end_of, exposed_in}
use Rattle.dcc_watch.specs.Foul.{unwritten_in, foul_in, hidden_in}
use Rattle.dcc_watch.specs.Watching.{HasShape, AllHaveShapes}

-- the shape of the frame, if there is one
abbrev shape_told : Option Frame → Shape
shape_told None = NO_SHAPE
shape_told (Some frame) = shape_of frame

slice_get-set : {A : Type 0} (l : List A) (i : ℕ) (a b : A) → slice_get (set l i a) i ≡ Some b → b ≡ a
slice_get-set [] i a b is = cc
slice_get-set (x ∷ xs) zero a b is = cc
slice_get-set (x ∷ xs) (suc i) a b is = slice_get-set xs i a b is

slice_get-other : {A : Type 0} (l : List A) (i j : ℕ) (a : A) → i ≢ j → slice_get (set l i a) j ≡ slice_get l j
slice_get-other [] i j a other = refl
slice_get-other (x ∷ xs) zero zero a other = absurd (other refl)
slice_get-other (x ∷ xs) zero (suc j) a other = refl
slice_get-other (x ∷ xs) (suc i) zero a other = refl
slice_get-other (x ∷ xs) (suc i) (suc j) a other = slice_get-other xs i j a (λ e. other (ap suc e))

replicate-get : {A : Type 0} (n i : ℕ) (x y : A) → slice_get (replicate n x) i ≡ Some y → y ≡ x
replicate-get zero i x y is = cc
replicate-get (suc n) zero x y is = cc
replicate-get (suc n) (suc i) x y is = replicate-get n i x y is

none-told : (entry : ℕ) (shape : Shape) → slice_get no_shapes entry ≡ Some shape → shape ≡ NO_SHAPE
unfolding no_shapes
none-told entry shape is = replicate-get 65536 entry NO_SHAPE shape is

eq-true : (a b : ℕ) → (a == b) ≡ true → a ≡ b
eq-true a b is = grind (arith, nat_tests)

eq-false : (a b : ℕ) → (a == b) ≡ false → a ≢ b
eq-false a b is = grind (arith, nat_tests)

shape-by : (procs : List Proc) (frames : List Frame) (first entry : ℕ) (frame : Frame) (shape : Shape) (b : Bool) → (first == entry) ≡ b
    → (slice_get (shapes_of procs frames) entry ≡ Some shape → shape ≡ shape_told (frame_in procs frames entry))
    → slice_get (set (shapes_of procs frames) first (shape_of frame)) entry ≡ Some shape
    → shape ≡ shape_told (if b then Some frame else frame_in procs frames entry)
shape-by procs frames first entry frame shape true eq rest is =
    slice_get-set (shapes_of procs frames) entry (shape_of frame) shape
    (subst (λ e. slice_get (set (shapes_of procs frames) e (shape_of frame)) entry ≡ Some shape) (eq-true first entry eq) is)
shape-by procs frames first entry frame shape false eq rest is =
    rest (sym (slice_get-other (shapes_of procs frames) first entry (shape_of frame) (eq-false first entry eq)) ∙ is)

-- the shape that stands at an offset is that of the frame of the procedure that begins there
shape-told : (procs : List Proc) (frames : List Frame) (entry : ℕ) (shape : Shape)
    → slice_get (shapes_of procs frames) entry ≡ Some shape → shape ≡ shape_told (frame_in procs frames entry)
shape-told [] frames entry shape is = none-told entry shape is
shape-told (proc ∷ procs) [] entry shape is = none-told entry shape is
shape-told (proc ∷ procs) (frame ∷ frames) entry shape is =
    shape-by procs frames proc.entry entry frame shape (proc.entry == entry) refl (λ e. shape-told procs frames entry shape e) is

-- of a frame that lives
end-told : (frame : Option Frame) (base : ℕ) → elim frame [ None ↦ base | Some f ↦ base + 2 * f.args ] ≡ base + 2 * (shape_told frame).args
end-told None base = omega arith
end-told (Some frame) base = refl

not_below : (n : ℕ) → (int_le (pos 0) (pos n) && int_lt (pos n) (pos 0)) ≡ false
not_below n = grind (arith, nat_tests)

none-exposed : (k : ℤ) → false ≡ exposes NO_SHAPE k
none-exposed (pos n) = ap (λ b. b || false) (sym (not_below n))
none-exposed (negsuc n) = refl

exposed-told : (frame : Option Frame) (k : ℤ) → elim frame [ None ↦ false | Some f ↦ told.exposes f k ] ≡ exposes (shape_told frame) k
exposed-told None k = none-exposed k
exposed-told (Some frame) k = refl

module _ (program : Program) where
  abbrev shapes : List Shape
  shapes = shapes_of program.procs.items program.cells.frames.items

  pub end-is : (live : Live) → HasShape shapes live → told.end_of program (live_frame live) ≡ end_of live
  end-is live has =
      end-told (frame_of program (live_frame live)) live.base
      ∙ ap (λ (s : Shape). live.base + 2 * s.args) (sym (shape-told program.procs.items program.cells.frames.items live.entry live.shape has))

  exposed_by-is : (live : Live) (offset : ℕ) → HasShape shapes live
      → told.exposed_by program (live_frame live) offset ≡ exposes live.shape (pos (offset + 4) -ℤ pos live.base)
  exposed_by-is live offset has =
      let k : ℤ = pos (offset + 4) -ℤ pos live.base in
      exposed-told (frame_of program (live_frame live)) k
      ∙ ap (λ s. exposes s k) (sym (shape-told program.procs.items program.cells.frames.items live.entry live.shape has))

  choose : (live : Live) (older : List Live) (offset : ℕ) (b : Bool) → HasShape shapes live
      → is_exposed_byte program live.base (map live_frame older) offset ≡ exposed_in live.base older offset
      → elim (if b then Some (live_frame live) else told.owner program live.base (map live_frame older) offset) [
        | None ↦ false
        | Some l ↦ told.exposed_by program l offset
      ] ≡ (if b then exposes live.shape (pos (offset + 4) -ℤ pos live.base) else exposed_in live.base older offset)
  choose live older offset true has rest = exposed_by-is live offset has
  choose live older offset false has rest = rest

  -- a byte is exposed by the definition just where the code's frames expose it
  exposed-is : (lives : List Live) (low offset : ℕ) → AllHaveShapes shapes lives
      → is_exposed_byte program low (map live_frame lives) offset ≡ exposed_in low lives offset
  exposed-is [] low offset all = refl
  exposed-is (live ∷ older) low offset all =
      ap (λ e. elim (if nat_le low offset && not (nat_le e offset) then Some (live_frame live) else told.owner program live.base (map live_frame older) offset) [
        | None ↦ false
        | Some l ↦ told.exposed_by program l offset
      ]) (end-is live all.0)
      ∙ choose live older offset (nat_le low offset && not (nat_le (end_of live) offset)) all.0 (exposed-is older live.base offset all.1)

find-same : (p q : ℕ → Bool) (l : List ℕ) → ((n : ℕ) → p n ≡ q n) → find p l ≡ find q l
find-same p q [] same = refl
find-same p q (x ∷ xs) same =
    ap (λ b. cond b (Some x) (find p xs)) (same x) ∙ ap (λ f. cond (q x) (Some x) f) (find-same p q xs same)

-- what is foul
pub foul-is : (program : Program) (live : List Live) (written : List Bool) (s : State) (found : Option Instr)
    → AllHaveShapes (shapes_of program.procs.items program.cells.frames.items) live
    → foul_of program (record { frames = map live_frame live; written = written }) s found
    ≡ foul_in program.layout live written s found
foul-is program live written s None all = refl
foul-is program live written s (Some instr) all =
    let list = found_accesses (Some instr) s in
    let layout = program.layout in
    let low = foul_as s.ip Low (low_of layout (sp_after instr.op s)) in
    let last = foul_as s.ip Unwritten (unwritten_in layout written list) in
    let hidden : told.hidden_of program (record { frames = map live_frame live; written = written }) s list ≡ hidden_in layout (top_in layout s) live list =
    find-same (λ n. not (is_exposed_byte program (top_in layout s) (map live_frame live) n)) (λ n. not (exposed_in (top_in layout s) live n))
    (stack_bytes layout (filter is_other list)) (λ n. ap not (exposed-is program live (top_in layout s) n all)) in
    ap (λ h. or_else low (or_else (foul_as s.ip Hidden h) last)) hidden
