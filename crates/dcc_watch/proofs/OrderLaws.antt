-- Frames in order: how a byte's frame is found among them, and that those of a clean run are.
use Rattle.std.proofs.Common.{◌≡◌, ℕ, zero, suc, ◌+◌, ◌-◌, ◌*◌, ◌<◌, ◌≤◌, ◌⊎◌, inl, inr, true, false, List, [], ◌∷◌, map, drop, length, get_or, Option, Some, None, refl, sym, ap, ◌∙◌, subst, arith}
use Rattle.std.specs.Prelude.{◌&&◌, not, nat_le, pos, ◌-ℤ◌, if◌then◌else◌}
use Rattle.std.proofs.lemmas.Bool.Decides.{nat_tests}
use Rattle.std.proofs.lemmas.List.{get_or_default}
use Rattle.dcc_machine.specs.declared.cpu.Cpu.{Cpu}
use Rattle.dcc_machine.specs.declared.image.Image.{Image}
use Rattle.dcc_prog.specs.declared.procedure.Layout.{Layout}
use Rattle.dcc_prog.specs.declared.frame.Frame.{Frame}
use Rattle.dcc_prog.specs.declared.frame.Program.{Program}
use Rattle.dcc_prog.specs.FrameForm.{is_framed}
use Rattle.dcc_prog.specs.Clean as told
use Rattle.dcc_prog.specs.Clean.{LiveFrame, frame_of}
use Rattle.dcc_stack.specs.Accepted.{IsProgramOfFile, AcceptedProgramsAreInForm}
use Rattle.dcc_stack.specs.Standing.{Activation, StandsIn, WaitsFor, Stand, called}
use Rattle.dcc_stack.proofs.ApartFrames.{newest-stands, control-least, room-below}
use Rattle.dcc_watch.specs.declared.frames.Live.{Live}
use Rattle.dcc_watch.specs.Shapes.{shapes_of, live_frame, exposes, end_of, exposed_in}
use Rattle.dcc_watch.specs.Ordered.{AreOrdered, AreBelow}
use Rattle.dcc_watch.specs.Watching.{AllHaveShapes}
use Rattle.dcc_watch.proofs.FrameFacts.{end-is}

-- The search.

-- frames in order are in order from a lower offset on too
pub ordered-from : (low lower : ℕ) (list : List Live) → lower ≤ low → AreOrdered low list → AreOrdered lower list
ordered-from low lower [] le ordered = tt
ordered-from low lower (live ∷ older) le ordered = (omega (arith, le, ordered.0), ordered.1, ordered.2)

-- where SP or the next newer frame stands, after so many frames
abbrev pub low_after : ℕ → List Live → ℕ → ℕ
low_after low [] count = low
low_after low (live ∷ older) zero = low
low_after low (live ∷ older) (suc count) = low_after live.base older count

-- the frame's part doesn't hold what lies above its arguments, or below it
not-held : (low offset end : ℕ) → (end ≤ offset) ⊎ (offset < low) → (nat_le low offset && not (nat_le end offset)) ≡ false
not-held low offset end (inl above) = grind (arith, nat_tests)
not-held low offset end (inr below) = grind (arith, nat_tests)

is-held : (low offset end : ℕ) → low ≤ offset → offset < end → (nat_le low offset && not (nat_le end offset)) ≡ true
is-held low offset end above below = grind (arith, nat_tests)

-- what lies below the first is exposed by none
pub none-exposes : (low offset : ℕ) (list : List Live) → AreOrdered low list → offset < low → exposed_in low list offset ≡ false
none-exposes low offset [] ordered lt = refl
none-exposes low offset (live ∷ older) ordered lt =
    ap (λ b. if b then exposes live.shape (pos (offset + 4) -ℤ pos live.base) else exposed_in live.base older offset)
    (not-held low offset (end_of live) (inr lt))
    ∙ none-exposes live.base offset older ordered.2 (omega (arith, lt, ordered.0))

-- the search begins after those whose arguments end below
module _ (offset : ℕ) where
  pub passes-below : (low count : ℕ) (list : List Live) → AreBelow list offset count
      → exposed_in low list offset ≡ exposed_in (low_after low list count) (drop count list) offset
  passes-below low count [] below = ap (λ n. exposed_in low (drop n (let none : List Live = [] in none)) offset) (sym below)
  passes-below low zero (live ∷ older) below = refl
  passes-below low (suc count) (live ∷ older) below =
      ap (λ b. if b then exposes live.shape (pos (offset + 4) -ℤ pos live.base) else exposed_in live.base older offset)
      (not-held low offset (end_of live) (inl below.0))
      ∙ passes-below live.base count older below.1

  ordered-after : (low count : ℕ) (list : List Live) → AreOrdered low list → AreOrdered (low_after low list count) (drop count list)
  ordered-after low zero [] ordered = tt
  ordered-after low (suc count) [] ordered = tt
  ordered-after low zero (live ∷ older) ordered = ordered
  ordered-after low (suc count) (live ∷ older) ordered = ordered-after live.base count older ordered.2

  -- there is no frame there
  pub past-all : (low count : ℕ) (list : List Live) → AreBelow list offset count → length list ≤ count
      → exposed_in low list offset ≡ false
  past-all low count [] below le = refl
  past-all low zero (live ∷ older) below le = absurd (omega (arith, le))
  past-all low (suc count) (live ∷ older) below le =
      ap (λ b. if b then exposes live.shape (pos (offset + 4) -ℤ pos live.base) else exposed_in live.base older offset)
      (not-held low offset (end_of live) (inl below.0))
      ∙ past-all live.base count older below.1 (omega (arith, le))

  -- the byte lies below the one that is found
  pub below-found : (low count : ℕ) (list : List Live) → AreOrdered low list → AreBelow list offset count
      → offset < low_after low list count → exposed_in low list offset ≡ false
  below-found low count list ordered below lt =
      passes-below low count list below
      ∙ none-exposes (low_after low list count) offset (drop count list) (ordered-after low count list ordered) lt

  -- the byte lies in the part of the frame that is found
  pub in-found : (low count : ℕ) (list : List Live) (d : Live) → AreBelow list offset count → count < length list
      → low_after low list count ≤ offset
      → exposed_in low list offset ≡ exposes (get_or list count d).shape (pos (offset + 4) -ℤ pos (get_or list count d).base)
  in-found low count [] d below lt le = absurd (omega (arith, lt))
  in-found low zero (live ∷ older) d below lt le =
      ap (λ b. if b then exposes live.shape (pos (offset + 4) -ℤ pos live.base) else exposed_in live.base older offset)
      (is-held low offset (end_of live) le below)
  in-found low (suc count) (live ∷ older) d below lt le =
      ap (λ b. if b then exposes live.shape (pos (offset + 4) -ℤ pos live.base) else exposed_in live.base older offset)
      (not-held low offset (end_of live) (inl below.0))
      ∙ in-found live.base count older d below.1 (omega (arith, lt)) le

-- where the search begins is the base of the frame before
pub after-some : (low place : ℕ) (list : List Live) (d : Live) → place < length list → low_after low list (suc place) ≡ (get_or list place d).base
after-some low place [] d lt = absurd (omega (arith, lt))
after-some low zero (live ∷ []) d lt = refl
after-some low zero (live ∷ next ∷ older) d lt = refl
after-some low (suc place) (live ∷ older) d lt = after-some live.base place older d (omega (arith, lt))

pub after-none : (low : ℕ) (list : List Live) → low_after low list 0 ≡ low
after-none low [] = refl
after-none low (live ∷ older) = refl

pub low-first : (top : ℕ) (list : List Live) (count low : ℕ) → count ≡ 0 → low ≡ top → low_after top list count ≡ low
low-first top list count low none is = ap (low_after top list) none ∙ after-none top list ∙ sym is

pub low-before : (top : ℕ) (list : List Live) (count low : ℕ) (d : Live) → 0 < count → count ≤ length list
    → low ≡ (get_or list (count - 1) d).base → low_after top list count ≡ low
low-before top list count low d some le is =
    let next : count ≡ suc (count - 1) = omega (arith, some) in
    ap (low_after top list) next ∙ after-some top (count - 1) list d (omega (arith, some, le)) ∙ sym is

-- Halving.

-- the first so many end at the offset or below
abbrev pub EndBelow : List Live → ℕ → ℕ → Type 0
EndBelow list offset zero = Unit {0}
EndBelow [] offset (suc count) = ⊥
EndBelow (live ∷ older) offset (suc count) = (end_of live ≤ offset) × EndBelow older offset count

-- each ends no lower than those before it
ends-later : (low : ℕ) (live : Live) (older : List Live) (place : ℕ) (d : Live) → AreOrdered low (live ∷ older) → place < length older
    → end_of live ≤ end_of (get_or older place d)
ends-later low live [] place d ordered lt = absurd (omega (arith, lt))
ends-later low live (next ∷ older) zero d ordered lt = ordered.1
ends-later low live (next ∷ older) (suc place) d ordered lt =
    let rest = ends-later live.base next older place d ordered.2 (omega (arith, lt)) in
    omega (arith, rest, ordered.1)

pub below-to : (low : ℕ) (list : List Live) (offset place : ℕ) (d : Live) → AreOrdered low list → place < length list
    → end_of (get_or list place d) ≤ offset → EndBelow list offset (suc place)
below-to low [] offset place d ordered lt ends = absurd (omega (arith, lt))
below-to low (live ∷ older) offset zero d ordered lt ends = (ends, tt)
below-to low (live ∷ older) offset (suc place) d ordered lt ends =
    let later = ends-later low live older place d ordered (omega (arith, lt)) in (
      omega (arith, later, ends),
      below-to live.base older offset place d ordered.2 (omega (arith, lt)) ends,
    )

-- so many end below, and the next one above
pub found-below : (list : List Live) (offset count : ℕ) → EndBelow list offset count
    → ((d : Live) → count < length list → offset < end_of (get_or list count d)) → count ≤ length list → AreBelow list offset count
found-below [] offset zero ends next le = refl
found-below [] offset (suc count) ends next le = absurd ends
found-below (live ∷ older) offset zero ends next le = next live (omega arith)
found-below (live ∷ older) offset (suc count) ends next le =
    (ends.0, found-below older offset count ends.1 (λ d lt. next d (omega (arith, lt))) (omega (arith, le)))

-- How far halving has come: those before the first place end below, and the one at the second place, if there is one, above.
pub record IsHalved (list : List Live) (offset low high : ℕ) : Type 0 where
  pub ends : EndBelow list offset low
  pub next : (d : Live) → high < length list → offset < end_of (get_or list high d)
  pub inside : low ≤ high
  pub within : high ≤ length list

module _ (list : List Live) (offset : ℕ) where
  pub halved-first : IsHalved list offset 0 (length list)
  halved-first = record { ends = tt; next = λ d lt. absurd (omega (arith, lt)); inside = omega arith; within = omega arith }

  -- the one in the middle ends below, and so do all before it
  pub halved-below : (low high middle next : ℕ) (d : Live) → IsHalved list offset low high → AreOrdered 0 list → next ≡ suc middle
      → middle < high → nat_le (end_of (get_or list middle d)) offset ≡ true → IsHalved list offset next high
  halved-below low high middle next d halved ordered is lt ends = record {
    ends = subst (EndBelow list offset) (sym is) (below-to 0 list offset middle d ordered (omega (arith, lt, halved.within)) (below (end_of (get_or list middle d)) offset ends));
    next = halved.next;
    inside = omega (arith, is, lt);
    within = halved.within;
  }
    where
      below : (n m : ℕ) → nat_le n m ≡ true → n ≤ m
      below n m is = grind (arith, nat_tests)

  -- the frame in the middle ends above the offset
  pub halved-above : (low high middle : ℕ) (d : Live) → IsHalved list offset low high → low ≤ middle → middle < high
      → nat_le (end_of (get_or list middle d)) offset ≡ false → IsHalved list offset low middle
  halved-above low high middle d halved le lt ends = record {
    ends = halved.ends;
    next = λ other within. subst (λ (l : Live). offset < end_of l) (get_or_default list middle d other within) (above (end_of (get_or list middle d)) offset ends);
    inside = le;
    within = omega (arith, lt, halved.within);
  }
    where
      above : (n m : ℕ) → nat_le n m ≡ false → m < n
      above n m is = grind (arith, nat_tests)

  pub halved-whole : (low high : ℕ) → IsHalved list offset low high → high ≤ low → AreBelow list offset low
  halved-whole low high halved le =
      let same : high ≡ low = omega (arith, le, halved.inside) in
      found-below list offset low halved.ends
      (λ d lt. subst (λ n. offset < end_of (get_or list n d)) same (halved.next d (omega (arith, lt, same))))
      (omega (arith, halved.within, same))

-- Clean runs.

module _ (cpu : Cpu) (image : Image) (program : Program) (memory : List ℕ) (form : AcceptedProgramsAreInForm)
    (is : IsProgramOfFile cpu image program) where
  abbrev layout : Layout
  layout = program.layout

  -- the arguments that a procedure is found to have are bytes of its caller
  arguments-below : (a caller : Activation) (top bp : ℕ) → StandsIn image layout memory a top bp → WaitsFor image layout memory caller a
      → StandsIn image layout memory caller a.frame.base a.caller_bp → told.end_of program a.frame ≤ caller.frame.base
  arguments-below a caller top bp stands waits older =
      let found = form.frames cpu image program a.frame.entry is stands.is_at.is_entry in
      let room =
      form.arguments cpu image program caller.frame.entry caller.at a.frame.entry found.0.args caller.before older.height is
      older.is_at (waits.instr, waits.stands, waits.calls) found.1.arguments in
      let fits = room-below (is_framed image layout caller.frame.entry) older.height (2 * found.0.args) room in
      let least = control-least (is_framed image layout caller.frame.entry) in
      let end : told.end_of program a.frame ≡ a.frame.base + 2 * found.0.args =
      ap (λ f. elim f [ None ↦ a.frame.base | Some f ↦ a.frame.base + 2 * f.args ]) found.1.found in
      omega (arith, end, fits, least, older.top_is)

  end-from-base : (frame : LiveFrame) → frame.base ≤ told.end_of program frame
  end-from-base frame = by (frame_of program frame)
    where
      by : (found : Option Frame) → frame.base ≤ elim found [ None ↦ frame.base | Some f ↦ frame.base + 2 * f.args ]
      by None = omega arith
      by (Some f) = omega arith

  -- the frames that stand are in order
  pub ordered : (activations : List Activation) (lives : List Live) (top bp : ℕ) → Stand image layout memory activations top bp
      → map (λ (a : Activation). a.frame) activations ≡ map live_frame lives
      → AllHaveShapes (shapes_of program.procs.items program.cells.frames.items) lives → AreOrdered top lives
  ordered activations [] top bp stand same known = tt
  ordered [] (live ∷ older) top bp stand same known = cc same
  ordered (a ∷ []) (live ∷ []) top bp stand same known =
      let here : a.frame ≡ live_frame live = cc same in
      let base = ap (λ (f : LiveFrame). f.base) here in
      let stands = newest-stands image layout memory stand in
      (omega (arith, base, stands.top_is), tt, tt)
  ordered (a ∷ []) (live ∷ next ∷ older) top bp stand same known = cc same
  ordered (a ∷ caller ∷ callers) (live ∷ []) top bp stand same known = cc same
  ordered (a ∷ caller ∷ callers) (live ∷ next ∷ older) top bp (called stands waits callers_stand) same known =
      let here : a.frame ≡ live_frame live = cc same in
      let there : caller.frame ≡ live_frame next = cc same in
      let rest : map (λ (c : Activation). c.frame) (caller ∷ callers) ≡ map live_frame (next ∷ older) = cc same in
      let base = ap (λ (f : LiveFrame). f.base) here in
      let below = arguments-below a caller top bp stands waits (newest-stands image layout memory callers_stand) in
      let above = end-from-base caller.frame in
      let end = ap (told.end_of program) here ∙ end-is program live known.0 in
      let next_end = ap (told.end_of program) there ∙ end-is program next known.1.0 in (
        omega (arith, base, stands.top_is),
        omega (arith, below, above, end, next_end),
        subst (λ low. AreOrdered low (next ∷ older)) base
            (ordered (caller ∷ callers) (next ∷ older) a.frame.base a.caller_bp callers_stand rest known.1),
      )
