-- Procedures that are found, each with its frame and its cells.
use Rattle.std.proofs.Common.{◌≡◌, ◌⊎◌, inl, inr, ℕ, zero, suc, ◌==◌, Bool, true, false, List, [], ◌∷◌, map, filter, Contains, Some, None, refl, sym, ap, ◌∙◌, subst, arith}
use Rattle.std.specs.Prelude.{not, if◌then◌else◌, All}
use Rattle.std.proofs.lemmas.Bool.{eqb-true}
use Rattle.std.proofs.lemmas.List.{map-append}
use Rattle.std.proofs.lemmas.List.Elements.{All-filter, All-append, Contains-append_left, Contains-append_right}
use Rattle.dcc_prog.specs.declared.procedure.Layout.{Layout}
use Rattle.dcc_prog.specs.declared.procedure.Proc.{Proc}
use Rattle.dcc_prog.specs.declared.frame.Cell.{Cell}
use Rattle.dcc_prog.specs.declared.frame.Frame.{Frame}
use Rattle.dcc_prog.specs.Trail.{IsEntry}
use Rattle.dcc_prog.specs.Frame.{Span, IsCell}
use Rattle.dcc_prog.specs.Analysed.{bytes_of}
use Rattle.dcc_prog.specs.Clean.{frame_in}
use Rattle.dcc_stack.specs.Accepted.{IsFrameFor}
use Rattle.dcc_stack.proofs.FormLaws.{in-form}
use Rattle.dcc_simulation.specs.Coupled.{Setting, AreNumbered}
use Rattle.dcc_simulation.specs.Procedures.{Procedure, procedures_of, procedure_at, is_accessed, accessed_cells}
use Rattle.dcc_simulation.specs.Procedures.{other_cells, cells_of}
use Rattle.dcc_simulation.specs.Nodes.{procedures_in, IsLifting}

-- Searches.

-- a procedure of these with an entry, and its frame
pub record IsListed (layout : Layout) (procs : List Proc) (frames : List Frame) (entry : ℕ) (p : Procedure) : Type 0 where
  pub entry_is : p.proc.entry ≡ entry
  pub among : Contains procs p.proc
  pub frame_is : frame_in procs frames entry ≡ Some p.frame
  pub delta_is : p.delta ≡ layout.delta

in-later : {X : Type 0} (x y : X) (xs : List X) → Contains xs y → Contains (x ∷ xs) y
in-later x y xs (k, inside, is) = (suc k, omega (arith, inside), is)

module _ (layout : Layout) (entry : ℕ) where
  listed-on : (proc : Proc) (procs : List Proc) (frame : Frame) (frames : List Frame) (p : Procedure) (b : Bool)
      → (proc.entry == entry) ≡ b
      → (if b then Some (record { proc = proc; frame = frame; delta = layout.delta })
      else procedure_at (procedures_of layout procs frames) entry) ≡ Some p
      → (procedure_at (procedures_of layout procs frames) entry ≡ Some p → IsListed layout procs frames entry p)
      → IsListed layout (proc ∷ procs) (frame ∷ frames) entry p
  listed-on proc procs frame frames p true same found later =
      let is : record { proc = proc; frame = frame; delta = layout.delta } ≡ p = cc in
      subst (IsListed layout (proc ∷ procs) (frame ∷ frames) entry) is (record {
        entry_is = eqb-true proc.entry entry same;
        among = (0, omega arith, refl);
        frame_is = ap (λ b. if b then Some frame else frame_in procs frames entry) same;
        delta_is = refl;
      })
  listed-on proc procs frame frames p false other found later =
      let rest = later found in record {
        entry_is = rest.entry_is;
        among = in-later proc p.proc procs rest.among;
        frame_is = ap (λ b. if b then Some frame else frame_in procs frames entry) other ∙ rest.frame_is;
        delta_is = rest.delta_is;
      }

  listed-in : (procs : List Proc) (frames : List Frame) (p : Procedure)
      → procedure_at (procedures_of layout procs frames) entry ≡ Some p
      → IsListed layout procs frames entry p
  listed-in [] frames p found = cc
  listed-in (proc ∷ procs) [] p found = cc
  listed-in (proc ∷ procs) (frame ∷ frames) p found =
      listed-on proc procs frame frames p (proc.entry == entry) refl found (λ later. listed-in procs frames p later)

  -- where a frame is found, a procedure is
  given-in : (procs : List Proc) (frames : List Frame) (frame : Frame) → frame_in procs frames entry ≡ Some frame
      → (p : Procedure) × (procedure_at (procedures_of layout procs frames) entry ≡ Some p)
  given-in [] frames frame found = cc
  given-in (proc ∷ procs) [] frame found = cc
  given-in (proc ∷ procs) (first ∷ frames) frame found =
      by (proc.entry == entry) found (λ later. given-in procs frames frame later)
    where
      by : (b : Bool) → (if b then Some first else frame_in procs frames entry) ≡ Some frame
          → (frame_in procs frames entry ≡ Some frame
          → (p : Procedure) × (procedure_at (procedures_of layout procs frames) entry ≡ Some p))
          → (p : Procedure)
          × ((if b then Some (record { proc = proc; frame = first; delta = layout.delta })
          else procedure_at (procedures_of layout procs frames) entry) ≡ Some p)
      by true is later = (_, refl)
      by false is later = later is

-- Cells.

first-or-later : {X : Type 0} (x y : X) (xs : List X) → Contains (x ∷ xs) y → (x ≡ y) ⊎ Contains xs y
first-or-later x y xs (zero, inside, is) = inl is
first-or-later x y xs (suc k, inside, is) = inr (k, omega (arith, inside), is)

-- an element passes a test, or it doesn't
module _ {X Y : Type 0} (f : X → Y) (test : X → Bool) (y : Y) where
  abbrev passing : List X → List Y
  passing xs = map f (filter test xs)

  abbrev others : List X → List Y
  others xs = map f (filter (λ x. not (test x)) xs)

  abbrev Splits : X → List X → Bool → Type 0
  Splits x xs b =
      Contains (map f (if b then x ∷ filter test xs else filter test xs)) y
      ⊎ Contains (map f (if not b then x ∷ filter (λ z. not (test z)) xs else filter (λ z. not (test z)) xs)) y

  split-map : (xs : List X) → Contains (map f xs) y → Contains (passing xs) y ⊎ Contains (others xs) y
  split-map [] (k, inside, is) = absurd (omega (arith, inside))
  split-map (x ∷ xs) among =
      elim (first-or-later (f x) y (map f xs) among) [
        | inl same ↦ here (test x) same
        | inr later ↦ after (test x) (split-map xs later)
      ]
    where
      here : (b : Bool) → f x ≡ y → Splits x xs b
      here true same = inl (0, omega arith, same)
      here false same = inr (0, omega arith, same)

      after : (b : Bool) → Contains (passing xs) y ⊎ Contains (others xs) y → Splits x xs b
      after true (inl one) = inl (in-later (f x) y (passing xs) one)
      after true (inr other) = inr other
      after false (inl one) = inl one
      after false (inr other) = inr (in-later (f x) y (others xs) other)

cells-among : (p : Procedure) (span : Span) → Contains (map bytes_of p.frame.cells.items) span
    → Contains (map bytes_of (cells_of p)) span
cells-among p span among =
    subst (λ l. Contains l span)
    (sym (map-append bytes_of (accessed_cells p.proc p.frame) (other_cells p.proc p.frame)))
    (elim (split-map bytes_of (λ cell. is_accessed p.proc p.frame (bytes_of cell)) span p.frame.cells.items among) [
      | inl one ↦
          Contains-append_left (map bytes_of (accessed_cells p.proc p.frame))
          (map bytes_of (other_cells p.proc p.frame)) span one
      | inr other ↦
          Contains-append_right (map bytes_of (accessed_cells p.proc p.frame))
          (map bytes_of (other_cells p.proc p.frame)) span other
    ])

cells-all : (P : Cell → Type 0) (p : Procedure) → All P p.frame.cells.items → All P (cells_of p)
cells-all P p all =
    All-append P (accessed_cells p.proc p.frame) (other_cells p.proc p.frame)
    (All-filter (λ cell. is_accessed p.proc p.frame (bytes_of cell)) P p.frame.cells.items all)
    (All-filter (λ cell. not (is_accessed p.proc p.frame (bytes_of cell))) P p.frame.cells.items all)

-- What is lifted.

module _ (e : Setting) (lifting : IsLifting e) (entry : ℕ) where
  abbrev procs : List Proc
  procs = e.program.procs.items

  abbrev frames : List Frame
  frames = e.program.cells.frames.items

  pub listed : (p : Procedure) → procedure_at (procedures_in e.program) entry ≡ Some p
      → IsListed e.program.layout procs frames entry p
  listed p found = listed-in e.program.layout entry procs frames p found

  pub cells-are : (p : Procedure) → procedure_at (procedures_in e.program) entry ≡ Some p → e.cells entry ≡ cells_of p
  cells-are p found =
      lifting.cells entry ∙ ap (λ o. elim o [ None ↦ [] | Some q ↦ cells_of q ]) found

  module _ (is_entry : IsEntry e.image e.program.layout entry) where
    -- each procedure that is reached is found
    pub procedure-there : (p : Procedure) × (procedure_at (procedures_in e.program) entry ≡ Some p)
    procedure-there =
        let frame = in-form.frames e.cpu e.image e.program entry lifting.of_file is_entry in
        given-in e.program.layout entry procs frames frame.0 frame.1.found

    -- the frame of a procedure is the one that is found for it
    pub frame-for : (p : Procedure) → procedure_at (procedures_in e.program) entry ≡ Some p
        → IsFrameFor e.image e.program entry p.frame
    frame-for p found =
        let frame = in-form.frames e.cpu e.image e.program entry lifting.of_file is_entry in
        let same : frame.0 ≡ p.frame = one-frame (sym frame.1.found ∙ (listed p found).frame_is) in
        subst (IsFrameFor e.image e.program entry) same frame.1
      where
        one-frame : {f g : Frame} → Some f ≡ Some g → f ≡ g
        one-frame is = cc

pub numbered : (e : Setting) → IsLifting e → AreNumbered e
numbered e lifting = record {
  cells = λ entry is_entry.
      let p = procedure-there e lifting entry is_entry in
      subst (All (λ cell. IsCell e.image e.program.layout entry (bytes_of cell)))
      (sym (cells-are e lifting entry p.0 p.1))
      (cells-all (λ cell. IsCell e.image e.program.layout entry (bytes_of cell)) p.0
      (frame-for e lifting entry is_entry p.0 p.1).cells);
  every = λ entry span is_entry is hidden.
      let p = procedure-there e lifting entry is_entry in
      subst (λ l. Contains (map bytes_of l) span) (sym (cells-are e lifting entry p.0 p.1))
      (cells-among p.0 span ((frame-for e lifting entry is_entry p.0 p.1).every span is));
}
