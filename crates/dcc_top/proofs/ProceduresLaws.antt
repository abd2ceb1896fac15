-- The lines of a program, and those of its first procedures.
use Rattle.std.proofs.Common.{◌≡◌, ℕ, zero, suc, ◌+◌, List, [], ◌∷◌, ◌++◌, take, length, Some, slice_get, refl, sym, ap, ◌∙◌, add-one}
use Rattle.std.proofs.lemmas.List.{append-nil, append_assoc}
use Rattle.std.specs.Prelude.{codes}
use Rattle.std.specs.List.{AllZip}
use Rattle.dcc_machine.specs.declared.cpu.Cpu.{Cpu}
use Rattle.dcc_machine.specs.declared.image.Image.{Image}
use Rattle.dcc_prog.specs.declared.procedure.Proc.{Proc}
use Rattle.dcc_prog.specs.declared.frame.Frame.{Frame}
use Rattle.dcc_prog.specs.declared.frame.Program.{Program}
use Rattle.dcc_prog.specs.Analysed.{IsProgramOf}
use Rattle.dcc_prog.specs.Refused.{IsSound}
use Rattle.dcc_top.specs.Procedures.{summary_of, summary_line, lines_of, procedure_lines, IsWhole, AreProcedureLinesOf}

-- as long lists as the first one
same-length : {X Y : Type 0} (R : X → Y → Type 0) (xs : List X) (ys : List Y) → AllZip R xs ys → length xs ≡ length ys
same-length R [] [] h = refl
same-length R [] (y ∷ ys) h = absurd h
same-length R (x ∷ xs) [] h = absurd h
same-length R (x ∷ xs) (y ∷ ys) h = ap suc (same-length R xs ys h.1)

pub program-whole : (cpu : Cpu) (image : Image) (program : Program) → IsProgramOf cpu image program → IsWhole program
program-whole cpu image program is = record {
  frames = same-length _ program.procs.items program.cells.frames.items is.cells.frames;
  removed = same-length _ program.procs.items program.heights.ret.items is.heights.removed;
}

-- one line more
one-line_more : (procs : List Proc) (frames : List Frame) (removed : List ℕ) (i : ℕ) (proc : Proc) (frame : Frame) (bytes : ℕ)
    → slice_get procs i ≡ Some proc → slice_get frames i ≡ Some frame → slice_get removed i ≡ Some bytes
    → lines_of (take (suc i) procs) frames removed
    ≡ lines_of (take i procs) frames removed ++ (summary_line (summary_of proc frame bytes) ++ codes "\n")
one-line_more (p ∷ ps) (f ∷ fs) (b ∷ bs) zero proc frame bytes p_is f_is b_is =
    let p_same : p ≡ proc = cc in
    let f_same : f ≡ frame = cc in
    let b_same : b ≡ bytes = cc in
    rw (p_same, f_same, b_same) (append-nil (summary_line (summary_of proc frame bytes) ++ codes "\n"))
one-line_more (p ∷ ps) (f ∷ fs) (b ∷ bs) (suc i) proc frame bytes p_is f_is b_is =
    ap (λ lines. (summary_line (summary_of p f b) ++ codes "\n") ++ lines) (one-line_more ps fs bs i proc frame bytes p_is f_is b_is)
    ∙ sym (append_assoc (summary_line (summary_of p f b) ++ codes "\n") (lines_of (take i ps) fs bs) (summary_line (summary_of proc frame bytes) ++ codes "\n"))
one-line_more [] frames removed i proc frame bytes p_is f_is b_is = absurd (let f : ⊥ = cc in f)
one-line_more (p ∷ ps) [] removed i proc frame bytes p_is f_is b_is = absurd (let f : ⊥ = cc in f)
one-line_more (p ∷ ps) (f ∷ fs) [] i proc frame bytes p_is f_is b_is = absurd (let f : ⊥ = cc in f)

-- the line of the next procedure after those of the procedures before it
pub line-added : (procs : List Proc) (frames : List Frame) (removed : List ℕ) (i : ℕ) (proc : Proc) (frame : Frame) (bytes : ℕ) (before now line : List ℕ)
    → slice_get procs i ≡ Some proc → slice_get frames i ≡ Some frame → slice_get removed i ≡ Some bytes
    → before ≡ lines_of (take i procs) frames removed
    → now ≡ before ++ line
    → line ≡ summary_line (summary_of proc frame bytes) ++ codes "\n"
    → now ≡ lines_of (take (i + 1) procs) frames removed
line-added procs frames removed i proc frame bytes before now line p_is f_is b_is so_far added line_is =
    rw add-one (added ∙ ap (λ l. l ++ line) so_far ∙ ap (λ l. lines_of (take i procs) frames removed ++ l) line_is
    ∙ sym (one-line_more procs frames removed i proc frame bytes p_is f_is b_is))

pub procedures-are : (cpu : Cpu) (image : Image) (program : Program) (lines : List ℕ) → IsSound cpu image → IsProgramOf cpu image program → lines ≡ procedure_lines program → AreProcedureLinesOf cpu image lines
procedures-are cpu image program lines sound is listed = record { sound = sound; program = program; is_program = is; listed = listed }
