-- Lines one after another, and the lines of procedures.
use Rattle.std.proofs.Common.{◌≡◌, ℕ, zero, suc, ◌+◌, ◌==◌, Bool, true, false, if◌then◌else◌, List, [], ◌∷◌, ◌++◌, take, slice_get, Some, codes, refl, sym, ap, ◌∙◌, append_assoc, append-nil, add-one, ◌≢◌, arith}
use Rattle.dcc_prog.specs.declared.procedure.Proc.{Proc}
use Rattle.dcc_prog.specs.declared.frame.Frame.{Frame}
use Rattle.std.proofs.lemmas.Bool.Decides.{nat_tests}
use Rattle.dcc_machine.specs.declared.image.Image.{Image}
use Rattle.dcc_prog.specs.declared.frame.Program.{Program}
use Rattle.dcc_spelled.specs.Hex.{hex_word}
use Rattle.dcc_list.specs.Text.{place_line, text_of}
use Rattle.dcc_list.specs.Listed.{procedure_line, procedure_lines, headings, is_labelled, lines_for_people}

pub text_of-append : (xs ys : List (List ℕ)) → text_of (xs ++ ys) ≡ text_of xs ++ text_of ys
text_of-append [] ys = refl
text_of-append (x ∷ xs) ys =
    ap (λ (t : List ℕ). x ++ (codes "\n" ++ t)) (text_of-append xs ys)
    ∙ ap (λ (t : List ℕ). x ++ t) (sym (append_assoc (codes "\n") (text_of xs) (text_of ys)))
    ∙ sym (append_assoc x (codes "\n" ++ text_of xs) (text_of ys))

-- the line of a procedure, where it begins at the offset
abbrev pub line_if : Bool → List ℕ → List (List ℕ)
line_if begins line = if begins then line ∷ [] else []

procedure_lines-more : (start at : ℕ) (procs : List Proc) (frames : List Frame) (removed : List ℕ) (i : ℕ) (proc : Proc) (frame : Frame) (bytes : ℕ)
    → slice_get procs i ≡ Some proc → slice_get frames i ≡ Some frame → slice_get removed i ≡ Some bytes
    → procedure_lines start at (take (suc i) procs) frames removed
    ≡ procedure_lines start at (take i procs) frames removed ++ line_if (proc.entry == at) (procedure_line start proc frame.args bytes)
procedure_lines-more start at (p ∷ ps) (f ∷ fs) (b ∷ bs) zero proc frame bytes p_is f_is b_is =
    let p_same : p ≡ proc = cc in
    let f_same : f ≡ frame = cc in
    let b_same : b ≡ bytes = cc in
    rw (p_same, f_same, b_same) (append-nil (line_if (proc.entry == at) (procedure_line start proc frame.args bytes)))
procedure_lines-more start at (p ∷ ps) (f ∷ fs) (b ∷ bs) (suc i) proc frame bytes p_is f_is b_is =
    ap (λ (lines : List (List ℕ)). line_if (p.entry == at) (procedure_line start p f.args b) ++ lines)
    (procedure_lines-more start at ps fs bs i proc frame bytes p_is f_is b_is)
    ∙ sym (append_assoc (line_if (p.entry == at) (procedure_line start p f.args b)) (procedure_lines start at (take i ps) fs bs) (line_if (proc.entry == at) (procedure_line start proc frame.args bytes)))
procedure_lines-more start at [] frames removed i proc frame bytes p_is f_is b_is = absurd (let f : ⊥ = cc in f)
procedure_lines-more start at (p ∷ ps) [] removed i proc frame bytes p_is f_is b_is = absurd (let f : ⊥ = cc in f)
procedure_lines-more start at (p ∷ ps) (f ∷ fs) [] i proc frame bytes p_is f_is b_is = absurd (let f : ⊥ = cc in f)

-- one procedure more
pub procedure-added : (start at : ℕ) (procs : List Proc) (frames : List Frame) (removed : List ℕ) (i : ℕ) (proc : Proc) (frame : Frame) (bytes : ℕ) (first before now : List ℕ)
    → slice_get procs i ≡ Some proc → slice_get frames i ≡ Some frame → slice_get removed i ≡ Some bytes
    → before ≡ first ++ text_of (procedure_lines start at (take i procs) frames removed)
    → now ≡ before ++ text_of (line_if (proc.entry == at) (procedure_line start proc frame.args bytes))
    → now ≡ first ++ text_of (procedure_lines start at (take (i + 1) procs) frames removed)
procedure-added start at procs frames removed i proc frame bytes first before now p_is f_is b_is so_far added =
    let lines = procedure_lines start at (take i procs) frames removed in
    let more = line_if (proc.entry == at) (procedure_line start proc frame.args bytes) in
    rw add-one (added ∙ ap (λ (t : List ℕ). t ++ text_of more) so_far ∙ append_assoc first (text_of lines) (text_of more)
    ∙ ap (λ (t : List ℕ). first ++ t) (sym (text_of-append lines more) ∙ ap text_of (sym (procedure_lines-more start at procs frames removed i proc frame bytes p_is f_is b_is))))

pub lines-labelled : (image : Image) (program : Program) (at : ℕ) → is_labelled image program at ≡ true
    → lines_for_people image program at ≡ headings image program at ++ place_line at ∷ []
lines-labelled image program at h = rw h refl

-- the test of a line that is there, and of one that isn't
pub line_if-true : (line : List ℕ) (a b : ℕ) → a ≡ b → line_if (a == b) line ≡ line ∷ []
line_if-true line a b e = let t : a == b ≡ true = grind (arith, nat_tests) in rw t refl

pub line_if-false : (line : List ℕ) (a b : ℕ) → a ≢ b → line_if (a == b) line ≡ []
line_if-false line a b e = let t : a == b ≡ false = grind (arith, nat_tests) in rw t refl

-- three lists of lines are appended
pub three-appended : (t t1 t2 t3 : List ℕ) (a b c : List (List ℕ)) → t1 ≡ t ++ text_of a → t2 ≡ t1 ++ text_of b → t3 ≡ t2 ++ text_of c
    → t3 ≡ t ++ text_of (a ++ (b ++ c))
three-appended t t1 t2 t3 a b c p q r =
    r ∙ ap (λ (x : List ℕ). x ++ text_of c) (q ∙ ap (λ (x : List ℕ). x ++ text_of b) p ∙ append_assoc t (text_of a) (text_of b))
    ∙ append_assoc t (text_of a ++ text_of b) (text_of c)
    ∙ ap (λ (x : List ℕ). t ++ x) (append_assoc (text_of a) (text_of b) (text_of c)
    ∙ ap (λ (x : List ℕ). text_of a ++ x) (sym (text_of-append b c)) ∙ sym (text_of-append a (b ++ c)))

-- lines, and then the offset, are appended
pub label-appended : (t t1 t2 t3 : List ℕ) (a : List (List ℕ)) (at : ℕ) → t1 ≡ t ++ text_of a → t2 ≡ t1 ++ hex_word at
    → t3 ≡ t2 ++ (58 ∷ 10 ∷ []) → t3 ≡ t ++ text_of (a ++ place_line at ∷ [])
label-appended t t1 t2 t3 a at p q r =
    r ∙ ap (λ (x : List ℕ). x ++ (58 ∷ 10 ∷ [])) (q ∙ ap (λ (x : List ℕ). x ++ hex_word at) p ∙ append_assoc t (text_of a) (hex_word at))
    ∙ append_assoc t (text_of a ++ hex_word at) (58 ∷ 10 ∷ [])
    ∙ ap (λ (x : List ℕ). t ++ x) (append_assoc (text_of a) (hex_word at) (58 ∷ 10 ∷ []) ∙ sym (text_of-append a (place_line at ∷ [])))
