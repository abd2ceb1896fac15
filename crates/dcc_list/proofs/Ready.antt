-- What the analyses of a program say of its listing.
use Rattle.std.proofs.Common.{◌≡◌, ℕ, suc, ◌+◌, ◌-◌, ◌≤◌, ◌⊎◌, min, ◌==◌, Bool, true, false, ◌||◌, List, [], ◌∷◌, length, take, drop, All, Some, refl, sym, ap, ◌∙◌, subst, inl, inr, arith, length-drop, length-take}
use Rattle.std.specs.List.{list_any, AllZip}
use Rattle.std.proofs.lemmas.Bool.Decides.{nat_tests}
use Rattle.std.proofs.lemmas.List.{drop-take, take-take}
use Rattle.dcc_machine.specs.declared.cpu.Cpu.{Cpu}
use Rattle.dcc_machine.specs.declared.image.Image.{Image}
use Rattle.dcc_machine.specs.declared.instr.Instr.{Instr}
use Rattle.dcc_machine.specs.Code.{code_of}
use Rattle.dcc_machine.specs.Table.{instruction_at}
use Rattle.dcc_machine.proofs.TableLaws.{instruction-length, instruction-prefix}
use Rattle.dcc_prog.specs.declared.procedure.Layout.{Layout}
use Rattle.dcc_prog.specs.declared.procedure.Node.{Node}
use Rattle.dcc_prog.specs.declared.procedure.Proc.{Proc}
use Rattle.dcc_prog.specs.declared.frame.Program.{Program}
use Rattle.dcc_prog.specs.Analysed.{IsProgramOf}
use Rattle.dcc_prog.specs.Found.{IsFound, IsNodeFound}
use Rattle.dcc_prog.specs.Layout.{IsRun}
use Rattle.dcc_prog.specs.Trail.{instruction_in}
use Rattle.dcc_list.specs.declared.marks.Marks.{Marks}
use Rattle.dcc_list.specs.Listed.{is_among, offsets_from, has_node}
use Rattle.dcc_list.specs.MarkViews.{IsWhole, AreMarks, IsReady}

same-length : {X Y : Type 0} (R : X → Y → Type 0) (xs : List X) (ys : List Y) → AllZip R xs ys → length xs ≡ length ys
same-length R [] [] h = refl
same-length R [] (y ∷ ys) h = absurd h
same-length R (x ∷ xs) [] h = absurd h
same-length R (x ∷ xs) (y ∷ ys) h = ap suc (same-length R xs ys h.1)

pub program-whole : (cpu : Cpu) (image : Image) (program : Program) → IsProgramOf cpu image program → IsWhole image program
program-whole cpu image program is = record {
  frames = same-length _ program.procs.items program.cells.frames.items is.cells.frames;
  removed = same-length _ program.procs.items program.heights.ret.items is.heights.removed;
  code_below = let below = is.layout.small.code_below in omega (arith, below);
}

-- an instruction stands at the offset, on the processor, in the code
abbrev Stands : Cpu → List ℕ → ℕ → Type 0
Stands cpu code at = (instr : Instr) × (instruction_at cpu at (drop at code) ≡ Some instr)

eq_of_test : (a b : ℕ) → a == b ≡ true → a ≡ b
eq_of_test a b h = grind (arith, nat_tests)

either : (a b : Bool) → a || b ≡ true → (a ≡ true) ⊎ (b ≡ true)
either true b h = inl refl
either false b h = inr h

run-stands : (cpu : Cpu) (code : List ℕ) (first at : ℕ) (prelude : List Instr) → IsRun cpu code first prelude
    → is_among at (offsets_from first prelude) ≡ true → Stands cpu code at
run-stands cpu code first at [] run h = absurd (let f : ⊥ = cc in f)
run-stands cpu code first at (instr ∷ rest) run h = elim (either (first == at) (is_among at (offsets_from (first + instr.len) rest)) h) [
  | inl here ↦ subst (Stands cpu code) (eq_of_test first at here) (instr, (run.0).found)
  | inr later ↦ run-stands cpu code (first + instr.len) at rest run.1 later
]

node-stands : (image : Image) (layout : Layout) (entry at : ℕ) (nodes : List (ℕ × Node)) → All (IsNodeFound image layout entry) nodes
    → list_any (λ (node : ℕ × Node). node.0 == at) nodes ≡ true → (instr : Instr) × (instruction_in image layout at ≡ Some instr)
node-stands image layout entry at [] found h = absurd (let f : ⊥ = cc in f)
node-stands image layout entry at (node ∷ nodes) found h = elim (either (node.0 == at) (list_any (λ (node : ℕ × Node). node.0 == at) nodes) h) [
  | inl here ↦
      let is : IsNodeFound image layout entry node = found 0 node (omega arith) in
      subst (λ n. (instr : Instr) × (instruction_in image layout n ≡ Some instr)) (eq_of_test node.0 at here) (node.1.instr, is.instr)
  | inr later ↦ node-stands image layout entry at nodes (λ k d l. found (suc k) d (omega arith)) later
]

proc-stands : (image : Image) (layout : Layout) (at : ℕ) (procs : List Proc) → All (IsFound image layout) procs
    → list_any (has_node at) procs ≡ true → (instr : Instr) × (instruction_in image layout at ≡ Some instr)
proc-stands image layout at [] found h = absurd (let f : ⊥ = cc in f)
proc-stands image layout at (proc ∷ procs) found h = elim (either (has_node at proc) (list_any (has_node at) procs) h) [
  | inl here ↦
      let is : IsFound image layout proc = found 0 proc (omega arith) in
      node-stands image layout proc.entry at proc.nodes.entries is.nodes here
  | inr later ↦ proc-stands image layout at procs (λ k d l. found (suc k) d (omega arith)) later
]

-- an instruction of the code below an end is one of the code
pub in_code : (cpu : Cpu) (code : List ℕ) (end at : ℕ) (instr : Instr) → instruction_at cpu at (drop at (take end code)) ≡ Some instr
    → instruction_at cpu at (drop at code) ≡ Some instr
in_code cpu code end at instr found =
    let bounds = instruction-length cpu at (drop at (take end code)) instr found in
    let size : length (drop at (take end code)) ≡ min end (length code) - at = length-drop at (take end code) ∙ ap (λ n. n - at) (length-take end code) in
    let rest : ℕ = end - at in
    let split : end ≡ at + rest = omega (arith, bounds.0, bounds.1, size) in
    let less : instr.len ≤ rest = omega (arith, bounds.0, bounds.1, size) in
    let cut : drop at (take end code) ≡ take rest (drop at code) = ap (λ n. drop at (take n code)) split ∙ drop-take at rest code in
    let same : take instr.len (drop at code) ≡ take instr.len (drop at (take end code)) =
    sym (ap (take instr.len) cut ∙ take-take instr.len rest (drop at code) less) in
    instruction-prefix cpu at (drop at (take end code)) (drop at code) instr found same

pub ready : (image : Image) (program : Program) (found : IsProgramOf program.layout.cpu image program) (marks : Marks)
    → AreMarks image program (found.layout).prelude marks → IsReady image program (found.layout).prelude marks
ready image program found marks are =
    let prelude = (found.layout).prelude in
    let cpu = program.layout.cpu in
    let of_node : (at : ℕ) → list_any (has_node at) program.procs.items ≡ true → Stands cpu (code_of image) at = λ at h.
    let s = proc-stands image program.layout at program.procs.items (found.procs).found h in
    (s.0, in_code cpu (code_of image) program.layout.code_end at s.0 s.1) in
    record {
      right = are;
      stand = λ at h. elim (either (is_among at (offsets_from image.ip prelude)) (list_any (has_node at) program.procs.items) h) [
        | inl early ↦ run-stands cpu (code_of image) image.ip at prelude ((found.layout).is_prelude).run early
        | inr late ↦ of_node at late
      ];
    }
