-- The instruction lines of a program's listing tell the program's instructions, each but those inside others.
use Rattle.std.proofs.Common.{◌≡◌, ℕ, zero, suc, ◌+◌, ◌-◌, ◌*◌, ◌<◌, ◌≤◌, Bool, true, false, List, [], ◌∷◌, ◌++◌, length, take, drop, Some, None, All, refl, sym, ap, ◌∙◌, subst, inl, inr, add-zero, arith, min, length-drop, length-take}
use Rattle.std.specs.Prelude.{◌⊎◌, ◌==◌, ◌||◌, ◌&&◌, nat_le, nat_lt, if◌then◌else◌, Contains, slice_index_or}
use Rattle.std.specs.List.{AllByRecursion, list_any}
use Rattle.std.proofs.lemmas.Bool.Decides.{nat_tests}
use Rattle.std.proofs.lemmas.List.{length-take-le}
use Rattle.dcc_machine.specs.declared.cpu.Cpu.{Cpu}
use Rattle.dcc_machine.specs.declared.image.Image.{Image}
use Rattle.dcc_machine.specs.declared.instr.Op.{Op}
use Rattle.dcc_machine.specs.declared.instr.Instr.{Instr}
use Rattle.dcc_machine.specs.Code.{code_of}
use Rattle.dcc_machine.specs.Load.{load_segment}
use Rattle.dcc_machine.specs.MzImage.{IsLoaded}
use Rattle.dcc_machine.specs.Table.{instruction_at}
use Rattle.dcc_machine.proofs.MzImageLaws.{cs-loaded, code_len-loaded, All-loaded}
use Rattle.dcc_machine.proofs.TableLaws.{instruction-length}
use Rattle.dcc_prog.specs.declared.procedure.Node.{Node}
use Rattle.dcc_prog.specs.declared.procedure.Proc.{Proc}
use Rattle.dcc_prog.specs.declared.frame.Program.{Program}
use Rattle.dcc_prog.specs.Analysed.{IsProgramOf}
use Rattle.dcc_prog.specs.Found.{IsFound, IsNodeFound}
use Rattle.dcc_prog.specs.Layout.{IsRun, IsPrelude}
use Rattle.dcc_prog.proofs.PreludeLaws.{prelude-once}
use Rattle.dcc_encode.specs.Encoding.{IsEncoding}
use Rattle.dcc_list.specs.Text.{IsOffset, AreBytes, StandsFor, bytes_line, bytes as gives_bytes}
use Rattle.dcc_list.specs.Listed.{is_among, offsets_from, has_node, is_listed, lines_for_people, offset_of, people_at, listed_at, labelled_at, begins_line, IsInstructionLine, Lists, at_end, instruction as listed_instruction, bytes as listed_bytes, standard as standard_line, odd as odd_instruction, IsListing}
use Rattle.dcc_list.proofs.Ready.{in_code}
use Rattle.dcc_list.proofs.Standing.{IsQuiet, people-quiet, people-at-quiet, line-given, part_bytes, instruction_within, offset_of-is, listing-begins}
use Rattle.dcc_asm.specs.Instructions.{IsAmong, IsInstructionOf, of_prelude, of_procedure, TellsInstruction, standard as tells_standard, odd as tells_odd, TellInstruction, HasInstruction}
use Rattle.dcc_asm.specs.Laws.{ProgramHasOneInstruction, InstructionLinesAreOfProgram, InstructionsHaveLines}
use Rattle.dcc_asm.proofs.StepLaws.{offset-same}
use Rattle.dcc_asm.proofs.LineLaws.{gives-unique}
use Rattle.dcc_asm.proofs.InstructionLaws.{is-told, told-some, bytes-not_told, moved, told-in}

-- Lists ---------------------------------------------------------------------------------------

either : (a b : Bool) → a || b ≡ true → (a ≡ true) ⊎ (b ≡ true)
either true b h = inl refl
either false b h = inr h

or_left : (a b : Bool) → a ≡ true → a || b ≡ true
or_left true b h = refl
or_left false b h = absurd (let f : ⊥ = cc in f)

or_right : (a b : Bool) → b ≡ true → a || b ≡ true
or_right true b h = refl
or_right false b h = h

eq_of_test : (a b : ℕ) → a == b ≡ true → a ≡ b
eq_of_test a b h = grind (arith, nat_tests)

test_of_eq : (a b : ℕ) → a ≡ b → a == b ≡ true
test_of_eq a b h = grind (arith, nat_tests, h)

of-all : {X : Type 0} (P : X → Type 0) (xs : List X) (x : X) → All P xs → Contains xs x → P x
of-all P xs x h c = subst P c.2 (h c.0 x c.1)

any-of : {X : Type 0} (test : X → Bool) (xs : List X) (x : X) (k : ℕ) → k < length xs → slice_index_or xs k x ≡ x → test x ≡ true
    → list_any test xs ≡ true
any-of test [] x k l e h = absurd (omega arith)
any-of test (y ∷ ys) x zero l e h = or_left (test y) (list_any test ys) (ap test e ∙ h)
any-of test (y ∷ ys) x (suc k) l e h = or_right (test y) (list_any test ys) (any-of test ys x k (omega arith) e h)

found-by : {X : Type 0} (test : X → Bool) (xs : List X) → list_any test xs ≡ true → (x : X) × (Contains xs x) × (test x ≡ true)
found-by test [] h = absurd (let f : ⊥ = cc in f)
found-by test (y ∷ ys) h = elim (either (test y) (list_any test ys) h) [
  | inl here ↦ (y, (0, omega arith, refl), here)
  | inr later ↦
      let found = found-by test ys later in
      let c = found.1 in
      (found.0, (suc c.0, let l = c.1 in omega (arith, l), c.2), found.2)
]

-- The program's instructions -----------------------------------------------------------------

among-stands : (cpu : Cpu) (code : List ℕ) (from at : ℕ) (prelude : List Instr) (instr : Instr) → IsRun cpu code from prelude
    → IsAmong from prelude at instr → instruction_at cpu at (drop at code) ≡ Some instr
among-stands cpu code from at [] instr run among = absurd among
among-stands cpu code from at (first ∷ rest) instr run (inl here) =
    sym (ap (λ n. instruction_at cpu n (drop n code)) here.0) ∙ (run.0).found ∙ ap Some here.1
among-stands cpu code from at (first ∷ rest) instr run (inr later) = among-stands cpu code (from + first.len) at rest instr run.1 later

among-listed : (from at : ℕ) (prelude : List Instr) (instr : Instr) → IsAmong from prelude at instr → is_among at (offsets_from from prelude) ≡ true
among-listed from at [] instr among = absurd among
among-listed from at (first ∷ rest) instr (inl here) = or_left (from == at) (is_among at (offsets_from (from + first.len) rest)) (test_of_eq from at here.0)
among-listed from at (first ∷ rest) instr (inr later) =
    or_right (from == at) (is_among at (offsets_from (from + first.len) rest)) (among-listed (from + first.len) at rest instr later)

listed-among : (from at : ℕ) (prelude : List Instr) → is_among at (offsets_from from prelude) ≡ true → (instr : Instr) × IsAmong from prelude at instr
listed-among from at [] h = absurd (let f : ⊥ = cc in f)
listed-among from at (first ∷ rest) h = elim (either (from == at) (is_among at (offsets_from (from + first.len) rest)) h) [
  | inl here ↦ (first, inl (eq_of_test from at here, refl))
  | inr later ↦ let found = listed-among (from + first.len) at rest later in (found.0, inr found.1)
]

node-stands : (image : Image) (program : Program) (at : ℕ) (proc : Proc) (node : Node) → IsProgramOf program.layout.cpu image program
    → Contains program.procs.items proc → Contains proc.nodes.entries (at, node)
    → instruction_at program.layout.cpu at (drop at (code_of image)) ≡ Some node.instr
node-stands image program at proc node is c d =
    let found : IsFound image program.layout proc = of-all (IsFound image program.layout) program.procs.items proc (is.procs).found c in
    let told : IsNodeFound image program.layout proc.entry (at, node) = of-all (IsNodeFound image program.layout proc.entry) proc.nodes.entries (at, node) found.nodes d in
    in_code program.layout.cpu (code_of image) program.layout.code_end at node.instr told.instr

-- an instruction of the program stands in the code
instruction-stands : (image : Image) (program : Program) (at : ℕ) (instr : Instr) → IsProgramOf program.layout.cpu image program
    → IsInstructionOf image program at instr → instruction_at program.layout.cpu at (drop at (code_of image)) ≡ Some instr
instruction-stands image program at instr is (of_prelude prelude p among) = among-stands program.layout.cpu (code_of image) image.ip at prelude instr p.run among
instruction-stands image program at instr is (of_procedure proc node c d e) = node-stands image program at proc node is c d ∙ ap Some e

pub one_instruction : ProgramHasOneInstruction
one_instruction image program at instr other loaded is h k =
    let same : Some instr ≡ Some other = sym (instruction-stands image program at instr is h) ∙ instruction-stands image program at other is k in
    cc

instruction-listed : (image : Image) (program : Program) (prelude : List Instr) (at : ℕ) (instr : Instr)
    → IsPrelude program.layout.cpu (code_of image) image.ip prelude → IsInstructionOf image program at instr → is_listed image program prelude at ≡ true
instruction-listed image program prelude at instr p (of_prelude other q among) =
    let same : other ≡ prelude = prelude-once program.layout.cpu (code_of image) image.ip other prelude q p in
    or_left (is_among at (offsets_from image.ip prelude)) (list_any (has_node at) program.procs.items)
    (among-listed image.ip at prelude instr (subst (λ (x : List Instr). IsAmong image.ip x at instr) same among))
instruction-listed image program prelude at instr p (of_procedure proc node c d e) =
    or_right (is_among at (offsets_from image.ip prelude)) (list_any (has_node at) program.procs.items)
    (any-of (has_node at) program.procs.items proc c.0 c.1 c.2
    (any-of (λ (n : ℕ × Node). n.0 == at) proc.nodes.entries (at, node) d.0 d.1 d.2 (test_of_eq at at refl)))

-- an instruction in the code at an offset at which one of the program begins is the program's
listed-instruction : (image : Image) (program : Program) (prelude : List Instr) (at : ℕ) (instr : Instr) → IsProgramOf program.layout.cpu image program
    → IsPrelude program.layout.cpu (code_of image) image.ip prelude → is_listed image program prelude at ≡ true
    → instruction_at program.layout.cpu at (drop at (code_of image)) ≡ Some instr → IsInstructionOf image program at instr
listed-instruction image program prelude at instr is p listed stands =
    elim (either (is_among at (offsets_from image.ip prelude)) (list_any (has_node at) program.procs.items) listed) [
      | inl early ↦
          let found = listed-among image.ip at prelude early in
          let same : Some found.0 ≡ Some instr = sym (among-stands program.layout.cpu (code_of image) image.ip at prelude found.0 p.run found.1) ∙ stands in
          let one : found.0 ≡ instr = cc in
          of_prelude prelude p (subst (IsAmong image.ip prelude at) one found.1)
      | inr late ↦
          let owner = found-by (has_node at) program.procs.items late in
          let entry = found-by (λ (n : ℕ × Node). n.0 == at) (owner.0).nodes.entries owner.2 in
          let offset : entry.0 ≡ (at, (entry.0).1) = ap (λ n. (n, (entry.0).1)) (eq_of_test (entry.0).0 at entry.2) in
          let there : Contains (owner.0).nodes.entries (at, (entry.0).1) = subst (Contains (owner.0).nodes.entries) offset entry.1 in
          let same : Some ((entry.0).1).instr ≡ Some instr = sym (node-stands image program at owner.0 (entry.0).1 is owner.1 there) ∙ stands in
          of_procedure owner.0 (entry.0).1 owner.1 there (let e : ((entry.0).1).instr ≡ instr = cc in e)
    ]

-- Lines for people ---------------------------------------------------------------------------

none-told : (cpu : Cpu) (at : ℕ) (op : Op) (told : List ℕ) → IsEncoding cpu at op told → told ≡ [] → ⊥
none-told cpu at op told e none =
    let some = told-some cpu at op told e in
    let size : length told ≡ 0 = ap length none in
    omega (arith, some, size)

-- behind lines that give nothing
quiet-skip : (cpu : Cpu) (cs at : ℕ) (op : Op) (told : List ℕ) (place : ℕ) (people rest : List (List ℕ)) → AllByRecursion (IsQuiet cpu cs place) people
    → TellInstruction cpu cs at op told place (people ++ rest) → TellInstruction cpu cs at op told place rest
quiet-skip cpu cs at op told place [] rest quiet t = t
quiet-skip cpu cs at op told place (line ∷ people) rest quiet (inl t) =
    let is = is-told cpu cs place at op told line t in
    absurd (none-told cpu at op told is.encoding (gives-unique cpu cs place line told [] is.gives (quiet.0).gives))
quiet-skip cpu cs at op told place (line ∷ people) rest quiet (inr t) =
    let none : place + length t.0 ≡ place = ap (λ (x : List ℕ). place + length x) (gives-unique cpu cs place line t.0 [] t.1 (quiet.0).gives) ∙ add-zero place in
    quiet-skip cpu cs at op told place people rest quiet.1 (moved cpu cs at op told (place + length t.0) place (people ++ rest) none t.2)

quiet-past : (cpu : Cpu) (cs at : ℕ) (op : Op) (told : List ℕ) (place : ℕ) (people rest : List (List ℕ)) → AllByRecursion (IsQuiet cpu cs place) people
    → TellInstruction cpu cs at op told place rest → TellInstruction cpu cs at op told place (people ++ rest)
quiet-past cpu cs at op told place [] rest quiet t = t
quiet-past cpu cs at op told place (line ∷ people) rest quiet t =
    inr ([], (quiet.0).gives, moved cpu cs at op told place (place + 0) (people ++ rest) (sym (add-zero place)) (quiet-past cpu cs at op told place people rest quiet.1 t))

-- The lines of the image's bytes -------------------------------------------------------------

part-length : (xs : List ℕ) (place count : ℕ) → place + count ≤ length xs → length (take count (drop place xs)) ≡ count
part-length xs place count l = length-take-le count (drop place xs) (let d = length-drop place xs in omega (arith, d, l))

-- an instruction in the code, of which an instruction begins at the offset
record Stands (image : Image) (program : Program) (prelude : List Instr) (at : ℕ) (op : Op) (told : List ℕ) : Type 0 where
  listed : is_listed image program prelude at ≡ true
  stands : instruction_at program.layout.cpu at (drop at (code_of image)) ≡ Some (record { op = op; len = length told })

-- what the line of an instruction at a place tells
line-stands : (image : Image) (program : Program) (prelude : List Instr) → IsLoaded image → (place from : ℕ) (instr : Instr) (line : List ℕ)
    → offset_of image.cs place ≡ Some from → is_listed image program prelude from ≡ true
    → instruction_at program.layout.cpu from (drop from (code_of image)) ≡ Some instr
    → IsInstructionLine program.layout.cpu from instr.op (take instr.len (drop place image.bytes.items)) line
    → (at : ℕ) (op : Op) (told : List ℕ) → TellsInstruction program.layout.cpu image.cs place at op told line → Stands image program prelude at op told
line-stands image program prelude loaded place from instr line offset listed stands line_is at op told t =
    let cpu = program.layout.cpu in
    let code = code_of image in
    let part : List ℕ = take instr.len (drop place image.bytes.items) in
    let w = instruction_within image loaded place cpu from instr offset stands in
    let is = is-told cpu image.cs place at op told line t in
    let own = (offset_of-is image.cs place from offset).0 in
    let given = (line-given cpu image.cs place from instr.op part line line_is own w.encoding).0 in
    let bytes_are : told ≡ part = gives-unique cpu image.cs place line told part is.gives given in
    let at_is : at ≡ from = offset-same image.cs place at from is.offset own in
    let size : instr.len ≡ length part = sym (part-length image.bytes.items place instr.len w.ends) in
    let read : instruction_at cpu from part ≡ Some (record { op = op; len = length told }) =
    ap (instruction_at cpu from) (sym bytes_are) ∙ ap (λ n. instruction_at cpu n told) (sym at_is) ∙ (is.encoding).decoded in
    let there : instruction_at cpu from (drop from code) ≡ Some (record { op = instr.op; len = length part }) =
    stands ∙ ap (λ n. Some (record { op = instr.op; len = n })) size in
    record {
      listed = ap (is_listed image program prelude) at_is ∙ listed;
      stands = ap (λ n. instruction_at cpu n (drop n code)) at_is ∙ there ∙ sym (w.encoding).decoded ∙ read;
    }

-- what the lines of the image's bytes tell
lines-stand : (image : Image) (program : Program) (prelude : List Instr) → IsLoaded image → (place : ℕ) (lines : List (List ℕ)) → Lists image program prelude place lines
    → (at : ℕ) (op : Op) (told : List ℕ) → TellInstruction program.layout.cpu image.cs at op told place lines → Stands image program prelude at op told
lines-stand image program prelude loaded place lines at_end at op told t = absurd t
lines-stand image program prelude loaded place lines (listed_instruction {at = from} {instr = instr} {line = line} {lines = others} offset listed stands line_is rest) at op told t =
    let cpu = program.layout.cpu in
    let part : List ℕ = take instr.len (drop place image.bytes.items) in
    let w = instruction_within image loaded place cpu from instr offset stands in
    let given = (line-given cpu image.cs place from instr.op part line line_is (offset_of-is image.cs place from offset).0 w.encoding).0 in
    elim (quiet-skip cpu image.cs at op told place (lines_for_people image program from) (line ∷ others) (people-quiet image program cpu place from offset) t) [
      | inl here ↦ line-stands image program prelude loaded place from instr line offset listed stands line_is at op told here
      | inr later ↦
          let size : place + length later.0 ≡ place + instr.len =
          ap (λ (x : List ℕ). place + length x) (gives-unique cpu image.cs place line later.0 part later.1 given)
          ∙ ap (λ n. place + n) (part-length image.bytes.items place instr.len w.ends) in
          lines-stand image program prelude loaded (place + instr.len) others rest at op told
          (moved cpu image.cs at op told (place + length later.0) (place + instr.len) others size later.2)
    ]
lines-stand image program prelude loaded place lines (listed_bytes {count = count} {lines = others} apart between rest) at op told t =
    let cpu = program.layout.cpu in
    let part : List ℕ = take count (drop place image.bytes.items) in
    let length_is : length part ≡ count = part-length image.bytes.items place count between.within in
    let are : AreBytes part = record { some = let some = between.some in omega (arith, length_is, some); each = part_bytes image.bytes.items place count (All-loaded image loaded) } in
    let few : length part ≤ 16 = let most = between.at_most in omega (arith, length_is, most) in
    elim (quiet-skip cpu image.cs at op told place (people_at image program (offset_of image.cs place)) (bytes_line part ∷ others)
    (people-at-quiet image program cpu place (offset_of image.cs place) refl) t) [
      | inl here ↦ absurd (bytes-not_told cpu image.cs place at op told part are few here)
      | inr later ↦
          let size : place + length later.0 ≡ place + count =
          ap (λ (x : List ℕ). place + length x) (gives-unique cpu image.cs place (bytes_line part) later.0 part later.1 (gives_bytes are few))
          ∙ ap (λ n. place + n) length_is in
          lines-stand image program prelude loaded (place + count) others rest at op told
          (moved cpu image.cs at op told (place + length later.0) (place + count) others size later.2)
    ]

-- The instructions that have lines -----------------------------------------------------------

chosen : (test : Bool) (x at : ℕ) → test ≡ true → x ≡ at → (if test then Some x else None) ≡ Some at
chosen true x at h e = ap Some e
chosen false x at h e = absurd (let f : ⊥ = cc in f)

is-offset_of : (cs place at : ℕ) → IsOffset cs place at → at < 65536 → offset_of cs place ≡ Some at
is-offset_of cs place at is small =
    chosen (nat_le (cs * 16) (place + load_segment * 16) && nat_lt (place + load_segment * 16) (cs * 16 + 65536)) (place + load_segment * 16 - cs * 16) at
    (grind (arith, nat_tests, is, small)) (omega (arith, is))

-- a line tells an instruction at the offset
abbrev IsLine : Cpu → ℕ → ℕ → ℕ → List (List ℕ) → Type 0
IsLine cpu cs at place lines = (op : Op) × ((told : List ℕ) × TellInstruction cpu cs at op told place lines)

-- no instruction that the lines tell begins before the offset and ends behind it
abbrev IsOutside : Cpu → ℕ → ℕ → ℕ → List (List ℕ) → Type 0
IsOutside cpu cs at place lines = (start : ℕ) (op : Op) (told : List ℕ) → TellInstruction cpu cs start op told place lines → start < at → at < start + length told → ⊥

line-tells : (cpu : Cpu) (cs place at : ℕ) (op : Op) (part line : List ℕ) → IsInstructionLine cpu at op part line → IsOffset cs place at → IsEncoding cpu at op part
    → TellsInstruction cpu cs place at op part line
line-tells cpu cs place at op part line (standard_line s) is e = tells_standard is s
line-tells cpu cs place at op part line (odd_instruction o) is e = tells_odd is e o

compared : (a b count : ℕ) → a ≤ b → (a ≡ b) ⊎ ((a < b × (b < a + count)) ⊎ (a + count ≤ b))
compared a b count l = grind arith

lines-have : (image : Image) (program : Program) (prelude : List Instr) → IsLoaded image → (at here : ℕ) → IsOffset image.cs here at → at < 65536
    → here < length image.bytes.items → is_listed image program prelude at ≡ true
    → (place : ℕ) (lines : List (List ℕ)) → Lists image program prelude place lines → place ≤ here
    → IsOutside program.layout.cpu image.cs at place lines → IsLine program.layout.cpu image.cs at place lines
lines-have image program prelude loaded at here is small within known place lines at_end low outside = absurd (omega (arith, low, within))
lines-have image program prelude loaded at here is small within known place lines (listed_instruction {at = from} {instr = instr} {line = line} {lines = others} offset listed stands line_is rest) low outside =
    let cpu = program.layout.cpu in
    let cs = image.cs in
    let part : List ℕ = take instr.len (drop place image.bytes.items) in
    let people = lines_for_people image program from in
    let quiet = people-quiet image program cpu place from offset in
    let w = instruction_within image loaded place cpu from instr offset stands in
    let own = (offset_of-is cs place from offset).0 in
    let given = (line-given cpu cs place from instr.op part line line_is own w.encoding).0 in
    let size : length part ≡ instr.len = part-length image.bytes.items place instr.len w.ends in
    let tells : TellInstruction cpu cs from instr.op part place (people ++ line ∷ others) =
    quiet-past cpu cs from instr.op part place people (line ∷ others) quiet (inl (line-tells cpu cs place from instr.op part line line_is own w.encoding)) in
    let past : (start : ℕ) (op : Op) (told : List ℕ) → TellInstruction cpu cs start op told (place + instr.len) others → TellInstruction cpu cs start op told place (people ++ line ∷ others) =
    λ start op told t. quiet-past cpu cs start op told place people (line ∷ others) quiet
    (inr (part, given, moved cpu cs start op told (place + instr.len) (place + length part) others (ap (λ n. place + n) (sym size)) t)) in
    elim (compared place here instr.len low) [
      | inl same ↦
          let one : from ≡ at = offset-same cs place from at own (subst (λ n. IsOffset cs n at) (sym same) is) in
          subst (λ n. IsLine cpu cs n place (people ++ line ∷ others)) one (instr.op, (part, tells))
      | inr (inl inside) ↦
          let above = inside.0 in
          let below = inside.1 in
          absurd (outside from instr.op part tells (omega (arith, own, is, above)) (omega (arith, own, is, below, size)))
      | inr (inr behind) ↦
          let found = lines-have image program prelude loaded at here is small within known (place + instr.len) others rest behind
          (λ start op told t. outside start op told (past start op told t)) in
          (found.0, ((found.1).0, past at found.0 (found.1).0 (found.1).1))
    ]
lines-have image program prelude loaded at here is small within known place lines (listed_bytes {count = count} {lines = others} apart between rest) low outside =
    let cpu = program.layout.cpu in
    let cs = image.cs in
    let part : List ℕ = take count (drop place image.bytes.items) in
    let people = people_at image program (offset_of cs place) in
    let quiet = people-at-quiet image program cpu place (offset_of cs place) refl in
    let size : length part ≡ count = part-length image.bytes.items place count between.within in
    let are : AreBytes part = record { some = let some = between.some in omega (arith, size, some); each = part_bytes image.bytes.items place count (All-loaded image loaded) } in
    let few : length part ≤ 16 = let most = between.at_most in omega (arith, size, most) in
    let offset : offset_of cs here ≡ Some at = is-offset_of cs here at is small in
    let past : (start : ℕ) (op : Op) (told : List ℕ) → TellInstruction cpu cs start op told (place + count) others → TellInstruction cpu cs start op told place (people ++ bytes_line part ∷ others) =
    λ start op told t. quiet-past cpu cs start op told place people (bytes_line part ∷ others) quiet
    (inr (part, gives_bytes are few, moved cpu cs start op told (place + count) (place + length part) others (ap (λ n. place + n) (sym size)) t)) in
    elim (compared place here count low) [
      | inl same ↦
          let there : offset_of cs place ≡ Some at = ap (offset_of cs) same ∙ offset in
          let no : false ≡ true = sym apart ∙ ap (listed_at image program prelude) there ∙ known in
          absurd (let f : ⊥ = cc in f)
      | inr (inl inside) ↦
          let above = inside.0 in
          let below = inside.1 in
          let k : ℕ = here - place in
          let there : offset_of cs (place + k) ≡ Some at = ap (offset_of cs) (let e : place + k ≡ here = omega (arith, above) in e) ∙ offset in
          let begins : begins_line image program prelude (Some at) ≡ true = or_left (is_listed image program prelude at) (labelled_at image program (Some at)) known in
          let no : false ≡ true = sym (between.inside k (omega (arith, above)) (omega (arith, above, below))) ∙ ap (begins_line image program prelude) there ∙ begins in
          absurd (let f : ⊥ = cc in f)
      | inr (inr behind) ↦
          let found = lines-have image program prelude loaded at here is small within known (place + count) others rest behind
          (λ start op told t. outside start op told (past start op told t)) in
          (found.0, ((found.1).0, past at found.0 (found.1).0 (found.1).1))
    ]

-- Whole listings -----------------------------------------------------------------------------

-- the listing is one of the image's bytes, with its own lines
abbrev reading : (image : Image) (program : Program) (text : List ℕ) → IsLoaded image → (is : IsListing image program text) → StandsFor text image.bytes.items
reading image program text loaded is = record {
  cpu = program.layout.cpu;
  cs = image.cs;
  lines = is.lines;
  begins = listing-begins image program text loaded is;
  text_is = is.text_is;
}

-- what a line of the listing tells stands in the code
listing-stands : (image : Image) (program : Program) (text : List ℕ) → IsLoaded image → (is : IsListing image program text)
    → (at : ℕ) (op : Op) (told : List ℕ) → HasInstruction text at op told → Stands image program is.prelude at op told
listing-stands image program text loaded is at op told h =
    lines-stand image program is.prelude loaded 0 is.lines is.lists at op told
    (told-in text image.bytes.items at op told (reading image program text loaded is) h)

pub lines_of_program : InstructionLinesAreOfProgram
lines_of_program image program text at instr loaded found is h =
    let s = listing-stands image program text loaded is at instr.op h.bytes h.has in
    listed-instruction image program is.prelude at instr found is.is_prelude s.listed
    (s.stands ∙ ap (λ n. Some (record { op = instr.op; len = n })) (sym h.length_is))

-- where an instruction of the code stands in the image
record IsInImage (image : Image) (at : ℕ) : Type 0 where
  place : ℕ
  offset : IsOffset image.cs place at
  small : at < 65536
  within : place < length image.bytes.items

in-image : (image : Image) → IsLoaded image → (cpu : Cpu) (at : ℕ) (instr : Instr) → instruction_at cpu at (drop at (code_of image)) ≡ Some instr → IsInImage image at
unfolding code_of
in-image image loaded cpu at instr stands =
    let xs = image.bytes.items in
    let start : ℕ = (image.cs - load_segment) * 16 in
    let low = cs-loaded image loaded in
    let size = code_len-loaded image loaded in
    let bounds = instruction-length cpu at (drop at (code_of image)) instr stands in
    let code_length : length (code_of image) ≡ min image.code_len (length xs - start) = length-take image.code_len (drop start xs) ∙ ap (min image.code_len) (length-drop start xs) in
    let rest = length-drop at (code_of image) in
    record {
      place = start + at;
      offset = omega (arith, low);
      small = omega (arith, bounds.0, bounds.1, rest, code_length, size);
      within = omega (arith, bounds.0, bounds.1, rest, code_length);
    }

pub instructions_have_lines : InstructionsHaveLines
instructions_have_lines image program text at instr loaded found is h outside =
    let cpu = program.layout.cpu in
    let stands = instruction-stands image program at instr found h in
    let there = in-image image loaded cpu at instr stands in
    let line = lines-have image program is.prelude loaded at there.place there.offset there.small there.within
    (instruction-listed image program is.prelude at instr is.is_prelude h) 0 is.lines is.lists (omega arith)
    (λ start op told t low high. outside (record {
      start = start;
      instr = record { op = op; len = length told };
      has = record { bytes = told; length_is = refl; has = record { image = image.bytes.items; stands = reading image program text loaded is; told = t } };
      behind = low;
      before = high;
    })) in
    let told : List ℕ = (line.1).0 in
    let read = lines-stand image program is.prelude loaded 0 is.lines is.lists at line.0 told (line.1).1 in
    let same : Some (record { op = line.0; len = length told }) ≡ Some instr = sym read.stands ∙ stands in
    let op_is : line.0 ≡ instr.op = cc in
    let len_is : instr.len ≡ length told = cc in
    record {
      bytes = told;
      length_is = len_is;
      has = record {
        image = image.bytes.items;
        stands = reading image program text loaded is;
        told = subst (λ o. TellInstruction cpu image.cs at o told 0 is.lines) op_is (line.1).1;
      };
    }
