-- The listing of a program's image is a listing of the image's bytes.
use Rattle.std.proofs.Common.{◌≡◌, ℕ, zero, suc, ◌+◌, ◌-◌, ◌*◌, ◌/◌, ◌%◌, ◌<◌, ◌≤◌, min, Bool, true, false, ◌&&◌, ◌==◌, nat_lt, nat_le, if◌then◌else◌, List, [], ◌∷◌, ◌++◌, length, take, drop, Option, Some, None, All, codes, refl, sym, ap, ◌∙◌, subst, add-zero, arith, length-drop, length-take}
use Rattle.std.specs.List.{AllByRecursion}
use Rattle.std.specs.Fmt.{decimal, digit_glyph}
use Rattle.std.proofs.lemmas.Bool.Decides.{nat_tests}
use Rattle.std.proofs.Math.Seq.{drop-length}
use Rattle.std.proofs.lemmas.List.Elements.{All-take, All-drop}
use Rattle.std.proofs.lemmas.List.{take-append-drop, length-take-le, drop-drop, take-take, drop-take}
use Rattle.dcc_machine.specs.declared.cpu.Cpu.{Cpu}
use Rattle.dcc_machine.specs.declared.image.Image.{Image}
use Rattle.dcc_machine.specs.declared.instr.Op.{Op}
use Rattle.dcc_machine.specs.declared.instr.Instr.{Instr}
use Rattle.dcc_machine.specs.Code.{code_of}
use Rattle.dcc_machine.specs.Load.{load_segment}
use Rattle.dcc_machine.specs.MzImage.{IsLoaded}
use Rattle.dcc_machine.specs.Table.{instruction_at}
use Rattle.dcc_machine.proofs.MzImageLaws.{length-loaded, All-loaded, cs-loaded, code_len-loaded}
use Rattle.dcc_machine.proofs.TableLaws.{and_both, instruction-length, instruction-prefix}
use Rattle.dcc_prog.specs.declared.procedure.Proc.{Proc}
use Rattle.dcc_prog.specs.declared.frame.Frame.{Frame}
use Rattle.dcc_prog.specs.declared.frame.Program.{Program}
use Rattle.dcc_spelled.specs.Hex.{hex_word, hex_bytes}
use Rattle.dcc_spelled.specs.Spelling.{spelling}
use Rattle.dcc_encode.specs.Encoding.{IsEncoding}
use Rattle.dcc_list.specs.Text.{IsOffset, comment_line, place_line, bytes_line, AreBytes, Gives, comment, at_place, bytes, standard, odd, GivesInTurn, none, next, IsLine, Begins}
use Rattle.dcc_list.specs.Listed.{data_offset, procedure_name, procedure_line, procedure_lines, headings, is_labelled, lines_for_people, offset_of, people_at, IsInstructionLine, Lists, IsListing}
use Rattle.dcc_list.specs.Listed.{at_end, instruction as listed_instruction, bytes as listed_bytes, standard as standard_line, odd as odd_instruction}
use Rattle.dcc_list.specs.Laws.{ListingStandsForImage}
use Rattle.dcc_encode.proofs.Covered.{all-append}
use Rattle.dcc_list.proofs.Unbroken.{no_feed, Unbroken, joined, is_line, word-unbroken, bytes-unbroken, decimal-unbroken, glyph-unbroken, spelling-unbroken}

-- Offsets -----------------------------------------------------------------------------------

inner : (test : Bool) (x at : ℕ) → (if test then Some x else None) ≡ Some at → (test ≡ true) × (x ≡ at)
inner true x at e = (refl, cc)
inner false x at e = cc

pub offset_of-is : (cs place at : ℕ) → offset_of cs place ≡ Some at → IsOffset cs place at × (at < 65536)
offset_of-is cs place at e =
    let found = inner (nat_le (cs * 16) (place + load_segment * 16) && nat_lt (place + load_segment * 16) (cs * 16 + 65536)) (place + load_segment * 16 - cs * 16) at e in
    let within = found.0 in
    let is = found.1 in
    (grind (arith, nat_tests, within, is), grind (arith, nat_tests, within, is))

-- Encodings in the image ----------------------------------------------------------------------

pub part_bytes : (xs : List ℕ) (place count : ℕ) → All (λ b. b < 256) xs → All (λ b. b < 256) (take count (drop place xs))
part_bytes xs place count are = All-take (λ b. b < 256) count (drop place xs) (All-drop (λ b. b < 256) place xs are)

-- the bytes of an instruction in the code
pub record IsWithin (image : Image) (place : ℕ) (cpu : Cpu) (at : ℕ) (instr : Instr) : Type 0 where
  pub some : 0 < instr.len
  pub ends : place + instr.len ≤ length image.bytes.items
  pub encoding : IsEncoding cpu at instr.op (take instr.len (drop place image.bytes.items))

-- the code from an offset on, as bytes of the image
code_from : (xs : List ℕ) (size start at len : ℕ) → at + len ≤ size → start + size ≤ length xs
    → take len (drop at (take size (drop start xs))) ≡ take len (drop (start + at) xs)
code_from xs size start at len l within =
    let rest : ℕ = size - at in
    let split : size ≡ at + rest = omega arith in
    let cut : drop at (take size (drop start xs)) ≡ take rest (drop at (drop start xs)) =
    ap (λ n. drop at (take n (drop start xs))) split ∙ drop-take at rest (drop start xs) in
    let less : len ≤ rest = omega arith in
    ap (take len) cut ∙ take-take len rest (drop at (drop start xs)) less ∙ ap (take len) (drop-drop at start xs)

pub instruction_within : (image : Image) → IsLoaded image → (place : ℕ) (cpu : Cpu) (at : ℕ) (instr : Instr)
    → offset_of image.cs place ≡ Some at → instruction_at cpu at (drop at (code_of image)) ≡ Some instr
    → IsWithin image place cpu at instr
unfolding code_of
instruction_within image loaded place cpu at instr offset stands =
    let xs = image.bytes.items in
    let start : ℕ = (image.cs - load_segment) * 16 in
    let is = offset_of-is image.cs place at offset in
    let low = cs-loaded image loaded in
    let size = code_len-loaded image loaded in
    let small = length-loaded image loaded in
    let bounds = instruction-length cpu at (drop at (code_of image)) instr stands in
    let code_length : length (code_of image) ≡ min image.code_len (length xs - start) = length-take image.code_len (drop start xs) ∙ ap (min image.code_len) (length-drop start xs) in
    let fits : instr.len ≤ length (code_of image) - at = let l = length-drop at (code_of image) in omega (arith, bounds.1, l) in
    let within : at + instr.len ≤ image.code_len = omega (arith, bounds.0, fits, code_length) in
    let whole : start + image.code_len ≤ length xs = omega (arith, size, bounds.0, within) in
    let place_is : start + at ≡ place = omega (arith, is.0, low) in
    let same : take instr.len (drop at (code_of image)) ≡ take instr.len (drop place xs) =
    code_from xs image.code_len start at instr.len within whole ∙ ap (λ n. take instr.len (drop n xs)) place_is in
    let ends : place + instr.len ≤ length xs = omega (arith, place_is, within, whole) in
    let size_is : length (take instr.len (drop place xs)) ≡ instr.len =
    length-take-le instr.len (drop place xs) (let l = length-drop place xs in omega (arith, l, ends)) in
    let prefix : take instr.len (take instr.len (drop place xs)) ≡ take instr.len (drop at (code_of image)) =
    take-take instr.len instr.len (drop place xs) (omega arith) ∙ sym same in
    let decoded : instruction_at cpu at (take instr.len (drop place xs)) ≡ Some instr =
    instruction-prefix cpu at (drop at (code_of image)) (take instr.len (drop place xs)) instr stands prefix in
    record {
      some = bounds.0;
      ends = ends;
      encoding = record {
        decoded = decoded ∙ ap (λ n. Some (record { op = instr.op; len = n })) (sym size_is);
        within = omega (arith, size_is, within, size);
        are_bytes = part_bytes xs place instr.len (All-loaded image loaded);
      };
    }

-- Lines that give nothing ---------------------------------------------------------------------

-- a line that gives no bytes
pub record IsQuiet (cpu : Cpu) (cs place : ℕ) (line : List ℕ) : Type 0 where
  pub gives : Gives cpu cs place line []
  pub unbroken : Unbroken line

comment-quiet : (cpu : Cpu) (cs place : ℕ) (words : List ℕ) → Unbroken words → IsQuiet cpu cs place (comment_line words)
comment-quiet cpu cs place words h = record { gives = comment; unbroken = joined (codes ";") words refl h }

chosen-quiet : (cpu : Cpu) (cs place : ℕ) (b : Bool) (line : List ℕ) → IsQuiet cpu cs place line
    → AllByRecursion (IsQuiet cpu cs place) (if b then line ∷ [] else [])
chosen-quiet cpu cs place true line h = (h, tt)
chosen-quiet cpu cs place false line h = tt

name-unbroken : (b : Bool) (xs : List ℕ) → Unbroken xs → Unbroken (if b then codes "start" else codes "f_" ++ xs)
name-unbroken true xs h = refl
name-unbroken false xs h = joined (codes "f_") xs refl h

digits-unbroken : (a b c d : ℕ) → Unbroken (digit_glyph false a ∷ digit_glyph false b ∷ digit_glyph false c ∷ digit_glyph false d ∷ [])
digits-unbroken a b c d =
    and_both (no_feed (digit_glyph false a)) (no_feed (digit_glyph false b) && (no_feed (digit_glyph false c) && (no_feed (digit_glyph false d) && true))) (glyph-unbroken a)
    (and_both (no_feed (digit_glyph false b)) (no_feed (digit_glyph false c) && (no_feed (digit_glyph false d) && true)) (glyph-unbroken b)
    (and_both (no_feed (digit_glyph false c)) (no_feed (digit_glyph false d) && true) (glyph-unbroken c)
    (and_both (no_feed (digit_glyph false d)) true (glyph-unbroken d) refl)))

procedure-unbroken : (start : ℕ) (proc : Proc) (args removed : ℕ) → Unbroken (procedure_line start proc args removed)
procedure-unbroken start proc args removed =
    let e = proc.entry in
    let digits : List ℕ = digit_glyph false (e / 4096 % 16) ∷ digit_glyph false (e / 256 % 16) ∷ digit_glyph false (e / 16 % 16) ∷ digit_glyph false (e % 16) ∷ [] in
    let name = name-unbroken (e == start) digits (digits-unbroken (e / 4096 % 16) (e / 256 % 16) (e / 16 % 16) (e % 16)) in
    let ret : List ℕ = codes " ret " ++ decimal removed in
    let from_args : List ℕ = decimal args ++ ret in
    let with_args : List ℕ = codes " args " ++ from_args in
    let from_nodes : List ℕ = decimal (length proc.nodes.entries) ++ with_args in
    let with_nodes : List ℕ = codes " nodes " ++ from_nodes in
    joined (codes "; ") (procedure_name start e ++ with_nodes) refl (joined (procedure_name start e) with_nodes name
    (joined (codes " nodes ") from_nodes refl (joined (decimal (length proc.nodes.entries)) with_args (decimal-unbroken (length proc.nodes.entries))
    (joined (codes " args ") from_args refl (joined (decimal args) ret (decimal-unbroken args)
    (joined (codes " ret ") (decimal removed) refl (decimal-unbroken removed)))))))

procedures-quiet : (cpu : Cpu) (cs place start at : ℕ) (procs : List Proc) (frames : List Frame) (removed : List ℕ)
    → AllByRecursion (IsQuiet cpu cs place) (procedure_lines start at procs frames removed)
procedures-quiet cpu cs place start at [] frames removed = tt
procedures-quiet cpu cs place start at (p ∷ ps) [] removed = tt
procedures-quiet cpu cs place start at (p ∷ ps) (f ∷ fs) [] = tt
procedures-quiet cpu cs place start at (p ∷ ps) (f ∷ fs) (b ∷ bs) =
    let line : IsQuiet cpu cs place (procedure_line start p f.args b) = record { gives = comment; unbroken = procedure-unbroken start p f.args b } in
    all-append (IsQuiet cpu cs place) (if p.entry == at then procedure_line start p f.args b ∷ [] else []) (procedure_lines start at ps fs bs)
    (chosen-quiet cpu cs place (p.entry == at) (procedure_line start p f.args b) line)
    (procedures-quiet cpu cs place start at ps fs bs)

headings-quiet : (image : Image) (program : Program) (at : ℕ) (cpu : Cpu) (cs place : ℕ) → AllByRecursion (IsQuiet cpu cs place) (headings image program at)
headings-quiet image program at cpu cs place =
    let procs = procedure_lines program.layout.start_ip at program.procs.items program.cells.frames.items program.heights.ret.items in
    let data_lines = if data_offset image program.layout == at then comment_line (codes " data") ∷ [] else [] in
    all-append (IsQuiet cpu cs place) (if image.ip == at then comment_line (codes " prelude") ∷ [] else []) (procs ++ data_lines)
    (chosen-quiet cpu cs place (image.ip == at) (comment_line (codes " prelude")) (comment-quiet cpu cs place (codes " prelude") refl))
    (all-append (IsQuiet cpu cs place) procs data_lines
    (procedures-quiet cpu cs place program.layout.start_ip at program.procs.items program.cells.frames.items program.heights.ret.items)
    (chosen-quiet cpu cs place (data_offset image program.layout == at) (comment_line (codes " data")) (comment-quiet cpu cs place (codes " data") refl)))

placed-quiet : (cpu : Cpu) (cs place : ℕ) (b : Bool) (lines : List (List ℕ)) → AllByRecursion (IsQuiet cpu cs place) lines
    → AllByRecursion (IsQuiet cpu cs place) (if b then lines else [])
placed-quiet cpu cs place true lines h = h
placed-quiet cpu cs place false lines h = tt

pub people-quiet : (image : Image) (program : Program) (cpu : Cpu) (place at : ℕ) → offset_of image.cs place ≡ Some at
    → AllByRecursion (IsQuiet cpu image.cs place) (lines_for_people image program at)
people-quiet image program cpu place at e =
    let is = offset_of-is image.cs place at e in
    let own : IsQuiet cpu image.cs place (place_line at) = record { gives = at_place is.1 is.0; unbroken = joined (hex_word at) (codes ":") (word-unbroken at) refl } in
    placed-quiet cpu image.cs place (is_labelled image program at) (headings image program at ++ place_line at ∷ [])
    (all-append (IsQuiet cpu image.cs place) (headings image program at) (place_line at ∷ [])
    (headings-quiet image program at cpu image.cs place) (own, tt))

pub people-at-quiet : (image : Image) (program : Program) (cpu : Cpu) (place : ℕ) (offset : Option ℕ) → offset_of image.cs place ≡ offset
    → AllByRecursion (IsQuiet cpu image.cs place) (people_at image program offset)
people-at-quiet image program cpu place None e = tt
people-at-quiet image program cpu place (Some at) e = people-quiet image program cpu place at e

-- Lines one after another ---------------------------------------------------------------------

record IsGiven (cpu : Cpu) (cs place : ℕ) (lines : List (List ℕ)) (bs : List ℕ) : Type 0 where
  gives : GivesInTurn cpu cs place lines bs
  unbroken : AllByRecursion Unbroken lines

quiet-front : (cpu : Cpu) (cs place : ℕ) (lines others : List (List ℕ)) (bs : List ℕ) → AllByRecursion (IsQuiet cpu cs place) lines
    → IsGiven cpu cs place others bs → IsGiven cpu cs place (lines ++ others) bs
quiet-front cpu cs place [] others bs h g = g
quiet-front cpu cs place (line ∷ lines) others bs h g =
    let rest = quiet-front cpu cs place lines others bs h.1 g in
    record {
      gives = next (h.0).gives (subst (λ n. GivesInTurn cpu cs n (lines ++ others) bs) (sym (add-zero place)) rest.gives);
      unbroken = ((h.0).unbroken, rest.unbroken);
    }

line-front : (cpu : Cpu) (cs place : ℕ) (line bs : List ℕ) (others : List (List ℕ)) (rest : List ℕ) → Gives cpu cs place line bs → Unbroken line
    → IsGiven cpu cs (place + length bs) others rest → IsGiven cpu cs place (line ∷ others) (bs ++ rest)
line-front cpu cs place line bs others rest g u h = record { gives = next g h.gives; unbroken = (u, h.unbroken) }

pub line-given : (cpu : Cpu) (cs place at : ℕ) (op : Op) (bs line : List ℕ) → IsInstructionLine cpu at op bs line → IsOffset cs place at
    → IsEncoding cpu at op bs → Gives cpu cs place line bs × Unbroken line
line-given cpu cs place at op bs line (standard_line s) is e =
    (standard is s, joined (codes "    ") (spelling op) refl (spelling-unbroken op))
line-given cpu cs place at op bs line (odd_instruction o) is e = (
  odd is e o,
  joined (codes "    odd") (hex_bytes bs ++ (codes " " ++ spelling op)) refl
      (joined (hex_bytes bs) (codes " " ++ spelling op) (bytes-unbroken bs) (joined (codes " ") (spelling op) refl (spelling-unbroken op))),
)

part-joined : (xs : List ℕ) (place count : ℕ) → place + count ≤ length xs
    → take count (drop place xs) ++ drop (place + length (take count (drop place xs))) xs ≡ drop place xs
part-joined xs place count l =
    let size : length (take count (drop place xs)) ≡ count = length-take-le count (drop place xs) (let d = length-drop place xs in omega (arith, d, l)) in
    ap (λ n. take count (drop place xs) ++ drop (place + n) xs) size
    ∙ ap (λ (ys : List ℕ). take count (drop place xs) ++ ys) (sym (drop-drop count place xs))
    ∙ take-append-drop count (drop place xs)

-- some of the image's bytes, and then what the lines behind theirs give
part-given : (image : Image) (cpu : Cpu) (place count : ℕ) (people others : List (List ℕ)) (line : List ℕ)
    → place + count ≤ length image.bytes.items
    → AllByRecursion (IsQuiet cpu image.cs place) people
    → Gives cpu image.cs place line (take count (drop place image.bytes.items)) × Unbroken line
    → IsGiven cpu image.cs (place + count) others (drop (place + count) image.bytes.items)
    → IsGiven cpu image.cs place (people ++ line ∷ others) (drop place image.bytes.items)
part-given image cpu place count people others line l quiet g rest =
    let xs = image.bytes.items in
    let size : count ≡ length (take count (drop place xs)) = sym (length-take-le count (drop place xs) (let d = length-drop place xs in omega (arith, d, l))) in
    let moved = subst (λ n. IsGiven cpu image.cs (place + n) others (drop (place + n) xs)) size rest in
    subst (IsGiven cpu image.cs place (people ++ line ∷ others)) (part-joined xs place count l)
    (quiet-front cpu image.cs place people (line ∷ others) _ quiet
    (line-front cpu image.cs place line (take count (drop place xs)) others _ g.0 g.1 moved))

lists-given : (image : Image) (program : Program) (prelude : List Instr) → IsLoaded image → (place : ℕ) (lines : List (List ℕ))
    → Lists image program prelude place lines → IsGiven program.layout.cpu image.cs place lines (drop place image.bytes.items)
lists-given image program prelude loaded place lines at_end =
    subst (IsGiven program.layout.cpu image.cs place []) (sym (drop-length image.bytes.items)) (record { gives = none; unbroken = tt })
lists-given image program prelude loaded place lines (listed_instruction {at = at} {instr = instr} {line = line} {lines = others} offset among stands line_is rest) =
    let w = instruction_within image loaded place program.layout.cpu at instr offset stands in
    part-given image program.layout.cpu place instr.len (lines_for_people image program at) others line w.ends
    (people-quiet image program program.layout.cpu place at offset)
    (line-given program.layout.cpu image.cs place at instr.op (take instr.len (drop place image.bytes.items)) line line_is (offset_of-is image.cs place at offset).0 w.encoding)
    (lists-given image program prelude loaded (place + instr.len) others rest)
lists-given image program prelude loaded place lines (listed_bytes {count = count} {lines = others} apart between rest) =
    let xs = image.bytes.items in
    let l : place + count ≤ length xs = between.within in
    let size : length (take count (drop place xs)) ≡ count = length-take-le count (drop place xs) (let d = length-drop place xs in omega (arith, d, l)) in
    let are : AreBytes (take count (drop place xs)) = record { some = omega (arith, size, between.some); each = part_bytes xs place count (All-loaded image loaded) } in
    part-given image program.layout.cpu place count (people_at image program (offset_of image.cs place)) others (bytes_line (take count (drop place xs))) l
    (people-at-quiet image program program.layout.cpu place (offset_of image.cs place) refl)
    (bytes are (omega (arith, size, between.at_most)), joined (codes "    db") (hex_bytes (take count (drop place xs))) refl (bytes-unbroken (take count (drop place xs))))
    (lists-given image program prelude loaded (place + count) others rest)

all-lines : (lines : List (List ℕ)) → AllByRecursion Unbroken lines → All IsLine lines
all-lines [] h k d l = absurd (omega arith)
all-lines (line ∷ lines) h zero d l = is_line line h.0
all-lines (line ∷ lines) h (suc k) d l = all-lines lines h.1 k d (omega arith)

-- the lines of the listing give the image's bytes
pub listing-begins : (image : Image) (program : Program) (text : List ℕ) → IsLoaded image → (is : IsListing image program text)
    → Begins program.layout.cpu image.cs is.lines image.bytes.items
listing-begins image program text loaded is =
    let given = lists-given image program is.prelude loaded 0 is.lines is.lists in
    let cs = loaded.is_image.cs in
    record {
      segment = omega (arith, cs);
      unbroken = all-lines is.lines given.unbroken;
      give = given.gives;
    }

pub listing_stands : ListingStandsForImage
listing_stands image program text loaded is = record {
  cpu = program.layout.cpu;
  cs = image.cs;
  lines = is.lines;
  begins = listing-begins image program text loaded is;
  text_is = is.text_is;
}
