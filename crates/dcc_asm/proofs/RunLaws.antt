-- Line after line, and the whole text.
use Rattle.std.proofs.Common.{◌≡◌, ℕ, zero, suc, ◌+◌, ◌<◌, ◌≤◌, false, List, [], ◌∷◌, ◌++◌, length, Some, None, All, refl, sym, ap, ◌∙◌, subst, append_assoc, arith}
use Rattle.std.specs.Prelude.{Option, Result, Ok, Err, IfErr, ◌==◌}
use Rattle.std.proofs.lemmas.List.{length-append}
use Rattle.std.proofs.lemmas.List.Elements.{All-append}
use Rattle.dcc_machine.specs.declared.cpu.Cpu.{Cpu}
use Rattle.dcc_list.specs.Text.{Gives, GivesInTurn, none, next, text_of, IsLine, head_line}
use Rattle.dcc_machine.proofs.MzImageLaws.{length-loaded}
use Rattle.dcc_list.proofs.PeopleLaws.{text_of-append}
use Rattle.dcc_list.proofs.Standing.{listing_stands}
use Rattle.dcc_asm.specs.declared.fault.ListKind.{ListKind}
use Rattle.dcc_asm.specs.declared.fault.ListKind.TheVariants.{Word}
use Rattle.dcc_asm.specs.declared.fault.ListFault.{ListFault}
use Rattle.dcc_asm.specs.declared.fault.ListFault.TheVariants.{At, Memory}
use Rattle.dcc_asm.specs.Fault.{text_most, IsAssembled, IsFaultOf, IsFirstFault, BeginsWith, Offends, at_line as first_line, unended as first_unended}
use Rattle.dcc_asm.specs.Steps.{IsDone, Grows, Passes, AreGiven, Reads, OffendsFirst, at_line as line, unended, IsFaultOfLines}
use Rattle.dcc_asm.specs.Laws.{ListingIsAssembled}
use Rattle.dcc_asm.proofs.TextLaws.{first-of}

append-none : (xs : List ℕ) → xs ++ [] ≡ xs
append-none [] = refl
append-none (x ∷ xs) = ap (λ (r : List ℕ). x ∷ r) (append-none xs)

-- one line more
give-more : (cpu : Cpu) (cs here : ℕ) (lines : List (List ℕ)) (told l t : List ℕ) → GivesInTurn cpu cs here lines told
    → Gives cpu cs (here + length told) l t → GivesInTurn cpu cs here (lines ++ l ∷ []) (told ++ t)
give-more cpu cs here lines told l t none g =
    let place : here + 0 ≡ here = omega arith in
    let one : GivesInTurn cpu cs here (l ∷ []) (t ++ []) = next (subst (λ n. Gives cpu cs n l t) place g) none in
    subst (λ (x : List ℕ). GivesInTurn cpu cs here (l ∷ []) x) (append-none t) one
give-more cpu cs here lines told l t (next {bytes = u} {lines = others} {rest = b} h more) g =
    let size = length-append u b in
    let place : here + length (u ++ b) ≡ here + length u + length b = omega arith in
    let rest = give-more cpu cs (here + length u) others b l t more (subst (λ n. Gives cpu cs n l t) place g) in
    subst (λ (x : List ℕ). GivesInTurn cpu cs here (lines ++ l ∷ []) x) (sym (append_assoc u b t)) (next h rest)

one-line : (l : List ℕ) → IsLine l → All IsLine (l ∷ [])
one-line l h zero d p = h
one-line l h (suc k) d p = absurd (omega arith)

pub reads-first : (cpu : Cpu) (cs : ℕ) (text : List ℕ) → cs < 65536 → Reads cpu cs text [] text 2
reads-first cpu cs text l = record {
  lines = [];
  passes = record {
    begins = record { segment = l; unbroken = λ k d p. absurd (omega arith); give = none };
    bytes_fit = omega arith;
    text_is = refl;
  };
  number_is = refl;
  room = omega arith;
}

pub reads-more : (cpu : Cpu) (cs : ℕ) (text image new left l rest : List ℕ) (number : ℕ) → Reads cpu cs text image left number
    → IsLine l → left ≡ text_of (l ∷ []) ++ rest → Grows cpu cs image new l → Reads cpu cs text new rest (number + 1)
reads-more cpu cs text image new left l rest number h is e g =
    let lines : List (List ℕ) = h.lines ++ l ∷ [] in
    let begins = h.passes.begins in
    let given : GivesInTurn cpu cs 0 lines new =
    subst (λ (x : List ℕ). GivesInTurn cpu cs 0 lines x) (sym g.grown) (give-more cpu cs 0 h.lines image l g.bytes begins.give (at-start g.gives)) in
    let count : length lines ≡ length h.lines + 1 = length-append h.lines (l ∷ []) in
    let known = h.number_is in
    let room = h.room in
    let size : length left ≡ length (text_of (l ∷ [])) + length rest = ap length e ∙ length-append (text_of (l ∷ [])) rest in
    let feed : length (text_of (l ∷ [])) ≡ length l + 1 = length-append l (10 ∷ []) in
    record {
      lines = lines;
      passes = record {
        begins = record { segment = begins.segment; unbroken = All-append IsLine h.lines (l ∷ []) begins.unbroken (one-line l is); give = given };
        bytes_fit = g.fits;
        text_is = h.passes.text_is ∙ ap (λ (x : List ℕ). text_of h.lines ++ x) e ∙ sym (append_assoc (text_of h.lines) (text_of (l ∷ [])) rest)
            ∙ ap (λ (x : List ℕ). x ++ rest) (sym (text_of-append h.lines (l ∷ [])));
      };
      number_is = omega arith;
      room = omega arith;
    }
  where
    at-start : Gives cpu cs (length image) l g.bytes → Gives cpu cs (0 + length image) l g.bytes
    at-start x = let place : length image ≡ 0 + length image = omega arith in subst (λ n. Gives cpu cs n l g.bytes) place x

pub rest-less : (left l rest : List ℕ) → left ≡ text_of (l ∷ []) ++ rest → length rest < length left
rest-less left l rest e =
    let size : length left ≡ length (text_of (l ∷ [])) + length rest = ap length e ∙ length-append (text_of (l ∷ [])) rest in
    let feed : length (text_of (l ∷ [])) ≡ length l + 1 = length-append l (10 ∷ []) in
    omega arith

pub some-left : (left : List ℕ) → false ≡ (length left == 0) → 0 < length left
some-left [] h = let f : ⊥ = cc in absurd f
some-left (b ∷ left) h = omega arith

-- what a line gives that doesn't offend
pub grown-by : (cpu : Cpu) (cs : ℕ) (old new line : List ℕ) (found : Option ListKind) → ((kind : ListKind) → found ≡ Some kind → ⊥)
    → IsDone cpu cs old new line found → Grows cpu cs old new line
grown-by cpu cs old new l None never h = h
grown-by cpu cs old new l (Some kind) never h = absurd (never kind refl)

-- all lines have been read
pub reads-done : (cpu : Cpu) (cs : ℕ) (text image left : List ℕ) (number : ℕ) → Reads cpu cs text image left number → left ≡ [] → AreGiven cpu cs text image
reads-done cpu cs text image left number h e = record {
  lines = h.lines;
  passes = subst (λ (x : List ℕ). Passes cpu cs text h.lines image x) e h.passes;
}

-- a line offends
pub reads-offends : (cpu : Cpu) (cs : ℕ) (text image left l rest : List ℕ) (number : ℕ) (kind : ListKind) → Reads cpu cs text image left number
    → IsLine l → left ≡ text_of (l ∷ []) ++ rest → Offends cpu cs (length image) l kind → OffendsFirst cpu cs text number kind
reads-offends cpu cs text image left l rest number kind h is e o =
    subst (λ n. OffendsFirst cpu cs text n kind) (sym h.number_is)
    (line rest (subst (λ (x : List ℕ). Passes cpu cs text h.lines image x) e h.passes) is o)

-- bytes stand behind the last line feed
pub reads-unended : (cpu : Cpu) (cs : ℕ) (text image left : List ℕ) (number : ℕ) → Reads cpu cs text image left number
    → IsLine left → 0 < length left → OffendsFirst cpu cs text number Word
reads-unended cpu cs text image left number h is some =
    subst (λ n. OffendsFirst cpu cs text n Word) (sym h.number_is) (unended h.passes is some)

-- Behind the first line ----------------------------------------------------------------------

whole : (cpu : Cpu) (cs : ℕ) (text rest tail : List ℕ) (lines : List (List ℕ)) → text ≡ text_of (head_line cpu cs ∷ []) ++ rest → rest ≡ text_of lines ++ tail
    → text ≡ text_of (head_line cpu cs ∷ lines) ++ tail
whole cpu cs text rest tail lines e f =
    e ∙ first-of (head_line cpu cs) [] rest ∙ ap (λ (x : List ℕ). head_line cpu cs ++ (10 ∷ x)) f ∙ sym (first-of (head_line cpu cs) lines tail)

pub given-assembled : (cpu : Cpu) (cs : ℕ) (text rest told : List ℕ) → length text ≤ text_most → text ≡ text_of (head_line cpu cs ∷ []) ++ rest
    → AreGiven cpu cs rest told → IsAssembled text told
given-assembled cpu cs text rest told fits e h = record {
  text_fits = fits;
  bytes_fit = h.passes.bytes_fit;
  stands = record {
    cpu = cpu;
    cs = cs;
    lines = h.lines;
    begins = h.passes.begins;
    text_is = whole cpu cs text rest [] h.lines e h.passes.text_is ∙ append-none (text_of (head_line cpu cs ∷ h.lines));
  };
}

begins : (cpu : Cpu) (cs : ℕ) (text rest tail told : List ℕ) (lines : List (List ℕ)) → length text ≤ text_most → text ≡ text_of (head_line cpu cs ∷ []) ++ rest
    → Passes cpu cs rest lines told tail → BeginsWith text cpu cs lines told tail
begins cpu cs text rest tail told lines fits e h = record {
  text_fits = fits;
  begins = h.begins;
  bytes_fit = h.bytes_fit;
  text_is = whole cpu cs text rest tail lines e h.text_is;
}

offends-first : (cpu : Cpu) (cs : ℕ) (text rest : List ℕ) (number : ℕ) (kind : ListKind) → length text ≤ text_most → text ≡ text_of (head_line cpu cs ∷ []) ++ rest
    → OffendsFirst cpu cs rest number kind → IsFirstFault text number kind
offends-first cpu cs text rest number kind fits e (line {lines = lines} {bytes = told} {line = l} more h is o) =
    first_line more (begins cpu cs text rest (text_of (l ∷ []) ++ more) told lines fits e h) is o
offends-first cpu cs text rest number kind fits e (unended {lines = lines} {bytes = told} {rest = tail} h is some) =
    first_unended (begins cpu cs text rest tail told lines fits e h) is some

pub fault-first : (cpu : Cpu) (cs : ℕ) (text rest : List ℕ) (fault : ListFault) → length text ≤ text_most → text ≡ text_of (head_line cpu cs ∷ []) ++ rest
    → IsFaultOfLines cpu cs rest fault → IsFaultOf text fault
fault-first cpu cs text rest (At number kind) fits e h = offends-first cpu cs text rest number kind fits e h
fault-first cpu cs text rest Memory fits e h = tt

pub faults-first : {T : Type 0} (cpu : Cpu) (cs : ℕ) (text rest : List ℕ) (result : Result T ListFault) → length text ≤ text_most
    → text ≡ text_of (head_line cpu cs ∷ []) ++ rest → IfErr result (IsFaultOfLines cpu cs rest) → IfErr result (IsFaultOf text)
faults-first cpu cs text rest (Ok told) fits e h = tt
faults-first cpu cs text rest (Err fault) fits e h = fault-first cpu cs text rest fault fits e h

-- the listing of a program's image
pub listing_assembled : ListingIsAssembled
listing_assembled image program text loaded is fits = record {
  text_fits = fits;
  bytes_fit = let small = length-loaded image loaded in omega arith;
  stands = listing_stands image program text loaded is;
}
