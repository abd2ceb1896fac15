-- The first line.
use Rattle.std.proofs.Common.{◌≡◌, ℕ, ◌+◌, ◌<◌, List, [], ◌∷◌, ◌++◌, length, take, drop, Option, Some, None, Result, Ok, Err, IfOk, refl, sym, ap, ◌∙◌, arith}
use Rattle.std.proofs.lemmas.List.{take-append-drop, length-append}
use Rattle.std.specs.declared.alloc.AllocError.{AllocError}
use Rattle.dcc_machine.specs.declared.cpu.Cpu.{Cpu}
use Rattle.dcc_machine.specs.declared.cpu.Cpu.TheVariants.{I8086, I186}
use Rattle.dcc_reread.specs.Reading.{word_value}
use Rattle.dcc_reread.proofs.ReadBack.{word-back}
use Rattle.dcc_list.specs.Text.{text_of, head_line}
use Rattle.dcc_asm.specs.declared.assembler.Heading.{Heading}
use Rattle.dcc_asm.specs.Steps.{digits_place, IsHeadingFor, IsHeading}

-- What stands behind a head -------------------------------------------------------------------

take-front : (head rest : List ℕ) → take (length head) (head ++ rest) ≡ head
take-front [] rest = refl
take-front (x ∷ head) rest = ap (λ (l : List ℕ). x ∷ l) (take-front head rest)

pub front-is : (text head : List ℕ) (size : ℕ) → size ≡ length head → take size text ≡ head → text ≡ head ++ drop size text
front-is text head size is same = sym (take-append-drop size text) ∙ ap (λ (l : List ℕ). l ++ drop size text) same

pub no-front : (text head rest : List ℕ) (size : ℕ) → size ≡ length head → (take size text ≡ head → ⊥) → text ≡ head ++ rest → ⊥
no-front text head rest size is other e =
    other (ap (λ n. take n text) is ∙ ap (λ (l : List ℕ). take (length head) l) e ∙ take-front head rest)

pub too-short : (text head rest : List ℕ) → length text < length head → text ≡ head ++ rest → ⊥
too-short text head rest l e =
    let size : length text ≡ length head + length rest = ap length e ∙ length-append head rest in
    omega arith

-- The first line -----------------------------------------------------------------------------

-- the code segment is read back
head-read : (cpu : Cpu) (cs : ℕ) (rest : List ℕ) → cs < 65536 → word_value (text_of (head_line cpu cs ∷ []) ++ rest) (digits_place cpu) ≡ cs
head-read I8086 cs rest l = word-back cs l
head-read I186 cs rest l = word-back cs l

-- a text whose first line isn't the one that its digits would make has none
pub no-heading : (cpu : Cpu) (text head : List ℕ) (cs : ℕ) → cs ≡ word_value text (digits_place cpu) → head ≡ text_of (head_line cpu cs ∷ [])
    → ((rest : List ℕ) → ¬ (text ≡ head ++ rest)) → IsHeadingFor cpu text None
no-heading cpu text head cs is made h known rest l e =
    let same : known ≡ cs = sym (head-read cpu known rest l) ∙ ap (λ (t : List ℕ). word_value t (digits_place cpu)) (sym e) ∙ sym is in
    let one : text_of (head_line cpu known ∷ []) ++ rest ≡ head ++ rest =
    ap (λ n. text_of (head_line cpu n ∷ []) ++ rest) same ∙ ap (λ (t : List ℕ). t ++ rest) (sym made) in
    h rest (e ∙ one)

-- neither processor is told
pub neither : (text : List ℕ) → IsHeadingFor I8086 text None → IsHeadingFor I186 text None → IsHeading text None
neither text h k head = by head.cpu refl
  where
    by : (cpu : Cpu) → head.cpu ≡ cpu → ⊥
    by I8086 e = h head.cs head.rest head.segment (head.text_is ∙ ap (λ c. text_of (head_line c head.cs ∷ []) ++ head.rest) e)
    by I186 e = k head.cs head.rest head.segment (head.text_is ∙ ap (λ c. text_of (head_line c head.cs ∷ []) ++ head.rest) e)

-- what the text tells of the one processor or the other
pub either-heading : (text : List ℕ) (found : Option Heading) → IsHeadingFor I8086 text None → IsHeadingFor I186 text found → IsHeading text found
either-heading text None h k = neither text h k
either-heading text (Some heading) h k = k

pub heading-by : (text : List ℕ) (result : Result (Option Heading) AllocError) → IsHeadingFor I8086 text None
    → IfOk result (IsHeadingFor I186 text) → IfOk result (IsHeading text)
heading-by text (Ok found) h k = either-heading text found h k
heading-by text (Err error) h k = tt
