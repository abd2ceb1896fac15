-- A file has signatures or a fault, and no two faults.
use Rattle.std.proofs.Common.{◌≡◌, ◌<◌, ◌≤◌, ℕ, zero, suc, ◌+◌, List, [], ◌∷◌, ◌++◌, length, map, take, get_or, refl, sym, ap, ◌∙◌, subst, arith, ⊎_elim, inl, inr, ◌⊎◌, length-append}
use Rattle.std.proofs.lemmas.Bool.{cases_lt}
use Rattle.dcc_sigs.specs.declared.signature.Sig.{Sig}
use Rattle.dcc_sigs.specs.declared.signature.SigKind.{SigKind}
use Rattle.dcc_sigs.specs.declared.signature.SigKind.TheVariants.{Form, Twice}
use Rattle.dcc_sigs.specs.Signature.{sig_line, HasForm}
use Rattle.dcc_sigs.specs.Fault.{text_most, pieces_of, piece_at, AreSigs, HasName, Offends, no_form, unended, again, IsFirstFault, too_long, at_line}
use Rattle.dcc_sigs.specs.Steps.{AreBegun}
use Rattle.dcc_sigs.specs.Laws.{SigsHaveNoFault, FaultIsUnique}
use Rattle.dcc_sigs.proofs.Reading.{none-before}

-- Signatures ---------------------------------------------------------------------------------

take-front : (xs ys : List (List ℕ)) → take (length xs) (xs ++ ys) ≡ xs
take-front [] ys = refl
take-front (x ∷ xs) ys = ap (λ (ls : List (List ℕ)). x ∷ ls) (take-front xs ys)

last-of : (xs : List (List ℕ)) (y : List ℕ) → get_or (xs ++ (y ∷ [])) (length xs) [] ≡ y
last-of [] y = refl
last-of (x ∷ xs) y = last-of xs y

length-lines : (sigs : List Sig) → length (map sig_line sigs) ≡ length sigs
length-lines [] = refl
length-lines (sig ∷ sigs) = let e = length-lines sigs in omega (arith, e)

size-of : (text : List ℕ) (sigs : List Sig) → AreSigs text sigs → length (pieces_of text) ≡ length sigs + 1
size-of text sigs h =
    ap length h.text_is ∙ length-append (map sig_line sigs) ([] ∷ []) ∙ ap (λ n. n + 1) (length-lines sigs)

all-begun : (text : List ℕ) (sigs : List Sig) → AreSigs text sigs → AreBegun (pieces_of text) (length sigs) sigs
all-begun text sigs h =
    let size = size-of text sigs h in
    record {
      within = omega (arith, size);
      lines = sym (ap (λ n. take n (pieces_of text)) (sym (length-lines sigs))
          ∙ ap (λ (ls : List (List ℕ)). take (length (map sig_line sigs)) ls) h.text_is
          ∙ take-front (map sig_line sigs) ([] ∷ []));
      each = h.each;
      differ = h.differ;
    }

last-empty : (text : List ℕ) (sigs : List Sig) → AreSigs text sigs → piece_at (pieces_of text) (length sigs) ≡ []
last-empty text sigs h =
    ap (λ (ls : List (List ℕ)). get_or ls (length sigs) []) h.text_is
    ∙ ap (λ n. get_or (map sig_line sigs ++ ([] ∷ [])) n []) (sym (length-lines sigs))
    ∙ last-of (map sig_line sigs) []

none-offends : (text : List ℕ) (sigs : List Sig) → AreSigs text sigs → (place : ℕ) (kind : SigKind)
    → ¬ Offends (pieces_of text) place kind
none-offends text sigs h place Form (no_form more never) =
    let size = size-of text sigs h in
    none-before (pieces_of text) (length sigs) sigs (all-begun text sigs h) place Form (omega (arith, size, more)) (no_form more never)
none-offends text sigs h place Form (unended last some) =
    let size = size-of text sigs h in
    let at : length sigs ≡ place = omega (arith, size, last) in
    some (subst (λ n. piece_at (pieces_of text) n ≡ []) at (last-empty text sigs h))
none-offends text sigs h place Twice (again less first second) =
    let size = size-of text sigs h in
    let ended = second.ended in
    none-before (pieces_of text) (length sigs) sigs (all-begun text sigs h) place Twice (omega (arith, size, ended))
    (again less first second)

pub no-fault : SigsHaveNoFault
no-fault text sigs number kind h (too_long long) = let fits = h.fits in omega (arith, long, fits)
no-fault text sigs number kind h (at_line {place = place} {kind = other} fits o first) = none-offends text sigs h place other o

-- One fault ----------------------------------------------------------------------------------

has-form : (pieces : List (List ℕ)) (place : ℕ) (name : List ℕ) → HasName pieces place name → HasForm (piece_at pieces place)
has-form pieces place name h = record { name = name; of_name = h.line }

one-kind : (pieces : List (List ℕ)) (place : ℕ) (kind other : SigKind) → Offends pieces place kind → Offends pieces place other
    → kind ≡ other
one-kind pieces place Form Form a b = refl
one-kind pieces place Twice Twice a b = refl
one-kind pieces place Form Twice (no_form more never) (again {name = name} less first second) =
    absurd (never (has-form pieces place name second))
one-kind pieces place Form Twice (unended last some) (again less first second) =
    let ended = second.ended in absurd (omega (arith, last, ended))
one-kind pieces place Twice Form (again {name = name} less first second) (no_form more never) =
    absurd (never (has-form pieces place name second))
one-kind pieces place Twice Form (again less first second) (unended last some) =
    let ended = second.ended in absurd (omega (arith, last, ended))

one-place : (pieces : List (List ℕ)) (p q : ℕ) (kind other : SigKind) → Offends pieces p kind → Offends pieces q other
    → ((k : ℕ) (j : SigKind) → k < p → ¬ Offends pieces k j) → ((k : ℕ) (j : SigKind) → k < q → ¬ Offends pieces k j)
    → (p + 1 ≡ q + 1) × (kind ≡ other)
one-place pieces p q kind other a b none before =
    ⊎_elim (λ less. absurd (before p kind less a))
    (λ le. ⊎_elim (λ more. absurd (none q other more b))
    (λ ge.
    let same : p ≡ q = omega (arith, le, ge) in (
      ap (λ n. n + 1) same,
      one-kind pieces q kind other (subst (λ n. Offends pieces n kind) same a) b,
    ))
    (cases_lt q p))
    (cases_lt p q)

pub one-fault : FaultIsUnique
one-fault text number other kind another (too_long long) (too_long more) = (refl, refl)
one-fault text number other kind another (too_long long) (at_line fits o first) = absurd (omega (arith, long, fits))
one-fault text number other kind another (at_line fits o first) (too_long long) = absurd (omega (arith, long, fits))
one-fault text number other kind another (at_line {place = p} {kind = k} fits o first) (at_line {place = q} {kind = j} also b before) =
    one-place (pieces_of text) p q k j o b first before
