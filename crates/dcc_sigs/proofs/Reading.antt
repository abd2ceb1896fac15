-- Line after line, and which line offends first.
use Rattle.std.proofs.Common.{◌≡◌, ◌≢◌, ◌<◌, ◌≤◌, ℕ, zero, suc, ◌+◌, Bool, true, false, List, [], ◌∷◌, ◌++◌, length, map, take, get_or, All, AllPairs, refl, sym, ap, ◌∙◌, subst, arith, ⊎_elim, inl, inr, ◌⊎◌, length-append}
use Rattle.std.specs.Prelude.{◌||◌, string_bytes}
use Rattle.std.proofs.lemmas.Bool.{or_cases}
use Rattle.std.proofs.lemmas.List.{get_or-take, take_more, length-map, length-take-le}
use Rattle.std.proofs.lemmas.List.Elements.{All-head, All-tail, All-nil, All-push}
use Rattle.std.proofs.lemmas.List.Quantifiers.{all_pairs_push}
use Rattle.dcc_c.specs.Grammar.{is_among}
use Rattle.dcc_c.specs.Token.{same_bytes}
use Rattle.dcc_c.specs.Tree.{Word}
use Rattle.dcc_c.proofs.NameLaws.{same_bytes-equal, same_bytes-refl}
use Rattle.dcc_sigs.specs.declared.signature.Sig.{Sig}
use Rattle.dcc_sigs.specs.declared.signature.SigKind.{SigKind}
use Rattle.dcc_sigs.specs.declared.signature.SigKind.TheVariants.{Form, Twice}
use Rattle.dcc_sigs.specs.Signature.{sig_line, line_of, IsSignature, IsSig, IsLineOf, HasForm}
use Rattle.dcc_sigs.specs.Fault.{text_most, pieces_of, piece_at, DifferInNames, AreSigs, HasName, Offends, no_form, unended, again, IsFirstFault, too_long, at_line}
use Rattle.dcc_sigs.specs.Steps.{names_of, AreBegun, AreRead, IsFirstOf}
use Rattle.dcc_sigs.specs.Reading.{name_size}
use Rattle.dcc_sigs.proofs.Reread.{name-back}

-- Signatures ---------------------------------------------------------------------------------

line-of : (sig : Sig) → IsSig sig → IsLineOf (sig_line sig) (string_bytes sig.name)
line-of sig h = record { parts = sig.bytes.items; signature = h; line_is = refl }

-- each line of the signatures has a form
lines-formed : (sigs : List Sig) → All IsSig sigs → (k : ℕ) → k < length sigs → HasForm (get_or (map sig_line sigs) k [])
lines-formed [] are k l = absurd (omega arith)
lines-formed (sig ∷ sigs) are zero l =
    record { name = string_bytes sig.name; of_name = line-of sig (All-head IsSig sig sigs are) }
lines-formed (sig ∷ sigs) are (suc k) l = lines-formed sigs (All-tail IsSig sig sigs are) k (omega arith)

-- a line of the signatures has the name of its signature alone
names-at : (sigs : List Sig) → All IsSig sigs → (k : ℕ) (d : Sig) (name : Word) → k < length sigs
    → IsLineOf (get_or (map sig_line sigs) k []) name → string_bytes (get_or sigs k d).name ≡ name
names-at [] are k d name l h = absurd (omega arith)
names-at (sig ∷ sigs) are zero d name l h =
    sym (name-back (sig_line sig) (string_bytes sig.name) (line-of sig (All-head IsSig sig sigs are)))
    ∙ name-back (sig_line sig) name h
names-at (sig ∷ sigs) are (suc k) d name l h = names-at sigs (All-tail IsSig sig sigs are) k d name (omega arith) h

-- the line at a place, with this name
record StandsAt (sigs : List Sig) (name : Word) : Type 0 where
  place : ℕ
  within : place < length sigs
  line : IsLineOf (get_or (map sig_line sigs) place []) name

-- a name of the signatures stands in a line
name-stands : (sigs : List Sig) → All IsSig sigs → (name : Word) → is_among (names_of sigs) name ≡ true → StandsAt sigs name
name-stands [] are name h = absurd (let f : ⊥ = cc in f)
name-stands (sig ∷ sigs) are name h =
    ⊎_elim
    (λ same. record {
      place = 0;
      within = omega arith;
      line = subst (λ (w : Word). IsLineOf (sig_line sig) w) (sym (same_bytes-equal name (string_bytes sig.name) same))
          (line-of sig (All-head IsSig sig sigs are));
    })
    (λ other.
    let rest = name-stands sigs (All-tail IsSig sig sigs are) name other in
    let fits = rest.within in
    record { place = suc rest.place; within = omega arith; line = rest.line })
    (or_cases (same_bytes name (string_bytes sig.name)) (is_among (names_of sigs) name) h)

-- what is no name of the signatures differs from each
name-differs : (sigs : List Sig) (name : Word) → is_among (names_of sigs) name ≡ false → (k : ℕ) (d : Sig) → k < length sigs
    → string_bytes (get_or sigs k d).name ≢ name
name-differs [] name new k d l e = omega arith
name-differs (sig ∷ sigs) name new zero d l e =
    let same : same_bytes name (string_bytes sig.name) ≡ true =
    subst (λ (w : Word). same_bytes name w ≡ true) (sym e) (same_bytes-refl name) in
    let yes : is_among (names_of (sig ∷ sigs)) name ≡ true = ap (λ b. b || is_among (names_of sigs) name) same in
    let f : true ≡ false = sym yes ∙ new in absurd (let g : ⊥ = cc in g)
name-differs (sig ∷ sigs) name new (suc k) d l e =
    name-differs sigs name (second (same_bytes name (string_bytes sig.name)) (is_among (names_of sigs) name) new) k d (omega arith) e
  where
    second : (a b : Bool) → a || b ≡ false → b ≡ false
    second true b h = absurd (let f : ⊥ = cc in f)
    second false b h = h

-- Lines so far -------------------------------------------------------------------------------

count : (pieces : List (List ℕ)) (place : ℕ) (sigs : List Sig) → AreBegun pieces place sigs → length sigs ≡ place
count pieces place sigs h =
    let within = h.within in
    sym (length-map sigs sig_line) ∙ ap length h.lines ∙ length-take-le place pieces (omega (arith, within))

same-line : (pieces : List (List ℕ)) (place : ℕ) (sigs : List Sig) → AreBegun pieces place sigs → (k : ℕ) → k < place
    → get_or (map sig_line sigs) k [] ≡ piece_at pieces k
same-line pieces place sigs h k l = ap (λ (ls : List (List ℕ)). get_or ls k []) h.lines ∙ get_or-take place pieces k [] l

pub begun-first : (pieces : List (List ℕ)) → 0 < length pieces → AreBegun pieces 0 []
begun-first pieces some = record {
  within = some;
  lines = refl;
  each = All-nil IsSig;
  differ = λ i j d l m. absurd (omega arith);
}

map-push : (sigs : List Sig) (sig : Sig) → map sig_line (sigs ++ sig ∷ []) ≡ map sig_line sigs ++ (sig_line sig ∷ [])
map-push [] sig = refl
map-push (s ∷ sigs) sig = ap (λ (ls : List (List ℕ)). sig_line s ∷ ls) (map-push sigs sig)

pub begun-more : (pieces : List (List ℕ)) (place : ℕ) (sigs : List Sig) (sig : Sig) → AreBegun pieces place sigs
    → place + 1 < length pieces → IsSig sig → piece_at pieces place ≡ sig_line sig
    → is_among (names_of sigs) (string_bytes sig.name) ≡ false → AreBegun pieces (place + 1) (sigs ++ sig ∷ [])
begun-more pieces place sigs sig h more is line new = record {
  within = more;
  lines = map-push sigs sig
      ∙ ap (λ (ls : List (List ℕ)). ls ++ (sig_line sig ∷ [])) h.lines
      ∙ ap (λ (l : List ℕ). take place pieces ++ (l ∷ [])) (sym line)
      ∙ sym (take_more pieces place [] h.within);
  each = All-push IsSig sigs sig h.each is;
  differ = all_pairs_push (λ (a b : Sig). string_bytes a.name ≢ string_bytes b.name) sigs sig h.differ
      (λ k d l. name-differs sigs (string_bytes sig.name) new k d l);
}

pub offends-again : (pieces : List (List ℕ)) (place : ℕ) (sigs : List Sig) (name : Word) → AreBegun pieces place sigs
    → place + 1 < length pieces → IsLineOf (piece_at pieces place) name → is_among (names_of sigs) name ≡ true
    → Offends pieces place Twice
offends-again pieces place sigs name h more is old =
    let at = name-stands sigs h.each name old in
    let size = count pieces place sigs h in
    let fits = at.within in
    let l : at.place < place = omega (arith, size, fits) in
    let line : IsLineOf (piece_at pieces at.place) name =
    subst (λ (t : List ℕ). IsLineOf t name) (same-line pieces place sigs h at.place l) at.line in
    again l (record { ended = omega arith; line = line }) (record { ended = more; line = is })

-- none of the lines so far offends
pub none-before : (pieces : List (List ℕ)) (place : ℕ) (sigs : List Sig) → AreBegun pieces place sigs
    → (k : ℕ) (kind : SigKind) → k < place → ¬ Offends pieces k kind
none-before pieces place sigs h k Form l (no_form more never) =
    let size = count pieces place sigs h in
    never (subst HasForm (same-line pieces place sigs h k l) (lines-formed sigs h.each k (omega (arith, size))))
none-before pieces place sigs h k Form l (unended last some) =
    let within = h.within in omega arith
none-before pieces place sigs h k Twice l (again {earlier = j} {name = name} less first second) = by sigs refl
  where
    size : length sigs ≡ place
    size = count pieces place sigs h

    by : (others : List Sig) → others ≡ sigs → ⊥
    by [] e = let none : length sigs ≡ 0 = ap length (sym e) in omega (arith, size, none)
    by (d ∷ others) e =
        let m : j < place = omega arith in
        let a = names-at sigs h.each j d name (omega (arith, size))
        (subst (λ (t : List ℕ). IsLineOf t name) (sym (same-line pieces place sigs h j m)) first.line) in
        let b = names-at sigs h.each k d name (omega (arith, size))
        (subst (λ (t : List ℕ). IsLineOf t name) (sym (same-line pieces place sigs h k l)) second.line) in
        h.differ j k d less (omega (arith, size)) (a ∙ sym b)

pub first-of : (pieces : List (List ℕ)) (place : ℕ) (sigs : List Sig) (kind : SigKind) → AreBegun pieces place sigs
    → Offends pieces place kind → IsFirstOf pieces (place + 1) kind
first-of pieces place sigs kind h o = record {
  place = place;
  number_is = refl;
  offends = o;
  first = λ k other l. none-before pieces place sigs h k other l;
}

take-whole : (pieces : List (List ℕ)) → take (length pieces) pieces ≡ pieces
take-whole [] = refl
take-whole (p ∷ pieces) = ap (λ (ls : List (List ℕ)). p ∷ ls) (take-whole pieces)

pub read-all : (pieces : List (List ℕ)) (place : ℕ) (sigs : List Sig) → AreBegun pieces place sigs
    → place + 1 ≡ length pieces → piece_at pieces place ≡ [] → AreRead pieces sigs
read-all pieces place sigs h last none = record {
  each = h.each;
  differ = h.differ;
  pieces_are = sym (ap (λ n. take n pieces) last ∙ take-whole pieces)
      ∙ take_more pieces place [] h.within
      ∙ ap (λ (ls : List (List ℕ)). ls ++ (piece_at pieces place ∷ [])) (sym h.lines)
      ∙ ap (λ (l : List ℕ). map sig_line sigs ++ (l ∷ [])) none;
}

-- Whole texts --------------------------------------------------------------------------------

pub whole-read : (text : List ℕ) (pieces : List (List ℕ)) (sigs : List Sig) → length text ≤ text_most → pieces ≡ pieces_of text
    → AreRead pieces sigs → AreSigs text sigs
whole-read text pieces sigs fits are h = record {
  fits = fits;
  each = h.each;
  differ = h.differ;
  text_is = sym are ∙ h.pieces_are;
}

pub whole-first : (text : List ℕ) (pieces : List (List ℕ)) (number : ℕ) (kind : SigKind) → length text ≤ text_most
    → pieces ≡ pieces_of text → IsFirstOf pieces number kind → IsFirstFault text number kind
whole-first text pieces number kind fits are h =
    subst (λ n. IsFirstFault text n kind) (sym h.number_is)
    (at_line fits (subst (λ (ps : List (List ℕ)). Offends ps h.place kind) are h.offends)
    (λ k other l o. h.first k other l (subst (λ (ps : List (List ℕ)). Offends ps k other) (sym are) o)))
