-- One line more.
use Rattle.std.proofs.Common.{◌≡◌, ◌<◌, ℕ, ◌+◌, Bool, true, false, List, [], ◌∷◌, ◌++◌, length, refl, sym, ap, ◌∙◌, subst, Option, Some, None}
use Rattle.std.specs.Prelude.{◌||◌, not, string_bytes}
use Rattle.std.specs.Global.{Vec}
use Rattle.std.specs.BTreeSet as set
use denote.Ref.{Bor}
use Rattle.dcc_c.specs.Grammar.{is_among}
use Rattle.dcc_c.specs.Token.{same_bytes}
use Rattle.dcc_c.specs.Tree.{Word}
use Rattle.dcc_reader.specs.WordViews.{holds}
use Rattle.dcc_sigs.specs.declared.line.Line.{Line}
use Rattle.dcc_sigs.specs.declared.read.Begun.{Begun}
use Rattle.dcc_sigs.specs.declared.signature.Sig.{Sig}
use Rattle.dcc_sigs.specs.declared.signature.SigKind.TheVariants.{Form, Twice}
use Rattle.dcc_sigs.specs.Signature.{IsSignature, IsSig, IsLineOf, HasForm, sig_line, line_of}
use Rattle.dcc_sigs.specs.Fault.{piece_at, Offends, no_form}
use Rattle.dcc_sigs.specs.Reading.{IsReading, Tells}
use Rattle.dcc_sigs.specs.Steps.{names_of, AreBegun, IsBegun}
use Rattle.dcc_sigs.proofs.Reading.{begun-more, offends-again}

no-reading : (text : List ℕ) (found : Option Line) → ((line : Line) → found ≡ Some line → ⊥) → IsReading text found → ¬ HasForm text
no-reading text None never h = h
no-reading text (Some line) never h = absurd (never line refl)

-- the line is no signature's
pub unformed : (pieces : List (List ℕ)) (place : ℕ) (text : List ℕ) (found : Option Line) → place + 1 < length pieces
    → piece_at pieces place ≡ text → ((line : Line) → found ≡ Some line → ⊥) → IsReading text found → Offends pieces place Form
unformed pieces place text found more is never h =
    no_form more (subst (λ (t : List ℕ). ¬ HasForm t) (sym is) (no-reading text found never h))

told-line : (pieces : List (List ℕ)) (place : ℕ) (text : List ℕ) (line : Line) → piece_at pieces place ≡ text → Tells text line
    → IsLineOf (piece_at pieces place) line.name.now
told-line pieces place text line is told =
    record { parts = line.parts.items; signature = told.signature; line_is = is ∙ told.text_is }

held : (b h : Bool) → b ≡ not h → b ≡ false → h ≡ true
held b true e f = refl
held b false e f = let g : true ≡ false = sym e ∙ f in absurd (let k : ⊥ = cc in k)

new : (b h : Bool) → b ≡ not h → b ≡ true → h ≡ false
new b false e t = refl
new b true e t = let g : false ≡ true = sym e ∙ t in absurd (let k : ⊥ = cc in k)

-- an earlier line has the name
pub repeated : (pieces : List (List ℕ)) (place : ℕ) (begun : Begun) (text : List ℕ) (line : Line) (is_new : Bool)
    → IsBegun pieces place begun → place + 1 < length pieces → piece_at pieces place ≡ text → Tells text line
    → is_new ≡ not (holds begun.names line.name.now) → is_new ≡ false → Offends pieces place Twice
repeated pieces place begun text line is_new h more is told e old =
    offends-again pieces place begun.sigs.items line.name.now h.sigs more (told-line pieces place text line is told)
    (sym (h.names line.name.now) ∙ held is_new (holds begun.names line.name.now) e old)

swapped : (a b c : Bool) → a || (b || c) ≡ b || (a || c)
swapped true true c = refl
swapped true false c = refl
swapped false b c = refl

names-more : (sigs : List Sig) (sig : Sig) (word : Word)
    → same_bytes word (string_bytes sig.name) || is_among (names_of sigs) word ≡ is_among (names_of (sigs ++ sig ∷ [])) word
names-more [] sig word = refl
names-more (s ∷ sigs) sig word =
    swapped (same_bytes word (string_bytes sig.name)) (same_bytes word (string_bytes s.name)) (is_among (names_of sigs) word)
    ∙ ap (λ b. same_bytes word (string_bytes s.name) || b) (names-more sigs sig word)

-- the line is that of one signature more
pub grown : (pieces : List (List ℕ)) (place : ℕ) (begun : Begun) (text : List ℕ) (line : Line) (is_new : Bool) (sig : Sig)
    (sigs : Vec Sig) (names : set.BTreeSet (Bor (List ℕ))) → IsBegun pieces place begun → place + 1 < length pieces
    → piece_at pieces place ≡ text → Tells text line → is_new ≡ not (holds begun.names line.name.now) → is_new ≡ true
    → ((other : Word) → holds names other ≡ same_bytes other line.name.now || holds begun.names other)
    → (string_bytes sig.name ≡ line.name.now) × (sig.bytes ≡ line.parts) → sigs.items ≡ begun.sigs.items ++ sig ∷ []
    → IsBegun pieces (place + 1) (record { sigs = sigs; names = names })
grown pieces place begun text line is_new sig sigs names h more is told e fresh added same pushed = record {
  sigs = subst (λ (ss : List Sig). AreBegun pieces (place + 1) ss) (sym pushed)
      (begun-more pieces place begun.sigs.items sig h.sigs more signature line-is unknown);
  names = λ word. added word
      ∙ ap (λ (n : Word). same_bytes word n || holds begun.names word) (sym same.0)
      ∙ ap (λ b. same_bytes word (string_bytes sig.name) || b) (h.names word)
      ∙ names-more begun.sigs.items sig word
      ∙ ap (λ (ss : List Sig). is_among (names_of ss) word) (sym pushed);
}
  where
    signature : IsSig sig
    signature = subst (λ (n : Word). IsSignature n sig.bytes.items) (sym same.0)
        (subst (λ (v : Vec (Option ℕ)). IsSignature line.name.now v.items) (sym same.1) told.signature)

    line-is : piece_at pieces place ≡ sig_line sig
    line-is = is ∙ told.text_is ∙ ap (λ (n : Word). line_of n line.parts.items) (sym same.0)
        ∙ ap (λ (v : Vec (Option ℕ)). line_of (string_bytes sig.name) v.items) (sym same.1)

    unknown : is_among (names_of begun.sigs.items) (string_bytes sig.name) ≡ false
    unknown = ap (λ (n : Word). is_among (names_of begun.sigs.items) n) same.0 ∙ sym (h.names line.name.now)
        ∙ new is_new (holds begun.names line.name.now) e fresh
