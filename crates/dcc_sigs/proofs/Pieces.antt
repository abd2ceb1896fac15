-- The pieces of a text, as they are lent.
use Rattle.std.proofs.Common.{◌≡◌, ◌≢◌, ◌<◌, ◌≤◌, ℕ, zero, suc, ◌+◌, Bool, true, false, List, [], ◌∷◌, length, map, get_or, refl, sym, ap, ◌∙◌, subst, arith}
use Rattle.std.specs.Prelude.{◌==◌, IfErr, Result, Ok, Err}
use Rattle.std.specs.Global.{Vec}
use Rattle.std.specs.BTreeSet as set
use Rattle.std.specs.Prelude.{count_by}
use Rattle.std.proofs.lemmas.Bool.{eqb-true}
use Rattle.std.proofs.lemmas.List.{length-map}
use Rattle.std.proofs.lemmas.List.Splits.{length-slice_split}
use Rattle.std.proofs.lemmas.List.Sums.{count_by-le-length}
use denote.Ref.{Bor}
use Rattle.dcc_c.specs.Grammar.{is_among}
use Rattle.dcc_c.specs.Tree.{Word}
use Rattle.dcc_reader.specs.WordViews.{holds}
use Rattle.dcc_sigs.specs.declared.read.Begun.{Begun}
use Rattle.dcc_sigs.specs.declared.signature.Sig.{Sig}
use Rattle.dcc_sigs.specs.declared.signature.SigKind.{SigKind}
use Rattle.dcc_sigs.specs.declared.signature.SigKind.TheVariants.{Form}
use Rattle.dcc_sigs.specs.declared.signature.SigFault.{SigFault}
use Rattle.dcc_sigs.specs.declared.signature.SigFault.TheVariants.{At, Memory}
use Rattle.dcc_sigs.specs.Fault.{text_most, pieces_of, piece_at, AreSigs, Offends, unended, IsFaultOf}
use Rattle.dcc_sigs.specs.Steps.{lent_pieces, names_of, AreBegun, IsBegun, AreRead, IsFaultOfPieces}
use Rattle.dcc_sigs.proofs.Reading.{begun-first, first-of, read-all, whole-read, whole-first}

-- Lent pieces --------------------------------------------------------------------------------

pub length-lent : (ps : List (Bor (List ℕ))) → length (lent_pieces ps) ≡ length ps
length-lent ps = length-map ps (λ piece. piece.now)

pub piece-lent : (ps : List (Bor (List ℕ))) (k : ℕ) (d : Bor (List ℕ)) → k < length ps
    → piece_at (lent_pieces ps) k ≡ (get_or ps k d).now
piece-lent [] k d l = absurd (omega arith)
piece-lent (p ∷ ps) zero d l = refl
piece-lent (p ∷ ps) (suc k) d l = piece-lent ps k d (omega arith)

-- Beginning and end --------------------------------------------------------------------------

pub lent-begun : (ps : List (Bor (List ℕ))) (sigs : Vec Sig) (names : set.BTreeSet (Bor (List ℕ))) → 0 < length ps
    → sigs.items ≡ [] → ((word : Word) → holds names word ≡ false)
    → IsBegun (lent_pieces ps) 0 (record { sigs = sigs; names = names })
lent-begun ps sigs names some none empty =
    let size = length-lent ps in
    record {
      sigs = subst (λ (ss : List Sig). AreBegun (lent_pieces ps) 0 ss) (sym none) (begun-first (lent_pieces ps) (omega (arith, size, some)));
      names = λ word. empty word ∙ ap (λ (ss : List Sig). is_among (names_of ss) word) (sym none);
    }

pub lent-more : (ps : List (Bor (List ℕ))) (place : ℕ) → place + 1 < length ps → place + 1 < length (lent_pieces ps)
lent-more ps place l = let size = length-lent ps in omega (arith, size, l)

-- the piece of the place offends
pub offends-first : (pieces : List (List ℕ)) (place : ℕ) (begun : Begun) (kind : SigKind) (fault : SigFault) → IsBegun pieces place begun
    → Offends pieces place kind → fault ≡ At (place + 1) kind → IsFaultOfPieces pieces fault
offends-first pieces place begun kind fault h o is =
    subst (IsFaultOfPieces pieces) (sym is) (first-of pieces place begun.sigs.items kind h.sigs o)

-- bytes stand behind the last line feed
pub ends-unfed : (ps : List (Bor (List ℕ))) (place last : ℕ) (begun : Begun) (d : Bor (List ℕ)) (fault : SigFault) (empty : Bool)
    → IsBegun (lent_pieces ps) place begun → place ≡ last → last + 1 ≡ length ps
    → empty ≡ (length (get_or ps last d).now == 0) → empty ≡ false → fault ≡ At (last + 1) Form
    → IsFaultOfPieces (lent_pieces ps) fault
ends-unfed ps place last begun d fault empty h at end is some fault-is =
    offends-first (lent_pieces ps) last begun Form fault (subst (λ n. IsBegun (lent_pieces ps) n begun) at h)
    (unended (let size = length-lent ps in omega (arith, size, end)) not-empty) fault-is
  where
    not-none : (l : List ℕ) → (length l == 0) ≡ false → l ≢ []
    not-none l e none = let f : true ≡ false = ap (λ (t : List ℕ). length t == 0) (sym none) ∙ e in absurd (let g : ⊥ = cc in g)

    not-empty : piece_at (lent_pieces ps) last ≢ []
    not-empty none = not-none (get_or ps last d).now (sym is ∙ some)
        (sym (piece-lent ps last d (omega (arith, end))) ∙ none)

-- nothing stands behind the last line feed
pub ends-fed : (ps : List (Bor (List ℕ))) (place last : ℕ) (begun : Begun) (d : Bor (List ℕ)) (empty : Bool)
    → IsBegun (lent_pieces ps) place begun → place ≡ last → last + 1 ≡ length ps
    → empty ≡ (length (get_or ps last d).now == 0) → empty ≡ true → AreRead (lent_pieces ps) begun.sigs.items
ends-fed ps place last begun d empty h at end is none =
    read-all (lent_pieces ps) place begun.sigs.items h.sigs (let size = length-lent ps in omega (arith, size, end, at))
    (ap (piece_at (lent_pieces ps)) at ∙ piece-lent ps last d (omega (arith, end))
    ∙ no-bytes (get_or ps last d).now (eqb-true (length (get_or ps last d).now) 0 (sym is ∙ none)))
  where
    no-bytes : (l : List ℕ) → length l ≡ 0 → l ≡ []
    no-bytes [] e = refl
    no-bytes (x ∷ l) e = absurd (omega (arith, e))

-- Whole texts --------------------------------------------------------------------------------

pub text-read : (text : List ℕ) (pieces : List (List ℕ)) (sigs : List Sig) → length text ≤ text_most → pieces ≡ pieces_of text
    → AreRead pieces sigs → AreSigs text sigs
text-read = whole-read

pub text-refused : (text : List ℕ) (pieces : List (List ℕ)) (fault : SigFault) → length text ≤ text_most → pieces ≡ pieces_of text
    → IsFaultOfPieces pieces fault → IsFaultOf text fault
text-refused text pieces (At number kind) fits are h = whole-first text pieces number kind fits are h
text-refused text pieces Memory fits are h = tt

pub texts-refused : {T : Type 0} (text : List ℕ) (pieces : List (List ℕ)) (result : Result T SigFault) → length text ≤ text_most
    → pieces ≡ pieces_of text → IfErr result (IsFaultOfPieces pieces) → IfErr result (IsFaultOf text)
texts-refused text pieces (Ok sigs) fits are h = tt
texts-refused text pieces (Err fault) fits are h = text-refused text pieces fault fits are h

-- a text has a piece, and at most one more than it has bytes
pub piece-count : (text : List ℕ) (ps : List (Bor (List ℕ))) → map (λ piece. piece.now) ps ≡ pieces_of text
    → (0 < length ps) × (length ps ≤ length text + 1)
piece-count text ps h =
    let size : length (lent_pieces ps) ≡ length ps = length-lent ps in
    let count : length (lent_pieces ps) ≡ count_by (λ byte. byte == 10) text + 1 = ap length h ∙ length-slice_split (λ byte. byte == 10) text in
    let few = count_by-le-length (λ byte. byte == 10) text in
    (omega (arith, size, count), omega (arith, size, count, few))
