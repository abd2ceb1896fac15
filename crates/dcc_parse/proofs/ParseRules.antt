-- What is parsed stands for its tree, and what is refused for none.
use native.Mathlib.Omega.{arith}
use Rattle.std.proofs.Common.{◌≡◌, ℕ, suc, ◌+◌, ◌≤◌, ◌<◌, List, [], ◌∷◌, ◌++◌, length, drop, Option, Some, None, Result, Ok, Err, IfOk, refl, sym, ap, ◌∙◌, subst}
use Rattle.std.specs.Prelude.{if◌then◌else◌, is_some, ◌==◌}
use Rattle.dcc_c.specs.Kinds.{Offence, first_of}
use Rattle.dcc_c.specs.Numbered.{rows}
use Rattle.dcc_c.specs.Partial.{PartialText}
use Rattle.dcc_c.specs.Pieces.{Piece, after_version, line_at}
use Rattle.dcc_c.specs.Pieces as spec
use Rattle.dcc_c.specs.Reading.{Reader, Got, got}
use Rattle.dcc_c.specs.ReadingText.{reading_of}
use Rattle.dcc_c.specs.Refusals.{IsRefused, too_long, no_version, offends}
use Rattle.dcc_c.specs.Stripped.{plain_text}
use Rattle.dcc_c.specs.Complete.{is_complete_text}
use Rattle.dcc_c.specs.Text.{StandsFor}
use Rattle.dcc_c.specs.TextOffences.{text_offences, stop_offences, unread, offences_of}
use Rattle.dcc_c.specs.Tree.{Tree}
use Rattle.dcc_c.specs.Views.{tree_of}
use Rattle.dcc_c.specs.declared.syntax.Unit.{Unit as TextUnit}
use Rattle.dcc_c.proofs.reading.Passing.{if-cases}
use Rattle.dcc_c.proofs.reading.ParseLaws.{IsParsed}
use Rattle.dcc_c.proofs.reading.TextWhole.{complete_reading}
use Rattle.dcc_c.proofs.refusals.ExprRules.{none-both}
use Rattle.dcc_c.proofs.refusals.FirstRules.{first-none, first-some}
use Rattle.dcc_lex.proofs.laws.TextParsed.{parsed-stands, stands-parsed, stands-one}
use Rattle.dcc_reader.specs.declared.offence.Offence.{Offence as Found}
use Rattle.dcc_reader.specs.declared.offence.ParseKind.TheVariants.{Length, Version}
use Rattle.dcc_reader.specs.OffenceViews.{offence_of}
use Rattle.dcc_parse.specs.Fault.{IsRefusal, IsWhole, IsTreeOf}

-- Trees.

no-stop : (stop : Option Offence) → stop_offences stop ≡ [] → stop ≡ None
no-stop None none = refl
no-stop (Some o) none = absurd cc

all-read : (r : Reader) → r.stop ≡ None → unread r ≡ []
all-read r going = ap (λ s. if is_some s then r.left else []) going

-- nothing offends in what was read
pub read-whole : (pieces : List Piece) (text : PartialText) (following : Reader) → got text following ≡ reading_of pieces →
    first_of (stop_offences following.stop ++ text_offences text (unread following)) ≡ None → IsWhole pieces text
read-whole pieces text following same first =
    let none = first-none (stop_offences following.stop ++ text_offences text (unread following)) first in
    let both = none-both (stop_offences following.stop) (text_offences text (unread following)) none in
    let going = no-stop following.stop both.0 in
    let value : text ≡ (reading_of pieces).value = ap (λ (g : Got PartialText). g.value) same in
    let whole = (complete_reading pieces (sym (ap (λ (g : Got PartialText). g.following.stop) same) ∙ going)).0 in
    record {
      complete = ap is_complete_text value ∙ whole;
      none = ap (text_offences text) (sym (all-read following going)) ∙ both.1;
      tree = record {
        clean = ap (λ (g : Got PartialText). stop_offences g.following.stop ++ text_offences g.value (unread g.following)) (sym same) ∙ none;
        same = ap plain_text (sym value);
      };
    }

pub tree-parsed : (pieces : List Piece) (tree : Tree) → IsTreeOf pieces tree → IsParsed pieces tree
tree-parsed pieces tree is =
    let reading = reading_of pieces in
    let both = none-both (stop_offences reading.following.stop) (text_offences reading.value (unread reading.following)) is.clean in
    let going = no-stop reading.following.stop both.0 in
    record { going = going; same = is.same; clean = ap (text_offences reading.value) (sym (all-read reading.following going)) ∙ both.1 }

-- the text stands for the tree of its pieces
pub tree-stands : (text rest : List ℕ) (pieces : List Piece) (tree : Tree) → after_version text ≡ Some rest → pieces ≡ spec.pieces_of rest →
    IsTreeOf pieces tree → StandsFor text tree
tree-stands text rest pieces tree begins same is =
    parsed-stands text rest tree begins (subst (λ l. IsParsed l tree) same (tree-parsed pieces tree is))

-- Refusals.

pub rest-same : {rest other : List ℕ} → Some other ≡ Some rest → other ≡ rest
rest-same is = cc

pub no-rest : {rest : List ℕ} → None ≡ Some rest → ⊥
no-rest is = absurd cc

clean-parsed : (pieces : List Piece) (tree : Tree) → IsParsed pieces tree → offences_of pieces ≡ []
clean-parsed pieces tree parsed =
    let reading = reading_of pieces in
    ap (λ s. stop_offences s ++ text_offences reading.value (unread reading.following)) parsed.going
    ∙ ap (text_offences reading.value) (all-read reading.following parsed.going) ∙ parsed.clean

-- pieces in which something offends stand for no tree
pub offends-none : (text rest : List ℕ) (o : Offence) (tree : Tree) → after_version text ≡ Some rest → first_of (offences_of (spec.pieces_of rest)) ≡ Some o →
    StandsFor text tree → ⊥
offends-none text rest o tree begins first stands =
    let (other, begins_other, parsed) = stands-parsed text tree stands in
    let same : other ≡ rest = rest-same (sym begins_other ∙ begins) in
    first-some (offences_of (spec.pieces_of rest)) o first (clean-parsed (spec.pieces_of rest) tree (subst (λ r. IsParsed (spec.pieces_of r) tree) same parsed))

pub long-refused : (text : List ℕ) → 67108864 < length text → IsRefusal text 0 Length
long-refused text long = record { refused = too_long long; no_tree = λ short tree stands. absurd (omega (arith, long, short)) }

pub version-refused : (text : List ℕ) → length text ≤ 67108864 → after_version text ≡ None → IsRefusal text 1 Version
version-refused text short begins =
    record { refused = no_version short begins; no_tree = λ _ tree stands. let (other, begins_other, parsed) = stands-parsed text tree stands in no-rest (sym begins ∙ begins_other) }

pub offence-refused : (text rest : List ℕ) (pieces : List Piece) (o : Found) (line : ℕ) → length text ≤ 67108864 → after_version text ≡ Some rest →
    pieces ≡ spec.pieces_of rest → first_of (offences_of pieces) ≡ Some (offence_of o) →
    line ≡ line_at pieces (1 + rows text) o.at → IsRefusal text line o.kind
offence-refused text rest pieces o line short begins same first at =
    let is : first_of (offences_of (spec.pieces_of rest)) ≡ Some (offence_of o) = ap (λ l. first_of (offences_of l)) (sym same) ∙ first in
    let one : 1 + rows text ≡ suc (rows text) = omega arith in
    let place : line_at (spec.pieces_of rest) (suc (rows text)) o.at ≡ line =
    ap (λ n. line_at (spec.pieces_of rest) n o.at) (sym one) ∙ ap (λ l. line_at l (1 + rows text) o.at) (sym same) ∙ sym at in
    record {
      refused = subst (λ n. IsRefused text n (offence_of o).kind) place (offends short begins is);
      no_tree = λ _ tree. offends-none text rest (offence_of o) tree begins is;
    }

-- a text has no more line feeds than bytes
pub rows-few : (text : List ℕ) → rows text ≤ length text
rows-few [] = omega arith
rows-few (b ∷ bytes) =
    if-cases (λ n. n ≤ suc (length bytes)) (b == 10) (λ _. omega (arith, rows-few bytes)) (λ _. omega (arith, rows-few bytes))

-- past one piece
pub line-next : (pieces : List Piece) (last at : ℕ) → line_at (drop 1 pieces) last at ≡ line_at pieces last (suc at)
line-next [] last at = refl
line-next (p ∷ pieces) last at = refl

-- the unit is the only one that the text stands for
pub stands-alone : {E : Type 0} (text : List ℕ) (parsed : Result TextUnit E) → IfOk parsed (λ unit. StandsFor text (tree_of unit)) →
    IfOk parsed (λ unit. (tree : Tree) → StandsFor text tree → tree ≡ tree_of unit)
stands-alone text (Ok unit) stands = λ tree other. stands-one text tree (tree_of unit) other stands
stands-alone text (Err e) stands = tt
