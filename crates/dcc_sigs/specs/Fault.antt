-- Which signatures a file tells, and why it isn't read: the first line that offends, and how. Lines end in a line feed.
use Rattle.std.specs.Prelude.{◌≡◌, ◌≢◌, ◌<◌, ◌≤◌, ℕ, ◌+◌, ◌==◌, List, [], ◌∷◌, ◌++◌, length, map, All, AllPairs}
use Rattle.std.specs.Prelude.{slice_index_or, string_bytes}
use Rattle.std.specs.List.{slice_split}
use Rattle.dcc_c.specs.Tree.{Word}
use Rattle.dcc_sigs.specs.declared.signature.Sig.{Sig}
use Rattle.dcc_sigs.specs.declared.signature.SigKind.{SigKind}
use Rattle.dcc_sigs.specs.declared.signature.SigKind.TheVariants.{Form, Twice}
use Rattle.dcc_sigs.specs.declared.signature.SigFault.{SigFault}
use Rattle.dcc_sigs.specs.declared.signature.SigFault.TheVariants.{At, Memory}
use Rattle.dcc_sigs.specs.Signature.{sig_line, IsSig, IsLineOf, HasForm}

-- Lines --------------------------------------------------------------------------------------

-- the greatest number of bytes of a file
abbrev pub text_most : ℕ
text_most = 262144

-- what stands before the first line feed, between two of them, and behind the last one
abbrev pub pieces_of : List ℕ → List (List ℕ)
pieces_of text = slice_split (λ byte. byte == 10) text

abbrev pub piece_at : List (List ℕ) → ℕ → List ℕ
piece_at pieces place = slice_index_or pieces place []

-- Signatures ---------------------------------------------------------------------------------

-- no two of the signatures have one name
abbrev pub DifferInNames : List Sig → Type 0
DifferInNames sigs = AllPairs (λ (a b : Sig). string_bytes a.name ≢ string_bytes b.name) sigs

-- the text's lines are those of the signatures, whose names differ
pub record AreSigs (text : List ℕ) (sigs : List Sig) : Type 0 where
  pub fits : length text ≤ text_most
  pub each : All IsSig sigs
  pub differ : DifferInNames sigs
  pub text_is : pieces_of text ≡ map sig_line sigs ++ ([] ∷ [])

-- Faults -------------------------------------------------------------------------------------

-- the piece of this place ends in a line feed, and is the line of a signature with this name
pub record HasName (pieces : List (List ℕ)) (place : ℕ) (name : Word) : Type 0 where
  pub ended : place + 1 < length pieces
  pub line : IsLineOf (piece_at pieces place) name

-- how a piece offends: a line by another form than a signature's, or by a name that an earlier line has; what stands
-- behind the last line feed by not being empty
pub data Offends (pieces : List (List ℕ)) (place : ℕ) : SigKind → Type 0 where
  no_form : place + 1 < length pieces → ¬ HasForm (piece_at pieces place) → Offends pieces place Form
  unended : place + 1 ≡ length pieces → piece_at pieces place ≢ [] → Offends pieces place Form
  again :
      {earlier : ℕ} {name : Word}
      → earlier < place
      → HasName pieces earlier name
      → HasName pieces place name
      → Offends pieces place Twice

-- the text's first line that offends, counted from 1, and how it offends; a text that is too long offends in line 0
pub data IsFirstFault (text : List ℕ) : ℕ → SigKind → Type 0 where
  too_long : text_most < length text → IsFirstFault text 0 Form
  at_line :
      {place : ℕ} {kind : SigKind}
      → length text ≤ text_most
      → Offends (pieces_of text) place kind
      → ((earlier : ℕ) (other : SigKind) → earlier < place → ¬ Offends (pieces_of text) earlier other)
      → IsFirstFault text (place + 1) kind

-- the fault says why the file isn't read; want of memory has no cause in it
abbrev pub IsFaultOf : List ℕ → SigFault → Type 0
IsFaultOf text (At number kind) = IsFirstFault text number kind
IsFaultOf text Memory = Unit {0}
