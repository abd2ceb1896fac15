-- What the pieces of a text up to some place tell. This stands between the definitions and the code; no public contract
-- rests on it.
use Rattle.std.specs.Prelude.{◌≡◌, ◌<◌, ◌≤◌, ℕ, ◌+◌, Bool, List, [], ◌∷◌, ◌++◌, length, map, take, All, Option, Some, None, string_bytes}
use denote.Ref.{Bor}
use Rattle.dcc_c.specs.Grammar.{is_among}
use Rattle.dcc_c.specs.Tree.{Word}
use Rattle.dcc_reader.specs.WordViews.{holds}
use Rattle.dcc_sigs.specs.declared.read.Begun.{Begun}
use Rattle.dcc_sigs.specs.declared.signature.Sig.{Sig}
use Rattle.dcc_sigs.specs.declared.signature.SigKind.{SigKind}
use Rattle.dcc_sigs.specs.declared.signature.SigFault.{SigFault}
use Rattle.dcc_sigs.specs.declared.signature.SigFault.TheVariants.{At, Memory}
use Rattle.dcc_sigs.specs.Signature.{sig_line, IsSig}
use Rattle.dcc_sigs.specs.Fault.{DifferInNames, Offends}

abbrev pub lent_pieces : List (Bor (List ℕ)) → List (List ℕ)
lent_pieces pieces = map (λ piece. piece.now) pieces

abbrev pub names_of : List Sig → List Word
names_of sigs = map (λ sig. string_bytes sig.name) sigs

-- the pieces before this place are the lines of these signatures, whose names differ
pub record AreBegun (pieces : List (List ℕ)) (place : ℕ) (sigs : List Sig) : Type 0 where
  pub within : place < length pieces
  pub lines : map sig_line sigs ≡ take place pieces
  pub each : All IsSig sigs
  pub differ : DifferInNames sigs

pub record IsBegun (pieces : List (List ℕ)) (place : ℕ) (begun : Begun) : Type 0 where
  pub sigs : AreBegun pieces place begun.sigs.items
  pub names : (word : Word) → holds begun.names word ≡ is_among (names_of begun.sigs.items) word

-- the piece of this place is the line of one signature more, or it offends so
abbrev pub IsDone : List (List ℕ) → ℕ → Begun → Option SigKind → Type 0
IsDone pieces place begun None = IsBegun pieces (place + 1) begun
IsDone pieces place begun (Some kind) = Offends pieces place kind

-- the pieces are the lines of the signatures, and nothing behind the last line feed
pub record AreRead (pieces : List (List ℕ)) (sigs : List Sig) : Type 0 where
  pub each : All IsSig sigs
  pub differ : DifferInNames sigs
  pub pieces_are : pieces ≡ map sig_line sigs ++ ([] ∷ [])

-- the piece that offends first, counted from 1
pub record IsFirstOf (pieces : List (List ℕ)) (number : ℕ) (kind : SigKind) : Type 0 where
  pub place : ℕ
  pub number_is : number ≡ place + 1
  pub offends : Offends pieces place kind
  pub first : (earlier : ℕ) (other : SigKind) → earlier < place → ¬ Offends pieces earlier other

abbrev pub IsFaultOfPieces : List (List ℕ) → SigFault → Type 0
IsFaultOfPieces pieces (At number kind) = IsFirstOf pieces number kind
IsFaultOfPieces pieces Memory = Unit {0}
