-- Laws of files of signatures.
use Rattle.std.specs.Prelude.{◌≡◌, ℕ, List}
use Rattle.dcc_sigs.specs.declared.signature.Sig.{Sig}
use Rattle.dcc_sigs.specs.declared.signature.SigKind.{SigKind}
use Rattle.dcc_sigs.specs.Fault.{AreSigs, IsFirstFault}

-- No line offends in a file whose signatures are read.
abbrev pub SigsHaveNoFault : Type 0
SigsHaveNoFault = (text : List ℕ) (sigs : List Sig) (number : ℕ) (kind : SigKind) → AreSigs text sigs
    → ¬ IsFirstFault text number kind

-- One line at most offends first, and in one way.
abbrev pub FaultIsUnique : Type 0
FaultIsUnique = (text : List ℕ) (number other : ℕ) (kind another : SigKind) → IsFirstFault text number kind
    → IsFirstFault text other another → (number ≡ other) × (kind ≡ another)
