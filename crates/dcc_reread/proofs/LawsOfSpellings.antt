-- The laws of spellings.
use Rattle.std.proofs.Common.{◌≡◌, ℕ, zero, suc, ◌<◌, List, [], ◌∷◌, length, get_or, Some, All, sym, ap, ◌∙◌, subst, refl, inl, inr, ◌≤◌, arith}
use Rattle.std.proofs.lemmas.Bool.{cases_lt}
use Rattle.dcc_machine.specs.declared.instr.Op.{Op}
use Rattle.dcc_machine.specs.Bytes.{byte_at}
use Rattle.dcc_machine.specs.WellFormed.{IsOperation}
use Rattle.dcc_machine.proofs.WellFormedLaws.{instruction-operation}
use Rattle.dcc_spelled.specs.Spelling.{spelling}
use Rattle.dcc_reread.specs.Reading.{operation_in}
use Rattle.dcc_reread.specs.Laws.{IsOfTable, SpellingIsReadBack, SpellingIsUnique}
use Rattle.dcc_reread.proofs.Forms.{IsInForm, operation-in_form}
use Rattle.dcc_reread.proofs.ReadBack.{read-back}

past-end : (bytes : List ℕ) (i : ℕ) → length bytes ≤ i → byte_at bytes i ≡ 0
past-end [] i l = refl
past-end (b ∷ bytes) zero l = absurd (omega arith)
past-end (b ∷ bytes) (suc i) l = past-end bytes i (omega arith)

byte-below : (bytes : List ℕ) → All (λ byte. byte < 256) bytes → (i : ℕ) → byte_at bytes i < 256
byte-below bytes h i = elim (cases_lt i (length bytes)) [
  | inl l ↦ h i 0 l
  | inr l ↦ let e = past-end bytes i l in omega arith
]

pub spelling_read_back : SpellingIsReadBack
spelling_read_back op h =
    let below = byte-below h.bytes h.are_bytes in
    let is : IsOperation op = subst IsOperation h.op_is (instruction-operation h.cpu h.at h.bytes h.instr below h.decoded) in
    let form : IsInForm op = subst IsInForm h.op_is (operation-in_form h.cpu h.at h.bytes h.instr below h.decoded) in
    read-back op is form

pub spelling_unique : SpellingIsUnique
spelling_unique op other h k e =
    let same : Some op ≡ Some other = sym (spelling_read_back op h) ∙ ap operation_in e ∙ spelling_read_back other k in
    cc
