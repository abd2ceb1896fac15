use Rattle.std.proofs.Common.{◌≡◌, ◌<◌, ℕ}
use Rattle.dcc_machine.specs.MzImage.{RelocationFits, relocated_image}
use Rattle.dcc_mz.proofs.relocation.relocate.Given as goal

-- the entries so far fit, and have moved their words
abbrev pub invariant-loop-entry : goal.invariant-loop-entry
invariant-loop-entry l = record {
  moved : l.image ≡ relocated_image l.file l.entry;
  fit : (j : ℕ) → j < l.entry → RelocationFits l.file j;
}
