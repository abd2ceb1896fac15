-- What is at fault between procedures, as the refusal of their program.
use Rattle.dcc_prog.specs.declared.refusal.Refusal.{Refusal}
use Rattle.dcc_prog.specs.declared.refusal.Refusal.TheVariants.{Construct, Memory}
use Rattle.dcc_prog.specs.declared.refusal.ConstructKind.TheVariants.{ArgumentReused as Reused, SeveralResults as Several}
use Rattle.dcc_summaries.specs.declared.summaries.SumsFault.{SumsFault}
use Rattle.dcc_summaries.specs.declared.summaries.SumsFault.TheVariants.{ArgumentReused, SeveralResults, Memory as NoMemory}

-- a construct of its kind at the address, or want of memory
abbrev pub refusal_for : SumsFault → Refusal
refusal_for (ArgumentReused at) = Construct Reused at
refusal_for (SeveralResults at) = Construct Several at
refusal_for NoMemory = Memory
