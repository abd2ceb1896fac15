-- The two sides of a comparison.
use Rattle.std.proofs.Common.{◌≡◌, ◌≢◌, ℕ, List, [], ◌∷◌, refl, ap, sym, ◌∙◌, subst}
use Rattle.dcc_run.specs.End.{End as RunEnd}
use Rattle.dcc_machine.specs.declared.cpu.Cpu.{Cpu}
use Rattle.dcc_c.specs.Tree.{Tree}
use Rattle.dcc_console.specs.Console.{Executor}
use Rattle.dcc_console.specs.Steps.{HasEnded, Outcome, made, Steps, Makes}
use Rattle.dcc_console.specs.WithConsole.{WithConsole}
use Rattle.dcc_step.specs.declared.ending.Stepped.{Stepped}
use Rattle.dcc_step.specs.declared.ending.Stepped.TheVariants.{Running, Exit, Divide, Outside, InFault, OutFault}
use Rattle.dcc_step.specs.Stepped.{outcome_of}
use Rattle.dcc_crun.specs.declared.ending.CStepped.{CStepped}
use Rattle.dcc_crun.specs.declared.ending.CStepped.TheVariants.{Running as goes_on, Exit as exits, Divide as divides, Stuck, InFault as read_fault, OutFault as write_fault, Memory}
use Rattle.dcc_crun.specs.Stepped.{outcome_of as text_outcome_of}

-- an answer that is no fault tells of a step that was made
pub machine_made : (answer : Stepped) → answer ≢ InFault → answer ≢ OutFault → outcome_of answer ≡ made
machine_made Running a b = refl
machine_made (Exit code) a b = refl
machine_made Divide a b = refl
machine_made (Outside at) a b = refl
machine_made InFault a b = absurd (a refl)
machine_made OutFault a b = absurd (b refl)

pub text_made : (answer : CStepped) → answer ≢ read_fault → answer ≢ write_fault → answer ≢ Memory → text_outcome_of answer ≡ made
text_made goes_on a b c = refl
text_made (exits code) a b c = refl
text_made divides a b c = refl
text_made (Stuck line) a b c = refl
text_made read_fault a b c = absurd (a refl)
text_made write_fault a b c = absurd (b refl)
text_made Memory a b c = absurd (c refl)

-- a step that was made, by how it came out
pub made_by : {W C S : Type 0} (executor : Executor W C S) (outcome : Outcome) (before now : WithConsole C) → outcome ≡ made
    → Steps executor outcome before now → Makes executor before now
made_by executor outcome before now is steps = subst (λ o. Steps executor o before now) is steps

-- the end that the code tells
pub ended_as : {W C S : Type 0} (executor : Executor W C S) (code : C) (told end : RunEnd) → end ≡ told → HasEnded executor code told
    → HasEnded executor code end
ended_as executor code told end is ends = subst (λ e. HasEnded executor code e) (sym is) ends
