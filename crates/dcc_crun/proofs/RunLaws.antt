-- What steps and runs answer.
use Rattle.std.proofs.Common.{◌≡◌, ◌≢◌, ℕ, true, refl, sym, ap, ◌∙◌, subst}
use Rattle.dcc_run.specs.End.{is_over}
use Rattle.dcc_c.proofs.RunLaws.{text_lawful}
use Rattle.dcc_console.specs.Laws.{IsLawfulExecutor}
use Rattle.dcc_console.specs.WithConsole.{WithConsole}
use Rattle.dcc_console.specs.Steps.{HasEnded, Makes, MakesSteps, made, Steps, Runs}
use Rattle.dcc_crun.specs.declared.ending.Ending.{Ending}
use Rattle.dcc_crun.specs.declared.ending.Ending.TheVariants.{Running as going, Exit as left_with, Divide as faulted, Stuck as stuck_at}
use Rattle.dcc_crun.specs.declared.ending.CStepped.{CStepped}
use Rattle.dcc_crun.specs.declared.ending.CStepped.TheVariants.{Running, Exit, Divide, Stuck, InFault, OutFault, Memory}
use Rattle.dcc_crun.specs.declared.run.CRun.{CRun}
use Rattle.dcc_crun.specs.Ending.{end_of, answer_of}
use Rattle.dcc_crun.specs.Stepped.{texts, outcome_of, end_told}
use Rattle.dcc_crun.proofs.StandingLaws.{stands_with_input}

-- texts are executed lawfully
pub texts_execute : IsLawfulExecutor texts
texts_execute = record {
  lawful = text_lawful;
  left_is = λ tree input s. refl;
  stands_with = λ tree input run s stands. stands_with_input tree run s input stands;
}

-- the answer to how a run has ended

pub answer_made : (e : Ending) → outcome_of (answer_of e) ≡ made
answer_made going = refl
answer_made (left_with code) = refl
answer_made faulted = refl
answer_made (stuck_at line) = refl

pub answer_tells : (e : Ending) → end_told (answer_of e) ≡ end_of e
answer_tells going = refl
answer_tells (left_with code) = refl
answer_tells faulted = refl
answer_tells (stuck_at line) = refl

pub answered : (e : Ending) (answer : CStepped) (before now : WithConsole CRun) → answer ≡ answer_of e → Makes texts before now
    → Steps texts (outcome_of answer) before now
answered e answer before now is done =
    subst (λ o. Steps texts o before now) (sym (ap outcome_of is ∙ answer_made e)) done

pub answered_run : (e : Ending) (answer : CStepped) (most : ℕ) (before now : WithConsole CRun) → answer ≡ answer_of e
    → MakesSteps texts most before now → Runs texts most (outcome_of answer) before now
answered_run e answer most before now is run =
    subst (λ o. Runs texts most o before now) (sym (ap outcome_of is ∙ answer_made e)) run

-- the states that a run stands for have ended as it has
pub ended : (run : CRun) → HasEnded texts run (end_of run.moment.end)
ended run tree s stands = sym stands.moment.end

pub answers : (e : Ending) (answer : CStepped) (run : CRun) → answer ≡ answer_of e → run.moment.end ≡ e → HasEnded texts run (end_told answer)
answers e answer run is has tree s stands =
    ended run tree s stands ∙ ap end_of has ∙ sym (ap end_told is ∙ answer_tells e)

pub over : (e : Ending) → e ≢ going → is_over (end_of e) ≡ true
over going other = absurd (other refl)
over (left_with code) other = refl
over faulted other = refl
over (stuck_at line) other = refl

-- an answer that is not Running tells that the run is over, where its steps were made
pub answer_over : (answer : CStepped) → answer ≢ Running → outcome_of answer ≡ made → is_over (end_told answer) ≡ true
answer_over Running other is = absurd (other refl)
answer_over (Exit code) other is = refl
answer_over Divide other is = refl
answer_over (Stuck line) other is = refl
answer_over InFault other is = cc
answer_over OutFault other is = cc
answer_over Memory other is = cc

pub no_fault : (e : Ending) → answer_of e ≡ InFault → ⊥
no_fault going is = cc
no_fault (left_with code) is = cc
no_fault faulted is = cc
no_fault (stuck_at line) is = cc

pub no_write_fault : (e : Ending) → answer_of e ≡ OutFault → ⊥
no_write_fault going is = cc
no_write_fault (left_with code) is = cc
no_write_fault faulted is = cc
no_write_fault (stuck_at line) is = cc
