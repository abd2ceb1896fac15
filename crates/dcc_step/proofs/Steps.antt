-- How a step is made of an operation.
use Rattle.std.proofs.Common.{◌≡◌, ◌≢◌, ℕ, ◌+◌, ◌%◌, ◌≤◌, true, List, [], Option, Some, None, Err, IsErrOf, refl, sym, ap, ◌∙◌, subst, arith}
use Rattle.std.specs.Prelude.{if◌then◌else◌}
use Rattle.dcc_run.specs.End.{End, Running as running, Outside as outside, is_over}
use Rattle.dcc_run.specs.Event.{Event}
use Rattle.dcc_machine.specs.declared.instr.Op.{Op}
use Rattle.dcc_machine.specs.declared.instr.Op.TheVariants.{Int21}
use Rattle.dcc_machine.specs.declared.instr.Instr.{Instr}
use Rattle.dcc_machine.specs.Operations.{with_end}
use Rattle.dcc_machine.specs.Table.{instruction_at}
use Rattle.dcc_machine.specs.Step.{code_bytes, op_step, instruction_step, step}
use Rattle.dcc_machine.proofs.ConsoleLaws.{op-keeps}
use Rattle.dcc_step.specs.declared.ending.Ending.{Ending}
use Rattle.dcc_step.specs.declared.ending.Ending.TheVariants.{Running, Exit, Divide, Outside}
use Rattle.dcc_step.specs.declared.ending.Stepped.{Stepped}
use Rattle.dcc_step.specs.declared.ending.Stepped.TheVariants.{Running as goes_on, Exit as exits, Divide as divides, Outside as is_outside, InFault as read_fails, OutFault as write_fails}
use Rattle.dcc_console.specs.declared.fault.Fault.{Fault}
use Rattle.dcc_console.specs.declared.fault.Fault.TheVariants.{Input, Output}
use Rattle.dcc_console.specs.Counts.{CountsFaults}
use Rattle.dcc_console.specs.WithConsole.{WithConsole, beside_console}
use Rattle.dcc_console.specs.Steps.{HasEnded, Makes, MakesSteps, made, Steps, Runs, refusal_of}
use Rattle.dcc_step.specs.Core.{Core, with_console, core_of, state_of, changed_by}
use Rattle.dcc_step.specs.Ending.{end_of, answer_of, fault_answer_of}
use Rattle.dcc_step.specs.Stepped.{machine, machine_by, counted, StepAnswers, LeadsOnBytes, outcome_of, end_told}
use Rattle.dcc_step.proofs.Scenes.{made_quiet, made_as, refused_as, refused_core, leads_quiet, leads_as}

-- an operation other than INT 21h
pub operation_made : (op : Op) (at : ℕ) (m new : Core) (left taken : Option (List ℕ)) → op ≢ Int21
    → new ≡ changed_by (op_step m.cpu op at) m
    → Makes (machine_by (λ cpu. op_step cpu op at)) (beside_console m left taken) (beside_console new left taken)
operation_made op at m new left taken other is =
    made_quiet (λ cpu. op_step cpu op at) m new left taken (ap (λ (k : Core). k.cpu) is)
    (λ input events. op-keeps m.cpu op at other input events (state_of m) ∙ ap (λ k. with_console k input events) (sym is))

-- the machine with the instruction pointer after an instruction
pub moved_on : (inside m : Core) (len next : ℕ) → inside ≡ m → next ≡ (inside.ip + len) % 65536
    → record inside { ip = next } ≡ record m { ip = (m.ip + len) % 65536 }
moved_on inside m len next view next_is =
    ap (λ (k : Core). record k { ip = next }) view
    ∙ ap (λ i. record m { ip = i }) (next_is ∙ ap (λ (k : Core). (k.ip + len) % 65536) view)

-- what a step answers

pub answer_made : (e : Ending) → outcome_of (answer_of e) ≡ made
answer_made Running = refl
answer_made (Exit code) = refl
answer_made Divide = refl
answer_made (Outside at) = refl

pub answer_tells : (e : Ending) → end_told (answer_of e) ≡ end_of e
answer_tells Running = refl
answer_tells (Exit code) = refl
answer_tells Divide = refl
answer_tells (Outside at) = refl

-- a step that was made answers how the run has ended
pub answered : (e : Ending) (answer : Stepped) (before now : WithConsole Core) → answer ≡ answer_of e → Makes machine before now
    → Steps machine (outcome_of answer) before now
answered e answer before now is step_was_made =
    subst (λ o. Steps machine o before now) (sym (ap outcome_of is ∙ answer_made e)) step_was_made

pub answered_run : (e : Ending) (answer : Stepped) (most : ℕ) (before now : WithConsole Core) → answer ≡ answer_of e
    → MakesSteps machine most before now → Runs machine most (outcome_of answer) before now
answered_run e answer most before now is run =
    subst (λ o. Runs machine most o before now) (sym (ap outcome_of is ∙ answer_made e)) run

pub ended : (m : Core) (end : End) → m.end ≡ end → HasEnded machine m end
ended m end is w s stands = ap (λ (c : Core). c.end) stands ∙ is

pub answers : (e : Ending) (answer : Stepped) (m : Core) → answer ≡ answer_of e → m.end ≡ end_of e → HasEnded machine m (end_told answer)
answers e answer m is end = ended m (end_told answer) (end ∙ sym (ap end_told is ∙ answer_tells e))

-- an answer that tells how the run has ended tells of no fault
pub no_fault : (answer : Stepped) (reads reads_now writes writes_now : ℕ) → outcome_of answer ≡ made → reads ≤ reads_now
    → writes ≤ writes_now → CountsFaults (answer ≡ read_fails) (answer ≡ write_fails) reads reads_now writes writes_now
no_fault answer reads reads_now writes writes_now is read written = record {
  input_faults = read;
  output_faults = written;
  read_failed = λ fails. let both = sym is ∙ ap outcome_of fails in cc;
  write_failed = λ fails. let both = sym is ∙ ap outcome_of fails in cc;
}

-- a fault of an operation is answered as it was counted
fault_counts : {T : Type 0} (fault : Fault) (answer : Stepped) (reads reads_now writes writes_now : ℕ) → answer ≡ fault_answer_of fault
    → CountsFaults (IsErrOf {T = T} (Err fault) Input) (IsErrOf {T = T} (Err fault) Output) reads reads_now writes writes_now
    → CountsFaults (answer ≡ read_fails) (answer ≡ write_fails) reads reads_now writes writes_now
fault_counts Input answer reads reads_now writes writes_now is counts = record {
  input_faults = counts.input_faults;
  output_faults = counts.output_faults;
  read_failed = λ fails. counts.read_failed refl;
  write_failed = λ fails. let both = sym is ∙ fails in cc;
}
fault_counts Output answer reads reads_now writes writes_now is counts = record {
  input_faults = counts.input_faults;
  output_faults = counts.output_faults;
  read_failed = λ fails. let both = sym is ∙ fails in cc;
  write_failed = λ fails. counts.write_failed refl;
}

pub over : (e : Ending) → e ≢ Running → is_over (end_of e) ≡ true
over Running other = absurd (other refl)
over (Exit code) other = refl
over Divide other = refl
over (Outside at) other = refl

-- the answer of a step or a run tells that it is over, where it was made and does not say that it goes on
pub answer_over : (answer : Stepped) → answer ≢ goes_on → outcome_of answer ≡ made → is_over (end_told answer) ≡ true
answer_over goes_on other is = absurd (other refl)
answer_over (exits code) other is = refl
answer_over divides other is = refl
answer_over (is_outside at) other is = refl
answer_over read_fails other is = cc
answer_over write_fails other is = cc

-- a machine whose run has ended
pub stays_over : (m : Core) (left taken : Option (List ℕ)) → is_over m.end ≡ true → Makes machine (beside_console m left taken) (beside_console m left taken)
stays_over m left taken over =
    made_quiet step m m left taken refl
    (λ input events. ap (λ b. if b then with_console m input events else instruction_step m.cpu (instruction_at m.cpu m.ip (code_bytes (with_console m input events))) (with_console m input events)) over)

-- a machine that runs makes the instruction that is found
pub step_is : (m : Core) (found : Option Instr) → m.end ≡ running → instruction_at m.cpu m.ip (code_bytes (state_of m)) ≡ found
    → (input : List ℕ) (events : List Event) → step m.cpu (with_console m input events) ≡ instruction_step m.cpu found (with_console m input events)
step_is m found runs is input events =
    let s = with_console m input events in
    ap (λ e. if is_over e then s else instruction_step m.cpu (instruction_at m.cpu m.ip (code_bytes s)) s) runs
    ∙ ap (λ f. instruction_step m.cpu f s) is

pub step_outside : (m new : Core) (left taken : Option (List ℕ)) → m.end ≡ running → instruction_at m.cpu m.ip (code_bytes (state_of m)) ≡ None
    → new ≡ changed_by (with_end (outside m.ip) m.ip) m
    → Makes machine (beside_console m left taken) (beside_console new left taken)
step_outside m new left taken runs none is =
    made_quiet step m new left taken (ap (λ (k : Core). k.cpu) is)
    (λ input events. step_is m None runs none input events ∙ ap (λ k. with_console k input events) (sym is))

-- the machine with its instruction pointer past an instruction
abbrev pub moved_past : Instr → Core → Core
moved_past instr m = record m { ip = (m.ip + instr.len) % 65536 }

pub step_made : (m : Core) (instr : Instr) (left taken : Option (List ℕ)) (now : WithConsole Core) → m.end ≡ running
    → instruction_at m.cpu m.ip (code_bytes (state_of m)) ≡ Some instr
    → Makes (machine_by (λ cpu. op_step cpu instr.op m.ip)) (beside_console (moved_past instr m) left taken) now
    → Makes machine (beside_console m left taken) now
step_made m instr left taken now runs found done =
    made_as (λ cpu. op_step cpu instr.op m.ip) step m (moved_past instr m) left taken now refl (step_is m (Some instr) runs found) done

pub step_refused : (m new : Core) (instr : Instr) (fault : Fault) (left taken left_now taken_now : Option (List ℕ)) → m.end ≡ running
    → instruction_at m.cpu m.ip (code_bytes (state_of m)) ≡ Some instr
    → Steps (machine_by (λ cpu. op_step cpu instr.op m.ip)) (refusal_of fault) (beside_console (moved_past instr m) left taken) (beside_console new left_now taken_now)
    → Steps machine (refusal_of fault) (beside_console m left taken) (beside_console m left_now taken_now)
step_refused m new instr fault left taken left_now taken_now runs found refused =
    refused_as (λ cpu. op_step cpu instr.op m.ip) step fault m (moved_past instr m) new left taken left_now taken_now (step_is m (Some instr) runs found) refused

-- a step is made, as the code has it: by the instruction's offset, and the machine with its instruction pointer moved
pub step_made_at : (m old : Core) (at : ℕ) (instr : Instr) (left taken : Option (List ℕ)) (now : WithConsole Core) → m.end ≡ running
    → instruction_at m.cpu m.ip (code_bytes (state_of m)) ≡ Some instr
    → Makes (machine_by (λ cpu. op_step cpu instr.op at)) (beside_console old left taken) now
    → at ≡ m.ip → old ≡ moved_past instr m → Makes machine (beside_console m left taken) now
step_made_at m old at instr left taken now runs found done here moved =
    step_made m instr left taken now runs found
    (subst (λ k. Makes (machine_by (λ cpu. op_step cpu instr.op m.ip)) (beside_console k left taken) now) moved
    (subst (λ a. Makes (machine_by (λ cpu. op_step cpu instr.op a)) (beside_console old left taken) now) here done))

pub step_refused_at : (m old new back : Core) (at : ℕ) (instr : Instr) (fault : Fault) (left taken left_now taken_now : Option (List ℕ)) → m.end ≡ running
    → instruction_at m.cpu m.ip (code_bytes (state_of m)) ≡ Some instr
    → Steps (machine_by (λ cpu. op_step cpu instr.op at)) (refusal_of fault) (beside_console old left taken) (beside_console new left_now taken_now)
    → at ≡ m.ip → old ≡ moved_past instr m → (new ≡ moved_past instr m → back ≡ m)
    → Steps machine (refusal_of fault) (beside_console m left taken) (beside_console back left_now taken_now)
step_refused_at m old new back at instr fault left taken left_now taken_now runs found refused here moved put_back =
    let kept : new ≡ old = refused_core (λ cpu. op_step cpu instr.op at) fault old new left taken left_now taken_now refused in
    subst (λ k. Steps machine (refusal_of fault) (beside_console m left taken) (beside_console k left_now taken_now)) (sym (put_back (kept ∙ moved)))
    (step_refused m new instr fault left taken left_now taken_now runs found
    (subst (λ k. Steps (machine_by (λ cpu. op_step cpu instr.op m.ip)) (refusal_of fault) (beside_console k left taken) (beside_console new left_now taken_now)) moved
    (subst (λ a. Steps (machine_by (λ cpu. op_step cpu instr.op a)) (refusal_of fault) (beside_console old left taken) (beside_console new left_now taken_now)) here refused)))

-- What is taken is a byte.

pub leads_over : (m : Core) → is_over m.end ≡ true → LeadsOnBytes step m m
leads_over m over =
    let s = state_of m in
    leads_quiet step m m
    (ap (λ b. core_of m.cpu (if b then s else instruction_step m.cpu (instruction_at m.cpu m.ip (code_bytes s)) s)) over)

-- a machine whose run has ended answers its end and stays
pub over_answers : (e : Ending) (answer : Stepped) (m : Core) (left taken : Option (List ℕ)) (reads writes : ℕ) → answer ≡ answer_of e
    → m.end ≡ end_of e → e ≢ Running → StepAnswers answer (counted m left taken reads writes) (counted m left taken reads writes)
over_answers e answer m left taken reads writes is end other =
    let is_ended : is_over m.end ≡ true = ap is_over end ∙ over e other in
    record {
      step = answered e answer _ _ is (stays_over m left taken is_ended);
      bytes = λ so. leads_over m is_ended;
      answer = answers e answer m is end;
      faults = no_fault answer reads reads writes writes (ap outcome_of is ∙ answer_made e) (omega arith) (omega arith);
    }

pub leads_outside : (m new : Core) → m.end ≡ running → instruction_at m.cpu m.ip (code_bytes (state_of m)) ≡ None
    → new ≡ changed_by (with_end (outside m.ip) m.ip) m → LeadsOnBytes step m new
leads_outside m new runs none is = leads_quiet step m new (ap (core_of m.cpu) (step_is m None runs none [] []) ∙ sym is)

pub leads_at : (m old new : Core) (at : ℕ) (instr : Instr) → m.end ≡ running
    → instruction_at m.cpu m.ip (code_bytes (state_of m)) ≡ Some instr
    → LeadsOnBytes (λ cpu. op_step cpu instr.op at) old new → at ≡ m.ip → old ≡ moved_past instr m → LeadsOnBytes step m new
leads_at m old new at instr runs found led here moved =
    leads_as (λ cpu. op_step cpu instr.op m.ip) step m (moved_past instr m) new refl (step_is m (Some instr) runs found)
    (subst (λ k. LeadsOnBytes (λ cpu. op_step cpu instr.op m.ip) k new) moved
    (subst (λ a. LeadsOnBytes (λ cpu. op_step cpu instr.op a) old new) here led))

pub not_made : (fault : Fault) (answer : Stepped) → answer ≡ fault_answer_of fault → outcome_of answer ≡ made → ⊥
not_made Input answer is did = let both = sym (ap outcome_of is) ∙ did in cc
not_made Output answer is did = let both = sym (ap outcome_of is) ∙ did in cc

-- what a step answers that is refused
pub refused_outcome : (fault : Fault) → outcome_of (fault_answer_of fault) ≡ refusal_of fault
refused_outcome Input = refl
refused_outcome Output = refl

pub refused_end : (fault : Fault) → end_told (fault_answer_of fault) ≡ running
refused_end Input = refl
refused_end Output = refl

pub refused : (fault : Fault) (answer : Stepped) (before now : WithConsole Core) → answer ≡ fault_answer_of fault
    → Steps machine (refusal_of fault) before now → Steps machine (outcome_of answer) before now
refused fault answer before now is was_refused =
    subst (λ o. Steps machine o before now) (sym (ap outcome_of is ∙ refused_outcome fault)) was_refused

-- What a step answers by the operation of its instruction.

-- where there is none
pub outside_answers : (e : Ending) (answer : Stepped) (m new : Core) (left taken : Option (List ℕ)) (reads writes : ℕ) → m.end ≡ running
    → instruction_at m.cpu m.ip (code_bytes (state_of m)) ≡ None → new ≡ changed_by (with_end (outside m.ip) m.ip) m
    → answer ≡ answer_of e → new.end ≡ end_of e → StepAnswers answer (counted m left taken reads writes) (counted new left taken reads writes)
outside_answers e answer m new left taken reads writes runs none is told end = record {
  step = answered e answer _ _ told (step_outside m new left taken runs none is);
  bytes = λ so. leads_outside m new runs none is;
  answer = answers e answer new told end;
  faults = no_fault answer reads reads writes writes (ap outcome_of told ∙ answer_made e) (omega arith) (omega arith);
}

-- the answer of a step that was refused
pub refused_answers : {T : Type 0} (fault : Fault) (answer : Stepped) (m back : Core) (left taken left_now taken_now : Option (List ℕ))
    (reads reads_now writes writes_now : ℕ) → m.end ≡ running → answer ≡ fault_answer_of fault
    → Steps machine (refusal_of fault) (beside_console m left taken) (beside_console back left_now taken_now)
    → CountsFaults (IsErrOf {T = T} (Err fault) Input) (IsErrOf {T = T} (Err fault) Output) reads reads_now writes writes_now
    → StepAnswers answer (counted m left taken reads writes) (counted back left_now taken_now reads_now writes_now)
refused_answers fault answer m back left taken left_now taken_now reads reads_now writes writes_now runs told was_refused counts =
    let kept : back ≡ m = refused_core step fault m back left taken left_now taken_now was_refused in
    record {
      step = refused fault answer _ _ told was_refused;
      bytes = λ so. absurd (not_made fault answer told so);
      answer = ended back (end_told answer) (ap (λ (k : Core). k.end) kept ∙ runs ∙ sym (ap end_told told ∙ refused_end fault));
      faults = fault_counts fault answer reads reads_now writes writes_now told counts;
    }
