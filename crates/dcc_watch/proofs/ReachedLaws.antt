-- Where a run comes, and what is kept follows its next step, a run comes then too. So the stack stands wherever what is
-- kept is in procedures, and has room for the frame of each clean CALL.
use Rattle.std.proofs.Common.{◌≡◌, ℕ, suc, ◌+◌, ◌-◌, ◌/◌, ◌<◌, true, List, [], ◌++◌, map, length, Option, Some, None, refl, sym, ap, ◌∙◌, subst, arith}
use Rattle.std.proofs.lemmas.List.{length-map}
use Rattle.dcc_run.specs.End.{is_over}
use Rattle.dcc_machine.specs.declared.cpu.Cpu.{Cpu}
use Rattle.dcc_prog.specs.declared.procedure.Layout.{Layout}
use Rattle.dcc_prog.specs.declared.frame.Program.{Program}
use Rattle.dcc_machine.specs.declared.instr.Instr.{Instr}
use Rattle.dcc_machine.specs.declared.instr.Op.{Op}
use Rattle.dcc_machine.specs.declared.instr.Op.TheVariants.{Call}
use Rattle.dcc_machine.specs.Machine.{State}
use Rattle.dcc_machine.specs.Step.{step}
use Rattle.dcc_prog.specs.Clean.{Stack, Foul, foul_of}
use Rattle.dcc_prog.specs.Watch.{Watch, InProcedures, Stopped, next_foul}
use Rattle.dcc_prog.proofs.WatchLaws.{next-watch}
use Rattle.dcc_stack.specs.Standing.{StackStands}
use Rattle.dcc_stack.specs.Laws.{watch_after}
use Rattle.dcc_stack.proofs.RunLaws.{calls-room}
use Rattle.dcc_stack.proofs.StackLaws.{frames_stand}
use Rattle.dcc_step.specs.Core.{Core, core_of}
use Rattle.dcc_step.specs.Stepped.{LeadsOnBytes}
use Rattle.dcc_watch.specs.declared.frames.Live.{Live}
use Rattle.dcc_watch.specs.Following.{is_call, is_call_op}
use Rattle.dcc_watch.specs.Shapes.{live_frame}
use Rattle.dcc_watch.specs.Watching.{Watching}
use Rattle.dcc_watch.specs.Executor.{Stands}
use Rattle.dcc_watch.specs.Reached.{IsReached}
use Rattle.dcc_watch.proofs.Inputs.{no_bytes, joined_bytes, with_input, Takes, takes_step}
use Rattle.dcc_watch.proofs.InputRuns.{hushed, machine_beside, Refilled, refilled}
use Rattle.dcc_watch.proofs.StepLaws.{IsGoing, NextIs, Follows, found-is, stands_made, stands_fouled}

-- what is kept stands for each run that is alike but for the console
stands-alike :
    (program : Program) (code : Watching) (v w : Watch) → hushed v ≡ hushed w → Stands program code w
    → Stands program code v
stands-alike program code v w same stands = record {
  layout = stands.layout;
  shapes = stands.shapes;
  machine = ap (λ (u : Watch). core_of program.layout.cpu u.machine) same ∙ stands.machine;
  stage = ap (λ (u : Watch). u.stage) same ∙ stands.stage;
}

module _ (code : Watching) (found : Option Instr) where
  -- a foul step
  pub reached-foul : (foul : Foul) → IsGoing code found → NextIs code (Some foul) → IsReached code
      → IsReached (record code { stage = Stopped foul })
  reached-foul foul going next r = record {
    image = r.image;
    program = r.program;
    input = r.input;
    run = r.run;
    count = suc r.count;
    stands =
        subst (Stands r.program (record code { stage = Stopped foul }))
        (sym (next-watch r.image r.program r.run.program_is.loaded r.run.program_is.is_program.layout r.input r.count))
        (stands_fouled code found foul going next r.program (watch_after r.program r.image r.input r.count) r.stands);
  }

  -- where a CALL is clean there is room for its frame
  pub reached-room : (live : List Live) (written : List _) → IsGoing code found
      → code.stage ≡ InProcedures (record { frames = map live_frame live; written = written }) → NextIs code None
      → code.room ≡ (code.layout.hi - code.layout.lo) / 2 + 1 → IsReached code → is_call found ≡ true
      → length live < code.room
  reached-room live written going stage next room r call =
      let called = target instr.0.op instr.2 in
      let few = calls-room r.image r.program w.machine stack instr.0 called.0 stands called.1 clean in
      let count = length-map live live_frame in
      let is : code.room ≡ (r.program.layout.hi - r.program.layout.lo) / 2 + 1 =
      room ∙ ap (λ (l : Layout). (l.hi - l.lo) / 2 + 1) r.stands.layout in
      omega (arith, few, count, is)
    where
      target : (op : Op) → is_call_op op ≡ true → (target : ℕ) × (op ≡ Call target)
      target (Call t) is = (t, refl)
      target op is = cc

      call-of : (o : Option Instr) → is_call o ≡ true → (instr : Instr) × (o ≡ Some instr) × (is_call_op instr.op ≡ true)
      call-of None is = cc
      call-of (Some instr) is = (instr, refl, is)

      instr : (instr : Instr) × (found ≡ Some instr) × (is_call_op instr.op ≡ true)
      instr = call-of found call

      w : Watch
      w = watch_after r.program r.image r.input r.count

      stack : Stack
      stack = record { frames = map live_frame live; written = written }

      here : w.stage ≡ InProcedures stack
      here = r.stands.stage ∙ stage

      stands : StackStands r.image r.program.layout w.machine stack
      stands =
          frames_stand r.program.layout.cpu r.image r.program r.input r.count stack r.run
          (ap is_over (ap (λ (c : Core). c.end) r.stands.machine ∙ going.runs)) here

      clean : foul_of r.program stack w.machine (Some instr.0) ≡ None
      clean =
          ap (foul_of r.program stack w.machine) (sym instr.1 ∙ sym (found-is code found r.program w going r.stands))
          ∙ ap (λ g. next_foul r.program (record { machine = w.machine; stage = g })) (sym here)
          ∙ next r.program w r.stands

-- a step that the machine made
pub reached-made :
    (code now : Watching) (found : Option Instr) → IsGoing code found → NextIs code None → Follows code now found
    → LeadsOnBytes step code.machine now.machine → IsReached code → IsReached now
reached-made code now found going next follows led r = record {
  image = r.image;
  program = r.program;
  input = other.other;
  run = record { program_is = r.run.program_is; bytes = other.bytes };
  count = suc r.count;
  stands =
      subst (Stands r.program now)
      (sym (next-watch r.image r.program r.run.program_is.loaded r.run.program_is.is_program.layout other.other r.count))
      (stands_made code now found going next follows r.program w
      (stands-alike r.program code w first other.same r.stands) there);
}
  where
    cpu : Cpu
    cpu = r.program.layout.cpu

    first : Watch
    first = watch_after r.program r.image r.input r.count

    led_first : LeadsOnBytes step (core_of cpu first.machine) now.machine
    led_first = subst (λ m. LeadsOnBytes step m now.machine) (sym r.stands.machine) led

    beside : State
    beside = with_input led_first.input [] first.machine

    takes : Takes (step cpu) beside (step cpu beside)
    takes = takes_step cpu beside led_first.bytes

    other : Refilled r.image r.program r.run.program_is r.input r.count (takes.given ++ [])
    other =
        refilled r.image r.program r.run.program_is r.input r.run.bytes r.count (takes.given ++ [])
        (joined_bytes takes.given [] takes.bytes no_bytes)

    w : Watch
    w = watch_after r.program r.image other.other r.count

    there : core_of cpu (step cpu w.machine) ≡ now.machine
    there =
        ap (λ m. core_of cpu (step cpu m)) (machine_beside w first (takes.given ++ []) other.same other.left)
        ∙ ap (core_of cpu) (takes.same [] w.machine.events)
        ∙ led_first.leads
