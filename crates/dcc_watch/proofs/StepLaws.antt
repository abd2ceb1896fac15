-- From a step of the machine to a step of the watched machine.
use Rattle.std.proofs.Common.{◌≡◌, ◌⊎◌, inl, inr, ℕ, Bool, true, false, List, [], ◌∷◌, ◌++◌, map, Option, Some, None, refl, sym, ap, ◌∙◌, subst}
use Rattle.std.specs.Prelude.{◌||◌, if◌then◌else◌}
use Rattle.std.proofs.lemmas.List.{append-nil}
use Rattle.dcc_run.specs.End.{Running as running, is_over}
use Rattle.dcc_prog.specs.declared.procedure.Layout.{Layout}
use Rattle.dcc_prog.specs.declared.frame.Program.{Program}
use Rattle.dcc_machine.specs.declared.instr.Instr.{Instr}
use Rattle.dcc_machine.specs.declared.instr.Op.{Op}
use Rattle.dcc_machine.specs.declared.instr.Op.TheVariants.{Call, Ret}
use Rattle.dcc_machine.specs.Machine.{State}
use Rattle.dcc_machine.specs.Table.{instruction_at}
use Rattle.dcc_machine.specs.Step.{step, code_bytes}
use Rattle.dcc_machine.specs.Access.{found_accesses}
use Rattle.dcc_prog.specs.Clean as told
use Rattle.dcc_prog.specs.Clean.{top_in, frames_after, stack_after}
use Rattle.dcc_prog.specs.Watch.{Watch, Stage, AtStart, InPrelude, InProcedures, Stopped, stage_after, next_instruction, next_foul, is_foul, moved, made as made_step, watch_step}
use Rattle.dcc_io.proofs.ToldLemmas.{append_told-nil, prepend_told-nil}
use Rattle.dcc_console.specs.Counts.{CountsFaults}
use Rattle.dcc_console.specs.WithConsole.{WithConsole, beside_console, told_bytes}
use Rattle.dcc_console.specs.Steps.{Comes, Makes, IsRefusedRead, IsRefusedWrite, Steps, made}
use Rattle.dcc_step.specs.declared.ending.Stepped.{Stepped}
use Rattle.dcc_step.specs.declared.ending.Stepped.TheVariants.{Running, Exit, Divide, Outside, InFault, OutFault}
use Rattle.dcc_step.specs.Core.{Core, core_of, state_of}
use Rattle.dcc_step.specs.Stepped as step_told
use Rattle.dcc_watch.specs.declared.frames.Live.{Live}
use Rattle.dcc_watch.specs.declared.shape.Shape.{Shape}
use Rattle.dcc_watch.specs.declared.watched.Watched.TheVariants.{Clean}
use Rattle.dcc_watch.specs.Foul.{foul_in}
use Rattle.dcc_watch.specs.Following.{live_after, live_after_op, written_following}
use Rattle.dcc_watch.specs.Shapes.{live_frame, shapes_of}
use Rattle.dcc_watch.specs.Watching.{Watching, AllHaveShapes}
use Rattle.dcc_watch.specs.Executor.{Stands, watched, is_stopped, is_refused}
use Rattle.dcc_watch.proofs.Quiet.{quiet, foul-quiet, stage_after-quiet}
use Rattle.dcc_watch.proofs.FrameFacts.{foul-is}

-- The instruction that was found, and that the next step is clean, for each state that the code stands for.

-- the machine runs, the instruction was found, and the run wasn't stopped
pub record IsGoing (code : Watching) (found : Option Instr) : Type 0 where
  pub runs : code.machine.end ≡ running
  pub is_found : found ≡ instruction_at code.machine.cpu code.machine.ip (code_bytes (state_of code.machine))
  pub unstopped : is_stopped code.stage ≡ false

-- what is foul of the next step, in each state that the code stands for
abbrev pub NextIs : Watching → Option told.Foul → Type 0
NextIs code foul = (program : Program) (w : Watch) → Stands program code w → next_foul program w ≡ foul

pub found-is : (code : Watching) (found : Option Instr) (program : Program) (w : Watch) → IsGoing code found → Stands program code w
    → next_instruction program.layout.cpu w.machine ≡ found
found-is code found program w going stands =
    ap (λ (c : Core). instruction_at c.cpu c.ip (code_bytes (state_of c))) stands.machine ∙ sym going.is_found

pub foul-stopped : (m : State) (stage : Stage) → is_foul (record { machine = m; stage = stage }) ≡ is_stopped stage
foul-stopped m AtStart = refl
foul-stopped m InPrelude = refl
foul-stopped m (InProcedures stack) = refl
foul-stopped m (Stopped foul) = refl

-- before the first frame nothing is foul
before-foul : (program : Program) (m : State) (stage : Stage) → (stage ≡ AtStart) ⊎ (stage ≡ InPrelude)
    → next_foul program (record { machine = m; stage = stage }) ≡ None
before-foul program m stage (inl is) = ap (λ s. next_foul program (record { machine = m; stage = s })) is
before-foul program m stage (inr is) = ap (λ s. next_foul program (record { machine = m; stage = s })) is

pub none_before : (code : Watching) → (code.stage ≡ AtStart) ⊎ (code.stage ≡ InPrelude) → NextIs code None
none_before code (inl is) program w stands = before-foul program w.machine w.stage (inl (stands.stage ∙ is))
none_before code (inr is) program w stands = before-foul program w.machine w.stage (inr (stands.stage ∙ is))

-- in procedures it is what the code finds
pub next_is : (code : Watching) (found : Option Instr) (live : List Live) (written : List Bool) → IsGoing code found
    → code.stage ≡ InProcedures (record { frames = map live_frame live; written = written }) → AllHaveShapes code.shapes live
    → NextIs code (foul_in code.layout live written (state_of code.machine) found)
next_is code found live written going stage known program w stands =
    let stack : told.Stack = record { frames = map live_frame live; written = written } in
    let all : AllHaveShapes (shapes_of program.procs.items program.cells.frames.items) live = subst (λ s. AllHaveShapes s live) stands.shapes known in
    ap (λ g. next_foul program (record { machine = w.machine; stage = g })) (stands.stage ∙ stage)
    ∙ ap (told.foul_of program stack w.machine) (found-is code found program w going stands)
    ∙ foul-is program live written w.machine found all
    ∙ sym (foul-quiet program.layout live written w.machine found)
    ∙ ap (λ (c : Core). foul_in program.layout live written (state_of c) found) stands.machine
    ∙ ap (λ l. foul_in l live written (state_of code.machine) found) (sym stands.layout)

-- The step of the watched machine.

step-is : (code : Watching) (found : Option Instr) (foul : Option told.Foul) (program : Program) (w : Watch) → IsGoing code found → NextIs code foul
    → Stands program code w → watch_step program w ≡ made_step program.layout foul w
step-is code found foul program w going next stands =
    let over : is_over w.machine.end ≡ false = ap is_over (ap (λ (c : Core). c.end) stands.machine ∙ going.runs) in
    let stopped : is_foul w ≡ false = foul-stopped w.machine w.stage ∙ ap is_stopped stands.stage ∙ going.unstopped in
    let all = made_step program.layout (next_foul program w) w in
    ap (λ b. if b || is_foul w then w else all) over ∙ ap (λ b. if b then w else all) stopped
    ∙ ap (λ f. made_step program.layout f w) (next program w stands)

module _ (code now : Watching) (found : Option Instr) where
  -- what is kept follows the step that the machine made
  pub record Follows : Type 0 where
    pub layout : now.layout ≡ code.layout
    pub shapes : now.shapes ≡ code.shapes
    pub stage : now.stage ≡ stage_after code.layout found (state_of code.machine) (state_of now.machine) code.stage

  -- from a state that the code stood for the step leads to one that it stands for, where the machine's step does
  pub stands_made : IsGoing code found → NextIs code None → Follows → (program : Program) (w : Watch) → Stands program code w
      → core_of program.layout.cpu (step program.layout.cpu w.machine) ≡ now.machine
      → Stands program now (watch_step program w)
  stands_made going next follows program w stands there =
      let cpu = program.layout.cpu in
      let s = w.machine in
      let stage : stage_after program.layout (next_instruction cpu s) s (step cpu s) w.stage ≡ now.stage =
      ap (λ f. stage_after program.layout f s (step cpu s) w.stage) (found-is code found program w going stands)
      ∙ ap (stage_after program.layout found s (step cpu s)) stands.stage
      ∙ ap (λ l. stage_after l found s (step cpu s) code.stage) (sym stands.layout)
      ∙ sym (stage_after-quiet code.layout found s (step cpu s) code.stage)
      ∙ ap (λ (c : Core). stage_after code.layout found (state_of c) (quiet (step cpu s)) code.stage) stands.machine
      ∙ ap (λ (c : Core). stage_after code.layout found (state_of code.machine) (state_of c) code.stage) there
      ∙ sym follows.stage in
      let next_stands : Stands program now (moved program.layout w) = record {
        layout = follows.layout ∙ stands.layout;
        shapes = follows.shapes ∙ stands.shapes;
        machine = there;
        stage = stage;
      } in
      subst (Stands program now) (sym (step-is code found None program w going next stands)) next_stands

  pub made_so : (left taken left_now taken_now : Option (List ℕ)) → IsGoing code found → NextIs code None → Follows
      → Makes step_told.machine (beside_console code.machine left taken) (beside_console now.machine left_now taken_now)
      → Makes watched (beside_console code left taken) (beside_console now left_now taken_now)
  made_so left taken left_now taken_now going next follows m = record {
    happened = m.happened;
    took = m.took;
    wrote = m.wrote;
    made = λ program w stands has.
        let there = m.made program.layout.cpu w.machine stands.machine has in
        let is = step-is code found None program w going next stands in
        record {
          stands = stands_made going next follows program w stands there.stands;
          left = ap (λ (u : Watch). u.machine.input) is ∙ there.left;
          events = ap (λ (u : Watch). u.machine.events) is ∙ there.events;
        };
  }

module _ (code : Watching) (found : Option Instr) (left taken left_now taken_now : Option (List ℕ)) (m : Core) where
  pub read_refused : IsGoing code found → NextIs code None → IsRefusedRead step_told.machine (beside_console code.machine left taken) (beside_console m left_now taken_now)
      → IsRefusedRead watched (beside_console code left taken) (beside_console (record code { machine = m }) left_now
      taken_now)
  read_refused going next r = record {
    takes = λ program w byte rest stands has.
        ap (λ (u : Watch). u.machine.input) (step-is code found None program w going next stands)
        ∙ r.takes program.layout.cpu w.machine byte rest stands.machine has;
    unchanged = ap (λ (s : WithConsole Core). beside_console (record code { machine = s.code }) s.left s.taken)
        r.unchanged;
  }

  pub write_refused : IsGoing code found → NextIs code None → IsRefusedWrite step_told.machine (beside_console code.machine left taken) (beside_console m left_now taken_now)
      → IsRefusedWrite watched (beside_console code left taken) (beside_console (record code { machine = m }) left_now
      taken_now)
  write_refused going next r = record {
    happened = r.happened;
    takes = λ program w rest stands has.
        ap (λ (u : Watch). u.machine.input) (step-is code found None program w going next stands)
        ∙ r.takes program.layout.cpu w.machine rest stands.machine has;
    happens = λ program w rest stands has.
        ap (λ (u : Watch). u.machine.events) (step-is code found None program w going next stands)
        ∙ r.happens program.layout.cpu w.machine rest stands.machine has;
    unchanged = ap (λ (c : Core). record code { machine = c }) r.unchanged;
    took = r.took;
    part = r.part;
  }

  -- a step that the machine refused
  pub refused_so : (stepped : Stepped) → is_refused stepped ≡ true → IsGoing code found → NextIs code None
      → Steps step_told.machine (step_told.outcome_of stepped) (beside_console code.machine left taken) (beside_console m left_now taken_now)
      → Steps watched (step_told.outcome_of stepped) (beside_console code left taken) (beside_console (record code { machine = m }) left_now taken_now)
  refused_so InFault is going next r = read_refused going next r
  refused_so OutFault is going next r = write_refused going next r
  refused_so Running is going next r = cc
  refused_so (Exit number) is going next r = cc
  refused_so Divide is going next r = cc
  refused_so (Outside at) is going next r = cc

-- a step that was refused leaves the machine
pub refused_kept : (stepped : Stepped) (m now : Core) (left taken left_now taken_now : Option (List ℕ)) → is_refused stepped ≡ true
    → Steps step_told.machine (step_told.outcome_of stepped) (beside_console m left taken) (beside_console now left_now taken_now) → now ≡ m
refused_kept InFault m now left taken left_now taken_now is r = ap (λ (s : WithConsole Core). s.code) r.unchanged
refused_kept OutFault m now left taken left_now taken_now is r = r.unchanged
refused_kept Running m now left taken left_now taken_now is r = cc
refused_kept (Exit number) m now left taken left_now taken_now is r = cc
refused_kept Divide m now left taken left_now taken_now is r = cc
refused_kept (Outside at) m now left taken left_now taken_now is r = cc

-- a step that was made
pub made_unless : (stepped : Stepped) → is_refused stepped ≡ false → step_told.outcome_of stepped ≡ made
made_unless Running is = refl
made_unless (Exit number) is = refl
made_unless Divide is = refl
made_unless (Outside at) is = refl
made_unless InFault is = cc
made_unless OutFault is = cc

-- a clean step has the faults of the machine's step
pub clean_faults : (stepped : Stepped) (reads reads_now writes writes_now : ℕ)
    → CountsFaults (stepped ≡ InFault) (stepped ≡ OutFault) reads reads_now writes writes_now
    → CountsFaults (Clean stepped ≡ Clean InFault) (Clean stepped ≡ Clean OutFault) reads reads_now writes writes_now
clean_faults stepped reads reads_now writes writes_now faults = record {
  input_faults = faults.input_faults;
  output_faults = faults.output_faults;
  read_failed = λ e. faults.read_failed (cc);
  write_failed = λ e. faults.write_failed (cc);
}

-- a foul step
pub stands_fouled : (code : Watching) (found : Option Instr) (foul : told.Foul) → IsGoing code found → NextIs code (Some foul)
    → (program : Program) (w : Watch) → Stands program code w
    → Stands program (record code { stage = Stopped foul }) (watch_step program w)
stands_fouled code found foul going next program w stands =
    subst (Stands program (record code { stage = Stopped foul })) (sym (step-is code found (Some foul) program w going next stands))
    (record { layout = stands.layout; shapes = stands.shapes; machine = stands.machine; stage = refl })

pub fouled : (code : Watching) (found : Option Instr) (foul : told.Foul) (left taken : Option (List ℕ)) → IsGoing code found → NextIs code (Some foul)
    → Makes watched (beside_console code left taken) (beside_console (record code { stage = Stopped foul }) left taken)
fouled code found foul left taken going next = record {
  happened = [];
  took = sym (prepend_told-nil left);
  wrote = sym (append_told-nil taken);
  made = λ program w stands has.
      let is = step-is code found (Some foul) program w going next stands in
      record {
        stands = stands_fouled code found foul going next program w stands;
        left = ap (λ (u : Watch). u.machine.input) is ∙ has;
        events = ap (λ (u : Watch). u.machine.events) is ∙ sym (append-nil w.machine.events);
      };
}

or-true : (b : Bool) → (b || true) ≡ true
or-true true = refl
or-true false = refl

staying : (code : Watching) (program : Program) (w : Watch) → (is_over code.machine.end ≡ true) ⊎ (is_stopped code.stage ≡ true)
    → Stands program code w → watch_step program w ≡ w
staying code program w (inl over) stands =
    let ended : is_over w.machine.end ≡ true = ap is_over (ap (λ (c : Core). c.end) stands.machine) ∙ over in
    ap (λ b. if b || is_foul w then w else made_step program.layout (next_foul program w) w) ended
staying code program w (inr stopped) stands =
    let foul : is_foul w ≡ true = foul-stopped w.machine w.stage ∙ ap is_stopped stands.stage ∙ stopped in
    ap (λ b. if is_over w.machine.end || b then w else made_step program.layout (next_foul program w) w) foul
    ∙ ap (λ b. if b then w else made_step program.layout (next_foul program w) w) (or-true (is_over w.machine.end))

-- a run that has ended or was stopped stays
pub stays : (code : Watching) (left taken : Option (List ℕ)) → (is_over code.machine.end ≡ true) ⊎ (is_stopped code.stage ≡ true)
    → Makes watched (beside_console code left taken) (beside_console code left taken)
stays code left taken either = record {
  happened = [];
  took = sym (prepend_told-nil left);
  wrote = sym (append_told-nil taken);
  made = λ program w stands has.
      let same : watch_step program w ≡ w = staying code program w either stands in
      subst (λ (u : Watch). Comes watched program code (told_bytes left) (w.machine.events ++ []) u) (sym same)
      (record { stands = stands; left = has; events = sym (append-nil w.machine.events) });
}

-- What is kept in procedures follows.

frames-follow : (shapes : List Shape) (op : Op) (top : ℕ) (live : List Live)
    → map live_frame (live_after_op shapes op top live) ≡ frames_after op top (map live_frame live)
frames-follow shapes (Call target) top live = refl
frames-follow shapes (Ret count) top [] = refl
frames-follow shapes (Ret count) top (first ∷ older) = refl
frames-follow shapes op top live = refl

pub stage-follows : (layout : Layout) (shapes : List Shape) (found : Option Instr) (live : List Live) (written : List Bool) (s t : State)
    → InProcedures (record {
      frames = map live_frame (live_after shapes found (top_in layout s) live);
      written = written_following layout found (found_accesses found s) (top_in layout s) (top_in layout t) written;
    }) ≡ stage_after layout found s t (InProcedures (record { frames = map live_frame live; written = written }))
stage-follows layout shapes None live written s t = refl
stage-follows layout shapes (Some instr) live written s t =
    ap (λ l. InProcedures (record {
      frames = l;
      written = told.written_after layout (found_accesses (Some instr) s) (top_in layout s) (top_in layout t) written;
    })) (frames-follow shapes instr.op (top_in layout s) live)
