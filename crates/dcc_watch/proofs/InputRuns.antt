-- Where a watched run stands after so many steps on some input, it stands on another one too that leaves any bytes.
use Rattle.std.proofs.Common.{◌≡◌, ℕ, zero, suc, Bool, true, false, List, [], ◌++◌, Option, Some, None, refl, sym, ap, ap₂, ◌∙◌, subst}
use Rattle.std.specs.Prelude.{◌||◌, if◌then◌else◌}
use Rattle.dcc_run.specs.End.{is_over}
use Rattle.dcc_machine.specs.declared.cpu.Cpu.{Cpu}
use Rattle.dcc_machine.specs.declared.image.Image.{Image}
use Rattle.dcc_prog.specs.declared.frame.Program.{Program}
use Rattle.dcc_machine.specs.Machine.{State}
use Rattle.dcc_machine.specs.StateForm.{IsState}
use Rattle.dcc_machine.specs.Step.{step}
use Rattle.dcc_prog.specs.Clean.{Foul}
use Rattle.dcc_prog.specs.Watch.{Watch, Stage, AtStart, InPrelude, InProcedures, Stopped, stage_after, next_instruction, next_foul, is_foul, made, watch_step}
use Rattle.dcc_machine.proofs.StartState.{starts-are}
use Rattle.dcc_machine.proofs.StateKept.{states-kept}
use Rattle.dcc_prog.proofs.WatchLaws.{next-watch}
use Rattle.dcc_stack.specs.Accepted.{IsProgramOfFile}
use Rattle.dcc_stack.specs.Laws.{watch_after}
use Rattle.dcc_watch.proofs.Quiet.{quiet, foul_of-quiet, stage_after-quiet}
use Rattle.dcc_watch.proofs.Inputs.{AreBytes, joined_bytes, no_bytes, with_input, Takes, takes_step}

-- a watched run without its console
abbrev pub hushed : Watch → Watch
hushed w = record { machine = quiet w.machine; stage = w.stage }

-- the machine of a run that is alike but for the console
pub machine_beside :
    (v w : Watch) (input : List ℕ) → hushed v ≡ hushed w → v.machine.input ≡ input
    → v.machine ≡ with_input input v.machine.events w.machine
machine_beside v w input same has =
    ap (λ (u : Watch). with_input v.machine.input v.machine.events u.machine) same
    ∙ ap (λ i. with_input i v.machine.events w.machine) has

module _ (program : Program) where
  abbrev cpu : Cpu
  cpu = program.layout.cpu

  -- One step.

  foul-hushed : (m : State) (stage : Stage)
      → next_foul program (record { machine = quiet m; stage = stage })
      ≡ next_foul program (record { machine = m; stage = stage })
  foul-hushed m AtStart = refl
  foul-hushed m InPrelude = refl
  foul-hushed m (InProcedures stack) = foul_of-quiet program stack m (next_instruction cpu m)
  foul-hushed m (Stopped foul) = refl

  -- a run that has ended or was stopped stays, else the next step is made unless it is foul
  abbrev after_by : Bool → Option Foul → Watch → Watch
  after_by stays foul w = if stays then w else made program.layout foul w

  -- from a run that is alike, with these bytes and any further input, a step leads to one that is alike
  record TakesBy (operation : Watch → Watch) (w t : Watch) : Type 0 where
    given : List ℕ
    bytes : AreBytes given
    same :
        (v : Watch) (rest : List ℕ) → hushed v ≡ hushed w → v.machine.input ≡ given ++ rest
        → hushed (operation v) ≡ hushed t
    left :
        (v : Watch) (rest : List ℕ) → hushed v ≡ hushed w → v.machine.input ≡ given ++ rest
        → (operation v).machine.input ≡ rest

  takes_moved : (w : Watch) → AreBytes w.machine.input → TakesBy (after_by false None) w (after_by false None w)
  takes_moved w bytes = record {
    given = r.given;
    bytes = r.bytes;
    same = λ v rest alike has.
        ap₂ (λ m s. record { machine = m; stage = s }) (goes v rest alike has) (stage-is v rest alike has);
    left = λ v rest alike has.
        ap (λ m. (step cpu m).input) (machine_beside v w (r.given ++ rest) alike has) ∙ r.left rest v.machine.events;
  }
    where
      r : Takes (step cpu) w.machine (step cpu w.machine)
      r = takes_step cpu w.machine bytes

      goes : (v : Watch) (rest : List ℕ) → hushed v ≡ hushed w → v.machine.input ≡ r.given ++ rest
          → quiet (step cpu v.machine) ≡ quiet (step cpu w.machine)
      goes v rest alike has =
          ap (λ m. quiet (step cpu m)) (machine_beside v w (r.given ++ rest) alike has) ∙ r.same rest v.machine.events

      stage-is : (v : Watch) (rest : List ℕ) → hushed v ≡ hushed w → v.machine.input ≡ r.given ++ rest
          → stage_after program.layout (next_instruction cpu v.machine) v.machine (step cpu v.machine) v.stage
          ≡ stage_after program.layout (next_instruction cpu w.machine) w.machine (step cpu w.machine) w.stage
      stage-is v rest alike has =
          sym (stage_after-quiet program.layout (next_instruction cpu v.machine) v.machine (step cpu v.machine) v.stage)
          ∙ ap (λ (u : Watch).
          stage_after program.layout (next_instruction cpu u.machine) u.machine (quiet (step cpu v.machine)) u.stage)
          alike
          ∙ ap (λ t. stage_after program.layout (next_instruction cpu w.machine) (quiet w.machine) t w.stage)
          (goes v rest alike has)
          ∙ stage_after-quiet program.layout (next_instruction cpu w.machine) w.machine (step cpu w.machine) w.stage

  takes_by : (stays : Bool) (foul : Option Foul) (w : Watch) → AreBytes w.machine.input
      → TakesBy (after_by stays foul) w (after_by stays foul w)
  takes_by true foul w bytes =
      record { given = []; bytes = no_bytes; same = λ v rest alike has. alike; left = λ v rest alike has. has }
  takes_by false (Some foul) w bytes = record {
    given = [];
    bytes = no_bytes;
    same = λ v rest alike has. ap (λ (u : Watch). record { machine = u.machine; stage = Stopped foul }) alike;
    left = λ v rest alike has. has;
  }
  takes_by false None w bytes = takes_moved w bytes

  abbrev stays : Watch → Bool
  stays w = is_over w.machine.end || is_foul w

  takes_watched : (w : Watch) → AreBytes w.machine.input → TakesBy (watch_step program) w (watch_step program w)
  takes_watched w bytes =
      let r = takes_by (stays w) (next_foul program w) w bytes in
      let same_by :
      (v : Watch) → hushed v ≡ hushed w → watch_step program v ≡ after_by (stays w) (next_foul program w) v =
      λ v alike. ap₂ (λ b f. after_by b f v) (ap stays alike)
      (sym (foul-hushed v.machine v.stage) ∙ ap (next_foul program) alike ∙ foul-hushed w.machine w.stage) in
      record {
        given = r.given;
        bytes = r.bytes;
        same = λ v rest alike has. ap hushed (same_by v alike) ∙ r.same v rest alike has;
        left = λ v rest alike has. ap (λ (u : Watch). u.machine.input) (same_by v alike) ∙ r.left v rest alike has;
      }

  -- Runs.

  state_by : (b : Bool) (foul : Option Foul) (w : Watch) → IsState w.machine → IsState (after_by b foul w).machine
  state_by true foul w form = form
  state_by false (Some foul) w form = form
  state_by false None w form = states-kept.step cpu w.machine form

module _ (image : Image) (program : Program) (of_file : IsProgramOfFile program.layout.cpu image program) where
  abbrev next : (input : List ℕ) (n : ℕ)
      → watch_after program image input (suc n) ≡ watch_step program (watch_after program image input n)
  next input n = next-watch image program of_file.loaded of_file.is_program.layout input n

  state_at : (input : List ℕ) → AreBytes input → (n : ℕ) → IsState (watch_after program image input n).machine
  state_at input bytes zero = starts-are image input of_file.loaded bytes
  state_at input bytes (suc n) =
      let w = watch_after program image input n in
      subst (λ (u : Watch). IsState u.machine) (sym (next input n))
      (state_by program (is_over w.machine.end || is_foul w) (next_foul program w) w (state_at input bytes n))

  -- an input on which the run stands so too, with these bytes left
  pub record Refilled (input : List ℕ) (n : ℕ) (rest : List ℕ) : Type 0 where
    pub other : List ℕ
    pub bytes : AreBytes other
    pub same : hushed (watch_after program image other n) ≡ hushed (watch_after program image input n)
    pub left : (watch_after program image other n).machine.input ≡ rest

  pub refilled : (input : List ℕ) → AreBytes input → (n : ℕ) (rest : List ℕ) → AreBytes rest → Refilled input n rest
  refilled input bytes zero rest also = record { other = rest; bytes = also; same = refl; left = refl }
  refilled input bytes (suc n) rest also =
      let t = takes_watched program (watch_after program image input n) (state_at input bytes n).input in
      let r = refilled input bytes n (t.given ++ rest) (joined_bytes t.given rest t.bytes also) in
      let v = watch_after program image r.other n in
      record {
        other = r.other;
        bytes = r.bytes;
        same = ap hushed (next r.other n) ∙ t.same v rest r.same r.left ∙ sym (ap hushed (next input n));
        left = ap (λ (u : Watch). u.machine.input) (next r.other n) ∙ t.left v rest r.same r.left;
      }
