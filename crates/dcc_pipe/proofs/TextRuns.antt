-- The text of a program that shadows an image agrees with the image.
use Rattle.std.proofs.Common.{◌≡◌, ◌≢◌, ℕ, zero, suc, ◌+◌, ◌*◌, ◌^◌, ◌<◌, ◌≤◌, Bool, false, List, ◌∷◌, refl, sym, ap, ◌∙◌, subst, true≢false, arith}
use Rattle.std.specs.Prelude.{All}
use Rattle.std.proofs.Math.Nat.{mul_comm}
use Rattle.dcc_run.specs.End.{Stuck, is_over}
use Rattle.dcc_run.specs.ProgramPoint.{ProgramPoint}
use Rattle.dcc_run.specs.Prefix.{IsPrefix}
use Rattle.dcc_run.specs.System.{System, events_after, end_after}
use Rattle.dcc_run.specs.Agreement.{KeepsUp}
use Rattle.dcc_run.specs.Watched.{Watched, IsWatchable, state}
use Rattle.dcc_run.specs.Shadows.{KeepsPace, only}
use Rattle.dcc_run.proofs.KeptLaws.{only_watchable}
use Rattle.dcc_run.proofs.CountLaws.{third_keeps_up, first_keeps_up_with_third, never_stuck}
use Rattle.dcc_machine.specs.declared.image.Image.{Image}
use Rattle.dcc_prog.specs.declared.procedure.Layout.{Layout}
use Rattle.dcc_prog.specs.declared.frame.Program.{Program}
use Rattle.dcc_prog.specs.Analysed.{IsProgramOf}
use Rattle.dcc_machine.specs.Machine.{State as Machine, start_state}
use Rattle.dcc_machine.specs.Step.{machine_system}
use Rattle.dcc_prog.specs.Watch.{Watch, is_foul, watched_machine, first_watch, IsClean}
use Rattle.dcc_prog.proofs.WatchLaws.{machine_watchable, machine_after}
use Rattle.dcc_ir.specs.Tree as inner
use Rattle.dcc_ir.specs.Run as run
use Rattle.dcc_ir.specs.Keeps.{has_block}
use Rattle.dcc_lift.specs.Lifted.{steps_between, steps_at_start}
use Rattle.dcc_c.specs.Tree.{Global, Function, Tree}
use Rattle.dcc_c.specs.Numbered.{numbered}
use Rattle.dcc_c.specs.Run as c
use Rattle.dcc_c.specs.Run.{text_system}
use Rattle.dcc_c.specs.Text.{StandsFor}
use Rattle.dcc_c.proofs.RunLaws.{text_lawful}
use Rattle.dcc_plan.specs.Laws.{IsCountedBy}
use Rattle.dcc_plan.proofs.PlanRuns.{programs-count}
use Rattle.dcc_pipe.specs.Control.{Control, AreControls, keeps_step}
use Rattle.dcc_pipe.specs.GlobalData.{AreGlobalsFor}
use Rattle.dcc_pipe.specs.WholeText.{opened, whole_text, FitsText}
use Rattle.dcc_pipe.specs.Agreement.{RunsAgree}
use Rattle.dcc_pipe.specs.Following.{IsFollowing}
use Rattle.dcc_pipe.proofs.SimplifiedLaws.{only-within}
use Rattle.dcc_pipe.proofs.StepPlaces.{step-has}
use Rattle.dcc_plan.specs.Programs.{text_size}
use Rattle.dcc_pipe.proofs.WholeTexts.{texts, start-is, whole-text, whole-begins, all-kept}
use Rattle.dcc_pipe.proofs.WholeTexts.{with_first}

head-equal : {A : Type 0} {a b : A} {xs ys : List A} → a ∷ xs ≡ b ∷ ys → a ≡ b
head-equal e = cc

-- As far as it isn't foul, what keeps up with the machine watched keeps up with the machine, and the other way.
module _ {T : Type 0} (program : Program) (w : Watch) (other : System T) (t : T) where
  abbrev watched : System Watch
  watched = (watched_machine program).system

  abbrev unwatched : System Machine
  unwatched = machine_system program.layout.cpu

  pub machine-first : (n m : ℕ) → is_foul (state (watched_machine program) n w) ≡ false → KeepsUp watched w n other t m → KeepsUp unwatched w.machine n other t m
  machine-first n m clean up =
      let same = machine_after program n w clean in
      record {
        events = subst (λ (s : Machine). IsPrefix s.events (events_after other m t)) same up.events;
        alike = λ over.
            let z = up.alike (ap (λ (s : Machine). is_over s.end) same ∙ over) in
            record { end = z.end ∙ ap (λ (s : Machine). s.end) same; events = z.events ∙ ap (λ (s : Machine). s.events) same };
      }

  pub machine-second : (n m : ℕ) → is_foul (state (watched_machine program) m w) ≡ false → KeepsUp other t n watched w m → KeepsUp other t n unwatched w.machine m
  machine-second n m clean up =
      let same = machine_after program m w clean in
      record {
        events = subst (λ (s : Machine). IsPrefix (events_after other n t) s.events) same up.events;
        alike = λ over.
            let z = up.alike over in
            record { end = ap (λ (s : Machine). s.end) (sym same) ∙ z.end; events = ap (λ (s : Machine). s.events) (sym same) ∙ z.events };
      }

module _ (image : Image) (program : Program) (control : Control) (globals : List Global) (g : inner.Graph)
    (others : List inner.Graph)
    (bytes_of : List ℕ) (lo hi : ℕ) (controls : AreControls control (with_first g others bytes_of lo hi))
    (is_program : IsProgramOf program.layout.cpu image program)
    (fits : FitsText (with_first g others bytes_of lo hi))
    (may_declare : AreGlobalsFor (with_first g others bytes_of lo hi) globals)
    (follows : IsFollowing image program (with_first g others bytes_of lo hi))
    (text : List ℕ) (stands : StandsFor text (numbered (whole_text control globals (with_first g others bytes_of lo hi))))
    (tokens : ℕ) (few : text_size (numbered (whole_text control globals (with_first g others bytes_of lo hi))).functions ≤ tokens)
    (input : List ℕ) (fill : ℕ) (bytes : All (λ b. b < 256) input) (small : fill < 2 ^ 16) where
  abbrev p : inner.Program
  p = with_first g others bytes_of lo hi

  abbrev layout : Layout
  layout = program.layout

  abbrev tree : Tree
  tree = numbered (whole_text control globals p)

  abbrev kept : ProgramPoint → Bool
  kept = keeps_step control p

  abbrev start : Function
  start = stands.allowed.start

  unstuck : (n at : ℕ) → end_after (run.inner_system p fill) n (run.first_state p fill input) ≢ Stuck at
  unstuck n at = fits.textable.never_stuck fill input n at small bytes

  -- the text counts the blocks that the program visits
  together : IsCountedBy kept p tree start fill input tokens
  together =
      let well = fits.textable.formed in
      let first-is = start-is control globals g others bytes_of lo hi well fits.few fits.apart fits.gives controls may_declare in
      subst (λ f. IsCountedBy kept p tree f fill input tokens) (first-is ∙ head-equal stands.allowed.first)
      (programs-count opened (texts control globals g others bytes_of lo hi) p tree g others fill input kept
      (whole-text control globals g others bytes_of lo hi well fits.few fits.apart fits.gives controls may_declare)
      (whole-begins control globals g others bytes_of lo hi well fits.few fits.apart fits.gives controls may_declare)
      (all-kept control globals g others bytes_of lo hi well fits.few fits.apart fits.gives controls may_declare) bytes unstuck tokens few)

  -- The machine watched, in the places of blocks.
  abbrev machine : Watched Watch ProgramPoint
  machine = only (has_block p) (watched_machine program)

  machine-law : IsWatchable machine
  machine-law = only_watchable (watched_machine program) (has_block p) (machine_watchable program)

  abbrev w : Watch
  w = first_watch image input

  abbrev i : run.State
  i = run.first_state p fill input

  abbrev t : c.State
  t = c.first_state tree start fill input

  -- of the blocks' places the machine keeps pace with those for which the text has a step
  pace : KeepsPace (only kept machine) w steps_at_start steps_between
  pace =
      subst (λ seen. KeepsPace seen w steps_at_start steps_between)
      (sym (only-within kept (has_block p) (watched_machine program) (step-has control p)))
      (follows.pace control controls input bytes)

  text-keeps_up : (n : ℕ) → IsClean layout.cpu image input n → KeepsUp (machine_system layout.cpu) (start_state image input) n (text_system tree) t ((n + 1) * tokens)
  text-keeps_up n clean =
      subst (λ m. KeepsUp (machine_system layout.cpu) (start_state image input) n (text_system tree) t m) (mul_comm tokens (n + 1))
      (machine-first program w (text_system tree) t n (tokens * (n + 1)) (clean program is_program)
      (third_keeps_up kept machine (run.watched_inner p fill) (text_system tree) machine-law (text_lawful tree) w i t tokens together.counts
      (follows.runs fill input small bytes) together.shows n (clean program is_program)))

  machine-keeps_up : (k : ℕ) → IsClean layout.cpu image input ((k + 1) * 65536) → KeepsUp (text_system tree) t k (machine_system layout.cpu) (start_state image input) ((k + 1) * 65536)
  machine-keeps_up zero clean = record {
    events = record { rest = events_after (machine_system layout.cpu) ((0 + 1) * 65536) (start_state image input); joins = refl };
    alike = λ over. absurd (true≢false (sym over));
  }
  machine-keeps_up (suc k) clean =
      let enough_steps : steps_at_start + suc k * steps_between < (suc k + 1) * 65536 = omega arith in
      machine-second program w (text_system tree) t (suc k) ((suc k + 1) * 65536) (clean program is_program)
      (first_keeps_up_with_third kept machine (run.watched_inner p fill) (text_system tree) machine-law (text_lawful tree) w i t tokens together.counts
      (follows.runs fill input small bytes) steps_at_start steps_between pace
      (suc k) ((suc k + 1) * 65536) enough_steps (clean program is_program))

  pub text-agrees : RunsAgree layout.cpu image tree start tokens input fill
  text-agrees = record {
    text_keeps_up = text-keeps_up;
    machine_keeps_up = machine-keeps_up;
    never_stuck = never_stuck kept machine (run.watched_inner p fill) (text_system tree) machine-law (text_lawful tree) w i t tokens together.counts unstuck together.goes_on;
  }
