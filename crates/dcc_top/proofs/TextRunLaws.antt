-- From what the run of a text says to how it finished.
use Rattle.std.proofs.Common.{◌≡◌, ℕ, List, [], ◌∷◌, Option, Some, refl, sym, ap, ◌∙◌, subst}
use Rattle.std.specs.Prelude.{Result, Ok, Err, IfOk, OnErr}
use Rattle.dcc_io.specs.declared.outside.Failed.{Failed}
use Rattle.dcc_io.proofs.ToldLemmas.{append_told-nil}
use Rattle.dcc_run.specs.End.{End}
use Rattle.dcc_run.specs.Event.{written_by}
use Rattle.dcc_c.specs.Run.{first_state}
use Rattle.dcc_c.specs.Rules.{IsAllowed}
use Rattle.dcc_c.specs.Text.{StandsFor}
use Rattle.dcc_c.specs.Tree.{Tree, Function}
use Rattle.dcc_console.specs.WithConsole.{WithConsole, beside_console}
use Rattle.dcc_console.specs.Steps.{HasEnded, MakesSteps, StopsShort, read_failed, write_failed, no_memory}
use Rattle.dcc_console.proofs.RanLaws.{Begins, has_run_when_told, stops_when_told, stops_at_read_when_told, stops_at_write_when_told, writes_part, WritesPart}
use Rattle.dcc_crun.specs.declared.run.CRun.{CRun}
use Rattle.dcc_crun.specs.Standing.{StandsAt}
use Rattle.dcc_crun.specs.Stepped.{texts}
use Rattle.dcc_crun.proofs.RunLaws.{texts_execute}
use Rattle.dcc_top.specs.declared.reply.Reply.{Reply}
use Rattle.dcc_top.specs.declared.reply.Reply.TheVariants.{Memory, InputFault}
use Rattle.dcc_top.specs.Answer.{Files, OfFile, Allows, ran_text, IsCut, cut_text_run, IsReadAs, RunsUnit, IsCutUnit}
use Rattle.dcc_top.specs.Change.{Change}
use Rattle.dcc_top.specs.Delivery.{Answers, CutsShort}
use Rattle.dcc_top.specs.Execution.{text_of, IsCutRun, end_reply, ended, stopped_at_read, not_begun, finishes, found_none}
use Rattle.dcc_commands.specs.Words.{ExecuteText}

-- the run stands at the start of the tree's first function, on every input
abbrev pub BeginsUnit : CRun → Tree → ℕ → Type 0
BeginsUnit run tree fill =
    (start : Function) (others : List Function) (input : List ℕ) → tree.functions ≡ start ∷ others → start.params ≡ [] → StandsAt tree run (first_state tree start fill input)

-- the run stands at the start of every text for the tree
begins : (run : CRun) (tree : Tree) (fill : ℕ) → BeginsUnit run tree fill → (text : List ℕ) (stands : StandsFor text tree) → Begins texts tree (first_state tree stands.allowed.start fill) run
begins run tree fill at text stands = record {
  stands = λ input. at stands.allowed.start stands.allowed.others input stands.allowed.first stands.allowed.no_params;
  left = λ input. refl;
  events = λ input. refl;
}

-- a run that has ended, or goes on
pub text-ended : (tree : Tree) (fill steps : ℕ) (run : CRun) (before taken : Option (List ℕ)) (now : WithConsole CRun) (end : End) → BeginsUnit run tree fill → MakesSteps texts steps (beside_console run before taken) now → HasEnded texts now.code end → Answers (RunsUnit tree steps fill before now.left) taken now.taken (end_reply steps end)
text-ended tree fill steps run before taken now end at m is = record {
  output = written_by m.happened;
  wrote = m.wrote;
  is_answer = λ text stands.
      finishes (ended end (has_run_when_told texts tree (first_state tree stands.allowed.start fill) run (begins run tree fill at text stands) steps before taken now end is m));
}

-- a read that failed after the steps that were made
pub text-to_read : (tree : Tree) (fill steps : ℕ) (run : CRun) (before taken : Option (List ℕ)) (now : WithConsole CRun) → BeginsUnit run tree fill → StopsShort texts read_failed steps (beside_console run before taken) now → Answers (RunsUnit tree steps fill before now.left) taken now.taken InputFault
text-to_read tree fill steps run before taken now at s = record {
  output = written_by s.made.happened;
  wrote = ap (λ (u : WithConsole CRun). u.taken) s.refused.unchanged ∙ s.made.wrote;
  is_answer = λ text stands.
      finishes (stopped_at_read (stops_at_read_when_told texts tree (first_state tree stands.allowed.start fill) run (begins run tree fill at text stands) steps before taken now texts_execute s));
}

-- memory was wanting after the steps that were made
pub text-found_none : (tree : Tree) (fill steps : ℕ) (run : CRun) (before taken : Option (List ℕ)) (now : WithConsole CRun) → BeginsUnit run tree fill → StopsShort texts no_memory steps (beside_console run before taken) now → Answers (RunsUnit tree steps fill before now.left) taken now.taken Memory
text-found_none tree fill steps run before taken now at s = record {
  output = written_by s.made.happened;
  wrote = s.refused.same_taken ∙ s.made.wrote;
  is_answer = λ text stands.
      found_none (stops_when_told texts tree (first_state tree stands.allowed.start fill) run (begins run tree fill at text stands) steps before taken now s);
}

-- no step was made
pub text-nothing : (tree : Tree) (fill steps : ℕ) (before out : Option (List ℕ)) → Answers (RunsUnit tree steps fill before before) out out Memory
text-nothing tree fill steps before out = record {
  output = [];
  wrote = sym (append_told-nil out);
  is_answer = λ text stands. finishes (not_begun refl);
}

-- the first function of a tree is one
same-start : (tree : Tree) → (a b : IsAllowed tree) → a.start ≡ b.start
same-start tree a b = let both : a.start ∷ a.others ≡ b.start ∷ b.others = sym a.first ∙ b.first in cc

-- a write that failed after the steps that were made
pub text-broke_off : (tree : Tree) (fill steps : ℕ) (run : CRun) (before taken : Option (List ℕ)) (now : WithConsole CRun) → (text : List ℕ) → StandsFor text tree → BeginsUnit run tree fill → StopsShort texts write_failed steps (beside_console run before taken) now → CutsShort (IsCutUnit tree steps fill (record { before = before; after = now.left }) (record { before = taken; after = now.taken })) taken now.taken
text-broke_off tree fill steps run before taken now text stands at s =
    let first = stands.allowed.start in
    let cut : WritesPart texts tree (first_state tree first fill) run (begins run tree fill at text stands) steps before taken now.taken =
    writes_part texts tree (first_state tree first fill) run (begins run tree fill at text stands) steps before taken now texts_execute s in
    let stops = stops_at_write_when_told texts tree (first_state tree first fill) run (begins run tree fill at text stands) steps before taken now s in
    let here : IsCutRun (text_of tree first fill) steps (record { before = before; after = now.left }) (record { before = taken; after = now.taken }) cut.due =
    record { is_due = cut.is_due; stops = stops } in
    record {
      due = cut.due;
      is_due = λ other also.
          subst (λ f. IsCutRun (text_of tree f fill) steps (record { before = before; after = now.left }) (record { before = taken; after = now.taken }) cut.due)
          (same-start tree stands.allowed also.allowed) here;
      part = cut.part;
    }

-- what a run of the unit of a text answers is allowed for the job of running it
pub reply-of_text : (told : Files) (name : List ℕ) (steps fill : ℕ) (tree : Tree) (before left out now : Option (List ℕ)) (result : Result Reply Failed) → OfFile told name (λ text. IsReadAs text tree) → IfOk result (Answers (RunsUnit tree steps fill before left) out now) → IfOk result (Answers (Allows told before left (Some (ExecuteText name steps fill))) out now)
reply-of_text told name steps fill tree before left out now (Ok reply) f ran = record {
  output = ran.output;
  wrote = ran.wrote;
  is_answer = ran_text (record { file = f.file; has = f.has; holds = record { tree = tree; is_read = f.holds; runs = ran.is_answer } });
}
reply-of_text told name steps fill tree before left out now (Err e) f ran = ran

pub cut-of_text : (told : Files) (name : List ℕ) (steps fill : ℕ) (tree : Tree) (input output : Change (Option (List ℕ))) (result : Result Reply Failed) → OfFile told name (λ text. IsReadAs text tree) →
    OnErr result (CutsShort (IsCutUnit tree steps fill input output) output.before output.after) → OnErr result (CutsShort (IsCut told input output (Some (ExecuteText name steps fill))) output.before output.after)
cut-of_text told name steps fill tree input output (Ok reply) f broke = broke
cut-of_text told name steps fill tree input output (Err e) f broke = record {
  due = broke.due;
  is_due = cut_text_run (record { file = f.file; has = f.has; holds = record { tree = tree; is_read = f.holds; cut = broke.is_due } });
  part = broke.part;
}
