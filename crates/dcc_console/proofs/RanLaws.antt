-- From what the code says of its steps to how the run from the start has gone.
use Rattle.std.proofs.Common.{◌≡◌, ℕ, ◌+◌, ◌<◌, ◌≤◌, List, [], ◌∷◌, ◌++◌, Option, Some, None, refl, sym, ap, ◌∙◌, subst, arith}
use Rattle.dcc_io.specs.Told.{WhenTold, append_told, AppendsProperPrefix}
use Rattle.dcc_io.proofs.ToldLemmas.{TellsRest, tells_rest, AppendsProperPrefix-after, AppendsProperPrefix-longer}
use Rattle.dcc_run.specs.End.{End}
use Rattle.dcc_run.specs.Event.{Event, written_by, taken_by}
use Rattle.dcc_run.specs.System.{after}
use Rattle.dcc_run.proofs.EventLaws.{written-append, out_grows}
use Rattle.dcc_run.proofs.RunLaws.{after-add}
use Rattle.dcc_console.specs.Console.{Subject, Executor, step_in, left_in, events_in, output_after}
use Rattle.dcc_console.specs.Laws.{IsLawfulExecutor}
use Rattle.dcc_console.specs.Ran.{HasRun, Stops, StopsAtRead, StopsAtWrite}
use Rattle.dcc_console.specs.WithConsole.{WithConsole, beside_console}
use Rattle.dcc_console.specs.Steps.{Comes, HasEnded, MakesSteps, read_failed, write_failed, no_memory, StopsShort}

module _ {W C S : Type 0} (executor : Executor W C S) (w : W) (start : List ℕ → S) (code : C) where
  -- what the code was made for
  abbrev subject : Subject S
  subject = record { console = executor.console w; start = start }

  -- the code stands at the start, where nothing has happened yet and the whole input is left
  pub record Begins : Type 0 where
    pub stands : (input : List ℕ) → executor.stands w code (start input)
    pub left : (input : List ℕ) → (executor.console w).left (start input) ≡ input
    pub events : (input : List ℕ) → events_in executor w (start input) ≡ []

  module _ (begins : Begins) where
    -- the steps that were made, as a run from the start in which this happens
    record HasMade (count : ℕ) (input : List ℕ) (happened : List Event) (now : WithConsole C) : Type 0 where
      rest : List ℕ
      tells : now.left ≡ Some rest
      reaches : Comes executor w now.code rest happened (after (step_in executor w) count (start input))

    has_made : (count : ℕ) (input : List ℕ) (taken : Option (List ℕ)) (now : WithConsole C) →
        (m : MakesSteps executor count (beside_console code (Some input) taken) now)
        → HasMade count input m.happened now
    has_made count input taken now m =
        let given = taken_by m.happened in
        let l : TellsRest input now.left given = tells_rest input now.left given m.took in
        record {
          rest = l.rest;
          tells = l.told;
          reaches =
              subst (λ (e : List Event). Comes executor w now.code l.rest (e ++ m.happened) (after (step_in executor w) count (start input))) (begins.events input)
              (m.made w (start input) l.rest l.told (begins.stands input) (begins.left input ∙ l.split));
        }

    has_run : (steps : ℕ) (input : List ℕ) (taken : Option (List ℕ)) (now : WithConsole C) (end : End) → HasEnded executor now.code end →
        (c : MakesSteps executor steps (beside_console code (Some input) taken) now) → HasRun subject steps now.left (written_by c.happened) end input
    has_run steps input taken now end ended c =
        let m = has_made steps input taken now c in
        record {
          output_is = ap written_by (sym m.reaches.events);
          left_is = m.tells ∙ ap Some (sym m.reaches.left);
          end_is = ended w (after (step_in executor w) steps (start input)) m.reaches.stands;
        }

    -- a run that has ended, or goes on
    pub has_run_when_told : (steps : ℕ) (before taken : Option (List ℕ)) (now : WithConsole C) (end : End) → HasEnded executor now.code end →
        (c : MakesSteps executor steps (beside_console code before taken) now) → WhenTold before (HasRun subject steps now.left (written_by c.happened) end)
    has_run_when_told steps before taken now end ended c input told =
        subst (λ b. (n : MakesSteps executor steps (beside_console code b taken) now) → HasRun subject steps now.left (written_by n.happened) end input) (sym told)
        (has_run steps input taken now end ended) c

    -- the steps that were made before one that was not
    abbrev stops : (steps : ℕ) (input : List ℕ) (taken : Option (List ℕ)) (now : WithConsole C) (count : ℕ) → count < steps → (stop : WithConsole C)
        (made : MakesSteps executor count (beside_console code (Some input) taken) stop) → now.left ≡ stop.left → Stops subject steps now.left (written_by made.happened) input
    stops steps input taken now count short stop made same =
        let m = has_made count input taken stop made in
        record {
          made = count;
          short = short;
          output_is = ap written_by (sym m.reaches.events);
          left_is = same ∙ m.tells ∙ ap Some (sym m.reaches.left);
        }

    -- a step that was not made for want of memory, after these
    pub stops_when_told : (steps : ℕ) (before taken : Option (List ℕ)) (now : WithConsole C) →
        (s : StopsShort executor no_memory steps (beside_console code before taken) now) → WhenTold before (Stops subject steps now.left (written_by s.made.happened))
    stops_when_told steps before taken now s input told =
        subst (λ b. (n : StopsShort executor no_memory steps (beside_console code b taken) now) → Stops subject steps now.left (written_by n.made.happened) input) (sym told)
        (λ n. stops steps input taken now n.count n.short n.stop n.made n.refused.same_left) s

    stops_at_read : (steps : ℕ) (input : List ℕ) (taken : Option (List ℕ)) (now : WithConsole C)
        → IsLawfulExecutor executor →
        (s : StopsShort executor read_failed steps (beside_console code (Some input) taken) now) → StopsAtRead subject steps now.left (written_by s.made.happened) input
    stops_at_read steps input taken now laws s =
        let m = has_made s.count input taken s.stop s.made in
        let u : S = after (step_in executor w) s.count (start input) in
        record {
          stops = stops steps input taken now s.count s.short s.stop s.made (ap (λ (v : WithConsole C). v.left) s.refused.unchanged);
          takes = λ byte rest.
              s.refused.takes w ((executor.console w).with_left (byte ∷ rest) u) byte rest
              (laws.stands_with w (byte ∷ rest) s.stop.code u m.reaches.stands) (laws.left_is w (byte ∷ rest) u);
        }

    -- a read that failed after the steps that were made
    pub stops_at_read_when_told : (steps : ℕ) (before taken : Option (List ℕ)) (now : WithConsole C) → IsLawfulExecutor executor →
        (s : StopsShort executor read_failed steps (beside_console code before taken) now) → WhenTold before (StopsAtRead subject steps now.left (written_by s.made.happened))
    stops_at_read_when_told steps before taken now laws s input told =
        subst (λ b. (n : StopsShort executor read_failed steps (beside_console code b taken) now) → StopsAtRead subject steps now.left (written_by n.made.happened) input) (sym told)
        (stops_at_read steps input taken now laws) s

    -- a step whose write failed, after the steps that were made
    stops_at_write : (steps : ℕ) (input : List ℕ) (taken : Option (List ℕ)) (now : WithConsole C) →
        StopsShort executor write_failed steps (beside_console code (Some input) taken) now → StopsAtWrite subject steps now.left taken now.taken input
    stops_at_write steps input taken now s =
        let m = has_made s.count input taken s.stop s.made in
        let r = s.refused in
        let t : S = after (step_in executor w) s.count (start input) in
        let given = taken_by r.happened in
        let l : TellsRest m.rest now.left given = tells_rest m.rest now.left given (sym m.tells ∙ r.took) in
        let one = after-add (step_in executor w) s.count 1 (start input) in
        let here : left_in executor w t ≡ given ++ l.rest = m.reaches.left ∙ l.split in
        record {
          made = s.count;
          short = s.short;
          writes = written_by r.happened;
          writes_are =
              ap (λ u. written_by (events_in executor w u)) one ∙ ap written_by (r.happens w t l.rest m.reaches.stands here)
              ∙ written-append (events_in executor w t) r.happened;
          part =
              subst (λ (o : Option (List ℕ)). AppendsProperPrefix o now.taken (written_by r.happened))
              (s.made.wrote ∙ ap (λ e. append_told taken (written_by e)) (sym m.reaches.events)) r.part;
          left_is = l.told ∙ ap Some (sym (ap (left_in executor w) one ∙ r.takes w t l.rest m.reaches.stands here));
        }

    pub stops_at_write_when_told : (steps : ℕ) (before taken : Option (List ℕ)) (now : WithConsole C) →
        StopsShort executor write_failed steps (beside_console code before taken) now → WhenTold before (StopsAtWrite subject steps now.left taken now.taken)
    stops_at_write_when_told steps before taken now s input told =
        stops_at_write steps input taken now (subst (λ b. StopsShort executor write_failed steps (beside_console code b taken) now) told s)

    -- where a write failed, a part of the whole run's output is there, and not all
    breaks_off : (steps : ℕ) (input : List ℕ) (taken : Option (List ℕ)) (now : WithConsole C)
        → IsLawfulExecutor executor →
        StopsShort executor write_failed steps (beside_console code (Some input) taken) now → AppendsProperPrefix taken now.taken (output_after subject steps input)
    breaks_off steps input taken now laws s =
        let at = stops_at_write steps input taken now s in
        let first = output_after subject at.made input in
        let le : at.made + 1 ≤ steps = omega (arith, at.short) in
        let grows = out_grows (executor.console w).system (laws.lawful w) (at.made + 1) steps (start input) le in
        let whole : output_after subject steps input ≡ (first ++ at.writes) ++ grows.rest =
        grows.joins ∙ ap (λ k. k ++ grows.rest) at.writes_are in
        let part = AppendsProperPrefix-after taken (append_told taken first) now.taken first at.writes refl at.part in
        subst (λ k. AppendsProperPrefix taken now.taken k) (sym whole)
        (AppendsProperPrefix-longer taken now.taken (first ++ at.writes) grows.rest part)

    -- what was due where a write failed, and was written in part, and not all of it
    pub record WritesPart (steps : ℕ) (before taken taken_now : Option (List ℕ)) : Type 0 where
      pub due : List ℕ
      pub is_due : WhenTold before (λ input. due ≡ output_after subject steps input)
      pub part : AppendsProperPrefix taken taken_now due

    pub writes_part : (steps : ℕ) (before taken : Option (List ℕ)) (now : WithConsole C) → IsLawfulExecutor executor →
        StopsShort executor write_failed steps (beside_console code before taken) now
        → WritesPart steps before taken now.taken
    writes_part steps None taken now laws s = record {
      due = written_by s.made.happened ++ written_by s.refused.happened;
      is_due = λ input told. cc;
      part = AppendsProperPrefix-after taken s.stop.taken now.taken (written_by s.made.happened) (written_by s.refused.happened) s.made.wrote s.refused.part;
    }
    writes_part steps (Some input) taken now laws s = record {
      due = output_after subject steps input;
      is_due = λ other told. let same : input ≡ other = cc in ap (output_after subject steps) same;
      part = breaks_off steps input taken now laws s;
    }
