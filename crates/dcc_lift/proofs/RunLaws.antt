-- The translated program's run shadows the machine's.
use Rattle.std.proofs.Common.{◌≡◌, inl, inr, ℕ, ◌<◌, true, false, ◌||◌, ◌==◌, List, [], ◌∷◌, length, All, Some, None, refl, sym, ap, ap₂, ◌∙◌, subst, lit<, arith}
use Rattle.std.specs.Prelude.{if◌then◌else◌, slice_index}
use Rattle.std.specs.List.{list_any}
use Rattle.std.proofs.lemmas.Bool.{cases_lt}
use Rattle.std.proofs.lemmas.List.{get_or_past}
use Rattle.dcc_run.specs.Watched.{IsWatchable}
use Rattle.dcc_run.specs.Shadows.{ComesTo, still_related, AreMatched, Shadows, kept_mark}
use Rattle.dcc_run.proofs.PaceLaws.{quiet_once}
use Rattle.dcc_run.proofs.KeptLaws.{only_watchable}
use Rattle.dcc_run.proofs.ShadowLaws.{shadows_from_matched}
use Rattle.dcc_machine.specs.declared.image.Image.{Image}
use Rattle.dcc_prog.specs.declared.frame.Program.{Program as Analysed}
use Rattle.dcc_prog.specs.Watch.{Watch, place_of, watched_machine, first_watch}
use Rattle.dcc_prog.proofs.PreludeOffsets.{prelude-some}
use Rattle.dcc_prog.proofs.WatchLaws.{machine_watchable, watch_at, machine_at, prelude_clean, prelude_running, in_the_prelude, past_the_prelude}
use Rattle.dcc_ir.specs.Tree.{Block, Graph, Program}
use Rattle.dcc_ir.specs.Run.{going_to, first_state, step}
use Rattle.dcc_ir.specs.Keeps.{has_block}
use Rattle.dcc_ir.proofs.RunLaws.{inner_watchable}
use Rattle.dcc_lift.specs.Blocks.{nodes_in, entry_in, block_place}
use Rattle.dcc_lift.specs.Lifted.{ShadowsMachine}
use Rattle.dcc_lift.specs.Translated.{IsTranslated}
use Rattle.dcc_lift.proofs.ListTests.{same_number}
use Rattle.dcc_lift.proofs.ChainLaws.{is_leader, entry_is_leader}
use Rattle.dcc_lift.proofs.RunScenes.{Runs, layout, machine, inner, within, located_at, before-is, sound-at, block-there}
use Rattle.dcc_lift.proofs.RunArrives.{InBlock, arrived}
use Rattle.dcc_lift.proofs.RunMatched.{block-matched}
use Rattle.dcc_lift.proofs.RunStart.{is_entry, scene, prelude, begin, first-is, set_up, begin-step}
use Rattle.dcc_lift.proofs.RunBegun.{entered, entered_stack, entered-ip, begun-node}

module _ (c : Runs) (input : List ℕ) (bytes : All (λ byte. byte < 256) input) where
  abbrev pub far : ℕ
  far = length c.is.of_file.is_program.layout.prelude

  abbrev pub at : ℕ → Watch
  at k = watch_at c.image c.program c.is.of_file.loaded c.is.of_file.is_program.layout input k

  pub numbers : (k : ℕ) → slice_index input k < 256
  numbers k = elim (cases_lt k (length input)) [
    | inl less ↦ bytes k 0 less
    | inr past ↦ subst (λ b. b < 256) (sym (get_or_past input k 0 past)) (lit< tt)
  ]

  -- after the prelude the machine is in the entry procedure
  pub past : at far ≡ within c (entered c input bytes numbers) (entered_stack c input bytes numbers)
  past =
      ap₂ (λ m stage. record { machine = m; stage = stage })
      (machine_at c.image c.program c.is.of_file.loaded c.is.of_file.is_program.layout input far (omega arith))
      (past_the_prelude c.image c.program c.is.of_file.loaded c.is.of_file.is_program.layout input)

  -- the program has the prelude's block
  prelude-has : has_block c.p (record { entry = (layout c).start_ip; at = c.image.ip }) ≡ true
  prelude-has =
      block-there c (layout c).start_ip (is_entry c input) c.image.ip
      ∙ ap (λ n. list_any (λ (b : Block). b.at == c.image.ip) (if n == 0 then [] else prelude c input ∷ [])
      || is_leader (nodes_in (scene c input)) (entry_in (scene c input)) c.image.ip)
      (before-is c (layout c).start_ip (is_entry c input)
      ∙ ap (λ b. if b then 1 else 0) (same_number (layout c).start_ip))
      ∙ ap (λ b. (b || false) || is_leader (nodes_in (scene c input)) (entry_in (scene c input)) c.image.ip)
      (same_number c.image.ip)

  leader : is_leader (nodes_in (scene c input)) (entry_in (scene c input)) (entered c input bytes numbers).ip ≡ true
  leader =
      subst (λ n. is_leader (nodes_in (scene c input)) (entry_in (scene c input)) n ≡ true)
      ((located_at c (layout c).start_ip (is_entry c input)).entry_is ∙ sym (entered-ip c input bytes numbers))
      (entry_is_leader (nodes_in (scene c input)) (entry_in (scene c input)) c.image.ip
      (sound-at c (layout c).start_ip (is_entry c input)))

  begun-block : InBlock c (within c (entered c input bytes numbers) (entered_stack c input bytes numbers))
      (step c.p c.fill (begin c input))
  begun-block =
      subst (InBlock c (within c (entered c input bytes numbers) (entered_stack c input bytes numbers)))
      (sym (begin-step c input
      ∙ ap (λ n. going_to (block_place (scene c input) n) (set_up c input)) (sym (entered-ip c input bytes numbers))))
      (arrived c (layout c).start_ip (is_entry c input) (entered c input bytes numbers)
      (entered_stack c input bytes numbers) (set_up c input) (begun-node c input bytes numbers) leader)

  -- the first block stands for the machine's steps through the prelude
  start-matched : AreMatched (machine c) (inner c) (InBlock c) (first_watch c.image input) (begin c input)
  start-matched = record {
    alike = record {
      mark =
          ap (λ n. Some (record { entry = n; at = c.image.ip }))
          (ap (λ (g : Graph). g.entry) (located_at c (layout c).start_ip (is_entry c input)).is_graph.graph_is
          ∙ (located_at c (layout c).start_ip (is_entry c input)).entry_is)
          ∙ sym (ap (λ b. if b then Some (record { entry = (layout c).start_ip; at = c.image.ip }) else None)
          prelude-has);
      events = refl;
      running = refl;
      other_running = refl;
      clean = refl;
    };
    steps = far;
    some = prelude-some c.image (layout c) c.is.of_file.loaded c.is.of_file.is_program.layout;
    other_steps = 1;
    others = omega arith;
    quiet = λ k some less. record {
      unmarked =
          ap (λ stage. kept_mark (has_block c.p)
          (place_of (layout c) (record { machine = (at k).machine; stage = stage })))
          (in_the_prelude c.image c.program c.is.of_file.loaded c.is.of_file.is_program.layout input k some less);
      running =
          prelude_running c.image c.program c.is.of_file.loaded c.is.of_file.is_program.layout input k
          (omega (arith, less));
      clean =
          prelude_clean c.image c.program c.is.of_file.loaded c.is.of_file.is_program.layout input k
          (omega (arith, less));
    };
    other_quiet = quiet_once (inner c) (begin c input);
    comes =
        subst (λ w. ComesTo (machine c) (inner c) (InBlock c) w (step c.p c.fill (begin c input))) (sym past)
        (still_related begun-block);
  }

  law : IsWatchable (machine c)
  law = only_watchable (watched_machine c.program) (has_block c.p) (machine_watchable c.program)

  -- the program's run shadows the machine's
  pub run-shadows : Shadows (machine c) (first_watch c.image input) (inner c) (first_state c.p c.fill input)
  run-shadows =
      subst (Shadows (machine c) (first_watch c.image input) (inner c)) (sym (first-is c input))
      (shadows_from_matched (machine c) (inner c) law (inner_watchable c.p c.fill) (InBlock c) (block-matched c)
      (first_watch c.image input) (begin c input) start-matched)

-- The law.

pub shadows : (image : Image) (program : Analysed) (p : Program) → IsTranslated image program p
    → ShadowsMachine image program p
shadows image program p is fill input small bytes =
    run-shadows (record { image = image; program = program; p = p; is = is; fill = fill; small = small }) input bytes
