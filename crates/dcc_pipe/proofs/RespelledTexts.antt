-- A text that is otherwise written agrees with the image with which the first one does.
use Rattle.std.proofs.Common.{◌≡◌, ℕ, suc, ◌+◌, ◌^◌, ◌<◌, ◌≤◌, List, [], ◌∷◌, length, refl, sym, ap, ap₂, ◌∙◌, subst}
use Rattle.std.specs.Prelude.{All}
use Rattle.std.specs.List.{AllZip}
use Rattle.dcc_run.specs.Agreement.{KeepsUp}
use Rattle.dcc_run.specs.End.{is_over}
use Rattle.dcc_run.specs.Prefix.{IsPrefix}
use Rattle.dcc_run.specs.System.{System, events_after, end_after}
use Rattle.dcc_machine.specs.declared.cpu.Cpu.{Cpu}
use Rattle.dcc_machine.specs.declared.image.Image.{Image}
use Rattle.dcc_c.specs.Text.{StandsFor}
use Rattle.dcc_c.specs.Tree.{Stmt, Lines, Arms, Function, Tree}
use Rattle.dcc_plan.specs.Programs.{text_size}
use Rattle.dcc_plan.specs.Steps.{steps_in, stmt_steps, arm_steps}
use Rattle.dcc_respell.specs.Laws.{RespelledTextsRunAlike}
use Rattle.dcc_respell.specs.Respelled.{IsRespelled, FunctionAlike, StmtAlike, assigns, calls, tests, repeats, tests_after, turns_round, chooses, breaks, continues, jumps, is_label, is_empty, returns, gives, LinesAlike, no_more, one_more, ArmsAlike, no_arm, one_arm}
use Rattle.dcc_pipe.specs.Agreement.{RunsAgree, text_steps}

-- Numbers of steps.

module _ {tree after : Tree} {f g : Function} where
  mutual
    lines-size : {lines others : Lines} → LinesAlike tree after f g lines others → steps_in others ≡ steps_in lines
    lines-size no_more = refl
    lines-size (one_more stmt lines) = ap₂ ◌+◌ (stmt-size stmt) (lines-size lines)

    stmt-size : {stmt other : Stmt} → StmtAlike tree after f g stmt other → stmt_steps other ≡ stmt_steps stmt
    stmt-size (assigns is) = refl
    stmt-size (calls place is) = refl
    stmt-size (tests test body otherwise) = ap₂ (λ m n. suc (m + n)) (lines-size body) (lines-size otherwise)
    stmt-size (repeats test body) = ap (λ n. suc (suc n)) (lines-size body)
    stmt-size (tests_after test body) = ap (λ n. suc (suc n)) (lines-size body)
    stmt-size (turns_round body) = ap suc (lines-size body)
    stmt-size (chooses value arms last) = ap₂ (λ m n. suc (m + n)) (arms-size arms) (arms-size last)
    stmt-size breaks = refl
    stmt-size continues = refl
    stmt-size jumps = refl
    stmt-size is_label = refl
    stmt-size is_empty = refl
    stmt-size returns = refl
    stmt-size (gives is) = refl

    arms-size : {arms others : Arms} → ArmsAlike tree after f g arms others → arm_steps others ≡ arm_steps arms
    arms-size no_arm = refl
    arms-size (one_arm body arms) = ap₂ ◌+◌ (lines-size body) (arms-size arms)

functions-size : (tree after : Tree) (fs gs : List Function) → AllZip (FunctionAlike tree after) fs gs → text_size gs ≡ text_size fs
functions-size tree after [] [] alike = refl
functions-size tree after [] (g ∷ gs) alike = absurd alike
functions-size tree after (f ∷ fs) [] alike = absurd alike
functions-size tree after (f ∷ fs) (g ∷ gs) alike =
    ap₂ (λ m n. suc m + n) (lines-size alike.0.body) (functions-size tree after fs gs alike.1)

pub respelled-size : (tree after : Tree) → IsRespelled tree after → text_size after.functions ≡ text_size tree.functions
respelled-size tree after is = functions-size tree after tree.functions after.functions is.functions

-- Runs that are alike.

module _ {S T U : Type 0} (machine : System S) (s : S) (first : System T) (t : T) (second : System U) (u : U) (m : ℕ)
    (events : events_after second m u ≡ events_after first m t) (end : end_after second m u ≡ end_after first m t) where
  second-keeps_up : (n : ℕ) → KeepsUp machine s n first t m → KeepsUp machine s n second u m
  second-keeps_up n up = record {
    events = subst (λ es. IsPrefix (events_after machine n s) es) (sym events) up.events;
    alike = λ over. let z = up.alike over in record { end = end ∙ z.end; events = events ∙ z.events };
  }

  second-kept_up : (n : ℕ) → KeepsUp first t m machine s n → KeepsUp second u m machine s n
  second-kept_up n up = record {
    events = subst (λ es. IsPrefix es (events_after machine n s)) (sym events) up.events;
    alike = λ over.
        let z = up.alike (ap is_over (sym end) ∙ over) in record { end = z.end ∙ sym end; events = z.events ∙ sym events };
  }

pub runs-agree : RespelledTextsRunAlike → (cpu : Cpu) (image : Image) (text written : List ℕ) (tree after : Tree) (is : StandsFor text tree) (also : StandsFor written after) → IsRespelled tree after →
    (tokens : ℕ) (input : List ℕ) (fill : ℕ) → RunsAgree cpu image tree is.allowed.start tokens input fill → RunsAgree cpu image after also.allowed.start tokens input fill
runs-agree law cpu image text written tree after is also respelled tokens input fill agree =
    let alike = law text written tree after is also respelled fill input agree.never_stuck in
    record {
      text_keeps_up = λ n clean.
          let z = alike (text_steps tokens n) in
          second-keeps_up _ _ _ _ _ _ (text_steps tokens n) z.events z.end n (agree.text_keeps_up n clean);
      machine_keeps_up = λ k clean.
          let z = alike k in
          second-kept_up _ _ _ _ _ _ k z.events z.end _ (agree.machine_keeps_up k clean);
      never_stuck = λ k line stuck. agree.never_stuck k line (sym (alike k).end ∙ stuck);
    }
