-- Each step of two runs that are alike leaves them alike, or over alike, or the first one stuck.
use Rattle.std.proofs.Common.{◌≡◌, ℕ, Bool, true, false, List, Option, Some, None, refl, sym, ap, ◌∙◌, subst}
use Rattle.std.specs.Prelude.{if◌then◌else◌, option_map}
use Rattle.std.specs.List.{AllZip}
use Rattle.dcc_run.specs.End.{is_over}
use Rattle.dcc_c.specs.declared.syntax.Base.TheVariants.{Uint}
use Rattle.dcc_c.specs.Types.{plain}
use Rattle.dcc_c.specs.Tree.{Word, Expr, Stmt, Lines, Arms, Function, Tree}
use Rattle.dcc_c.specs.Dos.{Dos, Signature, dos_of, dos_signature}
use Rattle.dcc_c.specs.Value.{Value, is_zero, converted, Gives, Scope, value_of, Target, target_of}
use Rattle.dcc_c.specs.Rules.{signature_in, signature_of}
use Rattle.dcc_c.specs.Run.{Continuation, runs, Frame, State, goes_on, scope_of, after_break, after_continue, after_goto, arm_for, default_body, test_step, switch_step, give_step, result_target, arguments_of, function_in, param_types, call_step, dos_or_call_step, stmt_step, step_at, step}
use Rattle.dcc_progress.proofs.Frames.{IsFrame}
use Rattle.dcc_respell.specs.Respelled.{Both, AllBits, TargetAlike, IfTargetsAlike, TakesAlike, CallsAlike, scope_in, InAllScopes, TestAlike, BecomesAlike, AssignAlike, ResultAlike, ArgumentsAlike, StmtAlike, LinesAlike, ArmsAlike, FunctionAlike}
use Rattle.dcc_respell.specs.Respelled.{assigns, calls, repeats, tests_after, turns_round, chooses, breaks, continues, jumps, is_label, is_empty, returns, gives, no_more, one_more}
use Rattle.dcc_respell.specs.Respelled as spelled
use Rattle.dcc_respell.proofs.Rests.{RestAlike, ends, goes, tests_again, turns_again, ends_choice, break-alike, continue-alike, label-alike, arm-alike, default-alike}
use Rattle.dcc_respell.proofs.Kept.{arguments-within}
use Rattle.dcc_respell.proofs.Calls.{StateAlike, AfterAlike, alike, stuck, on-alike, goes-alike, jump-alike, takes-alike, close-alike, return-alike, give-alike, dos-alike, enter-alike, IfFunctions, functions-found}

module _ (tree after : Tree) where
  module _ (s t : State) (is : StateAlike tree after s t) (sound : IsFrame tree s.frame) (other_sound : IsFrame after t.frame) where
    abbrev f : Function
    f = s.frame.function

    abbrev g : Function
    g = t.frame.function

    calls-alike : CallsAlike tree after f g s.frame t.frame
    calls-alike = record { function = refl; other_function = refl; is = sound; other_is = other_sound; kept = is.frame.kept; variables = is.frame.variables }

    in-scope : (P : Frame → Frame → Scope → Scope → Type 0) → InAllScopes tree after f g P → P s.frame t.frame (scope_of tree s) (scope_of after t)
    in-scope P holds =
        subst (λ m. P s.frame t.frame (scope_of tree s) (scope_in after t.frame m)) (sym is.memory) (holds s.frame t.frame s.memory calls-alike)

    -- Tests.

    either-lines : (b c : Bool) {one two three four : Lines} → c ≡ b → LinesAlike tree after f g one three → LinesAlike tree after f g two four →
        LinesAlike tree after f g (if b then one else two) (if c then three else four)
    either-lines true true same first second = first
    either-lines false false same first second = second
    either-lines true false same first second = absurd cc
    either-lines false true same first second = absurd cc

    either-rest : (b c : Bool) {one two three four : Continuation} → c ≡ b → RestAlike tree after f g one three → RestAlike tree after f g two four →
        RestAlike tree after f g (if b then one else two) (if c then three else four)
    either-rest true true same first second = first
    either-rest false false same first second = second
    either-rest true false same first second = absurd cc
    either-rest false true same first second = absurd cc

    tested-alike : (v w : Value) (e h : Expr) {body lines : Lines} (at there : ℕ) {rest other : Continuation} → is_zero w ≡ is_zero v → TestAlike tree after f g e h → LinesAlike tree after f g body lines → RestAlike tree after f g rest other →
        AfterAlike tree after (test_step v e body at rest s) (test_step w h lines there other t)
    tested-alike v w one other at there same e body rest =
        goes-alike tree after _ _ s t is (either-rest (is_zero v) (is_zero w) same rest (goes body (tests_again e body rest)))

    chosen-alike : (v w : Value) {arms last others final : Arms} → (converted (plain Uint) w).bits ≡ (converted (plain Uint) v).bits → ArmsAlike tree after f g arms others → ArmsAlike tree after f g last final →
        AfterAlike tree after (switch_step v arms last s) (switch_step w others final t)
    chosen-alike v w {arms} {last} {others} {final} same arm default =
        goes-alike tree after _ _ s t is
        (goes (subst (λ n. LinesAlike tree after f g (arm_for (converted (plain Uint) v).bits arms (default_body last)) (arm_for n others (default_body final))) (sym same) (arm-alike tree after f g (converted (plain Uint) v).bits arm (default-alike tree after f g default))) (ends_choice is.rest))

    -- Calls.

    module _ (functions : AllZip (FunctionAlike tree after) tree.functions after.functions) where
      module _ (word : Word) (arguments hs : List Expr) (depth at there : ℕ) (target to : Option Target) (same : IfTargetsAlike target to)
          (known : (one two : Signature) → signature_in tree word ≡ Some one → signature_in after word ≡ Some two → ArgumentsAlike tree after f g one.params two.params arguments hs) where
        dos-called : (dos : Dos) → dos_of word ≡ Some dos → AfterAlike tree after (dos_or_call_step tree (Some dos) word target arguments depth at s) (dos_or_call_step after (Some dos) word to hs depth there t)
        dos-called dos found =
            let one : signature_in tree word ≡ Some (dos_signature dos) = ap (λ d. elim d [ Some own ↦ Some (dos_signature own) | None ↦ option_map signature_of (function_in tree.functions word) ]) found in
            let two : signature_in after word ≡ Some (dos_signature dos) = ap (λ d. elim d [ Some own ↦ Some (dos_signature own) | None ↦ option_map signature_of (function_in after.functions word) ]) found in
            on-alike tree after AllBits _ _ at there s t _ _ is.events
            (in-scope (λ frame other scope below. Both AllBits (arguments_of scope (dos_signature dos).params arguments) (arguments_of below (dos_signature dos).params hs)) (known (dos_signature dos) (dos_signature dos) one two))
            (λ vs ws h k bits. dos-alike tree after dos target to vs ws at there s t is same bits)

        own-called : (o p : Option Function) → dos_of word ≡ None → function_in tree.functions word ≡ o → function_in after.functions word ≡ p → IfFunctions tree after o p →
            AfterAlike tree after (call_step o (scope_of tree s) target arguments depth at s) (call_step p (scope_of after t) to hs depth there t)
        own-called None None found here also both = stuck at refl
        own-called (Some a) (Some b) found here also both =
            let one : signature_in tree word ≡ Some (signature_of a) = ap (λ d. elim d [ Some own ↦ Some (dos_signature own) | None ↦ option_map signature_of (function_in tree.functions word) ]) found ∙ ap (option_map signature_of) here in
            let two : signature_in after word ≡ Some (signature_of b) = ap (λ d. elim d [ Some own ↦ Some (dos_signature own) | None ↦ option_map signature_of (function_in after.functions word) ]) found ∙ ap (option_map signature_of) also in
            on-alike tree after AllBits _ _ at there s t _ _ is.events
            (in-scope (λ frame other scope below. Both AllBits (arguments_of scope (param_types a) arguments) (arguments_of below (param_types b) hs)) (known (signature_of a) (signature_of b) one two))
            (λ vs ws h k bits. enter-alike tree after a b depth target to vs ws s t is both same bits (arguments-within (scope_of tree s) (param_types a) arguments vs h))
        own-called None (Some b) found here also both = absurd both
        own-called (Some a) None found here also both = absurd both

        called-alike : (d : Option Dos) → dos_of word ≡ d → AfterAlike tree after (dos_or_call_step tree d word target arguments depth at s) (dos_or_call_step after d word to hs depth there t)
        called-alike (Some dos) found = dos-called dos found
        called-alike None found =
            own-called (function_in tree.functions word) (function_in after.functions word) found refl refl (functions-found tree after tree.functions after.functions word functions)

      -- Statements.

      made-alike : {stmt other : Stmt} (at there : ℕ) → StmtAlike tree after f g stmt other → AfterAlike tree after (stmt_step tree stmt at s) (stmt_step after other there t)
      made-alike at there (assigns {place} {e} {other} {h} a) =
          on-alike tree after (λ v w. (target to : Target) → target_of (scope_of tree s) place ≡ Gives target → target_of (scope_of after t) other ≡ Gives to → TakesAlike s.frame.variables t.frame.variables target to v w) _ _ at there s t _ _ is.events
          (in-scope (λ frame with_other scope below. Both (λ v w. (target to : Target) → target_of scope place ≡ Gives target → target_of below other ≡ Gives to → TakesAlike frame.variables with_other.variables target to v w) (value_of scope e) (value_of below h)) a.values)
          (λ v w here also takes_both. on-alike tree after TargetAlike _ _ at there s t _ _ is.events
          (in-scope (λ frame with_other scope below. Both TargetAlike (target_of scope place) (target_of below other)) a.places)
          (λ target to h k same. takes-alike tree after target to v w s t is same (takes_both target to h k)))
      made-alike at there (calls {place} {other} {function} {arguments} {hs} {depth} result known) =
          on-alike tree after IfTargetsAlike _ _ at there s t _ _ is.events
          (in-scope (λ frame with_other scope below. Both IfTargetsAlike (result_target scope place) (result_target below other)) result)
          (λ target to h k same. called-alike function arguments hs depth at there target to same known (dos_of function) refl)
      made-alike at there (spelled.tests {e} {h} test body otherwise) =
          on-alike tree after (λ v w. is_zero w ≡ is_zero v) _ _ at there s t _ _ is.events
          (in-scope (λ frame with_other scope below. Both (λ v w. is_zero w ≡ is_zero v) (value_of scope e) (value_of below h)) test)
          (λ v w here also same. goes-alike tree after _ _ s t is (goes (either-lines (is_zero v) (is_zero w) same otherwise body) is.rest))
      made-alike at there (repeats {e} {h} test body) =
          on-alike tree after (λ v w. is_zero w ≡ is_zero v) _ _ at there s t _ _ is.events
          (in-scope (λ frame with_other scope below. Both (λ v w. is_zero w ≡ is_zero v) (value_of scope e) (value_of below h)) test)
          (λ v w here also same. tested-alike v w e h at there same test body is.rest)
      made-alike at there (tests_after test body) =
          goes-alike tree after _ _ s t is (goes body (tests_again test body is.rest))
      made-alike at there (turns_round body) = goes-alike tree after _ _ s t is (goes body (turns_again body is.rest))
      made-alike at there (chooses {e} {h} becomes arms last) =
          on-alike tree after (λ v w. (converted (plain Uint) w).bits ≡ (converted (plain Uint) v).bits) _ _ at there s t _ _ is.events
          (in-scope (λ frame with_other scope below. Both (λ v w. (converted (plain Uint) w).bits ≡ (converted (plain Uint) v).bits) (value_of scope e) (value_of below h)) becomes)
          (λ v w here also same. chosen-alike v w same arms last)
      made-alike at there breaks = jump-alike tree after (after_break s.rest) (after_break t.rest) at there s t is (break-alike tree after f g is.rest)
      made-alike at there continues = jump-alike tree after (after_continue s.rest) (after_continue t.rest) at there s t is (continue-alike tree after f g is.rest)
      made-alike at there (jumps {word}) = jump-alike tree after (after_goto f word) (after_goto g word) at there s t is (label-alike tree after f g word is.frame.function.body ends)
      made-alike at there is_label = alike is
      made-alike at there is_empty = alike is
      made-alike at there returns = return-alike tree after at there s t is
      made-alike at there (gives {e} {h} becomes) =
          subst (λ r. AfterAlike tree after (give_step f.result (value_of (scope_of tree s) e) at s) (give_step r (value_of (scope_of after t) h) there t)) (sym is.frame.function.result)
          (give-alike tree after f.result _ _ at there s t is (λ type own. in-scope (λ frame with_other scope below. Both (λ v w. (converted type w).bits ≡ (converted type v).bits) (value_of scope e) (value_of below h)) (becomes type own)))

  -- One step.

  module _ (functions : AllZip (FunctionAlike tree after) tree.functions after.functions) where
    at-alike : (s t : State) → StateAlike tree after s t → IsFrame tree s.frame → IsFrame after t.frame → {rest other : Continuation} → RestAlike tree after s.frame.function t.frame.function rest other →
        AfterAlike tree after (step_at tree rest s) (step_at after other t)
    at-alike s t is sound also (ends {at} {there}) = close-alike tree after at there s t is
    at-alike s t is sound also (goes no_more rest) = at-alike s t is sound also rest
    at-alike s t is sound also (goes (one_more {stmt} {other} {at} {there} {lines} {others} same more) rest) =
        made-alike (goes_on (runs lines _) s) (goes_on (runs others _) t) (record {
          frame = is.frame;
          rest = goes more rest;
          waiting = is.waiting;
          fill = is.fill;
          memory = is.memory;
          input = is.input;
          events = is.events;
          running = is.running;
          other_running = is.other_running;
        }) sound also functions at there same
    at-alike s t is sound also (tests_again {e} {h} {body} {lines} {at} {there} test same rest) =
        on-alike tree after (λ v w. is_zero w ≡ is_zero v) _ _ at there s t _ _ is.events
        (in-scope s t is sound also (λ frame with_other scope below. Both (λ v w. is_zero w ≡ is_zero v) (value_of scope e) (value_of below h)) test)
        (λ v w here there_is zero. tested-alike s t is sound also v w e h at there zero test same rest)
    at-alike s t is sound also (turns_again body rest) = goes-alike tree after _ _ s t is (goes body (turns_again body rest))
    at-alike s t is sound also (ends_choice rest) = at-alike s t is sound also rest

    pub step-alike : (s t : State) → StateAlike tree after s t → IsFrame tree s.frame → IsFrame after t.frame → AfterAlike tree after (step tree s) (step after t)
    step-alike s t is sound also =
        subst (λ e. AfterAlike tree after (if is_over e then s else step_at tree s.rest s) (step after t)) (sym is.running)
        (subst (λ e. AfterAlike tree after (step_at tree s.rest s) (if is_over e then t else step_at after t.rest t)) (sym is.other_running) (at-alike s t is sound also is.rest))
