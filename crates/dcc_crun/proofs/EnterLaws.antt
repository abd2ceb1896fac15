-- How a call of a function of the text begins.
use Rattle.std.proofs.Common.{◌≡◌, ℕ, List, [], ◌∷◌, ◌++◌, length, map, Option, Some, refl, sym, ap, ◌∙◌, subst}
use Rattle.std.specs.Prelude.{option_map, slice_get}
use Rattle.std.proofs.lemmas.List.{length-map}
use Rattle.dcc_c.specs.Tree.{Function, Tree}
use Rattle.dcc_c.specs.Placement.{below, params_of_call}
use Rattle.dcc_c.specs.Value.{Binding}
use Rattle.dcc_c.specs.Run.{Continuation, State, runs, ends_function, frame_of, with_arguments, enter_step}
use Rattle.dcc_value.specs.declared.value.Value.{Value as Held}
use Rattle.dcc_value.specs.declared.expression.Target.{Target as Place}
use Rattle.dcc_prepare.specs.declared.program.Procedure.{Procedure}
use Rattle.dcc_crun.specs.declared.moment.Moment.{Moment}
use Rattle.dcc_value.specs.Evaluation.{typed, bindings_named}
use Rattle.dcc_value.specs.Resolved.{target_named}
use Rattle.dcc_prepare.specs.Points.{locals_declared, Goes}
use Rattle.dcc_crun.specs.Ending.{end_of}
use Rattle.dcc_prepare.specs.Programs.{IsProcedure}
use Rattle.dcc_crun.specs.Standing.{IsTargetIf, IsRunning}
use Rattle.dcc_prepare.specs.Frames.{params_holding, locals_holding, arguments_put}
use Rattle.dcc_crun.specs.Doing.{IsLed}
use Rattle.dcc_crun.proofs.CallLaws.{call_variables, call_declared, arguments_in}

typed_length : (arguments : List Held) → length (map typed arguments) ≡ length arguments
typed_length arguments = length-map arguments typed

-- what the interpreter does at a call
pub record Enters (m now : Moment) (number next base : ℕ) (procedure : Procedure) (target : Option Place) (arguments : List Held) : Type 0 where
  pub procedure_is : now.call.procedure ≡ number
  pub at : now.call.at ≡ procedure.entry
  pub base_is : now.call.base ≡ base
  pub variables : now.call.variables.items ≡ params_holding base procedure.params.items arguments ++ locals_holding base m.fill procedure.locals.items
  pub waiting : now.waiting.items ≡ m.waiting.items ++ record { call = record m.call { at = next }; target = target } ∷ []
  pub memory : now.memory.items ≡ arguments_put base procedure.params.items arguments m.memory.items
  pub fill : now.fill ≡ m.fill
  pub end : now.end ≡ m.end

-- what the interpreter does at a call is the call of the text
pub entered : (tree : Tree) (points : ℕ → List Continuation) (m now : Moment) (s : State) (number next base depth : ℕ) (f : Function)
    (procedure : Procedure) (target : Option Place) (arguments : List Held) →
    Enters m now number next base procedure target arguments → base ≡ below m.call.base depth →
    IsRunning tree points m s → Goes tree (points m.call.procedure) next s.rest → slice_get tree.functions number ≡ Some f →
    IsProcedure tree f (points number) procedure → IsTargetIf (locals_declared s.frame.function) target →
    length arguments ≡ length f.params →
    IsLed tree points now s (enter_step f depth (option_map (target_named (locals_declared s.frame.function)) target) (map typed arguments) s)
entered tree points m now s number next base depth f procedure target arguments enters below_is state goes here is lands same =
    let own = below s.frame.base depth in
    let base_same : base ≡ own = below_is ∙ ap (λ b. below b depth) state.call.base in
    let frame_variables : List Binding = (frame_of f own s.fill (map typed arguments)).variables in
    let variables : bindings_named (locals_declared f) now.call.variables.items ≡ frame_variables =
    ap (bindings_named (locals_declared f)) enters.variables
    ∙ call_variables f procedure.params.items procedure.locals.items base m.fill arguments is.params is.locals same
    ∙ ap (λ b. (frame_of f b m.fill (map typed arguments)).variables) base_same
    ∙ ap (λ k. (frame_of f own k (map typed arguments)).variables) state.fill in
    record {
      going = record {
        state = record {
          call = record {
            function = ap (slice_get tree.functions) enters.procedure_is ∙ here;
            base = enters.base_is ∙ base_same;
            variables = variables;
            declared = call_declared f procedure.params.items procedure.locals.items own s.fill (map typed arguments) is.params is.locals (typed_length arguments ∙ same);
          };
          waiting = (
            m.waiting.items,
            record { call = record m.call { at = next }; target = target },
            enters.waiting,
            record {
              call = record { function = state.call.function; base = state.call.base; variables = state.call.variables; declared = state.call.declared };
              rest = goes;
              target = refl;
              lands = lands;
            },
            state.waiting,
          );
          fill = enters.fill ∙ state.fill;
          memory =
              enters.memory
              ∙ arguments_in procedure.params.items (params_of_call f base) base arguments m.memory.items (is.params.places base)
              ∙ ap (λ b. with_arguments (params_of_call f b) (map typed arguments) m.memory.items) base_same
              ∙ ap (with_arguments (params_of_call f own) (map typed arguments)) state.memory;
          end = ap end_of enters.end ∙ state.end;
        };
        rest =
            subst (λ p. Goes tree (points now.call.procedure) p (runs f.body (ends_function f.last))) (sym enters.at)
            (subst (λ n. Goes tree (points n) procedure.entry (runs f.body (ends_function f.last))) (sym enters.procedure_is) is.entry);
      };
      quiet = record { input = refl; events = refl };
    }
