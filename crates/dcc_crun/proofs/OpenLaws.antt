-- How the run of a program begins.
use Rattle.std.proofs.Common.{◌≡◌, ℕ, List, [], ◌∷◌, ◌++◌, length, None, Some, sym, ap, ◌∙◌, subst}
use Rattle.std.specs.Prelude.{slice_get}
use Rattle.dcc_c.specs.Tree.{Function, Tree}
use Rattle.dcc_c.specs.Placement.{first_base}
use Rattle.dcc_c.specs.Run.{Continuation, runs, ends_function, frame_of, first_memory, first_state}
use Rattle.dcc_crun.specs.declared.ending.Ending.TheVariants.{Running}
use Rattle.dcc_prepare.specs.declared.program.Procedure.{Procedure}
use Rattle.dcc_prepare.specs.declared.program.Program.{Program}
use Rattle.dcc_crun.specs.declared.moment.Moment.{Moment}
use Rattle.dcc_crun.specs.Ending.{end_of}
use Rattle.dcc_value.specs.Evaluation.{bindings_named}
use Rattle.dcc_prepare.specs.Points.{Goes, locals_declared}
use Rattle.dcc_prepare.specs.Frames.{params_holding, locals_holding}
use Rattle.dcc_prepare.specs.Programs.{IsProcedure, HasProcedure, IsProgram}
use Rattle.dcc_crun.specs.Standing.{IsMoment}
use Rattle.dcc_crun.proofs.CallLaws.{call_variables, call_declared}
use Rattle.dcc_prepare.proofs.PointLaws.{some_same}

-- the program has a first procedure
pub no_first : (tree : Tree) (points : ℕ → List Continuation) (program : Program) (start : Function) (others : List Function) →
    IsProgram tree points program → tree.functions ≡ start ∷ others → slice_get program.procedures.items 0 ≡ None → ⊥
no_first tree points program start others program_is first none =
    let has : HasProcedure tree start (points 0) program 0 = program_is.procedures 0 start (ap (λ fs. slice_get fs 0) first) in
    is_none has.procedure (sym none ∙ has.here)
  where
    is_none : (p : Procedure) → None ≡ Some p → ⊥
    is_none p e = cc

-- what the interpreter does at the start
pub record Opens (tree : Tree) (m : Moment) (procedure : Procedure) (fill : ℕ) : Type 0 where
  pub number : m.call.procedure ≡ 0
  pub at : m.call.at ≡ procedure.entry
  pub base : m.call.base ≡ first_base tree.hi
  pub variables : m.call.variables.items ≡ params_holding m.call.base procedure.params.items [] ++ locals_holding m.call.base fill procedure.locals.items
  pub waiting : m.waiting.items ≡ []
  pub fill_is : m.fill ≡ fill
  pub memory : m.memory.items ≡ first_memory tree fill
  pub end : m.end ≡ Running

-- what the interpreter does at the start is the start of the text
pub opened : (tree : Tree) (points : ℕ → List Continuation) (program : Program) (m : Moment) (procedure : Procedure) (fill : ℕ)
    (start : Function) (others : List Function) (input : List ℕ) → IsProgram tree points program → Opens tree m procedure fill →
    slice_get program.procedures.items 0 ≡ Some procedure → tree.functions ≡ start ∷ others → start.params ≡ [] →
    IsMoment tree points m (first_state tree start fill input)
opened tree points program m procedure fill start others input program_is opens found first no_params =
    let here : slice_get tree.functions 0 ≡ Some start = ap (λ fs. slice_get fs 0) first in
    let has : HasProcedure tree start (points 0) program 0 = program_is.procedures 0 start here in
    let is : IsProcedure tree start (points 0) procedure =
    subst (IsProcedure tree start (points 0)) (some_same has.procedure procedure (sym has.here ∙ found)) has.is in
    let own = first_base tree.hi in
    let body = runs start.body (ends_function start.last) in
    let none : 0 ≡ length start.params = sym (ap length no_params) in
    record {
      end = ap end_of opens.end;
      going = λ running. record {
        state = record {
          call = record {
            function = ap (slice_get tree.functions) opens.number ∙ here;
            base = opens.base;
            variables =
                ap (bindings_named (locals_declared start)) opens.variables
                ∙ call_variables start procedure.params.items procedure.locals.items m.call.base fill [] is.params is.locals none
                ∙ ap (λ b. (frame_of start b fill []).variables) opens.base;
            declared = call_declared start procedure.params.items procedure.locals.items own fill [] is.params is.locals none;
          };
          waiting = opens.waiting;
          fill = opens.fill_is;
          memory = opens.memory;
          end = ap end_of opens.end;
        };
        rest =
            subst (λ p. Goes tree (points m.call.procedure) p body) (sym opens.at)
            (subst (λ n. Goes tree (points n) procedure.entry body) (sym opens.number) is.entry);
      };
    }
