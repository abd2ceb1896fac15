use Rattle.std.proofs.Common.{◌≡◌, ℕ, ◌+◌, ◌%◌, List, Vec, Global, refl, sym, ap, ◌∙◌}
use Rattle.std.specs.Prelude.{slice_get, option_copied}
use Rattle.dcc_c.specs.Tree.{Tree}
use Rattle.dcc_c.specs.Run.{Continuation}
use Rattle.dcc_c.specs.Views.{tree_of}
use Rattle.dcc_crun.specs.declared.ending.Ending.{Ending}
use Rattle.dcc_prepare.specs.declared.program.Procedure.{Procedure}
use Rattle.dcc_prepare.specs.declared.program.Program.{Program}
use Rattle.dcc_value.specs.declared.variable.Binding.{Binding as Bound}
use Rattle.dcc_crun.specs.declared.moment.Moment.{Moment}
use Rattle.dcc_prepare.specs.Programs.{IsProgram}
use Rattle.dcc_crun.proofs.OpenLaws.{opened, no_first}
use Rattle.dcc_crun.proofs.run.CRun.new.Goals.{in-Some+in_ok-variables-in-Some, in-None}
use Rattle.dcc_crun.proofs.run.CRun.new.Goals as goal

pub returns : goal.returns
returns c start others input first no_params =
    let tree : Tree = tree_of c.args.unit.now in
    let program : Program = c.in_ok-program.program in
    let points : ℕ → List Continuation = c.in_ok-program.ensures.0 in
    let is : IsProgram tree points program = c.in_ok-program.ensures.1 in
    let m : Moment = record {
      call = record { procedure = 0; at = c.match-first.entry.0; base = (c.args.unit.now.hi + 2) % 65536; variables = c.match-first.entry.1 };
      waiting = c.new-2.result;
      fill = c.args.fill;
      memory = c.in_ok-first_memory.field-0;
      end = c.match-first.entry.2;
    } in
    let head : option_copied c.first.result ≡ slice_get program.procedures.items 0 =
    c.first.ensures.value ∙ ap (λ (ps : List Procedure). slice_get ps 0) c.deref.ensures.value in
    record {
      points = points;
      program = is;
      moment = elim c.match-first.branch [
        | in-Some+in_ok-variables-in-Some w ↦
            opened tree points program m w.in-Some.start.now c.args.fill start others input is
            (record {
              number = refl;
              at = ap (λ (e : ℕ × Vec Bound Global × Ending). e.0) w.entry-is;
              base = refl;
              variables = ap (λ (e : ℕ × Vec Bound Global × Ending). e.1.items) w.entry-is ∙ w.in_ok-variables-in-Some.ensures;
              waiting = c.new-2.ensures.items;
              fill_is = refl;
              memory = c.in_ok-first_memory.ensures;
              end = ap (λ (e : ℕ × Vec Bound Global × Ending). e.2) w.entry-is;
            })
            (sym head ∙ ap option_copied w.in-Some.is) first no_params
        | in-None w ↦ absurd (no_first tree points program start others is first (sym head ∙ ap option_copied w.in-None.is))
      ];
    }
