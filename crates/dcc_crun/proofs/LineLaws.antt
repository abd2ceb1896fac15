-- In which line the next step stands.
use Rattle.std.proofs.Common.{◌≡◌, ◌<◌, ◌≤◌, ℕ, List, length, get_or, Some, Option, refl, sym, ap, ◌∙◌, subst, arith}
use Rattle.std.specs.Prelude.{slice_get}
use Rattle.std.proofs.lemmas.Option.{slice_get_within, slice_get_read}
use Rattle.dcc_c.specs.Tree.{Tree}
use Rattle.dcc_c.specs.Run.{Continuation, State}
use Rattle.dcc_prepare.specs.declared.program.Procedure.{Procedure}
use Rattle.dcc_prepare.specs.declared.program.Program.{Program}
use Rattle.dcc_prepare.specs.declared.program.Row.{Row}
use Rattle.dcc_prepare.specs.Lines.{next_line, IsLine}
use Rattle.dcc_prepare.specs.Programs.{IsProgram, IsProcedure, HasProcedure}
use Rattle.dcc_crun.specs.declared.moment.Moment.{Moment}
use Rattle.dcc_crun.specs.Standing.{IsGoing}

module _ (program : Program) (m : Moment) (tree : Tree) (points : ℕ → List Continuation) (s : State)
    (is_program : IsProgram tree points program) (going : IsGoing tree points m s) where
  -- the procedure of the call that runs
  abbrev its-procedure : HasProcedure tree s.frame.function (points m.call.procedure) program m.call.procedure
  its-procedure = is_program.procedures m.call.procedure s.frame.function going.state.call.function

  some_same : {X : Type 0} (x y : X) → Some x ≡ Some y → x ≡ y
  some_same x y e = cc

  its-code : (procedure : Procedure) → procedure ≡ get_or program.procedures.items m.call.procedure procedure
      → m.call.procedure < length program.procedures.items → its-procedure.procedure ≡ procedure
  its-code procedure here within =
      some_same _ _ (sym its-procedure.here ∙ slice_get_read program.procedures.items _ m.call.procedure procedure refl within here)

  -- the line of the point at which the run stands is that of its next step
  pub line_is : (procedure : Procedure) (row : Row) →
      procedure ≡ get_or program.procedures.items m.call.procedure procedure → m.call.procedure < length program.procedures.items →
      row ≡ get_or procedure.rows.items m.call.at row → m.call.at < length procedure.rows.items → IsLine (next_line s.rest) row.line
  line_is procedure row here within there inside =
      let is = subst (λ p. IsProcedure tree s.frame.function (points m.call.procedure) p) (its-code procedure here within) its-procedure.is in
      let at_row : slice_get procedure.rows.items m.call.at ≡ Some row = slice_get_read procedure.rows.items _ m.call.at row refl inside there in
      let rest = going.rest in
      rest.in_line row.line (is.rows.acts m.call.at rest.own row rest.here at_row refl).in_line

  pub procedure_within : m.call.procedure < length program.procedures.items
  procedure_within = slice_get_within program.procedures.items m.call.procedure its-procedure.procedure its-procedure.here

  pub point_within : (procedure : Procedure) → procedure ≡ get_or program.procedures.items m.call.procedure procedure →
      m.call.at < length procedure.rows.items
  point_within procedure here =
      let same : its-procedure.procedure.rows.items ≡ procedure.rows.items = ap (λ (p : Procedure). p.rows.items) (its-code procedure here procedure_within) in
      let inside = slice_get_within (points m.call.procedure) m.call.at going.rest.own going.rest.here in
      let long : length (points m.call.procedure) ≡ length procedure.rows.items = its-procedure.is.rows.same ∙ ap length same in
      omega arith
