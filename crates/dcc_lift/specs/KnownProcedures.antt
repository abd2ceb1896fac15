-- What the code knows of a procedure. This stands between the definitions and the code.
use denote.Ref.{Bor}
use Rattle.std.specs.Prelude.{◌≡◌, ◌≤◌, ◌+◌, ◌*◌, ◌&&◌, ℤ, pos, int_le, int_lt, Bool, false, List, All, length, Option}
use Rattle.std.specs.Prelude.{Some, None, IfSome}
use Rattle.dcc_prog.specs.declared.frame.Frame.{Frame}
use Rattle.dcc_prog.specs.Frame.{Span, span_of}
use Rattle.dcc_stack.specs.Slots.{is_within, exposes_of}
use Rattle.dcc_lift.specs.declared.access.Bytes.{Bytes}
use Rattle.dcc_lift.specs.declared.procedure.Procedure.{Procedure as Known}
use Rattle.dcc_simulation.specs.Procedures.{Procedure, cells_of, pushed_of, given_back}

abbrev pub span_of_bytes : Bytes → Span
span_of_bytes bytes = span_of bytes.first bytes.size

-- the frame exposes a byte of its arguments
abbrev pub exposes_argument : Frame → ℤ → Bool
exposes_argument frame k = elim frame.exposed.arg [
  | None ↦ false
  | Some least ↦ int_le (pos least) k && int_lt k (pos (4 + 2 * frame.args))
]

-- the byte is one of the span, of which the frame exposes one
abbrev pub is_in_exposed_slot : Frame → ℤ → Span → Bool
is_in_exposed_slot frame k span = is_within k span && exposes_of frame span

abbrev pub procedure_of : Known → Procedure
procedure_of p = record { proc = p.proc.now; frame = p.frame.now; delta = p.delta }

-- the procedure that is lent
abbrev pub shared_procedure_of : Bor Known → Procedure
shared_procedure_of p = procedure_of p.now

pub record KnowsProcedure (p : Known) : Type 0 where
  pub cells : p.cells.items ≡ cells_of (procedure_of p)
  pub pushed : p.pushed ≡ pushed_of (procedure_of p)
  pub given_back : p.given_back.items ≡ given_back (procedure_of p)
  -- the analyses find at most 512 cells
  pub few_cells : length p.frame.now.cells.items ≤ 512
  pub few_arguments : p.frame.now.args ≤ 32

-- the procedure that is lent, where there is one
abbrev pub KnowsShared : Option (Bor Known) → Type 0
KnowsShared p = IfSome p (λ shared. KnowsProcedure shared.now)

abbrev pub KnowsProcedures : List Known → Type 0
KnowsProcedures procedures = All KnowsProcedure procedures
