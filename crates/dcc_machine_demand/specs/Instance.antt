-- The procedures of a program of the machine, by what their instructions do. A word of the stack is a byte of what a
-- PUSH writes, by its offset in the frame, so that each half of a register is saved by itself.
use Rattle.std.specs.Prelude.{ℕ, ◌+◌, ◌*◌, ℤ, pos, ◌-ℤ◌, Bool, true, false, not, ◌&&◌, ◌||◌, List, [], filter, Option}
use Rattle.std.specs.Prelude.{Some, None, if◌then◌else◌}
use Rattle.std.specs.List.{list_any, range_with_len}
use Rattle.dcc_machine.specs.declared.instr.Op.{Op}
use Rattle.dcc_machine.specs.declared.instr.Op.TheVariants.{Call, Ret}
use Rattle.dcc_prog.specs.Frame.{Span, span_of}
use Rattle.dcc_stack.specs.Slots.{is_within, writes_memory, gives_back}
use Rattle.dcc_demand.specs.Procedures.{Effect, Leaves, Makes, LeavesWord, Overwrites, Action, Procedure, Procedures}
use Rattle.dcc_demand.specs.Procedures.{is_left}
use Rattle.dcc_machine_demand.specs.Bodies.{Body, entry_of, body_at, Point, op_of, point_at}
use Rattle.dcc_machine_demand.specs.Holders.{Holder, in_frame, passes, is_holder, is_exposed_holder, is_accessed_by}
use Rattle.dcc_machine_demand.specs.Holders.{is_private_byte}
use Rattle.dcc_machine_demand.specs.Moves.{Move, moves_of, moved_effect, moved_made_of, moved_uses, pushed_from}
use Rattle.dcc_machine_demand.specs.Moves.{pushed_offset, pushed_spots}
use Rattle.dcc_machine_demand.specs.Values.{moves_or_calls, value_written, is_sure, value_made_of, value_uses}

-- Arguments of a CALL.

-- the word of the caller's frame that is the argument of this number of a CALL at a height
abbrev pub passed_word : ℕ → ℕ → Span
passed_word height number = span_of (pos (2 + 2 * number) -ℤ pos height) 2

-- the byte of the caller's frame belongs to one of the arguments of these numbers
abbrev pub is_passed : ℕ → List ℕ → ℤ → Bool
is_passed height numbers k = list_any (λ number. is_within k (passed_word height number)) numbers

-- the numbers of a procedure's arguments; `touched_of`: of those that it may change, as it writes them by a direct
-- access of its own, or their addresses may be computed
abbrev pub arguments_of : Option Body → List ℕ
arguments_of None = []
arguments_of (Some callee) = range_with_len 0 callee.frame.args

abbrev pub touched_of : Option Body → List ℕ
touched_of None = []
touched_of (Some callee) = filter (gives_back callee.proc callee.frame) (arguments_of (Some callee))

-- the procedure that an operation calls
abbrev pub callee_of : Op → Option ℕ
callee_of (Call target) = Some target
callee_of op = None

abbrev pub callee_in : List Body → Op → Option Body
callee_in bodies (Call target) = body_at bodies target
callee_in bodies op = None

-- What an instruction does.

-- the byte is passed as an argument; `touches_byte`: and the procedure that is called may change it
abbrev pub passes_byte : Option Body → ℕ → Holder → Bool
passes_byte callee height (in_frame k) = is_passed height (arguments_of callee) k
passes_byte callee height place = false

abbrev pub touches_byte : Option Body → ℕ → Holder → Bool
touches_byte callee height (in_frame k) = is_passed height (touched_of callee) k
touches_byte callee height place = false

module _ (bodies : List Body) (body : Body) (point : Point) where
  abbrev pub moves : List Move
  moves = moves_of body point.height (op_of point)

  abbrev pub touches : Holder → Bool
  touches place = touches_byte (callee_in bodies (op_of point)) point.height place

  -- what the instruction does to a place of its procedure
  abbrev pub effect_at : Holder → Effect Holder ℤ
  effect_at place =
      if moves_or_calls (op_of point) then if touches place then Makes else moved_effect moves place
      else if value_written body (op_of point) point.node.number place then Makes
      else Leaves

  abbrev pub made_at : Holder → Holder → Bool
  made_at to from =
      if moves_or_calls (op_of point) then moved_made_of moves to from else value_made_of body (op_of point) to from

  abbrev pub uses_at : Holder → Bool
  uses_at place =
      if moves_or_calls (op_of point) then
      moved_uses moves place || passes_byte (callee_in bodies (op_of point)) point.height place
      else value_uses body (op_of point) point.node.number place

  -- the bytes of the stack that the instruction writes otherwise than by a PUSH
  abbrev pub overwrites : ℤ → Bool
  overwrites k = touches (in_frame k) || (writes_memory (op_of point) && is_accessed_by body (op_of point) k)

  abbrev pub action_of : Action Holder ℤ
  action_of = record {
    uses = λ place. is_holder body place && uses_at place;
    effect = effect_at;
    made_of = λ to from. is_holder body from && made_at to from;
    surely = λ place. not (is_left (effect_at place)) && is_sure (op_of point) place;
    word_effect = λ k.
        if overwrites k then Overwrites
        else pushed_from (pushed_offset point.height) (pushed_spots body (op_of point)) k;
    callee = callee_of (op_of point);
  }

-- the action that does nothing
abbrev pub idle : Action Holder ℤ
idle = record {
  uses = λ place. false;
  effect = λ place. Leaves;
  made_of = λ to from. false;
  surely = λ place. false;
  word_effect = λ k. LeavesWord;
  callee = None;
}

-- Procedures.

abbrev pub action_at : List Body → Body → Option Point → Action Holder ℤ
action_at bodies body None = idle
action_at bodies body (Some point) = action_of bodies body point

abbrev pub next_of : Option Point → List ℕ
next_of None = []
next_of (Some point) = point.node.succ.items

abbrev pub is_ret : Op → Bool
is_ret (Ret count) = true
is_ret op = false

abbrev pub returns_at : Option Point → Bool
returns_at None = false
returns_at (Some point) = is_ret (op_of point)

abbrev pub procedure_of : List Body → Body → Procedure ℕ Holder ℤ
procedure_of bodies body = record {
  entry = entry_of body;
  next = λ at. next_of (point_at body at);
  returns = λ at. returns_at (point_at body at);
  action = λ at. action_at bodies body (point_at body at);
  is_private = is_private_byte body;
  is_exposed = is_exposed_holder body;
}

-- the procedure without instructions
abbrev pub no_procedure : Procedure ℕ Holder ℤ
no_procedure = record {
  entry = 0;
  next = λ at. [];
  returns = λ at. false;
  action = λ at. idle;
  is_private = λ k. false;
  is_exposed = λ place. false;
}

abbrev pub procedure_or_none : List Body → Option Body → Procedure ℕ Holder ℤ
procedure_or_none bodies None = no_procedure
procedure_or_none bodies (Some body) = procedure_of bodies body

-- the procedures by their entries
abbrev pub procedures_of : List Body → Procedures ℕ Holder ℤ
procedures_of bodies =
    record { procedure = λ entry. procedure_or_none bodies (body_at bodies entry); passes = passes }
