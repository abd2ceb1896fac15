-- Where a run goes on after an operation.
use Rattle.std.specs.Prelude.{ℕ, ◌+◌, ◌%◌, ◌==◌, Bool, false, Option, Some, None, if◌then◌else◌, List, [], ◌∷◌}
use Rattle.dcc_num.specs.declared.dos.TheConstants.{EXIT}
use Rattle.dcc_machine.specs.declared.instr.Instr.{Instr}
use Rattle.dcc_machine.specs.declared.instr.Op.{Op}
use Rattle.dcc_machine.specs.declared.instr.Op.TheVariants.{Jump, Branch, Loop, LoopE, LoopNe, Jcxz, Table, Ret, Int21}

-- the offset after an instruction, which wraps
abbrev pub next_of : ℕ → Instr → ℕ
next_of at instr = (at + instr.len) % 65536

-- AH holds 4Ch, with which INT 21h ends the run
abbrev pub is_exit : Option ℕ → Bool
is_exit None = false
is_exit (Some number) = number == EXIT

-- the successors of an operation, by the offset after it, by what is known of AH and by the targets of its table. The
-- target comes before the next instruction
abbrev pub op_successors : Op → ℕ → Option ℕ → List ℕ → List ℕ
op_successors (Jump target) next ah targets = target ∷ []
op_successors (Branch condition target) next ah targets = target ∷ next ∷ []
op_successors (Loop target) next ah targets = target ∷ next ∷ []
op_successors (LoopE target) next ah targets = target ∷ next ∷ []
op_successors (LoopNe target) next ah targets = target ∷ next ∷ []
op_successors (Jcxz target) next ah targets = target ∷ next ∷ []
op_successors (Table r offset) next ah targets = targets
op_successors (Ret count) next ah targets = []
op_successors Int21 next ah targets = if is_exit ah then [] else next ∷ []
op_successors op next ah targets = next ∷ []
