-- At which heights operations may stand, as it is computed. This stands between the definitions and the code; no public
-- contract rests on it.
use Rattle.std.specs.Prelude.{ℕ, ◌==◌, nat_lt, Bool, true, false, not, ◌&&◌, ◌||◌, ℤ, pos, int_lt}
use Rattle.dcc_num.specs.declared.Reg.TheVariants.{Bp}
use Rattle.dcc_machine.specs.declared.instr.Operand.TheVariants.{Word}
use Rattle.dcc_machine.specs.declared.instr.Op.{Op}
use Rattle.dcc_machine.specs.declared.instr.Op.TheVariants.{Pop, Leave, Ret}
use Rattle.dcc_prog.specs.Height.{needs_frame, greatest_height}

-- `pop bp`
abbrev pub is_pop_bp : Op → Bool
is_pop_bp (Pop (Word Bp)) = true
is_pop_bp op = false

-- LEAVE
abbrev pub is_leave : Op → Bool
is_leave Leave = true
is_leave op = false

-- RET
abbrev pub is_ret : Op → Bool
is_ret (Ret count) = true
is_ret op = false

-- an operation that needs the frame stands at height 0, or `pop bp` at another height than 2
abbrev pub is_misplaced : Op → ℕ → Bool
is_misplaced op height = ((height == 0) && needs_frame op) || (is_pop_bp op && not (height == 2))

-- SP rises into the saved BP by another form than `pop bp` and LEAVE
abbrev pub is_into_saved_bp : Bool → Op → ℕ → ℤ → Bool
is_into_saved_bp framed op height after =
    framed
    && not (is_pop_bp op)
    && not (is_leave op)
    && nat_lt 0 height
    && int_lt after (pos height)
    && int_lt after (pos 2)

-- SP rises above its value at the entry, or into the saved BP by another form than `pop bp` and LEAVE
abbrev pub is_too_far : Bool → Op → ℕ → ℤ → Bool
is_too_far framed op height after = int_lt after (pos 0) || is_into_saved_bp framed op height after

-- SP rises too far, or the stack isn't empty at a RET, or the height is too great
abbrev pub is_bad : Bool → Op → ℕ → ℤ → Bool
is_bad framed op height after =
    is_too_far framed op height after
    || (is_ret op && not (height == 0))
    || int_lt (pos greatest_height) after
