-- What a Call and a Ret of the inner run make of an agreeing state, where the machine makes a CALL and a RET.
use Rattle.std.specs.Prelude.{◌≡◌, ◌<◌, ◌⊎◌, ℕ, ◌+◌, ◌*◌, Bool, true, List, [], ◌∷◌, length, slice_index, Contains}
use Rattle.dcc_run.specs.End.{Running}
use Rattle.dcc_num.specs.declared.Reg.{Reg}
use Rattle.dcc_num.specs.declared.Half.{Half as HalfName}
use Rattle.dcc_num.specs.declared.FlagName.{FlagName}
use Rattle.dcc_machine.specs.Machine.{State as Machine, is_general}
use Rattle.dcc_prog.specs.Frame.{IsPlaced}
use Rattle.dcc_prog.specs.Clean.{is_marked}
use Rattle.dcc_stack.specs.Standing.{Activation}
use Rattle.dcc_stack.specs.Slots.{Typed, place_in, Holds, IsChangeable, IsAlike, PutsAll}
use Rattle.dcc_stack.specs.SlotLaws.{IsArgumentByte}
use Rattle.dcc_ir.specs.declared.syntax.Loc.TheVariants.{Half, Flag}
use Rattle.dcc_ir.specs.Run.{State, Waiting}
use Rattle.dcc_simulation.specs.Coupled.{Setting, typed_by, IsActivationOf, AreWaiting}

-- the activation that a CALL begins, with SP before it at an offset and with this BP
abbrev pub begun : ℕ → ℕ → ℕ → Activation
begun target top bp =
    record { frame = record { entry = target; base = top }; at = target; before = []; caller_bp = bp }

-- two inner states have the same halves, flags and console
pub record Passes (t u : State) : Type 0 where
  pub halves :
      (r : Reg) (half : HalfName) → is_general r ≡ true
      → u.running.values (Half r half) ≡ t.running.values (Half r half)
  pub flags : (flag : FlagName) → u.running.values (Flag flag) ≡ t.running.values (Flag flag)
  pub input : u.input ≡ t.input
  pub events : u.events ≡ t.events

-- A procedure begins in the inner run, called by a procedure with these callers, where these bytes of the stack are
-- written: its halves, flags and argument words are the caller's, and all else is as it was.
pub record Begins (e : Setting) (callee caller : Activation) (callers : List Activation) (written : List Bool)
    (s : Machine) (t u : State) : Type 0 where
  pub running : u.end ≡ Running
  pub newest : IsActivationOf e callee u.running
  -- the caller waits with its values
  pub waits : Waiting
  pub are : u.waiting ≡ waits ∷ t.waiting
  pub waiting : AreWaiting e callee (caller ∷ callers) (waits ∷ t.waiting)
  pub values : waits.caller.values ≡ t.running.values
  pub passes : Passes t u
  -- each written byte of an argument is held by the callee; memory takes bytes of arguments alone
  pub size : length u.memory ≡ 65536
  pub bytes : (offset : ℕ) → slice_index u.memory offset < 256
  pub held :
      (offset : ℕ) → IsArgumentByte e.program callee.frame offset → is_marked written offset ≡ true
      → Holds e.image e.program.layout u.memory (typed_by e callee u.running) offset
      (slice_index s.memory (e.program.layout.ds * 16 + offset))
  pub others :
      (offset : ℕ)
      → (slice_index u.memory offset ≡ slice_index t.memory offset)
      ⊎ (IsArgumentByte e.program callee.frame offset
      × IsPlaced e.image e.program.layout callee.frame.entry (place_in (typed_by e callee u.running) offset))

-- The procedure returns in the inner run to the caller that waits: its halves and flags are the caller's, which takes
-- the bytes of arguments that it may have changed, one after another, and all else is as it was.
pub record Returns (e : Setting) (callee : Activation) (callers : List Activation) (written : List Bool) (t u : State)
    : Type 0 where
  pub running : u.end ≡ Running
  pub caller : Activation
  pub older : List Activation
  pub callers_are : callers ≡ caller ∷ older
  pub waits : Waiting
  pub waiting : t.waiting ≡ waits ∷ u.waiting
  pub newest : IsActivationOf e caller u.running
  pub passes : Passes t u
  -- the bytes of arguments that are given back, and the caller with them
  pub offsets : List ℕ
  pub bytes : ℕ → ℕ
  pub small : (offset : ℕ) → bytes offset < 256
  pub changeable :
      (offset : ℕ) → Contains offsets offset → IsChangeable e.image e.program.layout callee.frame offset
  pub given :
      (offset : ℕ) → IsChangeable e.image e.program.layout callee.frame offset → is_marked written offset ≡ true
      → Contains offsets offset
      × Holds e.image e.program.layout t.memory (typed_by e callee t.running) offset (bytes offset)
  pub resumed : Typed
  pub puts :
      PutsAll e.image e.program.layout bytes (typed_by e caller waits.caller) t.memory offsets resumed u.memory
  pub like : IsAlike resumed (typed_by e caller u.running)
