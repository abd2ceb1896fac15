-- Operations that move bytes: MOV, XCHG, PUSH and POP, byte by byte.
use Rattle.std.specs.Prelude.{ℕ, ℤ, pos, neg_ℤ, ◌+ℤ◌, ◌-ℤ◌, Bool, ◌&&◌, ◌||◌, List, [], ◌∷◌, ◌++◌, if◌then◌else◌}
use Rattle.std.specs.List.{list_any}
use Rattle.std.specs.Ordering.{int_eq}
use Rattle.dcc_machine.specs.declared.instr.Operand.{Operand}
use Rattle.dcc_machine.specs.declared.instr.Op.{Op}
use Rattle.dcc_machine.specs.declared.instr.Op.TheVariants.{Mov, Xchg, Push, Pop}
use Rattle.dcc_demand.specs.Procedures.{Effect, Leaves, Copies, Pops, Makes, WordEffect, LeavesWord, Pushes, Overwrites}
use Rattle.dcc_machine_demand.specs.Bodies.{Body}
use Rattle.dcc_machine_demand.specs.Holders.{Holder, Spot, placed, nowhere, is_at, is_memory, frame_spot, spots_of}
use Rattle.dcc_machine_demand.specs.Holders.{is_of_address}

-- one byte is moved: where to, how, and what it is made of
pub record Move : Type 0 where
  pub to : Spot
  pub effect : Effect Holder ℤ
  pub made_of : Holder → Bool

-- a byte of a place is copied
abbrev pub copying : Spot → Effect Holder ℤ
copying (placed place) = Copies place
copying spot = Makes

-- the move of one byte, which is made of that byte and of what takes part in the addresses
abbrev pub move_from : (Holder → Bool) → Spot → Spot → Move
move_from addresses to from =
    record { to = to; effect = copying from; made_of = λ place. is_at from place || addresses place }

-- the moves to each of the first bytes from the others, in their order
abbrev pub moves_between : (Holder → Bool) → List Spot → List Spot → List Move
moves_between addresses [] from = []
moves_between addresses (to ∷ rest) [] = move_from addresses to nowhere ∷ moves_between addresses rest []
moves_between addresses (to ∷ rest) (from ∷ others) =
    move_from addresses to from ∷ moves_between addresses rest others

-- the moves of a POP: to each byte of the operand from the frame, from an offset on
abbrev pub popping : Body → Operand → List Spot → ℤ → List Move
popping body a [] k = []
popping body a (to ∷ rest) k =
    record { to = to; effect = Pops k; made_of = λ place. is_at (frame_spot body k) place || is_of_address a place }
    ∷ popping body a rest (k +ℤ pos 1)

-- the bytes of a word of the frame
abbrev pub word_spots : Body → ℤ → List Spot
word_spots body k = frame_spot body k ∷ frame_spot body (k +ℤ pos 1) ∷ []

-- the offset of the word that a PUSH writes at a height; `popped_offset`: of the word that a POP reads
abbrev pub pushed_offset : ℕ → ℤ
pushed_offset height = neg_ℤ (pos height)

abbrev pub popped_offset : ℕ → ℤ
popped_offset height = pos 2 -ℤ pos height

abbrev pub of_either : Operand → Operand → Holder → Bool
of_either a b place = is_of_address a place || is_of_address b place

-- the moves of an operation at a height
abbrev pub moves_of : Body → ℕ → Op → List Move
moves_of body height (Mov to from) = moves_between (of_either to from) (spots_of body to) (spots_of body from)
moves_of body height (Xchg a b) =
    moves_between (of_either a b) (spots_of body a) (spots_of body b)
    ++ moves_between (of_either a b) (spots_of body b) (spots_of body a)
moves_of body height (Push a) =
    moves_between (is_of_address a) (word_spots body (pushed_offset height)) (spots_of body a)
moves_of body height (Pop a) = popping body a (spots_of body a) (popped_offset height)
moves_of body height op = []

-- What moves do.

abbrev pub moved_effect : List Move → Holder → Effect Holder ℤ
moved_effect [] place = Leaves
moved_effect (move ∷ moves) place = if is_at move.to place then move.effect else moved_effect moves place

abbrev pub moved_made_of : List Move → Holder → Holder → Bool
moved_made_of moves to from = list_any (λ move. is_at move.to to && move.made_of from) moves

-- moves use what they move to memory
abbrev pub moved_uses : List Move → Holder → Bool
moved_uses moves place = list_any (λ move. is_memory move.to && move.made_of place) moves

-- Words of the stack.

abbrev pub pushing : Spot → WordEffect Holder
pushing (placed place) = Pushes place
pushing spot = Overwrites

-- the bytes of the operand of a PUSH
abbrev pub pushed_spots : Body → Op → List Spot
pushed_spots body (Push a) = spots_of body a
pushed_spots body op = []

-- what a PUSH of bytes into the frame, from an offset on, does to the byte of the stack at an offset
abbrev pub pushed_from : ℤ → List Spot → ℤ → WordEffect Holder
pushed_from k [] j = LeavesWord
pushed_from k (spot ∷ spots) j = if int_eq k j then pushing spot else pushed_from (k +ℤ pos 1) spots j
