-- Which divisions find their upper half prepared at an offset, as the code keeps it. This stands between the definition
-- and the code; no public contract rests on it.
use Rattle.std.specs.Prelude.{◌≡◌, ℕ, Bool, true, false, not, ◌&&◌, ◌||◌, List, get_or, Option, Some, None}
use Rattle.dcc_num.specs.declared.Width.{Width}
use Rattle.dcc_num.specs.declared.Width.TheVariants.{Byte as byte_width, Word as word_width}
use Rattle.dcc_machine.specs.declared.image.Image.{Image}
use Rattle.dcc_prog.specs.declared.procedure.Layout.{Layout}
use Rattle.dcc_machine.specs.declared.instr.Unary.{Unary}
use Rattle.dcc_machine.specs.declared.instr.Unary.TheVariants.{Div, Idiv}
use Rattle.dcc_machine.specs.declared.instr.Operand.{Operand}
use Rattle.dcc_machine.specs.declared.instr.Op.{Op}
use Rattle.dcc_machine.specs.declared.instr.Op.TheVariants.{Unary as UnaryOp}
use Rattle.dcc_machine.specs.declared.instr.Instr.{Instr}
use Rattle.dcc_prog.specs.declared.refusal.Refusal.{Refusal}
use Rattle.dcc_prog.specs.declared.refusal.Refusal.TheVariants.{Construct}
use Rattle.dcc_prog.specs.declared.refusal.ConstructKind.TheVariants.{Division}
use Rattle.dcc_machine.specs.Machine.{operand_width}
use Rattle.dcc_prog.specs.Trail.{instruction_in, StandsAt}
use Rattle.dcc_machine.specs.Operations.{is_division}
use Rattle.dcc_prog.specs.Prepared.{zeroes_upper, extends_sign, writes_ax, writes_upper, IsPrepared}
use Rattle.dcc_procs.specs.declared.division.Ready.{Ready}
use Rattle.dcc_procs.specs.declared.known.Known.{Known}

-- no division finds its upper half prepared
abbrev pub unready : Ready
unready = record { div_byte = false; div_word = false; idiv_byte = false; idiv_word = false }

-- whether a division of that width finds its upper half prepared; other operations need no preparation
abbrev pub is_for : Ready → Unary → Width → Bool
is_for ready Div byte_width = ready.div_byte
is_for ready Div word_width = ready.div_word
is_for ready Idiv byte_width = ready.idiv_byte
is_for ready Idiv word_width = ready.idiv_word
is_for ready operation width = true

-- whether DIV, or IDIV, finds its upper half prepared after an operation, by whether it would have found it so before
abbrev pub div_after : Width → Op → Bool → Bool
div_after width op before = zeroes_upper width op || (not (writes_upper width op) && before)

abbrev pub idiv_after : Width → Op → Bool → Bool
idiv_after width op before = extends_sign width op || ((not (writes_ax op) && not (writes_upper width op)) && before)

abbrev pub ready_after : Op → Ready → Ready
ready_after op before = record {
  div_byte = div_after byte_width op before.div_byte;
  div_word = div_after word_width op before.div_word;
  idiv_byte = idiv_after byte_width op before.idiv_byte;
  idiv_word = idiv_after word_width op before.idiv_word;
}

abbrev pub ready_after_found : Option Instr → Ready → Ready
ready_after_found None before = unready
ready_after_found (Some instr) before = ready_after instr.op before

-- which divisions are prepared after the instruction at the only offset from which trails come; none where there is no
-- such offset
abbrev pub ready_from : Image → Layout → Option ℕ → List Ready → Ready
ready_from image layout None ready = unready
ready_from image layout (Some from) ready =
    ready_after_found (instruction_in image layout from) (get_or ready from unready)

abbrev pub ready_at : Image → Layout → Option Known → List Ready → Ready
ready_at image layout None ready = unready
ready_at image layout (Some known) ready = ready_from image layout known.from ready

-- the code's `ready` holds of a division at an offset exactly where the division is prepared there
pub record IsReady (image : Image) (layout : Layout) (entry at : ℕ) (ready : Ready) : Type 0 where
  pub prepared :
      (division : Unary) (width : Width) → is_division division ≡ true → is_for ready division width ≡ true
      → IsPrepared image layout entry division width at
  pub unprepared :
      (division : Unary) (width : Width) → is_division division ≡ true → is_for ready division width ≡ false
      → ¬ IsPrepared image layout entry division width at

-- each operation on one operand that stands at the offset finds what it needs
abbrev pub FindsReady : Image → Layout → ℕ → Ready → Type 0
FindsReady image layout at ready =
    (operation : Unary) (operand : Operand) → StandsAt image layout at (UnaryOp operation operand)
    → is_for ready operation (operand_width operand) ≡ true

-- a division at the offset that does not find its upper half prepared, and is refused for that
pub record LacksReady (image : Image) (layout : Layout) (at : ℕ) (ready : Ready) (refusal : Refusal) : Type 0 where
  pub refusal_is : refusal ≡ Construct Division at
  pub operation : Unary
  pub operand : Operand
  pub stands : StandsAt image layout at (UnaryOp operation operand)
  pub not_ready : is_for ready operation (operand_width operand) ≡ false
