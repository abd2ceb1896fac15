-- Small codes, tried against the machine: numbers as they are printed, instructions of the 80186, counts of shifts, and
-- keys at the end of the input.
use Rattle.std.proofs.Common.{◌≡◌, ◌<◌, ◌^◌, ◌+◌, ℕ, true, List, [], ◌∷◌, length, Option, Some, None, refl, arith}
use Rattle.dcc_num.specs.declared.Reg.TheVariants.{Ax, Bx}
use Rattle.dcc_num.specs.declared.dos.TheConstants.{GETCHE, PUTC, GETCH, PUTS, EXIT}
use Rattle.dcc_num.specs.Numbers.{sign_extension_of, signed_of}
use Rattle.dcc_num.specs.Shift.{shl_of}
use Rattle.dcc_machine.specs.declared.cpu.Cpu.{Cpu}
use Rattle.dcc_machine.specs.declared.cpu.Cpu.TheVariants.{I8086, I186}
use Rattle.dcc_machine.specs.declared.segment.TheConstants.{ES, CS, SS, DS}
use Rattle.dcc_machine.specs.declared.image.Image.{Image}
use Rattle.dcc_machine.specs.declared.instr.Shift.TheVariants.{Shl}
use Rattle.dcc_machine.specs.declared.instr.Count.TheVariants.{Cl, Const as ConstCount}
use Rattle.dcc_machine.specs.declared.instr.Operand.TheVariants.{Word}
use Rattle.dcc_machine.specs.declared.instr.Op.TheVariants.{Shift as ShiftOp, Imul3}
use Rattle.dcc_machine.specs.declared.instr.Instr.{Instr}
use Rattle.dcc_run.specs.Event.{Wrote, Took, MetEnd}
use Rattle.dcc_machine.specs.Bytes.{word_at}
use Rattle.dcc_machine.specs.Machine.{start_state, word_in}
use Rattle.dcc_machine.specs.Step.{op_step}
use Rattle.dcc_machine.specs.Dos.{key_step}
use Rattle.dcc_machine.specs.Table.{table, instruction_at}
use Rattle.dcc_machine.proofs.MzImageLaws.{vec_of}

-- Numbers.

segment-numbers : ES ∷ CS ∷ SS ∷ DS ∷ [] ≡ 0 ∷ 1 ∷ 2 ∷ 3 ∷ []
segment-numbers = refl

dos-numbers : GETCHE ∷ PUTC ∷ GETCH ∷ PUTS ∷ EXIT ∷ [] ≡ 0x01 ∷ 0x02 ∷ 0x08 ∷ 0x09 ∷ 0x4C ∷ []
dos-numbers = refl

-- Images: a prelude of five bytes, which loads DS, then the code, which begins at offset 5.

abbrev pub image_of : (code : List ℕ) → length code < 2 ^ 62 → Image
image_of code few = record {
  bytes = vec_of (0xB8 ∷ 0x11 ∷ 0x01 ∷ 0x8E ∷ 0xD8 ∷ code) (omega (arith, few));
  code_len = 5 + length code;
  cs = 0x0110;
  ip = 0;
  ss = 0x0111;
  sp = 0x0100;
}

-- no code after the prelude
abbrev empty_image : Image
empty_image = image_of [] (omega arith)

-- The 80186.

-- the bytes of an instruction
abbrev instruction_of : Cpu → List ℕ → Option Instr
instruction_of cpu bytes = instruction_at cpu 5 bytes

-- another level than 0 is none
deep_enter-none : instruction_of I186 (0xC8 ∷ 0x02 ∷ 0x00 ∷ 0x01 ∷ []) ≡ None
unfolding instruction_at table word_at
deep_enter-none = refl

-- imul ax,bx,6; shl ax,4
later_instructions :
    instruction_of I186 (0x6B ∷ 0xC3 ∷ 0x06 ∷ []) ∷ instruction_of I186 (0xC1 ∷ 0xE0 ∷ 0x04 ∷ []) ∷ []
    ≡ Some (record { op = Imul3 Ax (Word Bx) 6; len = 3 })
    ∷ Some (record { op = ShiftOp Shl (Word Ax) (ConstCount 4); len = 3 })
    ∷ []
unfolding instruction_at table word_at sign_extension_of signed_of
later_instructions = refl

-- 32 places to the left are all of a word on the 8086, and none on the 80186
abbrev shifted : Cpu → ℕ
shifted cpu =
    word_in (op_step cpu (ShiftOp Shl (Word Ax) Cl) 5
    (record (start_state empty_image []) { regs = 1 ∷ 32 ∷ 0 ∷ 0 ∷ 0 ∷ 0 ∷ 0 ∷ 0 ∷ [] })) Ax

counts-differ : shifted I8086 ∷ shifted I186 ∷ [] ≡ 0 ∷ 1 ∷ []
unfolding vec_of shl_of
counts-differ = refl

-- The console.

-- on an empty input each of two keys is a read at its end, and nothing is echoed
keys-at_the_end : (key_step true (key_step true (start_state empty_image []))).events ≡ MetEnd ∷ MetEnd ∷ []
keys-at_the_end = refl

-- a key is taken and then written, before the input has ended
key-then_the_end : (key_step true (key_step true (start_state empty_image (0x61 ∷ [])))).events ≡ Took 0x61 ∷ Wrote 0x61 ∷ MetEnd ∷ []
key-then_the_end = refl
