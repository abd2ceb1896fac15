-- Laws on locations, the halves of word registers and the flags: which of them a step may change.
use Rattle.std.specs.Prelude.{◌≡◌, ℕ, Bool, false}
use Rattle.dcc_num.specs.declared.Reg.{Reg}
use Rattle.dcc_num.specs.declared.Reg.TheVariants.{Sp}
use Rattle.dcc_num.specs.declared.Half.{Half}
use Rattle.dcc_num.specs.declared.Flags.{Flags}
use Rattle.dcc_num.specs.declared.FlagName.{FlagName}
use Rattle.dcc_num.specs.declared.FlagName.TheVariants.{Cf, Zf, Sf, Of}
use Rattle.dcc_machine.specs.declared.cpu.Cpu.{Cpu}
use Rattle.dcc_machine.specs.declared.instr.Op.{Op}
use Rattle.dcc_machine.specs.declared.instr.Op.TheVariants.{Call}
use Rattle.dcc_machine.specs.Machine.{State, word_in, half_of_word}
use Rattle.dcc_machine.specs.Step.{op_step}
use Rattle.dcc_machine.specs.WellFormed.{IsOperation}
use Rattle.dcc_machine.specs.StateForm.{IsState}
use Rattle.dcc_machine.specs.Writes.{is_same_register, writes_half, writes_flag}

-- what a half of a word register holds
abbrev pub half_in : State → Reg → Half → ℕ
half_in s r half = half_of_word half (word_in s r)

-- whether a flag is set
abbrev pub flag_in : Flags → FlagName → Bool
flag_in flags Cf = flags.cf
flag_in flags Zf = flags.zf
flag_in flags Sf = flags.sf
flag_in flags Of = flags.of

-- What an operation doesn't write stays as it was. Of CALL the table of writes says that it may write all, since the
-- called procedure may: the CALL's own step writes SP alone.
pub record WhatIsNotWrittenStays : Type 0 where
  pub half :
      (cpu : Cpu) (op : Op) (at : ℕ) (s : State) (r : Reg) (half : Half) → IsOperation op → IsState s
      → writes_half op r half ≡ false → half_in (op_step cpu op at s) r half ≡ half_in s r half
  pub flag :
      (cpu : Cpu) (op : Op) (at : ℕ) (s : State) (flag : FlagName) → IsOperation op
      → writes_flag op flag ≡ false → flag_in (op_step cpu op at s).flags flag ≡ flag_in s.flags flag
  pub call_word :
      (cpu : Cpu) (target at : ℕ) (s : State) (r : Reg)
      → is_same_register r Sp ≡ false → word_in (op_step cpu (Call target) at s) r ≡ word_in s r
  pub call_flags : (cpu : Cpu) (target at : ℕ) (s : State) → (op_step cpu (Call target) at s).flags ≡ s.flags
