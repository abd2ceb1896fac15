-- What a mnemonic names. This stands between the definitions and the code; no public contract rests on it.
use Rattle.std.specs.Prelude.{ℕ, List, Option, find, codes}
use Rattle.std.specs.Str.{bytes_eq}
use Rattle.dcc_spelled.specs.Spelling.{alu_name, unary_name, shift_name, plain_name, branch_name}
use Rattle.dcc_reread.specs.declared.mnemonic.Mnemonic.{Mnemonic}
use Rattle.dcc_reread.specs.declared.mnemonic.Mnemonic.TheVariants.{Alu, Unary, Shift, Mov, Xchg, Lea, Push, Pop}
use Rattle.dcc_reread.specs.declared.mnemonic.Mnemonic.TheVariants.{Enter, Leave, Plain, Jmp, Branch, Loop, LoopE}
use Rattle.dcc_reread.specs.declared.mnemonic.Mnemonic.TheVariants.{LoopNe, Jcxz, Call, Ret, Int}
use Rattle.dcc_reread.specs.declared.mnemonic.TheConstants.{MNEMONICS}

abbrev pub mnemonic_name : Mnemonic → List ℕ
mnemonic_name (Alu operation) = alu_name operation
mnemonic_name (Unary operation) = unary_name operation
mnemonic_name (Shift operation) = shift_name operation
mnemonic_name Mov = codes "mov"
mnemonic_name Xchg = codes "xchg"
mnemonic_name Lea = codes "lea"
mnemonic_name Push = codes "push"
mnemonic_name Pop = codes "pop"
mnemonic_name Enter = codes "enter"
mnemonic_name Leave = codes "leave"
mnemonic_name (Plain operation) = plain_name operation
mnemonic_name Jmp = codes "jmp"
mnemonic_name (Branch condition) = branch_name condition
mnemonic_name Loop = codes "loop"
mnemonic_name LoopE = codes "loope"
mnemonic_name LoopNe = codes "loopne"
mnemonic_name Jcxz = codes "jcxz"
mnemonic_name Call = codes "call"
mnemonic_name Ret = codes "ret"
mnemonic_name Int = codes "int"

-- the mnemonic of a name
abbrev pub mnemonic_of : List ℕ → Option Mnemonic
mnemonic_of name = find (λ mnemonic. bytes_eq (mnemonic_name mnemonic) name) MNEMONICS
