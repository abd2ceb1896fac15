-- A spelling begins with the name of its mnemonic.
use Rattle.std.proofs.Common.{◌≡◌, ℕ, zero, suc, Bool, true, false, List, [], ◌∷◌, ◌++◌, codes, refl, sym, ap, ◌∙◌, subst}
use Rattle.std.specs.Prelude.{◌==◌, ◌&&◌, nat_le}
use Rattle.std.specs.List.{join_with_byte}
use Rattle.dcc_machine.specs.declared.instr.Alu.TheVariants.{Add, Or, Adc, Sbb, And, Sub, Xor, Cmp, Test}
use Rattle.dcc_machine.specs.declared.instr.Shift.TheVariants.{Rol, Ror, Rcl, Rcr, Shl, Shr, Sar}
use Rattle.dcc_machine.specs.declared.instr.Unary.TheVariants.{Inc, Dec, Neg, Not, Mul, Imul, Div, Idiv}
use Rattle.dcc_machine.specs.declared.instr.Cond.TheVariants.{O, No, B, Ae, Z, Nz, Be, A, S, Ns, L, Ge, Le, G}
use Rattle.dcc_machine.specs.declared.instr.Plain.TheVariants.{Nop, Cbw, Cwd, Xlat, Clc, Stc, Cmc, Cli, Sti, Cld}
use Rattle.dcc_machine.specs.declared.instr.Op.{Op}
use Rattle.dcc_machine.specs.declared.instr.Op.TheVariants.{Alu as AluOp, Unary as UnaryOp, Shift as ShiftOp, Mov, Xchg}
use Rattle.dcc_machine.specs.declared.instr.Op.TheVariants.{Lea, Imul3, Push, Pop, Enter, Leave, Plain as PlainOp, Jump}
use Rattle.dcc_machine.specs.declared.instr.Op.TheVariants.{Branch, Loop, LoopE, LoopNe, Jcxz, Table, Call, Ret, Int21}
use Rattle.dcc_reread.specs.declared.mnemonic.Mnemonic.{Mnemonic}
use Rattle.dcc_reread.specs.declared.mnemonic.Mnemonic.TheVariants as name
use Rattle.dcc_spelled.specs.Spelling.{spelling, operands}
use Rattle.dcc_reread.specs.Mnemonics.{mnemonic_name}
use Rattle.dcc_reread.specs.Reading.{byte_of}
use Rattle.dcc_reread.proofs.ReadBack.{append-none}

-- the text begins with the name of a mnemonic
pub record BeginsWithName (text : List ℕ) : Type 0 where
  pub mnemonic : Mnemonic
  pub rest : List ℕ
  pub text_is : text ≡ mnemonic_name mnemonic ++ rest

with_operands-of : (m : Mnemonic) (op : Op) → spelling op ≡ mnemonic_name m ++ (codes " " ++ join_with_byte 44 (operands op)) → BeginsWithName (spelling op)
with_operands-of m op e = record { mnemonic = m; rest = codes " " ++ join_with_byte 44 (operands op); text_is = e }

alone-of : (m : Mnemonic) (op : Op) → spelling op ≡ mnemonic_name m → BeginsWithName (spelling op)
alone-of m op e = record { mnemonic = m; rest = []; text_is = e ∙ sym (append-none (mnemonic_name m)) }

pub begins-with-name : (op : Op) → BeginsWithName (spelling op)
begins-with-name (AluOp operation a b) = with_operands-of (name.Alu operation) (AluOp operation a b) refl
begins-with-name (UnaryOp operation a) = with_operands-of (name.Unary operation) (UnaryOp operation a) refl
begins-with-name (ShiftOp operation a count) = with_operands-of (name.Shift operation) (ShiftOp operation a count) refl
begins-with-name (Mov to from) = with_operands-of name.Mov (Mov to from) refl
begins-with-name (Xchg a b) = with_operands-of name.Xchg (Xchg a b) refl
begins-with-name (Lea r ea) = with_operands-of name.Lea (Lea r ea) refl
begins-with-name (Imul3 r a constant) = with_operands-of (name.Unary Imul) (Imul3 r a constant) refl
begins-with-name (Push a) = with_operands-of name.Push (Push a) refl
begins-with-name (Pop a) = with_operands-of name.Pop (Pop a) refl
begins-with-name (Enter n) = with_operands-of name.Enter (Enter n) refl
begins-with-name (Jump n) = with_operands-of name.Jmp (Jump n) refl
begins-with-name (Branch condition n) = with_operands-of (name.Branch condition) (Branch condition n) refl
begins-with-name (Loop n) = with_operands-of name.Loop (Loop n) refl
begins-with-name (LoopE n) = with_operands-of name.LoopE (LoopE n) refl
begins-with-name (LoopNe n) = with_operands-of name.LoopNe (LoopNe n) refl
begins-with-name (Jcxz n) = with_operands-of name.Jcxz (Jcxz n) refl
begins-with-name (Table r n) = with_operands-of name.Jmp (Table r n) refl
begins-with-name (Call n) = with_operands-of name.Call (Call n) refl
begins-with-name (Ret (suc n)) = with_operands-of name.Ret (Ret (suc n)) refl
begins-with-name Int21 = with_operands-of name.Int Int21 refl
begins-with-name (Ret zero) = alone-of name.Ret (Ret zero) refl
begins-with-name Leave = alone-of name.Leave Leave refl
begins-with-name (PlainOp operation) = alone-of (name.Plain operation) (PlainOp operation) refl

-- what no name begins with: a byte below the letters in lower case, `db` and `od`
pub record IsNameText (text : List ℕ) : Type 0 where
  pub letter : nat_le 97 (byte_of text 0) ≡ true
  pub no_bytes : (byte_of text 0 == 100) && (byte_of text 1 == 98) ≡ false
  pub no_odd : (byte_of text 0 == 111) && (byte_of text 1 == 100) ≡ false

name-text : (m : Mnemonic) (rest : List ℕ) → IsNameText (mnemonic_name m ++ rest)
name-text (name.Alu Add) rest = record { letter = refl; no_bytes = refl; no_odd = refl }
name-text (name.Alu Or) rest = record { letter = refl; no_bytes = refl; no_odd = refl }
name-text (name.Alu Adc) rest = record { letter = refl; no_bytes = refl; no_odd = refl }
name-text (name.Alu Sbb) rest = record { letter = refl; no_bytes = refl; no_odd = refl }
name-text (name.Alu And) rest = record { letter = refl; no_bytes = refl; no_odd = refl }
name-text (name.Alu Sub) rest = record { letter = refl; no_bytes = refl; no_odd = refl }
name-text (name.Alu Xor) rest = record { letter = refl; no_bytes = refl; no_odd = refl }
name-text (name.Alu Cmp) rest = record { letter = refl; no_bytes = refl; no_odd = refl }
name-text (name.Alu Test) rest = record { letter = refl; no_bytes = refl; no_odd = refl }
name-text (name.Unary Inc) rest = record { letter = refl; no_bytes = refl; no_odd = refl }
name-text (name.Unary Dec) rest = record { letter = refl; no_bytes = refl; no_odd = refl }
name-text (name.Unary Neg) rest = record { letter = refl; no_bytes = refl; no_odd = refl }
name-text (name.Unary Not) rest = record { letter = refl; no_bytes = refl; no_odd = refl }
name-text (name.Unary Mul) rest = record { letter = refl; no_bytes = refl; no_odd = refl }
name-text (name.Unary Imul) rest = record { letter = refl; no_bytes = refl; no_odd = refl }
name-text (name.Unary Div) rest = record { letter = refl; no_bytes = refl; no_odd = refl }
name-text (name.Unary Idiv) rest = record { letter = refl; no_bytes = refl; no_odd = refl }
name-text (name.Shift Rol) rest = record { letter = refl; no_bytes = refl; no_odd = refl }
name-text (name.Shift Ror) rest = record { letter = refl; no_bytes = refl; no_odd = refl }
name-text (name.Shift Rcl) rest = record { letter = refl; no_bytes = refl; no_odd = refl }
name-text (name.Shift Rcr) rest = record { letter = refl; no_bytes = refl; no_odd = refl }
name-text (name.Shift Shl) rest = record { letter = refl; no_bytes = refl; no_odd = refl }
name-text (name.Shift Shr) rest = record { letter = refl; no_bytes = refl; no_odd = refl }
name-text (name.Shift Sar) rest = record { letter = refl; no_bytes = refl; no_odd = refl }
name-text name.Mov rest = record { letter = refl; no_bytes = refl; no_odd = refl }
name-text name.Xchg rest = record { letter = refl; no_bytes = refl; no_odd = refl }
name-text name.Lea rest = record { letter = refl; no_bytes = refl; no_odd = refl }
name-text name.Push rest = record { letter = refl; no_bytes = refl; no_odd = refl }
name-text name.Pop rest = record { letter = refl; no_bytes = refl; no_odd = refl }
name-text name.Enter rest = record { letter = refl; no_bytes = refl; no_odd = refl }
name-text name.Leave rest = record { letter = refl; no_bytes = refl; no_odd = refl }
name-text (name.Plain Nop) rest = record { letter = refl; no_bytes = refl; no_odd = refl }
name-text (name.Plain Cbw) rest = record { letter = refl; no_bytes = refl; no_odd = refl }
name-text (name.Plain Cwd) rest = record { letter = refl; no_bytes = refl; no_odd = refl }
name-text (name.Plain Xlat) rest = record { letter = refl; no_bytes = refl; no_odd = refl }
name-text (name.Plain Clc) rest = record { letter = refl; no_bytes = refl; no_odd = refl }
name-text (name.Plain Stc) rest = record { letter = refl; no_bytes = refl; no_odd = refl }
name-text (name.Plain Cmc) rest = record { letter = refl; no_bytes = refl; no_odd = refl }
name-text (name.Plain Cli) rest = record { letter = refl; no_bytes = refl; no_odd = refl }
name-text (name.Plain Sti) rest = record { letter = refl; no_bytes = refl; no_odd = refl }
name-text (name.Plain Cld) rest = record { letter = refl; no_bytes = refl; no_odd = refl }
name-text name.Jmp rest = record { letter = refl; no_bytes = refl; no_odd = refl }
name-text (name.Branch O) rest = record { letter = refl; no_bytes = refl; no_odd = refl }
name-text (name.Branch No) rest = record { letter = refl; no_bytes = refl; no_odd = refl }
name-text (name.Branch B) rest = record { letter = refl; no_bytes = refl; no_odd = refl }
name-text (name.Branch Ae) rest = record { letter = refl; no_bytes = refl; no_odd = refl }
name-text (name.Branch Z) rest = record { letter = refl; no_bytes = refl; no_odd = refl }
name-text (name.Branch Nz) rest = record { letter = refl; no_bytes = refl; no_odd = refl }
name-text (name.Branch Be) rest = record { letter = refl; no_bytes = refl; no_odd = refl }
name-text (name.Branch A) rest = record { letter = refl; no_bytes = refl; no_odd = refl }
name-text (name.Branch S) rest = record { letter = refl; no_bytes = refl; no_odd = refl }
name-text (name.Branch Ns) rest = record { letter = refl; no_bytes = refl; no_odd = refl }
name-text (name.Branch L) rest = record { letter = refl; no_bytes = refl; no_odd = refl }
name-text (name.Branch Ge) rest = record { letter = refl; no_bytes = refl; no_odd = refl }
name-text (name.Branch Le) rest = record { letter = refl; no_bytes = refl; no_odd = refl }
name-text (name.Branch G) rest = record { letter = refl; no_bytes = refl; no_odd = refl }
name-text name.Loop rest = record { letter = refl; no_bytes = refl; no_odd = refl }
name-text name.LoopE rest = record { letter = refl; no_bytes = refl; no_odd = refl }
name-text name.LoopNe rest = record { letter = refl; no_bytes = refl; no_odd = refl }
name-text name.Jcxz rest = record { letter = refl; no_bytes = refl; no_odd = refl }
name-text name.Call rest = record { letter = refl; no_bytes = refl; no_odd = refl }
name-text name.Ret rest = record { letter = refl; no_bytes = refl; no_odd = refl }
name-text name.Int rest = record { letter = refl; no_bytes = refl; no_odd = refl }

pub spelling-text : (op : Op) → IsNameText (spelling op)
spelling-text op =
    let named = begins-with-name op in
    subst IsNameText (sym named.text_is) (name-text named.mnemonic named.rest)
