-- Where the operands of an operation stand among its accesses, and which bytes it stores.
use Rattle.std.proofs.Common.{◌≡◌, Bool, true, false, true≢false, ◌&&◌, List, [], ◌∷◌, ◌++◌, filter, Contains, Option, Some, None, refl, sym, ap, ◌∙◌, subst}
use Rattle.std.specs.Prelude.{not, if◌then◌else◌}
use Rattle.std.proofs.lemmas.List.Elements.{filter-append, Contains-append_left, Contains-append_right}
use Rattle.dcc_num.specs.declared.Width.{Width}
use Rattle.dcc_machine.specs.declared.instr.Alu.{Alu as AluName}
use Rattle.dcc_machine.specs.declared.instr.Shift.{Shift as ShiftName}
use Rattle.dcc_machine.specs.declared.instr.Unary.{Unary as UnaryName}
use Rattle.dcc_machine.specs.declared.instr.Unary.TheVariants.{Inc, Dec, Neg, Not, Mul, Imul, Div, Idiv}
use Rattle.dcc_machine.specs.declared.instr.Plain.TheVariants.{Xlat}
use Rattle.dcc_machine.specs.declared.instr.Count.{Count}
use Rattle.dcc_machine.specs.declared.instr.Ea.{Ea}
use Rattle.dcc_machine.specs.declared.instr.Operand.{Operand}
use Rattle.dcc_machine.specs.declared.instr.Operand.TheVariants.{Word, Byte, Seg, Mem, Const}
use Rattle.dcc_machine.specs.declared.instr.Op.{Op}
use Rattle.dcc_machine.specs.declared.instr.Op.TheVariants.{Alu, Unary, Shift, Mov, Xchg, Imul3, Plain, Jump, Branch, Loop, LoopE, LoopNe, Jcxz}
use Rattle.dcc_machine.specs.Machine.{State as Machine, with_operand, operand_value}
use Rattle.dcc_machine.specs.Operations.{is_division}
use Rattle.dcc_machine.specs.Wanted.{stores_back}
use Rattle.dcc_machine.specs.Writes.{writes_operand}
use Rattle.dcc_machine.specs.Access.{Reading, Writing, Access, writes_back, operand_accesses, result_accesses, plain_accesses, accesses}
use Rattle.dcc_prog.specs.Frame.{memory_of, memory_of_two}
use Rattle.dcc_prog.specs.Clean.{is_reading}
use Rattle.dcc_stack.specs.Slots.{is_memory}
use Rattle.dcc_ops.specs.Performed.{is_xlat}
use Rattle.dcc_simulation.specs.Operation.{is_performed}
use Rattle.dcc_simulation.proofs.FoundOperands.{IsOperandIn}
use Rattle.dcc_simulation.proofs.TabledOperands.{IsRegister, HavePlaces}

-- The memory of two operands.

first-memory : (a b : Operand) {w : Width} {ea : Ea} → memory_of a ≡ Some (w, ea) → memory_of_two a b ≡ Some (w, ea)
first-memory (Mem v other) b is = is
first-memory (Word r) b is = cc
first-memory (Byte r half) b is = cc
first-memory (Seg number) b is = cc
first-memory (Const v number) b is = cc

second-memory : (a b : Operand) {w : Width} {ea : Ea} → (is_memory a && is_memory b) ≡ false
    → memory_of b ≡ Some (w, ea)
    → memory_of_two a b ≡ Some (w, ea)
second-memory (Mem v other) (Mem w ea) one is = absurd (true≢false one)
second-memory (Mem v other) (Word r) one is = cc
second-memory (Mem v other) (Byte r half) one is = cc
second-memory (Mem v other) (Seg number) one is = cc
second-memory (Mem v other) (Const w number) one is = cc
second-memory (Word r) b one is = is
second-memory (Byte r half) b one is = is
second-memory (Seg number) b one is = is
second-memory (Const v number) b one is = is

-- Operands.

module _ (u : Machine) where
  -- what an operand is read by and written by
  abbrev reads : Operand → List Access
  reads x = operand_accesses Reading x u

  abbrev writes : Operand → List Access
  writes x = operand_accesses Writing x u

  pub alu-first : (operation : AluName) (a b : Operand) → IsOperandIn (Alu operation a b) u Reading a
  alu-first operation a b = record {
    named = λ is. first-memory a b is;
    among = λ access is.
        Contains-append_left (reads a) (reads b ++ result_accesses (writes_operand operation) a u) access is;
  }

  pub alu-second : (operation : AluName) (a b : Operand) → (is_memory a && is_memory b) ≡ false
      → IsOperandIn (Alu operation a b) u Reading b
  alu-second operation a b one = record {
    named = λ is. second-memory a b one is;
    among = λ access is.
        Contains-append_right (reads a) (reads b ++ result_accesses (writes_operand operation) a u) access
        (Contains-append_left (reads b) (result_accesses (writes_operand operation) a u) access is);
  }

  pub alu-written : (operation : AluName) (a b : Operand) → writes_operand operation ≡ true
      → IsOperandIn (Alu operation a b) u Writing a
  alu-written operation a b so = record {
    named = λ is. first-memory a b is;
    among = λ access is.
        Contains-append_right (reads a) (reads b ++ result_accesses (writes_operand operation) a u) access
        (Contains-append_right (reads b) (result_accesses (writes_operand operation) a u) access
        (subst (λ c. Contains (result_accesses c a u) access) (sym so) is));
  }

  pub unary-read : (operation : UnaryName) (a : Operand) → IsOperandIn (Unary operation a) u Reading a
  unary-read operation a = record {
    named = λ is. is;
    among = λ access is. Contains-append_left (reads a) (result_accesses (writes_back operation) a u) access is;
  }

  pub unary-written : (operation : UnaryName) (a : Operand) → writes_back operation ≡ true
      → IsOperandIn (Unary operation a) u Writing a
  unary-written operation a so = record {
    named = λ is. is;
    among = λ access is.
        Contains-append_right (reads a) (result_accesses (writes_back operation) a u) access
        (subst (λ c. Contains (result_accesses c a u) access) (sym so) is);
  }

  pub shift-read : (operation : ShiftName) (a : Operand) (count : Count)
      → IsOperandIn (Shift operation a count) u Reading a
  shift-read operation a count = record {
    named = λ is. is;
    among = λ access is. Contains-append_left (reads a) (writes a) access is;
  }

  pub shift-written : (operation : ShiftName) (a : Operand) (count : Count)
      → IsOperandIn (Shift operation a count) u Writing a
  shift-written operation a count = record {
    named = λ is. is;
    among = λ access is. Contains-append_right (reads a) (writes a) access is;
  }

  pub mov-read : (to from : Operand) → (is_memory to && is_memory from) ≡ false
      → IsOperandIn (Mov to from) u Reading from
  mov-read to from one = record {
    named = λ is. second-memory to from one is;
    among = λ access is. Contains-append_left (reads from) (writes to) access is;
  }

  pub mov-written : (to from : Operand) → IsOperandIn (Mov to from) u Writing to
  mov-written to from = record {
    named = λ is. first-memory to from is;
    among = λ access is. Contains-append_right (reads from) (writes to) access is;
  }

  -- what XCHG writes
  abbrev exchanged : Operand → Operand → List Access
  exchanged a b = writes a ++ operand_accesses Writing b (with_operand u a (operand_value u b))

  pub xchg-read : (a b : Operand) → IsOperandIn (Xchg a b) u Reading a
  xchg-read a b = record {
    named = λ is. first-memory a b is;
    among = λ access is. Contains-append_left (reads a) (reads b ++ exchanged a b) access is;
  }

  pub xchg-written : (a b : Operand) → IsOperandIn (Xchg a b) u Writing a
  xchg-written a b = record {
    named = λ is. first-memory a b is;
    among = λ access is.
        Contains-append_right (reads a) (reads b ++ exchanged a b) access
        (Contains-append_right (reads b) (exchanged a b) access
        (Contains-append_left (writes a) (operand_accesses Writing b (with_operand u a (operand_value u b))) access
        is));
  }

  pub imul-read : (r : _) (a : Operand) (factor : _) → IsOperandIn (Imul3 r a factor) u Reading a
  imul-read r a factor = record { named = λ is. is; among = λ access is. is }

-- Stores.

-- the operand that an operation writes, if any
abbrev pub written_if : Bool → Operand → Option Operand
written_if so x = if so then Some x else None

abbrev pub written_operand : Op → Option Operand
written_operand (Alu operation a b) = written_if (writes_operand operation) a
written_operand (Unary operation a) = written_if (writes_back operation) a
written_operand (Shift operation a count) = Some a
written_operand (Mov to from) = Some to
written_operand (Xchg a b) = Some a
written_operand op = None

abbrev pub accesses_to : Option Operand → Machine → List Access
accesses_to None u = []
accesses_to (Some x) u = operand_accesses Writing x u

abbrev pub stores : List Access → List Access
stores list = filter (λ access. not (is_reading access)) list

no-stores : (x : Operand) (u : Machine) → stores (operand_accesses Reading x u) ≡ []
no-stores (Word r) u = refl
no-stores (Byte r half) u = refl
no-stores (Seg number) u = refl
no-stores (Mem w ea) u = refl
no-stores (Const w number) u = refl

pub all-stores : (x : Operand) (u : Machine) → stores (operand_accesses Writing x u) ≡ operand_accesses Writing x u
all-stores (Word r) u = refl
all-stores (Byte r half) u = refl
all-stores (Seg number) u = refl
all-stores (Mem w ea) u = refl
all-stores (Const w number) u = refl

register-none : (x : Operand) (u : Machine) → IsRegister x → operand_accesses Writing x u ≡ []
register-none (Word r) u is = refl
register-none (Byte r half) u is = refl
register-none (Seg number) u is = absurd is
register-none (Mem w ea) u is = absurd is
register-none (Const w number) u is = absurd is

-- after a read come its stores
after-read : (x : Operand) (u : Machine) (rest : List Access)
    → stores (operand_accesses Reading x u ++ rest) ≡ stores rest
after-read x u rest =
    filter-append (λ access. not (is_reading access)) (operand_accesses Reading x u) rest
    ∙ ap (λ l. l ++ stores rest) (no-stores x u)

result-stores : (so : Bool) (x : Operand) (u : Machine)
    → stores (result_accesses so x u) ≡ accesses_to (written_if so x) u
result-stores true x u = all-stores x u
result-stores false x u = refl

append-none : (xs : List Access) → xs ++ [] ≡ xs
append-none [] = refl
append-none (x ∷ xs) = ap (λ l. x ∷ l) (append-none xs)

pub stores-are : (op : Op) (u : Machine) → is_performed op ≡ true → HavePlaces op
    → stores (accesses op u) ≡ accesses_to (written_operand op) u
stores-are (Alu operation a b) u so placed =
    after-read a u (operand_accesses Reading b u ++ result_accesses (writes_operand operation) a u)
    ∙ after-read b u (result_accesses (writes_operand operation) a u) ∙ result-stores (writes_operand operation) a u
stores-are (Unary operation a) u so placed =
    after-read a u (result_accesses (writes_back operation) a u) ∙ result-stores (writes_back operation) a u
stores-are (Shift operation a count) u so placed = after-read a u (operand_accesses Writing a u) ∙ all-stores a u
stores-are (Mov to from) u so placed = after-read from u (operand_accesses Writing to u) ∙ all-stores to u
stores-are (Xchg a b) u so placed =
    after-read a u (operand_accesses Reading b u ++ exchanged u a b)
    ∙ after-read b u (exchanged u a b)
    ∙ ap (λ l. stores (operand_accesses Writing a u ++ l))
    (register-none b (with_operand u a (operand_value u b)) placed.register)
    ∙ ap stores (append-none (operand_accesses Writing a u)) ∙ all-stores a u
stores-are (Imul3 r a factor) u so placed = no-stores a u
stores-are (Plain operation) u so placed = ap stores (none operation so)
  where
    none : (operation : _) → not (is_xlat operation) ≡ true → plain_accesses operation u ≡ []
    none Xlat other = absurd (true≢false (sym other))
    none operation other = refl
stores-are (Jump target) u so placed = refl
stores-are (Branch condition target) u so placed = refl
stores-are (Loop target) u so placed = refl
stores-are (LoopE target) u so placed = refl
stores-are (LoopNe target) u so placed = refl
stores-are (Jcxz target) u so placed = refl
stores-are op u so placed = absurd (true≢false (sym so))

-- what is no division stores into its operand where it writes it
pub back-same : (operation : UnaryName) → is_division operation ≡ false → writes_back operation ≡ stores_back operation
back-same Div undivided = absurd (true≢false undivided)
back-same Idiv undivided = absurd (true≢false undivided)
back-same Mul undivided = refl
back-same Imul undivided = refl
back-same Inc undivided = refl
back-same Dec undivided = refl
back-same Neg undivided = refl
back-same Not undivided = refl
