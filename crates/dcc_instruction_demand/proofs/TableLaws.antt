-- Operations whose halves and flags are told by the operation alone: jumps, returns, and what has no operand.
use Rattle.std.proofs.Common.{◌≡◌, ℕ, Bool, true, false, ◌==◌, ◌||◌, if◌then◌else◌, inl, inr, List, [], Option, Some, refl, sym, subst, eqb-true, true≢false}
use Rattle.dcc_num.specs.declared.Reg.{Reg}
use Rattle.dcc_num.specs.declared.Reg.TheVariants.{Ax, Cx, Dx, Bx, Sp, Bp, Si, Di}
use Rattle.dcc_machine.specs.Machine.{is_general}
use Rattle.dcc_machine.specs.declared.cpu.Cpu.{Cpu}
use Rattle.dcc_machine.specs.declared.instr.Cond.{Cond}
use Rattle.dcc_machine.specs.declared.instr.Cond.TheVariants.{O, No, B, Ae, Z, Nz, Be, A, S, Ns, L, Ge, Le, G}
use Rattle.dcc_machine.specs.declared.instr.Plain.{Plain}
use Rattle.dcc_machine.specs.declared.instr.Plain.TheVariants.{Nop, Cbw, Cwd, Clc, Stc, Cmc, Cli, Sti, Cld, Xlat}
use Rattle.dcc_machine.specs.declared.instr.Op.{Op}
use Rattle.dcc_machine.specs.declared.instr.Op.TheVariants.{Lea, Enter, Leave, Plain as PlainOp, Jump, Branch, Loop, LoopE, LoopNe, Jcxz, Table, Ret, Int21}
use Rattle.dcc_num.specs.declared.dos.TheConstants.{GETCHE, PUTC, GETCH, PUTS, EXIT}
use Rattle.dcc_prog.specs.Construct.{is_dos_number}
use Rattle.dcc_lift.proofs.ListTests.{or_cases}
use Rattle.dcc_num.specs.declared.Width.TheVariants.{Word as word_width}
use Rattle.dcc_machine.specs.declared.instr.Ea.{Ea}
use Rattle.dcc_machine.specs.declared.instr.Operand.TheVariants.{Word}
use Rattle.dcc_ops.specs.OperandPlace.{computed}
use Rattle.dcc_ops.specs.Computed.{computed_expr}
use Rattle.dcc_ops.specs.Registers.{register_place}
use Rattle.dcc_ops.specs.Statements.{mov_stmts}
use Rattle.dcc_simulation.specs.Operands.{address_of}
use Rattle.dcc_simulation.specs.Procedures.{Procedure}
use Rattle.dcc_simulation.specs.Statements.{moves_frame, working_stmts}
use Rattle.dcc_ir.specs.Tree.{Stmt}
use Rattle.dcc_machine_demand.specs.Bodies.{Body}
use Rattle.dcc_instruction_demand.specs.Agreement.{ending}
use Rattle.dcc_instruction_demand.proofs.DecodedLaws.{is_decoded}
use Rattle.dcc_instruction_demand.proofs.ClosedLaws.{is_told, IsClosed}

-- what an operation makes and uses of halves and flags is told by the operation alone: it has no operand, jumps or
-- returns
abbrev pub is_table_told : Op → Bool
is_table_told (PlainOp operation) = true
is_table_told (Enter count) = true
is_table_told Leave = true
is_table_told (Jump target) = true
is_table_told (Branch condition target) = true
is_table_told (Loop target) = true
is_table_told (LoopE target) = true
is_table_told (LoopNe target) = true
is_table_told (Jcxz target) = true
is_table_told (Table r offset) = true
is_table_told (Ret count) = true
is_table_told op = false

module _ (cpu : Cpu) (procedures : List Procedure) (procedure : Procedure) (height : ℕ) (body : Body) (number : Option ℕ) where
  -- the statements of the operation
  abbrev stmts_of : Op → List Stmt
  stmts_of op = if moves_frame op then [] else working_stmts cpu procedures procedure height op number

  abbrev Closed : Op → Type 0
  Closed op = IsClosed body op number (stmts_of op) (ending op)

  told_branch : (c : Cond) (target : ℕ) → is_told body (Branch c target) number (stmts_of (Branch c target)) (ending (Branch c target)) ≡ true
  told_branch O target = refl
  told_branch No target = refl
  told_branch B target = refl
  told_branch Ae target = refl
  told_branch Z target = refl
  told_branch Nz target = refl
  told_branch Be target = refl
  told_branch A target = refl
  told_branch S target = refl
  told_branch Ns target = refl
  told_branch L target = refl
  told_branch Ge target = refl
  told_branch Le target = refl
  told_branch G target = refl

  closed_branch : (c : Cond) (target : ℕ) → Closed (Branch c target)
  closed_branch c target = record { told = told_branch c target; cells = λ n h. refl; unwritten = λ n h. refl; no_write = λ k. refl; no_use = λ k. refl; not_made = λ l k. refl }

  closed_plain : (operation : Plain) → is_table_told (PlainOp operation) ≡ true → Closed (PlainOp operation)
  closed_plain Nop e = record { told = refl; cells = λ n h. refl; unwritten = λ n h. refl; no_write = λ k. refl; no_use = λ k. refl; not_made = λ l k. refl }
  closed_plain Cbw e = record { told = refl; cells = λ n h. refl; unwritten = λ n h. refl; no_write = λ k. refl; no_use = λ k. refl; not_made = λ l k. refl }
  closed_plain Cwd e = record { told = refl; cells = λ n h. refl; unwritten = λ n h. refl; no_write = λ k. refl; no_use = λ k. refl; not_made = λ l k. refl }
  closed_plain Clc e = record { told = refl; cells = λ n h. refl; unwritten = λ n h. refl; no_write = λ k. refl; no_use = λ k. refl; not_made = λ l k. refl }
  closed_plain Stc e = record { told = refl; cells = λ n h. refl; unwritten = λ n h. refl; no_write = λ k. refl; no_use = λ k. refl; not_made = λ l k. refl }
  closed_plain Cmc e = record { told = refl; cells = λ n h. refl; unwritten = λ n h. refl; no_write = λ k. refl; no_use = λ k. refl; not_made = λ l k. refl }
  closed_plain Cli e = record { told = refl; cells = λ n h. refl; unwritten = λ n h. refl; no_write = λ k. refl; no_use = λ k. refl; not_made = λ l k. refl }
  closed_plain Sti e = record { told = refl; cells = λ n h. refl; unwritten = λ n h. refl; no_write = λ k. refl; no_use = λ k. refl; not_made = λ l k. refl }
  closed_plain Cld e = record { told = refl; cells = λ n h. refl; unwritten = λ n h. refl; no_write = λ k. refl; no_use = λ k. refl; not_made = λ l k. refl }
  closed_plain Xlat e = record { told = refl; cells = λ n h. refl; unwritten = λ n h. refl; no_write = λ k. refl; no_use = λ k. refl; not_made = λ l k. refl }

  closed_table : (r : Reg) (offset : ℕ) → is_general r ≡ true → Closed (Table r offset)
  closed_table Ax offset e = record { told = refl; cells = λ n h. refl; unwritten = λ n h. refl; no_write = λ k. refl; no_use = λ k. refl; not_made = λ l k. refl }
  closed_table Cx offset e = record { told = refl; cells = λ n h. refl; unwritten = λ n h. refl; no_write = λ k. refl; no_use = λ k. refl; not_made = λ l k. refl }
  closed_table Dx offset e = record { told = refl; cells = λ n h. refl; unwritten = λ n h. refl; no_write = λ k. refl; no_use = λ k. refl; not_made = λ l k. refl }
  closed_table Bx offset e = record { told = refl; cells = λ n h. refl; unwritten = λ n h. refl; no_write = λ k. refl; no_use = λ k. refl; not_made = λ l k. refl }
  closed_table Si offset e = record { told = refl; cells = λ n h. refl; unwritten = λ n h. refl; no_write = λ k. refl; no_use = λ k. refl; not_made = λ l k. refl }
  closed_table Di offset e = record { told = refl; cells = λ n h. refl; unwritten = λ n h. refl; no_write = λ k. refl; no_use = λ k. refl; not_made = λ l k. refl }
  closed_table Sp offset e = absurd (true≢false (sym e))
  closed_table Bp offset e = absurd (true≢false (sym e))

  -- LEA of SP or BP writes no place
  closed_lea_sp : (ea : Ea) (b : Bool) → IsClosed body (Lea Sp ea) number (if b then [] else mov_stmts word_width (register_place (Word Sp)) (computed (computed_expr (address_of ea)))) []
  closed_lea_sp ea true = record { told = refl; cells = λ n h. refl; unwritten = λ n h. refl; no_write = λ k. refl; no_use = λ k. refl; not_made = λ l k. refl }
  closed_lea_sp ea false = record { told = refl; cells = λ n h. refl; unwritten = λ n h. refl; no_write = λ k. refl; no_use = λ k. refl; not_made = λ l k. refl }

  pub closed_lea : (r : Reg) (ea : Ea) → is_general r ≡ false → Closed (Lea r ea)
  closed_lea Sp ea e = closed_lea_sp ea (moves_frame (Lea Sp ea))
  closed_lea Bp ea e = record { told = refl; cells = λ n h. refl; unwritten = λ n h. refl; no_write = λ k. refl; no_use = λ k. refl; not_made = λ l k. refl }
  closed_lea Ax ea e = absurd (true≢false e)
  closed_lea Cx ea e = absurd (true≢false e)
  closed_lea Dx ea e = absurd (true≢false e)
  closed_lea Bx ea e = absurd (true≢false e)
  closed_lea Si ea e = absurd (true≢false e)
  closed_lea Di ea e = absurd (true≢false e)

  pub closed_op : (op : Op) → is_table_told op ≡ true → is_decoded op ≡ true → Closed op
  closed_op (Jump target) e d = record { told = refl; cells = λ n h. refl; unwritten = λ n h. refl; no_write = λ k. refl; no_use = λ k. refl; not_made = λ l k. refl }
  closed_op (Loop target) e d = record { told = refl; cells = λ n h. refl; unwritten = λ n h. refl; no_write = λ k. refl; no_use = λ k. refl; not_made = λ l k. refl }
  closed_op (LoopE target) e d = record { told = refl; cells = λ n h. refl; unwritten = λ n h. refl; no_write = λ k. refl; no_use = λ k. refl; not_made = λ l k. refl }
  closed_op (LoopNe target) e d = record { told = refl; cells = λ n h. refl; unwritten = λ n h. refl; no_write = λ k. refl; no_use = λ k. refl; not_made = λ l k. refl }
  closed_op (Jcxz target) e d = record { told = refl; cells = λ n h. refl; unwritten = λ n h. refl; no_write = λ k. refl; no_use = λ k. refl; not_made = λ l k. refl }
  closed_op (Ret count) e d = record { told = refl; cells = λ n h. refl; unwritten = λ n h. refl; no_write = λ k. refl; no_use = λ k. refl; not_made = λ l k. refl }
  closed_op (Enter count) e d = record { told = refl; cells = λ n h. refl; unwritten = λ n h. refl; no_write = λ k. refl; no_use = λ k. refl; not_made = λ l k. refl }
  closed_op Leave e d = record { told = refl; cells = λ n h. refl; unwritten = λ n h. refl; no_write = λ k. refl; no_use = λ k. refl; not_made = λ l k. refl }
  closed_op (Branch c target) e d = closed_branch c target
  closed_op (PlainOp operation) e d = closed_plain operation e
  closed_op (Table r offset) e d = closed_table r offset d
  closed_op op e d = absurd (true≢false (sym e))

-- The DOS calls.

module _ (cpu : Cpu) (procedures : List Procedure) (procedure : Procedure) (height : ℕ) (body : Body) where
  abbrev pub ClosedCall : Option ℕ → Type 0
  ClosedCall number = IsClosed body Int21 number (stmts_of cpu procedures procedure height body number Int21) (ending Int21)

  closed_getche : ClosedCall (Some GETCHE)
  closed_getche = record { told = refl; cells = λ n h. refl; unwritten = λ n h. refl; no_write = λ k. refl; no_use = λ k. refl; not_made = λ l k. refl }

  closed_putc : ClosedCall (Some PUTC)
  closed_putc = record { told = refl; cells = λ n h. refl; unwritten = λ n h. refl; no_write = λ k. refl; no_use = λ k. refl; not_made = λ l k. refl }

  closed_getch : ClosedCall (Some GETCH)
  closed_getch = record { told = refl; cells = λ n h. refl; unwritten = λ n h. refl; no_write = λ k. refl; no_use = λ k. refl; not_made = λ l k. refl }

  closed_puts : ClosedCall (Some PUTS)
  closed_puts = record { told = refl; cells = λ n h. refl; unwritten = λ n h. refl; no_write = λ k. refl; no_use = λ k. refl; not_made = λ l k. refl }

  closed_exit : ClosedCall (Some EXIT)
  closed_exit = record { told = refl; cells = λ n h. refl; unwritten = λ n h. refl; no_write = λ k. refl; no_use = λ k. refl; not_made = λ l k. refl }

  pub closed_call : (n : ℕ) → is_dos_number n ≡ true → ClosedCall (Some n)
  closed_call n t = elim (or_cases ((n == GETCHE) || (n == PUTC) || (n == GETCH) || (n == PUTS)) (n == EXIT) t) [
    | inr e ↦ at EXIT closed_exit e
    | inl t ↦ elim (or_cases ((n == GETCHE) || (n == PUTC) || (n == GETCH)) (n == PUTS) t) [
      | inr e ↦ at PUTS closed_puts e
      | inl t ↦ elim (or_cases ((n == GETCHE) || (n == PUTC)) (n == GETCH) t) [
        | inr e ↦ at GETCH closed_getch e
        | inl t ↦ elim (or_cases (n == GETCHE) (n == PUTC) t) [
          | inr e ↦ at PUTC closed_putc e
          | inl e ↦ at GETCHE closed_getche e
        ]
      ]
    ]
  ]
    where
      at : (known : ℕ) → ClosedCall (Some known) → (n == known) ≡ true → ClosedCall (Some n)
      at known closed e = subst (λ m. ClosedCall (Some m)) (sym (eqb-true n known e)) closed
