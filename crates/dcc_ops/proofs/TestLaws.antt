-- The test of an operation tells where it goes on, in any coupling.
use Rattle.std.proofs.Common.{◌≡◌, ◌∙◌, sym, ap, refl, subst, ℕ, ◌+◌, ◌-◌, ◌%◌, Bool, not, ◌&&◌, ◌||◌, [], ◌∷◌, Option}
use Rattle.std.specs.Prelude.{if◌then◌else◌, ◌==◌, bit_and, bit_or, bit_xor}
use Rattle.std.specs.Int.{from_bool}
use Rattle.dcc_num.specs.declared.Width.TheVariants.{Word as word_width}
use Rattle.dcc_num.specs.declared.Reg.TheVariants.{Cx}
use Rattle.dcc_num.specs.declared.FlagName.TheVariants.{Zf, Of}
use Rattle.dcc_num.specs.declared.Flags.{Flags}
use Rattle.dcc_num.specs.Numbers.{differ}
use Rattle.dcc_machine.specs.declared.cpu.Cpu.{Cpu}
use Rattle.dcc_machine.specs.declared.instr.Cond.{Cond}
use Rattle.dcc_machine.specs.declared.instr.Cond.TheVariants.{O, No, B, Ae, Z, Nz, Be, A, S, Ns, L, Ge, Le, G}
use Rattle.dcc_machine.specs.declared.instr.Operand.TheVariants.{Word}
use Rattle.dcc_machine.specs.declared.instr.Op.{Op}
use Rattle.dcc_machine.specs.declared.instr.Op.TheVariants.{Alu as AluOp, Unary as UnaryOp, Shift as ShiftOp, Mov, Xchg, Lea, Imul3, Push, Pop, Enter, Leave, Plain as PlainOp, Jump, Branch, Loop, LoopE, LoopNe, Jcxz, Table, Call, Ret, Int21}
use Rattle.dcc_machine.specs.Machine.{State as Machine, word_in}
use Rattle.dcc_machine.specs.Operations.{holds}
use Rattle.dcc_machine.specs.Step.{op_step}
use Rattle.dcc_machine.specs.Successors.{op_successors}
use Rattle.dcc_ir.specs.declared.syntax.BinOp.TheVariants.{And as AndOp}
use Rattle.dcc_ir.specs.declared.syntax.Loc.TheVariants.{Flag, Temp}
use Rattle.dcc_ir.specs.Location.{Values}
use Rattle.dcc_ir.specs.Tree.{Expr, Binary}
use Rattle.dcc_ir.specs.Value.{Environment, value_of}
use Rattle.dcc_ir.specs.Run.{State, scene_of, value_in, execute}
use Rattle.dcc_ops.specs.OperandPlace.{OperandPlace}
use Rattle.dcc_ops.specs.Expressions.{word_of, flag, negated, is_zero, less, condition, goes_round}
use Rattle.dcc_ops.specs.Statements.{counting, op_stmts}
use Rattle.dcc_ops.specs.Coupling.{Relation, HoldFlags, IsCoupling}
use Rattle.dcc_ops.specs.Performed.{TestsDecide}
use Rattle.dcc_ops.proofs.SumValues.{xor_bits, and_bits, or_bits, chosen}
use Rattle.dcc_ops.proofs.CouplingLaws.{sets_values, register_value}
use Rattle.dcc_ops.proofs.PerformedLaws.{lowered_is, complement_bit as negated_value, counted}

-- Conditions.

and_value : (j k : ℕ) (p q : Bool) → j ≡ from_bool p → k ≡ from_bool q → bit_and j k ≡ from_bool (p && q)
and_value j k p q e f = ap (λ n. bit_and n k) e ∙ ap (bit_and (from_bool p)) f ∙ and_bits p q

or_value : (j k : ℕ) (p q : Bool) → j ≡ from_bool p → k ≡ from_bool q → bit_or j k ≡ from_bool (p || q)
or_value j k p q e f = ap (λ n. bit_or n k) e ∙ ap (bit_or (from_bool p)) f ∙ or_bits p q

less_value : (flags : Flags) (scene : Environment) → HoldFlags flags scene.values
    → value_of scene less ≡ from_bool (differ flags.sf flags.of)
less_value flags scene h = ap (λ n. bit_xor n (scene.values (Flag Of))) h.negative
    ∙ ap (bit_xor (from_bool flags.sf)) h.overflow ∙ xor_bits flags.sf flags.of

-- the expression of a condition tells whether it holds
pub condition_value : (tested : Cond) (flags : Flags) (scene : Environment) → HoldFlags flags scene.values
    → value_of scene (condition tested) ≡ from_bool (holds tested flags)
condition_value O flags scene h = h.overflow
condition_value No flags scene h = negated_value _ flags.of h.overflow
condition_value B flags scene h = h.carry
condition_value Ae flags scene h = negated_value _ flags.cf h.carry
condition_value Z flags scene h = h.zero
condition_value Nz flags scene h = negated_value _ flags.zf h.zero
condition_value Be flags scene h = or_value _ _ flags.cf flags.zf h.carry h.zero
condition_value A flags scene h = negated_value _ (flags.cf || flags.zf) (or_value _ _ flags.cf flags.zf h.carry h.zero)
condition_value S flags scene h = h.negative
condition_value Ns flags scene h = negated_value _ flags.sf h.negative
condition_value L flags scene h = less_value flags scene h
condition_value Ge flags scene h = negated_value _ (differ flags.sf flags.of) (less_value flags scene h)
condition_value Le flags scene h = or_value _ _ flags.zf (differ flags.sf flags.of) h.zero (less_value flags scene h)
condition_value G flags scene h =
    negated_value _ (flags.zf || differ flags.sf flags.of)
    (or_value _ _ flags.zf (differ flags.sf flags.of) h.zero (less_value flags scene h))

-- where a test that stands for a choice goes
chosen_by : (k target next : ℕ) (p : Bool) → k ≡ from_bool p
    → (if p then target else next) ≡ (if k == 1 then target else next)
chosen_by k target next p e = sym (ap (λ n. if n == 1 then target else next) e ∙ chosen p target next)

-- Where an operation with a test goes on.

-- the state goes on to the target where the test has the value 1, else to the next instruction
abbrev Goes : Cpu → Op → Option ℕ → ℕ → Machine → Option ℕ → State → OperandPlace → OperandPlace → Expr → Type 0
Goes cpu op number at s ah t p q test =
    (target : ℕ) × (op_successors op s.ip ah [] ≡ target ∷ s.ip ∷ [])
    × ((op_step cpu op at s).ip
    ≡ (if value_in (execute (op_stmts cpu op number p q) t) test == 1 then target else s.ip))

-- CX is not 0 after it was lowered
not_done : Machine → Bool
not_done s = not ((word_in s Cx + 65535) % 65536 == 0)

module _ (R : Relation) (coupling : IsCoupling R) (cpu : Cpu) (number : Option ℕ) (at : ℕ) (s : Machine) (t : State)
    (p q : OperandPlace) (ah : Option ℕ) (rel : R s t) where
  branch_goes : (tested : Cond) (target : ℕ) → Goes cpu (Branch tested target) number at s ah t p q (condition tested)
  branch_goes tested target = (
    target,
    refl,
    chosen_by _ target s.ip (holds tested s.flags)
        (condition_value tested s.flags (scene_of t) (coupling.flags s t rel)),
  )

  round_value : value_in (execute counting t) goes_round ≡ from_bool (not_done s)
  unfolding not_done
  round_value =
      negated_value _ ((word_in s Cx + 65535) % 65536 == 0)
      (ap (λ n. from_bool (n == 0))
      (ap (λ (f : Values). f (Temp 5)) (sets_values R coupling counting s t refl rel)
      ∙ ap (λ n. (n + 65536 - 1) % 65536) (register_value R coupling s t (Word Cx) refl rel)
      ∙ lowered_is (word_in s Cx)))

  zero_kept : (execute counting t).running.values (Flag Zf) ≡ from_bool s.flags.zf
  zero_kept = (coupling.flags _ (execute counting t) (counted R coupling s t rel)).zero

  loop_goes : (target : ℕ) → Goes cpu (Loop target) number at s ah t p q goes_round
  unfolding not_done
  loop_goes target = (target, refl, chosen_by _ target s.ip (not_done s) round_value)

  loop_equal_goes : (target : ℕ) → Goes cpu (LoopE target) number at s ah t p q (Binary AndOp 1 (flag Zf) goes_round)
  unfolding not_done
  loop_equal_goes target = (
    target,
    refl,
    chosen_by _ target s.ip (s.flags.zf && not_done s)
        (and_value _ _ s.flags.zf (not_done s) zero_kept round_value),
  )

  loop_unequal_goes : (target : ℕ)
      → Goes cpu (LoopNe target) number at s ah t p q (Binary AndOp 1 (negated (flag Zf)) goes_round)
  unfolding not_done
  loop_unequal_goes target = (
    target,
    refl,
    chosen_by _ target s.ip (not s.flags.zf && not_done s)
        (and_value _ _ (not s.flags.zf) (not_done s) (negated_value _ s.flags.zf zero_kept) round_value),
  )

  zero_goes : (target : ℕ) → Goes cpu (Jcxz target) number at s ah t p q (is_zero word_width (word_of Cx))
  zero_goes target = (
    target,
    refl,
    chosen_by _ target s.ip (word_in s Cx == 0)
        (ap (λ n. from_bool (n == 0)) (register_value R coupling s t (Word Cx) refl rel)),
  )

pub tests_decide : (R : Relation) → IsCoupling R → TestsDecide R
tests_decide R coupling cpu (Branch tested target) number at s t p q ah test e rel =
    let same : condition tested ≡ test = cc in
    subst (Goes cpu (Branch tested target) number at s ah t p q) same
    (branch_goes R coupling cpu number at s t p q ah rel tested target)
tests_decide R coupling cpu (Loop target) number at s t p q ah test e rel =
    let same : goes_round ≡ test = cc in
    subst (Goes cpu (Loop target) number at s ah t p q) same (loop_goes R coupling cpu number at s t p q ah rel target)
tests_decide R coupling cpu (LoopE target) number at s t p q ah test e rel =
    let same : Binary AndOp 1 (flag Zf) goes_round ≡ test = cc in
    subst (Goes cpu (LoopE target) number at s ah t p q) same
    (loop_equal_goes R coupling cpu number at s t p q ah rel target)
tests_decide R coupling cpu (LoopNe target) number at s t p q ah test e rel =
    let same : Binary AndOp 1 (negated (flag Zf)) goes_round ≡ test = cc in
    subst (Goes cpu (LoopNe target) number at s ah t p q) same
    (loop_unequal_goes R coupling cpu number at s t p q ah rel target)
tests_decide R coupling cpu (Jcxz target) number at s t p q ah test e rel =
    let same : is_zero word_width (word_of Cx) ≡ test = cc in
    subst (Goes cpu (Jcxz target) number at s ah t p q) same (zero_goes R coupling cpu number at s t p q ah rel target)
tests_decide R coupling cpu (AluOp operation a b) number at s t p q ah test e rel = absurd (let clash = e in cc)
tests_decide R coupling cpu (UnaryOp operation a) number at s t p q ah test e rel = absurd (let clash = e in cc)
tests_decide R coupling cpu (ShiftOp operation a count) number at s t p q ah test e rel = absurd (let clash = e in cc)
tests_decide R coupling cpu (Mov to from) number at s t p q ah test e rel = absurd (let clash = e in cc)
tests_decide R coupling cpu (Xchg a b) number at s t p q ah test e rel = absurd (let clash = e in cc)
tests_decide R coupling cpu (Imul3 r a constant) number at s t p q ah test e rel = absurd (let clash = e in cc)
tests_decide R coupling cpu (PlainOp operation) number at s t p q ah test e rel = absurd (let clash = e in cc)
tests_decide R coupling cpu (Enter count) number at s t p q ah test e rel = absurd (let clash = e in cc)
tests_decide R coupling cpu Leave number at s t p q ah test e rel = absurd (let clash = e in cc)
tests_decide R coupling cpu (Jump target) number at s t p q ah test e rel = absurd (let clash = e in cc)
tests_decide R coupling cpu Int21 number at s t p q ah test e rel = absurd (let clash = e in cc)
tests_decide R coupling cpu (Lea r ea) number at s t p q ah test e rel = absurd (let clash = e in cc)
tests_decide R coupling cpu (Push a) number at s t p q ah test e rel = absurd (let clash = e in cc)
tests_decide R coupling cpu (Pop a) number at s t p q ah test e rel = absurd (let clash = e in cc)
tests_decide R coupling cpu (Table r offset) number at s t p q ah test e rel = absurd (let clash = e in cc)
tests_decide R coupling cpu (Call target) number at s t p q ah test e rel = absurd (let clash = e in cc)
tests_decide R coupling cpu (Ret count) number at s t p q ah test e rel = absurd (let clash = e in cc)
