-- Where the end of a block leads, other than that of a jump through a table.
use Rattle.std.proofs.Common.{◌≡◌, ℕ, zero, suc, Bool, true, false, List, [], ◌∷◌, Contains, Option, Some, None, refl, sym, ap, ◌∙◌, arith, true≢false}
use Rattle.std.specs.Prelude.{◌==◌, if◌then◌else◌}
use Rattle.dcc_machine.specs.declared.instr.Op.{Op}
use Rattle.dcc_machine.specs.declared.instr.Op.TheVariants.{Jump, Branch, Loop, LoopE, LoopNe, Jcxz, Table, Call, Ret, Int21}
use Rattle.dcc_prog.specs.CleanLaws.{moves_frames}
use Rattle.dcc_machine.specs.Successors.{is_exit, op_successors}
use Rattle.dcc_ir.specs.Tree.{Expr}
use Rattle.dcc_ir.specs.Run.{State, value_in}
use Rattle.dcc_ops.specs.Statements.{op_test, exit_to}
use Rattle.dcc_simulation.specs.Nodes.{leads_to}
use Rattle.dcc_simulation.specs.Procedures.{Procedure}
use Rattle.dcc_simulation.specs.Passed.{exit_of}

-- the operation jumps through a table
abbrev pub is_table : Op → Bool
is_table (Table r offset) = true
is_table op = false

-- one successor at most
data IsOnly : List ℕ → Type 0 where
  none : IsOnly []
  one : (x : ℕ) → IsOnly (x ∷ [])

int-only : (exit : Bool) (next : ℕ) → IsOnly (if exit then [] else next ∷ [])
int-only true next = none
int-only false next = one next

only-successor : (op : Op) (next : ℕ) (ah : Option ℕ) (targets : List ℕ) → op_test op ≡ None → is_table op ≡ false
    → moves_frames op ≡ false
    → IsOnly (op_successors op next ah targets)
only-successor (Jump target) next ah targets untested other stays = one target
only-successor (Branch tested target) next ah targets untested other stays = cc
only-successor (Loop target) next ah targets untested other stays = cc
only-successor (LoopE target) next ah targets untested other stays = cc
only-successor (LoopNe target) next ah targets untested other stays = cc
only-successor (Jcxz target) next ah targets untested other stays = cc
only-successor (Table r offset) next ah targets untested other stays = absurd (true≢false other)
only-successor (Call target) next ah targets untested other stays = absurd (true≢false stays)
only-successor (Ret count) next ah targets untested other stays = absurd (true≢false stays)
only-successor Int21 next ah targets untested other stays = int-only (is_exit ah) next
only-successor op next ah targets untested other stays = one next

-- where there is one successor at most, the end of the block leads to it
only-leads : (list : List ℕ) (to : ℕ) (u : State) → IsOnly list → Contains list to
    → leads_to (exit_to None list) u ≡ Some to
only-leads _ to u none (k, less, is) = absurd (omega (arith, less))
only-leads _ to u (one x) (zero, less, is) = ap Some is
only-leads _ to u (one x) (suc k, less, is) = absurd (omega (arith, less))

-- the end of the block of an operation that doesn't return or jump through a table
pub exit-is : (p : Procedure) (op : Op) (places : List ℕ) → is_table op ≡ false → moves_frames op ≡ false
    → exit_of p op places ≡ exit_to (op_test op) places
exit-is p (Table r offset) places other stays = absurd (true≢false other)
exit-is p (Ret count) places other stays = absurd (true≢false stays)
exit-is p op places other stays = refl

pub untested-leads : (op : Op) (next : ℕ) (ah : Option ℕ) (targets : List ℕ) (to : ℕ) (u : State)
    → op_test op ≡ None → is_table op ≡ false → moves_frames op ≡ false
    → Contains (op_successors op next ah targets) to
    → leads_to (exit_to (op_test op) (op_successors op next ah targets)) u ≡ Some to
untested-leads op next ah targets to u untested other stays has =
    ap (λ test. leads_to (exit_to test (op_successors op next ah targets)) u) untested
    ∙ only-leads (op_successors op next ah targets) to u (only-successor op next ah targets untested other stays) has

-- a test chooses one of two
pub tested-leads : (op : Op) (next : ℕ) (ah : Option ℕ) (targets : List ℕ) (test : Expr) (target to : ℕ) (u : State)
    → op_test op ≡ Some test
    → op_successors op next ah targets ≡ target ∷ next ∷ []
    → to ≡ (if value_in u test == 1 then target else next)
    → leads_to (exit_to (op_test op) (op_successors op next ah targets)) u ≡ Some to
tested-leads op next ah targets test target to u tested are goes =
    ap (λ o. leads_to (exit_to o (op_successors op next ah targets)) u) tested
    ∙ ap (λ l. leads_to (exit_to (Some test) l) u) are
    ∙ ap Some (sym goes)

-- the targets of a table don't matter for other operations
pub targets-spared : (op : Op) (next : ℕ) (ah other : Option ℕ) (targets others : List ℕ) (test : Expr)
    → op_test op ≡ Some test
    → op_successors op next ah targets ≡ op_successors op next other others
targets-spared (Branch tested target) next ah other targets others test told = refl
targets-spared (Loop target) next ah other targets others test told = refl
targets-spared (LoopE target) next ah other targets others test told = refl
targets-spared (LoopNe target) next ah other targets others test told = refl
targets-spared (Jcxz target) next ah other targets others test told = refl
targets-spared op next ah other targets others test told = cc
