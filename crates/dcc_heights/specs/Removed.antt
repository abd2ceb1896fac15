-- What RETs remove, as it is computed. This stands between the definitions and the code; no public contract rests on
-- it.
use Rattle.std.specs.Prelude.{◌≡◌, ◌≢◌, ◌⊎◌, ℕ, nat_eq, List, Contains, Option, Some, None, is_some, true}
use Rattle.std.specs.List.{AllZip}
use Rattle.std.specs.Map.{lookup}
use Rattle.dcc_prog.specs.declared.procedure.Node.{Node}
use Rattle.dcc_prog.specs.declared.procedure.Proc.{Proc}
use Rattle.dcc_machine.specs.declared.instr.Op.TheVariants.{Ret}
use Rattle.dcc_prog.specs.declared.refusal.ConstructKind.TheVariants.{StackHeight}
use Rattle.dcc_prog.specs.declared.refusal.Refusal.{Refusal}
use Rattle.dcc_prog.specs.declared.refusal.Refusal.TheVariants.{Construct, Memory}

-- a RET that removes this many bytes stands at an offset among the nodes
pub record HasRet (nodes : List (ℕ × Node)) (at bytes : ℕ) : Type 0 where
  pub node : Node
  pub among : Contains nodes (at, node)
  pub is_ret : node.instr.op ≡ Ret bytes

-- each of the nodes' RETs removes this many bytes, or there are none and the number is 0
pub record IsSize (nodes : List (ℕ × Node)) (bytes : ℕ) : Type 0 where
  pub same : (at other : ℕ) → HasRet nodes at other → other ≡ bytes
  pub some : ((at : ℕ) × HasRet nodes at bytes) ⊎ (((at other : ℕ) → ¬ HasRet nodes at other) × (bytes ≡ 0))

-- the RETs among the nodes remove this many bytes, if there are some
abbrev pub IsSizeSoFar : List (ℕ × Node) → Option ℕ → Type 0
IsSizeSoFar nodes None = (at other : ℕ) → ¬ HasRet nodes at other
IsSizeSoFar nodes (Some bytes) =
    ((at other : ℕ) → HasRet nodes at other → other ≡ bytes) × ((at : ℕ) × HasRet nodes at bytes)

-- two RETs among the nodes remove different sizes
pub data HasTwoSizes (nodes : List (ℕ × Node)) : Refusal → Type 0 where
  two_sizes :
      {at from bytes other : ℕ}
      → HasRet nodes at bytes
      → HasRet nodes from other
      → bytes ≢ other
      → HasTwoSizes nodes (Construct StackHeight at)

-- each number is what the RETs of a procedure with the entry remove, and each procedure's entry has one
pub record AreByEntry (procs : List Proc) (removed : List (ℕ × ℕ)) : Type 0 where
  pub of_proc :
      (entry bytes : ℕ)
      → lookup (nat_eq entry) removed ≡ Some bytes
      → (proc : Proc) × Contains procs proc × (proc.entry ≡ entry) × IsSize proc.nodes.entries bytes
  pub every : (proc : Proc) → Contains procs proc → is_some (lookup (nat_eq proc.entry) removed) ≡ true

-- how many bytes the RETs of each procedure remove, in the procedures' order and by their entries
pub record AreSizes (procs : List Proc) (in_order : List ℕ) (by_entry : List (ℕ × ℕ)) : Type 0 where
  pub each : AllZip (λ proc bytes. IsSize proc.nodes.entries bytes) procs in_order
  pub are_by_entry : AreByEntry procs by_entry

-- two RETs of one of the procedures remove different sizes, or there is no memory
pub data IsSizeFault (procs : List Proc) : Refusal → Type 0 where
  of_proc :
      {proc : Proc} {refusal : Refusal}
      → Contains procs proc
      → HasTwoSizes proc.nodes.entries refusal
      → IsSizeFault procs refusal
  no_memory : IsSizeFault procs Memory
