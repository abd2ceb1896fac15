-- What the translation rests on: the instructions stand in ascending order and go on to instructions, at as many places
-- as their operations say. This stands between the procedure and the code.
use Rattle.std.specs.Prelude.{◌≡◌, ◌<◌, ℕ, List, [], ◌∷◌, map, All, AllPairs, Contains, Option, Some, None}
use Rattle.dcc_prog.specs.declared.procedure.Node.{Node}
use Rattle.dcc_machine.specs.declared.instr.Op.{Op}
use Rattle.dcc_machine.specs.declared.instr.Op.TheVariants.{Table, Ret}
use Rattle.dcc_ir.specs.Tree.{Expr}
use Rattle.dcc_ops.specs.Statements.{op_test}
use Rattle.dcc_lift.specs.Blocks.{Nodes}

-- the offsets of the instructions
abbrev pub offsets_of : Nodes → List ℕ
offsets_of nodes = map (λ found. found.0) nodes

-- a jump with a test goes on at two places, one without at one or at none
abbrev pub AgreesWith : Option Expr → List ℕ → Type 0
AgreesWith (Some test) (target ∷ next ∷ []) = Unit {0}
AgreesWith None [] = Unit {0}
AgreesWith None (next ∷ []) = Unit {0}
AgreesWith test places = ⊥

-- an operation goes on at as many places as its test says; a jump through a table at any number of places, and a RET
-- at none
abbrev pub GoesOnAt : Op → List ℕ → Type 0
GoesOnAt (Table r offset) places = Unit {0}
GoesOnAt (Ret count) places = places ≡ []
GoesOnAt op places = AgreesWith (op_test op) places

-- the instructions of a procedure with that entry, after a prelude that begins at an offset where no instruction of it
-- stands
pub record AreSound (nodes : Nodes) (entry prelude : ℕ) : Type 0 where
  pub ascending : AllPairs (λ (a b : ℕ × Node). a.0 < b.0) nodes
  pub below : All (λ (found : ℕ × Node). found.0 < 65536) nodes
  pub closed : All (λ (found : ℕ × Node). All (Contains (offsets_of nodes)) found.1.succ.items) nodes
  pub entered : Contains (offsets_of nodes) entry
  pub apart : ¬ Contains (offsets_of nodes) prelude
  pub agree : All (λ (found : ℕ × Node). GoesOnAt found.1.instr.op found.1.succ.items) nodes
