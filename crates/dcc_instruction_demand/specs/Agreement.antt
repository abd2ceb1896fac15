-- When an instruction of the machine does what its statements do together, by what is computed of these.
use Rattle.std.specs.Prelude.{◌≡◌, ℕ, ℤ, true, false, ◌⊎◌, List, [], ◌∷◌, Contains, Option, Some, None}
use Rattle.dcc_machine.specs.declared.instr.Op.{Op}
use Rattle.dcc_machine.specs.declared.instr.Op.TheVariants.{Table}
use Rattle.dcc_ir.specs.declared.syntax.Loc.{Loc}
use Rattle.dcc_ir.specs.Tree.{Expr, Stmt}
use Rattle.dcc_ir.specs.Use.{reads_of}
use Rattle.dcc_ir.specs.Demand.{makes_of}
use Rattle.dcc_ir.specs.Live.{is_among}
use Rattle.dcc_ops.specs.Expressions.{word_of}
use Rattle.dcc_ops.specs.Statements.{op_test}
use Rattle.dcc_demand.specs.Procedures.{Leaves, LeavesWord, Pops, Pushes, Procedures, is_left}
use Rattle.dcc_machine_demand.specs.Holders.{Holder}
use Rattle.dcc_sums.specs.Points.{Position}
use Rattle.dcc_sums.specs.Instance.{used_by, written_by, callee_of}
use Rattle.dcc_refinement.specs.Steps.{Passes}
use Rattle.dcc_refinement.specs.Refinement.{Refinement, EffectsAgree, WordEffectsAgree, Carries, Takes}
use Rattle.dcc_lifted_demand.specs.Sources.{sources, used, effect_after, word_effect_after}

-- What the end of a block after an operation uses.

abbrev pub test_reads : Option Expr → List Loc
test_reads None = []
test_reads (Some test) = reads_of test

abbrev pub ending : Op → List Loc
ending (Table r offset) = reads_of (word_of r)
ending op = test_reads (op_test op)

-- Calls.

-- none of the statements calls
abbrev pub Quiet : List Stmt → Type 0
Quiet [] = Unit {0}
Quiet (stmt ∷ stmts) = (callee_of stmt ≡ None) × Quiet stmts

-- the statement makes nothing of the location, and doesn't write it
abbrev pub Spares : Loc → Stmt → Type 0
Spares location stmt = (is_among (makes_of stmt) location ≡ false) × (is_among (written_by stmt) location ≡ false)

-- no statement of the list makes anything of the location, writes it or uses it
abbrev pub SparedBy : Loc → List Stmt → Type 0
SparedBy location [] = Unit {0}
SparedBy location (stmt ∷ stmts) =
    Spares location stmt × (is_among (used_by stmt) location ≡ false) × SparedBy location stmts

module _ (coarse : Procedures ℕ Holder ℤ) (fine : Procedures Position Loc Loc)
    (r : Refinement ℕ Holder ℤ Position Loc Loc) (entry at pushed : ℕ) (stmts : List Stmt) (after : List Loc) where
  -- the instruction is a call: its first statement is the call, and what passes with it is left by the instruction and
  -- by the other statements
  pub record IsCallFirst (callee : ℕ) : Type 0 where
    pub call : Stmt
    pub others : List Stmt
    pub stmts_are : stmts ≡ call ∷ others
    pub calls : callee_of call ≡ Some callee
    pub then : Quiet others
    pub left : (place : Holder) (location : Loc) → r.same entry place location → coarse.passes place ≡ true
        → (((coarse.procedure entry).action at).effect place ≡ Leaves) × Passes (coarse.procedure entry) place at
    pub spared : (location : Loc) → fine.passes location ≡ true
        → Spares location call × SparedBy location others × (is_among after location ≡ false)

  -- The instruction at the offset does what its statements do together, after which these locations are used; pushed
  -- words have the cells from the given number on.
  pub record Agrees : Type 0 where
    -- what the instruction does to what passes, its statements do
    pub effect : (place : Holder) (location : Loc) → r.same entry place location → coarse.passes place ≡ true
        → EffectsAgree coarse fine r entry (((coarse.procedure entry).action at).effect place)
        (effect_after pushed stmts location)
    pub word_effect : (place : Holder) (location : Loc) (k : ℤ) (word : Loc) → r.same entry place location
        → coarse.passes place ≡ true → r.same_word entry k word
        → WordEffectsAgree coarse fine r place location (((coarse.procedure entry).action at).word_effect k)
        (word_effect_after pushed stmts word)
    pub saved : (place : Holder) (location : Loc) (k : ℤ) → r.same entry place location → coarse.passes place ≡ true
        → ((coarse.procedure entry).action at).word_effect k ≡ Pushes place
        → (((coarse.procedure entry).action at).callee ≡ None) × (effect_after pushed stmts location ≡ Leaves)
    pub popped : (place : Holder) (location : Loc) (k : ℤ) (word : Loc) → r.same entry place location
        → coarse.passes place ≡ true → r.same_word entry k word
        → ((coarse.procedure entry).action at).effect place ≡ Pops k
        → word_effect_after pushed stmts word ≡ LeavesWord
    pub callees :
        ((((coarse.procedure entry).action at).callee ≡ None) × Quiet stmts)
        ⊎ ((callee : ℕ) × (((coarse.procedure entry).action at).callee ≡ Some callee) × IsCallFirst callee)
    -- what the instruction carries from place to place, its statements carry or use
    pub carried : (place to : Holder) (location fine_to : Loc) → r.same entry place location → r.same entry to fine_to
        → Carries coarse fine r entry at place to
        → Contains (sources stmts fine_to) location ⊎ Contains (used stmts after) location
    pub taken : (place : Holder) (location : Loc) → r.same entry place location → Takes coarse fine r entry at place
        → Contains (used stmts after) location
    pub flows : (to : Holder) (location fine_to : Loc) → r.same entry to fine_to
        → Contains (sources stmts fine_to) location
        → (place : Holder) × r.same entry place location
        × (Carries coarse fine r entry at place to ⊎ Takes coarse fine r entry at place)
    pub uses : (location : Loc) → Contains (used stmts after) location
        → (place : Holder) × r.same entry place location × Takes coarse fine r entry at place
    pub made : (place to : Holder) → is_left (((coarse.procedure entry).action at).effect to) ≡ false
        → ((coarse.procedure entry).action at).made_of to place ≡ true
        → ((coarse.procedure entry).is_exposed to ≡ true) ⊎ ((fine_to : Loc) × r.same entry to fine_to)
