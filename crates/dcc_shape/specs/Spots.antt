-- The statements of a function, each with what stands around and before it.
use Rattle.std.specs.Prelude.{ℕ, ◌+◌, Bool, true, false, List, [], ◌∷◌, ◌++◌, Option, Some, None}
use Rattle.std.specs.List.{list_all}
use Rattle.dcc_c.specs.Tree.{Word, Stmt, If, While, DoWhile, Forever, Switch, Goto, Label, Lines, no_lines, line}
use Rattle.dcc_c.specs.Tree.{Arms, no_arms, arm}
use Rattle.dcc_c.specs.Token.{same_bytes}

-- A statement; the label that is the statement directly before it; those of the loop statements around it, the
-- innermost first; and how many blocks stand around it, the function's own not counted.
pub record Spot : Type 0 where
  pub stmt : Stmt
  pub label : Option Word
  pub loops : List (Option Word)
  pub depth : ℕ

-- a loop
abbrev pub is_loop : Stmt → Bool
is_loop (While e body) = true
is_loop (DoWhile body e) = true
is_loop (Forever body) = true
is_loop _ = false

-- an `if`, a `switch` or a loop
abbrev pub has_blocks : Stmt → Bool
has_blocks (If e body otherwise) = true
has_blocks (Switch e arms last) = true
has_blocks stmt = is_loop stmt

-- the label that the statement is
abbrev pub label_in : Stmt → Option Word
label_in (Label word) = Some word
label_in _ = None

-- the label that the statement goes to
abbrev pub goal_in : Stmt → Option Word
goal_in (Goto word) = Some word
goal_in _ = None

abbrev mutual
  -- the statements of a block, each before those inside it
  pub block_spots : List (Option Word) → ℕ → Option Word → Lines → List Spot
  block_spots loops depth label no_lines = []
  block_spots loops depth label (line stmt at lines) =
      record { stmt = stmt; label = label; loops = loops; depth = depth }
      ∷ (inner_spots loops depth label stmt ++ block_spots loops depth (label_in stmt) lines)

  -- the statements inside a statement
  pub inner_spots : List (Option Word) → ℕ → Option Word → Stmt → List Spot
  inner_spots loops depth label (If e body otherwise) =
      block_spots loops (depth + 1) None body ++ block_spots loops (depth + 1) None otherwise
  inner_spots loops depth label (While e body) = block_spots (label ∷ loops) (depth + 1) None body
  inner_spots loops depth label (DoWhile body e) = block_spots (label ∷ loops) (depth + 1) None body
  inner_spots loops depth label (Forever body) = block_spots (label ∷ loops) (depth + 1) None body
  inner_spots loops depth label (Switch e arms last) = arm_spots loops depth arms ++ arm_spots loops depth last
  inner_spots loops depth label _ = []

  -- the statements inside the arms of a `switch`
  pub arm_spots : List (Option Word) → ℕ → Arms → List Spot
  arm_spots loops depth no_arms = []
  arm_spots loops depth (arm cases body arms) = block_spots loops (depth + 1) None body ++ arm_spots loops depth arms

-- the statements of a function's body, in the order of the text
abbrev pub spots : Lines → List Spot
spots body = block_spots [] 0 None body

-- there is a label, and it is this
abbrev pub is_the : Word → Option Word → Bool
is_the word None = false
is_the word (Some other) = same_bytes word other

-- the label that the statement goes to passes the test, if it is a `goto`
abbrev pub goal_passes : (Word → Bool) → Stmt → Bool
goal_passes test stmt = elim (goal_in stmt) [ Some word ↦ test word | None ↦ true ]

-- each `goto` passes a test of where it stands and of the label that it goes to
abbrev pub every_goto : (Spot → Word → Bool) → List Spot → Bool
every_goto test list = list_all (λ s. goal_passes (test s) s.stmt) list
