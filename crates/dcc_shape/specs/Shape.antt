-- The shape that a procedure asks of its function's text: which labels jumps and loops have, and how many statements
-- of each kind there are at most.
use Rattle.std.specs.Prelude.{◌≡◌, ℕ, suc, ◌+◌, ◌≤◌, ◌==◌, nat_lt, nat_le, Bool, true, false, ◌&&◌, ◌||◌, not, List, []}
use Rattle.std.specs.Prelude.{◌∷◌, length, count_by, codes, Option, Some}
use Rattle.std.specs.List.{list_any, list_all}
use Rattle.dcc_prog.specs.declared.procedure.Proc.{Proc}
use Rattle.dcc_prog.specs.declared.frame.Frame.{Frame}
use Rattle.dcc_c.specs.Tree.{Word, Stmt, Break, Continue, Goto, Label, Empty, Lines, Function}
use Rattle.dcc_text.specs.Hex.{name_at}
use Rattle.dcc_flow.specs.Edges.{leads}
use Rattle.dcc_interval.specs.Intervals.{Interval}
use Rattle.dcc_interval.specs.Derived.{IsDerived, ends_in_one}
use Rattle.dcc_shape.specs.Procedures.{Flow, flow_of, addresses, place_at, next_of, edges_to, edges, headers}
use Rattle.dcc_shape.specs.Carried.{UsesAddressesAlone}
use Rattle.dcc_shape.specs.Spots.{Spot, is_loop, has_blocks, label_in, spots, is_the, goal_passes, every_goto}

-- the label of the instruction at an address
abbrev pub label_of : ℕ → Word
label_of at = name_at (codes "L_") at

-- the label is that of one of these addresses that passes the test
abbrev pub names_one : (ℕ → Bool) → List ℕ → Option Word → Bool
names_one test places label = list_any (λ at. is_the (label_of at) label && test at) places

-- Jumps.

-- each `goto` goes to an instruction to which at least two edges lead
abbrev pub goes_where_edges_meet : Flow → List Spot → Bool
goes_where_edges_meet flow list =
    every_goto (λ s word. names_one (λ at. nat_le 2 (edges_to flow at)) (addresses flow) (Some word)) list

-- the word is the label of the first of these loops
abbrev pub is_of_first : List (Option Word) → Word → Bool
is_of_first [] word = false
is_of_first (first ∷ others) word = is_the word first

-- no `goto` goes to the label of its innermost loop
abbrev pub leaves_innermost_alone : List Spot → Bool
leaves_innermost_alone list = every_goto (λ s word. not (is_of_first s.loops word)) list

-- each `goto` goes further on in the text, or to the label of a loop around it
abbrev pub goes_on_or_round : List Spot → Bool
goes_on_or_round [] = true
goes_on_or_round (s ∷ later) =
    goal_passes (λ word. list_any (λ t. is_the word (label_in t.stmt)) later || list_any (is_the word) s.loops) s.stmt
    && goes_on_or_round later

-- Loops.

-- the statement is a loop, and the label before it is that of the address
abbrev pub is_loop_at : ℕ → Stmt → Option Word → Bool
is_loop_at at stmt label = is_loop stmt && is_the (label_of at) label

-- the label before the statement is that of one of these addresses, if it is a loop
abbrev pub is_labelled : List ℕ → Stmt → Option Word → Bool
is_labelled heads stmt label = not (is_loop stmt) || names_one (λ at. true) heads label

-- each loop has the label of one of these addresses directly before it
abbrev pub loops_are_labelled : List ℕ → List Spot → Bool
loops_are_labelled heads list = list_all (λ s. is_labelled heads s.stmt s.label) list

-- each of these addresses labels just one loop
abbrev pub each_labels_one : List ℕ → List Spot → Bool
each_labels_one heads list = list_all (λ at. count_by (λ s. is_loop_at at s.stmt s.label) list == 1) heads

-- Where the text is too deep for this, nothing is asked of jumps and loops.

-- the procedure has few branches and loop headers, or no block of the text has 199 others around it
abbrev pub is_shallow : Flow → List ℕ → List Spot → Bool
is_shallow flow heads list =
    nat_lt (flow.branches + length heads) 190 || list_all (λ s. not (has_blocks s.stmt) || nat_lt s.depth 199) list

-- jumps and loops are as the procedure asks
pub record HasLoops (flow : Flow) (levels : List (List Interval)) (list : List Spot) : Type 0 where
  pub jumps : goes_where_edges_meet flow list ≡ true
  pub labelled : loops_are_labelled (headers flow levels) list ≡ true
  pub one_each : each_labels_one (headers flow levels) list ≡ true
  pub innermost : leaves_innermost_alone list ≡ true
  pub forwards : ends_in_one levels ≡ true → goes_on_or_round list ≡ true

-- Numbers of statements.

-- a label
abbrev pub is_label : Stmt → Bool
is_label (Label word) = true
is_label _ = false

-- a `goto`, a `break` or a `continue`
abbrev pub is_jump : Stmt → Bool
is_jump (Goto word) = true
is_jump Break = true
is_jump Continue = true
is_jump _ = false

-- an empty statement
abbrev pub is_empty : Stmt → Bool
is_empty Empty = true
is_empty _ = false

-- no more than so many of the statements pass the test
abbrev pub AtMost : ℕ → (Stmt → Bool) → List Spot → Type 0
AtMost most test list = count_by (λ s. test s.stmt) list ≤ most

-- there are no more statements of each kind than the procedure asks
pub record IsCounted (flow : Flow) (heads : List ℕ) (list : List Spot) : Type 0 where
  pub blocks : AtMost (flow.branches + length heads) has_blocks list
  pub labels : AtMost (length flow.nodes) is_label list
  pub jumps : AtMost (edges flow + length heads) is_jump list
  pub empty : AtMost (count_by (λ s. is_label s.stmt) list) is_empty list

-- Whole texts.

-- the body of a function has the shape that a procedure asks for
pub record HasShapeOf (flow : Flow) (body : Lines) : Type 0 where
  pub levels : List (List Interval)
  pub derived : IsDerived (leads (next_of flow)) (place_at flow flow.entry) levels
  pub loops : is_shallow flow (headers flow levels) (spots body) ≡ true → HasLoops flow levels (spots body)
  pub counted : IsCounted flow (headers flow levels) (spots body)

-- The function has the shape that a procedure with this frame asks for. Where the frame exposes no local byte, an
-- `auto` array of the function stands for no cell, and the function uses nothing of it but the address.
pub record IsShapedFor (proc : Proc) (frame : Frame) (function : Function) : Type 0 where
  pub shape : HasShapeOf (flow_of proc) function.body
  pub addresses : frame.exposed.local ≡ 0 → UsesAddressesAlone function

-- there is a function for each procedure, and it has the shape that the procedure asks for
pub data HaveShape : List (Proc × Frame) → List Function → Type 0 where
  nothing : HaveShape [] []
  one_more :
      {proc : Proc} {frame : Frame} {function : Function} {procs : List (Proc × Frame)} {functions : List Function}
      → IsShapedFor proc frame function
      → HaveShape procs functions
      → HaveShape ((proc, frame) ∷ procs) (function ∷ functions)

-- The number of the first procedure without a function that has the shape which the procedure asks for, or of the first
-- function without a procedure.
pub data LacksShape : ℕ → List (Proc × Frame) → List Function → Type 0 where
  no_function : {proc : Proc × Frame} {procs : List (Proc × Frame)} → LacksShape 0 (proc ∷ procs) []
  no_procedure : {function : Function} {functions : List Function} → LacksShape 0 [] (function ∷ functions)
  here :
      {proc : Proc} {frame : Frame} {function : Function} {procs : List (Proc × Frame)} {functions : List Function}
      → ¬ (IsShapedFor proc frame function)
      → LacksShape 0 ((proc, frame) ∷ procs) (function ∷ functions)
  later :
      {proc : Proc} {frame : Frame} {function : Function} {procs : List (Proc × Frame)} {functions : List Function}
      {i : ℕ}
      → IsShapedFor proc frame function
      → LacksShape i procs functions
      → LacksShape (suc i) ((proc, frame) ∷ procs) (function ∷ functions)
