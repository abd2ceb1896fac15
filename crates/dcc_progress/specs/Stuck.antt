-- The ways in which a run of a text gets stuck.
use Rattle.std.specs.Prelude.{◌≡◌, ◌<◌, ℕ, true, is_some, List, ◌∷◌, None}
use Rattle.dcc_run.specs.End.{Running, Outside, Stuck}
use Rattle.dcc_run.specs.System.{after, end_after}
use Rattle.dcc_c.specs.Tree.{Expr, Stmt, If, While, DoWhile, Forever, Switch, Return, Lines, no_lines, line, Arms, arm}
use Rattle.dcc_c.specs.Tree.{Function, Tree}
use Rattle.dcc_c.specs.Run.{Continuation, ends_function, runs, ends_switch, State, is_start, step, first_state}
use Rattle.dcc_c.specs.Run.{text_system}

mutual
  -- the statement stands in the given line among the statements, at some depth
  pub data StandsIn : Lines → Stmt → ℕ → Type 0 where
    here : {stmt : Stmt} {at : ℕ} {lines : Lines} → StandsIn (line stmt at lines) stmt at
    inside : {outer stmt : Stmt} {place at : ℕ} {lines : Lines} →
        StandsInside outer stmt at → StandsIn (line outer place lines) stmt at
    later : {other stmt : Stmt} {place at : ℕ} {lines : Lines} →
        StandsIn lines stmt at → StandsIn (line other place lines) stmt at

  -- the statement stands in a block of the other statement, in the given line
  pub data StandsInside : Stmt → Stmt → ℕ → Type 0 where
    in_then : {e : Expr} {body otherwise : Lines} {stmt : Stmt} {at : ℕ} →
        StandsIn body stmt at → StandsInside (If e body otherwise) stmt at
    in_else : {e : Expr} {body otherwise : Lines} {stmt : Stmt} {at : ℕ} →
        StandsIn otherwise stmt at → StandsInside (If e body otherwise) stmt at
    in_while : {e : Expr} {body : Lines} {stmt : Stmt} {at : ℕ} →
        StandsIn body stmt at → StandsInside (While e body) stmt at
    in_do : {e : Expr} {body : Lines} {stmt : Stmt} {at : ℕ} →
        StandsIn body stmt at → StandsInside (DoWhile body e) stmt at
    in_for : {body : Lines} {stmt : Stmt} {at : ℕ} →
        StandsIn body stmt at → StandsInside (Forever body) stmt at
    in_arm : {e : Expr} {arms last : Arms} {stmt : Stmt} {at : ℕ} →
        StandsInArms arms stmt at → StandsInside (Switch e arms last) stmt at
    in_default : {e : Expr} {arms last : Arms} {stmt : Stmt} {at : ℕ} →
        StandsInArms last stmt at → StandsInside (Switch e arms last) stmt at

  -- the statement stands in the body of one of the arms, in the given line
  pub data StandsInArms : Arms → Stmt → ℕ → Type 0 where
    in_body : {cases : List ℕ} {body : Lines} {arms : Arms} {stmt : Stmt} {at : ℕ} →
        StandsIn body stmt at → StandsInArms (arm cases body arms) stmt at
    in_others : {cases : List ℕ} {body : Lines} {arms : Arms} {stmt : Stmt} {at : ℕ} →
        StandsInArms arms stmt at → StandsInArms (arm cases body arms) stmt at

-- the function is one of the list
pub data IsOneOf (f : Function) : List Function → Type 0 where
  is_first : {functions : List Function} → IsOneOf f (f ∷ functions)
  is_later : {g : Function} {functions : List Function} → IsOneOf f functions → IsOneOf f (g ∷ functions)

-- What is executed next: the ends of blocks and of `switch` statements are no steps of their own.

-- what is executed next is a `return` without a value, in the given line
pub data ComesToReturn : Continuation → ℕ → Type 0 where
  return_next : {at : ℕ} {lines : Lines} {rest : Continuation} →
      ComesToReturn (runs (line (Return None) at lines) rest) at
  after_block : {at : ℕ} {rest : Continuation} →
      ComesToReturn rest at → ComesToReturn (runs no_lines rest) at
  after_switch : {at : ℕ} {rest : Continuation} →
      ComesToReturn rest at → ComesToReturn (ends_switch rest) at

-- what is executed next is the closing brace of the function, in the given line
pub data ComesToBrace : Continuation → ℕ → Type 0 where
  brace_next : {at : ℕ} → ComesToBrace (ends_function at) at
  past_block : {at : ℕ} {rest : Continuation} → ComesToBrace rest at → ComesToBrace (runs no_lines rest) at
  past_switch : {at : ℕ} {rest : Continuation} → ComesToBrace rest at → ComesToBrace (ends_switch rest) at

-- A call of the function, with `rest` still to be executed, has no next step, and the run is stuck in the given line.
pub data IsStuckAt (f : Function) (rest : Continuation) (at : ℕ) : Type 0 where
  -- `start` returns: the line is that of the `return`, which stands in its body
  start_returns : is_start f ≡ true → ComesToReturn rest at → StandsIn f.body (Return None) at →
      IsStuckAt f rest at
  -- `start` reaches its closing brace, in this line
  start_ends : is_start f ≡ true → ComesToBrace rest at → at ≡ f.last → IsStuckAt f rest at
  -- a function with a result reaches its closing brace, in this line, without a `return`
  function_ends : is_some f.result ≡ true → ComesToBrace rest at → at ≡ f.last → IsStuckAt f rest at

-- The run from the first function on is stuck in the given line after n steps: before that it was where a call has no
-- next step.
pub record GotStuck (tree : Tree) (start : Function) (fill : ℕ) (input : List ℕ) (n at : ℕ) : Type 0 where
  -- the steps before the one that ended the run
  pub before : ℕ
  pub earlier : before < n
  pub state : State
  pub was : state ≡ after (step tree) before (first_state tree start fill input)
  pub running : state.end ≡ Running
  -- the function whose call ran, and where it was
  pub function : IsOneOf state.frame.function tree.functions
  pub stuck : IsStuckAt state.frame.function state.rest at

-- The runs of the tree, from every fill and input, are stuck where a call has no next step, and nowhere else.
pub record IsStuckOnlyAtEnds (tree : Tree) : Type 0 where
  pub start : Function
  pub others : List Function
  pub first : tree.functions ≡ start ∷ others
  -- a run that is stuck after some steps came to where a call has no next step
  pub only_there : (fill : ℕ) (input : List ℕ) (n at : ℕ) →
      end_after (text_system tree) n (first_state tree start fill input) ≡ Stuck at →
      GotStuck tree start fill input n at
  -- a run that comes to where a call has no next step is stuck by the next step
  pub always_there : (s : State) (at : ℕ) → s.end ≡ Running → IsStuckAt s.frame.function s.rest at →
      (step tree s).end ≡ Stuck at
  -- no run of a text ends as one of a machine does that has no row for its instruction
  pub never_outside : (fill : ℕ) (input : List ℕ) (n at : ℕ) →
      end_after (text_system tree) n (first_state tree start fill input) ≡ Outside at → ⊥
