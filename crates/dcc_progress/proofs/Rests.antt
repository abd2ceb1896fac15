-- What is left to be executed in a call consists of parts of its function.
use Rattle.std.proofs.Common.{◌≡◌, ℕ, Bool, true, false, [], Option, Some, None}
use Rattle.std.specs.Prelude.{is_some, if◌then◌else◌}
use Rattle.dcc_c.specs.Token.{same_bytes}
use Rattle.dcc_c.specs.Tree.{Word, Expr, Stmt, If, While, DoWhile, Forever, Switch, Label, Lines, no_lines, line, Arms, no_arms, arm, Function, Tree}
use Rattle.dcc_c.specs.Parts.{parts_of}
use Rattle.dcc_c.specs.Rules.{declared_in, is_number, allows_stmt}
use Rattle.dcc_c.specs.Run.{Continuation, ends_function, runs, tests, turns, ends_switch, after_break, after_continue, first_of, from_label, from_label_inside, from_label_in_arms}
use Rattle.dcc_progress.specs.Stuck.{StandsIn, here, inside, later, in_then, in_else, in_while, in_do, in_for, in_arm}
use Rattle.dcc_progress.specs.Stuck.{in_default, StandsInArms, in_body, in_others}
use Rattle.dcc_progress.proofs.Bodies.{each_stands}
use Rattle.dcc_progress.proofs.Declarations.{Takes, takes-stmt, takes-first}
use Rattle.dcc_progress.proofs.Jumps.{Jumps, JumpsInArms}
use Rattle.dcc_progress.proofs.Known.{IsKnown}

-- the statements are some of the function's
abbrev pub AreOf : Function → Lines → Type 0
AreOf f lines = (stmt : Stmt) (at : ℕ) → StandsIn lines stmt at → StandsIn f.body stmt at

abbrev pub AreArmsOf : Function → Arms → Type 0
AreArmsOf f arms = (stmt : Stmt) (at : ℕ) → StandsInArms arms stmt at → StandsIn f.body stmt at

-- a number that the function tests
pub record IsTest (tree : Tree) (f : Function) (e : Expr) : Type 0 where
  pub number : is_number (declared_in tree f) e ≡ true
  pub takes : Takes f.body (parts_of e)

-- a `break` or a `continue` has somewhere to go to
abbrev pub can_break : Continuation → Bool
can_break rest = is_some (after_break rest)

abbrev pub can_continue : Continuation → Bool
can_continue rest = is_some (after_continue rest)

abbrev pub IsRest : Tree → Function → Continuation → Type 0
IsRest tree f (ends_function at) = at ≡ f.last
IsRest tree f (runs lines rest) =
    AreOf f lines × Jumps (can_break rest) (can_continue rest) lines × IsRest tree f rest
IsRest tree f (tests e body at rest) = IsTest tree f e × AreOf f body × Jumps true true body × IsRest tree f rest
IsRest tree f (turns body rest) = AreOf f body × Jumps true true body × IsRest tree f rest
IsRest tree f (ends_switch rest) = IsRest tree f rest

-- where there is one
abbrev pub IfRest : Tree → Function → Option Continuation → Type 0
IfRest tree f None = Unit {0}
IfRest tree f (Some rest) = IsRest tree f rest

-- the statement after the first one
pub following-rest : (tree : Tree) (f : Function) (stmt : Stmt) (at : ℕ) (lines : Lines) (rest : Continuation) → IsRest tree f (runs (line stmt at lines) rest) → IsRest tree f (runs lines rest)
following-rest tree f stmt at lines rest is = (λ s a stands. is.0 s a (later stands), is.1.1, is.2)

-- Jumps out of a loop, and to its next turn.

pub break-rest : (tree : Tree) (f : Function) (rest : Continuation) → IsRest tree f rest → IfRest tree f (after_break rest)
break-rest tree f (ends_function at) is = tt
break-rest tree f (runs lines rest) is = break-rest tree f rest is.2
break-rest tree f (tests e body at rest) is = is.3
break-rest tree f (turns body rest) is = is.2
break-rest tree f (ends_switch rest) is = is

pub continue-rest : (tree : Tree) (f : Function) (rest : Continuation) → IsRest tree f rest → IfRest tree f (after_continue rest)
continue-rest tree f (ends_function at) is = tt
continue-rest tree f (runs lines rest) is = continue-rest tree f rest is.2
continue-rest tree f (tests e body at rest) is = is
continue-rest tree f (turns body rest) is = is
continue-rest tree f (ends_switch rest) is = continue-rest tree f rest is

-- Jumps to labels.

module _ (tree : Tree) (f : Function) (known : IsKnown tree f) where
  -- a statement of the function is allowed
  pub stands-allowed : (stmt : Stmt) (at : ℕ) → StandsIn f.body stmt at → allows_stmt tree f stmt ≡ true
  stands-allowed stmt at stands = each_stands (allows_stmt tree f) stands known.allowed.types

  pub while-test : (e : Expr) (body : Lines) (at : ℕ) → StandsIn f.body (While e body) at → IsTest tree f e
  while-test e body at stands =
      record { number = stands-allowed (While e body) at stands; takes = takes-first f.body e [] (takes-stmt stands) }

  pub do-test : (e : Expr) (body : Lines) (at : ℕ) → StandsIn f.body (DoWhile body e) at → IsTest tree f e
  do-test e body at stands =
      record { number = stands-allowed (DoWhile body e) at stands; takes = takes-first f.body e [] (takes-stmt stands) }

  -- what is executed in a loop
  pub while-rest : (e : Expr) (body : Lines) (at : ℕ) (lines : Lines) (rest : Continuation) → IsRest tree f (runs (line (While e body) at lines) rest) → IsRest tree f (runs body (tests e body at (runs lines rest)))
  while-rest e body at lines rest is =
      let own : AreOf f body = λ s a stands. is.0 s a (inside (in_while stands)) in
      (own, is.1.0, (while-test e body at (is.0 (While e body) at here), own, is.1.0, following-rest tree f (While e body) at lines rest is))

  pub do-rest : (e : Expr) (body : Lines) (at : ℕ) (lines : Lines) (rest : Continuation) → IsRest tree f (runs (line (DoWhile body e) at lines) rest) → IsRest tree f (runs body (tests e body at (runs lines rest)))
  do-rest e body at lines rest is =
      let own : AreOf f body = λ s a stands. is.0 s a (inside (in_do stands)) in
      (own, is.1.0, (do-test e body at (is.0 (DoWhile body e) at here), own, is.1.0, following-rest tree f (DoWhile body e) at lines rest is))

  pub for-rest : (body : Lines) (at : ℕ) (lines : Lines) (rest : Continuation) → IsRest tree f (runs (line (Forever body) at lines) rest) → IsRest tree f (runs body (turns body (runs lines rest)))
  for-rest body at lines rest is =
      let own : AreOf f body = λ s a stands. is.0 s a (inside (in_for stands)) in
      (own, is.1.0, (own, is.1.0, following-rest tree f (Forever body) at lines rest is))

  pub then-rest : (e : Expr) (body otherwise : Lines) (at : ℕ) (lines : Lines) (rest : Continuation) → IsRest tree f (runs (line (If e body otherwise) at lines) rest) → IsRest tree f (runs body (runs lines rest))
  then-rest e body otherwise at lines rest is =
      (λ s a stands. is.0 s a (inside (in_then stands)), is.1.0.0, following-rest tree f (If e body otherwise) at lines rest is)

  pub else-rest : (e : Expr) (body otherwise : Lines) (at : ℕ) (lines : Lines) (rest : Continuation) → IsRest tree f (runs (line (If e body otherwise) at lines) rest) → IsRest tree f (runs otherwise (runs lines rest))
  else-rest e body otherwise at lines rest is =
      (λ s a stands. is.0 s a (inside (in_else stands)), is.1.0.1, following-rest tree f (If e body otherwise) at lines rest is)

  first-rest : (a b : Option Continuation) → IfRest tree f a → IfRest tree f b → IfRest tree f (first_of a b)
  first-rest (Some rest) b first second = first
  first-rest None b first second = second

  here-rest : (b : Bool) (rest : Continuation) → IsRest tree f rest → IfRest tree f (if b then Some rest else None)
  here-rest true rest is = is
  here-rest false rest is = tt

  mutual
    pub lines-rest : (lines : Lines) (word : Word) (rest : Continuation) → IsRest tree f (runs lines rest) → IfRest tree f (from_label word lines rest)
    lines-rest no_lines word rest is = tt
    lines-rest (line stmt at lines) word rest is =
        first-rest (from_label_inside word stmt at lines rest) (from_label word lines rest) (stmt-rest stmt word at lines rest is) (lines-rest lines word rest (following-rest tree f stmt at lines rest is))

    stmt-rest : (stmt : Stmt) (word : Word) (at : ℕ) (lines : Lines) (rest : Continuation) → IsRest tree f (runs (line stmt at lines) rest) → IfRest tree f (from_label_inside word stmt at lines rest)
    stmt-rest (Label other) word at lines rest is = here-rest (same_bytes word other) (runs (line (Label other) at lines) rest) is
    stmt-rest (If e body otherwise) word at lines rest is =
        first-rest (from_label word body (runs lines rest)) (from_label word otherwise (runs lines rest)) (lines-rest body word (runs lines rest) (then-rest e body otherwise at lines rest is)) (lines-rest otherwise word (runs lines rest) (else-rest e body otherwise at lines rest is))
    stmt-rest (While e body) word at lines rest is =
        lines-rest body word (tests e body at (runs lines rest)) (while-rest e body at lines rest is)
    stmt-rest (DoWhile body e) word at lines rest is =
        lines-rest body word (tests e body at (runs lines rest)) (do-rest e body at lines rest is)
    stmt-rest (Forever body) word at lines rest is =
        lines-rest body word (turns body (runs lines rest)) (for-rest body at lines rest is)
    stmt-rest (Switch e arms last) word at lines rest is =
        let following = following-rest tree f (Switch e arms last) at lines rest is in
        first-rest (from_label_in_arms word arms (ends_switch (runs lines rest))) (from_label_in_arms word last (ends_switch (runs lines rest)))
        (arms-rest arms word (runs lines rest) (λ s a stands. is.0 s a (inside (in_arm stands))) is.1.0.0 following)
        (arms-rest last word (runs lines rest) (λ s a stands. is.0 s a (inside (in_default stands))) is.1.0.1 following)
    stmt-rest _ word at lines rest is = tt

    arms-rest : (arms : Arms) (word : Word) (rest : Continuation) → AreArmsOf f arms → JumpsInArms (can_continue rest) arms → IsRest tree f rest → IfRest tree f (from_label_in_arms word arms (ends_switch rest))
    arms-rest no_arms word rest own jumps is = tt
    arms-rest (arm cases body arms) word rest own jumps is =
        first-rest (from_label word body (ends_switch rest)) (from_label_in_arms word arms (ends_switch rest))
        (lines-rest body word (ends_switch rest) (λ s a stands. own s a (in_body stands), jumps.0, is))
        (arms-rest arms word rest (λ s a stands. own s a (in_others stands)) jumps.1 is)
