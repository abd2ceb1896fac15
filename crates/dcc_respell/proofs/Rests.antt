-- What is left to be executed in two calls that are alike.
use Rattle.std.proofs.Common.{ℕ, Bool, true, false, Option, Some, None}
use Rattle.std.specs.Prelude.{◌==◌, if◌then◌else◌}
use Rattle.std.specs.List.{list_any}
use Rattle.dcc_c.specs.Token.{same_bytes}
use Rattle.dcc_c.specs.Tree.{Word, Expr, Stmt, Lines, Arms, Function, Tree}
use Rattle.dcc_c.specs.Run.{Continuation, ends_function, runs, tests, turns, ends_switch, after_break, after_continue}
use Rattle.dcc_c.specs.Run.{first_of, from_label, from_label_inside, from_label_in_arms, arm_for, default_body}
use Rattle.dcc_respell.specs.Respelled.{TestAlike, StmtAlike, LinesAlike, ArmsAlike, assigns, calls, repeats}
use Rattle.dcc_respell.specs.Respelled.{tests_after, turns_round, chooses, breaks, continues, jumps, is_label, is_empty}
use Rattle.dcc_respell.specs.Respelled.{returns, gives, no_more, one_more, no_arm, one_arm}
use Rattle.dcc_respell.specs.Respelled as alike

module _ (tree after : Tree) (f g : Function) where
  -- what is left stands for what is left
  pub data RestAlike : Continuation → Continuation → Type 0 where
    ends : {at there : ℕ} → RestAlike (ends_function at) (ends_function there)
    goes : {lines others : Lines} {rest other : Continuation} →
        LinesAlike tree after f g lines others → RestAlike rest other → RestAlike (runs lines rest) (runs others other)
    tests_again : {e h : Expr} {body lines : Lines} {at there : ℕ} {rest other : Continuation} →
        TestAlike tree after f g e h → LinesAlike tree after f g body lines → RestAlike rest other →
        RestAlike (tests e body at rest) (tests h lines there other)
    turns_again : {body lines : Lines} {rest other : Continuation} →
        LinesAlike tree after f g body lines → RestAlike rest other → RestAlike (turns body rest) (turns lines other)
    ends_choice : {rest other : Continuation} → RestAlike rest other → RestAlike (ends_switch rest) (ends_switch other)

  -- where there is one
  abbrev pub IfRests : Option Continuation → Option Continuation → Type 0
  IfRests None None = Unit {0}
  IfRests (Some rest) (Some other) = RestAlike rest other
  IfRests None (Some other) = ⊥
  IfRests (Some rest) None = ⊥

  pub break-alike : {rest other : Continuation} → RestAlike rest other → IfRests (after_break rest) (after_break other)
  break-alike ends = tt
  break-alike (goes lines rest) = break-alike rest
  break-alike (tests_again e body rest) = rest
  break-alike (turns_again body rest) = rest
  break-alike (ends_choice rest) = rest

  pub continue-alike : {rest other : Continuation} → RestAlike rest other → IfRests (after_continue rest) (after_continue other)
  continue-alike ends = tt
  continue-alike (goes lines rest) = continue-alike rest
  continue-alike (tests_again e body rest) = tests_again e body rest
  continue-alike (turns_again body rest) = turns_again body rest
  continue-alike (ends_choice rest) = continue-alike rest

  first-alike : (a b c d : Option Continuation) → IfRests a b → IfRests c d → IfRests (first_of a c) (first_of b d)
  first-alike None None c d is also = also
  first-alike (Some a) (Some b) c d is also = is
  first-alike None (Some b) c d is also = absurd is
  first-alike (Some a) None c d is also = absurd is

  label-either : (b : Bool) {rest other : Continuation} → RestAlike rest other → IfRests (if b then Some rest else None) (if b then Some other else None)
  label-either true same = same
  label-either false same = tt

  mutual
    pub label-alike : (word : Word) {lines others : Lines} {rest other : Continuation} → LinesAlike tree after f g lines others → RestAlike rest other →
        IfRests (from_label word lines rest) (from_label word others other)
    label-alike word no_more same = tt
    label-alike word (one_more stmt lines) same =
        first-alike _ _ _ _ (inside-alike word _ _ stmt lines same) (label-alike word lines same)

    inside-alike : (word : Word) (at at_other : ℕ) {stmt there : Stmt} {lines others : Lines} {rest other : Continuation} →
        StmtAlike tree after f g stmt there → LinesAlike tree after f g lines others → RestAlike rest other →
        IfRests (from_label_inside word stmt at lines rest) (from_label_inside word there at_other others other)
    inside-alike word at at_other (assigns is) lines same = tt
    inside-alike word at at_other (calls place is) lines same = tt
    inside-alike word at at_other (alike.tests e body otherwise) lines same =
        first-alike _ _ _ _ (label-alike word body (goes lines same)) (label-alike word otherwise (goes lines same))
    inside-alike word at at_other (repeats e body) lines same = label-alike word body (tests_again e body (goes lines same))
    inside-alike word at at_other (tests_after e body) lines same = label-alike word body (tests_again e body (goes lines same))
    inside-alike word at at_other (turns_round body) lines same = label-alike word body (turns_again body (goes lines same))
    inside-alike word at at_other (chooses e arms last) lines same =
        first-alike _ _ _ _ (arms-alike word arms (ends_choice (goes lines same))) (arms-alike word last (ends_choice (goes lines same)))
    inside-alike word at at_other breaks lines same = tt
    inside-alike word at at_other continues lines same = tt
    inside-alike word at at_other jumps lines same = tt
    inside-alike word at at_other (is_label {word = other}) lines same =
        label-either (same_bytes word other) (goes (one_more is_label lines) same)
    inside-alike word at at_other is_empty lines same = tt
    inside-alike word at at_other returns lines same = tt
    inside-alike word at at_other (gives e) lines same = tt

    arms-alike : (word : Word) {arms others : Arms} {rest other : Continuation} → ArmsAlike tree after f g arms others → RestAlike rest other →
        IfRests (from_label_in_arms word arms rest) (from_label_in_arms word others other)
    arms-alike word no_arm same = tt
    arms-alike word (one_arm body arms) same = first-alike _ _ _ _ (label-alike word body same) (arms-alike word arms same)

  -- the arm of a number
  pub arm-alike : (n : ℕ) {arms others : Arms} {otherwise lines : Lines} → ArmsAlike tree after f g arms others → LinesAlike tree after f g otherwise lines →
      LinesAlike tree after f g (arm_for n arms otherwise) (arm_for n others lines)
  arm-alike n no_arm last = last
  arm-alike n (one_arm {cases} body arms) last = by (list_any (λ c. c == n) cases) body (arm-alike n arms last)
    where
      by : (b : Bool) {one two three four : Lines} → LinesAlike tree after f g one two → LinesAlike tree after f g three four → LinesAlike tree after f g (if b then one else three) (if b then two else four)
      by true first second = first
      by false first second = second

  pub default-alike : {arms others : Arms} → ArmsAlike tree after f g arms others → LinesAlike tree after f g (default_body arms) (default_body others)
  default-alike no_arm = no_more
  default-alike (one_arm body arms) = body
