-- Each `break` and each `continue` of the grammar has something around it that it leaves or goes on with.
use Rattle.std.proofs.Common.{◌≡◌, ℕ, Bool, true, List, refl, subst}
use Rattle.dcc_c.specs.Lexing.{Placed}
use Rattle.dcc_c.specs.Tree.{Stmt, If, While, DoWhile, Forever, Switch, Break, Continue, Lines, no_lines, line, Arms, no_arms, arm}
use Rattle.dcc_c.specs.Grammar.{Around, IsStmt, assign, call_alone, call_into, if_alone, if_else, while, do_while, for_ever, switch, break, continue, goto, empty, return_nothing, return_value, IsBlock, block, AreLines, no_more, depth_pragma, label, statement, AreArms, no_arm, case_arm, default_arm}

abbrev mutual
  -- in the statements there is a `break` or a `continue` only where it has somewhere to go to
  pub Jumps : Bool → Bool → Lines → Type 0
  Jumps breaks continues no_lines = Unit {0}
  Jumps breaks continues (line stmt at lines) = JumpsInside breaks continues stmt × Jumps breaks continues lines

  pub JumpsInside : Bool → Bool → Stmt → Type 0
  JumpsInside breaks continues (If e body otherwise) = Jumps breaks continues body × Jumps breaks continues otherwise
  JumpsInside breaks continues (While e body) = Jumps true true body
  JumpsInside breaks continues (DoWhile body e) = Jumps true true body
  JumpsInside breaks continues (Forever body) = Jumps true true body
  JumpsInside breaks continues (Switch e arms last) = JumpsInArms continues arms × JumpsInArms continues last
  JumpsInside breaks continues Break = breaks ≡ true
  JumpsInside breaks continues Continue = continues ≡ true
  JumpsInside breaks continues _ = Unit {0}

  pub JumpsInArms : Bool → Arms → Type 0
  JumpsInArms continues no_arms = Unit {0}
  JumpsInArms continues (arm cases body arms) = Jumps true continues body × JumpsInArms continues arms

mutual
  stmt_jumps : {limit depth after : ℕ} {around : Around} {tokens rest : List Placed} {s : Stmt} → IsStmt limit around depth tokens s after rest → JumpsInside around.breaks around.continues s
  stmt_jumps (assign place e) = tt
  stmt_jumps (call_alone c) = tt
  stmt_jumps (call_into place c) = tt
  stmt_jumps (if_alone e body) = (block_jumps body, tt)
  stmt_jumps (if_else e body otherwise) = (block_jumps body, block_jumps otherwise)
  stmt_jumps (while e body) = block_jumps body
  stmt_jumps (do_while body e) = block_jumps body
  stmt_jumps (for_ever words body) = block_jumps body
  stmt_jumps (switch e arms has) = arms_jumps arms refl
  stmt_jumps (break allowed) = allowed
  stmt_jumps (continue allowed) = allowed
  stmt_jumps (goto name is) = tt
  stmt_jumps empty = tt
  stmt_jumps return_nothing = tt
  stmt_jumps (return_value e) = tt

  block_jumps : {limit depth after : ℕ} {around : Around} {tokens rest : List Placed} {lines : Lines} → IsBlock limit around depth tokens lines after rest → Jumps around.breaks around.continues lines
  block_jumps (block lines) = lines_jumps lines

  pub lines_jumps : {limit depth after : ℕ} {around : Around} {labelled : Bool} {tokens rest : List Placed} {lines : Lines} → AreLines limit around labelled depth tokens lines after rest → Jumps around.breaks around.continues lines
  lines_jumps no_more = tt
  lines_jumps (depth_pragma room lines) = lines_jumps lines
  lines_jumps (label name is room lines) = (tt, lines_jumps lines)
  lines_jumps (statement room s lines) = (stmt_jumps s, lines_jumps lines)

  arms_jumps : {limit depth after : ℕ} {around : Around} {tokens rest : List Placed} {arms last : Arms} → AreArms limit around depth tokens arms last after rest → around.breaks ≡ true → JumpsInArms around.continues arms × JumpsInArms around.continues last
  arms_jumps no_arm breaks = (tt, tt)
  arms_jumps (case_arm {around} {depth} {between} {after} {leaves} {end} {all} {tokens} {others} {rest} {cases} {body} {arms} {last} ns room inner more) breaks =
      let following = arms_jumps more breaks in
      ((subst (λ b. Jumps b around.continues body) breaks (lines_jumps inner), following.0), following.1)
  arms_jumps (default_arm {around} {depth} {between} {after} {at} {colon} {leaves} {end} {tokens} {others} {rest} {body} {arms} {last} room inner more) breaks =
      let following = arms_jumps more breaks in
      (following.0, (subst (λ b. Jumps b around.continues body) breaks (lines_jumps inner), following.1))
