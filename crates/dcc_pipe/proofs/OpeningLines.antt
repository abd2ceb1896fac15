-- Bodies that open with assignments, when their lines are counted.
use Rattle.std.proofs.Common.{◌≡◌, ℕ, zero, suc, ◌+◌, Bool, true, false, List, [], ◌∷◌, ◌++◌, length, refl, sym, true≢false}
use Rattle.std.specs.List.{list_all}
use Rattle.std.proofs.lemmas.Bool.{and_parts, and_from}
use Rattle.dcc_ir.specs.declared.syntax.Loc.{Loc}
use Rattle.dcc_ir.specs.declared.syntax.Put.{Put}
use Rattle.dcc_ir.specs.declared.syntax.Put.TheVariants.{Memory, One, Two}
use Rattle.dcc_ir.specs.declared.syntax.Param.{Param}
use Rattle.dcc_c.specs.Numbered.{numbered_lines}
use Rattle.dcc_c.specs.Tree.{Word, Expr, Stmt, Assign, Lines, no_lines, line}
use Rattle.dcc_text.specs.Spelling.{Spelling}
use Rattle.dcc_variables.specs.Functions.{opening, put_openings, openings_from, parameter_name, BeginsWith}
use Rattle.dcc_plan.specs.Programs.{OpensWith, at_once, one_more}
use Rattle.dcc_pipe.specs.WholeText.{before_lines}

abbrev pub is_assignment : Stmt → Bool
is_assignment (Assign place e) = true
is_assignment stmt = false

-- Openings are assignments.

all-joined : (xs ys : List Stmt) → list_all is_assignment xs ≡ true → list_all is_assignment ys ≡ true
    → list_all is_assignment (xs ++ ys) ≡ true
all-joined [] ys first second = second
all-joined (x ∷ xs) ys first second =
    let parts = and_parts (is_assignment x) (list_all is_assignment xs) first in
    and_from (is_assignment x) (list_all is_assignment (xs ++ ys)) parts.0 (all-joined xs ys parts.1 second)

one-assigned : (wanted : Bool) (s : Spelling) (l : Loc) (e : Expr) → list_all is_assignment (opening wanted s l e) ≡ true
one-assigned true s l e = refl
one-assigned false s l e = refl

put-assigned : (s : Spelling) (opens : Loc → Bool) (word : Word) (put : Put) → list_all is_assignment (put_openings s opens word put) ≡ true
put-assigned s opens word Memory = refl
put-assigned s opens word (One l) = refl
put-assigned s opens word (Two low high) =
    all-joined (opening (opens low) s low _) (opening (opens high) s high _) (one-assigned (opens low) s low _) (one-assigned (opens high) s high _)

pub openings-assign : (s : Spelling) (opens : Loc → Bool) (place : ℕ) (params : List Param)
    → list_all is_assignment (openings_from s opens place params) ≡ true
openings-assign s opens place [] = refl
openings-assign s opens place (p ∷ params) =
    all-joined (put_openings s opens (parameter_name place) p.put) (openings_from s opens (place + 1) params)
    (put-assigned s opens (parameter_name place) p.put) (openings-assign s opens (place + 1) params)

-- Lines.

-- the body opens with the statements, and goes on with the lines as they are counted after these
pub record GoesOn (stmts : List Stmt) (body lines : Lines) : Type 0 where
  pub depth : ℕ
  pub at : ℕ
  pub opens : OpensWith (length stmts) body (numbered_lines depth at lines)
  pub begins : BeginsWith stmts body (numbered_lines depth at lines)

pub goes-on : (stmts : List Stmt) → list_all is_assignment stmts ≡ true → (depth at : ℕ) (lines : Lines)
    → GoesOn stmts (numbered_lines depth at (before_lines stmts lines)) lines
goes-on [] all depth at lines = record { depth = depth; at = at; opens = at_once; begins = refl }
goes-on (Assign place e ∷ stmts) all depth at lines =
    let later = goes-on stmts all _ _ lines in
    record { depth = later.depth; at = later.at; opens = one_more later.opens; begins = (refl, later.begins) }
goes-on (stmt ∷ stmts) all depth at lines = absurd (true≢false (sym all))

-- the lines after so many
abbrev pub after_lines : ℕ → Lines → Lines
after_lines zero lines = lines
after_lines (suc n) no_lines = no_lines
after_lines (suc n) (line stmt at lines) = after_lines n lines

pub after-opens : {n : ℕ} {body lines : Lines} → OpensWith n body lines → after_lines n body ≡ lines
after-opens at_once = refl
after-opens (one_more later) = after-opens later
