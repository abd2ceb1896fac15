-- Lines and arms of a text before others.
use Rattle.std.proofs.Common.{◌≡◌, List, [], ◌∷◌, ◌++◌, refl, ap, ◌∙◌}
use Rattle.dcc_c.specs.declared.syntax.Line.{Line}
use Rattle.dcc_c.specs.declared.syntax.Arm.{Arm, roll-Arm, out-roll-Arm}
use Rattle.dcc_c.specs.Tree.{Lines, no_lines, line, Arms, no_arms, arm}
use Rattle.dcc_c.specs.Views.{stmt_of, lines_of, arm_before, arms_of}
use Rattle.dcc_c.proofs.RowLaws.{arm-parts}

abbrev pub lines_before : List Line → Lines → Lines
lines_before [] rest = rest
lines_before (l ∷ ls) rest = line (stmt_of l.stmt) l.line (lines_before ls rest)

abbrev pub bodies_before : List Arm → Arms → Arms
bodies_before [] rest = rest
bodies_before (a ∷ arms) rest = arm_before a (bodies_before arms rest)

pub lines_before-append : (first second : List Line) (rest : Lines) → lines_before (first ++ second) rest ≡ lines_before first (lines_before second rest)
lines_before-append [] second rest = refl
lines_before-append (l ∷ ls) second rest = ap (line (stmt_of l.stmt) l.line) (lines_before-append ls second rest)

pub bodies_before-append : (first second : List Arm) (rest : Arms) → bodies_before (first ++ second) rest ≡ bodies_before first (bodies_before second rest)
bodies_before-append [] second rest = refl
bodies_before-append (a ∷ arms) second rest = ap (arm_before a) (bodies_before-append arms second rest)

pub lines_before-none : (lines : List Line) → lines_before lines no_lines ≡ lines_of lines
lines_before-none [] = refl
lines_before-none (l ∷ ls) = ap (line (stmt_of l.stmt) l.line) (lines_before-none ls)

pub bodies_before-none : (arms : List Arm) → bodies_before arms no_arms ≡ arms_of arms
bodies_before-none [] = refl
bodies_before-none (a ∷ arms) = ap (arm_before a) (bodies_before-none arms)

-- an arm that is made of parts
pub rolled-body : (r : _) (arms : Arms) → arm_before (roll-Arm r) arms ≡ arm r.cases.items (lines_of r.body.items) arms
rolled-body r arms = arm-parts (roll-Arm r) arms ∙ ap (λ parts. arm parts.cases.items (lines_of parts.body.items) arms) (out-roll-Arm r)
