-- What holds of each statement in which nothing offends holds of all statements of a block.
use Rattle.std.proofs.Common.{◌≡◌, ℕ, suc, Bool, true, false, ◌&&◌, ◌==◌, List, [], ◌∷◌, ◌++◌, length, Some, None, refl, ap}
use Rattle.std.proofs.lemmas.Bool.{le-ltb, leb-true}
use Rattle.std.specs.Prelude.{nat_lt, nat_le}
use Rattle.std.specs.List.{list_all}
use Rattle.dcc_c.specs.Tree.{Stmt}
use Rattle.dcc_c.specs.Parts.{stmts_in, inner_stmts, arm_stmts}
use Rattle.dcc_c.specs.Kinds.{of_depth, Offence, offence, only_if}
use Rattle.dcc_c.specs.Partial.{PartialStmt, AssignOf, CallOf, IfOf, WhileOf, DoWhileOf, ForeverOf, SwitchOf, BreakOf, ContinueOf, GotoOf, LabelOf, EmptyOf, ReturnOf, PartialLines, no_rows, row, PartialArms, no_cases, cases}
use Rattle.dcc_c.specs.Offences.{BodyContext, own_offences, case_offences, case_numbers, default_offences, lines_offences, inner_offences, arms_inner}
use Rattle.dcc_c.specs.Stripped.{plain_stmt, plain_lines, case_arms, default_arms}
use Rattle.dcc_c.specs.Complete.{is_complete_expr, is_complete_stmt, is_complete_lines, are_complete_arms, are_within, is_within, are_arms_within}
use Rattle.dcc_c.proofs.refusals.ExprRules.{none-both, and-both, both-empty}

module _ (P : Stmt → Bool) (scene : BodyContext)
    (own-holds : (at blocks : ℕ) (stmt : PartialStmt) → is_complete_stmt stmt ≡ true → own_offences scene at stmt ≡ [] → inner_offences scene blocks stmt ≡ [] → P (plain_stmt stmt) ≡ true) where
  pub all-append : {A : Type 0} (P : A → Bool) (xs ys : List A) → list_all P xs ≡ true → list_all P ys ≡ true → list_all P (xs ++ ys) ≡ true
  all-append P [] ys e g = g
  all-append P (x ∷ xs) ys e g = let parts = and-both (P x) (list_all P xs) e in rw parts.0 (all-append P xs ys parts.1 g)

  mutual
    -- all statements of a block, and those inside them
    pub lines-all : (blocks : ℕ) (rows : PartialLines) → is_complete_lines rows ≡ true → lines_offences scene blocks rows ≡ [] →
        list_all P (stmts_in (plain_lines rows)) ≡ true
    lines-all blocks no_rows whole none = refl
    lines-all blocks (row stmt at line rows) whole none =
        let parts = and-both (is_complete_stmt stmt) (is_complete_lines rows) whole in
        let depth = none-both (only_if (nat_lt 200 blocks) (offence of_depth at)) _ none in
        let own = none-both (own_offences scene at stmt) (inner_offences scene (suc blocks) stmt ++ lines_offences scene blocks rows) depth.1 in
        let inner = none-both (inner_offences scene (suc blocks) stmt) (lines_offences scene blocks rows) own.1 in
        rw (own-holds at (suc blocks) stmt parts.0 own.0 inner.0)
        (all-append P (inner_stmts (plain_stmt stmt)) (stmts_in (plain_lines rows))
        (inner-all (suc blocks) stmt parts.0 inner.0) (lines-all blocks rows parts.1 inner.1))

    inner-all : (blocks : ℕ) (stmt : PartialStmt) → is_complete_stmt stmt ≡ true → inner_offences scene blocks stmt ≡ [] →
        list_all P (inner_stmts (plain_stmt stmt)) ≡ true
    inner-all blocks (AssignOf place e done) whole none = refl
    inner-all blocks (CallOf place call) whole none = refl
    inner-all blocks (IfOf e done body otherwise) whole none =
        let parts = and-both (is_complete_expr e && done) (is_complete_lines body && is_complete_lines otherwise) whole in
        let bodies = and-both (is_complete_lines body) (is_complete_lines otherwise) parts.1 in
        let both = none-both (lines_offences scene blocks body) (lines_offences scene blocks otherwise) none in
        all-append P (stmts_in (plain_lines body)) (stmts_in (plain_lines otherwise))
        (lines-all blocks body bodies.0 both.0) (lines-all blocks otherwise bodies.1 both.1)
    inner-all blocks (WhileOf e done body) whole none = lines-all blocks body (and-both (is_complete_expr e && done) (is_complete_lines body) whole).1 none
    inner-all blocks (DoWhileOf body e done) whole none = lines-all blocks body (and-both (is_complete_expr e && done) (is_complete_lines body) whole).1 none
    inner-all blocks (ForeverOf body) whole none = lines-all blocks body whole none
    inner-all blocks (SwitchOf e done arms) whole none =
        let parts = and-both (is_complete_expr e && done) (are_complete_arms arms) whole in
        let numbers = none-both (case_offences [] (case_numbers arms)) (default_offences false arms ++ arms_inner scene blocks arms) none in
        let defaults = none-both (default_offences false arms) (arms_inner scene blocks arms) numbers.1 in
        all-append P (arm_stmts (case_arms arms)) (arm_stmts (default_arms arms))
        (cases-all blocks arms parts.1 defaults.1) (defaults-all blocks arms parts.1 defaults.1)
    inner-all blocks BreakOf whole none = refl
    inner-all blocks ContinueOf whole none = refl
    inner-all blocks (GotoOf name) whole none = refl
    inner-all blocks (LabelOf name) whole none = refl
    inner-all blocks EmptyOf whole none = refl
    inner-all blocks (ReturnOf e done) whole none = refl

    cases-all : (blocks : ℕ) (arms : PartialArms) → are_complete_arms arms ≡ true → arms_inner scene blocks arms ≡ [] →
        list_all P (arm_stmts (case_arms arms)) ≡ true
    cases-all blocks no_cases whole none = refl
    cases-all blocks (cases numbers None body arms) whole none =
        let parts = and-both (is_complete_lines body) (are_complete_arms arms) whole in
        let both = none-both (lines_offences scene blocks body) (arms_inner scene blocks arms) none in
        all-append P (stmts_in (plain_lines body)) (arm_stmts (case_arms arms))
        (lines-all blocks body parts.0 both.0) (cases-all blocks arms parts.1 both.1)
    cases-all blocks (cases numbers (Some at) body arms) whole none =
        let parts = and-both (length numbers == 0) (is_complete_lines body && are_complete_arms arms) whole in
        let others = and-both (is_complete_lines body) (are_complete_arms arms) parts.1 in
        cases-all blocks arms others.1 (none-both (lines_offences scene blocks body) (arms_inner scene blocks arms) none).1

    defaults-all : (blocks : ℕ) (arms : PartialArms) → are_complete_arms arms ≡ true → arms_inner scene blocks arms ≡ [] →
        list_all P (arm_stmts (default_arms arms)) ≡ true
    defaults-all blocks no_cases whole none = refl
    defaults-all blocks (cases numbers None body arms) whole none =
        let parts = and-both (is_complete_lines body) (are_complete_arms arms) whole in
        defaults-all blocks arms parts.1 (none-both (lines_offences scene blocks body) (arms_inner scene blocks arms) none).1
    defaults-all blocks (cases numbers (Some at) body arms) whole none =
        let parts = and-both (length numbers == 0) (is_complete_lines body && are_complete_arms arms) whole in
        let others = and-both (is_complete_lines body) (are_complete_arms arms) parts.1 in
        let both = none-both (lines_offences scene blocks body) (arms_inner scene blocks arms) none in
        all-append P (stmts_in (plain_lines body)) (arm_stmts (default_arms arms))
        (lines-all blocks body others.0 both.0) (defaults-all blocks arms others.1 both.1)

-- From the rules to no offence: where each statement has what makes its own parts clean, nothing offends in a block.

-- what offends in the cases and defaults of a statement
abbrev pub arm_heads : PartialStmt → List Offence
arm_heads (SwitchOf e done arms) = case_offences [] (case_numbers arms) ++ default_offences false arms
arm_heads stmt = []

-- nothing offends in a statement's own parts
pub record OwnClean (scene : BodyContext) (at : ℕ) (stmt : PartialStmt) : Type 0 where
  pub own : own_offences scene at stmt ≡ []
  pub heads : arm_heads stmt ≡ []

pub append-all : {A : Type 0} (P : A → Bool) (xs ys : List A) → list_all P (xs ++ ys) ≡ true → (list_all P xs ≡ true) × (list_all P ys ≡ true)
append-all P [] ys e = (refl, e)
append-all P (x ∷ xs) ys e =
    let parts = and-both (P x) (list_all P (xs ++ ys)) e in
    let others = append-all P xs ys parts.1 in
    (rw parts.0 others.0, others.1)

module _ (P : Stmt → Bool) (scene : BodyContext)
    (own-clean : (at : ℕ) (stmt : PartialStmt) → is_complete_stmt stmt ≡ true → P (plain_stmt stmt) ≡ true → OwnClean scene at stmt) where
  mutual
    pub lines-clean : (blocks : ℕ) (rows : PartialLines) → is_complete_lines rows ≡ true → are_within blocks rows ≡ true →
        list_all P (stmts_in (plain_lines rows)) ≡ true → lines_offences scene blocks rows ≡ []
    lines-clean blocks no_rows whole within all = refl
    lines-clean blocks (row stmt at line rows) whole within all =
        let parts = and-both (is_complete_stmt stmt) (is_complete_lines rows) whole in
        let depth = and-both (nat_le blocks 200) (is_within (suc blocks) stmt && are_within blocks rows) within in
        let insides = and-both (is_within (suc blocks) stmt) (are_within blocks rows) depth.1 in
        let first = and-both (P (plain_stmt stmt)) (list_all P (inner_stmts (plain_stmt stmt) ++ stmts_in (plain_lines rows))) all in
        let others = append-all P (inner_stmts (plain_stmt stmt)) (stmts_in (plain_lines rows)) first.1 in
        let own = own-clean at stmt parts.0 first.0 in
        both-empty (ap (λ b. only_if b (offence of_depth at)) (le-ltb 200 blocks (leb-true blocks 200 depth.0)))
        (both-empty own.own (both-empty (inner-clean (suc blocks) stmt parts.0 insides.0 own.heads others.0) (lines-clean blocks rows parts.1 insides.1 others.1)))

    inner-clean : (blocks : ℕ) (stmt : PartialStmt) → is_complete_stmt stmt ≡ true → is_within blocks stmt ≡ true → arm_heads stmt ≡ [] →
        list_all P (inner_stmts (plain_stmt stmt)) ≡ true → inner_offences scene blocks stmt ≡ []
    inner-clean blocks (AssignOf place e done) whole within heads all = refl
    inner-clean blocks (CallOf place call) whole within heads all = refl
    inner-clean blocks (IfOf e done body otherwise) whole within heads all =
        let bodies = and-both (is_complete_lines body) (is_complete_lines otherwise) (and-both (is_complete_expr e && done) (is_complete_lines body && is_complete_lines otherwise) whole).1 in
        let insides = and-both (are_within blocks body) (are_within blocks otherwise) within in
        let parts = append-all P (stmts_in (plain_lines body)) (stmts_in (plain_lines otherwise)) all in
        both-empty (lines-clean blocks body bodies.0 insides.0 parts.0) (lines-clean blocks otherwise bodies.1 insides.1 parts.1)
    inner-clean blocks (WhileOf e done body) whole within heads all = lines-clean blocks body (and-both (is_complete_expr e && done) (is_complete_lines body) whole).1 within all
    inner-clean blocks (DoWhileOf body e done) whole within heads all = lines-clean blocks body (and-both (is_complete_expr e && done) (is_complete_lines body) whole).1 within all
    inner-clean blocks (ForeverOf body) whole within heads all = lines-clean blocks body whole within all
    inner-clean blocks (SwitchOf e done arms) whole within heads all =
        let parts = and-both (is_complete_expr e && done) (are_complete_arms arms) whole in
        let both = none-both (case_offences [] (case_numbers arms)) (default_offences false arms) heads in
        let bodies = append-all P (arm_stmts (case_arms arms)) (arm_stmts (default_arms arms)) all in
        both-empty both.0 (both-empty both.1 (arms-clean blocks arms parts.1 within bodies.0 bodies.1))
    inner-clean blocks BreakOf whole within heads all = refl
    inner-clean blocks ContinueOf whole within heads all = refl
    inner-clean blocks (GotoOf name) whole within heads all = refl
    inner-clean blocks (LabelOf name) whole within heads all = refl
    inner-clean blocks EmptyOf whole within heads all = refl
    inner-clean blocks (ReturnOf e done) whole within heads all = refl

    arms-clean : (blocks : ℕ) (arms : PartialArms) → are_complete_arms arms ≡ true → are_arms_within blocks arms ≡ true →
        list_all P (arm_stmts (case_arms arms)) ≡ true → list_all P (arm_stmts (default_arms arms)) ≡ true → arms_inner scene blocks arms ≡ []
    arms-clean blocks no_cases whole within first second = refl
    arms-clean blocks (cases numbers None body arms) whole within first second =
        let parts = and-both (is_complete_lines body) (are_complete_arms arms) whole in
        let insides = and-both (are_within blocks body) (are_arms_within blocks arms) within in
        let own = append-all P (stmts_in (plain_lines body)) (arm_stmts (case_arms arms)) first in
        both-empty (lines-clean blocks body parts.0 insides.0 own.0) (arms-clean blocks arms parts.1 insides.1 own.1 second)
    arms-clean blocks (cases numbers (Some at) body arms) whole within first second =
        let parts = and-both (is_complete_lines body) (are_complete_arms arms) (and-both (length numbers == 0) (is_complete_lines body && are_complete_arms arms) whole).1 in
        let insides = and-both (are_within blocks body) (are_arms_within blocks arms) within in
        let own = append-all P (stmts_in (plain_lines body)) (arm_stmts (default_arms arms)) second in
        both-empty (lines-clean blocks body parts.0 insides.0 own.0) (arms-clean blocks arms parts.1 insides.1 first own.1)
