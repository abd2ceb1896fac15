-- What a derivation says of the tokens of statements: each leads to fewer, and its parentheses are in pairs.
use Rattle.std.proofs.Common.{◌≡◌, ℕ, suc, ◌+◌, ◌≤◌, length, List, [], ◌∷◌, Bool, refl, arith}
use Rattle.std.specs.Prelude.{codes}
use Rattle.dcc_c.specs.Token.{Token, WordToken, Mark}
use Rattle.dcc_c.specs.Lexing.{Placed, placed}
use Rattle.dcc_c.specs.Tree.{Word, Expr, Stmt, Lines, Arms}
use Rattle.dcc_c.specs.Grammar.{mark, IsExpr, IsPlace, name_place, deref_place, AreArguments, no_argument, last_argument, more_arguments, IsCall, call, Around, IsCaseNumber, plain_decimal, unsigned_decimal, plain_hex, unsigned_hex, AreCases, last_case, more_cases, IsStmt, assign, call_alone, call_into, if_alone, if_else, while, do_while, for_ever, switch, break, continue, goto, empty, return_nothing, return_value, IsBlock, block, AreLines, no_more, depth_pragma, label, statement, AreArms, no_arm, case_arm, default_arm, Begins, none, one}
use Rattle.dcc_c.specs.Rules.{most_open}
use Rattle.dcc_c.proofs.reading.Enclosing.{open_after}
use Rattle.dcc_c.proofs.reading.Derivations.{shorter, flat_after, opening_after, closing_after, expr-enclosed}

-- The tokens lead to others, at least so many fewer, with so many parentheses open before and after.
pub record Leads (least opened after : ℕ) (tokens rest : List Placed) : Type 0 where
  pub less : length rest + least ≤ length tokens
  pub enclosed : most_open opened tokens ≤ 200 → most_open after rest ≤ 200

pub then_leads : {m n a b c : ℕ} {tokens between rest : List Placed} → Leads m a b tokens between → Leads n b c between rest → Leads m a c tokens rest
then_leads first second = record { less = omega (arith, first.less, second.less); enclosed = λ few. second.enclosed (first.enclosed few) }

pub some_leads : {m a b : ℕ} {tokens rest : List Placed} → Leads m a b tokens rest → Leads 0 a b tokens rest
some_leads first = record { less = omega (arith, first.less); enclosed = first.enclosed }

pub no_leads : {a : ℕ} {tokens : List Placed} → Leads 0 a a tokens tokens
no_leads = record { less = omega arith; enclosed = λ few. few }

pub token_leads : {token : Token} {opened line : ℕ} {rest : List Placed} → open_after token opened ≡ opened → Leads 1 opened opened (placed line token ∷ rest) rest
token_leads {token} {opened} {line} {rest} flat = record { less = omega arith; enclosed = λ few. flat_after token opened line rest flat few }

pub opening_leads : {opened line : ℕ} {rest : List Placed} → Leads 1 opened (suc opened) (mark line (codes "(") ∷ rest) rest
opening_leads {opened} {line} {rest} = record { less = omega arith; enclosed = λ few. opening_after opened line rest few }

pub closing_leads : {opened line : ℕ} {rest : List Placed} → Leads 1 (suc opened) opened (mark line (codes ")") ∷ rest) rest
closing_leads {opened} {line} {rest} = record { less = omega arith; enclosed = λ few. closing_after opened line rest few }

pub expr_leads : {least opened : ℕ} {tokens rest : List Placed} {e : Expr} → IsExpr least tokens e rest → Leads 1 opened opened tokens rest
expr_leads {opened} derived = record { less = omega (arith, shorter derived); enclosed = λ few. expr-enclosed derived opened few }

-- an expression in parentheses
pub test_leads : {opening closing : ℕ} {tokens rest : List Placed} {e : Expr} → IsExpr 0 tokens e (mark closing (codes ")") ∷ rest) → Leads 1 0 0 (mark opening (codes "(") ∷ tokens) rest
test_leads e = then_leads opening_leads (then_leads (expr_leads e) closing_leads)

pub place_leads : {tokens rest : List Placed} {e : Expr} → IsPlace tokens e rest → Leads 1 0 0 tokens rest
place_leads (name_place bytes is) = token_leads refl
place_leads (deref_place a) = then_leads (token_leads refl) (expr_leads a)

pub arguments_leads : {tokens rest : List Placed} {es : List Expr} → AreArguments tokens es rest → Leads 0 1 1 tokens rest
arguments_leads no_argument = no_leads
arguments_leads (last_argument e) = some_leads (expr_leads e)
arguments_leads (more_arguments e others) = then_leads (some_leads (expr_leads e)) (then_leads (token_leads refl) (arguments_leads others))

pub call_leads : {tokens rest : List Placed} {function : Word} {es : List Expr} → IsCall tokens function es rest → Leads 1 0 0 tokens rest
call_leads (call function is arguments) = then_leads (token_leads refl) (then_leads opening_leads (then_leads (arguments_leads arguments) closing_leads))

case_flat : {token : Token} {n : ℕ} → IsCaseNumber token n → open_after token 0 ≡ 0
case_flat (plain_decimal small) = refl
case_flat (unsigned_decimal small) = refl
case_flat (plain_hex small) = refl
case_flat (unsigned_hex small) = refl

pub cases_leads : {tokens rest : List Placed} {ns : List ℕ} → AreCases tokens ns rest → Leads 1 0 0 tokens rest
cases_leads (last_case number) = then_leads (token_leads refl) (then_leads (token_leads (case_flat number)) (token_leads refl))
cases_leads (more_cases number others) = then_leads (token_leads refl) (then_leads (token_leads (case_flat number)) (then_leads (token_leads refl) (cases_leads others)))

-- the tokens of `for (;;)`
pub for_leads : {tokens rest : List Placed} → Begins tokens (WordToken (codes "for") ∷ Mark (codes "(") ∷ Mark (codes ";") ∷ Mark (codes ";") ∷ Mark (codes ")") ∷ []) rest → Leads 1 0 0 tokens rest
for_leads (one (one (one (one (one none))))) =
    then_leads (token_leads refl) (then_leads opening_leads (then_leads (token_leads refl) (then_leads (token_leads refl) closing_leads)))

mutual
  pub stmt_leads : {limit depth after : ℕ} {around : Around} {tokens rest : List Placed} {s : Stmt} → IsStmt limit around depth tokens s after rest → Leads 1 0 0 tokens rest
  stmt_leads (assign place e) = then_leads (place_leads place) (then_leads (token_leads refl) (then_leads (expr_leads e) (token_leads refl)))
  stmt_leads (call_alone c) = then_leads (call_leads c) (token_leads refl)
  stmt_leads (call_into place c) = then_leads (place_leads place) (then_leads (token_leads refl) (then_leads (call_leads c) (token_leads refl)))
  stmt_leads (if_alone e body) = then_leads (token_leads refl) (then_leads (test_leads e) (block_leads body))
  stmt_leads (if_else e body otherwise) =
      then_leads (token_leads refl) (then_leads (test_leads e) (then_leads (block_leads body) (then_leads (token_leads refl) (block_leads otherwise))))
  stmt_leads (while e body) = then_leads (token_leads refl) (then_leads (test_leads e) (block_leads body))
  stmt_leads (do_while body e) =
      then_leads (token_leads refl) (then_leads (block_leads body) (then_leads (token_leads refl) (then_leads (test_leads e) (token_leads refl))))
  stmt_leads (for_ever words body) = then_leads (for_leads words) (block_leads body)
  stmt_leads (switch e arms has) =
      then_leads (token_leads refl) (then_leads (test_leads e) (then_leads (token_leads refl) (then_leads (arms_leads arms) (token_leads refl))))
  stmt_leads (break allowed) = then_leads (token_leads refl) (token_leads refl)
  stmt_leads (continue allowed) = then_leads (token_leads refl) (token_leads refl)
  stmt_leads (goto name is) = then_leads (token_leads refl) (then_leads (token_leads refl) (token_leads refl))
  stmt_leads empty = token_leads refl
  stmt_leads return_nothing = then_leads (token_leads refl) (token_leads refl)
  stmt_leads (return_value e) = then_leads (token_leads refl) (then_leads (expr_leads e) (token_leads refl))

  pub block_leads : {limit depth after : ℕ} {around : Around} {tokens rest : List Placed} {lines : Lines} → IsBlock limit around depth tokens lines after rest → Leads 1 0 0 tokens rest
  block_leads (block lines) = then_leads (token_leads refl) (then_leads (lines_leads lines) (token_leads refl))

  pub lines_leads : {limit depth after : ℕ} {around : Around} {labelled : Bool} {tokens rest : List Placed} {lines : Lines} → AreLines limit around labelled depth tokens lines after rest → Leads 0 0 0 tokens rest
  lines_leads no_more = no_leads
  lines_leads (depth_pragma room lines) = some_leads (then_leads (token_leads refl) (then_leads (token_leads refl) (lines_leads lines)))
  lines_leads (label name is room lines) = some_leads (then_leads (token_leads refl) (then_leads (token_leads refl) (lines_leads lines)))
  lines_leads (statement room s lines) = some_leads (then_leads (stmt_leads s) (lines_leads lines))

  pub arms_leads : {limit depth after : ℕ} {around : Around} {tokens rest : List Placed} {arms last : Arms} → AreArms limit around depth tokens arms last after rest → Leads 0 0 0 tokens rest
  arms_leads no_arm = no_leads
  arms_leads (case_arm ns room body arms) =
      some_leads (then_leads (cases_leads ns) (then_leads (lines_leads body) (then_leads (token_leads refl) (then_leads (token_leads refl) (arms_leads arms)))))
  arms_leads (default_arm room body arms) =
      some_leads (then_leads (token_leads refl) (then_leads (token_leads refl) (then_leads (lines_leads body) (then_leads (token_leads refl) (then_leads (token_leads refl) (arms_leads arms))))))
