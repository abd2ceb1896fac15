-- First tokens of the grammar's statements.
use Rattle.std.proofs.Common.{◌≡◌, ℕ, List, true, false, Bool, Option, Some, None, refl, sym, ap, ◌∙◌, ◌⊎◌, inl, inr, true≢false}
use Rattle.std.specs.Prelude.{is_some}
use Rattle.std.proofs.lemmas.Bool.{and_right, or_left, or_right}
use Rattle.dcc_c.specs.Token.{Token, WordToken, depth_line}
use Rattle.dcc_c.specs.Lexing.{Placed}
use Rattle.dcc_c.specs.Tree.{Word, Expr, Stmt, Lines}
use Rattle.dcc_c.specs.Grammar.{is_name, IsPlace, name_place, deref_place, IsCall, call, Around, IsStmt, assign, call_alone, call_into, if_alone, if_else, while, do_while, for_ever, switch, break, continue, goto, empty, return_nothing, return_value, AreLines, no_more, depth_pragma, label, statement, one}
use Rattle.dcc_c.specs.Reading.{is_the_word}
use Rattle.dcc_c.specs.ReadingStatements.{begins_stmt, begins_label, is_the_head}
use Rattle.dcc_c.proofs.reading.Passing.{the_word-is}
use Rattle.dcc_c.proofs.reading.Statements.{on, first_of}
use Rattle.dcc_c.proofs.reading.Stopping.{if-true}

-- First tokens of statements.

pub name_begins : (bytes : Word) → is_name bytes ≡ true → begins_stmt (Some (WordToken bytes)) ≡ true
name_begins bytes good = or_left _ _ (or_right _ _ (ap is_some (if-true (is_name bytes) (Some bytes) None good)))

place_begins : {tokens rest : List Placed} {e : Expr} → IsPlace tokens e rest → begins_stmt (first_of tokens) ≡ true
place_begins (name_place bytes good) = name_begins bytes good
place_begins (deref_place a) = refl

call_begins : {tokens rest : List Placed} {function : Word} {es : List Expr} → IsCall tokens function es rest → begins_stmt (first_of tokens) ≡ true
call_begins (call function good arguments) = name_begins function good

pub stmt_begins : {limit depth after : ℕ} {around : Around} {tokens rest : List Placed} {s : Stmt} → IsStmt limit around depth tokens s after rest → begins_stmt (first_of tokens) ≡ true
stmt_begins (assign place e) = place_begins place
stmt_begins (call_alone c) = call_begins c
stmt_begins (call_into place c) = place_begins place
stmt_begins (for_ever (one words) body) = refl
stmt_begins (if_alone e body) = refl
stmt_begins (if_else e body otherwise) = refl
stmt_begins (while e body) = refl
stmt_begins (do_while body e) = refl
stmt_begins (switch e arms has) = refl
stmt_begins (break allowed) = refl
stmt_begins (continue allowed) = refl
stmt_begins (goto name is) = refl
stmt_begins empty = refl
stmt_begins return_nothing = refl
stmt_begins (return_value e) = refl

-- statements begin with one, or there are none
pub lines_begin : {limit depth after : ℕ} {around : Around} {labelled : Bool} {tokens rest : List Placed} {lines : Lines} → AreLines limit around labelled depth tokens lines after rest →
    (begins_stmt (first_of tokens) ≡ true) ⊎ (tokens ≡ rest)
lines_begin no_more = inr refl
lines_begin (depth_pragma room lines) = inl refl
lines_begin (label name good room lines) = inl (name_begins name good)
lines_begin (statement room s lines) = inl (stmt_begins s)

-- a word with which no statement begins
pub stmt_no_word : (bytes : Word) (token : Option Token) → begins_stmt token ≡ true → begins_stmt (Some (WordToken bytes)) ≡ false → is_the_word bytes token ≡ false
stmt_no_word bytes token begins never = by (is_the_word bytes token) refl
  where
    by : (b : Bool) → is_the_word bytes token ≡ b → b ≡ false
    by true is = absurd (true≢false (sym begins ∙ (ap begins_stmt (the_word-is bytes token is) ∙ never)))
    by false is = refl

pub lines_no_word : {limit depth after : ℕ} {around : Around} {labelled : Bool} {tokens rest : List Placed} {lines : Lines} (bytes : Word) → begins_stmt (Some (WordToken bytes)) ≡ false →
    AreLines limit around labelled depth tokens lines after rest → is_the_word bytes (first_of rest) ≡ false → is_the_word bytes (first_of tokens) ≡ false
lines_no_word {tokens} {rest} bytes never lines ends = by (lines_begin lines)
  where
    by : (begins_stmt (first_of tokens) ≡ true) ⊎ (tokens ≡ rest) → is_the_word bytes (first_of tokens) ≡ false
    by (inl begins) = stmt_no_word bytes (first_of tokens) begins never
    by (inr same) = ap (λ ts. is_the_word bytes (first_of ts)) same ∙ ends

pub stmt_no_head : {limit depth after : ℕ} {around : Around} {tokens rest : List Placed} {s : Stmt} → IsStmt limit around depth tokens s after rest → is_the_head depth_line (first_of tokens) ≡ false
stmt_no_head (assign (name_place bytes good) e) = refl
stmt_no_head (assign (deref_place a) e) = refl
stmt_no_head (call_alone (call function good arguments)) = refl
stmt_no_head (call_into (name_place bytes good) c) = refl
stmt_no_head (call_into (deref_place a) c) = refl
stmt_no_head (for_ever (one words) body) = refl
stmt_no_head (if_alone e body) = refl
stmt_no_head (if_else e body otherwise) = refl
stmt_no_head (while e body) = refl
stmt_no_head (do_while body e) = refl
stmt_no_head (switch e arms has) = refl
stmt_no_head (break allowed) = refl
stmt_no_head (continue allowed) = refl
stmt_no_head (goto name is) = refl
stmt_no_head empty = refl
stmt_no_head return_nothing = refl
stmt_no_head (return_value e) = refl

-- no statement but a label begins as a label does
pub stmt_no_label : {limit depth after : ℕ} {around : Around} {tokens rest : List Placed} {s : Stmt} → IsStmt limit around depth tokens s after rest → (at d : ℕ) → begins_label (on tokens at d) ≡ false
stmt_no_label (assign (name_place bytes good) e) at d = and_right _ _ refl
stmt_no_label (assign (deref_place a) e) at d = refl
stmt_no_label (call_alone (call function good arguments)) at d = and_right _ _ refl
stmt_no_label (call_into (name_place bytes good) c) at d = and_right _ _ refl
stmt_no_label (call_into (deref_place a) c) at d = refl
stmt_no_label (for_ever (one words) body) at d = refl
stmt_no_label (if_alone e body) at d = refl
stmt_no_label (if_else e body otherwise) at d = refl
stmt_no_label (while e body) at d = refl
stmt_no_label (do_while body e) at d = refl
stmt_no_label (switch e arms has) at d = refl
stmt_no_label (break allowed) at d = refl
stmt_no_label (continue allowed) at d = refl
stmt_no_label (goto name is) at d = refl
stmt_no_label empty at d = refl
stmt_no_label return_nothing at d = refl
stmt_no_label (return_value e) at d = refl
