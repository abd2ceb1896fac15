-- The grammar allows neither the version line after the first line nor a keyword that it does not have: expressions
-- and statements.
use Rattle.std.proofs.Common.{◌≡◌, ℕ, Bool, true, false, not, ◌&&◌, if◌then◌else◌, List, [], ◌∷◌, ◌++◌, map, refl, ap, ◌∙◌, inl, inr}
use Rattle.std.specs.Prelude.{codes}
use Rattle.std.specs.List.{list_all, list_any}
use Rattle.std.proofs.lemmas.Bool.{and_parts, and_from, or_cases, cases_Bool, not_from_false, both_ways}
use Rattle.dcc_c.specs.declared.syntax.Base.{Base}
use Rattle.dcc_c.specs.declared.syntax.Base.TheVariants.{Schar, Uchar, Int, Uint, Long, Ulong}
use Rattle.dcc_c.specs.declared.syntax.CType.{CType}
use Rattle.dcc_c.specs.Token.{Token, WordToken, Mark, same_bytes, is_word}
use Rattle.dcc_c.specs.Lexing.{Placed}
use Rattle.dcc_c.specs.Tree.{Word, Expr, Stmt, Lines, Arms}
use Rattle.dcc_c.specs.Grammar.{keywords, is_among, is_name, base_words, type_tokens, Begins, none, one, IsNumber, decimal, hex, IsExpr, number, name, parentheses, unary, cast, binary, conditional, stronger, IsPlace, name_place, deref_place, AreArguments, no_argument, last_argument, more_arguments, IsCall, call, Around, IsCaseNumber, plain_decimal, unsigned_decimal, plain_hex, unsigned_hex, AreCases, last_case, more_cases, IsStmt, assign, call_alone, call_into, if_alone, if_else, while, do_while, for_ever, switch, break, continue, goto, empty, return_nothing, return_value, IsBlock, block, AreLines, no_more, depth_pragma, label, statement, AreArms, no_arm, case_arm, default_arm}
use Rattle.dcc_c.specs.Pieces.{unused_keywords}
use Rattle.dcc_c.proofs.NameLaws.{same_bytes-equal}
use Rattle.dcc_lex.proofs.laws.Words.{is_used}

-- each of the tokens may stand after the version line
abbrev pub all_used : List Placed → Bool
all_used [] = true
all_used (t ∷ tokens) = is_used t.token && all_used tokens

-- what holds of all words of a list holds of a word among them
pub among_all : (P : List ℕ → Bool) (words : List Word) (word : Word) → list_all P words ≡ true → is_among words word ≡ true → P word ≡ true
among_all P [] word all is = absurd cc
among_all P (w ∷ words) word all is =
    let (here, others) = and_parts (P w) (list_all P words) all in
    elim (or_cases (same_bytes word w) (list_any (same_bytes word) words) is) [
      | inl same ↦ ap P (same_bytes-equal word w same) ∙ here
      | inr later ↦ among_all P words word others later
    ]

-- a name is no keyword
pub name_used : (word : Word) → is_name word ≡ true → is_used (WordToken word) ≡ true
name_used word is =
    elim (cases_Bool (is_among unused_keywords word)) [
      | inl among ↦ absurd (both_ways (is_among keywords word)
          (no_keyword (is_among keywords word) (and_parts (is_word word) (not (is_among keywords word)) is).1)
          (among_all (is_among keywords) unused_keywords word refl among))
      | inr other ↦ not_from_false (is_among unused_keywords word) other
    ]
  where
    no_keyword : (t : Bool) → not t ≡ true → t ≡ false
    no_keyword true is = absurd cc
    no_keyword false is = refl

-- the words of a type may stand there
type_used_at : (base : Base) (pointer : Bool) → list_all is_used (map WordToken (base_words base) ++ (if pointer then Mark (codes "*") ∷ [] else [])) ≡ true
type_used_at Schar true = refl
type_used_at Schar false = refl
type_used_at Uchar true = refl
type_used_at Uchar false = refl
type_used_at Int true = refl
type_used_at Int false = refl
type_used_at Uint true = refl
type_used_at Uint false = refl
type_used_at Long true = refl
type_used_at Long false = refl
type_used_at Ulong true = refl
type_used_at Ulong false = refl

pub type_used : (type : CType) → list_all is_used (type_tokens type) ≡ true
type_used type = type_used_at type.base type.pointer

pub begins_used : {all rest : List Placed} {tokens : List Token} → Begins all tokens rest → list_all is_used tokens ≡ true → all_used rest ≡ true → all_used all ≡ true
begins_used none good after = after
begins_used (one {token} {tokens} others) good after =
    let (here, later) = and_parts (is_used token) (list_all is_used tokens) good in
    and_from _ _ here (begins_used others later after)

-- Expressions.

number_used : {token : Token} {n : ℕ} {base : Base} → IsNumber token n base → is_used token ≡ true
number_used (decimal n suffix) = refl
number_used (hex n suffix) = refl

pub expr_used : {strength : ℕ} {tokens rest : List Placed} {e : Expr} → IsExpr strength tokens e rest → all_used rest ≡ true → all_used tokens ≡ true
expr_used (number is) after = and_from _ _ (number_used is) after
expr_used (name bytes is) after = and_from _ _ (name_used bytes is) after
expr_used (parentheses inner) after = expr_used inner after
expr_used (unary operator inner) after = expr_used inner after
expr_used (cast type begins inner) after = begins_used begins (type_used type) (expr_used inner after)
expr_used (binary operator left right) after = expr_used left (expr_used right after)
expr_used (conditional test left right) after = expr_used test (expr_used left (expr_used right after))
expr_used (stronger inner) after = expr_used inner after

place_used : {tokens rest : List Placed} {place : Expr} → IsPlace tokens place rest → all_used rest ≡ true → all_used tokens ≡ true
place_used (name_place bytes is) after = and_from _ _ (name_used bytes is) after
place_used (deref_place inner) after = expr_used inner after

arguments_used : {tokens rest : List Placed} {es : List Expr} → AreArguments tokens es rest → all_used rest ≡ true → all_used tokens ≡ true
arguments_used no_argument after = after
arguments_used (last_argument is) after = expr_used is after
arguments_used (more_arguments is others) after = expr_used is (arguments_used others after)

call_used : {tokens rest : List Placed} {function : Word} {arguments : List Expr} → IsCall tokens function arguments rest → all_used rest ≡ true → all_used tokens ≡ true
call_used (call function is arguments) after = and_from _ _ (name_used function is) (arguments_used arguments after)

-- Statements.

case_used : {token : Token} {n : ℕ} → IsCaseNumber token n → is_used token ≡ true
case_used (plain_decimal small) = refl
case_used (unsigned_decimal small) = refl
case_used (plain_hex small) = refl
case_used (unsigned_hex small) = refl

cases_used : {tokens rest : List Placed} {cases : List ℕ} → AreCases tokens cases rest → all_used rest ≡ true → all_used tokens ≡ true
cases_used (last_case is) after = and_from _ _ (case_used is) after
cases_used (more_cases is others) after = and_from _ _ (case_used is) (cases_used others after)

mutual
  stmt_used : {limit : ℕ} {around : Around} {depth after : ℕ} {tokens rest : List Placed} {stmt : Stmt} →
      IsStmt limit around depth tokens stmt after rest → all_used rest ≡ true → all_used tokens ≡ true
  stmt_used (assign to from) after = place_used to (expr_used from after)
  stmt_used (call_alone is) after = call_used is after
  stmt_used (call_into to is) after = place_used to (call_used is after)
  stmt_used (if_alone test inner) after = expr_used test (block_used inner after)
  stmt_used (if_else test inner other) after = expr_used test (block_used inner (block_used other after))
  stmt_used (while test inner) after = expr_used test (block_used inner after)
  stmt_used (do_while inner test) after = block_used inner (expr_used test after)
  stmt_used (for_ever begins inner) after = begins_used begins refl (block_used inner after)
  stmt_used (switch test inner some) after = expr_used test (arms_used inner after)
  stmt_used (break inside) after = after
  stmt_used (continue inside) after = after
  stmt_used (goto bytes is) after = and_from _ _ (name_used bytes is) after
  stmt_used empty after = after
  stmt_used return_nothing after = after
  stmt_used (return_value is) after = expr_used is after

  block_used : {limit : ℕ} {around : Around} {depth after : ℕ} {tokens rest : List Placed} {lines : Lines} →
      IsBlock limit around depth tokens lines after rest → all_used rest ≡ true → all_used tokens ≡ true
  block_used (block inner) after = lines_used inner after

  pub lines_used : {limit : ℕ} {around : Around} {labelled : Bool} {depth after : ℕ} {tokens rest : List Placed} {lines : Lines} →
      AreLines limit around labelled depth tokens lines after rest → all_used rest ≡ true → all_used tokens ≡ true
  lines_used no_more after = after
  lines_used (depth_pragma blocks inner) after = lines_used inner after
  lines_used (label bytes is blocks inner) after = and_from _ _ (name_used bytes is) (lines_used inner after)
  lines_used (statement blocks first inner) after = stmt_used first (lines_used inner after)

  arms_used : {limit : ℕ} {around : Around} {depth after : ℕ} {tokens rest : List Placed} {arms last : Arms} →
      AreArms limit around depth tokens arms last after rest → all_used rest ≡ true → all_used tokens ≡ true
  arms_used no_arm after = after
  arms_used (case_arm numbers few inner others) after = cases_used numbers (lines_used inner (arms_used others after))
  arms_used (default_arm few inner others) after = lines_used inner (arms_used others after)
