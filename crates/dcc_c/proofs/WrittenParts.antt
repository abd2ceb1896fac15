-- Lines of the written form, and the parts of statements, are read as their tokens.
use Rattle.std.proofs.Common.{◌≡◌, ℕ, zero, suc, ◌+◌, ◌*◌, min, Bool, true, false, ◌==◌, List, [], ◌∷◌, ◌++◌, length, None, Some, refl, ap, ◌∙◌, subst, append_assoc, arith, ◌⊎◌, inl, inr}
use Rattle.std.specs.Prelude.{codes, replicate, Option, if◌then◌else◌}
use Rattle.std.specs.List.{list_all}
use Rattle.std.specs.Fmt.{decimal}
use Rattle.std.proofs.lemmas.Bool.{and_parts, and_from, leb-true, eqb-false}
use Rattle.std.proofs.lemmas.List.{append-nil}
use Rattle.dcc_c.specs.Token.{Decimal, Pragma, Head, plain_number, version_line, depth_line, head_bytes, is_word}
use Rattle.dcc_c.specs.Lexing.{Placed, placed, pragma, are_pragma_numbers}
use Rattle.dcc_c.specs.Tree.{Word, Expr}
use Rattle.dcc_c.specs.Grammar.{word, mark, is_name}
use Rattle.dcc_c.specs.Written.{indented, written_depth, written_call, written_return, written_test, written_cases}
use Rattle.dcc_c.specs.Numbered.{rows}
use Rattle.dcc_c.proofs.WrittenLaws.{is_word-name}
use Rattle.dcc_c.proofs.Writable.{is_small, is_value_if, is_writable_expr}
use Rattle.dcc_c.proofs.WrittenTokens.{depth_tokens, call_tokens, return_tokens, test_tokens, cases_tokens}
use Rattle.dcc_c.proofs.WrittenRows.{rows-append, decimal_flat}
use Rattle.dcc_c.proofs.WrittenReads.{Ending, LineAfter, Reads, at_beginning, space_then, reads_then, line_feed, no_line, lines_then, counted_as}
use Rattle.dcc_c.proofs.WrittenExprs.{word_then, mark_then, opening_then, closing_then, number_then, expr_reads, arguments_read}

-- a part that can be read inside a line can be read at its beginning
pub at_start : {fresh : Bool} {at : ℕ} {ending : Ending} {b : List ℕ} {g : List Placed → List Placed} →
    Reads false at ending b g → Reads fresh at ending b g
at_start r = record {
  lexed = λ rest others fits goes. at_beginning (r.lexed rest others fits goes);
  counted = r.counted;
}

spaces_then : {fresh : Bool} {at : ℕ} {ending : Ending} {b : List ℕ} {g : List Placed → List Placed} (n : ℕ) →
    Reads false at ending b g → Reads fresh at ending (replicate n 32 ++ b) g
spaces_then zero r = at_start r
spaces_then (suc n) r = space_then (spaces_then n r)

-- the spaces at the beginning of a line before a part
pub indented_then : {fresh : Bool} {at : ℕ} {ending : Ending} {b : List ℕ} {g : List Placed → List Placed} (braces : ℕ) →
    Reads false at ending b g → Reads fresh at ending (indented braces b) g
indented_then braces r = spaces_then (4 * min braces 16) r

-- the line after a part by the lines that it has
pub after_rows : {fresh : Bool} {at following : ℕ} {bytes : List ℕ} {tokens : List Placed → List Placed} (n : ℕ) →
    rows bytes ≡ n → Reads fresh at (LineAfter following) bytes tokens → Reads fresh at (LineAfter (at + n)) bytes tokens
after_rows {fresh} {at} {following} {bytes} {tokens} n has r =
    subst (λ l. Reads fresh at (LineAfter l) bytes tokens) (r.counted ∙ ap (λ m. at + m) has) r

pub by_rows : {fresh : Bool} {at following : ℕ} {bytes : List ℕ} {tokens : List Placed → List Placed} →
    Reads fresh at (LineAfter following) bytes tokens → Reads fresh at (LineAfter (at + rows bytes)) bytes tokens
by_rows {bytes} r = after_rows (rows bytes) refl r

-- The end of a line.

pub semicolon_line : {at : ℕ} → Reads false at (LineAfter (at + 1)) (codes ";\n") (λ others. mark at (codes ";") ∷ others)
semicolon_line = mark_then (codes ";") refl (λ rest fits. refl) line_feed

pub colon_line : {at : ℕ} → Reads false at (LineAfter (at + 1)) (codes ":\n") (λ others. mark at (codes ":") ∷ others)
colon_line = mark_then (codes ":") refl (λ rest fits. refl) line_feed

pub brace_line : {at : ℕ} → Reads false at (LineAfter (at + 1)) (codes "{\n") (λ others. mark at (codes "{") ∷ others)
brace_line = mark_then (codes "{") refl (λ rest fits. refl) line_feed

pub closing_line : {at : ℕ} → Reads false at (LineAfter (at + 1)) (codes "}\n") (λ others. mark at (codes "}") ∷ others)
closing_line = mark_then (codes "}") refl (λ rest fits. refl) line_feed

-- a word and a semicolon
pub word_line : {at : ℕ} (name : Word) → is_word name ≡ true →
    Reads false at (LineAfter (at + 1)) (name ++ codes ";\n") (λ others. word at name ∷ mark at (codes ";") ∷ others)
word_line name is = word_then name is (λ rest fits. refl) semicolon_line

pub call_reads : {at : ℕ} (function : Word) (arguments : List Expr) → is_name function ≡ true →
    list_all is_writable_expr arguments ≡ true →
    Reads false at (LineAfter (at + 1)) (written_call function arguments) (call_tokens at function arguments)
call_reads {at} function arguments is good =
    word_then function (is_word-name function is) (λ rest fits. refl) (opening_then (reads_then (arguments_read arguments good at) (λ rest fits. refl) (closing_then semicolon_line)))

pub return_reads : {at : ℕ} (value : Option Expr) → is_value_if value ≡ true →
    Reads false at (LineAfter (at + 1)) (written_return value) (return_tokens at value)
return_reads None good = word_line (codes "return") refl
return_reads {at} (Some e) good =
    word_then (codes "return") refl (λ rest fits. refl) (space_then (reads_then (expr_reads e good at false) (λ rest fits. refl) semicolon_line))

-- the head of a statement with a block
pub test_reads : {at : ℕ} (name : Word) (e : Expr) → is_word name ≡ true → is_writable_expr e ≡ true →
    Reads false at (LineAfter (at + 1)) (written_test name e) (test_tokens at name e)
test_reads {at} name e is good =
    word_then name is (λ rest fits. refl) (space_then (opening_then (reads_then (expr_reads e good at false) (λ rest fits. refl) (closing_then (space_then brace_line)))))

-- Pragmas.

pragma_joins : (words digits rest : List ℕ) → (words ++ 32 ∷ (digits ++ 10 ∷ [])) ++ rest ≡ (words ++ 32 ∷ (digits ++ [])) ++ 10 ∷ rest
pragma_joins words digits rest = simp (append_assoc, append-nil)

head_flat : (head : Head) → rows (head_bytes head) ≡ 0
head_flat version_line = refl
head_flat _ = refl

-- a pragma with one number
pub pragma_reads : {at : ℕ} (head : Head) (n : ℕ) → are_pragma_numbers head (n ∷ []) ≡ true → is_small n ≡ true →
    Reads true at (LineAfter (at + 1)) (head_bytes head ++ 32 ∷ (decimal n ++ codes "\n")) (λ others. placed at (Pragma head) ∷ placed at (Decimal n plain_number) ∷ others)
pragma_reads {at} head n are small = record {
  lexed = λ rest others fits goes. pragma head (n ∷ []) (10 ∷ rest) are refl (pragma_joins (head_bytes head) (decimal n) rest) (line_feed.lexed rest others tt goes) refl;
  counted = rw (rows-append (head_bytes head) (32 ∷ (decimal n ++ 10 ∷ [])), head_flat head, rows-append (decimal n) (10 ∷ []), decimal_flat n (leb-true n 4294967295 small)) (omega arith);
}

-- a pragma with one number, where it is to be
pub pragma_unless : {at : ℕ} (omitted : Bool) (head : Head) (n : ℕ) → (omitted ≡ false → (are_pragma_numbers head (n ∷ []) ≡ true) × (is_small n ≡ true)) →
    let bytes : Word = if omitted then [] else head_bytes head ++ 32 ∷ (decimal n ++ codes "\n") in
    Reads true at (LineAfter (at + rows bytes)) bytes (λ others. if omitted then others else placed at (Pragma head) ∷ placed at (Decimal n plain_number) ∷ others)
pragma_unless true head n known = after_rows 0 refl no_line
pragma_unless false head n known = by_rows (pragma_reads head n (known refl).0 (known refl).1)

-- the pragma that changes the depth of calls
pub depth_reads : {at : ℕ} (depth next : ℕ) → (depth ≡ next) ⊎ (is_small next ≡ true) →
    Reads true at (LineAfter (at + rows (written_depth depth next))) (written_depth depth next) (depth_tokens at depth next)
depth_reads depth next known = pragma_unless (depth == next) depth_line next (λ differ. (and_from _ _ (small known differ) refl, small known differ))
  where
    small : (depth ≡ next) ⊎ (is_small next ≡ true) → (depth == next) ≡ false → is_small next ≡ true
    small (inl same) differ = absurd (eqb-false depth next differ same)
    small (inr is) differ = is

-- cases
pub cases_read : (braces at : ℕ) (cases : List ℕ) → list_all is_small cases ≡ true →
    Reads true at (LineAfter (at + length cases)) (written_cases braces cases) (cases_tokens at cases)
cases_read braces at [] good = after_rows 0 refl no_line
cases_read braces at (n ∷ cases) good =
    let (small, others) = and_parts (is_small n) (list_all is_small cases) good in
    counted_as (at + suc (length cases)) (omega arith) (lines_then (indented_then braces (word_then (codes "case") refl (λ rest fits. refl) (space_then (number_then n small (λ rest fits. refl) colon_line)))) (cases_read braces (at + 1) cases others))
