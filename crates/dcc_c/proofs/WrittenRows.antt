-- How many lines a part of the written form has: tokens have no line feed, and the braces around a part change nothing.
use Rattle.std.proofs.Common.{◌≡◌, ℕ, zero, suc, ◌+◌, ◌*◌, ◌≤◌, ◌<◌, ◌%◌, min, Bool, true, false, ◌&&◌, ◌==◌, List, [], ◌∷◌, ◌++◌, None, Some, refl, ap, sym, ◌∙◌, subst, arith, inl, inr, length}
use Rattle.std.specs.Prelude.{replicate, nat_le}
use Rattle.std.specs.List.{list_all, list_any}
use Rattle.std.specs.Fmt.{decimal}
use Rattle.std.proofs.lemmas.Bool.{and_parts, and_from, or_left, or_right, or_cases, eqb-true, leb-true, le-leb, cases_Bool, both_ways}
use Rattle.std.proofs.lemmas.List.Folds.{list_all-append}
use Rattle.std.proofs.lemmas.Fmt.{decimal_by_steps}
use Rattle.dcc_c.specs.Token.{Token, WordToken, Decimal, Hex, Mark, Pragma, Suffix, plain_number, unsigned_suffix, long_suffix, unsigned_long_suffix, suffix_bytes, is_word, is_letter, is_digit, is_word_byte, marks, same_bytes}
use Rattle.dcc_c.specs.Tree.{Word, Stmt, Assign, Call, If, While, DoWhile, Forever, Switch, Break, Continue, Goto, Label, Empty, Return, Lines, no_lines, line, Arms, no_arms, arm}
use Rattle.dcc_c.specs.Written.{next_depth, indented, written_else, written_cases, written_stmt, written_lines, written_arms, written_default}
use Rattle.dcc_c.specs.Numbered.{rows}
use Rattle.dcc_c.proofs.LexingLaws.{spelling, is_spelled}
use Rattle.dcc_c.proofs.NameLaws.{same_bytes-equal}

pub rows-append : (a b : List ℕ) → rows (a ++ b) ≡ rows a + rows b
rows-append [] b = omega arith
rows-append (x ∷ a) b = elim (cases_Bool (x == 10)) [
  | inl is ↦ rw (is, rows-append a b) (omega arith)
  | inr not ↦ rw (not, rows-append a b) refl
]

-- a byte of words is none of the others
pub other_byte : (c b : ℕ) → is_word_byte c ≡ false → is_word_byte b ≡ true → (b == c) ≡ false
other_byte c b other is = elim (cases_Bool (b == c)) [
  | inl same ↦ absurd (both_ways (is_word_byte c) other (subst (λ x. is_word_byte x ≡ true) (eqb-true b c same) is))
  | inr not ↦ not
]

-- bytes of words have no line feed
pub word_rows : (bytes : List ℕ) → list_all is_word_byte bytes ≡ true → rows bytes ≡ 0
word_rows [] all = refl
word_rows (b ∷ bytes) all =
    let (here, others) = and_parts (is_word_byte b) (list_all is_word_byte bytes) all in
    rw (other_byte 10 b refl here) (word_rows bytes others)

-- a word and a number have no line feed
pub word_flat : (word : List ℕ) → is_word word ≡ true → rows word ≡ 0
word_flat [] is = absurd cc
word_flat (b ∷ bytes) is =
    let (letter, others) = and_parts (is_letter b) (list_all is_word_byte bytes && nat_le (length bytes) 30) is in
    let (all, short) = and_parts (list_all is_word_byte bytes) (nat_le (length bytes) 30) others in
    word_rows (b ∷ bytes) (and_from _ _ (or_left (is_letter b) (is_digit b) letter) all)

-- the bytes are digits, and there is one
abbrev pub begins_with_digit : List ℕ → Bool
begins_with_digit [] = false
begins_with_digit (b ∷ bytes) = is_digit b

abbrev are_digits : List ℕ → Bool
are_digits bytes = list_all is_digit bytes && begins_with_digit bytes

digit_is : (n : ℕ) → n < 10 → is_digit (48 + n) ≡ true
digit_is n small = and_from _ _ (le-leb 48 (48 + n) (omega arith)) (le-leb (48 + n) 57 (omega arith))

begins_still : (bytes others : List ℕ) → begins_with_digit bytes ≡ true → begins_with_digit (bytes ++ others) ≡ true
begins_still [] others begins = absurd cc
begins_still (b ∷ bytes) others begins = begins

decimal_digits : (n : ℕ) → n ≤ 4294967295 → are_digits (decimal n) ≡ true
decimal_digits n small = decimal_by_steps (λ n ds. are_digits ds ≡ true) one more n (omega arith)
  where
    one : (n : ℕ) → n < 10 → are_digits ((48 + n) ∷ []) ≡ true
    one n small = rw (digit_is n small) refl

    more : (n : ℕ) (ds : List ℕ) → 10 ≤ n → are_digits ds ≡ true → are_digits (ds ++ (48 + n % 10) ∷ []) ≡ true
    more n ds large are =
        let (all, begins) = and_parts (list_all is_digit ds) (begins_with_digit ds) are in
        and_from _ _ (list_all-append is_digit ds ((48 + n % 10) ∷ []) ∙ and_from _ _ all (rw (digit_is (n % 10) (omega arith)) refl)) (begins_still ds _ begins)

digit_bytes : (bytes : List ℕ) → list_all is_digit bytes ≡ true → list_all is_word_byte bytes ≡ true
digit_bytes [] all = refl
digit_bytes (b ∷ bytes) all =
    let (here, others) = and_parts (is_digit b) (list_all is_digit bytes) all in
    and_from _ _ (or_right (is_letter b) (is_digit b) here) (digit_bytes bytes others)

pub decimal_begins : (n : ℕ) → n ≤ 4294967295 → begins_with_digit (decimal n) ≡ true
decimal_begins n small =
    (and_parts (list_all is_digit (decimal n)) (begins_with_digit (decimal n)) (decimal_digits n small)).1

pub decimal_flat : (n : ℕ) → n ≤ 4294967295 → rows (decimal n) ≡ 0
decimal_flat n small =
    word_rows (decimal n) (digit_bytes (decimal n) (and_parts (list_all is_digit (decimal n)) (begins_with_digit (decimal n)) (decimal_digits n small)).0)

suffix_flat : (suffix : Suffix) → rows (suffix_bytes suffix) ≡ 0
suffix_flat plain_number = refl
suffix_flat unsigned_suffix = refl
suffix_flat long_suffix = refl
suffix_flat unsigned_long_suffix = refl

among_flat : (bytes : List ℕ) (words : List (List ℕ)) → list_any (same_bytes bytes) words ≡ true →
    list_all (λ word. rows word == 0) words ≡ true → rows bytes ≡ 0
among_flat bytes [] is flat = absurd cc
among_flat bytes (word ∷ words) is flat =
    let (here, others) = and_parts (rows word == 0) (list_all (λ w. rows w == 0) words) flat in
    elim (or_cases (same_bytes bytes word) (list_any (same_bytes bytes) words) is) [
      | inl same ↦ ap rows (same_bytes-equal bytes word same) ∙ eqb-true (rows word) 0 here
      | inr later ↦ among_flat bytes words later others
    ]

-- no token that can be spelled has a line feed
pub spelling_flat : (read : Token) → is_spelled read ≡ true → rows (spelling read) ≡ 0
spelling_flat (WordToken word) good = word_flat word good
spelling_flat (Decimal n suffix) good =
    rows-append (decimal n) (suffix_bytes suffix) ∙ rw (decimal_flat n (leb-true n 4294967295 good), suffix_flat suffix) refl
spelling_flat (Mark mark) good = among_flat mark marks good refl
spelling_flat (Hex n suffix) good = absurd cc
spelling_flat (Pragma head) good = absurd cc

-- Braces.

spaces_flat : (n : ℕ) → rows (replicate n 32) ≡ 0
spaces_flat zero = refl
spaces_flat (suc n) = spaces_flat n

pub indentation_flat : (braces : ℕ) (bytes : Word) → rows (indented braces bytes) ≡ rows bytes
indentation_flat braces bytes =
    rows-append (replicate (4 * min braces 16) 32) bytes ∙ rw (spaces_flat (4 * min braces 16)) (omega arith)

-- two texts have as many lines
pub record SameRows (a b : Word) : Type 0 where
  pub same : rows a ≡ rows b

joined : {a b c d : Word} → SameRows a c → SameRows b d → SameRows (a ++ b) (c ++ d)
joined {a} {b} {c} {d} first second = record {
  same =
      let one = first.same in
      let two = second.same in
      rw (rows-append a b, rows-append c d) (omega arith);
}

alike : {a : Word} → SameRows a a
alike = record { same = refl }

indented_rows : (a b : ℕ) (bytes : Word) → SameRows (indented a bytes) (indented b bytes)
indented_rows a b bytes = record { same = indentation_flat a bytes ∙ sym (indentation_flat b bytes) }

cases_rows : (a b : ℕ) (cases : List ℕ) → SameRows (written_cases a cases) (written_cases b cases)
cases_rows a b [] = alike
cases_rows a b (n ∷ cases) = joined (indented_rows a b _) (cases_rows a b cases)

else_rows : (a b : ℕ) (lines : Lines) (first second : Word) → SameRows first second →
    SameRows (written_else a lines first) (written_else b lines second)
else_rows a b no_lines first second same = alike
else_rows a b (line stmt at lines) first second same = joined (indented_rows a b _) same

mutual
  pub stmt_rows : (a b : ℕ) (depth : ℕ) (stmt : Stmt) → SameRows (written_stmt a depth stmt) (written_stmt b depth stmt)
  stmt_rows a b depth (Assign place e) = indented_rows a b _
  stmt_rows a b depth (Call None function arguments own) = indented_rows a b _
  stmt_rows a b depth (Call (Some place) function arguments own) = indented_rows a b _
  stmt_rows a b depth (If e body otherwise) =
      joined (indented_rows a b _) (joined (lines_rows (1 + a) (1 + b) depth body) (joined (else_rows a b otherwise _ _ (lines_rows (1 + a) (1 + b) _ otherwise)) (indented_rows a b _)))
  stmt_rows a b depth (While e body) =
      joined (indented_rows a b _) (joined (lines_rows (1 + a) (1 + b) depth body) (indented_rows a b _))
  stmt_rows a b depth (DoWhile body e) =
      joined (indented_rows a b _) (joined (lines_rows (1 + a) (1 + b) depth body) (indented_rows a b _))
  stmt_rows a b depth (Forever body) =
      joined (indented_rows a b _) (joined (lines_rows (1 + a) (1 + b) depth body) (indented_rows a b _))
  stmt_rows a b depth (Switch e arms last) =
      joined (indented_rows a b _) (joined (arms_rows (1 + a) (1 + b) depth arms) (joined (default_rows (1 + a) (1 + b) _ last) (indented_rows a b _)))
  stmt_rows a b depth Break = indented_rows a b _
  stmt_rows a b depth Continue = indented_rows a b _
  stmt_rows a b depth (Goto word) = indented_rows a b _
  stmt_rows a b depth (Label word) = alike
  stmt_rows a b depth Empty = indented_rows a b _
  stmt_rows a b depth (Return e) = indented_rows a b _

  pub lines_rows : (a b : ℕ) (depth : ℕ) (lines : Lines) → SameRows (written_lines a depth lines) (written_lines b depth lines)
  lines_rows a b depth no_lines = alike
  lines_rows a b depth (line stmt at lines) =
      let own = next_depth depth (line stmt at lines) in
      joined alike (joined (stmt_rows a b own stmt) (lines_rows a b _ lines))

  pub arms_rows : (a b : ℕ) (depth : ℕ) (arms : Arms) → SameRows (written_arms a depth arms) (written_arms b depth arms)
  arms_rows a b depth no_arms = alike
  arms_rows a b depth (arm cases body arms) =
      joined (cases_rows a b cases) (joined (lines_rows a b depth body) (joined (indented_rows a b _) (arms_rows a b _ arms)))

  pub default_rows : (a b : ℕ) (depth : ℕ) (arms : Arms) → SameRows (written_default a depth arms) (written_default b depth arms)
  default_rows a b depth no_arms = alike
  default_rows a b depth (arm cases body arms) =
      joined (indented_rows a b _) (joined (lines_rows a b depth body) (indented_rows a b _))
