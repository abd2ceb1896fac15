-- The written form of expressions and statements is read as they are.
use Rattle.std.proofs.Common.{◌≡◌, ℕ, zero, suc, ◌+◌, ◌-◌, ◌≤◌, Bool, true, false, ◌&&◌, not, List, [], ◌∷◌, ◌++◌, map, max, None, refl, ap, sym, ◌∙◌, subst, append_assoc, arith, inl, inr}
use Rattle.std.specs.Prelude.{codes, nat_le}
use Rattle.std.specs.List.{list_all}
use Rattle.std.proofs.lemmas.Bool.{and_parts, and_from, leb-true, le-leb, lt-leb, cases_lt}
use Rattle.dcc_c.specs.declared.syntax.Base.TheVariants.{Uint}
use Rattle.dcc_c.specs.declared.syntax.CBin.{CBin}
use Rattle.dcc_c.specs.declared.syntax.CBin.TheVariants.{OrOr}
use Rattle.dcc_c.specs.Token.{WordToken, Decimal, Mark, Suffix, unsigned_suffix, is_word, is_word_byte, is_mark, ends_before, decimal_type}
use Rattle.dcc_c.specs.Lexing.{Placed, placed}
use Rattle.dcc_c.specs.Tree.{Word, Expr, Number, Name, Binary, Stmt, Assign, Call, Lines, no_lines, line}
use Rattle.dcc_c.specs.Parts.{stmts_in}
use Rattle.dcc_c.specs.Grammar.{word, mark, keywords, is_among, is_name, binary_mark, strength, IsExpr, decimal as decimal_number, number as read_number, name as read_name, parentheses, binary, stronger, name_place, last_argument, call, outermost, assign, call_alone, AreLines, no_more, statement}
use Rattle.dcc_c.specs.Written.{suffix_for, written_expr, written_stmt, written_lines, in_parentheses, is_compound}
use Rattle.dcc_c.specs.Rules.{expr_depth, shallow_stmt, most_open}
use Rattle.dcc_c.proofs.LexingLaws.{Piece, Space, Spelled, row_bytes, row_tokens, are_apart, text_bytes, text_tokens, is_text}

-- an unsigned number, a name, or an operator on two such expressions
pub data IsSimple : Expr → Type 0 where
  simple_number : (n : ℕ) → n ≤ 65535 → IsSimple (Number n Uint)
  simple_name : (word : Word) → is_name word ≡ true → IsSimple (Name word)
  simple_binary : {a b : Expr} (operator : CBin) → IsSimple a → IsSimple b → IsSimple (Binary operator a b)

-- a name is a word
pub is_word-name : (spelled : Word) → is_name spelled ≡ true → is_word spelled ≡ true
is_word-name spelled is = (and_parts (is_word spelled) (not (is_among keywords spelled)) is).0

-- pieces, in parentheses where they are to be, before others
abbrev pub between : Bool → (List Piece → List Piece) → List Piece → List Piece
between true row rest = Spelled (Mark (codes "(")) ∷ row (Spelled (Mark (codes ")")) ∷ rest)
between false row rest = row rest

-- an expression's pieces before others
abbrev pub expr_row : Expr → List Piece → List Piece
expr_row (Number n base) rest = Spelled (Decimal n unsigned_suffix) ∷ rest
expr_row (Name spelled) rest = Spelled (WordToken spelled) ∷ rest
expr_row (Binary operator a b) rest =
    between (is_compound a) (expr_row a) (Space ∷ Spelled (Mark (binary_mark operator)) ∷ Space ∷ between (is_compound b) (expr_row b) rest)
expr_row _ rest = rest

-- tokens in a line, in parentheses where they are to be, before others
abbrev pub enclosed : ℕ → Bool → (List Placed → List Placed) → List Placed → List Placed
enclosed at true tokens rest = mark at (codes "(") ∷ tokens (mark at (codes ")") ∷ rest)
enclosed at false tokens rest = tokens rest

-- an expression's tokens in a line, before others
abbrev pub expr_tokens : ℕ → Expr → List Placed → List Placed
expr_tokens at (Number n base) rest = placed at (Decimal n unsigned_suffix) ∷ rest
expr_tokens at (Name name) rest = word at name ∷ rest
expr_tokens at (Binary operator a b) rest =
    enclosed at (is_compound a) (expr_tokens at a) (mark at (binary_mark operator) ∷ enclosed at (is_compound b) (expr_tokens at b) rest)
expr_tokens at _ rest = rest

-- the tokens of a row in a line, before others
abbrev pub placed_row : ℕ → List Piece → List Placed → List Placed
placed_row at row rest = map (placed at) (row_tokens row) ++ rest

between_tokens : (at : ℕ) (rest : List Placed) (is : Bool) (row : List Piece → List Piece) (tokens : List Placed → List Placed) →
    ((others : List Piece) → placed_row at (row others) rest ≡ tokens (placed_row at others rest)) → (others : List Piece) →
    placed_row at (between is row others) rest ≡ enclosed at is tokens (placed_row at others rest)
between_tokens at rest true row tokens same others =
    ap (λ (ts : List Placed). mark at (codes "(") ∷ ts) (same (Spelled (Mark (codes ")")) ∷ others))
between_tokens at rest false row tokens same others = same others

-- an expression's pieces have its tokens
expr_row_tokens : {e : Expr} → IsSimple e → (at : ℕ) (rest : List Placed) (others : List Piece) →
    placed_row at (expr_row e others) rest ≡ expr_tokens at e (placed_row at others rest)
expr_row_tokens (simple_number n small) at rest others = refl
expr_row_tokens (simple_name spelled is) at rest others = refl
expr_row_tokens (simple_binary {a} {b} operator first second) at rest others =
    between_tokens at rest (is_compound a) (expr_row a) (expr_tokens at a) (expr_row_tokens first at rest) _
    ∙ ap (λ (ts : List Placed). enclosed at (is_compound a) (expr_tokens at a) (mark at (binary_mark operator) ∷ ts)) (between_tokens at rest (is_compound b) (expr_row b) (expr_tokens at b) (expr_row_tokens second at rest) others)

-- an unsigned number of one word is written with U
suffix_of_word : (n : ℕ) → n ≤ 65535 → suffix_for n Uint ≡ unsigned_suffix
suffix_of_word n small =
    elim (cases_lt 32767 n) [
      | inl above ↦ rw (lt-leb n 32767 above, le-leb n 2147483647 (omega arith), le-leb n 65535 small)
      | inr below ↦ rw (le-leb n 32767 below, le-leb n 65535 small)
    ]

type_of_word : (n : ℕ) → n ≤ 65535 → decimal_type n unsigned_suffix ≡ Uint
type_of_word n small = rw (le-leb n 65535 small)

between_bytes : (is : Bool) (row : List Piece → List Piece) (bytes rest : List ℕ) → ((others : List Piece) → row_bytes (row others) rest ≡ bytes ++ row_bytes others rest) → (others : List Piece) → row_bytes (between is row others) rest ≡ in_parentheses is bytes ++ row_bytes others rest
between_bytes true row bytes rest same others =
    ap (λ (bs : List ℕ). 40 ∷ bs) (same (Spelled (Mark (codes ")")) ∷ others) ∙ sym (append_assoc bytes (41 ∷ []) (row_bytes others rest)))
between_bytes false row bytes rest same others = same others

-- an expression's pieces have its written form
expr_bytes : {e : Expr} → IsSimple e → (rest : List ℕ) (others : List Piece) → row_bytes (expr_row e others) rest ≡ written_expr e ++ row_bytes others rest
expr_bytes (simple_number n small) rest others = rw (suffix_of_word n small)
expr_bytes (simple_name spelled is) rest others = refl
expr_bytes (simple_binary {a} {b} operator first second) rest others =
    let first_bytes : List ℕ = in_parentheses (is_compound a) (written_expr a) in
    let second_bytes : List ℕ = in_parentheses (is_compound b) (written_expr b) in
    between_bytes (is_compound a) (expr_row a) (written_expr a) rest (expr_bytes first rest) _
    ∙ (ap (λ (bs : List ℕ). first_bytes ++ 32 ∷ (binary_mark operator ++ 32 ∷ bs)) (between_bytes (is_compound b) (expr_row b) (written_expr b) rest (expr_bytes second rest) others)
    ∙ regroup first_bytes (binary_mark operator) second_bytes (row_bytes others rest))
  where
    regroup : (x mark y z : List ℕ) → x ++ 32 ∷ (mark ++ 32 ∷ (y ++ z)) ≡ (x ++ 32 ∷ (mark ++ 32 ∷ y)) ++ z
    regroup x mark y z = simp append_assoc

-- the bytes do not go on with a word or a number
abbrev pub is_free : List ℕ → Bool
is_free [] = true
is_free (b ∷ bytes) = not (is_word_byte b)

pub word_ends : (word bytes : List ℕ) → is_free bytes ≡ true → ends_before (WordToken word) bytes ≡ true
word_ends word [] free = refl
word_ends word (b ∷ bytes) free = free

pub number_ends : (n : ℕ) (suffix : Suffix) (bytes : List ℕ) → is_free bytes ≡ true → ends_before (Decimal n suffix) bytes ≡ true
number_ends n suffix [] free = refl
number_ends n suffix (b ∷ bytes) free = free

opening_ends : (bytes : List ℕ) → ends_before (Mark (codes "(")) bytes ≡ true
opening_ends [] = refl
opening_ends (b ∷ bytes) = refl

closing_ends : (bytes : List ℕ) → ends_before (Mark (codes ")")) bytes ≡ true
closing_ends [] = refl
closing_ends (b ∷ bytes) = refl

pub operator_ends : (operator : CBin) (bytes : List ℕ) → ends_before (Mark (binary_mark operator)) (32 ∷ bytes) ≡ true
operator_ends OrOr bytes = refl
operator_ends _ bytes = refl

pub operator_is : (operator : CBin) → is_mark (binary_mark operator) ≡ true
operator_is OrOr = refl
operator_is _ = refl

between_apart : (is : Bool) (row : List Piece → List Piece) (rest : List ℕ) → ((others : List Piece) → is_free (row_bytes others rest) ≡ true → are_apart others rest ≡ true → are_apart (row others) rest ≡ true) → (others : List Piece) → is_free (row_bytes others rest) ≡ true → are_apart others rest ≡ true → are_apart (between is row others) rest ≡ true
between_apart true row rest keeps others free apart =
    let closed : are_apart (Spelled (Mark (codes ")")) ∷ others) rest ≡ true = and_from _ _ (closing_ends (row_bytes others rest)) apart in
    and_from _ _ (opening_ends (row_bytes (row (Spelled (Mark (codes ")")) ∷ others)) rest)) (keeps (Spelled (Mark (codes ")")) ∷ others) refl closed)
between_apart false row rest keeps others free apart = keeps others free apart

-- the tokens of an expression end before what follows them
expr_apart : {e : Expr} → IsSimple e → (rest : List ℕ) (others : List Piece) → is_free (row_bytes others rest) ≡ true → are_apart others rest ≡ true → are_apart (expr_row e others) rest ≡ true
expr_apart (simple_number n small) rest others free apart =
    and_from _ _ (le-leb n 4294967295 (omega arith)) (and_from _ _ (number_ends n unsigned_suffix (row_bytes others rest) free) apart)
expr_apart (simple_name spelled is) rest others free apart =
    and_from _ _ (is_word-name spelled is) (and_from _ _ (word_ends spelled (row_bytes others rest) free) apart)
expr_apart (simple_binary {a} {b} operator first second) rest others free apart =
    let second_apart = between_apart (is_compound b) (expr_row b) rest (expr_apart second rest) others free apart in
    let mark_apart = and_from _ _ (operator_is operator) (and_from _ _ (operator_ends operator (row_bytes (between (is_compound b) (expr_row b) others) rest)) second_apart) in
    between_apart (is_compound a) (expr_row a) rest (expr_apart first rest) _ refl mark_apart

-- the strength a number of levels above another
abbrev above : ℕ → ℕ → ℕ
above zero s = s
above (suc k) s = suc (above k s)

lower : (k : ℕ) {s : ℕ} {tokens rest : List Placed} {e : Expr} → IsExpr (above k s) tokens e rest → IsExpr s tokens e rest
lower zero is = is
lower (suc k) is = lower k (stronger is)

pub to_zero : (k : ℕ) {tokens rest : List Placed} {e : Expr} → IsExpr k tokens e rest → IsExpr 0 tokens e rest
to_zero zero is = is
to_zero (suc k) is = to_zero k (stronger is)

-- a unary part is an operand of each operator
pub as_operand : (operator : CBin) {tokens rest : List Placed} {e : Expr} → IsExpr 11 tokens e rest → IsExpr (suc (strength operator)) tokens e rest
as_operand OrOr is = lower 9 is
as_operand operator is = lower (10 - strength operator) is

-- before any others the tokens are read as the expression, and with parentheses where they are needed as an operand
record IsRead (at : ℕ) (e : Expr) (rest : List Placed) : Type 0 where
  whole : IsExpr 0 (expr_tokens at e rest) e rest
  operand : IsExpr 11 (enclosed at (is_compound e) (expr_tokens at e) rest) e rest

-- the tokens of an expression are read as the expression
expr_read : {e : Expr} → IsSimple e → (at : ℕ) (rest : List Placed) → IsRead at e rest
expr_read (simple_number n small) at rest =
    let is : IsExpr 11 (placed at (Decimal n unsigned_suffix) ∷ rest) (Number n Uint) rest =
    as_word (type_of_word n small) in
    record { whole = to_zero 11 is; operand = is }
  where
    as_word : decimal_type n unsigned_suffix ≡ Uint → IsExpr 11 (placed at (Decimal n unsigned_suffix) ∷ rest) (Number n Uint) rest
    as_word type = subst (λ base. IsExpr 11 (placed at (Decimal n unsigned_suffix) ∷ rest) (Number n base) rest) type (read_number (decimal_number n unsigned_suffix))
expr_read (simple_name spelled is) at rest = record { whole = to_zero 11 (read_name spelled is); operand = read_name spelled is }
expr_read (simple_binary {a} {b} operator first second) at rest =
    let whole : IsExpr 0 (expr_tokens at (Binary operator a b) rest) (Binary operator a b) rest =
    to_zero (strength operator) (binary operator (stronger (as_operand operator (expr_read first at _).operand)) (as_operand operator (expr_read second at rest).operand)) in
    let inside : IsExpr 0 (expr_tokens at (Binary operator a b) (mark at (codes ")") ∷ rest)) (Binary operator a b) (mark at (codes ")") ∷ rest) =
    to_zero (strength operator) (binary operator (stronger (as_operand operator (expr_read first at _).operand)) (as_operand operator (expr_read second at (mark at (codes ")") ∷ rest)).operand)) in
    record { whole = whole; operand = parentheses inside }

-- an assignment of such an expression to a variable, or a call with one as its argument
pub data IsSimpleStmt : Stmt → Type 0 where
  simple_assign : {e : Expr} (word : Word) → is_name word ≡ true → IsSimple e → IsSimpleStmt (Assign (Name word) e)
  simple_call : {e : Expr} (function : Word) → is_name function ≡ true → IsSimple e →
      IsSimpleStmt (Call None function (e ∷ []) 2)

-- a statement's pieces, in a block that no other contains
abbrev pub stmt_row : Stmt → List Piece
stmt_row (Assign place e) =
    Space ∷ Space ∷ Space ∷ Space
    ∷ expr_row place (Space ∷ Spelled (Mark (codes "=")) ∷ Space ∷ expr_row e (Spelled (Mark (codes ";")) ∷ []))
stmt_row (Call None function (e ∷ []) depth) =
    Space ∷ Space ∷ Space ∷ Space ∷ Spelled (WordToken function) ∷ Spelled (Mark (codes "("))
    ∷ expr_row e (Spelled (Mark (codes ")")) ∷ Spelled (Mark (codes ";")) ∷ [])
stmt_row _ = []

-- a statement's tokens in a line, before others
abbrev pub stmt_tokens : ℕ → Stmt → List Placed → List Placed
stmt_tokens at (Assign (Name name) e) rest =
    word at name ∷ mark at (codes "=") ∷ expr_tokens at e (mark at (codes ";") ∷ rest)
stmt_tokens at (Call None function (e ∷ []) depth) rest =
    word at function ∷ mark at (codes "(") ∷ expr_tokens at e (mark at (codes ")") ∷ mark at (codes ";") ∷ rest)
stmt_tokens at _ rest = rest

stmt_bytes : {stmt : Stmt} → IsSimpleStmt stmt → (rest : List ℕ) → row_bytes (stmt_row stmt) rest ≡ written_stmt 1 2 stmt ++ rest
stmt_bytes (simple_assign {e} spelled is simple) rest =
    rw (expr_bytes simple rest (Spelled (Mark (codes ";")) ∷ [])) (ap (λ (bs : List ℕ). 32 ∷ 32 ∷ 32 ∷ 32 ∷ bs) (regroup spelled (written_expr e)))
  where
    regroup : (x y : List ℕ) → x ++ 32 ∷ 61 ∷ 32 ∷ (y ++ 59 ∷ 10 ∷ rest) ≡ (x ++ 32 ∷ 61 ∷ 32 ∷ (y ++ 59 ∷ 10 ∷ [])) ++ rest
    regroup x y = simp append_assoc
stmt_bytes (simple_call {e} function is simple) rest =
    rw (expr_bytes simple rest (Spelled (Mark (codes ")")) ∷ Spelled (Mark (codes ";")) ∷ [])) (ap (λ (bs : List ℕ). 32 ∷ 32 ∷ 32 ∷ 32 ∷ bs) (regroup function (written_expr e)))
  where
    regroup : (x y : List ℕ) → x ++ 40 ∷ (y ++ 41 ∷ 59 ∷ 10 ∷ rest) ≡ (x ++ 40 ∷ (y ++ 41 ∷ 59 ∷ 10 ∷ [])) ++ rest
    regroup x y = simp append_assoc

stmt_apart : {stmt : Stmt} → IsSimpleStmt stmt → (rest : List ℕ) → are_apart (stmt_row stmt) rest ≡ true
stmt_apart (simple_assign spelled is simple) rest =
    and_from _ _ (is_word-name spelled is) (expr_apart simple rest (Spelled (Mark (codes ";")) ∷ []) refl refl)
stmt_apart (simple_call {e} function is simple) rest =
    let inner = expr_apart simple rest (Spelled (Mark (codes ")")) ∷ Spelled (Mark (codes ";")) ∷ []) refl refl in
    and_from _ _ (is_word-name function is) (and_from _ _ (opening_ends (row_bytes (expr_row e (Spelled (Mark (codes ")")) ∷ Spelled (Mark (codes ";")) ∷ [])) rest)) inner)

stmt_row_tokens : {stmt : Stmt} → IsSimpleStmt stmt → (at : ℕ) (rest : List Placed) → placed_row at (stmt_row stmt) rest ≡ stmt_tokens at stmt rest
stmt_row_tokens (simple_assign name is simple) at rest =
    ap (λ (ts : List Placed). word at name ∷ mark at (codes "=") ∷ ts) (expr_row_tokens simple at rest (Spelled (Mark (codes ";")) ∷ []))
stmt_row_tokens (simple_call function is simple) at rest =
    ap (λ (ts : List Placed). word at function ∷ mark at (codes "(") ∷ ts) (expr_row_tokens simple at rest (Spelled (Mark (codes ")")) ∷ Spelled (Mark (codes ";")) ∷ []))

-- simple statements, the first in a line and each other in the line after the one before
pub data AreSimple : ℕ → Lines → ℕ → Type 0 where
  simple_end : {at : ℕ} → AreSimple at no_lines at
  simple_line : {at last : ℕ} {stmt : Stmt} {lines : Lines} → IsSimpleStmt stmt → AreSimple (suc at) lines last → AreSimple at (line stmt at lines) last

-- the rows of statements before others
abbrev pub line_rows : Lines → List (List Piece) → List (List Piece)
line_rows no_lines rows = rows
line_rows (line stmt at lines) rows = stmt_row stmt ∷ line_rows lines rows

-- the tokens of statements before others
abbrev pub line_tokens : Lines → List Placed → List Placed
line_tokens no_lines rest = rest
line_tokens (line stmt at lines) rest = stmt_tokens at stmt (line_tokens lines rest)

-- the rows of statements are their written form
pub lines_bytes : {at last : ℕ} {lines : Lines} → AreSimple at lines last → (rows : List (List Piece)) → text_bytes (line_rows lines rows) ≡ written_lines 1 2 lines ++ text_bytes rows
lines_bytes simple_end rows = refl
lines_bytes (simple_line {at} {stmt} {lines} simple others) rows =
    stmt_bytes simple (text_bytes (line_rows lines rows))
    ∙ (ap (λ (bs : List ℕ). written_stmt 1 2 stmt ++ bs) (lines_bytes others rows)
    ∙ (sym (append_assoc (written_stmt 1 2 stmt) (written_lines 1 2 lines) (text_bytes rows))
    ∙ ap (λ (bs : List ℕ). bs ++ text_bytes rows) (first_written simple)))
  where
    first_written : {s : Stmt} → IsSimpleStmt s → written_stmt 1 2 s ++ written_lines 1 2 lines ≡ written_lines 1 2 (line s at lines)
    first_written (simple_assign spelled is e) = refl
    first_written (simple_call function is e) = refl

-- the rows of statements can be read where those after them can
pub lines_apart : {at last : ℕ} {lines : Lines} → AreSimple at lines last → (rows : List (List Piece)) → is_text rows ≡ true → is_text (line_rows lines rows) ≡ true
lines_apart simple_end rows good = good
lines_apart (simple_line {lines} simple others) rows good =
    and_from _ _ (stmt_apart simple (text_bytes (line_rows lines rows))) (lines_apart others rows good)

-- the rows of statements have their tokens
pub lines_tokens : {at last : ℕ} {lines : Lines} → AreSimple at lines last → (rows : List (List Piece)) → text_tokens at (line_rows lines rows) ≡ line_tokens lines (text_tokens last rows)
lines_tokens simple_end rows = refl
lines_tokens (simple_line {at} {last} {stmt} {lines} simple others) rows =
    ap (λ (ts : List Placed). placed_row at (stmt_row stmt) ts) (lines_tokens others rows) ∙ stmt_row_tokens simple at (line_tokens lines (text_tokens last rows))

-- the tokens of statements are read as the statements
pub lines_read : {at last : ℕ} {lines : Lines} → AreSimple at lines last → (rest : List Placed) → AreLines 200 outermost false 2 (line_tokens lines rest) lines 2 rest
lines_read simple_end rest = no_more
lines_read (simple_line {at} {lines} (simple_assign {e} spelled is simple) others) rest =
    statement (omega arith) (assign (name_place spelled is) (expr_read simple at (mark at (codes ";") ∷ line_tokens lines rest)).whole) (lines_read others rest)
lines_read (simple_line {at} {lines} (simple_call {e} function is simple) others) rest =
    statement (omega arith) (call_alone (call function is (last_argument (expr_read simple at (mark at (codes ")") ∷ mark at (codes ";") ∷ line_tokens lines rest)).whole))) (lines_read others rest)

-- an operator opens and closes no parenthesis
operator_open : (operator : CBin) (k at : ℕ) (tokens : List Placed) → most_open k (mark at (binary_mark operator) ∷ tokens) ≡ max k (most_open k tokens)
operator_open OrOr k at tokens = refl
operator_open _ k at tokens = refl

depth_positive : {e : Expr} → IsSimple e → 1 ≤ expr_depth e
depth_positive (simple_number n small) = omega arith
depth_positive (simple_name spelled is) = omega arith
depth_positive (simple_binary operator first second) = omega arith

-- before tokens that keep to a limit, the tokens keep to it where at most so many parentheses are open
abbrev KeepsTo : ℕ → ℕ → (List Placed → List Placed) → Type 0
KeepsTo limit most tokens =
    (k : ℕ) → k ≤ most → (others : List Placed) → most_open k others ≤ limit → most_open k (tokens others) ≤ limit

one_less : (n : ℕ) → n + 1 - 1 ≡ n
one_less n = omega arith

enclosed_open : (limit most at : ℕ) (is : Bool) (tokens : List Placed → List Placed) → suc most ≤ limit → KeepsTo limit (suc most) tokens → KeepsTo limit most (enclosed at is tokens)
enclosed_open limit most at true tokens room keeps k small others h =
    let closed : most_open (k + 1) (mark at (codes ")") ∷ others) ≤ limit = rw (one_less k) (omega arith) in
    let inner = keeps (k + 1) (omega arith) (mark at (codes ")") ∷ others) closed in
    omega arith
enclosed_open limit most at false tokens room keeps k small others h = keeps k (omega arith) others h

-- an expression opens fewer parentheses than it is deep
expr_open : (limit at : ℕ) {e : Expr} → IsSimple e → (most : ℕ) → most + expr_depth e ≤ suc limit → KeepsTo limit most (expr_tokens at e)
expr_open limit at (simple_number n fits) most room k small others h = omega arith
expr_open limit at (simple_name spelled is) most room k small others h = omega arith
expr_open limit at (simple_binary {a} {b} operator first second) most room k small others h =
    let first_positive = depth_positive first in
    let second_positive = depth_positive second in
    let right = enclosed_open limit most at (is_compound b) (expr_tokens at b) (omega arith) (expr_open limit at second (suc most) (omega arith)) k small others h in
    let middle : most_open k (mark at (binary_mark operator) ∷ enclosed at (is_compound b) (expr_tokens at b) others) ≤ limit =
    rw (operator_open operator k at (enclosed at (is_compound b) (expr_tokens at b) others)) (omega arith) in
    enclosed_open limit most at (is_compound a) (expr_tokens at a) (omega arith) (expr_open limit at first (suc most) (omega arith)) k small (mark at (binary_mark operator) ∷ enclosed at (is_compound b) (expr_tokens at b) others) middle

stmt_open : {stmt : Stmt} → IsSimpleStmt stmt → shallow_stmt 200 stmt ≡ true → (at : ℕ) (others : List Placed) → most_open 0 others ≤ 200 → most_open 0 (stmt_tokens at stmt others) ≤ 200
stmt_open (simple_assign {e} spelled is simple) shallow at others h =
    let small : expr_depth e ≤ 200 = leb-true (expr_depth e) 200 (and_parts (nat_le (expr_depth e) 200) true (and_parts true (nat_le (expr_depth e) 200 && true) shallow).1).0 in
    let inner = expr_open 200 at simple 0 (omega arith) 0 (omega arith) (mark at (codes ";") ∷ others) (omega arith) in
    omega arith
stmt_open (simple_call {e} function is simple) shallow at others h =
    let small : expr_depth e ≤ 200 = leb-true (expr_depth e) 200 (and_parts _ _ shallow).0 in
    let inner = expr_open 200 at simple 1 (omega arith) 1 (omega arith) (mark at (codes ")") ∷ mark at (codes ";") ∷ others) (omega arith) in
    omega arith

-- shallow statements keep to 200 open parentheses
pub lines_open : {at last : ℕ} {lines : Lines} → AreSimple at lines last → list_all (shallow_stmt 200) (stmts_in lines) ≡ true → (others : List Placed) → most_open 0 others ≤ 200 → most_open 0 (line_tokens lines others) ≤ 200
lines_open simple_end shallow others h = h
lines_open (simple_line {at} {lines} (simple_assign {e} spelled is simple) later) shallow others h =
    let (here, rest) = and_parts (shallow_stmt 200 (Assign (Name spelled) e)) (list_all (shallow_stmt 200) (stmts_in lines)) shallow in
    stmt_open (simple_assign spelled is simple) here at (line_tokens lines others) (lines_open later rest others h)
lines_open (simple_line {at} {lines} (simple_call {e} function is simple) later) shallow others h =
    let (here, rest) = and_parts (shallow_stmt 200 (Call None function (e ∷ []) 2)) (list_all (shallow_stmt 200) (stmts_in lines)) shallow in
    stmt_open (simple_call function is simple) here at (line_tokens lines others) (lines_open later rest others h)
