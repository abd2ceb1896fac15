-- How flags are folded: for each flag an expression that has its value is carried along. No public contract rests on
-- it.
use Rattle.std.specs.Prelude.{ℕ, ◌+◌, ◌==◌, min, Bool, true, false, ◌||◌, not, if◌then◌else◌, List, [], ◌∷◌, ◌++◌, map}
use Rattle.std.specs.Prelude.{option_map, length, replicate, get_or, slice_set}
use Rattle.dcc_num.specs.declared.FlagName.{FlagName}
use Rattle.dcc_num.specs.declared.FlagName.TheVariants.{Cf, Zf, Sf, Of}
use Rattle.dcc_ir.specs.declared.syntax.Loc.{Loc}
use Rattle.dcc_ir.specs.declared.syntax.Loc.TheVariants.{Flag, Temp}
use Rattle.dcc_ir.specs.declared.syntax.UnOp.{UnOp}
use Rattle.dcc_ir.specs.declared.syntax.UnOp.TheVariants.{Not}
use Rattle.dcc_ir.specs.Tree.{Expr, Const, Get, Load, Unary, Binary, Widen, Part, Join, Choose, Address, Stmt, Set}
use Rattle.dcc_ir.specs.Tree.{Fetch, Store, Div, Call, Dos, Exit, Goto, If, Switch, Ret, Stop, Block, Graph}
use Rattle.dcc_ir.specs.Location.{location_width}
use Rattle.dcc_ir.specs.Value.{is_test, is_comparison}
use Rattle.dcc_ir.specs.Flow.{targets}
use Rattle.dcc_ir.specs.Live.{block_in}
use Rattle.dcc_flags.specs.declared.choices.Choices.{Choices as ChoicesOf}
use Rattle.dcc_flags.specs.declared.kept.Kept.{Kept}
use Rattle.dcc_flags.specs.declared.fold.Folding.{Folding as FoldingOf}
use Rattle.dcc_ir.specs.Views.{expr_of, block_of}

-- Which flags are kept.
abbrev pub is_kept : Kept → FlagName → Bool
is_kept kept Cf = kept.cf
is_kept kept Zf = kept.zf
is_kept kept Sf = kept.sf
is_kept kept Of = kept.of

-- Choices.

-- for each flag an expression that has its value
pub record Choices : Type 0 where
  pub cf : Expr
  pub zf : Expr
  pub sf : Expr
  pub of : Expr

abbrev pub choices_of : ChoicesOf → Choices
choices_of c = record { cf = expr_of c.cf; zf = expr_of c.zf; sf = expr_of c.sf; of = expr_of c.of }

abbrev pub choice : Choices → FlagName → Expr
choice c Cf = c.cf
choice c Zf = c.zf
choice c Sf = c.sf
choice c Of = c.of

abbrev pub with_choice : Choices → FlagName → Expr → Choices
with_choice c Cf e = record c { cf = e }
with_choice c Zf e = record c { zf = e }
with_choice c Sf e = record c { sf = e }
with_choice c Of e = record c { of = e }

-- the choice for a flag at the start: a kept flag has its own value, and another one what the temporary holds
abbrev pub first_choice : Kept → ℕ → FlagName → Expr
first_choice kept temporary f = if is_kept kept f then Get (Flag f) else Get (Temp temporary)

abbrev pub first_choices : Kept → ℕ → Choices
first_choices kept temporary = record {
  cf = first_choice kept temporary Cf;
  zf = first_choice kept temporary Zf;
  sf = first_choice kept temporary Sf;
  of = first_choice kept temporary Of;
}

-- Expressions in which reads of flags are replaced by the choices.

-- an operator on one operand; a negation of a negation is the operand of that
abbrev pub negated : ℕ → Expr → Expr
negated width (Unary Not w a) = if w == width then a else Unary Not width (Unary Not w a)
negated width e = Unary Not width e

abbrev pub with_operator : UnOp → ℕ → Expr → Expr
with_operator Not width a = negated width a
with_operator operator width a = Unary operator width a

abbrev pub chosen : Choices → Loc → Expr
chosen c (Flag f) = choice c f
chosen c location = Get location

abbrev pub with_choices : Choices → Expr → Expr
with_choices c (Const width n) = Const width n
with_choices c (Get location) = chosen c location
with_choices c (Load width address) = Load width (with_choices c address)
with_choices c (Unary operator width a) = with_operator operator width (with_choices c a)
with_choices c (Binary operator width a b) = Binary operator width (with_choices c a) (with_choices c b)
with_choices c (Widen signed width a) = Widen signed width (with_choices c a)
with_choices c (Part width first a) = Part width first (with_choices c a)
with_choices c (Join high low) = Join (with_choices c high) (with_choices c low)
with_choices c (Choose test a b) = Choose (with_choices c test) (with_choices c a) (with_choices c b)
with_choices c (Address distance) = Address distance

abbrev pub stmt_with_choices : Choices → Stmt → Stmt
stmt_with_choices c (Set location e) = Set location (with_choices c e)
stmt_with_choices c (Fetch location width address) = Fetch location width (with_choices c address)
stmt_with_choices c (Store width address e) = Store width (with_choices c address) (with_choices c e)
stmt_with_choices c (Div location e) = Div location (with_choices c e)
stmt_with_choices c (Call results entry arguments depth) = Call results entry (map (with_choices c) arguments) depth
stmt_with_choices c (Dos number place argument) = Dos number place (option_map (with_choices c) argument)

abbrev pub exit_with_choices : Choices → Exit → Exit
exit_with_choices c (Goto place) = Goto place
exit_with_choices c (If test one other) = If (with_choices c test) one other
exit_with_choices c (Switch e places) = Switch (with_choices c e) places
exit_with_choices c (Ret values) = Ret (map (with_choices c) values)
exit_with_choices c Stop = Stop

-- Copies.

-- an expression over fresh temporaries, the statements that set these, and their widths
pub record Taken : Type 0 where
  pub value : Expr
  pub copies : List Stmt
  pub widths : List ℕ

-- a truth node stands in the expression
abbrev pub has_truth : Expr → Bool
has_truth (Const width n) = false
has_truth (Get location) = false
has_truth (Load width address) = has_truth address
has_truth (Unary operator width a) = is_test operator || has_truth a
has_truth (Binary operator width a b) = is_comparison operator || has_truth a || has_truth b
has_truth (Widen signed width a) = has_truth a
has_truth (Part width first a) = has_truth a
has_truth (Join high low) = has_truth high || has_truth low
has_truth (Choose test a b) = true
has_truth (Address distance) = false

-- how many bits an expression has, at most 255
abbrev pub bits_in : List ℕ → Expr → ℕ
bits_in bits (Const width n) = width
bits_in bits (Get location) = location_width bits location
bits_in bits (Load width address) = width
bits_in bits (Unary operator width a) = if is_test operator then 1 else width
bits_in bits (Binary operator width a b) = if is_comparison operator then 1 else width
bits_in bits (Widen signed width a) = width
bits_in bits (Part width first a) = width
bits_in bits (Join high low) = min (bits_in bits high + bits_in bits low) 255
bits_in bits (Choose test a b) = bits_in bits a
bits_in bits (Address distance) = 16

-- one fresh temporary takes the expression
abbrev pub copied : List ℕ → Expr → Taken
copied bits e = record {
  value = Get (Temp (length bits));
  copies = Set (Temp (length bits)) e ∷ [];
  widths = bits_in bits e ∷ [];
}

abbrev pub one_taken : (Expr → Expr) → Taken → Taken
one_taken make t = record t { value = make t.value }

abbrev pub two_taken : (Expr → Expr → Expr) → Taken → Taken → Taken
two_taken make t u = record {
  value = make t.value u.value;
  copies = t.copies ++ u.copies;
  widths = t.widths ++ u.widths;
}

-- The greatest parts without a truth node are copied, and each load; constants stay.
abbrev pub taken : List ℕ → Expr → Taken
taken bits (Const width n) = record { value = Const width n; copies = []; widths = [] }
taken bits (Get location) = copied bits (Get location)
taken bits (Load width address) = copied bits (Load width address)
taken bits (Unary operator width a) =
    if has_truth (Unary operator width a) then one_taken (Unary operator width) (taken bits a)
    else copied bits (Unary operator width a)
taken bits (Binary operator width a b) =
    if has_truth (Binary operator width a b)
    then two_taken (Binary operator width) (taken bits a) (taken (bits ++ (taken bits a).widths) b)
    else copied bits (Binary operator width a b)
taken bits (Widen signed width a) =
    if has_truth a then one_taken (Widen signed width) (taken bits a) else copied bits (Widen signed width a)
taken bits (Part width first a) =
    if has_truth a then one_taken (Part width first) (taken bits a) else copied bits (Part width first a)
taken bits (Join high low) =
    if has_truth (Join high low)
    then two_taken Join (taken bits high) (taken (bits ++ (taken bits high).widths) low)
    else copied bits (Join high low)
taken bits (Choose test a b) =
    let t = taken bits test in
    let u = taken (bits ++ t.widths) a in
    let v = taken (bits ++ t.widths ++ u.widths) b in
    record {
      value = Choose t.value u.value v.value;
      copies = t.copies ++ u.copies ++ v.copies;
      widths = t.widths ++ u.widths ++ v.widths;
    }
taken bits (Address distance) = copied bits (Address distance)

-- Statements.

-- the statement sets a flag that isn't kept
abbrev pub goes_with : Kept → Stmt → Bool
goes_with kept (Set (Flag f) e) = not (is_kept kept f)
goes_with kept stmt = false

-- the statements in place of some, the widths of their fresh temporaries, and the choices after them
pub record Folded : Type 0 where
  pub stmts : List Stmt
  pub widths : List ℕ
  pub choices : Choices

abbrev pub set_folded : Kept → List ℕ → Choices → Loc → Expr → Folded
set_folded kept bits c (Flag f) e =
    if is_kept kept f then record { stmts = Set (Flag f) e ∷ []; widths = []; choices = c }
    else record {
      stmts = (taken bits e).copies;
      widths = (taken bits e).widths;
      choices = with_choice c f (taken bits e).value;
    }
set_folded kept bits c location e = record { stmts = Set location e ∷ []; widths = []; choices = c }

abbrev pub stmt_folded : Kept → List ℕ → Choices → Stmt → Folded
stmt_folded kept bits c (Set location e) = set_folded kept bits c location (with_choices c e)
stmt_folded kept bits c stmt = record { stmts = stmt_with_choices c stmt ∷ []; widths = []; choices = c }

abbrev pub stmts_folded : Kept → List ℕ → Choices → List Stmt → Folded
stmts_folded kept bits c [] = record { stmts = []; widths = []; choices = c }
stmts_folded kept bits c (stmt ∷ rest) =
    let first = stmt_folded kept bits c stmt in
    let later = stmts_folded kept (bits ++ first.widths) first.choices rest in
    record { stmts = first.stmts ++ later.stmts; widths = first.widths ++ later.widths; choices = later.choices }

-- Blocks.

-- the statements of a block to which no run comes: definitions of flags that aren't kept go
abbrev pub bare_stmts : Kept → Choices → List Stmt → List Stmt
bare_stmts kept c [] = []
bare_stmts kept c (stmt ∷ rest) =
    if goes_with kept stmt then bare_stmts kept c rest else stmt_with_choices c stmt ∷ bare_stmts kept c rest

abbrev pub bare_block : Kept → Choices → Block → Block
bare_block kept c b = record b { stmts = bare_stmts kept c b.stmts; exit = exit_with_choices c b.exit }

-- what is folded so far: the widths of the temporaries, the choices with which each block begins, and the blocks
pub record Folding : Type 0 where
  pub bits : List ℕ
  pub given : List Choices
  pub blocks : List Block

abbrev pub folding_of : FoldingOf → Folding
folding_of s = record {
  bits = s.bits.items;
  given = map choices_of s.given.items;
  blocks =
      map block_of s.blocks.items;
}

-- nothing is folded: each block begins with these choices, and stands as if no run came there; one more temporary is
-- never set
abbrev pub first_folding : Kept → Choices → Graph → Folding
first_folding kept c graph = record {
  bits = graph.bits ++ 1 ∷ [];
  given = replicate (length graph.blocks) c;
  blocks = map (bare_block kept c) graph.blocks;
}

-- the choices with which blocks begin, where the listed ones begin with the given choices
abbrev pub given_to : Choices → List Choices → List ℕ → List Choices
given_to c given [] = given
given_to c given (place ∷ places) = given_to c (slice_set given place c) places

abbrev pub block_folded : Kept → List ℕ → Choices → Block → Block
block_folded kept bits c b =
    let f = stmts_folded kept bits c b.stmts in
    record b { stmts = f.stmts; exit = exit_with_choices f.choices b.exit }

-- a block is folded, and the blocks after it begin with its choices
abbrev pub fold_block : Kept → Graph → Choices → Folding → ℕ → Folding
fold_block kept graph none s place =
    let b = block_in graph place in
    let c = get_or s.given place none in
    let f = stmts_folded kept s.bits c b.stmts in
    record {
      bits = s.bits ++ f.widths;
      given = given_to f.choices s.given (targets b.exit);
      blocks = slice_set s.blocks place (block_folded kept s.bits c b);
    }

abbrev pub fold_blocks : Kept → Graph → Choices → Folding → List ℕ → Folding
fold_blocks kept graph none s [] = s
fold_blocks kept graph none s (place ∷ places) =
    fold_blocks kept graph none (fold_block kept graph none s place) places

-- the graph whose blocks are folded in that order; the temporary after those of the graph holds the fill
abbrev pub folded_graph : Kept → Graph → List ℕ → Graph
folded_graph kept graph order =
    let none = first_choices kept (length graph.bits) in
    let s = fold_blocks kept graph none (first_folding kept none graph) order in
    record graph { blocks = s.blocks; bits = s.bits }
