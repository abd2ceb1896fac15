-- Reading statements and declarations, for every text.
use Rattle.std.specs.Prelude.{ℕ, zero, suc, nat_le, nat_lt, ◌==◌, Bool, true, false, ◌&&◌, ◌||◌, not, if◌then◌else◌}
use Rattle.std.specs.Prelude.{List, [], ◌∷◌, ◌++◌, codes, Option, Some, None, is_some}
use Rattle.dcc_c.specs.declared.syntax.CUn.TheVariants.{Deref}
use Rattle.dcc_c.specs.declared.syntax.Class.{Class}
use Rattle.dcc_c.specs.declared.syntax.Class.TheVariants.{Plain, Auto, Register}
use Rattle.dcc_c.specs.Token.{Token, Decimal, Hex, Pragma, Suffix, plain_number, unsigned_suffix, Head, version_line}
use Rattle.dcc_c.specs.Token.{stack_line, place_line, depth_line}
use Rattle.dcc_c.specs.Grammar.{Around, in_block, in_loop, in_switch}
use Rattle.dcc_c.specs.Kinds.{of_depth}
use Rattle.dcc_c.specs.Partial.{WordAt, NumberAt, PartialExpr, UnaryHere, PartialStmt, AssignOf, CallOf, IfOf, WhileOf}
use Rattle.dcc_c.specs.Partial.{DoWhileOf, ForeverOf, SwitchOf, BreakOf, ContinueOf, GotoOf, LabelOf, EmptyOf, ReturnOf}
use Rattle.dcc_c.specs.Partial.{PartialLines, no_rows, row, PartialArms, no_cases, cases, PartialVariable}
use Rattle.dcc_c.specs.Reading.{Reader, Got, got, is_stopped, next_token, second_token, line_of, skip, stop_at, fail}
use Rattle.dcc_c.specs.Reading.{is_the_mark, is_the_word, name_of, sees_mark, sees_word, take_mark, take_word}
use Rattle.dcc_c.specs.Reading.{take_name, take_plain, take_type, begins_type, Inside, in_operator, name_here}
use Rattle.dcc_c.specs.Reading.{read_unary, read_expr}

-- Whole expressions.

-- what stands around a whole expression that begins here, inside a number of parentheses
abbrev pub whole : ℕ → Reader → Inside
whole opened r = record { start = r.at; operators = 0; opened = opened }

-- an expression, outside of parentheses or inside those of a statement
abbrev pub read_value : ℕ → Reader → Got PartialExpr
read_value calls r = read_expr calls (whole 0 r) r

abbrev pub read_enclosed : ℕ → Reader → Got PartialExpr
read_enclosed calls r = read_expr calls (whole 1 r) r

-- an expression in parentheses
abbrev pub read_test : ℕ → Reader → Got PartialExpr
read_test calls r =
    let e = read_enclosed calls (take_mark (codes "(") r) in got e.value (take_mark (codes ")") e.following)

-- Pragmas.

abbrev pub is_the_head : Head → Option Token → Bool
is_the_head version_line (Some (Pragma version_line)) = true
is_the_head stack_line (Some (Pragma stack_line)) = true
is_the_head place_line (Some (Pragma place_line)) = true
is_the_head depth_line (Some (Pragma depth_line)) = true
is_the_head head token = false

abbrev pub sees_head : Head → Reader → Bool
sees_head head r = is_the_head head (next_token r)

-- the words of a pragma, which must stand here
abbrev pub take_head : Head → Reader → Reader
take_head head r = if sees_head head r then skip r else fail r

-- a number of a pragma, which must stand here in its line
abbrev pub take_number_of_line : ℕ → Reader → Got (Option NumberAt)
take_number_of_line line r = if line_of r.left == line then take_plain r else got None (fail r)

-- a depth line changes the depth in force
abbrev pub set_depth : Option NumberAt → Reader → Reader
set_depth (Some n) r = record r { depth = n.value }
set_depth None r = r

abbrev pub read_depth : Reader → Reader
read_depth r = let n = take_number_of_line (line_of r.left) (skip r) in set_depth n.value n.following

-- Calls and assignments.

-- a call begins here: a name, and an opening parenthesis
abbrev pub begins_call : Reader → Bool
begins_call r = is_some (name_of (next_token r)) && is_the_mark (codes "(") (second_token r)

-- the arguments after the first one, with commas between them
abbrev pub more_arguments : ℕ → Reader → Got (List PartialExpr)
more_arguments zero r = got [] r
more_arguments (suc calls) r =
    if sees_mark (codes ",") r then (
    let first = read_enclosed calls (skip r) in
    let others = more_arguments calls first.following in
    got (first.value ∷ others.value) others.following
    ) else got [] r

abbrev pub read_arguments : ℕ → Reader → Got (List PartialExpr)
read_arguments calls r =
    if sees_mark (codes ")") r then got [] r
    else (
    let first = read_enclosed calls r in
    let others = more_arguments calls first.following in
    got (first.value ∷ others.value) others.following
    )

-- the call, after its name
abbrev pub call_of : ℕ → Option PartialExpr → WordAt → Reader → Got PartialStmt
call_of calls place function r =
    let arguments = read_arguments calls (skip r) in
    let end = take_mark (codes ")") arguments.following in
    got (CallOf place (record {
      function = function;
      arguments = arguments.value;
      closed = not (is_stopped end);
      depth = r.depth;
    }))
    (take_mark (codes ";") end)

-- a call with this place for its result, which begins here
abbrev pub read_call : ℕ → Option PartialExpr → Reader → Got PartialStmt
read_call calls place r =
    let name = take_name r in
    elim name.value [ Some function ↦ call_of calls place function name.following | None ↦ got EmptyOf name.following ]

-- a place: a name, or a star with an operand
abbrev pub read_place : ℕ → Reader → Got PartialExpr
read_place calls r = elim (name_of (next_token r)) [
  | Some word ↦ name_here word r
  | None ↦
      let a = read_unary calls (in_operator (whole 0 r)) (take_mark (codes "*") r) in
      got (UnaryHere r.at Deref a.value) a.following
]

-- the value of an assignment, after its `=`
abbrev pub assignment_of : ℕ → PartialExpr → Reader → Got PartialStmt
assignment_of calls place r =
    let e = read_value calls r in
    let end = take_mark (codes ";") e.following in
    got (AssignOf place (Some e.value) (not (is_stopped end))) end

-- what takes a value at a place
abbrev pub read_assigned : ℕ → Got PartialExpr → Got PartialStmt
read_assigned calls place =
    if not (sees_mark (codes "=") place.following) then got (AssignOf place.value None false) (fail place.following)
    else if begins_call (skip place.following) then read_call calls (Some place.value) (skip place.following)
    else assignment_of calls place.value (skip place.following)

-- an assignment or a call
abbrev pub read_simple : ℕ → Reader → Got PartialStmt
read_simple calls r = if begins_call r then read_call calls None r else read_assigned calls (read_place calls r)

-- Short statements.

-- `break` and `continue`, which something must stand around
abbrev pub read_leave : Bool → PartialStmt → Reader → Got PartialStmt
read_leave inside stmt r = got stmt (take_mark (codes ";") (if inside then skip r else fail r))

abbrev pub read_goto : Reader → Got PartialStmt
read_goto r = let name = take_name (skip r) in got (GotoOf name.value) (take_mark (codes ";") name.following)

abbrev pub read_return : ℕ → Reader → Got PartialStmt
read_return calls r =
    if sees_mark (codes ";") (skip r) then got (ReturnOf None true) (skip (skip r))
    else (
    let e = read_value calls (skip r) in
    let end = take_mark (codes ";") e.following in
    got (ReturnOf (Some e.value) (not (is_stopped end))) end
    )

-- Cases.

-- the number of a case: at most 65535, without suffix or with U
abbrev pub is_case_suffix : Suffix → Bool
is_case_suffix plain_number = true
is_case_suffix unsigned_suffix = true
is_case_suffix suffix = false

abbrev pub case_if : ℕ → Suffix → Option ℕ
case_if n suffix = if nat_le n 65535 && is_case_suffix suffix then Some n else None

abbrev pub case_number : Option Token → Option ℕ
case_number (Some (Decimal n suffix)) = case_if n suffix
case_number (Some (Hex n suffix)) = case_if n suffix
case_number token = None

-- `case`, its number and the colon
abbrev pub read_case : Reader → Got (List NumberAt)
read_case r = elim (case_number (next_token (skip r))) [
  | Some n ↦ got (record { value = n; at = suc r.at } ∷ []) (take_mark (codes ":") (skip (skip r)))
  | None ↦ got [] (fail (skip r))
]

-- one case after the other
abbrev pub read_cases : ℕ → Reader → Got (List NumberAt)
read_cases zero r = got [] r
read_cases (suc calls) r =
    if sees_word (codes "case") r then (
    let first = read_case r in
    let others = read_cases calls first.following in
    got (first.value ++ others.value) others.following
    ) else got [] r

-- what an arm begins with: cases, or the place of `default`
pub record ArmHead : Type 0 where
  pub numbers : List NumberAt
  pub default : Option ℕ

abbrev pub read_arm_head : ℕ → Reader → Got ArmHead
read_arm_head calls r =
    if sees_word (codes "default") r
    then got (record { numbers = []; default = Some r.at }) (take_mark (codes ":") (skip r))
    else (let found = read_cases calls r in got (record { numbers = found.value; default = None }) found.following)

abbrev pub begins_arm : Reader → Bool
begins_arm r = sees_word (codes "case") r || sees_word (codes "default") r

-- Statements in general.

-- a statement, a label or a depth line begins with the token
abbrev pub is_statement_word : Option Token → Bool
is_statement_word token =
    ((is_the_word (codes "if") token || is_the_word (codes "while") token)
    || (is_the_word (codes "do") token || is_the_word (codes "for") token))
    || (((is_the_word (codes "switch") token || is_the_word (codes "break") token)
    || (is_the_word (codes "continue") token || is_the_word (codes "goto") token))
    || is_the_word (codes "return") token)

abbrev pub begins_stmt : Option Token → Bool
begins_stmt token =
    (is_statement_word token || is_some (name_of token))
    || ((is_the_mark (codes "*") token || is_the_mark (codes ";") token) || is_the_head depth_line token)

-- a label begins here: a name, and a colon
abbrev pub begins_label : Reader → Bool
begins_label r = is_some (name_of (next_token r)) && is_the_mark (codes ":") (second_token r)

-- more than 200 blocks stand around a statement
abbrev pub is_nested : Around → Bool
is_nested around = nat_lt 200 around.blocks

-- A statement that more than 200 blocks stand around, and that begins at a place, is the last that is read.
abbrev pub stop_if_nested : Around → ℕ → Reader → Reader
stop_if_nested around at r = if is_nested around then stop_at of_depth at r else r

-- a statement that holds blocks begins with the token
abbrev pub is_block_word : Option Token → Bool
is_block_word token =
    ((is_the_word (codes "if") token || is_the_word (codes "while") token)
    || (is_the_word (codes "do") token || is_the_word (codes "for") token)) || is_the_word (codes "switch") token

-- Statements one after the other, and whether the last of them is a `break` that no label stands before.
pub record Block : Type 0 where
  pub lines : PartialLines
  pub leaves : Bool

abbrev pub block_of : PartialLines → Bool → Block
block_of lines leaves = record { lines = lines; leaves = leaves }

abbrev pub is_break : PartialStmt → Bool
is_break BreakOf = true
is_break stmt = false

-- the statement before the others
abbrev pub before_others : PartialStmt → ℕ → ℕ → Got Block → Got Block
before_others stmt at line others =
    got (block_of (row stmt at line others.value.lines) others.value.leaves) others.following

-- all statements but the last
abbrev pub without_last : PartialLines → PartialLines
without_last no_rows = no_rows
without_last (row stmt at line no_rows) = no_rows
without_last (row stmt at line (row next place number rest)) =
    row stmt at line (without_last (row next place number rest))

-- the body of an arm, whose last statement must be a `break`
abbrev pub end_arm : Got Block → Got PartialLines
end_arm body =
    if is_stopped body.following then got body.value.lines body.following
    else if body.value.leaves then got (without_last body.value.lines) body.following
    else got body.value.lines (fail body.following)

-- the closing brace
abbrev pub end_block : Got Block → Got PartialLines
end_block body = got body.value.lines (take_mark (codes "}") body.following)

-- a test with its parenthesis, and a body
abbrev pub while_of : Got PartialExpr → Got PartialLines → Got PartialStmt
while_of test body = got (WhileOf test.value (not (is_stopped test.following)) body.value) body.following

abbrev pub if_of : Got PartialExpr → PartialLines → Got PartialLines → Got PartialStmt
if_of test body otherwise =
    got (IfOf test.value (not (is_stopped test.following)) body otherwise.value) otherwise.following

abbrev pub do_while_of : Got PartialLines → Got PartialExpr → Got PartialStmt
do_while_of body test =
    got (DoWhileOf body.value test.value (not (is_stopped test.following))) (take_mark (codes ";") test.following)

abbrev pub switch_of : Got PartialExpr → Got PartialArms → Got PartialStmt
switch_of test arms =
    got (SwitchOf test.value (not (is_stopped test.following)) arms.value) (take_mark (codes "}") arms.following)

abbrev mutual
  -- a statement that is no label, which begins here
  pub read_stmt : ℕ → Around → Reader → Got PartialStmt
  read_stmt zero around r = got EmptyOf r
  read_stmt (suc calls) around r =
      if sees_word (codes "if") r then read_if calls around (read_test calls (skip r))
      else if sees_word (codes "while") r then (
      let test = read_test calls (skip r) in
      while_of test (read_block calls (in_loop around) test.following)
      )
      else if sees_word (codes "do") r then (
      let body = read_block calls (in_loop around) (skip r) in
      do_while_of body (read_test calls (take_word (codes "while") body.following))
      )
      else if sees_word (codes "for") r then (
      let body = read_block calls (in_loop around)
      (take_mark (codes ")") (take_mark (codes ";") (take_mark (codes ";") (take_mark (codes "(") (skip r))))) in
      got (ForeverOf body.value) body.following
      )
      else if sees_word (codes "switch") r then (
      let test = read_test calls (skip r) in
      switch_of test (read_arms calls (in_switch around) (take_mark (codes "{") test.following))
      )
      else if sees_word (codes "break") r then read_leave around.breaks BreakOf r
      else if sees_word (codes "continue") r then read_leave around.continues ContinueOf r
      else if sees_word (codes "goto") r then read_goto r
      else if sees_word (codes "return") r then read_return calls r
      else if sees_mark (codes ";") r then got EmptyOf (skip r)
      else read_simple calls r

  -- the blocks of an `if` after its test
  pub read_if : ℕ → Around → Got PartialExpr → Got PartialStmt
  read_if zero around test = got EmptyOf test.following
  read_if (suc calls) around test =
      let body = read_block calls (in_block around) test.following in
      if sees_word (codes "else") body.following
      then if_of test body.value (read_block calls (in_block around) (skip body.following))
      else if_of test body.value (got no_rows body.following)

  -- a block, which must stand here
  pub read_block : ℕ → Around → Reader → Got PartialLines
  read_block zero around r = got no_rows r
  read_block (suc calls) around r = end_block (read_lines calls around false false (take_mark (codes "{") r))

  -- Statements as long as they come. After a label a statement must stand; `leaves` says that the statement before is
  -- a `break` without a label.
  pub read_lines : ℕ → Around → Bool → Bool → Reader → Got Block
  read_lines zero around labelled leaves r = got (block_of no_rows leaves) r
  read_lines (suc calls) around labelled leaves r =
      if begins_stmt (next_token r) then read_line calls around labelled r
      else got (block_of no_rows leaves) (if labelled then fail r else r)

  -- A depth line, a label or a statement, and the statements after it. Inside more than 200 blocks no depth line and
  -- no statement with blocks is read.
  pub read_line : ℕ → Around → Bool → Reader → Got Block
  read_line zero around labelled r = got (block_of no_rows false) r
  read_line (suc calls) around labelled r =
      if sees_head depth_line r then (
      if labelled then got (block_of no_rows false) (fail r)
      else if is_nested around then got (block_of no_rows false) (stop_at of_depth r.at r)
      else read_lines calls around false false (read_depth r)
      )
      else if begins_label r then (
      let name = take_name r in
      elim name.value [
        | Some word ↦ before_others (LabelOf word) r.at (line_of r.left)
            (read_lines calls around true false (stop_if_nested around r.at (skip name.following)))
        | None ↦ got (block_of no_rows false) name.following
      ])
      else if is_nested around && is_block_word (next_token r) then
      got (block_of no_rows false) (stop_at of_depth r.at r)
      else (
      let stmt = read_stmt calls around r in
      before_others stmt.value r.at (line_of r.left)
      (read_lines calls around false (is_break stmt.value && not labelled) (stop_if_nested around r.at stmt.following))
      )

  -- the arms of a `switch`, of which there must be one
  pub read_arms : ℕ → Around → Reader → Got PartialArms
  read_arms zero around r = got no_cases r
  read_arms (suc calls) around r = if begins_arm r then read_more_arms calls around r else got no_cases (fail r)

  -- arms as long as they come
  pub read_more_arms : ℕ → Around → Reader → Got PartialArms
  read_more_arms zero around r = got no_cases r
  read_more_arms (suc calls) around r =
      if begins_arm r then (
      let head = read_arm_head calls r in
      let body = end_arm (read_lines calls around false false head.following) in
      let others = read_more_arms calls around body.following in
      got (cases head.value.numbers head.value.default body.value others.value) others.following
      ) else got no_cases r

-- Declarations.

-- the size of an array, or none
abbrev pub read_size : Reader → Got (Option NumberAt)
read_size r =
    if sees_mark (codes "[") r
    then (let n = take_plain (skip r) in got n.value (take_mark (codes "]") n.following)) else got None r

-- the numbers that were read
abbrev pub list_of : Option NumberAt → List NumberAt
list_of (Some n) = n ∷ []
list_of None = []

-- initial values after the first one, with commas between them
abbrev pub more_values : ℕ → Reader → Got (List NumberAt)
more_values zero r = got [] r
more_values (suc calls) r =
    if sees_mark (codes ",") r then (
    let first = take_plain (skip r) in
    let others = more_values calls first.following in
    got (list_of first.value ++ others.value) others.following
    ) else got [] r

-- initial values in braces, or one without
abbrev pub read_values : ℕ → Reader → Got (List NumberAt)
read_values calls r =
    if sees_mark (codes "{") r then (
    let first = take_plain (skip r) in
    let others = more_values calls first.following in
    got (list_of first.value ++ others.value) (take_mark (codes "}") others.following)
    ) else (let n = take_plain r in got (list_of n.value) n.following)

abbrev pub read_init : ℕ → Reader → Got (List NumberAt)
read_init calls r = if sees_mark (codes "=") r then read_values calls (skip r) else got [] r

-- an array among the local variables is `auto`
abbrev pub class_with : Option NumberAt → Class → Class
class_with (Some n) class = Auto
class_with None class = class

-- a local variable, which begins here
abbrev pub read_local : Reader → Got PartialVariable
read_local r =
    let class : Class = if sees_word (codes "auto") r then Auto else Plain in
    let type = take_type (if sees_word (codes "auto") r then skip r else r) in
    let name = take_name type.following in
    let size = read_size name.following in
    let end = take_mark (codes ";") size.following in
    got (record {
      name = name.value;
      type = type.value;
      class = class_with size.value class;
      size = size.value;
      init = [];
      address = 0;
      done = not (is_stopped end);
    }) end

-- local variables as long as they come
abbrev pub read_locals : ℕ → Reader → Got (List PartialVariable)
read_locals zero r = got [] r
read_locals (suc calls) r =
    if sees_word (codes "auto") r || begins_type (next_token r) then (
    let first = read_local r in
    let others = read_locals calls first.following in
    got (first.value ∷ others.value) others.following
    ) else got [] r

-- the word for the class of a parameter, or none
abbrev pub read_class : Reader → Got Class
read_class r =
    if sees_word (codes "register") r then got Register (skip r)
    else if sees_word (codes "auto") r then got Auto (skip r)
    else got Plain r

-- a parameter
abbrev pub read_param : Reader → Got PartialVariable
read_param r =
    let class = read_class r in
    let type = take_type class.following in
    let name = take_name type.following in
    got (record {
      name = name.value;
      type = type.value;
      class = class.value;
      size = None;
      init = [];
      address = 0;
      done = not (is_stopped name.following);
    }) name.following

-- parameters after the first one, with commas between them
abbrev pub more_params : ℕ → Reader → Got (List PartialVariable)
more_params zero r = got [] r
more_params (suc calls) r =
    if sees_mark (codes ",") r then (
    let first = read_param (skip r) in
    let others = more_params calls first.following in
    got (first.value ∷ others.value) others.following
    ) else got [] r

-- a function's parameters; `void` stands for none
abbrev pub read_params : ℕ → Reader → Got (List PartialVariable)
read_params calls r =
    if sees_word (codes "void") r then got [] (skip r)
    else (
    let first = read_param r in
    let others = more_params calls first.following in
    got (first.value ∷ others.value) others.following
    )
