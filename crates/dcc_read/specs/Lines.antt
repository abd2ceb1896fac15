-- What is read of statements, by what was read before.
use Rattle.std.specs.Prelude.{ℕ, codes, option_to_list, Bool, true, false, if◌then◌else◌, List, [], ◌∷◌, Option, Some}
use Rattle.std.specs.Prelude.{None}
use Rattle.dcc_c.specs.Grammar.{Around, in_loop, in_switch}
use Rattle.dcc_c.specs.Kinds.{of_depth}
use Rattle.dcc_c.specs.Partial.{PartialStmt, ForeverOf, BreakOf, ContinueOf, EmptyOf, LabelOf, no_rows, PartialArms}
use Rattle.dcc_c.specs.Partial.{cases}
use Rattle.dcc_c.specs.Reading.{Reader, Got, got, line_of, skip, stop_at, fail, sees_mark, take_mark, take_word}
use Rattle.dcc_c.specs.Reading.{take_name}
use Rattle.dcc_c.specs.ReadingStatements as statements
use Rattle.dcc_reader.specs.PartialViews.{stmt_of, lines_of}
use Rattle.dcc_reader.specs.declared.partial.Row.{Row}
use Rattle.dcc_reader.specs.declared.statement_word.StatementWord.{StatementWord}
use Rattle.dcc_reader.specs.declared.statement_word.StatementWord.TheVariants.{If, While, Do, For, Switch, Break}
use Rattle.dcc_reader.specs.declared.statement_word.StatementWord.TheVariants.{Continue, Goto, Return}
use Rattle.dcc_read.specs.declared.statement.Block.{Block}
use Rattle.dcc_read.specs.declared.statement.LineRead.{LineRead}

abbrev pub block_of : Block → statements.Block
block_of b = record { lines = lines_of b.lines.items; leaves = b.leaves }

-- rows before the statements that are read after them
abbrev pub before_lines : List Row → Got statements.Block → Got statements.Block
before_lines [] others = others
before_lines (r ∷ rows) others = statements.before_others (stmt_of r.stmt) r.at r.line (before_lines rows others)

-- what was read where a statement may begin, and the statements after it
abbrev pub after_line : LineRead → ℕ → Around → Reader → Got statements.Block
after_line l calls around r =
    before_lines (option_to_list l.row)
    (if l.is_last then got (statements.block_of no_rows l.leaves) r
    else statements.read_lines calls around l.labelled l.leaves r)

-- a depth line that stands here, and the statements after it
abbrev pub depth_line : ℕ → Around → Bool → Reader → Got statements.Block
depth_line calls around labelled r =
    if labelled then got (statements.block_of no_rows false) (fail r)
    else if statements.is_nested around then got (statements.block_of no_rows false) (stop_at of_depth r.at r)
    else statements.read_lines calls around false false (statements.read_depth r)

-- a label that stands here, and the statements after it
abbrev pub label_line : ℕ → Around → Reader → Got statements.Block
label_line calls around r =
    let name = take_name r in
    elim name.value [
      | Some word ↦ statements.before_others (LabelOf word) r.at (line_of r.left)
          (statements.read_lines calls around true false (statements.stop_if_nested around r.at (skip name.following)))
      | None ↦ got (statements.block_of no_rows false) name.following
    ]

-- `(;;)`, which must stand here
abbrev pub take_forever : Reader → Reader
take_forever r = take_mark (codes ")") (take_mark (codes ";") (take_mark (codes ";") (take_mark (codes "(") r)))

-- the loops, each after its word
abbrev pub while_stmt : ℕ → Around → Reader → Got PartialStmt
while_stmt calls around r =
    let test = statements.read_test calls r in
    statements.while_of test (statements.read_block calls (in_loop around) test.following)

abbrev pub do_while_stmt : ℕ → Around → Reader → Got PartialStmt
do_while_stmt calls around r =
    let body = statements.read_block calls (in_loop around) r in
    statements.do_while_of body (statements.read_test calls (take_word (codes "while") body.following))

abbrev pub forever_stmt : ℕ → Around → Reader → Got PartialStmt
forever_stmt calls around r =
    let body = statements.read_block calls (in_loop around) (take_forever r) in
    got (ForeverOf body.value) body.following

-- a `switch`, the word of which stands here
abbrev pub switch_stmt : ℕ → Around → Reader → Got PartialStmt
switch_stmt calls around r =
    let test = statements.read_test calls (skip r) in
    statements.switch_of test (statements.read_arms calls (in_switch around) (take_mark (codes "{") test.following))

-- a statement without a word: `;`, an assignment or a call
abbrev pub wordless_stmt : ℕ → Reader → Got PartialStmt
wordless_stmt calls r = if sees_mark (codes ";") r then got EmptyOf (skip r) else statements.read_simple calls r

-- a statement by the word that it begins with, which stands here
abbrev pub stmt_with : Option StatementWord → ℕ → Around → Reader → Got PartialStmt
stmt_with (Some If) calls around r = statements.read_if calls around (statements.read_test calls (skip r))
stmt_with (Some While) calls around r = while_stmt calls around (skip r)
stmt_with (Some Do) calls around r = do_while_stmt calls around (skip r)
stmt_with (Some For) calls around r = forever_stmt calls around (skip r)
stmt_with (Some Switch) calls around r = switch_stmt calls around r
stmt_with (Some Break) calls around r = statements.read_leave around.breaks BreakOf r
stmt_with (Some Continue) calls around r = statements.read_leave around.continues ContinueOf r
stmt_with (Some Goto) calls around r = statements.read_goto r
stmt_with (Some Return) calls around r = statements.read_return calls r
stmt_with None calls around r = wordless_stmt calls r

-- an arm before others, and the reader after it
abbrev pub arm_read : ℕ → Around → PartialArms → Reader → Got PartialArms
arm_read calls around others r =
    let head = statements.read_arm_head calls r in
    let body = statements.end_arm (statements.read_lines calls around false false head.following) in
    got (cases head.value.numbers head.value.default body.value others) body.following
