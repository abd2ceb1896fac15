-- Reading a statement, kind by kind.
use Rattle.std.specs.Prelude.{ℕ, codes, if◌then◌else◌}
use Rattle.dcc_c.specs.Grammar.{Around, in_loop, in_switch}
use Rattle.dcc_c.specs.Partial.{PartialStmt, ForeverOf, BreakOf, ContinueOf, EmptyOf}
use Rattle.dcc_c.specs.Reading.{Reader, Got, got, skip, sees_mark, sees_word, take_mark, take_word}
use Rattle.dcc_c.specs.ReadingStatements.{read_test, do_while_of, switch_of, while_of, read_leave, read_goto, read_return, read_simple, read_block, read_arms}

-- The kinds of statements, one after the other, as reading tries them.

abbrev pub semicolon_stmts : ℕ → Reader → Got PartialStmt
semicolon_stmts calls r = if sees_mark (codes ";") r then got EmptyOf (skip r) else read_simple calls r

abbrev pub last_stmts : ℕ → Reader → Got PartialStmt
last_stmts calls r = if sees_word (codes "return") r then read_return calls r else semicolon_stmts calls r

abbrev pub return_stmts : ℕ → Reader → Got PartialStmt
return_stmts calls r = if sees_word (codes "goto") r then read_goto r else last_stmts calls r

abbrev pub goto_stmts : ℕ → Around → Reader → Got PartialStmt
goto_stmts calls around r = if sees_word (codes "continue") r then read_leave around.continues ContinueOf r else return_stmts calls r

abbrev pub leave_stmts : ℕ → Around → Reader → Got PartialStmt
leave_stmts calls around r = if sees_word (codes "break") r then read_leave around.breaks BreakOf r else goto_stmts calls around r

abbrev pub switch_stmt : ℕ → Around → Reader → Got PartialStmt
switch_stmt calls around r =
    switch_of (read_test calls (skip r)) (read_arms calls (in_switch around) (take_mark (codes "{") (read_test calls (skip r)).following))

abbrev pub switch_stmts : ℕ → Around → Reader → Got PartialStmt
switch_stmts calls around r = if sees_word (codes "switch") r then switch_stmt calls around r else leave_stmts calls around r

abbrev pub for_stmt : ℕ → Around → Reader → Got PartialStmt
for_stmt calls around r =
    let body = read_block calls (in_loop around) (take_mark (codes ")") (take_mark (codes ";") (take_mark (codes ";") (take_mark (codes "(") (skip r))))) in
    got (ForeverOf body.value) body.following

abbrev pub for_stmts : ℕ → Around → Reader → Got PartialStmt
for_stmts calls around r = if sees_word (codes "for") r then for_stmt calls around r else switch_stmts calls around r

abbrev pub do_stmt : ℕ → Around → Reader → Got PartialStmt
do_stmt calls around r =
    do_while_of (read_block calls (in_loop around) (skip r)) (read_test calls (take_word (codes "while") (read_block calls (in_loop around) (skip r)).following))

abbrev pub do_stmts : ℕ → Around → Reader → Got PartialStmt
do_stmts calls around r = if sees_word (codes "do") r then do_stmt calls around r else for_stmts calls around r

abbrev pub while_stmt : ℕ → Around → Reader → Got PartialStmt
while_stmt calls around r = while_of (read_test calls (skip r)) (read_block calls (in_loop around) (read_test calls (skip r)).following)

abbrev pub while_stmts : ℕ → Around → Reader → Got PartialStmt
while_stmts calls around r = if sees_word (codes "while") r then while_stmt calls around r else do_stmts calls around r
