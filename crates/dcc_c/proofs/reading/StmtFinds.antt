-- The statements of the grammar are read.
use Rattle.std.proofs.Common.{◌≡◌, ℕ, List, true, Bool, refl}
use Rattle.std.specs.Prelude.{codes, Some, None}
use Rattle.dcc_c.specs.Lexing.{Placed}
use Rattle.dcc_c.specs.Tree.{Stmt, Assign, Call, Lines, Arms}
use Rattle.dcc_c.specs.Grammar.{Around, IsStmt, assign, call_alone, call_into, if_alone, if_else, while, do_while, for_ever, switch, break, continue, goto, empty, return_nothing, return_value, IsBlock, block, AreLines, no_more, depth_pragma, label, statement, AreArms, no_arm, case_arm, default_arm}
use Rattle.dcc_c.proofs.reading.Leads.{for_leads, block_leads}
use Rattle.dcc_c.proofs.reading.SimpleComplete.{assign-complete, into-complete, alone-complete}
use Rattle.dcc_c.proofs.reading.LineComplete.{lines_no_word}
use Rattle.dcc_c.proofs.reading.LineFinds.{StmtRead, LinesRead, no_more-complete, depth-complete, label-complete, statement-complete}
use Rattle.dcc_c.proofs.reading.BlockFinds.{BlockRead, block-complete, while-complete, if_alone-complete, if_else-complete, do_while-complete, for-complete, leave-complete, continue-complete, goto-complete, empty-complete, return_nothing-complete, return_value-complete}
use Rattle.dcc_c.proofs.reading.ArmFinds.{ArmsRead, no_arm-complete, case_arm-complete, default_arm-complete, switch-complete, place_stmt, call_stmt, simple-complete}

mutual
  pub stmt_complete : {depth after : ℕ} {around : Around} {tokens rest : List Placed} {s : Stmt} → IsStmt 200 around depth tokens s after rest → StmtRead around depth tokens s after rest
  stmt_complete (assign {around} {depth} {tokens} {rest} {place} {e} to value) =
      simple-complete around depth tokens rest (Assign place e) (λ calls at. place_stmt to calls around at depth) (λ calls at. assign-complete to value calls at depth)
  stmt_complete (call_alone {around} {depth} {tokens} {rest} {function} {arguments} c) =
      simple-complete around depth tokens rest (Call None function arguments depth) (λ calls at. call_stmt c calls around at depth) (λ calls at. alone-complete c calls at depth)
  stmt_complete (call_into {around} {depth} {tokens} {rest} {place} {function} {arguments} to c) =
      simple-complete around depth tokens rest (Call (Some place) function arguments depth) (λ calls at. place_stmt to calls around at depth) (λ calls at. into-complete to c calls at depth)
  stmt_complete (if_alone {around} {depth} {after} {at} {opening} {closing} {tokens} {block} {rest} {e} {body} test inner) =
      if_alone-complete around depth after at opening closing tokens block rest e body test (block_complete inner)
  stmt_complete (if_else {around} {depth} {between} {after} {at} {opening} {closing} {other} {tokens} {block} {second} {rest} {e} {body} {otherwise} test inner more) =
      if_else-complete around depth between after at opening closing other tokens block second rest e body otherwise test (block_leads inner) (block_complete inner) (block_complete more)
  stmt_complete (while {around} {depth} {after} {at} {opening} {closing} {tokens} {block} {rest} {e} {body} test inner) =
      while-complete around depth after at opening closing tokens block rest e body test (block_complete inner)
  stmt_complete (do_while {around} {depth} {after} {at} {again} {opening} {closing} {end} {block} {tokens} {rest} {body} {e} inner test) =
      do_while-complete around depth after at again opening closing end block tokens rest body e (block_leads inner) (block_complete inner) test
  stmt_complete (for_ever {around} {depth} {after} {all} {block} {rest} {body} words inner) =
      for-complete around depth after all block rest body words (for_leads words) (block_complete inner)
  stmt_complete (switch {around} {depth} {after} {at} {opening} {closing} {brace} {end} {tokens} {inside} {rest} {e} {arms} {last} test inner has) =
      switch-complete around depth after at opening closing brace end tokens inside rest e arms last test has inner (arms_complete inner refl)
  stmt_complete (break {around} {depth} {at} {end} {rest} allowed) = leave-complete around depth at end rest allowed
  stmt_complete (continue {around} {depth} {at} {end} {rest} allowed) = continue-complete around depth at end rest allowed
  stmt_complete (goto {around} {depth} {at} {place} {end} {rest} name good) = goto-complete around depth at place end rest name good
  stmt_complete (empty {around} {depth} {end} {rest}) = empty-complete around depth end rest
  stmt_complete (return_nothing {around} {depth} {at} {end} {rest}) = return_nothing-complete around depth at end rest
  stmt_complete (return_value {around} {depth} {at} {end} {tokens} {rest} {e} value) = return_value-complete around depth at end tokens rest e value

  pub block_complete : {depth after : ℕ} {around : Around} {tokens rest : List Placed} {lines : Lines} → IsBlock 200 around depth tokens lines after rest → BlockRead around depth tokens lines after rest
  block_complete (block {around} {depth} {after} {opening} {closing} {tokens} {rest} {lines} inner) =
      block-complete around depth after opening closing tokens rest lines (lines_complete inner)

  pub lines_complete : {depth after : ℕ} {around : Around} {labelled : Bool} {tokens rest : List Placed} {lines : Lines} → AreLines 200 around labelled depth tokens lines after rest → LinesRead around labelled depth tokens lines after rest
  lines_complete (no_more {around} {depth} {rest}) = no_more-complete {around = around} {depth = depth} {rest = rest}
  lines_complete (depth_pragma {around} {depth} {after} {at} {n} {tokens} {rest} {lines} room others) =
      depth-complete around depth after at n tokens rest lines room (lines_complete others)
  lines_complete (label {around} {labelled} {depth} {after} {at} {colon} {tokens} {rest} {lines} name good room others) =
      label-complete around labelled depth after at colon tokens rest lines name good room (lines_complete others)
  lines_complete (statement {around} {labelled} room first others) =
      statement-complete around labelled room first (stmt_complete first) (λ ends. lines_no_word (codes "else") refl others ends) (lines_complete others)

  pub arms_complete : {depth after : ℕ} {around : Around} {tokens rest : List Placed} {arms last : Arms} → AreArms 200 around depth tokens arms last after rest → around.breaks ≡ true → ArmsRead around depth tokens arms last after rest
  arms_complete (no_arm {around} {depth} {rest}) breaks = no_arm-complete around depth rest
  arms_complete (case_arm {around} {depth} {between} {after} {leaves} {end} {all} {tokens} {others} {rest} {cases} {body} {arms} {last} head room inner more) breaks =
      case_arm-complete around depth between after leaves end all tokens others rest cases body arms last breaks head room inner (lines_complete inner) more (arms_complete more breaks)
  arms_complete (default_arm {around} {depth} {between} {after} {at} {colon} {leaves} {end} {tokens} {others} {rest} {body} {arms} {last} room inner more) breaks =
      default_arm-complete around depth between after at colon leaves end tokens others rest body arms last breaks room inner (lines_complete inner) more (arms_complete more breaks)
