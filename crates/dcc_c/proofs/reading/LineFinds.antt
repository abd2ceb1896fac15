-- Statements one after the other that the grammar has are read, where each of them is.
use Rattle.std.proofs.Common.{◌≡◌, ℕ, zero, suc, ◌≤◌, List, ◌∷◌, true, false, Bool, Option, Some, None, refl, sym, ap, ◌∙◌, arith, eq-eqb}
use Rattle.std.specs.Prelude.{codes, not, ◌&&◌, ◌==◌, is_some}
use Rattle.std.proofs.lemmas.Bool.{and_parts, and_from, le-ltb}
use Rattle.std.proofs.lemmas.List.Folds.{list_all-append}
use Rattle.dcc_c.specs.Token.{Token, WordToken, Decimal, Mark, Pragma, plain_number, depth_line}
use Rattle.dcc_c.specs.Lexing.{Placed, placed}
use Rattle.dcc_c.specs.Tree.{Word, Stmt, Label, Lines, no_lines, line}
use Rattle.dcc_c.specs.Parts.{stmts_in, inner_stmts}
use Rattle.dcc_c.specs.Grammar.{mark, word, is_name, Around, IsStmt}
use Rattle.dcc_c.specs.Rules.{shallow_stmt, most_open}
use Rattle.dcc_c.specs.Partial.{WordAt, NumberAt, PartialStmt, BreakOf, LabelOf, PartialLines, no_rows, row}
use Rattle.dcc_c.specs.Reading.{Reader, Got, got, next_token, skip, is_the_word}
use Rattle.dcc_c.specs.ReadingStatements.{begins_stmt, begins_label, sees_head, take_number_of_line, set_depth, read_depth, Block, block_of, is_break, before_others, without_last, is_nested, stop_if_nested, is_block_word, read_leave, read_stmt, read_lines, read_line}
use Rattle.dcc_c.specs.Stripped.{plain_lines}
use Rattle.dcc_c.proofs.reading.Statements.{IsEnoughFor, on, first_of}
use Rattle.dcc_c.proofs.reading.Stopping.{if-true, if-false}
use Rattle.dcc_c.proofs.reading.SimpleSound.{IsShallowStmt}
use Rattle.dcc_c.proofs.reading.LineSound.{IsShallowLines}
use Rattle.dcc_c.proofs.reading.Derivations.{flat_after}
use Rattle.dcc_c.proofs.reading.Leads.{stmt_leads}
use Rattle.dcc_c.proofs.reading.PartsComplete.{take_name-is}
use Rattle.dcc_c.proofs.reading.SimpleComplete.{FindsStmt}
use Rattle.dcc_c.proofs.reading.LineComplete.{name_begins, stmt_begins, stmt_no_head, stmt_no_label}

-- rows, and others after them
abbrev pub joined_rows : PartialLines → PartialLines → PartialLines
joined_rows no_rows others = others
joined_rows (row stmt at number rows) others = row stmt at number (joined_rows rows others)

abbrev pub rows_before : PartialLines → Got Block → Got Block
rows_before rows others = got (block_of (joined_rows rows others.value.lines) others.value.leaves) others.following

pub joined_none : (rows : PartialLines) → joined_rows rows no_rows ≡ rows
joined_none no_rows = refl
joined_none (row stmt at number rows) = ap (row stmt at number) (joined_none rows)

-- all but the last one
pub without_joined : (rows : PartialLines) (stmt : PartialStmt) (at number : ℕ) → without_last (joined_rows rows (row stmt at number no_rows)) ≡ rows
without_joined no_rows stmt at number = refl
without_joined (row first place other no_rows) stmt at number = refl
without_joined (row first place other (row next p l rows)) stmt at number = ap (row first place other) (without_joined (row next p l rows) stmt at number)

-- The statements were read, and reading goes on with the rest.
pub record FindsLines (around : Around) (lines : Lines) (after : ℕ) (rest : List Placed) (g : Got Block) : Type 0 where
  pub partial : PartialLines
  pub following : ℕ
  pub calls : ℕ
  pub leaves : Bool
  pub enough : IsEnoughFor calls 3 rest
  pub same : plain_lines partial ≡ lines
  pub is : g ≡ rows_before partial (read_lines calls around false leaves (on rest following after))

-- what is to be read of a statement, and of statements
abbrev pub StmtRead : Around → ℕ → List Placed → Stmt → ℕ → List Placed → Type 0
StmtRead around depth tokens s after rest =
    (calls at : ℕ) → IsEnoughFor calls 1 tokens → most_open 0 tokens ≤ 200 → IsShallowStmt s → is_the_word (codes "else") (first_of rest) ≡ false →
    FindsStmt s after rest (read_stmt calls around (on tokens at depth))

abbrev pub LinesRead : Around → Bool → ℕ → List Placed → Lines → ℕ → List Placed → Type 0
LinesRead around labelled depth tokens lines after rest =
    (calls at : ℕ) (leaves : Bool) → IsEnoughFor calls 3 tokens → most_open 0 tokens ≤ 200 → IsShallowLines lines → is_the_word (codes "else") (first_of rest) ≡ false →
    FindsLines around lines after rest (read_lines calls around labelled leaves (on tokens at depth))

pub no_more-complete : {around : Around} {depth : ℕ} {rest : List Placed} → LinesRead around false depth rest no_lines depth rest
no_more-complete calls at leaves enough few deep ends =
    record { partial = no_rows; following = at; calls = calls; leaves = leaves; enough = enough; same = refl; is = refl }

-- there is room for a statement
not_nested : (around : Around) → around.blocks ≤ 200 → is_nested around ≡ false
not_nested around room = le-ltb 200 around.blocks room

nested_room : (around : Around) (at : ℕ) (r : Reader) → around.blocks ≤ 200 → stop_if_nested around at r ≡ r
nested_room around at r room = if-false (is_nested around) _ _ (not_nested around room)

line_begins : (calls : ℕ) (around : Around) (labelled leaves : Bool) (r : Reader) → begins_stmt (next_token r) ≡ true →
    read_lines (suc calls) around labelled leaves r ≡ read_line calls around labelled r
line_begins calls around labelled leaves r begins = if-true (begins_stmt (next_token r)) _ _ begins

-- A depth line.

pub number_of_line-is : (number n at depth : ℕ) (rest : List Placed) →
    take_number_of_line number (on (placed number (Decimal n plain_number) ∷ rest) at depth) ≡ got (Some (record { value = n; at = at })) (on rest (suc at) depth)
number_of_line-is number n at depth rest = if-true (number == number) _ _ (eq-eqb number number refl)

depth-is : (number n at depth : ℕ) (rest : List Placed) →
    read_depth (on (placed number (Pragma depth_line) ∷ placed number (Decimal n plain_number) ∷ rest) at depth) ≡ on rest (suc (suc at)) n
depth-is number n at depth rest = ap (λ (g : Got (Option NumberAt)). set_depth g.value g.following) (number_of_line-is number n (suc at) depth rest)

pub depth-complete : (around : Around) (depth after number n : ℕ) (tokens rest : List Placed) (lines : Lines) → around.blocks ≤ 200 → LinesRead around false n tokens lines after rest →
    LinesRead around false depth (placed number (Pragma depth_line) ∷ placed number (Decimal n plain_number) ∷ tokens) lines after rest
depth-complete around depth after number n tokens rest lines room others zero at leaves enough few deep ends = absurd (omega arith)
depth-complete around depth after number n tokens rest lines room others (suc zero) at leaves enough few deep ends = absurd (omega arith)
depth-complete around depth after number n tokens rest lines room others (suc (suc calls)) at leaves enough few deep ends =
    let r : Reader = on (placed number (Pragma depth_line) ∷ placed number (Decimal n plain_number) ∷ tokens) at depth in
    let within : most_open 0 tokens ≤ 200 = flat_after (Decimal n plain_number) 0 number tokens refl (flat_after (Pragma depth_line) 0 number (placed number (Decimal n plain_number) ∷ tokens) refl few) in
    let found = others calls (suc (suc at)) false (omega arith) within deep ends in
    record {
      partial = found.partial;
      following = found.following;
      calls = found.calls;
      leaves = found.leaves;
      enough = found.enough;
      same = found.same;
      is = line_begins (suc calls) around false leaves r refl
          ∙ (if-false (is_nested around) _ _ (not_nested around room)
          ∙ (ap (λ q. read_lines calls around false false q) (depth-is number n at depth tokens) ∙ found.is));
    }

-- A label.

label_rest : ℕ → Around → ℕ → ℕ → Got (Option WordAt) → Got Block
label_rest calls around at number name = elim name.value [
  | Some found ↦ before_others (LabelOf found) at number (read_lines calls around true false (stop_if_nested around at (skip name.following)))
  | None ↦ got (block_of no_rows false) name.following
]

pub label-complete : (around : Around) (labelled : Bool) (depth after number colon : ℕ) (tokens rest : List Placed) (lines : Lines) (name : Word) → is_name name ≡ true → around.blocks ≤ 200 →
    LinesRead around true depth tokens lines after rest → LinesRead around labelled depth (word number name ∷ mark colon (codes ":") ∷ tokens) (line (Label name) number lines) after rest
unfolding label_rest
label-complete around labelled depth after number colon tokens rest lines name good room others zero at leaves enough few deep ends = absurd (omega arith)
label-complete around labelled depth after number colon tokens rest lines name good room others (suc zero) at leaves enough few deep ends = absurd (omega arith)
label-complete around labelled depth after number colon tokens rest lines name good room others (suc (suc calls)) at leaves enough few deep ends =
    let r : Reader = on (word number name ∷ mark colon (codes ":") ∷ tokens) at depth in
    let within : most_open 0 tokens ≤ 200 = flat_after (Mark (codes ":")) 0 colon tokens refl (flat_after (WordToken name) 0 number (mark colon (codes ":") ∷ tokens) refl few) in
    let found = others calls (suc (suc at)) false (omega arith) within deep ends in
    let begins : begins_label r ≡ true = and_from _ _ (ap is_some (if-true (is_name name) (Some name) None good)) refl in
    record {
      partial = row (LabelOf (record { word = name; at = at })) at number found.partial;
      following = found.following;
      calls = found.calls;
      leaves = found.leaves;
      enough = found.enough;
      same = ap (line (Label name) number) found.same;
      is = line_begins (suc calls) around labelled leaves r (name_begins name good)
          ∙ (if-true (begins_label r) _ _ begins
          ∙ (ap (label_rest calls around at number) (take_name-is number at depth name (mark colon (codes ":") ∷ tokens) good)
          ∙ (ap (λ q. before_others (LabelOf (record { word = name; at = at })) at number (read_lines calls around true false q)) (nested_room around at (on tokens (suc (suc at)) depth) room)
          ∙ ap (before_others (LabelOf (record { word = name; at = at })) at number) found.is)));
    }

-- A statement.

shallow_parts : (s : Stmt) (at : ℕ) (lines : Lines) → IsShallowLines (line s at lines) → IsShallowStmt s × IsShallowLines lines
shallow_parts s at lines deep =
    and_parts _ _ (sym (list_all-append (shallow_stmt 200) (s ∷ inner_stmts s) (stmts_in lines)) ∙ deep)

pub statement-complete : (around : Around) (labelled : Bool) {depth between after number : ℕ} {token : Token} {tokens others rest : List Placed} {s : Stmt} {lines : Lines} → around.blocks ≤ 200 →
    IsStmt 200 around depth (placed number token ∷ tokens) s between others → StmtRead around depth (placed number token ∷ tokens) s between others →
    (is_the_word (codes "else") (first_of rest) ≡ false → is_the_word (codes "else") (first_of others) ≡ false) → LinesRead around false between others lines after rest →
    LinesRead around labelled depth (placed number token ∷ tokens) (line s number lines) after rest
statement-complete around labelled room derived first no_else following zero at leaves enough few deep ends = absurd (omega arith)
statement-complete around labelled room derived first no_else following (suc zero) at leaves enough few deep ends = absurd (omega arith)
statement-complete around labelled {depth} {between} {after} {number} {token} {tokens} {others} {rest} {s} {lines} room derived first no_else following (suc (suc calls)) at leaves enough few deep ends =
    let r : Reader = on (placed number token ∷ tokens) at depth in
    let leads = stmt_leads derived in
    let parts = shallow_parts s number lines deep in
    let p = first calls at (omega arith) few parts.0 (no_else ends) in
    let q = following calls p.following (is_break p.partial && not labelled) (omega (arith, leads.less)) (leads.enclosed few) parts.1 ends in
    record {
      partial = row p.partial at number q.partial;
      following = q.following;
      calls = q.calls;
      leaves = q.leaves;
      enough = q.enough;
      same = ap (λ x. line x number (plain_lines q.partial)) p.same ∙ ap (line s number) q.same;
      is = line_begins (suc calls) around labelled leaves r (stmt_begins derived)
          ∙ (if-false (sees_head depth_line r) _ _ (stmt_no_head derived)
          ∙ (if-false (begins_label r) _ _ (stmt_no_label derived at depth)
          ∙ (if-false (is_nested around && is_block_word (Some token)) _ _ (ap (λ b. b && is_block_word (Some token)) (not_nested around room))
          ∙ (ap (λ (g : Got PartialStmt). before_others g.value at number (read_lines calls around false (is_break g.value && not labelled) (stop_if_nested around at g.following))) p.is
          ∙ (ap (λ o. before_others p.partial at number (read_lines calls around false (is_break p.partial && not labelled) o)) (nested_room around at (on others p.following between) room)
          ∙ ap (before_others p.partial at number) q.is)))));
    }

-- The end of an arm.

pub break-complete : (calls : ℕ) (around : Around) (leaves : Bool) (number end at depth : ℕ) (others : List Placed) → around.blocks ≤ 200 → around.breaks ≡ true → begins_stmt (first_of others) ≡ false →
    read_lines (suc (suc (suc calls))) around false leaves (on (word number (codes "break") ∷ mark end (codes ";") ∷ others) at depth)
    ≡ got (block_of (row BreakOf at number no_rows) true) (on others (suc (suc at)) depth)
break-complete calls around leaves number end at depth others room breaks ends =
    let r : Reader = on (word number (codes "break") ∷ mark end (codes ";") ∷ others) at depth in
    let stmt : Bool → Got PartialStmt = λ b. read_leave b BreakOf r in
    line_begins (suc (suc calls)) around false leaves r refl
    ∙ (if-false (is_nested around && false) _ _ (ap (λ b. b && false) (not_nested around room))
    ∙ (ap (λ b. before_others (stmt b).value at number (read_lines (suc calls) around false (is_break (stmt b).value && true) (stop_if_nested around at (stmt b).following))) breaks
    ∙ (ap (λ q. before_others BreakOf at number (read_lines (suc calls) around false true q)) (nested_room around at (on others (suc (suc at)) depth) room)
    ∙ ap (before_others BreakOf at number) (if-false (begins_stmt (first_of others)) _ _ ends))))
