-- Statements one after the other: what is read of a depth line, a label, a statement and those after it.
use Rattle.std.proofs.Common.{◌≡◌, ℕ, ◌≤◌, ◌<◌, length, List, ◌∷◌, Bool, true, false, Option, Some, None, refl, sym, ap, ◌∙◌, subst, arith}
use Rattle.std.specs.Prelude.{codes, not, ◌&&◌}
use Rattle.std.specs.List.{list_all}
use Rattle.std.proofs.lemmas.Bool.{and_parts, and_from}
use Rattle.std.proofs.lemmas.List.Folds.{list_all-append}
use Rattle.dcc_c.specs.Token.{Token, WordToken, Decimal, Mark, Pragma, plain_number, depth_line}
use Rattle.dcc_c.specs.Lexing.{Placed, placed}
use Rattle.dcc_c.specs.Tree.{Stmt, Break, Lines, no_lines, line, Label}
use Rattle.dcc_c.specs.Parts.{stmts_in, inner_stmts}
use Rattle.dcc_c.specs.Grammar.{mark, word, is_name, Around, IsStmt, break, AreLines, no_more, depth_pragma, label, statement}
use Rattle.dcc_c.specs.Rules.{shallow_stmt}
use Rattle.dcc_c.specs.Partial.{WordAt, NumberAt, PartialStmt, BreakOf, LabelOf, PartialLines, no_rows, row}
use Rattle.dcc_c.specs.Reading.{Reader, Got, got, line_of, skip}
use Rattle.dcc_c.specs.ReadingStatements.{sees_head, take_number_of_line, set_depth, read_depth, Block, block_of, is_break, before_others, without_last}
use Rattle.dcc_c.specs.Stripped.{plain_stmt, plain_lines}
use Rattle.dcc_c.proofs.reading.Passing.{tokens_of, Took}
use Rattle.dcc_c.proofs.reading.StmtStopping.{set-keeps}
use Rattle.dcc_c.proofs.reading.Steps.{Steps, then_steps, no_steps, token_steps, with_depth, number-sound, sees_head-took}
use Rattle.dcc_c.proofs.reading.SimpleSound.{ReadsStmt, IsShallowStmt}

-- no statement of the block, nor inside one, has an expression that is too deep
abbrev pub IsShallowLines : Lines → Type 0
IsShallowLines lines = list_all (shallow_stmt 200) (stmts_in lines) ≡ true

abbrev pub is_row : PartialLines → Bool
is_row no_rows = false
is_row (row stmt at number rows) = true

-- The last statement is a `break` that no label stands before: it is the one before these, where there are none, or the
-- last of them, and those before it are statements too.
pub data Leaving (around : Around) (labelled leaves : Bool) (r : Reader) (g : Got Block) : Type 0 where
  nothing : g.value.lines ≡ no_rows → leaves ≡ true → g.following ≡ r → Leaving around labelled leaves r g
  last_break : (at end : ℕ) → is_row g.value.lines ≡ true →
      AreLines 200 around labelled r.depth (tokens_of r.left) (plain_lines (without_last g.value.lines)) g.following.depth
      (word at (codes "break") ∷ mark end (codes ";") ∷ tokens_of g.following.left) → Leaving around labelled leaves r g

-- The reader passed statements.
pub record ReadsLines (around : Around) (labelled leaves : Bool) (r : Reader) (g : Got Block) : Type 0 where
  pub steps : Steps 0 0 r g.following
  pub derived : AreLines 200 around labelled r.depth (tokens_of r.left) (plain_lines g.value.lines) g.following.depth (tokens_of g.following.left)
  pub shallow : IsShallowLines (plain_lines g.value.lines)
  pub leaving : g.value.leaves ≡ true → Leaving around labelled leaves r g

abbrev pub SoundLines : Around → Bool → Bool → Reader → Got Block → Type 0
SoundLines around labelled leaves r g = g.following.stop ≡ None → ReadsLines around labelled leaves r g

-- nothing was read
pub no_lines-sound : (around : Around) (leaves : Bool) (r : Reader) → SoundLines around false leaves r (got (block_of no_rows leaves) r)
no_lines-sound around leaves r going =
    record { steps = no_steps r going; derived = no_more; shallow = refl; leaving = λ is. nothing refl is refl }

-- a token in the line of the next piece
pub begins_here : {token : Token} {r following : Reader} → Took token r following → tokens_of r.left ≡ placed (line_of r.left) token ∷ tokens_of following.left
begins_here {token} {r} {following} took = took.begins ∙ ap (λ l. placed l token ∷ tokens_of following.left) took.line_is

-- Depth lines.

-- The reader passed a depth line.
pub record ReadsDepth (r following : Reader) : Type 0 where
  pub steps : Steps 0 0 r following
  pub shorter : length following.left < length r.left
  pub at : ℕ
  pub begins : tokens_of r.left ≡ placed at (Pragma depth_line) ∷ placed at (Decimal following.depth plain_number) ∷ tokens_of following.left

depth_set : (r between : Reader) (value : Option NumberAt) (number : NumberAt) → value ≡ Some number →
    ReadsDepth r (record between { depth = number.value }) → ReadsDepth r (set_depth value between)
depth_set r between value number is read = subst (λ n. ReadsDepth r (set_depth n between)) (sym is) read

pub depth-sound : (r : Reader) → sees_head depth_line r ≡ true → (read_depth r).stop ≡ None → ReadsDepth r (read_depth r)
depth-sound r sees going =
    let took = sees_head-took depth_line r sees in
    let n = take_number_of_line (line_of r.left) (skip r) in
    let seen = number-sound (line_of r.left) (skip r) (set-keeps n.value n.following going) in
    let number = seen.0.took in
    let same : number.line ≡ took.line = number.line_is ∙ (seen.1 ∙ sym took.line_is) in
    depth_set r n.following n.value seen.0.number seen.0.is (record {
      steps = with_depth seen.0.number.value (then_steps (token_steps 0 refl took) (token_steps 0 refl number));
      shorter = omega (arith, took.one_less, number.one_less);
      at = took.line;
      begins = took.begins ∙ ap (λ ts. placed took.line (Pragma depth_line) ∷ ts) (number.begins ∙ ap (λ l. placed l (Decimal seen.0.number.value plain_number) ∷ tokens_of n.following.left) same);
    })

pub depth_then : (around : Around) (leaves : Bool) (r following : Reader) (g : Got Block) → around.blocks ≤ 200 → ReadsDepth r following →
    ReadsLines around false false following g → ReadsLines around false leaves r g
depth_then around leaves r following g room first others =
    record {
      steps = then_steps first.steps others.steps;
      derived = rw first.begins (depth_pragma room others.derived);
      shallow = others.shallow;
      leaving = λ is. after (others.leaving is);
    }
  where
    after : Leaving around false false following g → Leaving around false leaves r g
    after (nothing none is same) = absurd cc
    after (last_break at end some lines) = last_break at end some (rw first.begins (depth_pragma room lines))

-- Labels and statements.

-- all but the last of more than one
without_more : (stmt : PartialStmt) (at number : ℕ) (rows : PartialLines) → is_row rows ≡ true → without_last (row stmt at number rows) ≡ row stmt at number (without_last rows)
without_more stmt at number no_rows some = absurd cc
without_more stmt at number (row next place other rows) some = refl

without_one : (stmt : PartialStmt) (at number : ℕ) (rows : PartialLines) → rows ≡ no_rows → without_last (row stmt at number rows) ≡ no_rows
without_one stmt at number rows none = ap (λ l. without_last (row stmt at number l)) none

pub shallow_line : (stmt : Stmt) (at : ℕ) (lines : Lines) → IsShallowStmt stmt → IsShallowLines lines → IsShallowLines (line stmt at lines)
shallow_line stmt at lines first others = list_all-append (shallow_stmt 200) (stmt ∷ inner_stmts stmt) (stmts_in lines) ∙ and_from _ _ first others

pub label_then : (around : Around) (labelled leaves : Bool) (r between : Reader) (name : WordAt) (others : Got Block) → around.blocks ≤ 200 → is_name name.word ≡ true →
    Took (WordToken name.word) r between → Took (Mark (codes ":")) between (skip between) → ReadsLines around true false (skip between) others →
    ReadsLines around labelled leaves r (before_others (LabelOf name) r.at (line_of r.left) others)
label_then around labelled leaves r between name others room good took colon read =
    record {
      steps = then_steps (token_steps 0 refl took) (then_steps (token_steps 0 refl colon) read.steps);
      derived = build read.derived;
      shallow = read.shallow;
      leaving = λ is. after (read.leaving is);
    }
  where
    steady : (skip between).depth ≡ r.depth
    steady = colon.steady ∙ took.steady

    build : {lines : Lines} {after : ℕ} {rest : List Placed} → AreLines 200 around true (skip between).depth (tokens_of (skip between).left) lines after rest →
        AreLines 200 around labelled r.depth (tokens_of r.left) (line (Label name.word) (line_of r.left) lines) after rest
    build {lines} {after} {rest} derived =
        let same : tokens_of r.left ≡ word (line_of r.left) name.word ∷ mark colon.line (codes ":") ∷ tokens_of (skip between).left = begins_here took ∙ ap (λ ts. word (line_of r.left) name.word ∷ ts) colon.begins in
        rw same (label name.word good room (subst (λ d. AreLines 200 around true d (tokens_of (skip between).left) lines after rest) steady derived))

    after : Leaving around true false (skip between) others → Leaving around labelled leaves r (before_others (LabelOf name) r.at (line_of r.left) others)
    after (nothing none is same) = absurd cc
    after (last_break at end some lines) = last_break at end refl (rw (without_more (LabelOf name) r.at (line_of r.left) others.value.lines some) (build lines))

-- a `break` is two tokens
break_tokens : {around : Around} {depth after : ℕ} {tokens rest : List Placed} {stmt : Stmt} → IsStmt 200 around depth tokens stmt after rest → stmt ≡ Break →
    (at : ℕ) × (end : ℕ) × (tokens ≡ word at (codes "break") ∷ mark end (codes ";") ∷ rest) × (after ≡ depth)
break_tokens (break {at} {end} allowed) is = (at, end, refl, refl)
break_tokens _ is = absurd cc

is_break-is : (stmt : PartialStmt) → is_break stmt ≡ true → stmt ≡ BreakOf
is_break-is BreakOf is = refl
is_break-is _ is = absurd cc

pub stmt_then : (around : Around) (labelled leaves : Bool) (r between : Reader) (token : Token) (stmt : Got PartialStmt) (others : Got Block) → around.blocks ≤ 200 →
    tokens_of r.left ≡ placed (line_of r.left) token ∷ tokens_of between.left → ReadsStmt around r stmt →
    ReadsLines around false (is_break stmt.value && not labelled) stmt.following others →
    ReadsLines around labelled leaves r (before_others stmt.value r.at (line_of r.left) others)
stmt_then around labelled leaves r between token stmt others room begins first read =
    record {
      steps = then_steps first.steps read.steps;
      derived = build read.derived;
      shallow = shallow_line (plain_stmt stmt.value) (line_of r.left) (plain_lines others.value.lines) first.shallow read.shallow;
      leaving = λ is. after (read.leaving is);
    }
  where
    build : {lines : Lines} {after : ℕ} {rest : List Placed} → AreLines 200 around false stmt.following.depth (tokens_of stmt.following.left) lines after rest →
        AreLines 200 around labelled r.depth (tokens_of r.left) (line (plain_stmt stmt.value) (line_of r.left) lines) after rest
    build derived =
        rw begins (statement room (subst (λ ts. IsStmt 200 around r.depth ts (plain_stmt stmt.value) stmt.following.depth (tokens_of stmt.following.left)) begins first.derived) derived)

    only_break : (is : Bool) → labelled ≡ is → is_break stmt.value ≡ true → not is ≡ true → others.value.lines ≡ no_rows → others.following ≡ stmt.following →
        Leaving around labelled leaves r (before_others stmt.value r.at (line_of r.left) others)
    only_break true same is free none stays = absurd cc
    only_break false same is free none stays =
        let found = break_tokens first.derived (ap plain_stmt (is_break-is stmt.value is)) in
        let lines : AreLines 200 around labelled r.depth (tokens_of r.left) no_lines r.depth (tokens_of r.left) = rw same no_more in
        let following : AreLines 200 around labelled r.depth (tokens_of r.left) no_lines stmt.following.depth (word found.0 (codes "break") ∷ mark found.1 (codes ";") ∷ tokens_of stmt.following.left) =
        subst (λ d. AreLines 200 around labelled r.depth (tokens_of r.left) no_lines d (word found.0 (codes "break") ∷ mark found.1 (codes ";") ∷ tokens_of stmt.following.left)) (sym found.3) (subst (λ ts. AreLines 200 around labelled r.depth (tokens_of r.left) no_lines r.depth ts) found.2 lines) in
        last_break found.0 found.1 refl (rw (without_one stmt.value r.at (line_of r.left) others.value.lines none) (subst (λ q. AreLines 200 around labelled r.depth (tokens_of r.left) no_lines q.depth (word found.0 (codes "break") ∷ mark found.1 (codes ";") ∷ tokens_of q.left)) (sym stays) following))

    after : Leaving around false (is_break stmt.value && not labelled) stmt.following others → Leaving around labelled leaves r (before_others stmt.value r.at (line_of r.left) others)
    after (nothing none is same) =
        let parts = and_parts (is_break stmt.value) (not labelled) is in only_break labelled refl parts.0 parts.1 none same
    after (last_break at end some lines) = last_break at end refl (rw (without_more stmt.value r.at (line_of r.left) others.value.lines some) (build lines))
