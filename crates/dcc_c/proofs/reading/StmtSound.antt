-- What reading statements with blocks makes of their parts is what the grammar says.
use Rattle.std.proofs.Common.{◌≡◌, ℕ, zero, ◌<◌, length, [], ◌∷◌, Bool, true, false, None, refl, sym, ap, ◌∙◌, subst, arith}
use Rattle.std.specs.Prelude.{codes, ◌||◌}
use Rattle.std.specs.List.{list_all}
use Rattle.std.proofs.lemmas.Bool.{and_from, le-leb}
use Rattle.std.proofs.lemmas.List.Folds.{list_all-append}
use Rattle.dcc_c.specs.Token.{WordToken, Mark}
use Rattle.dcc_c.specs.Tree.{Arms}
use Rattle.dcc_c.specs.Parts.{stmts_in, arm_stmts}
use Rattle.dcc_c.specs.Grammar.{mark, word, IsExpr, Around, in_block, in_loop, in_switch, if_alone, if_else, while, do_while, for_ever, switch, IsBlock, block, AreLines, AreArms, has_arm, Begins, none, one}
use Rattle.dcc_c.specs.Rules.{expr_depth, shallow_stmt}
use Rattle.dcc_c.specs.Partial.{PartialExpr, ForeverOf, PartialLines, no_rows, PartialArms}
use Rattle.dcc_c.specs.Reading.{Reader, Got, got, next_token, skip, take_mark, take_word}
use Rattle.dcc_c.specs.ReadingStatements.{begins_stmt, begins_arm, Block, end_block, while_of, if_of, do_while_of, switch_of, read_stmt, read_if, read_block, read_lines, read_line, read_arms, read_more_arms}
use Rattle.dcc_c.specs.Stripped.{plain_expr, plain_lines, case_arms, default_arms}
use Rattle.dcc_c.proofs.reading.Passing.{tokens_of, Took}
use Rattle.dcc_c.proofs.reading.Statements.{IsEnough}
use Rattle.dcc_c.proofs.reading.Steps.{Steps, then_steps, token_steps, opening_steps, closing_steps}
use Rattle.dcc_c.proofs.reading.StmtParts.{ReadsTest}
use Rattle.dcc_c.proofs.reading.SimpleSound.{ReadsStmt, SoundStmt}
use Rattle.dcc_c.proofs.reading.LineSound.{IsShallowLines, ReadsLines, SoundLines}

-- The reader passed a block.
pub record ReadsBlock (around : Around) (r : Reader) (g : Got PartialLines) : Type 0 where
  pub steps : Steps 0 0 r g.following
  pub shorter : length g.following.left < length r.left
  pub derived : IsBlock 200 around r.depth (tokens_of r.left) (plain_lines g.value) g.following.depth (tokens_of g.following.left)
  pub shallow : IsShallowLines (plain_lines g.value)

abbrev pub SoundBlock : Around → Reader → Got PartialLines → Type 0
SoundBlock around r g = g.following.stop ≡ None → ReadsBlock around r g

-- The reader passed a block after another start, where the depth of calls is the same.
pub block_from : {around : Around} {depth : ℕ} {r : Reader} {g : Got PartialLines} → r.depth ≡ depth → ReadsBlock around r g →
    IsBlock 200 around depth (tokens_of r.left) (plain_lines g.value) g.following.depth (tokens_of g.following.left)
block_from {around} {depth} {r} {g} steady read =
    subst (λ d. IsBlock 200 around d (tokens_of r.left) (plain_lines g.value) g.following.depth (tokens_of g.following.left)) steady read.derived

abbrev pub IsShallowArms : Arms → Type 0
IsShallowArms arms = list_all (shallow_stmt 200) (arm_stmts arms) ≡ true

-- The reader passed arms.
pub record ReadsArms (around : Around) (r : Reader) (g : Got PartialArms) : Type 0 where
  pub steps : Steps 0 0 r g.following
  pub derived : AreArms 200 around r.depth (tokens_of r.left) (case_arms g.value) (default_arms g.value) g.following.depth (tokens_of g.following.left)
  pub shallow : IsShallowArms (case_arms g.value)
  pub shallow_last : IsShallowArms (default_arms g.value)
  pub has : begins_arm r ≡ true → (has_arm (case_arms g.value) || has_arm (default_arms g.value)) ≡ true

abbrev pub SoundArms : Around → Reader → Got PartialArms → Type 0
SoundArms around r g = g.following.stop ≡ None → ReadsArms around r g

-- reading statements with so many calls is sound
pub record SoundStmts (calls : ℕ) : Type 0 where
  pub stmt : (around : Around) (r : Reader) → IsEnough calls 1 r.left → SoundStmt around r (read_stmt calls around r)
  pub otherwise : (around : Around) (start r : Reader) (test : Got PartialExpr) → Took (WordToken (codes "if")) start r →
      (test.following.stop ≡ None → ReadsTest r test) → (test.following.stop ≡ None → IsEnough calls 2 test.following.left) →
      SoundStmt around start (read_if calls around test)
  pub block : (around : Around) (r : Reader) → IsEnough calls 1 r.left → SoundBlock around r (read_block calls around r)
  pub lines : (around : Around) (labelled leaves : Bool) (r : Reader) → IsEnough calls 3 r.left → SoundLines around labelled leaves r (read_lines calls around labelled leaves r)
  pub line : (around : Around) (labelled leaves : Bool) (r : Reader) → begins_stmt (next_token r) ≡ true → IsEnough calls 2 r.left →
      SoundLines around labelled leaves r (read_line calls around labelled r)
  pub arms : (around : Around) (r : Reader) → IsEnough calls 2 r.left →
      (read_arms calls around r).following.stop ≡ None → ReadsArms around r (read_arms calls around r) × (begins_arm r ≡ true)
  pub more_arms : (around : Around) (r : Reader) → IsEnough calls 1 r.left → SoundArms around r (read_more_arms calls around r)

pub none-sound : SoundStmts zero
none-sound =
    record {
      stmt = λ around r enough. absurd (omega arith);
      otherwise = λ around start r test took read enough going. absurd (omega (arith, enough going));
      block = λ around r enough. absurd (omega arith);
      lines = λ around labelled leaves r enough. absurd (omega arith);
      line = λ around labelled leaves r begins enough. absurd (omega arith);
      arms = λ around r enough. absurd (omega arith);
      more_arms = λ around r enough. absurd (omega arith);
    }

-- Statements with blocks.

pub while-sound : (around : Around) (r : Reader) (test : Got PartialExpr) (body : Got PartialLines) → Took (WordToken (codes "while")) r (skip r) →
    ReadsTest (skip r) test → ReadsBlock (in_loop around) test.following body → ReadsStmt around r (while_of test body)
while-sound around r test body took read inner =
    let steady : test.following.depth ≡ r.depth = read.steady ∙ took.steady in
    record {
      steps = then_steps (token_steps 0 refl took) (then_steps read.steps inner.steps);
      shorter = omega (arith, took.one_less, read.shorter, inner.shorter);
      derived = rw (took.begins, read.begins) (while read.derived (block_from steady inner));
      shallow = rw (le-leb (expr_depth (plain_expr test.value)) 200 read.deep) inner.shallow;
    }

pub if_alone-sound : (around : Around) (start r : Reader) (test : Got PartialExpr) (body : Got PartialLines) → Took (WordToken (codes "if")) start r →
    ReadsTest r test → ReadsBlock (in_block around) test.following body → ReadsStmt around start (if_of test body.value (got no_rows body.following))
if_alone-sound around start r test body took read inner =
    let steady : test.following.depth ≡ start.depth = read.steady ∙ took.steady in
    record {
      steps = then_steps (token_steps 0 refl took) (then_steps read.steps inner.steps);
      shorter = omega (arith, took.one_less, read.shorter, inner.shorter);
      derived = rw (took.begins, read.begins) (if_alone read.derived (block_from steady inner));
      shallow = rw (le-leb (expr_depth (plain_expr test.value)) 200 read.deep) (list_all-append (shallow_stmt 200) (stmts_in (plain_lines body.value)) [] ∙ and_from _ true inner.shallow refl);
    }

pub if_else-sound : (around : Around) (start r : Reader) (test : Got PartialExpr) (body other : Got PartialLines) → Took (WordToken (codes "if")) start r →
    ReadsTest r test → ReadsBlock (in_block around) test.following body → Took (WordToken (codes "else")) body.following (skip body.following) →
    ReadsBlock (in_block around) (skip body.following) other → ReadsStmt around start (if_of test body.value other)
if_else-sound around start r test body other took read inner between second =
    let steady : test.following.depth ≡ start.depth = read.steady ∙ took.steady in
    record {
      steps = then_steps (token_steps 0 refl took) (then_steps read.steps (then_steps inner.steps (then_steps (token_steps 0 refl between) second.steps)));
      shorter = omega (arith, took.one_less, read.shorter, inner.shorter, between.one_less, second.shorter);
      derived = rw (took.begins, read.begins) (if_else read.derived (subst (λ ts. IsBlock 200 (in_block around) start.depth (tokens_of test.following.left) (plain_lines body.value) body.following.depth ts) between.begins (block_from steady inner)) second.derived);
      shallow = rw (le-leb (expr_depth (plain_expr test.value)) 200 read.deep) (list_all-append (shallow_stmt 200) (stmts_in (plain_lines body.value)) (stmts_in (plain_lines other.value)) ∙ and_from _ _ inner.shallow second.shallow);
    }

pub do_while-sound : (around : Around) (r : Reader) (body : Got PartialLines) (test : Got PartialExpr) → Took (WordToken (codes "do")) r (skip r) →
    ReadsBlock (in_loop around) (skip r) body → Took (WordToken (codes "while")) body.following (take_word (codes "while") body.following) →
    ReadsTest (take_word (codes "while") body.following) test → Took (Mark (codes ";")) test.following (take_mark (codes ";") test.following) →
    ReadsStmt around r (do_while_of body test)
do_while-sound around r body test took inner again read end =
    let here = take_word (codes "while") body.following in
    let steady : (take_mark (codes ";") test.following).depth ≡ body.following.depth = end.steady ∙ (read.steady ∙ again.steady) in
    let lines : IsBlock 200 (in_loop around) r.depth (tokens_of (skip r).left) (plain_lines body.value) (take_mark (codes ";") test.following).depth (word again.line (codes "while") ∷ mark read.opening (codes "(") ∷ read.tokens) =
    subst (λ ts. IsBlock 200 (in_loop around) r.depth (tokens_of (skip r).left) (plain_lines body.value) (take_mark (codes ";") test.following).depth ts) (again.begins ∙ ap (λ ts. word again.line (codes "while") ∷ ts) read.begins) (subst (λ d. IsBlock 200 (in_loop around) r.depth (tokens_of (skip r).left) (plain_lines body.value) d (tokens_of body.following.left)) (sym steady) (block_from took.steady inner)) in
    let condition : IsExpr 0 read.tokens (plain_expr test.value) (mark read.closing (codes ")") ∷ mark end.line (codes ";") ∷ tokens_of (take_mark (codes ";") test.following).left) =
    subst (λ ts. IsExpr 0 read.tokens (plain_expr test.value) (mark read.closing (codes ")") ∷ ts)) end.begins read.derived in
    record {
      steps = then_steps (token_steps 0 refl took) (then_steps inner.steps (then_steps (token_steps 0 refl again) (then_steps read.steps (token_steps 0 refl end))));
      shorter = omega (arith, took.one_less, inner.shorter, again.one_less, read.shorter, end.one_less);
      derived = rw took.begins (do_while lines condition);
      shallow = rw (le-leb (expr_depth (plain_expr test.value)) 200 read.deep) inner.shallow;
    }

pub for-sound : (around : Around) (r a b c d : Reader) (body : Got PartialLines) → Took (WordToken (codes "for")) r (skip r) →
    Took (Mark (codes "(")) (skip r) a → Took (Mark (codes ";")) a b → Took (Mark (codes ";")) b c → Took (Mark (codes ")")) c d →
    ReadsBlock (in_loop around) d body → ReadsStmt around r (got (ForeverOf body.value) body.following)
for-sound around r a b c d body took begun first second close inner =
    let steady : d.depth ≡ r.depth = close.steady ∙ (second.steady ∙ (first.steady ∙ (begun.steady ∙ took.steady))) in
    let words : Begins (tokens_of r.left) (WordToken (codes "for") ∷ Mark (codes "(") ∷ Mark (codes ";") ∷ Mark (codes ";") ∷ Mark (codes ")") ∷ []) (tokens_of d.left) =
    rw (took.begins, begun.begins, first.begins, second.begins, close.begins) (one (one (one (one (one none))))) in
    record {
      steps = then_steps (token_steps 0 refl took) (then_steps (opening_steps 0 begun) (then_steps (token_steps 1 refl first) (then_steps (token_steps 1 refl second) (then_steps (closing_steps 0 (omega arith) close) inner.steps))));
      shorter = omega (arith, took.one_less, begun.one_less, first.one_less, second.one_less, close.one_less, inner.shorter);
      derived = for_ever words (block_from steady inner);
      shallow = inner.shallow;
    }

pub switch-sound : (around : Around) (r : Reader) (test : Got PartialExpr) (arms : Got PartialArms) → Took (WordToken (codes "switch")) r (skip r) →
    ReadsTest (skip r) test → Took (Mark (codes "{")) test.following (take_mark (codes "{") test.following) →
    ReadsArms (in_switch around) (take_mark (codes "{") test.following) arms → begins_arm (take_mark (codes "{") test.following) ≡ true →
    Took (Mark (codes "}")) arms.following (take_mark (codes "}") arms.following) → ReadsStmt around r (switch_of test arms)
switch-sound around r test arms took read brace inner begins end =
    let inside = take_mark (codes "{") test.following in
    let following = take_mark (codes "}") arms.following in
    let steady : inside.depth ≡ r.depth = brace.steady ∙ (read.steady ∙ took.steady) in
    let condition : IsExpr 0 read.tokens (plain_expr test.value) (mark read.closing (codes ")") ∷ mark brace.line (codes "{") ∷ tokens_of inside.left) =
    subst (λ ts. IsExpr 0 read.tokens (plain_expr test.value) (mark read.closing (codes ")") ∷ ts)) brace.begins read.derived in
    let from : AreArms 200 (in_switch around) r.depth (tokens_of inside.left) (case_arms arms.value) (default_arms arms.value) arms.following.depth (tokens_of arms.following.left) =
    subst (λ d. AreArms 200 (in_switch around) d (tokens_of inside.left) (case_arms arms.value) (default_arms arms.value) arms.following.depth (tokens_of arms.following.left)) steady inner.derived in
    let to : AreArms 200 (in_switch around) r.depth (tokens_of inside.left) (case_arms arms.value) (default_arms arms.value) following.depth (mark end.line (codes "}") ∷ tokens_of following.left) =
    subst (λ ts. AreArms 200 (in_switch around) r.depth (tokens_of inside.left) (case_arms arms.value) (default_arms arms.value) following.depth ts) end.begins (subst (λ d. AreArms 200 (in_switch around) r.depth (tokens_of inside.left) (case_arms arms.value) (default_arms arms.value) d (tokens_of arms.following.left)) (sym end.steady) from) in
    record {
      steps = then_steps (token_steps 0 refl took) (then_steps read.steps (then_steps (token_steps 0 refl brace) (then_steps inner.steps (token_steps 0 refl end))));
      shorter = omega (arith, took.one_less, read.shorter, brace.one_less, inner.steps.passed.fewer, end.one_less);
      derived = rw (took.begins, read.begins) (switch condition to (inner.has begins));
      shallow = rw (le-leb (expr_depth (plain_expr test.value)) 200 read.deep) (list_all-append (shallow_stmt 200) (arm_stmts (case_arms arms.value)) (arm_stmts (default_arms arms.value)) ∙ and_from _ _ inner.shallow inner.shallow_last);
    }

pub block-sound : (around : Around) (r inside : Reader) (lines : Got Block) → Took (Mark (codes "{")) r inside → ReadsLines around false false inside lines →
    Took (Mark (codes "}")) lines.following (take_mark (codes "}") lines.following) → ReadsBlock around r (end_block lines)
block-sound around r inside lines begun read end =
    let following = take_mark (codes "}") lines.following in
    let to : AreLines 200 around false r.depth (tokens_of inside.left) (plain_lines lines.value.lines) following.depth (mark end.line (codes "}") ∷ tokens_of following.left) =
    subst (λ d. AreLines 200 around false d (tokens_of inside.left) (plain_lines lines.value.lines) following.depth (mark end.line (codes "}") ∷ tokens_of following.left)) begun.steady
    (subst (λ d. AreLines 200 around false inside.depth (tokens_of inside.left) (plain_lines lines.value.lines) d (mark end.line (codes "}") ∷ tokens_of following.left)) (sym end.steady)
    (subst (λ ts. AreLines 200 around false inside.depth (tokens_of inside.left) (plain_lines lines.value.lines) lines.following.depth ts) end.begins read.derived)) in
    record {
      steps = then_steps (token_steps 0 refl begun) (then_steps read.steps (token_steps 0 refl end));
      shorter = omega (arith, begun.one_less, read.steps.passed.fewer, end.one_less);
      derived = rw begun.begins (block to);
      shallow = read.shallow;
    }
