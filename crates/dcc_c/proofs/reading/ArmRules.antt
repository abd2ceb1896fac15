-- What is read of an arm is one.
use Rattle.std.proofs.Common.{◌≡◌, ℕ, ◌≤◌, ◌<◌, length, List, ◌∷◌, ◌++◌, Bool, true, false, None, refl, sym, ◌∙◌, subst, arith, inl, inr}
use Rattle.std.specs.Prelude.{codes, ◌||◌}
use Rattle.std.specs.List.{list_all}
use Rattle.std.proofs.lemmas.Bool.{and_parts, and_from, or_right, or_cases}
use Rattle.std.proofs.lemmas.List.Folds.{list_all-append}
use Rattle.dcc_c.specs.Lexing.{Placed}
use Rattle.dcc_c.specs.Tree.{Lines, no_lines, Arms}
use Rattle.dcc_c.specs.Parts.{stmts_in, inner_stmts, arm_stmts}
use Rattle.dcc_c.specs.Grammar.{mark, word, Around, AreLines, no_more, depth_pragma, label, statement, AreArms, case_arm, default_arm, has_arm}
use Rattle.dcc_c.specs.Rules.{shallow_stmt}
use Rattle.dcc_c.specs.Partial.{PartialLines, no_rows, row, PartialArms, cases}
use Rattle.dcc_c.specs.Reading.{Reader, Got, got, skip, sees_word, take_mark}
use Rattle.dcc_c.specs.ReadingStatements.{begins_arm, Block, without_last, ArmHead, read_arm_head, read_cases}
use Rattle.dcc_c.specs.Stripped.{plain_stmt, plain_lines, case_arms, default_arms}
use Rattle.dcc_c.proofs.reading.Passing.{tokens_of, if-cases, sees_word-took, take_mark-took}
use Rattle.dcc_c.proofs.reading.Statements.{IsEnough}
use Rattle.dcc_c.proofs.reading.Steps.{Steps, then_steps, token_steps}
use Rattle.dcc_c.proofs.reading.LineSound.{IsShallowLines, is_row, Leaving, nothing, last_break, ReadsLines, shallow_line}
use Rattle.dcc_c.proofs.reading.ArmSound.{cases-sound}
use Rattle.dcc_c.proofs.reading.StmtSound.{IsShallowArms, ReadsArms}

-- Arms.

-- The reader passed the head of an arm: what the arm is, with its body and the arms after it.
pub record ReadsHead (around : Around) (r : Reader) (head : Got ArmHead) : Type 0 where
  pub steps : Steps 0 0 r head.following
  pub shorter : length head.following.left < length r.left
  pub arm : (body : PartialLines) (others : PartialArms) (between after leaves end : ℕ) (tokens rest : List Placed) → around.blocks ≤ 200 →
      AreLines 200 around false head.following.depth (tokens_of head.following.left) (plain_lines body) between (word leaves (codes "break") ∷ mark end (codes ";") ∷ tokens) →
      AreArms 200 around between tokens (case_arms others) (default_arms others) after rest →
      AreArms 200 around r.depth (tokens_of r.left) (case_arms (cases head.value.numbers head.value.default body others)) (default_arms (cases head.value.numbers head.value.default body others)) after rest
  pub shallow : (body : PartialLines) (others : PartialArms) → IsShallowLines (plain_lines body) → IsShallowArms (case_arms others) → IsShallowArms (default_arms others) →
      IsShallowArms (case_arms (cases head.value.numbers head.value.default body others)) × IsShallowArms (default_arms (cases head.value.numbers head.value.default body others))
  pub has : (body : PartialLines) (others : PartialArms) → (has_arm (case_arms (cases head.value.numbers head.value.default body others)) || has_arm (default_arms (cases head.value.numbers head.value.default body others))) ≡ true

shallow_arm : (body : PartialLines) (arms : Arms) → IsShallowLines (plain_lines body) → IsShallowArms arms → list_all (shallow_stmt 200) (stmts_in (plain_lines body) ++ arm_stmts arms) ≡ true
shallow_arm body arms first others = list_all-append (shallow_stmt 200) (stmts_in (plain_lines body)) (arm_stmts arms) ∙ and_from _ _ first others

pub head-sound : (around : Around) (calls : ℕ) (r : Reader) → begins_arm r ≡ true → IsEnough calls 0 r.left → (read_arm_head calls r).following.stop ≡ None → ReadsHead around r (read_arm_head calls r)
head-sound around calls r begins enough =
    if-cases (λ head. head.following.stop ≡ None → ReadsHead around r head) (sees_word (codes "default") r)
    (λ sees going.
    let took = sees_word-took (codes "default") r sees in
    let colon = take_mark-took (codes ":") (skip r) going in
    let following = take_mark (codes ":") (skip r) in
    let steady : following.depth ≡ r.depth = colon.steady ∙ took.steady in
    record {
      steps = then_steps (token_steps 0 refl took) (token_steps 0 refl colon);
      shorter = omega (arith, took.one_less, colon.one_less);
      arm = λ body others between after leaves end tokens rest room lines arms.
          rw (took.begins, colon.begins) (default_arm room (subst (λ d. AreLines 200 around false d (tokens_of following.left) (plain_lines body) between (word leaves (codes "break") ∷ mark end (codes ";") ∷ tokens)) steady lines) arms);
      shallow = λ body others first arms last. (arms, shallow_arm body (default_arms others) first last);
      has = λ body others. or_right (has_arm (case_arms others)) true refl;
    })
    (λ other going.
    let found = read_cases calls r in
    let sees : sees_word (codes "case") r ≡ true = elim (or_cases (sees_word (codes "case") r) (sees_word (codes "default") r) begins) [ inl is ↦ is | inr is ↦ absurd cc ] in
    let read = cases-sound calls r sees enough going in
    record {
      steps = read.steps;
      shorter = read.shorter;
      arm = λ body others between after leaves end tokens rest room lines arms.
          case_arm read.derived room (subst (λ d. AreLines 200 around false d (tokens_of found.following.left) (plain_lines body) between (word leaves (codes "break") ∷ mark end (codes ";") ∷ tokens)) read.steady lines) arms;
      shallow = λ body others first arms last. (shallow_arm body (case_arms others) first arms, last);
      has = λ body others. refl;
    })

-- there is room for a statement where one stands
room_of : {around : Around} {labelled : Bool} {depth after : ℕ} {tokens rest : List Placed} {lines : Lines} → AreLines 200 around labelled depth tokens lines after rest →
    (lines ≡ no_lines → ⊥) → around.blocks ≤ 200
room_of no_more some = absurd (some refl)
room_of (depth_pragma room lines) some = room
room_of (label name is room lines) some = room
room_of (statement room first lines) some = room

row_is : (rows : PartialLines) → is_row rows ≡ true → plain_lines rows ≡ no_lines → ⊥
row_is no_rows some none = absurd cc
row_is (row stmt at number rows) some none = absurd cc

-- all statements but the last are no deeper
shallow_without : (rows : PartialLines) → IsShallowLines (plain_lines rows) → IsShallowLines (plain_lines (without_last rows))
shallow_without no_rows shallow = refl
shallow_without (row stmt at number no_rows) shallow = refl
shallow_without (row stmt at number (row next place other rows)) shallow =
    let parts = and_parts _ _ (sym (list_all-append (shallow_stmt 200) (plain_stmt stmt ∷ inner_stmts (plain_stmt stmt)) (stmts_in (plain_lines (row next place other rows)))) ∙ shallow) in
    shallow_line (plain_stmt stmt) number (plain_lines (without_last (row next place other rows))) parts.0 (shallow_without (row next place other rows) parts.1)

-- an arm and those after it
pub arm_then : (around : Around) (r : Reader) (head : Got ArmHead) (lines : Got Block) (others : Got PartialArms) → ReadsHead around r head →
    ReadsLines around false false head.following lines → lines.value.leaves ≡ true → ReadsArms around lines.following others →
    ReadsArms around r (got (cases head.value.numbers head.value.default (without_last lines.value.lines) others.value) others.following)
arm_then around r head lines others first body leaves read = by (body.leaving leaves)
  where
    by : Leaving around false false head.following lines → ReadsArms around r (got (cases head.value.numbers head.value.default (without_last lines.value.lines) others.value) others.following)
    by (nothing none is same) = absurd cc
    by (last_break at end some derived) =
        let deep = first.shallow (without_last lines.value.lines) others.value (shallow_without lines.value.lines body.shallow) read.shallow read.shallow_last in
        record {
          steps = then_steps first.steps (then_steps body.steps read.steps);
          derived = first.arm (without_last lines.value.lines) others.value lines.following.depth others.following.depth at end (tokens_of lines.following.left) (tokens_of others.following.left) (room_of body.derived (row_is lines.value.lines some)) derived read.derived;
          shallow = deep.0;
          shallow_last = deep.1;
          has = λ _. first.has (without_last lines.value.lines) others.value;
        }
