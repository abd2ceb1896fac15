-- How the statements of a text are listed, one after another.
use Rattle.std.proofs.Common.{◌≡◌, ℕ, ◌+◌, ◌-◌, ◌<◌, Bool, true, false, List, [], ◌∷◌, ◌++◌, Option, Some, None, Result, OnOk, length, get_or, drop, map, refl, sym, ap, subst, ◌∙◌, append_assoc}
use Rattle.std.specs.Prelude.{not, slice_get}
use Rattle.std.specs.List.{list_any}
use Rattle.std.proofs.lemmas.List.{at_drop_more, append-nil, map-append}
use denote.Ref.{Bor}
use Rattle.dcc_c.specs.declared.syntax.Line.{Line}
use Rattle.dcc_c.specs.declared.syntax.Arm.{Arm, out-Arm}
use Rattle.dcc_c.specs.Tree.{Word, Stmt, Lines, line, no_arms}
use Rattle.dcc_c.specs.Views.{stmt_of, lines_of, arms_of, arm_before}
use Rattle.dcc_c.proofs.RowLaws.{arm-parts}
use Rattle.dcc_shape.specs.Spots.{Spot, is_the, label_in, goal_in, block_spots, inner_spots, arm_spots}
use Rattle.dcc_shape.specs.Shape.{is_of_first}
use Rattle.dcc_shape.specs.Seen.{Seen, lent, seen, spares_own, goes_round}

-- more is listed, and then the rest
pub listed : {X : Type 0} (old new end more rest whole : List X) → new ≡ old ++ more → whole ≡ more ++ rest → old ++ whole ≡ end → new ++ rest ≡ end
listed old new end more rest whole is parts had =
    ap (λ l. l ++ rest) is ∙ append_assoc old more rest ∙ ap (λ l. old ++ l) (sym parts) ∙ had

-- one part is listed after another, where memory does not run out
pub both : {X T E : Type 0} (result : Result T E) (old new end first second whole : List X) → new ≡ old ++ first → whole ≡ first ++ second →
    OnOk result (end ≡ new ++ second) → OnOk result (end ≡ old ++ whole)
both result old new end first second whole is parts told =
    subst (λ l. OnOk result (end ≡ l)) (ap (λ l. l ++ second) is ∙ append_assoc old first second ∙ ap (λ l. old ++ l) (sym parts)) told

-- the first of the lines that are left
pub first_line : (lines : List Line) (i : ℕ) (l : Line) → i < length lines → l ≡ get_or lines i l →
    lines_of (drop i lines) ≡ line (stmt_of l.stmt) l.line (lines_of (drop (i + 1) lines))
first_line lines i l within is =
    ap lines_of (at_drop_more (λ xs. xs) lines i l within)
    ∙ ap (λ x. line (stmt_of x.stmt) x.line (lines_of (drop (i + 1) lines))) (sym is)

module _ (loops : List (Option Word)) (depth : ℕ) where
  pub block-parts : (label : Option Word) (stmt : Stmt) (at : ℕ) (lines : Lines) →
      map seen (block_spots loops depth label (line stmt at lines))
      ≡ (seen (record { stmt = stmt; label = label; loops = loops; depth = depth }) ∷ map seen (inner_spots loops depth label stmt))
      ++ map seen (block_spots loops depth (label_in stmt) lines)
  block-parts label stmt at lines =
      ap (λ l. seen (record { stmt = stmt; label = label; loops = loops; depth = depth }) ∷ l)
      (map-append seen (inner_spots loops depth label stmt) (block_spots loops depth (label_in stmt) lines))

  -- the first of the arms that are left
  pub arm-next : (arms : List Arm) (i : ℕ) (a : Arm) → i < length arms → a ≡ get_or arms i a →
      map seen (arm_spots loops depth (arms_of (drop i arms)))
      ≡ map seen (block_spots loops (depth + 1) None (lines_of (out-Arm a).body.items)) ++ map seen (arm_spots loops depth (arms_of (drop (i + 1) arms)))
  arm-next arms i a within is =
      let rest = arms_of (drop (i + 1) arms) in
      at_drop_more (λ xs. map seen (arm_spots loops depth (arms_of xs))) arms i a within
      ∙ ap (λ x. map seen (arm_spots loops depth (arm_before x rest))) (sym is)
      ∙ ap (λ t. map seen (arm_spots loops depth t)) (arm-parts a rest)
      ∙ map-append seen (block_spots loops (depth + 1) None (lines_of (out-Arm a).body.items)) (arm_spots loops depth rest)

  pub last-arm : (a : Arm) →
      map seen (arm_spots loops depth (arm_before a no_arms)) ≡ map seen (block_spots loops (depth + 1) None (lines_of (out-Arm a).body.items))
  last-arm a =
      ap (λ arms. map seen (arm_spots loops depth arms)) (arm-parts a no_arms)
      ∙ ap (map seen) (append-nil (block_spots loops (depth + 1) None (lines_of (out-Arm a).body.items)))

-- what is kept of a statement
pub kept : (s : Spot) (spares round : Bool) (room : ℕ) → spares ≡ spares_own s.loops s.stmt → round ≡ goes_round s.loops s.stmt → room ≡ 199 - s.depth →
    (let x : Seen = record { stmt = s.stmt; label = s.label; spares_own = spares; is_round = round; room = room } in x) ≡ seen s
kept s spares round room spares_is round_is room_is =
    let own : Bool → Bool → ℕ → Seen = λ a b n. record { stmt = s.stmt; label = s.label; spares_own = a; is_round = b; room = n } in
    ap (λ a. own a round room) spares_is
    ∙ ap (λ b. own (spares_own s.loops s.stmt) b room) round_is
    ∙ ap (own (spares_own s.loops s.stmt) (goes_round s.loops s.stmt)) room_is

-- the first of the loops, if there is one
pub first-is : (loops : List (Option (Bor (List ℕ)))) (first : Option (Bor (List ℕ))) (word : Word) → slice_get loops 0 ≡ Some first →
    is_of_first (map lent loops) word ≡ is_the word (lent first)
first-is [] first word is = cc
first-is (x ∷ loops) first word is = ap (λ o. elim o [ Some y ↦ is_the word (lent y) | None ↦ false ]) is

pub first-none : (loops : List (Option (Bor (List ℕ)))) (word : Word) → slice_get loops 0 ≡ None → is_of_first (map lent loops) word ≡ false
first-none [] word is = refl
first-none (x ∷ loops) word is = cc

-- a statement that goes nowhere, or to a word
pub goes-nowhere : (loops : List (Option Word)) (stmt : Stmt) → None ≡ goal_in stmt → spares_own loops stmt ≡ true
goes-nowhere loops stmt none = ap (λ g. elim g [ Some word ↦ not (is_of_first loops word) | None ↦ true ]) (sym none)

pub goes-to : (loops : List (Option Word)) (stmt : Stmt) (word : Word) → Some word ≡ goal_in stmt → spares_own loops stmt ≡ not (is_of_first loops word)
goes-to loops stmt word is = ap (λ g. elim g [ Some word ↦ not (is_of_first loops word) | None ↦ true ]) (sym is)

pub not-round : (loops : List (Option Word)) (stmt : Stmt) → None ≡ goal_in stmt → goes_round loops stmt ≡ false
not-round loops stmt none = ap (λ g. elim g [ Some word ↦ list_any (is_the word) loops | None ↦ false ]) (sym none)

pub round-to : (loops : List (Option Word)) (stmt : Stmt) (word : Word) → Some word ≡ goal_in stmt → goes_round loops stmt ≡ list_any (is_the word) loops
round-to loops stmt word is = ap (λ g. elim g [ Some word ↦ list_any (is_the word) loops | None ↦ false ]) (sym is)
