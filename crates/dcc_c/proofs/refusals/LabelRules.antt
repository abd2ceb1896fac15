-- The labels of a function: each stands once where none repeats an earlier one, and each `goto` names one.
use native.Mathlib.Omega.{arith}
use Rattle.std.proofs.Common.{◌≡◌, ℕ, suc, ◌+◌, true, false, List, [], ◌∷◌, ◌++◌, Some, None, refl, sym, ap, ◌∙◌, append_assoc}
use Rattle.std.proofs.lemmas.List.{map-append}
use Rattle.std.specs.Prelude.{if◌then◌else◌}
use Rattle.std.specs.List.{flat_map}
use Rattle.dcc_c.specs.Token.{same_bytes}
use Rattle.dcc_c.specs.Tree.{Word, Stmt}
use Rattle.dcc_c.specs.Parts.{stmts_in, inner_stmts, arm_stmts, label_of, labels_in}
use Rattle.dcc_c.specs.Partial.{WordAt, PartialStmt, AssignOf, CallOf, IfOf, WhileOf, DoWhileOf, ForeverOf, SwitchOf, BreakOf, ContinueOf, GotoOf, LabelOf, EmptyOf, ReturnOf, PartialLines, no_rows, row, PartialArms, no_cases, cases}
use Rattle.dcc_c.specs.Offences.{label_list, labels_of, labels_in_arms}
use Rattle.dcc_c.specs.TextOffences.{words_of}
use Rattle.dcc_c.specs.Stripped.{plain_stmt, plain_lines, case_arms, default_arms}

-- how often a word stands in a list
abbrev pub times : Word → List Word → ℕ
times word [] = 0
times word (other ∷ words) = if same_bytes other word then suc (times word words) else times word words

times-append : (word : Word) (xs ys : List Word) → times word (xs ++ ys) ≡ times word xs + times word ys
times-append word [] ys = omega arith
times-append word (x ∷ xs) ys = elim (same_bytes x word) as (λ b. (if b then suc (times word (xs ++ ys)) else times word (xs ++ ys)) ≡ (if b then suc (times word xs) else times word xs) + times word ys) [
  | true ↦ ap suc (times-append word xs ys) ∙ omega arith
  | false ↦ times-append word xs ys
]

-- the two lists have the same words, as often
abbrev pub SameWords : List Word → List Word → Type 0
SameWords xs ys = (word : Word) → times word xs ≡ times word ys

same-append : (xs ys us vs : List Word) → SameWords xs us → SameWords ys vs → SameWords (xs ++ ys) (us ++ vs)
same-append xs ys us vs first second word =
    times-append word xs ys ∙ ap (λ n. n + times word ys) (first word) ∙ ap (λ n. times word us + n) (second word) ∙ sym (times-append word us vs)

label-words : List Stmt → List Word
label-words stmts = flat_map label_of stmts

flat-append : (xs ys : List Stmt) → label-words (xs ++ ys) ≡ label-words xs ++ label-words ys
unfolding label-words
flat-append [] ys = refl
flat-append (x ∷ xs) ys = ap (λ l. label_of x ++ l) (flat-append xs ys) ∙ sym (append_assoc (label_of x) (flat_map label_of xs) (flat_map label_of ys))

words-append : (xs ys : List WordAt) → words_of (xs ++ ys) ≡ words_of xs ++ words_of ys
words-append xs ys = map-append (λ (n : WordAt). n.word) xs ys

-- A statement list of two parts.
part-words : (xs ys : List Stmt) (us vs : List WordAt) → SameWords (words_of us) (label-words xs) → SameWords (words_of vs) (label-words ys) →
    SameWords (words_of (us ++ vs)) (label-words (xs ++ ys))
part-words xs ys us vs first second word =
    ap (times word) (words-append us vs)
    ∙ same-append (words_of us) (words_of vs) (label-words xs) (label-words ys) first second word
    ∙ ap (times word) (sym (flat-append xs ys))

-- the labels inside a statement
inner_labels : PartialStmt → List WordAt
inner_labels (LabelOf name) = []
inner_labels stmt = labels_of stmt

mutual
  unfolding label-words inner_labels

  -- the labels of partial statements are those of the statements, in some order
  pub lines-words : (rows : PartialLines) → SameWords (words_of (label_list rows)) (labels_in (plain_lines rows))
  lines-words no_rows word = refl
  lines-words (row (LabelOf name) at line rows) word = elim (same_bytes name.word word) as (λ b. (if b then suc (times word (words_of (label_list rows))) else times word (words_of (label_list rows)))
      ≡ (if b then suc (times word (labels_in (plain_lines rows))) else times word (labels_in (plain_lines rows)))) [
        | true ↦ ap suc (lines-words rows word)
        | false ↦ lines-words rows word
      ]
  lines-words (row (IfOf e done body otherwise) at line rows) word = part-words (inner_stmts (plain_stmt (IfOf e done body otherwise))) (stmts_in (plain_lines rows)) (labels_of (IfOf e done body otherwise)) (label_list rows) (inner-words (IfOf e done body otherwise)) (lines-words rows) word
  lines-words (row (WhileOf e done body) at line rows) word = part-words (inner_stmts (plain_stmt (WhileOf e done body))) (stmts_in (plain_lines rows)) (labels_of (WhileOf e done body)) (label_list rows) (inner-words (WhileOf e done body)) (lines-words rows) word
  lines-words (row (DoWhileOf body e done) at line rows) word = part-words (inner_stmts (plain_stmt (DoWhileOf body e done))) (stmts_in (plain_lines rows)) (labels_of (DoWhileOf body e done)) (label_list rows) (inner-words (DoWhileOf body e done)) (lines-words rows) word
  lines-words (row (ForeverOf body) at line rows) word = part-words (inner_stmts (plain_stmt (ForeverOf body))) (stmts_in (plain_lines rows)) (labels_of (ForeverOf body)) (label_list rows) (inner-words (ForeverOf body)) (lines-words rows) word
  lines-words (row (SwitchOf e done arms) at line rows) word = part-words (inner_stmts (plain_stmt (SwitchOf e done arms))) (stmts_in (plain_lines rows)) (labels_of (SwitchOf e done arms)) (label_list rows) (inner-words (SwitchOf e done arms)) (lines-words rows) word
  lines-words (row (AssignOf place e done) at line rows) word = lines-words rows word
  lines-words (row (CallOf place call) at line rows) word = lines-words rows word
  lines-words (row BreakOf at line rows) word = lines-words rows word
  lines-words (row ContinueOf at line rows) word = lines-words rows word
  lines-words (row (GotoOf name) at line rows) word = lines-words rows word
  lines-words (row EmptyOf at line rows) word = lines-words rows word
  lines-words (row (ReturnOf e done) at line rows) word = lines-words rows word

  -- the labels inside a statement that is no label
  inner-words : (stmt : PartialStmt) → SameWords (words_of (inner_labels stmt)) (label-words (inner_stmts (plain_stmt stmt)))
  inner-words (IfOf e done body otherwise) word = part-words (stmts_in (plain_lines body)) (stmts_in (plain_lines otherwise)) (label_list body) (label_list otherwise) (lines-words body) (lines-words otherwise) word
  inner-words (WhileOf e done body) word = lines-words body word
  inner-words (DoWhileOf body e done) word = lines-words body word
  inner-words (ForeverOf body) word = lines-words body word
  inner-words (SwitchOf e done arms) word = arms-words arms word ∙ ap (times word) (sym (flat-append (arm_stmts (case_arms arms)) (arm_stmts (default_arms arms))))
  inner-words (LabelOf name) word = refl
  inner-words (AssignOf place e done) word = refl
  inner-words (CallOf place call) word = refl
  inner-words BreakOf word = refl
  inner-words ContinueOf word = refl
  inner-words (GotoOf name) word = refl
  inner-words EmptyOf word = refl
  inner-words (ReturnOf e done) word = refl

  -- the labels of arms, of which the ones with `default` come last in a tree
  arms-words : (arms : PartialArms) → SameWords (words_of (labels_in_arms arms)) (label-words (arm_stmts (case_arms arms)) ++ label-words (arm_stmts (default_arms arms)))
  arms-words no_cases word = refl
  arms-words (cases numbers None body arms) word =
      let first = arm_stmts (case_arms arms) in
      let second = label-words (arm_stmts (default_arms arms)) in
      ap (times word) (words-append (label_list body) (labels_in_arms arms))
      ∙ times-append word (words_of (label_list body)) (words_of (labels_in_arms arms))
      ∙ ap (λ n. n + times word (words_of (labels_in_arms arms))) (lines-words body word)
      ∙ ap (λ n. times word (labels_in (plain_lines body)) + n) (arms-words arms word ∙ times-append word (label-words first) second)
      ∙ omega arith
      ∙ ap (λ n. n + times word second) (sym (times-append word (labels_in (plain_lines body)) (label-words first)))
      ∙ sym (times-append word (labels_in (plain_lines body) ++ label-words first) second)
      ∙ ap (λ l. times word (l ++ second)) (sym (flat-append (stmts_in (plain_lines body)) first))
  arms-words (cases numbers (Some at) body arms) word =
      let first = label-words (arm_stmts (case_arms arms)) in
      let second = arm_stmts (default_arms arms) in
      ap (times word) (words-append (label_list body) (labels_in_arms arms))
      ∙ times-append word (words_of (label_list body)) (words_of (labels_in_arms arms))
      ∙ ap (λ n. n + times word (words_of (labels_in_arms arms))) (lines-words body word)
      ∙ ap (λ n. times word (labels_in (plain_lines body)) + n) (arms-words arms word ∙ times-append word first (label-words second))
      ∙ omega arith
      ∙ ap (λ n. times word first + n) (sym (times-append word (labels_in (plain_lines body)) (label-words second)))
      ∙ sym (times-append word first (labels_in (plain_lines body) ++ label-words second))
      ∙ ap (λ l. times word (first ++ l)) (sym (flat-append (stmts_in (plain_lines body)) second))
