-- Labels of blocks are names, and those of different blocks differ.
use Rattle.std.proofs.Common.{◌≡◌, ℕ, ◌+◌, ◌<◌, ◌≤◌, inl, inr, Bool, true, false, ◌==◌, List, [], ◌∷◌, length, map, Option, Some, None, refl, sym, ap, ap₂, ◌∙◌, subst, arith}
use Rattle.std.specs.Prelude.{not, nat_lt, if◌then◌else◌, slice_get, codes}
use Rattle.std.specs.List.{list_all, list_any, sum_by}
use Rattle.std.specs.List.Sorted.{IsPermutation}
use Rattle.std.proofs.lemmas.Bool.{cases_Bool, and_parts, and_from, or_from, or_cases, or_parts, or_left, or_right, ltb-true, eqb-true, eqb-false, ne_eqb, not-true, not_from_false}
use Rattle.std.proofs.lemmas.List.Sums.{sum_by-cons}
use Rattle.std.proofs.lemmas.List.Sorted.{sum_by-IsPermutation}
use Rattle.dcc_ir.specs.Tree as inner
use Rattle.dcc_ir.specs.WellFormed.{IsGraph}
use Rattle.dcc_ir.specs.WellFormed as formed
use Rattle.dcc_c.specs.Grammar.{is_name, is_among}
use Rattle.dcc_c.specs.Rules.{all_differ}
use Rattle.dcc_c.specs.Token.{same_bytes}
use Rattle.dcc_c.specs.Tree.{Word}
use Rattle.dcc_c.proofs.NameLaws.{same_bytes-equal, same_bytes-refl}
use Rattle.dcc_text.proofs.HexLaws.{name_at-name}
use Rattle.dcc_plan.specs.Labels.{label_name, label_at}
use Rattle.dcc_control.specs.Plan.{is_in}
use Rattle.dcc_plan.proofs.LabelLaws.{label-tested}

-- Names.

label-name : (at : ℕ) → is_name (label_name at) ≡ true
label-name at = name_at-name 76 at refl (λ bytes. refl)

pub label-word : (blocks : List inner.Block) (b : ℕ) → is_name (label_at blocks b) ≡ true
label-word blocks b = by (slice_get blocks b)
  where
    by : (found : Option inner.Block) → is_name (elim found [ Some block ↦ label_name block.at | None ↦ codes "L" ]) ≡ true
    by (Some block) = label-name block.at
    by None = refl

-- Lists of labels.

module _ (graph : inner.Graph) (well : IsGraph graph) where
  abbrev pub label : ℕ → Word
  label b = label_at graph.blocks b

  pub label-among : (b : ℕ) (bs : List ℕ) → is_in b bs ≡ true → is_among (map label bs) (label b) ≡ true
  label-among b [] is = is
  label-among b (a ∷ bs) is = elim (or_cases (a == b) (is_in b bs) is) [
    | inl here ↦ or_left (same_bytes (label b) (label a)) (is_among (map label bs) (label b))
        (subst (λ k. same_bytes (label b) (label k) ≡ true) (sym (eqb-true a b here)) (same_bytes-refl (label b)))
    | inr later ↦ or_right (same_bytes (label b) (label a)) (is_among (map label bs) (label b)) (label-among b bs later)
  ]

  label-apart : (b : ℕ) (bs : List ℕ) → b < length graph.blocks → list_all (λ a. nat_lt a (length graph.blocks)) bs ≡ true → list_any (λ m. b == m) bs ≡ false
      → is_among (map label bs) (label b) ≡ false
  label-apart b [] less inside none = refl
  label-apart b (a ∷ bs) less inside none =
      let (there, others) = and_parts (nat_lt a (length graph.blocks)) (list_all (λ a. nat_lt a (length graph.blocks)) bs) inside in
      let (apart, rest) = or_parts (b == a) (list_any (λ m. b == m) bs) none in
      or_from (same_bytes (label b) (label a)) (is_among (map label bs) (label b))
      (label-tested graph well a b (ltb-true a (length graph.blocks) there) less ∙ ne_eqb a b (λ e. eqb-false b a apart (sym e)))
      (label-apart b bs less others rest)

  pub labels-apart : (bs : List ℕ) → list_all (λ a. nat_lt a (length graph.blocks)) bs ≡ true → formed.all_differ bs ≡ true → all_differ (map label bs) ≡ true
  labels-apart [] inside differ = refl
  labels-apart (b ∷ bs) inside differ =
      let (there, others) = and_parts (nat_lt b (length graph.blocks)) (list_all (λ a. nat_lt a (length graph.blocks)) bs) inside in
      let (front, rest) = and_parts (not (list_any (λ m. b == m) bs)) (formed.all_differ bs) differ in
      and_from (not (is_among (map label bs) (label b))) (all_differ (map label bs))
      (not_from_false (is_among (map label bs) (label b)) (label-apart b bs (ltb-true b (length graph.blocks) there) others (not-true (list_any (λ m. b == m) bs) front)))
      (labels-apart bs others rest)

-- Labels in another order.

-- how often a word stands in a list
abbrev equal_words : Word → Word → ℕ
equal_words word other = if same_bytes word other then 1 else 0

abbrev tally : Word → List Word → ℕ
tally word words = sum_by (equal_words word) words

-- with one more word in front
tally-more : (word w : Word) (words : List Word) → tally word (w ∷ words) ≡ equal_words word w + tally word words
tally-more word w words = sum_by-cons (equal_words word) w words

-- a word that isn't among others stands there never
never : (word : Word) (words : List Word) → is_among words word ≡ false → tally word words ≡ 0
never word [] none = refl
never word (w ∷ words) none =
    let (here, later) = or_parts (same_bytes word w) (is_among words word) none in
    tally-more word w words
    ∙ ap₂ (λ same n. (if same then 1 else 0) + n) here (never word words later)

-- words that differ stand there once each
once : (words : List Word) → all_differ words ≡ true → (word : Word) → tally word words ≤ 1
once [] differ word =
    let none : tally word [] ≡ 0 = refl in
    omega (arith, none)
once (w ∷ words) differ word =
    let (front, rest) = and_parts (not (is_among words w)) (all_differ words) differ in
    let more = tally-more word w words in
    let later = once words rest word in
    elim (cases_Bool (same_bytes word w)) [
      | inl same ↦
          let none : tally word words ≡ 0 =
          subst (λ x. tally x words ≡ 0) (sym (same_bytes-equal word w same)) (never w words (not-true (is_among words w) front)) in
          let here : equal_words word w ≡ 1 = ap (λ is. if is then 1 else 0) same in
          omega (arith, more, none, here)
      | inr apart ↦
          let here : equal_words word w ≡ 0 = ap (λ is. if is then 1 else 0) apart in
          omega (arith, more, later, here)
    ]

-- a word that stands there never isn't among them
not-among : (word : Word) (words : List Word) → tally word words ≡ 0 → is_among words word ≡ false
not-among word [] none = refl
not-among word (w ∷ words) none =
    let more = tally-more word w words in
    or_from (same_bytes word w) (is_among words word)
    (elim (cases_Bool (same_bytes word w)) [
      | inl same ↦
          let here : equal_words word w ≡ 1 = ap (λ is. if is then 1 else 0) same in
          absurd (omega (arith, more, none, here))
      | inr apart ↦ apart
    ])
    (not-among word words (omega (arith, more, none)))

differ-once : (words : List Word) → ((word : Word) → tally word words ≤ 1) → all_differ words ≡ true
differ-once [] few = refl
differ-once (w ∷ words) few =
    let here : equal_words w w ≡ 1 = ap (λ is. if is then 1 else 0) (same_bytes-refl w) in
    let more = tally-more w w words in
    let whole = few w in
    let none : tally w words ≡ 0 = omega (arith, here, more, whole) in
    and_from (not (is_among words w)) (all_differ words) (not_from_false (is_among words w) (not-among w words none)) (differ-once words later)
  where
    later : (word : Word) → tally word words ≤ 1
    later word =
        let more = tally-more word w words in
        let whole = few word in
        omega (arith, more, whole)

-- words that differ do so in any order
pub apart-permuted : (xs ys : List Word) → IsPermutation xs ys → all_differ xs ≡ true → all_differ ys ≡ true
apart-permuted xs ys same differ =
    differ-once ys (λ word. subst (λ n. n ≤ 1) (sym (sum_by-IsPermutation (equal_words word) xs ys same)) (once xs differ word))
