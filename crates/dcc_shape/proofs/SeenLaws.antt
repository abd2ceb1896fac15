-- What the code keeps of the statements of a text tells what is asked of them.
use Rattle.std.proofs.Common.{◌≡◌, ℕ, ◌-◌, ◌<◌, Bool, true, false, List, [], ◌∷◌, Option, Some, None, get_or, zero, suc, drop, All, map, refl, sym, ap, ◌∙◌, arith}
use Rattle.std.specs.Prelude.{◌||◌, ◌&&◌, ◌==◌, nat_lt}
use Rattle.std.specs.List.{list_any, list_all, count_by}
use Rattle.std.specs.BTreeSet.{BTreeSet, contains, Updates}
use Rattle.std.specs.Ordering.{nat_cmp}
use Rattle.std.proofs.lemmas.Bool.{false_from_ne_true, and_right}
use Rattle.std.proofs.lemmas.Bool.Decides.{nat_tests}
use Rattle.std.proofs.lemmas.List.Folds.{list_all-map}
use Rattle.std.proofs.lemmas.List.Sums.{AllPass-from_list_all}
use Rattle.dcc_c.specs.Tree.{Word, Stmt}
use Rattle.dcc_c.specs.Views.{stmt_of}
use Rattle.dcc_c.specs.Token.{same_bytes}
use Rattle.dcc_c.proofs.NameLaws.{same_bytes-equal}
use Rattle.dcc_shape.specs.declared.seen.Seen.{Seen as SeenOf}
use Rattle.dcc_shape.specs.Spots.{Spot, is_the, label_in, goal_in, goal_passes}
use Rattle.dcc_shape.specs.Shape.{label_of, goes_on_or_round}
use Rattle.dcc_shape.specs.Seen.{Seen, seen, seen_in, goes_round, has_label, may_go, may_all_go, GoesToOffset, AreLabels}
use Rattle.dcc_shape.proofs.LabelLaws.{labels-tell}
use Rattle.dcc_shape.proofs.KnownLaws.{set-at}
use Rattle.dcc_shape.proofs.ListLaws.{count_by-map, list_any-map}

pub all-seen : (p : Seen → Bool) (found : List SeenOf) (list : List Spot) → map seen_in found ≡ map seen list →
    list_all (λ s. p (seen_in s)) found ≡ list_all (λ s. p (seen s)) list
all-seen p found list same = sym (list_all-map p seen_in found) ∙ ap (list_all p) same ∙ list_all-map p seen list

pub count-seen : (p : Seen → Bool) (found : List SeenOf) (list : List Spot) → map seen_in found ≡ map seen list →
    count_by (λ s. p (seen_in s)) found ≡ count_by (λ s. p (seen s)) list
count-seen p found list same = sym (count_by-map p seen_in found) ∙ ap (count_by p) same ∙ count_by-map p seen list

by-goal : (goal : Option Word) (A B C : Word → Bool) (around : Bool) → ((word : Word) → A word ≡ C word) →
    around ≡ elim goal [ Some word ↦ B word | None ↦ false ] →
    ◌≡◌ {A = Bool} (elim goal [ Some word ↦ A word || around | None ↦ true ]) (elim goal [ Some word ↦ C word || B word | None ↦ true ])
by-goal None A B C around same is = refl
by-goal (Some word) A B C around same is = ap (λ a. a || around) (same word) ∙ ap (λ b. C word || b) is

pub rounds : (list : List Spot) → may_all_go (map seen list) ≡ goes_on_or_round list
rounds [] = refl
rounds (s ∷ later) =
    let further : Word → Bool = λ word. list_any (λ t. is_the word (label_in t.stmt)) later in
    let around : Word → Bool = λ word. list_any (is_the word) s.loops in
    ap (λ a. a && may_all_go (map seen later))
    (by-goal (goal_in s.stmt) (has_label (map seen later)) around further (goes_round s.loops s.stmt) (λ word. list_any-map (λ (t : Seen). is_the word (label_in t.stmt)) seen later) refl)
    ∙ ap (λ b. elim (goal_in s.stmt) [ Some word ↦ further word || around word | None ↦ true ] && b) (rounds later)

pub room-left : (depth : ℕ) → nat_lt 0 (199 - depth) ≡ nat_lt depth 199
room-left depth = grind (arith, nat_tests)

-- where the last statements do not all go on or round, not all do
pub fails-later : (k : ℕ) (list : List SeenOf) → may_all_go (map seen_in (drop k list)) ≡ false → may_all_go (map seen_in list) ≡ false
fails-later zero list h = h
fails-later (suc k) [] h = h
fails-later (suc k) (s ∷ list) h = and_right (may_go (map seen_in list) (seen_in s)) (may_all_go (map seen_in list)) (fails-later k list h)

-- Where statements go, and what they are.

module _ (test : Word → Bool) (stmt : Stmt) where
  pub passes-at : (word : Word) → Some word ≡ goal_in stmt → goal_passes test stmt ≡ test word
  passes-at word is = ap (λ g. elim g [ Some w ↦ test w | None ↦ true ]) (sym is)

  pub passes-nowhere : None ≡ goal_in stmt → goal_passes test stmt ≡ true
  passes-nowhere none = ap (λ g. elim g [ Some w ↦ test w | None ↦ true ]) (sym none)

-- where each label that passes the test names an offset, each `goto` goes to one
pub go-to-offsets : (test : Word → Bool) (list : List SeenOf) → ((word : Word) → test word ≡ true → (at : ℕ) × (at < 65536) × (word ≡ label_of at))
    → list_all (λ s. goal_passes test (stmt_of s.stmt.now)) list ≡ true → All (λ s. GoesToOffset (stmt_of s.stmt.now)) list
go-to-offsets test list named h =
    let each = AllPass-from_list_all (λ (s : SeenOf). goal_passes test (stmt_of s.stmt.now)) list h in
    λ k d less word is. named word (sym (passes-at test (stmt_of (get_or list k d).stmt.now) word (sym is)) ∙ each k d less)

module _ (old : BTreeSet ℕ) (s : Seen) (rest : List Seen) (had : AreLabels old rest) where
  pub labels-none : None ≡ label_in s.stmt → AreLabels old (s ∷ rest)
  labels-none none = λ at fits. ap (λ o. is_the (label_of at) o || has_label rest (label_of at)) (sym none) ∙ had at fits

  pub labels-other : (name : Word) → Some name ≡ label_in s.stmt → ((at : ℕ) → ¬ (name ≡ label_of at)) → AreLabels old (s ∷ rest)
  labels-other name is none = λ at fits.
      ap (λ o. is_the (label_of at) o || has_label rest (label_of at)) (sym is)
      ∙ ap (λ b. b || has_label rest (label_of at)) (false_from_ne_true (same_bytes (label_of at) name) (λ t. none at (sym (same_bytes-equal (label_of at) name t))))
      ∙ had at fits

  pub labels-more : (new : BTreeSet ℕ) (name : Word) (named : ℕ) → Some name ≡ label_in s.stmt → name ≡ label_of named → named < 65536
      → Updates nat_cmp old new named true → AreLabels new (s ∷ rest)
  labels-more new name named is named_is fit updates = λ at fits.
      ap (λ o. is_the (label_of at) o || has_label rest (label_of at)) (sym is)
      ∙ ap (λ w. same_bytes (label_of at) w || has_label rest (label_of at)) named_is
      ∙ ap (λ b. b || has_label rest (label_of at)) (labels-tell at named fits fit)
      ∙ ap (λ b. (named == at) || b) (had at fits)
      ∙ swapped (named == at) (contains nat_cmp old at)
      ∙ sym (set-at old new named updates at)
    where
      swapped : (a b : Bool) → (a || b) ≡ (b || a)
      swapped true true = refl
      swapped true false = refl
      swapped false true = refl
      swapped false false = refl
