-- Which blocks a list of blocks has, and what is noted of the items that are left.
use Rattle.std.proofs.Common.{◌≡◌, ℕ, zero, suc, ◌≤◌, ◌<◌, ◌+◌, ◌⊎◌, inl, inr, Bool, true, false, List, [], ◌∷◌, ◌++◌, Vec, Global, length, drop, get_or, set, replicate, refl, sym, ap, ap₂, ◌∙◌, subst, arith, true≢false}
use Rattle.std.specs.Prelude.{◌==◌, ◌&&◌, ◌||◌, not}
use Rattle.std.proofs.lemmas.List.{drop_more, drop_all, append_assoc, append-nil, get_or-set_same, get_or-set_other}
use Rattle.std.specs.List.{list_any}
use Rattle.std.proofs.lemmas.Bool.{and_from, or_left, not_from_false, eqb-true, eq-eqb}
use Rattle.dcc_ir.specs.WellFormed.{all_differ}
use Rattle.dcc_control.specs.Plan.{If, Switch, For, While, DoWhile, is_in, marks, turns, item_marks, item_turns, arm_marks, arm_turns}
use Rattle.dcc_control.specs.Views.{item_of, plan_of, arms_of}
use Rattle.dcc_control.specs.declared.item.Item.{Item as TheItem, If as IfOf, Switch as SwitchOf, For as ForOf, While as WhileOf, DoWhile as DoWhileOf}
use Rattle.dcc_control.specs.declared.item.Arm.{Arm as TheArm}
use Rattle.dcc_control.proofs.ItemRows.{if-item, switch-item, for-item, while-item, do-item}
use Rattle.dcc_control.proofs.ListLaws.{turned}
use Rattle.dcc_plan_check.specs.declared.labels.Noted.{Noted}
use Rattle.dcc_plan_check.specs.Checked.{Notes}

-- what is noted, with what is still to be noted
abbrev pub IsWhole : Noted → List ℕ → List ℕ → Noted → List ℕ → List ℕ → Type 0
IsWhole before labels heads now left_labels left_heads =
    (now.labels.items ++ left_labels ≡ before.labels.items ++ labels) × (now.heads.items ++ left_heads ≡ before.heads.items ++ heads)

one-more : (now next before part left : List ℕ) → next ≡ now ++ part → now ++ (part ++ left) ≡ before → next ++ left ≡ before
one-more now next before part left is whole = ap (λ l. l ++ left) is ∙ append_assoc now part left ∙ whole

pub noted-more : (before now next : Noted) (labels heads part_labels part_heads left_labels left_heads : List ℕ)
    → Notes now part_labels part_heads next → IsWhole before labels heads now (part_labels ++ left_labels) (part_heads ++ left_heads)
    → IsWhole before labels heads next left_labels left_heads
noted-more before now next labels heads part_labels part_heads left_labels left_heads notes whole = (
  one-more now.labels.items next.labels.items (before.labels.items ++ labels) part_labels left_labels notes.0 whole.0,
  one-more now.heads.items next.heads.items (before.heads.items ++ heads) part_heads left_heads notes.1 whole.1,
)

-- the items and the arms that are left, one further on
pub items-step : (items : List TheItem) (k : ℕ) (i : TheItem) (before now next : Noted) (labels heads : List ℕ) → k < length items → i ≡ get_or items k i
    → Notes now (item_marks (item_of i)) (item_turns (item_of i)) next
    → IsWhole before labels heads now (marks (plan_of (drop k items))) (turns (plan_of (drop k items)))
    → IsWhole before labels heads next (marks (plan_of (drop (k + 1) items))) (turns (plan_of (drop (k + 1) items)))
items-step items k i before now next labels heads within is notes whole =
    let rest : List TheItem = drop (k + 1) items in
    let left : drop k items ≡ i ∷ rest = drop_more items k i within ∙ ap (λ x. x ∷ rest) (sym is) in
    noted-more before now next labels heads (item_marks (item_of i)) (item_turns (item_of i)) (marks (plan_of rest)) (turns (plan_of rest)) notes
    (subst (λ l. IsWhole before labels heads now (marks (plan_of l)) (turns (plan_of l))) left whole)

pub arms-step : (arms : List TheArm) (k : ℕ) (x : TheArm) (before now next : Noted) (labels heads : List ℕ) → k < length arms → x ≡ get_or arms k x
    → Notes now (marks (plan_of x.body.items)) (turns (plan_of x.body.items)) next
    → IsWhole before labels heads now (arm_marks (arms_of (drop k arms))) (arm_turns (arms_of (drop k arms)))
    → IsWhole before labels heads next (arm_marks (arms_of (drop (k + 1) arms))) (arm_turns (arms_of (drop (k + 1) arms)))
arms-step arms k x before now next labels heads within is notes whole =
    let rest : List TheArm = drop (k + 1) arms in
    let left : drop k arms ≡ x ∷ rest = drop_more arms k x within ∙ ap (λ y. y ∷ rest) (sym is) in
    noted-more before now next labels heads (marks (plan_of x.body.items)) (turns (plan_of x.body.items)) (arm_marks (arms_of rest)) (arm_turns (arms_of rest)) notes
    (subst (λ l. IsWhole before labels heads now (arm_marks (arms_of l)) (arm_turns (arms_of l))) left whole)

no-more : (now before : List ℕ) → now ++ [] ≡ before → now ≡ before
no-more now before is = sym (append-nil now) ∙ is

pub items-last : (items : List TheItem) (k : ℕ) (before now : Noted) (labels heads : List ℕ) → length items ≤ k
    → IsWhole before labels heads now (marks (plan_of (drop k items))) (turns (plan_of (drop k items))) → Notes before labels heads now
items-last items k before now labels heads over whole =
    let last = subst (λ l. IsWhole before labels heads now (marks (plan_of l)) (turns (plan_of l))) (drop_all k items over) whole in
    (no-more now.labels.items _ last.0, no-more now.heads.items _ last.1)

pub arms-last : (arms : List TheArm) (k : ℕ) (before now : Noted) (labels heads : List ℕ) → length arms ≤ k
    → IsWhole before labels heads now (arm_marks (arms_of (drop k arms))) (arm_turns (arms_of (drop k arms))) → Notes before labels heads now
arms-last arms k before now labels heads over whole =
    let last = subst (λ l. IsWhole before labels heads now (arm_marks (arms_of l)) (arm_turns (arms_of l))) (drop_all k arms over) whole in
    (no-more now.labels.items _ last.0, no-more now.heads.items _ last.1)

-- what is noted of items with others inside
notes-both : (a m n : Noted) (labels heads more_labels more_heads : List ℕ) → Notes a labels heads m → Notes m more_labels more_heads n
    → Notes a (labels ++ more_labels) (heads ++ more_heads) n
notes-both a m n labels heads more_labels more_heads one two = (
  two.0 ∙ ap (λ l. l ++ more_labels) one.0 ∙ append_assoc a.labels.items labels more_labels,
  two.1 ∙ ap (λ l. l ++ more_heads) one.1 ∙ append_assoc a.heads.items heads more_heads,
)

pub notes-if : (i : TheItem) (b : ℕ) (one other : Vec TheItem Global) (first second : List TheItem) (a m n : Noted) → i ≡ IfOf b one other
    → first ≡ one.items → second ≡ other.items → Notes a (marks (plan_of first)) (turns (plan_of first)) m
    → Notes m (marks (plan_of second)) (turns (plan_of second)) n → Notes a (item_marks (item_of i)) (item_turns (item_of i)) n
notes-if i b one other first second a m n is of_one of_other one_notes other_notes =
    let same : item_of i ≡ If b (plan_of first) (plan_of second) =
    ap item_of is ∙ if-item b one other ∙ ap₂ (λ x y. If b (plan_of x) (plan_of y)) (sym of_one) (sym of_other) in
    subst (λ x. Notes a (item_marks x) (item_turns x) n) (sym same)
    (notes-both a m n (marks (plan_of first)) (turns (plan_of first)) (marks (plan_of second)) (turns (plan_of second)) one_notes other_notes)

pub notes-switch : (i : TheItem) (b : ℕ) (arms : Vec TheArm Global) (given : List TheArm) (a n : Noted) → i ≡ SwitchOf b arms → given ≡ arms.items
    → Notes a (arm_marks (arms_of given)) (arm_turns (arms_of given)) n → Notes a (item_marks (item_of i)) (item_turns (item_of i)) n
notes-switch i b arms given a n is of_arms notes =
    let same : item_of i ≡ Switch b (arms_of given) = ap item_of is ∙ switch-item b arms ∙ ap (λ x. Switch b (arms_of x)) (sym of_arms) in
    subst (λ x. Notes a (item_marks x) (item_turns x) n) (sym same) notes

pub notes-for : (i : TheItem) (b : ℕ) (body : Vec TheItem Global) (given : List TheItem) (a m n : Noted) → i ≡ ForOf b body → given ≡ body.items
    → Notes a [] (b ∷ []) m → Notes m (marks (plan_of given)) (turns (plan_of given)) n → Notes a (item_marks (item_of i)) (item_turns (item_of i)) n
notes-for i b body given a m n is of_body head notes =
    let same : item_of i ≡ For b (plan_of given) = ap item_of is ∙ for-item b body ∙ ap (λ x. For b (plan_of x)) (sym of_body) in
    subst (λ x. Notes a (item_marks x) (item_turns x) n) (sym same)
    (notes-both a m n [] (b ∷ []) (marks (plan_of given)) (turns (plan_of given)) head notes)

-- loops that test note what stands inside
pub notes-while : (i : TheItem) (on : Bool) (b : ℕ) (body : Vec TheItem Global) (given : List TheItem) (a n : Noted) → i ≡ WhileOf on b body
    → given ≡ body.items → Notes a (marks (plan_of given)) (turns (plan_of given)) n → Notes a (item_marks (item_of i)) (item_turns (item_of i)) n
notes-while i on b body given a n is of_body notes =
    let same : item_of i ≡ While on b (plan_of given) = ap item_of is ∙ while-item on b body ∙ ap (λ x. While on b (plan_of x)) (sym of_body) in
    subst (λ x. Notes a (item_marks x) (item_turns x) n) (sym same) notes

pub notes-do : (i : TheItem) (on : Bool) (b head : ℕ) (body : Vec TheItem Global) (given : List TheItem) (a n : Noted) → i ≡ DoWhileOf on b head body
    → given ≡ body.items → Notes a (marks (plan_of given)) (turns (plan_of given)) n → Notes a (item_marks (item_of i)) (item_turns (item_of i)) n
notes-do i on b head body given a n is of_body notes =
    let same : item_of i ≡ DoWhile on b head (plan_of given) = ap item_of is ∙ do-item on b head body ∙ ap (λ x. DoWhile on b head (plan_of x)) (sym of_body) in
    subst (λ x. Notes a (item_marks x) (item_turns x) n) (sym same) notes

-- Flags.

-- which blocks of a list without repetition are flagged
pub record AreFlagged (flags : List Bool) (blocks : List ℕ) : Type 0 where
  pub exact : (b : ℕ) → get_or flags b false ≡ is_in b blocks
  pub once : all_differ blocks ≡ true

pub flagged-none : (count : ℕ) → AreFlagged (replicate count false) []
flagged-none count = record { exact = λ b. none count b; once = refl }
  where
    none : (count b : ℕ) → get_or (replicate count false) b false ≡ false
    none zero b = refl
    none (suc n) zero = refl
    none (suc n) (suc b) = none n b

pub flagged-one : (flags : List Bool) (block : ℕ) (blocks : List ℕ) → block < length flags → get_or flags block false ≡ false
    → AreFlagged flags blocks → AreFlagged (set flags block true) (block ∷ blocks)
flagged-one flags block blocks within fresh before = record {
  exact = λ b. at b (block == b) refl;
  once = and_from (not (list_any (λ m. block == m) blocks)) (all_differ blocks)
      (not_from_false _ (turned block blocks ∙ sym (before.exact block) ∙ fresh)) before.once;
}
  where
    at : (b : ℕ) (same : Bool) → (block == b) ≡ same → get_or (set flags block true) b false ≡ ((block == b) || is_in b blocks)
    at b true is =
        ap (λ n. get_or (set flags block true) n false) (sym (eqb-true block b is))
        ∙ get_or-set_same flags block true false within ∙ sym (or_left (block == b) (is_in b blocks) is)
    at b false is =
        get_or-set_other flags block b true false (λ e. true≢false (sym (eq-eqb block b (sym e)) ∙ is))
        ∙ before.exact b ∙ ap (λ x. x || is_in b blocks) (sym is)

-- one further back in the list
pub flagged-step : (flags : List Bool) (blocks : List ℕ) (k : ℕ) → k < length blocks → get_or blocks k 0 < length flags
    → get_or flags (get_or blocks k 0) false ≡ false → AreFlagged flags (drop (k + 1) blocks)
    → AreFlagged (set flags (get_or blocks k 0) true) (drop k blocks)
flagged-step flags blocks k inside within fresh before =
    subst (AreFlagged (set flags (get_or blocks k 0) true)) (sym (drop_more blocks k 0 inside))
    (flagged-one flags (get_or blocks k 0) (drop (k + 1) blocks) within fresh before)

-- the block is flagged, or is one of those that are still to be flagged
abbrev pub IsToBe : List Bool → List ℕ → ℕ → Type 0
IsToBe flags blocks b = (get_or flags b true ≡ true) ⊎ (is_in b blocks ≡ true)

stays : (flags : List Bool) (block b : ℕ) → get_or flags b true ≡ true → get_or (set flags block true) b true ≡ true
stays [] zero b is = is
stays [] (suc n) b is = is
stays (f ∷ flags) zero zero is = refl
stays (f ∷ flags) zero (suc b) is = is
stays (f ∷ flags) (suc n) zero is = is
stays (f ∷ flags) (suc n) (suc b) is = stays flags n b is

comes : (flags : List Bool) (block : ℕ) → get_or (set flags block true) block true ≡ true
comes [] zero = refl
comes [] (suc n) = refl
comes (f ∷ flags) zero = refl
comes (f ∷ flags) (suc n) = comes flags n

-- a flag is set, or there is none for the block
pub to-be-step : (flags : List Bool) (blocks : List ℕ) (k b : ℕ) → k < length blocks → IsToBe flags (drop k blocks) b
    → IsToBe (set flags (get_or blocks k 0) true) (drop (k + 1) blocks) b
to-be-step flags blocks k b inside (inl is) = inl (stays flags (get_or blocks k 0) b is)
to-be-step flags blocks k b inside (inr is) = by (get_or blocks k 0 == b) refl
  where
    found : (is_in b (get_or blocks k 0 ∷ drop (k + 1) blocks)) ≡ true
    found = ap (is_in b) (sym (drop_more blocks k 0 inside)) ∙ is

    by : (same : Bool) → (get_or blocks k 0 == b) ≡ same → IsToBe (set flags (get_or blocks k 0) true) (drop (k + 1) blocks) b
    by true same = inl (subst (λ n. get_or (set flags (get_or blocks k 0) true) n true ≡ true) (eqb-true _ b same) (comes flags (get_or blocks k 0)))
    by false same = inr (ap (λ x. x || is_in b (drop (k + 1) blocks)) (sym same) ∙ found)

pub past-all : (flags : List Bool) (block : ℕ) → length flags ≤ block → set flags block true ≡ flags
past-all [] zero over = refl
past-all [] (suc n) over = refl
past-all (f ∷ flags) zero over = absurd (omega (arith, over))
past-all (f ∷ flags) (suc n) over = ap (λ l. f ∷ l) (past-all flags n (omega (arith, over)))

pub known : (flags : List Bool) (b : ℕ) → get_or flags b false ≡ true → get_or flags b true ≡ true
known [] b is = absurd (true≢false (sym is))
known (f ∷ flags) zero is = is
known (f ∷ flags) (suc b) is = known flags b is
