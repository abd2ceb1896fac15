-- What the test of a plan tells of an item and of what follows it.
use Rattle.std.proofs.Common.{◌≡◌, ℕ, ◌≤◌, ◌<◌, ◌+◌, Bool, true, false, List, [], ◌∷◌, length, drop, get_or, Vec, Global, Some, refl, sym, ap, ap₂, ◌∙◌, subst, true≢false, arith}
use Rattle.std.specs.Prelude.{slice_get, if◌then◌else◌}
use Rattle.std.proofs.Math.Nat.{max-le}
use Rattle.std.proofs.lemmas.List.{drop_more, drop_all}
use Rattle.dcc_ir.specs.Live.{block_in}
use Rattle.dcc_ir.specs.Tree as inner
use Rattle.dcc_control.specs.Plan.{Item, Do, Mark, Jump, If, Switch, Return, For, While, DoWhile, Break, Continue, Empty, Plan, no_items, item, Arms, no_arms, arm, arm_with, is_empty_statement, starts_empty, is_in, is_begun, is_marked, nests, item_nests}
use Rattle.dcc_control.specs.Valid.{Point, Begin, Before, Leads, Context, outside, entry, item_entry, IsValidBy, IsValidItemBy}
use Rattle.dcc_control.specs.Views.{item_of, plan_of, arms_of}
use Rattle.dcc_control.specs.declared.item.Item.{Item as TheItem, If as IfOf, Switch as SwitchOf, For as ForOf}
use Rattle.dcc_control.specs.declared.item.Arm.{Arm as TheArm}
use Rattle.dcc_control.proofs.ItemRows.{if-item, switch-item, for-item}
use Rattle.dcc_control.proofs.WeakerLaws.{follows-still}
use Rattle.dcc_plan_check.specs.declared.point.Point.{Point as PointOf}
use Rattle.dcc_plan_check.specs.declared.point.Point.TheVariants.{Nowhere as NowhereOf}
use Rattle.dcc_plan_check.specs.Structured.{IsStructured}
use Rattle.dcc_plan_check.specs.declared.valid.Around.{Around}
use Rattle.dcc_plan_check.specs.declared.labels.Labels.{Labels}
use Rattle.dcc_plan_check.specs.Checked.{in_sides, in_arms, in_loop, AreLabels, point_of, context_of, is_begun_in, is_marked_in, FitsItem, Fits, FitArms}

-- an item that is valid where a point comes next is so before items that stand for the point
pub with-rest : (graph : inner.Graph) (begun marked : ℕ → Bool) (i : Item) (plan : Plan) (c : Context)
    → IsValidItemBy graph begun marked i no_items (record c { next = entry graph plan c }) → IsValidItemBy graph begun marked i plan c
with-rest graph begun marked (Do b m) plan c v = v
with-rest graph begun marked (Mark b) plan c v = v
with-rest graph begun marked (Jump b) plan c v = v
with-rest graph begun marked (If b one other) plan c v = v
with-rest graph begun marked (Switch b arms) plan c v = v
with-rest graph begun marked (Return b) plan c v = v
with-rest graph begun marked (For b body) plan c v = v
with-rest graph begun marked (While on b body) plan c v = v
with-rest graph begun marked (DoWhile on b head body) plan c v = v
with-rest graph begun marked Break plan c v = v
with-rest graph begun marked Continue plan c v = v
with-rest graph begun marked Empty plan c v = v

-- Where items start.

-- another item than an empty statement starts so whatever follows, and an empty statement where what follows does
item-alone : (graph : inner.Graph) (i : Item) (c : Context) (next : Point) → is_empty_statement i ≡ false → item_entry graph i (record c { next = next }) ≡ item_entry graph i c
item-alone graph Empty c next is = absurd (true≢false is)
item-alone graph _ c next is = refl

item-empty : (graph : inner.Graph) (i : Item) (c : Context) → is_empty_statement i ≡ true → item_entry graph i c ≡ c.next
item-empty graph Empty c is = refl
item-empty graph _ c is = absurd (true≢false (sym is))

-- the items that are left, where the first of them is an empty statement, and where it is another
module _ (graph : inner.Graph) (items : List TheItem) (k : ℕ) (i : TheItem) (c : Context) (within : k < length items) (is : i ≡ get_or items k i) where
  left-is : drop k items ≡ i ∷ drop (k + 1) items
  left-is = drop_more items k i within ∙ ap (λ x. x ∷ drop (k + 1) items) (sym is)

  pub entry-found : is_empty_statement (item_of i) ≡ false → item_entry graph (item_of i) c ≡ entry graph (plan_of (drop k items)) c
  entry-found some =
      sym (ap (λ l. entry graph (plan_of l) c) left-is ∙ item-alone graph (item_of i) c (entry graph (plan_of (drop (k + 1) items)) c) some)

  pub entry-passed : is_empty_statement (item_of i) ≡ true → entry graph (plan_of (drop k items)) c ≡ entry graph (plan_of (drop (k + 1) items)) c
  entry-passed none =
      ap (λ l. entry graph (plan_of l) c) left-is ∙ item-empty graph (item_of i) (record c { next = entry graph (plan_of (drop (k + 1) items)) c }) none

-- The first arm with a case, among those that are left.

pub arm-found : (arms : List TheArm) (k n : ℕ) (x : TheArm) → k < length arms → x ≡ get_or arms k x → is_in n x.cases.items ≡ true
    → arm_with n (arms_of (drop k arms)) ≡ plan_of x.body.items
arm-found arms k n x within is found =
    ap (λ l. arm_with n (arms_of l)) (drop_more arms k x within ∙ ap (λ y. y ∷ drop (k + 1) arms) (sym is))
    ∙ ap (λ t. if t then plan_of x.body.items else arm_with n (arms_of (drop (k + 1) arms))) found

pub arm-passed : (arms : List TheArm) (k n : ℕ) (x : TheArm) → k < length arms → x ≡ get_or arms k x → is_in n x.cases.items ≡ false
    → arm_with n (arms_of (drop k arms)) ≡ arm_with n (arms_of (drop (k + 1) arms))
arm-passed arms k n x within is passed =
    ap (λ l. arm_with n (arms_of l)) (drop_more arms k x within ∙ ap (λ y. y ∷ drop (k + 1) arms) (sym is))
    ∙ ap (λ t. if t then plan_of x.body.items else arm_with n (arms_of (drop (k + 1) arms))) passed

module _ (graph : inner.Graph) (labels : Labels) where
  -- items that fit and stand for the point
  pub record Stands (plan : Plan) (a : Around) (next : PointOf) : Type 0 where
    pub fits : Fits graph labels plan a
    pub at : point_of next ≡ entry graph plan (context_of a)

  pub stands-none : (a : Around) → Stands no_items a a.next
  stands-none a = record { fits = record { valid = tt; nesting = omega arith }; at = refl }

  pub stands-one : (i : Item) (plan : Plan) (a : Around) (next now : PointOf) → Stands plan a next
      → FitsItem graph labels i (record a { next = next }) → point_of now ≡ item_entry graph i (context_of (record a { next = next })) → Stands (item i plan) a now
  stands-one i plan a next now rest fits is =
      let begun : ℕ → Bool = is_begun_in labels.begun.items in
      let marked : ℕ → Bool = is_marked_in labels.marked.items in
      let c : Context = context_of a in
      let valid : IsValidItemBy graph begun marked i no_items (record c { next = entry graph plan c }) =
      subst (λ p. IsValidItemBy graph begun marked i no_items (record c { next = p })) rest.at fits.valid in
      record {
        fits = record { valid = (with-rest graph begun marked i plan c valid, rest.fits.valid); nesting = max-le fits.nesting rest.fits.nesting };
        at = is ∙ ap (λ p. item_entry graph i (record c { next = p })) rest.at;
      }

  -- what is left of a list of items, one further back
  pub stands-step : (items : List TheItem) (k : ℕ) (i : TheItem) (a : Around) (next now : PointOf) → k < length items → i ≡ get_or items k i
      → Stands (plan_of (drop (k + 1) items)) a next → FitsItem graph labels (item_of i) (record a { next = next })
      → point_of now ≡ item_entry graph (item_of i) (context_of (record a { next = next })) → Stands (plan_of (drop k items)) a now
  stands-step items k i a next now within is rest fits entry_is =
      let left : drop k items ≡ i ∷ drop (k + 1) items = drop_more items k i within ∙ ap (λ x. x ∷ drop (k + 1) items) (sym is) in
      subst (λ l. Stands (plan_of l) a now) (sym left) (stands-one (item_of i) (plan_of (drop (k + 1) items)) a next now rest fits entry_is)

  pub stands-first : (items : List TheItem) (k : ℕ) (a : Around) → length items ≤ k → Stands (plan_of (drop k items)) a a.next
  stands-first items k a over = subst (λ l. Stands (plan_of l) a a.next) (sym (drop_all k items over)) (stands-none a)

  pub arms-none : (a : Around) → FitArms graph labels no_arms a
  arms-none a = record { valid = tt; nesting = omega arith }

  pub arms-one : (x : TheArm) (arms : List TheArm) (a : Around) → Fits graph labels (plan_of x.body.items) a
      → FitArms graph labels (arms_of arms) a → FitArms graph labels (arms_of (x ∷ arms)) a
  arms-one x arms a one rest = record { valid = (one.valid, rest.valid); nesting = max-le one.nesting rest.nesting }

  pub arms-step : (arms : List TheArm) (k : ℕ) (x : TheArm) (a : Around) → k < length arms → x ≡ get_or arms k x
      → Fits graph labels (plan_of x.body.items) a → FitArms graph labels (arms_of (drop (k + 1) arms)) a
      → FitArms graph labels (arms_of (drop k arms)) a
  arms-step arms k x a within is one rest =
      let left : drop k arms ≡ x ∷ drop (k + 1) arms = drop_more arms k x within ∙ ap (λ y. y ∷ drop (k + 1) arms) (sym is) in
      subst (λ l. FitArms graph labels (arms_of l) a) (sym left) (arms-one x (drop (k + 1) arms) a one rest)

  pub arms-first : (arms : List TheArm) (k : ℕ) (a : Around) → length arms ≤ k → FitArms graph labels (arms_of (drop k arms)) a
  arms-first arms k a over = subst (λ l. FitArms graph labels (arms_of l) a) (sym (drop_all k arms over)) (arms-none a)

  -- what fits by one name fits by another
  pub fits-as : (given body items : List TheItem) (a b : Around) → given ≡ items → body ≡ items → a ≡ b
      → Fits graph labels (plan_of given) a → Fits graph labels (plan_of body) b
  fits-as given body items a b is_given is_body same fits =
      subst (λ x. Fits graph labels (plan_of body) x) same (subst (λ l. Fits graph labels (plan_of l) a) (is_given ∙ sym is_body) fits)

  pub arms-as : (given inner_arms arms : List TheArm) (a b : Around) → given ≡ arms → inner_arms ≡ arms → a ≡ b
      → FitArms graph labels (arms_of given) a → FitArms graph labels (arms_of inner_arms) b
  arms-as given inner_arms arms a b is_given is_inner same fits =
      subst (λ x. FitArms graph labels (arms_of inner_arms) x) same
      (subst (λ l. FitArms graph labels (arms_of l) a) (is_given ∙ sym is_inner) fits)

  -- Items with others inside, for which there is room.

  pub fits-test : (b : ℕ) (one other : Plan) (a : Around) (yes_place no_place : ℕ) (test : inner.Expr) → b < length graph.blocks
      → (block_in graph b).exit ≡ inner.If test yes_place no_place → 0 < a.room
      → Leads graph (is_begun_in labels.begun.items) (Begin yes_place) (entry graph one (context_of a))
      → Leads graph (is_begun_in labels.begun.items) (Begin no_place) (entry graph other (context_of a))
      → Fits graph labels one (in_sides a) → Fits graph labels other (in_sides a) → FitsItem graph labels (If b one other) a
  fits-test b one other a yes_place no_place test within exit some first second one_fits other_fits =
      let nesting = max-le one_fits.nesting other_fits.nesting in
      record {
        valid = (test, yes_place, no_place, exit, within, first, one_fits.valid, second, other_fits.valid);
        nesting = omega (arith, nesting, some);
      }

  pub fits-choice : (b : ℕ) (arms : Arms) (a : Around) (e : inner.Expr) (places : List ℕ) → b < length graph.blocks
      → (block_in graph b).exit ≡ inner.Switch e places → 0 < a.room
      → ((n place : ℕ) → slice_get places n ≡ Some place
      → Leads graph (is_begun_in labels.begun.items) (Begin place) (entry graph (arm_with n arms) (context_of (in_arms a))))
      → FitArms graph labels arms (in_arms a) → FitsItem graph labels (Switch b arms) a
  fits-choice b arms a e places within exit some lead arms_fit =
      let nesting = arms_fit.nesting in
      record { valid = (e, places, exit, within, lead, arms_fit.valid); nesting = omega (arith, nesting, some) }

  pub fits-loop : (b : ℕ) (body : Plan) (a : Around) → b < length graph.blocks → 0 < a.room
      → Leads graph (is_begun_in labels.begun.items) (Before b 0) (entry graph body (context_of (in_loop b a)))
      → Fits graph labels body (in_loop b a) → FitsItem graph labels (For b body) a
  fits-loop b body a within some lead fits =
      let nesting = fits.nesting in
      record { valid = (within, lead, fits.valid); nesting = omega (arith, nesting, some) }

  pub item-if : (i : TheItem) (b : ℕ) (one other : Vec TheItem Global) (first second : List TheItem) (a : Around) → i ≡ IfOf b one other
      → first ≡ one.items → second ≡ other.items → FitsItem graph labels (If b (plan_of first) (plan_of second)) a → FitsItem graph labels (item_of i) a
  item-if i b one other first second a is of_one of_other fits =
      subst (λ x. FitsItem graph labels x a)
      (ap₂ (λ x y. If b (plan_of x) (plan_of y)) of_one of_other ∙ sym (if-item b one other) ∙ ap item_of (sym is)) fits

  pub item-switch : (i : TheItem) (b : ℕ) (arms : Vec TheArm Global) (given : List TheArm) (a : Around) → i ≡ SwitchOf b arms → given ≡ arms.items
      → FitsItem graph labels (Switch b (arms_of given)) a → FitsItem graph labels (item_of i) a
  item-switch i b arms given a is of_arms fits =
      subst (λ x. FitsItem graph labels x a) (ap (λ x. Switch b (arms_of x)) of_arms ∙ sym (switch-item b arms) ∙ ap item_of (sym is)) fits

  pub item-for : (i : TheItem) (b : ℕ) (body : Vec TheItem Global) (given : List TheItem) (a : Around) → i ≡ ForOf b body → given ≡ body.items
      → FitsItem graph labels (For b (plan_of given)) a → FitsItem graph labels (item_of i) a
  item-for i b body given a is of_body fits =
      subst (λ x. FitsItem graph labels x a) (ap (λ x. For b (plan_of x)) of_body ∙ sym (for-item b body) ∙ ap item_of (sym is)) fits

  -- a plan that fits by its own labels is one of the graph
  pub is-structured : (plan : Plan) → AreLabels plan labels → starts_empty plan ≡ false
      → Leads graph (is_begun_in labels.begun.items) (Begin 0) (entry graph plan outside)
      → Fits graph labels plan (record { next = NowhereOf; at_break = NowhereOf; at_continue = NowhereOf; room = 200 })
      → IsStructured graph plan
  is-structured plan are first lead fits =
      let follows = follows-still graph (is_begun_in labels.begun.items) (is_begun plan) (is_marked_in labels.marked.items) (is_marked plan)
      are.begun are.marked (Begin 0) plan outside (record { valid = fits.valid; leads = lead }) in
      record { valid = record { starts = follows.leads; valid = follows.valid; labels = are.once; first = first }; nesting = fits.nesting }
