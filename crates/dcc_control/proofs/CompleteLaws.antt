-- A completed plan is a plan of the same graph.
use Rattle.std.proofs.Common.{◌≡◌, ℕ, Bool, true, false, [], ◌∷◌, ◌++◌, refl, sym, ap, ap₂, ◌∙◌, subst}
use Rattle.std.specs.Prelude.{max, suc, not, ◌||◌, if◌then◌else◌}
use Rattle.dcc_ir.specs.Live.{block_in}
use Rattle.dcc_ir.specs.Tree as inner
use Rattle.dcc_ir.specs.WellFormed.{all_differ}
use Rattle.dcc_control.specs.Complete.{followed, some_arms, completed, completed_item, completed_arms, CompletePlansAreValid, CompletePlansKeepSteps}
use Rattle.dcc_control.specs.Laws.{CompletePlansNestAlike}
use Rattle.dcc_control.specs.Plan.{Item, If, Switch, For, While, DoWhile, Plan, no_items, item, Arms, no_arms, arm, arm_with, marks, item_marks, arm_marks, turns, item_turns, arm_turns, is_in, is_marked, is_begun, is_of, starts_with, is_mark, is_empty_statement, starts_empty, nests, item_nests, arms_nest}
use Rattle.dcc_control.specs.Valid.{Begin, Leads, Context, outside, item_entry, entry, only_goes, IsValidBy, IsValidItemBy, AreValidArmsBy}
use Rattle.dcc_control.proofs.WeakerLaws.{follows-still}
use Rattle.dcc_control.proofs.MovedLaws.{moved}
use Rattle.dcc_control.proofs.InsideLaws.{sides-valid, choice-valid, turns-valid, while-valid, do-valid}

-- A completed plan has the labels and the turns of the plan.

followed-marks : (labelled : Bool) (plan : Plan) → marks (followed labelled plan) ≡ marks plan
followed-marks true no_items = refl
followed-marks true (item i plan) = refl
followed-marks false plan = refl

some-marks : (arms : Arms) → arm_marks (some_arms arms) ≡ arm_marks arms
some-marks no_arms = refl
some-marks (arm cases body arms) = refl

mutual
  marks-same : (plan : Plan) → marks (completed plan) ≡ marks plan
  marks-same no_items = refl
  marks-same (item i plan) = ap₂ (λ xs ys. xs ++ ys) (item-marks-same i) (followed-marks (is_mark i) (completed plan) ∙ marks-same plan)

  item-marks-same : (i : Item) → item_marks (completed_item i) ≡ item_marks i
  item-marks-same (If b one other) = ap₂ (λ xs ys. xs ++ ys) (marks-same one) (marks-same other)
  item-marks-same (Switch b arms) = some-marks (completed_arms arms) ∙ arm-marks-same arms
  item-marks-same (For b body) = marks-same body
  item-marks-same (While on b body) = marks-same body
  item-marks-same (DoWhile on b head body) = marks-same body
  item-marks-same _ = refl

  arm-marks-same : (arms : Arms) → arm_marks (completed_arms arms) ≡ arm_marks arms
  arm-marks-same no_arms = refl
  arm-marks-same (arm cases body arms) = ap₂ (λ xs ys. xs ++ ys) (marks-same body) (arm-marks-same arms)

followed-turns : (labelled : Bool) (plan : Plan) → turns (followed labelled plan) ≡ turns plan
followed-turns true no_items = refl
followed-turns true (item i plan) = refl
followed-turns false plan = refl

some-turns : (arms : Arms) → arm_turns (some_arms arms) ≡ arm_turns arms
some-turns no_arms = refl
some-turns (arm cases body arms) = refl

mutual
  turns-same : (plan : Plan) → turns (completed plan) ≡ turns plan
  turns-same no_items = refl
  turns-same (item i plan) = ap₂ (λ xs ys. xs ++ ys) (item-turns-same i) (followed-turns (is_mark i) (completed plan) ∙ turns-same plan)

  item-turns-same : (i : Item) → item_turns (completed_item i) ≡ item_turns i
  item-turns-same (If b one other) = ap₂ (λ xs ys. xs ++ ys) (turns-same one) (turns-same other)
  item-turns-same (Switch b arms) = some-turns (completed_arms arms) ∙ arm-turns-same arms
  item-turns-same (For b body) = ap (λ ts. b ∷ ts) (turns-same body)
  item-turns-same (While on b body) = turns-same body
  item-turns-same (DoWhile on b head body) = turns-same body
  item-turns-same _ = refl

  arm-turns-same : (arms : Arms) → arm_turns (completed_arms arms) ≡ arm_turns arms
  arm-turns-same no_arms = refl
  arm-turns-same (arm cases body arms) = ap₂ (λ xs ys. xs ++ ys) (turns-same body) (arm-turns-same arms)

pub begun-same : (plan : Plan) (b : ℕ) → is_begun (completed plan) b ≡ is_begun plan b
begun-same plan b = ap₂ (λ ms ts. is_in b ms || is_in b ts) (marks-same plan) (turns-same plan)

pub steps-same : CompletePlansKeepSteps
steps-same graph plan b = ap (λ begun. begun || not (only_goes (block_in graph b).stmts (block_in graph b).exit)) (begun-same plan b)

-- A completed plan nests as deep as the plan.

followed-nests : (labelled : Bool) (plan : Plan) → nests (followed labelled plan) ≡ nests plan
followed-nests true no_items = refl
followed-nests true (item i plan) = refl
followed-nests false plan = refl

some-nests : (arms : Arms) → arms_nest (some_arms arms) ≡ arms_nest arms
some-nests no_arms = refl
some-nests (arm cases body arms) = refl

mutual
  pub nests-same : CompletePlansNestAlike
  nests-same no_items = refl
  nests-same (item i plan) = ap₂ max (item-nests-same i) (followed-nests (is_mark i) (completed plan) ∙ nests-same plan)

  item-nests-same : (i : Item) → item_nests (completed_item i) ≡ item_nests i
  item-nests-same (If b one other) = ap₂ (λ n m. suc (max n m)) (nests-same one) (nests-same other)
  item-nests-same (Switch b arms) = ap suc (some-nests (completed_arms arms) ∙ arms-nest-same arms)
  item-nests-same (For b body) = ap suc (nests-same body)
  item-nests-same (While on b body) = ap suc (nests-same body)
  item-nests-same (DoWhile on b head body) = ap suc (nests-same body)
  item-nests-same _ = refl

  arms-nest-same : (arms : Arms) → arms_nest (completed_arms arms) ≡ arms_nest arms
  arms-nest-same no_arms = refl
  arms-nest-same (arm cases body arms) = ap₂ max (nests-same body) (arms-nest-same arms)

-- It starts as the plan does.

of-same : (b : ℕ) (i : Item) → is_of b (completed_item i) ≡ is_of b i
of-same b (If a one other) = refl
of-same b _ = refl

starts-same : (b : ℕ) (plan : Plan) → starts_with b (completed plan) ≡ starts_with b plan
starts-same b no_items = refl
starts-same b (item i plan) = of-same b i

empty-same : (i : Item) → is_empty_statement (completed_item i) ≡ is_empty_statement i
empty-same (If a one other) = refl
empty-same _ = refl

first-same : (plan : Plan) → starts_empty (completed plan) ≡ starts_empty plan
first-same no_items = refl
first-same (item i plan) = empty-same i

module _ (graph : inner.Graph) where
  followed-entry : (labelled : Bool) (plan : Plan) (c : Context) → entry graph (followed labelled plan) c ≡ entry graph plan c
  followed-entry true no_items c = refl
  followed-entry true (item i plan) c = refl
  followed-entry false plan c = refl

  item-entry-same : (i : Item) (c : Context) → item_entry graph (completed_item i) c ≡ item_entry graph i c
  item-entry-same (If b one other) c = refl
  item-entry-same _ c = refl

  entry-same : (plan : Plan) (c : Context) → entry graph (completed plan) c ≡ entry graph plan c
  entry-same no_items c = refl
  entry-same (item i plan) c =
      ap (λ next. item_entry graph (completed_item i) (record c { next = next })) (followed-entry (is_mark i) (completed plan) c ∙ entry-same plan c)
      ∙ item-entry-same i (record c { next = entry graph plan c })

  some-entry : (n : ℕ) (arms : Arms) (c : Context) → entry graph (arm_with n (some_arms arms)) c ≡ entry graph (arm_with n arms) c
  some-entry n no_arms c = by (is_in n (0 ∷ []))
    where
      by : (x : Bool) → entry graph (if x then no_items else no_items) c ≡ c.next
      by true = refl
      by false = refl
  some-entry n (arm cases body arms) c = refl

arm-completed : (n : ℕ) (arms : Arms) → arm_with n (completed_arms arms) ≡ completed (arm_with n arms)
arm-completed n no_arms = refl
arm-completed n (arm cases body arms) = by (is_in n cases) (arm-completed n arms)
  where
    by : (x : Bool) → arm_with n (completed_arms arms) ≡ completed (arm_with n arms)
        → (if x then completed body else arm_with n (completed_arms arms)) ≡ completed (if x then body else arm_with n arms)
    by true later = refl
    by false later = later

module _ (graph : inner.Graph) (begun marked : ℕ → Bool) where
  abbrev Valid : Plan → Context → Type 0
  Valid = IsValidBy graph begun marked

  abbrev ValidItem : Item → Plan → Context → Type 0
  ValidItem = IsValidItemBy graph begun marked

  followed-valid : (labelled : Bool) (plan : Plan) (c : Context) → Valid plan c → Valid (followed labelled plan) c
  followed-valid true no_items c v = (tt, tt)
  followed-valid true (item i plan) c v = v
  followed-valid false plan c v = v

  some-valid : (arms : Arms) (c : Context) → AreValidArmsBy graph begun marked arms c → AreValidArmsBy graph begun marked (some_arms arms) c
  some-valid no_arms c v = (tt, tt)
  some-valid (arm cases body arms) c v = v

  mutual
    valid-same : (plan : Plan) (c : Context) → Valid plan c → Valid (completed plan) c
    valid-same no_items c v = tt
    valid-same (item i plan) c v = (
      moved graph begun marked plan (followed (is_mark i) (completed plan)) c c.next c.next (sym (followed-entry graph (is_mark i) (completed plan) c ∙ entry-same graph plan c)) (completed_item i)
          (item-valid i plan c v.0),
      followed-valid (is_mark i) (completed plan) c (valid-same plan c v.1),
    )

    item-valid : (i : Item) (plan : Plan) (c : Context) → ValidItem i plan c → ValidItem (completed_item i) plan c
    item-valid (If b one other) plan c v =
        sides-valid graph begun marked plan c b one other (completed one) (completed other) (entry-same graph one) (entry-same graph other) (valid-same one _ v.6) (valid-same other _ v.8) v
    item-valid (Switch b arms) plan c v =
        choice-valid graph begun marked plan c b arms (some_arms (completed_arms arms))
        (λ n x. some-entry graph n (completed_arms arms) x ∙ ap (λ p. entry graph p x) (arm-completed n arms) ∙ entry-same graph (arm_with n arms) x)
        (some-valid (completed_arms arms) _ (arms-valid arms _ v.5)) v
    item-valid (For b body) plan c v = turns-valid graph begun marked plan c b body (completed body) (entry-same graph body) (valid-same body _ v.2) v
    item-valid (While on b body) plan c v = while-valid graph begun marked plan c on b body (completed body) (entry-same graph body) (valid-same body _ v.7) v
    item-valid (DoWhile on b head body) plan c v =
        do-valid graph begun marked plan c on b head body (completed body) (entry-same graph body) (λ is. starts-same head body ∙ is) (valid-same body _ v.9) v
    item-valid _ plan c v = v

    arms-valid : (arms : Arms) (c : Context) → AreValidArmsBy graph begun marked arms c → AreValidArmsBy graph begun marked (completed_arms arms) c
    arms-valid no_arms c v = tt
    arms-valid (arm cases body arms) c v = (valid-same body c v.0, arms-valid arms c v.1)

pub completed-valid : CompletePlansAreValid
completed-valid graph plan is =
    let whole = completed plan in
    let x = follows-still graph (is_begun plan) (is_begun whole) (is_marked plan) (is_marked whole) (λ b there. sym (begun-same plan b) ∙ there) (λ b there. ap (is_in b) (marks-same plan) ∙ there)
    (Begin 0) plan outside (record { valid = is.valid; leads = is.starts }) in (
      record {
        starts = subst (Leads graph (is_begun whole) (Begin 0)) (sym (entry-same graph plan outside)) x.leads;
        valid = valid-same graph (is_begun whole) (is_marked whole) plan outside x.valid;
        labels = ap all_differ (marks-same plan) ∙ is.labels;
        first = first-same plan ∙ is.first;
      },
      λ all b inside. begun-same plan b ∙ all b inside,
    )
