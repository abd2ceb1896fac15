-- A plan whose loops are told by their tests is a plan of the same graph.
use Rattle.std.proofs.Common.{◌≡◌, ℕ, inl, inr, Bool, true, false, List, [], ◌∷◌, length, refl, sym, ap, ◌∙◌, subst}
use Rattle.std.specs.Prelude.{◌&&◌, if◌then◌else◌}
use Rattle.std.proofs.lemmas.Bool.{or_left, or_right, or_cases}
use Rattle.dcc_ir.specs.Live.{block_in}
use Rattle.dcc_ir.specs.Tree as inner
use Rattle.dcc_ir.specs.WellFormed.{all_differ}
use Rattle.dcc_control.specs.Laws.{LiesIn}
use Rattle.dcc_control.specs.Plan.{Item, If, Switch, For, While, DoWhile, Plan, no_items, item, Arms, no_arms, arm, arm_with, joined, turns, is_in, is_marked, is_begun, is_of, starts_with, is_empty_statement, starts_empty}
use Rattle.dcc_control.specs.Told.{continues, told_loops, told_item, told_arms, ToldLoopsAreValid}
use Rattle.dcc_control.specs.Valid.{Point, Begin, Before, Nowhere, Leads, is_there, begins, goes, stops, Context, outside, end_of, way, only_begins, in_arms, in_loop, in_do, item_entry, entry, IsValidBy, IsValidItemBy, AreValidArmsBy}
use Rattle.dcc_control.proofs.WeakerLaws.{follows-still}
use Rattle.dcc_control.proofs.MovedLaws.{moved, joined-entry, joined-valid, front-valid, back-valid}
use Rattle.dcc_control.proofs.InsideLaws.{sides-valid, choice-valid, turns-valid, while-valid, do-valid}
use Rattle.dcc_control.proofs.CalmLaws.{entry-calm, valid-calm}
use Rattle.dcc_control.proofs.StartLaws.{does-more}
use Rattle.dcc_control.proofs.ToldShapes.{leaving, IsTold, stays, first, lasts, told-is, marks-told, turns-told}

module _ (graph : inner.Graph) (begun : ℕ → Bool) where
  leads-on : {p q r : Point} → Leads graph begun p q → Leads graph begun q r → Leads graph begun p r
  leads-on is_there m = m
  leads-on (begins apart l) m = begins apart (leads-on l m)
  leads-on (goes at is l) m = goes at is (leads-on l m)
  leads-on (stops at is) m = stops at is

  -- where the begin of a block leads to its test, the block has no statements
  at-test : (b n : ℕ) (test : inner.Expr) (one other : ℕ) → (block_in graph b).exit ≡ inner.If test one other → (p q : Point) → Leads graph begun p q → p ≡ Before b 0 → q ≡ Before b n → n ≡ 0
  at-test b n test one other exit p q is_there from to = cc
  at-test b n test one other exit p q (begins apart l) from to = absurd cc
  at-test b n test one other exit p q (goes {b = a} at is l) from to =
      let same : a ≡ b = cc in
      let both : inner.Goto _ ≡ inner.If test one other = sym is ∙ ap (λ k. (block_in graph k).exit) same ∙ exit in absurd cc
  at-test b n test one other exit p q (stops {b = a} at is) from to =
      let same : a ≡ b = cc in
      let both : inner.Stop ≡ inner.If test one other = sym is ∙ ap (λ k. (block_in graph k).exit) same ∙ exit in absurd cc

  no-stmts : (stmts : List inner.Stmt) → length stmts ≡ 0 → stmts ≡ []
  no-stmts [] is = refl
  no-stmts (stmt ∷ stmts) is = absurd cc

told-loop-entry : (graph : inner.Graph) {b : ℕ} {body : Plan} {i : Item} (c : Context) → IsTold b body i → item_entry graph i c ≡ Before b 0
told-loop-entry graph c stays = refl
told-loop-entry graph c (first on goes_on plan) = refl
told-loop-entry graph c (lasts on a plan calm starts) = refl

item-entry-told : (graph : inner.Graph) (i : Item) (c : Context) → item_entry graph (told_item i) c ≡ item_entry graph i c
item-entry-told graph (For b body) c = told-loop-entry graph c (told-is b (told_loops body))
item-entry-told graph _ c = refl

entry-told : (graph : inner.Graph) (plan : Plan) (c : Context) → entry graph (told_loops plan) c ≡ entry graph plan c
entry-told graph no_items c = refl
entry-told graph (item i plan) c =
    ap (λ next. item_entry graph (told_item i) (record c { next = next })) (entry-told graph plan c) ∙ item-entry-told graph i (record c { next = entry graph plan c })

-- what starts with an item of a block still does
of-loop : {h : ℕ} {body : Plan} {i : Item} (b : ℕ) → IsTold h body i → is_of b i ≡ false
of-loop b stays = refl
of-loop b (first on goes_on plan) = refl
of-loop b (lasts on a plan calm starts) = refl

pub of-told : (b : ℕ) (i : Item) → is_of b (told_item i) ≡ is_of b i
of-told b (For h body) = of-loop b (told-is h (told_loops body))
of-told b _ = refl

starts-told : (b : ℕ) (plan : Plan) → starts_with b plan ≡ true → starts_with b (told_loops plan) ≡ true
starts-told b no_items is = is
starts-told b (item i plan) is = of-told b i ∙ is

-- what starts with no empty statement still does
full-loop : {h : ℕ} {body : Plan} {i : Item} → IsTold h body i → is_empty_statement i ≡ false
full-loop stays = refl
full-loop (first on goes_on plan) = refl
full-loop (lasts on a plan calm starts) = refl

empty-told : (i : Item) → is_empty_statement (told_item i) ≡ is_empty_statement i
empty-told (For h body) = full-loop (told-is h (told_loops body))
empty-told _ = refl

first-told : (plan : Plan) → starts_empty (told_loops plan) ≡ starts_empty plan
first-told no_items = refl
first-told (item i plan) = empty-told i

-- nothing is both
and_no : (x : Bool) {y : Bool} → y ≡ false → (x && y) ≡ false
and_no true none = none
and_no false none = refl

arm-told : (n : ℕ) (arms : Arms) → arm_with n (told_arms arms) ≡ told_loops (arm_with n arms)
arm-told n no_arms = refl
arm-told n (arm cases body arms) = by (is_in n cases) (arm-told n arms)
  where
    by : (x : Bool) → arm_with n (told_arms arms) ≡ told_loops (arm_with n arms)
        → (if x then told_loops body else arm_with n (told_arms arms)) ≡ told_loops (if x then body else arm_with n arms)
    by true later = refl
    by false later = later

module _ (graph : inner.Graph) (begun marked : ℕ → Bool) where
  abbrev Valid : Plan → Context → Type 0
  Valid = IsValidBy graph begun marked

  abbrev ValidItem : Item → Plan → Context → Type 0
  ValidItem = IsValidItemBy graph begun marked

  -- a loop whose first item is a test
  first-valid : (on : Bool) (b : ℕ) (goes_on rest plan : Plan) (c : Context)
      → ValidItem (For b (item (leaving on b goes_on) rest)) plan c → ValidItem (While on b (joined goes_on rest)) plan c
  first-valid true b goes_on rest plan c (inside, lead, ((test, one, other, exit, known, first_leads, first_valid, second_leads, second_valid), valid)) =
      let loop = in_loop graph b plan c in (
        test,
        one,
        other,
        exit,
        known,
        no-stmts graph begun (block_in graph b).stmts (at-test graph begun b _ test one other exit _ _ lead refl refl),
        subst (Leads graph begun (Begin one)) (sym (joined-entry graph begun marked goes_on rest loop)) first_leads,
        joined-valid graph begun marked goes_on rest loop first_valid valid,
        second_leads,
      )
  first-valid false b goes_on rest plan c (inside, lead, ((test, one, other, exit, known, first_leads, first_valid, second_leads, second_valid), valid)) =
      let loop = in_loop graph b plan c in (
        test,
        one,
        other,
        exit,
        known,
        no-stmts graph begun (block_in graph b).stmts (at-test graph begun b _ test one other exit _ _ lead refl refl),
        subst (Leads graph begun (Begin other)) (sym (joined-entry graph begun marked goes_on rest loop)) second_leads,
        joined-valid graph begun marked goes_on rest loop second_valid valid,
        first_leads,
      )

  -- a loop whose last item is a test, without a `continue` of its own
  module _ (b a : ℕ) (body plan : Plan) (c : Context) (calm : continues body ≡ false) (starts : starts_with b body ≡ true) where
    abbrev at_test : Context
    at_test = record (in_loop graph b plan c) { next = end_of graph a }

    body-valid : Valid body at_test → Valid body (in_do graph a plan c)
    body-valid = valid-calm graph begun marked Nowhere body at_test calm

    body-leads : Leads graph begun (Before b 0) (entry graph body at_test) → Leads graph begun (Before b 0) (entry graph body (in_do graph a plan c))
    body-leads = subst (Leads graph begun (Before b 0)) (entry-calm graph begun marked Nowhere body at_test calm)

    -- a turn may begin without a step: the block has one later
    silent : Valid body at_test → only_begins graph begun b ≡ false
    silent valid = and_no (begun b) (does-more graph begun marked b body at_test valid starts)

    lasts-valid : (on : Bool) → ValidItem (For b (joined body (item (leaving on a no_items) no_items))) plan c → ValidItem (DoWhile on a b body) plan c
    lasts-valid true (inside, lead, valid) =
        let end = item (leaving true a no_items) no_items in
        let loop = in_loop graph b plan c in
        let (test, one, other, exit, known, first_leads, first_valid, second_leads, second_valid) = (back-valid graph begun marked body end loop valid).0 in
        let start = body-leads (subst (Leads graph begun (Before b 0)) (joined-entry graph begun marked body end loop) lead) in
        let front = front-valid graph begun marked body end loop valid in
        (test, one, other, exit, known, inside, starts, start, leads-on graph begun first_leads (begins (silent front) start), body-valid front, second_leads)
    lasts-valid false (inside, lead, valid) =
        let end = item (leaving false a no_items) no_items in
        let loop = in_loop graph b plan c in
        let (test, one, other, exit, known, first_leads, first_valid, second_leads, second_valid) = (back-valid graph begun marked body end loop valid).0 in
        let start = body-leads (subst (Leads graph begun (Before b 0)) (joined-entry graph begun marked body end loop) lead) in
        let front = front-valid graph begun marked body end loop valid in
        (test, one, other, exit, known, inside, starts, start, leads-on graph begun second_leads (begins (silent front) start), body-valid front, first_leads)

  loop-valid : {b : ℕ} {body : Plan} {i : Item} → IsTold b body i → (plan : Plan) (c : Context) → ValidItem (For b body) plan c → ValidItem i plan c
  loop-valid stays plan c v = v
  loop-valid {b = b} (first on goes_on rest) plan c v = first-valid on b goes_on rest plan c v
  loop-valid {b = b} (lasts on a body calm starts) plan c v = lasts-valid b a body plan c calm starts on v

  mutual
    told-valid : (plan : Plan) (c : Context) → Valid plan c → Valid (told_loops plan) c
    told-valid no_items c v = tt
    told-valid (item i plan) c v = (
      moved graph begun marked plan (told_loops plan) c c.next c.next (sym (entry-told graph plan c)) (told_item i)
          (item-told i plan c v.0),
      told-valid plan c v.1,
    )

    item-told : (i : Item) (plan : Plan) (c : Context) → ValidItem i plan c → ValidItem (told_item i) plan c
    item-told (If b one other) plan c v =
        sides-valid graph begun marked plan c b one other (told_loops one) (told_loops other) (entry-told graph one) (entry-told graph other) (told-valid one _ v.6) (told-valid other _ v.8) v
    item-told (Switch b arms) plan c v =
        choice-valid graph begun marked plan c b arms (told_arms arms) (λ n x. ap (λ p. entry graph p x) (arm-told n arms) ∙ entry-told graph (arm_with n arms) x) (arms-told arms _ v.5) v
    item-told (For b body) plan c v =
        loop-valid (told-is b (told_loops body)) plan c (turns-valid graph begun marked plan c b body (told_loops body) (entry-told graph body) (told-valid body _ v.2) v)
    item-told (While on b body) plan c v = while-valid graph begun marked plan c on b body (told_loops body) (entry-told graph body) (told-valid body _ v.7) v
    item-told (DoWhile on b head body) plan c v =
        do-valid graph begun marked plan c on b head body (told_loops body) (entry-told graph body) (starts-told head body) (told-valid body _ v.9) v
    item-told _ plan c v = v

    arms-told : (arms : Arms) (c : Context) → AreValidArmsBy graph begun marked arms c → AreValidArmsBy graph begun marked (told_arms arms) c
    arms-told no_arms c v = tt
    arms-told (arm cases body arms) c v = (
      told-valid body c v.0,
      arms-told arms c v.1,
    )

-- the text has a step at the begin of no more blocks
less-begun : (plan : Plan) → LiesIn (is_begun (told_loops plan)) (is_begun plan)
less-begun plan b is =
    let told = told_loops plan in
    elim (or_cases (is_marked told b) (is_in b (turns told)) is) [
      | inl marked ↦ or_left (is_marked plan b) (is_in b (turns plan)) (ap (is_in b) (sym (marks-told plan)) ∙ marked)
      | inr turning ↦ or_right (is_marked plan b) (is_in b (turns plan)) (turns-told plan b turning)
    ]

pub loops-valid : ToldLoopsAreValid
loops-valid graph plan is =
    let told = told_loops plan in
    let x = follows-still graph (is_begun plan) (is_begun told) (is_marked plan) (is_marked told) (less-begun plan) (λ b there. ap (is_in b) (marks-told plan) ∙ there)
    (Begin 0) plan outside (record { valid = is.valid; leads = is.starts }) in record {
      starts = subst (Leads graph (is_begun told) (Begin 0)) (sym (entry-told graph plan outside)) x.leads;
      valid = told-valid graph (is_begun told) (is_marked told) plan outside x.valid;
      labels = ap all_differ (marks-told plan) ∙ is.labels;
      first = first-told plan ∙ is.first;
    }
