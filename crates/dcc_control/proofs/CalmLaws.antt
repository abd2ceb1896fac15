-- Items without a `continue` of their own are valid wherever a `continue` leads.
use Rattle.std.proofs.Common.{◌≡◌, ℕ, suc, Bool, true, false, refl, ap, ◌∙◌, subst, true≢false}
use Rattle.std.specs.Prelude.{not, if◌then◌else◌}
use Rattle.std.proofs.lemmas.Bool.{or_parts}
use Rattle.dcc_ir.specs.Tree as inner
use Rattle.dcc_control.specs.Plan.{Item, Do, Mark, Jump, If, Switch, Return, For, While, DoWhile, Break, Continue, Empty, Plan, no_items, item, Arms, no_arms, arm, arm_with, is_in}
use Rattle.dcc_control.specs.Told.{continues, item_continues, arms_continue}
use Rattle.dcc_control.specs.Valid.{Point, Begin, Before, Nowhere, Leads, Context, end_of, way, item_entry, entry, IsValidBy, IsValidItemBy, AreValidArmsBy}

arm-calm : (n : ℕ) (arms : Arms) → arms_continue arms ≡ false → continues (arm_with n arms) ≡ false
arm-calm n no_arms calm = refl
arm-calm n (arm cases body arms) calm =
    let (here, later) = or_parts (continues body) (arms_continue arms) calm in
    by (is_in n cases) here (arm-calm n arms later)
  where
    by : (x : Bool) → continues body ≡ false → continues (arm_with n arms) ≡ false → continues (if x then body else arm_with n arms) ≡ false
    by true here later = here
    by false here later = later

module _ (graph : inner.Graph) (begun marked : ℕ → Bool) (to : Point) where
  abbrev Valid : Plan → Context → Type 0
  Valid = IsValidBy graph begun marked

  abbrev Goes : ℕ → Plan → Context → Type 0
  Goes b plan c = Leads graph begun (Begin b) (entry graph plan c)

  item-entry-calm : (i : Item) (c : Context) → item_continues i ≡ false → item_entry graph i c ≡ item_entry graph i (record c { at_continue = to })
  item-entry-calm Continue c calm = absurd (true≢false calm)
  item-entry-calm _ c calm = refl

  pub entry-calm : (plan : Plan) (c : Context) → continues plan ≡ false → entry graph plan c ≡ entry graph plan (record c { at_continue = to })
  entry-calm no_items c calm = refl
  entry-calm (item i plan) c calm =
      let (here, later) = or_parts (item_continues i) (continues plan) calm in
      item-entry-calm i (record c { next = entry graph plan c }) here ∙ ap (λ next. item_entry graph i (record c { next = next; at_continue = to })) (entry-calm plan c later)

  goes-calm : (b : ℕ) (plan : Plan) (c : Context) → continues plan ≡ false → Goes b plan c → Goes b plan (record c { at_continue = to })
  goes-calm b plan c calm l = subst (Leads graph begun (Begin b)) (entry-calm plan c calm) l

  mutual
    pub valid-calm : (plan : Plan) (c : Context) → continues plan ≡ false → Valid plan c → Valid plan (record c { at_continue = to })
    valid-calm no_items c calm v = tt
    valid-calm (item i plan) c calm v =
        let (here, later) = or_parts (item_continues i) (continues plan) calm in
        (item-calm i plan c here (entry-calm plan c later) v.0, valid-calm plan c later v.1)

    item-calm : (i : Item) (plan : Plan) (c : Context) → item_continues i ≡ false → entry graph plan c ≡ entry graph plan (record c { at_continue = to })
        → IsValidItemBy graph begun marked i plan c → IsValidItemBy graph begun marked i plan (record c { at_continue = to })
    item-calm (Do b m) plan c calm same (inside, there, l) = (inside, there, subst (Leads graph begun (Before b (suc m))) same l)
    item-calm (Mark b) plan c calm same (inside, l) = (inside, subst (Leads graph begun (Before b 0)) same l)
    item-calm (Jump b) plan c calm same v = v
    item-calm (If b one other) plan c calm same (test, yes_place, no_place, exit, inside, first, first_valid, second, second_valid) =
        let (here, there) = or_parts (continues one) (continues other) calm in (
          test,
          yes_place,
          no_place,
          exit,
          inside,
          subst (λ e. Goes yes_place one (record c { next = e; at_continue = to })) same (goes-calm yes_place one _ here first),
          subst (λ e. Valid one (record c { next = e; at_continue = to })) same (valid-calm one _ here first_valid),
          subst (λ e. Goes no_place other (record c { next = e; at_continue = to })) same (goes-calm no_place other _ there second),
          subst (λ e. Valid other (record c { next = e; at_continue = to })) same (valid-calm other _ there second_valid),
        )
    item-calm (Switch b arms) plan c calm same (e, places, exit, inside, lead, valid) = (
      e,
      places,
      exit,
      inside,
      λ n place at. subst (λ p. Goes place (arm_with n arms) (record { next = p; at_break = p; at_continue = to })) same
          (goes-calm place (arm_with n arms) _ (arm-calm n arms calm) (lead n place at)),
      subst (λ p. AreValidArmsBy graph begun marked arms (record { next = p; at_break = p; at_continue = to })) same (arms-valid-calm arms _ calm valid),
    )
    item-calm (Return b) plan c calm same v = v
    item-calm (For b body) plan c calm same (inside, l, valid) = (
      inside,
      subst (λ e. Leads graph begun (Before b 0) (entry graph body (record { next = Begin b; at_break = e; at_continue = Begin b }))) same l,
      subst (λ e. Valid body (record { next = Begin b; at_break = e; at_continue = Begin b })) same valid,
    )
    item-calm (While on b body) plan c calm same (test, yes_place, no_place, exit, inside, none, l, valid, leaves) = (
      test,
      yes_place,
      no_place,
      exit,
      inside,
      none,
      subst (λ e. Goes (way on yes_place no_place) body (record { next = Begin b; at_break = e; at_continue = Begin b })) same l,
      subst (λ e. Valid body (record { next = Begin b; at_break = e; at_continue = Begin b })) same valid,
      subst (Leads graph begun (Begin (way (not on) yes_place no_place))) same leaves,
    )
    item-calm (DoWhile on b head body) plan c calm same (test, yes_place, no_place, exit, inside, head_inside, starts, first, again, valid, leaves) = (
      test,
      yes_place,
      no_place,
      exit,
      inside,
      head_inside,
      starts,
      subst (λ e. Leads graph begun (Before head 0) (entry graph body (record { next = end_of graph b; at_break = e; at_continue = Nowhere }))) same first,
      subst (λ e. Goes (way on yes_place no_place) body (record { next = end_of graph b; at_break = e; at_continue = Nowhere })) same again,
      subst (λ e. Valid body (record { next = end_of graph b; at_break = e; at_continue = Nowhere })) same valid,
      subst (Leads graph begun (Begin (way (not on) yes_place no_place))) same leaves,
    )
    item-calm Break plan c calm same v = tt
    item-calm Continue plan c calm same v = tt
    item-calm Empty plan c calm same v = tt

    arms-valid-calm : (arms : Arms) (c : Context) → arms_continue arms ≡ false → AreValidArmsBy graph begun marked arms c → AreValidArmsBy graph begun marked arms (record c { at_continue = to })
    arms-valid-calm no_arms c calm v = tt
    arms-valid-calm (arm cases body arms) c calm v =
        let (here, later) = or_parts (continues body) (arms_continue arms) calm in
        (valid-calm body c here v.0, arms-valid-calm arms c later v.1)
