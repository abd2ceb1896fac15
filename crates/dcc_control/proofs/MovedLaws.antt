-- Items stay valid before what has the same entry, and a plan is valid where its parts are.
use Rattle.std.proofs.Common.{◌≡◌, ℕ, suc, Bool, refl, sym, subst}
use Rattle.std.specs.Prelude.{not}
use Rattle.dcc_ir.specs.Tree as inner
use Rattle.dcc_control.specs.Plan.{Item, Do, Mark, Jump, If, Switch, Return, For, While, DoWhile, Break, Continue, Empty, Plan, no_items, item, arm_with, joined}
use Rattle.dcc_control.specs.Valid.{Point, Begin, Before, Nowhere, Leads, Context, end_of, way, entry, IsValidBy, IsValidItemBy, AreValidArmsBy}

module _ (graph : inner.Graph) (begun marked : ℕ → Bool) where
  abbrev Valid : Plan → Context → Type 0
  Valid = IsValidBy graph begun marked

  -- an item before a plan, in a context that goes on at the first point, and before another that has the same entry where
  -- it goes on at the second one
  module _ (plan after : Plan) (c : Context) (p q : Point) (same : entry graph plan (record c { next = p }) ≡ entry graph after (record c { next = q })) where
    pub moved : (i : Item) → IsValidItemBy graph begun marked i plan (record c { next = p }) → IsValidItemBy graph begun marked i after (record c { next = q })
    moved (Do b m) (inside, there, l) = (inside, there, subst (Leads graph begun (Before b (suc m))) same l)
    moved (Mark b) (inside, l) = (inside, subst (Leads graph begun (Before b 0)) same l)
    moved (Jump b) v = v
    moved (If b one two) (test, yes_place, no_place, exit, inside, first, first_valid, second, second_valid) = (
      test,
      yes_place,
      no_place,
      exit,
      inside,
      subst (λ e. Leads graph begun (Begin yes_place) (entry graph one (record c { next = e }))) same first,
      subst (λ e. Valid one (record c { next = e })) same first_valid,
      subst (λ e. Leads graph begun (Begin no_place) (entry graph two (record c { next = e }))) same second,
      subst (λ e. Valid two (record c { next = e })) same second_valid,
    )
    moved (Switch b arms) (e, places, exit, inside, lead, valid) = (
      e,
      places,
      exit,
      inside,
      λ n place at. subst (λ e. Leads graph begun (Begin place) (entry graph (arm_with n arms) (record { next = e; at_break = e; at_continue = c.at_continue }))) same (lead n place at),
      subst (λ e. AreValidArmsBy graph begun marked arms (record { next = e; at_break = e; at_continue = c.at_continue })) same valid,
    )
    moved (Return b) v = v
    moved (For b body) (inside, l, valid) = (
      inside,
      subst (λ e. Leads graph begun (Before b 0) (entry graph body (record { next = Begin b; at_break = e; at_continue = Begin b }))) same l,
      subst (λ e. Valid body (record { next = Begin b; at_break = e; at_continue = Begin b })) same valid,
    )
    moved (While on b body) (test, yes_place, no_place, exit, inside, none, l, valid, leaves) = (
      test,
      yes_place,
      no_place,
      exit,
      inside,
      none,
      subst (λ e. Leads graph begun (Begin (way on yes_place no_place)) (entry graph body (record { next = Begin b; at_break = e; at_continue = Begin b }))) same l,
      subst (λ e. Valid body (record { next = Begin b; at_break = e; at_continue = Begin b })) same valid,
      subst (Leads graph begun (Begin (way (not on) yes_place no_place))) same leaves,
    )
    moved (DoWhile on b head body) (test, yes_place, no_place, exit, inside, head_inside, starts, first, again, valid, leaves) = (
      test,
      yes_place,
      no_place,
      exit,
      inside,
      head_inside,
      starts,
      subst (λ e. Leads graph begun (Before head 0) (entry graph body (record { next = end_of graph b; at_break = e; at_continue = Nowhere }))) same first,
      subst (λ e. Leads graph begun (Begin (way on yes_place no_place)) (entry graph body (record { next = end_of graph b; at_break = e; at_continue = Nowhere }))) same again,
      subst (λ e. Valid body (record { next = end_of graph b; at_break = e; at_continue = Nowhere })) same valid,
      subst (Leads graph begun (Begin (way (not on) yes_place no_place))) same leaves,
    )
    moved Break v = tt
    moved Continue v = tt
    moved Empty v = tt

  pub joined-entry : (plan after : Plan) (c : Context) → entry graph (joined plan after) c ≡ entry graph plan (record c { next = entry graph after c })
  joined-entry no_items after c = refl
  joined-entry (item (Do b m) plan) after c = refl
  joined-entry (item (Mark b) plan) after c = refl
  joined-entry (item (Jump b) plan) after c = refl
  joined-entry (item (If b one other) plan) after c = refl
  joined-entry (item (Switch b arms) plan) after c = refl
  joined-entry (item (Return b) plan) after c = refl
  joined-entry (item (For b body) plan) after c = refl
  joined-entry (item (While on b body) plan) after c = refl
  joined-entry (item (DoWhile on b head body) plan) after c = refl
  joined-entry (item Break plan) after c = refl
  joined-entry (item Continue plan) after c = refl
  joined-entry (item Empty plan) after c = joined-entry plan after c

  -- items before others are valid where they are so before the others' entry
  pub joined-valid : (plan after : Plan) (c : Context) → Valid plan (record c { next = entry graph after c }) → Valid after c → Valid (joined plan after) c
  joined-valid no_items after c v w = w
  joined-valid (item i plan) after c v w =
      (moved plan (joined plan after) c (entry graph after c) c.next (sym (joined-entry plan after c)) i v.0, joined-valid plan after c v.1 w)

  pub front-valid : (plan after : Plan) (c : Context) → Valid (joined plan after) c → Valid plan (record c { next = entry graph after c })
  front-valid no_items after c v = tt
  front-valid (item i plan) after c v =
      (moved (joined plan after) plan c c.next (entry graph after c) (joined-entry plan after c) i v.0, front-valid plan after c v.1)

  pub back-valid : (plan after : Plan) (c : Context) → Valid (joined plan after) c → Valid after c
  back-valid no_items after c v = v
  back-valid (item i plan) after c v = back-valid plan after c v.1
