-- Items stay valid where what stands inside them is changed for what has the same entry and is valid.
use Rattle.std.proofs.Common.{◌≡◌, ℕ, Bool, true, sym, subst}
use Rattle.dcc_ir.specs.Tree as inner
use Rattle.dcc_control.specs.Plan.{Item, If, Switch, For, While, DoWhile, Plan, Arms, arm_with, starts_with}
use Rattle.dcc_control.specs.Valid.{Begin, Before, Leads, Context, way, in_sides, in_arms, in_loop, in_do, entry, IsValidBy, IsValidItemBy, AreValidArmsBy}

module _ (graph : inner.Graph) (begun marked : ℕ → Bool) (plan : Plan) (c : Context) where
  abbrev Valid : Plan → Context → Type 0
  Valid = IsValidBy graph begun marked

  abbrev ValidItem : Item → Type 0
  ValidItem i = IsValidItemBy graph begun marked i plan c

  -- the first of two plans has the entry of the second
  abbrev Alike : Plan → Plan → Type 0
  Alike new old = (x : Context) → entry graph new x ≡ entry graph old x

  pub sides-valid : (b : ℕ) (one other first second : Plan) → Alike first one → Alike second other → Valid first (in_sides graph plan c) → Valid second (in_sides graph plan c)
      → ValidItem (If b one other) → ValidItem (If b first second)
  sides-valid b one other first second like also v w (test, yes_place, no_place, exit, inside, first_leads, first_valid, second_leads, second_valid) = (
    test,
    yes_place,
    no_place,
    exit,
    inside,
    subst (Leads graph begun (Begin yes_place)) (sym (like (in_sides graph plan c))) first_leads,
    v,
    subst (Leads graph begun (Begin no_place)) (sym (also (in_sides graph plan c))) second_leads,
    w,
  )

  pub choice-valid : (b : ℕ) (arms more : Arms) → ((n : ℕ) → Alike (arm_with n more) (arm_with n arms)) → AreValidArmsBy graph begun marked more (in_arms graph plan c)
      → ValidItem (Switch b arms) → ValidItem (Switch b more)
  choice-valid b arms more like v (e, places, exit, inside, lead, valid) =
      (e, places, exit, inside, λ n place at. subst (Leads graph begun (Begin place)) (sym (like n (in_arms graph plan c))) (lead n place at), v)

  pub turns-valid : (b : ℕ) (body more : Plan) → Alike more body → Valid more (in_loop graph b plan c) → ValidItem (For b body) → ValidItem (For b more)
  turns-valid b body more like v (inside, lead, valid) = (inside, subst (Leads graph begun (Before b 0)) (sym (like (in_loop graph b plan c))) lead, v)

  pub while-valid : (on : Bool) (b : ℕ) (body more : Plan) → Alike more body → Valid more (in_loop graph b plan c) → ValidItem (While on b body) → ValidItem (While on b more)
  while-valid on b body more like v (test, yes_place, no_place, exit, inside, none, lead, valid, leaves) = (
    test,
    yes_place,
    no_place,
    exit,
    inside,
    none,
    subst (Leads graph begun (Begin (way on yes_place no_place))) (sym (like (in_loop graph b plan c))) lead,
    v,
    leaves,
  )

  pub do-valid : (on : Bool) (b head : ℕ) (body more : Plan) → Alike more body → (starts_with head body ≡ true → starts_with head more ≡ true) → Valid more (in_do graph b plan c)
      → ValidItem (DoWhile on b head body) → ValidItem (DoWhile on b head more)
  do-valid on b head body more like starts_too v (test, yes_place, no_place, exit, inside, head_inside, starts, start, again, valid, leaves) = (
    test,
    yes_place,
    no_place,
    exit,
    inside,
    head_inside,
    starts_too starts,
    subst (Leads graph begun (Before head 0)) (sym (like (in_do graph b plan c))) start,
    subst (Leads graph begun (Begin (way on yes_place no_place))) (sym (like (in_do graph b plan c))) again,
    v,
    leaves,
  )
