-- Plans stay valid where fewer blocks are begun and more are marked.
use Rattle.std.proofs.Common.{◌≡◌, ℕ, inl, inr, Bool, false, sym, ap, ◌∙◌}
use Rattle.std.specs.Prelude.{◌&&◌}
use Rattle.std.proofs.lemmas.Bool.{cases_Bool}
use Rattle.dcc_ir.specs.Live.{block_in}
use Rattle.dcc_ir.specs.Tree as inner
use Rattle.dcc_control.specs.Laws.{LiesIn, WeakerBegun}
use Rattle.dcc_control.specs.Plan.{Item, Do, Mark, Jump, If, Switch, Return, For, While, DoWhile, Break, Continue, Empty, Plan, no_items, item, Arms, no_arms, arm}
use Rattle.dcc_control.specs.Valid.{Point, Leads, is_there, begins, goes, stops, Context, only_goes, only_begins, IsValidBy, IsValidItemBy, AreValidArmsBy}

module _ (graph : inner.Graph) (begun fewer marked more : ℕ → Bool) (less : LiesIn fewer begun) (greater : LiesIn marked more) where
  silent-still : (b : ℕ) → only_begins graph begun b ≡ false → only_begins graph fewer b ≡ false
  silent-still b silent =
      let passes : Bool = only_goes (block_in graph b).stmts (block_in graph b).exit in
      elim (cases_Bool (fewer b)) [
        | inl is ↦ ap (λ x. x && passes) is ∙ sym (ap (λ x. x && passes) (less b is)) ∙ silent
        | inr none ↦ ap (λ x. x && passes) none
      ]

  pub leads-still : {p q : Point} → Leads graph begun p q → Leads graph fewer p q
  leads-still is_there = is_there
  leads-still (begins {b = b} apart l) = begins (silent-still b apart) (leads-still l)
  leads-still (goes at is l) = goes at is (leads-still l)
  leads-still (stops at is) = stops at is

  mutual
    pub still : (plan : Plan) (c : Context) → IsValidBy graph begun marked plan c → IsValidBy graph fewer more plan c
    still no_items c v = tt
    still (item i plan) c v = (item-still i plan c v.0, still plan c v.1)

    item-still : (i : Item) (plan : Plan) (c : Context) → IsValidItemBy graph begun marked i plan c → IsValidItemBy graph fewer more i plan c
    item-still (Do b m) plan c (inside, there, l) = (inside, there, leads-still l)
    item-still (Mark b) plan c (inside, l) = (inside, leads-still l)
    item-still (Jump b) plan c (inside, there) = (inside, greater b there)
    item-still (If b one two) plan c (test, yes_place, no_place, exit, inside, first, first_valid, second, second_valid) =
        (test, yes_place, no_place, exit, inside, leads-still first, still one _ first_valid, leads-still second, still two _ second_valid)
    item-still (Switch b arms) plan c (e, places, exit, inside, lead, valid) =
        (e, places, exit, inside, λ n place at. leads-still (lead n place at), arms-still arms _ valid)
    item-still (Return b) plan c v = v
    item-still (For b body) plan c (inside, l, valid) = (inside, leads-still l, still body _ valid)
    item-still (While on b body) plan c (test, yes_place, no_place, exit, inside, none, l, valid, leaves) =
        (test, yes_place, no_place, exit, inside, none, leads-still l, still body _ valid, leads-still leaves)
    item-still (DoWhile on b head body) plan c (test, yes_place, no_place, exit, inside, head_inside, starts, first, again, valid, leaves) =
        (test, yes_place, no_place, exit, inside, head_inside, starts, leads-still first, leads-still again, still body _ valid, leads-still leaves)
    item-still Break plan c v = tt
    item-still Continue plan c v = tt
    item-still Empty plan c v = tt

    arms-still : (arms : Arms) (c : Context) → AreValidArmsBy graph begun marked arms c → AreValidArmsBy graph fewer more arms c
    arms-still no_arms c v = tt
    arms-still (arm cases body arms) c v = (still body c v.0, arms-still arms c v.1)

pub follows-still : WeakerBegun
follows-still graph begun fewer marked more less greater point plan c x = record {
  valid = still graph begun fewer marked more less greater plan c x.valid;
  leads = leads-still graph begun fewer marked more less greater x.leads;
}
