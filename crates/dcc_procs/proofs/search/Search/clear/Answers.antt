use Rattle.std.proofs.Common.{◌≡◌, ◌≢◌, ℕ, ◌-◌, [], ◌∷◌, ◌++◌, take, length, Contains, Vec, Global, None, refl, sym, ap, ◌∙◌, subst, arith}
use Rattle.dcc_procs.specs.Search.{seen_at}
use Rattle.dcc_procs.proofs.Fresh.{not-seen, cleared-one}
use Rattle.dcc_procs.proofs.search.Search.clear.Goals as goal

pub loop-at-init : goal.loop-at-init
loop-at-init c = (c.requires.length, λ at is. (c.requires.listed at).1 is, c.requires.done)

pub loop-at-preserved : goal.loop-at-preserved
loop-at-preserved c =
    let i = c.loop-at.invariant in
    let rest = c.pop.new.self.items in
    let listed : (n : ℕ) → seen_at c.loop-at.self.seen.items n ≢ None → Contains (rest ++ c.in-Some.at ∷ []) n =
    λ n is. subst (λ l. Contains l n) c.in-Some.ensures.items (i.1 n is) in
    let one =
    cleared-one c.loop-at.self.seen.items rest c.in-Some.at c.in-Some.at i.0 c.forget.ensures.small refl listed in
    let order : c.forget.new.self.order.items ≡ rest = ap (λ (v : Vec ℕ Global). v.items) c.forget.ensures.order in
    let pending : c.forget.new.self.pending.items ≡ c.loop-at.self.pending.items =
    ap (λ (v : Vec ℕ Global). v.items) c.forget.ensures.pending in
    (ap length c.forget.ensures.seen ∙ one.0, λ n is. subst (λ l. Contains l n) (sym order) (one.1 n (λ none. is (ap (λ l. seen_at l n) c.forget.ensures.seen ∙ none))), pending ∙ i.2)

pub returns : goal.returns
returns c =
    let i = c.loop-at.invariant in
    let order = c.loop-at.self.order.items in
    let last : c.pop.new.self.items ≡ [] =
    c.in_default.ensures.rest ∙ ap (λ n. take (n - 1) order) c.in_default.ensures.cases.0 in
    let none : order ≡ [] = c.in_default.ensures.items ∙ ap (λ l. l ++ []) last in
    record {
      length_is = i.0;
      none =
          λ at. not-seen (seen_at c.loop-at.self.seen.items at)
          (λ is. let there = i.1 at is in let empty = ap length none in let inside = there.1 in omega (arith, empty, inside));
      order = last;
      pending = i.2;
    }
