-- Where no location takes two arguments, none does after some go, nor where what passes together is one.
use Rattle.std.proofs.Common.{◌≡◌, ℕ, suc, Bool, true, false, List, [], ◌∷◌, ◌++◌, Some, None, refl, sym, ap, ◌∙◌}
use Rattle.std.specs.Prelude.{◌||◌, not, if◌then◌else◌, Option, option_map}
use Rattle.std.proofs.lemmas.Bool.{and_parts, and_from, or_parts, or_from, not-true}
use Rattle.std.proofs.lemmas.List.Folds.{list_any-append}
use Rattle.dcc_ir.specs.declared.syntax.Loc.{Loc}
use Rattle.dcc_ir.specs.declared.syntax.Put.{Put}
use Rattle.dcc_ir.specs.declared.syntax.Put.TheVariants.{Memory, One, Two}
use Rattle.dcc_ir.specs.declared.syntax.Param.{Param}
use Rattle.dcc_ir.specs.Live.{is_among}
use Rattle.dcc_ir.specs.Location.{same_location}
use Rattle.dcc_ir.specs.Tree.{Graph}
use Rattle.dcc_ir.specs.Trimmed.{Trim, kept, trim_graph}
use Rattle.dcc_signatures.specs.Packed.{are_halves, two_or_one, in_front, merged, one_put, param_with, one_param}
use Rattle.dcc_signatures.specs.Packed.{pack_graph}
use Rattle.dcc_plan.specs.Calls.{places, all_places, locations_differ}
use Rattle.dcc_pipe.specs.Simplified.{IsSimplifiedGraph}
use Rattle.dcc_pipe.specs.Textable.{TakesApart}

-- Arguments that go.

-- each location of the first list is one of the second
abbrev IsPartOf : List Loc → List Loc → Type 0
IsPartOf ys zs = (l : Loc) → is_among zs l ≡ false → is_among ys l ≡ false

joined-part : (xs ys zs : List Loc) → IsPartOf ys zs → IsPartOf (xs ++ ys) (xs ++ zs)
joined-part xs ys zs part l none =
    let parts = or_parts (is_among xs l) (is_among zs l) (sym (list_any-append (same_location l) xs zs) ∙ none) in
    list_any-append (same_location l) xs ys ∙ or_from (is_among xs l) (is_among ys l) parts.0 (part l parts.1)

joined-differ : (xs ys zs : List Loc) → IsPartOf ys zs → locations_differ (xs ++ zs) ≡ true → locations_differ ys ≡ true
    → locations_differ (xs ++ ys) ≡ true
joined-differ [] ys zs part whole differ = differ
joined-differ (x ∷ xs) ys zs part whole differ =
    let parts = and_parts (not (is_among (xs ++ zs) x)) (locations_differ (xs ++ zs)) whole in
    and_from (not (is_among (xs ++ ys) x)) (locations_differ (xs ++ ys))
    (ap not (joined-part xs ys zs part x (not-true (is_among (xs ++ zs) x) parts.0)))
    (joined-differ xs ys zs part parts.1 differ)

later-differ : (xs zs : List Loc) → locations_differ (xs ++ zs) ≡ true → locations_differ zs ≡ true
later-differ [] zs whole = whole
later-differ (x ∷ xs) zs whole =
    later-differ xs zs (and_parts (not (is_among (xs ++ zs) x)) (locations_differ (xs ++ zs)) whole).1

kept-part : (stays : ℕ → Bool) (params : List Param) → IsPartOf (all_places (kept stays params)) (all_places params)
kept-part stays [] l none = none
kept-part stays (p ∷ params) l none = by (stays 0) (kept-part (λ k. stays (suc k)) params)
  where
    by : (b : Bool) → IsPartOf (all_places (kept (λ k. stays (suc k)) params)) (all_places params)
        → is_among (all_places (if b then p ∷ kept (λ k. stays (suc k)) params else kept (λ k. stays (suc k)) params)) l ≡ false
    by true part = joined-part (places p.put) (all_places (kept (λ k. stays (suc k)) params)) (all_places params) part l none
    by false part =
        part l (or_parts (is_among (places p.put) l) (is_among (all_places params) l)
        (sym (list_any-append (same_location l) (places p.put) (all_places params)) ∙ none)).1

kept-differ : (stays : ℕ → Bool) (params : List Param) → locations_differ (all_places params) ≡ true
    → locations_differ (all_places (kept stays params)) ≡ true
kept-differ stays [] differ = differ
kept-differ stays (p ∷ params) differ =
    by (stays 0) (kept-differ (λ k. stays (suc k)) params (later-differ (places p.put) (all_places params) differ))
  where
    by : (b : Bool) → locations_differ (all_places (kept (λ k. stays (suc k)) params)) ≡ true
        → locations_differ (all_places (if b then p ∷ kept (λ k. stays (suc k)) params else kept (λ k. stays (suc k)) params)) ≡ true
    by true rest =
        joined-differ (places p.put) (all_places (kept (λ k. stays (suc k)) params)) (all_places params) (kept-part (λ k. stays (suc k)) params) differ rest
    by false rest = rest

pub trimmed-apart : (trim : Trim) (g : Graph) → TakesApart g → TakesApart (trim_graph trim g)
trimmed-apart trim g apart = kept-differ (trim.takes g.entry) g.params apart

-- Arguments that are one.

put-places : (a b : Put) (z : Put) → one_put a b ≡ Some z → places z ≡ places a ++ places b
put-places (One low) (One high) z is = by (are_halves low high) is
  where
    by : (c : Bool) → (if c then Some (Two low high) else None) ≡ Some z → places z ≡ low ∷ high ∷ []
    by true is = let same : Two low high ≡ z = cc in ap places (sym same)
    by false is = absurd (cc)
put-places (One low) Memory z is = absurd (cc)
put-places (One low) (Two a b) z is = absurd (cc)
put-places Memory b z is = absurd (cc)
put-places (Two a c) b z is = absurd (cc)

param-places : (p q z : Param) → one_param p q ≡ Some z → places z.put ≡ places p.put ++ places q.put
param-places p q z is = by (p.stack || q.stack) is
  where
    of : (put : Option Put) → one_put p.put q.put ≡ put → option_map param_with put ≡ Some z
        → places z.put ≡ places p.put ++ places q.put
    of (Some put) here is =
        let same : param_with put ≡ z = cc in
        ap (λ (z : Param). places z.put) (sym same) ∙ put-places p.put q.put put here
    of None here is = absurd (cc)

    by : (b : Bool) → (if b then None else option_map param_with (one_put p.put q.put)) ≡ Some z
        → places z.put ≡ places p.put ++ places q.put
    by true is = absurd (cc)
    by false is = of (one_put p.put q.put) refl is

joined-twice : (xs ys zs : List Loc) → (xs ++ ys) ++ zs ≡ xs ++ (ys ++ zs)
joined-twice [] ys zs = refl
joined-twice (x ∷ xs) ys zs = ap (λ rest. x ∷ rest) (joined-twice xs ys zs)

front-places : (p : Param) (params : List Param)
    → all_places (in_front one_param p params) ≡ places p.put ++ all_places params
front-places p [] = refl
front-places p (q ∷ params) = by (one_param p q) refl
  where
    by : (one : Option Param) → one_param p q ≡ one
        → all_places (two_or_one p q params one) ≡ places p.put ++ (places q.put ++ all_places params)
    by (Some z) is =
        ap (λ front. front ++ all_places params) (param-places p q z is)
        ∙ joined-twice (places p.put) (places q.put) (all_places params)
    by None is = refl

merged-places : (params : List Param) → all_places (merged one_param params) ≡ all_places params
merged-places [] = refl
merged-places (p ∷ params) =
    front-places p (merged one_param params) ∙ ap (λ rest. places p.put ++ rest) (merged-places params)

pub packed-apart : (g : Graph) → TakesApart g → TakesApart (pack_graph g)
packed-apart g apart = ap locations_differ (merged-places g.params) ∙ apart

-- Graphs that are simplified take what they took.

pub simplified-apart : (g h : Graph) → IsSimplifiedGraph g h → TakesApart g → TakesApart h
simplified-apart g h is apart =
    ap (λ params. locations_differ (all_places params))
    (is.last.without.params ∙ is.flags.form.params ∙ is.first.without.params) ∙ apart
