-- The search: what is seen is so by trails, and it grows.
use Rattle.std.proofs.Common.{◌≡◌, ◌≢◌, ◌⊎◌, ◌↔◌, inl, inr, ℕ, ◌+◌, ◌*◌, ◌≤◌, ◌<◌, true, false, ◌==◌, List, [], ◌∷◌, ◌++◌, length, get_or, Contains, sum_by, slice_set, Option, Some, None, refl, sym, ap, ◌∙◌, subst, arith, length-append, eqb-true, eq-eqb}
use Rattle.std.proofs.Math.Seq.{get_or-append_seam}
use Rattle.std.proofs.lemmas.Grind.{get_or-set_at}
use Rattle.std.proofs.lemmas.Bool.{cases_lt}
use Rattle.std.proofs.lemmas.List.{get_or-set_other, length-set, get_or_append_left, get_or_default}
use Rattle.std.proofs.lemmas.List.Sums.{sum_by-set}
use Rattle.std.proofs.lemmas.List.Elements.{Contains-get_or, Contains-append_left, Contains-push, Contains-push_cases}
use Rattle.std.proofs.lemmas.List.Quantifiers.{all_pairs_push}
use Rattle.dcc_machine.specs.declared.image.Image.{Image}
use Rattle.dcc_prog.specs.declared.procedure.Layout.{Layout}
use Rattle.dcc_prog.specs.Trail.{IsEdge}
use Rattle.dcc_procs.specs.declared.known.Known.{Known}
use Rattle.dcc_procs.specs.Known.{told, common}
use Rattle.dcc_procs.specs.Search.{Covers, Tells, IsWitnessed, one_if_some, told_count, rank, Work, seen_at, with_known, IsFresh, IsArrived, first_time, told_less, told_same, IsOrder, IsSound, Extends}
use Rattle.dcc_procs.proofs.Knowing.{covers-first, covers-second, covers-kept}
use Rattle.dcc_procs.proofs.Witnessing.{witnessed-common}

-- More and more is seen.

pub extends-refl : (work : Work) → Extends work work
extends-refl work = record {
  tells = λ at t c. c;
  stays = λ at. inl refl;
  waits = λ at c. c;
  less = omega arith;
}

pub extends-trans : (a b c : Work) → Extends a b → Extends b c → Extends a c
extends-trans a b c e f = record {
  tells = λ at t told. f.tells at t (e.tells at t told);
  stays = λ at. elim (f.stays at) [
    | inr w ↦ inr w
    | inl same ↦ elim (e.stays at) [ inr w ↦ inr (f.waits at w) | inl other ↦ inl (same ∙ other) ]
  ];
  waits = λ at w. f.waits at (e.waits at w);
  less = omega (arith, e.less, f.less);
}

-- what is seen after one place has changed
pub set-cases :
    (seen : List (Option Known)) (at : ℕ) (new : Option Known) → at < length seen → (i : ℕ)
    → ((i ≡ at) × (seen_at (slice_set seen at new) i ≡ new)) ⊎ (seen_at (slice_set seen at new) i ≡ seen_at seen i)
set-cases seen at new inside i =
    elim (i == at) as
    (λ b. (i == at) ≡ b → ((i ≡ at) × (seen_at (slice_set seen at new) i ≡ new)) ⊎ (seen_at (slice_set seen at new) i ≡ seen_at seen i)) [
      | true ↦ λ t. inl (eqb-true i at t, get_or-set_at seen at i new None (eqb-true i at t) inside)
      | false ↦ λ f. inr (get_or-set_other seen at i new None (λ e. let clash = sym f ∙ eq-eqb i at e in cc))
    ] refl

some-not_none : {A : Type 0} (o : Option A) (x : A) → o ≡ Some x → o ≢ None
some-not_none o x e n = let clash = sym e ∙ n in cc

-- a field counts at most one
one-small : {A : Type 0} (o : Option A) → one_if_some o ≤ 1
one-small None = omega arith
one-small (Some x) = omega arith

count-small : (known : Known) → told_count known ≤ 4
count-small known =
    let a = one-small known.ah in
    let b = one-small known.form in
    let c = one-small known.index in
    let d = one-small known.from in
    omega (arith, a, b, c, d)

module _ (work : Work) (order : List ℕ) (to : ℕ) (new : Known) (inside : to < length work.seen) where
  here : seen_at (slice_set work.seen to (Some new)) to ≡ Some new
  here = get_or-set_at work.seen to to (Some new) None refl inside

  -- where something is seen, something stays seen
  changed-seen :
      (at : ℕ) → (seen_at work.seen at ≢ None) ⊎ (to ≡ at) → seen_at (slice_set work.seen to (Some new)) at ≢ None
  changed-seen at old e = elim (set-cases work.seen to (Some new) inside at) [
    | inl is ↦ let clash = sym is.1 ∙ e in cc
    | inr same ↦ elim old [
      | inl was ↦ was (sym same ∙ e)
      | inr is ↦ let clash = sym here ∙ ap (seen_at (slice_set work.seen to (Some new))) is ∙ e in cc
    ]
  ]

  changed-waiting :
      ((at : ℕ) → Contains work.pending at → seen_at work.seen at ≢ None) → (at : ℕ)
      → Contains (work.pending ++ to ∷ []) at → seen_at (slice_set work.seen to (Some new)) at ≢ None
  changed-waiting old at c =
      changed-seen at
      (elim (Contains-push_cases work.pending to at c) [ inl there ↦ inl (old at there) | inr is ↦ inr is ])

  changed-witnessed :
      (image : Image) (layout : Layout) (entry : ℕ)
      → ((at : ℕ) (k : Known) → seen_at work.seen at ≡ Some k → IsWitnessed image layout entry at k)
      → IsWitnessed image layout entry to new → (at : ℕ) (k : Known)
      → seen_at (slice_set work.seen to (Some new)) at ≡ Some k → IsWitnessed image layout entry at k
  changed-witnessed image layout entry old w at k e = elim (set-cases work.seen to (Some new) inside at) [
    | inl is ↦
        let both = sym is.1 ∙ e in
        let same : new ≡ k = cc in
        subst (λ i. IsWitnessed image layout entry i k) (sym is.0) (subst (IsWitnessed image layout entry to) same w)
    | inr same ↦ old at k (sym same ∙ e)
  ]

  module _ (grows : (t : Known) → Tells (seen_at work.seen to) t → Covers new t)
      (falls : told_count new + 1 ≤ rank (seen_at work.seen to)) where
    changed-tells :
        (at : ℕ) (t : Known) → Tells (seen_at work.seen at) t
        → Tells (seen_at (slice_set work.seen to (Some new)) at) t
    changed-tells at t told = elim (set-cases work.seen to (Some new) inside at) [
      | inl is ↦ subst (λ s. Tells s t) (sym is.1) (grows t (subst (λ i. Tells (seen_at work.seen i) t) is.0 told))
      | inr same ↦ subst (λ s. Tells s t) (sym same) told
    ]

    changed-less :
        2 * sum_by rank (slice_set work.seen to (Some new)) + length (work.pending ++ to ∷ []) ≤ 2 * sum_by rank
        work.seen + length work.pending
    changed-less =
        let sums = sum_by-set rank work.seen to (Some new) None inside in
        let more = length-append work.pending (to ∷ []) in
        omega (arith, sums, more, falls)

    changed-extends : Extends work (with_known work order to new)
    changed-extends = record {
      tells = changed-tells;
      stays = λ at. elim (set-cases work.seen to (Some new) inside at) [
        | inl is ↦ inr (subst (Contains (work.pending ++ to ∷ [])) (sym is.0) (Contains-push work.pending to))
        | inr same ↦ inl same
      ];
      waits = λ at c. Contains-append_left work.pending (to ∷ []) at c;
      less = changed-less;
    }

-- The order.

-- an offset comes first, or there is an edge to it from an earlier one
pub data ComesFrom (image : Image) (layout : Layout) (entry : ℕ) (order : List ℕ) (to : ℕ) : Type 0 where
  alone : order ≡ [] → to ≡ entry → ComesFrom image layout entry order to
  later : {from : ℕ} → Contains order from → IsEdge image layout entry from to → ComesFrom image layout entry order to

-- more is known at an offset that is seen: the order stays
order-same :
    (image : Image) (layout : Layout) (entry : ℕ) (seen others : List (Option Known)) (order : List ℕ)
    → ((at : ℕ) → (seen_at seen at ≢ None) ↔ (seen_at others at ≢ None)) → IsOrder image layout entry seen order
    → IsOrder image layout entry others order
order-same image layout entry seen others order same o = record {
  every = λ at. (λ c. (same at).0 ((o.every at).0 c), λ is. (o.every at).1 ((same at).1 is));
  distinct = o.distinct;
  first = o.first;
  earlier = o.earlier;
  few = o.few;
}

module _ (image : Image) (layout : Layout) (entry : ℕ) (seen : List (Option Known)) (order : List ℕ) (to : ℕ)
    (new : Known) (inside : to < length seen) (o : IsOrder image layout entry seen order)
    (unseen : seen_at seen to ≡ None) (room : length order < 4096) (comes : ComesFrom image layout entry order to)
  where
    last-is : (d : ℕ) → get_or (order ++ to ∷ []) (length order) d ≡ to
    last-is d = get_or-append_seam order to [] d

    edge-to-last :
        (d : ℕ) → 0 < length order → (j : ℕ)
        × (j < length order) × IsEdge image layout entry (get_or (order ++ to ∷ []) j d)
        (get_or (order ++ to ∷ []) (length order) d)
    edge-to-last d some = by comes
      where
        by :
            ComesFrom image layout entry order to → (j : ℕ)
            × (j < length order) × IsEdge image layout entry (get_or (order ++ to ∷ []) j d)
            (get_or (order ++ to ∷ []) (length order) d)
        by (alone none is) = absurd (let e = ap length none in omega (arith, e, some))
        by (later {from} c edge) =
            let there : get_or (order ++ to ∷ []) c.0 d ≡ from =
            get_or_append_left order (to ∷ []) d c.0 c.1 ∙ get_or_default order c.0 d from c.1 ∙ c.2 in
            (c.0, c.1, subst (λ a. IsEdge image layout entry a (get_or (order ++ to ∷ []) (length order) d)) (sym there) (subst (IsEdge image layout entry from) (sym (last-is d)) edge))

    earlier-pushed :
        (i d : ℕ) → 0 < i → i < length (order ++ to ∷ []) → (j : ℕ)
        × (j < i) × IsEdge image layout entry (get_or (order ++ to ∷ []) j d) (get_or (order ++ to ∷ []) i d)
    earlier-pushed i d some less = elim (cases_lt i (length order)) [
      | inl old ↦
          let e = o.earlier i d some old in
          let a = get_or_append_left order (to ∷ []) d e.0 (omega (arith, e.1, old)) in
          let b = get_or_append_left order (to ∷ []) d i old in
          (e.0, e.1, subst (λ n. IsEdge image layout entry n (get_or (order ++ to ∷ []) i d)) (sym a) (subst (IsEdge image layout entry (get_or order e.0 d)) (sym b) e.2))
      | inr past ↦
          let more = length-append order (to ∷ []) in
          let is : length order ≡ i = omega (arith, more, less, past) in
          subst
          (λ n. (j : ℕ) × (j < n) × IsEdge image layout entry (get_or (order ++ to ∷ []) j d) (get_or (order ++ to ∷ []) n d))
          is (edge-to-last d (omega (arith, is, some)))
    ]

    first-pushed : (d : ℕ) → get_or (order ++ to ∷ []) 0 d ≡ entry
    first-pushed d = by comes
      where
        by : ComesFrom image layout entry order to → get_or (order ++ to ∷ []) 0 d ≡ entry
        by (alone none is) = ap (λ l. get_or (l ++ to ∷ []) 0 d) none ∙ is
        by (later {from} c edge) =
            let some : 0 < length order = omega (arith, c.1) in
            get_or_append_left order (to ∷ []) d 0 some ∙ o.first d some

    pub order-pushed : IsOrder image layout entry (slice_set seen to (Some new)) (order ++ to ∷ [])
    order-pushed =
        let work : Work = record { seen = seen; order = order; pending = [] } in
        record {
          every = λ at. (
            λ c. changed-seen work order to new inside at
                (elim (Contains-push_cases order to at c) [ inl there ↦ inl ((o.every at).0 there) | inr is ↦ inr is ]),
            λ is. elim (set-cases seen to (Some new) inside at) [
              | inl here ↦ subst (Contains (order ++ to ∷ [])) (sym here.0) (Contains-push order to)
              | inr same ↦ Contains-append_left order (to ∷ []) at ((o.every at).1 (λ none. is (same ∙ none)))
            ],
          );
          distinct =
              all_pairs_push (λ x y. x ≢ y) order to o.distinct
              (λ k d less is. (o.every (get_or order k d)).0 (Contains-get_or order k d less) (ap (seen_at seen) is ∙ unseen));
          first = λ d some. first-pushed d;
          earlier = earlier-pushed;
          few = let more = length-append order (to ∷ []) in omega (arith, more, room);
        }

-- A trail comes to an offset.

pub record Arrives (image : Image) (layout : Layout) (entry : ℕ) (old new : Work) (to : ℕ) (known : Known) : Type
    0 where
  pub sound : IsSound image layout entry new
  pub extends : Extends old new
  pub tells : (t : Known) → Covers known t → Tells (seen_at new.seen to) t

module _ (image : Image) (layout : Layout) (entry : ℕ) (old new : Work) (to : ℕ) (known : Known)
    (s : IsSound image layout entry old) (inside : to < 65536) (w : IsWitnessed image layout entry to known)
    (comes : ComesFrom image layout entry old.order to) where
  within : to < length old.seen
  within = subst (λ n. to < n) (sym s.length_is) inside

  arrives-first :
      seen_at old.seen to ≡ None → length old.order < 4096
      → Arrives image layout entry old (with_known old (old.order ++ to ∷ []) to known) to known
  arrives-first unseen room = record {
    sound = record {
      length_is = length-set old.seen to (Some known) ∙ s.length_is;
      witnessed = changed-witnessed old old.order to known within image layout entry s.witnessed w;
      order = order-pushed image layout entry old.seen old.order to known within s.order unseen room comes;
      waiting = changed-waiting old old.order to known within s.waiting;
    };
    extends = changed-extends old (old.order ++ to ∷ []) to known within
        (λ t told. absurd (subst (λ k. Tells k t) unseen told))
        (let r = ap rank unseen in let small = count-small known in omega (arith, r, small));
    tells = λ t c. subst (λ k. Tells k t) (sym (here old old.order to known within)) c;
  }

  arrives-less :
      (was : Known) → seen_at old.seen to ≡ Some was → told_count (common was known) < told_count was
      → Arrives image layout entry old (with_known old old.order to (common was known)) to known
  arrives-less was seen fewer =
      let less = common was known in
      record {
        sound = record {
          length_is = length-set old.seen to (Some less) ∙ s.length_is;
          witnessed =
              changed-witnessed old old.order to less within image layout entry s.witnessed
              (witnessed-common image layout entry to was known (s.witnessed to was seen) w);
          order = order-same image layout entry old.seen (slice_set old.seen to (Some less)) old.order (λ at. (
            λ is. changed-seen old old.order to less within at (inl is),
            λ is. elim (set-cases old.seen to (Some less) within at) [
              | inl there ↦
                  subst (λ i. seen_at old.seen i ≢ None) (sym there.0) (some-not_none (seen_at old.seen to) was seen)
              | inr same ↦ λ none. is (same ∙ none)
            ],
          )) s.order;
          waiting = changed-waiting old old.order to less within s.waiting;
        };
        extends = changed-extends old old.order to less within
            (λ t told. covers-first was known t (subst (λ k. Tells k t) seen told))
            (let r = ap rank seen in omega (arith, r, fewer));
        tells = λ t c. subst (λ k. Tells k t) (sym (here old old.order to less within)) (covers-second was known t c);
      }

  pub arrives : IsArrived old new to known → Arrives image layout entry old new to known
  arrives (first_time unseen room is) =
      subst (λ n. Arrives image layout entry old n to known) (sym is) (arrives-first unseen room)
  arrives (told_less {was} seen fewer is) =
      subst (λ n. Arrives image layout entry old n to known) (sym is) (arrives-less was seen fewer)
  arrives (told_same {was} seen le is) = subst (λ n. Arrives image layout entry old n to known) (sym is) (record {
    sound = s;
    extends = extends-refl old;
    tells = λ t c. subst (λ k. Tells k t) (sym seen) (covers-kept was known t le c);
  })

-- nothing is seen
pub sound-fresh :
    (image : Image) (layout : Layout) (entry : ℕ) (work : Work) → IsFresh work → IsSound image layout entry work
sound-fresh image layout entry work f = record {
  length_is = f.length_is;
  witnessed = λ at k e. let clash = sym (f.none at) ∙ e in cc;
  order = record {
    every =
        λ at.
        (λ c. absurd (let none = ap length f.order in let inside = c.1 in omega (arith, none, inside)), λ is. absurd (is (f.none at)));
    distinct = λ i j d less inside. absurd (let none = ap length f.order in omega (arith, none, inside, less));
    first = λ d some. absurd (let none = ap length f.order in omega (arith, none, some));
    earlier = λ i d some inside. absurd (let none = ap length f.order in omega (arith, none, inside));
    few = let none = ap length f.order in omega (arith, none);
  };
  waiting = λ at c. absurd (let none = ap length f.pending in let inside = c.1 in omega (arith, none, inside));
}
