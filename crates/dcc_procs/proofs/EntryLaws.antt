-- The entries that are noted.
use Rattle.std.proofs.Common.{◌≡◌, ◌≢◌, ◌⊎◌, ◌↔◌, inl, inr, ℕ, ◌+◌, ◌≤◌, ◌<◌, Bool, true, false, ◌==◌, List, [], ◌∷◌, ◌++◌, length, get_or, slice_set, AllPairs, Contains, refl, sym, ap, ◌∙◌, subst, arith, length-append, eqb-true, eq-eqb, append_assoc, append-nil}
use Rattle.std.proofs.lemmas.Grind.{get_or-set_at}
use Rattle.std.proofs.lemmas.List.{get_or-set_other, length-set}
use Rattle.std.proofs.lemmas.List.Elements.{All-push, Contains-get_or, Contains-append_left, Contains-push, Contains-push_cases}
use Rattle.std.proofs.lemmas.List.Quantifiers.{all_pairs_push}
use Rattle.dcc_machine.specs.declared.image.Image.{Image}
use Rattle.dcc_prog.specs.declared.procedure.Layout.{Layout}
use Rattle.dcc_prog.specs.declared.refusal.LimitName.TheVariants.{Procedures}
use Rattle.dcc_prog.specs.declared.refusal.Refusal.{Refusal}
use Rattle.dcc_prog.specs.declared.refusal.Refusal.TheVariants.{Limit, Memory}
use Rattle.dcc_prog.specs.Trail.{IsEntry}
use Rattle.dcc_prog.specs.Limit.{HasMany, procedures}
use Rattle.dcc_prog.specs.Refused.{IsRefusedByTrails}
use Rattle.dcc_prog.specs.Refused as refused
use Rattle.dcc_procs.specs.declared.entries.Entries.{Entries}
use Rattle.dcc_procs.specs.Entries.{IsEmpty, IsAdded, known, added, IsOverfull, AreEntries, AreAdded}

flag-cases :
    (flags : List Bool) (at : ℕ) → at < length flags → (i : ℕ)
    → ((i ≡ at) × (get_or (slice_set flags at true) i false ≡ true))
    ⊎ (get_or (slice_set flags at true) i false ≡ get_or flags i false)
flag-cases flags at inside i =
    elim (i == at) as
    (λ b. (i == at) ≡ b → ((i ≡ at) × (get_or (slice_set flags at true) i false ≡ true)) ⊎ (get_or (slice_set flags at true) i false ≡ get_or flags i false)) [
      | true ↦ λ t. inl (eqb-true i at t, get_or-set_at flags at i true false (eqb-true i at t) inside)
      | false ↦ λ f. inr (get_or-set_other flags at i true false (λ e. let clash = sym f ∙ eq-eqb i at e in cc))
    ] refl

-- a value that isn't listed is not among these
apart-from :
    (order : List ℕ) (flags : List Bool) (entry : ℕ) → ((at : ℕ) → Contains order at ↔ (get_or flags at false ≡ true))
    → get_or flags entry false ≡ false → (k d : ℕ) → k < length order → get_or order k d ≢ entry
apart-from order flags entry listed unlisted k d inside is =
    let flag = (listed (get_or order k d)).0 (Contains-get_or order k d inside) in
    let clash = sym flag ∙ ap (λ n. get_or flags n false) is ∙ unlisted in
    cc

pub entries-none :
    (image : Image) (layout : Layout) (entries : Entries) → IsEmpty entries → AreEntries image layout entries
entries-none image layout entries e = record {
  length_is = e.length_is;
  listed =
      λ at.
      (λ c. absurd (let none = ap length e.order in let inside = c.1 in omega (arith, none, inside)), λ t. absurd (let clash = sym (e.listed at) ∙ t in cc));
  distinct = λ i j d less inside. absurd (let none = ap length e.order in omega (arith, none, inside, less));
  reached = λ entry c. absurd (let none = ap length e.order in let inside = c.1 in omega (arith, none, inside));
  few = let none = ap length e.order in omega (arith, none);
}

module _ (image : Image) (layout : Layout) (old : Entries) (entry : ℕ) (are : AreEntries image layout old)
    (is_entry : IsEntry image layout entry) where
  pushed :
      (new : Entries) → entry < 65536 → get_or old.listed.items entry false ≡ false → length old.order.items < 512
      → new.order.items ≡ old.order.items ++ entry ∷ [] → new.listed.items ≡ slice_set old.listed.items entry true
      → AreEntries image layout new
  pushed new small unlisted room order flags =
      let inside : entry < length old.listed.items = (let whole = are.length_is in omega (arith, whole, small)) in
      record {
        length_is = ap length flags ∙ length-set old.listed.items entry true ∙ are.length_is;
        listed = λ at. (
          λ c. elim (Contains-push_cases old.order.items entry at (subst (λ l. Contains l at) order c)) [
            | inl before ↦ elim (flag-cases old.listed.items entry inside at) [
              | inl here ↦ ap (λ l. get_or l at false) flags ∙ here.1
              | inr stays ↦ ap (λ l. get_or l at false) flags ∙ stays ∙ (are.listed at).0 before
            ]
            | inr here ↦
                ap (λ l. get_or l at false) flags
                ∙ get_or-set_at old.listed.items entry at true false (sym here) inside
          ],
          λ t. elim (flag-cases old.listed.items entry inside at) [
            | inl here ↦
                subst (λ l. Contains l at) (sym order)
                (subst (Contains (old.order.items ++ entry ∷ [])) (sym here.0) (Contains-push old.order.items entry))
            | inr stays ↦
                subst (λ l. Contains l at) (sym order)
                (Contains-append_left old.order.items (entry ∷ []) at ((are.listed at).1 (sym stays ∙ sym (ap (λ l. get_or l at false) flags) ∙ t)))
          ],
        );
        distinct =
            subst (AllPairs (λ x y. x ≢ y)) (sym order)
            (all_pairs_push (λ x y. x ≢ y) old.order.items entry are.distinct (apart-from old.order.items old.listed.items entry are.listed unlisted));
        reached = λ at c. elim (Contains-push_cases old.order.items entry at (subst (λ l. Contains l at) order c)) [
          | inl before ↦ are.reached at before
          | inr here ↦ subst (IsEntry image layout) here is_entry
        ];
        few = let more = ap length order ∙ length-append old.order.items (entry ∷ []) in omega (arith, more, room);
      }

  pub added-one : (new : Entries) → entry < 65536 → IsAdded old new entry → AreAdded image layout old new (entry ∷ [])
  added-one new small (known listed same) = record {
    are = subst (AreEntries image layout) (sym same) are;
    more = [];
    goes_on = ap (λ (e : Entries). e.order.items) same ∙ sym (append-nil old.order.items);
    all = λ at c. elim (Contains-push_cases [] entry at c) [
      | inl none ↦ absurd (let inside = none.1 in omega (arith, inside))
      | inr here ↦
          subst (λ (e : Entries). Contains e.order.items at) (sym same)
          (subst (Contains old.order.items) here ((are.listed entry).1 listed))
    ];
  }
  added-one new small (added unlisted room order flags) = record {
    are = pushed new small unlisted room order flags;
    more = entry ∷ [];
    goes_on = order;
    all = λ at c. elim (Contains-push_cases [] entry at c) [
      | inl none ↦ absurd (let inside = none.1 in omega (arith, inside))
      | inr here ↦
          subst (λ l. Contains l at) (sym order)
          (subst (Contains (old.order.items ++ entry ∷ [])) here (Contains-push old.order.items entry))
    ];
  }

  too-many :
      length old.order.items ≡ 512 → get_or old.listed.items entry false ≡ false → HasMany (IsEntry image layout) 513
  too-many full unlisted = record {
    values = old.order.items ++ entry ∷ [];
    hold =
        All-push (IsEntry image layout) old.order.items entry
        (λ k d inside. are.reached (get_or old.order.items k d) (Contains-get_or old.order.items k d inside))
        is_entry;
    distinct =
        all_pairs_push (λ x y. x ≢ y) old.order.items entry are.distinct
        (apart-from old.order.items old.listed.items entry are.listed unlisted);
    count_is = length-append old.order.items (entry ∷ []) ∙ ap (λ n. n + 1) full;
  }

  pub overfull-refused : (refusal : Refusal) → IsOverfull old entry refusal → IsRefusedByTrails image layout refusal
  overfull-refused (Limit Procedures count) full =
      subst (λ n. IsRefusedByTrails image layout (Limit Procedures n)) (sym full.0)
      (refused.limit (procedures (too-many full.1 full.2)))
  overfull-refused Memory full = refused.no_memory
  overfull-refused refusal full = absurd full

-- one entry after others
pub added-more :
    (image : Image) (layout : Layout) (old mid new : Entries) (done : List ℕ) (entry : ℕ)
    → AreAdded image layout old mid done → AreAdded image layout mid new (entry ∷ [])
    → AreAdded image layout old new (done ++ entry ∷ [])
added-more image layout old mid new done entry a b = record {
  are = b.are;
  more = a.more ++ b.more;
  goes_on = b.goes_on ∙ ap (λ l. l ++ b.more) a.goes_on ∙ append_assoc old.order.items a.more b.more;
  all = λ at c. elim (Contains-push_cases done entry at c) [
    | inl before ↦
        subst (λ l. Contains l at) (sym b.goes_on) (Contains-append_left mid.order.items b.more at (a.all at before))
    | inr here ↦ subst (Contains new.order.items) here (b.all entry (Contains-push [] entry))
  ];
}

pub added-nothing :
    (image : Image) (layout : Layout) (old : Entries) → AreEntries image layout old → AreAdded image layout old old []
added-nothing image layout old are = record {
  are = are;
  more = [];
  goes_on = sym (append-nil old.order.items);
  all = λ at c. absurd (let inside = c.1 in omega (arith, inside));
}

-- one more entry keeps the sizes
pub sizes-kept :
    (old new : Entries) (entry : ℕ) → IsAdded old new entry → length old.listed.items ≡ 65536
    → length old.order.items ≤ 512 → (length new.listed.items ≡ 65536) × (length new.order.items ≤ 512)
sizes-kept old new entry (known listed same) whole few =
    (ap (λ (e : Entries). length e.listed.items) same ∙ whole, let e = ap (λ (e : Entries). length e.order.items) same in omega (arith, e, few))
sizes-kept old new entry (added unlisted room order flags) whole few =
    (ap length flags ∙ length-set old.listed.items entry true ∙ whole, let more = ap length order ∙ length-append old.order.items (entry ∷ []) in omega (arith, more, room))

pub start-order : (old new : Entries) (entry : ℕ) → IsEmpty old → IsAdded old new entry → new.order.items ≡ entry ∷ []
start-order old new entry none (known listed same) = let clash = sym (none.listed entry) ∙ listed in cc
start-order old new entry none (added unlisted room order flags) = order ∙ ap (λ l. l ++ entry ∷ []) none.order
