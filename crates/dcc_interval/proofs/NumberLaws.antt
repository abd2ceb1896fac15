-- Laws of the numbers of regions: what a joining leaves.
use Rattle.std.proofs.Common.{◌≡◌, ℕ, ◌+◌, ◌<◌, true, ◌↔◌, inl, inr, List, [], ◌∷◌, ◌++◌, get_or, slice_set, All, refl, sym, ap, ◌∙◌, subst, arith}
use Rattle.std.specs.Prelude.{if◌then◌else◌}
use Rattle.std.proofs.lemmas.Bool.{false≢true, cases_eq, eq-eqb, ne_eqb, false_from_ne_true}
use Rattle.std.proofs.lemmas.List.{length-set, get_or-set_same, get_or-set_other}
use Rattle.std.proofs.lemmas.List.Elements.{All-from_get_or}
use Rattle.dcc_flow.specs.Edges.{is_in}
use Rattle.dcc_flow.proofs.Members.{in_here, in_cases, in_left, in_right, in_either}
use Rattle.dcc_interval.specs.Reducing.{Regions, region_at, renumbered, AreAlone, AreRegions, joined_at}
use Rattle.dcc_interval.proofs.PlaceLaws.{in_at}
use Rattle.dcc_interval.proofs.CollapseLaws.{length_all_placed, placed_in, placed_out}

abbrev pub made : List ℕ → List ℕ → List (List ℕ) → Regions
made numbers heads members = record { numbers = numbers; heads = heads; members = members }

-- the region of the number has this name
abbrev pub renamed : Regions → ℕ → ℕ → Regions
renamed r number name = record { numbers = r.numbers; heads = slice_set r.heads number name; members = r.members }

module _ (count : ℕ) (r : Regions) (alone : AreAlone count r) where
  pub alone_region : (n : ℕ) → n < count → region_at r n ≡ n
  alone_region n less = ap (λ k. get_or r.heads k 0) (alone.number_is n less) ∙ alone.head_is n less

  pub alone_whole : AreRegions count r
  alone_whole = record {
    numbers = alone.numbers;
    heads = alone.heads;
    members = alone.members;
    below = λ n less. subst (λ k. k < count) (sym (alone.number_is n less)) less;
    heads_below = λ n less. subst (λ k. k < count) (sym (alone.head_is n less)) less;
    exact = λ k n less. (
      λ h. elim (in_cases k n [] (subst (λ l. is_in l n ≡ true) (alone.member_is k less) h)) [
        | inl e ↦ (subst (λ x. x < count) e less, subst (λ x. get_or r.numbers x 0 ≡ k) e (alone.number_is k less))
        | inr none ↦ absurd (false≢true none)
      ],
      λ h. subst (λ l. is_in l n ≡ true) (sym (alone.member_is k less))
          (subst (λ x. is_in (x ∷ []) n ≡ true) (sym (alone.number_is n h.0) ∙ h.1) (in_here n [])),
    );
    own = λ n less. ap (λ k. get_or r.numbers k 0) (alone_region n less);
  }

module _ (count : ℕ) (r : Regions) (are : AreRegions count r) where
  pub region_below : (n : ℕ) → n < count → region_at r n < count
  region_below n less = are.heads_below (get_or r.numbers n 0) (are.below n less)

  -- nodes of one region have one number
  same_number : (n x : ℕ) → n < count → region_at r n ≡ x → get_or r.numbers n 0 ≡ get_or r.numbers x 0
  same_number n x less e = sym (are.own n less) ∙ ap (λ k. get_or r.numbers k 0) e

  pub members_below : (k : ℕ) → k < count → All (λ n. n < count) (get_or r.members k [])
  members_below k less = All-from_get_or (λ n. n < count) (get_or r.members k []) 0 (λ i inside.
      ((are.exact k (get_or (get_or r.members k []) i 0) less).0 (in_at (get_or r.members k []) i inside)).0)

  module _ (from to : ℕ) (less : from < count) (there : to < count) (off : ¬ (from ≡ to)) where
    moves : (n : ℕ) → n < count → get_or r.numbers n 0 ≡ from → get_or (renumbered r from to).numbers n 0 ≡ to
    moves n inside e =
        placed_in r.numbers (get_or r.members from []) to n (omega (arith, inside, are.numbers)) ((are.exact from n less).1 (inside, e))

    stays : (n : ℕ) → ¬ (get_or r.numbers n 0 ≡ from) → get_or (renumbered r from to).numbers n 0 ≡ get_or r.numbers n 0
    stays n o = placed_out r.numbers (get_or r.members from []) to n
        (false_from_ne_true (is_in (get_or r.members from []) n) (λ t. o ((are.exact from n less).0 t).1))

    rest_at : get_or (slice_set r.members from []) to [] ≡ get_or r.members to []
    rest_at = get_or-set_other r.members from to [] [] (λ e. off (sym e))

    members_to : get_or (renumbered r from to).members to [] ≡ get_or r.members to [] ++ get_or r.members from []
    members_to =
        get_or-set_same (slice_set r.members from []) to (get_or (slice_set r.members from []) to [] ++ get_or r.members from []) []
        (omega (arith, there, are.members, length-set r.members from []))
        ∙ ap (λ l. l ++ get_or r.members from []) rest_at

    members_other : (k : ℕ) → ¬ (k ≡ to) → get_or (renumbered r from to).members k [] ≡ get_or (slice_set r.members from []) k []
    members_other k o = get_or-set_other (slice_set r.members from []) to k (get_or (slice_set r.members from []) to [] ++ get_or r.members from []) [] o

    exact_to : (n : ℕ) → (is_in (get_or r.members to [] ++ get_or r.members from []) n ≡ true) ↔ ((n < count) × (get_or (renumbered r from to).numbers n 0 ≡ to))
    exact_to n = (
      λ h. elim (in_either (get_or r.members to []) (get_or r.members from []) n h) [
        | inl t ↦
            let old = (are.exact to n there).0 t in
            (old.0, stays n (λ e. off (sym e ∙ old.1)) ∙ old.1)
        | inr t ↦ let old = (are.exact from n less).0 t in (old.0, moves n old.0 old.1)
      ],
      λ h. elim (cases_eq (get_or r.numbers n 0) from) [
        | inl e ↦ in_right (get_or r.members to []) (get_or r.members from []) n ((are.exact from n less).1 (h.0, e))
        | inr o ↦ in_left (get_or r.members to []) (get_or r.members from []) n ((are.exact to n there).1 (h.0, sym (stays n o) ∙ h.1))
      ],
    )

    exact_from : (n : ℕ) → (is_in [] n ≡ true) ↔ ((n < count) × (get_or (renumbered r from to).numbers n 0 ≡ from))
    exact_from n = (
      λ h. absurd (false≢true h),
      λ h. elim (cases_eq (get_or r.numbers n 0) from) [
        | inl e ↦ absurd (off (sym h.1 ∙ moves n h.0 e))
        | inr o ↦ absurd (o (sym (stays n o) ∙ h.1))
      ],
    )

    exact_other : (k n : ℕ) → k < count → ¬ (k ≡ to) → ¬ (k ≡ from)
        → (is_in (get_or r.members k []) n ≡ true) ↔ ((n < count) × (get_or (renumbered r from to).numbers n 0 ≡ k))
    exact_other k n inside o p = (
      λ h.
          let old = (are.exact k n inside).0 h in
          (old.0, stays n (λ e. p (sym old.1 ∙ e)) ∙ old.1),
      λ h. elim (cases_eq (get_or r.numbers n 0) from) [
        | inl e ↦ absurd (o (sym h.1 ∙ moves n h.0 e))
        | inr q ↦ (are.exact k n inside).1 (h.0, sym (stays n q) ∙ h.1)
      ],
    )

    -- some node has the number that they get
    module _ (k : ℕ) (inside : k < count) (has : get_or r.numbers k 0 ≡ to) where
      head_has : get_or r.numbers (get_or r.heads to 0) 0 ≡ to
      head_has = subst (λ g. get_or r.numbers (get_or r.heads g 0) 0 ≡ g) has (are.own k inside)

      pub renumbered_whole : AreRegions count (renumbered r from to)
      renumbered_whole = record {
        numbers = length_all_placed r.numbers (get_or r.members from []) to ∙ are.numbers;
        heads = are.heads;
        members = length-set (slice_set r.members from []) to (get_or (slice_set r.members from []) to [] ++ get_or r.members from [])
            ∙ length-set r.members from [] ∙ are.members;
        below = λ n here. elim (cases_eq (get_or r.numbers n 0) from) [
          | inl e ↦ subst (λ g. g < count) (sym (moves n here e)) there
          | inr o ↦ subst (λ g. g < count) (sym (stays n o)) (are.below n here)
        ];
        heads_below = are.heads_below;
        exact = λ g n here. elim (cases_eq g to) [
          | inl e ↦ subst (λ x. (is_in (get_or (renumbered r from to).members x []) n ≡ true) ↔ ((n < count) × (get_or (renumbered r from to).numbers n 0 ≡ x))) (sym e)
              (subst (λ l. (is_in l n ≡ true) ↔ ((n < count) × (get_or (renumbered r from to).numbers n 0 ≡ to))) (sym members_to) (exact_to n))
          | inr o ↦ elim (cases_eq g from) [
            | inl e ↦ subst (λ x. (is_in (get_or (renumbered r from to).members x []) n ≡ true) ↔ ((n < count) × (get_or (renumbered r from to).numbers n 0 ≡ x))) (sym e)
                (subst (λ l. (is_in l n ≡ true) ↔ ((n < count) × (get_or (renumbered r from to).numbers n 0 ≡ from)))
                (sym (members_other from off ∙ get_or-set_same r.members from [] [] (omega (arith, less, are.members)))) (exact_from n))
            | inr p ↦ subst (λ l. (is_in l n ≡ true) ↔ ((n < count) × (get_or (renumbered r from to).numbers n 0 ≡ g)))
                (sym (members_other g o ∙ get_or-set_other r.members from g [] [] p)) (exact_other g n here o p)
          ]
        ];
        own = λ n here. elim (cases_eq (get_or r.numbers n 0) from) [
          | inl e ↦ subst (λ g. get_or (renumbered r from to).numbers (get_or r.heads g 0) 0 ≡ g) (sym (moves n here e))
              (stays (get_or r.heads to 0) (λ f. off (sym f ∙ head_has)) ∙ head_has)
          | inr o ↦ subst (λ g. get_or (renumbered r from to).numbers (get_or r.heads g 0) 0 ≡ g) (sym (stays n o))
              (stays (region_at r n) (λ f. o (sym (are.own n here) ∙ f)) ∙ are.own n here)
        ];
      }

-- Two regions.

-- the region x was joined into y
pub record IsJoining (count : ℕ) (r : Regions) (x y : ℕ) (now : Regions) : Type 0 where
  pub whole : AreRegions count now
  pub joined : (n : ℕ) → n < count → region_at now n ≡ joined_at (region_at r) x y n

module _ (count : ℕ) (r : Regions) (are : AreRegions count r) (x y : ℕ) (inside : x < count) (there : y < count)
    (is : region_at r x ≡ x) (other : region_at r y ≡ y) (off : ¬ (x ≡ y)) where
  abbrev one : ℕ
  one = get_or r.numbers x 0

  abbrev two : ℕ
  two = get_or r.numbers y 0

  pub apart : ¬ (one ≡ two)
  apart e = off (sym is ∙ ap (λ g. get_or r.heads g 0) e ∙ other)

  joined_is : (n : ℕ) → region_at r n ≡ x → joined_at (region_at r) x y n ≡ y
  joined_is n e = ap (λ b. if b then y else region_at r n) (eq-eqb (region_at r n) x e)

  joined_not : (n : ℕ) → ¬ (region_at r n ≡ x) → joined_at (region_at r) x y n ≡ region_at r n
  joined_not n o = ap (λ b. if b then y else region_at r n) (ne_eqb (region_at r n) x o)

  -- the nodes of the one get the number of the other
  first_whole : AreRegions count (renumbered r one two)
  first_whole = renumbered_whole count r are one two (are.below x inside) (are.below y there) apart y there refl

  first_joined : (n : ℕ) → n < count → region_at (renumbered r one two) n ≡ joined_at (region_at r) x y n
  first_joined n here = elim (cases_eq (get_or r.numbers n 0) one) [
    | inl e ↦
        let was : region_at r n ≡ x = ap (λ g. get_or r.heads g 0) e ∙ is in
        ap (λ g. get_or r.heads g 0) (moves count r are one two (are.below x inside) (are.below y there) apart n here e) ∙ other ∙ sym (joined_is n was)
    | inr o ↦
        ap (λ g. get_or r.heads g 0) (stays count r are one two (are.below x inside) (are.below y there) apart n o)
        ∙ sym (joined_not n (λ e. o (same_number count r are n x here e)))
  ]

  -- the nodes of the other get the number of the one, whose region has the other's name then
  abbrev second : Regions
  second = renamed (renumbered r two one) one y

  flip : ¬ (two ≡ one)
  flip e = apart (sym e)

  renumber_whole : AreRegions count (renumbered r two one)
  renumber_whole = renumbered_whole count r are two one (are.below y there) (are.below x inside) flip x inside refl

  head_now : get_or second.heads one 0 ≡ y
  head_now = get_or-set_same r.heads one y 0 (omega (arith, are.below x inside, are.heads))

  head_still : (g : ℕ) → ¬ (g ≡ one) → get_or second.heads g 0 ≡ get_or r.heads g 0
  head_still g o = get_or-set_other r.heads one g y 0 o

  number_now : get_or second.numbers y 0 ≡ one
  number_now = moves count r are two one (are.below y there) (are.below x inside) flip y there refl

  second_whole : AreRegions count second
  second_whole = record {
    numbers = renumber_whole.numbers;
    heads = length-set r.heads one y ∙ are.heads;
    members = renumber_whole.members;
    below = renumber_whole.below;
    heads_below = λ g here. elim (cases_eq g one) [
      | inl e ↦ subst (λ k. get_or second.heads k 0 < count) (sym e) (subst (λ k. k < count) (sym head_now) there)
      | inr o ↦ subst (λ k. k < count) (sym (head_still g o)) (are.heads_below g here)
    ];
    exact = renumber_whole.exact;
    own = λ n here. elim (cases_eq (get_or second.numbers n 0) one) [
      | inl e ↦ subst (λ g. get_or second.numbers (get_or second.heads g 0) 0 ≡ g) (sym e) (ap (λ k. get_or second.numbers k 0) head_now ∙ number_now)
      | inr o ↦ ap (λ k. get_or second.numbers k 0) (head_still (get_or second.numbers n 0) o) ∙ renumber_whole.own n here
    ];
  }

  second_joined : (n : ℕ) → n < count → region_at second n ≡ joined_at (region_at r) x y n
  second_joined n here = elim (cases_eq (get_or r.numbers n 0) two) [
    | inl e ↦
        let was : region_at r n ≡ y = ap (λ g. get_or r.heads g 0) e ∙ other in
        ap (λ g. get_or second.heads g 0) (moves count r are two one (are.below y there) (are.below x inside) flip n here e)
        ∙ head_now ∙ sym was ∙ sym (joined_not n (λ f. off (sym f ∙ was)))
    | inr o ↦
        let number = stays count r are two one (are.below y there) (are.below x inside) flip n o in
        elim (cases_eq (get_or r.numbers n 0) one) [
          | inl e ↦ ap (λ g. get_or second.heads g 0) (number ∙ e) ∙ head_now
              ∙ sym (joined_is n (ap (λ g. get_or r.heads g 0) e ∙ is))
          | inr p ↦ ap (λ g. get_or second.heads g 0) number ∙ head_still (get_or r.numbers n 0) p
              ∙ sym (joined_not n (λ f. p (same_number count r are n x here f)))
        ]
  ]

  -- what the code makes, where these are the numbers that it reads
  pub first_made : (a b : ℕ) → a ≡ one → b ≡ two → (now : Regions) → now ≡ renumbered r a b → IsJoining count r x y now
  first_made a b first last now is =
      subst (IsJoining count r x y) (sym (is ∙ ap (λ g. renumbered r g b) first ∙ ap (renumbered r one) last)) (record { whole = first_whole; joined = first_joined })

  pub second_made : (a b : ℕ) → a ≡ one → b ≡ two → (now : Regions) → now ≡ renumbered r b a → IsJoining count r x y (renamed now a y)
  second_made a b first last now is =
      let same = ap (λ (q : Regions). renamed q a y) is ∙ ap (λ g. renamed (renumbered r g a) a y) last ∙ ap (λ g. renamed (renumbered r two g) g y) first in
      subst (IsJoining count r x y) (sym same) (record { whole = second_whole; joined = second_joined })
