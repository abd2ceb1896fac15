-- Classes of numbers: what becomes of them where two become one.
use Rattle.std.proofs.Common.{◌≡◌, ◌≢◌, ℕ, zero, suc, ◌+◌, ◌<◌, inl, inr, List, [], ◌∷◌, ◌++◌, length, get_or, slice_set, refl, sym, ap, ◌∙◌, subst, arith, Contains, slice_get, Some, true≢false, eq-eqb}
use Rattle.std.specs.Prelude.{◌⊎◌, ◌==◌, if◌then◌else◌, All}
use Rattle.std.proofs.lemmas.Bool.{cases_eq}
use Rattle.dcc_ir.specs.declared.syntax.Loc.{Loc}
use Rattle.dcc_ir.specs.declared.syntax.Loc.TheVariants.{Temp}
use Rattle.dcc_ir.specs.Location.{location_width}
use Rattle.dcc_ir.proofs.PathLaws.{decided}
use Rattle.std.proofs.lemmas.List.{length-set, map-set, length-map, map-append, get_or-set_same, get_or-set_other, get_or_read, append_assoc, append-nil}
use Rattle.std.proofs.lemmas.Option.{slice_get-get_or, get_or_from_slice_get}
use Rattle.std.proofs.lemmas.List.Elements.{All-weaker, All-contains_itself, Contains-append_left, Contains-append_right, Contains-append_cases, Contains-push, Contains-push_cases}
use Rattle.dcc_ir.proofs.LocationLaws.{Contains-none, Contains-cases}
use Rattle.std.specs.Global.{Vec}
use Rattle.dcc_flow.specs.Edges.{rows}
use Rattle.dcc_flow.proofs.RowLaws.{row_read}
use Rattle.dcc_webs.specs.Classes.{class_in, AreJoined, itself, linked, turned, through, AreClasses, JoinMore, AreInOrder, all_moved, merged, others_merged, AreGone, AreOne, roots_below, widths_of}

-- Numbers that move.

pub moved_length : (to : ℕ) (classes xs : List ℕ) → length (all_moved to classes xs) ≡ length classes
moved_length to classes [] = refl
moved_length to classes (x ∷ xs) = moved_length to (slice_set classes x to) xs ∙ length-set classes x to

set_to : (classes : List ℕ) (x y to : ℕ) → y < length classes → class_in classes y ≡ to → class_in (slice_set classes x to) y ≡ to
set_to classes x y to inside e = elim (cases_eq y x) [
  | inl same ↦ ap (λ k. get_or (slice_set classes x to) k 0) same ∙ get_or-set_same classes x to 0 (subst (λ k. k < length classes) same inside)
  | inr other ↦ get_or-set_other classes x y to 0 other ∙ e
]

moved_kept : (to : ℕ) (classes xs : List ℕ) (y : ℕ) → y < length classes → class_in classes y ≡ to → class_in (all_moved to classes xs) y ≡ to
moved_kept to classes [] y inside e = e
moved_kept to classes (x ∷ xs) y inside e = moved_kept to (slice_set classes x to) xs y (omega (arith, inside, length-set classes x to)) (set_to classes x y to inside e)

moved_in : (to : ℕ) (classes xs : List ℕ) (y : ℕ) → y < length classes → Contains xs y → class_in (all_moved to classes xs) y ≡ to
moved_in to classes [] y inside c = absurd (Contains-none y c)
moved_in to classes (x ∷ xs) y inside c =
    let size = length-set classes x to in
    Contains-cases x xs y (class_in (all_moved to classes (x ∷ xs)) y ≡ to)
    (λ e. moved_kept to (slice_set classes x to) xs y (omega (arith, inside, size))
    (ap (λ k. get_or (slice_set classes x to) k 0) (sym e) ∙ get_or-set_same classes x to 0 (subst (λ k. k < length classes) (sym e) inside)))
    (λ later. moved_in to (slice_set classes x to) xs y (omega (arith, inside, size)) later) c

moved_out : (to : ℕ) (classes xs : List ℕ) (y : ℕ) → ¬ Contains xs y → class_in (all_moved to classes xs) y ≡ class_in classes y
moved_out to classes [] y out = refl
moved_out to classes (x ∷ xs) y out =
    moved_out to (slice_set classes x to) xs y (λ c. out (Contains-append_right (x ∷ []) xs y c))
    ∙ get_or-set_other classes x y to 0 (λ e. out (subst (Contains (x ∷ xs)) (sym e) (Contains-append_left (x ∷ []) xs x (Contains-push [] x))))

pub merged_gone : (from to : ℕ) (classes : List ℕ) (others : List (List ℕ)) → AreInOrder classes others → from < length classes → class_in classes from ≡ from
    → AreGone from to classes (merged from to (get_or others from []) classes)
merged_gone from to classes others order inside own =
    let xs = get_or others from [] in
    let moved = all_moved to classes xs in
    let size = moved_length to classes xs in
    record {
      count = length-set moved from to ∙ size;
      gone = λ y within e. elim (cases_eq y from) [
        | inl same ↦ ap (λ k. get_or (slice_set moved from to) k 0) same ∙ get_or-set_same moved from to 0 (omega (arith, inside, size))
        | inr other ↦ get_or-set_other moved from y to 0 other ∙ elim (order.listed y within) [
          | inl own ↦ absurd (other (sym own ∙ e))
          | inr there ↦ moved_in to classes xs y within (subst (λ k. Contains (get_or others k []) y) e there)
        ]
      ];
      stays = λ y within other.
          get_or-set_other moved from y to 0 (λ e. other (ap (class_in classes) e ∙ own))
          ∙ moved_out to classes xs y (λ c. other ((order.are from y inside own c).1));
    }

module _ (from to : ℕ) (before after : List ℕ) (others : List (List ℕ)) (order : AreInOrder before others) (from_in : from < length before) (to_in : to < length before)
    (from_own : class_in before from ≡ from) (to_own : class_in before to ≡ to) (two : from ≢ to) (moved : AreGone from to before after) where
  abbrev all : List ℕ
  all = get_or others to [] ++ (get_or others from [] ++ from ∷ [])

  abbrev others' : List (List ℕ)
  others' = others_merged from to others

  to_stays : class_in after to ≡ to
  to_stays = moved.stays to to_in (λ e. two (sym e ∙ to_own)) ∙ to_own

  others_to : get_or others' to [] ≡ all
  others_to =
      get_or-set_same (slice_set others from []) to (get_or (slice_set others from []) to [] ++ (get_or others from [] ++ from ∷ [])) [] (omega (arith, to_in, order.count, length-set others from []))
      ∙ ap (λ l. l ++ (get_or others from [] ++ from ∷ [])) (get_or-set_other others from to [] [] (λ e. two (sym e)))

  others_else : (c : ℕ) → c ≢ from → c ≢ to → get_or others' c [] ≡ get_or others c []
  others_else c not_from not_to = get_or-set_other (slice_set others from []) to c (get_or (slice_set others from []) to [] ++ (get_or others from [] ++ from ∷ [])) [] not_to ∙ get_or-set_other others from c [] [] not_from

  -- whether a number moves
  moves : (y : ℕ) → y < length before → ((class_in before y ≡ from) × (class_in after y ≡ to)) ⊎ ((class_in before y ≢ from) × (class_in after y ≡ class_in before y))
  moves y inside = elim (cases_eq (class_in before y) from) [
    | inl e ↦ inl (e, moved.gone y inside e)
    | inr other ↦ inr (other, moved.stays y inside other)
  ]

  pub order_kept : AreInOrder after others'
  order_kept = record {
    below = λ x inside. let inside' : x < length before = omega (arith, moved.count, inside) in elim (moves x inside') [
      | inl m ↦ subst (λ k. k < length after) (sym m.1) (omega (arith, to_in, moved.count))
      | inr m ↦ subst (λ k. k < length after) (sym m.1) (omega (arith, order.below x inside', moved.count))
    ];
    own = λ x inside. let inside' : x < length before = omega (arith, moved.count, inside) in elim (moves x inside') [
      | inl m ↦ ap (class_in after) m.1 ∙ to_stays ∙ sym m.1
      | inr m ↦
          let own = order.own x inside' in
          ap (class_in after) m.1 ∙ moved.stays (class_in before x) (order.below x inside') (λ e. m.0 (sym own ∙ e)) ∙ own ∙ sym m.1
    ];
    count = length-set (slice_set others from []) to (get_or (slice_set others from []) to [] ++ (get_or others from [] ++ from ∷ [])) ∙ length-set others from [] ∙ order.count ∙ sym moved.count;
    listed = λ x inside. let inside' : x < length before = omega (arith, moved.count, inside) in elim (moves x inside') [
      | inl m ↦ inr (subst (λ k. Contains (get_or others' k []) x) (sym m.1) (subst (λ l. Contains l x) (sym others_to) (gone_listed x inside' m.0)))
      | inr m ↦ stays_listed x inside' m.0 m.1 (order.listed x inside')
    ];
    are = λ c x inside own c_has. let inside' : c < length before = omega (arith, moved.count, inside) in elim (cases_eq c to) [
      | inl is_to ↦
          let there : Contains all x = subst (λ l. Contains l x) (ap (λ k. get_or others' k []) is_to ∙ others_to) c_has in
          let whose = in_all x there in (omega (arith, whose.0, moved.count), whose.1 ∙ sym is_to)
      | inr not_to ↦ elim (cases_eq c from) [
        | inl is_from ↦ absurd (two (sym is_from ∙ sym own ∙ ap (class_in after) is_from ∙ moved.gone from from_in from_own))
        | inr not_from ↦
            let old_own : class_in before c ≡ c = elim (moves c inside') [ inl m ↦ absurd (not_to (sym own ∙ m.1)) | inr m ↦ sym m.1 ∙ own ] in
            let old = order.are c x inside' old_own (subst (λ l. Contains l x) (others_else c not_from not_to) c_has) in
            (omega (arith, old.0, moved.count), moved.stays x old.0 (λ e. not_from (sym old.1 ∙ e)) ∙ old.1)
      ]
    ];
  }
    where
      gone_listed : (x : ℕ) → x < length before → class_in before x ≡ from → Contains all x
      gone_listed x inside e = Contains-append_right (get_or others to []) (get_or others from [] ++ from ∷ []) x (elim (order.listed x inside) [
        | inl own ↦ subst (Contains (get_or others from [] ++ from ∷ [])) (sym e ∙ own) (Contains-push (get_or others from []) from)
        | inr there ↦ Contains-append_left (get_or others from []) (from ∷ []) x (subst (λ k. Contains (get_or others k []) x) e there)
      ])

      stays_listed : (x : ℕ) → x < length before → class_in before x ≢ from → class_in after x ≡ class_in before x → (class_in before x ≡ x) ⊎ Contains (get_or others (class_in before x) []) x
          → (class_in after x ≡ x) ⊎ Contains (get_or others' (class_in after x) []) x
      stays_listed x inside other e (inl own) = inl (e ∙ own)
      stays_listed x inside other e (inr there) = inr (subst (λ k. Contains (get_or others' k []) x) (sym e) (elim (cases_eq (class_in before x) to) [
        | inl is_to ↦ subst (λ k. Contains (get_or others' k []) x) (sym is_to) (subst (λ l. Contains l x) (sym others_to)
            (Contains-append_left (get_or others to []) (get_or others from [] ++ from ∷ []) x (subst (λ k. Contains (get_or others k []) x) is_to there)))
        | inr not_to ↦ subst (λ l. Contains l x) (sym (others_else (class_in before x) other not_to)) there
      ]))

      in_all : (x : ℕ) → Contains all x → (x < length before) × (class_in after x ≡ to)
      in_all x c = elim (Contains-append_cases (get_or others to []) (get_or others from [] ++ from ∷ []) x c) [
        | inl first ↦ let old = order.are to x to_in to_own first in (old.0, moved.stays x old.0 (λ e. two (sym e ∙ old.1)) ∙ old.1)
        | inr later ↦ elim (Contains-push_cases (get_or others from []) from x later) [
          | inl there ↦ let old = order.are from x from_in from_own there in (old.0, moved.gone x old.0 old.1)
          | inr same ↦ (subst (λ k. k < length before) same from_in, moved.gone x (subst (λ k. k < length before) same from_in) (ap (class_in before) (sym same) ∙ from_own))
        ]
      ]

-- What links join.

pub joined_more : (links more : List (ℕ × ℕ)) (a b : ℕ) → AreJoined links a b → AreJoined (links ++ more) a b
joined_more links more a b itself = itself
joined_more links more a b (linked c) = linked (Contains-append_left links more (a, b) c)
joined_more links more a b (turned j) = turned (joined_more links more b a j)
joined_more links more a b (through {y = y} i j) = through (joined_more links more a y i) (joined_more links more y b j)

module _ (x y : ℕ) (from to : ℕ) (before after : List ℕ) (x_in : x < length before) (y_in : y < length before)
    (ends : ((class_in before x ≡ from) × (class_in before y ≡ to)) ⊎ ((class_in before x ≡ to) × (class_in before y ≡ from))) (moved : AreGone from to before after) where
  abbrev new : List (ℕ × ℕ)
  new = (x, y) ∷ []

  -- numbers of one class have one class afterwards
  kept : (a b : ℕ) → a < length before → b < length before → class_in before a ≡ class_in before b → class_in after a ≡ class_in after b
  kept a b a_in b_in e = elim (cases_eq (class_in before a) from) [
    | inl gone ↦ moved.gone a a_in gone ∙ sym (moved.gone b b_in (sym e ∙ gone))
    | inr other ↦ moved.stays a a_in other ∙ e ∙ sym (moved.stays b b_in (λ g. other (e ∙ g)))
  ]

  -- a number of the second class keeps it
  at_to : (a : ℕ) → a < length before → class_in before a ≡ to → class_in after a ≡ to
  at_to a a_in e = elim (cases_eq (class_in before a) from) [
    | inl gone ↦ moved.gone a a_in gone
    | inr other ↦ moved.stays a a_in other ∙ e
  ]

  together : class_in after x ≡ class_in after y
  together = elim ends [
    | inl e ↦ moved.gone x x_in e.0 ∙ sym (at_to y y_in e.1)
    | inr e ↦ at_to x x_in e.0 ∙ sym (moved.gone y y_in e.1)
  ]

  module _ (links : List (ℕ × ℕ)) (are : AreClasses links before) where
    old : (p q : ℕ) → p < length before → q < length before → class_in before p ≡ class_in before q → AreJoined (links ++ new) p q
    old p q p_in q_in e = joined_more links new p q (are.joined p q p_in q_in e)

    xy : AreJoined (links ++ new) x y
    xy = linked (Contains-push links (x, y))

    -- a number of either class is joined to x
    to_x : (p : ℕ) → p < length before → (class_in before p ≡ from) ⊎ (class_in before p ≡ to) → AreJoined (links ++ new) p x
    to_x p p_in which = elim ends [
      | inl e ↦ elim which [
        | inl f ↦ old p x p_in x_in (f ∙ sym e.0)
        | inr t ↦ through (old p y p_in y_in (t ∙ sym e.1)) (turned xy)
      ]
      | inr e ↦ elim which [
        | inl f ↦ through (old p y p_in y_in (f ∙ sym e.1)) (turned xy)
        | inr t ↦ old p x p_in x_in (t ∙ sym e.0)
      ]
    ]

    -- a number that comes to the second class was of one of the two
    was : (p : ℕ) → p < length before → class_in after p ≡ to → (class_in before p ≡ from) ⊎ (class_in before p ≡ to)
    was p p_in e = elim (cases_eq (class_in before p) from) [
      | inl gone ↦ inl gone
      | inr other ↦ inr (sym (moved.stays p p_in other) ∙ e)
    ]

    now_joined : (p q : ℕ) → p < length before → q < length before → class_in after p ≡ class_in after q → AreJoined (links ++ new) p q
    now_joined p q p_in q_in e = elim (cases_eq (class_in after p) to) [
      | inl there ↦ through (to_x p p_in (was p p_in there)) (turned (to_x q q_in (was q q_in (sym e ∙ there))))
      | inr other ↦
          let p_stays : class_in before p ≢ from = λ f. other (moved.gone p p_in f) in
          let q_stays : class_in before q ≢ from = λ f. other (e ∙ moved.gone q q_in f) in
          old p q p_in q_in (sym (moved.stays p p_in p_stays) ∙ e ∙ moved.stays q q_in q_stays)
    ]

    now_linked : (p q : ℕ) → Contains (links ++ new) (p, q) → p < length before → q < length before → class_in after p ≡ class_in after q
    now_linked p q c p_in q_in = elim (Contains-push_cases links (x, y) (p, q) c) [
      | inl old ↦ kept p q p_in q_in (are.linked p q old p_in q_in)
      | inr same ↦ let a : x ≡ p = ap (λ (l : ℕ × ℕ). l.0) same in let b : y ≡ q = ap (λ (l : ℕ × ℕ). l.1) same in ap (class_in after) (sym a) ∙ together ∙ ap (class_in after) b
    ]

  pub joins_more : JoinMore before new after
  joins_more = (
    moved.count,
    λ links are. record {
      linked = λ p q c p_in q_in. now_linked links are p q c (omega (arith, p_in, moved.count)) (omega (arith, q_in, moved.count));
      joined = λ p q p_in q_in e. now_joined links are p q (omega (arith, p_in, moved.count)) (omega (arith, q_in, moved.count)) e;
    },
  )

-- a link between numbers of one class, or of a number that there is not, changes nothing
pub joins_none : (x y : ℕ) (classes : List ℕ) → (x < length classes → y < length classes → class_in classes x ≡ class_in classes y) → JoinMore classes ((x, y) ∷ []) classes
joins_none x y classes same = (
  refl,
  λ links are. record {
    linked = λ p q c p_in q_in. elim (Contains-push_cases links (x, y) (p, q) c) [
      | inl old ↦ are.linked p q old p_in q_in
      | inr e ↦
          let a : x ≡ p = ap (λ (l : ℕ × ℕ). l.0) e in
          let b : y ≡ q = ap (λ (l : ℕ × ℕ). l.1) e in
          ap (class_in classes) (sym a) ∙ same (subst (λ k. k < length classes) (sym a) p_in) (subst (λ k. k < length classes) (sym b) q_in) ∙ ap (class_in classes) b
    ];
    joined = λ p q p_in q_in e. joined_more links ((x, y) ∷ []) p q (are.joined p q p_in q_in e);
  },
)

-- further links
pub joins_nothing : (classes : List ℕ) → JoinMore classes [] classes
joins_nothing classes = (refl, λ links are. subst (λ l. AreClasses l classes) (sym (append-nil links)) are)

pub joins_then : (before between after : List ℕ) (one more : List (ℕ × ℕ)) → JoinMore before one between → JoinMore between more after → JoinMore before (one ++ more) after
joins_then before between after one more first second =
    (second.0 ∙ first.0, λ links are. subst (λ l. AreClasses l after) (append_assoc links one more) (second.1 (links ++ one) (first.1 links are)))

-- Each number by itself.

pub alone : (classes : List ℕ) → ((k : ℕ) → k < length classes → class_in classes k ≡ k) → AreClasses [] classes
alone classes own = record {
  linked = λ x y c x_in y_in. absurd (Contains-none (x, y) c);
  joined = λ x y x_in y_in e. let same : x ≡ y = sym (own x x_in) ∙ e ∙ own y y_in in subst (AreJoined [] x) same itself;
}

-- Places of classes.

numbers_left : (xs ys : List ℕ) (k x : ℕ) → slice_get xs k ≡ Some x → slice_get (xs ++ ys) k ≡ Some x
numbers_left [] ys k x e = absurd (cc)
numbers_left (z ∷ xs) ys zero x e = e
numbers_left (z ∷ xs) ys (suc k) x e = numbers_left xs ys k x e

number_end : (xs : List ℕ) (x : ℕ) → slice_get (xs ++ x ∷ []) (length xs) ≡ Some x
number_end [] x = refl
number_end (z ∷ xs) x = number_end xs x

-- what is told of the numbers below x
pub record PlacesBelow (bits : List ℕ) (origins : List Loc) (classes : List ℕ) (of widths : List ℕ) (x : ℕ) : Type 0 where
  pub count : length of ≡ length classes
  pub places : (c : ℕ) → c < x → class_in classes c ≡ c → slice_get (roots_below classes x) (get_or of c 0) ≡ Some c
  pub widths_are : widths ≡ widths_of bits origins (roots_below classes x)

pub place_step : (bits : List ℕ) (origins : List Loc) (classes of of' widths widths' : List ℕ) (x root width : ℕ) (d : Loc) → x < length classes → x < length origins → root ≡ class_in classes x → width ≡ location_width bits (get_or origins x d)
    → of' ≡ (if root == x then slice_set of x (length widths) else of) → widths' ≡ (if root == x then widths ++ width ∷ [] else widths) → PlacesBelow bits origins classes of widths x → PlacesBelow bits origins classes of' widths' (x + 1)
place_step bits origins classes of of' widths widths' x root width d inside origin_in is_root is_width e f below =
    subst (PlacesBelow bits origins classes of' widths') next (elim (decided (root == x)) [
      | inl t ↦
          let of_is : of' ≡ slice_set of x (length widths) = e ∙ ap (λ b. if b then slice_set of x (length widths) else of) t in
          let widths_is : widths' ≡ widths ++ width ∷ [] = f ∙ ap (λ b. if b then widths ++ width ∷ [] else widths) t in
          let roots_is : roots_below classes (suc x) ≡ roots_below classes x ++ x ∷ [] =
          ap (λ k. if k == x then roots_below classes x ++ x ∷ [] else roots_below classes x) (sym is_root) ∙ ap (λ b. if b then roots_below classes x ++ x ∷ [] else roots_below classes x) t
          in
          let size : length widths ≡ length (roots_below classes x) = ap length below.widths_are ∙ length-map (roots_below classes x) (λ c. location_width bits (get_or origins c (Temp 0))) in
          record {
            count = ap length of_is ∙ length-set of x (length widths) ∙ below.count;
            places = λ c less own. ap (slice_get (roots_below classes (suc x))) (ap (λ l. get_or l c 0) of_is) ∙ ap (λ r. slice_get r (get_or (slice_set of x (length widths)) c 0)) roots_is ∙ elim (cases_eq c x) [
              | inl same ↦
                  ap (slice_get (roots_below classes x ++ x ∷ [])) (ap (λ k. get_or (slice_set of x (length widths)) k 0) same ∙ get_or-set_same of x (length widths) 0 (omega (arith, inside, below.count)) ∙ size)
                  ∙ number_end (roots_below classes x) x ∙ ap Some (sym same)
              | inr other ↦
                  ap (slice_get (roots_below classes x ++ x ∷ [])) (get_or-set_other of x c (length widths) 0 other)
                  ∙ numbers_left (roots_below classes x) (x ∷ []) (get_or of c 0) c (below.places c (omega (arith, less, other)) own)
            ];
            widths_are = widths_is ∙ ap (λ l. l ++ width ∷ []) below.widths_are ∙ ap (λ n. widths_of bits origins (roots_below classes x) ++ n ∷ []) (is_width ∙ ap (location_width bits) (sym (get_or_from_slice_get origins x (get_or origins x d) (Temp 0) (slice_get-get_or origins x d origin_in))))
                ∙ sym (map-append (λ c. location_width bits (get_or origins c (Temp 0))) (roots_below classes x) (x ∷ [])) ∙ ap (widths_of bits origins) (sym roots_is);
          }
      | inr n ↦
          let of_is : of' ≡ of = e ∙ ap (λ b. if b then slice_set of x (length widths) else of) n in
          let widths_is : widths' ≡ widths = f ∙ ap (λ b. if b then widths ++ width ∷ [] else widths) n in
          let roots_is : roots_below classes (suc x) ≡ roots_below classes x =
          ap (λ k. if k == x then roots_below classes x ++ x ∷ [] else roots_below classes x) (sym is_root) ∙ ap (λ b. if b then roots_below classes x ++ x ∷ [] else roots_below classes x) n
          in
          record {
            count = ap length of_is ∙ below.count;
            places = λ c less own. ap (slice_get (roots_below classes (suc x))) (ap (λ l. get_or l c 0) of_is) ∙ ap (λ r. slice_get r (get_or of c 0)) roots_is ∙ elim (cases_eq c x) [
              | inl same ↦ absurd (true≢false (sym (eq-eqb root x (is_root ∙ ap (class_in classes) (sym same) ∙ own ∙ same)) ∙ n))
              | inr other ↦ below.places c (omega (arith, less, other)) own
            ];
            widths_are = widths_is ∙ below.widths_are ∙ ap (widths_of bits origins) (sym roots_is);
          }
    ])
  where
    next : suc x ≡ x + 1
    next = omega arith

-- Steps of the code.

pub merge_class : (from to : ℕ) (others : List (Vec ℕ)) (old : Vec ℕ) (classes after moved : List ℕ) → from < length others → old ≡ get_or others from old → moved ≡ old.items → after ≡ all_moved to classes moved
    → slice_set after from to ≡ merged from to (get_or (rows others) from []) classes
merge_class from to others old classes after moved inside read taken all =
    ap (λ l. slice_set l from to) (all ∙ ap (all_moved to classes) (taken ∙ row_read others from old inside read))

pub merge_others : (from to : ℕ) (others : List (Vec ℕ)) (old left there list : Vec ℕ) (moved : List ℕ) → from < length others → to < length others → old ≡ get_or others from old → left.items ≡ []
    → there ≡ get_or (slice_set others from left) to there → moved ≡ old.items → list.items ≡ there.items ++ (moved ++ from ∷ [])
    → rows (slice_set (slice_set others from left) to list) ≡ others_merged from to (rows others)
merge_others from to others old left there list moved from_in to_in read empty read_to taken is =
    let first : rows (slice_set others from left) ≡ slice_set (rows others) from [] = map-set (λ (v : Vec ℕ). v.items) others from left ∙ ap (slice_set (rows others) from) empty in
    let to_in' : to < length (slice_set others from left) = omega (arith, to_in, length-set others from left) in
    let at_to : there.items ≡ get_or (slice_set (rows others) from []) to [] = row_read (slice_set others from left) to there to_in' read_to ∙ ap (λ l. get_or l to []) first in
    map-set (λ (v : Vec ℕ). v.items) (slice_set others from left) to list
    ∙ ap (λ l. slice_set l to list.items) first
    ∙ ap (slice_set (slice_set (rows others) from []) to) (is ∙ ap (λ l. l ++ (moved ++ from ∷ [])) at_to ∙ ap (λ l. get_or (slice_set (rows others) from []) to [] ++ (l ++ from ∷ [])) (taken ∙ row_read others from old from_in read))

-- two classes of which the one has gone to the other, by what the code has of them
pub merged_so : (from to : ℕ) (before after : List ℕ) (others left : List (List ℕ)) → AreInOrder before others → from < length before → to < length before → class_in before from ≡ from → class_in before to ≡ to → from ≢ to
    → after ≡ merged from to (get_or others from []) before → left ≡ others_merged from to others → AreInOrder after left × AreGone from to before after
merged_so from to before after others left order from_in to_in from_own to_own two e f =
    let moved : AreGone from to before after = subst (AreGone from to before) (sym e) (merged_gone from to before others order from_in from_own) in
    (subst (AreInOrder after) (sym f) (order_kept from to before after others order from_in to_in from_own to_own two moved), moved)

-- the classes of two numbers have become one
pub joins_one : (x y first second : ℕ) (before after : List ℕ) → x < length before → y < length before → class_in before x ≡ first → class_in before y ≡ second → AreOne first second before after → JoinMore before ((x, y) ∷ []) after
joins_one x y first second before after x_in y_in e f (inl moved) = joins_more x y first second before after x_in y_in (inl (e, f)) moved
joins_one x y first second before after x_in y_in e f (inr moved) = joins_more x y second first before after x_in y_in (inr (e, f)) moved

-- what is told of each number holds of each class
pub all_below : (classes : List ℕ) (others : List (List ℕ)) → AreInOrder classes others → All (λ c. c < length classes) classes
all_below classes others order = All-weaker (Contains classes) (λ c. c < length classes) (λ c there.
    subst (λ k. k < length classes) (sym (get_or_read classes there.0 c there.1 (sym there.2) 0)) (order.below there.0 there.1)) classes (All-contains_itself classes)

pub all_own : (classes : List ℕ) (others : List (List ℕ)) → AreInOrder classes others → All (λ c. class_in classes c ≡ c) classes
all_own classes others order = All-weaker (Contains classes) (λ c. class_in classes c ≡ c) (λ c there.
    let is : c ≡ class_in classes there.0 = get_or_read classes there.0 c there.1 (sym there.2) 0 in
    ap (class_in classes) is ∙ order.own there.0 there.1 ∙ sym is) classes (All-contains_itself classes)
