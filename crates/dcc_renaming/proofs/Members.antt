-- Items of lists, words that stand in lists twice, and words after `.`.
use Rattle.std.proofs.Common.{◌≡◌, Bool, true, false, List, [], ◌∷◌, ◌++◌, map, refl, sym, ap, ◌∙◌, subst, inl, inr}
use Rattle.std.specs.Prelude.{◌⊎◌, not}
use Rattle.std.specs.List.{list_all, flat_map}
use Rattle.std.proofs.lemmas.Bool.{and_parts, or_cases, or_left, or_right, cases_Bool, cond-true, cond-false}
use Rattle.dcc_c.specs.Grammar.{is_among}
use Rattle.dcc_c.specs.Rules.{all_differ}
use Rattle.dcc_c.specs.Token.{same_bytes, is_word_byte}
use Rattle.dcc_c.specs.Tree.{Word}
use Rattle.dcc_c.proofs.NameLaws.{same_bytes-equal, same_bytes-refl}
use Rattle.dcc_renaming.specs.Faults.{stands_twice}

-- an item of the list
abbrev pub In : {A : Type 0} → A → List A → Type 0
In x [] = ⊥
In x (y ∷ ys) = (x ≡ y) ⊎ In x ys

pub in-left : {A : Type 0} (x : A) (xs ys : List A) → In x xs → In x (xs ++ ys)
in-left x [] ys is = absurd is
in-left x (y ∷ xs) ys (inl e) = inl e
in-left x (y ∷ xs) ys (inr is) = inr (in-left x xs ys is)

pub in-right : {A : Type 0} (x : A) (xs ys : List A) → In x ys → In x (xs ++ ys)
in-right x [] ys is = is
in-right x (y ∷ xs) ys is = inr (in-right x xs ys is)

pub in-cases : {A : Type 0} (x : A) (xs ys : List A) → In x (xs ++ ys) → In x xs ⊎ In x ys
in-cases x [] ys is = inr is
in-cases x (y ∷ xs) ys (inl e) = inl (inl e)
in-cases x (y ∷ xs) ys (inr is) = elim (in-cases x xs ys is) [ inl l ↦ inl (inr l) | inr r ↦ inr r ]

pub record Comes {A B : Type 0} (f : A → B) (xs : List A) (y : B) : Type 0 where
  pub from : A
  pub has : In from xs
  pub is : y ≡ f from

pub in-map : {A B : Type 0} (f : A → B) (xs : List A) (y : B) → In y (map f xs) → Comes f xs y
in-map f [] y is = absurd is
in-map f (x ∷ xs) y (inl e) = record { from = x; has = inl refl; is = e }
in-map f (x ∷ xs) y (inr is) = let c = in-map f xs y is in record { from = c.from; has = inr c.has; is = c.is }

pub map-in : {A B : Type 0} (f : A → B) (xs : List A) (x : A) → In x xs → In (f x) (map f xs)
map-in f [] x is = absurd is
map-in f (y ∷ xs) x (inl e) = inl (ap f e)
map-in f (y ∷ xs) x (inr is) = inr (map-in f xs x is)

pub map-same : {A B : Type 0} (f g : A → B) (xs : List A) → ((x : A) → In x xs → f x ≡ g x) → map f xs ≡ map g xs
map-same f g [] same = refl
map-same f g (x ∷ xs) same = ap (λ y. y ∷ map f xs) (same x (inl refl)) ∙ ap (λ l. g x ∷ l) (map-same f g xs (λ y is. same y (inr is)))

-- what an item of an item's list comes from
pub record Stems {A B : Type 0} (f : A → List B) (xs : List A) (y : B) : Type 0 where
  pub from : A
  pub has : In from xs
  pub is : In y (f from)

pub in-flat : {A B : Type 0} (f : A → List B) (xs : List A) (y : B) → In y (flat_map f xs) → Stems f xs y
in-flat f [] y is = absurd is
in-flat f (x ∷ xs) y is = elim (in-cases y (f x) (flat_map f xs) is) [
  | inl here ↦ record { from = x; has = inl refl; is = here }
  | inr later ↦ let s = in-flat f xs y later in record { from = s.from; has = inr s.has; is = s.is }
]

pub flat-in : {A B : Type 0} (f : A → List B) (xs : List A) (x : A) (y : B) → In x xs → In y (f x) → In y (flat_map f xs)
flat-in f [] x y is also = absurd is
flat-in f (z ∷ xs) x y (inl e) also = in-left y (f z) (flat_map f xs) (subst (λ w. In y (f w)) e also)
flat-in f (z ∷ xs) x y (inr is) also = in-right y (f z) (flat_map f xs) (flat-in f xs x y is also)

pub all-in : {A : Type 0} (p : A → Bool) (xs : List A) (x : A) → list_all p xs ≡ true → In x xs → p x ≡ true
all-in p [] x all is = absurd is
all-in p (y ∷ xs) x all (inl e) = ap p e ∙ (and_parts (p y) (list_all p xs) all).0
all-in p (y ∷ xs) x all (inr is) = all-in p xs x (and_parts (p y) (list_all p xs) all).1 is

-- Words.

pub among-in : (ws : List Word) (w : Word) → is_among ws w ≡ true → In w ws
among-in [] w is = absurd cc
among-in (k ∷ ws) w is = elim (or_cases (same_bytes w k) (is_among ws w) is) [
  | inl same ↦ inl (same_bytes-equal w k same)
  | inr later ↦ inr (among-in ws w later)
]

pub in-among : (ws : List Word) (w : Word) → In w ws → is_among ws w ≡ true
in-among [] w is = absurd is
in-among (k ∷ ws) w (inl e) = or_left (same_bytes w k) (is_among ws w) (subst (λ v. same_bytes w v ≡ true) e (same_bytes-refl w))
in-among (k ∷ ws) w (inr is) = or_right (same_bytes w k) (is_among ws w) (in-among ws w is)

pub not-in : (ws : List Word) (w : Word) → is_among ws w ≡ false → In w ws → ⊥
not-in ws w none is = let both : true ≡ false = sym (in-among ws w is) ∙ none in absurd cc

-- names that differ
pub differ-apart : (xs ys : List Word) (w : Word) → all_differ (xs ++ ys) ≡ true → In w xs → In w ys → ⊥
differ-apart [] ys w all is also = is
differ-apart (x ∷ xs) ys w all (inl e) also =
    let none = (and_parts (not (is_among (xs ++ ys) x)) (all_differ (xs ++ ys)) all).0 in
    let some : is_among (xs ++ ys) x ≡ true = in-among (xs ++ ys) x (in-right x xs ys (subst (λ v. In v ys) e also)) in
    let both : not true ≡ true = ap not (sym some) ∙ none in absurd cc
differ-apart (x ∷ xs) ys w all (inr is) also = differ-apart xs ys w (and_parts (not (is_among (xs ++ ys) x)) (all_differ (xs ++ ys)) all).1 is also

-- two items of one word
pub stands-twice : {A : Type 0} (f : A → Word) (xs : List A) (a b : A) (n : Word) → In a xs → In b xs → (a ≡ b → ⊥) → f a ≡ n → f b ≡ n → stands_twice (map f xs) n ≡ true
stands-twice f [] a b n is also other fa fb = absurd is
stands-twice f (y ∷ xs) a b n (inl e) (inl g) other fa fb = absurd (other (e ∙ sym g))
stands-twice f (y ∷ xs) a b n (inl e) (inr is) other fa fb =
    cond-true _ _ _ (subst (λ w. same_bytes n w ≡ true) (sym fa ∙ ap f e) (same_bytes-refl n))
    ∙ in-among (map f xs) n (subst (λ w. In w (map f xs)) fb (map-in f xs b is))
stands-twice f (y ∷ xs) a b n (inr is) (inl g) other fa fb =
    cond-true _ _ _ (subst (λ w. same_bytes n w ≡ true) (sym fb ∙ ap f g) (same_bytes-refl n))
    ∙ in-among (map f xs) n (subst (λ w. In w (map f xs)) fa (map-in f xs a is))
stands-twice f (y ∷ xs) a b n (inr is) (inr also) other fa fb = elim (cases_Bool (same_bytes n (f y))) [
  | inl met ↦ cond-true _ _ _ met ∙ in-among (map f xs) n (subst (λ w. In w (map f xs)) fa (map-in f xs a is))
  | inr unmet ↦ cond-false _ _ _ unmet ∙ stands-twice f xs a b n is also other fa fb
]

-- Words without `.`.

abbrev pub is_plain : Word → Bool
is_plain w = list_all is_word_byte w

pub no-dot : (g w : Word) → is_plain (g ++ (46 ∷ w)) ≡ true → ⊥
no-dot [] w all = let dot : is_word_byte 46 ≡ true = (and_parts (is_word_byte 46) (is_plain w) all).0 in absurd cc
no-dot (b ∷ g) w all = no-dot g w (and_parts (is_word_byte b) (is_plain (g ++ (46 ∷ w))) all).1

pub record AreSplit (f g x w : Word) : Type 0 where
  pub front : f ≡ g
  pub back : x ≡ w

pub dot-split : (f g x w : Word) → is_plain f ≡ true → is_plain x ≡ true → f ++ (46 ∷ x) ≡ g ++ (46 ∷ w) → AreSplit f g x w
dot-split [] [] x w pf px e = record { front = refl; back = cc }
dot-split [] (b ∷ g) x w pf px e = let tail : x ≡ g ++ (46 ∷ w) = cc in absurd (no-dot g w (subst (λ l. is_plain l ≡ true) tail px))
dot-split (a ∷ f) [] x w pf px e =
    let first : a ≡ 46 = cc in
    let dot : is_word_byte 46 ≡ true = subst (λ n. is_word_byte n ≡ true) first (and_parts (is_word_byte a) (is_plain f) pf).0 in absurd cc
dot-split (a ∷ f) (b ∷ g) x w pf px e =
    let tail : f ++ (46 ∷ x) ≡ g ++ (46 ∷ w) = cc in
    let first : a ≡ b = cc in
    let s = dot-split f g x w (and_parts (is_word_byte a) (is_plain f) pf).1 px tail in
    record { front = ap (λ l. a ∷ l) s.front ∙ ap (λ n. n ∷ g) first; back = s.back }
