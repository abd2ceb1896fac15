-- Laws of what holds of each element of a list.
use Rattle.std.proofs.Common.{List, [], ◌∷◌, ◌++◌, flat_map}
use Rattle.std.specs.Prelude.{All, Contains}
use Rattle.std.proofs.lemmas.List.Elements.{All-nil, All-cons, All-head, All-tail, All-weaker, All-contains_itself}
use Rattle.dcc_run.proofs.KeptLaws.{right_part}

-- what holds wherever a list has something holds of all of it
pub all_had : {A : Type 0} (P : A → Type 0) (xs : List A) → ((x : A) → Contains xs x → P x) → All P xs
all_had P xs h = All-weaker (Contains xs) P h xs (All-contains_itself xs)

-- what holds of all of two lists joined holds of the first
pub left_part : {A : Type 0} (P : A → Type 0) (xs ys : List A) → All P (xs ++ ys) → All P xs
left_part P [] ys all = All-nil P
left_part P (x ∷ xs) ys all = All-cons P x xs (All-head P x (xs ++ ys) all) (left_part P xs ys (All-tail P x (xs ++ ys) all))

-- what holds of all that the elements give holds of what each of them gives
pub all_parts : {X A : Type 0} (P : A → Type 0) (f : X → List A) (xs : List X) → All P (flat_map f xs) → All (λ x. All P (f x)) xs
all_parts P f [] all = All-nil (λ x. All P (f x))
all_parts P f (x ∷ xs) all = All-cons (λ x. All P (f x)) x xs (left_part P (f x) (flat_map f xs) all) (all_parts P f xs (right_part P (f x) (flat_map f xs) all))
