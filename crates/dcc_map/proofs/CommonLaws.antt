-- Longest common prefixes, and lists of events without their places.
use Rattle.std.proofs.Common.{◌≡◌, ◌≢◌, ◌⊎◌, inl, inr, ℕ, zero, suc, ◌+◌, List, [], ◌∷◌, ◌++◌, length, map, drop, take, Option, Some, None, refl, sym, ap, ◌∙◌, subst, append_assoc, arith}
use Rattle.std.specs.Prelude.{slice_get}
use Rattle.std.specs.List.{zip}
use Rattle.std.proofs.lemmas.List.{append-nil, map-append}
use Rattle.dcc_run.specs.Event.{Event}
use Rattle.dcc_run.specs.Prefix.{IsPrefix, AreComparable}
use Rattle.dcc_run.specs.System.{System, IsLawful, after, events_after}
use Rattle.dcc_run.proofs.PrefixLaws.{prefix_refl, prefix_nil, prefix_append}
use Rattle.std.proofs.Math.Seq.{drop-append_seam}
use Rattle.dcc_map.specs.Placed.{Placed, placed_at, events_of, step_events, placed_events}
use Rattle.dcc_map.specs.Comparison.{IsLongestCommon, both_places}

-- one list is a prefix of the other
pub common_first : {A : Type 0} (xs ys : List A) → IsPrefix xs ys → IsLongestCommon xs xs ys
common_first xs ys p = record { of_first = prefix_refl xs; of_second = p; longest = λ other first second. first }

pub common_second : {A : Type 0} (xs ys : List A) → IsPrefix ys xs → IsLongestCommon ys xs ys
common_second xs ys p = record { of_first = p; of_second = prefix_refl ys; longest = λ other first second. second }

heads : {A : Type 0} (a b : A) (xs ys : List A) → a ∷ xs ≡ b ∷ ys → a ≡ b
heads a b xs ys e = cc

tails : {A : Type 0} (a b : A) (xs ys : List A) → a ∷ xs ≡ b ∷ ys → xs ≡ ys
tails a b xs ys e = cc

cons_prefix : {A : Type 0} (x o : A) (other xs : List A) → x ≡ o → IsPrefix other xs → IsPrefix (o ∷ other) (x ∷ xs)
cons_prefix x o other xs is p = record { rest = p.rest; joins = let j = p.joins in cc }

-- no common prefix is longer where the lists differ after it
longest_there : {A : Type 0} (xs : List A) (a b : A) (as_ bs other : List A) → a ≢ b → IsPrefix other (xs ++ a ∷ as_)
    → IsPrefix other (xs ++ b ∷ bs) → IsPrefix other xs
longest_there xs a b as_ bs [] differ p q = prefix_nil xs
longest_there [] a b as_ bs (o ∷ other) differ p q =
    absurd (differ (heads a o as_ (other ++ p.rest) p.joins ∙ sym (heads b o bs (other ++ q.rest) q.joins)))
longest_there (x ∷ xs) a b as_ bs (o ∷ other) differ p q =
    cons_prefix x o other xs (heads x o (xs ++ a ∷ as_) (other ++ p.rest) p.joins)
    (longest_there xs a b as_ bs other differ
    (record { rest = p.rest; joins = tails x o (xs ++ a ∷ as_) (other ++ p.rest) p.joins })
    (record { rest = q.rest; joins = tails x o (xs ++ b ∷ bs) (other ++ q.rest) q.joins }))

pub common_differ : {A : Type 0} (xs : List A) (a b : A) (as_ bs : List A) → a ≢ b → IsLongestCommon xs (xs ++ a ∷ as_) (xs ++ b ∷ bs)
common_differ xs a b as_ bs differ = record {
  of_first = prefix_append xs (a ∷ as_);
  of_second = prefix_append xs (b ∷ bs);
  longest = λ other first second. longest_there xs a b as_ bs other differ first second;
}

-- Lists of events with their places.

pub events-append : (first more : List Placed) → events_of (first ++ more) ≡ events_of first ++ events_of more
events-append first more = map-append (λ (p : Placed). p.event) first more

pub events-placed : (at : ℕ) (events : List Event) → events_of (placed_at at events) ≡ events
events-placed at [] = refl
events-placed at (e ∷ events) = ap (λ l. e ∷ l) (events-placed at events)

pub length-events : (placed : List Placed) → length (events_of placed) ≡ length placed
length-events [] = refl
length-events (p ∷ placed) = ap suc (length-events placed)

pub zip-append : {A B : Type 0} (xs : List A) (ys : List B) (a : A) (b : B) → length xs ≡ length ys → zip (xs ++ a ∷ []) (ys ++ b ∷ []) ≡ zip xs ys ++ (a, b) ∷ []
zip-append [] [] a b same = refl
zip-append [] (y ∷ ys) a b same = absurd (omega (arith, same))
zip-append (x ∷ xs) [] a b same = absurd (omega (arith, same))
zip-append (x ∷ xs) (y ∷ ys) a b same = ap (λ l. (x, y) ∷ l) (zip-append xs ys a b (omega (arith, same)))

pub length-zip : {A B : Type 0} (xs : List A) (ys : List B) → length xs ≡ length ys → length (zip xs ys) ≡ length xs
length-zip [] [] same = refl
length-zip [] (y ∷ ys) same = refl
length-zip (x ∷ xs) [] same = absurd (omega (arith, same))
length-zip (x ∷ xs) (y ∷ ys) same = ap suc (length-zip xs ys (omega (arith, same)))

pub get-after : {X : Type 0} (xs ys : List X) → slice_get (xs ++ ys) (length xs) ≡ slice_get ys 0
get-after [] ys = refl
get-after (x ∷ xs) ys = get-after xs ys

-- where two lists go on after what they have in common, they have no difference only where one of them ends
pub no_places : (first second : List Placed) → both_places (slice_get first 0) (slice_get second 0) ≡ None → (first ≡ []) ⊎ (second ≡ [])
no_places [] second is = inl refl
no_places (a ∷ first) [] is = inr refl
no_places (a ∷ first) (b ∷ second) is = cc

-- The events that are listed are those of the run.

module _ {S : Type 0} (system : System S) (lawful : IsLawful system) (place : S → ℕ) where
  pub step_events-are : (s : S) → system.events (system.step s) ≡ system.events s ++ step_events system s
  step_events-are s =
      let grows = lawful.grows s in
      grows.joins
      ∙ ap (λ l. system.events s ++ l)
      (sym (ap (drop (length (system.events s))) grows.joins ∙ drop-append_seam (system.events s) grows.rest))

  pub listed_events : (n : ℕ) (s : S) → events_after system n s ≡ system.events s ++ events_of (placed_events system place n s)
  listed_events zero s = sym (append-nil (system.events s))
  listed_events (suc n) s =
      let happened = step_events system s in
      listed_events n (system.step s)
      ∙ ap (λ l. l ++ events_of (placed_events system place n (system.step s))) (step_events-are s)
      ∙ append_assoc (system.events s) happened (events_of (placed_events system place n (system.step s)))
      ∙ ap (λ l. system.events s ++ (l ++ events_of (placed_events system place n (system.step s)))) (sym (events-placed (place s) happened))
      ∙ ap (λ l. system.events s ++ l) (sym (events-append (placed_at (place s) happened) (placed_events system place n (system.step s))))
