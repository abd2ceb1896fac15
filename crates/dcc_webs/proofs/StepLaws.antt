-- Lists that change place by place.
use Rattle.std.proofs.Common.{◌≡◌, ℕ, zero, suc, ◌+◌, ◌<◌, ◌≤◌, List, [], ◌∷◌, ◌++◌, length, get_or, map, take, slice_set, refl, sym, ap, ◌∙◌, arith}
use Rattle.std.specs.Prelude.{Result, Ok, Err, OnOk}
use Rattle.std.proofs.lemmas.List.{length-map, map-set}
use Rattle.dcc_live.proofs.RowLaws.{map_read}

-- What is given where a call gives something.

pub on_ok : {A E P Q : Type 0} (r : Result A E) → (P → Q) → OnOk r P → OnOk r Q
on_ok (Ok x) f h = f h
on_ok (Err e) f h = tt

-- Lists.

-- the first so many of the list have become other elements
pub done : {B : Type 0} → (B → B) → ℕ → List B → List B
done g zero ys = ys
done g (suc i) [] = []
done g (suc i) (y ∷ ys) = g y ∷ done g i ys

pub done_none : {B : Type 0} (g : B → B) (ys : List B) → done g 0 ys ≡ ys
unfolding done
done_none g ys = refl

pub done_get : {B : Type 0} (g : B → B) (i : ℕ) (ys : List B) (d : B) → get_or (done g i ys) i d ≡ get_or ys i d
unfolding done
done_get g zero ys d = refl
done_get g (suc i) [] d = refl
done_get g (suc i) (y ∷ ys) d = done_get g i ys d

pub done_set : {B : Type 0} (g : B → B) (i : ℕ) (ys : List B) (d : B) → i < length ys → slice_set (done g i ys) i (g (get_or ys i d)) ≡ done g (suc i) ys
unfolding done
done_set g i [] d inside = absurd (omega arith)
done_set g zero (y ∷ ys) d inside = refl
done_set g (suc i) (y ∷ ys) d inside = ap (λ l. g y ∷ l) (done_set g i ys d (omega arith))

pub done_all : {B : Type 0} (g : B → B) (i : ℕ) (ys : List B) → length ys ≤ i → done g i ys ≡ map g ys
unfolding done
done_all g zero [] all = refl
done_all g zero (y ∷ ys) all = absurd (omega arith)
done_all g (suc i) [] all = refl
done_all g (suc i) (y ∷ ys) all = ap (λ l. g y ∷ l) (done_all g i ys (omega arith))

pub done_length : {B : Type 0} (g : B → B) (i : ℕ) (ys : List B) → length (done g i ys) ≡ length ys
unfolding done
done_length g zero ys = refl
done_length g (suc i) [] = refl
done_length g (suc i) (y ∷ ys) = ap suc (done_length g i ys)

-- one element more has become another one
pub done_step : {A B : Type 0} (view : A → B) (g : B → B) (xs : List A) (i : ℕ) (old new : A) (ys : List B) → i < length xs → old ≡ get_or xs i old → view new ≡ g (view old) → map view xs ≡ done g i ys
    → map view (slice_set xs i new) ≡ done g (i + 1) ys
done_step view g xs i old new ys inside read made are =
    let whole : length ys ≡ length xs = sym (done_length g i ys) ∙ sym (ap length are) ∙ length-map xs view in
    let here : view old ≡ get_or ys i (view old) = map_read view xs i old inside read ∙ ap (λ l. get_or l i (view old)) are ∙ done_get g i ys (view old) in
    let more : suc i ≡ i + 1 = omega arith in
    map-set view xs i new ∙ ap (λ l. slice_set l i (view new)) are ∙ ap (slice_set (done g i ys) i) (made ∙ ap g here)
    ∙ done_set g i ys (view old) (omega (arith, whole)) ∙ ap (λ n. done g n ys) more

pub done_step_at : {B : Type 0} (g : B → B) (xs : List B) (i : ℕ) (old new : B) (ys : List B) → i < length xs → old ≡ get_or xs i old → new ≡ g old → xs ≡ done g i ys → slice_set xs i new ≡ done g (i + 1) ys
done_step_at g xs i old new ys inside read made are =
    let whole : length ys ≡ length xs = sym (done_length g i ys) ∙ sym (ap length are) in
    let here : old ≡ get_or ys i old = read ∙ ap (λ l. get_or l i old) are ∙ done_get g i ys old in
    let more : suc i ≡ i + 1 = omega arith in
    ap (λ l. slice_set l i new) are ∙ ap (slice_set (done g i ys) i) (made ∙ ap g here) ∙ done_set g i ys old (omega (arith, whole)) ∙ ap (λ n. done g n ys) more

-- the same from the last element on: it becomes what is told of what was behind it
pub last_step : {A B : Type 0} (view : A → B) (xs : List A) (at : ℕ) (old new : A) (ys zs : List B) (b : B) → at < length ys → old ≡ get_or xs at old → view new ≡ b → map view xs ≡ take (suc at) ys ++ zs
    → map view (slice_set xs at new) ≡ take at ys ++ b ∷ zs
last_step view xs at old new ys zs b inside read made are =
    map-set view xs at new ∙ ap (λ l. slice_set l at (view new)) are ∙ ap (slice_set (take (suc at) ys ++ zs) at) made ∙ go ys at zs b inside
  where
    go : {B : Type 0} (ys : List B) (at : ℕ) (zs : List B) (b : B) → at < length ys → slice_set (take (suc at) ys ++ zs) at b ≡ take at ys ++ b ∷ zs
    go [] at zs b inside = absurd (omega arith)
    go (y ∷ ys) zero zs b inside = refl
    go (y ∷ ys) (suc at) zs b inside = ap (λ l. y ∷ l) (go ys at zs b (omega arith))

-- what stands there
pub last_read : {A B : Type 0} (view : A → B) (xs : List A) (at : ℕ) (old : A) (ys zs : List B) → at < length ys → at < length xs → old ≡ get_or xs at old → map view xs ≡ take (suc at) ys ++ zs → view old ≡ get_or ys at (view old)
last_read view xs at old ys zs inside within read are =
    map_read view xs at old within read ∙ ap (λ l. get_or l at (view old)) are ∙ go ys at zs (view old) inside
  where
    go : {B : Type 0} (ys : List B) (at : ℕ) (zs : List B) (d : B) → at < length ys → get_or (take (suc at) ys ++ zs) at d ≡ get_or ys at d
    go [] at zs d inside = absurd (omega arith)
    go (y ∷ ys) zero zs d inside = refl
    go (y ∷ ys) (suc at) zs d inside = go ys at zs d (omega arith)
