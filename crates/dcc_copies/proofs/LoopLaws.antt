-- Steps of loops.
use Rattle.std.proofs.Common.{◌≡◌, ℕ, zero, suc, ◌+◌, ◌<◌, Bool, true, false, ◌&&◌, ◌||◌, List, [], ◌∷◌, ◌++◌, length, get_or, map, take, drop, Some, slice_get, refl, sym, ap, ◌∙◌, subst, arith}
use Rattle.std.specs.Prelude.{if◌then◌else◌, Result, Ok, Err, IfOk, All}
use Rattle.std.proofs.lemmas.List.Elements.{All-nil, All-cons, All-append}
use Rattle.std.specs.List.{list_all, list_any}
use Rattle.std.proofs.lemmas.Bool.{and_from}
use Rattle.std.proofs.lemmas.List.{append-nil, length-map, map-append}
use Rattle.std.proofs.lemmas.List.Folds.{list_all_more}
use Rattle.dcc_ir.specs.declared.syntax.Loc.{Loc}
use Rattle.dcc_ir.specs.Tree.{Stmt}
use Rattle.dcc_passes.specs.Renaming.{renamed_stmt}
use Rattle.dcc_copies.specs.Held.{Held, is_own_copy, with_written, all_written}
use Rattle.dcc_copies.specs.Settled.{settled_stmts}

pub all-more : {X : Type 0} (test : X → Bool) (xs : List X) (i : ℕ) (x : X) → i < length xs → x ≡ get_or xs i x → list_all test (take i xs) ≡ true
    → test x ≡ true → list_all test (take (i + 1) xs) ≡ true
all-more test xs i x within is had more =
    list_all_more test xs i x within ∙ and_from (list_all test (take i xs)) (test (get_or xs i x)) had (ap test (sym is) ∙ more)

-- one statement more
pub settled-more : (name : Loc → Loc) (stmts : List Stmt) (stmt : Stmt)
    → settled_stmts name (stmts ++ stmt ∷ []) ≡ settled_stmts name stmts ++ settled_stmts name (stmt ∷ [])
settled-more name [] stmt = refl
settled-more name (first ∷ stmts) stmt = by (is_own_copy name first) (settled-more name stmts stmt)
  where
    by : (b : Bool) → settled_stmts name (stmts ++ stmt ∷ []) ≡ settled_stmts name stmts ++ settled_stmts name (stmt ∷ [])
        → (if b then settled_stmts name (stmts ++ stmt ∷ []) else renamed_stmt name name first ∷ settled_stmts name (stmts ++ stmt ∷ []))
        ≡ (if b then settled_stmts name stmts else renamed_stmt name name first ∷ settled_stmts name stmts) ++ settled_stmts name (stmt ∷ [])
    by true later = later
    by false later = ap (λ l. renamed_stmt name name first ∷ l) later

pub settled-stays : (name : Loc → Loc) (stmts : List Stmt) (stmt : Stmt) → is_own_copy name stmt ≡ false
    → settled_stmts name (stmts ++ stmt ∷ []) ≡ settled_stmts name stmts ++ renamed_stmt name name stmt ∷ []
settled-stays name stmts stmt other =
    settled-more name stmts stmt ∙ ap (λ b. settled_stmts name stmts ++ (if b then [] else renamed_stmt name name stmt ∷ [])) other

pub settled-goes : (name : Loc → Loc) (stmts : List Stmt) (stmt : Stmt) → is_own_copy name stmt ≡ true
    → settled_stmts name (stmts ++ stmt ∷ []) ≡ settled_stmts name stmts
settled-goes name stmts stmt own =
    settled-more name stmts stmt ∙ ap (λ b. settled_stmts name stmts ++ (if b then [] else renamed_stmt name name stmt ∷ [])) own
    ∙ append-nil (settled_stmts name stmts)

-- Lists.

pub drop-here : {X : Type 0} (xs : List X) (k : ℕ) (x : X) → k < length xs → x ≡ get_or xs k x → drop k xs ≡ x ∷ drop (suc k) xs
drop-here [] k x less is = absurd (omega (arith, less))
drop-here (y ∷ xs) zero x less is = ap (λ z. z ∷ xs) (sym is)
drop-here (y ∷ xs) (suc k) x less is = drop-here xs k x (omega (arith, less)) is

pub taken-one : {X : Type 0} (xs : List X) (i : ℕ) (x : X) → x ≡ get_or xs i x → i < length xs → take (i + 1) xs ≡ take i xs ++ x ∷ []
taken-one xs i x is less = ap (λ n. take n xs) (let more : i + 1 ≡ suc i = omega arith in more) ∙ go xs i x is less
  where
    go : {X : Type 0} (xs : List X) (i : ℕ) (x : X) → x ≡ get_or xs i x → i < length xs → take (suc i) xs ≡ take i xs ++ x ∷ []
    go [] i x is less = absurd (omega (arith, less))
    go (y ∷ xs) zero x is less = ap (λ z. z ∷ []) (sym is)
    go (y ∷ xs) (suc i) x is less = ap (λ l. y ∷ l) (go xs i x is (omega (arith, less)))

pub taken-more : {X Y : Type 0} (f : X → Y) (xs : List X) (i : ℕ) (x : X) → x ≡ get_or xs i x → i < length xs
    → map f (take (i + 1) xs) ≡ map f (take i xs) ++ f x ∷ []
taken-more f xs i x is less = ap (map f) (taken-one xs i x is less) ∙ map-append f (take i xs) (x ∷ [])

pub mapped-same : {A B C : Type 0} (f : A → C) (g : B → C) (xs : List A) (ys : List B) → map f xs ≡ map g ys → (k : ℕ) (x : A) (y : B)
    → k < length ys → x ≡ get_or xs k x → y ≡ get_or ys k y → f x ≡ g y
mapped-same f g xs [] same k x y less isx isy = absurd (omega (arith, less))
mapped-same f g [] (b ∷ ys) same k x y less isx isy = absurd (cc)
mapped-same f g (a ∷ xs) (b ∷ ys) same zero x y less isx isy =
    let heads : f a ≡ g b = cc in ap f isx ∙ heads ∙ ap g (sym isy)
mapped-same f g (a ∷ xs) (b ∷ ys) same (suc k) x y less isx isy =
    mapped-same f g xs ys (cc) k x y (omega (arith, less)) isx isy

pub mapped-count : {A B C : Type 0} (f : A → C) (g : B → C) (xs : List A) (ys : List B) → map f xs ≡ map g ys → length xs ≡ length ys
mapped-count f g xs ys same = sym (length-map xs f) ∙ ap length same ∙ length-map ys g

-- one location more
pub written-more : (name : Loc → Loc) (xs : List Loc) (x : Loc) (held : Held)
    → all_written name (xs ++ x ∷ []) held ≡ with_written name x (all_written name xs held)
written-more name [] x held = refl
written-more name (y ∷ xs) x held = written-more name xs x (with_written name y held)

pub mapped-twice : {A B C D : Type 0} (f : A → D) (g : C → D) (v : B → C) (xs : List A) (ys : List B) → map f xs ≡ map g (map v ys)
    → (k : ℕ) (x : A) (y : B) → k < length ys → x ≡ get_or xs k x → y ≡ get_or ys k y → f x ≡ g (v y)
mapped-twice f g v xs [] same k x y less isx isy = absurd (omega (arith, less))
mapped-twice f g v [] (b ∷ ys) same k x y less isx isy = absurd (cc)
mapped-twice f g v (a ∷ xs) (b ∷ ys) same zero x y less isx isy =
    let heads : f a ≡ g (v b) = cc in ap f isx ∙ heads ∙ ap (λ z. g (v z)) (sym isy)
mapped-twice f g v (a ∷ xs) (b ∷ ys) same (suc k) x y less isx isy =
    mapped-twice f g v xs ys (cc) k x y (omega (arith, less)) isx isy

pub found-mapped : {A B : Type 0} (v : A → B) (xs : List A) (k : ℕ) (x : A) (y : B) → k < length xs → x ≡ get_or xs k x
    → slice_get (map v xs) k ≡ Some y → y ≡ v x
found-mapped v [] k x y less is found = absurd (cc)
found-mapped v (a ∷ xs) zero x y less is found = let same : y ≡ v a = cc in same ∙ ap v (sym is)
found-mapped v (a ∷ xs) (suc k) x y less is found = found-mapped v xs k x y (omega (arith, less)) is found

pub all-taken : {X : Type 0} (P : X → Type 0) (xs : List X) (i : ℕ) (x : X) → x ≡ get_or xs i x → i < length xs → All P (take i xs) → P x
    → All P (take (i + 1) xs)
all-taken P xs i x is less all here =
    subst (All P) (sym (taken-one xs i x is less)) (All-append P (take i xs) (x ∷ []) all (All-cons P x [] here (All-nil P)))

-- What is given where a call gives something.

pub if-ok : {A E : Type 0} (r : Result A E) (P Q : A → Type 0) → ((a : A) → P a → Q a) → IfOk r P → IfOk r Q
if-ok (Ok x) P Q f h = f x h
if-ok (Err e) P Q f h = tt

pub if-ok-two : {A E : Type 0} (r : Result A E) (P P' Q : A → Type 0) → ((a : A) → P a → P' a → Q a) → IfOk r P → IfOk r P' → IfOk r Q
if-ok-two (Ok x) P P' Q f h h' = f x h h'
if-ok-two (Err e) P P' Q f h h' = tt

-- An element that is read with some default.

get-same : {X : Type 0} (xs : List X) (k : ℕ) (d e : X) → k < length xs → get_or xs k d ≡ get_or xs k e
get-same [] k d e less = absurd (omega (arith, less))
get-same (x ∷ xs) zero d e less = refl
get-same (x ∷ xs) (suc k) d e less = get-same xs k d e (omega (arith, less))

pub drop-at : {X : Type 0} (xs : List X) (k : ℕ) (d : X) → k < length xs → drop k xs ≡ get_or xs k d ∷ drop (suc k) xs
drop-at xs k d less = drop-here xs k (get_or xs k d) less (get-same xs k d (get_or xs k d) less)

pub taken-at : {X : Type 0} (xs : List X) (i : ℕ) (d : X) → i < length xs → take (i + 1) xs ≡ take i xs ++ get_or xs i d ∷ []
taken-at xs i d less = taken-one xs i (get_or xs i d) (get-same xs i d (get_or xs i d) less) less

pub all-taken-at : {X : Type 0} (P : X → Type 0) (xs : List X) (i : ℕ) (d : X) → i < length xs → All P (take i xs) → P (get_or xs i d)
    → All P (take (i + 1) xs)
all-taken-at P xs i d less all here = all-taken P xs i (get_or xs i d) (get-same xs i d (get_or xs i d) less) less all here
