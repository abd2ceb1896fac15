-- What is said of all arguments of calls and of values that are given back, and of those that stay.
use Rattle.std.proofs.Common.{arith, ◌≡◌, ℕ, zero, suc, Bool, true, false, cond, ◌&&◌, ◌⊎◌, inl, inr, List, [], ◌∷◌, ◌++◌, length, Some, refl, sym, ap, ap₂, ◌∙◌, subst, true≢false, map, drop, slice_get, flat_map, ◌+◌}
use Rattle.std.specs.Prelude.{Contains, filter}
use Rattle.std.specs.List.{list_all}
use Rattle.std.proofs.lemmas.List.{length-map, length-append}
use Rattle.dcc_ir.specs.declared.syntax.Loc.{Loc}
use Rattle.dcc_ir.specs.declared.syntax.Loc.TheVariants.{Half, Flag, Cell, Temp}
use Rattle.dcc_ir.specs.declared.syntax.Put.{Put}
use Rattle.dcc_ir.specs.declared.syntax.Put.TheVariants.{Memory, One, Two}
use Rattle.dcc_ir.specs.declared.syntax.Param.{Param}
use Rattle.dcc_ir.specs.Tree.{Expr, Get}
use Rattle.dcc_ir.specs.Value.{width_of}
use Rattle.dcc_ir.specs.Live.{is_among}
use Rattle.dcc_ir.specs.WellFormed.{put_width}
use Rattle.dcc_ir.specs.Passing.{param_of, is_word_put}
use Rattle.dcc_ir.specs.Trimmed.{kept}
use Rattle.dcc_ir.proofs.FitLaws.{both}
use Rattle.dcc_ir.proofs.LocationLaws.{Contains-here, Contains-later, Contains-none, Contains-cases, among_contains, contains_among}
use Rattle.dcc_ir.proofs.ReachedLaws.{contained}
use Rattle.dcc_demand.specs.Laws.{AreDecided}
use Rattle.dcc_sums.specs.Instance.{passes, is_passing}
use Rattle.dcc_sums.specs.Localised.{is_taken}

-- Lists.

-- of two locations it can be told whether they are one
pub decided_locations : AreDecided Loc
decided_locations x y = go (same x y) refl
  where
    same : Loc → Loc → Bool
    same x y = is_among (y ∷ []) x

    go : (b : Bool) → is_among (y ∷ []) x ≡ b → (x ≡ y) ⊎ ¬ (x ≡ y)
    go true e = inl (Contains-cases y [] x (x ≡ y) sym (λ c. absurd (Contains-none x c)) (among_contains (y ∷ []) x e))
    go false e = inr (λ same. true≢false (sym (contains_among (y ∷ []) x (subst (Contains (y ∷ [])) (sym same) (Contains-here y []))) ∙ e))

-- two functions that agree on what stays
pub kept_values : (f g : Expr → ℕ) (stays : ℕ → Bool) (es : List Expr) → ((k : ℕ) (e : Expr) → slice_get es k ≡ Some e → stays k ≡ true → g e ≡ f e) → map g (kept stays es) ≡ kept stays (map f es)
kept_values f g stays [] same = refl
kept_values f g stays (e ∷ es) same = go (stays 0) refl (kept_values f g (λ k. stays (suc k)) es (λ k x is. same (suc k) x is))
  where
    go : (b : Bool) → stays 0 ≡ b → map g (kept (λ k. stays (suc k)) es) ≡ kept (λ k. stays (suc k)) (map f es) →
        map g (cond b (e ∷ kept (λ k. stays (suc k)) es) (kept (λ k. stays (suc k)) es)) ≡ cond b (f e ∷ kept (λ k. stays (suc k)) (map f es)) (kept (λ k. stays (suc k)) (map f es))
    go true stay rest = ap₂ (λ n ns. n ∷ ns) (same 0 e refl stay) rest
    go false stay rest = rest

pub first_there : {A B : Type 0} (f : A → B) (xs : List A) (ys : List B) (k : ℕ) (x : A) → slice_get xs k ≡ Some x → slice_get (map f xs ++ ys) k ≡ Some (f x)
first_there f [] ys k x e = absurd (cc)
first_there f (y ∷ xs) ys zero x e = let same : y ≡ x = cc in ap (λ z. Some (f z)) same
first_there f (y ∷ xs) ys (suc k) x e = first_there f xs ys k x e

pub at_first : {A : Type 0} (xs ys : List A) (k : ℕ) (x : A) → (Contains ys x → ⊥) → slice_get (xs ++ ys) k ≡ Some x → slice_get xs k ≡ Some x
at_first [] ys k x out e = absurd (out (contained ys k x e))
at_first (y ∷ xs) ys zero x out e = e
at_first (y ∷ xs) ys (suc k) x out e = at_first xs ys k x out e

pub contains_left : {A : Type 0} (xs ys : List A) (x : A) → Contains xs x → Contains (xs ++ ys) x
contains_left [] ys x c = absurd (Contains-none x c)
contains_left (y ∷ xs) ys x c = Contains-cases y xs x (Contains (y ∷ (xs ++ ys)) x) (λ e. subst (Contains (y ∷ (xs ++ ys))) e (Contains-here y (xs ++ ys)))
    (λ d. Contains-later y (xs ++ ys) x (contains_left xs ys x d)) c

pub contains_right : {A : Type 0} (xs ys : List A) (x : A) → Contains ys x → Contains (xs ++ ys) x
contains_right [] ys x c = c
contains_right (y ∷ xs) ys x c = Contains-later y (xs ++ ys) x (contains_right xs ys x c)

pub contains_either : {A : Type 0} (xs ys : List A) (x : A) → (Contains xs x → ⊥) → (Contains ys x → ⊥) → Contains (xs ++ ys) x → ⊥
contains_either [] ys x out out' c = out' c
contains_either (y ∷ xs) ys x out out' c =
    Contains-cases y (xs ++ ys) x ⊥ (λ e. out (subst (Contains (y ∷ xs)) e (Contains-here y xs))) (λ d. contains_either xs ys x (λ h. out (Contains-later y xs x h)) out' d) c

pub contains_filter : {A : Type 0} (f : A → Bool) (xs : List A) (x : A) → f x ≡ true → Contains xs x → Contains (filter f xs) x
contains_filter f [] x is c = absurd (Contains-none x c)
contains_filter f (y ∷ xs) x is c = go (f y) refl (contains_filter f xs x is)
  where
    go : (b : Bool) → f y ≡ b → (Contains xs x → Contains (filter f xs) x) → Contains (cond b (y ∷ filter f xs) (filter f xs)) x
    go true e rest = Contains-cases y xs x (Contains (y ∷ filter f xs) x) (λ same. subst (Contains (y ∷ filter f xs)) same (Contains-here y (filter f xs))) (λ d. Contains-later y (filter f xs) x (rest d)) c
    go false e rest = Contains-cases y xs x (Contains (filter f xs) x) (λ same. absurd (true≢false (sym is ∙ ap f (sym same) ∙ e))) rest c

pub contains_flat : {A B : Type 0} (f : A → List B) (xs : List A) (x : A) (y : B) → Contains xs x → Contains (f x) y → Contains (flat_map f xs) y
contains_flat f [] x y c d = absurd (Contains-none x c)
contains_flat f (z ∷ xs) x y c d = Contains-cases z xs x (Contains (flat_map f (z ∷ xs)) y) (λ e. contains_left (f z) (flat_map f xs) y (subst (λ w. Contains (f w) y) (sym e) d))
    (λ h. contains_right (f z) (flat_map f xs) y (contains_flat f xs x y h d)) c

pub no_elements : {A B : Type 0} (f : A → B) (xs : List A) → map f xs ≡ [] → xs ≡ []
no_elements f [] e = refl
no_elements f (x ∷ xs) e = absurd (cc)

pub drop_words : {A B : Type 0} (f : A → ℕ) (ws : List B) (es more : List A) → length es ≡ length ws → drop (length ws) (map f (es ++ more)) ≡ map f more
drop_words f [] [] more e = refl
drop_words f (w ∷ ws) (a ∷ es) more e = drop_words f ws es more (omega (arith, e))
drop_words f [] (a ∷ es) more e = absurd (cc)
drop_words f (w ∷ ws) [] more e = absurd (cc)

-- no byte of an argument is a half or a flag
pub temps_apart : (ts : List ℕ) (l : Loc) → passes l ≡ true → Contains (map Temp ts) l → ⊥
temps_apart [] l e c = absurd (Contains-none l c)
temps_apart (t ∷ ts) l e c = Contains-cases (Temp t) (map Temp ts) l ⊥ (λ same. true≢false (sym e ∙ ap passes (sym same))) (λ d. temps_apart ts l e d) c

-- Arguments.

-- What is said of words and of halves and flags that are taken is said of all arguments that stay.
pub arguments_stay : (E : Expr → Type 0) (params : List Loc) (ws : List Param) (es : List Expr) (xs : List Loc) → length es ≡ length ws → ((e : Expr) → Contains es e → E e) →
    ((l : Loc) → Contains xs l → is_among params l ≡ true → E (Get l)) → (k : ℕ) (e : Expr) → slice_get (es ++ map Get xs) k ≡ Some e → is_taken params (slice_get (ws ++ map param_of xs) k) ≡ true → E e
arguments_stay E params [] [] xs len words halves k e is stays = go xs halves k is stays
  where
    go : (ys : List Loc) → ((l : Loc) → Contains ys l → is_among params l ≡ true → E (Get l)) → (k : ℕ) → slice_get (map Get ys) k ≡ Some e → is_taken params (slice_get (map param_of ys) k) ≡ true → E e
    go [] halves k is stays = absurd (cc)
    go (y ∷ ys) halves zero is stays = let same : Get y ≡ e = cc in subst E same (halves y (Contains-here y ys) stays)
    go (y ∷ ys) halves (suc k) is stays = go ys (λ l c. halves l (Contains-later y ys l c)) k is stays
arguments_stay E params (w ∷ ws) (a ∷ es) xs len words halves zero e is stays = let same : a ≡ e = cc in subst E same (words a (Contains-here a es))
arguments_stay E params (w ∷ ws) (a ∷ es) xs len words halves (suc k) e is stays =
    arguments_stay E params ws es xs (omega (arith, len)) (λ x c. words x (Contains-later a es x c)) halves k e is stays
arguments_stay E params [] (a ∷ es) xs len words halves k e is stays = absurd (cc)
arguments_stay E params (w ∷ ws) [] xs len words halves k e is stays = absurd (cc)

word_width : (bits : List ℕ) (q : Put) → is_word_put q ≡ true → put_width bits q ≡ 16
word_width bits Memory e = refl
word_width bits (Two low high) e = refl
word_width bits (One l) e = absurd (true≢false (sym e))

-- the words of a call have 16 bits
pub words_wide : (bits callee_bits : List ℕ) (ws qs : List Param) (es more : List Expr) → length es ≡ length ws → map (width_of bits) (es ++ more) ≡ map (λ q. put_width callee_bits q.put) (ws ++ qs) →
    list_all (λ w. w.stack && is_word_put w.put) ws ≡ true → (e : Expr) → Contains es e → width_of bits e ≡ 16
words_wide bits callee_bits ws qs [] more len same stack e c = absurd (Contains-none e c)
words_wide bits callee_bits (w ∷ ws) qs (a ∷ es) more len same stack e c =
    let parts = both (w.stack && is_word_put w.put) (list_all (λ (x : Param). x.stack && is_word_put x.put) ws) stack in
    let first : width_of bits a ≡ put_width callee_bits w.put = cc in
    Contains-cases a es e (width_of bits e ≡ 16) (λ is. ap (width_of bits) (sym is) ∙ first ∙ word_width callee_bits w.put (both w.stack (is_word_put w.put) parts.0).1)
    (λ d. words_wide bits callee_bits ws qs es more (omega (arith, len)) (cc) parts.1 e d) c
words_wide bits callee_bits [] qs (a ∷ es) more len same stack e c = absurd (cc)

-- what has 16 bits is no half or flag
pub wide_is_word : (bits : List ℕ) (e : Expr) → width_of bits e ≡ 16 → is_passing e ≡ false
wide_is_word bits (Get (Half r h)) e = absurd (omega (arith, e))
wide_is_word bits (Get (Flag f)) e = absurd (omega (arith, e))
wide_is_word bits (Get (Cell n h)) e = refl
wide_is_word bits (Get (Temp n)) e = refl
wide_is_word bits e wide = refl

-- A call passes as many words as its callee takes.
pub words_as_many : (f : Expr → ℕ) (h : Param → ℕ) (words : List Expr) (taken : List Param) (xs : List Loc) → map f (words ++ map Get xs) ≡ map h (taken ++ map param_of xs) → length words ≡ length taken
words_as_many f h words taken xs same =
    let whole : length (words ++ map Get xs) ≡ length (taken ++ map param_of xs) = sym (length-map (words ++ map Get xs) f) ∙ ap length same ∙ length-map (taken ++ map param_of xs) h in
    let one : length words + length xs ≡ length (words ++ map Get xs) = ap (λ n. length words + n) (sym (length-map xs Get)) ∙ sym (length-append words (map Get xs)) in
    let other : length (taken ++ map param_of xs) ≡ length taken + length xs = length-append taken (map param_of xs) ∙ ap (λ n. length taken + n) (length-map xs param_of) in
    omega (arith, one, whole, other)
