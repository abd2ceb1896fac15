-- Reading one part after the other: what was read so far, put before what is read from here on.
use Rattle.std.proofs.Common.{◌≡◌, ℕ, option_to_list, zero, suc, ◌-◌, ◌<◌, Bool, true, false, if◌then◌else◌, List, [], ◌∷◌, ◌++◌, map, codes, Option, Some, None, refl, sym, ap, ◌∙◌, append_assoc, add-one, arith}
use Rattle.std.specs.Option.{option_map}
use Rattle.std.proofs.lemmas.List.{map-append, append-nil}
use Rattle.dcc_c.specs.Partial.{NumberAt, PartialExpr, PartialVariable}
use Rattle.dcc_c.specs.Reading.{Reader, Got, got, skip, sees_mark, sees_word, take_plain}
use Rattle.dcc_c.specs.ReadingStatements.{more_arguments, read_arguments, read_enclosed, read_case, read_cases, more_values, list_of, read_local, read_locals, read_param, more_params, read_params}
use Rattle.dcc_reader.specs.Parts.{before_list, begins_local}

-- one less, and one more again
pub counted : (n : ℕ) → 0 < n → suc (n - 1) ≡ n
counted n within = sym (add-one (n - 1)) ∙ omega arith

pub if-true : {A : Type 0} (b : Bool) (x y : A) → b ≡ true → (if b then x else y) ≡ x
if-true b x y e = ap (λ t. if t then x else y) e

pub if-false : {A : Type 0} (b : Bool) (x y : A) → b ≡ false → (if b then x else y) ≡ y
if-false b x y e = ap (λ t. if t then x else y) e

-- lists whose items stand for others, grown by one
pub map-pushed : {A B : Type 0} (f : A → B) (old now : List A) (x : A) → now ≡ old ++ x ∷ [] → map f now ≡ map f old ++ f x ∷ []
map-pushed f old now x e = ap (map f) e ∙ map-append f old (x ∷ [])

pub map-listed : {A B : Type 0} (f : A → B) (old now : List A) (x : Option A) → now ≡ old ++ option_to_list x → map f now ≡ map f old ++ option_to_list (option_map f x)
map-listed f old now (Some x) e = ap (map f) e ∙ map-append f old (x ∷ [])
map-listed f old now None e = ap (map f) e ∙ map-append f old []

-- what was read before an end
pub before-end : {A : Type 0} (before : List A) (r : Reader) → before_list before (got [] r) ≡ got before r
before-end before r = ap (λ l. got l r) (append-nil before)

-- one part more
pub before-step : {A : Type 0} (before xs now : List A) (whole others target : Got (List A)) → now ≡ before ++ xs →
    whole ≡ before_list xs others → before_list before whole ≡ target → before_list now others ≡ target
before-step before xs now whole others target is step had =
    ap (λ l. before_list l others) is
    ∙ ap (λ l. got l others.following) (append_assoc before xs others.value)
    ∙ sym (ap (before_list before) step) ∙ had

-- the end of a loop
pub before-done : {A : Type 0} (before : List A) (whole target : Got (List A)) (r : Reader) → whole ≡ got [] r →
    before_list before whole ≡ target → got before r ≡ target
before-done before whole target r end had = sym (before-end before r) ∙ sym (ap (before_list before) end) ∙ had

-- Arguments.

pub arguments-none : (n : ℕ) (r : Reader) → sees_mark (codes ",") r ≡ false → more_arguments n r ≡ got [] r
arguments-none zero r e = refl
arguments-none (suc n) r e = if-false (sees_mark (codes ",") r) _ _ e

pub arguments-some : (n : ℕ) (r : Reader) (first : Got PartialExpr) → 0 < n → sees_mark (codes ",") r ≡ true → first ≡ read_enclosed (n - 1) (skip r) →
    more_arguments n r ≡ before_list (first.value ∷ []) (more_arguments (n - 1) first.following)
arguments-some n r first within e is =
    ap (λ k. more_arguments k r) (sym (counted n within))
    ∙ if-true (sees_mark (codes ",") r) _ _ e
    ∙ ap (λ g. before_list (g.value ∷ []) (more_arguments (n - 1) g.following)) (sym is)

-- Cases.

pub cases-none : (n : ℕ) (r : Reader) → sees_word (codes "case") r ≡ false → read_cases n r ≡ got [] r
cases-none zero r e = refl
cases-none (suc n) r e = if-false (sees_word (codes "case") r) _ _ e

pub cases-some : (n : ℕ) (r : Reader) (first : Got (List NumberAt)) → 0 < n → sees_word (codes "case") r ≡ true → first ≡ read_case r →
    read_cases n r ≡ before_list first.value (read_cases (n - 1) first.following)
cases-some n r first within e is =
    ap (λ k. read_cases k r) (sym (counted n within))
    ∙ if-true (sees_word (codes "case") r) _ _ e
    ∙ ap (λ g. before_list g.value (read_cases (n - 1) g.following)) (sym is)

-- Initial values.

pub listed-values : (x : Option NumberAt) → list_of x ≡ option_to_list x
listed-values (Some n) = refl
listed-values None = refl

pub values-none : (n : ℕ) (r : Reader) → sees_mark (codes ",") r ≡ false → more_values n r ≡ got [] r
values-none zero r e = refl
values-none (suc n) r e = if-false (sees_mark (codes ",") r) _ _ e

pub values-some : (n : ℕ) (r : Reader) (first : Got (Option NumberAt)) → 0 < n → sees_mark (codes ",") r ≡ true → first ≡ take_plain (skip r) →
    more_values n r ≡ before_list (option_to_list first.value) (more_values (n - 1) first.following)
values-some n r first within e is =
    ap (λ k. more_values k r) (sym (counted n within))
    ∙ if-true (sees_mark (codes ",") r) _ _ e
    ∙ ap (λ g. before_list (list_of g.value) (more_values (n - 1) g.following)) (sym is)
    ∙ ap (λ l. before_list l (more_values (n - 1) first.following)) (listed-values first.value)

-- Local variables.

pub locals-none : (n : ℕ) (r : Reader) → begins_local r ≡ false → read_locals n r ≡ got [] r
locals-none zero r e = refl
locals-none (suc n) r e = if-false (begins_local r) _ _ e

pub locals-some : (n : ℕ) (r : Reader) (first : Got PartialVariable) → 0 < n → begins_local r ≡ true → first ≡ read_local r →
    read_locals n r ≡ before_list (first.value ∷ []) (read_locals (n - 1) first.following)
locals-some n r first within e is =
    ap (λ k. read_locals k r) (sym (counted n within))
    ∙ if-true (begins_local r) _ _ e
    ∙ ap (λ g. before_list (g.value ∷ []) (read_locals (n - 1) g.following)) (sym is)

-- Parameters.

pub params-none : (n : ℕ) (r : Reader) → sees_mark (codes ",") r ≡ false → more_params n r ≡ got [] r
params-none zero r e = refl
params-none (suc n) r e = if-false (sees_mark (codes ",") r) _ _ e

pub params-some : (n : ℕ) (r : Reader) (first : Got PartialVariable) → 0 < n → sees_mark (codes ",") r ≡ true → first ≡ read_param (skip r) →
    more_params n r ≡ before_list (first.value ∷ []) (more_params (n - 1) first.following)
params-some n r first within e is =
    ap (λ k. more_params k r) (sym (counted n within))
    ∙ if-true (sees_mark (codes ",") r) _ _ e
    ∙ ap (λ g. before_list (g.value ∷ []) (more_params (n - 1) g.following)) (sym is)

-- The first parts.

-- a list of one item
pub map-first : {A B : Type 0} (f : A → B) (old now : List A) (x : A) → old ≡ [] → now ≡ old ++ x ∷ [] → map f now ≡ f x ∷ []
map-first f old now x none e = map-pushed f old now x e ∙ ap (λ l. map f l ++ f x ∷ []) none

pub arguments-first : (n : ℕ) (r : Reader) (first : Got PartialExpr) (now : List PartialExpr) → sees_mark (codes ")") r ≡ false →
    first ≡ read_enclosed n r → now ≡ first.value ∷ [] → before_list now (more_arguments n first.following) ≡ read_arguments n r
arguments-first n r first now e is grown =
    ap (λ l. before_list l (more_arguments n first.following)) grown
    ∙ ap (λ (g : Got PartialExpr). before_list (g.value ∷ []) (more_arguments n g.following)) is
    ∙ sym (if-false (sees_mark (codes ")") r) _ _ e)

pub params-first : (n : ℕ) (r : Reader) (first : Got PartialVariable) (now : List PartialVariable) → sees_word (codes "void") r ≡ false →
    first ≡ read_param r → now ≡ first.value ∷ [] → before_list now (more_params n first.following) ≡ read_params n r
params-first n r first now e is grown =
    ap (λ l. before_list l (more_params n first.following)) grown
    ∙ ap (λ (g : Got PartialVariable). before_list (g.value ∷ []) (more_params n g.following)) is
    ∙ sym (if-false (sees_word (codes "void") r) _ _ e)

pub arguments-end : (n : ℕ) (r : Reader) → n ≡ 0 → more_arguments n r ≡ got [] r
arguments-end n r none = ap (λ k. more_arguments k r) none

pub cases-end : (n : ℕ) (r : Reader) → n ≡ 0 → read_cases n r ≡ got [] r
cases-end n r none = ap (λ k. read_cases k r) none

pub values-end : (n : ℕ) (r : Reader) → n ≡ 0 → more_values n r ≡ got [] r
values-end n r none = ap (λ k. more_values k r) none

pub locals-end : (n : ℕ) (r : Reader) → n ≡ 0 → read_locals n r ≡ got [] r
locals-end n r none = ap (λ k. read_locals k r) none

pub params-end : (n : ℕ) (r : Reader) → n ≡ 0 → more_params n r ≡ got [] r
params-end n r none = ap (λ k. more_params k r) none

-- nothing was read before
pub before-none : {A B : Type 0} (f : A → B) (items : List A) (whole : Got (List B)) → items ≡ [] → before_list (map f items) whole ≡ whole
before-none f items whole none = ap (λ l. before_list (map f l) whole) none
