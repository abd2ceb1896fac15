-- How many bytes of a kind a list begins with, and what stands after some bytes.
use Rattle.std.proofs.Common.{◌≡◌, ℕ, ◌<◌, ◌≤◌, Bool, true, false, List, [], ◌∷◌, length, get_or, take, drop, ap, None, refl, sym, cond, ⊎_elim, ◌∙◌, subst, arith}
use Rattle.std.proofs.lemmas.List.Sums.{prefix_len_is, take_while-cons}
use Rattle.std.proofs.lemmas.List.Folds.{list_all_at, length-prefix_len}
use Rattle.std.proofs.lemmas.Bool.{true_from_ne_false, and_from, cases_Bool}
use Rattle.std.specs.List.{prefix_len, list_all, take_while}
use Rattle.dcc_c.specs.Pieces.{after, after_while}

-- the place of the first byte of another kind
pub run_stops : (kind : ℕ → Bool) (bytes : List ℕ) (at : ℕ) → ((k : ℕ) → k < at → kind (get_or bytes k 0) ≡ true) → at < length bytes → kind (get_or bytes at 0) ≡ false → at ≡ prefix_len kind bytes
run_stops kind bytes at before inside stops = sym (prefix_len_is kind bytes at 0 (omega arith) before (λ below. stops))

-- each byte is of the kind
pub run_whole : (kind : ℕ → Bool) (bytes : List ℕ) (at : ℕ) → ((k : ℕ) → k < at → kind (get_or bytes k 0) ≡ true) → length bytes ≤ at → length bytes ≡ prefix_len kind bytes
run_whole kind bytes at before all =
    sym (prefix_len_is kind bytes (length bytes) 0 (omega arith) (λ k below. before k (omega arith)) (λ below. absurd (omega arith)))

-- words that are left are not the first ones of no bytes
pub after_none : (words bytes : List ℕ) → 0 < length words → length bytes ≡ 0 → after words bytes ≡ None
after_none [] bytes some none = absurd (omega arith)
after_none (w ∷ words) [] some none = refl
after_none (w ∷ words) (b ∷ bytes) some none = absurd (omega arith)

-- each byte of a run is of its kind
pub all_at : (kind : ℕ → Bool) (bytes : List ℕ) (at : ℕ) → list_all kind bytes ≡ true → at < length bytes → kind (get_or bytes at 0) ≡ true
all_at kind bytes at all inside =
    true_from_ne_false (kind (get_or bytes at 0)) (λ no. let none = list_all_at kind bytes at 0 inside no in cc)

-- The parts of bytes that begin with a run.
pub run_front : (kind : ℕ → Bool) (bytes : List ℕ) (at : ℕ) {front : List ℕ} → at ≡ prefix_len kind bytes → front ≡ take at bytes → front ≡ take_while kind bytes
run_front kind bytes at is front = front ∙ ap (λ n. take n bytes) is

pub run_back : (kind : ℕ → Bool) (bytes : List ℕ) (at : ℕ) {back : List ℕ} → at ≡ prefix_len kind bytes → back ≡ drop at bytes → back ≡ after_while kind bytes
run_back kind bytes at is back = back ∙ ap (λ n. drop n bytes) (is ∙ sym (length-prefix_len kind bytes))

pub all_of_run : (kind : ℕ → Bool) (bytes : List ℕ) → list_all kind (take_while kind bytes) ≡ true
all_of_run kind [] = refl
all_of_run kind (b ∷ bytes) =
    ⊎_elim (λ is. subst (λ run. list_all kind run ≡ true) (sym (take_while-cons kind b bytes ∙ ap (λ t. cond t (b ∷ take_while kind bytes) []) is))
    (and_from (kind b) (list_all kind (take_while kind bytes)) is (all_of_run kind bytes)))
    (λ is. subst (λ run. list_all kind run ≡ true) (sym (take_while-cons kind b bytes ∙ ap (λ t. cond t (b ∷ take_while kind bytes) []) is)) refl)
    (cases_Bool (kind b))

pub run_all : (kind : ℕ → Bool) (bytes : List ℕ) (at : ℕ) {front : List ℕ} → at ≡ prefix_len kind bytes → front ≡ take at bytes → list_all kind front ≡ true
run_all kind bytes at is front =
    subst (λ run. list_all kind run ≡ true) (sym (run_front kind bytes at is front)) (all_of_run kind bytes)
