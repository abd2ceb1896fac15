-- Runs of bytes of one kind, and bytes that begin with given ones.
use Rattle.std.proofs.Common.{◌≡◌, ◌≤◌, ℕ, Bool, true, false, not, ◌==◌, List, [], ◌∷◌, ◌++◌, length, drop, length-drop, Some, refl, sym, ap, ◌∙◌, subst, inl, inr, arith}
use Rattle.std.specs.List.{take_while, list_all}
use Rattle.std.proofs.lemmas.Bool.{and_parts, and_from, cases_Bool, cond-true, cond-false, not_from_false, eqb-true}
use Rattle.std.proofs.lemmas.List.Sums.{take_while-cons}
use Rattle.dcc_c.specs.Pieces.{after_while, after}
use Rattle.dcc_c.proofs.reading.Passing.{if-cases}

-- no byte of the kind follows
abbrev pub ends_run : (ℕ → Bool) → List ℕ → Bool
ends_run p [] = true
ends_run p (b ∷ bytes) = not (p b)

pub no_more_of : (p : ℕ → Bool) (b : ℕ) → not (p b) ≡ true → p b ≡ false
no_more_of p b = at (p b)
  where
    at : (t : Bool) → not t ≡ true → t ≡ false
    at true ended = absurd cc
    at false ended = refl

pub in_run : (p : ℕ → Bool) (b : ℕ) (bytes : List ℕ) → p b ≡ true → take_while p (b ∷ bytes) ≡ b ∷ take_while p bytes
in_run p b bytes is = take_while-cons p b bytes ∙ cond-true _ _ _ is

pub out_of_run : (p : ℕ → Bool) (b : ℕ) (bytes : List ℕ) → p b ≡ false → take_while p (b ∷ bytes) ≡ []
out_of_run p b bytes is = take_while-cons p b bytes ∙ cond-false _ _ _ is

-- The bytes are a run of the kind, which is the longest, and a rest.
pub record IsRun (p : ℕ → Bool) (bytes run rest : List ℕ) : Type 0 where
  pub all : list_all p run ≡ true
  pub ended : ends_run p rest ≡ true
  pub same : bytes ≡ run ++ rest

pub run_of : (p : ℕ → Bool) (bytes : List ℕ) → IsRun p bytes (take_while p bytes) (after_while p bytes)
run_of p [] = record { all = refl; ended = refl; same = refl }
run_of p (b ∷ bytes) = elim (cases_Bool (p b)) [
  | inl is ↦ let later = run_of p bytes in
      subst (λ run. IsRun p (b ∷ bytes) run (drop (length run) (b ∷ bytes))) (sym (in_run p b bytes is))
      (record { all = and_from _ _ is later.all; ended = later.ended; same = ap (λ x. b ∷ x) later.same })
  | inr not_so ↦ subst (λ run. IsRun p (b ∷ bytes) run (drop (length run) (b ∷ bytes))) (sym (out_of_run p b bytes not_so))
      (record { all = refl; ended = not_from_false (p b) not_so; same = refl })
]

-- a run of bytes that pass the test, before a byte that doesn't or the end, is the longest one
pub run_is : (p : ℕ → Bool) (run rest : List ℕ) → list_all p run ≡ true → ends_run p rest ≡ true → take_while p (run ++ rest) ≡ run
run_is p [] [] all ended = refl
run_is p [] (b ∷ rest) all ended = out_of_run p b rest (no_more_of p b ended)
run_is p (b ∷ run) rest all ended =
    let (here, others) = and_parts (p b) (list_all p run) all in
    in_run p b (run ++ rest) here ∙ ap (λ x. b ∷ x) (run_is p run rest others ended)

pub drop_first : (first rest : List ℕ) → drop (length first) (first ++ rest) ≡ rest
drop_first [] rest = refl
drop_first (b ∷ first) rest = drop_first first rest

pub after_run : (p : ℕ → Bool) (run rest : List ℕ) → list_all p run ≡ true → ends_run p rest ≡ true → after_while p (run ++ rest) ≡ rest
after_run p run rest all ended =
    ap (λ x. drop (length x) (run ++ rest)) (run_is p run rest all ended) ∙ drop_first run rest

pub drop_shorter : (n : ℕ) (bytes : List ℕ) → length (drop n bytes) ≤ length bytes
drop_shorter n bytes = omega (arith, length-drop n bytes)

-- a run that is begun takes a byte
pub after_shorter : (p : ℕ → Bool) (b : ℕ) (bytes : List ℕ) → p b ≡ true → length (after_while p (b ∷ bytes)) ≤ length bytes
after_shorter p b bytes is =
    subst (λ run. length (drop (length run) (b ∷ bytes)) ≤ length bytes) (sym (in_run p b bytes is)) (drop_shorter (length (take_while p bytes)) bytes)

-- Bytes that begin with given ones.

pub after-is : (words bytes rest : List ℕ) → after words bytes ≡ Some rest → bytes ≡ words ++ rest
after-is [] bytes rest = λ is. cc
after-is (w ∷ words) [] rest = λ is. absurd cc
after-is (w ∷ words) (b ∷ bytes) rest =
    if-cases (λ o. o ≡ Some rest → b ∷ bytes ≡ w ∷ (words ++ rest)) (w == b)
    (λ same is. let head : w ≡ b = eqb-true w b same in let tail : bytes ≡ words ++ rest = after-is words bytes rest is in cc)
    (λ _ is. absurd cc)
