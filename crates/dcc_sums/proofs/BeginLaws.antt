-- What graphs hold after they have taken their arguments, all of these or some.
use Rattle.std.proofs.Common.{arith, ◌≡◌, ℕ, zero, suc, ◌+◌, ◌<◌, ◌≤◌, Bool, true, cond, ◌&&◌, ◌||◌, List, [], ◌∷◌, ◌++◌, length, Some, refl, sym, ap, ◌∙◌, map, drop, slice_get}
use Rattle.std.specs.Prelude.{Contains, option_map}
use Rattle.std.specs.List.{list_all}
use Rattle.std.proofs.lemmas.Option.{slice_get-map}
use Rattle.dcc_ir.specs.declared.syntax.Loc.{Loc}
use Rattle.dcc_ir.specs.declared.syntax.Param.{Param}
use Rattle.dcc_ir.specs.Location.{Values}
use Rattle.dcc_ir.specs.Live.{is_among}
use Rattle.dcc_ir.specs.Passing.{passed, param_of, is_word_put}
use Rattle.dcc_ir.specs.Passes.{with_values}
use Rattle.dcc_ir.specs.Run.{State, setting, putting, passing}
use Rattle.dcc_ir.specs.Trimmed.{kept}
use Rattle.dcc_ir.proofs.FitLaws.{both}
use Rattle.dcc_ir.proofs.ReachedLaws.{contained}
use Rattle.dcc_ir.proofs.passes.SameLaws.{Open, taken_same}
use Rattle.dcc_sums.specs.Localised.{sets_one_of, is_taken}
use Rattle.dcc_sums.proofs.KeptLaws.{later, map-kept}
use Rattle.dcc_sums.proofs.GivenLaws.{given-kept, given-alike}

-- the places after so many
abbrev pub past : ℕ → (ℕ → Bool) → ℕ → Bool
past zero stays = stays
past (suc n) stays = past n (later stays)

-- all locations hold nothing
abbrev pub nothing : Values
nothing = λ l. 0

-- Lists.

pub length_past : {A : Type 0} (ws : List A) (a : List ℕ) (m : ℕ) → length a ≡ length ws + m → length (drop (length ws) a) ≡ m
length_past [] a m e = e ∙ omega arith
length_past (w ∷ ws) (n ∷ a) m e = length_past ws a m (omega (arith, e))
length_past (w ∷ ws) [] m e = absurd (omega (arith, e))

-- which params stay is told by the params alone, after the words too
pub taken_past : (params : List Loc) (ws qs : List Param) (k : ℕ) → past (length ws) (λ i. is_taken params (slice_get (ws ++ qs) i)) k ≡ is_taken params (slice_get qs k)
taken_past params [] qs k = refl
taken_past params (w ∷ ws) qs k = taken_past params ws qs k

pub half_taken : (params xs : List Loc) (k : ℕ) (l : Loc) → slice_get xs k ≡ Some l → is_taken params (slice_get (map param_of xs) k) ≡ is_among params l
half_taken params xs k l e = ap (is_taken params) (slice_get-map param_of xs k ∙ ap (option_map param_of) e)

words_taken : (params : List Loc) (ws qs : List Param) → list_all (λ w. w.stack && is_word_put w.put) ws ≡ true → (k : ℕ) → k < length ws → is_taken params (slice_get (ws ++ qs) k) ≡ true
words_taken params [] qs all k less = absurd (omega (arith, less))
words_taken params (w ∷ ws) qs all zero less =
    let first = both (w.stack && is_word_put w.put) (list_all (λ (x : Param). x.stack && is_word_put x.put) ws) all in
    ap (λ b. b || sets_one_of params w.put) (both w.stack (is_word_put w.put) first.0).0
words_taken params (w ∷ ws) qs all (suc k) less =
    words_taken params ws qs (both (w.stack && is_word_put w.put) (list_all (λ (x : Param). x.stack && is_word_put x.put) ws) all).1 k (omega (arith, less))

-- Arguments.

-- the words are taken first, and then what is left of the others
words_first : (stays : ℕ → Bool) (j : ℕ) (ws qs : List Param) (a : List ℕ) (t : State) → length ws ≤ length a → ((k : ℕ) → k < length ws → stays k ≡ true) →
    passing j (kept stays (ws ++ qs)) (kept stays a) t ≡ passing (j + length ws) (kept (past (length ws) stays) qs) (kept (past (length ws) stays) (drop (length ws) a)) (passing j ws a t)
words_first stays j [] qs a t less all = ap (λ i. passing i (kept stays qs) (kept stays a) t) (omega arith)
words_first stays j (w ∷ ws) qs [] t less all = absurd (omega (arith, less))
words_first stays j (w ∷ ws) qs (n ∷ a) t less all =
    let K = kept (later stays) (ws ++ qs) in
    let L = kept (later stays) a in
    let n' = past (length ws) (later stays) in
    let index : (j + 1) + length ws ≡ j + suc (length ws) = omega arith in
    ap (λ b. passing j (cond b (w ∷ K) K) (cond b (n ∷ L) L) t) (all 0 (omega arith))
    ∙ words_first (later stays) (j + 1) ws qs a (putting j w.put n t) (omega (arith, less)) (λ k below. all (suc k) (omega (arith, below)))
    ∙ ap (λ i. passing i (kept n' qs) (kept n' (drop (length ws) a)) (passing (j + 1) ws a (putting j w.put n t))) index

-- all words are taken first, and then what is left of the others
all_words_first : (j : ℕ) (ws qs : List Param) (a : List ℕ) (t : State) → length ws ≤ length a → passing j (ws ++ qs) a t ≡ passing (j + length ws) qs (drop (length ws) a) (passing j ws a t)
all_words_first j [] qs a t less = ap (λ i. passing i qs a t) (omega arith)
all_words_first j (w ∷ ws) qs [] t less = absurd (omega (arith, less))
all_words_first j (w ∷ ws) qs (n ∷ a) t less =
    let index : (j + 1) + length ws ≡ j + suc (length ws) = omega arith in
    all_words_first (j + 1) ws qs a (putting j w.put n t) (omega (arith, less))
    ∙ ap (λ i. passing i qs (drop (length ws) a) (passing (j + 1) ws a (putting j w.put n t))) index

-- halves and flags take their arguments
halves_values : (j : ℕ) (xs : List Loc) (ns : List ℕ) (u : State) → (passing j (map param_of xs) ns u).running.values ≡ with_values u.running.values xs ns
halves_values j [] ns u = refl
halves_values j (x ∷ xs) [] u = refl
halves_values j (x ∷ xs) (n ∷ ns) u = halves_values (j + 1) xs ns (setting x n u)

halves_memory : (j : ℕ) (xs : List Loc) (ns : List ℕ) (u : State) → (passing j (map param_of xs) ns u).memory ≡ u.memory
halves_memory j [] ns u = refl
halves_memory j (x ∷ xs) [] u = refl
halves_memory j (x ∷ xs) (n ∷ ns) u = halves_memory (j + 1) xs ns (setting x n u)

-- The graphs that take words, halves and flags.
module _ (ws : List Param) (a : List ℕ) (enough : length a ≡ length ws + length passed) where
  abbrev pub whole : List Param
  whole = ws ++ map param_of passed

  less : length ws ≤ length a
  less = omega (arith, enough)

  -- what halves and flags hold are the arguments after those of the words
  pub first_values : (s : State) (l : Loc) → Contains passed l → (passing 0 whole a s).running.values l ≡ with_values nothing passed (drop (length ws) a) l
  first_values s l c =
      ap (λ (u : State). u.running.values l) (all_words_first 0 ws (map param_of passed) a s less)
      ∙ ap (λ (v : Values). v l) (halves_values (0 + length ws) passed (drop (length ws) a) (passing 0 ws a s))
      ∙ given-alike l passed (drop (length ws) a) nothing (passing 0 ws a s).running.values (length_past ws a (length passed) enough) (λ out. absurd (out c))

  module _ (stack : list_all (λ w. w.stack && is_word_put w.put) ws ≡ true) (params : List Loc) (s t : State) (alike : Open s t) where
    abbrev stays : ℕ → Bool
    stays = λ k. is_taken params (slice_get whole k)

    abbrev left : List Loc
    left = kept (past (length ws) stays) passed

    abbrev given : List ℕ
    given = kept (past (length ws) stays) (drop (length ws) a)

    taken_words : passing 0 (kept stays whole) (kept stays a) t ≡ passing (0 + length ws) (map param_of left) given (passing 0 ws a t)
    taken_words =
        words_first stays 0 ws (map param_of passed) a t less (λ k below. words_taken params ws (map param_of passed) stack k below)
        ∙ ap (λ qs. passing (0 + length ws) qs given (passing 0 ws a t)) (sym (map-kept param_of (past (length ws) stays) passed))

    opened : Open (passing 0 ws a s) (passing 0 ws a t)
    opened = taken_same 0 ws a s t alike

    -- a location holds the same in both graphs where it stays if it passes
    pub begin_alike : (l : Loc) → (Contains passed l → is_among params l ≡ true) → (passing 0 (kept stays whole) (kept stays a) t).running.values l ≡ (passing 0 whole a s).running.values l
    begin_alike l stay =
        ap (λ (u : State). u.running.values l) taken_words
        ∙ ap (λ (v : Values). v l) (halves_values (0 + length ws) left given (passing 0 ws a t))
        ∙ given-kept l (past (length ws) stays) passed (drop (length ws) a) (passing 0 ws a s).running.values (passing 0 ws a t).running.values
        (length_past ws a (length passed) enough)
        (λ k e. taken_past params ws (map param_of passed) k ∙ half_taken params passed k l e ∙ stay (contained passed k l e)) (λ out. opened.values l)
        ∙ sym (ap (λ (v : Values). v l) (halves_values (0 + length ws) passed (drop (length ws) a) (passing 0 ws a s)))
        ∙ sym (ap (λ (u : State). u.running.values l) (all_words_first 0 ws (map param_of passed) a s less))

    -- memory is the same in both graphs where they begin
    pub begin_memory : (passing 0 (kept stays whole) (kept stays a) t).memory ≡ (passing 0 whole a s).memory
    begin_memory =
        ap (λ (u : State). u.memory) taken_words ∙ halves_memory (0 + length ws) left given (passing 0 ws a t) ∙ opened.memory
        ∙ sym (halves_memory (0 + length ws) passed (drop (length ws) a) (passing 0 ws a s))
        ∙ sym (ap (λ (u : State). u.memory) (all_words_first 0 ws (map param_of passed) a s less))
