-- The argument words stay, one by one and first, where other params go, and where two halves are one param.
use Rattle.std.proofs.Common.{◌≡◌, ℕ, zero, suc, ◌<◌, Bool, true, false, List, [], ◌∷◌, ◌++◌, length, Option, Some, None, refl, sym, ap, ◌∙◌, subst, arith}
use Rattle.std.specs.Prelude.{All, ◌||◌, if◌then◌else◌, option_map, slice_get}
use Rattle.std.proofs.lemmas.List.Elements.{All-cons, All-head, All-tail}
use Rattle.dcc_ir.specs.declared.syntax.Loc.{Loc}
use Rattle.dcc_ir.specs.declared.syntax.Put.{Put}
use Rattle.dcc_ir.specs.declared.syntax.Put.TheVariants.{Memory, One, Two}
use Rattle.dcc_ir.specs.declared.syntax.Param.{Param}
use Rattle.dcc_ir.specs.Trimmed.{kept}
use Rattle.dcc_ir.specs.WellFormed.{is_memory}
use Rattle.dcc_signatures.specs.Packed.{are_halves, two_or_one, in_front, merged, one_put, param_with, one_param}
use Rattle.dcc_sums.specs.Localised.{sets_one_of, is_taken}
use Rattle.dcc_pipe.specs.Standing.{IsLocated}
use Rattle.dcc_pipe.proofs.TrimmedLaws.{kept-all}

-- a word on the stack
abbrev pub IsWord : Param → Type 0
IsWord param = param.stack ≡ true

-- these words come first, and then what stands in locations
pub record BeginsWith (words params : List Param) : Type 0 where
  pub others : List Param
  pub are : params ≡ words ++ others
  pub located : All IsLocated others

-- Params that go.

-- a word on the stack stays, wherever it stands
pub word-taken : (chosen : List Loc) (words others : List Param) → All IsWord words → (k : ℕ) → k < length words
    → is_taken chosen (slice_get (words ++ others) k) ≡ true
word-taken chosen [] others stack k less = absurd (omega (arith, less))
word-taken chosen (w ∷ words) others stack zero less =
    ap (λ b. b || sets_one_of chosen w.put) (All-head IsWord w words stack)
word-taken chosen (w ∷ words) others stack (suc k) less =
    word-taken chosen words others (All-tail IsWord w words stack) k (omega (arith, less))

pub kept-begins : (stays : ℕ → Bool) (words others : List Param) → All IsLocated others
    → ((k : ℕ) → k < length words → stays k ≡ true) → BeginsWith words (kept stays (words ++ others))
kept-begins stays [] others located all =
    record { others = kept stays others; are = refl; located = kept-all IsLocated stays others located }
kept-begins stays (w ∷ words) others located all =
    let later = kept-begins (λ k. stays (suc k)) words others located (λ k less. all (suc k) (omega (arith, less))) in
    let rest = kept (λ k. stays (suc k)) (words ++ others) in
    record {
      others = later.others;
      are = ap (λ b. if b then w ∷ rest else rest) (all 0 (omega arith)) ∙ ap (λ ps. w ∷ ps) later.are;
      located = later.located;
    }

-- Params that are one.

-- what two of them are stands in locations
one-located : (p q z : Param) → one_param p q ≡ Some z → IsLocated z
one-located p q z is = by (p.stack || q.stack) is
  where
    put-located : (a b : Put) (put : Put) → one_put a b ≡ Some put → is_memory put ≡ false
    put-located (One low) (One high) put is = halves (are_halves low high) is
      where
        halves : (c : Bool) → (if c then Some (Two low high) else None) ≡ Some put → is_memory put ≡ false
        halves true is = let same : Two low high ≡ put = cc in ap is_memory (sym same)
        halves false is = absurd (cc)
    put-located (One low) Memory put is = absurd (cc)
    put-located (One low) (Two a b) put is = absurd (cc)
    put-located Memory b put is = absurd (cc)
    put-located (Two a c) b put is = absurd (cc)

    of : (put : Option Put) → one_put p.put q.put ≡ put → option_map param_with put ≡ Some z → IsLocated z
    of (Some put) here is =
        let same : param_with put ≡ z = cc in
        subst IsLocated same (refl, put-located p.put q.put put here)
    of None here is = absurd (cc)

    by : (b : Bool) → (if b then None else option_map param_with (one_put p.put q.put)) ≡ Some z → IsLocated z
    by true is = absurd (cc)
    by false is = of (one_put p.put q.put) refl is

front-located : (p : Param) (params : List Param) → IsLocated p → All IsLocated params
    → All IsLocated (in_front one_param p params)
front-located p [] is all = All-cons IsLocated p [] is all
front-located p (q ∷ params) is all = by (one_param p q) refl
  where
    by : (one : Option Param) → one_param p q ≡ one → All IsLocated (two_or_one p q params one)
    by (Some z) here =
        All-cons IsLocated z params (one-located p q z here) (All-tail IsLocated q params all)
    by None here = All-cons IsLocated p (q ∷ params) is all

merged-located : (params : List Param) → All IsLocated params → All IsLocated (merged one_param params)
merged-located [] all = all
merged-located (p ∷ params) all =
    front-located p (merged one_param params) (All-head IsLocated p params all)
    (merged-located params (All-tail IsLocated p params all))

-- a word on the stack is a param of its own
word-apart : (w : Param) (params : List Param) → IsWord w → in_front one_param w params ≡ w ∷ params
word-apart w [] is = refl
word-apart w (q ∷ params) is =
    ap (λ b. two_or_one w q params (if b || q.stack then None else option_map param_with (one_put w.put q.put))) is

pub merged-begins : (words others : List Param) → All IsWord words → All IsLocated others
    → BeginsWith words (merged one_param (words ++ others))
merged-begins [] others stack located =
    record { others = merged one_param others; are = refl; located = merged-located others located }
merged-begins (w ∷ words) others stack located =
    let later = merged-begins words others (All-tail IsWord w words stack) located in
    record {
      others = later.others;
      are = ap (in_front one_param w) later.are ∙ word-apart w (words ++ later.others) (All-head IsWord w words stack);
      located = later.located;
    }
