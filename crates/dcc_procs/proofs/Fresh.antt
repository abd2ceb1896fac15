-- What is read from the list of what is seen, and what it is at first.
use Rattle.std.proofs.Common.{◌≡◌, ◌≢◌, inl, inr, ℕ, ◌<◌, List, [], ◌∷◌, ◌++◌, length, get_or, slice_set, replicate, Contains, Option, Some, None, refl, sym, ap, ◌∙◌, arith}
use Rattle.std.proofs.lemmas.Grind.{get_or-set_at}
use Rattle.std.proofs.lemmas.List.Elements.{Contains-push_cases}
use Rattle.std.proofs.lemmas.List.{get_or-replicate, length-replicate, length-set, get_or_past, get_or_default}
use Rattle.std.proofs.lemmas.Bool.{cases_lt}
use Rattle.dcc_procs.specs.declared.known.Known.{Known}
use Rattle.dcc_procs.specs.Search.{seen_at}
use Rattle.dcc_procs.proofs.Searching.{set-cases}

abbrev nothing_known : Option Known
nothing_known = None

pub none-at : (n i : ℕ) → seen_at (replicate n None) i ≡ None
none-at n i = elim (cases_lt i n) [
  | inl inside ↦ get_or-replicate n i nothing_known nothing_known inside
  | inr past ↦
      get_or_past (replicate n nothing_known) i nothing_known
      (let e = length-replicate n nothing_known in omega (arith, e, past))
]

-- what stands at an index
pub seen-read :
    (seen : List (Option Known)) (i at : ℕ) (now value : Option Known) → now ≡ get_or seen i now → i ≡ at
    → now ≡ value → at < length seen → seen_at seen at ≡ value
seen-read seen i at now value read same is inside =
    get_or_default seen at None now inside ∙ ap (λ n. get_or seen n now) (sym same) ∙ sym read ∙ is

-- an option that can't have a value has none
pub not-seen : (o : Option Known) → (o ≢ None → ⊥) → o ≡ None
not-seen None h = refl
not-seen (Some known) h = absurd (h (λ e. let clash = e in cc))

-- the last of the offsets that are seen is forgotten
pub cleared-one :
    (seen : List (Option Known)) (rest : List ℕ) (at i : ℕ) → length seen ≡ 65536 → at < 65536 → i ≡ at
    → ((n : ℕ) → seen_at seen n ≢ None → Contains (rest ++ at ∷ []) n)
    → (length (slice_set seen i None) ≡ 65536) × ((n : ℕ) → seen_at (slice_set seen i None) n ≢ None → Contains rest n)
cleared-one seen rest at i whole small is listed = (
  length-set seen i None ∙ whole,
  λ n there.
      elim (set-cases seen i None (omega (arith, whole, small, is)) n) [
        | inl here ↦ absurd (there here.1)
        | inr same ↦ elim (Contains-push_cases rest at n (listed n (λ none. there (same ∙ none)))) [
          | inl before ↦ before
          | inr last ↦
              absurd
              (there (get_or-set_at seen i n nothing_known None (sym last ∙ sym is) (omega (arith, whole, small, is))))
        ]
      ],
)
