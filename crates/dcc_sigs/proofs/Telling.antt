-- What signatures tell of a procedure.
use Rattle.std.proofs.Common.{◌≡◌, ◌<◌, ℕ, ◌+◌, Bool, true, false, List, [], ◌∷◌, ◌++◌, length, take, get_or, refl, sym, ap, ◌∙◌, append-nil, arith}
use Rattle.std.proofs.lemmas.List.{flat_map_more, take_more}
use Rattle.std.specs.Prelude.{◌==◌, ◌&&◌, if◌then◌else◌, count_by}
use Rattle.std.specs.List.{flat_map}
use Rattle.std.proofs.lemmas.Bool.Decides.{nat_tests}
use Rattle.dcc_sigs.specs.declared.signature.Sig.{Sig}
use Rattle.dcc_sigs.specs.Recognised.{Told, told, matches_at, tells, told_if, told_at}

-- where one signature alone matches the procedure, it is told where that one is alone
pub if-alone : (code entries : List ℕ) (sigs : List Sig) (entry : ℕ) (sig : Sig) (alone : Bool) → count_by (matches_at code entry) sigs ≡ 1
    → alone ≡ (matches_at code entry sig && (count_by (λ other. matches_at code other sig) entries == 1))
    → told_if code entries sigs entry sig ≡ (if alone then told entry sig ∷ [] else [])
if-alone code entries sigs entry sig alone one is =
    let both : tells code entries sigs entry sig ≡ alone =
    ap (λ n. (n == 1) && (matches_at code entry sig && (count_by (λ other. matches_at code other sig) entries == 1))) one ∙ sym is in
    ap (λ b. if b then told entry sig ∷ [] else []) both

pub is-told : (code entries : List ℕ) (sigs : List Sig) (entry : ℕ) (sig : Sig) (alone : Bool) → count_by (matches_at code entry) sigs ≡ 1
    → alone ≡ (matches_at code entry sig && (count_by (λ other. matches_at code other sig) entries == 1)) → alone ≡ true
    → told_if code entries sigs entry sig ≡ told entry sig ∷ []
is-told code entries sigs entry sig alone one is sure =
    if-alone code entries sigs entry sig alone one is ∙ ap (λ b. if b then told entry sig ∷ [] else []) sure

pub is-untold : (code entries : List ℕ) (sigs : List Sig) (entry : ℕ) (sig : Sig) (alone : Bool) → count_by (matches_at code entry) sigs ≡ 1
    → alone ≡ (matches_at code entry sig && (count_by (λ other. matches_at code other sig) entries == 1)) → alone ≡ false
    → told_if code entries sigs entry sig ≡ []
is-untold code entries sigs entry sig alone one is other =
    if-alone code entries sigs entry sig alone one is ∙ ap (λ b. if b then told entry sig ∷ [] else []) other

-- where no signature matches the procedure, or several do, none tells it
none-of : (code entries : List ℕ) (sigs others : List Sig) (entry : ℕ) → (count_by (matches_at code entry) sigs == 1) ≡ false
    → flat_map (told_if code entries sigs entry) others ≡ []
none-of code entries sigs [] entry h = refl
none-of code entries sigs (sig ∷ others) entry h =
    ap (λ b. (if b && (matches_at code entry sig && (count_by (λ other. matches_at code other sig) entries == 1)) then told entry sig ∷ [] else [])
    ++ flat_map (told_if code entries sigs entry) others) h
    ∙ none-of code entries sigs others entry h

pub none-told : (code entries : List ℕ) (sigs : List Sig) (entry : ℕ) → (count_by (matches_at code entry) sigs ≡ 1 → ⊥)
    → (old : List Told) → old ≡ old ++ told_at code entries sigs entry
none-told code entries sigs entry h old =
    sym (ap (λ (l : List Told). old ++ l) (none-of code entries sigs sigs entry (unequal (count_by (matches_at code entry) sigs) h)) ∙ append-nil old)
  where
    unequal : (n : ℕ) → (n ≡ 1 → ⊥) → (n == 1) ≡ false
    unequal n no_one = grind (arith, nat_tests)

-- one signature more
pub told-more : (code entries : List ℕ) (sigs : List Sig) (entry i : ℕ) (sig : Sig) (old first new : List Told) → i < length sigs
    → sig ≡ get_or sigs i sig → old ≡ first ++ flat_map (told_if code entries sigs entry) (take i sigs)
    → new ≡ old ++ told_if code entries sigs entry sig → new ≡ first ++ flat_map (told_if code entries sigs entry) (take (i + 1) sigs)
told-more code entries sigs entry i sig old first new l is before more =
    let f : Sig → List Told = told_if code entries sigs entry in
    more
    ∙ ap (λ (t : List Told). t ++ f sig) before
    ∙ flat_map_more f first (take i sigs) sig
    ∙ ap (λ (s : Sig). first ++ flat_map f (take i sigs ++ s ∷ [])) is
    ∙ ap (λ (ss : List Sig). first ++ flat_map f ss) (sym (take_more sigs i sig l))
