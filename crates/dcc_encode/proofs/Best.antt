-- The best encoding among drafts, one draft after another.
use Rattle.std.proofs.Common.{◌≡◌, ℕ, zero, suc, ◌+◌, ◌<◌, ◌⊎◌, true, false, List, [], ◌∷◌, ◌++◌, length, map, take, slice_index_or, get_or, Fits, w8, ◌≤◌, Option, Some, None, Contains, MatchOption, refl, sym, ap, ◌∙◌, subst, inl, inr, arith}
use Rattle.std.specs.List.{AllByRecursion}
use Rattle.std.proofs.lemmas.List.{get_or_default, take_more, map-append}
use Rattle.dcc_machine.specs.declared.cpu.Cpu.{Cpu}
use Rattle.dcc_machine.specs.declared.instr.Op.{Op}
use Rattle.dcc_machine.specs.declared.instr.Instr.{Instr}
use Rattle.dcc_machine.specs.Table.{instruction_at}
use Rattle.dcc_encode.specs.declared.shape.Shape.{Shape}
use Rattle.dcc_encode.specs.Encoding.{is_preferred, IsEncoding, IsStandard}
use Rattle.smallvec.specs.SmallVec.{SmallVec}
use Rattle.dcc_encode.specs.EncodingViews.{IsBest, items_of}
use Rattle.dcc_encode.specs.Shapes.{drafts}
use Rattle.dcc_encode.proofs.Covered.{all-append, encodings_are_drafts}
use Rattle.dcc_encode.proofs.Orders.{preferred-trans, preferred-total}

instr-made : (instr : Instr) (op : Op) (size : ℕ) → instr.op ≡ op → instr.len ≡ size → ◌≡◌ {A = Instr} instr (record { op = op; len = size })
instr-made instr op size p q = made instr.op op instr.len size p q
  where
    made : (o o' : Op) (n n' : ℕ) → o ≡ o' → n ≡ n' → ◌≡◌ {A = Instr} (record { op = o; len = n }) (record { op = o'; len = n' })
    made o o' n n' p q = cc

instr-op : (instr other : Instr) → Some instr ≡ Some other → instr.op ≡ other.op
instr-op instr other e = let same : instr ≡ other = cc in ap (λ (i : Instr). i.op) same

all-mapped : (P Q : List ℕ → Type 0) (xs : List (List ℕ)) → ((x : List ℕ) → P x → Q x) → AllByRecursion P xs → AllByRecursion Q xs
all-mapped P Q [] f h = tt
all-mapped P Q (x ∷ xs) f h = (f x h.0, all-mapped P Q xs f h.1)

all-contains : (P : List ℕ → Type 0) (xs : List (List ℕ)) (x : List ℕ) → AllByRecursion P xs → Contains xs x → P x
all-contains P xs x h c = at xs c.0 h c.1 c.2
  where
    at : (xs : List (List ℕ)) (k : ℕ) → AllByRecursion P xs → k < length xs → slice_index_or xs k x ≡ x → P x
    at [] k h l e = absurd (omega arith)
    at (y ∷ ys) zero h l e = subst P e h.0
    at (y ∷ ys) (suc k) h l e = at ys k h.1 (omega arith) e

-- a draft that is no encoding changes nothing
pub best-other : (cpu : Cpu) (at : ℕ) (op : Op) (seen : List (List ℕ)) (bytes : List ℕ) (best : Option (List ℕ))
    → ¬ IsEncoding cpu at op bytes → IsBest cpu at op seen best → IsBest cpu at op (seen ++ bytes ∷ []) best
best-other cpu at op seen bytes None apart h = all-append (λ b. ¬ IsEncoding cpu at op b) seen (bytes ∷ []) h (apart, tt)
best-other cpu at op seen bytes (Some best) apart h = (
  h.0,
  all-append (λ b. IsEncoding cpu at op b → (b ≡ best) ⊎ (is_preferred best b ≡ true)) seen (bytes ∷ []) h.1 ((λ is. absurd (apart is)), tt),
)

-- the first encoding
pub best-first : (cpu : Cpu) (at : ℕ) (op : Op) (seen : List (List ℕ)) (bytes : List ℕ)
    → IsEncoding cpu at op bytes → IsBest cpu at op seen None → IsBest cpu at op (seen ++ bytes ∷ []) (Some bytes)
best-first cpu at op seen bytes is h =
    let Q : List ℕ → Type 0 = λ b. IsEncoding cpu at op b → (b ≡ bytes) ⊎ (is_preferred bytes b ≡ true) in
    (is, all-append Q seen (bytes ∷ []) (all-mapped (λ b. ¬ IsEncoding cpu at op b) Q seen (λ b apart also. absurd (apart also)) h) ((λ also. inl refl), tt))

-- a better encoding
pub best-better : (cpu : Cpu) (at : ℕ) (op : Op) (seen : List (List ℕ)) (bytes known : List ℕ)
    → IsEncoding cpu at op bytes → is_preferred bytes known ≡ true → IsBest cpu at op seen (Some known)
    → IsBest cpu at op (seen ++ bytes ∷ []) (Some bytes)
best-better cpu at op seen bytes known is better h =
    let P : List ℕ → Type 0 = λ b. IsEncoding cpu at op b → (b ≡ known) ⊎ (is_preferred known b ≡ true) in
    let Q : List ℕ → Type 0 = λ b. IsEncoding cpu at op b → (b ≡ bytes) ⊎ (is_preferred bytes b ≡ true) in
    let onward : (b : List ℕ) → P b → Q b = λ b p also. elim (p also) [
      | inl same ↦ inr (subst (λ x. is_preferred bytes x ≡ true) (sym same) better)
      | inr worse ↦ inr (preferred-trans bytes known b better worse)
    ] in
    (is, all-append Q seen (bytes ∷ []) (all-mapped P Q seen onward h.1) ((λ also. inl refl), tt))

-- an encoding that is no better
pub best-kept : (cpu : Cpu) (at : ℕ) (op : Op) (seen : List (List ℕ)) (bytes known : List ℕ)
    → is_preferred bytes known ≡ false → IsBest cpu at op seen (Some known)
    → IsBest cpu at op (seen ++ bytes ∷ []) (Some known)
best-kept cpu at op seen bytes known worse h =
    let P : List ℕ → Type 0 = λ b. IsEncoding cpu at op b → (b ≡ known) ⊎ (is_preferred known b ≡ true) in
    (h.0, all-append P seen (bytes ∷ []) h.1 ((λ also. preferred-total bytes known worse), tt))

-- the best of all drafts is the standard encoding
pub best-standard : (cpu : Cpu) (at : ℕ) (op : Op) (best : List ℕ) → IsBest cpu at op (drafts op at) (Some best) → IsStandard cpu at op best
best-standard cpu at op best h = record {
  encoding = h.0;
  preferred = λ others is.
      all-contains (λ b. IsEncoding cpu at op b → (b ≡ best) ⊎ (is_preferred best b ≡ true)) (drafts op at) others h.1
      (encodings_are_drafts cpu at op others is) is;
}

pub best-none : (cpu : Cpu) (at : ℕ) (op : Op) (bytes : List ℕ) → IsBest cpu at op (drafts op at) None → ¬ IsEncoding cpu at op bytes
best-none cpu at op bytes h is =
    all-contains (λ b. ¬ IsEncoding cpu at op b) (drafts op at) bytes h (encodings_are_drafts cpu at op bytes is) is

-- what is decoded, whole, to the operation is an encoding of it
pub encoding-made : (cpu : Cpu) (at : ℕ) (op : Op) (bytes : List ℕ) (instr : Instr) → instruction_at cpu at bytes ≡ Some instr
    → instr.len ≡ length bytes → instr.op ≡ op → at + length bytes ≤ 65536 → ((i : ℕ) → Fits w8 (get_or bytes i 0))
    → IsEncoding cpu at op bytes
encoding-made cpu at op bytes instr found size same within fits = record {
  decoded = found ∙ ap Some (instr-made instr op (length bytes) same size);
  within = within;
  are_bytes = λ k d l. subst (λ n. n < 256) (sym (get_or_default bytes k d 0 l)) (small k);
}
  where
    small : (k : ℕ) → get_or bytes k 0 < 256
    small k = let h = fits k in omega (arith, h)

-- the operation of an encoding is the one that is decoded
pub encoding-op : (cpu : Cpu) (at : ℕ) (op : Op) (bytes : List ℕ) (instr : Instr) → instruction_at cpu at bytes ≡ Some instr
    → IsEncoding cpu at op bytes → instr.op ≡ op
encoding-op cpu at op bytes instr found is = instr-op instr (record { op = op; len = length bytes }) (sym found ∙ is.decoded)

-- what the best of all drafts tells
pub best-told : (cpu : Cpu) (at : ℕ) (op : Op) (best : Option (SmallVec ℕ)) → IsBest cpu at op (drafts op at) (items_of best)
    → MatchOption best ((bytes : List ℕ) → ¬ IsEncoding cpu at op bytes) (λ bytes. IsStandard cpu at op bytes.items)
best-told cpu at op None h = λ bytes. best-none cpu at op bytes h
best-told cpu at op (Some best) h = best-standard cpu at op best.items h

-- one draft more
pub drafts-more : (f : Shape → List ℕ) (list : List Shape) (i : ℕ) (d : Shape) (bytes : List ℕ) → i < length list
    → bytes ≡ f (get_or list i d) → map f (take i list) ++ bytes ∷ [] ≡ map f (take (i + 1) list)
drafts-more f list i d bytes l e =
    ap (λ (b : List ℕ). map f (take i list) ++ b ∷ []) e ∙ sym (map-append f (take i list) (get_or list i d ∷ []))
    ∙ ap (map f) (sym (take_more list i d l))
