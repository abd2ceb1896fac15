-- Laws of prefixes.
use Rattle.std.proofs.Common.{◌≡◌, inl, inr, List, [], ◌∷◌, ◌++◌, refl, sym, ap, ◌∙◌, append_assoc}
use Rattle.std.proofs.lemmas.List.{append-nil}
use Rattle.dcc_run.specs.Prefix.{IsPrefix, AreComparable}

-- a list is a prefix of itself
pub prefix_refl : {A : Type 0} (xs : List A) → IsPrefix xs xs
prefix_refl xs = record { rest = []; joins = sym (append-nil xs) }

-- the empty list is a prefix of each list
pub prefix_nil : {A : Type 0} (xs : List A) → IsPrefix [] xs
prefix_nil xs = record { rest = xs; joins = refl }

-- a list is a prefix of what it is continued to
pub prefix_append : {A : Type 0} (xs ys : List A) → IsPrefix xs (xs ++ ys)
prefix_append xs ys = record { rest = ys; joins = refl }

pub prefix_trans : {A : Type 0} {xs ys zs : List A} → IsPrefix xs ys → IsPrefix ys zs → IsPrefix xs zs
prefix_trans {A} {xs} {ys} {zs} p q = record {
  rest = p.rest ++ q.rest;
  joins = q.joins ∙ ap (λ l. l ++ q.rest) p.joins ∙ append_assoc xs p.rest q.rest;
}

-- two prefixes of one list are comparable
comparable_at : {A : Type 0} (xs ys r s : List A) → xs ++ r ≡ ys ++ s → AreComparable xs ys
comparable_at [] ys r s e = inl (prefix_nil ys)
comparable_at (x ∷ xs) [] r s e = inr (prefix_nil (x ∷ xs))
comparable_at (x ∷ xs) (y ∷ ys) r s e =
    let heads : x ≡ y = cc in
    let tails : xs ++ r ≡ ys ++ s = cc in
    elim (comparable_at xs ys r s tails) [
      | inl p ↦ inl (record { rest = p.rest; joins = let j = p.joins in cc })
      | inr p ↦ inr (record { rest = p.rest; joins = let j = p.joins in cc })
    ]

pub prefixes_comparable : {A : Type 0} {xs ys zs : List A} → IsPrefix xs zs → IsPrefix ys zs → AreComparable xs ys
prefixes_comparable {A} {xs} {ys} {zs} p q = comparable_at xs ys p.rest q.rest (sym p.joins ∙ q.joins)
