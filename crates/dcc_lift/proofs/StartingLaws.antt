-- What is written for some registers, one after another.
use Rattle.std.proofs.Common.{◌≡◌, ℕ, ◌+◌, ◌<◌, List, ◌++◌, length, take, get_or, flat_map, ap, sym, ◌∙◌}
use Rattle.std.proofs.lemmas.List.{flat_map_more, take_more}

-- one more is written
pub written-more : {X Y : Type 0} (f : X → List Y) (xs : List X) (i : ℕ) (d : X) (all before after : List Y)
    → i < length xs
    → before ≡ all ++ flat_map f (take i xs) → after ≡ before ++ f (get_or xs i d)
    → after ≡ all ++ flat_map f (take (i + 1) xs)
written-more f xs i d all before after l was more =
    more
    ∙ (ap (λ so_far. so_far ++ f (get_or xs i d)) was
    ∙ (flat_map_more f all (take i xs) (get_or xs i d)
    ∙ ap (λ ys. all ++ flat_map f ys) (sym (take_more xs i d l))))
