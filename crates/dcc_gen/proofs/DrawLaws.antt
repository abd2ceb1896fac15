-- Draws that come one after another.
use Rattle.std.proofs.Common.{ℕ, List, [], ◌∷◌, ◌++◌, map, sym, subst}
use Rattle.std.specs.List.{flat_map}
use Rattle.std.proofs.lemmas.List.{flat_map_more, map_push}
use Rattle.dcc_gen.specs.Draws.{Draw, next_state, AreDrawn}

-- draws and later draws, joined
pub drawn-append : (draws later : List Draw) (before between after : ℕ) →
    AreDrawn draws before between → AreDrawn later between after → AreDrawn (draws ++ later) before after
drawn-append [] later before between after are will =
    subst (λ state. AreDrawn later state after) are will
drawn-append ((choices, number) ∷ draws) later before between after are will =
    (are.0, drawn-append draws later (next_state before) between after are.1 will)

-- the draws of one element more
pub drawn-more : {X : Type 0} (draws_of : X → List Draw) (xs : List X) (x : X) (before between after : ℕ) →
    AreDrawn (flat_map draws_of xs) before between → AreDrawn (draws_of x) between after →
    AreDrawn (flat_map draws_of (xs ++ x ∷ [])) before after
drawn-more draws_of xs x before between after are will =
    subst (λ draws. AreDrawn draws before after) (flat_map_more draws_of [] xs x)
    (drawn-append (flat_map draws_of xs) (draws_of x) before between after are will)

-- one draw more
pub draw-more : {X : Type 0} (draw_of : X → Draw) (xs : List X) (x : X) (before between after : ℕ) →
    AreDrawn (map draw_of xs) before between → AreDrawn (draw_of x ∷ []) between after →
    AreDrawn (map draw_of (xs ++ x ∷ [])) before after
draw-more draw_of xs x before between after are will =
    subst (λ draws. AreDrawn draws before after) (sym (map_push draw_of xs x))
    (drawn-append (map draw_of xs) (draw_of x ∷ []) before between after are will)
