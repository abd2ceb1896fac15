-- The events that are pending after a step, and the keys that are left.
use Rattle.std.proofs.Common.{◌≡◌, ℕ, List, [], ◌∷◌, ◌++◌, length, map, drop, Option, refl, sym, ap, ◌∙◌, arith}
use Rattle.dcc_run.specs.Event.{Event as RunEvent, writes}
use Rattle.dcc_map.specs.declared.event.Event.{Event}
use Rattle.dcc_map.specs.declared.event.Event.TheVariants.{Wrote}
use Rattle.dcc_map.specs.Placed.{Placed, placed_at}
use Rattle.dcc_map.specs.Side.{event_of, key_event}

-- a list without its first item is shorter, if it has one
pub nothing_first : {X : Type 0} (xs : List X) → xs ≡ drop 1 xs → xs ≡ []
nothing_first [] same = refl
nothing_first (x ∷ xs) same = let long = ap (λ l. length l) same in absurd (omega (arith, long))

code_writes : (bytes : List ℕ) → map event_of (map Wrote bytes) ≡ writes bytes
code_writes [] = refl
code_writes (b ∷ bytes) = ap (λ l. event_of (Wrote b) ∷ l) (code_writes bytes)

-- at the beginning of a run nothing is pending
pub begun : (at : ℕ) (held : List Event) (events : List Placed) → held ≡ [] → events ≡ placed_at at (map event_of held) ++ events
begun at held events none = sym (ap (λ (l : List Event). placed_at at (map event_of l) ++ events) none)

pub none_pending : (at : ℕ) (held : List Event) → placed_at at (map event_of held) ≡ [] → held ≡ []
none_pending at [] none = refl
none_pending at (e ∷ held) none = cc

-- after bytes were written
pub pending_written : (before at : ℕ) (held items : List Event) (bytes : List ℕ) → placed_at before (map event_of held) ≡ []
    → items ≡ held ++ map Wrote bytes → placed_at at (map event_of items) ≡ placed_at at (writes bytes)
pending_written before at held items bytes none is =
    ap (λ (l : List Event). placed_at at (map event_of l)) (is ∙ ap (λ (l : List Event). l ++ map Wrote bytes) (none_pending before held none))
    ∙ ap (λ (l : List RunEvent). placed_at at l) (code_writes bytes)

-- after a key was taken and bytes were written
pub pending_key : (before at : ℕ) (held mid items : List Event) (key : Option ℕ) (bytes : List ℕ) → placed_at before (map event_of held) ≡ []
    → mid ≡ held ++ key_event key ∷ [] → items ≡ mid ++ map Wrote bytes
    → placed_at at (map event_of items) ≡ placed_at at (event_of (key_event key) ∷ writes bytes)
pending_key before at held mid items key bytes none first is =
    ap (λ (l : List Event). placed_at at (map event_of l))
    (is ∙ ap (λ (l : List Event). l ++ map Wrote bytes) (first ∙ ap (λ (l : List Event). l ++ key_event key ∷ []) (none_pending before held none)))
    ∙ ap (λ (l : List RunEvent). placed_at at (event_of (key_event key) ∷ l)) (code_writes bytes)

-- where there was no key, none is left
pub no_keys : (keys now : List ℕ) → keys ≡ now → now ≡ drop 1 keys → (keys ≡ []) × (now ≡ [])
no_keys keys now same rest = let none = nothing_first keys (same ∙ rest) in (none, sym same ∙ none)
