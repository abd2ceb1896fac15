-- Numbers that look random: a linear congruential generator, with the multiplier and the increment of D. E. Knuth's
-- MMIX (The Art of Computer Programming, volume 2, 3.3.4).
use Rattle.std.specs.Prelude.{◌≡◌, ℕ, ◌+◌, ◌*◌, ◌/◌, ◌%◌, ◌^◌, List, [], ◌∷◌}

-- the state of the generator one draw later
unfoldable pub next_state : ℕ → ℕ
next_state state = (state * 6364136223846793005 + 1442695040888963407) % 2 ^ 64

-- the number below `choices` that a state stands for: its upper 31 bits, modulo `choices`
unfoldable pub number_at : ℕ → ℕ → ℕ
number_at state choices = state / 2 ^ 33 % choices

-- one draw: the number of choices, and which of them came, counted from 0
abbrev pub Draw : Type 0
Draw = ℕ × ℕ

-- these draws, each once and in this order, are what the generator gives from the state before them on; the last state
-- is that after them
abbrev pub AreDrawn : List Draw → ℕ → ℕ → Type 0
AreDrawn [] before after = after ≡ before
AreDrawn ((choices, number) ∷ draws) before after =
    (number ≡ number_at (next_state before) choices) × AreDrawn draws (next_state before) after
