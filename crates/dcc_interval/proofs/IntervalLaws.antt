-- Laws of intervals: those of two headers that part the graph have no node in common.
use Rattle.std.proofs.Common.{◌≡◌, ℕ, Bool, true, ◌⊎◌, inl, inr, refl, sym, subst}
use Rattle.dcc_interval.specs.Graphs.{IsReached, at_entry, along}
use Rattle.dcc_interval.specs.Intervals.{InInterval, itself, follows, IsHeader, first, entered}

module _ (edge : ℕ → ℕ → Bool) (entry : ℕ) where
  pub reached_within : {h n : ℕ} → IsReached edge entry h → InInterval edge entry h n → IsReached edge entry n
  reached_within r itself = r
  reached_within r (follows off reached before) = reached

  pub header_reached : {n : ℕ} → IsHeader edge entry n → IsReached edge entry n
  header_reached first = at_entry
  header_reached (entered heads i e out) = along (reached_within (header_reached heads) i) e

  -- the interval of a node lies in each that holds the node
  pub nested : {h k n : ℕ} → InInterval edge entry h k → InInterval edge entry k n → InInterval edge entry h n
  nested i itself = i
  nested i (follows off reached before) = follows off reached (λ m r e. nested i (before m r e))

  -- a node other than the entry is reached by an edge
  pub before_it : {n : ℕ} → IsReached edge entry n → ¬ (n ≡ entry) → (m : ℕ) × IsReached edge entry m × (edge m n ≡ true)
  before_it at_entry off = absurd (off refl)
  before_it (along {m = m} r e) off = (m, r, e)

  -- of two intervals that meet, one holds the header of the other
  pub meet : {a b n : ℕ} → InInterval edge entry a n → InInterval edge entry b n → InInterval edge entry b a ⊎ InInterval edge entry a b
  meet itself k = inl k
  meet (follows off reached before) itself = inr (follows off reached before)
  meet (follows off reached before) (follows off' reached' before') =
      let m = before_it reached off in
      meet (before m.0 m.1 m.2) (before' m.0 m.1 m.2)

  entry_alone : {k n : ℕ} → InInterval edge entry k n → n ≡ entry → n ≡ k
  entry_alone itself e = refl
  entry_alone (follows off reached before) e = absurd (off e)

  -- a header is in no interval but its own
  pub alone : {n k : ℕ} → IsHeader edge entry n → InInterval edge entry k n → n ≡ k
  alone first i = entry_alone i refl
  alone (entered heads i e out) itself = refl
  alone {k = k} (entered {header = h} {m = m} {n = n} heads i e out) (follows off reached before) =
      elim (meet i (before m (reached_within (header_reached heads) i) e)) [
        | inl t ↦ absurd (out (subst (λ x. InInterval edge entry x n) (sym (alone heads t)) (follows off reached before)))
        | inr t ↦ absurd (out (nested t (follows off reached before)))
      ]

  pub apart : {a b n : ℕ} → IsHeader edge entry a → IsHeader edge entry b → InInterval edge entry a n → InInterval edge entry b n → a ≡ b
  apart heads others i j = elim (meet i j) [ inl t ↦ alone heads t | inr t ↦ sym (alone others t) ]
