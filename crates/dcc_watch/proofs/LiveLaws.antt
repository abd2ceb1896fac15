-- The search for the newest frame whose part holds a byte.
use Rattle.std.proofs.Common.{◌≡◌, ℕ, ◌+◌, ◌-◌, ◌<◌, ◌≤◌, true, false, List, [], ◌∷◌, take, drop, length, get_or, sym, ap, ◌∙◌, arith}
use Rattle.std.specs.Prelude.{◌&&◌, not, nat_le, pos, ◌-ℤ◌, if◌then◌else◌}
use Rattle.std.proofs.lemmas.Grind.{common_steps}
use Rattle.std.proofs.lemmas.List.{drop_more, take_rest}
use Rattle.dcc_watch.specs.declared.frames.Live.{Live}
use Rattle.dcc_watch.specs.Kept.{Kept}
use Rattle.dcc_watch.specs.Shapes.{exposes, end_of, exposed_in}

-- the frames that live, as the code goes over them
pub lives : (items stored : List Live) (newest room : ℕ) (kept : Kept) → stored ≡ items → record { room = room; live = drop newest items } ≡ kept
    → take (length stored - newest) (drop newest stored) ≡ kept.live
lives items stored newest room kept is view =
    take_rest stored newest ∙ ap (drop newest) is ∙ ap (λ (k : Kept). k.live) view

module _ (low offset : ℕ) (all list : List Live) (i : ℕ) (d : Live) where
  at : all ≡ list → i < length all → drop i list ≡ get_or all i d ∷ drop (i + 1) list
  at same lt =
      ap (drop i) (sym same) ∙ drop_more all i d lt ∙ ap (λ l. get_or all i d ∷ drop (i + 1) l) same

  -- the newest frame that holds the byte isn't the one at the place
  pub not_this : all ≡ list → i < length all
      → (nat_le low offset && not (nat_le (end_of (get_or all i d)) offset)) ≡ false
      → exposed_in low (drop i list) offset ≡ exposed_in (get_or all i d).base (drop (i + 1) list) offset
  not_this same lt isnt =
      let live = get_or all i d in
      ap (λ l. exposed_in low l offset) (at same lt)
      ∙ ap (λ b. if b then exposes live.shape (pos (offset + 4) -ℤ pos live.base) else exposed_in live.base (drop (i + 1) list) offset) isnt

  -- the newest frame that holds the byte is the one at the place
  pub this : all ≡ list → i < length all
      → (nat_le low offset && not (nat_le (end_of (get_or all i d)) offset)) ≡ true
      → exposed_in low (drop i list) offset ≡ exposes (get_or all i d).shape (pos (offset + 4) -ℤ pos (get_or all i d).base)
  this same lt is =
      let live = get_or all i d in
      ap (λ l. exposed_in low l offset) (at same lt)
      ∙ ap (λ b. if b then exposes live.shape (pos (offset + 4) -ℤ pos live.base) else exposed_in live.base (drop (i + 1) list) offset) is

past : (l : List Live) (n : ℕ) → length l ≤ n → drop n l ≡ []
past l n le = grind (arith, common_steps)

-- there is none
pub none : (low offset : ℕ) (all list : List Live) (i : ℕ) → all ≡ list → length all ≤ i → false ≡ exposed_in low (drop i list) offset
none low offset all list i same le =
    let short : length list ≤ i = omega (arith, ap length same) in
    ap (λ l. exposed_in low l offset) (sym (past list i short))
