-- The words of arguments go to the callee's frame, one after another, and then halves and flags to its locations.
use Rattle.std.proofs.Common.{◌≡◌, ◌≤◌, ◌<◌, ℕ, zero, suc, ◌+◌, ◌*◌, ◌/◌, ◌%◌, List, [], ◌∷◌, ◌++◌, map, ap, ◌∙◌, arith}
use Rattle.std.specs.Prelude.{pos, ◌-ℤ◌, All}
use Rattle.std.specs.List.{range_with_len}
use Rattle.dcc_num.specs.declared.Width.TheVariants.{Word as word_width}
use Rattle.dcc_stack.specs.Standing.{Activation}
use Rattle.dcc_ir.specs.declared.syntax.Param.{Param}
use Rattle.dcc_ir.specs.Value.{Fits}
use Rattle.dcc_ir.specs.Run.{State, scene_of, putting, passing}
use Rattle.dcc_simulation.specs.Coupled.{Setting}
use Rattle.dcc_simulation.specs.Places.{IsFramePlace}
use Rattle.dcc_simulation.specs.Procedures.{Procedure, frame_place}
use Rattle.dcc_simulation.specs.Passed.{argument_param}
use Rattle.dcc_simulation.proofs.CellSlots.{IsSmall}
use Rattle.dcc_simulation.proofs.ArgumentWords.{word_offsets}
use Rattle.dcc_simulation.proofs.FrameTakes.{TakesBytes, takes-none, takes-more, word-put}

-- params and arguments of two lists go one list after the other
pub passing-append : (count from : ℕ) (param : ℕ → Param) (value : ℕ → ℕ) (params : List Param) (rest : List ℕ)
    (t : State)
    → passing from (map param (range_with_len from count) ++ params) (map value (range_with_len from count) ++ rest) t
    ≡ passing (from + count) params rest
    (passing from (map param (range_with_len from count)) (map value (range_with_len from count)) t)
passing-append zero from param value params rest t = ap (λ j. passing j params rest t) (on from)
  where
    on : (n : ℕ) → n ≡ n + 0
    on n = omega arith
passing-append (suc count) from param value params rest t =
    let u = putting from (param from).put (value from) t in
    passing-append count (from + 1) param value params rest u
    ∙ ap (λ j. passing j params rest (passing (from + 1) (map param (range_with_len (from + 1) count))
    (map value (range_with_len (from + 1) count)) u)) (on from count)
  where
    on : (n m : ℕ) → n + 1 + m ≡ n + suc m
    on n m = omega arith

module _ (e : Setting) (c : Activation) (p : Procedure) (bytes value : ℕ → ℕ) where
  -- the word has a place in the frame, and its bytes are these
  pub record IsPut (number : ℕ) : Type 0 where
    pub place :
        IsFramePlace e c.frame.entry (pos (c.frame.base + 2 * number + 4) -ℤ pos c.frame.base) word_width
        (frame_place p word_width (pos (4 + 2 * number)))
    pub word : value number < 65536
    pub low : value number % 256 ≡ bytes (c.frame.base + 2 * number)
    pub high : value number / 256 ≡ bytes (c.frame.base + 2 * number + 1)

  pub words-pass : (count from : ℕ) (t : State) → All IsSmall (e.cells c.frame.entry) → Fits (scene_of t)
      → t.running.base ≡ c.frame.base → c.frame.base + 2 * (from + count) ≤ 65536
      → ((number : ℕ) → from ≤ number → number < from + count → IsPut number)
      → TakesBytes e c bytes (word_offsets c.frame.base (range_with_len from count)) t
      (passing from (map (argument_param p) (range_with_len from count)) (map value (range_with_len from count)) t)
  words-pass zero from t small fits same below each = takes-none e c bytes t fits
  words-pass (suc count) from t small fits same below each =
      let is = each from (omega arith) (omega arith) in
      let first = c.frame.base + 2 * from in
      let u = putting from (argument_param p from).put (value from) t in
      let one : TakesBytes e c bytes (first ∷ (first + 1) ∷ []) t u =
      word-put e c bytes t from first (value from) (frame_place p word_width (pos (4 + 2 * from))) small fits is.place
      (omega (arith, same, below)) (omega (arith, same, below)) is.word is.low is.high in
      takes-more e c bytes (first ∷ (first + 1) ∷ []) (word_offsets c.frame.base (range_with_len (from + 1) count)) t
      u _ one
      (words-pass count (from + 1) u small one.fits (ap (λ (v : State). v.running.base) one.is ∙ same)
      (omega (arith, below))
      (λ number low high. each number (omega (arith, low)) (omega (arith, high))))
