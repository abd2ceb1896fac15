-- The bytes of arguments that a callee gives back: as its Ret gives them, and as the caller takes them.
use Rattle.std.proofs.Common.{◌≡◌, ◌<◌, ℕ, suc, ◌+◌, ◌*◌, ◌%◌, List, [], ◌∷◌, ◌++◌, map, Some, Contains, option_map, refl, sym, ap, ap₂, ◌∙◌, subst, arith}
use Rattle.std.specs.Prelude.{pos, ◌+ℤ◌, ◌-ℤ◌, All, slice_get}
use Rattle.std.specs.List.{range_with_len}
use Rattle.std.proofs.lemmas.List.Concat.{flat_map-cons}
use Rattle.std.proofs.lemmas.List.FromFn.{length-range_with_len, get_or-range_with_len}
use Rattle.std.proofs.lemmas.Option.{slice_get-map, slice_get-get_or}
use Rattle.dcc_run.specs.End.{Running}
use Rattle.dcc_num.specs.declared.Width.TheVariants.{Byte as byte_width}
use Rattle.dcc_prog.proofs.StackMarks.{at_head, in_rest}
use Rattle.dcc_stack.specs.Standing.{Activation}
use Rattle.dcc_ir.specs.declared.syntax.Loc.TheVariants.{Temp}
use Rattle.dcc_ir.specs.Tree.{Expr, Stmt, Get}
use Rattle.dcc_ir.specs.Value.{Fits}
use Rattle.dcc_ir.specs.Run.{State, value_in, scene_of, execute}
use Rattle.dcc_ir.specs.Passing.{bytes_at_put, bytes_of_param, bytes_of}
use Rattle.dcc_ir.proofs.ExecuteLaws.{execute-append}
use Rattle.dcc_ops.specs.Temporaries.{returned_place}
use Rattle.dcc_ops.specs.OperandPlace.{storing}
use Rattle.dcc_simulation.specs.Coupled.{Setting}
use Rattle.dcc_simulation.specs.Places.{IsFramePlace}
use Rattle.dcc_simulation.specs.Procedures.{Procedure, frame_place}
use Rattle.dcc_simulation.specs.Passed.{argument_param, argument_params}
use Rattle.dcc_simulation.specs.Statements.{argument_offset, taking_back, taking_all_back}
use Rattle.dcc_simulation.proofs.CellSlots.{IsSmall}
use Rattle.dcc_simulation.proofs.ArgumentWords.{word_offsets}
use Rattle.dcc_simulation.proofs.FrameTakes.{TakesBytes, takes-none, takes-more, byte-stored}
use Rattle.dcc_simulation.proofs.LocationsGiven.{HoldFrom, hold-kept}

-- What a Ret gives.

pub param-at : (p : Procedure) (number : ℕ) → number < p.frame.args
    → slice_get (argument_params p) number ≡ Some (argument_param p number)
param-at p number small =
    let numbers = range_with_len 0 p.frame.args in
    slice_get-map (argument_param p) numbers number
    ∙ ap (option_map (argument_param p))
    (slice_get-get_or numbers number 0
    (subst (λ n. number < n) (sym (length-range_with_len 0 p.frame.args)) small)
    ∙ ap Some (get_or-range_with_len 0 p.frame.args number 0 small ∙ from-zero number))
  where
    from-zero : (n : ℕ) → 0 + n ≡ n
    from-zero n = omega arith

module _ (p : Procedure) (base : ℕ) (bytes : ℕ → ℕ) (t : State) where
  -- a param's two bytes have these values
  pub record GivesWord (number : ℕ) : Type 0 where
    pub argument : number < p.frame.args
    pub low : Expr
    pub high : Expr
    pub are : bytes_at_put number (argument_param p number).put ≡ low ∷ high ∷ []
    pub lower : value_in t low ≡ bytes (base + 2 * number)
    pub upper : value_in t high ≡ bytes (base + 2 * number + 1)

  pub words-given : (numbers : List ℕ) → ((number : ℕ) → Contains numbers number → GivesWord number)
      → map (value_in t) (bytes_of (argument_params p) numbers) ≡ map bytes (word_offsets base numbers)
  words-given [] each = refl
  words-given (number ∷ numbers) each =
      let is = each number (at_head number number numbers refl) in
      ap (map (value_in t))
      (flat_map-cons (λ j. bytes_of_param j (slice_get (argument_params p) j)) number numbers
      ∙ ap (λ o. bytes_of_param number o ++ bytes_of (argument_params p) numbers) (param-at p number is.argument)
      ∙ ap (λ l. l ++ bytes_of (argument_params p) numbers) is.are)
      ∙ ap₂ (λ low high. low ∷ high ∷ map (value_in t) (bytes_of (argument_params p) numbers)) is.lower is.upper
      ∙ ap (λ l. bytes (base + 2 * number) ∷ bytes (base + 2 * number + 1) ∷ l)
      (words-given numbers (λ other has. each other (in_rest number other numbers has)))

-- What the caller takes.

module _ (e : Setting) (c : Activation) (q : Procedure) (height base : ℕ) (bytes : ℕ → ℕ)
    (cells : All IsSmall (e.cells c.frame.entry)) (bytes-small : (offset : ℕ) → bytes offset < 256) where
  -- both bytes of the word have places in the frame
  pub record IsTaken (number : ℕ) : Type 0 where
    pub below : base + 2 * number + 1 < 65536
    pub low :
        IsFramePlace e c.frame.entry (pos (base + 2 * number + 4) -ℤ pos c.frame.base) byte_width
        (frame_place q byte_width (argument_offset height number))
    pub high :
        IsFramePlace e c.frame.entry (pos (base + 2 * number + 1 + 4) -ℤ pos c.frame.base) byte_width
        (frame_place q byte_width (argument_offset height number +ℤ pos 1))

  pub words-taken : (numbers : List ℕ) (index : ℕ) (t : State) → Fits (scene_of t) → t.end ≡ Running
      → t.running.base ≡ c.frame.base % 65536
      → HoldFrom t.running.values (2 * index) (map bytes (word_offsets base numbers))
      → ((number : ℕ) → Contains numbers number → IsTaken number)
      → TakesBytes e c bytes (word_offsets base numbers) t (execute (taking_all_back q height index numbers) t)
  words-taken [] index t fits running at held each = takes-none e c bytes t fits
  words-taken (number ∷ numbers) index t fits running at held each =
      subst (TakesBytes e c bytes (first ∷ (first + 1) ∷ word_offsets base numbers) t) (sym runs)
      (takes-more e c bytes (first ∷ []) ((first + 1) ∷ word_offsets base numbers) t t1 _ one
      (takes-more e c bytes ((first + 1) ∷ []) (word_offsets base numbers) t1 t2 _ two
      (words-taken numbers (suc index) t2 two.fits (ap (λ (v : State). v.end) two.is ∙ goes)
      (ap (λ (v : State). v.running.base) two.is ∙ based) later
      (λ other has. each other (in_rest number other numbers has)))))
    where
      first : ℕ
      first = base + 2 * number

      is : IsTaken number
      is = each number (at_head number number numbers refl)

      low_stmts : List Stmt
      low_stmts = storing (frame_place q byte_width (argument_offset height number)) (Get (returned_place (2 * index)))

      high_stmts : List Stmt
      high_stmts =
          storing (frame_place q byte_width (argument_offset height number +ℤ pos 1))
          (Get (returned_place (2 * index + 1)))

      t1 : State
      t1 = execute low_stmts t

      t2 : State
      t2 = execute high_stmts t1

      small-at : (n v : ℕ) → n ≡ bytes v → n < 256
      small-at n v same = subst (λ m. m < 256) (sym same) (bytes-small v)

      one : TakesBytes e c bytes (first ∷ []) t t1
      one =
          byte-stored e c bytes t (returned_place (2 * index)) first _ cells fits running is.low at
          (let below = is.below in omega (arith, below)) (small-at _ first held.0) held.0

      goes : t1.end ≡ Running
      goes = ap (λ (v : State). v.end) one.is ∙ running

      based : t1.running.base ≡ c.frame.base % 65536
      based = ap (λ (v : State). v.running.base) one.is ∙ at

      second : t1.running.values (returned_place (2 * index + 1)) ≡ bytes (first + 1)
      second = one.others (returned_place (2 * index + 1)) refl ∙ held.1.0

      two : TakesBytes e c bytes ((first + 1) ∷ []) t1 t2
      two =
          byte-stored e c bytes t1 (returned_place (2 * index + 1)) (first + 1) _ cells one.fits goes is.high based
          is.below (small-at _ (first + 1) second) second

      later : HoldFrom t2.running.values (2 * suc index) (map bytes (word_offsets base numbers))
      later =
          subst (λ n. HoldFrom t2.running.values n (map bytes (word_offsets base numbers))) (next index)
          (hold-kept t.running.values t2.running.values (2 * index + 1 + 1) (map bytes (word_offsets base numbers))
          (λ n. two.others (Temp n) refl ∙ one.others (Temp n) refl) held.1.1)
        where
          next : (n : ℕ) → 2 * n + 1 + 1 ≡ 2 * suc n
          next n = omega arith

      runs : execute (taking_all_back q height index (number ∷ numbers)) t
          ≡ execute (taking_all_back q height (suc index) numbers) t2
      runs =
          execute-append (taking_back q height index number) (taking_all_back q height (suc index) numbers) t
          ∙ ap (execute (taking_all_back q height (suc index) numbers)) (execute-append low_stmts high_stmts t)
