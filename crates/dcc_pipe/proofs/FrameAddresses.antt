-- Which addresses an instruction takes where its procedure exposes no local byte: those of arguments in memory, if it
-- isn't a move of SP.
use Rattle.std.proofs.Common.{◌≡◌, ℕ, suc, ◌+◌, ◌-◌, ◌*◌, ◌/◌, ◌<◌, ◌≤◌, Bool, true, false, ◌==◌, ◌&&◌, List, [], ◌∷◌, ◌++◌, Option, Some, None, refl, ap, ◌∙◌, subst, arith, mod-eq_of_lt}
use Rattle.std.specs.Prelude.{ℤ, pos, negsuc, ◌+ℤ◌, ◌-ℤ◌, ◌≤ℤ◌, ◌<ℤ◌, if◌then◌else◌, flat_map, option_map}
use Rattle.std.specs.List.{list_all}
use Rattle.std.proofs.lemmas.Bool.{and_parts}
use Rattle.std.proofs.lemmas.Int.{ints, by_lt_z}
use Rattle.std.proofs.lemmas.List.Concat.{flat_map-append}
use Rattle.std.proofs.lemmas.List.Folds.{list_all-append}
use Rattle.dcc_num.specs.declared.Width.{Width}
use Rattle.dcc_num.specs.declared.Width.TheVariants.{Byte as byte_width, Word as word_width}
use Rattle.dcc_num.specs.declared.Reg.{Reg}
use Rattle.dcc_num.specs.Numbers.{residue_of}
use Rattle.dcc_machine.specs.declared.image.Image.{Image}
use Rattle.dcc_prog.specs.declared.procedure.Layout.{Layout}
use Rattle.dcc_prog.specs.declared.frame.Cell.{Cell}
use Rattle.dcc_prog.specs.declared.frame.Program.{Program as Analysed}
use Rattle.dcc_prog.specs.Analysed.{bytes_of}
use Rattle.dcc_prog.specs.Frame.{Span, span_of, argument_word, IsPiece, IsSlot, IsExposed, below_bp, in_arguments, IsExposureStart, by_instruction, StartsExposure, HasExposedLocal, no_local, local, HasExposedArguments, no_argument, from_argument, IsPlaced, by_itself, by_slot}
use Rattle.dcc_prog.specs.Trail.{IsNode}
use Rattle.dcc_prog.proofs.FrameLaws.{arguments-once, local-once}
use Rattle.dcc_stack.specs.Accepted.{IsAt, IsFrameFor, IsInFrame, in_locals, IsProgramOfFile}
use Rattle.dcc_stack.specs.Slots.{is_within, exposes_of, is_placed}
use Rattle.dcc_stack.proofs.FormLaws.{in-form}
use Rattle.dcc_stack.proofs.SlotPlaces.{exposed-slot-told, placed-tells}
use Rattle.dcc_ir.specs.declared.syntax.BinOp.TheVariants.{Add}
use Rattle.dcc_ir.specs.Tree.{Expr, Const, Binary, Address}
use Rattle.dcc_ir.specs.Use.{parts_of, addressed_by, addresses_of}
use Rattle.dcc_flags.specs.Accesses.{reads_halves, loads_by_halves}
use Rattle.dcc_ops.specs.declared.operand_place.Computed.{Computed}
use Rattle.dcc_ops.specs.Computed.{adding, ending, computed_expr}
use Rattle.dcc_ops.specs.Expressions.{word_of}
use Rattle.dcc_ops.specs.OperandPlace.{memory}
use Rattle.dcc_simulation.specs.Procedures.{Procedure, cells_of, within_cell, cell_place, distance_of, frame_place}
use Rattle.dcc_pipe.proofs.OperationAddresses.{passes, place_passes}

-- Computed words.

module _ (test : ℕ → Bool) where
  abbrev sum_passes : Option Expr → Bool
  sum_passes None = true
  sum_passes (Some e) = passes test e

  both : (a b : Bool) → a ≡ true → b ≡ true → (a && b) ≡ true
  both true b e f = f
  both false b e f = e

  plus-passes : (a b : Expr) → passes test a ≡ true → passes test b ≡ true → passes test (Binary Add 16 a b) ≡ true
  plus-passes a b one other =
      let p = and_parts (list_all test (addresses_of a)) (loads_by_halves a) one in
      let q = and_parts (list_all test (addresses_of b)) (loads_by_halves b) other in
      both (list_all test (flat_map addressed_by (parts_of a ++ parts_of b))) (loads_by_halves a && loads_by_halves b)
      (ap (list_all test) (flat_map-append addressed_by (parts_of a) (parts_of b))
      ∙ list_all-append test (addresses_of a) (addresses_of b)
      ∙ both (list_all test (addresses_of a)) (list_all test (addresses_of b)) p.0 q.0)
      (both (loads_by_halves a) (loads_by_halves b) p.1 q.1)

  adding-passes : (r : Option Reg) (sum : Option Expr) → sum_passes sum ≡ true → sum_passes (adding r sum) ≡ true
  adding-passes None sum is = is
  adding-passes (Some r) None is = refl
  adding-passes (Some r) (Some e) is = plus-passes e (word_of r) is refl

  ending-passes : (n : ℕ) (sum : Option Expr) → sum_passes sum ≡ true → passes test (ending n sum) ≡ true
  ending-passes n None is = refl
  ending-passes n (Some e) is = by (n == 0)
    where
      by : (b : Bool) → passes test (if b then e else Binary Add 16 e (Const 16 n)) ≡ true
      by true = is
      by false = plus-passes e (Const 16 n) is refl

  pub computed-passes : (c : Computed) → sum_passes (option_map Address c.frame) ≡ true
      → passes test (computed_expr c) ≡ true
  computed-passes c is =
      ending-passes c.number (adding c.index (adding c.base (option_map Address c.frame)))
      (adding-passes c.index (adding c.base (option_map Address c.frame))
      (adding-passes c.base (option_map Address c.frame) is))

-- an address that is computed reads registers alone
abbrev sum_halves : Option Expr → Bool
sum_halves None = true
sum_halves (Some e) = reads_halves e

pub computed-halves : (c : Computed) → reads_halves (computed_expr c) ≡ true
computed-halves c =
    ended c.number (adding c.index (adding c.base (option_map Address c.frame)))
    (added c.index (adding c.base (option_map Address c.frame))
    (added c.base (option_map Address c.frame) (framed c.frame)))
  where
    framed : (frame : Option ℕ) → sum_halves (option_map Address frame) ≡ true
    framed None = refl
    framed (Some distance) = refl

    added : (r : Option Reg) (sum : Option Expr) → sum_halves sum ≡ true → sum_halves (adding r sum) ≡ true
    added None sum is = is
    added (Some r) None is = refl
    added (Some r) (Some e) is = ap (λ b. b && true) is

    ended : (n : ℕ) (sum : Option Expr) → sum_halves sum ≡ true → reads_halves (ending n sum) ≡ true
    ended n None is = refl
    ended n (Some e) is = by (n == 0)
      where
        by : (b : Bool) → reads_halves (if b then e else Binary Add 16 e (Const 16 n)) ≡ true
        by true = is
        by false = ap (λ b. b && true) is

-- The frame of a procedure that exposes no local byte.

module _ (image : Image) (program : Analysed) (entry : ℕ) (q : Procedure) (f : IsFrameFor image program entry q.frame)
    (none : q.frame.exposed.local ≡ 0) (few : q.frame.args ≤ 32) where
  abbrev layout : Layout
  layout = program.layout

  no-local : HasExposedLocal image layout entry 0
  no-local = subst (HasExposedLocal image layout entry) none f.local

  starts-above : (k : ℤ) → IsExposureStart image layout entry k → pos 0 ≤ℤ k
  starts-above k start = by no-local refl
    where
      by : {n : ℕ} → HasExposedLocal image layout entry n → n ≡ 0 → pos 0 ≤ℤ k
      by (no_local all) is = all k start
      by (local some here least) is = absurd (omega (arith, some, is))

  -- the byte lies in an argument word that the frame exposes
  record IsInWord (x : ℤ) : Type 0 where
    number : ℕ
    less : number < q.frame.args
    exposes : exposes_of q.frame (argument_word number) ≡ true
    low : pos (4 + 2 * number) ≤ℤ x
    high : x <ℤ pos (4 + 2 * number + 2)

  exposed-word : (x : ℤ) → IsExposed image layout entry x → IsInWord x
  exposed-word x (below_bp has low high) =
      let zero_local = local-once has no-local in absurd (omega (arith, ints, zero_local, low, high))
  exposed-word x (in_arguments {least} {count} exposed has low high) =
      in-words x (in-arguments exposed refl) low
      (let same = arguments-once has f.arguments in omega (arith, ints, same, high)) (in_arguments exposed has low high)
    where
      in-arguments : {o : Option ℕ} → HasExposedArguments image layout entry o → o ≡ Some least → 4 ≤ least
      in-arguments (no_argument all) is = absurd cc
      in-arguments (from_argument {least = first} four start lowest) is =
          let same : first ≡ least = cc in omega (arith, same, four)

      in-words : (x : ℤ) → 4 ≤ least → pos least ≤ℤ x → x <ℤ pos (4 + 2 * q.frame.args)
          → IsExposed image layout entry x → IsInWord x
      in-words (negsuc m) four low high is = absurd (omega (arith, ints, low))
      in-words (pos m) four low high is =
          let n = (m - 4) / 2 in
          let less : n < q.frame.args = omega (arith, ints, four, low, high) in
          let from : pos (4 + 2 * n) ≤ℤ pos m = omega (arith, ints, four, low) in
          let to : pos m <ℤ pos (4 + 2 * n + 2) = omega (arith, ints, four, low) in
          record {
            number = n;
            less = less;
            exposes = exposed-slot-told image program entry q.frame f (argument_word n) (record {
              is_slot = IsSlot.argument f.arguments less;
              offset = pos m;
              from = from;
              to = omega (arith, ints, to);
              exposed = is;
            });
            low = from;
            high = to;
          }

  -- a byte in memory lies no deeper than such a word, and not far above it
  record IsFrom (k : ℤ) : Type 0 where
    number : ℕ
    less : number < q.frame.args
    exposes : exposes_of q.frame (argument_word number) ≡ true
    low : pos (4 + 2 * number) ≤ℤ k
    high : k <ℤ pos (4 + 2 * number + 4)

  slot-begins : (slot : Span) (x : ℤ) (w : IsInWord x) → IsSlot image layout entry slot → slot.first ≤ℤ x
      → x <ℤ slot.end → pos (4 + 2 * w.number) ≤ℤ slot.first
  slot-begins slot x w (IsSlot.cell is) low high =
      by_lt_z slot.first (pos (4 + 2 * w.number))
      (λ before. absurd (is.extent.apart_after (record {
        span = argument_word w.number;
        piece = IsPiece.argument f.arguments w.less;
        before = let from = w.low in omega (arith, ints, from, high);
        after = omega (arith, ints, before, is.small);
      })))
      (λ le. le)
  slot-begins _ x w (IsSlot.argument has less) low high =
      let from = w.low in let to = w.high in omega (arith, ints, low, high, from, to)

  slot-small : (slot : Span) → IsSlot image layout entry slot → slot.end ≤ℤ (slot.first +ℤ pos 2)
  slot-small slot (IsSlot.cell is) = is.small
  slot-small _ (IsSlot.argument has less) = omega (arith, ints)

  placed-from : (k : ℤ) → IsPlaced image layout entry k → IsFrom k
  placed-from k (by_itself exposed) =
      let w = exposed-word k exposed in let to = w.high in
      record { number = w.number; less = w.less; exposes = w.exposes; low = w.low; high = omega (arith, ints, to) }
  placed-from k (by_slot {slot} is low high) =
      let w = exposed-word is.offset is.exposed in
      let begins = slot-begins slot is.offset w is.is_slot is.from is.to in
      let small = slot-small slot is.is_slot in
      let from = is.from in
      let to = w.high in
      record {
        number = w.number;
        less = w.less;
        exposes = w.exposes;
        low = omega (arith, ints, begins, low);
        high = omega (arith, ints, high, small, from, to);
      }

  module _ (test : ℕ → Bool)
      (tested : (n : ℕ) → n < q.frame.args → exposes_of q.frame (argument_word n) ≡ true → (d : ℕ) → 2 * n ≤ d
      → d < 32768 → test d ≡ true) where
    distance-is : (m : ℕ) → 4 ≤ m → m < 65540 → distance_of (pos m) ≡ m - 4
    distance-is m four small =
        let same : (pos m -ℤ pos 4) ≡ pos (m - 4) = omega (arith, ints, four) in
        ap (residue_of 65536) same ∙ mod-eq_of_lt (omega (arith, four, small))

    from-passes : (k : ℤ) → IsFrom k → test (distance_of k) ≡ true
    from-passes (negsuc m) is = let low = is.low in absurd (omega (arith, ints, low))
    from-passes (pos m) is =
        let low = is.low in
        let high = is.high in
        let less = is.less in
        ap test (distance-is m (omega (arith, ints, low)) (omega (arith, ints, high, less, few)))
        ∙ tested is.number is.less is.exposes (m - 4) (omega (arith, ints, low)) (omega (arith, ints, high, less, few))

    -- Bytes and words of the frame.

    within-passes : (number : ℕ) (cell : Cell) (w : Width) (k : ℤ) → place_passes test (within_cell number cell w k) ≡ true
    within-passes number cell byte_width k = refl
    within-passes number cell word_width k = refl

    cell-passes : (number : ℕ) (cells : List Cell) (w : Width) (k : ℤ) → place_passes test (cell_place number cells w k) ≡ true
    cell-passes number [] w k = refl
    cell-passes number (cell ∷ cells) w k = by (is_within k (bytes_of cell)) (cell-passes (suc number) cells w k)
      where
        by : (b : Bool) → place_passes test (cell_place (suc number) cells w k) ≡ true
            → place_passes test (if b then within_cell number cell w k else cell_place (suc number) cells w k) ≡ true
        by true later = within-passes number cell w k
        by false later = later

    pub frame-passes : (w : Width) (k : ℤ) → place_passes test (frame_place q w k) ≡ true
    frame-passes w k = by (is_placed q.frame k) refl
      where
        by : (b : Bool) → is_placed q.frame k ≡ b
            → place_passes test (if b then memory w (Address (distance_of k)) else cell_place 0 (cells_of q) w k) ≡ true
        by true is =
            both test (test (distance_of k) && true) true
            (both test (test (distance_of k)) true
            (from-passes k (placed-from k (placed-tells image program entry q.frame f k is))) refl) refl
        by false is = cell-passes 0 (cells_of q) w k

    -- Where addresses are computed.

    module _ (at height : ℕ) (before : List ℕ) (file : IsProgramOfFile layout.cpu image program)
        (here : IsAt image layout entry at before (pos height)) where
      in-arguments : (k : ℤ) → IsExposureStart image layout entry k
          → IsInFrame image layout entry height (span_of k 1) → IsExposed image layout entry k
      in-arguments k start (IsInFrame.in_arguments {count} has low high) = by f.argument
        where
          by : {o : Option ℕ} → HasExposedArguments image layout entry o → IsExposed image layout entry k
          by (no_argument all) = let early = all k start in absurd (omega (arith, ints, early, low))
          by (from_argument far first lowest) =
              in_arguments (from_argument far first lowest) has (lowest k start low) (omega (arith, ints, high))
      in-arguments k start (in_locals low high) =
          let above = starts-above k start in absurd (omega (arith, ints, above, high))

      pub start-passes : (k : ℤ) → StartsExposure image layout entry at k → test (distance_of k) ≡ true
      start-passes k starts =
          let node : IsNode image layout entry at = record { before = before; trail = here.trail } in
          let start = by_instruction node starts in
          let good = in-form.starts layout.cpu image program entry at before height k file here starts in
          let w = exposed-word k (in-arguments k start good.inside) in
          let to = w.high in
          from-passes k (record { number = w.number; less = w.less; exposes = w.exposes; low = w.low; high = omega (arith, ints, to) })
