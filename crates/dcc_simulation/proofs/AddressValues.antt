-- The sums that stand for addresses, SP and BP in the inner run have the values of these.
use Rattle.std.proofs.Common.{◌≡◌, ◌<◌, ℕ, ◌+◌, ◌%◌, ◌==◌, Bool, true, false, Option, Some, None, refl, sym, ap, ◌∙◌, arith}
use Rattle.std.specs.Prelude.{ℤ, if◌then◌else◌}
use Rattle.std.proofs.lemmas.Bool.{eqb-true}
use Rattle.dcc_num.specs.declared.Width.TheVariants.{Word as word_width}
use Rattle.dcc_num.specs.declared.Reg.{Reg}
use Rattle.dcc_num.specs.Numbers.{wrapped_of}
use Rattle.dcc_num.proofs.Differences.{wrapped_below}
use Rattle.dcc_machine.specs.declared.instr.Ea.{Ea}
use Rattle.dcc_machine.specs.Machine.{is_bp}
use Rattle.dcc_prog.specs.Frame.{offset_in_frame}
use Rattle.dcc_ir.specs.declared.syntax.BinOp.TheVariants.{Add}
use Rattle.dcc_ir.specs.Tree.{Expr, Const, Binary, Address}
use Rattle.dcc_ir.specs.Run.{State, value_in}
use Rattle.dcc_ops.specs.Computed.{adding, ending, computed_expr}
use Rattle.dcc_simulation.specs.Places.{part_value, frame_address, address_value}
use Rattle.dcc_simulation.specs.Procedures.{distance_of}
use Rattle.dcc_simulation.specs.Operands.{address_of, from_frame}

module _ (t : State) (words : (r : Option Reg) → part_value t r < 65536) where
  -- a sum so far
  abbrev so_far : Option Expr → ℕ
  so_far None = 0
  so_far (Some e) = value_in t e

  added : (r : Option Reg) (sum : Option Expr) (n : ℕ) → so_far sum ≡ n % 65536
      → so_far (adding r sum) ≡ (n + part_value t r) % 65536
  added None sum n is = let whole : n + 0 ≡ n = omega arith in is ∙ ap (λ m. m % 65536) (sym whole)
  added (Some r) None n is = let small = words (Some r) in omega (arith, is, small)
  added (Some r) (Some e) n is = more (value_in t e) (part_value t (Some r)) is
    where
      more : (x y : ℕ) → x ≡ n % 65536 → (x + y) % 65536 ≡ (n + y) % 65536
      more x y same = omega (arith, same)

  ended : (d : ℕ) (sum : Option Expr) (n : ℕ) → d < 65536 → so_far sum ≡ n % 65536
      → value_in t (ending d sum) ≡ (n + d) % 65536
  ended d None n small is = omega (arith, is, small)
  ended d (Some e) n small is = by (d == 0) refl
    where
      more : (x : ℕ) → x ≡ n % 65536 → (x + d) % 65536 ≡ (n + d) % 65536
      more x same = omega (arith, same)

      by : (b : Bool) → (d == 0) ≡ b
          → value_in t (if b then e else Binary Add 16 e (Const 16 d)) ≡ (n + d) % 65536
      by true none = let zero = eqb-true d 0 none in omega (arith, is, zero)
      by false other = more (value_in t e) is

  -- an address in the frame is a word
  frame-small : (k : ℤ) → value_in t (frame_address k) < 65536
  frame-small k = omega arith

  frame-so-far : (k : ℤ) → so_far (Some (Address (distance_of k))) ≡ value_in t (frame_address k) % 65536
  frame-so-far k = let less = frame-small k in omega (arith, less)

  -- an address in the frame, and a number
  pub from-frame-value : (k number : ℤ)
      → value_in t (computed_expr (from_frame k number))
      ≡ (value_in t (frame_address k) + wrapped_of word_width number) % 65536
  from-frame-value k number =
      ended (wrapped_of word_width number) (Some (Address (distance_of k))) (value_in t (frame_address k))
      (wrapped_below word_width number) (frame-so-far k)

  -- an effective address
  pub address-value : (ea : Ea) → ea.disp < 65536 → value_in t (computed_expr (address_of ea)) ≡ address_value t ea
  address-value ea small = by (is_bp ea.base)
    where
      above : (f i : ℕ) → (f + i + 0) % 65536 ≡ (f + i) % 65536
      above f i = omega arith

      turned : (b i d : ℕ) → (0 + b + i + d) % 65536 ≡ (b + d + i) % 65536
      turned b i d = omega arith

      by : (b : Bool)
          → value_in t (computed_expr (if b then
          record { frame = Some (distance_of (offset_in_frame ea)); base = None; index = ea.index; number = 0 }
          else record { frame = None; base = ea.base; index = ea.index; number = ea.disp }))
          ≡ ((if b then value_in t (frame_address (offset_in_frame ea)) else part_value t ea.base + ea.disp)
          + part_value t ea.index) % 65536
      by true =
          ended 0 (adding ea.index (Some (Address (distance_of (offset_in_frame ea)))))
          (value_in t (frame_address (offset_in_frame ea)) + part_value t ea.index) (omega arith)
          (added ea.index (Some (Address (distance_of (offset_in_frame ea))))
          (value_in t (frame_address (offset_in_frame ea))) (frame-so-far (offset_in_frame ea)))
          ∙ above (value_in t (frame_address (offset_in_frame ea))) (part_value t ea.index)
      by false =
          ended ea.disp (adding ea.index (adding ea.base None)) (0 + part_value t ea.base + part_value t ea.index) small
          (added ea.index (adding ea.base None) (0 + part_value t ea.base) (added ea.base None 0 refl))
          ∙ turned (part_value t ea.base) (part_value t ea.index) ea.disp
