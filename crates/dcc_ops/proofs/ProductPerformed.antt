-- Products and sign extensions: their statements do to the run what the operations do to the machine.
use Rattle.std.proofs.Common.{arith, ◌≡◌, ◌∙◌, refl, sym, ap, subst, ℕ, ◌+◌, ◌-◌, ◌*◌, ◌/◌, ◌%◌, ◌^◌, ◌<◌, Bool, true, false, not, ℤ, ◌*ℤ◌, nat_eq, List, [], ◌∷◌, ◌++◌}
use Rattle.std.specs.Int.{from_bool}
use Rattle.std.specs.List.{list_all}
use Rattle.dcc_num.specs.declared.Width.{Width}
use Rattle.dcc_num.specs.declared.Width.TheVariants.{Byte as byte_width, Word as word_width}
use Rattle.dcc_num.specs.declared.Reg.{Reg}
use Rattle.dcc_num.specs.declared.Reg.TheVariants.{Ax, Dx}
use Rattle.dcc_num.specs.declared.Half.TheVariants.{Low, High}
use Rattle.dcc_num.specs.declared.FlagName.{FlagName}
use Rattle.dcc_num.specs.declared.FlagName.TheVariants.{Cf, Zf, Sf, Of}
use Rattle.dcc_num.specs.Numbers.{bits_of, limit_of, signed_of, halved_of, wrapped_of, sign_extension_of}
use Rattle.dcc_num.specs.Product.{product_of, signed_product_of, product_flags, extension_of}
use Rattle.dcc_machine.specs.declared.instr.Operand.{Operand}
use Rattle.dcc_machine.specs.declared.instr.Operand.TheVariants.{Word, Byte, Const as Constant}
use Rattle.dcc_machine.specs.declared.instr.Plain.TheVariants.{Cbw, Cwd}
use Rattle.dcc_machine.specs.Machine.{State as Machine, word_in, with_word_in, half_of_word, word_with_half, operand_value, operand_width, is_general}
use Rattle.dcc_machine.specs.Operations.{with_flags, with_pair, with_product, accumulator_in, imul3_step, plain_step}
use Rattle.dcc_machine.specs.WellFormed.{AreFactors}
use Rattle.dcc_ir.specs.declared.syntax.Loc.TheVariants.{Half, Flag, Temp}
use Rattle.dcc_ir.specs.Location.{Values, with_value, location_width}
use Rattle.dcc_ir.specs.Tree.{Set, Widen}
use Rattle.dcc_ir.specs.Value.{Environment, value_of, signed_at, pattern_at}
use Rattle.dcc_ir.specs.Run.{State, scene_of, setting, execute}
use Rattle.dcc_ir.proofs.ExecuteLaws.{execute-append}
use Rattle.dcc_ops.specs.Temporaries.{temporary_bits, left_place, right_place, product_place}
use Rattle.dcc_ops.specs.OperandPlace.{OperandPlace, constant}
use Rattle.dcc_ops.specs.Registers.{register_place}
use Rattle.dcc_ops.specs.Expressions.{word_of, double, multiplied, needs_upper_half, product}
use Rattle.dcc_ops.specs.Statements.{accumulator, operands_taking, word_taking, product_working, multiplying, triple_product, product_storing, plain_stmts}
use Rattle.dcc_ops.specs.Executed.{executed}
use Rattle.dcc_ops.specs.Coupling.{Relation, HoldFlags, IsCoupling, IsRead}
use Rattle.dcc_ops.proofs.ProductValues.{product_fits, product_small, needs_half, product_pattern, pattern_small, pattern_low, pattern_high, needs_signed_half, extended_low, extended_high, extended_below, extension_is}
use Rattle.dcc_ops.proofs.CouplingLaws.{sets_scratch, sets_run, byte_below, Holding, worked_on, sets_values, scratch_values, half_below, half_set, register_taken, register_value, register_small, register_read, both_took}

-- Products.

-- the operands have their widths
left_width : (w : Width) (bits : List ℕ) → bits ≡ temporary_bits → location_width bits (left_place w) ≡ bits_of w
left_width byte_width bits e = ap (λ (xs : List ℕ). location_width xs (Temp 0)) e
left_width word_width bits e = ap (λ (xs : List ℕ). location_width xs (Temp 3)) e

right_width : (w : Width) (bits : List ℕ) → bits ≡ temporary_bits → location_width bits (right_place w) ≡ bits_of w
right_width byte_width bits e = ap (λ (xs : List ℕ). location_width xs (Temp 1)) e
right_width word_width bits e = ap (λ (xs : List ℕ). location_width xs (Temp 4)) e

-- the product in a place of twice the width
product_is : (w : Width) (scene : Environment) (a b : ℕ) → scene.values (left_place w) ≡ a
    → scene.values (right_place w) ≡ b
    → a < limit_of w → b < limit_of w
    → value_of scene (multiplied w false) ≡ a * b
product_is w scene a b held other first second = rw (held, other) (product_fits w a b first second)

signed_product_is : (w : Width) (scene : Environment) (a b : ℕ) → scene.bits ≡ temporary_bits
    → scene.values (left_place w) ≡ a → scene.values (right_place w) ≡ b → a < limit_of w → b < limit_of w
    → value_of scene (multiplied w true) ≡ pattern_at (double w) (signed_of w a *ℤ signed_of w b)
signed_product_is w scene a b bits held other first second =
    rw (held, other, left_width w scene.bits bits, right_width w scene.bits bits) (product_pattern w a b first second)

-- whether a product of unsigned factors needs its upper half
needed_is : (w : Width) (scene : Environment) (p : ℕ) → scene.values (product_place w) ≡ p → p < 2 ^ double w
    → value_of scene (needs_upper_half w false) ≡ from_bool (not (nat_eq (p / limit_of w) 0))
needed_is w scene p is small = rw is (needs_half w p small)

negated_bit : (b : Bool) → 2 ^ 1 - 1 - from_bool b ≡ from_bool (not b)
negated_bit true = refl
negated_bit false = refl

signed_needed_is : (w : Width) (scene : Environment) (p : ℕ) → scene.values (product_place w) ≡ p → p < 2 ^ double w
    → value_of scene (needs_upper_half w true)
    ≡ from_bool (not (nat_eq (p / limit_of w) (extension_of w (p % limit_of w))))
signed_needed_is w scene p is small =
    ap (λ (n : ℕ). 2 ^ 1 - 1 - from_bool
    (nat_eq (pattern_at (double w) (signed_at (bits_of w) (n / 2 ^ 0 % 2 ^ bits_of w))) n)) is
    ∙ negated_bit (nat_eq (pattern_at (double w) (signed_at (bits_of w) (p / 2 ^ 0 % 2 ^ bits_of w))) p)
    ∙ ap (λ (b : Bool). from_bool (not b)) (needs_signed_half w p small)

-- a product of signed numbers has another upper half than the extension of its lower one
abbrev overflows : Width → ℤ → Bool
overflows w z = not (nat_eq (wrapped_of w (halved_of z (bits_of w))) (extension_of w (wrapped_of w z)))

signed_needed : (w : Width) (scene : Environment) (z : ℤ) → scene.values (product_place w) ≡ pattern_at (double w) z
    → value_of scene (needs_upper_half w true) ≡ from_bool (overflows w z)
signed_needed w scene z is =
    let p : ℕ = pattern_at (double w) z in
    signed_needed_is w scene p is (pattern_small w z)
    ∙ ap (λ (n : ℕ). from_bool (not (nat_eq n (extension_of w (p % limit_of w))))) (pattern_high w z)
    ∙ ap (λ (n : ℕ). from_bool (not (nat_eq (wrapped_of w (halved_of z (bits_of w))) (extension_of w n))))
    (pattern_low w z)

-- the place of a product is no flag
place_kept : (w : Width) (values : Values) (f : FlagName) (v : ℕ)
    → with_value values (Flag f) v (product_place w) ≡ values (product_place w)
place_kept byte_width values f v = refl
place_kept word_width values f v = refl

place_taken : (w : Width) (values : Values) (v : ℕ) → with_value values (product_place w) v (product_place w) ≡ v
place_taken byte_width values v = refl
place_taken word_width values v = refl

-- after a product and its flags are made: p is the product, needed whether it needs its upper half
record IsMade (w : Width) (p : ℕ) (needed : Bool) (scene : Environment) : Type 0 where
  flags : HoldFlags (product_flags needed) scene.values
  product : scene.values (product_place w) ≡ p

product_made : (w : Width) (signed : Bool) (scene : Environment) (p : ℕ) (needed : Bool)
    → value_of scene (multiplied w signed) ≡ p
    → ((seen : Environment) → seen.values (product_place w) ≡ p
    → value_of seen (needs_upper_half w signed) ≡ from_bool needed)
    → IsMade w p needed (executed (product_working w signed) scene)
product_made w signed scene p needed made told =
    let v0 : ℕ = value_of scene (multiplied w signed) in
    let scene0 : Environment = record scene { values = with_value scene.values (product_place w) v0 } in
    let p0 : scene0.values (product_place w) ≡ p = place_taken w scene.values v0 ∙ made in
    let v1 : ℕ = value_of scene0 (needs_upper_half w signed) in
    let values1 : Values = with_value (with_value (with_value scene0.values (Flag Of) v1) (Flag Sf) 0) (Flag Zf) 0 in
    let scene1 : Environment = record scene0 { values = values1 } in
    let p1 : scene1.values (product_place w) ≡ p =
    place_kept w (with_value (with_value scene0.values (Flag Of) v1) (Flag Sf) 0) Zf 0
    ∙ place_kept w (with_value scene0.values (Flag Of) v1) Sf 0 ∙ place_kept w scene0.values Of v1 ∙ p0 in
    let v2 : ℕ = value_of scene1 (needs_upper_half w signed) in
    record {
      flags = record { carry = told scene1 p1; zero = refl; negative = refl; overflow = told scene0 p0 };
      product = place_kept w values1 Cf v2 ∙ p1;
    }

product_scratch : (w : Width) (signed : Bool) → list_all sets_scratch (product_working w signed) ≡ true
product_scratch byte_width false = refl
product_scratch byte_width true = refl
product_scratch word_width false = refl
product_scratch word_width true = refl

pub accumulator_width : (w : Width) → operand_width (accumulator w) ≡ w
accumulator_width byte_width = refl
accumulator_width word_width = refl

pub accumulator_value : (w : Width) (s : Machine) → operand_value s (accumulator w) ≡ accumulator_in w s
accumulator_value byte_width s = refl
accumulator_value word_width s = refl

-- words of a product by its bytes
byte_product : (v p low high : ℕ) → v ≡ p → p < 2 ^ 16 → low ≡ p % 256 → high ≡ p / 256
    → high * 256 + low ≡ v / 2 ^ 8 % 2 ^ 8 * 256 + v / 2 ^ 0 % 2 ^ 8
byte_product v p low high is small el eh = omega (arith, is, small, el, eh)

low_product : (v p low : ℕ) → v ≡ p → low ≡ p % 65536 → low ≡ v / 2 ^ 8 % 2 ^ 8 * 256 + v / 2 ^ 0 % 2 ^ 8
low_product v p low is el = omega (arith, is, el)

high_product : (v p high : ℕ) → v ≡ p → p < 2 ^ 32 → high ≡ p / 65536
    → high ≡ v / 2 ^ 24 % 2 ^ 8 * 256 + v / 2 ^ 16 % 2 ^ 8
high_product v p high is small eh = omega (arith, is, small, eh)

-- Sign extensions.

-- a word with its upper byte taken from an extension of the lower one
upper_taken : (pattern extended word al : ℕ) → pattern ≡ extended → extended % 256 ≡ al → extended < 65536
    → al ≡ word % 256 → pattern / 2 ^ 8 % 2 ^ 8 * 256 + word % 256 ≡ extended
upper_taken pattern extended word al same low small is = omega arith

-- the upper half of a number of 32 bits, by its bytes
upper_bytes : (v high : ℕ) → v < 2 ^ 32 → v / 65536 ≡ high → high ≡ v / 2 ^ 24 % 2 ^ 8 * 256 + v / 2 ^ 16 % 2 ^ 8
upper_bytes v high small is = omega arith

-- after a product and its flags are made in a run
record IsMultiplied (R : Relation) (w : Width) (s : Machine) (t : State) (p : ℕ) (needed : Bool) : Type 0 where
  stands : R (with_flags (product_flags needed) s) t
  product : t.running.values (product_place w) ≡ p

module _ (R : Relation) (coupling : IsCoupling R) where
  pub accumulator_read : (w : Width) (s : Machine) → IsRead R s (accumulator w) (register_place (accumulator w))
  accumulator_read byte_width s = register_read R coupling s (Byte Ax Low) refl tt
  accumulator_read word_width s = register_read R coupling s (Word Ax) refl tt

  pub accumulator_below : (w : Width) (s : Machine) (t : State) → R s t → accumulator_in w s < limit_of w
  accumulator_below byte_width s t rel = register_small R coupling s t (Byte Ax Low) refl tt rel
  accumulator_below word_width s t rel = register_small R coupling s t (Word Ax) refl tt rel

  -- a product goes to its registers
  product_stored : (w : Width) (s : Machine) (t : State) (p low high : ℕ) → t.running.values (product_place w) ≡ p
      → p < 2 ^ double w → low ≡ p % limit_of w → high ≡ p / limit_of w → R s t
      → R (with_pair w low high s) (execute (product_storing w) t)
  product_stored byte_width s t p low high is small el eh rel =
      register_taken R coupling s t Ax 0 5 (high * 256 + low) refl
      (byte_product (t.running.values (Temp 5)) p low high is small el eh) rel
  product_stored word_width s t p low high is small el eh rel =
      let t1 = execute (word_taking Ax 0 (product word_width)) t in
      let one : R (with_word_in s Ax low) t1 =
      register_taken R coupling s t Ax 0 6 low refl (low_product (t.running.values (Temp 6)) p low is el) rel in
      let held : t1.running.values (Temp 6) ≡ p =
      ap (λ (f : Values). f (Temp 6)) (sets_values R coupling (word_taking Ax 0 (product word_width)) s t refl rel)
      ∙ is in
      subst (R (with_pair word_width low high s))
      (sym (execute-append (word_taking Ax 0 (product word_width)) (word_taking Dx 16 (product word_width)) t))
      (register_taken R coupling (with_word_in s Ax low) t1 Dx 16 6 high refl
      (high_product (t1.running.values (Temp 6)) p high held small eh) one)

  multiplied_run : (w : Width) (signed : Bool) (s : Machine) (u : State) (p : ℕ) (needed : Bool) → R s u
      → value_of (scene_of u) (multiplied w signed) ≡ p
      → ((seen : Environment) → seen.values (product_place w) ≡ p
      → value_of seen (needs_upper_half w signed) ≡ from_bool needed)
      → IsMultiplied R w s (execute (product_working w signed) u) p needed
  multiplied_run w signed s u p needed rel made told =
      let done = product_made w signed (scene_of u) p needed made told in
      record {
        stands =
            worked_on R coupling (product_working w signed) s u (product_flags needed) (product_scratch w signed)
            done.flags rel;
        product = ap (λ (f : Values). f (product_place w))
            (scratch_values R coupling (product_working w signed) s u (product_scratch w signed) rel) ∙ done.product;
      }

  multiplying_performed : (w : Width) (signed : Bool) (x : Operand) (place : OperandPlace) (s : Machine) (t : State)
      (p low high : ℕ) (needed : Bool) → IsRead R s x place → operand_width x ≡ w → R s t
      → ((u : State) → Holding R w s u (accumulator_in w s) (operand_value s x)
      → value_of (scene_of u) (multiplied w signed) ≡ p)
      → ((seen : Environment) → seen.values (product_place w) ≡ p
      → value_of seen (needs_upper_half w signed) ≡ from_bool needed)
      → p < 2 ^ double w → low ≡ p % limit_of w → high ≡ p / limit_of w
      → R (with_product w (low, high, product_flags needed) s) (execute (multiplying w signed place) t)
  multiplying_performed w signed x place s t p low high needed read width rel made told small el eh =
      let takes = operands_taking w (register_place (accumulator w)) place in
      let u = execute takes t in
      let hold : Holding R w s u (accumulator_in w s) (operand_value s x)
      = subst (λ n. Holding R w s u n (operand_value s x)) (accumulator_value w s)
      (both_took R coupling s t w (accumulator w) x (register_place (accumulator w)) place (accumulator_read w s) read
      (accumulator_width w) width rel) in
      let done = multiplied_run w signed s u p needed hold.stands (made u hold) told in
      subst (R (with_product w (low, high, product_flags needed) s))
      (sym (execute-append takes (product_working w signed ++ product_storing w) t
      ∙ execute-append (product_working w signed) (product_storing w) u))
      (product_stored w (with_flags (product_flags needed) s) (execute (product_working w signed) u)
      p low high done.product small el eh done.stands)

  -- both factors are below the limit of their width
  factors_below : (x : Operand) (place : OperandPlace) (s : Machine) (t : State) → IsRead R s x place → R s t
      → (accumulator_in (operand_width x) s < limit_of (operand_width x)) × (operand_value s x < limit_of (operand_width x))
  factors_below x place s t read rel = (accumulator_below (operand_width x) s t rel, read.small s.flags t rel)

  pub mul_performed : (x : Operand) (place : OperandPlace) (s : Machine) (t : State) → IsRead R s x place → R s t
      → R (with_product (operand_width x)
      (product_of (operand_width x) (accumulator_in (operand_width x) s) (operand_value s x)) s)
      (execute (multiplying (operand_width x) false place) t)
  unfolding product_of
  mul_performed x place s t read rel =
      let w : Width = operand_width x in
      let a : ℕ = accumulator_in w s in
      let b : ℕ = operand_value s x in
      let below = factors_below x place s t read rel in
      let small = product_small w a b below.0 below.1 in
      multiplying_performed w false x place s t (a * b) (a * b % limit_of w) (a * b / limit_of w)
      (not (nat_eq (a * b / limit_of w) 0)) read refl rel
      (λ u h. product_is w (scene_of u) a b h.left h.right below.0 below.1) (λ seen is. needed_is w seen (a * b) is small)
      small refl refl

  -- of signed numbers
  pub imul_performed : (x : Operand) (place : OperandPlace) (s : Machine) (t : State) → IsRead R s x place → R s t
      → R (with_product (operand_width x)
      (signed_product_of (operand_width x) (accumulator_in (operand_width x) s) (operand_value s x)) s)
      (execute (multiplying (operand_width x) true place) t)
  unfolding signed_product_of
  imul_performed x place s t read rel =
      let w : Width = operand_width x in
      let a : ℕ = accumulator_in w s in
      let b : ℕ = operand_value s x in
      let below = factors_below x place s t read rel in
      let z : ℤ = signed_of w a *ℤ signed_of w b in
      multiplying_performed w true x place s t (pattern_at (double w) z) (wrapped_of w z)
      (wrapped_of w (halved_of z (bits_of w))) (overflows w z) read refl rel
      (λ u h. signed_product_is w (scene_of u) a b (coupling.bits s u h.stands) h.left h.right below.0 below.1)
      (λ seen is. signed_needed w seen z is) (pattern_small w z) (sym (pattern_low w z))
      (sym (pattern_high w z))

  -- of three operands: the register takes the lower word
  pub triple_performed : (r : Reg) (x : Operand) (place : OperandPlace) (number : ℕ) (s : Machine) (t : State)
      → is_general r ≡ true → AreFactors x number → IsRead R s x place → R s t
      → R (imul3_step r x number s) (execute (triple_product r place number) t)
  unfolding signed_product_of
  triple_performed r x place number s t g ok read rel =
      let w = word_width in
      let a : ℕ = operand_value s x in
      let first : a < limit_of w = subst (λ v. a < limit_of v) ok.width (read.small s.flags t rel) in
      let z : ℤ = signed_of w a *ℤ signed_of w number in
      let p : ℕ = pattern_at (double w) z in
      let takes = operands_taking w place (constant w number) in
      let u = execute takes t in
      let hold : Holding R w s u a number =
      both_took R coupling s t w x (Constant w number) place (constant w number) read
      (register_read R coupling s (Constant w number) refl ok.fits) ok.width refl rel in
      let done = multiplied_run w true s u p (overflows w z) hold.stands
      (signed_product_is w (scene_of u) a number (coupling.bits s u hold.stands) hold.left hold.right first ok.fits)
      (λ seen is. signed_needed w seen z is) in
      let made = execute (product_working w true) u in
      subst (R (imul3_step r x number s))
      (sym (execute-append takes (product_working w true ++ word_taking r 0 (product w)) t
      ∙ execute-append (product_working w true) (word_taking r 0 (product w)) u))
      (register_taken R coupling (with_flags (product_flags (overflows w z)) s) made r 0 6 (wrapped_of w z) g
      (sym (pattern_low w z) ∙ low_product (made.running.values (Temp 6)) p (p % 65536) done.product refl) done.stands)

  pub cbw_performed : (s : Machine) (t : State) → R s t → R (plain_step Cbw s) (execute (plain_stmts Cbw) t)
  cbw_performed s t rel =
      let al : ℕ = t.running.values (Half Ax Low) in
      let is : al ≡ half_of_word Low (word_in s Ax) = register_value R coupling s t (Byte Ax Low) refl rel in
      let small : al < 256 = half_below R coupling s t Ax Low rel in
      let v : ℕ = pattern_at 16 (signed_at 8 al) / 2 ^ 8 % 2 ^ 8 in
      let e : word_with_half High (word_in s Ax) v ≡ sign_extension_of al =
      upper_taken (pattern_at 16 (signed_at 8 al)) (sign_extension_of al) (word_in s Ax) al (extended_high al)
      (extended_low al small) (extended_below al) is in
      subst (R (plain_step Cbw s)) (sym (sets_run (plain_stmts Cbw) t refl (coupling.running s t rel)))
      (subst (λ (n : ℕ). R (with_word_in s Ax n) (setting (Half Ax High) v t)) (e ∙ ap sign_extension_of is)
      (half_set R coupling s t Ax High v refl (byte_below (pattern_at 16 (signed_at 8 al) / 2 ^ 8)) rel))

  pub cwd_performed : (s : Machine) (t : State) → R s t → R (plain_step Cwd s) (execute (plain_stmts Cwd) t)
  cwd_performed s t rel =
      let ax : ℕ = value_of (scene_of t) (word_of Ax) in
      let is : ax ≡ word_in s Ax = register_value R coupling s t (Word Ax) refl rel in
      let small : ax < 65536 =
      subst (λ (n : ℕ). n < 65536) (sym is) (register_small R coupling s t (Word Ax) refl tt rel) in
      let v : ℕ = pattern_at 32 (signed_at 16 ax) in
      let e : extension_of word_width (word_in s Ax) ≡ v / 2 ^ 24 % 2 ^ 8 * 256 + v / 2 ^ 16 % 2 ^ 8 =
      ap (extension_of word_width) (sym is)
      ∙ upper_bytes v (extension_of word_width ax) (pattern_small word_width (signed_at 16 ax))
      (extension_is ax small) in
      let extend = Set (product_place word_width) (Widen true 32 (word_of Ax)) ∷ [] in
      let t1 = execute extend t in
      let h = coupling.flags s t rel in
      let one : R s t1 = worked_on R coupling extend s t s.flags refl
      (record { carry = h.carry; zero = h.zero; negative = h.negative; overflow = h.overflow }) rel in
      let held : t1.running.values (Temp 6) ≡ v =
      ap (λ (f : Values). f (Temp 6)) (sets_values R coupling extend s t refl rel) in
      subst (R (plain_step Cwd s)) (sym (execute-append extend (word_taking Dx 16 (product word_width)) t))
      (register_taken R coupling s t1 Dx 16 6 (extension_of word_width (word_in s Ax)) refl
      (e ∙ sym (ap (λ n. n / 2 ^ 24 % 2 ^ 8 * 256 + n / 2 ^ 16 % 2 ^ 8) held)) one)
