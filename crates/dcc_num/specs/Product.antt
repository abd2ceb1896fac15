-- MUL and IMUL: each gives the lower and the upper half of the product, and the flags.
use Rattle.std.specs.Prelude.{ℕ, ◌-◌, ◌*◌, ◌/◌, ◌%◌, ◌==◌, Bool, false, not, ◌*ℤ◌, if◌then◌else◌}
use Rattle.dcc_num.specs.declared.Width.{Width}
use Rattle.dcc_num.specs.declared.Flags.{Flags}
use Rattle.dcc_num.specs.Numbers.{bits_of, limit_of, has_sign, signed_of, halved_of, wrapped_of}

-- CF and OF tell whether the product needs its upper half, and the others are clear
abbrev pub product_flags : Bool → Flags
product_flags needed = record { cf = needed; zf = false; sf = false; of = needed }

-- the product a * b of unsigned numbers; the upper half is needed where it is not 0
unfoldable pub product_of : Width → ℕ → ℕ → ℕ × ℕ × Flags
product_of w a b =
    let high = a * b / limit_of w in
    (a * b % limit_of w, high, product_flags (not (high == 0)))

-- the upper half of a product that only repeats the sign of the lower one
abbrev pub extension_of : Width → ℕ → ℕ
extension_of w low = if has_sign w low then limit_of w - 1 else 0

-- the product a * b of signed numbers; the upper half is needed where it is not the sign extension of the lower one
unfoldable pub signed_product_of : Width → ℕ → ℕ → ℕ × ℕ × Flags
signed_product_of w a b =
    let product = signed_of w a *ℤ signed_of w b in
    let low = wrapped_of w product in
    let high = wrapped_of w (halved_of product (bits_of w)) in
    (low, high, product_flags (not (high == extension_of w low)))
