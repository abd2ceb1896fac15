-- SHL, SHR, SAR, ROL, ROR, RCL and RCR: each gives the result and the flags. A count of 0 changes nothing. Counts are
-- not masked, and OF, which the manual leaves open for counts above 1, is clear there.
use Rattle.std.specs.Prelude.{ℕ, ◌+◌, ◌-◌, ◌*◌, ◌/◌, ◌%◌, ◌^◌, ◌==◌, ◌&&◌, Bool, false, if◌then◌else◌}
use Rattle.std.specs.Int.{from_bool}
use Rattle.dcc_num.specs.declared.Width.{Width}
use Rattle.dcc_num.specs.declared.Flags.{Flags}
use Rattle.dcc_num.specs.Numbers.{bits_of, limit_of, half_of, has_sign, is_set, differ, residue_of, halved_of}
use Rattle.dcc_num.specs.Numbers.{wrapped_of, signed_of, result_flags}

-- a shift by a count: for 0 the operand and the flags as they were
abbrev pub unless_zero : ℕ → ℕ × Flags → ℕ × Flags → ℕ × Flags
unless_zero count same moved = if count == 0 then same else moved

-- a * 2 ^ count, as far as the width has room. CF: the last bit shifted out, which then stands just above the operand.
-- OF for a count of 1: the sign has changed
unfoldable pub shl_of : Width → ℕ → ℕ → Flags → ℕ × Flags
shl_of w a count was =
    let r = a * 2 ^ count % limit_of w in
    let out = is_set (a * 2 ^ count) (bits_of w) in
    unless_zero count (a, was) (r, result_flags w r out (count == 1 && differ out (has_sign w r)))

-- a / 2 ^ count, rounded down. CF: the last bit shifted out. OF for a count of 1: the operand's sign
unfoldable pub shr_of : Width → ℕ → ℕ → Flags → ℕ × Flags
shr_of w a count was =
    let r = a / 2 ^ count in
    unless_zero count (a, was) (r, result_flags w r (is_set a (count - 1)) (count == 1 && has_sign w a))

-- the signed number divided by 2 ^ count, rounded down, so that copies of the sign come in at the top. CF: the last bit
-- shifted out. OF is clear
unfoldable pub sar_of : Width → ℕ → ℕ → Flags → ℕ × Flags
sar_of w a count was =
    let z = signed_of w a in
    let r = wrapped_of w (halved_of z count) in
    let out = residue_of 2 (halved_of z (count - 1)) == 1 in
    unless_zero count (a, was) (r, result_flags w r out false)

-- the bits moved up by some places, at most the width: those that leave at the top come in at the bottom
abbrev pub rotated_of : Width → ℕ → ℕ → ℕ
rotated_of w a places = a * 2 ^ places % limit_of w + a * 2 ^ places / limit_of w

-- ZF and SF as they were, beside a new CF and OF
abbrev pub rotate_flags : Flags → Bool → Bool → Flags
rotate_flags was carry overflow = record was { cf = carry; of = overflow }

-- the two top bits of an operand differ
abbrev pub top_bits_differ : Width → ℕ → Bool
top_bits_differ w a = differ (has_sign w a) (is_set a (bits_of w - 2))

-- the bits turned left. CF: the last bit that came round, now the lowest. OF for a count of 1: CF differs from the sign
unfoldable pub rol_of : Width → ℕ → ℕ → Flags → ℕ × Flags
rol_of w a count was =
    let r = rotated_of w a (count % bits_of w) in
    let out = is_set r 0 in
    unless_zero count (a, was) (r, rotate_flags was out (count == 1 && differ out (has_sign w r)))

-- the bits turned right, which is left by what is missing to a whole turn. CF: the last bit that came round, now the
-- highest. OF for a count of 1: the two top bits differ
unfoldable pub ror_of : Width → ℕ → ℕ → Flags → ℕ × Flags
ror_of w a count was =
    let r = rotated_of w a (bits_of w - count % bits_of w) in
    unless_zero count (a, was) (r, rotate_flags was (has_sign w r) (count == 1 && top_bits_differ w r))

-- the bits and CF turned left by one place: CF comes in at the bottom, and the top bit is the new CF. OF: CF differs
-- from the sign
unfoldable pub rcl_of : Width → ℕ → Flags → ℕ × Flags
rcl_of w a was =
    let r = (2 * a + from_bool was.cf) % limit_of w in
    (r, rotate_flags was (has_sign w a) (differ (has_sign w a) (has_sign w r)))

-- the bits and CF turned right by one place: CF comes in at the top, and the lowest bit is the new CF. OF: the two top
-- bits differ
unfoldable pub rcr_of : Width → ℕ → Flags → ℕ × Flags
rcr_of w a was =
    let r = a / 2 + from_bool was.cf * half_of w in
    (r, rotate_flags was (is_set a 0) (top_bits_differ w r))
