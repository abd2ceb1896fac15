use Rattle.std.proofs.Common.{◌≡◌, ℕ, ◌<◌, ◌^◌, true, false, List, length, Some, None, Err, sym, ap, rules, arith}
use Rattle.std.specs.Prelude.{nat_lt, nat_le, if◌then◌else◌}
use Rattle.std.proofs.Common.{◌≡◌, ℕ, ◌<◌, ◌^◌, true, false, List, length, Some, None, Err, sym, ap, rules, arith}
use Rattle.std.specs.Prelude.{nat_lt, nat_le, if◌then◌else◌}
use Rattle.std.specs.Char.{is_ascii_digit}
use Rattle.std.specs.List.{list_all}
use Rattle.std.specs.Str.Parse.{digits_value, ParsesUnsigned}
use Rattle.std.proofs.lemmas.Bool.{and_parts, and_right, lt-leb, leb-true}
use Rattle.std.proofs.lemmas.Str.Parse.{IsNumeralModel, numerals_by_value, parse_digits}
use Rattle.dcc_commands.specs.Words.{is_number, number_of}
use Rattle.dcc_commands.proofs.words.number_of.Goals as goal

-- the words of digits, and their values
own : IsNumeralModel (λ ds. list_all is_ascii_digit ds ≡ true) (digits_value 10)
own = numerals_by_value _ (search rules)

-- a number that does not fit 64 bits is greater than the greatest
too_great : {E : Type 0} (digits greatest : ℕ) (word : List ℕ) (e : E) → greatest < 2 ^ 64 → is_number digits word ≡ true → ParsesUnsigned 64 10 word (Err e) → None ≡ number_of digits greatest word
too_great digits greatest word e fits is none =
    let parts = and_parts (nat_lt 0 (length word)) _ is in
    let alone = (and_parts (nat_le (length word) digits) _ parts.1).1 in
    let full : 0 < length word = leb-true _ _ parts.0 in
    let large : (digits_value 10 word < 2 ^ 64) → ⊥ = λ small. parse_digits own 64 word (Err e) none alone (full, small) in
    let test : nat_le (digits_value 10 word) greatest ≡ false = lt-leb (digits_value 10 word) greatest (omega (arith, large)) in
    sym (ap (λ b. if b then Some (digits_value 10 word) else None) (and_right (is_number digits word) _ test))

pub returns-in_default-2 : goal.returns-in_default-2
returns-in_default-2 c =
    too_great c.args.digits c.args.greatest c.args.word.now c.in_default.field-0 (omega arith) (sym c.if-not-is_number.ensures) c.in_default.ensures.value.0
