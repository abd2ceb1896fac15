-- What is read from the bytes of an instruction, by the row that they fit.
use Rattle.std.proofs.Common.{◌≡◌, ℕ, ◌+◌, ◌<◌, ◌≤◌, Bool, true, false, nat_le, List, [], ◌∷◌, ◌++◌, length, refl, sym, ◌∙◌, ap, arith}
use Rattle.std.specs.Prelude.{◌↔◌, ◌==◌, Option, Some, None, if◌then◌else◌}
use Rattle.std.proofs.lemmas.Bool.Decides.{nat_tests}
use Rattle.dcc_machine.specs.Bytes.{byte_at}
use Rattle.dcc_machine.specs.Operands.{displacement_size, displacement_at}
use Rattle.dcc_machine.specs.Table.{BytePattern, Row, Parts, ConstantForm, fits_byte, fits, constant_size, constant_at, ConstantPlace, at_end, at_index, constant_index, head_length, row_length}
use Rattle.dcc_machine.proofs.TableLaws.{and_left, and_right, and_both}
use Rattle.dcc_decode.specs.declared.fields.Constant.{Constant}
use Rattle.dcc_decode.specs.declared.fields.Fields.{Fields}
use Rattle.dcc_decode.specs.Reading.{form_of, IsOpcodeRow, TellsModrm, TellsConstant, modrm_read, constant_read, is_at_end, head_of, ReadsHead, ReadsRows, FitsAsRead}

-- patterns that bytes fit are fitted by more bytes
fits-more : (ps : List BytePattern) (xs ys : List ℕ) → fits ps xs ≡ true → fits ps (xs ++ ys) ≡ true
fits-more [] xs ys h = refl
fits-more (p ∷ ps) [] ys h = cc
fits-more (p ∷ ps) (x ∷ xs) ys h = and_both _ _ (and_left _ _ h) (fits-more ps xs ys (and_right _ _ h))

-- one pattern asks for one byte
fits-first :
    (ps : List BytePattern) (x : ℕ) (xs ys : List ℕ) → length ps ≡ 1 → fits ps (x ∷ xs) ≡ true
    → fits ps (x ∷ ys) ≡ true
fits-first [] x xs ys l h = refl
fits-first (p ∷ []) x xs ys l h = h
fits-first (p ∷ q ∷ ps) x xs ys l h = absurd (omega arith)

-- two patterns ask for two
fits-two :
    (ps : List BytePattern) (x y : ℕ) (xs : List ℕ) → length ps ≡ 2 → fits ps (x ∷ y ∷ xs) ≡ true
    → fits ps (x ∷ y ∷ []) ≡ true
fits-two [] x y xs l h = refl
fits-two (p ∷ []) x y xs l h = h
fits-two (p ∷ q ∷ []) x y xs l h = h
fits-two (p ∷ q ∷ r ∷ ps) x y xs l h = absurd (omega arith)

-- one byte is not enough for two patterns
fits-short : (ps : List BytePattern) (x : ℕ) → length ps ≡ 2 → fits ps (x ∷ []) ≡ true → ⊥
fits-short [] x l h = omega arith
fits-short (p ∷ []) x l h = omega arith
fits-short (p ∷ q ∷ ps) x l h = let no : false ≡ true = and_right (fits_byte p x) false h in cc

opcode_row-length : (row : Row) → IsOpcodeRow row → length row.pattern ≡ (if row.has_modrm then 2 else 1)
opcode_row-length row at =
    let l : (length row.pattern == (if row.has_modrm then 2 else 1)) ≡ true = and_left _ (is_at_end row.constant_place) at.1 in
    grind (arith, nat_tests, l)

at_the_end : (place : ConstantPlace) → is_at_end place ≡ true → place ≡ at_end
at_the_end at_end h = refl
at_the_end (at_index index) h = cc

opcode_row-place : (row : Row) → IsOpcodeRow row → row.constant_place ≡ at_end
opcode_row-place row at = at_the_end row.constant_place (and_right (length row.pattern == (if row.has_modrm then 2 else 1)) _ at.1)

opcode_row_with : (row : Row) → IsOpcodeRow row → row.has_modrm ≡ true → length row.pattern ≡ 2
opcode_row_with row at h = let l = opcode_row-length row at in rw h at l

opcode_row_without : (row : Row) → IsOpcodeRow row → row.has_modrm ≡ false → length row.pattern ≡ 1
opcode_row_without row at h = let l = opcode_row-length row at in rw h at l

-- the parts of an answer under a test
chosen :
    {A : Type 0} (test : Bool) (found x : A) → (if test then Some found else None) ≡ Some x
    → (test ≡ true) × (found ≡ x)
chosen true found x e = (refl, cc)
chosen false found x e = cc

none_chosen :
    {A : Type 0} (test : Bool) (found : A) → test ≡ true
    → None ≡ (if test then Some found else None) → ⊥
none_chosen true found t e = cc
none_chosen false found t e = cc

no_pattern : (ps : List BytePattern) → 0 < length ps → fits ps [] ≡ true → ⊥
no_pattern [] l h = omega arith
no_pattern (p ∷ ps) l h = cc

opcode_row-positive : (row : Row) → IsOpcodeRow row → 0 < length row.pattern
opcode_row-positive row at =
    let l = opcode_row-length row at in
    let P : Bool → Type 0 = λ b. length row.pattern ≡ (if b then 2 else 1) → 0 < length row.pattern in
    let cases : (b : Bool) → P b = λ b. elim b as P [ true ↦ λ e. omega arith | false ↦ λ e. omega arith ] in
    cases row.has_modrm l

first_of_three : {a b c d e f : ℕ} → ◌≡◌ {A = ℕ × ℕ × ℕ} (a, b, c) (d, e, f) → a ≡ d
first_of_three p = ap (λ (t : ℕ × ℕ × ℕ). t.0) p

modrm_read-some :
    (b : ℕ) (bytes : List ℕ) (modrm displacement end : ℕ)
    → modrm_read (b ∷ bytes) ≡ Some (modrm, displacement, end)
    → (byte_at bytes 0 ≡ modrm) × (1 ≤ length bytes)
modrm_read-some b bytes modrm displacement end e =
    let both = chosen (nat_le (2 + displacement_size (byte_at bytes 0)) (length (b ∷ bytes))) (byte_at bytes 0, displacement_at (byte_at bytes 0) (b ∷ bytes) 2, 2 + displacement_size (byte_at bytes 0)) (modrm, displacement, end) e in
    let enough : nat_le (2 + displacement_size (byte_at bytes 0)) (length (b ∷ bytes)) ≡ true = both.0 in
    (first_of_three both.1, grind (arith, nat_tests, enough))

-- the bytes of an instruction with a ModRM byte
fits-modrm :
    (row : Row) (b modrm : ℕ) (bytes : List ℕ) → length row.pattern ≡ 2 → byte_at bytes 0 ≡ modrm
    → 1 ≤ length bytes
    → (fits row.pattern (b ∷ bytes) ≡ true) ↔ (fits row.pattern (b ∷ modrm ∷ []) ≡ true)
fits-modrm row b modrm [] two e l = absurd (omega arith)
fits-modrm row b modrm (m ∷ bytes) two e l = (
  λ h. rw (← e) (fits-two row.pattern b m bytes two h),
  λ h. fits-more row.pattern (b ∷ m ∷ []) bytes (rw e h),
)

pub reads_head-modrm :
    (opcode : ℕ) (bytes : List ℕ) (answer : Option (ℕ × ℕ × ℕ)) → 0 < length bytes
    → opcode ≡ byte_at bytes 0 → TellsModrm opcode true → answer ≡ modrm_read bytes
    → ReadsHead opcode bytes answer
reads_head-modrm opcode [] answer l e t r = absurd (omega arith)
reads_head-modrm opcode (b ∷ bytes) answer l e t r = record {
  of_row = λ row at h.
      let has = t.of_row row bytes at (rw e h) in
      let two = opcode_row_with row at has in
      r ∙ rw (has, two) refl;
  fitting = λ modrm displacement end s row at.
      let some = modrm_read-some b bytes modrm displacement end (sym r ∙ s) in (
        λ h. let has = t.of_row row bytes at (rw e h) in
            rw e ((fits-modrm row b modrm bytes (opcode_row_with row at has) some.0 some.1).0 h),
        λ h. let has = t.of_row row (modrm ∷ []) at h in
            (fits-modrm row b modrm bytes (opcode_row_with row at has) some.0 some.1).1 (rw e at h),
      );
}

no_head :
    (row : Row) (b : ℕ) (bytes : List ℕ) → row.has_modrm ≡ false → length row.pattern ≡ 1
    → head_of row (b ∷ bytes) ≡ Some (0, 0, 1)
no_head row b bytes has one =
    let enough : nat_le 1 (length (b ∷ bytes)) ≡ true = grind (arith, nat_tests) in
    rw (has, one) (rw enough refl)

pub reads_head-none :
    (opcode : ℕ) (bytes : List ℕ) (answer : Option (ℕ × ℕ × ℕ)) → 0 < length bytes
    → opcode ≡ byte_at bytes 0 → TellsModrm opcode false → answer ≡ Some (0, 0, 1)
    → ReadsHead opcode bytes answer
reads_head-none opcode [] answer l e t r = absurd (omega arith)
reads_head-none opcode (b ∷ bytes) answer l e t r = record {
  of_row = λ row at h.
      let has = t.of_row row bytes at (rw e h) in
      r ∙ sym (no_head row b bytes has (opcode_row_without row at has));
  fitting = λ modrm displacement end s row at. (
    λ h. let has = t.of_row row bytes at (rw e h) in
        fits-first row.pattern opcode bytes (modrm ∷ []) (opcode_row_without row at has) (rw e h),
    λ h. let has = t.of_row row (modrm ∷ []) at h in
        rw (sym e) (fits-first row.pattern opcode (modrm ∷ []) bytes (opcode_row_without row at has) h),
  );
}

-- The whole instruction -----------------------------------------------------------------------------

head_some :
    (row : Row) (bytes : List ℕ) (modrm displacement end : ℕ)
    → Some (modrm, displacement, end) ≡ head_of row bytes
    → (nat_le (head_length row bytes) (length bytes) ≡ true) × ((if row.has_modrm then byte_at bytes 1 else 0) ≡ modrm) × ((if row.has_modrm then displacement_at (byte_at bytes 1) bytes (length row.pattern) else 0) ≡ displacement) × (head_length row bytes ≡ end)
head_some row bytes modrm displacement end e =
    let both = chosen (nat_le (head_length row bytes) (length bytes)) (if row.has_modrm then byte_at bytes 1 else 0, if row.has_modrm then displacement_at (byte_at bytes 1) bytes (length row.pattern) else 0, head_length row bytes) (modrm, displacement, end) (sym e) in
    (both.0, ap (λ (t : ℕ × ℕ × ℕ). t.0) both.1, ap (λ (t : ℕ × ℕ × ℕ). t.1) both.1, ap (λ (t : ℕ × ℕ × ℕ). t.2) both.1)

-- the fields that are read with a constant
abbrev pub fields_with : ℕ → ℕ → ℕ → ℕ → ℕ → ℕ → ℕ → Fields
fields_with at opcode modrm displacement end size constant =
    record { at = at; opcode = opcode; modrm = modrm; displacement = displacement; constant = constant; len = end + size }

row_form :
    (row : Row) (bytes : List ℕ) (opcode modrm displacement end : ℕ) (form : Constant)
    → ReadsHead opcode bytes (Some (modrm, displacement, end)) → TellsConstant opcode modrm form
    → IsOpcodeRow row → fits row.pattern bytes ≡ true → row.constant_form ≡ form_of form
row_form row bytes opcode modrm displacement end form reads tells at h =
    tells.of_row row [] at ((reads.fitting modrm displacement end refl row at).0 h)

whole_length :
    (row : Row) (bytes : List ℕ) (end : ℕ) (form : ConstantForm) → IsOpcodeRow row → head_length row bytes ≡ end
    → row.constant_form ≡ form → end + constant_size form ≡ row_length row bytes
whole_length row bytes end form at h k = rw (sym h, sym k, opcode_row-place row at) refl

parts_are :
    {a a' b b' c c' d d' n n' : ℕ} → a ≡ a' → b ≡ b' → c ≡ c' → d ≡ d' → n ≡ n'
    → ◌≡◌ {A = Parts} (record { opcode = a; modrm = b; displacement = c; constant = d; next = n }) (record { opcode = a'; modrm = b'; displacement = c'; constant = d'; next = n' })
parts_are p q r s t = cc

pub reads_rows-none :
    (bytes : List ℕ) (at opcode modrm displacement end : ℕ) (form : Constant)
    → ReadsHead opcode bytes (Some (modrm, displacement, end)) → TellsConstant opcode modrm form
    → None ≡ constant_read (form_of form) bytes end → ReadsRows bytes at None
reads_rows-none bytes at opcode modrm displacement end form reads tells r = record {
  complete = λ row by_opcode h enough.
      let same = row_form row bytes opcode modrm displacement end form reads tells by_opcode h in
      let head = head_some row bytes modrm displacement end (reads.of_row row by_opcode h) in
      let whole = whole_length row bytes end (form_of form) by_opcode head.3 same in
      let within : nat_le (end + constant_size (form_of form)) (length bytes) ≡ true = grind (arith, nat_tests) in
      absurd (none_chosen _ (constant_at (form_of form) bytes end) within r);
  cut_short = λ row by_opcode h short. refl;
}

pub reads_rows-some :
    (bytes : List ℕ) (at opcode modrm displacement end size constant : ℕ) (form : Constant)
    → opcode ≡ byte_at bytes 0 → ReadsHead opcode bytes (Some (modrm, displacement, end))
    → TellsConstant opcode modrm form → size ≡ constant_size (form_of form)
    → Some constant ≡ constant_read (form_of form) bytes end
    → ReadsRows bytes at (Some (fields_with at opcode modrm displacement end size constant))
reads_rows-some bytes at opcode modrm displacement end size constant form e reads tells s r = record {
  complete = λ row by_opcode h enough.
      let same = row_form row bytes opcode modrm displacement end form reads tells by_opcode h in
      let head = head_some row bytes modrm displacement end (reads.of_row row by_opcode h) in
      let whole = whole_length row bytes end (form_of form) by_opcode head.3 same in
      let got = chosen (nat_le (end + constant_size (form_of form)) (length bytes)) (constant_at (form_of form) bytes end) constant (sym r) in
      let value : constant ≡ constant_at row.constant_form bytes (constant_index row.constant_place (head_length row bytes)) =
      rw (same, opcode_row-place row by_opcode, head.3) (sym got.1) in
      let len : end + size ≡ row_length row bytes = rw s whole in
      (parts_are e (sym head.1) (sym head.2) value (ap (λ (n : ℕ). at + n) len), len);
  cut_short = λ row by_opcode h short.
      let same = row_form row bytes opcode modrm displacement end form reads tells by_opcode h in
      let head = head_some row bytes modrm displacement end (reads.of_row row by_opcode h) in
      let whole = whole_length row bytes end (form_of form) by_opcode head.3 same in
      let got = chosen (nat_le (end + constant_size (form_of form)) (length bytes)) (constant_at (form_of form) bytes end) constant (sym r) in
      let within : end + constant_size (form_of form) ≤ length bytes = grind (arith, nat_tests, got.0) in
      absurd (omega arith);
}

-- bytes that end within what stands before the constant
pub reads_rows-cut :
    (bytes : List ℕ) (at opcode : ℕ) → ReadsHead opcode bytes None → ReadsRows bytes at None
reads_rows-cut bytes at opcode reads = record {
  complete = λ row by_opcode h enough.
      let within : nat_le (head_length row bytes) (length bytes) ≡ true = grind (arith, nat_tests) in
      absurd (none_chosen _ _ within (reads.of_row row by_opcode h));
  cut_short = λ row by_opcode h short. refl;
}

pub reads_rows-empty : (bytes : List ℕ) (at : ℕ) → length bytes ≡ 0 → ReadsRows bytes at None
reads_rows-empty [] at l = record {
  complete = λ row by_opcode h enough. absurd (no_pattern row.pattern (opcode_row-positive row by_opcode) h);
  cut_short = λ row by_opcode h short. refl;
}
reads_rows-empty (b ∷ bytes) at l = absurd (omega arith)

pub fits_as_read :
    (bytes : List ℕ) (fields : Fields) (displacement end : ℕ)
    → ReadsHead fields.opcode bytes (Some (fields.modrm, displacement, end))
    → FitsAsRead bytes fields
fits_as_read bytes fields displacement end reads = record {
  of_row = λ row by_opcode. reads.fitting fields.modrm displacement end refl row by_opcode;
}

pub ruleset head_rules = (reads_head-modrm, reads_head-none)

pub ruleset read_rules = (reads_rows-none, reads_rows-some, reads_rows-cut, reads_rows-empty, fits_as_read)
