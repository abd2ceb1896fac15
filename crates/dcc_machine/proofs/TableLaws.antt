-- Laws of the table of encodings: at most one row matches any bytes, the bounds of an
-- instruction's length, and on which bytes it depends.
use Rattle.std.proofs.Common.{◌≡◌, ℕ, zero, suc, ◌+◌, ◌<◌, ◌≤◌, Bool, true, false, cond, not, ◌&&◌, ◌||◌, nat_le, nat_lt, get_or-take, length-take, List, [], ◌∷◌, ◌++◌, length, get_or, take, refl, sym, ◌∙◌, ap, arith}
use Rattle.std.specs.Prelude.{filter, find, slice_get, Option, Some, None, option_map, if◌then◌else◌, ◌==◌}
use Rattle.std.specs.List.{list_all}
use Rattle.std.proofs.lemmas.Bool.Decides.{nat_tests}
use Rattle.dcc_machine.specs.declared.cpu.Cpu.{Cpu}
use Rattle.dcc_machine.specs.declared.cpu.Cpu.TheVariants.{I8086, I186}
use Rattle.dcc_machine.specs.declared.instr.Instr.{Instr}
use Rattle.dcc_machine.specs.declared.instr.Op.{Op}
use Rattle.dcc_num.specs.Numbers.{sign_extension_of}
use Rattle.dcc_machine.specs.Bytes.{byte_at, word_at}
use Rattle.dcc_machine.specs.Operands.{displacement_size, displacement_at}
use Rattle.dcc_machine.specs.Table.{InstructionHasOneToSixBytes, InstructionDependsOnItsBytes, AtMostOneRowMatches, InstructionIsThatOfItsRow, LaterProcessorHasEachInstruction, later_rows, Range, BytePattern, Row, Parts, in_range, fits_byte, fits, has_bytes, ConstantForm, constant_size, constant_at, ConstantPlace, at_end, at_index, tail_size, constant_index, head_length, row_displacement_size, row_length, matches, row_parts, row_instruction, table, instruction_at, IsRow, no_constant, byte_constant, word_constant, signed_constant}

-- Tests ----------------------------------------------------------------------------------------

pub and_left : (a b : Bool) → a && b ≡ true → a ≡ true
and_left true b h = refl
and_left false b h = h

pub and_right : (a b : Bool) → a && b ≡ true → b ≡ true
and_right true b h = h
and_right false b h = cc

pub and_both : (a b : Bool) → a ≡ true → b ≡ true → a && b ≡ true
and_both a b h k = rw h k

-- a test that every element passes is passed by each one
pub list_all-get :
    {X : Type 0} (test : X → Bool) (xs : List X) (k : ℕ) (x : X) → list_all test xs ≡ true
    → slice_get xs k ≡ Some x → test x ≡ true
list_all-get test [] k x h e = cc
list_all-get test (y ∷ ys) zero x h e = let same : y ≡ x = cc in rw (← same) (and_left (test y) _ h)
list_all-get test (y ∷ ys) (suc k) x h e = list_all-get test ys k x (and_right (test y) _ h) e

-- what is found is an element that passes
pub find-get :
    {X : Type 0} (test : X → Bool) (xs : List X) (x : X) → find test xs ≡ Some x
    → (k : ℕ) × (slice_get xs k ≡ Some x)
find-get test [] x e = cc
find-get {X} test (y ∷ ys) x e =
    let P : Bool → Type 0 = λ b. cond b (Some y) (find test ys) ≡ Some x → (k : ℕ) × (slice_get (y ∷ ys) k ≡ Some x) in
    let both : (b : Bool) → P b = λ b. elim b as P [ true ↦ λ h. (0, h) | false ↦ λ h. let found = find-get test ys x h in (suc found.0, found.1) ] in
    both (test y) e

pub find-passes :
    {X : Type 0} (test : X → Bool) (xs : List X) (x : X) → find test xs ≡ Some x → test x ≡ true
find-passes test [] x e = cc
find-passes {X} test (y ∷ ys) x e =
    let P : Bool → Type 0 = λ b. test y ≡ b → cond b (Some y) (find test ys) ≡ Some x → test x ≡ true in
    let both : (b : Bool) → P b = λ b. elim b as P [ true ↦ λ t h. let same : y ≡ x = cc in rw (← same) t | false ↦ λ t h. find-passes test ys x h ] in
    both (test y) refl e

-- Patterns that no bytes fit together -----------------------------------------------------------

abbrev pub ranges_apart : Range → Range → Bool
ranges_apart a b = nat_lt a.last b.first || nat_lt b.last a.first

abbrev pub bytes_apart : BytePattern → BytePattern → Bool
bytes_apart p q =
    ranges_apart p.byte q.byte || ranges_apart p.mods q.mods
    || ranges_apart p.regs q.regs || ranges_apart p.rms q.rms

abbrev pub patterns_apart : List BytePattern → List BytePattern → Bool
patterns_apart [] qs = false
patterns_apart (p ∷ ps) [] = false
patterns_apart (p ∷ ps) (q ∷ qs) = bytes_apart p q || patterns_apart ps qs

in_neither :
    (a b : Range) (n : ℕ) → in_range a n ≡ true → in_range b n ≡ true → ranges_apart a b ≡ false
in_neither a b n h k = grind (arith, nat_tests)

pub both_false : (a b : Bool) → a ≡ false → b ≡ false → a || b ≡ false
both_false a b h k = rw h k

no_byte_fits_both :
    (p q : BytePattern) (b : ℕ) → fits_byte p b ≡ true → fits_byte q b ≡ true
    → bytes_apart p q ≡ false
no_byte_fits_both p q b h k =
    let h3 = and_left _ _ h in let h2 = and_left _ _ h3 in
    let k3 = and_left _ _ k in let k2 = and_left _ _ k3 in
    both_false _ _
    (both_false _ _
    (both_false _ _
    (in_neither p.byte q.byte _ (and_left _ _ h2) (and_left _ _ k2))
    (in_neither p.mods q.mods _ (and_right _ _ h2) (and_right _ _ k2)))
    (in_neither p.regs q.regs _ (and_right _ _ h3) (and_right _ _ k3)))
    (in_neither p.rms q.rms _ (and_right _ _ h) (and_right _ _ k))

pub fits-apart :
    (ps qs : List BytePattern) (bytes : List ℕ) → fits ps bytes ≡ true → fits qs bytes ≡ true
    → patterns_apart ps qs ≡ false
fits-apart [] qs bytes h k = refl
fits-apart (p ∷ ps) [] bytes h k = refl
fits-apart (p ∷ ps) (q ∷ qs) [] h k = cc
fits-apart (p ∷ ps) (q ∷ qs) (b ∷ bytes) h k =
    both_false _ _ (no_byte_fits_both p q b (and_left _ _ h) (and_left _ _ k))
    (fits-apart ps qs bytes (and_right _ _ h) (and_right _ _ k))

-- the rows of a list of which no two can match the same bytes
abbrev pub rows_apart : List Row → Bool
rows_apart [] = true
rows_apart (row ∷ rows) =
    list_all (λ other. patterns_apart row.pattern other.pattern) rows && rows_apart rows

pub rows_apart-table : (cpu : Cpu) → rows_apart (table cpu) ≡ true
unfolding table
rows_apart-table I8086 = refl
rows_apart-table I186 = refl

-- the one row that passes a test, where only rows whose pattern the bytes fit do, is found
find-only :
    (test : Row → Bool) (bytes : List ℕ) (inside : (r : Row) → test r ≡ true → fits r.pattern bytes ≡ true) (rows : List Row) (k : ℕ) (row : Row)
    → rows_apart rows ≡ true → slice_get rows k ≡ Some row → test row ≡ true
    → find test rows ≡ Some row
find-only test bytes inside [] k row apart at m = cc
find-only test bytes inside (r ∷ rows) zero row apart at m = let same : r ≡ row = cc in rw same (rw m refl)
find-only test bytes inside (r ∷ rows) (suc k) row apart at m =
    let from_row : patterns_apart r.pattern row.pattern ≡ true =
    list_all-get (λ other. patterns_apart r.pattern other.pattern) rows k row (and_left _ _ apart) at in
    let P : Bool → Type 0 = λ b. test r ≡ b → test r ≡ false in
    let cases : (b : Bool) → P b = λ b. elim b as P [
      | true ↦ λ t. let f = fits-apart r.pattern row.pattern bytes (inside r t) (inside row m) in cc
      | false ↦ λ t. t
    ] in
    rw (cases (test r) refl) (find-only test bytes inside rows k row (and_right _ _ apart) at m)

pub find-row :
    (cpu : Cpu) (bytes : List ℕ) (row : Row) → IsRow cpu row → matches row bytes ≡ true
    → find (λ r. matches r bytes) (table cpu) ≡ Some row
find-row cpu bytes row at m =
    find-only (λ r. matches r bytes) bytes (λ r t. and_left _ _ t) (table cpu) at.0 row (rows_apart-table cpu) at.1 m

pub find-fits :
    (cpu : Cpu) (bytes : List ℕ) (row : Row) → IsRow cpu row → fits row.pattern bytes ≡ true
    → find (λ r. fits r.pattern bytes) (table cpu) ≡ Some row
find-fits cpu bytes row at h =
    find-only (λ r. fits r.pattern bytes) bytes (λ r t. t) (table cpu) at.0 row (rows_apart-table cpu) at.1 h

-- The length ------------------------------------------------------------------------------------

pub has_bytes-le : (n : ℕ) (xs : List ℕ) → has_bytes n xs ≡ true → n ≤ length xs
has_bytes-le zero xs h = omega arith
has_bytes-le (suc n) [] h = cc
has_bytes-le (suc n) (x ∷ xs) h = let le = has_bytes-le n xs h in omega arith

pub has_bytes-of_le : (n : ℕ) (xs : List ℕ) → n ≤ length xs → has_bytes n xs ≡ true
has_bytes-of_le zero xs h = refl
has_bytes-of_le (suc n) [] h = absurd (omega arith)
has_bytes-of_le (suc n) (x ∷ xs) h = has_bytes-of_le n xs (omega arith)

-- a row has an opcode and a ModRM byte, or one to four bytes without one
abbrev pub sized : Row → Bool
sized row =
    if row.has_modrm then length row.pattern == 2
    else nat_le 1 (length row.pattern) && nat_le (length row.pattern) 4

-- a constant among the first bytes is wholly there
abbrev pub placed : ConstantPlace → ConstantForm → ℕ → Bool
placed at_end form size = true
placed (at_index index) form size = nat_le (index + constant_size form) size

abbrev pub well_made : Row → Bool
well_made row = sized row && placed row.constant_place row.constant_form (length row.pattern)

well_made-table : (cpu : Cpu) → list_all well_made (table cpu) ≡ true
unfolding table
well_made-table I8086 = refl
well_made-table I186 = refl

well_made-row : (cpu : Cpu) (row : Row) → IsRow cpu row → well_made row ≡ true
well_made-row cpu row at = list_all-get well_made (table cpu) at.0 row (well_made-table cpu) at.1

sized-row : (cpu : Cpu) (row : Row) → IsRow cpu row → sized row ≡ true
sized-row cpu row at = and_left _ _ (well_made-row cpu row at)

placed-row : (cpu : Cpu) (row : Row) → IsRow cpu row → placed row.constant_place row.constant_form (length row.pattern) ≡ true
placed-row cpu row at = and_right (sized row) _ (well_made-row cpu row at)

pub displacement_size-le : (modrm : ℕ) → displacement_size modrm ≤ 2
displacement_size-le modrm = grind (arith, nat_tests)

pub constant_size-le : (form : ConstantForm) → constant_size form ≤ 2
constant_size-le no_constant = omega arith
constant_size-le byte_constant = omega arith
constant_size-le word_constant = omega arith
constant_size-le signed_constant = omega arith

tail_size-le : (place : ConstantPlace) (form : ConstantForm) → tail_size place form ≤ 2
tail_size-le at_end form = constant_size-le form
tail_size-le (at_index index) form = omega arith

-- the constant lies within the instruction
constant-within :
    (place : ConstantPlace) (form : ConstantForm) (size more : ℕ) → placed place form size ≡ true
    → constant_index place (size + more) + constant_size form ≤ (size + more) + tail_size place form
constant-within at_end form size more h = omega arith
constant-within (at_index index) form size more h =
    let le : index + constant_size form ≤ size = grind (arith, nat_tests) in omega (arith, le)

row_length-bounds :
    (row : Row) (bytes : List ℕ) → sized row ≡ true
    → (0 < row_length row bytes) × (row_length row bytes ≤ 6)
row_length-bounds row bytes h =
    let d = displacement_size-le (get_or bytes 1 0) in
    let c = tail_size-le row.constant_place row.constant_form in
    grind (arith, nat_tests)

-- the row of an instruction
pub instruction-row :
    (cpu : Cpu) (offset : ℕ) (bytes : List ℕ) (instr : Instr) → instruction_at cpu offset bytes ≡ Some instr
    → (row : Row) × IsRow cpu row × (matches row bytes ≡ true) × (row_instruction row offset bytes ≡ instr)
unfolding instruction_at
instruction-row cpu offset bytes instr e =
    let test : Row → Bool = λ row. matches row bytes in
    let found : Option Row = find test (table cpu) in
    let P : Option Row → Type 0 = λ o. found ≡ o → option_map (λ row. row_instruction row offset bytes) o ≡ Some instr → (row : Row) × IsRow cpu row × (matches row bytes ≡ true) × (row_instruction row offset bytes ≡ instr) in
    let cases : (o : Option Row) → P o = λ o. elim o as P [ None ↦ λ f h. cc | Some row ↦ λ f h. (row, find-get test (table cpu) row f, find-passes test (table cpu) row f, cc) ] in
    cases found refl e

-- a row that matches gives the instruction
pub instruction-of_row :
    (cpu : Cpu) (offset : ℕ) (bytes : List ℕ) (row : Row) → IsRow cpu row → matches row bytes ≡ true
    → instruction_at cpu offset bytes ≡ Some (row_instruction row offset bytes)
unfolding instruction_at
instruction-of_row cpu offset bytes row at m = rw (find-row cpu bytes row at m)

-- an instruction has one to six bytes, all of which are there
pub instruction-length : InstructionHasOneToSixBytes
instruction-length cpu offset bytes instr e =
    let r = instruction-row cpu offset bytes instr e in
    let bounds = row_length-bounds r.0 bytes (sized-row cpu r.0 r.1) in
    let there : row_length r.0 bytes ≤ length bytes =
    has_bytes-le (row_length r.0 bytes) bytes (and_right (fits r.0.pattern bytes) (has_bytes (row_length r.0 bytes) bytes) r.2) in
    let same : row_length r.0 bytes ≡ instr.len = ap (λ (i : Instr). i.len) r.3 in
    (omega arith, omega arith, omega arith)

-- The bytes that count -------------------------------------------------------------------------

-- two lists of bytes agree below a number
abbrev Agree : ℕ → List ℕ → List ℕ → Type 0
Agree n xs ys = (k : ℕ) → k < n → get_or ys k 0 ≡ get_or xs k 0

agree : (n : ℕ) (xs ys : List ℕ) → take n ys ≡ take n xs → Agree n xs ys
agree n xs ys e k h =
    sym (get_or-take n ys k 0 h) ∙ (ap (λ (l : List ℕ). get_or l k 0) e ∙ get_or-take n xs k 0 h)

fits-agree :
    (ps : List BytePattern) (n : ℕ) (xs ys : List ℕ) → take n ys ≡ take n xs → length ps ≤ n
    → fits ps xs ≡ true → fits ps ys ≡ true
fits-agree [] n xs ys e l h = refl
fits-agree (p ∷ ps) zero xs ys e l h = absurd (omega arith)
fits-agree (p ∷ ps) (suc n) [] ys e l h = cc
fits-agree (p ∷ ps) (suc n) (x ∷ xs) [] e l h = cc
fits-agree (p ∷ ps) (suc n) (x ∷ xs) (y ∷ ys) e l h =
    let same : y ≡ x = cc in
    and_both _ _ (rw same (and_left _ _ h)) (fits-agree ps n xs ys (cc) (omega arith) (and_right _ _ h))

abbrev read_by : Bool → Bool → List ℕ → ℕ → ℕ
read_by a b bytes i = if a then sign_extension_of (byte_at bytes i) else if b then word_at bytes i else 0

word_at-agree : (n i : ℕ) (xs ys : List ℕ) → Agree n xs ys → i + 2 ≤ n → word_at ys i ≡ word_at xs i
unfolding word_at
word_at-agree n i xs ys h l =
    let low = h i (omega arith) in
    let high = h (i + 1) (omega arith) in
    cc

read_by-agree :
    (a b : Bool) (n i : ℕ) (xs ys : List ℕ) → Agree n xs ys
    → i + (if a then 1 else if b then 2 else 0) ≤ n → read_by a b ys i ≡ read_by a b xs i
read_by-agree true b n i xs ys h l = ap sign_extension_of (h i (omega arith))
read_by-agree false true n i xs ys h l = word_at-agree n i xs ys h l
read_by-agree false false n i xs ys h l = refl

displacement_at-agree :
    (modrm n i : ℕ) (xs ys : List ℕ) → Agree n xs ys → i + displacement_size modrm ≤ n
    → displacement_at modrm ys i ≡ displacement_at modrm xs i
displacement_at-agree modrm n i xs ys h l = read_by-agree _ _ n i xs ys h l

constant_at-agree :
    (form : ConstantForm) (n i : ℕ) (xs ys : List ℕ) → Agree n xs ys → i + constant_size form ≤ n
    → constant_at form ys i ≡ constant_at form xs i
constant_at-agree no_constant n i xs ys h l = refl
constant_at-agree byte_constant n i xs ys h l = h i (omega arith)
constant_at-agree word_constant n i xs ys h l = word_at-agree n i xs ys h l
constant_at-agree signed_constant n i xs ys h l = ap sign_extension_of (h i (omega arith))

instruction-made :
    (o o' : Op) (n n' : ℕ) → o ≡ o' → n ≡ n'
    → ◌≡◌ {A = Instr} (record { op = o'; len = n' }) (record { op = o; len = n })
instruction-made o o' n n' p q = cc

instruction-parts : (i j : Instr) → i.op ≡ j.op → i.len ≡ j.len → j ≡ i
instruction-parts i j p q = instruction-made i.op j.op i.len j.len p q

parts-same :
    (f : ℕ → ℕ → ℕ → ℕ → ℕ → Parts) {a a' b b' c c' d d' e e' : ℕ} → a ≡ a' → b ≡ b' → c ≡ c'
    → d ≡ d' → e ≡ e' → f a b c d e ≡ f a' b' c' d' e'
parts-same f p q r s t = cc

instruction-same :
    (f : Parts → Op) {p q : Parts} {m n : ℕ} → p ≡ q → m ≡ n
    → ◌≡◌ {A = Instr} (record { op = f p; len = m }) (record { op = f q; len = n })
instruction-same f e h = cc

length-same_take : (n : ℕ) (xs ys : List ℕ) → take n ys ≡ take n xs → n ≤ length xs → n ≤ length ys
length-same_take n xs ys e h =
    let l = length-take n ys in let k = length-take n xs in let same = ap length e in omega arith

-- what the row that matches some bytes says of others that begin alike
module _ (cpu : Cpu) (row : Row) (xs ys : List ℕ) (is_row : IsRow cpu row) (e : take (row_length row xs) ys ≡ take (row_length row xs) xs) where
  same_bytes : Agree (row_length row xs) xs ys
  same_bytes = agree (row_length row xs) xs ys e

  pattern_length : length row.pattern ≤ row_length row xs
  pattern_length = omega arith

  same_opcode : byte_at ys 0 ≡ byte_at xs 0
  same_opcode = same_bytes 0 (row_length-bounds row xs (sized-row cpu row is_row)).0

  same_modrm : row.has_modrm ≡ true → byte_at ys 1 ≡ byte_at xs 1
  same_modrm h =
      let s = sized-row cpu row is_row in
      let two : length row.pattern ≡ 2 = grind (arith, nat_tests) in
      same_bytes 1 (omega arith)

  same_displacement_size : row_displacement_size row ys ≡ row_displacement_size row xs
  same_displacement_size =
      let P : Bool → Type 0 = λ b. row.has_modrm ≡ b → (if b then displacement_size (byte_at ys 1) else 0) ≡ (if b then displacement_size (byte_at xs 1) else 0) in
      let cases : (b : Bool) → P b = λ b. elim b as P [ true ↦ λ h. ap displacement_size (same_modrm h) | false ↦ λ h. refl ] in
      cases row.has_modrm refl

  same_row_length : row_length row ys ≡ row_length row xs
  same_row_length = rw same_displacement_size

  same_modrm_part : (if row.has_modrm then byte_at ys 1 else 0) ≡ (if row.has_modrm then byte_at xs 1 else 0)
  same_modrm_part =
      let P : Bool → Type 0 = λ b. row.has_modrm ≡ b → (if b then byte_at ys 1 else 0) ≡ (if b then byte_at xs 1 else 0) in
      let cases : (b : Bool) → P b = λ b. elim b as P [ true ↦ λ h. same_modrm h | false ↦ λ h. refl ] in
      cases row.has_modrm refl

  same_displacement :
      (if row.has_modrm then displacement_at (byte_at ys 1) ys (length row.pattern) else 0) ≡ (if row.has_modrm then displacement_at (byte_at xs 1) xs (length row.pattern) else 0)
  same_displacement =
      let P : Bool → Type 0 = λ b. row.has_modrm ≡ b → (if b then displacement_at (byte_at ys 1) ys (length row.pattern) else 0) ≡ (if b then displacement_at (byte_at xs 1) xs (length row.pattern) else 0) in
      let with_modrm : row.has_modrm ≡ true → displacement_at (byte_at ys 1) ys (length row.pattern) ≡ displacement_at (byte_at xs 1) xs (length row.pattern) = λ h.
      let size : row_displacement_size row xs ≡ displacement_size (byte_at xs 1) = rw h in
      ap (λ (m : ℕ). displacement_at m ys (length row.pattern)) (same_modrm h)
      ∙ displacement_at-agree (byte_at xs 1) (row_length row xs) (length row.pattern) xs ys same_bytes (omega arith) in
      let cases : (b : Bool) → P b = λ b. elim b as P [ true ↦ λ h. with_modrm h | false ↦ λ h. refl ] in
      cases row.has_modrm refl

  same_constant :
      constant_at row.constant_form ys (constant_index row.constant_place (head_length row ys))
      ≡ constant_at row.constant_form xs (constant_index row.constant_place (head_length row xs))
  same_constant =
      rw same_displacement_size
      (constant_at-agree row.constant_form (row_length row xs) (constant_index row.constant_place (head_length row xs)) xs ys same_bytes
      (constant-within row.constant_place row.constant_form (length row.pattern) (row_displacement_size row xs) (placed-row cpu row is_row)))

  same_parts : (offset : ℕ) → row_parts row offset ys ≡ row_parts row offset xs
  same_parts offset =
      let parts : ℕ → ℕ → ℕ → ℕ → ℕ → Parts = λ o m d c n. record { opcode = o; modrm = m; displacement = d; constant = c; next = offset + n } in
      parts-same parts same_opcode same_modrm_part same_displacement same_constant same_row_length

  same_matches : matches row xs ≡ true → matches row ys ≡ true
  same_matches m =
      and_both _ _
      (fits-agree row.pattern (row_length row xs) xs ys e pattern_length (and_left _ _ m))
      (rw same_row_length
      (has_bytes-of_le (row_length row xs) ys
      (length-same_take (row_length row xs) xs ys e (has_bytes-le (row_length row xs) xs (and_right (fits row.pattern xs) _ m)))))

-- an instruction depends on its own bytes alone
pub instruction-prefix : InstructionDependsOnItsBytes
instruction-prefix cpu offset xs ys instr e t =
    let r = instruction-row cpu offset xs instr e in
    let len : row_length r.0 xs ≡ instr.len = ap (λ (i : Instr). i.len) r.3 in
    let t' : take (row_length r.0 xs) ys ≡ take (row_length r.0 xs) xs = rw len t in
    let there = instruction-of_row cpu offset ys r.0 r.1 (same_matches cpu r.0 xs ys r.1 t' r.2) in
    let same : row_instruction r.0 offset ys ≡ row_instruction r.0 offset xs =
    instruction-same (r.0).operation (same_parts cpu r.0 xs ys r.1 t' offset) (same_row_length cpu r.0 xs ys r.1 t') in
    there ∙ ap Some (same ∙ r.3)

-- Both processors -------------------------------------------------------------------------------

find-front :
    (test : Row → Bool) (rows more : List Row) (row : Row) → find test rows ≡ Some row → find test (rows ++ more) ≡ Some row
find-front test [] more row e = cc
find-front test (r ∷ rows) more row e =
    let P : Bool → Type 0 = λ b. cond b (Some r) (find test rows) ≡ Some row → cond b (Some r) (find test (rows ++ more)) ≡ Some row in
    let cases : (b : Bool) → P b = λ b. elim b as P [ true ↦ λ h. h | false ↦ λ h. find-front test rows more row h ] in
    cases (test r) e

-- the rows of the 8086 stand first among those of the 80186
pub both_tables : table I186 ≡ table I8086 ++ later_rows
unfolding table
both_tables = refl

-- the 80186 has each instruction of the 8086
pub later_processor : LaterProcessorHasEachInstruction
unfolding instruction_at
later_processor offset bytes instr e =
    let test : Row → Bool = λ row. matches row bytes in
    let make : Row → Instr = λ row. row_instruction row offset bytes in
    let P : Option Row → Type 0 = λ o. find test (table I8086) ≡ o → option_map make o ≡ Some instr
    → option_map make (find test (table I186)) ≡ Some instr in
    let cases : (o : Option Row) → P o = λ o. elim o as P [
      | None ↦ λ f h. cc
      | Some row ↦ λ f h.
          let found : find test (table I186) ≡ Some row =
          ap (find test) both_tables ∙ find-front test (table I8086) later_rows row f in
          ap (option_map make) found ∙ h
    ] in
    cases (find test (table I8086)) refl e

-- One row -------------------------------------------------------------------------------------

no_other :
    (row : Row) (bytes : List ℕ) (rows : List Row) → matches row bytes ≡ true
    → list_all (λ other. patterns_apart row.pattern other.pattern) rows ≡ true
    → filter (λ r. matches r bytes) rows ≡ []
no_other row bytes [] m apart = refl
no_other row bytes (r ∷ rows) m apart =
    let P : Bool → Type 0 = λ b. matches r bytes ≡ b → matches r bytes ≡ false in
    let cases : (b : Bool) → P b = λ b. elim b as P [
      | true ↦ λ t. let f = fits-apart row.pattern r.pattern bytes (and_left _ _ m) (and_left _ _ t) in let g : patterns_apart row.pattern r.pattern ≡ true = and_left _ _ apart in cc
      | false ↦ λ t. t
    ] in
    rw (cases (matches r bytes) refl) (no_other row bytes rows m (and_right _ _ apart))

at_most_one :
    (bytes : List ℕ) (rows : List Row) → rows_apart rows ≡ true
    → length (filter (λ r. matches r bytes) rows) ≤ 1
at_most_one bytes [] apart = omega arith
at_most_one bytes (r ∷ rows) apart =
    let P : Bool → Type 0 = λ b. matches r bytes ≡ b → length (cond b (r ∷ filter (λ s. matches s bytes) rows) (filter (λ s. matches s bytes) rows)) ≤ 1 in
    let cases : (b : Bool) → P b = λ b. elim b as P [
      | true ↦ λ t. rw (no_other r bytes rows t (and_left _ _ apart)) (omega arith)
      | false ↦ λ t. at_most_one bytes rows (and_right _ _ apart)
    ] in
    cases (matches r bytes) refl

-- at most one row of the table matches any bytes
pub at_most_one_row_matches : AtMostOneRowMatches
at_most_one_row_matches cpu bytes = at_most_one bytes (table cpu) (rows_apart-table cpu)

-- some bytes are an instruction exactly where a row matches them, and then it is that row's
pub instruction_is_that_of_its_row : InstructionIsThatOfItsRow
instruction_is_that_of_its_row cpu offset bytes instr = (
  λ e. let r = instruction-row cpu offset bytes instr e in
      (r.0, r.1, r.2, ap (λ (i : Instr). i.op) (sym r.3), ap (λ (i : Instr). i.len) (sym r.3)),
  λ r. instruction-of_row cpu offset bytes r.0 r.1 r.2 ∙ ap Some (instruction-parts instr (row_instruction r.0 offset bytes) r.3 r.4),
)

-- The rows that a form of bytes leaves ----------------------------------------------------------

-- the rows that bytes of a form may fit
abbrev pub rows_within : List BytePattern → List Row → List Row
rows_within form rows = filter (λ row. not (patterns_apart form row.pattern)) rows

apart_no_fit :
    (form : List BytePattern) (row : Row) (bytes : List ℕ) → fits form bytes ≡ true
    → patterns_apart form row.pattern ≡ true → fits row.pattern bytes ≡ false
apart_no_fit form row bytes h apart =
    let P : Bool → Type 0 = λ b. fits row.pattern bytes ≡ b → fits row.pattern bytes ≡ false in
    let cases : (b : Bool) → P b = λ b. elim b as P [
      | true ↦ λ t. let f = fits-apart form row.pattern bytes h t in cc
      | false ↦ λ t. t
    ] in
    cases (fits row.pattern bytes) refl

-- where bytes have a form, only the rows that bytes of the form may fit count
pub find-within :
    (form : List BytePattern) (bytes : List ℕ) (rows : List Row) → fits form bytes ≡ true
    → find (λ row. fits row.pattern bytes) rows ≡ find (λ row. fits row.pattern bytes) (rows_within form rows)
find-within form bytes [] h = refl
find-within form bytes (row ∷ rows) h =
    let rest = find-within form bytes rows h in
    let test : Row → Bool = λ r. fits r.pattern bytes in
    let P : Bool → Type 0 = λ b. patterns_apart form row.pattern ≡ b → cond (test row) (Some row) (find test rows) ≡ find test (cond (not b) (row ∷ rows_within form rows) (rows_within form rows)) in
    let cases : (b : Bool) → P b = λ b. elim b as P [
      | true ↦ λ t. rw (apart_no_fit form row bytes h t) rest
      | false ↦ λ t. ap (λ (o : Option Row). cond (test row) (Some row) o) rest
    ] in
    cases (patterns_apart form row.pattern) refl
