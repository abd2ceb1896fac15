-- Each encoding of an operation is among its drafts: row by row of the table of encodings.
use Rattle.std.proofs.Common.{◌≡◌, ℕ, zero, suc, ◌+◌, ◌-◌, ◌*◌, ◌/◌, ◌%◌, ◌<◌, ◌≤◌, Bool, true, false, not, ◌&&◌, ◌||◌, ◌==◌, if◌then◌else◌, List, [], ◌∷◌, ◌++◌, length, map, slice_index_or, slice_get, Some, None, Option, All, Contains, refl, sym, ap, ◌∙◌, subst, inl, inr, arith}
use Rattle.std.specs.List.{list_all, list_any, range_with_len, AllByRecursion}
use Rattle.std.proofs.lemmas.Bool.{cases_lt}
use Rattle.std.proofs.lemmas.Bool.Decides.{nat_tests}
use Rattle.std.proofs.lemmas.Map.Views.{Contains-from_any}
use Rattle.dcc_num.specs.declared.Reg.{Reg}
use Rattle.dcc_num.specs.declared.Reg.TheVariants.{Bx, Si, Di}
use Rattle.dcc_num.specs.declared.Width.{Width}
use Rattle.dcc_num.specs.declared.Width.TheVariants.{Byte as byte_width, Word as word_width}
use Rattle.dcc_num.specs.Numbers.{sign_extension_of}
use Rattle.dcc_machine.specs.declared.cpu.Cpu.{Cpu}
use Rattle.dcc_machine.specs.declared.cpu.Cpu.TheVariants.{I8086, I186}
use Rattle.dcc_machine.specs.declared.instr.Alu.TheVariants.{Test}
use Rattle.dcc_machine.specs.declared.instr.Unary.TheVariants.{Inc, Dec}
use Rattle.dcc_machine.specs.declared.instr.Operand.{Operand}
use Rattle.dcc_machine.specs.declared.instr.Operand.TheVariants.{Mem}
use Rattle.dcc_machine.specs.declared.instr.Plain.TheVariants.{Nop, Cbw, Cwd, Xlat, Clc, Stc, Cmc, Cli, Sti, Cld}
use Rattle.dcc_machine.specs.declared.instr.Op.{Op}
use Rattle.dcc_machine.specs.declared.instr.Op.TheVariants.{Alu as AluOp, Unary as UnaryOp, Mov, Xchg, Push, Pop, Enter, Leave, Plain as PlainOp, Jump, Loop, LoopE, LoopNe, Jcxz, Table, Call, Ret, Int21}
use Rattle.dcc_machine.specs.declared.instr.Instr.{Instr}
use Rattle.dcc_machine.specs.Bytes.{byte_at, word_at}
use Rattle.dcc_machine.specs.Operands.{mod_field, reg_field, displacement_size, has_direct_address, register, width_of, rm_operand, address}
use Rattle.dcc_machine.specs.Table.{Range, BytePattern, ConstantForm, no_constant, byte_constant, word_constant, signed_constant, Parts, Row, in_range, fits_byte, fits, constant_size, constant_at, row_length, row_parts, table, rm8, rm16, rm, reg, segment, r8, r16, al, ax, accumulator, imm8, imm16, imm, direct, target, destination, source, alu_by_opcode, alu_by_reg, shift, constant_shift, triple_product, unary_by_reg, load_address, condition_of, signed_condition_of, branch, between, bytes_between, any_byte, this_byte, each_eight, any_modrm, any_operand, memory_operand, register_operand, register_below_sp, register_above_sp, row, modrm_row, fixed_row, closed_row, arithmetic_rows, unary_rows, stack_rows, move_rows, control_rows, plain_rows, later_rows}
use Rattle.dcc_machine.proofs.TableLaws.{and_left, and_right, instruction-row}
use Rattle.dcc_machine.proofs.ResultBounds.{sign_extension-below, sign_extension-low}
use Rattle.dcc_encode.specs.declared.shape.Head.{Head}
use Rattle.dcc_encode.specs.declared.shape.Head.TheVariants.{Opcode, TwoBytes, ThreeBytes}
use Rattle.dcc_encode.specs.declared.shape.Shape.{Shape}
use Rattle.dcc_encode.specs.Laws.{EncodingsAreDrafts}
use Rattle.dcc_encode.specs.Shapes.{table_modrm, operand_displacement, displacement_of_two, displacement_in, moved_constant, constant_in, distance, shapes, size_of, low_bytes, draft, drafts, shape_length}

-- Shapes ------------------------------------------------------------------------------------

abbrev same_head : Head → Head → Bool
same_head (Opcode a) (Opcode b) = a == b
same_head (TwoBytes a b) (TwoBytes c d) = (a == c) && (b == d)
same_head a b = false

abbrev same_width : Option Width → Option Width → Bool
same_width None None = true
same_width (Some byte_width) (Some byte_width) = true
same_width (Some word_width) (Some word_width) = true
same_width a b = false

-- whether two shapes are one and no table jump's
abbrev same_shape : Shape → Shape → Bool
same_shape a b = same_head a.head b.head && (same_width a.displacement b.displacement && same_width a.constant b.constant)

tested_equal : (a b : ℕ) → a == b ≡ true → a ≡ b
tested_equal a b h = grind (arith, nat_tests)

two_bytes : {a b c d : ℕ} → a ≡ c → b ≡ d → TwoBytes a b ≡ TwoBytes c d
two_bytes p q = cc

same_head-eq : (a b : Head) → same_head a b ≡ true → a ≡ b
same_head-eq (Opcode a) (Opcode b) h = ap (λ n. Opcode n) (tested_equal a b h)
same_head-eq (Opcode a) (TwoBytes b c) h = cc
same_head-eq (Opcode a) (ThreeBytes b c d) h = cc
same_head-eq (TwoBytes a b) (Opcode c) h = cc
same_head-eq (TwoBytes a b) (TwoBytes c d) h =
    two_bytes (tested_equal a c (and_left (a == c) (b == d) h)) (tested_equal b d (and_right (a == c) (b == d) h))
same_head-eq (TwoBytes a b) (ThreeBytes c d e) h = cc
same_head-eq (ThreeBytes a b c) (Opcode d) h = cc
same_head-eq (ThreeBytes a b c) (TwoBytes d e) h = cc
same_head-eq (ThreeBytes a b c) (ThreeBytes d e f) h = cc

same_width-eq : (a b : Option Width) → same_width a b ≡ true → a ≡ b
same_width-eq None None h = refl
same_width-eq None (Some b) h = cc
same_width-eq (Some byte_width) None h = cc
same_width-eq (Some word_width) None h = cc
same_width-eq (Some byte_width) (Some byte_width) h = refl
same_width-eq (Some byte_width) (Some word_width) h = cc
same_width-eq (Some word_width) (Some byte_width) h = cc
same_width-eq (Some word_width) (Some word_width) h = refl

shape_made : {a b : Head} {c d e f : Option Width} → a ≡ b → c ≡ d → e ≡ f
    → ◌≡◌ {A = Shape} (record { head = a; displacement = c; constant = e }) (record { head = b; displacement = d; constant = f })
shape_made p q r = cc

same_shape-eq : (a b : Shape) → same_shape a b ≡ true → a ≡ b
same_shape-eq a b h =
    let rest = and_right (same_head a.head b.head) (same_width a.displacement b.displacement && same_width a.constant b.constant) h in
    shape_made (same_head-eq a.head b.head (and_left (same_head a.head b.head) _ h))
    (same_width-eq a.displacement b.displacement (and_left (same_width a.displacement b.displacement) _ rest))
    (same_width-eq a.constant b.constant (and_right (same_width a.displacement b.displacement) _ rest))

index-map : {X Y : Type 0} (f : X → Y) (xs : List X) (k : ℕ) (d : X) → slice_index_or (map f xs) k (f d) ≡ f (slice_index_or xs k d)
index-map f [] k d = refl
index-map f (x ∷ xs) zero d = refl
index-map f (x ∷ xs) (suc k) d = index-map f xs k d

length-mapped : {X Y : Type 0} (f : X → Y) (xs : List X) → length (map f xs) ≡ length xs
length-mapped f [] = refl
length-mapped f (x ∷ xs) = ap suc (length-mapped f xs)

contains-map : {X Y : Type 0} (f : X → Y) (xs : List X) (x : X) → Contains xs x → Contains (map f xs) (f x)
contains-map f xs x h = (h.0, rw (length-mapped f xs) h.1, index-map f xs h.0 x ∙ ap f h.2)

-- The bytes of an instruction -----------------------------------------------------------------

abbrev AreBytes : List ℕ → Type 0
AreBytes bytes = All (λ byte. byte < 256) bytes

after_first : (x : ℕ) (xs : List ℕ) → AreBytes (x ∷ xs) → AreBytes xs
after_first x xs are = λ k d h. are (suc k) d (omega arith)

abbrev constant_width : ConstantForm → Option Width
constant_width no_constant = None
constant_width byte_constant = Some byte_width
constant_width word_constant = Some word_width
constant_width signed_constant = Some byte_width

constant_width-size : (form : ConstantForm) → size_of (constant_width form) ≡ constant_size form
constant_width-size no_constant = refl
constant_width-size byte_constant = refl
constant_width-size word_constant = refl
constant_width-size signed_constant = refl

cons_same : {a b : ℕ} {xs ys : List ℕ} → a ≡ b → xs ≡ ys → a ∷ xs ≡ b ∷ ys
cons_same p q = cc

low_same : (x y : ℕ) → x < 256 → (x + 256 * y) % 256 ≡ x
low_same x y h = omega arith

high_same : (x y : ℕ) → x < 256 → y < 256 → (x + 256 * y) / 256 % 256 ≡ y
high_same x y h k = omega arith

-- the constant stands in its bytes
tail : (form : ConstantForm) (xs : List ℕ) → AreBytes xs → length xs ≡ constant_size form
    → low_bytes (constant_width form) (constant_at form xs 0) ≡ xs
unfolding word_at
tail no_constant [] are l = refl
tail no_constant (x ∷ xs) are l = absurd (omega arith)
tail byte_constant [] are l = absurd (omega arith)
tail byte_constant (x ∷ []) are l = let small : x < 256 = are 0 0 (omega arith) in let e : x % 256 ≡ x = omega arith in cons_same e refl
tail byte_constant (x ∷ y ∷ xs) are l = absurd (omega arith)
tail word_constant [] are l = absurd (omega arith)
tail word_constant (x ∷ []) are l = absurd (omega arith)
tail word_constant (x ∷ y ∷ []) are l =
    let low : x < 256 = are 0 0 (omega arith) in
    let high : y < 256 = are 1 0 (omega arith) in
    cons_same (low_same x y low) (cons_same (high_same x y low high) refl)
tail word_constant (x ∷ y ∷ z ∷ xs) are l = absurd (omega arith)
tail signed_constant [] are l = absurd (omega arith)
tail signed_constant (x ∷ []) are l = let small : x < 256 = are 0 0 (omega arith) in cons_same (sign_extension-low x small) refl
tail signed_constant (x ∷ y ∷ xs) are l = absurd (omega arith)

at_one : (form : ConstantForm) (a : ℕ) (xs : List ℕ) → constant_at form (a ∷ xs) 1 ≡ constant_at form xs 0
unfolding word_at
at_one no_constant a xs = refl
at_one byte_constant a xs = refl
at_one word_constant a xs = refl
at_one signed_constant a xs = refl

at_two : (form : ConstantForm) (a b : ℕ) (xs : List ℕ) → constant_at form (a ∷ b ∷ xs) 2 ≡ constant_at form xs 0
unfolding word_at
at_two no_constant a b xs = refl
at_two byte_constant a b xs = refl
at_two word_constant a b xs = refl
at_two signed_constant a b xs = refl

at_three : (form : ConstantForm) (a b c : ℕ) (xs : List ℕ) → constant_at form (a ∷ b ∷ c ∷ xs) 3 ≡ constant_at form xs 0
unfolding word_at
at_three no_constant a b c xs = refl
at_three byte_constant a b c xs = refl
at_three word_constant a b c xs = refl
at_three signed_constant a b c xs = refl

at_four : (form : ConstantForm) (a b c d : ℕ) (xs : List ℕ) → constant_at form (a ∷ b ∷ c ∷ d ∷ xs) 4 ≡ constant_at form xs 0
unfolding word_at
at_four no_constant a b c d xs = refl
at_four byte_constant a b c d xs = refl
at_four word_constant a b c d xs = refl
at_four signed_constant a b c d xs = refl

-- a displacement by two tests: of one byte, and of two
abbrev width_by : Bool → Bool → Option Width
width_by one two = if one then Some byte_width else if two then Some word_width else None

abbrev size_by : Bool → Bool → ℕ
size_by one two = if one then 1 else if two then 2 else 0

abbrev read_by : Bool → Bool → List ℕ → ℕ → ℕ
read_by one two bytes i = if one then sign_extension_of (byte_at bytes i) else if two then word_at bytes i else 0

width_by-size : (one two : Bool) → size_of (width_by one two) ≡ size_by one two
width_by-size true two = refl
width_by-size false true = refl
width_by-size false false = refl

-- displacement and constant stand one after another behind the first two bytes
rest_by : (one two : Bool) (form : ConstantForm) (o m : ℕ) (xs : List ℕ) → AreBytes xs
    → length xs ≡ size_by one two + constant_size form
    → low_bytes (width_by one two) (read_by one two (o ∷ m ∷ xs) 2)
    ++ low_bytes (constant_width form) (constant_at form (o ∷ m ∷ xs) (2 + size_by one two)) ≡ xs
unfolding word_at
rest_by true two form o m [] are l = absurd (omega arith)
rest_by true two form o m (x ∷ xs) are l =
    let small : x < 256 = are 0 0 (omega arith) in
    let rest : length xs ≡ constant_size form = omega arith in
    cons_same (sign_extension-low x small) (ap (low_bytes (constant_width form)) (at_three form o m x xs) ∙ tail form xs (after_first x xs are) rest)
rest_by false true form o m [] are l = absurd (omega arith)
rest_by false true form o m (x ∷ []) are l = absurd (omega arith)
rest_by false true form o m (x ∷ y ∷ xs) are l =
    let low : x < 256 = are 0 0 (omega arith) in
    let high : y < 256 = are 1 0 (omega arith) in
    let rest : length xs ≡ constant_size form = omega arith in
    cons_same (low_same x y low) (cons_same (high_same x y low high)
    (ap (low_bytes (constant_width form)) (at_four form o m x y xs)
    ∙ tail form xs (after_first y xs (after_first x (y ∷ xs) are)) rest))
rest_by false false form o m xs are l =
    let rest : length xs ≡ constant_size form = omega arith in
    ap (low_bytes (constant_width form)) (at_two form o m xs) ∙ tail form xs are rest

byte_below : (bytes : List ℕ) (i : ℕ) → AreBytes bytes → byte_at bytes i < 256
byte_below [] i are = omega arith
byte_below (x ∷ xs) zero are = are 0 0 (omega arith)
byte_below (x ∷ xs) (suc i) are = byte_below xs i (after_first x xs are)

constant_below : (form : ConstantForm) (bytes : List ℕ) (i : ℕ) → AreBytes bytes → constant_at form bytes i < 65536
unfolding word_at
constant_below no_constant bytes i are = omega arith
constant_below byte_constant bytes i are = let low = byte_below bytes i are in omega arith
constant_below word_constant bytes i are =
    let low = byte_below bytes i are in
    let high = byte_below bytes (i + 1) are in
    omega arith
constant_below signed_constant bytes i are = sign_extension-below (byte_at bytes i)

-- Rows --------------------------------------------------------------------------------------

-- each instruction of the row is among the drafts of its operation
abbrev RowCovers : Row → Type 0
RowCovers row =
    (at : ℕ) (bytes : List ℕ) → fits row.pattern bytes ≡ true → row_length row bytes ≡ length bytes → AreBytes bytes
    → Contains (drafts (row.operation (row_parts row at bytes)) at) bytes

abbrev opcode_row_shape : ConstantForm → ℕ → Shape
opcode_row_shape form o = record { head = Opcode o; displacement = None; constant = constant_width form }

abbrev displacement_width : ℕ → Option Width
displacement_width m = width_by (mod_field m == 1) ((mod_field m == 2) || has_direct_address m)

abbrev modrm_row_shape : ConstantForm → ℕ → ℕ → Shape
modrm_row_shape form o m = record { head = TwoBytes o m; displacement = displacement_width m; constant = constant_width form }

abbrev parts : ℕ → ℕ → ℕ → ℕ → ℕ → Parts
parts o m d c n = record { opcode = o; modrm = m; displacement = d; constant = c; next = n }

abbrev bytes_in : Range → List ℕ
bytes_in range = range_with_len range.first (range.last + 1 - range.first)

-- the shape of the row's instruction is among those of its operation
abbrev has_opcode_shape : ConstantForm → (Parts → Op) → ℕ → ℕ → ℕ → Bool
has_opcode_shape form operation c n o = list_any (same_shape (opcode_row_shape form o)) (shapes (operation (parts o 0 0 c n)))

abbrev opcode_told : BytePattern → ConstantForm → (Parts → Op) → ℕ → ℕ → Bool
opcode_told opcode form operation c n =
    list_all (λ o. not (fits_byte opcode o) || has_opcode_shape form operation c n o) (bytes_in opcode.byte)

abbrev has_modrm_shape : ConstantForm → (Parts → Op) → ℕ → ℕ → ℕ → ℕ → ℕ → Bool
has_modrm_shape form operation d c n o m = list_any (same_shape (modrm_row_shape form o m)) (shapes (operation (parts o m d c n)))

abbrev modrm_told : BytePattern → BytePattern → ConstantForm → (Parts → Op) → ℕ → ℕ → ℕ → Bool
modrm_told opcode modrm form operation d c n =
    list_all (λ o. not (fits_byte opcode o)
    || list_all (λ m. not (fits_byte modrm m) || has_modrm_shape form operation d c n o m) (range_with_len 0 256))
    (bytes_in opcode.byte)

range-all : (test : ℕ → Bool) (n a k : ℕ) → list_all test (range_with_len a n) ≡ true → a ≤ k → k < a + n → test k ≡ true
range-all test zero a k h l u = absurd (omega arith)
range-all test (suc n) a k h l u =
    let later : a + 1 ≤ k → test k ≡ true = λ more. range-all test n (a + 1) k (and_right (test a) _ h) more (omega arith) in
    let first : k ≤ a → test k ≡ true = λ less. let same : a ≡ k = omega arith in subst (λ i. test i ≡ true) same (and_left (test a) _ h) in
    elim (cases_lt a k) [ inl more ↦ later (omega arith) | inr less ↦ first less ]

within_range : (range : Range) (n : ℕ) → in_range range n ≡ true → (range.first ≤ n) × (n ≤ range.last)
within_range range n h = (grind (arith, nat_tests), grind (arith, nat_tests))

byte_range : (pattern : BytePattern) (byte : ℕ) → fits_byte pattern byte ≡ true → in_range pattern.byte byte ≡ true
byte_range pattern byte h = and_left _ _ (and_left _ _ (and_left _ _ h))

implied : (a b : Bool) → not a || b ≡ true → a ≡ true → b ≡ true
implied true b h t = h
implied false b h t = cc

of_range : (pattern : BytePattern) (test : ℕ → Bool) (o : ℕ)
    → list_all (λ o. not (fits_byte pattern o) || test o) (bytes_in pattern.byte) ≡ true
    → fits_byte pattern o ≡ true → test o ≡ true
of_range pattern test o told fit =
    let bounds = within_range pattern.byte o (byte_range pattern o fit) in
    implied (fits_byte pattern o) (test o)
    (range-all (λ o. not (fits_byte pattern o) || test o) (pattern.byte.last + 1 - pattern.byte.first) pattern.byte.first o told bounds.0 (omega (arith, bounds.0, bounds.1)))
    fit

-- the forms with a constant
abbrev HasConstant : ConstantForm → Type 0
HasConstant no_constant = ⊥
HasConstant form = Unit {0}

constant_same : (form : ConstantForm) (a b : ℕ) → (HasConstant form → a ≡ b) → low_bytes (constant_width form) a ≡ low_bytes (constant_width form) b
constant_same no_constant a b h = refl
constant_same byte_constant a b h = ap (low_bytes (Some byte_width)) (h tt)
constant_same word_constant a b h = ap (low_bytes (Some word_width)) (h tt)
constant_same signed_constant a b h = ap (low_bytes (Some byte_width)) (h tt)

-- the constant is told by the operation
abbrev TellsConstant : ConstantForm → (Parts → Op) → Type 0
TellsConstant form operation = (p : Parts) → p.constant < 65536 → HasConstant form → constant_in (operation p) p.next ≡ p.constant

-- the displacement of a memory operand is told by the operation
abbrev TellsDisplacement : (Parts → Op) → Type 0
TellsDisplacement operation = (p : Parts) → (mod_field p.modrm == 3) ≡ false → displacement_in (operation p) ≡ p.displacement

drafted : (operation : Parts → Op) (p : Parts) (at : ℕ) (s : Shape) (bytes : List ℕ)
    → list_any (same_shape s) (shapes (operation p)) ≡ true → draft (operation p) at s ≡ bytes
    → Contains (drafts (operation p) at) bytes
drafted operation p at s bytes told same =
    let has = Contains-from_any same_shape-eq s (shapes (operation p)) told in
    subst (Contains (drafts (operation p) at)) same (contains-map (draft (operation p) at) (shapes (operation p)) s has)

opcode_covers : (opcode : BytePattern) (form : ConstantForm) (operation : Parts → Op)
    → ((c n : ℕ) → opcode_told opcode form operation c n ≡ true)
    → TellsConstant form operation
    → RowCovers (row opcode form operation)
opcode_covers opcode form operation told constant at [] fit l are = cc
opcode_covers opcode form operation told constant at (o ∷ xs) fit l are =
    let p : Parts = row_parts (row opcode form operation) at (o ∷ xs) in
    let size : length xs ≡ constant_size form = omega arith in
    let shape_is = of_range opcode (has_opcode_shape form operation p.constant p.next) o (told p.constant p.next) (and_left (fits_byte opcode o) true fit) in
    let next : at + shape_length (opcode_row_shape form o) ≡ p.next = omega (arith, constant_width-size form) in
    let value : HasConstant form → constant_in (operation p) (at + shape_length (opcode_row_shape form o)) ≡ p.constant = λ has.
    ap (constant_in (operation p)) next ∙ constant p (constant_below form (o ∷ xs) 1 are) has in
    let stands : low_bytes (constant_width form) p.constant ≡ xs = ap (low_bytes (constant_width form)) (at_one form o xs) ∙ tail form xs (after_first o xs are) size in
    drafted operation p at (opcode_row_shape form o) (o ∷ xs) shape_is
    (cons_same refl (constant_same form _ _ value ∙ stands))

displacement_same : (m a b : ℕ) → ((mod_field m == 3) ≡ false → a ≡ b) → low_bytes (displacement_width m) a ≡ low_bytes (displacement_width m) b
displacement_same m a b h =
    let P : Bool → Type 0 = λ t. (mod_field m == 3) ≡ t → low_bytes (displacement_width m) a ≡ low_bytes (displacement_width m) b in
    let cases : (t : Bool) → P t = λ t. elim t as P [
      | true ↦ λ e. let three : m / 64 ≡ 3 = tested_equal (m / 64) 3 e in rw three refl
      | false ↦ λ e. ap (low_bytes (displacement_width m)) (h e)
    ] in
    cases (mod_field m == 3) refl

modrm_covers : (opcode modrm : BytePattern) (form : ConstantForm) (operation : Parts → Op)
    → ((d c n : ℕ) → modrm_told opcode modrm form operation d c n ≡ true)
    → TellsDisplacement operation
    → TellsConstant form operation
    → RowCovers (modrm_row opcode modrm form operation)
modrm_covers opcode modrm form operation told displacement constant at [] fit l are = cc
modrm_covers opcode modrm form operation told displacement constant at (o ∷ []) fit l are =
    let no : false ≡ true = and_right (fits_byte opcode o) false fit in absurd (let f : ⊥ = cc in f)
modrm_covers opcode modrm form operation told displacement constant at (o ∷ m ∷ xs) fit l are =
    let p : Parts = row_parts (modrm_row opcode modrm form operation) at (o ∷ m ∷ xs) in
    let one : Bool = mod_field m == 1 in
    let two : Bool = (mod_field m == 2) || has_direct_address m in
    let size : length xs ≡ displacement_size m + constant_size form = omega arith in
    let small : m < 256 = are 1 0 (omega arith) in
    let fits_rest = and_right (fits_byte opcode o) (fits_byte modrm m && true) fit in
    let with_opcode = of_range opcode (λ o. list_all (λ m. not (fits_byte modrm m) || has_modrm_shape form operation p.displacement p.constant p.next o m) (range_with_len 0 256)) o
    (told p.displacement p.constant p.next) (and_left (fits_byte opcode o) _ fit) in
    let shape_is = implied (fits_byte modrm m) (has_modrm_shape form operation p.displacement p.constant p.next o m)
    (range-all (λ m. not (fits_byte modrm m) || has_modrm_shape form operation p.displacement p.constant p.next o m) 256 0 m with_opcode (omega arith) (omega arith))
    (and_left (fits_byte modrm m) true fits_rest) in
    let next : at + shape_length (modrm_row_shape form o m) ≡ p.next = omega (arith, constant_width-size form, width_by-size one two) in
    let value : HasConstant form → constant_in (operation p) (at + shape_length (modrm_row_shape form o m)) ≡ p.constant = λ has.
    ap (constant_in (operation p)) next ∙ constant p (constant_below form (o ∷ m ∷ xs) (2 + displacement_size m) are) has in
    let stands = rest_by one two form o m xs (after_first m xs (after_first o (m ∷ xs) are)) size in
    let front = displacement_same m (displacement_in (operation p)) p.displacement (displacement p) in
    let back = constant_same form (constant_in (operation p) (at + shape_length (modrm_row_shape form o m))) p.constant value in
    drafted operation p at (modrm_row_shape form o m) (o ∷ m ∷ xs) shape_is
    (cons_same refl (cons_same refl
    (ap (λ (l : List ℕ). l ++ low_bytes (constant_width form) (constant_in (operation p) (at + shape_length (modrm_row_shape form o m)))) front
    ∙ ap (λ (l : List ℕ). low_bytes (displacement_width m) p.displacement ++ l) back ∙ stands)))

-- Rows of given bytes -------------------------------------------------------------------------

this_byte-eq : (this b : ℕ) → fits_byte (this_byte this) b ≡ true → b ≡ this
this_byte-eq this b h =
    let bounds = within_range (between this this) b (byte_range (this_byte this) b h) in
    omega (arith, bounds.0, bounds.1)

interrupt_covers : RowCovers (fixed_row (0xcd ∷ 0x21 ∷ []) no_constant (λ p. Int21))
interrupt_covers at [] fit l are = cc
interrupt_covers at (a ∷ []) fit l are =
    let no : false ≡ true = and_right (fits_byte (this_byte 0xcd) a) false fit in absurd (let f : ⊥ = cc in f)
interrupt_covers at (a ∷ b ∷ []) fit l are =
    let first = this_byte-eq 0xcd a (and_left (fits_byte (this_byte 0xcd) a) _ fit) in
    let rest = and_right (fits_byte (this_byte 0xcd) a) (fits_byte (this_byte 0x21) b && true) fit in
    let second = this_byte-eq 0x21 b (and_left (fits_byte (this_byte 0x21) b) true rest) in
    (0, omega arith, cons_same (sym first) (cons_same (sym second) refl))
interrupt_covers at (a ∷ b ∷ c ∷ xs) fit l are = absurd (omega arith)

table_covers : (r : Reg) (third : ℕ) → table_modrm r ≡ third
    → RowCovers (fixed_row (0x2e ∷ 0xff ∷ third ∷ []) word_constant (λ p. Table r p.constant))
unfolding word_at
table_covers r third e at [] fit l are = cc
table_covers r third e at (a ∷ []) fit l are = absurd (omega arith)
table_covers r third e at (a ∷ b ∷ []) fit l are = absurd (omega arith)
table_covers r third e at (a ∷ b ∷ c ∷ []) fit l are = absurd (omega arith)
table_covers r third e at (a ∷ b ∷ c ∷ x ∷ []) fit l are = absurd (omega arith)
table_covers r third e at (a ∷ b ∷ c ∷ x ∷ y ∷ []) fit l are =
    let first = this_byte-eq 0x2e a (and_left (fits_byte (this_byte 0x2e) a) _ fit) in
    let behind = and_right (fits_byte (this_byte 0x2e) a) (fits_byte (this_byte 0xff) b && (fits_byte (this_byte third) c && true)) fit in
    let second = this_byte-eq 0xff b (and_left (fits_byte (this_byte 0xff) b) _ behind) in
    let last = and_right (fits_byte (this_byte 0xff) b) (fits_byte (this_byte third) c && true) behind in
    let modrm = this_byte-eq third c (and_left (fits_byte (this_byte third) c) true last) in
    let low : x < 256 = are 3 0 (omega arith) in
    let high : y < 256 = are 4 0 (omega arith) in (
      0,
      omega arith,
      cons_same (sym first) (cons_same (sym second) (cons_same (e ∙ sym modrm)
          (cons_same (low_same x y low) (cons_same (high_same x y low high) refl)))),
    )
table_covers r third e at (a ∷ b ∷ c ∷ x ∷ y ∷ z ∷ xs) fit l are = absurd (omega arith)

enter_covers : RowCovers (closed_row (this_byte 0xc8) (this_byte 0x00) (λ p. Enter p.constant))
unfolding word_at
enter_covers at [] fit l are = cc
enter_covers at (a ∷ []) fit l are = absurd (omega arith)
enter_covers at (a ∷ x ∷ []) fit l are = absurd (omega arith)
enter_covers at (a ∷ x ∷ y ∷ []) fit l are = absurd (omega arith)
enter_covers at (a ∷ x ∷ y ∷ z ∷ []) fit l are =
    let first = this_byte-eq 0xc8 a (and_left (fits_byte (this_byte 0xc8) a) _ fit) in
    let b1 = and_right (fits_byte (this_byte 0xc8) a) (fits_byte any_byte x && (fits_byte any_byte y && (fits_byte (this_byte 0x00) z && true))) fit in
    let b2 = and_right (fits_byte any_byte x) (fits_byte any_byte y && (fits_byte (this_byte 0x00) z && true)) b1 in
    let b3 = and_right (fits_byte any_byte y) (fits_byte (this_byte 0x00) z && true) b2 in
    let last = this_byte-eq 0x00 z (and_left (fits_byte (this_byte 0x00) z) true b3) in
    let low : x < 256 = are 1 0 (omega arith) in
    let high : y < 256 = are 2 0 (omega arith) in
    (0, omega arith, cons_same (sym first) (cons_same (low_same x y low) (cons_same (high_same x y low high) (cons_same (sym last) refl))))
enter_covers at (a ∷ x ∷ y ∷ z ∷ u ∷ xs) fit l are = absurd (omega arith)

-- What operations tell ------------------------------------------------------------------------

-- a jump's distance
back : (next constant : ℕ) → constant < 65536 → distance ((next + constant) % 65536) next ≡ constant
back next constant h = omega arith

rm_is : (width : Width) (m d : ℕ) → (mod_field m == 3) ≡ false → rm_operand width m d ≡ Mem width (address m d)
rm_is width m d h = rw h refl

rm_alone : (width : Width) (m d : ℕ) → (mod_field m == 3) ≡ false → operand_displacement (rm_operand width m d) ≡ d
rm_alone width m d h = ap operand_displacement (rm_is width m d h)

rm_first : (width : Width) (m d : ℕ) (b : Operand) → (mod_field m == 3) ≡ false → displacement_of_two (rm_operand width m d) b ≡ d
rm_first width m d b h = ap (λ a. displacement_of_two a b) (rm_is width m d h)

reg_first : (width : Width) (n : ℕ) (b : Operand) → displacement_of_two (register width n) b ≡ operand_displacement b
reg_first byte_width n b = refl
reg_first word_width n b = refl

reg_moved : (width : Width) (n : ℕ) (a : Operand) → moved_constant a (register width n) ≡ displacement_of_two a (register width n)
reg_moved byte_width n a = refl
reg_moved word_width n a = refl

two_displaced : (p : Parts) → (mod_field p.modrm == 3) ≡ false → displacement_of_two (destination p) (source p) ≡ p.displacement
two_displaced p h =
    let P : Bool → Type 0 = λ t. displacement_of_two (if t then reg p else rm p) (if t then rm p else reg p) ≡ p.displacement in
    let cases : (t : Bool) → P t = λ t. elim t as P [
      | true ↦ reg_first (width_of p.opcode) (reg_field p.modrm) (rm p) ∙ rm_alone (width_of p.opcode) p.modrm p.displacement h
      | false ↦ rm_first (width_of p.opcode) p.modrm p.displacement (reg p) h
    ] in
    cases (p.opcode / 2 % 2 == 1)

arithmetic_covered : AllByRecursion RowCovers arithmetic_rows
arithmetic_covered = (
  modrm_covers (each_eight 0 3) (any_modrm) no_constant (λ p. alu_by_opcode p (destination p) (source p)) (λ d c n. refl) two_displaced (λ p s h. absurd h),
  (
    opcode_covers (each_eight 4 4) byte_constant (λ p. alu_by_opcode p al (imm8 p)) (λ c n. refl) (λ p s h. refl),
    (
      opcode_covers (each_eight 5 5) word_constant (λ p. alu_by_opcode p ax (imm16 p)) (λ c n. refl) (λ p s h. refl),
      (
        modrm_covers (this_byte 0x80) (any_modrm) byte_constant (λ p. alu_by_reg p (rm8 p) (imm8 p)) (λ d c n. refl) (λ p h. rm_first byte_width p.modrm p.displacement (imm8 p) h) (λ p s h. refl),
        (
          modrm_covers (this_byte 0x81) (any_modrm) word_constant (λ p. alu_by_reg p (rm16 p) (imm16 p)) (λ d c n. refl) (λ p h. rm_first word_width p.modrm p.displacement (imm16 p) h) (λ p s h. refl),
          (
            modrm_covers (this_byte 0x83) (any_modrm) signed_constant (λ p. alu_by_reg p (rm16 p) (imm16 p)) (λ d c n. refl) (λ p h. rm_first word_width p.modrm p.displacement (imm16 p) h) (λ p s h. refl),
            (
              modrm_covers (bytes_between 0x84 0x85) (any_modrm) no_constant (λ p. AluOp Test (rm p) (reg p)) (λ d c n. refl) (λ p h. rm_first (width_of p.opcode) p.modrm p.displacement (reg p) h) (λ p s h. absurd h),
              (
                opcode_covers (this_byte 0xa8) byte_constant (λ p. AluOp Test (accumulator p) (imm p)) (λ c n. refl) (λ p s h. refl),
                (
                  opcode_covers (this_byte 0xa9) word_constant (λ p. AluOp Test (accumulator p) (imm p)) (λ c n. refl) (λ p s h. refl),
                  (
                    modrm_covers (this_byte 0xf6) (any_operand 0 0) byte_constant (λ p. AluOp Test (rm p) (imm p)) (λ d c n. refl) (λ p h. rm_first (width_of p.opcode) p.modrm p.displacement (imm p) h) (λ p s h. refl),
                    (
                      modrm_covers (this_byte 0xf7) (any_operand 0 0) word_constant (λ p. AluOp Test (rm p) (imm p)) (λ d c n. refl) (λ p h. rm_first (width_of p.opcode) p.modrm p.displacement (imm p) h) (λ p s h. refl),
                      tt,
                    ),
                  ),
                ),
              ),
            ),
          ),
        ),
      ),
    ),
  ),
)

unary_covered : AllByRecursion RowCovers unary_rows
unary_covered = (
  opcode_covers (bytes_between 0x40 0x47) no_constant (λ p. UnaryOp Inc (r16 p)) (λ c n. refl) (λ p s h. absurd h),
  (
    opcode_covers (bytes_between 0x48 0x4f) no_constant (λ p. UnaryOp Dec (r16 p)) (λ c n. refl) (λ p s h. absurd h),
    (
      modrm_covers (bytes_between 0xf6 0xf7) (any_operand 2 7) no_constant (λ p. unary_by_reg p (rm p)) (λ d c n. refl) (λ p h. rm_alone (width_of p.opcode) p.modrm p.displacement h) (λ p s h. absurd h),
      (
        modrm_covers (bytes_between 0xfe 0xff) (any_operand 0 0) no_constant (λ p. UnaryOp Inc (rm p)) (λ d c n. refl) (λ p h. rm_alone (width_of p.opcode) p.modrm p.displacement h) (λ p s h. absurd h),
        (
          modrm_covers (bytes_between 0xfe 0xff) (any_operand 1 1) no_constant (λ p. UnaryOp Dec (rm p)) (λ d c n. refl) (λ p h. rm_alone (width_of p.opcode) p.modrm p.displacement h) (λ p s h. absurd h),
          (
            modrm_covers (bytes_between 0xd0 0xd3) (any_operand 0 1) no_constant (λ p. shift p) (λ d c n. refl) (λ p h. rm_alone (width_of p.opcode) p.modrm p.displacement h) (λ p s h. absurd h),
            (
              modrm_covers (bytes_between 0xd0 0xd1) (any_operand 2 3) no_constant (λ p. shift p) (λ d c n. refl) (λ p h. rm_alone (width_of p.opcode) p.modrm p.displacement h) (λ p s h. absurd h),
              (
                modrm_covers (bytes_between 0xd0 0xd3) (any_operand 4 5) no_constant (λ p. shift p) (λ d c n. refl) (λ p h. rm_alone (width_of p.opcode) p.modrm p.displacement h) (λ p s h. absurd h),
                (
                  modrm_covers (bytes_between 0xd0 0xd3) (any_operand 7 7) no_constant (λ p. shift p) (λ d c n. refl) (λ p h. rm_alone (width_of p.opcode) p.modrm p.displacement h) (λ p s h. absurd h),
                  tt,
                ),
              ),
            ),
          ),
        ),
      ),
    ),
  ),
)

stack_covered : AllByRecursion RowCovers stack_rows
stack_covered = (
  opcode_covers (bytes_between 0x50 0x53) no_constant (λ p. Push (r16 p)) (λ c n. refl) (λ p s h. absurd h),
  (
    opcode_covers (bytes_between 0x55 0x57) no_constant (λ p. Push (r16 p)) (λ c n. refl) (λ p s h. absurd h),
    (
      opcode_covers (bytes_between 0x58 0x5b) no_constant (λ p. Pop (r16 p)) (λ c n. refl) (λ p s h. absurd h),
      (
        opcode_covers (bytes_between 0x5d 0x5f) no_constant (λ p. Pop (r16 p)) (λ c n. refl) (λ p s h. absurd h),
        (
          modrm_covers (this_byte 0xff) (memory_operand 6 6) no_constant (λ p. Push (rm16 p)) (λ d c n. refl) (λ p h. rm_alone word_width p.modrm p.displacement h) (λ p s h. absurd h),
          (
            modrm_covers (this_byte 0xff) (register_below_sp 6) no_constant (λ p. Push (rm16 p)) (λ d c n. refl) (λ p h. rm_alone word_width p.modrm p.displacement h) (λ p s h. absurd h),
            (
              modrm_covers (this_byte 0xff) (register_above_sp 6) no_constant (λ p. Push (rm16 p)) (λ d c n. refl) (λ p h. rm_alone word_width p.modrm p.displacement h) (λ p s h. absurd h),
              (
                modrm_covers (this_byte 0x8f) (memory_operand 0 0) no_constant (λ p. Pop (rm16 p)) (λ d c n. refl) (λ p h. rm_alone word_width p.modrm p.displacement h) (λ p s h. absurd h),
                (
                  modrm_covers (this_byte 0x8f) (register_below_sp 0) no_constant (λ p. Pop (rm16 p)) (λ d c n. refl) (λ p h. rm_alone word_width p.modrm p.displacement h) (λ p s h. absurd h),
                  (
                    modrm_covers (this_byte 0x8f) (register_above_sp 0) no_constant (λ p. Pop (rm16 p)) (λ d c n. refl) (λ p h. rm_alone word_width p.modrm p.displacement h) (λ p s h. absurd h),
                    tt,
                  ),
                ),
              ),
            ),
          ),
        ),
      ),
    ),
  ),
)

move_covered : AllByRecursion RowCovers move_rows
move_covered = (
  modrm_covers (bytes_between 0x86 0x87) (any_modrm) no_constant (λ p. Xchg (rm p) (reg p)) (λ d c n. refl) (λ p h. rm_first (width_of p.opcode) p.modrm p.displacement (reg p) h) (λ p s h. absurd h),
  (
    opcode_covers (bytes_between 0x91 0x97) no_constant (λ p. Xchg ax (r16 p)) (λ c n. refl) (λ p s h. absurd h),
    (
      modrm_covers (bytes_between 0x88 0x8b) (any_modrm) no_constant (λ p. Mov (destination p) (source p)) (λ d c n. refl) two_displaced (λ p s h. absurd h),
      (
        modrm_covers (this_byte 0x8c) (register_operand 0 3) no_constant (λ p. Mov (rm16 p) (segment p)) (λ d c n. refl) (λ p h. rm_first word_width p.modrm p.displacement (segment p) h) (λ p s h. absurd h),
        (
          modrm_covers (this_byte 0x8e) (register_operand 0 0) no_constant (λ p. Mov (segment p) (rm16 p)) (λ d c n. refl) (λ p h. rm_alone word_width p.modrm p.displacement h) (λ p s h. absurd h),
          (
            modrm_covers (this_byte 0x8e) (register_operand 2 3) no_constant (λ p. Mov (segment p) (rm16 p)) (λ d c n. refl) (λ p h. rm_alone word_width p.modrm p.displacement h) (λ p s h. absurd h),
            (
              modrm_covers (this_byte 0x8d) (memory_operand 0 7) no_constant (λ p. load_address p) (λ d c n. refl) (λ p h. refl) (λ p s h. absurd h),
              (
                opcode_covers (bytes_between 0xa0 0xa1) word_constant (λ p. Mov (accumulator p) (direct p)) (λ c n. refl) (λ p s h. reg_first (width_of p.opcode) 0 (direct p)),
                (
                  opcode_covers (bytes_between 0xa2 0xa3) word_constant (λ p. Mov (direct p) (accumulator p)) (λ c n. refl) (λ p s h. reg_moved (width_of p.opcode) 0 (direct p)),
                  (
                    opcode_covers (bytes_between 0xb0 0xb7) byte_constant (λ p. Mov (r8 p) (imm8 p)) (λ c n. refl) (λ p s h. refl),
                    (
                      opcode_covers (bytes_between 0xb8 0xbf) word_constant (λ p. Mov (r16 p) (imm16 p)) (λ c n. refl) (λ p s h. refl),
                      (
                        modrm_covers (this_byte 0xc6) (any_operand 0 0) byte_constant (λ p. Mov (rm p) (imm p)) (λ d c n. refl) (λ p h. rm_first (width_of p.opcode) p.modrm p.displacement (imm p) h) (λ p s h. refl),
                        (
                          modrm_covers (this_byte 0xc7) (any_operand 0 0) word_constant (λ p. Mov (rm p) (imm p)) (λ d c n. refl) (λ p h. rm_first (width_of p.opcode) p.modrm p.displacement (imm p) h) (λ p s h. refl),
                          tt,
                        ),
                      ),
                    ),
                  ),
                ),
              ),
            ),
          ),
        ),
      ),
    ),
  ),
)

control_covered : AllByRecursion RowCovers control_rows
control_covered = (
  opcode_covers (bytes_between 0x70 0x79) signed_constant (λ p. branch (condition_of (p.opcode - 0x70)) p) (λ c n. refl) (λ p s h. back p.next p.constant s),
  (
    opcode_covers (bytes_between 0x7c 0x7f) signed_constant (λ p. branch (signed_condition_of (p.opcode - 0x7c)) p) (λ c n. refl) (λ p s h. back p.next p.constant s),
    (
      opcode_covers (this_byte 0xe0) signed_constant (λ p. LoopNe (target p)) (λ c n. refl) (λ p s h. back p.next p.constant s),
      (
        opcode_covers (this_byte 0xe1) signed_constant (λ p. LoopE (target p)) (λ c n. refl) (λ p s h. back p.next p.constant s),
        (
          opcode_covers (this_byte 0xe2) signed_constant (λ p. Loop (target p)) (λ c n. refl) (λ p s h. back p.next p.constant s),
          (
            opcode_covers (this_byte 0xe3) signed_constant (λ p. Jcxz (target p)) (λ c n. refl) (λ p s h. back p.next p.constant s),
            (
              opcode_covers (this_byte 0xe8) word_constant (λ p. Call (target p)) (λ c n. refl) (λ p s h. back p.next p.constant s),
              (
                opcode_covers (this_byte 0xe9) word_constant (λ p. Jump (target p)) (λ c n. refl) (λ p s h. back p.next p.constant s),
                (
                  opcode_covers (this_byte 0xeb) signed_constant (λ p. Jump (target p)) (λ c n. refl) (λ p s h. back p.next p.constant s),
                  (
                    opcode_covers (this_byte 0xc2) word_constant (λ p. Ret p.constant) (λ c n. refl) (λ p s h. refl),
                    (
                      opcode_covers (this_byte 0xc3) no_constant (λ p. Ret 0) (λ c n. refl) (λ p s h. absurd h),
                      (
                        interrupt_covers,
                        (
                          table_covers Si 0xa4 refl,
                          (
                            table_covers Di 0xa5 refl,
                            (
                              table_covers Bx 0xa7 refl,
                              tt,
                            ),
                          ),
                        ),
                      ),
                    ),
                  ),
                ),
              ),
            ),
          ),
        ),
      ),
    ),
  ),
)

plain_covered : AllByRecursion RowCovers plain_rows
plain_covered = (
  opcode_covers (this_byte 0x90) no_constant (λ p. PlainOp Nop) (λ c n. refl) (λ p s h. absurd h),
  (
    opcode_covers (this_byte 0x98) no_constant (λ p. PlainOp Cbw) (λ c n. refl) (λ p s h. absurd h),
    (
      opcode_covers (this_byte 0x99) no_constant (λ p. PlainOp Cwd) (λ c n. refl) (λ p s h. absurd h),
      (
        opcode_covers (this_byte 0xd7) no_constant (λ p. PlainOp Xlat) (λ c n. refl) (λ p s h. absurd h),
        (
          opcode_covers (this_byte 0xf5) no_constant (λ p. PlainOp Cmc) (λ c n. refl) (λ p s h. absurd h),
          (
            opcode_covers (this_byte 0xf8) no_constant (λ p. PlainOp Clc) (λ c n. refl) (λ p s h. absurd h),
            (
              opcode_covers (this_byte 0xf9) no_constant (λ p. PlainOp Stc) (λ c n. refl) (λ p s h. absurd h),
              (
                opcode_covers (this_byte 0xfa) no_constant (λ p. PlainOp Cli) (λ c n. refl) (λ p s h. absurd h),
                (
                  opcode_covers (this_byte 0xfb) no_constant (λ p. PlainOp Sti) (λ c n. refl) (λ p s h. absurd h),
                  (
                    opcode_covers (this_byte 0xfc) no_constant (λ p. PlainOp Cld) (λ c n. refl) (λ p s h. absurd h),
                    tt,
                  ),
                ),
              ),
            ),
          ),
        ),
      ),
    ),
  ),
)

later_covered : AllByRecursion RowCovers later_rows
later_covered = (
  opcode_covers (this_byte 0x68) word_constant (λ p. Push (imm16 p)) (λ c n. refl) (λ p s h. refl),
  (
    opcode_covers (this_byte 0x6a) signed_constant (λ p. Push (imm16 p)) (λ c n. refl) (λ p s h. refl),
    (
      modrm_covers (this_byte 0x69) (any_modrm) word_constant (λ p. triple_product p) (λ d c n. refl) (λ p h. rm_alone word_width p.modrm p.displacement h) (λ p s h. refl),
      (
        modrm_covers (this_byte 0x6b) (any_modrm) signed_constant (λ p. triple_product p) (λ d c n. refl) (λ p h. rm_alone word_width p.modrm p.displacement h) (λ p s h. refl),
        (
          modrm_covers (bytes_between 0xc0 0xc1) (any_operand 0 1) byte_constant (λ p. constant_shift p) (λ d c n. refl) (λ p h. rm_alone (width_of p.opcode) p.modrm p.displacement h) (λ p s h. refl),
          (
            modrm_covers (bytes_between 0xc0 0xc1) (any_operand 4 5) byte_constant (λ p. constant_shift p) (λ d c n. refl) (λ p h. rm_alone (width_of p.opcode) p.modrm p.displacement h) (λ p s h. refl),
            (
              modrm_covers (bytes_between 0xc0 0xc1) (any_operand 7 7) byte_constant (λ p. constant_shift p) (λ d c n. refl) (λ p h. rm_alone (width_of p.opcode) p.modrm p.displacement h) (λ p s h. refl),
              (
                enter_covers,
                (
                  opcode_covers (this_byte 0xc9) no_constant (λ p. Leave) (λ c n. refl) (λ p s h. absurd h),
                  tt,
                ),
              ),
            ),
          ),
        ),
      ),
    ),
  ),
)

-- The whole table ---------------------------------------------------------------------------

pub all-append : {X : Type 0} (P : X → Type 0) (xs ys : List X) → AllByRecursion P xs → AllByRecursion P ys → AllByRecursion P (xs ++ ys)
all-append P [] ys h k = k
all-append P (x ∷ xs) ys h k = (h.0, all-append P xs ys h.1 k)

all-get : (P : Row → Type 0) (xs : List Row) (k : ℕ) (x : Row) → AllByRecursion P xs → slice_get xs k ≡ Some x → P x
all-get P [] k x h e = absurd (let f : ⊥ = cc in f)
all-get P (y ∷ ys) zero x h e = let same : y ≡ x = cc in subst P same h.0
all-get P (y ∷ ys) (suc k) x h e = all-get P ys k x h.1 e

earlier_covered : AllByRecursion RowCovers (arithmetic_rows ++ unary_rows ++ stack_rows ++ move_rows ++ control_rows ++ plain_rows)
earlier_covered =
    all-append RowCovers (arithmetic_rows ++ unary_rows ++ stack_rows ++ move_rows ++ control_rows) plain_rows
    (all-append RowCovers (arithmetic_rows ++ unary_rows ++ stack_rows ++ move_rows) control_rows
    (all-append RowCovers (arithmetic_rows ++ unary_rows ++ stack_rows) move_rows
    (all-append RowCovers (arithmetic_rows ++ unary_rows) stack_rows
    (all-append RowCovers arithmetic_rows unary_rows arithmetic_covered unary_covered)
    stack_covered)
    move_covered)
    control_covered)
    plain_covered

table_covered : (cpu : Cpu) → AllByRecursion RowCovers (table cpu)
unfolding table
table_covered I8086 = all-append RowCovers (arithmetic_rows ++ unary_rows ++ stack_rows ++ move_rows ++ control_rows ++ plain_rows) [] earlier_covered tt
table_covered I186 = all-append RowCovers (arithmetic_rows ++ unary_rows ++ stack_rows ++ move_rows ++ control_rows ++ plain_rows) later_rows earlier_covered later_covered

pub encodings_are_drafts : EncodingsAreDrafts
encodings_are_drafts cpu at op bytes e =
    let instr : Instr = record { op = op; len = length bytes } in
    let r = instruction-row cpu at bytes instr e.decoded in
    let op_is : (r.0).operation (row_parts r.0 at bytes) ≡ op = ap (λ (i : Instr). i.op) r.3 in
    let length_is : row_length r.0 bytes ≡ length bytes = ap (λ (i : Instr). i.len) r.3 in
    subst (λ o. Contains (drafts o at) bytes) op_is
    (all-get RowCovers (table cpu) (r.1).0 r.0 (table_covered cpu) (r.1).1 at bytes (and_left _ _ r.2) length_is e.are_bytes)
