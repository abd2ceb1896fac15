-- The statements of an operation take no address but those of its operands' places, and load, fetch and store by no
-- temporary and by no flag.
use Rattle.std.proofs.Common.{◌≡◌, ◌∙◌, ℕ, Bool, true, false, ◌&&◌, ◌||◌, if◌then◌else◌, List, [], ◌∷◌, ◌++◌, Option, refl}
use Rattle.std.specs.List.{list_all}
use Rattle.std.proofs.lemmas.Bool.{and_parts, or_left}
use Rattle.std.proofs.lemmas.List.Folds.{list_all-append}
use Rattle.dcc_num.specs.declared.Width.{Width}
use Rattle.dcc_num.specs.declared.Width.TheVariants.{Byte as byte_width, Word as word_width}
use Rattle.dcc_num.specs.Numbers.{bits_of}
use Rattle.dcc_machine.specs.declared.cpu.Cpu.{Cpu}
use Rattle.dcc_machine.specs.declared.cpu.Cpu.TheVariants.{I8086, I186}
use Rattle.dcc_machine.specs.declared.instr.Alu.{Alu}
use Rattle.dcc_machine.specs.declared.instr.Alu.TheVariants.{Add, Or, Adc, Sbb, And, Sub, Xor, Cmp, Test}
use Rattle.dcc_machine.specs.declared.instr.Shift.{Shift}
use Rattle.dcc_machine.specs.declared.instr.Shift.TheVariants.{Rol}
use Rattle.dcc_machine.specs.declared.instr.Count.{Count}
use Rattle.dcc_machine.specs.declared.instr.Count.TheVariants.{One, Cl, Const as ConstCount}
use Rattle.dcc_machine.specs.declared.instr.Unary.{Unary}
use Rattle.dcc_machine.specs.declared.instr.Unary.TheVariants.{Inc, Dec, Neg, Not, Mul, Imul, Div as DivOf, Idiv}
use Rattle.dcc_machine.specs.declared.instr.Plain.{Plain}
use Rattle.dcc_machine.specs.declared.instr.Plain.TheVariants.{Nop, Cbw, Cwd, Xlat, Clc, Stc, Cmc, Cli, Sti, Cld}
use Rattle.dcc_machine.specs.declared.instr.Op.{Op}
use Rattle.dcc_machine.specs.declared.instr.Op.TheVariants.{Alu as AluOp, Unary as UnaryOp, Shift as ShiftOp, Mov, Xchg, Imul3, Plain as PlainOp, Int21}
use Rattle.dcc_machine.specs.Machine.{operand_width}
use Rattle.dcc_machine.specs.Writes.{never_shifts}
use Rattle.dcc_machine.specs.Wanted.{is_zeroing}
use Rattle.dcc_ir.specs.declared.syntax.Loc.{Loc}
use Rattle.dcc_ir.specs.declared.syntax.BinOp.{BinOp}
use Rattle.dcc_ir.specs.declared.syntax.BinOp.TheVariants.{DivU, DivS, RemU, RemS}
use Rattle.dcc_ir.specs.Tree.{Expr, Load, Address, Stmt, Set}
use Rattle.dcc_ir.specs.Use.{addresses_of}
use Rattle.dcc_flags.specs.Accesses.{loads_by_halves, accessed}
use Rattle.dcc_flags.specs.Kinds.{takes_frame_sum}
use Rattle.dcc_ops.proofs.DosStatements.{dos_all}
use Rattle.dcc_ops.proofs.ShiftCounts.{HoldsByEach, holds_by_count}
use Rattle.dcc_ops.specs.Temporaries.{left_place, right_place, result_place}
use Rattle.dcc_ops.specs.OperandPlace.{OperandPlace, constant, byte, word, memory, address, computed}
use Rattle.dcc_ops.specs.OperandPlace.{taking}
use Rattle.dcc_ops.specs.OperandPlace.{storing}
use Rattle.dcc_ops.specs.Registers.{register_place}
use Rattle.dcc_ops.specs.Expressions.{left, right, result, product, count_expr, sum, difference}
use Rattle.dcc_ops.specs.Statements.{operands_taking, word_taking, result_taking, sum_flags, difference_flags, subtracting, alu_working, alu_storing, alu_stmts, zeroing, product_storing, product_working, division_storing, division_working, accumulator, complementing, unary_stmts, shift_working, shifting, staying, shift_stmts, mov_stmts, xchg_stmts, plain_stmts, dos_stmts, op_stmts}

both : (a b : Bool) → a ≡ true → b ≡ true → (a && b) ≡ true
both true b e f = f
both false b e f = e

-- The addresses that are taken pass a test, and what is loaded or stored at is told from halves of registers and cells.
module _ (test : ℕ → Bool) where
  abbrev pub passes : Expr → Bool
  passes e = list_all test (addresses_of e) && loads_by_halves e

  abbrev pub stmt_passes : Stmt → Bool
  stmt_passes stmt = list_all passes (accessed stmt)

  abbrev pub all_pass : List Stmt → Bool
  all_pass stmts = list_all stmt_passes stmts

  -- where sums of the frame may be set, statements that set temporaries to such need not pass the test
  abbrev pub stmt_told : Bool → Stmt → Bool
  stmt_told sums stmt = stmt_passes stmt || (sums && takes_frame_sum stmt)

  abbrev pub all_told : Bool → List Stmt → Bool
  all_told sums stmts = list_all (stmt_told sums) stmts

  pub pass-told : (sums : Bool) (stmts : List Stmt) → all_pass stmts ≡ true → all_told sums stmts ≡ true
  pass-told sums [] is = refl
  pass-told sums (stmt ∷ stmts) is =
      let parts = and_parts (stmt_passes stmt) (all_pass stmts) is in
      both (stmt_told sums stmt) (all_told sums stmts)
      (or_left (stmt_passes stmt) (sums && takes_frame_sum stmt) parts.0) (pass-told sums stmts parts.1)

  pub told-appended : (sums : Bool) (stmts others : List Stmt) → all_told sums stmts ≡ true → all_told sums others ≡ true
      → all_told sums (stmts ++ others) ≡ true
  told-appended sums stmts others p q =
      list_all-append (stmt_told sums) stmts others ∙ both (all_told sums stmts) (all_told sums others) p q

  -- the addresses that a place has pass, and memory is accessed by halves
  abbrev pub place_passes : OperandPlace → Bool
  place_passes (memory w at) = passes (Load (bits_of w) at)
  place_passes (address distance) = passes (Address distance)
  place_passes (computed e) = passes e
  place_passes place = true

  pub appended : (stmts others : List Stmt) → all_pass stmts ≡ true → all_pass others ≡ true
      → all_pass (stmts ++ others) ≡ true
  appended stmts others p q =
      list_all-append stmt_passes stmts others ∙ both (all_pass stmts) (all_pass others) p q

  -- Operands.

  taken : (to : Loc) (p : OperandPlace) → place_passes p ≡ true → stmt_passes (taking to p) ≡ true
  taken to (constant w n) is = refl
  taken to (byte location) is = refl
  taken to (word low high) is = refl
  taken to (memory w at) is = both (passes (Load (bits_of w) at)) true is refl
  taken to (address distance) is = both (passes (Address distance)) true is refl
  taken to (computed e) is = both (passes e) true is refl

  pub stored : (p : OperandPlace) (e : Expr) → place_passes p ≡ true → passes e ≡ true → all_pass (storing p e) ≡ true
  stored (constant w n) e is made = refl
  stored (byte location) e is made = both (passes e && true) true (both (passes e) true made refl) refl
  stored (word low high) e is made =
      both (passes e && true) ((passes e && true) && true) (both (passes e) true made refl)
      (both (passes e && true) true (both (passes e) true made refl) refl)
  stored (memory w at) e is made =
      let load = Load (bits_of w) at in
      both (passes load && (passes e && true)) true (both (passes load) (passes e && true) is (both (passes e) true made refl)) refl
  stored (address distance) e is made = refl
  stored (computed sum) e is made = refl

  taken_first : (to : Loc) (p : OperandPlace) (rest : List Stmt) → place_passes p ≡ true → all_pass rest ≡ true
      → all_pass (taking to p ∷ rest) ≡ true
  taken_first to p rest is e = both (stmt_passes (taking to p)) (all_pass rest) (taken to p is) e

  both_taken : (w : Width) (p q : OperandPlace) → place_passes p ≡ true → place_passes q ≡ true
      → all_pass (operands_taking w p q) ≡ true
  both_taken w p q one other =
      taken_first (left_place w) p (taking (right_place w) q ∷ []) one (taken_first (right_place w) q [] other refl)

  -- the operands, the work, and what is stored
  worked : (w : Width) (p q : OperandPlace) (work store : List Stmt) → place_passes p ≡ true → place_passes q ≡ true
      → all_pass work ≡ true → all_pass store ≡ true → all_pass (operands_taking w p q ++ (work ++ store)) ≡ true
  worked w p q work store one other e f =
      appended (operands_taking w p q) (work ++ store) (both_taken w p q one other) (appended work store e f)

  register : (w : Width) → place_passes (register_place (accumulator w)) ≡ true
  register byte_width = refl
  register word_width = refl

  -- Operations on two operands.

  alu_passes : (operation : Alu) (w : Width) → all_pass (alu_working operation w) ≡ true
  alu_passes Add byte_width = refl
  alu_passes Add word_width = refl
  alu_passes Or byte_width = refl
  alu_passes Or word_width = refl
  alu_passes Adc byte_width = refl
  alu_passes Adc word_width = refl
  alu_passes Sbb byte_width = refl
  alu_passes Sbb word_width = refl
  alu_passes And byte_width = refl
  alu_passes And word_width = refl
  alu_passes Sub byte_width = refl
  alu_passes Sub word_width = refl
  alu_passes Xor byte_width = refl
  alu_passes Xor word_width = refl
  alu_passes Cmp byte_width = refl
  alu_passes Cmp word_width = refl
  alu_passes Test byte_width = refl
  alu_passes Test word_width = refl

  alu_stored : (operation : Alu) (w : Width) (p : OperandPlace) → place_passes p ≡ true
      → all_pass (alu_storing operation w p) ≡ true
  alu_stored Cmp w p is = refl
  alu_stored Test w p is = refl
  alu_stored operation w p is = stored p (result w) is refl

  -- Operations on one operand.

  counted : (w : Width) → (all_pass (result_taking w (sum w) ++ sum_flags w) ≡ true)
      × (all_pass (result_taking w (difference w) ++ difference_flags w) ≡ true)
  counted byte_width = (refl, refl)
  counted word_width = (refl, refl)

  complemented : (w : Width) → all_pass (complementing w) ≡ true
  complemented byte_width = refl
  complemented word_width = refl

  multiplied : (w : Width) (signed : Bool) → all_pass (product_working w signed) ≡ true
  multiplied byte_width true = refl
  multiplied byte_width false = refl
  multiplied word_width true = refl
  multiplied word_width false = refl

  product_stored : (w : Width) → all_pass (product_storing w) ≡ true
  product_stored byte_width = refl
  product_stored word_width = refl

  divided : (w : Width) (quotient remainder : BinOp) → all_pass (division_working w quotient remainder) ≡ true
  divided byte_width quotient remainder = refl
  divided word_width quotient remainder = refl

  division_stored : (w : Width) → all_pass (division_storing w) ≡ true
  division_stored byte_width = refl
  division_stored word_width = refl

  unary_passes : (operation : Unary) (w : Width) (p : OperandPlace) → place_passes p ≡ true
      → all_pass (unary_stmts operation w p) ≡ true
  unary_passes Inc w p is =
      worked w p (constant w 1) (result_taking w (sum w) ++ sum_flags w) (storing p (result w)) is refl (counted w).0
      (stored p (result w) is refl)
  unary_passes Dec w p is =
      worked w p (constant w 1) (result_taking w (difference w) ++ difference_flags w) (storing p (result w)) is refl
      (counted w).1 (stored p (result w) is refl)
  unary_passes Neg w p is =
      worked w (constant w 0) p (subtracting w) (storing p (result w)) refl is (alu_passes Sub w)
      (stored p (result w) is refl)
  unary_passes Not w p is =
      taken_first (left_place w) p (complementing w ++ storing p (result w)) is
      (appended (complementing w) (storing p (result w)) (complemented w) (stored p (result w) is refl))
  unary_passes Mul w p is =
      worked w (register_place (accumulator w)) p (product_working w false) (product_storing w) (register w) is
      (multiplied w false) (product_stored w)
  unary_passes Imul w p is =
      worked w (register_place (accumulator w)) p (product_working w true) (product_storing w) (register w) is
      (multiplied w true) (product_stored w)
  unary_passes DivOf w p is =
      worked w (register_place (accumulator w)) p (division_working w DivU RemU) (division_storing w) (register w) is
      (divided w DivU RemU) (division_stored w)
  unary_passes Idiv w p is =
      worked w (register_place (accumulator w)) p (division_working w DivS RemS) (division_storing w) (register w) is
      (divided w DivS RemS) (division_stored w)

  -- Shifts.

  shift_worked : (w : Width) (count : Count) (operation : Shift) → all_pass (shift_working operation w count) ≡ true
  shift_worked w count operation = holds_by_count all_pass operation w count (each w operation)
    where
      each : (w : Width) (operation : Shift) → HoldsByEach all_pass operation w
      each byte_width Rol = record { one = refl; cl = refl; other = refl }
      each word_width Rol = record { one = refl; cl = refl; other = refl }
      each _ _ = record { one = refl; cl = refl; other = refl }

  count_passes : (cpu : Cpu) (w : Width) (count : Count) → passes (count_expr cpu w count) ≡ true
  count_passes I8086 byte_width One = refl
  count_passes I8086 byte_width Cl = refl
  count_passes I8086 byte_width (ConstCount n) = refl
  count_passes I8086 word_width One = refl
  count_passes I8086 word_width Cl = refl
  count_passes I8086 word_width (ConstCount n) = refl
  count_passes I186 byte_width One = refl
  count_passes I186 byte_width Cl = refl
  count_passes I186 byte_width (ConstCount n) = refl
  count_passes I186 word_width One = refl
  count_passes I186 word_width Cl = refl
  count_passes I186 word_width (ConstCount n) = refl

  shift_passes : (cpu : Cpu) (operation : Shift) (w : Width) (p : OperandPlace) (count : Count) → place_passes p ≡ true
      → all_pass (shift_stmts cpu operation w p count) ≡ true
  shift_passes cpu operation w p count is = go (never_shifts count)
    where
      go : (never : Bool) → all_pass (if never then staying w p else shifting cpu operation w p count) ≡ true
      go true = taken_first (result_place w) p (storing p (result w)) is (stored p (result w) is refl)
      go false =
          let e = count_expr cpu w count in
          let rest = shift_working operation w count ++ storing p (result w) in
          taken_first (left_place w) p (Set (right_place w) e ∷ rest) is
          (both (passes e && true) (all_pass rest) (both (passes e) true (count_passes cpu w count) refl)
          (appended (shift_working operation w count) (storing p (result w)) (shift_worked w count operation)
          (stored p (result w) is refl)))

  -- Moves.

  pub mov_passes : (w : Width) (p q : OperandPlace) → place_passes p ≡ true → place_passes q ≡ true
      → all_pass (mov_stmts w p q) ≡ true
  mov_passes w (byte to) (byte from) one other = refl
  mov_passes w (byte to) (constant v n) one other = refl
  mov_passes w (word low high) (word l h) one other = refl
  mov_passes w (word low high) (constant v n) one other = refl
  mov_passes w p q one other = taken_first (left_place w) q (storing p (left w)) other (stored p (left w) one refl)

  xchg_passes : (w : Width) (p q : OperandPlace) → place_passes p ≡ true → place_passes q ≡ true
      → all_pass (xchg_stmts w p q) ≡ true
  xchg_passes w (byte a) (byte b) one other = refl
  xchg_passes w (word low high) (word l h) one other = refl
  xchg_passes w p q one other =
      worked w p q (storing p (right w)) (storing q (left w)) one other (stored p (right w) one refl)
      (stored q (left w) other refl)

  -- Operations without operands.

  plain_passes : (operation : Plain) → all_pass (plain_stmts operation) ≡ true
  plain_passes Nop = refl
  plain_passes Cbw = refl
  plain_passes Cwd = refl
  plain_passes Xlat = refl
  plain_passes Clc = refl
  plain_passes Stc = refl
  plain_passes Cmc = refl
  plain_passes Cli = refl
  plain_passes Sti = refl
  plain_passes Cld = refl

  dos_passes : (number : Option ℕ) → all_pass (dos_stmts number) ≡ true
  dos_passes = dos_all (λ l. all_pass l ≡ true) refl (λ n. refl) (λ n. refl) (λ n. refl) (λ n. refl)

  -- All operations.
  pub op_passes : (cpu : Cpu) (op : Op) (number : Option ℕ) (p q : OperandPlace) → place_passes p ≡ true → place_passes q ≡ true
      → all_pass (op_stmts cpu op number p q) ≡ true
  op_passes cpu (AluOp operation a b) number p q one other = go (is_zeroing operation a b)
    where
      w : Width
      w = operand_width a

      go : (zero : Bool) → all_pass (if zero then zeroing w p else alu_stmts operation w p q) ≡ true
      go true = mov_passes w p (constant w 0) one refl
      go false =
          worked w p q (alu_working operation w) (alu_storing operation w p) one other (alu_passes operation w)
          (alu_stored operation w p one)
  op_passes cpu (UnaryOp operation a) number p q one other = unary_passes operation (operand_width a) p one
  op_passes cpu (ShiftOp operation a count) number p q one other =
      shift_passes cpu operation (operand_width a) p count one
  op_passes cpu (Mov to from) number p q one other = mov_passes (operand_width to) p q one other
  op_passes cpu (Xchg a b) number p q one other = xchg_passes (operand_width a) p q one other
  op_passes cpu (Imul3 r a factor) number p q one other =
      worked word_width p (constant word_width factor) (product_working word_width true)
      (word_taking r 0 (product word_width)) one refl refl refl
  op_passes cpu (PlainOp operation) number p q one other = plain_passes operation
  op_passes cpu Int21 number p q one other = dos_passes number
  op_passes cpu op number p q one other = refl
