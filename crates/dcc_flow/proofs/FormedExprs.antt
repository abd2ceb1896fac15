-- What a well-formed expression tells of its parts, and of what it reads.
use Rattle.std.proofs.Common.{◌≡◌, ℕ, ◌+◌, Bool, true, ◌&&◌, ◌||◌, not, List, [], ◌++◌, flat_map, sym, ap, ◌∙◌, subst}
use Rattle.std.specs.Prelude.{◌==◌, nat_lt, nat_le, All}
use Rattle.std.proofs.lemmas.List.Concat.{flat_map-append}
use Rattle.std.proofs.lemmas.List.Elements.{All-nil, All-cons, All-append}
use Rattle.dcc_ir.specs.declared.syntax.BinOp.{BinOp}
use Rattle.dcc_ir.specs.declared.syntax.Loc.{Loc}
use Rattle.dcc_ir.specs.declared.syntax.UnOp.{UnOp}
use Rattle.dcc_ir.specs.Tree.{Expr, Const, Get, Load, Unary, Binary, Widen, Part, Join, Choose, Address}
use Rattle.dcc_ir.specs.Use.{parts_of, got_by, reads_of}
use Rattle.dcc_ir.specs.Value.{width_of}
use Rattle.dcc_ir.specs.WellFormed.{is_width, is_stored_width, is_location, is_division, divides_safely, is_expr}
use Rattle.dcc_ir.proofs.FitLaws.{both}

pub and_both : (a b : Bool) → a ≡ true → b ≡ true → (a && b) ≡ true
and_both a b e f = ap (λ c. c && b) e ∙ f

-- The parts of what a well-formed expression tells.

pub record BinaryFormed (bits : List ℕ) (operator : BinOp) (width : ℕ) (a b : Expr) : Type 0 where
  pub width_ok : is_width width ≡ true
  pub left : is_expr bits a ≡ true
  pub right : is_expr bits b ≡ true
  pub left_width : (width_of bits a == width) ≡ true
  pub right_width : (width_of bits b == width) ≡ true
  pub safe : (not (is_division operator) || divides_safely operator width b) ≡ true

pub binary_formed : (bits : List ℕ) (operator : BinOp) (width : ℕ) (a b : Expr) → is_expr bits (Binary operator width a b) ≡ true → BinaryFormed bits operator width a b
binary_formed bits operator width a b ok =
    let five = both (is_width width && is_expr bits a && is_expr bits b && (width_of bits a == width) && (width_of bits b == width)) (not (is_division operator) || divides_safely operator width b) ok in
    let four = both (is_width width && is_expr bits a && is_expr bits b && (width_of bits a == width)) (width_of bits b == width) five.0 in
    let three = both (is_width width && is_expr bits a && is_expr bits b) (width_of bits a == width) four.0 in
    let two = both (is_width width && is_expr bits a) (is_expr bits b) three.0 in
    let one = both (is_width width) (is_expr bits a) two.0 in
    record { width_ok = one.0; left = one.1; right = two.1; left_width = three.1; right_width = four.1; safe = five.1 }

pub make_binary : (bits : List ℕ) (operator : BinOp) (width : ℕ) (a b : Expr) → BinaryFormed bits operator width a b → is_expr bits (Binary operator width a b) ≡ true
make_binary bits operator width a b h =
    and_both (is_width width && is_expr bits a && is_expr bits b && (width_of bits a == width) && (width_of bits b == width)) (not (is_division operator) || divides_safely operator width b)
    (and_both (is_width width && is_expr bits a && is_expr bits b && (width_of bits a == width)) (width_of bits b == width)
    (and_both (is_width width && is_expr bits a && is_expr bits b) (width_of bits a == width)
    (and_both (is_width width && is_expr bits a) (is_expr bits b) (and_both (is_width width) (is_expr bits a) h.width_ok h.left) h.right) h.left_width) h.right_width) h.safe

pub record UnaryFormed (bits : List ℕ) (width : ℕ) (a : Expr) : Type 0 where
  pub width_ok : is_width width ≡ true
  pub inner : is_expr bits a ≡ true
  pub inner_width : (width_of bits a == width) ≡ true

pub unary_formed : (bits : List ℕ) (operator : UnOp) (width : ℕ) (a : Expr) → is_expr bits (Unary operator width a) ≡ true → UnaryFormed bits width a
unary_formed bits operator width a ok =
    let two = both (is_width width && is_expr bits a) (width_of bits a == width) ok in
    let one = both (is_width width) (is_expr bits a) two.0 in
    record { width_ok = one.0; inner = one.1; inner_width = two.1 }

pub make_unary : (bits : List ℕ) (operator : UnOp) (width : ℕ) (a : Expr) → UnaryFormed bits width a → is_expr bits (Unary operator width a) ≡ true
make_unary bits operator width a h = and_both (is_width width && is_expr bits a) (width_of bits a == width) (and_both (is_width width) (is_expr bits a) h.width_ok h.inner) h.inner_width

pub record JoinFormed (bits : List ℕ) (high low : Expr) : Type 0 where
  pub upper : is_expr bits high ≡ true
  pub lower : is_expr bits low ≡ true
  pub same : (width_of bits high == width_of bits low) ≡ true
  pub size : (width_of bits low == 8 || width_of bits low == 16) ≡ true

pub join_formed : (bits : List ℕ) (high low : Expr) → is_expr bits (Join high low) ≡ true → JoinFormed bits high low
join_formed bits high low ok =
    let three = both (is_expr bits high && is_expr bits low && (width_of bits high == width_of bits low)) (width_of bits low == 8 || width_of bits low == 16) ok in
    let two = both (is_expr bits high && is_expr bits low) (width_of bits high == width_of bits low) three.0 in
    let one = both (is_expr bits high) (is_expr bits low) two.0 in
    record { upper = one.0; lower = one.1; same = two.1; size = three.1 }

pub make_join : (bits : List ℕ) (high low : Expr) → JoinFormed bits high low → is_expr bits (Join high low) ≡ true
make_join bits high low h =
    and_both (is_expr bits high && is_expr bits low && (width_of bits high == width_of bits low)) (width_of bits low == 8 || width_of bits low == 16)
    (and_both (is_expr bits high && is_expr bits low) (width_of bits high == width_of bits low) (and_both (is_expr bits high) (is_expr bits low) h.upper h.lower) h.same) h.size

pub record ChooseFormed (bits : List ℕ) (test a b : Expr) : Type 0 where
  pub tested : is_expr bits test ≡ true
  pub one : is_expr bits a ≡ true
  pub other : is_expr bits b ≡ true
  pub bit : (width_of bits test == 1) ≡ true
  pub same : (width_of bits a == width_of bits b) ≡ true

pub choose_formed : (bits : List ℕ) (test a b : Expr) → is_expr bits (Choose test a b) ≡ true → ChooseFormed bits test a b
choose_formed bits test a b ok =
    let four = both (is_expr bits test && is_expr bits a && is_expr bits b && (width_of bits test == 1)) (width_of bits a == width_of bits b) ok in
    let three = both (is_expr bits test && is_expr bits a && is_expr bits b) (width_of bits test == 1) four.0 in
    let two = both (is_expr bits test && is_expr bits a) (is_expr bits b) three.0 in
    let one = both (is_expr bits test) (is_expr bits a) two.0 in
    record { tested = one.0; one = one.1; other = two.1; bit = three.1; same = four.1 }

pub make_choose : (bits : List ℕ) (test a b : Expr) → ChooseFormed bits test a b → is_expr bits (Choose test a b) ≡ true
make_choose bits test a b h =
    and_both (is_expr bits test && is_expr bits a && is_expr bits b && (width_of bits test == 1)) (width_of bits a == width_of bits b)
    (and_both (is_expr bits test && is_expr bits a && is_expr bits b) (width_of bits test == 1)
    (and_both (is_expr bits test && is_expr bits a) (is_expr bits b) (and_both (is_expr bits test) (is_expr bits a) h.tested h.one) h.other) h.bit) h.same

pub record LoadFormed (bits : List ℕ) (width : ℕ) (address : Expr) : Type 0 where
  pub width_ok : is_stored_width width ≡ true
  pub inner : is_expr bits address ≡ true
  pub inner_width : (width_of bits address == 16) ≡ true

pub load_formed : (bits : List ℕ) (width : ℕ) (a : Expr) → is_expr bits (Load width a) ≡ true → LoadFormed bits width a
load_formed bits width a ok =
    let two = both (is_stored_width width && is_expr bits a) (width_of bits a == 16) ok in
    let one = both (is_stored_width width) (is_expr bits a) two.0 in
    record { width_ok = one.0; inner = one.1; inner_width = two.1 }

pub make_load : (bits : List ℕ) (width : ℕ) (a : Expr) → LoadFormed bits width a → is_expr bits (Load width a) ≡ true
make_load bits width a h = and_both (is_stored_width width && is_expr bits a) (width_of bits a == 16) (and_both (is_stored_width width) (is_expr bits a) h.width_ok h.inner) h.inner_width

-- a Widen and a Part have a width, an operand and a test of the operand's width
pub record WithinFormed (bits : List ℕ) (width : ℕ) (a : Expr) (fits : ℕ → Bool) : Type 0 where
  pub width_ok : is_width width ≡ true
  pub inner : is_expr bits a ≡ true
  pub inner_width : fits (width_of bits a) ≡ true

pub within_formed : (bits : List ℕ) (width : ℕ) (a : Expr) (fits : ℕ → Bool) → (is_width width && is_expr bits a && fits (width_of bits a)) ≡ true → WithinFormed bits width a fits
within_formed bits width a fits ok =
    let two = both (is_width width && is_expr bits a) (fits (width_of bits a)) ok in
    let one = both (is_width width) (is_expr bits a) two.0 in
    record { width_ok = one.0; inner = one.1; inner_width = two.1 }

pub make_within : (bits : List ℕ) (width : ℕ) (a : Expr) (fits : ℕ → Bool) → WithinFormed bits width a fits → (is_width width && is_expr bits a && fits (width_of bits a)) ≡ true
make_within bits width a fits h = and_both (is_width width && is_expr bits a) (fits (width_of bits a)) (and_both (is_width width) (is_expr bits a) h.width_ok h.inner) h.inner_width

-- The locations that a well-formed expression reads are locations of the graph.

both_read : (P : Loc → Type 0) (xs ys : List Expr) → All P (flat_map got_by xs) → All P (flat_map got_by ys) → All P (flat_map got_by (xs ++ ys))
both_read P xs ys p q = subst (All P) (sym (flat_map-append got_by xs ys)) (All-append P (flat_map got_by xs) (flat_map got_by ys) p q)

pub reads_placed : (bits : List ℕ) (e : Expr) → is_expr bits e ≡ true → All (λ l. is_location bits l ≡ true) (reads_of e)
reads_placed bits (Const w n) ok = All-nil (λ l. is_location bits l ≡ true)
reads_placed bits (Get l) ok = All-cons (λ l. is_location bits l ≡ true) l [] ok (All-nil (λ l. is_location bits l ≡ true))
reads_placed bits (Load w a) ok = reads_placed bits a (load_formed bits w a ok).inner
reads_placed bits (Unary o w a) ok = reads_placed bits a (unary_formed bits o w a ok).inner
reads_placed bits (Binary o w a b) ok =
    let f = binary_formed bits o w a b ok in
    both_read (λ l. is_location bits l ≡ true) (parts_of a) (parts_of b) (reads_placed bits a f.left) (reads_placed bits b f.right)
reads_placed bits (Widen s w a) ok = reads_placed bits a (within_formed bits w a (λ n. nat_lt n w) ok).inner
reads_placed bits (Part w k a) ok = reads_placed bits a (within_formed bits w a (λ n. nat_le (k + w) n) ok).inner
reads_placed bits (Join a b) ok =
    let f = join_formed bits a b ok in
    both_read (λ l. is_location bits l ≡ true) (parts_of a) (parts_of b) (reads_placed bits a f.upper) (reads_placed bits b f.lower)
reads_placed bits (Choose x a b) ok =
    let f = choose_formed bits x a b ok in
    both_read (λ l. is_location bits l ≡ true) (parts_of x ++ parts_of a) (parts_of b)
    (both_read (λ l. is_location bits l ≡ true) (parts_of x) (parts_of a) (reads_placed bits x f.tested) (reads_placed bits a f.one)) (reads_placed bits b f.other)
reads_placed bits (Address d) ok = All-nil (λ l. is_location bits l ≡ true)
