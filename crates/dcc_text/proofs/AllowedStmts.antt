-- The text of each statement is allowed where its names are declared.
use Rattle.std.proofs.Common.{◌≡◌, ℕ, suc, ◌+◌, ◌*◌, ◌≤◌, inl, inr, max, Bool, true, false, ◌==◌, List, [], ◌∷◌, ◌++◌, Option, Some, None, refl, sym, ap, ◌∙◌, subst, true≢false, arith}
use Rattle.std.specs.Prelude.{◌&&◌, ◌||◌, nat_le, if◌then◌else◌, option_and_then, option_to_list, All}
use Rattle.std.proofs.lemmas.Bool.{and_parts, and_from, or_cases, le-leb, eqb-true}
use Rattle.std.proofs.lemmas.List.Elements.{All-head, All-tail}
use Rattle.dcc_ir.specs.declared.syntax.Loc.{Loc}
use Rattle.dcc_ir.specs.declared.syntax.BinOp.{BinOp}
use Rattle.dcc_ir.specs.declared.syntax.BinOp.TheVariants.{DivS, DivU, RemS, RemU}
use Rattle.dcc_ir.specs.Location.{location_width}
use Rattle.dcc_ir.specs.Measure.{depth_of}
use Rattle.dcc_ir.specs.Run.{is_call}
use Rattle.dcc_ir.specs.Tree as inner
use Rattle.dcc_ir.specs.Use.{parts_of, got_by, reads_of, exprs_of, writes_of}
use Rattle.dcc_ir.specs.Value.{width_of}
use Rattle.dcc_ir.specs.WellFormed.{is_stored_width, is_division, is_expr, is_expr_of, is_stmt, is_location, is_dividing, is_byte_place, is_dos}
use Rattle.dcc_ir.proofs.ListLaws.{left_part, all_parts}
use Rattle.dcc_run.proofs.KeptLaws.{right_part}
use Rattle.dcc_c.specs.declared.syntax.Base.{Base}
use Rattle.dcc_c.specs.declared.syntax.Base.TheVariants.{Uchar, Int, Uint}
use Rattle.dcc_c.specs.declared.syntax.CType.{CType}
use Rattle.dcc_c.specs.declared.syntax.CUn.TheVariants.{Deref}
use Rattle.dcc_c.specs.declared.syntax.CBin.TheVariants.{Sub as Less, Mul as Times, Div as Over, Rem as Rest}
use Rattle.dcc_c.specs.Dos.{Dos, Putc, Getche, Getch, Puts, Leave, dos_name, dos_signature}
use Rattle.dcc_c.specs.Grammar.{is_name}
use Rattle.dcc_c.specs.Rules.{declared_in, converts, fits, place_takes, call_fits, signature_in, expr_depth}
use Rattle.dcc_c.specs.Tree as tree
use Rattle.dcc_c.specs.Tree.{Stmt, Assign, Call, Function, Tree}
use Rattle.dcc_c.specs.Types.{bits_of, plain, pointer_to, same_type, same_base}
use Rattle.dcc_c.specs.Typing.{Declared, place_type, type_of_variable}
use Rattle.dcc_c.proofs.TypeLaws.{same_base-refl}
use Rattle.dcc_c.proofs.Writable.{is_small, is_writable_expr, is_writable_place}
use Rattle.dcc_text.specs.Allowed.{AreDeclared, IsAllowedExpr, IsAllowedStmt, StatementsAreAllowed}
use Rattle.dcc_text.specs.Meaning.{is_type_for}
use Rattle.dcc_text.specs.Spelling.{Spelling}
use Rattle.dcc_text.specs.Spelled.{Way, Low, Exact, left_way, small, unsigned_type, pointer, text, byte_quotient, byte_remainder, division_text}
use Rattle.dcc_text.specs.Stmts.{place_of, assigned, wanted_way, setting, dos_with, stmt_text}
use Rattle.dcc_text.proofs.StmtLaws.{dividing-parts}
use Rattle.dcc_text.proofs.Depths.{pointer-has, depth-some, text-has, shallow}
use Rattle.dcc_text.proofs.Typings.{IsTyped, number-typed, either, small-is, cast-typed, cast-is, binary-is, deref-is}
use Rattle.dcc_text.proofs.TypedTexts.{text-is, text-allowed, pointer-typed}

-- The text of a division.

division-is : (names : List Declared) (operator : BinOp) (width : ℕ) (a b : tree.Expr) → is_division operator ≡ true → IsAllowedExpr names width a → IsAllowedExpr names width b
    → IsAllowedExpr names width (division_text operator width a b)
division-is names operator width a b is x y = by operator is
  where
    quotient : IsAllowedExpr names width (byte_quotient a b)
    quotient =
        let dividend = binary-is names width Times _ (small 256) (cast-is names width Int (plain x.base) a (λ few. refl) (number-typed names x)) (small-is names width 256 (omega arith)) in
        binary-is names width Over _ (small 256) (binary-is names width Over _ b dividend y) (small-is names width 256 (omega arith))

    remainder : IsAllowedExpr names width (byte_remainder a b)
    remainder = binary-is names width Less a _ x (binary-is names width Times _ b quotient y)

    by : (operator : BinOp) → is_division operator ≡ true → IsAllowedExpr names width (division_text operator width a b)
    by DivS is = either names width (width == 8) (byte_quotient a b) (tree.Binary Over a b) quotient (binary-is names width Over a b x y)
    by RemS is = either names width (width == 8) (byte_remainder a b) (tree.Binary Rest a b) remainder (binary-is names width Rest a b x y)
    by DivU is = binary-is names width Over a b x y
    by RemU is = binary-is names width Rest a b x y
    by operator is = absurd (true≢false (sym is))

-- at most six levels more than its operands
division-shallow : (operator : BinOp) (width d : ℕ) (a b : tree.Expr) → is_division operator ≡ true → expr_depth a ≤ d → expr_depth b ≤ d → expr_depth (division_text operator width a b) ≤ d + 6
division-shallow operator width d a b is first second = by operator is
  where
    either-shallow : (c : Bool) (e g : tree.Expr) → expr_depth e ≤ d + 6 → expr_depth g ≤ d + 6 → expr_depth (if c then e else g) ≤ d + 6
    either-shallow true e g x y = x
    either-shallow false e g x y = y

    alone : suc (max (expr_depth a) (expr_depth b)) ≤ d + 6
    alone = omega (arith, first, second)

    by : (operator : BinOp) → is_division operator ≡ true → expr_depth (division_text operator width a b) ≤ d + 6
    by DivS is = either-shallow (width == 8) (byte_quotient a b) (tree.Binary Over a b) (omega (arith, first, second)) alone
    by RemS is = either-shallow (width == 8) (byte_remainder a b) (tree.Binary Rest a b) (omega (arith, first, second)) alone
    by DivU is = alone
    by RemU is = alone
    by operator is = absurd (true≢false (sym is))

-- DOS calls.

signature-is : (whole : Tree) (dos : Dos) → signature_in whole (dos_name dos) ≡ Some (dos_signature dos)
signature-is whole Putc = refl
signature-is whole Getche = refl
signature-is whole Getch = refl
signature-is whole Puts = refl
signature-is whole Leave = refl

dos-word : (dos : Dos) → is_name (dos_name dos) ≡ true
dos-word Putc = refl
dos-word Getche = refl
dos-word Getch = refl
dos-word Puts = refl
dos-word Leave = refl

-- 01h and 08h give a byte, 02h and 4Ch take one, 09h takes a word
giving : (number : ℕ) → (number == 0x01 || number == 0x08) ≡ true → dos_signature (dos_with number) ≡ record { result = Some (plain Uchar); params = [] }
giving number is = elim (or_cases (number == 0x01) (number == 0x08) is) [
  | inl one ↦ ap (λ n. dos_signature (dos_with n)) (eqb-true number 0x01 one)
  | inr eight ↦ ap (λ n. dos_signature (dos_with n)) (eqb-true number 0x08 eight)
]

byte-taking : (number : ℕ) → (number == 0x02 || number == 0x4C) ≡ true → dos_signature (dos_with number) ≡ record { result = None; params = plain Uchar ∷ [] }
byte-taking number is = elim (or_cases (number == 0x02) (number == 0x4C) is) [
  | inl two ↦ ap (λ n. dos_signature (dos_with n)) (eqb-true number 0x02 two)
  | inr leave ↦ ap (λ n. dos_signature (dos_with n)) (eqb-true number 0x4C leave)
]

word-taking : (number : ℕ) → (number == 0x09) ≡ true → dos_signature (dos_with number) ≡ record { result = None; params = plain Uint ∷ [] }
word-taking number is = ap (λ n. dos_signature (dos_with n)) (eqb-true number 0x09 is)

-- a type of eight bits is no pointer
byte-number : (width : ℕ) (type : CType) → (width == 8) ≡ true → is_type_for width type ≡ true → type.pointer ≡ false
byte-number width type eight typed = by type.pointer (ap (λ w. is_type_for w type) (sym (eqb-true width 8 eight)) ∙ typed)
  where
    by : (pointer : Bool) → (if pointer then 8 == 16 else bits_of type.base == 8) ≡ true → pointer ≡ false
    by true is = absurd (true≢false (sym is))
    by false is = refl

module _ (whole : Tree) (f : Function) (s : Spelling) (declared : AreDeclared (declared_in whole f) s) (limit : ℕ) where
  abbrev names : List Declared
  names = declared_in whole f

  abbrev Is : ℕ → tree.Expr → Type 0
  Is width e = IsAllowedExpr names width e

  -- Assignments.

  converts-number : (from : Base) (to : CType) → to.pointer ≡ false → converts (plain from) to ≡ true
  converts-number from to number = ap (λ b. if false || b then same_type (plain from) to else true) number

  fits-number : {width : ℕ} (to : CType) (e : tree.Expr) → to.pointer ≡ false → Is width e → fits names to e ≡ true
  fits-number to e number x = ap (λ t. elim t [ Some from ↦ converts from to | None ↦ false ]) x.typed ∙ converts-number x.base to number

  -- a place with a type, and a value that fits
  pub assign-allowed : (place e : tree.Expr) (to : CType) → is_writable_place place ≡ true → place_type names place ≡ Some to → expr_depth place ≤ limit
      → is_writable_expr e ≡ true → fits names to e ≡ true → expr_depth e ≤ limit → IsAllowedStmt whole f limit (Assign place e)
  assign-allowed place e to at typed low writable fit few = record {
    writable = λ around. and_from (is_writable_place place) (is_writable_expr e) at writable;
    allowed = ap (λ t. elim t [ Some to ↦ fits names to e | None ↦ false ]) typed ∙ fit;
    shallow = and_from (nat_le (expr_depth place) limit) (nat_le (expr_depth e) limit && true) (le-leb (expr_depth place) limit low)
        (and_from (nat_le (expr_depth e) limit) true (le-leb (expr_depth e) limit few) refl);
    alone = refl;
    no_label = refl;
    no_goto = refl;
  }

  place-typed : (location : Loc) → s.named location ≡ true → place_type names (place_of s location) ≡ Some (s.type location)
  place-typed location named = ap (option_and_then type_of_variable) (declared.variables location named).declared

  -- a value, under a cast where the variable is a pointer
  module _ (base : Base) where
    cast-fits : (pointer : Bool) (width : ℕ) (e : tree.Expr) → Is width e
        → fits names (record { base = base; pointer = pointer }) (if pointer then tree.Cast (record { base = base; pointer = pointer }) e else e) ≡ true
    cast-fits true width e x =
        ap (λ t. elim t [ Some from ↦ converts from (pointer_to base) | None ↦ false ]) (cast-typed names (pointer_to base) (plain x.base) e (number-typed names x)).typed
        ∙ and_from (same_base base base) true (same_base-refl base) refl
    cast-fits false width e x = fits-number (plain base) e refl x

  cast-writable : (pointer : Bool) (type : CType) (e : tree.Expr) → is_writable_expr e ≡ true → is_writable_expr (if pointer then tree.Cast type e else e) ≡ true
  cast-writable true type e is = is
  cast-writable false type e is = is

  cast-shallow : (pointer : Bool) (type : CType) (e : tree.Expr) → suc (expr_depth e) ≤ limit → expr_depth (if pointer then tree.Cast type e else e) ≤ limit
  cast-shallow true type e few = few
  cast-shallow false type e few = omega (arith, few)

  variable-assigned : (location : Loc) (width : ℕ) (e : tree.Expr) → s.named location ≡ true → Is width e → suc (expr_depth e) ≤ limit → IsAllowedStmt whole f limit (Assign (place_of s location) (assigned s location e))
  variable-assigned location width e named x few =
      assign-allowed (place_of s location) (assigned s location e) (s.type location) (declared.variables location named).word (place-typed location named) (omega (arith, few))
      (cast-writable (s.type location).pointer (s.type location) e x.writable)
      (cast-fits (s.type location).base (s.type location).pointer width e x)
      (cast-shallow (s.type location).pointer (s.type location) e few)

  -- DOS calls.

  call-takes : (dos : Dos) (base : Base) (width depth : ℕ) (e : tree.Expr) → dos_signature dos ≡ record { result = None; params = plain base ∷ [] } → depth ≤ 4294967295 → Is width e → expr_depth e ≤ limit
      → IsAllowedStmt whole f limit (Call None (dos_name dos) (e ∷ []) depth)
  call-takes dos base width depth e known small x few = record {
    writable = λ around. and_from (is_name (dos_name dos)) ((is_writable_expr e && true) && is_small depth) (dos-word dos)
        (and_from (is_writable_expr e && true) (is_small depth) (and_from (is_writable_expr e) true x.writable refl) (le-leb depth 4294967295 small));
    allowed = ap (call_fits names None (e ∷ [])) (signature-is whole dos ∙ ap (λ k. Some k) known) ∙ and_from (fits names (plain base) e) true (fits-number (plain base) e refl x) refl;
    shallow = and_from (nat_le (expr_depth e) limit) true (le-leb (expr_depth e) limit few) refl;
    alone = refl;
    no_label = refl;
    no_goto = refl;
  }

  call-alone : (dos : Dos) (depth : ℕ) → dos_signature dos ≡ record { result = Some (plain Uchar); params = [] } → depth ≤ 4294967295 → IsAllowedStmt whole f limit (Call None (dos_name dos) [] depth)
  call-alone dos depth known small = record {
    writable = λ around. and_from (is_name (dos_name dos)) (is_small depth) (dos-word dos) (le-leb depth 4294967295 small);
    allowed = ap (call_fits names None []) (signature-is whole dos ∙ ap (λ k. Some k) known);
    shallow = refl;
    alone = refl;
    no_label = refl;
    no_goto = refl;
  }

  call-gives : (dos : Dos) (location : Loc) (depth : ℕ) → dos_signature dos ≡ record { result = Some (plain Uchar); params = [] } → s.named location ≡ true → (s.type location).pointer ≡ false
      → depth ≤ 4294967295 → 1 ≤ limit → IsAllowedStmt whole f limit (Call (Some (place_of s location)) (dos_name dos) [] depth)
  call-gives dos location depth known named number small some = record {
    writable = λ around. and_from (is_writable_place (place_of s location)) (is_name (dos_name dos) && (true && is_small depth)) (declared.variables location named).word
        (and_from (is_name (dos_name dos)) (is_small depth) (dos-word dos) (le-leb depth 4294967295 small));
    allowed = ap (call_fits names (Some (place_of s location)) []) (signature-is whole dos ∙ ap (λ k. Some k) known)
        ∙ and_from (place_takes names (place_of s location) (plain Uchar)) true
        (ap (λ t. elim t [ Some to ↦ converts (plain Uchar) to | None ↦ false ]) (place-typed location named) ∙ converts-number Uchar (s.type location) number) refl;
    shallow = and_from (nat_le 1 limit) true (le-leb 1 limit some) refl;
    alone = refl;
    no_label = refl;
    no_goto = refl;
  }

-- Each statement.

-- the location has a variable
abbrev pub IsNamed : Spelling → Loc → Type 0
IsNamed s location = s.named location ≡ true

-- all locations that the expression reads have one
abbrev pub AreNamed : Spelling → inner.Expr → Type 0
AreNamed s e = All (IsNamed s) (reads_of e)

-- the expression has at most so many levels
abbrev pub IsLow : ℕ → inner.Expr → Type 0
IsLow levels e = depth_of e ≤ levels

module _ (whole : Tree) (f : Function) (s : Spelling) (declared : AreDeclared (declared_in whole f) s) (levels limit depth : ℕ) (enough : 6 * levels + 3 ≤ limit)
    (small_depth : depth ≤ 4294967295) where
  abbrev Allowed : Stmt → Type 0
  Allowed stmt = IsAllowedStmt whole f limit stmt

  -- what is loaded from an address, or the place where it is
  module _ (width : ℕ) (address : inner.Expr) (formed : is_expr s.bits address ≡ true) (is_word : (width_of s.bits address == 16) ≡ true) (read : AreNamed s address) where
    abbrev there : tree.Expr
    there = tree.Unary Deref (pointer s width address (text s Low false address))

    there-typed : IsTyped (declared_in whole f) (plain (unsigned_type width)) there
    there-typed =
        deref-is (declared_in whole f) (unsigned_type width) _ (pointer-typed (declared_in whole f) s declared width address _ (all_parts (IsNamed s) got_by (parts_of address) read)
        (subst (λ w. IsAllowedExpr (declared_in whole f) w (text s Low false address)) (eqb-true (width_of s.bits address) 16 is_word) (text-allowed (declared_in whole f) s declared address Low false formed read)))

    there-shallow : expr_depth there ≤ 6 * depth_of address + 2
    there-shallow =
        let d = 6 * depth_of address in
        let x = pointer-has s width d address (text s Low false address) (omega (arith, depth-some s address)) (text-has s address Low false) in
        omega (arith, x.shallow)

  expr-is : (e : inner.Expr) (way : Way) → is_expr s.bits e ≡ true → AreNamed s e → IsAllowedExpr (declared_in whole f) (width_of s.bits e) (text s way false e)
  expr-is e way formed read = text-allowed (declared_in whole f) s declared e way false formed read

  expr-shallow : (e : inner.Expr) (way : Way) → IsLow levels e → expr_depth (text s way false e) ≤ 6 * levels
  expr-shallow e way low = omega (arith, shallow s e way false, low)

  set-allowed : (location : Loc) (e : inner.Expr) → s.named location ≡ true → is_expr s.bits e ≡ true → AreNamed s e → IsLow levels e → Allowed (setting s location e)
  set-allowed location e named formed read low =
      let way = wanted_way s location in
      variable-assigned whole f s declared limit location (width_of s.bits e) (text s way false e) named (expr-is e way formed read) (omega (arith, enough, expr-shallow e way low))

  fetch-allowed : (location : Loc) (width : ℕ) (address : inner.Expr) → s.named location ≡ true → location_width s.bits location ≡ width → is_stored_width width ≡ true
      → is_expr s.bits address ≡ true → (width_of s.bits address == 16) ≡ true → AreNamed s address → IsLow levels address → Allowed (setting s location (inner.Load width address))
  fetch-allowed location width address named same stored formed is_word read low =
      variable-assigned whole f s declared limit location width (text s (wanted_way s location) false (inner.Load width address)) named
      (expr-is (inner.Load width address) (wanted_way s location)
      (and_from (is_stored_width width && is_expr s.bits address) (width_of s.bits address == 16) (and_from (is_stored_width width) (is_expr s.bits address) stored formed) is_word) read)
      (by ((location_width s.bits location == 1) && s.settled location))
    where
      -- in either way in which a variable takes a value
      by : (b : Bool) → suc (expr_depth (text s (if b then Exact else Low) false (inner.Load width address))) ≤ limit
      by true = omega (arith, enough, there-shallow width address formed is_word read, low)
      by false = omega (arith, enough, there-shallow width address formed is_word read, low)

  store-allowed : (width : ℕ) (address e : inner.Expr) → is_expr s.bits address ≡ true → (width_of s.bits address == 16) ≡ true → AreNamed s address → IsLow levels address
      → is_expr s.bits e ≡ true → AreNamed s e → IsLow levels e → Allowed (stmt_text s depth (inner.Store width address e))
  store-allowed width address e formed is_word read low e_formed e_read e_low =
      let t = there-typed width address formed is_word read in
      let x = expr-is e Low e_formed e_read in
      assign-allowed whole f s declared limit (there width address formed is_word read) (text s Low false e) (plain (unsigned_type width)) t.writable t.typed
      (omega (arith, enough, there-shallow width address formed is_word read, low)) x.writable (fits-number whole f s declared limit (plain (unsigned_type width)) (text s Low false e) refl x)
      (omega (arith, enough, expr-shallow e Low e_low))

  div-allowed : (location : Loc) (e : inner.Expr) → s.named location ≡ true → is_dividing s.bits (location_width s.bits location) e ≡ true → AreNamed s e → IsLow levels e
      → Allowed (stmt_text s depth (inner.Div location e))
  div-allowed location (inner.Binary operator width a b) named formed read low =
      let division = dividing-parts s.bits (location_width s.bits location) operator width a b formed in
      let way = left_way operator Low width in
      let names = declared_in whole f in
      let both = all_parts (IsNamed s) got_by (inner.Binary operator width a b ∷ (parts_of a ++ parts_of b)) read in
      let below = All-tail (λ e. All (IsNamed s) (got_by e)) (inner.Binary operator width a b) (parts_of a ++ parts_of b) both in
      let x = subst (λ k. IsAllowedExpr names k (text s way true a)) division.left_width
      (text-is names s declared a division.left (left_part (λ e. All (IsNamed s) (got_by e)) (parts_of a) (parts_of b) below) way true) in
      let y = subst (λ k. IsAllowedExpr names k (text s way true b)) division.right_width
      (text-is names s declared b division.right (right_part (λ e. All (IsNamed s) (got_by e)) (parts_of a) (parts_of b) below) way true) in
      let d = 6 * max (depth_of a) (depth_of b) in
      let few = division-shallow operator width d (text s way true a) (text s way true b) division.is (omega (arith, shallow s a way true)) (omega (arith, shallow s b way true)) in
      variable-assigned whole f s declared limit location width _ named (division-is names operator width _ _ division.is x y) (omega (arith, enough, few, low))
  div-allowed location e named formed read low = absurd (true≢false (sym formed))

  dos-allowed : (number : ℕ) (place : Option Loc) (argument : Option inner.Expr) → is_dos s.bits number place argument ≡ true → All (AreNamed s) (option_to_list argument) → All (IsNamed s) (option_to_list place)
      → All (IsLow levels) (option_to_list argument) → Allowed (stmt_text s depth (inner.Dos number place argument))
  dos-allowed number None (Some e) formed read written low =
      let named = All-head (AreNamed s) e [] read in
      let few = expr-shallow e Low (All-head (IsLow levels) e [] low) in
      elim (or_cases ((number == 0x02 || number == 0x4C) && is_expr_of s.bits 8 e) ((number == 0x09) && is_expr_of s.bits 16 e) formed) [
        | inl byte ↦
            (let (which, of_byte) = and_parts (number == 0x02 || number == 0x4C) (is_expr_of s.bits 8 e) byte in
            call-takes whole f s declared limit (dos_with number) Uchar _ depth _ (byte-taking number which) small_depth
            (expr-is e Low (and_parts (is_expr s.bits e) (width_of s.bits e == 8) of_byte).0 named) (omega (arith, enough, few)))
        | inr word ↦
            (let (which, of_word) = and_parts (number == 0x09) (is_expr_of s.bits 16 e) word in
            call-takes whole f s declared limit (dos_with number) Uint _ depth _ (word-taking number which) small_depth
            (expr-is e Low (and_parts (is_expr s.bits e) (width_of s.bits e == 16) of_word).0 named) (omega (arith, enough, few)))
      ]
  dos-allowed number None None formed read written low =
      call-alone whole f s declared limit (dos_with number) depth (giving number (and_parts (number == 0x01 || number == 0x08) true formed).0) small_depth
  dos-allowed number (Some location) None formed read written low =
      let (which, place) = and_parts (number == 0x01 || number == 0x08) (is_byte_place s.bits (Some location)) formed in
      let (is, eight) = and_parts (is_location s.bits location) (location_width s.bits location == 8) place in
      let named = All-head (IsNamed s) location [] written in
      call-gives whole f s declared limit (dos_with number) location depth (giving number which) named
      (byte-number (location_width s.bits location) (s.type location) eight (declared.variables location named).typed) small_depth (omega (arith, enough))
  dos-allowed number (Some location) (Some e) formed read written low = absurd (true≢false (sym formed))

  pub stmt-allowed : (stmt : inner.Stmt) → is_stmt s.bits stmt ≡ true → is_call stmt ≡ false → All (AreNamed s) (exprs_of stmt) → All (IsNamed s) (writes_of stmt) → All (IsLow levels) (exprs_of stmt)
      → Allowed (stmt_text s depth stmt)
  stmt-allowed (inner.Set location e) formed no_call read written low =
      let (place, of_width) = and_parts (is_location s.bits location) (is_expr_of s.bits (location_width s.bits location) e) formed in
      set-allowed location e (All-head (IsNamed s) location [] written) (and_parts (is_expr s.bits e) (width_of s.bits e == location_width s.bits location) of_width).0
      (All-head (AreNamed s) e [] read) (All-head (IsLow levels) e [] low)
  stmt-allowed (inner.Fetch location width address) formed no_call read written low =
      let (three, of_word) = and_parts (is_location s.bits location && is_stored_width width && (location_width s.bits location == width)) (is_expr_of s.bits 16 address) formed in
      let (two, same) = and_parts (is_location s.bits location && is_stored_width width) (location_width s.bits location == width) three in
      let (place, stored) = and_parts (is_location s.bits location) (is_stored_width width) two in
      let (is, address_width) = and_parts (is_expr s.bits address) (width_of s.bits address == 16) of_word in
      fetch-allowed location width address (All-head (IsNamed s) location [] written) (eqb-true (location_width s.bits location) width same) stored is address_width
      (All-head (AreNamed s) address [] read) (All-head (IsLow levels) address [] low)
  stmt-allowed (inner.Store width address e) formed no_call read written low =
      let (two, of_width) = and_parts (is_stored_width width && is_expr_of s.bits 16 address) (is_expr_of s.bits width e) formed in
      let (stored, of_word) = and_parts (is_stored_width width) (is_expr_of s.bits 16 address) two in
      let (is, address_width) = and_parts (is_expr s.bits address) (width_of s.bits address == 16) of_word in
      store-allowed width address e is address_width (All-head (AreNamed s) address (e ∷ []) read) (All-head (IsLow levels) address (e ∷ []) low)
      (and_parts (is_expr s.bits e) (width_of s.bits e == width) of_width).0 (All-head (AreNamed s) e [] (All-tail (AreNamed s) address (e ∷ []) read)) (All-head (IsLow levels) e [] (All-tail (IsLow levels) address (e ∷ []) low))
  stmt-allowed (inner.Div location e) formed no_call read written low =
      let (place, dividing) = and_parts (is_location s.bits location) (is_dividing s.bits (location_width s.bits location) e) formed in
      div-allowed location e (All-head (IsNamed s) location [] written) dividing (All-head (AreNamed s) e [] read) (All-head (IsLow levels) e [] low)
  stmt-allowed (inner.Call results entry arguments own) formed no_call read written low = absurd (true≢false no_call)
  stmt-allowed (inner.Dos number place argument) formed no_call read written low = dos-allowed number place argument formed read written low

pub statements-allowed : StatementsAreAllowed
statements-allowed whole f s stmt depth levels limit declared formed no_call small read written low enough =
    stmt-allowed whole f s declared levels limit depth enough small stmt formed no_call read written low
