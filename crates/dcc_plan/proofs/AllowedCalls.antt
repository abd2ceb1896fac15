-- The texts of Calls, of Rets and of opening assignments are allowed.
use Rattle.std.proofs.Common.{◌≡◌, ℕ, ◌+◌, ◌<◌, ◌≤◌, ◌^◌, Bool, true, false, List, [], ◌∷◌, ◌++◌, length, map, Option, Some, None, is_some, refl, sym, ap, ◌∙◌, subst, arith}
use Rattle.std.specs.Prelude.{◌&&◌, not, nat_le, nat_lt, option_and_then, option_map, All, Contains}
use Rattle.std.specs.List.{list_all}
use Rattle.std.proofs.lemmas.Bool.{and_parts, and_from, le-leb, ltb-true}
use Rattle.std.proofs.lemmas.List.Elements.{All-nil, All-cons, All-append, All-head, All-tail}
use Rattle.dcc_ir.specs.declared.syntax.Loc.{Loc}
use Rattle.dcc_ir.specs.declared.syntax.Put.{Put}
use Rattle.dcc_ir.specs.declared.syntax.Put.TheVariants.{Memory, One, Two}
use Rattle.dcc_ir.specs.declared.syntax.Param.{Param}
use Rattle.dcc_ir.specs.Location.{location_width}
use Rattle.dcc_ir.specs.Measure.{depth_of}
use Rattle.dcc_ir.specs.Tree as inner
use Rattle.dcc_ir.specs.Use.{reads_of}
use Rattle.dcc_ir.specs.Value.{width_of}
use Rattle.dcc_ir.specs.WellFormed.{is_expr, is_location, is_block, is_exit, is_stmt, put_width, all_ret_widths, IsGraph, IsCall}
use Rattle.dcc_ir.proofs.ReachedLaws.{all_at}
use Rattle.dcc_c.proofs.Writable.{is_small, is_writable_expr}
use Rattle.dcc_c.specs.declared.syntax.Base.{Base}
use Rattle.dcc_c.specs.declared.syntax.Base.TheVariants.{Uint}
use Rattle.dcc_c.specs.declared.syntax.CBin.TheVariants.{Shr}
use Rattle.dcc_c.specs.Grammar.{is_name}
use Rattle.dcc_c.specs.Placement.{is_register}
use Rattle.dcc_c.specs.Rules.{declared_in, declared_param, declared_local, declared_global, converts, fits, fit_all, result_fits, call_fits, signature_of, expr_depth}
use Rattle.dcc_c.specs.Run.{function_in, param_types}
use Rattle.dcc_c.specs.Tree as tree
use Rattle.dcc_c.specs.Tree.{Stmt, Function, Tree}
use Rattle.dcc_c.specs.Types.{plain}
use Rattle.dcc_c.specs.Typing.{Declared, declared_as, place_type, type_of_name, type_of_variable}
use Rattle.dcc_text.specs.Allowed.{IsAllowedExpr, IsAllowedStmt}
use Rattle.dcc_text.specs.Spelled.{Low, unsigned_type, small as shift_count, text}
use Rattle.dcc_text.specs.Spelling.{Spelling}
use Rattle.dcc_text.specs.Stmts.{place_of, stmt_text}
use Rattle.dcc_text.proofs.AllowedStmts.{assign-allowed}
use Rattle.dcc_text.proofs.Depths.{shallow}
use Rattle.dcc_text.proofs.HexLaws.{name_at-name}
use Rattle.dcc_text.proofs.TypedTexts.{text-allowed}
use Rattle.dcc_text.proofs.Typings.{IsTyped, number-typed, plain-is, small-is, binary-is, cut-is}
use Rattle.dcc_plan.specs.AllowedCalls.{IsPlaceFor, AreReadable, CallsAreAllowed, ReturnsAreAllowed, OpeningsAreAllowed}
use Rattle.dcc_variables.specs.Functions.{function_name, parameter_name, parameter, parameters_from, parameters, function_spelling, type_for, type_for_any, result_type, ret_text, low_byte, high_byte, opening, put_openings, openings_from, IsFunctionOf}
use Rattle.dcc_variables.specs.FunctionLaws.{has_name}
use Rattle.dcc_variables.proofs.DeclaredFunctions.{parameter-word, AreDeclaredFrom, all-declared}
use Rattle.dcc_plan.proofs.Returns.{type-of-any, widths-of}

pub function-word : (entry : ℕ) → is_name (function_name entry) ≡ true
function-word entry = name_at-name 102 entry refl (λ bytes. refl)

module _ (whole : Tree) (f : Function) (g : inner.Graph) (levels limit : ℕ) (place : IsPlaceFor whole f g levels limit) where
  abbrev names : List Declared
  names = declared_in whole f

  abbrev s : Spelling
  s = function_spelling g

  -- a number becomes one of any number type
  fits-any : (to : Base) {width : ℕ} (e : tree.Expr) → IsAllowedExpr names width e → fits names (plain to) e ≡ true
  fits-any to e x = ap (λ t. elim t [ Some from ↦ converts from (plain to) | None ↦ false ]) x.typed

  place-typed : (l : Loc) → has_name g l → place_type names (place_of s l) ≡ Some ((function_spelling g).type l)
  place-typed l named = ap (option_and_then type_of_variable) (place.declared.variables l named).declared

  expr-is : (e : inner.Expr) → is_expr g.bits e ≡ true → All (has_name g) (reads_of e) → IsAllowedExpr names (width_of g.bits e) (text s Low false e)
  expr-is e formed read = text-allowed names s place.declared e Low false formed read

  expr-low : (e : inner.Expr) → depth_of e ≤ levels → nat_le (expr_depth (text s Low false e)) limit ≡ true
  expr-low e few =
      let d = shallow s e Low false in
      let enough = place.enough in
      le-leb (expr_depth (text s Low false e)) limit (omega (arith, d, few, enough))

  -- Arguments.

  arguments-fit : (bits : List ℕ) (j : ℕ) (params : List Param) (es : List inner.Expr) → list_all (is_expr g.bits) es ≡ true
      → map (width_of g.bits) es ≡ map (λ p. put_width bits p.put) params → All (λ e. All (has_name g) (reads_of e)) es
      → fit_all names (map (λ v. v.type) (parameters_from bits j params)) (map (text s Low false) es) ≡ true
  arguments-fit bits j [] [] formed widths read = refl
  arguments-fit bits j [] (e ∷ es) formed widths read = absurd cc
  arguments-fit bits j (p ∷ params) [] formed widths read = absurd cc
  arguments-fit bits j (p ∷ params) (e ∷ es) formed widths read =
      let (first, rest) = and_parts (is_expr g.bits e) (list_all (is_expr g.bits) es) formed in
      let later : map (width_of g.bits) es ≡ map (λ (q : Param). put_width bits q.put) params = cc in
      and_from (fits names (plain (unsigned_type (put_width bits p.put))) (text s Low false e)) _
      (fits-any (unsigned_type (put_width bits p.put)) (text s Low false e) (expr-is e first (All-head (λ e. All (has_name g) (reads_of e)) e es read)))
      (arguments-fit bits (j + 1) params es rest later (All-tail (λ e. All (has_name g) (reads_of e)) e es read))

  arguments-writable : (es : List inner.Expr) → list_all (is_expr g.bits) es ≡ true → All (λ e. All (has_name g) (reads_of e)) es → list_all is_writable_expr (map (text s Low false) es) ≡ true
  arguments-writable [] formed read = refl
  arguments-writable (e ∷ es) formed read =
      let (first, rest) = and_parts (is_expr g.bits e) (list_all (is_expr g.bits) es) formed in
      and_from (is_writable_expr (text s Low false e)) _ (expr-is e first (All-head (λ e. All (has_name g) (reads_of e)) e es read)).writable
      (arguments-writable es rest (All-tail (λ e. All (has_name g) (reads_of e)) e es read))

  arguments-shallow : (es : List inner.Expr) → All (λ e. depth_of e ≤ levels) es → list_all (λ e. nat_le (expr_depth e) limit) (map (text s Low false) es) ≡ true
  arguments-shallow [] few = refl
  arguments-shallow (e ∷ es) few =
      and_from (nat_le (expr_depth (text s Low false e)) limit) _ (expr-low e (All-head (λ e. depth_of e ≤ levels) e es few)) (arguments-shallow es (All-tail (λ e. depth_of e ≤ levels) e es few))

  -- Calls.

  call-allowed : (p : inner.Program) (callee : Function) (results : List Loc) (entry : ℕ) (arguments : List inner.Expr) (own depth : ℕ) → is_stmt g.bits (inner.Call results entry arguments own) ≡ true
      → (call : IsCall p g results entry arguments) → IsFunctionOf call.callee (function_name entry) callee → function_in whole.functions (function_name entry) ≡ Some callee → length results ≤ 1
      → (0 < length results → 0 < length (all_ret_widths call.callee)) → All (has_name g) results → AreReadable g levels arguments
      → IsAllowedStmt whole f limit (stmt_text s depth (inner.Call results entry arguments own))
  call-allowed p callee results entry arguments own depth formed call is found one given written readable =
      by results (λ some. some-result results call.given (given some)) one written
    where
      parts : (list_all (is_expr g.bits) arguments ≡ true) × (own < 65536)
      parts =
          let (two, few) = and_parts (list_all (is_location g.bits) results && list_all (is_expr g.bits) arguments) (nat_lt own 65536) formed in
          ((and_parts (list_all (is_location g.bits) results) (list_all (is_expr g.bits) arguments) two).1, ltb-true own 65536 few)

      -- the type of what is given
      some-result : (rs : List Loc) → All (λ widths. widths ≡ map (location_width g.bits) rs) (all_ret_widths call.callee) → 0 < length (all_ret_widths call.callee)
          → callee.result ≡ type_for (map (location_width g.bits) rs)
      some-result rs same some = ap (λ h. h.result) is ∙ first (all_ret_widths call.callee) same some
        where
          first : (all : List (List ℕ)) → All (λ widths. widths ≡ map (location_width g.bits) rs) all → 0 < length all → type_for_any all ≡ type_for (map (location_width g.bits) rs)
          first [] same some = absurd (omega (arith, some))
          first (widths ∷ others) same some = ap type_for (All-head (λ widths. widths ≡ map (location_width g.bits) rs) widths others same)

      depth-small : is_small own ≡ true
      depth-small = let few = parts.1 in le-leb own 4294967295 (omega (arith, few))

      signature : (place : Option tree.Expr) → result_fits names place callee.result ≡ true
          → call_fits names place (map (text s Low false) arguments) (option_map signature_of (function_in whole.functions (function_name entry))) ≡ true
      signature place fit =
          ap (λ o. call_fits names place (map (text s Low false) arguments) (option_map signature_of o)) found
          ∙ and_from (result_fits names place callee.result) (fit_all names (param_types callee) (map (text s Low false) arguments)) fit
          (ap (λ h. fit_all names (param_types h) (map (text s Low false) arguments)) is ∙ arguments-fit call.callee.bits 0 call.callee.params arguments parts.0 call.taken readable.named)

      texts-writable : (is_name (function_name entry) && (list_all is_writable_expr (map (text s Low false) arguments) && is_small own)) ≡ true
      texts-writable = and_from (is_name (function_name entry)) _ (function-word entry) (and_from (list_all is_writable_expr (map (text s Low false) arguments)) _ (arguments-writable arguments parts.0 readable.named) depth-small)

      by : (rs : List Loc) → (0 < length rs → callee.result ≡ type_for (map (location_width g.bits) rs)) → length rs ≤ 1 → All (has_name g) rs → IsAllowedStmt whole f limit (stmt_text s depth (inner.Call rs entry arguments own))
      by [] result one written = record {
        writable = λ around. texts-writable;
        allowed = signature None refl;
        shallow = arguments-shallow arguments readable.shallow;
        alone = refl;
        no_label = refl;
        no_goto = refl;
      }
      by (l ∷ []) result one written =
          let named = All-head (has_name g) l [] written in
          let enough = place.enough in record {
            writable = λ around. and_from (is_writable_expr (place_of s l)) _ (place.declared.variables l named).word texts-writable;
            allowed = signature (Some (place_of s l)) (ap (result_fits names (Some (place_of s l))) (result (omega arith))
                ∙ ap (λ t. elim t [ Some to ↦ converts (plain (unsigned_type (location_width g.bits l))) to | None ↦ false ]) (place-typed l named));
            shallow = and_from (nat_le 1 limit) _ (le-leb 1 limit (omega (arith, enough))) (arguments-shallow arguments readable.shallow);
            alone = refl;
            no_label = refl;
            no_goto = refl;
          }
      by (l ∷ m ∷ rs) result one written = absurd (omega (arith, one))

  -- Returns.

  return-allowed : (block : inner.Block) (values : List inner.Expr) → IsGraph g → f.result ≡ result_type g → ((a b : List ℕ) → Contains (all_ret_widths g) a → Contains (all_ret_widths g) b → a ≡ b)
      → Contains g.blocks block → block.exit ≡ inner.Ret values → length values ≤ 1 → AreReadable g levels values → IsAllowedStmt whole f limit (ret_text s values)
  return-allowed block values formed result same there exit one readable = by values gives ok one readable
    where
      gives : f.result ≡ type_for (map (width_of g.bits) values)
      gives = result ∙ type-of-any (all_ret_widths g) (map (width_of g.bits) values) same (widths-of g block values there exit)

      ok : list_all (is_expr g.bits) values ≡ true
      ok =
          let whole_block = all_at (is_block g.bits (length g.blocks)) g.blocks block formed.blocks there in
          subst (λ e. is_exit g.bits (length g.blocks) e ≡ true) exit (and_parts (list_all (is_stmt g.bits) block.stmts) (is_exit g.bits (length g.blocks) block.exit) whole_block).1

      by : (es : List inner.Expr) → f.result ≡ type_for (map (width_of g.bits) es) → list_all (is_expr g.bits) es ≡ true → length es ≤ 1 → AreReadable g levels es → IsAllowedStmt whole f limit (ret_text s es)
      by [] gives ok one readable = record {
        writable = λ around. refl;
        allowed = ap (λ o. not (is_some o)) gives;
        shallow = refl;
        alone = refl;
        no_label = refl;
        no_goto = refl;
      }
      by (e ∷ []) gives ok one readable =
          let x = expr-is e (and_parts (is_expr g.bits e) true ok).0 (All-head (λ e. All (has_name g) (reads_of e)) e [] readable.named) in record {
            writable = λ around. x.writable;
            allowed = ap (λ o. elim o [ Some to ↦ fits names to (text s Low false e) | None ↦ false ]) gives ∙ fits-any (unsigned_type (width_of g.bits e)) (text s Low false e) x;
            shallow = and_from (nat_le (expr_depth (text s Low false e)) limit) true (expr-low e (All-head (λ e. depth_of e ≤ levels) e [] readable.shallow)) refl;
            alone = refl;
            no_label = refl;
            no_goto = refl;
          }
      by (e ∷ d ∷ es) gives ok one readable = absurd (omega (arith, one))

  -- Openings.

  -- a word is declared under the parameter's name
  abbrev IsDeclaredWord : ℕ → Type 0
  IsDeclaredWord j = (placed : Bool) × (declared_as names (parameter_name j) ≡ Some (record { name = parameter_name j; type = plain Uint; is_array = false; is_placed = placed }))

  word-is : (j : ℕ) → j < 2 ^ 63 → IsDeclaredWord j → IsTyped names (plain Uint) (tree.Name (parameter_name j))
  word-is j small found = record { writable = parameter-word j small; typed = ap (option_and_then type_of_name) found.1 }

  opening-allowed : (l : Loc) (e : tree.Expr) → has_name g l → IsAllowedExpr names 8 e → expr_depth e ≤ 3 → IsAllowedStmt whole f limit (tree.Assign (place_of s l) e)
  opening-allowed l e named x few =
      let enough = place.enough in
      assign-allowed whole f s place.declared limit (place_of s l) e ((function_spelling g).type l) (place.declared.variables l named).word (place-typed l named) (omega (arith, enough))
      x.writable (fits-any (unsigned_type (location_width g.bits l)) e x) (omega (arith, enough, few))

  wanted-allowed : (wanted : Bool) (l : Loc) (e : tree.Expr) → (wanted ≡ true → has_name g l) → IsAllowedExpr names 8 e → expr_depth e ≤ 3 → All (IsAllowedStmt whole f limit) (opening wanted s l e)
  wanted-allowed false l e named x few = All-nil (IsAllowedStmt whole f limit)
  wanted-allowed true l e named x few = All-cons (IsAllowedStmt whole f limit) (tree.Assign (place_of s l) e) [] (opening-allowed l e (named refl) x few) (All-nil (IsAllowedStmt whole f limit))

  module _ (opens : Loc → Bool) (opens_named : (l : Loc) → opens l ≡ true → has_name g l) where
    put-allowed : (j : ℕ) (put : Put) → j < 2 ^ 63 → ((low high : Loc) → put ≡ Two low high → IsDeclaredWord j) → All (IsAllowedStmt whole f limit) (put_openings s opens (parameter_name j) put)
    put-allowed j Memory small found = All-nil (IsAllowedStmt whole f limit)
    put-allowed j (One location) small found = All-nil (IsAllowedStmt whole f limit)
    put-allowed j (Two low high) small found =
        let word = word-is j small (found low high refl) in
        let shifted = binary-is names 16 Shr (tree.Name (parameter_name j)) (shift_count 8) (plain-is names 16 Uint _ (λ few. refl) word) (small-is names 16 8 (omega arith)) in
        All-append (IsAllowedStmt whole f limit) (opening (opens low) s low (low_byte (tree.Name (parameter_name j)))) (opening (opens high) s high (high_byte (tree.Name (parameter_name j))))
        (wanted-allowed (opens low) low _ (opens_named low) (cut-is names 8 (plain Uint) (tree.Name (parameter_name j)) word) (omega arith))
        (wanted-allowed (opens high) high _ (opens_named high) (cut-is names 8 (plain shifted.base) _ (number-typed names shifted)) (omega arith))

    module _ (params_are : f.params ≡ parameters g) where
      all-allowed : (j : ℕ) (params : List Param) → j + length params < 2 ^ 63 → AreDeclaredFrom g.bits names j params → All (IsAllowedStmt whole f limit) (openings_from s opens j params)
      all-allowed j [] few found = All-nil (IsAllowedStmt whole f limit)
      all-allowed j (p ∷ params) few found =
          All-append (IsAllowedStmt whole f limit) (put_openings s opens (parameter_name j) p.put) (openings_from s opens (j + 1) params)
          (put-allowed j p.put (omega (arith, few)) (λ low high is. (
            not (is_register (parameter g.bits j p).class),
            found.0 ∙ ap (λ put. Some (record {
              name = parameter_name j;
              type = plain (unsigned_type (put_width g.bits put));
              is_array = false;
              is_placed = not (is_register (parameter g.bits j p).class);
            })) is,
          )))
          (all-allowed (j + 1) params (omega (arith, few)) found.1)

pub calls-allowed : CallsAreAllowed
calls-allowed p whole f callee g results entry arguments own depth levels limit place formed call is found one given written readable =
    call-allowed whole f g levels limit place p callee results entry arguments own depth formed call is found one given written readable

pub returns-allowed : ReturnsAreAllowed
returns-allowed whole f g block values levels limit place formed result same there exit one readable =
    return-allowed whole f g levels limit place block values formed result same there exit one readable

pub openings-allowed : OpeningsAreAllowed
openings-allowed whole f g opens levels limit place formed few params named =
    let small = few.params in
    all-allowed whole f g levels limit place opens named params 0 g.params (omega (arith, small))
    (subst (λ vs. AreDeclaredFrom g.bits (map declared_param vs ++ (map declared_local f.locals ++ map declared_global whole.globals)) 0 g.params) (sym params)
    (all-declared g.bits 0 g.params _ (omega (arith, small))))
