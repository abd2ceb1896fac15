-- Graphs that have more temporaries: well-formed expressions, statements and ends are so still, and a run goes on alike.
use Rattle.std.proofs.Common.{◌≡◌, ℕ, ◌+◌, ◌/◌, ◌%◌, ◌*◌, ◌^◌, Bool, true, false, ◌&&◌, ◌||◌, List, [], ◌∷◌, ◌++◌, length, Option, Some, None, refl, sym, ap, ap₂, ◌∙◌, true≢false}
use Rattle.std.specs.Prelude.{if◌then◌else◌, ◌==◌, nat_lt, nat_le}
use Rattle.std.specs.List.{list_all}
use Rattle.dcc_ir.specs.declared.syntax.Loc.{Loc}
use Rattle.dcc_ir.specs.Tree.{Expr, Const, Get, Load, Unary, Binary, Widen, Part, Join, Choose, Address, Stmt, Set, Fetch, Store, Div, Call, Dos, Exit, Goto, If, Switch, Ret, Stop}
use Rattle.dcc_ir.specs.Location.{location_width}
use Rattle.dcc_ir.specs.Value.{width_of, Environment, value_of, unary_value, binary_value, bytes_at, pattern_at, signed_at, division_at}
use Rattle.dcc_ir.specs.WellFormed.{is_stored_width, is_location, is_expr, is_expr_of, is_division, is_dividing, is_byte_place, is_dos, is_stmt, is_exit}
use Rattle.dcc_ir.specs.Dos.{dos_string}
use Rattle.dcc_ir.specs.Run.{State, scene_of, value_in, is_call, setting, storing, dividing, writing, keyed, argument_in, dos_step, stmt_step, ended, stuck}
use Rattle.dcc_run.specs.End.{Exit as ExitWith}
use Rattle.dcc_ir.proofs.FitLaws.{both}
use Rattle.dcc_ir.proofs.passes.FormLaws.{width_more}
use Rattle.dcc_flow.proofs.FormedExprs.{and_both, binary_formed, unary_formed, load_formed, within_formed, join_formed, choose_formed}
use Rattle.dcc_flags.proofs.ExprLaws.{location_more, expr_more}

-- a conjunction whose parts stay
and_still : (a b a' b' : Bool) → (a ≡ true → a' ≡ true) → (b ≡ true → b' ≡ true) → (a && b) ≡ true → (a' && b') ≡ true
and_still a b a' b' f g e = let parts = both a b e in and_both a' b' (f parts.0) (g parts.1)

or_still : (a b a' b' : Bool) → (a ≡ true → a' ≡ true) → (b ≡ true → b' ≡ true) → (a || b) ≡ true → (a' || b') ≡ true
or_still true b a' b' f g e = ap (λ x. x || b') (f refl)
or_still false b true b' f g e = refl
or_still false b false b' f g e = g e

-- the state whose graph has these temporaries
abbrev pub rebits : List ℕ → State → State
rebits bits t = record t { running = record t.running { graph = record t.running.graph { bits = bits } } }

module _ (bits fresh : List ℕ) where
  abbrev more : List ℕ
  more = bits ++ fresh

  -- Well-formed parts.

  of_more : (width : ℕ) (e : Expr) → is_expr_of bits width e ≡ true → is_expr_of more width e ≡ true
  of_more width e ok =
      let parts = both (is_expr bits e) (width_of bits e == width) ok in
      let h = expr_more bits fresh e parts.0 in
      and_both (is_expr more e) (width_of more e == width) h.formed (ap (λ n. n == width) h.width ∙ parts.1)

  dividing_more : (width : ℕ) (e : Expr) → is_dividing bits width e ≡ true → is_dividing more width e ≡ true
  dividing_more width (Binary operator w a b) ok =
      and_still (is_division operator && (w == width) && is_stored_width width && is_expr_of bits width a) (is_expr_of bits width b)
      (is_division operator && (w == width) && is_stored_width width && is_expr_of more width a) (is_expr_of more width b)
      (and_still (is_division operator && (w == width) && is_stored_width width) (is_expr_of bits width a) (is_division operator && (w == width) && is_stored_width width) (is_expr_of more width a) (λ e. e) (of_more width a))
      (of_more width b) ok
  dividing_more width e ok = absurd (true≢false (sym ok))

  -- a location of this width
  placed_more : (location : Loc) (Q : ℕ → Bool) → (is_location bits location && Q (location_width bits location)) ≡ true → (is_location more location && Q (location_width more location)) ≡ true
  placed_more location Q ok =
      let parts = both (is_location bits location) (Q (location_width bits location)) ok in
      and_both (is_location more location) (Q (location_width more location)) (location_more bits fresh location parts.0) (ap Q (width_more bits fresh location parts.0) ∙ parts.1)

  dos_more : (number : ℕ) (place : Option Loc) (argument : Option Expr) → is_dos bits number place argument ≡ true → is_dos more number place argument ≡ true
  dos_more number None (Some e) ok =
      or_still ((number == 0x02 || number == 0x4C) && is_expr_of bits 8 e) ((number == 0x09) && is_expr_of bits 16 e) ((number == 0x02 || number == 0x4C) && is_expr_of more 8 e) ((number == 0x09) && is_expr_of more 16 e)
      (and_still (number == 0x02 || number == 0x4C) (is_expr_of bits 8 e) (number == 0x02 || number == 0x4C) (is_expr_of more 8 e) (λ x. x) (of_more 8 e))
      (and_still (number == 0x09) (is_expr_of bits 16 e) (number == 0x09) (is_expr_of more 16 e) (λ x. x) (of_more 16 e)) ok
  dos_more number None None ok = ok
  dos_more number (Some l) None ok =
      and_still (number == 0x01 || number == 0x08) (is_byte_place bits (Some l)) (number == 0x01 || number == 0x08) (is_byte_place more (Some l)) (λ x. x) (placed_more l (λ n. n == 8)) ok
  dos_more number (Some l) (Some e) ok = absurd (true≢false (sym ok))

  all_more : {A : Type 0} (f g : A → Bool) → ((x : A) → f x ≡ true → g x ≡ true) → (xs : List A) → list_all f xs ≡ true → list_all g xs ≡ true
  all_more f g to [] ok = refl
  all_more f g to (x ∷ xs) ok = and_still (f x) (list_all f xs) (g x) (list_all g xs) (to x) (all_more f g to xs) ok

  pub locations_more : (ls : List Loc) → list_all (is_location bits) ls ≡ true → list_all (is_location more) ls ≡ true
  locations_more ls ok = all_more (is_location bits) (is_location more) (location_more bits fresh) ls ok

  pub exprs_more : (es : List Expr) → list_all (is_expr bits) es ≡ true → list_all (is_expr more) es ≡ true
  exprs_more es ok = all_more (is_expr bits) (is_expr more) (λ e formed. (expr_more bits fresh e formed).formed) es ok

  pub stmt_more : (stmt : Stmt) → is_stmt bits stmt ≡ true → is_stmt more stmt ≡ true
  stmt_more (Set l e) ok =
      let parts = both (is_location bits l) (is_expr_of bits (location_width bits l) e) ok in
      and_both (is_location more l) (is_expr_of more (location_width more l) e) (location_more bits fresh l parts.0)
      (ap (λ n. is_expr_of more n e) (width_more bits fresh l parts.0) ∙ of_more (location_width bits l) e parts.1)
  stmt_more (Fetch l width a) ok =
      let three = both (is_location bits l && is_stored_width width && (location_width bits l == width)) (is_expr_of bits 16 a) ok in
      let two = both (is_location bits l && is_stored_width width) (location_width bits l == width) three.0 in
      let one = both (is_location bits l) (is_stored_width width) two.0 in
      and_both (is_location more l && is_stored_width width && (location_width more l == width)) (is_expr_of more 16 a)
      (and_both (is_location more l && is_stored_width width) (location_width more l == width) (and_both (is_location more l) (is_stored_width width) (location_more bits fresh l one.0) one.1)
      (ap (λ n. n == width) (width_more bits fresh l one.0) ∙ two.1)) (of_more 16 a three.1)
  stmt_more (Store width a e) ok =
      and_still (is_stored_width width && is_expr_of bits 16 a) (is_expr_of bits width e) (is_stored_width width && is_expr_of more 16 a) (is_expr_of more width e)
      (and_still (is_stored_width width) (is_expr_of bits 16 a) (is_stored_width width) (is_expr_of more 16 a) (λ x. x) (of_more 16 a)) (of_more width e) ok
  stmt_more (Div l e) ok =
      let parts = both (is_location bits l) (is_dividing bits (location_width bits l) e) ok in
      and_both (is_location more l) (is_dividing more (location_width more l) e) (location_more bits fresh l parts.0)
      (ap (λ n. is_dividing more n e) (width_more bits fresh l parts.0) ∙ dividing_more (location_width bits l) e parts.1)
  stmt_more (Call results entry arguments depth) ok =
      and_still (list_all (is_location bits) results && list_all (is_expr bits) arguments) (nat_lt depth 65536) (list_all (is_location more) results && list_all (is_expr more) arguments) (nat_lt depth 65536)
      (and_still (list_all (is_location bits) results) (list_all (is_expr bits) arguments) (list_all (is_location more) results) (list_all (is_expr more) arguments) (locations_more results) (exprs_more arguments)) (λ x. x) ok
  stmt_more (Dos number place argument) ok = dos_more number place argument ok

  pub exit_more : (count : ℕ) (exit : Exit) → is_exit bits count exit ≡ true → is_exit more count exit ≡ true
  exit_more count (Goto place) ok = ok
  exit_more count (If test one other) ok =
      and_still (is_expr_of bits 1 test && nat_lt one count) (nat_lt other count) (is_expr_of more 1 test && nat_lt one count) (nat_lt other count)
      (and_still (is_expr_of bits 1 test) (nat_lt one count) (is_expr_of more 1 test) (nat_lt one count) (of_more 1 test) (λ x. x)) (λ x. x) ok
  exit_more count (Switch e places) ok =
      and_still (is_expr_of bits 16 e && nat_le (length places) 65536) (list_all (λ place. nat_lt place count) places) (is_expr_of more 16 e && nat_le (length places) 65536) (list_all (λ place. nat_lt place count) places)
      (and_still (is_expr_of bits 16 e) (nat_le (length places) 65536) (is_expr_of more 16 e) (nat_le (length places) 65536) (of_more 16 e) (λ x. x)) (λ x. x) ok
  exit_more count (Ret values) ok = exprs_more values ok
  exit_more count Stop ok = refl

  -- Values.

  abbrev in_bits : List ℕ → Environment → Environment
  in_bits bits scene = record scene { bits = bits }

  value-more : (scene : Environment) (e : Expr) → is_expr bits e ≡ true → value_of (in_bits more scene) e ≡ value_of (in_bits bits scene) e
  value-more scene (Const width n) ok = refl
  value-more scene (Get location) ok = refl
  value-more scene (Load width a) ok = ap (bytes_at scene.memory (width / 8)) (value-more scene a (load_formed bits width a ok).inner)
  value-more scene (Unary operator width a) ok = ap (unary_value operator width) (value-more scene a (unary_formed bits operator width a ok).inner)
  value-more scene (Binary operator width a b) ok =
      let f = binary_formed bits operator width a b ok in
      ap₂ (binary_value operator width) (value-more scene a f.left) (value-more scene b f.right)
  value-more scene (Widen true width a) ok =
      let inner = (within_formed bits width a (λ n. nat_lt n width) ok).inner in
      ap₂ (λ w n. pattern_at width (signed_at w n)) (expr_more bits fresh a inner).width (value-more scene a inner)
  value-more scene (Widen false width a) ok = value-more scene a (within_formed bits width a (λ n. nat_lt n width) ok).inner
  value-more scene (Part width first a) ok = ap (λ n. n / 2 ^ first % 2 ^ width) (value-more scene a (within_formed bits width a (λ n. nat_le (first + width) n) ok).inner)
  value-more scene (Join high low) ok =
      let f = join_formed bits high low ok in
      ap₂ (λ w h. h * 2 ^ w + value_of (in_bits more scene) low) (expr_more bits fresh low f.lower).width (value-more scene high f.upper)
      ∙ ap (λ l. value_of (in_bits bits scene) high * 2 ^ width_of bits low + l) (value-more scene low f.lower)
  value-more scene (Choose test a b) ok =
      let f = choose_formed bits test a b ok in
      ap (λ n. if n == 1 then value_of (in_bits more scene) a else value_of (in_bits more scene) b) (value-more scene test f.tested)
      ∙ ap₂ (λ x y. if value_of (in_bits bits scene) test == 1 then x else y) (value-more scene a f.one) (value-more scene b f.other)
  value-more scene (Address distance) ok = refl

  -- Runs.

  module _ (t : State) (is : t.running.graph.bits ≡ more) where
    pub value-same : (e : Expr) → is_expr bits e ≡ true → value_in t e ≡ value_in (rebits bits t) e
    value-same e ok = ap (λ b. value_of (in_bits b (scene_of t)) e) is ∙ value-more (scene_of t) e ok

    if_same : (b : Bool) (x y x' y' : State) → rebits bits x ≡ x' → rebits bits y ≡ y' → rebits bits (if b then x else y) ≡ (if b then x' else y')
    if_same true x y x' y' p q = p
    if_same false x y x' y' p q = q

    dividing-same : (location : Loc) (n : Option ℕ) → rebits bits (dividing location n t) ≡ dividing location n (rebits bits t)
    dividing-same location (Some n) = refl
    dividing-same location None = refl

    keyed-same : (echo : Bool) (place : Option Loc) (input : List ℕ) → rebits bits (keyed echo place input t) ≡ keyed echo place input (rebits bits t)
    keyed-same echo (Some l) [] = refl
    keyed-same echo None [] = refl
    keyed-same echo (Some l) (byte ∷ input) = refl
    keyed-same echo None (byte ∷ input) = refl

    dos-same : (number : ℕ) (place : Option Loc) (n : ℕ) → rebits bits (dos_step number place n t) ≡ dos_step number place n (rebits bits t)
    dos-same number place n =
        let t' = rebits bits t in
        if_same (number == 0x02) _ _ (writing (n ∷ []) t') _ refl
        (if_same (number == 0x4C) _ _ (ended (ExitWith n) t') _ refl
        (if_same (number == 0x01) _ _ (keyed true place t.input t') _ (keyed-same true place t.input)
        (if_same (number == 0x08) _ _ (keyed false place t.input t') _ (keyed-same false place t.input)
        (if_same (number == 0x09) _ _ (writing (dos_string t.memory n) t') (stuck t') refl refl))))

    argument-same : (number : ℕ) (place : Option Loc) (argument : Option Expr) → is_dos bits number place argument ≡ true → argument_in t argument ≡ argument_in (rebits bits t) argument
    argument-same number place None ok = refl
    argument-same number None (Some e) ok =
        value-same e (formed ((number == 0x02 || number == 0x4C)) (number == 0x09) ok)
      where
        formed : (a b : Bool) → ((a && is_expr_of bits 8 e) || (b && is_expr_of bits 16 e)) ≡ true → is_expr bits e ≡ true
        formed true b ok = either (is_expr bits e) (width_of bits e == 8) b ok
          where
            either : (x y b : Bool) → ((x && y) || (b && (x && (width_of bits e == 16)))) ≡ true → x ≡ true
            either true y b e = refl
            either false y true e = absurd (true≢false (sym e))
            either false y false e = absurd (true≢false (sym e))
        formed false true ok = (both (is_expr bits e) (width_of bits e == 16) ok).0
        formed false false ok = absurd (true≢false (sym ok))
    argument-same number (Some l) (Some e) ok = absurd (true≢false (sym ok))

    -- a statement does the same
    pub step-same : (stmt : Stmt) → is_call stmt ≡ false → is_stmt bits stmt ≡ true → rebits bits (stmt_step stmt t) ≡ stmt_step stmt (rebits bits t)
    step-same (Set l e) plain ok =
        let parts = both (is_location bits l) (is_expr_of bits (location_width bits l) e) ok in
        ap (λ n. setting l n (rebits bits t)) (value-same e (both (is_expr bits e) (width_of bits e == location_width bits l) parts.1).0)
    step-same (Fetch l width a) plain ok =
        let parts = both (is_location bits l && is_stored_width width && (location_width bits l == width)) (is_expr_of bits 16 a) ok in
        ap (λ n. setting l (bytes_at t.memory (width / 8) n) (rebits bits t)) (value-same a (both (is_expr bits a) (width_of bits a == 16) parts.1).0)
    step-same (Store width a e) plain ok =
        let two = both (is_stored_width width && is_expr_of bits 16 a) (is_expr_of bits width e) ok in
        let one = both (is_stored_width width) (is_expr_of bits 16 a) two.0 in
        ap₂ (λ m n. storing width m n (rebits bits t)) (value-same a (both (is_expr bits a) (width_of bits a == 16) one.1).0)
        (value-same e (both (is_expr bits e) (width_of bits e == width) two.1).0)
    step-same (Div l e) plain ok = division-same e (both (is_location bits l) (is_dividing bits (location_width bits l) e) ok).1
      where
        division-same : (e : Expr) → is_dividing bits (location_width bits l) e ≡ true → rebits bits (stmt_step (Div l e) t) ≡ stmt_step (Div l e) (rebits bits t)
        division-same (Binary operator w a b) ok =
            let w' = location_width bits l in
            let four = both (is_division operator && (w == w') && is_stored_width w' && is_expr_of bits w' a) (is_expr_of bits w' b) ok in
            let three = both (is_division operator && (w == w') && is_stored_width w') (is_expr_of bits w' a) four.0 in
            dividing-same l (division_at operator w (value_in t a) (value_in t b))
            ∙ ap₂ (λ m n. dividing l (division_at operator w m n) (rebits bits t)) (value-same a (both (is_expr bits a) (width_of bits a == w') three.1).0)
            (value-same b (both (is_expr bits b) (width_of bits b == w') four.1).0)
        division-same e ok = absurd (true≢false (sym ok))
    step-same (Call results entry arguments depth) plain ok = absurd (true≢false plain)
    step-same (Dos number place argument) plain ok =
        dos-same number place (argument_in t argument) ∙ ap (λ n. dos_step number place n (rebits bits t)) (argument-same number place argument ok)
