-- Laws of expressions: more temporaries, choices in place of flags, and copies.
use Rattle.std.proofs.Common.{◌≡◌, ℕ, ◌+◌, ◌-◌, ◌/◌, ◌%◌, ◌^◌, ◌<◌, Bool, true, false, ◌||◌, not, List, [], ◌++◌, length, refl, sym, ap, ap₂, ◌∙◌, subst, true≢false, flat_map, eqb-true, ltb-true, lt-ltb, arith, length-append}
use Rattle.std.specs.Prelude.{if◌then◌else◌, ◌==◌, nat_lt, nat_le, All}
use Rattle.std.proofs.lemmas.List.Elements.{All-head}
use Rattle.dcc_run.proofs.KeptLaws.{right_part}
use Rattle.dcc_num.specs.declared.FlagName.{FlagName}
use Rattle.dcc_ir.specs.declared.syntax.Loc.{Loc}
use Rattle.dcc_ir.specs.declared.syntax.Loc.TheVariants.{Half, Flag, Cell, Temp}
use Rattle.dcc_ir.specs.declared.syntax.UnOp.{UnOp}
use Rattle.dcc_ir.specs.declared.syntax.UnOp.TheVariants.{Neg, Not, IsZero}
use Rattle.dcc_ir.specs.declared.syntax.BinOp.{BinOp}
use Rattle.dcc_ir.specs.Tree.{Expr, Const, Get, Load, Unary, Binary, Widen, Part, Join, Choose, Address}
use Rattle.dcc_ir.specs.Value.{width_of, Environment, value_of, unary_value, binary_value, bytes_at, pattern_at, signed_at, Fits}
use Rattle.dcc_ir.specs.WellFormed.{is_location, is_division, divides_safely, is_expr}
use Rattle.dcc_ir.specs.Use.{parts_of, got_by, reads_of}
use Rattle.dcc_ir.proofs.FitLaws.{value_fits}
use Rattle.dcc_ir.proofs.ListLaws.{left_part}
use Rattle.std.proofs.lemmas.List.Concat.{flat_map-append}
use Rattle.dcc_flow.proofs.FormedExprs.{binary_formed, make_binary, unary_formed, make_unary, join_formed, make_join, choose_formed, make_choose, load_formed, make_load, within_formed, make_within}
use Rattle.dcc_flags.specs.Folding.{Choices, choice, negated, with_operator, chosen, with_choices}
use Rattle.dcc_ir.proofs.passes.FormLaws.{width_more}

-- A change of expressions that keeps them well formed and their widths. `bits` are the temporaries before, `bits'` after.
pub record Formed (bits bits' : List ℕ) (e e' : Expr) : Type 0 where
  pub formed : is_expr bits' e' ≡ true
  pub width : width_of bits' e' ≡ width_of bits e

module _ (bits bits' : List ℕ) where
  same_width : (a a' : Expr) (w : ℕ) → Formed bits bits' a a' → (width_of bits a == w) ≡ true → (width_of bits' a' == w) ≡ true
  same_width a a' w h e = ap (λ n. n == w) h.width ∙ e

  pub unary_still : (operator : UnOp) (width : ℕ) (a a' : Expr) → is_expr bits (Unary operator width a) ≡ true → Formed bits bits' a a' → Formed bits bits' (Unary operator width a) (Unary operator width a')
  unary_still operator width a a' ok h =
      let f = unary_formed bits operator width a ok in
      record { formed = make_unary bits' operator width a' (record { width_ok = f.width_ok; inner = h.formed; inner_width = same_width a a' width h f.inner_width }); width = refl }

  pub binary_still : (operator : BinOp) (width : ℕ) (a b a' b' : Expr) → is_expr bits (Binary operator width a b) ≡ true → Formed bits bits' a a' → Formed bits bits' b b' →
      (divides_safely operator width b ≡ true → divides_safely operator width b' ≡ true) → Formed bits bits' (Binary operator width a b) (Binary operator width a' b')
  binary_still operator width a b a' b' ok h k safe =
      let f = binary_formed bits operator width a b ok in
      record {
        formed = make_binary bits' operator width a' b' (record {
          width_ok = f.width_ok;
          left = h.formed;
          right = k.formed;
          left_width = same_width a a' width h f.left_width;
          right_width = same_width b b' width k f.right_width;
          safe = go (not (is_division operator)) (divides_safely operator width b) f.safe safe;
        });
        width = refl;
      }
    where
      go : (x y : Bool) → (x || y) ≡ true → (y ≡ true → divides_safely operator width b' ≡ true) → (x || divides_safely operator width b') ≡ true
      go true y e safe = refl
      go false y e safe = safe e

  pub load_still : (width : ℕ) (a a' : Expr) → is_expr bits (Load width a) ≡ true → Formed bits bits' a a' → Formed bits bits' (Load width a) (Load width a')
  load_still width a a' ok h =
      let f = load_formed bits width a ok in
      record { formed = make_load bits' width a' (record { width_ok = f.width_ok; inner = h.formed; inner_width = same_width a a' 16 h f.inner_width }); width = refl }

  pub widen_still : (signed : Bool) (width : ℕ) (a a' : Expr) → is_expr bits (Widen signed width a) ≡ true → Formed bits bits' a a' → Formed bits bits' (Widen signed width a) (Widen signed width a')
  widen_still signed width a a' ok h =
      let fits = λ (n : ℕ). nat_lt n width in
      let f = within_formed bits width a fits ok in
      record { formed = make_within bits' width a' fits (record { width_ok = f.width_ok; inner = h.formed; inner_width = ap fits h.width ∙ f.inner_width }); width = refl }

  pub part_still : (width first : ℕ) (a a' : Expr) → is_expr bits (Part width first a) ≡ true → Formed bits bits' a a' → Formed bits bits' (Part width first a) (Part width first a')
  part_still width first a a' ok h =
      let fits = λ (n : ℕ). nat_le (first + width) n in
      let f = within_formed bits width a fits ok in
      record { formed = make_within bits' width a' fits (record { width_ok = f.width_ok; inner = h.formed; inner_width = ap fits h.width ∙ f.inner_width }); width = refl }

  pub join_still : (a b a' b' : Expr) → is_expr bits (Join a b) ≡ true → Formed bits bits' a a' → Formed bits bits' b b' → Formed bits bits' (Join a b) (Join a' b')
  join_still a b a' b' ok h k =
      let f = join_formed bits a b ok in
      record {
        formed = make_join bits' a' b' (record {
          upper = h.formed;
          lower = k.formed;
          same = ap₂ (λ m n. m == n) h.width k.width ∙ f.same;
          size = ap (λ n. n == 8 || n == 16) k.width ∙ f.size;
        });
        width = ap₂ (λ m n. m + n) h.width k.width;
      }

  pub choose_still : (x a b x' a' b' : Expr) → is_expr bits (Choose x a b) ≡ true → Formed bits bits' x x' → Formed bits bits' a a' → Formed bits bits' b b' → Formed bits bits' (Choose x a b) (Choose x' a' b')
  choose_still x a b x' a' b' ok g h k =
      let f = choose_formed bits x a b ok in
      record {
        formed = make_choose bits' x' a' b' (record {
          tested = g.formed;
          one = h.formed;
          other = k.formed;
          bit = same_width x x' 1 g f.bit;
          same = ap₂ (λ m n. m == n) h.width k.width ∙ f.same;
        });
        width = h.width;
      }

-- More temporaries.

pub location_more : (bits fresh : List ℕ) (l : Loc) → is_location bits l ≡ true → is_location (bits ++ fresh) l ≡ true
location_more bits fresh (Half r h) ok = refl
location_more bits fresh (Flag f) ok = refl
location_more bits fresh (Cell n h) ok = refl
location_more bits fresh (Temp n) ok =
    let less = ltb-true n (length bits) ok in
    lt-ltb n (length (bits ++ fresh)) (subst (λ m. n < m) (sym (length-append bits fresh)) (omega arith))

pub expr_more : (bits fresh : List ℕ) (e : Expr) → is_expr bits e ≡ true → Formed bits (bits ++ fresh) e e
expr_more bits fresh (Const width n) ok = record { formed = ok; width = refl }
expr_more bits fresh (Get location) ok = record { formed = location_more bits fresh location ok; width = width_more bits fresh location ok }
expr_more bits fresh (Load width a) ok = load_still bits (bits ++ fresh) width a a ok (expr_more bits fresh a (load_formed bits width a ok).inner)
expr_more bits fresh (Unary operator width a) ok = unary_still bits (bits ++ fresh) operator width a a ok (expr_more bits fresh a (unary_formed bits operator width a ok).inner)
expr_more bits fresh (Binary operator width a b) ok =
    let f = binary_formed bits operator width a b ok in
    binary_still bits (bits ++ fresh) operator width a b a b ok (expr_more bits fresh a f.left) (expr_more bits fresh b f.right) (λ safe. safe)
expr_more bits fresh (Widen signed width a) ok = widen_still bits (bits ++ fresh) signed width a a ok (expr_more bits fresh a (within_formed bits width a (λ n. nat_lt n width) ok).inner)
expr_more bits fresh (Part width first a) ok = part_still bits (bits ++ fresh) width first a a ok (expr_more bits fresh a (within_formed bits width a (λ n. nat_le (first + width) n) ok).inner)
expr_more bits fresh (Join a b) ok =
    let f = join_formed bits a b ok in
    join_still bits (bits ++ fresh) a b a b ok (expr_more bits fresh a f.upper) (expr_more bits fresh b f.lower)
expr_more bits fresh (Choose x a b) ok =
    let f = choose_formed bits x a b ok in
    choose_still bits (bits ++ fresh) x a b x a b ok (expr_more bits fresh x f.tested) (expr_more bits fresh a f.one) (expr_more bits fresh b f.other)
expr_more bits fresh (Address distance) ok = record { formed = ok; width = refl }

-- Choices in place of flags.

-- each choice is one bit
abbrev pub AreBits : List ℕ → Choices → Type 0
AreBits bits c = (f : FlagName) → (is_expr bits (choice c f) ≡ true) × (width_of bits (choice c f) ≡ 1)

negated_still : (bits : List ℕ) (width : ℕ) (a : Expr) → is_expr bits (Unary Not width a) ≡ true → Formed bits bits (Unary Not width a) (negated width a)
negated_still bits width (Unary Not w x) ok = go (w == width) refl
  where
    go : (b : Bool) → (w == width) ≡ b → Formed bits bits (Unary Not width (Unary Not w x)) (if b then x else Unary Not width (Unary Not w x))
    go true e =
        let f = unary_formed bits Not w x (unary_formed bits Not width (Unary Not w x) ok).inner in
        record { formed = f.inner; width = eqb-true (width_of bits x) w f.inner_width ∙ eqb-true w width e }
    go false e = record { formed = ok; width = refl }
negated_still bits width (Unary Neg w x) ok = record { formed = ok; width = refl }
negated_still bits width (Unary IsZero w x) ok = record { formed = ok; width = refl }
negated_still bits width (Const w n) ok = record { formed = ok; width = refl }
negated_still bits width (Get l) ok = record { formed = ok; width = refl }
negated_still bits width (Load w a) ok = record { formed = ok; width = refl }
negated_still bits width (Binary o w a b) ok = record { formed = ok; width = refl }
negated_still bits width (Widen s w a) ok = record { formed = ok; width = refl }
negated_still bits width (Part w k a) ok = record { formed = ok; width = refl }
negated_still bits width (Join a b) ok = record { formed = ok; width = refl }
negated_still bits width (Choose x a b) ok = record { formed = ok; width = refl }
negated_still bits width (Address d) ok = record { formed = ok; width = refl }

pub operator_still : (bits : List ℕ) (operator : UnOp) (width : ℕ) (a : Expr) → is_expr bits (Unary operator width a) ≡ true → Formed bits bits (Unary operator width a) (with_operator operator width a)
operator_still bits Not width a ok = negated_still bits width a ok
operator_still bits Neg width a ok = record { formed = ok; width = refl }
operator_still bits IsZero width a ok = record { formed = ok; width = refl }

-- a safe divisor is a constant
safe_chosen : (operator : BinOp) (width : ℕ) (c : Choices) (b : Expr) → divides_safely operator width b ≡ true → divides_safely operator width (with_choices c b) ≡ true
safe_chosen operator width c (Const w n) safe = safe
safe_chosen operator width c (Get l) safe = absurd (true≢false (sym safe))
safe_chosen operator width c (Load w a) safe = absurd (true≢false (sym safe))
safe_chosen operator width c (Unary o w a) safe = absurd (true≢false (sym safe))
safe_chosen operator width c (Binary o w a b) safe = absurd (true≢false (sym safe))
safe_chosen operator width c (Widen s w a) safe = absurd (true≢false (sym safe))
safe_chosen operator width c (Part w k a) safe = absurd (true≢false (sym safe))
safe_chosen operator width c (Join a b) safe = absurd (true≢false (sym safe))
safe_chosen operator width c (Choose x a b) safe = absurd (true≢false (sym safe))
safe_chosen operator width c (Address d) safe = absurd (true≢false (sym safe))

module _ (old fresh : List ℕ) (c : Choices) (are : AreBits (old ++ fresh) c) where
  abbrev all : List ℕ
  all = old ++ fresh

  chosen_still : (l : Loc) → is_location old l ≡ true → Formed old all (Get l) (chosen c l)
  chosen_still (Flag f) ok = record { formed = (are f).0; width = (are f).1 }
  chosen_still (Half r h) ok = record { formed = refl; width = refl }
  chosen_still (Cell n h) ok = record { formed = refl; width = refl }
  chosen_still (Temp n) ok = record { formed = location_more old fresh (Temp n) ok; width = width_more old fresh (Temp n) ok }

  pub choices_still : (e : Expr) → is_expr old e ≡ true → Formed old all e (with_choices c e)
  choices_still (Const width n) ok = record { formed = ok; width = refl }
  choices_still (Get location) ok = chosen_still location ok
  choices_still (Load width a) ok = load_still old all width a (with_choices c a) ok (choices_still a (load_formed old width a ok).inner)
  choices_still (Unary operator width a) ok =
      let inner = unary_still old all operator width a (with_choices c a) ok (choices_still a (unary_formed old operator width a ok).inner) in
      let done = operator_still all operator width (with_choices c a) inner.formed in
      record { formed = done.formed; width = done.width ∙ inner.width }
  choices_still (Binary operator width a b) ok =
      let f = binary_formed old operator width a b ok in
      binary_still old all operator width a b (with_choices c a) (with_choices c b) ok (choices_still a f.left) (choices_still b f.right) (safe_chosen operator width c b)
  choices_still (Widen signed width a) ok = widen_still old all signed width a (with_choices c a) ok (choices_still a (within_formed old width a (λ n. nat_lt n width) ok).inner)
  choices_still (Part width first a) ok = part_still old all width first a (with_choices c a) ok (choices_still a (within_formed old width a (λ n. nat_le (first + width) n) ok).inner)
  choices_still (Join a b) ok =
      let f = join_formed old a b ok in
      join_still old all a b (with_choices c a) (with_choices c b) ok (choices_still a f.upper) (choices_still b f.lower)
  choices_still (Choose x a b) ok =
      let f = choose_formed old x a b ok in
      choose_still old all x a b (with_choices c x) (with_choices c a) (with_choices c b) ok (choices_still x f.tested) (choices_still a f.one) (choices_still b f.other)
  choices_still (Address distance) ok = record { formed = ok; width = refl }

  -- Values.

  module _ (s t : Environment) (s_bits : s.bits ≡ old) (t_bits : t.bits ≡ all) (base : t.base ≡ s.base) (memory : t.memory ≡ s.memory) (fits : Fits t) where
    abbrev Reads : Loc → Type 0
    Reads l = value_of t (chosen c l) ≡ s.values l

    still_width : (e : Expr) → is_expr old e ≡ true → width_of t.bits (with_choices c e) ≡ width_of s.bits e
    still_width e ok = ap (λ bits. width_of bits (with_choices c e)) t_bits ∙ (choices_still e ok).width ∙ ap (λ bits. width_of bits e) (sym s_bits)

    two_parts : (xs ys : List Expr) → All Reads (flat_map got_by (xs ++ ys)) → All Reads (flat_map got_by xs) × All Reads (flat_map got_by ys)
    two_parts xs ys all =
        let all' = subst (All Reads) (flat_map-append got_by xs ys) all in
        (left_part Reads (flat_map got_by xs) (flat_map got_by ys) all', right_part Reads (flat_map got_by xs) (flat_map got_by ys) all')

    twice_not : (p n : ℕ) → n < p → n ≡ p - 1 - (p - 1 - n)
    twice_not p n less = omega arith

    -- a negation of a negation is the operand of that
    negated-value : (width : ℕ) (a : Expr) → is_expr all (Unary Not width a) ≡ true → value_of t (negated width a) ≡ unary_value Not width (value_of t a)
    negated-value width (Unary Not w x) ok = go (w == width) refl
      where
        go : (b : Bool) → (w == width) ≡ b → value_of t (if b then x else Unary Not width (Unary Not w x)) ≡ unary_value Not width (value_of t (Unary Not w x))
        go true e =
            let f = unary_formed all Not w x (unary_formed all Not width (Unary Not w x) ok).inner in
            let size : width_of t.bits x ≡ w = ap (λ bits. width_of bits x) t_bits ∙ eqb-true (width_of all x) w f.inner_width in
            let small = value_fits t fits x (ap (λ bits. is_expr bits x) t_bits ∙ f.inner) in
            let less : value_of t x < 2 ^ w = subst (λ n. value_of t x < 2 ^ n) size small in
            twice_not (2 ^ w) (value_of t x) less ∙ ap (λ m. 2 ^ m - 1 - (2 ^ w - 1 - value_of t x)) (eqb-true w width e)
        go false e = refl
    negated-value width (Unary Neg w x) ok = refl
    negated-value width (Unary IsZero w x) ok = refl
    negated-value width (Const w n) ok = refl
    negated-value width (Get l) ok = refl
    negated-value width (Load w a) ok = refl
    negated-value width (Binary o w a b) ok = refl
    negated-value width (Widen s w a) ok = refl
    negated-value width (Part w k a) ok = refl
    negated-value width (Join a b) ok = refl
    negated-value width (Choose x a b) ok = refl
    negated-value width (Address d) ok = refl

    operator-value : (operator : UnOp) (width : ℕ) (a : Expr) → is_expr all (Unary operator width a) ≡ true → value_of t (with_operator operator width a) ≡ unary_value operator width (value_of t a)
    operator-value Not width a ok = negated-value width a ok
    operator-value Neg width a ok = refl
    operator-value IsZero width a ok = refl

    -- where the choices have the values of what is read, the expressions have one value
    pub choices-value : (e : Expr) → is_expr old e ≡ true → All Reads (reads_of e) → value_of t (with_choices c e) ≡ value_of s e
    choices-value (Const width n) ok reads = refl
    choices-value (Get location) ok reads = All-head Reads location [] reads
    choices-value (Load width a) ok reads = ap₂ (λ m n. bytes_at m (width / 8) n) memory (choices-value a (load_formed old width a ok).inner reads)
    choices-value (Unary operator width a) ok reads =
        let inner = (unary_formed old operator width a ok).inner in
        operator-value operator width (with_choices c a) (unary_still old all operator width a (with_choices c a) ok (choices_still a inner)).formed
        ∙ ap (unary_value operator width) (choices-value a inner reads)
    choices-value (Binary operator width a b) ok reads =
        let f = binary_formed old operator width a b ok in
        let parts = two_parts (parts_of a) (parts_of b) reads in
        ap₂ (binary_value operator width) (choices-value a f.left parts.0) (choices-value b f.right parts.1)
    choices-value (Widen true width a) ok reads =
        let inner = (within_formed old width a (λ n. nat_lt n width) ok).inner in
        ap₂ (λ w n. pattern_at width (signed_at w n)) (still_width a inner) (choices-value a inner reads)
    choices-value (Widen false width a) ok reads = choices-value a (within_formed old width a (λ n. nat_lt n width) ok).inner reads
    choices-value (Part width first a) ok reads = ap (λ n. n / 2 ^ first % 2 ^ width) (choices-value a (within_formed old width a (λ n. nat_le (first + width) n) ok).inner reads)
    choices-value (Join high low) ok reads =
        let f = join_formed old high low ok in
        let parts = two_parts (parts_of high) (parts_of low) reads in
        let h = choices-value high f.upper parts.0 in
        let l = choices-value low f.lower parts.1 in
        let w = still_width low f.lower in
        cc
    choices-value (Choose test a b) ok reads =
        let f = choose_formed old test a b ok in
        let whole = two_parts (parts_of test ++ parts_of a) (parts_of b) reads in
        let parts = two_parts (parts_of test) (parts_of a) whole.0 in
        let n = choices-value test f.tested parts.0 in
        ap (λ n. if n == 1 then value_of t (with_choices c a) else value_of t (with_choices c b)) n
        ∙ ap₂ (λ x y. if value_of s test == 1 then x else y) (choices-value a f.one parts.1) (choices-value b f.other whole.1)
    choices-value (Address distance) ok reads = ap (λ n. (n + distance) % 65536) base
