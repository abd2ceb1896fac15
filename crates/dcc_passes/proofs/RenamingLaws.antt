-- Trees with other locations: their widths and values.
use Rattle.std.proofs.Common.{◌≡◌, ℕ, true, false, List, [], ◌∷◌, ◌++◌, refl, ap, ap₂, ◌∙◌, subst, map, flat_map}
use Rattle.std.specs.Prelude.{if◌then◌else◌, ◌==◌, ◌/◌, ◌%◌, ◌+◌, ◌*◌, ◌^◌, All}
use Rattle.std.proofs.lemmas.List.Elements.{All-head, All-weaker}
use Rattle.std.proofs.lemmas.List.Concat.{flat_map-append}
use Rattle.dcc_run.proofs.KeptLaws.{right_part}
use Rattle.dcc_ir.specs.declared.syntax.Loc.{Loc}
use Rattle.dcc_ir.specs.Tree.{Expr, Const, Get, Load, Unary, Binary, Widen, Part, Join, Choose, Address, Exit, Goto, If, Switch, Ret, Stop}
use Rattle.dcc_ir.specs.Location.{location_width}
use Rattle.dcc_ir.specs.Value.{Environment, value_of, unary_value, binary_value, bytes_at, division_of, division_at, width_of, pattern_at, signed_at}
use Rattle.dcc_ir.specs.Use.{parts_of, got_by, reads_of}
use Rattle.dcc_ir.specs.Flow.{targets}
use Rattle.dcc_ir.specs.WellFormed.{is_jump}
use Rattle.dcc_ir.proofs.ListLaws.{left_part}
use Rattle.dcc_passes.specs.Renaming.{renamed, renamed_exit}

-- what holds of what the expressions of two lists read
pub in-both : (P : Loc → Type 0) (xs ys : List Expr) → All P (flat_map got_by (xs ++ ys)) → All P (flat_map got_by xs) × All P (flat_map got_by ys)
in-both P xs ys all =
    let joined = subst (All P) (flat_map-append got_by xs ys) all in
    (left_part P (flat_map got_by xs) (flat_map got_by ys) joined, right_part P (flat_map got_by xs) (flat_map got_by ys) joined)

module _ (bits bits' : List ℕ) (read : Loc → Loc) where
  abbrev Wide : Loc → Type 0
  Wide l = location_width bits' (read l) ≡ location_width bits l

  pub width-renamed : (e : Expr) → All Wide (reads_of e) → width_of bits' (renamed read e) ≡ width_of bits e
  width-renamed (Const width n) all = refl
  width-renamed (Get location) all = All-head Wide location [] all
  width-renamed (Load width a) all = refl
  width-renamed (Unary operator width a) all = refl
  width-renamed (Binary operator width a b) all = refl
  width-renamed (Widen signed width a) all = refl
  width-renamed (Part width first a) all = refl
  width-renamed (Join high low) all =
      let parts = in-both Wide (parts_of high) (parts_of low) all in
      ap₂ (λ m n. m + n) (width-renamed high parts.0) (width-renamed low parts.1)
  width-renamed (Choose test a b) all =
      let whole = in-both Wide (parts_of test ++ parts_of a) (parts_of b) all in
      let parts = in-both Wide (parts_of test) (parts_of a) whole.0 in
      width-renamed a parts.1
  width-renamed (Address distance) all = refl

  pub widths-renamed : (es : List Expr) → All Wide (flat_map reads_of es) → map (width_of bits') (map (renamed read) es) ≡ map (width_of bits) es
  widths-renamed [] all = refl
  widths-renamed (e ∷ es) all =
      ap₂ (λ n ns. n ∷ ns) (width-renamed e (left_part Wide (reads_of e) (flat_map reads_of es) all)) (widths-renamed es (right_part Wide (reads_of e) (flat_map reads_of es) all))

module _ (s t : Environment) (base : t.base ≡ s.base) (memory : t.memory ≡ s.memory) (read : Loc → Loc) where
  -- what is read in its place has the location's value and width
  pub record ReadsSame (l : Loc) : Type 0 where
    pub value : t.values (read l) ≡ s.values l
    pub width : location_width t.bits (read l) ≡ location_width s.bits l

  wide : (ls : List Loc) → All ReadsSame ls → All (λ l. location_width t.bits (read l) ≡ location_width s.bits l) ls
  wide ls all = All-weaker ReadsSame (λ l. location_width t.bits (read l) ≡ location_width s.bits l) (λ l h. h.width) ls all

  pub value-renamed : (e : Expr) → All ReadsSame (reads_of e) → value_of t (renamed read e) ≡ value_of s e
  value-renamed (Const width n) all = refl
  value-renamed (Get location) all = (All-head ReadsSame location [] all).value
  value-renamed (Load width a) all = ap₂ (λ m n. bytes_at m (width / 8) n) memory (value-renamed a all)
  value-renamed (Unary operator width a) all = ap (unary_value operator width) (value-renamed a all)
  value-renamed (Binary operator width a b) all =
      let parts = in-both ReadsSame (parts_of a) (parts_of b) all in
      ap₂ (binary_value operator width) (value-renamed a parts.0) (value-renamed b parts.1)
  value-renamed (Widen true width a) all = ap₂ (λ w n. pattern_at width (signed_at w n)) (width-renamed s.bits t.bits read a (wide (reads_of a) all)) (value-renamed a all)
  value-renamed (Widen false width a) all = value-renamed a all
  value-renamed (Part width first a) all = ap (λ n. n / 2 ^ first % 2 ^ width) (value-renamed a all)
  value-renamed (Join high low) all =
      let parts = in-both ReadsSame (parts_of high) (parts_of low) all in
      let h = value-renamed high parts.0 in
      let l = value-renamed low parts.1 in
      let w = width-renamed s.bits t.bits read low (wide (reads_of low) parts.1) in
      ap₂ (λ x n. x * 2 ^ width_of t.bits (renamed read low) + n) h l
      ∙ ap (λ w. value_of s high * 2 ^ w + value_of s low) w
  value-renamed (Choose test a b) all =
      let whole = in-both ReadsSame (parts_of test ++ parts_of a) (parts_of b) all in
      let parts = in-both ReadsSame (parts_of test) (parts_of a) whole.0 in
      ap (λ n. if n == 1 then value_of t (renamed read a) else value_of t (renamed read b)) (value-renamed test parts.0)
      ∙ ap₂ (λ x y. if value_of s test == 1 then x else y) (value-renamed a parts.1) (value-renamed b whole.1)
  value-renamed (Address distance) all = ap (λ n. (n + distance) % 65536) base

  pub values-renamed : (es : List Expr) → All ReadsSame (flat_map reads_of es) → map (value_of t) (map (renamed read) es) ≡ map (value_of s) es
  values-renamed [] all = refl
  values-renamed (e ∷ es) all =
      ap₂ (λ n ns. n ∷ ns) (value-renamed e (left_part ReadsSame (reads_of e) (flat_map reads_of es) all))
      (values-renamed es (right_part ReadsSame (reads_of e) (flat_map reads_of es) all))

  pub division-renamed : (e : Expr) → All ReadsSame (reads_of e) → division_of t (renamed read e) ≡ division_of s e
  division-renamed (Binary operator width a b) all =
      let parts = in-both ReadsSame (parts_of a) (parts_of b) all in
      ap₂ (division_at operator width) (value-renamed a parts.0) (value-renamed b parts.1)
  division-renamed e all = refl

-- Ends of blocks.

pub targets-renamed : (read : Loc → Loc) (exit : Exit) → targets (renamed_exit read exit) ≡ targets exit
targets-renamed read (Goto place) = refl
targets-renamed read (If test one other) = refl
targets-renamed read (Switch e places) = refl
targets-renamed read (Ret values) = refl
targets-renamed read Stop = refl

pub jumps-renamed : (read : Loc → Loc) (exit : Exit) → is_jump (renamed_exit read exit) ≡ is_jump exit
jumps-renamed read (Goto place) = refl
jumps-renamed read (If test one other) = refl
jumps-renamed read (Switch e places) = refl
jumps-renamed read (Ret values) = refl
jumps-renamed read Stop = refl
