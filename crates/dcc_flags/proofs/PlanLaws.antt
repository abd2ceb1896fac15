-- A graph in which flags are folded goes on as the graph before: what is chosen for a flag has its value, wherever one
-- definition alone reaches a read.
use Rattle.std.proofs.Common.{◌≡◌, ◌≢◌, ℕ, suc, ◌+◌, ◌<◌, ◌≤◌, Bool, true, false, ◌&&◌, ◌||◌, ◌⊎◌, List, ◌++◌, length, Some, None, refl, sym, ap, ap₂, ◌∙◌, subst, true≢false, slice_get, get_or, eqb-true, eq-eqb}
use Rattle.std.specs.Prelude.{◌==◌}
use Rattle.std.specs.List.{list_all}
use Rattle.dcc_num.specs.declared.FlagName.{FlagName}
use Rattle.dcc_ir.specs.declared.syntax.BinOp.{BinOp}
use Rattle.dcc_ir.specs.declared.syntax.Loc.TheVariants.{Half, Flag, Cell, Temp}
use Rattle.dcc_ir.specs.Tree.{Expr, Const, Get, Load, Unary, Binary, Widen, Part, Join, Choose, Address, Stmt, Set, Fetch, Store, Div, Call, Dos, Graph}
use Rattle.dcc_ir.specs.Location.{flag_number, location_width}
use Rattle.dcc_ir.specs.WellFormed.{is_width, is_stored_width, is_location, is_division, is_expr_of, is_byte_place, is_stmt}
use Rattle.dcc_ir.specs.Live.{block_in, follows}
use Rattle.dcc_ir.proofs.FitLaws.{both}
use Rattle.dcc_ir.proofs.LocationLaws.{flag_same}
use Rattle.dcc_flags.specs.declared.kept.Kept.{Kept}
use Rattle.dcc_flags.specs.Reaching.{Definition, Start, At, defines, Reaches, has_result}
use Rattle.dcc_flags.specs.Folding.{is_kept, choice, stmts_folded, block_folded}
use Rattle.dcc_flow.proofs.FormedExprs.{and_both}
use Rattle.dcc_flags.proofs.SpotLaws.{Spot, walked, Fine}

-- Definitions.

pub same_definition : Definition → Definition → Bool
same_definition Start Start = true
same_definition (At x j) (At y k) = (x == y) && (j == k)
same_definition a b = false

pub same_is : (a b : Definition) → same_definition a b ≡ true → a ≡ b
unfolding same_definition
same_is Start Start e = refl
same_is (At x j) (At y k) e = let parts = both (x == y) (j == k) e in ap₂ At (eqb-true x y parts.0) (eqb-true j k parts.1)
same_is Start (At y k) e = absurd (true≢false (sym e))
same_is (At x j) Start e = absurd (true≢false (sym e))

pub other_is : (a b : Definition) → same_definition a b ≡ false → a ≢ b
unfolding same_definition
other_is a b e same = true≢false (sym (itself b) ∙ ap (λ x. same_definition x b) (sym same) ∙ e)
  where
    itself : (b : Definition) → same_definition b b ≡ true
    itself Start = refl
    itself (At x j) = and_both (x == x) (j == j) (eq-eqb x x refl) (eq-eqb j j refl)

-- the statement sets the flag
pub record SetsFlag (f : FlagName) (stmt : Stmt) : Type 0 where
  pub value : Expr
  pub is : stmt ≡ Set (Flag f) value

-- a flag has one bit, and only a Set has one
pub sets_of : (bits : List ℕ) (f : FlagName) (stmt : Stmt) → is_stmt bits stmt ≡ true → has_result f stmt ≡ false → defines f stmt ≡ true → SetsFlag f stmt
sets_of bits f (Set (Flag g) e) ok none yes' =
    let one : f ≡ g = flag_same f g (eqb-true (flag_number f) (flag_number g) (or_nil (flag_number f == flag_number g) yes')) in
    record { value = e; is = ap (λ x. Set (Flag x) e) (sym one) }
  where
    or_nil : (b : Bool) → (b || false) ≡ true → b ≡ true
    or_nil true e = refl
    or_nil false e = e
sets_of bits f (Set (Half r h) e) ok none yes' = absurd (true≢false (sym yes'))
sets_of bits f (Set (Cell n h) e) ok none yes' = absurd (true≢false (sym yes'))
sets_of bits f (Set (Temp n) e) ok none yes' = absurd (true≢false (sym yes'))
sets_of bits f (Fetch (Flag g) width a) ok none yes' =
    let three = both (is_location bits (Flag g) && is_stored_width width && (location_width bits (Flag g) == width)) (is_expr_of bits 16 a) ok in
    let two = both (is_location bits (Flag g) && is_stored_width width) (location_width bits (Flag g) == width) three.0 in
    let one = both (is_location bits (Flag g)) (is_stored_width width) two.0 in
    absurd (true≢false (sym (subst (λ n. is_stored_width n ≡ true) (sym (eqb-true 1 width two.1)) one.1)))
sets_of bits f (Fetch (Half r h) width a) ok none yes' = absurd (true≢false (sym yes'))
sets_of bits f (Fetch (Cell n h) width a) ok none yes' = absurd (true≢false (sym yes'))
sets_of bits f (Fetch (Temp n) width a) ok none yes' = absurd (true≢false (sym yes'))
sets_of bits f (Store width a e) ok none yes' = absurd (true≢false (sym yes'))
sets_of bits f (Div (Flag g) (Binary o n a b)) ok none yes' = absurd (narrow n o a b ok)
  where
    narrow : (n : ℕ) (o : BinOp) (a b : Expr) → is_stmt bits (Div (Flag g) (Binary o n a b)) ≡ true → ⊥
    narrow n o a b ok =
        let three = both (is_division o && (n == 1) && is_stored_width 1 && is_expr_of bits 1 a) (is_expr_of bits 1 b) ok in
        let two = both (is_division o && (n == 1) && is_stored_width 1) (is_expr_of bits 1 a) three.0 in
        true≢false (sym (both (is_division o && (n == 1)) (is_stored_width 1) two.0).1)
sets_of bits f (Div (Flag g) (Const n m)) ok none yes' = absurd (true≢false (sym ok))
sets_of bits f (Div (Flag g) (Get l)) ok none yes' = absurd (true≢false (sym ok))
sets_of bits f (Div (Flag g) (Load n a)) ok none yes' = absurd (true≢false (sym ok))
sets_of bits f (Div (Flag g) (Unary o n a)) ok none yes' = absurd (true≢false (sym ok))
sets_of bits f (Div (Flag g) (Widen s n a)) ok none yes' = absurd (true≢false (sym ok))
sets_of bits f (Div (Flag g) (Part n k a)) ok none yes' = absurd (true≢false (sym ok))
sets_of bits f (Div (Flag g) (Join a b)) ok none yes' = absurd (true≢false (sym ok))
sets_of bits f (Div (Flag g) (Choose x a b)) ok none yes' = absurd (true≢false (sym ok))
sets_of bits f (Div (Flag g) (Address d)) ok none yes' = absurd (true≢false (sym ok))
sets_of bits f (Div (Half r h) e) ok none yes' = absurd (true≢false (sym yes'))
sets_of bits f (Div (Cell n h) e) ok none yes' = absurd (true≢false (sym yes'))
sets_of bits f (Div (Temp n) e) ok none yes' = absurd (true≢false (sym yes'))
sets_of bits f (Call results entry arguments depth) ok none yes' = absurd (true≢false (sym yes' ∙ none))
sets_of bits f (Dos number None argument) ok none yes' = absurd (true≢false (sym yes'))
sets_of bits f (Dos number (Some (Flag g)) None) ok none yes' =
    let parts = both ((number == 0x01) || (number == 0x08)) (is_byte_place bits (Some (Flag g))) ok in
    absurd (true≢false (sym parts.1))
sets_of bits f (Dos number (Some (Flag g)) (Some e)) ok none yes' = absurd (true≢false (sym ok))
sets_of bits f (Dos number (Some (Half r h)) argument) ok none yes' = absurd (true≢false (sym yes'))
sets_of bits f (Dos number (Some (Cell n h)) argument) ok none yes' = absurd (true≢false (sym yes'))
sets_of bits f (Dos number (Some (Temp n)) argument) ok none yes' = absurd (true≢false (sym yes'))

-- The plan of a folding: at which spot each block that runs reach begins, and what stands in its place.
module _ (graph after : Graph) (kept : Kept) where
  abbrev pub old : List ℕ
  old = graph.bits

  abbrev pub stmts_at : ℕ → List Stmt
  stmts_at b = (block_in graph b).stmts

  -- the spot in a block after so many statements
  abbrev pub spot_at : (ℕ → Spot) → ℕ → ℕ → Spot
  spot_at start b k = walked kept (start b) (stmts_at b) k

  -- what a definition leaves for a flag
  abbrev pub left_by : (ℕ → Spot) → FlagName → Definition → Expr
  left_by start f Start = Get (Temp (length old))
  left_by start f (At x j) = choice (spot_at start x (suc j)).choices f

  abbrev pub end_bits : (ℕ → Spot) → ℕ → List ℕ
  end_bits start b = (start b).bits ++ (stmts_folded kept (start b).bits (start b).choices (stmts_at b)).widths

  -- some definition of the flag that reaches the place has left that expression
  pub record IsLeft (start : ℕ → Spot) (f : FlagName) (b k : ℕ) (e : Expr) : Type 0 where
    pub definition : Definition
    pub reaches : Reaches graph f definition b k
    pub left : e ≡ left_by start f definition

  pub record Plan : Type 0 where
    pub widths : list_all is_width after.bits ≡ true
    pub fill : get_or after.bits (length old) 0 ≡ 1
    pub known : ℕ → Bool
    pub start : ℕ → Spot
    pub first : known 0 ≡ true
    pub edges : (b c : ℕ) → known b ≡ true → follows graph b c ≡ true → known c ≡ true
    pub within : (b : ℕ) → known b ≡ true → slice_get graph.blocks b ≡ Some (block_in graph b)
    pub placed : (b : ℕ) → known b ≡ true → slice_get after.blocks b ≡ Some (block_folded kept (start b).bits (start b).choices (block_in graph b))
    pub fine : (b : ℕ) → known b ≡ true → Fine old kept (start b)
    pub above : (b : ℕ) → known b ≡ true → length old < length (start b).bits
    pub prefix : (b : ℕ) → known b ≡ true → (more : List ℕ) × (after.bits ≡ end_bits start b ++ more)
    pub apart : (b c : ℕ) → known b ≡ true → known c ≡ true → (b == c) ≡ false → (length (end_bits start b) ≤ length (start c).bits) ⊎ (length (end_bits start c) ≤ length (start b).bits)
    pub agrees : (b : ℕ) → known b ≡ true → (f : FlagName) → is_kept kept f ≡ false → IsLeft start f b 0 (choice (start b).choices f)
