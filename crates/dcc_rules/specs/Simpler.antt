-- What stays where one expression takes the place of another, under the widths of one graph's temporaries.
use Rattle.std.specs.Prelude.{◌≡◌, ℕ, ◌<◌, ◌≤◌, ◌==◌, Bool, true, List}
use Rattle.std.specs.List.{list_any, list_all}
use Rattle.dcc_ir.specs.Tree.{Expr, Const}
use Rattle.dcc_ir.specs.Value.{width_of, Environment, value_of, Fits}
use Rattle.dcc_ir.specs.WellFormed.{is_expr}
use Rattle.dcc_ir.specs.Use.{reads_of, addresses_of}
use Rattle.dcc_ir.specs.Live.{is_among}
use Rattle.dcc_ir.specs.Measure.{nodes_of, depth_of, truths_of}
use Rattle.dcc_ir.specs.Rules.{are_widths}

-- the distance is one of the list
abbrev pub is_distance_among : List ℕ → ℕ → Bool
is_distance_among distances distance = list_any (λ other. distance == other) distances

-- The other expression is well formed under these widths, and has the width of the given one and its value in every
-- state.
pub record MeansSame (bits : List ℕ) (given other : Expr) : Type 0 where
  pub formed : is_expr bits other ≡ true
  pub width : width_of bits other ≡ width_of bits given
  pub value : (scene : Environment) → scene.bits ≡ bits → Fits scene → value_of scene other ≡ value_of scene given

-- The other expression means the same wherever the given one is well formed under these widths.
abbrev pub KeepsMeaning : List ℕ → Expr → Expr → Type 0
KeepsMeaning bits given other = are_widths bits ≡ true → is_expr bits given ≡ true → MeansSame bits given other

-- The other expression is no deeper, has no more truth nodes, and reads no location and no address that the given one
-- does not read.
pub record AddsNothing (given other : Expr) : Type 0 where
  pub depth : depth_of other ≤ depth_of given
  pub truths : truths_of other ≤ truths_of given
  pub reads : list_all (is_among (reads_of given)) (reads_of other) ≡ true
  pub addresses : list_all (is_distance_among (addresses_of given)) (addresses_of other) ≡ true

-- The other expression keeps the meaning of the given one under these widths, adds nothing and has fewer nodes.
pub record IsSimplerUnder (bits : List ℕ) (given other : Expr) : Type 0 where
  pub meaning : KeepsMeaning bits given other
  pub nodes : nodes_of other < nodes_of given
  pub adds : AddsNothing given other

-- The other expression may take the place of the given one in every expression under these widths: it keeps the
-- meaning, adds nothing and has no more nodes, and a constant stays as it is.
pub record IsReduced (bits : List ℕ) (given other : Expr) : Type 0 where
  pub meaning : KeepsMeaning bits given other
  pub nodes : nodes_of other ≤ nodes_of given
  pub adds : AddsNothing given other
  pub constant : (width n : ℕ) → given ≡ Const width n → other ≡ given
