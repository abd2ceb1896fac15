-- From where a run comes to a point without a step of the text.
use Rattle.std.proofs.Common.{◌≡◌, ℕ, Bool, false, length, sym, subst}
use Rattle.dcc_ir.specs.Live.{block_in}
use Rattle.dcc_ir.specs.Tree as inner
use Rattle.dcc_control.specs.Valid.{Point, Begin, Before, Leads, is_there, begins, goes, stops, only_begins}
use Rattle.dcc_plan_check.specs.declared.point.Point.{Point as PointOf}
use Rattle.dcc_plan_check.specs.declared.point.Point.TheVariants.{Begin as BeginOf, Before as BeforeOf}
use Rattle.dcc_plan_check.specs.Checked.{point_of}

module _ (graph : inner.Graph) (begun : ℕ → Bool) where
  pub there : (at to : PointOf) → at ≡ to → Leads graph begun (point_of at) (point_of to)
  there at to same = subst (λ p. Leads graph begun (point_of at) (point_of p)) same is_there

  pub on-from-begin : (at : PointOf) (b : ℕ) → at ≡ BeginOf b → only_begins graph begun b ≡ false → (to : Point)
      → Leads graph begun (Before b 0) to → Leads graph begun (point_of at) to
  on-from-begin at b is passes to rest = subst (λ p. Leads graph begun (point_of p) to) (sym is) (begins passes rest)

  pub on-from-end : (at : PointOf) (b m next : ℕ) → at ≡ BeforeOf b m → m ≡ length (block_in graph b).stmts
      → (block_in graph b).exit ≡ inner.Goto next → (to : Point) → Leads graph begun (Begin next) to → Leads graph begun (point_of at) to
  on-from-end at b m next is last exit to rest = subst (λ p. Leads graph begun (point_of p) to) (sym is) (goes last exit rest)

  pub no-further : (at : PointOf) (b m : ℕ) (to : Point) → at ≡ BeforeOf b m → m ≡ length (block_in graph b).stmts
      → (block_in graph b).exit ≡ inner.Stop → Leads graph begun (point_of at) to
  no-further at b m to is last exit = subst (λ p. Leads graph begun (point_of p) to) (sym is) (stops last exit)
