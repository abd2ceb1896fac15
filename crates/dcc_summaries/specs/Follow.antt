-- What a location that is wanted before a point makes wanted before the points from which control comes there.
use Rattle.std.specs.Prelude.{ℕ, zero, suc, ◌==◌, Bool, false, ◌&&◌, List, [], ◌∷◌, ◌++◌, length, map, get_or}
use Rattle.std.specs.Prelude.{if◌then◌else◌, Option, Some, None}
use Rattle.dcc_ir.specs.declared.syntax.Loc.{Loc}
use Rattle.dcc_ir.specs.Tree.{Stmt, Program}
use Rattle.dcc_ir.specs.Demand.{makes_of}
use Rattle.dcc_ir.specs.Live.{is_among, block_in}
use Rattle.dcc_ir.specs.Location.{same_location}
use Rattle.dcc_ir.specs.Passing.{passed}
use Rattle.dcc_sums.specs.Points.{Site, Executes}
use Rattle.dcc_sums.specs.Instance.{passes, written_by, callee_of}
use Rattle.dcc_modref.specs.States.{told_in as list_tells}
use Rattle.dcc_summaries.specs.declared.points.Point.{Point}
use Rattle.dcc_summaries.specs.declared.table.Want.{Want}
use Rattle.dcc_summaries.specs.declared.ways.Port.{Port}
use Rattle.dcc_summaries.specs.Points.{point_at, graph_in, site_in}
use Rattle.dcc_summaries.specs.Ways.{ports_of}
use Rattle.dcc_summaries.specs.Demands.{want_at, wants_at}

-- Which procedure changes which location, by a list of truth values for each location.

abbrev pub changed_among : List Loc → List (List Bool) → ℕ → Loc → Bool
changed_among (x ∷ xs) (changed ∷ lists) entry location =
    if same_location location x then list_tells changed entry else changed_among xs lists entry location
changed_among xs lists entry location = false

-- whether a procedure changes a location, by a list for each half and flag that passes, in their order
abbrev pub changed_in : List (List Bool) → ℕ → Loc → Bool
changed_in lists = changed_among passed lists

-- the calls, or the returns, of the procedure want the location
abbrev pub wants_of : ℕ → List Port → Loc → List Want
wants_of entry ports location = map (λ port. want_at port.at location) (ports_of entry ports)

module _ (changed : ℕ → Loc → Bool) (returns : List Port) where
  -- What follows from a location that is wanted after a call that doesn't write it: where the callee changes it, it is
  -- wanted at the callee's returns, and else before the call.
  abbrev pub before_call : Point → Option ℕ → Loc → List Want
  before_call at (Some entry) location =
      if changed entry location then wants_of entry returns location else want_at at location ∷ []
  before_call at None location = want_at at location ∷ []

  -- what follows from a location that is wanted after a statement: where the statement writes it, what it is made of
  -- is wanted before the statement
  abbrev pub before_stmt : Point → Stmt → Loc → List Want
  before_stmt at stmt location =
      if is_among (written_by stmt) location then wants_at at (makes_of stmt)
      else before_call at (callee_of stmt) location

  abbrev pub before_site : Point → Site → Loc → List Want
  before_site at (Executes stmt) location = before_stmt at stmt location
  before_site at site location = []

-- what follows from a location that is wanted where a block begins: it is wanted where those blocks end that lead
-- there
abbrev pub before_block : Program → List (List (List ℕ)) → ℕ → ℕ → Loc → List Want
before_block p preds place block location =
    map (λ b. want_at (point_at place b (length (block_in (graph_in p place) b).stmts)) location)
    (get_or (get_or preds place []) block [])

-- what follows from a location that is wanted at the entry of a graph, and passes: it is wanted at the graph's calls
abbrev pub before_entry : Program → List Port → ℕ → ℕ → Loc → List Want
before_entry p calls place block location =
    if (block == 0) && passes location then wants_of (graph_in p place).entry calls location else []

-- What the search rests on: the program, what is changed, and how control comes to the program's points.
pub record Setting : Type 0 where
  pub program : Program
  pub changed : ℕ → Loc → Bool
  pub preds : List (List (List ℕ))
  pub calls : List Port
  pub returns : List Port

module _ (s : Setting) where
  -- what follows from a location that is wanted before a point, by how many statements of the block are done
  abbrev pub before_point : ℕ → ℕ → ℕ → Loc → List Want
  before_point place block zero location =
      before_block s.program s.preds place block location ++ before_entry s.program s.calls place block location
  before_point place block (suc done) location =
      let at = point_at place block done in before_site s.changed s.returns at (site_in s.program at) location

  -- what follows from a location that is wanted
  abbrev pub followers : Want → List Want
  followers x = before_point x.at.graph x.at.block x.at.done x.location
