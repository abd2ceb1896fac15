-- What a walk along a chain knows of temporaries. No public contract rests on it.
use Rattle.std.specs.Prelude.{◌≡◌, ℕ, ◌≤◌, nat_le, ◌==◌, Bool, true, false, ◌&&◌, if◌then◌else◌}
use Rattle.std.specs.Prelude.{List, [], ◌∷◌, ◌++◌, length, map, get_or, slice_get, Option, Some, None}
use Rattle.dcc_ir.specs.declared.syntax.Loc.{Loc}
use Rattle.dcc_ir.specs.declared.syntax.Loc.TheVariants.{Temp}
use Rattle.dcc_ir.specs.Tree.{Expr, Const, Get, Load, Unary, Binary, Widen, Part, Join, Choose, Address, Stmt, Set, Fetch}
use Rattle.dcc_ir.specs.Tree.{Store, Div, Call, Dos}
use Rattle.dcc_ir.specs.Location.{same_location}
use Rattle.dcc_ir.specs.Live.{is_among}
use Rattle.dcc_ir.specs.Views.{expr_of}
use Rattle.dcc_flow.specs.Marks.{location_number}
use Rattle.dcc_fold.specs.Chain.{Step, statement, edge}
use Rattle.dcc_fold.specs.declared.known.Fact.{Fact as FactOf}
use Rattle.dcc_fold.specs.declared.known.Known.{Known as KnownOf}

-- a temporary was set to the value
pub record Fact : Type 0 where
  pub temporary : ℕ
  pub value : Expr

-- the facts, and what was passed last, told by the number of facts before it
pub record Known : Type 0 where
  pub facts : List Fact
  pub written : List ℕ
  pub stored : ℕ
  pub crossed : ℕ
  pub called : ℕ

abbrev pub fact_of : FactOf → Fact
fact_of f = record { temporary = f.temporary; value = expr_of f.value.now }

abbrev pub known_of : KnownOf → Known
known_of k = record {
  facts = map fact_of k.facts.items;
  written = k.written.items;
  stored = k.stored;
  crossed = k.crossed;
  called = k.called;
}

-- when the location was written last
abbrev pub stamp : Known → Loc → ℕ
stamp known location = get_or known.written (location_number location) 0

-- nothing of what the expression reads was written since the fact of that number
abbrev pub is_still : Known → ℕ → Expr → Bool
is_still known at (Const width n) = true
is_still known at (Get location) = nat_le (stamp known location) at
is_still known at (Load width a) = nat_le known.stored at && nat_le known.crossed at && is_still known at a
is_still known at (Unary operator width a) = is_still known at a
is_still known at (Binary operator width a b) = is_still known at a && is_still known at b
is_still known at (Widen signed width a) = is_still known at a
is_still known at (Part width first a) = is_still known at a
is_still known at (Join high low) = is_still known at high && is_still known at low
is_still known at (Choose test a b) = is_still known at test && is_still known at a && is_still known at b
is_still known at (Address distance) = nat_le known.crossed at

-- the value of the fact of that number, where it is of the temporary and may pass what was passed since
abbrev pub told_by : Known → ℕ → ℕ → Option Fact → Option Expr
told_by known temporary at (Some fact) =
    if (fact.temporary == temporary) && nat_le known.called at && is_still known at fact.value then Some fact.value
    else None
told_by known temporary at None = None

-- the value that the temporary was set to, where it may pass all that was passed since
abbrev pub told : Known → ℕ → Option Expr
told known temporary =
    let at = stamp known (Temp temporary) in
    told_by known temporary at (slice_get known.facts at)

pub record IsEmpty (known : Known) : Type 0 where
  pub facts : known.facts ≡ []
  pub written : (n : ℕ) → get_or known.written n 0 ≡ 0
  pub stored : known.stored ≡ 0
  pub crossed : known.crossed ≡ 0
  pub called : known.called ≡ 0

-- at the begin of a chain
abbrev pub is_begun : Known → Known
is_begun known = record known { called = length known.facts }

-- the location was written
pub record IsWritten (location : Loc) (known new : Known) : Type 0 where
  pub rest : new ≡ record known { written = new.written }
  pub stamps : (other : Loc) → stamp new other
      ≡ (if is_among (location ∷ []) other then length known.facts else stamp known other)

-- the facts that a step adds
abbrev pub facts_of : Step → List Fact
facts_of (statement (Set (Temp n) value)) = record { temporary = n; value = value } ∷ []
facts_of step = []

-- the locations that a step writes, but for a Call and a Dos
abbrev pub places_of : Step → List Loc
places_of (statement (Set location e)) = location ∷ []
places_of (statement (Fetch location width address)) = location ∷ []
places_of (statement (Div location e)) = location ∷ []
places_of step = []

abbrev pub is_store : Step → Bool
is_store (statement (Store width address e)) = true
is_store step = false

abbrev pub is_edge : Step → Bool
is_edge edge = true
is_edge step = false

abbrev pub is_calling : Step → Bool
is_calling (statement (Call results entry arguments depth)) = true
is_calling (statement (Dos number place argument)) = true
is_calling step = false

-- what is known after a step
pub record IsAfter (step : Step) (known new : Known) : Type 0 where
  pub facts : new.facts ≡ known.facts ++ facts_of step
  pub stamps : (location : Loc) → stamp new location
      ≡ (if is_among (places_of step) location then length known.facts else stamp known location)
  pub stored : new.stored ≡ (if is_store step then length known.facts else known.stored)
  pub crossed : new.crossed ≡ (if is_edge step then length known.facts else known.crossed)
  pub called : new.called ≡ (if is_calling step then length known.facts else known.called)

-- all that was passed was so after some of the facts
pub record IsBounded (known : Known) : Type 0 where
  pub stamps : (location : Loc) → stamp known location ≤ length known.facts
  pub stored : known.stored ≤ length known.facts
  pub crossed : known.crossed ≤ length known.facts
  pub called : known.called ≤ length known.facts
