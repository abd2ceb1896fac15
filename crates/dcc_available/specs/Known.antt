-- What a walk along a chain knows of temporaries. No public contract rests on it.
use Rattle.std.specs.Prelude.{◌≡◌, ℕ, nat_lt, nat_le, ◌==◌, Bool, true, false, ◌&&◌, not, if◌then◌else◌}
use Rattle.std.specs.Prelude.{List, [], ◌∷◌, ◌++◌, length, map, get_or, slice_get, slice_set, Some}
use Rattle.dcc_ir.specs.declared.syntax.Loc.{Loc}
use Rattle.dcc_ir.specs.declared.syntax.Loc.TheVariants.{Temp}
use Rattle.dcc_ir.specs.Tree.{Expr, Const, Get, Load, Unary, Binary, Widen, Part, Join, Choose, Address, Stmt}
use Rattle.dcc_ir.specs.Tree.{Store, Call, Dos}
use Rattle.dcc_ir.specs.Run.{is_call}
use Rattle.dcc_ir.specs.Use.{writes_of}
use Rattle.dcc_ir.specs.Views.{expr_of}
use Rattle.dcc_available.specs.declared.known.Fact.{Fact as FactOf}
use Rattle.dcc_available.specs.declared.known.Known.{Known as KnownOf}

-- an assignment: the number of its temporary, and the expression
pub record Fact : Type 0 where
  pub temporary : ℕ
  pub value : Expr

-- what was written, told by the number of facts before the write: each temporary, the memory, all but the locations
pub record Stamps : Type 0 where
  pub written : List ℕ
  pub stored : ℕ
  pub called : ℕ

-- the facts that a walk noted, in their order, and the number of those before the chain
pub record Known : Type 0 where
  pub facts : List Fact
  pub begun : ℕ
  pub stamps : Stamps

abbrev pub fact_of : FactOf → Fact
fact_of f = record { temporary = f.temporary; value = expr_of f.value }

abbrev pub stamps_of : KnownOf → Stamps
stamps_of k = record { written = k.written.items; stored = k.stored; called = k.called }

abbrev pub known_of : KnownOf → Known
known_of k = record { facts = map fact_of k.facts.items; begun = k.begun; stamps = stamps_of k }

-- nothing has written the temporary since the fact of that number
abbrev pub is_kept : List ℕ → ℕ → ℕ → Bool
is_kept written at temporary = nat_lt temporary (length written) && nat_le (get_or written temporary 0) at

-- it is another temporary than this one, which nothing has written since the fact of that number
abbrev pub is_kept_apart : List ℕ → ℕ → ℕ → Loc → Bool
is_kept_apart written at temporary (Temp other) = not (other == temporary) && is_kept written at other
is_kept_apart written at temporary _ = false

-- nothing has written what the expression, which the temporary took, reads since the fact of that number
abbrev pub is_still : Stamps → ℕ → ℕ → Expr → Bool
is_still stamps at temporary (Const width n) = true
is_still stamps at temporary (Get location) = is_kept_apart stamps.written at temporary location
is_still stamps at temporary (Load width a) = nat_le stamps.stored at && is_still stamps at temporary a
is_still stamps at temporary (Unary operator width a) = is_still stamps at temporary a
is_still stamps at temporary (Binary operator width a b) = is_still stamps at temporary a && is_still stamps at temporary b
is_still stamps at temporary (Widen signed width a) = is_still stamps at temporary a
is_still stamps at temporary (Part width first a) = is_still stamps at temporary a
is_still stamps at temporary (Join high low) = is_still stamps at temporary high && is_still stamps at temporary low
is_still stamps at temporary (Choose test a b) =
    is_still stamps at temporary test && is_still stamps at temporary a && is_still stamps at temporary b
is_still stamps at temporary (Address distance) = nat_le stamps.called at

-- the fact of that number is of the chain, and nothing has written its temporary or what it reads since
abbrev pub is_holding : Known → ℕ → Fact → Bool
is_holding known at fact =
    nat_le known.begun at && is_kept known.stamps.written at fact.temporary
    && is_still known.stamps at fact.temporary fact.value

-- a fact that holds tells that the location holds the value of the expression
pub record IsTold (known : Known) (location : Loc) (e : Expr) : Type 0 where
  pub at : ℕ
  pub fact : Fact
  pub noted : slice_get known.facts at ≡ Some fact
  pub place : location ≡ Temp fact.temporary
  pub value : e ≡ fact.value
  pub holding : is_holding known at fact ≡ true

-- the temporaries among the locations are written after so many facts
abbrev pub stamped : List Loc → ℕ → List ℕ → List ℕ
stamped [] now written = written
stamped (Temp n ∷ locations) now written = stamped locations now (slice_set written n now)
stamped (location ∷ locations) now written = stamped locations now written

-- what is known after locations were written
abbrev pub with_written : List Loc → Known → Known
with_written places known =
    record known { stamps = record known.stamps { written = stamped places (length known.facts) known.stamps.written } }

-- a value that reads the memory doesn't pass the statement
abbrev pub stops_loads : Stmt → Bool
stops_loads (Store width address e) = true
stops_loads (Call results entry arguments depth) = true
stops_loads (Dos number place argument) = true
stops_loads _ = false

-- what is known after what a statement writes
abbrev pub stamps_past : Stmt → ℕ → Stamps → Stamps
stamps_past stmt now stamps = record {
  written = stamped (writes_of stmt) now stamps.written;
  stored = if stops_loads stmt then now else stamps.stored;
  called = if is_call stmt then now else stamps.called;
}

abbrev pub past : Stmt → Known → Known
past stmt known = record known { stamps = stamps_past stmt (length known.facts) known.stamps }

-- what is known after a fact was noted
abbrev pub with_fact : Fact → Known → Known
with_fact fact known = record known { facts = known.facts ++ fact ∷ [] }
