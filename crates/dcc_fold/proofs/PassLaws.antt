-- Which values may pass a step, by the nodes of their expressions.
use Rattle.std.proofs.Common.{◌≡◌, ℕ, Bool, true, false, ◌&&◌, ◌||◌, not, List, [], ◌∷◌, ◌++◌, flat_map, refl, sym, ap, ap₂, ◌∙◌}
use Rattle.std.specs.List.{list_any, list_all}
use Rattle.std.proofs.lemmas.List.Folds.{list_all-append}
use Rattle.dcc_ir.specs.declared.syntax.Loc.{Loc}
use Rattle.dcc_ir.specs.Joinable.{is_load}
use Rattle.dcc_ir.specs.Live.{is_among}
use Rattle.dcc_ir.specs.Tree.{Expr, Const, Get, Load, Unary, Binary, Widen, Part, Join, Choose, Address, Stmt, Set, Fetch, Store, Div, Call, Dos}
use Rattle.dcc_ir.specs.Use.{parts_of, got_by}
use Rattle.dcc_substitution.specs.Available.{is_address}
use Rattle.dcc_fold.specs.Chain.{Step, statement, edge}
use Rattle.dcc_fold.specs.Joinable.{lets_by}
use Rattle.dcc_fold.specs.Known.{places_of, is_store, is_edge, is_calling}

-- Truth values.

pub and-swap : (a b c d : Bool) → ((a && b) && (c && d)) ≡ ((a && c) && (b && d))
and-swap true true c d = refl
and-swap true false true d = refl
and-swap true false false d = refl
and-swap false b true d = refl
and-swap false b false d = refl

pub and-none : (a : Bool) → (a && false) ≡ false
and-none true = refl
and-none false = refl

pub and-all : (a : Bool) → (a && true) ≡ a
and-all true = refl
and-all false = refl

not-or : (a b : Bool) → not (a || b) ≡ (not a && not b)
not-or true b = refl
not-or false b = refl

-- a node of an expression may pass what writes the locations, and maybe the memory, or is an edge
abbrev pub lets_node : List Loc → Bool → Bool → Expr → Bool
lets_node places store crossing (Get location) = not (is_among places location)
lets_node places store crossing (Load width a) = not store && not crossing
lets_node places store crossing (Address distance) = not crossing
lets_node places store crossing _ = true

abbrev pub lets_parts : List Loc → Bool → Bool → Expr → Bool
lets_parts places store crossing e = list_all (lets_node places store crossing) (parts_of e)

by-places : (places : List Loc) (es : List Expr) → not (list_any (is_among places) (flat_map got_by es)) ≡ list_all (lets_node places false false) es
by-places places [] = refl
by-places places (Const width n ∷ es) = by-places places es
by-places places (Get l ∷ es) = not-or (is_among places l) (list_any (is_among places) (flat_map got_by es)) ∙ ap (λ b. not (is_among places l) && b) (by-places places es)
by-places places (Load width a ∷ es) = by-places places es
by-places places (Unary operator width a ∷ es) = by-places places es
by-places places (Binary operator width a b ∷ es) = by-places places es
by-places places (Widen signed width a ∷ es) = by-places places es
by-places places (Part width first a ∷ es) = by-places places es
by-places places (Join high low ∷ es) = by-places places es
by-places places (Choose test a b ∷ es) = by-places places es
by-places places (Address distance ∷ es) = by-places places es

by-store : (es : List Expr) → not (list_any is_load es) ≡ list_all (lets_node [] true false) es
by-store [] = refl
by-store (Const width n ∷ es) = by-store es
by-store (Get l ∷ es) = by-store es
by-store (Load width a ∷ es) = refl
by-store (Unary operator width a ∷ es) = by-store es
by-store (Binary operator width a b ∷ es) = by-store es
by-store (Widen signed width a ∷ es) = by-store es
by-store (Part width first a ∷ es) = by-store es
by-store (Join high low ∷ es) = by-store es
by-store (Choose test a b ∷ es) = by-store es
by-store (Address distance ∷ es) = by-store es

by-edge : (es : List Expr) → (not (list_any is_load es) && not (list_any is_address es)) ≡ list_all (lets_node [] false true) es
by-edge [] = refl
by-edge (Const width n ∷ es) = by-edge es
by-edge (Get l ∷ es) = by-edge es
by-edge (Load width a ∷ es) = refl
by-edge (Unary operator width a ∷ es) = by-edge es
by-edge (Binary operator width a b ∷ es) = by-edge es
by-edge (Widen signed width a ∷ es) = by-edge es
by-edge (Part width first a ∷ es) = by-edge es
by-edge (Join high low ∷ es) = by-edge es
by-edge (Choose test a b ∷ es) = by-edge es
by-edge (Address distance ∷ es) = and-none (not (list_any is_load es))

-- a value may pass a step that is no call where each of its nodes may
pub lets-nodes : (step : Step) (value : Expr) → is_calling step ≡ false → lets_by value step ≡ lets_parts (places_of step) (is_store step) (is_edge step) value
lets-nodes (statement (Set l e)) value plain = by-places (l ∷ []) (parts_of value)
lets-nodes (statement (Fetch l width a)) value plain = by-places (l ∷ []) (parts_of value)
lets-nodes (statement (Store width a e)) value plain = by-store (parts_of value)
lets-nodes (statement (Div l e)) value plain = by-places (l ∷ []) (parts_of value)
lets-nodes (statement (Call results entry arguments depth)) value plain = absurd (cc)
lets-nodes (statement (Dos number place argument)) value plain = absurd (cc)
lets-nodes edge value plain = by-edge (parts_of value)

pub lets-none : (step : Step) (value : Expr) → is_calling step ≡ true → lets_by value step ≡ false
lets-none (statement (Set l e)) value calls = absurd (cc)
lets-none (statement (Fetch l width a)) value calls = absurd (cc)
lets-none (statement (Store width a e)) value calls = absurd (cc)
lets-none (statement (Div l e)) value calls = absurd (cc)
lets-none (statement (Call results entry arguments depth)) value calls = refl
lets-none (statement (Dos number place argument)) value calls = refl
lets-none edge value calls = absurd (cc)
