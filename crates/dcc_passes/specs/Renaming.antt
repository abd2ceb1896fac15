-- Trees with other locations in them.
use Rattle.std.specs.Prelude.{List, map, flat_map, option_map}
use Rattle.dcc_ir.specs.declared.syntax.Loc.{Loc}
use Rattle.dcc_ir.specs.declared.syntax.Put.{Put}
use Rattle.dcc_ir.specs.declared.syntax.Put.TheVariants.{Memory, One, Two}
use Rattle.dcc_ir.specs.declared.syntax.Param.{Param}
use Rattle.dcc_ir.specs.Tree.{Expr, Const, Get, Load, Unary, Binary, Widen, Part, Join, Choose, Address, Stmt, Set}
use Rattle.dcc_ir.specs.Tree.{Fetch, Store, Div, Call, Dos, Exit, Goto, If, Switch, Ret, Stop}
use Rattle.dcc_ir.specs.Joinable.{places_of}

-- the expression with each location that it reads replaced
abbrev pub renamed : (Loc → Loc) → Expr → Expr
renamed name (Const width n) = Const width n
renamed name (Get location) = Get (name location)
renamed name (Load width a) = Load width (renamed name a)
renamed name (Unary operator width a) = Unary operator width (renamed name a)
renamed name (Binary operator width a b) = Binary operator width (renamed name a) (renamed name b)
renamed name (Widen signed width a) = Widen signed width (renamed name a)
renamed name (Part width first a) = Part width first (renamed name a)
renamed name (Join high low) = Join (renamed name high) (renamed name low)
renamed name (Choose test a b) = Choose (renamed name test) (renamed name a) (renamed name b)
renamed name (Address distance) = Address distance

-- the statement with each location that it reads replaced by the first function, and each that it writes by the second
abbrev pub renamed_stmt : (Loc → Loc) → (Loc → Loc) → Stmt → Stmt
renamed_stmt read written (Set location e) = Set (written location) (renamed read e)
renamed_stmt read written (Fetch location width address) = Fetch (written location) width (renamed read address)
renamed_stmt read written (Store width address e) = Store width (renamed read address) (renamed read e)
renamed_stmt read written (Div location e) = Div (written location) (renamed read e)
renamed_stmt read written (Call results entry arguments depth) =
    Call (map written results) entry (map (renamed read) arguments) depth
renamed_stmt read written (Dos number place argument) =
    Dos number (option_map written place) (option_map (renamed read) argument)

-- the end of a block with each location that it reads replaced
abbrev pub renamed_exit : (Loc → Loc) → Exit → Exit
renamed_exit name (Goto place) = Goto place
renamed_exit name (If test one other) = If (renamed name test) one other
renamed_exit name (Switch e places) = Switch (renamed name e) places
renamed_exit name (Ret values) = Ret (map (renamed name) values)
renamed_exit name Stop = Stop

-- the param with each location that takes its argument replaced
abbrev pub renamed_put : (Loc → Loc) → Put → Put
renamed_put name Memory = Memory
renamed_put name (One location) = One (name location)
renamed_put name (Two low high) = Two (name low) (name high)

abbrev pub renamed_param : (Loc → Loc) → Param → Param
renamed_param name p = record p { put = renamed_put name p.put }

-- the locations that take arguments
abbrev pub param_places : List Param → List Loc
param_places params = flat_map (λ p. places_of p.put) params
