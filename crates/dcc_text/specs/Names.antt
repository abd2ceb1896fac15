-- The names that a text reads.
use Rattle.std.specs.Prelude.{List, [], ◌∷◌, ◌++◌, Option, Some, None}
use Rattle.dcc_ir.specs.Tree as inner
use Rattle.dcc_c.specs.Tree.{Word, Expr, Number, Name, Unary, Binary, Conditional, Cast}
use Rattle.dcc_text.specs.Spelling.{Placed, Spelling}

-- the names in an expression of a text, in their order
abbrev pub names_in : Expr → List Word
names_in (Number n base) = []
names_in (Name name) = name ∷ []
names_in (Unary operator a) = names_in a
names_in (Binary operator a b) = names_in a ++ names_in b
names_in (Conditional a b c) = names_in a ++ (names_in b ++ names_in c)
names_in (Cast type a) = names_in a

-- the name by which an address in the frame stands
abbrev pub place_name : Option Placed → List Word
place_name (Some p) = p.name ∷ []
place_name None = []

-- the names of what an expression of a graph reads, in their order
abbrev pub read_names : Spelling → inner.Expr → List Word
read_names s (inner.Const width n) = []
read_names s (inner.Get location) = s.name location ∷ []
read_names s (inner.Load width address) = read_names s address
read_names s (inner.Unary operator width a) = read_names s a
read_names s (inner.Binary operator width a b) = read_names s a ++ read_names s b
read_names s (inner.Widen signed width a) = read_names s a
read_names s (inner.Part width first a) = read_names s a
read_names s (inner.Join high low) = read_names s high ++ read_names s low
read_names s (inner.Choose test a b) = read_names s test ++ (read_names s a ++ read_names s b)
read_names s (inner.Address distance) = place_name (s.place distance)
