-- The program in which what passes together is one value. Where both halves of a register are params, a word is one
-- param and one argument. A procedure that gives several locations back gives one value, of which each is a part: a
-- word where they are the halves of one register, else 32 bits, AX below DX.
use Rattle.std.specs.Prelude.{ℕ, ◌+◌, Bool, true, false, ◌||◌, if◌then◌else◌, List, [], ◌∷◌, ◌++◌, length, map}
use Rattle.std.specs.Prelude.{flat_map, Option, Some, None, option_map}
use Rattle.dcc_num.specs.declared.Reg.{Reg}
use Rattle.dcc_num.specs.declared.Reg.TheVariants.{Ax, Dx}
use Rattle.dcc_num.specs.declared.Half.TheVariants.{Low, High}
use Rattle.dcc_ir.specs.declared.syntax.Loc.{Loc}
use Rattle.dcc_ir.specs.declared.syntax.Loc.TheVariants.{Half, Temp}
use Rattle.dcc_ir.specs.declared.syntax.Put.{Put}
use Rattle.dcc_ir.specs.declared.syntax.Put.TheVariants.{One, Two}
use Rattle.dcc_ir.specs.declared.syntax.Param.{Param}
use Rattle.dcc_ir.specs.Tree.{Expr, Const, Get, Part, Join, Stmt, Set, Call, Exit, Ret, Block, Graph, Program}
use Rattle.dcc_ir.specs.Location.{same_location}
use Rattle.dcc_ir.specs.Use.{got_by}
use Rattle.dcc_ir.specs.Live.{is_among}
use Rattle.dcc_signatures.specs.declared.packing.Fresh.{Fresh}
use Rattle.dcc_signatures.specs.declared.packing.Packing.{Packing}
use Rattle.dcc_signatures.specs.declared.packing.Packing.TheVariants.{Apart, Word, Double}

-- the two locations are the low and the high half of one register
abbrev pub are_halves : Loc → Loc → Bool
are_halves low (Half r High) = same_location low (Half r Low)
are_halves low location = false

-- Neighbours that are one.

-- two elements before a list, or the one element that both together are
abbrev pub two_or_one : {A : Type 0} → A → A → List A → Option A → List A
two_or_one x y ys (Some z) = z ∷ ys
two_or_one x y ys None = x ∷ y ∷ ys

-- an element before a list, or one element made of it and the list's first
abbrev pub in_front : {A : Type 0} → (A → A → Option A) → A → List A → List A
in_front one x [] = x ∷ []
in_front one x (y ∷ ys) = two_or_one x y ys (one x y)

-- the list in which neighbours are one element where they may be
abbrev pub merged : {A : Type 0} → (A → A → Option A) → List A → List A
merged one [] = []
merged one (x ∷ xs) = in_front one x (merged one xs)

-- where a param goes that is the word of two halves
abbrev pub one_put : Put → Put → Option Put
one_put (One low) (One high) = if are_halves low high then Some (Two low high) else None
one_put put other = None

-- a param that is no word on the stack
abbrev pub param_with : Put → Param
param_with put = record { stack = false; put = put }

abbrev pub one_param : Param → Param → Option Param
one_param q r = if q.stack || r.stack then None else option_map param_with (one_put q.put r.put)

-- the word of two halves
abbrev pub word_of : Loc → Loc → Expr
word_of low high = Join (Get high) (Get low)

abbrev pub one_argument : Expr → Expr → Option Expr
one_argument (Get low) (Get high) = if are_halves low high then Some (word_of low high) else None
one_argument a b = None

-- What is given back.

-- how some locations are given back
abbrev pub packing_of : List Loc → Packing
packing_of [] = Apart
packing_of (location ∷ []) = Apart
packing_of (low ∷ high ∷ []) = if are_halves low high then Word low high else Double
packing_of (a ∷ b ∷ c ∷ locations) = Double

-- the bit at which a half begins in its register; `bit_of`: or in 32 bits, where DX stands above AX
abbrev pub bit_in_word : Loc → ℕ
bit_in_word (Half r High) = 8
bit_in_word location = 0

abbrev pub bit_of : Bool → Loc → ℕ
bit_of true (Half Dx h) = 16 + bit_in_word (Half Dx h)
bit_of double location = bit_in_word location

-- the value of the location where it is given back, else 0
abbrev pub given_or_zero : List Loc → Loc → Expr
given_or_zero given location = if is_among given location then Get location else Const 8 0

abbrev pub given_word : List Loc → Reg → Expr
given_word given r = Join (given_or_zero given (Half r High)) (given_or_zero given (Half r Low))

abbrev pub double_of : List Loc → Expr
double_of given = Join (given_word given Dx) (given_word given Ax)

-- the values of the locations, which are given back, as at most one
abbrev pub one_value : List Loc → List Expr → List Expr
one_value given values =
    elim (packing_of given) [
      | Apart ↦ values
      | Word low high ↦ word_of low high ∷ []
      | Double ↦ double_of given ∷ []
    ]

-- the place of the one value that a call gives: a temporary where that stands for several locations
abbrev pub value_places : Fresh → List Loc → List Loc
value_places fresh results =
    elim (packing_of results) [
      | Apart ↦ results
      | Word low high ↦ Temp fresh.word ∷ []
      | Double ↦ Temp fresh.double ∷ []
    ]

-- the location takes its part of a temporary
abbrev pub taking_part : ℕ → Bool → Loc → Stmt
taking_part temporary double location = Set location (Part 8 (bit_of double location) (Get (Temp temporary)))

-- the locations take their parts after the call
abbrev pub taking_parts : Fresh → List Loc → List Stmt
taking_parts fresh results =
    elim (packing_of results) [
      | Apart ↦ []
      | Word low high ↦ map (taking_part fresh.word false) results
      | Double ↦ map (taking_part fresh.double true) results
    ]

-- The program.

abbrev pub pack_stmt : Fresh → Stmt → List Stmt
pack_stmt fresh (Call results entry arguments depth) =
    Call (value_places fresh results) entry (merged one_argument arguments) depth ∷ taking_parts fresh results
pack_stmt fresh stmt = stmt ∷ []

-- a Ret gives what locations hold
abbrev pub pack_exit : Exit → Exit
pack_exit (Ret values) = Ret (one_value (flat_map got_by values) values)
pack_exit exit = exit

abbrev pub pack_block : Fresh → Block → Block
pack_block fresh b = record b { stmts = flat_map (pack_stmt fresh) b.stmts; exit = pack_exit b.exit }

-- the two temporaries after those of the given widths
abbrev pub fresh_after : List ℕ → Fresh
fresh_after bits = record { word = length bits; double = length bits + 1 }

-- the graph has two temporaries more, of 16 and of 32 bits
abbrev pub pack_graph : Graph → Graph
pack_graph g = record g {
  params = merged one_param g.params;
  blocks = map (pack_block (fresh_after g.bits)) g.blocks;
  bits = g.bits ++ 16 ∷ 32 ∷ [];
}

abbrev pub packed : Program → Program
packed p = record p { graphs = map pack_graph p.graphs }
