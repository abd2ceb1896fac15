-- Well-formed graphs and programs.
use Rattle.std.specs.Prelude.{◌≡◌, ℕ, ◌+◌, ◌-◌, ◌^◌, ◌<◌, ◌==◌, nat_lt, nat_le, Bool, true, false, ◌&&◌, ◌||◌, not}
use Rattle.std.specs.Prelude.{List, [], ◌∷◌, length, map, take, drop, flat_map, All, Contains, if◌then◌else◌, Option}
use Rattle.std.specs.Prelude.{Some, None}
use Rattle.std.specs.List.{list_any, list_all}
use Rattle.dcc_ir.specs.declared.syntax.Loc.{Loc}
use Rattle.dcc_ir.specs.declared.syntax.Loc.TheVariants.{Temp}
use Rattle.dcc_ir.specs.declared.syntax.BinOp.{BinOp}
use Rattle.dcc_ir.specs.declared.syntax.BinOp.TheVariants.{DivS, DivU, RemS, RemU}
use Rattle.dcc_ir.specs.declared.syntax.Put.{Put}
use Rattle.dcc_ir.specs.declared.syntax.Put.TheVariants.{Memory, One, Two}
use Rattle.dcc_ir.specs.declared.syntax.Param.{Param}
use Rattle.dcc_ir.specs.Tree.{Expr, Const, Get, Load, Unary, Binary, Widen, Part, Join, Choose, Address, Stmt, Set}
use Rattle.dcc_ir.specs.Tree.{Fetch, Store, Div, Call, Dos, Exit, Goto, If, Switch, Ret, Stop, Block, Graph, Program}
use Rattle.dcc_ir.specs.Location.{location_width}
use Rattle.dcc_ir.specs.Value.{width_of}
use Rattle.dcc_ir.specs.Run.{is_call, graph_at}

-- Expressions.

abbrev pub is_width : ℕ → Bool
is_width width = width == 1 || width == 8 || width == 16 || width == 32

-- the width of a load, a store or a Div
abbrev pub is_stored_width : ℕ → Bool
is_stored_width width = width == 8 || width == 16 || width == 32

-- the location is one of the graph: the number of a temporary is below that of the temporaries
abbrev pub is_location : List ℕ → Loc → Bool
is_location bits (Temp n) = nat_lt n (length bits)
is_location bits _ = true

abbrev pub is_division : BinOp → Bool
is_division DivS = true
is_division DivU = true
is_division RemS = true
is_division RemU = true
is_division _ = false

abbrev pub is_signed_division : BinOp → Bool
is_signed_division DivS = true
is_signed_division RemS = true
is_signed_division _ = false

-- the divisor is a constant by which no division of the kind faults
abbrev pub divides_safely : BinOp → ℕ → Expr → Bool
divides_safely operator width (Const w n) = not (n == 0) && not (is_signed_division operator && (n == 2 ^ width - 1))
divides_safely operator width _ = false

-- the expression and its parts are well formed, where the temporaries have these widths
abbrev pub is_expr : List ℕ → Expr → Bool
is_expr bits (Const width n) = is_width width && nat_lt n (2 ^ width)
is_expr bits (Get location) = is_location bits location
is_expr bits (Load width address) = is_stored_width width && is_expr bits address && (width_of bits address == 16)
is_expr bits (Unary operator width a) = is_width width && is_expr bits a && (width_of bits a == width)
is_expr bits (Binary operator width a b) =
    is_width width && is_expr bits a && is_expr bits b && (width_of bits a == width) && (width_of bits b == width)
    && (not (is_division operator) || divides_safely operator width b)
is_expr bits (Widen signed width a) = is_width width && is_expr bits a && nat_lt (width_of bits a) width
is_expr bits (Part width first a) = is_width width && is_expr bits a && nat_le (first + width) (width_of bits a)
is_expr bits (Join high low) =
    is_expr bits high && is_expr bits low && (width_of bits high == width_of bits low)
    && (width_of bits low == 8 || width_of bits low == 16)
is_expr bits (Choose test a b) =
    is_expr bits test && is_expr bits a && is_expr bits b && (width_of bits test == 1)
    && (width_of bits a == width_of bits b)
is_expr bits (Address distance) = nat_lt distance 65536

-- a well-formed expression of that width
abbrev pub is_expr_of : List ℕ → ℕ → Expr → Bool
is_expr_of bits width e = is_expr bits e && (width_of bits e == width)

-- Statements.

-- the division of a Div: it may fault
abbrev pub is_dividing : List ℕ → ℕ → Expr → Bool
is_dividing bits width (Binary operator w a b) =
    is_division operator && (w == width) && is_stored_width width && is_expr_of bits width a && is_expr_of bits width b
is_dividing bits width _ = false

-- the place of a byte that a DOS call takes, where there is one
abbrev pub is_byte_place : List ℕ → Option Loc → Bool
is_byte_place bits None = true
is_byte_place bits (Some location) = is_location bits location && (location_width bits location == 8)

-- a DOS call has what its number asks: 02h and 4Ch take a byte, 09h takes an address, 01h and 08h give a byte
abbrev pub is_dos : List ℕ → ℕ → Option Loc → Option Expr → Bool
is_dos bits number None (Some e) =
    ((number == 0x02 || number == 0x4C) && is_expr_of bits 8 e) || ((number == 0x09) && is_expr_of bits 16 e)
is_dos bits number place None = (number == 0x01 || number == 0x08) && is_byte_place bits place
is_dos bits number (Some location) (Some e) = false

abbrev pub is_stmt : List ℕ → Stmt → Bool
is_stmt bits (Set location e) = is_location bits location && is_expr_of bits (location_width bits location) e
is_stmt bits (Fetch location width address) =
    is_location bits location && is_stored_width width && (location_width bits location == width)
    && is_expr_of bits 16 address
is_stmt bits (Store width address e) = is_stored_width width && is_expr_of bits 16 address && is_expr_of bits width e
is_stmt bits (Div location e) = is_location bits location && is_dividing bits (location_width bits location) e
is_stmt bits (Call results entry arguments depth) =
    list_all (is_location bits) results && list_all (is_expr bits) arguments && nat_lt depth 65536
is_stmt bits (Dos number place argument) = is_dos bits number place argument

-- the end of a block in a graph of the given number of blocks
abbrev pub is_exit : List ℕ → ℕ → Exit → Bool
is_exit bits count (Goto place) = nat_lt place count
is_exit bits count (If test one other) = is_expr_of bits 1 test && nat_lt one count && nat_lt other count
is_exit bits count (Switch e places) =
    is_expr_of bits 16 e && nat_le (length places) 65536 && list_all (λ place. nat_lt place count) places
is_exit bits count (Ret values) = list_all (is_expr bits) values
is_exit bits count Stop = true

abbrev pub is_block : List ℕ → ℕ → Block → Bool
is_block bits count block = list_all (is_stmt bits) block.stmts && is_exit bits count block.exit

-- the end of a block that leads to a block
abbrev pub is_jump : Exit → Bool
is_jump (Goto place) = true
is_jump (If test one other) = true
is_jump (Switch e places) = true
is_jump _ = false

-- after a Call the statements have no further Call, and the block ends in a jump
abbrev pub jumps_after_call : List Stmt → Exit → Bool
jumps_after_call [] exit = true
jumps_after_call (stmt ∷ stmts) exit =
    if is_call stmt then not (list_any is_call stmts) && is_jump exit else jumps_after_call stmts exit

-- Graphs.

abbrev pub is_put : List ℕ → Put → Bool
is_put bits Memory = true
is_put bits (One location) = is_location bits location
is_put bits (Two low high) =
    is_location bits low && is_location bits high && (location_width bits low == 8) && (location_width bits high == 8)

-- how many bits an argument has
abbrev pub put_width : List ℕ → Put → ℕ
put_width bits Memory = 16
put_width bits (One location) = location_width bits location
put_width bits (Two low high) = 16

-- no number stands twice in the list
abbrev pub all_differ : List ℕ → Bool
all_differ [] = true
all_differ (n ∷ ns) = not (list_any (λ m. n == m) ns) && all_differ ns

-- The graph has a block, its blocks have addresses of their own, and all widths and numbers agree. Its entry and the
-- addresses are offsets, and after a Call a block jumps.
pub record IsGraph (graph : Graph) : Type 0 where
  pub begins : 0 < length graph.blocks
  pub entry : graph.entry < 65536
  pub offsets : All (λ b. b.at < 65536) graph.blocks
  pub jumps : All (λ b. jumps_after_call b.stmts b.exit ≡ true) graph.blocks
  pub addresses : all_differ (map (λ b. b.at) graph.blocks) ≡ true
  pub bits : list_all is_width graph.bits ≡ true
  pub params : list_all (λ p. is_put graph.bits p.put) graph.params ≡ true
  pub blocks : list_all (is_block graph.bits (length graph.blocks)) graph.blocks ≡ true

-- Programs.

abbrev pub is_memory : Put → Bool
is_memory Memory = true
is_memory _ = false

-- the stack params come first and have 16 bits, and only they are in memory
abbrev pub is_param_list : List ℕ → List Param → Bool
is_param_list bits [] = true
is_param_list bits (p ∷ ps) =
    (if p.stack then put_width bits p.put == 16 else (not (is_memory p.put) && list_all (λ q. not q.stack) ps))
    && is_param_list bits ps

-- from the first param in memory on, each stack param is in memory
abbrev pub memory_params_last : List Param → Bool
memory_params_last [] = true
memory_params_last (p ∷ ps) =
    (not (is_memory p.put) || list_all (λ q. not q.stack || is_memory q.put) ps) && memory_params_last ps

-- the widths of the values that a block's end gives back, where it is a Ret
abbrev pub ret_widths : List ℕ → Exit → List (List ℕ)
ret_widths bits (Ret values) = map (width_of bits) values ∷ []
ret_widths bits _ = []

-- the widths of the values that the Rets of a graph give back
abbrev pub all_ret_widths : Graph → List (List ℕ)
all_ret_widths graph = flat_map (λ b. ret_widths graph.bits b.exit) graph.blocks

-- The call names a graph other than the first, its arguments have the widths of that graph's params, and what each
-- Ret there gives has the widths of the places of the results.
pub record IsCall (p : Program) (caller : Graph) (results : List Loc) (entry : ℕ) (arguments : List Expr) : Type 0 where
  pub callee : Graph
  pub named : graph_at (drop 1 p.graphs) entry ≡ Some callee
  pub taken : map (width_of caller.bits) arguments ≡ map (λ q. put_width callee.bits q.put) callee.params
  pub given : All (λ widths. widths ≡ map (location_width caller.bits) results) (all_ret_widths callee)

abbrev pub IsCalling : Program → Graph → Stmt → Type 0
IsCalling p caller (Call results entry arguments depth) = IsCall p caller results entry arguments
IsCalling p caller _ = Unit {0}

-- The image has bytes, and the stack lies between addresses. The program has a graph, its graphs are well formed and
-- have entries of their own; the first has no params and gives nothing back; the params in memory are the last ones on
-- the stack; all Rets of a graph give the same widths; each call agrees with its graph.
pub record IsProgram (p : Program) : Type 0 where
  pub image : All (λ byte. byte < 256) p.image
  pub lo : p.lo < 65536
  pub hi : p.hi < 65536
  pub begins : 0 < length p.graphs
  pub entries : all_differ (map (λ g. g.entry) p.graphs) ≡ true
  pub graphs : All IsGraph p.graphs
  pub params : All (λ g. is_param_list g.bits g.params ≡ true) p.graphs
  pub memory_last : All (λ g. memory_params_last g.params ≡ true) p.graphs
  pub start : All (λ g. g.params ≡ []) (take 1 p.graphs)
  pub start_rets : All (λ g. All (λ widths. widths ≡ []) (all_ret_widths g)) (take 1 p.graphs)
  pub rets : All (λ g. (a b : List ℕ) → Contains (all_ret_widths g) a → Contains (all_ret_widths g) b → a ≡ b) p.graphs
  pub calls : All (λ g. All (λ b. All (IsCalling p g) b.stmts) g.blocks) p.graphs
