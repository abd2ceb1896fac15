-- What the code knows of a procedure, and what it finds of a text. No public contract rests on it.
use Rattle.std.specs.Prelude.{◌≡◌, ℕ, ◌+◌, ◌==◌, nat_lt, nat_le, Bool, ◌&&◌, ◌||◌, not, if◌then◌else◌, List}
use Rattle.std.specs.Prelude.{map, length, count_by, Some}
use Rattle.std.specs.List.{list_all}
use Rattle.dcc_c.specs.Tree.{Word}
use Rattle.dcc_c.specs.Views.{stmt_of}
use Rattle.dcc_prog.specs.declared.procedure.Node.{Node}
use Rattle.dcc_flow.specs.Edges.{leads}
use Rattle.dcc_interval.specs.Intervals.{Interval}
use Rattle.dcc_interval.specs.Derived.{IsDerived, ends_in_one}
use Rattle.dcc_shape.specs.declared.points.Point.{Point}
use Rattle.dcc_shape.specs.declared.asked.Asked.{Asked}
use Rattle.dcc_shape.specs.declared.seen.Seen.{Seen as SeenOf}
use Rattle.dcc_shape.specs.Procedures.{Flow, addresses, is_branching, place_at, next_of, edges_to, edges, headers}
use Rattle.dcc_shape.specs.Spots.{has_blocks, goal_passes}
use Rattle.dcc_shape.specs.Shape.{is_label, is_jump, is_empty, names_one, is_labelled, is_loop_at}
use Rattle.dcc_shape.specs.Seen.{lent, seen_in, may_all_go}

-- an instruction: its address with those of the instructions that may come next, and whether it branches
abbrev pub point_in : Point → (ℕ × List ℕ) × Bool
point_in p = ((p.at, p.next.items), p.branches)

abbrev pub point_of : ℕ × Node → (ℕ × List ℕ) × Bool
point_of n = ((n.0, n.1.succ.items), is_branching n.1.instr.op)

-- how many edges lead to an address, the way into the procedure among them
abbrev pub edges_at : Asked → ℕ → ℕ
edges_at a at = count_by (λ end. end == at) a.edges.items + (if a.entry == at then 1 else 0)

-- The code has what is asked of the graph: the addresses of its instructions, how many of them branch, the addresses
-- that edges lead to, its loop headers, and whether its derived sequence ends in one node.
pub record IsAsked (flow : Flow) (a : Asked) : Type 0 where
  pub ats : a.ats.items ≡ addresses flow
  pub branches : a.branches ≡ flow.branches
  pub edges_count : length a.edges.items ≡ edges flow
  pub edges_lead : (at : ℕ) → edges_at a at ≡ edges_to flow at
  pub levels : List (List Interval)
  pub derived : IsDerived (leads (next_of flow)) (place_at flow flow.entry) levels
  pub heads : a.heads.items ≡ headers flow levels
  pub one : a.ends_in_one ≡ ends_in_one levels

-- there are no more statements of each kind than asked
abbrev pub are_counted : Asked → List SeenOf → Bool
are_counted a list =
    nat_le (count_by (λ s. has_blocks (stmt_of s.stmt.now)) list) (a.branches + length a.heads.items)
    && (nat_le (count_by (λ s. is_label (stmt_of s.stmt.now)) list) (length a.ats.items)
    && (nat_le (count_by (λ s. is_jump (stmt_of s.stmt.now)) list) (length a.edges.items + length a.heads.items)
    && nat_le (count_by (λ s. is_empty (stmt_of s.stmt.now)) list)
    (count_by (λ s. is_label (stmt_of s.stmt.now)) list)))

-- something is asked of jumps and loops
abbrev pub is_shallow : Asked → List SeenOf → Bool
is_shallow a list =
    nat_lt (a.branches + length a.heads.items) 190
    || list_all (λ s. not (has_blocks (stmt_of s.stmt.now)) || nat_lt 0 s.room) list

-- the label is that of an instruction to which at least two edges lead
abbrev pub is_of_meeting : Asked → Word → Bool
is_of_meeting a word = names_one (λ at. nat_le 2 (edges_at a at)) a.ats.items (Some word)

-- each `goto` goes to an instruction to which at least two edges lead
abbrev pub goes_where_edges_meet : Asked → List SeenOf → Bool
goes_where_edges_meet a list = list_all (λ s. goal_passes (is_of_meeting a) (stmt_of s.stmt.now)) list

-- each loop has the label of one of these addresses directly before it
abbrev pub loops_are_labelled : List ℕ → List SeenOf → Bool
loops_are_labelled heads list = list_all (λ s. is_labelled heads (stmt_of s.stmt.now) (lent s.label)) list

-- each of these addresses labels just one loop
abbrev pub each_labels_one : List ℕ → List SeenOf → Bool
each_labels_one heads list =
    list_all (λ at. count_by (λ s. is_loop_at at (stmt_of s.stmt.now) (lent s.label)) list == 1) heads

-- jumps and loops are as asked
abbrev pub are_looped : Asked → List SeenOf → Bool
are_looped a list =
    goes_where_edges_meet a list
    && (list_all (λ s. s.spares_own) list
    && ((not a.ends_in_one || may_all_go (map seen_in list))
    && (loops_are_labelled a.heads.items list && each_labels_one a.heads.items list)))

-- all is as asked
abbrev pub is_as_asked : Asked → List SeenOf → Bool
is_as_asked a list = are_counted a list && (not (is_shallow a list) || are_looped a list)
