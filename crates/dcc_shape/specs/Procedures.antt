-- What the shape of a text is told by: the graph of a procedure, whose nodes are its instructions.
use Rattle.std.specs.Prelude.{ℕ, ◌+◌, ◌==◌, Bool, true, false, if◌then◌else◌, List, [], ◌∷◌, map, filter}
use Rattle.std.specs.Prelude.{sum_by, count_by}
use Rattle.std.specs.List.{position_or_len}
use Rattle.dcc_machine.specs.declared.instr.Op.{Op}
use Rattle.dcc_machine.specs.declared.instr.Op.TheVariants.{Branch, Loop, LoopE, LoopNe, Jcxz, Table}
use Rattle.dcc_prog.specs.declared.procedure.Proc.{Proc}
use Rattle.dcc_flow.specs.Edges.{is_in, leads}
use Rattle.dcc_interval.specs.Intervals.{Interval}
use Rattle.dcc_interval.specs.Derived.{loop_headers}

-- The instructions of a procedure in the order of their addresses, each with the addresses of those that may come
-- next; the address of the one that runs first; and how many of them branch.
pub record Flow : Type 0 where
  pub nodes : List (ℕ × List ℕ)
  pub entry : ℕ
  pub branches : ℕ

-- a jump that goes on behind it too, or a jump through a table
abbrev pub is_branching : Op → Bool
is_branching (Branch condition to) = true
is_branching (Loop to) = true
is_branching (LoopE to) = true
is_branching (LoopNe to) = true
is_branching (Jcxz to) = true
is_branching (Table register from) = true
is_branching _ = false

-- the graph of a procedure
abbrev pub flow_of : Proc → Flow
flow_of proc = record {
  nodes = map (λ n. (n.0, n.1.succ.items)) proc.nodes.entries;
  entry = proc.entry;
  branches = count_by (λ n. is_branching n.1.instr.op) proc.nodes.entries;
}

-- the addresses of the instructions
abbrev pub addresses : Flow → List ℕ
addresses flow = map (λ n. n.0) flow.nodes

-- the place of an address among others
abbrev pub place_among : List ℕ → ℕ → ℕ
place_among others at = position_or_len (λ other. other == at) others

-- the place of the instruction at an address
abbrev pub place_at : Flow → ℕ → ℕ
place_at flow at = place_among (addresses flow) at

-- for each instruction the places of those that may come next
abbrev pub next_of : Flow → List (List ℕ)
next_of flow = map (λ n. map (place_at flow) n.1) flow.nodes

-- How many edges lead to an address. Two ways from one instruction are one edge. The way into the procedure is one.
abbrev pub edges_to : Flow → ℕ → ℕ
edges_to flow at = count_by (λ n. is_in n.1 at) flow.nodes + (if at == flow.entry then 1 else 0)

-- how many different numbers the list has
abbrev pub different : List ℕ → ℕ
different [] = 0
different (n ∷ ns) = different ns + (if is_in ns n then 0 else 1)

-- How many edges lead from instruction to instruction. Two ways from one instruction to one are one edge.
abbrev pub edges : Flow → ℕ
edges flow = sum_by (λ n. different n.1) flow.nodes

-- the addresses of the loop headers, by the derived sequence of the graph
abbrev pub headers : Flow → List (List Interval) → List ℕ
headers flow levels =
    filter (λ at. is_in (loop_headers (leads (next_of flow)) levels) (place_at flow at)) (addresses flow)
