-- The successors so far are noted.
use Rattle.std.proofs.Common.{◌≡◌, ℕ, List, ◌++◌, length, take, get_or}
use Rattle.dcc_lift.specs.declared.edges.Incoming.TheVariants.{Nowhere}
use Rattle.dcc_lift.specs.Incoming.{incoming_of}
use Rattle.dcc_lift.proofs.IncomingLaws.{noted}
use Rattle.dcc_lift.proofs.edges.note.Given as goal

abbrev pub invariant-loop-to : goal.invariant-loop-to
invariant-loop-to l = record {
  len : length l.table ≡ 65536;
  told : (to : ℕ) (edges : List ℕ) → get_or l.initial.table to Nowhere ≡ incoming_of edges
      → get_or l.table to Nowhere ≡ incoming_of (edges ++ noted l.from to (take l.to-index l.successors));
}
