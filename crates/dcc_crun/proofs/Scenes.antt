-- What operations read and write.
use Rattle.std.proofs.Common.{ℕ, List, [], sym, ◌∙◌}
use Rattle.std.specs.Prelude.{Option}
use Rattle.std.proofs.lemmas.List.{append-nil}
use Rattle.dcc_io.proofs.ToldLemmas.{append_told-nil, prepend_told-nil}
use Rattle.dcc_c.specs.Tree.{Tree}
use Rattle.dcc_c.specs.Run.{Continuation, State}
use Rattle.dcc_crun.specs.Doing.{Operation, IsQuiet, Does}

-- an operation that reads and writes nothing
pub does_quiet : (op done : Operation) (left taken : Option (List ℕ)) →
    ((tree : Tree) (points : ℕ → List Continuation) (s now : State) → op tree points s now → done tree points s now × IsQuiet s now) →
    Does op done left taken left taken
does_quiet op done left taken made = record {
  happened = [];
  took = sym (prepend_told-nil left);
  wrote = sym (append_told-nil taken);
  made = λ tree points s now is has.
      let one = made tree points s now is in
      (one.0, one.1.input ∙ has, one.1.events ∙ sym (append-nil s.events));
}
