use Rattle.dcc_machine.specs.declared.cpu.Cpu.{Cpu}
use Rattle.dcc_c.specs.Tree.{Tree}
use Rattle.dcc_map.specs.Agreed.{Lists, AreWhole, HaveCommon}
use Rattle.dcc_map.proofs.comparing.first_difference.Given as goal

abbrev pub invariant-loop-count : goal.invariant-loop-count
invariant-loop-count l =
    (cpu : Cpu) (tree : Tree) (lists : Lists) → AreWhole cpu tree l.initial.machine l.initial.text l.initial.tally lists
    → HaveCommon cpu tree l.machine l.text l.tally lists l._count
