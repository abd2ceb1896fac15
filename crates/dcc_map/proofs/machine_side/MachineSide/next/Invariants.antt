use Rattle.std.proofs.Common.{◌≡◌, List, []}
use Rattle.dcc_run.specs.End.{End as RunEnd}
use Rattle.dcc_machine.specs.declared.cpu.Cpu.{Cpu}
use Rattle.dcc_step.specs.Stepped.{machine}
use Rattle.dcc_map.specs.Placed.{Placed}
use Rattle.dcc_map.specs.Compared.{address_of}
use Rattle.dcc_map.specs.Side.{Coming, machine_side}
use Rattle.dcc_map.proofs.machine_side.MachineSide.next.Given as goal

abbrev pub invariant-steps : goal.invariant-steps
invariant-steps l = record {
  comes : (cpu : Cpu) (coming : List Placed) (end : RunEnd) → Coming machine address_of cpu (machine_side l.initial.self) coming end
      → Coming machine address_of cpu (machine_side l.self) coming end;
  unwritten : l.self.pending.items ≡ [] → l.out.taken ≡ [];
}

abbrev pub decreases-steps : goal.decreases-steps
decreases-steps l = l.self.steps
